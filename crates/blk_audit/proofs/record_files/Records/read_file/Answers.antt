use Rattle.std.proofs.Common.{◌≡◌, ◌+◌, ◌-◌, ◌*◌, true, ap, sym, ◌∙◌, arith}
use Rattle.spec_format.specs.Address.{block_word}
use Rattle.blk_disk.specs.Tables.{stands_among}
use Rattle.blk_lru.proofs.Conditions.{told_now}
use Rattle.blk_audit.proofs.Carrying.{carried}
use Rattle.blk_audit.proofs.PiecesOfRecords.{piece_there}
use Rattle.blk_audit.proofs.record_files.Records.read_file.Goals as goal

pub returns-in_err-read_piece-clause-untold : goal.returns-in_err-read_piece-clause-untold
returns-in_err-read_piece-clause-untold g c agrees =
    let stands : stands_among c.args.files.now (block_word 2 c.args.file (c.loop-piece.piece * 128 + 128 - 1) 1) ≡ true =
    sym (c.stands.ensures.among ∙ ap (stands_among c.args.files.now) c.of_blocks-last.ensures) ∙ c.if-not-stands.false in
    carried c.read_piece.result c.from_residual.result c.in_err-read_piece.field-0.0 _ c.in_err-read_piece.was c.from_residual.ensures.1
    (c.read_piece.ensures.untold (λ image there.
    piece_there c.args.files.now image c.args.file (c.loop-piece.piece * 128) (agrees image there) c.ranges.file.fits (omega (arith, c.loop-piece-test.true)) stands))

pub loop-piece-preserved : goal.loop-piece-preserved
loop-piece-preserved g c = record {
  records = λ image there before. c.in_ok-read_piece.ensures.records image (told_now image c.loop-piece.invariant.stays there) (c.loop-piece.invariant.records image there before);
  stays = c.in_ok-read_piece.ensures.reads.stays ∙ c.loop-piece.invariant.stays;
  later = omega (arith, c.in_ok-read_piece.ensures.reads.later, c.loop-piece.invariant.later);
}
