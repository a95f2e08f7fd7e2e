use Rattle.std.proofs.Common.{ℕ, [], ◌∷◌, refl, sym, subst}
use Rattle.std.specs.List.{All}
use Rattle.std.proofs.lemmas.List.Elements.{All-append, All-cons, All-nil}
use Rattle.spec_format.specs.Address.{block_word}
use Rattle.blk_audit.specs.Records.{IsSaidBy}
use Rattle.blk_audit.specs.declared.records.ReadRecord.{ReadRecord}
use Rattle.blk_audit.specs.declared.record_files.Placed.{Placed}
use Rattle.blk_audit.proofs.PiecesOfRecords.{said_block}
use Rattle.blk_audit.proofs.record_files.Records.add.Goals as goal

pub returns : goal.returns
returns c image small inside is are =
    let P : Placed → Type 0 = λ p. IsSaidBy image p.first p.said in
    let said : IsSaidBy image c.of_blocks-first.result c.record_of_bytes-said.result =
    subst (λ (w : ℕ). IsSaidBy image w c.record_of_bytes-said.result) (sym c.of_blocks-first.ensures)
    (subst (λ (s : ReadRecord). IsSaidBy image (block_word 2 c.args.file c.args.start 1) s) (sym c.record_of_bytes-said.ensures)
    (said_block image c.args.file c.args.start _ c.args.bytes.now c.ranges.file.fits c.requires.small refl c.requires.size small inside is)) in
    subst (All P) (sym c.in_ok-push.ensures.items)
    (All-append P c.args.self.now.placed.items (record { first = c.of_blocks-first.result; said = c.record_of_bytes-said.result } ∷ []) are
    (All-cons P (record { first = c.of_blocks-first.result; said = c.record_of_bytes-said.result }) [] said (All-nil P)))
