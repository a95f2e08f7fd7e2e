use Rattle.std.proofs.Common.{◌≡◌, ◌+◌, ℕ, None, length, take, drop, length-take, arith, subst}
use Rattle.spec_image.specs.Footprint.{SameOutside}
use Rattle.blk_io.proofs.Carried.{carried, if_damaged_weaker}
use Rattle.blk_stream.specs.Copying.{IsCutPrefix, span_of}
use Rattle.blk_stream.proofs.PlacesLeft.{told_back}
use Rattle.std.proofs.lemmas.List.{length-append, length-drop}
use Rattle.blk_stream.proofs.Copies.{HasCopied, next_copied, piece_passes, there_still}
use Rattle.blk_stream.proofs.copying.copy.Goals as goal

pub copy_piece-requires-clause-to_there : goal.copy_piece-requires-clause-to_there
copy_piece-requires-clause-to_there g c =
    let n : length (take c.min-n.result c.loop-at.buffer) ≡ c.min-n.result = omega (arith, length-take c.min-n.result c.loop-at.buffer, c.loop-at.invariant.long, c.min-n.ensures) in
    let low = c.loop-at.invariant.has.low in
    there_still c.args.files.now c.args.from c.args.to c.args.start c.args.end c.requires.from_inside c.requires.to_inside (omega (arith, low, c.loop-at-test.true)) (g.F.Folder.told c.args.folder.now) (g.F.Folder.told c.loop-at.folder) c.loop-at.at (length (take c.min-n.result c.loop-at.buffer))
    (omega (arith, n, c.min-n.ensures, c.loop-at-test.true)) c.loop-at.invariant.has c.requires.to_there c.args.to c.requires.to_there c.loop-at.at (omega (arith, n, c.min-n.ensures, c.loop-at-test.true))

pub returns-in_err-copy_piece-clause-stops : goal.returns-in_err-copy_piece-clause-stops
returns-in_err-copy_piece-clause-stops g c =
    let n : length (take c.min-n.result c.loop-at.buffer) ≡ c.min-n.result = omega (arith, length-take c.min-n.result c.loop-at.buffer, c.loop-at.invariant.long, c.min-n.ensures) in
    let low = c.loop-at.invariant.has.low in
    piece_passes c.args.files.now c.args.from c.args.to c.args.start c.args.end c.requires.from_inside c.requires.to_inside (omega (arith, low, c.loop-at-test.true)) (g.F.Folder.told c.args.folder.now) (g.F.Folder.told c.loop-at.folder) c.loop-at.at (length (take c.min-n.result c.loop-at.buffer))
    (omega (arith, n, c.min-n.ensures, c.loop-at-test.true)) c.loop-at.invariant.has c.requires.to_there (g.F.Folder.told c.copy_piece.new.folder) c.copy_piece.ensures.prefix.made

pub returns-in_err-copy_piece-clause-untold : goal.returns-in_err-copy_piece-clause-untold
returns-in_err-copy_piece-clause-untold g c from_there =
    let n : length (take c.min-n.result c.loop-at.buffer) ≡ c.min-n.result = omega (arith, length-take c.min-n.result c.loop-at.buffer, c.loop-at.invariant.long, c.min-n.ensures) in
    let low = c.loop-at.invariant.has.low in
    carried c.copy_piece.result c.from_residual.result c.in_err-copy_piece.field-0.0 (λ _. (g.F.Folder.told c.args.folder.now).files ≡ None) c.in_err-copy_piece.was c.from_residual.ensures.1
    (if_damaged_weaker c.copy_piece.result _ _ (λ damage none. told_back (g.F.Folder.told c.args.folder.now) (g.F.Folder.told c.loop-at.folder) (λ from. SameOutside (span_of c.args.to c.args.start c.args.end) from) c.loop-at.invariant.has.passes none)
    (c.copy_piece.ensures.untold
    (there_still c.args.files.now c.args.from c.args.to c.args.start c.args.end c.requires.from_inside c.requires.to_inside (omega (arith, low, c.loop-at-test.true)) (g.F.Folder.told c.args.folder.now) (g.F.Folder.told c.loop-at.folder) c.loop-at.at (length (take c.min-n.result c.loop-at.buffer))
    (omega (arith, n, c.min-n.ensures, c.loop-at-test.true)) c.loop-at.invariant.has c.requires.to_there c.args.from from_there c.loop-at.at (omega (arith, n, c.min-n.ensures, c.loop-at-test.true)))))

pub returns-in_err-copy_piece-clause-damaged : goal.returns-in_err-copy_piece-clause-damaged
returns-in_err-copy_piece-clause-damaged g c =
    let n : length (take c.min-n.result c.loop-at.buffer) ≡ c.min-n.result = omega (arith, length-take c.min-n.result c.loop-at.buffer, c.loop-at.invariant.long, c.min-n.ensures) in
    carried c.copy_piece.result c.from_residual.result c.in_err-copy_piece.field-0.0 (IsCutPrefix (g.F.Folder.told c.copy_piece.new.folder) c.args.from c.args.end) c.in_err-copy_piece.was c.from_residual.ensures.1
    (if_damaged_weaker c.copy_piece.result _ _
    (λ damage cut. record { at = c.loop-at.at; count = length (take c.min-n.result c.loop-at.buffer); within = omega (arith, n, c.min-n.ensures, c.loop-at-test.true); cut = cut })
    c.copy_piece.ensures.damaged)

pub loop-at-preserved : goal.loop-at-preserved
loop-at-preserved g c =
    let n : length (take c.min-n.result c.loop-at.buffer) ≡ c.min-n.result = omega (arith, length-take c.min-n.result c.loop-at.buffer, c.loop-at.invariant.long, c.min-n.ensures) in
    let low = c.loop-at.invariant.has.low in
    let one = c.loop-at.invariant.later in
    let other = c.copy_piece.ensures.later in
    let long = c.copy_piece.ensures.long in
    let rest = length-drop c.min-n.result c.loop-at.buffer in
    let all = length-append c.copy_piece.new.piece (drop c.min-n.result c.loop-at.buffer) in
    let size = c.loop-at.invariant.long in
    record {
      has = subst (λ (k : ℕ). HasCopied (g.F.Folder.told c.args.folder.now) (g.F.Folder.told c.copy_piece.new.folder) c.args.files.now c.args.from c.args.to c.args.start c.args.end (c.loop-at.at + k)) n
          (next_copied c.args.files.now c.args.from c.args.to c.args.start c.args.end c.requires.from_inside c.requires.to_inside (omega (arith, low, c.loop-at-test.true)) (g.F.Folder.told c.args.folder.now) (g.F.Folder.told c.loop-at.folder) c.loop-at.at (length (take c.min-n.result c.loop-at.buffer))
          (omega (arith, n, c.min-n.ensures, c.loop-at-test.true)) c.loop-at.invariant.has c.requires.to_there (g.F.Folder.told c.copy_piece.new.folder) c.in_ok-copy_piece.ensures.steps c.copy_piece.ensures.agrees c.copy_piece.ensures.prefix.silent);
      long = omega (arith, long, rest, all, size, n);
      later = omega (arith, one, other);
    }
