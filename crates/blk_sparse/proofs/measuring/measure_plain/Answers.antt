use Rattle.std.proofs.Common.{◌≡◌, ◌∙◌, sym, subst, arith, None, ℕ}
use Rattle.std.specs.Int.{cast_unsigned, w64}
use Rattle.std.proofs.lemmas.Int.{of_z-to_z}
use Rattle.spec_image.proofs.Runs.{some_inj}
use Rattle.blk_io.proofs.Carried.{carried}
use Rattle.blk_sparse.specs.Children.{HasParentKey}
use Rattle.blk_sparse.specs.Measuring.{IsMeasured}
use Rattle.blk_sparse.specs.SparseObjects.{with_signature}
use Rattle.blk_sparse.proofs.MeasuredParts.{plain-key, plain-key-same, plain-parts}
use Rattle.blk_sparse.proofs.measuring.measure_plain.Goals as goal

pub returns-in_err-len-clause-untold : goal.returns-in_err-len-clause-untold
returns-in_err-len-clause-untold g c from there state layout unlinked number object node p =
    carried c.read_key.result c.from_residual.result c.in_err-len.field-0.0 (λ _. (g.F.Folder.told c.args.folder.now).files ≡ None) c.in_err-len.was c.from_residual.ensures.1
    (c.read_key.ensures.untold (λ image is. (c.requires.is_open image is).agrees) (λ image is. (object.key, subst (HasParentKey c.args.entry object.key) (some_inj (sym there ∙ is)) (plain-key state layout unlinked number object node c.args.entry from p))))

pub returns-clause-measured : goal.returns-clause-measured
returns-clause-measured g c from there state layout unlinked number object node p =
    let sig = of_z-to_z w64 (cast_unsigned w64 c.args.signature) (let small = c.requires.signature in omega (arith, small)) in
    let same = plain-key-same state layout unlinked number object node c.args.entry from p c.in_ok-len.len c.read_key.new.name c.split_at_mut-key.result.0.now c.split_at_mut-key.ensures.front c.in_ok-len.ensures.short (c.in_ok-len.ensures.key from there) in
    subst (λ (s : ℕ). IsMeasured layout (with_signature object (cast_unsigned w64 c.args.signature)) s c.args.offset c.args.count c.measure_made.result) sig
    (c.measure_made.ensures.measured layout (with_signature object (cast_unsigned w64 c.args.signature)) same (plain-parts state layout unlinked number object node c.args.entry from p))
