use Rattle.std.proofs.Common.{◌≡◌, ◌+◌, ◌∙◌, ap, ap₂, sym, subst, arith, length, List, None, ℕ}
use Rattle.std.specs.Int.{cast_unsigned, w64}
use Rattle.std.proofs.lemmas.Int.{of_z-to_z}
use Rattle.std.proofs.lemmas.Result.{IfOk-weaker}
use Rattle.spec_image.specs.Told.{Told}
use Rattle.blk_io.specs.Faults.{IfDamaged}
use Rattle.blk_io.proofs.Carried.{carried}
use Rattle.spec_format.specs.Names.{child_name}
use Rattle.blk_sparse.specs.Parts.{IsPartFound}
use Rattle.blk_sparse.proofs.KeptParents.{signed-parent}
use Rattle.blk_sparse.proofs.MeasuredParts.{new-measured}
use Rattle.blk_sparse.proofs.PartsOut.{stays-there}
use Rattle.blk_sparse.proofs.measuring.measure_piece.Goals as goal

pub returns-in_err-part-clause-untold : goal.returns-in_err-part-clause-untold
returns-in_err-part-clause-untold g c from there state layout unlinked number object node entry p of_key =
    carried c.find_part.result c.from_residual.result c.in_err-part.field-0.0 (λ _. (g.F.Folder.told c.args.folder.now).files ≡ None) c.in_err-part.was c.from_residual.ensures.1
    (c.find_part.ensures.untold from there state layout unlinked number object node entry (signed-parent state layout unlinked number object node entry (cast_unsigned w64 c.args.signature) _ from (of_z-to_z w64 (cast_unsigned w64 c.args.signature) (let small = c.requires.signature in omega (arith, small))) p) of_key)

pub returns-in-Some-clause-measured : goal.returns-in-Some-clause-measured
returns-in-Some-clause-measured g c = IfOk-weaker c.measure_there.result _ _
    (λ _ m from there state layout unlinked number object node entry p of_key.
    let at = stays-there (g.F.Folder.told c.args.folder.now) (g.F.Folder.told c.find_part.new.folder) from there c.in_ok-part.ensures.reads.stays in
    let has = subst (IsPartFound layout object c.args.number) c.in-Some.is (c.in_ok-part.ensures.part from there state layout unlinked number object node entry (signed-parent state layout unlinked number object node entry (cast_unsigned w64 c.args.signature) _ from (of_z-to_z w64 (cast_unsigned w64 c.args.signature) (let small = c.requires.signature in omega (arith, small))) p) of_key) in
    m from at state layout unlinked number object node entry (cast_unsigned w64 c.args.signature) c.args.number p has)
    c.measure_there.ensures.measured

pub returns-in-Some-clause-untold : goal.returns-in-Some-clause-untold
returns-in-Some-clause-untold g c from there state layout unlinked number object node entry p of_key =
    let at = stays-there (g.F.Folder.told c.args.folder.now) (g.F.Folder.told c.find_part.new.folder) from there c.in_ok-part.ensures.reads.stays in
    let has = subst (IsPartFound layout object c.args.number) c.in-Some.is (c.in_ok-part.ensures.part from there state layout unlinked number object node entry (signed-parent state layout unlinked number object node entry (cast_unsigned w64 c.args.signature) _ from (of_z-to_z w64 (cast_unsigned w64 c.args.signature) (let small = c.requires.signature in omega (arith, small))) p) of_key) in
    subst (λ (t : Told). IfDamaged c.measure_there.result (λ _. t.files ≡ None)) c.in_ok-part.ensures.reads.stays
    (c.measure_there.ensures.untold from at state layout unlinked number object node entry (cast_unsigned w64 c.args.signature) c.args.number p has)

pub measure_there-requires-clause-is_open : goal.measure_there-requires-clause-is_open
measure_there-requires-clause-is_open g c image is = c.requires.is_open image (ap (λ (t : Told). t.files) (sym c.in_ok-part.ensures.reads.stays) ∙ is)

pub returns-in-None-clause-measured : goal.returns-in-None-clause-measured
returns-in-None-clause-measured g c from there state layout unlinked number object node entry p of_key =
    let sig = of_z-to_z w64 (cast_unsigned w64 c.args.signature) (let small = c.requires.signature in omega (arith, small)) in
    let none = subst (IsPartFound layout object c.args.number) c.in-None.is (c.in_ok-part.ensures.part from there state layout unlinked number object node entry (signed-parent state layout unlinked number object node entry (cast_unsigned w64 c.args.signature) _ from sig p) of_key) in
    new-measured layout object (cast_unsigned w64 c.args.signature) c.args.number c.args.end c.measure_new.result none c.measure_new.ensures.node c.measure_new.ensures.charged
    (c.measure_new.ensures.bytes ∙ ap₂ (λ (k : List ℕ) (s : ℕ). length (child_name k s c.args.number) + c.args.end + 192) (sym of_key) sig)
