use Rattle.std.proofs.Common.{◌≡◌, ◌+◌, ◌-◌, ◌≤◌, ◌<◌, ◌∙◌, ap, sym, subst, arith, None, ℕ}
use Rattle.std.specs.Int.{cast_unsigned, w64}
use Rattle.std.proofs.lemmas.Int.{of_z-to_z}
use Rattle.spec_image.specs.Told.{Told}
use Rattle.blk_io.specs.Faults.{IfDamaged}
use Rattle.blk_io.proofs.Carried.{carried}
use Rattle.blk_sparse.specs.Measuring.{IsPieceMeasured}
use Rattle.blk_sparse.proofs.KeptParents.{signed-parent}
use Rattle.blk_sparse.proofs.MeasuredParts.{end-first, end-one, end-second, one-measured, two-measured}
use Rattle.blk_sparse.proofs.PartsOut.{stays-there}
use Rattle.blk_sparse.proofs.WritingCovered.{covers-one, covers-two}
use Rattle.blk_sparse.proofs.measuring.measure_covered.Goals as goal

pub returns-in_err-piece-clause-untold : goal.returns-in_err-piece-clause-untold
returns-in_err-piece-clause-untold g c from there state layout unlinked number object node entry p of_key =
    carried c.measure_piece.result c.from_residual.result c.in_err-piece.field-0.0 (λ _. (g.F.Folder.told c.args.folder.now).files ≡ None) c.in_err-piece.was c.from_residual.ensures.1
    (c.measure_piece.ensures.untold from there state layout unlinked number object node entry (signed-parent state layout unlinked number object node entry (cast_unsigned w64 c.args.signature) _ from (of_z-to_z w64 (cast_unsigned w64 c.args.signature) (let small = c.requires.signature in omega (arith, small))) p) of_key)

pub returns-then-end-size-clause-measured : goal.returns-then-end-size-clause-measured
returns-then-end-size-clause-measured g c from there state layout unlinked number object node entry p of_key =
    let sig = of_z-to_z w64 (cast_unsigned w64 c.args.signature) (let small = c.requires.signature in omega (arith, small)) in
    let place = c.child_of-number.ensures.place in
    let wide = c.from.ensures in
    let whole = c.from-size.ensures in
    let fits : c.child_of-number.result.1 + c.args.count ≤ 1048576 = (let h = c.if-end-size.true in omega (arith, wide, whole, h)) in
    let ends : c.from.result + c.args.count ≡ c.child_of-number.result.1 + c.args.count = omega (arith, wide) in
    one-measured layout object (cast_unsigned w64 c.args.signature) c.args.offset c.args.count c.measured_one.result c.child_of-number.result.0 (c.child_of-number.result.1 + c.args.count) c.in_ok-piece.piece
    (covers-one c.args.offset c.args.count c.child_of-number.result.0 c.child_of-number.result.1 c.child_of-number.ensures.part place c.requires.some (omega (arith, fits)))
    (end-one c.args.offset c.args.count c.child_of-number.result.0 c.child_of-number.result.1 c.child_of-number.ensures.part place fits)
    (subst (λ (e : ℕ). IsPieceMeasured layout object (cast_unsigned w64 c.args.signature) c.child_of-number.result.0 e c.in_ok-piece.piece) ends
    (subst (λ (s : ℕ). IsPieceMeasured layout object s c.child_of-number.result.0 (c.from.result + c.args.count) c.in_ok-piece.piece) sig
    (c.in_ok-piece.ensures.measured from there state layout unlinked number object node entry (signed-parent state layout unlinked number object node entry (cast_unsigned w64 c.args.signature) _ from sig p) of_key)))
    c.measured_one.ensures

pub returns-in_err-front-clause-untold : goal.returns-in_err-front-clause-untold
returns-in_err-front-clause-untold g c from there state layout unlinked number object node entry p of_key =
    carried c.measure_piece-2.result c.from_residual-in_err-front.result c.in_err-front.field-0.0 (λ _. (g.F.Folder.told c.args.folder.now).files ≡ None) c.in_err-front.was c.from_residual-in_err-front.ensures.1
    (c.measure_piece-2.ensures.untold from there state layout unlinked number object node entry (signed-parent state layout unlinked number object node entry (cast_unsigned w64 c.args.signature) _ from (of_z-to_z w64 (cast_unsigned w64 c.args.signature) (let small = c.requires.signature in omega (arith, small))) p) of_key)

pub measure_piece-requires-3-clause-is_open : goal.measure_piece-requires-3-clause-is_open
measure_piece-requires-3-clause-is_open g c image is = c.requires.is_open image (ap (λ (t : Told). t.files) (sym c.in_ok-front.ensures.reads.stays) ∙ is)

pub returns-in_err-back-clause-untold : goal.returns-in_err-back-clause-untold
returns-in_err-back-clause-untold g c from there state layout unlinked number object node entry p of_key =
    let at = stays-there (g.F.Folder.told c.args.folder.now) (g.F.Folder.told c.measure_piece-2.new.folder) from there c.in_ok-front.ensures.reads.stays in
    subst (λ (t : Told). IfDamaged c.from_residual-in_err-back.result (λ _. t.files ≡ None)) c.in_ok-front.ensures.reads.stays
    (carried c.measure_piece-3.result c.from_residual-in_err-back.result c.in_err-back.field-0.0 (λ _. (g.F.Folder.told c.measure_piece-2.new.folder).files ≡ None) c.in_err-back.was c.from_residual-in_err-back.ensures.1
    (c.measure_piece-3.ensures.untold from at state layout unlinked number object node entry (signed-parent state layout unlinked number object node entry (cast_unsigned w64 c.args.signature) _ from (of_z-to_z w64 (cast_unsigned w64 c.args.signature) (let small = c.requires.signature in omega (arith, small))) p) of_key))

pub returns-clause-measured : goal.returns-clause-measured
returns-clause-measured g c from there state layout unlinked number object node entry p of_key =
    let at = stays-there (g.F.Folder.told c.args.folder.now) (g.F.Folder.told c.measure_piece-2.new.folder) from there c.in_ok-front.ensures.reads.stays in
    let sig = of_z-to_z w64 (cast_unsigned w64 c.args.signature) (let small = c.requires.signature in omega (arith, small)) in
    let place = c.child_of-number.ensures.place in
    let wide = c.from.ensures in
    let whole : c.from-size.result ≡ 1048576 = c.from-size.ensures in
    let more : 1048576 < c.child_of-number.result.1 + c.args.count = (let h = c.if-end-size.false in omega (arith, wide, whole, h)) in
    let ends : c.from.result + c.args.count - c.from-size.result ≡ c.child_of-number.result.1 + c.args.count - 1048576 = omega (arith, wide, whole) in
    two-measured layout object (cast_unsigned w64 c.args.signature) c.args.offset c.args.count c.measured_two.result c.child_of-number.result.0 1048576 (c.child_of-number.result.1 + c.args.count - 1048576) c.in_ok-front.front c.in_ok-back.back
    (covers-two c.args.offset c.args.count c.child_of-number.result.0 c.child_of-number.result.1 c.child_of-number.ensures.part place (omega (arith, more, place)) c.requires.few)
    (end-first c.args.offset c.args.count c.child_of-number.result.0 c.child_of-number.result.1 c.child_of-number.ensures.part place more)
    (end-second c.args.offset c.args.count c.child_of-number.result.0 c.child_of-number.result.1 c.child_of-number.ensures.part place more c.requires.few)
    (subst (λ (e : ℕ). IsPieceMeasured layout object (cast_unsigned w64 c.args.signature) c.child_of-number.result.0 e c.in_ok-front.front) whole
    (subst (λ (s : ℕ). IsPieceMeasured layout object s c.child_of-number.result.0 c.from-size.result c.in_ok-front.front) sig
    (c.in_ok-front.ensures.measured from there state layout unlinked number object node entry (signed-parent state layout unlinked number object node entry (cast_unsigned w64 c.args.signature) _ from sig p) of_key)))
    (subst (λ (e : ℕ). IsPieceMeasured layout object (cast_unsigned w64 c.args.signature) (c.child_of-number.result.0 + 1) e c.in_ok-back.back) ends
    (subst (λ (s : ℕ). IsPieceMeasured layout object s (c.child_of-number.result.0 + 1) (c.from.result + c.args.count - c.from-size.result) c.in_ok-back.back) sig
    (c.in_ok-back.ensures.measured from at state layout unlinked number object node entry (signed-parent state layout unlinked number object node entry (cast_unsigned w64 c.args.signature) _ from sig p) of_key)))
    c.measured_two.ensures
