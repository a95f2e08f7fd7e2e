use Rattle.std.proofs.Common.{◌≡◌, ◌+◌, ◌-◌, ◌≤◌, ◌<◌, ◌∙◌, ap, ap₂, sym, arith, length, List, ℕ}
use Rattle.std.specs.Int.{cast_unsigned, w64}
use Rattle.std.proofs.lemmas.Int.{of_z-to_z}
use Rattle.spec_format.specs.Names.{child_name}
use Rattle.blk_sparse.proofs.MeasuredParts.{end-first, end-one, end-second, lacks, new-measured, one-measured, two-measured}
use Rattle.blk_sparse.proofs.WritingCovered.{covers-one, covers-two}
use Rattle.blk_sparse.proofs.measuring.measure_made.Goals as goal

pub returns-then-end-size-clause-measured : goal.returns-then-end-size-clause-measured
returns-then-end-size-clause-measured c layout object of_key none =
    let sig = of_z-to_z w64 (cast_unsigned w64 c.args.signature) (let small = c.requires.signature in omega (arith, small)) in
    let place = c.child_of-number.ensures.place in
    let wide = c.from.ensures in
    let whole = c.from-size.ensures in
    let fits : c.child_of-number.result.1 + c.args.count ≤ 1048576 = (let h = c.if-end-size.true in omega (arith, wide, whole, h)) in
    let ends : c.from.result + c.args.count ≡ c.child_of-number.result.1 + c.args.count = omega (arith, wide) in
    one-measured layout object (cast_unsigned w64 c.args.signature) c.args.offset c.args.count c.measured_one.result c.child_of-number.result.0 (c.child_of-number.result.1 + c.args.count) c.measure_new-piece.result
    (covers-one c.args.offset c.args.count c.child_of-number.result.0 c.child_of-number.result.1 c.child_of-number.ensures.part place c.requires.some (omega (arith, fits)))
    (end-one c.args.offset c.args.count c.child_of-number.result.0 c.child_of-number.result.1 c.child_of-number.ensures.part place fits)
    (new-measured layout object (cast_unsigned w64 c.args.signature) c.child_of-number.result.0 (c.child_of-number.result.1 + c.args.count) c.measure_new-piece.result (lacks object c.child_of-number.result.0 none) c.measure_new-piece.ensures.node c.measure_new-piece.ensures.charged
    (c.measure_new-piece.ensures.bytes ∙ ap₂ (λ (k : List ℕ) (s : ℕ). length (child_name k s c.child_of-number.result.0) + (c.from.result + c.args.count) + 192) (sym of_key) sig
    ∙ ap (λ (e : ℕ). length (child_name object.key (cast_unsigned w64 c.args.signature) c.child_of-number.result.0) + e + 192) ends))
    c.measured_one.ensures

pub returns-clause-measured : goal.returns-clause-measured
returns-clause-measured c layout object of_key none =
    let sig = of_z-to_z w64 (cast_unsigned w64 c.args.signature) (let small = c.requires.signature in omega (arith, small)) in
    let place = c.child_of-number.ensures.place in
    let wide = c.from.ensures in
    let whole : c.from-size.result ≡ 1048576 = c.from-size.ensures in
    let more : 1048576 < c.child_of-number.result.1 + c.args.count = (let h = c.if-end-size.false in omega (arith, wide, whole, h)) in
    let ends : c.from.result + c.args.count - c.from-size.result ≡ c.child_of-number.result.1 + c.args.count - 1048576 = omega (arith, wide, whole) in
    two-measured layout object (cast_unsigned w64 c.args.signature) c.args.offset c.args.count c.measured_two.result c.child_of-number.result.0 1048576 (c.child_of-number.result.1 + c.args.count - 1048576) c.measure_new-front.result c.measure_new-back.result
    (covers-two c.args.offset c.args.count c.child_of-number.result.0 c.child_of-number.result.1 c.child_of-number.ensures.part place (omega (arith, more, place)) c.requires.few)
    (end-first c.args.offset c.args.count c.child_of-number.result.0 c.child_of-number.result.1 c.child_of-number.ensures.part place more)
    (end-second c.args.offset c.args.count c.child_of-number.result.0 c.child_of-number.result.1 c.child_of-number.ensures.part place more c.requires.few)
    (new-measured layout object (cast_unsigned w64 c.args.signature) c.child_of-number.result.0 1048576 c.measure_new-front.result (lacks object c.child_of-number.result.0 none) c.measure_new-front.ensures.node c.measure_new-front.ensures.charged
    (c.measure_new-front.ensures.bytes ∙ ap₂ (λ (k : List ℕ) (s : ℕ). length (child_name k s c.child_of-number.result.0) + c.from-size.result + 192) (sym of_key) sig
    ∙ ap (λ (e : ℕ). length (child_name object.key (cast_unsigned w64 c.args.signature) c.child_of-number.result.0) + e + 192) whole))
    (new-measured layout object (cast_unsigned w64 c.args.signature) (c.child_of-number.result.0 + 1) (c.child_of-number.result.1 + c.args.count - 1048576) c.measure_new-back.result (lacks object (c.child_of-number.result.0 + 1) none) c.measure_new-back.ensures.node c.measure_new-back.ensures.charged
    (c.measure_new-back.ensures.bytes ∙ ap₂ (λ (k : List ℕ) (s : ℕ). length (child_name k s (c.child_of-number.result.0 + 1)) + (c.from.result + c.args.count - c.from-size.result) + 192) (sym of_key) sig
    ∙ ap (λ (e : ℕ). length (child_name object.key (cast_unsigned w64 c.args.signature) (c.child_of-number.result.0 + 1)) + e + 192) ends))
    c.measured_two.ensures
