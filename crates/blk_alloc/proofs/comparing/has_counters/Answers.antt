use Rattle.std.proofs.Common.{◌≡◌, ℕ, zero, suc, ◌<◌, List, Bool, true, ◌&&◌, refl, sym, ◌∙◌, ap₂, subst, arith}
use Rattle.std.specs.Prelude.{◌==◌, slice_index}
use Rattle.std.proofs.lemmas.Bool.{and_parts, eqb-true}
use Rattle.std.proofs.lemmas.Bool.Decides.{nat_tests}
use Rattle.spec_image.specs.Bytes.{content}
use Rattle.spec_format.specs.Headers.{empty_of}
use Rattle.blk_alloc.specs.Rebuilding.{HasTheseCounters}
use Rattle.blk_alloc.proofs.comparing.has_counters.Goals as goal

-- each of four words is as before, where they are one after another
each_of_four : (f : ℕ → ℕ) (empty : List ℕ) → empty_of f 0 ≡ slice_index empty 0 → empty_of f 1 ≡ slice_index empty 1 → empty_of f 2 ≡ slice_index empty 2 → empty_of f 3 ≡ slice_index empty 3 → (i : ℕ) → i < 4 → empty_of f i ≡ slice_index empty i
each_of_four f empty e0 e1 e2 e3 zero small = e0
each_of_four f empty e0 e1 e2 e3 (suc zero) small = e1
each_of_four f empty e0 e1 e2 e3 (suc (suc zero)) small = e2
each_of_four f empty e0 e1 e2 e3 (suc (suc (suc zero))) small = e3
each_of_four f empty e0 e1 e2 e3 (suc (suc (suc (suc i)))) small = absurd (omega arith)

pub returns-clause-same : goal.returns-clause-same
returns-clause-same c equal =
    let f : ℕ → ℕ = content c.new-head.result in
    let all = sym c.eq.ensures ∙ equal in
    let p1 = and_parts (c.num_entries.result == c.args.allocations) _ all in
    let p2 = and_parts (c.empty.result == slice_index c.args.empty.now 0) _ p1.1 in
    let p3 = and_parts (c.empty-2.result == slice_index c.args.empty.now 1) _ p2.1 in
    let p4 = and_parts (c.empty-3.result == slice_index c.args.empty.now 2) _ p3.1 in
    let p5 = and_parts (c.empty-4.result == slice_index c.args.empty.now 3) _ p4.1 in
    subst (λ (l : List ℕ). HasTheseCounters (content l) c.args.allocations c.args.empty.now) c.new-head.ensures
    (record {
      allocations = sym c.num_entries.ensures ∙ eqb-true _ _ p1.0;
      empty = each_of_four f c.args.empty.now (sym c.empty.ensures ∙ eqb-true _ _ p2.0) (sym c.empty-2.ensures ∙ eqb-true _ _ p3.0) (sym c.empty-3.ensures ∙ eqb-true _ _ p4.0) (sym c.empty-4.ensures ∙ eqb-true _ _ p5.0);
    })

-- equal numbers test equal, and so do rows of tests
equal : (x y : ℕ) → x ≡ y → (x == y) ≡ true
equal x y e = grind (arith, nat_tests)

both : (s t : Bool) → s ≡ true → t ≡ true → (s && t) ≡ true
both s t e h = ap₂ (λ (x y : Bool). x && y) e h

pub returns-clause-found : goal.returns-clause-found
returns-clause-found c are =
    let has : HasTheseCounters (content c.new-head.result) c.args.allocations c.args.empty.now = subst (λ (l : List ℕ). HasTheseCounters (content l) c.args.allocations c.args.empty.now) (sym c.new-head.ensures) are in
    c.eq.ensures
    ∙ both _ _ (equal _ _ (c.num_entries.ensures ∙ has.allocations))
    (both _ _ (equal _ _ (c.empty.ensures ∙ has.empty 0 (omega arith)))
    (both _ _ (equal _ _ (c.empty-2.ensures ∙ has.empty 1 (omega arith)))
    (both _ _ (equal _ _ (c.empty-3.ensures ∙ has.empty 2 (omega arith)))
    (both _ _ (equal _ _ (c.empty-4.ensures ∙ has.empty 3 (omega arith))) refl))))
