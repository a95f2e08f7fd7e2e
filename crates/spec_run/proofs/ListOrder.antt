-- What is among some elements, and in which order, once some are removed or are given as others.
use Rattle.std.proofs.Common.{ℕ, zero, suc, ◌<◌, ◌≡◌, ◌⊎◌, inl, inr, ⊎_elim, Bool, true, false, cond, List, [], ◌∷◌, length, get_or, Option, None, Some, refl, sym, ◌∙◌, ap, subst, arith}
use Rattle.std.specs.List.{Contains, cons_option, filter, filter_map}
use Rattle.spec_run.specs.Laws.{Precedes}
use Rattle.spec_run.proofs.SettledEntries.{given_contained}

module _ {X : Type 0} where
  pub first_contained : (x : X) (xs : List X) → Contains (x ∷ xs) x
  first_contained x xs = (zero, omega arith, refl)

  pub later_contained : (x : X) (xs : List X) (y : X) → Contains xs y → Contains (x ∷ xs) y
  later_contained x xs y there = (suc there.0, omega (arith, there.1), there.2)

  pub none_contained : {P : Type 0} (y : X) → Contains [] y → P
  none_contained y there = absurd (omega (arith, there.1))

  -- an element is the first, or among those after it
  pub contained_cases : (x : X) (xs : List X) (y : X) → Contains (x ∷ xs) y → (x ≡ y) ⊎ Contains xs y
  contained_cases x xs y there = at there.0 there.1 there.2
    where
      at : (k : ℕ) → k < length (x ∷ xs) → get_or (x ∷ xs) k y ≡ y → (x ≡ y) ⊎ Contains xs y
      at zero below is = inl is
      at (suc k) below is = inr (k, omega (arith, below), is)

  -- what passes a test stays
  pub filter_contained : (p : X → Bool) (xs : List X) (y : X) → p y ≡ true → Contains xs y → Contains (filter p xs) y
  filter_contained p [] y passes there = there
  filter_contained p (x ∷ xs) y passes there =
      ⊎_elim
      (λ (same : x ≡ y). subst (λ (b : Bool). Contains (cond b (x ∷ filter p xs) (filter p xs)) y) (sym (ap p same ∙ passes)) (subst (λ (z : X). Contains (z ∷ filter p xs) y) (sym same) (first_contained y (filter p xs))))
      (λ (later : Contains xs y). stays (p x) x (filter p xs) y (filter_contained p xs y passes later))
      (contained_cases x xs y there)
    where
      stays : (b : Bool) (x : X) (rest : List X) (y : X) → Contains rest y → Contains (cond b (x ∷ rest) rest) y
      stays true x rest y has = later_contained x rest y has
      stays false x rest y has = has

  -- what stayed passes the test
  pub filter_back : (p : X → Bool) (xs : List X) (y : X) → Contains (filter p xs) y → Contains xs y × (p y ≡ true)
  filter_back p [] y there = none_contained y there
  filter_back p (x ∷ xs) y there =
      let rest : Contains (filter p xs) y → Contains (x ∷ xs) y × (p y ≡ true) = λ later. let back = filter_back p xs y later in (later_contained x xs y back.0, back.1) in
      elim (p x) as (λ b. p x ≡ b → Contains (cond b (x ∷ filter p xs) (filter p xs)) y → Contains (x ∷ xs) y × (p y ≡ true)) [
        | true ↦ λ passes has.
            ⊎_elim
            (λ (same : x ≡ y). (subst (λ (z : X). Contains (x ∷ xs) z) same (first_contained x xs), ap p (sym same) ∙ passes))
            rest
            (contained_cases x (filter p xs) y has)
        | false ↦ λ fails has. rest has
      ] refl there

  -- two that pass keep their order
  pub filter_precedes : (p : X → Bool) (xs : List X) (one other : X) → p one ≡ true → p other ≡ true → Precedes xs one other → Precedes (filter p xs) one other
  filter_precedes p [] one other passes passes_too before = before
  filter_precedes p (x ∷ xs) one other passes passes_too before =
      ⊎_elim
      (λ (here : (x ≡ one) × Contains xs other).
      subst (λ (b : Bool). Precedes (cond b (x ∷ filter p xs) (filter p xs)) one other) (sym (ap p here.0 ∙ passes)) (inl (here.0, filter_contained p xs other passes_too here.1)))
      (λ (later : Precedes xs one other). stays (p x) x (filter p xs) one other (filter_precedes p xs one other passes passes_too later))
      before
    where
      stays : (b : Bool) (x : X) (rest : List X) (one other : X) → Precedes rest one other → Precedes (cond b (x ∷ rest) rest) one other
      stays true x rest one other has = inr has
      stays false x rest one other has = has

module _ {X Y : Type 0} (h : X → Option Y) where
  -- what is given is given by an element
  pub given_back : (xs : List X) (y : Y) → Contains (filter_map h xs) y → (x : X) × Contains xs x × (h x ≡ Some y)
  given_back [] y there = absurd (omega (arith, there.1))
  given_back (x ∷ xs) y there =
      let rest : Contains (filter_map h xs) y → (z : X) × Contains (x ∷ xs) z × (h z ≡ Some y) = λ later. let back = given_back xs y later in (back.0, later_contained x xs back.0 back.1, back.2) in
      elim (h x) as (λ o. h x ≡ o → Contains (cons_option o (filter_map h xs)) y → (z : X) × Contains (x ∷ xs) z × (h z ≡ Some y)) [
        | None ↦ λ none has. rest has
        | Some w ↦ λ gives has.
            ⊎_elim
            (λ (same : w ≡ y). (x, first_contained x xs, gives ∙ ap Some same))
            rest
            (contained_cases w (filter_map h xs) y has)
      ] refl there

  -- what an element gives is given
  pub given_among : (xs : List X) (x : X) (y : Y) → h x ≡ Some y → Contains xs x → Contains (filter_map h xs) y
  given_among xs x y is there = given_contained h xs x y is there.0 there.1 there.2

  -- what two elements give is in their order
  pub given_precedes : (xs : List X) (one other : X) (y z : Y) → h one ≡ Some y → h other ≡ Some z → Precedes xs one other → Precedes (filter_map h xs) y z
  given_precedes [] one other y z is is_too before = absurd before
  given_precedes (x ∷ xs) one other y z is is_too before =
      ⊎_elim
      (λ (here : (x ≡ one) × Contains xs other).
      subst (λ (o : Option Y). Precedes (cons_option o (filter_map h xs)) y z) (sym (ap h here.0 ∙ is)) (inl (refl, given_among xs other z is_too here.1)))
      (λ (later : Precedes xs one other). stays (h x) (filter_map h xs) y z (given_precedes xs one other y z is is_too later))
      before
    where
      stays : (o : Option Y) (rest : List Y) (y z : Y) → Precedes rest y z → Precedes (cons_option o rest) y z
      stays None rest y z has = has
      stays (Some w) rest y z has = inr has
