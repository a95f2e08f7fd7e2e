-- The chains of what represents a state are no longer than its list.
use Rattle.std.proofs.Common.{◌≡◌, ◌≢◌, ℕ, suc, ◌≤◌, List, [], ◌∷◌, length, map, refl, ap, sym, ◌∙◌, subst, Bool, true, false, arith, Option, Some, None, ⊎_elim}
use Rattle.std.specs.Prelude.{not, ◌||◌, ◌&&◌, ◌==◌}
use Rattle.std.specs.List.{filter}
use Rattle.std.proofs.lemmas.Bool.{cases_Bool, eq-eqb, ne_eqb, or_left, or_right}
use Rattle.std.proofs.lemmas.Bool.Decides.{eqb_tells}
use Rattle.std.proofs.Math.Dec.{eqb}
use Rattle.spec_format.specs.BlockFiles.{is_among}
use Rattle.spec_folder.specs.ListView.{Distinct}
use Rattle.spec_folder.specs.Chains.{file_and_block, IsChain}
use Rattle.spec_folder.specs.Loads.{Loaded}
use Rattle.spec_folder.specs.Layout.{Layout, order, IsListedRecord}
use Rattle.law_folder.proofs.walks.Shown.{is_among-filter, Distinct-filter}
use Rattle.law_folder.specs.SearchLaws.{RepresentedChainsAreShort}

absent-stays : (y : ℕ) (xs : List ℕ) → is_among xs y ≡ false → length xs ≤ length (filter (λ x. not (y == x)) xs)
absent-stays y [] h = omega arith
absent-stays y (x ∷ xs) h = ⊎_elim
    (λ (e : (eqb x y ≡ true) × (x ≡ y)). absurd (let c : true ≡ false = sym (or_left (x == y) (is_among xs y) e.0) ∙ h in cc))
    (λ (e : (eqb x y ≡ false) × (x ≢ y)).
    let other : (y == x) ≡ false = ne_eqb y x (λ q. e.1 (sym q)) in
    let more = absent-stays y xs (rw e.0 at h) in
    rw other (omega (arith, more)))
    (eqb_tells x y)

one-less : (y : ℕ) (xs : List ℕ) → Distinct xs → length xs ≤ suc (length (filter (λ x. not (y == x)) xs))
one-less y [] d = omega arith
one-less y (x ∷ xs) d = ⊎_elim
    (λ (e : (eqb y x ≡ true) × (y ≡ x)).
    let gone : is_among xs y ≡ false = ap (is_among xs) e.1 ∙ d.0 in
    let more = absent-stays y xs gone in
    let same : (y == x) ≡ true = e.0 in
    rw same (omega (arith, more)))
    (λ (e : (eqb y x ≡ false) × (y ≢ x)).
    let more = one-less y xs d.1 in
    let other : (y == x) ≡ false = e.0 in
    rw other (omega (arith, more)))
    (eqb_tells y x)

-- different numbers that are among others are no more
pub no-more : (ys xs : List ℕ) → Distinct xs → ((x : ℕ) → is_among xs x ≡ true → is_among ys x ≡ true) → length xs ≤ length ys
no-more [] [] d sub = omega arith
no-more [] (x ∷ xs) d sub = absurd (let c : false ≡ true = sub x (or_left (x == x) (is_among xs x) (eq-eqb x x refl)) in cc)
no-more (y ∷ ys) xs d sub =
    let less = one-less y xs d in
    let rest = no-more ys (filter (λ x. not (y == x)) xs) (Distinct-filter (λ x. not (y == x)) xs d) (λ x h. among x (sym (is_among-filter (λ x. not (y == x)) xs x) ∙ h)) in
    omega (arith, less, rest)
  where
    among : (x : ℕ) → (not (y == x) && is_among xs x) ≡ true → is_among ys x ≡ true
    among x h = go (y == x) refl (is_among xs x) refl h
      where
        go : (a : Bool) → (y == x) ≡ a → (b : Bool) → is_among xs x ≡ b → (not a && b) ≡ true → is_among ys x ≡ true
        go true e b f g = absurd (let c : false ≡ true = g in cc)
        go false e false f g = absurd (let c : false ≡ true = g in cc)
        go false e true f g = let there : (y == x || is_among ys x) ≡ true = sub x f in rw e at there

-- numbers whose images are different are different
pub distinct-map : (f : ℕ → ℕ) (xs : List ℕ) → Distinct (map f xs) → Distinct xs
distinct-map f [] d = tt
distinct-map f (x ∷ xs) d = (⊎_elim (λ (e : is_among xs x ≡ true). absurd (let c : true ≡ false = sym (there xs e) ∙ d.0 in cc)) (λ (e : is_among xs x ≡ false). e) (cases_Bool (is_among xs x)), distinct-map f xs d.1)
  where
    there : (xs : List ℕ) → is_among xs x ≡ true → is_among (map f xs) (f x) ≡ true
    there [] h = h
    there (z ∷ zs) h = ⊎_elim
        (λ (e : (eqb z x ≡ true) × (z ≡ x)). or_left (f z == f x) (is_among (map f zs) (f x)) (eq-eqb (f z) (f x) (ap f e.1)))
        (λ (e : (eqb z x ≡ false) × (z ≢ x)). or_right (f z == f x) (is_among (map f zs) (f x)) (there zs (rw e.0 at h)))
        (eqb_tells z x)

-- the record that a node names
abbrev contents-in : Option Loaded → ℕ
contents-in None = 0
contents-in (Some loaded) = loaded.contents

abbrev contents-at : Layout → ℕ → ℕ
contents-at layout node = contents-in (layout.at node)

among-map : (f : ℕ → ℕ) (xs : List ℕ) (x : ℕ) → is_among xs x ≡ true → is_among (map f xs) (f x) ≡ true
among-map f [] x h = h
among-map f (z ∷ zs) x h = ⊎_elim
    (λ (e : (eqb z x ≡ true) × (z ≡ x)). or_left (f z == f x) (is_among (map f zs) (f x)) (eq-eqb (f z) (f x) (ap f e.1)))
    (λ (e : (eqb z x ≡ false) × (z ≢ x)). or_right (f z == f x) (is_among (map f zs) (f x)) (among-map f zs x (rw e.0 at h)))
    (eqb_tells z x)

length-same : (f : ℕ → ℕ) (xs : List ℕ) → length (map f xs) ≡ length xs
length-same f [] = refl
length-same f (x ∷ xs) = ap suc (length-same f xs)

chains-short : RepresentedChainsAreShort
chains-short view state layout r bucket below = (fewer, omega (arith, fewer, r.list.few))
  where
    fewer : length (layout.chains bucket) ≤ length (order state layout)
    fewer =
        let c : IsChain view.store bucket (layout.chains bucket) = r.holds.shows.chains bucket below in
        let all = no-more (map (contents-at layout) (order state layout)) (layout.chains bucket) (distinct-map file_and_block (layout.chains bucket) c.once) (λ w h.
        let q : IsListedRecord state layout w = r.holds.lies.unchained bucket w below h in
        let is : contents-at layout q.node ≡ w = rw q.here q.record_is in
        subst (λ (z : ℕ). is_among (map (contents-at layout) (order state layout)) z ≡ true) is (among-map (contents-at layout) (order state layout) q.node q.listed)) in
        omega (arith, all, length-same (contents-at layout) (order state layout))

pub represented-chains-short : RepresentedChainsAreShort
represented-chains-short view state layout r bucket below = chains-short view state layout r bucket below
