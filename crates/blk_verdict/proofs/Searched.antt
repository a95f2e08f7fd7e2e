-- A search among the kept records, from the last place of a hash on back to the first.
use Rattle.std.proofs.Common.{◌≡◌, ◌≢◌, ◌+◌, ◌<◌, ◌≤◌, ℕ, zero, suc, Bool, true, false, List, [], ◌∷◌, map, length, Option, None, Some, refl, sym, ◌∙◌, ap, subst, arith, ⊎_elim}
use Rattle.std.specs.Prelude.{◌==◌, All, slice_get, slice_index}
use Rattle.std.specs.List.{AllZip, list_any}
use Rattle.std.specs.Option.{option_map}
use Rattle.std.proofs.lemmas.Bool.{cases_Bool, cases_lt, eqb-true, eq-eqb, or_from, or_left, or_right}
use Rattle.std.proofs.lemmas.List.{length-map}
use Rattle.std.proofs.lemmas.Option.{get_or_from_slice_get, slice_get-map, slice_get_within}
use Rattle.blk_verdict.specs.ByHash.{IsLastWithHash}
use Rattle.blk_verdict.specs.declared.loading.Loaded.{Loaded}

-- what holds of each element holds of one at a place
pub all_at : {A : Type 0} (P : A → Type 0) (xs : List A) (i : ℕ) (x : A) → All P xs → slice_get xs i ≡ Some x → P x
all_at P [] i x all e = absurd (clash e)
  where
    clash : None ≡ Some x → ⊥
    clash c = cc
all_at P (y ∷ xs) zero x all e = let same : y ≡ x = cc in subst P same (all 0 y (omega arith))
all_at P (y ∷ xs) (suc i) x all e = all_at P xs i x (λ k d less. all (suc k) d (omega (arith, less))) e

-- a place without an element is after them all
pub none_past : {A : Type 0} (xs : List A) (i : ℕ) → slice_get xs i ≡ None → length xs ≤ i
none_past [] i e = omega arith
none_past (x ∷ xs) zero e = absurd (clash e)
  where
    clash : Some x ≡ None → ⊥
    clash c = cc
none_past (x ∷ xs) (suc i) e = let rest = none_past xs i e in omega (arith, rest)

-- it holds of the first, and of each of the others
pub all_first : {A : Type 0} (P : A → Type 0) (x : A) (xs : List A) → All P (x ∷ xs) → P x
all_first P x xs all = all 0 x (omega arith)

pub all_others : {A : Type 0} (P : A → Type 0) (x : A) (xs : List A) → All P (x ∷ xs) → All P xs
all_others P x xs all = λ k d less. all (suc k) d (omega (arith, less))

-- one that is found in one list represents one in the other
pub found_in : {A B : Type 0} (R : A → B → Type 0) (p : A → Bool) (xs : List A) (ys : List B) (i : ℕ) (y : B) → AllZip R xs ys → slice_get ys i ≡ Some y → ((x : A) → R x y → p x ≡ true) → list_any p xs ≡ true
found_in R p [] [] i y are e holds = absurd (clash e)
  where
    clash : None ≡ Some y → ⊥
    clash c = cc
found_in R p [] (z ∷ ys) i y are e holds = absurd are
found_in R p (x ∷ xs) [] i y are e holds = absurd are
found_in {A} {B} R p (x ∷ xs) (z ∷ ys) zero y are e holds = let same : z ≡ y = cc in or_left (p x) (list_any p xs) (holds x (subst (λ (b : B). R x b) same are.0))
found_in R p (x ∷ xs) (z ∷ ys) (suc i) y are e holds = or_right (p x) (list_any p xs) (found_in R p xs ys i y are.1 e holds)

pub none_in : {A B : Type 0} (R : A → B → Type 0) (p : A → Bool) (xs : List A) (ys : List B) → AllZip R xs ys → ((i : ℕ) (y : B) → slice_get ys i ≡ Some y → (x : A) → R x y → p x ≡ false) → list_any p xs ≡ false
none_in R p [] [] are never = refl
none_in R p [] (y ∷ ys) are never = absurd are
none_in R p (x ∷ xs) [] are never = absurd are
none_in R p (x ∷ xs) (y ∷ ys) are never = or_from (p x) (list_any p xs) (never 0 y refl x are.0) (none_in R p xs ys are.1 (λ i. never (suc i)))

-- Hashes.

-- the hash at a place
pub hash_at : (said : List Loaded) (i : ℕ) (one : Loaded) → slice_get said i ≡ Some one → slice_index (map (λ (k : Loaded). k.hash) said) i ≡ one.hash
hash_at said i one e = get_or_from_slice_get (map (λ (k : Loaded). k.hash) said) i one.hash 0 (slice_get-map (λ (k : Loaded). k.hash) said i ∙ ap (option_map (λ (k : Loaded). k.hash)) e)

-- The search.

-- a place lies after that where a search is
abbrev pub IsBehind : Option ℕ → ℕ → Type 0
IsBehind None i = Unit {0}
IsBehind (Some place) i = place < i

-- a search for a hash is at a place of it
abbrev pub StandsAt : List ℕ → ℕ → Option ℕ → Type 0
StandsAt all hash None = Unit {0}
StandsAt all hash (Some place) = (place < length all) × (slice_index all place ≡ hash)

-- what holds of all records with a hash after the place
abbrev pub HoldsBehind : List Loaded → ℕ → Option ℕ → (Loaded → Type 0) → Type 0
HoldsBehind said hash place P = (i : ℕ) (one : Loaded) → IsBehind place i → slice_get said i ≡ Some one → one.hash ≡ hash → P one

-- how far it is to the end
abbrev pub places_left : Option ℕ → ℕ
places_left None = 0
places_left (Some place) = place + 1

module _ (said : List Loaded) (hash : ℕ) where
  pub search_begins : (place : Option ℕ) → IsLastWithHash (map (λ (k : Loaded). k.hash) said) hash (length (map (λ (k : Loaded). k.hash) said)) place → StandsAt (map (λ (k : Loaded). k.hash) said) hash place
  search_begins None last = tt
  search_begins (Some place) last = (last.inside, last.is)

  inside : (i : ℕ) (one : Loaded) → slice_get said i ≡ Some one → i < length (map (λ (k : Loaded). k.hash) said)
  inside i one e = let within = slice_get_within said i one e in omega (arith, within, length-map said (λ (k : Loaded). k.hash))

  pub nothing_behind : (P : Loaded → Type 0) (place : Option ℕ) → IsLastWithHash (map (λ (k : Loaded). k.hash) said) hash (length (map (λ (k : Loaded). k.hash) said)) place → HoldsBehind said hash place P
  nothing_behind P None last i one behind e same = absurd (last i (inside i one e) (hash_at said i one e ∙ same))
  nothing_behind P (Some place) last i one behind e same = absurd (last.behind i behind (inside i one e) (hash_at said i one e ∙ same))

  module _ (place : ℕ) (here : StandsAt (map (λ (k : Loaded). k.hash) said) hash (Some place)) where
    pub search_goes_on : (next : Option ℕ) → IsLastWithHash (map (λ (k : Loaded). k.hash) said) (slice_index (map (λ (k : Loaded). k.hash) said) place) place next → StandsAt (map (λ (k : Loaded). k.hash) said) hash next
    search_goes_on None last = tt
    search_goes_on (Some next) last = let less = last.inside in let first = here.0 in (omega (arith, less, first), last.is ∙ here.1)

    none_between : (next : Option ℕ) (i : ℕ) → IsLastWithHash (map (λ (k : Loaded). k.hash) said) (slice_index (map (λ (k : Loaded). k.hash) said) place) place next → IsBehind next i → i < place → slice_index (map (λ (k : Loaded). k.hash) said) i ≡ hash → ⊥
    none_between None i last behind less same = last i less (same ∙ sym here.1)
    none_between (Some next) i last behind less same = last.behind i behind less (same ∙ sym here.1)

    pub more_behind : (P : Loaded → Type 0) (next : Option ℕ) (one : Loaded) → IsLastWithHash (map (λ (k : Loaded). k.hash) said) (slice_index (map (λ (k : Loaded). k.hash) said) place) place next → slice_get said place ≡ Some one → P one → HoldsBehind said hash (Some place) P
        → HoldsBehind said hash next P
    more_behind P next one last at_place holds before i other behind e same = ⊎_elim
        (λ (q : (i == place) ≡ true).
        let same_one : one ≡ other = some_same (sym at_place ∙ ap (slice_get said) (sym (eqb-true _ _ q)) ∙ e) in
        subst P same_one holds)
        (λ (q : (i == place) ≡ false).
        ⊎_elim
        (λ (less : i < place). absurd (none_between next i last behind less (hash_at said i other e ∙ same)))
        (λ (more : place ≤ i). let apart : i ≢ place = λ s. clash (sym (eq-eqb _ _ s) ∙ q) in before i other (omega (arith, more, apart)) e same)
        (cases_lt i place))
        (cases_Bool (i == place))
      where
        some_same : {a b : Loaded} → Some a ≡ Some b → a ≡ b
        some_same s = cc

        clash : true ≡ false → ⊥
        clash c = cc

    pub fewer_left : (next : Option ℕ) → IsLastWithHash (map (λ (k : Loaded). k.hash) said) (slice_index (map (λ (k : Loaded). k.hash) said) place) place next → places_left next < place + 1
    fewer_left None last = omega arith
    fewer_left (Some next) last = let less = last.inside in omega (arith, less)
