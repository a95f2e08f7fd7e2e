-- What the checks of a folder without corruption say of the files along the links.
use Rattle.std.proofs.Common.{◌≡◌, ◌≢◌, ℕ, zero, suc, ◌-◌, ◌<◌, ◌≤◌, Bool, true, false, not, ◌&&◌, ◌||◌, nat_le, nat_lt, if◌then◌else◌, List, [], ◌∷◌, ◌++◌, None, refl, sym, ◌∙◌, ap, subst, arith, ◌⊎◌, inl, inr, ⊎_elim}
use Rattle.std.specs.Prelude.{◌==◌}
use Rattle.std.proofs.lemmas.Bool.{cases_lt}
use Rattle.std.proofs.lemmas.Bool.Decides.{nat_tests}
use Rattle.spec_image.specs.Image.{Block, Image, byte, length_of}
use Rattle.spec_image.specs.Checks.{first_of}
use Rattle.spec_format.specs.Address.{is_block_kind}
use Rattle.spec_format.specs.BlockFiles.{next_file_in, files_along, linked, linked_up_to, is_among, is_link, file_checks, checks_along, checks_of_kind, first_block_damage}
use Rattle.spec_format.proofs.Among.{is_among-append, is_among_more}
use Rattle.blk_disk.proofs.Firsts.{length_passed}
use Rattle.spec_format.proofs.Keeping.{none_parts, each_kind, link_of}

differ : (b : Bool) → b ≡ true → b ≡ false → ⊥
differ b e d = cc

-- a test that fails where it can't hold
pub fails : (t : Bool) → (t ≡ true → ⊥) → t ≡ false
fails true never = absurd (never refl)
fails false never = refl

-- one or the other
pub or_cases : (s t : Bool) → (s || t) ≡ true → (s ≡ true) ⊎ (t ≡ true)
or_cases true t e = inl refl
or_cases false t e = inr e

-- a link that is followed is a number from 4 on that wasn't met
pub link_far : (met : List ℕ) (left next : ℕ) → is_link met left next ≡ true → (next == 0) ≡ false → (4 ≤ next) × (is_among met next ≡ false)
unfolding is_link
link_far met left next holds some = by_tests (nat_le 4 next) refl (nat_le next 255) (is_among met next) refl (nat_lt 0 left) (ap (λ (t : Bool). t || (nat_le 4 next && nat_le next 255 && not (is_among met next) && nat_lt 0 left)) (sym some) ∙ holds)
  where
    by_tests : (p : Bool) → nat_le 4 next ≡ p → (q r : Bool) → is_among met next ≡ r → (s : Bool) → (p && q && not r && s) ≡ true → (4 ≤ next) × (is_among met next ≡ false)
    by_tests true e q false d s h = (grind (arith, nat_tests), d)
    by_tests true e true true d s h = absurd (clash h)
      where
        clash : false ≡ true → ⊥
        clash c = cc
    by_tests true e false true d s h = absurd (clash h)
      where
        clash : false ≡ true → ⊥
        clash c = cc
    by_tests false e q r d s h = absurd (clash h)
      where
        clash : false ≡ true → ⊥
        clash c = cc

-- what the checks of a file along the links say: it is the first, or its number is from 4 on; it wasn't met; its header is whole
pub record IsMet (image : Image) (met : List ℕ) (k m : ℕ) : Type 0 where
  pub far : (m ≡ k) ⊎ (4 ≤ m)
  pub fresh : is_among met m ≡ false
  pub whole : 8192 ≤ length_of image (Block m)

-- a member of a list is its first or after it
first_or_behind : (k m : ℕ) (xs : List ℕ) → is_among (k ∷ xs) m ≡ true → (k ≡ m) ⊎ (is_among xs m ≡ true)
first_or_behind k m xs among = ⊎_elim (λ (e : (k == m) ≡ true). inl (grind (arith, nat_tests))) inr (or_cases (k == m) (is_among xs m) among)

module _ (image : Image) (kind : ℕ) where
  here : (left k : ℕ) (met : List ℕ) (m : ℕ) → is_among met k ≡ false → k ≡ m → first_of (file_checks kind (met ++ k ∷ []) left k (byte image (Block k)) (length_of image (Block k))) ≡ None → IsMet image met k m
  here left k met m fresh is none = subst (IsMet image met k) is (record { far = inl refl; fresh = fresh; whole = length_passed kind (met ++ k ∷ []) left k (byte image (Block k)) (length_of image (Block k)) none })

  behind : (left k m : ℕ) (met : List ℕ) → (is_among (met ++ k ∷ []) (next_file_in image k) ≡ false → is_among (files_along (next_file_in image) left (next_file_in image k)) m ≡ true → first_of (checks_along image kind (met ++ k ∷ []) left (next_file_in image k)) ≡ None → IsMet image (met ++ k ∷ []) (next_file_in image k) m)
      → is_link (met ++ k ∷ []) (suc left) (next_file_in image k) ≡ true → is_among (if next_file_in image k == 0 then [] else files_along (next_file_in image) left (next_file_in image k)) m ≡ true
      → first_of (if next_file_in image k == 0 then [] else checks_along image kind (met ++ k ∷ []) left (next_file_in image k)) ≡ None → IsMet image met k m
  behind left k m met more link among none = by_test (next_file_in image k == 0) refl among none
    where
      not_before : (met2 : List ℕ) → is_among (met2 ++ k ∷ []) m ≡ false → is_among met2 m ≡ false
      not_before met2 none2 = fails (is_among met2 m) (λ e. differ (is_among met2 m || (k == m)) (ap (λ (t : Bool). t || (k == m)) e) (sym (is_among_more met2 k m) ∙ none2))

      by_test : (t : Bool) → (next_file_in image k == 0) ≡ t → is_among (if t then [] else files_along (next_file_in image) left (next_file_in image k)) m ≡ true
          → first_of (if t then [] else checks_along image kind (met ++ k ∷ []) left (next_file_in image k)) ≡ None → IsMet image met k m
      by_test true e among2 none2 = absurd (clash among2)
        where
          clash : false ≡ true → ⊥
          clash c = cc
      by_test false e among2 none2 =
          let next = link_far (met ++ k ∷ []) (suc left) (next_file_in image k) link e in
          let is = more next.1 among2 none2 in
          record {
            far = ⊎_elim (λ same. inr (let at = next.0 in omega (arith, same, at))) inr is.far;
            fresh = not_before met is.fresh;
            whole = is.whole;
          }

  pub met_along : (left k : ℕ) (met : List ℕ) (m : ℕ) → is_among met k ≡ false → is_among (files_along (next_file_in image) left k) m ≡ true → first_of (checks_along image kind met left k) ≡ None → IsMet image met k m
  unfolding files_along checks_along
  met_along zero k met m fresh among none = ⊎_elim (λ is. here 0 k met m fresh is none) (λ later. absurd (differ false later refl)) (first_or_behind k m [] among)
  met_along (suc left) k met m fresh among none =
      let parts = none_parts (file_checks kind (met ++ k ∷ []) (suc left) k (byte image (Block k)) (length_of image (Block k))) (if next_file_in image k == 0 then [] else checks_along image kind (met ++ k ∷ []) left (next_file_in image k)) none in
      ⊎_elim (λ is. here (suc left) k met m fresh is parts.0)
      (λ later. behind left k m met (λ next_fresh in_rest rest. met_along left (next_file_in image k) (met ++ k ∷ []) m next_fresh in_rest rest) (link_of image kind (met ++ k ∷ []) (suc left) k parts.0) later parts.1)
      (first_or_behind k m (if next_file_in image k == 0 then [] else files_along (next_file_in image) left (next_file_in image k)) among)

-- the checks of one kind
pub kind_none : (image : Image) → first_block_damage image ≡ None → (kind : ℕ) → is_block_kind kind ≡ true → first_of (checks_of_kind image kind) ≡ None
kind_none image none zero holds = cc
kind_none image none (suc zero) holds = let each = each_kind image none in each.0
kind_none image none (suc (suc zero)) holds = let each = each_kind image none in each.1
kind_none image none (suc (suc (suc zero))) holds = let each = each_kind image none in each.2
kind_none image none (suc (suc (suc (suc zero)))) holds = let each = each_kind image none in each.3
kind_none image none (suc (suc (suc (suc (suc kind))))) holds = absurd (grind (arith, nat_tests))

pub block_kind : (j : ℕ) → j < 4 → is_block_kind (suc j) ≡ true
block_kind j small = let low : nat_le 1 (suc j) ≡ true = grind (arith, nat_tests) in let high : nat_le (suc j) 4 ≡ true = grind (arith, nat_tests) in rw (low, high) refl

-- the files of all kinds, where no check fails
module _ (image : Image) (none : first_block_damage image ≡ None) where
  met_kind : (j : ℕ) → j < 4 → is_among (linked_up_to image j) j ≡ false → (m : ℕ) → is_among (linked image (suc j)) m ≡ true → IsMet image (linked_up_to image j) j m
  unfolding linked checks_of_kind
  met_kind j small fresh m among =
      let e : suc j - 1 ≡ j = omega arith in
      met_along image (suc j) 59 j (linked_up_to image j) m fresh (subst (λ (i : ℕ). is_among (files_along (next_file_in image) 59 i) m ≡ true) e among)
      (subst (λ (i : ℕ). first_of (checks_along image (suc j) (linked_up_to image i) 59 i) ≡ None) e (kind_none image none (suc j) (block_kind j small)))

  -- the first file of a kind wasn't met before
  early : (j k : ℕ) → j ≤ k → k < 4 → is_among (linked_up_to image j) k ≡ false
  unfolding linked_up_to
  early zero k upto small = refl
  early (suc j) k upto small =
      let before : is_among (linked_up_to image j) k ≡ false = early j k (omega arith) small in
      let first : is_among (linked_up_to image j) j ≡ false = early j j (omega arith) (omega arith) in
      let not_there : is_among (linked image (suc j)) k ≡ false = fails (is_among (linked image (suc j)) k) (λ among. let is = met_kind j (omega arith) first k among in ⊎_elim (λ same. omega (arith, same)) (λ from. omega (arith, from)) is.far) in
      is_among-append (linked_up_to image j) (linked image (suc j)) k ∙ rw (before, not_there) refl

  pub met_in : (j : ℕ) → j < 4 → (m : ℕ) → is_among (linked image (suc j)) m ≡ true → IsMet image (linked_up_to image j) j m
  met_in j small m among = met_kind j small (early j j (omega arith) small) m among

  -- a file of a kind is among those up to it and up to each later kind
  pub up_to : (j i m : ℕ) → i < j → is_among (linked image (suc i)) m ≡ true → is_among (linked_up_to image j) m ≡ true
  unfolding linked_up_to
  up_to zero i m below among = absurd (omega arith)
  up_to (suc j) i m below among =
      is_among-append (linked_up_to image j) (linked image (suc j)) m
      ∙ ⊎_elim (λ (less : i < j). ap (λ (t : Bool). t || is_among (linked image (suc j)) m) (up_to j i m less among))
      (λ (upto : j ≤ i). let same : i ≡ j = omega arith in ap (λ (t : Bool). is_among (linked_up_to image j) m || t) (subst (λ (l : ℕ). is_among (linked image (suc l)) m ≡ true) same among) ∙ or_true (is_among (linked_up_to image j) m))
      (cases_lt i j)
    where
      or_true : (t : Bool) → (t || true) ≡ true
      or_true true = refl
      or_true false = refl

  -- no file is linked as of two kinds
  kinds_apart : (i j m : ℕ) → i < j → j < 4 → is_among (linked image (suc i)) m ≡ true → is_among (linked image (suc j)) m ≡ true → ⊥
  kinds_apart i j m below small one other = let is = met_in j small m other in differ (is_among (linked_up_to image j) m) (up_to j i m below one) is.fresh

  pub linked_once : (i j m : ℕ) → i ≢ j → i < 4 → j < 4 → is_among (linked image (suc i)) m ≡ true → is_among (linked image (suc j)) m ≡ true → ⊥
  linked_once i j m differs small small2 one other =
      ⊎_elim (λ (less : i < j). kinds_apart i j m less small2 one other)
      (λ (upto : j ≤ i). let less : j < i = omega (arith, differs) in kinds_apart j i m less small other one) (cases_lt i j)
