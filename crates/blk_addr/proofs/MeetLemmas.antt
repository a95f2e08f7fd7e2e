-- What addresses use, and whether they share any of it.
use Rattle.std.proofs.Common.{◌≡◌, ◌≢◌, ◌+◌, ◌<◌, ℕ, zero, suc, Bool, true, false, ◌&&◌, ◌||◌, if◌then◌else◌, ◌≤◌, ◌-◌, List, [], ◌∷◌, ◌++◌, map, take, drop, get_or, length, refl, sym, ◌∙◌, ap, ap₂, arith, IsTrue}
use Rattle.std.specs.Prelude.{◌==◌, nat_lt}
use Rattle.std.specs.List.{list_any, range_with_len}
use Rattle.std.proofs.lemmas.Bool.{eq-eqb, eqb-true}
use Rattle.std.proofs.lemmas.Bool.Decides.{nat_tests}
use Rattle.std.proofs.lemmas.List.{take_all}
use Rattle.spec_format.specs.Address.{is_address, kind_of, file_selector, first_block, block_count, external_number, external}
use Rattle.spec_format.specs.Claims.{Claim, BlockOf, ExternalOf, claims_of, claims_of_all, has_claim, overlap, repeats}
use Rattle.blk_addr.specs.Bits.{is_between}
use Rattle.blk_addr.specs.FileId.{file_of_word}
use Rattle.blk_addr.specs.declared.file_id.FileId.TheVariants.{Block, External, Index}
use Rattle.blk_addr.proofs.AddressFields.{address_above_0, block_count_above_0}
use Rattle.blk_addr.proofs.ClaimLemmas.{claims_of-external, claims_of-blocks, has_claim-append, has_claim-blocks, has_claim-no-external, list_any-same, or_parts, repeats-claims_of}

-- Two addresses.

-- runs of blocks of one file share one where each begins before the other's end
runs_meet : (g t m f s n : ℕ) → 0 < m
    → list_any (has_claim (map (λ b. BlockOf g b) (range_with_len t m))) (map (λ b. BlockOf f b) (range_with_len s n)) ≡ ((f == g) && (nat_lt 0 n && (nat_lt s (t + m) && nat_lt t (s + n))))
runs_meet g t m f s zero some = none (f == g)
  where
    none : (a : Bool) → false ≡ (a && false)
    none true = refl
    none false = refl
runs_meet g t m f s (suc n) some =
    let rest : list_any (has_claim (map (λ b. BlockOf g b) (range_with_len t m))) (map (λ b. BlockOf f b) (range_with_len (s + 1) n)) ≡ ((f == g) && (nat_lt 0 n && (nat_lt (s + 1) (t + m) && nat_lt t (s + 1 + n)))) = runs_meet g t m f (s + 1) n some in
    ap₂ (λ (a b : Bool). a || b) (has_claim-blocks g t m f s) rest ∙ merged
  where
    merged : ((f == g) && is_between t (t + m) s || (f == g) && (nat_lt 0 n && (nat_lt (s + 1) (t + m) && nat_lt t (s + 1 + n)))) ≡ ((f == g) && (nat_lt 0 (suc n) && (nat_lt s (t + m) && nat_lt t (s + suc n))))
    merged = grind (arith, nat_tests)

no_external : (m f s n : ℕ) → list_any (has_claim (ExternalOf m ∷ [])) (map (λ b. BlockOf f b) (range_with_len s n)) ≡ false
unfolding has_claim
no_external m f s zero = refl
no_external m f s (suc n) = no_external m f (s + 1) n

twice_or : (a : Bool) → (a || false || false) ≡ a
twice_or true = refl
twice_or false = refl

once_or : (a : Bool) → a ≡ false → (a || false) ≡ false
once_or a e = rw e refl

pub externals_meet : (w v : ℕ) → w ≢ 0 → v ≢ 0 → kind_of w ≡ external → kind_of v ≡ external → overlap (claims_of v) (claims_of w) ≡ (external_number w == external_number v)
unfolding overlap has_claim
externals_meet w v some_w some_v one other = rw (claims_of-external w some_w one, claims_of-external v some_v other) (twice_or (external_number w == external_number v))

pub external_apart : (w v : ℕ) → w ≢ 0 → v ≢ 0 → kind_of w ≡ external → kind_of v ≢ external → overlap (claims_of v) (claims_of w) ≡ false
unfolding overlap
external_apart w v some_w some_v one other = rw (claims_of-external w some_w one, claims_of-blocks v some_v other) (once_or _ (has_claim-no-external (file_selector v) (first_block v) (block_count v) (external_number w)))

pub blocks_apart : (w v : ℕ) → w ≢ 0 → v ≢ 0 → kind_of w ≢ external → kind_of v ≡ external → overlap (claims_of v) (claims_of w) ≡ false
unfolding overlap
blocks_apart w v some_w some_v one other = rw (claims_of-blocks w some_w one, claims_of-external v some_v other) (no_external (external_number v) (file_selector w) (first_block w) (block_count w))

pub blocks_meet : (w v : ℕ) → w ≢ 0 → v ≢ 0 → kind_of w ≢ external → kind_of v ≢ external
    → overlap (claims_of v) (claims_of w) ≡ ((file_selector w == file_selector v) && (nat_lt (first_block w) (first_block v + block_count v) && nat_lt (first_block v) (first_block w + block_count w)))
unfolding overlap
blocks_meet w v some_w some_v one other =
    let many = block_count_above_0 w in
    let some : nat_lt 0 (block_count w) ≡ true = grind (arith, nat_tests) in
    rw (claims_of-blocks w some_w one, claims_of-blocks v some_v other)
    (runs_meet (file_selector v) (first_block v) (block_count v) (file_selector w) (first_block w) (block_count w) (block_count_above_0 v)
    ∙ ap (λ (t : Bool). (file_selector w == file_selector v) && (t && (nat_lt (first_block w) (first_block v + block_count v) && nat_lt (first_block v) (first_block w + block_count w)))) some)

-- The files of addresses.

pub file_external : (w n : ℕ) → file_of_word w ≡ External n → (kind_of w ≡ external) × (external_number w ≡ n)
unfolding file_of_word
file_external w n e = by_test (kind_of w == external) refl e
  where
    by_test : (t : Bool) → (kind_of w == external) ≡ t → (if t then External (external_number w) else Block (file_selector w)) ≡ External n → (kind_of w ≡ external) × (external_number w ≡ n)
    by_test true k h = (eqb-true _ _ k, cc)
    by_test false k h = absurd (clash h)
      where
        clash : Block (file_selector w) ≡ External n → ⊥
        clash c = cc

pub file_block : (w f : ℕ) → file_of_word w ≡ Block f → (kind_of w ≢ external) × (file_selector w ≡ f)
unfolding file_of_word
file_block w f e = by_test (kind_of w == external) refl e
  where
    differs : true ≡ false → ⊥
    differs c = cc

    by_test : (t : Bool) → (kind_of w == external) ≡ t → (if t then External (external_number w) else Block (file_selector w)) ≡ Block f → (kind_of w ≢ external) × (file_selector w ≡ f)
    by_test true k h = absurd (clash h)
      where
        clash : External (external_number w) ≡ Block f → ⊥
        clash c = cc
    by_test false k h = (λ same. differs (sym (eq-eqb _ _ same) ∙ k), cc)

pub file_index : (w : ℕ) → file_of_word w ≡ Index → ⊥
unfolding file_of_word
file_index w e = by_test (kind_of w == external) e
  where
    by_test : (t : Bool) → (if t then External (external_number w) else Block (file_selector w)) ≡ Index → ⊥
    by_test true h = cc
    by_test false h = cc

pub no_file_external : (w : ℕ) → ((n : ℕ) → file_of_word w ≡ External n → ⊥) → kind_of w ≢ external
unfolding file_of_word
no_file_external w none kind = none (external_number w) (rw kind refl)

pub no_file_block : (w : ℕ) → ((f : ℕ) → file_of_word w ≡ Block f → ⊥) → kind_of w ≡ external
unfolding file_of_word
no_file_block w none = by_test (kind_of w == external) refl
  where
    by_test : (t : Bool) → (kind_of w == external) ≡ t → kind_of w ≡ external
    by_test true k = eqb-true _ _ k
    by_test false k = absurd (none (file_selector w) (rw k refl))

-- Lists of used blocks.

-- a test that is an or
pub list_any-or : {A : Type 0} (p q : A → Bool) (xs : List A) → list_any (λ x. p x || q x) xs ≡ (list_any p xs || list_any q xs)
list_any-or p q [] = refl
list_any-or p q (x ∷ xs) = ap (λ (t : Bool). (p x || q x) || t) (list_any-or p q xs) ∙ by_tests (p x) (q x) (list_any p xs) (list_any q xs)
  where
    by_tests : (a b c d : Bool) → ((a || b) || (c || d)) ≡ ((a || c) || (b || d))
    by_tests true b c d = refl
    by_tests false true true d = refl
    by_tests false true false d = refl
    by_tests false false true d = refl
    by_tests false false false d = refl

overlap-append : (xs ys others : List Claim) → overlap (xs ++ ys) others ≡ (overlap xs others || overlap ys others)
unfolding overlap
overlap-append xs ys others = list_any-same (has_claim (xs ++ ys)) (λ c. has_claim xs c || has_claim ys c) (has_claim-append xs ys) others ∙ list_any-or (has_claim xs) (has_claim ys) others

nothing_shared : (others : List Claim) → overlap [] others ≡ false
unfolding overlap has_claim
nothing_shared [] = refl
nothing_shared (c ∷ others) = nothing_shared others

-- what is repeated in two lists of which the first repeats nothing
pub repeats-both : (xs ys : List Claim) → repeats xs ≡ false → repeats (xs ++ ys) ≡ (overlap ys xs || repeats ys)
unfolding repeats overlap
repeats-both [] ys once = refl
repeats-both (x ∷ xs) ys once =
    let parts = or_parts (has_claim xs x) (repeats xs) once in
    ap₂ (λ (a b : Bool). a || b) (has_claim-append xs ys x ∙ ap (λ (t : Bool). t || has_claim ys x) parts.0) (repeats-both xs ys parts.1)
    ∙ by_tests (has_claim ys x) (list_any (has_claim ys) xs) (repeats ys)
  where
    by_tests : (a b c : Bool) → (a || (b || c)) ≡ ((a || b) || c)
    by_tests true b c = refl
    by_tests false b c = refl

-- Addresses of which two share a used block.

-- no addresses share one
pub nothing_repeats : (words : List ℕ) → words ≡ [] → repeats (claims_of_all words) ≡ false
unfolding repeats
nothing_repeats words none = ap (λ (l : List ℕ). repeats (claims_of_all l)) none

-- one of others shares a used block with an address where their used blocks together do
pub one_of : (w : ℕ) (others : List ℕ) → list_any (λ other. overlap (claims_of other) (claims_of w)) others ≡ overlap (claims_of_all others) (claims_of w)
one_of w [] = sym (nothing_shared (claims_of w))
one_of w (v ∷ others) =
    ap (λ (t : Bool). overlap (claims_of v) (claims_of w) || t) (one_of w others)
    ∙ sym (overlap-append (claims_of v) (claims_of_all others) (claims_of w))

-- two of some addresses share a used block where the first does with another, or two others do
pub first_shares : (w : ℕ) (words : List ℕ) → IsTrue (is_address w) → repeats (claims_of_all (w ∷ words)) ≡ (overlap (claims_of_all words) (claims_of w) || repeats (claims_of_all words))
first_shares w words address = repeats-both (claims_of w) (claims_of_all words) (repeats-claims_of w (address_above_0 w address))

-- a list by its first
pub split_first : (words : List ℕ) (w : ℕ) → 1 ≤ length words → w ≡ get_or words 0 w → words ≡ w ∷ take (length words - 1) (drop 1 words)
split_first [] w some is = absurd (omega (arith, some))
split_first (v ∷ words) w some is =
    let all : take (length (v ∷ words) - 1) words ≡ words = take_all (length (v ∷ words) - 1) words (omega arith) in
    ap₂ (λ (a : ℕ) (l : List ℕ). a ∷ l) (sym is) (sym all)
