-- The used blocks of an address as numbers of a bitmap, and what an added address changes.
use Rattle.std.proofs.Common.{◌≡◌, ◌≢◌, ℕ, zero, suc, ◌+◌, ◌*◌, ◌<◌, ◌≤◌, List, [], ◌∷◌, ◌++◌, map, Bool, true, false, ◌||◌, ◌&&◌, refl, sym, ◌∙◌, ap, arith, ◌⊎◌, inl, inr, eqb, length, set, get_or, cond, count_by}
use Rattle.std.specs.Prelude.{◌==◌, nat_lt, if◌then◌else◌}
use Rattle.std.specs.Ordering.{nat_cmp}
use Rattle.std.specs.BTreeMap.{is_at}
use Rattle.std.specs.List.{list_any, range_with_len}
use Rattle.std.proofs.lemmas.Bool.Decides.{nat_tests, eqb_tells}
use Rattle.std.proofs.lemmas.Grind.{common_steps, elements}
use Rattle.std.proofs.lemmas.List.Folds.{list_any-append}
use Rattle.spec_format.specs.Address.{kind_of, first_block, block_count, file_selector, external_number, external}
use Rattle.spec_format.specs.Claims.{Claim, BlockOf, ExternalOf, same_claim, claims_of, has_claim, repeats, is_in_file}
use Rattle.blk_addr.specs.Bits.{has_bit, is_between}

-- a disjunction with false is the other side
pub or_false : (b : Bool) → (b || false) ≡ b
or_false true = refl
or_false false = refl

-- a conjunction with false is false
pub and_false : (b : Bool) → (b && false) ≡ false
and_false true = refl
and_false false = refl

-- an or the other way round
pub or_comm : (a b : Bool) → (a || b) ≡ (b || a)
or_comm true true = refl
or_comm true false = refl
or_comm false true = refl
or_comm false false = refl

-- where an or fails both sides do
pub or_parts : (a b : Bool) → (a || b) ≡ false → (a ≡ false) × (b ≡ false)
or_parts true b fails = absurd cc
or_parts false b fails = (refl, fails)

-- a used block is in one of two lists
pub has_claim-append : (claims others : List Claim) (c : Claim) → has_claim (claims ++ others) c ≡ (has_claim claims c || has_claim others c)
unfolding has_claim
has_claim-append claims others c = list_any-append (same_claim c) claims others

-- one used block occurs once
repeats-one : (c : Claim) → repeats (c ∷ []) ≡ false
unfolding repeats has_claim
repeats-one c = refl

-- an and over an or
and_or : (a b c : Bool) → (a && (b || c)) ≡ (a && b || a && c)
and_or true b c = refl
and_or false b c = refl

-- an external address uses its number
pub claims_of-external : (w : ℕ) → w ≢ 0 → kind_of w ≡ external → claims_of w ≡ ExternalOf (external_number w) ∷ []
unfolding claims_of
claims_of-external w some kind = grind (arith, nat_tests)

-- an address of blocks uses each of them
pub claims_of-blocks : (w : ℕ) → w ≢ 0 → kind_of w ≢ external
    → claims_of w ≡ map (λ b. BlockOf (file_selector w) b) (range_with_len (first_block w) (block_count w))
unfolding claims_of
claims_of-blocks w some kind = grind (arith, nat_tests)

-- which blocks are among those of a run
pub has_claim-blocks : (file s n other b : ℕ)
    → has_claim (map (λ k. BlockOf file k) (range_with_len s n)) (BlockOf other b) ≡ ((other == file) && is_between s (s + n) b)
unfolding has_claim
has_claim-blocks file s zero other b = grind (arith, nat_tests)
has_claim-blocks file s (suc n) other b =
    let rest : list_any (same_claim (BlockOf other b)) (map (λ k. BlockOf file k) (range_with_len (s + 1) n)) ≡ ((other == file) && is_between (s + 1) (s + 1 + n) b) = has_claim-blocks file (s + 1) n other b in
    ap (λ t. (other == file) && (b == s) || t) rest ∙ merged
  where
    merged : ((other == file) && (b == s) || (other == file) && is_between (s + 1) (s + 1 + n) b) ≡ ((other == file) && is_between s (s + suc n) b)
    merged = grind (arith, nat_tests)

-- no external number is among blocks
pub has_claim-no-external : (file s n number : ℕ) → has_claim (map (λ k. BlockOf file k) (range_with_len s n)) (ExternalOf number) ≡ false
unfolding has_claim
has_claim-no-external file s zero number = refl
has_claim-no-external file s (suc n) number = has_claim-no-external file (s + 1) n number

-- the numbers of a run of blocks, of which block b of file f is f * 65536 + b
pub in_run : (file s n other b : ℕ) → s + n ≤ 65536
    → (nat_lt b 65536 && is_between (file * 65536 + s) (file * 65536 + s + n) (other * 65536 + b)) ≡ ((other == file) && is_between s (s + n) b)
in_run file s n other b inside = grind (arith, nat_tests)

-- whether one of a run of blocks is in the set, by their numbers
pub any_of_run : (p : Claim → Bool) (bytes : List ℕ) (file s n : ℕ)
    → ((b : ℕ) → p (BlockOf file b) ≡ (nat_lt b 65536 && has_bit bytes (file * 65536 + b)))
    → s + n ≤ 65536
    → list_any p (map (λ b. BlockOf file b) (range_with_len s n)) ≡ list_any (has_bit bytes) (range_with_len (file * 65536 + s) n)
any_of_run p bytes file s zero is inside = refl
any_of_run p bytes file s (suc n) is inside =
    let below : nat_lt s 65536 ≡ true = grind (arith, nat_tests) in
    let next : file * 65536 + (s + 1) ≡ file * 65536 + s + 1 = omega arith in
    let rest : list_any p (map (λ b. BlockOf file b) (range_with_len (s + 1) n)) ≡ list_any (has_bit bytes) (range_with_len (file * 65536 + (s + 1)) n) = any_of_run p bytes file (s + 1) n is (omega arith) in
    ap (λ b. b || list_any p (map (λ b. BlockOf file b) (range_with_len (s + 1) n))) (is s ∙ ap (λ b. b && has_bit bytes (file * 65536 + s)) below)
    ∙ ap (λ t. has_bit bytes (file * 65536 + s) || t) (rest ∙ ap (λ m. list_any (has_bit bytes) (range_with_len m n)) next)

-- one external number joins a set of used blocks
pub external_added : (p q : Claim → Bool) (w n : ℕ) → claims_of w ≡ ExternalOf n ∷ []
    → ((file b : ℕ) → q (BlockOf file b) ≡ p (BlockOf file b))
    → ((m : ℕ) → q (ExternalOf m) ≡ (m == n || p (ExternalOf m)))
    → (c : Claim) → q c ≡ (has_claim (claims_of w) c || p c)
unfolding has_claim
external_added p q w n claims blocks externals (BlockOf file b) = blocks file b ∙ ap (λ l. list_any (same_claim (BlockOf file b)) l || p (BlockOf file b)) (sym claims)
external_added p q w n claims blocks externals (ExternalOf m) =
    externals m ∙ ap (λ t. t || p (ExternalOf m)) (sym (or_false (m == n))) ∙ ap (λ l. list_any (same_claim (ExternalOf m)) l || p (ExternalOf m)) (sym claims)

-- a run of blocks joins a set of used blocks
pub blocks_added : (p q : Claim → Bool) (w file s n : ℕ) → claims_of w ≡ map (λ b. BlockOf file b) (range_with_len s n)
    → ((number : ℕ) → q (ExternalOf number) ≡ p (ExternalOf number))
    → ((other b : ℕ) → q (BlockOf other b) ≡ ((other == file) && is_between s (s + n) b || p (BlockOf other b)))
    → (c : Claim) → q c ≡ (has_claim (claims_of w) c || p c)
blocks_added p q w file s n claims externals blocks (BlockOf other b) =
    blocks other b ∙ ap (λ t. t || p (BlockOf other b)) (sym (has_claim-blocks file s n other b)) ∙ ap (λ l. has_claim l (BlockOf other b) || p (BlockOf other b)) (sym claims)
blocks_added p q w file s n claims externals blocks (ExternalOf number) =
    externals number ∙ ap (λ t. t || p (ExternalOf number)) (sym (has_claim-no-external file s n number)) ∙ ap (λ l. has_claim l (ExternalOf number) || p (ExternalOf number)) (sym claims)

-- a run of numbers joins a bitmap, by blocks
pub run_added : (old new : List ℕ) (file s n : ℕ) → s + n ≤ 65536
    → ((m : ℕ) → has_bit new m ≡ (is_between (file * 65536 + s) (file * 65536 + s + n) m || has_bit old m))
    → (other b : ℕ) → (nat_lt b 65536 && has_bit new (other * 65536 + b))
    ≡ ((other == file) && is_between s (s + n) b || nat_lt b 65536 && has_bit old (other * 65536 + b))
run_added old new file s n inside adds other b =
    ap (λ t. nat_lt b 65536 && t) (adds (other * 65536 + b))
    ∙ and_or (nat_lt b 65536) (is_between (file * 65536 + s) (file * 65536 + s + n) (other * 65536 + b)) (has_bit old (other * 65536 + b))
    ∙ ap (λ t. t || nat_lt b 65536 && has_bit old (other * 65536 + b)) (in_run file s n other b inside)

-- a query by a number finds that number
pub is_at-nat_cmp : (n m : ℕ) → is_at (nat_cmp n) m ≡ (m == n)
is_at-nat_cmp n m = grind (arith, nat_tests)

-- one more at its place
pub count_one_more : (counts : List ℕ) (place file : ℕ) → place < length counts
    → get_or (set counts place (get_or counts place 0 + 1)) file 0 ≡ get_or counts file 0 + (if place == file then 1 else 0)
count_one_more counts place file inside = grind (arith, common_steps, elements)

-- an external address is in no block file
pub is_in_file-external : (file w : ℕ) → kind_of w ≡ external → is_in_file file w ≡ false
unfolding is_in_file
is_in_file-external file w kind = grind (arith, nat_tests)

-- an address of blocks is in the file of its selector
pub is_in_file-blocks : (file w : ℕ) → kind_of w ≢ external → is_in_file file w ≡ (file_selector w == file)
unfolding is_in_file
is_in_file-blocks file w kind = grind (arith, nat_tests)

-- a choice of true is an or
pub cond_or : (a b : Bool) → cond a true b ≡ (a || b)
cond_or true b = refl
cond_or false b = refl

-- where a test fails nothing is added
pub nothing_more : (test : Bool) (n : ℕ) → test ≡ false → n ≡ n + (if test then 1 else 0)
nothing_more true n fails = cc
nothing_more false n fails = omega arith

-- the count of a longer list
pub count_by-push : {X : Type 0} (p : X → Bool) (xs : List X) (y : X) → count_by p (xs ++ y ∷ []) ≡ count_by p xs + (if p y then 1 else 0)
count_by-push p xs y = grind (arith, common_steps)

-- counts that were at most n are at most m above n after one more
pub count_at_most : (counts : List ℕ) (place file n m : ℕ) → place < length counts → ((k : ℕ) → get_or counts k 0 ≤ n) → n + 1 ≤ m
    → get_or (set counts place (get_or counts place 0 + 1)) file 0 ≤ m
count_at_most counts place file n m inside most more = grind (arith, count_one_more counts place file inside, most file)

-- where none of a run passes, its first doesn't
pub none_at_first : (p : ℕ → Bool) (first n : ℕ) → 0 < n → list_any p (range_with_len first n) ≡ false → p first ≡ false
none_at_first p first zero some none = absurd (omega arith)
none_at_first p first (suc n) some none = grind (arith, common_steps)

-- sameness goes both ways
same_claim-comm : (c d : Claim) → same_claim c d ≡ same_claim d c
same_claim-comm (BlockOf file b) (BlockOf other k) = grind (arith, nat_tests)
same_claim-comm (BlockOf file b) (ExternalOf n) = refl
same_claim-comm (ExternalOf n) (BlockOf file b) = refl
same_claim-comm (ExternalOf m) (ExternalOf n) = grind (arith, nat_tests)

-- where a test agrees with another, so do their searches
pub list_any-same : {X : Type 0} (p q : X → Bool) → ((x : X) → p x ≡ q x) → (xs : List X) → list_any p xs ≡ list_any q xs
list_any-same p q same [] = refl
list_any-same p q same (x ∷ xs) = ap (λ t. t || list_any p xs) (same x) ∙ ap (λ t. q x || t) (list_any-same p q same xs)

-- where none of some used blocks is in a list, its first used block isn't among them
pub first_apart : (c : Claim) (claims others : List Claim) → list_any (has_claim (c ∷ claims)) others ≡ false → has_claim others c ≡ false
unfolding has_claim
first_apart c claims [] apart = refl
first_apart c claims (d ∷ others) apart =
    let parts = or_parts (same_claim d c || list_any (same_claim d) claims) (list_any (has_claim (c ∷ claims)) others) apart in
    let first = or_parts (same_claim d c) (list_any (same_claim d) claims) parts.0 in
    ap (λ t. t || list_any (same_claim c) others) (same_claim-comm c d ∙ first.0) ∙ first_apart c claims others parts.1

-- where none of some used blocks is in a list, none of those after the first is
pub rest_apart : (c : Claim) (claims others : List Claim) → list_any (has_claim (c ∷ claims)) others ≡ false → list_any (has_claim claims) others ≡ false
unfolding has_claim
rest_apart c claims [] apart = refl
rest_apart c claims (d ∷ others) apart =
    let parts = or_parts (same_claim d c || list_any (same_claim d) claims) (list_any (has_claim (c ∷ claims)) others) apart in
    let first = or_parts (same_claim d c) (list_any (same_claim d) claims) parts.0 in
    ap (λ t. t || list_any (has_claim claims) others) first.1 ∙ rest_apart c claims others parts.1

-- two lists of used blocks that occur once and share none make one
pub repeats-append : (claims others : List Claim) → repeats claims ≡ false → repeats others ≡ false → list_any (has_claim claims) others ≡ false
    → repeats (claims ++ others) ≡ false
unfolding repeats
repeats-append [] others once once_more apart = once_more
repeats-append (c ∷ claims) others once once_more apart =
    let parts = or_parts (has_claim claims c) (repeats claims) once in
    ap (λ t. t || repeats (claims ++ others)) (has_claim-append claims others c ∙ ap (λ t. t || has_claim others c) parts.0 ∙ first_apart c claims others apart)
    ∙ repeats-append claims others parts.1 once_more (rest_apart c claims others apart)

-- the blocks of a run occur once
repeats-blocks : (file s n : ℕ) → repeats (map (λ b. BlockOf file b) (range_with_len s n)) ≡ false
unfolding repeats
repeats-blocks file s zero = refl
repeats-blocks file s (suc n) =
    let before : ((file == file) && is_between (s + 1) (s + 1 + n) s) ≡ false = grind (arith, nat_tests) in
    ap (λ t. t || repeats (map (λ b. BlockOf file b) (range_with_len (s + 1) n))) (has_claim-blocks file (s + 1) n file s ∙ before)
    ∙ repeats-blocks file (s + 1) n

-- an address uses nothing twice
pub repeats-claims_of : (w : ℕ) → w ≢ 0 → repeats (claims_of w) ≡ false
repeats-claims_of w some =
    let cases : ((eqb (kind_of w) external ≡ true) × (kind_of w ≡ external)) ⊎ ((eqb (kind_of w) external ≡ false) × (kind_of w ≢ external)) = eqb_tells (kind_of w) external in
    elim cases [
      | inl number ↦ ap repeats (claims_of-external w some number.1) ∙ repeats-one (ExternalOf (external_number w))
      | inr blocks ↦ ap repeats (claims_of-blocks w some blocks.1) ∙ repeats-blocks (file_selector w) (first_block w) (block_count w)
    ]
