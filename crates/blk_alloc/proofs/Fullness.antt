-- Files that have no space hold many allocations: each of their groups has one of its own.
use Rattle.std.proofs.Common.{◌≡◌, ◌≢◌, ℕ, zero, suc, ◌+◌, ◌*◌, ◌/◌, ◌%◌, ◌<◌, ◌≤◌, ◌⊎◌, inl, inr, List, [], ◌∷◌, length, Bool, true, false, ◌&&◌, ◌||◌, not, nat_le, refl, sym, ◌∙◌, ap, subst, arith, ⊎_elim}
use Rattle.std.specs.Prelude.{◌==◌}
use Rattle.std.specs.List.{All, list_all, list_any, count_by, sum_by, range_with_len}
use Rattle.std.proofs.lemmas.Grind.{common_steps}
use Rattle.std.proofs.lemmas.Bool.{cases_eq}
use Rattle.std.proofs.lemmas.Bool.Decides.{nat_tests}
use Rattle.std.proofs.lemmas.List.Elements.{All-head, All-tail}
use Rattle.spec_image.specs.Image.{Image, byte, Block}
use Rattle.spec_format.specs.Address.{first_block, block_count}
use Rattle.spec_format.specs.Claims.{BlockOf, claims_of, claims_of_all, has_claim, is_in_file}
use Rattle.spec_format.specs.Headers.{allocations_of}
use Rattle.spec_format.specs.BlockFiles.{max_entries_in, stands_in, most_blocks}
use Rattle.spec_format.specs.Maps.{is_block_marked, are_free, groups_of, AreAllocations}
use Rattle.blk_addr.proofs.ClaimLemmas.{has_claim-append}
use Rattle.blk_alloc.specs.Owning.{is_of}
use Rattle.blk_alloc.specs.Places.{is_place}
use Rattle.blk_alloc.proofs.Addresses.{in_group}
use Rattle.spec_format.proofs.Groups.{first_counted, one}
use Rattle.blk_alloc.proofs.Growing.{count-all, count-none, in_file}
use Rattle.blk_alloc.proofs.Lists.{claims_blocks}
use Rattle.blk_alloc.proofs.Standing.{StandsHere, stands_here}

clash : true ≡ false → ⊥
clash e = cc

or_true : (a b : Bool) → (a || b) ≡ true → (a ≡ true) ⊎ (b ≡ true)
or_true true b e = inl refl
or_true false b e = inr e

or_left : (a b : Bool) → a ≡ true → (a || b) ≡ true
or_left true b e = refl
or_left false b e = absurd (clash (sym e))

or_right : (a b : Bool) → b ≡ true → (a || b) ≡ true
or_right true b e = refl
or_right false b e = e

-- among blocks that are not all free one is marked
some_marked : (p : ℕ → Bool) (s a n : ℕ) → list_all (λ i. not (p (s + i))) (range_with_len a n) ≡ false → (i : ℕ) × (i < a + n) × (p (s + i) ≡ true)
some_marked p s a zero fails = absurd (clash fails)
some_marked p s a (suc n) fails = by_test (p (s + a)) refl fails (λ rest. later (some_marked p s (a + 1) n rest))
  where
    later : ((i : ℕ) × (i < a + 1 + n) × (p (s + i) ≡ true)) → (i : ℕ) × (i < a + suc n) × (p (s + i) ≡ true)
    later found = (found.0, let small = found.1 in omega (arith, small), found.2)

    by_test : (t : Bool) → p (s + a) ≡ t → (not t && list_all (λ i. not (p (s + i))) (range_with_len (a + 1) n)) ≡ false
        → (list_all (λ i. not (p (s + i))) (range_with_len (a + 1) n) ≡ false → (i : ℕ) × (i < a + suc n) × (p (s + i) ≡ true)) → (i : ℕ) × (i < a + suc n) × (p (s + i) ≡ true)
    by_test true e h rest = (a, omega arith, e)
    by_test false e h rest = rest h

-- where so many blocks don't fit at the start of a group, one of its blocks is marked
group_marked : (p : ℕ → Bool) (count g : ℕ) → count ≤ 4 → is_place p count (4 * g) ≡ false → (i : ℕ) × (i < 4) × (p (4 * g + i) ≡ true)
unfolding is_place are_free
group_marked p count g few fails =
    let inside : nat_le (4 * g % 4 + count) 4 ≡ true = (let start : 4 * g % 4 ≡ 0 = omega arith in grind (arith, nat_tests)) in
    let taken : list_all (λ i. not (p (4 * g + i))) (range_with_len 0 count) ≡ false = ap (λ (t : Bool). t && list_all (λ i. not (p (4 * g + i))) (range_with_len 0 count)) (sym inside) ∙ fails in
    let found = some_marked p (4 * g) 0 count taken in
    (found.0, let small = found.1 in omega (arith, small, few), found.2)

same_group : (w n b : ℕ) → first_block w % 4 + block_count w ≤ 4 → is_of w n b ≡ true → (first_block w / 4 == b / 4) ≡ true
unfolding is_of
same_group w n b group of =
    let low : first_block w ≤ b = grind (arith, nat_tests) in
    let high : b < first_block w + block_count w = grind (arith, nat_tests) in
    let same : first_block w / 4 ≡ b / 4 = omega (arith, low, high, group) in
    grind (arith, nat_tests)

-- a used block has an allocation in its group
owner : (image : Image) (n b : ℕ) (ws : List ℕ) → All (λ w. stands_in image w ≡ true) ws → All (λ w. is_in_file n w ≡ true) ws → has_claim (claims_of_all ws) (BlockOf n b) ≡ true → list_any (λ w. first_block w / 4 == b / 4) ws ≡ true
unfolding has_claim
owner image n b [] stand here claimed = claimed
owner image n b (w ∷ ws) stand here claimed =
    let file = in_file w n (All-head (λ x. is_in_file n x ≡ true) w ws here) in
    let is : StandsHere image w = stands_here image w file.0 (All-head (λ x. stands_in image x ≡ true) w ws stand) in
    ⊎_elim
    (λ mine. or_left (first_block w / 4 == b / 4) (list_any (λ x. first_block x / 4 == b / 4) ws) (same_group w n b (in_group w is.address file.0) (sym (claims_blocks w n b is.blocks) ∙ mine)))
    (λ theirs. or_right (first_block w / 4 == b / 4) (list_any (λ x. first_block x / 4 == b / 4) ws) (owner image n b ws (All-tail (λ x. stands_in image x ≡ true) w ws stand) (All-tail (λ x. is_in_file n x ≡ true) w ws here) theirs))
    (or_true (has_claim (claims_of w) (BlockOf n b)) (has_claim (claims_of_all ws) (BlockOf n b)) (sym (has_claim-append (claims_of w) (claims_of_all ws) (BlockOf n b)) ∙ claimed))

-- one number is counted once at most
count-once : (k s n : ℕ) → count_by (λ g. k == g) (range_with_len s n) ≤ 1
count-once k s zero = omega arith
count-once k s (suc n) =
    let a = first_counted (λ g. k == g) s n in
    ⊎_elim
    (λ (here : k ≡ s). let rest = count-none (λ g. k == g) (s + 1) n (λ i low high. grind (arith, nat_tests)) in let most = one_most (k == s) in omega (arith, a, rest, most))
    (λ (apart : k ≢ s). let rest = count-once k (s + 1) n in let none : one (k == s) ≡ 0 = ap one (let t : (k == s) ≡ false = grind (arith, nat_tests) in t) in omega (arith, a, rest, none)) (cases_eq k s)
  where
    one_most : (t : Bool) → one t ≤ 1
    one_most true = omega arith
    one_most false = omega arith

-- what one test or another counts, both count
count-or : (p q : ℕ → Bool) (s n : ℕ) → count_by (λ g. p g || q g) (range_with_len s n) ≤ count_by p (range_with_len s n) + count_by q (range_with_len s n)
count-or p q s zero = omega arith
count-or p q s (suc n) =
    let rest = count-or p q (s + 1) n in
    let a = first_counted (λ g. p g || q g) s n in
    let b = first_counted p s n in
    let d = first_counted q s n in
    let here = both (p s) (q s) in
    omega (arith, rest, a, b, d, here)
  where
    both : (x y : Bool) → one (x || y) ≤ one x + one y
    both true y = omega arith
    both false y = omega arith

-- so many groups at most have one of some addresses
groups_owned : (ws : List ℕ) (n : ℕ) → count_by (λ g. list_any (λ w. first_block w / 4 == g) ws) (range_with_len 0 n) ≤ length ws
groups_owned [] n = let none = count-none (λ g. false) 0 n (λ i low high. refl) in omega (arith, none)
groups_owned (w ∷ ws) n =
    let rest = groups_owned ws n in
    let once = count-once (first_block w / 4) 0 n in
    let split = count-or (λ g. first_block w / 4 == g) (λ g. list_any (λ x. first_block x / 4 == g) ws) 0 n in
    omega (arith, rest, once, split)

-- a file where some blocks fit at the start of no group has an allocation for each group
pub full_counts : (image : Image) (n count : ℕ) (words : List ℕ) → count ≤ 4 → max_entries_in image n % 4 ≡ 0 → max_entries_in image n ≤ most_blocks → AreAllocations image n words → ((g : ℕ) → g < groups_of (max_entries_in image n) → is_place (is_block_marked image n) count (4 * g) ≡ false) → groups_of (max_entries_in image n) ≤ allocations_of (byte image (Block n))
full_counts image n count words few whole most are full =
    let hit : ℕ → Bool = λ g. list_any (λ w. first_block w / 4 == g) words in
    let all : count_by hit (range_with_len 0 (groups_of (max_entries_in image n))) ≡ groups_of (max_entries_in image n) = count-all hit 0 (groups_of (max_entries_in image n)) (λ g low high. owned g (omega (arith, high))) in
    let owned_most = groups_owned words (groups_of (max_entries_in image n)) in
    let counted = are.counted in
    omega (arith, all, owned_most, counted)
  where
    owned : (g : ℕ) → g < groups_of (max_entries_in image n) → list_any (λ w. first_block w / 4 == g) words ≡ true
    owned g there =
        let found = group_marked (is_block_marked image n) count g few (full g there) in
        let small = found.1 in
        let b : ℕ = 4 * g + found.0 in
        let claimed : has_claim (claims_of_all words) (BlockOf n b) ≡ true = sym (are.marks b (omega (arith, there, whole, most, small))) ∙ found.2 in
        let place : b / 4 ≡ g = omega (arith, small) in
        subst (λ (k : ℕ). list_any (λ w. first_block w / 4 == k) words ≡ true) place (owner image n b words are.stand are.here claimed)

-- many files that each hold so many hold many
pub many_full : (f : ℕ → ℕ) (least : ℕ) (files : List ℕ) → All (λ n. least ≤ f n) files → length files * least ≤ sum_by f files
many_full f least [] all = omega arith
many_full f least (n ∷ files) all =
    let rest = many_full f least files (All-tail (λ m. least ≤ f m) n files all) in
    let here = All-head (λ m. least ≤ f m) n files all in
    let sum : sum_by f (n ∷ files) ≡ f n + sum_by f files = grind (arith, common_steps) in
    let times : length (n ∷ files) * least ≡ least + length files * least = grind arith in
    omega (arith, rest, here, sum, times)
