-- A file that grows: its new groups are free, and its counters still agree with its map.
use Rattle.std.proofs.Common.{◌≡◌, ◌≢◌, ℕ, zero, suc, ◌+◌, ◌*◌, ◌/◌, ◌%◌, ◌<◌, ◌≤◌, ◌⊎◌, inl, inr, List, [], ◌∷◌, max, Bool, true, false, ◌&&◌, ◌||◌, nat_le, nat_lt, refl, sym, ◌∙◌, ap, ap₂, subst, arith, ⊎_elim}
use Rattle.std.specs.Prelude.{◌==◌}
use Rattle.std.specs.List.{All, count_by, range_with_len}
use Rattle.std.proofs.lemmas.Bool.{cases_lt}
use Rattle.std.proofs.lemmas.Bool.Decides.{nat_tests}
use Rattle.spec_image.specs.Image.{Image, Block, External, same_file, byte}
use Rattle.spec_image.specs.Footprint.{SameOutside}
use Rattle.spec_image.proofs.Footprints.{same_word_outside}
use Rattle.spec_format.specs.Address.{file_selector, first_block, block_count, kind_of, external}
use Rattle.spec_format.specs.Claims.{BlockOf, claims_of, claims_of_all, has_claim, is_in_file}
use Rattle.spec_format.specs.Headers.{empty_of}
use Rattle.spec_format.specs.BlockFiles.{is_among, max_entries_in, stands_in, most_blocks}
use Rattle.spec_format.specs.Maps.{is_block_marked, are_free, has_run, longest_run, groups_with, groups_of, AreAllocations, EmptyAgrees}
use Rattle.blk_disk.specs.declared.tables.BlockFiles.{BlockFiles}
use Rattle.blk_disk.specs.Tables.{Agrees, Enlarges, all_files, blocks_of, length_in}
use Rattle.blk_disk.specs.Growth.{grown, new_groups, grown_length, growth_of, raised}
use Rattle.blk_addr.proofs.ClaimLemmas.{has_claim-append}
use Rattle.std.proofs.lemmas.List.Elements.{All-head, All-tail}
use Rattle.blk_alloc.specs.Owning.{is_of}
use Rattle.spec_format.proofs.Groups.{longest_run-same, count-same, counted_most, first_counted, one}
use Rattle.blk_alloc.proofs.Lists.{claims_blocks}
use Rattle.blk_alloc.proofs.Standing.{StandsHere, stands_here}
use Rattle.blk_alloc.proofs.Kept.{grow_larger}
use Rattle.blk_alloc.proofs.Widening.{Widens, mark_kept}

-- what growth spares: the map, and num_entries
map_spared : (n f i : ℕ) → (80 ≤ i) ⊎ ((16 ≤ i) × (i < 20)) → (growth_of n).bytes (Block f) i ≡ false
map_spared n f i place = by_test (same_file (Block n) (Block f))
  where
    by_test : (t : Bool) → (false || ((t && (nat_le 36 i && nat_lt i 40)) || (t && (nat_le 20 i && nat_lt i 24)))) ≡ false
    by_test true = grind (arith, nat_tests)
    by_test false = refl

module _ (old new : BlockFiles) (from mid : Image) (n : ℕ) (enlarges : Enlarges old new n (grown (blocks_of old n)) (max (length_in old n) (grown_length old n))) (below : blocks_of old n < most_blocks) (same : SameOutside (growth_of n) from mid) where
  pub grow_widens : Widens old new from mid
  grow_widens = record {
    tables = grow_larger old new n enlarges below;
    externals = λ m. same.files (External m) refl;
    marks = λ f b there. mark_kept from mid f b (same.bytes (Block f) (80 + b / 8) (map_spared n f (80 + b / 8) (inl (omega arith))));
    allocations = λ f there j.
        same.bytes (Block f) 16 (map_spared n f 16 (inr (omega arith, omega arith))) j + 256 * same.bytes (Block f) 17 (map_spared n f 17 (inr (omega arith, omega arith))) j
        + 65536 * same.bytes (Block f) 18 (map_spared n f 18 (inr (omega arith, omega arith))) j + 16777216 * same.bytes (Block f) 19 (map_spared n f 19 (inr (omega arith, omega arith))) j;
  }

pub in_file : (w n : ℕ) → is_in_file n w ≡ true → (kind_of w ≢ external) × (file_selector w ≡ n)
unfolding is_in_file
in_file w n is = (grind (arith, nat_tests), grind (arith, nat_tests))

not_of : (w n b : ℕ) → first_block w + block_count w ≤ b → is_of w n b ≡ false
unfolding is_of
not_of w n b past = grind (arith, nat_tests)

-- blocks past the number of blocks of a file are not marked, where its allocations are valid
none_past : (image : Image) (n b : ℕ) → max_entries_in image n ≤ b → (ws : List ℕ) → All (λ w. stands_in image w ≡ true) ws → All (λ w. is_in_file n w ≡ true) ws → has_claim (claims_of_all ws) (BlockOf n b) ≡ false
unfolding has_claim
none_past image n b past [] stand here = refl
none_past image n b past (w ∷ ws) stand here =
    let file = in_file w n (All-head (λ x. is_in_file n x ≡ true) w ws here) in
    let is : StandsHere image w = stands_here image w file.0 (All-head (λ x. stands_in image x ≡ true) w ws stand) in
    let low : first_block w + block_count w ≤ max_entries_in image n = subst (λ (m : ℕ). first_block w + block_count w ≤ max_entries_in image m) file.1 is.below in
    has_claim-append (claims_of w) (claims_of_all ws) (BlockOf n b)
    ∙ ap₂ (λ (x y : Bool). x || y) (claims_blocks w n b is.blocks ∙ not_of w n b (omega (arith, low, past)))
    (none_past image n b past ws (All-tail (λ x. stands_in image x ≡ true) w ws stand) (All-tail (λ x. is_in_file n x ≡ true) w ws here))

pub past_unmarked : (image : Image) (n : ℕ) (words : List ℕ) → AreAllocations image n words → (b : ℕ) → max_entries_in image n ≤ b → b < most_blocks → is_block_marked image n b ≡ false
past_unmarked image n words are b past small = are.marks b small ∙ none_past image n b past words are.stand are.here

-- a count in two parts
count-append : (p : ℕ → Bool) (s n m : ℕ) → count_by p (range_with_len s (n + m)) ≡ count_by p (range_with_len s n) + count_by p (range_with_len (s + n) m)
count-append p s zero m =
    let e : count_by p (range_with_len s (0 + m)) ≡ count_by p (range_with_len s m) = ap (λ (k : ℕ). count_by p (range_with_len s k)) {x = 0 + m} {y = m} (omega arith) in
    let d : count_by p (range_with_len s m) ≡ count_by p (range_with_len (s + 0) m) = ap (λ (k : ℕ). count_by p (range_with_len k m)) {x = s} {y = s + 0} (omega arith) in
    let none : count_by p (range_with_len s 0) ≡ 0 = refl in
    omega (arith, e, d, none)
count-append p s (suc n) m =
    let rest = count-append p (s + 1) n m in
    let a = first_counted p s n in
    let b = first_counted p s (n + m) in
    let e : count_by p (range_with_len s (suc n + m)) ≡ count_by p (range_with_len s (suc (n + m))) = ap (λ (k : ℕ). count_by p (range_with_len s k)) {x = suc n + m} {y = suc (n + m)} (omega arith) in
    let d : count_by p (range_with_len (s + 1 + n) m) ≡ count_by p (range_with_len (s + suc n) m) = ap (λ (k : ℕ). count_by p (range_with_len k m)) {x = s + 1 + n} {y = s + suc n} (omega arith) in
    omega (arith, rest, a, b, e, d)

-- where all of some pass, all are counted
pub count-all : (p : ℕ → Bool) (s n : ℕ) → ((i : ℕ) → s ≤ i → i < s + n → p i ≡ true) → count_by p (range_with_len s n) ≡ n
count-all p s zero all = refl
count-all p s (suc n) all = let rest = count-all p (s + 1) n (λ i low high. all i (omega arith) (omega arith)) in let a = first_counted p s n in let e : one (p s) ≡ 1 = ap one (all s (omega arith) (omega arith)) in omega (arith, rest, a, e)

pub count-none : (p : ℕ → Bool) (s n : ℕ) → ((i : ℕ) → s ≤ i → i < s + n → p i ≡ false) → count_by p (range_with_len s n) ≡ 0
count-none p s zero none = refl
count-none p s (suc n) none = let rest = count-none p (s + 1) n (λ i low high. none i (omega arith) (omega arith)) in let a = first_counted p s n in let e : one (p s) ≡ 0 = ap one (none s (omega arith) (omega arith)) in omega (arith, rest, a, e)

-- a group of which no block is marked has a longest run of four
pub free_group : (marked : ℕ → Bool) (g : ℕ) → ((i : ℕ) → i < 4 → marked (4 * g + i) ≡ false) → longest_run marked g ≡ 4
unfolding longest_run has_run are_free
free_group marked g free = longest_run-same marked (λ b. false) g 0 free ∙ refl

-- counters of a file that has more groups, all of them free
pub more_groups : (from mid : Image) (n more : ℕ) → EmptyAgrees from n → ((g : ℕ) → g < groups_of (max_entries_in from n) → longest_run (is_block_marked mid n) g ≡ longest_run (is_block_marked from n) g)
    → ((g : ℕ) → groups_of (max_entries_in from n) ≤ g → g < groups_of (max_entries_in from n) + more → longest_run (is_block_marked mid n) g ≡ 4)
    → groups_of (max_entries_in mid n) ≡ groups_of (max_entries_in from n) + more
    → ((i : ℕ) → i < 3 → empty_of (byte mid (Block n)) i ≡ empty_of (byte from (Block n)) i) → empty_of (byte mid (Block n)) 3 ≡ empty_of (byte from (Block n)) 3 + more → EmptyAgrees mid n
unfolding EmptyAgrees groups_with
more_groups from mid n more was kept free total empty last i small =
    let q : ℕ → Bool = λ g. longest_run (is_block_marked mid n) g == i + 1 in
    let p : ℕ → Bool = λ g. longest_run (is_block_marked from n) g == i + 1 in
    let groups : ℕ = groups_of (max_entries_in from n) in
    let here : empty_of (byte from (Block n)) i ≡ count_by p (range_with_len 0 groups) = was i small in
    let split : count_by q (range_with_len 0 (groups + more)) ≡ count_by q (range_with_len 0 groups) + count_by q (range_with_len (0 + groups) more) = count-append q 0 groups more in
    let first : count_by q (range_with_len 0 groups) ≡ count_by p (range_with_len 0 groups) = count-same q p 0 groups (λ g low high. ap (λ (r : ℕ). r == i + 1) (kept g (omega (arith, high)))) in
    ⊎_elim
    (λ (lower : i < 3).
    let none : count_by q (range_with_len (0 + groups) more) ≡ 0 = count-none q (0 + groups) more (λ g low high. ap (λ (r : ℕ). r == i + 1) (free g (omega (arith, low)) (omega (arith, high))) ∙ (let d = lower in grind (arith, nat_tests))) in
    let e = empty i lower in
    let all : empty_of (byte mid (Block n)) i ≡ count_by q (range_with_len 0 (groups + more)) = omega (arith, here, split, first, none, e) in
    all ∙ ap (λ (k : ℕ). count_by q (range_with_len 0 k)) (sym total))
    (λ (upto : 3 ≤ i).
    let is : i ≡ 3 = omega arith in
    let every : count_by q (range_with_len (0 + groups) more) ≡ more = count-all q (0 + groups) more (λ g low high. ap (λ (r : ℕ). r == i + 1) (free g (omega (arith, low)) (omega (arith, high))) ∙ (let d = is in grind (arith, nat_tests))) in
    let e : empty_of (byte mid (Block n)) i ≡ empty_of (byte from (Block n)) i + more = subst (λ (k : ℕ). empty_of (byte mid (Block n)) k ≡ empty_of (byte from (Block n)) k + more) (sym is) last in
    let all : empty_of (byte mid (Block n)) i ≡ count_by q (range_with_len 0 (groups + more)) = omega (arith, here, split, first, every, e) in
    all ∙ ap (λ (k : ℕ). count_by q (range_with_len 0 k)) (sym total))
    (cases_lt i 3)

-- A linked file whose counters agree with its map grows.
module _ (old new : BlockFiles) (from mid : Image) (n : ℕ) (agrees : Agrees old from) (agrees_new : Agrees new mid) (among : is_among (all_files old) n ≡ true)
    (enlarges : Enlarges old new n (grown (blocks_of old n)) (max (length_in old n) (grown_length old n))) (below : blocks_of old n < most_blocks)
    (whole : max_entries_in from n % 4 ≡ 0) (same : SameOutside (growth_of n) from mid) (raise : empty_of (byte mid (Block n)) 3 ≡ raised from n (new_groups (blocks_of old n)))
    (words : List ℕ) (are : AreAllocations from n words) (empty : EmptyAgrees from n) where
  blocks_before : max_entries_in from n ≡ blocks_of old n
  blocks_before = sym (agrees.blocks n among)

  blocks_later : max_entries_in mid n ≡ grown (blocks_of old n)
  blocks_later = sym (agrees_new.blocks n (ap (λ (l : List ℕ). is_among l n) enlarges.all ∙ among)) ∙ enlarges.blocks_there

  marks_same : (b : ℕ) → is_block_marked mid n b ≡ is_block_marked from n b
  marks_same b = (grow_widens old new from mid n enlarges below same).marks n b among

  -- the new blocks are free
  pub new_free : (b : ℕ) → blocks_of old n ≤ b → b < grown (blocks_of old n) → is_block_marked mid n b ≡ false
  new_free b low high = marks_same b ∙ past_unmarked from n words are b (omega (arith, low, blocks_before)) (omega (arith, high))

  lower_same : (i : ℕ) → i < 3 → empty_of (byte mid (Block n)) i ≡ empty_of (byte from (Block n)) i
  lower_same i small = same_word_outside (growth_of n) from mid (Block n) (24 + 4 * i) same (λ k low high. spared k (omega (arith, low)) (omega (arith, high, small)))
    where
      spared : (k : ℕ) → 24 ≤ k → k < 36 → (growth_of n).bytes (Block n) k ≡ false
      spared k low high = by_test (same_file (Block n) (Block n))
        where
          by_test : (t : Bool) → (false || ((t && (nat_le 36 k && nat_lt k 40)) || (t && (nat_le 20 k && nat_lt k 24)))) ≡ false
          by_test true = grind (arith, nat_tests)
          by_test false = refl

  few : empty_of (byte from (Block n)) 3 ≤ most_blocks
  unfolding EmptyAgrees groups_with
  few = let is = empty 3 (omega arith) in let most = counted_most (λ g. longest_run (is_block_marked from n) g == 4) 0 (groups_of (max_entries_in from n)) in omega (arith, is, most, blocks_before, below)

  -- the counters agree with the map
  pub grown_empty : EmptyAgrees mid n
  grown_empty =
      more_groups from mid n (new_groups (blocks_of old n)) empty
      (λ g low. longest_run-same (is_block_marked mid n) (is_block_marked from n) g g (λ i small. marks_same (4 * g + i)))
      (λ g low high. free_group (is_block_marked mid n) g (λ i small. new_free (4 * g + i) (omega (arith, low, small, blocks_before, whole)) (omega (arith, low, high, small, blocks_before, whole, below))))
      (omega (arith, blocks_before, blocks_later, whole, below)) lower_same (raise ∙ (let least = few in omega (arith, least, below)))
