-- In the worked folder the blocks of the sparse object's index are freed, the only allocation of their file; and so in each folder where that file has the same
-- header and length. Seen the other way, they are allocated.
use Rattle.std.proofs.Common.{◌≡◌, ◌≢◌, ⊎_elim, ℕ, zero, suc, ◌+◌, ◌*◌, ◌/◌, ◌%◌, ◌<◌, ◌≤◌, List, [], ◌∷◌, ◌++◌, All, length, refl, ap, sym, ◌∙◌, subst, arith, lit<, lit≤, Bool, true, false, Some}
use Rattle.std.specs.Prelude.{◌==◌, ◌&&◌, ◌||◌, filter, is_some, nat_le, nat_lt, not}
use Rattle.std.proofs.lemmas.Bool.{cases_lt}
use Rattle.std.proofs.lemmas.Bool.Decides.{nat_tests}
use Rattle.std.proofs.lemmas.List.Elements.{All-nil}
use Rattle.std.proofs.lemmas.Nat.Bits.{bit_at-zero}
use Rattle.spec_image.specs.Bytes.{spliced, word_bytes, zeros}
use Rattle.spec_image.specs.Footprint.{Footprint, SameOutside, touched_by_all}
use Rattle.spec_image.specs.Image.{Block, File, External, Image, Index, byte, length_of, same_file, word}
use Rattle.spec_image.specs.Steps.{TrailStep, Word, applied, with_word}
use Rattle.spec_image.proofs.Footprints.{same_word_outside, steps_inside}
use Rattle.spec_image.proofs.Images.{length-after_write, same_file-true, word-after_other, word-after_same}
use Rattle.spec_image.proofs.Runs.{until_last}
use Rattle.spec_image.proofs.Words.{same-word_at}
use Rattle.spec_format.specs.Address.{file_selector, kind_of}
use Rattle.spec_format.specs.BlockFiles.{block_checks, is_among, is_block_count, linked_as, max_entries_in, next_file_in, stands_in, HasSoundHeaders, KeepsHeaders}
use Rattle.spec_format.specs.Claims.{BlockOf, is_in_file, repeats}
use Rattle.spec_format.specs.Growth.{StaysWhole}
use Rattle.spec_format.specs.Headers.{allocations_of, empty_of, is_extent_place, list_checks, updating_of, field_checks}
use Rattle.spec_format.specs.Maps.{AreAllocations, EmptyAgrees, are_free, groups_of, groups_with, has_run, is_block_marked, is_block_marked_at, longest_run, KeepsFile}
use Rattle.spec_format.specs.Standing.{stands}
use Rattle.spec_format.proofs.Groups.{groups_same}
use Rattle.spec_format.proofs.Keeping.{none_both, none_parts, undamaged_still}
use Rattle.law_folder.proofs.claims.ByteChanges.{same-links}
use Rattle.law_folder.proofs.claims.ClaimLists.{no-claim}
use Rattle.law_folder.proofs.claims.Files.{headers-change}
use Rattle.spec_folder.specs.Sound.{AreLongEnough}
use Rattle.law_state.specs.AllocationLaws.{AreAllocated, AreFreed}
use Rattle.law_state.specs.Changes.{AddsAllocation, RemovesAllocation}
use Rattle.law_state.specs.Keeping.{IsMapped, all_loaded, words_in_use}
use Rattle.law_state.proofs.Freed.{allocated-added, freed-removed}
use Rattle.law_state.proofs.WorkedFolder.{short_folder}
use Rattle.law_state.proofs.WorkedKept.{same-bytes, linked-are, short-counters, worked-counts, worked-files, worked-keeps, worked-lengths, worked_folder}
use Rattle.law_state.proofs.WorkedState.{worked, worked_layout}
use Rattle.law_state.proofs.WorkedMaps.{later-words}

-- the word of the three blocks
abbrev pub index_word : ℕ
index_word = 0xC2030000

its-file : (kind_of index_word ≡ 4) × (file_selector index_word ≡ 3)
unfolding kind_of file_selector
its-file = (refl, refl)

-- no allocation, 256 empty groups, and no block marked
abbrev freeing : List TrailStep
freeing = Word (Block 3) 16 (word_bytes 0) ∷ Word (Block 3) 24 (word_bytes 0) ∷ Word (Block 3) 36 (word_bytes 256) ∷ Word (Block 3) 80 (word_bytes 0) ∷ []

abbrev touched : Footprint
touched = touched_by_all freeing

-- whether a byte of the header is among the words
abbrev among_words : ℕ → Bool
among_words i = (nat_le 16 i && nat_lt i 20) || ((nat_le 24 i && nat_lt i 28) || ((nat_le 36 i && nat_lt i 40) || ((nat_le 80 i && nat_lt i 84) || false)))

clear : (m i : ℕ) → among_words i ≡ false → touched.bytes (Block m) i ≡ false
clear m i none = go (same_file (Block 3) (Block m)) where
  go : (t : Bool) → ((t && (nat_le 16 i && nat_lt i 20)) || ((t && (nat_le 24 i && nat_lt i 28)) || ((t && (nat_le 36 i && nat_lt i 40)) || ((t && (nat_le 80 i && nat_lt i 84)) || false)))) ≡ false
  go true = none
  go false = refl

elsewhere : (m i : ℕ) → m ≢ 3 → touched.bytes (Block m) i ≡ false
elsewhere m i apart = go (same_file (Block 3) (Block m)) refl where
  go : (t : Bool) → same_file (Block 3) (Block m) ≡ t → ((t && (nat_le 16 i && nat_lt i 20)) || ((t && (nat_le 24 i && nat_lt i 28)) || ((t && (nat_le 36 i && nat_lt i 40)) || ((t && (nat_le 80 i && nat_lt i 84)) || false)))) ≡ false
  go true e = absurd (let f : ◌≡◌ {A = File} (Block 3) (Block m) = same_file-true (Block 3) (Block m) e in apart (let n : 3 ≡ m = cc in sym n))
  go false e = refl

early : (m i : ℕ) → i < 16 → touched.bytes (Block m) i ≡ false
early m i small = clear m i (grind (arith, nat_tests))

extents : (m i : ℕ) → is_extent_place i ≡ true → touched.bytes (Block m) i ≡ false
extents m i is = clear m i (grind (arith, nat_tests))

none-repeats : repeats [] ≡ false
unfolding repeats
none-repeats = refl

-- ---- in any folder

module _ (from : Image) where
  abbrev first : Image
  first = applied (Word (Block 3) 16 (word_bytes 0)) from

  abbrev second : Image
  second = applied (Word (Block 3) 24 (word_bytes 0)) first

  abbrev third : Image
  third = applied (Word (Block 3) 36 (word_bytes 256)) second

  abbrev pub freed_folder : Image
  freed_folder = applied (Word (Block 3) 80 (word_bytes 0)) third

  same : SameOutside touched from freed_folder
  same = until_last (SameOutside touched from) (SameOutside touched from) freeing from (steps_inside freeing from)

  other-word : (i : ℕ) → among_words i ≡ false → among_words (i + 1) ≡ false → among_words (i + 2) ≡ false → among_words (i + 3) ≡ false → word freed_folder (Block 3) i ≡ word from (Block 3) i
  other-word i a b c d = same-word_at (byte freed_folder (Block 3)) (byte from (Block 3)) i (same.bytes (Block 3) i (clear 3 i a)) (same.bytes (Block 3) (i + 1) (clear 3 (i + 1) b)) (same.bytes (Block 3) (i + 2) (clear 3 (i + 2) c)) (same.bytes (Block 3) (i + 3) (clear 3 (i + 3) d))

  next-same : next_file_in freed_folder ≡ next_file_in from
  unfolding next_file_in
  next-same = λ j n. same.bytes (Block n) 10 (early n 10 (lit< tt)) j + 256 * same.bytes (Block n) 11 (early n 11 (lit< tt)) j

  linked-same : (n : ℕ) → linked_as freed_folder n ≡ linked_as from n
  linked-same = same-links from freed_folder (λ n. ap (λ (f : ℕ → ℕ). f n) next-same)

  blocks-same : (n : ℕ) → max_entries_in freed_folder n ≡ max_entries_in from n
  unfolding max_entries_in
  blocks-same n = λ j. same.bytes (Block n) 20 (clear n 20 refl) j + 256 * same.bytes (Block n) 21 (clear n 21 refl) j + 65536 * same.bytes (Block n) 22 (clear n 22 refl) j + 16777216 * same.bytes (Block n) 23 (clear n 23 refl) j

  stands-same : stands_in freed_folder ≡ stands_in from
  stands-same = λ j w. stands (λ m. linked-same m j) (λ m. blocks-same m j) (λ m. same.lengths (Block m) refl j) (λ m. same.files (External m) refl j) w

  -- ---- the other files

  same-file : (n : ℕ) → n ≢ 3 → byte freed_folder (Block n) ≡ byte from (Block n)
  same-file n apart = λ j i. same.bytes (Block n) i (elsewhere n i apart) j

  other-file : (n : ℕ) → n ≢ 3 → KeepsFile from freed_folder n
  unfolding EmptyAgrees
  other-file n apart = record {
    allocations = λ words are. record {
      stand = subst (λ (f : ℕ → Bool). All (λ w. f w ≡ true) words) (sym stands-same) are.stand;
      here = are.here;
      apart = are.apart;
      marks = λ b small. ap (λ (f : ℕ → ℕ). is_block_marked_at f b) (same-file n apart) ∙ are.marks b small;
      counted = ap allocations_of (same-file n apart) ∙ are.counted;
    };
    empty = λ agrees i small. ap (λ (f : ℕ → ℕ). empty_of f i) (same-file n apart) ∙ agrees i small
        ∙ ap (λ (f : ℕ → ℕ). groups_with (is_block_marked_at f) (groups_of (max_entries_in from n)) (i + 1)) (sym (same-file n apart))
        ∙ ap (λ (m : ℕ). groups_with (is_block_marked freed_folder n) (groups_of m) (i + 1)) (sym (blocks-same n));
  }

  -- ---- the folder stays whole

  head-word : (m i : ℕ) → i + 4 ≤ 16 → word freed_folder (Block m) i ≡ word from (Block m) i
  head-word m i low = same_word_outside touched from freed_folder (Block m) i same (λ k from below. early m k (omega arith))

  still-headers-sound : HasSoundHeaders from → HasSoundHeaders freed_folder
  unfolding field_checks list_checks
  still-headers-sound well =
      let p = none_parts (field_checks (byte from Index) (length_of from Index)) (list_checks (byte from Index) ++ block_checks from) well in
      let q = none_parts (list_checks (byte from Index)) (block_checks from) p.1 in
      none_both (field_checks (byte from Index) (length_of from Index)) (list_checks (byte from Index) ++ block_checks freed_folder) p.0
      (none_both (list_checks (byte from Index)) (block_checks freed_folder) q.0
      (undamaged_still from freed_folder next-same (λ m. record {
        longer = let l = same.lengths (Block m) refl in omega (arith, l);
        magic = head-word m 0 (lit≤ tt);
        is_version = head-word m 4 (lit≤ tt);
        this_file = λ j. same.bytes (Block m) 8 (early m 8 (lit< tt)) j + 256 * same.bytes (Block m) 9 (early m 9 (lit< tt)) j;
        entry_size = head-word m 12 (lit≤ tt);
        count = λ right. subst (λ (n : ℕ). is_block_count n ≡ true) (sym (blocks-same m)) right;
      }) q.1))

  pub still-headers : KeepsHeaders from freed_folder
  still-headers = record { sound = still-headers-sound; magic = refl }

  stays-whole : StaysWhole from freed_folder
  stays-whole = record {
    grown = headers-change touched from freed_folder
        (record { index = λ i shown. refl; extents = extents; suffix = λ n i late. clear n i (grind (arith, nat_tests)); externals = λ n i. refl; external_sizes = λ n. refl }) same (λ n. let l = same.lengths (Block n) refl in omega (arith, l));
    headers = still-headers;
  }

-- the file has no other allocation
only-one : (words : List ℕ) → 1 ≡ length words → is_among words index_word ≡ true → filter (λ x. not (x == index_word)) words ≡ []
only-one [] one among = absurd (omega arith)
only-one (x ∷ []) one among = go (x == index_word) refl among where
  go : (t : Bool) → (x == index_word) ≡ t → (t || false) ≡ true → filter (λ y. not (y == index_word)) (x ∷ []) ≡ []
  go true e h = rw e refl
  go false e h = absurd (let z : false ≡ true = h in cc)
only-one (x ∷ y ∷ ys) one among = absurd (omega arith)

short-one : allocations_of (byte short_folder (Block 3)) ≡ 1
unfolding short_folder zeros with_word spliced
short-one = refl

short-run : (empty_of (byte short_folder (Block 3)) 1 ≡ 0) × (empty_of (byte short_folder (Block 3)) 2 ≡ 0)
unfolding short_folder zeros with_word spliced
short-run = (refl, refl)

-- ---- in one whose file has the header and the length of that of the worked folder

module _ (from : Image) (header : (i : ℕ) → i < 8192 → byte from (Block 3) i ≡ byte worked_folder (Block 3) i) (size : length_of from (Block 3) ≡ 4202496) where
  abbrev now : Image
  now = freed_folder from

  was : (i : ℕ) → i + 4 ≤ 8192 → word from (Block 3) i ≡ word worked_folder (Block 3) i
  was i low = same-word_at (byte from (Block 3)) (byte worked_folder (Block 3)) i (header i (omega (arith, low))) (header (i + 1) (omega (arith, low))) (header (i + 2) (omega (arith, low))) (header (i + 3) (omega (arith, low)))

  long : (length_of from (Block 3) ≡ 4202496) × (length_of (first from) (Block 3) ≡ 4202496) × (length_of (second from) (Block 3) ≡ 4202496) × (length_of (third from) (Block 3) ≡ 4202496)
  long = let a = size in
      let b : length_of (first from) (Block 3) ≡ 4202496 = length-after_write from (Block 3) (Block 3) 16 (word_bytes 0) ∙ a in
      let c : length_of (second from) (Block 3) ≡ 4202496 = length-after_write (first from) (Block 3) (Block 3) 24 (word_bytes 0) ∙ b in
      (a, b, c, length-after_write (second from) (Block 3) (Block 3) 36 (word_bytes 256) ∙ c)

  none-allocated : word now (Block 3) 16 ≡ 0
  none-allocated = word-after_other (third from) (Block 3) 80 (word_bytes 0) 16 (lit≤ tt) refl (omega arith) ∙ word-after_other (second from) (Block 3) 36 (word_bytes 256) 16 (lit≤ tt) refl (omega arith)
      ∙ word-after_other (first from) (Block 3) 24 (word_bytes 0) 16 (lit≤ tt) refl (omega arith) ∙ word-after_same from (Block 3) 16 0 (lit< tt) (let l = long.0 in omega (arith, l))

  none-of-one : word now (Block 3) 24 ≡ 0
  none-of-one = word-after_other (third from) (Block 3) 80 (word_bytes 0) 24 (lit≤ tt) refl (omega arith) ∙ word-after_other (second from) (Block 3) 36 (word_bytes 256) 24 (lit≤ tt) refl (omega arith)
      ∙ word-after_same (first from) (Block 3) 24 0 (lit< tt) (let l = long.1 in omega (arith, l))

  all-empty : word now (Block 3) 36 ≡ 256
  all-empty = word-after_other (third from) (Block 3) 80 (word_bytes 0) 36 (lit≤ tt) refl (omega arith) ∙ word-after_same (second from) (Block 3) 36 256 (lit< tt) (let l = long.2 in omega (arith, l))

  none-marked : word now (Block 3) 80 ≡ 0
  none-marked = word-after_same (third from) (Block 3) 80 0 (lit< tt) (let l = long.3 in omega (arith, l))

  -- ---- the map

  zero-byte : (k : ℕ) → 80 ≤ k → k < 8192 → byte now (Block 3) k ≡ 0
  zero-byte k low high = ⊎_elim
      (λ (near : k < 84). ⊎_elim (λ (a : k < 81). let e : k ≡ 80 = omega arith in rw e bytes.0) (λ (a : 81 ≤ k). ⊎_elim (λ (b : k < 82). let e : k ≡ 81 = omega arith in rw e bytes.1) (λ (b : 82 ≤ k). ⊎_elim (λ (c : k < 83). let e : k ≡ 82 = omega arith in rw e bytes.2) (λ (c : 83 ≤ k). let e : k ≡ 83 = omega arith in rw e bytes.3) (cases_lt k 83)) (cases_lt k 82)) (cases_lt k 81))
      (λ (far : 84 ≤ k). (same from).bytes (Block 3) k (clear 3 k (grind (arith, nat_tests))) ∙ header k high ∙ ap (λ (f : ℕ → ℕ). f k) (same-bytes (Block 3)) ∙ later-words 3 k (lit< tt) far high)
      (cases_lt k 84) where
        bytes : (byte now (Block 3) 80 ≡ 0) × (byte now (Block 3) 81 ≡ 0) × (byte now (Block 3) 82 ≡ 0) × (byte now (Block 3) 83 ≡ 0)
        bytes = let z = none-marked in (omega (arith, z), omega (arith, z), omega (arith, z), omega (arith, z))

  unmarked : (b : ℕ) → b < 64896 → is_block_marked now 3 b ≡ false
  unmarked b small = rw (zero-byte (80 + b / 8) (omega arith) (omega arith), bit_at-zero (b % 8)) refl

  no-allocations : AreAllocations now 3 []
  no-allocations = record { stand = All-nil _; here = All-nil _; apart = none-repeats; marks = λ b small. unmarked b small ∙ sym (no-claim (BlockOf 3 b)); counted = none-allocated }

  counted-one : allocations_of (byte from (Block 3)) ≡ 1
  counted-one = was 16 (lit≤ tt) ∙ ap allocations_of (same-bytes (Block 3)) ∙ short-one

  freed-allocations : (words : List ℕ) → AreAllocations from 3 words → is_among words index_word ≡ true → AreAllocations now 3 (filter (λ x. not (x == index_word)) words)
  freed-allocations words are among = subst (AreAllocations now 3) (sym (only-one words (sym counted-one ∙ are.counted) among)) no-allocations

  -- ---- groups

  no-run : (word from (Block 3) 28 ≡ 0) × (word from (Block 3) 32 ≡ 0)
  no-run = (was 28 (lit≤ tt) ∙ ap (λ (f : ℕ → ℕ). empty_of f 1) (same-bytes (Block 3)) ∙ short-run.0, was 32 (lit≤ tt) ∙ ap (λ (f : ℕ → ℕ). empty_of f 2) (same-bytes (Block 3)) ∙ short-run.1)

  free-groups : (i : ℕ) → i < 4 → empty_of (byte now (Block 3)) i ≡ groups_with (λ b. false) 256 (i + 1)
  unfolding groups_with longest_run has_run are_free
  free-groups zero small = none-of-one
  free-groups (suc zero) small = other-word from 28 refl refl refl refl ∙ no-run.0
  free-groups (suc (suc zero)) small = other-word from 32 refl refl refl refl ∙ no-run.1
  free-groups (suc (suc (suc zero))) small = all-empty
  free-groups (suc (suc (suc (suc i)))) small = absurd (omega arith)

  blocks-were : max_entries_in from 3 ≡ max_entries_in worked_folder 3
  unfolding max_entries_in
  blocks-were = was 20 (lit≤ tt)

  freed-empty : EmptyAgrees now 3
  unfolding EmptyAgrees
  freed-empty i small = free-groups i small ∙ groups_same (λ b. false) (is_block_marked now 3) 256 (i + 1) (λ b below. sym (unmarked b (omega arith))) ∙ ap (λ (m : ℕ). groups_with (is_block_marked now 3) (groups_of m) (i + 1)) (sym (blocks-same from 3 ∙ blocks-were ∙ worked-counts))

  pub are-freed : AreFreed from index_word now
  unfolding kind_of file_selector
  are-freed = record {
    block_kind = λ e. (let z : ◌≡◌ {A = ℕ} 4 0 = e in cc);
    footprint = touched;
    of_map = record { extents = extents; elsewhere = elsewhere; index = λ i. refl; sizes = λ file. refl };
    same = same from;
    allocations = freed-allocations;
    empty = λ agreed. freed-empty;
    updating = other-word from 56 refl refl refl refl ∙ was 56 (lit≤ tt) ∙ ap updating_of (same-bytes (Block 3)) ∙ (short-counters 3 (lit< tt)).1;
    elsewhere = other-file from;
    stays = stays-whole from;
  }

-- ---- and seen the other way it is allocated, where the word is among those that are in use

module _ (from : Image) (header : (i : ℕ) → i < 8192 → byte from (Block 3) i ≡ byte worked_folder (Block 3) i) (size : length_of from (Block 3) ≡ 4202496)
    (words rest : List ℕ) (first_word : filter (is_in_file 3) words ≡ index_word ∷ rest) (mapped : IsMapped from words 3) (linked_3 : linked_as from 3 ≡ Some 4) (long_enough : AreLongEnough from) (well : HasSoundHeaders from) where
  abbrev bare : Image
  bare = freed_folder from

  back : SameOutside touched bare from
  back = let same_outside = same from in record { bytes = λ file i out. sym (same_outside.bytes file i out); lengths = λ file out. sym (same_outside.lengths file out); files = λ file out. sym (same_outside.files file out) }

  no-more : (xs : List ℕ) → AreAllocations from 3 (index_word ∷ xs) → xs ≡ []
  no-more [] are = refl
  no-more (x ∷ xs) are = absurd (let c : ◌≡◌ {A = ℕ} 1 (suc (suc (length xs))) = sym (counted-one from header size) ∙ are.counted in omega (arith, c))

  its-allocation : AreAllocations from 3 (index_word ∷ [])
  its-allocation = let all : AreAllocations from 3 (index_word ∷ rest) = subst (AreAllocations from 3) first_word mapped.allocations in subst (λ (ws : List ℕ). AreAllocations from 3 (index_word ∷ ws)) (no-more rest all) all

  none-before : (xs : List ℕ) → AreAllocations bare 3 xs → xs ≡ []
  none-before [] are = refl
  none-before (x ∷ xs) are = absurd (let c : ◌≡◌ {A = ℕ} 0 (suc (length xs)) = sym (none-allocated from header size) ∙ are.counted in omega (arith, c))

  back-file : (n : ℕ) → n ≢ 3 → KeepsFile bare from n
  unfolding EmptyAgrees
  back-file n apart = record {
    allocations = λ ws are. record {
      stand = subst (λ (f : ℕ → Bool). All (λ w. f w ≡ true) ws) (stands-same from) are.stand;
      here = are.here;
      apart = are.apart;
      marks = λ b small. ap (λ (f : ℕ → ℕ). is_block_marked_at f b) (sym (same-file from n apart)) ∙ are.marks b small;
      counted = ap allocations_of (sym (same-file from n apart)) ∙ are.counted;
    };
    empty = λ agrees i small. ap (λ (f : ℕ → ℕ). empty_of f i) (sym (same-file from n apart)) ∙ agrees i small
        ∙ ap (λ (f : ℕ → ℕ). groups_with (is_block_marked_at f) (groups_of (max_entries_in bare n)) (i + 1)) (same-file from n apart)
        ∙ ap (λ (m : ℕ). groups_with (is_block_marked from n) (groups_of m) (i + 1)) (blocks-same from n);
  }

  pub are-allocated : AreAllocated bare index_word from
  unfolding kind_of file_selector
  are-allocated = record {
    block_kind = λ e. (let z : ◌≡◌ {A = ℕ} 4 0 = e in cc);
    footprint = touched;
    same = back;
    index = λ i. refl;
    apart = λ n i other late. elsewhere n i other;
    sizes = λ n other. refl;
    linked = λ n other. sym (linked-same from n);
    allocations = λ there ws are. subst (λ (xs : List ℕ). AreAllocations from 3 (index_word ∷ xs)) (sym (none-before ws are)) its-allocation;
    fresh = λ none. its-allocation;
    empty = mapped.empty;
    updating = mapped.updating;
    stands = its-allocation.stand 0 0 (omega arith);
    long_enough = long_enough 3 4 linked_3;
    elsewhere = λ n other linked. back-file n other;
    stays = record {
      grown = headers-change touched bare from (record { index = λ i shown. refl; extents = extents; suffix = λ n i late. clear n i (grind (arith, nat_tests)); externals = λ n i. refl; external_sizes = λ n. refl }) back (λ n. let l = (same from).lengths (Block n) refl in omega (arith, l));
      headers = record { sound = λ still. well; magic = refl };
    };
  }

-- ---- freed

abbrev bare_folder : Image
bare_folder = freed_folder worked_folder

index_is_freed : AreFreed worked_folder index_word bare_folder
index_is_freed = are-freed worked_folder (λ i small. refl) worked-lengths.3

pub index_is_removed : RemovesAllocation worked_folder index_word bare_folder
index_is_removed = freed-removed worked_folder bare_folder index_word index_is_freed

-- ---- allocated

linked-3 : linked_as worked_folder 3 ≡ Some 4
linked-3 = linked-are 3

one-word : filter (is_in_file 3) (words_in_use [] (all_loaded worked worked_layout (2 ∷ []))) ≡ index_word ∷ []
unfolding is_in_file kind_of file_selector
one-word = refl

index_is_allocated : AreAllocated bare_folder index_word worked_folder
index_is_allocated = are-allocated worked_folder (λ i small. refl) worked-lengths.3 (words_in_use [] (all_loaded worked worked_layout (2 ∷ []))) [] one-word (worked-files.mapped 3 (ap is_some linked-3)) linked-3 worked-keeps.entries.files.long_enough worked-keeps.entries.sound

index_is_added : AddsAllocation bare_folder index_word worked_folder
index_is_added = allocated-added bare_folder worked_folder index_word ((still-headers worked_folder).sound worked-keeps.entries.sound) index_is_allocated
