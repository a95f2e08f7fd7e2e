-- A file that is added: it has no blocks and no allocations, and all others are as they were.
use Rattle.std.proofs.Common.{◌≡◌, ◌≢◌, ℕ, suc, ◌+◌, ◌*◌, ◌/◌, ◌%◌, ◌<◌, ◌≤◌, inr, List, [], ◌∷◌, length, Bool, true, false, ◌&&◌, ◌||◌, nat_le, nat_lt, Option, Some, unwrap_or, refl, sym, ◌∙◌, ap, arith}
use Rattle.std.specs.Prelude.{◌==◌}
use Rattle.std.specs.Int.{bit_at}
use Rattle.std.proofs.lemmas.Bool.Decides.{nat_tests}
use Rattle.std.proofs.lemmas.Nat.Bits.{bit_at-zero}
use Rattle.std.proofs.lemmas.List.Elements.{All-nil}
use Rattle.spec_image.specs.Bytes.{content, zeros, word_at}
use Rattle.spec_image.specs.Image.{Image, Block, External, same_file, byte, bytes_of}
use Rattle.spec_image.specs.Steps.{with_word}
use Rattle.spec_image.specs.Footprint.{SameOutside, either, range, whole}
use Rattle.spec_image.proofs.Splices.{content-zeros}
use Rattle.spec_format.specs.Address.{block_size}
use Rattle.spec_format.specs.Headers.{empty_of, allocations_of, max_entries_of, block_magic, block_version}
use Rattle.spec_format.specs.Claims.{has_claim, is_in_file, repeats}
use Rattle.spec_format.specs.BlockFiles.{is_among, max_entries_in, stands_in}
use Rattle.spec_format.specs.Maps.{is_block_marked, groups_with, groups_of, AreAllocations, EmptyAgrees}
use Rattle.blk_disk.specs.declared.tables.BlockFiles.{BlockFiles}
use Rattle.blk_disk.specs.Tables.{Agrees, Joins, files_of, all_files}
use Rattle.spec_image.specs.Steps.{after}
use Rattle.spec_image.proofs.Cuts.{after-append}
use Rattle.spec_image.proofs.Images.{other-word, with_file-same}
use Rattle.blk_addr.specs.declared.kinds.Kind.{Kind}
use Rattle.blk_addr.specs.Kind.{kind_number}
use Rattle.blk_disk.specs.Growth.{IsLeastFileNumber, free_number, last_file, add_steps, file_steps, link_steps}
use Rattle.blk_disk.proofs.Joined.{among_kinds, by_kind, last_apart}
use Rattle.blk_disk.proofs.Additions.{new_header, made_is}
use Rattle.spec_format.proofs.SpareHeaders.{other_file}
use Rattle.spec_format.proofs.Among.{is_among_more}
use Rattle.blk_alloc.specs.Extending.{HasCounters, HasNoHints, KeepsFiles}
use Rattle.blk_alloc.proofs.Changing.{byte_beside}
use Rattle.blk_alloc.proofs.Kept.{apart, join_larger, kinds_kept}
use Rattle.blk_alloc.proofs.Widening.{Widens, allocations_more, mark_kept}

-- past its first fields a new header has zeros
zero_past : (kind n k : ℕ) → 16 ≤ k → content (new_header kind n) k ≡ 0
zero_past kind n k past =
    byte_beside 12 (block_size kind) (with_word 8 n (with_word 4 block_version (with_word 0 block_magic (zeros 8192)))) k (inr (omega arith))
    ∙ byte_beside 8 n (with_word 4 block_version (with_word 0 block_magic (zeros 8192))) k (inr (omega arith))
    ∙ byte_beside 4 block_version (with_word 0 block_magic (zeros 8192)) k (inr (omega arith))
    ∙ byte_beside 0 block_magic (zeros 8192) k (inr (omega arith))
    ∙ content-zeros 8192 k

zero_word : (kind n k : ℕ) → 16 ≤ k → word_at (content (new_header kind n)) k ≡ 0
zero_word kind n k past = omega (arith, zero_past kind n k past, zero_past kind n (k + 1) (omega arith), zero_past kind n (k + 2) (omega arith), zero_past kind n (k + 3) (omega arith))

module _ (mid : Image) (kind n : ℕ) (file : mid (Block n) ≡ Some (new_header kind n)) where
  bytes_new : bytes_of mid (Block n) ≡ new_header kind n
  bytes_new = ap (λ (o : Option (List ℕ)). unwrap_or o []) file

  unmarked_new : (b : ℕ) → is_block_marked mid n b ≡ false
  unmarked_new b =
      ap (λ (l : List ℕ). bit_at (content l (80 + b / 8)) (b % 8) == 1) bytes_new
      ∙ ap (λ (x : ℕ). bit_at x (b % 8) == 1) (zero_past kind n (80 + b / 8) (omega arith)) ∙ ap (λ (x : ℕ). x == 1) (bit_at-zero (b % 8))

  -- a new file has no allocations
  pub new_allocations : AreAllocations mid n []
  unfolding has_claim repeats
  new_allocations = record {
    stand = All-nil (λ w. stands_in mid w ≡ true);
    here = All-nil (λ w. is_in_file n w ≡ true);
    apart = refl;
    marks = λ b small. unmarked_new b;
    counted = ap (λ (l : List ℕ). allocations_of (content l)) bytes_new ∙ zero_word kind n 16 (omega arith);
  }

  -- the new file has no hints
  pub new_hints : HasNoHints mid n
  new_hints i small = ap (λ (l : List ℕ). word_at (content l) (40 + 4 * i)) bytes_new ∙ zero_word kind n (40 + 4 * i) (omega arith)

  -- the new file has no group that is counted
  pub new_counts : (i : ℕ) → empty_of (byte mid (Block n)) i ≡ 0
  new_counts i = ap (λ (l : List ℕ). empty_of (content l) i) bytes_new ∙ zero_word kind n (24 + 4 * i) (omega arith)

  no_blocks : max_entries_in mid n ≡ 0
  unfolding max_entries_in
  no_blocks = ap (λ (l : List ℕ). max_entries_of (content l)) bytes_new ∙ zero_word kind n 20 (omega arith)

  pub new_empty : EmptyAgrees mid n
  unfolding EmptyAgrees groups_with
  new_empty i small =
      new_counts i ∙ ap (λ (m : ℕ). groups_with (is_block_marked mid n) (m / 4) (i + 1)) (sym no_blocks)

  pub new_counters : HasCounters mid n
  new_counters = record { words = []; are = new_allocations; empty = new_empty; room = let none = new_allocations.counted in omega (arith, none) }

module _ (old new : BlockFiles) (from mid : Image) (kind n last : ℕ) (free : is_among (all_files old) n ≡ false) (joins : Joins old new kind n 0 8192)
    (same : SameOutside (either (whole (Block n)) (range (Block last) 10 2)) from mid) where
  spared : (f i : ℕ) → f ≢ n → 12 ≤ i → (either (whole (Block n)) (range (Block last) 10 2)).bytes (Block f) i ≡ false
  spared f i differs past = ap (λ (t : Bool). t || (same_file (Block last) (Block f) && (nat_le 10 i && nat_lt i 12))) (other_file n f differs) ∙ by_test (same_file (Block last) (Block f))
    where
      by_test : (t : Bool) → (false || (t && (nat_le 10 i && nat_lt i 12))) ≡ false
      by_test true = grind (arith, nat_tests)
      by_test false = refl

  kept : (f i : ℕ) → is_among (all_files old) f ≡ true → 12 ≤ i → byte mid (Block f) i ≡ byte from (Block f) i
  kept f i there past = same.bytes (Block f) i (spared f i (apart old new kind n free joins f there) past)

  pub join_widens : Widens old new from mid
  join_widens = record {
    tables = join_larger old new kind n free joins;
    externals = λ m. same.files (External m) refl;
    marks = λ f b there. mark_kept from mid f b (kept f (80 + b / 8) there (omega arith));
    allocations = λ f there j. kept f 16 there (omega arith) j + 256 * kept f 17 there (omega arith) j + 65536 * kept f 18 there (omega arith) j + 16777216 * kept f 19 there (omega arith) j;
  }

  empty_kept : (f : ℕ) → is_among (all_files old) f ≡ true → (i : ℕ) → empty_of (byte mid (Block f)) i ≡ empty_of (byte from (Block f)) i
  empty_kept f there i = λ j.
      kept f (24 + 4 * i) there (omega arith) j + 256 * kept f (24 + 4 * i + 1) there (omega arith) j
      + 65536 * kept f (24 + 4 * i + 2) there (omega arith) j + 16777216 * kept f (24 + 4 * i + 3) there (omega arith) j

  blocks_kept : (f : ℕ) → is_among (all_files old) f ≡ true → max_entries_in mid f ≡ max_entries_in from f
  unfolding max_entries_in
  blocks_kept f there = λ j. kept f 20 there (omega arith) j + 256 * kept f 21 there (omega arith) j + 65536 * kept f 22 there (omega arith) j + 16777216 * kept f 23 there (omega arith) j

  pub join_keeps : Agrees old from → Agrees new mid → KeepsFiles old from mid
  unfolding EmptyAgrees
  join_keeps before later f there = record {
    allocations = allocations_more old new from mid before later join_widens f there;
    empty = λ was i small. empty_kept f there i ∙ was i small ∙ (λ j. groups_with (λ b. sym (join_widens.marks f b there) j) (groups_of (sym (blocks_kept f there) j)) (i + 1));
  }

  -- a file that was in the tables is still in them
  pub all_kept : (f : ℕ) → is_among (all_files old) f ≡ true → is_among (all_files new) f ≡ true
  all_kept f there =
      among_kinds new f ∙ (λ j. kinds_kept old new kind n free joins f 1 (apart old new kind n free joins f there) j || kinds_kept old new kind n free joins f 2 (apart old new kind n free joins f there) j || kinds_kept old new kind n free joins f 3 (apart old new kind n free joins f there) j || kinds_kept old new kind n free joins f 4 (apart old new kind n free joins f there) j) ∙ sym (among_kinds old f) ∙ there

  -- the new file is among those of its kind
  pub new_among : is_among (files_of new kind) n ≡ true
  new_among = ap (λ (l : List ℕ). is_among l n) joins.last ∙ is_among_more (files_of old kind) n n ∙ last_true (is_among (files_of old kind) n) (n == n) (grind (arith, nat_tests))
    where
      last_true : (a b : Bool) → b ≡ true → (a || b) ≡ true
      last_true true b e = refl
      last_true false b e = e

-- the file after it was added
pub added_file : (files : BlockFiles) (image : Image) (k : Kind) → kind_number k ≢ 0 → Agrees files image → length (files_of files (kind_number k)) < 60 → IsLeastFileNumber files (free_number files)
    → after (add_steps files (kind_number k)) image (Block (free_number files)) ≡ Some (new_header (kind_number k) (free_number files))
added_file files image k block_kind agrees few least =
    by_kind (λ (j : ℕ). length (files_of files j) < 60 → after (add_steps files j) image (Block (free_number files)) ≡ Some (new_header j (free_number files))) each k block_kind few
  where
    each : (p : ℕ) → p < 4 → length (files_of files (suc p)) < 60 → after (add_steps files (suc p)) image (Block (free_number files)) ≡ Some (new_header (suc p) (free_number files))
    each p small room =
        let n : ℕ = free_number files in
        let made : Image = after (file_steps (suc p) n) image in
        ap (λ (i : Image). i (Block n)) (after-append (file_steps (suc p) n) (link_steps (last_file files (suc p)) n) image)
        ∙ other-word made (Block (last_file files (suc p))) (Block n) 10 (n % 256 ∷ n / 256 % 256 ∷ []) (other_file (last_file files (suc p)) n (λ e. last_apart files image p small agrees room least (sym e)))
        ∙ ap (λ (i : Image). i (Block n)) (made_is (suc p) n image) ∙ with_file-same image (Block n) (Some (new_header (suc p) n))

-- a file that was added has counters that agree with its map
pub added_counters : (files : BlockFiles) (image : Image) (k : Kind) → kind_number k ≢ 0 → Agrees files image → length (files_of files (kind_number k)) < 60 → IsLeastFileNumber files (free_number files)
    → HasCounters (after (add_steps files (kind_number k)) image) (free_number files)
added_counters files image k block_kind agrees few least = new_counters (after (add_steps files (kind_number k)) image) (kind_number k) (free_number files) (added_file files image k block_kind agrees few least)
