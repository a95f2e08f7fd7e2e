-- The map of a block file: which blocks are marked as used, and how much space the groups of four blocks have.
use Rattle.std.specs.Prelude.{◌≡◌, ℕ, ◌+◌, ◌-◌, ◌*◌, ◌/◌, ◌<◌, List, length, Bool, true, false, not, ◌==◌, if◌then◌else◌}
use Rattle.std.specs.List.{All, list_any, list_all, count_by, range_with_len}
use Rattle.spec_image.specs.Image.{Block, Image, byte}
use Rattle.spec_format.specs.Claims.{BlockOf, claims_of_all, has_claim, is_in_file, repeats}
use Rattle.spec_format.specs.Headers.{allocations_of, empty_of}
use Rattle.spec_format.specs.SparseIndex.{map_bit}
use Rattle.spec_format.specs.BlockFiles.{max_entries_in, most_blocks, stands_in}

-- the place of the map in a block file's header
abbrev pub map_place : ℕ
map_place = 80

-- the number of blocks of a group
abbrev pub group_size : ℕ
group_size = 4

-- the number of groups of so many blocks
abbrev pub groups_of : ℕ → ℕ
groups_of blocks = blocks / group_size

-- whether block b is marked in a header with this content: bit b of the map
abbrev pub is_block_marked_at : (ℕ → ℕ) → ℕ → Bool
is_block_marked_at f b = map_bit f map_place b

-- whether a block of a block file is marked
abbrev pub is_block_marked : Image → ℕ → ℕ → Bool
is_block_marked image n b = is_block_marked_at (byte image (Block n)) b

-- Runs of free blocks, by a test that says which blocks are marked.

-- whether none of the count blocks from block b on is marked
unfoldable pub are_free : (ℕ → Bool) → ℕ → ℕ → Bool
are_free marked b count = list_all (λ i. not (marked (b + i))) (range_with_len 0 count)

-- whether count free blocks lie side by side in group g
unfoldable pub has_run : (ℕ → Bool) → ℕ → ℕ → Bool
has_run marked g count = list_any (λ i. are_free marked (group_size * g + i) count) (range_with_len 0 (group_size - count + 1))

-- the longest run of free blocks in group g
unfoldable pub longest_run : (ℕ → Bool) → ℕ → ℕ
longest_run marked g =
    if has_run marked g 4 then 4 else
    if has_run marked g 3 then 3 else
    if has_run marked g 2 then 2 else
    if has_run marked g 1 then 1 else
    0

-- the number of groups, of the first so many, whose longest free run is so long
unfoldable pub groups_with : (ℕ → Bool) → ℕ → ℕ → ℕ
groups_with marked groups run = count_by (λ g. longest_run marked g == run) (range_with_len 0 groups)

-- Maps and counters of a block file.

-- `empty` agrees with the map: for each run of 1 to 4 it counts the groups whose longest free run is so long
unfoldable pub EmptyAgrees : Image → ℕ → Type 0
EmptyAgrees image n = (i : ℕ) → i < 4 → empty_of (byte image (Block n)) i ≡ groups_with (is_block_marked image n) (groups_of (max_entries_in image n)) (i + 1)

-- these address words are the allocations of a file: they are valid in it and share no block, exactly their blocks are marked, and `num_entries` is their
-- number
pub record AreAllocations (image : Image) (n : ℕ) (words : List ℕ) : Type 0 where
  pub stand : All (λ w. stands_in image w ≡ true) words
  pub here : All (λ w. is_in_file n w ≡ true) words
  pub apart : repeats (claims_of_all words) ≡ false
  pub marks : (b : ℕ) → b < most_blocks → is_block_marked image n b ≡ has_claim (claims_of_all words) (BlockOf n b)
  pub counted : allocations_of (byte image (Block n)) ≡ length words

-- a file has a list of its allocations, and `empty` agrees with its map
pub record HasAllocations (image : Image) (n : ℕ) : Type 0 where
  pub words : List ℕ
  pub are : AreAllocations image n words
  pub empty : EmptyAgrees image n

-- the allocations of a file are its allocations in the new image too, and `empty` still agrees with the map if it did
pub record KeepsFile (from image : Image) (n : ℕ) : Type 0 where
  pub allocations : (words : List ℕ) → AreAllocations from n words → AreAllocations image n words
  pub empty : EmptyAgrees from n → EmptyAgrees image n
