-- The block files that are linked, the checks of their headers, and the first failed check of a folder.
use Rattle.std.proofs.Common.{zero, suc}
use Rattle.std.specs.Prelude.{ℕ, ◌-◌, ◌%◌, ◌≡◌, ◌⊎◌, List, [], ◌∷◌, ◌++◌, Bool, not, ◌&&◌, ◌||◌, ◌==◌, nat_le, nat_lt, if◌then◌else◌, None, Some, ◌↔◌}
use Rattle.std.specs.List.{list_any, flat_map}
use Rattle.std.specs.declared.option.Option.{Option}
use Rattle.spec_image.specs.Image.{Index, Block, External, Image, has_file, length_of, byte}
use Rattle.spec_image.specs.Checks.{Damage, first_of, check_word, check_length}
use Rattle.spec_format.specs.Address.{rankings, blocks_256, blocks_1k, blocks_4k, block_size, header_size}
use Rattle.spec_format.specs.Headers.{HasWholeIndex, IsUnfinished, block_magic, block_version, blocks_place, entry_size_of, entry_size_place, field_checks, head_checks, index_magic, list_checks, magic_of, magic_place, max_entries_of, next_file_of, this_file_of, this_file_place, version_of, version_place}
use Rattle.spec_format.specs.Standing.{stands, stands_as_blocks}

-- the most files of one kind
abbrev pub most_files : ℕ
most_files = 60

-- the most blocks of a file
abbrev pub most_blocks : ℕ
most_blocks = 64896

-- the most blocks of a file that has not grown for the last time
abbrev pub most_whole_blocks : ℕ
most_whole_blocks = 64512

-- the blocks by which a file grows
abbrev pub blocks_a_growth : ℕ
blocks_a_growth = 1024

-- whether a number is in a list
abbrev pub is_among : List ℕ → ℕ → Bool
is_among numbers n = list_any (λ m. m == n) numbers

-- The linked files.

-- the number of the next file of a block file's kind, 0 in the last one
unfoldable pub next_file_in : Image → ℕ → ℕ
next_file_in image n = next_file_of (byte image (Block n))

-- the number of blocks of a block file
unfoldable pub max_entries_in : Image → ℕ → ℕ
max_entries_in image n = max_entries_of (byte image (Block n))

-- a file and those along the links from it, in order; at most so many links are followed
unfoldable pub files_along : (ℕ → ℕ) → ℕ → ℕ → List ℕ
files_along next zero n = n ∷ []
files_along next (suc left) n =
    let more = files_along next left (next n) in
    n ∷ (if next n == 0 then [] else more)

-- the linked files of a kind, in the order of the links: from data_0 on for kind 1, data_1 for kind 2, data_2 for kind 3 and data_3 for kind 4
unfoldable pub linked : Image → ℕ → List ℕ
linked image kind = files_along (next_file_in image) (most_files - 1) (kind - 1)

-- the linked files of the kinds up to one, kind after kind
unfoldable pub linked_up_to : Image → ℕ → List ℕ
linked_up_to image zero = []
linked_up_to image (suc kind) = linked_up_to image kind ++ linked image (suc kind)

-- the kind in whose list a file is, given a list of files for each kind; None where it is in no list
unfoldable pub kind_among : (ℕ → List ℕ) → ℕ → Option ℕ
kind_among lists n =
    if is_among (lists rankings) n then Some rankings else
    if is_among (lists blocks_256) n then Some blocks_256 else
    if is_among (lists blocks_1k) n then Some blocks_1k else
    if is_among (lists blocks_4k) n then Some blocks_4k else
    None

-- the kind as which a file is linked, if it is
abbrev pub linked_as : Image → ℕ → Option ℕ
linked_as image n = kind_among (linked image) n

-- the blocks that a word names are there: their file is linked and of its kind, and all are below max_entries and end inside the file
abbrev pub stands_in_blocks : Image → ℕ → Bool
stands_in_blocks image w = stands_as_blocks (linked_as image) (max_entries_in image) (λ n. length_of image (Block n)) (λ n. has_file image (External n)) w

-- a word is a valid address in a folder
abbrev pub stands_in : Image → ℕ → Bool
stands_in image w = stands (linked_as image) (max_entries_in image) (λ n. length_of image (Block n)) (λ n. has_file image (External n)) w

-- The checks of the headers.

-- the next_file of a block file is right: it is 0; or it is 4 to 255, none of the files met, and at least one more file may follow
unfoldable pub is_link : List ℕ → ℕ → ℕ → Bool
is_link met left next = (next == 0) || (nat_le 4 next && nat_le next 255 && not (is_among met next) && nat_lt 0 left)

-- the max_entries of a block file is right: a multiple of 1024 up to 64512, or 64896
unfoldable pub is_block_count : ℕ → Bool
is_block_count n = ((n % blocks_a_growth == 0) && nat_le n most_whole_blocks) || (n == most_blocks)

-- the checks of block file n of a kind, by its content and length, in their order: the length, magic, version, this_file, next_file, entry_size and
-- max_entries; its next_file may not name the files in met, n among them, and so many links may follow
unfoldable pub file_checks : ℕ → List ℕ → ℕ → ℕ → (ℕ → ℕ) → ℕ → List (Option Damage)
file_checks kind met left n f length =
    check_length (Block n) header_size length (nat_le header_size length)
    ∷ check_word (Block n) f magic_place (magic_of f == block_magic)
    ∷ check_word (Block n) f version_place (version_of f == block_version)
    ∷ check_word (Block n) f this_file_place (this_file_of f == n)
    ∷ check_word (Block n) f this_file_place (is_link met left (next_file_of f))
    ∷ check_word (Block n) f entry_size_place (entry_size_of f == block_size kind)
    ∷ check_word (Block n) f blocks_place (is_block_count (max_entries_of f))
    ∷ []

-- the checks of file n of a kind and of those along its links, which may not lead to the files in met; at most so many links are followed
unfoldable pub checks_along : Image → ℕ → List ℕ → ℕ → ℕ → List (Option Damage)
checks_along image kind met zero n = file_checks kind (met ++ n ∷ []) 0 n (byte image (Block n)) (length_of image (Block n))
checks_along image kind met (suc left) n =
    let more = checks_along image kind (met ++ n ∷ []) left (next_file_in image n) in
    file_checks kind (met ++ n ∷ []) (suc left) n (byte image (Block n)) (length_of image (Block n)) ++ (if next_file_in image n == 0 then [] else more)

-- the checks of the files of a kind, in the order of the links; the files of the kinds before it were met
unfoldable pub checks_of_kind : Image → ℕ → List (Option Damage)
checks_of_kind image kind = checks_along image kind (linked_up_to image (kind - 1)) (most_files - 1) (kind - 1)

-- the kinds of blocks, in the order of their numbers
abbrev pub block_kinds : List ℕ
block_kinds = rankings ∷ blocks_256 ∷ blocks_1k ∷ blocks_4k ∷ []

-- the checks of all block files, kind after kind
abbrev pub block_checks : Image → List (Option Damage)
block_checks image = flat_map (checks_of_kind image) block_kinds

-- the first check of the block files that fails
abbrev pub first_block_damage : Image → Option Damage
first_block_damage image = first_of (block_checks image)

-- the first check of a folder with an initialized index that fails: of the index, and then of the block files
abbrev pub first_damage : Image → Option Damage
first_damage image = first_of (head_checks (byte image Index) (length_of image Index) ++ list_checks (byte image Index) ++ block_checks image)

-- no check fails
abbrev pub IsWellFormed : Image → Type 0
IsWellFormed image = first_damage image ≡ None

-- a folder that a session may be opened on, and that each crash leaves: its index is uninitialized, or no check of a header fails
abbrev pub IsUsable : Image → Type 0
IsUsable image = IsUnfinished image ⊎ IsWellFormed image

-- the index is initialized, and this check is the first of the folder that fails
pub record IsDamagedBy (damage : Damage) (image : Image) : Type 0 where
  pub finished : IsUnfinished image → ⊥
  pub first : first_damage image ≡ Some damage

-- no check of a header fails but perhaps that of the index's magic word, which isn't asked
abbrev pub HasSoundHeaders : Image → Type 0
HasSoundHeaders image = first_of (field_checks (byte image Index) (length_of image Index) ++ list_checks (byte image Index) ++ block_checks image) ≡ None

-- a folder is well formed exactly where its headers are valid and the magic word of an initialized index is there
abbrev pub WellFormedIsSound : Type 0
WellFormedIsSound = (image : Image) → IsWellFormed image ↔ (HasSoundHeaders image × (magic_of (byte image Index) ≡ index_magic))

-- valid headers stay valid, and the magic word is as before
pub record KeepsHeaders (from image : Image) : Type 0 where
  pub sound : HasSoundHeaders from → HasSoundHeaders image
  pub magic : magic_of (byte image Index) ≡ magic_of (byte from Index)

-- a well-formed folder whose headers are kept is well formed
abbrev pub KeptHeadersStayFormed : Type 0
KeptHeadersStayFormed = (from image : Image) → KeepsHeaders from image → IsWellFormed from → IsWellFormed image

-- the index of a folder with valid headers has all its bytes
abbrev pub SoundHasWholeIndex : Type 0
SoundHasWholeIndex = (image : Image) → HasSoundHeaders image → HasWholeIndex image

-- the folder has an initialized index, and no check of a header fails
pub record IsWhole (image : Image) : Type 0 where
  pub finished : IsUnfinished image → ⊥
  pub well_formed : IsWellFormed image

-- a well-formed folder has an initialized index: an uninitialized one fails the check of its magic or of its length
abbrev pub WellFormedIsFinished : Type 0
WellFormedIsFinished = (image : Image) → IsWellFormed image → IsWhole image

-- the index of a well-formed folder has all its bytes
abbrev pub WellFormedHasWholeIndex : Type 0
WellFormedHasWholeIndex = (image : Image) → IsWellFormed image → HasWholeIndex image
