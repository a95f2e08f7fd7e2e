-- How block files are extended, and how new ones are added.
use Rattle.std.proofs.Common.{zero, suc}
use Rattle.std.specs.Prelude.{ℕ, ◌+◌, ◌-◌, ◌*◌, ◌/◌, ◌%◌, ◌^◌, ◌≡◌, ◌<◌, ◌≤◌, min, max, List, [], ◌∷◌, ◌++◌, length, get_or, true, false, nat_lt, if◌then◌else◌, None, Some}
use Rattle.std.specs.declared.option.Option.{Option}
use Rattle.spec_image.specs.Image.{Image, Block, byte}
use Rattle.spec_image.specs.Steps.{TrailStep, Word, SetLength, word_steps}
use Rattle.spec_image.specs.Footprint.{Footprint, either, one_word, range, size_of, whole}
use Rattle.spec_format.specs.Address.{block_size, header_size}
use Rattle.spec_format.specs.Headers.{block_magic, blocks_place, empty_of, empty_place, entry_size_place, magic_place, next_file_place, this_file_place, block_version, version_place}
use Rattle.spec_format.specs.BlockFiles.{kind_among, is_among, blocks_a_growth, most_blocks}
use Rattle.blk_disk.specs.declared.tables.BlockFiles.{BlockFiles}
use Rattle.blk_disk.specs.Tables.{Enlarges, files_of, all_files, blocks_of, length_in}

-- the bytes of one block of a file that is linked as of this kind, or 0 where it isn't linked
abbrev pub size_as : Option ℕ → ℕ
size_as None = 0
size_as (Some kind) = block_size kind

-- the length of a file with all its blocks
unfoldable pub whole_length : BlockFiles → ℕ → ℕ
whole_length files n = header_size + blocks_of files n * size_as (kind_among (files_of files) n)

-- the step that lengthens a file to its header and all its blocks, or none where it is long enough
abbrev pub fit_steps : BlockFiles → ℕ → List TrailStep
fit_steps files n = if nat_lt (length_in files n) (whole_length files n) then SetLength (Block n) (whole_length files n) ∷ [] else []

-- The extension of a file.

-- the number of blocks after an extension: 1024 more, but no more than 64896
abbrev pub grown : ℕ → ℕ
grown blocks = min (blocks + blocks_a_growth) most_blocks

-- how many groups of four blocks an extension adds to a file of so many blocks
abbrev pub new_groups : ℕ → ℕ
new_groups blocks = (grown blocks - blocks) / 4

-- the length of a file with all its blocks after an extension
unfoldable pub grown_length : BlockFiles → ℕ → ℕ
grown_length files n = header_size + grown (blocks_of files n) * size_as (kind_among (files_of files) n)

-- the counter of wholly free groups in the header of file n, increased by so many modulo 2 ^ 32
abbrev pub raised : Image → ℕ → ℕ → ℕ
raised image n groups = (empty_of (byte image (Block n)) 3 + groups) % 2 ^ 32

-- the steps that increase the counter of wholly free groups by so many, and then set the number of blocks
abbrev pub raise_steps : Image → ℕ → ℕ → ℕ → List TrailStep
raise_steps image n groups blocks = word_steps (Block n) ((empty_place 3, raised image n groups) ∷ (blocks_place, blocks) ∷ [])

-- the step that lengthens a file to `size`, or none where it is long enough
abbrev pub lengthen_steps : BlockFiles → ℕ → ℕ → List TrailStep
lengthen_steps files n size = if nat_lt (length_in files n) size then SetLength (Block n) size ∷ [] else []

-- the steps of an extension: the length of the file, then the counter of its wholly free groups, then its number of blocks
abbrev pub grow_steps : BlockFiles → ℕ → Image → List TrailStep
grow_steps files n image = lengthen_steps files n (grown_length files n) ++ raise_steps image n (new_groups (blocks_of files n)) (grown (blocks_of files n))

-- what the extension of file n may touch: its length, its counter of wholly free groups, and its number of blocks
abbrev pub growth_of : ℕ → Footprint
growth_of n = either (size_of (Block n)) (either (one_word (Block n) (empty_place 3)) (one_word (Block n) blocks_place))

-- The addition of a file.

-- the least number that an added block file may have
abbrev pub first_number : ℕ
first_number = 4

-- n is the least number from 4 on, below 256, that no linked file has
pub record IsLeastFileNumber (files : BlockFiles) (n : ℕ) : Type 0 where
  pub least_number : first_number ≤ n
  pub most_number : n < 256
  pub free : is_among (all_files files) n ≡ false
  pub taken : (m : ℕ) → first_number ≤ m → m < n → is_among (all_files files) m ≡ true

-- the least number from n on that isn't in the list, among the first so many; n plus that many where all are taken
unfoldable pub least_from : List ℕ → ℕ → ℕ → ℕ
least_from numbers zero n = n
least_from numbers (suc turns) n =
    let later = least_from numbers turns (n + 1) in
    if is_among numbers n then later else n

-- the number of the next block file to be added: the least from 4 on that no linked file has (see IsLeastFileNumber)
unfoldable pub free_number : BlockFiles → ℕ
free_number files = least_from (all_files files) 252 first_number

-- the last file of a kind in the order of the links, or kind - 1, the number of its first file, where the kind has none
unfoldable pub last_file : BlockFiles → ℕ → ℕ
last_file files kind = get_or (files_of files kind) (length (files_of files kind) - 1) (kind - 1)

-- the words of a new header that aren't 0, each with its offset: magic, version, this_file with no next_file, entry_size
abbrev pub header_words : ℕ → ℕ → List (ℕ × ℕ)
header_words kind n = (magic_place, block_magic) ∷ (version_place, block_version) ∷ (this_file_place, n) ∷ (entry_size_place, block_size kind) ∷ []

-- the steps that make an empty block file: its length 0, then that of a header, and then the words of the header
abbrev pub file_steps : ℕ → ℕ → List TrailStep
file_steps kind n = SetLength (Block n) 0 ∷ SetLength (Block n) header_size ∷ word_steps (Block n) (header_words kind n)

-- the step by which file n is linked after the last file of its kind: the two bytes of its next_file
abbrev pub link_steps : ℕ → ℕ → List TrailStep
link_steps last n = Word (Block last) next_file_place (n % 256 ∷ n / 256 % 256 ∷ []) ∷ []

-- the steps that add a file to a kind: the new file is made, and then the last file of the kind names it
abbrev pub add_steps : BlockFiles → ℕ → List TrailStep
add_steps files kind = file_steps kind (free_number files) ++ link_steps (last_file files kind) (free_number files)

-- what the addition of a file may touch: all of the new file, and the next_file of the last file of its kind
abbrev pub addition_of : BlockFiles → ℕ → Footprint
addition_of files kind = either (whole (Block (free_number files))) (range (Block (last_file files kind)) next_file_place 2)

-- the table after an extension of file n: it has the number of blocks that this gives, and at least the length that they need
abbrev pub GrowsFile : (old new : BlockFiles) → (n : ℕ) → Type 0
GrowsFile old new n = Enlarges old new n (grown (blocks_of old n)) (max (length_in old n) (grown_length old n))
