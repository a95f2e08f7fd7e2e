-- A new folder, as it is made.
use Rattle.std.specs.Prelude.{ℕ, suc, ◌≡◌, ◌/◌, ◌%◌, ◌^◌, ◌<◌, List, [], ◌∷◌, ◌++◌, None, Some}
use Rattle.spec_image.specs.Bytes.{zeros}
use Rattle.spec_image.specs.Image.{File, Index, Block, Image}
use Rattle.spec_image.specs.Steps.{with_words}
use Rattle.spec_image.specs.Order.{IsBefore}
use Rattle.spec_format.specs.Address.{block_size, header_size}
use Rattle.spec_format.specs.Headers.{table_length, index_length, index_magic, block_magic, block_version, index_version}

-- the words of a new index that aren't 0, but for its magic word, each with its place: version, table_len, create_time
abbrev pub words_before_magic : ℕ → List (ℕ × ℕ)
words_before_magic moment = (4, index_version) ∷ (28, table_length) ∷ (40, moment % 2 ^ 32) ∷ (44, moment / 2 ^ 32) ∷ []

-- the words of a new index that aren't 0, each with its place; the magic word is the last
abbrev pub new_index_words : ℕ → List (ℕ × ℕ)
new_index_words moment = words_before_magic moment ++ (0, index_magic) ∷ []

-- the words that are written to a new block file, each with its place: magic, version, this_file and entry_size
abbrev pub new_file_words : ℕ → List (ℕ × ℕ)
new_file_words n = (0, block_magic) ∷ (4, block_version) ∷ (8, n) ∷ (12, block_size (suc n)) ∷ []

-- a new block file: its header alone
abbrev pub new_block_file : ℕ → List ℕ
new_block_file n = with_words (new_file_words n) (zeros header_size)

-- the bytes of a new index, made at this moment, without its magic word
abbrev pub index_without_magic : ℕ → List ℕ
index_without_magic moment = with_words (words_before_magic moment) (zeros index_length)

-- the bytes of a new index, made at this moment
abbrev pub new_index : ℕ → List ℕ
new_index moment = with_words (new_index_words moment) (zeros index_length)

-- the index has these bytes, the first n block files are new, and no file past the five is there
pub record HoldsNew (n : ℕ) (bytes : List ℕ) (image : Image) : Type 0 where
  pub index : image Index ≡ Some bytes
  pub blocks : (k : ℕ) → k < n → image (Block k) ≡ Some (new_block_file k)
  pub others : (file : File) → IsBefore (Block 3) file → image file ≡ None

-- a new folder, made at this moment: the index and four block files, and nothing else
abbrev pub IsMade : ℕ → Image → Type 0
IsMade moment = HoldsNew 4 (new_index moment)
