-- Block files that grow and are added.
use Rattle.std.specs.Prelude.{ℕ, ◌+◌, ◌≡◌, ◌<◌, ◌≤◌, true, Some}
use Rattle.spec_image.specs.Image.{Index, Block, External, Image, byte, length_of}
use Rattle.spec_format.specs.Address.{byte_size, file_selector, header_size, place}
use Rattle.spec_format.specs.Headers.{is_shown_place}
use Rattle.spec_format.specs.BlockFiles.{linked_as, max_entries_in, stands_in_blocks, KeepsHeaders}
use Rattle.spec_image.specs.Footprint.{Footprint, SameOutside}

-- block files have grown or been linked at most: a linked file stays linked as its kind, keeps the bytes after its header, and gets no shorter and
-- no fewer blocks
pub record HaveGrown (old new : Image) : Type 0 where
  pub index : (i : ℕ) → is_shown_place i ≡ true → byte new Index i ≡ byte old Index i
  pub externals : (n : ℕ) → new (External n) ≡ old (External n)
  pub linked : (n kind : ℕ) → linked_as old n ≡ Some kind → linked_as new n ≡ Some kind
  pub bytes : (n kind i : ℕ) → linked_as old n ≡ Some kind → header_size ≤ i → i < length_of old (Block n) → byte new (Block n) i ≡ byte old (Block n) i
  pub longer : (n kind : ℕ) → linked_as old n ≡ Some kind → length_of old (Block n) ≤ length_of new (Block n)
  pub more : (n kind : ℕ) → linked_as old n ≡ Some kind → max_entries_in old n ≤ max_entries_in new n

-- each block that was there still is, with the bytes that it had
pub record KeepsBlocks (from image : Image) : Type 0 where
  pub stand : (w : ℕ) → stands_in_blocks from w ≡ true → stands_in_blocks image w ≡ true
  pub bytes : (w i : ℕ) → stands_in_blocks from w ≡ true → place w ≤ i → i < place w + byte_size w
      → byte image (Block (file_selector w)) i ≡ byte from (Block (file_selector w)) i

-- block files have grown at most, and the headers are kept: valid ones stay valid, with the same magic word
pub record StaysWhole (from image : Image) : Type 0 where
  pub grown : HaveGrown from image
  pub headers : KeepsHeaders from image

-- all outside a footprint is as before, block files have grown or been linked at most, and the headers are kept
pub record StaysWholeOutside (footprint : Footprint) (from image : Image) : Type 0 where
  pub outside : SameOutside footprint from image
  pub stays : StaysWhole from image
