-- What a write of a stream leaves unchanged: all blocks and files that have another owner.
use Rattle.std.specs.Prelude.{ℕ, ◌≡◌, ◌≢◌, ◌+◌, ◌<◌, ◌≤◌, true, false}
use Rattle.spec_image.specs.Image.{Block, External, Image, byte, has_file}
use Rattle.spec_format.specs.Address.{byte_size, external, external_number, file_selector, kind_of, place}
use Rattle.spec_format.specs.Maps.{is_block_marked}
use Rattle.blk_disk.specs.declared.tables.BlockFiles.{BlockFiles}
use Rattle.blk_disk.specs.Tables.{stands_among}
use Rattle.blk_entry.specs.Writing.{ShareNoBlock}
use Rattle.blk_stream.specs.Changing.{stream_words}
use Rattle.blk_stream.specs.Freeing.{is_block_of}

-- all blocks of address v are marked in the map
abbrev pub AreBlocksMarked : ℕ → Image → Type 0
AreBlocksMarked v image = (b : ℕ) → is_block_of v (file_selector v) b ≡ true → is_block_marked image (file_selector v) b ≡ true

-- the blocks of address v are valid and marked, and none of them belongs to the old place of a stream
pub record AreOthers (files : BlockFiles) (v old : ℕ) (image : Image) : Type 0 where
  pub block_kind : kind_of v ≢ external
  pub stand : stands_among files v ≡ true
  pub marked : AreBlocksMarked v image
  pub apart : kind_of old ≢ external → ShareNoBlock old v

-- blocks in use that don't belong to the stream's old place keep their bytes, but for the stream's words in its record; external files that were there are
-- unchanged, but for the old one of the stream
pub record KeepsOwned (files : BlockFiles) (entry i old : ℕ) (from image : Image) : Type 0 where
  pub blocks : (v k : ℕ) → AreOthers files v old from → place v ≤ k → k < place v + byte_size v → (stream_words entry i).bytes (Block (file_selector v)) k ≡ false → byte image (Block (file_selector v)) k ≡ byte from (Block (file_selector v)) k
  pub externals : (number : ℕ) → has_file from (External number) ≡ true → (kind_of old ≡ external → external_number old ≢ number) → image (External number) ≡ from (External number)
