-- Streams by their sizes and address words.
use Rattle.std.specs.Prelude.{ℕ, Bool, ◌&&◌, nat_le, is_some}
use Rattle.spec_image.specs.Image.{Image}
use Rattle.spec_folder.specs.Entries.{most_stream_bytes}
use Rattle.spec_folder.specs.View.{stored_at}

-- a stream may have this size, and the image stores data of this size at the address word
unfoldable pub is_stream : Image → ℕ → ℕ → Bool
is_stream image size word = nat_le size most_stream_bytes && is_some (stored_at image size word)
