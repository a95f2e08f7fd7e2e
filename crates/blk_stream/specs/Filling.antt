-- A new place gets the bytes of a stream after a write.
use Rattle.std.specs.Prelude.{ℕ, ◌≡◌, List, Bool, length}
use Rattle.blk_model.specs.Effects.{stream_after}
use Rattle.spec_image.specs.Image.{Image}
use Rattle.blk_entry.specs.Keys.{data_at}
use Rattle.blk_stream.specs.Inside.{HasStreamLength}
use Rattle.blk_stream.specs.Writing.{size_after}

-- the data at address `other` is what the write makes of the old data at `one`, with or without a cut; an external file is as long as its data
pub record FillsPlace (one other old size offset : ℕ) (bytes : List ℕ) (from image : Image) : Type 0 where
  pub written : (cut : Bool) → size ≡ size_after cut old offset (length bytes) → data_at image other 0 size ≡ stream_after cut (data_at from one 0 old) offset bytes
  pub long : HasStreamLength other size image
