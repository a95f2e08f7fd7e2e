-- A new stream is stored: what is asked of its place, where there is no old one.
use Rattle.std.proofs.Common.{◌≡◌, ℕ, ◌+◌, List, [], length, None, Option, Some, refl, ◌∙◌, ap, arith, true, false}
use Rattle.spec_image.specs.Image.{Image}
use Rattle.blk_model.specs.Bytes.{overwritten}
use Rattle.blk_model.specs.Effects.{stream_after}
use Rattle.spec_format.specs.Address.{kind_of}
use Rattle.spec_folder.specs.View.{store_of}
use Rattle.blk_disk.specs.declared.tables.BlockFiles.{BlockFiles}
use Rattle.blk_disk.specs.Tables.{Agrees}
use Rattle.blk_entry.specs.Keys.{data_at}
use Rattle.blk_stream.specs.declared.places.Stored.{Stored}
use Rattle.blk_stream.specs.Copying.{HasOldPlace}
use Rattle.blk_stream.specs.Moving.{CanBeFilled, IsPlaceFilled}
use Rattle.blk_stream.specs.Placing.{CanBePlaced}
use Rattle.blk_stream.specs.Streams.{may_keep}
use Rattle.blk_stream.specs.Writing.{size_after}
use Rattle.blk_stream.proofs.Placements.{no_range}
use Rattle.blk_stream.proofs.StreamLists.{stored_there}

-- no old place
abbrev pub nowhere : Stored
nowhere = record { size = 0; addr = None }

pub no_place : (files : BlockFiles) → HasOldPlace files nowhere
no_place files = record { none = λ e. refl; inside = λ w is. absurd (let z : ◌≡◌ {A = Option ℕ} None (Some w) = is in cc) }

pub nothing_old : (files : BlockFiles) (size : ℕ) (from : Image) → CanBePlaced files size from → CanBeFilled files nowhere size from
unfolding kind_of
nothing_old files size from can = record {
  room = λ _. can;
  owned = λ apart. absurd (apart refl);
  there = λ w is. absurd (let z : ◌≡◌ {A = Option ℕ} None (Some w) = is in cc);
  file = λ w is. absurd (let z : ◌≡◌ {A = Option ℕ} None (Some w) = is in cc);
}

-- nothing is there of no bytes
no_data : (w : ℕ) (image : Image) → data_at image w 0 0 ≡ []
no_data w image = no_range image _ _ 0 refl

size_new : (offset n : ℕ) → offset + n ≡ size_after false 0 offset n
unfolding size_after
size_new offset n = omega arith

-- the filled place stores the bytes
pub place_stores : (files kept : BlockFiles) (w offset : ℕ) (bytes : List ℕ) (from image : Image) → Agrees kept image → may_keep kept (offset + length bytes) w ≡ true → IsPlaceFilled files nowhere w (offset + length bytes) offset bytes from image
    → (store_of image).stored (offset + length bytes) w ≡ Some (overwritten [] offset bytes)
unfolding store_of
place_stores files kept w offset bytes from image agrees fits filled =
    stored_there kept image (offset + length bytes) w agrees fits filled.long
    ∙ ap Some (filled.written false (size_new offset (length bytes)) ∙ ap (λ (old : List ℕ). stream_after false old offset bytes) (no_data 0 from))
