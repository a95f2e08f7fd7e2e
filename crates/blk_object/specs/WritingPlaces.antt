-- The places of a stream that is written: a new one is allocated and filled, and an old one is freed.
use Rattle.std.specs.Prelude.{◌≡◌, ℕ, [], Option, true}
use Rattle.spec_image.specs.Image.{Image}
use Rattle.spec_format.specs.BlockFiles.{HasSoundHeaders, stands_in}
use Rattle.blk_disk.specs.declared.tables.BlockFiles.{BlockFiles}
use Rattle.blk_disk.specs.Tables.{Agrees}
use Rattle.blk_stream.specs.Stages.{FillsByStage, FreesPlace, IsFilled}
use Rattle.law_state.specs.Changes.{SameCounters, StillFinds}
use Rattle.blk_object.specs.Freeing.{RemovesPlace}
use Rattle.blk_object.specs.Making.{Takes, long_word}

-- while a place is allocated and filled, recovery gives the durable contents of the state that was kept
abbrev pub FillingFindsTheSame : Type 0
FillingFindsTheSame = (files kept : BlockFiles) (from image : Image) → Agrees files from → FillsByStage files kept from image → StillFinds [] from image

-- once a place is filled, its address is unlinked in each state that was kept, and the counters of the index are unchanged
abbrev pub FilledPlacesAreUnlinked : Type 0
FilledPlacesAreUnlinked = (files kept : BlockFiles) (place : Option ℕ) (from image : Image) → HasSoundHeaders from → Agrees files from → IsFilled files kept place from image → Takes (long_word place) from image × SameCounters from image

-- an old address that is freed is removed: its blocks are no allocation any more, or its file is deleted
abbrev pub FreedPlacesAreRemoved : Type 0
FreedPlacesAreRemoved = (w : ℕ) (from image : Image) → HasSoundHeaders from → stands_in from w ≡ true → FreesPlace w from image → RemovesPlace w from image
