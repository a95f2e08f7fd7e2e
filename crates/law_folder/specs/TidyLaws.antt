-- The laws of folders that have a state: maps, counters, lengths and checksums, in addition to what is shown.
use Rattle.std.specs.Prelude.{◌≡◌, ℕ, List, true}
use Rattle.spec_image.specs.Image.{Image}
use Rattle.spec_image.specs.Steps.{after}
use Rattle.spec_image.specs.Footprint.{Footprint, SameOutside}
use Rattle.spec_format.specs.BlockFiles.{HasSoundHeaders}
use Rattle.blk_model.specs.Items.{Item}
use Rattle.blk_model.specs.State.{State}
use Rattle.blk_model.specs.Effects.{used}
use Rattle.spec_folder.specs.Layout.{Layout, is_listed}
use Rattle.spec_folder.specs.ListImages.{IsWritable, steps_of_touch}
use Rattle.spec_folder.specs.StandsFor.{StandsFor}
use Rattle.spec_folder.specs.Tidy.{HasState, IsBehindHeaders, FilesStand}

-- a change after the headers leaves the files as they are
abbrev pub FilesStandBehindHeaders : Type 0
FilesStandBehindHeaders = (footprint : Footprint) (from image : Image) → IsBehindHeaders footprint → SameOutside footprint from image → HasSoundHeaders from → FilesStand from image

-- an image that represents a state by a layout, its files too, represents it (`StandsFor`)
abbrev pub StatesAreStoodFor : Type 0
StatesAreStoodFor = (image : Image) (state : State) (layout : Layout) (numbers : List ℕ) → HasState state layout numbers image → StandsFor image state

-- an access of any listed item leaves the state with the item in front
abbrev pub TouchesKeepStates : Type 0
TouchesKeepStates = (from : Image) (state : State) (layout : Layout) (numbers : List ℕ) → HasState state layout numbers from → IsWritable from → (item : Item) (moment : ℕ) → is_listed state item ≡ true
    → HasState (record state { uses = used item state.uses }) layout numbers (after (steps_of_touch (layout.place item) moment from) from)
