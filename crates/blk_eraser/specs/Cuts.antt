-- Zeros after the end of a stream that is cut inside its blocks.
use Rattle.std.specs.Prelude.{◌≡◌, ◌≢◌, ℕ, ◌+◌, ◌-◌, ◌≤◌, true, false, List, Some}
use Rattle.spec_image.specs.Bytes.{zeros}
use Rattle.spec_image.specs.Footprint.{SameOutside, range}
use Rattle.spec_image.specs.Image.{Block, Image}
use Rattle.spec_image.specs.Steps.{TrailStep, words}
use Rattle.spec_image.specs.Told.{Along}
use Rattle.spec_format.specs.Address.{byte_size, external, file_selector, kind_of, place}
use Rattle.spec_format.specs.BlockFiles.{stands_in}
use Rattle.spec_format.specs.Claims.{claims_of, has_claim}
use Rattle.blk_model.specs.Holding.{rest}
use Rattle.blk_model.specs.Items.{main}
use Rattle.blk_model.specs.State.{Object, State, has_item, object_at}
use Rattle.spec_folder.specs.Footprint.{IsClear, IsFreeBut, SameBut}
use Rattle.spec_folder.specs.Layout.{Layout}
use Rattle.spec_folder.specs.Loads.{Loaded}
use Rattle.spec_folder.specs.View.{store_of, view_of}
use Rattle.law_state.specs.Changes.{Finds}
use Rattle.law_state.specs.Keeping.{KeepsUncounted}

-- the steps that write zeros from the end of data of this size to the end of its blocks
abbrev pub zeros_after_end : ℕ → ℕ → List TrailStep
zeros_after_end w size = words (Block (file_selector w)) (place w + size) (zeros (byte_size w - size))

-- the blocks of address w are valid, and since image `from` nothing but their bytes has changed
pub record AreBlocksInHand (from image : Image) (w : ℕ) : Type 0 where
  pub stands : stands_in from w ≡ true
  pub block_kind : kind_of w ≢ external
  pub same : SameOutside (range (Block (file_selector w)) (place w) (byte_size w)) from image

-- the blocks of address w belong only to the main item of a dirty object, and are neither its node's nor its record's: so those of a stream or of the key
pub record AreOfDirty (state : State) (layout : Layout) (w : ℕ) : Type 0 where
  pub number : ℕ
  pub object : Object
  pub key : List ℕ
  pub loaded : Loaded
  pub here : object_at state number ≡ Some object
  pub has : has_item object (main key) ≡ true
  pub unsettled : object.settled ≡ false
  pub lies : layout.at (layout.place (main key)) ≡ Some loaded
  pub own : IsFreeBut (layout.place (main key)) (has_claim (claims_of w)) layout
  pub node_apart : IsClear (has_claim (claims_of w)) (layout.place (main key))
  pub record_apart : IsClear (has_claim (claims_of w)) loaded.contents

-- while zeros are written after the end of a stream of a dirty object, recovery gives the durable contents of the state that was kept
abbrev pub CutZerosFindTheSame : Type 0
CutZerosFindTheSame = (state : State) (layout : Layout) (unlinked : List ℕ) (from image : Image) (w size : ℕ) → KeepsUncounted state layout unlinked from → AreOfDirty state layout w → AreBlocksInHand from image w
    → size ≤ byte_size w → Along (Finds (rest state)) image (zeros_after_end w size)

-- while zeros are written after the end of a stream of a doomed object, recovery gives the durable contents of the state that was kept
abbrev pub DoomedCutZerosFindTheSame : Type 0
DoomedCutZerosFindTheSame = (state : State) (layout : Layout) (unlinked : List ℕ) (from image : Image) (w size number : ℕ) (object : Object) → KeepsUncounted state layout unlinked from → object_at state number ≡ Some object → object.live ≡ false
    → IsFreeBut (layout.place_of_doomed number) (has_claim (claims_of w)) layout → AreBlocksInHand from image w
    → size ≤ byte_size w → Along (Finds (rest state)) image (zeros_after_end w size)

-- the two folders differ at most in bytes of the blocks of address w after the first `size`
pub record DiffersAfterEnd (w size : ℕ) (from image : Image) : Type 0 where
  pub stands : stands_in from w ≡ true
  pub block_kind : kind_of w ≢ external
  pub inside : size ≤ byte_size w
  pub same : SameOutside (range (Block (file_selector w)) (place w + size) (byte_size w - size)) from image

-- bytes after the end of data aren't in the view: data of each length up to that end is the same, and so is the view of all addresses that share no block with
-- it
abbrev pub BytesAfterTheEndAreNotShown : Type 0
BytesAfterTheEndAreNotShown = (w size : ℕ) (from image : Image) → DiffersAfterEnd w size from image
    → ((n : ℕ) → n ≤ size → (store_of image).stored n w ≡ (store_of from).stored n w) × SameBut (has_claim (claims_of w)) (view_of from) (view_of image)
