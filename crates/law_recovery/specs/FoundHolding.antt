-- The kept records and the recovered contents of any image: a snapshot, each block of which has one owner.
use Rattle.spec_image.specs.Image.{Image, AreBytes}
use Rattle.blk_model.specs.Items.{IsValidHolding}
use Rattle.std.specs.Prelude.{◌≡◌, false}
use Rattle.spec_format.specs.Claims.{repeats}
use Rattle.spec_folder.specs.Loads.{claims_of_loaded}
use Rattle.spec_folder.specs.Found.{kept, found}

-- the recovered contents of every image of bytes are a valid snapshot
abbrev pub FoundIsAHolding : Type 0
FoundIsAHolding = (image : Image) → AreBytes image → IsValidHolding (found image)

-- no block and no external number is used twice by what is kept
abbrev pub KeptClaimOnce : Type 0
KeptClaimOnce = (image : Image) → repeats (claims_of_loaded (kept image)) ≡ false
