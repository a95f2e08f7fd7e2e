-- What recovery erases: blocks whose marks are cleared in a rebuild, and external files without an owner.
use Rattle.std.specs.Prelude.{◌≡◌, ◌⊎◌, ℕ, ◌<◌, false, List}
use Rattle.std.specs.List.{flat_map}
use Rattle.spec_image.specs.Image.{Block, External, Image}
use Rattle.spec_image.specs.Steps.{after, words}
use Rattle.spec_image.specs.Told.{Along, Until}
use Rattle.spec_format.specs.BlockFiles.{most_blocks}
use Rattle.spec_format.specs.Claims.{ExternalOf, has_claim}
use Rattle.spec_format.specs.Maps.{is_block_marked}
use Rattle.spec_folder.specs.Found.{kept}
use Rattle.spec_folder.specs.Loads.{claims_of_loaded}
use Rattle.spec_folder.specs.Sound.{words_of}
use Rattle.law_recovery.specs.MendedChanges.{KeepsMendedLinks}
use Rattle.law_recovery.specs.MendedLinks.{HasMendedLinks}
use Rattle.blk_addr.specs.Claims.{IsClaimsOf}
use Rattle.blk_addr.specs.declared.claim_set.Claims.{Claims}
use Rattle.blk_alloc.specs.Rebuilding.{is_block_claimed}
use Rattle.blk_eraser.specs.Erasing.{delete_steps, zeros_before_write}

-- after the write to the map each mark is the old one, or the one that the used blocks give, as in each step of a rebuild
abbrev pub WritesClaimedMarks : Claims → Image → ℕ → ℕ → List ℕ → Type 0
WritesClaimedMarks claims image n place new = (b : ℕ) → b < most_blocks → (is_block_marked (after (words (Block n) place new) image) n b ≡ is_block_marked image n b) ⊎ (is_block_marked (after (words (Block n) place new) image) n b ≡ is_block_claimed claims n b)

-- while zeros are written before a rebuild's write to a map, the links stay recovered, and the kept entries and recovered contents are the same
abbrev pub RemadeMapsMayErase : Type 0
RemadeMapsMayErase = (claims : Claims) (image : Image) (n place : ℕ) (new : List ℕ) → HasMendedLinks image → IsClaimsOf claims (flat_map words_of (kept image)) → WritesClaimedMarks claims image n place new
    → Along (KeepsMendedLinks image) image (zeros_before_write image (Block n) place new)

-- while an external file that nothing kept uses is overwritten, up to its deletion, the links stay recovered, and the kept entries and recovered contents are
-- the same
abbrev pub UnkeptFilesMayErase : Type 0
UnkeptFilesMayErase = (image : Image) (n : ℕ) → HasMendedLinks image → has_claim (claims_of_loaded (kept image)) (ExternalOf n) ≡ false
    → Until (KeepsMendedLinks image) (λ now. Unit {0}) image (delete_steps image (External n))
