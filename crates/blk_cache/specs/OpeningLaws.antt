-- Lemmas on the opening of a folder and on its closing.
use Rattle.std.specs.Prelude.{◌≡◌, ℕ, length}
use Rattle.spec_image.specs.Image.{AreBytes, Image, Index, byte}
use Rattle.spec_format.specs.Headers.{index_version, version_of}
use Rattle.spec_image.specs.Footprint.{SameOutside, one_word}
use Rattle.blk_model.specs.Holding.{open_state}
use Rattle.blk_model.specs.Room.{items, total}
use Rattle.blk_model.specs.State.{State, Bounds}
use Rattle.spec_format.specs.NewFolder.{IsMade}
use Rattle.spec_folder.specs.Found.{HoldsStill, found}
use Rattle.spec_folder.specs.Sound.{IsSound}
use Rattle.law_state.specs.Keeping.{KeepsSome}
use Rattle.blk_disk.specs.Open.{IsOpen}
use Rattle.blk_scan.specs.declared.scan.Scan.{Scan}
use Rattle.blk_scan.specs.Scans.{IsEmptyScan, IsScanOf}
use Rattle.blk_repair.specs.Counters.{crash_place}
use Rattle.blk_repair.specs.Repair.{IsRepairable, IsRepaired}
use Rattle.blk_cache.specs.declared.cache.Cache.{Cache}
use Rattle.blk_cache.specs.BoundNames.{AreAllFree}
use Rattle.blk_cache.specs.CacheKeeping.{KeepsState, HoldsState}

-- Opening.

-- a folder that was just made can be recovered with the empty scan
abbrev pub MadeFoldersAreRepairable : Type 0
MadeFoldersAreRepairable = (moment : ℕ) (image : Image) (scan : Scan) → IsMade moment image → IsEmptyScan scan → IsRepairable scan image

-- a folder whose recovery is done keeps the recovered contents of the image `entry`, opened
abbrev pub RepairedFoldersKeepTheirState : Type 0
RepairedFoldersKeepTheirState = (entry image : Image) (limits : Bounds) → IsRepaired entry image → AreBytes image → KeepsSome (open_state (found entry) limits) image

-- a scan gives the number of items and the sum of costs of the recovered contents of the image `entry`, opened
pub record AreTotalsTold (scan : Scan) (entry : Image) (limits : Bounds) : Type 0 where
  pub items_told : length scan.kept.items ≡ items (open_state (found entry) limits)
  pub bytes_told : scan.bytes ≡ total (open_state (found entry) limits)

-- where the recovery of `entry` is done, the scan of `entry` gave the number of items and the sum of costs of its recovered contents
abbrev pub RepairedFoldersHaveTheToldTotals : Type 0
RepairedFoldersHaveTheToldTotals = (scan : Scan) (entry image : Image) (limits : Bounds) → IsScanOf entry scan → IsRepaired entry image → AreBytes image → AreTotalsTold scan entry limits

-- Closing.

-- where a cache keeps a state on a folder, its table of block files agrees with that, and the index has its length, as writes need
abbrev pub KeptFoldersAreOpen : Type 0
KeptFoldersAreOpen = (cache : Cache) (state : State) (image : Image) → HoldsState cache state image → IsOpen cache.files image

-- where a cache keeps a state and no handle names anything, recovery gives the same whatever the crash word is
abbrev pub FreeCachesHoldStill : Type 0
FreeCachesHoldStill = (cache : Cache) (state : State) (from image : Image) → KeepsState cache state from → AreAllFree cache.handles → SameOutside (one_word Index crash_place) from image → HoldsStill from image

-- where a cache keeps a state and no handle names anything, the folder is consistent whatever the crash word is, and its index has the version that is made now
abbrev pub FreeCachesEndSound : Type 0
FreeCachesEndSound = (cache : Cache) (state : State) (from image : Image) → KeepsState cache state from → AreAllFree cache.handles → SameOutside (one_word Index crash_place) from image → AreBytes image
    → IsSound image × (version_of (byte image Index) ≡ index_version)
