-- What opening a folder leaves, and which checks may fail in it.
use Rattle.std.specs.Prelude.{◌≡◌, ◌⊎◌, ℕ}
use Rattle.std.specs.Option.{ForSome}
use Rattle.spec_image.specs.Image.{Image, Index, byte}
use Rattle.spec_image.specs.Told.{Told}
use Rattle.blk_model.specs.Holding.{open_state}
use Rattle.blk_model.specs.Room.{items, total}
use Rattle.blk_model.specs.State.{Bounds}
use Rattle.spec_format.specs.Headers.{create_time_of, this_id_of}
use Rattle.spec_format.specs.NewFolder.{IsMade}
use Rattle.spec_folder.specs.Found.{found}
use Rattle.law_state.specs.Keeping.{KeepsSome}
use Rattle.law_state.specs.KeepingLaws.{HasMagic}
use Rattle.law_recovery.specs.MendedChanges.{IsMidRepair}
use Rattle.spec_run.specs.Opening.{opened_id}
use Rattle.blk_io.specs.declared.fault.Damage.{Damage}
use Rattle.blk_index.specs.Start.{IsLookDamage}
use Rattle.blk_disk.specs.declared.tables.BlockFiles.{BlockFiles}
use Rattle.blk_disk.specs.Loading.{IsLoadDamage}
use Rattle.blk_disk.specs.Tables.{Agrees}
use Rattle.blk_scan.specs.Faults.{IsScanDamage}
use Rattle.blk_scan.specs.declared.scan.Scan.{Scan}
use Rattle.blk_repair.specs.Endings.{EndsOrBreaksOff, EndsWithCrashWord}
use Rattle.blk_repair.specs.Repair.{IsRepairDamage, NeedsOnlyWords}
use Rattle.blk_cache.specs.declared.opening.Opened.{Opened}
use Rattle.blk_cache.specs.Opening.{StandsOpened, WasMadeAt}

-- the folder is one that was just made, at some moment
abbrev pub IsJustMade : Image → Type 0
IsJustMade image = (moment : ℕ) × IsMade moment image

-- the folder was opened: it keeps the recovered contents of the image `entry`, opened in the next session, and `opened` has the number of items, the sum of
-- costs, the block files and the session's number
pub record IsOpenedAs (entry : Image) (opened : Opened) (image : Image) : Type 0 where
  pub keeps : (limits : Bounds) → KeepsSome (open_state (found entry) limits) image
  pub items_are : (limits : Bounds) → opened.items ≡ items (open_state (found entry) limits)
  pub bytes_are : (limits : Bounds) → opened.bytes ≡ total (open_state (found entry) limits)
  pub files : Agrees opened.files image
  pub mark : opened.mark ≡ this_id_of (byte image Index)
  pub id_is : this_id_of (byte image Index) ≡ opened_id entry
  pub finished : HasMagic image

-- Failed checks.

-- a check failed after those of the headers: while the folder was scanned, or in its recovery
pub record IsMendingDamage (told : Told) (damage : Damage) : Type 0 where
  pub files : BlockFiles
  pub cause : IsScanDamage files told damage ⊎ IsRepairDamage files told damage

-- a check failed in an opening: one of the index or of the block files (or too few bytes of these came), or, after these, one of the scan or of the recovery
abbrev pub IsOpeningDamage : Told → Damage → Type 0
IsOpeningDamage told damage = IsLookDamage told damage ⊎ (IsLoadDamage told damage ⊎ IsMendingDamage told damage)

-- What an opening does: each of these takes what it left first, and then the image that it found.

-- the folder was opened as the answer says
abbrev pub OpenedBy : (now : Told) → Opened → (from : Image) → Type 0
OpenedBy now opened from = ForSome now.files (IsOpenedAs from opened)

-- by its index the folder was made when it was before
abbrev pub MadeBy : (now : Told) → (from : Image) → Type 0
MadeBy now from = ForSome now.files (WasMadeAt (create_time_of (byte from Index)))

-- where the recovery by this scan has only words of the index to set, the folder was made when it was before, by its index
abbrev pub MadeByWords : Scan → (now : Told) → (from : Image) → Type 0
MadeByWords scan now from = NeedsOnlyWords scan from → MadeBy now from

-- the folder was repaired and opened, or the repair broke off
abbrev pub MendingBy : (told now : Told) → (from : Image) → Type 0
MendingBy told now from = EndsOrBreaksOff told now (IsMidRepair from) (StandsOpened from)

-- the folder was repaired and opened, and the last write sets the crash word
abbrev pub MendedBy : (told now : Told) → (from : Image) → Type 0
MendedBy told now from = EndsWithCrashWord told now (IsMidRepair from) (StandsOpened from)

-- P, one of these, holds of an observable folder that has Q
abbrev pub FromEach : Told → (Q P : Image → Type 0) → Type 0
FromEach told Q P = ForSome told.files (λ from. Q from → P from)
