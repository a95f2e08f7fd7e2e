-- The contracts of opening and of closing a cache.
use Rattle.std.specs.Prelude.{◌≡◌, ℕ, Result, Ok, Err}
use Rattle.std.specs.Option.{ForSome}
use Rattle.spec_image.specs.Image.{Image, Index, byte}
use Rattle.spec_image.specs.Told.{Told}
use Rattle.blk_model.specs.Holding.{open_state}
use Rattle.blk_model.specs.Bounds.{bounds_of}
use Rattle.blk_model.specs.declared.bounds.Limits.{Limits}
use Rattle.blk_model.specs.State.{Bounds, State}
use Rattle.spec_format.specs.Headers.{crash_of, create_time_of, index_version, this_id_of, version_of}
use Rattle.spec_folder.specs.Found.{HoldsStill, found}
use Rattle.spec_folder.specs.Sound.{IsSound}
use Rattle.spec_folder.specs.StandsFor.{StandsFor}
use Rattle.blk_io.specs.declared.fault.Damage.{Damage}
use Rattle.blk_io.specs.declared.fault.Fault.{Fault}
use Rattle.blk_io.specs.declared.fault.Fault.TheVariants as fault
use Rattle.blk_audit.specs.declared.fault.ScanFault.{ScanFault}
use Rattle.blk_audit.specs.declared.fault.ScanFault.TheVariants as scan
use Rattle.blk_repair.specs.Endings.{EndsOrBreaksOff, EndsWithCrashWord}
use Rattle.spec_run.specs.Opening.{opened_id}
use Rattle.blk_cache.specs.declared.fault.OpenFault.{OpenFault}
use Rattle.blk_cache.specs.declared.fault.OpenFault.TheVariants.{Device, Damaged, Memory}
use Rattle.blk_cache.specs.declared.cache.Cache.{Cache}
use Rattle.blk_cache.specs.CacheKeeping.{KeepsState}

-- the folder represents the state that is opened on the recovered contents of the image `entry`, in the session with the number that is next there
pub record StandsOpened (entry image : Image) : Type 0 where
  pub stands : (limits : Bounds) → StandsFor image (open_state (found entry) limits)
  pub id : this_id_of (byte image Index) ≡ opened_id entry

-- a folder was opened: after each write recovery gives what it gave before, no completion marker was made, and the last write alone sets the crash word; there
-- the folder represents the recovered contents, opened, in the next session
abbrev pub OpensFolder : Image → Told → Told → Type 0
OpensFolder entry old new = EndsWithCrashWord old new (HoldsStill entry) (StandsOpened entry)

-- a folder was opened, or the opening broke off: after each write made recovery gives what it gave before, no completion marker was made, and none but the last
-- write of a whole opening sets the crash word
abbrev pub OpensOrBreaksOff : Image → Told → Told → Type 0
OpensOrBreaksOff entry old new = EndsOrBreaksOff old new (HoldsStill entry) (StandsOpened entry)

-- by its index the folder was made at this moment
abbrev pub WasMadeAt : ℕ → Image → Type 0
WasMadeAt moment image = create_time_of (byte image Index) ≡ moment

-- the cache keeps the recovered contents of the image `entry`, opened
abbrev pub KeepsOpened : Cache → Limits → (entry image : Image) → Type 0
KeepsOpened cache limits entry image = KeepsState cache (open_state (found entry) (bounds_of limits)) image

-- the index has the number of the session that is next in the image `entry`
abbrev pub IsInNextSession : (entry image : Image) → Type 0
IsInNextSession entry image = this_id_of (byte image Index) ≡ opened_id entry

-- P holds of an observable folder on which the cache keeps a state
abbrev pub ForSession : Cache → Told → (Image → Type 0) → Type 0
ForSession cache told P = ForSome told.files (λ from. (state : State) → KeepsState cache state from → P from)

-- a session was closed: the folder is consistent, its crash word is 0, and its index has the version that is made now
pub record EndsSession (image : Image) : Type 0 where
  pub sound : IsSound image
  pub closed : crash_of (byte image Index) ≡ 0
  pub version : version_of (byte image Index) ≡ index_version

-- Answers.

-- the fault of an opening that a failed call on the folder causes
abbrev pub of_fault : Fault → OpenFault
of_fault fault.Device = Device
of_fault (fault.Damaged damage) = Damaged damage

-- the fault of an opening that a failed scan causes
abbrev pub of_scan_fault : ScanFault → OpenFault
of_scan_fault scan.Device = Device
of_scan_fault (scan.Damaged damage) = Damaged damage
of_scan_fault scan.Memory = Memory

-- where the answer is an I/O error, P holds; any other answer is fine
abbrev pub IfOpenDevice : {A : Type 0} → Result A OpenFault → Type 0 → Type 0
IfOpenDevice (Ok a) P = Unit {0}
IfOpenDevice (Err Device) P = P
IfOpenDevice (Err (Damaged damage)) P = Unit {0}
IfOpenDevice (Err Memory) P = Unit {0}

-- where the answer is a failed check, it has the property P; any other answer is fine
abbrev pub IfOpenDamaged : {A : Type 0} → Result A OpenFault → (Damage → Type 0) → Type 0
IfOpenDamaged (Ok a) P = Unit {0}
IfOpenDamaged (Err Device) P = Unit {0}
IfOpenDamaged (Err (Damaged damage)) P = P damage
IfOpenDamaged (Err Memory) P = Unit {0}

-- where the answer is out of memory, P holds; any other answer is fine
abbrev pub IfOpenMemory : {A : Type 0} → Result A OpenFault → Type 0 → Type 0
IfOpenMemory (Ok a) P = Unit {0}
IfOpenMemory (Err Device) P = Unit {0}
IfOpenMemory (Err (Damaged damage)) P = Unit {0}
IfOpenMemory (Err Memory) P = P
