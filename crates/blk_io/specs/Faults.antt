-- What the errors of calls that read and check say.
use Rattle.std.specs.Prelude.{◌≡◌, ℕ, ◌-◌, ◌<◌, min, None, Result, Ok, Err, IfOk}
use Rattle.std.specs.Option.{ForSome}
use Rattle.spec_image.specs.Image.{File, HasRange, Image, length_of}
use Rattle.spec_image.specs.Told.{Told}
use Rattle.spec_image.specs.Checks as checks
use Rattle.blk_io.specs.declared.folder.FileId.{FileId}
use Rattle.blk_io.specs.declared.fault.Damage.{Damage}
use Rattle.blk_io.specs.declared.fault.Fault.{Fault}
use Rattle.blk_io.specs.declared.fault.Fault.TheVariants.{Device, Damaged}
use Rattle.blk_io.specs.FileNames.{file_of}

-- a failed check of a call as the specs of images have it: file, offset and word found
abbrev pub damage_of : Damage → checks.Damage
damage_of damage = record { file = file_of damage.file; at = damage.at; found = damage.found }

-- where the answer is a failed check, it has the property P; any other answer is fine
abbrev pub IfDamaged : {A : Type 0} → Result A Fault → (Damage → Type 0) → Type 0
IfDamaged (Ok a) P = Unit {0}
IfDamaged (Err Device) P = Unit {0}
IfDamaged (Err (Damaged damage)) P = P damage

-- where the answer is an I/O error, P holds; any other answer is fine
abbrev pub IfDevice : {A : Type 0} → Result A Fault → Type 0 → Type 0
IfDevice (Ok a) P = Unit {0}
IfDevice (Err Device) P = P
IfDevice (Err (Damaged damage)) P = Unit {0}

-- where the answer is a failed check, the folder is opaque
abbrev pub OpaqueIfDamaged : {A : Type 0} → Result A Fault → Told → Type 0
OpaqueIfDamaged result told = IfDamaged result (λ _. told.files ≡ None)

-- where P holds of an observable folder, the answer is no failed check
abbrev pub UndamagedWhere : {A : Type 0} → Result A Fault → Told → (Image → Type 0) → Type 0
UndamagedWhere result told P = ForSome told.files P → OpaqueIfDamaged result told

-- where both P and Q hold of an observable folder, the answer is no failed check
abbrev pub UndamagedWhereBoth : {A : Type 0} → Result A Fault → Told → (P Q : Image → Type 0) → Type 0
UndamagedWhereBoth result told P Q = ForSome told.files P → ForSome told.files Q → OpaqueIfDamaged result told

-- where the answer is Ok, P holds of it and of an observable folder
abbrev pub OkFor : {A E : Type 0} → Result A E → Told → (A → Image → Type 0) → Type 0
OkFor result told P = IfOk result (λ answer. ForSome told.files (P answer))

-- a read of `count` bytes at an offset gave fewer: the error has the file and the offset, and as its word how many bytes there were
pub record IsShort (told : Told) (file : FileId) (place count : ℕ) (damage : Damage) : Type 0 where
  pub of_file : damage.file ≡ file
  pub at_place : damage.at ≡ place
  pub few : damage.found < count
  pub many : ForSome told.files (λ image. damage.found ≡ min count (length_of image (file_of file) - place))

-- a read of `count` bytes at the start of a file gave fewer: the error has the file, offset 0, and as its word how many were given
abbrev pub IsShortAtStart : File → (count given : ℕ) → Damage → Type 0
IsShortAtStart file count given damage = (given < count) × (damage_of damage ≡ record { file = file; at = 0; found = given })

-- a failed check has this file, this offset and this word
pub record IsOfWord (file : FileId) (place found : ℕ) (damage : Damage) : Type 0 where
  pub of_file : damage.file ≡ file
  pub at_place : damage.at ≡ place
  pub of_word : damage.found ≡ found

-- the file has so many bytes from a place on
abbrev pub HasBytesAt : FileId → (place count : ℕ) → Image → Type 0
HasBytesAt file place count image = HasRange image (file_of file) place count
