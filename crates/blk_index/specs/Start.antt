-- The check of the index when a folder is opened.
use Rattle.std.specs.Prelude.{◌≡◌, ◌≢◌, ◌≤◌, ◌⊎◌, ℕ, List, length, ◌++◌, Result, Ok, Err, Option, None, Some}
use Rattle.spec_image.specs.Bytes.{content}
use Rattle.spec_image.specs.Image.{Image, Index}
use Rattle.spec_image.specs.Checks as checks
use Rattle.spec_image.specs.Checks.{first_of}
use Rattle.spec_image.specs.Told.{Told}
use Rattle.spec_format.specs.Headers.{IsUnfinished, first_index_damage, head_checks, list_checks, header_length, index_length, magic_of}
use Rattle.blk_io.specs.declared.folder.FileId.TheVariants as names
use Rattle.blk_io.specs.declared.fault.Damage.{Damage}
use Rattle.blk_io.specs.declared.fault.Fault.{Fault}
use Rattle.blk_io.specs.declared.fault.Fault.TheVariants.{Device, Damaged}
use Rattle.blk_io.specs.Faults.{damage_of, IsShort, IsShortAtStart}
use Rattle.blk_index.specs.declared.start.Start.{Start}
use Rattle.blk_index.specs.declared.start.Start.TheVariants.{Unfinished, Finished}

-- the index is initialized, and no check of it fails
pub record IsFinished (image : Image) : Type 0 where
  pub finished : IsUnfinished image → ⊥
  pub undamaged : first_index_damage image ≡ None

-- the answer of a look at the index, for an image: uninitialized, or initialized without a failed check, or the first check that fails; an I/O error says
-- nothing
abbrev pub LooksAs : Result Start Fault → Image → Type 0
LooksAs (Ok Unfinished) image = IsUnfinished image
LooksAs (Ok Finished) image = IsFinished image
LooksAs (Err Device) image = Unit {0}
LooksAs (Err (Damaged damage)) image = (IsUnfinished image → ⊥) × (first_index_damage image ≡ Some (damage_of damage))

-- the whole header was read, where the index has its length
abbrev pub IsGiven : ℕ → ℕ → Type 0
IsGiven size given = size ≡ index_length → header_length ≤ given

-- the answer for an initialized index of which so many bytes were read, whose first failed check is this one, or None
abbrev pub AnswersIndexHeader : Option checks.Damage → ℕ → ℕ → Result Start Fault → Type 0
AnswersIndexHeader None size given answer = IsGiven size given → answer ≡ Ok Finished
AnswersIndexHeader (Some damage) size given answer = IsGiven size given → (found : Damage) × (answer ≡ Err (Damaged found)) × (damage_of found ≡ damage)

-- the first check that fails for a header with these bytes and an index of this length, or None
abbrev pub first_head_damage : (header : List ℕ) → (size : ℕ) → Option checks.Damage
first_head_damage header size = first_of (head_checks (content header) size ++ list_checks (content header))

-- a header, of which so many bytes were given, can't be used: these are too few, or the error is the first check that fails
abbrev pub IsIndexFault : (header : List ℕ) → (size given : ℕ) → Damage → Type 0
IsIndexFault header size given damage = IsShortAtStart Index header_length given damage ⊎ (first_head_damage header size ≡ Some (damage_of damage))

-- the header and the length of an initialized index were read, and the error is the first check of them that fails
pub record FailsIndexCheck (damage : Damage) : Type 0 where
  pub header : List ℕ
  pub size : ℕ
  pub read : length header ≡ header_length
  pub finished : magic_of (content header) ≢ 0
  pub first : first_head_damage header size ≡ Some (damage_of damage)

-- why the look at the index fails, of an opaque folder too: too few bytes of the header came, or a check of what was read fails
abbrev pub IsLookDamage : Told → Damage → Type 0
IsLookDamage told damage = IsShort told names.Index 0 header_length damage ⊎ FailsIndexCheck damage
