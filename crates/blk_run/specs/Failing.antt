-- The failed checks of a run, and what is known of them outside.
use Rattle.std.specs.Prelude.{ℕ, ◌≡◌, ◌⊎◌, List}
use Rattle.std.specs.Option.{ForSome}
use Rattle.std.specs.declared.option.Option.{Option}
use Rattle.std.specs.declared.option.Option.TheVariants.{None}
use Rattle.spec_image.specs.Told.{Told}
use Rattle.spec_format.specs.BlockFiles.{IsDamagedBy}
use Rattle.blk_io.specs.declared.fault.Damage.{Damage}
use Rattle.blk_io.specs.Faults.{damage_of}
use Rattle.blk_disk.specs.declared.tables.BlockFiles.{BlockFiles}
use Rattle.blk_object.specs.FailedChecks.{IsFailedCheck}
use Rattle.blk_cache.specs.Opened.{IsOpeningDamage}
use Rattle.blk_inspect.specs.Inspecting.{IsInspectDamage}
use Rattle.blk_run.specs.Texts.{Prints, damage_line}

-- one of the checks that commands make failed, by some table of block files
pub record IsCommandDamage (told : Told) (damage : Damage) : Type 0 where
  pub files : BlockFiles
  pub fails : IsFailedCheck files told damage

-- some check that commands make failed
abbrev pub IsFailedSomewhere : Told → Type 0
IsFailedSomewhere told = (damage : Damage) × IsCommandDamage told damage

-- a check of the opening failed and was printed; for an observable folder it is the first check of the headers that fails; `before` and `now` are the error
-- counter of the output
pub record IsFailedInOpening (start final : Told) (old new : Option (List ℕ)) (before now : ℕ) : Type 0 where
  pub damage : Damage
  pub cause : IsOpeningDamage final damage
  pub first : ForSome start.files (IsDamagedBy (damage_of damage))
  pub printed : Prints old new before now (damage_line (damage_of damage))

-- the folder is opaque, and a check failed in a command after the opening; which one can't be seen from outside, so of an opaque folder this may always hold
pub record IsFailedBehind (start final : Told) : Type 0 where
  pub untold : start.files ≡ None
  pub fails : IsFailedSomewhere final

-- a check failed in a run: in its opening, or after it
abbrev pub IsDamagedRun : (start final : Told) → (old new : Option (List ℕ)) → (before now : ℕ) → Type 0
IsDamagedRun start final old new before now = IsFailedInOpening start final old new before now ⊎ IsFailedBehind start final

-- a check of what an inspection reads failed and was printed; for an observable folder it is the first check of the headers that fails
pub record IsFailedInReading (told : Told) (old new : Option (List ℕ)) (before now : ℕ) : Type 0 where
  pub damage : Damage
  pub cause : IsInspectDamage told damage
  pub first : ForSome told.files (IsDamagedBy (damage_of damage))
  pub printed : Prints old new before now (damage_line (damage_of damage))
