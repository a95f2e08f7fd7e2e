-- The first failed check of a folder: of its index, and then of its block files.
use Rattle.std.proofs.Common.{◌≡◌, ◌++◌, ◌%◌, ◌^◌, ◌==◌, Option, None, Some, Result, Ok, Err, refl, subst, sym, ◌∙◌}
use Rattle.std.specs.Option.{ForSome}
use Rattle.std.proofs.lemmas.Bool.{eqb-true}
use Rattle.spec_image.specs.Checks.{Damage}
use Rattle.spec_image.specs.Image.{Image, Index, byte, length_of}
use Rattle.spec_image.proofs.FirstChecks.{all_none, append_none, append_some, passed}
use Rattle.spec_format.specs.BlockFiles.{IsDamagedBy, block_checks, first_block_damage, first_damage, IsWellFormed}
use Rattle.spec_format.specs.Headers.{HasWholeIndex, first_index_damage, head_checks, list_checks, field_checks}
use Rattle.spec_image.specs.Told.{Told}
use Rattle.blk_io.specs.declared.fault.Damage.{Damage as Met}
use Rattle.blk_io.specs.declared.fault.Fault.{Fault}
use Rattle.blk_io.specs.declared.fault.Fault.TheVariants as fault
use Rattle.blk_io.specs.Faults.{IfDamaged, damage_of}
use Rattle.blk_index.specs.declared.start.Start.{Start}
use Rattle.blk_index.specs.Start.{LooksAs}

-- where no check of the index fails, it is that of the block files
pub first-behind : (image : Image) → first_index_damage image ≡ None → first_damage image ≡ first_block_damage image
first-behind image none = append_none (head_checks (byte image Index) (length_of image Index) ++ list_checks (byte image Index)) (block_checks image) none

-- where one does, it is that
pub first-before : (image : Image) (damage : Damage) → first_index_damage image ≡ Some damage → first_damage image ≡ Some damage
first-before image damage is = append_some (head_checks (byte image Index) (length_of image Index) ++ list_checks (byte image Index)) (block_checks image) damage is

-- where neither a check of the index nor one of the block files fails, the folder is well formed
pub formed-of : (image : Image) → first_index_damage image ≡ None → first_block_damage image ≡ None → IsWellFormed image
formed-of image none blocks = first-behind image none ∙ blocks

-- no check of the index fails of a well-formed folder
pub index-formed : (image : Image) → IsWellFormed image → first_index_damage image ≡ None
index-formed image well = by_first (first_index_damage image) refl where
  by_first : (first : Option Damage) → first_index_damage image ≡ first → first ≡ None
  by_first None is = refl
  by_first (Some damage) is = sym (first-before image damage is) ∙ well

-- no check of the block files fails of a well-formed folder
pub blocks-formed : (image : Image) → IsWellFormed image → first_block_damage image ≡ None
blocks-formed image well = sym (first-behind image (index-formed image well)) ∙ well

-- an index of which no check fails has its length
pub length-checked : (image : Image) → first_index_damage image ≡ None → HasWholeIndex image
unfolding field_checks head_checks
length-checked image none =
    let f = byte image Index in
    let size = length_of image Index in
    eqb-true size 262512 (passed Index 262512 (size % 2 ^ 32) (size == 262512) (all_none (head_checks f size ++ list_checks f) none 1))

-- an answer of a look, known
pub looked-as : (x y : Start) (image : Image) → x ≡ y → LooksAs (Ok x) image → LooksAs (Ok y) image
looked-as x y image same = subst (λ (s : Start). LooksAs (Ok s) image) same

-- the folder is initialized, and this is its first failed check
abbrev pub IsFirst : Told → Met → Type 0
IsFirst told damage = ForSome told.files (IsDamagedBy (damage_of damage))

-- a failed check that a look finds is the first of an initialized folder
pub looked-first : (r : Result Start Fault) (told : Told) → ForSome told.files (LooksAs r) → IfDamaged r (IsFirst told)
looked-first (Ok start) told looks = tt
looked-first (Err fault.Device) told looks = tt
looked-first (Err (fault.Damaged damage)) told looks = λ image there. record { finished = (looks image there).0; first = first-before image (damage_of damage) (looks image there).1 }
