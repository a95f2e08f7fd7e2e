-- A folder is scanned by the block files that it has.
use Rattle.std.proofs.Common.{◌≡◌, inr, Some, Result, Ok, Err, subst, ◌∙◌}
use Rattle.std.specs.Option.{ForSome}
use Rattle.spec_image.specs.Told.{Told}
use Rattle.spec_format.specs.BlockFiles.{first_block_damage}
use Rattle.spec_format.specs.Headers.{HasWholeIndex}
use Rattle.blk_io.specs.declared.fault.Damage.{Damage}
use Rattle.blk_io.specs.declared.fault.Fault.{Fault}
use Rattle.blk_io.specs.declared.fault.Fault.TheVariants as fault
use Rattle.blk_io.specs.Faults.{IfDamaged, damage_of}
use Rattle.blk_disk.specs.Loading.{LoadsAs}
use Rattle.blk_disk.specs.Tables.{Agrees}
use Rattle.blk_disk.specs.declared.tables.BlockFiles.{BlockFiles}
use Rattle.blk_audit.specs.Faults.{IfScanDamaged}
use Rattle.blk_audit.specs.declared.fault.ScanFault.{ScanFault}
use Rattle.blk_audit.proofs.Carrying.{weaker}
use Rattle.blk_scan.specs.Faults.{IsBlocksDamage, IsScanDamage}

-- where its index has its length, the error is the first check of a header of a block file that fails
abbrev pub IsFirstIfWhole : Told → Damage → Type 0
IsFirstIfWhole told damage = ForSome told.files (λ image. HasWholeIndex image → first_block_damage image ≡ Some (damage_of damage))

-- where the block files can't be loaded, the error is the first check of a header that fails
pub loading_first : (r : Result BlockFiles Fault) (told : Told) → ForSome told.files (LoadsAs r) → IfDamaged r (IsFirstIfWhole told)
loading_first (Ok files) told loads = tt
loading_first (Err fault.Device) told loads = tt
loading_first (Err (fault.Damaged damage)) told loads = λ image there whole. loads image there

-- a failed check of a scan by the block files that agree with it has its cause
pub scanning_cause : {A : Type 0} (r : Result A ScanFault) (files : BlockFiles) (a b c : Told) → b ≡ a → c ≡ b → ForSome b.files (Agrees files) → IfScanDamaged r (IsScanDamage files c) → IfScanDamaged r (IsBlocksDamage a)
scanning_cause r files a b c before after agrees cause =
    weaker r (IsScanDamage files c) (IsBlocksDamage a)
    (λ damage is. inr (record {
      files = files;
      agrees = subst (λ (t : Told). ForSome t.files (Agrees files)) before agrees;
      cause = subst (λ (t : Told). IsScanDamage files t damage) (after ∙ before) is;
    })) cause
