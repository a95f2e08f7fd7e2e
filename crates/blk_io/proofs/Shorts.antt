-- A read that gave too few bytes.
use Rattle.std.proofs.Common.{◌≡◌, ℕ, ◌+◌, ◌-◌, ◌<◌, ◌≤◌, min, Option, None, Some, Result, Ok, Err, refl, arith}
use Rattle.std.specs.Option.{ForSome}
use Rattle.spec_image.specs.Image.{Image, length_of}
use Rattle.spec_image.specs.Told.{Told}
use Rattle.blk_io.specs.declared.folder.FileId.{FileId}
use Rattle.blk_io.specs.declared.fault.Fault.{Fault}
use Rattle.blk_io.specs.declared.fault.Fault.TheVariants.{Device, Damaged}
use Rattle.blk_io.specs.FileNames.{file_of}
use Rattle.blk_io.specs.Faults.{IfDamaged, IsShort}

no_image : (files : Option Image) (file : FileId) (place count found : ℕ) → found < count → ForSome files (λ image. found ≡ min count (length_of image (file_of file) - place)) → ForSome files (λ image. place + count ≤ length_of image (file_of file)) → files ≡ None
no_image None file place count found few many inside = refl
no_image (Some image) file place count found few many inside =
    let given = many image refl in
    let long = inside image refl in
    absurd (omega (arith, given, long))

-- where the file has what was asked, only an opaque folder gives too few bytes
pub untold_if : {A : Type 0} (r : Result A Fault) (told : Told) (file : FileId) (place count : ℕ) → IfDamaged r (IsShort told file place count) → ForSome told.files (λ image. place + count ≤ length_of image (file_of file)) → IfDamaged r (λ _. told.files ≡ None)
untold_if (Ok a) told file place count short inside = tt
untold_if (Err Device) told file place count short inside = tt
untold_if (Err (Damaged damage)) told file place count short inside = no_image told.files file place count damage.found short.few short.many inside
