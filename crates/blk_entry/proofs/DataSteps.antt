-- The steps that write data, whether it lies in blocks or in an external file.
use Rattle.std.proofs.Common.{◌≡◌, ◌≢◌, ℕ, ◌+◌, List, length, true, false, if◌then◌else◌, ap, arith, refl}
use Rattle.std.specs.Prelude.{◌==◌}
use Rattle.std.proofs.lemmas.Bool.Decides.{nat_tests}
use Rattle.std.specs.Option.{ForSome}
use Rattle.spec_image.specs.Image.{Block, External, Image, length_of}
use Rattle.spec_image.specs.Footprint.{SameOutside, range}
use Rattle.spec_image.specs.Steps.{after, words}
use Rattle.spec_image.specs.Told.{Told, Applies, AppliesPrefix}
use Rattle.spec_image.proofs.Footprints.{words_inside}
use Rattle.spec_image.proofs.WordSteps.{IsBesideIndex}
use Rattle.spec_image.proofs.Runs.{told_part, told_whole, until_last, until_weaker2}
use Rattle.spec_format.specs.Address.{kind_of, external, external_number, file_selector, place}
use Rattle.blk_disk.specs.declared.tables.BlockFiles.{BlockFiles}
use Rattle.blk_disk.specs.Tables.{Agrees}
use Rattle.spec_format.proofs.SpareHeaders.{SparesHeaders}
use Rattle.blk_disk.proofs.Agreeing.{agrees_still}
use Rattle.blk_entry.specs.Keys.{data_file, data_start, IsInFile}
use Rattle.blk_entry.specs.Steps.{data_steps}

-- data lies beside the index
pub data-beside : (w : ℕ) → IsBesideIndex (data_file w)
unfolding data_file
data-beside w = elim (kind_of w == external) as (λ t. IsBesideIndex (if t then External (external_number w) else Block (file_selector w))) [ true ↦ tt | false ↦ tt ]

pub steps_of_blocks : (w at : ℕ) (bytes : List ℕ) → kind_of w ≢ external → data_steps w at bytes ≡ words (Block (file_selector w)) (place w + at) bytes
unfolding data_steps data_file data_start
steps_of_blocks w at bytes block_kind = let t : (kind_of w == external) ≡ false = grind (arith, nat_tests) in rw t refl

pub steps_of_external : (w at : ℕ) (bytes : List ℕ) → kind_of w ≡ external → data_steps w at bytes ≡ words (External (external_number w)) at bytes
unfolding data_steps data_file data_start
steps_of_external w at bytes is = rw is (ap (λ (i : ℕ). words (External (external_number w)) i bytes) (let e : 0 + at ≡ at = omega arith in e))

-- writes into an external file leave the headers
pub agrees_outside : (files : BlockFiles) (a b : Told) (n at : ℕ) (bytes : List ℕ) → AppliesPrefix a b (words (External n) at bytes) → ForSome a.files (Agrees files) → ForSome b.files (Agrees files)
agrees_outside files a b n at bytes part agrees =
    told_part (Agrees files) part
    (λ image there. until_weaker2 (SameOutside (range (External n) at (length bytes)) image) (Agrees files) (SameOutside (range (External n) at (length bytes)) image) (Agrees files) (words (External n) at bytes) image
    (kept image (agrees image there)) (kept image (agrees image there)) (words_inside (External n) at bytes image))
  where
    spares : SparesHeaders (range (External n) at (length bytes))
    spares = record { bytes = λ m i small. refl }

    kept : (from : Image) → Agrees files from → (image : Image) → SameOutside (range (External n) at (length bytes)) from image → Agrees files image
    kept from was image same = agrees_still (range (External n) at (length bytes)) from image spares same files (λ m. refl) was

-- after a write of bytes there is still space for one more after them
pub room_kept : (a b : Told) (w at : ℕ) (bytes : List ℕ) → Applies a b (data_steps w at bytes) → ForSome a.files (IsInFile w at (length bytes + 1)) → ForSome b.files (IsInFile w (at + length bytes) 1)
unfolding data_steps
room_kept a b w at bytes grown inside =
    told_whole (IsInFile w (at + length bytes) 1) grown
    (λ image there kind.
    let long : length_of (after (data_steps w at bytes) image) (External (external_number w)) ≡ length_of image (External (external_number w)) = (until_last (SameOutside (range (data_file w) (data_start w + at) (length bytes)) image) (SameOutside (range (data_file w) (data_start w + at) (length bytes)) image) (data_steps w at bytes) image (words_inside (data_file w) (data_start w + at) bytes image)).lengths (External (external_number w)) refl in
    let fits = inside image there kind in
    omega (arith, fits, long))
