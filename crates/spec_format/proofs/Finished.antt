-- A well-formed image is initialized.
use Rattle.std.proofs.Common.{◌≡◌, ℕ, List, [], ◌∷◌, refl, sym, ◌∙◌, Bool, true, false, Option, Some, None, ap}
use Rattle.std.specs.Prelude.{IsTrue, ◌==◌, ◌||◌, not, nat_lt, is_some, length, unwrap_or}
use Rattle.std.proofs.lemmas.Bool.{eqb-true}
use Rattle.spec_image.specs.Image.{Index, File, Image, byte, length_of}
use Rattle.spec_image.specs.Checks.{Damage, first_of, check_found}
use Rattle.spec_format.specs.Headers.{field_checks, head_checks, is_index_version, magic_of, index_magic, index_length, unfinished, version_of}
use Rattle.spec_format.specs.BlockFiles.{HasSoundHeaders, IsWellFormed, KeepsHeaders, KeptHeadersStayFormed, SoundHasWholeIndex, WellFormedIsFinished, WellFormedIsSound, WellFormedHasWholeIndex}
use Rattle.spec_format.proofs.HeaderLemmas.{unfinished_agrees}

passed : (file : File) (at found : ℕ) (holds : Bool) (checks : List (Option Damage)) → first_of (check_found file at found holds ∷ checks) ≡ None → (holds ≡ true) × (first_of checks ≡ None)
passed file at found true checks e = (refl, e)
passed file at found false checks e = cc

finished : (o : Option (List ℕ)) (magic : ℕ) → length (unwrap_or o []) ≡ index_length → magic ≡ index_magic → (not (is_some o) || nat_lt (length (unwrap_or o [])) 4 || (magic == 0)) ≡ false
finished None magic long is = let c : ◌≡◌ {A = ℕ} 0 262512 = long in cc
finished (Some bytes) magic long is = rw (long, is) refl

-- a well-formed folder has valid headers
pub sound-of : (image : Image) → IsWellFormed image → HasSoundHeaders image
unfolding head_checks
sound-of image well = (passed Index 0 _ (magic_of (byte image Index) == index_magic) _ well).1

-- a well-formed folder has the magic word of an initialized index
pub magic-of : (image : Image) → IsWellFormed image → magic_of (byte image Index) ≡ index_magic
unfolding head_checks
magic-of image well = eqb-true _ _ (passed Index 0 _ (magic_of (byte image Index) == index_magic) _ well).0

-- a first check that passes, and further ones
first-passed : (file : File) (at found : ℕ) (holds : Bool) (checks : List (Option Damage)) → holds ≡ true → first_of checks ≡ None → first_of (check_found file at found holds ∷ checks) ≡ None
first-passed file at found holds checks is e = rw is e

-- a folder with both is well formed
pub formed-of : (image : Image) → HasSoundHeaders image → magic_of (byte image Index) ≡ index_magic → IsWellFormed image
unfolding head_checks
formed-of image sound magic =
    first-passed Index 0 (magic_of (byte image Index)) (magic_of (byte image Index) == index_magic) _
    (ap (λ (m : ℕ). m == index_magic) magic) sound

pub formed_sound : WellFormedIsSound
formed_sound image = ((λ well. (sound-of image well, magic-of image well)), (λ both. formed-of image both.0 both.1))

-- Headers that are kept.

pub formed-kept : KeptHeadersStayFormed
formed-kept from image keeps well = formed-of image (keeps.sound (sound-of from well)) (keeps.magic ∙ magic-of from well)

pub headers-kept : (image : Image) → KeepsHeaders image image
headers-kept image = record { sound = λ sound. sound; magic = refl }

pub headers-next : (from between image : Image) → KeepsHeaders from between → KeepsHeaders between image → KeepsHeaders from image
headers-next from between image first second = record { sound = λ sound. second.sound (first.sound sound); magic = second.magic ∙ first.magic }

-- What valid headers say.

pub sound-whole : SoundHasWholeIndex
unfolding field_checks
sound-whole image sound = eqb-true _ _ (passed Index index_length _ (length_of image Index == index_length) _ sound).0

-- its version is one that is read
pub sound-version : (image : Image) → HasSoundHeaders image → is_index_version (version_of (byte image Index)) ≡ true
unfolding field_checks
sound-version image sound =
    let long = passed Index index_length _ (length_of image Index == index_length) _ sound in
    let version = passed Index 4 _ (is_index_version (version_of (byte image Index))) _ long.1 in
    version.0

pub well_formed-finished : (image : Image) → IsWellFormed image → unfinished image ≡ false
unfolding unfinished
well_formed-finished image well = finished (image Index) (magic_of (byte image Index)) (sound-whole image (sound-of image well)) (magic-of image well)

-- a test that fails is not passed
clash : (b : Bool) → b ≡ false → IsTrue b → ⊥
clash b e t = let c : true ≡ false = sym t ∙ e in cc

pub finished_whole : WellFormedIsFinished
finished_whole image well = record { finished = λ un. clash (unfinished image) (well_formed-finished image well) ((unfinished_agrees image).1 un); well_formed = well }

pub whole_index : WellFormedHasWholeIndex
whole_index image well = sound-whole image (sound-of image well)
