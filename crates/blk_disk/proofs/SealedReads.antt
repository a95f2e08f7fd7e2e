-- A record that is read, and its checksum.
use Rattle.std.proofs.Common.{◌≡◌, ◌≢◌, ℕ, ◌+◌, Bool, true, false, if◌then◌else◌, List, Option, None, Some, refl, sym, ◌∙◌, ap, ap₂, add-zero}
use Rattle.std.specs.Prelude.{◌||◌, ◌==◌}
use Rattle.std.specs.Option.{ForSome}
use Rattle.spec_image.specs.Bytes.{content, word_at, range_at}
use Rattle.spec_image.specs.Image.{Block, Image, byte}
use Rattle.spec_image.specs.Told.{Told}
use Rattle.spec_format.specs.Address.{file_selector, place}
use Rattle.spec_format.specs.Records.{checks, seal_of}
use Rattle.blk_io.specs.declared.fault.Damage.{Damage}
use Rattle.blk_io.specs.declared.folder.FileId.TheVariants as names
use Rattle.spec_format.specs.Sealed.{record_size, seal_place, record_at, RecordChecks}
use Rattle.blk_disk.specs.Unsealed.{wrong_seal, IsUnsealed}

-- the bytes that are read from the start of the blocks are the record
pub record_read : (image : Image) (w n : ℕ) (bytes : List ℕ) → n ≡ record_size w → bytes ≡ range_at (byte image (Block (file_selector w))) (place w + 0) n → bytes ≡ record_at image w
unfolding record_at
record_read image w n bytes size is = is ∙ ap₂ (λ (at n : ℕ). range_at (byte image (Block (file_selector w))) at n) (add-zero (place w)) size

-- a record with a wrong checksum: it is neither 0 nor the hash of the bytes before it
pub record IsWrong (s found : ℕ) (bytes : List ℕ) : Type 0 where
  pub fails : checks s bytes ≡ false
  pub seal : found ≡ word_at (content bytes) s
  pub unlike : found ≢ 0

pub wrong_is : (s found : ℕ) (bytes : List ℕ) → wrong_seal s bytes ≡ Some found → IsWrong s found bytes
wrong_is s found bytes is = by_test (checks s bytes) refl is
  where
    clash : (b : Bool) → (true || b) ≡ false → ⊥
    clash b e = cc

    by_test : (t : Bool) → checks s bytes ≡ t → (if t then None else Some (word_at (content bytes) s)) ≡ Some found → IsWrong s found bytes
    by_test true e is = absurd (none_some is)
      where
        none_some : None ≡ Some found → ⊥
        none_some h = cc
    by_test false e is =
        let same : found ≡ word_at (content bytes) s = cc in
        record {
          fails = e;
          seal = same;
          unlike = λ zero. let z : word_at (content bytes) s ≡ 0 = sym same ∙ zero in clash (0 == seal_of s bytes) (sym (ap (λ (n : ℕ). (n == 0) || (n == seal_of s bytes)) z) ∙ e);
        }

-- the error has the checksum that was found
pub unsealed_is : (told : Told) (w s found : ℕ) (bytes : List ℕ) (damage : Damage) → s ≡ seal_place w → wrong_seal s bytes ≡ Some found → damage.file ≡ names.Block (file_selector w) → damage.at ≡ place w + s → damage.found ≡ found
    → ForSome told.files (λ image. bytes ≡ record_at image w) → IsUnsealed told w damage
unsealed_is told w s found bytes damage place_is wrong file at is read =
    let h = wrong_is s found bytes wrong in
    record {
      of_file = file;
      at_seal = at ∙ ap (λ (n : ℕ). place w + n) place_is;
      unlike = λ zero. h.unlike (sym is ∙ zero);
      unsealed = λ image there. (
        is ∙ h.seal ∙ ap₂ (λ (b : List ℕ) (n : ℕ). word_at (content b) n) (read image there) place_is,
        sym (ap₂ (λ (b : List ℕ) (n : ℕ). checks n b) (read image there) place_is) ∙ h.fails,
      );
    }

-- where the record's checksum matches or is absent, only an opaque folder reports it as wrong
pub untold_unsealed : (told : Told) (w : ℕ) (damage : Damage) → IsUnsealed told w damage → ForSome told.files (RecordChecks w) → told.files ≡ None
untold_unsealed told w damage unsealed checks = by_files told.files refl
  where
    clash : true ≡ false → ⊥
    clash e = cc

    by_files : (files : Option Image) → told.files ≡ files → told.files ≡ None
    by_files None there = there
    by_files (Some image) there = absurd (clash (sym (checks image there) ∙ (unsealed.unsealed image there).1))

-- a record that was read, and whose checksum matches or is absent
pub read_checks : (image : Image) (w s n : ℕ) (bytes : List ℕ) → s ≡ seal_place w → n ≡ record_size w → bytes ≡ range_at (byte image (Block (file_selector w))) (place w + 0) n → checks s bytes ≡ true → RecordChecks w image
read_checks image w s n bytes place_is size read holds = sym (ap₂ (λ (k : ℕ) (b : List ℕ). checks k b) place_is (record_read image w n bytes size read)) ∙ holds
