-- A record that was read and whose checksum doesn't match, or is absent.
use Rattle.std.specs.Prelude.{Option, None, Some, ℕ, ◌≡◌, ◌≢◌, ◌+◌, if◌then◌else◌, List, [], false}
use Rattle.std.specs.Option.{ForSome}
use Rattle.spec_image.specs.Bytes.{content, word_at}
use Rattle.spec_image.specs.Image.{Block}
use Rattle.spec_image.specs.Steps.{TrailStep, word_step}
use Rattle.spec_image.specs.Told.{Told}
use Rattle.spec_format.specs.Address.{file_selector, place}
use Rattle.spec_format.specs.Records.{checks, seal_of}
use Rattle.spec_format.specs.Sealed.{is_sealed, record_at, seal_place}
use Rattle.blk_io.specs.declared.folder.FileId.TheVariants as names
use Rattle.blk_io.specs.declared.fault.Damage.{Damage}

-- the checksum of a record where it is neither 0 nor the hash of the bytes before it, else None
abbrev pub wrong_seal : ℕ → List ℕ → Option ℕ
wrong_seal seal bytes = if checks seal bytes then None else Some (word_at (content bytes) seal)

-- the record at address w was read and its checksum doesn't match: the error has its offset, and as its word the checksum found, which isn't 0
pub record IsUnsealed (told : Told) (w : ℕ) (damage : Damage) : Type 0 where
  pub of_file : damage.file ≡ names.Block (file_selector w)
  pub at_seal : damage.at ≡ place w + seal_place w
  pub unlike : damage.found ≢ 0
  pub unsealed : ForSome told.files (λ image. (damage.found ≡ word_at (content (record_at image w)) (seal_place w)) × (checks (seal_place w) (record_at image w) ≡ false))

-- the hash of the bytes before the checksum, where the checksum isn't that, else None
abbrev pub missing_seal : ℕ → List ℕ → Option ℕ
missing_seal seal bytes = if is_sealed seal bytes then None else Some (seal_of seal bytes)

-- the step that writes this checksum into the record at address w, or none where the record has it already
abbrev pub missing_steps : ℕ → Option ℕ → List TrailStep
missing_steps w None = []
missing_steps w (Some seal) = word_step (Block (file_selector w)) (place w + seal_place w) seal
