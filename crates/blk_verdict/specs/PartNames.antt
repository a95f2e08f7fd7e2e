-- The name of a part, its key, as it was read with the verdict on the part.
use Rattle.std.specs.Prelude.{ℕ, ◌≡◌, List, take, true}
use Rattle.std.specs.declared.option.Option.TheVariants.{Some}
use Rattle.spec_image.specs.Image.{Image}
use Rattle.spec_folder.specs.Entries.{stored_key}
use Rattle.spec_folder.specs.View.{store_of}
use Rattle.blk_audit.specs.Records.{fields_said}
use Rattle.blk_audit.specs.declared.record_words.RecordWords.{RecordWords}
use Rattle.blk_verdict.specs.Keyed.{IsKeyOf}
use Rattle.blk_verdict.specs.Kept.{is_part_said}
use Rattle.blk_verdict.specs.declared.loading.Loaded.{Loaded}
use Rattle.blk_verdict.specs.declared.loading.Verdict.{Verdict}
use Rattle.blk_verdict.specs.declared.loading.Verdict.TheVariants as verdict

-- a prefix of the bytes is the key that the image has for a record with these words, if it has one
abbrev pub IsKeyInPrefix : Image → ℕ → RecordWords → List ℕ → Type 0
IsKeyInPrefix image entry words bytes = (key : List ℕ) → stored_key (store_of image) entry (fields_said words) ≡ Some key → take words.key_len bytes ≡ key

-- if the entry is a part, the bytes are the key that the image has of it
abbrev pub IsNameOf : Image → Loaded → List ℕ → Type 0
IsNameOf image said bytes = is_part_said said.role ≡ true → (key : List ℕ) → IsKeyOf image said key → bytes ≡ key

-- if a node was loaded as a part, a prefix of the bytes is the key that the image has of it
abbrev pub IsNameInPrefix : Image → Verdict → List ℕ → Type 0
IsNameInPrefix image (verdict.Loaded said) bytes = IsNameOf image said (take said.key_len bytes)
IsNameInPrefix image (verdict.Dropped reason) bytes = Unit {0}
