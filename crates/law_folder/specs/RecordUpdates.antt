-- What the update of an entry record does to what is shown, at each of its words.
use Rattle.std.specs.Prelude.{◌≡◌, ℕ, ◌^◌, ◌<◌, ◌≤◌, ◌==◌, if◌then◌else◌, List, [], ◌∷◌, All, take, true}
use Rattle.std.specs.declared.option.Option.TheVariants.{Some}
use Rattle.spec_image.specs.Bytes.{content}
use Rattle.spec_image.specs.Image.{Image, AreBytes}
use Rattle.spec_image.specs.Steps.{with_words}
use Rattle.spec_format.specs.Records.{entry_in, entry_next_place}
use Rattle.spec_folder.specs.View.{RecordFields, fields_of, store_of}
use Rattle.spec_format.specs.Sealed.{AreChanges, IsMidUpdate, seal_place, record_at}
use Rattle.spec_folder.specs.ShownChanges.{OnlyChainNextChanges, OnlyRecordFieldsChange}

-- a record is there, its checksum is right or absent, and the image is one of bytes
pub record IsRecord (image : Image) (w : ℕ) (fields : RecordFields) : Type 0 where
  pub here : (store_of image).entry w ≡ Some fields
  pub good : fields.checks ≡ true
  pub bytes : AreBytes image

-- at each word of the update of a record's chain link, nothing else that is shown changes, and it is the old or the new word
abbrev pub ChainNextsAreWritten : Type 0
ChainNextsAreWritten = (from image : Image) (w x : ℕ) (fields : RecordFields) → IsRecord from w fields → x < 2 ^ 32 → (moment : IsMidUpdate from w ((entry_next_place, x) ∷ []) image)
    → OnlyChainNextChanges w from image × ((store_of image).chain_next w ≡ (if moment.made == 0 then (store_of from).chain_next w else x))

-- the fields of an entry record of these bytes, once it has its checksum
abbrev pub sealed_fields : List ℕ → RecordFields
sealed_fields bytes = record (fields_of (entry_in (content bytes) 0)) { checks = true }

-- at each word of the update of a record's fields after its chain link, nothing else that is shown changes, and they are the old ones with a prefix of the
-- changes
abbrev pub FieldsAreWritten : Type 0
FieldsAreWritten = (from image : Image) (w : ℕ) (changes : List (ℕ × ℕ)) (fields : RecordFields) → IsRecord from w fields → AreChanges (seal_place w) changes → All (λ change. 8 ≤ change.0) changes → (moment : IsMidUpdate from w changes image)
    → OnlyRecordFieldsChange w from image × ((store_of image).entry w ≡ Some (sealed_fields (with_words (take moment.made changes) (record_at from w))))
