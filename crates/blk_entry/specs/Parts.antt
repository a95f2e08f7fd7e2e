-- A new part, when its record has got its two streams.
use Rattle.std.specs.Prelude.{◌≡◌, ℕ, ◌^◌, ◌<◌, ◌≤◌, List, [], ◌∷◌, length, true, unwrap_or}
use Rattle.std.specs.declared.option.Option.TheVariants.{Some}
use Rattle.std.specs.declared.result.Result.TheVariants.{Ok}
use Rattle.spec_image.specs.Image.{Image, AreBytes}
use Rattle.spec_image.specs.Footprint.{SameOutside}
use Rattle.spec_format.specs.Claims.{claims_of, has_claim}
use Rattle.spec_format.specs.Records.{entry_normal}
use Rattle.spec_format.specs.Sealed.{IsUpdated, record_range}
use Rattle.spec_folder.specs.View.{store_of}
use Rattle.spec_folder.specs.Entries.{Role, most_stream_bytes, part_role}
use Rattle.spec_folder.specs.Footprint.{IsClear}
use Rattle.spec_folder.specs.Loads.{Loaded, load, unchained_rule}
use Rattle.blk_disk.specs.declared.tables.BlockFiles.{BlockFiles}
use Rattle.blk_entry.specs.declared.writing.NewEntry.{NewEntry}
use Rattle.blk_entry.specs.Writing.{AreWords, FitsKey, IsShownNew, LiesApart, loaded_new}

-- the two streams of a part, its data and its validity bitmap with a header, each with its address
pub record PartStreams : Type 0 where
  pub stored : List ℕ
  pub index : List ℕ
  pub stored_addr : ℕ
  pub index_addr : ℕ

-- the changes of a part's record that set its streams 1 and 2, as offsets with words: their sizes and their addresses
abbrev pub stream_changes : PartStreams → List (ℕ × ℕ)
stream_changes s = (44, length s.stored) ∷ (48, length s.index) ∷ (60, s.stored_addr) ∷ (64, s.index_addr) ∷ []

-- the bytes are stored at this address, which has none of the record's blocks, and are no more than a stream may have
pub record IsStoredBeside (entry : ℕ) (bytes : List ℕ) (addr : ℕ) (image : Image) : Type 0 where
  pub few : length bytes ≤ most_stream_bytes
  pub word : addr < 2 ^ 32
  pub stored : (store_of image).stored (length bytes) addr ≡ Some bytes
  pub clear : IsClear (has_claim (claims_of entry)) addr

-- what a new part with these streams is loaded as
abbrev pub loaded_part : NewEntry → List ℕ → PartStreams → Role → Loaded
loaded_part new key s role = record (loaded_new new key) {
  role = role;
  streams = [] ∷ s.stored ∷ s.index ∷ [];
  others = unwrap_or new.long_key 0 ∷ 0 ∷ s.stored_addr ∷ s.index_addr ∷ 0 ∷ [];
}

-- a new part whose streams are stored, and whose record got them in one update with a new checksum, loads as the part that its name and its index say
abbrev pub WrittenPartsLoad : Type 0
WrittenPartsLoad = (files : BlockFiles) (new : NewEntry) (key : List ℕ) (moment : ℕ) (streams : PartStreams) (role : Role) (from image : Image)
    → FitsKey files new key → AreWords new → LiesApart new.entry new.long_key → new.child ≡ true
    → AreBytes from → IsShownNew new key moment from
    → IsStoredBeside new.entry streams.stored streams.stored_addr from → IsStoredBeside new.entry streams.index streams.index_addr from
    → part_role key ([] ∷ streams.stored ∷ streams.index ∷ []) ≡ Some role
    → IsUpdated from new.entry (stream_changes streams) image → SameOutside (record_range new.entry) from image
    → load (store_of image) (unchained_rule entry_normal) new.node ≡ Ok (loaded_part new key streams role)
