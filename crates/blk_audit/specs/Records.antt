-- What a scan keeps of a record.
use Rattle.std.specs.Prelude.{ℕ, ◌≡◌, Bool, true, List, All, take, drop, length, nat_le, ◌&&◌, ◌==◌}
use Rattle.std.specs.declared.option.Option.TheVariants.{Some}
use Rattle.spec_image.specs.Bytes.{content, word_at, words_at}
use Rattle.spec_image.specs.Image.{Block, HasRange, Image}
use Rattle.spec_format.specs.Address.{file_selector, place}
use Rattle.spec_format.specs.Hash.{hash}
use Rattle.spec_format.specs.Records.{checks, entry_seal_place, entry_size}
use Rattle.spec_format.specs.Storage.{longest_short_key}
use Rattle.spec_folder.specs.Entries.{stored_key}
use Rattle.spec_folder.specs.View.{RecordFields, entry_at, fields_of, store_of}
use Rattle.blk_audit.specs.declared.record_words.RecordWords.{RecordWords}
use Rattle.blk_audit.specs.declared.records.ReadRecord.{ReadRecord}
use Rattle.blk_audit.specs.declared.record_files.Records.{Records}

-- the words of a record, by its bytes
abbrev pub record_words_in : List ℕ → RecordWords
record_words_in bytes = record {
  checks = checks 92 bytes;
  bare = word_at (content bytes) entry_seal_place == 0;
  hash = word_at (content bytes) 0;
  next = word_at (content bytes) 4;
  node = word_at (content bytes) 8;
  state = word_at (content bytes) 20;
  key_len = word_at (content bytes) 32;
  long_key = word_at (content bytes) 36;
  sizes = words_at (content bytes) 40 4;
  addrs = words_at (content bytes) 56 4;
  flags = word_at (content bytes) 72;
}

-- the fields of a record that are judged, from its words
abbrev pub fields_said : RecordWords → RecordFields
fields_said words = record {
  checks = words.checks;
  hash = words.hash;
  rankings_node = words.node;
  state = words.state;
  key_len = words.key_len;
  long_key = words.long_key;
  data_size = words.sizes;
  data_addr = words.addrs;
  flags = words.flags;
}

-- `words` are those of the record at address `entry` of an image
pub record AreWordsOf (image : Image) (entry : ℕ) (words : RecordWords) : Type 0 where
  pub fields : fields_said words ≡ fields_of (entry_at image entry)
  pub next : words.next ≡ (entry_at image entry).next
  pub bare : words.bare ≡ ((entry_at image entry).self_hash == 0)

-- `sum` is the hash of a short key of this length, which is at the start of the bytes
abbrev pub is_hash_in : ℕ → ℕ → List ℕ → Bool
is_hash_in sum key_len bytes = (nat_le key_len longest_short_key && nat_le key_len (length bytes)) && (hash (take key_len bytes) == sum)

-- what a scan keeps of a record, by its bytes or a prefix of them: its words, and whether its hash is known to be that of its key
abbrev pub record_in : List ℕ → ReadRecord
record_in bytes = record { words = record_words_in (take entry_size bytes); hash_is_right = is_hash_in (record_words_in (take entry_size bytes)).hash (record_words_in (take entry_size bytes)).key_len (drop entry_size bytes) }

-- `sum` is the hash of the record's key, if the image has that key by these words
abbrev pub IsHashOfKey : Image → ℕ → RecordWords → ℕ → Type 0
IsHashOfKey image entry words sum = (key : List ℕ) → stored_key (store_of image) entry (fields_said words) ≡ Some key → sum ≡ hash key

-- if a scan says that the hash of a record is right, it is that of its key in the image
abbrev pub IsRightWhereSaid : Image → ℕ → ReadRecord → Type 0
IsRightWhereSaid image entry said = said.hash_is_right ≡ true → IsHashOfKey image entry said.words said.words.hash

-- `said` is what a scan keeps of the record at address w of an image, whose file has its bytes
pub record IsSaidBy (image : Image) (w : ℕ) (said : ReadRecord) : Type 0 where
  pub words : AreWordsOf image w said.words
  pub hash : IsRightWhereSaid image w said
  pub there : HasRange image (Block (file_selector w)) (place w) entry_size

-- all records that were read in pieces are kept as the image has them
abbrev pub AreRecordsOf : Image → Records → Type 0
AreRecordsOf image records = All (λ placed. IsSaidBy image placed.first placed.said) records.placed.items
