-- What a record of a small folder says, computed once from its bytes: its key, its bucket and its chain follow from the fields.
use Rattle.std.proofs.Common.{◌≡◌, ℕ, true, List, [], ◌∷◌, ◌++◌, length, Some, refl, ◌∙◌, ap, arith, lit≤}
use Rattle.std.specs.Prelude.{◌==◌, nat_le}
use Rattle.spec_image.specs.Bytes.{zeros}
use Rattle.spec_image.specs.Image.{Image}
use Rattle.spec_image.specs.Steps.{with_words}
use Rattle.spec_image.proofs.Splices.{length-zeros}
use Rattle.spec_image.proofs.Words.{length-with_words, word-there}
use Rattle.spec_format.specs.Hash.{hash}
use Rattle.spec_format.specs.Headers.{index_length}
use Rattle.spec_format.specs.NewFolder.{new_index_words}
use Rattle.spec_format.specs.Records.{child}
use Rattle.spec_format.specs.Storage.{longest_short_key}
use Rattle.spec_folder.specs.Chains.{bucket_at, bucket_of_hash, is_of_bucket}
use Rattle.spec_folder.specs.Entries.{is_key_length, stored_key}
use Rattle.spec_folder.specs.Searches.{HasKey}
use Rattle.spec_folder.specs.View.{RecordFields, entry_at, key_place_at, store_of}
use Rattle.law_folder.proofs.chains.ChainWords.{shown-chain_next, shown-fields}
use Rattle.law_folder.proofs.examples.SmallFolder.{folder_with}
use Rattle.blk_entry.specs.Keys.{HasReadableKey, key_at}

-- the fields of a record of a new folder with a key of so many bytes at most, and no streams
abbrev pub bare_fields : ℕ → ℕ → ℕ → RecordFields
bare_fields hash node key_len = record { checks = true; hash = hash; rankings_node = node; state = 0; key_len = key_len; long_key = 0; data_size = 0 ∷ 0 ∷ 0 ∷ 0 ∷ []; data_addr = 0 ∷ 0 ∷ 0 ∷ 0 ∷ []; flags = 0 }

-- what the bytes of a record say, which has its key in its place
pub record Says (image : Image) (w : ℕ) (fields : RecordFields) (next : ℕ) (key : List ℕ) : Type 0 where
  pub here : (store_of image).entry w ≡ Some fields
  pub next_is : (entry_at image w).next ≡ next
  pub hashed : fields.hash ≡ hash key
  pub checks : fields.checks ≡ true
  pub short : nat_le fields.key_len longest_short_key ≡ true
  pub in_place : (fields.long_key == 0) ≡ true
  pub bytes : key_place_at image w fields.key_len ≡ key

module _ {image : Image} {w : ℕ} {fields : RecordFields} {next : ℕ} {key : List ℕ} (says : Says image w fields next key) where
  its-key : stored_key (store_of image) w fields ≡ Some key
  unfolding store_of stored_key
  its-key = rw (says.short, says.in_place, says.bytes) refl

  -- the record has the key
  pub says-key : HasKey (store_of image) key (fields.flags == child) w
  says-key = record { fields = fields; here = says.here; hashed = says.hashed; key = its-key; flag = refl }

  -- the key can be read where its length is right
  pub says-readable : is_key_length w fields ≡ true → HasReadableKey w image
  unfolding key_at store_of
  says-readable long = record { key = key; is = rw (says.here, long) its-key }

  -- the record is of the bucket of its hash
  pub says-bucket : bucket_at image w ≡ bucket_of_hash (hash key)
  says-bucket = ap bucket_of_hash (ap (λ (f : RecordFields). f.hash) (shown-fields image w fields says.here) ∙ says.hashed)

  pub says-of_bucket : (bucket : ℕ) → (bucket_of_hash fields.hash == bucket) ≡ true → is_of_bucket (store_of image) bucket w ≡ true
  says-of_bucket bucket same = rw (says.here, says.checks) same

  -- the next of the record in its chain is that of its bytes
  pub says-next : (store_of image).chain_next w ≡ next
  says-next = shown-chain_next image w fields says.here ∙ says.next_is

-- the bucket of the small folders has their first record
abbrev words_before : List (ℕ × ℕ)
words_before = new_index_words 50 ++ (288, 0x90000000) ∷ (308, 0x90000000) ∷ []

pub small-bucket : (records : List ℕ) → (store_of (folder_with records)).table 0xA782 ≡ 0xA0010000
unfolding store_of folder_with
small-bucket records =
    word-there 171896 0xA0010000 (with_words words_before (zeros index_length)) (lit≤ tt)
    (let long : length (with_words words_before (zeros index_length)) ≡ index_length = length-with_words words_before (zeros index_length) ∙ length-zeros index_length in omega arith)
