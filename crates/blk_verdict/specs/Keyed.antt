-- The key of an entry that is kept in memory only by its length and its place.
use Rattle.std.specs.Prelude.{ℕ, ◌≡◌, List, true}
use Rattle.std.specs.declared.option.Option.TheVariants.{Some}
use Rattle.spec_image.specs.Image.{Image}
use Rattle.spec_folder.specs.Entries.{stored_key}
use Rattle.spec_folder.specs.View.{RecordFields, store_of}
use Rattle.blk_verdict.specs.declared.loading.Loaded.{Loaded}
use Rattle.blk_audit.specs.declared.record_words.RecordWords.{RecordWords}

-- the words of an entry's record as far as they are kept in memory, with 0 for the others
abbrev pub words_kept : Loaded → RecordWords
words_kept loaded = record {
  checks = true;
  bare = true;
  hash = loaded.hash;
  next = 0;
  node = loaded.node;
  state = 0;
  key_len = loaded.key_len;
  long_key = loaded.long_key;
  sizes = loaded.sizes;
  addrs = loaded.addrs;
  flags = 0;
}

-- `key` is what the image has as the key of the entry, by its key length and long key address
pub record IsKeyOf (image : Image) (loaded : Loaded) (key : List ℕ) : Type 0 where
  pub fields : RecordFields
  pub key_len : fields.key_len ≡ loaded.key_len
  pub long_key : fields.long_key ≡ loaded.long_key
  pub stored : stored_key (store_of image) loaded.entry fields ≡ Some key

-- the image has some key for the entry
pub record HasItsKey (image : Image) (loaded : Loaded) : Type 0 where
  pub key : List ℕ
  pub is : IsKeyOf image loaded key
