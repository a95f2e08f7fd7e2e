-- Records that are searched for by a key and the flag of a part, in the chain of the key's bucket.
use Rattle.std.specs.Prelude.{◌≡◌, ℕ, List, Bool, true, ◌==◌}
use Rattle.std.specs.declared.option.Option.TheVariants.{Some}
use Rattle.blk_model.specs.State.{State, live_with}
use Rattle.blk_model.specs.Items.{main}
use Rattle.spec_format.specs.Hash.{hash}
use Rattle.spec_format.specs.Records.{child}
use Rattle.spec_format.specs.BlockFiles.{is_among}
use Rattle.spec_folder.specs.View.{StoreView, RecordFields}
use Rattle.spec_folder.specs.Chains.{bucket_of_hash, chain, IsChain}
use Rattle.spec_folder.specs.Entries.{is_key_length, stored_key}
use Rattle.spec_folder.specs.Loads.{Loaded}
use Rattle.spec_folder.specs.Layout.{Layout}

-- the bucket of a key
abbrev pub bucket_of_key : List ℕ → ℕ
bucket_of_key key = bucket_of_hash (hash key)

-- the records that are reached in the chain of a key's bucket
abbrev pub chained_for : StoreView → List ℕ → List ℕ
chained_for store key = (chain store (bucket_of_key key)).reached

-- the chain of a bucket is whole: it ends at the word 0
abbrev pub IsWholeChain : StoreView → ℕ → Type 0
IsWholeChain store bucket = IsChain store bucket (chain store bucket).reached

-- the record of a word has this key, with the hash of the key as its hash; it has the flag of a part exactly where `is_child` is true
pub record HasKey (store : StoreView) (name : List ℕ) (is_child : Bool) (w : ℕ) : Type 0 where
  pub fields : RecordFields
  pub here : store.entry w ≡ Some fields
  pub hashed : fields.hash ≡ hash name
  pub key : stored_key store w fields ≡ Some name
  pub flag : (fields.flags == child) ≡ is_child

-- none of these words names a record with this key that has the flag of a part exactly where `is_child` is true
abbrev pub NoneHasKey : StoreView → List ℕ → List ℕ → Bool → Type 0
NoneHasKey store words key is_child = (w : ℕ) → is_among words w ≡ true → HasKey store key is_child w → ⊥

-- a word names a record whose checksum is right or absent and that has a key, whose length and place are right
pub record HasCheckedKey (store : StoreView) (w : ℕ) : Type 0 where
  pub fields : RecordFields
  pub here : store.entry w ≡ Some fields
  pub checks : fields.checks ≡ true
  pub long : is_key_length w fields ≡ true
  pub key : List ℕ
  pub is : stored_key store w fields ≡ Some key

-- a record and the node that it names are those of the live object of a key
pub record IsOfLive (state : State) (layout : Layout) (key : List ℕ) (entry node : ℕ) : Type 0 where
  pub number : ℕ
  pub live : live_with state key ≡ Some number
  pub place : node ≡ layout.place (main key)
  pub loaded : Loaded
  pub at : layout.at node ≡ Some loaded
  pub contents : loaded.contents ≡ entry
