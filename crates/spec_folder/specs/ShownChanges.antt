-- How what is shown changes, where little of it does.
use Rattle.std.specs.Prelude.{◌≡◌, ◌≢◌, ◌⊎◌, ℕ, true, false, nat_le, List}
use Rattle.std.specs.declared.option.Option.TheVariants.{Some}
use Rattle.spec_image.specs.Image.{Image}
use Rattle.spec_format.specs.BlockFiles.{stands_in, KeepsHeaders}
use Rattle.spec_format.specs.Claims.{claims_of, has_claim}
use Rattle.spec_folder.specs.ListView.{ListWrite, after_writes}
use Rattle.spec_folder.specs.View.{StoreView, RecordFields, list_of, store_of, view_of}
use Rattle.spec_folder.specs.Chains.{file_and_block}
use Rattle.spec_folder.specs.Entries.{is_key_length}
use Rattle.spec_folder.specs.Footprint.{IsClear, SameStore, SameBut}
use Rattle.spec_format.specs.Storage.{longest_short_key}

-- two images show the same but for the blocks of a word, the same addresses are valid, and the headers are kept
pub record ChangesInside (w : ℕ) (from image : Image) : Type 0 where
  pub shown : SameBut (has_claim (claims_of w)) (view_of from) (view_of image)
  pub stands : (u : ℕ) → stands_in image u ≡ stands_in from u
  pub headers : KeepsHeaders from image

-- two store views agree on all words and on the table
pub record ShowsTheSame (old new : StoreView) : Type 0 where
  pub store : SameStore (λ claim. false) old new
  pub table : (bucket : ℕ) → old.table bucket ≡ new.table bucket

-- two images show the same but for the LRU list, which changes by these writes
pub record OnlyListChanges (writes : List ListWrite) (from image : Image) : Type 0 where
  pub list : list_of image ≡ after_writes writes (list_of from)
  pub store : ShowsTheSame (store_of from) (store_of image)

-- two images show the same but for the contents and dirty flags of one node
pub record OnlyNodeFieldsChange (w : ℕ) (from image : Image) : Type 0 where
  pub list : list_of image ≡ list_of from
  pub node_fields : (u : ℕ) → u ≢ w → (store_of from).node_fields u ≡ (store_of image).node_fields u
  pub rest : ShowsTheSame (record (store_of from) { node_fields = (store_of image).node_fields }) (store_of image)

-- two images agree but for the record of a word: on the list, the nodes, the table, its own key, and the keys and data in other blocks than its own
pub record SameExceptRecord (w : ℕ) (from image : Image) : Type 0 where
  pub list : list_of image ≡ list_of from
  pub node_fields : (u : ℕ) → (store_of from).node_fields u ≡ (store_of image).node_fields u
  pub table : (bucket : ℕ) → (store_of from).table bucket ≡ (store_of image).table bucket
  pub key_place : (u : ℕ) (fields : RecordFields) → IsClear (has_claim (claims_of w)) u ⊎ (u ≡ w) → (store_of from).entry u ≡ Some fields
      → is_key_length u fields ≡ true → nat_le fields.key_len longest_short_key ≡ true
      → (store_of from).key_place u fields.key_len ≡ (store_of image).key_place u fields.key_len
  pub stored : (size u : ℕ) → IsClear (has_claim (claims_of w)) u → (store_of from).stored size u ≡ (store_of image).stored size u

-- two images show the same but for the chain link of the record at one first block
pub record OnlyChainNextChanges (w : ℕ) (from image : Image) : Type 0 where
  pub rest : SameExceptRecord w from image
  pub entry : (u : ℕ) → (store_of from).entry u ≡ (store_of image).entry u
  pub chain_next : (u : ℕ) → file_and_block u ≢ file_and_block w → (store_of from).chain_next u ≡ (store_of image).chain_next u

-- two images show the same but for the record at one first block, whose chain link stays
pub record OnlyRecordFieldsChange (w : ℕ) (from image : Image) : Type 0 where
  pub rest : SameExceptRecord w from image
  pub entry : (u : ℕ) → file_and_block u ≢ file_and_block w → (store_of from).entry u ≡ (store_of image).entry u
  pub chain_next : (u : ℕ) → (store_of from).chain_next u ≡ (store_of image).chain_next u
