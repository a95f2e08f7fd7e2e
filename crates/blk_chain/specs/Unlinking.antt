-- A record is unlinked from its hash chain.
use Rattle.std.specs.Prelude.{◌≡◌, ◌≢◌, ◌↔◌, ◌⊎◌, ℕ, ◌+◌, List, [], ◌∷◌, ◌++◌, Bool, true, false, nat_le, ◌==◌}
use Rattle.std.specs.declared.option.Option.{Option}
use Rattle.std.specs.declared.option.Option.TheVariants.{None, Some}
use Rattle.spec_image.specs.Image.{Image, Index}
use Rattle.spec_image.specs.Steps.{TrailStep, word_step}
use Rattle.spec_image.specs.Footprint.{Footprint, SameOutside, one_word}
use Rattle.spec_image.specs.Told.{Told}
use Rattle.spec_format.specs.Address.{file_selector, first_block, place}
use Rattle.spec_format.specs.Claims.{Claim, BlockOf, claims_of, has_claim}
use Rattle.spec_format.specs.BlockFiles.{KeepsHeaders}
use Rattle.blk_io.specs.declared.folder.FileId.TheVariants as names
use Rattle.blk_io.specs.declared.fault.Damage.{Damage}
use Rattle.blk_io.specs.Faults.{IsShort}
use Rattle.spec_folder.specs.ListView.{put}
use Rattle.spec_folder.specs.View.{RecordFields, StoreView, entry_at, list_of, store_of}
use Rattle.spec_folder.specs.Entries.{is_key_length}
use Rattle.spec_folder.specs.Chains.{chain, file_and_block, IsChain, bucket_at}
use Rattle.blk_disk.specs.Damages.{IsFailedRecord}
use Rattle.spec_format.specs.Sealed.{IsUpdated, RecordChecks, record_range, record_size, sealed_steps}
use Rattle.spec_folder.specs.Searches.{HasKey, IsWholeChain}
use Rattle.blk_chain.specs.Linking.{chained_with, place_of_front}
use Rattle.spec_format.specs.Storage.{longest_short_key}

-- the list is `prefix`, then `before`, then w, then `suffix`; without `before` w is its first element
abbrev pub StandsBehind : List ℕ → ℕ → Option ℕ → List ℕ → List ℕ → Type 0
StandsBehind words w None prefix suffix = (prefix ≡ []) × (words ≡ w ∷ suffix)
StandsBehind words w (Some before) prefix suffix = words ≡ prefix ++ before ∷ w ∷ suffix

-- the list of StandsBehind without the record: `prefix`, `before` and `suffix`
abbrev pub without_record : Option ℕ → List ℕ → List ℕ → List ℕ
without_record None prefix suffix = suffix
without_record (Some before) prefix suffix = prefix ++ before ∷ suffix

-- precondition of unlinking: the chain of the record is whole, and `before` is the record before it there, or None if it is the first
pub record CanBeUnlinked (entry : ℕ) (before : Option ℕ) (image : Image) : Type 0 where
  pub whole : IsWholeChain (store_of image) (bucket_at image entry)
  pub prefix : List ℕ
  pub suffix : List ℕ
  pub stands : StandsBehind (chained_with image entry) entry before prefix suffix

-- the next record of record w, in its chain
abbrev pub next_record : Image → ℕ → ℕ
next_record image w = (entry_at image w).next

-- the steps that unlink a record: the word of the bucket becomes its next; or the next of the record before does, in an update with a new checksum
abbrev pub unlink_steps : Image → ℕ → Option ℕ → List TrailStep
unlink_steps image entry None = word_step Index (place_of_front image entry) (next_record image entry)
unlink_steps image entry (Some before) = sealed_steps image before ((4, next_record image entry) ∷ [])

-- what unlinking may touch: the bucket's word, or the record before
abbrev pub unlink_range : Image → ℕ → Option ℕ → Footprint
unlink_range image entry None = one_word Index (place_of_front image entry)
unlink_range image entry (Some before) = record_range before

-- the first block of record w
abbrev pub first_claim : ℕ → Claim
first_claim w = BlockOf (file_selector w) (first_block w)

-- the key of record w has a right length and lies apart from record `before`: the first block of `before` is none of w's blocks, unless w is `before` itself,
-- and none of its long key's
pub record IsApart (before : ℕ) (store : StoreView) (w : ℕ) : Type 0 where
  pub fields : RecordFields
  pub here : store.entry w ≡ Some fields
  pub lengths : is_key_length w fields ≡ true
  pub record_apart : (w ≡ before) ⊎ (has_claim (claims_of w) (first_claim before) ≡ false)
  pub key_apart : nat_le fields.key_len longest_short_key ≡ false → has_claim (claims_of fields.long_key) (first_claim before) ≡ false

-- the key of record w lies apart from what unlinking changes: from the record before, or nothing is asked where the table is changed
abbrev pub KeyIsApart : Option ℕ → StoreView → ℕ → Type 0
KeyIsApart None store w = Unit {0}
KeyIsApart (Some before) store w = IsApart before store w

-- each record whose key lies apart from the change keeps its key and its child flag
abbrev pub NamesStay : Image → Option ℕ → Image → Type 0
NamesStay from before image = (w : ℕ) (name : List ℕ) (is_child : Bool) → KeyIsApart before (store_of from) w → HasKey (store_of from) name is_child w ↔ HasKey (store_of image) name is_child w

-- all records but for their links, and the list, are unchanged, each record's checksum is judged as before, and nothing outside the footprint has changed
pub record KeepsRecords (from : Image) (before : Option ℕ) (footprint : Footprint) (image : Image) : Type 0 where
  pub list : list_of image ≡ list_of from
  pub records : (w : ℕ) → (store_of image).entry w ≡ (store_of from).entry w
  pub names : NamesStay from before image
  pub headers : KeepsHeaders from image
  pub outside : SameOutside footprint from image

-- no chain has changed yet, and nothing outside the range of the unlinking has
pub record IsStillLinked (from : Image) (entry : ℕ) (before : Option ℕ) (image : Image) : Type 0 where
  pub keeps : KeepsRecords from before (unlink_range from entry before) image
  pub chains : (bucket : ℕ) → chain (store_of image) bucket ≡ chain (store_of from) bucket

-- record `before` has the next of `entry` as its next, and no other link, nor the table, nor what nodes say has changed
pub record IsRelinked (from : Image) (entry : ℕ) (before : ℕ) (image : Image) : Type 0 where
  pub link : (store_of image).chain_next before ≡ next_record from entry
  pub table : (bucket : ℕ) → (store_of image).table bucket ≡ (store_of from).table bucket
  pub node_fields : (w : ℕ) → (store_of image).node_fields w ≡ (store_of from).node_fields w
  pub chain_next : (w : ℕ) → file_and_block w ≢ file_and_block before → (store_of image).chain_next w ≡ (store_of from).chain_next w

-- exactly one link has changed, to the next of record `entry`: the word of the bucket, or the next of the record before
abbrev pub OneLinkChanges : Image → ℕ → Option ℕ → Image → Type 0
OneLinkChanges from entry None image = store_of image ≡ record (store_of from) { table = put (store_of from).table (bucket_at from entry) (next_record from entry) }
OneLinkChanges from entry (Some before) image = IsRelinked from entry before image

-- a record was unlinked: its chain is whole without it, the other chains are unchanged, and exactly one link has changed
pub record IsUnlinked (from : Image) (entry : ℕ) (before : Option ℕ) (image : Image) : Type 0 where
  pub keeps : KeepsRecords from before (unlink_range from entry before) image
  pub chain_now : (prefix suffix : List ℕ) → StandsBehind (chained_with from entry) entry before prefix suffix → IsChain (store_of image) (bucket_at from entry) (without_record before prefix suffix)
  pub others : (other : ℕ) → (bucket_at from entry == other) ≡ false → chain (store_of image) other ≡ chain (store_of from) other
  pub links : OneLinkChanges from entry before image

-- the record before `entry` got the next of `entry` and a checksum that matches, and is unchanged otherwise; nothing where there is none
abbrev pub IsSealedAgain : Image → ℕ → Option ℕ → Image → Type 0
IsSealedAgain from entry None image = Unit {0}
IsSealedAgain from entry (Some before) image = IsUpdated from before ((4, next_record from entry) ∷ []) image

-- how many words are written up to and including the one that unlinks the record: the bucket's word; or the checksum and the next of the record before
abbrev pub words_to_unlink : Option ℕ → ℕ
words_to_unlink None = 1
words_to_unlink (Some before) = 2

-- the checksum of the record before, if there is one, matches or is absent
abbrev pub BeforeChecks : Option ℕ → Image → Type 0
BeforeChecks None image = Unit {0}
BeforeChecks (Some before) image = RecordChecks before image

-- why unlinking fails: too few bytes of the record's next; or of its hash; or the record before can't be read or its checksum doesn't match
abbrev pub IsUnlinkDamage : Told → ℕ → Option ℕ → Damage → Type 0
IsUnlinkDamage told entry None damage = IsShort told (names.Block (file_selector entry)) (place entry + 4) 4 damage ⊎ IsShort told (names.Block (file_selector entry)) (place entry) 4 damage
IsUnlinkDamage told entry (Some before) damage =
    IsShort told (names.Block (file_selector entry)) (place entry + 4) 4 damage ⊎ IsFailedRecord told before (record_size before) damage
