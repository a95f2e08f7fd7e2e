-- The search for a record by its key and its child flag, in the hash chain of the key's bucket.
use Rattle.std.specs.Prelude.{◌≡◌, ◌≢◌, ◌⊎◌, ℕ, ◌+◌, ◌<◌, ◌≤◌, List, [], ◌∷◌, ◌++◌, length, Bool, true, false, ◌==◌, IfSome}
use Rattle.std.specs.declared.option.Option.{Option}
use Rattle.std.specs.declared.option.Option.TheVariants.{None, Some}
use Rattle.spec_image.specs.Image.{Image}
use Rattle.std.specs.Option.{ForSome}
use Rattle.spec_image.specs.Told.{Told}
use Rattle.spec_format.specs.Address.{file_selector, place}
use Rattle.spec_format.specs.BlockFiles.{is_among}
use Rattle.spec_format.specs.Headers.{place_of_bucket}
use Rattle.blk_io.specs.declared.folder.FileId.TheVariants as names
use Rattle.blk_io.specs.declared.fault.Damage.{Damage}
use Rattle.blk_io.specs.declared.fault.Fault.{Fault}
use Rattle.blk_io.specs.declared.fault.Fault.TheVariants.{Damaged}
use Rattle.blk_io.specs.Faults.{IsShort}
use Rattle.spec_format.specs.Records.{child}
use Rattle.spec_folder.specs.ListView.{most_nodes}
use Rattle.spec_folder.specs.View.{RecordFields, entry_at, store_of}
use Rattle.spec_folder.specs.Chains.{Linked}
use Rattle.blk_disk.specs.declared.tables.BlockFiles.{BlockFiles}
use Rattle.blk_disk.specs.Tables.{is_record_among}
use Rattle.blk_entry.specs.Keys.{HasBytesOf, HasReadableKey, HasRecord, IsKeyDamage}
use Rattle.blk_chain.specs.declared.found.Found.{Found}
use Rattle.blk_chain.specs.declared.finding.Step.{Step}
use Rattle.blk_chain.specs.declared.finding.Step.TheVariants.{Here, On}
use Rattle.spec_folder.specs.Searches.{bucket_of_key, chained_for, HasKey, IsWholeChain, NoneHasKey}
use Rattle.blk_chain.specs.Unlinking.{StandsBehind, next_record}

-- the most records that a chain has in a folder that is consistent: as many as an LRU list has nodes; a search passes one more at most
abbrev pub most_searched : ℕ
most_searched = most_nodes

-- precondition of a search: the chain of the key's bucket ends at the word 0, has at most so many records (`most_searched`), and each of them has a readable
-- key
pub record CanBeSearched (key : List ℕ) (image : Image) : Type 0 where
  pub whole : IsWholeChain (store_of image) (bucket_of_key key)
  pub few : length (chained_for (store_of image) key) ≤ most_searched
  pub keys : (w : ℕ) → is_among (chained_for (store_of image) key) w ≡ true → HasReadableKey w image

-- the words of the list up to and including `before`, if there is one
abbrev pub up_to : List ℕ → Option ℕ → List ℕ
up_to prefix None = prefix
up_to prefix (Some before) = prefix ++ before ∷ []

-- the search result: the record has this key and child flag, it comes after `before` in its chain (or is the first), and no record before it has both
pub record IsFound (key : List ℕ) (is_child : Bool) (entry : ℕ) (before : Option ℕ) (image : Image) : Type 0 where
  pub has_key : HasKey (store_of image) key is_child entry
  pub prefix : List ℕ
  pub suffix : List ℕ
  pub stands : StandsBehind (chained_for (store_of image) key) entry before prefix suffix
  pub first : NoneHasKey (store_of image) (up_to prefix before) key is_child

-- the answer of a search: a record that was found, or None where no record of the chain has the key and the child flag
abbrev pub IsAnswer : List ℕ → Bool → Option Found → Image → Type 0
IsAnswer key is_child None image = NoneHasKey (store_of image) (chained_for (store_of image) key) key is_child
IsAnswer key is_child (Some found) image = IsFound key is_child found.entry found.before image

-- A search from record to record, of any chain.

-- record w is the one that is sought: it has the key's hash, the key's bytes lie where its words say, and it has this child flag
pub record IsSought (key : List ℕ) (is_child : Bool) (w : ℕ) (image : Image) : Type 0 where
  pub bytes : HasBytesOf key w image
  pub flag : ((entry_at image w).flags == child) ≡ is_child

-- word w was followed: it is the address of a valid record, whose bytes are there and whose checksum matches or is absent
pub record IsFollowed (files : BlockFiles) (w : ℕ) (image : Image) : Type 0 where
  pub stands : is_record_among files w ≡ true
  pub whole : HasRecord w image

-- a walk along a chain passes these records, from `word` up to the word `on`: each was followed, and none is the one that is sought
abbrev pub Walks : BlockFiles → List ℕ → Bool → Image → ℕ → List ℕ → ℕ → Type 0
Walks files key is_child image word [] on = word ≡ on
Walks files key is_child image word (w ∷ words) on = (word ≡ w) × (IsFollowed files w image × ((IsSought key is_child w image → ⊥) × Walks files key is_child image (next_record image w) words on))

-- the last of the words, or `before` where there are none
abbrev pub last_passed : Option ℕ → List ℕ → Option ℕ
last_passed before [] = before
last_passed before (w ∷ words) = last_passed (Some w) words

-- a search has passed `count` records of the chain of the key, the last of them `before`, and goes on at `word`
pub record HasPassed (files : BlockFiles) (key : List ℕ) (is_child : Bool) (word : ℕ) (before : Option ℕ) (count : ℕ) (image : Image) : Type 0 where
  pub passed : List ℕ
  pub many : length passed ≡ count
  pub last : last_passed None passed ≡ before
  pub walk : Walks files key is_child image ((store_of image).table (bucket_of_key key)) passed word

-- a search of the chain has passed some records and ends at the word 0
pub record EndsUnfound (files : BlockFiles) (key : List ℕ) (is_child : Bool) (image : Image) : Type 0 where
  pub before : Option ℕ
  pub count : ℕ
  pub passed : HasPassed files key is_child 0 before count image

-- a search of the chain has passed some records and ends at `entry`, the record that is sought
pub record EndsAt (files : BlockFiles) (key : List ℕ) (is_child : Bool) (entry : ℕ) (before : Option ℕ) (image : Image) : Type 0 where
  pub count : ℕ
  pub passed : HasPassed files key is_child entry before count image
  pub followed : IsFollowed files entry image
  pub sought : IsSought key is_child entry image

-- the outcome of a search of any chain: None where it ends at the word 0, or the record that is sought
abbrev pub IsOutcome : BlockFiles → List ℕ → Bool → Option Found → Image → Type 0
IsOutcome files key is_child None image = EndsUnfound files key is_child image
IsOutcome files key is_child (Some found) image = EndsAt files key is_child found.entry found.before image

-- Failed checks of a search.

-- the failed check is of a link in a chain: the word of the bucket, or the next of record `before`
abbrev pub IsOfLink : ℕ → Option ℕ → Damage → Type 0
IsOfLink bucket None damage = (damage.file ≡ names.Index) × (damage.at ≡ place_of_bucket bucket)
IsOfLink bucket (Some before) damage = (damage.file ≡ names.Block (file_selector before)) × (damage.at ≡ place before + 4)

-- `before`, if there is one, is the address of a valid record
abbrev pub StandsBefore : BlockFiles → Option ℕ → Type 0
StandsBefore files before = IfSome before (λ w. is_record_among files w ≡ true)

-- a link in the chain, not 0, isn't the address of a valid record; the error has the link
pub record IsDanglingLink (files : BlockFiles) (bucket : ℕ) (damage : Damage) : Type 0 where
  pub before : Option ℕ
  pub stands : StandsBefore files before
  pub link : IsOfLink bucket before damage
  pub some : damage.found ≢ 0
  pub dangling : is_record_among files damage.found ≡ false

-- a search has passed one record more than a chain may have, and the chain goes on; the error has the link after the last one
pub record IsTooLong (files : BlockFiles) (told : Told) (key : List ℕ) (is_child : Bool) (damage : Damage) : Type 0 where
  pub last : ℕ
  pub stands : is_record_among files last ≡ true
  pub link : IsOfLink (bucket_of_key key) (Some last) damage
  pub some : damage.found ≢ 0
  pub passed : ForSome told.files (HasPassed files key is_child damage.found (Some last) (most_searched + 1))

-- a valid record could not be read or its checksum doesn't match, or its key of so many bytes can't be read
pub record IsWrongRecord (files : BlockFiles) (told : Told) (key_len : ℕ) (damage : Damage) : Type 0 where
  pub entry : ℕ
  pub stands : is_record_among files entry ≡ true
  pub wrong : IsKeyDamage files told entry key_len damage

-- why a chain can't be followed: a link to no valid record, a record that can't be read, or a chain that is too long
abbrev pub IsChainDamage : BlockFiles → Told → List ℕ → Bool → Damage → Type 0
IsChainDamage files told key is_child damage = IsDanglingLink files (bucket_of_key key) damage ⊎ (IsWrongRecord files told (length key) damage ⊎ IsTooLong files told key is_child damage)

-- why a search fails: too few bytes of the bucket's word, or a chain that can't be followed
abbrev pub IsSearchDamage : BlockFiles → Told → List ℕ → Bool → Damage → Type 0
IsSearchDamage files told key is_child damage = IsShort told names.Index (place_of_bucket (bucket_of_key key)) 4 damage ⊎ IsChainDamage files told key is_child damage

-- Parts of a search.

-- w is the address of a record whose checksum matches or is absent, and which has a readable key
pub record IsKeyed (w : ℕ) (image : Image) : Type 0 where
  pub fields : RecordFields
  pub here : (store_of image).entry w ≡ Some fields
  pub good : fields.checks ≡ true
  pub key : HasReadableKey w image

-- the fault is a failed check of a link in a chain, with this word
pub record IsFaultOfLink (bucket : ℕ) (before : Option ℕ) (found : ℕ) (fault : Fault) : Type 0 where
  pub damage : Damage
  pub is : fault ≡ Damaged damage
  pub link : IsOfLink bucket before damage
  pub of_word : damage.found ≡ found

-- the outcome of one step of a search at word w: its valid record, or the link after it
abbrev pub IsStepAt : BlockFiles → ℕ → Step → Type 0
IsStepAt files w (Here entry) = (entry ≡ w) × (is_record_among files w ≡ true)
IsStepAt files w (On link) = (link.before ≡ Some w) × (is_record_among files w ≡ true)

-- one step of a search at word w: the record is the one that is sought, or it isn't and the search goes on at its next
abbrev pub IsSearchStep : BlockFiles → List ℕ → Bool → ℕ → Step → Image → Type 0
IsSearchStep files key is_child w (Here entry) image = IsFollowed files w image × IsSought key is_child w image
IsSearchStep files key is_child w (On link) image = IsFollowed files w image × ((link.word ≡ next_record image w) × (IsSought key is_child w image → ⊥))

-- the words end with w, or are none
abbrev pub EndsWith : List ℕ → Option ℕ → Type 0
EndsWith words None = words ≡ []
EndsWith words (Some w) = (prefix : List ℕ) × (words ≡ prefix ++ w ∷ [])

-- a search under way: the records that it has passed aren't the one that is sought, and fewer than `left` records follow
pub record IsOnTheWay (key : List ℕ) (is_child : Bool) (word : ℕ) (before : Option ℕ) (left : ℕ) (image : Image) : Type 0 where
  pub passed : List ℕ
  pub rest : List ℕ
  pub all : chained_for (store_of image) key ≡ passed ++ rest
  pub last : EndsWith passed before
  pub others : NoneHasKey (store_of image) passed key is_child
  pub linked : Linked (store_of image) (bucket_of_key key) word rest
  pub few : length rest < left
