-- The steps by which the chains are repaired, and what is held at each of their words.
use Rattle.std.specs.declared.result.Result.TheVariants.{Ok}
use Rattle.std.specs.declared.option.Option.TheVariants.{Some}
use Rattle.std.specs.Prelude.{◌≤◌, true, ◌≡◌, ℕ, zero, suc, ◌+◌, ◌<◌, ◌==◌, if◌then◌else◌, List, [], ◌∷◌, ◌++◌, Bool, map}
use Rattle.std.specs.List.{list_any, filter}
use Rattle.spec_image.specs.Image.{Index, Image}
use Rattle.spec_image.specs.Steps.{TrailStep, word_step, after}
use Rattle.spec_image.specs.Told.{Along}
use Rattle.spec_format.specs.Records.{entry_next_place}
use Rattle.spec_format.specs.Headers.{table_length, place_of_bucket}
use Rattle.spec_format.specs.BlockFiles.{is_among, stands_in, IsWellFormed}
use Rattle.spec_format.specs.Address.{kind_of, rankings, blocks_256}
use Rattle.spec_format.specs.Sealed.{RecordChecks, sealed_steps}
use Rattle.spec_folder.specs.ListView.{first_or}
use Rattle.spec_folder.specs.View.{list_of, store_of}
use Rattle.spec_folder.specs.Chains.{chain, IsChain}
use Rattle.spec_folder.specs.Loads.{held_rule, Loaded, load}
use Rattle.spec_folder.specs.Found.{kept}
use Rattle.spec_folder.specs.ListImages.{IsWritable, walked}
use Rattle.spec_folder.specs.Audit.{kept_nodes, kept_as}
use Rattle.spec_folder.specs.ShownChanges.{ShowsTheSame}
use Rattle.law_recovery.specs.RecordSeals.{KeepsRecordsSealed}
use Rattle.law_recovery.specs.ListRepair.{HoldsTheSame}

-- a word names the record of a kept node
abbrev pub is_kept_record : List Loaded → ℕ → Bool
is_kept_record kept w = list_any (λ k. k.contents == w) kept

-- the kept records of a bucket, in the order of its chain
unfoldable pub kept_records : Image → ℕ → List ℕ
kept_records image bucket = filter (is_kept_record (kept image)) (chain (store_of image) bucket).reached

-- the steps that set the word of a bucket, none where it is this word already
abbrev pub bucket_steps : ℕ → ℕ → Image → List TrailStep
bucket_steps bucket w image = if (store_of image).table bucket == w then [] else word_step Index (place_of_bucket bucket) w

-- the steps that set the next of a record by an update under a checksum 0, none where it is this word already
abbrev pub next_steps : ℕ → ℕ → Image → List TrailStep
next_steps record_word w image = if (store_of image).chain_next record_word == w then [] else sealed_steps image record_word ((entry_next_place, w) ∷ [])

-- the steps that give each of some records the one after it as its next, and the last one 0
abbrev pub next_words_steps : List ℕ → Image → List TrailStep
next_words_steps [] image = []
next_words_steps (w ∷ words) image = next_steps w (first_or 0 words) image ++ next_words_steps words (after (next_steps w (first_or 0 words) image) image)

-- the steps that make a bucket the chain of some records, in their order
abbrev pub chain_steps : ℕ → List ℕ → Image → List TrailStep
chain_steps bucket words image = bucket_steps bucket (first_or 0 words) image ++ next_words_steps words (after (bucket_steps bucket (first_or 0 words) image) image)

-- the steps that make each of so many buckets, from one on, in rising order, the chain of its records
abbrev pub chains_steps : (ℕ → List ℕ) → (bucket count : ℕ) → Image → List TrailStep
chains_steps records bucket zero image = []
chains_steps records bucket (suc count) image = chain_steps bucket (records bucket) image ++ chains_steps records (bucket + 1) count (after (chain_steps bucket (records bucket) image) image)

-- the steps of the repair of the chains: each bucket, in rising order, is made the chain of its kept records, in the order of the chain
unfoldable pub chain_repair_steps : Image → List TrailStep
chain_repair_steps image = chains_steps (kept_records image) 0 table_length image

-- no operation is in flight, and all walked nodes are kept
pub record KeepsAllWalked (image : Image) : Type 0 where
  pub idle : (list_of image).transaction ≡ 0
  pub all_kept : kept_nodes (store_of image) held_rule (walked image) ≡ walked image

-- the chains are repaired: each is whole, with the kept records of its bucket; the list is as before, and each record that had its checksum has it
pub record AreChainsMended (from image : Image) : Type 0 where
  pub list : list_of image ≡ list_of from
  pub seals : KeepsRecordsSealed from image
  pub chains : (bucket : ℕ) → bucket < table_length → IsChain (store_of image) bucket (kept_records from bucket)

-- the repair of the chains keeps the recovered contents at each of its words (`HoldsTheSame`), and in the end the chains are repaired
abbrev pub ChainsAreRepaired : Type 0
ChainsAreRepaired = (image : Image) → IsWellFormed image → IsWritable image → KeepsAllWalked image → Along (HoldsTheSame image) image (chain_repair_steps image) × AreChainsMended image (after (chain_repair_steps image) image)

-- The buckets, one after the other.

-- the chains of the buckets below one are those of their kept records, and the others are as they were; the list is as it was, right checksums stay right, and
-- each kept node loads as it did
pub record HasChainsUpTo (from : Image) (bucket : ℕ) (image : Image) : Type 0 where
  pub holds : HoldsTheSame from image
  pub list : list_of image ≡ list_of from
  pub seals : KeepsRecordsSealed from image
  pub loads : (node : ℕ) (loaded : Loaded) → is_among (walked from) node ≡ true → kept_as (store_of from) held_rule (walked from) node ≡ Some loaded → load (store_of image) held_rule node ≡ Ok loaded
  pub mended : (other : ℕ) → other < bucket → IsChain (store_of image) other (kept_records from other)
  pub as_before : (other : ℕ) → bucket ≤ other → chain (store_of image) other ≡ chain (store_of from) other

-- before the repair of the chains no bucket is repaired yet
abbrev pub ChainsBegin : Type 0
ChainsBegin = (image : Image) → IsWellFormed image → IsWritable image → KeepsAllWalked image → HasChainsUpTo image 0 image

-- the steps that make the next bucket the chain of its kept records keep the recovered contents at each of their words
abbrev pub BucketsAreMended : Type 0
BucketsAreMended = (from image : Image) (bucket : ℕ) → IsWellFormed from → KeepsAllWalked from → bucket < table_length → HasChainsUpTo from bucket image
    → Along (HoldsTheSame from) image (chain_steps bucket (kept_records from bucket) image) × HasChainsUpTo from (bucket + 1) (after (chain_steps bucket (kept_records from bucket) image) image)

-- a bucket that is the chain of these records already needs no step
abbrev pub WholeChainsNeedNoSteps : Type 0
WholeChainsNeedNoSteps = (image : Image) (bucket : ℕ) (words : List ℕ) → IsChain (store_of image) bucket words → chain_steps bucket words image ≡ []

-- once all buckets are made the chains of their kept records, the chains are repaired
abbrev pub ChainRepairsEnd : Type 0
ChainRepairsEnd = (from image : Image) → HasChainsUpTo from table_length image → AreChainsMended from image

-- What the repair of the list leaves of the chains.

-- each bucket has the same kept records in two images with the same kept records, which show the same but for the list
abbrev pub KeptRecordsStay : Type 0
KeptRecordsStay = (from image : Image) → HoldsTheSame from image → ShowsTheSame (store_of from) (store_of image) → (bucket : ℕ) → kept_records image bucket ≡ kept_records from bucket

-- a whole chain is whole in each image that shows the same but for the list
abbrev pub WholeChainsStay : Type 0
WholeChainsStay = (from image : Image) → ShowsTheSame (store_of from) (store_of image) → (bucket : ℕ) (words : List ℕ) → IsChain (store_of from) bucket words → IsChain (store_of image) bucket words

-- What is kept can be written.

-- a record of a kind is there, and its checksum is right or absent
pub record IsStandingRecord (kind : ℕ) (image : Image) (w : ℕ) : Type 0 where
  pub stands : stands_in image w ≡ true
  pub kind_is : kind_of w ≡ kind
  pub checks : RecordChecks w image

-- the node of each kept record is there, and its checksum is right or absent
abbrev pub KeptNodesCheck : Type 0
KeptNodesCheck = (image : Image) → IsWritable image → (node : ℕ) → is_among (map (λ k. k.node) (kept image)) node ≡ true → IsStandingRecord rankings image node

-- the record of each kept node is there, and its checksum is right or absent
abbrev pub KeptRecordsCheck : Type 0
KeptRecordsCheck = (image : Image) → IsWritable image → (w : ℕ) → is_kept_record (kept image) w ≡ true → IsStandingRecord blocks_256 image w
