-- Recovery of the hash chains, bucket after bucket, with the kept records of each.
use Rattle.std.specs.Prelude.{ℕ, ◌<◌, ◌≤◌, ◌≡◌, ◌≢◌, ◌%◌, Bool, true, false, List, slice_index, slice_index_or}
use Rattle.spec_image.specs.Image.{Image, Index, byte}
use Rattle.spec_format.specs.BlockFiles.{IsWellFormed}
use Rattle.spec_format.specs.Headers.{bucket_of, table_length}
use Rattle.spec_folder.specs.Chains.{IsChain}
use Rattle.spec_folder.specs.ListImages.{IsWritable}
use Rattle.spec_folder.specs.View.{store_of}
use Rattle.blk_index.specs.Table.{buckets_of_piece}
use Rattle.blk_audit.specs.BucketEnds.{records_of}
use Rattle.law_recovery.specs.ChainRepair.{HasChainsUpTo, KeepsAllWalked, kept_records}

-- the LRU list and the chains of all buckets below this one are recovered, and `records` are the kept records of this bucket
pub record IsNextChain (from : Image) (bucket : ℕ) (records : List ℕ) (image : Image) : Type 0 where
  pub well_formed : IsWellFormed from
  pub keeps_all : KeepsAllWalked from
  pub up_to : HasChainsUpTo from bucket image
  pub are_kept : records ≡ kept_records from bucket

-- `front` is the word of this bucket in the table
abbrev pub IsBucketWord : (front bucket : ℕ) → Image → Type 0
IsBucketWord front bucket image = front ≡ bucket_of (byte image Index) bucket

-- the recovery comes to this bucket: if it was reported whole, its chain has exactly its kept records already; if not, its word was read
pub record IsNextBucket (from : Image) (bucket front : ℕ) (records : List ℕ) (whole : Bool) (image : Image) : Type 0 where
  pub next : IsNextChain from bucket records image
  pub is_whole : whole ≡ true → IsChain (store_of from) bucket records
  pub is_front : whole ≡ false → IsBucketWord front bucket image

-- the words of all other buckets in the table are unchanged
abbrev pub KeepsOtherBuckets : ℕ → Image → Image → Type 0
KeepsOtherBuckets bucket from image = (other : ℕ) → other ≢ bucket → bucket_of (byte image Index) other ≡ bucket_of (byte from Index) other

-- `words` has the words of the buckets from `bucket` up to `last` (itself not counted), each at the place that the bucket has in its piece of the table
abbrev pub AreBucketWords : (words : List ℕ) (bucket last : ℕ) → Image → Type 0
AreBucketWords words bucket last image = (other : ℕ) → bucket ≤ other → other < last → slice_index words (other % buckets_of_piece) ≡ bucket_of (byte image Index) other

-- the LRU list is recovered, `records` has the kept records of all buckets, and the chain of each bucket that is reported whole has exactly its records
pub record AreChainsScanned (records ends : List ℕ) (whole : List Bool) (image : Image) : Type 0 where
  pub well_formed : IsWellFormed image
  pub writable : IsWritable image
  pub keeps_all : KeepsAllWalked image
  pub are_kept : (bucket : ℕ) → bucket < table_length → records_of records ends bucket ≡ kept_records image bucket
  pub are_whole : (bucket : ℕ) → bucket < table_length → slice_index_or whole bucket false ≡ true → IsChain (store_of image) bucket (records_of records ends bucket)

-- where `old` has the words of the buckets up to `read`, `new` has those up to `now`
abbrev pub ReadsOnWords : (old new : List ℕ) → (bucket read now : ℕ) → Image → Type 0
ReadsOnWords old new bucket read now image = AreBucketWords old bucket read image → AreBucketWords new bucket now image
