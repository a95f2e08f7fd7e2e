-- What the scan of a folder reports.
use Rattle.std.specs.Prelude.{ℕ, ◌≡◌, ◌<◌, Bool, true, false, List, [], length, map, All, slice_index_or}
use Rattle.std.specs.List.{flat_map, sum_by}
use Rattle.std.specs.declared.option.Option.{Option}
use Rattle.std.specs.declared.option.Option.TheVariants.{None, Some}
use Rattle.spec_image.specs.Image.{Image}
use Rattle.spec_format.specs.Headers.{table_length}
use Rattle.spec_folder.specs.Chains.{IsChain}
use Rattle.spec_folder.specs.Found.{charge_of, dropped, kept}
use Rattle.spec_folder.specs.ListImages.{completed_walk}
use Rattle.spec_folder.specs.Loads as shown
use Rattle.spec_folder.specs.Loads.{is_part}
use Rattle.spec_folder.specs.Reasons as reasons
use Rattle.spec_folder.specs.Sound.{words_of}
use Rattle.spec_folder.specs.View.{store_of}
use Rattle.blk_addr.specs.Claims.{IsClaimsOf}
use Rattle.blk_disk.specs.declared.tables.BlockFiles.{BlockFiles}
use Rattle.blk_disk.specs.Tables.{is_node_among, is_record_among}
use Rattle.blk_audit.specs.Sealable.{CanBeSealed}
use Rattle.blk_audit.specs.BucketEnds.{AreEnds, records_of}
use Rattle.law_recovery.specs.ChainRepair.{kept_records}
use Rattle.law_recovery.specs.KeptSeals.{AreOthersSealed, IsOfKept}
use Rattle.blk_verdict.specs.Reasons.{reason_of}
use Rattle.blk_verdict.specs.declared.reason.Reason.TheVariants.{Unlisted}
use Rattle.blk_scan.specs.Bare.{bare_of_kept}
use Rattle.blk_scan.specs.declared.chains.KeptChains.{KeptChains}
use Rattle.blk_scan.specs.declared.scan.Dropped.{Dropped}
use Rattle.blk_scan.specs.declared.scan.Kept.{Kept}
use Rattle.blk_scan.specs.declared.scan.Scan.{Scan}

-- What a scan reports of an image.

-- what a scan reports of a kept node: its address, its record, and whether it is a part's
abbrev pub kept_as_told : shown.Loaded → Kept
kept_as_told loaded = record { node = loaded.node; entry = loaded.contents; child = is_part loaded }

-- what a scan reports of a dropped node or record, as the specs have it: its address and the reason
abbrev pub dropped_by_told : Dropped → ℕ × reasons.Reason
dropped_by_told told = (told.place, reason_of told.reason)

-- what a scan reports of a record that is in a chain but not listed
abbrev pub unlisted_as_told : ℕ → Dropped
unlisted_as_told record_word = record { place = record_word; reason = Unlisted }

-- `records` has the kept records of all buckets, and the chain of a bucket that is reported whole has exactly its kept records
pub record AreKeptChains (image : Image) (records ends : List ℕ) (whole : List Bool) : Type 0 where
  pub are_ends : AreEnds records ends
  pub told : length whole ≡ table_length
  pub are_kept : (bucket : ℕ) → bucket < table_length → records_of records ends bucket ≡ kept_records image bucket
  pub are_whole : (bucket : ℕ) → bucket < table_length → slice_index_or whole bucket false ≡ true → IsChain (store_of image) bucket (records_of records ends bucket)

-- the chain of each bucket has exactly its kept records
abbrev pub AreChainsWhole : Image → Type 0
AreChainsWhole image = (bucket : ℕ) → bucket < table_length → IsChain (store_of image) bucket (kept_records image bucket)

-- what a scan reports of the chains: None where each has exactly its kept records; else the kept records, and which buckets are whole
abbrev pub AreChainsTold : Image → Option KeptChains → Type 0
AreChainsTold image None = AreChainsWhole image
AreChainsTold image (Some chains) = AreKeptChains image chains.records.items chains.ends.items chains.whole.items

-- the words are nodes and records of kept entries, and the checksums of all other nodes and records of kept entries match
pub record AreBare (image : Image) (words : List ℕ) : Type 0 where
  pub are_kept : All (IsOfKept image) words
  pub others : AreOthersSealed image words image

-- the scan reports what an image holds: the walk, what is kept and dropped, what the kept entries use and cost, the chains, and the absent checksums
pub record IsScanOf (image : Image) (scan : Scan) : Type 0 where
  pub walked : scan.walked.items ≡ completed_walk image
  pub kept_told : scan.kept.items ≡ map kept_as_told (kept image)
  pub kept_nodes : scan.kept_nodes.items ≡ map (λ k. k.node) (kept image)
  pub dropped_told : map dropped_by_told scan.dropped.items ≡ dropped image
  pub claims : IsClaimsOf scan.claims (flat_map words_of (kept image))
  pub bytes : scan.bytes ≡ sum_by charge_of (kept image)
  pub chains : AreChainsTold image scan.chains
  pub bare : AreBare image scan.bare.items

-- A scan reports no more to be repaired than has to be.

-- the chain of a bucket has to be repaired, since it hasn't exactly its kept records
pub record IsChainToMend (image : Image) (bucket : ℕ) : Type 0 where
  pub below : bucket < table_length
  pub isnt : IsChain (store_of image) bucket (kept_records image bucket) → ⊥

-- some chain has to be repaired, and each bucket that needn't be is reported whole
pub record AreChainsToMend (image : Image) (whole : List Bool) : Type 0 where
  pub one : ℕ
  pub is_one : IsChainToMend image one
  pub are_whole : (bucket : ℕ) → bucket < table_length → IsChain (store_of image) bucket (kept_records image bucket) → slice_index_or whole bucket false ≡ true

-- a scan reports no chains exactly where none has to be repaired
abbrev pub AreChainsExact : Image → Option KeptChains → Type 0
AreChainsExact image None = AreChainsWhole image
AreChainsExact image (Some chains) = AreChainsToMend image chains.whole.items

-- the scan reports as whole each bucket that needn't be repaired, and as without a checksum exactly the nodes and records of kept entries whose checksum is
-- absent
pub record IsExactScan (image : Image) (scan : Scan) : Type 0 where
  pub chains : AreChainsExact image scan.chains
  pub bare : scan.bare.items ≡ bare_of_kept image

-- What a scan reports of any folder.

-- by the table the reported records of the chains are valid, and they are cut into all buckets
pub record ChainsStandAmong (files : BlockFiles) (chains : KeptChains) : Type 0 where
  pub records : All (λ w. is_record_among files w ≡ true) chains.records.items
  pub ends : AreEnds chains.records.items chains.ends.items
  pub told : length chains.whole.items ≡ table_length

-- by the table the reported chains, if there are some, are of valid records
abbrev pub ChainsStandIf : BlockFiles → Option KeptChains → Type 0
ChainsStandIf files None = Unit {0}
ChainsStandIf files (Some chains) = ChainsStandAmong files chains

-- by the table the nodes and records that the scan reports are valid
pub record StandAmong (files : BlockFiles) (scan : Scan) : Type 0 where
  pub walked : All (λ w. is_node_among files w ≡ true) scan.walked.items
  pub chains : ChainsStandIf files scan.chains
  pub bare : All (CanBeSealed files) scan.bare.items

-- A folder that was just made.

-- the scan reports nothing
pub record IsEmptyScan (scan : Scan) : Type 0 where
  pub walked : scan.walked.items ≡ []
  pub kept_told : scan.kept.items ≡ []
  pub kept_nodes : scan.kept_nodes.items ≡ []
  pub dropped : scan.dropped.items ≡ []
  pub claims : IsClaimsOf scan.claims []
  pub bytes : scan.bytes ≡ 0
  pub chains : scan.chains ≡ None
  pub bare : scan.bare.items ≡ []
