-- The hash chains as a scan follows them, bucket after bucket, and what it keeps of them.
use Rattle.std.specs.Prelude.{ℕ, zero, suc, ◌*◌, ◌<◌, ◌≤◌, ◌≡◌, ◌==◌, All, Bool, true, false, List, [], ◌∷◌, ◌++◌, length, map, slice_index, slice_index_or}
use Rattle.std.specs.BTreeSet.{contains}
use Rattle.std.specs.Ordering.{nat_cmp}
use Rattle.std.specs.declared.option.Option.{Option}
use Rattle.std.specs.declared.option.Option.TheVariants.{None, Some}
use Rattle.blk_addr.specs.Claims.{IsClaimsOf}
use Rattle.spec_image.specs.Image.{Block, HasRange, Image, Index, byte}
use Rattle.spec_format.specs.Address.{file_selector, first_block, block_word, blocks_256, place}
use Rattle.spec_format.specs.Headers.{bucket_of, place_of_bucket, table_length}
use Rattle.spec_format.specs.BlockFiles.{is_among}
use Rattle.spec_folder.specs.View.{StoreView, entry_at}
use Rattle.spec_folder.specs.Chains.{chain, chain_from, file_and_block, is_of_bucket, most_records}
use Rattle.blk_disk.specs.declared.tables.BlockFiles.{BlockFiles}
use Rattle.blk_disk.specs.Tables.{is_record_among}
use Rattle.blk_audit.specs.BucketEnds.{AreEnds, begin_of, records_of}
use Rattle.blk_audit.specs.declared.reaching.Reached.{Reached}

-- the records that the chains of the first n buckets reach, chain after chain
unfoldable pub reached_by : StoreView → ℕ → List ℕ
reached_by store zero = []
reached_by store (suc n) = reached_by store n ++ (chain store n).reached

-- for each of the first n buckets, how many records its chain and those before it reach together
unfoldable pub ends_by : StoreView → ℕ → List ℕ
ends_by store zero = []
ends_by store (suc n) = ends_by store n ++ length (reached_by store (suc n)) ∷ []

-- for each of the first n buckets, whether its chain ends at the word 0
unfoldable pub closed_by : StoreView → ℕ → List Bool
closed_by store zero = []
closed_by store (suc n) = closed_by store n ++ ((chain store n).end == 0) ∷ []

-- the reached records that a scan keeps, in order
abbrev pub words_reached : Reached → List ℕ
words_reached reached = reached.words.items

-- the address of the first block alone of a record
abbrev pub first_block_of : ℕ → ℕ
first_block_of w = block_word blocks_256 (file_selector w) (first_block w) 1

-- `ends` cuts `words` into a piece for each bucket that was followed, and `closed` has an element for each of these
pub record AreCut (words ends : List ℕ) (closed : List Bool) : Type 0 where
  pub rising : (b : ℕ) → b < length ends → begin_of ends b ≤ slice_index ends b
  pub inside : (b : ℕ) → b < length ends → slice_index ends b ≤ length words
  pub told : length closed ≡ length ends

-- invariant of the scan of chains: `met` has the first blocks of the reached records, `known` their addresses, and they are cut into buckets
pub record AreReached (reached : Reached) : Type 0 where
  pub met : IsClaimsOf reached.met (map first_block_of reached.words.items)
  pub known : (w : ℕ) → contains nat_cmp reached.known w ≡ is_among reached.words.items w
  pub cut : AreCut reached.words.items reached.ends.items reached.closed.items

-- the buckets that were followed before are unchanged
pub record KeepsEnds (old new : Reached) : Type 0 where
  pub ends : new.ends.items ≡ old.ends.items
  pub closed : new.closed.items ≡ old.closed.items

-- a scan has followed the first n chains: it keeps their records, where each ends, and whether that is at the word 0
pub record AreFirstReached (store : StoreView) (n : ℕ) (reached : Reached) : Type 0 where
  pub words : reached.words.items ≡ reached_by store n
  pub ends : reached.ends.items ≡ ends_by store n
  pub closed : reached.closed.items ≡ closed_by store n

-- the reached records are cut into all buckets of the table, each with whether its chain ends at the word 0
pub record HasBuckets (reached : Reached) : Type 0 where
  pub ends : AreEnds reached.words.items reached.ends.items
  pub closed : length reached.closed.items ≡ table_length

-- the scan's records of each bucket are those that its chain reaches, and it is closed exactly where that ends at the word 0
pub record AreBucketsOf (store : StoreView) (reached : Reached) : Type 0 where
  pub chains : (bucket : ℕ) → bucket < table_length → records_of reached.words.items reached.ends.items bucket ≡ (chain store bucket).reached
  pub closed : (bucket : ℕ) → bucket < table_length → slice_index_or reached.closed.items bucket false ≡ ((chain store bucket).end == 0)

-- record w belongs, by its hash, to one of the first n buckets
pub record IsOfFirst (store : StoreView) (n w : ℕ) : Type 0 where
  pub bucket : ℕ
  pub below : bucket < n
  pub of_bucket : is_of_bucket store bucket w ≡ true

-- each of the records belongs, by its hash, to one of the first n buckets
abbrev pub AreOfFirst : StoreView → ℕ → List ℕ → Type 0
AreOfFirst store n words = (w : ℕ) → is_among words w ≡ true → IsOfFirst store n w

-- the first block of address w is that of one of the words
abbrev pub is_block_met : List ℕ → ℕ → Bool
is_block_met words w = is_among (map file_and_block words) (file_and_block w)

-- one step along a chain, at word w: it ends there, and nothing more is reached; or it reaches the record of w and goes on at `next`
abbrev pub IsReach : StoreView → ℕ → List ℕ → ℕ → List ℕ → Option ℕ → Type 0
IsReach store bucket old w new None =
    (most : ℕ) → (new ≡ old ++ (chain_from store bucket (suc most) (map file_and_block old) w).reached) × ((chain_from store bucket (suc most) (map file_and_block old) w).end ≡ w)
IsReach store bucket old w new (Some next) =
    (new ≡ old ++ w ∷ [])
    × ((most : ℕ)
    → ((chain_from store bucket (suc most) (map file_and_block old) w).reached ≡ w ∷ (chain_from store bucket most (map file_and_block new) next).reached)
    × ((chain_from store bucket (suc most) (map file_and_block old) w).end ≡ (chain_from store bucket most (map file_and_block new) next).end))

-- the words are addresses of valid records
abbrev pub RecordsStand : BlockFiles → List ℕ → Type 0
RecordsStand files words = All (λ w. is_record_among files w ≡ true) words

-- if w is the address of a valid record, its file has the record's first 96 bytes
abbrev pub HasEntry : BlockFiles → Image → ℕ → Type 0
HasEntry files image w = is_record_among files w ≡ true → HasRange image (Block (file_selector w)) (place w) 96

-- word w, where a chain goes on, may be looked at: the bytes of its record are there, unless chains have reached as many records as there can be
abbrev pub IsLookedAt : BlockFiles → Image → List ℕ → ℕ → Type 0
IsLookedAt files image words w = length words < most_records → HasEntry files image w

-- w is the address of a valid record, and the file has its bytes
pub record IsReachedThere (files : BlockFiles) (image : Image) (w : ℕ) : Type 0 where
  pub named : is_record_among files w ≡ true
  pub there : HasRange image (Block (file_selector w)) (place w) 96

-- each of the words is the address of a valid record whose bytes are in its file
abbrev pub AreReachedThere : BlockFiles → Image → List ℕ → Type 0
AreReachedThere files image words = (w : ℕ) → is_among words w ≡ true → IsReachedThere files image w

-- the reached records have their bytes, and so have the records that they name as their next
pub record HasRecords (files : BlockFiles) (image : Image) (words : List ℕ) : Type 0 where
  pub each : AreReachedThere files image words
  pub next : (w : ℕ) → is_among words w ≡ true → IsLookedAt files image words (entry_at image w).next

-- the files have all bytes that a scan of the first n chains reads, where these reach the records `words`
pub record HasFirst (files : BlockFiles) (image : Image) (words : List ℕ) (n : ℕ) : Type 0 where
  pub records : HasRecords files image words
  pub first : (b : ℕ) → b < n → IsLookedAt files image words (bucket_of (byte image Index) b)

-- the files have all bytes that a scan of all chains reads: the table, the first records, and those after them
pub record AreChainsThere (files : BlockFiles) (image : Image) (words : List ℕ) : Type 0 where
  pub table : HasRange image Index (place_of_bucket 0) (4 * table_length)
  pub chains : HasFirst files image words table_length

-- the outcome of one step along a chain: nothing is added; or the record of word w is, and `next` is its next
abbrev pub IsStepTaken : BlockFiles → Image → List ℕ → ℕ → List ℕ → Option ℕ → Type 0
IsStepTaken files image old w new None = new ≡ old
IsStepTaken files image old w new (Some next) = (new ≡ old ++ w ∷ []) × ((next ≡ (entry_at image w).next) × IsReachedThere files image w)
