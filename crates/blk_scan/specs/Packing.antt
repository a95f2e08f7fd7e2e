-- The kept records of the buckets, packed into one list.
use Rattle.std.specs.Prelude.{ℕ, ◌≡◌, ◌<◌, ◌≤◌, Bool, true, false, List, length, take, slice_index, slice_index_or}
use Rattle.std.specs.List.{filter}
use Rattle.blk_audit.specs.BucketEnds.{begin_of, records_of}
use Rattle.blk_scan.specs.declared.chains.KeptChains.{KeptChains}

-- the records of the first n buckets that `keep` selects are packed into one list, with the end of each bucket; a bucket is reported whole exactly where its
-- chain was closed and all its records are kept
pub record ArePacked (keep : ℕ → Bool) (records ends : List ℕ) (closed : List Bool) (n : ℕ) (chains : KeptChains) : Type 0 where
  pub many : length chains.ends.items ≡ n
  pub told : length chains.whole.items ≡ n
  pub all : chains.records.items ≡ filter keep (take (begin_of ends n) records)
  pub last : begin_of chains.ends.items n ≡ length chains.records.items
  pub rising : (b : ℕ) → b < n → begin_of chains.ends.items b ≤ slice_index chains.ends.items b
  pub inside : (b : ℕ) → b < n → slice_index chains.ends.items b ≤ length chains.records.items
  pub are : (b : ℕ) → b < n → records_of chains.records.items chains.ends.items b ≡ filter keep (records_of records ends b)
  pub were_closed : (b : ℕ) → b < n → slice_index_or chains.whole.items b false ≡ true → slice_index_or closed b false ≡ true
  pub all_kept : (b : ℕ) → b < n → slice_index_or chains.whole.items b false ≡ true → filter keep (records_of records ends b) ≡ records_of records ends b
  pub were_whole : (b : ℕ) → b < n → slice_index_or closed b false ≡ true → filter keep (records_of records ends b) ≡ records_of records ends b → slice_index_or chains.whole.items b false ≡ true
