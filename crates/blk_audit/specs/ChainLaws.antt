-- Lemmas on the reached records, those that some hash chain reaches.
use Rattle.std.specs.Prelude.{ℕ, ◌≡◌, map}
use Rattle.std.specs.List.{filter, flat_map, range_with_len}
use Rattle.std.specs.declared.option.Option.TheVariants.{Some}
use Rattle.spec_format.specs.Headers.{table_length}
use Rattle.spec_format.specs.BlockFiles.{is_among}
use Rattle.spec_folder.specs.Audit.{is_unlisted, unlisted}
use Rattle.spec_folder.specs.Chains.{bucket_of_hash, chain}
use Rattle.spec_folder.specs.Reasons as reason
use Rattle.spec_folder.specs.View.{RecordFields, StoreView, View}
use Rattle.blk_audit.specs.Chaining.{reached_by}

-- the reached records are those of all chains, chain after chain
abbrev pub ReachedAreTheChains : Type 0
ReachedAreTheChains = (store : StoreView) → reached_by store table_length ≡ flat_map (λ bucket. (chain store bucket).reached) (range_with_len 0 table_length)

-- a record is reached by the chain of its own bucket exactly where it is reached by any chain
abbrev pub ReachedAreChained : Type 0
ReachedAreChained = (store : StoreView) (w : ℕ) (fields : RecordFields) → store.entry w ≡ Some fields → is_among (chain store (bucket_of_hash fields.hash)).reached w ≡ is_among (reached_by store table_length) w

-- the records that are dropped as unlisted are, in their order, the reached ones whose node isn't walked or doesn't name them
abbrev pub UnlistedAreReached : Type 0
UnlistedAreReached = (view : View) → unlisted view ≡ map (λ contents. (contents, reason.Unlisted)) (filter (is_unlisted view) (reached_by view.store table_length))
