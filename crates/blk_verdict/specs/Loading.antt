-- The reasons for which a node is dropped by itself, one after another.
use Rattle.std.specs.Prelude.{ℕ, List, ◌∷◌, not, nat_le, ◌==◌, if◌then◌else◌}
use Rattle.std.specs.Option.{ok_or}
use Rattle.std.specs.declared.option.Option.{Option}
use Rattle.std.specs.declared.option.Option.TheVariants.{None, Some}
use Rattle.std.specs.declared.result.Result.{Result}
use Rattle.std.specs.declared.result.Result.TheVariants.{Ok}
use Rattle.spec_format.specs.BlockFiles.{is_among}
use Rattle.spec_format.specs.Hash.{hash}
use Rattle.spec_format.specs.Records.{entry_normal}
use Rattle.spec_folder.specs.Chains.{bucket_of_hash, chain}
use Rattle.spec_folder.specs.Entries.{is_key_length, stored_key, stored_streams, role_of}
use Rattle.spec_folder.specs.Loads.{Loaded}
use Rattle.spec_folder.specs.Reasons.{Reason, ◌>>=◌, demand}
use Rattle.spec_folder.specs.Reasons as reason
use Rattle.spec_folder.specs.View.{StoreView, RecordFields}

-- the first reason to drop a node by the words of its record, those from `Seal` to `KeyLength`, or None
unfoldable pub reason_by_words : ℕ → ℕ → ℕ → RecordFields → Option Reason
reason_by_words node contents dirty fields =
    if not fields.checks then Some reason.Seal else
    if not (fields.state == entry_normal) then Some reason.State else
    if not (fields.rankings_node == node) then Some reason.Back else
    if not (nat_le fields.flags 2) then Some reason.Flags else
    if not (dirty == 0) then Some reason.Dirty else
    if not (is_key_length contents fields) then Some reason.KeyLength else
    None

-- the last reasons to drop a node, Streams and Sparse, or what is loaded of it
unfoldable pub load_streams : StoreView → ℕ → ℕ → ℕ → RecordFields → List ℕ → Result Loaded Reason
load_streams store node contents dirty fields key = do
  streams ← ok_or (stored_streams store fields) reason.Streams
  role ← ok_or (role_of fields key streams) reason.Sparse
  Ok (record { node = node; contents = contents; dirty = dirty; key = key; role = role; streams = streams; others = fields.long_key ∷ fields.data_addr })

-- the reasons to drop a node from KeyPlace on, or what is loaded of it
unfoldable pub load_data : StoreView → ℕ → ℕ → ℕ → RecordFields → Result Loaded Reason
load_data store node contents dirty fields = do
  key ← ok_or (stored_key store contents fields) reason.KeyPlace
  _ ← demand (fields.hash == hash key) reason.Hash
  _ ← demand (is_among (chain store (bucket_of_hash fields.hash)).reached contents) reason.Chain
  load_streams store node contents dirty fields key
