-- What the handles of a cache name.
use Rattle.std.specs.Prelude.{◌≡◌, ℕ, true}
use Rattle.std.specs.declared.option.Option.TheVariants.{None, Some}
use Rattle.blk_disk.specs.declared.tables.BlockFiles.{BlockFiles}
use Rattle.blk_disk.specs.Tables.{is_node_among, is_record_among}
use Rattle.blk_handles.specs.Bindings.{Binding, Bindings, binding_of}

-- by the table of block files, node and record of each object that a handle names are valid
abbrev pub AreBoundAmong : BlockFiles → Bindings → Type 0
AreBoundAmong files bindings = (name : ℕ) (binding : Binding) → binding_of bindings name ≡ Some binding → (is_node_among files binding.node ≡ true) × (is_record_among files binding.entry ≡ true)

-- no handle names anything
abbrev pub AreAllFree : Bindings → Type 0
AreAllFree bindings = (name : ℕ) → binding_of bindings name ≡ None
