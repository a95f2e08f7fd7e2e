-- What is kept in memory of an entry suffices to read its key and its index.
use Rattle.std.specs.Prelude.{ℕ, ◌≡◌, List, true, slice_index}
use Rattle.std.specs.declared.option.Option.{Option}
use Rattle.std.specs.declared.option.Option.TheVariants.{None, Some}
use Rattle.spec_format.specs.Address.{blocks_256, kind_of}
use Rattle.spec_format.specs.SparseIndex.{parent_index_length}
use Rattle.blk_disk.specs.declared.tables.BlockFiles.{BlockFiles}
use Rattle.blk_disk.specs.Tables.{stands_among}
use Rattle.blk_entry.specs.Keys.{IsPlaced, stores}
use Rattle.blk_verdict.specs.declared.loading.Loaded.{Loaded}
use Rattle.blk_verdict.specs.declared.loading.Verdict.{Verdict}
use Rattle.blk_verdict.specs.declared.loading.Verdict.TheVariants as verdict
use Rattle.blk_verdict.specs.declared.roles.Role.{Role}
use Rattle.blk_verdict.specs.declared.roles.Role.TheVariants.{Plain, Parent, Part}

-- if the role is that of a parent, the third stream has the length of an index and an address that is storage for it
abbrev pub HasReadableIndex : BlockFiles → List ℕ → List ℕ → Role → Type 0
HasReadableIndex files sizes addrs Plain = Unit {0}
HasReadableIndex files sizes addrs (Parent head) = (slice_index sizes 2 ≡ parent_index_length) × (stores files parent_index_length (slice_index addrs 2) ≡ true)
HasReadableIndex files sizes addrs (Part said) = Unit {0}

-- the index can be read as HasReadableIndex says, where there is a role
abbrev pub HasIndexIf : BlockFiles → List ℕ → List ℕ → Option Role → Type 0
HasIndexIf files sizes addrs None = Unit {0}
HasIndexIf files sizes addrs (Some role) = HasReadableIndex files sizes addrs role

-- the entry can be read: its record is valid, its key has a place, and a parent's index has its storage
pub record IsReadable (files : BlockFiles) (loaded : Loaded) : Type 0 where
  pub kind : kind_of loaded.entry ≡ blocks_256
  pub stands : stands_among files loaded.entry ≡ true
  pub placed : IsPlaced files loaded.entry loaded.key_len loaded.long_key
  pub index : HasReadableIndex files loaded.sizes loaded.addrs loaded.role

-- an entry that a verdict loads can be read
abbrev pub IsReadableIf : BlockFiles → Verdict → Type 0
IsReadableIf files (verdict.Loaded loaded) = IsReadable files loaded
IsReadableIf files (verdict.Dropped reason) = Unit {0}
