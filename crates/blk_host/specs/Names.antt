-- The set of names of the cache files in a folder.
use Rattle.std.specs.Prelude.{Bool, IsTrue, ℕ, Option, None, Some}
use Rattle.std.specs.Ordering.{nat_cmp}
use Rattle.std.specs.BTreeSet.{contains}
use Rattle.std.specs.BTreeMap.Range.{IsFromStart}
use Rattle.std.specs.declared.ops.Bound.{Bound}
use Rattle.blk_io.specs.declared.folder.FileId.{FileId}
use Rattle.blk_io.specs.declared.folder.FileId.TheVariants.{Index, Block, External}
use Rattle.blk_host.specs.FileIds.{ComesBefore}
use Rattle.blk_host.specs.declared.names.Names.{Names}

-- the set has the name of this file
unfoldable pub has : Names → FileId → Bool
has names Index = names.index
has names (Block n) = contains nat_cmp names.blocks n
has names (External n) = contains nat_cmp names.externals n

-- the least name of the set, in the order of files, for which P holds; None where it holds for none
abbrev pub IsLeastName : Names → (FileId → Type 0) → Option FileId → Type 0
IsLeastName names P None = (file : FileId) → IsTrue (has names file) → P file → ⊥
IsLeastName names P (Some next) = IsTrue (has names next) × P next
    × ((file : FileId) → IsTrue (has names file) → P file → ComesBefore file next → ⊥)

-- an external file inside a start bound
abbrev pub IsExternalFrom : Bound ℕ → FileId → Type 0
IsExternalFrom start Index = ⊥
IsExternalFrom start (Block n) = ⊥
IsExternalFrom start (External n) = IsFromStart nat_cmp start n

-- a block file inside a start bound, or an external file
abbrev pub IsBlockFrom : Bound ℕ → FileId → Type 0
IsBlockFrom start Index = ⊥
IsBlockFrom start (Block n) = IsFromStart nat_cmp start n
IsBlockFrom start (External n) = Unit {0}
