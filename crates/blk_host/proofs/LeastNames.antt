-- The least of a folder's names.
use Rattle.std.proofs.Common.{◌≡◌, true, false, ℕ, ◌≤◌, ◌∙◌, sym, IsTrue, Option, None, Some, arith}
use Rattle.std.specs.declared.ops.Bound.{Bound}
use Rattle.std.specs.declared.ops.Bound.TheVariants.{Unbounded}
use Rattle.blk_io.specs.declared.folder.FileId.{FileId}
use Rattle.blk_io.specs.declared.folder.FileId.TheVariants.{Index, Block, External}
use Rattle.blk_host.specs.FileIds.{ComesAfter, ComesBefore}
use Rattle.blk_host.specs.declared.names.Names.{Names}
use Rattle.blk_host.specs.Names.{has, IsLeastName, IsExternalFrom, IsBlockFrom}
use Rattle.blk_host.specs.Numbers.{IsLeastNumber}
use Rattle.blk_host.proofs.HasNames.{has-index, has-block, has-external}

-- what is least of one fact is least of another that holds of the same names
pub least_of_same : (names : Names) (P Q : FileId → Type 0) (next : Option FileId) → ((file : FileId) → P file → Q file)
    → ((file : FileId) → IsTrue (has names file) → Q file → P file) → IsLeastName names P next → IsLeastName names Q next
least_of_same names P Q None up down least = λ file there q. least file there (down file there q)
least_of_same names P Q (Some next) up down least =
    (least.0, up next least.1, λ file there q before. least.2 file there (down file there q) before)

-- the least external file has the least number
pub external-none : (names : Names) (start : Bound ℕ) → IsLeastNumber names.externals start None → IsLeastName names (IsExternalFrom start) None
external-none names start none = absent
  where
    absent : (file : FileId) → IsTrue (has names file) → IsExternalFrom start file → ⊥
    absent Index there from = from
    absent (Block n) there from = from
    absent (External n) there from = none n from (sym (has-external names n) ∙ there)

pub external-some : (names : Names) (start : Bound ℕ) (n : ℕ) → IsLeastNumber names.externals start (Some n) → IsLeastName names (IsExternalFrom start) (Some (External n))
external-some names start n least = (has-external names n ∙ least.1, least.0, before)
  where
    before : (file : FileId) → IsTrue (has names file) → IsExternalFrom start file → ComesBefore file (External n) → ⊥
    before Index there from is_before = from
    before (Block m) there from is_before = from
    before (External m) there from is_before = not_before m (least.2 m from (sym (has-external names m) ∙ there)) is_before
      where
        not_before : (m : ℕ) → n ≤ m → ComesBefore (External m) (External n) → ⊥
        not_before m above is_before = grind (arith)

-- and so has the least block file; where there is none, an external file is least
pub block-some : (names : Names) (start : Bound ℕ) (n : ℕ) → IsLeastNumber names.blocks start (Some n) → IsLeastName names (IsBlockFrom start) (Some (Block n))
block-some names start n least = (has-block names n ∙ least.1, least.0, before)
  where
    before : (file : FileId) → IsTrue (has names file) → IsBlockFrom start file → ComesBefore file (Block n) → ⊥
    before Index there from is_before = from
    before (Block m) there from is_before = not_before m (least.2 m from (sym (has-block names m) ∙ there)) is_before
      where
        not_before : (m : ℕ) → n ≤ m → ComesBefore (Block m) (Block n) → ⊥
        not_before m above is_before = grind (arith)
    before (External m) there from is_before = grind (arith)

pub block-none : (names : Names) (start : Bound ℕ) (next : Option FileId) → IsLeastNumber names.blocks start None
    → IsLeastName names (IsExternalFrom Unbounded) next → IsLeastName names (IsBlockFrom start) next
block-none names start next none least = least_of_same names (IsExternalFrom Unbounded) (IsBlockFrom start) next up down least
  where
    up : (file : FileId) → IsExternalFrom Unbounded file → IsBlockFrom start file
    up Index from = from
    up (Block n) from = absurd from
    up (External n) from = tt

    down : (file : FileId) → IsTrue (has names file) → IsBlockFrom start file → IsExternalFrom Unbounded file
    down Index there from = from
    down (Block n) there from = none n from (sym (has-block names n) ∙ there)
    down (External n) there from = tt

-- the index is the least of all
pub index-least : (names : Names) → names.index ≡ true → IsLeastName names (ComesAfter None) (Some Index)
index-least names there = (has-index names ∙ there, tt, before)
  where
    before : (file : FileId) → IsTrue (has names file) → Unit {0} → ComesBefore file Index → ⊥
    before Index there from is_before = grind (arith)
    before (Block n) there from is_before = grind (arith)
    before (External n) there from is_before = grind (arith)

-- without an index all names are of block files and external files
pub all-least : (names : Names) (next : Option FileId) → names.index ≡ false → IsLeastName names (IsBlockFrom Unbounded) next → IsLeastName names (ComesAfter None) next
all-least names next none least = least_of_same names (IsBlockFrom Unbounded) (ComesAfter None) next (λ file from. tt) down least
  where
    down : (file : FileId) → IsTrue (has names file) → Unit {0} → IsBlockFrom Unbounded file
    down Index there from = clash (sym none ∙ sym (has-index names) ∙ there)
      where
        clash : false ≡ true → ⊥
        clash e = cc
    down (Block n) there from = tt
    down (External n) there from = tt
