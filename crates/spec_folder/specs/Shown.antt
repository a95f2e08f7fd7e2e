-- What makes the nodes of a walk kept: facts on each node and on each two, in no order.
use Rattle.std.specs.Prelude.{◌≡◌, ℕ, List, [], ◌∷◌, true, false, ◌==◌}
use Rattle.std.specs.declared.option.Option.{Option}
use Rattle.std.specs.declared.option.Option.TheVariants.{None, Some}
use Rattle.std.specs.declared.result.Result.TheVariants.{Ok}
use Rattle.spec_format.specs.Names.{Name}
use Rattle.spec_format.specs.SparseIndex.{PartIndex}
use Rattle.spec_format.specs.Claims.{overlap, repeats}
use Rattle.spec_format.specs.BlockFiles.{is_among}
use Rattle.spec_folder.specs.ListView.{Distinct}
use Rattle.spec_folder.specs.View.{StoreView}
use Rattle.spec_folder.specs.Entries.{IsPart}
use Rattle.spec_folder.specs.Loads.{Rule, Loaded, load, record_claims, all_claims}
use Rattle.spec_folder.specs.Audit.{shares_key, is_parent_of}

-- two records share no block and no external number, and differ in key or in being a part
pub record Apart (one other : Loaded) : Type 0 where
  pub claims : overlap (all_claims one) (all_claims other) ≡ false
  pub names : shares_key (one ∷ []) other ≡ false

-- a part whose parent is not among the records that are given for some nodes
pub record IsOrphanIn (nodes : List ℕ) (given : ℕ → Option Loaded) (loaded : Loaded) : Type 0 where
  pub name : Name
  pub index : PartIndex
  pub part : loaded.role ≡ IsPart name index
  pub none : (node : ℕ) (other : Loaded) → is_among nodes node ≡ true → given node ≡ Some other → is_parent_of name other ≡ false

-- the parent that a part's name says is among the records that are given for some nodes
pub record HasParentIn (nodes : List ℕ) (given : ℕ → Option Loaded) (name : Name) : Type 0 where
  pub at : ℕ
  pub parent : Loaded
  pub among : is_among nodes at ≡ true
  pub is : given at ≡ Some parent
  pub of : is_parent_of name parent ≡ true

-- the records that are given for a walk's nodes are those that are kept, and the other nodes are dropped: a given record loads, is apart from all others and
-- has its parent; a node without one doesn't load, or its record is an orphan
pub record IsShown (store : StoreView) (rule : Rule) (nodes : List ℕ) (given : ℕ → Option Loaded) : Type 0 where
  pub once : Distinct nodes
  pub loads : (node : ℕ) (loaded : Loaded) → is_among nodes node ≡ true → given node ≡ Some loaded → load store rule node ≡ Ok loaded
  pub single : (node : ℕ) (loaded : Loaded) → is_among nodes node ≡ true → given node ≡ Some loaded → repeats (record_claims loaded) ≡ false
  pub apart : (one other : ℕ) (loaded others : Loaded) → is_among nodes one ≡ true → is_among nodes other ≡ true → (one == other) ≡ false
      → given one ≡ Some loaded → given other ≡ Some others → Apart loaded others
  pub parents : (node : ℕ) (loaded : Loaded) (name : Name) (index : PartIndex) → is_among nodes node ≡ true → given node ≡ Some loaded
      → loaded.role ≡ IsPart name index → HasParentIn nodes given name
  pub out : (node : ℕ) (loaded : Loaded) → is_among nodes node ≡ true → given node ≡ None → load store rule node ≡ Ok loaded → IsOrphanIn nodes given loaded
