-- The records that a layout gives to the nodes of a walk, those that pass a test.
use Rattle.std.specs.Prelude.{◌≡◌, ℕ, List, Bool, true, false, cond, not, ◌&&◌, ◌||◌, ◌==◌, if◌then◌else◌}
use Rattle.std.specs.Option.{option_map_or, option_and_then}
use Rattle.std.specs.declared.option.Option.{Option}
use Rattle.std.specs.declared.option.Option.TheVariants.{None, Some}
use Rattle.blk_model.specs.Items.{Item, main, part, key_of, Row}
use Rattle.blk_model.specs.State.{State}
use Rattle.blk_model.specs.Holding as model
use Rattle.spec_folder.specs.Entries.{Role, IsPlain, IsParent, IsPart}
use Rattle.spec_folder.specs.Loads.{Rule, Loaded}
use Rattle.spec_folder.specs.Layout.{Layout, is_in}

-- what a layout has at a node, where it passes a test; else None
abbrev pub given_by : (Loaded → Bool) → Layout → ℕ → Option Loaded
given_by good layout node = option_and_then (λ loaded. if good loaded then Some loaded else None) (layout.at node)

-- a role and a dirty flag are those of a clean item: of a main item the flag is 0; of a part its main item is among some items, and that one's flag is 0
abbrev pub is_settled_role : Layout → List Item → Role → ℕ → Bool
is_settled_role layout items IsPlain dirty = dirty == 0
is_settled_role layout items (IsParent index) dirty = dirty == 0
is_settled_role layout items (IsPart name index) dirty = is_in items (main name.key) && option_map_or (λ parent. parent.dirty == 0) (layout.at (layout.place (main name.key))) false

-- a record is that of a clean item: its dirty flag, or that of a part's main item, which is among some items, is 0
abbrev pub is_settled : Layout → List Item → Loaded → Bool
is_settled layout items loaded = is_settled_role layout items loaded.role loaded.dirty

-- a test on records agrees with a rule: a main item passes exactly where the rule admits its dirty flag, a part exactly where its main item is among the items
-- and passes
pub record GoesWith (layout : Layout) (items : List Item) (rule : Rule) (good : Loaded → Bool) : Type 0 where
  pub clean : (item : Item) (loaded : Loaded) → is_in items item ≡ true → layout.at (layout.place item) ≡ Some loaded → good loaded ≡ true
      → (not rule.clean || (loaded.dirty == 0)) ≡ true
  pub main_out : (key : List ℕ) (loaded : Loaded) → is_in items (main key) ≡ true → layout.at (layout.place (main key)) ≡ Some loaded
      → good loaded ≡ false → (not rule.clean || (loaded.dirty == 0)) ≡ false
  pub part_in : (key : List ℕ) (n : ℕ) (loaded parent : Loaded) → is_in items (part key n) ≡ true
      → layout.at (layout.place (part key n)) ≡ Some loaded → layout.at (layout.place (main key)) ≡ Some parent → good loaded ≡ true
      → (is_in items (main key) ≡ true) × (good parent ≡ true)
  pub part_out : (key : List ℕ) (n : ℕ) (loaded parent : Loaded) → is_in items (part key n) ≡ true
      → layout.at (layout.place (part key n)) ≡ Some loaded → layout.at (layout.place (main key)) ≡ Some parent → good loaded ≡ false
      → is_in items (main key) ≡ true → good parent ≡ false

-- an item's row where the object that owns it passes a test; else None
abbrev pub picked_with : State → (ℕ → Bool) → Item → Option Row
picked_with state test item = option_and_then (λ number. cond (test number) (model.row_of state item) None) (model.owner state item)

-- a test on objects is true exactly of those whose main item has the dirty flag 0, and each part has the owner of its main item
pub record IsTest (state : State) (layout : Layout) (items : List Item) (test : ℕ → Bool) : Type 0 where
  pub owners : (key : List ℕ) (n : ℕ) → is_in items (part key n) ≡ true → model.owner state (part key n) ≡ model.owner state (main key)
  pub main_test : (key : List ℕ) (loaded : Loaded) (number : ℕ) → is_in items (main key) ≡ true → layout.at (layout.place (main key)) ≡ Some loaded
      → model.owner state (main key) ≡ Some number → (loaded.dirty == 0) ≡ test number

-- an item's row where its main item is among some items and its object passes a test; else None
abbrev pub picked_in : State → (ℕ → Bool) → List Item → Item → Option Row
picked_in state test items item = cond (is_in items (main (key_of item))) (picked_with state test item) None
