-- How many items less, and how many bytes, are to be counted once some are out, and how many more once a part is made.
use Rattle.std.specs.Prelude.{◌≡◌, ℕ, ◌+◌, List, Bool, true, filter, length, not}
use Rattle.std.specs.List.{sum_by}
use Rattle.std.specs.declared.option.Option.{Option}
use Rattle.std.specs.declared.option.Option.TheVariants.{Some}
use Rattle.blk_model.specs.Effects.{doomed}
use Rattle.blk_model.specs.Items.{Item, part}
use Rattle.blk_model.specs.State.{IsValidState, Object, State, is_named}
use Rattle.law_folder.specs.CommandLaws.{IsPlacedAsLive}
use Rattle.spec_folder.specs.Creation.{with_first}
use Rattle.spec_folder.specs.Found.{charge_of}
use Rattle.spec_folder.specs.Layout.{IsLayoutOf, Layout, is_listed, nodes_of, order}
use Rattle.spec_folder.specs.Loads.{Loaded}
use Rattle.spec_folder.specs.Removal.{is_of_another, without_items}
use Rattle.spec_folder.specs.Tidy.{loaded_at}
use Rattle.spec_folder.specs.View.{View}
use Rattle.law_state.specs.GroupLaws.{gone_nodes, layout_less}
use Rattle.law_state.specs.Keeping.{AreOwners}
use Rattle.law_state.specs.NewPartLaws.{IsPartWritten, with_new_part}
use Rattle.law_state.specs.PartlyOut.{keeps_but}
use Rattle.law_state.specs.WholeRemovals.{layout_doomed_whole}

-- the sum of the costs of what lies at some nodes
abbrev pub charges_at : Layout → List ℕ → ℕ
charges_at layout nodes = sum_by charge_of (loaded_at layout nodes)

-- a later state and layout have fewer items, and a smaller sum of costs, than those before: what is missing is the number and the costs of the removed items
pub record IsLessBy (gone : Item → Bool) (state : State) (layout : Layout) (after : State) (now : Layout) : Type 0 where
  pub items : length after.uses + length (filter gone state.uses) ≡ length state.uses
  pub bytes : charges_at now (order after now) + charges_at layout (nodes_of layout (filter gone state.uses)) ≡ charges_at layout (order state layout)

-- the state without some items has fewer items by their number, and the sum of its costs is less by the costs of these items
abbrev pub GoneItemsAreLess : Type 0
GoneItemsAreLess = (state : State) (layout : Layout) (numbers : List ℕ) (objects : List (Option Object)) (keep : Item → Bool) (chains : ℕ → List ℕ) → IsLayoutOf state layout → AreOwners state layout numbers
    → IsLessBy (λ item. not (keep item)) state layout (without_items state objects keep) (layout_less layout (gone_nodes state layout keep) chains)

-- the state in which an object with a handle is doomed has fewer items and a smaller sum of costs: the items of the object and their costs are missing
abbrev pub DoomedItemsAreLess : Type 0
DoomedItemsAreLess =
    (state : State) (layout : Layout) (numbers : List ℕ) (number : ℕ) (object : Object) (loaded : Loaded) (chains : ℕ → List ℕ) → IsValidState state
    → IsLayoutOf state layout → AreOwners state layout numbers → IsPlacedAsLive state layout number object loaded → is_named state number ≡ true
    → IsLessBy (λ item. not (is_of_another object.key item)) state layout (doomed number state (Some object)) (layout_doomed_whole state layout number object.key chains)

-- one item more is removed from those still listed: they are one item less, and the sum of their costs is less by its cost
pub record IsNextLess (state : State) (layout : Layout) (keep : Item → Bool) (item : Item) (was : Loaded) : Type 0 where
  pub items : length (filter (keeps_but keep item) state.uses) + 1 ≡ length (filter keep state.uses)
  pub bytes : charges_at layout (nodes_of layout (filter (keeps_but keep item) state.uses)) + charge_of was ≡ charges_at layout (nodes_of layout (filter keep state.uses))

-- while items are removed one after another, each makes those still listed one item less, and the sum of their costs less by its cost
abbrev pub NextItemsAreOneLess : Type 0
NextItemsAreOneLess = (state : State) (layout : Layout) (keep : Item → Bool) (item : Item) (was : Loaded) → IsValidState state → is_listed state item ≡ true → keep item ≡ true → layout.at (layout.place item) ≡ Some was → IsNextLess state layout keep item was

-- a part that is made is one item more, with its cost, and its parent costs what its record with the part's bit says
pub record IsPartMore (state after : State) (layout now : Layout) (was seen loaded : Loaded) : Type 0 where
  pub items : length after.uses ≡ length state.uses + 1
  pub bytes : charges_at now (order after now) + charge_of was ≡ charges_at layout (order state layout) + charge_of loaded + charge_of seen

-- a part that is written and listed is one item more, with its cost
abbrev pub NewPartsAreOneMore : Type 0
NewPartsAreOneMore = (view : View) (state : State) (objects : List (Option Object)) (layout : Layout) (key : List ℕ) (n : ℕ) (was seen loaded : Loaded) → IsPartWritten view state objects layout key n was seen loaded
    → IsPartMore state (with_first state objects (part key n)) layout (with_new_part layout key n seen loaded) was seen loaded
