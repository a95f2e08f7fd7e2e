-- The laws of items that are accessed and of items that are new, whatever store view shows the same.
use Rattle.std.specs.Prelude.{◌≡◌, ℕ, List, map, take, true, nat_lt, if◌then◌else◌}
use Rattle.std.specs.declared.option.Option.{Option}
use Rattle.blk_model.specs.Items.{Item}
use Rattle.blk_model.specs.State.{State, Object, IsValidState}
use Rattle.blk_model.specs.Holding.{rest}
use Rattle.blk_model.specs.Effects.{used}
use Rattle.spec_folder.specs.ListView.{after_writes}
use Rattle.spec_folder.specs.ListPlans.{touch_writes}
use Rattle.spec_folder.specs.View.{View, StoreView}
use Rattle.spec_folder.specs.Loads.{held_rule, Loaded}
use Rattle.spec_folder.specs.Audit.{kept_by}
use Rattle.spec_folder.specs.Found.{row_of_loaded, completed}
use Rattle.spec_folder.specs.Layout.{Layout, is_listed, IsLayoutOf, Represents, OneChanged}
use Rattle.spec_folder.specs.Creation.{with_first, with_item, IsNewItem}
use Rattle.spec_folder.specs.ShownChanges.{ShowsTheSame}

-- a view represents the same with a store view that shows the same
abbrev pub SameStoresRepresent : Type 0
SameStoresRepresent = (view : View) (state : State) (layout : Layout) → Represents view state layout → (store : StoreView) → ShowsTheSame view.store store → Represents (record view { store = store }) state layout

-- the access of a listed item commits at its second write: what is kept is the durable contents before, and from then on those with the item in front
abbrev pub TouchedItemsAtEachWrite : Type 0
TouchedItemsAtEachWrite = (view : View) (state : State) (layout : Layout) → Represents view state layout → IsValidState state → (item : Item) → is_listed state item ≡ true
    → (store : StoreView) → ShowsTheSame view.store store → (count : ℕ) → map row_of_loaded (kept_by held_rule (completed (record { list = after_writes (take count (touch_writes (layout.place item) view.list)) view.list; store = store })))
    ≡ (if nat_lt count 2 then rest state else rest (record state { uses = used item state.uses }))

-- after the access of a listed item the state with the item in front is represented, and valid
abbrev pub TouchedItemsEnd : Type 0
TouchedItemsEnd = (view : View) (state : State) (layout : Layout) → Represents view state layout → IsValidState state → (item : Item) → is_listed state item ≡ true
    → (store : StoreView) → ShowsTheSame view.store store
    → Represents (record { list = after_writes (touch_writes (layout.place item) view.list) view.list; store = store }) (record state { uses = used item state.uses }) layout × IsValidState (record state { uses = used item state.uses })

-- the layout with a new item, a main item or a part, fits the state with the item in front
abbrev pub NewItemsArePlaced : Type 0
NewItemsArePlaced = (state : State) (objects : List (Option Object)) (layout : Layout) (item : Item) (loaded : Loaded) → IsLayoutOf state layout → OneChanged state objects item → IsNewItem state objects layout item loaded
    → IsLayoutOf (with_first state objects item) (with_item layout item loaded)
