-- Lemmas on evictions: eviction units are evicted one after another from the end of the LRU list, and what one leaves.
use Rattle.std.specs.Prelude.{◌≡◌, ◌⊎◌, ℕ, ◌+◌, Bool, true, false, List, [], ◌∷◌, ◌++◌, length, sum_by}
use Rattle.std.specs.List.{AllByRecursion}
use Rattle.std.specs.Option.{option_map_or}
use Rattle.std.specs.declared.option.Option.TheVariants.{Some}
use Rattle.blk_model.specs.Holding.{row_of}
use Rattle.blk_model.specs.Items.{Item, main, part}
use Rattle.blk_model.specs.Room.{Group, single, whole, evicted_until, is_out, is_pinned, items, items_of_group, parts_among, total, without}
use Rattle.blk_model.specs.State.{IsValidState, Object, State, is_named, object_at}
use Rattle.blk_model.specs.Totals.{row_charge}
use Rattle.spec_folder.specs.Layout.{Layout}
use Rattle.blk_object.specs.Writing.{node_of_object}

-- Eviction.

-- the eviction unit of an item with these items in front of it in the LRU list: a main item with those of its parts that are among them; a part alone
abbrev pub group_for : Item → List Item → Group
group_for (main key) front = whole key (parts_among key front)
group_for (part key n) front = single key n

-- the item is the last of the LRU list that isn't pinned, with `front` before it and `behind` after it
pub record IsLastUnpinned (state : State) (covered front : List Item) (item : Item) (behind : List Item) : Type 0 where
  pub listed : state.uses ≡ front ++ item ∷ behind
  pub unpinned : is_pinned state covered item ≡ false
  pub pinned_behind : AllByRecursion (λ other. is_pinned state covered other ≡ true) behind

-- an item is a part of an object that a handle names
abbrev pub IsOfNamed : State → Item → Type 0
IsOfNamed state (main key) = ⊥
IsOfNamed state (part key n) = is_pinned state [] (main key) ≡ true

-- each of these items is a part of an object that a handle names, as the parts in range of a command are
abbrev pub AreOfNamed : State → List Item → Type 0
AreOfNamed state covered = AllByRecursion (IsOfNamed state) covered

-- the item may be evicted: it isn't pinned by handles, and all parts of a main item are in front of it in the LRU list
pub record MayGo (state : State) (front : List Item) (item : Item) (behind : List Item) : Type 0 where
  pub listed : state.uses ≡ front ++ item ∷ behind
  pub unpinned : is_pinned state [] item ≡ false
  pub parts : (key : List ℕ) → item ≡ main key → parts_among key front ≡ parts_among key state.uses

-- all items of the state are pinned
abbrev pub AreAllPinned : State → List Item → Type 0
AreAllPinned state covered = AllByRecursion (λ item. is_pinned state covered item ≡ true) state.uses

-- an eviction evicts nothing where its goal is met or each item is pinned
abbrev pub NothingMoreGoes : Type 0
NothingMoreGoes = (enough : State → Bool) (state : State) (covered : List Item) → (enough state ≡ true) ⊎ AreAllPinned state covered → evicted_until enough state covered ≡ []

-- an eviction whose goal isn't met removes the eviction unit of the last item that isn't pinned, and then what it evicts from the state without that unit
abbrev pub TheLastUnpinnedGoesNext : Type 0
TheLastUnpinnedGoesNext = (enough : State → Bool) (state : State) (covered front : List Item) (item : Item) (behind : List Item) → IsValidState state → IsLastUnpinned state covered front item behind → enough state ≡ false
    → evicted_until enough state covered ≡ group_for item front ∷ evicted_until enough (without (group_for item front ∷ []) state) covered

-- an eviction that has evicted its first units evicts the others from the state that is left
abbrev pub TheOthersGoFromWhatIsLeft : Type 0
TheOthersGoFromWhatIsLeft = (enough : State → Bool) (state : State) (covered : List Item) (first others : List Group) → IsValidState state → evicted_until enough state covered ≡ first ++ others
    → evicted_until enough (without first state) covered ≡ others

-- evictions don't change which of the items that stay are pinned
abbrev pub ItemsThatStayArePinnedAsBefore : Type 0
ItemsThatStayArePinnedAsBefore = (state : State) (covered : List Item) (groups : List Group) (item : Item) → is_out groups item ≡ false → is_pinned (without groups state) covered item ≡ is_pinned state covered item

-- where the parts in range are those of an object that a handle names, the last item that isn't pinned may be evicted
abbrev pub TheLastUnpinnedMayGo : Type 0
TheLastUnpinnedMayGo = (state : State) (covered front : List Item) (item : Item) (behind : List Item) → AreOfNamed state covered → IsLastUnpinned state covered front item behind → MayGo state front item behind

-- the parts in range are still those of an object that a handle names once the eviction unit of an item that may be evicted is out
abbrev pub CoveredPartsStayOfNamed : Type 0
CoveredPartsStayOfNamed = (state : State) (covered front : List Item) (item : Item) (behind : List Item) → AreOfNamed state covered → MayGo state front item behind → AreOfNamed (without (group_for item front ∷ []) state) covered

-- What is left by an eviction.

-- the cost of an item of a state, or 0 where the state has no such item
abbrev pub item_charge : State → Item → ℕ
item_charge state item = option_map_or (row_charge state) (row_of state item) 0

-- without the eviction unit the state has as many items less as the unit has, and its cost is less by that of the unit
pub record IsLessByGroup (state : State) (group : Group) : Type 0 where
  pub items_left : items state ≡ items (without (group ∷ []) state) + length (items_of_group group)
  pub bytes_left : total state ≡ total (without (group ∷ []) state) + sum_by (item_charge state) (items_of_group group)

-- each eviction unit of an item that may be evicted counts with its items and their costs
abbrev pub GroupsAreCountedLess : Type 0
GroupsAreCountedLess = (state : State) (front : List Item) (item : Item) (behind : List Item) → IsValidState state → MayGo state front item behind → IsLessByGroup state (group_for item front)

-- each object that a handle names has the node that it had, and what lies there is the same
abbrev pub NamedObjectsStay : State → (old new : Layout) → Type 0
NamedObjectsStay state old new =
    (number : ℕ) (object : Object) → object_at state number ≡ Some object → is_named state number ≡ true
    → (node_of_object new number object ≡ node_of_object old number object) × (new.at (node_of_object old number object) ≡ old.at (node_of_object old number object))
