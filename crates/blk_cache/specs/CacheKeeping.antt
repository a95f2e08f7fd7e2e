-- The invariant of a cache between two commands: it keeps a state of the model, on the image of its folder.
use Rattle.std.specs.Prelude.{◌≡◌, ◌≤◌, ℕ, ◌+◌, not, List, [], ◌∷◌, length, sum_by, if◌then◌else◌}
use Rattle.std.specs.declared.option.Option.{Option}
use Rattle.std.specs.declared.option.Option.TheVariants.{None, Some}
use Rattle.spec_image.specs.Image.{Image, Index, byte}
use Rattle.blk_model.specs.State.{Object, State, is_named, named_by, object_at}
use Rattle.blk_model.specs.Bounds.{bounds_of}
use Rattle.blk_model.specs.Room.{items, own_charge, total}
use Rattle.blk_model.specs.Sizes.{most_items}
use Rattle.spec_format.specs.Headers.{this_id_of}
use Rattle.spec_folder.specs.Layout.{Layout}
use Rattle.spec_folder.specs.Loads.{Loaded}
use Rattle.law_state.specs.Keeping.{Keeps}
use Rattle.law_state.specs.KeepingLaws.{HasMagic}
use Rattle.blk_disk.specs.Tables.{Agrees}
use Rattle.blk_object.specs.Writing.{node_of_object}
use Rattle.blk_handles.specs.Bindings.{Binding, binding_of, open_count}
use Rattle.blk_cache.specs.declared.cache.Cache.{Cache}

-- Handles.

-- in memory a handle is bound to node and record of object `number`, and to whether the object is doomed and whether it is dirty
pub record IsBoundTo (state : State) (layout : Layout) (number : ℕ) (binding : Binding) : Type 0 where
  pub object : Object
  pub here : object_at state number ≡ Some object
  pub loaded : Loaded
  pub at : layout.at (node_of_object layout number object) ≡ Some loaded
  pub node : binding.node ≡ node_of_object layout number object
  pub entry : binding.entry ≡ loaded.contents
  pub doomed : binding.doomed ≡ not object.live
  pub dirty : binding.dirty ≡ not object.settled

-- a handle is bound in memory as the state has it: to the same object, or to nothing
abbrev pub IsBoundAs : State → Layout → Option ℕ → Option Binding → Type 0
IsBoundAs state layout None None = Unit {0}
IsBoundAs state layout (Some number) (Some binding) = IsBoundTo state layout number binding
IsBoundAs state layout None (Some binding) = ⊥
IsBoundAs state layout (Some number) None = ⊥

-- Open objects.

-- those of the objects in these slots that a handle names, where the first slot has the number `number`
abbrev pub named_from : State → ℕ → List (Option Object) → List Object
named_from state number [] = []
named_from state number (None ∷ slots) = named_from state (number + 1) slots
named_from state number (Some object ∷ slots) =
    let more = named_from state (number + 1) slots in
    if is_named state number then object ∷ more else more

-- the objects that the handles of a state name
abbrev pub named_objects : State → List Object
named_objects state = named_from state 0 state.objects

-- The invariant.

-- the invariant of a cache but for the magic word: it holds the state on the image of its folder, by some layout
pub record HoldsState (cache : Cache) (state : State) (image : Image) : Type 0 where
  pub layout : Layout
  -- the folder keeps the state by the layout, with no address unlinked
  pub kept : Keeps state layout [] image
  -- the limits, the number of items and the sum of their costs are those of the state
  pub limits : state.limits ≡ bounds_of cache.limits
  pub items_are : cache.items ≡ items state
  pub bytes_are : cache.bytes ≡ total state
  -- the items are no more than any cache may have, whatever its own limit is
  pub few : items state ≤ most_items
  -- how many objects have a handle, and the sum of the costs of their main items
  pub open_objects : open_count cache.handles ≡ length (named_objects state)
  pub open_bytes : cache.open_bytes ≡ sum_by own_charge (named_objects state)
  -- each handle is bound as the state has it
  pub names : (name : ℕ) → IsBoundAs state layout (named_by state name) (binding_of cache.handles name)
  -- the table of block files agrees with the image
  pub files : Agrees cache.files image
  -- the dirty flag that the cache sets is the number of its session
  pub mark : cache.mark ≡ this_id_of (byte image Index)

-- the invariant of a cache: it holds the state on the image of its folder, and the index is initialized
pub record KeepsState (cache : Cache) (state : State) (image : Image) : Type 0 where
  pub holds : HoldsState cache state image
  pub finished : HasMagic image
