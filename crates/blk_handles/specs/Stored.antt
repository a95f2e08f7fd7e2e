-- How the table of handles is stored: for each handle the slab key of its object, and the objects with the number of their handles.
use Rattle.std.specs.Prelude.{◌≡◌, ℕ, ◌<◌, List, length, map, count_by, Option, Some, None}
use Rattle.std.specs.Option.{option_map, option_map_or}
use Rattle.slab.specs.Slab.{Slab, get, slab_len}
use Rattle.blk_model.specs.Sizes.{handle_names}
use Rattle.blk_model.specs.State.{is_number}
use Rattle.blk_handles.specs.declared.open_object.OpenObject.{OpenObject}
use Rattle.blk_handles.specs.Objects.{AreDistinct}
use Rattle.blk_handles.specs.Bindings.{Binding, Bindings, distinct_count}

-- the open object without the number of its handles, as the table has it
abbrev pub binding : OpenObject → Binding
binding object = record { entry = object.entry; node = object.node; doomed = object.doomed; dirty = object.dirty }

-- what a handle with this slab key names
abbrev pub shown : Slab OpenObject → Option ℕ → Option Binding
shown objects None = None
shown objects (Some key) = option_map binding (get objects key)

-- the table that these slab keys and objects are
abbrev pub bindings_of : List (Option ℕ) → Slab OpenObject → Bindings
bindings_of names objects = map (shown objects) names

-- how many handles the object under this slab key has; 0 where there is no object
abbrev pub names_under : Slab OpenObject → ℕ → ℕ
names_under objects key = option_map_or (λ object. object.names) (get objects key) 0

-- invariant of the storage: no two objects have the same record, each object counts its handles and has one at least, and each slab key of a handle is that of
-- an object
pub record AreNamesStored (names : List (Option ℕ)) (objects : Slab OpenObject) : Type 0 where
  pub all_names : length names ≡ handle_names
  pub distinct : AreDistinct objects
  pub counted : (key : ℕ) → names_under objects key ≡ count_by (is_number key) names
  pub some_name : (key : ℕ) (object : OpenObject) → get objects key ≡ Some object → 0 < object.names
  pub object_count : slab_len objects ≡ distinct_count names
