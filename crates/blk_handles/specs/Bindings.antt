-- The table of handles: a finite map from handles to open objects, where several handles may name one object.
use Rattle.std.specs.Prelude.{◌≡◌, ℕ, ◌+◌, Bool, true, false, ◌==◌, List, [], ◌∷◌, length, map, count_by, replicate, Option, Some, None, unwrap_or, slice_index_or, if◌then◌else◌}
use Rattle.std.specs.Option.{option_map}
use Rattle.std.specs.List.{list_any}
use Rattle.blk_model.specs.Sizes.{handle_names}
use Rattle.blk_model.specs.State.{is_number}
use Rattle.blk_handles.specs.declared.open_object.OpenObject.{OpenObject}
use Rattle.blk_handles.specs.declared.open_object.Released.{Released}
use Rattle.blk_handles.specs.declared.open_object.Released.TheVariants as released

-- the object that a handle names: the addresses of its record and its node, and whether it is doomed and dirty
pub record Binding : Type 0 where
  pub entry : ℕ
  pub node : ℕ
  pub doomed : Bool
  pub dirty : Bool

-- the table: what each handle names, or None
abbrev pub Bindings : Type 0
Bindings = List (Option Binding)

-- the table in which no handle names anything
abbrev pub all_free : Bindings
all_free = replicate handle_names None

-- what a handle names, or None; numbers that are no handles name nothing
abbrev pub binding_of : Bindings → ℕ → Option Binding
binding_of bindings name = slice_index_or bindings name None

-- the table has all handles, and handles that name the same record have the same entry
pub record AreShared (bindings : Bindings) : Type 0 where
  pub names : length bindings ≡ handle_names
  pub shared : (name other : ℕ) (a b : Binding) → binding_of bindings name ≡ Some a → binding_of bindings other ≡ Some b → a.entry ≡ b.entry → a ≡ b

-- the entry names the object with this record
abbrev pub has_entry : ℕ → Option Binding → Bool
has_entry entry None = false
has_entry entry (Some binding) = entry == binding.entry

-- some handle names the object with this record
abbrev pub is_open : Bindings → ℕ → Bool
is_open bindings entry = list_any (has_entry entry) bindings

-- how many handles name the object with this record
abbrev pub name_count : Bindings → ℕ → ℕ
name_count bindings entry = count_by (has_entry entry) bindings

-- the open object with this record: the entry of the first handle that names it
abbrev pub open_with : Bindings → ℕ → Option Binding
open_with [] entry = None
open_with (slot ∷ rest) entry = if has_entry entry slot then slot else open_with rest entry

-- the entry for a new handle: that of the open object with the record, or else a new one, which isn't doomed
abbrev pub binding_for : Bindings → ℕ → ℕ → Bool → Binding
binding_for bindings entry node dirty = unwrap_or (open_with bindings entry) (record { entry = entry; node = node; doomed = false; dirty = dirty })

-- the object with other flags, or below doomed
abbrev pub with_status : Bool → Bool → Binding → Binding
with_status doomed dirty object = record object { doomed = doomed; dirty = dirty }

abbrev pub with_doom : Binding → Binding
with_doom object = record object { doomed = true }

-- the table with the object of this record changed, in the entries of all its handles
abbrev pub with_change : (Binding → Binding) → ℕ → Bindings → Bindings
with_change change entry bindings = map (option_map (λ object. if entry == object.entry then change object else object)) bindings

-- how many different numbers the slots have
abbrev pub distinct_count : List (Option ℕ) → ℕ
distinct_count [] = 0
distinct_count (None ∷ rest) = distinct_count rest
distinct_count (Some n ∷ rest) = (if list_any (is_number n) rest then 0 else 1) + distinct_count rest

-- the record that each handle names
abbrev pub entries_of : Bindings → List (Option ℕ)
entries_of bindings = map (option_map (λ object. object.entry)) bindings

-- how many objects are open: how many different records handles name
abbrev pub open_count : Bindings → ℕ
open_count bindings = distinct_count (entries_of bindings)

-- an open object, as calls give it: with the number of its handles
abbrev pub open_object : Bindings → Binding → OpenObject
open_object bindings object = record { entry = object.entry; node = object.node; names = name_count bindings object.entry; doomed = object.doomed; dirty = object.dirty }

-- what freeing a name of an object gives, of the bindings before and after: whether more names are bound to it, or the object as it was where it was the last
abbrev pub released_of : (old new : Bindings) → Binding → Released
released_of old new object = if is_open new object.entry then released.More else released.Last (open_object old object)
