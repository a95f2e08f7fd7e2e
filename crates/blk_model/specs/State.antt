-- The state of a cache.
use Rattle.std.specs.Prelude.{◌≡◌, ℕ, ◌+◌, ◌<◌, ◌≤◌, Bool, true, false, ◌&&◌, ◌==◌, cond, List, [], ◌∷◌, length, sum_by, All, IsTrue, IfSome, IsSome, Option, Some, None, is_some, slice_index_or}
use Rattle.std.specs.List.{list_any}
use Rattle.std.specs.Str.{bytes_eq}
use Rattle.std.specs.Ordering.{nat_cmp}
use Rattle.std.specs.FinMap.{find, is_sorted}
use Rattle.blk_model.specs.Sizes.{handle_names, part_count, signatures}
use Rattle.blk_model.specs.Items.{Item, main, part, Shape, Streams, PartValue, IsPartValue, IsKey, IsStreams, HasOneStream, is_sparse, signature_of, times}

-- an object: live or doomed, clean or not; its parts by number, rising
pub record Object : Type 0 where
  pub key : List ℕ
  pub shape : Shape
  pub streams : Streams
  pub parts : List (ℕ × PartValue)
  pub live : Bool
  pub settled : Bool

-- how many bytes and items a cache keeps at most
pub record Bounds : Type 0 where
  pub max_bytes : ℕ
  pub max_items : ℕ

-- objects: what has each number, if it is still there; the next number is their length.
-- uses: the items, the last used first.
-- names: the number of the object that each of the 4096 handle names names, if it names one.
pub record State : Type 0 where
  pub objects : List (Option Object)
  pub uses : List Item
  pub names : List (Option ℕ)
  pub limits : Bounds

-- the object with a number
abbrev pub object_at : State → ℕ → Option Object
object_at state number = slice_index_or state.objects number None

-- the number of the object that a handle name names
abbrev pub named_by : State → ℕ → Option ℕ
named_by state name = slice_index_or state.names name None

-- the part of an object with a number
abbrev pub part_at : Object → ℕ → Option PartValue
part_at object n = find nat_cmp n object.parts

-- whether a handle name is bound to this number
abbrev pub is_number : ℕ → Option ℕ → Bool
is_number number None = false
is_number number (Some other) = number == other

-- whether some handle names the object with a number
abbrev pub is_named : State → ℕ → Bool
is_named state number = list_any (is_number number) state.names

-- whether an object has an item: a live one its main item and its parts, a doomed one none
abbrev pub has_item : Object → Item → Bool
has_item object (main key) = object.live && bytes_eq key object.key
has_item object (part key n) = object.live && bytes_eq key object.key && is_some (part_at object n)

-- whether a slot's object has an item
abbrev pub slot_has_item : Item → Option Object → Bool
slot_has_item item None = false
slot_has_item item (Some object) = has_item object item

-- how many objects have an item
abbrev pub owners : Item → List (Option Object) → ℕ
owners item objects = sum_by (λ slot. cond (slot_has_item item slot) 1 0) objects

-- an object that a state may have
pub record IsObject (object : Object) : Type 0 where
  pub key : IsKey object.key
  pub streams : IsStreams object.streams
  pub signature : signature_of object.shape < signatures
  pub plain_has_no_parts : is_sparse object.shape ≡ false → object.parts ≡ []
  pub doomed_has_no_parts : object.live ≡ false → object.parts ≡ []
  pub sparse_has_one_stream : is_sparse object.shape ≡ true → HasOneStream object.streams
  pub rising : IsTrue (is_sorted nat_cmp object.parts)
  pub parts : All (λ p. (p.0 < part_count) × IsPartValue p.1) object.parts

-- a state that a cache may have
pub record IsValidState (state : State) : Type 0 where
  -- each object is one that a state may have
  pub objects : (number : ℕ) → IfSome (object_at state number) IsObject
  -- there are so many handle names, and each that is bound names one of the objects
  pub names : length state.names ≡ handle_names
  pub bound : (name : ℕ) → IfSome (named_by state name) (λ number. IsSome (object_at state number))
  -- the LRU list has exactly the items of the live objects, each once; so no two live objects have one key
  pub listed : (item : Item) → times item state.uses ≡ owners item state.objects
  pub once : (item : Item) → times item state.uses ≤ 1
  -- each object that is doomed or dirty is named by a handle
  pub held : (number : ℕ) → IfSome (object_at state number) (λ object. (object.live && object.settled ≡ false) → is_named state number ≡ true)

-- the number of the first object in the slots, counted from a number on, that has an item
abbrev pub first_with : Item → ℕ → List (Option Object) → Option ℕ
first_with item number [] = None
first_with item number (slot ∷ slots) = cond (slot_has_item item slot) (Some number) (first_with item (number + 1) slots)

-- the number of the live object with a key
abbrev pub live_with : State → List ℕ → Option ℕ
live_with state key = first_with (main key) 0 state.objects
