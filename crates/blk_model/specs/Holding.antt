-- What a folder holds, as a state, and what a state leaves to a folder.
use Rattle.std.specs.Prelude.{ℕ, true, cond, List, [], ◌∷◌, map, filter_map, Option, Some, None, option_and_then, option_map, replicate}
use Rattle.std.specs.Str.{bytes_eq}
use Rattle.std.specs.Ordering.{nat_cmp}
use Rattle.std.specs.FinMap.{put}
use Rattle.blk_model.specs.Sizes.{handle_names}
use Rattle.blk_model.specs.Items.{Shape, Streams, Item, main, part, PartValue, Row, main_row, part_row, item_of}
use Rattle.blk_model.specs.State.{Object, Bounds, State, object_at, part_at, first_with}

-- the parts of a key among some rows, with their numbers, rising
unfoldable pub parts_in : List ℕ → List Row → List (ℕ × PartValue)
parts_in key [] = []
parts_in key (main_row other shape streams ∷ rows) = parts_in key rows
parts_in key (part_row other n value ∷ rows) = cond (bytes_eq key other) (put nat_cmp n value (parts_in key rows)) (parts_in key rows)

-- the object of a main row, with the parts that all rows have for its key, live and clean
unfoldable pub found_object : List Row → List ℕ → Shape → Streams → Object
found_object all key shape streams = record {
  key = key;
  shape = shape;
  streams = streams;
  parts = parts_in key all;
  live = true;
  settled = true;
}

-- the objects of the main rows, in their order
unfoldable pub objects_in : List Row → List Row → List (Option Object)
objects_in all [] = []
objects_in all (main_row key shape streams ∷ rows) = Some (found_object all key shape streams) ∷ objects_in all rows
objects_in all (part_row key n value ∷ rows) = objects_in all rows

-- the state of a cache that is opened on a snapshot, with these limits
unfoldable pub open_state : List Row → Bounds → State
open_state rows limits = record { objects = objects_in rows rows; uses = map item_of rows; names = replicate handle_names None; limits = limits }

-- the row of an object's item, None for a part that it hasn't
abbrev pub row_in : Object → Item → Option Row
row_in object (main key) = Some (main_row key object.shape object.streams)
row_in object (part key n) = option_map (λ value. part_row key n value) (part_at object n)

-- the number of the live object that has an item
abbrev pub owner : State → Item → Option ℕ
owner state item = first_with item 0 state.objects

-- the object that has an item
abbrev pub owner_object : State → Item → Option Object
owner_object state item = option_and_then (object_at state) (owner state item)

-- the row of an item of a state, None where no live object has the item
unfoldable pub row_of : State → Item → Option Row
row_of state item = option_and_then (λ object. row_in object item) (owner_object state item)

-- all rows of a state, the last used first
unfoldable pub rows : State → List Row
rows state = filter_map (row_of state) state.uses

-- the row of an item whose object is clean, None for another item
unfoldable pub settled_row : State → Item → Option Row
settled_row state item = option_and_then (λ object. cond object.settled (row_in object item) None) (owner_object state item)

-- the durable contents of a state: the rows of the clean live objects, in the order of the LRU list. A crash with no command under way leaves them
unfoldable pub rest : State → List Row
rest state = filter_map (settled_row state) state.uses
