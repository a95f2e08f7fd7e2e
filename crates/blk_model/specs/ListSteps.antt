-- What a command does to the LRU list, one step after another.
use Rattle.std.specs.Prelude.{ℕ, not, if◌then◌else◌, List, [], ◌∷◌, ◌++◌, length, map, filter, take, Option, Some, None}
use Rattle.blk_model.specs.declared.Refusal.{Refusal}
use Rattle.blk_model.specs.Items.{Item, main, part}
use Rattle.blk_model.specs.State.{Object, State, object_at, live_with}
use Rattle.blk_model.specs.Request.{Request, to_create, to_open, to_read, to_write, to_sparse_write, to_sparse_read, to_sparse_range, to_doom, to_doom_key}
use Rattle.blk_model.specs.Room.{Group, whole, takes, parts_among}
use Rattle.blk_model.specs.Sparse.{covered_parts}
use Rattle.blk_model.specs.Effects.{object_of, number_of, existing_parts, used}
use Rattle.blk_model.specs.Refusals.{refused, evicted}

-- a step on the LRU list: an eviction unit is removed, or an item comes to the front
pub data ListStep : Type 0 where
  out : Group → ListStep
  front : Item → ListStep

-- the LRU list after a step on it
abbrev pub after_step : List Item → ListStep → List Item
after_step items (out group) = filter (λ item. not (takes item group)) items
after_step items (front item) = used item items

-- the LRU list after several steps on it, the first of them first
abbrev pub after_steps : List ListStep → List Item → List Item
after_steps [] items = items
after_steps (step ∷ steps) items = after_steps steps (after_step items step)

-- the list steps of a doom: a live object is removed with its parts
unfoldable pub doom_steps : State → Option Object → List ListStep
doom_steps state None = []
doom_steps state (Some object) = if object.live then out (whole object.key (parts_among object.key state.uses)) ∷ [] else []

-- the object with a number, if there is one
abbrev pub object_for : State → Option ℕ → Option Object
object_for state None = None
object_for state (Some number) = object_at state number

-- the items that a command accesses, in order
unfoldable pub uses_of : Request → State → List Item
uses_of (to_create handle key) state = main key ∷ []
uses_of (to_open handle key) state = main key ∷ []
uses_of (to_read handle stream offset count) state = let object = object_of state handle in if object.live then main object.key ∷ [] else []
uses_of (to_write handle stream offset cut bytes) state = let object = object_of state handle in if object.live then main object.key ∷ [] else []
uses_of (to_sparse_write handle offset bytes) state = let object = object_of state handle in main object.key ∷ map (part object.key) (covered_parts offset (length bytes))
uses_of (to_sparse_read handle offset count) state = let object = object_of state handle in main object.key ∷ map (part object.key) (existing_parts object (covered_parts offset count))
uses_of (to_sparse_range handle offset count) state = let object = object_of state handle in main object.key ∷ map (part object.key) (existing_parts object (covered_parts offset count))
uses_of _ state = []

-- the list steps of what a command dooms
unfoldable pub dooms : Request → State → List ListStep
dooms (to_doom handle) state = doom_steps state (object_at state (number_of state handle))
dooms (to_doom_key key) state = doom_steps state (object_for state (live_with state key))
dooms _ state = []

-- the list steps of a command that was not refused: what is evicted and what is doomed is removed, and what is accessed comes to the front
unfoldable pub steps_unless : ℕ → Request → State → Option Refusal → List ListStep
steps_unless moment request state (Some why) = []
steps_unless moment request state None = map out (evicted moment request state) ++ dooms request state ++ map front (uses_of request state)

-- the list steps of a command at a moment; a refused one has none
unfoldable pub list_steps : State → ℕ → Request → List ListStep
list_steps state moment request = steps_unless moment request state (refused moment request state)

-- the LRU list after the first j list steps of a command
unfoldable pub list_after : State → ℕ → Request → ℕ → List Item
list_after state moment request j = after_steps (take j (list_steps state moment request)) state.uses
