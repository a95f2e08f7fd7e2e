-- Totals, pins, and what is evicted to make space.
use Rattle.std.specs.Prelude.{ℕ, ◌+◌, ◌-◌, ◌/◌, Bool, false, not, ◌&&◌, ◌||◌, ◌==◌, nat_lt, nat_le, if◌then◌else◌, List, [], ◌∷◌, ◌++◌, length, map, filter, filter_map, reverse, sum_by, Option, Some, None, option_and_then}
use Rattle.std.specs.Option.{option_map_or}
use Rattle.std.specs.List.{list_any}
use Rattle.std.specs.Str.{bytes_eq}
use Rattle.blk_model.specs.Sizes.{free_share}
use Rattle.blk_model.specs.Items.{Item, main, part, same_item, key_of, signature_of}
use Rattle.blk_model.specs.Charge.{main_charge, part_charge}
use Rattle.blk_model.specs.State.{Object, State, is_named, live_with}

-- an eviction unit: a main item with its parts in list order, or one part
pub data Group : Type 0 where
  whole : List ℕ → List ℕ → Group
  single : List ℕ → ℕ → Group

-- whether an eviction unit takes an item
abbrev pub takes : Item → Group → Bool
takes item (whole key parts) = bytes_eq key (key_of item)
takes item (single key n) = same_item (part key n) item

-- the items of an eviction unit, as they are printed
abbrev pub items_of_group : Group → List Item
items_of_group (whole key parts) = main key ∷ map (part key) parts
items_of_group (single key n) = part key n ∷ []

-- whether an item is in one of the eviction units
abbrev pub is_out : List Group → Item → Bool
is_out groups item = list_any (takes item) groups

-- the cost of an object as a main item
abbrev pub own_charge : Object → ℕ
own_charge object = main_charge object.key object.shape object.streams

-- the cost of an object with its parts
unfoldable pub charge : Object → ℕ
charge object = own_charge object + sum_by (λ p. part_charge object.key (signature_of object.shape) p.0 p.1) object.parts

-- how many items an object is; a doomed one counts as one
abbrev pub item_count : Object → ℕ
item_count object = 1 + length object.parts

-- a number that an object has, of the object in a slot: 0 where there is none
abbrev pub of_slot : (Object → ℕ) → Option Object → ℕ
of_slot number None = 0
of_slot number (Some object) = number object

-- the sum of the costs of all objects
abbrev pub total_of : List (Option Object) → ℕ
total_of objects = sum_by (of_slot charge) objects

-- how many items all objects are
abbrev pub count_of : List (Option Object) → ℕ
count_of objects = sum_by (of_slot item_count) objects

-- the bytes that count against the limits: the costs of all items and all doomed objects
abbrev pub total : State → ℕ
total state = total_of state.objects

-- the items that count against the limits: all items and all doomed objects
abbrev pub items : State → ℕ
items state = count_of state.objects

-- the low watermark: once items are evicted, this goes on until at most so many bytes are left
abbrev pub low : State → ℕ
low state = state.limits.max_bytes - state.limits.max_bytes / free_share

-- whether an item is pinned, where these parts are in range
abbrev pub is_pinned : State → List Item → Item → Bool
is_pinned state covered (main key) = option_map_or (is_named state) (live_with state key) false
is_pinned state covered (part key n) = list_any (same_item (part key n)) covered

-- what is pinned of the object with a number: all of a doomed object, a main item with a handle, and the parts in range
unfoldable pub pinned_of : State → List Item → ℕ → Object → Option Object
pinned_of state covered number object =
    if not object.live || is_named state number
    then Some (record object { parts = filter (λ p. list_any (same_item (part object.key p.0)) covered) object.parts })
    else None

-- what is pinned of each object, counted from a number on
abbrev pub pinned_from : State → List Item → ℕ → List (Option Object) → List (Option Object)
pinned_from state covered number [] = []
pinned_from state covered number (slot ∷ slots) = option_and_then (pinned_of state covered number) slot ∷ pinned_from state covered (number + 1) slots

-- what is pinned of all objects
abbrev pub pinned : State → List Item → List (Option Object)
pinned state covered = pinned_from state covered 0 state.objects

-- the number of an item that is a part of this key, None for another item
abbrev pub part_number : List ℕ → Item → Option ℕ
part_number key (main other) = None
part_number key (part other n) = if bytes_eq key other then Some n else None

-- the numbers of the parts of a key among items, in their order
abbrev pub parts_among : List ℕ → List Item → List ℕ
parts_among key items = filter_map (part_number key) items

-- the eviction units that could be evicted, the items given from the back of the LRU list: each that need not stay, a main item with its parts in front of it
-- (those after it were evicted alone before)
unfoldable pub groups_from_back : (Item → Bool) → List Item → List Group
groups_from_back stays [] = []
groups_from_back stays (main key ∷ before) =
    if stays (main key) then groups_from_back stays before
    else whole key (reverse (parts_among key before)) ∷ groups_from_back (λ item. stays item || bytes_eq key (key_of item)) before
groups_from_back stays (part key n ∷ before) =
    if stays (part key n) then groups_from_back stays before
    else single key n ∷ groups_from_back stays before

-- what is left of an object once some eviction units are evicted, None where its main item is
unfoldable pub left_of : List Group → Object → Option Object
left_of groups object =
    if object.live && is_out groups (main object.key) then None
    else Some (record object { parts = filter (λ p. not (is_out groups (part object.key p.0))) object.parts })

-- the items of a list that are in none of the eviction units
abbrev pub not_out : List Group → List Item → List Item
not_out groups items = filter (λ item. not (is_out groups item)) items

-- the state once some eviction units are evicted
unfoldable pub without : List Group → State → State
without [] state = state
without (group ∷ groups) state = record state { objects = map (option_and_then (left_of (group ∷ groups))) state.objects; uses = not_out (group ∷ groups) state.uses }

-- those done and the shortest prefix of the eviction units after which there is enough, or all eviction units where there never is
abbrev pub shortest : (List Group → Bool) → List Group → List Group → List Group
shortest enough done [] = done
shortest enough done (group ∷ groups) = if enough done then done else shortest enough (done ++ group ∷ []) groups

-- the eviction units that are evicted from the back of the LRU list until there is enough
unfoldable pub evicted_until : (State → Bool) → State → List Item → List Group
evicted_until enough state covered = shortest (λ groups. enough (without groups state)) [] (groups_from_back (is_pinned state covered) (reverse state.uses))

-- whether so many more bytes and items fit below this many bytes and the limit of items
abbrev pub fits : ℕ → ℕ → ℕ → State → Bool
fits most bytes more state = nat_le (total state + bytes) most && nat_le (items state + more) state.limits.max_items

-- the capacity for so many bytes and items: none, or what is evicted for it
pub data Room : Type 0 where
  full : Room
  after : List Group → Room

-- the capacity for more bytes and items: nothing is evicted where nothing is added or all fits; there is none where what is pinned and what is added exceed a
-- limit; else items are evicted down to the low watermark
unfoldable pub room : State → List Item → ℕ → ℕ → Room
room state covered bytes more =
    if bytes == 0 && more == 0 then after []
    else if nat_lt state.limits.max_bytes (total_of (pinned state covered) + bytes) || nat_lt state.limits.max_items (count_of (pinned state covered) + more) then full
    else if fits state.limits.max_bytes bytes more state then after []
    else after (evicted_until (fits (low state) bytes more) state covered)
