-- A map from records to the slab keys of their objects, as a list in the order of the records' addresses.
use Rattle.std.specs.Prelude.{◌≡◌, ℕ, ◌<◌, ◌≤◌, ◌≢◌, List, [], ◌∷◌, length, if◌then◌else◌, ◌==◌, slice_index_or, Some, None, Option}
use Rattle.blk_handles.specs.declared.key_map.RecordKey.{RecordKey}

-- the slab key of this record, in the first item that has the record
abbrev pub key_for : List RecordKey → ℕ → Option ℕ
key_for [] entry = None
key_for (item ∷ rest) entry = if item.entry == entry then Some item.key else key_for rest entry

-- a default for an item beyond the end
abbrev pub nowhere : RecordKey
nowhere = record { entry = 0; key = 0 }

-- the record of item i
abbrev pub entry_numbered : List RecordKey → ℕ → ℕ
entry_numbered keys i = let item = slice_index_or keys i nowhere in item.entry

-- the addresses of the records rise, so none occurs twice
abbrev pub IsRising : List RecordKey → Type 0
IsRising keys = (i j : ℕ) → i < j → j < length keys → entry_numbered keys i < entry_numbered keys j

-- item i has this record
pub record IsAt (keys : List RecordKey) (entry i : ℕ) : Type 0 where
  pub in_range : i < length keys
  pub has_entry : entry_numbered keys i ≡ entry

-- i is the position where this record would be inserted: all records before are smaller, and all from i on greater
pub record IsGapFor (keys : List RecordKey) (entry i : ℕ) : Type 0 where
  pub in_range : i ≤ length keys
  pub smaller_before : (j : ℕ) → j < i → entry_numbered keys j < entry
  pub greater_after : (j : ℕ) → i ≤ j → j < length keys → entry < entry_numbered keys j

-- the new map has this slab key for the record, or None, and is unchanged for all others
pub record SetsOnly (old new : List RecordKey) (entry : ℕ) (key : Option ℕ) : Type 0 where
  pub this_entry : key_for new entry ≡ key
  pub other_entries : (other : ℕ) → other ≢ entry → key_for new other ≡ key_for old other
