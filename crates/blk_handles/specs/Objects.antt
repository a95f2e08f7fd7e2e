-- The open objects in a slab, each under a slab key, no two of them with the same record.
use Rattle.std.specs.Prelude.{◌≡◌, ◌≢◌, ℕ, List, length, Some}
use Rattle.slab.specs.Slab.{Slab, get, slab_len}
use Rattle.blk_handles.specs.declared.open_object.OpenObject.{OpenObject}
use Rattle.blk_handles.specs.declared.key_map.RecordKey.{RecordKey}
use Rattle.blk_handles.specs.KeyMap.{key_for}

-- the slab has the object with this record under this slab key
pub record IsObjectOf (objects : Slab OpenObject) (entry key : ℕ) : Type 0 where
  pub object : OpenObject
  pub here : get objects key ≡ Some object
  pub has_entry : object.entry ≡ entry

-- the slab has no object with this record
abbrev pub IsClosed : Slab OpenObject → ℕ → Type 0
IsClosed objects entry = (key : ℕ) (object : OpenObject) → get objects key ≡ Some object → object.entry ≢ entry

-- no two objects of the slab have the same record
abbrev pub AreDistinct : Slab OpenObject → Type 0
AreDistinct objects = (j k : ℕ) (a b : OpenObject) → get objects j ≡ Some a → get objects k ≡ Some b → a.entry ≡ b.entry → j ≡ k

-- the map has for each record of an object in the slab its slab key, and nothing else
pub record IsIndexOf (keys : List RecordKey) (objects : Slab OpenObject) : Type 0 where
  pub stored : (entry key : ℕ) → key_for keys entry ≡ Some key → IsObjectOf objects entry key
  pub found : (key : ℕ) (object : OpenObject) → get objects key ≡ Some object → key_for keys object.entry ≡ Some key
  pub count : length keys ≡ slab_len objects
