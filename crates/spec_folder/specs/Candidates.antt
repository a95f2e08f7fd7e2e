-- Nodes that may be kept, and when two views agree on what one names: what a change has to leave alone so that the same is found.
use Rattle.std.specs.Prelude.{◌≡◌, ℕ, List, Bool, true, false, not, ◌&&◌, ◌||◌, ◌==◌, if◌then◌else◌, is_some, IfSome}
use Rattle.std.specs.Option.{option_map_or, option_and_then}
use Rattle.std.specs.List.{list_any, filter}
use Rattle.std.specs.Str.{bytes_eq}
use Rattle.std.specs.declared.option.Option.{Option}
use Rattle.std.specs.declared.option.Option.TheVariants.{None, Some}
use Rattle.spec_format.specs.Records.{parent}
use Rattle.spec_format.specs.Names.{Name, read_name}
use Rattle.spec_format.specs.BlockFiles.{is_among}
use Rattle.spec_folder.specs.Walk.{walk}
use Rattle.spec_folder.specs.View.{View, StoreView, RecordFields}
use Rattle.spec_folder.specs.Chains.{chain, bucket_of_hash}
use Rattle.spec_folder.specs.Entries.{Role, IsPlain, IsParent, IsPart, is_key_length, stored_key, stored_streams, role_of}
use Rattle.spec_folder.specs.Audit.{is_child}

-- a node is there, and its dirty flag is 0
abbrev pub is_clean : StoreView → ℕ → Bool
is_clean store node = option_map_or (λ node_fields. node_fields.dirty == 0) (store.node_fields node) false

-- the key of a record whose checksum, key length and key place are right, None for another record
abbrev pub sound_key : StoreView → ℕ → RecordFields → Option (List ℕ)
sound_key store contents fields = if fields.checks && is_key_length contents fields then stored_key store contents fields else None

-- the name of a part that a node's record has as its key, None where checksum, key length or key place are wrong or the key is no such name
unfoldable pub name_at : StoreView → ℕ → Option Name
name_at store node =
    option_and_then (λ node_fields. option_and_then (λ fields. option_and_then read_name (sound_key store node_fields.contents fields)) (store.entry node_fields.contents)) (store.node_fields node)

-- a role is a parent's of a generation
abbrev pub has_signature : ℕ → Role → Bool
has_signature signature IsPlain = false
has_signature signature (IsParent index) = index.signature == signature
has_signature signature (IsPart name index) = false

-- a record has the flag of a parent, the key and the generation of a part's name, and a right checksum, key length, key place, streams and index
abbrev pub is_parent_with : StoreView → Name → ℕ → RecordFields → Bool
is_parent_with store name contents fields =
    (fields.flags == parent)
    && option_map_or (λ key. bytes_eq key name.key && option_map_or (λ streams. option_map_or (has_signature name.signature) (role_of fields key streams) false) (stored_streams store fields) false) (sound_key store contents fields) false

-- a clean node names a record that is the parent of a part's name: with its key and generation, and otherwise right (`is_parent_with`)
unfoldable pub is_parent_at : StoreView → Name → ℕ → Bool
is_parent_at store name node =
    is_clean store node && option_map_or (λ node_fields. option_map_or (is_parent_with store name node_fields.contents) (store.entry node_fields.contents) false) (store.node_fields node) false

-- a node that may be kept: it is clean and, where its record is a part, some walked node is the parent that the part's name says
unfoldable pub is_candidate : StoreView → List ℕ → ℕ → Bool
is_candidate store walked node =
    is_clean store node && (not (is_child store node) || option_map_or (λ name. list_any (is_parent_at store name) walked) (name_at store node) false)

-- the walked nodes of a view that may be kept, in the order of the walk
abbrev pub candidates : View → List ℕ
candidates view = filter (is_candidate view.store (walk view.list)) (walk view.list)

-- When two store views agree.

-- two store views agree on a record's key, where its length is right, on whether its chain reaches it, and on its streams
pub record SameData (old new : StoreView) (contents : ℕ) (fields : RecordFields) : Type 0 where
  pub key : is_key_length contents fields ≡ true → stored_key old contents fields ≡ stored_key new contents fields
  pub chained : is_among (chain old (bucket_of_hash fields.hash)).reached contents ≡ is_among (chain new (bucket_of_hash fields.hash)).reached contents
  pub streams : stored_streams old fields ≡ stored_streams new fields

-- the fields of a record whose checksum is 0 or right, None for another record
abbrev pub checked_fields : Option RecordFields → Option RecordFields
checked_fields None = None
checked_fields (Some fields) = if fields.checks then Some fields else None

-- two store views agree on a record: it is there in both or in neither, its checksum is 0 or right in both or in neither, and where it is, the fields but next
-- and checksum, and the data, are the same
pub record SameRecord (old new : StoreView) (contents : ℕ) : Type 0 where
  pub there : is_some (old.entry contents) ≡ is_some (new.entry contents)
  pub checked : checked_fields (old.entry contents) ≡ checked_fields (new.entry contents)
  pub data_same : (fields : RecordFields) → old.entry contents ≡ Some fields → fields.checks ≡ true → SameData old new contents fields

-- two store views agree on a node's contents and dirty flags, and on the record that it names
pub record SameNamed (old new : StoreView) (node : ℕ) : Type 0 where
  pub node_fields : old.node_fields node ≡ new.node_fields node
  pub record_same : IfSome (old.node_fields node) (λ said. SameRecord old new said.contents)
