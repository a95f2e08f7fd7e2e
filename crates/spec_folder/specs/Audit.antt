-- Which walked nodes are kept, and why the others are dropped.
use Rattle.std.specs.Prelude.{ℕ, List, [], ◌∷◌, ◌++◌, map, Bool, false, not, ◌&&◌, ◌||◌, ◌==◌, if◌then◌else◌, is_some}
use Rattle.std.specs.Option.{option_map_or}
use Rattle.std.specs.List.{list_any, filter, filter_map, flat_map, range_with_len}
use Rattle.std.specs.Str.{bytes_eq}
use Rattle.std.specs.declared.option.Option.{Option}
use Rattle.std.specs.declared.option.Option.TheVariants.{None, Some}
use Rattle.std.specs.declared.result.Result.{Result}
use Rattle.std.specs.declared.result.Result.TheVariants.{Ok, Err}
use Rattle.spec_format.specs.Records.{child}
use Rattle.spec_format.specs.Names.{Name}
use Rattle.spec_format.specs.Claims.{overlap, repeats}
use Rattle.spec_format.specs.Headers.{table_length}
use Rattle.spec_format.specs.BlockFiles.{is_among}
use Rattle.spec_folder.specs.Walk.{walk}
use Rattle.spec_folder.specs.View.{View, StoreView}
use Rattle.spec_folder.specs.Chains.{chain}
use Rattle.spec_folder.specs.Entries.{Role, IsPlain, IsParent, IsPart}
use Rattle.spec_folder.specs.Reasons.{Reason, ◌>>=◌, demand}
use Rattle.spec_folder.specs.Reasons as reason
use Rattle.spec_folder.specs.Loads.{Rule, Loaded, load, is_part, record_claims, all_claims, claims_of_loaded}

-- The reasons 13 to 15, against those that are kept so far.

-- a record shares a block or an external number with what is kept, or uses one twice
abbrev pub collides : List Loaded → Loaded → Bool
collides kept loaded = repeats (record_claims loaded) || overlap (claims_of_loaded kept) (all_claims loaded)

-- whether two booleans are equal
abbrev pub same_answer : Bool → Bool → Bool
same_answer one other = if one then other else not other

-- a kept record has this one's key, and both are parts or neither is
unfoldable pub shares_key : List Loaded → Loaded → Bool
shares_key kept loaded = list_any (λ k. same_answer (is_part k) (is_part loaded) && bytes_eq k.key loaded.key) kept

-- a key and a role are those of the parent of a part with this name: the name's key, and an index with the name's generation and the part's bit set
abbrev pub is_parent_role : Name → List ℕ → Role → Bool
is_parent_role name key IsPlain = false
is_parent_role name key (IsParent index) = bytes_eq key name.key && (index.signature == name.signature) && index.has_part name.part
is_parent_role name key (IsPart other index) = false

-- a kept record is the parent of a part with this name
abbrev pub is_parent_of : Name → Loaded → Bool
is_parent_of name loaded = is_parent_role name loaded.key loaded.role

-- a role is a part's, and no kept record is its parent
abbrev pub is_orphan_role : List Loaded → Role → Bool
is_orphan_role kept IsPlain = false
is_orphan_role kept (IsParent index) = false
is_orphan_role kept (IsPart name index) = not (list_any (is_parent_of name) kept)

-- a record is a part whose parent isn't kept
unfoldable pub is_orphan : List Loaded → Loaded → Bool
is_orphan kept loaded = is_orphan_role kept loaded.role

-- a record, or the first of the reasons 13 to 15 that holds of it, given the records kept so far
unfoldable pub admit : List Loaded → Loaded → Result Loaded Reason
admit kept loaded = do
  _ ← demand (not (collides kept loaded)) reason.Claimed
  _ ← demand (not (shares_key kept loaded)) reason.Name
  _ ← demand (not (is_orphan kept loaded)) reason.Parent
  Ok loaded

-- The two passes.

-- the verdict on a node, given the records kept so far: what it is kept as, or the first reason for which it is dropped
abbrev pub verdict : StoreView → Rule → List Loaded → ℕ → Result Loaded Reason
verdict store rule kept node = load store rule node >>= admit kept

-- the records kept so far, with one more at the end where the verdict keeps it
abbrev pub with_verdict : List Loaded → Result Loaded Reason → List Loaded
with_verdict kept (Ok loaded) = kept ++ loaded ∷ []
with_verdict kept (Err reason) = kept

-- the verdicts on nodes that are tried in order, each with its node, given the records kept before them
unfoldable pub verdicts : StoreView → Rule → List Loaded → List ℕ → List (ℕ × Result Loaded Reason)
verdicts store rule kept [] = []
verdicts store rule kept (node ∷ nodes) =
    let given = verdict store rule kept node in
    (node, given) ∷ verdicts store rule (with_verdict kept given) nodes

-- whether a node names a record with a part's flag, whose checksum is right or absent
abbrev pub is_child : StoreView → ℕ → Bool
is_child store node =
    option_map_or (λ node_fields. option_map_or (λ fields. fields.checks && (fields.flags == child)) (store.entry node_fields.contents) false) (store.node_fields node) false

-- the nodes in the order of the two passes: first those whose record isn't a part, then those of parts
abbrev pub tried : StoreView → List ℕ → List ℕ
tried store nodes = filter (λ node. not (is_child store node)) nodes ++ filter (is_child store) nodes

-- the verdicts on the nodes of a walk, in the order in which they are tried
abbrev pub judged : StoreView → Rule → List ℕ → List (ℕ × Result Loaded Reason)
judged store rule nodes = verdicts store rule [] (tried store nodes)

-- the verdict on a node in a list of verdicts, None where it has none
abbrev pub verdict_on : List (ℕ × Result Loaded Reason) → ℕ → Option (Result Loaded Reason)
verdict_on [] node = None
verdict_on (given ∷ others) node = if given.0 == node then Some given.1 else verdict_on others node

-- the record that a verdict keeps, None where it keeps none
abbrev pub kept_of : Option (Result Loaded Reason) → Option Loaded
kept_of None = None
kept_of (Some (Ok loaded)) = Some loaded
kept_of (Some (Err reason)) = None

-- a node with the reason for which a verdict drops it, None where it isn't dropped
abbrev pub dropped_of : ℕ → Option (Result Loaded Reason) → Option (ℕ × Reason)
dropped_of node None = None
dropped_of node (Some (Ok loaded)) = None
dropped_of node (Some (Err reason)) = Some (node, reason)

-- the records that are kept of a walk's nodes, in the order of the walk
unfoldable pub kept_among : StoreView → Rule → List ℕ → List Loaded
kept_among store rule nodes = filter_map (λ node. kept_of (verdict_on (judged store rule nodes) node)) nodes

-- the nodes of a walk that are dropped, each with its reason, in the order of the walk
unfoldable pub dropped_among : StoreView → Rule → List ℕ → List (ℕ × Reason)
dropped_among store rule nodes = filter_map (λ node. dropped_of node (verdict_on (judged store rule nodes) node)) nodes

-- what a node of a walk is kept as, None where it isn't kept
abbrev pub kept_as : StoreView → Rule → List ℕ → ℕ → Option Loaded
kept_as store rule nodes node = kept_of (verdict_on (judged store rule nodes) node)

-- whether a node of a walk is kept
abbrev pub is_kept : StoreView → Rule → List ℕ → ℕ → Bool
is_kept store rule nodes node = is_some (kept_as store rule nodes node)

-- the nodes of a walk that are kept, in the order of the walk
abbrev pub kept_nodes : StoreView → Rule → List ℕ → List ℕ
kept_nodes store rule nodes = filter (is_kept store rule nodes) nodes

-- The whole consistency check.

-- the records that are kept of a view's walked nodes, in the order of the walk
abbrev pub kept_by : Rule → View → List Loaded
kept_by rule view = kept_among view.store rule (walk view.list)

-- the reason 16 holds of a record: its node isn't walked or doesn't name it
unfoldable pub is_unlisted : View → ℕ → Bool
is_unlisted view contents =
    option_map_or (λ fields. not (is_among (walk view.list) fields.rankings_node && option_map_or (λ node_fields. node_fields.contents == contents) (view.store.node_fields fields.rankings_node) false)) (view.store.entry contents) false

-- the unlisted records of a bucket's chain, in its order, each with the reason 16
abbrev pub unlisted_in : View → ℕ → List (ℕ × Reason)
unlisted_in view bucket = map (λ contents. (contents, reason.Unlisted)) (filter (is_unlisted view) (chain view.store bucket).reached)

-- the unlisted records of all chains, bucket after bucket, each with the reason 16
unfoldable pub unlisted : View → List (ℕ × Reason)
unlisted view = flat_map (unlisted_in view) (range_with_len 0 table_length)

-- the dropped of the walked nodes, in the order of the walk, and then the unlisted records
abbrev pub dropped_by : Rule → View → List (ℕ × Reason)
dropped_by rule view = dropped_among view.store rule (walk view.list) ++ unlisted view
