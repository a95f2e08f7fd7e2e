-- What a node names, or the first of the reasons 1 to 12 that holds for it.
use Rattle.std.specs.Prelude.{ℕ, List, ◌∷◌, ◌++◌, Bool, true, false, not, ◌||◌, nat_le, ◌==◌}
use Rattle.std.specs.Option.{ok_or}
use Rattle.std.specs.List.{flat_map}
use Rattle.std.specs.declared.result.Result.{Result}
use Rattle.std.specs.declared.result.Result.TheVariants.{Ok}
use Rattle.spec_format.specs.Hash.{hash}
use Rattle.spec_format.specs.Records as records
use Rattle.spec_format.specs.Claims.{Claim, claims_of, claims_of_all}
use Rattle.spec_format.specs.BlockFiles.{is_among}
use Rattle.spec_folder.specs.View.{StoreView, RecordFields}
use Rattle.spec_folder.specs.Chains.{chain, bucket_of_hash}
use Rattle.spec_folder.specs.Entries.{Role, IsPlain, IsParent, IsPart, is_key_length, stored_key, stored_streams, role_of}
use Rattle.spec_folder.specs.Reasons.{Reason, ◌>>=◌, demand}
use Rattle.spec_folder.specs.Reasons as reason

-- which state a record has to have, whether a dirty node is dropped, and whether the record has to be chained
pub record Rule : Type 0 where
  pub state : ℕ
  pub clean : Bool
  pub chained : Bool

-- the rule for what recovery keeps: a live state, clean, and chained
abbrev pub held_rule : Rule
held_rule = record { state = records.entry_normal; clean = true; chained = true }

-- the rule for what a folder lists, dirty or clean: a live state, and chained
abbrev pub listed_rule : Rule
listed_rule = record { state = records.entry_normal; clean = false; chained = true }

-- the rule for a record of this state by itself, with the dirty flag and the chain left out
abbrev pub unchained_rule : ℕ → Rule
unchained_rule state = record { state = state; clean = false; chained = false }

-- what is known of a node for which none of the first twelve reasons holds; `others` are the address words of its long key and streams
pub record Loaded : Type 0 where
  pub node : ℕ
  pub contents : ℕ
  pub dirty : ℕ
  pub key : List ℕ
  pub role : Role
  pub streams : List (List ℕ)
  pub others : List ℕ

-- the key of a record whose checksum is right or absent, or the first of the reasons 3 to 10 that holds of it
unfoldable pub load_key : StoreView → Rule → ℕ → ℕ → ℕ → RecordFields → Result (List ℕ) Reason
load_key store rule node contents dirty fields = do
  _ ← demand (fields.state == rule.state) reason.State
  _ ← demand (fields.rankings_node == node) reason.Back
  _ ← demand (nat_le fields.flags 2) reason.Flags
  _ ← demand (not rule.clean || (dirty == 0)) reason.Dirty
  _ ← demand (is_key_length contents fields) reason.KeyLength
  key ← ok_or (stored_key store contents fields) reason.KeyPlace
  _ ← demand (fields.hash == hash key) reason.Hash
  _ ← demand (not rule.chained || is_among (chain store (bucket_of_hash fields.hash)).reached contents) reason.Chain
  Ok key

-- what a record is, or the first of the reasons 3 to 12 that holds of it
unfoldable pub load_record : StoreView → Rule → ℕ → ℕ → ℕ → RecordFields → Result Loaded Reason
load_record store rule node contents dirty fields = do
  key ← load_key store rule node contents dirty fields
  streams ← ok_or (stored_streams store fields) reason.Streams
  role ← ok_or (role_of fields key streams) reason.Sparse
  Ok (record { node = node; contents = contents; dirty = dirty; key = key; role = role; streams = streams; others = fields.long_key ∷ fields.data_addr })

-- what a node names, or the first of the reasons 1 to 12 that holds of it
unfoldable pub load : StoreView → Rule → ℕ → Result Loaded Reason
load store rule node = do
  node_fields ← ok_or (store.node_fields node) reason.Contents
  fields ← ok_or (store.entry node_fields.contents) reason.Contents
  _ ← demand (fields.checks) reason.Seal
  load_record store rule node node_fields.contents node_fields.dirty fields

-- whether a role is a part's
abbrev pub is_part_role : Role → Bool
is_part_role IsPlain = false
is_part_role (IsParent index) = false
is_part_role (IsPart name index) = true

-- whether a record is a part's
abbrev pub is_part : Loaded → Bool
is_part loaded = is_part_role loaded.role

-- the used blocks and external numbers of a record, its long key and its streams
unfoldable pub record_claims : Loaded → List Claim
record_claims loaded = claims_of_all (loaded.contents ∷ loaded.others)

-- the used blocks and external numbers of a node and its record, long key and streams
unfoldable pub all_claims : Loaded → List Claim
all_claims loaded = claims_of loaded.node ++ record_claims loaded

-- the used blocks and external numbers of several nodes and their records
abbrev pub claims_of_loaded : List Loaded → List Claim
claims_of_loaded loaded = flat_map all_claims loaded
