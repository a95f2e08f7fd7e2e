-- The entries that are kept so far in a scan, and the search among them in which a further one is judged.
use Rattle.std.specs.Prelude.{ℕ, ◌≡◌, ◌<◌, List, [], ◌∷◌, ◌++◌, map, Bool, true, false, not, ◌&&◌, ◌==◌, All, slice_get}
use Rattle.std.specs.Int.{cast_unsigned, w64}
use Rattle.std.specs.List.{AllZip, filter, flat_map}
use Rattle.std.specs.Str.{bytes_eq}
use Rattle.std.specs.declared.option.Option.{Option}
use Rattle.std.specs.declared.option.Option.TheVariants.{None, Some}
use Rattle.std.specs.declared.result.Result.{Result}
use Rattle.std.specs.declared.result.Result.TheVariants.{Ok, Err}
use Rattle.spec_image.specs.Image.{Image}
use Rattle.blk_model.specs.Sizes.{part_count}
use Rattle.spec_format.specs.Address.{is_address}
use Rattle.blk_addr.specs.Claims.{IsClaimsOf}
use Rattle.blk_addr.specs.declared.claim_set.Claims.{Claims}
use Rattle.spec_folder.specs.Audit.{is_parent_role}
use Rattle.spec_folder.specs.Loads as shown
use Rattle.spec_folder.specs.Loads.{held_rule, is_part}
use Rattle.spec_folder.specs.Reasons as reasons
use Rattle.spec_folder.specs.View.{store_of}
use Rattle.blk_disk.specs.declared.tables.BlockFiles.{BlockFiles}
use Rattle.blk_ranges.specs.ParentMaps.{head_signature}
use Rattle.blk_verdict.specs.ByHash.{IsByHash}
use Rattle.blk_verdict.specs.Keyed.{HasItsKey}
use Rattle.blk_verdict.specs.Readable.{IsReadable}
use Rattle.blk_verdict.specs.Reasons.{reason_of}
use Rattle.blk_verdict.specs.Verdicts.{IsLoaded}
use Rattle.blk_verdict.specs.declared.kept.KeptSoFar.{KeptSoFar}
use Rattle.blk_verdict.specs.declared.loading.Loaded.{Loaded}
use Rattle.blk_verdict.specs.declared.reason.Reason.{Reason}
use Rattle.blk_verdict.specs.declared.roles.Role.{Role}
use Rattle.blk_verdict.specs.declared.roles.Role.TheVariants.{Plain, Parent, Part}
use Rattle.blk_verdict.specs.declared.fitting.Sought.{Sought}
use Rattle.blk_verdict.specs.declared.fitting.Sought.TheVariants as sought

-- Entries in memory and in an image.

-- an entry in memory is what some node of the image loads
pub record IsLoadedFrom (image : Image) (loaded : shown.Loaded) (said : Loaded) : Type 0 where
  pub node : ℕ
  pub loads : shown.load (store_of image) held_rule node ≡ Ok loaded
  pub is : IsLoaded loaded said

-- the entries in memory are those that nodes of the image load, in the same order
abbrev pub AreShown : Image → List shown.Loaded → List Loaded → Type 0
AreShown image kept said = AllZip (IsLoadedFrom image) kept said

-- the image has the key of each of the entries
abbrev pub HaveKeys : Image → List Loaded → Type 0
HaveKeys image said = All (HasItsKey image) said

-- What is kept so far.

-- the entries kept so far, in the order in which they were tried
abbrev pub records_kept : KeptSoFar → List Loaded
records_kept so_far = so_far.kept.items

-- the blocks and files that the kept entries use
abbrev pub claims_kept : KeptSoFar → Claims
claims_kept so_far = so_far.claims

-- the addresses that an entry owns: of its node, its record, its long key and its streams
abbrev pub addresses_of : Loaded → List ℕ
addresses_of said = filter is_address (said.node ∷ said.entry ∷ said.long_key ∷ said.addrs)

-- the addresses that these entries own
abbrev pub addresses_of_all : List Loaded → List ℕ
addresses_of_all said = flat_map addresses_of said

-- invariant of what is kept: its set of used blocks and files has what the kept entries own, and its index has their hashes
pub record IsIndexed (so_far : KeptSoFar) : Type 0 where
  pub claims : IsClaimsOf so_far.claims (addresses_of_all so_far.kept.items)
  pub by_hash : IsByHash so_far.by_hash (map (λ said. said.hash) so_far.kept.items)

-- the invariant of what is kept, and each kept entry can be read by the table of block files
pub record IsKeptInOrder (files : BlockFiles) (so_far : KeptSoFar) : Type 0 where
  pub readable : All (IsReadable files) so_far.kept.items
  pub indexed : IsIndexed so_far

-- the invariant of what is kept, with entries that can be read by any table (so of none)
abbrev pub IsAlwaysInOrder : KeptSoFar → Type 0
IsAlwaysInOrder so_far = (files : BlockFiles) → IsKeptInOrder files so_far

-- the kept entries after a verdict: with one more where there is no reason to drop it
abbrev pub kept_with : List Loaded → Loaded → Option Reason → List Loaded
kept_with kept said None = kept ++ said ∷ []
kept_with kept said (Some reason) = kept

-- one entry more is kept, at the end, where there is no reason to drop it, and otherwise none
abbrev pub KeepsAtMostOne : List Loaded → List Loaded → Option Reason → Type 0
KeepsAtMostOne old new None = (one : Loaded) × (new ≡ old ++ one ∷ [])
KeepsAtMostOne old new (Some reason) = new ≡ old

-- The search among the kept entries.

-- the role of an entry in memory is that of a part
abbrev pub is_part_said : Role → Bool
is_part_said Plain = false
is_part_said (Parent head) = false
is_part_said (Part name) = true

-- the role of an entry in memory is that of a parent of this generation
abbrev pub is_parent_said : ℕ → Role → Bool
is_parent_said signature Plain = false
is_parent_said signature (Parent head) = head_signature head == signature
is_parent_said signature (Part name) = false

-- an entry of this role may be the one that is sought
abbrev pub is_role_sought : Sought → Role → Bool
is_role_sought sought.Part role = is_part_said role
is_role_sought sought.Whole role = not (is_part_said role)
is_role_sought (sought.ParentOf name) role = is_parent_said (cast_unsigned w64 name.signature) role

-- none of the entries with this hash and this length of the key has a role that is sought
abbrev pub NoneMayBe : List Loaded → ℕ → ℕ → Sought → Type 0
NoneMayBe said hash key_len sought = (i : ℕ) (one : Loaded) → slice_get said i ≡ Some one → one.hash ≡ hash → one.key_len ≡ key_len → is_role_sought sought one.role ≡ false

-- if a parent is sought, its part has a number that parts may have
abbrev pub HasPartNumber : Sought → Type 0
HasPartNumber sought.Part = Unit {0}
HasPartNumber sought.Whole = Unit {0}
HasPartNumber (sought.ParentOf name) = name.part < part_count

-- the entry is the one that is sought for this key: a part, an entry that is no part, or a parent that has the bit of the part
abbrev pub is_sought : Sought → List ℕ → shown.Loaded → Bool
is_sought sought.Part key loaded = is_part loaded && bytes_eq loaded.key key
is_sought sought.Whole key loaded = not (is_part loaded) && bytes_eq loaded.key key
is_sought (sought.ParentOf name) key loaded = is_parent_role (record { key = key; signature = cast_unsigned w64 name.signature; part = name.part }) loaded.key loaded.role

-- The answer.

-- the answer in memory is that of the model: the entry is kept, or dropped for the same reason
abbrev pub IsSameAnswer : Result shown.Loaded reasons.Reason → Option Reason → Type 0
IsSameAnswer (Ok loaded) None = Unit {0}
IsSameAnswer (Ok loaded) (Some reason) = ⊥
IsSameAnswer (Err reason) None = ⊥
IsSameAnswer (Err reason) (Some given) = reason_of given ≡ reason
