-- What is sought among the kept records: in memory and in an image.
use Rattle.std.proofs.Common.{◌≡◌, ℕ, Bool, true, false, ◌&&◌, if◌then◌else◌, List, length, refl, sym, ◌∙◌, ap, subst}
use Rattle.std.specs.Prelude.{◌==◌, not, slice_index}
use Rattle.std.specs.Int.{cast_unsigned, w64}
use Rattle.std.specs.List.{list_any}
use Rattle.std.specs.Str.{bytes_eq}
use Rattle.std.proofs.lemmas.Bool.{eqb-true, eq-eqb}
use Rattle.spec_image.specs.Image.{Image}
use Rattle.spec_format.specs.Hash.{hash as hash_of}
use Rattle.spec_format.specs.Names.{Name}
use Rattle.spec_format.specs.SparseIndex.{ParentIndex}
use Rattle.blk_addr.proofs.ClaimLemmas.{list_any-same}
use Rattle.blk_model.proofs.Same.{bytes_eq_self, same_bytes}
use Rattle.spec_folder.specs.Audit.{is_parent_role, same_answer, shares_key}
use Rattle.spec_folder.specs.Entries as entries
use Rattle.spec_folder.specs.Loads as shown
use Rattle.spec_folder.specs.Loads.{is_part, is_part_role}
use Rattle.blk_disk.specs.declared.tables.BlockFiles.{BlockFiles}
use Rattle.blk_entry.specs.Keys.{stores}
use Rattle.blk_ranges.specs.ParentMaps.{head_fields, head_signature}
use Rattle.blk_ranges.specs.declared.parent_map.ParentHead.{ParentHead}
use Rattle.blk_verdict.specs.Kept.{HasPartNumber, IsLoadedFrom, is_parent_said, is_part_said, is_role_sought, is_sought}
use Rattle.blk_verdict.specs.Readable.{HasReadableIndex}
use Rattle.blk_verdict.specs.Roles.{IsRole}
use Rattle.blk_verdict.specs.declared.fitting.Sought.{Sought}
use Rattle.blk_verdict.specs.declared.fitting.Sought.TheVariants.{Part as part, Whole as whole, ParentOf as parent_of}
use Rattle.blk_verdict.specs.declared.loading.Loaded.{Loaded}
use Rattle.blk_verdict.specs.declared.roles.Role.{Role}
use Rattle.blk_verdict.specs.declared.roles.Role.TheVariants.{Plain, Parent, Part}
use Rattle.blk_verdict.proofs.KeyOf.{bytes_differ}

-- Roles.

pub part_said : (key : List ℕ) (role : entries.Role) (said : Role) → IsRole key role said → is_part_role role ≡ is_part_said said
part_said key entries.IsPlain Plain is = refl
part_said key entries.IsPlain (Parent head) is = absurd is
part_said key entries.IsPlain (Part name) is = absurd is
part_said key (entries.IsParent index) Plain is = absurd is
part_said key (entries.IsParent index) (Parent head) is = refl
part_said key (entries.IsParent index) (Part name) is = absurd is
part_said key (entries.IsPart name index) Plain is = absurd is
part_said key (entries.IsPart name index) (Parent head) is = absurd is
part_said key (entries.IsPart name index) (Part said) is = refl

-- the generation of a parent
signature_is : (head : ParentHead) (index : ParentIndex) → head_fields head ≡ (index.signature, index.key_len) → head_signature head ≡ index.signature
signature_is head index e = ap (λ (p : ℕ × ℕ). p.0) e

and_false : (a : Bool) → (a && false) ≡ false
and_false true = refl
and_false false = refl

no_parent_said : (name : Name) (key : List ℕ) (role : entries.Role) (said : Role) → IsRole key role said → is_parent_said name.signature said ≡ false → is_parent_role name key role ≡ false
no_parent_said name key entries.IsPlain said is none = refl
no_parent_said name key (entries.IsParent index) Plain is none = absurd is
no_parent_said name key (entries.IsParent index) (Parent head) is none =
    let other : (index.signature == name.signature) ≡ false = ap (λ (n : ℕ). n == name.signature) (sym (signature_is head index is)) ∙ none in
    rw other (by_key (bytes_eq key name.key))
  where
    by_key : (a : Bool) → ((a && false) && index.has_part name.part) ≡ false
    by_key true = refl
    by_key false = refl
no_parent_said name key (entries.IsParent index) (Part said) is none = absurd is
no_parent_said name key (entries.IsPart other index) said is none = refl

-- a record of another role isn't sought
pub other_role : (image : Image) (sought : Sought) (key : List ℕ) (loaded : shown.Loaded) (said : Loaded) → IsLoadedFrom image loaded said → is_role_sought sought said.role ≡ false → is_sought sought key loaded ≡ false
other_role image part key loaded said is none = let p : is_part loaded ≡ false = part_said loaded.key loaded.role said.role is.is.role ∙ none in rw p refl
other_role image whole key loaded said is none =
    let p : not (is_part loaded) ≡ false = ap not (part_said loaded.key loaded.role said.role is.is.role) ∙ none in rw p refl
other_role image (parent_of name) key loaded said is none = no_parent_said (record { key = key; signature = cast_unsigned w64 name.signature; part = name.part }) loaded.key loaded.role said.role is.is.role none

-- a record with another key isn't sought
pub other_key : (sought : Sought) (key : List ℕ) (loaded : shown.Loaded) → bytes_eq loaded.key key ≡ false → is_sought sought key loaded ≡ false
other_key part key loaded none = rw none (and_false (is_part loaded))
other_key whole key loaded none = rw none (and_false (not (is_part loaded)))
other_key (parent_of name) key loaded none = by_role loaded.role
  where
    by_role : (role : entries.Role) → is_parent_role (record { key = key; signature = cast_unsigned w64 name.signature; part = name.part }) loaded.key role ≡ false
    by_role entries.IsPlain = refl
    by_role (entries.IsParent index) = rw none refl
    by_role (entries.IsPart other index) = refl

pub other_hash : (sought : Sought) (key : List ℕ) (loaded : shown.Loaded) (hash : ℕ) → hash ≡ hash_of key → (hash_of loaded.key ≡ hash → ⊥) → is_sought sought key loaded ≡ false
other_hash sought key loaded hash is other = by_test (bytes_eq loaded.key key) refl
  where
    by_test : (t : Bool) → bytes_eq loaded.key key ≡ t → is_sought sought key loaded ≡ false
    by_test true e = absurd (other (ap hash_of (same_bytes loaded.key key e) ∙ sym is))
    by_test false e = other_key sought key loaded e

pub other_length : (sought : Sought) (key : List ℕ) (loaded : shown.Loaded) → (length loaded.key ≡ length key → ⊥) → is_sought sought key loaded ≡ false
other_length sought key loaded other = other_key sought key loaded (bytes_differ loaded.key key other)

-- a record with another hash isn't, and so none is where it isn't with this one
pub none_by_hash : (image : Image) (sought : Sought) (key : List ℕ) (hash : ℕ) (loaded : shown.Loaded) (said : Loaded) → hash ≡ hash_of key → IsLoadedFrom image loaded said → (said.hash ≡ hash → is_sought sought key loaded ≡ false) → is_sought sought key loaded ≡ false
none_by_hash image sought key hash loaded said is known same = by_test (said.hash == hash) refl
  where
    clash : true ≡ false → ⊥
    clash c = cc

    by_test : (t : Bool) → (said.hash == hash) ≡ t → is_sought sought key loaded ≡ false
    by_test true e = same (eqb-true _ _ e)
    by_test false e = other_hash sought key loaded hash is (λ h. clash (sym (eq-eqb _ _ (known.is.hash ∙ h)) ∙ e))

-- a record with another hash or another length of its key isn't sought
pub none_alike : (image : Image) (sought : Sought) (given loaded : shown.Loaded) (said one : Loaded) → IsLoadedFrom image given said → IsLoadedFrom image loaded one → (one.hash ≡ said.hash → one.key_len ≡ said.key_len → is_role_sought sought one.role ≡ false) → is_sought sought given.key loaded ≡ false
none_alike image sought given loaded said one known is none = none_by_hash image sought given.key said.hash loaded one known.is.hash is by_length
  where
    clash : true ≡ false → ⊥
    clash c = cc

    by_length : one.hash ≡ said.hash → is_sought sought given.key loaded ≡ false
    by_length hash = by_test (one.key_len == said.key_len) refl
      where
        by_test : (t : Bool) → (one.key_len == said.key_len) ≡ t → is_sought sought given.key loaded ≡ false
        by_test true e = other_role image sought given.key loaded one is (none hash (eqb-true _ _ e))
        by_test false e = other_length sought given.key loaded (λ l. clash (sym (eq-eqb _ _ (is.is.key_len ∙ l ∙ sym known.is.key_len)) ∙ e))

-- The bit of a part.

-- the index of a parent that is sought is stored
pub index_stored : (files : BlockFiles) (sizes addrs : List ℕ) (signature : ℕ) (role : Role) → is_parent_said signature role ≡ true → HasReadableIndex files sizes addrs role → stores files 8256 (slice_index addrs 2) ≡ true
index_stored files sizes addrs signature Plain is has = absurd (clash is)
  where
    clash : false ≡ true → ⊥
    clash c = cc
index_stored files sizes addrs signature (Parent head) is has = has.1
index_stored files sizes addrs signature (Part name) is has = absurd (clash is)
  where
    clash : false ≡ true → ⊥
    clash c = cc

-- a part, or a record that is none, has nothing but its key to be compared
pub part_found : (image : Image) (key : List ℕ) (loaded : shown.Loaded) (said : Loaded) → IsLoadedFrom image loaded said → loaded.key ≡ key → is_role_sought part said.role ≡ true → is_sought part key loaded ≡ true
part_found image key loaded said is same holds =
    let p : is_part loaded ≡ true = part_said loaded.key loaded.role said.role is.is.role ∙ holds in
    let k : bytes_eq loaded.key key ≡ true = ap (bytes_eq loaded.key) (sym same) ∙ bytes_eq_self loaded.key in
    rw (p, k) refl

pub whole_found : (image : Image) (key : List ℕ) (loaded : shown.Loaded) (said : Loaded) → IsLoadedFrom image loaded said → loaded.key ≡ key → is_role_sought whole said.role ≡ true → is_sought whole key loaded ≡ true
whole_found image key loaded said is same holds =
    let p : not (is_part loaded) ≡ true = ap not (part_said loaded.key loaded.role said.role is.is.role) ∙ holds in
    let k : bytes_eq loaded.key key ≡ true = ap (bytes_eq loaded.key) (sym same) ∙ bytes_eq_self loaded.key in
    rw (p, k) refl

-- a parent has the bit that its index has
pub parent_found : (name : Name) (key : List ℕ) (role : entries.Role) (said : Role) → IsRole key role said → key ≡ name.key → is_parent_said name.signature said ≡ true → (index : ParentIndex) × (role ≡ entries.IsParent index) × (is_parent_role name key role ≡ index.has_part name.part)
parent_found name key entries.IsPlain Plain is same holds = absurd (clash holds)
  where
    clash : false ≡ true → ⊥
    clash c = cc
parent_found name key entries.IsPlain (Parent head) is same holds = absurd is
parent_found name key entries.IsPlain (Part said) is same holds = absurd is
parent_found name key (entries.IsParent index) Plain is same holds = absurd is
parent_found name key (entries.IsParent index) (Parent head) is same holds =
    let k : bytes_eq key name.key ≡ true = ap (bytes_eq key) (sym same) ∙ bytes_eq_self key in
    let s : (index.signature == name.signature) ≡ true = ap (λ (n : ℕ). n == name.signature) (sym (signature_is head index is)) ∙ holds in
    (index, refl, rw (k, s) refl)
parent_found name key (entries.IsParent index) (Part said) is same holds = absurd is
parent_found name key (entries.IsPart other index) Plain is same holds = absurd is
parent_found name key (entries.IsPart other index) (Parent head) is same holds = absurd is
parent_found name key (entries.IsPart other index) (Part said) is same holds = absurd (clash holds)
  where
    clash : false ≡ true → ⊥
    clash c = cc

-- The same key.

-- a record with the same child flag is sought
pub alike_is : (key : List ℕ) (role : entries.Role) (said : Role) (sought : Sought) → IsRole key role said → sought ≡ (if is_part_said said then part else whole) → sought ≡ (if is_part_role role then part else whole)
alike_is key role said sought is e = e ∙ ap (λ (t : Bool). if t then part else whole) (sym (part_said key role said is))

pub alike_number : (t : Bool) (sought : Sought) → sought ≡ (if t then part else whole) → HasPartNumber sought
alike_number true sought e = subst HasPartNumber (sym e) tt
alike_number false sought e = subst HasPartNumber (sym e) tt

pub shares_by : (kept : List shown.Loaded) (loaded : shown.Loaded) → shares_key kept loaded ≡ list_any (is_sought (if is_part loaded then part else whole) loaded.key) kept
unfolding shares_key
shares_by kept loaded = by_part (is_part loaded)
  where
    and_part : (a b : Bool) → ((if a then true else false) && b) ≡ (a && b)
    and_part true b = refl
    and_part false b = refl

    by_part : (t : Bool) → list_any (λ k. same_answer (is_part k) t && bytes_eq k.key loaded.key) kept ≡ list_any (is_sought (if t then part else whole) loaded.key) kept
    by_part true = list_any-same (λ k. same_answer (is_part k) true && bytes_eq k.key loaded.key) (is_sought part loaded.key) (λ k. and_part (is_part k) (bytes_eq k.key loaded.key)) kept
    by_part false = list_any-same (λ k. same_answer (is_part k) false && bytes_eq k.key loaded.key) (is_sought whole loaded.key) (λ k. not_part (is_part k) (bytes_eq k.key loaded.key)) kept
      where
        not_part : (a b : Bool) → ((if a then false else true) && b) ≡ (not a && b)
        not_part true b = refl
        not_part false b = refl
