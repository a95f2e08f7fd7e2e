-- What a record is once one of its streams is written: the same as before.
use Rattle.std.proofs.Common.{◌≡◌, ℕ, zero, suc, ◌<◌, List, [], ap, sym, ◌∙◌, subst, Bool, true, false, Option, Some, None, arith, refl}
use Rattle.std.specs.Prelude.{not, ◌&&◌, ◌==◌, length, nat_lt, if◌then◌else◌}
use Rattle.std.specs.Option.{option_and_then}
use Rattle.std.proofs.lemmas.Option.{option_and_then_some, cond_some}
use Rattle.blk_model.specs.Effects.{stream_in, streams_with}
use Rattle.blk_model.specs.Items.{Row, Shape, Streams, is_sparse, main_row, part_row, plain}
use Rattle.spec_format.specs.Names.{Name, read_name}
use Rattle.spec_format.specs.SparseIndex.{ParentIndex, PartIndex, read_parent_index, read_part_index}
use Rattle.spec_folder.specs.Entries.{IsParent, IsPart, IsPlain, Role, is_covered, parent_role, part_role, role_of, stream}
use Rattle.spec_folder.specs.Found.{row_with}
use Rattle.spec_folder.specs.View.{RecordFields}
use Rattle.blk_stream.specs.Loading.{stored_streams_with}

-- ---- what its row says

abbrev pub key-in : Row → List ℕ
key-in (main_row key shape streams) = key
key-in (part_row key n value) = key

abbrev shape-in : Row → Shape
shape-in (main_row key shape streams) = shape
shape-in (part_row key n value) = plain

abbrev streams-in : Row → Streams
streams-in (main_row key shape streams) = streams
streams-in (part_row key n value) = ([], [], [])

abbrev is-main : Row → Bool
is-main (main_row key shape streams) = true
is-main (part_row key n value) = false

no : true ≡ false → ⊥
no e = cc

-- the streams of a row, with one of them written
module _ (key k : List ℕ) (shape : Shape) (os : Streams) (streams : List (List ℕ)) (bytes : List ℕ) where
  plain-written : (i : ℕ) → i < 3 → row_with key IsPlain streams ≡ main_row k shape os → row_with key IsPlain (stored_streams_with i bytes streams) ≡ main_row k shape (streams_with os i bytes)
  unfolding stored_streams_with
  plain-written zero less e = ap (λ (r : Row). main_row (key-in r) (shape-in r) (bytes, (streams-in r).1, (streams-in r).2)) e
  plain-written (suc zero) less e = ap (λ (r : Row). main_row (key-in r) (shape-in r) ((streams-in r).0, bytes, (streams-in r).2)) e
  plain-written (suc (suc zero)) less e = ap (λ (r : Row). main_row (key-in r) (shape-in r) ((streams-in r).0, (streams-in r).1, bytes)) e
  plain-written (suc (suc (suc n))) less e = absurd (omega (arith, less))

  pub row-written : (role : Role) (i : ℕ) → i < 3 → (is_sparse shape ≡ true → i ≡ 0) → row_with key role streams ≡ main_row k shape os → row_with key role (stored_streams_with i bytes streams) ≡ main_row k shape (streams_with os i bytes)
  unfolding stored_streams_with
  row-written IsPlain i less first e = plain-written i less e
  row-written (IsParent index) i less first e =
      let none : i ≡ 0 = first (ap (λ (r : Row). is_sparse (shape-in r)) (sym e)) in
      subst (λ (j : ℕ). row_with key (IsParent index) (stored_streams_with j bytes streams) ≡ main_row k shape (streams_with os j bytes)) (sym none)
      (ap (λ (r : Row). main_row (key-in r) (shape-in r) (bytes, (streams-in r).1, (streams-in r).2)) e)
  row-written (IsPart name index) i less first e = absurd (no (sym (ap is-main e)))

  -- the written one was that of the object
  pub stream-was : (role : Role) (i : ℕ) → i < 3 → (is_sparse shape ≡ true → i ≡ 0) → row_with key role streams ≡ main_row k shape os → stream_in os i ≡ stream i streams
  stream-was IsPlain zero less first e = ap (λ (r : Row). (streams-in r).0) (sym e)
  stream-was IsPlain (suc zero) less first e = ap (λ (r : Row). (streams-in r).1) (sym e)
  stream-was IsPlain (suc (suc zero)) less first e = ap (λ (r : Row). (streams-in r).2) (sym e)
  stream-was IsPlain (suc (suc (suc n))) less first e = absurd (omega (arith, less))
  stream-was (IsParent index) i less first e =
      let none : i ≡ 0 = first (ap (λ (r : Row). is_sparse (shape-in r)) (sym e)) in
      subst (λ (j : ℕ). stream_in os j ≡ stream j streams) (sym none) (ap (λ (r : Row). (streams-in r).0) (sym e))
  stream-was (IsPart name index) i less first e = absurd (no (sym (ap is-main e)))

-- ---- its role

-- of the words of a record only those of its streams differ
pub record IsStreamChange (e d : RecordFields) : Type 0 where
  pub checks : d.checks ≡ e.checks
  pub hash : d.hash ≡ e.hash
  pub rankings_node : d.rankings_node ≡ e.rankings_node
  pub state : d.state ≡ e.state
  pub key_len : d.key_len ≡ e.key_len
  pub long_key : d.long_key ≡ e.long_key
  pub flags : d.flags ≡ e.flags

-- a role is that of a parent, or of a part
pub record IsParentRole (role : Role) : Type 0 where
  pub index : ParentIndex
  pub is : role ≡ IsParent index

-- that of a part with what its key and its streams are
pub record IsPartRole (key : List ℕ) (streams : List (List ℕ)) (role : Role) : Type 0 where
  pub name : Name
  pub index : PartIndex
  pub is : role ≡ IsPart name index
  pub named : read_name key ≡ Some name
  pub indexed : read_part_index (stream 2 streams) ≡ Some index
  pub empty : (length (stream 0 streams) == 0) ≡ true
  pub fits : nat_lt 1048576 (length (stream 1 streams)) ≡ false
  pub agrees : ((index.signature == name.signature) && (index.key_len == length name.key) && is_covered index (length (stream 1 streams))) ≡ true

pub parent-of : (e : RecordFields) (ss : List (List ℕ)) (role : Role) → parent_role e ss ≡ Some role → IsParentRole role
unfolding parent_role
parent-of e ss role ok = go (not (length (stream 1 ss) == 0)) ok where
  go : (t : Bool) → (if t then None else option_and_then (λ (index : ParentIndex). if index.key_len == e.key_len then Some (IsParent index) else None) (read_parent_index (stream 2 ss))) ≡ Some role → IsParentRole role
  go true h = cc
  go false h = option_and_then_some (λ (index : ParentIndex). if index.key_len == e.key_len then Some (IsParent index) else None) (read_parent_index (stream 2 ss)) role h (λ index is done. record { index = index; is = sym (cond_some _ (IsParent index) role done).1 })

pub part-of : (key : List ℕ) (ss : List (List ℕ)) (role : Role) → part_role key ss ≡ Some role → IsPartRole key ss role
unfolding part_role
part-of key ss role ok = go (length (stream 0 ss) == 0) refl (nat_lt 1048576 (length (stream 1 ss))) refl ok where
  go : (t : Bool) → (length (stream 0 ss) == 0) ≡ t → (u : Bool) → nat_lt 1048576 (length (stream 1 ss)) ≡ u → (if not t then None else if u then None else option_and_then (λ (name : Name). option_and_then (λ (index : PartIndex). if (index.signature == name.signature) && (index.key_len == length name.key) && is_covered index (length (stream 1 ss)) then Some (IsPart name index) else None) (read_part_index (stream 2 ss))) (read_name key)) ≡ Some role → IsPartRole key ss role
  go false e u f h = cc
  go true e true f h = cc
  go true e false f h = option_and_then_some (λ (name : Name). option_and_then (λ (index : PartIndex). if (index.signature == name.signature) && (index.key_len == length name.key) && is_covered index (length (stream 1 ss)) then Some (IsPart name index) else None) (read_part_index (stream 2 ss))) (read_name key) role h (λ name named then_index.
      option_and_then_some (λ (index : PartIndex). if (index.signature == name.signature) && (index.key_len == length name.key) && is_covered index (length (stream 1 ss)) then Some (IsPart name index) else None) (read_part_index (stream 2 ss)) role then_index (λ index is done.
      let d = cond_some _ (IsPart name index) role done in
      record { name = name; index = index; is = sym d.1; named = named; indexed = is; empty = e; fits = f; agrees = d.0 }))

-- and what they are makes it so
pub part-from : (key : List ℕ) (ss : List (List ℕ)) (role : Role) (p : IsPartRole key ss role) → part_role key ss ≡ Some role
unfolding part_role
part-from key ss role p = rw (p.empty, p.fits, p.named, p.indexed, p.agrees) (ap Some (sym p.is))

-- the role of a record that is a part's is that of its key and its streams
pub role-part-of : (e : RecordFields) (key : List ℕ) (ss : List (List ℕ)) (name : Name) (index : PartIndex) → role_of e key ss ≡ Some (IsPart name index) → part_role key ss ≡ Some (IsPart name index)
unfolding role_of
role-part-of e key ss name index is = go (e.flags == 1) (e.flags == 2) is where
  go : (a b : Bool) → (if a then parent_role e ss else if b then part_role key ss else Some IsPlain) ≡ Some (IsPart name index) → part_role key ss ≡ Some (IsPart name index)
  go true b h = let p = parent-of e ss (IsPart name index) h in let c : IsPart name index ≡ IsParent p.index = p.is in absurd (cc)
  go false true h = h
  go false false h = let c : ◌≡◌ {A = Option Role} (Some IsPlain) (Some (IsPart name index)) = h in absurd (cc)

parent-still : (e d : RecordFields) (bytes : List ℕ) (streams : List (List ℕ)) → d.key_len ≡ e.key_len → parent_role d (stored_streams_with 0 bytes streams) ≡ parent_role e streams
unfolding parent_role stored_streams_with
parent-still e d bytes streams len =
    ap (λ (n : ℕ). if not (length (stream 1 streams) == 0) then None else option_and_then (λ (index : ParentIndex). if index.key_len == n then Some (IsParent index) else None) (read_parent_index (stream 2 streams))) len

-- a record that is no part's keeps its role, where of a parent the first stream is written
pub role-written : (e d : RecordFields) (c : IsStreamChange e d) (key k : List ℕ) (shape : Shape) (os : Streams) (role : Role) (i : ℕ) (bytes : List ℕ) (streams : List (List ℕ)) → (is_sparse shape ≡ true → i ≡ 0) → row_with key role streams ≡ main_row k shape os
    → role_of e key streams ≡ Some role → role_of d key (stored_streams_with i bytes streams) ≡ Some role
unfolding role_of
role-written e d c key k shape os role i bytes streams first row is = subst (λ (f : ℕ). (if f == 1 then parent_role d (stored_streams_with i bytes streams) else if f == 2 then part_role key (stored_streams_with i bytes streams) else Some IsPlain) ≡ Some role) (sym c.flags) (go (e.flags == 1) (e.flags == 2) is) where
  go : (a b : Bool) → (if a then parent_role e streams else if b then part_role key streams else Some IsPlain) ≡ Some role → (if a then parent_role d (stored_streams_with i bytes streams) else if b then part_role key (stored_streams_with i bytes streams) else Some IsPlain) ≡ Some role
  go true b h =
      let p = parent-of e streams role h in
      let none : i ≡ 0 = first (ap (λ (r : Row). is_sparse (shape-in r)) (sym row ∙ ap (λ (r : Role). row_with key r streams) p.is)) in
      subst (λ (j : ℕ). parent_role d (stored_streams_with j bytes streams) ≡ Some role) (sym none) (parent-still e d bytes streams c.key_len ∙ h)
  go false true h = let p = part-of key streams role h in absurd (no (ap is-main (sym row ∙ ap (λ (r : Role). row_with key r streams) p.is)))
  go false false h = h

-- and where it is a part's, it has the role that its key and other streams give
pub part-role-written : (e d : RecordFields) (c : IsStreamChange e d) (key : List ℕ) (streams after : List (List ℕ)) (name : Name) (index : PartIndex) (role : Role) → role_of e key streams ≡ Some (IsPart name index) → part_role key after ≡ Some role → role_of d key after ≡ Some role
unfolding role_of
part-role-written e d c key streams after name index role is then_is = subst (λ (f : ℕ). (if f == 1 then parent_role d after else if f == 2 then part_role key after else Some IsPlain) ≡ Some role) (sym c.flags) (go (e.flags == 1) (e.flags == 2) is) where
  go : (a b : Bool) → (if a then parent_role e streams else if b then part_role key streams else Some IsPlain) ≡ Some (IsPart name index) → (if a then parent_role d after else if b then part_role key after else Some IsPlain) ≡ Some role
  go true b h = let p = parent-of e streams (IsPart name index) h in let c : IsPart name index ≡ IsParent p.index = p.is in absurd (cc)
  go false true h = then_is
  go false false h = let c : ◌≡◌ {A = Option Role} (Some IsPlain) (Some (IsPart name index)) = h in absurd (cc)
