-- What the flags and the index of a record make it, by the first bytes of its index.
use Rattle.std.proofs.Common.{◌≡◌, zero, suc, ◌≤◌, ℕ, Bool, true, false, ◌&&◌, if◌then◌else◌, List, [], ◌∷◌, ◌++◌, length, take, drop, length-take, length-drop, length-append, Option, None, Some, refl, sym, ◌∙◌, ap, subst, arith}
use Rattle.std.specs.Prelude.{◌==◌, nat_le, nat_lt, not, slice_index}
use Rattle.std.specs.Int.{cast_unsigned, w64}
use Rattle.std.specs.Option.{option_and_then, option_map}
use Rattle.std.proofs.lemmas.Bool.{eq-eqb, eqb-true}
use Rattle.std.proofs.lemmas.Bool.Decides.{nat_tests}
use Rattle.std.proofs.lemmas.List.{get_or-take, take_all}
use Rattle.spec_image.specs.Bytes.{content, words_at}
use Rattle.spec_format.specs.Names.{Name, IsName, colon, hexadecimal, name_head, read_name}
use Rattle.spec_format.specs.SparseIndex.{ParentIndex, PartIndex, read_parent_index, read_part_index}
use Rattle.spec_folder.specs.Entries as entries
use Rattle.spec_folder.specs.Entries.{parent_role, part_role, role_of, is_covered, stream}
use Rattle.spec_folder.specs.View.{RecordFields}
use Rattle.blk_ranges.specs.ChildNames.{name_within}
use Rattle.blk_ranges.specs.ParentMaps.{head_fields, read_parent_head}
use Rattle.blk_ranges.specs.PartMaps.{index_of, map_signature}
use Rattle.blk_ranges.specs.declared.names.ChildName.{ChildName}
use Rattle.blk_ranges.specs.declared.parent_map.ParentHead.{ParentHead}
use Rattle.blk_ranges.specs.declared.part_map.PartMap.{PartMap}
use Rattle.blk_ranges.proofs.ParentIndexes.{index-read, no-index, with_bits}
use Rattle.blk_ranges.proofs.Spelling.{joined}
use Rattle.blk_verdict.specs.Kept.{is_part_said}
use Rattle.blk_verdict.specs.declared.roles.Role.{Role}
use Rattle.blk_verdict.specs.declared.roles.Role.TheVariants as role
use Rattle.blk_verdict.specs.Roles.{IsRoleIf}

-- The head of a parent's index, by its first 64 bytes.

head_by : (f g : ℕ → ℕ) → g ≡ (λ i. if nat_lt i 64 then f i else 0) → read_parent_head g ≡ read_parent_head f
unfolding words_at
head_by f g e = ap read_parent_head e

prefix_content : (bytes : List ℕ) (i : ℕ) → 64 ≤ length bytes → content (take 64 bytes) i ≡ (if nat_lt i 64 then content bytes i else 0)
prefix_content bytes i long = by_test (nat_lt i 64) refl
  where
    by_test : (t : Bool) → nat_lt i 64 ≡ t → content (take 64 bytes) i ≡ (if t then content bytes i else 0)
    by_test true e = get_or-take 64 bytes i 0 (grind (arith, nat_tests))
    by_test false e = behind (take 64 bytes) i (let size : length (take 64 bytes) ≤ i = omega (arith, length-take 64 bytes, (let h : 64 ≤ i = grind (arith, nat_tests) in h)) in size)
      where
        behind : (xs : List ℕ) (i : ℕ) → length xs ≤ i → slice_index xs i ≡ 0
        behind [] i e = refl
        behind (x ∷ xs) zero e = absurd (omega (arith, e))
        behind (x ∷ xs) (suc i) e = behind xs i (omega (arith, e))

prefix_head : (bytes : List ℕ) → 64 ≤ length bytes → read_parent_head (content (take 64 bytes)) ≡ read_parent_head (content bytes)
prefix_head bytes long = head_by (content bytes) (content (take 64 bytes)) (λ j i. prefix_content bytes i long j)

-- A parent.

none_and : (t : Bool) (x : Option entries.Role) → t ≡ false → (if not t then None else x) ≡ None
none_and t x e = rw e refl

pub parent_full : (fields : RecordFields) (streams : List (List ℕ)) → (length (stream 1 streams) == 0) ≡ false → parent_role fields streams ≡ None
unfolding parent_role
parent_full fields streams e = none_and (length (stream 1 streams) == 0) _ e

with_length : (fields : RecordFields) (index : ParentIndex) → Option entries.Role
with_length fields index = if index.key_len == fields.key_len then Some (entries.IsParent index) else None

parent_by : (fields : RecordFields) (streams : List (List ℕ)) (o : Option ParentIndex) → (length (stream 1 streams) == 0) ≡ true → read_parent_index (stream 2 streams) ≡ o → parent_role fields streams ≡ option_and_then (with_length fields) o
unfolding parent_role with_length
parent_by fields streams o none is = rw (none, is) refl

pub parent_short : (fields : RecordFields) (streams : List (List ℕ)) → (length (stream 2 streams) == 8256) ≡ false → parent_role fields streams ≡ None
parent_short fields streams e = by_test (length (stream 1 streams) == 0) refl
  where
    none : read_parent_index (stream 2 streams) ≡ None
    none = index-read (stream 2 streams) ∙ ap (λ (t : Bool). if t then option_map (with_bits (content (stream 2 streams))) (read_parent_head (content (stream 2 streams))) else None) e

    by_test : (t : Bool) → (length (stream 1 streams) == 0) ≡ t → parent_role fields streams ≡ None
    by_test false h = parent_full fields streams h
    by_test true h = parent_by fields streams None h none

-- what is read of the head says which parent it is
pub parent_read : (key : List ℕ) (fields : RecordFields) (streams : List (List ℕ)) (window : List ℕ) (o : Option ParentHead) → length (stream 1 streams) ≡ 0 → length (stream 2 streams) ≡ 8256 → window ≡ take 64 (stream 2 streams)
    → option_map head_fields o ≡ (if nat_le 64 (length window) then read_parent_head (content window) else None)
    → IsRoleIf key (parent_role fields streams) (option_and_then (λ (head : ParentHead). if head.key_len == fields.key_len then Some (role.Parent head) else None) o)
unfolding with_length
parent_read key fields streams window o none size is said = by_head o (said ∙ seen)
  where
    bytes : List ℕ
    bytes = stream 2 streams

    long : 64 ≤ length (stream 2 streams)
    long = omega (arith, size)

    window_size : nat_le 64 (length window) ≡ true
    window_size = let h : length window ≡ 64 = ap length is ∙ (let e : length (take 64 (stream 2 streams)) ≡ 64 = omega (arith, length-take 64 (stream 2 streams), long) in e) in grind (arith, nat_tests)

    seen : (if nat_le 64 (length window) then read_parent_head (content window) else None) ≡ read_parent_head (content (stream 2 streams))
    seen = ap (λ (t : Bool). if t then read_parent_head (content window) else None) window_size ∙ ap (λ (l : List ℕ). read_parent_head (content l)) is ∙ prefix_head (stream 2 streams) long

    index : read_parent_index (stream 2 streams) ≡ option_map (with_bits (content (stream 2 streams))) (read_parent_head (content (stream 2 streams)))
    index = index-read (stream 2 streams) ∙ ap (λ (t : Bool). if t then option_map (with_bits (content (stream 2 streams))) (read_parent_head (content (stream 2 streams))) else None) (eq-eqb _ _ size)

    by_head : (o : Option ParentHead) → option_map head_fields o ≡ read_parent_head (content (stream 2 streams)) → IsRoleIf key (parent_role fields streams) (option_and_then (λ (head : ParentHead). if head.key_len == fields.key_len then Some (role.Parent head) else None) o)
    by_head None e = subst (λ (r : Option entries.Role). IsRoleIf key r None) (sym (parent_by fields streams None (eq-eqb _ _ none) (index ∙ ap (option_map (with_bits (content (stream 2 streams)))) (sym e)))) tt
    by_head (Some head) e =
        subst (λ (r : Option entries.Role). IsRoleIf key r (if head.key_len == fields.key_len then Some (role.Parent head) else None))
        (sym (parent_by fields streams (Some (with_bits (content (stream 2 streams)) (head_fields head))) (eq-eqb _ _ none) (index ∙ ap (option_map (with_bits (content (stream 2 streams)))) (sym e)))) (by_length (head.key_len == fields.key_len) refl)
      where
        by_length : (t : Bool) → (head.key_len == fields.key_len) ≡ t → IsRoleIf key (option_and_then (with_length fields) (Some (with_bits (content (stream 2 streams)) (head_fields head)))) (if t then Some (role.Parent head) else None)
        by_length true e = rw e refl
        by_length false e = rw e tt

-- A part.

pub part_full : (key : List ℕ) (streams : List (List ℕ)) → (length (stream 0 streams) == 0) ≡ false → part_role key streams ≡ None
unfolding part_role
part_full key streams e = none_and (length (stream 0 streams) == 0) _ e

goes : Name → ℕ → PartIndex → Option entries.Role
goes name size index = if (index.signature == name.signature) && (index.key_len == length name.key) && is_covered index size then Some (entries.IsPart name index) else None

part_by : (key : List ℕ) (streams : List (List ℕ)) (n : Option Name) (o : Option PartIndex) → (length (stream 0 streams) == 0) ≡ true → nat_lt 1048576 (length (stream 1 streams)) ≡ false → read_name key ≡ n → read_part_index (stream 2 streams) ≡ o
    → part_role key streams ≡ option_and_then (λ (name : Name). option_and_then (goes name (length (stream 1 streams))) o) n
unfolding part_role goes
part_by key streams n o none few named is = rw (none, few, named, is) refl

pub part_long : (key : List ℕ) (streams : List (List ℕ)) → nat_lt 1048576 (length (stream 1 streams)) ≡ true → part_role key streams ≡ None
unfolding part_role
part_long key streams e = by_test (length (stream 0 streams) == 0) _ _ e
  where
    by_test : (t u : Bool) (x : Option entries.Role) → u ≡ true → (if not t then None else if u then None else x) ≡ None
    by_test false u x h = refl
    by_test true u x h = rw h refl

nothing : (n : Option Name) (f : Name → PartIndex → Option entries.Role) → option_and_then (λ (name : Name). option_and_then (f name) None) n ≡ None
nothing None f = refl
nothing (Some name) f = refl

pub part_unnamed : (key : List ℕ) (streams : List (List ℕ)) → read_name key ≡ None → part_role key streams ≡ None
part_unnamed key streams e = by_tests (length (stream 0 streams) == 0) (nat_lt 1048576 (length (stream 1 streams))) refl refl
  where
    by_tests : (t u : Bool) → (length (stream 0 streams) == 0) ≡ t → nat_lt 1048576 (length (stream 1 streams)) ≡ u → part_role key streams ≡ None
    by_tests false u et eu = part_full key streams et
    by_tests true true et eu = part_long key streams eu
    by_tests true false et eu = part_by key streams None (read_part_index (stream 2 streams)) et eu e refl

pub part_short : (key : List ℕ) (streams : List (List ℕ)) → (length (stream 2 streams) == 192) ≡ false → part_role key streams ≡ None
unfolding read_part_index
part_short key streams e = by_tests (length (stream 0 streams) == 0) (nat_lt 1048576 (length (stream 1 streams))) refl refl
  where
    none : read_part_index (stream 2 streams) ≡ None
    none = rw e refl

    by_tests : (t u : Bool) → (length (stream 0 streams) == 0) ≡ t → nat_lt 1048576 (length (stream 1 streams)) ≡ u → part_role key streams ≡ None
    by_tests false u et eu = part_full key streams et
    by_tests true true et eu = part_long key streams eu
    by_tests true false et eu = part_by key streams (read_name key) None et eu refl none ∙ nothing (read_name key) (λ name. goes name (length (stream 1 streams)))

-- the key that a name says has the length that was read
pub name_length : (key : List ℕ) (said : ChildName) → IsName key (name_within key said) → length (take said.key_len (drop 6 key)) ≡ said.key_len
name_length key said is =
    let k : List ℕ = take said.key_len (drop 6 key) in
    let printed : ((name_head ++ k) ++ colon ∷ hexadecimal (cast_unsigned w64 said.signature)) ++ colon ∷ hexadecimal said.part ≡ key = joined k (cast_unsigned w64 said.signature) said.part ∙ sym is.printed in
    let one = length-append (name_head ++ k) (colon ∷ hexadecimal (cast_unsigned w64 said.signature)) in
    let two = length-append ((name_head ++ k) ++ colon ∷ hexadecimal (cast_unsigned w64 said.signature)) (colon ∷ hexadecimal said.part) in
    let front = length-append name_head k in
    let all : length (((name_head ++ k) ++ colon ∷ hexadecimal (cast_unsigned w64 said.signature)) ++ colon ∷ hexadecimal said.part) ≡ length key = ap length printed in
    let taken = length-take said.key_len (drop 6 key) in
    let dropped = length-drop 6 key in
    omega (arith, one, two, front, all, taken, dropped)

pub part_read : (key : List ℕ) (streams : List (List ℕ)) (window : List ℕ) (said : ChildName) (m : Option PartMap) → length (stream 0 streams) ≡ 0 → length (stream 1 streams) ≤ 1048576 → length (stream 2 streams) ≡ 192
    → read_name key ≡ Some (name_within key said) → IsName key (name_within key said) → window ≡ take 192 (stream 2 streams) → option_map index_of m ≡ read_part_index window
    → IsRoleIf key (part_role key streams) (option_and_then (λ (map : PartMap). if (map_signature map == cast_unsigned w64 said.signature) && (map.key_len == said.key_len) && is_covered (index_of map) (length (stream 1 streams)) then Some (role.Part said) else None) m)
unfolding goes index_of
part_read key streams window said m none few size named is_name is read = by_map m (read ∙ ap read_part_index (is ∙ take_all 192 (stream 2 streams) (omega (arith, size))))
  where
    zero_test : (length (stream 0 streams) == 0) ≡ true
    zero_test = eq-eqb _ _ none

    few_test : nat_lt 1048576 (length (stream 1 streams)) ≡ false
    few_test = grind (arith, nat_tests)

    by_map : (m : Option PartMap) → option_map index_of m ≡ read_part_index (stream 2 streams)
        → IsRoleIf key (part_role key streams) (option_and_then (λ (map : PartMap). if (map_signature map == cast_unsigned w64 said.signature) && (map.key_len == said.key_len) && is_covered (index_of map) (length (stream 1 streams)) then Some (role.Part said) else None) m)
    by_map None e = subst (λ (r : Option entries.Role). IsRoleIf key r None) (sym (part_by key streams (Some (name_within key said)) None zero_test few_test named (sym e))) tt
    by_map (Some map) e =
        subst (λ (r : Option entries.Role). IsRoleIf key r (if (map_signature map == cast_unsigned w64 said.signature) && (map.key_len == said.key_len) && is_covered (index_of map) (length (stream 1 streams)) then Some (role.Part said) else None))
        (sym (part_by key streams (Some (name_within key said)) (Some (index_of map)) zero_test few_test named (sym e) ∙ goes_by)) (by_test ((map_signature map == cast_unsigned w64 said.signature) && (map.key_len == said.key_len) && is_covered (index_of map) (length (stream 1 streams))))
      where
        goes_by : goes (name_within key said) (length (stream 1 streams)) (index_of map) ≡ (if (map_signature map == cast_unsigned w64 said.signature) && (map.key_len == said.key_len) && is_covered (index_of map) (length (stream 1 streams)) then Some (entries.IsPart (name_within key said) (index_of map)) else None)
        goes_by = ap (λ (n : ℕ). if (map_signature map == cast_unsigned w64 said.signature) && (map.key_len == n) && is_covered (index_of map) (length (stream 1 streams)) then Some (entries.IsPart (name_within key said) (index_of map)) else None) (name_length key said is_name)

        by_test : (t : Bool) → IsRoleIf key (if t then Some (entries.IsPart (name_within key said) (index_of map)) else None) (if t then Some (role.Part said) else None)
        by_test true = refl
        by_test false = tt

-- By the flags.

pub none_role : (key : List ℕ) (r : Option entries.Role) → r ≡ None → IsRoleIf key r None
none_role key r e = subst (λ (o : Option entries.Role). IsRoleIf key o None) (sym e) tt

pub role_parent : (fields : RecordFields) (key : List ℕ) (streams : List (List ℕ)) → fields.flags ≡ 1 → role_of fields key streams ≡ parent_role fields streams
unfolding role_of
role_parent fields key streams e = let t : (fields.flags == 1) ≡ true = eq-eqb _ _ e in rw t refl

pub role_part : (fields : RecordFields) (key : List ℕ) (streams : List (List ℕ)) → fields.flags ≡ 2 → role_of fields key streams ≡ part_role key streams
unfolding role_of
role_part fields key streams e = let t : (fields.flags == 1) ≡ false = grind (arith, nat_tests) in let u : (fields.flags == 2) ≡ true = eq-eqb _ _ e in rw (t, u) refl

pub role_plain : (fields : RecordFields) (key : List ℕ) (streams : List (List ℕ)) → (fields.flags ≡ 1 → ⊥) → (fields.flags ≡ 2 → ⊥) → role_of fields key streams ≡ Some entries.IsPlain
unfolding role_of
role_plain fields key streams not_parent not_child = let t : (fields.flags == 1) ≡ false = grind (arith, nat_tests) in let u : (fields.flags == 2) ≡ false = grind (arith, nat_tests) in rw (t, u) refl

-- The index of a parent.

-- the index that a parent's role has is the one that its stream is
parent_index : (fields : RecordFields) (streams : List (List ℕ)) (index : ParentIndex) → parent_role fields streams ≡ Some (entries.IsParent index) → read_parent_index (stream 2 streams) ≡ Some index
unfolding with_length
parent_index fields streams index e = by_zero (length (stream 1 streams) == 0) refl
  where
    none_some : None ≡ Some (entries.IsParent index) → ⊥
    none_some h = cc

    by_length : (t : Bool) (read : ParentIndex) → (if t then Some (entries.IsParent read) else None) ≡ Some (entries.IsParent index) → Some read ≡ Some index
    by_length true read h = cc
    by_length false read h = absurd (none_some h)

    by_index : (o : Option ParentIndex) → option_and_then (with_length fields) o ≡ Some (entries.IsParent index) → o ≡ Some index
    by_index None h = absurd (none_some h)
    by_index (Some read) h = by_length (read.key_len == fields.key_len) read h

    by_zero : (t : Bool) → (length (stream 1 streams) == 0) ≡ t → read_parent_index (stream 2 streams) ≡ Some index
    by_zero false h = absurd (none_some (sym (parent_full fields streams h) ∙ e))
    by_zero true h = by_index (read_parent_index (stream 2 streams)) (sym (parent_by fields streams (read_parent_index (stream 2 streams)) h refl) ∙ e)

-- a part is no parent
no_parent : (key : List ℕ) (streams : List (List ℕ)) (index : ParentIndex) → part_role key streams ≡ Some (entries.IsParent index) → ⊥
unfolding goes
no_parent key streams index e = by_tests (length (stream 0 streams) == 0) (nat_lt 1048576 (length (stream 1 streams))) refl refl
  where
    none_some : None ≡ Some (entries.IsParent index) → ⊥
    none_some h = cc

    part_some : (name : Name) (of : PartIndex) → Some (entries.IsPart name of) ≡ Some (entries.IsParent index) → ⊥
    part_some name of h = cc

    by_goes : (t : Bool) (name : Name) (of : PartIndex) → (if t then Some (entries.IsPart name of) else None) ≡ Some (entries.IsParent index) → ⊥
    by_goes true name of h = part_some name of h
    by_goes false name of h = none_some h

    by_both : (n : Option Name) (o : Option PartIndex) → option_and_then (λ (name : Name). option_and_then (goes name (length (stream 1 streams))) o) n ≡ Some (entries.IsParent index) → ⊥
    by_both None o h = none_some h
    by_both (Some name) None h = none_some h
    by_both (Some name) (Some of) h = by_goes _ name of h

    by_tests : (t u : Bool) → (length (stream 0 streams) == 0) ≡ t → nat_lt 1048576 (length (stream 1 streams)) ≡ u → ⊥
    by_tests false u et eu = none_some (sym (part_full key streams et) ∙ e)
    by_tests true true et eu = none_some (sym (part_long key streams eu) ∙ e)
    by_tests true false et eu = by_both (read_name key) (read_part_index (stream 2 streams)) (sym (part_by key streams (read_name key) (read_part_index (stream 2 streams)) et eu refl refl) ∙ e)

pub index_of_parent : (fields : RecordFields) (key : List ℕ) (streams : List (List ℕ)) (index : ParentIndex) → role_of fields key streams ≡ Some (entries.IsParent index) → read_parent_index (stream 2 streams) ≡ Some index
index_of_parent fields key streams index e = by_flags (fields.flags == 1) (fields.flags == 2) refl refl
  where
    plain_some : Some entries.IsPlain ≡ Some (entries.IsParent index) → ⊥
    plain_some h = cc

    by_flags : (t u : Bool) → (fields.flags == 1) ≡ t → (fields.flags == 2) ≡ u → read_parent_index (stream 2 streams) ≡ Some index
    by_flags true u et eu = parent_index fields streams index (sym (role_parent fields key streams (eqb-true _ _ et)) ∙ e)
    by_flags false true et eu = absurd (no_parent key streams index (sym (role_part fields key streams (eqb-true _ _ eu)) ∙ e))
    by_flags false false et eu = absurd (plain_some (sym (role_plain fields key streams (λ h. clash (sym et ∙ eq-eqb _ _ h)) (λ h. clash (sym eu ∙ eq-eqb _ _ h))) ∙ e))
      where
        clash : false ≡ true → ⊥
        clash h = cc

-- The name of a part.

-- the name that a part's role has is the one that its key is
part_name : (key : List ℕ) (streams : List (List ℕ)) (name : Name) (index : PartIndex) → part_role key streams ≡ Some (entries.IsPart name index) → read_name key ≡ Some name
unfolding goes
part_name key streams name index e = by_tests (length (stream 0 streams) == 0) (nat_lt 1048576 (length (stream 1 streams))) refl refl
  where
    none_some : None ≡ Some (entries.IsPart name index) → ⊥
    none_some h = cc

    same_name : (of : Name) (other : PartIndex) → Some (entries.IsPart of other) ≡ Some (entries.IsPart name index) → Some of ≡ Some name
    same_name of other h = cc

    by_goes : (t : Bool) (of : Name) (other : PartIndex) → (if t then Some (entries.IsPart of other) else None) ≡ Some (entries.IsPart name index) → Some of ≡ Some name
    by_goes true of other h = same_name of other h
    by_goes false of other h = absurd (none_some h)

    by_both : (n : Option Name) (o : Option PartIndex) → option_and_then (λ (of : Name). option_and_then (goes of (length (stream 1 streams))) o) n ≡ Some (entries.IsPart name index) → n ≡ Some name
    by_both None o h = absurd (none_some h)
    by_both (Some of) None h = absurd (none_some h)
    by_both (Some of) (Some other) h = by_goes _ of other h

    by_tests : (t u : Bool) → (length (stream 0 streams) == 0) ≡ t → nat_lt 1048576 (length (stream 1 streams)) ≡ u → read_name key ≡ Some name
    by_tests false u et eu = absurd (none_some (sym (part_full key streams et) ∙ e))
    by_tests true true et eu = absurd (none_some (sym (part_long key streams eu) ∙ e))
    by_tests true false et eu = by_both (read_name key) (read_part_index (stream 2 streams)) (sym (part_by key streams (read_name key) (read_part_index (stream 2 streams)) et eu refl refl) ∙ e)

-- a parent is no part
no_part : (fields : RecordFields) (streams : List (List ℕ)) (name : Name) (index : PartIndex) → parent_role fields streams ≡ Some (entries.IsPart name index) → ⊥
unfolding with_length
no_part fields streams name index e = by_zero (length (stream 1 streams) == 0) refl
  where
    none_some : None ≡ Some (entries.IsPart name index) → ⊥
    none_some h = cc

    parent_some : (read : ParentIndex) → Some (entries.IsParent read) ≡ Some (entries.IsPart name index) → ⊥
    parent_some read h = cc

    by_length : (t : Bool) (read : ParentIndex) → (if t then Some (entries.IsParent read) else None) ≡ Some (entries.IsPart name index) → ⊥
    by_length true read h = parent_some read h
    by_length false read h = none_some h

    by_index : (o : Option ParentIndex) → option_and_then (with_length fields) o ≡ Some (entries.IsPart name index) → ⊥
    by_index None h = none_some h
    by_index (Some read) h = by_length (read.key_len == fields.key_len) read h

    by_zero : (t : Bool) → (length (stream 1 streams) == 0) ≡ t → ⊥
    by_zero false h = none_some (sym (parent_full fields streams h) ∙ e)
    by_zero true h = by_index (read_parent_index (stream 2 streams)) (sym (parent_by fields streams (read_parent_index (stream 2 streams)) h refl) ∙ e)

pub name_of_part : (fields : RecordFields) (key : List ℕ) (streams : List (List ℕ)) (name : Name) (index : PartIndex) → role_of fields key streams ≡ Some (entries.IsPart name index) → read_name key ≡ Some name
name_of_part fields key streams name index e = by_flags (fields.flags == 1) (fields.flags == 2) refl refl
  where
    plain_some : Some entries.IsPlain ≡ Some (entries.IsPart name index) → ⊥
    plain_some h = cc

    by_flags : (t u : Bool) → (fields.flags == 1) ≡ t → (fields.flags == 2) ≡ u → read_name key ≡ Some name
    by_flags true u et eu = absurd (no_part fields streams name index (sym (role_parent fields key streams (eqb-true _ _ et)) ∙ e))
    by_flags false true et eu = part_name key streams name index (sym (role_part fields key streams (eqb-true _ _ eu)) ∙ e)
    by_flags false false et eu = absurd (plain_some (sym (role_plain fields key streams (λ h. clash (sym et ∙ eq-eqb _ _ h)) (λ h. clash (sym eu ∙ eq-eqb _ _ h))) ∙ e))
      where
        clash : false ≡ true → ⊥
        clash h = cc

-- bytes that are an index have its length
pub index_length : (bytes : List ℕ) (index : ParentIndex) → read_parent_index bytes ≡ Some index → length bytes ≡ 8256
index_length bytes index e = by_test (length bytes == 8256) refl
  where
    by_test : (t : Bool) → (length bytes == 8256) ≡ t → length bytes ≡ 8256
    by_test true h = eqb-true _ _ h
    by_test false h = absurd (clash (no-index bytes h ∙ e))
      where
        clash : None ≡ Some index → ⊥
        clash h = cc

-- a part has the flags of one
flags_of_part : (fields : RecordFields) (key : List ℕ) (streams : List (List ℕ)) (name : Name) (index : PartIndex) → role_of fields key streams ≡ Some (entries.IsPart name index) → fields.flags ≡ 2
flags_of_part fields key streams name index e = by_flags (fields.flags == 1) (fields.flags == 2) refl refl
  where
    plain_some : Some entries.IsPlain ≡ Some (entries.IsPart name index) → ⊥
    plain_some h = cc

    clash : false ≡ true → ⊥
    clash h = cc

    by_flags : (t u : Bool) → (fields.flags == 1) ≡ t → (fields.flags == 2) ≡ u → fields.flags ≡ 2
    by_flags true u et eu = absurd (no_part fields streams name index (sym (role_parent fields key streams (eqb-true _ _ et)) ∙ e))
    by_flags false true et eu = eqb-true _ _ eu
    by_flags false false et eu = absurd (plain_some (sym (role_plain fields key streams (λ h. clash (sym et ∙ eq-eqb _ _ h)) (λ h. clash (sym eu ∙ eq-eqb _ _ h))) ∙ e))

pub part_flags : (fields : RecordFields) (key : List ℕ) (streams : List (List ℕ)) (said : Role) → IsRoleIf key (role_of fields key streams) (Some said) → is_part_said said ≡ true → fields.flags ≡ 2
part_flags fields key streams said is part = by_role (role_of fields key streams) said refl is part
  where
    clash : false ≡ true → ⊥
    clash h = cc

    by_role : (o : Option entries.Role) (said : Role) → role_of fields key streams ≡ o → IsRoleIf key o (Some said) → is_part_said said ≡ true → fields.flags ≡ 2
    by_role None said e is part = absurd is
    by_role (Some (entries.IsPart name index)) said e is part = flags_of_part fields key streams name index e
    by_role (Some entries.IsPlain) role.Plain e is part = absurd (clash part)
    by_role (Some entries.IsPlain) (role.Parent head) e is part = absurd is
    by_role (Some entries.IsPlain) (role.Part name) e is part = absurd is
    by_role (Some (entries.IsParent index)) role.Plain e is part = absurd is
    by_role (Some (entries.IsParent index)) (role.Parent head) e is part = absurd (clash part)
    by_role (Some (entries.IsParent index)) (role.Part name) e is part = absurd is
