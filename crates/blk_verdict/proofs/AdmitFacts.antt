-- The answer on a record, by the reasons in their order, and what is kept then.
use Rattle.std.proofs.Common.{◌≡◌, ◌+◌, ◌<◌, ◌≤◌, ℕ, Bool, true, false, ◌&&◌, if◌then◌else◌, List, [], ◌∷◌, ◌++◌, length, length-take, length-drop, take, drop, Option, None, Some, Result, Ok, Err, refl, sym, ◌∙◌, ap, subst, arith}
use Rattle.std.specs.Prelude.{not, nat_lt, nat_le}
use Rattle.std.specs.Int.{cast_unsigned, w64}
use Rattle.std.specs.List.{list_any}
use Rattle.std.proofs.lemmas.Bool.{and_parts, ltb-true}
use Rattle.spec_image.specs.Image.{Image}
use Rattle.blk_model.specs.Sizes.{longest_key, part_count, signatures}
use Rattle.spec_format.specs.Names.{IsName, Name, read_name}
use Rattle.spec_format.specs.SparseIndex.{PartIndex}
use Rattle.spec_folder.specs.Audit.{admit, collides, is_orphan, is_orphan_role, is_parent_of, shares_key, with_verdict}
use Rattle.spec_folder.specs.Entries as entries
use Rattle.spec_folder.specs.Loads as shown
use Rattle.spec_folder.specs.Loads.{held_rule, is_part, is_part_role}
use Rattle.spec_folder.specs.Reasons as reasons
use Rattle.spec_folder.specs.Reasons.{◌>>=◌, demand}
use Rattle.spec_folder.specs.View.{store_of}
use Rattle.law_folder.proofs.walks.Loads.{load-then}
use Rattle.blk_ranges.specs.ChildNames.{name_within}
use Rattle.blk_ranges.specs.declared.names.ChildName.{ChildName}
use Rattle.blk_verdict.specs.Kept.{AreShown, IsSameAnswer, IsLoadedFrom, is_sought, kept_with}
use Rattle.blk_verdict.specs.declared.fitting.Sought.TheVariants.{ParentOf as parent_of}
use Rattle.blk_verdict.specs.declared.loading.Loaded.{Loaded}
use Rattle.blk_verdict.specs.declared.reason.Reason.{Reason}
use Rattle.blk_verdict.specs.declared.reason.Reason.TheVariants as reason
use Rattle.blk_verdict.proofs.RoleFacts.{name_length, name_of_part}

-- by the three tests
admit_by : (kept : List shown.Loaded) (loaded : shown.Loaded) (c s o : Bool) → collides kept loaded ≡ c → shares_key kept loaded ≡ s → is_orphan kept loaded ≡ o
    → admit kept loaded ≡ (if c then Err reasons.Claimed else if s then Err reasons.Name else if o then Err reasons.Parent else Ok loaded)
unfolding admit
admit_by kept loaded c s o ec es eo = rw (ec, es, eo) (by_tests c s o)
  where
    by_tests : (c s o : Bool) → (demand (not c) reasons.Claimed >>= (λ _. demand (not s) reasons.Name >>= (λ _. demand (not o) reasons.Parent >>= (λ _. Ok loaded)))) ≡ (if c then Err reasons.Claimed else if s then Err reasons.Name else if o then Err reasons.Parent else Ok loaded)
    by_tests true s o = refl
    by_tests false true o = refl
    by_tests false false true = refl
    by_tests false false false = refl

module _ (kept : List shown.Loaded) (loaded : shown.Loaded) where
  answer_by : (r : Result shown.Loaded reasons.Reason) (said : Option Reason) → admit kept loaded ≡ r → IsSameAnswer r said → IsSameAnswer (admit kept loaded) said
  answer_by r said e is = subst (λ (x : Result shown.Loaded reasons.Reason). IsSameAnswer x said) (sym e) is

  pub answer_claimed : collides kept loaded ≡ true → IsSameAnswer (admit kept loaded) (Some reason.Claimed)
  answer_claimed c = answer_by (Err reasons.Claimed) (Some reason.Claimed) (admit_by kept loaded true (shares_key kept loaded) (is_orphan kept loaded) c refl refl) refl

  pub answer_name : collides kept loaded ≡ false → shares_key kept loaded ≡ true → IsSameAnswer (admit kept loaded) (Some reason.Name)
  answer_name c s = answer_by (Err reasons.Name) (Some reason.Name) (admit_by kept loaded false true (is_orphan kept loaded) c s refl) refl

  pub answer_parent : collides kept loaded ≡ false → shares_key kept loaded ≡ false → is_orphan kept loaded ≡ true → IsSameAnswer (admit kept loaded) (Some reason.Parent)
  answer_parent c s o = answer_by (Err reasons.Parent) (Some reason.Parent) (admit_by kept loaded false false true c s o) refl

  pub answer_none : collides kept loaded ≡ false → shares_key kept loaded ≡ false → is_orphan kept loaded ≡ false → IsSameAnswer (admit kept loaded) None
  answer_none c s o = answer_by (Ok loaded) None (admit_by kept loaded false false false c s o) tt

-- What is kept.

shown_push : (image : Image) (kept : List shown.Loaded) (said : List Loaded) (loaded : shown.Loaded) (one : Loaded) → AreShown image kept said → IsLoadedFrom image loaded one → AreShown image (kept ++ loaded ∷ []) (said ++ one ∷ [])
shown_push image [] [] loaded one are is = (is, tt)
shown_push image [] (other ∷ said) loaded one are is = absurd are
shown_push image (other ∷ kept) [] loaded one are is = absurd are
shown_push image (other ∷ kept) (of_other ∷ said) loaded one are is = (are.0, shown_push image kept said loaded one are.1 is)

pub shown_with : (image : Image) (kept : List shown.Loaded) (said : List Loaded) (loaded : shown.Loaded) (one : Loaded) (given : Option Reason) → AreShown image kept said → IsLoadedFrom image loaded one → IsSameAnswer (admit kept loaded) given
    → AreShown image (with_verdict kept (admit kept loaded)) (kept_with said one given)
shown_with image kept said loaded one given are is answer =
    by_result (collides kept loaded) (shares_key kept loaded) (is_orphan kept loaded) (admit_by kept loaded (collides kept loaded) (shares_key kept loaded) (is_orphan kept loaded) refl refl refl)
  where
    kept_one : (given : Option Reason) → IsSameAnswer (Ok loaded) given → AreShown image (kept ++ loaded ∷ []) (kept_with said one given)
    kept_one None ok = shown_push image kept said loaded one are is
    kept_one (Some why) ok = absurd ok

    dropped_one : (why : reasons.Reason) (given : Option Reason) → IsSameAnswer (Err why) given → AreShown image kept (kept_with said one given)
    dropped_one why None ok = absurd ok
    dropped_one why (Some other) ok = are

    on : (r : Result shown.Loaded reasons.Reason) → admit kept loaded ≡ r → (IsSameAnswer r given → AreShown image (with_verdict kept r) (kept_with said one given)) → AreShown image (with_verdict kept (admit kept loaded)) (kept_with said one given)
    on r e goes = subst (λ (x : Result shown.Loaded reasons.Reason). AreShown image (with_verdict kept x) (kept_with said one given)) (sym e) (goes (subst (λ (x : Result shown.Loaded reasons.Reason). IsSameAnswer x given) e answer))

    by_result : (c s o : Bool) → admit kept loaded ≡ (if c then Err reasons.Claimed else if s then Err reasons.Name else if o then Err reasons.Parent else Ok loaded) → AreShown image (with_verdict kept (admit kept loaded)) (kept_with said one given)
    by_result true s o e = on (Err reasons.Claimed) e (dropped_one reasons.Claimed given)
    by_result false true o e = on (Err reasons.Name) e (dropped_one reasons.Name given)
    by_result false false true e = on (Err reasons.Parent) e (dropped_one reasons.Parent given)
    by_result false false false e = on (Ok loaded) e (kept_one given)

-- A part and its parent.

pub no_orphan : (kept : List shown.Loaded) (loaded : shown.Loaded) → is_part loaded ≡ false → is_orphan kept loaded ≡ false
unfolding is_orphan
no_orphan kept loaded none = by_role loaded.role none
  where
    by_role : (role : entries.Role) → is_part_role role ≡ false → is_orphan_role kept role ≡ false
    by_role entries.IsPlain e = refl
    by_role (entries.IsParent index) e = refl
    by_role (entries.IsPart name index) e = absurd (clash e)
      where
        clash : true ≡ false → ⊥
        clash c = cc

-- the name of a part
record HasName (loaded : shown.Loaded) : Type 0 where
  name : Name
  index : PartIndex
  is : loaded.role ≡ entries.IsPart name index

has_name : (loaded : shown.Loaded) → is_part loaded ≡ true → HasName loaded
has_name loaded some = by_role loaded.role refl some
  where
    by_role : (role : entries.Role) → loaded.role ≡ role → is_part_role role ≡ true → HasName loaded
    by_role entries.IsPlain is e = absurd (clash e)
      where
        clash : false ≡ true → ⊥
        clash c = cc
    by_role (entries.IsParent index) is e = absurd (clash e)
      where
        clash : false ≡ true → ⊥
        clash c = cc
    by_role (entries.IsPart name index) is e = record { name = name; index = index; is = is }

name_read : (image : Image) (loaded : shown.Loaded) (node : ℕ) (name : Name) (index : PartIndex) → shown.load (store_of image) held_rule node ≡ Ok loaded → loaded.role ≡ entries.IsPart name index → read_name loaded.key ≡ Some name
name_read image loaded node name index ok role =
    load-then {P = read_name loaded.key ≡ Some name} (store_of image) held_rule node loaded ok
    (λ n fields facts. name_of_part fields loaded.key loaded.streams name index (facts.facts.role ∙ ap Some role))

-- a part whose key is no name is none that an image loads
pub no_name : (image : Image) (loaded : shown.Loaded) (node : ℕ) (key : List ℕ) → shown.load (store_of image) held_rule node ≡ Ok loaded → is_part loaded ≡ true → key ≡ loaded.key → None ≡ read_name key → ⊥
no_name image loaded node key ok some same none =
    let has = has_name loaded some in
    clash has.name (none ∙ ap read_name same ∙ name_read image loaded node has.name has.index ok has.is)
  where
    clash : (name : Name) → None ≡ Some name → ⊥
    clash name c = cc

-- a part is an orphan where the parent of its name isn't found
pub orphan_is : (image : Image) (kept : List shown.Loaded) (loaded : shown.Loaded) (node : ℕ) (key parent : List ℕ) (said : ChildName) → shown.load (store_of image) held_rule node ≡ Ok loaded → is_part loaded ≡ true → key ≡ loaded.key → Some (name_within key said) ≡ read_name key
    → parent ≡ take said.key_len (drop 6 key) → is_orphan kept loaded ≡ not (list_any (is_sought (parent_of said) parent) kept)
unfolding is_orphan
orphan_is image kept loaded node key parent said ok some same read cut =
    let has = has_name loaded some in
    let name : name_within key said ≡ has.name = some_same (read ∙ ap read_name same ∙ name_read image loaded node has.name has.index ok has.is) in
    let whole : record_of parent ≡ has.name = ap record_of cut ∙ name in
    ap (is_orphan_role kept) has.is ∙ ap (λ (n : Name). not (list_any (is_parent_of n) kept)) (sym whole)
  where
    some_same : {a b : Name} → Some a ≡ Some b → a ≡ b
    some_same e = cc

    record_of : List ℕ → Name
    record_of k = record { key = k; signature = cast_unsigned w64 said.signature; part = said.part }

-- the key of the parent lies inside the name, and the part has a number
pub name_inside : (key : List ℕ) (said : ChildName) → IsName key (name_within key said) → 6 + said.key_len ≤ length key
name_inside key said is =
    let taken = length-take said.key_len (drop 6 key) in
    let dropped = length-drop 6 key in
    let all = name_length key said is in
    let tests = and_parts (nat_lt 0 (length (take said.key_len (drop 6 key))) && nat_le (length (take said.key_len (drop 6 key))) longest_key && nat_lt (cast_unsigned w64 said.signature) signatures) (nat_lt said.part part_count) is.fits in
    let front = and_parts (nat_lt 0 (length (take said.key_len (drop 6 key))) && nat_le (length (take said.key_len (drop 6 key))) longest_key) (nat_lt (cast_unsigned w64 said.signature) signatures) tests.0 in
    let some = ltb-true 0 (length (take said.key_len (drop 6 key))) (and_parts (nat_lt 0 (length (take said.key_len (drop 6 key)))) (nat_le (length (take said.key_len (drop 6 key))) longest_key) front.0).0 in
    omega (arith, taken, dropped, all, some)

pub part_number : (key : List ℕ) (said : ChildName) → IsName key (name_within key said) → said.part < part_count
part_number key said is =
    ltb-true said.part part_count
    (and_parts (nat_lt 0 (length (take said.key_len (drop 6 key))) && nat_le (length (take said.key_len (drop 6 key))) longest_key && nat_lt (cast_unsigned w64 said.signature) signatures) (nat_lt said.part part_count) is.fits).1
