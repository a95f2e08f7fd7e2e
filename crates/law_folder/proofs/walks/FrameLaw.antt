-- Two views with the same candidates keep the same.
use Rattle.std.proofs.Common.{◌≡◌, ℕ, List, [], ◌∷◌, ◌++◌, refl, ap, sym, ◌∙◌, subst, ⊎_elim, Bool, true, false, Option, Some, None, Result, Ok, Err}
use Rattle.std.specs.Prelude.{if◌then◌else◌, not, ◌&&◌, ◌||◌, ◌==◌, is_err}
use Rattle.std.specs.Option.{option_and_then}
use Rattle.std.specs.List.{list_any, flat_map, AllByRecursion}
use Rattle.std.proofs.lemmas.Bool.{eqb-true, eq-eqb, cases_Bool, not-true, and_parts, not-false}
use Rattle.spec_format.specs.Records.{child, parent}
use Rattle.spec_format.specs.Names.{Name, read_name}
use Rattle.std.specs.Str.{bytes_eq}
use Rattle.spec_format.specs.SparseIndex.{ParentIndex, PartIndex, read_part_index}
use Rattle.spec_format.specs.Claims.{repeats, overlap}
use Rattle.spec_folder.specs.View.{View, StoreView, NodeFields, RecordFields}
use Rattle.spec_format.specs.BlockFiles.{is_among}
use Rattle.spec_folder.specs.Reasons.{Reason}
use Rattle.spec_folder.specs.Loads.{Rule, held_rule, Loaded, load, record_claims, all_claims}
use Rattle.spec_folder.specs.Entries.{is_key_length, stored_key, Role, IsPlain, IsParent, IsPart, parent_role, part_role, role_of}
use Rattle.spec_folder.specs.Audit.{admit, is_parent_of, is_parent_role, is_orphan, is_orphan_role, shares_key, is_child, verdict, with_verdict, verdicts, tried, kept_among, kept_by}
use Rattle.law_folder.specs.KeptLaws.{IsDroppedIfLeftOut, SameCandidatesAreHeldAlike, SameCandidatesHoldTheSame}
use Rattle.spec_folder.specs.Walk.{walk}
use Rattle.spec_folder.specs.Found.{found, kept, completed, row_of_loaded}
use Rattle.spec_folder.specs.View.{view_of}
use Rattle.spec_format.proofs.Finished.{well_formed-finished}
use Rattle.std.specs.Prelude.{map}
use Rattle.std.proofs.Math.Bool.{or-true}
use Rattle.spec_folder.specs.Candidates.{sound_key, SameNamed, name_at, is_parent_with, is_parent_at, is_candidate, candidates}
use Rattle.law_folder.proofs.walks.Loads.{bind_then, demand_then, IsLoadedNode, load-then}
use Rattle.law_folder.proofs.walks.LeavingOut.{leaving-out}
use Rattle.law_folder.proofs.walks.FoundFrames.{kept_among-same, All-to, All-both, All-filter}
use Rattle.spec_folder.specs.Reasons as reason

-- what was admitted is what was loaded, and is no orphan
pub admit-then : {P : Type 0} (kept : List Loaded) (l k : Loaded) → admit kept l ≡ Ok k → (l ≡ k → is_orphan kept l ≡ false → P) → P
unfolding admit
admit-then kept l k ok goes =
    demand_then (not (repeats (record_claims l) || overlap (flat_map all_claims kept) (all_claims l))) reason.Claimed _ k ok (λ _ ok.
    demand_then (not (shares_key kept l)) reason.Name _ k ok (λ _ ok.
    demand_then (not (is_orphan kept l)) reason.Parent _ k ok (λ one ok.
    goes (cc) (not-true (is_orphan kept l) one))))

-- a kept node is one of the tried that was loaded
pub record IsLoadOf (v : StoreView) (rule : Rule) (words : List ℕ) (k : Loaded) : Type 0 where
  pub among : is_among words k.node ≡ true
  pub loads : load v rule k.node ≡ Ok k

-- what a part's role says
part_is : (a b : Bool) (on : Option Name) (oi : Option PartIndex) (test : Name → PartIndex → Bool) (role : Role)
    → (if a then None else if b then None else option_and_then (λ name. option_and_then (λ index. if test name index then Some (IsPart name index) else None) oi) on) ≡ Some role
    → (name : Name) × (index : PartIndex) × (role ≡ IsPart name index) × (on ≡ Some name)
part_is true b on oi test role e = cc
part_is false true on oi test role e = cc
part_is false false None oi test role e = cc
part_is false false (Some name) None test role e = cc
part_is false false (Some name) (Some index) test role e = under (test name index) e where
  under : (t : Bool) → ◌≡◌ {A = Option Role} (if t then Some (IsPart name index) else None) (Some role) → (m : Name) × (i : PartIndex) × (role ≡ IsPart m i) × (Some name ≡ Some m)
  under true e = (name, index, cc, refl)
  under false e = cc

-- what a parent's role says
parent_is : (a : Bool) (oi : Option ParentIndex) (test : ParentIndex → Bool) (role : Role)
    → (if a then None else option_and_then (λ index. if test index then Some (IsParent index) else None) oi) ≡ Some role → (index : ParentIndex) × (role ≡ IsParent index)
parent_is true oi test role e = cc
parent_is false None test role e = cc
parent_is false (Some index) test role e = under (test index) e where
  under : (t : Bool) → ◌≡◌ {A = Option Role} (if t then Some (IsParent index) else None) (Some role) → (i : ParentIndex) × (role ≡ IsParent i)
  under true e = (index, cc)
  under false e = cc

-- a record with the flag of a part is loaded as a part
role-child : (e : RecordFields) (key : List ℕ) (streams : List (List ℕ)) (role : Role) → (e.flags == child) ≡ true → role_of e key streams ≡ Some role → (name : Name) × (index : PartIndex) × (role ≡ IsPart name index) × (read_name key ≡ Some name)
unfolding role_of part_role
role-child e key streams role flag is =
    let two : e.flags ≡ 2 = eqb-true e.flags 2 flag in
    part_is _ _ (read_name key) (read_part_index _) _ role (rw two at is)

-- what is loaded as a parent has the flag
role-parent : (e : RecordFields) (key : List ℕ) (streams : List (List ℕ)) (index : ParentIndex) → role_of e key streams ≡ Some (IsParent index) → (e.flags == parent) ≡ true
unfolding role_of part_role
role-parent e key streams index is = under (e.flags == parent) (e.flags == child) is where
  under : (a b : Bool) → (if a then parent_role e streams else if b then part_role key streams else Some IsPlain) ≡ Some (IsParent index) → a ≡ true
  under true b h = refl
  under false true h = let q = part_is _ _ (read_name key) (read_part_index _) _ (IsParent index) h in (let c : IsParent index ≡ IsPart q.0 q.1 = q.2 in cc)
  under false false h = cc

clean-held : (d : ℕ) → (not held_rule.clean || (d == 0)) ≡ true → (d == 0) ≡ true
clean-held d e = e

-- the key of a record for which those reasons don't hold
sound-is : (v : StoreView) (c : ℕ) (e : RecordFields) (key : List ℕ) → e.checks ≡ true → is_key_length c e ≡ true → stored_key v c e ≡ Some key → sound_key v c e ≡ Some key
sound-is v c e key checks long is = under e.checks (is_key_length c e) checks long where
  under : (a b : Bool) → a ≡ true → b ≡ true → (if a && b then stored_key v c e else None) ≡ Some key
  under a b p q = rw (p, q) is

-- a kept parent is valid as one
parent-at : (v : StoreView) (words : List ℕ) (name : Name) (k : Loaded) → IsLoadOf v held_rule words k → is_parent_of name k ≡ true → is_parent_at v name k.node ≡ true
unfolding is_parent_at
parent-at v words name k of is =
    load-then v held_rule k.node k of.loads (λ n e facts.
    let clean : (n.dirty == 0) ≡ true = facts.facts.keyed.clean in
    rw (facts.node, clean, facts.entry) (by_role n e facts k.role refl)) where
      by_role : (n : NodeFields) (e : RecordFields) → IsLoadedNode v held_rule k.node k n e → (role : Role) → k.role ≡ role → is_parent_with v name n.contents e ≡ true
      by_role n e facts IsPlain r = let never : is_parent_role name k.key IsPlain ≡ true = rw r at is in cc
      by_role n e facts (IsPart other index) r = let never : is_parent_role name k.key (IsPart other index) ≡ true = rw r at is in cc
      by_role n e facts (IsParent index) r =
          let holds : is_parent_role name k.key (IsParent index) ≡ true = rw r at is in
          let a : (bytes_eq k.key name.key && (index.signature == name.signature) ≡ true) × (index.has_part name.part ≡ true) = and_parts _ _ holds in
          let b : (bytes_eq k.key name.key ≡ true) × ((index.signature == name.signature) ≡ true) = and_parts _ _ a.0 in
          let role : role_of e k.key k.streams ≡ Some (IsParent index) = rw r at facts.facts.role in
          rw (role-parent e k.key k.streams index role, sound-is v n.contents e k.key facts.checks facts.facts.keyed.key_length facts.facts.keyed.key, b.0, facts.facts.streams, role) b.1

-- some element passes
any-in : {X : Type 0} (test : X → Bool) (P : X → Type 0) (xs : List X) → AllByRecursion P xs → list_any test xs ≡ true → (x : X) × P x × (test x ≡ true)
any-in test P [] all e = cc
any-in test P (x ∷ xs) all e =
    ⊎_elim (λ (is : test x ≡ true). (x, all.0, is)) (λ (is : test x ≡ false). any-in test P xs all.1 (rw is at e)) (cases_Bool (test x))

-- an element that passes makes some pass
any-of : (test : ℕ → Bool) (xs : List ℕ) (x : ℕ) → is_among xs x ≡ true → test x ≡ true → list_any test xs ≡ true
any-of test [] x h e = cc
any-of test (y ∷ xs) x h e =
    ⊎_elim (λ (is : (y == x) ≡ true). rw (eqb-true y x is, e) refl) (λ (is : (y == x) ≡ false). rw (any-of test xs x (rw is at h) e) (or-true (test y))) (cases_Bool (y == x))

-- the name of a loaded part
name-at : (v : StoreView) (w : ℕ) (m : Loaded) (n : NodeFields) (e : RecordFields) (name : Name) → IsLoadedNode v held_rule w m n e → read_name m.key ≡ Some name → name_at v w ≡ Some name
unfolding name_at
name-at v w m n e name facts is = rw (facts.node, facts.entry, sound-is v n.contents e m.key facts.checks facts.facts.keyed.key_length facts.facts.keyed.key) is

-- the parent of a part that is no orphan is among the walked
parent-among : (v : StoreView) (words : List ℕ) (kept : List Loaded) (role : Role) (name : Name) (index : PartIndex) → AllByRecursion (IsLoadOf v held_rule words) kept → role ≡ IsPart name index → is_orphan_role kept role ≡ false → list_any (is_parent_at v name) words ≡ true
parent-among v words kept role name index loads is no_orphan =
    let none : is_orphan_role kept (IsPart name index) ≡ false = rw is at no_orphan in
    let found : (k : Loaded) × IsLoadOf v held_rule words k × (is_parent_of name k ≡ true) = any-in (is_parent_of name) (IsLoadOf v held_rule words) kept loads (not-false _ none) in
    any-of (is_parent_at v name) words found.0.node found.1.among (parent-at v words name found.0 found.1 found.2)

-- what is kept is a candidate
kept-candidate : (v : StoreView) (words : List ℕ) (kept : List Loaded) (w : ℕ) (l : Loaded) → AllByRecursion (IsLoadOf v held_rule words) kept → verdict v held_rule kept w ≡ Ok l → is_candidate v words w ≡ true
unfolding is_candidate is_orphan
kept-candidate v words kept w l loads ok =
    bind_then (load v held_rule w) (admit kept) l ok (λ m loaded ok.
    admit-then kept m l ok (λ same no_orphan.
    load-then v held_rule w m loaded (λ n e facts.
    let clean : (n.dirty == 0) ≡ true = facts.facts.keyed.clean in
    rw (facts.node, clean, facts.entry, facts.checks)
    (⊎_elim
    (λ (flag : (e.flags == child) ≡ true).
    let part : (name : Name) × (index : PartIndex) × (m.role ≡ IsPart name index) × (read_name m.key ≡ Some name) = role-child e m.key m.streams m.role flag facts.facts.role in
    let among : list_any (is_parent_at v part.0) words ≡ true = parent-among v words kept m.role part.0 part.1 loads part.2 no_orphan in
    rw (flag, name-at v w m n e part.0 facts part.3) among)
    (λ (flag : (e.flags == child) ≡ false). rw flag refl)
    (cases_Bool (e.flags == child))))))

loads-push : {v : StoreView} {words : List ℕ} (kept : List Loaded) (l : Loaded) → AllByRecursion (IsLoadOf v held_rule words) kept → IsLoadOf v held_rule words l → AllByRecursion (IsLoadOf v held_rule words) (kept ++ l ∷ [])
loads-push [] l all one = (one, tt)
loads-push (k ∷ kept) l all one = (all.0, loads-push kept l all.1 one)

-- the verdicts on nodes that are no candidates
verdicts-candidates : (v : StoreView) (words : List ℕ) (kept : List Loaded) (ts : List ℕ) → AllByRecursion (λ w. is_among words w ≡ true) ts → AllByRecursion (IsLoadOf v held_rule words) kept
    → AllByRecursion (IsDroppedIfLeftOut (is_candidate v words)) (verdicts v held_rule kept ts)
unfolding verdicts
verdicts-candidates v words kept [] among loads = tt
verdicts-candidates v words kept (w ∷ ts) among loads =
    (dropped (verdict v held_rule kept w) refl, verdicts-candidates v words (with_verdict kept (verdict v held_rule kept w)) ts among.1 (still (verdict v held_rule kept w) refl)) where
      dropped : (r : Result Loaded Reason) → verdict v held_rule kept w ≡ r → is_candidate v words w ≡ false → is_err r ≡ true
      dropped (Ok l) is left = let holds : is_candidate v words w ≡ true = kept-candidate v words kept w l loads is in cc
      dropped (Err reason) is left = refl

      one : (l : Loaded) → verdict v held_rule kept w ≡ Ok l → IsLoadOf v held_rule words l
      one l is =
          bind_then (load v held_rule w) (admit kept) l is (λ m loaded ok. admit-then kept m l ok (λ same no_orphan. load-then v held_rule w m loaded (λ n e facts.
          let node : l.node ≡ w = ap (λ (x : Loaded). x.node) (sym same) ∙ facts.facts.node_is in
          let whole : load v held_rule w ≡ Ok l = loaded ∙ ap Ok same in
          record { among = subst (λ (x : ℕ). is_among words x ≡ true) (sym node) among.0; loads = subst (λ (x : ℕ). load v held_rule x ≡ Ok l) (sym node) whole })))

      still : (r : Result Loaded Reason) → verdict v held_rule kept w ≡ r → AllByRecursion (IsLoadOf v held_rule words) (with_verdict kept r)
      still (Ok l) is = loads-push kept l loads (one l is)
      still (Err reason) is = loads

-- each element of a list is in it
is_among-own : (words : List ℕ) → AllByRecursion (λ w. is_among words w ≡ true) words
is_among-own [] = tt
is_among-own (w ∷ words) = (rw (eq-eqb w w refl) refl, All-to (λ x. is_among words x ≡ true) (λ x. is_among (w ∷ words) x ≡ true) (λ x h. rw h (or-true (w == x))) words (is_among-own words))

-- no other node than a candidate is kept
pub only-candidates : (v : View) → kept_by held_rule v ≡ kept_among v.store held_rule (candidates v)
only-candidates v =
    let own : AllByRecursion (λ w. is_among (walk v.list) w ≡ true) (walk v.list) = is_among-own (walk v.list) in
    let among : AllByRecursion (λ w. is_among (walk v.list) w ≡ true) (tried v.store (walk v.list)) = All-both (λ w. is_among (walk v.list) w ≡ true) _ _ (All-filter (λ w. is_among (walk v.list) w ≡ true) (λ w. not (is_child v.store w)) (walk v.list) own) (All-filter (λ w. is_among (walk v.list) w ≡ true) (is_child v.store) (walk v.list) own) in
    sym (leaving-out v.store held_rule (is_candidate v.store (walk v.list)) (walk v.list) (verdicts-candidates v.store (walk v.list) [] (tried v.store (walk v.list)) among tt))

-- two views with the same candidates, which agree on what these name, keep the same
pub frame-views : (v u : View) → candidates v ≡ candidates u → AllByRecursion (SameNamed v.store u.store) (candidates v) → kept_by held_rule v ≡ kept_by held_rule u
frame-views v u same agree = only-candidates v ∙ kept_among-same v.store u.store held_rule (candidates v) agree ∙ ap (kept_among u.store held_rule) same ∙ sym (only-candidates u)

-- two images agree on that too, and well-formed ones have the same recovered contents
pub frame-held : SameCandidatesAreHeldAlike
unfolding kept
frame-held a b same agree = ap (map row_of_loaded) (frame-views (completed (view_of a)) (completed (view_of b)) same agree)

pub frame-law : SameCandidatesHoldTheSame
unfolding found
frame-law a b well_a well_b same agree =
    rw (well_formed-finished a well_a, well_formed-finished b well_b) (frame-held a b same agree)
