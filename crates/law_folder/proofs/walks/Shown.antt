-- What is given is kept.
use Rattle.std.proofs.Common.{◌≡◌, ◌≢◌, ℕ, List, [], ◌∷◌, ◌++◌, refl, ap, sym, ◌∙◌, subst, ⊎_elim, Bool, true, false, Option, Some, None, Result, Ok, Err}
use Rattle.std.specs.Prelude.{if◌then◌else◌, not, ◌&&◌, ◌||◌, ◌==◌, nat_lt, is_err, length}
use Rattle.std.specs.Option.{option_and_then}
use Rattle.std.specs.List.{list_any, flat_map, filter, filter_map, cons_option, AllByRecursion}
use Rattle.std.proofs.lemmas.Bool.{eq-eqb, cases_Bool, or_parts, or_left, or_right, or_from}
use Rattle.std.proofs.lemmas.Bool.Decides.{eqb_tells}
use Rattle.std.proofs.lemmas.List.Folds.{list_any-append}
use Rattle.std.proofs.Math.Dec.{eqb}
use Rattle.spec_folder.specs.ListView.{Distinct}
use Rattle.spec_format.specs.BlockFiles.{is_among}
use Rattle.spec_format.specs.Records.{child, parent}
use Rattle.spec_format.specs.Names.{Name, read_name}
use Rattle.spec_format.specs.SparseIndex.{ParentIndex, read_parent_index, PartIndex, read_part_index}
use Rattle.spec_folder.specs.View.{StoreView, RecordFields}
use Rattle.spec_format.specs.Claims.{Claim, same_claim, has_claim, overlap, repeats}
use Rattle.spec_folder.specs.Reasons.{Reason, ◌>>=◌, demand}
use Rattle.spec_folder.specs.Loads.{Rule, Loaded, load, is_part, is_part_role, record_claims, all_claims}
use Rattle.spec_folder.specs.Entries.{Role, IsPlain, IsParent, IsPart, parent_role, part_role, is_covered, role_of, stream}
use Rattle.spec_folder.specs.Audit.{admit, is_child, shares_key, is_parent_of, is_parent_role, is_orphan, is_orphan_role, verdict, with_verdict, verdicts, tried, verdict_on, judged, kept_of, dropped_of, kept_among, dropped_among}
use Rattle.spec_folder.specs.Shown.{IsOrphanIn, HasParentIn, IsShown}
use Rattle.law_folder.proofs.walks.Loads.{load-then}
use Rattle.law_folder.proofs.lists.Lists.{eqb-sym, is_among-append}
use Rattle.spec_folder.specs.Reasons as reason

-- ---- the role and the flag of a part

parent_role-is : (e : RecordFields) (streams : List (List ℕ)) (role : Role) → parent_role e streams ≡ Some role → is_part_role role ≡ false
unfolding parent_role
parent_role-is e streams role is = go (not (length (stream 1 streams) == 0)) (read_parent_index (stream 2 streams)) is where
  one : (index : ParentIndex) (t : Bool) → (if t then Some (IsParent index) else None) ≡ Some role → is_part_role role ≡ false
  one index true is = let same : IsParent index ≡ role = cc in rw (← same) refl
  one index false is = cc

  go : (b : Bool) (o : Option ParentIndex) → (if b then None else option_and_then (λ index. if index.key_len == e.key_len then Some (IsParent index) else None) o) ≡ Some role → is_part_role role ≡ false
  go true o is = cc
  go false None is = cc
  go false (Some index) is = one index (index.key_len == e.key_len) is

part_role-is : (key : List ℕ) (streams : List (List ℕ)) (role : Role) → part_role key streams ≡ Some role → is_part_role role ≡ true
unfolding part_role
part_role-is key streams role is = go (not (length (stream 0 streams) == 0)) (nat_lt 1048576 (length (stream 1 streams))) (read_name key) (read_part_index (stream 2 streams)) is where
  one : (name : Name) (index : PartIndex) (t : Bool) → (if t then Some (IsPart name index) else None) ≡ Some role → is_part_role role ≡ true
  one name index true is = let same : IsPart name index ≡ role = cc in rw (← same) refl
  one name index false is = cc

  go : (a b : Bool) (on : Option Name) (oi : Option PartIndex)
      → (if a then None else if b then None else option_and_then (λ name. option_and_then (λ index. if (index.signature == name.signature) && (index.key_len == length name.key) && is_covered index (length (stream 1 streams)) then Some (IsPart name index) else None) oi) on) ≡ Some role → is_part_role role ≡ true
  go true b on oi is = cc
  go false true on oi is = cc
  go false false None oi is = cc
  go false false (Some name) None is = cc
  go false false (Some name) (Some index) is = one name index ((index.signature == name.signature) && (index.key_len == length name.key) && is_covered index (length (stream 1 streams))) is

pub role-part : (e : RecordFields) (key : List ℕ) (streams : List (List ℕ)) (role : Role) → role_of e key streams ≡ Some role → (e.flags == child) ≡ is_part_role role
unfolding role_of
role-part e key streams role is =
    ⊎_elim
    (λ (a : (eqb e.flags parent ≡ true) × (e.flags ≡ parent)). let p : parent_role e streams ≡ Some role = rw a.0 at is in rw (parent_role-is e streams role p, a.1) refl)
    (λ (a : (eqb e.flags parent ≡ false) × _). let q : (if e.flags == child then part_role key streams else Some IsPlain) ≡ Some role = rw a.0 at is in
    ⊎_elim
    (λ (b : (e.flags == child) ≡ true). let p : part_role key streams ≡ Some role = rw b at q in rw (part_role-is key streams role p, b) refl)
    (λ (b : (e.flags == child) ≡ false). let p : ◌≡◌ {A = Option Role} (Some IsPlain) (Some role) = rw b at q in let r : IsPlain ≡ role = cc in rw (b, ← r) refl)
    (cases_Bool (e.flags == child)))
    (eqb_tells e.flags parent)

-- a part's name is read from its key
part_role-name : (key : List ℕ) (streams : List (List ℕ)) (name : Name) (index : PartIndex) → part_role key streams ≡ Some (IsPart name index) → read_name key ≡ Some name
unfolding part_role
part_role-name key streams name index is = go (not (length (stream 0 streams) == 0)) (nat_lt 1048576 (length (stream 1 streams))) (read_name key) (read_part_index (stream 2 streams)) is where
  one : (n : Name) (i : PartIndex) (t : Bool) → (if t then Some (IsPart n i) else None) ≡ Some (IsPart name index) → ◌≡◌ {A = Option Name} (Some n) (Some name)
  one n i true is = let same : IsPart n i ≡ IsPart name index = cc in let names : n ≡ name = cc in ap (λ (x : Name). Some x) names
  one n i false is = cc

  go : (a b : Bool) (on : Option Name) (oi : Option PartIndex)
      → (if a then None else if b then None else option_and_then (λ name. option_and_then (λ index. if (index.signature == name.signature) && (index.key_len == length name.key) && is_covered index (length (stream 1 streams)) then Some (IsPart name index) else None) oi) on) ≡ Some (IsPart name index) → on ≡ Some name
  go true b on oi is = cc
  go false true on oi is = cc
  go false false None oi is = cc
  go false false (Some n) None is = cc
  go false false (Some n) (Some i) is = one n i ((i.signature == n.signature) && (i.key_len == length n.key) && is_covered i (length (stream 1 streams))) is

pub role-name : (e : RecordFields) (key : List ℕ) (streams : List (List ℕ)) (name : Name) (index : PartIndex) → role_of e key streams ≡ Some (IsPart name index) → read_name key ≡ Some name
unfolding role_of
role-name e key streams name index is =
    ⊎_elim
    (λ (a : (e.flags == parent) ≡ true). let p : parent_role e streams ≡ Some (IsPart name index) = rw a at is in absurd (let x : true ≡ false = parent_role-is e streams (IsPart name index) p in cc))
    (λ (a : (e.flags == parent) ≡ false). let q : (if e.flags == child then part_role key streams else Some IsPlain) ≡ Some (IsPart name index) = rw a at is in
    ⊎_elim
    (λ (b : (e.flags == child) ≡ true). let p : part_role key streams ≡ Some (IsPart name index) = rw b at q in part_role-name key streams name index p)
    (λ (b : (e.flags == child) ≡ false). let p : ◌≡◌ {A = Option Role} (Some IsPlain) (Some (IsPart name index)) = rw b at q in absurd (let r : IsPlain ≡ IsPart name index = cc in cc))
    (cases_Bool (e.flags == child)))
    (cases_Bool (e.flags == parent))

-- `is_child` is true of a loaded node exactly where its role is a part's
pub child-part : (v : StoreView) (rule : Rule) (w : ℕ) (l : Loaded) → load v rule w ≡ Ok l → is_child v w ≡ is_part l
child-part v rule w l ok = load-then v rule w l ok (λ n e facts. rw (facts.node, facts.entry, facts.checks) (role-part e l.key l.streams l.role facts.facts.role))

pub node-is : (v : StoreView) (rule : Rule) (w : ℕ) (l : Loaded) → load v rule w ≡ Ok l → l.node ≡ w
node-is v rule w l ok = load-then v rule w l ok (λ n e facts. facts.facts.node_is)

-- ---- used blocks

pub has_claim-append : (xs ys : List Claim) (c : Claim) → has_claim (xs ++ ys) c ≡ (has_claim xs c || has_claim ys c)
unfolding has_claim
has_claim-append xs ys c = list_any-append (same_claim c) xs ys

overlap-append : (xs ys zs : List Claim) → overlap xs zs ≡ false → overlap ys zs ≡ false → overlap (xs ++ ys) zs ≡ false
unfolding overlap
overlap-append xs ys [] p q = refl
overlap-append xs ys (c ∷ zs) p q =
    let a = or_parts (has_claim xs c) (list_any (has_claim xs) zs) p in
    let b = or_parts (has_claim ys c) (list_any (has_claim ys) zs) q in
    or_from (has_claim (xs ++ ys) c) (list_any (has_claim (xs ++ ys)) zs) (has_claim-append xs ys c ∙ or_from (has_claim xs c) (has_claim ys c) a.0 b.0) (overlap-append xs ys zs a.1 b.1)

overlap-none : (zs : List Claim) → overlap [] zs ≡ false
unfolding overlap has_claim
overlap-none [] = refl
overlap-none (c ∷ zs) = overlap-none zs

-- ---- the induction

module _ (v : StoreView) (rule : Rule) (ws : List ℕ) (given : ℕ → Option Loaded) (shown : IsShown v rule ws given) where
  -- one that is kept was given, and is not still to be tried
  record IsGivenBefore (ts : List ℕ) (k : Loaded) : Type 0 where
    among : is_among ws k.node ≡ true
    is : given k.node ≡ Some k
    before : is_among ts k.node ≡ false

  record IsSoFar (kept : List Loaded) (ts : List ℕ) : Type 0 where
    each : AllByRecursion (IsGivenBefore ts) kept
    all : (x : ℕ) (k : Loaded) (p : Loaded → Bool) → is_among ws x ≡ true → given x ≡ Some k → is_among ts x ≡ false → p k ≡ true → list_any p kept ≡ true

  -- nothing that is kept meets a given one
  no_clash : (kept : List Loaded) (t : ℕ) (ts : List ℕ) (l : Loaded) → AllByRecursion (IsGivenBefore (t ∷ ts)) kept → is_among ws t ≡ true → given t ≡ Some l → overlap (flat_map all_claims kept) (all_claims l) ≡ false
  no_clash [] t ts l all among is = overlap-none (all_claims l)
  no_clash (k ∷ kept) t ts l all among is =
      overlap-append (all_claims k) (flat_map all_claims kept) (all_claims l)
      (shown.apart k.node t k l all.0.among among (eqb-sym t k.node (or_parts (t == k.node) (is_among ts k.node) all.0.before).0) all.0.is is).claims
      (no_clash kept t ts l all.1 among is)

  no_name : (kept : List Loaded) (t : ℕ) (ts : List ℕ) (l : Loaded) → AllByRecursion (IsGivenBefore (t ∷ ts)) kept → is_among ws t ≡ true → given t ≡ Some l → shares_key kept l ≡ false
  unfolding shares_key
  no_name [] t ts l all among is = refl
  no_name (k ∷ kept) t ts l all among is =
      or_from _ _
      (or_parts _ false (shown.apart k.node t k l all.0.among among (eqb-sym t k.node (or_parts (t == k.node) (is_among ts k.node) all.0.before).0) all.0.is is).names).0
      (no_name kept t ts l all.1 among is)

  PartsLast : List ℕ → Type 0
  PartsLast [] = Unit {0}
  PartsLast (t ∷ ts) = (is_child v t ≡ true → AllByRecursion (λ x. is_child v x ≡ true) ts) × PartsLast ts

  -- a node that names no part is not among those that name parts
  not_child : (ts : List ℕ) (x : ℕ) → is_child v x ≡ false → AllByRecursion (λ y. is_child v y ≡ true) ts → is_among ts x ≡ false
  not_child [] x isnt all = refl
  not_child (t ∷ ts) x isnt all =
      ⊎_elim
      (λ (e : (eqb t x ≡ true) × (t ≡ x)). let yes : is_child v x ≡ true = ap (is_child v) (sym e.1) ∙ all.0 in cc)
      (λ (e : (eqb t x ≡ false) × _). or_from (t == x) (is_among ts x) e.0 (not_child ts x isnt all.1))
      (eqb_tells t x)

  parent-no_part : (name : Name) (k : Loaded) → is_parent_of name k ≡ true → is_part k ≡ false
  parent-no_part name k of = go k.role of where
    go : (r : Role) → is_parent_role name k.key r ≡ true → is_part_role r ≡ false
    go IsPlain of = cc
    go (IsParent index) of = refl
    go (IsPart other index) of = cc

  no_orphan : (kept : List Loaded) (t : ℕ) (ts : List ℕ) (l : Loaded) → IsSoFar kept (t ∷ ts) → PartsLast (t ∷ ts) → is_among ws t ≡ true → given t ≡ Some l → is_orphan kept l ≡ false
  unfolding is_orphan PartsLast
  no_orphan kept t ts l far last among is = go l.role refl where
    flag : is_child v t ≡ is_part l
    flag = child-part v rule t l (shown.loads t l among is)

    go : (r : Role) → l.role ≡ r → is_orphan_role kept r ≡ false
    go IsPlain e = refl
    go (IsParent index) e = refl
    go (IsPart name index) e =
        let p : HasParentIn ws given name = shown.parents t l name index among is e in
        let isnt : is_child v p.at ≡ false = child-part v rule p.at p.parent (shown.loads p.at p.parent p.among p.is) ∙ parent-no_part name p.parent p.of in
        let yes : is_child v t ≡ true = flag ∙ ap is_part_role e in
        let other : (t == p.at) ≡ false = ⊎_elim (λ (x : (eqb t p.at ≡ true) × (t ≡ p.at)). let c : is_child v t ≡ is_child v p.at = ap (is_child v) x.1 in cc) (λ (x : (eqb t p.at ≡ false) × _). x.0) (eqb_tells t p.at) in
        let gone : is_among (t ∷ ts) p.at ≡ false = or_from (t == p.at) (is_among ts p.at) other (not_child ts p.at isnt (last.0 yes)) in
        rw (far.all p.at p.parent (is_parent_of name) p.among p.is gone p.of) refl

  -- the verdict on a given one
  verdict-given : (kept : List Loaded) (t : ℕ) (ts : List ℕ) (l : Loaded) → IsSoFar kept (t ∷ ts) → PartsLast (t ∷ ts) → is_among ws t ≡ true → given t ≡ Some l → verdict v rule kept t ≡ Ok l
  unfolding admit
  verdict-given kept t ts l far last among is =
      rw (shown.loads t l among is, shown.single t l among is, no_clash kept t ts l far.each among is, no_name kept t ts l far.each among is, no_orphan kept t ts l far last among is) refl

  -- an orphan finds no parent among what was given
  orphan-none : (name : Name) (kept : List Loaded) (ts : List ℕ) → ((x : ℕ) (k : Loaded) → is_among ws x ≡ true → given x ≡ Some k → is_parent_of name k ≡ false) → AllByRecursion (IsGivenBefore ts) kept → list_any (is_parent_of name) kept ≡ false
  orphan-none name [] ts none all = refl
  orphan-none name (k ∷ kept) ts none all = or_from (is_parent_of name k) (list_any (is_parent_of name) kept) (none k.node k all.0.among all.0.is) (orphan-none name kept ts none all.1)

  verdict-out : (kept : List Loaded) (t : ℕ) (ts : List ℕ) → IsSoFar kept (t ∷ ts) → is_among ws t ≡ true → given t ≡ None → is_err (verdict v rule kept t) ≡ true
  unfolding admit is_orphan
  verdict-out kept t ts far among is = go (load v rule t) refl where
    refused : (a b c : Bool) (l : Loaded) → c ≡ true → is_err (demand a reason.Claimed >>= λ _. demand b reason.Name >>= λ _. demand (not c) reason.Parent >>= λ _. Ok l) ≡ true
    refused true true c l e = rw e refl
    refused true false c l e = refl
    refused false b c l e = refl

    go : (r : Result Loaded Reason) → load v rule t ≡ r → is_err (r >>= admit kept) ≡ true
    go (Err why) e = refl
    go (Ok l) e =
        let o : IsOrphanIn ws given l = shown.out t l among is e in
        let none : is_orphan kept l ≡ true = rw (o.part, orphan-none o.name kept (t ∷ ts) o.none far.each) refl in
        refused (not (repeats (record_claims l) || overlap (flat_map all_claims kept) (all_claims l))) (not (shares_key kept l)) (is_orphan kept l) l none

  -- one more was tried
  before-less : (kept : List Loaded) (t : ℕ) (ts : List ℕ) → AllByRecursion (IsGivenBefore (t ∷ ts)) kept → AllByRecursion (IsGivenBefore ts) kept
  before-less [] t ts all = tt
  before-less (k ∷ kept) t ts all = (record { among = all.0.among; is = all.0.is; before = (or_parts (t == k.node) (is_among ts k.node) all.0.before).1 }, before-less kept t ts all.1)

  before-more : (kept : List Loaded) (ts : List ℕ) (l : Loaded) → AllByRecursion (IsGivenBefore ts) kept → IsGivenBefore ts l → AllByRecursion (IsGivenBefore ts) (kept ++ l ∷ [])
  before-more [] ts l all one = (one, tt)
  before-more (k ∷ kept) ts l all one = (all.0, before-more kept ts l all.1 one)

  far-given : (kept : List Loaded) (t : ℕ) (ts : List ℕ) (l : Loaded) → IsSoFar kept (t ∷ ts) → is_among ts t ≡ false → is_among ws t ≡ true → given t ≡ Some l → IsSoFar (kept ++ l ∷ []) ts
  far-given kept t ts l far lacks among is =
      let at : l.node ≡ t = node-is v rule t l (shown.loads t l among is) in
      record {
        each = before-more kept ts l (before-less kept t ts far.each) (record { among = ap (is_among ws) at ∙ among; is = ap given at ∙ is; before = ap (is_among ts) at ∙ lacks });
        all = λ x k p here there gone yes. list_any-append p kept (l ∷ []) ∙
            ⊎_elim
            (λ (e : (eqb t x ≡ true) × (t ≡ x)). let same : k ≡ l = let a : given t ≡ given x = ap given e.1 in cc in or_right (list_any p kept) (p l || false) (or_left (p l) false (ap p (sym same) ∙ yes)))
            (λ (e : (eqb t x ≡ false) × _). or_left (list_any p kept) (p l || false) (far.all x k p here there (or_from (t == x) (is_among ts x) e.0 gone) yes))
            (eqb_tells t x);
      }

  far-out : (kept : List Loaded) (t : ℕ) (ts : List ℕ) → IsSoFar kept (t ∷ ts) → given t ≡ None → IsSoFar kept ts
  far-out kept t ts far is =
      record {
        each = before-less kept t ts far.each;
        all = λ x k p here there gone yes.
            ⊎_elim
            (λ (e : (eqb t x ≡ true) × (t ≡ x)). let a : given t ≡ given x = ap given e.1 in cc)
            (λ (e : (eqb t x ≡ false) × _). far.all x k p here there (or_from (t == x) (is_among ts x) e.0 gone) yes)
            (eqb_tells t x);
      }

  -- what a verdict says
  Tells : Option Loaded → Option (Result Loaded Reason) → Type 0
  Tells (Some l) r = r ≡ Some (Ok l)
  Tells None r = kept_of r ≡ None

  err-kept : (r : Result Loaded Reason) → is_err r ≡ true → kept_of (Some r) ≡ None
  err-kept (Ok l) e = cc
  err-kept (Err why) e = refl

  err-with : (kept : List Loaded) (r : Result Loaded Reason) → is_err r ≡ true → with_verdict kept r ≡ kept
  err-with kept (Ok l) e = cc
  err-with kept (Err why) e = refl

  tells : (kept : List Loaded) (ts : List ℕ) → IsSoFar kept ts → PartsLast ts → Distinct ts → AllByRecursion (λ t. is_among ws t ≡ true) ts
      → (w : ℕ) → is_among ts w ≡ true → Tells (given w) (verdict_on (verdicts v rule kept ts) w)
  unfolding verdicts PartsLast Tells
  tells kept [] far last once among w here = cc
  tells kept (t ∷ ts) far last once among w here =
      ⊎_elim
      (λ (e : (eqb t w ≡ true) × (t ≡ w)). rw e.0 (rw (← e.1) (head (given t) refl)))
      (λ (e : (eqb t w ≡ false) × _). rw e.0 (tail (given t) refl (λ more after. tells more ts after last.1 once.1 among.1 w (or_then (t == w) (is_among ts w) e.0 here))))
      (eqb_tells t w) where
        or_then : (a b : Bool) → a ≡ false → (a || b) ≡ true → b ≡ true
        or_then a b e o = rw e at o

        head : (o : Option Loaded) → given t ≡ o → Tells o (Some (verdict v rule kept t))
        head (Some l) is = ap (λ (r : Result Loaded Reason). Some r) (verdict-given kept t ts l far last among.0 is)
        head None is = err-kept (verdict v rule kept t) (verdict-out kept t ts far among.0 is)

        tail : (o : Option Loaded) → given t ≡ o → ((more : List Loaded) → IsSoFar more ts → Tells (given w) (verdict_on (verdicts v rule more ts) w))
            → Tells (given w) (verdict_on (verdicts v rule (with_verdict kept (verdict v rule kept t)) ts) w)
        tail (Some l) is next = rw (verdict-given kept t ts l far last among.0 is) (next (kept ++ l ∷ []) (far-given kept t ts l far once.0 among.0 is))
        tail None is next = rw (err-with kept (verdict v rule kept t) (verdict-out kept t ts far among.0 is)) (next kept (far-out kept t ts far is))

  -- ---- the tried nodes are those of the walk, once, with the parts last

  tried-last : (xs ys : List ℕ) → AllByRecursion (λ x. is_child v x ≡ false) xs → AllByRecursion (λ x. is_child v x ≡ true) ys → PartsLast (xs ++ ys)
  unfolding PartsLast
  tried-last [] [] a b = tt
  tried-last [] (y ∷ ys) a b = ((λ _. b.1), tried-last [] ys tt b.1)
  tried-last (x ∷ xs) ys a b = ((λ e. absurd (let c : false ≡ true = sym a.0 ∙ e in cc)), tried-last xs ys a.1 b)

pub filter-all : (p : ℕ → Bool) (xs : List ℕ) → AllByRecursion (λ x. p x ≡ true) (filter p xs)
filter-all p [] = tt
filter-all p (x ∷ xs) = ⊎_elim (λ (e : p x ≡ true). rw e (e, filter-all p xs)) (λ (e : p x ≡ false). rw e (filter-all p xs)) (cases_Bool (p x))

filter-none : (p : ℕ → Bool) (xs : List ℕ) → AllByRecursion (λ x. p x ≡ false) (filter (λ x. not (p x)) xs)
filter-none p [] = tt
filter-none p (x ∷ xs) = ⊎_elim (λ (e : p x ≡ true). rw e (filter-none p xs)) (λ (e : p x ≡ false). rw e (e, filter-none p xs)) (cases_Bool (p x))

-- what is in a filtered list
pub is_among-filter : (p : ℕ → Bool) (xs : List ℕ) (w : ℕ) → is_among (filter p xs) w ≡ (p w && is_among xs w)
is_among-filter p [] w = and_false (p w) where
  and_false : (b : Bool) → false ≡ (b && false)
  and_false true = refl
  and_false false = refl
is_among-filter p (x ∷ xs) w =
    ⊎_elim
    (λ (a : p x ≡ true). ⊎_elim
    (λ (e : (eqb x w ≡ true) × (x ≡ w)). let y : p w ≡ true = ap p (sym e.1) ∙ a in rw (a, e.0, y) refl)
    (λ (e : (eqb x w ≡ false) × _). rw (a, e.0) (is_among-filter p xs w))
    (eqb_tells x w))
    (λ (a : p x ≡ false). ⊎_elim
    (λ (e : (eqb x w ≡ true) × (x ≡ w)). let y : p w ≡ false = ap p (sym e.1) ∙ a in rw (a, e.0, y) (is_among-filter p xs w ∙ ap (λ (b : Bool). b && is_among xs w) y))
    (λ (e : (eqb x w ≡ false) × _). rw (a, e.0) (is_among-filter p xs w))
    (eqb_tells x w))
    (cases_Bool (p x))

pub Distinct-filter : (p : ℕ → Bool) (xs : List ℕ) → Distinct xs → Distinct (filter p xs)
Distinct-filter p [] d = tt
Distinct-filter p (x ∷ xs) d = ⊎_elim (λ (e : p x ≡ true). rw e (is_among-filter p xs x ∙ rw (e, d.0) refl, Distinct-filter p xs d.1)) (λ (e : p x ≡ false). rw e (Distinct-filter p xs d.1)) (cases_Bool (p x))

pub Distinct-append : (xs ys : List ℕ) → Distinct xs → Distinct ys → AllByRecursion (λ x. is_among ys x ≡ false) xs → Distinct (xs ++ ys)
Distinct-append [] ys a b h = b
Distinct-append (x ∷ xs) ys a b h = (is_among-append xs ys x ∙ rw (a.0, h.0) refl, Distinct-append xs ys a.1 b h.1)

all-has : (xs ys : List ℕ) → ((x : ℕ) → is_among xs x ≡ true → is_among ys x ≡ true) → AllByRecursion (λ x. is_among ys x ≡ true) xs
all-has [] ys h = tt
all-has (x ∷ xs) ys h = (h x (or_left (x == x) (is_among xs x) (eq-eqb x x refl)), all-has xs ys (λ y g. h y (or_right (x == y) (is_among xs y) g)))

module _ (v : StoreView) (ws : List ℕ) (once : Distinct ws) where
  is_among-tried : (w : ℕ) → is_among (tried v ws) w ≡ is_among ws w
  is_among-tried w = is_among-append (filter (λ x. not (is_child v x)) ws) (filter (is_child v) ws) w
      ∙ ap₂' (is_among-filter (λ x. not (is_child v x)) ws w) (is_among-filter (is_child v) ws w) ∙ two (is_child v w) (is_among ws w) where
        ap₂' : {a b c d : Bool} → a ≡ b → c ≡ d → (a || c) ≡ (b || d)
        ap₂' p q = rw (p, q) refl

        two : (b h : Bool) → ((not b && h) || (b && h)) ≡ h
        two true h = refl
        two false true = refl
        two false false = refl

  pub Distinct-tried : Distinct (tried v ws)
  Distinct-tried = Distinct-append (filter (λ x. not (is_child v x)) ws) (filter (is_child v) ws) (Distinct-filter (λ x. not (is_child v x)) ws once) (Distinct-filter (is_child v) ws once) (apart ws (λ x h. h)) where
    lacks : (x : ℕ) → is_child v x ≡ false → is_among (filter (is_child v) ws) x ≡ false
    lacks x e = is_among-filter (is_child v) ws x ∙ rw e refl

    apart : (xs : List ℕ) → ((x : ℕ) → is_among xs x ≡ true → is_among xs x ≡ true) → AllByRecursion (λ x. is_among (filter (is_child v) ws) x ≡ false) (filter (λ x. not (is_child v x)) xs)
    apart [] h = tt
    apart (x ∷ xs) h = ⊎_elim (λ (e : is_child v x ≡ true). rw e (apart xs (λ y g. g))) (λ (e : is_child v x ≡ false). rw e (lacks x e, apart xs (λ y g. g))) (cases_Bool (is_child v x))

-- ---- what is kept and dropped

module _ (v : StoreView) (rule : Rule) (ws : List ℕ) (given : ℕ → Option Loaded) (shown : IsShown v rule ws given) where
  judged-tells : (w : ℕ) → is_among ws w ≡ true → Tells v rule ws given shown (given w) (verdict_on (judged v rule ws) w)
  judged-tells w here =
      tells v rule ws given shown [] (tried v ws)
      (record { each = tt; all = λ x k p among is gone yes. absurd (let c : is_among ws x ≡ false = sym (is_among-tried v ws shown.once x) ∙ gone in let d : true ≡ false = sym among ∙ c in cc) })
      (tried-last v rule ws given shown (filter (λ x. not (is_child v x)) ws) (filter (is_child v) ws) (filter-none (is_child v) ws) (filter-all (is_child v) ws))
      (Distinct-tried v ws shown.once)
      (all-has (tried v ws) ws (λ x h. sym (is_among-tried v ws shown.once x) ∙ h))
      w (is_among-tried v ws shown.once w ∙ here)

  tells-kept : (o : Option Loaded) (r : Option (Result Loaded Reason)) → Tells v rule ws given shown o r → kept_of r ≡ o
  unfolding Tells
  tells-kept None r e = e
  tells-kept (Some l) r e = rw e refl

  pub filter_map-kept : (xs : List ℕ) → AllByRecursion (λ x. is_among ws x ≡ true) xs → filter_map (λ w. kept_of (verdict_on (judged v rule ws) w)) xs ≡ filter_map given xs
  filter_map-kept [] all = refl
  filter_map-kept (x ∷ xs) all = rw (tells-kept (given x) (verdict_on (judged v rule ws) x) (judged-tells x all.0)) (ap (cons_option (given x)) (filter_map-kept xs all.1))

  pub kept-given : kept_among v rule ws ≡ filter_map given ws
  unfolding kept_among
  kept-given = filter_map-kept ws (all-has ws ws (λ x h. h))

  -- where all are given, none is dropped
  tells-dropped : (w : ℕ) (l : Loaded) (r : Option (Result Loaded Reason)) → r ≡ Some (Ok l) → dropped_of w r ≡ None
  tells-dropped w l r e = rw e refl

  dropped-one : (w : ℕ) (o : Option Loaded) → given w ≡ o → is_among ws w ≡ true → o ≢ None → dropped_of w (verdict_on (judged v rule ws) w) ≡ None
  unfolding Tells
  dropped-one w None is here some = absurd (some refl)
  dropped-one w (Some l) is here some = tells-dropped w l (verdict_on (judged v rule ws) w) (subst (λ (o : Option Loaded). Tells v rule ws given shown o (verdict_on (judged v rule ws) w)) is (judged-tells w here))

  pub dropped-none : ((w : ℕ) → is_among ws w ≡ true → given w ≢ None) → dropped_among v rule ws ≡ []
  unfolding dropped_among
  dropped-none some = go ws (all-has ws ws (λ x h. h)) where
    go : (xs : List ℕ) → AllByRecursion (λ x. is_among ws x ≡ true) xs → filter_map (λ w. dropped_of w (verdict_on (judged v rule ws) w)) xs ≡ []
    go [] all = refl
    go (x ∷ xs) all = rw (dropped-one x (given x) refl all.0 (some x all.0)) (go xs all.1)
