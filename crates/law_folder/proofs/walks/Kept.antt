-- What is kept of a walk, apart from all else that is.
use Rattle.std.proofs.Common.{◌≡◌, ◌≢◌, ℕ, List, [], ◌∷◌, ◌++◌, refl, ap, ap₂, sym, ◌∙◌, subst, ⊎_elim, Bool, true, false, Option, Some, None, Result, Ok, Err}
use Rattle.std.specs.Prelude.{map, if◌then◌else◌, not, ◌&&◌, ◌||◌, ◌==◌, is_err, is_some}
use Rattle.std.specs.List.{list_any, filter, filter_map, cons_option, AllByRecursion}
use Rattle.std.specs.Str.{bytes_eq}
use Rattle.std.proofs.lemmas.Bool.{eq-eqb, cases_Bool, or_parts, or_left, or_right, or_from, not-true, not-false}
use Rattle.std.proofs.lemmas.Bool.Decides.{eqb_tells}
use Rattle.std.proofs.Math.Dec.{eqb}
use Rattle.std.proofs.lemmas.List.Folds.{list_any-append}
use Rattle.blk_model.proofs.Same.{same_bytes, bytes_eq_self}
use Rattle.spec_format.specs.BlockFiles.{is_among}
use Rattle.spec_format.specs.Claims.{Claim, BlockOf, ExternalOf, same_claim, has_claim, overlap, repeats}
use Rattle.spec_folder.specs.ListView.{Distinct}
use Rattle.spec_folder.specs.View.{StoreView}
use Rattle.spec_folder.specs.Entries.{IsPart}
use Rattle.spec_folder.specs.Reasons.{Reason}
use Rattle.spec_folder.specs.Loads.{Rule, Loaded, load, is_part, record_claims, all_claims, claims_of_loaded}
use Rattle.spec_folder.specs.Audit.{same_answer, admit, is_child, collides, shares_key, is_parent_of, is_orphan, is_orphan_role, verdict, with_verdict, verdicts, tried, verdict_on, judged, kept_of, kept_as, is_kept, kept_nodes, kept_among}
use Rattle.spec_folder.specs.Shown.{Apart, IsShown}
use Rattle.law_folder.specs.KeptLaws.{IsDroppedIfLeftOut}
use Rattle.law_folder.proofs.lists.Lists.{eqb-sym, is_among-append}
use Rattle.law_folder.proofs.walks.LeavingOut.{leaving-out}
use Rattle.law_folder.proofs.walks.Loads.{bind_then, demand_then}
use Rattle.law_folder.proofs.walks.Shown.{is_among-filter, Distinct-filter, node-is, has_claim-append, filter-all, Distinct-append}
use Rattle.law_folder.proofs.walks.FoundFrames.{All-to}
use Rattle.law_folder.specs.KeptLaws.{KeptAreShown, KeptAloneAreKept}
use Rattle.spec_folder.specs.Reasons as reason

-- ---- used blocks and names, both ways

eqb-both : (a b : ℕ) → (a == b) ≡ (b == a)
eqb-both a b =
    ⊎_elim
    (λ (e : (eqb a b ≡ true) × (a ≡ b)). e.0 ∙ sym (eq-eqb b a (sym e.1)))
    (λ (e : (eqb a b ≡ false) × (a ≢ b)). e.0 ∙ sym (eqb-sym a b e.0))
    (eqb_tells a b)

same_claim-both : (c d : Claim) → same_claim c d ≡ same_claim d c
same_claim-both (BlockOf f b) (BlockOf g d) = rw (eqb-both f g, eqb-both b d) refl
same_claim-both (BlockOf f b) (ExternalOf n) = refl
same_claim-both (ExternalOf m) (BlockOf f b) = refl
same_claim-both (ExternalOf m) (ExternalOf n) = eqb-both m n

-- blocks that don't overlap those of one list: the first of them doesn't, nor do the others
overlap-cons : (c : Claim) (xs ys : List Claim) → overlap (c ∷ xs) ys ≡ false → (has_claim ys c ≡ false) × (overlap xs ys ≡ false)
unfolding overlap has_claim
overlap-cons c xs [] e = (refl, refl)
overlap-cons c xs (y ∷ ys) e =
    let parts = or_parts (same_claim y c || has_claim xs y) (list_any (has_claim (c ∷ xs)) ys) e in
    let here = or_parts (same_claim y c) (has_claim xs y) parts.0 in
    let rest = overlap-cons c xs ys parts.1 in
    (or_from (same_claim c y) (has_claim ys c) (same_claim-both c y ∙ here.0) rest.0, or_from (has_claim xs y) (overlap xs ys) here.1 rest.1)

overlap-none : (xs : List Claim) → overlap xs [] ≡ false
unfolding overlap
overlap-none xs = refl

pub overlap-back : (xs ys : List Claim) → overlap xs ys ≡ false → overlap ys xs ≡ false
unfolding overlap
overlap-back [] ys e = refl
overlap-back (c ∷ xs) ys e =
    let parts = overlap-cons c xs ys e in
    or_from (has_claim ys c) (overlap ys xs) parts.0 (overlap-back xs ys parts.1)

overlap-parts : (xs ys zs : List Claim) → overlap (xs ++ ys) zs ≡ false → (overlap xs zs ≡ false) × (overlap ys zs ≡ false)
unfolding overlap
overlap-parts xs ys [] e = (refl, refl)
overlap-parts xs ys (z ∷ zs) e =
    let parts = or_parts (has_claim (xs ++ ys) z) (overlap (xs ++ ys) zs) e in
    let here = or_parts (has_claim xs z) (has_claim ys z) (sym (has_claim-append xs ys z) ∙ parts.0) in
    let rest = overlap-parts xs ys zs parts.1 in
    (or_from _ _ here.0 rest.0, or_from _ _ here.1 rest.1)

flat-append : (xs ys : List Loaded) → claims_of_loaded (xs ++ ys) ≡ claims_of_loaded xs ++ claims_of_loaded ys
flat-append [] ys = refl
flat-append (x ∷ xs) ys = rw (flat-append xs ys) (assoc (all_claims x) (claims_of_loaded xs) (claims_of_loaded ys)) where
  assoc : (us vs ws : List Claim) → us ++ (vs ++ ws) ≡ (us ++ vs) ++ ws
  assoc [] vs ws = refl
  assoc (u ∷ us) vs ws = ap (λ (xs : List Claim). u ∷ xs) (assoc us vs ws)

bytes-both : (a b : List ℕ) → bytes_eq a b ≡ bytes_eq b a
bytes-both a b =
    ⊎_elim
    (λ (e : bytes_eq a b ≡ true). let same : a ≡ b = same_bytes a b e in e ∙ sym (subst (λ (x : List ℕ). bytes_eq x a ≡ true) same (bytes_eq_self a)))
    (λ (e : bytes_eq a b ≡ false). ⊎_elim
    (λ (f : bytes_eq b a ≡ true). let same : b ≡ a = same_bytes b a f in let t : bytes_eq a b ≡ true = subst (λ (x : List ℕ). bytes_eq x b ≡ true) same (bytes_eq_self b) in cc)
    (λ (f : bytes_eq b a ≡ false). e ∙ sym f)
    (cases_Bool (bytes_eq b a)))
    (cases_Bool (bytes_eq a b))

answer-both : (a b : Bool) → same_answer a b ≡ same_answer b a
answer-both true true = refl
answer-both true false = refl
answer-both false true = refl
answer-both false false = refl

named-back : (k l : Loaded) → shares_key (k ∷ []) l ≡ false → shares_key (l ∷ []) k ≡ false
unfolding shares_key
named-back k l e = rw (answer-both (is_part l) (is_part k), bytes-both l.key k.key) e

pub apart-back : (k l : Loaded) → Apart k l → Apart l k
apart-back k l apart = record { claims = overlap-back (all_claims k) (all_claims l) apart.claims; names = named-back k l apart.names }

-- ---- what is admitted

-- what is known of what is admitted among some that are kept
pub record IsAdmitted (store : StoreView) (rule : Rule) (kept : List Loaded) (node : ℕ) (loaded : Loaded) : Type 0 where
  pub loads : load store rule node ≡ Ok loaded
  pub single : repeats (record_claims loaded) ≡ false
  pub claims : overlap (claims_of_loaded kept) (all_claims loaded) ≡ false
  pub names : shares_key kept loaded ≡ false
  pub parent : is_orphan kept loaded ≡ false

pub admitted-is : (store : StoreView) (rule : Rule) (kept : List Loaded) (node : ℕ) (loaded : Loaded) → verdict store rule kept node ≡ Ok loaded → IsAdmitted store rule kept node loaded
unfolding admit
admitted-is store rule kept node loaded ok =
    bind_then (load store rule node) (admit kept) loaded ok (λ m loads ok.
    demand_then (not (collides kept m)) reason.Claimed _ loaded ok (λ claimed ok.
    demand_then (not (shares_key kept m)) reason.Name _ loaded ok (λ node_fields ok.
    demand_then (not (is_orphan kept m)) reason.Parent _ loaded ok (λ orphan ok.
    let same : m ≡ loaded = cc in
    let claims = or_parts (repeats (record_claims m)) (overlap (claims_of_loaded kept) (all_claims m)) (not-true (collides kept m) claimed) in
    subst (IsAdmitted store rule kept node) same (record { loads = loads; single = claims.0; claims = claims.1; names = not-true (shares_key kept m) node_fields; parent = not-true (is_orphan kept m) orphan })))))

-- what was admitted among more is admitted among less, but for its parent
pub record IsApartFrom (kept : List Loaded) (loaded : Loaded) : Type 0 where
  pub claims : overlap (claims_of_loaded kept) (all_claims loaded) ≡ false
  pub names : shares_key kept loaded ≡ false

named-parts : (xs ys : List Loaded) (loaded : Loaded) → shares_key (xs ++ ys) loaded ≡ false → (shares_key xs loaded ≡ false) × (shares_key ys loaded ≡ false)
unfolding shares_key
named-parts xs ys loaded e = or_parts _ _ (sym (list_any-append (λ k. same_answer (is_part k) (is_part loaded) && bytes_eq k.key loaded.key) xs ys) ∙ e)

apart-parts : (xs ys : List Loaded) (loaded : Loaded) → IsApartFrom (xs ++ ys) loaded → IsApartFrom xs loaded × IsApartFrom ys loaded
apart-parts xs ys loaded is =
    let claims = overlap-parts (claims_of_loaded xs) (claims_of_loaded ys) (all_claims loaded) (subst (λ (cs : List Claim). overlap cs (all_claims loaded) ≡ false) (flat-append xs ys) is.claims) in
    let names = named-parts xs ys loaded is.names in
    (record { claims = claims.0; names = names.0 }, record { claims = claims.1; names = names.1 })

-- ---- the passes

module _ (store : StoreView) (rule : Rule) where
  -- what is kept later is apart from what is kept so far
  later-apart : (kept : List Loaded) (ts : List ℕ) (node : ℕ) (loaded : Loaded) → verdict_on (verdicts store rule kept ts) node ≡ Some (Ok loaded) → IsApartFrom kept loaded
  unfolding verdicts
  later-apart kept [] node loaded e = cc
  later-apart kept (t ∷ ts) node loaded e =
      ⊎_elim
      (λ (here : (t == node) ≡ true).
      let is : ◌≡◌ {A = Option (Result Loaded Reason)} (Some (verdict store rule kept t)) (Some (Ok loaded)) = rw here at e in
      let one : verdict store rule kept t ≡ Ok loaded = cc in
      let a = admitted-is store rule kept t loaded one in record { claims = a.claims; names = a.names })
      (λ (other : (t == node) ≡ false). go (verdict store rule kept t) (later-apart (with_verdict kept (verdict store rule kept t)) ts node loaded (rw other at e)))
      (cases_Bool (t == node)) where
        go : (r : Result Loaded Reason) → IsApartFrom (with_verdict kept r) loaded → IsApartFrom kept loaded
        go (Ok k) more = (apart-parts kept (k ∷ []) loaded more).0
        go (Err why) more = more

  apart-one : (k l : Loaded) → IsApartFrom (k ∷ []) l → Apart k l
  apart-one k l is = record { claims = subst (λ (cs : List Claim). overlap cs (all_claims l) ≡ false) (nil (all_claims k)) is.claims; names = is.names } where
    nil : (cs : List Claim) → cs ++ [] ≡ cs
    nil [] = refl
    nil (c ∷ cs) = ap (λ (xs : List Claim). c ∷ xs) (nil cs)

  -- two that are kept are apart
  two-apart : (kept : List Loaded) (ts : List ℕ) (one other : ℕ) (k l : Loaded) → (one == other) ≡ false → verdict_on (verdicts store rule kept ts) one ≡ Some (Ok k) → verdict_on (verdicts store rule kept ts) other ≡ Some (Ok l) → Apart k l
  unfolding verdicts
  two-apart kept [] one other k l ne a b = cc
  two-apart kept (t ∷ ts) one other k l ne a b =
      ⊎_elim
      (λ (first : (eqb t one ≡ true) × (t ≡ one)).
      let is : ◌≡◌ {A = Option (Result Loaded Reason)} (Some (verdict store rule kept t)) (Some (Ok k)) = rw first.0 at a in
      let ok : verdict store rule kept t ≡ Ok k = cc in
      let not_other : (t == other) ≡ false = ap (λ (x : ℕ). x == other) first.1 ∙ ne in
      let more : verdict_on (verdicts store rule (with_verdict kept (verdict store rule kept t)) ts) other ≡ Some (Ok l) = rw not_other at b in
      apart-one k l (apart-parts kept (k ∷ []) l (later-apart (kept ++ k ∷ []) ts other l (rw ok at more))).1)
      (λ (no : (eqb t one ≡ false) × _). ⊎_elim
      (λ (second : (eqb t other ≡ true) × (t ≡ other)).
      let is : ◌≡◌ {A = Option (Result Loaded Reason)} (Some (verdict store rule kept t)) (Some (Ok l)) = rw second.0 at b in
      let ok : verdict store rule kept t ≡ Ok l = cc in
      let more : verdict_on (verdicts store rule (with_verdict kept (verdict store rule kept t)) ts) one ≡ Some (Ok k) = rw no.0 at a in
      apart-back l k (apart-one l k (apart-parts kept (l ∷ []) k (later-apart (kept ++ l ∷ []) ts one k (rw ok at more))).1))
      (λ (neither_is : (eqb t other ≡ false) × _). two-apart (with_verdict kept (verdict store rule kept t)) ts one other k l ne (rw no.0 at a) (rw neither_is.0 at b))
      (eqb_tells t other))
      (eqb_tells t one)

  -- what is kept was admitted among some of those that are kept
  record AmongKept (all : ℕ → Option (Result Loaded Reason)) (k : Loaded) : Type 0 where
    is : all k.node ≡ Some (Ok k)

  kept-admitted : (all : ℕ → Option (Result Loaded Reason)) (kept : List Loaded) (ts : List ℕ) (node : ℕ) (loaded : Loaded) → Distinct ts → AllByRecursion (AmongKept all) kept
      → ((w : ℕ) → is_among ts w ≡ true → all w ≡ verdict_on (verdicts store rule kept ts) w) → verdict_on (verdicts store rule kept ts) node ≡ Some (Ok loaded)
      → (before : List Loaded) × AllByRecursion (AmongKept all) before × IsAdmitted store rule before node loaded
  unfolding verdicts
  kept-admitted all kept [] node loaded once were same e = cc
  kept-admitted all kept (t ∷ ts) node loaded once were same e =
      ⊎_elim
      (λ (here : (eqb t node ≡ true) × (t ≡ node)).
      let is : ◌≡◌ {A = Option (Result Loaded Reason)} (Some (verdict store rule kept t)) (Some (Ok loaded)) = rw here.0 at e in
      let one : verdict store rule kept t ≡ Ok loaded = cc in
      (kept, were, subst (λ (x : ℕ). IsAdmitted store rule kept x loaded) here.1 (admitted-is store rule kept t loaded one)))
      (λ (other : (eqb t node ≡ false) × _). kept-admitted all (with_verdict kept (verdict store rule kept t)) ts node loaded once.1 (more (verdict store rule kept t) refl) rest (rw other.0 at e))
      (eqb_tells t node) where
        rest : (w : ℕ) → is_among ts w ≡ true → all w ≡ verdict_on (verdicts store rule (with_verdict kept (verdict store rule kept t)) ts) w
        rest w among =
            let apart : (t == w) ≡ false = ⊎_elim (λ (x : (eqb t w ≡ true) × (t ≡ w)). let gone : is_among ts w ≡ false = subst (λ (y : ℕ). is_among ts y ≡ false) x.1 once.0 in cc) (λ (x : (eqb t w ≡ false) × _). x.0) (eqb_tells t w) in
            same w (or_right (t == w) (is_among ts w) among) ∙ rw apart refl

        push : (xs : List Loaded) (k : Loaded) → AllByRecursion (AmongKept all) xs → AmongKept all k → AllByRecursion (AmongKept all) (xs ++ k ∷ [])
        push [] k xs one = (one, tt)
        push (x ∷ xs) k all_xs one = (all_xs.0, push xs k all_xs.1 one)

        more : (r : Result Loaded Reason) → verdict store rule kept t ≡ r → AllByRecursion (AmongKept all) (with_verdict kept r)
        more (Err why) is = were
        more (Ok k) is =
            let node_is : k.node ≡ t = node-is store rule t k (admitted-is store rule kept t k is).loads in
            let at : all t ≡ Some (Ok k) = same t (or_left (t == t) (is_among ts t) (eq-eqb t t refl)) ∙ rw (eq-eqb t t refl) (ap (λ (r : Result Loaded Reason). Some r) is) in
            push kept k were (record { is = ap all node_is ∙ at })

-- ---- the nodes are tried once

module _ (store : StoreView) (nodes : List ℕ) (once : Distinct nodes) where
  pub tried-once : Distinct (tried store nodes)
  tried-once =
      Distinct-append (filter (λ x. not (is_child store x)) nodes) (filter (is_child store) nodes) (Distinct-filter (λ x. not (is_child store x)) nodes once) (Distinct-filter (is_child store) nodes once)
      (All-to (λ x. not (is_child store x) ≡ true) (λ x. is_among (filter (is_child store) nodes) x ≡ false) (λ x e. is_among-filter (is_child store) nodes x ∙ rw (not-true (is_child store x) e) refl) _ (filter-all (λ x. not (is_child store x)) nodes))

  pub tried-among : (w : ℕ) → is_among (tried store nodes) w ≡ is_among nodes w
  tried-among w =
      is_among-append (filter (λ x. not (is_child store x)) nodes) (filter (is_child store) nodes) w
      ∙ ap₂ (λ (a b : Bool). a || b) (is_among-filter (λ x. not (is_child store x)) nodes w) (is_among-filter (is_child store) nodes w) ∙ two (is_child store w) (is_among nodes w) where
        two : (b h : Bool) → ((not b && h) || (b && h)) ≡ h
        two true h = refl
        two false true = refl
        two false false = refl

-- the verdict on each node that is tried is that of its place
own-verdicts : (store : StoreView) (rule : Rule) (kept : List Loaded) (ts : List ℕ) → Distinct ts → (P : ℕ × Result Loaded Reason → Type 0)
    → ((node : ℕ) (r : Result Loaded Reason) → is_among ts node ≡ true → verdict_on (verdicts store rule kept ts) node ≡ Some r → P (node, r)) → AllByRecursion P (verdicts store rule kept ts)
unfolding verdicts
own-verdicts store rule kept [] once P holds = tt
own-verdicts store rule kept (t ∷ ts) once P holds = (
  holds t (verdict store rule kept t) (or_left (t == t) (is_among ts t) (eq-eqb t t refl)) (rw (eq-eqb t t refl) refl),
  own-verdicts store rule (with_verdict kept (verdict store rule kept t)) ts once.1 P (λ node r among is.
      let apart : (t == node) ≡ false = ⊎_elim (λ (x : (eqb t node ≡ true) × (t ≡ node)). let gone : is_among ts node ≡ false = subst (λ (y : ℕ). is_among ts y ≡ false) x.1 once.0 in cc) (λ (x : (eqb t node ≡ false) × _). x.0) (eqb_tells t node) in
      holds node r (or_right (t == node) (is_among ts node) among) (rw apart is)),
)

-- ---- what is kept

kept-some : (o : Option (Result Loaded Reason)) (loaded : Loaded) → kept_of o ≡ Some loaded → o ≡ Some (Ok loaded)
kept-some None loaded e = cc
kept-some (Some (Ok l)) loaded e = let same : l ≡ loaded = cc in rw same refl
kept-some (Some (Err why)) loaded e = cc

some-is : {A : Type 0} (o : Option A) → is_some o ≡ true → (x : A) × (o ≡ Some x)
some-is None e = cc
some-is (Some x) e = (x, refl)

module _ (store : StoreView) (rule : Rule) (nodes : List ℕ) (once : Distinct nodes) where
  -- a node that isn't kept is dropped
  pub not_kept-dropped : (keep : ℕ → Bool) → ((node : ℕ) → is_kept store rule nodes node ≡ true → keep node ≡ true) → AllByRecursion (IsDroppedIfLeftOut keep) (judged store rule nodes)
  not_kept-dropped keep keeps = own-verdicts store rule [] (tried store nodes) (tried-once store nodes once) (IsDroppedIfLeftOut keep) (λ node r among is left. go node r is left) where
    go : (node : ℕ) (r : Result Loaded Reason) → verdict_on (judged store rule nodes) node ≡ Some r → keep node ≡ false → is_err r ≡ true
    go node (Err why) is left = refl
    go node (Ok l) is left = let here : keep node ≡ true = keeps node (rw is refl) in cc

  -- so nodes that aren't kept may be left out
  pub kept-without : (keep : ℕ → Bool) → ((node : ℕ) → is_kept store rule nodes node ≡ true → keep node ≡ true) → kept_among store rule (filter keep nodes) ≡ kept_among store rule nodes
  kept-without keep keeps = leaving-out store rule keep nodes (not_kept-dropped keep keeps)

  abbrev all : ℕ → Option (Result Loaded Reason)
  all = verdict_on (judged store rule nodes)

  admitted : (node : ℕ) (loaded : Loaded) → kept_as store rule nodes node ≡ Some loaded → (before : List Loaded) × AllByRecursion (AmongKept store rule all) before × IsAdmitted store rule before node loaded
  admitted node loaded is = kept-admitted store rule all [] (tried store nodes) node loaded (tried-once store nodes once) tt (λ w among. refl) (kept-some (all node) loaded is)

  -- one of some that passes a test
  any-of : (p : Loaded → Bool) (xs : List Loaded) → AllByRecursion (AmongKept store rule all) xs → list_any p xs ≡ true → (k : Loaded) × (all k.node ≡ Some (Ok k)) × (p k ≡ true)
  any-of p [] were e = cc
  any-of p (x ∷ xs) were e = ⊎_elim (λ (h : p x ≡ true). (x, were.0.is, h)) (λ (h : p x ≡ false). any-of p xs were.1 (rw h at e)) (cases_Bool (p x))

  kept-among : (node : ℕ) (loaded : Loaded) → is_among nodes node ≡ true → kept_as store rule nodes node ≡ Some loaded → is_among (kept_nodes store rule nodes) node ≡ true
  kept-among node loaded among is = is_among-filter (is_kept store rule nodes) nodes node ∙ rw (is, among) refl

  was-tried : (kept : List Loaded) (ts : List ℕ) (node : ℕ) (r : Result Loaded Reason) → verdict_on (verdicts store rule kept ts) node ≡ Some r → is_among ts node ≡ true
  unfolding verdicts
  was-tried kept [] node r e = cc
  was-tried kept (t ∷ ts) node r e =
      ⊎_elim (λ (h : (t == node) ≡ true). or_left (t == node) (is_among ts node) h) (λ (h : (t == node) ≡ false). or_right (t == node) (is_among ts node) (was-tried (with_verdict kept (verdict store rule kept t)) ts node r (rw h at e))) (cases_Bool (t == node))

  pub kept-shown-here : IsShown store rule (kept_nodes store rule nodes) (kept_as store rule nodes)
  unfolding is_orphan
  kept-shown-here = record {
    once = Distinct-filter (is_kept store rule nodes) nodes once;
    loads = λ node loaded among is. (admitted node loaded is).2.loads;
    single = λ node loaded among is. (admitted node loaded is).2.single;
    apart = λ one other loaded others a b ne is are. two-apart store rule [] (tried store nodes) one other loaded others ne (kept-some (all one) loaded is) (kept-some (all other) others are);
    parents = λ node loaded name index among is part.
        let found = admitted node loaded is in
        let none : is_orphan_role found.0 (IsPart name index) ≡ false = subst (λ r. is_orphan_role found.0 r ≡ false) part found.2.parent in
        let one = any-of (is_parent_of name) found.0 found.1 (not-false _ none) in
        record {
          at = one.0.node;
          parent = one.0;
          among = kept-among one.0.node one.0 (sym (tried-among store nodes once one.0.node) ∙ was-tried [] (tried store nodes) one.0.node (Ok one.0) one.1) (ap kept_of one.1);
          is = ap kept_of one.1;
          of = one.2;
        };
    out = λ node loaded among none ok. absurd (lacks node among none);
  } where
    both : (a b : Bool) → (a && b) ≡ true → a ≡ true
    both true b e = refl
    both false b e = cc

    lacks : (node : ℕ) → is_among (kept_nodes store rule nodes) node ≡ true → kept_as store rule nodes node ≡ None → ⊥
    lacks node among none =
        let here : (is_kept store rule nodes node && is_among nodes node) ≡ true = sym (is_among-filter (is_kept store rule nodes) nodes node) ∙ among in
        let some : is_kept store rule nodes node ≡ true = both _ _ here in
        let no : is_kept store rule nodes node ≡ false = ap is_some none in cc

pub kept-shown : KeptAreShown
kept-shown store rule nodes once = kept-shown-here store rule nodes once

pub kept-alone : KeptAloneAreKept
kept-alone store rule nodes once = kept-without store rule nodes once (is_kept store rule nodes) (λ node e. e)

-- ---- the nodes of what is kept

module _ (store : StoreView) (rule : Rule) (nodes : List ℕ) (once : Distinct nodes) where
  pub kept-node : (node : ℕ) (loaded : Loaded) → kept_as store rule nodes node ≡ Some loaded → loaded.node ≡ node
  kept-node node loaded is = node-is store rule node loaded (admitted store rule nodes once node loaded is).2.loads

  nodes-of : (xs : List ℕ) → map (λ (k : Loaded). k.node) (filter_map (kept_as store rule nodes) xs) ≡ filter (is_kept store rule nodes) xs
  nodes-of [] = refl
  nodes-of (x ∷ xs) = go (kept_as store rule nodes x) refl (nodes-of xs) where
    go : (o : Option Loaded) → kept_as store rule nodes x ≡ o → map (λ (k : Loaded). k.node) (filter_map (kept_as store rule nodes) xs) ≡ filter (is_kept store rule nodes) xs
        → map (λ (k : Loaded). k.node) (cons_option (kept_as store rule nodes x) (filter_map (kept_as store rule nodes) xs)) ≡ (if is_some (kept_as store rule nodes x) then x ∷ filter (is_kept store rule nodes) xs else filter (is_kept store rule nodes) xs)
    go None e more = rw e more
    go (Some l) e more = rw e (ap₂ (λ (y : ℕ) (ys : List ℕ). y ∷ ys) (kept-node x l e) more)

  -- the kept nodes are those of what is kept
  pub kept-nodes : map (λ (k : Loaded). k.node) (kept_among store rule nodes) ≡ kept_nodes store rule nodes
  unfolding kept_among
  kept-nodes = nodes-of nodes
