-- What a layout says is shown.
use Rattle.std.proofs.Common.{◌≡◌, ℕ, ◌<◌, List, [], ◌∷◌, ◌++◌, map, refl, ap, ap₂, sym, ◌∙◌, subst, ⊎_elim, Bool, true, false, cond, arith, Option, Some, None, Ok}
use Rattle.std.specs.Prelude.{if◌then◌else◌, not, ◌&&◌, ◌||◌, ◌==◌}
use Rattle.std.specs.Option.{option_map, option_map_or, option_and_then}
use Rattle.std.specs.List.{list_any, filter_map, cons_option}
use Rattle.std.proofs.lemmas.Bool.{eqb-true, eq-eqb, cases_Bool, or_parts, or_left, or_right, and_parts}
use Rattle.std.proofs.lemmas.Bool.Decides.{eqb_tells}
use Rattle.std.proofs.Math.Dec.{eqb}
use Rattle.spec_folder.specs.ListView.{Distinct}
use Rattle.blk_model.specs.Items.{Item, main, part, Row, main_row, part_row, same_item, item_of, key_of}
use Rattle.blk_model.specs.State.{State, Object, part_at}
use Rattle.blk_model.proofs.Same.{same_bytes, one_item, same_item_self}
use Rattle.spec_format.specs.Hash.{hash}
use Rattle.spec_format.specs.BlockFiles.{is_among}
use Rattle.spec_format.specs.Names.{Name, read_name}
use Rattle.std.specs.Str.{bytes_eq}
use Rattle.spec_format.specs.SparseIndex.{PartIndex}
use Rattle.spec_format.specs.Claims.{Claim, BlockOf, ExternalOf, same_claim, has_claim, overlap, repeats, claims_of}
use Rattle.spec_folder.specs.View.{StoreView}
use Rattle.spec_folder.specs.Chains.{Chain, chain, bucket_of_hash}
use Rattle.spec_folder.specs.Loads.{Rule, held_rule, Loaded, load, is_part, is_part_role, record_claims, all_claims}
use Rattle.spec_folder.specs.Audit.{kept_among, shares_key, is_parent_of, is_parent_role}
use Rattle.spec_folder.specs.Entries.{Role, IsPlain, IsParent, IsPart}
use Rattle.spec_folder.specs.Found.{row_of_loaded}
use Rattle.spec_folder.specs.Shown.{Apart, IsOrphanIn, HasParentIn, IsShown}
use Rattle.spec_folder.specs.Layout.{Layout, is_listed, nodes_of, order, rule_of, IsPartAt, IsPlacedAt, Holds, HoldsExcept, is_in}
use Rattle.spec_folder.specs.Given.{given_by, is_settled_role, is_settled, GoesWith, picked_with, picked_in, IsTest}
use Rattle.law_folder.proofs.walks.Loads.{load-then}
use Rattle.law_folder.proofs.walks.Loading.{load-rule, load-one, load-clean}
use Rattle.law_folder.proofs.chains.Chains.{chain-is}
use Rattle.law_folder.proofs.walks.Shown.{role-name, kept-given}
use Rattle.blk_model.specs.Holding as model

-- ---- used blocks

pub same_claim-eq : (c d : Claim) → same_claim c d ≡ true → c ≡ d
same_claim-eq (BlockOf f b) (BlockOf g c) e = let p = and_parts (f == g) (b == c) e in ap₂ BlockOf (eqb-true f g p.0) (eqb-true b c p.1)
same_claim-eq (BlockOf f b) (ExternalOf n) e = cc
same_claim-eq (ExternalOf n) (BlockOf f b) e = cc
same_claim-eq (ExternalOf m) (ExternalOf n) e = ap ExternalOf (eqb-true m n e)

pub same_claim-self : (c : Claim) → same_claim c c ≡ true
same_claim-self (BlockOf f b) = rw (eq-eqb f f refl, eq-eqb b b refl) refl
same_claim-self (ExternalOf n) = eq-eqb n n refl

-- used blocks with different owners do not clash
clash-none : (xs ys : List Claim) → ((c : Claim) → has_claim xs c ≡ true → has_claim ys c ≡ true → ⊥) → overlap xs ys ≡ false
unfolding overlap has_claim
clash-none xs [] apart = refl
clash-none xs (c ∷ ys) apart =
    ⊎_elim
    (λ (e : has_claim xs c ≡ true). absurd (apart c e (or_left (same_claim c c) (list_any (same_claim c) ys) (same_claim-self c))))
    (λ (e : has_claim xs c ≡ false). rw e (clash-none xs ys (λ d a b. apart d a (or_right (same_claim d c) (list_any (same_claim d) ys) b))))
    (cases_Bool (has_claim xs c))

pub repeats-tail : (xs ys : List Claim) → repeats (xs ++ ys) ≡ false → repeats ys ≡ false
unfolding repeats
repeats-tail [] ys e = e
repeats-tail (x ∷ xs) ys e = repeats-tail xs ys (or_parts (has_claim (xs ++ ys) x) (repeats (xs ++ ys)) e).1

-- ---- names

named-same : (k l : Loaded) → shares_key (k ∷ []) l ≡ true → (is_part k ≡ is_part l) × (k.key ≡ l.key)
unfolding shares_key
named-same k l e = go (is_part k) (is_part l) (bytes_eq k.key l.key) refl refl refl e where
  go : (a b c : Bool) → is_part k ≡ a → is_part l ≡ b → bytes_eq k.key l.key ≡ c → (((if a then b else not b) && c) || false) ≡ true → (is_part k ≡ is_part l) × (k.key ≡ l.key)
  go true true true x y z h = (x ∙ sym y, same_bytes k.key l.key z)
  go true true false x y z h = cc
  go true false c x y z h = cc
  go false true c x y z h = cc
  go false false true x y z h = (x ∙ sym y, same_bytes k.key l.key z)
  go false false false x y z h = cc

-- the item that a loaded record is of
item_at : Loaded → Item
item_at l = item_of (row_of_loaded l)

pub item-row : (m : State) (i : Item) (r : Row) → model.row_of m i ≡ Some r → item_of r ≡ i
unfolding model.row_of
item-row m i r e = go i (model.owner_object m i) e where
  sub : (key : List ℕ) (n : ℕ) (o : Option _) → option_map (λ value. part_row key n value) o ≡ Some r → item_of r ≡ part key n
  sub key n None e = cc
  sub key n (Some value) e = let same : part_row key n value ≡ r = cc in ap item_of (sym same)

  go : (i : Item) (o : Option Object) → option_and_then (λ object. model.row_in object i) o ≡ Some r → item_of r ≡ i
  go i None e = cc
  go (main key) (Some o) e = let same : main_row key o.shape o.streams ≡ r = cc in ap item_of (sym same)
  go (part key n) (Some o) e = sub key n (part_at o n) e

-- records with one key and flag are of one item
items-same : (k l : Loaded) → ((name : Name) (index : PartIndex) → k.role ≡ IsPart name index → read_name k.key ≡ Some name) → ((name : Name) (index : PartIndex) → l.role ≡ IsPart name index → read_name l.key ≡ Some name)
    → is_part k ≡ is_part l → k.key ≡ l.key → item_at k ≡ item_at l
unfolding item_at
items-same k l named_k named_l flags keys = go k.role l.role refl refl where
  go : (a b : Role) → k.role ≡ a → l.role ≡ b → item_of (row_of_loaded k) ≡ item_of (row_of_loaded l)
  go IsPlain IsPlain x y = rw (x, y) (ap main keys)
  go IsPlain (IsParent j) x y = rw (x, y) (ap main keys)
  go IsPlain (IsPart n j) x y = let a : is_part k ≡ false = ap is_part_role x in let b : is_part l ≡ true = ap is_part_role y in cc
  go (IsParent i) IsPlain x y = rw (x, y) (ap main keys)
  go (IsParent i) (IsParent j) x y = rw (x, y) (ap main keys)
  go (IsParent i) (IsPart n j) x y = let a : is_part k ≡ false = ap is_part_role x in let b : is_part l ≡ true = ap is_part_role y in cc
  go (IsPart o i) IsPlain x y = let a : is_part k ≡ true = ap is_part_role x in let b : is_part l ≡ false = ap is_part_role y in cc
  go (IsPart o i) (IsParent j) x y = let a : is_part k ≡ true = ap is_part_role x in let b : is_part l ≡ false = ap is_part_role y in cc
  go (IsPart o i) (IsPart n j) x y =
      let a : read_name k.key ≡ Some o = named_k o i x in let b : read_name l.key ≡ Some n = named_l n j y in
      let c : read_name k.key ≡ read_name l.key = ap read_name keys in let same : o ≡ n = cc in
      rw (x, y) (ap (λ (z : Name). part z.key z.part) same)

-- ---- places

-- the item of a node among those of items
pub record IsNodeOf (y : Layout) (items : List Item) (w : ℕ) : Type 0 where
  pub item : Item
  pub among : is_in items item ≡ true
  pub is : y.place item ≡ w

pub node-of : (y : Layout) (items : List Item) (w : ℕ) → is_among (nodes_of y items) w ≡ true → IsNodeOf y items w
node-of y [] w e = absurd (let c : false ≡ true = e in cc)
node-of y (i ∷ items) w e =
    ⊎_elim
    (λ (h : (eqb (y.place i) w ≡ true) × (y.place i ≡ w)). record { item = i; among = or_left (same_item i i) (is_in items i) (same_item_self i); is = h.1 })
    (λ (h : (eqb (y.place i) w ≡ false) × _).
    let rest : IsNodeOf y items w = node-of y items w (rw h.0 at e) in
    record { item = rest.item; among = or_right (same_item rest.item i) (is_in items rest.item) rest.among; is = rest.is })
    (eqb_tells (y.place i) w)

pub is_among-node : (y : Layout) (items : List Item) (i : Item) → is_in items i ≡ true → is_among (nodes_of y items) (y.place i) ≡ true
is_among-node y [] i e = e
is_among-node y (j ∷ items) i e =
    ⊎_elim
    (λ (h : same_item i j ≡ true). or_left (y.place j == y.place i) (is_among (nodes_of y items) (y.place i)) (eq-eqb _ _ (sym (ap y.place (one_item i j h)))))
    (λ (h : same_item i j ≡ false). or_right (y.place j == y.place i) (is_among (nodes_of y items) (y.place i)) (is_among-node y items i (rw h at e)))
    (cases_Bool (same_item i j))

pub given-parts : (good : Loaded → Bool) (o : Option Loaded) (l : Loaded) → option_and_then (λ k. if good k then Some k else None) o ≡ Some l → (o ≡ Some l) × (good l ≡ true)
given-parts good None l e = cc
given-parts good (Some k) l e =
    ⊎_elim
    (λ (h : good k ≡ true). let p : ◌≡◌ {A = Option Loaded} (Some k) (Some l) = rw h at e in let s : k ≡ l = cc in (p, ap good (sym s) ∙ h))
    (λ (h : good k ≡ false). let p : ◌≡◌ {A = Option Loaded} None (Some l) = rw h at e in absurd (cc))
    (cases_Bool (good k))

given-from : (good : Loaded → Bool) (o : Option Loaded) (l : Loaded) → o ≡ Some l → good l ≡ true → option_and_then (λ k. if good k then Some k else None) o ≡ Some l
given-from good o l is passes = rw (is, passes) refl

given-not : (good : Loaded → Bool) (o : Option Loaded) (l : Loaded) → o ≡ Some l → option_and_then (λ k. if good k then Some k else None) o ≡ None → good l ≡ false
given-not good o l is none =
    ⊎_elim
    (λ (h : good l ≡ true). let p : ◌≡◌ {A = Option Loaded} (Some l) None = rw (is, h) at none in absurd (cc))
    (λ (h : good l ≡ false). h)
    (cases_Bool (good l))

-- a laid item is that of its record
pub item-of : (m : State) (y : Layout) → ((i : Item) → is_listed m i ≡ true → IsPlacedAt m y i) → (i : Item) (l : Loaded) → is_listed m i ≡ true → y.at (y.place i) ≡ Some l → item_of (row_of_loaded l) ≡ i
item-of m y lay i l there is =
    let laid : IsPlacedAt m y i = lay i there in
    let same : laid.loaded ≡ l = let a : y.at (y.place i) ≡ Some laid.loaded = laid.here in cc in
    ap (λ (x : Loaded). item_of (row_of_loaded x)) (sym same) ∙ item-row m i (row_of_loaded laid.loaded) laid.row

-- the parent that a name says has its key
pub parent-main : (name : Name) (k : Loaded) → is_parent_of name k ≡ true → item_of (row_of_loaded k) ≡ main name.key
parent-main name k of = go k.role refl where
  go : (a : Role) → k.role ≡ a → item_of (row_of_loaded k) ≡ main name.key
  go IsPlain e = let x : false ≡ true = ap (is_parent_role name k.key) (sym e) ∙ of in absurd (cc)
  go (IsParent index) e =
      let x : (bytes_eq k.key name.key && (index.signature == name.signature) && index.has_part name.part) ≡ true = ap (is_parent_role name k.key) (sym e) ∙ of in
      rw e (ap main (same_bytes k.key name.key (and_parts (bytes_eq k.key name.key) (index.signature == name.signature) (and_parts (bytes_eq k.key name.key && (index.signature == name.signature)) (index.has_part name.part) x).0).0))
  go (IsPart other index) e = let x : false ≡ true = ap (is_parent_role name k.key) (sym e) ∙ of in absurd (cc)

-- ---- what is laid is shown

module _ (except : ℕ → Bool) (v : StoreView) (m : State) (y : Layout) (r : HoldsExcept except v m y) (rule : Rule) (items : List Item) (good : Loaded → Bool)
    (state : rule.state ≡ 0) (sub : (i : Item) → is_in items i ≡ true → is_listed m i ≡ true) (once : Distinct (nodes_of y items)) (goes : GoesWith y items rule good)
    (whole : (i : Item) (l : Loaded) → is_in items i ≡ true → y.at (y.place i) ≡ Some l → good l ≡ true → except (y.place i) ≡ false)
    (broken : (i : Item) (k : Loaded) → is_in items i ≡ true → except (y.place i) ≡ true → load v rule (y.place i) ≡ Ok k → IsOrphanIn (nodes_of y items) (given_by good y) k) where
  -- a listed node's record loads by itself
  loads-alone : (i : Item) (l : Loaded) → y.at (y.place i) ≡ Some l → except (y.place i) ≡ false → load v (rule_of y (y.place i)) (y.place i) ≡ Ok l
  loads-alone i l is sound = r.each (y.place i) l is sound

  -- its state is that of the rule
  state-of : (i : Item) → is_in items i ≡ true → rule.state ≡ y.state (y.place i)
  state-of i among = state ∙ sym (r.normal (y.place i) (is_among-node y m.uses i (sub i among)))

  below : (h : ℕ) → bucket_of_hash h < 65536
  below h = omega arith

  loads-with : (i : Item) (l : Loaded) → is_in items i ≡ true → given_by good y (y.place i) ≡ Some l → load v rule (y.place i) ≡ Ok l
  loads-with i l among given =
      let p = given-parts good (y.at (y.place i)) l given in
      let b : ℕ = bucket_of_hash (hash l.key) in
      let listed : is_among (order m y) (y.place i) ≡ true = is_among-node y m.uses i (sub i among) in
      let c : chain v b ≡ record { reached = y.chains b; end = 0 } = chain-is v b (y.chains b) r.no_record (r.chains b (below (hash l.key))) in
      let reached : is_among (chain v b).reached l.contents ≡ true = ap (λ (x : Chain). is_among x.reached l.contents) c ∙ r.chained (y.place i) l listed p.0 (whole i l among p.0 p.1) in
      load-rule v (rule_of y (y.place i)) rule (y.place i) l (loads-alone i l p.0 (whole i l among p.0 p.1)) (state-of i among) (goes.clean i l among p.0 p.1) (or_right (not rule.chained) (is_among (chain v b).reached l.contents) reached)

  -- a laid item is that of its record
  item-is : (i : Item) (l : Loaded) → is_in items i ≡ true → y.at (y.place i) ≡ Some l → item_at l ≡ i
  unfolding item_at
  item-is i l among is =
      let laid : IsPlacedAt m y i = r.laid i (sub i among) in
      let same : laid.loaded ≡ l = let a : y.at (y.place i) ≡ Some laid.loaded = laid.here in cc in
      ap (λ (x : Loaded). item_of (row_of_loaded x)) (sym same) ∙ item-row m i (row_of_loaded laid.loaded) laid.row

  name-of : (i : Item) (l : Loaded) → is_in items i ≡ true → y.at (y.place i) ≡ Some l → good l ≡ true → (name : Name) (index : PartIndex) → l.role ≡ IsPart name index → read_name l.key ≡ Some name
  name-of i l among is passes name index role = load-then v (rule_of y (y.place i)) (y.place i) l (loads-alone i l is (whole i l among is passes)) (λ n e f. role-name e l.key l.streams name index (f.facts.role ∙ ap Some role))

  -- two of them are apart
  apart-items : (i j : Item) (k l : Loaded) → is_in items i ≡ true → is_in items j ≡ true → (y.place i == y.place j) ≡ false → y.at (y.place i) ≡ Some k → good k ≡ true → y.at (y.place j) ≡ Some l → good l ≡ true → Apart k l
  apart-items i j k l in_i in_j other is_k good_k is_l good_l = record {
    claims = clash-none (all_claims k) (all_claims l) (λ c a b.
        let p : y.owner c ≡ Some (y.place i) = r.own (y.place i) k c is_k a in
        let q : y.owner c ≡ Some (y.place j) = r.own (y.place j) l c is_l b in
        let s : y.place i ≡ y.place j = cc in
        let t : (y.place i == y.place j) ≡ true = eq-eqb _ _ s in
        cc);
    names = ⊎_elim
        (λ (e : shares_key (k ∷ []) l ≡ true).
        let p = named-same k l e in
        let s : item_at k ≡ item_at l = items-same k l (name-of i k in_i is_k good_k) (name-of j l in_j is_l good_l) p.0 p.1 in
        let t : i ≡ j = sym (item-is i k in_i is_k) ∙ s ∙ item-is j l in_j is_l in
        let u : (y.place i == y.place j) ≡ true = eq-eqb _ _ (ap y.place t) in
        absurd (let x : true ≡ false = sym u ∙ other in cc))
        (λ (e : shares_key (k ∷ []) l ≡ false). e)
        (cases_Bool (shares_key (k ∷ []) l));
  }

  -- a part's item
  part-item : (l : Loaded) (name : Name) (index : PartIndex) → l.role ≡ IsPart name index → item_at l ≡ part name.key name.part
  unfolding item_at
  part-item l name index role = rw role refl

  main-item : (name : Name) (k : Loaded) → is_parent_of name k ≡ true → item_at k ≡ main name.key
  unfolding item_at
  main-item name k of = go k.role refl where
    go : (a : Role) → k.role ≡ a → item_of (row_of_loaded k) ≡ main name.key
    go IsPlain e = let x : false ≡ true = ap (is_parent_role name k.key) (sym e) ∙ of in absurd (cc)
    go (IsParent index) e =
        let x : (bytes_eq k.key name.key && (index.signature == name.signature) && index.has_part name.part) ≡ true = ap (is_parent_role name k.key) (sym e) ∙ of in
        rw e (ap main (same_bytes k.key name.key (and_parts (bytes_eq k.key name.key) (index.signature == name.signature) (and_parts (bytes_eq k.key name.key && (index.signature == name.signature)) (index.has_part name.part) x).0).0))
    go (IsPart other index) e = let x : false ≡ true = ap (is_parent_role name k.key) (sym e) ∙ of in absurd (cc)

  laid-part : (key : List ℕ) (n : ℕ) (l : Loaded) → is_in items (part key n) ≡ true → y.at (y.place (part key n)) ≡ Some l → IsPartAt m y key l
  laid-part key n l among is =
      let laid : IsPlacedAt m y (part key n) = r.laid (part key n) (sub (part key n) among) in
      let same : laid.loaded ≡ l = let a : y.at (y.place (part key n)) ≡ Some laid.loaded = laid.here in cc in
      subst (λ (x : Loaded). IsPartAt m y key x) same laid.parent

  parent-item : (i : Item) (l : Loaded) (name : Name) (index : PartIndex) → is_in items i ≡ true → given_by good y (y.place i) ≡ Some l → l.role ≡ IsPart name index → HasParentIn (nodes_of y items) (given_by good y) name
  parent-item i l name index among given role =
      let p = given-parts good (y.at (y.place i)) l given in
      let item : i ≡ part name.key name.part = sym (item-is i l among p.0) ∙ part-item l name index role in
      let among_part : is_in items (part name.key name.part) ≡ true = subst (λ (x : Item). is_in items x ≡ true) item among in
      let at_part : y.at (y.place (part name.key name.part)) ≡ Some l = subst (λ (x : Item). y.at (y.place x) ≡ Some l) item p.0 in
      let q : IsPartAt m y name.key l = laid-part name.key name.part l among_part at_part in
      let names : q.name ≡ name = let a : l.role ≡ IsPart q.name q.index = q.role in let b : IsPart q.name q.index ≡ IsPart name index = sym a ∙ role in cc in
      let above = goes.part_in name.key name.part l q.parent among_part at_part q.at_parent p.1 in
      record {
        at = y.place (main name.key);
        parent = q.parent;
        among = is_among-node y items (main name.key) above.0;
        is = given-from good (y.at (y.place (main name.key))) q.parent q.at_parent above.1;
        of = subst (λ (x : Name). is_parent_of x q.parent ≡ true) names q.of;
      }

  -- one that is not given is no item whose record loads, or an orphan
  out-item : (i : Item) (l : Loaded) → is_in items i ≡ true → given_by good y (y.place i) ≡ None → load v rule (y.place i) ≡ Ok l → IsOrphanIn (nodes_of y items) (given_by good y) l
  out-item i l among none ok = ⊎_elim
      (λ (h : except (y.place i) ≡ true). broken i l among h ok)
      (λ (h : except (y.place i) ≡ false).
      let laid : IsPlacedAt m y i = r.laid i (sub i among) in
      let same : laid.loaded ≡ l = load-one v (rule_of y (y.place i)) rule (y.place i) laid.loaded l (loads-alone i laid.loaded laid.here h) ok in
      let here : y.at (y.place i) ≡ Some l = laid.here ∙ ap Some same in
      go i among here (given-not good (y.at (y.place i)) l here none) ok)
      (cases_Bool (except (y.place i))) where
        go : (i : Item) → is_in items i ≡ true → y.at (y.place i) ≡ Some l → good l ≡ false → load v rule (y.place i) ≡ Ok l → IsOrphanIn (nodes_of y items) (given_by good y) l
        go (main key) among here bad ok =
            let a : (not rule.clean || (l.dirty == 0)) ≡ true = load-clean v rule (y.place (main key)) l ok in
            let b : (not rule.clean || (l.dirty == 0)) ≡ false = goes.main_out key l among here bad in
            absurd (let c : true ≡ false = sym a ∙ b in cc)
        go (part key n) among here bad ok =
            let q : IsPartAt m y key l = laid-part key n l among here in
            record {
              name = q.name;
              index = q.index;
              part = q.role;
              none = λ x k there given.
                  ⊎_elim
                  (λ (of : is_parent_of q.name k ≡ true).
                  let at : IsNodeOf y items x = node-of y items x there in
                  let p = given-parts good (y.at (y.place at.item)) k (ap (given_by good y) at.is ∙ given) in
                  let main_is : at.item ≡ main key = sym (item-is at.item k at.among p.0) ∙ main-item q.name k of ∙ ap main q.of_key in
                  let in_main : is_in items (main key) ≡ true = subst (λ (z : Item). is_in items z ≡ true) main_is at.among in
                  let is_main : y.at (y.place (main key)) ≡ Some k = subst (λ (z : Item). y.at (y.place z) ≡ Some k) main_is p.0 in
                  let c : good k ≡ false = goes.part_out key n l k among here is_main bad in_main in
                  absurd (let d : true ≡ false = sym p.1 ∙ c in cc))
                  (λ (of : is_parent_of q.name k ≡ false). of)
                  (cases_Bool (is_parent_of q.name k));
            }

  pub laid-but : IsShown v rule (nodes_of y items) (given_by good y)
  unfolding all_claims
  laid-but = record {
    once = once;
    loads = λ w l there given. let a : IsNodeOf y items w = node-of y items w there in
        subst (λ (x : ℕ). given_by good y x ≡ Some l → load v rule x ≡ Ok l) a.is (loads-with a.item l a.among) given;
    single = λ w l there given. repeats-tail (claims_of l.node) (record_claims l) (r.single w l (given-parts good (y.at w) l given).0);
    apart = λ w x k l at_w at_x other given_w given_x.
        let a : IsNodeOf y items w = node-of y items w at_w in let b : IsNodeOf y items x = node-of y items x at_x in
        apart-items a.item b.item k l a.among b.among (rw (a.is, b.is) other) (ap y.at a.is ∙ (given-parts good (y.at w) k given_w).0) (given-parts good (y.at w) k given_w).1 (ap y.at b.is ∙ (given-parts good (y.at x) l given_x).0) (given-parts good (y.at x) l given_x).1;
    parents = λ w l name index there given role. let a : IsNodeOf y items w = node-of y items w there in
        parent-item a.item l name index a.among (ap (given_by good y) a.is ∙ given) role;
    out = λ w l there none ok. let a : IsNodeOf y items w = node-of y items w there in
        out-item a.item l a.among (ap (given_by good y) a.is ∙ none) (ap (load v rule) a.is ∙ ok);
  }

-- with no such node
pub laid-shown : (v : StoreView) (m : State) (y : Layout) (r : Holds v m y) (rule : Rule) (items : List Item) (good : Loaded → Bool) → rule.state ≡ 0 → ((i : Item) → is_in items i ≡ true → is_listed m i ≡ true)
    → Distinct (nodes_of y items) → GoesWith y items rule good → IsShown v rule (nodes_of y items) (given_by good y)
laid-shown v m y r rule items good state sub once goes =
    laid-but (λ w. false) v m y (record { no_record = r.shows.no_record; each = λ w l is _. r.shows.each w l is; chains = r.shows.chains; laid = r.lies.laid; normal = r.lies.normal; chained = λ w l there is _. r.lies.chained w l there is; own = r.lies.own; single = r.lies.single }) rule items good state sub once goes
    (λ i l among is passes. refl) (λ i k among h ok. absurd (let c : false ≡ true = h in cc))

-- ---- the test by dirty flags agrees with the rule of what a folder holds

module _ (m : State) (y : Layout) (lay : (i : Item) → is_listed m i ≡ true → IsPlacedAt m y i) (items : List Item) (sub : (i : Item) → is_in items i ≡ true → is_listed m i ≡ true) where
  -- the role of a main item's record, and of a part's
  role-item : (i : Item) (l : Loaded) → is_in items i ≡ true → y.at (y.place i) ≡ Some l → item_of (row_of_loaded l) ≡ i
  role-item i l among is =
      let laid : IsPlacedAt m y i = lay i (sub i among) in
      let same : laid.loaded ≡ l = let a : y.at (y.place i) ≡ Some laid.loaded = laid.here in cc in
      ap (λ (x : Loaded). item_of (row_of_loaded x)) (sym same) ∙ item-row m i (row_of_loaded laid.loaded) laid.row

  pub settled-main : (key : List ℕ) (l : Loaded) → is_in items (main key) ≡ true → y.at (y.place (main key)) ≡ Some l → is_settled y items l ≡ (l.dirty == 0)
  settled-main key l among is = go l.role refl where
    go : (a : Role) → l.role ≡ a → is_settled_role y items a l.dirty ≡ (l.dirty == 0)
    go IsPlain e = refl
    go (IsParent index) e = refl
    go (IsPart name index) e =
        let p : item_of (row_of_loaded l) ≡ main key = role-item (main key) l among is in
        let q : item_of (row_of_loaded l) ≡ part name.key name.part = rw e refl in
        absurd (let x : main key ≡ part name.key name.part = sym p ∙ q in cc)

  pub part-at : (key : List ℕ) (n : ℕ) (l : Loaded) → is_in items (part key n) ≡ true → y.at (y.place (part key n)) ≡ Some l → IsPartAt m y key l × (l.dirty ≡ 0)
  part-at key n l among is =
      let laid : IsPlacedAt m y (part key n) = lay (part key n) (sub (part key n) among) in
      let same : laid.loaded ≡ l = let a : y.at (y.place (part key n)) ≡ Some laid.loaded = laid.here in cc in
      (subst (λ (x : Loaded). IsPartAt m y key x) same laid.parent, subst (λ (x : Loaded). x.dirty ≡ 0) same laid.mark)

  pub settled-part : (key : List ℕ) (n : ℕ) (l p : Loaded) → is_in items (part key n) ≡ true → y.at (y.place (part key n)) ≡ Some l → y.at (y.place (main key)) ≡ Some p
      → is_settled y items l ≡ (is_in items (main key) && (p.dirty == 0))
  settled-part key n l p among is above =
      let q : IsPartAt m y key l = (part-at key n l among is).0 in
      ap (λ (a : Role). is_settled_role y items a l.dirty) q.role ∙ ap (λ (k : List ℕ). is_in items (main k) && option_map_or (λ (x : Loaded). x.dirty == 0) (y.at (y.place (main k))) false) q.of_key
      ∙ ap (λ (o : Option Loaded). is_in items (main key) && option_map_or (λ (x : Loaded). x.dirty == 0) o false) above

  pub settled-goes : GoesWith y items held_rule (is_settled y items)
  settled-goes = record {
    clean = λ i l among is good. of_item i l among is good;
    main_out = λ key l among is bad. sym (settled-main key l among is) ∙ bad;
    part_in = λ key n l p among is above good.
        let e : (is_in items (main key) && (p.dirty == 0)) ≡ true = sym (settled-part key n l p among is above) ∙ good in
        let b = and_parts (is_in items (main key)) (p.dirty == 0) e in
        (b.0, settled-main key p b.0 above ∙ b.1);
    part_out = λ key n l p among is above bad here.
        let e : (is_in items (main key) && (p.dirty == 0)) ≡ false = sym (settled-part key n l p among is above) ∙ bad in
        let f : (p.dirty == 0) ≡ false = rw here at e in
        settled-main key p here above ∙ f;
  } where
    of_item : (i : Item) (l : Loaded) → is_in items i ≡ true → y.at (y.place i) ≡ Some l → is_settled y items l ≡ true → (l.dirty == 0) ≡ true
    of_item (main key) l among is good = sym (settled-main key l among is) ∙ good
    of_item (part key n) l among is good = eq-eqb l.dirty 0 (part-at key n l among is).1

-- ---- the rows of what is given

-- where each item's given is what is picked of it
pub rows-given : (y : Layout) (given : ℕ → Option Loaded) (picked : Item → Option Row) (items : List Item)
    → ((i : Item) → is_in items i ≡ true → option_map row_of_loaded (given (y.place i)) ≡ picked i) → map row_of_loaded (filter_map given (nodes_of y items)) ≡ filter_map picked items
rows-given y given picked [] same = refl
rows-given y given picked (i ∷ items) same =
    one (given (y.place i)) (picked i) (filter_map given (nodes_of y items)) (filter_map picked items) (same i (or_left (same_item i i) (is_in items i) (same_item_self i)))
    (rows-given y given picked items (λ j there. same j (or_right (same_item j i) (is_in items j) there))) where
      one : (o : Option Loaded) (p : Option Row) (ls : List Loaded) (rs : List Row) → option_map row_of_loaded o ≡ p → map row_of_loaded ls ≡ rs → map row_of_loaded (cons_option o ls) ≡ cons_option p rs
      one None p ls rs e f = rw (← e) f
      one (Some l) p ls rs e f = rw (← e) (ap (λ (xs : List Row). row_of_loaded l ∷ xs) f)

module _ (m : State) (y : Layout) (lay : (i : Item) → is_listed m i ≡ true → IsPlacedAt m y i) (items : List Item) (sub : (i : Item) → is_in items i ≡ true → is_listed m i ≡ true) (test : ℕ → Bool) (is_test : IsTest m y items test) where
  -- an item that is laid has an owner
  owner-of : (i : Item) (o : Option ℕ) → model.owner m i ≡ o → is_in items i ≡ true → (number : ℕ) × (o ≡ Some number)
  unfolding model.row_of
  owner-of i (Some number) e among = (number, refl)
  owner-of i None e among =
      let laid : IsPlacedAt m y i = lay i (sub i among) in
      let none : model.row_of m i ≡ None = rw e refl in
      absurd (let c : ◌≡◌ {A = Option Row} (Some (row_of_loaded laid.loaded)) None = sym laid.row ∙ none in cc)

  settled-test : (i : Item) (l : Loaded) (number : ℕ) → is_in items i ≡ true → y.at (y.place i) ≡ Some l → model.owner m i ≡ Some number → is_settled y items l ≡ (is_in items (main (key_of i)) && test number)
  settled-test (main key) l number among is own = settled-main m y lay items sub key l among is ∙ is_test.main_test key l number among is own ∙ ap (λ (b : Bool). b && test number) (sym among)
  settled-test (part key n) l number among is own =
      let q : IsPartAt m y key l = (part-at m y lay items sub key n l among is).0 in
      settled-part m y lay items sub key n l q.parent among is q.at_parent ∙ go (is_in items (main key)) refl q where
        go : (b : Bool) → is_in items (main key) ≡ b → (q : IsPartAt m y key l) → (b && (q.parent.dirty == 0)) ≡ (b && test number)
        go true here q = is_test.main_test key q.parent number here q.at_parent (sym (is_test.owners key n among) ∙ own)
        go false here q = refl

  pub picked-given : (i : Item) → is_in items i ≡ true → option_map row_of_loaded (given_by (is_settled y items) y (y.place i)) ≡ picked_in m test items i
  picked-given i among =
      let laid : IsPlacedAt m y i = lay i (sub i among) in
      let own = owner-of i (model.owner m i) refl among in
      let good : is_settled y items laid.loaded ≡ (is_in items (main (key_of i)) && test own.0) = settled-test i laid.loaded own.0 among laid.here own.1 in
      let left : option_map row_of_loaded (given_by (is_settled y items) y (y.place i)) ≡ cond (is_in items (main (key_of i))) (cond (test own.0) (Some (row_of_loaded laid.loaded)) None) None = rw (laid.here, good) (under (is_in items (main (key_of i))) (test own.0) laid.loaded) in
      left ∙ ap (λ (x : Option Row). cond (is_in items (main (key_of i))) (cond (test own.0) x None) None) (sym laid.row) ∙ ap (λ (x : Option ℕ). cond (is_in items (main (key_of i))) (option_and_then (λ (number : ℕ). cond (test number) (model.row_of m i) None) x) None) (sym own.1) where
        under : (a b : Bool) (l : Loaded) → option_map row_of_loaded (if a && b then Some l else None) ≡ cond a (cond b (Some (row_of_loaded l)) None) None
        under true true l = refl
        under true false l = refl
        under false b l = refl

  -- what a walk of these items keeps, where some of the dirty are in the midst of a change
  pub found-but : (except : ℕ → Bool) (v : StoreView) (r : HoldsExcept except v m y) → Distinct (nodes_of y items)
      → ((i : Item) (l : Loaded) → is_in items i ≡ true → y.at (y.place i) ≡ Some l → is_settled y items l ≡ true → except (y.place i) ≡ false)
      → ((i : Item) (k : Loaded) → is_in items i ≡ true → except (y.place i) ≡ true → load v held_rule (y.place i) ≡ Ok k → IsOrphanIn (nodes_of y items) (given_by (is_settled y items) y) k)
      → map row_of_loaded (kept_among v held_rule (nodes_of y items)) ≡ filter_map (picked_in m test items) items
  found-but except v h once whole broken =
      let shown : IsShown v held_rule (nodes_of y items) (given_by (is_settled y items) y) = laid-but except v m y h held_rule items (is_settled y items) refl sub once (settled-goes m y lay items sub) whole broken in
      ap (map row_of_loaded) (kept-given v held_rule (nodes_of y items) (given_by (is_settled y items) y) shown) ∙ rows-given y (given_by (is_settled y items) y) (picked_in m test items) items picked-given

  -- where no part is without its main item, all are picked
  pub picked-closed : ((key : List ℕ) (n : ℕ) → is_in items (part key n) ≡ true → is_in items (main key) ≡ true) → filter_map (picked_in m test items) items ≡ filter_map (picked_with m test) items
  picked-closed closed = same_on items (λ i there. there) where
    one : (i : Item) → is_in items i ≡ true → picked_in m test items i ≡ picked_with m test i
    one (main key) there = rw there refl
    one (part key n) there = rw (closed key n there) refl

    same_on : (xs : List Item) → ((i : Item) → is_in xs i ≡ true → is_in items i ≡ true) → filter_map (picked_in m test items) xs ≡ filter_map (picked_with m test) xs
    same_on [] sub = refl
    same_on (i ∷ xs) sub = rw (one i (sub i (or_left (same_item i i) (is_in xs i) (same_item_self i)))) (ap (cons_option (picked_with m test i)) (same_on xs (λ j h. sub j (or_right (same_item j i) (is_in xs j) h))))

  -- and where no node is left out
  pub found-picked : (v : StoreView) (h : Holds v m y) → Distinct (nodes_of y items) → ((key : List ℕ) (n : ℕ) → is_in items (part key n) ≡ true → is_in items (main key) ≡ true)
      → map row_of_loaded (kept_among v held_rule (nodes_of y items)) ≡ filter_map (picked_with m test) items
  found-picked v h once closed =
      let shown : IsShown v held_rule (nodes_of y items) (given_by (is_settled y items) y) = laid-shown v m y h held_rule items (is_settled y items) refl sub once (settled-goes m y lay items sub) in
      ap (map row_of_loaded) (kept-given v held_rule (nodes_of y items) (given_by (is_settled y items) y) shown) ∙ rows-given y (given_by (is_settled y items) y) (picked_in m test items) items picked-given ∙ picked-closed closed
