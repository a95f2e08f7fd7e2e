-- The durable contents of a state are recovered from an image that represents it.
use Rattle.std.proofs.Common.{◌≡◌, ℕ, List, [], ◌∷◌, ◌++◌, map, refl, ap, sym, ◌∙◌, subst, Bool, true, false, cond, Option, Some, None, Ok, Err, Result, ⊎_elim}
use Rattle.std.specs.Prelude.{not, ◌||◌, ◌==◌, if◌then◌else◌, is_some, IfSome}
use Rattle.std.specs.Option.{option_map_or, option_and_then}
use Rattle.std.specs.List.{filter, filter_map, cons_option, AllByRecursion}
use Rattle.std.proofs.lemmas.Bool.{cases_Bool, eq-eqb, or_left, or_right}
use Rattle.std.proofs.lemmas.Bool.Decides.{eqb_tells}
use Rattle.std.proofs.Math.Dec.{eqb}
use Rattle.blk_model.specs.Items.{Item, main, part, Row, item_of}
use Rattle.blk_model.specs.State.{State, Object, IsValidState, object_at}
use Rattle.blk_model.specs.Holding as model
use Rattle.blk_model.proofs.Chosen.{row_item}
use Rattle.spec_format.specs.BlockFiles.{is_among}
use Rattle.spec_format.specs.Names.{Name}
use Rattle.spec_format.specs.SparseIndex.{PartIndex}
use Rattle.spec_format.proofs.Finished.{well_formed-finished}
use Rattle.spec_folder.specs.ListView.{Distinct}
use Rattle.spec_folder.specs.Walk.{walk}
use Rattle.spec_folder.specs.View.{View, StoreView, view_of}
use Rattle.spec_folder.specs.Chains.{chain, bucket_of_hash}
use Rattle.spec_folder.specs.Entries.{Role, IsPlain, IsParent, IsPart}
use Rattle.spec_folder.specs.Reasons.{Reason}
use Rattle.spec_folder.specs.Loads.{Rule, held_rule, listed_rule, Loaded, load}
use Rattle.spec_folder.specs.Audit.{verdict, with_verdict, verdicts, verdict_on, judged, tried, kept_of, dropped_of, kept_as, is_kept, kept_among, dropped_among, kept_by, is_parent_of}
use Rattle.spec_folder.specs.Found.{row_with, row_of_loaded, kept, found}
use Rattle.spec_folder.specs.Layout.{HasDirtyMark}
use Rattle.spec_folder.specs.Shown.{IsShown, IsOrphanIn, HasParentIn}
use Rattle.spec_folder.specs.StandsFor.{ShowsState}
use Rattle.law_folder.specs.StateLaws.{WhatIsStoodForIsFound}
use Rattle.law_folder.proofs.states.Central.{walk-idle}
use Rattle.law_folder.proofs.lists.Walked.{walk-once}
use Rattle.law_folder.proofs.walks.Kept.{kept-shown, tried-among}
use Rattle.law_folder.proofs.states.Laid.{given-parts, item-row, parent-main}
use Rattle.law_folder.proofs.walks.Loads.{load-then}
use Rattle.law_folder.proofs.walks.Loading.{load-from, load-one, load-clean}
use Rattle.law_folder.proofs.claims.Owner.{same_owner}
use Rattle.law_folder.proofs.walks.Shown.{kept-given}

-- Lists of what is given.

none-given : {A : Type 0} (f : ℕ → Option A) (xs : List ℕ) (w : ℕ) → filter_map f xs ≡ [] → is_among xs w ≡ true → f w ≡ None
none-given f [] w e among = absurd (let c : false ≡ true = among in cc)
none-given {A} f (x ∷ xs) w e among = ⊎_elim
    (λ (h : (eqb x w ≡ true) × (x ≡ w)). ap f (sym h.1) ∙ first (f x) e)
    (λ (h : (eqb x w ≡ false) × _). none-given f xs w (rest (f x) e) (rw h.0 at among))
    (eqb_tells x w)
  where
    first : (o : Option A) → cons_option o (filter_map f xs) ≡ [] → o ≡ None
    first None e = refl
    first (Some a) e = cc

    rest : (o : Option A) → cons_option o (filter_map f xs) ≡ [] → filter_map f xs ≡ []
    rest None e = e
    rest (Some a) e = cc

filter-same : (p : ℕ → Bool) (xs : List ℕ) → ((w : ℕ) → is_among xs w ≡ true → p w ≡ true) → filter p xs ≡ xs
filter-same p [] each = refl
filter-same p (x ∷ xs) each = rw (each x (or_left (x == x) (is_among xs x) (eq-eqb x x refl))) (ap (λ (l : List ℕ). x ∷ l) (filter-same p xs (λ w h. each w (or_right (x == w) (is_among xs w) h))))

all-at : (P : Loaded → Type 0) (f : ℕ → Option Loaded) (xs : List ℕ) → AllByRecursion P (filter_map f xs) → (w : ℕ) (l : Loaded) → is_among xs w ≡ true → f w ≡ Some l → P l
all-at P f [] all w l among is = absurd (let c : false ≡ true = among in cc)
all-at P f (x ∷ xs) all w l among is = ⊎_elim
    (λ (h : (eqb x w ≡ true) × (x ≡ w)). (subst (λ (o : Option Loaded). AllByRecursion P (cons_option o (filter_map f xs))) (ap f h.1 ∙ is) all).0)
    (λ (h : (eqb x w ≡ false) × _). all-at P f xs (rest (f x) all) w l (rw h.0 at among) is)
    (eqb_tells x w)
  where
    rest : (o : Option Loaded) → AllByRecursion P (cons_option o (filter_map f xs)) → AllByRecursion P (filter_map f xs)
    rest None e = e
    rest (Some a) e = e.1

of-rows : (Q : Row → Type 0) (ls : List Loaded) → AllByRecursion Q (map row_of_loaded ls) → AllByRecursion (λ (l : Loaded). Q (row_of_loaded l)) ls
of-rows Q [] all = tt
of-rows Q (l ∷ ls) all = (all.0, of-rows Q ls all.1)

-- Records that load under both rules.

load-cleaned : (v : StoreView) (a b : Rule) (w : ℕ) (l : Loaded) → b.state ≡ a.state → b.chained ≡ a.chained → (not b.clean || (l.dirty == 0)) ≡ true → load v a w ≡ Ok l → load v b w ≡ Ok l
load-cleaned v a b w l state chained clean ok = load-then v a w l ok (λ n e f.
    let r = f.facts in let k = r.keyed in
    load-from v b w l n e (record {
      node = f.node;
      entry = f.entry;
      checks = f.checks;
      facts = record {
        keyed = record {
          state = ap (λ (s : ℕ). e.state == s) state ∙ k.state;
          back = k.back;
          flags = k.flags;
          clean = ap (λ (d : ℕ). not b.clean || (d == 0)) (sym r.dirty_is) ∙ clean;
          key_length = k.key_length;
          key = k.key;
          hashed = k.hashed;
          chained = ap (λ (c : Bool). not c || is_among (chain v (bucket_of_hash e.hash)).reached n.contents) chained ∙ k.chained;
        };
        streams = r.streams;
        role = r.role;
        node_is = r.node_is;
        contents_is = r.contents_is;
        dirty_is = r.dirty_is;
        others_are = r.others_are;
      };
    }))

-- A node that is tried gets a verdict.

some-verdict : (v : StoreView) (rule : Rule) (before : List Loaded) (ts : List ℕ) (node : ℕ) → is_among ts node ≡ true → (r : Result Loaded Reason) × (verdict_on (verdicts v rule before ts) node ≡ Some r)
unfolding verdicts
some-verdict v rule before [] node among = absurd (let c : false ≡ true = among in cc)
some-verdict v rule before (t ∷ ts) node among = ⊎_elim
    (λ (h : (t == node) ≡ true). (verdict v rule before t, rw h refl))
    (λ (h : (t == node) ≡ false). let more = some-verdict v rule (with_verdict before (verdict v rule before t)) ts node (rw h at among) in (more.0, rw h more.1))
    (cases_Bool (t == node))

kept-or-dropped : (node : ℕ) (o : Option (Result Loaded Reason)) (r : Result Loaded Reason) → o ≡ Some r → dropped_of node o ≡ None → is_some (kept_of o) ≡ true
kept-or-dropped node o (Ok l) is none = ap (λ (x : Option (Result Loaded Reason)). is_some (kept_of x)) is
kept-or-dropped node o (Err why) is none = let c : ◌≡◌ {A = Option (ℕ × Reason)} (Some (node, why)) None = sym (ap (dropped_of node) is) ∙ none in cc

prefix-none : {A : Type 0} (xs ys : List A) → xs ++ ys ≡ [] → xs ≡ []
prefix-none [] ys e = refl
prefix-none (x ∷ xs) ys e = cc

-- The state's side.

module _ (state : State) (valid : IsValidState state) where
  -- whether the object that has an item is clean
  is_settled_item : Item → Bool
  is_settled_item item = option_map_or (λ (object : Object). object.settled) (model.owner_object state item) false

  own-rows : (items : List Item) → AllByRecursion (λ (r : Row). model.row_of state (item_of r) ≡ Some r) (filter_map (model.row_of state) items)
  own-rows [] = tt
  own-rows (i ∷ items) = go (model.row_of state i) refl (own-rows items) where
    go : (o : Option Row) → model.row_of state i ≡ o → AllByRecursion (λ (r : Row). model.row_of state (item_of r) ≡ Some r) (filter_map (model.row_of state) items) → AllByRecursion (λ (r : Row). model.row_of state (item_of r) ≡ Some r) (cons_option o (filter_map (model.row_of state) items))
    go None e more = more
    go (Some r) e more = (ap (model.row_of state) (item-row state i r e) ∙ e, more)

  rows-rest : (items : List Item) → filter (λ (r : Row). is_settled_item (item_of r)) (filter_map (model.row_of state) items) ≡ filter_map (model.settled_row state) items
  unfolding model.row_of model.settled_row is_settled_item
  rows-rest [] = refl
  rows-rest (i ∷ items) = go (model.owner_object state i) refl (rows-rest items) where
    kept-rows : List Row
    kept-rows = filter (λ (r : Row). is_settled_item (item_of r)) (filter_map (model.row_of state) items)

    go : (o : Option Object) → model.owner_object state i ≡ o → filter (λ (r : Row). is_settled_item (item_of r)) (filter_map (model.row_of state) items) ≡ filter_map (model.settled_row state) items
        → filter (λ (r : Row). is_settled_item (item_of r)) (cons_option (option_and_then (λ (object : Object). model.row_in object i) o) (filter_map (model.row_of state) items))
        ≡ cons_option (option_and_then (λ (object : Object). cond object.settled (model.row_in object i) None) o) (filter_map (model.settled_row state) items)
    go None e more = more
    go (Some object) e more = row (model.row_in object i) refl where
      row : (p : Option Row) → model.row_in object i ≡ p
          → filter (λ (r : Row). is_settled_item (item_of r)) (cons_option p (filter_map (model.row_of state) items)) ≡ cons_option (cond object.settled p None) (filter_map (model.settled_row state) items)
      row None f = none object.settled ∙ refl where
        none : (b : Bool) → filter (λ (r : Row). is_settled_item (item_of r)) (filter_map (model.row_of state) items) ≡ cons_option (cond b None None) (filter_map (model.settled_row state) items)
        none true = more
        none false = more
      row (Some r) f =
          let is : is_settled_item (item_of r) ≡ object.settled = ap is_settled_item (row_item object i r f) ∙ ap (λ (o : Option Object). option_map_or (λ (x : Object). x.settled) o false) e in
          rw is (some object.settled) where
            some : (b : Bool) → (if b then (r ∷ filter (λ (r : Row). is_settled_item (item_of r)) (filter_map (model.row_of state) items)) else filter (λ (r : Row). is_settled_item (item_of r)) (filter_map (model.row_of state) items)) ≡ cons_option (cond b (Some r) None) (filter_map (model.settled_row state) items)
            some true = ap (λ (l : List Row). r ∷ l) more
            some false = more

  -- a clean item's node is clean
  clean-item : (i : Item) (l : Loaded) → HasDirtyMark state i l → is_settled_item i ≡ true → (l.dirty == 0) ≡ true
  unfolding is_settled_item
  clean-item (main key) l mark settled = go (model.owner_object state (main key)) mark settled where
    go : (o : Option Object) → IfSome o (λ (object : Object). (l.dirty == 0) ≡ object.settled) → option_map_or (λ (object : Object). object.settled) o false ≡ true → (l.dirty == 0) ≡ true
    go None m s = absurd (let c : false ≡ true = s in cc)
    go (Some object) m s = m ∙ s
  clean-item (part key n) l mark settled = eq-eqb l.dirty 0 mark

  -- a dirty main item's node is dirty
  dirty-item : (key : List ℕ) (l : Loaded) (r : Row) → model.row_of state (main key) ≡ Some r → HasDirtyMark state (main key) l → is_settled_item (main key) ≡ false → (l.dirty == 0) ≡ false
  unfolding is_settled_item model.row_of
  dirty-item key l r row mark unsettled = go (model.owner_object state (main key)) row mark unsettled where
    go : (o : Option Object) → option_and_then (λ (object : Object). model.row_in object (main key)) o ≡ Some r → IfSome o (λ (object : Object). (l.dirty == 0) ≡ object.settled) → option_map_or (λ (object : Object). object.settled) o false ≡ false → (l.dirty == 0) ≡ false
    go None e m s = cc
    go (Some object) e m s = m ∙ s

  -- a part is clean with its main item
  part-with-main : (key : List ℕ) (n : ℕ) (r : Row) → model.row_of state (part key n) ≡ Some r → is_settled_item (part key n) ≡ is_settled_item (main key)
  unfolding is_settled_item model.row_of
  part-with-main key n r row = go (model.owner state (part key n)) refl row where
    go : (w : Option ℕ) → model.owner state (part key n) ≡ w → option_and_then (λ (object : Object). model.row_in object (part key n)) (option_and_then (object_at state) w) ≡ Some r
        → option_map_or (λ (object : Object). object.settled) (option_and_then (object_at state) (model.owner state (part key n))) false ≡ option_map_or (λ (object : Object). object.settled) (option_and_then (object_at state) (model.owner state (main key))) false
    go None e h = cc
    go (Some number) e h = ap (λ (w : Option ℕ). option_map_or (λ (object : Object). object.settled) (option_and_then (object_at state) w) false) (e ∙ sym (same_owner state valid key n number e))

-- The whole.

module _ (view : View) (state : State) (shows : ShowsState view state) where
  ws : List ℕ
  ws = walk view.list

  once : Distinct (walk view.list)
  once = walk-once view.list

  abbrev K : ℕ → Option Loaded
  K = kept_as view.store listed_rule (walk view.list)

  -- each walked node is kept where dirty ones are
  each-kept : (w : ℕ) → is_among (walk view.list) w ≡ true → is_kept view.store listed_rule (walk view.list) w ≡ true
  unfolding dropped_among
  each-kept w among =
      let none : dropped_among view.store listed_rule (walk view.list) ≡ [] = prefix-none _ _ shows.nothing_dropped in
      let some = some-verdict view.store listed_rule [] (tried view.store (walk view.list)) w (tried-among view.store (walk view.list) once w ∙ among) in
      kept-or-dropped w (verdict_on (judged view.store listed_rule (walk view.list)) w) some.0 some.1
      (none-given (λ (node : ℕ). dropped_of node (verdict_on (judged view.store listed_rule (walk view.list)) node)) (walk view.list) w none among)

  shown : IsShown view.store listed_rule (walk view.list) K
  shown = subst (λ (ns : List ℕ). IsShown view.store listed_rule ns K) (filter-same (is_kept view.store listed_rule (walk view.list)) (walk view.list) each-kept) (kept-shown view.store listed_rule (walk view.list) once)

  listed-is : kept_by listed_rule view ≡ filter_map K (walk view.list)
  unfolding kept_among
  listed-is = refl

  row-at : (w : ℕ) (l : Loaded) → is_among (walk view.list) w ≡ true → K w ≡ Some l → model.row_of state (item_of (row_of_loaded l)) ≡ Some (row_of_loaded l)
  unfolding model.rows
  row-at w l among is =
      all-at (λ (l : Loaded). model.row_of state (item_of (row_of_loaded l)) ≡ Some (row_of_loaded l)) K (walk view.list)
      (of-rows (λ (r : Row). model.row_of state (item_of r) ≡ Some r) (filter_map K (walk view.list))
      (subst (AllByRecursion (λ (r : Row). model.row_of state (item_of r) ≡ Some r)) (sym shows.rows ∙ ap (map row_of_loaded) listed-is) (own-rows state shows.valid state.uses)))
      w l among is

  mark-at : (w : ℕ) (l : Loaded) → is_among (walk view.list) w ≡ true → K w ≡ Some l → HasDirtyMark state (item_of (row_of_loaded l)) l
  mark-at w l among is = all-at (λ (l : Loaded). HasDirtyMark state (item_of (row_of_loaded l)) l) K (walk view.list) (subst (AllByRecursion (λ (l : Loaded). HasDirtyMark state (item_of (row_of_loaded l)) l)) listed-is shows.marks) w l among is

  abbrev good : Loaded → Bool
  good l = is_settled_item state shows.valid (item_of (row_of_loaded l))

  abbrev G : ℕ → Option Loaded
  G w = option_and_then (λ (l : Loaded). if good l then Some l else None) (K w)

  part-item : (l : Loaded) (name : Name) (index : PartIndex) → l.role ≡ IsPart name index → item_of (row_of_loaded l) ≡ part name.key name.part
  part-item l name index is = ap (λ (r : Role). item_of (row_with l.key r l.streams)) is

  -- a kept part is clean exactly where its kept parent is
  good-part : (w : ℕ) (l p : Loaded) (name : Name) (index : PartIndex) → is_among (walk view.list) w ≡ true → K w ≡ Some l → l.role ≡ IsPart name index → is_parent_of name p ≡ true → good l ≡ good p
  good-part w l p name index among is role of =
      let i : item_of (row_of_loaded l) ≡ part name.key name.part = part-item l name index role in
      ap (is_settled_item state shows.valid) i ∙ part-with-main state shows.valid name.key name.part (row_of_loaded l) (ap (model.row_of state) (sym i) ∙ row-at w l among is)
      ∙ ap (is_settled_item state shows.valid) (sym (parent-main name p of))

  given-good : (o : Option Loaded) (l : Loaded) → o ≡ Some l → good l ≡ true → option_and_then (λ (k : Loaded). if good k then Some k else None) o ≡ Some l
  given-good o l is g = ap (option_and_then (λ (k : Loaded). if good k then Some k else None)) is ∙ ap (λ (b : Bool). if b then Some l else None) g

  not-given : (o : Option Loaded) (l : Loaded) → o ≡ Some l → option_and_then (λ (k : Loaded). if good k then Some k else None) o ≡ None → good l ≡ false
  not-given o l is none = ⊎_elim
      (λ (g : good l ≡ true). let c : ◌≡◌ {A = Option Loaded} (Some l) None = sym (given-good o l is g) ∙ none in absurd (cc))
      (λ (g : good l ≡ false). g)
      (cases_Bool (good l))

  held-parents : (w : ℕ) (l : Loaded) (name : Name) (index : PartIndex) → is_among (walk view.list) w ≡ true → G w ≡ Some l → l.role ≡ IsPart name index → HasParentIn (walk view.list) G name
  held-parents w l name index among is role =
      let p = given-parts good (K w) l is in
      let h : HasParentIn (walk view.list) K name = shown.parents w l name index among p.0 role in
      record { at = h.at; parent = h.parent; among = h.among; is = given-good (K h.at) h.parent h.is (sym (good-part w l h.parent name index among p.0 role h.of) ∙ p.1); of = h.of }

  -- a node that isn't given is an orphan, if it loads
  held-out : (w : ℕ) (l : Loaded) → is_among (walk view.list) w ≡ true → G w ≡ None → load view.store held_rule w ≡ Ok l → IsOrphanIn (walk view.list) G l
  held-out w l among none ok = go (K w) refl where
    go : (o : Option Loaded) → K w ≡ o → IsOrphanIn (walk view.list) G l
    go None e =
        let o : IsOrphanIn (walk view.list) K l = shown.out w l among e (load-cleaned view.store held_rule listed_rule w l refl refl refl ok) in
        record { name = o.name; index = o.index; part = o.part; none = λ z k at_z is. o.none z k at_z (given-parts good (K z) k is).0 }
    go (Some k) e =
        let same : k ≡ l = load-one view.store listed_rule held_rule w k l (shown.loads w k among e) ok in
        let is : K w ≡ Some l = e ∙ ap (λ (x : Loaded). Some x) same in
        let bad : good l ≡ false = not-given (K w) l is none in
        by-role is bad (load-clean view.store held_rule w l ok) l.role refl where
          by-role : K w ≡ Some l → good l ≡ false → (l.dirty == 0) ≡ true → (r : Role) → l.role ≡ r → IsOrphanIn (walk view.list) G l
          by-role is bad clean IsPlain r =
              let i : item_of (row_of_loaded l) ≡ main l.key = ap (λ (x : Role). item_of (row_with l.key x l.streams)) r in
              let d : (l.dirty == 0) ≡ false = dirty-item state shows.valid l.key l (row_of_loaded l) (ap (model.row_of state) (sym i) ∙ row-at w l among is) (subst (λ (x : Item). HasDirtyMark state x l) i (mark-at w l among is)) (ap (is_settled_item state shows.valid) (sym i) ∙ bad) in
              absurd (let c : true ≡ false = sym clean ∙ d in cc)
          by-role is bad clean (IsParent index) r =
              let i : item_of (row_of_loaded l) ≡ main l.key = ap (λ (x : Role). item_of (row_with l.key x l.streams)) r in
              let d : (l.dirty == 0) ≡ false = dirty-item state shows.valid l.key l (row_of_loaded l) (ap (model.row_of state) (sym i) ∙ row-at w l among is) (subst (λ (x : Item). HasDirtyMark state x l) i (mark-at w l among is)) (ap (is_settled_item state shows.valid) (sym i) ∙ bad) in
              absurd (let c : true ≡ false = sym clean ∙ d in cc)
          by-role is bad clean (IsPart name index) r = record {
            name = name;
            index = index;
            part = r;
            none = λ z k at_z given. ⊎_elim
                (λ (of : is_parent_of name k ≡ true). absurd (let c : true ≡ false = sym (good-part w l k name index among is r of ∙ (given-parts good (K z) k given).1) ∙ bad in cc))
                (λ (of : is_parent_of name k ≡ false). of)
                (cases_Bool (is_parent_of name k));
          }

  held-shown : IsShown view.store held_rule (walk view.list) G
  held-shown = record {
    once = once;
    loads = λ w l among is. let p = given-parts good (K w) l is in load-cleaned view.store listed_rule held_rule w l refl refl (clean-item state shows.valid (item_of (row_of_loaded l)) l (mark-at w l among p.0) p.1) (shown.loads w l among p.0);
    single = λ w l among is. shown.single w l among (given-parts good (K w) l is).0;
    apart = λ one other l k a b ne is are. shown.apart one other l k a b ne (given-parts good (K one) l is).0 (given-parts good (K other) k are).0;
    parents = held-parents;
    out = held-out;
  }

  rows-filtered : (xs : List ℕ) → map row_of_loaded (filter_map G xs) ≡ filter (λ (r : Row). is_settled_item state shows.valid (item_of r)) (map row_of_loaded (filter_map K xs))
  rows-filtered [] = refl
  rows-filtered (x ∷ xs) = go (K x) (rows-filtered xs) where
    go : (o : Option Loaded) → map row_of_loaded (filter_map G xs) ≡ filter (λ (r : Row). is_settled_item state shows.valid (item_of r)) (map row_of_loaded (filter_map K xs))
        → map row_of_loaded (cons_option (option_and_then (λ (l : Loaded). if good l then Some l else None) o) (filter_map G xs)) ≡ filter (λ (r : Row). is_settled_item state shows.valid (item_of r)) (map row_of_loaded (cons_option o (filter_map K xs)))
    go None more = more
    go (Some l) more = test (good l) where
      test : (b : Bool) → map row_of_loaded (cons_option (if b then Some l else None) (filter_map G xs)) ≡ (if b then (row_of_loaded l ∷ filter (λ (r : Row). is_settled_item state shows.valid (item_of r)) (map row_of_loaded (filter_map K xs))) else filter (λ (r : Row). is_settled_item state shows.valid (item_of r)) (map row_of_loaded (filter_map K xs)))
      test true = ap (λ (rs : List Row). row_of_loaded l ∷ rs) more
      test false = more

  pub held-rest : map row_of_loaded (kept_among view.store held_rule (walk view.list)) ≡ model.rest state
  unfolding model.rows model.rest
  held-rest =
      ap (map row_of_loaded) (kept-given view.store held_rule (walk view.list) G held-shown) ∙ rows-filtered (walk view.list)
      ∙ ap (filter (λ (r : Row). is_settled_item state shows.valid (item_of r))) (ap (map row_of_loaded) (sym listed-is) ∙ shows.rows)
      ∙ rows-rest state shows.valid state.uses

pub stood-found : WhatIsStoodForIsFound
unfolding found kept
stood-found image state stands =
    rw (well_formed-finished image stands.well_formed)
    (ap (λ (ws : List ℕ). map row_of_loaded (kept_among (view_of image).store held_rule ws)) (walk-idle (view_of image).list stands.shows.transaction) ∙ held-rest (view_of image) state stands.shows)
