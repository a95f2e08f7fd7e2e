-- What is found is a valid snapshot.
use Rattle.std.proofs.Common.{◌≡◌, ⊎_elim, ℕ, ◌≤◌, Bool, true, false, cond, List, [], ◌∷◌, map, Option, Some, None, Ok, refl, sym, ap, ap₂, ◌∙◌, subst, arith}
use Rattle.std.specs.Prelude.{◌==◌, ◌&&◌, ◌||◌, not, if◌then◌else◌, count_by, All}
use Rattle.std.specs.List.{filter_map, cons_option}
use Rattle.std.specs.Str.{bytes_eq}
use Rattle.std.proofs.lemmas.Bool.{cases_Bool, and_parts, eqb-true, eq-eqb, or_left, or_right}
use Rattle.std.proofs.lemmas.Bool.Decides.{eqb_tells}
use Rattle.std.proofs.Math.Dec.{eqb}
use Rattle.std.proofs.lemmas.List.Elements.{All-nil, All-cons}
use Rattle.spec_image.specs.Image.{Image, AreBytes}
use Rattle.blk_model.specs.Items.{Item, main, part, Row, item_of, same_item, times, is_sparse_main, HasParent, IsRow, IsValidHolding}
use Rattle.blk_model.proofs.Opened.{count-cons, sparse_mains}
use Rattle.blk_model.proofs.Same.{one_item, same_bytes, bytes_eq_self}
use Rattle.blk_model.proofs.Times.{times-cons}
use Rattle.spec_format.specs.BlockFiles.{is_among}
use Rattle.spec_format.specs.Headers.{unfinished}
use Rattle.spec_format.specs.Names.{Name, IsName, child_name}
use Rattle.spec_format.specs.SparseIndex.{ParentIndex, PartIndex}
use Rattle.spec_format.proofs.NameLemmas.{read_name-IsName}
use Rattle.spec_folder.specs.ListView.{Distinct}
use Rattle.spec_folder.specs.Completion.{completed_list}
use Rattle.spec_folder.specs.Walk.{walk}
use Rattle.spec_folder.specs.View.{list_of, store_of}
use Rattle.spec_folder.specs.Entries.{Role, IsPlain, IsParent, IsPart}
use Rattle.spec_folder.specs.Loads.{held_rule, Loaded, load, is_part, is_part_role}
use Rattle.spec_folder.specs.Audit.{shares_key, is_parent_of, is_parent_role, kept_among}
use Rattle.spec_folder.specs.Shown.{Apart, HasParentIn, IsShown}
use Rattle.spec_folder.specs.Found.{kept, found, row_of_loaded}
use Rattle.law_folder.proofs.walks.Loads.{load-then}
use Rattle.law_folder.proofs.walks.Shown.{is_among-filter, role-name}
use Rattle.law_recovery.specs.FoundHolding.{FoundIsAHolding}
use Rattle.spec_folder.specs.Audit.{kept_as, is_kept, kept_nodes}
use Rattle.law_folder.proofs.lists.Walked.{walk-once}
use Rattle.law_folder.proofs.walks.Kept.{kept-shown}
use Rattle.law_recovery.proofs.Rows.{row-is}

module _ (image : Image) (are : AreBytes image) where
  abbrev nodes : List ℕ
  nodes = walk (completed_list (list_of image))

  abbrev given : ℕ → Option Loaded
  given = kept_as (store_of image) held_rule (walk (completed_list (list_of image)))

  once : Distinct nodes
  once = walk-once (completed_list (list_of image))

  shown : IsShown (store_of image) held_rule (kept_nodes (store_of image) held_rule nodes) given
  shown = kept-shown (store_of image) held_rule nodes once

  among-kept : (node : ℕ) (k : Loaded) → is_among nodes node ≡ true → given node ≡ Some k → is_among (kept_nodes (store_of image) held_rule nodes) node ≡ true
  among-kept node k among is = is_among-filter (is_kept (store_of image) held_rule nodes) nodes node ∙ rw (is, among) refl

  kept-among-nodes : (node : ℕ) → is_among (kept_nodes (store_of image) held_rule nodes) node ≡ true → is_among nodes node ≡ true
  kept-among-nodes node h = (and_parts _ _ (sym (is_among-filter (is_kept (store_of image) held_rule nodes) nodes node) ∙ h)).1

  loads-at : (node : ℕ) (k : Loaded) → is_among nodes node ≡ true → given node ≡ Some k → load (store_of image) held_rule node ≡ Ok k
  loads-at node k among is = shown.loads node k (among-kept node k among is) is

  -- ---- one item, one node

  clash : true ≡ false → ⊥
  clash e = cc

  -- records of one key and flag are of one node
  one-name : (node other : ℕ) (k l : Loaded) → is_among nodes node ≡ true → is_among nodes other ≡ true → given node ≡ Some k → given other ≡ Some l → (node == other) ≡ false → is_part k ≡ is_part l → k.key ≡ l.key → ⊥
  unfolding shares_key
  one-name node other k l a b is are_is ne parts keys =
      let apart : Apart k l = shown.apart node other k l (among-kept node k a is) (among-kept other l b are_is) ne is are_is in
      clash (sym (node_fields (is_part k) (is_part l) parts) ∙ apart.names) where
        node_fields : (p q : Bool) → p ≡ q → (((if p then q else not q) && bytes_eq k.key l.key) || false) ≡ true
        node_fields true q e = rw (← e, ← keys, bytes_eq_self k.key) refl
        node_fields false q e = rw (← e, ← keys, bytes_eq_self k.key) refl

  -- the parent of a part
  record IsParentAt (name : Name) : Type 0 where
    at : ℕ
    parent : Loaded
    among : is_among nodes at ≡ true
    is : given at ≡ Some parent
    index : ParentIndex
    role : parent.role ≡ IsParent index
    key : parent.key ≡ name.key
    signature : index.signature ≡ name.signature

  parent-at : (node : ℕ) (k : Loaded) (name : Name) (index : PartIndex) → is_among nodes node ≡ true → given node ≡ Some k → k.role ≡ IsPart name index → IsParentAt name
  parent-at node k name index among is role =
      let p : HasParentIn (kept_nodes (store_of image) held_rule nodes) given name = shown.parents node k name index (among-kept node k among is) is role in
      go p p.parent.role refl p.of where
        go : (p : HasParentIn (kept_nodes (store_of image) held_rule nodes) given name) (r : Role) → p.parent.role ≡ r → is_parent_of name p.parent ≡ true → IsParentAt name
        go p IsPlain e of = absurd (let x : is_parent_role name p.parent.key IsPlain ≡ true = rw e at of in clash (sym x))
        go p (IsPart n i) e of = absurd (let x : is_parent_role name p.parent.key (IsPart n i) ≡ true = rw e at of in clash (sym x))
        go p (IsParent i) e of =
            let x : (bytes_eq p.parent.key name.key && (i.signature == name.signature) && i.has_part name.part) ≡ true = rw e at of in
            let a = and_parts _ _ x in
            let b = and_parts _ _ a.0 in
            record { at = p.at; parent = p.parent; among = kept-among-nodes p.at p.among; is = p.is; index = i; role = e; key = same_bytes p.parent.key name.key b.0; signature = eqb-true i.signature name.signature b.1 }

  part-name : (node : ℕ) (k : Loaded) (name : Name) (index : PartIndex) → is_among nodes node ≡ true → given node ≡ Some k → k.role ≡ IsPart name index → IsName k.key name
  part-name node k name index among is role =
      read_name-IsName k.key name (load-then (store_of image) held_rule node k (loads-at node k among is) (λ n e f. role-name e k.key k.streams name index (f.facts.role ∙ ap (λ (r : Role). Some r) role)))

  some-one : {k l : Loaded} → ◌≡◌ {A = Option Loaded} (Some k) (Some l) → k ≡ l
  some-one e = cc

  parent-index : {i j : ParentIndex} → ◌≡◌ {A = Role} (IsParent i) (IsParent j) → i ≡ j
  parent-index e = cc

  -- two parts of one item have one name
  one-signature : (n m : Name) → IsParentAt n → IsParentAt m → n.key ≡ m.key → n.signature ≡ m.signature
  one-signature n m p q keys =
      ⊎_elim
      (λ (e : (eqb p.at q.at ≡ true) × (p.at ≡ q.at)).
      let same : p.parent ≡ q.parent = some-one (sym p.is ∙ ap given e.1 ∙ q.is) in
      let index : p.index ≡ q.index = parent-index (sym p.role ∙ ap (λ (k : Loaded). k.role) same ∙ q.role) in
      sym p.signature ∙ ap (λ (i : ParentIndex). i.signature) index ∙ q.signature)
      (λ (e : (eqb p.at q.at ≡ false) × _). absurd (one-name p.at q.at p.parent q.parent p.among q.among p.is q.is e.0 (ap is_part_role p.role ∙ sym (ap is_part_role q.role)) (p.key ∙ keys ∙ sym q.key)))
      (eqb_tells p.at q.at)

  main-one : {a b : List ℕ} → main a ≡ main b → a ≡ b
  main-one e = cc

  part-one : {a b : List ℕ} {m n : ℕ} → part a m ≡ part b n → (a ≡ b) × (m ≡ n)
  part-one e = (cc, cc)

  never : {a b : List ℕ} {n : ℕ} → main a ≡ part b n → ⊥
  never e = cc

  one-node : (node other : ℕ) (k l : Loaded) → is_among nodes node ≡ true → is_among nodes other ≡ true → given node ≡ Some k → given other ≡ Some l → (node == other) ≡ false → item_of (row_of_loaded k) ≡ item_of (row_of_loaded l) → ⊥
  one-node node other k l a b is are_is ne items = go k.role l.role refl refl items where
    mains : is_part k ≡ false → is_part l ≡ false → main k.key ≡ main l.key → ⊥
    mains p q e = one-name node other k l a b is are_is ne (p ∙ sym q) (main-one e)

    go : (r s : Role) → k.role ≡ r → l.role ≡ s → item_of (row_of_loaded k) ≡ item_of (row_of_loaded l) → ⊥
    go IsPlain IsPlain x y e = let h : main k.key ≡ main l.key = rw (x, y) at e in mains (ap is_part_role x) (ap is_part_role y) h
    go IsPlain (IsParent j) x y e = let h : main k.key ≡ main l.key = rw (x, y) at e in mains (ap is_part_role x) (ap is_part_role y) h
    go (IsParent i) IsPlain x y e = let h : main k.key ≡ main l.key = rw (x, y) at e in mains (ap is_part_role x) (ap is_part_role y) h
    go (IsParent i) (IsParent j) x y e = let h : main k.key ≡ main l.key = rw (x, y) at e in mains (ap is_part_role x) (ap is_part_role y) h
    go IsPlain (IsPart m j) x y e = let h : main k.key ≡ part m.key m.part = rw (x, y) at e in never h
    go (IsParent i) (IsPart m j) x y e = let h : main k.key ≡ part m.key m.part = rw (x, y) at e in never h
    go (IsPart n i) IsPlain x y e = let h : part n.key n.part ≡ main l.key = rw (x, y) at e in never (sym h)
    go (IsPart n i) (IsParent j) x y e = let h : part n.key n.part ≡ main l.key = rw (x, y) at e in never (sym h)
    go (IsPart n i) (IsPart m j) x y e =
        let h : part n.key n.part ≡ part m.key m.part = rw (x, y) at e in
        let same = part-one h in
        let signature : n.signature ≡ m.signature = one-signature n m (parent-at node k n i a is x) (parent-at other l m j b are_is y) same.0 in
        let keys : k.key ≡ l.key =
        (part-name node k n i a is x).printed ∙ ap₂ (λ (key : List ℕ) (s : ℕ). child_name key s n.part) same.0 signature ∙ ap (child_name m.key m.signature) same.1 ∙ sym (part-name other l m j b are_is y).printed in
        one-name node other k l a b is are_is ne (ap is_part_role x ∙ sym (ap is_part_role y)) keys

  -- ---- each item once

  rows-of : List ℕ → List Row
  rows-of xs = map row_of_loaded (filter_map given xs)

  no-times : (xs : List ℕ) (item : Item) → ((node : ℕ) (k : Loaded) → is_among xs node ≡ true → given node ≡ Some k → same_item item (item_of (row_of_loaded k)) ≡ false) → times item (map item_of (map row_of_loaded (filter_map given xs))) ≡ 0
  no-times [] item none = refl
  no-times (x ∷ xs) item none = go (given x) refl (no-times xs item (λ node k h is. none node k (or_right (x == node) (is_among xs node) h) is)) where
    go : (o : Option Loaded) → given x ≡ o → times item (map item_of (map row_of_loaded (filter_map given xs))) ≡ 0 → times item (map item_of (map row_of_loaded (cons_option (given x) (filter_map given xs)))) ≡ 0
    go None is more = rw is more
    go (Some k) is more = subst (λ (o : Option Loaded). times item (map item_of (map row_of_loaded (cons_option o (filter_map given xs)))) ≡ 0) (sym is) (one k (none x k (or_left (x == x) (is_among xs x) (eq-eqb x x refl)) is) more) where
      one : (m : Loaded) → same_item item (item_of (row_of_loaded m)) ≡ false → times item (map item_of (map row_of_loaded (filter_map given xs))) ≡ 0 → times item (map item_of (map row_of_loaded (m ∷ filter_map given xs))) ≡ 0
      one m lacks more = let t = times-cons item (item_of (row_of_loaded m)) (map item_of (map row_of_loaded (filter_map given xs))) in let u : ◌≡◌ {A = ℕ} (cond (same_item item (item_of (row_of_loaded m))) 1 0) 0 = ap (λ (b : Bool). cond b 1 0) lacks in omega (arith, t, u, more)

  few-times : (xs : List ℕ) → Distinct xs → ((x : ℕ) → is_among xs x ≡ true → is_among nodes x ≡ true) → (item : Item) → times item (map item_of (map row_of_loaded (filter_map given xs))) ≤ 1
  few-times [] d sub item = omega arith
  few-times (x ∷ xs) d sub item = go (given x) refl (few-times xs d.1 (λ y h. sub y (or_right (x == y) (is_among xs y) h)) item) where
    go : (o : Option Loaded) → given x ≡ o → times item (map item_of (map row_of_loaded (filter_map given xs))) ≤ 1 → times item (map item_of (map row_of_loaded (cons_option (given x) (filter_map given xs)))) ≤ 1
    go None is more = subst (λ (o : Option Loaded). times item (map item_of (map row_of_loaded (cons_option o (filter_map given xs)))) ≤ 1) (sym is) more
    go (Some k) is more = subst (λ (o : Option Loaded). times item (map item_of (map row_of_loaded (cons_option o (filter_map given xs)))) ≤ 1) (sym is)
        (⊎_elim (λ (t : same_item item (item_of (row_of_loaded k)) ≡ true). here k is t) (λ (t : same_item item (item_of (row_of_loaded k)) ≡ false). other k t more) (cases_Bool (same_item item (item_of (row_of_loaded k))))) where
          here : (m : Loaded) → given x ≡ Some m → same_item item (item_of (row_of_loaded m)) ≡ true → times item (map item_of (map row_of_loaded (m ∷ filter_map given xs))) ≤ 1
          here m is_m t =
              let none : times item (map item_of (map row_of_loaded (filter_map given xs))) ≡ 0 = no-times xs item (λ node l h is_l. false_of (same_item item (item_of (row_of_loaded l))) (λ same.
              one-node x node m l (sub x (or_left (x == x) (is_among xs x) (eq-eqb x x refl))) (sub node (or_right (x == node) (is_among xs node) h)) is_m is_l (apart node h) (sym (one_item item _ t) ∙ one_item item _ same))) in
              let c = times-cons item (item_of (row_of_loaded m)) (map item_of (map row_of_loaded (filter_map given xs))) in
              let u : ◌≡◌ {A = ℕ} (cond (same_item item (item_of (row_of_loaded m))) 1 0) 1 = ap (λ (b : Bool). cond b 1 0) t in
              omega (arith, none, c, u) where
                false_of : (b : Bool) → (b ≡ true → ⊥) → b ≡ false
                false_of true f = absurd (f refl)
                false_of false f = refl

                apart : (node : ℕ) → is_among xs node ≡ true → (x == node) ≡ false
                apart node h = ⊎_elim (λ (e : (eqb x node ≡ true) × (x ≡ node)). absurd (clash (sym h ∙ sym (ap (is_among xs) e.1) ∙ d.0))) (λ (e : (eqb x node ≡ false) × _). e.0) (eqb_tells x node)

          other : (m : Loaded) → same_item item (item_of (row_of_loaded m)) ≡ false → times item (map item_of (map row_of_loaded (filter_map given xs))) ≤ 1 → times item (map item_of (map row_of_loaded (m ∷ filter_map given xs))) ≤ 1
          other m t more = let c = times-cons item (item_of (row_of_loaded m)) (map item_of (map row_of_loaded (filter_map given xs))) in let u : ◌≡◌ {A = ℕ} (cond (same_item item (item_of (row_of_loaded m))) 1 0) 0 = ap (λ (b : Bool). cond b 1 0) t in omega (arith, more, c, u)

  -- ---- each row

  all-rows : (P : Row → Type 0) (xs : List ℕ) → ((node : ℕ) (k : Loaded) → is_among xs node ≡ true → given node ≡ Some k → P (row_of_loaded k)) → All P (map row_of_loaded (filter_map given xs))
  all-rows P [] each = All-nil P
  all-rows P (x ∷ xs) each = go (given x) refl (all-rows P xs (λ node k h is. each node k (or_right (x == node) (is_among xs node) h) is)) where
    go : (o : Option Loaded) → given x ≡ o → All P (map row_of_loaded (filter_map given xs)) → All P (map row_of_loaded (cons_option (given x) (filter_map given xs)))
    go None is more = subst (λ (o : Option Loaded). All P (map row_of_loaded (cons_option o (filter_map given xs)))) (sym is) more
    go (Some k) is more = subst (λ (o : Option Loaded). All P (map row_of_loaded (cons_option o (filter_map given xs)))) (sym is) (All-cons P (row_of_loaded k) (map row_of_loaded (filter_map given xs)) (each x k (or_left (x == x) (is_among xs x) (eq-eqb x x refl)) is) more)

  -- ---- parents

  some-count : (xs : List ℕ) (key : List ℕ) (node : ℕ) (k : Loaded) → is_among xs node ≡ true → given node ≡ Some k → is_sparse_main key (row_of_loaded k) ≡ true → 1 ≤ count_by (is_sparse_main key) (map row_of_loaded (filter_map given xs))
  some-count [] key node k among is good = cc
  some-count (x ∷ xs) key node k among is good =
      ⊎_elim
      (λ (e : (eqb x node ≡ true) × (x ≡ node)). subst (λ (o : Option Loaded). 1 ≤ count_by (is_sparse_main key) (map row_of_loaded (cons_option o (filter_map given xs)))) (sym (ap given e.1 ∙ is)) (one k good))
      (λ (e : (eqb x node ≡ false) × _). more (given x) (some-count xs key node k (rw e.0 at among) is good))
      (eqb_tells x node) where
        one : (m : Loaded) → is_sparse_main key (row_of_loaded m) ≡ true → 1 ≤ count_by (is_sparse_main key) (map row_of_loaded (m ∷ filter_map given xs))
        one m t = let c = count-cons key (row_of_loaded m) (map row_of_loaded (filter_map given xs)) in let u : ◌≡◌ {A = ℕ} (cond (is_sparse_main key (row_of_loaded m)) 1 0) 1 = ap (λ (b : Bool). cond b 1 0) t in omega (arith, c, u)

        more : (o : Option Loaded) → 1 ≤ count_by (is_sparse_main key) (map row_of_loaded (filter_map given xs)) → 1 ≤ count_by (is_sparse_main key) (map row_of_loaded (cons_option o (filter_map given xs)))
        more None h = h
        more (Some m) h = let c = count-cons key (row_of_loaded m) (map row_of_loaded (filter_map given xs)) in omega (arith, c, h)

  one-parent : (key : List ℕ) (name : Name) → name.key ≡ key → IsParentAt name → count_by (is_sparse_main key) (map row_of_loaded (filter_map given nodes)) ≡ 1
  one-parent key name of p =
      let sparse_is : is_sparse_main key (row_of_loaded p.parent) ≡ true = is-main p.parent p.index p.role (p.key ∙ of) in
      let some = some-count nodes key p.at p.parent p.among p.is sparse_is in
      let most = sparse_mains key (map row_of_loaded (filter_map given nodes)) in
      let few = few-times nodes once (λ x h. h) (main key) in
      omega (arith, some, most, few) where
        is-main : (l : Loaded) (index : ParentIndex) → l.role ≡ IsParent index → l.key ≡ key → is_sparse_main key (row_of_loaded l) ≡ true
        is-main l index role same = rw (role, same, bytes_eq_self key) refl

  parent-row : (node : ℕ) (k : Loaded) → is_among nodes node ≡ true → given node ≡ Some k → HasParent (map row_of_loaded (filter_map given nodes)) (row_of_loaded k)
  parent-row node k among is = go k.role refl where
    go : (r : Role) → k.role ≡ r → HasParent (map row_of_loaded (filter_map given nodes)) (row_of_loaded k)
    go IsPlain e = rw e tt
    go (IsParent index) e = rw e tt
    go (IsPart name index) e = rw e (one-parent name.key name refl (parent-at node k name index among is e))

  kept-is : kept image ≡ filter_map given nodes
  unfolding kept kept_among
  kept-is = refl

  holding-rows : IsValidHolding (map row_of_loaded (filter_map given nodes))
  holding-rows = record {
    once = few-times nodes once (λ x h. h);
    each = all-rows IsRow nodes (λ node k h is. row-is image are held_rule node k (loads-at node k h is));
    parents = all-rows (HasParent (map row_of_loaded (filter_map given nodes))) nodes parent-row;
  }

no-rows : IsValidHolding []
no-rows = record { once = λ item. omega arith; each = All-nil IsRow; parents = All-nil (HasParent []) }

pub found-holding : FoundIsAHolding
unfolding found
found-holding image are =
    ⊎_elim
    (λ (e : unfinished image ≡ true). rw e no-rows)
    (λ (e : unfinished image ≡ false). rw e (subst (λ (ks : List Loaded). IsValidHolding (map row_of_loaded ks)) (sym (kept-is image are)) (holding-rows image are)))
    (cases_Bool (unfinished image))
