-- A new object: its record and node written, its node inserted, its record linked.
use Rattle.std.proofs.Common.{◌≡◌, ℕ, zero, suc, ◌+◌, ◌<◌, List, [], ◌∷◌, ◌++◌, length, map, refl, ap, sym, ◌∙◌, subst, Bool, true, false, arith, cond, get_or, Option, Some, None, Ok, ⊎_elim, ◌⊎◌, inl, inr}
use Rattle.std.specs.Str.{bytes_eq}
use Rattle.std.specs.Prelude.{not, ◌&&◌, ◌==◌}
use Rattle.std.specs.Option.{option_and_then, option_map}
use Rattle.std.specs.List.{filter, filter_map, cons_option}
use Rattle.std.proofs.lemmas.Bool.{cases_Bool, eq-eqb, eqb-true, or_left, or_right, or_parts}
use Rattle.std.proofs.lemmas.Bool.Decides.{eqb_tells}
use Rattle.std.proofs.Math.Dec.{eqb}
use Rattle.spec_folder.specs.ListView.{put, Distinct}
use Rattle.blk_model.specs.Items.{Item, main, part, Row, main_row, same_item}
use Rattle.blk_model.specs.State.{State, Object, IsValidState, object_at, slot_has_item, first_with}
use Rattle.blk_model.specs.Effects.{created, new_object}
use Rattle.blk_model.proofs.Same.{same_item_self, bytes_eq_self}
use Rattle.blk_model.proofs.Each.{push_at}
use Rattle.spec_format.specs.Hash.{hash}
use Rattle.spec_format.specs.BlockFiles.{is_among}
use Rattle.spec_folder.specs.View.{StoreView}
use Rattle.spec_folder.specs.Chains.{chain, bucket_of_hash, is_of_bucket, Linked, IsChain}
use Rattle.spec_folder.specs.Loads.{Rule, held_rule, Loaded, load}
use Rattle.spec_folder.specs.Audit.{kept_among}
use Rattle.spec_folder.specs.Entries.{stored_key, stored_stream, stored_streams}
use Rattle.spec_folder.specs.Found.{row_of_loaded}
use Rattle.spec_folder.specs.Layout.{Layout, is_listed, nodes_of, order, rule_of, IsPlacedAt, Shows, IsLayoutOf, Holds, OneChanged, is_in}
use Rattle.spec_folder.specs.Shown.{IsShown, HasParentIn, IsOrphanIn}
use Rattle.spec_folder.specs.Given.{given_by, is_settled}
use Rattle.spec_folder.specs.Creation.{with_first, IsNewItem, IsNewEntry, IsFrontOfChain, with_new, linked_front}
use Rattle.law_folder.proofs.commands.NewItems.{item-lies, order-after as item-order}
use Rattle.law_folder.proofs.commands.Opening.{lies-reordered}
use Rattle.law_folder.proofs.walks.Loads.{load-then}
use Rattle.law_folder.proofs.walks.Loading.{load-from, load-one, load-clean}
use Rattle.law_folder.proofs.states.Laid.{IsNodeOf, node-of, laid-shown, settled-goes}
use Rattle.law_folder.proofs.walks.Shown.{kept-given}
use Rattle.law_folder.proofs.states.Central.{rest-found}
use Rattle.law_folder.proofs.claims.Owner.{IsOwned, owned}
use Rattle.law_folder.proofs.states.Changing.{at-itself, at-elsewhere}
use Rattle.blk_model.specs.Holding as model

-- ---- a state with one more object

push-some : (i : Item) (start j : ℕ) (slots : List (Option Object)) (slot : Option Object) → first_with i start slots ≡ Some j → first_with i start (slots ++ slot ∷ []) ≡ Some j
push-some i start j [] slot e = cc
push-some i start j (s ∷ slots) slot e = go (slot_has_item i s) (push-some i (start + 1) j slots slot) e where
  go : (b : Bool) → (first_with i (start + 1) slots ≡ Some j → first_with i (start + 1) (slots ++ slot ∷ []) ≡ Some j)
      → cond b (Some start) (first_with i (start + 1) slots) ≡ Some j → cond b (Some start) (first_with i (start + 1) (slots ++ slot ∷ [])) ≡ Some j
  go true more e = e
  go false more e = more e

push-none : (i : Item) (start : ℕ) (slots : List (Option Object)) (slot : Option Object) → first_with i start slots ≡ None → slot_has_item i slot ≡ true → first_with i start (slots ++ slot ∷ []) ≡ Some (start + length slots)
push-none i start [] slot e is_among = rw is_among (ap Some (omega arith))
push-none i start (s ∷ slots) slot e is_among = go (slot_has_item i s) (push-none i (start + 1) slots slot) e where
  go : (b : Bool) → (first_with i (start + 1) slots ≡ None → slot_has_item i slot ≡ true → first_with i (start + 1) (slots ++ slot ∷ []) ≡ Some (start + 1 + length slots))
      → cond b (Some start) (first_with i (start + 1) slots) ≡ None → cond b (Some start) (first_with i (start + 1) (slots ++ slot ∷ [])) ≡ Some (start + suc (length slots))
  go true more e = cc
  go false more e = more e is_among ∙ ap Some (omega arith)

pub push-here : (slots : List (Option Object)) (slot : Option Object) (k : ℕ) (o : Object) → get_or slots k None ≡ Some o → get_or (slots ++ slot ∷ []) k None ≡ Some o
push-here [] slot k o e = cc
push-here (s ∷ slots) slot zero o e = e
push-here (s ∷ slots) slot (suc k) o e = push-here slots slot k o e

pub push-back : (slots : List (Option Object)) (slot : Option Object) (k : ℕ) (o : Object) → get_or (slots ++ slot ∷ []) k None ≡ Some o → (get_or slots k None ≡ Some o) ⊎ (slot ≡ Some o)
push-back [] slot zero o e = inr e
push-back [] slot (suc k) o e = cc
push-back (s ∷ slots) slot zero o e = inl e
push-back (s ∷ slots) slot (suc k) o e = push-back slots slot k o e

module _ (m : State) (y : Layout) (r : IsLayoutOf m y) (v : StoreView) (handle : ℕ) (key : List ℕ) (l : Loaded) (new : IsNewEntry v y key l) (none : model.owner m (main key) ≡ None) where
  after : State
  after = created handle key m

  -- no object has the key, so its item is not listed
  unlisted : is_listed m (main key) ≡ false
  unfolding model.row_of
  unlisted = ⊎_elim
      (λ (e : is_listed m (main key) ≡ true). let q : IsPlacedAt m y (main key) = r.laid (main key) e in let no_row : model.row_of m (main key) ≡ None = rw none refl in
      absurd (let c : ◌≡◌ {A = Option Row} (Some (row_of_loaded q.loaded)) None = sym q.row ∙ no_row in cc))
      (λ (e : is_listed m (main key) ≡ false). e)
      (cases_Bool (is_listed m (main key)))

  -- an item that had an owner has it still
  owner-object : (i : Item) (j : ℕ) → model.owner m i ≡ Some j → model.owner_object (created handle key m) i ≡ model.owner_object m i
  unfolding created
  owner-object i j e =
      let o : IsOwned m i j = owned m i j e in
      let p : model.owner (created handle key m) i ≡ Some j = push-some i 0 j m.objects (Some (new_object key)) e in
      rw (p, e, push-here m.objects (Some (new_object key)) j o.object o.here, o.here) refl

  owner-of : (i : Item) (x : Row) → model.row_of m i ≡ Some x → (j : ℕ) × (model.owner m i ≡ Some j)
  unfolding model.row_of
  owner-of i x e = go (model.owner m i) refl where
    go : (w : Option ℕ) → model.owner m i ≡ w → (j : ℕ) × (model.owner m i ≡ Some j)
    go (Some j) is = (j, is)
    go None is = let no_row : model.row_of m i ≡ None = rw is refl in absurd (let c : ◌≡◌ {A = Option Row} (Some x) None = sym e ∙ no_row in cc)

  -- the new item
  new-owner : model.owner_object (created handle key m) (main key) ≡ Some (new_object key)
  unfolding created
  new-owner = rw (push-none (main key) 0 m.objects (Some (new_object key)) none (bytes_eq_self key)) (at-length) where
    at-length : get_or (m.objects ++ Some (new_object key) ∷ []) (0 + length m.objects) None ≡ Some (new_object key)
    at-length = ap (λ (k : ℕ). get_or (m.objects ++ Some (new_object key) ∷ []) k None) (let e : 0 + length m.objects ≡ length m.objects = omega arith in e) ∙ push_at m.objects (Some (new_object key))

  -- an item that no object had and that isn't the new one has no object still
  absent : (i : Item) (start : ℕ) (slots : List (Option Object)) → same_item i (main key) ≡ false → first_with i start slots ≡ None → first_with i start (slots ++ Some (new_object key) ∷ []) ≡ None
  absent (main k) start [] apart e = rw apart refl
  absent (part k n) start [] apart e = go (bytes_eq k key) where
    go : (b : Bool) → ◌≡◌ {A = Option ℕ} (cond (true && b && false) (Some start) None) None
    go true = refl
    go false = refl
  absent i start (s ∷ slots) apart e = go (slot_has_item i s) (absent i (start + 1) slots apart) e where
    go : (b : Bool) → (first_with i (start + 1) slots ≡ None → first_with i (start + 1) (slots ++ Some (new_object key) ∷ []) ≡ None)
        → cond b (Some start) (first_with i (start + 1) slots) ≡ None → cond b (Some start) (first_with i (start + 1) (slots ++ Some (new_object key) ∷ [])) ≡ None
    go true more e = cc
    go false more e = more e

  -- so the owners of the others are the same
  owner-object-same : (i : Item) → same_item i (main key) ≡ false → model.owner_object (record m { objects = m.objects ++ Some (new_object key) ∷ [] }) i ≡ model.owner_object m i
  unfolding created
  owner-object-same i apart = go (model.owner m i) refl where
    go : (w : Option ℕ) → model.owner m i ≡ w → model.owner_object (record m { objects = m.objects ++ Some (new_object key) ∷ [] }) i ≡ model.owner_object m i
    go (Some j) is = owner-object i j is
    go None is = rw (absent i 0 m.objects apart is, is) refl

  -- the new object differs from the old ones in its main item
  pub changed : OneChanged m (m.objects ++ Some (new_object key) ∷ []) (main key)
  unfolding model.row_of
  changed = record {
    rows = λ other apart. ap (option_and_then (λ object. model.row_in object other)) (owner-object-same other apart);
    settled = λ k apart. ap (option_map (λ (object : Object). object.settled)) (owner-object-same (main k) apart);
    doomed_same = λ number o is dead. ⊎_elim
        (λ (old : object_at m number ≡ Some o). old)
        (λ (q : Some (new_object key) ≡ Some o). let s : new_object key ≡ o = cc in absurd (let z : true ≡ false = ap (λ (k : Object). k.live) s ∙ dead in cc))
        (push-back m.objects (Some (new_object key)) number o is);
  }

  pub as-item : IsNewItem m (m.objects ++ Some (new_object key) ∷ []) y (main key) l
  unfolding model.row_of created
  as-item = record {
    unlisted = unlisted;
    row = ap (option_and_then (λ object. model.row_in object (main key))) new-owner ∙ ap Some (sym row);
    mark = rw new-owner new.dirty;
    parent = tt;
    nobody = new.nobody;
    free = new.free;
    single = new.single;
  } where
    row : row_of_loaded l ≡ main_row key (new_object key).shape ([], [], [])
    row = rw (new.role, new.streams, new.key_is) refl

  -- the LRU list afterwards: the new item, and the others
  pub uses-after : (created handle key m).uses ≡ main key ∷ m.uses
  unfolding created
  uses-after = ap (λ (xs : List Item). main key ∷ xs) (absent m.uses unlisted) where
    absent : (items : List Item) → is_in items (main key) ≡ false → filter (λ other. not (same_item (main key) other)) items ≡ items
    absent [] e = refl
    absent (i ∷ items) e = let p = or_parts (same_item (main key) i) (is_in items (main key)) e in rw p.0 (ap (λ (xs : List Item). i ∷ xs) (absent items p.1))

  -- the created state is the one with the new item in front, but for the names
  is-first : (names : List (Option ℕ)) → names ≡ (created handle key m).names → created handle key m ≡ record (with_first m (m.objects ++ Some (new_object key) ∷ []) (main key)) { names = names }
  unfolding created
  is-first names e = λ k. record { objects = m.objects ++ Some (new_object key) ∷ []; uses = uses-after k; names = sym e k; limits = m.limits }

  pub order-after : order (created handle key m) (with_new y key l) ≡ l.node ∷ order m y
  order-after = ap (nodes_of (with_new y key l)) uses-after ∙ item-order m (m.objects ++ Some (new_object key) ∷ []) y (main key) l r changed as-item

  pub created-lies : IsLayoutOf (created handle key m) (with_new y key l)
  created-lies = subst (λ (s : State). IsLayoutOf s (with_new y key l)) (sym (is-first (created handle key m).names refl))
      (lies-reordered (with_first m (m.objects ++ Some (new_object key) ∷ []) (main key)) (with_new y key l) (main key ∷ m.uses) (created handle key m).names (λ i. refl)
      (item-lies m (m.objects ++ Some (new_object key) ∷ []) y (main key) l r changed as-item))

  -- the durable contents are the same before and after
  rest-item : (i : Item) → is_listed m i ≡ true → model.settled_row (created handle key m) i ≡ model.settled_row m i
  unfolding model.settled_row created
  rest-item i there =
      let q : IsPlacedAt m y i = r.laid i there in
      let own = owner-of i (row_of_loaded q.loaded) q.row in
      ap (option_and_then (λ object. cond object.settled (model.row_in object i) None)) (owner-object i own.0 own.1)

  rest-items : (items : List Item) → ((i : Item) → is_in items i ≡ true → is_listed m i ≡ true) → filter_map (model.settled_row (created handle key m)) items ≡ filter_map (model.settled_row m) items
  rest-items [] sub = refl
  rest-items (i ∷ items) sub =
      rw (rest-item i (sub i (or_left (same_item i i) (is_in items i) (same_item_self i)))) (ap (cons_option (model.settled_row m i)) (rest-items items (λ j h. sub j (or_right (same_item j i) (is_in items j) h))))

  pub created-rest : model.rest (created handle key m) ≡ model.rest m
  unfolding model.settled_row created model.rest
  created-rest = ap (filter_map (model.settled_row (created handle key m))) uses-after ∙ rw new-unsettled (rest-items m.uses (λ i h. h)) where
    new-unsettled : model.settled_row (created handle key m) (main key) ≡ None
    new-unsettled = ap (option_and_then (λ object. cond object.settled (model.row_in object (main key)) None)) new-owner

-- ---- what is shown

pub load-table : (v : StoreView) (t : ℕ → ℕ) (rule : Rule) (w : ℕ) (l : Loaded) → rule.chained ≡ false → load v rule w ≡ Ok l → load (record v { table = t }) rule w ≡ Ok l
unfolding stored_key stored_streams stored_stream
load-table v t rule w l free ok = load-then v rule w l ok (λ n e g.
    let r = g.facts in let k = r.keyed in
    load-from (record v { table = t }) rule w l n e (record {
      node = g.node;
      entry = g.entry;
      checks = g.checks;
      facts = record {
        keyed = record {
          state = k.state;
          back = k.back;
          flags = k.flags;
          clean = k.clean;
          key_length = k.key_length;
          key = k.key;
          hashed = k.hashed;
          chained = or_left (not rule.chained) (is_among (chain (record v { table = t }) (bucket_of_hash e.hash)).reached n.contents) (ap not free);
        };
        streams = r.streams;
        role = r.role;
        node_is = r.node_is;
        contents_is = r.contents_is;
        dirty_is = r.dirty_is;
        others_are = r.others_are;
      };
    }))

pub linked-table : (v : StoreView) (t : ℕ → ℕ) (b w : ℕ) (cs : List ℕ) → Linked v b w cs → Linked (record v { table = t }) b w cs
linked-table v t b w [] h = h
linked-table v t b w (c ∷ cs) h = (h.0, h.1, linked-table v t b (v.chain_next c) cs h.2)

module _ (v : StoreView) (y : Layout) (r : Shows v y) (key : List ℕ) (l : Loaded) (new : IsNewEntry v y key l) (prefix : IsFrontOfChain v y l) where
  t : ℕ → ℕ
  t = put v.table (bucket_of_hash (hash l.key)) l.contents

  -- the record is of its bucket
  of_bucket : is_of_bucket v (bucket_of_hash (hash l.key)) l.contents ≡ true
  of_bucket = load-then v (record { state = 0; clean = false; chained = false }) l.node l new.loads (λ n e g.
      let entry : v.entry l.contents ≡ Some e = ap v.entry g.facts.contents_is ∙ g.entry in
      let h : e.hash ≡ hash l.key = eqb-true e.hash (hash l.key) g.facts.keyed.hashed in
      rw (entry, g.checks, h, eq-eqb (bucket_of_hash (hash l.key)) (bucket_of_hash (hash l.key)) refl) refl)

  front-chain : bucket_of_hash (hash l.key) < 65536 → IsChain (linked_front v l) (bucket_of_hash (hash l.key)) (l.contents ∷ y.chains (bucket_of_hash (hash l.key)))
  front-chain below = let c : IsChain v (bucket_of_hash (hash l.key)) (y.chains (bucket_of_hash (hash l.key))) = r.chains (bucket_of_hash (hash l.key)) below in
      record {
        linked = (
          at-itself v.table (bucket_of_hash (hash l.key)) l.contents,
          of_bucket,
          linked-table v (put v.table (bucket_of_hash (hash l.key)) l.contents) (bucket_of_hash (hash l.key)) (v.chain_next l.contents) (y.chains (bucket_of_hash (hash l.key))) (subst (λ (x : ℕ). Linked v (bucket_of_hash (hash l.key)) x (y.chains (bucket_of_hash (hash l.key)))) (sym prefix.follows) c.linked),
        );
        once = (prefix.fresh, c.once);
      }

  chains-after : (n : ℕ) → n < 65536 → IsChain (linked_front v l) n (put y.chains (bucket_of_hash (hash l.key)) (l.contents ∷ y.chains (bucket_of_hash (hash l.key))) n)
  chains-after n below = ⊎_elim
      (λ (e : (eqb (bucket_of_hash (hash l.key)) n ≡ true) × (bucket_of_hash (hash l.key) ≡ n)).
      subst (λ (z : ℕ). IsChain (linked_front v l) z (put y.chains (bucket_of_hash (hash l.key)) (l.contents ∷ y.chains (bucket_of_hash (hash l.key))) z)) e.1
      (subst (IsChain (linked_front v l) (bucket_of_hash (hash l.key))) (sym (at-itself y.chains (bucket_of_hash (hash l.key)) (l.contents ∷ y.chains (bucket_of_hash (hash l.key))))) (front-chain (subst (λ (z : ℕ). z < 65536) (sym e.1) below))))
      (λ (e : (eqb (bucket_of_hash (hash l.key)) n ≡ false) × _).
      let c : IsChain v n (y.chains n) = r.chains n below in
      subst (IsChain (linked_front v l) n) (sym (at-elsewhere y.chains (bucket_of_hash (hash l.key)) (l.contents ∷ y.chains (bucket_of_hash (hash l.key))) n e.0))
      (record { linked = subst (λ (x : ℕ). Linked (linked_front v l) n x (y.chains n)) (sym (at-elsewhere v.table (bucket_of_hash (hash l.key)) l.contents n e.0)) (linked-table v (put v.table (bucket_of_hash (hash l.key)) l.contents) n (v.table n) (y.chains n) c.linked); once = c.once }))
      (eqb_tells (bucket_of_hash (hash l.key)) n)

  each-after : (w : ℕ) (x : Loaded) → put y.at l.node (Some l) w ≡ Some x → load (linked_front v l) (rule_of (with_new y key l) w) w ≡ Ok x
  each-after w x is = ⊎_elim
      (λ (e : (eqb l.node w ≡ true) × (l.node ≡ w)).
      let a : ◌≡◌ {A = Option Loaded} (Some l) (Some x) = sym (at-itself y.at l.node (Some l)) ∙ ap (put y.at l.node (Some l)) e.1 ∙ is in
      let s : l ≡ x = cc in
      let rule_is : rule_of (with_new y key l) l.node ≡ record { state = 0; clean = false; chained = false } = ap (λ (z : ℕ). let q : Rule = record { state = z; clean = false; chained = false } in q) (at-itself y.state l.node 0) in
      subst (λ (z : ℕ). load (linked_front v l) (rule_of (with_new y key l) z) z ≡ Ok x) e.1
      (ap (λ (q : Rule). load (linked_front v l) q l.node) rule_is ∙ load-table v (put v.table (bucket_of_hash (hash l.key)) l.contents) (record { state = 0; clean = false; chained = false }) l.node l refl new.loads ∙ ap Ok s))
      (λ (e : (eqb l.node w ≡ false) × _).
      let rule_is : rule_of (with_new y key l) w ≡ rule_of y w = ap (λ (z : ℕ). let q : Rule = record { state = z; clean = false; chained = false } in q) (at-elsewhere y.state l.node 0 w e.0) in
      ap (λ (q : Rule). load (linked_front v l) q w) rule_is ∙ load-table v (put v.table (bucket_of_hash (hash l.key)) l.contents) (rule_of y w) w x refl (r.each w x (sym (at-elsewhere y.at l.node (Some l) w e.0) ∙ is)))
      (eqb_tells l.node w)

  pub created-shows : Shows (linked_front v l) (with_new y key l)
  created-shows = record { no_record = r.no_record; each = each-after; chains = chains-after }

-- ---- with the new node in the list, before its record is linked

-- one more walked node that does not load
module _ (v : StoreView) (rule : Rule) (ws : List ℕ) (given : ℕ → Option Loaded) (shown : IsShown v rule ws given) (w : ℕ) (lacks : is_among ws w ≡ false) (none : given w ≡ None) (unread : (k : Loaded) → load v rule w ≡ Ok k → ⊥) where
  older : (x : ℕ) (k : Loaded) → is_among (w ∷ ws) x ≡ true → given x ≡ Some k → is_among ws x ≡ true
  older x k there is = ⊎_elim
      (λ (e : (eqb w x ≡ true) × (w ≡ x)). let a : given x ≡ None = ap given (sym e.1) ∙ none in absurd (let z : ◌≡◌ {A = Option Loaded} (Some k) None = sym is ∙ a in cc))
      (λ (e : (eqb w x ≡ false) × _). rw e.0 at there)
      (eqb_tells w x)

  pub shown-more : IsShown v rule (w ∷ ws) given
  shown-more = record {
    once = (lacks, shown.once);
    loads = λ x l there is. shown.loads x l (older x l there is) is;
    single = λ x l there is. shown.single x l (older x l there is) is;
    apart = λ x z k l in_x in_z other is_x is_z. shown.apart x z k l (older x k in_x is_x) (older z l in_z is_z) other is_x is_z;
    parents = λ x l name index there is role. let p : HasParentIn ws given name = shown.parents x l name index (older x l there is) is role in
        record { at = p.at; parent = p.parent; among = or_right (w == p.at) (is_among ws p.at) p.among; is = p.is; of = p.of };
    out = λ x l there gone ok. ⊎_elim
        (λ (e : (eqb w x ≡ true) × (w ≡ x)). absurd (unread l (subst (λ (z : ℕ). load v rule z ≡ Ok l) (sym e.1) ok)))
        (λ (e : (eqb w x ≡ false) × _).
        let o : IsOrphanIn ws given l = shown.out x l (rw e.0 at there) gone ok in
        record { name = o.name; index = o.index; part = o.part; none = λ z k at_z is. o.none z k (older z k at_z is) is })
        (eqb_tells w x);
  }

module _ (v : StoreView) (m : State) (y : Layout) (r : Holds v m y) (valid : IsValidState m) (key : List ℕ) (l : Loaded) (new : IsNewEntry v y key l) (once : Distinct (order m y)) where
  pub new-lacks : is_among (order m y) l.node ≡ false
  new-lacks = ⊎_elim
      (λ (e : is_among (order m y) l.node ≡ true).
      let n : IsNodeOf y m.uses l.node = node-of y m.uses l.node e in let q : IsPlacedAt m y n.item = r.lies.laid n.item n.among in
      let a : y.at l.node ≡ Some q.loaded = ap y.at (sym n.is) ∙ q.here in
      absurd (let z : ◌≡◌ {A = Option Loaded} (Some q.loaded) None = sym a ∙ new.nobody in cc))
      (λ (e : is_among (order m y) l.node ≡ false). e)
      (cases_Bool (is_among (order m y) l.node))

  dirty-unread : (k : Loaded) → load v held_rule l.node ≡ Ok k → ⊥
  dirty-unread k ok =
      let s : l ≡ k = load-one v (record { state = 0; clean = false; chained = false }) held_rule l.node l k new.loads ok in
      let a : (k.dirty == 0) ≡ true = load-clean v held_rule l.node k ok in
      let z : (k.dirty == 0) ≡ false = ap (λ (q : Loaded). q.dirty == 0) (sym s) ∙ new.dirty in
      let c : true ≡ false = sym a ∙ z in cc

  -- what is found while the new node is listed and dirty is the old durable contents
  pub inserted-rest : map row_of_loaded (kept_among v held_rule (l.node ∷ order m y)) ≡ model.rest m
  inserted-rest =
      let goes = settled-goes m y r.lies.laid m.uses (λ i h. h) in
      let shown : IsShown v held_rule (order m y) (given_by (is_settled y m.uses) y) = laid-shown v m y r held_rule m.uses (is_settled y m.uses) refl (λ i h. h) once goes in
      let none : given_by (is_settled y m.uses) y l.node ≡ None = rw new.nobody refl in
      let more : IsShown v held_rule (l.node ∷ order m y) (given_by (is_settled y m.uses) y) = shown-more v held_rule (order m y) (given_by (is_settled y m.uses) y) shown l.node new-lacks none dirty-unread in
      ap (map row_of_loaded) (kept-given v held_rule (l.node ∷ order m y) (given_by (is_settled y m.uses) y) more ∙ rw none refl)
      ∙ ap (map row_of_loaded) (sym (kept-given v held_rule (order m y) (given_by (is_settled y m.uses) y) shown)) ∙ rest-found v m y r valid once
