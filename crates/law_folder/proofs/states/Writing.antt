-- At any word of a change inside the footprint of a node of a dirty object, the recovered contents are the durable ones.
use Rattle.std.proofs.Common.{◌≡◌, ℕ, ◌<◌, List, map, refl, ap, sym, ◌∙◌, subst, Bool, true, false, arith, Option, Some, Ok, ⊎_elim}
use Rattle.std.specs.Prelude.{◌&&◌, ◌==◌}
use Rattle.std.specs.Option.{option_map_or}
use Rattle.std.proofs.lemmas.Bool.Decides.{eqb_tells}
use Rattle.std.proofs.Math.Dec.{eqb}
use Rattle.spec_folder.specs.ListView.{IsList, first_or, last_or}
use Rattle.spec_folder.specs.Walk.{walk}
use Rattle.spec_folder.specs.Completion.{completed_list}
use Rattle.blk_model.specs.Items.{Item, main, part, key_of}
use Rattle.blk_model.specs.State.{State, Object, IsValidState, object_at, has_item, slot_has_item}
use Rattle.blk_model.proofs.States.{one_owner}
use Rattle.spec_format.specs.BlockFiles.{is_among}
use Rattle.spec_format.specs.Claims.{Claim}
use Rattle.spec_format.specs.Names.{Name, read_name}
use Rattle.spec_folder.specs.View.{View, StoreView, NodeFields, RecordFields}
use Rattle.spec_folder.specs.Chains.{is_of_bucket, bucket_of_hash, Linked, IsChain}
use Rattle.spec_folder.specs.Entries as entries
use Rattle.spec_folder.specs.Loads.{held_rule, Rule, Loaded, load, is_part, is_part_role}
use Rattle.spec_folder.specs.Audit.{kept_among}
use Rattle.spec_folder.specs.Found.{row_of_loaded}
use Rattle.spec_folder.specs.Layout.{Layout, is_listed, order, rule_of, IsPartAt, IsPlacedAt, IsListedRecord, IsLayoutOf, Shows, Represents, HoldsExcept, IsInProgress}
use Rattle.spec_folder.specs.Footprint.{IsClear, SameNodeLinks, SameBut, IsInsideNode, KeepsName}
use Rattle.law_folder.proofs.walks.Loads.{load-then}
use Rattle.law_folder.proofs.walks.Loading.{load-clean}
use Rattle.law_folder.proofs.walks.Shown.{node-is, role-part, role-name}
use Rattle.law_folder.proofs.claims.Owner.{live, its-key}
use Rattle.law_folder.proofs.commands.Opening.{listed-times}
use Rattle.law_folder.proofs.states.Laid.{IsNodeOf, node-of, part-at}
use Rattle.law_folder.proofs.claims.Outside.{AreClear, all-clear, clear-zero, load-outside}
use Rattle.law_folder.proofs.states.Changing.{same-place}
use Rattle.law_folder.proofs.states.Replacing.{linked-facts, segment-facts}
use Rattle.law_folder.proofs.states.Settling.{main-listed, main-owned}
use Rattle.law_folder.proofs.lists.Walks.{walk_list}
use Rattle.law_folder.proofs.states.Central.{walk-idle}
use Rattle.law_folder.proofs.states.Midst.{midst-rest}
use Rattle.blk_model.specs.Holding as model

-- the dirty flag of what loads is the node's
dirty-of : (v : StoreView) (a : Rule) (w : ℕ) (k : Loaded) (n : NodeFields) → load v a w ≡ Ok k → v.node_fields w ≡ Some n → k.dirty ≡ n.dirty
dirty-of v a w k n ok is = load-then v a w k ok (λ x e f. f.facts.dirty_is ∙ ap (λ (z : NodeFields). z.dirty) (let p : v.node_fields w ≡ Some x = f.node in let q : v.node_fields w ≡ Some n = is in let s : x ≡ n = cc in s))

module _ (touched : Claim → Bool) (v u : View) (m : State) (y : Layout) (r : Represents v m y) (valid : IsValidState m) (number : ℕ) (o : Object) (item : Item) (here : object_at m number ≡ Some o) (has : has_item o item ≡ true) (unsettled : o.settled ≡ false)
    (l : Loaded) (at : y.at (y.place item) ≡ Some l) (same : SameBut touched v u) (inside : IsInsideNode touched v u y (y.place item) l) (name : KeepsName v.store u.store item l.contents) where
  lies : IsLayoutOf m y
  lies = r.holds.lies

  shows : Shows v.store y
  shows = r.holds.shows

  clear-other : (w : ℕ) (x : Loaded) → (y.place item == w) ≡ false → y.at w ≡ Some x → AreClear touched x
  clear-other w x apart is = all-clear touched x (λ c h. inside.apart c w (lies.own w x c is h) apart)

  by-node : (P : ℕ → Type 0) (w : ℕ) → (y.place item ≡ w → P w) → ((y.place item == w) ≡ false → P w) → P w
  by-node P w f g = ⊎_elim (λ (e : (eqb (y.place item) w ≡ true) × (y.place item ≡ w)). f e.1) (λ (e : (eqb (y.place item) w ≡ false) × _). g e.0) (eqb_tells (y.place item) w)

  chain-same : (b c : ℕ) → b < 65536 → is_among (y.chains b) c ≡ true → (is_of_bucket u.store b c ≡ is_of_bucket v.store b c) × (u.store.chain_next c ≡ v.store.chain_next c)
  chain-same b c below there =
      let q : IsListedRecord m y c = lies.unchained b c below there in
      by-node (λ z. z ≡ q.node → (is_of_bucket u.store b c ≡ is_of_bucket v.store b c) × (u.store.chain_next c ≡ v.store.chain_next c)) q.node
      (λ e _.
      let s : l ≡ q.loaded = let a : y.at (y.place item) ≡ y.at q.node = ap y.at e in let p : y.at q.node ≡ Some q.loaded = q.here in let t : y.at (y.place item) ≡ Some l = at in cc in
      let c_is : l.contents ≡ c = ap (λ (z : Loaded). z.contents) s ∙ q.record_is in
      subst (λ (z : ℕ). (is_of_bucket u.store b z ≡ is_of_bucket v.store b z) × (u.store.chain_next z ≡ v.store.chain_next z)) c_is (inside.bucket b, inside.chain_next))
      (λ e _.
      let clear : IsClear touched c = subst (IsClear touched) q.record_is (clear-other q.node q.loaded e q.here).contents in
      (ap (λ (x : Option RecordFields). option_map_or (λ e. e.checks && (bucket_of_hash e.hash == b)) x false) (sym (same.store.entry c clear)), sym (same.store.chain_next c clear)))
      refl

  but : HoldsExcept (λ w. y.place item == w) u.store m y
  but = record {
    no_record = sym (same.store.entry 0 (clear-zero touched)) ∙ shows.no_record;
    each = λ w x is apart. load-outside touched v.store u.store same.store (rule_of y w) w x refl (shows.each w x is) (clear-other w x apart is);
    chains = λ b below. let c : IsChain v.store b (y.chains b) = shows.chains b below in
        record { linked = subst (λ (x : ℕ). Linked u.store b x (y.chains b)) (same.table b) (linked-facts v.store u.store b (v.store.table b) (y.chains b) (λ x there. chain-same b x below there) c.linked); once = c.once };
    laid = lies.laid;
    normal = lies.normal;
    chained = λ w x there is _. lies.chained w x there is;
    own = lies.own;
    single = lies.single;
  }

  node-same : (w : ℕ) → is_among (order m y) w ≡ true → SameNodeLinks w v.list u.list
  node-same w there =
      let n : IsNodeOf y m.uses w = node-of y m.uses w there in
      let q : IsPlacedAt m y n.item = lies.laid n.item n.among in
      let is : y.at w ≡ Some q.loaded = ap y.at (sym n.is) ∙ q.here in
      by-node (λ z. z ≡ w → SameNodeLinks w v.list u.list) w
      (λ e _. subst (λ (z : ℕ). SameNodeLinks z v.list u.list) e inside.links)
      (λ e _.
      let clear : IsClear touched w = subst (IsClear touched) (node-is v.store (rule_of y w) w q.loaded (shows.each w q.loaded is)) (clear-other w q.loaded e is).node in
      record { checks = same.links.checks w clear; next = same.links.next w clear; prev = same.links.prev w clear })
      refl

  list-still : IsList u.list (order m y)
  list-still = record {
    head_is = sym same.links.head ∙ r.list.head_is;
    tail_is = sym same.links.tail ∙ r.list.tail_is;
    linked = segment-facts v.list u.list (first_or 0 (order m y)) (last_or 0 (order m y)) (order m y) node-same r.list.linked;
    distinct = r.list.distinct;
    few = r.list.few;
    no_zero = sym (same.links.checks 0 (clear-zero touched)) ∙ r.list.no_zero;
  }

  -- the item is listed with its main item
  o-live : o.live ≡ true
  o-live = live o item has

  item-there : is_listed m item ≡ true
  item-there = let one = one_owner m valid item number (ap (slot_has_item item) here ∙ has) in let all = valid.listed item in listed-times item m.uses (omega arith)

  there : is_listed m (main o.key) ≡ true
  there = main-listed m valid number o true here o-live

  above : IsPlacedAt m y (main o.key)
  above = lies.laid (main o.key) there

  -- the dirty flag of the main item is not 0
  dirty-above : (above.loaded.dirty == 0) ≡ false
  dirty-above =
      let found : model.owner_object m (main o.key) ≡ Some o = rw (main-owned m valid number o true here o-live) here in
      let mark : (above.loaded.dirty == 0) ≡ o.settled = rw found at above.mark in
      mark ∙ unsettled

  -- its node says as before
  named-above : u.store.node_fields (y.place (main o.key)) ≡ v.store.node_fields (y.place (main o.key))
  named-above = by-node (λ w. w ≡ y.place (main o.key) → u.store.node_fields w ≡ v.store.node_fields w) (y.place (main o.key))
      (λ e _. subst (λ (w : ℕ). u.store.node_fields w ≡ v.store.node_fields w) e inside.node_fields)
      (λ e _.
      let clear : IsClear touched (y.place (main o.key)) = subst (IsClear touched) (node-is v.store (rule_of y (y.place (main o.key))) (y.place (main o.key)) above.loaded (shows.each (y.place (main o.key)) above.loaded above.here)) (clear-other (y.place (main o.key)) above.loaded e above.here).node in
      sym (same.store.node_fields (y.place (main o.key)) clear))
      refl

  still-dirty : (k : Loaded) → load u.store held_rule (y.place (main o.key)) ≡ Ok k → ⊥
  still-dirty k ok = load-then u.store held_rule (y.place (main o.key)) k ok (λ n e f.
      let a : k.dirty ≡ n.dirty = dirty-of u.store held_rule (y.place (main o.key)) k n ok f.node in
      let was : v.store.node_fields (y.place (main o.key)) ≡ Some n = sym named-above ∙ f.node in
      let b : above.loaded.dirty ≡ n.dirty = dirty-of v.store (rule_of y (y.place (main o.key))) (y.place (main o.key)) above.loaded n (shows.each (y.place (main o.key)) above.loaded above.here) was in
      let c : (k.dirty == 0) ≡ true = load-clean u.store held_rule (y.place (main o.key)) k ok in
      let d : (k.dirty == 0) ≡ false = ap (λ (z : ℕ). z == 0) (a ∙ sym b) ∙ dirty-above in
      let z : true ≡ false = sym c ∙ d in cc)

  -- no other item is in the midst
  only-item : (i : Item) → is_listed m i ≡ true → (y.place item == y.place i) ≡ true → item ≡ i
  only-item i h e = ⊎_elim
      (λ (x : (eqb (y.place item) (y.place i) ≡ true) × (y.place item ≡ y.place i)). same-place m y lies item i item-there h x.1)
      (λ (x : (eqb (y.place item) (y.place i) ≡ false) × _). absurd (let z : true ≡ false = sym e ∙ x.0 in cc))
      (eqb_tells (y.place item) (y.place i))

  -- what the node loads, if it does, has the flags and the key that it had
  same-name : ((was now : RecordFields) → v.store.entry l.contents ≡ Some was → u.store.entry l.contents ≡ Some now → (now.flags ≡ was.flags) × (entries.stored_key u.store l.contents now ≡ entries.stored_key v.store l.contents was))
      → (k : Loaded) → load u.store held_rule (y.place item) ≡ Ok k → (is_part k ≡ is_part l) × (k.key ≡ l.key)
  same-name keeps k ok = load-then u.store held_rule (y.place item) k ok (λ n e f. load-then v.store (rule_of y (y.place item)) (y.place item) l (shows.each (y.place item) l at) (λ p d g.
      let node : n ≡ p = let a : v.store.node_fields (y.place item) ≡ Some n = sym inside.node_fields ∙ f.node in let b : v.store.node_fields (y.place item) ≡ Some p = g.node in cc in
      let was : v.store.entry l.contents ≡ Some d = ap v.store.entry g.facts.contents_is ∙ g.entry in
      let contents : l.contents ≡ n.contents = g.facts.contents_is ∙ ap (λ (z : NodeFields). z.contents) (sym node) in
      let kept = keeps d e was (ap u.store.entry contents ∙ f.entry) in
      let old_key : entries.stored_key v.store l.contents d ≡ Some l.key = ap (λ (w : ℕ). entries.stored_key v.store w d) g.facts.contents_is ∙ g.facts.keyed.key in
      let new_key : entries.stored_key u.store l.contents e ≡ Some k.key = ap (λ (w : ℕ). entries.stored_key u.store w e) contents ∙ f.facts.keyed.key in
      let keys : ◌≡◌ {A = Option (List ℕ)} (Some k.key) (Some l.key) = sym new_key ∙ kept.1 ∙ old_key in
      (sym (role-part e k.key k.streams k.role f.facts.role) ∙ ap (λ (z : ℕ). z == 2) kept.0 ∙ role-part d l.key l.streams l.role g.facts.role, (let s : k.key ≡ l.key = cc in s))))

  -- a part in the midst is this one
  part-midst : (n : ℕ) → item ≡ part o.key n → (x k : Loaded) → y.at (y.place (part o.key n)) ≡ Some x → load u.store held_rule (y.place (part o.key n)) ≡ Ok k → (is_part k ≡ true) × (k.key ≡ x.key)
  part-midst n is x k at_x ok =
      let s : l ≡ x = let a : y.at (y.place item) ≡ Some l = at in let b : y.at (y.place item) ≡ Some x = ap (λ (i : Item). y.at (y.place i)) is ∙ at_x in cc in
      let p = same-name (subst (λ (i : Item). KeepsName v.store u.store i l.contents) is name) k (ap (λ (i : Item). load u.store held_rule (y.place i)) is ∙ ok) in
      let child : is_part x ≡ true = ap is_part_role (part-at m y lies.laid m.uses (λ i h. h) o.key n x (subst (λ (i : Item). is_listed m i ≡ true) is item-there) at_x).0.role in
      (p.0 ∙ ap is_part s ∙ child, p.1 ∙ ap (λ (z : Loaded). z.key) s)

  part-name : (n : ℕ) (x : Loaded) (a : Name) → is_listed m (part o.key n) ≡ true → y.at (y.place (part o.key n)) ≡ Some x → read_name x.key ≡ Some a → a.key ≡ o.key
  part-name n x a h at_x read =
      let q : IsPartAt m y o.key x = (part-at m y lies.laid m.uses (λ i g. g) o.key n x h at_x).0 in
      let node_fields : read_name x.key ≡ Some q.name = load-then v.store (rule_of y (y.place (part o.key n))) (y.place (part o.key n)) x (shows.each (y.place (part o.key n)) x at_x) (λ w e f. role-name e x.key x.streams q.name q.index (f.facts.role ∙ ap Some q.role)) in
      let s : a ≡ q.name = cc in
      ap (λ (z : Name). z.key) s ∙ q.of_key

  midst : IsInProgress (λ w. y.place item == w) u.store m y o.key
  midst = record {
    of_key = λ i h e. ap key_of (sym (only-item i h e)) ∙ its-key o item has;
    unsettled = λ x is. let s : above.loaded ≡ x = (let b : y.at (y.place (main o.key)) ≡ Some above.loaded = above.here in let c : y.at (y.place (main o.key)) ≡ Some x = is in cc) in ap (λ (z : Loaded). z.dirty == 0) (sym s) ∙ dirty-above;
    dirty = still-dirty;
    parts = λ n x k h e is ok. part-midst n (only-item (part o.key n) h e) x k is ok;
    names = λ n x a h e is read. part-name n x a h is read;
  }

  pub moment-rest : map row_of_loaded (kept_among u.store held_rule (walk (completed_list u.list))) ≡ model.rest m
  moment-rest =
      let walks : walk (completed_list u.list) ≡ order m y = walk-idle u.list (sym same.links.transaction ∙ r.idle) ∙ walk_list u.list (order m y) list-still in
      ap (λ (ws : List ℕ). map row_of_loaded (kept_among u.store held_rule ws)) walks ∙ midst-rest (λ w. y.place item == w) u.store m y but valid o.key midst r.list.distinct
