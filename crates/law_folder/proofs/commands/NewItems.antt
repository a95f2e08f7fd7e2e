-- One more item in a layout.
use Rattle.std.proofs.Common.{◌≡◌, ℕ, List, [], ◌∷◌, refl, ap, sym, ◌∙◌, subst, true, false, Option, Some, None, ⊎_elim, ◌⊎◌, inl, inr}
use Rattle.std.specs.Prelude.{◌||◌, ◌==◌, if◌then◌else◌}
use Rattle.std.proofs.lemmas.Bool.{cases_Bool, eq-eqb, or_left, or_right}
use Rattle.std.proofs.lemmas.Bool.Decides.{eqb_tells}
use Rattle.std.proofs.Math.Dec.{eqb}
use Rattle.spec_folder.specs.ListView.{put}
use Rattle.blk_model.specs.Items.{Item, main, part, same_item}
use Rattle.blk_model.specs.State.{State, Object}
use Rattle.blk_model.proofs.Same.{one_item, same_item_self}
use Rattle.spec_format.specs.Hash.{hash}
use Rattle.spec_format.specs.BlockFiles.{is_among}
use Rattle.spec_format.specs.Claims.{Claim, has_claim, repeats}
use Rattle.spec_folder.specs.Chains.{bucket_of_hash}
use Rattle.spec_folder.specs.Loads.{Loaded, all_claims}
use Rattle.spec_folder.specs.Layout.{Layout, is_listed, nodes_of, order, HasDirtyMark, HasParentAt, IsPlacedAt, IsDoomedAt, IsListedRecord, IsLayoutOf, is_in, OneChanged}
use Rattle.law_folder.proofs.states.Laid.{IsNodeOf, node-of}
use Rattle.law_folder.proofs.states.Changing.{at-itself, at-elsewhere, mark-same}
use Rattle.spec_folder.specs.Creation.{with_first, with_item, IsNewItem}
use Rattle.law_folder.specs.ItemLaws.{NewItemsArePlaced}
use Rattle.blk_model.specs.Holding as model

none-of : (a w : ℕ) (xs : List ℕ) → (a == w) ≡ false → is_among xs w ≡ false → is_among (a ∷ xs) w ≡ false
none-of a w xs e f = rw (e, f) refl

module _ (m : State) (objects : List (Option Object)) (y : Layout) (i0 : Item) (l : Loaded) (r : IsLayoutOf m y) (c0 : OneChanged m objects i0) (new : IsNewItem m objects y i0 l) where
  -- nodes that keep something are other nodes
  pub other-node : (w : ℕ) (x : Loaded) → y.at w ≡ Some x → (l.node == w) ≡ false
  other-node w x is = ⊎_elim
      (λ (e : (eqb l.node w ≡ true) × (l.node ≡ w)). let a : y.at w ≡ None = ap y.at (sym e.1) ∙ new.nobody in absurd (let c : ◌≡◌ {A = Option Loaded} (Some x) None = sym is ∙ a in cc))
      (λ (e : (eqb l.node w ≡ false) × _). e.0)
      (eqb_tells l.node w)

  at-old : (w : ℕ) (x : Loaded) → y.at w ≡ Some x → put y.at l.node (Some l) w ≡ Some x
  at-old w x is = at-elsewhere y.at l.node (Some l) w (other-node w x is) ∙ is

  old-item : (i : Item) → is_listed m i ≡ true → same_item i i0 ≡ false
  old-item i there = ⊎_elim
      (λ (e : same_item i i0 ≡ true). let a : is_listed m i0 ≡ true = subst (λ (j : Item). is_listed m j ≡ true) (one_item i i0 e) there in absurd (let c : true ≡ false = sym a ∙ new.unlisted in cc))
      (λ (e : same_item i i0 ≡ false). e)
      (cases_Bool (same_item i i0))

  place-old : (i : Item) → is_listed m i ≡ true → (if same_item i i0 then l.node else y.place i) ≡ y.place i
  place-old i there = rw (old-item i there) refl

  pub place-new : (if same_item i0 i0 then l.node else y.place i0) ≡ l.node
  place-new = rw (same_item_self i0) refl

  pub order-after : order (with_first m objects i0) (with_item y i0 l) ≡ l.node ∷ order m y
  order-after = both place-new (rest m.uses (λ i h. h)) where
    both : {a b : ℕ} {xs ys : List ℕ} → a ≡ b → xs ≡ ys → a ∷ xs ≡ b ∷ ys
    both p q = λ i. p i ∷ q i

    rest : (items : List Item) → ((i : Item) → is_in items i ≡ true → is_listed m i ≡ true) → nodes_of (with_item y i0 l) items ≡ nodes_of y items
    rest [] sub = refl
    rest (i ∷ items) sub = both (place-old i (sub i (or_left (same_item i i) (is_in items i) (same_item_self i)))) (rest items (λ j h. sub j (or_right (same_item j i) (is_in items j) h)))

  -- what is listed afterwards is the new item or was listed
  listed-after : (i : Item) → is_listed (with_first m objects i0) i ≡ true → (i ≡ i0) ⊎ (is_listed m i ≡ true)
  listed-after i h =
      let a : (same_item i i0 || is_listed m i) ≡ true = h in
      ⊎_elim (λ (e : same_item i i0 ≡ true). inl (one_item i i0 e)) (λ (e : same_item i i0 ≡ false). inr (rw e at a)) (cases_Bool (same_item i i0))

  pub listed-still : (i : Item) → is_listed m i ≡ true → is_listed (with_first m objects i0) i ≡ true
  listed-still i h = or_right (same_item i i0) (is_listed m i) h

  pub node-after : (w : ℕ) → is_among (order (with_first m objects i0) (with_item y i0 l)) w ≡ true → (w ≡ l.node) ⊎ (is_among (order m y) w ≡ true)
  node-after w h =
      let a : (l.node == w || is_among (order m y) w) ≡ true = ap (λ (xs : List ℕ). is_among xs w) (sym order-after) ∙ h in
      ⊎_elim (λ (e : (eqb l.node w ≡ true) × (l.node ≡ w)). inl (sym e.1)) (λ (e : (eqb l.node w ≡ false) × _). inr (rw e.0 at a)) (eqb_tells l.node w)

  node-still : (w : ℕ) → is_among (order m y) w ≡ true → is_among (order (with_first m objects i0) (with_item y i0 l)) w ≡ true
  node-still w h = ap (λ (xs : List ℕ). is_among xs w) order-after ∙ or_right (l.node == w) (is_among (order m y) w) h

  -- ---- the layout

  mark-old : (i : Item) (x : Loaded) → same_item i i0 ≡ false → HasDirtyMark m i x → HasDirtyMark (with_first m objects i0) i x
  mark-old (main k) x e h = mark-same (model.owner_object (record m { objects = objects }) (main k)) (model.owner_object m (main k)) (x.dirty == 0) (c0.settled k e) h
  mark-old (part k n) x e h = h

  mark-new : (i : Item) (x : Loaded) → HasDirtyMark (record m { objects = objects }) i x → HasDirtyMark (with_first m objects i0) i x
  mark-new (main k) x h = h
  mark-new (part k n) x h = h

  parent-old : (i : Item) (x : Loaded) → HasParentAt m y i x → HasParentAt (with_first m objects i0) (with_item y i0 l) i x
  parent-old (main k) x h = h
  parent-old (part k n) x h = record {
    name = h.name;
    index = h.index;
    role = h.role;
    of_key = h.of_key;
    listed = listed-still (main k) h.listed;
    parent = h.parent;
    at_parent = ap (put y.at l.node (Some l)) (place-old (main k) h.listed) ∙ at-old (y.place (main k)) h.parent h.at_parent;
    of = h.of;
  }

  laid-new : IsPlacedAt (with_first m objects i0) (with_item y i0 l) i0
  unfolding model.row_of
  laid-new = record {
    loaded = l;
    here = ap (put y.at l.node (Some l)) place-new ∙ at-itself y.at l.node (Some l);
    row = new.row;
    mark = mark-new i0 l new.mark;
    parent = parent-old i0 l new.parent;
  }

  laid-old : (i : Item) → is_listed m i ≡ true → IsPlacedAt (with_first m objects i0) (with_item y i0 l) i
  unfolding model.row_of
  laid-old i there =
      let q : IsPlacedAt m y i = r.laid i there in
      record {
        loaded = q.loaded;
        here = ap (put y.at l.node (Some l)) (place-old i there) ∙ at-old (y.place i) q.loaded q.here;
        row = c0.rows i (old-item i there) ∙ q.row;
        mark = mark-old i q.loaded (old-item i there) q.mark;
        parent = parent-old i q.loaded q.parent;
      }

  -- what is at a node afterwards is the new record, or was there
  at-after : (P : ℕ → Loaded → Type 0) (w : ℕ) (x : Loaded) → put y.at l.node (Some l) w ≡ Some x → P l.node l → (y.at w ≡ Some x → P w x) → P w x
  at-after P w x is f g = ⊎_elim
      (λ (e : (eqb l.node w ≡ true) × (l.node ≡ w)).
      let a : ◌≡◌ {A = Option Loaded} (Some l) (Some x) = sym (at-itself y.at l.node (Some l)) ∙ ap (put y.at l.node (Some l)) e.1 ∙ is in
      let s : l ≡ x = cc in
      subst (λ (z : ℕ). P z x) e.1 (subst (P l.node) s f))
      (λ (e : (eqb l.node w ≡ false) × _). g (sym (at-elsewhere y.at l.node (Some l) w e.0) ∙ is))
      (eqb_tells l.node w)

  b : ℕ
  b = bucket_of_hash (hash l.key)

  -- a record of a chain afterwards
  chain-after : (n c : ℕ) → is_among (put y.chains (bucket_of_hash (hash l.key)) (l.contents ∷ y.chains (bucket_of_hash (hash l.key))) n) c ≡ true → (c ≡ l.contents) ⊎ (is_among (y.chains n) c ≡ true)
  chain-after n c h = ⊎_elim
      (λ (e : (eqb (bucket_of_hash (hash l.key)) n ≡ true) × (bucket_of_hash (hash l.key) ≡ n)).
      let a : is_among (l.contents ∷ y.chains (bucket_of_hash (hash l.key))) c ≡ true = ap (λ (xs : List ℕ). is_among xs c) (sym (at-itself y.chains (bucket_of_hash (hash l.key)) (l.contents ∷ y.chains (bucket_of_hash (hash l.key))))) ∙ ap (λ (z : ℕ). is_among (put y.chains (bucket_of_hash (hash l.key)) (l.contents ∷ y.chains (bucket_of_hash (hash l.key))) z) c) e.1 ∙ h in
      ⊎_elim (λ (f : (eqb l.contents c ≡ true) × (l.contents ≡ c)). inl (sym f.1)) (λ (f : (eqb l.contents c ≡ false) × _). let z : is_among (y.chains (bucket_of_hash (hash l.key))) c ≡ true = rw f.0 at a in inr (ap (λ (q : ℕ). is_among (y.chains q) c) (sym e.1) ∙ z)) (eqb_tells l.contents c))
      (λ (e : (eqb (bucket_of_hash (hash l.key)) n ≡ false) × _). inr (ap (λ (xs : List ℕ). is_among xs c) (sym (at-elsewhere y.chains (bucket_of_hash (hash l.key)) (l.contents ∷ y.chains (bucket_of_hash (hash l.key))) n e.0)) ∙ h))
      (eqb_tells (bucket_of_hash (hash l.key)) n)

  chain-still : (n c : ℕ) → is_among (y.chains n) c ≡ true → is_among (put y.chains (bucket_of_hash (hash l.key)) (l.contents ∷ y.chains (bucket_of_hash (hash l.key))) n) c ≡ true
  chain-still n c h = ⊎_elim
      (λ (e : (eqb (bucket_of_hash (hash l.key)) n ≡ true) × (bucket_of_hash (hash l.key) ≡ n)).
      subst (λ (z : ℕ). is_among (put y.chains (bucket_of_hash (hash l.key)) (l.contents ∷ y.chains (bucket_of_hash (hash l.key))) z) c ≡ true) e.1
      (ap (λ (xs : List ℕ). is_among xs c) (at-itself y.chains (bucket_of_hash (hash l.key)) (l.contents ∷ y.chains (bucket_of_hash (hash l.key)))) ∙ or_right (l.contents == c) (is_among (y.chains (bucket_of_hash (hash l.key))) c) (ap (λ (q : ℕ). is_among (y.chains q) c) e.1 ∙ h)))
      (λ (e : (eqb (bucket_of_hash (hash l.key)) n ≡ false) × _). ap (λ (xs : List ℕ). is_among xs c) (at-elsewhere y.chains (bucket_of_hash (hash l.key)) (l.contents ∷ y.chains (bucket_of_hash (hash l.key))) n e.0) ∙ h)
      (eqb_tells (bucket_of_hash (hash l.key)) n)

  owned-after : (w : ℕ) (x : Loaded) (c : Claim) → y.at w ≡ Some x → has_claim (all_claims x) c ≡ true → (if has_claim (all_claims l) c then Some l.node else y.owner c) ≡ Some w
  owned-after w x c is h = ⊎_elim
      (λ (e : has_claim (all_claims l) c ≡ true). let p : y.owner c ≡ None = new.free c e in let q : y.owner c ≡ Some w = r.own w x c is h in absurd (let z : ◌≡◌ {A = Option ℕ} (Some w) None = sym q ∙ p in cc))
      (λ (e : has_claim (all_claims l) c ≡ false). rw e (r.own w x c is h))
      (cases_Bool (has_claim (all_claims l) c))

  pub item-lies : IsLayoutOf (with_first m objects i0) (with_item y i0 l)
  item-lies = record {
    laid = λ i h. ⊎_elim (λ (e : i ≡ i0). subst (IsPlacedAt (with_first m objects i0) (with_item y i0 l)) (sym e) laid-new) (λ (there : is_listed m i ≡ true). laid-old i there) (listed-after i h);
    normal = λ w h. ⊎_elim
        (λ (e : w ≡ l.node). ap (put y.state l.node 0) e ∙ at-itself y.state l.node 0)
        (λ (there : is_among (order m y) w ≡ true).
        let n : IsNodeOf y m.uses w = node-of y m.uses w there in
        let q : IsPlacedAt m y n.item = r.laid n.item n.among in
        let o : (l.node == w) ≡ false = other-node w q.loaded (ap y.at (sym n.is) ∙ q.here) in
        at-elsewhere y.state l.node 0 w o ∙ r.normal w there)
        (node-after w h);
    chained = λ w x h is. at-after (λ z k. is_among (order (with_first m objects i0) (with_item y i0 l)) z ≡ true → is_among (put y.chains (bucket_of_hash (hash l.key)) (l.contents ∷ y.chains (bucket_of_hash (hash l.key))) (bucket_of_hash (hash k.key))) k.contents ≡ true) w x is
        (λ _. ap (λ (xs : List ℕ). is_among xs l.contents) (at-itself y.chains (bucket_of_hash (hash l.key)) (l.contents ∷ y.chains (bucket_of_hash (hash l.key)))) ∙ or_left (l.contents == l.contents) (is_among (y.chains (bucket_of_hash (hash l.key))) l.contents) (eq-eqb l.contents l.contents refl))
        (λ old g. ⊎_elim
        (λ (e : w ≡ l.node). let a : y.at w ≡ None = ap y.at e ∙ new.nobody in absurd (let z : ◌≡◌ {A = Option Loaded} (Some x) None = sym old ∙ a in cc))
        (λ (there : is_among (order m y) w ≡ true). chain-still (bucket_of_hash (hash x.key)) x.contents (r.chained w x there old))
        (node-after w g))
        h;
    unchained = λ n c below h. ⊎_elim
        (λ (e : c ≡ l.contents). record { node = l.node; loaded = l; listed = ap (λ (xs : List ℕ). is_among xs l.node) order-after ∙ or_left (l.node == l.node) (is_among (order m y) l.node) (eq-eqb l.node l.node refl); here = at-itself y.at l.node (Some l); record_is = sym e })
        (λ (there : is_among (y.chains n) c ≡ true). let q : IsListedRecord m y c = r.unchained n c below there in
        record { node = q.node; loaded = q.loaded; listed = node-still q.node q.listed; here = at-old q.node q.loaded q.here; record_is = q.record_is })
        (chain-after n c h);
    own = λ w x c is h. at-after (λ z k. has_claim (all_claims k) c ≡ true → (if has_claim (all_claims l) c then Some l.node else y.owner c) ≡ Some z) w x is (λ g. rw g refl) (λ old g. owned-after w x c old g) h;
    single = λ w x is. at-after (λ z k. repeats (all_claims k) ≡ false) w x is new.single (λ old. r.single w x old);
    doomed_objects = λ number o is dead. let d : IsDoomedAt m y number o = r.doomed_objects number o (c0.doomed_same number o is dead) dead in
        record {
          loaded = d.loaded;
          here = at-old (y.place_of_doomed number) d.loaded d.here;
          row = d.row;
          mark = d.mark;
          unlisted = ap (λ (xs : List ℕ). is_among xs (y.place_of_doomed number)) order-after ∙ none-of l.node (y.place_of_doomed number) (order m y) (other-node (y.place_of_doomed number) d.loaded d.here) d.unlisted;
          alone = λ other x there gone e. d.alone other x (c0.doomed_same other x there gone) gone e;
        };
  }

pub new-items-placed : NewItemsArePlaced
new-items-placed state objects layout item loaded lies changed new = item-lies state objects layout item loaded lies changed new
