-- A record taken out of its chain, and a layout without some items.
use Rattle.std.proofs.Common.{◌≡◌, ℕ, List, [], ◌∷◌, ◌++◌, refl, sym, ◌∙◌, subst, Bool, true, false, Option, Some, ⊎_elim}
use Rattle.std.specs.Prelude.{◌&&◌, ◌==◌}
use Rattle.std.specs.List.{filter}
use Rattle.std.proofs.lemmas.Bool.{cases_Bool, or_left, or_right, and_parts, eq-eqb}
use Rattle.blk_model.specs.Items.{Item, main, part}
use Rattle.blk_model.specs.Holding.{owner_object, row_of}
use Rattle.blk_model.specs.State.{State, Object, object_at}
use Rattle.spec_format.specs.BlockFiles.{is_among}
use Rattle.spec_format.specs.Claims.{Claim}
use Rattle.spec_folder.specs.View.{StoreView}
use Rattle.spec_folder.specs.Chains.{is_of_bucket, Linked}
use Rattle.spec_folder.specs.Loads.{Loaded}
use Rattle.spec_folder.specs.Layout.{Layout, is_listed, nodes_of, order, settled_with, HasDirtyMark, HasParentAt, IsPlacedAt, IsDoomedAt, IsListedRecord, IsLayoutOf, is_in}
use Rattle.spec_folder.specs.Removal.{without_items, placed_less, ListsLess, HasLess}
use Rattle.law_folder.specs.CommandLaws.{LessIsRepresented}
use Rattle.law_folder.proofs.states.Laid.{IsNodeOf, node-of, is_among-node}
use Rattle.law_folder.proofs.states.Changing.{mark-same}
use Rattle.law_folder.proofs.commands.Removing.{in-filter}
use Rattle.law_folder.proofs.states.Replacing.{linked-facts}

-- the first of a chain: the table takes its link
pub unlink-first : (v u : StoreView) (b w c : ℕ) (cs : List ℕ) → ((x : ℕ) → is_among cs x ≡ true → (is_of_bucket u b x ≡ is_of_bucket v b x) × (u.chain_next x ≡ v.chain_next x)) → Linked v b w (c ∷ cs) → Linked u b (v.chain_next c) cs
unlink-first v u b w c cs same linked = linked-facts v u b (v.chain_next c) cs same linked.2

-- another: the record before takes its link
pub unlink-behind : (v u : StoreView) (b w p c : ℕ) (xs cs : List ℕ) → ((x : ℕ) → is_among (xs ++ p ∷ cs) x ≡ true → is_of_bucket u b x ≡ is_of_bucket v b x) → ((x : ℕ) → is_among xs x ≡ true → u.chain_next x ≡ v.chain_next x)
    → ((x : ℕ) → is_among cs x ≡ true → u.chain_next x ≡ v.chain_next x) → u.chain_next p ≡ v.chain_next c → Linked v b w (xs ++ p ∷ c ∷ cs) → Linked u b w (xs ++ p ∷ cs)
unlink-behind v u b w p c [] cs bucket prefix rest link linked = (
  linked.0,
  bucket p (or_left (p == p) (is_among cs p) (eq-eqb p p refl)) ∙ linked.1,
  subst (λ (z : ℕ). Linked u b z cs) (sym link) (linked-facts v u b (v.chain_next c) cs (λ x h. (bucket x (or_right (p == x) (is_among cs x) h), rest x h)) linked.2.2),
)
unlink-behind v u b w p c (x ∷ xs) cs bucket prefix rest link linked = (
  linked.0,
  bucket x (or_left (x == x) (is_among (xs ++ p ∷ cs) x) (eq-eqb x x refl)) ∙ linked.1,
  subst (λ (z : ℕ). Linked u b z (xs ++ p ∷ cs)) (sym (prefix x (or_left (x == x) (is_among xs x) (eq-eqb x x refl))))
      (unlink-behind v u b (v.chain_next x) p c xs cs (λ z h. bucket z (or_right (x == z) (is_among (xs ++ p ∷ cs) z) h)) (λ z h. prefix z (or_right (x == z) (is_among xs z) h)) rest link linked.2),
)

-- ---- a layout without some items, where other objects may be doomed

module _ (m : State) (objects : List (Option Object)) (keep : Item → Bool) (y : Layout) (at : ℕ → Option Loaded) (chains : ℕ → List ℕ) (owner : Claim → Option ℕ) (doomed : ℕ → ℕ) (state : ℕ → ℕ) (r : IsLayoutOf m y)
    (rows : (i : Item) → keep i ≡ true → is_listed m i ≡ true → row_of (without_items m objects keep) i ≡ row_of m i) (settled : (key : List ℕ) → keep (main key) ≡ true → settled_with (without_items m objects keep) key ≡ settled_with m key)
    (closed : (key : List ℕ) (n : ℕ) → keep (part key n) ≡ true → keep (main key) ≡ true) (gone : HasLess m objects keep y at chains owner) where
  kept : (i : Item) → is_in (filter keep m.uses) i ≡ true → (keep i ≡ true) × (is_listed m i ≡ true)
  kept i h = and_parts (keep i) (is_listed m i) (sym (in-filter keep m.uses i) ∙ h)

  still : (i : Item) → keep i ≡ true → is_listed m i ≡ true → is_in (filter keep m.uses) i ≡ true
  still i k h = in-filter keep m.uses i ∙ both k h where
    both : keep i ≡ true → is_listed m i ≡ true → (keep i && is_listed m i) ≡ true
    both a b = rw (a, b) refl

  -- a node of a kept item was listed
  pub node-kept : (w : ℕ) → is_among (nodes_of y (filter keep m.uses)) w ≡ true → is_among (order m y) w ≡ true
  node-kept w h = let n : IsNodeOf y (filter keep m.uses) w = node-of y (filter keep m.uses) w h in subst (λ (x : ℕ). is_among (order m y) x ≡ true) n.is (is_among-node y m.uses n.item (kept n.item n.among).1)

  pub not_kept : (w : ℕ) → is_among (order m y) w ≡ false → is_among (nodes_of y (filter keep m.uses)) w ≡ false
  not_kept w e = ⊎_elim (λ (h : is_among (nodes_of y (filter keep m.uses)) w ≡ true). absurd (let z : true ≡ false = sym (node-kept w h) ∙ e in cc)) (λ (h : is_among (nodes_of y (filter keep m.uses)) w ≡ false). h) (cases_Bool (is_among (nodes_of y (filter keep m.uses)) w))

  next : Layout
  next = record y { at = at; chains = chains; owner = owner; place_of_doomed = doomed; state = state }

  parent-kept : (i : Item) (l : Loaded) → keep i ≡ true → HasParentAt m y i l → HasParentAt (without_items m objects keep) (record y { at = at; chains = chains; owner = owner; place_of_doomed = doomed; state = state }) i l
  parent-kept (main key) l k p = p
  parent-kept (part key n) l k p =
      let with_main : keep (main key) ≡ true = closed key n k in
      record { name = p.name; index = p.index; role = p.role; of_key = p.of_key; listed = still (main key) with_main p.listed; parent = p.parent; at_parent = gone.stays (main key) p.parent with_main p.listed p.at_parent; of = p.of }

  mark-kept : (i : Item) (l : Loaded) → keep i ≡ true → HasDirtyMark m i l → HasDirtyMark (without_items m objects keep) i l
  mark-kept (main key) l k p = mark-same (owner_object (without_items m objects keep) (main key)) (owner_object m (main key)) (l.dirty == 0) (settled key k) p
  mark-kept (part key n) l k p = p

  pub lies-without : ((w : ℕ) → is_among (nodes_of y (filter keep m.uses)) w ≡ true → state w ≡ 0)
      → ((number : ℕ) (o : Object) → object_at (without_items m objects keep) number ≡ Some o → o.live ≡ false → IsDoomedAt (without_items m objects keep) (record y { at = at; chains = chains; owner = owner; place_of_doomed = doomed; state = state }) number o)
      → IsLayoutOf (without_items m objects keep) (record y { at = at; chains = chains; owner = owner; place_of_doomed = doomed; state = state })
  lies-without normal dead = record {
    laid = λ i h. let k = kept i h in let q : IsPlacedAt m y i = r.laid i k.1 in
        record { loaded = q.loaded; here = gone.stays i q.loaded k.0 k.1 q.here; row = rows i k.0 k.1 ∙ q.row; mark = mark-kept i q.loaded k.0 q.mark; parent = parent-kept i q.loaded k.0 q.parent };
    normal = normal;
    chained = λ w l h is. gone.chain_stays w l h is (r.chained w l (node-kept w h) (gone.was w l is));
    unchained = λ b c below h. let q : IsListedRecord (without_items m objects keep) (placed_less y at chains owner) c = gone.chain_was b c below h in
        record { node = q.node; loaded = q.loaded; listed = q.listed; here = q.here; record_is = q.record_is };
    own = λ w l c is h. gone.own w l c is h (r.own w l c (gone.was w l is) h);
    single = λ w l is. r.single w l (gone.was w l is);
    doomed_objects = dead;
  }

module _ (m : State) (objects : List (Option Object)) (keep : Item → Bool) (y : Layout) (at : ℕ → Option Loaded) (chains : ℕ → List ℕ) (owner : Claim → Option ℕ) (r : IsLayoutOf m y) (less : ListsLess m objects keep) (gone : HasLess m objects keep y at chains owner) where
  pub lies-less : IsLayoutOf (without_items m objects keep) (placed_less y at chains owner)
  lies-less = lies-without m objects keep y at chains owner y.place_of_doomed y.state r less.rows less.settled less.closed gone
      (λ w h. r.normal w (node-kept m objects keep y at chains owner y.place_of_doomed y.state r less.rows less.settled less.closed gone w h))
      (λ number o is dead. let d : IsDoomedAt m y number o = r.doomed_objects number o (less.doomed_same number o is dead) dead in
      record {
        loaded = d.loaded;
        here = gone.others (y.place_of_doomed number) d.loaded d.unlisted d.here;
        row = d.row;
        mark = d.mark;
        unlisted = not_kept m objects keep y at chains owner y.place_of_doomed y.state r less.rows less.settled less.closed gone (y.place_of_doomed number) d.unlisted;
        alone = λ other x there gone_too e. d.alone other x (less.doomed_same other x there gone_too) gone_too e;
      })

pub less-represented : LessIsRepresented
less-represented except v m objects keep y at chains owner lies less gone but left rest = record {
  holds = record {
    shows = record { no_record = but.no_record; each = λ w l is. but.each w l (gone.was w l is) (left w l is); chains = but.chains };
    lies = lies-less m objects keep y at chains owner lies less gone;
  };
  list = rest.whole;
  idle = rest.idle;
}
