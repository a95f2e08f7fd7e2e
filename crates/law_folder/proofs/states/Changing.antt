-- A change of one object, at its node.
use Rattle.std.proofs.Common.{◌≡◌, ℕ, zero, suc, ◌+◌, List, [], ◌∷◌, refl, ap, sym, ◌∙◌, subst, Bool, true, false, cond, set, get_or, Option, Some, None, ⊎_elim}
use Rattle.std.specs.Prelude.{◌==◌, IfSome}
use Rattle.std.specs.Option.{option_map}
use Rattle.std.proofs.lemmas.Bool.{cases_Bool, eq-eqb}
use Rattle.std.proofs.lemmas.Bool.Decides.{eqb_tells}
use Rattle.std.proofs.Math.Dec.{eqb}
use Rattle.spec_folder.specs.ListView.{put}
use Rattle.blk_model.specs.Items.{Item, main, part, same_item, item_of}
use Rattle.blk_model.specs.Holding.{owner_object}
use Rattle.blk_model.specs.State.{State, Object, slot_has_item, first_with}
use Rattle.blk_model.proofs.Same.{one_item, same_item_self}
use Rattle.spec_format.specs.Hash.{hash}
use Rattle.spec_format.specs.BlockFiles.{is_among}
use Rattle.spec_format.specs.Claims.{Claim, has_claim, repeats}
use Rattle.spec_folder.specs.Chains.{bucket_of_hash}
use Rattle.spec_folder.specs.Loads.{Loaded, all_claims}
use Rattle.spec_folder.specs.Audit.{is_parent_of}
use Rattle.spec_folder.specs.Found.{row_of_loaded}
use Rattle.spec_folder.specs.Layout.{Layout, is_listed, order, HasDirtyMark, HasParentAt, IsPartAt, IsPlacedAt, IsDoomedAt, IsListedRecord, IsLayoutOf, OneChanged, changed_at, IsChange}
use Rattle.law_folder.proofs.states.Laid.{item-row, is_among-node}

pub apart-sym : (a b : ℕ) → (a == b) ≡ false → (b == a) ≡ false
apart-sym a b e = ⊎_elim (λ (x : (eqb b a ≡ true) × (b ≡ a)). let y : (a == b) ≡ true = eq-eqb a b (sym x.1) in cc) (λ (x : (eqb b a ≡ false) × _). x.0) (eqb_tells b a)

pub at-itself : {A : Type 0} (f : ℕ → A) (a : ℕ) (x : A) → put f a x a ≡ x
unfolding put
at-itself f a x = rw (eq-eqb a a refl) refl

pub at-elsewhere : {A : Type 0} (f : ℕ → A) (a : ℕ) (x : A) (w : ℕ) → (a == w) ≡ false → put f a x w ≡ f w
unfolding put
at-elsewhere f a x w e = rw (apart-sym a w e) refl

-- two listed items with one place are one
pub same-place : (m : State) (y : Layout) (r : IsLayoutOf m y) (i j : Item) → is_listed m i ≡ true → is_listed m j ≡ true → y.place i ≡ y.place j → i ≡ j
same-place m y r i j here there e =
    let a : IsPlacedAt m y i = r.laid i here in let b : IsPlacedAt m y j = r.laid j there in
    let same : a.loaded ≡ b.loaded = let p : y.at (y.place i) ≡ Some a.loaded = a.here in let q : y.at (y.place j) ≡ Some b.loaded = b.here in let s : y.at (y.place i) ≡ y.at (y.place j) = ap y.at e in cc in
    sym (item-row m i (row_of_loaded a.loaded) a.row) ∙ ap (λ (x : Loaded). item_of (row_of_loaded x)) same ∙ item-row m j (row_of_loaded b.loaded) b.row

-- a dirty flag fits the object of a state where it fits that of another, which is clean just so
pub mark-same : (n o : Option Object) (clean : Bool) → option_map (λ (z : Object). z.settled) n ≡ option_map (λ (z : Object). z.settled) o → IfSome o (λ z. clean ≡ z.settled) → IfSome n (λ z. clean ≡ z.settled)
mark-same None o clean e p = tt
mark-same (Some x) None clean e p = cc
mark-same (Some x) (Some z) clean e p = let s : x.settled ≡ z.settled = cc in p ∙ sym s

module _ (m : State) (objects : List (Option Object)) (y : Layout) (i : Item) (l k : Loaded) (owner : Claim → Option ℕ) (r : IsLayoutOf m y) (one : OneChanged m objects i)
    (listed : is_listed m i ≡ true) (here : y.at (y.place i) ≡ Some l) (ch : IsChange m objects y i l k owner) where
  w0 : ℕ
  w0 = y.place i

  next : Layout
  next = changed_at y (y.place i) k owner

  at-place : (w : ℕ) → (y.place i ≡ w) → put y.at (y.place i) (Some k) w ≡ Some k
  at-place w e = subst (λ (x : ℕ). put y.at (y.place i) (Some k) x ≡ Some k) e (at-itself y.at (y.place i) (Some k))

  at-else : (w : ℕ) → (y.place i == w) ≡ false → put y.at (y.place i) (Some k) w ≡ y.at w
  unfolding put
  at-else w e = rw (apart-sym (y.place i) w e) refl

  -- by whether a node is the one that changes
  by-place : (P : ℕ → Type 0) (w : ℕ) → (y.place i ≡ w → P w) → ((y.place i == w) ≡ false → P w) → P w
  by-place P w f g = ⊎_elim (λ (x : (eqb (y.place i) w ≡ true) × (y.place i ≡ w)). f x.1) (λ (x : (eqb (y.place i) w ≡ false) × _). g x.0) (eqb_tells (y.place i) w)

  part-next : (key : List ℕ) (x : Loaded) → IsPartAt m y key x → IsPartAt (record m { objects = objects }) (changed_at y (y.place i) k owner) key x
  part-next key x p =
      by-place (λ w. y.at w ≡ Some p.parent → w ≡ y.place (main key) → IsPartAt (record m { objects = objects }) (changed_at y (y.place i) k owner) key x) (y.place (main key))
      (λ e at is.
      let same : l ≡ p.parent = let a : y.at (y.place i) ≡ y.at (y.place (main key)) = ap y.at e in let b : y.at (y.place (main key)) ≡ Some p.parent = p.at_parent in let c : y.at (y.place i) ≡ Some l = here in cc in
      record { name = p.name; index = p.index; role = p.role; of_key = p.of_key; listed = p.listed; parent = k; at_parent = at-place (y.place (main key)) e; of = ch.of p.name (ap (is_parent_of p.name) same ∙ p.of) })
      (λ e at is. record { name = p.name; index = p.index; role = p.role; of_key = p.of_key; listed = p.listed; parent = p.parent; at_parent = at-else (y.place (main key)) e ∙ p.at_parent; of = p.of })
      p.at_parent refl

  parent-next : (j : Item) (x : Loaded) → HasParentAt m y j x → HasParentAt (record m { objects = objects }) (changed_at y (y.place i) k owner) j x
  parent-next (main key) x p = p
  parent-next (part key n) x p = part-next key x p

  mark-next : (j : Item) (x : Loaded) → same_item j i ≡ false → HasDirtyMark m j x → HasDirtyMark (record m { objects = objects }) j x
  mark-next (main key) x e p = mark-same (owner_object (record m { objects = objects }) (main key)) (owner_object m (main key)) (x.dirty == 0) (one.settled key e) p
  mark-next (part key n) x e p = p

  laid-next : (j : Item) → is_listed m j ≡ true → IsPlacedAt (record m { objects = objects }) (changed_at y (y.place i) k owner) j
  laid-next j there =
      let a : IsPlacedAt m y j = r.laid j there in
      ⊎_elim
      (λ (e : same_item j i ≡ true). subst (λ (x : Item). IsPlacedAt (record m { objects = objects }) (changed_at y (y.place i) k owner) x) (sym (one_item j i e))
      (record { loaded = k; here = at-place (y.place i) refl; row = ch.row; mark = ch.mark; parent = parent-next i k ch.parent }))
      (λ (e : same_item j i ≡ false).
      let apart : (y.place i == y.place j) ≡ false = ⊎_elim (λ (x : (eqb (y.place i) (y.place j) ≡ true) × (y.place i ≡ y.place j)).
      let s : j ≡ i = sym (same-place m y r i j listed there x.1) in let t : same_item j i ≡ true = ap (same_item j) (sym s) ∙ same_item_self j in absurd (let z : true ≡ false = sym t ∙ e in cc)) (λ (x : (eqb (y.place i) (y.place j) ≡ false) × _). x.0) (eqb_tells (y.place i) (y.place j)) in
      record { loaded = a.loaded; here = at-else (y.place j) apart ∙ a.here; row = one.rows j e ∙ a.row; mark = mark-next j a.loaded e a.mark; parent = parent-next j a.loaded a.parent })
      (cases_Bool (same_item j i))

  -- what is at a node afterwards
  is-k : (w : ℕ) (x : Loaded) → y.place i ≡ w → put y.at (y.place i) (Some k) w ≡ Some x → x ≡ k
  is-k w x e is = let a : ◌≡◌ {A = Option Loaded} (Some x) (Some k) = sym is ∙ at-place w e in cc

  pub lies-changed : IsLayoutOf (record m { objects = objects }) (changed_at y (y.place i) k owner)
  lies-changed = record {
    laid = laid-next;
    normal = r.normal;
    chained = λ w x there is. by-place (λ v. v ≡ w → is_among (y.chains (bucket_of_hash (hash x.key))) x.contents ≡ true) w
        (λ e _. let s : x ≡ k = is-k w x e is in
        subst (λ (z : Loaded). is_among (y.chains (bucket_of_hash (hash z.key))) z.contents ≡ true) (sym s)
        (ap (λ (q : List ℕ). is_among (y.chains (bucket_of_hash (hash q))) k.contents) ch.key ∙ ap (λ (c : ℕ). is_among (y.chains (bucket_of_hash (hash l.key))) c) ch.contents ∙ r.chained w l there (ap y.at (sym e) ∙ here)))
        (λ e _. r.chained w x there (sym (at-else w e) ∙ is)) refl;
    unchained = λ b c below there. let q : IsListedRecord m y c = r.unchained b c below there in
        by-place (λ v. v ≡ q.node → IsListedRecord (record m { objects = objects }) (changed_at y (y.place i) k owner) c) q.node
        (λ e _. let s : l ≡ q.loaded = let a : y.at (y.place i) ≡ y.at q.node = ap y.at e in let b : y.at q.node ≡ Some q.loaded = q.here in let d : y.at (y.place i) ≡ Some l = here in cc in
        record { node = q.node; loaded = k; listed = q.listed; here = at-place q.node e; record_is = ch.contents ∙ ap (λ (z : Loaded). z.contents) s ∙ q.record_is })
        (λ e _. record { node = q.node; loaded = q.loaded; listed = q.listed; here = at-else q.node e ∙ q.here; record_is = q.record_is }) refl;
    own = λ w x c is h. by-place (λ v. v ≡ w → owner c ≡ Some w) w
        (λ e _. ch.own c (ap (λ (z : Loaded). has_claim (all_claims z) c) (sym (is-k w x e is)) ∙ h) ∙ ap (λ (z : ℕ). Some z) e)
        (λ e _. ch.others c w (r.own w x c (sym (at-else w e) ∙ is) h) e) refl;
    single = λ w x is. by-place (λ v. v ≡ w → repeats (all_claims x) ≡ false) w
        (λ e _. ap (λ (z : Loaded). repeats (all_claims z)) (is-k w x e is) ∙ ch.single)
        (λ e _. r.single w x (sym (at-else w e) ∙ is)) refl;
    doomed_objects = λ number o is dead. let d : IsDoomedAt m y number o = r.doomed_objects number o (one.doomed_same number o is dead) dead in
        let apart : (y.place i == y.place_of_doomed number) ≡ false = ⊎_elim (λ (x : (eqb (y.place i) (y.place_of_doomed number) ≡ true) × (y.place i ≡ y.place_of_doomed number)).
        let a : is_among (order m y) (y.place i) ≡ true = is_among-node y m.uses i listed in let b : is_among (order m y) (y.place i) ≡ is_among (order m y) (y.place_of_doomed number) = ap (is_among (order m y)) x.1 in absurd (let z : true ≡ false = sym a ∙ b ∙ d.unlisted in cc)) (λ (x : (eqb (y.place i) (y.place_of_doomed number) ≡ false) × _). x.0) (eqb_tells (y.place i) (y.place_of_doomed number)) in
        record { loaded = d.loaded; here = at-else (y.place_of_doomed number) apart ∙ d.here; row = d.row; mark = d.mark; unlisted = d.unlisted; alone = λ other x there gone e. d.alone other x (one.doomed_same other x there gone) gone e };
  }

-- ---- a state with another object in a slot, with the same items

-- the first slot with an item stays where the other slot has it just so
pub first_with-set : (i : Item) (start : ℕ) (slots : List (Option Object)) (n : ℕ) (slot : Option Object) → slot_has_item i slot ≡ slot_has_item i (get_or slots n None) → first_with i start (set slots n slot) ≡ first_with i start slots
first_with-set i start [] n slot e = refl
first_with-set i start (s ∷ slots) zero slot e = ap (λ (b : Bool). cond b (Some start) (first_with i (start + 1) slots)) e
first_with-set i start (s ∷ slots) (suc n) slot e = ap (λ (o : Option ℕ). cond (slot_has_item i s) (Some start) o) (first_with-set i (start + 1) slots n slot e)
