-- An object is doomed: what is kept meanwhile, and what then lies where and is represented.
use Rattle.std.proofs.Common.{◌≡◌, ◌≢◌, ℕ, ◌<◌, List, [], ◌∷◌, length, refl, ap, sym, ◌∙◌, subst, Bool, true, false, cond, get_or-set_same, get_or-set_other, Option, Some, None, Ok, ⊎_elim}
use Rattle.std.specs.Prelude.{not, ◌&&◌, ◌==◌}
use Rattle.std.specs.Option.{option_and_then, option_map}
use Rattle.std.specs.List.{filter, filter_map, cons_option}
use Rattle.std.specs.Str.{bytes_eq}
use Rattle.std.proofs.lemmas.Bool.{cases_Bool, and_parts, eq-eqb}
use Rattle.std.proofs.lemmas.Bool.Decides.{eqb_tells}
use Rattle.std.proofs.Math.Dec.{eqb}
use Rattle.std.proofs.Math.Bool.{and-false}
use Rattle.blk_model.specs.Items.{Item, main, main_row, Row, key_of}
use Rattle.blk_model.specs.State.{State, Object, IsValidState, object_at, is_named, has_item, slot_has_item}
use Rattle.blk_model.specs.Effects.{doomed, doomed_slot}
use Rattle.blk_model.specs.Stops.{is_live_and_settled}
use Rattle.blk_model.proofs.Same.{bytes_eq_self, same_bytes}
use Rattle.blk_model.proofs.Each.{some_within}
use Rattle.spec_format.specs.BlockFiles.{is_among}
use Rattle.spec_format.specs.Claims.{Claim}
use Rattle.spec_folder.specs.ListView.{put}
use Rattle.spec_folder.specs.Loads.{unchained_rule, Loaded, load}
use Rattle.spec_folder.specs.Found.{row_of_loaded}
use Rattle.spec_folder.specs.Layout.{Layout, is_listed, nodes_of, order, IsPlacedAt, IsDoomedAt, IsLayoutOf}
use Rattle.spec_folder.specs.Given.{picked_with}
use Rattle.spec_folder.specs.Removal.{is_of_another, placed_doomed, without_items}
use Rattle.law_folder.specs.CommandLaws.{DoomsKeepTheOthers, IsDoomedNow, DoomedIsPlaced, DoomedIsRepresented}
use Rattle.law_folder.proofs.claims.Owner.{its-key, settled-picked}
use Rattle.law_folder.proofs.states.Laid.{IsNodeOf, node-of, is_among-node}
use Rattle.law_folder.proofs.states.Central.{settled-is_test}
use Rattle.law_folder.proofs.states.Changing.{at-itself, at-elsewhere, same-place}
use Rattle.law_folder.proofs.commands.Removing.{removed-rows, in-filter}
use Rattle.law_folder.proofs.states.Settling.{main-listed, main-owned}
use Rattle.law_folder.proofs.commands.Unlinking.{lies-without, node-kept, not_kept}
use Rattle.law_folder.proofs.commands.DoomedObjects.{object-aside, row-aside, dead-has}
use Rattle.blk_model.specs.Holding as model

-- ---- the items of other keys

module _ (m : State) (number : ℕ) (o : Object) (here : object_at m number ≡ Some o) where
  pub no-item : (i : Item) → slot_has_item i (doomed_slot (is_named m number) o) ≡ false
  no-item i = go (is_named m number) where
    go : (held : Bool) → slot_has_item i (doomed_slot held o) ≡ false
    go true = dead-has (record o { live = false; parts = [] }) i refl
    go false = refl

  pub not-its : (i : Item) → is_of_another o.key i ≡ true → slot_has_item i (object_at m number) ≡ false
  not-its i other = ap (slot_has_item i) here ∙ ⊎_elim
      (λ (h : has_item o i ≡ true).
      let s : is_of_another o.key i ≡ false = ap not (ap (bytes_eq o.key) (its-key o i h) ∙ bytes_eq_self o.key) in
      absurd (let z : true ≡ false = sym other ∙ s in cc))
      (λ (h : has_item o i ≡ false). h)
      (cases_Bool (has_item o i))

  -- the durable contents after the doom
  settled-aside : (i : Item) → is_of_another o.key i ≡ true → model.settled_row (doomed number m (Some o)) i ≡ model.settled_row m i
  unfolding model.settled_row doomed
  settled-aside i other = ap (option_and_then (λ object. cond object.settled (model.row_in object i) None)) (object-aside m number (doomed_slot (is_named m number) o) i (not-its i other) (no-item i))

  rest-of : (xs : List Item) → filter_map (model.settled_row (doomed number m (Some o))) (filter (is_of_another o.key) xs) ≡ filter_map (picked_with m (λ n. is_live_and_settled (object_at m n))) (filter (is_of_another o.key) xs)
  rest-of [] = refl
  rest-of (x ∷ xs) = ⊎_elim
      (λ (a : is_of_another o.key x ≡ true).
      let one : model.settled_row (doomed number m (Some o)) x ≡ picked_with m (λ n. is_live_and_settled (object_at m n)) x = settled-aside x a ∙ settled-picked m x in
      rw a (rw one (ap (cons_option (picked_with m (λ n. is_live_and_settled (object_at m n)) x)) (rest-of xs))))
      (λ (a : is_of_another o.key x ≡ false). rw a (rest-of xs))
      (cases_Bool (is_of_another o.key x))

  pub rest-doomed : model.rest (doomed number m (Some o)) ≡ filter_map (picked_with m (λ n. is_live_and_settled (object_at m n))) (filter (is_of_another o.key) m.uses)
  unfolding model.rest doomed
  rest-doomed = rest-of m.uses

-- ---- what is kept

pub dooms-keep : DoomsKeepTheOthers
dooms-keep except v m y r valid number o here keep out others once sound =
    removed-rows except v m y r valid (λ n. is_live_and_settled (object_at m n)) (settled-is_test m y r.laid valid) keep once sound
    ∙ ap (λ (p : Item → Bool). filter_map (picked_with m (λ n. is_live_and_settled (object_at m n))) (filter p m.uses)) (λ i x. same x i)
    ∙ sym (rest-doomed m number o here) where
      same : (x : Item) → (keep x && keep (main (key_of x))) ≡ is_of_another o.key x
      same x = ⊎_elim
          (λ (a : bytes_eq o.key (key_of x) ≡ true).
          let gone : keep (main (key_of x)) ≡ false = ap (λ (k : List ℕ). keep (main k)) (sym (same_bytes o.key (key_of x) a)) ∙ out in
          rw (gone, a) (and-false (keep x)))
          (λ (a : bytes_eq o.key (key_of x) ≡ false).
          let other : is_of_another o.key x ≡ true = ap not a in
          rw (others x other, others (main (key_of x)) other, a) refl)
          (cases_Bool (bytes_eq o.key (key_of x)))

-- ---- what lies where

module _ (m : State) (y : Layout) (r : IsLayoutOf m y) (valid : IsValidState m) (number : ℕ) (o : Object) (l : Loaded) (at : ℕ → Option Loaded) (chains : ℕ → List ℕ) (owner : Claim → Option ℕ) (now : IsDoomedNow m y number o l at chains owner) where
  here : object_at m number ≡ Some o
  here = now.lies.here

  its-main : is_listed m (main o.key) ≡ true
  its-main = main-listed m valid number o true here now.lies.live

  laid : IsPlacedAt m y (main o.key)
  laid = r.laid (main o.key) its-main

  its-loaded : laid.loaded ≡ l
  its-loaded = let a : y.at (y.place (main o.key)) ≡ Some laid.loaded = laid.here in let b : y.at (y.place (main o.key)) ≡ Some l = now.lies.at in cc

  rows : (i : Item) → is_of_another o.key i ≡ true → is_listed m i ≡ true → model.row_of (without_items m (doomed number m (Some o)).objects (is_of_another o.key)) i ≡ model.row_of m i
  unfolding model.row_of doomed
  rows i other h = row-aside m number (doomed_slot (is_named m number) o) i (not-its m number o here i other) (no-item m number o here i)

  settled : (key : List ℕ) → is_of_another o.key (main key) ≡ true
      → option_map (λ (z : Object). z.settled) (model.owner_object (without_items m (doomed number m (Some o)).objects (is_of_another o.key)) (main key)) ≡ option_map (λ (z : Object). z.settled) (model.owner_object m (main key))
  unfolding doomed
  settled key other = ap (option_map (λ (z : Object). z.settled)) (object-aside m number (doomed_slot (is_named m number) o) (main key) (not-its m number o here (main key) other) (no-item m number o here (main key)))

  -- the node of an item of another key is another
  its-node : (w : ℕ) → is_among (nodes_of y (filter (is_of_another o.key) m.uses)) w ≡ true → (y.place (main o.key) == w) ≡ false
  its-node w h =
      let n : IsNodeOf y (filter (is_of_another o.key) m.uses) w = node-of y (filter (is_of_another o.key) m.uses) w h in
      ⊎_elim
      (λ (x : (eqb (y.place (main o.key)) w ≡ true) × (y.place (main o.key) ≡ w)).
      let both : (is_of_another o.key n.item && is_listed m n.item) ≡ true = sym (in-filter (is_of_another o.key) m.uses n.item) ∙ n.among in
      let p = and_parts (is_of_another o.key n.item) (is_listed m n.item) both in
      let s : main o.key ≡ n.item = same-place m y r (main o.key) n.item its-main p.1 (x.1 ∙ sym n.is) in
      let c : is_of_another o.key n.item ≡ false = ap (is_of_another o.key) (sym s) ∙ ap not (bytes_eq_self o.key) in
      absurd (let z : true ≡ false = sym p.0 ∙ c in cc))
      (λ (x : (eqb (y.place (main o.key)) w ≡ false) × _). x.0)
      (eqb_tells (y.place (main o.key)) w)

  normal : (w : ℕ) → is_among (nodes_of y (filter (is_of_another o.key) m.uses)) w ≡ true → put y.state (y.place (main o.key)) 2 w ≡ 0
  normal w h = at-elsewhere y.state (y.place (main o.key)) 2 w (its-node w h) ∙ r.normal w (node-kept m (doomed number m (Some o)).objects (is_of_another o.key) y at chains owner y.place_of_doomed y.state r rows settled (λ key n k. k) now.less w h)

  out : (w : ℕ) → is_among (order m y) w ≡ false → is_among (nodes_of y (filter (is_of_another o.key) m.uses)) w ≡ false
  out w e = not_kept m (doomed number m (Some o)).objects (is_of_another o.key) y at chains owner y.place_of_doomed y.state r rows settled (λ key n k. k) now.less w e

  -- the slot of the number is the doomed object
  at-number : object_at (doomed number m (Some o)) number ≡ Some (record o { live = false; parts = [] })
  unfolding doomed
  at-number =
      let within : number < length m.objects = some_within m.objects number o here in
      let same : object_at (doomed number m (Some o)) number ≡ doomed_slot (is_named m number) o = rw get_or-set_same in
      same ∙ ap (λ (held : Bool). doomed_slot held o) now.node_fields

  at-other : (k : ℕ) → k ≢ number → object_at (doomed number m (Some o)) k ≡ object_at m k
  unfolding doomed
  at-other k apart = rw get_or-set_other

  -- the node of another doomed object is another
  listed-node : is_among (order m y) (y.place (main o.key)) ≡ true
  listed-node = is_among-node y m.uses (main o.key) its-main

  other-doomed : (k : ℕ) (x : Object) → object_at m k ≡ Some x → x.live ≡ false → y.place_of_doomed k ≡ y.place (main o.key) → ⊥
  other-doomed k x is dead e = let d : IsDoomedAt m y k x = r.doomed_objects k x is dead in let c : true ≡ false = sym listed-node ∙ ap (is_among (order m y)) (sym e) ∙ d.unlisted in cc

  place : ℕ → ℕ
  place = put y.place_of_doomed number (y.place (main o.key))

  place-other : (k : ℕ) → k ≢ number → put y.place_of_doomed number (y.place (main o.key)) k ≡ y.place_of_doomed k
  place-other k apart = ⊎_elim
      (λ (e : (eqb number k ≡ true) × (number ≡ k)). absurd (apart (sym e.1)))
      (λ (e : (eqb number k ≡ false) × _). at-elsewhere y.place_of_doomed number (y.place (main o.key)) k e.0)
      (eqb_tells number k)

  its-row : row_of_loaded l ≡ main_row o.key o.shape o.streams
  unfolding model.row_of
  its-row =
      let owned : model.owner_object m (main o.key) ≡ Some o = rw (main-owned m valid number o true here now.lies.live) here in
      let row : model.row_of m (main o.key) ≡ Some (main_row o.key o.shape o.streams) = rw owned refl in
      let both : ◌≡◌ {A = Option Row} (Some (row_of_loaded laid.loaded)) (Some (main_row o.key o.shape o.streams)) = sym laid.row ∙ row in
      ap row_of_loaded (sym its-loaded) ∙ (let s : row_of_loaded laid.loaded ≡ main_row o.key o.shape o.streams = cc in s)

  its-mark : (l.dirty == 0) ≡ o.settled
  its-mark =
      let owned : model.owner_object m (main o.key) ≡ Some o = rw (main-owned m valid number o true here now.lies.live) here in
      let mark : (laid.loaded.dirty == 0) ≡ o.settled = rw owned at laid.mark in
      ap (λ (z : Loaded). z.dirty == 0) (sym its-loaded) ∙ mark

  not-listed : is_among (nodes_of y (filter (is_of_another o.key) m.uses)) (y.place (main o.key)) ≡ false
  not-listed = ⊎_elim
      (λ (h : is_among (nodes_of y (filter (is_of_another o.key) m.uses)) (y.place (main o.key)) ≡ true). absurd (let z : true ≡ false = sym (eq-eqb (y.place (main o.key)) (y.place (main o.key)) refl) ∙ its-node (y.place (main o.key)) h in cc))
      (λ (h : is_among (nodes_of y (filter (is_of_another o.key) m.uses)) (y.place (main o.key)) ≡ false). h)
      (cases_Bool (is_among (nodes_of y (filter (is_of_another o.key) m.uses)) (y.place (main o.key))))

  dead : (k : ℕ) (x : Object) → object_at (doomed number m (Some o)) k ≡ Some x → x.live ≡ false → IsDoomedAt (doomed number m (Some o)) (placed_doomed y number (y.place (main o.key)) at chains owner) k x
  unfolding doomed
  dead k x is gone = ⊎_elim
      (λ (e : (eqb k number ≡ true) × (k ≡ number)).
      let p : ◌≡◌ {A = Option Object} (Some (record o { live = false; parts = [] })) (Some x) = sym at-number ∙ ap (object_at (doomed number m (Some o))) (sym e.1) ∙ is in
      let s : (let z : Object = record o { live = false; parts = [] } in z) ≡ x = cc in
      subst (λ (z : ℕ). IsDoomedAt (doomed number m (Some o)) (placed_doomed y number (y.place (main o.key)) at chains owner) z x) (sym e.1)
      (subst (IsDoomedAt (doomed number m (Some o)) (placed_doomed y number (y.place (main o.key)) at chains owner) number) s (record {
        loaded = l;
        here = ap at (at-itself y.place_of_doomed number (y.place (main o.key))) ∙ now.stays;
        row = its-row;
        mark = its-mark;
        unlisted = ap (is_among (nodes_of y (filter (is_of_another o.key) m.uses))) (at-itself y.place_of_doomed number (y.place (main o.key))) ∙ not-listed;
        alone = λ n z at_n dies same. ⊎_elim
            (λ (a : (eqb n number ≡ true) × (n ≡ number)). a.1)
            (λ (a : (eqb n number ≡ false) × (n ≢ number)). absurd (other-doomed n z (sym (at-other n a.1) ∙ at_n) dies (sym (place-other n a.1) ∙ same ∙ at-itself y.place_of_doomed number (y.place (main o.key)))))
            (eqb_tells n number);
      })))
      (λ (e : (eqb k number ≡ false) × (k ≢ number)).
      let was : object_at m k ≡ Some x = sym (at-other k e.1) ∙ is in
      let d : IsDoomedAt m y k x = r.doomed_objects k x was gone in
      record {
        loaded = d.loaded;
        here = ap at (place-other k e.1) ∙ now.less.others (y.place_of_doomed k) d.loaded d.unlisted d.here;
        row = d.row;
        mark = d.mark;
        unlisted = ap (is_among (nodes_of y (filter (is_of_another o.key) m.uses))) (place-other k e.1) ∙ out (y.place_of_doomed k) d.unlisted;
        alone = λ n z at_n dies same. ⊎_elim
            (λ (a : (eqb n number ≡ true) × (n ≡ number)).
            absurd (other-doomed k x was gone (sym (place-other k e.1) ∙ sym same ∙ ap (put y.place_of_doomed number (y.place (main o.key))) a.1 ∙ at-itself y.place_of_doomed number (y.place (main o.key)))))
            (λ (a : (eqb n number ≡ false) × (n ≢ number)). d.alone n z (sym (at-other n a.1) ∙ at_n) dies (sym (place-other n a.1) ∙ same ∙ place-other k e.1))
            (eqb_tells n number);
      })
      (eqb_tells k number)

  pub lies-doomed : IsLayoutOf (doomed number m (Some o)) (placed_doomed y number (y.place (main o.key)) at chains owner)
  unfolding doomed
  lies-doomed = lies-without m (doomed number m (Some o)).objects (is_of_another o.key) y at chains owner (put y.place_of_doomed number (y.place (main o.key))) (put y.state (y.place (main o.key)) 2) r rows settled (λ key n k. k) now.less normal dead

pub doomed-is-laid : DoomedIsPlaced
doomed-is-laid m y r valid number o l at chains owner now = lies-doomed m y r valid number o l at chains owner now

-- ---- what is represented

pub doomed-is-represented : DoomedIsRepresented
unfolding doomed
doomed-is-represented except v m y r valid number o l at chains owner now but left loads rest = record {
  holds = record {
    shows = record { no_record = but.no_record; each = each; chains = but.chains };
    lies = lies-doomed m y r valid number o l at chains owner now;
  };
  list = rest.whole;
  idle = rest.idle;
} where
  sound : (w : ℕ) (x : Loaded) → at w ≡ Some x → (y.place (main o.key) == w) ≡ false → except w ≡ false
  sound w x is apart = ⊎_elim
      (λ (h : except w ≡ true). absurd (let z : true ≡ false = sym (eq-eqb (y.place (main o.key)) w (left w x is h)) ∙ apart in cc))
      (λ (h : except w ≡ false). h)
      (cases_Bool (except w))

  each : (w : ℕ) (x : Loaded) → at w ≡ Some x → load v.store (unchained_rule (put y.state (y.place (main o.key)) 2 w)) w ≡ Ok x
  each w x is = ⊎_elim
      (λ (e : (eqb (y.place (main o.key)) w ≡ true) × (y.place (main o.key) ≡ w)).
      let s : l ≡ x = let a : at (y.place (main o.key)) ≡ Some l = now.stays in let b : at (y.place (main o.key)) ≡ Some x = ap at e.1 ∙ is in cc in
      subst (λ (z : ℕ). load v.store (unchained_rule (put y.state (y.place (main o.key)) 2 z)) z ≡ Ok x) e.1
      (ap (λ (s : ℕ). load v.store (unchained_rule s) (y.place (main o.key))) (at-itself y.state (y.place (main o.key)) 2) ∙ loads ∙ ap (λ (z : Loaded). Ok z) s))
      (λ (e : (eqb (y.place (main o.key)) w ≡ false) × _). ap (λ (s : ℕ). load v.store (unchained_rule s) w) (at-elsewhere y.state (y.place (main o.key)) 2 w e.0) ∙ but.each w x (now.less.was w x is) (sound w x is e.0))
      (eqb_tells (y.place (main o.key)) w)
