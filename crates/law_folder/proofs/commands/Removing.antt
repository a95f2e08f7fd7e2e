-- While items are taken out of the list, what is found is what stays with its main item.
use Rattle.std.proofs.Common.{◌≡◌, ℕ, List, [], ◌∷◌, map, refl, ap, sym, ◌∙◌, Bool, true, false, ⊎_elim}
use Rattle.std.specs.Prelude.{◌&&◌}
use Rattle.std.specs.List.{filter, filter_map, cons_option}
use Rattle.std.proofs.lemmas.Bool.{cases_Bool, and_parts, or_left, or_right}
use Rattle.std.proofs.Math.Bool.{and-true}
use Rattle.spec_folder.specs.ListView.{Distinct}
use Rattle.blk_model.specs.Items.{Item, main, part, same_item, key_of}
use Rattle.blk_model.specs.State.{State, IsValidState}
use Rattle.blk_model.proofs.Same.{one_item, same_item_self}
use Rattle.spec_folder.specs.View.{StoreView}
use Rattle.spec_folder.specs.Loads.{held_rule}
use Rattle.spec_folder.specs.Audit.{kept_among}
use Rattle.spec_folder.specs.Found.{row_of_loaded}
use Rattle.spec_folder.specs.Layout.{Layout, is_listed, nodes_of, HoldsExcept, is_in}
use Rattle.spec_folder.specs.Given.{picked_with, picked_in, IsTest}
use Rattle.law_folder.proofs.states.Laid.{found-but}
use Rattle.law_folder.proofs.states.Central.{all-closed}

-- what is in a filtered list of items
pub in-filter : (p : Item → Bool) (xs : List Item) (i : Item) → is_in (filter p xs) i ≡ (p i && is_in xs i)
in-filter p [] i = none (p i) where
  none : (b : Bool) → false ≡ (b && false)
  none true = refl
  none false = refl
in-filter p (x ∷ xs) i = ⊎_elim
    (λ (a : p x ≡ true). ⊎_elim
    (λ (e : same_item i x ≡ true). let y : p i ≡ true = ap p (one_item i x e) ∙ a in rw (a, e, y) refl)
    (λ (e : same_item i x ≡ false). rw (a, e) (in-filter p xs i))
    (cases_Bool (same_item i x)))
    (λ (a : p x ≡ false). ⊎_elim
    (λ (e : same_item i x ≡ true). let y : p i ≡ false = ap p (one_item i x e) ∙ a in rw (a, e, y) (in-filter p xs i ∙ ap (λ (b : Bool). b && is_in xs i) y))
    (λ (e : same_item i x ≡ false). rw (a, e) (in-filter p xs i))
    (cases_Bool (same_item i x)))
    (cases_Bool (p x))

module _ (except : ℕ → Bool) (v : StoreView) (m : State) (y : Layout) (r : HoldsExcept except v m y) (valid : IsValidState m) (test : ℕ → Bool) (is : IsTest m y m.uses test) (keep : Item → Bool)
    (once : Distinct (nodes_of y (filter keep m.uses))) (sound : (i : Item) → is_listed m i ≡ true → keep i ≡ true → except (y.place i) ≡ false) where
  items : List Item
  items = filter keep m.uses

  sub : (i : Item) → is_in (filter keep m.uses) i ≡ true → (keep i ≡ true) × (is_listed m i ≡ true)
  sub i h = and_parts (keep i) (is_listed m i) (sym (in-filter keep m.uses i) ∙ h)

  is-here : IsTest m y (filter keep m.uses) test
  is-here = record {
    owners = λ key n h. is.owners key n (sub (part key n) h).1;
    main_test = λ key l number h here own. is.main_test key l number (sub (main key) h).1 here own;
  }

  -- the main item of a listed item is listed
  main-of : (i : Item) → is_listed m i ≡ true → is_listed m (main (key_of i)) ≡ true
  main-of (main key) h = h
  main-of (part key n) h = all-closed m y r.laid valid key n h

  rows-stay : (xs : List Item) → ((i : Item) → is_in xs i ≡ true → is_listed m i ≡ true) → filter_map (picked_in m test (filter keep m.uses)) (filter keep xs) ≡ filter_map (picked_with m test) (filter (λ i. keep i && keep (main (key_of i))) xs)
  rows-stay [] h = refl
  rows-stay (x ∷ xs) h =
      let here : is_listed m x ≡ true = h x (or_left (same_item x x) (is_in xs x) (same_item_self x)) in
      let rest = rows-stay xs (λ i g. h i (or_right (same_item i x) (is_in xs i) g)) in
      ⊎_elim
      (λ (a : keep x ≡ true).
      let with_main : is_in (filter keep m.uses) (main (key_of x)) ≡ keep (main (key_of x)) = in-filter keep m.uses (main (key_of x)) ∙ ap (λ (b : Bool). keep (main (key_of x)) && b) (main-of x here) ∙ and-true (keep (main (key_of x))) in
      ⊎_elim
      (λ (c : keep (main (key_of x)) ≡ true). rw (a, c) (rw (with_main, c) (ap (cons_option (picked_with m test x)) rest)))
      (λ (c : keep (main (key_of x)) ≡ false). rw (a, c) (rw (with_main, c) rest))
      (cases_Bool (keep (main (key_of x)))))
      (λ (a : keep x ≡ false). rw a rest)
      (cases_Bool (keep x))

  pub removed-rows : map row_of_loaded (kept_among v held_rule (nodes_of y (filter keep m.uses))) ≡ filter_map (picked_with m test) (filter (λ i. keep i && keep (main (key_of i))) m.uses)
  removed-rows =
      found-but m y r.laid (filter keep m.uses) (λ i h. (sub i h).1) test is-here except v r once
      (λ i l h here passes. let s = sub i h in sound i s.1 s.0)
      (λ i k h broken ok. let s = sub i h in absurd (let c : true ≡ false = sym broken ∙ sound i s.1 s.0 in cc))
      ∙ rows-stay m.uses (λ i h. h)
