-- While the records of one dirty object are in the midst of a change, the recovered contents are the durable ones.
use Rattle.std.proofs.Common.{◌≡◌, ℕ, List, map, refl, ap, sym, ◌∙◌, subst, Bool, true, false, Some, Ok, ⊎_elim}
use Rattle.std.specs.Prelude.{◌&&◌, ◌==◌}
use Rattle.std.proofs.lemmas.Bool.{cases_Bool, and_parts}
use Rattle.spec_folder.specs.ListView.{Distinct}
use Rattle.blk_model.specs.Items.{Item, main, part, key_of}
use Rattle.blk_model.specs.State.{State, IsValidState, object_at}
use Rattle.blk_model.specs.Stops.{is_live_and_settled}
use Rattle.spec_format.specs.Names.{Name, read_name}
use Rattle.spec_folder.specs.View.{StoreView}
use Rattle.spec_folder.specs.Loads.{held_rule, Loaded, load, is_part, is_part_role}
use Rattle.spec_folder.specs.Entries.{Role, IsPlain, IsParent, IsPart}
use Rattle.spec_folder.specs.Audit.{kept_among, is_parent_of}
use Rattle.spec_folder.specs.Found.{row_of_loaded}
use Rattle.spec_folder.specs.Shown.{IsOrphanIn}
use Rattle.spec_folder.specs.Layout.{Layout, is_listed, order, IsPartAt, IsPlacedAt, HoldsExcept, IsInProgress, is_in}
use Rattle.spec_folder.specs.Given.{given_by, is_settled}
use Rattle.law_folder.proofs.walks.Loads.{load-then}
use Rattle.law_folder.proofs.walks.Shown.{role-name}
use Rattle.law_folder.proofs.states.Laid.{IsNodeOf, node-of, found-but, picked-closed, settled-main, settled-part, part-at, item-of, parent-main, given-parts}
use Rattle.law_folder.proofs.states.Central.{settled-is_test, all-closed}
use Rattle.law_folder.proofs.claims.Owner.{rest-picked}
use Rattle.blk_model.specs.Holding as model

part-role : (k : Loaded) → is_part k ≡ true → (name : Name) × (index : _) × (k.role ≡ IsPart name index)
part-role k e = go k.role refl where
  go : (a : Role) → k.role ≡ a → (name : Name) × (index : _) × (k.role ≡ IsPart name index)
  go IsPlain is = absurd (let x : true ≡ false = sym e ∙ ap is_part_role is in cc)
  go (IsParent index) is = absurd (let x : true ≡ false = sym e ∙ ap is_part_role is in cc)
  go (IsPart name index) is = (name, index, is)

module _ (except : ℕ → Bool) (v : StoreView) (m : State) (y : Layout) (r : HoldsExcept except v m y) (valid : IsValidState m) (key : List ℕ) (midst : IsInProgress except v m y key) (once : Distinct (order m y)) where
  -- the main item of the object is not clean
  bad-main : (l : Loaded) → is_listed m (main key) ≡ true → y.at (y.place (main key)) ≡ Some l → is_settled y m.uses l ≡ false
  bad-main l there is = settled-main m y r.laid m.uses (λ i h. h) key l there is ∙ midst.unsettled l is

  whole : (i : Item) (l : Loaded) → is_listed m i ≡ true → y.at (y.place i) ≡ Some l → is_settled y m.uses l ≡ true → except (y.place i) ≡ false
  whole i l there is passes = ⊎_elim (λ (h : except (y.place i) ≡ true). absurd (go i there is (midst.of_key i there h))) (λ (h : except (y.place i) ≡ false). h) (cases_Bool (except (y.place i))) where
    go : (i : Item) → is_listed m i ≡ true → y.at (y.place i) ≡ Some l → key_of i ≡ key → ⊥
    go (main k) there is e =
        let a : is_listed m (main key) ≡ true = subst (λ (z : List ℕ). is_listed m (main z) ≡ true) e there in
        let b : y.at (y.place (main key)) ≡ Some l = subst (λ (z : List ℕ). y.at (y.place (main z)) ≡ Some l) e is in
        let c : true ≡ false = sym passes ∙ bad-main l a b in cc
    go (part k n) there is e =
        let q : IsPartAt m y k l = (part-at m y r.laid m.uses (λ i h. h) k n l there is).0 in
        let a : (is_in m.uses (main k) && (q.parent.dirty == 0)) ≡ true = sym (settled-part m y r.laid m.uses (λ i h. h) k n l q.parent there is q.at_parent) ∙ passes in
        let b : (q.parent.dirty == 0) ≡ true = (and_parts (is_in m.uses (main k)) (q.parent.dirty == 0) a).1 in
        let d : (q.parent.dirty == 0) ≡ false = midst.unsettled q.parent (subst (λ (z : List ℕ). y.at (y.place (main z)) ≡ Some q.parent) e q.at_parent) in
        let c : true ≡ false = sym b ∙ d in cc

  broken : (i : Item) (k : Loaded) → is_listed m i ≡ true → except (y.place i) ≡ true → load v held_rule (y.place i) ≡ Ok k → IsOrphanIn (order m y) (given_by (is_settled y m.uses) y) k
  broken i k there h ok = go i there h (midst.of_key i there h) ok where
    go : (i : Item) → is_listed m i ≡ true → except (y.place i) ≡ true → key_of i ≡ key → load v held_rule (y.place i) ≡ Ok k → IsOrphanIn (order m y) (given_by (is_settled y m.uses) y) k
    go (main x) there h e ok = absurd (midst.dirty k (subst (λ (z : List ℕ). load v held_rule (y.place (main z)) ≡ Ok k) e ok))
    go (part x n) there h e ok =
        let listed_key : is_listed m (part key n) ≡ true = subst (λ (z : List ℕ). is_listed m (part z n) ≡ true) e there in
        let hole_key : except (y.place (part key n)) ≡ true = subst (λ (z : List ℕ). except (y.place (part z n)) ≡ true) e h in
        let q : IsPlacedAt m y (part x n) = r.laid (part x n) there in
        let here : y.at (y.place (part key n)) ≡ Some q.loaded = subst (λ (z : List ℕ). y.at (y.place (part z n)) ≡ Some q.loaded) e q.here in
        let p = midst.parts n q.loaded k listed_key hole_key here (subst (λ (z : List ℕ). load v held_rule (y.place (part z n)) ≡ Ok k) e ok) in
        let a = part-role k p.0 in
        let name : read_name k.key ≡ Some a.0 = load-then v held_rule (y.place (part x n)) k ok (λ m e f. role-name e k.key k.streams a.0 a.1 (f.facts.role ∙ ap Some a.2)) in
        let key_is : a.0.key ≡ key = midst.names n q.loaded a.0 listed_key hole_key here (ap read_name (sym p.1) ∙ name) in
        record {
          name = a.0;
          index = a.1;
          part = a.2;
          none = λ w g at_w given. ⊎_elim
              (λ (of : is_parent_of a.0 g ≡ true).
              let b : IsNodeOf y m.uses w = node-of y m.uses w at_w in
              let parts = given-parts (is_settled y m.uses) (y.at (y.place b.item)) g (ap (given_by (is_settled y m.uses) y) b.is ∙ given) in
              let main_is : b.item ≡ main key = sym (item-of m y r.laid b.item g b.among parts.0) ∙ parent-main a.0 g of ∙ ap main key_is in
              let listed : is_listed m (main key) ≡ true = subst (λ (z : Item). is_listed m z ≡ true) main_is b.among in
              let is : y.at (y.place (main key)) ≡ Some g = subst (λ (z : Item). y.at (y.place z) ≡ Some g) main_is parts.0 in
              absurd (let c : true ≡ false = sym parts.1 ∙ bad-main g listed is in cc))
              (λ (of : is_parent_of a.0 g ≡ false). of)
              (cases_Bool (is_parent_of a.0 g));
        }

  pub midst-rest : map row_of_loaded (kept_among v held_rule (order m y)) ≡ model.rest m
  midst-rest = found-but m y r.laid m.uses (λ i h. h) (λ number. is_live_and_settled (object_at m number)) (settled-is_test m y r.laid valid) except v r once whole broken
      ∙ picked-closed m y r.laid m.uses (λ i h. h) (λ number. is_live_and_settled (object_at m number)) (settled-is_test m y r.laid valid) (all-closed m y r.laid valid) ∙ sym (rest-picked m)
