-- A plain object that no handle names is one item.
use Rattle.std.proofs.Common.{◌≡◌, ⊎_elim, ℕ, List, [], ap, sym, ◌∙◌, subst, arith, true, false, Option, Some}
use Rattle.std.specs.Prelude.{◌&&◌, is_some}
use Rattle.std.specs.Str.{bytes_eq}
use Rattle.std.proofs.lemmas.Bool.{and_parts, cases_Bool}
use Rattle.blk_model.specs.Effects.{doomed}
use Rattle.blk_model.specs.Items.{main, part}
use Rattle.blk_model.specs.State.{IsValidState, Object, State, has_item, is_named, object_at, part_at}
use Rattle.blk_model.proofs.Chosen.{Owner, has_owner, owned_at}
use Rattle.blk_model.proofs.Doomed.{state_doomed}
use Rattle.blk_model.proofs.States.{has_main}
use Rattle.blk_model.proofs.StopRests.{owner_live}
use Rattle.spec_folder.specs.Layout.{is_listed}
use Rattle.spec_folder.specs.Removal.{is_of_another, without_items}
use Rattle.law_folder.proofs.claims.Owner.{its-key}
use Rattle.law_folder.proofs.commands.Touches.{in-times}
use Rattle.law_state.specs.RemovalLaws.{IsWithout}
use Rattle.law_state.proofs.ChangedStates.{unheld-go}
use Rattle.blk_object.specs.RemovingObjects.{PlainObjectsGoAlone}

-- an object without parts has no part
no-part : (object : Object) (k : List ℕ) (m : ℕ) → object.parts ≡ [] → has_item object (part k m) ≡ true → ⊥
no-part object k m none has =
    let e : is_some (part_at object m) ≡ false = ap (λ ps. is_some (part_at (record object { parts = ps }) m)) none in
    let some : is_some (part_at object m) ≡ true = (and_parts (object.live && bytes_eq k object.key) (is_some (part_at object m)) has).1 in
    (let z : true ≡ false = sym some ∙ e in cc)

module _ (state : State) (number : ℕ) (object : Object) (valid : IsValidState state) (here : object_at state number ≡ Some object) (live : object.live ≡ true) (none : object.parts ≡ []) where
  -- so none of its parts is listed
  pub no-listed : (m : ℕ) → is_listed state (part object.key m) ≡ true → ⊥
  no-listed m listed =
      let some = in-times (part object.key m) state.uses listed in let all = valid.listed (part object.key m) in
      let o : Owner state (part object.key m) = has_owner state (part object.key m) (omega (arith, some, all)) in
      let key : object.key ≡ o.object.key = its-key o.object (part object.key m) o.has in
      let mine = owned_at state valid number object (main object.key) here (has_main object live) in
      let theirs = owned_at state valid o.number o.object (main object.key) o.here (subst (λ (x : List ℕ). has_item o.object (main x) ≡ true) (sym key) (has_main o.object (owner_live o.object (part object.key m) o.has))) in
      let n : ◌≡◌ {A = Option ℕ} (Some o.number) (Some number) = sym theirs ∙ mine in
      let number_is : o.number ≡ number = cc in
      let c : ◌≡◌ {A = Option Object} (Some o.object) (Some object) = sym o.here ∙ ap (object_at state) number_is ∙ here in
      let same : o.object ≡ object = cc in
      no-part object object.key m none (subst (λ (x : Object). has_item x (part object.key m) ≡ true) same o.has)

  -- an object without parts is removed whole with its main item
  pub goes-whole : is_named state number ≡ false → IsWithout state (doomed number state (Some object)).objects (is_of_another object.key) (main object.key) × (doomed number state (Some object) ≡ without_items state (doomed number state (Some object)).objects (is_of_another object.key))
  goes-whole unnamed = unheld-go state number object valid here live unnamed
      (λ m. ⊎_elim (λ (e : is_listed state (part object.key m) ≡ true). absurd (no-listed m e)) (λ (e : is_listed state (part object.key m) ≡ false). e) (cases_Bool (is_listed state (part object.key m))))
      (state_doomed state valid number object here live)

pub plain-alone : PlainObjectsGoAlone
plain-alone state number object valid here live none unnamed = goes-whole state number object valid here live none unnamed
