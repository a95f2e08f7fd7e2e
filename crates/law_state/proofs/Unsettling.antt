-- What a crash may leave once an object is dirty, and while a doomed one changes.
use Rattle.std.proofs.Common.{◌≡◌, ◌≢◌, ℕ, List, [], refl, ap, sym, ◌∙◌, subst, Bool, true, false, arith, Option, Some, None, ⊎_elim, not}
use Rattle.std.specs.Prelude.{◌&&◌, ◌||◌, cond}
use Rattle.std.specs.Option.{option_and_then}
use Rattle.std.specs.List.{filter_map}
use Rattle.std.proofs.lemmas.Bool.Decides.{eqb_tells}
use Rattle.std.proofs.Math.Dec.{eqb}
use Rattle.std.proofs.lemmas.List.{get_or-set_same, get_or-set_other}
use Rattle.blk_model.specs.Items.{Item}
use Rattle.blk_model.specs.State.{IsValidState, Object, State, object_at}
use Rattle.blk_model.specs.Holding.{owner, rest, row_of}
use Rattle.blk_model.specs.Refusals.{covered, evicted}
use Rattle.blk_model.specs.Request.{Request, to_create, to_open, to_read, to_write, to_size, to_sparse_write, to_sparse_read, to_sparse_range, to_doom, to_doom_key, to_close, to_flush, to_list, to_trim, to_total}
use Rattle.blk_model.specs.Room.{without}
use Rattle.blk_model.specs.Step.{step}
use Rattle.blk_model.specs.Stops.{differ, is_live, is_live_and_settled, is_safe, is_turned, pick, picked, picked_by}
use Rattle.blk_model.proofs.Evicted.{evicted_are_loose, state_without}
use Rattle.blk_model.proofs.EvictedFirst.{evictions-first}
use Rattle.blk_model.proofs.Steps.{room_for_is_loose}
use Rattle.law_folder.specs.CommandLaws.{turned}
use Rattle.law_folder.proofs.states.DirtyWords.{after-turning}
use Rattle.law_state.specs.CommandStates.{IsUnsettled, KeepsOtherKeys, MayLeave, Unsettles, amidst, with_room}
use Rattle.law_state.specs.StopLaws.{OthersMayBeLeftOnceUnsettled, OthersMayBeLeftWhileDoomed}
use Rattle.law_state.proofs.NotAtRest.{doomed-rest, unsettled-rest, within-slots}
use Rattle.law_state.proofs.Orders.{all-first, room-left}

-- the state once all that a request evicts is out is valid
pub room-valid : (state : State) (moment : ℕ) (request : Request) → IsValidState state → IsValidState (with_room state moment request)
unfolding evicted without
room-valid state moment (to_create handle key) valid = state_without state valid (covered (to_create handle key) state) _ (room_for_is_loose moment (to_create handle key) state)
room-valid state moment (to_write handle stream offset cut bytes) valid = state_without state valid (covered (to_write handle stream offset cut bytes) state) _ (room_for_is_loose moment (to_write handle stream offset cut bytes) state)
room-valid state moment (to_sparse_write handle offset bytes) valid = state_without state valid (covered (to_sparse_write handle offset bytes) state) _ (room_for_is_loose moment (to_sparse_write handle offset bytes) state)
room-valid state moment (to_trim bytes) valid = state_without state valid [] _ (evicted_are_loose _ state [])
room-valid state moment (to_open handle key) valid = valid
room-valid state moment (to_read handle stream offset count) valid = valid
room-valid state moment (to_size handle stream) valid = valid
room-valid state moment (to_sparse_read handle offset count) valid = valid
room-valid state moment (to_sparse_range handle offset count) valid = valid
room-valid state moment (to_doom handle) valid = valid
room-valid state moment (to_doom_key key) valid = valid
room-valid state moment (to_close handle) valid = valid
room-valid state moment (to_flush handle) valid = valid
room-valid state moment to_list valid = valid
room-valid state moment to_total valid = valid

and-false : (b : Bool) → (b && false) ≡ false
and-false true = refl
and-false false = refl

-- two slots are as live and as clean
abbrev Alike : Option Object → Option Object → Type 0
Alike a b = (is_live_and_settled a ≡ is_live_and_settled b) × (is_live a ≡ is_live b)

module _ (state : State) (valid : IsValidState state) (moment : ℕ) (request : Request) (number : ℕ) (object : Object) (is : Unsettles state moment request number object) where
  abbrev base : State
  base = with_room state moment request

  abbrev end : State
  end = (step state moment request).state

  -- the object alone dirty
  abbrev loosened : State
  loosened = turned base number object false base.names

  alike : (k : ℕ) → Alike (object_at loosened k) (object_at end k)
  alike k = ⊎_elim
      (λ (q : (eqb k number ≡ true) × (k ≡ number)).
      let was : object_at loosened k ≡ Some (record object { settled = false }) = ap (object_at loosened) q.1 ∙ get_or-set_same base.objects number (Some (record object { settled = false })) None (within-slots base.objects number object is.affected.here) in
      let now : object_at end k ≡ Some is.after = ap (object_at end) q.1 ∙ is.becomes in (
        ap is_live_and_settled was ∙ and-false object.live ∙ sym (ap is_live_and_settled now ∙ ap (λ (b : Bool). is.after.live && b) is.unsettled.unsettled ∙ and-false is.after.live),
        ap is_live was ∙ is.affected.live ∙ sym (ap is_live now ∙ is.unsettled.live),
      ))
      (λ (q : (eqb k number ≡ false) × (k ≢ number)).
      let same : object_at loosened k ≡ object_at end k = get_or-set_other base.objects number k (Some (record object { settled = false })) None q.1 ∙ sym (is.others k q.1) in
      (ap is_live_and_settled same, ap is_live same))
      (eqb_tells k number)

  -- so the same objects are safe, and the same in transition
  pick-same : (with : Bool) (items : List Item) → pick base loosened with items ≡ pick base end with items
  unfolding pick picked picked_by is_safe is_turned
  pick-same with items = λ i. filter_map (λ item. option_and_then (λ k. cond (is_live_and_settled (object_at base k) && ((alike k).0 i || not ((alike k).1 i)) || (with && (is_live (object_at base k) && (alike k).1 i && differ (is_live_and_settled (object_at base k)) ((alike k).0 i)))) (row_of base item) None) (owner base item)) items

  left : (changed : Object) (uses : List Item) → IsUnsettled changed object.key → KeepsOtherKeys base object.key uses → MayLeave state moment request (rest (amidst base number changed uses))
  left changed uses unsettled keeps =
      let base_valid = room-valid state moment request valid in
      let loose : IsUnsettled (record object { settled = false }) object.key = record { key_is = refl; live = is.affected.live; unsettled = refl } in
      let first : rest (amidst base number changed uses) ≡ rest (amidst base number (record object { settled = false }) base.uses) = unsettled-rest base number object changed (record object { settled = false }) uses base.uses base_valid is.affected.here is.affected.live unsettled loose keeps refl in
      let then_picked : rest loosened ≡ pick base loosened (not object.settled && false) base.uses = after-turning base base_valid number object false base.names is.affected.here is.affected.live in
      let without_turned : pick base loosened (not object.settled && false) base.uses ≡ pick base loosened false base.uses = ap (λ (b : Bool). pick base loosened b base.uses) (and-false (not object.settled)) in
      evictions-first state moment request (evicted moment request state) [] (rest (amidst base number changed uses)) valid (all-first state moment request is.affected.passes)
      (record { step_count = 0; within = omega arith; with_turned = false; picked_rows = first ∙ then_picked ∙ without_turned ∙ pick-same false base.uses })

pub unsettled-left : OthersMayBeLeftOnceUnsettled
unsettled-left state moment request number object valid is changed uses unsettled keeps = left state valid moment request number object is changed uses unsettled keeps

pub doomed-left : OthersMayBeLeftWhileDoomed
doomed-left state moment request number object slot valid passes here dead dead_after =
    subst (MayLeave state moment request) (sym (doomed-rest (with_room state moment request) number object slot here dead dead_after)) (room-left state moment request valid passes)
