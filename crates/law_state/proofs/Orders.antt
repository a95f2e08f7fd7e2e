-- What a crash may leave in each order that a request makes.
use Rattle.std.proofs.Common.{◌≡◌, ℕ, suc, List, [], ◌∷◌, None, refl, ap, sym, ◌∙◌, subst, arith, inl, inr, length, map, take, not, ◌++◌, ◌+◌}
use Rattle.std.specs.List.{filter_map}
use Rattle.std.proofs.lemmas.List.{append-nil, length-append}
use Rattle.blk_model.specs.EvictionLaws.{EvictsFirst, later_steps}
use Rattle.blk_model.specs.Items.{Item, Row}
use Rattle.blk_model.specs.State.{State}
use Rattle.blk_model.specs.Effects.{used, used_all}
use Rattle.blk_model.specs.Holding.{rest, settled_row}
use Rattle.blk_model.specs.ListSteps.{ListStep, after_steps, front, uses_of}
use Rattle.blk_model.specs.Refusals.{evicted, refused}
use Rattle.blk_model.specs.Request.{Request}
use Rattle.blk_model.specs.Room.{Group, without}
use Rattle.blk_model.specs.Step.{step}
use Rattle.blk_model.specs.Stops.{StopOutcome, pick, picked}
use Rattle.blk_model.proofs.Chosen.{settled_chooses}
use Rattle.blk_model.proofs.EvictedFirst.{StaysOrNobody, after-first, each-stays, each_same, evictions-stop, left_nobody, long, settled_left}
use Rattle.blk_model.proofs.Leads.{may_settle, step_leads}
use Rattle.blk_model.proofs.StopRests.{picked_before}
use Rattle.law_folder.proofs.claims.Owner.{filter_map-same}
use Rattle.law_state.specs.CommandStates.{MayLeave, in_order, with_room}
use Rattle.law_state.specs.StopLaws.{OrdersMayBeLeft, RoomMayBeLeft, UsesGoOn, UsesMayBeLeft, WhatIsLeftMayStop}

pub left-stops : WhatIsLeftMayStop
left-stops state moment request held image left finds = record {
  sound = finds.0;
  left = subst (λ (rows : List Row). StopOutcome state moment request (step state moment request).state rows) (sym finds.1) left;
}

-- an item that stays, or that no object has, is durable as it was
settled-both : (state : State) (groups : List Group) (item : Item) → StaysOrNobody state groups item → settled_row (without groups state) item ≡ settled_row state item
unfolding without
settled-both state [] item either = refl
settled-both state (group ∷ groups) item (inl stays) = settled_left state group groups item stays
settled-both state (group ∷ groups) item (inr none) = (settled_chooses (without (group ∷ groups) state)).nobody item (left_nobody state group groups item none) ∙ sym ((settled_chooses state).nobody item none)

-- the durable contents in another order
pub rest-order : (uses : List Item) (state : State) → rest (in_order uses state) ≡ filter_map (settled_row state) uses
unfolding rest settled_row
rest-order uses state = filter_map-same (settled_row (in_order uses state)) (settled_row state) (λ item. refl) uses

pub orders-left : OrdersMayBeLeft
unfolding pick
orders-left state moment request first others valid is count within =
    let closes = may_settle request in
    let after = (step state moment request).state in
    let list = after_steps (take count (later_steps state request others)) (without first state).uses in
    record {
      step_count = length first + count;
      within = let l = long state moment request first others valid is in omega (arith, within, l);
      with_turned = not closes;
      picked_rows = rest-order list (without first state)
          ∙ each_same (settled_row (without first state)) (picked state after (not closes)) (StaysOrNobody state first) list
          (λ item either. settled-both state first item either ∙ sym (picked_before state after closes (step_leads state valid moment request) item)) (each-stays state moment request first others valid is count)
          ∙ ap (filter_map (picked state after (not closes))) (sym (after-first state moment request first others valid is count));
    }

-- all that is evicted is removed first
pub all-first : (state : State) (moment : ℕ) (request : Request) → refused moment request state ≡ None → EvictsFirst state moment request (evicted moment request state) []
all-first state moment request passes = record { passes = passes; groups = sym (append-nil (evicted moment request state)) }

fronts-length : (items : List Item) → length (map front items) ≡ length items
fronts-length [] = refl
fronts-length (item ∷ items) = ap suc (fronts-length items)

fronts-used : (first others uses : List Item) → after_steps (take (length first) (map front (first ++ others))) uses ≡ used_all first uses
fronts-used [] others uses = refl
fronts-used (item ∷ first) others uses = fronts-used first others (used item uses)

pub uses-go-on : UsesGoOn
uses-go-on [] item uses = refl
uses-go-on (other ∷ first) item uses = uses-go-on first item (used other uses)

pub uses-left : UsesMayBeLeft
uses-left state moment request first others valid passes none split =
    let base = with_room state moment request in
    let later : later_steps state request [] ≡ map front (first ++ others) = ap (λ (steps : List ListStep). ([] ++ steps) ++ map front (uses_of request state)) none ∙ ap (map front) split in
    let long : length (later_steps state request []) ≡ length first + length others = ap length later ∙ fronts-length (first ++ others) ∙ length-append first others in
    subst (λ (uses : List Item). MayLeave state moment request (rest (in_order uses base)))
    (ap (λ (steps : List ListStep). after_steps (take (length first) steps) base.uses) later ∙ fronts-used first others base.uses)
    (orders-left state moment request (evicted moment request state) [] valid (all-first state moment request passes) (length first) (omega (arith, long)))

pub room-left : RoomMayBeLeft
room-left state moment request valid passes = evictions-stop state moment request (evicted moment request state) [] valid (all-first state moment request passes)
