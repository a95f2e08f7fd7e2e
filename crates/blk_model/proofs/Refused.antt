-- A refusal is the first of its row, and changes nothing.
use Rattle.std.proofs.Common.{◌≡◌, ◌≢◌, ℕ, List, [], Some, None, ap}
use Rattle.std.specs.Prelude.{◌↔◌}
use Rattle.blk_model.specs.declared.Refusal.{Refusal}
use Rattle.blk_model.specs.declared.Refusal.TheVariants as refusal
use Rattle.blk_model.specs.declared.Answer.TheVariants as answer
use Rattle.blk_model.specs.State.{State}
use Rattle.blk_model.specs.Request.{Request, to_create, to_open, to_read, to_write, to_size, to_sparse_write, to_sparse_read, to_sparse_range, to_doom, to_doom_key, to_close, to_flush, to_list, to_trim, to_total}
use Rattle.blk_model.specs.Reply.{answered}
use Rattle.blk_model.specs.Room.{Group, without}
use Rattle.blk_model.specs.Refusals.{refused, evicted}
use Rattle.blk_model.specs.Effects.{effect}
use Rattle.blk_model.specs.Step.{reply, outcome, step}
use Rattle.blk_model.specs.ListSteps.{steps_unless, list_steps}
use Rattle.blk_model.specs.Laws.{ChangesNothing}
use Rattle.blk_model.proofs.Memory.{never_memory, never_no_handle}

-- the reply to a command that is not refused is no refusal
no_refusal : (request : Request) (groups : List Group) (state : State) (why : Refusal) → reply request groups state ≢ answered (answer.Refused why)
unfolding reply
no_refusal (to_create handle key) groups state why e = cc
no_refusal (to_open handle key) groups state why e = cc
no_refusal (to_read handle stream offset count) groups state why e = cc
no_refusal (to_write handle stream offset cut bytes) groups state why e = cc
no_refusal (to_size handle stream) groups state why e = cc
no_refusal (to_sparse_write handle offset bytes) groups state why e = cc
no_refusal (to_sparse_read handle offset count) groups state why e = cc
no_refusal (to_sparse_range handle offset count) groups state why e = cc
no_refusal (to_doom handle) groups state why e = cc
no_refusal (to_doom_key key) groups state why e = cc
no_refusal (to_close handle) groups state why e = cc
no_refusal (to_flush handle) groups state why e = cc
no_refusal to_list groups state why e = cc
no_refusal (to_trim bytes) groups state why e = cc
no_refusal to_total groups state why e = cc

pub refusal_is : (state : State) (moment : ℕ) (request : Request) (why : Refusal) → (step state moment request).reply ≡ answered (answer.Refused why) → refused moment request state ≡ Some why
unfolding step outcome
refusal_is state moment request why =
    elim (refused moment request state) as (λ o. (outcome moment request state o).reply ≡ answered (answer.Refused why) → o ≡ Some why) [
      | Some other ↦ λ e. cc
      | None ↦ λ e. absurd (no_refusal request _ _ why e)
    ]

pub refusal_from : (state : State) (moment : ℕ) (request : Request) (why : Refusal) → refused moment request state ≡ Some why → (step state moment request).reply ≡ answered (answer.Refused why)
unfolding step outcome
refusal_from state moment request why e = ap (λ o. (outcome moment request state o).reply) e

pub refused_first : (state : State) (moment : ℕ) (request : Request) (why : Refusal) → ((step state moment request).reply ≡ answered (answer.Refused why)) ↔ (refused moment request state ≡ Some why)
refused_first state moment request why = (refusal_is state moment request why, refusal_from state moment request why)

pub refused_nothing : (state : State) (moment : ℕ) (request : Request) (why : Refusal) → (step state moment request).reply ≡ answered (answer.Refused why) → ChangesNothing state moment request
unfolding step outcome list_steps steps_unless
refused_nothing state moment request why e =
    let is = refusal_is state moment request why e in
    record {
      state_stays = ap (λ o. (outcome moment request state o).state) is;
      none_evicted = ap (λ o. (outcome moment request state o).groups) is;
      no_list_step = ap (steps_unless moment request state) is;
    }

pub never_for_memory : (state : State) (moment : ℕ) (request : Request) → (step state moment request).reply ≢ answered (answer.Refused refusal.Memory)
never_for_memory state moment request e = never_memory state moment request (refusal_is state moment request refusal.Memory e)

pub never_for_no_handle : (state : State) (moment : ℕ) (request : Request) → (step state moment request).reply ≢ answered (answer.Refused refusal.NoHandle)
never_for_no_handle state moment request e = never_no_handle state moment request (refusal_is state moment request refusal.NoHandle e)

-- a refused command, whole
pub refused_step : (state : State) (moment : ℕ) (request : Request) (why : Refusal) → refused moment request state ≡ Some why → step state moment request ≡ record { groups = []; reply = answered (answer.Refused why); state = state }
unfolding step outcome
refused_step state moment request why e = ap (outcome moment request state) e

-- a command that is not refused, whole
pub done_step : (state : State) (moment : ℕ) (request : Request) → refused moment request state ≡ None →
    step state moment request ≡ record { groups = evicted moment request state; reply = reply request (evicted moment request state) state; state = effect moment request (without (evicted moment request state) state) }
unfolding step outcome
done_step state moment request e = ap (outcome moment request state) e
