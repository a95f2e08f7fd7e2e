-- A Create, from the making of its object.
use Rattle.std.proofs.Common.{◌≡◌, ℕ, ◌<◌, ◌^◌, List, None, sym, ap, subst, ◌∙◌, arith}
use Rattle.std.specs.Option.{ForSome}
use Rattle.spec_image.specs.Image.{Image}
use Rattle.spec_image.specs.Told.{Passes, Told}
use Rattle.spec_image.proofs.Runs.{passes_weaker}
use Rattle.blk_model.specs.Effects.{created}
use Rattle.blk_model.specs.Holding.{rest}
use Rattle.blk_model.specs.Items.{IsBytes}
use Rattle.blk_model.specs.Refusals.{evicted, refused}
use Rattle.blk_model.specs.Reply.{answer_of}
use Rattle.blk_model.specs.Request.{to_create}
use Rattle.blk_model.specs.State.{Bounds, State}
use Rattle.blk_model.specs.Step.{reply, step}
use Rattle.blk_model.specs.declared.Answer.TheVariants as answer
use Rattle.law_state.specs.Changes.{Finds}
use Rattle.law_state.specs.Commands.{IsDone, MayStop}
use Rattle.law_state.specs.CommandStates.{with_room}
use Rattle.law_state.proofs.CommandEnding.{creates-end, passed}
use Rattle.law_state.proofs.Orders.{left-stops, room-left}
use Rattle.blk_object.specs.Making.{CanHaveNew}
use Rattle.blk_cache.specs.declared.cache.Cache.{Cache}
use Rattle.blk_cache.specs.CacheKeeping.{HoldsState}
use Rattle.blk_cache.specs.Creating.{HasRoomFor, IsReadyForSome, IsReadyToCreate, KeepsWithRoom}
use Rattle.blk_cache.proofs.CreateRoom.{have-room, limits-without}

create-answer : (moment handle : ℕ) (key : List ℕ) (s : State) → refused moment (to_create handle key) s ≡ None → answer_of (step s moment (to_create handle key)).reply ≡ answer.Done
unfolding reply
create-answer moment handle key s goes = ap answer_of (passed s moment (to_create handle key) goes).1

module _ (cache : Cache) (handle : ℕ) (key : List ℕ) (small : handle < 2 ^ 16) (bytes : IsBytes key) where
  -- there is space for the object
  pub ready-room : (state : State) (moment : ℕ) (image : Image) → IsReadyToCreate cache state moment handle key image → HasRoomFor (with_room state moment (to_create handle key)) handle key
  ready-room state moment image ready =
      let few = cache.limits.few_items in
      let limit = ap (λ (l : Bounds). l.max_items) (sym (limits-without state (evicted moment (to_create handle key) state)) ∙ ready.kept.limits) in
      have-room state moment handle key ready.valid (omega (arith, few, limit)) (small, bytes) ready.passes

  pub ready-keeps : (image : Image) → IsReadyForSome cache handle key image → KeepsWithRoom cache handle key image
  ready-keeps image one =
      let room = ready-room one.state one.moment image one.ready in
      record { state = with_room one.state one.moment (to_create handle key); kept = one.ready.kept; can = room.can }

  module _ (old now : Told) (moment : ℕ) where
    pub ready-stops : ForSome old.files (λ from. (state : State) → HoldsState cache state from → CanHaveNew state handle key → Passes old now (Finds (rest state)))
        → ForSome old.files (λ from. (state : State) → IsReadyToCreate cache state moment handle key from → Passes old now (MayStop state moment (to_create handle key)))
    ready-stops stops from there state ready =
        let room = ready-room state moment from ready in
        let may : (i : Image) → Finds (rest (with_room state moment (to_create handle key))) i → MayStop state moment (to_create handle key) i
        = λ i finds. left-stops state moment (to_create handle key) (rest (with_room state moment (to_create handle key))) i (room-left state moment (to_create handle key) ready.valid ready.passes) finds in
        passes_weaker (stops from there (with_room state moment (to_create handle key)) ready.kept room.can) may may

    pub ready-does : (new : Cache) → ForSome old.files (λ from. (state : State) → HoldsState cache state from → HasRoomFor state handle key → ForSome now.files (HoldsState new (created handle key state)))
        → ForSome old.files (λ from. (state : State) → IsReadyToCreate cache state moment handle key from → IsDone (HoldsState new) now moment (to_create handle key) answer.Done state)
    ready-does new made from there state ready = record {
      answered = sym (create-answer moment handle key state ready.passes);
      kept = λ i is. subst (λ (s : State). HoldsState new s i) (sym (creates-end state moment handle key ready.passes)) (made from there (with_room state moment (to_create handle key)) ready.kept (ready-room state moment from ready) i is);
    }
