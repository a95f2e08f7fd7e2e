-- Commands of one call, by what holds at each word of that call.
use Rattle.std.proofs.Common.{◌≡◌, ℕ, Option, List, [], ◌∷◌, refl, ap, sym, ◌∙◌, subst, Bool, true, false, cond, None}
use Rattle.std.specs.Prelude.{◌⊎◌, ◌==◌, unwrap_or, slice_set, length, ◌++◌}
use Rattle.blk_model.specs.Effects.{new_object, object_of, used_all}
use Rattle.blk_model.specs.Holding.{rest}
use Rattle.blk_model.specs.Items.{Item, main}
use Rattle.blk_model.specs.ListSteps.{dooms, uses_of}
use Rattle.blk_model.specs.Refusals.{evicted, refusals, refused}
use Rattle.blk_model.specs.Request.{to_close, to_flush, to_open, to_read}
use Rattle.blk_model.specs.Room.{without}
use Rattle.blk_model.specs.State.{IsValidState, Object, State, object_at}
use Rattle.blk_model.proofs.Steps.{none_comes, step_valid}
use Rattle.law_folder.specs.CommandLaws.{marked}
use Rattle.law_folder.proofs.commands.Opening.{first-listed}
use Rattle.law_folder.proofs.states.Settling.{main-listed}
use Rattle.spec_folder.specs.Layout.{is_listed}
use Rattle.spec_folder.specs.Sound.{words_of}
use Rattle.law_state.specs.Changes.{Finds}
use Rattle.law_state.specs.CommandStates.{in_order, with_room}
use Rattle.law_state.specs.GoneLaws.{layout_without}
use Rattle.law_state.specs.Keeping.{Keeps}
use Rattle.law_state.specs.OneCallLaws.{ClosesEndByMark, ClosesMayStop, ClosesOfDoomedUnlink, DoomedReadsEnd, FlushesEndByMark, FlushesMayStop, Names, OpensEndByTouch, ReadsEndByTouch, ReadsMayStop, UnsettlingMarksMayStop}
use Rattle.law_state.proofs.CommandEnding.{closes-doomed, uses-end}
use Rattle.law_state.proofs.Gone.{gone-uncounted}
use Rattle.law_state.proofs.MarkedStates.{marked-valid}
use Rattle.law_state.proofs.NextStates.{closes-next, flushes-next, opens-next, uses-next}
use Rattle.law_state.proofs.Dirtying.{marking-counts, marking-finds}
use Rattle.law_state.proofs.Touched.{touch-counts}
use Rattle.law_state.proofs.Unsettling.{room-valid}
use Rattle.law_state.proofs.WordStops.{cleaning-stops, settling-stops, unsettling-stops, uses-stop}

-- ---- Open

key-listed : (state : State) (moment handle : ℕ) (key : List ℕ) → IsValidState state → refused moment (to_open handle key) state ≡ None → is_listed state (main key) ≡ true
unfolding refusals
key-listed state moment handle key valid passes = let p = none_comes (refusals moment (to_open handle key) state) passes in first-listed state (main key) valid p.1.1.1.0

pub opens-end-by-touch : OpensEndByTouch
opens-end-by-touch state layout unlinked from image moment handle key k can passes done =
    opens-next state moment handle key k.entries.valid can passes layout unlinked image (touch-counts state layout unlinked from image (main key) k (key-listed state moment handle key k.entries.valid passes) done)

-- ---- Read

module _ (state : State) (handle number : ℕ) (object : Object) (is : Names state handle number object) where
  named-is : object_of state handle ≡ object
  named-is = ap (λ (o : Option ℕ). unwrap_or (object_at state (unwrap_or o (length state.objects))) (new_object [])) is.names ∙ ap (λ (o : Option Object). unwrap_or o (new_object [])) is.here

  read-uses : (stream offset count : ℕ) → object.live ≡ true → uses_of (to_read handle stream offset count) state ≡ main object.key ∷ []
  unfolding uses_of
  read-uses stream offset count live = ap (λ (o : Object). cond o.live (main o.key ∷ []) []) named-is ∙ ap (λ (b : Bool). cond b (main object.key ∷ []) []) live

  unread : (stream offset count : ℕ) → object.live ≡ false → uses_of (to_read handle stream offset count) state ≡ []
  unfolding uses_of
  unread stream offset count dead = ap (λ (o : Object). cond o.live (main o.key ∷ []) []) named-is ∙ ap (λ (b : Bool). cond b (main object.key ∷ []) []) dead

pub reads-stop : ReadsMayStop
unfolding evicted without dooms
reads-stop state layout unlinked from image moment handle stream offset count number object k passes is live touched =
    uses-stop state moment (to_read handle stream offset count) [] [] (main object.key) layout unlinked from image k.valid passes refl (read-uses state handle number object is stream offset count live) k (main-listed state k.valid number object true is.here live) touched

pub reads-end-by-touch : ReadsEndByTouch
reads-end-by-touch state layout unlinked from image moment handle stream offset count number object k passes is live done =
    uses-next state moment (to_read handle stream offset count) tt passes layout unlinked image
    (subst (λ (items : List Item). Keeps (in_order (used_all items state.uses) state) layout unlinked image) (sym (read-uses state handle number object is stream offset count live))
    (touch-counts state layout unlinked from image (main object.key) k (main-listed state k.entries.valid number object true is.here live) done))

pub doomed-reads-end : DoomedReadsEnd
doomed-reads-end state moment handle stream offset count number object passes is dead =
    uses-end state moment (to_read handle stream offset count) tt passes ∙ ap (λ (items : List Item). in_order (used_all items state.uses) state) (unread state handle number object is stream offset count dead)

-- ---- Close

pub closes-stop-by-mark : ClosesMayStop
closes-stop-by-mark state layout unlinked from image moment handle number object loaded k can is at marking =
    settling-stops state moment handle number object image k.valid can is
    (marking-finds state layout unlinked from image number object loaded 0 k (record { here = is.here; live = is.live; at = at }) (marked-valid state number object true k.valid is.here is.live (λ e. absurd (let c : true ≡ false = e in cc))) marking)

pub closes-end-by-mark : ClosesEndByMark
closes-end-by-mark state layout unlinked from image moment handle number object loaded k can is at done =
    closes-next state moment handle number object k.entries.valid can is _ unlinked image
    (marking-counts state layout unlinked from image number object loaded 0 k (record { here = is.here; live = is.live; at = at }) (marked-valid state number object true k.entries.valid is.here is.live (λ e. absurd (let c : true ≡ false = e in cc)))
    (λ e. absurd (let c : true ≡ false = e in cc)) done)

pub closes-of-doomed-unlink : ClosesOfDoomedUnlink
closes-of-doomed-unlink state layout unlinked image moment handle number object was k can names last at =
    let ends = closes-doomed state moment handle number object k.entries.valid names at.here at.dead last in
    subst (λ (m : State). Keeps m (layout_without layout (layout.place_of_doomed number)) (words_of was ++ unlinked) image) (sym ends)
    (gone-uncounted state layout unlinked image number object was (slice_set state.names handle None) k at (subst IsValidState ends (step_valid state moment (to_close handle) k.entries.valid can)))

-- ---- Flush

pub flushes-stop-by-mark : FlushesMayStop
flushes-stop-by-mark state layout unlinked from image moment handle number object loaded k can is at marking =
    cleaning-stops state moment handle number object image k.valid can is
    (marking-finds state layout unlinked from image number object loaded 0 k (record { here = is.here; live = is.live; at = at }) (marked-valid state number object true k.valid is.here is.live (λ e. absurd (let c : true ≡ false = e in cc))) marking)

pub flushes-end-by-mark : FlushesEndByMark
flushes-end-by-mark state layout unlinked from image moment handle number object loaded k is at done =
    flushes-next state moment handle number object k.entries.valid is _ unlinked image
    (marking-counts state layout unlinked from image number object loaded 0 k (record { here = is.here; live = is.live; at = at }) (marked-valid state number object true k.entries.valid is.here is.live (λ e. absurd (let c : true ≡ false = e in cc)))
    (λ e. absurd (let c : true ≡ false = e in cc)) done)

-- ---- an object becomes dirty

pub unsettling-stops-by-mark : UnsettlingMarksMayStop
unsettling-stops-by-mark state layout unlinked from image moment request number mark object loaded valid is k named at some marking =
    let base = with_room state moment request in
    unsettling-stops state moment request number object image valid is
    (subst (λ (b : Bool). Finds (rest base) image ⊎ Finds (rest (marked base number object b)) image) some
    (marking-finds base layout unlinked from image number object loaded mark k (record { here = is.affected.here; live = is.affected.live; at = at })
    (marked-valid base number object (mark == 0) (room-valid state moment request valid) is.affected.here is.affected.live (λ e. named)) marking))
