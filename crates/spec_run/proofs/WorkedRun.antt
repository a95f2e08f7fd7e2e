-- A whole run on a folder of one entry, from its bytes: the folder is opened, one command is done, and the folder is closed. So the laws on runs speak of
-- something.
use Rattle.std.proofs.Common.{◌≡◌, ◌<◌, ◌%◌, ℕ, zero, suc, Bool, true, false, if◌then◌else◌, List, [], ◌∷◌, length, Option, None, Some, inr, refl, sym, ◌∙◌, ap, subst, arith, map}
use Rattle.spec_image.specs.Bytes.{spliced, word_bytes, zeros}
use Rattle.spec_image.specs.Footprint.{SameOutside, one_word}
use Rattle.spec_image.specs.Image.{Image, Index, byte, with_file}
use Rattle.spec_image.specs.Notes.{AreTrue, AtEachPrefix}
use Rattle.spec_image.specs.Steps.{TrailStep, Word, SetLength, Note, applied, after, with_word, written_over}
use Rattle.spec_image.specs.Told.{Told}
use Rattle.spec_image.proofs.Footprints.{outside_write}
use Rattle.spec_image.proofs.Images.{with_file-twice}
use Rattle.spec_image.proofs.Runs.{some_inj}
use Rattle.spec_format.specs.BlockFiles.{IsWellFormed, is_among}
use Rattle.spec_format.specs.Headers.{header_length, this_id_of}
use Rattle.spec_format.specs.Session.{session_after}
use Rattle.spec_format.proofs.Finished.{formed-kept, well_formed-finished}
use Rattle.blk_model.specs.Effects.{effect}
use Rattle.blk_model.specs.Refusals.{evicted, refusals}
use Rattle.blk_model.specs.Request.{to_total}
use Rattle.blk_model.specs.Room.{without}
use Rattle.blk_model.specs.State.{State}
use Rattle.blk_model.specs.Step.{outcome, step}
use Rattle.blk_model.specs.Stops.{StopOutcome}
use Rattle.blk_model.proofs.StopRests.{rest_before}
use Rattle.spec_folder.specs.Audit.{kept_by}
use Rattle.spec_folder.specs.Found.{HoldsStill, completed, found, kept, row_of_loaded}
use Rattle.spec_folder.specs.Loads.{held_rule}
use Rattle.spec_folder.specs.StandsFor.{StandsFor}
use Rattle.spec_folder.specs.View.{View}
use Rattle.law_folder.specs.IndexWrites.{checked_words, shown_words}
use Rattle.law_folder.proofs.examples.OneEntry as one
use Rattle.law_folder.proofs.examples.WholeFolder.{whole_folder, whole-is_well_formed}
use Rattle.law_folder.proofs.updates.IndexWords.{others-hidden, others-unchecked}
use Rattle.law_state.specs.Commands.{MayStop}
use Rattle.law_state.proofs.Examples.{numbered, opened, whole-keeps, whole-magic}
use Rattle.law_state.proofs.Keeping.{kept-held, kept-stands}
use Rattle.spec_run.specs.Moments.{IsStopped}
use Rattle.spec_run.specs.Opening.{Opens, close_mark, open_mark, opened_id}
use Rattle.spec_run.specs.Progress.{IsWholeRun, NotesCommand, Progress}
use Rattle.spec_run.specs.Run.{Stamped, state_after}
use Rattle.spec_run.proofs.Composing.{ended, one_more}
use Rattle.spec_run.proofs.Openings.{begun}

-- Words of the index.

-- a word of the index's header is neither checked nor shown
record IsHiddenWord (place : ℕ) : Type 0 where
  aligned : place % 4 ≡ 0
  inside : place < header_length
  unshown : is_among shown_words place ≡ false
  unchecked : is_among checked_words place ≡ false

-- a write of a word of the index that shows nothing keeps the recovered contents of a well-formed folder
word_hidden : (place : ℕ) (from image : Image) → IsHiddenWord place → IsWellFormed from → SameOutside (one_word Index place) from image → HoldsStill from image
unfolding found kept
word_hidden place from image hidden formed outside =
    let now : IsWellFormed image = formed-kept from image (others-unchecked from image place hidden.aligned hidden.unchecked outside) formed in
    record {
      usable = λ usable. inr now;
      formed = λ formed. now;
      found_same = rw (well_formed-finished image now, well_formed-finished from formed)
          (ap (λ (view : View). map row_of_loaded (kept_by held_rule (completed view))) (others-hidden from image place hidden.aligned hidden.inside hidden.unshown outside));
    }

-- so do those of the number of the session and the crash word
number_is_hidden : IsHiddenWord 20
number_is_hidden = record { aligned = refl; inside = omega arith; unshown = refl; unchecked = refl }

crash_is_hidden : IsHiddenWord 32
crash_is_hidden = record { aligned = refl; inside = omega arith; unshown = refl; unchecked = refl }

held_self : (image : Image) → HoldsStill image image
held_self image = record { usable = λ usable. usable; formed = λ formed. formed; found_same = refl }

held_then : (from between image : Image) → HoldsStill from between → HoldsStill between image → HoldsStill from image
held_then from between image first second = record {
  usable = λ usable. second.usable (first.usable usable);
  formed = λ formed. second.formed (first.formed formed);
  found_same = second.found_same ∙ first.found_same;
}

-- a write over bytes that were just written, of as many
spliced_twice : (place : ℕ) (one other old : List ℕ) → length one ≡ length other → spliced place other (spliced place one old) ≡ spliced place other old
unfolding spliced
spliced_twice place one other [] same = refl
spliced_twice zero [] [] (x ∷ old) same = refl
spliced_twice zero [] (z ∷ other) (x ∷ old) same = absurd (omega (arith, same))
spliced_twice zero (y ∷ one) [] (x ∷ old) same = absurd (omega (arith, same))
spliced_twice zero (y ∷ one) (z ∷ other) (x ∷ old) same = ap (λ (l : List ℕ). z ∷ l) (spliced_twice zero one other old (omega (arith, same)))
spliced_twice (suc place) one other (x ∷ old) same = ap (λ (l : List ℕ). x ∷ l) (spliced_twice place one other old same)

written_twice : (place : ℕ) (one other : List ℕ) (old : Option (List ℕ)) → length one ≡ length other
    → written_over place other (written_over place one old) ≡ written_over place other old
written_twice place one other None same = refl
written_twice place one other (Some old) same = ap (λ (l : List ℕ). Some l) (spliced_twice place one other old same)

-- The folder.

-- the folder has one entry, its crash word is 0, and its last session was the sixth
abbrev from : Image
from = numbered whole_folder 6

abbrev state : State
state = one.state true

from_formed : IsWellFormed from
from_formed = formed-kept whole_folder from (others-unchecked whole_folder from 20 refl refl (outside_write Index 20 (word_bytes 6) whole_folder)) whole-is_well_formed

-- the observable state of a folder after some steps
abbrev told_after : List TrailStep → Told
told_after steps = record { files = Some (after steps from); trail = Some (record { start = from; steps = steps }) }

-- The steps.

abbrev total : Stamped
total = record { moment = 60; request = to_total }

-- the write of the session's number
abbrev number_step : TrailStep
number_step = Word Index 20 (word_bytes 7)

-- the folder where the session is open
abbrev marked : Image
marked = after (number_step ∷ open_mark ∷ []) from

renumbered : applied number_step from ≡ numbered whole_folder 7
renumbered =
    let old : Option (List ℕ) = whole_folder Index in
    let first : Option (List ℕ) = written_over 20 (word_bytes 6) old in
    with_file-twice whole_folder Index first (written_over 20 (word_bytes 7) first)
    ∙ ap (λ (bytes : Option (List ℕ)). with_file whole_folder Index bytes) (written_twice 20 (word_bytes 6) (word_bytes 7) old refl)

marked_is : marked ≡ opened whole_folder 7
marked_is = ap (λ (i : Image). applied open_mark i) renumbered

marked_stands : StandsFor (opened whole_folder 7) state
marked_stands = kept-stands state (one.layout 0) (opened whole_folder 7) whole-keeps whole-magic

marked_formed : IsWellFormed marked
marked_formed = subst IsWellFormed (sym marked_is) marked_stands.well_formed

-- the number before the opening, and the one that it gives
number_before : this_id_of (byte from Index) ≡ 6
unfolding whole_folder zeros with_word spliced
number_before = refl

number_marked : this_id_of (byte (opened whole_folder 7) Index) ≡ 7
unfolding whole_folder zeros with_word spliced
number_marked = refl

number_opened : opened_id from ≡ 7
number_opened =
    ap (λ (b : Bool). if b then 1 else session_after (this_id_of (byte from Index))) (well_formed-finished from from_formed)
    ∙ ap session_after number_before

opens : Opens from state (told_after []) (told_after (number_step ∷ open_mark ∷ []))
opens =
    let numbered_held : HoldsStill from (applied number_step from) =
    word_hidden 20 from (applied number_step from) number_is_hidden from_formed (outside_write Index 20 (word_bytes 7) from) in
    let marked_held : HoldsStill (applied number_step from) marked =
    word_hidden 32 (applied number_step from) marked crash_is_hidden (numbered_held.formed from_formed)
    (outside_write Index 32 (word_bytes 1) (applied number_step from)) in
    record {
      before = number_step ∷ [];
      unnoted = tt;
      unmarked = refl;
      applies = record { files = refl; trail = refl };
      along = (held_self from, (numbered_held, held_then from (applied number_step from) marked numbered_held marked_held));
      stands = λ image is. subst (λ (i : Image). StandsFor i state) (sym marked_is ∙ some_inj is) marked_stands;
      id = λ image is. subst (λ (i : Image). this_id_of (byte i Index) ≡ opened_id from) (sym marked_is ∙ some_inj is) (number_marked ∙ sym number_opened);
    }

total_stays : (step state 60 to_total).state ≡ state
unfolding step outcome refusals evicted without effect
total_stays = refl

total_noted : NotesCommand (told_after (number_step ∷ open_mark ∷ [])) (told_after (number_step ∷ open_mark ∷ Note 1 ∷ [])) total 1 state
total_noted = record {
  noted = record {
    steps = [];
    quiet = tt;
    applies = record { files = refl; trail = refl };
    stops = λ image is. subst (λ (i : Image). MayStop state 60 to_total i) (sym marked_is ∙ some_inj is) (record {
      sound = whole-keeps.entries.sound;
      left = subst (StopOutcome state 60 to_total (step state 60 to_total).state) (sym (kept-held state (one.layout 0) [] (opened whole_folder 7) whole-keeps.entries)) (rest_before state 60 to_total marked_stands.shows.valid);
    });
    stands = λ image is. subst (λ (i : Image). StandsFor i (step state 60 to_total).state) (sym marked_is ∙ some_inj is) (subst (λ (s : State). StandsFor (opened whole_folder 7) s) (sym total_stays) marked_stands);
  };
  alone = λ refusal. record { files = refl; trail = refl };
}

-- the whole run: the number of the session, the mark, the note of the command, and the crash word back at 0
pub worked_run : IsWholeRun from state (total ∷ []) (told_after []) (told_after (number_step ∷ open_mark ∷ Note 1 ∷ close_mark ∷ []))
unfolding state_after
worked_run =
    let start : Progress from state [] (told_after []) (told_after (number_step ∷ open_mark ∷ [])) =
    begun from state (told_after []) (told_after (number_step ∷ open_mark ∷ [])) refl (inr from_formed) opens in
    let done : Progress from state (total ∷ []) (told_after []) (told_after (number_step ∷ open_mark ∷ Note 1 ∷ [])) =
    one_more from state [] (told_after []) (told_after (number_step ∷ open_mark ∷ [])) (told_after (number_step ∷ open_mark ∷ Note 1 ∷ [])) total refl start total_noted in
    let closed : HoldsStill marked (applied close_mark marked) =
    word_hidden 32 marked (applied close_mark marked) crash_is_hidden marked_formed (outside_write Index 32 (word_bytes 0) marked) in
    ended from state (total ∷ []) (told_after []) (told_after (number_step ∷ open_mark ∷ Note 1 ∷ []))
    (told_after (number_step ∷ open_mark ∷ Note 1 ∷ close_mark ∷ [])) refl done
    (record { made = close_mark ∷ []; left = []; split = refl; applies = record { files = refl; trail = refl } })
    (λ image is other at. subst (λ (i : Image). HoldsStill i other) (some_inj is) (subst (HoldsStill marked) (some_inj at) closed))

-- What is refused.

-- a note before the opening has ended
early_note : (image : Image) (opened : State) (commands : List Stamped) → AtEachPrefix (IsStopped image opened commands) image (Note 1 ∷ open_mark ∷ []) → ⊥
early_note image opened commands stops = clash ((stops (Note 1 ∷ []) (open_mark ∷ []) refl).unnoted refl)
  where
    clash : ◌≡◌ {A = ℕ} 1 0 → ⊥
    clash c = cc

-- a note that passes over a number
later_note : AreTrue 0 (open_mark ∷ Note 2 ∷ []) → ⊥
later_note notes = clash notes.0
  where
    clash : ◌≡◌ {A = ℕ} 2 1 → ⊥
    clash c = cc

-- a step after the last command that doesn't end the session
idle_step : (image : Image) (opened : State) → AtEachPrefix (IsStopped image opened []) image (open_mark ∷ SetLength Index 0 ∷ []) → ⊥
idle_step image opened stops = clash ((stops (open_mark ∷ SetLength Index 0 ∷ []) [] refl).refused (open_mark ∷ []) (SetLength Index 0) refl refl)
  where
    clash : SetLength Index 0 ≡ close_mark → ⊥
    clash c = cc

-- a session that ends before its last command
early_end : (image : Image) (opened : State) (command : Stamped) → AtEachPrefix (IsStopped image opened (command ∷ [])) image (open_mark ∷ close_mark ∷ []) → ⊥
early_end image opened command stops = clash ((stops (open_mark ∷ close_mark ∷ []) [] refl).refused (open_mark ∷ []) close_mark refl refl).goes_on
  where
    clash : true ≡ false → ⊥
    clash c = cc

-- a session that ends twice
second_end : (image : Image) (opened : State) → AtEachPrefix (IsStopped image opened []) image (open_mark ∷ close_mark ∷ close_mark ∷ []) → ⊥
second_end image opened stops = clash ((stops (open_mark ∷ close_mark ∷ close_mark ∷ []) [] refl).last (open_mark ∷ close_mark ∷ []) close_mark refl refl)
  where
    clash : true ≡ false → ⊥
    clash c = cc

-- a session that has another number after the mark
other_number : (image : Image) (opened : State) → AtEachPrefix (IsStopped image opened []) image (open_mark ∷ [])
    → (this_id_of (byte (after (open_mark ∷ []) image) Index) ≡ opened_id image → ⊥) → ⊥
other_number image opened stops other = other ((stops (open_mark ∷ []) [] refl).session refl refl).id
