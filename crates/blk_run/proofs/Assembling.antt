-- How a session ended, by what its parts say: its opening, its iterations, its closings and its end.
use Rattle.std.proofs.Common.{ℕ, zero, suc, ◌+◌, ◌^◌, ◌<◌, ◌≡◌, ◌⊎◌, true, false, inl, inr, List, [], ◌∷◌, ◌++◌, length, take, Option, Some, Ok, Err, refl, sym, ◌∙◌, ap, subst, arith, append_assoc}
use Rattle.std.specs.Option.{option_map, ForSome}
use Rattle.std.proofs.lemmas.List.{append-nil, length-append, take-append-le}
use Rattle.spec_image.specs.Image.{Image}
use Rattle.spec_image.specs.Notes.{notes_in}
use Rattle.spec_image.specs.Steps.{after}
use Rattle.spec_image.specs.Told.{AppliesPrefix, Told, PassesAny}
use Rattle.spec_image.proofs.Quiet.{any_end, any_weaker}
use Rattle.blk_model.specs.Holding.{open_state, rest}
use Rattle.blk_model.specs.State.{Bounds, State}
use Rattle.spec_format.specs.BlockFiles.{IsUsable}
use Rattle.spec_folder.specs.Found.{HoldsStill, found}
use Rattle.spec_folder.specs.StandsFor.{StandsFor}
use Rattle.law_folder.proofs.states.StoodFor.{stood-found}
use Rattle.blk_io.specs.declared.fault.Fault.{Fault}
use Rattle.blk_io.specs.declared.fault.Fault.TheVariants as fault
use Rattle.blk_io.specs.Streams.{Appends, Readings, later_of}
use Rattle.spec_run.specs.Inputs.{by_lines}
use Rattle.spec_run.specs.Lines.{lines, whole_lines}
use Rattle.spec_run.specs.Opening.{FailsToOpen, Opens, close_mark, open_mark}
use Rattle.spec_run.specs.Progress.{IsWholeRun, StopsAfter, StopsPast}
use Rattle.spec_run.specs.Replies.{PrintsBeforeLast, PrintsNoMore}
use Rattle.spec_run.specs.Run.{Run, Stamped, Turn, bound_names, clock_after, closings, commands, commands_of, cut_after, readings_in, readings_of, refuse, run_of, state_after, text_of, turns}
use Rattle.spec_run.specs.Script.{Script, session_script}
use Rattle.spec_run.proofs.Composing.{ended, some_after}
use Rattle.spec_run.proofs.Openings.{begun, failed}
use Rattle.spec_run.proofs.Replies.{no_less_longer, no_more_longer, no_more_whole}
use Rattle.spec_run.proofs.Turns.{clock_after-more, commands_of-append, more_turns, text_of-append}
use Rattle.blk_cache.specs.Opening.{EndsSession}
use Rattle.blk_run.specs.declared.ending.Status.TheVariants as status
use Rattle.blk_cache.specs.declared.fault.StepFault.TheVariants as step_fault
use Rattle.blk_run.specs.declared.input.InputEnd.TheVariants as end
use Rattle.blk_run.specs.Closings.{ClosesAll}
use Rattle.blk_run.specs.Inputs.{IsPastBudget, IsTaken, IsTakenUpTo, PlaysInput}
use Rattle.blk_run.specs.Playing.{AreMade, AreMadeTo, AreStopped, Around, PlaysPart, SoFar, StandsAt, state_now, with_more}
use Rattle.blk_run.specs.Ending.{EndsRun}
use Rattle.blk_run.specs.Session.{EndsAs, FixedRuns, IsEnded, IsUnopened, Outside, Runs, StopsByNotes, all_made, session_run, taken, unprinted}

-- The end, after the commands of a run.

module _ (far : SoFar) (keeps : State → Image → Type 0) (stands_for : (state : State) (image : Image) → keeps state image → StandsFor image state)
    (notes left : ℕ) (told new : Told) (clock_old clock_new : Option Readings) (closes : ClosesAll (Ok tt) far keeps notes left told clock_old clock_new)
    (part : AppliesPrefix told new (close_mark ∷ [])) (passes : ForSome told.files (λ image. (state : State) → keeps state image → PassesAny told new (HoldsStill image))) where
  abbrev stands : StandsAt (with_more far closes.commands) keeps notes left told
  stands = closes.closes.stands

  held : PassesAny told new (HoldsStill stands.image)
  held = passes stands.image stands.here (state_now (with_more far closes.commands)) stands.kept

  some_same : {x y : Image} → Some x ≡ Some y → x ≡ y
  some_same e = cc

  whole : IsWholeRun far.from far.opened (far.done ++ closes.commands) far.start new
  whole =
      ended far.from far.opened (far.done ++ closes.commands) far.start told new stands.began stands.progress part
      (λ image here other is. subst (λ (i : Image). HoldsStill i other) (some_same (sym stands.here ∙ here)) (any_end held other is))

  -- the folder was closed
  pub ends_closed : ForSome told.files (λ image. (state : State) → keeps state image → ForSome new.files EndsSession) → EndsRun (Ok tt) far new clock_old clock_new
  ends_closed ends = record {
    commands = closes.commands;
    are = closes.are;
    closes = record {
      whole = whole;
      holds = λ image is. (any_end held image is).found_same ∙ stood-found stands.image (state_now (with_more far closes.commands)) (stands_for (state_now (with_more far closes.commands)) stands.image stands.kept);
      ends = ends stands.image stands.here (state_now (with_more far closes.commands)) stands.kept;
      read = closes.closes.read;
    };
  }

  -- the folder failed where it was to be closed
  pub ends_unfinished : EndsRun (Err fault.Device) far new clock_old clock_new
  ends_unfinished =
      let noted = whole.noted in
      let all = length-append far.done closes.commands in
      record { commands = closes.commands; are = closes.are; closes = record { stops = whole.stops; count = omega (arith, noted, all) } }

-- a Close failed
pub ends_unclosed : (why : Fault) (far : SoFar) (keeps : State → Image → Type 0) (notes left : ℕ) (new : Told) (clock_old clock_new : Option Readings) → ClosesAll (Err why) far keeps notes left new clock_old clock_new → EndsRun (Err why) far new clock_old clock_new
ends_unclosed fault.Device far keeps notes left new clock_old clock_new closes = record { commands = closes.commands; are = closes.are; closes = closes.closes }
ends_unclosed (fault.Damaged damage) far keeps notes left new clock_old clock_new closes = absurd closes.closes

-- Lists and texts.

take_next : {A : Type 0} (n : ℕ) (l : List A) → take n (take (suc n) l) ≡ take n l
take_next zero l = refl
take_next (suc n) [] = refl
take_next {A} (suc n) (x ∷ l) = ap (λ (t : List A). x ∷ t) (take_next n l)

take_short : {A : Type 0} (n : ℕ) (l : List A) → take n (take (n + 1) l) ≡ take n l
take_short n l = let more : n + 1 ≡ suc n = omega arith in ap (λ (m : ℕ). take n (take m l)) more ∙ take_next n l

within_take : {A : Type 0} (n : ℕ) (l : List A) → n < length l → n < length (take (suc n) l)
within_take n [] below = absurd (omega (arith, below))
within_take zero (x ∷ l) below = omega arith
within_take (suc n) (x ∷ l) below = let more = within_take n l (omega (arith, below)) in omega (arith, more)

within_short : {A : Type 0} (n : ℕ) (l : List A) → n < length l → n < length (take (n + 1) l)
within_short n l below = let more : suc n ≡ n + 1 = omega arith in subst (λ (m : ℕ). n < length (take m l)) more (within_take n l below)

appends_whole : (old new : Option (List ℕ)) (text : List ℕ) → new ≡ option_map (λ (w : List ℕ). w ++ text) old → Appends old new text
appends_whole old new text printed = record { front = text; rest = []; split = sym (append-nil text); written = printed }

-- a prefix of a text is one of a longer text
appends_longer : (old new : Option (List ℕ)) (text more all : List ℕ) → all ≡ text ++ more → Appends old new text → Appends old new all
appends_longer old new text more all same printed = record {
  front = printed.front;
  rest = printed.rest ++ more;
  split = same ∙ ap (λ (t : List ℕ). t ++ more) printed.split ∙ append_assoc printed.front printed.rest more;
  written = printed.written;
}

-- Runs.

-- the commands of a run are those of its iterations and then its closings
commands_are : (opened : State) (clock : Readings) (all made : List Turn) (closed : List Stamped) → all ≡ made → closed ≡ closings (bound_names (state_after opened (commands_of made))) (clock_after clock (readings_of made))
    → commands (record { opened = opened; clock = clock; turns = all }) ≡ commands_of made ++ closed
unfolding commands
commands_are opened clock all made closed same are =
    ap (λ (l : List Turn). commands_of l ++ closings (bound_names (state_after opened (commands_of l))) (clock_after clock (readings_of l))) same
    ∙ ap (λ (l : List Stamped). commands_of made ++ l) (sym are)

-- and begin with those of the iterations that were made
commands_begin : (opened : State) (clock : Readings) (all made later : List Turn) → all ≡ made ++ later → (more : List Stamped) × (commands (record { opened = opened; clock = clock; turns = all }) ≡ commands_of made ++ more)
unfolding commands
commands_begin opened clock all made later same =
    let closed : List Stamped = closings (bound_names (state_after opened (commands_of all))) (clock_after clock (readings_of all)) in (
      commands_of later ++ closed,
      ap (λ (l : List Turn). commands_of l ++ closed) same ∙ ap (λ (l : List Stamped). l ++ closed) (commands_of-append made later) ∙ append_assoc (commands_of made) (commands_of later) closed,
    )

-- the iterations of some lines come first
turns_first : (texts more all : List (List ℕ)) (opened : State) (clock : Readings) → all ≡ texts ++ more → (later : List Turn) × (turns (session_script 1 all) opened clock ≡ turns (session_script 1 texts) opened clock ++ later)
turns_first texts more all opened clock same =
    let made : List Turn = turns (session_script 1 texts) opened clock in (
      turns (session_script (1 + length texts) more) (state_after opened (commands_of made)) (clock_after clock (readings_of made)),
      ap (λ (l : List (List ℕ)). turns (session_script 1 l) opened clock) same ∙ (more_turns 1 texts more opened clock).all,
    )

-- A session on observed files, with the readings.

module _ (from : Image) (limits : Bounds) (readings : Readings) (old : Outside) (there : old.folder.files ≡ Some from) (clock : old.clock ≡ Some readings) where
  abbrev pub opened : State
  opened = open_state (found from) limits

  abbrev pub run_with : List Turn → Run
  run_with all = record { opened = opened; clock = later_of readings; turns = all }

  -- it is opened, and nothing is done yet
  abbrev pub begun_far : SoFar
  begun_far = record { start = old.folder; from = from; opened = opened; done = [] }

  -- the beginning, after the opening
  pub begins : (keeps : State → Image → Type 0) (told : Told) (notes left : ℕ) → IsUsable from → Opens from opened old.folder told → ForSome told.files (keeps opened) → notes ≡ 0 → left < 2 ^ 65 → StandsAt begun_far keeps notes left told
  unfolding state_after
  begins keeps told notes left usable opens kept none few =
      let image : Image = after (opens.before ++ open_mark ∷ []) from in
      let here : told.files ≡ Some image = some_after from there opens.applies in
      record {
        began = there;
        image = image;
        here = here;
        kept = kept image here;
        noted = none;
        few = omega (arith, few);
        progress = begun from opened old.folder told there usable opens;
      }

  -- the folder failed in the opening
  pub exit_unopened : (new : Outside) → IsUsable from → FailsToOpen from opened old.folder new.folder → new.written ≡ old.written → new.left ≡ old.left → IsUnopened limits from old new
  exit_unopened new usable fails printed left = record {
    unprinted = printed;
    unread = left;
    stops = λ commands. failed from opened commands old.folder new.folder there usable fails;
  }

  module _ (clock_first : Option Readings) (first_read : clock_first ≡ option_map later_of old.clock) where
    -- the clock after the opening
    clock_told : clock_first ≡ Some (later_of readings)
    clock_told = first_read ∙ ap (option_map later_of) clock

    clock_made : (made : List Turn) (clock_mid : Option Readings) → clock_mid ≡ option_map (λ r. clock_after r (readings_of made)) clock_first → clock_mid ≡ Some (clock_after (later_of readings) (readings_of made))
    clock_made made clock_mid read = read ∙ ap (option_map (λ r. clock_after r (readings_of made))) clock_told

    -- what holds at the end of a run of which these iterations were made
    module _ (all made : List Turn) (same : all ≡ made) (clock_mid : Option Readings) (read : clock_mid ≡ option_map (λ r. clock_after r (readings_of made)) clock_first) (new : Outside)
        (ends : EndsRun (Ok tt) (with_more begun_far (commands_of made)) new.folder clock_mid new.clock) where
      all_commands : commands (run_with all) ≡ commands_of made ++ ends.commands
      all_commands = commands_are opened (later_of readings) all made ends.commands same (ends.are (clock_after (later_of readings) (readings_of made)) (clock_made made clock_mid read))

      pub is_ended : IsEnded (run_with all) old new
      is_ended =
          let are = ends.are (clock_after (later_of readings) (readings_of made)) (clock_made made clock_mid read) in
          let count : readings_of made + length ends.commands ≡ readings_in (run_with all) =
          ap (λ (l : List Stamped). readings_of made + length l) are
          ∙ ap (λ (l : List Turn). readings_of l + length (closings (bound_names (state_after opened (commands_of l))) (clock_after (later_of readings) (readings_of l)))) (sym same) in
          record {
            holds = λ image is. ends.closes.holds image is ∙ ap (λ (l : List Stamped). rest (state_after opened l)) (sym all_commands);
            ends = ends.closes.ends;
            read =
                ends.closes.read ∙ ap (option_map (λ r. clock_after r (length ends.commands))) (clock_made made clock_mid read)
                ∙ ap (λ (r : Readings). Some r) (clock_after-more (later_of readings) (readings_of made) (length ends.commands) ∙ ap (clock_after (later_of readings)) count)
                ∙ ap (option_map (λ r. clock_after (later_of r) (readings_in (run_with all)))) (sym clock);
          }

      pub is_whole : IsWholeRun from opened (commands (run_with all)) old.folder new.folder
      is_whole = subst (λ (l : List Stamped). IsWholeRun from opened l old.folder new.folder) (sym all_commands) ends.closes.whole

    -- the folder failed after these iterations
    stops_behind : (all made : List Turn) → all ≡ made → (clock_mid clock_new : Option Readings) → clock_mid ≡ option_map (λ r. clock_after r (readings_of made)) clock_first → (new : Told)
        → EndsRun (Err fault.Device) (with_more begun_far (commands_of made)) new clock_mid clock_new → StopsPast from opened (commands (run_with all)) (length (commands_of all)) old.folder new
    stops_behind all made same clock_mid clock_new read new ends =
        subst (λ (n : ℕ). StopsPast from opened (commands (run_with all)) n old.folder new) (ap (λ (l : List Turn). length (commands_of l)) (sym same))
        (subst (λ (l : List Stamped). StopsPast from opened l (length (commands_of made)) old.folder new)
        (sym (commands_are opened (later_of readings) all made ends.commands same (ends.are (clock_after (later_of readings) (readings_of made)) (clock_made made clock_mid read))))
        ends.closes)

    -- after all iterations of a run, whose texts were printed
    stops_printed : (all : List Turn) (sink : Type 0) (new : Outside) → new.written ≡ option_map (λ (w : List ℕ). w ++ text_of all) old.written → StopsPast from opened (commands (run_with all)) (length (commands_of all)) old.folder new.folder
        → StopsByNotes from (run_with all) sink old new
    stops_printed all sink new printed past = record {
      stops = past.stops;
      no_more = no_more_whole all (notes_in past.stops.steps) old.written new.written past.count (appends_whole old.written new.written (text_of all) printed);
      no_less = λ level. inr printed;
    }

    -- and after those up to one whose text was printed in part, where the output failed
    stops_unprinted : (all : List Turn) (sink : Type 0) (new : Outside) → sink → Appends old.written new.written (text_of all) → StopsPast from opened (commands (run_with all)) (length (commands_of all)) old.folder new.folder
        → StopsByNotes from (run_with all) sink old new
    stops_unprinted all sink new rose printed past = record {
      stops = past.stops;
      no_more = no_more_whole all (notes_in past.stops.steps) old.written new.written past.count printed;
      no_less = λ level. absurd (level rose);
    }

    -- in one of the iterations
    stops_within : (all made later : List Turn) → all ≡ made ++ later → (sink : Type 0) (told : Told) (mid : Around) (new : Outside) → mid.folder ≡ new.folder → new.written ≡ mid.written
        → AreStopped made begun_far (record { folder = told; written = old.written; clock = clock_first; refused = false }) mid → StopsByNotes from (run_with all) sink old new
    unfolding state_after
    stops_within all made later begin sink told mid new same since stopped =
        let more = commands_begin opened (later_of readings) all made later begin in
        let none_before : 0 + stopped.noted ≡ stopped.noted = omega arith in
        let here : StopsAfter from opened (commands_of made ++ more.0) stopped.noted old.folder mid.folder = subst (λ (n : ℕ). StopsAfter from opened (commands_of made ++ more.0) n old.folder mid.folder) none_before (stopped.stops more.0) in
        let stops : StopsAfter from opened (commands (run_with all)) stopped.noted old.folder new.folder =
        subst (λ (l : List Stamped). StopsAfter from opened l stopped.noted old.folder new.folder) (sym more.1) (subst (λ (t : Told). StopsAfter from opened (commands_of made ++ more.0) stopped.noted old.folder t) same here) in
        let no_more : PrintsNoMore made stopped.noted old.written new.written = subst (PrintsNoMore made stopped.noted old.written) (sym since) stopped.no_more in
        let no_less : PrintsBeforeLast made stopped.noted old.written new.written = subst (PrintsBeforeLast made stopped.noted old.written) (sym since) stopped.no_less in
        record {
          stops = stops.stops;
          no_more = subst (λ (n : ℕ). PrintsNoMore all n old.written new.written) (sym stops.count)
              (subst (λ (l : List Turn). PrintsNoMore l stopped.noted old.written new.written) (sym begin) (no_more_longer made later stopped.noted old.written new.written no_more));
          no_less = λ level. inl (subst (λ (n : ℕ). PrintsBeforeLast all n old.written new.written) (sym stops.count)
              (subst (λ (l : List Turn). PrintsBeforeLast l stopped.noted old.written new.written) (sym begin) (no_less_longer made later stopped.noted old.written new.written no_less)));
        }

    -- The exits of a session.

    module _ (budget : ℕ) (input : List ℕ) (source sink : Type 0) (keeps : State → Image → Type 0) (notes spare : ℕ) (told : Told) (new : Outside) (takes : IsTakenUpTo (budget + 1) new.left input) (mid : Around)
        (unprinted_since : new.written ≡ mid.written) where
      abbrev start : Around
      start = record { folder = told; written = old.written; clock = clock_first; refused = false }

      -- the input was played whole
      module _ (plays : PlaysInput (Ok end.Whole) budget (Some input) new.left begun_far keeps notes spare start mid) where
        abbrev pub whole_made : List Turn
        whole_made = plays.part.made

        whole_turns : turns (session_script 1 (lines input)) opened (later_of readings) ≡ whole_made
        unfolding state_after
        whole_turns = ap (λ (l : List (List ℕ)). turns (session_script 1 l) opened (later_of readings)) (sym (plays.of input refl).1) ∙ sym (plays.part.are (later_of readings) clock_told)

        whole_printed : new.written ≡ option_map (λ (w : List ℕ). w ++ text_of (turns (session_script 1 (lines input)) opened (later_of readings))) old.written
        whole_printed = unprinted_since ∙ plays.part.plays.printed ∙ ap (λ (l : List Turn). option_map (λ (w : List ℕ). w ++ text_of l) old.written) (sym whole_turns)

        whole_refused : mid.refused ≡ refuse (turns (session_script 1 (lines input)) opened (later_of readings))
        whole_refused = plays.part.plays.refused ∙ ap (λ (l : List Turn). refuse l) (sym whole_turns)

        module _ (ends : EndsRun (Ok tt) (with_more begun_far (commands_of whole_made)) new.folder mid.clock new.clock) where
          ends_as_ok : EndsAs status.Ok all_made from (run_with (turns (session_script 1 (lines input)) opened (later_of readings))) sink old new
          ends_as_ok = record {
            printed = whole_printed;
            ended = is_ended (turns (session_script 1 (lines input)) opened (later_of readings)) whole_made whole_turns mid.clock plays.part.plays.read new ends;
            stopped = is_whole (turns (session_script 1 (lines input)) opened (later_of readings)) whole_made whole_turns mid.clock plays.part.plays.read new ends;
          }

          pub exit_ok : mid.refused ≡ false → Runs by_lines status.Ok limits budget from readings input source sink old new
          exit_ok none = record {
            ending = all_made;
            run = session_run from limits readings (session_script 1 (lines input));
            is = refl;
            may_end = ((plays.of input refl).0, (refl, sym whole_refused ∙ none));
            takes = takes;
            ends = ends_as_ok;
          }

          pub exit_refused : mid.refused ≡ true → Runs by_lines status.Refused limits budget from readings input source sink old new
          exit_refused some = record {
            ending = all_made;
            run = session_run from limits readings (session_script 1 (lines input));
            is = refl;
            may_end = ((plays.of input refl).0, (refl, sym whole_refused ∙ some));
            takes = takes;
            ends = record { printed = ends_as_ok.printed; ended = ends_as_ok.ended; stopped = ends_as_ok.stopped };
          }

        pub exit_whole_device : EndsRun (Err fault.Device) (with_more begun_far (commands_of whole_made)) new.folder mid.clock new.clock → Runs by_lines status.Device limits budget from readings input source sink old new
        exit_whole_device ends = record {
          ending = all_made;
          run = session_run from limits readings (session_script 1 (lines input));
          is = refl;
          may_end = tt;
          takes = takes;
          ends = record {
            printed = appends_whole old.written new.written (text_of (turns (session_script 1 (lines input)) opened (later_of readings))) whole_printed;
            ended = tt;
            stopped = stops_printed (turns (session_script 1 (lines input)) opened (later_of readings)) sink new whole_printed (stops_behind (turns (session_script 1 (lines input)) opened (later_of readings)) whole_made whole_turns mid.clock new.clock plays.part.plays.read new.folder ends);
          };
        }

      -- only these bytes of the input were taken, of which the whole lines were played
      module _ (bytes : List ℕ) (made : List Turn) (are : ForSome clock_first (λ r. made ≡ turns (session_script 1 (whole_lines bytes)) (state_now begun_far) r)) (plays : AreMade made begun_far keeps notes spare start mid) where
        abbrev taken_turns : List Turn
        taken_turns = turns (session_script 1 (whole_lines bytes)) opened (later_of readings)

        turns_taken : taken_turns ≡ made
        unfolding state_after
        turns_taken = sym (are (later_of readings) clock_told)

        taken_printed : new.written ≡ option_map (λ (w : List ℕ). w ++ text_of taken_turns) old.written
        taken_printed = unprinted_since ∙ plays.printed ∙ ap (λ (l : List Turn). option_map (λ (w : List ℕ). w ++ text_of l) old.written) (sym turns_taken)

        taken_source : IsTaken budget input bytes new.left → EndsRun (Ok tt) (with_more begun_far (commands_of made)) new.folder mid.clock new.clock → Runs by_lines status.Source limits budget from readings input source sink old new
        taken_source some ends = record {
          ending = taken bytes;
          run = session_run from limits readings (session_script 1 (whole_lines bytes));
          is = refl;
          may_end = some;
          takes = takes;
          ends = record { printed = taken_printed; ended = is_ended taken_turns made turns_taken mid.clock plays.read new ends; stopped = is_whole taken_turns made turns_taken mid.clock plays.read new ends };
        }

        taken_long : IsPastBudget budget input bytes new.left → EndsRun (Ok tt) (with_more begun_far (commands_of made)) new.folder mid.clock new.clock → Runs by_lines status.TooLong limits budget from readings input source sink old new
        taken_long some ends = record {
          ending = taken bytes;
          run = session_run from limits readings (session_script 1 (whole_lines bytes));
          is = refl;
          may_end = some;
          takes = takes;
          ends = record { printed = taken_printed; ended = is_ended taken_turns made turns_taken mid.clock plays.read new ends; stopped = is_whole taken_turns made turns_taken mid.clock plays.read new ends };
        }

        taken_device : (source × IsTaken budget input bytes new.left) ⊎ IsPastBudget budget input bytes new.left → EndsRun (Err fault.Device) (with_more begun_far (commands_of made)) new.folder mid.clock new.clock
            → Runs by_lines status.Device limits budget from readings input source sink old new
        taken_device some ends = record {
          ending = taken bytes;
          run = session_run from limits readings (session_script 1 (whole_lines bytes));
          is = refl;
          may_end = some;
          takes = takes;
          ends = record {
            printed = appends_whole old.written new.written (text_of taken_turns) taken_printed;
            ended = tt;
            stopped = stops_printed taken_turns sink new taken_printed (stops_behind taken_turns made turns_taken mid.clock new.clock plays.read new.folder ends);
          };
        }

      texts_are : (bytes : List ℕ) (texts : List (List ℕ)) (made : List Turn) → texts ≡ whole_lines bytes → ForSome clock_first (λ r. made ≡ turns (session_script 1 texts) (state_now begun_far) r)
          → ForSome clock_first (λ r. made ≡ turns (session_script 1 (whole_lines bytes)) (state_now begun_far) r)
      texts_are bytes texts made same are = subst (λ (l : List (List ℕ)). ForSome clock_first (λ r. made ≡ turns (session_script 1 l) (state_now begun_far) r)) same are

      pub exit_source : (plays : PlaysInput (Ok end.Failed) budget (Some input) new.left begun_far keeps notes spare start mid) → EndsRun (Ok tt) (with_more begun_far (commands_of plays.part.made)) new.folder mid.clock new.clock
          → Runs by_lines status.Source limits budget from readings input source sink old new
      exit_source plays ends = taken_source plays.taken plays.part.made (texts_are plays.taken plays.texts plays.part.made (plays.of input refl).1 plays.part.are) plays.part.plays (plays.of input refl).0 ends

      pub exit_source_device : source → (plays : PlaysInput (Ok end.Failed) budget (Some input) new.left begun_far keeps notes spare start mid)
          → EndsRun (Err fault.Device) (with_more begun_far (commands_of plays.part.made)) new.folder mid.clock new.clock → Runs by_lines status.Device limits budget from readings input source sink old new
      exit_source_device rose plays ends = taken_device plays.taken plays.part.made (texts_are plays.taken plays.texts plays.part.made (plays.of input refl).1 plays.part.are) plays.part.plays (inl (rose, (plays.of input refl).0)) ends

      pub exit_long : (plays : PlaysInput (Ok end.TooLong) budget (Some input) new.left begun_far keeps notes spare start mid) → EndsRun (Ok tt) (with_more begun_far (commands_of plays.part.made)) new.folder mid.clock new.clock
          → Runs by_lines status.TooLong limits budget from readings input source sink old new
      exit_long plays ends = taken_long plays.taken plays.part.made (texts_are plays.taken plays.texts plays.part.made (plays.of input refl).1 plays.part.are) plays.part.plays (plays.of input refl).0 ends

      pub exit_long_device : (plays : PlaysInput (Ok end.TooLong) budget (Some input) new.left begun_far keeps notes spare start mid)
          → EndsRun (Err fault.Device) (with_more begun_far (commands_of plays.part.made)) new.folder mid.clock new.clock → Runs by_lines status.Device limits budget from readings input source sink old new
      exit_long_device plays ends = taken_device plays.taken plays.part.made (texts_are plays.taken plays.texts plays.part.made (plays.of input refl).1 plays.part.are) plays.part.plays (inr (plays.of input refl).0) ends

      -- the folder failed in the lines
      pub exit_device : PlaysInput (Err step_fault.Device) budget (Some input) new.left begun_far keeps notes spare start mid → mid.folder ≡ new.folder → Runs by_lines status.Device limits budget from readings input source sink old new
      unfolding state_after
      exit_device plays same =
          let made : List Turn = plays.part.made in
          let all : List Turn = turns (session_script 1 (lines input)) opened (later_of readings) in
          let split = turns_first plays.texts (plays.of input refl).0 (lines input) opened (later_of readings) (plays.of input refl).1 in
          let later : List Turn = split.0 in
          let begin : all ≡ made ++ later = split.1 ∙ ap (λ (l : List Turn). l ++ later) (sym (plays.part.are (later_of readings) clock_told)) in
          record {
            ending = all_made;
            run = session_run from limits readings (session_script 1 (lines input));
            is = refl;
            may_end = tt;
            takes = takes;
            ends = record {
              printed = subst (λ (w : Option (List ℕ)). Appends old.written w (text_of all)) (sym unprinted_since)
                  (appends_longer old.written mid.written (text_of made) (text_of later) (text_of all) (ap (λ (l : List Turn). text_of l) begin ∙ text_of-append made later) plays.part.plays.printed);
              ended = tt;
              stopped = stops_within all made later begin sink told mid new same unprinted_since plays.part.plays;
            };
          }

      -- the output failed in the lines
      module _ (plays : PlaysInput (Err step_fault.Sink) budget (Some input) new.left begun_far keeps notes spare start mid) where
        abbrev sink_made : List Turn
        sink_made = plays.part.made

        abbrev pub made_to : AreMadeTo sink_made begun_far keeps notes spare start mid
        made_to = plays.part.plays

        abbrev all_turns : List Turn
        all_turns = turns (session_script 1 (lines input)) opened (later_of readings)

        begins_so : (later : List Turn) × (all_turns ≡ sink_made ++ later)
        unfolding state_after
        begins_so =
            let split = turns_first plays.texts (plays.of input refl).0 (lines input) opened (later_of readings) (plays.of input refl).1 in
            (split.0, split.1 ∙ ap (λ (l : List Turn). l ++ split.0) (sym (plays.part.are (later_of readings) clock_told)))

        cut_same : take (made_to.count + 1) all_turns ≡ take (made_to.count + 1) sink_made
        cut_same = let w = made_to.within in ap (take (made_to.count + 1)) begins_so.1 ∙ take-append-le (made_to.count + 1) sink_made begins_so.0 (omega (arith, w))

        cut_shorter : take made_to.count (take (made_to.count + 1) all_turns) ≡ take made_to.count sink_made
        cut_shorter = ap (take made_to.count) cut_same ∙ take_short made_to.count sink_made

        within_cut : made_to.count < length (take (made_to.count + 1) all_turns)
        within_cut = subst (λ (l : List Turn). made_to.count < length l) (sym cut_same) (within_short made_to.count sink_made made_to.within)

        text_split : text_of (take (made_to.count + 1) all_turns) ≡ text_of (take made_to.count sink_made) ++ (made_to.front ++ made_to.rest)
        text_split = ap (λ (l : List Turn). text_of l) cut_same ∙ made_to.split

        pub exit_sink : EndsRun (Ok tt) (with_more begun_far (commands_of (take (made_to.count + 1) sink_made))) new.folder mid.clock new.clock → Runs by_lines status.Sink limits budget from readings input source sink old new
        exit_sink ends = record {
          ending = unprinted made_to.count;
          run = cut_after (made_to.count + 1) (session_run from limits readings (session_script 1 (lines input)));
          is = refl;
          may_end = within_cut;
          takes = takes;
          ends = record {
            printed = record {
              front = made_to.front;
              rest = made_to.rest;
              split = text_split ∙ ap (λ (l : List Turn). text_of l ++ (made_to.front ++ made_to.rest)) (sym cut_shorter);
              written = unprinted_since ∙ made_to.printed ∙ ap (λ (l : List Turn). option_map (λ (w : List ℕ). w ++ (text_of l ++ made_to.front)) old.written) (sym cut_shorter);
            };
            ended = is_ended (take (made_to.count + 1) all_turns) (take (made_to.count + 1) sink_made) cut_same mid.clock made_to.read new ends;
            stopped = is_whole (take (made_to.count + 1) all_turns) (take (made_to.count + 1) sink_made) cut_same mid.clock made_to.read new ends;
          };
        }

        sink_part : Appends old.written new.written (text_of (take (made_to.count + 1) all_turns))
        sink_part = record {
          front = text_of (take made_to.count sink_made) ++ made_to.front;
          rest = made_to.rest;
          split = text_split ∙ sym (append_assoc (text_of (take made_to.count sink_made)) made_to.front made_to.rest);
          written = unprinted_since ∙ made_to.printed;
        }

        pub exit_sink_device : sink → EndsRun (Err fault.Device) (with_more begun_far (commands_of (take (made_to.count + 1) sink_made))) new.folder mid.clock new.clock → Runs by_lines status.Device limits budget from readings input source sink old new
        exit_sink_device rose ends = record {
          ending = unprinted made_to.count;
          run = cut_after (made_to.count + 1) (session_run from limits readings (session_script 1 (lines input)));
          is = refl;
          may_end = (rose, within_cut);
          takes = takes;
          ends = record {
            printed = sink_part;
            ended = tt;
            stopped = stops_unprinted (take (made_to.count + 1) all_turns) sink new rose sink_part (stops_behind (take (made_to.count + 1) all_turns) (take (made_to.count + 1) sink_made) cut_same mid.clock new.clock made_to.read new.folder ends);
          };
        }

    -- The exits of a fixed script.

    module _ (script : Script) (sink : Type 0) (keeps : State → Image → Type 0) (notes spare : ℕ) (told : Told) (new : Outside) (mid : Around) (unprinted_since : new.written ≡ mid.written) where
      abbrev fixed_start : Around
      fixed_start = record { folder = told; written = old.written; clock = clock_first; refused = false }

      abbrev part : State → Readings → List Turn
      part state clock_now = turns script state clock_now

      abbrev script_turns : List Turn
      script_turns = turns script opened (later_of readings)

      -- it was played to its end
      module _ {A : Type 0} (a : A) (plays : PlaysPart (Ok a) part begun_far keeps notes spare fixed_start mid) where
        script_made : script_turns ≡ plays.made
        unfolding state_after
        script_made = sym (plays.are (later_of readings) clock_told)

        script_printed : new.written ≡ option_map (λ (w : List ℕ). w ++ text_of script_turns) old.written
        script_printed = unprinted_since ∙ plays.plays.printed ∙ ap (λ (l : List Turn). option_map (λ (w : List ℕ). w ++ text_of l) old.written) (sym script_made)

        script_refused : mid.refused ≡ refuse script_turns
        script_refused = plays.plays.refused ∙ ap (λ (l : List Turn). refuse l) (sym script_made)

        pub fixed_ok : EndsRun (Ok tt) (with_more begun_far (commands_of plays.made)) new.folder mid.clock new.clock → mid.refused ≡ false → FixedRuns status.Ok script limits from readings sink old new
        fixed_ok ends none = record {
          ending = all_made;
          run = run_of script (found from) limits readings;
          is = refl;
          may_end = sym script_refused ∙ none;
          ends = record { printed = script_printed; ended = is_ended script_turns plays.made script_made mid.clock plays.plays.read new ends; stopped = is_whole script_turns plays.made script_made mid.clock plays.plays.read new ends };
        }

        pub fixed_refused : EndsRun (Ok tt) (with_more begun_far (commands_of plays.made)) new.folder mid.clock new.clock → mid.refused ≡ true → FixedRuns status.Refused script limits from readings sink old new
        fixed_refused ends some = record {
          ending = all_made;
          run = run_of script (found from) limits readings;
          is = refl;
          may_end = sym script_refused ∙ some;
          ends = record { printed = script_printed; ended = is_ended script_turns plays.made script_made mid.clock plays.plays.read new ends; stopped = is_whole script_turns plays.made script_made mid.clock plays.plays.read new ends };
        }

        pub fixed_end_device : EndsRun (Err fault.Device) (with_more begun_far (commands_of plays.made)) new.folder mid.clock new.clock → FixedRuns status.Device script limits from readings sink old new
        fixed_end_device ends = record {
          ending = all_made;
          run = run_of script (found from) limits readings;
          is = refl;
          may_end = tt;
          ends = record {
            printed = appends_whole old.written new.written (text_of script_turns) script_printed;
            ended = tt;
            stopped = stops_printed script_turns sink new script_printed (stops_behind script_turns plays.made script_made mid.clock new.clock plays.plays.read new.folder ends);
          };
        }

      -- the folder failed in it
      pub fixed_device : {A : Type 0} → PlaysPart {A = A} (Err step_fault.Device) part begun_far keeps notes spare fixed_start mid → mid.folder ≡ new.folder → FixedRuns status.Device script limits from readings sink old new
      unfolding state_after
      fixed_device plays same =
          let begin : script_turns ≡ plays.made ++ [] = sym (plays.are (later_of readings) clock_told) ∙ sym (append-nil plays.made) in
          record {
            ending = all_made;
            run = run_of script (found from) limits readings;
            is = refl;
            may_end = tt;
            ends = record {
              printed = subst (λ (w : Option (List ℕ)). Appends old.written w (text_of script_turns)) (sym unprinted_since)
                  (appends_longer old.written mid.written (text_of plays.made) [] (text_of script_turns) (ap (λ (l : List Turn). text_of l) begin ∙ text_of-append plays.made []) plays.plays.printed);
              ended = tt;
              stopped = stops_within script_turns plays.made [] begin sink told mid new same unprinted_since plays.plays;
            };
          }

      -- the output failed in it
      module _ {A : Type 0} (plays : PlaysPart {A = A} (Err step_fault.Sink) part begun_far keeps notes spare fixed_start mid) where
        abbrev pub fixed_to : AreMadeTo plays.made begun_far keeps notes spare fixed_start mid
        fixed_to = plays.plays

        fixed_cut : take (fixed_to.count + 1) script_turns ≡ take (fixed_to.count + 1) plays.made
        unfolding state_after
        fixed_cut = ap (take (fixed_to.count + 1)) (sym (plays.are (later_of readings) clock_told))

        fixed_shorter : take fixed_to.count (take (fixed_to.count + 1) script_turns) ≡ take fixed_to.count plays.made
        fixed_shorter = ap (take fixed_to.count) fixed_cut ∙ take_short fixed_to.count plays.made

        fixed_within : fixed_to.count < length (take (fixed_to.count + 1) script_turns)
        fixed_within = subst (λ (l : List Turn). fixed_to.count < length l) (sym fixed_cut) (within_short fixed_to.count plays.made fixed_to.within)

        fixed_split : text_of (take (fixed_to.count + 1) script_turns) ≡ text_of (take fixed_to.count plays.made) ++ (fixed_to.front ++ fixed_to.rest)
        fixed_split = ap (λ (l : List Turn). text_of l) fixed_cut ∙ fixed_to.split

        pub fixed_sink : EndsRun (Ok tt) (with_more begun_far (commands_of (take (fixed_to.count + 1) plays.made))) new.folder mid.clock new.clock → FixedRuns status.Sink script limits from readings sink old new
        fixed_sink ends = record {
          ending = unprinted fixed_to.count;
          run = cut_after (fixed_to.count + 1) (run_of script (found from) limits readings);
          is = refl;
          may_end = fixed_within;
          ends = record {
            printed = record {
              front = fixed_to.front;
              rest = fixed_to.rest;
              split = fixed_split ∙ ap (λ (l : List Turn). text_of l ++ (fixed_to.front ++ fixed_to.rest)) (sym fixed_shorter);
              written = unprinted_since ∙ fixed_to.printed ∙ ap (λ (l : List Turn). option_map (λ (w : List ℕ). w ++ (text_of l ++ fixed_to.front)) old.written) (sym fixed_shorter);
            };
            ended = is_ended (take (fixed_to.count + 1) script_turns) (take (fixed_to.count + 1) plays.made) fixed_cut mid.clock fixed_to.read new ends;
            stopped = is_whole (take (fixed_to.count + 1) script_turns) (take (fixed_to.count + 1) plays.made) fixed_cut mid.clock fixed_to.read new ends;
          };
        }

        fixed_part : Appends old.written new.written (text_of (take (fixed_to.count + 1) script_turns))
        fixed_part = record {
          front = text_of (take fixed_to.count plays.made) ++ fixed_to.front;
          rest = fixed_to.rest;
          split = fixed_split ∙ sym (append_assoc (text_of (take fixed_to.count plays.made)) fixed_to.front fixed_to.rest);
          written = unprinted_since ∙ fixed_to.printed;
        }

        pub fixed_sink_device : sink → EndsRun (Err fault.Device) (with_more begun_far (commands_of (take (fixed_to.count + 1) plays.made))) new.folder mid.clock new.clock → FixedRuns status.Device script limits from readings sink old new
        fixed_sink_device rose ends = record {
          ending = unprinted fixed_to.count;
          run = cut_after (fixed_to.count + 1) (run_of script (found from) limits readings);
          is = refl;
          may_end = (rose, fixed_within);
          ends = record {
            printed = fixed_part;
            ended = tt;
            stopped = stops_unprinted (take (fixed_to.count + 1) script_turns) sink new rose fixed_part (stops_behind (take (fixed_to.count + 1) script_turns) (take (fixed_to.count + 1) plays.made) fixed_cut mid.clock new.clock fixed_to.read new.folder ends);
          };
        }
