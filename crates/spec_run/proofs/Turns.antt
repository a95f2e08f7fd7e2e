-- Iterations after iterations.
use Rattle.std.proofs.Common.{ℕ, zero, suc, ◌+◌, ◌≡◌, List, [], ◌∷◌, ◌++◌, length, take, cond, Result, Ok, Err, refl, sym, ◌∙◌, ap, arith, append_assoc}
use Rattle.std.proofs.Math.Seq.{take-append_seam}
use Rattle.std.proofs.lemmas.List.{append-nil, drop-drop}
use Rattle.std.proofs.lemmas.List.Concat.{flat_map-append}
use Rattle.std.proofs.lemmas.List.Elements.{filter_map-append}
use Rattle.std.proofs.lemmas.List.Folds.{list_any-append}
use Rattle.std.proofs.lemmas.List.Sums.{sum_by-append, sum_by-cons}
use Rattle.std.specs.Prelude.{◌||◌, Bool, false, if◌then◌else◌, true}
use Rattle.blk_model.specs.Holding.{open_state}
use Rattle.blk_model.specs.Request.{Request, to_close, to_create, to_write}
use Rattle.blk_model.specs.State.{State}
use Rattle.blk_io.specs.Streams.{Readings, later_of}
use Rattle.blk_script.specs.declared.fault.LineFault.{LineFault}
use Rattle.blk_script.specs.Line.{read_text}
use Rattle.spec_run.specs.Script.{Script, TurnsNoneAway, ended, errs, says, turns_away, asks, is_missing, is_refused, session_script, line_script, put_script, until_refused}
use Rattle.spec_run.specs.Run.{Stamped, Turn, away_turn, error_turn, text_turn, command_turn, stamped_by, outcome_in, state_then, turns, commands_of, readings_of, state_after, clock_after, text_of, refuse, bound_names, closings, commands}
use Rattle.spec_run.specs.Playing.{IsPlayed}
use Rattle.spec_run.specs.Laws.{LinesArePlayedInTurn, NothingIsPlayed, CommandsArePlayed, ErrorsArePlayed, TextsArePlayed, PlayingGoesOn, PlayedRunsAreCut, PlayedRunsAreWhole, PlayedCommandsComeFirst, AskedCommandsAreNext, ClockIsReadForCommands, FixedScriptsTurnNoneAway, LinesTurnNoneAway, RefusalsOutsideArePlayed}
use Rattle.spec_run.proofs.CommandStates.{state_after-append}

pub commands_of-append : (xs ys : List Turn) → commands_of (xs ++ ys) ≡ commands_of xs ++ commands_of ys
commands_of-append xs ys = filter_map-append (λ turn. turn.command) xs ys

pub readings_of-append : (xs ys : List Turn) → readings_of (xs ++ ys) ≡ readings_of xs + readings_of ys
readings_of-append xs ys = sum_by-append (λ (turn : Turn). cond turn.reads 1 0) xs ys

pub text_of-append : (xs ys : List Turn) → text_of (xs ++ ys) ≡ text_of xs ++ text_of ys
text_of-append xs ys = flat_map-append (λ turn. turn.text) xs ys

pub refuse-append : (xs ys : List Turn) → refuse (xs ++ ys) ≡ (refuse xs || refuse ys)
refuse-append xs ys = list_any-append (λ turn. turn.refuses) xs ys

pub clock_after-more : (clock : Readings) (m n : ℕ) → clock_after (clock_after clock m) n ≡ clock_after clock (m + n)
clock_after-more clock m n = ap (λ (l : List ℕ). record { ahead = l; last = clock.last }) (drop-drop n m clock.ahead)

-- what was played is played on
pub played_then : PlayingGoesOn
played_then script state clock made left now readings more last state_last clock_last first second = record {
  all = first.all ∙ ap (λ (l : List Turn). made ++ l) second.all ∙ sym (append_assoc made more (turns last state_last clock_last));
  state_is = second.state_is ∙ ap (λ (s : State). state_after s (commands_of more)) first.state_is
      ∙ sym (state_after-append state (commands_of made) (commands_of more)) ∙ ap (state_after state) (sym (commands_of-append made more));
  clock_is = second.clock_is ∙ ap (λ (c : Readings). clock_after c (readings_of more)) first.clock_is
      ∙ clock_after-more clock (readings_of made) (readings_of more)
      ∙ ap (clock_after clock) (sym (readings_of-append made more));
}

pub played_none : NothingIsPlayed
unfolding state_after
played_none script state clock = record { all = refl; state_is = refl; clock_is = refl }

one_command : (request : Request) (shown : _) (next : _) (now : State) (readings : Readings)
    → IsPlayed (asks request shown next) now readings (command_turn (stamped_by readings request) (shown (outcome_in now (stamped_by readings request))) ∷ [])
    (next (outcome_in now (stamped_by readings request))) (state_then now (stamped_by readings request)) (later_of readings)
unfolding turns state_after
one_command request shown next now readings = record { all = refl; state_is = refl; clock_is = refl }

pub played_command : CommandsArePlayed
played_command script state clock made request shown next now readings before =
    let command = stamped_by readings request in
    let outcome = outcome_in now command in
    played_then script state clock made (asks request shown next) now readings (command_turn command (shown outcome) ∷ []) (next outcome) (state_then now command) (later_of readings)
    before (one_command request shown next now readings)

one_error : (text : List ℕ) (next : Script) (now : State) (readings : Readings) → IsPlayed (errs text next) now readings (error_turn text ∷ []) next now readings
unfolding turns state_after
one_error text next now readings = record { all = refl; state_is = refl; clock_is = refl }

pub played_error : ErrorsArePlayed
played_error script state clock made text next now readings before =
    played_then script state clock made (errs text next) now readings (error_turn text ∷ []) next now readings before (one_error text next now readings)

one_away : (text : List ℕ) (next : Script) (now : State) (readings : Readings) → IsPlayed (turns_away text next) now readings (away_turn text ∷ []) next now (later_of readings)
unfolding turns state_after
one_away text next now readings = record { all = refl; state_is = refl; clock_is = refl }

pub played_away : RefusalsOutsideArePlayed
played_away script state clock made text next now readings before =
    played_then script state clock made (turns_away text next) now readings (away_turn text ∷ []) next now (later_of readings) before (one_away text next now readings)

one_text : (text : State → List ℕ) (next : Script) (now : State) (readings : Readings) → IsPlayed (says text next) now readings (text_turn (text now) ∷ []) next now readings
unfolding turns state_after
one_text text next now readings = record { all = refl; state_is = refl; clock_is = refl }

pub played_text : TextsArePlayed
played_text script state clock made text next now readings before =
    played_then script state clock made (says text next) now readings (text_turn (text now) ∷ []) next now readings before (one_text text next now readings)

-- Lines.

-- where lines are played to their end, what follows them is left
played_line : (number : ℕ) (read : Result Request LineFault) (following : Script) (state : State) (clock : Readings)
    → IsPlayed (line_script number read following) state clock (turns (line_script number read ended) state clock) following
    (state_after state (commands_of (turns (line_script number read ended) state clock))) (clock_after clock (readings_of (turns (line_script number read ended) state clock)))
unfolding turns state_after
played_line number (Err why) following state clock = record { all = refl; state_is = refl; clock_is = refl }
played_line number (Ok request) following state clock = record { all = refl; state_is = refl; clock_is = refl }

-- a line's own iterations, and those of what follows it
line_first : (number : ℕ) (read : Result Request LineFault) (following : Script) (state : State) (clock : Readings)
    → turns (line_script number read following) state clock
    ≡ turns (line_script number read ended) state clock
    ++ turns following (state_after state (commands_of (turns (line_script number read ended) state clock))) (clock_after clock (readings_of (turns (line_script number read ended) state clock)))
line_first number read following state clock = (played_line number read following state clock).all

pub more_turns : LinesArePlayedInTurn
unfolding session_script turns state_after
more_turns number [] more state clock =
    let same : number ≡ number + 0 = omega arith in
    record { all = ap (λ (n : ℕ). turns (session_script n more) state clock) same; state_is = refl; clock_is = refl }
more_turns number (x ∷ texts) more state clock =
    let read = read_text x in
    let one = turns (line_script number read ended) state clock in
    let now = state_after state (commands_of one) in
    let readings = clock_after clock (readings_of one) in
    let tail = turns (session_script (number + 1) texts) now readings in
    let first = played_line number read (session_script (number + 1) (texts ++ more)) state clock in
    let second = more_turns (number + 1) texts more now readings in
    let last = state_after now (commands_of tail) in
    let clock_last = clock_after readings (readings_of tail) in
    let both = played_then (session_script number ((x ∷ texts) ++ more)) state clock one (session_script (number + 1) (texts ++ more)) now readings tail (session_script (number + 1 + length texts) more) last clock_last first second in
    let whole : turns (session_script number (x ∷ texts)) state clock ≡ one ++ tail = line_first number read (session_script (number + 1) texts) state clock in
    let numbers : number + 1 + length texts ≡ number + length (x ∷ texts) = omega arith in
    let made : List Turn = turns (session_script number (x ∷ texts)) state clock in
    let state_same : last ≡ state_after state (commands_of made) = both.state_is ∙ ap (λ (l : List Turn). state_after state (commands_of l)) (sym whole) in
    let clock_same : clock_last ≡ clock_after clock (readings_of made) = both.clock_is ∙ ap (λ (l : List Turn). clock_after clock (readings_of l)) (sym whole) in
    record {
      all = both.all
          ∙ ap (λ (l : List Turn). l ++ turns (session_script (number + 1 + length texts) more) last clock_last) (sym whole)
          ∙ ap (λ (l : List Turn). made ++ l)
          (ap (λ (n : ℕ). turns (session_script n more) last clock_last) numbers
          ∙ ap (λ (s : State). turns (session_script (number + length (x ∷ texts)) more) s clock_last) state_same
          ∙ ap (λ (c : Readings). turns (session_script (number + length (x ∷ texts)) more) (state_after state (commands_of made)) c) clock_same);
      state_is = refl;
      clock_is = refl;
    }

-- Runs.

cut_same : (opened : State) (clock : Readings) (all made : List Turn) (now : State) (readings : Readings) → all ≡ made → now ≡ state_after opened (commands_of made) → readings ≡ clock_after clock (readings_of made)
    → commands (record { opened = opened; clock = clock; turns = all }) ≡ commands_of made ++ closings (bound_names now) readings
unfolding commands
cut_same opened clock all made now readings same state_is clock_is =
    ap (λ (l : List Turn). commands_of l ++ closings (bound_names (state_after opened (commands_of l))) (clock_after clock (readings_of l))) same
    ∙ ap (λ (s : State). commands_of made ++ closings (bound_names s) (clock_after clock (readings_of made))) (sym state_is)
    ∙ ap (λ (c : Readings). commands_of made ++ closings (bound_names now) c) (sym clock_is)

pub run_cut : PlayedRunsAreCut
run_cut script found limits readings made left now readings_now played =
    let opened = open_state found limits in
    let same : take (length made) (turns script opened (later_of readings)) ≡ made = ap (take (length made)) played.all ∙ take-append_seam made (turns left now readings_now) in
    (same, cut_same opened (later_of readings) (take (length made) (turns script opened (later_of readings))) made now readings_now same played.state_is played.clock_is)

pub run_whole : PlayedRunsAreWhole
unfolding turns
run_whole script found limits readings made now readings_now played =
    let opened = open_state found limits in
    let same : turns script opened (later_of readings) ≡ made = played.all ∙ append-nil made in
    (same, cut_same opened (later_of readings) (turns script opened (later_of readings)) made now readings_now same played.state_is played.clock_is)

-- a run has the commands of the iterations that were made first
pub commands_first : PlayedCommandsComeFirst
unfolding commands
commands_first script found limits readings made left now readings_now played =
    let opened = open_state found limits in
    let all : List Turn = turns script opened (later_of readings) in
    let later : List Turn = turns left now readings_now in
    let closed : List Stamped = closings (bound_names (state_after opened (commands_of all))) (clock_after (later_of readings) (readings_of all)) in (
      commands_of later ++ closed,
      ap (λ (l : List Turn). commands_of l ++ closed) played.all ∙ ap (λ (l : List Stamped). l ++ closed) (commands_of-append made later) ∙ append_assoc (commands_of made) (commands_of later) closed,
    )

pub asked_next : AskedCommandsAreNext
asked_next script found limits readings made request shown next now readings_now played =
    let command = stamped_by readings_now request in
    let outcome = outcome_in now command in
    let turn = command_turn command (shown outcome) in
    let after = played_command script (open_state found limits) (later_of readings) made request shown next now readings_now played in
    let rest = commands_first script found limits readings (made ++ turn ∷ []) (next outcome) outcome.state (later_of readings_now) after in
    (rest.0, rest.1 ∙ ap (λ (l : List Stamped). l ++ rest.0) (commands_of-append made (turn ∷ [])) ∙ append_assoc (commands_of made) (command ∷ []) rest.0)

-- the clock is read for commands alone
pub clock_read : ClockIsReadForCommands
unfolding turns TurnsNoneAway
clock_read script none zero state clock = refl
clock_read ended none (suc count) state clock = refl
clock_read (errs text script) none (suc count) state clock =
    let here = clock_read script none count state clock in
    let first = sum_by-cons (λ (turn : Turn). cond turn.reads 1 0) (error_turn text) (take count (turns script state clock)) in
    omega (arith, here, first)
clock_read (says text script) none (suc count) state clock =
    let here = clock_read script none count state clock in
    let first = sum_by-cons (λ (turn : Turn). cond turn.reads 1 0) (text_turn (text state)) (take count (turns script state clock)) in
    omega (arith, here, first)
clock_read (turns_away text script) none (suc count) state clock = absurd none
clock_read (asks request shown script) none (suc count) state clock =
    let command = stamped_by clock request in
    let outcome = outcome_in state command in
    let here = clock_read (script outcome) (none outcome) count outcome.state (later_of clock) in
    let first = sum_by-cons (λ (turn : Turn). cond turn.reads 1 0) (command_turn command (shown outcome)) (take count (turns (script outcome) outcome.state (later_of clock))) in
    omega (arith, here, first)

line_turns : (number : ℕ) (read : Result Request LineFault) (following : Script) → TurnsNoneAway following → TurnsNoneAway (line_script number read following)
unfolding TurnsNoneAway
line_turns number (Err why) following none = none
line_turns number (Ok request) following none = λ outcome. none

pub lines_turn : LinesTurnNoneAway
unfolding session_script TurnsNoneAway
lines_turn number [] = tt
lines_turn number (x ∷ texts) = line_turns number (read_text x) (session_script (number + 1) texts) (lines_turn (number + 1) texts)

either_turns : (test : Bool) (one other : Script) → TurnsNoneAway one → TurnsNoneAway other → TurnsNoneAway (if test then one else other)
either_turns true one other first second = first
either_turns false one other first second = second

until_turns : (requests : List Request) → TurnsNoneAway (until_refused requests)
unfolding until_refused TurnsNoneAway
until_turns [] = tt
until_turns (request ∷ requests) = λ outcome. either_turns (is_refused outcome) ended (until_refused requests) tt (until_turns requests)

put_turns : (key : List ℕ) (stream : ℕ) (bytes : List ℕ) → TurnsNoneAway (put_script key stream bytes)
unfolding TurnsNoneAway
put_turns key stream bytes = λ opened.
    let more = to_write 0 stream 0 true bytes ∷ to_close 0 ∷ [] in
    either_turns (is_missing opened) (until_refused (to_create 0 key ∷ more)) (if is_refused opened then ended else until_refused more) (until_turns (to_create 0 key ∷ more))
    (either_turns (is_refused opened) ended (until_refused more) tt (until_turns more))

pub fixed_turn : FixedScriptsTurnNoneAway
unfolding TurnsNoneAway
fixed_turn = (until_turns, (tt, put_turns))
