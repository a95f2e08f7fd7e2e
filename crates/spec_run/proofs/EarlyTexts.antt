-- What may be out of an iteration before its note: lines of what its command evicts.
use Rattle.std.proofs.Common.{ℕ, ◌+◌, ◌≡◌, Bool, true, false, List, [], ◌∷◌, ◌++◌, Option, Some, None, Result, Ok, Err, refl, ap, subst, sym}
use Rattle.std.specs.List.{cons_option}
use Rattle.std.specs.Prelude.{if◌then◌else◌, not}
use Rattle.std.proofs.lemmas.List.{append-nil}
use Rattle.blk_model.specs.Request.{Request, to_close, to_create, to_write}
use Rattle.blk_model.specs.State.{State}
use Rattle.blk_model.specs.Step.{Outcome}
use Rattle.blk_io.specs.Streams.{Readings, later_of}
use Rattle.blk_script.specs.declared.fault.LineFault.{LineFault}
use Rattle.blk_script.specs.Line.{read_text}
use Rattle.blk_script.specs.Reply.{evicted_text}
use Rattle.spec_run.specs.Laws.{EvictedLinesComeEarly, FixedScriptsPrintEvictionsEarly, LinesPrintEvictionsEarly}
use Rattle.spec_run.specs.Replies.{Begins, PrintsEvictionsEarly, evictions_of}
use Rattle.spec_run.specs.Run.{Stamped, Turn, commands_of, outcome_in, stamped_by, state_after, state_then, turns}
use Rattle.spec_run.specs.Script.{Script, asks, ended, errs, is_missing, is_refused, line_script, put_script, says, session_script, shown_where, turns_away, until_refused}

-- the state after an iteration
state_behind : State → Option Stamped → State
state_behind state None = state
state_behind state (Some command) = state_then state command

-- of each of some iterations only lines of what its command evicts may be out before its note, and nothing where it is no command
AreEarly : State → List Turn → Type 0
AreEarly state [] = Unit {0}
AreEarly state (turn ∷ more) = Begins turn.early (evictions_of state turn.command) × AreEarly (state_behind state turn.command) more

state_more : (state : State) (o : Option Stamped) (before : List Turn) → state_after (state_behind state o) (commands_of before) ≡ state_after state (cons_option o (commands_of before))
unfolding state_after state_behind
state_more state None before = refl
state_more state (Some command) before = refl

early_at : (state : State) (before behind : List Turn) (turn : Turn) → AreEarly state (before ++ turn ∷ behind) → Begins turn.early (evictions_of (state_after state (commands_of before)) turn.command)
unfolding state_after AreEarly
early_at state [] behind turn early = early.0
early_at state (first ∷ before) behind turn early =
    subst (λ (s : State). Begins turn.early (evictions_of s turn.command)) (state_more state first.command before)
    (early_at (state_behind state first.command) before behind turn early.1)

all_early : (script : Script) → PrintsEvictionsEarly script → (state : State) (clock : Readings) → AreEarly state (turns script state clock)
unfolding turns AreEarly state_behind PrintsEvictionsEarly
all_early ended prints state clock = tt
all_early (errs text script) prints state clock = (([], refl), all_early script prints state clock)
all_early (says text script) prints state clock = (([], refl), all_early script prints state clock)
all_early (turns_away text script) prints state clock = (([], refl), all_early script prints state (later_of clock))
all_early (asks request shown script) prints state clock =
    let outcome = outcome_in state (stamped_by clock request) in
    ((prints outcome).0, all_early (script outcome) (prints outcome).1 outcome.state (later_of clock))

pub evictions_early : EvictedLinesComeEarly
evictions_early script prints state clock before behind turn split = early_at state before behind turn (subst (AreEarly state) split (all_early script prints state clock))

-- what is shown of a command, or not
shown_early : (test : Bool) (outcome : Outcome) → Begins (shown_where test outcome).early (evicted_text outcome.groups)
shown_early true outcome = ([], sym (append-nil (evicted_text outcome.groups)))
shown_early false outcome = (evicted_text outcome.groups, refl)

line_early : (number : ℕ) (read : Result Request LineFault) (following : Script) → PrintsEvictionsEarly following → PrintsEvictionsEarly (line_script number read following)
unfolding PrintsEvictionsEarly
line_early number (Err why) following early = early
line_early number (Ok request) following early = λ outcome. (shown_early true outcome, early)

pub lines_early : LinesPrintEvictionsEarly
unfolding session_script PrintsEvictionsEarly
lines_early number [] = tt
lines_early number (x ∷ texts) = line_early number (read_text x) (session_script (number + 1) texts) (lines_early (number + 1) texts)

either_early : (test : Bool) (one other : Script) → PrintsEvictionsEarly one → PrintsEvictionsEarly other → PrintsEvictionsEarly (if test then one else other)
either_early true one other first second = first
either_early false one other first second = second

until_early : (requests : List Request) → PrintsEvictionsEarly (until_refused requests)
unfolding until_refused PrintsEvictionsEarly
until_early [] = tt
until_early (request ∷ requests) = λ outcome. (shown_early true outcome, either_early (is_refused outcome) ended (until_refused requests) tt (until_early requests))

put_early : (key : List ℕ) (stream : ℕ) (bytes : List ℕ) → PrintsEvictionsEarly (put_script key stream bytes)
unfolding PrintsEvictionsEarly
put_early key stream bytes = λ opened.
    let more = to_write 0 stream 0 true bytes ∷ to_close 0 ∷ [] in (
      shown_early (not (is_missing opened)) opened,
      either_early (is_missing opened) (until_refused (to_create 0 key ∷ more)) (if is_refused opened then ended else until_refused more) (until_early (to_create 0 key ∷ more))
          (either_early (is_refused opened) ended (until_refused more) tt (until_early more)),
    )

pub fixed_early : FixedScriptsPrintEvictionsEarly
unfolding PrintsEvictionsEarly
fixed_early = (until_early, (tt, put_early))
