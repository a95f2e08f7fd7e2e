-- A run of a script as far as it has come, and the iterations that were made of it.
use Rattle.std.specs.Prelude.{ℕ, ◌≡◌, ◌+◌, ◌*◌, ◌<◌, ◌≤◌, ◌^◌, ◌||◌, Bool, true, false, List, [], ◌∷◌, ◌++◌, length, take, Result, Ok, Err, IfOk}
use Rattle.std.specs.Option.{option_map, ForSome}
use Rattle.std.specs.declared.option.Option.{Option}
use Rattle.std.specs.declared.option.Option.TheVariants.{Some}
use Rattle.spec_image.specs.Image.{Image}
use Rattle.spec_image.specs.Told.{Told}
use Rattle.blk_io.specs.Streams.{Appends, Readings, reading_of}
use Rattle.blk_model.specs.declared.Answer.{Answer}
use Rattle.blk_model.specs.Reply.{answer_of}
use Rattle.blk_model.specs.Request.{Request}
use Rattle.spec_run.specs.Script.{is_refusal, refusal_of, shown_where}
use Rattle.blk_model.specs.State.{State}
use Rattle.spec_run.specs.Run.{Stamped, Turn, command_turn, outcome_in, commands_of, readings_of, text_of, refuse, state_after, clock_after}
use Rattle.spec_run.specs.Lines.{Cut, with_bytes}
use Rattle.spec_run.specs.Progress.{Progress, StopsAfter}
use Rattle.spec_run.specs.Replies.{PrintsBeforeLast, PrintsNoMore}
use Rattle.blk_cache.specs.declared.fault.StepFault.{StepFault}
use Rattle.blk_cache.specs.declared.fault.StepFault.TheVariants as fault

-- how far a run has come: the image with which the call began, the state that was opened, and the commands that are done
pub record SoFar : Type 0 where
  pub start : Told
  pub from : Image
  pub opened : State
  pub done : List Stamped

-- the state after the commands that are done
abbrev pub state_now : SoFar → State
state_now far = state_after far.opened far.done

-- the run with more commands done
abbrev pub with_more : SoFar → List Stamped → SoFar
with_more far more = record { start = far.start; from = far.from; opened = far.opened; done = far.done ++ more }

-- invariant of a run in an observable folder: the state after its commands is kept, each command has its completion marker, after each prefix of the writes the
-- folder is as a crash may leave it, and the commands are few enough for the `left` bytes to come
pub record StandsAt (far : SoFar) (keeps : State → Image → Type 0) (notes left : ℕ) (now : Told) : Type 0 where
  pub began : far.start.files ≡ Some far.from
  pub image : Image
  pub here : now.files ≡ Some image
  pub kept : keeps (state_now far) image
  pub noted : notes ≡ length far.done
  pub few : 2 * length far.done + left < 2 ^ 65
  pub progress : Progress far.from far.opened far.done far.start now

-- what is observable around a player: folder, output and clock; and whether something was refused
pub record Around : Type 0 where
  pub folder : Told
  pub written : Option (List ℕ)
  pub clock : Option Readings
  pub refused : Bool

-- what is observable around a player, from its four parts
abbrev pub around : Told → (written : Option (List ℕ)) → Option Readings → (refused : Bool) → Around
around folder written clock refused = record { folder = folder; written = written; clock = clock; refused = refused }

-- Outcomes of iterations.

-- all iterations were made: their commands are done, each at the next reading of the clock, and their texts are printed
pub record AreMade (made : List Turn) (far : SoFar) (keeps : State → Image → Type 0) (notes left : ℕ) (old new : Around) : Type 0 where
  pub stands : StandsAt (with_more far (commands_of made)) keeps notes left new.folder
  pub printed : new.written ≡ option_map (λ (w : List ℕ). w ++ text_of made) old.written
  pub read : new.clock ≡ option_map (λ r. clock_after r (readings_of made)) old.clock
  pub refused : new.refused ≡ (old.refused || refuse made)

-- iterations were made up to one whose text was printed only in part (its command is done too)
pub record AreMadeTo (made : List Turn) (far : SoFar) (keeps : State → Image → Type 0) (notes left : ℕ) (old new : Around) : Type 0 where
  pub count : ℕ
  pub within : count < length made
  pub stands : StandsAt (with_more far (commands_of (take (count + 1) made))) keeps notes left new.folder
  pub front : List ℕ
  pub rest : List ℕ
  pub split : text_of (take (count + 1) made) ≡ text_of (take count made) ++ (front ++ rest)
  pub printed : new.written ≡ option_map (λ (w : List ℕ). w ++ (text_of (take count made) ++ front)) old.written
  pub read : new.clock ≡ option_map (λ r. clock_after r (readings_of (take (count + 1) made))) old.clock

-- iterations were made up to one in which the folder failed, with the first `noted` of their commands noted: whatever commands follow, the folder is as a crash
-- during them may leave it; and what was printed follows from the notes
pub record AreStopped (made : List Turn) (far : SoFar) (old new : Around) : Type 0 where
  pub noted : ℕ
  pub few : noted ≤ length (commands_of made)
  pub stops : (more : List Stamped) → StopsAfter far.from far.opened (far.done ++ (commands_of made ++ more)) (length far.done + noted) far.start new.folder
  pub printed : Appends old.written new.written (text_of made)
  pub no_more : PrintsNoMore made noted old.written new.written
  pub no_less : PrintsBeforeLast made noted old.written new.written

-- the outcome of iterations by the answer: all, up to a text that wasn't printed, or up to an I/O error; an observable folder reports no failed check
abbrev pub Plays : {A : Type 0} → Result A StepFault → List Turn → SoFar → (State → Image → Type 0) → (notes left : ℕ) → (old new : Around) → Type 0
Plays (Ok a) made far keeps notes left old new = AreMade made far keeps notes left old new
Plays (Err fault.Sink) made far keeps notes left old new = AreMadeTo made far keeps notes left old new
Plays (Err fault.Device) made far keeps notes left old new = AreStopped made far old new
Plays (Err (fault.Damaged damage)) made far keeps notes left old new = ⊥

-- the answer is a refusal
abbrev pub refuses : Answer → Bool
refuses answer = is_refusal (refusal_of answer)

-- there is an answer, and it is a refusal
abbrev pub has_refused : {E : Type 0} → Result Answer E → Bool
has_refused (Ok answer) = refuses answer
has_refused (Err why) = false

-- the iteration of a command at a moment, with its reply shown
abbrev pub asked_turn : SoFar → Stamped → Turn
asked_turn far command = command_turn command (shown_where true (outcome_in (state_now far) command))

-- a command was made at the next reading of the clock: its iteration was played, and its answer is the model's
pub record Asks (result : Result Answer StepFault) (request : Request) (far : SoFar) (keeps : State → Image → Type 0) (notes left : ℕ) (old new : Around) : Type 0 where
  pub moment : ℕ
  pub read : ForSome old.clock (λ r. moment ≡ reading_of r)
  pub answered : IfOk result (λ answer. answer ≡ answer_of (outcome_in (state_now far) (record { moment = moment; request = request })).reply)
  pub plays : Plays result (asked_turn far (record { moment = moment; request = request }) ∷ []) far keeps notes left old new

-- bytes after the incomplete line `before`, cut into complete lines and a rest
abbrev pub cut_behind : List ℕ → List ℕ → Cut
cut_behind before bytes = with_bytes (record { whole = []; rest = before }) bytes

-- the iterations of a part of a script, from the state and the clock so far, were played, as many as the answer says
pub record PlaysPart {A : Type 0} (result : Result A StepFault) (part : State → Readings → List Turn) (far : SoFar) (keeps : State → Image → Type 0) (notes left : ℕ) (old new : Around) : Type 0 where
  pub made : List Turn
  pub are : ForSome old.clock (λ r. made ≡ part (state_now far) r)
  pub plays : Plays result made far keeps notes left old new
