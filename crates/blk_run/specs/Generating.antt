-- The iterations of the generator, as they are played.
use Rattle.std.specs.Prelude.{ℕ, ◌≡◌, ◌≤◌, ◌<◌, ◌+◌, ◌-◌, ◌*◌, ◌^◌, Bool, false, if◌then◌else◌, List, [], ◌∷◌, Result, Ok, Err, IfOk, OnOk}
use Rattle.std.specs.Option.{ForSome}
use Rattle.std.specs.declared.option.Option.{Option}
use Rattle.spec_image.specs.Image.{Image}
use Rattle.spec_image.specs.Told.{Told}
use Rattle.blk_io.specs.Streams.{Readings, reading_of}
use Rattle.blk_model.specs.declared.Answer.{Answer}
use Rattle.blk_model.specs.Reply.{answer_of}
use Rattle.blk_model.specs.Request.{Request, to_close, to_create, to_open, to_read, to_write}
use Rattle.blk_model.specs.Sizes.{most_items}
use Rattle.blk_model.specs.State.{State}
use Rattle.spec_run.specs.Run.{Stamped, Turn, command_turn, outcome_in, turns}
use Rattle.spec_run.specs.Script.{is_refusal, refusal_of, Script, shown_where}
use Rattle.blk_gen.specs.declared.counting.Counts.{Counts}
use Rattle.blk_gen.specs.Counting.{with_outcome}
use Rattle.blk_cache.specs.declared.fault.StepFault.{StepFault}
use Rattle.blk_run.specs.Fixed.{PlaysUpTo}
use Rattle.blk_run.specs.Playing.{Around, Plays, PlaysPart, SoFar, state_now}

-- the most bytes that a Read of the generator asks for
abbrev pub longest_read : ℕ
longest_read = 20001

-- the request is one that the generator may make
abbrev pub IsGeneratedRequest : Request → Type 0
IsGeneratedRequest (to_create handle key) = Unit {0}
IsGeneratedRequest (to_open handle key) = Unit {0}
IsGeneratedRequest (to_read handle stream offset count) = count ≤ longest_read
IsGeneratedRequest (to_write handle stream offset cut bytes) = Unit {0}
IsGeneratedRequest (to_close handle) = Unit {0}
IsGeneratedRequest _ = ⊥

-- how many items a command of the generator evicted, from the number of items before and after it: a Create that isn't refused added one, and only a Create and
-- a Write evict
abbrev pub evicted_by : Request → Answer → (before after : ℕ) → ℕ
evicted_by (to_create handle key) a before after = if is_refusal (refusal_of a) then 0 else before - (after - 1)
evicted_by (to_write handle stream offset cut bytes) a before after = before - after
evicted_by _ a before after = 0

-- the counters of the generator are within what this many commands may add up to
pub record AreWithin (commands : ℕ) (counts : Counts) : Type 0 where
  pub commands_few : counts.commands ≤ commands
  pub refused_few : counts.refused ≤ commands
  pub evicted_few : counts.evicted ≤ commands * most_items
  pub read_few : counts.read ≤ commands * longest_read

-- the iteration of a command whose reply isn't shown
abbrev pub hidden_turn : SoFar → Stamped → Turn
hidden_turn far command = command_turn command (shown_where false (outcome_in (state_now far) command))

-- the rest of a script, which may depend on what was counted so far
abbrev pub Following : Type 0
Following = Counts → Script

-- what is observable around a player that prints nothing of its own, and whether something was refused before
abbrev pub unshown : Told → Option (List ℕ) → Option Readings → Bool → Around
unshown folder written clock refused = record { folder = folder; written = written; clock = clock; refused = refused }

-- the command was made at the next reading of the clock, its reply wasn't shown, and the counters have its outcome
pub record AsksCounted (result : Result Answer StepFault) (request : Request) (counts_old counts_new : Counts) (far : SoFar) (keeps : State → Image → Type 0) (notes left : ℕ) (told_old told_new : Told) (clock_old clock_new : Option Readings) : Type 0 where
  pub moment : ℕ
  pub read : ForSome clock_old (λ r. moment ≡ reading_of r)
  pub answered : IfOk result (λ answer. answer ≡ answer_of (outcome_in (state_now far) (record { moment = moment; request = request })).reply)
  pub counted : OnOk result ((commands : ℕ) → commands < 2 ^ 36 → AreWithin commands counts_old → (counts_new ≡ with_outcome (outcome_in (state_now far) (record { moment = moment; request = request })) counts_old) × AreWithin (commands + 1) counts_new)
  pub plays : (written : Option (List ℕ)) (refused : Bool) → Plays result (hidden_turn far (record { moment = moment; request = request }) ∷ []) far keeps notes left (unshown told_old written clock_old refused) (unshown told_new written clock_new refused)

-- the outcome of playing a script up to the part that is left; at an error a prefix of it was played
abbrev pub PlaysOn : Result (Unit {0}) StepFault → (whole rest : Script) → SoFar → (State → Image → Type 0) → (notes left : ℕ) → (old new : Around) → Type 0
PlaysOn (Ok done) whole rest far keeps notes left old new = PlaysUpTo (turns whole) (turns rest) far keeps notes left old new
PlaysOn (Err why) whole rest far keeps notes left old new = PlaysPart {A = Unit {0}} (Err why) (turns whole) far keeps notes left old new

-- the first commands of a script were made, and at most `commands` of them are in the counters
pub record PlaysCounted (result : Result (Unit {0}) StepFault) (commands : ℕ) (counts : Counts) (whole rest : Script) (far : SoFar) (keeps : State → Image → Type 0) (notes left : ℕ) (old new : Around) : Type 0 where
  pub within : OnOk result (AreWithin commands counts)
  pub plays : PlaysOn result whole rest far keeps notes left old new
