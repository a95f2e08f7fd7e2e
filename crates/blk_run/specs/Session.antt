-- The contract of a session by its status: what it prints, what holds at its end, and what a crash after any single write leaves.
use Rattle.std.specs.Prelude.{ℕ, ◌≡◌, ◌⊎◌, ◌+◌, ◌<◌, true, false, List, ◌++◌, length, take}
use Rattle.std.specs.Option.{option_map, ForSome}
use Rattle.std.specs.declared.option.Option.{Option}
use Rattle.std.specs.declared.option.Option.TheVariants.{Some}
use Rattle.spec_image.specs.Checks.{Damage}
use Rattle.spec_image.specs.Image.{Image}
use Rattle.spec_image.specs.Notes.{notes_in}
use Rattle.spec_image.specs.Told.{Rises, Stays, Told}
use Rattle.blk_model.specs.Holding.{open_state, rest}
use Rattle.blk_model.specs.State.{Bounds}
use Rattle.spec_folder.specs.Found.{found}
use Rattle.blk_io.specs.Streams.{Appends, Readings, later_of}
use Rattle.spec_run.specs.Inputs.{Protocol}
use Rattle.spec_run.specs.Progress.{IsWholeRun, Stops}
use Rattle.spec_run.specs.Replies.{PrintsNoLess, PrintsNoMore}
use Rattle.spec_run.specs.Run.{Run, Stamped, clock_after, commands, cut_after, last_state, readings_in, refuse, run_of, text_of}
use Rattle.spec_run.specs.Script.{Script}
use Rattle.blk_cache.specs.Opening.{EndsSession}
use Rattle.blk_run.specs.declared.ending.Status.{Status}
use Rattle.blk_run.specs.declared.ending.Status.TheVariants as status
use Rattle.blk_run.specs.Inputs.{IsPastBudget, IsReadWhole, IsTaken, IsTakenPast, IsTakenUpTo}
use Rattle.blk_run.specs.Texts.{Prints, damage_line}
use Rattle.blk_run.specs.WholeInputs.{longest_input}

-- what is observable outside the program: the folder, the output, the rest of the input, and the readings of the clock to come
pub record Outside : Type 0 where
  pub folder : Told
  pub written : Option (List ℕ)
  pub left : Option (List ℕ)
  pub clock : Option Readings

-- what is observable outside, from its four parts
abbrev pub outside : Told → (written left : Option (List ℕ)) → Option Readings → Outside
outside folder written left clock = record { folder = folder; written = written; left = left; clock = clock }

-- what is observable outside, with the readings that the clock gives from here on
abbrev pub with_readings : Outside → Readings → Outside
with_readings told readings = record { folder = told.folder; written = told.written; left = told.left; clock = Some readings }

-- what is observable outside, with the readings and the bytes that clock and input give from here on
abbrev pub with_given : Outside → Readings → List ℕ → Outside
with_given told readings input = record { folder = told.folder; written = told.written; left = Some input; clock = Some readings }

-- what is observable outside, with this rest of the input
abbrev pub with_left : Outside → Option (List ℕ) → Outside
with_left told left = record told { left = left }

-- what is seen of a call from outside: what is observable before it and after it; that the error counter of the folder rose (`device`), and that of the input
-- (`source`); and the error counter of the output before it and after it (`before`, `now`)
pub record Seen : Type 1 where
  pub old : Outside
  pub new : Outside
  pub device : Type 0
  pub source : Type 0
  pub before : ℕ
  pub now : ℕ

-- what is seen of a call, from its parts
abbrev pub seen_as : (old new : Outside) → (device source : Type 0) → (before now : ℕ) → Seen
seen_as old new device source before now = record { old = old; new = new; device = device; source = source; before = before; now = now }

-- what is seen of a call, with the readings and the bytes that clock and input give from its start on and from its end on
abbrev pub seen_given : Seen → (early late : Readings) → (input rest : List ℕ) → Seen
seen_given seen early late input rest = seen_as (with_given seen.old early input) (with_given seen.new late rest) seen.device seen.source seen.before seen.now

-- How the iterations ended.

-- how the iterations of a session ended, before its handles are closed: all were made; only these bytes of the input were read; or the text of the iteration
-- after that many could not be printed
pub data Ending : Type 0 where
  all_made : Ending
  taken : List ℕ → Ending
  unprinted : ℕ → Ending

-- the run of a script in the model, over the recovered contents of an image
abbrev pub session_run : Image → Bounds → Readings → Script → Run
session_run from limits readings script = run_of script (found from) limits readings

-- the run of an input in the model, with this ending: the whole script; that of the bytes that were read; or the iterations up to and including that whose text
-- could not be printed
abbrev pub ended_run : Protocol → Image → Bounds → Readings → List ℕ → Ending → Run
ended_run protocol from limits readings input all_made = session_run from limits readings (protocol.whole input)
ended_run protocol from limits readings input (taken bytes) = session_run from limits readings (protocol.taken bytes)
ended_run protocol from limits readings input (unprinted count) = cut_after (count + 1) (session_run from limits readings (protocol.whole input))

-- which endings a status allows; `source` and `sink` say that the error counter of input or output rose. At status Device the folder may also have failed in
-- the closing after any of these endings
abbrev pub MayEnd : Protocol → Status → Ending → ℕ → List ℕ → Run → Option (List ℕ) → (source sink : Type 0) → Type 0
MayEnd protocol status.Ok all_made budget input run left source sink = IsReadWhole budget input left × ((protocol.breaks_off input ≡ false) × (refuse run.turns ≡ false))
MayEnd protocol status.Refused all_made budget input run left source sink = IsReadWhole budget input left × ((protocol.breaks_off input ≡ false) × (refuse run.turns ≡ true))
MayEnd protocol status.Source (taken bytes) budget input run left source sink = IsTaken budget input bytes left
MayEnd protocol status.TooLong (taken bytes) budget input run left source sink = IsPastBudget budget input bytes left
MayEnd protocol status.Sink (unprinted count) budget input run left source sink = count < length run.turns
MayEnd protocol status.Device all_made budget input run left source sink = Unit {0}
MayEnd protocol status.Device (taken bytes) budget input run left source sink = (source × IsTaken budget input bytes left) ⊎ IsPastBudget budget input bytes left
MayEnd protocol status.Device (unprinted count) budget input run left source sink = sink × (count < length run.turns)
MayEnd protocol _ _ budget input run left source sink = ⊥

-- What is printed.

-- the texts of the first `count` iterations were printed, and a prefix of the next
pub record PrintsUpTo (count : ℕ) (run : Run) (old new : Outside) : Type 0 where
  pub front : List ℕ
  pub rest : List ℕ
  pub split : text_of run.turns ≡ text_of (take count run.turns) ++ (front ++ rest)
  pub written : new.written ≡ option_map (λ (w : List ℕ). w ++ (text_of (take count run.turns) ++ front)) old.written

-- what is printed by status and ending: the text of the run; the texts up to an iteration and a prefix of it, where the output failed; some prefix, where the
-- folder failed
abbrev pub Printed : Status → Ending → Run → Outside → Outside → Type 0
Printed status.Device ending run old new = Appends old.written new.written (text_of run.turns)
Printed _ (unprinted count) run old new = PrintsUpTo count run old new
Printed _ ending run old new = new.written ≡ option_map (λ (w : List ℕ). w ++ text_of run.turns) old.written

-- Runs.

-- the end of a run in which the folder didn't fail: recovery gives the durable contents of its last state, the folder is consistent with no open session, and
-- the clock was read for the opening and before each command
pub record IsEnded (run : Run) (old new : Outside) : Type 0 where
  pub holds : ForSome new.folder.files (λ image. found image ≡ rest (last_state run))
  pub ends : ForSome new.folder.files EndsSession
  pub read : new.clock ≡ option_map (λ r. clock_after (later_of r) (readings_in run)) old.clock

-- a run in which the folder failed, by its notes: the folder is as a crash during the run may leave it; no reply was printed but of a noted command; and unless
-- the output failed, as `sink` says, all texts before that of the last noted command were printed
pub record StopsByNotes (from : Image) (run : Run) (sink : Type 0) (old new : Outside) : Type 0 where
  pub stops : Stops from run.opened (commands run) old.folder new.folder
  pub no_more : PrintsNoMore run.turns (notes_in stops.steps) old.written new.written
  pub no_less : (sink → ⊥) → PrintsNoLess run.turns (notes_in stops.steps) old.written new.written

-- at an I/O error the folder is as a crash during the run may leave it, and what was printed follows from the notes; otherwise the run is whole
abbrev pub Stopped : Status → Image → Run → (sink : Type 0) → Outside → Outside → Type 0
Stopped status.Device from run sink old new = StopsByNotes from run sink old new
Stopped _ from run sink old new = IsWholeRun from run.opened (commands run) old.folder new.folder

-- P holds unless the status is an I/O error of the folder
abbrev pub UnlessDevice : Status → Type 0 → Type 0
UnlessDevice status.Device P = Unit {0}
UnlessDevice _ P = P

-- the outcome of a run with this status and ending: what it printed, how it left the folder, and what a crash after any of its writes leaves
pub record EndsAs (result : Status) (ending : Ending) (from : Image) (run : Run) (sink : Type 0) (old new : Outside) : Type 0 where
  pub printed : Printed result ending run old new
  pub ended : UnlessDevice result (IsEnded run old new)
  pub stopped : Stopped result from run sink old new

-- a session whose folder was opened: its ending, the run in the model, and the outcome
pub record Runs (protocol : Protocol) (result : Status) (limits : Bounds) (budget : ℕ) (from : Image) (readings : Readings) (input : List ℕ) (source sink : Type 0) (old new : Outside) : Type 0 where
  pub ending : Ending
  pub run : Run
  pub is : run ≡ ended_run protocol from limits readings input ending
  pub may_end : MayEnd protocol result ending budget input run new.left source sink
  -- at most one byte more than the input limit is read
  pub takes : IsTakenUpTo (budget + 1) new.left input
  pub ends : EndsAs result ending from run sink old new

-- a session in whose opening the folder failed: nothing was printed or read, and the folder is as a crash in the opening may leave it
pub record IsUnopened (limits : Bounds) (from : Image) (old new : Outside) : Type 0 where
  pub unprinted : new.written ≡ old.written
  pub unread : new.left ≡ old.left
  pub stops : (commands : List Stamped) → Stops from (open_state (found from) limits) commands old.folder new.folder

-- nothing was written, read or printed
pub record DoesNothing (old new : Outside) : Type 0 where
  pub unwritten : Stays old.folder new.folder
  pub unread : new.left ≡ old.left
  pub unprinted : new.written ≡ old.written

-- the contract of a session by its status, for an image that is uninitialized or well formed
abbrev pub Session : Protocol → Status → Bounds → (budget : ℕ) → Image → Readings → (input : List ℕ) → Seen → Type 0
Session protocol status.Memory limits budget from readings input seen = DoesNothing seen.old seen.new
Session protocol status.Words limits budget from readings input seen = ⊥
Session protocol status.Damaged limits budget from readings input seen = ⊥
Session protocol status.Device limits budget from readings input seen = Runs protocol status.Device limits budget from readings input seen.source (Rises seen.before seen.now) seen.old seen.new ⊎ IsUnopened limits from seen.old seen.new
Session protocol result limits budget from readings input seen = Runs protocol result limits budget from readings input seen.source (Rises seen.before seen.now) seen.old seen.new

-- Completeness.

-- where nothing failed and the input is within the input limit, the whole output was printed; or memory ran out, and nothing was done
abbrev pub IsComplete : Protocol → Status → Bounds → Image → Readings → List ℕ → Outside → Outside → Type 0
IsComplete protocol status.Ok limits from readings input old new = new.written ≡ option_map (λ (w : List ℕ). w ++ text_of (session_run from limits readings (protocol.whole input)).turns) old.written
IsComplete protocol status.Refused limits from readings input old new = new.written ≡ option_map (λ (w : List ℕ). w ++ text_of (session_run from limits readings (protocol.whole input)).turns) old.written
IsComplete protocol status.Memory limits from readings input old new = DoesNothing old new
IsComplete protocol _ limits from readings input old new = ⊥

-- where nothing failed, the whole output of a fixed script was printed; or memory ran out, and nothing was done
abbrev pub IsCompleteScript : Status → Script → Bounds → Image → Readings → Outside → Outside → Type 0
IsCompleteScript status.Ok script limits from readings old new = new.written ≡ option_map (λ (w : List ℕ). w ++ text_of (run_of script (found from) limits readings).turns) old.written
IsCompleteScript status.Refused script limits from readings old new = new.written ≡ option_map (λ (w : List ℕ). w ++ text_of (run_of script (found from) limits readings).turns) old.written
IsCompleteScript status.Memory script limits from readings old new = DoesNothing old new
IsCompleteScript _ script limits from readings old new = ⊥

-- A folder that is corrupt at the start.

-- the failed check is printed, and nothing else is done; `before` and `now` are the error counter of the output
pub record ShowsDamage (damage : Damage) (before now : ℕ) (old new : Outside) : Type 0 where
  pub unwritten : Stays old.folder new.folder
  pub unread : new.left ≡ old.left
  pub printed : Prints old.written new.written before now (damage_line damage)

-- a session on a folder of which this check fails, by its status: the check is printed; or memory ran out or the folder failed, and nothing was done
abbrev pub OnDamage : Status → Damage → (before now : ℕ) → Outside → Outside → Type 0
OnDamage status.Damaged damage before now old new = ShowsDamage damage before now old new
OnDamage status.Memory damage before now old new = DoesNothing old new
OnDamage status.Device damage before now old new = DoesNothing old new
OnDamage _ damage before now old new = ⊥

-- Fixed scripts.

-- the run of a fixed script in the model, with this ending
abbrev pub fixed_run : Script → Image → Bounds → Readings → Ending → Run
fixed_run script from limits readings (unprinted count) = cut_after (count + 1) (run_of script (found from) limits readings)
fixed_run script from limits readings _ = run_of script (found from) limits readings

-- which endings of a fixed script a status allows; `sink` says that the error counter of the output rose
abbrev pub FixedMayEnd : Status → Ending → Run → (sink : Type 0) → Type 0
FixedMayEnd status.Ok all_made run sink = refuse run.turns ≡ false
FixedMayEnd status.Refused all_made run sink = refuse run.turns ≡ true
FixedMayEnd status.Sink (unprinted count) run sink = count < length run.turns
FixedMayEnd status.Device all_made run sink = Unit {0}
FixedMayEnd status.Device (unprinted count) run sink = sink × (count < length run.turns)
FixedMayEnd _ _ run sink = ⊥

-- a fixed script whose folder was opened: its ending, the run in the model, and the outcome
pub record FixedRuns (result : Status) (script : Script) (limits : Bounds) (from : Image) (readings : Readings) (sink : Type 0) (old new : Outside) : Type 0 where
  pub ending : Ending
  pub run : Run
  pub is : run ≡ fixed_run script from limits readings ending
  pub may_end : FixedMayEnd result ending run sink
  pub ends : EndsAs result ending from run sink old new

-- the contract of a fixed script by its status, for an image that is uninitialized or well formed
abbrev pub FixedScript : Status → Script → Bounds → Image → Readings → (sink : Type 0) → Outside → Outside → Type 0
FixedScript status.Memory script limits from readings sink old new = DoesNothing old new
FixedScript status.Words script limits from readings sink old new = ⊥
FixedScript status.Damaged script limits from readings sink old new = ⊥
FixedScript status.Device script limits from readings sink old new = FixedRuns status.Device script limits from readings sink old new ⊎ IsUnopened limits from old new
FixedScript result script limits from readings sink old new = FixedRuns result script limits from readings sink old new

-- The script of `put`, which needs the whole input.

-- how much of its input `put` read where it does nothing more: what came before the input failed; one byte more than it may write; where memory ran out
-- nothing, or all of it
abbrev pub TakesUnput : Status → (input : List ℕ) → (old new : Option (List ℕ)) → Type 0
TakesUnput status.Source input old new = IsTakenUpTo longest_input new input
TakesUnput status.TooLong input old new = IsTakenPast longest_input new input
TakesUnput status.Memory input old new = (new ≡ old) ⊎ IsReadWhole longest_input input new
TakesUnput _ input old new = Unit {0}

-- nothing was written or printed; the input may have been read
pub record LeavesUnput (old new : Outside) : Type 0 where
  pub unwritten : Stays old.folder new.folder
  pub unprinted : new.written ≡ old.written

-- the contract of `put` by its status: the input is read in full before the folder is opened, and then written
abbrev pub Put : Status → (List ℕ → Script) → Bounds → Image → Readings → (input : List ℕ) → Seen → Type 0
Put status.Source script limits from readings input seen = TakesUnput status.Source input seen.old.left seen.new.left × LeavesUnput seen.old seen.new
Put status.TooLong script limits from readings input seen = TakesUnput status.TooLong input seen.old.left seen.new.left × LeavesUnput seen.old seen.new
Put status.Memory script limits from readings input seen = TakesUnput status.Memory input seen.old.left seen.new.left × LeavesUnput seen.old seen.new
Put result script limits from readings input seen = IsReadWhole longest_input input seen.new.left × FixedScript result (script input) limits from readings (Rises seen.before seen.now) (with_left seen.old seen.new.left) seen.new
