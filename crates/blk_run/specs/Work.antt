-- The contract of what the program does for its arguments, by its status.
use Rattle.blk_run.specs.Telling.{ReadsAs, TakesAs}
use Rattle.std.specs.Prelude.{ℕ, ◌≡◌, ◌+◌, ◌<◌, ◌≤◌, ◌^◌, List, false, length}
use Rattle.std.specs.Option.{ForSome}
use Rattle.std.specs.declared.option.Option.{Option}
use Rattle.std.specs.declared.option.Option.TheVariants.{None, Some}
use Rattle.spec_image.specs.Checks.{Damage}
use Rattle.spec_image.specs.Image.{Image}
use Rattle.spec_image.specs.Told.{Rises}
use Rattle.spec_format.specs.BlockFiles.{IsDamagedBy, IsUsable}
use Rattle.blk_model.specs.State.{Bounds}
use Rattle.spec_run.specs.Inputs.{Protocol, by_lines}
use Rattle.spec_run.specs.Script.{Script, count_script, doom_script, get_script, list_script, put_script, trim_script}
use Rattle.blk_gen.specs.Generator.{gen_script}
use Rattle.blk_inspect.specs.Texts.{inspect_text, verify_text}
use Rattle.blk_args.specs.Tasks.{Task, do_count, do_doom, do_generate, do_get, do_inspect, do_list, do_put, do_session, do_trim, do_verify}
use Rattle.blk_args.specs.Words.{Invocation}
use Rattle.blk_run.specs.declared.ending.Status.{Status}
use Rattle.blk_run.specs.declared.ending.Status.TheVariants as status
use Rattle.blk_run.specs.Failing.{IsDamagedRun, IsFailedInReading}
use Rattle.blk_run.specs.Inputs.{IsReadWhole, IsTakenUpTo}
use Rattle.blk_run.specs.Session.{DoesNothing, FixedScript, IsComplete, IsCompleteScript, LeavesUnput, OnDamage, Outside, Put, Seen, Session, TakesUnput, seen_given, with_readings}
use Rattle.blk_run.specs.Shown.{IsCompleteText, ShowsText}
use Rattle.blk_run.specs.Statuses.{CauseOf}
use Rattle.blk_run.specs.WholeInputs.{longest_input}

-- the input limit: how many bytes of its input a session uses at most; it reads one more, to see whether there is one
abbrev pub budget : ℕ
budget = 2 ^ 40

-- the kinds of work: to play what the input asks, by a protocol; to play a script that is made of the whole input; to play a script that leaves the input
-- unread; to show a text of the folder
pub data Work : Type 0 where
  input_by : Protocol → Work
  whole_input : (List ℕ → Script) → Work
  no_input : Script → Work
  folder_text : (Image → List ℕ) → Work

-- the work of each subcommand
abbrev pub work_of : Task → Work
work_of do_session = input_by by_lines
work_of do_count = no_input count_script
work_of do_list = no_input list_script
work_of (do_get key stream) = no_input (get_script key stream)
work_of (do_put key stream) = whole_input (put_script key stream)
work_of (do_doom key) = no_input (doom_script key)
work_of (do_trim bytes) = no_input (trim_script bytes)
work_of (do_inspect part) = folder_text (inspect_text part)
work_of do_verify = folder_text verify_text
work_of (do_generate seed turns) = no_input (gen_script seed turns)

-- the contract of the work by its status, for an image that is uninitialized or well formed, whether clock and input are observable or not: there are readings
-- and bytes, those that the calls gave, which are the observed ones where there are such. Showing a text needs neither
abbrev pub DoesWork : Work → Status → Bounds → Image → Seen → Type 0
DoesWork (input_by protocol) result limits from seen = ReadsAs seen.old.clock seen.new.clock (λ readings later. TakesAs seen.old.left seen.new.left (λ input rest. Session protocol result limits budget from readings input (seen_given seen readings later input rest)))
DoesWork (whole_input script) result limits from seen = ReadsAs seen.old.clock seen.new.clock (λ readings later. TakesAs seen.old.left seen.new.left (λ input rest. Put result script limits from readings input (seen_given seen readings later input rest)))
DoesWork (no_input script) result limits from seen = ReadsAs seen.old.clock seen.new.clock (λ readings later. FixedScript result script limits from readings (Rises seen.before seen.now) (with_readings seen.old readings) (with_readings seen.new later))
DoesWork (folder_text text) result limits from seen = ShowsText result (text from) seen.old seen.new

-- where nothing failed, and the input isn't too long and doesn't break off, the whole output was printed, or memory ran out
abbrev pub CompletesWork : Work → Status → Bounds → Image → Outside → Outside → Type 0
CompletesWork (input_by protocol) result limits from old new = ForSome old.clock (λ readings. ForSome old.left (λ input. length input ≤ budget → protocol.breaks_off input ≡ false → IsComplete protocol result limits from readings input old new))
CompletesWork (whole_input script) result limits from old new = ForSome old.clock (λ readings. ForSome old.left (λ input. length input ≤ longest_input → IsCompleteScript result (script input) limits from readings (record old { left = new.left }) new))
CompletesWork (no_input script) result limits from old new = ForSome old.clock (λ readings. IsCompleteScript result script limits from readings old new)
CompletesWork (folder_text text) result limits from old new = IsCompleteText result (text from) old new

-- the contract of a script of the whole input, on a folder of which this check fails: the input wasn't read in full, or memory ran out, and nothing else was
-- done; or it was read, and the check is printed
abbrev pub ReadsOnDamage : Status → Damage → (before now : ℕ) → Outside → Outside → Type 0
ReadsOnDamage status.Source damage before now old new = ForSome old.left (λ input. TakesUnput status.Source input old.left new.left) × LeavesUnput old new
ReadsOnDamage status.TooLong damage before now old new = ForSome old.left (λ input. TakesUnput status.TooLong input old.left new.left) × LeavesUnput old new
ReadsOnDamage status.Memory damage before now old new = ForSome old.left (λ input. TakesUnput status.Memory input old.left new.left) × LeavesUnput old new
ReadsOnDamage result damage before now old new = ForSome old.left (λ input. IsReadWhole longest_input input new.left) × OnDamage result damage before now (record old { left = new.left }) new

-- the contract of the work by its status, on a folder of which this check fails
abbrev pub MeetsDamage : Work → Status → Damage → (before now : ℕ) → Outside → Outside → Type 0
MeetsDamage (input_by protocol) result damage before now old new = OnDamage result damage before now old new
MeetsDamage (whole_input script) result damage before now old new = ReadsOnDamage result damage before now old new
MeetsDamage (no_input script) result damage before now old new = OnDamage result damage before now old new
MeetsDamage (folder_text text) result damage before now old new = OnDamage result damage before now old new

-- the input is longer than the work allows
abbrev pub IsInputTooLong : Work → Option (List ℕ) → Type 0
IsInputTooLong (input_by protocol) left = ForSome left (λ input. budget < length input)
IsInputTooLong (whole_input script) left = ForSome left (λ input. longest_input < length input)
IsInputTooLong (no_input script) left = ⊥
IsInputTooLong (folder_text text) left = ⊥

-- how much of the input the work reads: at most one byte more than it allows; nothing for work without input
abbrev pub TakesInput : Work → (old new : Option (List ℕ)) → Type 0
TakesInput (input_by protocol) old new = ForSome old (IsTakenUpTo (budget + 1) new)
TakesInput (whole_input script) old new = ForSome old (IsTakenUpTo (longest_input + 1) new)
TakesInput (no_input script) old new = new ≡ old
TakesInput (folder_text text) old new = new ≡ old

-- a check of the work failed: of a run, or of what is read for a text
abbrev pub IsDamagedWork : Work → (before now : ℕ) → Outside → Outside → Type 0
IsDamagedWork (input_by protocol) before now old new = IsDamagedRun old.folder new.folder old.written new.written before now
IsDamagedWork (whole_input script) before now old new = IsDamagedRun old.folder new.folder old.written new.written before now
IsDamagedWork (no_input script) before now old new = IsDamagedRun old.folder new.folder old.written new.written before now
IsDamagedWork (folder_text text) before now old new = IsFailedInReading old.folder old.written new.written before now

-- where memory ran out nothing was done, but that a script of the whole input may have read it
abbrev pub DoesNoWork : Work → Outside → Outside → Type 0
DoesNoWork (input_by protocol) old new = DoesNothing old new
DoesNoWork (whole_input script) old new = LeavesUnput old new
DoesNoWork (no_input script) old new = DoesNothing old new
DoesNoWork (folder_text text) old new = DoesNothing old new

-- the contract of the work, by what is seen of the call
pub record Performs (work : Work) (result : Status) (limits : Bounds) (seen : Seen) : Type 0 where
  -- on a folder that is uninitialized or well formed the work is the run in the model, whatever clock and input give
  pub plays : ForSome seen.old.folder.files (λ from. IsUsable from → DoesWork work result limits from seen)
  -- where nothing fails the whole output is printed, unless memory ran out
  pub complete : ForSome seen.old.folder.files (λ from. IsUsable from → (seen.device → ⊥) → (seen.source → ⊥) → (Rises seen.before seen.now → ⊥) → CompletesWork work result limits from seen.old seen.new)
  -- on an initialized folder of which a check fails this check is printed, and no more is done
  pub damage : ForSome seen.old.folder.files (λ from. (damage : Damage) → IsDamagedBy damage from → MeetsDamage work result damage seen.before seen.now seen.old seen.new)
  -- the cause of each status, on every folder
  pub cause : CauseOf result (IsDamagedWork work seen.before seen.now seen.old seen.new) seen.device seen.source (Rises seen.before seen.now) (IsInputTooLong work seen.old.left)
  pub takes : TakesInput work seen.old.left seen.new.left
  -- out of memory nothing was done, on every folder
  pub memory : result ≡ status.Memory → DoesNoWork work seen.old seen.new

-- the work leaves the input unread
abbrev pub IsUnread : Work → Type 0
IsUnread (input_by protocol) = ⊥
IsUnread (whole_input script) = ⊥
IsUnread (no_input script) = Unit {0}
IsUnread (folder_text text) = Unit {0}

-- what the arguments ask for, if they ask for something, leaves the input unread
abbrev pub LeavesInput : Option Invocation → Type 0
LeavesInput None = Unit {0}
LeavesInput (Some asked) = IsUnread (work_of asked.task)

-- the work only reads the folder
abbrev pub IsUnwritten : Work → Type 0
IsUnwritten (folder_text text) = Unit {0}
IsUnwritten _ = ⊥

-- what the arguments ask for only reads the folder
abbrev pub LeavesFolder : Option Invocation → Type 0
LeavesFolder None = ⊥
LeavesFolder (Some asked) = IsUnwritten (work_of asked.task)
