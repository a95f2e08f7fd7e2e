-- The laws by which a run composes: an opening, commands one after another, the closing, and the iterations of a script.
use Rattle.std.specs.Prelude.{◌≡◌, ◌<◌, ◌≤◌, ◌+◌, ◌*◌, ◌^◌, ◌-◌, ◌==◌, ◌⊎◌, ℕ, Bool, true, false, ◌||◌, List, [], ◌∷◌, ◌++◌, length, Some, None, is_some, slice_set, take, drop}
use Rattle.std.specs.List.{Contains}
use Rattle.std.specs.Option.{ForSome}
use Rattle.spec_image.specs.Image.{Image}
use Rattle.spec_image.specs.Steps.{TrailStep, after}
use Rattle.spec_image.specs.Notes.{AtEachPrefix, notes_in}
use Rattle.spec_image.specs.Told.{Told, AppliesPrefix}
use Rattle.blk_model.specs.Sizes.{handle_names}
use Rattle.blk_model.specs.Items.{Item, main, part, Row, item_of}
use Rattle.blk_model.specs.State.{State, Bounds, IsValidState, is_named, named_by, object_at}
use Rattle.blk_model.specs.Holding.{open_state, owner, rest, row_of}
use Rattle.blk_model.specs.Request.{Request, to_close, to_sparse_write, to_write}
use Rattle.blk_model.specs.Effects.{number_of}
use Rattle.blk_model.specs.Room.{Group, single, takes}
use Rattle.blk_model.specs.ListSteps.{front, list_after, list_steps, out}
use Rattle.blk_model.specs.Step.{Outcome}
use Rattle.blk_model.specs.Stops.{is_live_and_settled, is_safe}
use Rattle.spec_format.specs.BlockFiles.{IsUsable}
use Rattle.blk_io.specs.Streams.{Readings, later_of}
use Rattle.law_state.specs.Commands.{note_number}
use Rattle.spec_folder.specs.Found.{HoldsStill, found}
use Rattle.spec_run.specs.Lines.{Cut, with_bytes, lines, whole_lines}
use Rattle.spec_run.specs.Script.{Script, Shown, TurnsNoneAway, ended, errs, says, turns_away, asks, count_script, put_script, session_script, until_refused}
use Rattle.spec_run.specs.Run.{Stamped, Turn, error_turn, text_turn, away_turn, command_turn, stamped_by, outcome_in, state_then, state_after, clock_after, turns, commands_of, readings_of, text_of, bound_names, closings, run_of, cut_after, commands, command_after, state_at}
use Rattle.spec_run.specs.Moments.{IsLeftAt, IsStopped}
use Rattle.spec_run.specs.Opening.{Opens, FailsToOpen, close_mark, has_opened}
use Rattle.spec_run.specs.Progress.{AreNoted, IsWholeRun, MakesCommand, NotesCommand, Progress, Stops}
use Rattle.spec_run.specs.Playing.{IsPlayed}
use Rattle.spec_run.specs.Replies.{Begins, PrintsEvictionsEarly, PrintsNoMore, evictions_of}

-- The opening.

-- an opening that succeeds is the beginning of a run: no command is done yet
abbrev pub RunsBegin : Type 0
RunsBegin = (from : Image) (opened : State) (old new : Told) → old.files ≡ Some from → IsUsable from → Opens from opened old new → Progress from opened [] old new

-- an opening that failed leaves the folder as a crash of a run may, whatever commands would follow
abbrev pub RunsMayStopInTheOpening : Type 0
RunsMayStopInTheOpening = (from : Image) (opened : State) (commands : List Stamped) (old new : Told) → old.files ≡ Some from → IsUsable from → FailsToOpen from opened old new → Stops from opened commands old new

-- Commands.

-- a run goes on with a command that is done and noted
abbrev pub RunsGoOn : Type 0
RunsGoOn = (from : Image) (opened : State) (done : List Stamped) (old mid new : Told) (command : Stamped) → old.files ≡ Some from → Progress from opened done old mid
    → NotesCommand mid new command (length done + 1) (state_after opened done) → Progress from opened (done ++ command ∷ []) old new

-- a run goes on with several commands that are done and noted in turn
abbrev pub RunsGoOnInTurn : Type 0
RunsGoOnInTurn = (from : Image) (opened : State) (done more : List Stamped) (old mid new : Told) → old.files ≡ Some from → Progress from opened done old mid
    → AreNoted mid new (state_after opened done) (length done + 1) more → Progress from opened (done ++ more) old new

-- a command that is made in part, or done and noted, leaves the folder as a crash of the run may
abbrev pub RunsMayStopInACommand : Type 0
RunsMayStopInACommand = (from : Image) (opened : State) (done more : List Stamped) (old mid new : Told) (command : Stamped) → old.files ≡ Some from → Progress from opened done old mid
    → MakesCommand mid new command (length done + 1) (state_after opened done) → Stops from opened (done ++ command ∷ more) old new

-- a run may crash between two commands: after those that are done, whatever commands would follow
abbrev pub RunsMayStopBetween : Type 0
RunsMayStopBetween = (from : Image) (opened : State) (done more : List Stamped) (old new : Told) → Progress from opened done old new → Stops from opened (done ++ more) old new

-- commands that are done and noted in turn, and more of them after those, are all done and noted in turn
abbrev pub NotedCommandsFollow : Type 0
NotedCommandsFollow = (old mid new : Told) (state : State) (number : ℕ) (done more : List Stamped) → AreNoted old mid state number done
    → AreNoted mid new (state_after state done) (number + length done) more → AreNoted old new state number (done ++ more)

-- a note's number is exact below the last value of a u64
abbrev pub NoteNumbersAreExact : Type 0
NoteNumbersAreExact = (count : ℕ) → count < 2 ^ 64 → note_number count ≡ count

-- The end.

-- a run is whole where all its commands are done, and then the step that ends the session was made or none; the recovered contents stay as they are
abbrev pub RunsEnd : Type 0
RunsEnd = (from : Image) (opened : State) (commands : List Stamped) (old mid new : Told) → old.files ≡ Some from → Progress from opened commands old mid
    → AppliesPrefix mid new (close_mark ∷ []) → ForSome mid.files (λ image. ForSome new.files (HoldsStill image)) → IsWholeRun from opened commands old new

-- Iterations.

-- after the iterations of some lines the lines after them are left to be played, in the state and with the clock that the iterations leave
abbrev pub LinesArePlayedInTurn : Type 0
LinesArePlayedInTurn = (number : ℕ) (texts more : List (List ℕ)) (state : State) (clock : Readings)
    → IsPlayed (session_script number (texts ++ more)) state clock (turns (session_script number texts) state clock) (session_script (number + length texts) more)
    (state_after state (commands_of (turns (session_script number texts) state clock))) (clock_after clock (readings_of (turns (session_script number texts) state clock)))

-- before the first iteration a script is played by no iteration, and all of it is left, with the same state and clock
abbrev pub NothingIsPlayed : Type 0
NothingIsPlayed = (script : Script) (state : State) (clock : Readings) → IsPlayed script state clock [] script state clock

-- where a command comes next, a script is played on by its iteration: what follows its outcome is left, in the state after the command
abbrev pub CommandsArePlayed : Type 0
CommandsArePlayed = (script : Script) (state : State) (clock : Readings) (made : List Turn) (request : Request) (shown : Outcome → Shown) (next : Outcome → Script) (now : State) (readings : Readings)
    → IsPlayed script state clock made (asks request shown next) now readings
    → IsPlayed script state clock (made ++ command_turn (stamped_by readings request) (shown (outcome_in now (stamped_by readings request))) ∷ [])
    (next (outcome_in now (stamped_by readings request))) (state_then now (stamped_by readings request)) (later_of readings)

-- where an error comes next, a script is played on by its iteration, and state and clock stay
abbrev pub ErrorsArePlayed : Type 0
ErrorsArePlayed = (script : Script) (state : State) (clock : Readings) (made : List Turn) (text : List ℕ) (next : Script) (now : State) (readings : Readings)
    → IsPlayed script state clock made (errs text next) now readings → IsPlayed script state clock (made ++ error_turn text ∷ []) next now readings

-- where something is rejected outside the cache next, a script is played on by its iteration, which takes a reading of the clock
abbrev pub RefusalsOutsideArePlayed : Type 0
RefusalsOutsideArePlayed = (script : Script) (state : State) (clock : Readings) (made : List Turn) (text : List ℕ) (next : Script) (now : State) (readings : Readings)
    → IsPlayed script state clock made (turns_away text next) now readings → IsPlayed script state clock (made ++ away_turn text ∷ []) next now (later_of readings)

-- where a text of the state comes next, a script is played on by its iteration, and state and clock stay
abbrev pub TextsArePlayed : Type 0
TextsArePlayed = (script : Script) (state : State) (clock : Readings) (made : List Turn) (text : State → List ℕ) (next : Script) (now : State) (readings : Readings)
    → IsPlayed script state clock made (says text next) now readings → IsPlayed script state clock (made ++ text_turn (text now) ∷ []) next now readings

-- iterations of a script, and then iterations of what they left of it, are all iterations of the script
abbrev pub PlayingGoesOn : Type 0
PlayingGoesOn = (script : Script) (state : State) (clock : Readings) (made : List Turn) (left : Script) (now : State) (readings : Readings) (more : List Turn) (last : Script) (state_last : State) (clock_last : Readings)
    → IsPlayed script state clock made left now readings → IsPlayed left now readings more last state_last clock_last → IsPlayed script state clock (made ++ more) last state_last clock_last

-- a run that is cut after the iterations by which its script was played has exactly these, and its commands are theirs and the Closes of the names bound then
abbrev pub PlayedRunsAreCut : Type 0
PlayedRunsAreCut = (script : Script) (found : List Row) (limits : Bounds) (readings : Readings) (made : List Turn) (left : Script) (now : State) (readings_now : Readings)
    → IsPlayed script (open_state found limits) (later_of readings) made left now readings_now
    → ((cut_after (length made) (run_of script found limits readings)).turns ≡ made)
    × (commands (cut_after (length made) (run_of script found limits readings)) ≡ commands_of made ++ closings (bound_names now) readings_now)

-- a run whose script was played to its end has exactly these iterations, and its commands are theirs and the Closes of the names bound then
abbrev pub PlayedRunsAreWhole : Type 0
PlayedRunsAreWhole = (script : Script) (found : List Row) (limits : Bounds) (readings : Readings) (made : List Turn) (now : State) (readings_now : Readings)
    → IsPlayed script (open_state found limits) (later_of readings) made ended now readings_now
    → ((run_of script found limits readings).turns ≡ made) × (commands (run_of script found limits readings) ≡ commands_of made ++ closings (bound_names now) readings_now)

-- the commands of the iterations by which a script was played come first among the commands of its run
abbrev pub PlayedCommandsComeFirst : Type 0
PlayedCommandsComeFirst = (script : Script) (found : List Row) (limits : Bounds) (readings : Readings) (made : List Turn) (left : Script) (now : State) (readings_now : Readings)
    → IsPlayed script (open_state found limits) (later_of readings) made left now readings_now → (more : List Stamped) × (commands (run_of script found limits readings) ≡ commands_of made ++ more)

-- a command that comes next in what is left of a played script is the next command of the run
abbrev pub AskedCommandsAreNext : Type 0
AskedCommandsAreNext = (script : Script) (found : List Row) (limits : Bounds) (readings : Readings) (made : List Turn) (request : Request) (shown : Outcome → Shown) (next : Outcome → Script) (now : State) (readings_now : Readings)
    → IsPlayed script (open_state found limits) (later_of readings) made (asks request shown next) now readings_now
    → (more : List Stamped) × (commands (run_of script found limits readings) ≡ commands_of made ++ stamped_by readings_now request ∷ more)

-- where a script rejects nothing outside the cache, the clock is read once for each command and for nothing else, in each prefix of its iterations
abbrev pub ClockIsReadForCommands : Type 0
ClockIsReadForCommands = (script : Script) → TurnsNoneAway script → (count : ℕ) (state : State) (clock : Readings)
    → readings_of (take count (turns script state clock)) ≡ length (commands_of (take count (turns script state clock)))

-- the script of a session's lines rejects nothing outside the cache
abbrev pub LinesTurnNoneAway : Type 0
LinesTurnNoneAway = (number : ℕ) (texts : List (List ℕ)) → TurnsNoneAway (session_script number texts)

-- the scripts of the other subcommands reject nothing outside the cache: commands up to the first that is refused, the totals, and `put`
abbrev pub FixedScriptsTurnNoneAway : Type 0
FixedScriptsTurnNoneAway = ((requests : List Request) → TurnsNoneAway (until_refused requests)) × (TurnsNoneAway count_script × ((key : List ℕ) (stream : ℕ) (bytes : List ℕ) → TurnsNoneAway (put_script key stream bytes)))

-- in such a script what may be out of an iteration before its note are lines of what its command evicts, and nothing where it is no command
abbrev pub EvictedLinesComeEarly : Type 0
EvictedLinesComeEarly = (script : Script) → PrintsEvictionsEarly script → (state : State) (clock : Readings) (before behind : List Turn) (turn : Turn)
    → turns script state clock ≡ before ++ turn ∷ behind → Begins turn.early (evictions_of (state_after state (commands_of before)) turn.command)

-- the script of a session's lines is such a script
abbrev pub LinesPrintEvictionsEarly : Type 0
LinesPrintEvictionsEarly = (number : ℕ) (texts : List (List ℕ)) → PrintsEvictionsEarly (session_script number texts)

-- and so are the scripts of the other subcommands that play one: commands up to the first that is refused, the totals, and `put`
abbrev pub FixedScriptsPrintEvictionsEarly : Type 0
FixedScriptsPrintEvictionsEarly = ((requests : List Request) → PrintsEvictionsEarly (until_refused requests)) × (PrintsEvictionsEarly count_script × ((key : List ℕ) (stream : ℕ) (bytes : List ℕ) → PrintsEvictionsEarly (put_script key stream bytes)))

-- a session makes at most half as many commands as its input has bytes, rounded up: each has a line that isn't empty
abbrev pub CommandsAreFew : Type 0
CommandsAreFew = (number : ℕ) (bytes : List ℕ) (state : State) (clock : Readings) → 2 * length (commands_of (turns (session_script number (lines bytes)) state clock)) ≤ length bytes + 1

-- Lines.

-- bytes can be cut into lines piece by piece: whole lines stay, and later bytes go on with the line that has no end yet
abbrev pub LinesGoOn : Type 0
LinesGoOn = (cut : Cut) (bytes more : List ℕ) → (with_bytes cut (bytes ++ more) ≡ with_bytes (with_bytes cut bytes) more)
    × ((with_bytes cut more).whole ≡ cut.whole ++ (with_bytes (record { whole = []; rest = cut.rest }) more).whole)
    × ((with_bytes cut more).rest ≡ (with_bytes (record { whole = []; rest = cut.rest }) more).rest)

-- the whole lines of a prefix of an input are the first lines of the input
abbrev pub WholeLinesComeFirst : Type 0
WholeLinesComeFirst = (bytes more : List ℕ) → (later : List (List ℕ)) × (lines (bytes ++ more) ≡ whole_lines bytes ++ later)

-- The closings.

-- a handle name is bound, and no lesser one is
pub record IsLeastBound (state : State) (name : ℕ) : Type 0 where
  pub bound : is_some (named_by state name) ≡ true
  pub least : (other : ℕ) → other < name → is_some (named_by state other) ≡ false

-- the least bound name is closed first, and the names that are bound after its Close are the others
abbrev pub LeastNamesAreClosedFirst : Type 0
LeastNamesAreClosedFirst = (state : State) (clock : Readings) (name : ℕ) → IsValidState state → IsLeastBound state name
    → closings (bound_names state) clock ≡ stamped_by clock (to_close name) ∷ closings (bound_names (state_then state (stamped_by clock (to_close name)))) (later_of clock)

-- where no handle name is bound there is none to close
abbrev pub NoneIsClosedWhereNoneIsBound : Type 0
NoneIsClosedWhereNoneIsBound = (state : State) → ((name : ℕ) → is_some (named_by state name) ≡ false) → bound_names state ≡ []

-- a Close unbinds its handle name, and leaves the others as they are
abbrev pub ClosesFreeTheirName : Type 0
ClosesFreeTheirName = (state : State) (moment name : ℕ) → IsValidState state → is_some (named_by state name) ≡ true
    → (state_then state (record { moment = moment; request = to_close name })).names ≡ slice_set state.names name None

-- no more handle names are bound than there are
abbrev pub BoundNamesAreFew : Type 0
BoundNamesAreFew = (state : State) → IsValidState state → length (bound_names state) ≤ handle_names

-- What the next opening finds.

-- an entry that a command leaves as it is: it is safe, and its item is listed at each step of the command on the LRU list
pub record IsLeftAlone (state : State) (command : Stamped) (item : Item) (row : Row) : Type 0 where
  pub number : ℕ
  pub owned : owner state item ≡ Some number
  pub safe : is_safe state (state_then state command) number ≡ true
  pub row_is : row_of state item ≡ Some row
  pub listed : (count : ℕ) → count ≤ length (list_steps state command.moment command.request) → Contains (list_after state command.moment command.request count) item

-- wherever a run crashes once its folder is opened, the recovered contents have each clean entry that the next command leaves alone, with its exact bytes
abbrev pub SettledEntriesAreFound : Type 0
SettledEntriesAreFound = (from : Image) (opened : State) (commands : List Stamped) (steps : List TrailStep) (image : Image) (command : Stamped) (item : Item) (row : Row) → IsStopped from opened commands steps image → has_opened steps ≡ true
    → command_after commands (notes_in steps) ≡ Some command → IsLeftAlone (state_at opened commands (notes_in steps)) command item row → Contains (found image) row

-- where a run crashes after its last command exactly the durable contents are recovered
abbrev pub RestsAreFound : Type 0
RestsAreFound = (from : Image) (opened : State) (commands : List Stamped) (steps : List TrailStep) (image : Image) → IsStopped from opened commands steps image → has_opened steps ≡ true
    → command_after commands (notes_in steps) ≡ None → found image ≡ rest (state_at opened commands (notes_in steps))

-- What is found of any entry, and in which order.

-- a crash in a command of a run: the folder was opened and is as a crash may leave it, and this command is next, in this state
pub record CrashesIn (from image : Image) (opened state : State) (commands : List Stamped) (steps : List TrailStep) (command : Stamped) : Type 0 where
  pub stopped : IsStopped from opened commands steps image
  pub opens : has_opened steps ≡ true
  pub next : command_after commands (notes_in steps) ≡ Some command
  pub state_is : state ≡ state_at opened commands (notes_in steps)

-- whether the object with a number is live and clean before a command or after it
abbrev pub is_clean_before_or_after : State → Stamped → ℕ → Bool
is_clean_before_or_after state command number =
    is_live_and_settled (object_at state number) || is_live_and_settled (object_at (state_then state command) number)

-- a row from before a command: what its item has in the state before, of an object that is clean before the command or after it
pub record IsFromBefore (state : State) (command : Stamped) (row : Row) : Type 0 where
  pub number : ℕ
  pub owned : owner state (item_of row) ≡ Some number
  pub row_is : row_of state (item_of row) ≡ Some row
  pub clean : is_clean_before_or_after state command number ≡ true

-- wherever a run crashes in a command, each row that is found is from before that command, whatever it was about to make of the item
abbrev pub FoundRowsAreFromBefore : Type 0
FoundRowsAreFromBefore = (from image : Image) (opened state : State) (commands : List Stamped) (steps : List TrailStep) (command : Stamped)
    → CrashesIn from image opened state commands steps command → (row : Row) → Contains (found image) row → IsFromBefore state command row

-- an item is unsaved in a command: no object has it before, or one that is dirty before and not clean after
abbrev pub IsUnsaved : State → Stamped → Item → Type 0
IsUnsaved state command item =
    (owner state item ≡ None) ⊎ ((number : ℕ) × (owner state item ≡ Some number) × (is_clean_before_or_after state command number ≡ false))

-- no item that is unsaved is found; so of an object that is dirty before the command and after it none is
abbrev pub UnsavedItemsAreLost : Type 0
UnsavedItemsAreLost = (from image : Image) (opened state : State) (commands : List Stamped) (steps : List TrailStep) (command : Stamped)
    → CrashesIn from image opened state commands steps command → (row : Row) → IsUnsaved state command (item_of row) → Contains (found image) row → ⊥

-- and of an object that the command makes none is: an object after it, where no object has that number before it
abbrev pub NewEntriesAreLost : Type 0
NewEntriesAreLost = (from image : Image) (opened state : State) (commands : List Stamped) (steps : List TrailStep) (command : Stamped)
    → CrashesIn from image opened state commands steps command → IsValidState state → (row : Row) (number : ℕ)
    → owner (state_then state command) (item_of row) ≡ Some number → object_at state number ≡ None → Contains (found image) row → ⊥

-- an item has its row from a state among these rows
abbrev pub HasItsRow : State → List Row → Item → Type 0
HasItsRow state rows item = (row : Row) × (row_of state item ≡ Some row) × Contains rows row

-- one of two elements is in a list, and the other is among those after it
abbrev pub Precedes : {X : Type 0} → List X → X → X → Type 0
Precedes [] one other = ⊥
Precedes (x ∷ xs) one other = ((x ≡ one) × Contains xs other) ⊎ Precedes xs one other

-- rows follow a list: they are of items in it, with an item of an object there are all those of that object in the list, and they have its order
pub record GoBy (state : State) (list : List Item) (rows : List Row) : Type 0 where
  pub listed : (row : Row) → Contains rows row → Contains list (item_of row)
  pub together : (row : Row) (item : Item) → Contains rows row → owner state item ≡ owner state (item_of row) → Contains list item → HasItsRow state rows item
  pub in_order : (one other : Row) → Contains rows one → Contains rows other → Precedes list (item_of one) (item_of other) → Precedes rows one other

-- what is found follows one list: the LRU list after so many of the command's steps on it
abbrev pub FoundRowsGoByOneList : Type 0
FoundRowsGoByOneList = (from image : Image) (opened state : State) (commands : List Stamped) (steps : List TrailStep) (command : Stamped)
    → CrashesIn from image opened state commands steps command → (count : ℕ) × (count ≤ length (list_steps state command.moment command.request))
    × GoBy state (list_after state command.moment command.request count) (found image)

-- a command evicts an item alone: the item is a part, and one of the eviction units that the command evicts
abbrev pub IsEvictedAlone : State → Stamped → Item → Type 0
IsEvictedAlone state command (main key) = ⊥
IsEvictedAlone state command (part key n) = Contains (outcome_in state command).groups (single key n)

-- so an object is found whole or not at all: with one item of it each other is found, but for a part that the command evicts alone
abbrev pub EntriesAreFoundWhole : Type 0
EntriesAreFoundWhole = (from image : Image) (opened state : State) (commands : List Stamped) (steps : List TrailStep) (command : Stamped)
    → CrashesIn from image opened state commands steps command → IsValidState state → (row : Row) (item : Item) → Contains (found image) row
    → owner state item ≡ owner state (item_of row) → (IsEvictedAlone state command item → ⊥) → HasItsRow state (found image) item

-- a command accesses an item: one of its steps on the LRU list brings the item to the front
abbrev pub IsUsedBy : State → Stamped → Item → Type 0
IsUsedBy state command item = Contains (list_steps state command.moment command.request) (front item)

-- and of two items that are found the one that comes first in the LRU list before the command is found first, unless the command accesses the other
abbrev pub UnusedItemsKeepTheirOrder : Type 0
UnusedItemsKeepTheirOrder = (from image : Image) (opened state : State) (commands : List Stamped) (steps : List TrailStep) (command : Stamped)
    → CrashesIn from image opened state commands steps command → (one other : Row) → Contains (found image) one → Contains (found image) other
    → Precedes state.uses (item_of one) (item_of other) → (IsUsedBy state command (item_of other) → ⊥) → Precedes (found image) one other

-- the state in which a run crashes is valid, once its folder is opened, where its steps leave what a crash may leave
abbrev pub StatesOfRunsAreValid : Type 0
StatesOfRunsAreValid = (from : Image) (opened : State) (commands : List Stamped) (steps prefix suffix : List TrailStep)
    → AtEachPrefix (IsStopped from opened commands) from steps → steps ≡ prefix ++ suffix → has_opened prefix ≡ true
    → IsValidState (state_at opened commands (notes_in prefix))

-- Replies.

-- a command is answered where a run broke off: more was printed than the texts of the iterations before it and what may be out before its note, so a part of
-- its reply
pub record IsReplyOut (turns : List Turn) (printed : List ℕ) (before : List Turn) (command : Stamped) : Type 0 where
  pub turn : Turn
  pub behind : List Turn
  pub split : turns ≡ before ++ turn ∷ behind
  pub is : turn.command ≡ Some command
  pub out : length (text_of before ++ turn.early) < length printed

-- a command that is answered, by what was printed where a run broke off, is among its noted commands
abbrev pub AnsweredCommandsAreNoted : Type 0
AnsweredCommandsAreNoted = (turns before : List Turn) (noted : ℕ) (written printed : List ℕ) (command : Stamped) → PrintsNoMore turns noted (Some written) (Some (written ++ printed))
    → IsReplyOut turns printed before command → length (commands_of before) + 1 ≤ noted

-- where a run breaks off after an answered command, what is recovered is what a crash in a later command leaves, or the durable contents after all commands
abbrev pub AnsweredCommandsAreDone : Type 0
AnsweredCommandsAreDone = (from : Image) (turns before : List Turn) (opened : State) (more : List Stamped) (steps : List TrailStep) (image : Image) (written printed : List ℕ) (command : Stamped)
    → PrintsNoMore turns (notes_in steps) (Some written) (Some (written ++ printed)) → IsReplyOut turns printed before command
    → IsStopped from opened (commands_of turns ++ more) steps image → has_opened steps ≡ true
    → (length (commands_of before) + 1 ≤ notes_in steps)
    × IsLeftAt opened (commands_of turns ++ more) (notes_in steps) (command_after (commands_of turns ++ more) (notes_in steps)) (found image)

-- a command writes to the object with a number, by a handle that names it
abbrev pub writes_to : State → Request → ℕ → Bool
writes_to state (to_write handle stream offset cut bytes) number = number_of state handle == number
writes_to state (to_sparse_write handle offset bytes) number = number_of state handle == number
writes_to state _ number = false

-- a command lets the entry of an item be: it doesn't write to the object that has the item, and it neither evicts the item nor dooms it: none of its steps on
-- the LRU list takes the item out
pub record LetsBe (state : State) (command : Stamped) (item : Item) : Type 0 where
  pub unwritten : (number : ℕ) → owner state item ≡ Some number → writes_to state command.request number ≡ false
  pub stays : (group : Group) → Contains (list_steps state command.moment command.request) (out group) → takes item group ≡ false

-- each of some commands in turn lets the entry of an item be
abbrev pub LetBe : State → List Stamped → Item → Type 0
LetBe state [] item = Unit {0}
LetBe state (command ∷ commands) item = LetsBe state command item × LetBe (state_then state command) commands item

-- an entry is clean: the object that has the item is live and clean, and the item has this row
pub record IsCleanEntry (state : State) (item : Item) (row : Row) : Type 0 where
  pub number : ℕ
  pub owned : owner state item ≡ Some number
  pub clean : is_live_and_settled (object_at state number) ≡ true
  pub row_is : row_of state item ≡ Some row

-- the state after a Close of a handle name
abbrev pub state_closed_by : State → (moment handle : ℕ) → State
state_closed_by state moment handle = state_then state (record { moment = moment; request = to_close handle })

-- a Close that leaves an object with no handle leaves its entries clean
abbrev pub ClosesLeaveEntriesClean : Type 0
ClosesLeaveEntriesClean = (state : State) (moment handle number : ℕ) (item : Item) (row : Row) → IsValidState state
    → named_by state handle ≡ Some number → owner state item ≡ Some number → row_of state item ≡ Some row
    → is_named (state_closed_by state moment handle) number ≡ false → IsCleanEntry (state_closed_by state moment handle) item row

-- the commands of a run after its first `done`, up to the one in progress where `noted` are noted
abbrev pub commands_since : List Stamped → (done noted : ℕ) → List Stamped
commands_since commands done noted = take (noted + 1 - done) (drop done commands)

-- an entry is clean after the first `done` commands of a run, and each later command lets it be, the one in progress among them where `noted` are noted
pub record IsCleanSince (opened : State) (commands : List Stamped) (done noted : ℕ) (item : Item) (row : Row) : Type 0 where
  pub entry : IsCleanEntry (state_at opened commands done) item row
  pub later : LetBe (state_at opened commands done) (commands_since commands done noted) item

-- wherever a run breaks off, an entry that is clean since an answered command is found, with its exact bytes
abbrev pub AnsweredEntriesAreFound : Type 0
AnsweredEntriesAreFound = (from : Image) (turns before : List Turn) (opened : State) (more : List Stamped) (steps : List TrailStep) (written printed : List ℕ)
    → (command : Stamped) → AtEachPrefix (IsStopped from opened (commands_of turns ++ more)) from steps
    → PrintsNoMore turns (notes_in steps) (Some written) (Some (written ++ printed)) → IsReplyOut turns printed before command
    → (item : Item) (row : Row) → IsCleanSince opened (commands_of turns ++ more) (length (commands_of before) + 1) (notes_in steps) item row
    → Contains (found (after steps from)) row
