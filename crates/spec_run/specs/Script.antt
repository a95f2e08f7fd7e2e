-- What is asked of a cache, one thing after another, and what is printed of it.
use Rattle.std.specs.Prelude.{ℕ, ◌+◌, ◌-◌, ◌^◌, Bool, true, false, not, ◌&&◌, if◌then◌else◌, List, [], ◌∷◌, ◌++◌, codes, Result, Ok, Err}
use Rattle.std.specs.declared.option.Option.{Option}
use Rattle.std.specs.declared.option.Option.TheVariants.{None, Some}
use Rattle.blk_model.specs.declared.Answer.{Answer}
use Rattle.blk_model.specs.declared.Answer.TheVariants as answer
use Rattle.blk_model.specs.declared.Refusal.{Refusal}
use Rattle.blk_model.specs.declared.Refusal.TheVariants as refusal
use Rattle.blk_model.specs.State.{State}
use Rattle.blk_model.specs.Room.{total, items}
use Rattle.blk_model.specs.Request.{Request, to_create, to_open, to_read, to_write, to_doom_key, to_close, to_list, to_trim}
use Rattle.blk_model.specs.Reply.{answer_of}
use Rattle.blk_model.specs.Step.{Outcome}
use Rattle.blk_script.specs.declared.fault.LineFault.{LineFault}
use Rattle.blk_script.specs.Line.{read_text}
use Rattle.blk_script.specs.Reply.{evicted_text, line_fault_text, outcome_text}
use Rattle.blk_script.specs.Spelling.{number_text}

-- Scripts.

-- what is printed of a command; what may be out of that before the command is noted; and whether it counts as a refusal
pub record Shown : Type 0 where
  pub text : List ℕ
  pub early : List ℕ
  pub refuses : Bool

-- a script: its end; or, before what follows, the text of a fault, a text of the state, the text of something that is rejected outside the cache (the clock is
-- read as before a command, and the cache is asked nothing), or a command, with what is shown of it; what follows a command may depend on its outcome
pub data Script : Type 0 where
  ended : Script
  errs : List ℕ → Script → Script
  says : (State → List ℕ) → Script → Script
  turns_away : List ℕ → Script → Script
  asks : Request → (Outcome → Shown) → (Outcome → Script) → Script

-- why an answer is a refusal, where it is one
abbrev pub refusal_of : Answer → Option Refusal
refusal_of (answer.Refused why) = Some why
refusal_of _ = None

-- whether there is a refusal
abbrev pub is_refusal : Option Refusal → Bool
is_refusal None = false
is_refusal (Some why) = true

-- whether a command was refused
abbrev pub is_refused : Outcome → Bool
is_refused outcome = is_refusal (refusal_of (answer_of outcome.reply))

-- whether a refusal is Missing
abbrev pub is_missing_refusal : Option Refusal → Bool
is_missing_refusal (Some refusal.Missing) = true
is_missing_refusal _ = false

-- whether a command was refused as Missing
abbrev pub is_missing : Outcome → Bool
is_missing outcome = is_missing_refusal (refusal_of (answer_of outcome.reply))

-- what is shown of a command: all of it where a test passes, the lines of what it evicts before its note; else nothing, and a refusal that isn't shown doesn't
-- count
abbrev pub shown_where : Bool → Outcome → Shown
shown_where test outcome = record {
  text = if test then outcome_text outcome else [];
  early = if test then evicted_text outcome.groups else [];
  refuses = test && is_refused outcome;
}

-- The script of a session.

-- the script of one line, a command or a fault, and what follows it in any case
abbrev pub line_script : ℕ → Result Request LineFault → Script → Script
line_script number (Err why) following = errs (line_fault_text number why) following
line_script number (Ok request) following = asks request (shown_where true) (λ outcome. following)

-- the lines of a session, counted from a number: each is a command or none, and no line ends it
unfoldable pub session_script : ℕ → List (List ℕ) → Script
session_script number [] = ended
session_script number (text ∷ texts) = line_script number (read_text text) (session_script (number + 1) texts)

-- The scripts of the other subcommands.

-- the script of some commands up to the first that is refused, each with its reply
unfoldable pub until_refused : List Request → Script
until_refused [] = ended
until_refused (request ∷ requests) = asks request (shown_where true) (λ outcome. if is_refused outcome then ended else until_refused requests)

-- the script of `list`
abbrev pub list_script : Script
list_script = until_refused (to_list ∷ [])

-- the script of `get`: the entry with a key is opened, one of its streams is read whole, and it is closed
abbrev pub get_script : List ℕ → ℕ → Script
get_script key stream = until_refused (to_open 0 key ∷ to_read 0 stream 0 (2 ^ 64 - 1) ∷ to_close 0 ∷ [])

-- the script of `doom`: the entry with a key is doomed
abbrev pub doom_script : List ℕ → Script
doom_script key = until_refused (to_doom_key key ∷ [])

-- the script of `trim`: the least recently used items are evicted until so many bytes are left
abbrev pub trim_script : ℕ → Script
trim_script bytes = until_refused (to_trim bytes ∷ [])

-- after the Open of `put`: an entry that is missing is created, and any other refusal ends the script
abbrev pub put_after : Outcome → List ℕ → List Request → Script
put_after opened key requests = if is_missing opened then until_refused (to_create 0 key ∷ requests) else if is_refused opened then ended else until_refused requests

-- the script of `put`: the whole input is written to a stream of the entry with a key, which is made where it is missing; that it was missing isn't shown
abbrev pub put_script : List ℕ → ℕ → List ℕ → Script
put_script key stream bytes =
    asks (to_open 0 key) (λ opened. shown_where (not (is_missing opened)) opened) (λ opened. put_after opened key (to_write 0 stream 0 true bytes ∷ to_close 0 ∷ []))

-- so many items, with so many bytes, on a line
abbrev pub totals_line : (item_count byte_count : ℕ) → List ℕ
totals_line item_count byte_count = codes "items " ++ (number_text item_count ++ (codes " bytes " ++ (number_text byte_count ++ codes "\n")))

-- the line of the totals of a state
abbrev pub totals_text : State → List ℕ
totals_text state = totals_line (items state) (total state)

-- the script of `count`: no command, and then the totals
abbrev pub count_script : Script
count_script = says totals_text ended

-- What a script doesn't do.

-- a script rejects nothing outside the cache, whatever its commands' outcomes are
unfoldable pub TurnsNoneAway : Script → Type 0
TurnsNoneAway ended = Unit {0}
TurnsNoneAway (errs text script) = TurnsNoneAway script
TurnsNoneAway (says text script) = TurnsNoneAway script
TurnsNoneAway (turns_away text script) = ⊥
TurnsNoneAway (asks request shown script) = (outcome : Outcome) → TurnsNoneAway (script outcome)
