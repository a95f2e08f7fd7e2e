-- What was printed where a run broke off, by how many of its commands are noted.
use Rattle.std.specs.Prelude.{ℕ, ◌≡◌, ◌≤◌, ◌+◌, ◌⊎◌, List, [], ◌∷◌, ◌++◌, length}
use Rattle.std.specs.Option.{option_map}
use Rattle.std.specs.declared.option.Option.{Option}
use Rattle.std.specs.declared.option.Option.TheVariants.{None, Some}
use Rattle.blk_model.specs.State.{State}
use Rattle.blk_io.specs.Streams.{Appends}
use Rattle.blk_script.specs.Reply.{evicted_text}
use Rattle.blk_model.specs.Step.{Outcome}
use Rattle.spec_run.specs.Run.{Stamped, Turn, commands_of, outcome_in, text_of}
use Rattle.spec_run.specs.Script.{Script, asks, ended, errs, says, turns_away}

-- these bytes are a prefix of a text
abbrev pub Begins : (front text : List ℕ) → Type 0
Begins front text = (rest : List ℕ) × (text ≡ front ++ rest)

-- the lines of what a command evicts in a state, and none where there is no command
abbrev pub evictions_of : State → Option Stamped → List ℕ
evictions_of state None = []
evictions_of state (Some command) = evicted_text (outcome_in state command).groups

-- these bytes are a prefix of what the next iteration prints, and of what may be out of that before its command is noted
abbrev pub IsEarlyNext : List Turn → (front : List ℕ) → Type 0
IsEarlyNext [] front = front ≡ []
IsEarlyNext (turn ∷ turns) front = Begins front turn.text × Begins front turn.early

-- of each command of a script, whatever its outcome is, only lines of what it evicts may be out before its note
unfoldable pub PrintsEvictionsEarly : Script → Type 0
PrintsEvictionsEarly ended = Unit {0}
PrintsEvictionsEarly (errs text script) = PrintsEvictionsEarly script
PrintsEvictionsEarly (says text script) = PrintsEvictionsEarly script
PrintsEvictionsEarly (turns_away text script) = PrintsEvictionsEarly script
PrintsEvictionsEarly (asks request shown script) = (outcome : Outcome) → Begins (shown outcome).early (evicted_text outcome.groups) × PrintsEvictionsEarly (script outcome)

-- where a run broke off with so many commands noted, no more was printed than this: the texts of the first iterations, each of whose commands is noted, and
-- what may be out of the iteration after them before its note
pub record PrintsNoMore (turns : List Turn) (noted : ℕ) (old new : Option (List ℕ)) : Type 0 where
  pub shown : List Turn
  pub behind : List Turn
  pub split : turns ≡ shown ++ behind
  pub are_noted : length (commands_of shown) ≤ noted
  pub front : List ℕ
  pub next : IsEarlyNext behind front
  pub printed : Appends old new (text_of shown ++ front)

-- where a run broke off with so many commands noted: all texts of the iterations before that of the last noted command were printed
pub record PrintsBeforeLast (turns : List Turn) (noted : ℕ) (old new : Option (List ℕ)) : Type 0 where
  pub shown : List Turn
  pub turn : Turn
  pub behind : List Turn
  pub command : Stamped
  pub split : turns ≡ shown ++ turn ∷ behind
  pub is : turn.command ≡ Some command
  pub last : noted ≤ length (commands_of shown) + 1
  pub more : List ℕ
  pub printed : new ≡ option_map (λ (w : List ℕ). w ++ (text_of shown ++ more)) old

-- where a run broke off with so many commands noted, no less was printed than the texts of all iterations before that of the last noted command, and all texts
-- where that is a closing
abbrev pub PrintsNoLess : List Turn → (noted : ℕ) → (old new : Option (List ℕ)) → Type 0
PrintsNoLess turns noted old new = PrintsBeforeLast turns noted old new ⊎ (new ≡ option_map (λ (w : List ℕ). w ++ text_of turns) old)
