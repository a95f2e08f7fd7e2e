-- Lemmas on what a run of the generator prints.
use Rattle.std.specs.Prelude.{◌≡◌, ◌≤◌, ◌*◌, ℕ, false, List, [], ◌∷◌, length}
use Rattle.blk_model.specs.State.{State}
use Rattle.blk_io.specs.Streams.{Readings}
use Rattle.spec_run.specs.Run.{Stamped, Turn, turns, commands_of, text_of, refuse, outcome_in, state_then, state_after}
use Rattle.blk_gen.specs.declared.counting.Counts.{Counts}
use Rattle.blk_gen.specs.Counting.{no_counts, with_outcome}
use Rattle.blk_gen.specs.Generator.{closing_text, gen_script}

-- the counters after these commands were done one after another, from a state on
unfoldable pub counts_after : Counts → State → List Stamped → Counts
counts_after counts state [] = counts
counts_after counts state (command ∷ commands) = counts_after (with_outcome (outcome_in state command) counts) (state_then state command) commands

-- a run prints the counters of its commands and the totals of the state after them, and has no line that counts as a refusal
pub record SayCounts (counts : Counts) (from : State) (run : List Turn) : Type 0 where
  pub text : text_of run ≡ closing_text (counts_after counts from (commands_of run)) (state_after from (commands_of run))
  pub quiet : refuse run ≡ false

-- each run of the generator prints the counters of its commands and the totals of the state after them
abbrev pub TurnsSayTheirCounts : Type 0
TurnsSayTheirCounts = (seed count : ℕ) (from : State) (clock : Readings) → SayCounts no_counts from (turns (gen_script seed count) from clock)

-- a run of the generator has at most five commands for each iteration
abbrev pub CommandsOfTurnsAreFew : Type 0
CommandsOfTurnsAreFew = (seed count : ℕ) (from : State) (clock : Readings) → length (commands_of (turns (gen_script seed count) from clock)) ≤ 5 * count
