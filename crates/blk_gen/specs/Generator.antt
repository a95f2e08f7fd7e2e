-- The script of the generator: the commands of one iteration after another.
use Rattle.std.specs.Prelude.{ℕ, ◌+◌, true, false, if◌then◌else◌, List, ◌++◌}
use Rattle.std.proofs.Common.{zero, suc}
use Rattle.blk_model.specs.State.{State}
use Rattle.blk_model.specs.Request.{Request, to_create, to_open, to_read, to_write, to_close}
use Rattle.blk_model.specs.Step.{Outcome}
use Rattle.spec_run.specs.Script.{Script, ended, says, asks, is_missing, is_refused, shown_where, totals_text}
use Rattle.blk_gen.specs.declared.drawing.Turn.{Turn}
use Rattle.blk_gen.specs.declared.counting.Counts.{Counts}
use Rattle.blk_gen.specs.Draws.{turn_behind, value_behind, generated_key, generated_bytes}
use Rattle.blk_gen.specs.Counting.{no_counts, with_outcome, counts_line}

-- a command whose reply isn't shown, and the script after it, which gets its outcome and the counters with it
abbrev pub asks_counted : Request → Counts → (Outcome → Counts → Script) → Script
asks_counted request counts following = asks request (shown_where false) (λ outcome. following outcome (with_outcome outcome counts))

-- the rest of an iteration when handle 0 names its object: a Write with cut, a Read and a Close, whatever their answers
abbrev pub used_turn : ℕ → Turn → Counts → (Counts → Script) → Script
used_turn number turn counts following =
    asks_counted (to_write 0 turn.stream 0 true (generated_bytes number turn.byte_count)) counts (λ outcome written.
    asks_counted (to_read 0 turn.stream 0 20001) written (λ outcome read.
    asks_counted (to_close 0) read (λ outcome closed. following closed)))

-- an iteration whose object doesn't exist: it is created, and used unless that is refused
abbrev pub created_turn : ℕ → Turn → Counts → (Counts → Script) → Script
created_turn number turn counts following =
    asks_counted (to_create 0 (generated_key turn.key_number)) counts (λ made counted.
    if is_refused made then following counted else used_turn number turn counted following)

-- an iteration: its object is opened and used, or created where it is missing; after another refusal nothing more is done
abbrev pub turn_script : ℕ → Turn → Counts → (Counts → Script) → Script
turn_script number turn counts following =
    asks_counted (to_open 0 (generated_key turn.key_number)) counts (λ opened counted.
    if is_missing opened then created_turn number turn counted following
    else if is_refused opened then following counted
    else used_turn number turn counted following)

-- the text at the end of a run of the generator: its counters, and the totals of the state
abbrev pub closing_text : Counts → State → List ℕ
closing_text counts state = counts_line counts ++ totals_text state

-- the iterations that are left, the first with this number and after this value of the sequence, and then the text of the counters
unfoldable pub turns_script : (left number value : ℕ) → Counts → Script
turns_script zero number value counts = says (closing_text counts) ended
turns_script (suc left) number value counts = turn_script number (turn_behind value) counts (turns_script left (number + 1) (value_behind value))

-- a run of the generator: so many iterations from a seed on
abbrev pub gen_script : (seed turns : ℕ) → Script
gen_script seed turns = turns_script turns 0 seed no_counts
