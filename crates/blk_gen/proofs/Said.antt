-- A script of counted commands says their counts.
use Rattle.std.proofs.Common.{◌≤◌, ◌+◌, ◌*◌, ℕ, zero, suc, Bool, true, false, if◌then◌else◌, length, refl, arith}
use Rattle.std.proofs.lemmas.List.{append-nil}
use Rattle.blk_model.specs.State.{State}
use Rattle.blk_model.specs.Request.{Request, to_create, to_open, to_read, to_write, to_close}
use Rattle.blk_model.specs.Step.{Outcome}
use Rattle.blk_io.specs.Streams.{Readings, later_of}
use Rattle.spec_run.specs.Script.{Script, is_missing, is_refused}
use Rattle.spec_run.specs.Run.{turns, commands_of, outcome_in, stamped_by, state_after}
use Rattle.blk_gen.specs.declared.drawing.Turn.{Turn}
use Rattle.blk_gen.specs.declared.counting.Counts.{Counts}
use Rattle.blk_gen.specs.Draws.{turn_behind, value_behind, generated_key, generated_bytes}
use Rattle.blk_gen.specs.Counting.{no_counts, with_outcome}
use Rattle.blk_gen.specs.Generator.{asks_counted, used_turn, created_turn, turn_script, turns_script, closing_text}
use Rattle.blk_gen.specs.Laws.{SayCounts, counts_after, TurnsSayTheirCounts, CommandsOfTurnsAreFew}

-- a script with counts says them, wherever it is run, and asks no more than so many commands
abbrev Says : ℕ → (Counts → Script) → Type 0
Says most script = (counts : Counts) (from : State) (clock : Readings)
    → SayCounts counts from (turns (script counts) from clock) × (length (commands_of (turns (script counts) from clock)) ≤ most)

-- one more command
asked : (most : ℕ) (request : Request) (following : Outcome → Counts → Script) → ((outcome : Outcome) → Says most (following outcome)) → Says (most + 1) (λ counts. asks_counted request counts following)
unfolding turns counts_after state_after
asked most request following each counts from clock =
    let outcome = outcome_in from (stamped_by clock request) in
    let behind = each outcome (with_outcome outcome counts) outcome.state (later_of clock) in
    (record { text = behind.0.text; quiet = behind.0.quiet }, omega arith)

-- one of two scripts
either : (most : ℕ) (b : Bool) (f g : Counts → Script) → Says most f → Says most g → Says most (λ counts. if b then f counts else g counts)
either most true f g first second = first
either most false f g first second = second

-- more commands may be allowed
allowing : (fewer most : ℕ) (script : Counts → Script) → fewer ≤ most → Says fewer script → Says most script
allowing fewer most script within h counts from clock = let said = h counts from clock in (said.0, omega arith)

-- the commands of an iteration whose object is there, from the last on
closed : (most : ℕ) (following : Counts → Script) → Says most following → Says (most + 1) (λ counts. asks_counted (to_close 0) counts (λ outcome. following))
closed most following h = asked most (to_close 0) (λ outcome. following) (λ outcome. h)

used : (most number : ℕ) (turn : Turn) (following : Counts → Script) → Says most following → Says (most + 1 + 1 + 1) (λ counts. used_turn number turn counts following)
used most number turn following h =
    let close : Counts → Script = λ counts. asks_counted (to_close 0) counts (λ outcome. following) in
    let read : Counts → Script = λ counts. asks_counted (to_read 0 turn.stream 0 20001) counts (λ outcome. close) in
    asked (most + 1 + 1) (to_write 0 turn.stream 0 true (generated_bytes number turn.byte_count)) (λ outcome. read) (λ outcome.
    asked (most + 1) (to_read 0 turn.stream 0 20001) (λ outcome. close) (λ outcome.
    closed most following h))

-- an iteration that made its object, or ends there
created : (most number : ℕ) (turn : Turn) (following : Counts → Script) → Says most following → Says (most + 4) (λ counts. created_turn number turn counts following)
created most number turn following h =
    let uses : Counts → Script = λ counts. used_turn number turn counts following in
    let behind : Outcome → Counts → Script = λ made counts. if is_refused made then following counts else uses counts in
    allowing (most + 1 + 1 + 1 + 1) (most + 4) (λ counts. created_turn number turn counts following) (omega arith) (
    asked (most + 1 + 1 + 1) (to_create 0 (generated_key turn.key_number)) behind (λ made.
    either (most + 1 + 1 + 1) (is_refused made) following uses (allowing most (most + 1 + 1 + 1) following (omega arith) h) (used most number turn following h)))

-- a whole iteration
turned : (most number : ℕ) (turn : Turn) (following : Counts → Script) → Says most following → Says (most + 5) (λ counts. turn_script number turn counts following)
turned most number turn following h =
    let make : Counts → Script = λ counts. created_turn number turn counts following in
    let uses : Counts → Script = λ counts. used_turn number turn counts following in
    let other : Outcome → Counts → Script = λ opened counts. if is_refused opened then following counts else uses counts in
    let behind : Outcome → Counts → Script = λ opened counts. if is_missing opened then make counts else other opened counts in
    allowing (most + 4 + 1) (most + 5) (λ counts. turn_script number turn counts following) (omega arith) (
    asked (most + 4) (to_open 0 (generated_key turn.key_number)) behind (λ opened.
    either (most + 4) (is_missing opened) make (other opened) (created most number turn following h) (
    either (most + 4) (is_refused opened) following uses (allowing most (most + 4) following (omega arith) h) (
    allowing (most + 1 + 1 + 1) (most + 4) uses (omega arith) (used most number turn following h)))))

-- some whole iterations
all_turns : (left number value : ℕ) → Says (5 * left) (turns_script left number value)
unfolding turns_script turns counts_after state_after
all_turns zero number value counts from clock = (record { text = append-nil (closing_text counts from); quiet = refl }, omega arith)
all_turns (suc left) number value counts from clock =
    let behind : Counts → Script = turns_script left (number + 1) (value_behind value) in
    allowing (5 * left + 5) (5 * suc left) (turns_script (suc left) number value) (omega arith)
    (turned (5 * left) number (turn_behind value) behind (all_turns left (number + 1) (value_behind value))) counts from clock

pub turns-say : TurnsSayTheirCounts
turns-say seed count from clock = (all_turns count 0 seed no_counts from clock).0

pub few-commands : CommandsOfTurnsAreFew
few-commands seed count from clock = (all_turns count 0 seed no_counts from clock).1
