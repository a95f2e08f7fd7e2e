-- What a command evicts is removed first: crashes in it once some eviction units are out.
use Rattle.std.specs.Prelude.{◌≡◌, ℕ, ◌≤◌, Bool, List, ◌++◌, length, map, take, None}
use Rattle.blk_model.specs.Items.{Row}
use Rattle.blk_model.specs.State.{State, IsValidState}
use Rattle.blk_model.specs.Holding.{rest}
use Rattle.blk_model.specs.Request.{Request}
use Rattle.blk_model.specs.Room.{Group, without}
use Rattle.blk_model.specs.Refusals.{refused, evicted}
use Rattle.blk_model.specs.Step.{step}
use Rattle.blk_model.specs.ListSteps.{ListStep, out, front, after_steps, list_steps, dooms, uses_of}
use Rattle.blk_model.specs.Stops.{pick, StopOutcome}

-- the list steps of a command on a state, once all eviction units but these are evicted
abbrev pub later_steps : State → Request → List Group → List ListStep
later_steps state request groups = map out groups ++ dooms request state ++ map front (uses_of request state)

-- a command on a state evicts these eviction units first, and then others
pub record EvictsFirst (state : State) (moment : ℕ) (request : Request) (first others : List Group) : Type 0 where
  pub passes : refused moment request state ≡ None
  pub groups : evicted moment request state ≡ first ++ others

-- what may be recovered after a crash in a command once its first eviction units are evicted: what survives of the state without them, in the order after some
-- of the later steps
pub record LaterOutcome (state : State) (moment : ℕ) (request : Request) (first others : List Group) (held : List Row) : Type 0 where
  pub step_count : ℕ
  pub within : step_count ≤ length (later_steps state request others)
  pub with_turned : Bool
  pub picked_rows : held ≡ pick (without first state) (step state moment request).state with_turned (after_steps (take step_count (later_steps state request others)) (without first state).uses)

-- once the first eviction units are evicted, the durable contents without them are a crash outcome of the command
abbrev pub EvictionsMayStop : Type 0
EvictionsMayStop =
    (state : State) (moment : ℕ) (request : Request) (first others : List Group) → IsValidState state → EvictsFirst state moment request first others
    → StopOutcome state moment request (step state moment request).state (rest (without first state))

-- what a crash in the rest of a command leaves, once its first eviction units are evicted, is a crash outcome of the whole command
abbrev pub EvictionsComeFirst : Type 0
EvictionsComeFirst = (state : State) (moment : ℕ) (request : Request) (first others : List Group) (held : List Row) → IsValidState state → EvictsFirst state moment request first others → LaterOutcome state moment request first others held
    → StopOutcome state moment request (step state moment request).state held

-- a crash outcome of a command on the state without the first eviction units is one of the command on the whole state, if its list steps are the later ones and
-- it ends in the same state
abbrev pub RestsOfCommandsAreOfThem : Type 0
RestsOfCommandsAreOfThem = (state : State) (moment : ℕ) (request : Request) (first others : List Group) (held : List Row) → IsValidState state → EvictsFirst state moment request first others
    → list_steps (without first state) moment request ≡ later_steps state request others → (step (without first state) moment request).state ≡ (step state moment request).state
    → StopOutcome (without first state) moment request (step (without first state) moment request).state held → StopOutcome state moment request (step state moment request).state held
