-- The rest of a command: the same command on the state without the first eviction units that it evicts.
use Rattle.std.specs.Prelude.{◌≡◌, ℕ, List, [], None, ◌⊎◌}
use Rattle.blk_model.specs.Items.{Row}
use Rattle.blk_model.specs.State.{State, IsValidState}
use Rattle.blk_model.specs.Request.{Request, to_trim}
use Rattle.blk_model.specs.Room.{Group, without}
use Rattle.blk_model.specs.Refusals.{refused, evicted}
use Rattle.blk_model.specs.Step.{step}
use Rattle.blk_model.specs.ListSteps.{list_steps}
use Rattle.blk_model.specs.Stops.{StopOutcome}
use Rattle.blk_model.specs.EvictionLaws.{EvictsFirst, later_steps}

-- on the state without some eviction units a command still evicts something, where others are left: it never happens that all fits while some are left
abbrev pub EvictsTheRest : State → ℕ → Request → List Group → List Group → Type 0
EvictsTheRest state moment request first others = evicted moment request (without first state) ≡ [] → others ≡ []

-- the rest of a command isn't refused: on the state without its first eviction units it passes as on the whole state
abbrev pub RestsAreNotRefused : Type 0
RestsAreNotRefused = (state : State) (moment : ℕ) (request : Request) (first others : List Group) → IsValidState state → EvictsFirst state moment request first others → refused moment request (without first state) ≡ None

-- the rest of a command evicts the eviction units that are left, or nothing
abbrev pub RestsEvictTheOthersOrNone : Type 0
RestsEvictTheOthersOrNone = (state : State) (moment : ℕ) (request : Request) (first others : List Group) → IsValidState state → EvictsFirst state moment request first others
    → (evicted moment request (without first state) ≡ others) ⊎ (evicted moment request (without first state) ≡ [])

-- the rest of a Trim evicts something where eviction units are left
abbrev pub TrimsGoOn : Type 0
TrimsGoOn = (state : State) (moment : ℕ) (bytes : ℕ) (first others : List Group) → IsValidState state → EvictsFirst state moment (to_trim bytes) first others → EvictsTheRest state moment (to_trim bytes) first others

-- where the rest of a command evicts something if eviction units are left, its list steps are the later ones of the whole command
abbrev pub RestsHaveTheLaterSteps : Type 0
RestsHaveTheLaterSteps = (state : State) (moment : ℕ) (request : Request) (first others : List Group) → IsValidState state → EvictsFirst state moment request first others → EvictsTheRest state moment request first others
    → list_steps (without first state) moment request ≡ later_steps state request others

-- where the rest of a command evicts something if eviction units are left, it ends in the same state as the whole command
abbrev pub RestsEndAlike : Type 0
RestsEndAlike = (state : State) (moment : ℕ) (request : Request) (first others : List Group) → IsValidState state → EvictsFirst state moment request first others → EvictsTheRest state moment request first others
    → (step (without first state) moment request).state ≡ (step state moment request).state

-- where the rest of a command evicts something if eviction units are left, a crash outcome of it is one of the whole command
abbrev pub StopsInRestsAreInTheWhole : Type 0
StopsInRestsAreInTheWhole = (state : State) (moment : ℕ) (request : Request) (first others : List Group) (held : List Row) → IsValidState state → EvictsFirst state moment request first others → EvictsTheRest state moment request first others
    → StopOutcome (without first state) moment request (step (without first state) moment request).state held → StopOutcome state moment request (step state moment request).state held

-- an example of a crash outcome of the rest of a command that is none of the whole command
pub record StopOnlyInTheRest : Type 0 where
  pub state : State
  pub moment : ℕ
  pub request : Request
  pub first : List Group
  pub others : List Group
  pub held : List Row
  pub valid : IsValidState state
  pub evicts : EvictsFirst state moment request first others
  pub in_rest : StopOutcome (without first state) moment request (step (without first state) moment request).state held
  pub not_in_whole : StopOutcome state moment request (step state moment request).state held → ⊥
