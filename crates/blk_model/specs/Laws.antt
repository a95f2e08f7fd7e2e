-- What is proved of the model, each for every state, moment and request.
use Rattle.std.specs.Prelude.{◌≡◌, ◌≢◌, ◌↔◌, ℕ, List, [], Some}
use Rattle.blk_model.specs.declared.Refusal.{Refusal}
use Rattle.blk_model.specs.declared.Refusal.TheVariants as refusal
use Rattle.blk_model.specs.declared.Answer.TheVariants as answer
use Rattle.blk_model.specs.Items.{Row, IsValidHolding}
use Rattle.blk_model.specs.State.{State, Bounds, IsValidState}
use Rattle.blk_model.specs.Holding.{open_state, rest}
use Rattle.blk_model.specs.Request.{Request, IsRequest}
use Rattle.blk_model.specs.Reply.{answered}
use Rattle.blk_model.specs.Refusals.{refused}
use Rattle.blk_model.specs.Step.{step}
use Rattle.blk_model.specs.ListSteps.{list_steps, after_steps}
use Rattle.blk_model.specs.Stops.{StopOutcome}
use Rattle.blk_model.specs.Totals.{AreSums}

-- a command that a client can make leads from a valid state to a valid state
abbrev pub StepsKeepStatesValid : Type 0
StepsKeepStatesValid = (state : State) (moment : ℕ) (request : Request) → IsValidState state → IsRequest request → IsValidState (step state moment request).state

-- the LRU list after the list steps of a command is that of the state after it
abbrev pub ListStepsLeadToTheLruList : Type 0
ListStepsLeadToTheLruList = (state : State) (moment : ℕ) (request : Request) → IsValidState state → after_steps (list_steps state moment request) state.uses ≡ (step state moment request).state.uses

-- a cache that finds a valid snapshot opens with a valid state
abbrev pub OpenedStatesAreValid : Type 0
OpenedStatesAreValid = (rows : List Row) (limits : Bounds) → IsValidHolding rows → IsValidState (open_state rows limits)

-- a cache that is opened on a valid snapshot has it as its durable contents
abbrev pub WhatIsFoundIsAtRest : Type 0
WhatIsFoundIsAtRest = (rows : List Row) (limits : Bounds) → IsValidHolding rows → rest (open_state rows limits) ≡ rows

-- the durable contents in a valid state are a valid snapshot
abbrev pub RestsAreHoldings : Type 0
RestsAreHoldings = (state : State) → IsValidState state → IsValidHolding (rest state)

-- each crash outcome of a command on a valid state is a valid snapshot
abbrev pub StopsLeaveHoldings : Type 0
StopsLeaveHoldings = (before : State) (moment : ℕ) (request : Request) (after : State) (held : List Row) → IsValidState before → StopOutcome before moment request after held → IsValidHolding held

-- the durable contents before a command are a crash outcome of it
abbrev pub StopsMayLeaveWhatWas : Type 0
StopsMayLeaveWhatWas = (state : State) (moment : ℕ) (request : Request) → IsValidState state → StopOutcome state moment request (step state moment request).state (rest state)

-- the durable contents after a command are a crash outcome of it
abbrev pub StopsMayLeaveWhatIs : Type 0
StopsMayLeaveWhatIs = (state : State) (moment : ℕ) (request : Request) → IsValidState state → IsRequest request → StopOutcome state moment request (step state moment request).state (rest (step state moment request).state)

-- a command changes nothing: the state stays, no eviction unit is evicted and no step is made on the LRU list
pub record ChangesNothing (state : State) (moment : ℕ) (request : Request) : Type 0 where
  pub state_stays : (step state moment request).state ≡ state
  pub none_evicted : (step state moment request).groups ≡ []
  pub no_list_step : list_steps state moment request ≡ []

-- a command whose reply is a refusal changes nothing
abbrev pub RefusalsChangeNothing : Type 0
RefusalsChangeNothing = (state : State) (moment : ℕ) (request : Request) (why : Refusal) → (step state moment request).reply ≡ answered (answer.Refused why) → ChangesNothing state moment request

-- the reply is a refusal exactly where that is the first of the command's refusals whose test passes
abbrev pub RefusalsAreTheFirst : Type 0
RefusalsAreTheFirst = (state : State) (moment : ℕ) (request : Request) (why : Refusal) → ((step state moment request).reply ≡ answered (answer.Refused why)) ↔ (refused moment request state ≡ Some why)

-- no command is refused for being out of memory
abbrev pub NoneIsRefusedForMemory : Type 0
NoneIsRefusedForMemory = (state : State) (moment : ℕ) (request : Request) → (step state moment request).reply ≢ answered (answer.Refused refusal.Memory)

-- no command is refused for too many handles being bound
abbrev pub NoneIsRefusedForNoHandle : Type 0
NoneIsRefusedForNoHandle = (state : State) (moment : ℕ) (request : Request) → (step state moment request).reply ≢ answered (answer.Refused refusal.NoHandle)

-- the totals of a valid state are the sums over its listed rows and its doomed objects
abbrev pub TotalsAreSums : Type 0
TotalsAreSums = (state : State) → IsValidState state → AreSums state
