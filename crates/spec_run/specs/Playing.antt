-- A script that was played so far.
use Rattle.std.specs.Prelude.{◌≡◌, List, ◌++◌}
use Rattle.blk_model.specs.State.{State}
use Rattle.blk_io.specs.Streams.{Readings}
use Rattle.spec_run.specs.Script.{Script}
use Rattle.spec_run.specs.Run.{Turn, turns, commands_of, readings_of, state_after, clock_after}

-- a script was played so far, from a state and with readings to come: these iterations were made; then this script is left, with this state and these readings
pub record IsPlayed (script : Script) (state : State) (clock : Readings) (made : List Turn) (left : Script) (state_now : State) (clock_now : Readings) : Type 0 where
  pub all : turns script state clock ≡ made ++ turns left state_now clock_now
  pub state_is : state_now ≡ state_after state (commands_of made)
  pub clock_is : clock_now ≡ clock_after clock (readings_of made)
