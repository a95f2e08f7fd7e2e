use Rattle.law_state.specs.Keeping.{KeepsSome}
use Rattle.law_state.proofs.Stopping.{calls-stop, nothing-done, nothing-stops, quiet-keep, refusals-done, some-says}
use Rattle.law_state.proofs.commands_end.Goals as goal

pub returns : goal.returns
returns c = record { says = some-says; stays_stops = nothing-stops KeepsSome; stays_does = nothing-done KeepsSome; refused_does = refusals-done KeepsSome; quiet = quiet-keep; calls_stop = calls-stop KeepsSome }
