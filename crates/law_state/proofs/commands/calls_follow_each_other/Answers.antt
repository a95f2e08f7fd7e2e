use Rattle.law_state.specs.Keeping.{KeepsSome}
use Rattle.law_state.proofs.Stages.{calls-follow, stages-go-on, stages-stop, what-is-found-stops}
use Rattle.law_state.proofs.commands.calls_follow_each_other.Goals as goal

pub returns : goal.returns
returns c = record { go_on = stages-go-on; stop = stages-stop KeepsSome; find = what-is-found-stops KeepsSome; follow = calls-follow KeepsSome }
