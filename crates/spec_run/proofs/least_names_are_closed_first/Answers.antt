use Rattle.spec_run.proofs.Closing.{few_names, least_closed, name_freed, none_closed}
use Rattle.spec_run.proofs.least_names_are_closed_first.Goals as goal

pub returns : goal.returns
returns c = record { first = least_closed; none = none_closed; frees = name_freed; few = few_names }
