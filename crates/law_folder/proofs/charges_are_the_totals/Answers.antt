use Rattle.law_folder.proofs.states.Charges.{part-names, items-charged, listed-charges, listed-totals, opened-totals}
use Rattle.law_folder.proofs.charges_are_the_totals.Goals as goal

pub returns : goal.returns
returns c = record { names = part-names; items = items-charged; rows = listed-charges; totals = listed-totals; opened = opened-totals }
