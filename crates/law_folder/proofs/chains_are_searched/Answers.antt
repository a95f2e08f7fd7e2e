use Rattle.law_folder.proofs.chains.Searches.{chains-are, searchable, found-live, none-missing}
use Rattle.law_folder.proofs.chains.ShortChains.{represented-chains-short}
use Rattle.law_folder.proofs.chains_are_searched.Goals as goal

pub returns : goal.returns
returns c = record { chains = chains-are; short = represented-chains-short; can = searchable; found = found-live; missing = none-missing }
