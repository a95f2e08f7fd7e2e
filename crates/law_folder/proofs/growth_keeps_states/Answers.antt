use Rattle.law_folder.proofs.claims.Growing.{longer-grown}
use Rattle.law_folder.proofs.claims.Files.{growth-absent, growth-keeps, headers-change, unlinked-go}
use Rattle.law_folder.proofs.growth_keeps_states.Goals as goal

pub returns : goal.returns
returns c = record {
  longer = λ image m length longer. longer-grown image m length longer;
  absent = growth-absent;
  headers = headers-change;
  kept = growth-keeps;
  gone = unlinked-go;
}
