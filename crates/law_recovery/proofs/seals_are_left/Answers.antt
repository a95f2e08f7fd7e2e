use Rattle.law_recovery.proofs.RecordSeals.{growth-leaves, unlinked-leaves, external-leaves_seals, records-behind, words-behind}
use Rattle.law_recovery.proofs.seals_are_left.Goals as goal

pub returns : goal.returns
returns c = record { growth = growth-leaves; unlinked = unlinked-leaves; external = external-leaves_seals; records = records-behind; words = words-behind }
