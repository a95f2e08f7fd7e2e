use Rattle.law_state.proofs.PartChanges.{new-parts-keep-valid, parts-change-alone, parts-left-out}
use Rattle.law_state.proofs.commands.parts_change_alone.Goals as goal

pub returns : goal.returns
returns c = record { alone = parts-change-alone; more = new-parts-keep-valid; less = parts-left-out }
