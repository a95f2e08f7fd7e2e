use Rattle.law_folder.proofs.states.Laid.{laid-shown, found-picked}
use Rattle.law_folder.proofs.placed_items_are_kept.Goals as goal

pub returns : goal.returns
returns c = record {
  shown = laid-shown;
  picked = λ store state layout r items sub test is once closed. found-picked state layout r.lies.laid items sub test is store r once closed;
}
