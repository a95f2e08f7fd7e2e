use Rattle.law_folder.proofs.states.Midst.{midst-rest}
use Rattle.law_folder.proofs.states.Writing.{moment-rest}
use Rattle.law_folder.proofs.changes.unsettled_objects_may_change.Goals as goal

pub returns : goal.returns
returns c = record {
  midst = midst-rest;
  at_each_word = λ touched old new state layout r valid number object item here has unsettled loaded at same inside name. moment-rest touched old new state layout r valid number object item here has unsettled loaded at same inside name;
}
