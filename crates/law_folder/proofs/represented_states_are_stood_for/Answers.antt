use Rattle.law_folder.proofs.states.Standing.{shows-state, stands-for}
use Rattle.law_folder.proofs.states.TidyOrder.{tidy-ordered, tidy-stands}
use Rattle.law_folder.proofs.states.StoodFor.{stood-found}
use Rattle.law_folder.proofs.represented_states_are_stood_for.Goals as goal

pub returns : goal.returns
returns c = record {
  shown = λ image state layout numbers r valid a. shows-state image state layout r valid numbers a;
  in_order = tidy-ordered;
  stands = λ image state layout numbers r valid a well version in_order. stands-for image state layout r valid numbers a well version in_order;
  tidy = tidy-stands;
  found = stood-found;
}
