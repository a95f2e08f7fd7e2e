use Rattle.law_folder.proofs.states.Central.{walk-order, rows-kept, none-dropped, chain-end, found-rest}
use Rattle.law_folder.proofs.states.Standing.{found-at_rest, held-at_rest}
use Rattle.law_folder.proofs.represented_states_are_found.Goals as goal

pub returns : goal.returns
returns c = record {
  walks = walk-order;
  rows = rows-kept;
  dropped = none-dropped;
  ends = λ view state layout r valid. chain-end view.store state layout r.holds valid;
  kept = found-rest;
  held = held-at_rest;
  found = found-at_rest;
}
