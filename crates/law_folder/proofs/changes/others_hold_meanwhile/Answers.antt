use Rattle.law_folder.proofs.states.OthersHold.{represented-but, more-left_out, others-outside, others-unlinked, chained-only, records-outside, records-unlinked, another-state}
use Rattle.law_folder.proofs.changes.others_hold_meanwhile.Goals as goal

pub returns : goal.returns
returns c = record {
  begin = represented-but;
  more = more-left_out;
  outside = others-outside;
  unlinked = others-unlinked;
  only = chained-only;
  record_outside = records-outside;
  record_unlinked = records-unlinked;
  state = another-state;
}
