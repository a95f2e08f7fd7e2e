use Rattle.law_folder.proofs.walks.FrameLaw.{only-candidates, frame-held, frame-law}
use Rattle.law_folder.proofs.same_candidates_hold_the_same.Goals as goal

pub returns : goal.returns
returns c = record {
  only = only-candidates;
  held = frame-held;
  frame = frame-law;
}
