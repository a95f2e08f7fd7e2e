use Rattle.law_folder.proofs.states.DirtyWords.{before-turning, after-turning}
use Rattle.law_folder.proofs.changes.turning_objects_are_picked.Goals as goal

pub returns : goal.returns
returns c = record {
  before = before-turning;
  after = after-turning;
}
