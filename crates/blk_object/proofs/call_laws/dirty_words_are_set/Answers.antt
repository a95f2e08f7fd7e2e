use Rattle.blk_object.proofs.KeptMarks.{being-set, check-as-records, marks-set, nodes-check}
use Rattle.blk_object.proofs.call_laws.dirty_words_are_set.Goals as goal

pub returns : goal.returns
returns c = record { kept = nodes-check; checks = check-as-records; each = being-set; set = marks-set }
