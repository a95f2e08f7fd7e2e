use Rattle.blk_model.proofs.LruList.{uses_after_steps}
use Rattle.blk_model.proofs.laws.list_steps_lead_to_the_lru_list.Goals as goal

pub returns : goal.returns
returns c = uses_after_steps
