use Rattle.blk_model.proofs.Refused.{refused_nothing, refused_first, never_for_memory, never_for_no_handle}
use Rattle.blk_model.proofs.laws.refusals_change_nothing.Goals as goal

pub returns : goal.returns
returns c = record { nothing = refused_nothing; first = refused_first; memory = never_for_memory; handles = never_for_no_handle }
