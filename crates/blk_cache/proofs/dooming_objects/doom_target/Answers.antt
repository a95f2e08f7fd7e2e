use Rattle.blk_lru.proofs.Results.{if_ok_weaker}
use Rattle.blk_cache.proofs.dooming_objects.doom_target.Goals as goal

pub returns-else-has_index-clause-doomed : goal.returns-else-has_index-clause-doomed
returns-else-has_index-clause-doomed g c = if_ok_weaker c.doom_without_index.result (λ gone all from there state layout number object k t same. all from there state layout number object k t) c.doom_without_index.ensures.doomed

pub returns-else-has_index-clause-stops : goal.returns-else-has_index-clause-stops
returns-else-has_index-clause-stops g c from there state layout number object k t same =
    c.doom_without_index.ensures.stops from there state layout number object k t

pub returns-else-has_index-clause-untold : goal.returns-else-has_index-clause-untold
returns-else-has_index-clause-untold g c from there state layout number object k t same =
    c.doom_without_index.ensures.untold from there state layout number object k t
