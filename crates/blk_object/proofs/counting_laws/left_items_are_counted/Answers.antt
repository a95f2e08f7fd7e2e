use Rattle.blk_object.proofs.CountsOut.{all-counted, counted-dooms-end, counted-groups-gone, counted-out-ends, next-counted, still-out}
use Rattle.blk_object.proofs.Sessions.{counted-session}
use Rattle.blk_object.proofs.counting_laws.left_items_are_counted.Goals as goal

pub returns : goal.returns
returns c = record { all = all-counted; less = next-counted; kept = still-out; session = counted-session; ends = counted-out-ends; doomed = counted-dooms-end; group = counted-groups-gone }
