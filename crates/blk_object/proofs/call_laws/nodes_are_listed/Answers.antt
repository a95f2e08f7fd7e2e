use Rattle.blk_object.proofs.KeptLists.{inserts-done, inserts-partly, listed-amid, new-can-be, removals-done, removals-partly, touches-done, touches-partly}
use Rattle.blk_object.proofs.call_laws.nodes_are_listed.Goals as goal

pub returns : goal.returns
returns c = record { new = new-can-be; listed = listed-amid; inserting = inserts-partly; inserted = inserts-done; removing = removals-partly; removed = removals-done; touching = touches-partly; touched = touches-done }
