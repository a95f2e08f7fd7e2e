-- Operations on idle lists.
use Rattle.std.proofs.Common.{◌≡◌}
use Rattle.spec_folder.specs.ListPlans.{completion_writes, completed_but_operation}
use Rattle.law_folder.specs.ListLaws.{InsertsCommitAtTwo, InsertsEnd, RemovalsCommitAtTwo, RemovalsEnd, TouchesCommitAtTwo, TouchesEnd, CompletionsEnd}
use Rattle.law_folder.proofs.lists.ListWrites.{EachMoment-last, completion_keeps}
use Rattle.law_folder.proofs.lists.ListCompletions.{insert_turns, insert_ends, remove_turns, remove_ends, touch_turns, touch_ends, completion_ends}

pub inserts-turn : InsertsCommitAtTwo
inserts-turn node list nodes can = insert_turns node list nodes can.rest.whole can.rest.idle can.lacks can.good can.few

pub inserts-end : InsertsEnd
inserts-end node list nodes can = let e = insert_ends node list nodes can.rest.whole can.rest.idle can.lacks can.good can.few in record { whole = e.0; idle = e.1 }

pub removals-turn : RemovalsCommitAtTwo
removals-turn node list prefix suffix rest = remove_turns node list prefix suffix rest.whole rest.idle

pub removals-end : RemovalsEnd
removals-end node list prefix suffix rest = let e = remove_ends node list prefix suffix rest.whole rest.idle in record { whole = e.0; idle = e.1 }

pub touches-turn : TouchesCommitAtTwo
touches-turn node list prefix suffix rest = touch_turns node list prefix suffix rest.whole rest.idle

pub touches-end : TouchesEnd
touches-end node list prefix suffix rest = let e = touch_ends node list prefix suffix rest.whole rest.idle in record { whole = e.0; idle = e.1 }

pub completions-end : CompletionsEnd
completions-end list = (EachMoment-last (λ u. completed_but_operation u ≡ completed_but_operation list) (completion_writes list) list (completion_keeps list), (completion_ends list).1)
