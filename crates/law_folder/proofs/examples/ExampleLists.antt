-- The laws of the LRU list, at a list of three nodes.
use Rattle.std.proofs.Common.{◌≡◌, [], ◌∷◌}
use Rattle.spec_folder.specs.ListView.{ListView, after_writes, IsAtRest}
use Rattle.spec_folder.specs.Walk.{walk}
use Rattle.spec_folder.specs.Completion.{insert, remove}
use Rattle.spec_folder.specs.ListPlans.{writes_of, touch_writes, completion_writes, completed_but_operation, CommitsAtTwo, stopped}
use Rattle.law_folder.proofs.lists.Walks.{walk_list}
use Rattle.law_folder.proofs.lists.ListCompletions.{completing}
use Rattle.law_folder.proofs.lists.AtRest.{inserts-turn, inserts-end, removals-turn, removals-end, touches-turn, touches-end, completions-end}
use Rattle.law_folder.proofs.examples.Premises.{three, three_at_rest, fourth}

-- the three nodes are walked
pub three-are_walked : walk three ≡ 3 ∷ 2 ∷ 1 ∷ []
three-are_walked = walk_list three (3 ∷ 2 ∷ 1 ∷ []) three_at_rest.whole

-- a fourth is inserted
pub fourth-is_inserted : CommitsAtTwo three (writes_of insert 4 three) (3 ∷ 2 ∷ 1 ∷ []) (4 ∷ 3 ∷ 2 ∷ 1 ∷ []) × IsAtRest (after_writes (writes_of insert 4 three) three) (4 ∷ 3 ∷ 2 ∷ 1 ∷ [])
fourth-is_inserted = (inserts-turn 4 three (3 ∷ 2 ∷ 1 ∷ []) fourth, inserts-end 4 three (3 ∷ 2 ∷ 1 ∷ []) fourth)

-- the second is removed
pub second-is_removed : CommitsAtTwo three (writes_of remove 2 three) (3 ∷ 2 ∷ 1 ∷ []) (3 ∷ 1 ∷ []) × IsAtRest (after_writes (writes_of remove 2 three) three) (3 ∷ 1 ∷ [])
second-is_removed = (removals-turn 2 three (3 ∷ []) (1 ∷ []) three_at_rest, removals-end 2 three (3 ∷ []) (1 ∷ []) three_at_rest)

-- the third node is accessed
pub third-is_touched : CommitsAtTwo three (touch_writes 1 three) (3 ∷ 2 ∷ 1 ∷ []) (1 ∷ 3 ∷ 2 ∷ []) × IsAtRest (after_writes (touch_writes 1 three) three) (1 ∷ 3 ∷ 2 ∷ [])
third-is_touched = (touches-turn 1 three (3 ∷ 2 ∷ []) [] three_at_rest, touches-end 1 three (3 ∷ 2 ∷ []) [] three_at_rest)

-- the redo of an insert that was begun ends it, in three attempts
abbrev begun_insert : ListView
begun_insert = record three { transaction = 4; operation = insert }

-- the redo of the redone list gives the same list, without an operation in flight
pub insert-is_completed : (completed_but_operation (stopped (2 ∷ 3 ∷ 1 ∷ []) begun_insert) ≡ completed_but_operation begun_insert)
    × (completed_but_operation (after_writes (completion_writes begun_insert) begun_insert) ≡ completed_but_operation begun_insert)
    × ((after_writes (completion_writes begun_insert) begun_insert).transaction ≡ 0)
insert-is_completed = let e = completions-end begun_insert in (completing begun_insert (2 ∷ 3 ∷ 1 ∷ []), e.0, e.1)
