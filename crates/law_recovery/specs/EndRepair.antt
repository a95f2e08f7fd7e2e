-- How the end of the LRU list is repaired.
use Rattle.std.specs.Prelude.{◌≡◌, ℕ, false, take, List, [], ◌∷◌, None, Some}
use Rattle.spec_folder.specs.ListView.{ListView, ListWrite, last_or, after_writes}
use Rattle.spec_folder.specs.ListPlans.{ending_writes}
use Rattle.spec_folder.specs.Completion.{completed_list}
use Rattle.spec_folder.specs.Walk.{walk}
use Rattle.spec_folder.specs.ListView.{IsAtRest}

-- the writes that make the last of some walked nodes the last of a list, or the list empty where there is none
abbrev pub end_writes_of : ListView → List ℕ → List ListWrite
end_writes_of list [] = ending_writes list None
end_writes_of list (node ∷ nodes) = ending_writes list (Some (last_or node nodes))

-- the writes that end an LRU list at its last walked node, or make it empty where no node is walked
unfoldable pub end_writes : ListView → List ListWrite
end_writes list = end_writes_of list (walk list)

-- while the end of a list without an operation in flight is repaired, the redo's walk stays the same at each write; in the end the list is idle, with the nodes
-- of the walk
abbrev pub EndsAreMended : Type 0
EndsAreMended = (list : ListView) → list.transaction ≡ 0 → list.checks 0 ≡ false
    → ((count : ℕ) → walk (completed_list (after_writes (take count (end_writes list)) list)) ≡ walk list) × IsAtRest (after_writes (end_writes list) list) (walk list)
