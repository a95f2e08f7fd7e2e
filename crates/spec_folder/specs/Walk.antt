-- The walk of the LRU list.
use Rattle.std.specs.Prelude.{ℕ, zero, suc, Bool, not, ◌&&◌, ◌==◌, if◌then◌else◌, List, [], ◌∷◌}
use Rattle.spec_format.specs.BlockFiles.{is_among}
use Rattle.spec_folder.specs.ListView.{ListView, most_nodes}

-- the nodes from a word on, at most so many, where some were met and one is the node before; a node is walked where it is there, its checksum
-- is right or absent, it was not met, and its prev is the node before it; the walk ends after a node whose next is itself, and before one that isn't walked
unfoldable pub walk_from : (checks : ℕ → Bool) (next prev : ℕ → ℕ) (most : ℕ) (met : List ℕ) (before word : ℕ) → List ℕ
walk_from checks next prev zero met before word = []
walk_from checks next prev (suc most) met before word =
    if checks word && not (is_among met word) && (prev word == before)
    then (word ∷ (if next word == word then [] else walk_from checks next prev most (word ∷ met) word (next word)))
    else []

-- the walked nodes, in order, from the head, whose prev is itself
unfoldable pub walk : ListView → List ℕ
walk list = walk_from list.checks list.next list.prev most_nodes [] list.head list.head
