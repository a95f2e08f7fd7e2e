-- The writes of an operation on the LRU list, by the nodes that it uses.
use Rattle.blk_disk.specs.Tables.{is_node_among}
use Rattle.std.specs.Prelude.{ℕ, ◌≡◌, ◌≢◌, ◌==◌, if◌then◌else◌, Option, None, Some, List, [], ◌∷◌, ◌++◌, IfSome, true}
use Rattle.spec_folder.specs.ListView.{ListView, ListWrite, Next, Operation, Transaction}
use Rattle.spec_folder.specs.Completion.{insert, remove, move, unlinking, putting_in_front}
use Rattle.blk_disk.specs.declared.tables.BlockFiles.{BlockFiles}
use Rattle.blk_lru.specs.declared.plans.Neighbours.{Neighbours}
use Rattle.blk_lru.specs.declared.plans.Operation as code
use Rattle.blk_lru.specs.declared.plans.Operation.TheVariants as operations

-- the word, or 0 for None
abbrev pub word_or_zero : Option ℕ → ℕ
word_or_zero None = 0
word_or_zero (Some word) = word

-- the word, or None for 0
abbrev pub word_or_none : ℕ → Option ℕ
word_or_none word = if word == 0 then None else Some word

-- the writes that take a node out of the list, by its neighbours: those get new links, and then its own next becomes 0; none where it is in no list
abbrev pub leaving : (node : ℕ) → Option Neighbours → List ListWrite
leaving node None = []
leaving node (Some neighbours) = unlinking node neighbours.next neighbours.prev ++ Next node 0 ∷ []

-- the head of the list once the node is out: its next if it was the head, None if it was alone
abbrev pub head_without : (node : ℕ) → Option Neighbours → (head : Option ℕ) → Option ℕ
head_without node None head = head
head_without node (Some neighbours) head =
    if neighbours.prev == node then (if neighbours.next == node then None else Some neighbours.next) else head

-- the writes of an operation after it is named in the index; a move is named an insert once its node is out
abbrev pub planned : (node : ℕ) → code.Operation → List ListWrite
planned node (operations.Insert head) = putting_in_front node (word_or_zero head)
planned node (operations.Remove neighbours) = leaving node neighbours
planned node (operations.Move neighbours head) = leaving node neighbours ++ Operation insert ∷ putting_in_front node (word_or_zero (head_without node neighbours head))

-- the writes that are left of an operation once it is named in the index: what it changes, and its end
abbrev pub writes_left : (node : ℕ) → code.Operation → List ListWrite
writes_left node operation = planned node operation ++ Transaction 0 ∷ []

-- the code of an operation in the index
abbrev pub operation_code : code.Operation → ℕ
operation_code (operations.Insert head) = insert
operation_code (operations.Remove neighbours) = remove
operation_code (operations.Move neighbours head) = move

-- all writes of an operation: its code, its node, what it changes, and its end
abbrev pub whole_plan : (node : ℕ) → code.Operation → List ListWrite
whole_plan node operation = Operation (operation_code operation) ∷ Transaction node ∷ writes_left node operation

-- the neighbours of a node with these links, or None where its next is 0 (it is in no list)
abbrev pub AreBeside : (next prev : ℕ) → Option Neighbours → Type 0
AreBeside next prev None = next ≡ 0
AreBeside next prev (Some neighbours) = (next ≢ 0) × ((neighbours.next ≡ next) × (neighbours.prev ≡ prev))

-- the nodes that an operation on this node uses are those that the list has: its head, or the node's neighbours, or both
abbrev pub GoesBy : ListView → (node : ℕ) → code.Operation → Type 0
GoesBy list node (operations.Insert head) = word_or_zero head ≡ list.head
GoesBy list node (operations.Remove neighbours) = AreBeside (list.next node) (list.prev node) neighbours
GoesBy list node (operations.Move neighbours head) = AreBeside (list.next node) (list.prev node) neighbours × (word_or_zero head ≡ list.head)

-- the neighbours are valid nodes, by the table
abbrev pub StandBeside : BlockFiles → Neighbours → Type 0
StandBeside files neighbours = (is_node_among files neighbours.next ≡ true) × (is_node_among files neighbours.prev ≡ true)

-- the nodes that an operation uses are valid, by the table
abbrev pub StandsBy : BlockFiles → code.Operation → Type 0
StandsBy files (operations.Insert head) = IfSome head (λ n. is_node_among files n ≡ true)
StandsBy files (operations.Remove neighbours) = IfSome neighbours (StandBeside files)
StandsBy files (operations.Move neighbours head) = IfSome neighbours (StandBeside files) × IfSome head (λ n. is_node_among files n ≡ true)
