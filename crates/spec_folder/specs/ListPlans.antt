-- What an operation on the LRU list writes, in its order.
use Rattle.std.specs.Prelude.{◌≡◌, ℕ, ◌==◌, if◌then◌else◌, nat_lt, take, List, [], ◌∷◌, ◌++◌, Bool, Option, None, Some}
use Rattle.spec_folder.specs.ListView.{ListView, ListWrite, Next, Head, Tail, Transaction, Operation, with_write, after_writes}
use Rattle.spec_folder.specs.Completion.{insert, remove, move, counts, taking_out, putting_in_front, take_out, completed_list}
use Rattle.spec_folder.specs.Walk.{walk}

-- what the operation in flight writes; a move becomes an insert once its node is out
unfoldable pub operation_writes : ListView → List ListWrite
operation_writes list =
    let node = list.transaction in
    if list.operation == insert then putting_in_front node list.head else
    (if list.operation == remove then taking_out node (list.next node) (list.prev node) else
    taking_out node (list.next node) (list.prev node) ++ Operation insert ∷ putting_in_front node (take_out node list).head)

-- the writes of an operation after the transaction word names its node, with the transaction word 0 at the end
abbrev pub pending_writes : ListView → List ListWrite
pending_writes list = operation_writes list ++ Transaction 0 ∷ []

-- the writes of the redo of an LRU list: none where no operation is in flight, those that are left of one that counts, and else the transaction word 0 alone
unfoldable pub completion_writes : ListView → List ListWrite
completion_writes list = if list.transaction == 0 then [] else (if counts list then pending_writes list else Transaction 0 ∷ [])

-- the writes of an operation on a node, by its code: the operation word, the transaction word, and then what is pending
abbrev pub writes_of : (code node : ℕ) → ListView → List ListWrite
writes_of code node list = Operation code ∷ Transaction node ∷ pending_writes (record list { operation = code; transaction = node })

-- the writes of an access, which moves a node to the front of the LRU list; none where it is the head
abbrev pub touch_writes : (node : ℕ) → ListView → List ListWrite
touch_writes node list = if list.head == node then [] else writes_of move node list

-- a write, or none where the word is right already
abbrev pub unless : Bool → ListWrite → List ListWrite
unless right write = if right then [] else write ∷ []

-- the writes that make a node the last of a list, by its next and the tail, which become the node; or a list empty, by its head and the tail, which become 0
abbrev pub ending_by : Option ℕ → (front tail : ℕ) → List ListWrite
ending_by None front tail = unless (front == 0) (Head 0) ++ unless (tail == 0) (Tail 0)
ending_by (Some node) front tail = unless (front == node) (Next node node) ++ unless (tail == node) (Tail node)

-- the next of a node, or the head of a list where no node is given
abbrev pub front_of : ListView → Option ℕ → ℕ
front_of list None = list.head
front_of list (Some node) = list.next node

-- the writes that make a node the last of a list, or the list empty where no node is given
abbrev pub ending_writes : ListView → Option ℕ → List ListWrite
ending_writes list last = ending_by last (front_of list last) list.tail

-- the LRU list after its redo, but for the operation word, which isn't read while no operation is in flight
unfoldable pub completed_but_operation : ListView → ListView
completed_but_operation list = record (completed_list list) { operation = 0 }

-- P holds of the list before each of these writes and after the last
abbrev pub AtEachWrite : (ListView → Type 0) → List ListWrite → ListView → Type 0
AtEachWrite P [] list = P list
AtEachWrite P (write ∷ writes) list = P list × AtEachWrite P writes (with_write list write)

-- the redo gives the old nodes after none or one of these writes, and the new nodes after two or more
abbrev pub CommitsAtTwo : ListView → List ListWrite → (old new : List ℕ) → Type 0
CommitsAtTwo list writes old new = (count : ℕ) → walk (completed_list (after_writes (take count writes) list)) ≡ (if nat_lt count 2 then old else new)

-- an LRU list after redos that crash: each of these numbers is how many writes a redo made before it was begun again
abbrev pub stopped : List ℕ → ListView → ListView
stopped [] list = list
stopped (count ∷ counts) list = stopped counts (after_writes (take count (completion_writes list)) list)
