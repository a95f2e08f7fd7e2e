-- The operation in flight on the LRU list, and its redo.
use Rattle.std.specs.Prelude.{ℕ, Bool, not, ◌&&◌, ◌||◌, ◌==◌, if◌then◌else◌, List, [], ◌∷◌, ◌++◌}
use Rattle.spec_folder.specs.ListView.{ListView, ListWrite, Next, Prev, Head, Tail, after_writes}

-- the operation code 1: a node is put in front of the LRU list
abbrev pub insert : ℕ
insert = 1

-- the operation code 2: a node is taken out of the LRU list
abbrev pub remove : ℕ
remove = 2

-- the operation code 3: a node is moved to the front of the LRU list
abbrev pub move : ℕ
move = 3

-- the head is 0 or names a node that is there and whose checksum is right or absent
abbrev pub head_counts : ListView → Bool
head_counts list = (list.head == 0) || list.checks list.head

-- a node's next is 0, or its next and its prev name nodes that are there and whose checksums are right or absent
abbrev pub links_count : ListView → ℕ → Bool
links_count list node = (list.next node == 0) || (list.checks (list.next node) && list.checks (list.prev node))

-- the redo has something to do: the transaction names a node that is there, the operation is 1, 2 or 3, the head (for 1 and 3) is 0 or names a node that is
-- there, and (for 2 and 3), unless the node's next is 0, its next and its prev name nodes that are there; each of these nodes has a right or absent checksum
unfoldable pub counts : ListView → Bool
counts list =
    not (list.transaction == 0) && list.checks list.transaction
    && ((list.operation == insert) || (list.operation == remove) || (list.operation == move))
    && ((list.operation == remove) || head_counts list)
    && ((list.operation == insert) || links_count list list.transaction)

-- how a node's neighbours change where it is taken out, by the node's own links, line by line:
-- prev and next name it: the head becomes 0, and the tail becomes 0;
-- prev alone names it: the next node's prev becomes itself, and the head becomes that node;
-- next alone names it: the previous node's next becomes itself, and the tail becomes that node;
-- neither names it: the previous node's next becomes the next node, and the next node's prev becomes the previous node
abbrev pub unlinking : (node next prev : ℕ) → List ListWrite
unlinking node next prev =
    if prev == node
    then (if next == node then Head 0 ∷ Tail 0 ∷ [] else Prev next next ∷ Head next ∷ [])
    else (if next == node then Next prev prev ∷ Tail prev ∷ [] else Next prev next ∷ Prev next prev ∷ [])

-- taking a node out: nothing where its next is 0; else its neighbours change, and then its next becomes 0
abbrev pub taking_out : (node next prev : ℕ) → List ListWrite
taking_out node next prev = if next == 0 then [] else unlinking node next prev ++ Next node 0 ∷ []

-- putting a node in front: nothing where it is the head; else its next becomes the head, or itself where that is 0; its prev becomes itself;
-- the old head's prev becomes it, or the tail where there was no head; and the head becomes it
abbrev pub putting_in_front : (node head : ℕ) → List ListWrite
putting_in_front node head =
    if head == node then [] else
    (Next node (if head == 0 then node else head) ∷ Prev node node ∷ (if head == 0 then Tail node else Prev head node) ∷ Head node ∷ [])

-- the list with a node taken out
unfoldable pub take_out : ℕ → ListView → ListView
take_out node list = after_writes (taking_out node (list.next node) (list.prev node)) list

-- the list with a node put in front
unfoldable pub put_front : ℕ → ListView → ListView
put_front node list = after_writes (putting_in_front node list.head) list

-- the LRU list after its operation in flight is done on the transaction's node
unfoldable pub operated : ListView → ListView
operated list =
    if list.operation == insert then put_front list.transaction list else
    (if list.operation == remove then take_out list.transaction list else
    put_front list.transaction (take_out list.transaction list))

-- the LRU list after its redo: the operation in flight is done where it counts, and the transaction becomes 0; the operation word stays
unfoldable pub completed_list : ListView → ListView
completed_list list = record (if counts list then operated list else list) { transaction = 0 }
