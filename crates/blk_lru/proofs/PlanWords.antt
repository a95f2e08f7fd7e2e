-- What an operation writes, by the words that it finds.
use Rattle.std.proofs.Common.{◌≡◌, ℕ, Bool, true, false, List, [], ◌∷◌, ◌++◌, Option, None, Some, if◌then◌else◌, map, not, refl, sym, ap, ap₂, ◌∙◌}
use Rattle.std.specs.Prelude.{◌==◌}
use Rattle.std.proofs.lemmas.Bool.{eq-eqb, ne_eqb}
use Rattle.std.proofs.lemmas.List.{map-append}
use Rattle.spec_format.specs.Address.{is_address, is_initialized}
use Rattle.spec_folder.specs.ListView.{ListView, after_writes, ListWrite, Next, Prev, Head, Tail, Transaction, Operation}
use Rattle.spec_folder.specs.Completion.{taking_out, putting_in_front, take_out, unlinking}
use Rattle.spec_folder.specs.ListPlans.{pending_writes, writes_of}
use Rattle.law_folder.proofs.lists.ListWrites.{pending_insert, pending_remove, pending_move}
use Rattle.blk_lru.specs.declared.plans.Neighbours.{Neighbours}
use Rattle.blk_lru.specs.declared.plans.Operation as code
use Rattle.blk_lru.specs.declared.plans.Operation.TheVariants as operations
use Rattle.blk_lru.specs.declared.writes.Write.{Write}
use Rattle.blk_lru.specs.Plans.{operation_code, head_without, leaving, writes_left, whole_plan, word_or_zero, AreBeside, GoesBy}
use Rattle.blk_lru.specs.Writes.{meant}

-- the word 0 is no address
zero-no_address : is_address 0 ≡ false
unfolding is_address is_initialized
zero-no_address = refl

pub some_word : (w : ℕ) → is_address w ≡ true → (w == 0) ≡ false
some_word w address = ne_eqb w 0 (λ zero. clash (sym address ∙ ap is_address zero ∙ zero-no_address))
  where
    clash : true ≡ false → ⊥
    clash e = cc

pub zero_apart : (node : ℕ) → is_address node ≡ true → (0 == node) ≡ false
zero_apart node address = ne_eqb 0 node (λ e. let z : (node == 0) ≡ true = eq-eqb node 0 (sym e) in clash (sym z ∙ some_word node address))
  where
    clash : true ≡ false → ⊥
    clash e = cc

pub front_none : (node : ℕ) → is_address node ≡ true → putting_in_front node 0 ≡ Next node node ∷ Prev node node ∷ Tail node ∷ Head node ∷ []
front_none node address = let apart = zero_apart node address in rw apart refl

pub front_some : (node head : ℕ) → true ≡ not (head == node) → is_address head ≡ true → putting_in_front node head ≡ Next node head ∷ Prev node node ∷ Prev head node ∷ Head node ∷ []
front_some node head apart address = let t = by_not (head == node) apart in rw (t, some_word head address) refl
  where
    by_not : (b : Bool) → true ≡ not b → b ≡ false
    by_not true e = absurd (let z : true ≡ false = e in cc)
    by_not false e = refl

-- writes that are added
pub added : (old new more : List Write) (writes : List ListWrite) → new ≡ old ++ more → map meant more ≡ writes → map meant new ≡ map meant old ++ writes
added old new more writes is are = ap (map meant) is ∙ map-append meant old more ∙ ap (λ (ws : List ListWrite). map meant old ++ ws) are

-- taking a node out by the nodes beside it is taking it out by its links
pub leaving_is : (node next prev : ℕ) (neighbours : Option Neighbours) → AreBeside next prev neighbours → taking_out node next prev ≡ leaving node neighbours
leaving_is node next prev None zero = ap (λ (n : ℕ). taking_out node n prev) zero
leaving_is node next prev (Some neighbours) (some, (n, p)) =
    let t : (next == 0) ≡ false = ne_eqb next 0 some in
    let out : taking_out node next prev ≡ unlinking node next prev ++ Next node 0 ∷ [] = rw t refl in
    out ∙ ap₂ (λ (n p : ℕ). unlinking node n p ++ Next node 0 ∷ []) (sym n) (sym p)

-- the head after a node is taken out by its links
left_head : (node next prev head : ℕ) → ℕ
left_head node next prev head = if next == 0 then head else (if prev == node then (if next == node then 0 else next) else head)

head_after : (node : ℕ) (list : ListView) → (take_out node list).head ≡ left_head node (list.next node) (list.prev node) list.head
unfolding take_out left_head
head_after node list = by_tests (list.next node == 0) (list.prev node == node) (list.next node == node)
  where
    by_tests : (a b c : Bool) → (after_writes (if a then [] else (if b then (if c then Head 0 ∷ Tail 0 ∷ [] else Prev (list.next node) (list.next node) ∷ Head (list.next node) ∷ []) else (if c then Next (list.prev node) (list.prev node) ∷ Tail (list.prev node) ∷ [] else Next (list.prev node) (list.next node) ∷ Prev (list.next node) (list.prev node) ∷ [])) ++ Next node 0 ∷ []) list).head ≡ (if a then list.head else (if b then (if c then 0 else list.next node) else list.head))
    by_tests true b c = refl
    by_tests false true true = refl
    by_tests false true false = refl
    by_tests false false true = refl
    by_tests false false false = refl

head_left : (node next prev : ℕ) (neighbours : Option Neighbours) (head : Option ℕ) → AreBeside next prev neighbours → left_head node next prev (word_or_zero head) ≡ word_or_zero (head_without node neighbours head)
unfolding left_head
head_left node next prev None head zero = ap (λ (n : ℕ). left_head node n prev (word_or_zero head)) zero
head_left node next prev (Some neighbours) head (some, (n, p)) =
    let t : (next == 0) ≡ false = ne_eqb next 0 some in
    let in_list : left_head node next prev (word_or_zero head) ≡ (if prev == node then (if next == node then 0 else next) else word_or_zero head) = rw t refl in
    in_list ∙ ap₂ (λ (n p : ℕ). if p == node then (if n == node then 0 else n) else word_or_zero head) (sym n) (sym p) ∙ by_tests (neighbours.prev == node) (neighbours.next == node)
  where
    by_tests : (a b : Bool) → (if a then (if b then 0 else neighbours.next) else word_or_zero head) ≡ word_or_zero (if a then (if b then None else Some neighbours.next) else head)
    by_tests true true = refl
    by_tests true false = refl
    by_tests false b = refl

-- what is pending of the operation in flight of a list, by the nodes that it uses
pub pending_is : (list : ListView) (operation : code.Operation) → operation_code operation ≡ list.operation → GoesBy list list.transaction operation → writes_left list.transaction operation ≡ pending_writes list
pending_is list (operations.Insert head) is by =
    ap (λ (h : ℕ). putting_in_front list.transaction h ++ Transaction 0 ∷ []) by ∙ sym (pending_insert list (sym is))
pending_is list (operations.Remove neighbours) is by =
    let node = list.transaction in
    sym (pending_remove list (sym is) ∙ ap (λ (ws : List ListWrite). ws ++ Transaction 0 ∷ []) (leaving_is node (list.next node) (list.prev node) neighbours by))
pending_is list (operations.Move neighbours head) is by =
    let node = list.transaction in
    let left : (take_out node list).head ≡ word_or_zero (head_without node neighbours head) =
    head_after node list ∙ ap (left_head node (list.next node) (list.prev node)) (sym by.1) ∙ head_left node (list.next node) (list.prev node) neighbours head by.0 in
    sym (pending_move list (sym is)
    ∙ ap₂ (λ (ws : List ListWrite) (h : ℕ). (ws ++ Operation 1 ∷ putting_in_front node h) ++ Transaction 0 ∷ []) (leaving_is node (list.next node) (list.prev node) neighbours by.0) left)

-- all of an operation on a node of a list
pub whole_is : (list : ListView) (node : ℕ) (operation : code.Operation) → GoesBy list node operation → whole_plan node operation ≡ writes_of (operation_code operation) node list
whole_is list node operation by =
    let named : ListView = record list { operation = operation_code operation; transaction = node } in
    ap (λ (ws : List ListWrite). Operation (operation_code operation) ∷ Transaction node ∷ ws) (pending_is named operation refl (named_by operation by))
  where
    named_by : (o : code.Operation) → GoesBy list node o → GoesBy (record list { operation = operation_code operation; transaction = node }) node o
    named_by (operations.Insert head) by = by
    named_by (operations.Remove neighbours) by = by
    named_by (operations.Move neighbours head) by = by

-- no word
pub none_word : (o : Option ℕ) → ((w : ℕ) → o ≡ Some w → ⊥) → word_or_zero o ≡ 0
none_word None never = refl
none_word (Some w) never = absurd (never w refl)
