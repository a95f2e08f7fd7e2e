-- The nodes and the words that an operation writes: its nodes have a right or absent checksum, and its words are below 2 ^ 32.
use Rattle.std.proofs.Common.{◌≡◌, ⊎_elim, ℕ, ◌^◌, ◌<◌, Bool, true, false, List, [], ◌∷◌, ◌++◌, if◌then◌else◌, refl, sym, ap, subst, arith}
use Rattle.std.specs.Prelude.{◌==◌, ◌&&◌, ◌||◌}
use Rattle.std.proofs.lemmas.Bool.{and_parts}
use Rattle.spec_image.specs.Image.{Image}
use Rattle.spec_folder.specs.ListView.{ListView, ListWrite, Next, Prev, Head, Tail, Transaction, Operation, after_writes}
use Rattle.spec_folder.specs.Completion.{counts, taking_out, putting_in_front, take_out}
use Rattle.spec_folder.specs.ListPlans.{pending_writes, completion_writes, writes_of}
use Rattle.spec_folder.specs.View.{list_of}
use Rattle.spec_folder.specs.ListSteps.{AreOf, AllWriteWords}
use Rattle.spec_folder.specs.ListImages.{CanBeMade}
use Rattle.law_folder.proofs.lists.ListCompletions.{completion_true, completion_false, completion_none}
use Rattle.law_folder.proofs.lists.ListWrites.{Counting, counting, pending_insert, pending_remove, pending_move}
use Rattle.law_folder.proofs.lists.WriteSteps.{checked-small}

-- a node that is written has P, and a word is written
abbrev pub Good : (ℕ → Type 0) → ListWrite → Type 0
Good P (Next n w) = P n × (w < 2 ^ 32)
Good P (Prev n w) = P n × (w < 2 ^ 32)
Good P (Head w) = w < 2 ^ 32
Good P (Tail w) = w < 2 ^ 32
Good P (Transaction w) = w < 2 ^ 32
Good P (Operation w) = w < 2 ^ 32

abbrev pub Each : (ListWrite → Type 0) → List ListWrite → Type 0
Each Q [] = Unit {0}
Each Q (w ∷ ws) = Q w × Each Q ws

pub Each-append : (Q : ListWrite → Type 0) (xs ys : List ListWrite) → Each Q xs → Each Q ys → Each Q (xs ++ ys)
Each-append Q [] ys x y = y
Each-append Q (w ∷ xs) ys x y = (x.0, Each-append Q xs ys x.1 y)

pub each_nodes : (P : ℕ → Type 0) (ws : List ListWrite) → Each (Good P) ws → AreOf P ws
each_nodes P [] e = tt
each_nodes P (Next n w ∷ ws) e = (e.0.0, each_nodes P ws e.1)
each_nodes P (Prev n w ∷ ws) e = (e.0.0, each_nodes P ws e.1)
each_nodes P (Head w ∷ ws) e = each_nodes P ws e.1
each_nodes P (Tail w ∷ ws) e = each_nodes P ws e.1
each_nodes P (Transaction w ∷ ws) e = each_nodes P ws e.1
each_nodes P (Operation w ∷ ws) e = each_nodes P ws e.1

pub each_words : (P : ℕ → Type 0) (ws : List ListWrite) → Each (Good P) ws → AllWriteWords ws
each_words P [] e = tt
each_words P (Next n w ∷ ws) e = (e.0.1, each_words P ws e.1)
each_words P (Prev n w ∷ ws) e = (e.0.1, each_words P ws e.1)
each_words P (Head w ∷ ws) e = (e.0, each_words P ws e.1)
each_words P (Tail w ∷ ws) e = (e.0, each_words P ws e.1)
each_words P (Transaction w ∷ ws) e = (e.0, each_words P ws e.1)
each_words P (Operation w ∷ ws) e = (e.0, each_words P ws e.1)

pub weaker : (P Q : ℕ → Type 0) (ws : List ListWrite) → ((n : ℕ) → P n → Q n) → AreOf P ws → AreOf Q ws
weaker P Q [] f e = tt
weaker P Q (Next n w ∷ ws) f e = (f n e.0, weaker P Q ws f e.1)
weaker P Q (Prev n w ∷ ws) f e = (f n e.0, weaker P Q ws f e.1)
weaker P Q (Head w ∷ ws) f e = weaker P Q ws f e
weaker P Q (Tail w ∷ ws) f e = weaker P Q ws f e
weaker P Q (Transaction w ∷ ws) f e = weaker P Q ws f e
weaker P Q (Operation w ∷ ws) f e = weaker P Q ws f e

module _ (P : ℕ → Type 0) (small : (n : ℕ) → P n → n < 2 ^ 32) (node : ℕ) (good : P node) where
  pub out_good : (next prev : ℕ) → ((next == 0) ≡ false → P next × P prev) → Each (Good P) (taking_out node next prev)
  out_good next prev links = by_none (next == 0) refl
    where
      by_tests : (a b : Bool) → P next × P prev → Each (Good P) ((if a then (if b then Head 0 ∷ Tail 0 ∷ [] else Prev next next ∷ Head next ∷ []) else (if b then Next prev prev ∷ Tail prev ∷ [] else Next prev next ∷ Prev next prev ∷ [])) ++ Next node 0 ∷ [])
      by_tests true true l = (omega arith, (omega arith, ((good, omega arith), tt)))
      by_tests true false l = ((l.0, small next l.0), (small next l.0, ((good, omega arith), tt)))
      by_tests false true l = ((l.1, small prev l.1), (small prev l.1, ((good, omega arith), tt)))
      by_tests false false l = ((l.1, small next l.0), ((l.0, small prev l.1), ((good, omega arith), tt)))

      by_none : (t : Bool) → (next == 0) ≡ t → Each (Good P) (if t then [] else (if prev == node then (if next == node then Head 0 ∷ Tail 0 ∷ [] else Prev next next ∷ Head next ∷ []) else (if next == node then Next prev prev ∷ Tail prev ∷ [] else Next prev next ∷ Prev next prev ∷ [])) ++ Next node 0 ∷ [])
      by_none true e = tt
      by_none false e = by_tests (prev == node) (next == node) (links e)

  pub front_good : (head : ℕ) → ((head == 0) ≡ false → P head) → Each (Good P) (putting_in_front node head)
  front_good head first = by_same (head == node)
    where
      by_none : (t : Bool) → (head == 0) ≡ t → Each (Good P) (Next node (if t then node else head) ∷ Prev node node ∷ (if t then Tail node else Prev head node) ∷ Head node ∷ [])
      by_none true e = ((good, small node good), ((good, small node good), (small node good, (small node good, tt))))
      by_none false e = ((good, small head (first e)), ((good, small node good), ((first e, small node good), (small node good, tt))))

      by_same : (t : Bool) → Each (Good P) (if t then [] else (Next node (if head == 0 then node else head) ∷ Prev node node ∷ (if head == 0 then Tail node else Prev head node) ∷ Head node ∷ []))
      by_same true = tt
      by_same false = by_none (head == 0) refl

-- the head once a node is out: none, the node's next, or the old head
module _ (P : ℕ → Type 0) (node : ℕ) (list : ListView) where
  pub out_head : ((list.next node == 0) ≡ false → P (list.next node)) → ((list.head == 0) ≡ false → P list.head) → ((take_out node list).head == 0) ≡ false → P (take_out node list).head
  unfolding take_out
  out_head next first = by_tests (list.next node == 0) refl (list.prev node == node) (list.next node == node)
    where
      clash : (0 == 0) ≡ false → ⊥
      clash e = let z : true ≡ false = e in cc

      head_of : (a b c : Bool) → ℕ
      head_of a b c = (after_writes (if a then [] else (if b then (if c then Head 0 ∷ Tail 0 ∷ [] else Prev (list.next node) (list.next node) ∷ Head (list.next node) ∷ []) else (if c then Next (list.prev node) (list.prev node) ∷ Tail (list.prev node) ∷ [] else Next (list.prev node) (list.next node) ∷ Prev (list.next node) (list.prev node) ∷ [])) ++ Next node 0 ∷ []) list).head

      by_tests : (a : Bool) → (list.next node == 0) ≡ a → (b c : Bool) → (head_of a b c == 0) ≡ false → P (head_of a b c)
      by_tests true e b c some = first some
      by_tests false e true true some = absurd (clash some)
      by_tests false e true false some = next e
      by_tests false e false true some = first some
      by_tests false e false false some = first some

or_last : (a b c : Bool) → (a || (b || c)) ≡ true → a ≡ false → b ≡ false → c ≡ true
or_last true b c e f h = let z : true ≡ false = f in cc
or_last false true c e f h = let z : true ≡ false = h in cc
or_last false false c e f h = e

-- what is pending of an operation that counts
module _ (list : ListView) (small : (n : ℕ) → list.checks n ≡ true → n < 2 ^ 32) (does : counts list ≡ true) where
  abbrev Checks : ℕ → Type 0
  Checks n = list.checks n ≡ true

  pub pending_good : Each (Good Checks) (pending_writes list)
  pending_good =
      let c : Counting list = counting list does in
      let node : ℕ = list.transaction in
      ⊎_elim
      (λ (one : list.operation ≡ 1).
      let two : (list.operation == 2) ≡ false = ap (λ (o : ℕ). o == 2) one in
      subst (Each (Good Checks)) (sym (pending_insert list one))
      (Each-append (Good Checks) (putting_in_front node list.head) (Transaction 0 ∷ []) (front_good Checks small node c.good list.head (first two)) (omega arith, tt)))
      (λ more. ⊎_elim
      (λ (two : list.operation ≡ 2).
      let one : (list.operation == 1) ≡ false = ap (λ (o : ℕ). o == 1) two in
      subst (Each (Good Checks)) (sym (pending_remove list two))
      (Each-append (Good Checks) (taking_out node (list.next node) (list.prev node)) (Transaction 0 ∷ []) (out_good Checks small node c.good (list.next node) (list.prev node) (links one)) (omega arith, tt)))
      (λ (three : list.operation ≡ 3).
      let one : (list.operation == 1) ≡ false = ap (λ (o : ℕ). o == 1) three in
      let two : (list.operation == 2) ≡ false = ap (λ (o : ℕ). o == 2) three in
      let head : ℕ = (take_out node list).head in
      subst (Each (Good Checks)) (sym (pending_move list three))
      (Each-append (Good Checks) (taking_out node (list.next node) (list.prev node) ++ Operation 1 ∷ putting_in_front node head) (Transaction 0 ∷ [])
      (Each-append (Good Checks) (taking_out node (list.next node) (list.prev node)) (Operation 1 ∷ putting_in_front node head) (out_good Checks small node c.good (list.next node) (list.prev node) (links one))
      (omega arith, front_good Checks small node c.good head (out_head Checks node list (λ some. (links one some).0) (first two)))) (omega arith, tt)))
      more)
      c.known
    where
      first : (list.operation == 2) ≡ false → (list.head == 0) ≡ false → list.checks list.head ≡ true
      first other some = or_last (list.operation == 2) (list.head == 0) (list.checks list.head) (counting list does).head_good other some

      links : (list.operation == 1) ≡ false → (list.next list.transaction == 0) ≡ false → (list.checks (list.next list.transaction) ≡ true) × (list.checks (list.prev list.transaction) ≡ true)
      links other some =
          and_parts (list.checks (list.next list.transaction)) (list.checks (list.prev list.transaction))
          (or_last (list.operation == 1) (list.next list.transaction == 0) (list.checks (list.next list.transaction) && list.checks (list.prev list.transaction)) (counting list does).links other some)

-- what an operation writes that counts once it has begun can be made
pub operation_can : (code node : ℕ) (image : Image) → code < 2 ^ 32 → counts (record (list_of image) { operation = code; transaction = node }) ≡ true → CanBeMade image (writes_of code node (list_of image))
operation_can code node image fits does =
    let list : ListView = record (list_of image) { operation = code; transaction = node } in
    let P : ℕ → Type 0 = λ n. (list_of image).checks n ≡ true in
    let pending : Each (Good P) (pending_writes list) = pending_good list (checked-small image) does in
    let all : Each (Good P) (writes_of code node (list_of image)) = (fits, (checked-small image node (counting list does).good, pending)) in
    record { nodes = each_nodes P (writes_of code node (list_of image)) all; words = each_words P (writes_of code node (list_of image)) all }

-- and so can what a redo writes
pub completion_can : (image : Image) → CanBeMade image (completion_writes (list_of image))
completion_can image = go (list.transaction == 0) refl (counts list) refl
  where
    list : ListView
    list = list_of image

    P : ℕ → Type 0
    P n = list.checks n ≡ true

    go : (idle : Bool) → (list.transaction == 0) ≡ idle → (t : Bool) → counts list ≡ t → CanBeMade image (completion_writes list)
    go true none t e = subst (CanBeMade image) (sym (completion_none list none)) (record { nodes = tt; words = tt })
    go false some true does =
        let each : Each (Good P) (completion_writes list) = subst (Each (Good P)) (sym (completion_true list does)) (pending_good list (checked-small image) does) in
        record { nodes = each_nodes P (completion_writes list) each; words = each_words P (completion_writes list) each }
    go false some false not = subst (CanBeMade image) (sym (completion_false list some not)) (record { nodes = tt; words = (omega arith, tt) })
