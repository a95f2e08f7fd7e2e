-- Whether the operation in flight counts, and what the redo writes where it does.
use Rattle.blk_disk.specs.Tables.{is_node_among}
use Rattle.std.proofs.Common.{⊎_elim, ◌≡◌, ◌≢◌, ℕ, Bool, true, false, ◌||◌, Option, None, Some, refl, sym, ap, ◌∙◌}
use Rattle.std.specs.Prelude.{◌==◌}
use Rattle.std.proofs.lemmas.Bool.{eq-eqb, ne_eqb, or_right, false_from_ne_true}
use Rattle.spec_folder.specs.ListView.{ListView}
use Rattle.spec_folder.specs.Completion.{counts, head_counts, links_count}
use Rattle.spec_folder.specs.ListPlans.{completion_writes}
use Rattle.law_folder.proofs.lists.ListCompletions.{completion_true}
use Rattle.law_folder.proofs.lists.ListWrites.{counting}
use Rattle.blk_disk.specs.declared.tables.BlockFiles.{BlockFiles}
use Rattle.blk_lru.specs.declared.completing.InFlight.{InFlight}
use Rattle.blk_lru.specs.declared.completing.Usable.TheVariants.{Counts}
use Rattle.blk_lru.specs.declared.plans.Neighbours.{Neighbours}
use Rattle.blk_lru.specs.declared.plans.Operation.TheVariants as operations
use Rattle.blk_lru.specs.Completing.{FindsInFlight, FindsNeighbours, FindsHead, IsInFlight}
use Rattle.blk_lru.specs.declared.nodes.Links.{Links}
use Rattle.blk_lru.specs.Nodes.{AreLinksOf, FindsNode}
use Rattle.blk_lru.specs.Plans.{writes_left}
use Rattle.blk_lru.proofs.PlanNodes.{node_some}
use Rattle.blk_lru.proofs.PlanWords.{pending_is}

clash : {b : Bool} → b ≡ true → b ≡ false → ⊥
clash e f = let z : true ≡ false = sym e ∙ f in cc

-- whether the head counts, by what is found of it
module _ (list : ListView) where
  pub head_none : list.head ≡ 0 → (head_counts list ≡ true) × (0 ≡ list.head)
  head_none zero = let t : (list.head == 0) ≡ true = eq-eqb list.head 0 zero in (rw t refl, sym zero)

  pub head_bad : (head : ℕ) → list.head ≡ head → head ≢ 0 → FindsNode list head None → head_counts list ≡ false
  head_bad head is some bad =
      let t : (list.head == 0) ≡ false = ne_eqb list.head 0 (λ zero. some (sym is ∙ zero)) in
      let b : list.checks list.head ≡ false = ap list.checks is ∙ bad in
      rw (t, b) refl

  pub head_good : (head : ℕ) → list.head ≡ head → (links : Links) → FindsNode list head (Some links) → (head_counts list ≡ true) × (links.node ≡ list.head)
  head_good head is links found =
      let b : list.checks list.head ≡ true = ap list.checks is ∙ found.good in
      (or_right (list.head == 0) (list.checks list.head) b, found.node ∙ sym is)

-- where an operation doesn't count
module _ (list : ListView) where
  not_node : list.checks list.transaction ≡ false → counts list ≡ false
  not_node bad = false_from_ne_true (counts list) (λ e. clash (counting list e).good bad)

  pub node_bad : (transaction : ℕ) → list.transaction ≡ transaction → FindsNode list transaction None → counts list ≡ false
  node_bad transaction is bad = not_node (ap list.checks is ∙ bad)

  pub not_known : list.operation ≢ 1 → list.operation ≢ 2 → list.operation ≢ 3 → counts list ≡ false
  not_known one two three = false_from_ne_true (counts list) (λ e. ⊎_elim one (λ more. ⊎_elim two three more) (counting list e).known)

  pub not_head : (list.operation == 2) ≡ false → head_counts list ≡ false → counts list ≡ false
  not_head other bad =
      false_from_ne_true (counts list)
      (λ e.
      let h : ((list.operation == 2) || head_counts list) ≡ true = (counting list e).head_good in
      let k : head_counts list ≡ true = rw other at h in
      clash k bad)

  pub not_links : (list.operation == 1) ≡ false → links_count list list.transaction ≡ false → counts list ≡ false
  not_links other bad =
      false_from_ne_true (counts list)
      (λ e.
      let h : ((list.operation == 1) || links_count list list.transaction) ≡ true = (counting list e).links in
      let k : links_count list list.transaction ≡ true = rw other at h in
      clash k bad)

  -- where an operation counts
  pub insert_counts : (list.transaction == 0) ≡ false → list.checks list.transaction ≡ true → list.operation ≡ 1 → head_counts list ≡ true → counts list ≡ true
  unfolding counts
  insert_counts some good is head =
      let one : (list.operation == 1) ≡ true = eq-eqb list.operation 1 is in
      let two : (list.operation == 2) ≡ false = ap (λ (o : ℕ). o == 2) is in
      rw (some, good, one, two, head) refl

  pub removal_counts : (list.transaction == 0) ≡ false → list.checks list.transaction ≡ true → list.operation ≡ 2 → links_count list list.transaction ≡ true → counts list ≡ true
  unfolding counts
  removal_counts some good is links =
      let one : (list.operation == 1) ≡ false = ap (λ (o : ℕ). o == 1) is in
      let two : (list.operation == 2) ≡ true = eq-eqb list.operation 2 is in
      rw (some, good, one, two, links) refl

  pub move_counts : (list.transaction == 0) ≡ false → list.checks list.transaction ≡ true → list.operation ≡ 3 → head_counts list ≡ true → links_count list list.transaction ≡ true → counts list ≡ true
  unfolding counts
  move_counts some good is head links =
      let one : (list.operation == 1) ≡ false = ap (λ (o : ℕ). o == 1) is in
      let two : (list.operation == 2) ≡ false = ap (λ (o : ℕ). o == 2) is in
      let three : (list.operation == 3) ≡ true = eq-eqb list.operation 3 is in
      rw (some, good, one, two, three, head, links) refl

-- what is found of an operation whose node has these links
module _ (files : BlockFiles) (list : ListView) (links : Links) (stands : is_node_among files links.node ≡ true) (are : AreLinksOf list list.transaction links) where
  some_transaction : (list.transaction == 0) ≡ false
  some_transaction = ap (λ (n : ℕ). n == 0) (sym are.node) ∙ node_some files links.node stands

  pub insert_found : list.operation ≡ 1 → (head : Option ℕ) → FindsHead list (Counts head) → FindsInFlight list (Some (record { node = links.node; operation = operations.Insert head }))
  insert_found one head first = (insert_counts list some_transaction are.good one first.0, record { node = are.node; operation = sym one; goes_by = first.1 })

  pub removal_found : list.operation ≡ 2 → (neighbours : Option Neighbours) → FindsNeighbours list list.transaction (Counts neighbours) → FindsInFlight list (Some (record { node = links.node; operation = operations.Remove neighbours }))
  removal_found two neighbours found = (removal_counts list some_transaction are.good two found.0, record { node = are.node; operation = sym two; goes_by = found.1 })

  pub move_found : list.operation ≡ 3 → (head : Option ℕ) (neighbours : Option Neighbours) → FindsHead list (Counts head) → FindsNeighbours list list.transaction (Counts neighbours) → FindsInFlight list (Some (record { node = links.node; operation = operations.Move neighbours head }))
  move_found three head neighbours first found = (move_counts list some_transaction are.good three first.0 found.0, record { node = are.node; operation = sym three; goes_by = (found.1, first.1) })

-- what the redo writes, by the operation that was found
pub found_writes : (list : ListView) (found : InFlight) → counts list ≡ true → IsInFlight list found → writes_left found.node found.operation ≡ completion_writes list
found_writes list found e is =
    ap (λ (n : ℕ). writes_left n found.operation) is.node ∙ pending_is list found.operation is.operation is.goes_by ∙ sym (completion_true list e)
