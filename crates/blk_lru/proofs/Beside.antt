-- What the nodes that were written say of those beside a node.
use Rattle.std.proofs.Common.{◌≡◌, ◌≢◌, ℕ, Bool, true, false, List, [], ◌∷◌, ◌++◌, if◌then◌else◌, refl, ap, ◌∙◌, subst}
use Rattle.std.specs.Prelude.{◌==◌}
use Rattle.std.proofs.lemmas.Bool.{eqb-true, ne_eqb}
use Rattle.spec_folder.specs.ListView.{ListView, ListWrite, Next, Prev, Head, Tail, Transaction, Operation}
use Rattle.spec_folder.specs.Completion.{insert, remove, move, taking_out, putting_in_front, take_out}
use Rattle.spec_folder.specs.ListPlans.{writes_of}
use Rattle.spec_folder.specs.ListSteps.{AreOf}
use Rattle.law_folder.proofs.lists.ListWrites.{pending_remove, pending_move}
use Rattle.blk_lru.specs.Lists.{HasGoodLinks}
use Rattle.blk_lru.proofs.Performing.{first_nodes}

module _ (list : ListView) (node : ℕ) (some : list.next node ≢ 0) where
  abbrev Good : ℕ → Type 0
  Good n = list.checks n ≡ true

  -- where what takes a node out could be written
  taken_out : AreOf Good (taking_out node (list.next node) (list.prev node)) → HasGoodLinks list node
  taken_out nodes =
      let t : (list.next node == 0) ≡ false = ne_eqb (list.next node) 0 some in
      by_tests (list.prev node == node) refl (list.next node == node) refl (rw t at nodes)
    where
      by_tests : (a : Bool) → (list.prev node == node) ≡ a → (b : Bool) → (list.next node == node) ≡ b
          → AreOf Good ((if a then (if b then Head 0 ∷ Tail 0 ∷ [] else Prev (list.next node) (list.next node) ∷ Head (list.next node) ∷ []) else (if b then Next (list.prev node) (list.prev node) ∷ Tail (list.prev node) ∷ [] else Next (list.prev node) (list.next node) ∷ Prev (list.next node) (list.prev node) ∷ [])) ++ Next node 0 ∷ [])
          → HasGoodLinks list node
      by_tests true p true n h = record { good = h.0; next_good = ap list.checks (eqb-true (list.next node) node n) ∙ h.0; prev_good = ap list.checks (eqb-true (list.prev node) node p) ∙ h.0 }
      by_tests true p false n h = record { good = h.1.0; next_good = h.0; prev_good = ap list.checks (eqb-true (list.prev node) node p) ∙ h.1.0 }
      by_tests false p true n h = record { good = h.1.0; next_good = ap list.checks (eqb-true (list.next node) node n) ∙ h.1.0; prev_good = h.0 }
      by_tests false p false n h = record { good = h.1.1.0; next_good = h.1.0; prev_good = h.0 }

  pub removal_linked : AreOf Good (writes_of remove node list) → HasGoodLinks list node
  removal_linked nodes =
      taken_out (first_nodes Good (taking_out node (list.next node) (list.prev node)) (Transaction 0 ∷ []) (subst (AreOf Good) (pending_remove (record list { operation = remove; transaction = node }) refl) nodes))

  pub move_linked : AreOf Good (writes_of move node list) → HasGoodLinks list node
  move_linked nodes =
      let named : ListView = record list { operation = move; transaction = node } in
      let rest : List ListWrite = Operation insert ∷ putting_in_front node (take_out node named).head in
      taken_out (first_nodes Good (taking_out node (list.next node) (list.prev node)) rest
      (first_nodes Good (taking_out node (list.next node) (list.prev node) ++ rest) (Transaction 0 ∷ []) (subst (AreOf Good) (pending_move named refl) nodes)))
