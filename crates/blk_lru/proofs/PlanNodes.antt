-- The nodes that an operation writes, by those that it uses.
use Rattle.std.proofs.Common.{◌≡◌, ◌≢◌, ℕ, ◌^◌, ◌<◌, Bool, true, false, [], ◌∷◌, Option, None, Some, if◌then◌else◌, refl, sym, ap, ◌∙◌, subst, arith}
use Rattle.std.specs.Prelude.{◌==◌, ◌&&◌, ◌/◌, ◌||◌, IfSome}
use Rattle.std.proofs.lemmas.Bool.{and_parts, eqb-true}
use Rattle.spec_format.specs.Address.{is_address, is_initialized, names_external, names_blocks, kind_of, rankings}
use Rattle.spec_folder.specs.ListView.{Transaction, Operation}
use Rattle.spec_folder.specs.Completion.{putting_in_front}
use Rattle.law_folder.proofs.lists.WriteWords.{Each, Good, Each-append, front_good, out_good}
use Rattle.blk_disk.specs.declared.tables.BlockFiles.{BlockFiles}
use Rattle.blk_disk.specs.Tables.{stands_among, is_node_among, names_among}
use Rattle.blk_lru.specs.declared.plans.Neighbours.{Neighbours}
use Rattle.blk_lru.specs.declared.plans.Operation as code
use Rattle.blk_lru.specs.declared.plans.Operation.TheVariants as operations
use Rattle.blk_lru.specs.Plans.{operation_code, head_without, leaving, planned, writes_left, whole_plan, word_or_zero, StandBeside, StandsBy}
use Rattle.blk_lru.proofs.PlanWords.{leaving_is, some_word}

-- a node's word is below 2 ^ 32
node_small : (files : BlockFiles) (w : ℕ) → is_node_among files w ≡ true → w < 2 ^ 32
unfolding names_among is_address is_initialized
node_small files w is =
    let a = (and_parts (is_address w) ((kind_of w == rankings) && stands_among files w) is).0 in
    let b = (and_parts (w / 2 ^ 31 == 1) (names_external w || names_blocks w) a).0 in
    let top : w / 2 ^ 31 ≡ 1 = eqb-true (w / 2 ^ 31) 1 b in
    omega arith

-- a node's word isn't 0
pub node_some : (files : BlockFiles) (w : ℕ) → is_node_among files w ≡ true → (w == 0) ≡ false
unfolding names_among
node_some files w is = some_word w (and_parts (is_address w) ((kind_of w == rankings) && stands_among files w) is).0

pub node_apart : (files : BlockFiles) (w : ℕ) → is_node_among files w ≡ true → w ≢ 0
node_apart files w is zero = clash (sym (node_some files w is) ∙ ap (λ (n : ℕ). n == 0) zero)
  where
    clash : false ≡ true → ⊥
    clash e = cc

module _ (files : BlockFiles) (node : ℕ) (stands : is_node_among files node ≡ true) where
  abbrev Stands : ℕ → Type 0
  Stands n = is_node_among files n ≡ true

  prefix : (head : Option ℕ) → IfSome head Stands → Each (Good Stands) (putting_in_front node (word_or_zero head))
  prefix None head = front_good Stands (node_small files) node stands 0 (λ some. absurd (clash some))
    where
      clash : (0 == 0) ≡ false → ⊥
      clash e = let z : true ≡ false = e in cc
  prefix (Some w) head = front_good Stands (node_small files) node stands w (λ some. head)

  out : (neighbours : Option Neighbours) → IfSome neighbours (StandBeside files) → Each (Good Stands) (leaving node neighbours)
  out None neighbours = tt
  out (Some b) neighbours =
      subst (Each (Good Stands)) (leaving_is node b.next b.prev (Some b) (node_apart files b.next neighbours.0, (refl, refl)))
      (out_good Stands (node_small files) node stands b.next b.prev (λ some. neighbours))

  left : (neighbours : Option Neighbours) (head : Option ℕ) → IfSome neighbours (StandBeside files) → IfSome head Stands → IfSome (head_without node neighbours head) Stands
  left None head none first = first
  left (Some b) head neighbours first = by_tests (b.prev == node) (b.next == node)
    where
      by_tests : (p n : Bool) → IfSome (if p then (if n then None else Some b.next) else head) Stands
      by_tests true true = tt
      by_tests true false = neighbours.0
      by_tests false n = first

  planned_good : (operation : code.Operation) → StandsBy files operation → Each (Good Stands) (planned node operation)
  planned_good (operations.Insert head) first = prefix head first
  planned_good (operations.Remove neighbours) links = out neighbours links
  planned_good (operations.Move neighbours head) both =
      Each-append (Good Stands) (leaving node neighbours) (Operation 1 ∷ putting_in_front node (word_or_zero (head_without node neighbours head))) (out neighbours both.0)
      (omega arith, prefix (head_without node neighbours head) (left neighbours head both.0 both.1))

  pub pending_good : (operation : code.Operation) → StandsBy files operation → Each (Good Stands) (writes_left node operation)
  pending_good operation by = Each-append (Good Stands) (planned node operation) (Transaction 0 ∷ []) (planned_good operation by) (omega arith, tt)

  pub whole_good : (operation : code.Operation) → StandsBy files operation → Each (Good Stands) (whole_plan node operation)
  whole_good operation by = (code_small operation, (node_small files node stands, pending_good operation by))
    where
      code_small : (o : code.Operation) → operation_code o < 2 ^ 32
      code_small (operations.Insert head) = omega arith
      code_small (operations.Remove neighbours) = omega arith
      code_small (operations.Move neighbours head) = omega arith
