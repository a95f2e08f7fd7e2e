use Rattle.std.proofs.Common.{rules, ◌≡◌, ◌∙◌, ℕ, Option, Some, ap, map, true, refl, sym, subst}
use Rattle.std.proofs.lemmas.Bool.{eq-eqb, ne_eqb}
use Rattle.spec_image.specs.Image.{Image}
use Rattle.spec_folder.specs.ListView.{ListView}
use Rattle.spec_folder.specs.View.{list_of}
use Rattle.spec_folder.specs.ListSteps.{AreOf, AllWriteWords}
use Rattle.law_folder.proofs.lists.ListCompletions.{completion_false, completion_none}
use Rattle.law_folder.proofs.lists.WriteWords.{Each, Good, each_nodes, each_words}
use Rattle.blk_disk.specs.declared.tables.BlockFiles.{BlockFiles}
use Rattle.blk_disk.specs.Tables.{Agrees, is_node_among}
use Rattle.blk_lru.specs.declared.completing.InFlight.{InFlight}
use Rattle.blk_lru.specs.Completing.{AreNodes, FindsInFlight}
use Rattle.blk_lru.specs.Plans.{writes_left}
use Rattle.blk_lru.specs.Writes.{meant}
use Rattle.blk_lru.proofs.Conditions.{told_before, told_now, untold_on}
use Rattle.blk_lru.specs.Nodes.{list_among}
use Rattle.blk_lru.proofs.Flights.{among_is, none_in_flight}
use Rattle.spec_format.specs.Headers.{HasWholeIndex}
use Rattle.blk_lru.proofs.Counting.{found_writes}
use Rattle.blk_lru.proofs.PlanNodes.{pending_good}
use Rattle.blk_lru.proofs.completing.pending.Given as given
use Rattle.blk_lru.proofs.completing.pending.Goals as goal
use Rattle.blk_disk.specs.Open.{IsOpen}

pub returns-then-transaction-eq0-clause-plan : goal.returns-then-transaction-eq0-clause-plan
unfolding list_of
returns-then-transaction-eq0-clause-plan g c from there agrees =
    ap (map meant) c.new.ensures ∙ sym (completion_none (list_of from) (eq-eqb _ 0 (sym (c.in_ok-transaction.ensures.word from there) ∙ c.if-transaction-eq0.true)))

pub returns-then-transaction-eq0-clause-stand : goal.returns-then-transaction-eq0-clause-stand
returns-then-transaction-eq0-clause-stand g c = subst (AreOf (λ n. is_node_among c.args.files.now n ≡ true)) (ap (map meant) (sym c.new.ensures)) tt

pub returns-then-transaction-eq0-clause-words : goal.returns-then-transaction-eq0-clause-words
returns-then-transaction-eq0-clause-words g c = subst AllWriteWords (ap (map meant) (sym c.new.ensures)) tt

pub in_flight-requires : goal.in_flight-requires
unfolding list_among list_of
in_flight-requires g c = record { transaction = λ image there. sym (c.in_ok-transaction.ensures.word image (told_before image c.in_ok-transaction.ensures.reads.stays there)) }

-- what was found, of the list of the image
found_in : (files : BlockFiles) (image : Image) (found : Option InFlight) → Agrees files image → FindsInFlight (list_among files image) found → FindsInFlight (list_of image) found
found_in files image found agrees finds = subst (λ (list : ListView). FindsInFlight list found) (among_is files image agrees) finds

pub returns-in_default-clause-plan : goal.returns-in_default-clause-plan
unfolding list_of
returns-in_default-clause-plan g c image there agrees =
    let found = found_in c.args.files.now image c.in_ok-found.field-0 agrees (c.in_ok-found.ensures.found image (told_now image c.in_ok-transaction.ensures.reads.stays there)) in
    c.ending.ensures
    ∙ sym (completion_false (list_of image) (ne_eqb _ 0 (λ zero. c.if-transaction-eq0.false (c.in_ok-transaction.ensures.word image there ∙ zero))) (subst (FindsInFlight (list_of image)) c.in_default.is found))

-- the operation that was found
finds : (g : given.Over) (c : goal.After-pending_of g) (image : Image) → (g.F.Folder.told c.args.folder.now).files ≡ Some image → Agrees c.args.files.now image → FindsInFlight (list_of image) (Some c.in-Some.found)
finds g c image there agrees = found_in c.args.files.now image (Some c.in-Some.found) agrees (subst (FindsInFlight (list_among c.args.files.now image)) c.in-Some.is (c.in_ok-found.ensures.found image (told_now image c.in_ok-transaction.ensures.reads.stays there)))

nodes : (g : given.Over) (c : goal.After-pending_of g) → AreNodes c.args.files.now c.in-Some.found
nodes g c = search rules

good_here : (g : given.Over) (c : goal.After-pending_of g) → Each (Good (λ n. is_node_among c.args.files.now n ≡ true)) (writes_left c.in-Some.found.node c.in-Some.found.operation)
good_here g c = pending_good c.args.files.now c.in-Some.found.node (nodes g c).0 c.in-Some.found.operation (nodes g c).1

pub returns-clause-plan : goal.returns-clause-plan
returns-clause-plan g c image there agrees = let f = finds g c image there agrees in c.pending_of.ensures ∙ found_writes (list_of image) c.in-Some.found f.0 f.1

pub returns-clause-stand : goal.returns-clause-stand
returns-clause-stand g c =
    let P : ℕ → Type 0 = λ n. is_node_among c.args.files.now n ≡ true in
    subst (AreOf P) (sym c.pending_of.ensures) (each_nodes P (writes_left c.in-Some.found.node c.in-Some.found.operation) (good_here g c))

pub returns-clause-words : goal.returns-clause-words
returns-clause-words g c =
    let P : ℕ → Type 0 = λ n. is_node_among c.args.files.now n ≡ true in
    subst AllWriteWords (sym c.pending_of.ensures) (each_words P (writes_left c.in-Some.found.node c.in-Some.found.operation) (good_here g c))

pub returns-then-transaction-eq0-clause-checked : goal.returns-then-transaction-eq0-clause-checked
unfolding list_among list_of
returns-then-transaction-eq0-clause-checked g c image there =
    none_in_flight c.args.files.now image (sym (c.in_ok-transaction.ensures.word image there) ∙ c.if-transaction-eq0.true) (c.in_ok-transaction.ensures.checked image there)

pub returns-in_default-clause-checked : goal.returns-in_default-clause-checked
returns-in_default-clause-checked g c image there = record {
  word = c.in_ok-transaction.ensures.checked image there;
  in_flight = c.in_ok-found.ensures.checked image (told_now image c.in_ok-transaction.ensures.reads.stays there);
}

pub returns-clause-checked : goal.returns-clause-checked
returns-clause-checked g c image there = record {
  word = c.in_ok-transaction.ensures.checked image there;
  in_flight = c.in_ok-found.ensures.checked image (told_now image c.in_ok-transaction.ensures.reads.stays there);
}

pub returns-in_err-transaction-clause-untold : goal.returns-in_err-transaction-clause-untold
returns-in_err-transaction-clause-untold g c =
    untold_on c.word.result c.from_residual.result c.in_err-transaction.field-0.0 {a = g.F.Folder.told c.args.folder.now} (IsOpen c.args.files.now) HasWholeIndex (λ image is. is.whole_index) refl c.word.ensures.untold c.in_err-transaction.was c.from_residual.ensures.1

pub returns-in_err-found-clause-untold : goal.returns-in_err-found-clause-untold
returns-in_err-found-clause-untold g c =
    untold_on c.in_flight.result c.from_residual-in_err-found.result c.in_err-found.field-0.0 {a = g.F.Folder.told c.args.folder.now} (IsOpen c.args.files.now) (IsOpen c.args.files.now) (λ image is. is) c.in_ok-transaction.ensures.reads.stays c.in_flight.ensures.untold c.in_err-found.was c.from_residual-in_err-found.ensures.1
