use Rattle.std.proofs.Common.{◌∙◌, Option, refl, sym, subst}
use Rattle.spec_folder.specs.View.{list_of}
use Rattle.blk_lru.specs.declared.nodes.Links.{Links}
use Rattle.blk_lru.specs.Nodes.{list_among, FindsNode}
use Rattle.blk_lru.proofs.Conditions.{told_before, told_now, untold_last, untold_on}
use Rattle.blk_lru.proofs.Flights.{bad_in_flight, good_in_flight}
use Rattle.blk_lru.proofs.Counting.{node_bad}
use Rattle.blk_lru.proofs.completing.in_flight.Goals as goal
use Rattle.std.proofs.lemmas.Result.{on_ok_weaker}
use Rattle.spec_format.specs.Headers.{HasWholeIndex}
use Rattle.blk_disk.specs.Open.{IsOpen}
use Rattle.blk_disk.specs.Tables.{Agrees}

pub returns-in_default-clause-found : goal.returns-in_default-clause-found
returns-in_default-clause-found g c image there =
    node_bad (list_among c.args.files.now image) c.args.transaction (c.requires.transaction image there) (subst (λ (o : Option Links). FindsNode (list_among c.args.files.now image) c.args.transaction o) c.in_default.is (c.in_ok-links.ensures.found image there))

pub counting-requires-clause-operation : goal.counting-requires-clause-operation
unfolding list_among list_of
counting-requires-clause-operation g c image there = sym (c.in_ok-code.ensures.word image (told_before image c.in_ok-code.ensures.reads.stays there))

pub returns-in_default-clause-checked : goal.returns-in_default-clause-checked
returns-in_default-clause-checked g c image there =
    bad_in_flight c.args.files.now image c.args.transaction (c.requires.transaction image there) (c.in_ok-links.ensures.checked image there)
    (subst (λ (o : Option Links). FindsNode (list_among c.args.files.now image) c.args.transaction o) c.in_default.is (c.in_ok-links.ensures.found image there))

pub returns-clause-checked : goal.returns-clause-checked
returns-clause-checked g c =
    on_ok_weaker c.counting.result
    (λ operands image there.
    let next = told_now image c.in_ok-links.ensures.reads.stays there in
    good_in_flight c.args.files.now image c.args.transaction (c.requires.transaction image there) (c.in_ok-links.ensures.checked image there) (c.in_ok-code.ensures.checked image next)
    (operands image (told_now image c.in_ok-code.ensures.reads.stays next)))
    c.counting.ensures.checked

pub returns-in_err-links-clause-untold : goal.returns-in_err-links-clause-untold
returns-in_err-links-clause-untold g c =
    untold_on c.checked.result c.from_residual.result c.in_err-links.field-0.0 {a = g.F.Folder.told c.args.folder.now} (IsOpen c.args.files.now) (Agrees c.args.files.now) (λ image is. is.agrees) refl c.checked.ensures.untold c.in_err-links.was c.from_residual.ensures.1

pub returns-in_err-code-clause-untold : goal.returns-in_err-code-clause-untold
returns-in_err-code-clause-untold g c =
    untold_on c.word.result c.from_residual-in_err-code.result c.in_err-code.field-0.0 {a = g.F.Folder.told c.args.folder.now} (IsOpen c.args.files.now) HasWholeIndex (λ image is. is.whole_index) c.in_ok-links.ensures.reads.stays c.word.ensures.untold c.in_err-code.was c.from_residual-in_err-code.ensures.1

pub returns-clause-untold : goal.returns-clause-untold
returns-clause-untold g c =
    untold_last c.counting.result (IsOpen c.args.files.now) (IsOpen c.args.files.now) (λ image is. is) (c.in_ok-code.ensures.reads.stays ∙ c.in_ok-links.ensures.reads.stays) c.counting.ensures.untold
