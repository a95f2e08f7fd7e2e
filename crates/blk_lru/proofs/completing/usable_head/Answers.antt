use Rattle.std.proofs.Common.{◌∙◌, Option, refl, sym, subst}
use Rattle.spec_folder.specs.View.{list_of}
use Rattle.blk_disk.specs.Open.{IsOpen}
use Rattle.blk_disk.specs.Tables.{Agrees}
use Rattle.spec_format.specs.Headers.{HasWholeIndex}
use Rattle.blk_lru.specs.declared.nodes.Links.{Links}
use Rattle.blk_lru.specs.Nodes.{list_among, FindsNode}
use Rattle.blk_lru.proofs.Conditions.{told_now, untold_on}
use Rattle.blk_lru.proofs.Flights.{head_there, zero_there}
use Rattle.blk_lru.proofs.Counting.{head_bad, head_good, head_none}
use Rattle.blk_lru.proofs.completing.usable_head.Goals as goal

pub returns-then-head-eq0-clause-found : goal.returns-then-head-eq0-clause-found
unfolding list_among list_of
returns-then-head-eq0-clause-found g c image there = head_none (list_among c.args.files.now image) (sym (c.in_ok-head.ensures.word image there) ∙ c.if-head-eq0.true)

pub returns-in_default-clause-found : goal.returns-in_default-clause-found
unfolding list_among list_of
returns-in_default-clause-found g c image there =
    head_bad (list_among c.args.files.now image) c.in_ok-head.head (sym (c.in_ok-head.ensures.word image there)) c.if-head-eq0.false
    (subst (λ (o : Option Links). FindsNode (list_among c.args.files.now image) c.in_ok-head.head o) c.in_default.is (c.in_ok-links.ensures.found image (told_now image c.in_ok-head.ensures.reads.stays there)))

pub returns-clause-found : goal.returns-clause-found
unfolding list_among list_of
returns-clause-found g c image there =
    head_good (list_among c.args.files.now image) c.in_ok-head.head (sym (c.in_ok-head.ensures.word image there)) c.in-Some.links
    (subst (λ (o : Option Links). FindsNode (list_among c.args.files.now image) c.in_ok-head.head o) c.in-Some.is (c.in_ok-links.ensures.found image (told_now image c.in_ok-head.ensures.reads.stays there)))

pub returns-then-head-eq0-clause-checked : goal.returns-then-head-eq0-clause-checked
unfolding list_among list_of
returns-then-head-eq0-clause-checked g c image there =
    head_there c.args.files.now image c.in_ok-head.head (c.in_ok-head.ensures.checked image there) (c.in_ok-head.ensures.word image there) (zero_there c.args.files.now image c.in_ok-head.head c.if-head-eq0.true)

pub returns-in_default-clause-checked : goal.returns-in_default-clause-checked
unfolding list_among list_of
returns-in_default-clause-checked g c image there =
    head_there c.args.files.now image c.in_ok-head.head (c.in_ok-head.ensures.checked image there) (c.in_ok-head.ensures.word image there) (c.in_ok-links.ensures.checked image (told_now image c.in_ok-head.ensures.reads.stays there))

pub returns-clause-checked : goal.returns-clause-checked
unfolding list_among list_of
returns-clause-checked g c image there =
    head_there c.args.files.now image c.in_ok-head.head (c.in_ok-head.ensures.checked image there) (c.in_ok-head.ensures.word image there) (c.in_ok-links.ensures.checked image (told_now image c.in_ok-head.ensures.reads.stays there))

pub returns-in_err-head-clause-untold : goal.returns-in_err-head-clause-untold
returns-in_err-head-clause-untold g c =
    untold_on c.word.result c.from_residual.result c.in_err-head.field-0.0 {a = g.F.Folder.told c.args.folder.now} (IsOpen c.args.files.now) HasWholeIndex (λ image is. is.whole_index) refl c.word.ensures.untold c.in_err-head.was c.from_residual.ensures.1

pub returns-in_err-links-clause-untold : goal.returns-in_err-links-clause-untold
returns-in_err-links-clause-untold g c =
    untold_on c.checked.result c.from_residual-in_err-links.result c.in_err-links.field-0.0 {a = g.F.Folder.told c.args.folder.now} (IsOpen c.args.files.now) (Agrees c.args.files.now) (λ image is. is.agrees) c.in_ok-head.ensures.reads.stays c.checked.ensures.untold c.in_err-links.was c.from_residual-in_err-links.ensures.1
