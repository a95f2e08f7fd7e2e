use Rattle.std.proofs.Common.{◌≡◌, ◌∙◌, ap, ◌+◌, sym, subst, arith, ℕ, None}
use Rattle.std.specs.Prelude.{◌-◌}
use Rattle.spec_image.specs.Told.{Told}
use Rattle.blk_io.specs.Faults.{IfDamaged}
use Rattle.blk_io.proofs.Carried.{carried}
use Rattle.blk_model.specs.Sparse.{present_run}
use Rattle.blk_sparse.specs.Reading.{joined_runs}
use Rattle.blk_sparse.proofs.PartsOut.{stays-there}
use Rattle.blk_sparse.proofs.PresentParts.{both-runs-are, first-run-is, run-empty}
use Rattle.blk_sparse.proofs.runs.run_covered.Goals as goal

pub returns-then-count-eq0-clause-run : goal.returns-then-count-eq0-clause-run
returns-then-count-eq0-clause-run g c from there state layout unlinked number object node entry p of_key = sym (ap (present_run object c.args.offset) c.if-count-eq0.true ∙ run-empty object c.args.offset)

pub returns-in_err-one-clause-untold : goal.returns-in_err-one-clause-untold
returns-in_err-one-clause-untold g c from there state layout unlinked number object node entry p of_key =
    carried c.run_of_part.result c.from_residual.result c.in_err-one.field-0.0 (λ _. (g.F.Folder.told c.args.folder.now).files ≡ None) c.in_err-one.was c.from_residual.ensures.1
    (c.run_of_part.ensures.untold from there state layout unlinked number object node entry p of_key)

pub returns-then-from-count-clause-run : goal.returns-then-from-count-clause-run
returns-then-from-count-clause-run g c from there state layout unlinked number object node entry p of_key =
    ap (λ (n : ℕ). (c.args.offset - n + c.in_ok-one.one.start, c.in_ok-one.one.length)) c.from.ensures
    ∙ first-run-is object c.args.offset c.args.count c.child_of-first.result.0 c.child_of-first.result.1 c.min-cut.result c.in_ok-one.one.start c.in_ok-one.one.length (c.in_ok-one.ensures.run from there state layout unlinked number object node entry p of_key) c.child_of-first.ensures.part c.child_of-first.ensures.place
    (let least = c.min-cut.ensures in let place = c.child_of-first.ensures.place in omega (arith, least, place)) (sym c.from-2.ensures ∙ c.if-from-count.true)

pub run_of_part-requires-2-clause-is_open : goal.run_of_part-requires-2-clause-is_open
run_of_part-requires-2-clause-is_open g c image is =
    c.requires.is_open image (ap (λ (t : Told). t.files) (sym c.in_ok-one.ensures.reads.stays) ∙ is)

pub returns-in_err-two-clause-untold : goal.returns-in_err-two-clause-untold
returns-in_err-two-clause-untold g c from there state layout unlinked number object node entry p of_key =
    let at = stays-there (g.F.Folder.told c.args.folder.now) (g.F.Folder.told c.run_of_part.new.folder) from there c.in_ok-one.ensures.reads.stays in
    subst (λ (t : Told). IfDamaged c.from_residual-in_err-two.result (λ _. t.files ≡ None)) c.in_ok-one.ensures.reads.stays
    (carried c.run_of_part-2.result c.from_residual-in_err-two.result c.in_err-two.field-0.0 (λ _. (g.F.Folder.told c.run_of_part.new.folder).files ≡ None) c.in_err-two.was c.from_residual-in_err-two.ensures.1
    (c.run_of_part-2.ensures.untold from at state layout unlinked number object node entry p of_key))

pub returns-clause-run : goal.returns-clause-run
returns-clause-run g c from there state layout unlinked number object node entry p of_key =
    let at = stays-there (g.F.Folder.told c.args.folder.now) (g.F.Folder.told c.run_of_part.new.folder) from there c.in_ok-one.ensures.reads.stays in
    let least = c.min-cut.ensures in
    let place = c.child_of-first.ensures.place in
    let same = c.from-2.ensures in
    let other = c.if-from-count.false in
    let few = c.requires.few in
    c.joined.ensures
    ∙ ap (λ (n : ℕ). joined_runs c.args.offset (c.args.offset + c.from-3.result) (c.args.offset - n + c.in_ok-one.one.start, c.in_ok-one.one.length) (c.args.offset + c.from-3.result + c.in_ok-two.two.start, c.in_ok-two.two.length)) c.from.ensures
    ∙ both-runs-are object c.args.offset c.args.count c.child_of-first.result.0 c.child_of-first.result.1 c.min-cut.result (c.args.offset + c.from-3.result) c.in_ok-one.one.start c.in_ok-one.one.length (c.args.count - c.min-cut.result) c.in_ok-two.two.start c.in_ok-two.two.length
    (c.in_ok-one.ensures.run from there state layout unlinked number object node entry p of_key)
    (c.in_ok-two.ensures.run from at state layout unlinked number object node entry p of_key)
    c.child_of-first.ensures.part place (omega (arith, least, place, same, other, few)) (ap (λ (n : ℕ). c.args.offset + n) c.from-3.ensures) (omega (arith, least, place, same, other, few)) (omega (arith, few))
