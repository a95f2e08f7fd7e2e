use Rattle.std.proofs.Common.{◌≡◌, ◌∙◌, ◌+◌, ℕ, ap, sym, subst, refl, arith, None}
use Rattle.spec_image.specs.Told.{Told}
use Rattle.blk_io.specs.Faults.{IfDamaged}
use Rattle.blk_io.proofs.Carried.{carried}
use Rattle.blk_sparse.specs.Parts.{IsPartFound}
use Rattle.blk_sparse.proofs.PartsOut.{stays-there}
use Rattle.blk_sparse.proofs.finding.find_covered.Goals as goal

pub returns-in_err-first-clause-untold : goal.returns-in_err-first-clause-untold
returns-in_err-first-clause-untold g c from there state layout unlinked number object node entry p of_key =
    carried c.find_part.result c.from_residual.result c.in_err-first.field-0.0 (λ _. (g.F.Folder.told c.args.folder.now).files ≡ None) c.in_err-first.was c.from_residual.ensures.1
    (c.find_part.ensures.untold from there state layout unlinked number object node entry p of_key)

pub returns-then-count-from-clause-parts : goal.returns-then-count-from-clause-parts
returns-then-count-from-clause-parts g c from there state layout unlinked number object node entry p of_key = record {
  first = subst (λ (n : ℕ). IsPartFound layout object n c.in_ok-first.first) c.child_of-number.ensures.part (c.in_ok-first.ensures.part from there state layout unlinked number object node entry p of_key);
  second = λ past. absurd (let le = c.if-count-from.true in let same = c.from.ensures in let place = c.child_of-number.ensures.place in omega (arith, past, le, same, place));
  alone = λ _. refl;
}

pub find_part-requires-2-clause-is_open : goal.find_part-requires-2-clause-is_open
find_part-requires-2-clause-is_open g c image is =
    c.requires.is_open image (ap (λ (t : Told). t.files) (sym c.in_ok-first.ensures.reads.stays) ∙ is)

pub returns-in_err-second-clause-untold : goal.returns-in_err-second-clause-untold
returns-in_err-second-clause-untold g c from there state layout unlinked number object node entry p of_key =
    let at = stays-there (g.F.Folder.told c.args.folder.now) (g.F.Folder.told c.find_part.new.folder) from there c.in_ok-first.ensures.reads.stays in
    subst (λ (t : Told). IfDamaged c.from_residual-in_err-second.result (λ _. t.files ≡ None)) c.in_ok-first.ensures.reads.stays
    (carried c.find_part-2.result c.from_residual-in_err-second.result c.in_err-second.field-0.0 (λ _. (g.F.Folder.told c.find_part.new.folder).files ≡ None) c.in_err-second.was c.from_residual-in_err-second.ensures.1
    (c.find_part-2.ensures.untold from at state layout unlinked number object node entry p of_key))

pub returns-clause-parts : goal.returns-clause-parts
returns-clause-parts g c from there state layout unlinked number object node entry p of_key =
    let at = stays-there (g.F.Folder.told c.args.folder.now) (g.F.Folder.told c.find_part.new.folder) from there c.in_ok-first.ensures.reads.stays in
    record {
      first = subst (λ (n : ℕ). IsPartFound layout object n c.in_ok-first.first) c.child_of-number.ensures.part (c.in_ok-first.ensures.part from there state layout unlinked number object node entry p of_key);
      second = λ _. subst (λ (n : ℕ). IsPartFound layout object n c.in_ok-second.second) (ap (λ (n : ℕ). n + 1) c.child_of-number.ensures.part) (c.in_ok-second.ensures.part from at state layout unlinked number object node entry p of_key);
      alone = λ le. absurd (let more = c.if-count-from.false in let same = c.from.ensures in let place = c.child_of-number.ensures.place in omega (arith, le, more, same, place));
    }
