use Rattle.std.proofs.Common.{Ok, Some, arith, sym, ◌∙◌, ap, ⊎_elim, lit<}
use Rattle.std.specs.Option.{ForSome}
use Rattle.spec_image.specs.Image.{External}
use Rattle.spec_image.specs.Order.{IsNextFile}
use Rattle.spec_image.specs.Told.{Told}
use Rattle.blk_io.specs.FileNames.{file_of}
use Rattle.blk_repair.proofs.DeletionRuns.{externals-all, externals-begin, externals-next, externals-only, externals-said, externals-stay}
use Rattle.blk_repair.proofs.deletions.delete_unclaimed.Goals as goal

pub loop-number-init : goal.loop-number-init
loop-number-init g c = record { small = lit< tt; past = λ before. absurd (grind arith); deleted = externals-begin c.args.claims.now (g.F.Folder.told c.args.folder.now); later = omega arith }

pub returns-in_err-number-clause-prefix : goal.returns-in_err-number-clause-prefix
returns-in_err-number-clause-prefix g c = (file_of c.loop-number.last, (externals-stay c.loop-number.invariant.deleted c.in_err-number.ensures.reads.stays).made)

pub returns-in_err-number-clause-stops : goal.returns-in_err-number-clause-stops
returns-in_err-number-clause-stops g c = externals-said (externals-stay c.loop-number.invariant.deleted c.in_err-number.ensures.reads.stays)

pub returns-in_err-number-clause-is_open : goal.returns-in_err-number-clause-is_open
returns-in_err-number-clause-is_open g c = (externals-stay c.loop-number.invariant.deleted c.in_err-number.ensures.reads.stays).is_open

pub returns-in_err-delete_external-clause-prefix : goal.returns-in_err-delete_external-clause-prefix
returns-in_err-delete_external-clause-prefix g c = (file_of c.loop-number.last, (externals-stay (externals-stay c.loop-number.invariant.deleted c.in_ok-number.ensures.reads.stays) c.in_err-delete_external.ensures.undone).made)

pub returns-in_err-delete_external-clause-stops : goal.returns-in_err-delete_external-clause-stops
returns-in_err-delete_external-clause-stops g c = externals-said (externals-stay (externals-stay c.loop-number.invariant.deleted c.in_ok-number.ensures.reads.stays) c.in_err-delete_external.ensures.undone)

pub returns-in_err-delete_external-clause-is_open : goal.returns-in_err-delete_external-clause-is_open
returns-in_err-delete_external-clause-is_open g c = (externals-stay (externals-stay c.loop-number.invariant.deleted c.in_ok-number.ensures.reads.stays) c.in_err-delete_external.ensures.undone).is_open

pub loop-number-preserved : goal.loop-number-preserved
loop-number-preserved g c =
    let stays = c.in_ok-number.ensures.reads.stays in
    let next : ForSome (g.F.Folder.told c.next_external.new.folder).files (λ image. IsNextFile image (Some (file_of c.loop-number.last)) (Some (External c.in-Some.number))) = (λ image there. c.in_ok-number.ensures.next c.in-Some.number c.in-Some.is image (ap (λ (t : Told). t.files) (sym stays) ∙ there)) in
    record {
      small = omega arith;
      past = λ before. ⊎_elim (λ r. omega (arith, r)) (λ r. let same = r.0 in omega (arith, same)) before;
      deleted = externals-next c.args.claims.now (file_of c.loop-number.last) c.in-Some.number (g.F.Folder.told c.args.folder.now) (g.F.Folder.told c.next_external.new.folder) (g.F.Folder.told c.delete_external.new.folder)
          (externals-stay c.loop-number.invariant.deleted stays) (omega arith) next c.in_ok-delete_external.ensures.steps;
      later = omega (arith, c.loop-number.invariant.later, c.next_external.ensures.reads.later, c.delete_external.ensures.later);
    }

pub returns-clause-claimed : goal.returns-clause-claimed
returns-clause-claimed g c =
    externals-only c.args.claims.now (file_of c.loop-number.last) (g.F.Folder.told c.args.folder.now) (g.F.Folder.told c.next_external.new.folder) (externals-stay c.loop-number.invariant.deleted c.in_ok-number.ensures.reads.stays)
    (λ image there number behind. c.in_ok-number.ensures.none (ap Ok c.in_default.is) image (ap (λ (t : Told). t.files) (sym c.in_ok-number.ensures.reads.stays) ∙ there) number behind)

pub returns-clause-steps : goal.returns-clause-steps
returns-clause-steps g c =
    externals-all c.args.claims.now (file_of c.loop-number.last) (g.F.Folder.told c.args.folder.now) (g.F.Folder.told c.next_external.new.folder) (externals-stay c.loop-number.invariant.deleted c.in_ok-number.ensures.reads.stays)
    (λ image there number behind. c.in_ok-number.ensures.none (ap Ok c.in_default.is) image (ap (λ (t : Told). t.files) (sym c.in_ok-number.ensures.reads.stays) ∙ there) number behind)

pub returns-clause-prefix : goal.returns-clause-prefix
returns-clause-prefix g c = (file_of c.loop-number.last, (externals-stay c.loop-number.invariant.deleted c.in_ok-number.ensures.reads.stays).made)

pub returns-clause-stops : goal.returns-clause-stops
returns-clause-stops g c = externals-said (externals-stay c.loop-number.invariant.deleted c.in_ok-number.ensures.reads.stays)

pub returns-clause-is_open : goal.returns-clause-is_open
returns-clause-is_open g c = (externals-stay c.loop-number.invariant.deleted c.in_ok-number.ensures.reads.stays).is_open
