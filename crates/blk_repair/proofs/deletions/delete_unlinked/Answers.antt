use Rattle.std.proofs.Common.{Ok, Some, arith, sym, ◌∙◌, ap}
use Rattle.std.specs.Option.{ForSome}
use Rattle.spec_image.specs.Image.{Block}
use Rattle.spec_image.specs.Order.{IsNextFile}
use Rattle.spec_image.specs.Told.{Told}
use Rattle.blk_repair.proofs.DeletionRuns.{blocks-all, blocks-begin, blocks-next, blocks-only, blocks-said, blocks-stay}
use Rattle.blk_repair.proofs.deletions.delete_unlinked.Goals as goal

pub loop-n-init : goal.loop-n-init
loop-n-init g c = record { deleted = blocks-begin c.args.files.now (g.F.Folder.told c.args.folder.now) c.requires.is_open; later = omega arith }

pub returns-in_err-n-clause-prefix : goal.returns-in_err-n-clause-prefix
returns-in_err-n-clause-prefix g c = (Block c.loop-n.last, (blocks-stay c.loop-n.invariant.deleted c.in_err-n.ensures.reads.stays).made)

pub returns-in_err-n-clause-stops : goal.returns-in_err-n-clause-stops
returns-in_err-n-clause-stops g c = blocks-said (blocks-stay c.loop-n.invariant.deleted c.in_err-n.ensures.reads.stays)

pub returns-in_err-n-clause-is_open : goal.returns-in_err-n-clause-is_open
returns-in_err-n-clause-is_open g c = (blocks-stay c.loop-n.invariant.deleted c.in_err-n.ensures.reads.stays).is_open

pub returns-in_err-delete_block-clause-prefix : goal.returns-in_err-delete_block-clause-prefix
returns-in_err-delete_block-clause-prefix g c = (Block c.loop-n.last, (blocks-stay (blocks-stay c.loop-n.invariant.deleted c.in_ok-n.ensures.reads.stays) c.in_err-delete_block.ensures.undone).made)

pub returns-in_err-delete_block-clause-stops : goal.returns-in_err-delete_block-clause-stops
returns-in_err-delete_block-clause-stops g c = blocks-said (blocks-stay (blocks-stay c.loop-n.invariant.deleted c.in_ok-n.ensures.reads.stays) c.in_err-delete_block.ensures.undone)

pub returns-in_err-delete_block-clause-is_open : goal.returns-in_err-delete_block-clause-is_open
returns-in_err-delete_block-clause-is_open g c = (blocks-stay (blocks-stay c.loop-n.invariant.deleted c.in_ok-n.ensures.reads.stays) c.in_err-delete_block.ensures.undone).is_open

pub loop-n-preserved : goal.loop-n-preserved
loop-n-preserved g c =
    let stays = c.in_ok-n.ensures.reads.stays in
    let next : ForSome (g.F.Folder.told c.next_block.new.folder).files (λ image. IsNextFile image (Some (Block c.loop-n.last)) (Some (Block c.in-Some.n))) = (λ image there. c.in_ok-n.ensures.next c.in-Some.n c.in-Some.is image (ap (λ (t : Told). t.files) (sym stays) ∙ there)) in
    record {
      deleted = blocks-next c.args.files.now c.loop-n.last c.in-Some.n (g.F.Folder.told c.args.folder.now) (g.F.Folder.told c.next_block.new.folder) (g.F.Folder.told c.delete_block.new.folder)
          (blocks-stay c.loop-n.invariant.deleted stays) (omega arith) next c.in_ok-delete_block.ensures.steps;
      later = omega (arith, c.loop-n.invariant.later, c.next_block.ensures.reads.later, c.delete_block.ensures.later);
    }

pub returns-clause-linked : goal.returns-clause-linked
returns-clause-linked g c =
    blocks-only c.args.files.now c.loop-n.last (g.F.Folder.told c.args.folder.now) (g.F.Folder.told c.next_block.new.folder) (blocks-stay c.loop-n.invariant.deleted c.in_ok-n.ensures.reads.stays)
    (λ image there n late. c.in_ok-n.ensures.none (ap Ok c.in_default.is) image (ap (λ (t : Told). t.files) (sym c.in_ok-n.ensures.reads.stays) ∙ there) n late)

pub returns-clause-steps : goal.returns-clause-steps
returns-clause-steps g c =
    blocks-all c.args.files.now c.loop-n.last (g.F.Folder.told c.args.folder.now) (g.F.Folder.told c.next_block.new.folder) (blocks-stay c.loop-n.invariant.deleted c.in_ok-n.ensures.reads.stays)
    (λ image there n late. c.in_ok-n.ensures.none (ap Ok c.in_default.is) image (ap (λ (t : Told). t.files) (sym c.in_ok-n.ensures.reads.stays) ∙ there) n late)

pub returns-clause-prefix : goal.returns-clause-prefix
returns-clause-prefix g c = (Block c.loop-n.last, (blocks-stay c.loop-n.invariant.deleted c.in_ok-n.ensures.reads.stays).made)

pub returns-clause-stops : goal.returns-clause-stops
returns-clause-stops g c = blocks-said (blocks-stay c.loop-n.invariant.deleted c.in_ok-n.ensures.reads.stays)

pub returns-clause-is_open : goal.returns-clause-is_open
returns-clause-is_open g c = (blocks-stay c.loop-n.invariant.deleted c.in_ok-n.ensures.reads.stays).is_open
