use Rattle.std.proofs.Common.{ℕ, ◌∙◌, ap, sym}
use Rattle.std.specs.declared.option.Option.{Option}
use Rattle.std.proofs.lemmas.Result.{err_from_is_err_and}
use Rattle.blk_addr.specs.Kind.{kind_number}
use Rattle.spec_image.specs.Told.{Told}
use Rattle.blk_disk.proofs.Following.{damaged_if, follows_next}
use Rattle.blk_disk.proofs.TakingUp.{fresh_still, joined_more}
use Rattle.blk_disk.proofs.tables.BlockFiles.link.Goals as goal

pub returns-in_err-head-clause-damaged : goal.returns-in_err-head-clause-damaged
returns-in_err-head-clause-damaged g c =
    let p = err_from_is_err_and c.from_residual.result c.from_residual.ensures.1 in
    rw (p.1, p.2) (damaged_if (Option ℕ) c.in_err-head.field-0.0 (g.F.Folder.told c.args.folder.now).files c.args.self.now (kind_number c.args.kind) c.args.n c.requires.next c.in_err-head.ensures.read)

pub returns-clause-linked : goal.returns-clause-linked
returns-clause-linked g c image there =
    let there_then = ap (λ (t : Told). t.files) (sym c.in_ok-head.ensures.reads.stays) ∙ there in
    let read = c.in_ok-head.ensures.read image there_then in
    follows_next c.args.kind c.args.self.now c.join.new.self image c.args.n c.in_ok-head.head c.requires.block_kind c.join.ensures (c.requires.next image there_then) read.0 read.1

pub returns-clause-taken : goal.returns-clause-taken
returns-clause-taken g c = joined_more c.args.kind c.args.self.now c.join.new.self c.args.n c.in_ok-head.head.blocks c.in_ok-head.head.size c.requires.block_kind c.join.ensures

pub returns-clause-fresh : goal.returns-clause-fresh
returns-clause-fresh g c = fresh_still c.args.self.now c.join.new.self c.args.n c.in_ok-head.head.next (returns-clause-taken g c) c.in_ok-head.ensures.fresh
