use Rattle.std.proofs.Common.{◌&&◌, not, sym, ◌∙◌, ap}
use Rattle.blk_io.specs.declared.folder.FileId.{FileId}
use Rattle.blk_host.specs.FileIds.{is_file}
use Rattle.blk_host.specs.Names.{has}
use Rattle.blk_host.proofs.HasNames.{index_removed, block_removed, external_removed}
use Rattle.blk_host.proofs.names.Names.remove.Goals as goal

pub returns-in-Index : goal.returns-in-Index
returns-in-Index c other =
    index_removed c.args.self.now other ∙ ap (λ (f : FileId). not (is_file other f) && has c.args.self.now other) (sym c.in-Index.is)

pub returns-in-Block : goal.returns-in-Block
returns-in-Block c other =
    block_removed c.args.self.now c.remove.new.self c.in-Block.n c.remove.ensures.updates other
    ∙ ap (λ (f : FileId). not (is_file other f) && has c.args.self.now other) (sym c.in-Block.is)

pub returns-in-External : goal.returns-in-External
returns-in-External c other =
    external_removed c.args.self.now c.remove-in-External.new.self c.in-External.n c.remove-in-External.ensures.updates other
    ∙ ap (λ (f : FileId). not (is_file other f) && has c.args.self.now other) (sym c.in-External.is)
