use Rattle.std.proofs.Common.{◌||◌, sym, ◌∙◌, ap}
use Rattle.blk_io.specs.declared.folder.FileId.{FileId}
use Rattle.blk_host.specs.FileIds.{is_file}
use Rattle.blk_host.specs.Names.{has}
use Rattle.blk_host.proofs.HasNames.{index_added, block_added, external_added}
use Rattle.blk_host.proofs.names.Names.add.Goals as goal

pub returns-in-Index-clause-added : goal.returns-in-Index-clause-added
returns-in-Index-clause-added c other =
    index_added c.args.self.now other ∙ ap (λ (f : FileId). is_file other f || has c.args.self.now other) (sym c.in-Index.is)

pub returns-in_ok-insert-in-Block-clause-added : goal.returns-in_ok-insert-in-Block-clause-added
returns-in_ok-insert-in-Block-clause-added c other =
    block_added c.args.self.now c.insert.new.self c.in-Block.n c.in_ok-insert-in-Block.ensures.updates other
    ∙ ap (λ (f : FileId). is_file other f || has c.args.self.now other) (sym c.in-Block.is)

pub returns-in_ok-insert-in-External-clause-added : goal.returns-in_ok-insert-in-External-clause-added
returns-in_ok-insert-in-External-clause-added c other =
    external_added c.args.self.now c.insert-in-External.new.self c.in-External.n c.in_ok-insert-in-External.ensures.updates other
    ∙ ap (λ (f : FileId). is_file other f || has c.args.self.now other) (sym c.in-External.is)
