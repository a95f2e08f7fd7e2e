use Rattle.blk_audit.proofs.FirstBlocks.{start_small}
use Rattle.blk_audit.proofs.records.first_of_record.Goals as goal

pub of_blocks-requires-clause-small : goal.of_blocks-requires-clause-small
of_blocks-requires-clause-small c = start_small c.args.addr c.start.result c.start.ensures
