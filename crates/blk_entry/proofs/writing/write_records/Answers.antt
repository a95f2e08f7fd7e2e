use Rattle.std.proofs.lemmas.Result.{on_ok_weaker}
use Rattle.spec_image.proofs.Runs.{grows_then, part_then, part_only}
use Rattle.blk_entry.specs.Writing.{node_steps}
use Rattle.blk_entry.proofs.writing.write_records.Goals as goal

pub returns-in_err-write_record-clause-prefix : goal.returns-in_err-write_record-clause-prefix
returns-in_err-write_record-clause-prefix g c = part_only (node_steps c.args.new.now c.args.moment) c.in_err-write_record.ensures.prefix

pub returns-clause-steps : goal.returns-clause-steps
returns-clause-steps g c = on_ok_weaker c.write_node.result (λ grown. grows_then c.in_ok-write_record.ensures.steps grown) c.write_node.ensures.steps

pub returns-clause-prefix : goal.returns-clause-prefix
returns-clause-prefix g c = part_then c.in_ok-write_record.ensures.steps c.write_node.ensures.prefix
