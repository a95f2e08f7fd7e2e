use Rattle.std.proofs.Common.{◌++◌}
use Rattle.std.proofs.lemmas.Result.{on_ok_weaker}
use Rattle.spec_image.proofs.Runs.{grows_then, part_then, part_only}
use Rattle.blk_entry.specs.Writing.{entry_steps, node_steps, record_steps}
use Rattle.blk_entry.proofs.writing.write_places.Goals as goal

pub returns-in_err-write_key-clause-prefix : goal.returns-in_err-write_key-clause-prefix
unfolding entry_steps
returns-in_err-write_key-clause-prefix g c = part_only (record_steps c.args.new c.args.key.now c.args.moment ++ node_steps c.args.new c.args.moment) c.in_err-write_key.ensures.prefix

pub returns-clause-steps : goal.returns-clause-steps
unfolding entry_steps
returns-clause-steps g c = on_ok_weaker c.write_records.result (λ grown. grows_then c.in_ok-write_key.ensures.steps grown) c.write_records.ensures.steps

pub returns-clause-prefix : goal.returns-clause-prefix
unfolding entry_steps
returns-clause-prefix g c = part_then c.in_ok-write_key.ensures.steps c.write_records.ensures.prefix
