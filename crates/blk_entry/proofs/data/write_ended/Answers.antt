use Rattle.std.proofs.Common.{◌+◌, ◌∷◌, [], length}
use Rattle.std.proofs.lemmas.Result.{on_ok_weaker}
use Rattle.spec_image.proofs.Runs.{grows_then, part_then, part_only}
use Rattle.blk_entry.specs.Steps.{data_steps, ended_steps}
use Rattle.blk_entry.proofs.DataSteps.{room_kept}
use Rattle.blk_entry.proofs.data.write_ended.Goals as goal

pub returns-in_err-write_data-clause-prefix : goal.returns-in_err-write_data-clause-prefix
unfolding ended_steps
returns-in_err-write_data-clause-prefix g c = part_only (data_steps c.args.addr (c.args.at + length c.args.bytes.now) (0 ∷ [])) c.in_err-write_data.ensures.prefix

pub write_data-requires-2-clause-external : goal.write_data-requires-2-clause-external
write_data-requires-2-clause-external g c image there kind =
    room_kept (g.F.Folder.told c.args.folder.now) (g.F.Folder.told c.write_data.new.folder) c.args.addr c.args.at c.args.bytes.now c.in_ok-write_data.ensures.steps c.requires.external image there kind

pub returns-clause-steps : goal.returns-clause-steps
unfolding ended_steps
returns-clause-steps g c = on_ok_weaker c.write_data-2.result (λ grown. grows_then c.in_ok-write_data.ensures.steps grown) c.write_data-2.ensures.steps

pub returns-clause-prefix : goal.returns-clause-prefix
unfolding ended_steps
returns-clause-prefix g c = part_then c.in_ok-write_data.ensures.steps c.write_data-2.ensures.prefix
