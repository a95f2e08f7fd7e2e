use Rattle.std.proofs.Common.{sym, subst}
use Rattle.std.proofs.lemmas.Result.{on_ok_weaker}
use Rattle.std.specs.Option.{ForSome}
use Rattle.blk_disk.specs.Tables.{Agrees}
use Rattle.spec_image.specs.Told.{Applies, AppliesPrefix, Told}
use Rattle.spec_image.proofs.Runs.{grows_then, part_then, part_whole}
use Rattle.blk_entry.proofs.KeyPlaces.{ok_there}
use Rattle.blk_stream.specs.Inside.{here_steps}
use Rattle.blk_stream.proofs.inside.write_here.Goals as goal

pub returns-in_err-write_some-clause-prefix : goal.returns-in_err-write_some-clause-prefix
returns-in_err-write_some-clause-prefix g c = part_then c.in_ok-extend_data.ensures.steps c.in_err-write_some.ensures.prefix

pub returns-clause-steps : goal.returns-clause-steps
returns-clause-steps g c =
    on_ok_weaker c.erase_end.result
    (λ any. subst (λ (t : Told). Applies (g.F.Folder.told c.args.folder.now) t (here_steps c.args.addr c.args.old c.args.size c.args.offset c.args.bytes.now)) (sym c.erase_end.ensures.reads.stays) (grows_then c.in_ok-extend_data.ensures.steps c.in_ok-write_some.ensures.steps))
    (ok_there c.erase_end.result)

pub returns-clause-prefix : goal.returns-clause-prefix
returns-clause-prefix g c = subst (λ (t : Told). AppliesPrefix (g.F.Folder.told c.args.folder.now) t (here_steps c.args.addr c.args.old c.args.size c.args.offset c.args.bytes.now)) (sym c.erase_end.ensures.reads.stays) (part_whole (grows_then c.in_ok-extend_data.ensures.steps c.in_ok-write_some.ensures.steps))

pub returns-clause-agrees : goal.returns-clause-agrees
returns-clause-agrees g c = subst (λ (t : Told). ForSome t.files (Agrees c.args.files.now)) (sym c.erase_end.ensures.reads.stays) c.in_ok-write_some.ensures.agrees
