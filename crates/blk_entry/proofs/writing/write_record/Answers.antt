use Rattle.std.proofs.Common.{List, length-take, subst, arith}
use Rattle.std.proofs.lemmas.Result.{on_ok_weaker}
use Rattle.spec_image.specs.Steps.{TrailStep}
use Rattle.spec_image.specs.Told.{Applies, AppliesPrefix}
use Rattle.blk_entry.proofs.NewSteps.{steps_of_long, steps_of_short}
use Rattle.blk_entry.proofs.Windows.{entry_room_least}
use Rattle.blk_entry.proofs.writing.write_record.Goals as goal

pub write_block-requires-clause-inside : goal.write_block-requires-clause-inside
write_block-requires-clause-inside g c =
    let least = entry_room_least c.args.new.now.entry c.requires.fits.entry_kind in
    let long = c.record_of-bytes.ensures.size in
    omega (arith, least, long)

pub write_block-requires-in-None-clause-inside : goal.write_block-requires-in-None-clause-inside
write_block-requires-in-None-clause-inside g c =
    let least = entry_room_least c.args.new.now.entry c.requires.fits.entry_kind in
    let long = c.record_of-bytes.ensures.size in
    omega (arith, least, long, length-take 96 c.record_of-bytes.result)

pub returns-in-Some-clause-steps : goal.returns-in-Some-clause-steps
returns-in-Some-clause-steps g c =
    on_ok_weaker c.write_block.result
    (λ grown. subst (λ (s : List TrailStep). Applies (g.F.Folder.told c.args.folder.now) (g.F.Folder.told c.write_block.new.f) s)
    (steps_of_long c.args.new.now c.args.key.now c.args.moment c.in-Some.field-0 c.record_of-bytes.result c.in-Some.is c.record_of-bytes.ensures.bytes) grown) c.write_block.ensures.steps

pub returns-in-Some-clause-prefix : goal.returns-in-Some-clause-prefix
returns-in-Some-clause-prefix g c =
    subst (λ (s : List TrailStep). AppliesPrefix (g.F.Folder.told c.args.folder.now) (g.F.Folder.told c.write_block.new.f) s)
    (steps_of_long c.args.new.now c.args.key.now c.args.moment c.in-Some.field-0 c.record_of-bytes.result c.in-Some.is c.record_of-bytes.ensures.bytes) c.write_block.ensures.prefix

pub returns-in-None-clause-steps : goal.returns-in-None-clause-steps
returns-in-None-clause-steps g c =
    on_ok_weaker c.write_block-in-None.result
    (λ grown. subst (λ (s : List TrailStep). Applies (g.F.Folder.told c.args.folder.now) (g.F.Folder.told c.write_block-in-None.new.f) s)
    (steps_of_short c.args.new.now c.args.key.now c.args.moment c.record_of-bytes.result c.in-None.is c.record_of-bytes.ensures.bytes) grown) c.write_block-in-None.ensures.steps

pub returns-in-None-clause-prefix : goal.returns-in-None-clause-prefix
returns-in-None-clause-prefix g c =
    subst (λ (s : List TrailStep). AppliesPrefix (g.F.Folder.told c.args.folder.now) (g.F.Folder.told c.write_block-in-None.new.f) s)
    (steps_of_short c.args.new.now c.args.key.now c.args.moment c.record_of-bytes.result c.in-None.is c.record_of-bytes.ensures.bytes) c.write_block-in-None.ensures.prefix

pub slice_bounds-front-end : goal.slice_bounds-front-end
slice_bounds-front-end g c = let long = c.record_of-bytes.ensures.size in omega (arith, long, length-take 96 c.record_of-bytes.result)
