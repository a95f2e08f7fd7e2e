use Rattle.std.proofs.Common.{◌+◌, ℕ, List, length, Option, subst}
use Rattle.std.proofs.lemmas.Result.{on_ok_weaker}
use Rattle.spec_image.specs.Steps.{TrailStep}
use Rattle.spec_image.specs.Told.{Applies, AppliesPrefix}
use Rattle.blk_entry.specs.Keys.{IsInside, IsInFile}
use Rattle.blk_entry.specs.Writing.{address_of_key, before_key}
use Rattle.blk_entry.proofs.NewPlaces.{key_is_inside, key_is_there}
use Rattle.blk_entry.proofs.NewSteps.{steps_of_key}
use Rattle.blk_entry.proofs.writing.write_key.Goals as goal

pub write_ended-requires-clause-inside : goal.write_ended-requires-clause-inside
write_ended-requires-clause-inside g c =
    subst (λ (o : Option ℕ). IsInside c.args.files.now (address_of_key c.args.new.now.entry o) (before_key o) (length c.args.key.now + 1)) c.in-Some.is (key_is_inside c.args.files.now c.args.new.now c.args.key.now c.requires.fits)

pub write_ended-requires-clause-external : goal.write_ended-requires-clause-external
write_ended-requires-clause-external g c image there =
    subst (λ (o : Option ℕ). IsInFile (address_of_key c.args.new.now.entry o) (before_key o) (length c.args.key.now + 1) image) c.in-Some.is (key_is_there c.args.files.now c.args.new.now c.args.key.now image c.requires.fits (c.requires.external image there))

pub write_ended-requires-in-None-clause-inside : goal.write_ended-requires-in-None-clause-inside
write_ended-requires-in-None-clause-inside g c =
    subst (λ (o : Option ℕ). IsInside c.args.files.now (address_of_key c.args.new.now.entry o) (before_key o) (length c.args.key.now + 1)) c.in-None.is (key_is_inside c.args.files.now c.args.new.now c.args.key.now c.requires.fits)

pub returns-in-Some-clause-steps : goal.returns-in-Some-clause-steps
returns-in-Some-clause-steps g c =
    on_ok_weaker c.write_ended.result
    (λ grown. subst (λ (s : List TrailStep). Applies (g.F.Folder.told c.args.folder.now) (g.F.Folder.told c.write_ended.new.folder) s) (steps_of_key c.args.new.now c.args.key.now _ c.in-Some.is) grown) c.write_ended.ensures.steps

pub returns-in-Some-clause-prefix : goal.returns-in-Some-clause-prefix
returns-in-Some-clause-prefix g c = subst (λ (s : List TrailStep). AppliesPrefix (g.F.Folder.told c.args.folder.now) (g.F.Folder.told c.write_ended.new.folder) s) (steps_of_key c.args.new.now c.args.key.now _ c.in-Some.is) c.write_ended.ensures.prefix

pub returns-in-None-clause-steps : goal.returns-in-None-clause-steps
returns-in-None-clause-steps g c =
    on_ok_weaker c.write_ended-in-None.result
    (λ grown. subst (λ (s : List TrailStep). Applies (g.F.Folder.told c.args.folder.now) (g.F.Folder.told c.write_ended-in-None.new.folder) s) (steps_of_key c.args.new.now c.args.key.now _ c.in-None.is) grown) c.write_ended-in-None.ensures.steps

pub returns-in-None-clause-prefix : goal.returns-in-None-clause-prefix
returns-in-None-clause-prefix g c =
    subst (λ (s : List TrailStep). AppliesPrefix (g.F.Folder.told c.args.folder.now) (g.F.Folder.told c.write_ended-in-None.new.folder) s) (steps_of_key c.args.new.now c.args.key.now _ c.in-None.is) c.write_ended-in-None.ensures.prefix
