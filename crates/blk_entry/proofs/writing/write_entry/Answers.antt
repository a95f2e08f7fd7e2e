use Rattle.std.proofs.Common.{arith}
use Rattle.spec_image.proofs.Runs.{part_whole}
use Rattle.blk_entry.proofs.NewPlaces.{at_each, complete_after, agrees_after}
use Rattle.blk_entry.proofs.NewImages.{written_there}
use Rattle.blk_entry.proofs.NewShown.{shown_there, loads_there}
use Rattle.blk_entry.proofs.writing.write_entry.Goals as goal

pub returns-in_err-write_places-clause-stops : goal.returns-in_err-write_places-clause-stops
returns-in_err-write_places-clause-stops g c =
    at_each c.args.files.now c.args.new.now c.args.key.now c.args.moment c.requires.fits (g.F.Folder.told c.args.f.now) (g.F.Folder.told c.write_places.new.folder) c.in_err-write_places.ensures.prefix

pub returns-in_err-write_places-clause-agrees : goal.returns-in_err-write_places-clause-agrees
returns-in_err-write_places-clause-agrees g c =
    agrees_after c.args.files.now c.args.new.now c.args.key.now c.args.moment c.requires.fits (g.F.Folder.told c.args.f.now) (g.F.Folder.told c.write_places.new.folder) c.in_err-write_places.ensures.prefix c.requires.agrees

pub returns-clause-stops : goal.returns-clause-stops
returns-clause-stops g c =
    at_each c.args.files.now c.args.new.now c.args.key.now c.args.moment c.requires.fits (g.F.Folder.told c.args.f.now) (g.F.Folder.told c.write_places.new.folder) (part_whole c.in_ok-write_places.ensures.steps)

pub returns-clause-agrees : goal.returns-clause-agrees
returns-clause-agrees g c =
    agrees_after c.args.files.now c.args.new.now c.args.key.now c.args.moment c.requires.fits (g.F.Folder.told c.args.f.now) (g.F.Folder.told c.write_places.new.folder) (part_whole c.in_ok-write_places.ensures.steps) c.requires.agrees

pub returns-clause-written : goal.returns-clause-written
returns-clause-written g c =
    written_there c.args.files.now c.args.new.now c.args.key.now c.args.moment c.requires.fits (g.F.Folder.told c.args.f.now) (g.F.Folder.told c.write_places.new.folder) c.in_ok-write_places.ensures.words (omega (arith, c.ranges.moment.fits)) c.requires.agrees c.requires.external c.requires.apart c.in_ok-write_places.ensures.steps

pub returns-clause-shown : goal.returns-clause-shown
returns-clause-shown g c =
    shown_there c.args.files.now c.args.new.now c.args.key.now c.args.moment c.requires.fits c.in_ok-write_places.ensures.words (g.F.Folder.told c.args.f.now) (g.F.Folder.told c.write_places.new.folder)
    (returns-clause-agrees g c) c.requires.external c.in_ok-write_places.ensures.steps (returns-clause-written g c)

pub returns-clause-loads : goal.returns-clause-loads
returns-clause-loads g c =
    loads_there c.args.files.now c.args.new.now c.args.key.now c.args.moment c.requires.fits c.in_ok-write_places.ensures.words (g.F.Folder.told c.args.f.now) (g.F.Folder.told c.write_places.new.folder)
    (returns-clause-agrees g c) c.requires.external c.in_ok-write_places.ensures.steps (returns-clause-written g c)

pub returns-in_err-write_places-clause-complete : goal.returns-in_err-write_places-clause-complete
returns-in_err-write_places-clause-complete g c =
    complete_after c.args.files.now c.args.new.now c.args.key.now c.args.moment c.requires.fits (g.F.Folder.told c.args.f.now) (g.F.Folder.told c.write_places.new.folder) c.in_err-write_places.ensures.prefix

pub returns-clause-complete : goal.returns-clause-complete
returns-clause-complete g c =
    complete_after c.args.files.now c.args.new.now c.args.key.now c.args.moment c.requires.fits (g.F.Folder.told c.args.f.now) (g.F.Folder.told c.write_places.new.folder) (part_whole c.in_ok-write_places.ensures.steps)
