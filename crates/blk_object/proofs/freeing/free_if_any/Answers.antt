use Rattle.std.proofs.lemmas.Result.{on_ok_weaker}
use Rattle.spec_image.proofs.Runs.{passes_weaker}
use Rattle.blk_stream.proofs.PlacesLeft.{told_back}
use Rattle.blk_object.specs.Freeing.{IsPlaceGoing}
use Rattle.blk_object.proofs.FreedPlaces.{first-may, one-freed, one-going, one-may}
use Rattle.std.proofs.Common.{[]}
use Rattle.blk_object.proofs.freeing.free_if_any.Goals as goal

pub returns-in-Some-clause-stops : goal.returns-in-Some-clause-stops
returns-in-Some-clause-stops g c from there may =
    passes_weaker (c.free_place.ensures.stops from there) (λ image going. one-going c.args.place c.in-Some.addr from image c.in-Some.is going) (λ image going. one-going c.args.place c.in-Some.addr from image c.in-Some.is going)

pub returns-in-Some-clause-untold : goal.returns-in-Some-clause-untold
returns-in-Some-clause-untold g c may =
    c.free_place.ensures.untold (λ image there. first-may c.in-Some.addr [] image (one-may c.args.place c.in-Some.addr image c.in-Some.is (may image there)))

pub returns-in-Some-clause-back : goal.returns-in-Some-clause-back
returns-in-Some-clause-back g c none = told_back (g.F.Folder.told c.args.folder.now) (g.F.Folder.told c.free_place.new.folder) (IsPlaceGoing c.in-Some.addr) c.free_place.ensures.stops none

pub returns-in-Some-clause-freed : goal.returns-in-Some-clause-freed
returns-in-Some-clause-freed g c =
    on_ok_weaker c.free_place.result
    (λ freed from there may image now.
    let one = one-may c.args.place c.in-Some.addr from c.in-Some.is may in
    one-freed c.args.place c.in-Some.addr from image c.in-Some.is (freed from there one.kept.sound one.kept.stand.0 image now))
    c.free_place.ensures.freed
