use Rattle.std.proofs.Common.{◌≡◌, None}
use Rattle.std.proofs.lemmas.Result.{on_ok_weaker}
use Rattle.spec_image.specs.Image.{Image}
use Rattle.spec_image.specs.Told.{Told}
use Rattle.spec_image.proofs.Runs.{passes_then, passes_weaker}
use Rattle.blk_io.proofs.Carried.{if_damaged_weaker}
use Rattle.law_state.specs.Changes.{StillFinds}
use Rattle.blk_object.specs.Making.{words_of_places}
use Rattle.blk_object.proofs.MakingTaken.{none-before, told-mid}
use Rattle.blk_sparse.specs.NewParts.{words_of_part}
use Rattle.blk_sparse.proofs.NewWritten.{all-written, child-finds, naming-finds}
use Rattle.blk_sparse.proofs.part_record.write_part.Goals as goal

pub returns-in_err-write_child-clause-stops : goal.returns-in_err-write_child-clause-stops
returns-in_err-write_child-clause-stops g c from there =
    let finds : (image : Image) → StillFinds (words_of_places c.args.places.now.places) from image → StillFinds (words_of_part c.args.places.now) from image = child-finds c.args.places.now from in
    passes_weaker (c.in_err-write_child.ensures.stops from there) finds finds

pub name_streams-requires-clause-kind : goal.name_streams-requires-clause-kind
name_streams-requires-clause-kind g c = c.requires.fits.entry_kind

pub name_streams-requires-clause-stands : goal.name_streams-requires-clause-stands
name_streams-requires-clause-stands g c = c.requires.fits.entry_stands

pub returns-clause-stops : goal.returns-clause-stops
returns-clause-stops g c from there =
    let a : Told = g.F.Folder.told c.args.folder.now in
    let b : Told = g.F.Folder.told c.write_child.new.folder in
    let finds : (image : Image) → StillFinds (words_of_places c.args.places.now.places) from image → StillFinds (words_of_part c.args.places.now) from image = child-finds c.args.places.now from in
    let one = passes_weaker (c.write_child.ensures.stops from there) finds finds in
    let mid = told-mid a b from there one in
    let w = c.in_ok-write_child.ensures.written from there mid.0 mid.1 in
    let naming = naming-finds c.args.files.now c.args.places.now c.args.name.now c.args.moment from mid.0 c.requires.fits w in
    passes_then one (passes_weaker (c.name_streams.ensures.stops mid.0 mid.1 (c.in_ok-write_child.ensures.checks mid.0 mid.1)) naming naming)

pub returns-clause-is_open : goal.returns-clause-is_open
returns-clause-is_open g c = c.name_streams.ensures.is_open c.in_ok-write_child.ensures.checks

pub returns-clause-untold : goal.returns-clause-untold
returns-clause-untold g c =
    let a : Told = g.F.Folder.told c.args.folder.now in
    let b : Told = g.F.Folder.told c.write_child.new.folder in
    if_damaged_weaker c.name_streams.result (λ _. b.files ≡ None) (λ _. a.files ≡ None)
    (λ damage none. none-before a b (λ from there. told-mid a b from there (c.write_child.ensures.stops from there)) none)
    (c.name_streams.ensures.untold c.in_ok-write_child.ensures.checks)

pub returns-clause-written : goal.returns-clause-written
returns-clause-written g c =
    on_ok_weaker c.name_streams.result
    (λ named from there image now bytes index role streams long.
    let mid = told-mid (g.F.Folder.told c.args.folder.now) (g.F.Folder.told c.write_child.new.folder) from there (c.write_child.ensures.stops from there) in
    let w = c.in_ok-write_child.ensures.written from there mid.0 mid.1 in
    all-written c.args.files.now c.args.places.now c.args.name.now c.args.moment bytes index role from mid.0 image c.requires.fits c.requires.apart c.requires.streams c.name_streams.ensures.words
    (g.met.F.Folder.are_bytes c.write_child.new.folder mid.0 mid.1) (g.met.F.Folder.are_bytes c.name_streams.new.folder image now) streams w
    (named mid.0 mid.1 image now bytes index long streams.long (c.in_ok-write_child.ensures.checks mid.0 mid.1)))
    c.name_streams.ensures.named
