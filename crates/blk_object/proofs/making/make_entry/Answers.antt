use Rattle.std.proofs.Common.{◌≡◌, None, refl, sym, ◌∙◌, ap, subst}
use Rattle.std.specs.Option.{ForSome}
use Rattle.spec_image.specs.Image.{Index, byte}
use Rattle.spec_image.specs.Told.{Passes, Told}
use Rattle.blk_io.proofs.Carried.{carried, if_damaged_weaker}
use Rattle.spec_format.specs.Address.{blocks_256, rankings}
use Rattle.spec_format.specs.Headers.{this_id_of}
use Rattle.blk_disk.specs.Open.{IsOpen}
use Rattle.blk_object.specs.Making.{FindsWhileMade, HasNewObjects, HasRoomForNew}
use Rattle.blk_object.specs.Counters.{AreIndexCounters}
use Rattle.blk_object.proofs.MakingMade.{among-names, can-list, counting-made, listing-made, nothing-made, object-made, room-three, taking-made, tells-late, tells-mid, writing-made}
use Rattle.blk_object.proofs.MakingTaken.{told-before}
use Rattle.blk_object.proofs.MakingTimes.{counting-times}
use Rattle.blk_object.proofs.DamageChecks.{handed}
use Rattle.blk_object.specs.FailedChecks.{FailsShort}
use Rattle.blk_object.proofs.making.make_entry.Goals as goal

pub returns-in_err-counters-clause-stops : goal.returns-in_err-counters-clause-stops
returns-in_err-counters-clause-stops g c from there room = nothing-made c.args.key.now (g.F.Folder.told c.args.folder.now) (g.F.Folder.told c.read_counters.new.folder) c.in_err-counters.ensures.reads.stays from there

pub take_places-requires-clause-is_open : goal.take_places-requires-clause-is_open
take_places-requires-clause-is_open g c = subst (λ (t : Told). ForSome t.files (IsOpen c.args.files.now)) (sym c.in_ok-counters.ensures.reads.stays) c.requires.is_open

pub returns-in_err-places-clause-stops : goal.returns-in_err-places-clause-stops
returns-in_err-places-clause-stops g c =
    subst (λ (t : Told). ForSome t.files (λ from. HasRoomForNew c.args.key.now c.args.mark from → Passes t (g.F.Folder.told c.take_places.new.folder) (FindsWhileMade c.args.key.now from))) c.in_ok-counters.ensures.reads.stays
    (taking-made (g.F.Folder.told c.read_counters.new.folder) (g.F.Folder.told c.take_places.new.folder) c.args.key.now c.args.mark c.take_places.ensures.stops)

pub returns-in_err-write_new-clause-stops : goal.returns-in_err-write_new-clause-stops
returns-in_err-write_new-clause-stops g c =
    subst (λ (t : Told). ForSome t.files (λ from. HasRoomForNew c.args.key.now c.args.mark from → Passes t (g.F.Folder.told c.write_new.new.folder) (FindsWhileMade c.args.key.now from))) c.in_ok-counters.ensures.reads.stays
    (writing-made (g.F.Folder.told c.read_counters.new.folder) (g.F.Folder.told c.take_places.new.folder) c.args.key.now c.args.mark c.take_places.ensures.stops c.in_ok-places.places c.in_ok-places.ensures.taken (g.F.Folder.told c.write_new.new.folder) c.write_new.ensures.stops)

pub returns-in_err-list_entry-clause-stops : goal.returns-in_err-list_entry-clause-stops
returns-in_err-list_entry-clause-stops g c =
    subst (λ (t : Told). ForSome t.files (λ from. HasRoomForNew c.args.key.now c.args.mark from → Passes t (g.F.Folder.told c.list_entry.new.folder) (FindsWhileMade c.args.key.now from))) c.in_ok-counters.ensures.reads.stays
    (listing-made (g.F.Folder.told c.read_counters.new.folder) (g.F.Folder.told c.take_places.new.folder) c.args.key.now c.args.mark c.take_places.ensures.stops c.in_ok-places.places c.in_ok-places.ensures.taken (g.F.Folder.told c.write_new.new.folder) c.write_new.ensures.stops c.in_ok-write_new.ensures.written (g.F.Folder.told c.list_entry.new.folder) c.list_entry.ensures.stops)

pub returns-in_err-count_entry-clause-stops : goal.returns-in_err-count_entry-clause-stops
returns-in_err-count_entry-clause-stops g c =
    subst (λ (t : Told). ForSome t.files (λ from. HasRoomForNew c.args.key.now c.args.mark from → Passes t (g.F.Folder.told c.count_entry.new.folder) (FindsWhileMade c.args.key.now from))) c.in_ok-counters.ensures.reads.stays
    (counting-made (g.F.Folder.told c.read_counters.new.folder) (g.F.Folder.told c.take_places.new.folder) c.args.key.now c.args.mark c.take_places.ensures.stops c.in_ok-places.places c.in_ok-places.ensures.taken (g.F.Folder.told c.write_new.new.folder) c.write_new.ensures.stops c.in_ok-write_new.ensures.written (g.F.Folder.told c.list_entry.new.folder) c.list_entry.ensures.stops c.in_ok-list_entry.ensures.listed (g.F.Folder.told c.count_entry.new.folder) c.count_entry.ensures.stops)

pub returns-clause-stops : goal.returns-clause-stops
returns-clause-stops g c =
    subst (λ (t : Told). ForSome t.files (λ from. HasRoomForNew c.args.key.now c.args.mark from → Passes t (g.F.Folder.told c.count_entry.new.folder) (FindsWhileMade c.args.key.now from))) c.in_ok-counters.ensures.reads.stays
    (counting-made (g.F.Folder.told c.read_counters.new.folder) (g.F.Folder.told c.take_places.new.folder) c.args.key.now c.args.mark c.take_places.ensures.stops c.in_ok-places.places c.in_ok-places.ensures.taken (g.F.Folder.told c.write_new.new.folder) c.write_new.ensures.stops c.in_ok-write_new.ensures.written (g.F.Folder.told c.list_entry.new.folder) c.list_entry.ensures.stops c.in_ok-list_entry.ensures.listed (g.F.Folder.told c.count_entry.new.folder) c.count_entry.ensures.stops)

pub returns-in_err-places-clause-untold : goal.returns-in_err-places-clause-untold
returns-in_err-places-clause-untold g c room =
    carried c.take_places.result c.from_residual-in_err-places.result c.in_err-places.field-0.0 (λ _. (g.F.Folder.told c.args.folder.now).files ≡ None) c.in_err-places.was c.from_residual-in_err-places.ensures.1
    (if_damaged_weaker c.take_places.result (λ _. (g.F.Folder.told c.read_counters.new.folder).files ≡ None) (λ _. (g.F.Folder.told c.args.folder.now).files ≡ None) (λ damage none. ap (λ (t : Told). t.files) (sym c.in_ok-counters.ensures.reads.stays) ∙ none) (c.take_places.ensures.untold (λ from there. room-three c.args.key.now c.args.mark from ((subst (λ (t : Told). ForSome t.files (HasRoomForNew c.args.key.now c.args.mark)) (sym c.in_ok-counters.ensures.reads.stays) room) from there))))

pub returns-in_err-write_new-clause-untold : goal.returns-in_err-write_new-clause-untold
returns-in_err-write_new-clause-untold g c room =
    carried c.write_new.result c.from_residual-in_err-write_new.result c.in_err-write_new.field-0.0 (λ _. (g.F.Folder.told c.args.folder.now).files ≡ None) c.in_err-write_new.was c.from_residual-in_err-write_new.ensures.1
    (if_damaged_weaker c.write_new.result (λ _. (g.F.Folder.told c.take_places.new.folder).files ≡ None) (λ _. (g.F.Folder.told c.args.folder.now).files ≡ None) (λ damage none. ap (λ (t : Told). t.files) (sym c.in_ok-counters.ensures.reads.stays) ∙ tells-mid (g.F.Folder.told c.read_counters.new.folder) (g.F.Folder.told c.take_places.new.folder) c.args.key.now c.args.mark c.take_places.ensures.stops (subst (λ (t : Told). ForSome t.files (HasRoomForNew c.args.key.now c.args.mark)) (sym c.in_ok-counters.ensures.reads.stays) room) none) c.write_new.ensures.untold)

pub returns-in_err-list_entry-clause-untold : goal.returns-in_err-list_entry-clause-untold
returns-in_err-list_entry-clause-untold g c room =
    carried c.list_entry.result c.from_residual-in_err-list_entry.result c.in_err-list_entry.field-0.0 (λ _. (g.F.Folder.told c.args.folder.now).files ≡ None) c.in_err-list_entry.was c.from_residual-in_err-list_entry.ensures.1
    (if_damaged_weaker c.list_entry.result (λ _. (g.F.Folder.told c.write_new.new.folder).files ≡ None) (λ _. (g.F.Folder.told c.args.folder.now).files ≡ None) (λ damage none. ap (λ (t : Told). t.files) (sym c.in_ok-counters.ensures.reads.stays) ∙ tells-late (g.F.Folder.told c.read_counters.new.folder) (g.F.Folder.told c.take_places.new.folder) c.args.key.now c.args.mark c.take_places.ensures.stops c.in_ok-places.places c.in_ok-places.ensures.taken (g.F.Folder.told c.write_new.new.folder) c.write_new.ensures.stops (subst (λ (t : Told). ForSome t.files (HasRoomForNew c.args.key.now c.args.mark)) (sym c.in_ok-counters.ensures.reads.stays) room) none)
    (c.list_entry.ensures.untold (can-list (g.F.Folder.told c.read_counters.new.folder) (g.F.Folder.told c.take_places.new.folder) c.args.key.now c.args.mark c.take_places.ensures.stops c.in_ok-places.places c.in_ok-places.ensures.taken (g.F.Folder.told c.write_new.new.folder) c.write_new.ensures.stops c.in_ok-write_new.ensures.written (subst (λ (t : Told). ForSome t.files (HasRoomForNew c.args.key.now c.args.mark)) (sym c.in_ok-counters.ensures.reads.stays) room) (λ none. c.write_new.ensures.writes.silent (c.take_places.ensures.writes.silent none)))))

pub list_entry-requires-clause-stands : goal.list_entry-requires-clause-stands
list_entry-requires-clause-stands g c = among-names c.take_places.new.files blocks_256 c.in_ok-places.places.entry c.in_ok-places.ensures.entry.2 c.in_ok-places.ensures.entry.0 c.in_ok-places.ensures.entry.3

pub list_entry-requires-clause-node : goal.list_entry-requires-clause-node
list_entry-requires-clause-node g c = among-names c.take_places.new.files rankings c.in_ok-places.places.node c.in_ok-places.ensures.node.1 c.in_ok-places.ensures.node.0 c.in_ok-places.ensures.node.2

pub returns-clause-stands : goal.returns-clause-stands
returns-clause-stands g c = (
  among-names c.take_places.new.files blocks_256 c.in_ok-places.places.entry c.in_ok-places.ensures.entry.2 c.in_ok-places.ensures.entry.0 c.in_ok-places.ensures.entry.3,
  among-names c.take_places.new.files rankings c.in_ok-places.places.node c.in_ok-places.ensures.node.1 c.in_ok-places.ensures.node.0 c.in_ok-places.ensures.node.2,
)

pub returns-clause-made : goal.returns-clause-made
returns-clause-made g c =
    subst (λ (t : Told). ForSome t.files (λ from. this_id_of (byte from Index) ≡ c.args.mark → ForSome (g.F.Folder.told c.count_entry.new.folder).files (HasNewObjects c.args.key.now (record { entry = c.in_ok-places.places.entry; node = c.in_ok-places.places.node }) from))) c.in_ok-counters.ensures.reads.stays
    (object-made (g.F.Folder.told c.read_counters.new.folder) (g.F.Folder.told c.take_places.new.folder) c.args.key.now c.args.mark c.take_places.ensures.stops c.in_ok-places.places c.in_ok-places.ensures.taken (g.F.Folder.told c.write_new.new.folder) c.write_new.ensures.stops c.in_ok-write_new.ensures.written (g.F.Folder.told c.list_entry.new.folder) c.list_entry.ensures.stops c.in_ok-list_entry.ensures.listed (g.F.Folder.told c.count_entry.new.folder) c.count_entry.ensures.stops c.in_ok-write_new.ensures.counters c.in_ok-list_entry.ensures.counters c.in_ok-counters.counters
    (subst (λ (t : Told). ForSome t.files (AreIndexCounters c.in_ok-counters.counters)) (sym c.in_ok-counters.ensures.reads.stays) c.in_ok-counters.ensures.read) _ refl c.in_ok-count_entry.ensures.written (record { entry = c.in_ok-places.places.entry; node = c.in_ok-places.places.node }) refl refl)

pub returns-clause-times : goal.returns-clause-times
returns-clause-times g c image now =
    let named = told-before (g.F.Folder.told c.list_entry.new.folder).files (g.F.Folder.told c.count_entry.new.folder).files image c.count_entry.ensures.writes.silent now in
    let late = told-before (g.F.Folder.told c.write_new.new.folder).files (g.F.Folder.told c.list_entry.new.folder).files named.0 c.list_entry.ensures.writes.silent named.1 in
    counting-times c.in_ok-places.places.entry c.in_ok-places.places.node _ _ _ named.0 image (c.in_ok-count_entry.ensures.written named.0 named.1 image now) c.args.moment
    (c.in_ok-list_entry.ensures.times late.0 late.1 named.0 named.1 c.args.moment (c.in_ok-write_new.ensures.times late.0 late.1))

pub returns-in_err-counters-clause-damaged : goal.returns-in_err-counters-clause-damaged
returns-in_err-counters-clause-damaged g c =
    handed c.read_counters.result c.from_residual.result c.in_err-counters.field-0.0 _ c.args.files.now (g.F.Folder.told c.read_counters.new.folder) (λ damage few. FailsShort few) c.in_err-counters.was c.from_residual.ensures.1 c.read_counters.ensures.damaged
