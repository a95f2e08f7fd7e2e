use Rattle.std.proofs.Common.{◌≡◌, ◌+◌, ◌<◌, ℕ, length, None, refl, arith}
use Rattle.std.proofs.lemmas.List.Elements.{All-from_get_or}
use Rattle.std.proofs.lemmas.Result.{on_ok_weaker}
use Rattle.blk_io.proofs.Carried.{carried}
use Rattle.spec_format.specs.Address.{blocks_256, rankings}
use Rattle.blk_object.proofs.MakingMade.{among-names}
use Rattle.blk_sparse.proofs.NewWhole.{listing-finds, listing-untold, noting-finds-all, noting-untold, part-made, taking-finds, taking-untold, whole-before, writing-finds, writing-untold}
use Rattle.blk_sparse.proofs.new_part.make_part.Goals as goal

pub write_part-requires-clause-fits : goal.write_part-requires-clause-fits
write_part-requires-clause-fits g c = record {
  entry_kind = c.in_ok-places.ensures.entry.0;
  entry_stands = c.in_ok-places.ensures.entry.3;
  node_kind = c.in_ok-places.ensures.node.0;
  node_stands = c.in_ok-places.ensures.node.2;
  some = c.requires.some_name;
  most = c.requires.short_name;
  blocks = c.in_ok-places.ensures.entry.1;
  long = c.in_ok-places.ensures.long;
}

pub list_part-requires-clause-stands : goal.list_part-requires-clause-stands
list_part-requires-clause-stands g c = among-names c.take_part.new.files blocks_256 c.in_ok-places.places.places.entry c.in_ok-places.ensures.entry.2 c.in_ok-places.ensures.entry.0 c.in_ok-places.ensures.entry.3

pub list_part-requires-clause-node : goal.list_part-requires-clause-node
list_part-requires-clause-node g c = among-names c.take_part.new.files rankings c.in_ok-places.places.places.node c.in_ok-places.ensures.node.1 c.in_ok-places.ensures.node.0 c.in_ok-places.ensures.node.2

pub note_part-requires-clause-stands : goal.note_part-requires-clause-stands
note_part-requires-clause-stands g c = c.take_part.ensures.keeps c.args.parent c.requires.stands

pub returns-in_err-places-clause-stops : goal.returns-in_err-places-clause-stops
returns-in_err-places-clause-stops g c from there state layout unlinked number object node can =
    taking-finds (g.F.Folder.told c.args.folder.now) (g.F.Folder.told c.take_part.new.folder) c.args.parent c.args.name.child c.args.name.bytes.now c.args.place c.args.piece.now c.requires.signature c.requires.part (All-from_get_or (λ (b : ℕ). b < 256) c.args.piece.now 0 (λ i within. omega (arith, c.type_inv.piece i))) c.requires.most c.take_part.ensures.stops from there state layout unlinked number object node can

pub returns-in_err-write_part-clause-stops : goal.returns-in_err-write_part-clause-stops
returns-in_err-write_part-clause-stops g c from there state layout unlinked number object node can =
    writing-finds (g.F.Folder.told c.args.folder.now) (g.F.Folder.told c.take_part.new.folder) c.args.parent c.args.name.child c.args.name.bytes.now c.args.place c.args.piece.now c.requires.signature c.requires.part (All-from_get_or (λ (b : ℕ). b < 256) c.args.piece.now 0 (λ i within. omega (arith, c.type_inv.piece i))) c.requires.most c.take_part.ensures.stops from there state layout unlinked number object node can c.in_ok-places.places c.first_index-index.result c.first_index-index.ensures.index c.first_index-index.ensures.long c.in_ok-places.ensures.taken (g.F.Folder.told c.write_part.new.folder) c.write_part.ensures.stops

pub returns-in_err-list_part-clause-stops : goal.returns-in_err-list_part-clause-stops
returns-in_err-list_part-clause-stops g c from there state layout unlinked number object node can =
    listing-finds (g.F.Folder.told c.args.folder.now) (g.F.Folder.told c.take_part.new.folder) c.args.parent c.args.name.child c.args.name.bytes.now c.args.place c.args.piece.now c.requires.signature c.requires.part (All-from_get_or (λ (b : ℕ). b < 256) c.args.piece.now 0 (λ i within. omega (arith, c.type_inv.piece i))) c.requires.most c.take_part.ensures.stops from there state layout unlinked number object node can c.in_ok-places.places c.first_index-index.result c.first_index-index.ensures.index c.first_index-index.ensures.long c.in_ok-places.ensures.taken (g.F.Folder.told c.write_part.new.folder) c.write_part.ensures.stops (c.args.place + length c.args.piece.now) refl c.in_ok-write_part.ensures.written (g.F.Folder.told c.list_part.new.folder) c.list_part.ensures.stops

pub returns-clause-stops : goal.returns-clause-stops
returns-clause-stops g c from there state layout unlinked number object node can =
    noting-finds-all (g.F.Folder.told c.args.folder.now) (g.F.Folder.told c.take_part.new.folder) c.args.parent c.args.name.child c.args.name.bytes.now c.args.place c.args.piece.now c.requires.signature c.requires.part (All-from_get_or (λ (b : ℕ). b < 256) c.args.piece.now 0 (λ i within. omega (arith, c.type_inv.piece i))) c.requires.most c.take_part.ensures.stops from there state layout unlinked number object node can c.in_ok-places.places c.first_index-index.result c.first_index-index.ensures.index c.first_index-index.ensures.long c.in_ok-places.ensures.taken (g.F.Folder.told c.write_part.new.folder) c.write_part.ensures.stops (c.args.place + length c.args.piece.now) refl c.in_ok-write_part.ensures.written (g.F.Folder.told c.list_part.new.folder) c.list_part.ensures.stops c.in_ok-list_part.ensures.listed c.take_part.new.files c.list_part.ensures.is_open (g.met.F.Folder.are_bytes c.list_part.new.folder) (g.F.Folder.told c.note_part.new.folder) c.note_part.ensures.stops

pub returns-in_err-places-clause-untold : goal.returns-in_err-places-clause-untold
returns-in_err-places-clause-untold g c from there state layout unlinked number object node can =
    carried c.take_part.result c.from_residual.result c.in_err-places.field-0.0 (λ _. (g.F.Folder.told c.args.folder.now).files ≡ None) c.in_err-places.was c.from_residual.ensures.1
    (taking-untold (g.F.Folder.told c.args.folder.now) (g.F.Folder.told c.take_part.new.folder) c.args.parent c.args.name.child c.args.name.bytes.now c.args.place c.args.piece.now c.requires.signature c.requires.part (All-from_get_or (λ (b : ℕ). b < 256) c.args.piece.now 0 (λ i within. omega (arith, c.type_inv.piece i))) c.requires.most c.take_part.ensures.stops from there state layout unlinked number object node can c.take_part.result c.take_part.ensures.untold)

pub returns-in_err-write_part-clause-untold : goal.returns-in_err-write_part-clause-untold
returns-in_err-write_part-clause-untold g c from there state layout unlinked number object node can =
    carried c.write_part.result c.from_residual-in_err-write_part.result c.in_err-write_part.field-0.0 (λ _. (g.F.Folder.told c.args.folder.now).files ≡ None) c.in_err-write_part.was c.from_residual-in_err-write_part.ensures.1
    (writing-untold (g.F.Folder.told c.args.folder.now) (g.F.Folder.told c.take_part.new.folder) c.args.parent c.args.name.child c.args.name.bytes.now c.args.place c.args.piece.now c.requires.signature c.requires.part (All-from_get_or (λ (b : ℕ). b < 256) c.args.piece.now 0 (λ i within. omega (arith, c.type_inv.piece i))) c.requires.most c.take_part.ensures.stops from there state layout unlinked number object node can c.in_ok-places.places c.first_index-index.result c.first_index-index.ensures.index c.first_index-index.ensures.long c.in_ok-places.ensures.taken (g.F.Folder.told c.write_part.new.folder) c.write_part.ensures.stops c.write_part.result c.write_part.ensures.untold)

pub returns-in_err-list_part-clause-untold : goal.returns-in_err-list_part-clause-untold
returns-in_err-list_part-clause-untold g c from there state layout unlinked number object node can =
    carried c.list_part.result c.from_residual-in_err-list_part.result c.in_err-list_part.field-0.0 (λ _. (g.F.Folder.told c.args.folder.now).files ≡ None) c.in_err-list_part.was c.from_residual-in_err-list_part.ensures.1
    (listing-untold (g.F.Folder.told c.args.folder.now) (g.F.Folder.told c.take_part.new.folder) c.args.parent c.args.name.child c.args.name.bytes.now c.args.place c.args.piece.now c.requires.signature c.requires.part (All-from_get_or (λ (b : ℕ). b < 256) c.args.piece.now 0 (λ i within. omega (arith, c.type_inv.piece i))) c.requires.most c.take_part.ensures.stops from there state layout unlinked number object node can c.in_ok-places.places c.first_index-index.result c.first_index-index.ensures.index c.first_index-index.ensures.long c.in_ok-places.ensures.taken (g.F.Folder.told c.write_part.new.folder) c.write_part.ensures.stops (c.args.place + length c.args.piece.now) refl c.in_ok-write_part.ensures.written (g.F.Folder.told c.list_part.new.folder) c.list_part.ensures.stops c.list_part.result c.list_part.ensures.untold)

pub returns-clause-untold : goal.returns-clause-untold
returns-clause-untold g c from there state layout unlinked number object node can =
    noting-untold (g.F.Folder.told c.args.folder.now) (g.F.Folder.told c.take_part.new.folder) c.args.parent c.args.name.child c.args.name.bytes.now c.args.place c.args.piece.now c.requires.signature c.requires.part (All-from_get_or (λ (b : ℕ). b < 256) c.args.piece.now 0 (λ i within. omega (arith, c.type_inv.piece i))) c.requires.most c.take_part.ensures.stops from there state layout unlinked number object node can c.in_ok-places.places c.first_index-index.result c.first_index-index.ensures.index c.first_index-index.ensures.long c.in_ok-places.ensures.taken (g.F.Folder.told c.write_part.new.folder) c.write_part.ensures.stops (c.args.place + length c.args.piece.now) refl c.in_ok-write_part.ensures.written (g.F.Folder.told c.list_part.new.folder) c.list_part.ensures.stops c.in_ok-list_part.ensures.listed c.take_part.new.files c.list_part.ensures.is_open (g.met.F.Folder.are_bytes c.list_part.new.folder) c.note_part.result c.note_part.ensures.untold

pub returns-clause-written : goal.returns-clause-written
returns-clause-written g c =
    on_ok_weaker c.note_part.result
    (λ noted from there state layout unlinked number object node can image now.
    part-made (g.F.Folder.told c.args.folder.now) (g.F.Folder.told c.take_part.new.folder) c.args.parent c.args.name.child c.args.name.bytes.now c.args.place c.args.piece.now c.requires.signature c.requires.part (All-from_get_or (λ (b : ℕ). b < 256) c.args.piece.now 0 (λ i within. omega (arith, c.type_inv.piece i))) c.requires.most c.take_part.ensures.stops from there state layout unlinked number object node can c.in_ok-places.places c.first_index-index.result c.first_index-index.ensures.index c.first_index-index.ensures.long c.in_ok-places.ensures.taken (g.F.Folder.told c.write_part.new.folder) c.write_part.ensures.stops (c.args.place + length c.args.piece.now) refl c.in_ok-write_part.ensures.written (g.F.Folder.told c.list_part.new.folder) c.list_part.ensures.stops c.in_ok-list_part.ensures.listed c.take_part.new.files c.list_part.ensures.is_open (g.met.F.Folder.are_bytes c.list_part.new.folder) (g.F.Folder.told c.note_part.new.folder) c.note_part.ensures.stops noted c.note_part.ensures.is_open image now)
    c.note_part.ensures.noted

pub returns-clause-ordered : goal.returns-clause-ordered
returns-clause-ordered g c =
    on_ok_weaker c.note_part.result
    (λ noted from there state layout unlinked number object node can.
    whole-before (g.F.Folder.told c.args.folder.now) (g.F.Folder.told c.take_part.new.folder) c.args.parent c.args.name.child c.args.name.bytes.now c.args.place c.args.piece.now c.requires.signature c.requires.part (All-from_get_or (λ (b : ℕ). b < 256) c.args.piece.now 0 (λ i within. omega (arith, c.type_inv.piece i))) c.requires.most c.take_part.ensures.stops from there state layout unlinked number object node can c.in_ok-places.places c.first_index-index.result c.first_index-index.ensures.index c.first_index-index.ensures.long c.in_ok-places.ensures.taken (g.F.Folder.told c.write_part.new.folder) c.write_part.ensures.stops (c.args.place + length c.args.piece.now) refl c.in_ok-write_part.ensures.written (g.F.Folder.told c.list_part.new.folder) c.list_part.ensures.stops c.in_ok-list_part.ensures.listed c.take_part.new.files c.list_part.ensures.is_open (g.met.F.Folder.are_bytes c.list_part.new.folder) (g.F.Folder.told c.note_part.new.folder) c.note_part.ensures.stops)
    c.note_part.ensures.noted
