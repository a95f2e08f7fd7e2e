use Rattle.std.proofs.Common.{◌≡◌, refl, sym, subst}
use Rattle.std.specs.Option.{ForSome}
use Rattle.std.proofs.lemmas.Result.{on_ok_weaker}
use Rattle.spec_image.specs.Image.{Image}
use Rattle.spec_folder.specs.Searches.{bucket_of_key}
use Rattle.spec_folder.specs.View.{store_of}
use Rattle.spec_image.specs.Told.{Passes, Told}
use Rattle.blk_io.proofs.Carried.{if_damaged_weaker}
use Rattle.blk_disk.specs.Open.{IsOpen}
use Rattle.law_state.specs.Changes.{StillFinds}
use Rattle.blk_object.specs.Making.{words_of_places}
use Rattle.blk_object.proofs.DamageChecks.{handed, moved, short-checked}
use Rattle.blk_object.proofs.MakingTaken.{nothing-finds}
use Rattle.blk_object.proofs.MakingWritten.{bucket-is}
use Rattle.blk_sparse.specs.NewParts.{IsChildWritten}
use Rattle.blk_sparse.proofs.NewRecords.{child-written, fits-child, on-ok-both, writing-child}
use Rattle.blk_sparse.proofs.part_record.write_child.Goals as goal

pub returns-in_err-next-clause-stops : goal.returns-in_err-next-clause-stops
returns-in_err-next-clause-stops g c = nothing-finds (words_of_places c.args.places.now) (g.F.Folder.told c.args.folder.now) (g.F.Folder.told c.bucket.new.f) c.in_err-next.ensures.reads.stays

pub returns-in_err-next-clause-is_open : goal.returns-in_err-next-clause-is_open
returns-in_err-next-clause-is_open g c = subst (λ (t : Told). ForSome t.files (IsOpen c.args.files.now)) (sym c.in_err-next.ensures.reads.stays) c.requires.is_open

pub returns-in_err-next-clause-damaged : goal.returns-in_err-next-clause-damaged
returns-in_err-next-clause-damaged g c =
    handed c.bucket.result c.from_residual.result c.in_err-next.field-0.0 _ c.args.files.now (g.F.Folder.told c.bucket.new.f)
    (λ damage short. moved c.args.files.now (g.F.Folder.told c.args.folder.now) (g.F.Folder.told c.bucket.new.f) damage c.bucket.ensures.reads.stays (short-checked c.args.files.now (g.F.Folder.told c.args.folder.now) _ _ _ damage short))
    c.in_err-next.was c.from_residual.ensures.1 c.bucket.ensures.short

pub write_entry-requires-clause-agrees : goal.write_entry-requires-clause-agrees
write_entry-requires-clause-agrees g c from there = (subst (λ (t : Told). ForSome t.files (IsOpen c.args.files.now)) (sym c.in_ok-next.ensures.reads.stays) c.requires.is_open from there).agrees

pub returns-clause-damaged : goal.returns-clause-damaged
returns-clause-damaged g c =
    if_damaged_weaker c.write_entry.result _ _ (λ damage never. absurd never) c.write_entry.ensures.never

pub returns-clause-is_open : goal.returns-clause-is_open
returns-clause-is_open g c image now = record {
  agrees = c.write_entry.ensures.agrees image now;
  whole_index = c.write_entry.ensures.complete (λ from there. (subst (λ (t : Told). ForSome t.files (IsOpen c.args.files.now)) (sym c.in_ok-next.ensures.reads.stays) c.requires.is_open from there).whole_index) image now;
}

pub returns-clause-stops : goal.returns-clause-stops
returns-clause-stops g c =
    let b : Told = g.F.Folder.told c.bucket.new.f in
    let d : Told = g.F.Folder.told c.write_entry.new.f in
    subst (λ (t : Told). ForSome t.files (λ from. Passes t d (StillFinds (words_of_places c.args.places.now) from))) c.in_ok-next.ensures.reads.stays
    (writing-child b d c.args.files.now c.args.places.now c.in_ok-next.next c.args.name.now (fits-child c.args.files.now c.args.places.now c.in_ok-next.next c.args.name.now c.requires.fits) c.write_entry.ensures.words
    (λ from there. (subst (λ (t : Told). ForSome t.files (IsOpen c.args.files.now)) (sym c.in_ok-next.ensures.reads.stays) c.requires.is_open from there).agrees) c.write_entry.ensures.stops)

pub returns-clause-written : goal.returns-clause-written
returns-clause-written g c =
    let b : Told = g.F.Folder.told c.bucket.new.f in
    let d : Told = g.F.Folder.told c.write_entry.new.f in
    on-ok-both c.write_entry.result
    (λ written shown.
    subst (λ (t : Told). ForSome t.files (λ from. ForSome d.files (IsChildWritten c.args.places.now c.args.name.now c.args.moment from))) c.in_ok-next.ensures.reads.stays
    (child-written b d c.args.files.now c.args.places.now c.in_ok-next.next c.args.name.now (fits-child c.args.files.now c.args.places.now c.in_ok-next.next c.args.name.now c.requires.fits) c.write_entry.ensures.words
    (λ from there. (subst (λ (t : Told). ForSome t.files (IsOpen c.args.files.now)) (sym c.in_ok-next.ensures.reads.stays) c.requires.is_open from there).agrees) c.write_entry.ensures.stops c.args.moment
    (subst (λ (t : Told). ForSome t.files (λ (i : Image). c.in_ok-next.next ≡ (store_of i).table (bucket_of_key c.args.name.now))) (sym c.in_ok-next.ensures.reads.stays) (λ from there. bucket-is from c.args.name.now c.super_fast_hash-hash.result _ c.in_ok-next.next c.super_fast_hash-hash.ensures refl (c.in_ok-next.ensures.word from there)))
    written shown))
    c.write_entry.ensures.written c.write_entry.ensures.shown

pub returns-clause-checks : goal.returns-clause-checks
returns-clause-checks g c = on_ok_weaker c.write_entry.result (λ written image now. (written image now).entry_checks) c.write_entry.ensures.written
