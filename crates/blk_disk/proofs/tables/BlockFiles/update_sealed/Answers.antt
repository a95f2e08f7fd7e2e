use Rattle.std.proofs.Common.{◌∙◌, ap, sym, subst, rules}
use Rattle.std.specs.Option.{ForSome}
use Rattle.spec_image.specs.Image.{Image}
use Rattle.spec_image.specs.Told.{Told}
use Rattle.spec_image.proofs.Runs.{passes_none, some_inj}
use Rattle.blk_io.proofs.Carried.{silent_part}
use Rattle.spec_format.specs.Sealed.{IsMidUpdate}
use Rattle.blk_disk.specs.Tables.{Agrees}
use Rattle.spec_format.proofs.SealedRecords.{moment_before}
use Rattle.blk_disk.proofs.SealedWrites.{checks_after, prefix_read, steps_read, stops_read, updated_read}
use Rattle.blk_disk.proofs.tables.BlockFiles.update_sealed.Goals as goal

-- The record wasn't read, or its checksum is wrong.

pub returns-in_err-read_record-clause-stops : goal.returns-in_err-read_record-clause-stops
returns-in_err-read_record-clause-stops g c from there good =
    passes_none (IsMidUpdate from c.args.addr c.args.changes.now) c.in_err-read_record.ensures.reads.stays
    (λ image here. subst (λ (i : Image). IsMidUpdate from c.args.addr c.args.changes.now i) (some_inj (sym there ∙ here)) (moment_before c.args.addr from c.args.changes.now good))

pub returns-in_err-read_record-clause-agrees : goal.returns-in_err-read_record-clause-agrees
returns-in_err-read_record-clause-agrees g c = subst (λ (t : Told). ForSome t.files (Agrees c.args.self.now)) (sym c.in_err-read_record.ensures.reads.stays) c.requires.agrees

pub returns-in_err-read_record-clause-prefix : goal.returns-in_err-read_record-clause-prefix
returns-in_err-read_record-clause-prefix g c = record {
  made = search rules;
  silent = λ none. ap (λ (t : Told). t.files) c.in_err-read_record.ensures.reads.stays ∙ none;
}

pub update_record-requires-clause-agrees : goal.update_record-requires-clause-agrees
update_record-requires-clause-agrees g c = subst (λ (t : Told). ForSome t.files (Agrees c.args.self.now)) (sym c.in_ok-read_record.ensures.reads.stays) c.requires.agrees

-- A write that failed.

pub returns-in_err-update_record-clause-prefix : goal.returns-in_err-update_record-clause-prefix
returns-in_err-update_record-clause-prefix g c = record {
  made = prefix_read c.args.addr c.args.changes.now c.read_record.new.bytes (g.F.Folder.told c.args.f.now) (g.F.Folder.told c.read_record.new.folder) (g.F.Folder.told c.update_record.new.folder) c.in_ok-read_record.ensures.reads.stays c.in_ok-read_record.ensures.bytes c.in_err-update_record.ensures.prefix;
  silent = λ none. silent_part c.in_err-update_record.ensures.prefix (ap (λ (t : Told). t.files) c.in_ok-read_record.ensures.reads.stays ∙ none);
}

pub returns-in_err-update_record-clause-stops : goal.returns-in_err-update_record-clause-stops
returns-in_err-update_record-clause-stops g c =
    stops_read c.args.addr c.args.changes.now c.read_record.new.bytes (g.F.Folder.told c.args.f.now) (g.F.Folder.told c.read_record.new.folder) (g.F.Folder.told c.update_record.new.folder) c.in_ok-read_record.ensures.reads.stays c.in_ok-read_record.ensures.bytes c.in_err-update_record.ensures.stops

pub returns-in_err-update_record-clause-checks : goal.returns-in_err-update_record-clause-checks
returns-in_err-update_record-clause-checks g c =
    checks_after c.args.addr c.args.changes.now (g.F.Folder.told c.args.f.now) (g.F.Folder.told c.update_record.new.folder) (returns-in_err-update_record-clause-prefix g c).silent (returns-in_err-update_record-clause-stops g c)

-- All words are written.

pub returns-clause-steps : goal.returns-clause-steps
returns-clause-steps g c =
    steps_read c.args.addr c.args.changes.now c.read_record.new.bytes (g.F.Folder.told c.args.f.now) (g.F.Folder.told c.read_record.new.folder) (g.F.Folder.told c.update_record.new.folder) c.in_ok-read_record.ensures.reads.stays c.in_ok-read_record.ensures.bytes c.in_ok-update_record.ensures.steps

pub returns-clause-updated : goal.returns-clause-updated
returns-clause-updated g c =
    updated_read c.args.addr c.args.changes.now c.read_record.new.bytes (g.F.Folder.told c.args.f.now) (g.F.Folder.told c.read_record.new.folder) (g.F.Folder.told c.update_record.new.folder) c.in_ok-read_record.ensures.reads.stays c.in_ok-read_record.ensures.bytes c.in_ok-update_record.ensures.updated

pub returns-clause-prefix : goal.returns-clause-prefix
returns-clause-prefix g c = record {
  made = prefix_read c.args.addr c.args.changes.now c.read_record.new.bytes (g.F.Folder.told c.args.f.now) (g.F.Folder.told c.read_record.new.folder) (g.F.Folder.told c.update_record.new.folder) c.in_ok-read_record.ensures.reads.stays c.in_ok-read_record.ensures.bytes c.in_ok-update_record.ensures.prefix;
  silent = λ none. silent_part c.in_ok-update_record.ensures.prefix (ap (λ (t : Told). t.files) c.in_ok-read_record.ensures.reads.stays ∙ none);
}

pub returns-clause-stops : goal.returns-clause-stops
returns-clause-stops g c =
    stops_read c.args.addr c.args.changes.now c.read_record.new.bytes (g.F.Folder.told c.args.f.now) (g.F.Folder.told c.read_record.new.folder) (g.F.Folder.told c.update_record.new.folder) c.in_ok-read_record.ensures.reads.stays c.in_ok-read_record.ensures.bytes c.in_ok-update_record.ensures.stops

pub returns-clause-checks : goal.returns-clause-checks
returns-clause-checks g c = checks_after c.args.addr c.args.changes.now (g.F.Folder.told c.args.f.now) (g.F.Folder.told c.update_record.new.folder) (returns-clause-prefix g c).silent (returns-clause-stops g c)
