use Rattle.std.proofs.Common.{[], ◌∙◌, ap, sym, subst, rules}
use Rattle.std.specs.Option.{ForSome}
use Rattle.spec_image.specs.Image.{Image}
use Rattle.spec_image.specs.Told.{Told}
use Rattle.spec_image.proofs.Runs.{passes_none, some_inj}
use Rattle.blk_io.proofs.Carried.{silent_part}
use Rattle.blk_addr.specs.Kind.{kind_number}
use Rattle.spec_format.specs.Sealed.{IsMidUpdate}
use Rattle.blk_disk.specs.Tables.{Agrees}
use Rattle.spec_format.proofs.SealedRecords.{moment_before}
use Rattle.blk_disk.proofs.MissingSeals.{agrees_sealed, prefix_sealed, steps_sealed, stops_sealed, updated_sealed}
use Rattle.blk_disk.proofs.tables.BlockFiles.seal.Goals as goal

-- The record wasn't read, or its checksum is wrong.

pub returns-in_err-read_record-clause-stops : goal.returns-in_err-read_record-clause-stops
returns-in_err-read_record-clause-stops g c from there good =
    passes_none (IsMidUpdate from c.args.addr []) c.in_err-read_record.ensures.reads.stays
    (λ image here. subst (λ (i : Image). IsMidUpdate from c.args.addr [] i) (some_inj (sym there ∙ here)) (moment_before c.args.addr from [] good))

pub returns-in_err-read_record-clause-agrees : goal.returns-in_err-read_record-clause-agrees
returns-in_err-read_record-clause-agrees g c = subst (λ (t : Told). ForSome t.files (Agrees c.args.self.now)) (sym c.in_err-read_record.ensures.reads.stays) c.requires.agrees

pub returns-in_err-read_record-clause-prefix : goal.returns-in_err-read_record-clause-prefix
returns-in_err-read_record-clause-prefix g c = record {
  made = search rules;
  silent = λ none. ap (λ (t : Told). t.files) c.in_err-read_record.ensures.reads.stays ∙ none;
}

pub write_seal-requires-clause-agrees : goal.write_seal-requires-clause-agrees
write_seal-requires-clause-agrees g c = subst (λ (t : Told). ForSome t.files (Agrees c.args.self.now)) (sym c.in_ok-read_record.ensures.reads.stays) c.requires.agrees

-- A record that was read.

pub returns-in_err-write_seal-clause-prefix : goal.returns-in_err-write_seal-clause-prefix
returns-in_err-write_seal-clause-prefix g c = record {
  made = prefix_sealed c.args.self.now c.args.addr c.requires.stands c.requires.begins (g.F.Folder.told c.args.folder.now) (g.F.Folder.told c.read_record.new.folder) (g.F.Folder.told c.write_seal.new.folder) c.in_ok-read_record.ensures.reads.stays c.requires.agrees
      (kind_number c.kind-2.result) c.missing_seal.result c.read_record.new.bytes c.kind-2.ensures c.missing_seal.ensures c.in_ok-read_record.ensures.bytes
      c.in_err-write_seal.ensures.prefix;
  silent = λ none. silent_part c.in_err-write_seal.ensures.prefix (ap (λ (t : Told). t.files) c.in_ok-read_record.ensures.reads.stays ∙ none);
}

pub returns-clause-prefix : goal.returns-clause-prefix
returns-clause-prefix g c = record {
  made = prefix_sealed c.args.self.now c.args.addr c.requires.stands c.requires.begins (g.F.Folder.told c.args.folder.now) (g.F.Folder.told c.read_record.new.folder) (g.F.Folder.told c.write_seal.new.folder) c.in_ok-read_record.ensures.reads.stays c.requires.agrees
      (kind_number c.kind-2.result) c.missing_seal.result c.read_record.new.bytes c.kind-2.ensures c.missing_seal.ensures c.in_ok-read_record.ensures.bytes
      c.in_ok-write_seal.ensures.prefix;
  silent = λ none. silent_part c.in_ok-write_seal.ensures.prefix (ap (λ (t : Told). t.files) c.in_ok-read_record.ensures.reads.stays ∙ none);
}

pub returns-in_err-write_seal-clause-stops : goal.returns-in_err-write_seal-clause-stops
returns-in_err-write_seal-clause-stops g c =
    stops_sealed c.args.self.now c.args.addr c.requires.stands c.requires.begins (g.F.Folder.told c.args.folder.now) (g.F.Folder.told c.read_record.new.folder) (g.F.Folder.told c.write_seal.new.folder) c.in_ok-read_record.ensures.reads.stays c.requires.agrees
    (kind_number c.kind-2.result) c.missing_seal.result c.read_record.new.bytes c.kind-2.ensures c.missing_seal.ensures c.in_ok-read_record.ensures.bytes
    c.in_err-write_seal.ensures.prefix

pub returns-clause-stops : goal.returns-clause-stops
returns-clause-stops g c =
    stops_sealed c.args.self.now c.args.addr c.requires.stands c.requires.begins (g.F.Folder.told c.args.folder.now) (g.F.Folder.told c.read_record.new.folder) (g.F.Folder.told c.write_seal.new.folder) c.in_ok-read_record.ensures.reads.stays c.requires.agrees
    (kind_number c.kind-2.result) c.missing_seal.result c.read_record.new.bytes c.kind-2.ensures c.missing_seal.ensures c.in_ok-read_record.ensures.bytes
    c.in_ok-write_seal.ensures.prefix

pub returns-in_err-write_seal-clause-agrees : goal.returns-in_err-write_seal-clause-agrees
returns-in_err-write_seal-clause-agrees g c =
    agrees_sealed c.args.self.now c.args.addr c.missing_seal.result (g.F.Folder.told c.read_record.new.folder) (g.F.Folder.told c.write_seal.new.folder)
    (subst (λ (t : Told). ForSome t.files (Agrees c.args.self.now)) (sym c.in_ok-read_record.ensures.reads.stays) c.requires.agrees) c.in_err-write_seal.ensures.prefix

pub returns-clause-agrees : goal.returns-clause-agrees
returns-clause-agrees g c =
    agrees_sealed c.args.self.now c.args.addr c.missing_seal.result (g.F.Folder.told c.read_record.new.folder) (g.F.Folder.told c.write_seal.new.folder)
    (subst (λ (t : Told). ForSome t.files (Agrees c.args.self.now)) (sym c.in_ok-read_record.ensures.reads.stays) c.requires.agrees) c.in_ok-write_seal.ensures.prefix

pub returns-clause-steps : goal.returns-clause-steps
returns-clause-steps g c =
    steps_sealed c.args.self.now c.args.addr c.requires.stands c.requires.begins (g.F.Folder.told c.args.folder.now) (g.F.Folder.told c.read_record.new.folder) (g.F.Folder.told c.write_seal.new.folder) c.in_ok-read_record.ensures.reads.stays c.requires.agrees
    (kind_number c.kind-2.result) c.missing_seal.result c.read_record.new.bytes c.kind-2.ensures c.missing_seal.ensures c.in_ok-read_record.ensures.bytes
    c.in_ok-write_seal.ensures.steps

pub returns-clause-updated : goal.returns-clause-updated
returns-clause-updated g c =
    updated_sealed c.args.self.now c.args.addr c.requires.stands c.requires.begins (g.F.Folder.told c.args.folder.now) (g.F.Folder.told c.read_record.new.folder) (g.F.Folder.told c.write_seal.new.folder) c.in_ok-read_record.ensures.reads.stays c.requires.agrees
    (kind_number c.kind-2.result) c.missing_seal.result c.read_record.new.bytes c.kind-2.ensures c.missing_seal.ensures c.in_ok-read_record.ensures.bytes
    (g.met.F.Folder.are_bytes c.args.folder.now) c.in_ok-write_seal.ensures.steps
