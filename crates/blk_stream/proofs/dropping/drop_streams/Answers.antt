use Rattle.std.proofs.Common.{◌≡◌, ◌⊎◌, inl, ℕ, None, sym, ◌∙◌, ap, subst, arith}
use Rattle.std.specs.Option.{ForSome}
use Rattle.spec_image.specs.Told.{Told}
use Rattle.spec_image.proofs.Runs.{passes_none, passes_stayed, some_inj}
use Rattle.spec_format.specs.Address.{file_selector, place}
use Rattle.spec_format.specs.Sealed.{RecordChecks, record_at}
use Rattle.spec_format.proofs.SealedRecords.{entry_bytes}
use Rattle.blk_io.specs.declared.folder.FileId.TheVariants as FileId
use Rattle.blk_io.specs.Faults.{IsShort}
use Rattle.blk_io.proofs.Carried.{carried, if_damaged_weaker, told_at_end}
use Rattle.blk_disk.specs.Tables.{Agrees}
use Rattle.blk_disk.specs.Unsealed.{IsUnsealed}
use Rattle.blk_stream.specs.Dropping.{AreDropped, DropsInProgress, IsDropDamage, StreamsCanBeDropped}
use Rattle.blk_stream.proofs.Dropped.{begun, can_next, next_has, next_passes, not_begun}
use Rattle.blk_stream.proofs.dropping.drop_streams.Goals as goal

pub read_record-requires-clause-size : goal.read_record-requires-clause-size
read_record-requires-clause-size g c = sym (entry_bytes c.args.entry c.requires.kind)

pub returns-in_err-read_record-clause-agrees : goal.returns-in_err-read_record-clause-agrees
returns-in_err-read_record-clause-agrees g c = subst (λ (t : Told). ForSome t.files (Agrees c.args.files.now)) (sym c.in_err-read_record.ensures.reads.stays) c.requires.agrees

pub returns-in_err-read_record-clause-stops : goal.returns-in_err-read_record-clause-stops
returns-in_err-read_record-clause-stops g c from there good =
    passes_none (DropsInProgress c.args.entry from) c.in_err-read_record.ensures.reads.stays (λ image now. subst (DropsInProgress c.args.entry from) (some_inj (sym there ∙ now)) (not_begun c.args.entry from good))

pub returns-in_err-read_record-clause-damaged : goal.returns-in_err-read_record-clause-damaged
returns-in_err-read_record-clause-damaged g c =
    carried c.read_record.result c.from_residual.result c.in_err-read_record.field-0.0 (IsDropDamage c.args.files.now (g.F.Folder.told c.args.f.now) (g.F.Folder.told c.read_record.new.folder) c.args.entry) c.in_err-read_record.was c.from_residual.ensures.1
    (if_damaged_weaker c.read_record.result _ _
    (λ damage d. inl (c.in_err-read_record.ensures.reads.stays, subst (λ (n : ℕ). IsShort (g.F.Folder.told c.args.f.now) (FileId.Block (file_selector c.args.entry)) (place c.args.entry) n damage ⊎ IsUnsealed (g.F.Folder.told c.args.f.now) c.args.entry damage) (entry_bytes c.args.entry c.requires.kind) d))
    c.read_record.ensures.damaged)

pub loop-stream-init : goal.loop-stream-init
loop-stream-init g c = record {
  has = begun (g.F.Folder.told c.read_record.new.folder) c.args.files.now c.args.entry c.read_record.new.bytes
      (subst (λ (t : Told). ForSome t.files (Agrees c.args.files.now)) (sym c.in_ok-read_record.ensures.reads.stays) c.requires.agrees)
      (subst (λ (t : Told). ForSome t.files (λ image. c.read_record.new.bytes ≡ record_at image c.args.entry)) (sym c.in_ok-read_record.ensures.reads.stays) c.in_ok-read_record.ensures.bytes)
      (subst (λ (t : Told). ForSome t.files (RecordChecks c.args.entry)) (sym c.in_ok-read_record.ensures.reads.stays) c.in_ok-read_record.ensures.checked)
      c.read_record.auto.bytes;
  later = omega arith;
}

pub returns-in_err-drop_stream-clause-stops : goal.returns-in_err-drop_stream-clause-stops
returns-in_err-drop_stream-clause-stops g c from there good =
    passes_stayed c.in_ok-read_record.ensures.reads.stays
    (next_passes (g.F.Folder.told c.read_record.new.folder) (g.F.Folder.told c.loop-stream.f) (g.F.Folder.told c.drop_stream.new.folder) c.args.files.now c.args.entry c.loop-stream.stream c.loop-stream.bytes c.loop-stream.bytes c.loop-stream-test.true c.loop-stream.invariant.has
    (λ mid at. c.drop_stream.ensures.stops mid at (c.loop-stream.invariant.has.read mid at) (c.loop-stream.invariant.has.checks mid at)) from (ap (λ (t : Told). t.files) c.in_ok-read_record.ensures.reads.stays ∙ there))

pub returns-in_err-drop_stream-clause-untold : goal.returns-in_err-drop_stream-clause-untold
returns-in_err-drop_stream-clause-untold g c can =
    let has = c.loop-stream.invariant.has in
    carried c.drop_stream.result c.from_residual-in_err-drop_stream.result c.in_err-drop_stream.field-0.0 (λ _. (g.F.Folder.told c.args.f.now).files ≡ None) c.in_err-drop_stream.was c.from_residual-in_err-drop_stream.ensures.1
    (if_damaged_weaker c.drop_stream.result _ _ (λ damage none. ap (λ (t : Told). t.files) (sym c.in_ok-read_record.ensures.reads.stays) ∙ has.back none)
    (c.drop_stream.ensures.untold
    (λ mid at. (
      has.read mid at,
      has.checks mid at,
      can_next (g.F.Folder.told c.read_record.new.folder) (g.F.Folder.told c.loop-stream.f) (g.F.Folder.told c.drop_stream.new.folder) c.args.files.now c.args.entry c.loop-stream.stream c.loop-stream.bytes c.loop-stream.bytes c.loop-stream-test.true has
          (subst (λ (t : Told). ForSome t.files (Agrees c.args.files.now)) (sym c.in_ok-read_record.ensures.reads.stays) c.requires.agrees)
          (subst (λ (t : Told). ForSome t.files (StreamsCanBeDropped c.args.entry)) (sym c.in_ok-read_record.ensures.reads.stays) can) mid at,
    ))))

pub loop-stream-preserved : goal.loop-stream-preserved
loop-stream-preserved g c = record {
  has = next_has (g.F.Folder.told c.read_record.new.folder) (g.F.Folder.told c.loop-stream.f) (g.F.Folder.told c.drop_stream.new.folder) c.args.files.now c.args.entry c.loop-stream.stream c.loop-stream.bytes c.drop_stream.new.bytes c.loop-stream-test.true c.loop-stream.invariant.has
      (λ mid at. c.drop_stream.ensures.stops mid at (c.loop-stream.invariant.has.read mid at) (c.loop-stream.invariant.has.checks mid at))
      (λ mid at. c.in_ok-drop_stream.ensures.dropped mid at (c.loop-stream.invariant.has.read mid at) (c.loop-stream.invariant.has.checks mid at))
      (told_at_end (g.F.Folder.told c.loop-stream.f).files (g.F.Folder.told c.drop_stream.new.folder).files (λ image. c.drop_stream.new.bytes ≡ record_at image c.args.entry) c.drop_stream.ensures.writes.silent (λ mid at. c.in_ok-drop_stream.ensures.read mid at (c.loop-stream.invariant.has.read mid at)))
      c.drop_stream.ensures.agrees c.drop_stream.ensures.writes.silent c.drop_stream.ensures.long;
  later = let one = c.loop-stream.invariant.later in let other = c.drop_stream.ensures.writes.later in omega (arith, one, other);
}

pub returns-clause-dropped : goal.returns-clause-dropped
returns-clause-dropped g c from there image now =
    subst (λ (n : ℕ). AreDropped n c.args.entry from image) (omega (arith, c.loop-stream-test.false, c.loop-stream.auto.stream-end))
    (c.loop-stream.invariant.has.dropped from (ap (λ (t : Told). t.files) c.in_ok-read_record.ensures.reads.stays ∙ there) image now)
