use Rattle.std.proofs.Common.{◌≡◌, ◌∙◌, length, None, sym, subst}
use Rattle.std.specs.Option.{ForSome}
use Rattle.std.proofs.lemmas.Result.{on_ok_weaker}
use Rattle.spec_image.specs.Told.{Passes, Told}
use Rattle.spec_image.proofs.Runs.{some_inj}
use Rattle.blk_io.specs.Faults.{IfDamaged}
use Rattle.blk_io.proofs.Carried.{carried, if_damaged_weaker}
use Rattle.blk_model.specs.Holding.{rest}
use Rattle.spec_format.specs.Headers.{HasWholeIndex}
use Rattle.blk_disk.specs.Tables.{Agrees}
use Rattle.blk_stream.specs.Stages.{IsWrittenByStage, KeepsSeal, WritesByStage}
use Rattle.blk_stream.specs.Streams.{size_word}
use Rattle.blk_stream.specs.Writing.{size_after}
use Rattle.blk_stream.specs.Written.{CanBeWritten, StreamIsWritten}
use Rattle.law_state.specs.Changes.{Finds}
use Rattle.blk_object.specs.Writing.{ForEachPartUnsettled, ForEachUnsettled, HasStreamThere, IsPartWrittenUncounted, IsWrittenUncounted}
use Rattle.blk_object.specs.FailedChecks.{FailsLength}
use Rattle.blk_object.proofs.DamageChecks.{handed}
use Rattle.blk_object.proofs.MakingTaken.{then-stays}
use Rattle.blk_object.proofs.WriteChecks.{write-checked}
use Rattle.blk_object.proofs.WrittenCalls.{index-untold, no-part-written, nothing-written, object-finds, object-untold, object-written, part-finds, part-index-untold, part-stream-there, part-untold, part-written, stream-there}
use Rattle.blk_object.proofs.writing.write_object.Given.{Over}
use Rattle.blk_object.proofs.writing.write_object.Goals as goal

pub returns-in_err-check_stream-clause-stops : goal.returns-in_err-check_stream-clause-stops
returns-in_err-check_stream-clause-stops g c = nothing-written (g.F.Folder.told c.args.folder.now) (g.F.Folder.told c.check_stream.new.folder) c.args.entry c.args.stream c.args.offset c.args.cut c.args.bytes.now c.in_err-check_stream.ensures.reads.stays

pub returns-in_err-check_stream-clause-untold : goal.returns-in_err-check_stream-clause-untold
returns-in_err-check_stream-clause-untold g c from there state layout unlinked number object was t =
    carried c.check_stream.result c.from_residual.result c.in_err-check_stream.field-0.0 (λ _. (g.F.Folder.told c.args.folder.now).files ≡ None) c.in_err-check_stream.was c.from_residual.ensures.1
    (c.check_stream.ensures.untold (λ image is. (c.requires.is_open image is).agrees)
    (λ image is. subst (HasStreamThere c.args.entry c.args.stream) (some_inj (sym there ∙ is))
    (stream-there c.args.files.now c.args.entry c.args.stream c.args.offset c.args.cut c.args.bytes.now from c.requires.stream (c.requires.is_open from there).agrees (g.met.F.Folder.are_bytes c.args.folder.now from there) state layout unlinked number object was t)))

pub write-requires-clause-agrees : goal.write-requires-clause-agrees
write-requires-clause-agrees g c = subst (λ (t : Told). ForSome t.files (Agrees c.args.files.now)) (sym c.in_ok-check_stream.ensures.reads.stays) (λ image is. (c.requires.is_open image is).agrees)

pub returns-in_err-write-clause-stops : goal.returns-in_err-write-clause-stops
returns-in_err-write-clause-stops g c =
    object-finds (g.F.Folder.told c.args.folder.now) (g.F.Folder.told c.write.new.f) c.args.files.now c.write.new.files c.args.entry c.args.stream c.args.offset c.args.cut c.args.bytes.now c.requires.stream c.requires.stands (g.met.F.Folder.are_bytes c.args.folder.now) c.requires.is_open
    (subst (λ (t : Told). ForSome t.files (λ from. CanBeWritten c.args.files.now c.args.entry c.args.stream (size_after c.args.cut (size_word from c.args.entry c.args.stream) c.args.offset (length c.args.bytes.now)) from
    → Passes t (g.F.Folder.told c.write.new.f) (WritesByStage c.args.files.now c.write.new.files c.args.entry c.args.stream (size_after c.args.cut (size_word from c.args.entry c.args.stream) c.args.offset (length c.args.bytes.now)) c.args.offset c.args.bytes.now from)))
    c.in_ok-check_stream.ensures.reads.stays c.write.ensures.stages)

pub returns-in_err-write-clause-untold : goal.returns-in_err-write-clause-untold
returns-in_err-write-clause-untold g c from there state layout unlinked number object was t =
    carried c.write.result c.from_residual-in_err-write.result c.in_err-write.field-0.0 (λ _. (g.F.Folder.told c.args.folder.now).files ≡ None) c.in_err-write.was c.from_residual-in_err-write.ensures.1
    (object-untold (g.F.Folder.told c.args.folder.now) (g.F.Folder.told c.write.new.f) c.args.files.now c.write.new.files c.args.entry c.args.stream c.args.offset c.args.cut c.args.bytes.now c.requires.stream c.requires.stands (g.met.F.Folder.are_bytes c.args.folder.now) c.requires.is_open c.write.result
    (subst (λ (t : Told). ForSome t.files (λ from. CanBeWritten c.args.files.now c.args.entry c.args.stream (size_after c.args.cut (size_word from c.args.entry c.args.stream) c.args.offset (length c.args.bytes.now)) from) → IfDamaged c.write.result (λ _. t.files ≡ None))
    c.in_ok-check_stream.ensures.reads.stays c.write.ensures.untold)
    from there state layout unlinked number object was t)

-- what the write left
written-there : (g : Over) (c : goal.After-check_index g) → ForSome (g.F.Folder.told c.args.folder.now).files (λ from. ForEachUnsettled c.args.entry c.args.stream c.args.offset c.args.cut c.args.bytes.now from (λ state layout unlinked number object was. ForSome (g.F.Folder.told c.write.new.f).files (IsWrittenUncounted state layout unlinked number object was c.args.stream c.args.offset c.args.cut c.args.bytes.now from)))
written-there g c =
    object-written (g.F.Folder.told c.args.folder.now) (g.F.Folder.told c.write.new.f) c.args.files.now c.write.new.files c.args.entry c.args.stream c.args.offset c.args.cut c.args.bytes.now c.requires.stream c.requires.stands (g.met.F.Folder.are_bytes c.args.folder.now) c.requires.is_open
    (subst (λ (t : Told). ForSome t.files (λ from. CanBeWritten c.args.files.now c.args.entry c.args.stream (size_after c.args.cut (size_word from c.args.entry c.args.stream) c.args.offset (length c.args.bytes.now)) from
    → ForSome (g.F.Folder.told c.write.new.f).files (IsWrittenByStage c.args.files.now c.write.new.files c.args.entry c.args.stream (size_after c.args.cut (size_word from c.args.entry c.args.stream) c.args.offset (length c.args.bytes.now)) c.args.offset c.args.bytes.now from)))
    c.in_ok-check_stream.ensures.reads.stays c.in_ok-write.ensures.staged)
    (subst (λ (t : Told). ForSome t.files (λ from. CanBeWritten c.args.files.now c.args.entry c.args.stream (size_after c.args.cut (size_word from c.args.entry c.args.stream) c.args.offset (length c.args.bytes.now)) from
    → ForSome (g.F.Folder.told c.write.new.f).files (StreamIsWritten c.args.files.now c.write.new.files c.args.entry c.args.stream c.args.offset c.args.cut c.args.bytes.now from)))
    c.in_ok-check_stream.ensures.reads.stays c.in_ok-write.ensures.written)
    (subst (λ (t : Told). ForSome t.files (λ from. CanBeWritten c.args.files.now c.args.entry c.args.stream (size_after c.args.cut (size_word from c.args.entry c.args.stream) c.args.offset (length c.args.bytes.now)) from
    → ForSome (g.F.Folder.told c.write.new.f).files (KeepsSeal c.args.entry from)))
    c.in_ok-check_stream.ensures.reads.stays c.in_ok-write.ensures.sealed)
    c.in_ok-write.ensures.agrees

stops-there : (g : Over) (c : goal.After-check_index g) → ForSome (g.F.Folder.told c.args.folder.now).files (λ from. ForEachUnsettled c.args.entry c.args.stream c.args.offset c.args.cut c.args.bytes.now from (λ state layout unlinked number object was. Passes (g.F.Folder.told c.args.folder.now) (g.F.Folder.told c.write.new.f) (Finds (rest state))))
stops-there g c =
    object-finds (g.F.Folder.told c.args.folder.now) (g.F.Folder.told c.write.new.f) c.args.files.now c.write.new.files c.args.entry c.args.stream c.args.offset c.args.cut c.args.bytes.now c.requires.stream c.requires.stands (g.met.F.Folder.are_bytes c.args.folder.now) c.requires.is_open
    (subst (λ (t : Told). ForSome t.files (λ from. CanBeWritten c.args.files.now c.args.entry c.args.stream (size_after c.args.cut (size_word from c.args.entry c.args.stream) c.args.offset (length c.args.bytes.now)) from
    → Passes t (g.F.Folder.told c.write.new.f) (WritesByStage c.args.files.now c.write.new.files c.args.entry c.args.stream (size_after c.args.cut (size_word from c.args.entry c.args.stream) c.args.offset (length c.args.bytes.now)) c.args.offset c.args.bytes.now from)))
    c.in_ok-check_stream.ensures.reads.stays c.write.ensures.stages)

pub returns-clause-written : goal.returns-clause-written
returns-clause-written g c = on_ok_weaker c.check_index.result
    (λ _. subst (λ (t : Told). ForSome (g.F.Folder.told c.args.folder.now).files (λ from. ForEachUnsettled c.args.entry c.args.stream c.args.offset c.args.cut c.args.bytes.now from (λ state layout unlinked number object was. ForSome t.files (IsWrittenUncounted state layout unlinked number object was c.args.stream c.args.offset c.args.cut c.args.bytes.now from))))
    (sym c.check_index.ensures.reads.stays) (written-there g c))
    c.check_index.ensures.whole

pub returns-clause-stops : goal.returns-clause-stops
returns-clause-stops g c from there state layout unlinked number object was t = then-stays (g.F.Folder.told c.args.folder.now) (g.F.Folder.told c.write.new.f) (g.F.Folder.told c.check_index.new.folder) c.check_index.ensures.reads.stays (stops-there g c from there state layout unlinked number object was t)

pub returns-clause-is_open : goal.returns-clause-is_open
returns-clause-is_open g c = on_ok_weaker c.check_index.result
    (λ whole image there. record {
      agrees = subst (λ (t : Told). ForSome t.files (Agrees c.write.new.files)) (sym c.check_index.ensures.reads.stays) c.in_ok-write.ensures.agrees image there;
      whole_index = subst (λ (t : Told). ForSome t.files HasWholeIndex) (sym c.check_index.ensures.reads.stays) whole image there;
    })
    c.check_index.ensures.whole

pub returns-clause-untold : goal.returns-clause-untold
returns-clause-untold g c =
    index-untold (g.F.Folder.told c.args.folder.now) (g.F.Folder.told c.write.new.f) c.args.files.now c.write.new.files c.args.entry c.args.stream c.args.offset c.args.cut c.args.bytes.now c.requires.stream c.requires.stands (g.met.F.Folder.are_bytes c.args.folder.now) c.requires.is_open c.check_index.result
    (stops-there g c) (written-there g c) c.check_index.ensures.untold

-- Of a part.

pub returns-in_err-check_stream-clause-part_stops : goal.returns-in_err-check_stream-clause-part_stops
returns-in_err-check_stream-clause-part_stops g c = no-part-written (g.F.Folder.told c.args.folder.now) (g.F.Folder.told c.check_stream.new.folder) c.args.entry c.args.stream c.args.offset c.args.cut c.args.bytes.now c.in_err-check_stream.ensures.reads.stays

pub returns-in_err-check_stream-clause-part_untold : goal.returns-in_err-check_stream-clause-part_untold
returns-in_err-check_stream-clause-part_untold g c from there state layout unlinked number object n value was role t =
    carried c.check_stream.result c.from_residual.result c.in_err-check_stream.field-0.0 (λ _. (g.F.Folder.told c.args.folder.now).files ≡ None) c.in_err-check_stream.was c.from_residual.ensures.1
    (c.check_stream.ensures.untold (λ image is. (c.requires.is_open image is).agrees)
    (λ image is. subst (HasStreamThere c.args.entry c.args.stream) (some_inj (sym there ∙ is))
    (part-stream-there c.args.files.now c.args.entry c.args.stream c.args.offset c.args.cut c.args.bytes.now from c.requires.stream (c.requires.is_open from there).agrees (g.met.F.Folder.are_bytes c.args.folder.now from there) state layout unlinked number object n value was role t)))

pub returns-in_err-write-clause-part_stops : goal.returns-in_err-write-clause-part_stops
returns-in_err-write-clause-part_stops g c =
    part-finds (g.F.Folder.told c.args.folder.now) (g.F.Folder.told c.write.new.f) c.args.files.now c.write.new.files c.args.entry c.args.stream c.args.offset c.args.cut c.args.bytes.now c.requires.stream c.requires.stands (g.met.F.Folder.are_bytes c.args.folder.now) c.requires.is_open
    (subst (λ (t : Told). ForSome t.files (λ from. CanBeWritten c.args.files.now c.args.entry c.args.stream (size_after c.args.cut (size_word from c.args.entry c.args.stream) c.args.offset (length c.args.bytes.now)) from
    → Passes t (g.F.Folder.told c.write.new.f) (WritesByStage c.args.files.now c.write.new.files c.args.entry c.args.stream (size_after c.args.cut (size_word from c.args.entry c.args.stream) c.args.offset (length c.args.bytes.now)) c.args.offset c.args.bytes.now from)))
    c.in_ok-check_stream.ensures.reads.stays c.write.ensures.stages)

pub returns-in_err-write-clause-part_untold : goal.returns-in_err-write-clause-part_untold
returns-in_err-write-clause-part_untold g c from there state layout unlinked number object n value was role t =
    carried c.write.result c.from_residual-in_err-write.result c.in_err-write.field-0.0 (λ _. (g.F.Folder.told c.args.folder.now).files ≡ None) c.in_err-write.was c.from_residual-in_err-write.ensures.1
    (part-untold (g.F.Folder.told c.args.folder.now) (g.F.Folder.told c.write.new.f) c.args.files.now c.write.new.files c.args.entry c.args.stream c.args.offset c.args.cut c.args.bytes.now c.requires.stream c.requires.stands (g.met.F.Folder.are_bytes c.args.folder.now) c.requires.is_open c.write.result
    (subst (λ (t : Told). ForSome t.files (λ from. CanBeWritten c.args.files.now c.args.entry c.args.stream (size_after c.args.cut (size_word from c.args.entry c.args.stream) c.args.offset (length c.args.bytes.now)) from) → IfDamaged c.write.result (λ _. t.files ≡ None))
    c.in_ok-check_stream.ensures.reads.stays c.write.ensures.untold)
    from there state layout unlinked number object n value was role t)

-- what the write left
part-written-there : (g : Over) (c : goal.After-check_index g) → ForSome (g.F.Folder.told c.args.folder.now).files (λ from. ForEachPartUnsettled c.args.entry c.args.stream c.args.offset c.args.cut c.args.bytes.now from (λ state layout unlinked number object n value was role. ForSome (g.F.Folder.told c.write.new.f).files (IsPartWrittenUncounted state layout unlinked number object n value was role c.args.stream c.args.offset c.args.cut c.args.bytes.now from)))
part-written-there g c =
    part-written (g.F.Folder.told c.args.folder.now) (g.F.Folder.told c.write.new.f) c.args.files.now c.write.new.files c.args.entry c.args.stream c.args.offset c.args.cut c.args.bytes.now c.requires.stream c.requires.stands (g.met.F.Folder.are_bytes c.args.folder.now) c.requires.is_open
    (subst (λ (t : Told). ForSome t.files (λ from. CanBeWritten c.args.files.now c.args.entry c.args.stream (size_after c.args.cut (size_word from c.args.entry c.args.stream) c.args.offset (length c.args.bytes.now)) from
    → ForSome (g.F.Folder.told c.write.new.f).files (IsWrittenByStage c.args.files.now c.write.new.files c.args.entry c.args.stream (size_after c.args.cut (size_word from c.args.entry c.args.stream) c.args.offset (length c.args.bytes.now)) c.args.offset c.args.bytes.now from)))
    c.in_ok-check_stream.ensures.reads.stays c.in_ok-write.ensures.staged)
    (subst (λ (t : Told). ForSome t.files (λ from. CanBeWritten c.args.files.now c.args.entry c.args.stream (size_after c.args.cut (size_word from c.args.entry c.args.stream) c.args.offset (length c.args.bytes.now)) from
    → ForSome (g.F.Folder.told c.write.new.f).files (StreamIsWritten c.args.files.now c.write.new.files c.args.entry c.args.stream c.args.offset c.args.cut c.args.bytes.now from)))
    c.in_ok-check_stream.ensures.reads.stays c.in_ok-write.ensures.written)
    (subst (λ (t : Told). ForSome t.files (λ from. CanBeWritten c.args.files.now c.args.entry c.args.stream (size_after c.args.cut (size_word from c.args.entry c.args.stream) c.args.offset (length c.args.bytes.now)) from
    → ForSome (g.F.Folder.told c.write.new.f).files (KeepsSeal c.args.entry from)))
    c.in_ok-check_stream.ensures.reads.stays c.in_ok-write.ensures.sealed)
    c.in_ok-write.ensures.agrees

part-stops-there : (g : Over) (c : goal.After-check_index g) → ForSome (g.F.Folder.told c.args.folder.now).files (λ from. ForEachPartUnsettled c.args.entry c.args.stream c.args.offset c.args.cut c.args.bytes.now from (λ state layout unlinked number object n value was role. Passes (g.F.Folder.told c.args.folder.now) (g.F.Folder.told c.write.new.f) (Finds (rest state))))
part-stops-there g c =
    part-finds (g.F.Folder.told c.args.folder.now) (g.F.Folder.told c.write.new.f) c.args.files.now c.write.new.files c.args.entry c.args.stream c.args.offset c.args.cut c.args.bytes.now c.requires.stream c.requires.stands (g.met.F.Folder.are_bytes c.args.folder.now) c.requires.is_open
    (subst (λ (t : Told). ForSome t.files (λ from. CanBeWritten c.args.files.now c.args.entry c.args.stream (size_after c.args.cut (size_word from c.args.entry c.args.stream) c.args.offset (length c.args.bytes.now)) from
    → Passes t (g.F.Folder.told c.write.new.f) (WritesByStage c.args.files.now c.write.new.files c.args.entry c.args.stream (size_after c.args.cut (size_word from c.args.entry c.args.stream) c.args.offset (length c.args.bytes.now)) c.args.offset c.args.bytes.now from)))
    c.in_ok-check_stream.ensures.reads.stays c.write.ensures.stages)

pub returns-clause-part_written : goal.returns-clause-part_written
returns-clause-part_written g c = on_ok_weaker c.check_index.result
    (λ _. subst (λ (t : Told). ForSome (g.F.Folder.told c.args.folder.now).files (λ from. ForEachPartUnsettled c.args.entry c.args.stream c.args.offset c.args.cut c.args.bytes.now from (λ state layout unlinked number object n value was role. ForSome t.files (IsPartWrittenUncounted state layout unlinked number object n value was role c.args.stream c.args.offset c.args.cut c.args.bytes.now from))))
    (sym c.check_index.ensures.reads.stays) (part-written-there g c))
    c.check_index.ensures.whole

pub returns-clause-part_stops : goal.returns-clause-part_stops
returns-clause-part_stops g c from there state layout unlinked number object n value was role t = then-stays (g.F.Folder.told c.args.folder.now) (g.F.Folder.told c.write.new.f) (g.F.Folder.told c.check_index.new.folder) c.check_index.ensures.reads.stays (part-stops-there g c from there state layout unlinked number object n value was role t)

pub returns-clause-part_untold : goal.returns-clause-part_untold
returns-clause-part_untold g c =
    part-index-untold (g.F.Folder.told c.args.folder.now) (g.F.Folder.told c.write.new.f) c.args.files.now c.write.new.files c.args.entry c.args.stream c.args.offset c.args.cut c.args.bytes.now c.requires.stream c.requires.stands (g.met.F.Folder.are_bytes c.args.folder.now) c.requires.is_open c.check_index.result
    (part-stops-there g c) (part-written-there g c) c.check_index.ensures.untold

-- Why it isn't written.

pub returns-in_err-write-clause-damaged : goal.returns-in_err-write-clause-damaged
returns-in_err-write-clause-damaged g c =
    handed c.write.result c.from_residual-in_err-write.result c.in_err-write.field-0.0 _ c.write.new.files (g.F.Folder.told c.write.new.f)
    (λ damage why. write-checked c.args.files.now c.write.new.files c.args.entry c.args.stream (g.F.Folder.told c.check_stream.new.folder) (g.F.Folder.told c.write.new.f) damage c.requires.kind (c.write.ensures.keeps c.args.entry c.requires.stands) c.write.ensures.keeps why)
    c.in_err-write.was c.from_residual-in_err-write.ensures.1 c.write.ensures.damaged

pub returns-clause-damaged : goal.returns-clause-damaged
returns-clause-damaged g c = if_damaged_weaker c.check_index.result _ _ (λ damage other. FailsLength other) c.check_index.ensures.damaged
