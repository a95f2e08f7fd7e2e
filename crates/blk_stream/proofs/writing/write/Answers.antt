use Rattle.std.proofs.Common.{◌≡◌, ◌⊎◌, ℕ, inl, Some, None, refl, sym, ◌∙◌, ap, subst}
use Rattle.std.specs.Prelude.{length, unwrap_or}
use Rattle.std.specs.Option.{ForSome}
use Rattle.std.proofs.lemmas.Result.{on_ok_weaker}
use Rattle.spec_image.specs.Image.{Image}
use Rattle.spec_image.specs.Told.{Told, Passes}
use Rattle.spec_image.proofs.Runs.{passes_none, passes_stayed, some_inj}
use Rattle.spec_format.specs.Address.{file_selector, place}
use Rattle.spec_format.proofs.SealedRecords.{entry_bytes}
use Rattle.blk_io.specs.declared.folder.FileId.TheVariants as FileId
use Rattle.blk_io.specs.Faults.{IsShort}
use Rattle.blk_io.proofs.Carried.{carried, if_damaged_weaker, untold_where}
use Rattle.blk_disk.specs.Tables.{Agrees}
use Rattle.blk_disk.specs.Unsealed.{IsUnsealed}
use Rattle.blk_entry.specs.Keys.{IsInFile}
use Rattle.blk_entry.proofs.KeyPlaces.{damaged_any}
use Rattle.blk_stream.specs.Streams.{address_word, may_keep, size_word}
use Rattle.blk_stream.specs.Changing.{HasWords, IsStreamRead}
use Rattle.blk_stream.specs.Writing as writes
use Rattle.blk_stream.specs.Written.{CanBeWritten, IsWriteDamage, WritesStream}
use Rattle.blk_stream.proofs.PlacesLeft.{read_size, read_word}
use Rattle.blk_stream.specs.Stages.{IsWrittenByStage, WritesByStage}
use Rattle.blk_stream.proofs.StoredStages.{begun_stages}
use Rattle.blk_stream.proofs.StreamInside.{begun_writes, read_words}
use Rattle.blk_stream.proofs.StreamPlaces.{clash, stream_facts}
use Rattle.blk_stream.proofs.writing.write.Given as given
use Rattle.blk_stream.proofs.writing.write.Goals as goal

pub read_record-requires-clause-size : goal.read_record-requires-clause-size
read_record-requires-clause-size g c = sym (entry_bytes c.args.entry c.requires.kind)

pub returns-in_err-read_record-clause-stops : goal.returns-in_err-read_record-clause-stops
returns-in_err-read_record-clause-stops g c from there can =
    passes_none (WritesStream c.args.files.now c.args.entry c.args.stream (writes.size_after c.args.cut (size_word from c.args.entry c.args.stream) c.args.offset (length c.args.bytes.now)) c.args.offset c.args.cut c.args.bytes.now from) c.in_err-read_record.ensures.reads.stays
    (λ image now. subst (WritesStream c.args.files.now c.args.entry c.args.stream (writes.size_after c.args.cut (size_word from c.args.entry c.args.stream) c.args.offset (length c.args.bytes.now)) c.args.offset c.args.cut c.args.bytes.now from) (some_inj (sym there ∙ now)) (begun_writes c.args.files.now c.args.entry c.args.stream (writes.size_after c.args.cut (size_word from c.args.entry c.args.stream) c.args.offset (length c.args.bytes.now)) c.args.offset c.args.cut c.args.bytes.now from can.checks))

pub returns-in_err-read_record-clause-damaged : goal.returns-in_err-read_record-clause-damaged
returns-in_err-read_record-clause-damaged g c =
    carried c.read_record.result c.from_residual.result c.in_err-read_record.field-0.0 (IsWriteDamage c.args.files.now c.args.files.now (g.F.Folder.told c.args.f.now) (g.F.Folder.told c.read_record.new.folder) c.args.entry c.args.stream) c.in_err-read_record.was c.from_residual.ensures.1
    (if_damaged_weaker c.read_record.result _ _
    (λ damage d. inl (c.in_err-read_record.ensures.reads.stays, (refl, inl (subst (λ (n : ℕ). IsShort (g.F.Folder.told c.args.f.now) (FileId.Block (file_selector c.args.entry)) (place c.args.entry) n damage ⊎ IsUnsealed (g.F.Folder.told c.args.f.now) c.args.entry damage) (entry_bytes c.args.entry c.requires.kind) d))))
    c.read_record.ensures.damaged)

pub returns-in_err-old-clause-stops : goal.returns-in_err-old-clause-stops
returns-in_err-old-clause-stops g c from there can =
    passes_none (WritesStream c.args.files.now c.args.entry c.args.stream (writes.size_after c.args.cut (size_word from c.args.entry c.args.stream) c.args.offset (length c.args.bytes.now)) c.args.offset c.args.cut c.args.bytes.now from) c.in_ok-read_record.ensures.reads.stays
    (λ image now. subst (WritesStream c.args.files.now c.args.entry c.args.stream (writes.size_after c.args.cut (size_word from c.args.entry c.args.stream) c.args.offset (length c.args.bytes.now)) c.args.offset c.args.cut c.args.bytes.now from) (some_inj (sym there ∙ now)) (begun_writes c.args.files.now c.args.entry c.args.stream (writes.size_after c.args.cut (size_word from c.args.entry c.args.stream) c.args.offset (length c.args.bytes.now)) c.args.offset c.args.cut c.args.bytes.now from can.checks))

pub returns-in_err-old-clause-untold : goal.returns-in_err-old-clause-untold
returns-in_err-old-clause-untold g c can =
    damaged_any c.from_residual-in_err-old.result ((g.F.Folder.told c.args.f.now).files ≡ None)
    (untold_where (g.F.Folder.told c.args.f.now).files
    (λ image there.
    let known = stream_facts c.args.files.now image c.args.entry c.args.stream (can image there).has.streams (c.requires.agrees image there) c.requires.stream (can image there).has.is in
    let size = read_size image c.args.entry c.args.stream c.read_record.new.bytes c.requires.kind c.requires.stream (c.in_ok-read_record.ensures.bytes image there) in
    let word = read_word image c.args.entry c.args.stream c.read_record.new.bytes c.requires.kind c.requires.stream (c.in_ok-read_record.ensures.bytes image there) in
    clash (c.in_err-old.ensures.right ((λ j. may_keep c.args.files.now (size j) (word j)) ∙ known.keep))))

pub write_stored-requires-clause-agrees : goal.write_stored-requires-clause-agrees
write_stored-requires-clause-agrees g c = subst (λ (t : Told). ForSome t.files (Agrees c.args.files.now)) (sym c.in_ok-read_record.ensures.reads.stays) c.requires.agrees

words : (g : given.Over) (c : goal.After-record_bytes-4-1 g) → ForSome (g.F.Folder.told c.read_record.new.folder).files (HasWords c.args.entry c.args.stream c.in_ok-old.old.size (unwrap_or c.in_ok-old.old.addr 0))
words g c image now =
    let there : (g.F.Folder.told c.args.f.now).files ≡ Some image = ap (λ (t : Told). t.files) (sym c.in_ok-read_record.ensures.reads.stays) ∙ now in
    read_words image c.args.entry c.args.stream c.read_record.new.bytes c.in_ok-old.old c.requires.kind c.requires.stream (c.in_ok-read_record.ensures.bytes image there) c.in_ok-old.ensures.stored

pub write_stored-requires-clause-there : goal.write_stored-requires-clause-there
write_stored-requires-clause-there g c image now =
    let there : (g.F.Folder.told c.args.f.now).files ≡ Some image = ap (λ (t : Told). t.files) (sym c.in_ok-read_record.ensures.reads.stays) ∙ now in
    let has = words g c image now in
    subst (λ (v : ℕ). IsInFile v 0 c.in_ok-old.old.size image) has.word_is (subst (λ (n : ℕ). IsInFile (address_word image c.args.entry c.args.stream) 0 n image) has.size_is (c.requires.there image there))

pub returns-clause-placed : goal.returns-clause-placed
returns-clause-placed g c =
    on_ok_weaker c.write_stored.result
    (λ done image there.
    let size = read_size image c.args.entry c.args.stream c.read_record.new.bytes c.requires.kind c.requires.stream (c.in_ok-read_record.ensures.bytes image there) in
    let word = read_word image c.args.entry c.args.stream c.read_record.new.bytes c.requires.kind c.requires.stream (c.in_ok-read_record.ensures.bytes image there) in
    sym (λ j. may_keep c.args.files.now (size j) (word j)) ∙ c.in_ok-old.ensures.keeps)
    c.write_stored.ensures.written

-- the record and the words of the stream were read
stored_is : (g : given.Over) (c : goal.After-record_bytes-5-1 g) (from : Image) → (g.F.Folder.told c.args.f.now).files ≡ Some from → IsStreamRead c.read_record.new.bytes c.args.entry c.args.stream c.in_ok-old.old.size (unwrap_or c.in_ok-old.old.addr 0) from
stored_is g c from there = record {
  read = c.in_ok-read_record.ensures.bytes from there;
  words = read_words from c.args.entry c.args.stream c.read_record.new.bytes c.in_ok-old.old c.requires.kind c.requires.stream (c.in_ok-read_record.ensures.bytes from there) c.in_ok-old.ensures.stored;
}

size_read : (g : given.Over) (c : goal.After-record_bytes-5-1 g) (from : Image) → (g.F.Folder.told c.args.f.now).files ≡ Some from → size_word from c.args.entry c.args.stream ≡ c.in_ok-old.old.size
size_read g c from there = (stored_is g c from there).words.size_is

pub returns-clause-written : goal.returns-clause-written
returns-clause-written g c =
    on_ok_weaker c.write_stored.result
    (λ done from there can.
    done from (ap (λ (t : Told). t.files) c.in_ok-read_record.ensures.reads.stays ∙ there) (stored_is g c from there)
    (subst (λ (n : ℕ). CanBeWritten c.args.files.now c.args.entry c.args.stream (writes.size_after c.args.cut n c.args.offset (length c.args.bytes.now)) from) (size_read g c from there) can))
    c.write_stored.ensures.written

pub returns-clause-stops : goal.returns-clause-stops
returns-clause-stops g c from there can =
    let e = size_read g c from there in
    passes_stayed c.in_ok-read_record.ensures.reads.stays
    (subst (λ (n : ℕ). Passes (g.F.Folder.told c.read_record.new.folder) (g.F.Folder.told c.write_stored.new.folder) (WritesStream c.args.files.now c.args.entry c.args.stream (writes.size_after c.args.cut n c.args.offset (length c.args.bytes.now)) c.args.offset c.args.cut c.args.bytes.now from)) (sym e)
    (c.write_stored.ensures.stops from (ap (λ (t : Told). t.files) c.in_ok-read_record.ensures.reads.stays ∙ there) (stored_is g c from there)
    (subst (λ (n : ℕ). CanBeWritten c.args.files.now c.args.entry c.args.stream (writes.size_after c.args.cut n c.args.offset (length c.args.bytes.now)) from) e can)))

pub returns-clause-untold : goal.returns-clause-untold
returns-clause-untold g c can =
    if_damaged_weaker c.write_stored.result _ _ (λ damage none. ap (λ (t : Told). t.files) (sym c.in_ok-read_record.ensures.reads.stays) ∙ none)
    (c.write_stored.ensures.untold
    (λ from now.
    let there : (g.F.Folder.told c.args.f.now).files ≡ Some from = ap (λ (t : Told). t.files) (sym c.in_ok-read_record.ensures.reads.stays) ∙ now in
    (stored_is g c from there, subst (λ (n : ℕ). CanBeWritten c.args.files.now c.args.entry c.args.stream (writes.size_after c.args.cut n c.args.offset (length c.args.bytes.now)) from) (size_read g c from there) (can from there))))

-- By stages.

pub returns-in_err-read_record-clause-stages : goal.returns-in_err-read_record-clause-stages
returns-in_err-read_record-clause-stages g c from there can =
    passes_none (WritesByStage c.args.files.now c.args.files.now c.args.entry c.args.stream (writes.size_after c.args.cut (size_word from c.args.entry c.args.stream) c.args.offset (length c.args.bytes.now)) c.args.offset c.args.bytes.now from) c.in_err-read_record.ensures.reads.stays
    (λ image now. subst (WritesByStage c.args.files.now c.args.files.now c.args.entry c.args.stream (writes.size_after c.args.cut (size_word from c.args.entry c.args.stream) c.args.offset (length c.args.bytes.now)) c.args.offset c.args.bytes.now from) (some_inj (sym there ∙ now)) (begun_stages c.args.files.now c.args.files.now c.args.entry c.args.stream (writes.size_after c.args.cut (size_word from c.args.entry c.args.stream) c.args.offset (length c.args.bytes.now)) c.args.offset c.args.bytes.now from))

pub returns-in_err-old-clause-stages : goal.returns-in_err-old-clause-stages
returns-in_err-old-clause-stages g c from there can =
    passes_none (WritesByStage c.args.files.now c.args.files.now c.args.entry c.args.stream (writes.size_after c.args.cut (size_word from c.args.entry c.args.stream) c.args.offset (length c.args.bytes.now)) c.args.offset c.args.bytes.now from) c.in_ok-read_record.ensures.reads.stays
    (λ image now. subst (WritesByStage c.args.files.now c.args.files.now c.args.entry c.args.stream (writes.size_after c.args.cut (size_word from c.args.entry c.args.stream) c.args.offset (length c.args.bytes.now)) c.args.offset c.args.bytes.now from) (some_inj (sym there ∙ now)) (begun_stages c.args.files.now c.args.files.now c.args.entry c.args.stream (writes.size_after c.args.cut (size_word from c.args.entry c.args.stream) c.args.offset (length c.args.bytes.now)) c.args.offset c.args.bytes.now from))

pub returns-clause-staged : goal.returns-clause-staged
returns-clause-staged g c =
    on_ok_weaker c.write_stored.result
    (λ done from there can image now.
    let e = size_read g c from there in
    subst (λ (n : ℕ). IsWrittenByStage c.args.files.now c.write_stored.new.files c.args.entry c.args.stream (writes.size_after c.args.cut n c.args.offset (length c.args.bytes.now)) c.args.offset c.args.bytes.now from image) (sym e)
    (done from (ap (λ (t : Told). t.files) c.in_ok-read_record.ensures.reads.stays ∙ there) (stored_is g c from there)
    (subst (λ (n : ℕ). CanBeWritten c.args.files.now c.args.entry c.args.stream (writes.size_after c.args.cut n c.args.offset (length c.args.bytes.now)) from) e can) image now))
    c.write_stored.ensures.staged

pub returns-clause-stages : goal.returns-clause-stages
returns-clause-stages g c from there can =
    let e = size_read g c from there in
    passes_stayed c.in_ok-read_record.ensures.reads.stays
    (subst (λ (n : ℕ). Passes (g.F.Folder.told c.read_record.new.folder) (g.F.Folder.told c.write_stored.new.folder) (WritesByStage c.args.files.now c.write_stored.new.files c.args.entry c.args.stream (writes.size_after c.args.cut n c.args.offset (length c.args.bytes.now)) c.args.offset c.args.bytes.now from)) (sym e)
    (c.write_stored.ensures.stages from (ap (λ (t : Told). t.files) c.in_ok-read_record.ensures.reads.stays ∙ there) (stored_is g c from there)
    (subst (λ (n : ℕ). CanBeWritten c.args.files.now c.args.entry c.args.stream (writes.size_after c.args.cut n c.args.offset (length c.args.bytes.now)) from) e can)))

pub returns-clause-sealed : goal.returns-clause-sealed
returns-clause-sealed g c =
    on_ok_weaker c.write_stored.result
    (λ sealed from there can.
    sealed from (ap (λ (t : Told). t.files) c.in_ok-read_record.ensures.reads.stays ∙ there) (stored_is g c from there)
    (subst (λ (n : ℕ). CanBeWritten c.args.files.now c.args.entry c.args.stream (writes.size_after c.args.cut n c.args.offset (length c.args.bytes.now)) from) (size_read g c from there) can))
    c.write_stored.ensures.sealed
