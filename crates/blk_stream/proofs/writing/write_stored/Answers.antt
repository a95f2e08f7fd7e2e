use Rattle.std.proofs.Common.{◌≡◌, inl, ◌+◌, ◌≤◌, ℕ, Option, true, refl, sym, ◌∙◌, ap, subst, arith}
use Rattle.std.specs.Prelude.{length, unwrap_or}
use Rattle.std.proofs.lemmas.Result.{on_ok_weaker}
use Rattle.spec_image.specs.Told.{Passes}
use Rattle.spec_image.proofs.Runs.{passes_none, some_inj}
use Rattle.spec_format.specs.Sealed.{RecordChecks, record_at}
use Rattle.spec_folder.specs.Entries.{most_stream_bytes}
use Rattle.blk_stream.specs.Streams.{may_keep}
use Rattle.blk_stream.specs.Changing.{HasWords}
use Rattle.blk_stream.specs.Writing as writes
use Rattle.blk_stream.specs.Written.{CanBeWritten, StreamIsWritten, WritesStream}
use Rattle.blk_stream.specs.Stages.{IsWrittenByStage, KeepsSeal, WritesByStage}
use Rattle.blk_stream.proofs.StoredStages.{inside_by_stage, inside_staged, nothing_in_place}
use Rattle.blk_stream.proofs.Joined.{told_is}
use Rattle.blk_stream.proofs.StreamInside.{inside_apart, inside_end, inside_told, nothing_writes, nothing_written, one_none, size_few, size_most, storage_stays}
use Rattle.blk_stream.proofs.StreamPlaces.{keeps_inside, may_parts}
use Rattle.blk_stream.proofs.writing.write_stored.Goals as goal

pub write_moved-requires-clause-old : goal.write_moved-requires-clause-old
write_moved-requires-clause-old g c = record {
  none = c.requires.none;
  inside = λ w is. keeps_inside c.args.files.now c.args.old.size w 0 c.args.old.size (subst (λ (v : ℕ). may_keep c.args.files.now c.args.old.size v ≡ true) (ap (λ (o : Option ℕ). unwrap_or o 0) is) c.requires.place) (omega arith);
}

pub write_moved-requires-clause-size : goal.write_moved-requires-clause-size
write_moved-requires-clause-size g c =
    subst (λ (n : ℕ). n ≤ most_stream_bytes) (sym c.size_after-size.ensures) (size_most c.args.write.cut c.args.old.size c.args.write.offset (length c.args.write.bytes.now) most_stream_bytes (may_parts c.args.files.now c.args.old.size (unwrap_or c.args.old.addr 0) c.requires.place).0 c.requires.most)

pub write_moved-requires-clause-few : goal.write_moved-requires-clause-few
write_moved-requires-clause-few g c = subst (λ (n : ℕ). c.args.write.offset + length c.args.write.bytes.now ≤ n) (sym c.size_after-size.ensures) (size_few c.args.write.cut c.args.old.size c.args.write.offset (length c.args.write.bytes.now))

pub returns-then-not-have_one_storage-clause-untold : goal.returns-then-not-have_one_storage-clause-untold
returns-then-not-have_one_storage-clause-untold g c can =
    c.write_moved.ensures.untold (λ from there. ((can from there).0, subst (λ (n : ℕ). CanBeWritten c.args.files.now c.args.write.entry c.args.write.stream n from) (sym c.size_after-size.ensures) (can from there).1))

pub write_inside-requires-clause-inside : goal.write_inside-requires-clause-inside
write_inside-requires-clause-inside g c = keeps_inside c.args.files.now c.size_after-size.result c.in-Some.addr 0 c.size_after-size.result (storage_stays c.args.files.now c.args.old.size c.size_after-size.result c.in-Some.addr (c.requires.some c.in-Some.addr c.in-Some.is) (subst (λ (v : ℕ). may_keep c.args.files.now c.args.old.size v ≡ true) (ap (λ (o : Option ℕ). unwrap_or o 0) c.in-Some.is) c.requires.place) (sym c.have_one_storage.ensures ∙ c.if-not-have_one_storage.false) (subst (λ (n : ℕ). n ≤ most_stream_bytes) (sym c.size_after-size.ensures) (size_most c.args.write.cut c.args.old.size c.args.write.offset (length c.args.write.bytes.now) most_stream_bytes (may_parts c.args.files.now c.args.old.size (unwrap_or c.args.old.addr 0) c.requires.place).0 c.requires.most))) (omega arith)

pub write_inside-requires-clause-few : goal.write_inside-requires-clause-few
write_inside-requires-clause-few g c = subst (λ (n : ℕ). c.args.write.offset + length c.args.write.bytes.now ≤ n) (sym c.size_after-size.ensures) (size_few c.args.write.cut c.args.old.size c.args.write.offset (length c.args.write.bytes.now))

pub returns-in_err-write_inside-in-Some-clause-stops : goal.returns-in_err-write_inside-in-Some-clause-stops
returns-in_err-write_inside-in-Some-clause-stops g c from there stored can = inside_told c.args.files.now c.args.write.entry c.args.write.stream c.size_after-size.result c.in-Some.addr c.args.old c.args.write.offset c.args.write.cut c.args.write.bytes.now c.requires.kind c.requires.stands c.requires.stream (c.requires.some c.in-Some.addr c.in-Some.is) (subst (λ (v : ℕ). may_keep c.args.files.now c.args.old.size v ≡ true) (ap (λ (o : Option ℕ). unwrap_or o 0) c.in-Some.is) c.requires.place) (storage_stays c.args.files.now c.args.old.size c.size_after-size.result c.in-Some.addr (c.requires.some c.in-Some.addr c.in-Some.is) (subst (λ (v : ℕ). may_keep c.args.files.now c.args.old.size v ≡ true) (ap (λ (o : Option ℕ). unwrap_or o 0) c.in-Some.is) c.requires.place) (sym c.have_one_storage.ensures ∙ c.if-not-have_one_storage.false) (subst (λ (n : ℕ). n ≤ most_stream_bytes) (sym c.size_after-size.ensures) (size_most c.args.write.cut c.args.old.size c.args.write.offset (length c.args.write.bytes.now) most_stream_bytes (may_parts c.args.files.now c.args.old.size (unwrap_or c.args.old.addr 0) c.requires.place).0 c.requires.most))) c.in-Some.is c.size_after-size.ensures (g.F.Folder.told c.args.folder.now) c.requires.agrees (told_is (HasWords c.args.write.entry c.args.write.stream c.args.old.size (unwrap_or c.args.old.addr 0)) from there stored.words) (g.F.Folder.told c.write_inside.new.folder) (λ x at. c.in_err-write_inside-in-Some.ensures.stops x at (told_is (λ image. c.args.record_bytes.now ≡ record_at image c.args.write.entry) from there stored.read x at) (told_is (RecordChecks c.args.write.entry) from there can.checks x at)) from there can

pub returns-in_ok-write_inside-in-Some-clause-written : goal.returns-in_ok-write_inside-in-Some-clause-written
returns-in_ok-write_inside-in-Some-clause-written g c from there stored can = inside_end c.args.files.now c.args.write.entry c.args.write.stream c.size_after-size.result c.in-Some.addr c.args.old c.args.write.offset c.args.write.cut c.args.write.bytes.now c.requires.kind c.requires.stands c.requires.stream (c.requires.some c.in-Some.addr c.in-Some.is) (subst (λ (v : ℕ). may_keep c.args.files.now c.args.old.size v ≡ true) (ap (λ (o : Option ℕ). unwrap_or o 0) c.in-Some.is) c.requires.place) (storage_stays c.args.files.now c.args.old.size c.size_after-size.result c.in-Some.addr (c.requires.some c.in-Some.addr c.in-Some.is) (subst (λ (v : ℕ). may_keep c.args.files.now c.args.old.size v ≡ true) (ap (λ (o : Option ℕ). unwrap_or o 0) c.in-Some.is) c.requires.place) (sym c.have_one_storage.ensures ∙ c.if-not-have_one_storage.false) (subst (λ (n : ℕ). n ≤ most_stream_bytes) (sym c.size_after-size.ensures) (size_most c.args.write.cut c.args.old.size c.args.write.offset (length c.args.write.bytes.now) most_stream_bytes (may_parts c.args.files.now c.args.old.size (unwrap_or c.args.old.addr 0) c.requires.place).0 c.requires.most))) c.in-Some.is c.size_after-size.ensures (g.F.Folder.told c.args.folder.now) c.requires.agrees (told_is (HasWords c.args.write.entry c.args.write.stream c.args.old.size (unwrap_or c.args.old.addr 0)) from there stored.words) (g.F.Folder.told c.write_inside.new.folder) (λ x at. c.in_ok-write_inside-in-Some.ensures.stops x at (told_is (λ image. c.args.record_bytes.now ≡ record_at image c.args.write.entry) from there stored.read x at) (told_is (RecordChecks c.args.write.entry) from there can.checks x at)) (λ x at. c.in_ok-write_inside-in-Some.ensures.written x at (told_is (λ image. c.args.record_bytes.now ≡ record_at image c.args.write.entry) from there stored.read x at) (told_is (RecordChecks c.args.write.entry) from there can.checks x at)) from there can

pub returns-in_ok-write_inside-in-Some-clause-stops : goal.returns-in_ok-write_inside-in-Some-clause-stops
returns-in_ok-write_inside-in-Some-clause-stops g c from there stored can = inside_told c.args.files.now c.args.write.entry c.args.write.stream c.size_after-size.result c.in-Some.addr c.args.old c.args.write.offset c.args.write.cut c.args.write.bytes.now c.requires.kind c.requires.stands c.requires.stream (c.requires.some c.in-Some.addr c.in-Some.is) (subst (λ (v : ℕ). may_keep c.args.files.now c.args.old.size v ≡ true) (ap (λ (o : Option ℕ). unwrap_or o 0) c.in-Some.is) c.requires.place) (storage_stays c.args.files.now c.args.old.size c.size_after-size.result c.in-Some.addr (c.requires.some c.in-Some.addr c.in-Some.is) (subst (λ (v : ℕ). may_keep c.args.files.now c.args.old.size v ≡ true) (ap (λ (o : Option ℕ). unwrap_or o 0) c.in-Some.is) c.requires.place) (sym c.have_one_storage.ensures ∙ c.if-not-have_one_storage.false) (subst (λ (n : ℕ). n ≤ most_stream_bytes) (sym c.size_after-size.ensures) (size_most c.args.write.cut c.args.old.size c.args.write.offset (length c.args.write.bytes.now) most_stream_bytes (may_parts c.args.files.now c.args.old.size (unwrap_or c.args.old.addr 0) c.requires.place).0 c.requires.most))) c.in-Some.is c.size_after-size.ensures (g.F.Folder.told c.args.folder.now) c.requires.agrees (told_is (HasWords c.args.write.entry c.args.write.stream c.args.old.size (unwrap_or c.args.old.addr 0)) from there stored.words) (g.F.Folder.told c.write_inside.new.folder) (λ x at. c.in_ok-write_inside-in-Some.ensures.stops x at (told_is (λ image. c.args.record_bytes.now ≡ record_at image c.args.write.entry) from there stored.read x at) (told_is (RecordChecks c.args.write.entry) from there can.checks x at)) from there can

pub returns-in-None-clause-written : goal.returns-in-None-clause-written
returns-in-None-clause-written g c from there stored can image now =
    subst (StreamIsWritten c.args.files.now c.args.files.now c.args.write.entry c.args.write.stream c.args.write.offset c.args.write.cut c.args.write.bytes.now from) (some_inj (sym there ∙ now))
    (nothing_written c.args.files.now c.args.write.entry c.args.write.stream (writes.size_after c.args.write.cut c.args.old.size c.args.write.offset (length c.args.write.bytes.now)) c.args.write.offset c.args.write.cut c.args.write.bytes.now from (stored.words.size_is ∙ (c.requires.none c.in-None.is)) (stored.words.word_is ∙ ap (λ (o : Option ℕ). unwrap_or o 0) c.in-None.is) can.checks (sym c.size_after-size.ensures ∙ one_none c.size_after-size.result (subst (λ (n : ℕ). writes.have_one_storage n c.size_after-size.result ≡ true) (c.requires.none c.in-None.is) (sym c.have_one_storage.ensures ∙ c.if-not-have_one_storage.false))) (ap (λ (n : ℕ). writes.size_after c.args.write.cut n c.args.write.offset (length c.args.write.bytes.now)) (c.requires.none c.in-None.is)) (size_few c.args.write.cut c.args.old.size c.args.write.offset (length c.args.write.bytes.now)) c.requires.stands)

pub returns-in-None-clause-stops : goal.returns-in-None-clause-stops
returns-in-None-clause-stops g c from there stored can =
    let P = WritesStream c.args.files.now c.args.write.entry c.args.write.stream (writes.size_after c.args.write.cut c.args.old.size c.args.write.offset (length c.args.write.bytes.now)) c.args.write.offset c.args.write.cut c.args.write.bytes.now from in
    passes_none P refl (λ image now. subst P (some_inj (sym there ∙ now)) (nothing_writes c.args.files.now c.args.write.entry c.args.write.stream (writes.size_after c.args.write.cut c.args.old.size c.args.write.offset (length c.args.write.bytes.now)) c.args.write.offset c.args.write.cut c.args.write.bytes.now from (stored.words.size_is ∙ (c.requires.none c.in-None.is)) (stored.words.word_is ∙ ap (λ (o : Option ℕ). unwrap_or o 0) c.in-None.is) can.checks (sym c.size_after-size.ensures ∙ one_none c.size_after-size.result (subst (λ (n : ℕ). writes.have_one_storage n c.size_after-size.result ≡ true) (c.requires.none c.in-None.is) (sym c.have_one_storage.ensures ∙ c.if-not-have_one_storage.false))) (ap (λ (n : ℕ). writes.size_after c.args.write.cut n c.args.write.offset (length c.args.write.bytes.now)) (c.requires.none c.in-None.is)) (size_few c.args.write.cut c.args.old.size c.args.write.offset (length c.args.write.bytes.now)) c.requires.stands))

-- By stages.

pub returns-then-not-have_one_storage-clause-stages : goal.returns-then-not-have_one_storage-clause-stages
returns-then-not-have_one_storage-clause-stages g c from there stored can =
    subst (λ (n : ℕ). Passes (g.F.Folder.told c.args.folder.now) (g.F.Folder.told c.write_moved.new.folder) (WritesByStage c.args.files.now c.write_moved.new.files c.args.write.entry c.args.write.stream n c.args.write.offset c.args.write.bytes.now from)) c.size_after-size.ensures
    (c.write_moved.ensures.stages from there stored (subst (λ (n : ℕ). CanBeWritten c.args.files.now c.args.write.entry c.args.write.stream n from) (sym c.size_after-size.ensures) can))

pub returns-then-not-have_one_storage-clause-staged : goal.returns-then-not-have_one_storage-clause-staged
returns-then-not-have_one_storage-clause-staged g c =
    on_ok_weaker c.write_moved.result
    (λ done from there stored can image now.
    subst (λ (n : ℕ). IsWrittenByStage c.args.files.now c.write_moved.new.files c.args.write.entry c.args.write.stream n c.args.write.offset c.args.write.bytes.now from image) c.size_after-size.ensures
    (done from there stored (subst (λ (n : ℕ). CanBeWritten c.args.files.now c.args.write.entry c.args.write.stream n from) (sym c.size_after-size.ensures) can) image now))
    c.write_moved.ensures.staged

pub returns-in_err-write_inside-in-Some-clause-stages : goal.returns-in_err-write_inside-in-Some-clause-stages
returns-in_err-write_inside-in-Some-clause-stages g c from there stored can = inside_by_stage c.args.files.now c.args.write.entry c.args.write.stream c.size_after-size.result c.in-Some.addr c.args.old c.args.write.offset c.args.write.cut c.args.write.bytes.now c.requires.kind c.requires.stands c.requires.stream (c.requires.some c.in-Some.addr c.in-Some.is) (subst (λ (v : ℕ). may_keep c.args.files.now c.args.old.size v ≡ true) (ap (λ (o : Option ℕ). unwrap_or o 0) c.in-Some.is) c.requires.place) (storage_stays c.args.files.now c.args.old.size c.size_after-size.result c.in-Some.addr (c.requires.some c.in-Some.addr c.in-Some.is) (subst (λ (v : ℕ). may_keep c.args.files.now c.args.old.size v ≡ true) (ap (λ (o : Option ℕ). unwrap_or o 0) c.in-Some.is) c.requires.place) (sym c.have_one_storage.ensures ∙ c.if-not-have_one_storage.false) (subst (λ (n : ℕ). n ≤ most_stream_bytes) (sym c.size_after-size.ensures) (size_most c.args.write.cut c.args.old.size c.args.write.offset (length c.args.write.bytes.now) most_stream_bytes (may_parts c.args.files.now c.args.old.size (unwrap_or c.args.old.addr 0) c.requires.place).0 c.requires.most))) c.in-Some.is (sym c.have_one_storage.ensures ∙ c.if-not-have_one_storage.false) c.size_after-size.ensures (g.F.Folder.told c.args.folder.now) c.requires.agrees (told_is (HasWords c.args.write.entry c.args.write.stream c.args.old.size (unwrap_or c.args.old.addr 0)) from there stored.words) (g.F.Folder.told c.write_inside.new.folder) (λ x at. c.in_err-write_inside-in-Some.ensures.stages x at (told_is (λ image. c.args.record_bytes.now ≡ record_at image c.args.write.entry) from there stored.read x at) (told_is (RecordChecks c.args.write.entry) from there can.checks x at)) from there can

pub returns-in_ok-write_inside-in-Some-clause-stages : goal.returns-in_ok-write_inside-in-Some-clause-stages
returns-in_ok-write_inside-in-Some-clause-stages g c from there stored can = inside_by_stage c.args.files.now c.args.write.entry c.args.write.stream c.size_after-size.result c.in-Some.addr c.args.old c.args.write.offset c.args.write.cut c.args.write.bytes.now c.requires.kind c.requires.stands c.requires.stream (c.requires.some c.in-Some.addr c.in-Some.is) (subst (λ (v : ℕ). may_keep c.args.files.now c.args.old.size v ≡ true) (ap (λ (o : Option ℕ). unwrap_or o 0) c.in-Some.is) c.requires.place) (storage_stays c.args.files.now c.args.old.size c.size_after-size.result c.in-Some.addr (c.requires.some c.in-Some.addr c.in-Some.is) (subst (λ (v : ℕ). may_keep c.args.files.now c.args.old.size v ≡ true) (ap (λ (o : Option ℕ). unwrap_or o 0) c.in-Some.is) c.requires.place) (sym c.have_one_storage.ensures ∙ c.if-not-have_one_storage.false) (subst (λ (n : ℕ). n ≤ most_stream_bytes) (sym c.size_after-size.ensures) (size_most c.args.write.cut c.args.old.size c.args.write.offset (length c.args.write.bytes.now) most_stream_bytes (may_parts c.args.files.now c.args.old.size (unwrap_or c.args.old.addr 0) c.requires.place).0 c.requires.most))) c.in-Some.is (sym c.have_one_storage.ensures ∙ c.if-not-have_one_storage.false) c.size_after-size.ensures (g.F.Folder.told c.args.folder.now) c.requires.agrees (told_is (HasWords c.args.write.entry c.args.write.stream c.args.old.size (unwrap_or c.args.old.addr 0)) from there stored.words) (g.F.Folder.told c.write_inside.new.folder) (λ x at. c.in_ok-write_inside-in-Some.ensures.stages x at (told_is (λ image. c.args.record_bytes.now ≡ record_at image c.args.write.entry) from there stored.read x at) (told_is (RecordChecks c.args.write.entry) from there can.checks x at)) from there can

pub returns-in_ok-write_inside-in-Some-clause-staged : goal.returns-in_ok-write_inside-in-Some-clause-staged
returns-in_ok-write_inside-in-Some-clause-staged g c from there stored can = inside_staged c.args.files.now c.args.write.entry c.args.write.stream c.size_after-size.result c.in-Some.addr c.args.old c.args.write.offset c.args.write.cut c.args.write.bytes.now c.requires.kind c.requires.stands c.requires.stream (c.requires.some c.in-Some.addr c.in-Some.is) (subst (λ (v : ℕ). may_keep c.args.files.now c.args.old.size v ≡ true) (ap (λ (o : Option ℕ). unwrap_or o 0) c.in-Some.is) c.requires.place) (storage_stays c.args.files.now c.args.old.size c.size_after-size.result c.in-Some.addr (c.requires.some c.in-Some.addr c.in-Some.is) (subst (λ (v : ℕ). may_keep c.args.files.now c.args.old.size v ≡ true) (ap (λ (o : Option ℕ). unwrap_or o 0) c.in-Some.is) c.requires.place) (sym c.have_one_storage.ensures ∙ c.if-not-have_one_storage.false) (subst (λ (n : ℕ). n ≤ most_stream_bytes) (sym c.size_after-size.ensures) (size_most c.args.write.cut c.args.old.size c.args.write.offset (length c.args.write.bytes.now) most_stream_bytes (may_parts c.args.files.now c.args.old.size (unwrap_or c.args.old.addr 0) c.requires.place).0 c.requires.most))) c.in-Some.is (sym c.have_one_storage.ensures ∙ c.if-not-have_one_storage.false) c.size_after-size.ensures (g.F.Folder.told c.args.folder.now) c.requires.agrees (told_is (HasWords c.args.write.entry c.args.write.stream c.args.old.size (unwrap_or c.args.old.addr 0)) from there stored.words) (g.F.Folder.told c.write_inside.new.folder) (λ x at. c.in_ok-write_inside-in-Some.ensures.stages x at (told_is (λ image. c.args.record_bytes.now ≡ record_at image c.args.write.entry) from there stored.read x at) (told_is (RecordChecks c.args.write.entry) from there can.checks x at)) from there can

pub returns-in-None-clause-stages : goal.returns-in-None-clause-stages
returns-in-None-clause-stages g c from there stored can =
    let P = WritesByStage c.args.files.now c.args.files.now c.args.write.entry c.args.write.stream (writes.size_after c.args.write.cut c.args.old.size c.args.write.offset (length c.args.write.bytes.now)) c.args.write.offset c.args.write.bytes.now from in
    passes_none P refl (λ image now. subst P (some_inj (sym there ∙ now)) (inl (nothing_in_place c.args.write.entry c.args.write.stream (writes.size_after c.args.write.cut c.args.old.size c.args.write.offset (length c.args.write.bytes.now)) from c.requires.kind (g.met.F.Folder.are_bytes c.args.folder.now from there) (subst (λ (n : ℕ). writes.have_one_storage n (writes.size_after c.args.write.cut c.args.old.size c.args.write.offset (length c.args.write.bytes.now)) ≡ true) (sym stored.words.size_is) (subst (λ (n : ℕ). writes.have_one_storage c.args.old.size n ≡ true) c.size_after-size.ensures (sym c.have_one_storage.ensures ∙ c.if-not-have_one_storage.false))) can.checks)))

pub returns-in-None-clause-staged : goal.returns-in-None-clause-staged
returns-in-None-clause-staged g c from there stored can image now =
    subst (IsWrittenByStage c.args.files.now c.args.files.now c.args.write.entry c.args.write.stream (writes.size_after c.args.write.cut c.args.old.size c.args.write.offset (length c.args.write.bytes.now)) c.args.write.offset c.args.write.bytes.now from) (some_inj (sym there ∙ now)) (inl (nothing_in_place c.args.write.entry c.args.write.stream (writes.size_after c.args.write.cut c.args.old.size c.args.write.offset (length c.args.write.bytes.now)) from c.requires.kind (g.met.F.Folder.are_bytes c.args.folder.now from there) (subst (λ (n : ℕ). writes.have_one_storage n (writes.size_after c.args.write.cut c.args.old.size c.args.write.offset (length c.args.write.bytes.now)) ≡ true) (sym stored.words.size_is) (subst (λ (n : ℕ). writes.have_one_storage c.args.old.size n ≡ true) c.size_after-size.ensures (sym c.have_one_storage.ensures ∙ c.if-not-have_one_storage.false))) can.checks))

-- The checksum.

pub returns-then-not-have_one_storage-clause-sealed : goal.returns-then-not-have_one_storage-clause-sealed
returns-then-not-have_one_storage-clause-sealed g c =
    on_ok_weaker c.write_moved.result
    (λ sealed from there stored can image now was. sealed from there stored (subst (λ (n : ℕ). CanBeWritten c.args.files.now c.args.write.entry c.args.write.stream n from) (sym c.size_after-size.ensures) can) image now)
    c.write_moved.ensures.sealed

pub returns-in_ok-write_inside-in-Some-clause-sealed : goal.returns-in_ok-write_inside-in-Some-clause-sealed
returns-in_ok-write_inside-in-Some-clause-sealed g c from there stored can =
    c.in_ok-write_inside-in-Some.ensures.sealed from there stored.read can.checks (inside_apart c.args.files.now c.args.write.entry c.args.write.stream c.size_after-size.result c.in-Some.addr c.requires.kind c.requires.stands c.requires.stream from (c.requires.agrees from there) (subst (λ (n : ℕ). CanBeWritten c.args.files.now c.args.write.entry c.args.write.stream n from) (sym c.size_after-size.ensures) can) (stored.words.word_is ∙ ap (λ (o : Option ℕ). unwrap_or o 0) c.in-Some.is) (c.requires.some c.in-Some.addr c.in-Some.is) (storage_stays c.args.files.now c.args.old.size c.size_after-size.result c.in-Some.addr (c.requires.some c.in-Some.addr c.in-Some.is) (subst (λ (v : ℕ). may_keep c.args.files.now c.args.old.size v ≡ true) (ap (λ (o : Option ℕ). unwrap_or o 0) c.in-Some.is) c.requires.place) (sym c.have_one_storage.ensures ∙ c.if-not-have_one_storage.false) (subst (λ (n : ℕ). n ≤ most_stream_bytes) (sym c.size_after-size.ensures) (size_most c.args.write.cut c.args.old.size c.args.write.offset (length c.args.write.bytes.now) most_stream_bytes (may_parts c.args.files.now c.args.old.size (unwrap_or c.args.old.addr 0) c.requires.place).0 c.requires.most))))

pub returns-in-None-clause-sealed : goal.returns-in-None-clause-sealed
returns-in-None-clause-sealed g c from there stored can image now = subst (KeepsSeal c.args.write.entry from) (some_inj (sym there ∙ now)) (λ was. was)
