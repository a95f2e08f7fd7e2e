use Rattle.std.proofs.Common.{◌≡◌, inl, inr, ℕ, None, true, sym, subst}
use Rattle.std.specs.Prelude.{unwrap_or}
use Rattle.std.proofs.lemmas.Result.{on_ok_weaker}
use Rattle.spec_format.specs.Sealed.{record_at}
use Rattle.spec_image.proofs.Runs.{passes_weaker}
use Rattle.blk_io.proofs.Carried.{carried}
use Rattle.blk_stream.specs.Streams.{may_keep}
use Rattle.blk_stream.specs.Changing.{HasWords}
use Rattle.blk_stream.specs.Moving.{IsPlaceFilled}
use Rattle.blk_stream.proofs.Joined.{told_is}
use Rattle.blk_stream.proofs.StreamMoved.{can_fill, fill_writes, leave_back, leave_can, leave_done, leave_passes, leave_staged, leave_stages, moved_sealed, name_done, name_passes, name_staged, name_stages}
use Rattle.blk_stream.proofs.moving.write_moved.Goals as goal

pub returns-in_err-new-clause-stops : goal.returns-in_err-new-clause-stops
returns-in_err-new-clause-stops g c from there stored can cut is =
    let words = stored.words in
    let word = fill_writes c.args.files.now c.filled_place.new.files c.args.write.entry c.args.write.stream c.args.size c.args.old c.requires.kind c.requires.stands c.requires.stream c.filled_place.ensures.keeps c.requires.old c.requires.some c.requires.other from (c.requires.agrees from there) can words c.args.write.offset cut c.args.write.bytes.now in
    passes_weaker (c.in_err-new.ensures.stops from there (can_fill c.args.files.now c.filled_place.new.files c.args.write.entry c.args.write.stream c.args.size c.args.old c.requires.kind c.requires.stands c.requires.stream c.filled_place.ensures.keeps c.requires.old c.requires.some c.requires.other from (c.requires.agrees from there) can words)) word word

pub returns-in_err-new-clause-untold : goal.returns-in_err-new-clause-untold
returns-in_err-new-clause-untold g c can =
    carried c.filled_place.result c.from_residual.result c.in_err-new.field-0.0 (λ _. (g.F.Folder.told c.args.folder.now).files ≡ None) c.in_err-new.was c.from_residual.ensures.1
    (c.filled_place.ensures.untold (λ from there. can_fill c.args.files.now c.filled_place.new.files c.args.write.entry c.args.write.stream c.args.size c.args.old c.requires.kind c.requires.stands c.requires.stream c.filled_place.ensures.keeps c.requires.old c.requires.some c.requires.other from (c.requires.agrees from there) (can from there).1 (can from there).0.words))

pub returns-in-Some-clause-written : goal.returns-in-Some-clause-written
returns-in-Some-clause-written g c =
    on_ok_weaker c.leave_place.result (λ left from there stored. leave_done c.args.files.now c.filled_place.new.files c.args.write.entry c.args.write.stream c.args.size c.args.old c.requires.kind c.requires.stands c.requires.stream c.filled_place.ensures.keeps c.requires.old c.requires.some c.requires.other c.word_of-word.result c.args.write.offset c.args.write.bytes.now c.args.record_bytes.now (subst (λ (v : ℕ). may_keep c.filled_place.new.files c.args.size v ≡ true) (sym c.word_of-word.ensures) c.in_ok-new.ensures.fits) (g.F.Folder.told c.args.folder.now) (g.F.Folder.told c.filled_place.new.folder) (g.F.Folder.told c.leave_place.new.folder) c.requires.agrees (told_is (HasWords c.args.write.entry c.args.write.stream c.args.old.size (unwrap_or c.args.old.addr 0)) from there stored.words) (told_is (λ image. c.args.record_bytes.now ≡ record_at image c.args.write.entry) from there stored.read) c.in_ok-new.ensures.stops (λ from there can image now. subst (λ (v : ℕ). IsPlaceFilled c.args.files.now c.args.old v c.args.size c.args.write.offset c.args.write.bytes.now from image) (sym c.word_of-word.ensures) (c.in_ok-new.ensures.filled from there can image now)) c.in-Some.addr c.in-Some.is left from there) c.leave_place.ensures.changed

pub returns-in-Some-clause-stops : goal.returns-in-Some-clause-stops
returns-in-Some-clause-stops g c from there stored = leave_passes c.args.files.now c.filled_place.new.files c.args.write.entry c.args.write.stream c.args.size c.args.old c.requires.kind c.requires.stands c.requires.stream c.filled_place.ensures.keeps c.requires.old c.requires.some c.requires.other c.word_of-word.result c.args.write.offset c.args.write.bytes.now c.args.record_bytes.now (subst (λ (v : ℕ). may_keep c.filled_place.new.files c.args.size v ≡ true) (sym c.word_of-word.ensures) c.in_ok-new.ensures.fits) (g.F.Folder.told c.args.folder.now) (g.F.Folder.told c.filled_place.new.folder) (g.F.Folder.told c.leave_place.new.folder) c.requires.agrees (told_is (HasWords c.args.write.entry c.args.write.stream c.args.old.size (unwrap_or c.args.old.addr 0)) from there stored.words) (told_is (λ image. c.args.record_bytes.now ≡ record_at image c.args.write.entry) from there stored.read) c.in_ok-new.ensures.stops (λ from there can image now. subst (λ (v : ℕ). IsPlaceFilled c.args.files.now c.args.old v c.args.size c.args.write.offset c.args.write.bytes.now from image) (sym c.word_of-word.ensures) (c.in_ok-new.ensures.filled from there can image now)) c.in-Some.addr c.in-Some.is c.leave_place.ensures.stops from there

pub returns-in-Some-clause-untold : goal.returns-in-Some-clause-untold
returns-in-Some-clause-untold g c can =
    leave_back c.args.files.now c.filled_place.new.files c.args.write.entry c.args.write.stream c.args.size c.args.old c.requires.kind c.requires.stands c.requires.stream c.filled_place.ensures.keeps c.requires.old c.requires.some c.requires.other c.word_of-word.result c.args.write.offset c.args.write.bytes.now c.args.record_bytes.now (subst (λ (v : ℕ). may_keep c.filled_place.new.files c.args.size v ≡ true) (sym c.word_of-word.ensures) c.in_ok-new.ensures.fits) (g.F.Folder.told c.args.folder.now) (g.F.Folder.told c.filled_place.new.folder) (g.F.Folder.told c.leave_place.new.folder) c.requires.agrees (λ from there. (can from there).0.words) (λ from there. (can from there).0.read) c.in_ok-new.ensures.stops (λ from there can image now. subst (λ (v : ℕ). IsPlaceFilled c.args.files.now c.args.old v c.args.size c.args.write.offset c.args.write.bytes.now from image) (sym c.word_of-word.ensures) (c.in_ok-new.ensures.filled from there can image now)) c.in-Some.addr c.in-Some.is c.leave_place.result c.filled_place.ensures.writes.silent (λ from there. (can from there).1)
    (c.leave_place.ensures.untold (leave_can c.args.files.now c.filled_place.new.files c.args.write.entry c.args.write.stream c.args.size c.args.old c.requires.kind c.requires.stands c.requires.stream c.filled_place.ensures.keeps c.requires.old c.requires.some c.requires.other c.word_of-word.result c.args.write.offset c.args.write.bytes.now c.args.record_bytes.now (subst (λ (v : ℕ). may_keep c.filled_place.new.files c.args.size v ≡ true) (sym c.word_of-word.ensures) c.in_ok-new.ensures.fits) (g.F.Folder.told c.args.folder.now) (g.F.Folder.told c.filled_place.new.folder) (g.F.Folder.told c.leave_place.new.folder) c.requires.agrees (λ from there. (can from there).0.words) (λ from there. (can from there).0.read) c.in_ok-new.ensures.stops (λ from there can image now. subst (λ (v : ℕ). IsPlaceFilled c.args.files.now c.args.old v c.args.size c.args.write.offset c.args.write.bytes.now from image) (sym c.word_of-word.ensures) (c.in_ok-new.ensures.filled from there can image now)) c.in-Some.addr c.in-Some.is c.filled_place.ensures.writes.silent (λ from there. (can from there).1)))

pub returns-in_err-name_place-in-None-clause-stops : goal.returns-in_err-name_place-in-None-clause-stops
returns-in_err-name_place-in-None-clause-stops g c from there stored = name_passes c.args.files.now c.filled_place.new.files c.args.write.entry c.args.write.stream c.args.size c.args.old c.requires.kind c.requires.stands c.requires.stream c.filled_place.ensures.keeps c.requires.old c.requires.some c.requires.other c.word_of-word.result c.args.write.offset c.args.write.bytes.now c.args.record_bytes.now (subst (λ (v : ℕ). may_keep c.filled_place.new.files c.args.size v ≡ true) (sym c.word_of-word.ensures) c.in_ok-new.ensures.fits) (g.F.Folder.told c.args.folder.now) (g.F.Folder.told c.filled_place.new.folder) (g.F.Folder.told c.name_place.new.folder) c.requires.agrees (told_is (HasWords c.args.write.entry c.args.write.stream c.args.old.size (unwrap_or c.args.old.addr 0)) from there stored.words) (told_is (λ image. c.args.record_bytes.now ≡ record_at image c.args.write.entry) from there stored.read) c.in_ok-new.ensures.stops (λ from there can image now. subst (λ (v : ℕ). IsPlaceFilled c.args.files.now c.args.old v c.args.size c.args.write.offset c.args.write.bytes.now from image) (sym c.word_of-word.ensures) (c.in_ok-new.ensures.filled from there can image now)) c.in-None.is c.in_err-name_place-in-None.ensures.stops from there

pub returns-in_ok-name_place-in-None-clause-written : goal.returns-in_ok-name_place-in-None-clause-written
returns-in_ok-name_place-in-None-clause-written g c from there stored = name_done c.args.files.now c.filled_place.new.files c.args.write.entry c.args.write.stream c.args.size c.args.old c.requires.kind c.requires.stands c.requires.stream c.filled_place.ensures.keeps c.requires.old c.requires.some c.requires.other c.word_of-word.result c.args.write.offset c.args.write.bytes.now c.args.record_bytes.now (subst (λ (v : ℕ). may_keep c.filled_place.new.files c.args.size v ≡ true) (sym c.word_of-word.ensures) c.in_ok-new.ensures.fits) (g.F.Folder.told c.args.folder.now) (g.F.Folder.told c.filled_place.new.folder) (g.F.Folder.told c.name_place.new.folder) c.requires.agrees (told_is (HasWords c.args.write.entry c.args.write.stream c.args.old.size (unwrap_or c.args.old.addr 0)) from there stored.words) (told_is (λ image. c.args.record_bytes.now ≡ record_at image c.args.write.entry) from there stored.read) c.in_ok-new.ensures.stops (λ from there can image now. subst (λ (v : ℕ). IsPlaceFilled c.args.files.now c.args.old v c.args.size c.args.write.offset c.args.write.bytes.now from image) (sym c.word_of-word.ensures) (c.in_ok-new.ensures.filled from there can image now)) c.in-None.is c.in_ok-name_place-in-None.ensures.stops c.in_ok-name_place-in-None.ensures.named from there

pub returns-in_ok-name_place-in-None-clause-stops : goal.returns-in_ok-name_place-in-None-clause-stops
returns-in_ok-name_place-in-None-clause-stops g c from there stored = name_passes c.args.files.now c.filled_place.new.files c.args.write.entry c.args.write.stream c.args.size c.args.old c.requires.kind c.requires.stands c.requires.stream c.filled_place.ensures.keeps c.requires.old c.requires.some c.requires.other c.word_of-word.result c.args.write.offset c.args.write.bytes.now c.args.record_bytes.now (subst (λ (v : ℕ). may_keep c.filled_place.new.files c.args.size v ≡ true) (sym c.word_of-word.ensures) c.in_ok-new.ensures.fits) (g.F.Folder.told c.args.folder.now) (g.F.Folder.told c.filled_place.new.folder) (g.F.Folder.told c.name_place.new.folder) c.requires.agrees (told_is (HasWords c.args.write.entry c.args.write.stream c.args.old.size (unwrap_or c.args.old.addr 0)) from there stored.words) (told_is (λ image. c.args.record_bytes.now ≡ record_at image c.args.write.entry) from there stored.read) c.in_ok-new.ensures.stops (λ from there can image now. subst (λ (v : ℕ). IsPlaceFilled c.args.files.now c.args.old v c.args.size c.args.write.offset c.args.write.bytes.now from image) (sym c.word_of-word.ensures) (c.in_ok-new.ensures.filled from there can image now)) c.in-None.is c.in_ok-name_place-in-None.ensures.stops from there

pub returns-in_err-new-clause-stages : goal.returns-in_err-new-clause-stages
returns-in_err-new-clause-stages g c from there stored can = passes_weaker (c.in_err-new.ensures.stages from there (can_fill c.args.files.now c.filled_place.new.files c.args.write.entry c.args.write.stream c.args.size c.args.old c.requires.kind c.requires.stands c.requires.stream c.filled_place.ensures.keeps c.requires.old c.requires.some c.requires.other from (c.requires.agrees from there) can stored.words)) (λ image h. inr (inl h)) (λ image h. inr (inl h))

pub returns-in-Some-clause-stages : goal.returns-in-Some-clause-stages
returns-in-Some-clause-stages g c from there stored = leave_stages c.args.files.now c.filled_place.new.files c.args.write.entry c.args.write.stream c.args.size c.args.old c.requires.kind c.requires.stands c.requires.stream c.filled_place.ensures.keeps c.requires.old c.requires.some c.requires.other c.word_of-word.result c.args.write.offset c.args.write.bytes.now c.args.record_bytes.now (subst (λ (v : ℕ). may_keep c.filled_place.new.files c.args.size v ≡ true) (sym c.word_of-word.ensures) c.in_ok-new.ensures.fits) (g.F.Folder.told c.args.folder.now) (g.F.Folder.told c.filled_place.new.folder) (g.F.Folder.told c.leave_place.new.folder) c.requires.agrees (told_is (HasWords c.args.write.entry c.args.write.stream c.args.old.size (unwrap_or c.args.old.addr 0)) from there stored.words) (told_is (λ image. c.args.record_bytes.now ≡ record_at image c.args.write.entry) from there stored.read) c.in_ok-new.ensures.stops (λ from there can image now. subst (λ (v : ℕ). IsPlaceFilled c.args.files.now c.args.old v c.args.size c.args.write.offset c.args.write.bytes.now from image) (sym c.word_of-word.ensures) (c.in_ok-new.ensures.filled from there can image now)) c.in_ok-new.new c.word_of-word.ensures c.in_ok-new.ensures.stages c.in_ok-new.ensures.staged c.in-Some.addr c.in-Some.is c.leave_place.ensures.stages from there

pub returns-in-Some-clause-staged : goal.returns-in-Some-clause-staged
returns-in-Some-clause-staged g c = on_ok_weaker c.leave_place.result (λ left from there stored. leave_staged c.args.files.now c.filled_place.new.files c.args.write.entry c.args.write.stream c.args.size c.args.old c.requires.kind c.requires.stands c.requires.stream c.filled_place.ensures.keeps c.requires.old c.requires.some c.requires.other c.word_of-word.result c.args.write.offset c.args.write.bytes.now c.args.record_bytes.now (subst (λ (v : ℕ). may_keep c.filled_place.new.files c.args.size v ≡ true) (sym c.word_of-word.ensures) c.in_ok-new.ensures.fits) (g.F.Folder.told c.args.folder.now) (g.F.Folder.told c.filled_place.new.folder) (g.F.Folder.told c.leave_place.new.folder) c.requires.agrees (told_is (HasWords c.args.write.entry c.args.write.stream c.args.old.size (unwrap_or c.args.old.addr 0)) from there stored.words) (told_is (λ image. c.args.record_bytes.now ≡ record_at image c.args.write.entry) from there stored.read) c.in_ok-new.ensures.stops (λ from there can image now. subst (λ (v : ℕ). IsPlaceFilled c.args.files.now c.args.old v c.args.size c.args.write.offset c.args.write.bytes.now from image) (sym c.word_of-word.ensures) (c.in_ok-new.ensures.filled from there can image now)) c.in_ok-new.new c.word_of-word.ensures c.in_ok-new.ensures.stages c.in_ok-new.ensures.staged c.in-Some.addr c.in-Some.is left from there) c.leave_place.ensures.staged

pub returns-in_err-name_place-in-None-clause-stages : goal.returns-in_err-name_place-in-None-clause-stages
returns-in_err-name_place-in-None-clause-stages g c from there stored = name_stages c.args.files.now c.filled_place.new.files c.args.write.entry c.args.write.stream c.args.size c.args.old c.requires.kind c.requires.stands c.requires.stream c.filled_place.ensures.keeps c.requires.old c.requires.some c.requires.other c.word_of-word.result c.args.write.offset c.args.write.bytes.now c.args.record_bytes.now (subst (λ (v : ℕ). may_keep c.filled_place.new.files c.args.size v ≡ true) (sym c.word_of-word.ensures) c.in_ok-new.ensures.fits) (g.F.Folder.told c.args.folder.now) (g.F.Folder.told c.filled_place.new.folder) (g.F.Folder.told c.name_place.new.folder) c.requires.agrees (told_is (HasWords c.args.write.entry c.args.write.stream c.args.old.size (unwrap_or c.args.old.addr 0)) from there stored.words) (told_is (λ image. c.args.record_bytes.now ≡ record_at image c.args.write.entry) from there stored.read) c.in_ok-new.ensures.stops (λ from there can image now. subst (λ (v : ℕ). IsPlaceFilled c.args.files.now c.args.old v c.args.size c.args.write.offset c.args.write.bytes.now from image) (sym c.word_of-word.ensures) (c.in_ok-new.ensures.filled from there can image now)) c.in_ok-new.new c.word_of-word.ensures c.in_ok-new.ensures.stages c.in_ok-new.ensures.staged c.in-None.is c.in_err-name_place-in-None.ensures.stages from there

pub returns-in_ok-name_place-in-None-clause-stages : goal.returns-in_ok-name_place-in-None-clause-stages
returns-in_ok-name_place-in-None-clause-stages g c from there stored = name_stages c.args.files.now c.filled_place.new.files c.args.write.entry c.args.write.stream c.args.size c.args.old c.requires.kind c.requires.stands c.requires.stream c.filled_place.ensures.keeps c.requires.old c.requires.some c.requires.other c.word_of-word.result c.args.write.offset c.args.write.bytes.now c.args.record_bytes.now (subst (λ (v : ℕ). may_keep c.filled_place.new.files c.args.size v ≡ true) (sym c.word_of-word.ensures) c.in_ok-new.ensures.fits) (g.F.Folder.told c.args.folder.now) (g.F.Folder.told c.filled_place.new.folder) (g.F.Folder.told c.name_place.new.folder) c.requires.agrees (told_is (HasWords c.args.write.entry c.args.write.stream c.args.old.size (unwrap_or c.args.old.addr 0)) from there stored.words) (told_is (λ image. c.args.record_bytes.now ≡ record_at image c.args.write.entry) from there stored.read) c.in_ok-new.ensures.stops (λ from there can image now. subst (λ (v : ℕ). IsPlaceFilled c.args.files.now c.args.old v c.args.size c.args.write.offset c.args.write.bytes.now from image) (sym c.word_of-word.ensures) (c.in_ok-new.ensures.filled from there can image now)) c.in_ok-new.new c.word_of-word.ensures c.in_ok-new.ensures.stages c.in_ok-new.ensures.staged c.in-None.is c.in_ok-name_place-in-None.ensures.stages from there

pub returns-in_ok-name_place-in-None-clause-staged : goal.returns-in_ok-name_place-in-None-clause-staged
returns-in_ok-name_place-in-None-clause-staged g c from there stored = name_staged c.args.files.now c.filled_place.new.files c.args.write.entry c.args.write.stream c.args.size c.args.old c.requires.kind c.requires.stands c.requires.stream c.filled_place.ensures.keeps c.requires.old c.requires.some c.requires.other c.word_of-word.result c.args.write.offset c.args.write.bytes.now c.args.record_bytes.now (subst (λ (v : ℕ). may_keep c.filled_place.new.files c.args.size v ≡ true) (sym c.word_of-word.ensures) c.in_ok-new.ensures.fits) (g.F.Folder.told c.args.folder.now) (g.F.Folder.told c.filled_place.new.folder) (g.F.Folder.told c.name_place.new.folder) c.requires.agrees (told_is (HasWords c.args.write.entry c.args.write.stream c.args.old.size (unwrap_or c.args.old.addr 0)) from there stored.words) (told_is (λ image. c.args.record_bytes.now ≡ record_at image c.args.write.entry) from there stored.read) c.in_ok-new.ensures.stops (λ from there can image now. subst (λ (v : ℕ). IsPlaceFilled c.args.files.now c.args.old v c.args.size c.args.write.offset c.args.write.bytes.now from image) (sym c.word_of-word.ensures) (c.in_ok-new.ensures.filled from there can image now)) c.in_ok-new.new c.word_of-word.ensures c.in_ok-new.ensures.stages c.in_ok-new.ensures.staged c.in-None.is c.in_ok-name_place-in-None.ensures.stops c.in_ok-name_place-in-None.ensures.named c.in_ok-name_place-in-None.ensures.sealed from there

pub returns-in-Some-clause-sealed : goal.returns-in-Some-clause-sealed
returns-in-Some-clause-sealed g c = on_ok_weaker c.leave_place.result (λ sealed from there stored. moved_sealed c.args.files.now c.filled_place.new.files c.args.write.entry c.args.write.stream c.args.size c.args.old c.requires.kind c.requires.stands c.requires.stream c.filled_place.ensures.keeps c.requires.old c.requires.some c.requires.other c.word_of-word.result c.args.write.offset c.args.write.bytes.now c.args.record_bytes.now (subst (λ (v : ℕ). may_keep c.filled_place.new.files c.args.size v ≡ true) (sym c.word_of-word.ensures) c.in_ok-new.ensures.fits) (g.F.Folder.told c.args.folder.now) (g.F.Folder.told c.filled_place.new.folder) (g.F.Folder.told c.leave_place.new.folder) c.requires.agrees (told_is (HasWords c.args.write.entry c.args.write.stream c.args.old.size (unwrap_or c.args.old.addr 0)) from there stored.words) (told_is (λ image. c.args.record_bytes.now ≡ record_at image c.args.write.entry) from there stored.read) c.in_ok-new.ensures.stops (λ from there can image now. subst (λ (v : ℕ). IsPlaceFilled c.args.files.now c.args.old v c.args.size c.args.write.offset c.args.write.bytes.now from image) (sym c.word_of-word.ensures) (c.in_ok-new.ensures.filled from there can image now)) sealed from there) c.leave_place.ensures.sealed

pub returns-in_ok-name_place-in-None-clause-sealed : goal.returns-in_ok-name_place-in-None-clause-sealed
returns-in_ok-name_place-in-None-clause-sealed g c from there stored = moved_sealed c.args.files.now c.filled_place.new.files c.args.write.entry c.args.write.stream c.args.size c.args.old c.requires.kind c.requires.stands c.requires.stream c.filled_place.ensures.keeps c.requires.old c.requires.some c.requires.other c.word_of-word.result c.args.write.offset c.args.write.bytes.now c.args.record_bytes.now (subst (λ (v : ℕ). may_keep c.filled_place.new.files c.args.size v ≡ true) (sym c.word_of-word.ensures) c.in_ok-new.ensures.fits) (g.F.Folder.told c.args.folder.now) (g.F.Folder.told c.filled_place.new.folder) (g.F.Folder.told c.name_place.new.folder) c.requires.agrees (told_is (HasWords c.args.write.entry c.args.write.stream c.args.old.size (unwrap_or c.args.old.addr 0)) from there stored.words) (told_is (λ image. c.args.record_bytes.now ≡ record_at image c.args.write.entry) from there stored.read) c.in_ok-new.ensures.stops (λ from there can image now. subst (λ (v : ℕ). IsPlaceFilled c.args.files.now c.args.old v c.args.size c.args.write.offset c.args.write.bytes.now from image) (sym c.word_of-word.ensures) (c.in_ok-new.ensures.filled from there can image now)) (λ B here read checks. c.in_ok-name_place-in-None.ensures.sealed B here read) from there
