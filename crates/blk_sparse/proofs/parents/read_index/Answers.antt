use Rattle.std.proofs.Common.{◌≡◌, ◌∙◌, ◌≤◌, ℕ, length, replicate, sym, arith, None, Err}
use Rattle.std.proofs.lemmas.List.{length-replicate}
use Rattle.std.specs.Int.{cast_unsigned, w64}
use Rattle.std.proofs.lemmas.Int.{of_z-to_z}
use Rattle.blk_entry.proofs.KeyPlaces.{damaged_any, err_damaged}
use Rattle.blk_io.proofs.Carried.{carried, untold_where}
use Rattle.blk_object.proofs.OwnedPlaces.{loaded-checks}
use Rattle.blk_sparse.proofs.PartsNext.{of-some}
use Rattle.blk_sparse.specs.declared.dropping.IndexedParts.{IndexedParts}
use Rattle.blk_sparse.proofs.ParentsRead.{no-bits-read, no-index, none-read, signature-read, streams-there}
use Rattle.blk_object.proofs.DamageChecks.{handed, moved, read-checked, within-checked}
use Rattle.blk_stream.specs.Streams.{stream_bytes}
use Rattle.blk_object.specs.FailedChecks.{IsFailedCheck, WrongIndex}
use Rattle.blk_sparse.proofs.parents.read_index.Goals as goal

-- there is space for a whole index
room : 8256 ≤ length {A = ℕ} (replicate 8256 0)
room = let long = length-replicate {A = ℕ} 8256 0 in omega (arith, long)

pub returns-in_err-len-clause-untold : goal.returns-in_err-len-clause-untold
returns-in_err-len-clause-untold g c agrees lies =
    carried c.read.result c.from_residual.result c.in_err-len.field-0.0 (λ _. (g.F.Folder.told c.args.folder.now).files ≡ None) c.in_err-len.was c.from_residual.ensures.1
    (c.read.ensures.untold (λ image there.
    let l = lies image there in
    record { agrees = agrees image there; checks = loaded-checks image c.args.entry l.loaded (g.met.F.Folder.are_bytes c.args.folder.now image there) l.loads; has = record { streams = l.loaded.streams; is = streams-there image c.args.entry l.loaded l.loads } }))

pub returns-in-Some-clause-signature : goal.returns-in-Some-clause-signature
returns-in-Some-clause-signature g c image there loaded index w role =
    let valid = of-some c.read-2.result c.in-Some.head _ c.in-Some.is c.read-2.ensures.valid in
    let small = valid.signature in
    signature-read image c.args.entry loaded index w role (replicate 8256 0) c.read.new.out c.in_ok-len.len room (c.in_ok-len.ensures.piece image there) c.read-2.result c.in-Some.head c.in-Some.is c.read-2.ensures.fields
    ∙ sym (of_z-to_z w64 (cast_unsigned w64 c.in-Some.head.signature) (omega (arith, small)))

pub returns-in-None-clause-untold : goal.returns-in-None-clause-untold
returns-in-None-clause-untold g c agrees lies =
    damaged_any {A = IndexedParts} (Err c.record_damage.result) ((g.F.Folder.told c.args.folder.now).files ≡ None)
    (untold_where (g.F.Folder.told c.args.folder.now).files (λ image there.
    let l = lies image there in
    none-read image c.args.entry l.loaded l.index l.loads l.role (replicate 8256 0) c.read.new.out c.in_ok-len.len room (c.in_ok-len.ensures.piece image there) c.read-2.result c.in-None.is c.read-2.ensures.fields))

pub returns-in-Some-clause-none : goal.returns-in-Some-clause-none
returns-in-Some-clause-none g c image there loaded index w role none =
    no-bits-read image c.args.entry loaded index w role (replicate 8256 0) c.read.new.out c.in_ok-len.len room (c.in_ok-len.ensures.piece image there) (let long = length-replicate {A = ℕ} 8256 0 in let same = c.read.auto.out in omega (arith, long, same)) (sym c.has_bits.ensures ∙ none)

pub returns-in_err-len-clause-damaged : goal.returns-in_err-len-clause-damaged
returns-in_err-len-clause-damaged g c =
    handed c.read.result c.from_residual.result c.in_err-len.field-0.0 _ c.args.files.now (g.F.Folder.told c.read.new.f)
    (λ damage wrong. moved c.args.files.now (g.F.Folder.told c.args.folder.now) (g.F.Folder.told c.read.new.f) damage c.read.ensures.reads.stays (read-checked c.args.files.now (g.F.Folder.told c.args.folder.now) c.args.entry _ _ _ damage c.requires.kind c.requires.stands wrong))
    c.in_err-len.was c.from_residual.ensures.1 c.read.ensures.damaged

pub returns-in-None-clause-damaged : goal.returns-in-None-clause-damaged
returns-in-None-clause-damaged g c =
    let d = c.record_damage.ensures in
    err_damaged IndexedParts c.record_damage.result d.damage (IsFailedCheck c.args.files.now (g.F.Folder.told c.read.new.f)) d.is
    (moved c.args.files.now (g.F.Folder.told c.args.folder.now) (g.F.Folder.told c.read.new.f) d.damage c.in_ok-len.ensures.reads.stays
    (within-checked c.args.files.now (g.F.Folder.told c.args.folder.now) c.args.entry d.damage c.requires.kind c.requires.stands (WrongIndex (record {
      of_word = d.word;
      unlike = λ image there. no-index (stream_bytes image c.args.entry 2) (replicate 8256 0) c.read.new.out c.in_ok-len.len (c.in_ok-len.ensures.bytes image there) room c.read-2.result c.in-None.is c.read-2.ensures.fields;
    }))))
