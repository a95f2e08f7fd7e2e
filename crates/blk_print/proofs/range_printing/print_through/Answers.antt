use Rattle.std.proofs.Common.{◌≡◌, ◌+◌, ◌*◌, ℕ, List, None, Err, arith, subst}
use Rattle.hex.specs.Hex.{encode_lower}
use Rattle.blk_io.proofs.Carried.{carried, untold_where}
use Rattle.blk_chain.proofs.Heads.{names-parts}
use Rattle.blk_entry.proofs.KeyPlaces.{damaged_any, err_damaged}
use Rattle.blk_evict.specs.RoomPrinting.{PrintsUnlessFailed}
use Rattle.blk_print.proofs.PrintedRanges.{all-read, not-short}
use Rattle.blk_object.proofs.DamageChecks.{handed, moved, read-checked, within-checked}
use Rattle.blk_object.specs.FailedChecks.{IsFailedCheck, WrongSize}
use Rattle.blk_entry.specs.Keys.{IsWordOf}
use Rattle.blk_evict.proofs.LookDamages.{ends-too-soon}
use Rattle.blk_print.proofs.range_printing.print_through.Goals as goal

pub read-requires-clause-kind : goal.read-requires-clause-kind
read-requires-clause-kind g c = let p = names-parts c.args.files.now c.args.range.now.entry c.requires.names in p.1.0

pub read-requires-clause-stands : goal.read-requires-clause-stands
read-requires-clause-stands g c = let p = names-parts c.args.files.now c.args.range.now.entry c.requires.names in p.1.1

pub returns-in_err-number-clause-untold : goal.returns-in_err-number-clause-untold
returns-in_err-number-clause-untold g c has =
    carried c.read.result c.from_residual.result c.in_err-number.field-0.0 (λ _. (g.F.Folder.told c.args.folder.now).files ≡ None) c.in_err-number.was c.from_residual.ensures.1
    (c.read.ensures.untold (λ image there. (has image there).readable))

pub record_damage-requires-clause-kind : goal.record_damage-requires-clause-kind
record_damage-requires-clause-kind g c = let p = names-parts c.args.files.now c.args.range.now.entry c.requires.names in p.1.0

pub returns-then-number-piece-clause-untold : goal.returns-then-number-piece-clause-untold
returns-then-number-piece-clause-untold g c has = damaged_any {A = Unit {0}} (Err c.record_damage.result) ((g.F.Folder.told c.args.folder.now).files ≡ None)
    (untold_where (g.F.Folder.told c.args.folder.now).files (λ image there.
    let p = has image there in
    not-short c.args.files.now c.args.range.now image p c.args.piece.now c.read.new.out c.in_ok-number.number c.requires.long (c.in_ok-number.ensures.piece image there p.streams p.here) c.if-number-piece.true))

pub returns-clause-printed : goal.returns-clause-printed
returns-clause-printed g c image there p =
    let all = all-read c.args.files.now c.args.range.now image p c.args.piece.now c.read.new.out c.in_ok-number.number c.requires.long (c.in_ok-number.ensures.piece image there p.streams p.here) in
    subst (λ (bytes : List ℕ). PrintsUnlessFailed c.args.failed.now c.say_bytes.new.failed (g.K.Sink.written c.args.out.now) (g.K.Sink.written c.say_bytes.new.out) (encode_lower bytes)) all.1 c.say_bytes.ensures.prints

pub returns-in_err-number-clause-damaged : goal.returns-in_err-number-clause-damaged
returns-in_err-number-clause-damaged g c =
    let p = names-parts c.args.files.now c.args.range.now.entry c.requires.names in
    handed c.read.result c.from_residual.result c.in_err-number.field-0.0 _ c.args.files.now (g.F.Folder.told c.read.new.f)
    (λ damage wrong. moved c.args.files.now (g.F.Folder.told c.args.folder.now) (g.F.Folder.told c.read.new.f) damage c.read.ensures.reads.stays (read-checked c.args.files.now (g.F.Folder.told c.args.folder.now) c.args.range.now.entry _ _ _ damage p.1.0 p.1.1 wrong))
    c.in_err-number.was c.from_residual.ensures.1 c.read.ensures.damaged

pub returns-then-number-piece-clause-damaged : goal.returns-then-number-piece-clause-damaged
returns-then-number-piece-clause-damaged g c =
    let d = c.record_damage.ensures in
    let p = names-parts c.args.files.now c.args.range.now.entry c.requires.names in
    err_damaged (Unit {0}) c.record_damage.result d.damage (IsFailedCheck c.args.files.now (g.F.Folder.told c.read.new.f)) d.is
    (moved c.args.files.now (g.F.Folder.told c.args.folder.now) (g.F.Folder.told c.read.new.f) d.damage c.in_ok-number.ensures.reads.stays
    (within-checked c.args.files.now (g.F.Folder.told c.args.folder.now) c.args.range.now.entry d.damage p.1.0 p.1.1 (WrongSize
    (ends-too-soon (g.F.Folder.told c.args.folder.now) c.args.range.now.entry c.args.range.now.stream c.args.range.now.offset c.in_ok-number.number c.args.piece.now c.read.new.out d.damage
    (subst (λ (i : ℕ). IsWordOf c.args.range.now.entry (40 + 4 * i) c.in_ok-number.number d.damage) c.from.ensures d.word)
    (let few = c.if-number-piece.true in let same = c.read.auto.out in omega (arith, few, same))
    c.in_ok-number.ensures.bytes))))
