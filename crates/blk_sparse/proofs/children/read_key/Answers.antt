use Rattle.std.proofs.Common.{Err, ◌≡◌, ℕ, arith, inl, inr, None, subst, sym}
use Rattle.blk_io.proofs.Carried.{carried, untold_where}
use Rattle.blk_object.proofs.OwnedPlaces.{loaded-checks}
use Rattle.blk_object.proofs.PartNames.{key-readable}
use Rattle.blk_entry.proofs.KeyPlaces.{damaged_any, err_damaged}
use Rattle.blk_sparse.proofs.ChildrenOut.{key-len, key-read}
use Rattle.blk_sparse.proofs.children.read_key.Goals.{then-len-eq0-via-then-len-eq0, then-len-eq0-via-else-len-eq0+then-len}
use Rattle.blk_object.proofs.DamageChecks.{handed, moved, part-checked, whole-length, within-checked}
use Rattle.blk_entry.specs.Keys.{IsWordOf}
use Rattle.blk_object.specs.FailedChecks.{IsFailedCheck, WrongLength}
use Rattle.blk_sparse.proofs.children.read_key.Goals as goal

pub returns-in_err-len-clause-untold : goal.returns-in_err-len-clause-untold
returns-in_err-len-clause-untold g c agrees lies =
    carried c.key_piece.result c.from_residual.result c.in_err-len.field-0.0 (λ _. (g.F.Folder.told c.args.folder.now).files ≡ None) c.in_err-len.was c.from_residual.ensures.1
    (c.key_piece.ensures.untold (λ image there.
    let has = (lies image there).1 in
    record {
      agrees = agrees image there;
      checks = loaded-checks image c.args.entry has.loaded (g.met.F.Folder.are_bytes c.args.folder.now image there) has.loads;
      key = key-readable image c.args.entry has.loaded has.loads;
    }))

pub returns-then-len-eq0-clause-untold : goal.returns-then-len-eq0-clause-untold
returns-then-len-eq0-clause-untold g c agrees lies =
    damaged_any {A = ℕ} (Err c.record_damage.result) ((g.F.Folder.told c.args.folder.now).files ≡ None)
    (untold_where (g.F.Folder.told c.args.folder.now).files (λ image there.
    let key = (lies image there).0 in
    let has = (lies image there).1 in
    let len = key-len image c.args.entry key c.args.name.now c.key_piece.new.out c.in_ok-len.len has c.requires.name (c.in_ok-len.ensures.piece image there) in
    let some = has.some in
    let short = has.short in
    elim c.then-len-eq0.branch [
      | then-len-eq0-via-then-len-eq0 w ↦ let none = w.if-len-eq0 in omega (arith, none, len, some)
      | then-len-eq0-via-else-len-eq0+then-len w ↦ let long = w.if-len in omega (arith, long, len, short)
    ]))

pub returns-clause-key : goal.returns-clause-key
returns-clause-key g c image there key has = key-read image c.args.entry key c.args.name.now c.key_piece.new.out c.in_ok-len.len has c.requires.name (c.in_ok-len.ensures.piece image there)

pub returns-in_err-len-clause-damaged : goal.returns-in_err-len-clause-damaged
returns-in_err-len-clause-damaged g c =
    handed c.key_piece.result c.from_residual.result c.in_err-len.field-0.0 _ c.args.files.now (g.F.Folder.told c.key_piece.new.f)
    (λ damage wrong. moved c.args.files.now (g.F.Folder.told c.args.folder.now) (g.F.Folder.told c.key_piece.new.f) damage c.key_piece.ensures.reads.stays (part-checked c.args.files.now (g.F.Folder.told c.args.folder.now) c.args.entry _ _ damage c.requires.kind c.requires.stands wrong))
    c.in_err-len.was c.from_residual.ensures.1 c.key_piece.ensures.damaged

pub returns-then-len-eq0-clause-damaged : goal.returns-then-len-eq0-clause-damaged
returns-then-len-eq0-clause-damaged g c =
    let d = c.record_damage.ensures in
    let least = c.min-found.ensures in
    let found : d.damage.found ≡ c.min-found.result = d.word.of_word in
    err_damaged ℕ c.record_damage.result d.damage (IsFailedCheck c.args.files.now (g.F.Folder.told c.key_piece.new.f)) d.is
    (moved c.args.files.now (g.F.Folder.told c.args.folder.now) (g.F.Folder.told c.key_piece.new.f) d.damage c.in_ok-len.ensures.reads.stays
    (within-checked c.args.files.now (g.F.Folder.told c.args.folder.now) c.args.entry d.damage c.requires.kind c.requires.stands (WrongLength (record {
      of_word = subst (λ (n : ℕ). IsWordOf c.args.entry 32 n d.damage) (sym found) d.word;
      unlike = elim c.then-len-eq0.branch [
        | then-len-eq0-via-then-len-eq0 w ↦ let none = w.if-len-eq0 in inl (omega (arith, none, found, least))
        | then-len-eq0-via-else-len-eq0+then-len w ↦ let long = w.if-len in inr (omega (arith, long, found, least))
      ];
      there = λ image there.
          let read = whole-length c.args.files.now image c.args.entry c.args.name.now c.key_piece.new.out c.in_ok-len.len (c.in_ok-len.ensures.bytes image there) (c.in_ok-len.ensures.placed image there) c.requires.name in
          let size = read.0 in
          let small = read.1 in
          omega (arith, found, least, size, small);
    }))))
