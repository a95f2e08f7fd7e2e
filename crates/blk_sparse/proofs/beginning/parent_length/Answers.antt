use Rattle.std.proofs.Common.{Err, ◌≡◌, ℕ, arith, inl, inr, None, subst, sym, ◌∙◌}
use Rattle.blk_io.proofs.Carried.{carried, untold_where}
use Rattle.blk_entry.proofs.KeyPlaces.{damaged_any, err_damaged}
use Rattle.blk_entry.specs.Keys.{IsWordOf}
use Rattle.blk_object.specs.FailedChecks.{IsFailedCheck, WrongLength}
use Rattle.blk_object.proofs.DamageChecks.{handed, head-checked, moved, within-checked}
use Rattle.blk_sparse.proofs.beginning.parent_length.Goals.{then-head-eq0-via-then-head-eq0, then-head-eq0-via-else-head-eq0+then-head-gt-LONGEST_KEY}
use Rattle.blk_sparse.proofs.beginning.parent_length.Goals as goal

pub returns-in_err-head-clause-untold : goal.returns-in_err-head-clause-untold
returns-in_err-head-clause-untold g c agrees lies =
    carried c.read_head.result c.from_residual.result c.in_err-head.field-0.0 (λ _. (g.F.Folder.told c.args.folder.now).files ≡ None) c.in_err-head.was c.from_residual.ensures.1
    (c.read_head.ensures.untold agrees (λ image there. (lies image there).checks))

pub returns-in_err-head-clause-damaged : goal.returns-in_err-head-clause-damaged
returns-in_err-head-clause-damaged g c =
    handed c.read_head.result c.from_residual.result c.in_err-head.field-0.0 _ c.args.files.now (g.F.Folder.told c.read_head.new.folder)
    (λ damage wrong. moved c.args.files.now (g.F.Folder.told c.args.folder.now) (g.F.Folder.told c.read_head.new.folder) damage c.read_head.ensures.reads.stays (head-checked c.args.files.now (g.F.Folder.told c.args.folder.now) c.args.entry damage c.requires.kind c.requires.stands wrong))
    c.in_err-head.was c.from_residual.ensures.1 c.read_head.ensures.damaged

pub returns-then-head-eq0-clause-untold : goal.returns-then-head-eq0-clause-untold
returns-then-head-eq0-clause-untold g c agrees lies =
    damaged_any {A = ℕ} (Err c.record_damage.result) ((g.F.Folder.told c.args.folder.now).files ≡ None)
    (untold_where (g.F.Folder.told c.args.folder.now).files (λ image there.
    let said = (c.in_ok-head.ensures.head image there).key_len in
    let some = (lies image there).some in
    let short = (lies image there).short in
    elim c.then-head-eq0.branch [
      | then-head-eq0-via-then-head-eq0 w ↦ let none = w.if-head-eq0 in omega (arith, none, said, some)
      | then-head-eq0-via-else-head-eq0+then-head-gt-LONGEST_KEY w ↦ let long = w.if-head-gt-LONGEST_KEY in omega (arith, long, said, short)
    ]))

pub returns-clause-length : goal.returns-clause-length
returns-clause-length g c image there = (c.in_ok-head.ensures.head image there).key_len

pub returns-then-head-eq0-clause-damaged : goal.returns-then-head-eq0-clause-damaged
returns-then-head-eq0-clause-damaged g c =
    let d = c.record_damage.ensures in
    let found : d.damage.found ≡ c.in_ok-head.head.key_len = d.word.of_word in
    err_damaged ℕ c.record_damage.result d.damage (IsFailedCheck c.args.files.now (g.F.Folder.told c.read_head.new.folder)) d.is
    (moved c.args.files.now (g.F.Folder.told c.args.folder.now) (g.F.Folder.told c.read_head.new.folder) d.damage c.in_ok-head.ensures.reads.stays
    (within-checked c.args.files.now (g.F.Folder.told c.args.folder.now) c.args.entry d.damage c.requires.kind c.requires.stands (WrongLength (record {
      of_word = subst (λ (n : ℕ). IsWordOf c.args.entry 32 n d.damage) (sym found) d.word;
      unlike = elim c.then-head-eq0.branch [
        | then-head-eq0-via-then-head-eq0 w ↦ let none = w.if-head-eq0 in inl (omega (arith, none, found))
        | then-head-eq0-via-else-head-eq0+then-head-gt-LONGEST_KEY w ↦ let long = w.if-head-gt-LONGEST_KEY in inr (omega (arith, long, found))
      ];
      there = λ image there. found ∙ (c.in_ok-head.ensures.head image there).key_len;
    }))))
