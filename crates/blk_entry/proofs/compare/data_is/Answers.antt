use Rattle.std.proofs.Common.{◌≡◌, None, inl, inr, ⊎_elim, ◌+◌, ◌-◌, ◌%◌, ◌<◌, ◌≤◌, length, Some, sym, ◌∙◌, ap, subst, refl, arith}
use Rattle.std.specs.Option.{ForSome}
use Rattle.spec_image.specs.Image.{HasRange, byte}
use Rattle.spec_image.specs.Told.{Told}
use Rattle.blk_disk.specs.Tables.{Agrees}
use Rattle.std.proofs.lemmas.Bool.{eqb-true}
use Rattle.blk_io.specs.Faults.{IfDamaged}
use Rattle.blk_io.proofs.Carried.{carried, if_damaged_weaker}
use Rattle.blk_entry.specs.Keys.{IsCutPiece, data_at, data_file, data_start}
use Rattle.blk_entry.proofs.KeyPlaces.{clash, first_same, next_is_cut, next_same, none_same, next_pieces, some_left}
use Rattle.blk_entry.proofs.compare.data_is.Goals as goal

pub loop-rest-init : goal.loop-rest-init
loop-rest-init g c = record {
  told = refl;
  later = omega arith;
  order = omega arith;
  sum = refl;
  pieces = inl (let e : (c.args.at - c.args.at) % 16398 ≡ 0 = omega arith in e);
  inside = c.requires.inside;
  there = λ image there. inr refl;
  same = λ image there. (λ h. h, λ h. h);
}

pub returns-in_err-piece_is-clause-untold : goal.returns-in_err-piece_is-clause-untold
returns-in_err-piece_is-clause-untold g c agrees external =
    subst (λ (t : Told). IfDamaged c.from_residual.result (λ _. t.files ≡ None)) c.loop-rest.invariant.told
    (carried c.piece_is.result c.from_residual.result c.in_err-piece_is.field-0.0 (λ _. (g.F.Folder.told c.loop-rest.folder).files ≡ None) c.in_err-piece_is.was c.from_residual.ensures.1
    (c.piece_is.ensures.untold (subst (λ (t : Told). ForSome t.files (Agrees c.args.files.now)) (sym c.loop-rest.invariant.told) agrees)
    (λ image now outside. let there : (g.F.Folder.told c.args.folder.now).files ≡ Some image = ap (λ (t : Told). t.files) (sym c.loop-rest.invariant.told) ∙ now in
    let h = external image there outside in
    let order = c.loop-rest.invariant.order in
    let sum = c.loop-rest.invariant.sum in
    omega (arith, h, order, sum, c.split_at.ensures.front_len, c.min.ensures))))

pub returns-clause-there : goal.returns-clause-there
returns-clause-there g c same image there =
    let none : length c.loop-rest.rest.now ≡ 0 = eqb-true (length c.loop-rest.rest.now) 0 (sym c.is_empty.ensures ∙ c.loop-rest-test.false) in
    let sum = c.loop-rest.invariant.sum in
    let all : c.loop-rest.place - c.args.at ≡ length c.args.bytes.now = omega (arith, none, sum) in
    ⊎_elim (λ (h : HasRange image (data_file c.args.addr) (data_start c.args.addr + c.args.at) (c.loop-rest.place - c.args.at)). inl (omega (arith, h, all)))
    (λ (e : c.loop-rest.place ≡ c.args.at). inr (omega (arith, none, sum, e))) (c.loop-rest.invariant.there image there)

pub returns-then-not-branch-clause-same : goal.returns-then-not-branch-clause-same
returns-then-not-branch-clause-same g c image there = (
  λ no. absurd (clash no),
  λ all. let now : (g.F.Folder.told c.loop-rest.folder).files ≡ Some image = ap (λ (t : Told). t.files) c.loop-rest.invariant.told ∙ there in
      let rest = (c.loop-rest.invariant.same image there).1 all in
      let fits : c.min.result ≤ length c.loop-rest.rest.now = omega (arith, c.min.ensures) in
      let piece = first_same image c.args.addr c.loop-rest.place c.min.result c.loop-rest.rest.now c.split_at.result.0.now c.split_at.result.1.now c.split_at.ensures.front c.split_at.ensures.back fits rest in
      sym c.if-not-branch.true ∙ (c.in_ok-piece_is.ensures.same image now).1 piece,
)

pub returns-in_err-piece_is-clause-short : goal.returns-in_err-piece_is-clause-short
returns-in_err-piece_is-clause-short g c =
    let order = c.loop-rest.invariant.order in
    let sum = c.loop-rest.invariant.sum in
    let some : 0 < length c.loop-rest.rest.now = some_left c.loop-rest.rest.now (sym c.is_empty.ensures ∙ c.loop-rest-test.true) in
    let whole : (c.loop-rest.place - c.args.at) % 16398 ≡ 0 = ⊎_elim (λ (e : (c.loop-rest.place - c.args.at) % 16398 ≡ 0). e) (λ (none : length c.loop-rest.rest.now ≡ 0). absurd (omega (arith, none, some))) c.loop-rest.invariant.pieces in
    carried c.piece_is.result c.from_residual.result c.in_err-piece_is.field-0.0 (IsCutPiece (g.F.Folder.told c.args.folder.now) c.args.addr c.args.at (length c.args.bytes.now)) c.in_err-piece_is.was c.from_residual.ensures.1
    (if_damaged_weaker c.piece_is.result _ _
    (λ damage cut. subst (λ (t : Told). IsCutPiece t c.args.addr c.args.at (length c.args.bytes.now) damage) c.loop-rest.invariant.told
    (next_is_cut (g.F.Folder.told c.loop-rest.folder) c.args.addr c.args.at (length c.args.bytes.now) c.loop-rest.place (length c.loop-rest.rest.now) (length c.split_at.result.0.now) damage order sum whole some
    (omega (arith, c.split_at.ensures.front_len, c.min.ensures)) cut))
    c.piece_is.ensures.short)

pub loop-rest-preserved : goal.loop-rest-preserved
loop-rest-preserved g c = record {
  told = c.in_ok-piece_is.ensures.reads.stays ∙ c.loop-rest.invariant.told;
  later = let a = c.in_ok-piece_is.ensures.reads.later in let b = c.loop-rest.invariant.later in omega (arith, a, b);
  order = let h = c.loop-rest.invariant.order in omega (arith, h);
  sum = let h = c.loop-rest.invariant.sum in omega (arith, h, sizes);
  pieces = ⊎_elim
      (λ (e : (c.loop-rest.place - c.args.at) % 16398 ≡ 0). next_pieces c.loop-rest.place c.args.at (length c.loop-rest.rest.now) (length c.split_at.result.0.now) (length c.split_at.result.1.now) c.loop-rest.invariant.order e (omega (arith, c.split_at.ensures.front_len, c.min.ensures)) sizes)
      (λ (none : length c.loop-rest.rest.now ≡ 0). inr (omega (arith, none, sizes))) c.loop-rest.invariant.pieces;
  inside = let i = c.loop-rest.invariant.inside in record {
    small = let h = i.small in omega (arith, h, sizes);
    stands = i.stands;
    room = λ block_kind. let h = i.room block_kind in omega (arith, h, sizes);
  };
  there = λ image there.
      let now : (g.F.Folder.told c.loop-rest.folder).files ≡ Some image = ap (λ (t : Told). t.files) c.loop-rest.invariant.told ∙ there in
      let order = c.loop-rest.invariant.order in
      let some : 0 < length c.loop-rest.rest.now = some_left c.loop-rest.rest.now (sym c.is_empty.ensures ∙ c.loop-rest-test.true) in
      ⊎_elim (λ (h : HasRange image (data_file c.args.addr) (data_start c.args.addr + c.loop-rest.place) (length c.split_at.result.0.now)). inl (omega (arith, h, order)))
      (λ (none : length c.split_at.result.0.now ≡ 0). absurd (omega (arith, none, some, c.split_at.ensures.front_len, c.min.ensures)))
      (c.in_ok-piece_is.ensures.there c.if-not-branch.false image now);
  same =
      λ image there. let now : (g.F.Folder.told c.loop-rest.folder).files ≡ Some image = ap (λ (t : Told). t.files) c.loop-rest.invariant.told ∙ there in
      next_same image c.args.addr c.loop-rest.place c.min.result c.loop-rest.rest.now c.split_at.result.0.now c.split_at.result.1.now c.split_at.ensures.front c.split_at.ensures.back fits
      (c.args.bytes.now ≡ data_at image c.args.addr c.args.at (length c.args.bytes.now))
      ((c.in_ok-piece_is.ensures.same image now).0 c.if-not-branch.false) (c.loop-rest.invariant.same image there);
}
  where
    fits : c.min.result ≤ length c.loop-rest.rest.now
    fits = omega (arith, c.min.ensures)

    sizes : length c.split_at.result.0.now + length c.split_at.result.1.now ≡ length c.loop-rest.rest.now
    sizes = omega (arith, c.split_at.ensures.front_len, c.split_at.ensures.back_len, fits)

pub returns-clause-same : goal.returns-clause-same
returns-clause-same g c image there = (
  λ yes. (c.loop-rest.invariant.same image there).0 (none_same (byte image (data_file c.args.addr)) (data_start c.args.addr + c.loop-rest.place) c.loop-rest.rest.now (sym c.is_empty.ensures ∙ c.loop-rest-test.false)),
  λ all. refl,
)
