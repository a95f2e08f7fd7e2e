use Rattle.std.proofs.Common.{◌≡◌, ℕ, inl, inr, None, true, refl, sym, ◌∙◌, subst, arith}
use Rattle.spec_image.proofs.Runs.{passes_none, passes_weaker, some_inj}
use Rattle.blk_io.proofs.Carried.{carried, if_damaged_weaker}
use Rattle.blk_stream.specs.Streams.{may_keep}
use Rattle.blk_stream.specs.Stages.{FillsByStage}
use Rattle.blk_stream.specs.Moving.{FillsInProgress, IsFillDamage, IsPlaceFilled}
use Rattle.blk_stream.proofs.Placements.{both_fill, both_pass, fill_untold, none_filled, place_still}
use Rattle.blk_stream.proofs.PlaceStages.{filled_staged, filling_stages, still_whole}
use Rattle.blk_stream.proofs.StreamPlaces.{keeps_inside, may_both, stored_some, zero_kept}
use Rattle.blk_stream.proofs.moving.filled_place.Goals as goal

pub returns-then-size-eq0-clause-fits : goal.returns-then-size-eq0-clause-fits
returns-then-size-eq0-clause-fits g c = subst (λ (n : ℕ). may_keep c.args.files.now n 0 ≡ true) (sym c.if-size-eq0.true) (zero_kept c.args.files.now)

pub returns-then-size-eq0-clause-filled : goal.returns-then-size-eq0-clause-filled
returns-then-size-eq0-clause-filled g c from there can image now =
    subst (IsPlaceFilled c.args.files.now c.args.old 0 c.args.size c.args.offset c.args.bytes.now from) (some_inj (sym there ∙ now))
    (none_filled c.args.files.now c.args.old c.args.size c.args.offset c.args.bytes.now from (c.requires.agrees from there) c.if-size-eq0.true c.requires.few)

pub returns-then-size-eq0-clause-stops : goal.returns-then-size-eq0-clause-stops
returns-then-size-eq0-clause-stops g c from there can =
    let filled = none_filled c.args.files.now c.args.old c.args.size c.args.offset c.args.bytes.now from (c.requires.agrees from there) c.if-size-eq0.true c.requires.few in
    passes_none (FillsInProgress c.args.files.now c.args.files.now c.args.size from) refl
    (λ image now. subst (FillsInProgress c.args.files.now c.args.files.now c.args.size from) (some_inj (sym there ∙ now)) (inr (record { word = 0; fits = subst (λ (n : ℕ). may_keep c.args.files.now n 0 ≡ true) (sym c.if-size-eq0.true) (zero_kept c.args.files.now); made = filled.made; placed = filled.placed; same = filled.same })))

pub returns-in_err-addr-clause-stops : goal.returns-in_err-addr-clause-stops
returns-in_err-addr-clause-stops g c from there can =
    passes_weaker (c.in_err-addr.ensures.stops from there (can.room (omega (arith, c.if-size-eq0.false)))) (λ image h. inl h) (λ image h. inl h)

pub returns-in_err-addr-clause-untold : goal.returns-in_err-addr-clause-untold
returns-in_err-addr-clause-untold g c can =
    carried c.new_place.result c.from_residual.result c.in_err-addr.field-0.0 (λ _. (g.F.Folder.told c.args.folder.now).files ≡ None) c.in_err-addr.was c.from_residual.ensures.1
    (c.new_place.ensures.untold (λ from there. (can from there).room (omega (arith, c.if-size-eq0.false))))

pub fill-requires-clause-old : goal.fill-requires-clause-old
fill-requires-clause-old g c = place_still c.args.files.now c.new_place.new.files c.args.old c.new_place.ensures.keeps c.requires.old

pub fill-requires-clause-inside : goal.fill-requires-clause-inside
fill-requires-clause-inside g c = keeps_inside c.new_place.new.files c.args.size c.in_ok-addr.addr 0 c.args.size (may_both c.new_place.new.files c.args.size c.in_ok-addr.addr c.requires.size c.in_ok-addr.ensures.stores) (omega arith)

pub returns-in_err-fill-clause-stops : goal.returns-in_err-fill-clause-stops
returns-in_err-fill-clause-stops g c = both_pass c.args.files.now c.new_place.new.files c.args.old c.in_ok-addr.addr c.args.size c.args.offset c.args.bytes.now (g.F.Folder.told c.args.folder.now) (g.F.Folder.told c.new_place.new.folder) (g.F.Folder.told c.fill.new.folder) c.requires.agrees c.requires.old (omega (arith, c.if-size-eq0.false)) (may_both c.new_place.new.files c.args.size c.in_ok-addr.addr c.requires.size c.in_ok-addr.ensures.stores) c.in_ok-addr.ensures.stops c.in_ok-addr.ensures.placed c.in_err-fill.ensures.stops

pub returns-clause-stops : goal.returns-clause-stops
returns-clause-stops g c = both_pass c.args.files.now c.new_place.new.files c.args.old c.in_ok-addr.addr c.args.size c.args.offset c.args.bytes.now (g.F.Folder.told c.args.folder.now) (g.F.Folder.told c.new_place.new.folder) (g.F.Folder.told c.fill.new.folder) c.requires.agrees c.requires.old (omega (arith, c.if-size-eq0.false)) (may_both c.new_place.new.files c.args.size c.in_ok-addr.addr c.requires.size c.in_ok-addr.ensures.stores) c.in_ok-addr.ensures.stops c.in_ok-addr.ensures.placed c.in_ok-fill.ensures.stops

pub returns-clause-fits : goal.returns-clause-fits
returns-clause-fits g c = may_both c.new_place.new.files c.args.size c.in_ok-addr.addr c.requires.size c.in_ok-addr.ensures.stores

pub returns-clause-filled : goal.returns-clause-filled
returns-clause-filled g c = both_fill c.args.files.now c.new_place.new.files c.args.old c.in_ok-addr.addr c.args.size c.args.offset c.args.bytes.now (g.F.Folder.told c.args.folder.now) (g.F.Folder.told c.new_place.new.folder) (g.F.Folder.told c.fill.new.folder) c.requires.agrees c.requires.old (omega (arith, c.if-size-eq0.false)) (may_both c.new_place.new.files c.args.size c.in_ok-addr.addr c.requires.size c.in_ok-addr.ensures.stores) c.in_ok-addr.ensures.stops c.in_ok-addr.ensures.placed c.in_ok-fill.ensures.stops c.in_ok-fill.ensures.filled

pub returns-in_err-fill-clause-damaged : goal.returns-in_err-fill-clause-damaged
returns-in_err-fill-clause-damaged g c =
    carried c.fill.result c.from_residual-in_err-fill.result c.in_err-fill.field-0.0 (IsFillDamage c.args.files.now c.new_place.new.files c.args.old c.args.size (g.F.Folder.told c.args.folder.now) (g.F.Folder.told c.fill.new.folder)) c.in_err-fill.was c.from_residual-in_err-fill.ensures.1
    (if_damaged_weaker c.fill.result _ _ (λ damage cut. inr cut) c.fill.ensures.damaged)

pub returns-in_err-fill-clause-untold : goal.returns-in_err-fill-clause-untold
returns-in_err-fill-clause-untold g c can =
    carried c.fill.result c.from_residual-in_err-fill.result c.in_err-fill.field-0.0 (λ _. (g.F.Folder.told c.args.folder.now).files ≡ None) c.in_err-fill.was c.from_residual-in_err-fill.ensures.1
    (fill_untold c.args.files.now c.new_place.new.files c.args.old c.in_ok-addr.addr c.args.size c.args.offset c.args.bytes.now (g.F.Folder.told c.args.folder.now) (g.F.Folder.told c.new_place.new.folder) (g.F.Folder.told c.fill.new.folder) c.requires.agrees c.requires.old (omega (arith, c.if-size-eq0.false)) (may_both c.new_place.new.files c.args.size c.in_ok-addr.addr c.requires.size c.in_ok-addr.ensures.stores) c.in_ok-addr.ensures.stops c.in_ok-addr.ensures.placed c.fill.result c.fill.ensures.untold c.new_place.ensures.writes.silent can)

pub returns-then-size-eq0-clause-staged : goal.returns-then-size-eq0-clause-staged
returns-then-size-eq0-clause-staged g c from there can image now = some_inj (sym now ∙ there)

pub returns-then-size-eq0-clause-stages : goal.returns-then-size-eq0-clause-stages
returns-then-size-eq0-clause-stages g c from there can =
    passes_none (FillsByStage c.args.files.now c.args.files.now from) refl (λ image now. subst (FillsByStage c.args.files.now c.args.files.now from) (some_inj (sym there ∙ now)) (inl (inl (still_whole from))))

pub returns-in_err-addr-clause-stages : goal.returns-in_err-addr-clause-stages
returns-in_err-addr-clause-stages g c from there can =
    passes_weaker (c.in_err-addr.ensures.stages from there (can.room (omega (arith, c.if-size-eq0.false)))) (λ image h. inl h) (λ image h. inl h)

pub returns-in_err-fill-clause-stages : goal.returns-in_err-fill-clause-stages
returns-in_err-fill-clause-stages g c = filling_stages c.args.files.now c.new_place.new.files c.args.old c.in_ok-addr.addr c.args.size (g.F.Folder.told c.args.folder.now) (g.F.Folder.told c.new_place.new.folder) (g.F.Folder.told c.fill.new.folder) (omega (arith, c.if-size-eq0.false)) c.in_ok-addr.ensures.stages c.in_ok-addr.ensures.takes c.in_err-fill.ensures.stops

pub returns-clause-stages : goal.returns-clause-stages
returns-clause-stages g c = filling_stages c.args.files.now c.new_place.new.files c.args.old c.in_ok-addr.addr c.args.size (g.F.Folder.told c.args.folder.now) (g.F.Folder.told c.new_place.new.folder) (g.F.Folder.told c.fill.new.folder) (omega (arith, c.if-size-eq0.false)) c.in_ok-addr.ensures.stages c.in_ok-addr.ensures.takes c.in_ok-fill.ensures.stops

pub returns-clause-staged : goal.returns-clause-staged
returns-clause-staged g c =
    filled_staged c.args.files.now c.new_place.new.files c.args.old c.in_ok-addr.addr c.args.size (g.F.Folder.told c.args.folder.now) (g.F.Folder.told c.new_place.new.folder) (g.F.Folder.told c.fill.new.folder) (omega (arith, c.if-size-eq0.false)) c.in_ok-addr.ensures.stages c.in_ok-addr.ensures.takes c.in_ok-fill.ensures.stops
    (stored_some c.new_place.new.files c.args.size c.in_ok-addr.addr (omega (arith, c.if-size-eq0.false)) c.in_ok-addr.ensures.stores)
    (λ from there can image now. (both_fill c.args.files.now c.new_place.new.files c.args.old c.in_ok-addr.addr c.args.size c.args.offset c.args.bytes.now (g.F.Folder.told c.args.folder.now) (g.F.Folder.told c.new_place.new.folder) (g.F.Folder.told c.fill.new.folder) c.requires.agrees c.requires.old (omega (arith, c.if-size-eq0.false)) (may_both c.new_place.new.files c.args.size c.in_ok-addr.addr c.requires.size c.in_ok-addr.ensures.stores) c.in_ok-addr.ensures.stops c.in_ok-addr.ensures.placed c.in_ok-fill.ensures.stops c.in_ok-fill.ensures.filled from there can image now).long)
