use Rattle.std.proofs.Common.{◌≡◌, ◌+◌, inl, ℕ, length, None, Option, Some, arith}
use Rattle.spec_image.proofs.Runs.{passes_weaker}
use Rattle.blk_io.proofs.Carried.{carried, if_damaged_weaker}
use Rattle.blk_stream.proofs.Placements.{both_fill, fill_untold}
use Rattle.blk_stream.proofs.PlaceStages.{filled_staged, filling_stages}
use Rattle.blk_stream.proofs.StoredNew.{no_place, nothing_old, nowhere, place_stores}
use Rattle.blk_stream.proofs.StreamPlaces.{keeps_inside, may_both, stored_some}
use Rattle.blk_stream.proofs.storing.store_new.Goals as goal

pub fill-requires-clause-old : goal.fill-requires-clause-old
fill-requires-clause-old g c = no_place c.new_place.new.files

pub fill-requires-clause-inside : goal.fill-requires-clause-inside
fill-requires-clause-inside g c = keeps_inside c.new_place.new.files (c.args.offset + length c.args.bytes.now) c.in_ok-addr.addr 0 (c.args.offset + length c.args.bytes.now) (may_both c.new_place.new.files (c.args.offset + length c.args.bytes.now) c.in_ok-addr.addr c.requires.most c.in_ok-addr.ensures.stores) (omega arith)

pub returns-in_err-addr-clause-stages : goal.returns-in_err-addr-clause-stages
returns-in_err-addr-clause-stages g c from there can = passes_weaker (c.in_err-addr.ensures.stages from there can) (λ image h. inl h) (λ image h. inl h)

pub returns-in_err-fill-clause-stages : goal.returns-in_err-fill-clause-stages
returns-in_err-fill-clause-stages g c from there can =
    filling_stages c.args.files.now c.new_place.new.files nowhere c.in_ok-addr.addr (c.args.offset + length c.args.bytes.now) (g.F.Folder.told c.args.folder.now) (g.F.Folder.told c.new_place.new.folder) (g.F.Folder.told c.fill.new.folder) (omega (arith, c.requires.some)) c.in_ok-addr.ensures.stages c.in_ok-addr.ensures.takes c.in_err-fill.ensures.stops
    from there (nothing_old c.args.files.now (c.args.offset + length c.args.bytes.now) from can)

pub returns-clause-stages : goal.returns-clause-stages
returns-clause-stages g c from there can =
    filling_stages c.args.files.now c.new_place.new.files nowhere c.in_ok-addr.addr (c.args.offset + length c.args.bytes.now) (g.F.Folder.told c.args.folder.now) (g.F.Folder.told c.new_place.new.folder) (g.F.Folder.told c.fill.new.folder) (omega (arith, c.requires.some)) c.in_ok-addr.ensures.stages c.in_ok-addr.ensures.takes c.in_ok-fill.ensures.stops
    from there (nothing_old c.args.files.now (c.args.offset + length c.args.bytes.now) from can)

pub returns-in_err-fill-clause-damaged : goal.returns-in_err-fill-clause-damaged
returns-in_err-fill-clause-damaged g c =
    carried c.fill.result c.from_residual-in_err-fill.result c.in_err-fill.field-0.0 _ c.in_err-fill.was c.from_residual-in_err-fill.ensures.1
    (if_damaged_weaker c.fill.result _ _ (λ damage cut. absurd (let z : ◌≡◌ {A = Option ℕ} None (Some cut.word) = cut.is in cc)) c.fill.ensures.damaged)

pub returns-in_err-fill-clause-untold : goal.returns-in_err-fill-clause-untold
returns-in_err-fill-clause-untold g c can =
    carried c.fill.result c.from_residual-in_err-fill.result c.in_err-fill.field-0.0 (λ _. (g.F.Folder.told c.args.folder.now).files ≡ None) c.in_err-fill.was c.from_residual-in_err-fill.ensures.1
    (fill_untold c.args.files.now c.new_place.new.files nowhere c.in_ok-addr.addr (c.args.offset + length c.args.bytes.now) c.args.offset c.args.bytes.now (g.F.Folder.told c.args.folder.now) (g.F.Folder.told c.new_place.new.folder) (g.F.Folder.told c.fill.new.folder) c.requires.agrees (no_place c.args.files.now) (omega (arith, c.requires.some)) (may_both c.new_place.new.files (c.args.offset + length c.args.bytes.now) c.in_ok-addr.addr c.requires.most c.in_ok-addr.ensures.stores) c.in_ok-addr.ensures.stops c.in_ok-addr.ensures.placed
    c.fill.result c.fill.ensures.untold c.new_place.ensures.writes.silent (λ from there. nothing_old c.args.files.now (c.args.offset + length c.args.bytes.now) from (can from there)))

pub returns-clause-fits : goal.returns-clause-fits
returns-clause-fits g c = may_both c.new_place.new.files (c.args.offset + length c.args.bytes.now) c.in_ok-addr.addr c.requires.most c.in_ok-addr.ensures.stores

pub returns-clause-stored : goal.returns-clause-stored
returns-clause-stored g c from there can image now =
    let fits = may_both c.new_place.new.files (c.args.offset + length c.args.bytes.now) c.in_ok-addr.addr c.requires.most c.in_ok-addr.ensures.stores in
    place_stores c.args.files.now c.new_place.new.files c.in_ok-addr.addr c.args.offset c.args.bytes.now from image (c.fill.ensures.agrees image now) fits
    (both_fill c.args.files.now c.new_place.new.files nowhere c.in_ok-addr.addr (c.args.offset + length c.args.bytes.now) c.args.offset c.args.bytes.now (g.F.Folder.told c.args.folder.now) (g.F.Folder.told c.new_place.new.folder) (g.F.Folder.told c.fill.new.folder) c.requires.agrees (no_place c.args.files.now) (omega (arith, c.requires.some)) fits c.in_ok-addr.ensures.stops c.in_ok-addr.ensures.placed c.in_ok-fill.ensures.stops c.in_ok-fill.ensures.filled
    from there (nothing_old c.args.files.now (c.args.offset + length c.args.bytes.now) from can) image now)

pub returns-clause-staged : goal.returns-clause-staged
returns-clause-staged g c from there can =
    let fits = may_both c.new_place.new.files (c.args.offset + length c.args.bytes.now) c.in_ok-addr.addr c.requires.most c.in_ok-addr.ensures.stores in
    filled_staged c.args.files.now c.new_place.new.files nowhere c.in_ok-addr.addr (c.args.offset + length c.args.bytes.now) (g.F.Folder.told c.args.folder.now) (g.F.Folder.told c.new_place.new.folder) (g.F.Folder.told c.fill.new.folder) (omega (arith, c.requires.some)) c.in_ok-addr.ensures.stages c.in_ok-addr.ensures.takes c.in_ok-fill.ensures.stops
    (stored_some c.new_place.new.files (c.args.offset + length c.args.bytes.now) c.in_ok-addr.addr (omega (arith, c.requires.some)) c.in_ok-addr.ensures.stores)
    (λ from there can image now. (both_fill c.args.files.now c.new_place.new.files nowhere c.in_ok-addr.addr (c.args.offset + length c.args.bytes.now) c.args.offset c.args.bytes.now (g.F.Folder.told c.args.folder.now) (g.F.Folder.told c.new_place.new.folder) (g.F.Folder.told c.fill.new.folder) c.requires.agrees (no_place c.args.files.now) (omega (arith, c.requires.some)) fits c.in_ok-addr.ensures.stops c.in_ok-addr.ensures.placed c.in_ok-fill.ensures.stops c.in_ok-fill.ensures.filled from there can image now).long)
    from there (nothing_old c.args.files.now (c.args.offset + length c.args.bytes.now) from can)
