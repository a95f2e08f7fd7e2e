use Rattle.std.proofs.Common.{◌≡◌, None, sym, subst, ap, ◌∙◌}
use Rattle.std.specs.Option.{ForSome}
use Rattle.std.proofs.lemmas.Result.{on_ok_weaker}
use Rattle.spec_image.specs.Told.{Told}
use Rattle.spec_image.proofs.Runs.{passes_none, passes_stayed, some_inj}
use Rattle.blk_io.proofs.Carried.{carried, if_damaged_weaker}
use Rattle.blk_model.specs.Holding.{rest}
use Rattle.blk_disk.specs.Open.{IsOpen}
use Rattle.law_state.specs.Changes.{Finds}
use Rattle.blk_sparse.specs.Changing.{IsDataBeforeMap, LoadsAsPart}
use Rattle.blk_sparse.proofs.ChangedUsed.{change-ends, change-ordered, change-stops, change-untold, nothing-found, to-change}
use Rattle.blk_sparse.proofs.MapsRead.{loads-as}
use Rattle.blk_sparse.proofs.changing.change_part.Goals as goal

pub returns-in_err-map-clause-stops : goal.returns-in_err-map-clause-stops
returns-in_err-map-clause-stops g c from there state layout unlinked number object node entry signature n can at =
    passes_none (Finds (rest state)) c.in_err-map.ensures.reads.stays (λ image is. subst (Finds (rest state)) (some_inj (sym there ∙ is)) (nothing-found state layout unlinked number object node entry signature from can))

pub returns-in_err-map-clause-untold : goal.returns-in_err-map-clause-untold
returns-in_err-map-clause-untold g c from there state layout unlinked number object node entry signature n can at =
    carried c.read_map.result c.from_residual.result c.in_err-map.field-0.0 (λ _. (g.F.Folder.told c.args.folder.now).files ≡ None) c.in_err-map.was c.from_residual.ensures.1
    (c.read_map.ensures.untold (λ image is. (c.requires.is_open image is).agrees) (λ image is. subst (LoadsAsPart c.args.part) (some_inj (sym there ∙ is)) (loads-as state layout unlinked number object node entry signature from can.parent n c.args.part at)))

pub write_noted-requires-clause-is_open : goal.write_noted-requires-clause-is_open
write_noted-requires-clause-is_open g c = subst (λ (t : Told). ForSome t.files (IsOpen c.args.files.now)) (sym c.in_ok-map.ensures.reads.stays) c.requires.is_open

pub returns-in_err-write_noted-clause-stops : goal.returns-in_err-write_noted-clause-stops
returns-in_err-write_noted-clause-stops g c from there state layout unlinked number object node entry signature n can at =
    passes_stayed c.in_ok-map.ensures.reads.stays
    (c.in_err-write_noted.ensures.stops from (ap (λ (t : Told). t.files) c.in_ok-map.ensures.reads.stays ∙ there) state layout unlinked number object node entry signature n (to-change c.args.part c.args.place c.args.piece.now c.print_noted.new.out state layout unlinked number object node entry signature n from can at c.in_ok-map.map (c.in_ok-map.ensures.map from there) c.print_noted.ensures.noted))

pub returns-in_err-write_noted-clause-untold : goal.returns-in_err-write_noted-clause-untold
returns-in_err-write_noted-clause-untold g c from there state layout unlinked number object node entry signature n can at =
    let same = ap (λ (t : Told). t.files) c.in_ok-map.ensures.reads.stays in
    carried c.write_noted.result c.from_residual-in_err-write_noted.result c.in_err-write_noted.field-0.0 (λ _. (g.F.Folder.told c.args.folder.now).files ≡ None) c.in_err-write_noted.was c.from_residual-in_err-write_noted.ensures.1
    (if_damaged_weaker c.write_noted.result _ _ (λ damage none. sym same ∙ none) (c.write_noted.ensures.untold from (same ∙ there) state layout unlinked number object node entry signature n (to-change c.args.part c.args.place c.args.piece.now c.print_noted.new.out state layout unlinked number object node entry signature n from can at c.in_ok-map.map (c.in_ok-map.ensures.map from there) c.print_noted.ensures.noted)))

pub returns-clause-stops : goal.returns-clause-stops
returns-clause-stops g c from there state layout unlinked number object node entry signature n can at =
    let mid = ap (λ (t : Told). t.files) c.in_ok-map.ensures.reads.stays ∙ there in
    let t = (to-change c.args.part c.args.place c.args.piece.now c.print_noted.new.out state layout unlinked number object node entry signature n from can at c.in_ok-map.map (c.in_ok-map.ensures.map from there) c.print_noted.ensures.noted) in
    passes_stayed c.in_ok-map.ensures.reads.stays
    (change-stops c.args.part c.args.place c.args.piece.now c.print_noted.new.out state layout unlinked number object node entry signature n from can at (g.F.Folder.told c.read_map.new.folder) (g.F.Folder.told c.write_noted.new.folder) (g.F.Folder.told c.use_entry.new.folder) mid
    (c.in_ok-write_noted.ensures.stops from mid state layout unlinked number object node entry signature n t) (c.in_ok-write_noted.ensures.written from mid state layout unlinked number object node entry signature n t) c.use_entry.ensures.stops)

pub returns-clause-written : goal.returns-clause-written
returns-clause-written g c = on_ok_weaker c.use_entry.result
    (λ ends from there state layout unlinked number object node entry signature n can at.
    let mid = ap (λ (t : Told). t.files) c.in_ok-map.ensures.reads.stays ∙ there in
    let t = (to-change c.args.part c.args.place c.args.piece.now c.print_noted.new.out state layout unlinked number object node entry signature n from can at c.in_ok-map.map (c.in_ok-map.ensures.map from there) c.print_noted.ensures.noted) in
    change-ends c.args.part c.args.place c.args.piece.now c.print_noted.new.out state layout unlinked number object node entry signature n from can at (g.F.Folder.told c.read_map.new.folder) (g.F.Folder.told c.write_noted.new.folder) (g.F.Folder.told c.use_entry.new.folder) mid
    (c.in_ok-write_noted.ensures.stops from mid state layout unlinked number object node entry signature n t) (c.in_ok-write_noted.ensures.written from mid state layout unlinked number object node entry signature n t) ends)
    c.use_entry.ensures.used

pub returns-clause-ordered : goal.returns-clause-ordered
returns-clause-ordered g c = on_ok_weaker c.use_entry.result
    (λ ends from there state layout unlinked number object node entry signature n can at.
    let stays = c.in_ok-map.ensures.reads.stays in
    let mid = ap (λ (t : Told). t.files) stays ∙ there in
    let t = (to-change c.args.part c.args.place c.args.piece.now c.print_noted.new.out state layout unlinked number object node entry signature n from can at c.in_ok-map.map (c.in_ok-map.ensures.map from there) c.print_noted.ensures.noted) in
    subst (λ (a : Told). IsDataBeforeMap state unlinked number object n c.args.place c.args.piece.now a (g.F.Folder.told c.use_entry.new.folder)) stays
    (change-ordered c.args.part c.args.place c.args.piece.now c.print_noted.new.out state layout unlinked number object node entry signature n from can at (g.F.Folder.told c.read_map.new.folder) (g.F.Folder.told c.write_noted.new.folder) (g.F.Folder.told c.use_entry.new.folder) mid
    (c.in_ok-write_noted.ensures.stops from mid state layout unlinked number object node entry signature n t) (c.in_ok-write_noted.ensures.written from mid state layout unlinked number object node entry signature n t)
    (c.in_ok-write_noted.ensures.ordered from mid state layout unlinked number object node entry signature n t) c.use_entry.ensures.stops))
    c.use_entry.ensures.used

pub returns-clause-untold : goal.returns-clause-untold
returns-clause-untold g c from there state layout unlinked number object node entry signature n can at =
    let same = ap (λ (t : Told). t.files) c.in_ok-map.ensures.reads.stays in
    let mid = same ∙ there in
    let t = (to-change c.args.part c.args.place c.args.piece.now c.print_noted.new.out state layout unlinked number object node entry signature n from can at c.in_ok-map.map (c.in_ok-map.ensures.map from there) c.print_noted.ensures.noted) in
    if_damaged_weaker c.use_entry.result _ _ (λ damage none. sym same ∙ none)
    (change-untold c.args.part c.args.place c.args.piece.now c.print_noted.new.out state layout unlinked number object node entry signature n from can at (g.F.Folder.told c.read_map.new.folder) (g.F.Folder.told c.write_noted.new.folder) (g.F.Folder.told c.use_entry.new.folder) mid
    (c.in_ok-write_noted.ensures.stops from mid state layout unlinked number object node entry signature n t) (c.in_ok-write_noted.ensures.written from mid state layout unlinked number object node entry signature n t) c.use_entry.result c.use_entry.ensures.untold)
