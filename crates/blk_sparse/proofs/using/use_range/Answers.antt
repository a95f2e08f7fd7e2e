use Rattle.std.proofs.Common.{◌≡◌, sym, ◌∙◌, Option, Some, None, [], ◌∷◌}
use Rattle.std.specs.Int.{cast_unsigned, w64}
use Rattle.std.proofs.lemmas.Result.{IfOk-weaker, on_ok_weaker}
use Rattle.spec_image.specs.Image.{Image}
use Rattle.blk_io.proofs.Carried.{carried, if_damaged_weaker}
use Rattle.blk_model.specs.Items.{main}
use Rattle.blk_sparse.specs.SparseObjects.{parts_used, with_all_used}
use Rattle.blk_sparse.proofs.UsedMains.{its-main, main-further, main-stops, main-used}
use Rattle.blk_sparse.proofs.UsedParts.{mid, mid-used, then-stops, then-used}
use Rattle.blk_sparse.proofs.using.use_range.Goals as goal

pub returns-in_err-use_entry-clause-stops : goal.returns-in_err-use_entry-clause-stops
returns-in_err-use_entry-clause-stops g c from there state layout unlinked number object p =
    main-further (g.F.Folder.told c.args.folder.now) (g.F.Folder.told c.use_entry.new.folder) from there state layout unlinked number object c.args.parent.now.node c.args.parent.now.entry (cast_unsigned w64 c.args.parent.now.signature) p (parts_used object c.args.offset c.args.count)
    (c.in_err-use_entry.ensures.stops from there state layout unlinked (main object.key) (its-main (g.F.Folder.told c.args.folder.now) (g.F.Folder.told c.use_entry.new.folder) from there state layout unlinked number object c.args.parent.now.node c.args.parent.now.entry (cast_unsigned w64 c.args.parent.now.signature) p))

pub returns-in_err-use_entry-clause-untold : goal.returns-in_err-use_entry-clause-untold
returns-in_err-use_entry-clause-untold g c from there state layout unlinked number object p =
    carried c.use_entry.result c.from_residual.result c.in_err-use_entry.field-0.0 (λ _. (g.F.Folder.told c.args.folder.now).files ≡ None) c.in_err-use_entry.was c.from_residual.ensures.1
    (c.use_entry.ensures.untold from there state layout unlinked (main object.key) (its-main (g.F.Folder.told c.args.folder.now) (g.F.Folder.told c.use_entry.new.folder) from there state layout unlinked number object c.args.parent.now.node c.args.parent.now.entry (cast_unsigned w64 c.args.parent.now.signature) p))

pub returns-clause-run : goal.returns-clause-run
returns-clause-run g c = IfOk-weaker c.range.result _ _
    (λ _ run from there state layout unlinked number object p.
    let listed = its-main (g.F.Folder.told c.args.folder.now) (g.F.Folder.told c.use_entry.new.folder) from there state layout unlinked number object c.args.parent.now.node c.args.parent.now.entry (cast_unsigned w64 c.args.parent.now.signature) p in
    let stops = main-stops (g.F.Folder.told c.args.folder.now) (g.F.Folder.told c.use_entry.new.folder) from there state layout unlinked number object c.args.parent.now.node c.args.parent.now.entry (cast_unsigned w64 c.args.parent.now.signature) p (c.in_ok-use_entry.ensures.stops from there state layout unlinked (main object.key) listed) in
    let used = main-used (g.F.Folder.told c.args.folder.now) (g.F.Folder.told c.use_entry.new.folder) from there state layout unlinked number object c.args.parent.now.node c.args.parent.now.entry (cast_unsigned w64 c.args.parent.now.signature) p (c.in_ok-use_entry.ensures.used from there state layout unlinked (main object.key) listed) in
    let at = mid (g.F.Folder.told c.args.folder.now) (g.F.Folder.told c.use_entry.new.folder) (g.F.Folder.told c.range.new.f) from there state layout unlinked number object c.args.parent.now.node c.args.parent.now.entry (cast_unsigned w64 c.args.parent.now.signature) p (main object.key ∷ []) (parts_used object c.args.offset c.args.count) stops in
    let q = mid-used (g.F.Folder.told c.args.folder.now) (g.F.Folder.told c.use_entry.new.folder) (g.F.Folder.told c.range.new.f) from there state layout unlinked number object c.args.parent.now.node c.args.parent.now.entry (cast_unsigned w64 c.args.parent.now.signature) p (main object.key ∷ []) (parts_used object c.args.offset c.args.count) stops used in
    run at.image at.is (with_all_used state (main object.key ∷ [])) layout unlinked number object q.parent)
    c.range.ensures.run

pub returns-clause-used : goal.returns-clause-used
returns-clause-used g c = on_ok_weaker c.range.result
    (λ steps from there state layout unlinked number object p.
    let listed = its-main (g.F.Folder.told c.args.folder.now) (g.F.Folder.told c.use_entry.new.folder) from there state layout unlinked number object c.args.parent.now.node c.args.parent.now.entry (cast_unsigned w64 c.args.parent.now.signature) p in
    let stops = main-stops (g.F.Folder.told c.args.folder.now) (g.F.Folder.told c.use_entry.new.folder) from there state layout unlinked number object c.args.parent.now.node c.args.parent.now.entry (cast_unsigned w64 c.args.parent.now.signature) p (c.in_ok-use_entry.ensures.stops from there state layout unlinked (main object.key) listed) in
    let used = main-used (g.F.Folder.told c.args.folder.now) (g.F.Folder.told c.use_entry.new.folder) from there state layout unlinked number object c.args.parent.now.node c.args.parent.now.entry (cast_unsigned w64 c.args.parent.now.signature) p (c.in_ok-use_entry.ensures.used from there state layout unlinked (main object.key) listed) in
    then-used (g.F.Folder.told c.args.folder.now) (g.F.Folder.told c.use_entry.new.folder) (g.F.Folder.told c.range.new.f) from there state layout unlinked number object c.args.parent.now.node c.args.parent.now.entry (cast_unsigned w64 c.args.parent.now.signature) p (main object.key ∷ []) (parts_used object c.args.offset c.args.count) stops used
    (λ i at q. steps i at (with_all_used state (main object.key ∷ [])) layout unlinked number object q))
    c.range.ensures.used

pub returns-clause-stops : goal.returns-clause-stops
returns-clause-stops g c from there state layout unlinked number object p =
    let listed = its-main (g.F.Folder.told c.args.folder.now) (g.F.Folder.told c.use_entry.new.folder) from there state layout unlinked number object c.args.parent.now.node c.args.parent.now.entry (cast_unsigned w64 c.args.parent.now.signature) p in
    let stops = main-stops (g.F.Folder.told c.args.folder.now) (g.F.Folder.told c.use_entry.new.folder) from there state layout unlinked number object c.args.parent.now.node c.args.parent.now.entry (cast_unsigned w64 c.args.parent.now.signature) p (c.in_ok-use_entry.ensures.stops from there state layout unlinked (main object.key) listed) in
    let used = main-used (g.F.Folder.told c.args.folder.now) (g.F.Folder.told c.use_entry.new.folder) from there state layout unlinked number object c.args.parent.now.node c.args.parent.now.entry (cast_unsigned w64 c.args.parent.now.signature) p (c.in_ok-use_entry.ensures.used from there state layout unlinked (main object.key) listed) in
    then-stops (g.F.Folder.told c.args.folder.now) (g.F.Folder.told c.use_entry.new.folder) (g.F.Folder.told c.range.new.f) from there state layout unlinked number object c.args.parent.now.node c.args.parent.now.entry (cast_unsigned w64 c.args.parent.now.signature) p (main object.key ∷ []) (parts_used object c.args.offset c.args.count) stops used
    (λ i at q. c.range.ensures.stops i at (with_all_used state (main object.key ∷ [])) layout unlinked number object q)

pub returns-clause-untold : goal.returns-clause-untold
returns-clause-untold g c from there state layout unlinked number object p =
    let listed = its-main (g.F.Folder.told c.args.folder.now) (g.F.Folder.told c.use_entry.new.folder) from there state layout unlinked number object c.args.parent.now.node c.args.parent.now.entry (cast_unsigned w64 c.args.parent.now.signature) p in
    let stops = main-stops (g.F.Folder.told c.args.folder.now) (g.F.Folder.told c.use_entry.new.folder) from there state layout unlinked number object c.args.parent.now.node c.args.parent.now.entry (cast_unsigned w64 c.args.parent.now.signature) p (c.in_ok-use_entry.ensures.stops from there state layout unlinked (main object.key) listed) in
    let used = main-used (g.F.Folder.told c.args.folder.now) (g.F.Folder.told c.use_entry.new.folder) from there state layout unlinked number object c.args.parent.now.node c.args.parent.now.entry (cast_unsigned w64 c.args.parent.now.signature) p (c.in_ok-use_entry.ensures.used from there state layout unlinked (main object.key) listed) in
    let at = mid (g.F.Folder.told c.args.folder.now) (g.F.Folder.told c.use_entry.new.folder) (g.F.Folder.told c.range.new.f) from there state layout unlinked number object c.args.parent.now.node c.args.parent.now.entry (cast_unsigned w64 c.args.parent.now.signature) p (main object.key ∷ []) (parts_used object c.args.offset c.args.count) stops in
    let q = mid-used (g.F.Folder.told c.args.folder.now) (g.F.Folder.told c.use_entry.new.folder) (g.F.Folder.told c.range.new.f) from there state layout unlinked number object c.args.parent.now.node c.args.parent.now.entry (cast_unsigned w64 c.args.parent.now.signature) p (main object.key ∷ []) (parts_used object c.args.offset c.args.count) stops used in
    if_damaged_weaker c.range.result _ _ (λ damage none. absurd (let z : ◌≡◌ {A = Option Image} (Some at.image) None = sym at.is ∙ none in cc))
    (c.range.ensures.untold at.image at.is (with_all_used state (main object.key ∷ [])) layout unlinked number object q.parent)
