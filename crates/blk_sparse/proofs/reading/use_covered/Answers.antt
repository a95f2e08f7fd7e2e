use Rattle.std.proofs.Common.{◌≡◌, ◌∙◌, ◌+◌, List, sym, subst, refl, Option, Some, None, [], ◌∷◌}
use Rattle.std.specs.Prelude.{◌-◌, ◌/◌}
use Rattle.std.specs.Int.{cast_unsigned, w64}
use Rattle.std.proofs.lemmas.Result.{on_ok_weaker}
use Rattle.spec_image.specs.Image.{Image}
use Rattle.spec_image.specs.Told.{Passes}
use Rattle.spec_image.proofs.Runs.{some_inj}
use Rattle.blk_io.proofs.Carried.{carried, if_damaged_weaker}
use Rattle.blk_model.specs.Effects.{existing_parts}
use Rattle.blk_model.specs.Items.{Item}
use Rattle.blk_sparse.specs.SparseObjects.{FindsUsed, KeepsParentUsed, parts_of, parts_used, with_all_used}
use Rattle.blk_sparse.proofs.PartsOut.{stays-passes}
use Rattle.blk_sparse.proofs.UsedParts.{first-further, mid, mid-used, none-used, now-found, then-stops, then-used, used-first-part, used-no-part, used-one-part, used-two-parts}
use Rattle.blk_sparse.proofs.reading.use_covered.Goals as goal

pub returns-then-count-eq0-clause-used : goal.returns-then-count-eq0-clause-used
returns-then-count-eq0-clause-used g c from there state layout unlinked number object node entry p of_key image is =
    subst (KeepsParentUsed state layout unlinked number object node entry (cast_unsigned w64 c.args.parent.signature) (parts_used object c.args.offset c.args.count) from) (some_inj (sym there ∙ is))
    (subst (λ (items : List Item). KeepsParentUsed state layout unlinked number object node entry (cast_unsigned w64 c.args.parent.signature) items from from) (used-no-part object c.args.offset c.args.count c.if-count-eq0.true) (none-used state layout unlinked number object node entry (cast_unsigned w64 c.args.parent.signature) from p))

pub returns-then-count-eq0-clause-stops : goal.returns-then-count-eq0-clause-stops
returns-then-count-eq0-clause-stops g c from there state layout unlinked number object node entry p of_key =
    stays-passes (g.F.Folder.told c.args.folder.now) (g.F.Folder.told c.args.folder.now) from (FindsUsed state (parts_used object c.args.offset c.args.count)) there refl (now-found state layout unlinked number object node entry (cast_unsigned w64 c.args.parent.signature) from p (parts_used object c.args.offset c.args.count))

pub returns-in_err-use_part-clause-stops : goal.returns-in_err-use_part-clause-stops
returns-in_err-use_part-clause-stops g c from there state layout unlinked number object node entry p of_key =
    let more = used-first-part object c.args.offset c.args.count c.child_of-first.result.0 ((c.args.offset + c.args.count - 1) / 1048576) c.if-count-eq0.false c.requires.few c.child_of-first.ensures.part refl in
    subst (λ (items : List Item). Passes (g.F.Folder.told c.args.folder.now) (g.F.Folder.told c.use_part.new.folder) (FindsUsed state items)) more.1
    (first-further (g.F.Folder.told c.args.folder.now) (g.F.Folder.told c.use_part.new.folder) (g.F.Folder.told c.use_part.new.folder) from there state layout unlinked number object node entry (cast_unsigned w64 c.args.parent.signature) p (parts_of object (existing_parts object (c.child_of-first.result.0 ∷ []))) more.0 (c.in_err-use_part.ensures.stops from there state layout unlinked number object node entry p of_key))

pub returns-in_err-use_part-clause-untold : goal.returns-in_err-use_part-clause-untold
returns-in_err-use_part-clause-untold g c from there state layout unlinked number object node entry p of_key =
    carried c.use_part.result c.from_residual.result c.in_err-use_part.field-0.0 (λ _. (g.F.Folder.told c.args.folder.now).files ≡ None) c.in_err-use_part.was c.from_residual.ensures.1
    (c.use_part.ensures.untold from there state layout unlinked number object node entry p of_key)

pub returns-then-last-first-clause-used : goal.returns-then-last-first-clause-used
returns-then-last-first-clause-used g c from there state layout unlinked number object node entry p of_key image is =
    subst (λ (items : List Item). KeepsParentUsed state layout unlinked number object node entry (cast_unsigned w64 c.args.parent.signature) items from image) (used-one-part object c.args.offset c.args.count c.child_of-first.result.0 c.child_of-last.result.0 c.if-count-eq0.false c.child_of-first.ensures.part c.child_of-last.ensures.part c.if-last-first.true)
    (c.in_ok-use_part.ensures.used from there state layout unlinked number object node entry p of_key image is)

pub returns-then-last-first-clause-stops : goal.returns-then-last-first-clause-stops
returns-then-last-first-clause-stops g c from there state layout unlinked number object node entry p of_key =
    subst (λ (items : List Item). Passes (g.F.Folder.told c.args.folder.now) (g.F.Folder.told c.use_part.new.folder) (FindsUsed state items)) (used-one-part object c.args.offset c.args.count c.child_of-first.result.0 c.child_of-last.result.0 c.if-count-eq0.false c.child_of-first.ensures.part c.child_of-last.ensures.part c.if-last-first.true)
    (c.in_ok-use_part.ensures.stops from there state layout unlinked number object node entry p of_key)

pub returns-clause-used : goal.returns-clause-used
returns-clause-used g c = on_ok_weaker c.use_part-2.result
    (λ steps from there state layout unlinked number object node entry p of_key image is.
    subst (λ (items : List Item). KeepsParentUsed state layout unlinked number object node entry (cast_unsigned w64 c.args.parent.signature) items from image) (used-two-parts object c.args.offset c.args.count c.child_of-first.result.0 c.child_of-last.result.0 c.if-count-eq0.false c.requires.few c.child_of-first.ensures.part c.child_of-last.ensures.part c.if-last-first.false)
    (then-used (g.F.Folder.told c.args.folder.now) (g.F.Folder.told c.use_part.new.folder) (g.F.Folder.told c.use_part-2.new.folder) from there state layout unlinked number object node entry (cast_unsigned w64 c.args.parent.signature) p (parts_of object (existing_parts object (c.child_of-first.result.0 ∷ []))) (parts_of object (existing_parts object (c.child_of-last.result.0 ∷ []))) (c.in_ok-use_part.ensures.stops from there state layout unlinked number object node entry p of_key)
    (λ mid at. c.in_ok-use_part.ensures.used from there state layout unlinked number object node entry p of_key mid at)
    (λ mid at q last end. steps mid at (with_all_used state (parts_of object (existing_parts object (c.child_of-first.result.0 ∷ [])))) layout unlinked number object node entry q of_key last end)
    image is))
    c.use_part-2.ensures.used

pub returns-clause-stops : goal.returns-clause-stops
returns-clause-stops g c from there state layout unlinked number object node entry p of_key =
    subst (λ (items : List Item). Passes (g.F.Folder.told c.args.folder.now) (g.F.Folder.told c.use_part-2.new.folder) (FindsUsed state items)) (used-two-parts object c.args.offset c.args.count c.child_of-first.result.0 c.child_of-last.result.0 c.if-count-eq0.false c.requires.few c.child_of-first.ensures.part c.child_of-last.ensures.part c.if-last-first.false)
    (then-stops (g.F.Folder.told c.args.folder.now) (g.F.Folder.told c.use_part.new.folder) (g.F.Folder.told c.use_part-2.new.folder) from there state layout unlinked number object node entry (cast_unsigned w64 c.args.parent.signature) p (parts_of object (existing_parts object (c.child_of-first.result.0 ∷ []))) (parts_of object (existing_parts object (c.child_of-last.result.0 ∷ []))) (c.in_ok-use_part.ensures.stops from there state layout unlinked number object node entry p of_key)
    (λ mid at. c.in_ok-use_part.ensures.used from there state layout unlinked number object node entry p of_key mid at)
    (λ mid at q. c.use_part-2.ensures.stops mid at (with_all_used state (parts_of object (existing_parts object (c.child_of-first.result.0 ∷ [])))) layout unlinked number object node entry q of_key))

pub returns-clause-untold : goal.returns-clause-untold
returns-clause-untold g c from there state layout unlinked number object node entry p of_key =
    let at = mid (g.F.Folder.told c.args.folder.now) (g.F.Folder.told c.use_part.new.folder) (g.F.Folder.told c.use_part-2.new.folder) from there state layout unlinked number object node entry (cast_unsigned w64 c.args.parent.signature) p (parts_of object (existing_parts object (c.child_of-first.result.0 ∷ []))) (parts_of object (existing_parts object (c.child_of-last.result.0 ∷ []))) (c.in_ok-use_part.ensures.stops from there state layout unlinked number object node entry p of_key) in
    let q = mid-used (g.F.Folder.told c.args.folder.now) (g.F.Folder.told c.use_part.new.folder) (g.F.Folder.told c.use_part-2.new.folder) from there state layout unlinked number object node entry (cast_unsigned w64 c.args.parent.signature) p (parts_of object (existing_parts object (c.child_of-first.result.0 ∷ []))) (parts_of object (existing_parts object (c.child_of-last.result.0 ∷ []))) (c.in_ok-use_part.ensures.stops from there state layout unlinked number object node entry p of_key)
    (λ mid at. c.in_ok-use_part.ensures.used from there state layout unlinked number object node entry p of_key mid at) in
    if_damaged_weaker c.use_part-2.result _ _ (λ damage none. absurd (let z : ◌≡◌ {A = Option Image} (Some at.image) None = sym at.is ∙ none in cc))
    (c.use_part-2.ensures.untold at.image at.is (with_all_used state (parts_of object (existing_parts object (c.child_of-first.result.0 ∷ [])))) layout unlinked number object node entry q.parent of_key)
