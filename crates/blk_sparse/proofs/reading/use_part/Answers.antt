use Rattle.std.proofs.Common.{◌≡◌, ◌∙◌, ap, sym, subst, None, [], ◌∷◌}
use Rattle.std.specs.Int.{cast_unsigned, w64}
use Rattle.std.proofs.lemmas.Result.{on_ok_weaker}
use Rattle.spec_image.specs.Told.{Told}
use Rattle.spec_image.proofs.Runs.{passes_stayed, passes_weaker, some_inj}
use Rattle.blk_io.specs.Faults.{IfDamaged}
use Rattle.blk_io.proofs.Carried.{carried}
use Rattle.blk_model.specs.Effects.{existing_parts}
use Rattle.blk_model.specs.Items.{part}
use Rattle.blk_sparse.specs.Parts.{IsPartFound}
use Rattle.blk_sparse.specs.SparseObjects.{FindsUsed, parts_of}
use Rattle.blk_sparse.proofs.PartsOut.{stays-passes, stays-there}
use Rattle.blk_sparse.proofs.UsedParts.{its-part, nothing-used, now-found, some-found, some-used}
use Rattle.blk_sparse.proofs.reading.use_part.Goals as goal

pub returns-in_err-part-clause-stops : goal.returns-in_err-part-clause-stops
returns-in_err-part-clause-stops g c from there state layout unlinked number object node entry p of_key =
    stays-passes (g.F.Folder.told c.args.folder.now) (g.F.Folder.told c.find_part.new.folder) from (FindsUsed state (parts_of object (existing_parts object (c.args.number ∷ [])))) there c.in_err-part.ensures.reads.stays
    (now-found state layout unlinked number object node entry (cast_unsigned w64 c.args.parent.signature) from p (parts_of object (existing_parts object (c.args.number ∷ []))))

pub returns-in_err-part-clause-is_open : goal.returns-in_err-part-clause-is_open
returns-in_err-part-clause-is_open g c image is =
    c.requires.is_open image (ap (λ (t : Told). t.files) (sym c.in_err-part.ensures.reads.stays) ∙ is)

pub returns-in_err-part-clause-untold : goal.returns-in_err-part-clause-untold
returns-in_err-part-clause-untold g c from there state layout unlinked number object node entry p of_key =
    carried c.find_part.result c.from_residual.result c.in_err-part.field-0.0 (λ _. (g.F.Folder.told c.args.folder.now).files ≡ None) c.in_err-part.was c.from_residual.ensures.1
    (c.find_part.ensures.untold from there state layout unlinked number object node entry p of_key)

pub use_entry-requires-clause-is_open : goal.use_entry-requires-clause-is_open
use_entry-requires-clause-is_open g c image is =
    c.requires.is_open image (ap (λ (t : Told). t.files) (sym c.in_ok-part.ensures.reads.stays) ∙ is)

pub returns-in-Some-clause-used : goal.returns-in-Some-clause-used
returns-in-Some-clause-used g c = on_ok_weaker c.use_entry.result
    (λ steps from there state layout unlinked number object node entry p of_key image is.
    let at = stays-there (g.F.Folder.told c.args.folder.now) (g.F.Folder.told c.find_part.new.folder) from there c.in_ok-part.ensures.reads.stays in
    let has = subst (IsPartFound layout object c.args.number) c.in-Some.is (c.in_ok-part.ensures.part from there state layout unlinked number object node entry p of_key) in
    some-used state layout unlinked number object node entry (cast_unsigned w64 c.args.parent.signature) from p c.args.number c.in-Some.part has image
    (steps from at state layout unlinked (part object.key c.args.number) (its-part state layout unlinked number object node entry (cast_unsigned w64 c.args.parent.signature) from p c.args.number c.in-Some.part has) image is))
    c.use_entry.ensures.used

pub returns-in-Some-clause-stops : goal.returns-in-Some-clause-stops
returns-in-Some-clause-stops g c from there state layout unlinked number object node entry p of_key =
    let at = stays-there (g.F.Folder.told c.args.folder.now) (g.F.Folder.told c.find_part.new.folder) from there c.in_ok-part.ensures.reads.stays in
    let has = subst (IsPartFound layout object c.args.number) c.in-Some.is (c.in_ok-part.ensures.part from there state layout unlinked number object node entry p of_key) in
    let found = some-found state layout unlinked number object node entry (cast_unsigned w64 c.args.parent.signature) from p c.args.number c.in-Some.part has in
    passes_stayed c.in_ok-part.ensures.reads.stays
    (passes_weaker (c.use_entry.ensures.stops from at state layout unlinked (part object.key c.args.number) (its-part state layout unlinked number object node entry (cast_unsigned w64 c.args.parent.signature) from p c.args.number c.in-Some.part has)) found found)

pub returns-in-Some-clause-untold : goal.returns-in-Some-clause-untold
returns-in-Some-clause-untold g c from there state layout unlinked number object node entry p of_key =
    let at = stays-there (g.F.Folder.told c.args.folder.now) (g.F.Folder.told c.find_part.new.folder) from there c.in_ok-part.ensures.reads.stays in
    let has = subst (IsPartFound layout object c.args.number) c.in-Some.is (c.in_ok-part.ensures.part from there state layout unlinked number object node entry p of_key) in
    subst (λ (t : Told). IfDamaged c.use_entry.result (λ _. t.files ≡ None)) c.in_ok-part.ensures.reads.stays
    (c.use_entry.ensures.untold from at state layout unlinked (part object.key c.args.number) (its-part state layout unlinked number object node entry (cast_unsigned w64 c.args.parent.signature) from p c.args.number c.in-Some.part has))

pub returns-in-None-clause-used : goal.returns-in-None-clause-used
returns-in-None-clause-used g c from there state layout unlinked number object node entry p of_key image is =
    let at = stays-there (g.F.Folder.told c.args.folder.now) (g.F.Folder.told c.find_part.new.folder) from there c.in_ok-part.ensures.reads.stays in
    nothing-used state layout unlinked number object node entry (cast_unsigned w64 c.args.parent.signature) from p c.args.number
    (subst (IsPartFound layout object c.args.number) c.in-None.is (c.in_ok-part.ensures.part from there state layout unlinked number object node entry p of_key)) image (some_inj (sym at ∙ is))

pub returns-in-None-clause-stops : goal.returns-in-None-clause-stops
returns-in-None-clause-stops g c from there state layout unlinked number object node entry p of_key =
    stays-passes (g.F.Folder.told c.args.folder.now) (g.F.Folder.told c.find_part.new.folder) from (FindsUsed state (parts_of object (existing_parts object (c.args.number ∷ [])))) there c.in_ok-part.ensures.reads.stays
    (now-found state layout unlinked number object node entry (cast_unsigned w64 c.args.parent.signature) from p (parts_of object (existing_parts object (c.args.number ∷ []))))

pub returns-in-None-clause-is_open : goal.returns-in-None-clause-is_open
returns-in-None-clause-is_open g c image is =
    c.requires.is_open image (ap (λ (t : Told). t.files) (sym c.in_ok-part.ensures.reads.stays) ∙ is)
