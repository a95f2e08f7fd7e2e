use Rattle.std.proofs.Common.{◌≡◌, ◌∙◌, ap, sym, subst, length, None}
use Rattle.std.specs.Int.{cast_unsigned, w64}
use Rattle.std.proofs.lemmas.Result.{IfOk-weaker}
use Rattle.spec_image.specs.Told.{Told}
use Rattle.spec_image.proofs.Runs.{some_inj}
use Rattle.blk_io.specs.Faults.{IfDamaged}
use Rattle.blk_io.proofs.Carried.{carried}
use Rattle.blk_sparse.specs.Changing.{LoadsAsPart}
use Rattle.blk_sparse.specs.Parts.{IsPartFound}
use Rattle.blk_sparse.proofs.MapsRead.{loads-as, part-read}
use Rattle.blk_sparse.proofs.PartsOut.{stays-there}
use Rattle.blk_sparse.proofs.ReadParts.{bytes-nowhere}
use Rattle.blk_sparse.proofs.present.bytes_of_part.Goals as goal

pub returns-in_err-part-clause-untold : goal.returns-in_err-part-clause-untold
returns-in_err-part-clause-untold g c from there state layout unlinked number object node entry p of_key =
    carried c.find_part.result c.from_residual.result c.in_err-part.field-0.0 (λ _. (g.F.Folder.told c.args.folder.now).files ≡ None) c.in_err-part.was c.from_residual.ensures.1
    (c.find_part.ensures.untold from there state layout unlinked number object node entry p of_key)

pub returns-in-Some-clause-bytes : goal.returns-in-Some-clause-bytes
returns-in-Some-clause-bytes g c = IfOk-weaker c.bytes_there.result _ _
    (λ _ bytes from there state layout unlinked number object node entry p of_key.
    let at = stays-there (g.F.Folder.told c.args.folder.now) (g.F.Folder.told c.find_part.new.folder) from there c.in_ok-part.ensures.reads.stays in
    let has = subst (IsPartFound layout object c.args.number) c.in-Some.is (c.in_ok-part.ensures.part from there state layout unlinked number object node entry p of_key) in
    bytes from at object c.args.number (part-read state layout unlinked number object node entry (cast_unsigned w64 c.args.parent.signature) from p c.args.number c.in-Some.part has))
    c.bytes_there.ensures.bytes

pub returns-in-Some-clause-untold : goal.returns-in-Some-clause-untold
returns-in-Some-clause-untold g c from there state layout unlinked number object node entry p of_key =
    let at = stays-there (g.F.Folder.told c.args.folder.now) (g.F.Folder.told c.find_part.new.folder) from there c.in_ok-part.ensures.reads.stays in
    let has = subst (IsPartFound layout object c.args.number) c.in-Some.is (c.in_ok-part.ensures.part from there state layout unlinked number object node entry p of_key) in
    subst (λ (t : Told). IfDamaged c.bytes_there.result (λ _. t.files ≡ None)) c.in_ok-part.ensures.reads.stays
    (c.bytes_there.ensures.untold (λ image is. (c.requires.is_open image (ap (λ (t : Told). t.files) (sym c.in_ok-part.ensures.reads.stays) ∙ is)).agrees)
    (λ image is. subst (LoadsAsPart c.in-Some.part) (some_inj (sym at ∙ is)) (loads-as state layout unlinked number object node entry (cast_unsigned w64 c.args.parent.signature) from p c.args.number c.in-Some.part has)))

pub returns-in-None-clause-bytes : goal.returns-in-None-clause-bytes
returns-in-None-clause-bytes g c from there state layout unlinked number object node entry p of_key =
    let none = subst (IsPartFound layout object c.args.number) c.in-None.is (c.in_ok-part.ensures.part from there state layout unlinked number object node entry p of_key) in
    sym (bytes-nowhere object c.args.number c.args.place (length c.args.out.now) none)
