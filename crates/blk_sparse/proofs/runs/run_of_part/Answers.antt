use Rattle.std.proofs.Common.{◌≡◌, ◌≤◌, ◌∙◌, ◌+◌, ap, ap₂, sym, subst, arith, ℕ, None}
use Rattle.std.specs.Int.{cast_unsigned, w64}
use Rattle.spec_image.specs.Told.{Told}
use Rattle.spec_image.proofs.Runs.{some_inj}
use Rattle.blk_io.specs.Faults.{IfDamaged}
use Rattle.blk_io.proofs.Carried.{carried}
use Rattle.blk_ranges.specs.PartMaps.{presence_of}
use Rattle.blk_ranges.specs.Runs.{run_between}
use Rattle.blk_sparse.specs.Changing.{LoadsAsPart}
use Rattle.blk_sparse.specs.Parts.{IsPartFound}
use Rattle.blk_sparse.proofs.MapsRead.{loads-as, part-read}
use Rattle.blk_sparse.proofs.PartsOut.{stays-there}
use Rattle.blk_sparse.proofs.ReadParts.{map-run, run-inside, run-nowhere}
use Rattle.blk_sparse.proofs.runs.run_of_part.Goals as goal

pub returns-in_err-part-clause-untold : goal.returns-in_err-part-clause-untold
returns-in_err-part-clause-untold g c from there state layout unlinked number object node entry p of_key =
    carried c.find_part.result c.from_residual.result c.in_err-part.field-0.0 (λ _. (g.F.Folder.told c.args.folder.now).files ≡ None) c.in_err-part.was c.from_residual.ensures.1
    (c.find_part.ensures.untold from there state layout unlinked number object node entry p of_key)

pub returns-in_err-map-in-Some-clause-untold : goal.returns-in_err-map-in-Some-clause-untold
returns-in_err-map-in-Some-clause-untold g c from there state layout unlinked number object node entry p of_key =
    let at = stays-there (g.F.Folder.told c.args.folder.now) (g.F.Folder.told c.find_part.new.folder) from there c.in_ok-part.ensures.reads.stays in
    let has = subst (IsPartFound layout object c.args.number) c.in-Some.is (c.in_ok-part.ensures.part from there state layout unlinked number object node entry p of_key) in
    subst (λ (t : Told). IfDamaged c.from_residual-in_err-map-in-Some.result (λ _. t.files ≡ None)) c.in_ok-part.ensures.reads.stays
    (carried c.read_map.result c.from_residual-in_err-map-in-Some.result c.in_err-map-in-Some.field-0.0 (λ _. (g.F.Folder.told c.find_part.new.folder).files ≡ None) c.in_err-map-in-Some.was c.from_residual-in_err-map-in-Some.ensures.1
    (c.read_map.ensures.untold (λ image is. (c.requires.is_open image (ap (λ (t : Told). t.files) (sym c.in_ok-part.ensures.reads.stays) ∙ is)).agrees)
    (λ image is. subst (LoadsAsPart c.in-Some.part) (some_inj (sym at ∙ is)) (loads-as state layout unlinked number object node entry (cast_unsigned w64 c.args.parent.signature) from p c.args.number c.in-Some.part has))))

pub returns-in_ok-map-in-Some-clause-run : goal.returns-in_ok-map-in-Some-clause-run
returns-in_ok-map-in-Some-clause-run g c from there state layout unlinked number object node entry p of_key =
    let at = stays-there (g.F.Folder.told c.args.folder.now) (g.F.Folder.told c.find_part.new.folder) from there c.in_ok-part.ensures.reads.stays in
    let has = subst (IsPartFound layout object c.args.number) c.in-Some.is (c.in_ok-part.ensures.part from there state layout unlinked number object node entry p of_key) in
    let r = part-read state layout unlinked number object node entry (cast_unsigned w64 c.args.parent.signature) from p c.args.number c.in-Some.part has in
    let run : ◌≡◌ {A = ℕ × ℕ} (c.present_run-start.result.0, c.present_run-start.result.1) (run_between (presence_of c.in_ok-map-in-Some.map) c.args.place (c.args.place + c.args.count)) = c.present_run-start.ensures in
    ap₂ (λ (a b : ℕ). (a, b)) c.from.ensures c.from-in-Some.ensures ∙ run
    ∙ map-run object c.args.number c.in-Some.part c.args.place c.args.count from r c.in_ok-map-in-Some.map (c.in_ok-map-in-Some.ensures.map from at r.loaded r.name r.index r.loads r.role)

pub returns-in_ok-map-in-Some-clause-from : goal.returns-in_ok-map-in-Some-clause-from
returns-in_ok-map-in-Some-clause-from g c =
    let inside = run-inside (presence_of c.in_ok-map-in-Some.map) c.args.place c.args.count in
    subst (λ (n : ℕ). c.args.place ≤ n) (sym (c.from.ensures ∙ ap (λ (r : ℕ × ℕ). r.0) c.present_run-start.ensures)) inside.0

pub returns-in_ok-map-in-Some-clause-within : goal.returns-in_ok-map-in-Some-clause-within
returns-in_ok-map-in-Some-clause-within g c =
    let inside = (run-inside (presence_of c.in_ok-map-in-Some.map) c.args.place c.args.count).1 in
    let start = c.from.ensures ∙ ap (λ (r : ℕ × ℕ). r.0) c.present_run-start.ensures in
    let many = c.from-in-Some.ensures ∙ ap (λ (r : ℕ × ℕ). r.1) c.present_run-start.ensures in
    omega (arith, inside, start, many)

pub returns-in-None-clause-run : goal.returns-in-None-clause-run
returns-in-None-clause-run g c from there state layout unlinked number object node entry p of_key =
    let none = subst (IsPartFound layout object c.args.number) c.in-None.is (c.in_ok-part.ensures.part from there state layout unlinked number object node entry p of_key) in
    ap (λ (n : ℕ). (n, 0)) c.from-in-None.ensures ∙ sym (run-nowhere object c.args.number c.args.place c.args.count none)
