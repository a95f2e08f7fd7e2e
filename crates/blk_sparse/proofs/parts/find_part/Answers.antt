use Rattle.std.proofs.Common.{◌≡◌, ◌∙◌, ℕ, List, None, arith, ap, subst, sym}
use Rattle.std.specs.Prelude.{Some}
use Rattle.std.specs.Int.{cast_unsigned, w64}
use Rattle.std.proofs.lemmas.Int.{of_z-to_z}
use Rattle.spec_image.proofs.Runs.{some_inj}
use Rattle.spec_format.specs.Names.{child_name}
use Rattle.blk_io.proofs.Carried.{carried}
use Rattle.blk_chain.specs.Finding.{CanBeSearched}
use Rattle.blk_object.proofs.DamageChecks.{handed, moved, search-checked}
use Rattle.blk_sparse.proofs.FoundParts.{can-find, part-found}
use Rattle.blk_sparse.proofs.parts.find_part.Goals as goal

pub returns-in_err-found-clause-damaged : goal.returns-in_err-found-clause-damaged
returns-in_err-found-clause-damaged g c =
    handed c.find.result c.from_residual.result c.in_err-found.field-0.0 _ c.args.files.now (g.F.Folder.told c.find.new.f)
    (λ damage wrong. moved c.args.files.now (g.F.Folder.told c.args.folder.now) (g.F.Folder.told c.find.new.f) damage c.find.ensures.reads.stays (search-checked c.args.files.now (g.F.Folder.told c.args.folder.now) _ _ damage wrong))
    c.in_err-found.was c.from_residual.ensures.1 c.find.ensures.damaged

pub returns-in_err-found-clause-untold : goal.returns-in_err-found-clause-untold
returns-in_err-found-clause-untold g c from there state layout unlinked number object node entry p of_key =
    carried c.find.result c.from_residual.result c.in_err-found.field-0.0 (λ _. (g.F.Folder.told c.args.folder.now).files ≡ None) c.in_err-found.was c.from_residual.ensures.1
    (c.find.ensures.untold (λ image is. (c.requires.is_open image is).whole_index) (λ image is. (c.requires.is_open image is).agrees)
    (λ image is. subst (CanBeSearched _) (some_inj (sym there ∙ is)) (can-find state layout unlinked number object node entry (cast_unsigned w64 c.args.parent.signature) from p _)))

pub returns-in-Some-clause-part : goal.returns-in-Some-clause-part
returns-in-Some-clause-part g c from there state layout unlinked number object node entry p of_key =
    let same = of_z-to_z w64 (cast_unsigned w64 c.args.parent.signature) (let small = c.requires.signature in omega (arith, small)) in
    (part-found state layout unlinked number object node entry (cast_unsigned w64 c.args.parent.signature) from p c.args.number _
    (c.child_name-len.ensures.name ∙ ap (λ (s : ℕ). child_name c.args.parent.key.now s c.args.number) same ∙ ap (λ (k : List ℕ). child_name k (cast_unsigned w64 c.args.parent.signature) c.args.number) (sym of_key))
    (c.child_name-len.ensures.read_back ∙ ap (λ (s : ℕ). Some (record { key = c.args.parent.key.now; signature = s; part = c.args.number })) same ∙ ap (λ (k : List ℕ). Some (record { key = k; signature = cast_unsigned w64 c.args.parent.signature; part = c.args.number })) (sym of_key))
    c.in_ok-found.field-0 (c.in_ok-found.ensures.found from there (can-find state layout unlinked number object node entry (cast_unsigned w64 c.args.parent.signature) from p _))).0 c.in-Some.found c.in-Some.is

pub returns-in-None-clause-part : goal.returns-in-None-clause-part
returns-in-None-clause-part g c from there state layout unlinked number object node entry p of_key =
    let same = of_z-to_z w64 (cast_unsigned w64 c.args.parent.signature) (let small = c.requires.signature in omega (arith, small)) in
    (part-found state layout unlinked number object node entry (cast_unsigned w64 c.args.parent.signature) from p c.args.number _
    (c.child_name-len.ensures.name ∙ ap (λ (s : ℕ). child_name c.args.parent.key.now s c.args.number) same ∙ ap (λ (k : List ℕ). child_name k (cast_unsigned w64 c.args.parent.signature) c.args.number) (sym of_key))
    (c.child_name-len.ensures.read_back ∙ ap (λ (s : ℕ). Some (record { key = c.args.parent.key.now; signature = s; part = c.args.number })) same ∙ ap (λ (k : List ℕ). Some (record { key = k; signature = cast_unsigned w64 c.args.parent.signature; part = c.args.number })) (sym of_key))
    c.in_ok-found.field-0 (c.in_ok-found.ensures.found from there (can-find state layout unlinked number object node entry (cast_unsigned w64 c.args.parent.signature) from p _))).1 c.in-None.is
