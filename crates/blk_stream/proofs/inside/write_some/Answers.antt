use Rattle.std.proofs.Common.{◌≡◌, refl, sym, ◌∙◌, subst, List, length}
use Rattle.std.proofs.lemmas.Bool.{eqb-true}
use Rattle.spec_image.specs.Steps.{TrailStep}
use Rattle.spec_image.specs.Told.{Applies}
use Rattle.spec_image.proofs.Runs.{grows_none}
use Rattle.blk_stream.proofs.InsideSteps.{data_none}
use Rattle.blk_stream.proofs.inside.write_some.Goals as goal

pub returns-then-is_empty-clause-steps : goal.returns-then-is_empty-clause-steps
returns-then-is_empty-clause-steps g c =
    let none : length c.args.bytes.now ≡ 0 = eqb-true (length c.args.bytes.now) 0 (sym c.is_empty.ensures ∙ c.if-is_empty.true) in
    subst (λ (s : List TrailStep). Applies (g.F.Folder.told c.args.folder.now) (g.F.Folder.told c.args.folder.now) s) (sym (data_none c.args.addr c.args.at c.args.bytes.now none)) (grows_none refl)
