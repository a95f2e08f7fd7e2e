use Rattle.std.proofs.Common.{◌∷◌, []}
use Rattle.spec_image.specs.Told.{Applies}
use Rattle.std.proofs.lemmas.Result.{on_ok_weaker}
use Rattle.spec_format.specs.Address.{external_number}
use Rattle.std.proofs.Common.{ℕ, subst}
use Rattle.spec_image.specs.Image.{External}
use Rattle.spec_image.specs.Steps.{SetLength}
use Rattle.blk_stream.proofs.InsideSteps.{agrees_resized, resized_there}
use Rattle.blk_stream.proofs.inside.set_size.Goals as goal

pub returns-clause-external : goal.returns-clause-external
returns-clause-external g c =
    on_ok_weaker c.resize.result
    (λ grown. resized_there (g.F.Folder.told c.args.folder.now) (g.F.Folder.told c.resize.new.f) c.args.addr c.args.size (subst (λ (n : ℕ). Applies (g.F.Folder.told c.args.folder.now) (g.F.Folder.told c.resize.new.f) (SetLength (External (external_number c.args.addr)) n ∷ [])) c.from.ensures grown))
    c.resize.ensures.steps

pub returns-clause-agrees : goal.returns-clause-agrees
returns-clause-agrees g c =
    agrees_resized c.args.files.now (g.F.Folder.told c.args.folder.now) (g.F.Folder.told c.resize.new.f) (external_number c.args.addr) c.from.result c.resize.ensures.prefix c.requires.agrees
