use Rattle.std.proofs.Common.{List, subst}
use Rattle.std.specs.Prelude.{OnOk}
use Rattle.spec_image.specs.Steps.{TrailStep}
use Rattle.spec_image.specs.Told.{Applies, AppliesPrefix}
use Rattle.blk_disk.proofs.Additions.{link_is}
use Rattle.blk_disk.proofs.adding.link_file.Goals as goal

pub returns-clause-steps : goal.returns-clause-steps
returns-clause-steps g c =
    let is = link_is c.args.last c.args.n c.from.result c.to_le_bytes.result c.from.ensures c.to_le_bytes.ensures in
    subst (λ (steps : List TrailStep). OnOk c.write_at.result (Applies (g.F.Folder.told c.args.folder.now) (g.F.Folder.told c.write_at.new.self) steps)) is c.write_at.ensures.steps

pub returns-clause-prefix : goal.returns-clause-prefix
returns-clause-prefix g c =
    let is = link_is c.args.last c.args.n c.from.result c.to_le_bytes.result c.from.ensures c.to_le_bytes.ensures in
    subst (AppliesPrefix (g.F.Folder.told c.args.folder.now) (g.F.Folder.told c.write_at.new.self)) is c.write_at.ensures.prefix
