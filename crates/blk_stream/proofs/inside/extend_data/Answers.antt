use Rattle.std.proofs.Common.{sym, ◌∙◌, subst, List}
use Rattle.std.proofs.lemmas.Result.{on_ok_weaker}
use Rattle.spec_image.specs.Steps.{TrailStep}
use Rattle.spec_image.specs.Told.{Applies, AppliesPrefix}
use Rattle.blk_stream.proofs.InsideSteps.{room_blocks, room_external}
use Rattle.blk_stream.proofs.inside.extend_data.Goals as goal

pub returns-then-is_of-clause-steps : goal.returns-then-is_of-clause-steps
returns-then-is_of-clause-steps g c =
    on_ok_weaker c.set_size.result
    (λ grown. subst (λ (s : List TrailStep). Applies (g.F.Folder.told c.args.folder.now) (g.F.Folder.told c.set_size.new.folder) s) (sym (room_external c.args.addr c.args.old c.args.size c.args.offset (sym c.is_of.ensures ∙ c.if-is_of.true))) grown)
    c.set_size.ensures.steps

pub returns-then-is_of-clause-prefix : goal.returns-then-is_of-clause-prefix
returns-then-is_of-clause-prefix g c =
    subst (λ (s : List TrailStep). AppliesPrefix (g.F.Folder.told c.args.folder.now) (g.F.Folder.told c.set_size.new.folder) s) (sym (room_external c.args.addr c.args.old c.args.size c.args.offset (sym c.is_of.ensures ∙ c.if-is_of.true))) c.set_size.ensures.prefix

pub returns-else-is_of-clause-steps : goal.returns-else-is_of-clause-steps
returns-else-is_of-clause-steps g c =
    on_ok_weaker c.write_gap.result
    (λ grown. subst (λ (s : List TrailStep). Applies (g.F.Folder.told c.args.folder.now) (g.F.Folder.told c.write_gap.new.folder) s) (sym (room_blocks c.args.addr c.args.old c.args.size c.args.offset (sym c.is_of.ensures ∙ c.if-is_of.false))) grown)
    c.write_gap.ensures.steps

pub returns-else-is_of-clause-prefix : goal.returns-else-is_of-clause-prefix
returns-else-is_of-clause-prefix g c =
    subst (λ (s : List TrailStep). AppliesPrefix (g.F.Folder.told c.args.folder.now) (g.F.Folder.told c.write_gap.new.folder) s) (sym (room_blocks c.args.addr c.args.old c.args.size c.args.offset (sym c.is_of.ensures ∙ c.if-is_of.false))) c.write_gap.ensures.prefix
