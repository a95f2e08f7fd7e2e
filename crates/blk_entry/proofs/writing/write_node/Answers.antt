use Rattle.std.proofs.Common.{◌≡◌, inl, List, length, ◌∙◌, ap, subst, arith}
use Rattle.std.proofs.lemmas.Result.{on_ok_weaker}
use Rattle.spec_image.specs.Steps.{TrailStep}
use Rattle.spec_image.specs.Told.{Applies, AppliesPrefix}
use Rattle.spec_format.proofs.SealedRecords.{node_bytes as node_size_is, record_inside}
use Rattle.blk_entry.proofs.NewSteps.{node_length, steps_of_node}
use Rattle.blk_entry.proofs.writing.write_node.Goals as goal

pub write_block-requires-clause-inside : goal.write_block-requires-clause-inside
write_block-requires-clause-inside g c =
    let size = node_size_is c.args.new.now.node c.requires.kind in
    let inside = record_inside c.args.new.now.node (inl c.requires.kind) in
    let long : length c.node_of-bytes.result ≡ 36 = ap length c.node_of-bytes.ensures ∙ node_length c.args.new.now c.args.moment in
    omega (arith, size, inside, long)

pub returns-clause-steps : goal.returns-clause-steps
returns-clause-steps g c =
    on_ok_weaker c.write_block.result
    (λ grown. subst (λ (s : List TrailStep). Applies (g.F.Folder.told c.args.folder.now) (g.F.Folder.told c.write_block.new.f) s) (steps_of_node c.args.new.now c.args.moment c.node_of-bytes.result c.node_of-bytes.ensures) grown) c.write_block.ensures.steps

pub returns-clause-prefix : goal.returns-clause-prefix
returns-clause-prefix g c = subst (AppliesPrefix (g.F.Folder.told c.args.folder.now) (g.F.Folder.told c.write_block.new.f)) (steps_of_node c.args.new.now c.args.moment c.node_of-bytes.result c.node_of-bytes.ensures) c.write_block.ensures.prefix
