use Rattle.std.proofs.Common.{◌<◌, ◌≤◌, ℕ, sym, ◌∙◌, subst}
use Rattle.blk_addr.specs.Kind.{kind_number}
use Rattle.blk_stream.proofs.Placed.{blocks_are, of_blocks, of_file, stored_blocks}
use Rattle.blk_object.proofs.MakingTaken.{stored-file}
use Rattle.blk_object.proofs.making_places.take_storage.Goals as goal

pub returns-then-is_external-clause-stores : goal.returns-then-is_external-clause-stores
returns-then-is_external-clause-stores g c =
    let kind = of_file (kind_number c.kind_for-kind.result) c.args.size c.is_external.result c.kind_for-kind.ensures c.is_external.ensures c.if-is_external.true in
    stored-file c.take_file.result c.args.files.now c.args.size c.requires.some kind c.take_file.ensures.kind c.take_file.ensures.address

pub take_blocks-requires-clause-some : goal.take_blocks-requires-clause-some
take_blocks-requires-clause-some g c =
    let blocky = of_blocks (kind_number c.kind_for-kind.result) c.args.size c.is_external.result c.kind_for-kind.ensures c.is_external.ensures c.if-is_external.false in
    subst (λ (n : ℕ). 0 < n) (sym c.blocks_for.ensures) (blocks_are c.args.size c.requires.some blocky).0

pub take_blocks-requires-clause-few : goal.take_blocks-requires-clause-few
take_blocks-requires-clause-few g c =
    let blocky = of_blocks (kind_number c.kind_for-kind.result) c.args.size c.is_external.result c.kind_for-kind.ensures c.is_external.ensures c.if-is_external.false in
    subst (λ (n : ℕ). n ≤ 4) (sym c.blocks_for.ensures) (blocks_are c.args.size c.requires.some blocky).1.0

pub take_blocks-requires-clause-node : goal.take_blocks-requires-clause-node
take_blocks-requires-clause-node g c node =
    let blocky = of_blocks (kind_number c.kind_for-kind.result) c.args.size c.is_external.result c.kind_for-kind.ensures c.is_external.ensures c.if-is_external.false in
    absurd ((blocks_are c.args.size c.requires.some blocky).1.1.0 (sym c.kind_for-kind.ensures ∙ node))

pub returns-clause-stores : goal.returns-clause-stores
returns-clause-stores g c =
    let blocky = of_blocks (kind_number c.kind_for-kind.result) c.args.size c.is_external.result c.kind_for-kind.ensures c.is_external.ensures c.if-is_external.false in
    stored_blocks c.take_blocks.result c.take_blocks.new.files c.args.size (kind_number c.kind_for-kind.result) c.blocks_for.result c.requires.some blocky (sym c.kind_for-kind.ensures) (sym c.blocks_for.ensures) c.take_blocks.ensures.kind c.take_blocks.ensures.address c.take_blocks.ensures.stands
