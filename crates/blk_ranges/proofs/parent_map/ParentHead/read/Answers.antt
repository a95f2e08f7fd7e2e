use Rattle.std.proofs.Common.{arith, sym, refl, ◌∙◌}
use Rattle.blk_ranges.proofs.ParentIndexes.{front-seen}
use Rattle.blk_ranges.proofs.parent_map.ParentHead.read.Goals as goal

pub returns-clause-printed : goal.returns-clause-printed
returns-clause-printed c =
    front-seen _ c.args.bytes.now c.in_ok-head.head c.signature.result c.last_block.result c.last_block_len.result c.in_ok-head.ensures.same (λ i. omega (arith, c.type_inv.bytes i)) ((c.in_ok-head.ensures.enough).0 refl)
    (sym c.is_index_head.ensures ∙ c.if-not-is_index_head.false) refl c.signature.ensures c.parent_key_len.ensures c.last_block.ensures c.if-last_block.false c.last_block_len.ensures c.if-last_block_len-ne0.false
