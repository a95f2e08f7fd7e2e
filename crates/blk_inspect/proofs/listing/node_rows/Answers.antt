use Rattle.std.proofs.Common.{◌∙◌, arith}
use Rattle.blk_inspect.proofs.Listed.{node_more}
use Rattle.blk_inspect.proofs.listing.node_rows.Goals as goal

pub loop-i-preserved : goal.loop-i-preserved
loop-i-preserved c = record {
  rows = λ image are.
      c.in_ok-add_node.ensures ∙ node_more image c.args.lists.now.walked c.loop-i.i c.node.result c.loop-i.rows.items (omega (arith, c.loop-i-test.true, c.count-i-end.ensures)) (c.node.ensures image are) (c.loop-i.invariant.rows image are);
}
