use Rattle.std.proofs.Common.{arith}
use Rattle.blk_audit.specs.Walking.{nodes_walked}
use Rattle.blk_audit.proofs.ReadNodes.{named_all, named_step}
use Rattle.blk_audit.proofs.named.named_by.Goals as goal

pub loop-i-init : goal.loop-i-init
loop-i-init c j w below is = absurd (omega (arith, below))

pub loop-i-preserved : goal.loop-i-preserved
loop-i-preserved c = named_step c.args.nodes.now (nodes_walked c.args.walked.now) c.loop-i.named c.add_first.new.named c.loop-i.i c.contents_of.result c.contents_of.ensures.named c.in_ok-add_first.ensures c.loop-i.invariant

pub returns : goal.returns
returns c = named_all c.args.nodes.now (nodes_walked c.args.walked.now) c.loop-i.named c.loop-i.i (omega (arith, c.loop-i-test.false, c.count-i-end.ensures)) c.loop-i.invariant
