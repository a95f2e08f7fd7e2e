use Rattle.std.proofs.Common.{sym, ap, ◌∙◌}
use Rattle.blk_audit.specs.Walking.{nodes_walked}
use Rattle.blk_audit.specs.declared.nodes.Node.{Node}
use Rattle.blk_audit.proofs.ReadNodes.{always_said, past, walked_checks_there, walked_kind, walked_node, walked_said}
use Rattle.blk_audit.proofs.scanning.Lists.node.Goals as goal

pub returns-in_default : goal.returns-in_default
returns-in_default c image are = past (nodes_walked c.args.self.now.walked) c.args.i (sym c.at.ensures ∙ c.in_default.is)

pub returns-in_default-get : goal.returns-in_default-get
returns-in_default-get c image are = always_said image c.args.self.now are c.args.i c.in-Some.addr (sym c.at.ensures ∙ c.in-Some.is) (sym c.get.ensures ∙ c.in_default-get.is)

pub returns : goal.returns
returns c image are =
    record {
      addr = sym c.at.ensures ∙ c.in-Some.is;
      fields = walked_node image c.args.self.now are c.args.i c.in-Some.addr c.in-Some-get.node (sym c.at.ensures ∙ c.in-Some.is) (sym c.get.ensures ∙ c.in-Some-get.is);
      kind = walked_kind image c.args.self.now are c.args.i c.in-Some.addr (sym c.at.ensures ∙ c.in-Some.is);
      checks = walked_checks_there image c.args.self.now are c.args.i c.in-Some.addr (sym c.at.ensures ∙ c.in-Some.is);
      bare = ap (λ (node : Node). node.bare) (walked_said image c.args.self.now are c.args.i c.in-Some.addr c.in-Some-get.node (sym c.at.ensures ∙ c.in-Some.is) (sym c.get.ensures ∙ c.in-Some-get.is));
    }
