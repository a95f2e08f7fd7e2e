use Rattle.std.proofs.Common.{◌≡◌, ℕ, Bool, true, ◌&&◌, sym, ap, ◌∙◌}
use Rattle.std.specs.Prelude.{◌==◌}
use Rattle.spec_format.specs.BlockFiles.{is_among}
use Rattle.blk_audit.specs.Walking.{nodes_walked}
use Rattle.blk_audit.proofs.ReadNodes.{listed_by, listed_none}
use Rattle.blk_audit.proofs.scanning.Lists.is_listed.Goals as goal

pub returns-then-has : goal.returns-then-has
returns-then-has c image are =
    let among : is_among (nodes_walked c.args.self.now.walked) c.args.node ≡ true = ap (is_among (nodes_walked c.args.self.now.walked)) (sym c.in-Some.ensures.addr) ∙ sym (c.has.ensures are.met) ∙ c.if-has.true in
    ap (λ (w : ℕ). c.in-Some.here.node.contents == w) c.word.ensures.word
    ∙ sym (listed_by image c.args.self.now are c.args.node c.args.entry c.in-Some.here.node c.in-Some.ensures.node ∙ ap (λ (t : Bool). t && (c.in-Some.here.node.contents == c.args.entry)) among)

pub returns-in-None : goal.returns-in-None
returns-in-None c image are = sym (listed_none image c.args.self.now are c.args.node c.args.entry c.in-None.ensures)
