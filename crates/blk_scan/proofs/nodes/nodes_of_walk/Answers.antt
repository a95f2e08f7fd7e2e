use Rattle.std.proofs.Common.{◌≡◌, ◌++◌, ◌∷◌, [], ℕ, List, take, sym, ap, ◌∙◌, arith}
use Rattle.blk_audit.specs.Walking.{nodes_walked}
use Rattle.blk_scan.proofs.WalkFacts.{next_taken, take_past}
use Rattle.blk_scan.proofs.nodes.nodes_of_walk.Goals as goal

pub returns-in_default : goal.returns-in_default
returns-in_default c = c.loop-i.invariant.nodes ∙ take_past (nodes_walked c.args.walked.now) c.loop-i.i 131072 (sym c.at.ensures ∙ c.in_default.is) (omega (arith, c.loop-i-test.true))

pub loop-i-preserved : goal.loop-i-preserved
loop-i-preserved c = record {
  nodes = c.in_ok-push.ensures.items ∙ ap (λ (ns : List ℕ). ns ++ c.in-Some.node ∷ []) c.loop-i.invariant.nodes
      ∙ sym (next_taken (nodes_walked c.args.walked.now) c.loop-i.i c.in-Some.node (sym c.at.ensures ∙ c.in-Some.is));
}

pub returns : goal.returns
returns c =
    let all : c.loop-i.i ≡ 131072 = omega (arith, c.loop-i-test.false, c.loop-i.auto.i-end) in
    c.loop-i.invariant.nodes ∙ ap (λ (n : ℕ). take n (nodes_walked c.args.walked.now)) all
