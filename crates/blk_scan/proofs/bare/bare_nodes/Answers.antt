use Rattle.std.proofs.Common.{◌<◌, ◌++◌, ◌∷◌, [], ℕ, List, get_or, length, sym, ap, ◌∙◌, arith}
use Rattle.std.specs.BTreeSet.{contains}
use Rattle.std.specs.List.{filter}
use Rattle.std.specs.Ordering.{nat_cmp}
use Rattle.std.proofs.lemmas.Option.{slice_get-get_or}
use Rattle.blk_audit.specs.Walking.{nodes_walked}
use Rattle.blk_verdict.proofs.ListedFacts.{one_more}
use Rattle.blk_scan.specs.Bare.{is_kept_bare_node}
use Rattle.blk_scan.proofs.bare.bare_nodes.Goals as goal

pub loop-i-preserved : goal.loop-i-preserved
loop-i-preserved c = record {
  bare = λ image are.
      let nodes : List ℕ = nodes_walked c.args.lists.now.walked in
      let below : c.loop-i.i < length nodes = omega (arith, c.loop-i-test.true, c.count-i-end.ensures) in
      let at = slice_get-get_or nodes c.loop-i.i 0 below in
      c.in_ok-add_node.ensures.added image (get_or nodes c.loop-i.i 0) are at
      ∙ ap (λ (before : List ℕ). before ++ filter (is_kept_bare_node (contains nat_cmp c.args.kept.now) image) (get_or nodes c.loop-i.i 0 ∷ [])) (c.loop-i.invariant.bare image are)
      ∙ sym (one_more (is_kept_bare_node (contains nat_cmp c.args.kept.now) image) nodes c.loop-i.i (get_or nodes c.loop-i.i 0) at);
  stand = λ files stand. c.in_ok-add_node.ensures.stand files stand (c.loop-i.invariant.stand files stand);
}
