use Rattle.std.proofs.Common.{◌≡◌, true, sym, subst, ◌∙◌}
use Rattle.std.specs.Prelude.{All}
use Rattle.std.proofs.lemmas.List.Elements.{All-push}
use Rattle.blk_disk.specs.Tables.{is_node_among}
use Rattle.blk_audit.specs.Sealable.{CanBeSealed}
use Rattle.blk_audit.specs.Walking.{nodes_walked}
use Rattle.blk_verdict.proofs.Searched.{all_at}
use Rattle.blk_scan.proofs.WalkFacts.{node_sealable}
use Rattle.blk_scan.proofs.bare.add_node.Goals as goal

pub returns-in_ok-push-clause-stand : goal.returns-in_ok-push-clause-stand
returns-in_ok-push-clause-stand c files stand all =
    let here : is_node_among files c.in-Some.node ≡ true = all_at (λ w. is_node_among files w ≡ true) (nodes_walked c.args.lists.now.walked) c.args.i c.in-Some.node stand (sym c.at.ensures ∙ c.in-Some.is) in
    subst (All (CanBeSealed files)) (sym c.in_ok-push.ensures.items) (All-push (CanBeSealed files) c.args.bare.now.items c.in-Some.node all (node_sealable files c.in-Some.node here))
