use Rattle.std.proofs.Common.{List, map, refl, sym, ap, subst, ◌∙◌}
use Rattle.std.specs.List.{sum_by}
use Rattle.spec_folder.specs.Found.{kept}
use Rattle.blk_verdict.specs.Charges.{charge_said}
use Rattle.blk_verdict.specs.Kept.{AreShown}
use Rattle.blk_verdict.specs.declared.loading.Loaded.{Loaded}
use Rattle.blk_scan.specs.Outcomes.{kept_by_record}
use Rattle.blk_scan.proofs.WholeScans.{scan_is}
use Rattle.blk_scan.proofs.scanning.tell.Goals as goal

pub returns-clause-told : goal.returns-clause-told
returns-clause-told c image told bare =
    scan_is image c.args.lists.now c.args.judged c.args.ordered c.args.unlisted.now
    (record {
      walked = c.args.ordered.walked;
      kept = c.in_ok-kept.kept;
      kept_nodes = c.in_ok-kept_nodes.kept_nodes;
      dropped = c.add_unlisted.new.dropped;
      claims = c.into_claims.result;
      bytes = c.charge_of_all-bytes.result;
      chains = c.in_ok-chains.chains;
      bare = c.args.bare;
    })
    told refl
    (c.in_ok-kept.ensures ∙ ap (map kept_by_record) c.deref.ensures.value)
    (c.in_ok-kept_nodes.ensures ∙ ap (map (λ (s : Loaded). s.node)) c.deref-2.ensures.value)
    c.in_ok-add_unlisted.ensures c.into_claims.ensures (c.charge_of_all-bytes.ensures ∙ ap (sum_by charge_said) c.deref-4.ensures.value)
    (c.in_ok-chains.ensures.told image told.lists_are.buckets (subst (λ (ss : List Loaded). AreShown image (kept image) ss) (sym c.deref-3.ensures.value) told.order_is.records)) bare

pub returns-clause-exact : goal.returns-clause-exact
returns-clause-exact c image told bare = record {
  chains = c.in_ok-chains.ensures.exact image told.lists_are.buckets (subst (λ (ss : List Loaded). AreShown image (kept image) ss) (sym c.deref-3.ensures.value) told.order_is.records);
  bare = bare;
}
