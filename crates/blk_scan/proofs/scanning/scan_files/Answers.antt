use Rattle.std.proofs.Common.{inl, inr, ◌≡◌, ℕ, true, List, map, length, min, sym, ap, subst, ◌∙◌, arith}
use Rattle.std.specs.Prelude.{All}
use Rattle.std.proofs.lemmas.List.{length-take}
use Rattle.std.proofs.lemmas.List.Elements.{All-take}
use Rattle.spec_image.specs.Told.{Told}
use Rattle.blk_lru.proofs.Conditions.{told_now, told_stays}
use Rattle.spec_folder.specs.Found.{kept}
use Rattle.spec_folder.specs.Reasons as reason
use Rattle.blk_disk.specs.Tables.{Agrees, is_node_among}
use Rattle.blk_audit.specs.ReadLists.{AreListsOf}
use Rattle.blk_audit.specs.Sealable.{CanBeSealed}
use Rattle.blk_audit.specs.Walking.{nodes_walked}
use Rattle.blk_audit.proofs.Carrying.{carried, weaker}
use Rattle.blk_verdict.specs.Kept.{AreShown}
use Rattle.blk_verdict.specs.Reads.{IsCutRead}
use Rattle.blk_verdict.specs.declared.loading.Loaded.{Loaded}
use Rattle.blk_scan.proofs.scanning.scan_files.Goals as goal

pub bare_of-requires : goal.bare_of-requires
bare_of-requires g c = record { nodes = c.in_ok-lists.ensures.stand.nodes }

pub tell-requires : goal.tell-requires
tell-requires g c = record { buckets = c.in_ok-lists.ensures.stand.buckets; few = c.in_ok-ordered.ensures.few }

pub returns-clause-scanned : goal.returns-clause-scanned
returns-clause-scanned g c image there agrees =
    let lists = c.in_ok-lists.ensures.lists image there agrees in
    let first = told_now image c.in_ok-lists.ensures.reads.stays there in
    let second = told_now image c.in_ok-judged.ensures.reads.stays first in
    let third = told_now image c.in_ok-unlisted.ensures.reads.stays second in
    let judged = c.in_ok-judged.ensures.judged image first agrees lists in
    let order = c.in_ok-ordered.ensures.ordered image lists judged in
    c.in_ok-scan.ensures.told image
    (record {
      lists_are = lists;
      judged_are = judged;
      order_is = order;
      claims_are = c.in_ok-judged.ensures.order.indexed.claims;
      unlisted_are = ap (map (λ (contents : ℕ). (contents, reason.Unlisted))) c.deref-2.ensures.value ∙ c.in_ok-unlisted.ensures.unlisted image second agrees lists;
    })
    (c.in_ok-bare.ensures.bare image third agrees lists (subst (λ (ss : List Loaded). AreShown image (kept image) ss) (sym c.deref.ensures.value) order.records))

pub returns-clause-exact : goal.returns-clause-exact
returns-clause-exact g c image there agrees =
    let lists = c.in_ok-lists.ensures.lists image there agrees in
    let first = told_now image c.in_ok-lists.ensures.reads.stays there in
    let second = told_now image c.in_ok-judged.ensures.reads.stays first in
    let third = told_now image c.in_ok-unlisted.ensures.reads.stays second in
    let judged = c.in_ok-judged.ensures.judged image first agrees lists in
    let order = c.in_ok-ordered.ensures.ordered image lists judged in
    c.in_ok-scan.ensures.exact image
    (record {
      lists_are = lists;
      judged_are = judged;
      order_is = order;
      claims_are = c.in_ok-judged.ensures.order.indexed.claims;
      unlisted_are = ap (map (λ (contents : ℕ). (contents, reason.Unlisted))) c.deref-2.ensures.value ∙ c.in_ok-unlisted.ensures.unlisted image second agrees lists;
    })
    (c.in_ok-bare.ensures.exact image third agrees lists (subst (λ (ss : List Loaded). AreShown image (kept image) ss) (sym c.deref.ensures.value) order.records))

pub returns-clause-stand : goal.returns-clause-stand
returns-clause-stand g c = record {
  walked = subst (All (λ w. is_node_among c.args.files.now w ≡ true)) (sym (c.in_ok-scan.ensures.walked ∙ c.in_ok-ordered.ensures.walked))
      (All-take (λ w. is_node_among c.args.files.now w ≡ true) 131072 (nodes_walked c.in_ok-lists.lists.walked) c.in_ok-lists.ensures.stand.nodes);
  chains = c.in_ok-scan.ensures.chains c.args.files.now c.in_ok-lists.ensures.stand;
  bare = subst (All (CanBeSealed c.args.files.now)) (sym c.in_ok-scan.ensures.bare) c.in_ok-bare.ensures.stand;
}

pub returns-clause-few : goal.returns-clause-few
returns-clause-few g c =
    let most : length c.in_ok-scan.scan.walked.items ≡ min 131072 (length (nodes_walked c.in_ok-lists.lists.walked)) = ap length (c.in_ok-scan.ensures.walked ∙ c.in_ok-ordered.ensures.walked) ∙ length-take 131072 (nodes_walked c.in_ok-lists.lists.walked) in
    omega (arith, most)

pub returns-in_err-lists-clause-damaged : goal.returns-in_err-lists-clause-damaged
returns-in_err-lists-clause-damaged g c =
    carried c.read_lists.result c.from_residual.result c.in_err-lists.field-0.0 _ c.in_err-lists.was c.from_residual.ensures.1 (weaker c.read_lists.result _ _ (λ damage d. inl d) c.read_lists.ensures.damaged)

pub returns-in_err-lists-clause-untold : goal.returns-in_err-lists-clause-untold
returns-in_err-lists-clause-untold g c is_open =
    carried c.read_lists.result c.from_residual.result c.in_err-lists.field-0.0 _ c.in_err-lists.was c.from_residual.ensures.1 (c.read_lists.ensures.untold is_open)

pub returns-in_err-judged-clause-damaged : goal.returns-in_err-judged-clause-damaged
returns-in_err-judged-clause-damaged g c =
    carried c.judge_nodes.result c.from_residual-in_err-judged.result c.in_err-judged.field-0.0 _ c.in_err-judged.was c.from_residual-in_err-judged.ensures.1
    (weaker c.judge_nodes.result _ _ (λ damage cut. inr (subst (λ (t : Told). IsCutRead c.args.files.now t damage) (sym c.judge_nodes.ensures.reads.stays) cut)) c.judge_nodes.ensures.short)

pub returns-in_err-judged-clause-untold : goal.returns-in_err-judged-clause-untold
returns-in_err-judged-clause-untold g c is_open =
    carried c.judge_nodes.result c.from_residual-in_err-judged.result c.in_err-judged.field-0.0 _ c.in_err-judged.was c.from_residual-in_err-judged.ensures.1
    (weaker c.judge_nodes.result _ _ (λ damage none. ap (λ (t : Told). t.files) (sym c.in_ok-lists.ensures.reads.stays) ∙ none)
    (c.judge_nodes.ensures.untold (told_stays (Agrees c.args.files.now) c.in_ok-lists.ensures.reads.stays (λ image there. (is_open image there).agrees))
    (told_stays (λ image. AreListsOf image c.in_ok-lists.lists) c.in_ok-lists.ensures.reads.stays (λ image there. c.in_ok-lists.ensures.lists image there (is_open image there).agrees))))

pub returns-in_err-unlisted-clause-damaged : goal.returns-in_err-unlisted-clause-damaged
returns-in_err-unlisted-clause-damaged g c =
    carried c.unlisted.result c.from_residual-in_err-unlisted.result c.in_err-unlisted.field-0.0 _ c.in_err-unlisted.was c.from_residual-in_err-unlisted.ensures.1
    (weaker c.unlisted.result _ _ (λ damage d. inl (inr (inr (inr d)))) c.unlisted.ensures.damaged)

pub returns-in_err-unlisted-clause-untold : goal.returns-in_err-unlisted-clause-untold
returns-in_err-unlisted-clause-untold g c is_open =
    carried c.unlisted.result c.from_residual-in_err-unlisted.result c.in_err-unlisted.field-0.0 _ c.in_err-unlisted.was c.from_residual-in_err-unlisted.ensures.1
    (weaker c.unlisted.result _ _ (λ damage none. ap (λ (t : Told). t.files) (sym (c.in_ok-judged.ensures.reads.stays ∙ c.in_ok-lists.ensures.reads.stays)) ∙ none)
    (c.unlisted.ensures.untold (told_stays (Agrees c.args.files.now) (c.in_ok-judged.ensures.reads.stays ∙ c.in_ok-lists.ensures.reads.stays) (λ image there. (is_open image there).agrees))))

pub returns-in_err-bare-clause-damaged : goal.returns-in_err-bare-clause-damaged
returns-in_err-bare-clause-damaged g c =
    carried c.bare_of.result c.from_residual-in_err-bare.result c.in_err-bare.field-0.0 _ c.in_err-bare.was c.from_residual-in_err-bare.ensures.1
    (weaker c.bare_of.result _ _ (λ damage d. inl (inr (inr (inr d)))) c.bare_of.ensures.damaged)

pub returns-in_err-bare-clause-untold : goal.returns-in_err-bare-clause-untold
returns-in_err-bare-clause-untold g c is_open =
    carried c.bare_of.result c.from_residual-in_err-bare.result c.in_err-bare.field-0.0 _ c.in_err-bare.was c.from_residual-in_err-bare.ensures.1
    (weaker c.bare_of.result _ _ (λ damage none. ap (λ (t : Told). t.files) (sym (c.in_ok-unlisted.ensures.reads.stays ∙ (c.in_ok-judged.ensures.reads.stays ∙ c.in_ok-lists.ensures.reads.stays))) ∙ none)
    (c.bare_of.ensures.untold (told_stays (Agrees c.args.files.now) (c.in_ok-unlisted.ensures.reads.stays ∙ (c.in_ok-judged.ensures.reads.stays ∙ c.in_ok-lists.ensures.reads.stays)) (λ image there. (is_open image there).agrees))))
