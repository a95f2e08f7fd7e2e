-- A scan reports what an image holds, by its parts.
use Rattle.std.proofs.Common.{◌≡◌, ℕ, List, [], ◌∷◌, ◌++◌, Option, None, Result, map, take, length, replicate, refl, sym, ap, ap₂, subst, ◌∙◌}
use Rattle.std.specs.List.{AllZip, filter_map, flat_map, sum_by}
use Rattle.std.proofs.lemmas.List.{map-append}
use Rattle.spec_image.specs.Image.{Image}
use Rattle.spec_folder.specs.Audit as audit
use Rattle.spec_folder.specs.Audit.{dropped_among, dropped_of, judged, kept_among, verdict_on}
use Rattle.spec_folder.specs.Found.{completed, dropped, kept}
use Rattle.spec_folder.specs.ListImages.{completed_walk}
use Rattle.spec_folder.specs.Loads as shown
use Rattle.spec_folder.specs.Loads.{held_rule}
use Rattle.spec_folder.specs.Reasons as reasons
use Rattle.spec_folder.specs.Sound.{words_of}
use Rattle.spec_folder.specs.View.{store_of, view_of}
use Rattle.blk_addr.specs.Claims.{IsClaimsOf}
use Rattle.blk_addr.specs.declared.claim_set.Claims.{Claims}
use Rattle.blk_audit.specs.ReadLists.{AreListsOf}
use Rattle.blk_audit.specs.Walking.{nodes_walked}
use Rattle.blk_audit.specs.declared.scanning.Lists.{Lists}
use Rattle.blk_verdict.specs.Charges.{charge_said}
use Rattle.blk_verdict.specs.Kept.{AreShown, claims_kept, records_kept}
use Rattle.blk_verdict.specs.declared.loading.Loaded.{Loaded}
use Rattle.blk_verdict.specs.declared.passes.Judged.{Judged}
use Rattle.blk_verdict.specs.declared.passes.Tried.{Tried}
use Rattle.blk_scan.specs.Ordering.{AreJudged, IsOrderOf, IsToldBy}
use Rattle.blk_scan.specs.Outcomes.{IsOutcomeIf, dropped_in, kept_by_record, record_of_outcome, with_tried}
use Rattle.blk_scan.specs.declared.outcomes.Outcome.{Outcome}
use Rattle.blk_scan.specs.Scans.{AreBare, AreChainsTold, IsScanOf, dropped_by_told, unlisted_as_told}
use Rattle.blk_scan.specs.declared.ordering.Ordered.{Ordered}
use Rattle.blk_scan.specs.declared.scan.Scan.{Scan}
use Rattle.blk_scan.proofs.Ordered.{all_charged, all_kept_told, all_nodes_told, dropped_told, in_order_shown}
use Rattle.blk_scan.proofs.Owners.{claims_of_kept, given_here}
use Rattle.blk_scan.proofs.Placed.{outcomes_are}
use Rattle.blk_scan.proofs.WalkFacts.{all_taken}

pub kept_is : (image : Image) → kept image ≡ filter_map (given_here image) (completed_walk image)
unfolding kept kept_among
kept_is image = refl

dropped_is : (image : Image) → dropped image ≡ dropped_among (store_of image) held_rule (completed_walk image) ++ audit.unlisted (completed (view_of image))
unfolding dropped
dropped_is image = refl

dropped_among_is : (image : Image) → dropped_among (store_of image) held_rule (completed_walk image) ≡ filter_map (λ node. dropped_of node (verdict_on (judged (store_of image) held_rule (completed_walk image)) node)) (completed_walk image)
unfolding dropped_among
dropped_among_is image = refl

-- What came of the walked nodes, in the order of the walk.
module _ (image : Image) (lists : Lists) (given : Judged) (ordered : Ordered) (said : List Loaded) (outcomes : List (Option Outcome)) (answers : List Tried) (count : ℕ)
    (are : AreListsOf image lists) (given_are : AreJudged image given) (walked_are : ordered.walked.items ≡ take 131072 (nodes_walked lists.walked)) (many : count ≡ length ordered.walked.items) (answers_are : answers ≡ given.tried.items)
    (outcomes_placed : outcomes ≡ with_tried (replicate count None) 0 answers) (said_is : said ≡ records_kept given.kept) where
  abbrev verdicts_here : ℕ → Option (Result shown.Loaded reasons.Reason)
  verdicts_here = verdict_on (judged (store_of image) held_rule (completed_walk image))

  all_walked : ordered.walked.items ≡ completed_walk image
  all_walked = walked_are ∙ all_taken image (nodes_walked lists.walked) are.walked

  all_outcomes : AllZip (λ w o. IsOutcomeIf image said (verdicts_here w) o) (completed_walk image) outcomes
  all_outcomes =
      let start : outcomes ≡ with_tried (replicate (length (completed_walk image)) None) 0 given.tried.items =
      outcomes_placed ∙ ap₂ (λ (n : ℕ) (ts : List Tried). with_tried (replicate n None) 0 ts) (many ∙ ap length all_walked) answers_are in
      subst (λ (os : List (Option Outcome)). AllZip (λ w o. IsOutcomeIf image said (verdicts_here w) o) (completed_walk image) os) (sym start)
      (subst (λ (ss : List Loaded). AllZip (λ w o. IsOutcomeIf image ss (verdicts_here w) o) (completed_walk image) (with_tried (replicate (length (completed_walk image)) None) 0 given.tried.items)) (sym said_is)
      (outcomes_are image (records_kept given.kept) given.tried.items given_are))

  pub order_is : ordered.records.items ≡ filter_map (record_of_outcome said) outcomes → ordered.dropped.items ≡ dropped_in ordered.walked.items outcomes → IsOrderOf image ordered
  order_is records_are dropped_are = record {
    walked = all_walked;
    records = subst (λ (ss : List Loaded). AreShown image (kept image) ss) (sym records_are)
        (subst (λ (ks : List shown.Loaded). AreShown image ks (filter_map (record_of_outcome said) outcomes)) (sym (kept_is image)) (in_order_shown image said verdicts_here (completed_walk image) outcomes all_outcomes));
    dropped = ap (map dropped_by_told) (dropped_are ∙ ap (λ (ws : List ℕ). dropped_in ws outcomes) all_walked) ∙ dropped_told image said verdicts_here (completed_walk image) outcomes all_outcomes ∙ sym (dropped_among_is image);
  }

unlisted_told : (words : List ℕ) → map dropped_by_told (map unlisted_as_told words) ≡ map (λ contents. (contents, reasons.Unlisted)) words
unlisted_told [] = refl
unlisted_told (w ∷ words) = ap (λ (rs : List (ℕ × reasons.Reason)). (w, reasons.Unlisted) ∷ rs) (unlisted_told words)

pub scan_is : (image : Image) (lists : Lists) (judged : Judged) (ordered : Ordered) (unlisted : List ℕ) (scan : Scan) → IsToldBy image lists judged ordered unlisted → scan.walked.items ≡ ordered.walked.items
    → scan.kept.items ≡ map kept_by_record ordered.records.items → scan.kept_nodes.items ≡ map (λ (s : Loaded). s.node) ordered.records.items → scan.dropped.items ≡ ordered.dropped.items ++ map unlisted_as_told unlisted
    → scan.claims ≡ claims_kept judged.kept → scan.bytes ≡ sum_by charge_said ordered.records.items → AreChainsTold image scan.chains → AreBare image scan.bare.items → IsScanOf image scan
scan_is image lists judged ordered unlisted scan told walked kept_are nodes_are dropped_are claims_are bytes_are chains_are bare_are = record {
  walked = walked ∙ told.order_is.walked;
  kept_told = kept_are ∙ all_kept_told image (kept image) ordered.records.items told.order_is.records;
  kept_nodes = nodes_are ∙ all_nodes_told image (kept image) ordered.records.items told.order_is.records;
  dropped_told = ap (map dropped_by_told) dropped_are ∙ map-append dropped_by_told ordered.dropped.items (map unlisted_as_told unlisted)
      ∙ ap₂ (λ (a b : List (ℕ × reasons.Reason)). a ++ b) told.order_is.dropped (unlisted_told unlisted ∙ told.unlisted_are) ∙ sym (dropped_is image);
  claims = subst (λ (c : Claims). IsClaimsOf c (flat_map words_of (kept image))) (sym claims_are)
      (claims_of_kept image (claims_kept judged.kept) (records_kept judged.kept) told.judged_are.shown told.claims_are (kept_is image));
  bytes = bytes_are ∙ all_charged image (kept image) ordered.records.items told.order_is.records;
  chains = chains_are;
  bare = bare_are;
}
