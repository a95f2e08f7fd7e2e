-- What is reported in the order of the walk is what is kept and dropped of it.
use Rattle.std.proofs.Common.{◌≡◌, ◌+◌, ℕ, Bool, List, [], ◌∷◌, map, Option, None, Some, Result, Ok, Err, refl, sym, ap, ap₂, subst, ◌∙◌}
use Rattle.std.specs.List.{AllZip, cons_option, filter_map, sum_by}
use Rattle.std.proofs.lemmas.List.Sums.{sum_by-cons}
use Rattle.spec_image.specs.Image.{Image}
use Rattle.spec_folder.specs.Audit.{dropped_of, kept_of}
use Rattle.spec_folder.specs.Found.{charge_of}
use Rattle.spec_folder.specs.Loads as shown
use Rattle.spec_folder.specs.Reasons as reasons
use Rattle.blk_verdict.specs.Charges.{charge_said}
use Rattle.blk_verdict.specs.Kept.{AreShown, IsLoadedFrom, is_part_said}
use Rattle.blk_verdict.specs.declared.loading.Loaded.{Loaded}
use Rattle.blk_verdict.proofs.KeptKeysFound.{charged}
use Rattle.blk_verdict.proofs.SoughtFacts.{part_said}
use Rattle.blk_scan.specs.Outcomes.{IsOutcomeIf, dropped_at, dropped_in, kept_by_record, record_of_outcome}
use Rattle.blk_scan.specs.Scans.{dropped_by_told, kept_as_told}
use Rattle.blk_scan.specs.declared.outcomes.Outcome.{Outcome}
use Rattle.blk_scan.specs.declared.outcomes.Outcome.TheVariants as outcome
use Rattle.blk_scan.specs.declared.scan.Dropped.{Dropped}
use Rattle.blk_scan.specs.declared.scan.Kept.{Kept}

-- two lists with the same of each
maps_same : {A B C : Type 0} (R : A → B → Type 0) (f : A → C) (g : B → C) → ((x : A) (y : B) → R x y → g y ≡ f x) → (xs : List A) (ys : List B) → AllZip R xs ys → map g ys ≡ map f xs
maps_same R f g each [] [] all = refl
maps_same R f g each [] (y ∷ ys) all = absurd all
maps_same R f g each (x ∷ xs) [] all = absurd all
maps_same R f g each (x ∷ xs) (y ∷ ys) all = ap₂ (λ c cs. c ∷ cs) (each x y all.0) (maps_same R f g each xs ys all.1)

module _ (image : Image) (said : List Loaded) (given : ℕ → Option (Result shown.Loaded reasons.Reason)) where
  -- the kept records in the order of the walk are those that are kept of it
  pub in_order_shown : (nodes : List ℕ) (outcomes : List (Option Outcome)) → AllZip (λ w o. IsOutcomeIf image said (given w) o) nodes outcomes
      → AreShown image (filter_map (λ node. kept_of (given node)) nodes) (filter_map (record_of_outcome said) outcomes)
  in_order_shown [] [] all = tt
  in_order_shown [] (o ∷ outcomes) all = absurd all
  in_order_shown (node ∷ nodes) [] all = absurd all
  in_order_shown (node ∷ nodes) (o ∷ outcomes) all = go (given node) o all.0 (filter_map (λ w. kept_of (given w)) nodes) (filter_map (record_of_outcome said) outcomes) (in_order_shown nodes outcomes all.1)
    where
      go : (r : Option (Result shown.Loaded reasons.Reason)) (o : Option Outcome) → IsOutcomeIf image said r o → (ks : List shown.Loaded) (ss : List Loaded) → AreShown image ks ss
          → AreShown image (cons_option (kept_of r) ks) (cons_option (record_of_outcome said o) ss)
      go None o is ks ss more = absurd is
      go (Some r) None is ks ss more = absurd is
      go (Some (Ok loaded)) (Some (outcome.Kept i)) is ks ss more = subst (λ (one : Option Loaded). AreShown image (loaded ∷ ks) (cons_option one ss)) (sym is.at) (is.is, more)
      go (Some (Ok loaded)) (Some (outcome.Dropped reason)) is ks ss more = absurd is
      go (Some (Err why)) (Some (outcome.Kept i)) is ks ss more = absurd is
      go (Some (Err why)) (Some (outcome.Dropped reason)) is ks ss more = more

  -- the dropped nodes in the order of the walk are those that are dropped of it
  pub dropped_told : (nodes : List ℕ) (outcomes : List (Option Outcome)) → AllZip (λ w o. IsOutcomeIf image said (given w) o) nodes outcomes
      → map dropped_by_told (dropped_in nodes outcomes) ≡ filter_map (λ node. dropped_of node (given node)) nodes
  dropped_told [] [] all = refl
  dropped_told [] (o ∷ outcomes) all = absurd all
  dropped_told (node ∷ nodes) [] all = absurd all
  dropped_told (node ∷ nodes) (o ∷ outcomes) all = go (given node) o all.0 (dropped_in nodes outcomes) (filter_map (λ w. dropped_of w (given w)) nodes) (dropped_told nodes outcomes all.1)
    where
      go : (r : Option (Result shown.Loaded reasons.Reason)) (o : Option Outcome) → IsOutcomeIf image said r o → (ds : List Dropped) (rs : List (ℕ × reasons.Reason)) → map dropped_by_told ds ≡ rs
          → map dropped_by_told (cons_option (dropped_at node o) ds) ≡ cons_option (dropped_of node r) rs
      go None o is ds rs more = absurd is
      go (Some r) None is ds rs more = absurd is
      go (Some (Ok loaded)) (Some (outcome.Kept i)) is ds rs more = more
      go (Some (Ok loaded)) (Some (outcome.Dropped reason)) is ds rs more = absurd is
      go (Some (Err why)) (Some (outcome.Kept i)) is ds rs more = absurd is
      go (Some (Err why)) (Some (outcome.Dropped reason)) is ds rs more = ap₂ (λ (r : reasons.Reason) (l : List (ℕ × reasons.Reason)). (node, r) ∷ l) is more

-- What is reported of the kept records.

module _ (image : Image) where
  kept_same : (loaded : shown.Loaded) (said : Loaded) → IsLoadedFrom image loaded said → kept_by_record said ≡ kept_as_told loaded
  kept_same loaded said is =
      let made : ℕ → ℕ → Bool → Kept = λ n e c. record { node = n; entry = e; child = c } in
      ap (λ (n : ℕ). made n said.entry (is_part_said said.role)) is.is.node
      ∙ ap (λ (e : ℕ). made loaded.node e (is_part_said said.role)) is.is.entry
      ∙ ap (λ (c : Bool). made loaded.node loaded.contents c) (sym (part_said loaded.key loaded.role said.role is.is.role))

  pub all_kept_told : (kept : List shown.Loaded) (said : List Loaded) → AreShown image kept said → map kept_by_record said ≡ map kept_as_told kept
  all_kept_told kept said are = maps_same (IsLoadedFrom image) kept_as_told kept_by_record kept_same kept said are

  pub all_nodes_told : (kept : List shown.Loaded) (said : List Loaded) → AreShown image kept said → map (λ (s : Loaded). s.node) said ≡ map (λ (k : shown.Loaded). k.node) kept
  all_nodes_told kept said are = maps_same (IsLoadedFrom image) (λ (k : shown.Loaded). k.node) (λ (s : Loaded). s.node) (λ k s is. is.is.node) kept said are

  pub all_entries_told : (kept : List shown.Loaded) (said : List Loaded) → AreShown image kept said → map (λ (s : Loaded). s.entry) said ≡ map (λ (k : shown.Loaded). k.contents) kept
  all_entries_told kept said are = maps_same (IsLoadedFrom image) (λ (k : shown.Loaded). k.contents) (λ (s : Loaded). s.entry) (λ k s is. is.is.entry) kept said are

  pub all_charged : (kept : List shown.Loaded) (said : List Loaded) → AreShown image kept said → sum_by charge_said said ≡ sum_by charge_of kept
  all_charged [] [] are = refl
  all_charged [] (s ∷ said) are = absurd are
  all_charged (k ∷ kept) [] are = absurd are
  all_charged (k ∷ kept) (s ∷ said) are =
      sum_by-cons charge_said s said ∙ ap₂ (λ (a b : ℕ). a + b) (charged image are.0.node k s are.0.loads are.0.is) (all_charged kept said are.1) ∙ sym (sum_by-cons charge_of k kept)
