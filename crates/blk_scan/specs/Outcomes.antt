-- The outcomes of the walked nodes, put back into the order of the walk.
use Rattle.std.specs.Prelude.{ℕ, ◌≡◌, ◌+◌, List, [], ◌∷◌, set, slice_get}
use Rattle.std.specs.List.{cons_option}
use Rattle.std.specs.declared.option.Option.{Option}
use Rattle.std.specs.declared.option.Option.TheVariants.{None, Some}
use Rattle.std.specs.declared.result.Result.{Result}
use Rattle.std.specs.declared.result.Result.TheVariants.{Ok, Err}
use Rattle.spec_image.specs.Image.{Image}
use Rattle.spec_folder.specs.Loads as shown
use Rattle.spec_folder.specs.Reasons as reasons
use Rattle.blk_verdict.specs.Kept.{IsLoadedFrom, is_part_said}
use Rattle.blk_verdict.specs.Reasons.{reason_of}
use Rattle.blk_verdict.specs.declared.loading.Loaded.{Loaded}
use Rattle.blk_verdict.specs.declared.passes.Tried.{Tried}
use Rattle.blk_verdict.specs.declared.reason.Reason.{Reason}
use Rattle.blk_scan.specs.declared.outcomes.Outcome.{Outcome}
use Rattle.blk_scan.specs.declared.outcomes.Outcome.TheVariants as outcome
use Rattle.blk_scan.specs.declared.scan.Dropped.{Dropped}
use Rattle.blk_scan.specs.declared.scan.Kept.{Kept}

-- How outcomes get to their places.

-- the outcome of a node with this verdict, where `kept` nodes were kept before it
abbrev pub outcome_after : ℕ → Option Reason → Outcome
outcome_after kept None = outcome.Kept kept
outcome_after kept (Some reason) = outcome.Dropped reason

-- how many nodes are kept after one with this verdict
abbrev pub count_after : ℕ → Option Reason → ℕ
count_after kept None = kept + 1
count_after kept (Some reason) = kept

-- the outcomes with those of the tried nodes put at their places, where `kept` nodes were kept before these
abbrev pub with_tried : List (Option Outcome) → ℕ → List Tried → List (Option Outcome)
with_tried outcomes kept [] = outcomes
with_tried outcomes kept (one ∷ tried) = with_tried (set outcomes one.place (Some (outcome_after kept one.reason))) (count_after kept one.reason) tried

-- What outcomes say.

-- kept entry i in memory is what a node of the image loads
pub record IsKeptAt (image : Image) (kept : List Loaded) (loaded : shown.Loaded) (i : ℕ) : Type 0 where
  pub said : Loaded
  pub at : slice_get kept i ≡ Some said
  pub is : IsLoadedFrom image loaded said

-- the outcome agrees with the verdict of the model: the kept entry, or the same reason to drop
abbrev pub IsOutcomeOf : Image → List Loaded → Result shown.Loaded reasons.Reason → Outcome → Type 0
IsOutcomeOf image kept (Ok loaded) (outcome.Kept i) = IsKeptAt image kept loaded i
IsOutcomeOf image kept (Ok loaded) (outcome.Dropped reason) = ⊥
IsOutcomeOf image kept (Err reason) (outcome.Kept i) = ⊥
IsOutcomeOf image kept (Err reason) (outcome.Dropped given) = reason_of given ≡ reason

-- the node has a verdict and an outcome, and these agree
abbrev pub IsOutcomeIf : Image → List Loaded → Option (Result shown.Loaded reasons.Reason) → Option Outcome → Type 0
IsOutcomeIf image kept None given = ⊥
IsOutcomeIf image kept (Some verdict) None = ⊥
IsOutcomeIf image kept (Some verdict) (Some given) = IsOutcomeOf image kept verdict given

-- What a scan reports by the outcomes.

-- the kept entry of an outcome, if it is one
abbrev pub record_of_outcome : List Loaded → Option Outcome → Option Loaded
record_of_outcome kept None = None
record_of_outcome kept (Some (outcome.Kept i)) = slice_get kept i
record_of_outcome kept (Some (outcome.Dropped reason)) = None

-- what a scan reports of a kept entry
abbrev pub kept_by_record : Loaded → Kept
kept_by_record said = record { node = said.node; entry = said.entry; child = is_part_said said.role }

-- what a scan reports of a node that is dropped, or None for one that isn't
abbrev pub dropped_at : ℕ → Option Outcome → Option Dropped
dropped_at node None = None
dropped_at node (Some (outcome.Kept i)) = None
dropped_at node (Some (outcome.Dropped reason)) = Some (record { place = node; reason = reason })

-- what a scan reports of those nodes that are dropped, by the outcome of each
abbrev pub dropped_in : List ℕ → List (Option Outcome) → List Dropped
dropped_in [] outcomes = []
dropped_in (node ∷ nodes) [] = []
dropped_in (node ∷ nodes) (given ∷ outcomes) = cons_option (dropped_at node given) (dropped_in nodes outcomes)
