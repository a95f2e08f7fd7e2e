-- A Trim, from the eviction down to so many bytes.
use Rattle.std.proofs.Common.{◌≡◌, ℕ, Bool, List, [], Option, None, refl, sym, ap, subst, ◌∙◌}
use Rattle.std.specs.Option.{ForSome}
use Rattle.spec_image.specs.Image.{Image}
use Rattle.spec_image.specs.Told.{Passes, Told}
use Rattle.spec_image.proofs.Runs.{passes_weaker}
use Rattle.blk_io.specs.Streams.{Appends}
use Rattle.blk_model.specs.Refusals.{evicted, refusals, refused}
use Rattle.blk_model.specs.Effects.{effect}
use Rattle.blk_model.specs.Reply.{answer_of}
use Rattle.blk_model.specs.Request.{to_trim}
use Rattle.blk_model.specs.Room.{Group, evicted_until, without}
use Rattle.blk_model.specs.State.{State}
use Rattle.blk_model.specs.Step.{outcome, reply, step}
use Rattle.blk_model.specs.declared.Answer.TheVariants as answer
use Rattle.blk_model.specs.declared.Refusal.{Refusal}
use Rattle.law_state.specs.Commands.{Does, MayStop, MayStopAtEach}
use Rattle.law_state.proofs.CommandEnding.{passed}
use Rattle.law_state.proofs.Stopping.{stop-evicted}
use Rattle.blk_script.specs.Reply.{evicted_text}
use Rattle.blk_cache.specs.declared.cache.Cache.{Cache}
use Rattle.blk_cache.specs.declared.goal.Goal.TheVariants as goal
use Rattle.blk_cache.specs.declared.covered.Covered.{Covered}
use Rattle.blk_cache.specs.CacheKeeping.{HoldsState}
use Rattle.blk_cache.specs.Covering.{ForCovered, none_in_range}
use Rattle.blk_cache.specs.Evicting.{IsEvicting, count_of_groups, is_met}
use Rattle.blk_evict.specs.RoomPrinting.{PrintsUnlessFailed}
use Rattle.blk_cache.specs.Stepping.{SaysEvicted, SaysPrefix}
use Rattle.blk_cache.proofs.CoveredParts.{for-none}

module _ (moment bytes : ℕ) where
  pub trim-passes : (state : State) → refused moment (to_trim bytes) state ≡ None
  unfolding refusals
  trim-passes state = refl

  trim-evicts : (state : State) → evicted moment (to_trim bytes) state ≡ evicted_until (is_met (goal.Bytes bytes)) state []
  unfolding evicted
  trim-evicts state = refl

  trim-groups : (state : State) → (step state moment (to_trim bytes)).groups ≡ evicted_until (is_met (goal.Bytes bytes)) state []
  unfolding step outcome
  trim-groups state = ap (λ (o : Option Refusal). (outcome moment (to_trim bytes) state o).groups) (trim-passes state) ∙ trim-evicts state

  trim-state : (state : State) → (step state moment (to_trim bytes)).state ≡ without (evicted_until (is_met (goal.Bytes bytes)) state []) state
  unfolding effect
  trim-state state = (passed state moment (to_trim bytes) (trim-passes state)).0 ∙ ap (λ (groups : List Group). without groups state) (trim-evicts state)

  trim-answer : (state : State) → answer_of (step state moment (to_trim bytes)).reply ≡ answer.Trimmed (count_of_groups (evicted_until (is_met (goal.Bytes bytes)) state []))
  unfolding reply
  trim-answer state = ap answer_of (passed state moment (to_trim bytes) (trim-passes state)).1 ∙ ap (λ (groups : List Group). answer.Trimmed (count_of_groups groups)) (trim-evicts state)

  module _ (cache : Cache) (parts : Covered) (is : parts ≡ none_in_range) (told now : Told) where
    pub trim-stops : ForCovered cache parts told (λ state covered. Passes told now (IsEvicting (evicted_until (is_met (goal.Bytes bytes)) state covered) state)) → MayStopAtEach (HoldsState cache) told now moment (to_trim bytes)
    trim-stops evicting image there state k =
        let may : (i : Image) → IsEvicting (evicted_until (is_met (goal.Bytes bytes)) state []) state i → MayStop state moment (to_trim bytes) i
        = λ i e. stop-evicted state moment (to_trim bytes) e.first e.others i k.kept.entries.valid (record { passes = trim-passes state; groups = trim-evicts state ∙ e.split }) e.finds in
        passes_weaker (for-none cache parts told (λ s covered. Passes told now (IsEvicting (evicted_until (is_met (goal.Bytes bytes)) s covered) s)) is evicting image there state k) may may

    pub trim-does : (new : Cache) (count : ℕ) → ForCovered cache parts told (λ state covered. count ≡ count_of_groups (evicted_until (is_met (goal.Bytes bytes)) state covered))
        → ForCovered cache parts told (λ state covered. ForSome now.files (HoldsState new (without (evicted_until (is_met (goal.Bytes bytes)) state covered) state)))
        → Does (HoldsState cache) (HoldsState new) told now moment (to_trim bytes) (answer.Trimmed count)
    trim-does new count counts left image there state k = record {
      answered = ap answer.Trimmed (for-none cache parts told (λ s covered. count ≡ count_of_groups (evicted_until (is_met (goal.Bytes bytes)) s covered)) is counts image there state k) ∙ sym (trim-answer state);
      kept = λ i here. subst (λ (s : State). HoldsState new s i) (sym (trim-state state)) (for-none cache parts told (λ s covered. ForSome now.files (HoldsState new (without (evicted_until (is_met (goal.Bytes bytes)) s covered) s))) is left image there state k i here);
    }

    module _ (failed_before failed : Bool) (old new : Option (List ℕ)) where
      pub trim-says : ForCovered cache parts told (λ state covered. PrintsUnlessFailed failed_before failed old new (evicted_text (evicted_until (is_met (goal.Bytes bytes)) state covered))) → SaysEvicted cache told moment (to_trim bytes) failed_before failed old new
      trim-says prints image there state k = subst (λ (groups : List Group). PrintsUnlessFailed failed_before failed old new (evicted_text groups)) (sym (trim-groups state)) (for-none cache parts told (λ s covered. PrintsUnlessFailed failed_before failed old new (evicted_text (evicted_until (is_met (goal.Bytes bytes)) s covered))) is prints image there state k)

      pub trim-front : ForCovered cache parts told (λ state covered. Appends old new (evicted_text (evicted_until (is_met (goal.Bytes bytes)) state covered))) → SaysPrefix (HoldsState cache) told moment (to_trim bytes) old new
      trim-front front image there state k = subst (λ (groups : List Group). Appends old new (evicted_text groups)) (sym (trim-groups state)) (for-none cache parts told (λ s covered. Appends old new (evicted_text (evicted_until (is_met (goal.Bytes bytes)) s covered))) is front image there state k)
