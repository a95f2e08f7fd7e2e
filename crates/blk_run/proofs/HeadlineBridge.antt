-- What a cache promises, as the laws on runs take it.
use Rattle.std.proofs.Common.{◌≡◌, ℕ, Bool, true, false, List, [], ◌∷◌, length, Option, Some, None, inl, inr, refl, sym, ◌∙◌, ap}
use Rattle.std.specs.Prelude.{All, ◌&&◌, ◌==◌, is_some, slice_index_or}
use Rattle.std.specs.List.{position}
use Rattle.std.specs.Str.{bytes_eq}
use Rattle.std.proofs.lemmas.Bool.{eqb-true}
use Rattle.std.proofs.lemmas.List.Elements.{All-head, All-tail}
use Rattle.spec_image.specs.Bytes.{word_bytes}
use Rattle.spec_image.specs.Image.{Image, Index, same_file}
use Rattle.spec_image.specs.Steps.{TrailStep, Word, SetLength, Delete, Note, word_step}
use Rattle.spec_image.specs.Told.{AppliesPrefix, Told}
use Rattle.blk_model.proofs.Same.{same_bytes}
use Rattle.blk_model.specs.Holding.{open_state}
use Rattle.blk_model.specs.State.{Bounds, State, named_by}
use Rattle.spec_folder.specs.Found.{found}
use Rattle.spec_folder.specs.Layout.{Layout}
use Rattle.spec_folder.specs.StandsFor.{StandsFor}
use Rattle.law_state.proofs.Keeping.{kept-stands}
use Rattle.blk_handles.specs.Bindings.{Binding, binding_of}
use Rattle.blk_repair.specs.Counters.{crash_place, is_in_crash_word, writes_crash_word}
use Rattle.blk_cache.specs.declared.cache.Cache.{Cache}
use Rattle.blk_cache.specs.CacheKeeping.{IsBoundAs, KeepsState}
use Rattle.blk_cache.specs.Opening as opening
use Rattle.spec_run.specs.Opening.{FailsToOpen, Opens, close_mark, has_opened, marks_open}
use Rattle.spec_run.specs.Run.{bound_names}
use Rattle.spec_run.specs.Laws.{IsLeastBound}
use Rattle.spec_run.proofs.Closing.{least_of_slots, none_closed, none_of_slots}

-- The opening.

-- a step that writes nothing inside the crash word doesn't mark a session as open
pub unmarked_step : (step : TrailStep) → writes_crash_word step ≡ false → marks_open step ≡ false
unmarked_step (Word file place bytes) none = go (same_file file Index) (place == 32) (bytes_eq bytes (word_bytes 1)) refl refl none
  where
    clash : true ≡ false → ⊥
    clash c = cc

    inside : (place : ℕ) (bytes : List ℕ) → place ≡ 32 → bytes ≡ word_bytes 1 → is_in_crash_word place (length bytes) ≡ true
    inside place bytes at same = ap (λ (p : ℕ). is_in_crash_word p (length bytes)) at ∙ ap (λ (b : List ℕ). is_in_crash_word 32 (length b)) same

    go : (a b c : Bool) → (place == 32) ≡ b → bytes_eq bytes (word_bytes 1) ≡ c → (a && is_in_crash_word place (length bytes)) ≡ false → (a && b && c) ≡ false
    go false b c at same none = refl
    go true false c at same none = refl
    go true true false at same none = refl
    go true true true at same none = absurd (clash (sym (inside place bytes (eqb-true place 32 at) (same_bytes bytes (word_bytes 1) same)) ∙ none))
unmarked_step (SetLength file n) none = refl
unmarked_step (Delete file) none = refl
unmarked_step (Note number) none = refl

pub unmarked : (steps : List TrailStep) → All (λ step. writes_crash_word step ≡ false) steps → has_opened steps ≡ false
unmarked [] none = refl
unmarked (step ∷ steps) none =
    rw (unmarked_step step (All-head (λ (s : TrailStep). writes_crash_word s ≡ false) step steps none)) (unmarked steps (All-tail (λ (s : TrailStep). writes_crash_word s ≡ false) step steps none))

-- what `start` opened
pub opened_by_start : (from : Image) (limits : Bounds) (old new : Told) → old.files ≡ Some from → opening.OpensFolder from old new → Opens from (open_state (found from) limits) old new
unfolding word_step
opened_by_start from limits old new there opens = record {
  before = opens.before;
  unnoted = opens.unnoted;
  unmarked = unmarked opens.before opens.first;
  applies = opens.applies;
  along = opens.along from there;
  stands = λ image here. (opens.leaves image here).stands limits;
  id = λ image here. (opens.leaves image here).id;
}

-- what it opened, or where it broke off
pub failed_by_start : (from : Image) (limits : Bounds) (old new : Told) → old.files ≡ Some from → opening.OpensOrBreaksOff from old new → FailsToOpen from (open_state (found from) limits) old new
failed_by_start from limits old new there (inl broken) = inl (record {
  steps = broken.passes.steps;
  unnoted = broken.passes.unnoted;
  unmarked = unmarked broken.passes.steps broken.unmarked;
  applies = broken.passes.applies;
  along = broken.passes.along from there;
})
failed_by_start from limits old new there (inr opens) = inr (opened_by_start from limits old new there opens)

-- The end.

-- the step that the cache ends its session with
pub ends_by_mark : (old new : Told) → AppliesPrefix old new (word_step Index crash_place 0) → AppliesPrefix old new (close_mark ∷ [])
unfolding word_step
ends_by_mark old new part = part

-- What is kept.

-- a folder on which a cache keeps a state represents it
pub cache_stands : (cache : Cache) (state : State) (image : Image) → KeepsState cache state image → StandsFor image state
cache_stands cache state image kept = kept-stands state kept.holds.layout image kept.holds.kept kept.finished

-- The names.

bound_same : (state : State) (layout : Layout) (slot : Option ℕ) (binding : Option Binding) → IsBoundAs state layout slot binding → is_some binding ≡ is_some slot
bound_same state layout None None bound = refl
bound_same state layout (Some number) (Some binding) bound = refl
bound_same state layout None (Some binding) bound = absurd bound
bound_same state layout (Some number) None bound = absurd bound

-- the same names are bound
pub names_bound : (cache : Cache) (state : State) (image : Image) → KeepsState cache state image → (other : ℕ) → is_some (slice_index_or cache.handles other None) ≡ is_some (named_by state other)
names_bound cache state image kept other = bound_same state kept.holds.layout (named_by state other) (binding_of cache.handles other) (kept.holds.names other)

-- the cache's least name is the state's
pub least_name : (cache : Cache) (state : State) (image : Image) (name : ℕ) → KeepsState cache state image → position is_some cache.handles ≡ Some name → IsLeastBound state name
least_name cache state image name kept at =
    least_of_slots cache.handles state name (λ other. bound_same state kept.holds.layout (named_by state other) (binding_of cache.handles other) (kept.holds.names other)) at

-- and where it has none the state has none
pub no_name : (cache : Cache) (state : State) (image : Image) → KeepsState cache state image → position is_some cache.handles ≡ None → bound_names state ≡ []
no_name cache state image kept none =
    none_closed state (none_of_slots cache.handles state (λ other. bound_same state kept.holds.layout (named_by state other) (binding_of cache.handles other) (kept.holds.names other)) none)
