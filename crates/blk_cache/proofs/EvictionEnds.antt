-- A request that isn't refused: what it evicts, and how its end follows on that.
use Rattle.std.proofs.Common.{◌≡◌, ℕ, Bool, List, Option, Some, None, Result, sym, ap, subst}
use Rattle.std.specs.Option.{ForSome}
use Rattle.spec_image.specs.Image.{Image}
use Rattle.spec_image.specs.Told.{Passes, Told}
use Rattle.spec_image.proofs.Runs.{passes_then, passes_weaker}
use Rattle.blk_io.specs.Faults.{IfDamaged}
use Rattle.blk_io.specs.Streams.{Appends}
use Rattle.blk_io.specs.declared.fault.Fault.{Fault}
use Rattle.blk_model.specs.Refusals.{evicted, refused}
use Rattle.blk_model.specs.Request.{Request}
use Rattle.blk_model.specs.Room.{Group}
use Rattle.blk_model.specs.State.{State}
use Rattle.blk_model.specs.Step.{outcome, step}
use Rattle.blk_model.specs.declared.Answer.{Answer}
use Rattle.blk_model.specs.declared.Refusal.{Refusal}
use Rattle.law_state.specs.Commands.{Does, ForKept, IsDone, MayStop, MayStopAtEach}
use Rattle.law_state.proofs.Stopping.{stop-evicted}
use Rattle.blk_script.specs.Reply.{evicted_text}
use Rattle.blk_cache.specs.declared.cache.Cache.{Cache}
use Rattle.blk_cache.specs.CacheKeeping.{HoldsState}
use Rattle.blk_cache.specs.CommandClauses.{KeepsAny}
use Rattle.blk_cache.specs.Evicting.{IsEvicting}
use Rattle.blk_evict.specs.RoomPrinting.{PrintsUnlessFailed}
use Rattle.blk_cache.specs.Stepping.{SaysEvicted, SaysPrefix}
use Rattle.blk_cache.proofs.CreateWhole.{there-after, untold-by}
use Rattle.blk_cache.proofs.WriteUses.{never-told}

-- it prints what it evicts
pub passed-groups : (moment : ℕ) (request : Request) (state : State) → refused moment request state ≡ None → (step state moment request).groups ≡ evicted moment request state
unfolding step outcome
passed-groups moment request state is = ap (λ (o : Option Refusal). (outcome moment request state o).groups) is

module _ (moment : ℕ) (request : Request) (cache : Cache) (told : Told) (passes : ForKept (HoldsState cache) told (λ state. refused moment request state ≡ None)) where
  -- what is evicted is printed
  pub passed-says : (failed_before failed : Bool) (old new : Option (List ℕ)) → ForKept (HoldsState cache) told (λ state. PrintsUnlessFailed failed_before failed old new (evicted_text (evicted moment request state))) → SaysEvicted cache told moment request failed_before failed old new
  passed-says failed_before failed old new prints image there state k = subst (λ (groups : List Group). PrintsUnlessFailed failed_before failed old new (evicted_text groups)) (sym (passed-groups moment request state (passes image there state k))) (prints image there state k)

  -- or a prefix of it
  pub passed-front : (old new : Option (List ℕ)) → ForKept (HoldsState cache) told (λ state. Appends old new (evicted_text (evicted moment request state))) → SaysPrefix (HoldsState cache) told moment request old new
  passed-front old new front image there state k = subst (λ (groups : List Group). Appends old new (evicted_text groups)) (sym (passed-groups moment request state (passes image there state k))) (front image there state k)

  module _ (mid : Told) (evicting : ForKept (HoldsState cache) told (λ state. Passes told mid (IsEvicting (evicted moment request state) state))) where
    -- at a word at which it evicts it may crash
    pub evicting-stops : MayStopAtEach (HoldsState cache) told mid moment request
    evicting-stops image there state k =
        let may : (i : Image) → IsEvicting (evicted moment request state) state i → MayStop state moment request i
        = λ i e. stop-evicted state moment request e.first e.others i k.kept.entries.valid (record { passes = passes image there state k; groups = e.split }) e.finds in
        passes_weaker (evicting image there state k) may may

    -- and then it is to be ended
    module _ (Ready : State → Image → Type 0) (ready : (image from : Image) (state : State) → told.files ≡ Some image → mid.files ≡ Some from → HoldsState cache state image → Ready state from) where
      module _ (now : Told) where
        pub then-stops : ForSome mid.files (λ from. (state : State) → Ready state from → Passes mid now (MayStop state moment request)) → MayStopAtEach (HoldsState cache) told now moment request
        then-stops stops image there state k =
            let at = there-after told mid (MayStop state moment request) (evicting-stops image there state k) image there in
            passes_then (evicting-stops image there state k) (stops at.0 at.1 state (ready image at.0 state there at.1 k))

        pub then-does : (last : Cache) (answer : Answer) → ForSome mid.files (λ from. (state : State) → Ready state from → IsDone (HoldsState last) now moment request answer state) → Does (HoldsState cache) (HoldsState last) told now moment request answer
        then-does last answer does image there state k =
            let at = there-after told mid (MayStop state moment request) (evicting-stops image there state k) image there in
            does at.0 at.1 state (ready image at.0 state there at.1 k)

      -- an observable folder reports no corruption
      pub then-untold : {A : Type 0} (r : Result A Fault) → (((from : Image) → mid.files ≡ Some from → (state : State) × Ready state from) → IfDamaged r (λ _. mid.files ≡ None)) → ForSome told.files (KeepsAny cache) → IfDamaged r (λ _. told.files ≡ None)
      then-untold r untold some = untold-by r told.files (λ image there.
          let k = some image there in
          let at = there-after told mid (MayStop k.0 moment request) (evicting-stops image there k.0 k.1) image there in
          never-told r mid.files told.files at.0 at.1 (untold (λ from here. (k.0, ready image from k.0 there here k.1))))
