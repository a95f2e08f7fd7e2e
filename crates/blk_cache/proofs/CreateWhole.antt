-- A Create whole: why it is refused, what it evicts, and how the making of its object follows on the making of space.
use Rattle.std.proofs.Common.{◌≡◌, ℕ, Bool, true, false, List, [], length, Option, Some, None, Result, Ok, Err, refl, sym, ap, subst, ◌∙◌}
use Rattle.std.specs.Option.{ForSome, option_map}
use Rattle.std.specs.Prelude.{IfOk, OnOk}
use Rattle.spec_image.specs.Image.{Image}
use Rattle.spec_image.specs.Steps.{after}
use Rattle.spec_image.specs.Told.{Passes, Told}
use Rattle.spec_image.proofs.Runs.{passes_then, passes_weaker}
use Rattle.blk_io.specs.Faults.{IfDamaged}
use Rattle.blk_io.specs.Streams.{Appends}
use Rattle.blk_io.specs.declared.fault.Damage.{Damage}
use Rattle.blk_io.specs.declared.fault.Fault.{Fault}
use Rattle.blk_io.specs.declared.fault.Fault.TheVariants as fault
use Rattle.blk_model.specs.Refusals.{evicted, evicted_for, is_full, no_room, refused}
use Rattle.blk_model.specs.Request.{to_create}
use Rattle.blk_model.specs.Room.{Group, room, without}
use Rattle.blk_model.specs.State.{State}
use Rattle.blk_model.specs.Step.{outcome, step}
use Rattle.blk_model.specs.declared.Answer.{Answer}
use Rattle.blk_model.specs.declared.Answer.TheVariants as answer
use Rattle.blk_model.specs.declared.Refusal.{Refusal}
use Rattle.blk_model.specs.declared.Refusal.TheVariants as refusal
use Rattle.law_state.specs.Commands.{Does, ForKept, IsDone, MayStop, MayStopAtEach}
use Rattle.law_state.proofs.Stopping.{stop-evicted}
use Rattle.blk_script.specs.Reply.{evicted_text}
use Rattle.spec_run.proofs.StepFacts.{true_false}
use Rattle.blk_cache.specs.declared.cache.Cache.{Cache}
use Rattle.blk_cache.specs.declared.covered.Covered.{Covered}
use Rattle.blk_cache.specs.CacheKeeping.{HoldsState}
use Rattle.blk_cache.specs.CommandClauses.{IsRefused, KeepsAny}
use Rattle.blk_cache.specs.Covering.{none_in_range}
use Rattle.blk_cache.specs.Creating.{IsNotRefused, IsReadyForSome, IsReadyToCreate, WantsRoomAlone, create_refusal}
use Rattle.blk_cache.specs.Evicting.{IsEvicting}
use Rattle.blk_cache.specs.MakingRoom.{ForRoom}
use Rattle.blk_evict.specs.RoomPrinting.{PrintsUnlessFailed}
use Rattle.blk_cache.specs.Stepping.{SaysEvicted, SaysPrefix}
use Rattle.blk_cache.proofs.CoveredParts.{for-none}
use Rattle.blk_cache.proofs.CreateRoom.{finds-room, wants-one}
use Rattle.blk_evict.proofs.RoomTexts.{none-behind, none-printed}

-- ---- answers

if-any : {A : Type 0} (r : Result A Fault) (P : Damage → Type 0) → ((damage : Damage) → P damage) → IfDamaged r P
if-any (Ok a) P all = tt
if-any (Err fault.Device) P all = tt
if-any (Err (fault.Damaged damage)) P all = all damage

-- an observable folder reports no corruption, where that is so of all files that it may have
pub untold-by : {A : Type 0} (r : Result A Fault) (files : Option Image) → ((image : Image) → files ≡ Some image → IfDamaged r (λ _. files ≡ None)) → IfDamaged r (λ _. files ≡ None)
untold-by r None all = if-any r (λ _. None ≡ None) (λ damage. refl)
untold-by r (Some image) all = all image refl

-- ---- refusals and eviction units

module _ (moment handle : ℕ) (key : List ℕ) where
  room-is : (state : State) → no_room moment (to_create handle key) state ≡ is_full (room state [] (length key) 1)
  room-is state = ap is_full (wants-one state moment handle key)

  evicted-is : (state : State) → evicted moment (to_create handle key) state ≡ evicted_for (room state [] (length key) 1)
  unfolding evicted
  evicted-is state = ap evicted_for (wants-one state moment handle key)

  refused-full : (state : State) → refused moment (to_create handle key) state ≡ create_refusal None (no_room moment (to_create handle key) state) → is_full (room state [] (length key) 1) ≡ true → refused moment (to_create handle key) state ≡ Some refusal.Full
  refused-full state is over = is ∙ ap (create_refusal None) (room-is state ∙ over)

  not-refused : (state : State) → refused moment (to_create handle key) state ≡ create_refusal None (no_room moment (to_create handle key) state) → is_full (room state [] (length key) 1) ≡ false → refused moment (to_create handle key) state ≡ None
  not-refused state is free = is ∙ ap (create_refusal None) (room-is state ∙ free)

  refused-groups : (state : State) (why : Refusal) → refused moment (to_create handle key) state ≡ Some why → (step state moment (to_create handle key)).groups ≡ []
  unfolding step outcome
  refused-groups state why is = ap (λ (o : Option Refusal). (outcome moment (to_create handle key) state o).groups) is

  passed-groups : (state : State) → refused moment (to_create handle key) state ≡ None → (step state moment (to_create handle key)).groups ≡ evicted moment (to_create handle key) state
  unfolding step outcome
  passed-groups state is = ap (λ (o : Option Refusal). (outcome moment (to_create handle key) state o).groups) is

  -- a Create that isn't refused finds space
  pub has-room : (state : State) → refused moment (to_create handle key) state ≡ None → is_full (room state [] (length key) 1) ≡ false
  has-room state passes = sym (room-is state) ∙ finds-room state moment handle key passes

  groups-made : (state : State) → refused moment (to_create handle key) state ≡ None → (step state moment (to_create handle key)).groups ≡ evicted_for (room state [] (length key) 1)
  groups-made state passes = passed-groups state passes ∙ evicted-is state

  -- ---- texts

  module _ (cache : Cache) (told : Told) (failed_before failed : Bool) (old new : Option (List ℕ)) where
    -- a refusal prints nothing of this
    pub refused-says : (why : Refusal) → ForKept (HoldsState cache) told (λ state. refused moment (to_create handle key) state ≡ Some why) → SaysEvicted cache told moment (to_create handle key) failed_before failed_before old old
    refused-says why is image there state k = subst (λ (groups : List Group). PrintsUnlessFailed failed_before failed_before old old (evicted_text groups)) (sym (refused-groups state why (is image there state k))) (none-printed failed_before old)

    -- nor does what fails before
    pub front-before : SaysPrefix (HoldsState cache) told moment (to_create handle key) old old
    front-before image there state k = record { front = []; rest = evicted_text (step state moment (to_create handle key)).groups; split = refl; written = none-behind old }

    module _ (passes : IsNotRefused cache told moment handle key) where
      pub made-says : ForKept (HoldsState cache) told (λ state. PrintsUnlessFailed failed_before failed old new (evicted_text (evicted_for (room state [] (length key) 1)))) → SaysEvicted cache told moment (to_create handle key) failed_before failed old new
      made-says prints image there state k = subst (λ (groups : List Group). PrintsUnlessFailed failed_before failed old new (evicted_text groups)) (sym (groups-made state (passes image there state k))) (prints image there state k)

      pub made-front : ForKept (HoldsState cache) told (λ state. Appends old new (evicted_text (evicted_for (room state [] (length key) 1)))) → SaysPrefix (HoldsState cache) told moment (to_create handle key) old new
      made-front front image there state k = subst (λ (groups : List Group). Appends old new (evicted_text groups)) (sym (groups-made state (passes image there state k))) (front image there state k)

-- ---- lack of space

module _ (cache : Cache) (told : Told) (moment handle : ℕ) (key : List ℕ) (alone : WantsRoomAlone cache told moment handle key) where
  -- where nothing else is wanted, it is refused where there is no space
  pub full-refused : ForKept (HoldsState cache) told (λ state. is_full (room state [] (length key) 1) ≡ true) → ForKept (HoldsState cache) told (λ state. refused moment (to_create handle key) state ≡ Some refusal.Full)
  full-refused over image there state k = refused-full moment handle key state (alone image there state k) (over image there state k)

  -- and not where there is
  pub free-passes : ForKept (HoldsState cache) told (λ state. is_full (room state [] (length key) 1) ≡ false) → IsNotRefused cache told moment handle key
  free-passes free image there state k = not-refused moment handle key state (alone image there state k) (free image there state k)

-- what is evicted where there is space is evicted for a Create that isn't refused
pub room-groups : (cache : Cache) (told : Told) (moment handle : ℕ) (key : List ℕ) (parts : Covered) (P : State → List Group → Type 0) → parts ≡ none_in_range → IsNotRefused cache told moment handle key
    → ForRoom cache parts told (length key) 1 P → ForKept (HoldsState cache) told (λ state. P state (evicted_for (room state [] (length key) 1)))
room-groups cache told moment handle key parts P none passes holds image there state k =
    for-none cache parts told (λ state covered. is_full (room state covered (length key) 1) ≡ false → P state (evicted_for (room state covered (length key) 1))) none holds image there state k
    (has-room moment handle key state (passes image there state k))

-- ---- steps

-- after a call that passes a folder is observable where it was before
pub there-after : (told mid : Told) (P : Image → Type 0) → Passes told mid P → (image : Image) → told.files ≡ Some image → (from : Image) × (mid.files ≡ Some from)
there-after told mid P p image there = (after p.steps image, p.applies.files ∙ ap (option_map (after p.steps)) there)

module _ (cache : Cache) (told mid : Told) (moment handle : ℕ) (key : List ℕ)
    (passes : IsNotRefused cache told moment handle key)
    (evicting : ForKept (HoldsState cache) told (λ state. Passes told mid (IsEvicting (evicted_for (room state [] (length key) 1)) state))) where
  -- at a word at which space is made it may crash
  room-stop : (image i : Image) (state : State) → told.files ≡ Some image → HoldsState cache state image → IsEvicting (evicted_for (room state [] (length key) 1)) state i → MayStop state moment (to_create handle key) i
  room-stop image i state there k e = stop-evicted state moment (to_create handle key) e.first e.others i k.kept.entries.valid (record { passes = passes image there state k; groups = evicted-is moment handle key state ∙ e.split }) e.finds

  pub room-stops : MayStopAtEach (HoldsState cache) told mid moment (to_create handle key)
  room-stops image there state k =
      let may : (i : Image) → IsEvicting (evicted_for (room state [] (length key) 1)) state i → MayStop state moment (to_create handle key) i = λ i e. room-stop image i state there k e in
      passes_weaker (evicting image there state k) may may

  module _ (new : Cache) (made : ForKept (HoldsState cache) told (λ state. ForSome mid.files (HoldsState new (without (evicted_for (room state [] (length key) 1)) state)))) where
    -- then the object is to be made
    pub ready : (image from : Image) (state : State) → told.files ≡ Some image → mid.files ≡ Some from → HoldsState cache state image → IsReadyToCreate new state moment handle key from
    ready image from state there here k = record {
      valid = k.kept.entries.valid;
      passes = passes image there state k;
      kept = subst (λ (groups : List Group). HoldsState new (without groups state) from) (sym (evicted-is moment handle key state)) (made image there state k from here);
    }

    pub ready-for-some : (image : Image) → told.files ≡ Some image → KeepsAny cache image → ForSome mid.files (IsReadyForSome new handle key)
    ready-for-some image there some from here = record { state = some.0; moment = moment; ready = ready image from some.0 there here some.1 }

    module _ (now : Told) where
      pub whole-stops : ForSome mid.files (λ from. (state : State) → IsReadyToCreate new state moment handle key from → Passes mid now (MayStop state moment (to_create handle key))) → MayStopAtEach (HoldsState cache) told now moment (to_create handle key)
      whole-stops stops image there state k =
          let first : Passes told mid (MayStop state moment (to_create handle key)) = room-stops image there state k in
          let at = there-after told mid (MayStop state moment (to_create handle key)) first image there in
          passes_then first (stops at.0 at.1 state (ready image at.0 state there at.1 k))

      pub whole-does : (last : Cache) (answer : Answer) → ForSome mid.files (λ from. (state : State) → IsReadyToCreate new state moment handle key from → IsDone (HoldsState last) now moment (to_create handle key) answer state)
          → Does (HoldsState cache) (HoldsState last) told now moment (to_create handle key) answer
      whole-does last answer does image there state k =
          let at = there-after told mid (MayStop state moment (to_create handle key)) (room-stops image there state k) image there in
          does at.0 at.1 state (ready image at.0 state there at.1 k)

    -- an observable folder reports no corruption
    pub whole-untold : {A : Type 0} (r : Result A Fault) → (ForSome mid.files (IsReadyForSome new handle key) → IfDamaged r (λ _. mid.files ≡ None)) → ForSome told.files (KeepsAny cache) → IfDamaged r (λ _. told.files ≡ None)
    whole-untold r untold some = untold-by r told.files (λ image there. if-damaged r image there (untold (ready-for-some image there (some image there)))) where
      clash : {x : Image} → ◌≡◌ {A = Option Image} None (Some x) → ⊥
      clash e = cc

      if-damaged : {A : Type 0} (q : Result A Fault) (image : Image) → told.files ≡ Some image → IfDamaged q (λ _. mid.files ≡ None) → IfDamaged q (λ _. told.files ≡ None)
      if-damaged (Ok a) image there d = tt
      if-damaged (Err fault.Device) image there d = tt
      if-damaged (Err (fault.Damaged damage)) image there none =
          let k = (some image there) in
          let at = there-after told mid (MayStop k.0 moment (to_create handle key)) (room-stops image there k.0 k.1) image there in
          absurd (clash (sym none ∙ at.1))

-- an answer that is none of a refusal
pub only-done : (r : Result Answer Fault) (P : Type 0) → IfOk r (λ given. given ≡ answer.Done) → IfOk r (λ given. IsRefused given → P)
only-done (Ok given) P done = λ refused. true_false (subst IsRefused done refused) refl
only-done (Err e) P done = tt

-- from one property of an answer to another
pub if_ok_weaker : {A : Type 0} (r : Result A Fault) {P Q : A → Type 0} → ((a : A) → P a → Q a) → IfOk r P → IfOk r Q
if_ok_weaker (Ok a) weaker holds = weaker a holds
if_ok_weaker (Err e) weaker holds = tt

pub on-ok : {A : Type 0} (r : Result A Fault) (P : Type 0) → P → OnOk r P
on-ok (Ok a) P holds = holds
on-ok (Err e) P holds = tt
