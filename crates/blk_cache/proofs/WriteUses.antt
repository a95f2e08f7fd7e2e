-- The access to an item of a dirty object, and the count of its rise.
use Rattle.std.proofs.Common.{◌≡◌, ℕ, ◌+◌, Bool, true, false, List, [], ◌∷◌, ◌++◌, Option, Some, None, Result, Ok, Err, refl, sym, ap, subst, ◌∙◌}
use Rattle.std.specs.Prelude.{if◌then◌else◌, nat_lt}
use Rattle.std.specs.Option.{ForSome, option_map}
use Rattle.spec_image.specs.Image.{Image}
use Rattle.spec_image.specs.Steps.{after}
use Rattle.spec_image.specs.Told.{Applies, Passes, TellsBytes, Told}
use Rattle.spec_image.proofs.Runs.{passes_end, passes_then, passes_weaker, some_inj}
use Rattle.blk_io.specs.Faults.{IfDamaged}
use Rattle.blk_io.specs.declared.fault.Fault.{Fault}
use Rattle.blk_io.specs.declared.fault.Fault.TheVariants as fault
use Rattle.blk_model.specs.Effects.{used}
use Rattle.blk_model.specs.Holding.{rest}
use Rattle.blk_model.specs.Items.{Item, Row, main}
use Rattle.blk_model.specs.State.{IsValidState, Object, State, object_at}
use Rattle.spec_folder.specs.Layout.{Layout, is_listed}
use Rattle.spec_folder.specs.ListImages.{HasListAtRest, steps_of_touch}
use Rattle.spec_folder.specs.ListPlans.{touch_writes}
use Rattle.spec_folder.specs.ListSteps.{IsTouched}
use Rattle.spec_folder.specs.View.{list_of}
use Rattle.law_folder.proofs.states.Settling.{main-listed}
use Rattle.blk_disk.specs.declared.tables.BlockFiles.{BlockFiles}
use Rattle.blk_disk.specs.Open.{IsOpen}
use Rattle.blk_lru.specs.Moments.{IsMidTouch}
use Rattle.law_state.specs.Changes.{Finds, KeepsWith, SameCounters}
use Rattle.law_state.specs.CommandStates.{IsUnsettled, KeepsOtherKeys, amidst}
use Rattle.law_state.specs.Keeping.{KeepsUncounted}
use Rattle.law_state.specs.ListLaws.{IsTouchDone, with_used}
use Rattle.law_state.proofs.Counts.{touch-count}
use Rattle.law_state.proofs.Keeping.{kept-held}
use Rattle.law_state.proofs.NotAtRest.{own-uses, unsettled-rest}
use Rattle.law_state.proofs.Touched.{touch-keeps}
use Rattle.law_state.proofs.Touching.{touches-find}
use Rattle.blk_object.specs.KeptLists.{IsAmidList}
use Rattle.blk_object.proofs.KeptLists.{listed-amid, touches-done, touches-partly}
use Rattle.blk_object.specs.Writing.{IsRiseCounted}
use Rattle.blk_cache.specs.Writing.{ForEachToUse, IsToBeUsed, IsUsedAndCounted}
use Rattle.blk_cache.proofs.CreateWhole.{there-after, untold-by}
use Rattle.blk_cache.proofs.Marks.{set-same}

-- ---- the durable contents

module _ (state : State) (number : ℕ) (object : Object) (valid : IsValidState state) (here : object_at state number ≡ Some object) (live : object.live ≡ true) (loose : object.settled ≡ false) where
  as-it-is : (uses : List Item) → amidst state number object uses ≡ record state { uses = uses }
  as-it-is uses = ap (λ (os : List (Option Object)). record state { objects = os; uses = uses }) (set-same state.objects number object here)

  -- whatever becomes of a dirty object, the durable contents are the same
  pub rest-whatever : (other : Object) (uses : List Item) → IsUnsettled other object.key → KeepsOtherKeys state object.key uses → rest (amidst state number other uses) ≡ rest state
  rest-whatever other uses is keeps =
      unsettled-rest state number object other object uses state.uses valid here live is (record { key_is = refl; live = live; unsettled = loose }) keeps refl ∙ ap rest (as-it-is state.uses)

  -- also once it is accessed
  pub keeps-used : KeepsOtherKeys state object.key (used (main object.key) state.uses)
  keeps-used = (own-uses state object.key (main object.key) state.uses refl refl).1

  pub rest-used : rest (with_used state (main object.key)) ≡ rest state
  rest-used = sym (ap rest (as-it-is (used (main object.key) state.uses))) ∙ rest-whatever object (used (main object.key) state.uses) (record { key_is = refl; live = live; unsettled = loose }) keeps-used

-- ---- the access

either-way : (b : Bool) (one other it : List Row) (image : Image) → one ≡ it → other ≡ it → Finds (if b then one else other) image → Finds it image
either-way true one other it image first second finds = subst (λ (rows : List Row). Finds rows image) first finds
either-way false one other it image first second finds = subst (λ (rows : List Row). Finds rows image) second finds

module _ (files : BlockFiles) (node : ℕ) (old mid : Told) (from : Image) (here : old.files ≡ Some from) (state : State) (layout : Layout) (number : ℕ) (object : Object) (is : IsToBeUsed state layout number object node from) where
  listed : is_listed state (main object.key) ≡ true
  listed = main-listed state is.kept.valid number object true is.here is.live

  amid : ForSome old.files (IsAmidList node)
  amid i there = subst (IsAmidList node) (some_inj (sym here ∙ there)) (subst (λ (n : ℕ). IsAmidList n from) (sym is.node_is) (listed-amid state layout [] from (main object.key) is.kept listed))

  same-rest : rest (with_used state (main object.key)) ≡ rest state
  same-rest = rest-used state number object is.kept.valid is.here is.live is.unsettled

  -- at each word of the access
  touch-finds : (i : Image) → IsTouched from node (touch_writes node (list_of from)) i → Finds (rest state) i
  touch-finds i touched =
      let at : IsTouched from (layout.place (main object.key)) (touch_writes (layout.place (main object.key)) (list_of from)) i = subst (λ (n : ℕ). IsTouched from n (touch_writes n (list_of from)) i) is.node_is touched in
      either-way (nat_lt at.made 2) (rest state) (rest (with_used state (main object.key))) (rest state) i refl same-rest (touches-find state layout [] from i is.kept (main object.key) listed at)

  pub touch-stops : ForSome old.files (λ from. (prefix suffix : List ℕ) → HasListAtRest (prefix ++ node ∷ suffix) from → Passes old mid (IsMidTouch files node (touch_writes node (list_of from)) (prefix ++ node ∷ suffix) (node ∷ prefix ++ suffix) from))
      → Passes old mid (Finds (rest state))
  touch-stops stops = passes_weaker (touches-partly files node old mid amid stops from here) touch-finds touch-finds

  module _ (moment : ℕ) (bytes : TellsBytes old) (opened : ForSome old.files (IsOpen files)) (steps : ForSome old.files (λ from. Applies old mid (steps_of_touch node moment from))) (i : Image) (there : mid.files ≡ Some i) where
    done : IsTouchDone from (layout.place (main object.key)) i
    done = subst (λ (n : ℕ). IsTouchDone from n i) is.node_is (touches-done files node moment old mid bytes opened amid steps from here i there)

    pub touched-keeps : KeepsUncounted (with_used state (main object.key)) layout [] i
    touched-keeps = touch-keeps state layout [] from i (main object.key) is.kept listed done

    pub touched-counters : SameCounters from i
    touched-counters = touch-count (touch_writes (layout.place (main object.key)) (list_of from)) (layout.place (main object.key)) from i done.touched.outside

-- ---- both

module _ (files : BlockFiles) (node moment less more : ℕ) (old mid now : Told) (bytes : TellsBytes old) (opened : ForSome old.files (IsOpen files))
    (stops : ForSome old.files (λ from. (prefix suffix : List ℕ) → HasListAtRest (prefix ++ node ∷ suffix) from → Passes old mid (IsMidTouch files node (touch_writes node (list_of from)) (prefix ++ node ∷ suffix) (node ∷ prefix ++ suffix) from))) where
  -- the access in part
  pub used-in-part : ForSome old.files (λ from. ForEachToUse node from (λ state layout its. Passes old mid (Finds (rest state))))
  used-in-part from here state layout number object is = touch-stops files node old mid from here state layout number object is stops

  module _ (steps : ForSome old.files (λ from. Applies old mid (steps_of_touch node moment from))) (kept : ForSome mid.files (λ from. Passes mid now (KeepsWith [] [] from))) where
    mid-there : (from : Image) (here : old.files ≡ Some from) (state : State) (layout : Layout) (number : ℕ) (object : Object) → IsToBeUsed state layout number object node from → (i : Image) × (mid.files ≡ Some i)
    mid-there from here state layout number object is = there-after old mid (Finds (rest state)) (used-in-part from here state layout number object is) from here

    pub used-stops : ForSome old.files (λ from. ForEachToUse node from (λ state layout its. Passes old now (Finds (rest state))))
    used-stops from here state layout number object is =
        let m = mid-there from here state layout number object is in
        let k = touched-keeps files node old mid from here state layout number object is moment bytes opened steps m.0 m.1 in
        let may : (i : Image) → KeepsWith [] [] m.0 i → Finds (rest state) i = λ i with_.
        let after : KeepsUncounted (with_used state (main object.key)) layout [] i = with_ (with_used state (main object.key)) layout [] k in
        subst (λ (rows : List Row). Finds rows i) (rest-used state number object is.kept.valid is.here is.live is.unsettled) (after.sound, kept-held (with_used state (main object.key)) layout [] i after) in
        passes_then (used-in-part from here state layout number object is) (passes_weaker (kept m.0 m.1) may may)

    pub used-counted : ForSome mid.files (λ from. ForSome now.files (IsRiseCounted less more from)) → ForSome old.files (λ from. ForEachToUse node from (λ state layout its. ForSome now.files (IsUsedAndCounted state layout its less more from)))
    used-counted counted from here state layout number object is i there =
        let m = mid-there from here state layout number object is in
        let k = touched-keeps files node old mid from here state layout number object is moment bytes opened steps m.0 m.1 in
        let end : KeepsWith [] [] m.0 i = passes_end (kept m.0 m.1) i there in
        record {
          touched = m.0;
          kept = k;
          counters = touched-counters files node old mid from here state layout number object is moment bytes opened steps m.0 m.1;
          counted = counted m.0 m.1 i there;
          kept_still = end (with_used state (main object.key)) layout [] k;
        }

-- ---- failed checks

-- corruption that is reported of an opaque folder alone is never reported of an observable one
pub never-told : {A : Type 0} (r : Result A Fault) (mid old : Option Image) (i : Image) → mid ≡ Some i → IfDamaged r (λ _. mid ≡ None) → IfDamaged r (λ _. old ≡ None)
never-told (Ok a) mid old i there d = tt
never-told (Err fault.Device) mid old i there d = tt
never-told (Err (fault.Damaged damage)) mid old i there none = absurd (clash (sym none ∙ there)) where
  clash : ◌≡◌ {A = Option Image} None (Some i) → ⊥
  clash e = cc

pub count-untold : {A : Type 0} (r : Result A Fault) (node moment : ℕ) (old mid : Told) → ForSome old.files (λ from. Applies old mid (steps_of_touch node moment from)) → IfDamaged r (λ _. mid.files ≡ None) → IfDamaged r (λ _. old.files ≡ None)
count-untold r node moment old mid steps untold = untold-by r old.files (λ from here.
    never-told r mid.files old.files (after (steps_of_touch node moment from) from) ((steps from here).files ∙ ap (option_map (after (steps_of_touch node moment from))) here) untold)
