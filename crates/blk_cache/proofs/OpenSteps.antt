-- An Open, by what holds at each word of its access.
use Rattle.std.proofs.Common.{◌≡◌, ℕ, ◌<◌, ◌^◌, List, [], ◌∷◌, ◌++◌, length, set, length-set, true, false, Option, Some, None, sym, ap, subst, ◌∙◌, arith}
use Rattle.std.specs.Option.{ForSome}
use Rattle.spec_image.specs.Image.{Image}
use Rattle.spec_image.specs.Told.{Applies, Passes, TellsBytes, Told}
use Rattle.spec_image.proofs.Runs.{passes_weaker, some_inj}
use Rattle.blk_model.specs.Effects.{used}
use Rattle.blk_model.specs.Items.{IsBytes, main}
use Rattle.blk_model.specs.Refusals.{refused}
use Rattle.blk_model.specs.Reply.{answer_of}
use Rattle.blk_model.specs.Request.{to_open}
use Rattle.blk_model.specs.State.{State}
use Rattle.blk_model.specs.Step.{reply, step}
use Rattle.blk_model.specs.declared.Answer.TheVariants as answer
use Rattle.spec_format.specs.BlockFiles.{is_among}
use Rattle.spec_folder.specs.Layout.{Layout, is_listed, order}
use Rattle.spec_folder.specs.ListImages.{HasListAtRest, steps_of_touch, walked}
use Rattle.spec_folder.specs.ListPlans.{touch_writes}
use Rattle.spec_folder.specs.ListSteps.{IsTouched}
use Rattle.spec_folder.specs.ListView.{IsList}
use Rattle.spec_folder.specs.View.{list_of, view_of}
use Rattle.law_folder.proofs.commands.Opening.{first-some}
use Rattle.law_folder.proofs.states.Central.{walk-order}
use Rattle.law_folder.proofs.states.Laid.{is_among-node}
use Rattle.blk_disk.specs.Open.{IsOpen}
use Rattle.blk_handles.specs.Bindings.{AreShared, Bindings, binding_for, is_open, open_with}
use Rattle.blk_lru.specs.Lists.{IsListed}
use Rattle.blk_lru.specs.Moments.{IsMidTouch}
use Rattle.law_state.specs.Commands.{Does, MayStop, MayStopAtEach}
use Rattle.law_state.specs.CommandStates.{in_order, with_names}
use Rattle.law_state.specs.Keeping.{Keeps, KeepsUncounted}
use Rattle.law_state.specs.ListLaws.{IsTouchDone}
use Rattle.law_state.proofs.CommandEnding.{opens-end, passed}
use Rattle.law_state.proofs.OneCalls.{opens-end-by-touch}
use Rattle.law_state.proofs.Touched.{leaves}
use Rattle.law_state.proofs.Touching.{opens-stop}
use Rattle.blk_object.specs.KeptLists.{IsAmidList}
use Rattle.blk_object.proofs.KeptLists.{listed-amid, touches-done, touches-partly}
use Rattle.blk_cache.specs.declared.cache.Cache.{Cache}
use Rattle.blk_evict.specs.declared.looking.Live.{Live}
use Rattle.blk_cache.specs.CacheKeeping.{HoldsState}
use Rattle.blk_cache.specs.CommandClauses.{KeepsAny, OnlyNamesChange, charged_with, open_refusal, SparesRefused}
use Rattle.blk_evict.specs.Looking.{IsLiveAt}
use Rattle.blk_cache.proofs.Opens.{opened-keeps, used-node}
use Rattle.blk_cache.proofs.Refusing.{name-below, name-free, not-refused}
use Rattle.blk_cache.proofs.Sparing.{passed-spares}

-- what is found in an observable folder
abbrev pub IsFoundIn : Told → List ℕ → Live → Type 0
IsFoundIn told key found = ForSome told.files (λ image. (state : State) (layout : Layout) (unlinked : List ℕ) → KeepsUncounted state layout unlinked image → IsLiveAt state layout key found)

-- an Open that isn't refused is answered as done
open-answer : (moment handle : ℕ) (key : List ℕ) (s : State) → refused moment (to_open handle key) s ≡ None → answer_of (step s moment (to_open handle key)).reply ≡ answer.Done
unfolding reply
open-answer moment handle key s goes = ap answer_of (passed s moment (to_open handle key) goes).1

-- the node of a listed item is in the walked list
pub listed-node : (state : State) (layout : Layout) (image : Image) → KeepsUncounted state layout [] image → (key : List ℕ) → is_listed state (main key) ≡ true → IsListed (layout.place (main key)) image
listed-node state layout image k key there =
    let w : walked image ≡ order state layout = walk-order (view_of image) state layout k.represents in
    record {
      rest = record { whole = subst (λ (ns : List ℕ). IsList (list_of image) ns) (sym w) k.represents.list; idle = k.represents.idle };
      listed = subst (λ (ns : List ℕ). is_among ns (layout.place (main key)) ≡ true) (sym w) (is_among-node layout state.uses (main key) there);
    }

module _ (cache : Cache) (old mid now : Told) (stays : mid ≡ old) (moment handle : ℕ) (key : List ℕ) (found : Live) (there : IsFoundIn old key found) (passes : open_refusal cache.handles handle key ≡ None)
    (node : ℕ) (same : ForSome (open_with cache.handles found.entry) (λ b. b.node ≡ node)) (other : open_with cache.handles found.entry ≡ None → node ≡ found.node) where
  module _ (image : Image) (here : old.files ≡ Some image) (state : State) (k : HoldsState cache state image) where
    abbrev at : IsLiveAt state k.layout key found
    at = there image here state k.layout [] k.kept.entries

    listed : is_listed state (main key) ≡ true
    listed = first-some state (main key) at.number k.kept.entries.valid at.is

    node-is : node ≡ k.layout.place (main key)
    node-is = used-node cache state image k key found at node same other

    now-here : mid.files ≡ Some image
    now-here = ap (λ (t : Told). t.files) stays ∙ here

    amid : ForSome mid.files (IsAmidList node)
    amid i is = subst (IsAmidList node) (some_inj (sym now-here ∙ is)) (subst (λ (n : ℕ). IsAmidList n image) (sym node-is) (listed-amid state k.layout [] image (main key) k.kept.entries listed))

    goes-on : refused moment (to_open handle key) state ≡ None
    goes-on = not-refused cache state image k moment handle key passes at.number at.is

    pub used-listed : IsListed node image
    used-listed = subst (λ (n : ℕ). IsListed n image) (sym node-is) (listed-node state k.layout image k.kept.entries key listed)

  -- a folder where the cache keeps a state has the node listed
  pub mid-listed : ForSome old.files (KeepsAny cache) → ForSome mid.files (IsListed node)
  mid-listed any image is =
      let here : old.files ≡ Some image = ap (λ (t : Told). t.files) (sym stays) ∙ is in
      let one : KeepsAny cache image = any image here in
      used-listed image here one.0 one.1

  -- at each word
  pub opened-stops : ForSome mid.files (λ from. (prefix suffix : List ℕ) → HasListAtRest (prefix ++ node ∷ suffix) from → Passes mid now (IsMidTouch cache.files node (touch_writes node (list_of from)) (prefix ++ node ∷ suffix) (node ∷ prefix ++ suffix) from))
      → MayStopAtEach (HoldsState cache) old now moment (to_open handle key)
  opened-stops stops image here state k =
      let run : Passes mid now (IsTouched image node (touch_writes node (list_of image))) = touches-partly cache.files node mid now (amid image here state k) stops image (now-here image here state k) in
      let from-old : Passes old now (IsTouched image node (touch_writes node (list_of image))) = subst (λ (t : Told). Passes t now (IsTouched image node (touch_writes node (list_of image)))) stays run in
      let may : (i : Image) → IsTouched image node (touch_writes node (list_of image)) i → MayStop state moment (to_open handle key) i
      = λ i touched. opens-stop state k.layout [] image i k.kept.entries moment handle key (goes-on image here state k) (subst (λ (n : ℕ). IsTouched image n (touch_writes n (list_of image)) i) (node-is image here state k) touched) in
      passes_weaker from-old may may

  -- and it isn't refused
  pub opened-spares : SparesRefused (HoldsState cache) old now moment (to_open handle key)
  opened-spares = passed-spares (HoldsState cache) old now moment (to_open handle key) (λ image here state k. goes-on image here state k)

  -- in the end
  pub opened-does : (new : Cache) → IsBytes key → handle < 2 ^ 16 → TellsBytes mid → ForSome mid.files (IsOpen cache.files) → ForSome now.files (IsOpen cache.files) → ForSome mid.files (λ from. Applies mid now (steps_of_touch node moment from))
      → new.handles ≡ set cache.handles handle (Some (binding_for cache.handles found.entry node false)) → new.open_bytes ≡ charged_with cache.open_bytes (is_open cache.handles found.entry) found.charge → OnlyNamesChange cache new → AreShared new.handles → new.bytes < 2 ^ 64
      → Does (HoldsState cache) (HoldsState new) old now moment (to_open handle key) answer.Done
  opened-does new bytes small are opened still steps binds charges others shared few image here state k = record {
    answered = sym (open-answer moment handle key state (goes-on image here state k));
    kept = λ i is.
        let done : IsTouchDone image node i = touches-done cache.files node moment mid now are opened (amid image here state k) steps image (now-here image here state k) i is in
        let done-at : IsTouchDone image (k.layout.place (main key)) i = subst (λ (n : ℕ). IsTouchDone image n i) (node-is image here state k) done in
        let ends : (step state moment (to_open handle key)).state ≡ with_names (set state.names handle (Some (at image here state k).number)) (in_order (used (main key) state.uses) state) =
        opens-end state moment handle key (goes-on image here state k) ∙ ap (λ (o : Option ℕ). with_names (set state.names handle o) (in_order (used (main key) state.uses) state)) (at image here state k).is in
        let keeps : Keeps (step state moment (to_open handle key)).state k.layout [] i = opens-end-by-touch state k.layout [] image i moment handle key k.kept (small, bytes) (goes-on image here state k) done-at in
        let keeps-next : Keeps (with_names (set state.names handle (Some (at image here state k).number)) (in_order (used (main key) state.uses) state)) k.layout [] i = subst (λ (s : State). Keeps s k.layout [] i) ends keeps in
        let below = name-below cache handle key passes in
        let long = k.kept.entries.valid.names in
        let shared-long : length (set cache.handles handle (Some (binding_for cache.handles found.entry node false))) ≡ 4096 = subst (λ (bs : Bindings). length bs ≡ 4096) binds shared.names in
        let also : length cache.handles ≡ 4096 = sym (length-set cache.handles handle (Some (binding_for cache.handles found.entry node false))) ∙ shared-long in
        let bytes-same = others.bytes in
        subst (λ (s : State). HoldsState new s i) (sym ends)
        (opened-keeps cache state image k key found (at image here state k) node same other handle (used (main key) state.uses) (omega (arith, below, long)) (omega (arith, below, also)) (name-free cache handle key passes) new i keeps-next (still i is).agrees
        (leaves state k.layout [] image i (main key) k.kept.entries (listed image here state k) done-at).session.id others (omega (arith, few, bytes-same)) binds charges);
  }
