-- A Read of a cache that keeps a state, by what holds at each word of its access.
use Rattle.std.proofs.Common.{◌≡◌, ⊎_elim, ℕ, ◌-◌, Bool, true, false, List, [], length, drop, Option, Some, None, Result, refl, sym, ap, subst, ◌∙◌}
use Rattle.std.specs.Prelude.{OnOk, if◌then◌else◌, min, not, sum_by}
use Rattle.std.specs.Option.{ForSome}
use Rattle.std.proofs.lemmas.Bool.{cases_Bool}
use Rattle.std.proofs.lemmas.List.{length-drop, length-take}
use Rattle.spec_image.specs.Image.{Image, Index, byte}
use Rattle.spec_image.specs.Told.{Applies, Passes, TellsBytes, Told}
use Rattle.spec_image.proofs.Runs.{passes_weaker, some_inj}
use Rattle.blk_io.specs.declared.fault.Fault.{Fault}
use Rattle.blk_model.specs.Effects.{object_of, stream_of, used_all}
use Rattle.blk_model.specs.Items.{Item, main}
use Rattle.blk_model.specs.ListSteps.{uses_of}
use Rattle.blk_model.specs.Refusals.{refusals, refused}
use Rattle.blk_model.specs.Reply.{answer_of}
use Rattle.blk_model.specs.Request.{to_read}
use Rattle.blk_model.specs.Room.{own_charge}
use Rattle.blk_model.specs.State.{Object, State, named_by}
use Rattle.blk_model.specs.Step.{reply, step}
use Rattle.blk_model.specs.declared.Answer.TheVariants as answer
use Rattle.blk_model.specs.declared.Refusal.{Refusal}
use Rattle.spec_format.specs.Headers.{this_id_of}
use Rattle.spec_folder.specs.Layout.{Layout, is_listed}
use Rattle.spec_folder.specs.ListImages.{steps_of_touch}
use Rattle.spec_folder.specs.ListPlans.{touch_writes}
use Rattle.spec_folder.specs.ListSteps.{IsTouched}
use Rattle.spec_folder.specs.View.{list_of}
use Rattle.law_folder.proofs.states.Settling.{main-listed}
use Rattle.blk_disk.specs.Open.{IsOpen}
use Rattle.blk_disk.specs.Tables.{Agrees}
use Rattle.blk_handles.specs.Bindings.{Binding, binding_of}
use Rattle.blk_lru.specs.Lists.{IsListed}
use Rattle.law_state.specs.Commands.{Does, MayStop, MayStopAtEach}
use Rattle.law_state.specs.CommandStates.{in_order}
use Rattle.law_state.specs.Keeping.{Keeps}
use Rattle.law_state.specs.ListLaws.{IsTouchDone}
use Rattle.law_state.proofs.CommandEnding.{passed, uses-end}
use Rattle.law_state.proofs.OneCalls.{doomed-reads-end, reads-end-by-touch, reads-stop}
use Rattle.law_state.proofs.Stopping.{nothing-stops, refusals-done}
use Rattle.law_state.proofs.Touched.{leaves}
use Rattle.blk_object.specs.KeptLists.{IsAmidList}
use Rattle.blk_object.proofs.KeptLists.{listed-amid, touches-done, touches-partly}
use Rattle.blk_cache.specs.declared.asking.NamedStream.{NamedStream}
use Rattle.blk_cache.specs.declared.cache.Cache.{Cache}
use Rattle.blk_cache.specs.Asking.{IsNamedStream, stream_refusal}
use Rattle.blk_cache.specs.CacheKeeping.{IsBoundAs, HoldsState, named_objects}
use Rattle.blk_cache.specs.CommandClauses.{KeepsAny, SparesRefused}
use Rattle.blk_cache.specs.Reading.{UsesItem, bytes_there}
use Rattle.blk_cache.proofs.NamedObjects.{named-same}
use Rattle.blk_cache.proofs.OpenSteps.{listed-node}
use Rattle.blk_cache.proofs.Refusing.{says-kept}
use Rattle.blk_cache.proofs.Sizes.{named-object}
use Rattle.blk_cache.proofs.Sparing.{passed-spares}

-- ---- answers

module _ (state : State) (moment handle stream offset count : ℕ) where
  read-refused : refused moment (to_read handle stream offset count) state ≡ stream_refusal state handle stream
  unfolding refusals
  read-refused = refl

  read-answer : (number : ℕ) (object : Object) (found : NamedStream) → object_of state handle ≡ object → found.size ≡ length (stream_of object stream) → refused moment (to_read handle stream offset count) state ≡ None
      → answer.Bytes (bytes_there found.size offset count) ≡ answer_of (step state moment (to_read handle stream offset count)).reply
  unfolding reply
  read-answer number object found is size goes =
      ap answer.Bytes (ap (λ (n : ℕ). min count (n - offset)) (size ∙ ap (λ (o : Object). length (stream_of o stream)) (sym is)) ∙ ap (min count) (sym (length-drop offset (stream_of (object_of state handle) stream))) ∙ sym (length-take count (drop offset (stream_of (object_of state handle) stream))))
      ∙ sym (ap answer_of (passed state moment (to_read handle stream offset count) goes).1)

pub read-refuses : (cache : Cache) (old now : Told) → now ≡ old → (moment handle stream offset count : ℕ) (why : Refusal) → ForSome old.files (λ image. (state : State) → HoldsState cache state image → stream_refusal state handle stream ≡ Some why)
    → Does (HoldsState cache) (HoldsState cache) old now moment (to_read handle stream offset count) (answer.Refused why)
read-refuses cache old now stays moment handle stream offset count why refuses =
    refusals-done (HoldsState cache) old now moment (to_read handle stream offset count) why stays (λ image there state k. read-refused state moment handle stream offset count ∙ refuses image there state k)

-- ---- the state where items are in another order

in-order-as : (state : State) (layout : Layout) (uses : List Item) (o : Option ℕ) (b : Option Binding) → IsBoundAs state layout o b → IsBoundAs (in_order uses state) layout o b
in-order-as state layout uses None None n = n
in-order-as state layout uses (Some number) (Some b) n = record { object = n.object; here = n.here; loaded = n.loaded; at = n.at; node = n.node; entry = n.entry; doomed = n.doomed; dirty = n.dirty }
in-order-as state layout uses None (Some b) n = absurd n
in-order-as state layout uses (Some number) None n = absurd n

pub keeps-in-order : (cache : Cache) (state : State) (from image : Image) (k : HoldsState cache state from) (uses : List Item) → Keeps (in_order uses state) k.layout [] image → Agrees cache.files image → this_id_of (byte image Index) ≡ this_id_of (byte from Index)
    → HoldsState cache (in_order uses state) image
keeps-in-order cache state from image k uses keeps files id =
    let same : named_objects (in_order uses state) ≡ named_objects state = named-same state (in_order uses state) (λ n. refl) 0 state.objects in
    record {
      layout = k.layout;
      kept = keeps;
      limits = k.limits;
      items_are = k.items_are;
      bytes_are = k.bytes_are;
      few = k.few;
      open_objects = k.open_objects ∙ ap length (sym same);
      open_bytes = subst (λ (l : List Object). cache.open_bytes ≡ sum_by own_charge l) (sym same) k.open_bytes;
      names = λ name. in-order-as state k.layout uses (named_by state name) (binding_of cache.handles name) (k.names name);
      files = files;
      mark = k.mark ∙ sym id;
    }

-- ---- the access

module _ (cache : Cache) (old mid : Told) (stays : mid ≡ old) (moment handle stream offset count : ℕ) (found : NamedStream) (has : ForSome old.files (λ image. (state : State) (k : HoldsState cache state image) → IsNamedStream state k.layout handle stream found)) where
  module _ (image : Image) (here : old.files ≡ Some image) (state : State) (k : HoldsState cache state image) where
    abbrev s : IsNamedStream state k.layout handle stream found
    s = has image here state k

    mid-here : mid.files ≡ Some image
    mid-here = ap (λ (t : Told). t.files) stays ∙ here

    goes-on : refused moment (to_read handle stream offset count) state ≡ None
    goes-on = read-refused state moment handle stream offset count ∙ s.passes

    answered : answer.Bytes (bytes_there found.size offset count) ≡ answer_of (step state moment (to_read handle stream offset count)).reply
    answered = read-answer state moment handle stream offset count s.number s.object found (named-object state handle s.number s.object s.names) s.size goes-on

    not-false : (t : Bool) → false ≡ not t → t ≡ true
    not-false true e = refl
    not-false false e = e

    not-true : (t : Bool) → true ≡ not t → t ≡ false
    not-true false e = refl
    not-true true e = e

    -- of a live object
    module _ (alive : found.doomed ≡ false) where
      live : s.object.live ≡ true
      live = not-false s.object.live (sym alive ∙ s.doomed)

      listed : is_listed state (main s.object.key) ≡ true
      listed = main-listed state k.kept.entries.valid s.number s.object true s.names.here live

      node-is : found.node ≡ k.layout.place (main s.object.key)
      node-is = s.node ∙ ap (λ (t : Bool). if t then k.layout.place (main s.object.key) else k.layout.place_of_doomed s.number) live

      amid : ForSome mid.files (IsAmidList found.node)
      amid i is = subst (IsAmidList found.node) (some_inj (sym mid-here ∙ is)) (subst (λ (n : ℕ). IsAmidList n image) (sym node-is) (listed-amid state k.layout [] image (main s.object.key) k.kept.entries listed))

      found-listed : IsListed found.node image
      found-listed = subst (λ (n : ℕ). IsListed n image) (sym node-is) (listed-node state k.layout image k.kept.entries s.object.key listed)

  -- a folder where the cache keeps a state has the node of a live object listed
  pub mid-listed : ForSome old.files (KeepsAny cache) → ForSome mid.files (λ image. found.doomed ≡ false → IsListed found.node image)
  mid-listed any image is alive =
      let here : old.files ≡ Some image = ap (λ (t : Told). t.files) (sym stays) ∙ is in
      let one : KeepsAny cache image = any image here in
      found-listed image here one.0 one.1 alive

  module _ {A : Type 0} (now : Told) (result : Result A Fault) (uses : UsesItem cache.files mid now found moment result) where
    -- it isn't refused
    pub read-spares : SparesRefused (HoldsState cache) old now moment (to_read handle stream offset count)
    read-spares = passed-spares (HoldsState cache) old now moment (to_read handle stream offset count) (λ image here state k. goes-on image here state k)

    -- at each word
    pub read-stops : MayStopAtEach (HoldsState cache) old now moment (to_read handle stream offset count)
    read-stops = ⊎_elim
        (λ (dead : found.doomed ≡ true). nothing-stops (HoldsState cache) (says-kept cache) old now moment (to_read handle stream offset count) (uses.stays dead ∙ stays))
        (λ (alive : found.doomed ≡ false). λ image here state k.
        let run : Passes mid now (IsTouched image found.node (touch_writes found.node (list_of image))) = touches-partly cache.files found.node mid now (amid image here state k alive) (uses.stops alive) image (mid-here image here state k) in
        let from-old : Passes old now (IsTouched image found.node (touch_writes found.node (list_of image))) = subst (λ (t : Told). Passes t now (IsTouched image found.node (touch_writes found.node (list_of image)))) stays run in
        let may : (i : Image) → IsTouched image found.node (touch_writes found.node (list_of image)) i → MayStop state moment (to_read handle stream offset count) i
        = λ i touched. reads-stop state k.layout [] image i moment handle stream offset count (s image here state k).number (s image here state k).object k.kept.entries (goes-on image here state k) (s image here state k).names (live image here state k alive)
        (subst (λ (n : ℕ). IsTouched image n (touch_writes n (list_of image)) i) (node-is image here state k alive) touched) in
        passes_weaker from-old may may)
        (cases_Bool found.doomed)

    -- in the end
    module _ (ok : (P : Type 0) → OnOk result P → P) (are : TellsBytes mid) (opened : ForSome mid.files (IsOpen cache.files)) (still : ForSome now.files (IsOpen cache.files)) where
      touched-end : (alive : found.doomed ≡ false) (image : Image) (here : old.files ≡ Some image) (state : State) (k : HoldsState cache state image) (i : Image) → now.files ≡ Some i → HoldsState cache (step state moment (to_read handle stream offset count)).state i
      touched-end alive image here state k i there =
          let place : ℕ = k.layout.place (main (s image here state k).object.key) in
          let done : IsTouchDone image found.node i = touches-done cache.files found.node moment mid now are opened (amid image here state k alive) (ok (ForSome mid.files (λ from. Applies mid now (steps_of_touch found.node moment from))) (uses.steps alive)) image (mid-here image here state k) i there in
          let done-at : IsTouchDone image place i = subst (λ (n : ℕ). IsTouchDone image n i) (node-is image here state k alive) done in
          let ends : (step state moment (to_read handle stream offset count)).state ≡ in_order (used_all (uses_of (to_read handle stream offset count) state) state.uses) state = uses-end state moment (to_read handle stream offset count) tt (goes-on image here state k) in
          let keeps : Keeps (step state moment (to_read handle stream offset count)).state k.layout [] i = reads-end-by-touch state k.layout [] image i moment handle stream offset count (s image here state k).number (s image here state k).object k.kept (goes-on image here state k) (s image here state k).names (live image here state k alive) done-at in
          subst (λ (m : State). HoldsState cache m i) (sym ends)
          (keeps-in-order cache state image i k (used_all (uses_of (to_read handle stream offset count) state) state.uses) (subst (λ (m : State). Keeps m k.layout [] i) ends keeps) (still i there).agrees
          (leaves state k.layout [] image i (main (s image here state k).object.key) k.kept.entries (listed image here state k alive) done-at).session.id)

      stayed-end : (dead : found.doomed ≡ true) (image : Image) (here : old.files ≡ Some image) (state : State) (k : HoldsState cache state image) (i : Image) → now.files ≡ Some i → HoldsState cache (step state moment (to_read handle stream offset count)).state i
      stayed-end dead image here state k i there =
          let same : image ≡ i = some_inj (sym here ∙ sym (ap (λ (t : Told). t.files) (uses.stays dead ∙ stays)) ∙ there) in
          subst (λ (m : State). HoldsState cache m i)
          (sym (doomed-reads-end state moment handle stream offset count (s image here state k).number (s image here state k).object (goes-on image here state k) (s image here state k).names (not-true image here state k (s image here state k).object.live (sym dead ∙ (s image here state k).doomed))))
          (subst (HoldsState cache state) same k)

      pub read-does : Does (HoldsState cache) (HoldsState cache) old now moment (to_read handle stream offset count) (answer.Bytes (bytes_there found.size offset count))
      read-does image here state k = record {
        answered = answered image here state k;
        kept = λ i there. ⊎_elim (λ (dead : found.doomed ≡ true). stayed-end dead image here state k i there) (λ (alive : found.doomed ≡ false). touched-end alive image here state k i there) (cases_Bool found.doomed);
      }
