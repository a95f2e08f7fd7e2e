-- A SparseWrite of no bytes: it accesses the main item of its object, and does nothing else.
use Rattle.std.proofs.Common.{◌≡◌, ℕ, ◌-◌, Bool, true, List, [], ◌∷◌, ◌++◌, set, Option, Some, None, refl, sym, ap, ap₂, subst, ◌∙◌, arith}
use Rattle.std.specs.Prelude.{if◌then◌else◌, sum_by}
use Rattle.std.specs.Option.{ForSome}
use Rattle.spec_image.specs.Image.{Image}
use Rattle.spec_image.specs.Told.{Applies, Passes, TellsBytes, Told}
use Rattle.spec_image.proofs.Runs.{passes_weaker, some_inj}
use Rattle.blk_model.specs.Effects.{effect, sparse_after, used}
use Rattle.blk_model.specs.Items.{main}
use Rattle.blk_model.specs.ListSteps.{dooms, uses_of}
use Rattle.blk_model.specs.Refusals.{covered, evicted, evicted_for, is_full, refused, room_for}
use Rattle.blk_model.specs.Reply.{answer_of}
use Rattle.blk_model.specs.Request.{to_sparse_write}
use Rattle.blk_model.specs.Room.{Group, Room, after, charge, item_count, items, of_slot, room, total, without}
use Rattle.blk_model.specs.Sparse.{covered_parts}
use Rattle.blk_model.specs.State.{Object, State, object_at}
use Rattle.blk_model.specs.Step.{reply, step}
use Rattle.blk_model.specs.declared.Answer.TheVariants as answer
use Rattle.blk_model.specs.declared.Refusal.TheVariants as refusal
use Rattle.spec_folder.specs.Layout.{Layout, is_listed}
use Rattle.spec_folder.specs.ListImages.{HasListAtRest, steps_of_touch}
use Rattle.spec_folder.specs.ListPlans.{touch_writes}
use Rattle.spec_folder.specs.ListSteps.{IsTouched}
use Rattle.spec_folder.specs.View.{list_of}
use Rattle.law_folder.proofs.states.Settling.{main-listed}
use Rattle.blk_disk.specs.Open.{IsOpen}
use Rattle.blk_lru.specs.Lists.{IsListed}
use Rattle.blk_lru.specs.Moments.{IsMidTouch}
use Rattle.law_state.specs.CommandEnds.{IsNamedBy}
use Rattle.law_state.specs.Commands.{Does, MayStop, MayStopAtEach}
use Rattle.law_state.specs.CommandStates.{in_order, with_room}
use Rattle.law_state.specs.Keeping.{KeepsUncounted}
use Rattle.law_state.specs.ListLaws.{IsTouchDone}
use Rattle.law_state.proofs.CommandEnding.{empty-sparse-writes-end, passed}
use Rattle.law_state.proofs.Touched.{leaves, touch-counts}
use Rattle.law_state.proofs.WordStops.{uses-stop}
use Rattle.blk_object.specs.KeptLists.{IsAmidList}
use Rattle.blk_object.proofs.KeptLists.{listed-amid, touches-done, touches-partly}
use Rattle.blk_sparse.specs.declared.storing.Target.{Target}
use Rattle.blk_cache.specs.declared.cache.Cache.{Cache}
use Rattle.blk_cache.specs.CacheKeeping.{HoldsState}
use Rattle.blk_cache.specs.CommandClauses.{KeepsAny, SparesRefused}
use Rattle.blk_cache.specs.SparseTargets.{IsTargetNamed, NamesTarget}
use Rattle.blk_evict.specs.RoomPrinting.{PrintsUnlessFailed}
use Rattle.blk_script.specs.Reply.{evicted_text}
use Rattle.blk_cache.specs.Stepping.{SaysEvicted}
use Rattle.blk_evict.proofs.RoomTexts.{none-printed}
use Rattle.blk_cache.proofs.EvictionEnds.{passed-says}
use Rattle.blk_cache.proofs.OpenSteps.{listed-node}
use Rattle.blk_cache.proofs.ReadSteps.{keeps-in-order}
use Rattle.blk_cache.proofs.Sizes.{named-object}
use Rattle.blk_cache.proofs.SparseEnds.{effect-same, sparse-written-is}
use Rattle.blk_cache.proofs.SparseRoom.{wants-room}
use Rattle.blk_cache.proofs.Marks.{set-same}
use Rattle.blk_cache.proofs.Sparing.{passed-spares}

-- ---- the model's

module _ (state : State) (moment handle offset : ℕ) (layout : Layout) (found : Target) (t : IsTargetNamed state layout moment handle offset 0 found) where
  abbrev object : Object
  object = t.its.object

  same-object : sparse_after moment object offset [] ≡ object
  unfolding sparse_after
  same-object = refl

  same-objects : (effect moment (to_sparse_write handle offset []) state).objects ≡ state.objects
  same-objects =
      ap (λ (s : State). s.objects) (effect-same moment handle offset [] state ∙ sparse-written-is moment handle offset [] state t.its.number object t.its.names)
      ∙ ap (λ (o : Object). set state.objects t.its.number (Some o)) same-object
      ∙ set-same state.objects t.its.number object t.its.names.here

  -- it needs no space
  room-is : room_for moment (to_sparse_write handle offset []) state ≡ after []
  unfolding room_for room
  room-is =
      let one : total (effect moment (to_sparse_write handle offset []) state) ≡ total state = ap (sum_by (of_slot charge)) same-objects in
      let other : items (effect moment (to_sparse_write handle offset []) state) ≡ items state = ap (sum_by (of_slot item_count)) same-objects in
      ap₂ (λ (b m : ℕ). room state (covered (to_sparse_write handle offset []) state) b m)
      (let e : total (effect moment (to_sparse_write handle offset []) state) - total state ≡ 0 = omega (arith, one) in e)
      (let e : items (effect moment (to_sparse_write handle offset []) state) - items state ≡ 0 = omega (arith, other) in e)

  pub goes-on : refused moment (to_sparse_write handle offset []) state ≡ None
  goes-on = wants-room state moment handle offset [] layout found t ∙ ap (λ (r : Room). if is_full r then Some refusal.Full else None) room-is

  -- and evicts nothing
  pub none-evicted : evicted moment (to_sparse_write handle offset []) state ≡ []
  unfolding evicted
  none-evicted = ap evicted_for room-is

  with-room : with_room state moment (to_sparse_write handle offset []) ≡ state
  unfolding without
  with-room = ap (λ (groups : List Group). without groups state) none-evicted

  named-by : IsNamedBy state moment (to_sparse_write handle offset []) handle t.its.number object
  named-by = record {
    affected = record { passes = goes-on; here = subst (λ (s : State). object_at s t.its.number ≡ Some object) (sym with-room) t.its.names.here; live = t.its.live };
    names = t.its.names.names;
  }

  -- it ends with the main item in front
  pub empty-ends : (step state moment (to_sparse_write handle offset [])).state ≡ in_order (used (main object.key) state.uses) state
  empty-ends = empty-sparse-writes-end state moment handle offset t.its.number object named-by ∙ ap (λ (s : State). in_order (used (main object.key) s.uses) s) with-room

  pub empty-answer : answer.Wrote 0 ≡ answer_of (step state moment (to_sparse_write handle offset [])).reply
  unfolding reply
  empty-answer = sym (ap answer_of (passed state moment (to_sparse_write handle offset []) goes-on).1)

  use-is : uses_of (to_sparse_write handle offset []) state ≡ main object.key ∷ []
  unfolding uses_of covered_parts
  use-is = ap (λ (o : Object). main o.key ∷ []) (named-object state handle t.its.number object t.its.names)

  -- ---- the access

  module _ (from : Image) (k : KeepsUncounted state layout [] from) where
    pub listed : is_listed state (main object.key) ≡ true
    listed = main-listed state k.valid t.its.number object true t.its.names.here t.its.live

    pub empty-stop : (image : Image) → IsTouched from found.parent.node (touch_writes found.parent.node (list_of from)) image → MayStop state moment (to_sparse_write handle offset []) image
    unfolding dooms
    empty-stop image touched =
        uses-stop state moment (to_sparse_write handle offset []) [] [] (main object.key) layout [] from image k.valid goes-on refl use-is
        (subst (λ (s : State). KeepsUncounted (in_order s.uses s) layout [] from) (sym with-room) k)
        (subst (λ (s : State). is_listed (in_order s.uses s) (main object.key) ≡ true) (sym with-room) listed)
        (subst (λ (n : ℕ). IsTouched from n (touch_writes n (list_of from)) image) (sym t.its.node_is) touched)

-- ---- the command

module _ (cache : Cache) (old now : Told) (moment handle offset : ℕ) (found : Target) (names : NamesTarget cache old moment handle offset 0 found) where
  amid : (image : Image) (here : old.files ≡ Some image) (state : State) (k : HoldsState cache state image) → IsAmidList found.parent.node image
  amid image here state k =
      let t = names image here state k in
      subst (λ (n : ℕ). IsAmidList n image) t.its.node_is (listed-amid state k.layout [] image (main t.its.object.key) k.kept.entries (listed state moment handle offset k.layout found t image k.kept.entries))

  pub empty-spares : SparesRefused (HoldsState cache) old now moment (to_sparse_write handle offset [])
  empty-spares =
      passed-spares (HoldsState cache) old now moment (to_sparse_write handle offset [])
      (λ image here state k. goes-on state moment handle offset k.layout found (names image here state k))

  -- a folder where the cache keeps a state has the node listed
  pub target-listed : ForSome old.files (KeepsAny cache) → ForSome old.files (IsListed found.parent.node)
  target-listed any image here =
      let k = any image here in
      let t = names image here k.0 k.1 in
      subst (λ (n : ℕ). IsListed n image) t.its.node_is (listed-node k.0 k.1.layout image k.1.kept.entries t.its.object.key (listed k.0 moment handle offset k.1.layout found t image k.1.kept.entries))

  -- at each word
  pub empty-stops : ForSome old.files (λ from. (prefix suffix : List ℕ) → HasListAtRest (prefix ++ found.parent.node ∷ suffix) from → Passes old now (IsMidTouch cache.files found.parent.node (touch_writes found.parent.node (list_of from)) (prefix ++ found.parent.node ∷ suffix) (found.parent.node ∷ prefix ++ suffix) from)) → MayStopAtEach (HoldsState cache) old now moment (to_sparse_write handle offset [])
  empty-stops stops image here state k =
      let run : Passes old now (IsTouched image found.parent.node (touch_writes found.parent.node (list_of image))) = touches-partly cache.files found.parent.node old now (λ i there. subst (IsAmidList found.parent.node) (some_inj (sym here ∙ there)) (amid image here state k)) stops image here in
      let may : (i : Image) → IsTouched image found.parent.node (touch_writes found.parent.node (list_of image)) i → MayStop state moment (to_sparse_write handle offset []) i
      = λ i touched. empty-stop state moment handle offset k.layout found (names image here state k) image k.kept.entries i touched in
      passes_weaker run may may

  -- in the end
  pub empty-does : TellsBytes old → ForSome old.files (IsOpen cache.files) → ForSome now.files (IsOpen cache.files) → ForSome old.files (λ from. Applies old now (steps_of_touch found.parent.node moment from)) → Does (HoldsState cache) (HoldsState cache) old now moment (to_sparse_write handle offset []) (answer.Wrote 0)
  empty-does are opened still steps image here state k =
      let t = names image here state k in
      let place : ℕ = k.layout.place (main t.its.object.key) in
      record {
        answered = empty-answer state moment handle offset k.layout found t;
        kept = λ i there.
            let done : IsTouchDone image found.parent.node i = touches-done cache.files found.parent.node moment old now are opened (λ j is. subst (IsAmidList found.parent.node) (some_inj (sym here ∙ is)) (amid image here state k)) steps image here i there in
            let done-at : IsTouchDone image place i = subst (λ (n : ℕ). IsTouchDone image n i) (sym t.its.node_is) done in
            let its-listed = listed state moment handle offset k.layout found t image k.kept.entries in
            subst (λ (m : State). HoldsState cache m i) (sym (empty-ends state moment handle offset k.layout found t))
            (keeps-in-order cache state image i k (used (main t.its.object.key) state.uses) (touch-counts state k.layout [] image i (main t.its.object.key) k.kept its-listed done-at) (still i there).agrees
            (leaves state k.layout [] image i (main t.its.object.key) k.kept.entries its-listed done-at).session.id);
      }

  -- nothing is evicted, and so nothing printed
  pub empty-says : (failed : Bool) (written : Option (List ℕ)) → SaysEvicted cache old moment (to_sparse_write handle offset []) failed failed written written
  empty-says failed written =
      passed-says moment (to_sparse_write handle offset []) cache old (λ image here state k. goes-on state moment handle offset k.layout found (names image here state k)) failed failed written written
      (λ image here state k. subst (λ (groups : List Group). PrintsUnlessFailed failed failed written written (evicted_text groups)) (sym (none-evicted state moment handle offset k.layout found (names image here state k))) (none-printed failed written))
