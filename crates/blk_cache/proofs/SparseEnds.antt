-- A SparseWrite of some bytes, from where its object becomes dirty.
use Rattle.std.proofs.Common.{◌≡◌, inr, ℕ, ◌+◌, ◌<◌, ◌≤◌, ◌^◌, Bool, true, false, List, [], ◌∷◌, length, map, get_or, Option, Some, None, Result, refl, sym, ap, ap₂, subst, ◌∙◌, arith}
use Rattle.std.specs.Prelude.{◌⊎◌}
use Rattle.std.specs.Option.{ForSome}
use Rattle.spec_image.specs.Image.{Image}
use Rattle.spec_image.specs.Told.{Passes, Told}
use Rattle.spec_image.proofs.Runs.{passes_then, passes_weaker}
use Rattle.blk_io.specs.Faults.{IfDamaged}
use Rattle.blk_io.specs.declared.fault.Fault.{Fault}
use Rattle.blk_model.specs.Effects.{effect, made_sparse, sparse_after, sparse_written, used_all, used_sparse, with_slot}
use Rattle.blk_model.specs.Holding.{rest}
use Rattle.blk_model.specs.Items.{Shape, main, part, plain, sparse}
use Rattle.blk_model.specs.Refusals.{evicted, refused}
use Rattle.blk_model.specs.Reply.{answer_of}
use Rattle.blk_model.specs.Request.{to_sparse_write}
use Rattle.blk_model.specs.Room.{charge, item_count, items, total}
use Rattle.blk_model.specs.Sparse.{covered_parts, parts_after}
use Rattle.blk_model.specs.State.{IsValidState, Object, State, named_by}
use Rattle.blk_model.specs.Step.{reply, step}
use Rattle.blk_model.specs.declared.Answer.TheVariants as answer
use Rattle.blk_model.proofs.Written.{without_names}
use Rattle.law_folder.specs.CommandLaws.{marked}
use Rattle.law_state.specs.Changes.{Finds}
use Rattle.law_state.specs.CommandEnds.{IsNamedBy}
use Rattle.law_state.specs.Commands.{IsDone, MayStop}
use Rattle.law_state.specs.CommandStates.{Unsettles, amidst, with_room}
use Rattle.law_state.specs.OneCallLaws.{Names}
use Rattle.law_state.proofs.CommandEnding.{passed, sparse-writes-unsettle}
use Rattle.law_state.proofs.Dirtying.{set-at}
use Rattle.law_state.proofs.WordStops.{unsettling-stops}
use Rattle.blk_sparse.specs.declared.storing.Target.{Target}
use Rattle.blk_sparse.specs.SparseWrites.{object_written, signature_to, sparse_state}
use Rattle.blk_cache.specs.declared.cache.Cache.{Cache}
use Rattle.blk_cache.specs.CacheKeeping.{HoldsState}
use Rattle.blk_cache.specs.CommandClauses.{KeepsAny}
use Rattle.blk_cache.specs.SparseWriting.{CanStore, IsReadyToStore, IsReadyToStoreSome, IsSignedBy, IsTargetOf, KeepsToStore}
use Rattle.blk_cache.specs.Marking.{ForEachNamed}
use Rattle.blk_cache.proofs.ChangedObjects.{sum-changed}
use Rattle.blk_cache.proofs.CreateWhole.{there-after, untold-by}
use Rattle.blk_cache.proofs.Sizes.{named-object}
use Rattle.blk_cache.proofs.WriteEnds.{set-twice}
use Rattle.blk_cache.proofs.WriteRoom.{number-is}
use Rattle.blk_cache.proofs.WriteUses.{never-told}

loose-charge : (o : Object) → charge (record o { settled = false }) ≡ charge o
unfolding charge
loose-charge o = refl

-- an object becomes sparse with the generation
made : (moment : ℕ) (object : Object) (target : Target) → IsTargetOf object target → IsSignedBy moment target → made_sparse moment object.shape ≡ sparse (signature_to target)
made moment object target is signed = by target.plain refl where
  by : (t : Bool) → target.plain ≡ t → made_sparse moment object.shape ≡ sparse (signature_to target)
  by true e = ap (made_sparse moment) (is.of_plain e).0 ∙ ap sparse (sym (signed e))
  by false e = ap (made_sparse moment) (is.of_sparse e)

-- what it is after some bytes, and is dirty
pub after-is : (moment : ℕ) (object : Object) (target : Target) (offset : ℕ) (bytes : List ℕ) → 1 ≤ length bytes → IsTargetOf object target → IsSignedBy moment target → sparse_after moment object offset bytes ≡ object_written (record object { settled = false }) (signature_to target) offset bytes
unfolding sparse_after
after-is moment object target offset [] some is signed = absurd (omega (arith, some))
after-is moment object target offset (byte ∷ bytes) some is signed =
    ap (λ (s : Shape). record object { shape = s; parts = parts_after (covered_parts offset (length (byte ∷ bytes))) offset (byte ∷ bytes) object.parts; settled = false }) (made moment object target is signed)

-- the state after it
pub sparse-written-is : (moment handle offset : ℕ) (bytes : List ℕ) (state : State) (number : ℕ) (object : Object) → Names state handle number object
    → sparse_written moment handle offset bytes state ≡ amidst state number (sparse_after moment object offset bytes) (used_all (main object.key ∷ map (part object.key) (covered_parts offset (length bytes))) state.uses)
unfolding sparse_written
sparse-written-is moment handle offset bytes state number object names =
    ap₂ (λ (n : ℕ) (o : Object). used_sparse o (covered_parts offset (length bytes)) (with_slot n (Some (sparse_after moment o offset bytes)) state)) (number-is state handle 0 offset false bytes number object names) (named-object state handle number object names)

pub effect-same : (moment handle offset : ℕ) (bytes : List ℕ) (state : State) → effect moment (to_sparse_write handle offset bytes) state ≡ sparse_written moment handle offset bytes state
unfolding effect
effect-same moment handle offset bytes state = refl

module _ (state : State) (moment handle offset : ℕ) (bytes : List ℕ) (some : 1 ≤ length bytes) (valid : IsValidState state) (passes : refused moment (to_sparse_write handle offset bytes) state ≡ None) where
  abbrev base : State
  base = with_room state moment (to_sparse_write handle offset bytes)

  names-same : named_by base handle ≡ named_by state handle
  names-same = ap (λ (ns : List (Option ℕ)). get_or ns handle None) (without_names (evicted moment (to_sparse_write handle offset bytes) state) state)

  -- the answer
  pub sparse-answer : answer.Wrote (length bytes) ≡ answer_of (step state moment (to_sparse_write handle offset bytes)).reply
  unfolding reply
  sparse-answer = sym (ap answer_of (passed state moment (to_sparse_write handle offset bytes) passes).1)

  module _ (number : ℕ) (object : Object) (names : Names base handle number object) (live : object.live ≡ true) (target : Target) (is : IsTargetOf object target) (signed : IsSignedBy moment target) where
    abbrev loose : Object
    loose = record object { settled = false }

    abbrev pub later : State
    later = marked base number object false

    later-names : Names later handle number loose
    later-names = record { names = names.names; here = set-at base number object loose names.here }

    -- it has the effect of the bytes on the object once it is dirty
    effect-is : effect moment (to_sparse_write handle offset bytes) base ≡ sparse_state later number loose (signature_to target) offset bytes
    effect-is =
        effect-same moment handle offset bytes base
        ∙ sparse-written-is moment handle offset bytes base number object names
        ∙ ap (λ (o : Object). amidst base number o (used_all (main object.key ∷ map (part object.key) (covered_parts offset (length bytes))) base.uses)) (after-is moment object target offset bytes some is signed)
        ∙ ap (λ (os : List (Option Object)). record base { objects = os; uses = used_all (main object.key ∷ map (part object.key) (covered_parts offset (length bytes))) base.uses })
        (sym (set-twice base.objects number (Some (object_written loose (signature_to target) offset bytes)) (Some loose)))

    -- and so it ends
    pub sparse-ends : (step state moment (to_sparse_write handle offset bytes)).state ≡ sparse_state later number loose (signature_to target) offset bytes
    sparse-ends = (passed state moment (to_sparse_write handle offset bytes) passes).0 ∙ effect-is

    same-total : total later ≡ total base
    same-total = let sum = sum-changed charge base.objects number object loose names.here in let one = loose-charge object in omega (arith, sum, one)

    same-items : items later ≡ items base
    same-items = let sum : items later + (1 + length object.parts) ≡ items base + (1 + length object.parts) = sum-changed item_count base.objects number object loose names.here in omega (arith, sum)

    pub can-store : (more_bytes more_items : ℕ) → total (effect moment (to_sparse_write handle offset bytes) base) ≡ total base + more_bytes → items (effect moment (to_sparse_write handle offset bytes) base) ≡ items base + more_items → items base + more_items ≤ 131072 → total base + more_bytes < 2 ^ 64
        → CanStore later handle offset bytes target more_bytes more_items
    can-store more_bytes more_items bytes_more items_more few within = record {
      number = number;
      object = loose;
      names = later-names;
      live = live;
      unsettled = refl;
      is = record { of_plain = is.of_plain; of_sparse = is.of_sparse };
      total_more = sym (ap total effect-is) ∙ bytes_more ∙ ap (λ (n : ℕ). n + more_bytes) (sym same-total);
      items_more = sym (ap items effect-is) ∙ items_more ∙ ap (λ (n : ℕ). n + more_items) (sym same-items);
      few = let same = same-items in omega (arith, few, same);
      within = let same = same-total in omega (arith, within, same);
    }

    -- while the object is dirty, and as long as the durable contents then are recovered
    pub sparse-either-stops : (image : Image) → Finds (rest base) image ⊎ Finds (rest later) image → MayStop state moment (to_sparse_write handle offset bytes) image
    sparse-either-stops image finds = by bytes refl where
      by : (bs : List ℕ) → bytes ≡ bs → MayStop state moment (to_sparse_write handle offset bytes) image
      by [] e = absurd (let none = ap length e in omega (arith, some, none))
      by (byte ∷ more) e =
          let named : IsNamedBy state moment (to_sparse_write handle offset bytes) handle number object = record { affected = record { passes = passes; here = names.here; live = live }; names = sym names-same ∙ names.names } in
          unsettling-stops state moment (to_sparse_write handle offset bytes) number object image valid
          (subst (λ (bs : List ℕ). IsNamedBy state moment (to_sparse_write handle offset bs) handle number object → Unsettles state moment (to_sparse_write handle offset bs) number object) (sym e) (sparse-writes-unsettle state moment handle offset byte more number object) named) finds

-- ---- at each word

module _ (cache : Cache) (moment handle offset : ℕ) (bytes : List ℕ) (some : 1 ≤ length bytes) (target : Target) (more_bytes more_items : ℕ) (old mid : Told) where
  -- the durable contents once it is dirty, or before
  abbrev Either : State → ℕ → Object → Image → Type 0
  Either state number object image = Finds (rest state) image ⊎ Finds (rest (marked state number object false)) image

  module _ (unsettling : ForSome old.files (λ from. ForEachNamed cache handle from (λ state number object. Passes old mid (Either state number object)))) where
    pub sparse-unsettle-stops : ForSome old.files (λ from. (state : State) → IsReadyToStore cache state moment handle offset bytes target more_bytes more_items from → Passes old mid (MayStop state moment (to_sparse_write handle offset bytes)))
    sparse-unsettle-stops from here state ready =
        let may : (i : Image) → Either (with_room state moment (to_sparse_write handle offset bytes)) ready.number ready.object i → MayStop state moment (to_sparse_write handle offset bytes) i
        = sparse-either-stops state moment handle offset bytes some ready.valid ready.passes ready.number ready.object ready.names ready.live target ready.is ready.signed in
        passes_weaker (unsettling from here (with_room state moment (to_sparse_write handle offset bytes)) ready.number ready.object ready.kept ready.names) may may

    module _ (new : Cache) (unsettled : ForSome old.files (λ from. ForEachNamed cache handle from (λ state number object. ForSome mid.files (HoldsState new (marked state number object false))))) where
      -- then it can get the bytes
      module _ (from : Image) (here : old.files ≡ Some from) (state : State) (ready : IsReadyToStore cache state moment handle offset bytes target more_bytes more_items from) where
        abbrev then-state : State
        then-state = later state moment handle offset bytes some ready.valid ready.passes ready.number ready.object ready.names ready.live target ready.is ready.signed

        kept-then : (i : Image) → mid.files ≡ Some i → HoldsState new then-state i
        kept-then i there = unsettled from here (with_room state moment (to_sparse_write handle offset bytes)) ready.number ready.object ready.kept ready.names i there

        can-then : CanStore then-state handle offset bytes target more_bytes more_items
        can-then = can-store state moment handle offset bytes some ready.valid ready.passes ready.number ready.object ready.names ready.live target ready.is ready.signed more_bytes more_items ready.total_more ready.items_more ready.few ready.within

        to-get : (i : Image) → mid.files ≡ Some i → KeepsToStore new handle offset bytes target more_bytes more_items i
        to-get i there = record { state = then-state; kept = kept-then i there; can = can-then }

      module _ (now : Told) where
        pub sparse-end-stops : ForSome mid.files (λ from. (state : State) → HoldsState new state from → CanStore state handle offset bytes target more_bytes more_items → Passes mid now (Finds (rest state)))
            → ForSome old.files (λ from. (state : State) → IsReadyToStore cache state moment handle offset bytes target more_bytes more_items from → Passes old now (MayStop state moment (to_sparse_write handle offset bytes)))
        sparse-end-stops stops from here state ready =
            let first = sparse-unsettle-stops from here state ready in
            let m = there-after old mid (MayStop state moment (to_sparse_write handle offset bytes)) first from here in
            let may : (i : Image) → Finds (rest (then-state from here state ready)) i → MayStop state moment (to_sparse_write handle offset bytes) i
            = λ i finds. sparse-either-stops state moment handle offset bytes some ready.valid ready.passes ready.number ready.object ready.names ready.live target ready.is ready.signed i (inr finds) in
            passes_then first (passes_weaker (stops m.0 m.1 (then-state from here state ready) (kept-then from here state ready m.0 m.1) (can-then from here state ready)) may may)

        pub sparse-end-does : (last : Cache) → ForSome mid.files (λ from. (state : State) → HoldsState new state from → (can : CanStore state handle offset bytes target more_bytes more_items) → ForSome now.files (HoldsState last (sparse_state state can.number can.object (signature_to target) offset bytes)))
            → ForSome old.files (λ from. (state : State) → IsReadyToStore cache state moment handle offset bytes target more_bytes more_items from → IsDone (HoldsState last) now moment (to_sparse_write handle offset bytes) (answer.Wrote (length bytes)) state)
        unfolding can-then can-store
        sparse-end-does last stored from here state ready =
            let m = there-after old mid (MayStop state moment (to_sparse_write handle offset bytes)) (sparse-unsettle-stops from here state ready) from here in
            record {
              answered = sparse-answer state moment handle offset bytes some ready.valid ready.passes;
              kept = λ i there. subst (λ (s : State). HoldsState last s i) (sym (sparse-ends state moment handle offset bytes some ready.valid ready.passes ready.number ready.object ready.names ready.live target ready.is ready.signed))
                  (stored m.0 m.1 (then-state from here state ready) (kept-then from here state ready m.0 m.1) (can-then from here state ready) i there);
            }

-- ---- failed checks

-- a cache that is ready keeps a state
pub sparse-ready-any : (cache : Cache) (handle offset : ℕ) (bytes : List ℕ) (target : Target) (more_bytes more_items : ℕ) (image : Image) → IsReadyToStoreSome cache handle offset bytes target more_bytes more_items image → KeepsAny cache image
sparse-ready-any cache handle offset bytes target more_bytes more_items image one = (with_room one.state one.moment (to_sparse_write handle offset bytes), one.ready.kept)

pub sparse-end-untold : {A : Type 0} (r : Result A Fault) (cache : Cache) (handle offset : ℕ) (bytes : List ℕ) (some : 1 ≤ length bytes) (target : Target) (more_bytes more_items : ℕ) (old mid : Told) (new : Cache)
    → ForSome old.files (λ from. ForEachNamed cache handle from (λ state number object. Passes old mid (λ image. Finds (rest state) image ⊎ Finds (rest (marked state number object false)) image)))
    → ForSome old.files (λ from. ForEachNamed cache handle from (λ state number object. ForSome mid.files (HoldsState new (marked state number object false))))
    → (ForSome mid.files (KeepsToStore new handle offset bytes target more_bytes more_items) → IfDamaged r (λ _. mid.files ≡ None)) → ForSome old.files (IsReadyToStoreSome cache handle offset bytes target more_bytes more_items) → IfDamaged r (λ _. old.files ≡ None)
sparse-end-untold r cache handle offset bytes some target more_bytes more_items old mid new unsettling unsettled untold any = untold-by r old.files (λ from here.
    let one = any from here in
    let request = to_sparse_write handle offset bytes in
    let m = there-after old mid (MayStop one.state one.moment request) (sparse-unsettle-stops cache one.moment handle offset bytes some target more_bytes more_items old mid unsettling from here one.state one.ready) from here in
    never-told r mid.files old.files m.0 m.1 (untold (λ i there. to-get cache one.moment handle offset bytes some target more_bytes more_items old mid unsettling new unsettled from here one.state one.ready i there)))
