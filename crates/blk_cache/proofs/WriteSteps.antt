-- A stream of a dirty object is written and accessed, by what holds at each word of both.
use Rattle.std.proofs.Common.{◌≡◌, ℕ, ◌-◌, ◌<◌, ◌^◌, Bool, true, false, not, List, [], Some, None, Result, refl, sym, ap, subst, ◌∙◌}
use Rattle.std.specs.Prelude.{length}
use Rattle.std.specs.Option.{ForSome}
use Rattle.spec_image.specs.Image.{Image}
use Rattle.spec_image.specs.Told.{Passes, Told}
use Rattle.spec_image.proofs.Runs.{passes_end, passes_none, passes_then, passes_weaker, some_inj}
use Rattle.blk_io.specs.Faults.{IfDamaged}
use Rattle.blk_io.specs.declared.fault.Fault.{Fault}
use Rattle.blk_model.specs.Effects.{written}
use Rattle.blk_model.specs.Holding.{rest}
use Rattle.blk_model.specs.Items.{IsBytes, Row}
use Rattle.blk_model.specs.State.{Object, State}
use Rattle.law_folder.proofs.states.Settling.{main-listed}
use Rattle.spec_folder.specs.Layout.{Layout}
use Rattle.blk_disk.specs.Open.{IsOpen}
use Rattle.blk_disk.specs.Tables.{Agrees}
use Rattle.blk_handles.specs.Bindings.{Binding, binding_of}
use Rattle.blk_lru.specs.Lists.{IsListed}
use Rattle.blk_stream.specs.Writing.{size_after}
use Rattle.law_state.specs.Changes.{Finds}
use Rattle.law_state.specs.CommandEnds.{after_write}
use Rattle.law_state.specs.ObjectLaws.{layout_after}
use Rattle.blk_object.specs.Writing.{ForEachUnsettled, IsWrittenUncounted, RisesAreCounted, UsesLeaveTheRise, node_of_object, with_written}
use Rattle.blk_cache.specs.declared.cache.Cache.{Cache}
use Rattle.blk_cache.specs.CacheKeeping.{IsBoundTo, HoldsState}
use Rattle.blk_cache.specs.Creating.{sum_within}
use Rattle.blk_cache.specs.Writing.{CanGetBytes, CountsRise, ForEachToUse, IsToBeUsed, IsUsedAndCounted, KeepsToWrite}
use Rattle.blk_cache.proofs.ChangedObjects.{CountsAs, bound-to, its-object}
use Rattle.blk_cache.proofs.CreateWhole.{there-after, untold-by}
use Rattle.blk_cache.proofs.OpenSteps.{listed-node}
use Rattle.blk_cache.proofs.Writes.{counts-as, dead-keeps, live-keeps, to-use, to-write}
use Rattle.blk_cache.proofs.WriteUses.{never-told, rest-whatever}

module _ (cache : Cache) (handle : ℕ) (b : Binding) (bound : binding_of cache.handles handle ≡ Some b) (stream offset : ℕ) (cut : Bool) (bytes : List ℕ) (are : IsBytes bytes) (size : ℕ) (old mid : Told) where
  abbrev Writable : State → Type 0
  Writable state = CanGetBytes state handle stream offset cut bytes size

  -- what is known of the object
  module _ (from : Image) (state : State) (k : HoldsState cache state from) (can : CanGetBytes state handle stream offset cut bytes size) where
    abbrev it : IsBoundTo state k.layout can.number b
    it = bound-to cache state from k handle can.number can.object can.names b bound

    its-doom : b.doomed ≡ not can.object.live
    its-doom = it.doomed ∙ ap (λ (o : Object). not o.live) (its-object cache state from k handle can.number can.object can.names b it)

    live-if : b.doomed ≡ false → can.object.live ≡ true
    live-if e = by can.object.live (sym its-doom ∙ e) where
      by : (t : Bool) → not t ≡ false → t ≡ true
      by true h = refl
      by false h = sym h

    dead-if : b.doomed ≡ true → can.object.live ≡ false
    dead-if e = by can.object.live (sym its-doom ∙ e) where
      by : (t : Bool) → not t ≡ true → t ≡ false
      by true h = sym h
      by false h = refl

  -- ---- the write

  pub write-stops : ForSome old.files (λ from. ForEachUnsettled b.entry stream offset cut bytes from (λ state layout unlinked number object was. Passes old mid (Finds (rest state))))
      → ForSome old.files (λ from. (state : State) → HoldsState cache state from → CanGetBytes state handle stream offset cut bytes size → Passes old mid (Finds (rest state)))
  write-stops stops from here state k can =
      stops from here state k.layout [] can.number can.object (it from state k can).loaded (to-write cache state from k handle stream offset cut bytes size can are b bound)

  pub write-untold : {A : Type 0} (r : Result A Fault) → ForSome old.files (λ from. ForEachUnsettled b.entry stream offset cut bytes from (λ state layout unlinked number object was. IfDamaged r (λ _. old.files ≡ None)))
      → ForSome old.files (KeepsToWrite cache handle stream offset cut bytes size) → IfDamaged r (λ _. old.files ≡ None)
  write-untold r untold any = untold-by r old.files (λ from here.
      let one : KeepsToWrite cache handle stream offset cut bytes size from = any from here in
      untold from here one.state one.kept.layout [] one.can.number one.can.object (it from one.state one.kept one.can).loaded (to-write cache one.state from one.kept handle stream offset cut bytes size one.can are b bound))

  module _ (stops : ForSome old.files (λ from. ForEachUnsettled b.entry stream offset cut bytes from (λ state layout unlinked number object was. Passes old mid (Finds (rest state)))))
      (wrote : ForSome old.files (λ from. ForEachUnsettled b.entry stream offset cut bytes from (λ state layout unlinked number object was. ForSome mid.files (IsWrittenUncounted state layout unlinked number object was stream offset cut bytes from)))) where
    module _ (from : Image) (here : old.files ≡ Some from) (state : State) (k : HoldsState cache state from) (can : CanGetBytes state handle stream offset cut bytes size) where
      abbrev run : Passes old mid (Finds (rest state))
      run = write-stops stops from here state k can

      abbrev middle : (i : Image) × (mid.files ≡ Some i)
      middle = there-after old mid (Finds (rest state)) (write-stops stops from here state k can) from here

      abbrev w : IsWrittenUncounted state k.layout [] can.number can.object (it from state k can).loaded stream offset cut bytes from middle.0
      w = wrote from here state k.layout [] can.number can.object (it from state k can).loaded (to-write cache state from k handle stream offset cut bytes size can are b bound) middle.0 middle.1

      abbrev later : State
      later = with_written state can.number can.object stream offset cut bytes

      abbrev laid : Layout
      laid = layout_after k.layout (node_of_object k.layout can.number can.object) (wrote from here state k.layout [] can.number can.object (it from state k can).loaded (to-write cache state from k handle stream offset cut bytes size can are b bound) middle.0 middle.1).now

      used-there : can.object.live ≡ true → IsToBeUsed later laid can.number (after_write can.object stream offset cut bytes) b.node middle.0
      used-there alive = to-use cache state from k handle stream offset cut bytes size can are b bound middle.0 w alive

      later-rest : can.object.live ≡ true → rest later ≡ rest state
      later-rest alive = rest-whatever state can.number can.object k.kept.entries.valid can.names.here alive can.unsettled (after_write can.object stream offset cut bytes) state.uses (record { key_is = refl; live = alive; unsettled = refl }) refl

    -- its item is listed then
    pub use-untold : {A : Type 0} (r : Result A Fault) → (ForSome mid.files (λ image. b.doomed ≡ false → IsListed b.node image) → IfDamaged r (λ _. mid.files ≡ None)) → ForSome old.files (KeepsToWrite cache handle stream offset cut bytes size) → IfDamaged r (λ _. old.files ≡ None)
    use-untold r untold any = untold-by r old.files (λ from here.
        let one : KeepsToWrite cache handle stream offset cut bytes size from = any from here in
        let m = middle from here one.state one.kept one.can in
        never-told r mid.files old.files m.0 m.1 (untold (λ i there loose.
        let alive = live-if from one.state one.kept one.can loose in
        let u = used-there from here one.state one.kept one.can alive in
        subst (IsListed b.node) (some_inj (sym m.1 ∙ there))
        (subst (λ (n : ℕ). IsListed n m.0) (sym u.node_is) (listed-node (later from here one.state one.kept one.can) (laid from here one.state one.kept one.can) m.0 u.kept (after_write one.can.object stream offset cut bytes).key (main-listed (later from here one.state one.kept one.can) u.kept.valid one.can.number (after_write one.can.object stream offset cut bytes) true u.here alive))))))

    -- ---- the access

    module _ (now : Told) (stays : b.doomed ≡ true → now ≡ mid) (using : b.doomed ≡ false → ForSome mid.files (λ from. ForEachToUse b.node from (λ state layout its. Passes mid now (Finds (rest state))))) where
      pub both-stop : ForSome old.files (λ from. (state : State) → HoldsState cache state from → CanGetBytes state handle stream offset cut bytes size → Passes old now (Finds (rest state)))
      both-stop from here state k can = passes_then (run from here state k can) (by b.doomed refl) where
        m : (i : Image) × (mid.files ≡ Some i)
        m = middle from here state k can

        by : (t : Bool) → b.doomed ≡ t → Passes mid now (Finds (rest state))
        by true dead = passes_none (Finds (rest state)) (stays dead) (passes_end (run from here state k can))
        by false loose =
            let alive = live-if from state k can loose in
            let same = later-rest from here state k can alive in
            let may : (i : Image) → Finds (rest (later from here state k can)) i → Finds (rest state) i = λ i finds. subst (λ (rows : List Row). Finds rows i) same finds in
            passes_weaker (using loose m.0 m.1 (later from here state k can) (laid from here state k can) can.number (after_write can.object stream offset cut bytes) (used-there from here state k can alive)) may may

      module _ (rises : RisesAreCounted) (leave : UsesLeaveTheRise) (less more : ℕ) (less-is : less ≡ size) (more-is : more ≡ size_after cut size offset (length bytes))
          (used : b.doomed ≡ false → ForSome mid.files (λ from. ForEachToUse b.node from (λ state layout its. ForSome now.files (IsUsedAndCounted state layout its less more from))))
          (old-cache new : Cache) (same-bytes : old-cache.bytes ≡ cache.bytes) (same-open : old-cache.open_bytes ≡ cache.open_bytes) (same-items : old-cache.items ≡ cache.items) (same-limits : old-cache.limits ≡ cache.limits) (same-mark : old-cache.mark ≡ cache.mark)
          (same-handles : old-cache.handles ≡ cache.handles) (counts : CountsRise old-cache new less more) (few : old-cache.bytes < 2 ^ 64) (opened : ForSome now.files (IsOpen new.files)) where
        pub both-keep : ForSome old.files (λ from. (state : State) → HoldsState cache state from → CanGetBytes state handle stream offset cut bytes size → ForSome now.files (HoldsState new (written handle stream offset cut bytes state)))
        both-keep from here state k can i there = by b.doomed refl where
          m : (j : Image) × (mid.files ≡ Some j)
          m = middle from here state k can

          counted : CountsAs cache new can.object (after_write can.object stream offset cut bytes)
          counted = counts-as cache state from k handle stream offset cut bytes size can new less more less-is more-is (subst (λ (n : ℕ). n < 2 ^ 64) same-bytes few)
              (counts.bytes ∙ ap (λ (n : ℕ). sum_within (n - less) more) same-bytes) (counts.open_bytes ∙ ap (λ (n : ℕ). sum_within (n - less) more) same-open) (counts.items ∙ same-items) (counts.limits ∙ same-limits) (counts.mark ∙ same-mark)

          by : (t : Bool) → b.doomed ≡ t → HoldsState new (written handle stream offset cut bytes state) i
          by true dead =
              let same : m.0 ≡ i = some_inj (sym m.1 ∙ sym (ap (λ (t : Told). t.files) (stays dead)) ∙ there) in
              subst (λ (z : Image). HoldsState new (written handle stream offset cut bytes state) z) same
              (dead-keeps cache state from k handle stream offset cut bytes size can are b bound m.0 (w from here state k can) new counted (counts.handles ∙ same-handles) (dead-if from state k can dead) (subst (λ (z : Image). Agrees new.files z) (sym same) (opened i there).agrees))
          by false loose =
              let alive = live-if from state k can loose in
              live-keeps cache state from k handle stream offset cut bytes size can are b bound m.0 (w from here state k can) new counted (counts.handles ∙ same-handles) rises leave less more less-is more-is i
              (used loose m.0 m.1 (later from here state k can) (laid from here state k can) can.number (after_write can.object stream offset cut bytes) (used-there from here state k can alive) i there) alive (opened i there).agrees
