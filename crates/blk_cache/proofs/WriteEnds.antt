-- A Write, from where its object becomes dirty.
use Rattle.std.proofs.Common.{◌≡◌, ⊎_elim, inr, ℕ, zero, suc, ◌+◌, ◌<◌, ◌≤◌, Bool, true, false, List, [], ◌∷◌, length, set, get_or, Option, Some, None, Result, refl, sym, ap, ap₂, subst, ◌∙◌}
use Rattle.std.specs.Prelude.{◌⊎◌, IsSome, is_none, nat_lt}
use Rattle.std.specs.Option.{ForSome}
use Rattle.spec_image.specs.Image.{Image}
use Rattle.spec_image.specs.Told.{Passes, Told}
use Rattle.spec_image.proofs.Runs.{passes_then, passes_weaker}
use Rattle.blk_io.specs.Faults.{IfDamaged}
use Rattle.blk_io.specs.declared.fault.Fault.{Fault}
use Rattle.blk_model.specs.Effects.{effect, stream_after, stream_of, used_main, written}
use Rattle.blk_model.specs.Holding.{rest}
use Rattle.blk_model.specs.Items.{Row}
use Rattle.blk_model.specs.Refusals.{evicted, first_refusal, no_stream, refused}
use Rattle.blk_model.specs.Reply.{answer_of}
use Rattle.blk_model.specs.Request.{to_write}
use Rattle.blk_model.specs.Room.{total}
use Rattle.blk_model.specs.Sizes.{longest_stream}
use Rattle.blk_model.specs.State.{IsValidState, Object, State, named_by}
use Rattle.blk_model.specs.Step.{reply, step}
use Rattle.blk_model.specs.declared.Answer.TheVariants as answer
use Rattle.blk_model.specs.declared.Refusal.{Refusal}
use Rattle.blk_model.specs.declared.Refusal.TheVariants as refusal
use Rattle.blk_model.proofs.Written.{without_names}
use Rattle.law_folder.specs.CommandLaws.{marked}
use Rattle.blk_handles.specs.Bindings.{Binding, binding_of}
use Rattle.law_state.specs.Changes.{Finds}
use Rattle.law_state.specs.CommandEnds.{IsNamedBy, after_write}
use Rattle.law_state.specs.Commands.{IsDone, MayStop}
use Rattle.law_state.specs.CommandStates.{with_room}
use Rattle.law_state.specs.OneCallLaws.{Names}
use Rattle.law_state.proofs.CommandEnding.{passed, writes-unsettle}
use Rattle.law_state.proofs.Dirtying.{set-at}
use Rattle.law_state.proofs.NotAtRest.{doomed-rest}
use Rattle.law_state.proofs.Orders.{left-stops, room-left}
use Rattle.law_state.proofs.WordStops.{unsettling-stops}
use Rattle.blk_cache.specs.declared.cache.Cache.{Cache}
use Rattle.blk_cache.specs.CacheKeeping.{HoldsState}
use Rattle.blk_cache.specs.CommandClauses.{KeepsAny, OnlyNamesChange}
use Rattle.blk_cache.specs.Marking.{ForEachNamed}
use Rattle.blk_cache.specs.Writing.{CanGetBytes, IsReadyToWrite, IsReadyToWriteSome, KeepsToWrite, early_write_refusal}
use Rattle.blk_cache.proofs.CreateWhole.{there-after, untold-by}
use Rattle.blk_cache.proofs.WriteRoom.{ready-apart, ready-within, written-is}
use Rattle.blk_cache.proofs.WriteUses.{never-told}

-- ---- what isn't refused early

not-first : (a b c : Bool) (p q r : Refusal) → first_refusal ((a, p) ∷ (b, q) ∷ (c, r) ∷ []) ≡ None → a ≡ false
not-first true b c p q r e = cc
not-first false b c p q r e = refl

-- its name is bound
pub write-bound : (cache : Cache) (handle stream offset count : ℕ) → early_write_refusal cache handle stream offset count ≡ None → IsSome (binding_of cache.handles handle)
write-bound cache handle stream offset count passes =
    by (binding_of cache.handles handle) (not-first (is_none (binding_of cache.handles handle)) (no_stream stream) (nat_lt (longest_stream cache.limits.max_bytes) (offset + count)) refusal.BadHandle refusal.BadStream refusal.TooLarge passes)
  where
    by : (o : Option Binding) → is_none o ≡ false → IsSome o
    by None e = cc
    by (Some b) e = refl

-- and where the names change but for which are bound, it isn't refused early still
pub early-still : (old new : Cache) (handle stream offset count : ℕ) → OnlyNamesChange old new → IsSome (binding_of new.handles handle) → early_write_refusal old handle stream offset count ≡ None → early_write_refusal new handle stream offset count ≡ None
early-still old new handle stream offset count others bound passes =
    ap₂ (λ (a : Bool) (n : ℕ). first_refusal ((a, refusal.BadHandle) ∷ (no_stream stream, refusal.BadStream) ∷ (nat_lt (longest_stream n) (offset + count), refusal.TooLarge) ∷ []))
    (by (binding_of new.handles handle) bound ∙ sym (not-first (is_none (binding_of old.handles handle)) (no_stream stream) (nat_lt (longest_stream old.limits.max_bytes) (offset + count)) refusal.BadHandle refusal.BadStream refusal.TooLarge passes))
    (ap (λ l. l.max_bytes) others.limits) ∙ passes
  where
    by : (o : Option Binding) → IsSome o → is_none o ≡ false
    by None e = cc
    by (Some b) e = refl

-- ---- states

pub set-twice : {A : Type 0} (xs : List A) (i : ℕ) (x y : A) → set (set xs i y) i x ≡ set xs i x
set-twice [] i x y = refl
set-twice (z ∷ xs) zero x y = refl
set-twice {A} (z ∷ xs) (suc i) x y = ap (λ (l : List A). z ∷ l) (set-twice xs i x y)

module _ (state : State) (moment handle stream offset : ℕ) (cut : Bool) (bytes : List ℕ) (valid : IsValidState state) (passes : refused moment (to_write handle stream offset cut bytes) state ≡ None) where
  abbrev base : State
  base = with_room state moment (to_write handle stream offset cut bytes)

  names-same : named_by base handle ≡ named_by state handle
  names-same = ap (λ (ns : List (Option ℕ)). get_or ns handle None) (without_names (evicted moment (to_write handle stream offset cut bytes) state) state)

  -- the answer
  pub write-answer : answer.Wrote (length bytes) ≡ answer_of (step state moment (to_write handle stream offset cut bytes)).reply
  unfolding reply
  write-answer = sym (ap answer_of (passed state moment (to_write handle stream offset cut bytes) passes).1)

  module _ (number : ℕ) (object : Object) (names : Names base handle number object) where
    abbrev loose : Object
    loose = record object { settled = false }

    abbrev pub later : State
    later = marked base number object false

    later-names : Names later handle number loose
    later-names = record { names = names.names; here = set-at base number object loose names.here }

    -- the same is written to it once it is dirty
    written-same : written handle stream offset cut bytes later ≡ written handle stream offset cut bytes base
    written-same =
        written-is later handle stream offset cut bytes number loose later-names
        ∙ ap (λ (os : List (Option Object)). used_main object (record base { objects = os })) (set-twice base.objects number (Some (after_write object stream offset cut bytes)) (Some loose))
        ∙ sym (written-is base handle stream offset cut bytes number object names)

    -- and so the Write ends
    pub write-ends : (step state moment (to_write handle stream offset cut bytes)).state ≡ written handle stream offset cut bytes later
    unfolding effect
    write-ends = (passed state moment (to_write handle stream offset cut bytes) passes).0 ∙ sym written-same

    pub can-get : (size : ℕ) → size ≡ length (stream_of object stream) → CanGetBytes later handle stream offset cut bytes size
    can-get size is = record {
      number = number;
      object = loose;
      names = later-names;
      unsettled = refl;
      its_stream = ready-apart state moment handle stream offset cut bytes valid passes number object names;
      size_is = is;
      within = λ longer. subst (λ (s : State). total s ≤ later.limits.max_bytes) (sym written-same)
          (ready-within state moment handle stream offset cut bytes valid passes number object names (subst (λ (n : ℕ). n < length (stream_after cut (stream_of object stream) offset bytes)) is longer));
    }

    -- while the object is dirty, and as long as the durable contents then are recovered
    pub either-stops : (image : Image) → Finds (rest base) image ⊎ Finds (rest later) image → MayStop state moment (to_write handle stream offset cut bytes) image
    either-stops image finds = by object.live refl where
      by : (t : Bool) → object.live ≡ t → MayStop state moment (to_write handle stream offset cut bytes) image
      by true alive =
          let named : IsNamedBy state moment (to_write handle stream offset cut bytes) handle number object = record { affected = record { passes = passes; here = names.here; live = alive }; names = sym names-same ∙ names.names } in
          unsettling-stops state moment (to_write handle stream offset cut bytes) number object image valid (writes-unsettle state moment handle stream offset cut bytes number object named) finds
      by false dead =
          left-stops state moment (to_write handle stream offset cut bytes) (rest base) image (room-left state moment (to_write handle stream offset cut bytes) valid passes)
          (⊎_elim (λ (first : Finds (rest base) image). first) (λ (second : Finds (rest later) image). subst (λ (rows : List Row). Finds rows image) (doomed-rest base number object (Some loose) names.here dead dead) second) finds)

-- ---- at each word

module _ (cache : Cache) (moment handle stream offset : ℕ) (cut : Bool) (bytes : List ℕ) (size : ℕ) (old mid : Told) where
  -- the durable contents once it is dirty, or before
  abbrev Either : State → ℕ → Object → Image → Type 0
  Either state number object image = Finds (rest state) image ⊎ Finds (rest (marked state number object false)) image

  module _ (unsettling : ForSome old.files (λ from. ForEachNamed cache handle from (λ state number object. Passes old mid (Either state number object)))) where
    pub unsettle-stops : ForSome old.files (λ from. (state : State) → IsReadyToWrite cache state moment handle stream offset cut bytes size from → Passes old mid (MayStop state moment (to_write handle stream offset cut bytes)))
    unsettle-stops from here state ready =
        let may : (i : Image) → Either (with_room state moment (to_write handle stream offset cut bytes)) ready.number ready.object i → MayStop state moment (to_write handle stream offset cut bytes) i
        = either-stops state moment handle stream offset cut bytes ready.valid ready.passes ready.number ready.object ready.names in
        passes_weaker (unsettling from here (with_room state moment (to_write handle stream offset cut bytes)) ready.number ready.object ready.kept ready.names) may may

    module _ (new : Cache) (unsettled : ForSome old.files (λ from. ForEachNamed cache handle from (λ state number object. ForSome mid.files (HoldsState new (marked state number object false))))) where
      -- then it can get the bytes
      module _ (from : Image) (here : old.files ≡ Some from) (state : State) (ready : IsReadyToWrite cache state moment handle stream offset cut bytes size from) where
        abbrev then-state : State
        then-state = later state moment handle stream offset cut bytes ready.valid ready.passes ready.number ready.object ready.names

        kept-then : (i : Image) → mid.files ≡ Some i → HoldsState new then-state i
        kept-then i there = unsettled from here (with_room state moment (to_write handle stream offset cut bytes)) ready.number ready.object ready.kept ready.names i there

        can-then : CanGetBytes then-state handle stream offset cut bytes size
        can-then = can-get state moment handle stream offset cut bytes ready.valid ready.passes ready.number ready.object ready.names size ready.size_is

        to-get : (i : Image) → mid.files ≡ Some i → KeepsToWrite new handle stream offset cut bytes size i
        to-get i there = record { state = then-state; kept = kept-then i there; can = can-then }

      module _ (now : Told) where
        pub end-stops : ForSome mid.files (λ from. (state : State) → HoldsState new state from → CanGetBytes state handle stream offset cut bytes size → Passes mid now (Finds (rest state)))
            → ForSome old.files (λ from. (state : State) → IsReadyToWrite cache state moment handle stream offset cut bytes size from → Passes old now (MayStop state moment (to_write handle stream offset cut bytes)))
        end-stops stops from here state ready =
            let first = unsettle-stops from here state ready in
            let m = there-after old mid (MayStop state moment (to_write handle stream offset cut bytes)) first from here in
            let may : (i : Image) → Finds (rest (then-state from here state ready)) i → MayStop state moment (to_write handle stream offset cut bytes) i
            = λ i finds. either-stops state moment handle stream offset cut bytes ready.valid ready.passes ready.number ready.object ready.names i (inr finds) in
            passes_then first (passes_weaker (stops m.0 m.1 (then-state from here state ready) (kept-then from here state ready m.0 m.1) (can-then from here state ready)) may may)

        pub end-does : (last : Cache) → ForSome mid.files (λ from. (state : State) → HoldsState new state from → CanGetBytes state handle stream offset cut bytes size → ForSome now.files (HoldsState last (written handle stream offset cut bytes state)))
            → ForSome old.files (λ from. (state : State) → IsReadyToWrite cache state moment handle stream offset cut bytes size from → IsDone (HoldsState last) now moment (to_write handle stream offset cut bytes) (answer.Wrote (length bytes)) state)
        end-does last wrote from here state ready =
            let m = there-after old mid (MayStop state moment (to_write handle stream offset cut bytes)) (unsettle-stops from here state ready) from here in
            record {
              answered = write-answer state moment handle stream offset cut bytes ready.valid ready.passes;
              kept = λ i there. subst (λ (s : State). HoldsState last s i) (sym (write-ends state moment handle stream offset cut bytes ready.valid ready.passes ready.number ready.object ready.names)) (wrote m.0 m.1 (then-state from here state ready) (kept-then from here state ready m.0 m.1) (can-then from here state ready) i there);
            }

-- ---- failed checks

-- a cache that is ready keeps a state
pub ready-any : (cache : Cache) (handle stream offset : ℕ) (cut : Bool) (bytes : List ℕ) (size : ℕ) (image : Image) → IsReadyToWriteSome cache handle stream offset cut bytes size image → KeepsAny cache image
ready-any cache handle stream offset cut bytes size image one = (with_room one.state one.moment (to_write handle stream offset cut bytes), one.ready.kept)

pub end-untold : {A : Type 0} (r : Result A Fault) (cache : Cache) (handle stream offset : ℕ) (cut : Bool) (bytes : List ℕ) (size : ℕ) (old mid : Told) (new : Cache)
    → ForSome old.files (λ from. ForEachNamed cache handle from (λ state number object. Passes old mid (λ image. Finds (rest state) image ⊎ Finds (rest (marked state number object false)) image)))
    → ForSome old.files (λ from. ForEachNamed cache handle from (λ state number object. ForSome mid.files (HoldsState new (marked state number object false))))
    → (ForSome mid.files (KeepsToWrite new handle stream offset cut bytes size) → IfDamaged r (λ _. mid.files ≡ None)) → ForSome old.files (IsReadyToWriteSome cache handle stream offset cut bytes size) → IfDamaged r (λ _. old.files ≡ None)
end-untold r cache handle stream offset cut bytes size old mid new unsettling unsettled untold any = untold-by r old.files (λ from here.
    let one = any from here in
    let request = to_write handle stream offset cut bytes in
    let m = there-after old mid (MayStop one.state one.moment request) (unsettle-stops cache one.moment handle stream offset cut bytes size old mid unsettling from here one.state one.ready) from here in
    never-told r mid.files old.files m.0 m.1 (untold (λ i there. to-get cache one.moment handle stream offset cut bytes size old mid unsettling new unsettled from here one.state one.ready i there)))
