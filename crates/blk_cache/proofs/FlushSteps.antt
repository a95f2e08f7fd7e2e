-- A Flush, from what it does to the dirty flag of its object.
use Rattle.std.proofs.Common.{◌≡◌, ℕ, ◌<◌, Bool, true, false, not, [], Option, Some, None, refl, sym, ap, subst, ◌∙◌, arith}
use Rattle.std.specs.Prelude.{◌^◌, IfSome, nat_le}
use Rattle.std.specs.Option.{ForSome}
use Rattle.std.proofs.lemmas.Bool.Decides.{nat_tests}
use Rattle.spec_image.specs.Image.{Image}
use Rattle.spec_image.specs.Told.{Passes, Stays, Told}
use Rattle.spec_image.proofs.Runs.{passes_weaker, some_inj}
use Rattle.blk_model.specs.Refusals.{refusals, refused}
use Rattle.blk_model.specs.Reply.{answer_of}
use Rattle.blk_model.specs.Request.{to_flush}
use Rattle.blk_model.specs.State.{Object, State, named_by, object_at}
use Rattle.blk_model.specs.Step.{reply, step}
use Rattle.blk_model.specs.declared.Answer.TheVariants as answer
use Rattle.blk_model.specs.declared.Refusal.TheVariants as refusal
use Rattle.law_folder.specs.CommandLaws.{marked}
use Rattle.blk_handles.specs.declared.open_object.OpenObject.{OpenObject}
use Rattle.blk_handles.specs.Bindings.{Binding, binding_of}
use Rattle.law_state.specs.Commands.{Does, ForKept, MayStop, MayStopAtEach}
use Rattle.law_state.specs.CommandStates.{IsOpened}
use Rattle.law_state.specs.OneCallLaws.{Names}
use Rattle.law_state.proofs.CommandEnding.{flush-passes, flushes-settle, passed}
use Rattle.law_state.proofs.Stopping.{nothing-stops}
use Rattle.law_state.proofs.WordStops.{cleaning-stops}
use Rattle.blk_object.specs.RemovingObjects.{FindsEither}
use Rattle.blk_cache.specs.declared.cache.Cache.{Cache}
use Rattle.blk_cache.specs.CacheKeeping.{IsBoundTo, HoldsState}
use Rattle.blk_cache.specs.CommandClauses.{FlushesClean, SparesRefused}
use Rattle.blk_cache.specs.Marking.{ForEachNamed}
use Rattle.blk_cache.proofs.BoundObjects.{free-of, number-of}
use Rattle.blk_cache.proofs.Closes.{within-some}
use Rattle.blk_cache.proofs.DoomSteps.{IsGivenFor}
use Rattle.blk_cache.proofs.Refusing.{says-kept}
use Rattle.blk_cache.proofs.Sparing.{passed-spares}

-- ---- refusals

unnamed-refused : (state : State) (moment handle : ℕ) → named_by state handle ≡ None → refused moment (to_flush handle) state ≡ Some refusal.BadHandle
unfolding refusals
unnamed-refused state moment handle none = by (nat_le 4096 handle) refl where
  by : (t : Bool) → nat_le 4096 handle ≡ t → refused moment (to_flush handle) state ≡ Some refusal.BadHandle
  by true e = rw e refl
  by false e = rw (e, none) refl

dead-refused : (state : State) (moment handle number : ℕ) (object : Object) → handle < 4096 → named_by state handle ≡ Some number → object_at state number ≡ Some object → object.live ≡ false → refused moment (to_flush handle) state ≡ Some refusal.Doomed
unfolding refusals
dead-refused state moment handle number object below names here dead = let b : nat_le 4096 handle ≡ false = grind (arith, nat_tests, below) in rw (b, names, here, dead) refl

pub flush-unbound : (cache : Cache) (state : State) (image : Image) (k : HoldsState cache state image) (moment handle : ℕ) → binding_of cache.handles handle ≡ None → refused moment (to_flush handle) state ≡ Some refusal.BadHandle
flush-unbound cache state image k moment handle free = unnamed-refused state moment handle (free-of state k.layout [] image k.kept.entries state.names cache.handles k.names handle free)

flush-answer : (state : State) (moment handle : ℕ) → refused moment (to_flush handle) state ≡ None → answer_of (step state moment (to_flush handle)).reply ≡ answer.Done
unfolding reply
flush-answer state moment handle goes = ap answer_of (passed state moment (to_flush handle) goes).1

-- ---- the object of a name

turned : (t u : Bool) → t ≡ not u → (u ≡ not t)
turned true false e = refl
turned false true e = refl
turned true true e = cc
turned false false e = cc

module _ (cache : Cache) (handle : ℕ) (small : handle < 2 ^ 16) (object : OpenObject) (given : IsGivenFor cache.handles handle object) where
  abbrev b : Binding
  b = given.binding

  module _ (state : State) (image : Image) (k : HoldsState cache state image) where
    abbrev number : ℕ
    number = (number-of state k.layout [] image k.kept.entries state.names cache.handles k.names handle b given.bound).0

    named : named_by state handle ≡ Some number
    named = (number-of state k.layout [] image k.kept.entries state.names cache.handles k.names handle b given.bound).1

    abbrev it : IsBoundTo state k.layout number b
    it = (number-of state k.layout [] image k.kept.entries state.names cache.handles k.names handle b given.bound).2

    below : handle < 4096
    below = let w = within-some state.names handle number named in let l = k.kept.entries.valid.names in omega (arith, w, l)

    is-doomed : (t : Bool) → object.doomed ≡ t → it.object.live ≡ not t
    is-doomed t e = turned t it.object.live (sym (ap (λ (o : OpenObject). o.doomed) (sym given.same) ∙ e) ∙ it.doomed)

    names : Names state handle number it.object
    names = record { names = named; here = it.here }

    opened : object.doomed ≡ false → IsOpened state handle number it.object
    opened lives = record { names = named; here = it.here; live = is-doomed false lives }

    -- an object that is clean in the state is not dirty in the cache
    is-clean : FlushesClean state (to_flush handle) → b.dirty ≡ false
    is-clean (other, (its, (names, settled))) =
        let same : number ≡ other = some_inj (sym named ∙ names.names) in
        let one : it.object ≡ its = some_inj (sym it.here ∙ ap (object_at state) same ∙ names.here) in
        it.dirty ∙ ap (λ (o : Object). not o.settled) one ∙ ap not settled

  marks : object.dirty ≡ b.dirty
  marks = ap (λ (o : OpenObject). o.dirty) given.same

  -- Of the flag that is given only this is used: where it is set, the object is dirty.

  clean-mark : (dirty : Bool) → (dirty ≡ true → object.dirty ≡ true) → b.dirty ≡ false → b.dirty ≡ dirty
  clean-mark true only clean = sym marks ∙ only refl
  clean-mark false only clean = clean

  pub flush-idle : {dirty : Bool} (old now : Told) → IfSome (binding_of cache.handles handle) (λ binding. binding.dirty ≡ dirty → Stays old now) → (dirty ≡ true → object.dirty ≡ true) → ForKept (HoldsState cache) old (λ state. FlushesClean state (to_flush handle) → Stays old now)
  flush-idle {dirty} old now idle only image there state k flushes =
      subst (λ (o : Option Binding). IfSome o (λ binding. binding.dirty ≡ dirty → Stays old now)) given.bound idle (clean-mark dirty only (is-clean state image k flushes))

  pub flush-refused : object.doomed ≡ true → (moment : ℕ) (state : State) (image : Image) (k : HoldsState cache state image) → refused moment (to_flush handle) state ≡ Some refusal.Doomed
  flush-refused dead moment state image k =
      dead-refused state moment handle (number state image k) (it state image k).object (below state image k) (named state image k) (it state image k).here (is-doomed state image k true dead)

  module _ (lives : object.doomed ≡ false) (old now : Told) (moment : ℕ) where
    -- a word of the old contents, or of those of the clean object
    cleaned : ForSome old.files (λ from. ForEachNamed cache handle from (λ state number object. Passes old now (FindsEither state (marked state number object true)))) → MayStopAtEach (HoldsState cache) old now moment (to_flush handle)
    cleaned stops image here state k =
        let may : (i : Image) → FindsEither state (marked state (number state image k) (it state image k).object true) i → MayStop state moment (to_flush handle) i = λ i finds.
        cleaning-stops state moment handle (number state image k) (it state image k).object i k.kept.entries.valid small (opened state image k lives) finds in
        passes_weaker (stops image here state (number state image k) (it state image k).object k (names state image k)) may may

    pub flush-stops : {dirty : Bool} → IfSome (binding_of cache.handles handle) (λ binding. binding.dirty ≡ dirty → Stays old now) → (dirty ≡ true → object.dirty ≡ true) → ForSome old.files (λ from. ForEachNamed cache handle from (λ state number object. Passes old now (FindsEither state (marked state number object (not dirty))))) → MayStopAtEach (HoldsState cache) old now moment (to_flush handle)
    flush-stops {dirty} idle only stops = by dirty refl where
      by : (t : Bool) → dirty ≡ t → MayStopAtEach (HoldsState cache) old now moment (to_flush handle)
      by true e =
          nothing-stops (HoldsState cache) (says-kept cache) old now moment (to_flush handle)
          (subst (λ (o : Option Binding). IfSome o (λ binding. binding.dirty ≡ dirty → Stays old now)) given.bound idle (sym marks ∙ only e ∙ sym e))
      by false e =
          cleaned (subst (λ (t : Bool). ForSome old.files (λ from. ForEachNamed cache handle from (λ state number object. Passes old now (FindsEither state (marked state number object (not t)))))) e stops)

    pub flush-spares : SparesRefused (HoldsState cache) old now moment (to_flush handle)
    flush-spares =
        passed-spares (HoldsState cache) old now moment (to_flush handle)
        (λ image here state k. flush-passes state k.kept.entries.valid moment handle (number state image k) (it state image k).object (opened state image k lives))

    pub flush-done : (new : Cache) → ForSome old.files (λ from. ForEachNamed cache handle from (λ state number object. ForSome now.files (HoldsState new (marked state number object true)))) → Does (HoldsState cache) (HoldsState new) old now moment (to_flush handle) answer.Done
    flush-done new done image here state k = record {
      answered = sym (flush-answer state moment handle (flush-passes state k.kept.entries.valid moment handle (number state image k) (it state image k).object (opened state image k lives)));
      kept = λ i there. subst (λ (s : State). HoldsState new s i) (sym (flushes-settle state moment handle (number state image k) (it state image k).object k.kept.entries.valid (opened state image k lives)))
          (done image here state (number state image k) (it state image k).object k (names state image k) i there);
    }
