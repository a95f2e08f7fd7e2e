-- A Write whole: why it is refused, what it evicts, and how its end follows on the making of space.
use Rattle.std.proofs.Common.{◌≡◌, ℕ, ◌-◌, Bool, true, false, List, [], ◌∷◌, ◌++◌, length, get_or, Option, Some, None, Result, Ok, Err, refl, sym, ap, subst, ◌∙◌}
use Rattle.std.specs.Prelude.{◌||◌, IfOk, if◌then◌else◌, is_none}
use Rattle.std.specs.Option.{ForSome}
use Rattle.spec_image.specs.Image.{Image}
use Rattle.spec_image.specs.Told.{Passes, Told}
use Rattle.spec_image.proofs.Runs.{passes_then, passes_weaker}
use Rattle.blk_io.specs.Faults.{IfDamaged}
use Rattle.blk_io.specs.Streams.{Appends}
use Rattle.blk_io.specs.declared.fault.Fault.{Fault}
use Rattle.blk_model.specs.Effects.{stream_after, stream_of}
use Rattle.blk_model.specs.Holding.{rest}
use Rattle.blk_model.specs.Refusals.{evicted, evicted_for, first_refusal, is_full, is_kept_from_streams, names_none, no_name, no_room, no_stream, refused, room_for}
use Rattle.blk_model.specs.Request.{Request, to_write}
use Rattle.blk_model.specs.Room.{Group, Room, after as makes, full, room, without}
use Rattle.blk_model.specs.State.{Object, State, named_by}
use Rattle.blk_model.specs.Step.{outcome, step}
use Rattle.blk_model.specs.declared.Answer.{Answer}
use Rattle.blk_model.specs.declared.Answer.TheVariants as answer
use Rattle.blk_model.specs.declared.Refusal.{Refusal}
use Rattle.blk_model.specs.declared.Refusal.TheVariants as refusal
use Rattle.blk_model.proofs.States.{Named, named_object}
use Rattle.blk_model.proofs.Written.{without_names}
use Rattle.blk_stream.specs.Writing.{size_after}
use Rattle.law_state.specs.Changes.{Finds}
use Rattle.law_state.specs.Commands.{Does, ForKept, IsDone, MayStop, MayStopAtEach}
use Rattle.law_state.specs.CommandStates.{with_room}
use Rattle.law_state.specs.OneCallLaws.{Names}
use Rattle.law_state.proofs.Stopping.{stop-before, stop-evicted}
use Rattle.law_state.proofs.Unsettling.{room-valid}
use Rattle.blk_script.specs.Reply.{evicted_text}
use Rattle.spec_run.proofs.StepFacts.{true_false}
use Rattle.blk_cache.specs.declared.asking.NamedStream.{NamedStream}
use Rattle.blk_cache.specs.declared.cache.Cache.{Cache}
use Rattle.blk_cache.specs.Asking.{stream_refusal}
use Rattle.blk_cache.specs.CacheKeeping.{HoldsState}
use Rattle.blk_cache.specs.CommandClauses.{IsRefused, KeepsAny, SparesRefused}
use Rattle.blk_cache.specs.Evicting.{IsEvicting}
use Rattle.blk_evict.specs.RoomPrinting.{PrintsUnlessFailed}
use Rattle.blk_cache.specs.Stepping.{SaysEvicted, SaysPrefix}
use Rattle.blk_cache.specs.Writing.{IsReadyToWrite, IsReadyToWriteSome, MayBeWritten}
use Rattle.blk_cache.proofs.CreateWhole.{there-after, untold-by}
use Rattle.blk_cache.proofs.EvictionEnds.{passed-groups}
use Rattle.blk_evict.proofs.RoomGroups.{without-none}
use Rattle.blk_evict.proofs.RoomTexts.{none-behind, none-printed}
use Rattle.blk_cache.proofs.Sizes.{named-object}
use Rattle.blk_cache.proofs.WriteRoom.{bound, first, long-after, same-stream, wants-rise}
use Rattle.blk_cache.proofs.WriteUses.{never-told}
use Rattle.blk_cache.proofs.Sparing.{passed-spares}

-- ---- any request

module _ (moment : ℕ) (request : Request) (cache : Cache) (told : Told) (failed_before failed : Bool) (old new : Option (List ℕ)) where
  refused-groups : (state : State) (why : Refusal) → refused moment request state ≡ Some why → (step state moment request).groups ≡ []
  unfolding step outcome
  refused-groups state why is = ap (λ (o : Option Refusal). (outcome moment request state o).groups) is

  -- a refusal prints nothing of what is evicted
  pub refused-says : (why : Refusal) → ForKept (HoldsState cache) told (λ state. refused moment request state ≡ Some why) → SaysEvicted cache told moment request failed_before failed_before old old
  refused-says why is image there state k = subst (λ (groups : List Group). PrintsUnlessFailed failed_before failed_before old old (evicted_text groups)) (sym (refused-groups state why (is image there state k))) (none-printed failed_before old)

  -- nor is anything printed where the request fails before
  pub front-before : SaysPrefix (HoldsState cache) told moment request old old
  front-before image there state k = record { front = []; rest = evicted_text (step state moment request).groups; split = refl; written = none-behind old }

-- ---- a request that is refused for lack of space alone, and needs space for so many bytes

-- for each state that is kept
pub record WantsRoom (moment : ℕ) (request : Request) (more : ℕ) (state : State) : Type 0 where
  pub unless_full : refused moment request state ≡ (if no_room moment request state then Some refusal.Full else None)
  pub room_is : room_for moment request state ≡ room state [] more 0
  pub groups_are : evicted moment request state ≡ evicted_for (room_for moment request state)

full-none : (r : Room) → is_full r ≡ true → evicted_for r ≡ []
full-none full e = refl
full-none (makes groups) e = absurd (let z : false ≡ true = e in cc)

first-none : (first others : List Group) → [] ≡ first ++ others → first ≡ []
first-none [] others e = refl
first-none (group ∷ first) others e = cc

module _ (moment : ℕ) (request : Request) (more : ℕ) where
  module _ (state : State) (is : WantsRoom moment request more state) where
    pub evicted-is : evicted moment request state ≡ evicted_for (room state [] more 0)
    evicted-is = is.groups_are ∙ ap evicted_for is.room_is

    pub refused-full : is_full (room state [] more 0) ≡ true → refused moment request state ≡ Some refusal.Full
    refused-full over = is.unless_full ∙ ap (λ (b : Bool). if b then Some refusal.Full else None) (ap is_full is.room_is ∙ over)

    pub not-refused : is_full (room state [] more 0) ≡ false → refused moment request state ≡ None
    not-refused free = is.unless_full ∙ ap (λ (b : Bool). if b then Some refusal.Full else None) (ap is_full is.room_is ∙ free)

  module _ (cache : Cache) (told : Told) (is : ForKept (HoldsState cache) told (WantsRoom moment request more)) where
    module _ (failed_before failed : Bool) (old new : Option (List ℕ)) where
      groups-made : (image : Image) → told.files ≡ Some image → (state : State) → HoldsState cache state image → (step state moment request).groups ≡ evicted_for (room state [] more 0)
      groups-made image there state k = by (room state [] more 0) refl where
        by : (r : Room) → room state [] more 0 ≡ r → (step state moment request).groups ≡ evicted_for (room state [] more 0)
        by full e = refused-groups moment request cache told failed_before failed old new state refusal.Full (refused-full state (is image there state k) (ap is_full e)) ∙ sym (ap evicted_for e)
        by (makes groups) e = passed-groups moment request state (not-refused state (is image there state k) (ap is_full e)) ∙ evicted-is state (is image there state k)

      pub made-says : ForKept (HoldsState cache) told (λ state. PrintsUnlessFailed failed_before failed old new (evicted_text (evicted_for (room state [] more 0)))) → SaysEvicted cache told moment request failed_before failed old new
      made-says prints image there state k = subst (λ (groups : List Group). PrintsUnlessFailed failed_before failed old new (evicted_text groups)) (sym (groups-made image there state k)) (prints image there state k)

      pub made-front : ForKept (HoldsState cache) told (λ state. Appends old new (evicted_text (evicted_for (room state [] more 0)))) → SaysPrefix (HoldsState cache) told moment request old new
      made-front front image there state k = subst (λ (groups : List Group). Appends old new (evicted_text groups)) (sym (groups-made image there state k)) (front image there state k)

    -- where there is space it isn't refused
    pub tried-spares : (now : Told) → ForKept (HoldsState cache) told (λ state. is_full (room state [] more 0) ≡ false) → SparesRefused (HoldsState cache) told now moment request
    tried-spares now free = passed-spares (HoldsState cache) told now moment request (λ image there state k. not-refused state (is image there state k) (free image there state k))

    module _ (mid : Told) (evicting : ForKept (HoldsState cache) told (λ state. Passes told mid (IsEvicting (evicted_for (room state [] more 0)) state))) where
      -- at a word at which space is made it may crash
      room-stop : (image i : Image) (state : State) → told.files ≡ Some image → HoldsState cache state image → IsEvicting (evicted_for (room state [] more 0)) state i → MayStop state moment request i
      room-stop image i state there k e = by (is_full (room state [] more 0)) refl where
        by : (over : Bool) → is_full (room state [] more 0) ≡ over → MayStop state moment request i
        by true over =
            let none : e.first ≡ [] = first-none e.first e.others (sym (full-none (room state [] more 0) over) ∙ e.split) in
            stop-before state moment request i k.kept.entries.valid (subst (λ (s : State). Finds (rest s) i) (ap (λ (groups : List Group). without groups state) none ∙ without-none state) e.finds)
        by false free = stop-evicted state moment request e.first e.others i k.kept.entries.valid (record { passes = not-refused state (is image there state k) free; groups = evicted-is state (is image there state k) ∙ e.split }) e.finds

      pub room-stops : MayStopAtEach (HoldsState cache) told mid moment request
      room-stops image there state k =
          let may : (i : Image) → IsEvicting (evicted_for (room state [] more 0)) state i → MayStop state moment request i = λ i e. room-stop image i state there k e in
          passes_weaker (evicting image there state k) may may

-- ---- a Write

-- where no stream is refused none is kept from streams
third : (a b c : Bool) → first_refusal ((a, refusal.BadHandle) ∷ (b, refusal.BadStream) ∷ (c, refusal.SparseStream) ∷ []) ≡ None → c ≡ false
third true b c e = cc
third false true c e = cc
third false false true e = cc
third false false false e = refl

module _ (moment handle stream offset : ℕ) (cut : Bool) (bytes : List ℕ) (cache : Cache) (told : Told) (found : NamedStream) (more : ℕ) (more-is : more ≡ size_after cut found.size offset (length bytes) - found.size)
    (has : ForSome told.files (λ image. (state : State) (k : HoldsState cache state image) → MayBeWritten state k.layout moment handle stream offset cut bytes found)) where
  abbrev request : Request
  request = to_write handle stream offset cut bytes

  evicts : (state : State) → evicted moment (to_write handle stream offset cut bytes) state ≡ evicted_for (room_for moment (to_write handle stream offset cut bytes) state)
  unfolding evicted
  evicts state = refl

  -- it needs space for what its stream gets longer
  pub write-wants : ForKept (HoldsState cache) told (WantsRoom moment (to_write handle stream offset cut bytes) more)
  write-wants image there state k =
      let m = has image there state k in
      let long : length (stream_after cut (stream_of m.named.object stream) offset bytes) - length (stream_of m.named.object stream) ≡ more =
      ap (λ (n : ℕ). n - length (stream_of m.named.object stream)) (sym (long-after cut (stream_of m.named.object stream) bytes offset))
      ∙ ap (λ (n : ℕ). size_after cut n offset (length bytes) - n) (sym m.named.size) ∙ sym more-is in
      record {
        unless_full = m.unless_full;
        room_is = wants-rise state moment handle stream offset cut bytes m.named.number m.named.object m.named.names (its-apart m.named.passes) ∙ ap (λ (n : ℕ). room state [] n 0) long;
        groups_are = evicts state;
      }
    where
      its-apart : stream_refusal state handle stream ≡ None → is_kept_from_streams state handle stream ≡ false
      its-apart passes = third (names_none state handle) (no_stream stream) (is_kept_from_streams state handle stream) passes

  module _ (mid : Told) (evicting : ForKept (HoldsState cache) told (λ state. Passes told mid (IsEvicting (evicted_for (room state [] more 0)) state))) (free : ForKept (HoldsState cache) told (λ state. is_full (room state [] more 0) ≡ false))
      (new : Cache) (made : ForKept (HoldsState cache) told (λ state. ForSome mid.files (HoldsState new (without (evicted_for (room state [] more 0)) state)))) where
    -- then it is to be ended
    pub ready : (image from : Image) (state : State) → told.files ≡ Some image → mid.files ≡ Some from → HoldsState cache state image → IsReadyToWrite new state moment handle stream offset cut bytes found.size from
    ready image from state there here k =
        let m = has image there state k in
        let valid = k.kept.entries.valid in
        let passes = not-refused moment (to_write handle stream offset cut bytes) more state (write-wants image there state k) (free image there state k) in
        let base = with_room state moment (to_write handle stream offset cut bytes) in
        let names-are : named_by base handle ≡ named_by state handle = ap (λ (ns : List (Option ℕ)). get_or ns handle None) (without_names (evicted moment (to_write handle stream offset cut bytes) state) state) in
        let held : names_none base handle ≡ false = ap (λ (o : Option ℕ). no_name handle || is_none o) names-are ∙ bound state moment handle stream offset cut bytes valid passes in
        let n : Named base handle = named_object base (room-valid state moment (to_write handle stream offset cut bytes) valid) handle held in
        let names : Names base handle n.number n.object = record { names = n.by_name; here = n.here } in
        let was : (first state moment handle stream offset cut bytes valid passes).object ≡ m.named.object = sym (first state moment handle stream offset cut bytes valid passes).object_is ∙ named-object state handle m.named.number m.named.object m.named.names in
        let streams : stream_of m.named.object stream ≡ stream_of n.object stream = ap (λ (o : Object). stream_of o stream) (sym was) ∙ sym (same-stream state moment handle stream offset cut bytes valid passes n.number n.object names) in
        record {
          valid = valid;
          passes = passes;
          kept = subst (λ (groups : List Group). HoldsState new (without groups state) from) (sym (evicted-is moment (to_write handle stream offset cut bytes) more state (write-wants image there state k))) (made image there state k from here);
          number = n.number;
          object = n.object;
          names = names;
          size_is = m.named.size ∙ ap length streams;
        }

    pub ready-for-some : (image : Image) → told.files ≡ Some image → KeepsAny cache image → ForSome mid.files (IsReadyToWriteSome new handle stream offset cut bytes found.size)
    ready-for-some image there some from here = record { state = some.0; moment = moment; ready = ready image from some.0 there here some.1 }

    abbrev first-stops : MayStopAtEach (HoldsState cache) told mid moment (to_write handle stream offset cut bytes)
    first-stops = room-stops moment (to_write handle stream offset cut bytes) more cache told write-wants mid evicting

    module _ (now : Told) where
      pub whole-stops : ForSome mid.files (λ from. (state : State) → IsReadyToWrite new state moment handle stream offset cut bytes found.size from → Passes mid now (MayStop state moment (to_write handle stream offset cut bytes))) → MayStopAtEach (HoldsState cache) told now moment (to_write handle stream offset cut bytes)
      whole-stops stops image there state k =
          let at = there-after told mid (MayStop state moment (to_write handle stream offset cut bytes)) (first-stops image there state k) image there in
          passes_then (first-stops image there state k) (stops at.0 at.1 state (ready image at.0 state there at.1 k))

      pub whole-does : (last : Cache) (answer : Answer) → ForSome mid.files (λ from. (state : State) → IsReadyToWrite new state moment handle stream offset cut bytes found.size from → IsDone (HoldsState last) now moment (to_write handle stream offset cut bytes) answer state)
          → Does (HoldsState cache) (HoldsState last) told now moment (to_write handle stream offset cut bytes) answer
      whole-does last answer does image there state k =
          let at = there-after told mid (MayStop state moment (to_write handle stream offset cut bytes)) (first-stops image there state k) image there in
          does at.0 at.1 state (ready image at.0 state there at.1 k)

    -- an observable folder reports no corruption
    pub whole-untold : {A : Type 0} (r : Result A Fault) → (ForSome mid.files (IsReadyToWriteSome new handle stream offset cut bytes found.size) → IfDamaged r (λ _. mid.files ≡ None)) → ForSome told.files (KeepsAny cache) → IfDamaged r (λ _. told.files ≡ None)
    whole-untold r untold some = untold-by r told.files (λ image there.
        let k = some image there in
        let at = there-after told mid (MayStop k.0 moment (to_write handle stream offset cut bytes)) (first-stops image there k.0 k.1) image there in
        never-told r mid.files told.files at.0 at.1 (untold (ready-for-some image there k)))

-- an answer that is none of a refusal
pub only-wrote : (r : Result Answer Fault) (n : ℕ) (P : Type 0) → IfOk r (λ given. given ≡ answer.Wrote n) → IfOk r (λ given. IsRefused given → P)
only-wrote (Ok given) n P wrote = λ refused. true_false (subst IsRefused wrote refused) refl
only-wrote (Err e) n P wrote = tt
