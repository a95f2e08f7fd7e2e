-- What a step prints: the lines of what is evicted, and then its reply.
use Rattle.std.proofs.Common.{◌≡◌, ℕ, Bool, false, List, [], ◌++◌, Option, Some, None, refl, sym, ap, subst, ◌∙◌, append_assoc}
use Rattle.std.specs.Option.{ForSome, option_map}
use Rattle.spec_image.specs.Image.{Image}
use Rattle.spec_image.specs.Steps.{after}
use Rattle.spec_image.specs.Told.{Told}
use Rattle.blk_io.specs.Streams.{Appends}
use Rattle.blk_model.specs.Refusals.{evicted, refused}
use Rattle.blk_model.specs.Request.{Request, to_close, to_flush, to_doom, to_doom_key, to_list, to_open, to_read, to_size, to_sparse_range, to_sparse_read, to_total}
use Rattle.blk_model.specs.Room.{Group}
use Rattle.blk_model.specs.State.{State}
use Rattle.blk_model.specs.Step.{outcome, step}
use Rattle.blk_model.specs.declared.Answer.{Answer}
use Rattle.blk_model.specs.declared.Refusal.{Refusal}
use Rattle.law_state.specs.Commands.{Does, ForKept, MayStopAtEach}
use Rattle.blk_script.specs.Reply.{evicted_text, outcome_text, reply_text}
use Rattle.blk_cache.specs.declared.cache.Cache.{Cache}
use Rattle.blk_cache.specs.CacheKeeping.{HoldsState, KeepsState}
use Rattle.blk_cache.specs.CommandClauses.{KeepsAny}
use Rattle.blk_evict.specs.RoomPrinting.{PrintsUnlessFailed, PrintsInPart}
use Rattle.blk_cache.specs.Replying.{ForReply, KeepsAfter}
use Rattle.blk_cache.specs.Stepping.{SaysEvicted, SaysPrefix, evicted_first}
use Rattle.blk_evict.proofs.RoomTexts.{none-printed, part-on, printed-on}
use Rattle.blk_cache.proofs.Replies.{is-after, text-after}

-- What evicts nothing.

-- a command of these evicts nothing
abbrev pub EvictsNothing : Request → Type 0
EvictsNothing (to_open handle key) = Unit {0}
EvictsNothing (to_read handle stream offset count) = Unit {0}
EvictsNothing (to_size handle stream) = Unit {0}
EvictsNothing (to_close handle) = Unit {0}
EvictsNothing (to_flush handle) = Unit {0}
EvictsNothing (to_sparse_read handle offset count) = Unit {0}
EvictsNothing (to_sparse_range handle offset count) = Unit {0}
EvictsNothing (to_doom handle) = Unit {0}
EvictsNothing (to_doom_key key) = Unit {0}
EvictsNothing to_list = Unit {0}
EvictsNothing to_total = Unit {0}
EvictsNothing _ = ⊥

none-evicted : (moment : ℕ) (request : Request) (state : State) → EvictsNothing request → evicted moment request state ≡ []
unfolding evicted
none-evicted moment (to_open handle key) state n = refl
none-evicted moment (to_read handle stream offset count) state n = refl
none-evicted moment (to_size handle stream) state n = refl
none-evicted moment (to_close handle) state n = refl
none-evicted moment (to_flush handle) state n = refl
none-evicted moment (to_sparse_read handle offset count) state n = refl
none-evicted moment (to_sparse_range handle offset count) state n = refl
none-evicted moment (to_doom handle) state n = refl
none-evicted moment (to_doom_key key) state n = refl
none-evicted moment to_list state n = refl
none-evicted moment to_total state n = refl
none-evicted moment _ state n = absurd n

outcome-groups : (moment : ℕ) (request : Request) (state : State) (why : Option Refusal) → evicted moment request state ≡ [] → (outcome moment request state why).groups ≡ []
unfolding outcome
outcome-groups moment request state (Some why) n = refl
outcome-groups moment request state None n = n

no-groups : (moment : ℕ) (request : Request) (state : State) → EvictsNothing request → (step state moment request).groups ≡ []
unfolding step
no-groups moment request state n = outcome-groups moment request state (refused moment request state) (none-evicted moment request state n)

module _ (cache : Cache) (told : Told) (moment : ℕ) (request : Request) (quiet : EvictsNothing request) (failed : Bool) (written : Option (List ℕ)) where
  pub says-nothing : SaysEvicted cache told moment request failed failed written written
  says-nothing image there state k = subst (λ (groups : List Group). PrintsUnlessFailed failed failed written written (evicted_text groups)) (sym (no-groups moment request state quiet)) (none-printed failed written)

  pub prefix-nothing : SaysPrefix (HoldsState cache) told moment request written written
  prefix-nothing image there state k = subst (λ (groups : List Group). Appends written written (evicted_text groups)) (sym (no-groups moment request state quiet)) ((none-printed failed written).front)

-- The whole text.

module _ (old done : Cache) (told mid now : Told) (moment : ℕ) (request : Request) (stops : MayStopAtEach (HoldsState old) told mid moment request) (same : now.files ≡ mid.files) where
  -- an observable folder still is
  still-told : (state : State) (image : Image) → told.files ≡ Some image → HoldsState old state image → (i : Image) × (now.files ≡ Some i)
  still-told state image there k =
      let p = stops image there state k in
      (after p.steps image, same ∙ p.applies.files ∙ ap (option_map (after p.steps)) there)

  -- and one that is opaque in the end was opaque before
  pub none-before : ForSome told.files (KeepsAny old) → now.files ≡ None → told.files ≡ None
  none-before any none = by told.files refl where
    no : {i : Image} → ◌≡◌ {A = Option Image} None (Some i) → ⊥
    no e = cc

    by : (o : Option Image) → told.files ≡ o → told.files ≡ None
    by None is = is
    by (Some image) is = let one = any image is in absurd (no (sym none ∙ (still-told one.0 image is one.1).1))

  module _ (answer : Answer) (does : Does (HoldsState old) (HoldsState done) told now moment request answer) where
    -- what is said of the reply, by the state after the command
    replied : (P : List ℕ → Type 0) → ForReply done now request answer P → ForKept (HoldsState old) told (λ state. P (reply_text (step state moment request).reply))
    replied P says image there state k =
        let d = does image there state k in
        let here = still-told state image there k in
        subst P (text-after moment request state answer d.answered) (says here.0 here.1 (step state moment request).state (d.kept here.0 here.1) (is-after moment request state answer d.answered))

    -- the cache keeps the state after the command, where it kept one
    pub any-after : ForSome told.files (KeepsAny old) → (image : Image) → told.files ≡ Some image → ForSome now.files (KeepsAfter done request answer)
    any-after any image there i here =
        let one = any image there in
        let d = does image there one.0 one.1 in
        record { state = (step one.0 moment request).state; kept = d.kept i here; after = is-after moment request one.0 answer d.answered }

    module _ (between failed : Bool) (w0 w1 w2 : Option (List ℕ)) (says : SaysEvicted old told moment request false between w0 w1) where
      pub whole-printed : ForReply done now request answer (PrintsUnlessFailed between failed w1 w2) → failed ≡ false → ForKept (KeepsState old) told (λ state. w2 ≡ option_map (λ (w : List ℕ). w ++ outcome_text (step state moment request)) w0)
      whole-printed prints e image there state k =
          (printed-on false between failed w0 w1 w2 (evicted_first (step state moment request)) (reply_text (step state moment request).reply) (says image there state k.holds) (replied (PrintsUnlessFailed between failed w1 w2) prints image there state k.holds)).whole e

      pub prefix-printed : ForReply done now request answer (PrintsInPart between w1 w2) → ForKept (KeepsState old) told (λ state. Appends w0 w2 (outcome_text (step state moment request)))
      prefix-printed part image there state k =
          (part-on false between w0 w1 w2 (evicted_first (step state moment request)) (reply_text (step state moment request).reply) (says image there state k.holds) (replied (PrintsInPart between w1 w2) part image there state k.holds)).front

-- a prefix of what is evicted is one of the whole text
more-behind : (a b : List ℕ) (old new : Option (List ℕ)) → Appends old new a → Appends old new (a ++ b)
more-behind a b old new front = record { front = front.front; rest = front.rest ++ b; split = ap (λ (l : List ℕ). l ++ b) front.split ∙ append_assoc front.front front.rest b; written = front.written }

pub prefix-of-whole : (cache : Cache) (told : Told) (moment : ℕ) (request : Request) (old new : Option (List ℕ)) → SaysPrefix (HoldsState cache) told moment request old new → ForKept (KeepsState cache) told (λ state. Appends old new (outcome_text (step state moment request)))
prefix-of-whole cache told moment request old new says image there state k = more-behind (evicted_first (step state moment request)) (reply_text (step state moment request).reply) old new (says image there state k.holds)
