-- A Size of a cache that keeps a state.
use Rattle.std.proofs.Common.{◌≡◌, ℕ, [], length, Option, Some, None, refl, sym, ap, ◌∙◌}
use Rattle.std.specs.Prelude.{unwrap_or}
use Rattle.std.specs.Option.{ForSome}
use Rattle.spec_image.specs.Told.{Told}
use Rattle.blk_model.specs.Effects.{new_object, object_of, stream_of}
use Rattle.blk_model.specs.Refusals.{refusals, refused}
use Rattle.blk_model.specs.Reply.{answer_of}
use Rattle.blk_model.specs.Request.{to_size}
use Rattle.blk_model.specs.State.{Object, State, object_at}
use Rattle.blk_model.specs.Step.{reply, step}
use Rattle.blk_model.specs.declared.Answer.TheVariants as answer
use Rattle.blk_model.specs.declared.Refusal.{Refusal}
use Rattle.law_state.specs.Commands.{Does}
use Rattle.law_state.specs.OneCallLaws.{Names}
use Rattle.law_state.proofs.CommandEnding.{passed}
use Rattle.law_state.proofs.Stopping.{nothing-done, quiet-keep, refusals-done}
use Rattle.blk_cache.specs.declared.asking.NamedStream.{NamedStream}
use Rattle.blk_cache.specs.declared.cache.Cache.{Cache}
use Rattle.blk_cache.specs.Asking.{IsNamedStream, stream_refusal}
use Rattle.blk_cache.specs.CacheKeeping.{HoldsState}

-- the object that a handle names
pub named-object : (state : State) (handle number : ℕ) (object : Object) → Names state handle number object → object_of state handle ≡ object
named-object state handle number object n =
    ap (λ (o : Option ℕ). unwrap_or (object_at state (unwrap_or o (length state.objects))) (new_object [])) n.names ∙ ap (λ (o : Option Object). unwrap_or o (new_object [])) n.here

module _ (state : State) (moment handle stream : ℕ) where
  size-refused : refused moment (to_size handle stream) state ≡ stream_refusal state handle stream
  unfolding refusals
  size-refused = refl

  size-answer : (number : ℕ) (object : Object) → Names state handle number object → refused moment (to_size handle stream) state ≡ None → answer_of (step state moment (to_size handle stream)).reply ≡ answer.Size (length (stream_of object stream))
  unfolding reply
  size-answer number object n goes = ap answer_of (passed state moment (to_size handle stream) goes).1 ∙ ap (λ (o : Object). answer.Size (length (stream_of o stream))) (named-object state handle number object n)

module _ (cache : Cache) (old now : Told) (stays : now ≡ old) (moment handle stream : ℕ) where
  pub size-refuses : (why : Refusal) → ForSome old.files (λ image. (state : State) → HoldsState cache state image → stream_refusal state handle stream ≡ Some why)
      → Does (HoldsState cache) (HoldsState cache) old now moment (to_size handle stream) (answer.Refused why)
  size-refuses why refuses = refusals-done (HoldsState cache) old now moment (to_size handle stream) why stays (λ image there state k. size-refused state moment handle stream ∙ refuses image there state k)

  pub size-does : (found : NamedStream) → ForSome old.files (λ image. (state : State) (k : HoldsState cache state image) → IsNamedStream state k.layout handle stream found)
      → Does (HoldsState cache) (HoldsState cache) old now moment (to_size handle stream) (answer.Size found.size)
  size-does found has = nothing-done (HoldsState cache) old now moment (to_size handle stream) (answer.Size found.size) stays (λ image there state k.
      let s : IsNamedStream state k.layout handle stream found = has image there state k in
      let q = quiet-keep state moment handle stream in
      (q.1.1, ap answer.Size s.size ∙ sym (size-answer state moment handle stream s.number s.object s.names (size-refused state moment handle stream ∙ s.passes))))
