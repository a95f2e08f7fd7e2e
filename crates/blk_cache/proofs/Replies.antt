-- The reply of a command, by the state after it.
use Rattle.std.proofs.Common.{◌≡◌, ℕ, Bool, true, false, List, [], ◌∷◌, ◌++◌, Option, Some, None, IfSome, refl, sym, ap, subst, ◌∙◌, length, drop}
use Rattle.std.specs.Prelude.{◌||◌, IsSome, is_none, min}
use Rattle.std.specs.List.{flat_map}
use Rattle.std.proofs.lemmas.List.{length-drop, length-take}
use Rattle.spec_image.specs.Image.{Image}
use Rattle.spec_image.specs.Told.{Told}
use Rattle.blk_model.specs.Bounds.{bounds_of}
use Rattle.blk_model.specs.Bytes.{bytes_from}
use Rattle.blk_model.specs.Effects.{effect, object_of, sparse_used, stream_of}
use Rattle.blk_model.specs.Refusals.{evicted, first_refusal, is_kept_from_streams, names_none, no_name, no_stream, refusals, refused}
use Rattle.blk_model.specs.Holding.{rows}
use Rattle.blk_model.specs.Reply.{answer_of, answered, gave}
use Rattle.blk_model.specs.declared.Command.{Command}
use Rattle.blk_model.specs.declared.Command.TheVariants as command
use Rattle.blk_model.specs.Request.{Request, request_of, to_close, to_flush, to_create, to_doom, to_doom_key, to_list, to_open, to_read, to_size, to_sparse_range, to_sparse_read, to_sparse_write, to_total, to_trim, to_write}
use Rattle.blk_model.specs.Room.{without}
use Rattle.blk_model.specs.State.{IsValidState, Object, State, named_by, object_at}
use Rattle.blk_model.specs.Step.{Outcome, outcome, reply, step}
use Rattle.blk_model.specs.declared.Answer.{Answer}
use Rattle.blk_model.specs.declared.Answer.TheVariants as answer
use Rattle.blk_model.specs.declared.Refusal.{Refusal}
use Rattle.blk_model.specs.declared.Refusal.TheVariants as refusal
use Rattle.blk_script.specs.Reply.{reply_text, row_line}
use Rattle.blk_disk.specs.declared.tables.BlockFiles.{BlockFiles}
use Rattle.blk_disk.specs.Tables.{Agrees}
use Rattle.blk_handles.specs.Bindings.{Bindings, binding_of, open_count}
use Rattle.law_state.specs.OneCallLaws.{Names}
use Rattle.blk_cache.specs.declared.cache.Cache.{Cache}
use Rattle.blk_cache.specs.Asking.{stream_refusal}
use Rattle.blk_cache.specs.CacheKeeping.{IsBoundAs, HoldsState}
use Rattle.blk_cache.specs.Listing.{OnlyRoomChanges}
use Rattle.blk_cache.specs.Reading.{bytes_there}
use Rattle.blk_cache.specs.ReadPrinting.{ForRead, KeepsToRead}
use Rattle.blk_evict.specs.RoomPrinting.{PrintsUnlessFailed, PrintsInPart}
use Rattle.blk_cache.specs.Replying.{ForBytes, ForReply, ForRows, IsStateAfter, bytes_text, rows_text, text_of_reply}
use Rattle.blk_evict.proofs.RoomTexts.{appends-longer, printed-on}
use Rattle.blk_cache.proofs.Sizes.{named-object}

-- ---- the text is the model's

done-text : (moment : ℕ) (request : Request) (state : State) → text_of_reply request (answer_of (outcome moment request state None).reply) (outcome moment request state None).state ≡ reply_text (outcome moment request state None).reply
unfolding outcome reply evicted effect without reply_text sparse_used
done-text moment (to_create handle key) state = refl
done-text moment (to_open handle key) state = refl
done-text moment (to_read handle stream offset count) state = refl
done-text moment (to_write handle stream offset cut bytes) state = refl
done-text moment (to_size handle stream) state = refl
done-text moment (to_sparse_write handle offset bytes) state = refl
done-text moment (to_sparse_read handle offset count) state = refl
done-text moment (to_sparse_range handle offset count) state = refl
done-text moment (to_doom handle) state = refl
done-text moment (to_doom_key key) state = refl
done-text moment (to_close handle) state = refl
done-text moment (to_flush handle) state = refl
done-text moment to_list state = refl
done-text moment (to_trim bytes) state = refl
done-text moment to_total state = refl

refused-text : (moment : ℕ) (request : Request) (state : State) (why : Refusal) → text_of_reply request (answer_of (outcome moment request state (Some why)).reply) (outcome moment request state (Some why)).state ≡ reply_text (outcome moment request state (Some why)).reply
unfolding outcome
refused-text moment request state why = refl

outcome-text : (moment : ℕ) (request : Request) (state : State) (why : Option Refusal) → text_of_reply request (answer_of (outcome moment request state why).reply) (outcome moment request state why).state ≡ reply_text (outcome moment request state why).reply
outcome-text moment request state None = done-text moment request state
outcome-text moment request state (Some why) = refused-text moment request state why

step-text : (moment : ℕ) (request : Request) (state : State) → text_of_reply request (answer_of (step state moment request).reply) (step state moment request).state ≡ reply_text (step state moment request).reply
unfolding step
step-text moment request state = outcome-text moment request state (refused moment request state)

-- by the state after a command the text of its reply is that of the model's
pub text-after : (moment : ℕ) (request : Request) (state : State) (given : Answer) → given ≡ answer_of (step state moment request).reply → text_of_reply request given (step state moment request).state ≡ reply_text (step state moment request).reply
text-after moment request state given is = ap (λ (a : Answer). text_of_reply request a (step state moment request).state) is ∙ step-text moment request state

-- ---- the state that is kept is the one after the command

pub is-after : (moment : ℕ) (request : Request) (state : State) (given : Answer) → given ≡ answer_of (step state moment request).reply → IsStateAfter request given (step state moment request).state
is-after moment request state given is = record { before = state; moment = moment; given_is = is; state_is = refl }

-- ---- what a Read names once it is done

module _ (moment handle stream offset count : ℕ) (before : State) where
  -- one that gives bytes isn't refused
  outcome-passes : (n : ℕ) (why : Option Refusal) → answer.Bytes n ≡ answer_of (outcome moment (to_read handle stream offset count) before why).reply → why ≡ None
  unfolding outcome
  outcome-passes n None is = refl
  outcome-passes n (Some why) is = absurd (no is) where
    no : answer.Bytes n ≡ answer.Refused why → ⊥
    no e = cc

  passes : (n : ℕ) → answer.Bytes n ≡ answer_of (step before moment (to_read handle stream offset count)).reply → refused moment (to_read handle stream offset count) before ≡ None
  unfolding step
  passes n is = outcome-passes n (refused moment (to_read handle stream offset count) before) is

  same-refusal : stream_refusal (outcome moment (to_read handle stream offset count) before None).state handle stream ≡ refused moment (to_read handle stream offset count) before
  unfolding outcome effect evicted without refusals
  same-refusal = refl

  step-is : refused moment (to_read handle stream offset count) before ≡ None → (step before moment (to_read handle stream offset count)).state ≡ (outcome moment (to_read handle stream offset count) before None).state
  unfolding step
  step-is e = ap (λ (o : Option Refusal). (outcome moment (to_read handle stream offset count) before o).state) e

  -- the stream is there in the state after it
  still-there : (n : ℕ) (state : State) → answer.Bytes n ≡ answer_of (step before moment (to_read handle stream offset count)).reply → state ≡ (step before moment (to_read handle stream offset count)).state → stream_refusal state handle stream ≡ None
  still-there n state is now =
      let e = passes n is in
      ap (λ (s : State). stream_refusal s handle stream) (now ∙ step-is e) ∙ same-refusal ∙ e

-- a handle names an object
pub record NamesOne (state : State) (handle : ℕ) : Type 0 where
  pub number : ℕ
  pub object : Object
  pub names : Names state handle number object

first-of : (a b c : Bool) (p q r : Refusal) → first_refusal ((a, p) ∷ (b, q) ∷ (c, r) ∷ []) ≡ None → a ≡ false
first-of true b c p q r e = cc
first-of false b c p q r e = refl

or-right : (a b : Bool) → (a || b) ≡ false → b ≡ false
or-right true b e = cc
or-right false b e = e

not-none : {A : Type 0} (o : Option A) → is_none o ≡ false → (a : A) × (o ≡ Some a)
not-none None e = absurd (let z : true ≡ false = e in cc)
not-none (Some a) e = (a, refl)

some-there : {A : Type 0} (o : Option A) → IsSome o → (a : A) × (o ≡ Some a)
some-there None is = absurd (let z : false ≡ true = is in cc)
some-there (Some a) is = (a, refl)

pub named-one : (state : State) (handle : ℕ) → IsValidState state → names_none state handle ≡ false → NamesOne state handle
named-one state handle valid there =
    let named : is_none (named_by state handle) ≡ false = or-right (no_name handle) (is_none (named_by state handle)) there in
    let number = not-none (named_by state handle) named in
    let object = some-there (object_at state number.0) (subst (λ (o : Option ℕ). IfSome o (λ n. IsSome (object_at state n))) number.1 (valid.bound handle)) in
    record { number = number.0; object = object.0; names = record { names = number.1; here = object.1 } }

names-one : (state : State) (handle stream : ℕ) → IsValidState state → stream_refusal state handle stream ≡ None → NamesOne state handle
names-one state handle stream valid there = named-one state handle valid (first-of (names_none state handle) (no_stream stream) (is_kept_from_streams state handle stream) refusal.BadHandle refusal.BadStream refusal.SparseStream there)

module _ (moment handle stream offset count : ℕ) (before : State) where
  -- it gives as many bytes as there are
  outcome-number : (n : ℕ) → answer.Bytes n ≡ answer_of (outcome moment (to_read handle stream offset count) before None).reply → n ≡ length (bytes_from (stream_of (object_of (outcome moment (to_read handle stream offset count) before None).state handle) stream) offset count)
  unfolding outcome reply evicted effect without
  outcome-number n is = same is where
    same : {m : ℕ} → answer.Bytes n ≡ answer.Bytes m → n ≡ m
    same e = cc

  step-outcome : refused moment (to_read handle stream offset count) before ≡ None → step before moment (to_read handle stream offset count) ≡ outcome moment (to_read handle stream offset count) before None
  unfolding step
  step-outcome e = ap (λ (o : Option Refusal). outcome moment (to_read handle stream offset count) before o) e

  pub number-there : (n : ℕ) (state : State) → answer.Bytes n ≡ answer_of (step before moment (to_read handle stream offset count)).reply → state ≡ (step before moment (to_read handle stream offset count)).state → n ≡ length (bytes_from (stream_of (object_of state handle) stream) offset count)
  number-there n state is now =
      let e = step-outcome (passes moment handle stream offset count before n is) in
      outcome-number n (is ∙ ap (λ (o : Outcome). answer_of o.reply) e) ∙ ap (λ (s : State). length (bytes_from (stream_of (object_of s handle) stream) offset count)) (sym (now ∙ ap (λ (o : Outcome). o.state) e))

-- which is how many there are to be read
bytes-number : (bytes : List ℕ) (offset count : ℕ) → length (bytes_from bytes offset count) ≡ bytes_there (length bytes) offset count
bytes-number bytes offset count = length-take count (drop offset bytes) ∙ ap (min count) (length-drop offset bytes)

module _ (cache : Cache) (told : Told) (handle stream offset count number : ℕ) where
  -- what is to be read, in a state after a Read
  pub to-read : (state : State) (image : Image) → HoldsState cache state image → IsStateAfter (to_read handle stream offset count) (answer.Bytes number) state → KeepsToRead cache handle stream offset number image
  to-read state image k after =
      let there : stream_refusal state handle stream ≡ None = still-there after.moment handle stream offset count after.before number state after.given_is after.state_is in
      let one : NamesOne state handle = names-one state handle stream k.kept.entries.valid there in
      record {
        state = state;
        kept = k;
        n = one.number;
        count = count;
        object = one.object;
        names = one.names;
        passes = there;
        number_is = number-there after.moment handle stream offset count after.before number state after.given_is after.state_is
            ∙ ap (λ (o : Object). length (bytes_from (stream_of o stream) offset count)) (named-object state handle one.number one.object one.names) ∙ bytes-number (stream_of one.object stream) offset count;
      }

  -- so the bytes of its line are there
  pub read-bytes : (P : List ℕ → Type 0) → ForRead cache told handle stream offset number P → ForBytes cache told (to_read handle stream offset count) number P
  read-bytes P reads image here state k after =
      let there : stream_refusal state handle stream ≡ None = still-there after.moment handle stream offset count after.before number state after.given_is after.state_is in
      let one : NamesOne state handle = names-one state handle stream k.kept.entries.valid there in
      let said : number ≡ bytes_there (length (stream_of one.object stream)) offset count = number-there after.moment handle stream offset count after.before number state after.given_is after.state_is
      ∙ ap (λ (o : Object). length (bytes_from (stream_of o stream) offset count)) (named-object state handle one.number one.object one.names) ∙ bytes-number (stream_of one.object stream) offset count in
      subst P (ap (λ (o : Object). reply_text (gave (bytes_from (stream_of o stream) offset count))) (sym (named-object state handle one.number one.object one.names)))
      (reads image here state k one.number count one.object one.names there said)

-- a command that is neither a Read nor a SparseRead reads none
pub no-bytes : (given : Command) (state : State) → ((handle stream offset count : ℕ) → given ≡ command.Read handle stream offset count → ⊥) → ((handle offset count : ℕ) → given ≡ command.SparseRead handle offset count → ⊥) → bytes_text (request_of given) state ≡ []
no-bytes (command.Create handle key) state other sparse = refl
no-bytes (command.Open handle key) state other sparse = refl
no-bytes (command.Read handle stream offset count) state other sparse = absurd (other handle stream offset count refl)
no-bytes (command.Write handle stream offset cut bytes) state other sparse = refl
no-bytes (command.Size handle stream) state other sparse = refl
no-bytes (command.SparseWrite handle offset bytes) state other sparse = refl
no-bytes (command.SparseRead handle offset count) state other sparse = absurd (sparse handle offset count refl)
no-bytes (command.SparseRange handle offset count) state other sparse = refl
no-bytes (command.Doom handle) state other sparse = refl
no-bytes (command.DoomKey key) state other sparse = refl
no-bytes (command.Close handle) state other sparse = refl
no-bytes (command.Flush handle) state other sparse = refl
no-bytes command.List state other sparse = refl
no-bytes (command.Trim bytes) state other sparse = refl
no-bytes command.Total state other sparse = refl

-- ---- the parts of a reply

pub bytes-reply : (cache : Cache) (told : Told) (request : Request) (given : Answer) (n : ℕ) → given ≡ answer.Bytes n → (P : List ℕ → Type 0) → ForBytes cache told request n P → ForReply cache told request given P
bytes-reply cache told request given n is P bytes = subst (λ (a : Answer). ForReply cache told request a P) (sym is) (λ image here state k after. bytes image here state k after)

pub rows-reply : (cache : Cache) (told : Told) (request : Request) (given : Answer) (n : ℕ) → given ≡ answer.Listed n → (P : List ℕ → Type 0) → ForRows cache told given P → ForReply cache told request given P
rows-reply cache told request given n is P = subst (λ (a : Answer). ForRows cache told a P → ForReply cache told request a P) (sym is) (λ rows image here state k after. rows image here state k)

pub part-longer : (before : Bool) (old new : Option (List ℕ)) (a b : List ℕ) → PrintsInPart before old new a → PrintsInPart before old new (a ++ b)
part-longer before old new a b part = record { silent = part.silent; front = appends-longer old new a b part.front }

pub rows-and-end : (before between failed : Bool) (w0 w1 w2 : Option (List ℕ)) (given : Answer) (state : State) → PrintsUnlessFailed before between w0 w1 (flat_map row_line (rows state)) → PrintsUnlessFailed between failed w1 w2 (reply_text (answered given)) → PrintsUnlessFailed before failed w0 w2 (rows_text given state)
rows-and-end before between failed w0 w1 w2 given state rows_are end_is = printed-on before between failed w0 w1 w2 (flat_map row_line (rows state)) (reply_text (answered given)) rows_are end_is

-- ---- what a cache keeps doesn't depend on its buffers for names

unfoldable pub kept-still : (old new : Cache) (state : State) (image : Image) → OnlyRoomChanges old new → HoldsState old state image → HoldsState new state image
kept-still old new state image same k = record {
  layout = k.layout;
  kept = k.kept;
  limits = k.limits ∙ ap bounds_of (sym same.limits);
  items_are = same.items ∙ k.items_are;
  bytes_are = same.bytes ∙ k.bytes_are;
  few = k.few;
  open_objects = ap open_count same.handles ∙ k.open_objects;
  open_bytes = same.open_bytes ∙ k.open_bytes;
  names = λ name. subst (λ (bs : Bindings). IsBoundAs state k.layout (named_by state name) (binding_of bs name)) (sym same.handles) (k.names name);
  files = subst (λ (fs : BlockFiles). Agrees fs image) (sym same.files) k.files;
  mark = same.mark ∙ k.mark;
}
