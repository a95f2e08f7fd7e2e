-- The reply of a SparseRead, by the state after it.
use Rattle.std.proofs.Common.{◌≡◌, ℕ, ◌≤◌, ◌+◌, Bool, true, false, List, [], ◌∷◌, length, Option, Some, None, refl, sym, ap, subst, ◌∙◌, arith}
use Rattle.std.specs.Prelude.{nat_lt, not}
use Rattle.std.proofs.lemmas.Bool.Decides.{nat_tests}
use Rattle.spec_image.specs.Image.{Image}
use Rattle.spec_image.specs.Told.{Told}
use Rattle.blk_model.specs.Effects.{effect, object_of, sparse_used}
use Rattle.blk_model.specs.Items.{is_sparse}
use Rattle.blk_model.specs.Refusals.{evicted, first_refusal, is_doomed, is_plain, names_none, past_end, refusals, refused}
use Rattle.blk_model.specs.Reply.{answer_of, gave}
use Rattle.blk_model.specs.Request.{to_sparse_read}
use Rattle.blk_model.specs.Room.{without}
use Rattle.blk_model.specs.Sparse.{sparse_bytes}
use Rattle.blk_model.specs.State.{Object, State}
use Rattle.blk_model.specs.Step.{Outcome, outcome, reply, step}
use Rattle.blk_model.specs.declared.Answer.TheVariants as answer
use Rattle.blk_model.specs.declared.Refusal.{Refusal}
use Rattle.blk_model.specs.declared.Refusal.TheVariants as refusal
use Rattle.blk_script.specs.Reply.{reply_text}
use Rattle.blk_sparse.proofs.PrefixRuns.{bytes-again, bytes-few}
use Rattle.blk_cache.specs.declared.cache.Cache.{Cache}
use Rattle.blk_cache.specs.CacheKeeping.{HoldsState}
use Rattle.blk_cache.specs.ReadPrinting.{ForPresent, KeepsPresent, NamesPresent}
use Rattle.blk_cache.specs.Replying.{ForBytes, IsStateAfter}
use Rattle.blk_cache.proofs.Replies.{NamesOne, named-one}
use Rattle.blk_cache.proofs.Sizes.{named-object}

-- ---- what it names once it is done

module _ (moment handle offset count : ℕ) (before : State) where
  -- one that gives bytes isn't refused
  outcome-passes : (n : ℕ) (why : Option Refusal) → answer.Bytes n ≡ answer_of (outcome moment (to_sparse_read handle offset count) before why).reply → why ≡ None
  unfolding outcome
  outcome-passes n None is = refl
  outcome-passes n (Some why) is = absurd (no is) where
    no : answer.Bytes n ≡ answer.Refused why → ⊥
    no e = cc

  passes : (n : ℕ) → answer.Bytes n ≡ answer_of (step before moment (to_sparse_read handle offset count)).reply → refused moment (to_sparse_read handle offset count) before ≡ None
  unfolding step
  passes n is = outcome-passes n (refused moment (to_sparse_read handle offset count) before) is

  step-outcome : refused moment (to_sparse_read handle offset count) before ≡ None → step before moment (to_sparse_read handle offset count) ≡ outcome moment (to_sparse_read handle offset count) before None
  unfolding step
  step-outcome e = ap (λ (o : Option Refusal). outcome moment (to_sparse_read handle offset count) before o) e

  -- it would pass again
  same-refusal : refused moment (to_sparse_read handle offset count) (outcome moment (to_sparse_read handle offset count) before None).state ≡ refused moment (to_sparse_read handle offset count) before
  unfolding outcome effect evicted without sparse_used refusals
  same-refusal = refl

  -- it gives as many bytes as there are
  outcome-number : (n : ℕ) → answer.Bytes n ≡ answer_of (outcome moment (to_sparse_read handle offset count) before None).reply → n ≡ length (sparse_bytes (object_of (outcome moment (to_sparse_read handle offset count) before None).state handle) offset count)
  unfolding outcome reply evicted effect without sparse_used
  outcome-number n is = same is where
    same : {m : ℕ} → answer.Bytes n ≡ answer.Bytes m → n ≡ m
    same e = cc

  module _ (n : ℕ) (state : State) (is : answer.Bytes n ≡ answer_of (step before moment (to_sparse_read handle offset count)).reply) (now : state ≡ (step before moment (to_sparse_read handle offset count)).state) where
    pub passes-again : refused moment (to_sparse_read handle offset count) state ≡ None
    passes-again =
        let e = passes n is in
        ap (refused moment (to_sparse_read handle offset count)) (now ∙ ap (λ (o : Outcome). o.state) (step-outcome e)) ∙ same-refusal ∙ e

    pub number-there : n ≡ length (sparse_bytes (object_of state handle) offset count)
    number-there =
        let e = step-outcome (passes n is) in
        outcome-number n (is ∙ ap (λ (o : Outcome). answer_of o.reply) e) ∙ ap (λ (s : State). length (sparse_bytes (object_of s handle) offset count)) (sym (now ∙ ap (λ (o : Outcome). o.state) e))

-- ---- what passes

-- none of five
pub record NoneOfFive (a b c d e : Bool) : Type 0 where
  pub first : a ≡ false
  pub second : b ≡ false
  pub third : c ≡ false
  pub fourth : d ≡ false
  pub fifth : e ≡ false

none-of-five : (a b c d e : Bool) (p q r s t : Refusal) → first_refusal ((a, p) ∷ (b, q) ∷ (c, r) ∷ (d, s) ∷ (e, t) ∷ []) ≡ None → NoneOfFive a b c d e
none-of-five true b c d e p q r s t is = cc
none-of-five false true c d e p q r s t is = cc
none-of-five false false true d e p q r s t is = cc
none-of-five false false false true e p q r s t is = cc
none-of-five false false false false true p q r s t is = cc
none-of-five false false false false false p q r s t is = record { first = refl; second = refl; third = refl; fourth = refl; fifth = refl }

module _ (state : State) (moment handle offset count : ℕ) where
  sparse-passes : refused moment (to_sparse_read handle offset count) state ≡ None → NoneOfFive (names_none state handle) (nat_lt 1048576 count) (past_end offset count) (is_doomed state handle) (is_plain state handle)
  unfolding refusals
  sparse-passes e = none-of-five (names_none state handle) (nat_lt 1048576 count) (past_end offset count) (is_doomed state handle) (is_plain state handle) refusal.BadHandle refusal.TooLarge refusal.RangeEnd refusal.Doomed refusal.NotSparse e

pub not-false : (t : Bool) → not t ≡ false → t ≡ true
not-false true e = refl
not-false false e = cc

module _ (cache : Cache) (told : Told) (handle offset count number : ℕ) where
  module _ (state : State) (image : Image) (k : HoldsState cache state image) (after : IsStateAfter (to_sparse_read handle offset count) (answer.Bytes number) state) where
    pub free : NoneOfFive (names_none state handle) (nat_lt 1048576 count) (past_end offset count) (is_doomed state handle) (is_plain state handle)
    free = sparse-passes state after.moment handle offset count (passes-again after.moment handle offset count after.before number state after.given_is after.state_is)

    abbrev pub one : NamesOne state handle
    one = named-one state handle k.kept.entries.valid free.first

    pub its-object : object_of state handle ≡ one.object
    its-object = named-object state handle one.number one.object one.names

    pub so-many : number ≡ length (sparse_bytes one.object offset count)
    so-many = number-there after.moment handle offset count after.before number state after.given_is after.state_is ∙ ap (λ (o : Object). length (sparse_bytes o offset count)) its-object

    pub again : sparse_bytes one.object offset number ≡ sparse_bytes one.object offset count
    again = bytes-again one.object offset number count so-many

    pub few-asked : count ≤ 1048576
    few-asked = let e : nat_lt 1048576 count ≡ false = free.second in grind (arith, nat_tests)

    pub inside-asked : offset + count ≤ 68719476736
    inside-asked = let e : nat_lt 68719476736 (offset + count) ≡ false = free.third in grind (arith, nat_tests)

    pub fewer : number ≤ count
    fewer = let most = bytes-few one.object offset count in omega (arith, so-many, most)

    abbrev pub present : NamesPresent state handle offset number
    present = record {
      n = one.number;
      object = one.object;
      names = one.names;
      live = not-false one.object.live (sym (ap (λ (o : Object). not o.live) its-object) ∙ free.fourth);
      has_parts = not-false (is_sparse one.object.shape) (sym (ap (λ (o : Object). not (is_sparse o.shape)) its-object) ∙ free.fifth);
      all = ap (λ (l : List ℕ). length l) again ∙ sym so-many;
      few = omega (arith, fewer, few-asked);
      inside = omega (arith, fewer, inside-asked);
    }

    same-text : reply_text (gave (sparse_bytes one.object offset number)) ≡ reply_text (gave (sparse_bytes (object_of state handle) offset count))
    same-text = ap (λ (l : List ℕ). reply_text (gave l)) (again ∙ ap (λ (o : Object). sparse_bytes o offset count) (sym its-object))

    pub to-present : KeepsPresent cache handle offset number image
    to-present = record { state = state; kept = k; present = present }

  -- so the bytes of its line are there
  pub present-bytes : (P : List ℕ → Type 0) → ForPresent cache told handle offset number P → ForBytes cache told (to_sparse_read handle offset count) number P
  present-bytes P reads image here state k after = subst P (same-text state image k after) (reads image here state k (present state image k after))
