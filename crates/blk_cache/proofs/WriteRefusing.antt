-- Why a Write of a cache that keeps a state is refused.
use Rattle.std.proofs.Common.{◌≡◌, ℕ, ◌+◌, Bool, true, false, List, [], ◌∷◌, length, Some, None, refl, ap₂, ◌∙◌}
use Rattle.std.specs.Prelude.{if◌then◌else◌, nat_lt}
use Rattle.spec_image.specs.Image.{Image}
use Rattle.blk_model.specs.Refusals.{first_refusal, is_kept_from_streams, names_none, no_room, no_stream, refusals, refused, stream_limit}
use Rattle.blk_model.specs.Request.{to_write}
use Rattle.blk_model.specs.Sizes.{longest_stream}
use Rattle.blk_model.specs.State.{Bounds, State}
use Rattle.blk_model.specs.declared.Refusal.{Refusal}
use Rattle.blk_model.specs.declared.Refusal.TheVariants as refusal
use Rattle.blk_cache.specs.declared.asking.Asked.{Asked}
use Rattle.blk_cache.specs.declared.asking.Asked.TheVariants as asked
use Rattle.blk_cache.specs.declared.cache.Cache.{Cache}
use Rattle.blk_cache.specs.Asking.{IsAsked, stream_refusal}
use Rattle.blk_cache.specs.CacheKeeping.{HoldsState}
use Rattle.blk_cache.specs.Writing.{IsAskedToWrite, early_write_refusal}
use Rattle.blk_cache.proofs.Asks.{none-named}

-- ---- five refusals, of which three are early

some-early : (a b c d e : Bool) (p q r s t why : Refusal) → first_refusal ((a, p) ∷ (b, q) ∷ (c, r) ∷ []) ≡ Some why → first_refusal ((a, p) ∷ (b, q) ∷ (c, r) ∷ (d, s) ∷ (e, t) ∷ []) ≡ Some why
some-early true b c d e p q r s t why is = is
some-early false true c d e p q r s t why is = is
some-early false false true d e p q r s t why is = is
some-early false false false d e p q r s t why is = cc

-- where none of them is, the fourth is that of the stream
some-fourth : (a b c d e : Bool) (p q r s t why : Refusal) → first_refusal ((a, p) ∷ (b, q) ∷ (c, r) ∷ []) ≡ None → first_refusal ((a, p) ∷ (b, q) ∷ (d, s) ∷ []) ≡ Some why → first_refusal ((a, p) ∷ (b, q) ∷ (c, r) ∷ (d, s) ∷ (e, t) ∷ []) ≡ Some why
some-fourth true b c d e p q r s t why early is = cc
some-fourth false true c d e p q r s t why early is = cc
some-fourth false false true d e p q r s t why early is = cc
some-fourth false false false d e p q r s t why early is = by d is where
  by : (d : Bool) → first_refusal ((d, s) ∷ []) ≡ Some why → first_refusal ((d, s) ∷ (e, t) ∷ []) ≡ Some why
  by true h = h
  by false h = cc

-- and where the stream isn't refused, the fifth is left
only-fifth : (a b c d e : Bool) (p q r s t : Refusal) → first_refusal ((a, p) ∷ (b, q) ∷ (c, r) ∷ []) ≡ None → first_refusal ((a, p) ∷ (b, q) ∷ (d, s) ∷ []) ≡ None → first_refusal ((a, p) ∷ (b, q) ∷ (c, r) ∷ (d, s) ∷ (e, t) ∷ []) ≡ (if e then Some t else None)
only-fifth true b c d e p q r s t early is = cc
only-fifth false true c d e p q r s t early is = cc
only-fifth false false true d e p q r s t early is = cc
only-fifth false false false true e p q r s t early is = cc
only-fifth false false false false e p q r s t early is = refl

module _ (cache : Cache) (state : State) (image : Image) (k : HoldsState cache state image) (moment handle stream offset : ℕ) (cut : Bool) (bytes : List ℕ) where
  -- the early ones of the cache are those of the state
  early-same : first_refusal ((names_none state handle, refusal.BadHandle) ∷ (no_stream stream, refusal.BadStream) ∷ (nat_lt (stream_limit state) (offset + length bytes), refusal.TooLarge) ∷ []) ≡ early_write_refusal cache handle stream offset (length bytes)
  early-same = ap₂ (λ (a : Bool) (l : Bounds). first_refusal ((a, refusal.BadHandle) ∷ (no_stream stream, refusal.BadStream) ∷ (nat_lt (longest_stream l.max_bytes) (offset + length bytes), refusal.TooLarge) ∷ [])) (none-named cache state image k handle stream) k.limits

  pub write-early : (why : Refusal) → early_write_refusal cache handle stream offset (length bytes) ≡ Some why → refused moment (to_write handle stream offset cut bytes) state ≡ Some why
  unfolding refusals
  write-early why is = some-early (names_none state handle) (no_stream stream) (nat_lt (stream_limit state) (offset + length bytes)) (is_kept_from_streams state handle stream) (no_room moment (to_write handle stream offset cut bytes) state)
      refusal.BadHandle refusal.BadStream refusal.TooLarge refusal.SparseStream refusal.Full why (early-same ∙ is)

  write-fourth : (why : Refusal) → early_write_refusal cache handle stream offset (length bytes) ≡ None → stream_refusal state handle stream ≡ Some why → refused moment (to_write handle stream offset cut bytes) state ≡ Some why
  unfolding refusals
  write-fourth why early is = some-fourth (names_none state handle) (no_stream stream) (nat_lt (stream_limit state) (offset + length bytes)) (is_kept_from_streams state handle stream) (no_room moment (to_write handle stream offset cut bytes) state)
      refusal.BadHandle refusal.BadStream refusal.TooLarge refusal.SparseStream refusal.Full why (early-same ∙ early) is

  write-fifth : early_write_refusal cache handle stream offset (length bytes) ≡ None → stream_refusal state handle stream ≡ None → refused moment (to_write handle stream offset cut bytes) state ≡ (if no_room moment (to_write handle stream offset cut bytes) state then Some refusal.Full else None)
  unfolding refusals
  write-fifth early is = only-fifth (names_none state handle) (no_stream stream) (nat_lt (stream_limit state) (offset + length bytes)) (is_kept_from_streams state handle stream) (no_room moment (to_write handle stream offset cut bytes) state)
      refusal.BadHandle refusal.BadStream refusal.TooLarge refusal.SparseStream refusal.Full (early-same ∙ early) is

  -- so what is asked of the stream gives it
  pub asked-to-write : early_write_refusal cache handle stream offset (length bytes) ≡ None → (given : Asked) → IsAsked state k.layout handle stream given → IsAskedToWrite state k.layout moment handle stream offset cut bytes given
  asked-to-write early (asked.Refused why) is = write-fourth why early is
  asked-to-write early (asked.Stream found) is = record { named = is; unless_full = write-fifth early is.passes }
