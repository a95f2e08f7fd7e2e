-- The space that a SparseWrite needs, and why it is refused.
use Rattle.std.proofs.Common.{◌≡◌, ℕ, ◌-◌, Bool, true, false, not, List, [], ◌∷◌, length, Option, Some, None, refl, sym, ap, ap₂, ◌∙◌, arith}
use Rattle.std.specs.Prelude.{◌==◌, ◌&&◌, if◌then◌else◌, nat_lt}
use Rattle.blk_model.specs.Effects.{effect, object_of}
use Rattle.blk_model.specs.Items.{Shape, is_sparse, plain}
use Rattle.blk_model.specs.Refusals.{covered, evicted, evicted_for, first_refusal, has_one_stream, is_doomed, is_full, is_plain, names_none, no_room, past_end, refusals, refused, room_for}
use Rattle.blk_model.specs.Request.{to_sparse_write}
use Rattle.blk_model.specs.Room.{items, room, total}
use Rattle.blk_model.specs.State.{Object, State}
use Rattle.blk_model.specs.declared.Refusal.{Refusal}
use Rattle.blk_model.specs.declared.Refusal.TheVariants as refusal
use Rattle.blk_model.proofs.Steps.{none_comes}
use Rattle.spec_folder.specs.Layout.{Layout}
use Rattle.law_state.specs.OneCallLaws.{Names}
use Rattle.blk_sparse.specs.declared.storing.Target.{Target}
use Rattle.blk_cache.specs.SparseAsking.{sparse_refusal}
use Rattle.blk_cache.specs.SparseTargets.{IsTargetNamed}
use Rattle.blk_cache.specs.SparseWriting.{IsRaisedBy}
use Rattle.blk_cache.proofs.Sizes.{named-object}

-- ---- six refusals, of which four are those of any range

some-fourth : (a b c d e f : Bool) (p q r s t u why : Refusal) → first_refusal ((a, p) ∷ (b, q) ∷ (c, r) ∷ (d, s) ∷ []) ≡ Some why → first_refusal ((a, p) ∷ (b, q) ∷ (c, r) ∷ (d, s) ∷ (e, t) ∷ (f, u) ∷ []) ≡ Some why
some-fourth true b c d e f p q r s t u why is = is
some-fourth false true c d e f p q r s t u why is = is
some-fourth false false true d e f p q r s t u why is = is
some-fourth false false false true e f p q r s t u why is = is
some-fourth false false false false e f p q r s t u why is = cc

-- where none of them is, the fifth decides
fifth : (a b c d e f : Bool) (p q r s t u : Refusal) → first_refusal ((a, p) ∷ (b, q) ∷ (c, r) ∷ (d, s) ∷ []) ≡ None → first_refusal ((a, p) ∷ (b, q) ∷ (c, r) ∷ (d, s) ∷ (e, t) ∷ (f, u) ∷ []) ≡ (if e then Some t else if f then Some u else None)
fifth true b c d e f p q r s t u is = cc
fifth false true c d e f p q r s t u is = cc
fifth false false true d e f p q r s t u is = cc
fifth false false false true e f p q r s t u is = cc
fifth false false false false e f p q r s t u is = refl

and-none : (b : Bool) → (b && false) ≡ false
and-none true = refl
and-none false = refl

module _ (state : State) (moment handle offset : ℕ) (bytes : List ℕ) where
  abbrev two : (e f : Bool) → Option Refusal
  two e f = if e then Some refusal.NotSparse else if f then Some refusal.Full else None

  pub early-is : (why : Refusal) → sparse_refusal state handle offset (length bytes) ≡ Some why → refused moment (to_sparse_write handle offset bytes) state ≡ Some why
  unfolding refusals
  early-is why is = some-fourth (names_none state handle) (nat_lt 1048576 (length bytes)) (past_end offset (length bytes)) (is_doomed state handle) (is_plain state handle && not (has_one_stream (object_of state handle))) (no_room moment (to_sparse_write handle offset bytes) state)
      refusal.BadHandle refusal.TooLarge refusal.RangeEnd refusal.Doomed refusal.NotSparse refusal.Full why is

  late-is : sparse_refusal state handle offset (length bytes) ≡ None → refused moment (to_sparse_write handle offset bytes) state ≡ two (is_plain state handle && not (has_one_stream (object_of state handle))) (no_room moment (to_sparse_write handle offset bytes) state)
  unfolding refusals
  late-is passes = fifth (names_none state handle) (nat_lt 1048576 (length bytes)) (past_end offset (length bytes)) (is_doomed state handle) (is_plain state handle && not (has_one_stream (object_of state handle))) (no_room moment (to_sparse_write handle offset bytes) state)
      refusal.BadHandle refusal.TooLarge refusal.RangeEnd refusal.Doomed refusal.NotSparse refusal.Full passes

  module _ (number : ℕ) (object : Object) (names : Names state handle number object) (passes : sparse_refusal state handle offset (length bytes) ≡ None) where
    fifth-is : (is_plain state handle && not (has_one_stream (object_of state handle))) ≡ (not (is_sparse object.shape) && not (has_one_stream object))
    fifth-is = ap (λ (o : Object). not (is_sparse o.shape) && not (has_one_stream o)) (named-object state handle number object names)

    -- a plain object with more than one stream
    pub many-streams : object.shape ≡ plain → has_one_stream object ≡ false → refused moment (to_sparse_write handle offset bytes) state ≡ Some refusal.NotSparse
    many-streams shape more = late-is passes ∙ ap (λ (e : Bool). two e (no_room moment (to_sparse_write handle offset bytes) state)) (fifth-is ∙ ap₂ (λ (s : Shape) (b : Bool). not (is_sparse s) && not b) shape more)

    -- one that may get sparse data
    unless-full : (not (is_sparse object.shape) && not (has_one_stream object)) ≡ false → refused moment (to_sparse_write handle offset bytes) state ≡ (if no_room moment (to_sparse_write handle offset bytes) state then Some refusal.Full else None)
    unless-full may = late-is passes ∙ ap (λ (e : Bool). two e (no_room moment (to_sparse_write handle offset bytes) state)) (fifth-is ∙ may)

  -- an object that is named so is refused for lack of space alone
  pub wants-room : (layout : Layout) (found : Target) → IsTargetNamed state layout moment handle offset (length bytes) found → refused moment (to_sparse_write handle offset bytes) state ≡ (if no_room moment (to_sparse_write handle offset bytes) state then Some refusal.Full else None)
  wants-room layout found t = unless-full t.its.number t.its.object t.its.names t.passes (by found.plain refl) where
    by : (b : Bool) → found.plain ≡ b → (not (is_sparse t.its.object.shape) && not (has_one_stream t.its.object)) ≡ false
    by true e =
        let p = t.may.of_plain e in
        let one : has_one_stream t.its.object ≡ true = ap₂ (λ (a b : List ℕ). length a == 0 && length b == 0) p.1.0 p.1.1 in
        ap (λ (b : Bool). not (is_sparse t.its.object.shape) && not b) one ∙ and-none (not (is_sparse t.its.object.shape))
    by false e = ap (λ (s : Shape). not (is_sparse s) && not (has_one_stream t.its.object)) (t.may.of_sparse e)

  -- ---- space

  evicts : evicted moment (to_sparse_write handle offset bytes) state ≡ evicted_for (room_for moment (to_sparse_write handle offset bytes) state)
  unfolding evicted
  evicts = refl

  room-found : refused moment (to_sparse_write handle offset bytes) state ≡ None → is_full (room_for moment (to_sparse_write handle offset bytes) state) ≡ false
  unfolding refusals
  room-found passes = let p = none_comes (refusals moment (to_sparse_write handle offset bytes) state) passes in p.1.1.1.1.1.0

  module _ (more_bytes more_items : ℕ) (raised : IsRaisedBy state moment handle offset bytes more_bytes more_items) where
    -- a SparseWrite needs space for what it adds, beside the parts in range
    pub room-is : room_for moment (to_sparse_write handle offset bytes) state ≡ room state (covered (to_sparse_write handle offset bytes) state) more_bytes more_items
    unfolding room_for
    room-is =
        let one = raised.total_more in
        let other = raised.items_more in
        ap₂ (λ (b m : ℕ). room state (covered (to_sparse_write handle offset bytes) state) b m)
        (let e : total (effect moment (to_sparse_write handle offset bytes) state) - total state ≡ more_bytes = omega (arith, one) in e)
        (let e : items (effect moment (to_sparse_write handle offset bytes) state) - items state ≡ more_items = omega (arith, other) in e)

    -- and evicts what is needed for that
    pub groups-are : evicted moment (to_sparse_write handle offset bytes) state ≡ evicted_for (room state (covered (to_sparse_write handle offset bytes) state) more_bytes more_items)
    groups-are = evicts ∙ ap evicted_for room-is

    module _ (layout : Layout) (found : Target) (t : IsTargetNamed state layout moment handle offset (length bytes) found) where
      by-room : refused moment (to_sparse_write handle offset bytes) state ≡ (if is_full (room state (covered (to_sparse_write handle offset bytes) state) more_bytes more_items) then Some refusal.Full else None)
      by-room = wants-room layout found t ∙ ap (λ (b : Bool). if b then Some refusal.Full else None) (ap is_full room-is)

      pub refused-full : is_full (room state (covered (to_sparse_write handle offset bytes) state) more_bytes more_items) ≡ true → refused moment (to_sparse_write handle offset bytes) state ≡ Some refusal.Full
      refused-full over = by-room ∙ ap (λ (b : Bool). if b then Some refusal.Full else None) over

      pub not-refused : is_full (room state (covered (to_sparse_write handle offset bytes) state) more_bytes more_items) ≡ false → refused moment (to_sparse_write handle offset bytes) state ≡ None
      not-refused free = by-room ∙ ap (λ (b : Bool). if b then Some refusal.Full else None) free

    -- where it isn't refused there is space
    pub has-room : refused moment (to_sparse_write handle offset bytes) state ≡ None → is_full (room state (covered (to_sparse_write handle offset bytes) state) more_bytes more_items) ≡ false
    has-room passes = sym (ap is_full room-is) ∙ room-found passes
