-- A SparseRead and a SparseRange of a cache that keeps a state.
use Rattle.std.proofs.Common.{◌≡◌, ℕ, Bool, true, false, List, [], ◌∷◌, Option, Some, None, refl, sym, ap, subst, ◌∙◌}
use Rattle.std.specs.Prelude.{if◌then◌else◌, nat_lt, not}
use Rattle.std.specs.Int.{cast_unsigned, w64}
use Rattle.std.specs.Option.{ForSome}
use Rattle.spec_image.specs.Image.{Image}
use Rattle.spec_image.specs.Told.{Passes, Told}
use Rattle.spec_image.proofs.Runs.{passes_stayed, passes_weaker}
use Rattle.blk_model.specs.Effects.{object_of, used_all}
use Rattle.blk_model.specs.Items.{Item, is_sparse, main}
use Rattle.blk_model.specs.ListSteps.{uses_of}
use Rattle.blk_model.specs.Refusals.{first_refusal, is_doomed, is_plain, names_none, past_end, refusals, refused}
use Rattle.blk_model.specs.Reply.{answer_of, answered}
use Rattle.blk_model.specs.Sparse.{present_run}
use Rattle.blk_model.specs.State.{Object, State}
use Rattle.blk_model.specs.Step.{reply, step}
use Rattle.blk_model.specs.declared.Answer.TheVariants as answer
use Rattle.blk_model.specs.declared.Refusal.{Refusal}
use Rattle.blk_model.specs.declared.Refusal.TheVariants as refusal
use Rattle.blk_disk.specs.Open.{IsOpen}
use Rattle.law_state.specs.Commands.{Does, MayStop, MayStopAtEach}
use Rattle.law_state.specs.CommandStates.{in_order}
use Rattle.law_state.specs.CommandEnds.{OnlyUses}
use Rattle.law_state.proofs.CommandEnding.{only-uses-left, passed, uses-end}
use Rattle.law_state.proofs.Orders.{left-stops}
use Rattle.law_state.proofs.Stopping.{refusals-done}
use Rattle.blk_sparse.specs.SparseObjects.{FindsUsed, ForEachKeptParent, KeepsParent, KeepsParentUsed, parts_used}
use Rattle.blk_sparse.specs.declared.children.Parent.{Parent}
use Rattle.blk_sparse.proofs.PrefixRuns.{front-bytes}
use Rattle.spec_run.proofs.StepFacts.{true_false}
use Rattle.blk_cache.specs.declared.cache.Cache.{Cache}
use Rattle.blk_cache.specs.declared.sparse_asking.PlainObject.{PlainObject}
use Rattle.blk_cache.specs.declared.sparse_reading.Wanted.{Wanted}
use Rattle.blk_cache.specs.declared.sparse_reading.Wanted.TheVariants as wanted
use Rattle.blk_cache.specs.CacheKeeping.{HoldsState}
use Rattle.blk_cache.specs.CommandClauses.{IsRefused, SparesRefused}
use Rattle.blk_cache.specs.Listing.{OnlyRoomChanges}
use Rattle.blk_cache.specs.SparseAsking.{IsParentNamed, IsPlainNamed, sparse_refusal}
use Rattle.blk_cache.specs.SparseReading.{to_use_sparse, told_of_run}
use Rattle.blk_cache.proofs.ReadSteps.{keeps-in-order}
use Rattle.blk_cache.proofs.Replies.{kept-still}
use Rattle.blk_cache.proofs.Sizes.{named-object}
use Rattle.blk_cache.proofs.Sparing.{passed-spares}

-- ---- the two requests are alike

module _ (state : State) (moment handle offset count : ℕ) where
  use-refused : (w : Wanted) → refused moment (to_use_sparse w handle offset count) state
      ≡ first_refusal ((names_none state handle, refusal.BadHandle) ∷ (nat_lt 1048576 count, refusal.TooLarge) ∷ (past_end offset count, refusal.RangeEnd) ∷ (is_doomed state handle, refusal.Doomed) ∷ (is_plain state handle, refusal.NotSparse) ∷ [])
  unfolding refusals
  use-refused wanted.Bytes = refl
  use-refused wanted.Run = refl

  use-items : (w : Wanted) → uses_of (to_use_sparse w handle offset count) state ≡ main (object_of state handle).key ∷ parts_used (object_of state handle) offset count
  unfolding uses_of
  use-items wanted.Bytes = refl
  use-items wanted.Run = refl

  use-only : (w : Wanted) → OnlyUses (to_use_sparse w handle offset count)
  use-only wanted.Bytes = tt
  use-only wanted.Run = tt

  use-answer : (w : Wanted) → refused moment (to_use_sparse w handle offset count) state ≡ None → told_of_run w offset (present_run (object_of state handle) offset count) ≡ answer_of (step state moment (to_use_sparse w handle offset count)).reply
  unfolding reply
  use-answer wanted.Bytes goes =
      ap answer.Bytes (front-bytes (object_of state handle) offset count) ∙ sym (ap answer_of (passed state moment (to_use_sparse wanted.Bytes handle offset count) goes).1)
  use-answer wanted.Run goes = sym (ap answer_of (passed state moment (to_use_sparse wanted.Run handle offset count) goes).1)

  -- four refusals and a fifth
  abbrev by-four : Option Refusal → Bool → Refusal → Option Refusal
  by-four None e t = if e then Some t else None
  by-four (Some why) e t = Some why

  five : (a b c d e : Bool) (p q r s t : Refusal) (why : Option Refusal) → first_refusal ((a, p) ∷ (b, q) ∷ (c, r) ∷ (d, s) ∷ []) ≡ why → first_refusal ((a, p) ∷ (b, q) ∷ (c, r) ∷ (d, s) ∷ (e, t) ∷ []) ≡ by-four why e t
  five true b c d e p q r s t why is = ap (λ (o : Option Refusal). by-four o e t) is
  five false true c d e p q r s t why is = ap (λ (o : Option Refusal). by-four o e t) is
  five false false true d e p q r s t why is = ap (λ (o : Option Refusal). by-four o e t) is
  five false false false true e p q r s t why is = ap (λ (o : Option Refusal). by-four o e t) is
  five false false false false e p q r s t why is = ap (λ (o : Option Refusal). by-four o e t) is

  pub four-refuse : (w : Wanted) (why : Refusal) → sparse_refusal state handle offset count ≡ Some why → refused moment (to_use_sparse w handle offset count) state ≡ Some why
  four-refuse w why is = use-refused w ∙ five (names_none state handle) (nat_lt 1048576 count) (past_end offset count) (is_doomed state handle) (is_plain state handle) refusal.BadHandle refusal.TooLarge refusal.RangeEnd refusal.Doomed refusal.NotSparse (Some why) is

  -- of a plain object
  pub plain-refused : (w : Wanted) (layout : _) (found : PlainObject) → IsPlainNamed state layout handle offset count found → refused moment (to_use_sparse w handle offset count) state ≡ Some refusal.NotSparse
  plain-refused w layout found p =
      let bare : is_plain state handle ≡ true = ap (λ (o : Object). not (is_sparse o.shape)) (named-object state handle p.its.number p.its.object p.its.names) ∙ ap (λ (s : _). not (is_sparse s)) p.is_plain in
      use-refused w ∙ five (names_none state handle) (nat_lt 1048576 count) (past_end offset count) (is_doomed state handle) (is_plain state handle) refusal.BadHandle refusal.TooLarge refusal.RangeEnd refusal.Doomed refusal.NotSparse None p.passes
      ∙ ap (λ (t : Bool). if t then Some refusal.NotSparse else None) bare

  -- of a sparse one
  pub parent-passes : (w : Wanted) (layout : _) (parent : Parent) → IsParentNamed state layout handle offset count parent → refused moment (to_use_sparse w handle offset count) state ≡ None
  parent-passes w layout parent p =
      let full : is_plain state handle ≡ false = ap (λ (o : Object). not (is_sparse o.shape)) (named-object state handle p.its.number p.its.object p.its.names) ∙ ap (λ (s : _). not (is_sparse s)) p.is_sparse in
      use-refused w ∙ five (names_none state handle) (nat_lt 1048576 count) (past_end offset count) (is_doomed state handle) (is_plain state handle) refusal.BadHandle refusal.TooLarge refusal.RangeEnd refusal.Doomed refusal.NotSparse None p.passes
      ∙ ap (λ (t : Bool). if t then Some refusal.NotSparse else None) full

-- the answer about a run is no refusal
pub run-told : (w : Wanted) (offset : ℕ) (run : ℕ × ℕ) → IsRefused (told_of_run w offset run) → ⊥
run-told wanted.Bytes offset run r = true_false r refl
run-told wanted.Run offset run r = true_false r refl

pub sparse-refuses : (cache : Cache) (old now : Told) → now ≡ old → (moment handle offset count : ℕ) (w : Wanted) (why : Refusal) → ForSome old.files (λ image. (state : State) → HoldsState cache state image → refused moment (to_use_sparse w handle offset count) state ≡ Some why)
    → Does (HoldsState cache) (HoldsState cache) old now moment (to_use_sparse w handle offset count) (answer.Refused why)
sparse-refuses cache old now stays moment handle offset count w why refuses =
    refusals-done (HoldsState cache) old now moment (to_use_sparse w handle offset count) why stays refuses

-- ---- the accesses

module _ (cache : Cache) (old mid now : Told) (stays : mid ≡ old) (moment handle offset count : ℕ) (w : Wanted) (parent : Parent) (has : ForSome old.files (λ image. (state : State) (k : HoldsState cache state image) → IsParentNamed state k.layout handle offset count parent)) where
  module _ (image : Image) (here : old.files ≡ Some image) (state : State) (k : HoldsState cache state image) where
    abbrev s : IsParentNamed state k.layout handle offset count parent
    s = has image here state k

    mid-here : mid.files ≡ Some image
    mid-here = ap (λ (t : Told). t.files) stays ∙ here

    -- the object as the calls below know it
    pub keeps-parent : KeepsParent state k.layout [] s.its.number s.its.object parent.node parent.entry (cast_unsigned w64 parent.signature) image
    keeps-parent = record { kept = k.kept.entries; here = s.its.names.here; live = s.its.live; node_is = s.its.node_is; was = s.its.was; lies = s.its.lies; record_is = s.its.record_is; index = s.index; role = s.role; same = s.same }

    its-object : object_of state handle ≡ s.its.object
    its-object = named-object state handle s.its.number s.its.object s.its.names

    goes-on : refused moment (to_use_sparse w handle offset count) state ≡ None
    goes-on = parent-passes state moment handle offset count w k.layout parent s

    items-are : uses_of (to_use_sparse w handle offset count) state ≡ main s.its.object.key ∷ parts_used s.its.object offset count
    items-are = use-items state moment handle offset count w ∙ ap (λ (o : Object). main o.key ∷ parts_used o offset count) its-object

    -- at each word
    may-stop : (i : Image) → FindsUsed state (main s.its.object.key ∷ parts_used s.its.object offset count) i → MayStop state moment (to_use_sparse w handle offset count) i
    may-stop i f =
        left-stops state moment (to_use_sparse w handle offset count) _ i
        (only-uses-left state moment (to_use_sparse w handle offset count) f.first f.others k.kept.entries.valid (use-only state moment handle offset count w) goes-on (items-are ∙ f.split)) f.finds

    -- in the end
    ends-kept : (new : Cache) → OnlyRoomChanges cache new → (i : Image) → IsOpen cache.files i → KeepsParentUsed state k.layout [] s.its.number s.its.object parent.node parent.entry (cast_unsigned w64 parent.signature) (main s.its.object.key ∷ parts_used s.its.object offset count) image i → HoldsState new (step state moment (to_use_sparse w handle offset count)).state i
    ends-kept new others i opened u =
        subst (λ (m : State). HoldsState new m i) (sym (uses-end state moment (to_use_sparse w handle offset count) (use-only state moment handle offset count w) goes-on))
        (subst (λ (items : List Item). HoldsState new (in_order (used_all items state.uses) state) i) (sym items-are)
        (kept-still cache new (in_order (used_all (main s.its.object.key ∷ parts_used s.its.object offset count) state.uses) state) i others
        (keeps-in-order cache state image i k (used_all (main s.its.object.key ∷ parts_used s.its.object offset count) state.uses) (record { entries = u.parent.kept; counters = u.counted k.kept.counters }) opened.agrees u.session.id)))

  -- it isn't refused
  pub sparse-spares : SparesRefused (HoldsState cache) old now moment (to_use_sparse w handle offset count)
  sparse-spares = passed-spares (HoldsState cache) old now moment (to_use_sparse w handle offset count) (λ image here state k. goes-on image here state k)

  pub sparse-stops : ForSome mid.files (λ from. ForEachKeptParent parent.node parent.entry (cast_unsigned w64 parent.signature) from (λ state layout unlinked number object. Passes mid now (FindsUsed state (main object.key ∷ parts_used object offset count)))) → MayStopAtEach (HoldsState cache) old now moment (to_use_sparse w handle offset count)
  sparse-stops stops image here state k =
      let run : Passes mid now (FindsUsed state (main (s image here state k).its.object.key ∷ parts_used (s image here state k).its.object offset count)) = stops image (mid-here image here state k) state k.layout [] (s image here state k).its.number (s image here state k).its.object (keeps-parent image here state k) in
      passes_weaker (passes_stayed stays run) (may-stop image here state k) (may-stop image here state k)

  pub sparse-does : (new : Cache) → OnlyRoomChanges cache new → ForSome now.files (IsOpen cache.files) → (run : ℕ × ℕ)
      → ForSome mid.files (λ from. ForEachKeptParent parent.node parent.entry (cast_unsigned w64 parent.signature) from (λ state layout unlinked number object. (run.0, run.1) ≡ present_run object offset count))
      → ForSome mid.files (λ from. ForEachKeptParent parent.node parent.entry (cast_unsigned w64 parent.signature) from (λ state layout unlinked number object. ForSome now.files (KeepsParentUsed state layout unlinked number object parent.node parent.entry (cast_unsigned w64 parent.signature) (main object.key ∷ parts_used object offset count) from)))
      → Does (HoldsState cache) (HoldsState new) old now moment (to_use_sparse w handle offset count) (told_of_run w offset (run.0, run.1))
  sparse-does new others opened run runs used image here state k =
      let p = keeps-parent image here state k in
      record {
        answered = ap (told_of_run w offset) (runs image (mid-here image here state k) state k.layout [] (s image here state k).its.number (s image here state k).its.object p ∙ ap (λ (o : Object). present_run o offset count) (sym (its-object image here state k)))
            ∙ use-answer state moment handle offset count w (goes-on image here state k);
        kept = λ i there. ends-kept image here state k new others i (opened i there) (used image (mid-here image here state k) state k.layout [] (s image here state k).its.number (s image here state k).its.object p i there);
      }

  pub sparse-parent : (image : Image) → mid.files ≡ Some image → (state : State) (k : HoldsState cache state image) → (number : ℕ) × ((object : Object) × KeepsParent state k.layout [] number object parent.node parent.entry (cast_unsigned w64 parent.signature) image)
  sparse-parent image at state k =
      let here : old.files ≡ Some image = ap (λ (t : Told). t.files) (sym stays) ∙ at in
      ((s image here state k).its.number, ((s image here state k).its.object, keeps-parent image here state k))
