-- The space that a Write needs, and has once all that it evicts is out.
use Rattle.std.proofs.Common.{◌≡◌, ℕ, zero, suc, ◌+◌, ◌-◌, ◌≤◌, ◌<◌, Bool, true, false, ◌&&◌, cond, List, [], ◌++◌, length, set, Option, Some, None, refl, sym, ap, ap₂, subst, ◌∙◌, arith}
use Rattle.std.specs.List.{AllByRecursion}
use Rattle.std.specs.Prelude.{◌==◌, max, nat_lt, replicate, drop, take, unwrap_or, sum_by}
use Rattle.std.proofs.lemmas.Bool.Decides.{nat_tests}
use Rattle.std.proofs.lemmas.List.{length-append, length-drop, length-take, length-replicate}
use Rattle.blk_model.specs.Bytes.{overwritten, overwritten_and_cut}
use Rattle.blk_model.specs.Charge.{main_charge}
use Rattle.blk_model.specs.Effects.{effect, number_of, stream_after, stream_in, stream_of, streams_with, used, used_main, with_slot, written}
use Rattle.blk_model.specs.Items.{Shape, is_sparse, main, plain, sparse}
use Rattle.blk_model.specs.Refusals.{names_none, evicted, evicted_for, is_full, is_kept_from_streams, refusals, refused, room_for}
use Rattle.blk_model.specs.Request.{to_write}
use Rattle.blk_model.specs.Room.{Group, charge, is_pinned, item_count, items, of_slot, own_charge, room, total, without}
use Rattle.blk_model.specs.State.{Bounds, IsValidState, Object, State}
use Rattle.blk_model.proofs.Evicted.{IsLoose}
use Rattle.blk_model.proofs.States.{Named, named_object}
use Rattle.blk_model.proofs.Steps.{none_comes, room_for_is_loose}
use Rattle.blk_model.proofs.Written.{object_left}
use Rattle.blk_stream.specs.Writing.{size_after}
use Rattle.law_state.specs.CommandEnds.{after_write}
use Rattle.law_state.specs.CommandStates.{amidst, with_room}
use Rattle.law_state.specs.OneCallLaws.{Names}
use Rattle.blk_cache.specs.WritingLaws.{WritesWantRoomForTheRise}
use Rattle.blk_cache.proofs.ChangedObjects.{sum-changed}
use Rattle.blk_cache.proofs.CreateRoom.{HasEnough, limits-without, room-enough}
use Rattle.blk_cache.proofs.Sizes.{named-object}

-- ---- lengths

-- n zeros
abbrev zeros : ℕ → List ℕ
zeros n = replicate n 0

long-front : (old : List ℕ) (place : ℕ) → length (take place old ++ zeros (place - length old)) ≡ place
long-front old place =
    let a = length-append (take place old) (zeros (place - length old)) in
    let b = length-take place old in
    let c : length (zeros (place - length old)) ≡ place - length old = length-replicate (place - length old) 0 in
    omega (arith, a, b, c)

-- a cut stream ends with the bytes
pub long-cut : (old new : List ℕ) (place : ℕ) → length (overwritten_and_cut old place new) ≡ place + length new
long-cut old new place =
    let a = length-append (take place old ++ zeros (place - length old)) new in
    let b = long-front old place in
    omega (arith, a, b)

-- another one keeps what comes after them
pub long-over : (old new : List ℕ) (place : ℕ) → length (overwritten old place new) ≡ max (length old) (place + length new)
long-over old new place =
    let a = length-append (take place old ++ zeros (place - length old) ++ new) (drop (place + length new) old) in
    let b = long-cut old new place in
    let c = length-drop (place + length new) old in
    omega (arith, a, b, c)

-- ---- costs

-- how the cost of an object changes with one of its streams
own-changed : (o : Object) (shape : Shape) (stream : ℕ) (bytes : List ℕ) → o.shape ≡ shape → (is_sparse shape && nat_lt 0 stream) ≡ false → own_charge (record o { streams = streams_with o.streams stream bytes; settled = false }) + length (stream_in o.streams stream) ≡ own_charge o + length bytes
own-changed o plain zero bytes is apart = let e : main_charge o.key o.shape (streams_with o.streams zero bytes) ≡ main_charge o.key plain (streams_with o.streams zero bytes) = ap (λ (s : Shape). main_charge o.key s (streams_with o.streams zero bytes)) is in let f : own_charge o ≡ main_charge o.key plain o.streams = ap (λ (s : Shape). main_charge o.key s o.streams) is in omega (arith, e, f)
own-changed o plain (suc zero) bytes is apart = let e : main_charge o.key o.shape (streams_with o.streams 1 bytes) ≡ main_charge o.key plain (streams_with o.streams 1 bytes) = ap (λ (s : Shape). main_charge o.key s (streams_with o.streams 1 bytes)) is in let f : own_charge o ≡ main_charge o.key plain o.streams = ap (λ (s : Shape). main_charge o.key s o.streams) is in omega (arith, e, f)
own-changed o plain (suc (suc n)) bytes is apart =
    let e : main_charge o.key o.shape (streams_with o.streams (suc (suc n)) bytes) ≡ main_charge o.key plain (streams_with o.streams (suc (suc n)) bytes) = ap (λ (s : Shape). main_charge o.key s (streams_with o.streams (suc (suc n)) bytes)) is in
    let f : own_charge o ≡ main_charge o.key plain o.streams = ap (λ (s : Shape). main_charge o.key s o.streams) is in omega (arith, e, f)
own-changed o (sparse signature) zero bytes is apart = let e : main_charge o.key o.shape (streams_with o.streams zero bytes) ≡ main_charge o.key (sparse signature) (streams_with o.streams zero bytes) = ap (λ (s : Shape). main_charge o.key s (streams_with o.streams zero bytes)) is in let f : own_charge o ≡ main_charge o.key (sparse signature) o.streams = ap (λ (s : Shape). main_charge o.key s o.streams) is in omega (arith, e, f)
own-changed o (sparse signature) (suc n) bytes is apart = absurd (let some : nat_lt 0 (suc n) ≡ true = grind (arith, nat_tests) in let c : true ≡ false = sym some ∙ apart in cc)

module _ (o : Object) (stream offset : ℕ) (cut : Bool) (bytes : List ℕ) (apart : (is_sparse o.shape && nat_lt 0 stream) ≡ false) where
  -- as a main item
  pub own-risen : own_charge (after_write o stream offset cut bytes) + length (stream_of o stream) ≡ own_charge o + length (stream_after cut (stream_of o stream) offset bytes)
  own-risen = own-changed o o.shape stream (stream_after cut (stream_of o stream) offset bytes) refl apart

  -- and with its parts
  pub charge-risen : charge (after_write o stream offset cut bytes) + length (stream_of o stream) ≡ charge o + length (stream_after cut (stream_of o stream) offset bytes)
  unfolding charge
  charge-risen = let e = own-risen in omega (arith, e)

-- ---- the state with the stream written

module _ (state : State) (handle stream offset : ℕ) (cut : Bool) (bytes : List ℕ) (number : ℕ) (object : Object) (names : Names state handle number object) where
  pub number-is : number_of state handle ≡ number
  number-is = ap (λ (o : Option ℕ). unwrap_or o (length state.objects)) names.names

  pub written-is : written handle stream offset cut bytes state ≡ used_main object (with_slot number (Some (after_write object stream offset cut bytes)) state)
  unfolding written
  written-is = ap₂ (λ (n : ℕ) (o : Object). used_main o (with_slot n (Some (after_write o stream offset cut bytes)) state)) number-is (named-object state handle number object names)

  pub written-live : object.live ≡ true → written handle stream offset cut bytes state ≡ amidst state number (after_write object stream offset cut bytes) (used (main object.key) state.uses)
  written-live live = written-is ∙ ap (λ (b : Bool). amidst state number (after_write object stream offset cut bytes) (cond b (used (main object.key) state.uses) state.uses)) live

  pub written-dead : object.live ≡ false → written handle stream offset cut bytes state ≡ with_slot number (Some (after_write object stream offset cut bytes)) state
  written-dead dead = written-is ∙ ap (λ (b : Bool). amidst state number (after_write object stream offset cut bytes) (cond b (used (main object.key) state.uses) state.uses)) dead

  pub written-objects : (written handle stream offset cut bytes state).objects ≡ set state.objects number (Some (after_write object stream offset cut bytes))
  written-objects = ap (λ (s : State). s.objects) written-is

  module _ (apart : (is_sparse object.shape && nat_lt 0 stream) ≡ false) where
    pub total-risen : total (written handle stream offset cut bytes state) + length (stream_of object stream) ≡ total state + length (stream_after cut (stream_of object stream) offset bytes)
    total-risen =
        let sum = sum-changed charge state.objects number object (after_write object stream offset cut bytes) names.here in
        let slots : total (written handle stream offset cut bytes state) ≡ sum_by (of_slot charge) (set state.objects number (Some (after_write object stream offset cut bytes))) = ap (sum_by (of_slot charge)) written-objects in
        let one = charge-risen object stream offset cut bytes apart in
        omega (arith, sum, slots, one)

  pub items-same : items (written handle stream offset cut bytes state) ≡ items state
  items-same =
      let sum : sum_by (of_slot item_count) (set state.objects number (Some (after_write object stream offset cut bytes))) + (1 + length object.parts) ≡ items state + (1 + length object.parts) = sum-changed item_count state.objects number object (after_write object stream offset cut bytes) names.here in
      let slots : items (written handle stream offset cut bytes state) ≡ sum_by (of_slot item_count) (set state.objects number (Some (after_write object stream offset cut bytes))) = ap (sum_by (of_slot item_count)) written-objects in
      omega (arith, sum, slots)

-- ---- space

its-stream : (state : State) (handle stream number : ℕ) (object : Object) → Names state handle number object → is_kept_from_streams state handle stream ≡ false → (is_sparse object.shape && nat_lt 0 stream) ≡ false
its-stream state handle stream number object names apart = ap (λ (o : Object). is_sparse o.shape && nat_lt 0 stream) (sym (named-object state handle number object names)) ∙ apart

pub wants-rise : WritesWantRoomForTheRise
unfolding room_for effect
wants-rise state moment handle stream offset cut bytes number object names apart =
    let sum = total-risen state handle stream offset cut bytes number object names (its-stream state handle stream number object names apart) in
    let count = items-same state handle stream offset cut bytes number object names in
    ap₂ (λ (b m : ℕ). room state [] b m)
    (let e : total (written handle stream offset cut bytes state) - total state ≡ length (stream_after cut (stream_of object stream) offset bytes) - length (stream_of object stream) = omega (arith, sum) in e)
    (let e : items (written handle stream offset cut bytes state) - items state ≡ 0 = omega (arith, count) in e)

-- ---- a Write that isn't refused

-- the length of a stream after a write
pub long-after : (cut : Bool) (old bytes : List ℕ) (offset : ℕ) → size_after cut (length old) offset (length bytes) ≡ length (stream_after cut old offset bytes)
unfolding size_after
long-after true old bytes offset = sym (long-cut old bytes offset)
long-after false old bytes offset = sym (long-over old bytes offset)

module _ (state : State) (moment handle stream offset : ℕ) (cut : Bool) (bytes : List ℕ) (valid : IsValidState state) (passes : refused moment (to_write handle stream offset cut bytes) state ≡ None) where
  abbrev base : State
  base = with_room state moment (to_write handle stream offset cut bytes)

  pub bound : names_none state handle ≡ false
  unfolding refusals
  bound = let p = none_comes (refusals moment (to_write handle stream offset cut bytes) state) passes in p.0

  pub kept-apart : is_kept_from_streams state handle stream ≡ false
  unfolding refusals
  kept-apart = let p = none_comes (refusals moment (to_write handle stream offset cut bytes) state) passes in p.1.1.1.0

  not-full : is_full (room_for moment (to_write handle stream offset cut bytes) state) ≡ false
  unfolding refusals
  not-full = let p = none_comes (refusals moment (to_write handle stream offset cut bytes) state) passes in p.1.1.1.1.0

  evicts : evicted moment (to_write handle stream offset cut bytes) state ≡ evicted_for (room_for moment (to_write handle stream offset cut bytes) state)
  unfolding evicted
  evicts = refl

  abbrev pub first : Named state handle
  first = named_object state valid handle bound

  pub first-names : Names state handle first.number first.object
  first-names = record { names = first.by_name; here = first.here }

  loose : AllByRecursion (IsLoose (is_pinned state [])) (evicted moment (to_write handle stream offset cut bytes) state)
  loose = subst (AllByRecursion (IsLoose (is_pinned state []))) (sym evicts) (room_for_is_loose moment (to_write handle stream offset cut bytes) state)

  module _ (number : ℕ) (object : Object) (names : Names base handle number object) where
    -- the object is as it was, but for parts of it
    left-is : object ≡ record first.object { parts = (object_left state valid [] (evicted moment (to_write handle stream offset cut bytes) state) loose handle bound).0 }
    left-is =
        let left = object_left state valid [] (evicted moment (to_write handle stream offset cut bytes) state) loose handle bound in
        let with_parts : Object → Object = λ o. record o { parts = left.0 } in
        sym (named-object base handle number object names) ∙ left.1 ∙ ap with_parts first.object_is

    pub ready-apart : (is_sparse object.shape && nat_lt 0 stream) ≡ false
    ready-apart = ap (λ (o : Object). is_sparse o.shape && nat_lt 0 stream) left-is ∙ its-stream state handle stream first.number first.object first-names kept-apart

    pub same-stream : stream_of object stream ≡ stream_of first.object stream
    same-stream = ap (λ (o : Object). stream_of o stream) left-is

    abbrev before : ℕ
    before = length (stream_of object stream)

    abbrev after : ℕ
    after = length (stream_after cut (stream_of object stream) offset bytes)

    wants : room_for moment (to_write handle stream offset cut bytes) state ≡ room state [] (after - before) 0
    wants = wants-rise state moment handle stream offset cut bytes first.number first.object first-names kept-apart
        ∙ ap (λ (old : List ℕ). room state [] (length (stream_after cut old offset bytes) - length old) 0) (sym same-stream)

    -- where the stream gets longer there is space for that
    pub ready-within : before < after → total (written handle stream offset cut bytes base) ≤ base.limits.max_bytes
    ready-within longer =
        let some : (after - before == 0) ≡ false = grind (arith, nat_tests, longer) in
        let none : (after - before == 0 && 0 == 0) ≡ false = ap (λ (b : Bool). b && true) some in
        let enough : HasEnough state valid [] (after - before) 0 (without (evicted_for (room state [] (after - before) 0)) state) = room-enough state valid [] (after - before) 0 none (sym (ap is_full wants) ∙ not-full) in
        let here : HasEnough state valid [] (after - before) 0 base = subst (λ (groups : List Group). HasEnough state valid [] (after - before) 0 (without groups state)) (sym (evicts ∙ ap evicted_for wants)) enough in
        let within = here.within in
        let limit : base.limits.max_bytes ≡ state.limits.max_bytes = ap (λ (l : Bounds). l.max_bytes) (limits-without state (evicted moment (to_write handle stream offset cut bytes) state)) in
        let sum = total-risen base handle stream offset cut bytes number object names ready-apart in
        omega (arith, within, limit, sum, longer)
