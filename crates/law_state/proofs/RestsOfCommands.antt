-- The rest of a command isn't refused, evicts the others, has the later steps and ends alike.
use Rattle.std.proofs.Common.{◌≡◌, ℕ, ◌+◌, ◌-◌, Bool, true, false, not, ◌&&◌, ◌||◌, cond, List, [], ◌∷◌, ◌++◌, Some, None, is_some, refl, ap, sym, ◌∙◌, subst, arith, set, length, map, ◌⊎◌, inl, inr, ⊎_elim}
use Rattle.std.specs.List.{list_any, sum_by, AllByRecursion}
use Rattle.std.specs.Option.{option_and_then, unwrap_or}
use Rattle.std.specs.Bool.{nat_le, nat_lt}
use Rattle.std.specs.Str.{bytes_eq}
use Rattle.std.specs.Prelude.{◌==◌}
use Rattle.std.proofs.lemmas.Bool.{cases_Bool, or_parts, or_left, or_right, and_parts, not-false}
use Rattle.blk_model.specs.declared.Refusal.{Refusal}
use Rattle.blk_model.specs.Sizes.{longest_stream}
use Rattle.blk_model.specs.Items.{Item, main, part, PartValue, same_item, signature_of, is_sparse, Shape}
use Rattle.blk_model.specs.Charge.{part_charge}
use Rattle.blk_model.specs.State.{Object, State, Bounds, IsValidState, IsObject, object_at, live_with}
use Rattle.blk_model.specs.Request.{Request, to_create, to_open, to_read, to_write, to_size, to_sparse_write, to_sparse_read, to_sparse_range, to_doom, to_doom_key, to_close, to_flush, to_list, to_trim, to_total}
use Rattle.blk_model.specs.Room.{Group, whole, single, after, room, is_out, is_pinned, left_of, of_slot, charge, own_charge, item_count, total, items, without}
use Rattle.blk_model.specs.Sparse.{covered_parts, parts_after}
use Rattle.blk_model.specs.Refusals.{refused, refusals, first_refusal, evicted, evicted_for, is_full, room_for, covered, names_none, has_one_stream}
use Rattle.blk_model.specs.Effects.{object_of, number_of, new_object, effect, created, written, sparse_written, sparse_after, made_sparse, with_stream, stream_after, stream_of}
use Rattle.blk_model.specs.Step.{step, outcome}
use Rattle.blk_model.specs.ListSteps.{ListStep, out, front, list_steps, steps_unless, dooms, uses_of}
use Rattle.blk_model.specs.EvictionLaws.{EvictsFirst}
use Rattle.blk_model.proofs.Same.{one_item, same_item_self, same_bytes}
use Rattle.blk_model.proofs.States.{named_object, none_of, if_some_is}
use Rattle.blk_model.proofs.Each.{any_has}
use Rattle.blk_model.proofs.Evicted.{IsLoose, kept_parts, map_at, named_left, named_stays, evicted_are_loose}
use Rattle.blk_model.proofs.EvictedFirst.{left_nobody, rests-of}
use Rattle.blk_model.proofs.Steps.{NoneComes, none_comes, room_for_is_loose}
use Rattle.law_state.specs.RestLaws.{EvictsTheRest, RestsAreNotRefused, RestsEvictTheOthersOrNone, TrimsGoOn, RestsHaveTheLaterSteps, RestsEndAlike, StopsInRestsAreInTheWhole}
use Rattle.law_state.proofs.CommandEnding.{groups-turn}
use Rattle.law_state.proofs.RestRoom.{others-go, room-left}
use Rattle.law_state.proofs.RestGrowth.{kept, GrowsAlike, set-grows, push-grows, count-grows, charge-grows}

prefix-loose : (stays : Item → Bool) (first others : List Group) → AllByRecursion (IsLoose stays) (first ++ others) → AllByRecursion (IsLoose stays) first
prefix-loose stays [] others all = tt
prefix-loose stays (group ∷ first) others all = (all.0, prefix-loose stays first others all.1)

-- a part that stays while its main item does isn't out
part-stays : (stays : Item → Bool) (groups : List Group) (key : List ℕ) (n : ℕ) → AllByRecursion (IsLoose stays) groups → is_out groups (main key) ≡ false → stays (part key n) ≡ true → is_out groups (part key n) ≡ false
part-stays stays [] key n all main_stays pinned = refl
part-stays stays (whole other parts ∷ groups) key n all main_stays pinned =
    let p = or_parts (bytes_eq other key) (is_out groups (main key)) main_stays in
    ap (λ b. b || is_out groups (part key n)) p.0 ∙ part-stays stays groups key n all.1 p.1 pinned
part-stays stays (single other m ∷ groups) key n all main_stays pinned =
    ⊎_elim
    (λ (e : same_item (part other m) (part key n) ≡ true).
    let c : stays (part key n) ≡ false = subst (λ (i : Item). stays i ≡ false) (one_item (part other m) (part key n) e) all.0 in
    absurd (let z : true ≡ false = sym pinned ∙ c in cc))
    (λ (e : same_item (part other m) (part key n) ≡ false). ap (λ b. b || is_out groups (part key n)) e ∙ part-stays stays groups key n all.1 main_stays pinned)
    (cases_Bool (same_item (part other m) (part key n)))

-- parts of a key alone are among the parts of it
of-key : (key other : List ℕ) (n : ℕ) (ns : List ℕ) → list_any (same_item (part other n)) (map (part key) ns) ≡ true → other ≡ key
of-key key other n [] h = cc
of-key key other n (m ∷ ns) h = ⊎_elim
    (λ (e : same_item (part other n) (part key m) ≡ true). same_bytes other key (and_parts (bytes_eq other key) (n == m) e).0)
    (λ (e : same_item (part other n) (part key m) ≡ false). of-key key other n ns (sym (ap (λ b. b || list_any (same_item (part other n)) (map (part key) ns)) e) ∙ h))
    (cases_Bool (same_item (part other n) (part key m)))

all-stay : (groups : List Group) (key : List ℕ) (ns : List ℕ) → ((n : ℕ) → list_any (same_item (part key n)) (map (part key) ns) ≡ true → is_out groups (part key n) ≡ false) → AllByRecursion (λ (n : ℕ). not (is_out groups (part key n)) ≡ true) ns
all-stay groups key [] stay = tt
all-stay groups key (n ∷ ns) stay = (
  ap not (stay n (or_left (same_item (part key n) (part key n)) (list_any (same_item (part key n)) (map (part key) ns)) (same_item_self (part key n)))),
  all-stay groups key ns (λ m h. stay m (or_right (same_item (part key m) (part key n)) (list_any (same_item (part key m)) (map (part key) ns)) h)),
)

all-pass : (cases : List (Bool × Refusal)) → NoneComes cases → first_refusal cases ≡ None
all-pass [] none = refl
all-pass (case ∷ cases) none = ap (λ b. cond b (Some case.1) (first_refusal cases)) none.0 ∙ all-pass cases none.1

swap-sums : (a b c d : ℕ) → (a + b) + (c + d) ≡ (a + d) + (c + b)
swap-sums a b c d = omega arith

same-sums : (a b c d e f : ℕ) → b + d ≡ e + f → (a + b) + (c + d) ≡ (a + e) + (c + f)
same-sums a b c d e f h = omega (arith, h)

turn-sum : (a b : ℕ) → a + b ≡ b + a
turn-sum a b = omega arith

same-rise : (a b c d : ℕ) → a + d ≡ c + b → a - b ≡ c - d
same-rise a b c d e = omega (arith, e)

-- what a request asks for is the same on the state without the eviction units
record Alike (state : State) (moment : ℕ) (request : Request) (groups : List Group) : Type 0 where
  covers : covered request (without groups state) ≡ covered request state
  bytes : total (effect moment request (without groups state)) - total (without groups state) ≡ total (effect moment request state) - total state
  count : items (effect moment request (without groups state)) - items (without groups state) ≡ items (effect moment request state) - items state
  stay : (key : List ℕ) (n : ℕ) → list_any (same_item (part key n)) (covered request state) ≡ true → is_out groups (part key n) ≡ false

-- the object of a handle, before the eviction units are out and after
record Handled (state : State) (handle : ℕ) (groups : List Group) : Type 0 where
  here : object_at state (number_of state handle) ≡ Some (object_of state handle)
  here-left : object_at (without groups state) (number_of (without groups state) handle) ≡ Some (object_of (without groups state) handle)
  object-left : object_of (without groups state) handle ≡ kept groups (object_of state handle)
  main-stays : (object_of state handle).live && is_out groups (main (object_of state handle).key) ≡ false
  bound-left : names_none (without groups state) handle ≡ false

-- the rest of a command
record Rest (state : State) (moment : ℕ) (request : Request) (first others : List Group) : Type 0 where
  passes : refused moment request (without first state) ≡ None
  goes : (evicted moment request (without first state) ≡ others) ⊎ (evicted moment request (without first state) ≡ [])
  uses : uses_of request (without first state) ≡ uses_of request state
  doomed : dooms request (without first state) ≡ dooms request state

limits-left : (state : State) (group : Group) (groups : List Group) → (without (group ∷ groups) state).limits ≡ state.limits
unfolding without
limits-left state group groups = refl

live-stays : (live gone : Bool) → (live && gone) ≡ false → live ≡ true → gone ≡ false
live-stays true gone e h = e
live-stays false gone e h = cc

no-group : (group : Group) (groups : List Group) → [] ≡ group ∷ groups → ⊥
no-group group groups e = cc

module _ (state : State) (valid : IsValidState state) (moment : ℕ) (group : Group) (groups : List Group) where
  handled : (covers : List Item) → AllByRecursion (IsLoose (is_pinned state covers)) (group ∷ groups) → (handle : ℕ) → names_none state handle ≡ false → Handled state handle (group ∷ groups)
  unfolding without
  handled covers loose handle bound =
      let named = named_object state valid handle bound in
      let left = without (group ∷ groups) state in
      let held = any_has state.names handle named.number named.by_name in
      let at-left : object_at left named.number ≡ Some (kept (group ∷ groups) named.object) = map_at (left_of (group ∷ groups)) state.objects named.number ∙ ap (option_and_then (left_of (group ∷ groups))) named.here ∙ named_left state valid covers (group ∷ groups) loose named.number named.object named.here held in
      let number-left : number_of left handle ≡ named.number = ap (λ o. unwrap_or o (length left.objects)) named.by_name in
      let object-is : object_of left handle ≡ kept (group ∷ groups) named.object = ap (λ n. unwrap_or (object_at left n) (new_object [])) number-left ∙ ap (λ o. unwrap_or o (new_object [])) at-left in
      record {
        here = ap (object_at state) named.number_is ∙ named.here ∙ ap Some (sym named.object_is);
        here-left = ap (object_at left) number-left ∙ at-left ∙ ap Some (sym object-is);
        object-left = object-is ∙ ap (kept (group ∷ groups)) (sym named.object_is);
        main-stays = ap (λ (o : Object). o.live && is_out (group ∷ groups) (main o.key)) named.object_is ∙ named_stays state valid covers (group ∷ groups) loose named.number named.object named.here held;
        bound-left = bound;
      }

  grows : (handle : ℕ) (h : Handled state handle (group ∷ groups)) (f : Object → ℕ) (change : Object → Object) → GrowsAlike f change (group ∷ groups) (object_of state handle)
      → sum_by (of_slot f) (set (without (group ∷ groups) state).objects (number_of (without (group ∷ groups) state) handle) (Some (change (object_of (without (group ∷ groups) state) handle)))) - sum_by (of_slot f) (without (group ∷ groups) state).objects
      ≡ sum_by (of_slot f) (set state.objects (number_of state handle) (Some (change (object_of state handle)))) - sum_by (of_slot f) state.objects
  grows handle h f change alike =
      let left = without (group ∷ groups) state in
      let object = object_of state handle in
      set-grows f left.objects (number_of left handle) (object_of left handle) (change (object_of left handle)) h.here-left
      ∙ ap (λ (o : Object). f (change o) - f o) h.object-left
      ∙ same-rise (f (change (kept (group ∷ groups) object))) (f (kept (group ∷ groups) object)) (f (change object)) (f object) alike
      ∙ sym (set-grows f state.objects (number_of state handle) object (change object) h.here)

  room-rest : (request : Request) (others : List Group) → Alike state moment request (group ∷ groups) → is_full (room_for moment request state) ≡ false → evicted_for (room_for moment request state) ≡ (group ∷ groups) ++ others
      → (room_for moment request (without (group ∷ groups) state) ≡ after others) ⊎ (room_for moment request (without (group ∷ groups) state) ≡ after [])
  unfolding room_for
  room-rest request others alike free goes =
      let left = without (group ∷ groups) state in
      let covers = covered request state in
      let bytes = total (effect moment request state) - total state in
      let more = items (effect moment request state) - items state in
      let loose = prefix-loose (is_pinned state covers) (group ∷ groups) others (subst (AllByRecursion (IsLoose (is_pinned state covers))) goes (room_for_is_loose moment request state)) in
      let same : room_for moment request left ≡ room left covers bytes more =
      ap (λ (list : List Item). room left list (total (effect moment request left) - total left) (items (effect moment request left) - items left)) alike.covers
      ∙ ap (λ (b : ℕ). room left covers b (items (effect moment request left) - items left)) alike.bytes
      ∙ ap (room left covers bytes) alike.count in
      ⊎_elim (λ (e : room left covers bytes more ≡ after others). inl (same ∙ e)) (λ (e : room left covers bytes more ≡ after []). inr (same ∙ e))
      (room-left state valid covers group groups loose alike.stay bytes more others free goes)

  has-room : (request : Request) (others : List Group) → (room_for moment request (without (group ∷ groups) state) ≡ after others) ⊎ (room_for moment request (without (group ∷ groups) state) ≡ after []) → is_full (room_for moment request (without (group ∷ groups) state)) ≡ false
  has-room request others r = ⊎_elim (λ e. ap is_full e) (λ e. ap is_full e) r

  evicts : (request : Request) (others : List Group) → (room_for moment request (without (group ∷ groups) state) ≡ after others) ⊎ (room_for moment request (without (group ∷ groups) state) ≡ after [])
      → (evicted_for (room_for moment request (without (group ∷ groups) state)) ≡ others) ⊎ (evicted_for (room_for moment request (without (group ∷ groups) state)) ≡ [])
  evicts request others r = ⊎_elim (λ e. inl (ap evicted_for e)) (λ e. inr (ap evicted_for e)) r

  -- Create

  create-alike : (handle : ℕ) (key : List ℕ) → Alike state moment (to_create handle key) (group ∷ groups)
  unfolding effect created
  create-alike handle key = record {
    covers = refl;
    bytes = push-grows charge (without (group ∷ groups) state).objects (new_object key) ∙ sym (push-grows charge state.objects (new_object key));
    count = push-grows item_count (without (group ∷ groups) state).objects (new_object key) ∙ sym (push-grows item_count state.objects (new_object key));
    stay = λ k n h. absurd (let z : false ≡ true = h in cc);
  }

  create-rest : (handle : ℕ) (key : List ℕ) (others : List Group) → EvictsFirst state moment (to_create handle key) (group ∷ groups) others → Rest state moment (to_create handle key) (group ∷ groups) others
  unfolding refusals evicted uses_of dooms without
  create-rest handle key others is =
      let request = to_create handle key in
      let p = none_comes (refusals moment request state) is.passes in
      let r = room-rest request others (create-alike handle key) p.1.1.1.1.0 is.groups in
      record {
        passes = all-pass (refusals moment request (without (group ∷ groups) state)) (p.0, (p.1.0, (p.1.1.0, (ap is_some (left_nobody state group groups (main key) (none_of (live_with state key) p.1.1.1.0)), (has-room request others r, tt)))));
        goes = evicts request others r;
        uses = refl;
        doomed = refl;
      }

  -- Write

  write-alike : (handle stream offset : ℕ) (cut : Bool) (bytes : List ℕ) → Handled state handle (group ∷ groups) → Alike state moment (to_write handle stream offset cut bytes) (group ∷ groups)
  unfolding effect written charge
  write-alike handle stream offset cut bytes h =
      let change : Object → Object = λ (o : Object). record (with_stream o stream (stream_after cut (stream_of o stream) offset bytes)) { settled = false } in
      let object = object_of state handle in
      let weight : List (ℕ × PartValue) → ℕ = λ (ps : List (ℕ × PartValue)). sum_by (λ p. part_charge object.key (signature_of object.shape) p.0 p.1) ps in
      record {
        covers = refl;
        bytes = grows handle h charge change (swap-sums (own_charge (change object)) (weight (kept_parts (group ∷ groups) object)) (own_charge object) (weight object.parts));
        count = grows handle h item_count change (turn-sum (item_count (kept (group ∷ groups) object)) (item_count object));
        stay = λ k n h. absurd (let z : false ≡ true = h in cc);
      }

  write-rest : (handle stream offset : ℕ) (cut : Bool) (bytes : List ℕ) (others : List Group) → EvictsFirst state moment (to_write handle stream offset cut bytes) (group ∷ groups) others → Rest state moment (to_write handle stream offset cut bytes) (group ∷ groups) others
  unfolding refusals evicted uses_of dooms
  write-rest handle stream offset cut bytes others is =
      let request = to_write handle stream offset cut bytes in
      let left = without (group ∷ groups) state in
      let p = none_comes (refusals moment request state) is.passes in
      let loose = prefix-loose (is_pinned state []) (group ∷ groups) others (subst (AllByRecursion (IsLoose (is_pinned state []))) is.groups (room_for_is_loose moment request state)) in
      let h = handled [] loose handle p.0 in
      let r = room-rest request others (write-alike handle stream offset cut bytes h) p.1.1.1.1.0 is.groups in
      record {
        passes = all-pass (refusals moment request left) (h.bound-left, (p.1.0, (ap (λ (l : Bounds). nat_lt (longest_stream l.max_bytes) (offset + length bytes)) (limits-left state group groups) ∙ p.1.1.0, (ap (λ (o : Object). is_sparse o.shape && nat_lt 0 stream) h.object-left ∙ p.1.1.1.0, (has-room request others r, tt)))));
        goes = evicts request others r;
        uses = ap (λ (o : Object). cond o.live (main o.key ∷ []) []) h.object-left;
        doomed = refl;
      }

  -- SparseWrite

  sparse-alike : (handle offset : ℕ) (bytes : List ℕ) → Handled state handle (group ∷ groups) → ((key : List ℕ) (n : ℕ) → list_any (same_item (part key n)) (covered (to_sparse_write handle offset bytes) state) ≡ true → is_out (group ∷ groups) (part key n) ≡ false) → Alike state moment (to_sparse_write handle offset bytes) (group ∷ groups)
  unfolding effect sparse_written sparse_after charge
  sparse-alike handle offset [] h stay =
      let object = object_of state handle in
      let same : Object → Object = λ (o : Object). o in
      record {
        covers = ap (λ (o : Object). map (part o.key) (covered_parts offset 0)) h.object-left;
        bytes = grows handle h charge same (turn-sum (charge (kept (group ∷ groups) object)) (charge object));
        count = grows handle h item_count same (turn-sum (item_count (kept (group ∷ groups) object)) (item_count object));
        stay = stay;
      }
  sparse-alike handle offset (byte ∷ bytes) h stay =
      let object = object_of state handle in
      let ns = covered_parts offset (length (byte ∷ bytes)) in
      let change : Object → Object = λ (o : Object). sparse_after moment o offset (byte ∷ bytes) in
      let is : IsObject object = if_some_is (object_at state (number_of state handle)) IsObject object h.here (valid.objects (number_of state handle)) in
      let all = all-stay (group ∷ groups) object.key ns (stay object.key) in
      let weight : Shape → List (ℕ × PartValue) → ℕ = λ (shape : Shape) (ps : List (ℕ × PartValue)). sum_by (λ p. part_charge object.key (signature_of shape) p.0 p.1) ps in
      record {
        covers = ap (λ (o : Object). map (part o.key) ns) h.object-left;
        bytes = grows handle h charge change
            (same-sums (own_charge (change object)) (weight (made_sparse moment object.shape) (parts_after ns offset (byte ∷ bytes) (kept_parts (group ∷ groups) object))) (own_charge object) (weight object.shape object.parts)
            (weight (made_sparse moment object.shape) (parts_after ns offset (byte ∷ bytes) object.parts)) (weight object.shape (kept_parts (group ∷ groups) object))
            (charge-grows (group ∷ groups) object is moment offset ns all (byte ∷ bytes) object.shape refl));
        count = grows handle h item_count change
            (same-sums 1 (length (parts_after ns offset (byte ∷ bytes) (kept_parts (group ∷ groups) object))) 1 (length object.parts) (length (parts_after ns offset (byte ∷ bytes) object.parts)) (length (kept_parts (group ∷ groups) object))
            (count-grows (group ∷ groups) object is moment offset ns all (byte ∷ bytes)));
        stay = stay;
      }

  sparse-rest : (handle offset : ℕ) (bytes : List ℕ) (others : List Group) → EvictsFirst state moment (to_sparse_write handle offset bytes) (group ∷ groups) others → Rest state moment (to_sparse_write handle offset bytes) (group ∷ groups) others
  unfolding refusals evicted uses_of dooms
  sparse-rest handle offset bytes others is =
      let request = to_sparse_write handle offset bytes in
      let left = without (group ∷ groups) state in
      let object = object_of state handle in
      let ns = covered_parts offset (length bytes) in
      let covers = covered request state in
      let p = none_comes (refusals moment request state) is.passes in
      let loose = prefix-loose (is_pinned state covers) (group ∷ groups) others (subst (AllByRecursion (IsLoose (is_pinned state covers))) is.groups (room_for_is_loose moment request state)) in
      let h = handled covers loose handle p.0 in
      let main-in : is_out (group ∷ groups) (main object.key) ≡ false = live-stays object.live (is_out (group ∷ groups) (main object.key)) h.main-stays (not-false object.live p.1.1.1.0) in
      let stay : (key : List ℕ) (n : ℕ) → list_any (same_item (part key n)) covers ≡ true → is_out (group ∷ groups) (part key n) ≡ false =
      λ key n among. part-stays (is_pinned state covers) (group ∷ groups) key n loose (subst (λ k. is_out (group ∷ groups) (main k) ≡ false) (sym (of-key object.key key n ns among)) main-in) among in
      let r = room-rest request others (sparse-alike handle offset bytes h stay) p.1.1.1.1.1.0 is.groups in
      record {
        passes = all-pass (refusals moment request left) (h.bound-left, (p.1.0, (p.1.1.0, (ap (λ (o : Object). not o.live) h.object-left ∙ p.1.1.1.0, (ap (λ (o : Object). not (is_sparse o.shape) && not (has_one_stream o)) h.object-left ∙ p.1.1.1.1.0, (has-room request others r, tt))))));
        goes = evicts request others r;
        uses = ap (λ (o : Object). main o.key ∷ map (part o.key) ns) h.object-left;
        doomed = refl;
      }

  -- Trim

  trim-exact : (bytes : ℕ) (others : List Group) → EvictsFirst state moment (to_trim bytes) (group ∷ groups) others → evicted moment (to_trim bytes) (without (group ∷ groups) state) ≡ others
  unfolding evicted
  trim-exact bytes others is =
      let loose = prefix-loose (is_pinned state []) (group ∷ groups) others (subst (AllByRecursion (IsLoose (is_pinned state []))) is.groups (evicted_are_loose (λ left. nat_le (total left) bytes) state [])) in
      others-go state valid [] group groups loose (λ left. nat_le (total left) bytes) others is.groups

  trim-rest : (bytes : ℕ) (others : List Group) → EvictsFirst state moment (to_trim bytes) (group ∷ groups) others → Rest state moment (to_trim bytes) (group ∷ groups) others
  unfolding refusals uses_of dooms
  trim-rest bytes others is = record { passes = refl; goes = inl (trim-exact bytes others is); uses = refl; doomed = refl }

  -- the others evict nothing

  rest-behind : (request : Request) (others : List Group) → EvictsFirst state moment request (group ∷ groups) others → Rest state moment request (group ∷ groups) others
  unfolding evicted
  rest-behind (to_create handle key) others is = create-rest handle key others is
  rest-behind (to_open handle key) others is = absurd (no-group group (groups ++ others) is.groups)
  rest-behind (to_read handle stream offset count) others is = absurd (no-group group (groups ++ others) is.groups)
  rest-behind (to_write handle stream offset cut bytes) others is = write-rest handle stream offset cut bytes others is
  rest-behind (to_size handle stream) others is = absurd (no-group group (groups ++ others) is.groups)
  rest-behind (to_sparse_write handle offset bytes) others is = sparse-rest handle offset bytes others is
  rest-behind (to_sparse_read handle offset count) others is = absurd (no-group group (groups ++ others) is.groups)
  rest-behind (to_sparse_range handle offset count) others is = absurd (no-group group (groups ++ others) is.groups)
  rest-behind (to_doom handle) others is = absurd (no-group group (groups ++ others) is.groups)
  rest-behind (to_doom_key key) others is = absurd (no-group group (groups ++ others) is.groups)
  rest-behind (to_close handle) others is = absurd (no-group group (groups ++ others) is.groups)
  rest-behind (to_flush handle) others is = absurd (no-group group (groups ++ others) is.groups)
  rest-behind to_list others is = absurd (no-group group (groups ++ others) is.groups)
  rest-behind (to_trim bytes) others is = trim-rest bytes others is
  rest-behind to_total others is = absurd (no-group group (groups ++ others) is.groups)

rest-is : (state : State) (moment : ℕ) (request : Request) (first others : List Group) → IsValidState state → EvictsFirst state moment request first others → Rest state moment request first others
unfolding without
rest-is state moment request [] others valid is = record { passes = is.passes; goes = inl is.groups; uses = refl; doomed = refl }
rest-is state moment request (group ∷ groups) others valid is = rest-behind state valid moment group groups request others is

pub rests-pass : RestsAreNotRefused
rests-pass state moment request first others valid is = (rest-is state moment request first others valid is).passes

pub rests-evict : RestsEvictTheOthersOrNone
rests-evict state moment request first others valid is = (rest-is state moment request first others valid is).goes

pub trims-go-on : TrimsGoOn
unfolding without
trims-go-on state moment bytes [] others valid is none = sym is.groups ∙ none
trims-go-on state moment bytes (group ∷ groups) others valid is none = sym (trim-exact state valid moment group groups bytes others is) ∙ none

-- where the rest evicts anything it evicts the others
others-exact : (state : State) (moment : ℕ) (request : Request) (first others : List Group) → IsValidState state → EvictsFirst state moment request first others → EvictsTheRest state moment request first others → evicted moment request (without first state) ≡ others
others-exact state moment request first others valid is on =
    ⊎_elim (λ (e : evicted moment request (without first state) ≡ others). e) (λ (e : evicted moment request (without first state) ≡ []). e ∙ sym (on e)) (rests-evict state moment request first others valid is)

pub rest-steps : RestsHaveTheLaterSteps
unfolding list_steps steps_unless
rest-steps state moment request first others valid is on =
    let r = rest-is state moment request first others valid is in
    ap (steps_unless moment request (without first state)) r.passes
    ∙ ap (λ (gs : List Group). map out gs ++ dooms request (without first state) ++ map front (uses_of request (without first state))) (others-exact state moment request first others valid is on)
    ∙ ap (λ (ds : List ListStep). map out others ++ ds ++ map front (uses_of request (without first state))) r.doomed
    ∙ ap (λ (used : List Item). map out others ++ dooms request state ++ map front used) r.uses

pub rest-ends : RestsEndAlike
unfolding step outcome
rest-ends state moment request first others valid is on =
    ap (λ why. (outcome moment request (without first state) why).state) (rests-pass state moment request first others valid is)
    ∙ ap (λ (gs : List Group). effect moment request (without gs (without first state))) (others-exact state moment request first others valid is on)
    ∙ ap (effect moment request) (groups-turn state first others)
    ∙ ap (λ (gs : List Group). effect moment request (without gs state)) (sym is.groups)
    ∙ sym (ap (λ why. (outcome moment request state why).state) is.passes)

pub rest-stops : StopsInRestsAreInTheWhole
rest-stops state moment request first others held valid is on stop = rests-of state moment request first others held valid is (rest-steps state moment request first others valid is on) (rest-ends state moment request first others valid is on) stop
