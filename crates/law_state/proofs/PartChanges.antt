-- One part of an object changed, or one part more.
use Rattle.std.proofs.Common.{◌≡◌, ◌≢◌, ℕ, ◌+◌, ◌<◌, ◌≤◌, arith, List, [], ◌∷◌, refl, ap, sym, ◌∙◌, Bool, true, false, cond, get_or, set, Option, Some, None, ⊎_elim}
use Rattle.std.specs.Prelude.{◌&&◌, ◌==◌, is_some, not, filter}
use Rattle.std.specs.Str.{bytes_eq}
use Rattle.std.specs.Ordering.{nat_cmp, eq_by_cmp}
use Rattle.std.specs.Cmp.{nat_cmp_total, unsigned_tied}
use Rattle.std.specs.FinMap.{find, put}
use Rattle.std.specs.FinMap.Entries.{find-put, is_sorted-put}
use Rattle.std.specs.Bool.{passes}
use Rattle.blk_model.specs.Sizes.{part_count}
use Rattle.blk_model.proofs.Same.{one_item}
use Rattle.blk_model.proofs.Times.{times-cons}
use Rattle.blk_model.proofs.States.{if_some_is}
use Rattle.blk_model.proofs.Written.{state_replaced}
use Rattle.blk_model.proofs.SparseWritten.{All_put, T_true}
use Rattle.std.specs.Option.{option_and_then, option_map}
use Rattle.std.proofs.lemmas.Bool.{cases_Bool, eq-eqb}
use Rattle.std.proofs.lemmas.Bool.Decides.{eqb_tells}
use Rattle.std.proofs.Math.Dec.{eqb}
use Rattle.std.proofs.lemmas.List.{get_or-set_same, get_or-set_other}
use Rattle.std.proofs.lemmas.Slice.Eq.{bytes_eq-Decides}
use Rattle.blk_model.specs.Items.{Item, main, part, part_row, PartValue, IsPartValue, is_sparse, times, same_item}
use Rattle.blk_model.specs.State.{State, Object, IsValidState, IsObject, object_at, is_named, has_item, slot_has_item, part_at, owners}
use Rattle.blk_model.proofs.Slots.{first_with_found, owners-set}
use Rattle.blk_model.proofs.Owners.{only_owner}
use Rattle.spec_folder.specs.Layout.{settled_with}
use Rattle.law_folder.proofs.states.Changing.{first_with-set}
use Rattle.law_folder.proofs.claims.Owner.{IsOwned, owned}
use Rattle.law_state.specs.PartStates.{NewPartsKeepValid, PartsAreLeftOut, PartsChangeAlone, with_value}
use Rattle.law_state.proofs.NotAtRest.{within-slots}
use Rattle.blk_model.specs.Holding as model

-- the value of a part
find-here : (n : ℕ) (value : PartValue) (object : Object) → part_at (with_value object n value) n ≡ Some value
find-here n value object = find-put nat_cmp nat_cmp_total n n value object.parts ∙ ap (λ (b : Bool). cond b (Some value) (find nat_cmp n object.parts)) (unsigned_tied n n ∙ eq-eqb n n refl)

find-other : (k n : ℕ) (value : PartValue) (object : Object) → (k == n) ≡ false → part_at (with_value object n value) k ≡ part_at object k
find-other k n value object apart = find-put nat_cmp nat_cmp_total k n value object.parts ∙ ap (λ (b : Bool). cond b (Some value) (find nat_cmp k object.parts)) (unsigned_tied k n ∙ apart)

-- an object with other parts, of which only one number may differ
module _ (m : State) (valid : IsValidState m) (number : ℕ) (o : Object) (here : object_at m number ≡ Some o) (alive : o.live ≡ true) (n : ℕ) (ps : List (ℕ × PartValue)) (others : (j : ℕ) → (j == n) ≡ false → find nat_cmp j ps ≡ find nat_cmp j o.parts) where
  at-number : object_at (record m { objects = set m.objects number (Some (record o { parts = ps })) }) number ≡ Some (record o { parts = ps })
  at-number = get_or-set_same m.objects number (Some (record o { parts = ps })) None (within-slots m.objects number o here)

  -- other items are the object's where they were
  has-same : (i : Item) → same_item i (part o.key n) ≡ false → has_item (record o { parts = ps }) i ≡ has_item o i
  has-same (main k) apart = refl
  has-same (part k j) apart = by-number (j == n) refl
    where
      by-number : (b : Bool) → (j == n) ≡ b → has_item (record o { parts = ps }) (part k j) ≡ has_item o (part k j)
      by-number false e = ap (λ (p : Option PartValue). o.live && bytes_eq k o.key && is_some p) (others j e)
      by-number true e =
          let other_key : bytes_eq k o.key ≡ false = only-key (bytes_eq k o.key) (sym (ap (λ (t : Bool). bytes_eq k o.key && t) e) ∙ apart) in
          rw other_key (none o.live (is_some (part_at (record o { parts = ps }) j)) (is_some (part_at o j)))
        where
          only-key : (b : Bool) → (b && true) ≡ false → b ≡ false
          only-key true h = h
          only-key false h = refl

          none : (l a b : Bool) → ((l && false) && a) ≡ ((l && false) && b)
          none true a b = refl
          none false a b = refl

  owner-same : (i : Item) → same_item i (part o.key n) ≡ false → model.owner (record m { objects = set m.objects number (Some (record o { parts = ps })) }) i ≡ model.owner m i
  owner-same i apart = first_with-set i 0 m.objects number (Some (record o { parts = ps })) (has-same i apart ∙ sym (ap (slot_has_item i) here))

  -- their rows are the same
  row-in-same : (i : Item) → same_item i (part o.key n) ≡ false → has_item o i ≡ true → model.row_in (record o { parts = ps }) i ≡ model.row_in o i
  row-in-same (main k) apart has = refl
  row-in-same (part k j) apart has = ap (option_map (λ v. part_row k j v)) (by-number (j == n) refl)
    where
      by-number : (b : Bool) → (j == n) ≡ b → part_at (record o { parts = ps }) j ≡ part_at o j
      by-number false e = others j e
      by-number true e = absurd (contrary (bytes_eq k o.key) o.live (is_some (part_at o j)) (sym (ap (λ (t : Bool). bytes_eq k o.key && t) e) ∙ apart) has)
        where
          contrary : (b l s : Bool) → (b && true) ≡ false → (l && b && s) ≡ true → ⊥
          contrary true l s h e = cc
          contrary false true s h e = cc
          contrary false false s h e = cc

  rows-same : (i : Item) → same_item i (part o.key n) ≡ false → model.row_of (record m { objects = set m.objects number (Some (record o { parts = ps })) }) i ≡ model.row_of m i
  unfolding model.row_of
  rows-same i apart = ap (λ (w : Option ℕ). option_and_then (λ object. model.row_in object i) (option_and_then (object_at (record m { objects = set m.objects number (Some (record o { parts = ps })) })) w)) (owner-same i apart) ∙ go (model.owner m i) refl
    where
      go : (w : Option ℕ) → model.owner m i ≡ w → option_and_then (λ object. model.row_in object i) (option_and_then (object_at (record m { objects = set m.objects number (Some (record o { parts = ps })) })) w) ≡ option_and_then (λ object. model.row_in object i) (option_and_then (object_at m) w)
      go None e = refl
      go (Some j) e =
          let own : IsOwned m i j = owned m i j e in
          ⊎_elim
          (λ (q : (eqb j number ≡ true) × (j ≡ number)).
          let at : object_at m j ≡ Some o = ap (object_at m) q.1 ∙ here in
          let c : ◌≡◌ {A = Option Object} (Some own.object) (Some o) = sym own.here ∙ at in
          let same : own.object ≡ o = cc in
          let now : object_at (record m { objects = set m.objects number (Some (record o { parts = ps })) }) j ≡ Some (record o { parts = ps }) = ap (object_at (record m { objects = set m.objects number (Some (record o { parts = ps })) })) q.1 ∙ at-number in
          ap (option_and_then (λ object. model.row_in object i)) now ∙ row-in-same i apart (sym (ap (λ (x : Object). has_item x i) same) ∙ own.has) ∙ sym (ap (option_and_then (λ object. model.row_in object i)) at))
          (λ (q : (eqb j number ≡ false) × (j ≢ number)). ap (option_and_then (λ object. model.row_in object i)) (get_or-set_other m.objects number j (Some (record o { parts = ps })) None q.1))
          (eqb_tells j number)

  settled-same : (key : List ℕ) → settled_with (record m { objects = set m.objects number (Some (record o { parts = ps })) }) key ≡ settled_with m key
  settled-same key = ap (λ (w : Option ℕ). option_map (λ object. object.settled) (option_and_then (object_at (record m { objects = set m.objects number (Some (record o { parts = ps })) })) w)) (owner-same (main key) refl) ∙ go (model.owner m (main key))
    where
      go : (w : Option ℕ) → option_map (λ (object : Object). object.settled) (option_and_then (object_at (record m { objects = set m.objects number (Some (record o { parts = ps })) })) w) ≡ option_map (λ (object : Object). object.settled) (option_and_then (object_at m) w)
      go None = refl
      go (Some j) = ⊎_elim
          (λ (q : (eqb j number ≡ true) × (j ≡ number)).
          let now : object_at (record m { objects = set m.objects number (Some (record o { parts = ps })) }) j ≡ Some (record o { parts = ps }) = ap (object_at (record m { objects = set m.objects number (Some (record o { parts = ps })) })) q.1 ∙ at-number in
          let at : object_at m j ≡ Some o = ap (object_at m) q.1 ∙ here in
          ap (option_map (λ (object : Object). object.settled)) now ∙ sym (ap (option_map (λ (object : Object). object.settled)) at))
          (λ (q : (eqb j number ≡ false) × (j ≢ number)). ap (option_map (λ (object : Object). object.settled)) (get_or-set_other m.objects number j (Some (record o { parts = ps })) None q.1))
          (eqb_tells j number)

  doomed-same : (j : ℕ) (x : Object) → object_at (record m { objects = set m.objects number (Some (record o { parts = ps })) }) j ≡ Some x → x.live ≡ false → object_at m j ≡ Some x
  doomed-same j x is dead = ⊎_elim
      (λ (q : (eqb j number ≡ true) × (j ≡ number)).
      let c : ◌≡◌ {A = Option Object} (Some (record o { parts = ps })) (Some x) = sym at-number ∙ ap (object_at (record m { objects = set m.objects number (Some (record o { parts = ps })) })) (sym q.1) ∙ is in
      let same : record o { parts = ps } ≡ x = cc in
      absurd (let z : true ≡ false = sym alive ∙ ap (λ (y : Object). y.live) same ∙ dead in cc))
      (λ (q : (eqb j number ≡ false) × (j ≢ number)). sym (get_or-set_other m.objects number j (Some (record o { parts = ps })) None q.1) ∙ is)
      (eqb_tells j number)

-- an object with a value for a part
module _ (m : State) (valid : IsValidState m) (number : ℕ) (o : Object) (here : object_at m number ≡ Some o) (alive : o.live ≡ true) (n : ℕ) (value : PartValue) where
  -- the part has the value
  row-here : model.row_of (record m { objects = set m.objects number (Some (with_value o n value)) }) (part o.key n) ≡ Some (part_row o.key n value)
  unfolding model.row_of
  row-here = ap (λ (w : Option ℕ). option_and_then (λ object. model.row_in object (part o.key n)) (option_and_then (object_at (record m { objects = set m.objects number (Some (with_value o n value)) })) w)) owner-is
      ∙ ap (option_and_then (λ object. model.row_in object (part o.key n))) (ap (λ (k : ℕ). object_at (record m { objects = set m.objects number (Some (with_value o n value)) }) k) (let e : 0 + number ≡ number = omega arith in e) ∙ at-number m valid number o here alive n (put nat_cmp n value o.parts) (λ j e. find-other j n value o e))
      ∙ ap (option_map (λ v. part_row o.key n v)) (find-here n value o)
    where
      has : has_item (with_value o n value) (part o.key n) ≡ true
      has = rw (alive, (bytes_eq-Decides o.key o.key).1 refl, find-here n value o) refl

      few : owners (part o.key n) (set m.objects number (Some (with_value o n value))) ≤ 1
      few =
          let moved = owners-set (part o.key n) m.objects number (Some (with_value o n value)) (within-slots m.objects number o here) in
          let was = only_owner m valid number o here alive (part o.key n) refl in
          let old : ◌≡◌ {A = ℕ} (cond (slot_has_item (part o.key n) (get_or m.objects number None)) 1 0) (cond (has_item o (part o.key n)) 1 0) = ap (λ (s : Option Object). cond (slot_has_item (part o.key n) s) 1 0) here in
          let new : ◌≡◌ {A = ℕ} (cond (has_item (with_value o n value) (part o.key n)) 1 0) 1 = ap (λ (b : Bool). cond b 1 0) has in
          omega (arith, moved, was, old, new)

      owner-is : model.owner (record m { objects = set m.objects number (Some (with_value o n value)) }) (part o.key n) ≡ Some (0 + number)
      owner-is = first_with_found (part o.key n) 0 number (set m.objects number (Some (with_value o n value))) (ap (slot_has_item (part o.key n)) (at-number m valid number o here alive n (put nat_cmp n value o.parts) (λ j e. find-other j n value o e)) ∙ has) few

  -- with a part more the state is valid
  module _ (loose : o.settled ≡ false) (sparse : is_sparse o.shape ≡ true) (small : n < part_count) (is : IsPartValue value) (new : is_some (part_at o n) ≡ false) where
    was-not : has_item o (part o.key n) ≡ false
    was-not = ap (λ (b : Bool). o.live && bytes_eq o.key o.key && b) new ∙ no-more (o.live && bytes_eq o.key o.key)
      where
        no-more : (b : Bool) → (b && false) ≡ false
        no-more true = refl
        no-more false = refl

    is-now : has_item (with_value o n value) (part o.key n) ≡ true
    is-now = rw (alive, (bytes_eq-Decides o.key o.key).1 refl, find-here n value o) refl

    is-object : IsObject (with_value o n value)
    is-object =
        let io : IsObject o = if_some_is (object_at m number) IsObject o here (valid.objects number) in
        record {
          key = io.key;
          streams = io.streams;
          signature = io.signature;
          plain_has_no_parts = λ plain. absurd (let c : true ≡ false = sym sparse ∙ plain in cc);
          doomed_has_no_parts = λ dead. absurd (let c : true ≡ false = sym alive ∙ dead in cc);
          sparse_has_one_stream = io.sparse_has_one_stream;
          rising = T_true _ (is_sorted-put nat_cmp nat_cmp_total n value o.parts (passes _ io.rising));
          parts = All_put n value o.parts small is io.parts;
        }

    moved : (item : Item) → times item (part o.key n ∷ m.uses) + cond (has_item o item) 1 0 ≡ times item m.uses + cond (has_item (with_value o n value) item) 1 0
    moved item = ⊎_elim
        (λ (e : same_item item (part o.key n) ≡ true).
        let the : item ≡ part o.key n = one_item item (part o.key n) e in
        let more : times item (part o.key n ∷ m.uses) ≡ 1 + times item m.uses = times-cons item (part o.key n) m.uses ∙ ap (λ (b : Bool). cond b 1 0 + times item m.uses) e in
        let old : ◌≡◌ {A = ℕ} (cond (has_item o item) 1 0) 0 = ap (λ (j : Item). cond (has_item o j) 1 0) the ∙ ap (λ (b : Bool). cond b 1 0) was-not in
        let now : ◌≡◌ {A = ℕ} (cond (has_item (with_value o n value) item) 1 0) 1 = ap (λ (j : Item). cond (has_item (with_value o n value) j) 1 0) the ∙ ap (λ (b : Bool). cond b 1 0) is-now in
        omega (arith, more, old, now))
        (λ (e : same_item item (part o.key n) ≡ false).
        let more : times item (part o.key n ∷ m.uses) ≡ 0 + times item m.uses = times-cons item (part o.key n) m.uses ∙ ap (λ (b : Bool). cond b 1 0 + times item m.uses) e in
        let same : ◌≡◌ {A = ℕ} (cond (has_item (with_value o n value) item) 1 0) (cond (has_item o item) 1 0) = ap (λ (b : Bool). cond b 1 0) (has-same m valid number o here alive n (put nat_cmp n value o.parts) (λ j e. find-other j n value o e) item e) in
        omega (arith, more, same))
        (cases_Bool (same_item item (part o.key n)))

    few-times : (item : Item) → times item (part o.key n ∷ m.uses) ≤ 1
    few-times item = ⊎_elim
        (λ (e : same_item item (part o.key n) ≡ true).
        let the : item ≡ part o.key n = one_item item (part o.key n) e in
        let more : times item (part o.key n ∷ m.uses) ≡ 1 + times item m.uses = times-cons item (part o.key n) m.uses ∙ ap (λ (b : Bool). cond b 1 0 + times item m.uses) e in
        let none : times (part o.key n) m.uses ≡ 0 = valid.listed (part o.key n) ∙ only_owner m valid number o here alive (part o.key n) refl ∙ ap (λ (b : Bool). cond b 1 0) was-not in
        let here_too : times item m.uses ≡ 0 = ap (λ (j : Item). times j m.uses) the ∙ none in
        omega (arith, more, here_too))
        (λ (e : same_item item (part o.key n) ≡ false).
        let more : times item (part o.key n ∷ m.uses) ≡ 0 + times item m.uses = times-cons item (part o.key n) m.uses ∙ ap (λ (b : Bool). cond b 1 0 + times item m.uses) e in
        omega (arith, more, valid.once item))
        (cases_Bool (same_item item (part o.key n)))

    named : is_named m number ≡ true
    named = if_some_is (object_at m number) (λ x. (x.live && x.settled ≡ false) → is_named m number ≡ true) o here (valid.held number) (ap (λ (b : Bool). o.live && b) loose ∙ no-more o.live)
      where
        no-more : (b : Bool) → (b && false) ≡ false
        no-more true = refl
        no-more false = refl

    pub more-valid : IsValidState (record m { objects = set m.objects number (Some (with_value o n value)); uses = part o.key n ∷ m.uses })
    more-valid = state_replaced m valid number o here named (with_value o n value) is-object (part o.key n ∷ m.uses) moved few-times

pub parts-change-alone : PartsChangeAlone
parts-change-alone state valid number object here alive n value = (
  record { rows = rows-same state valid number object here alive n (put nat_cmp n value object.parts) (λ j e. find-other j n value object e); settled = λ key e. settled-same state valid number object here alive n (put nat_cmp n value object.parts) (λ j e. find-other j n value object e) key; doomed_same = doomed-same state valid number object here alive n (put nat_cmp n value object.parts) (λ j e. find-other j n value object e) },
  row-here state valid number object here alive n value,
)

pub new-parts-keep-valid : NewPartsKeepValid
new-parts-keep-valid state valid number object here loose sparse n value small is new = more-valid state valid number object here loose.live n value loose.unsettled sparse small is new

-- the parts without one
find-without : (n j : ℕ) (ps : List (ℕ × PartValue)) → (j == n) ≡ false → find nat_cmp j (filter (λ p. not (n == p.0)) ps) ≡ find nat_cmp j ps
find-without n j [] apart = refl
find-without n j (p ∷ ps) apart = ⊎_elim
    (λ (e : (eqb n p.0 ≡ true) × (n ≡ p.0)).
    let dropped : (n == p.0) ≡ true = e.0 in
    let other : eq_by_cmp nat_cmp j p.0 ≡ false = unsigned_tied j p.0 ∙ ap (λ (k : ℕ). j == k) (sym e.1) ∙ apart in
    rw dropped (find-without n j ps apart ∙ sym (ap (λ (b : Bool). cond b (Some p.1) (find nat_cmp j ps)) other)))
    (λ (e : (eqb n p.0 ≡ false) × _).
    let stays : (n == p.0) ≡ false = e.0 in
    rw stays (ap (cond (eq_by_cmp nat_cmp j p.0) (Some p.1)) (find-without n j ps apart)))
    (eqb_tells n p.0)

pub parts-left-out : PartsAreLeftOut
unfolding model.row_of
parts-left-out state valid number object here alive n = record {
  rows = λ item keep listed. rows-same state valid number object here alive n (filter (λ p. not (n == p.0)) object.parts) (λ j e. find-without n j object.parts e) item (not-true (same_item item (part object.key n)) keep);
  settled = λ key keep. settled-same state valid number object here alive n (filter (λ p. not (n == p.0)) object.parts) (λ j e. find-without n j object.parts e) key;
  closed = λ key k keep. refl;
  doomed_same = doomed-same state valid number object here alive n (filter (λ p. not (n == p.0)) object.parts) (λ j e. find-without n j object.parts e);
}
  where
    not-true : (b : Bool) → not b ≡ true → b ≡ false
    not-true true h = cc
    not-true false h = refl
