-- An eviction unit that is evicted: an object that no handle names is removed as if it were doomed, and a part is evicted alone.
use Rattle.std.proofs.Common.{◌≡◌, ◌≢◌, ℕ, zero, suc, ◌<◌, List, [], ◌∷◌, refl, ap, ap₂, sym, ◌∙◌, subst, Bool, true, false, arith, cond, get_or, set, Option, Some, None, ⊎_elim, not, length, map}
use Rattle.std.specs.Prelude.{◌&&◌, ◌||◌, ◌==◌}
use Rattle.std.specs.List.{filter}
use Rattle.std.specs.Option.{option_and_then}
use Rattle.std.specs.Str.{bytes_eq}
use Rattle.std.proofs.lemmas.Bool.{cases_Bool}
use Rattle.blk_model.specs.Items.{Item, PartValue, key_of, main, part, same_item}
use Rattle.blk_model.specs.State.{IsObject, IsValidState, Object, State, has_item, is_named, object_at}
use Rattle.blk_model.specs.Effects.{doomed, doomed_slot, with_slot}
use Rattle.blk_model.specs.Room.{Group, is_out, left_of, single, whole, without}
use Rattle.blk_model.proofs.Chosen.{owned_at}
use Rattle.blk_model.proofs.Same.{bytes_eq_self, same_bytes}
use Rattle.blk_model.proofs.States.{has_main, if_some_is}
use Rattle.law_state.specs.CommandStates.{in_order}
use Rattle.law_state.specs.CommandEnds.{PartsGoAlone, WholeGroupsGoAsDoomed, without_part}
use Rattle.law_state.proofs.NotAtRest.{within-slots}

or-false : (b : Bool) → (b || false) ≡ b
or-false true = refl
or-false false = refl

-- slots that a change leaves
map-same : (f : Option Object → Option Object) (slots : List (Option Object)) → ((m : ℕ) → f (get_or slots m None) ≡ get_or slots m None) → map f slots ≡ slots
map-same f [] each = refl
map-same f (slot ∷ slots) each = ap₂ (λ (s : Option Object) (more : List (Option Object)). s ∷ more) (each 0) (map-same f slots (λ m. each (suc m)))

-- slots that a change leaves, but for one
map-set : (f : Option Object → Option Object) (slots : List (Option Object)) (n : ℕ) (x : Option Object) → ((m : ℕ) → m ≢ n → f (get_or slots m None) ≡ get_or slots m None) → f (get_or slots n None) ≡ x → n < length slots → map f slots ≡ set slots n x
map-set f [] n x others here within = absurd (omega (arith, within))
map-set f (slot ∷ slots) zero x others here within = ap₂ (λ (s : Option Object) (more : List (Option Object)). s ∷ more) here (map-same f slots (λ m. others (suc m) (λ e. omega (arith, e))))
map-set f (slot ∷ slots) (suc n) x others here within =
    ap₂ (λ (s : Option Object) (more : List (Option Object)). s ∷ more) (others 0 (λ e. omega (arith, e))) (map-set f slots n x (λ m apart. others (suc m) (λ e. apart (omega (arith, e)))) here (omega (arith, within)))

abbrev Part : Type 0
Part = ℕ × PartValue

all-stay : (test : Part → Bool) (parts : List Part) → ((p : Part) → test p ≡ true) → filter test parts ≡ parts
all-stay test [] all = refl
all-stay test (p ∷ parts) all = rw (all p) (ap (λ (more : List Part). p ∷ more) (all-stay test parts all))

module _ (state : State) (valid : IsValidState state) (number : ℕ) (object : Object) (here : object_at state number ≡ Some object) (live : object.live ≡ true) where
  -- another live object has another key
  apart-key : (m : ℕ) (other : Object) → m ≢ number → object_at state m ≡ Some other → other.live ≡ true → bytes_eq object.key other.key ≡ true → ⊥
  apart-key m other apart at lives same =
      let key : object.key ≡ other.key = same_bytes object.key other.key same in
      let mine = owned_at state valid number object (main object.key) here (has_main object live) in
      let theirs = owned_at state valid m other (main object.key) at (subst (λ (k : List ℕ). has_item other (main k) ≡ true) (sym key) (has_main other lives)) in
      let e : ◌≡◌ {A = Option ℕ} (Some m) (Some number) = sym theirs ∙ mine in
      let number_is : m ≡ number = cc in apart number_is

  -- so what takes nothing of other keys leaves each other object
  other-stays : (group : Group) → ((item : Item) → bytes_eq object.key (key_of item) ≡ false → is_out (group ∷ []) item ≡ false) → (m : ℕ) → m ≢ number → option_and_then (left_of (group ∷ [])) (object_at state m) ≡ object_at state m
  unfolding left_of
  other-stays group spares m apart = go (object_at state m) refl where
    dead-stays : (other : Object) → other.live ≡ false → IsObject other → cond (other.live && is_out (group ∷ []) (main other.key)) None (Some (record other { parts = filter (λ p. not (is_out (group ∷ []) (part other.key p.0))) other.parts })) ≡ Some other
    dead-stays other dead is =
        let none : other.parts ≡ [] = is.doomed_has_no_parts dead in
        ap (λ (b : Bool). cond (b && is_out (group ∷ []) (main other.key)) None (Some (record other { parts = filter (λ p. not (is_out (group ∷ []) (part other.key p.0))) other.parts }))) dead
        ∙ ap (λ (ps : List Part). Some (record other { parts = filter (λ p. not (is_out (group ∷ []) (part other.key p.0))) ps })) none ∙ ap (λ (ps : List Part). Some (record other { parts = ps })) (sym none)

    away : (b : Bool) → (b && false) ≡ false
    away true = refl
    away false = refl

    other-key : (other : Object) → bytes_eq object.key other.key ≡ false → cond (other.live && is_out (group ∷ []) (main other.key)) None (Some (record other { parts = filter (λ p. not (is_out (group ∷ []) (part other.key p.0))) other.parts })) ≡ Some other
    other-key other differs =
        ap (λ (b : Bool). cond b None (Some (record other { parts = filter (λ p. not (is_out (group ∷ []) (part other.key p.0))) other.parts }))) (ap (λ (b : Bool). other.live && b) (spares (main other.key) differs) ∙ away other.live)
        ∙ ap (λ (ps : List Part). Some (record other { parts = ps })) (all-stay (λ p. not (is_out (group ∷ []) (part other.key p.0))) other.parts (λ p. ap not (spares (part other.key p.0) differs)))

    go : (slot : Option Object) → object_at state m ≡ slot → option_and_then (left_of (group ∷ [])) slot ≡ slot
    go None at = refl
    go (Some other) at = ⊎_elim
        (λ (same : bytes_eq object.key other.key ≡ true). ⊎_elim
        (λ (lives : other.live ≡ true). absurd (apart-key m other apart at lives same))
        (λ (dead : other.live ≡ false). dead-stays other dead (if_some_is (object_at state m) IsObject other at (valid.objects m)))
        (cases_Bool other.live))
        (λ (differs : bytes_eq object.key other.key ≡ false). other-key other differs)
        (cases_Bool (bytes_eq object.key other.key))

  whole-goes : (parts : List ℕ) → is_named state number ≡ false → without (whole object.key parts ∷ []) state ≡ doomed number state (Some object)
  unfolding without doomed
  whole-goes parts unnamed = ap₂ (λ (slots : List (Option Object)) (uses : List Item). record state { objects = slots; uses = uses })
      (map-set (option_and_then (left_of (whole object.key parts ∷ []))) state.objects number (doomed_slot (is_named state number) object)
      (other-stays (whole object.key parts) (λ item differs. or-false (bytes_eq object.key (key_of item)) ∙ differs)) (ap (option_and_then (left_of (whole object.key parts ∷ []))) here ∙ gone ∙ sym (ap (λ (b : Bool). doomed_slot b object) unnamed)) (within-slots state.objects number object here))
      (λ i. filter (λ item. not (or-false (bytes_eq object.key (key_of item)) i)) state.uses)
    where
      gone : left_of (whole object.key parts ∷ []) object ≡ None
      gone = unfold left_of in rw (live, bytes_eq_self object.key) refl

  part-goes : (n : ℕ) → without (single object.key n ∷ []) state ≡ in_order (filter (λ item. not (same_item (part object.key n) item)) state.uses) (with_slot number (Some (without_part object n)) state)
  unfolding without
  part-goes n = ap₂ (λ (slots : List (Option Object)) (uses : List Item). record state { objects = slots; uses = uses })
      (map-set (option_and_then (left_of (single object.key n ∷ []))) state.objects number (Some (without_part object n))
      (other-stays (single object.key n) spares) (ap (option_and_then (left_of (single object.key n ∷ []))) here ∙ left) (within-slots state.objects number object here))
      (λ i. filter (λ item. not (or-false (same_item (part object.key n) item) i)) state.uses)
    where
      spares : (item : Item) → bytes_eq object.key (key_of item) ≡ false → is_out (single object.key n ∷ []) item ≡ false
      spares (main key) differs = refl
      spares (part key m) differs = or-false (bytes_eq object.key key && n == m) ∙ ap (λ (b : Bool). b && n == m) differs

      not-out : (a c : Bool) → a ≡ true → ((a && c) || false) ≡ c
      not-out true c e = or-false c
      not-out false c e = cc

      away : (b : Bool) → (b && false) ≡ false
      away true = refl
      away false = refl

      left : left_of (single object.key n ∷ []) object ≡ Some (without_part object n)
      left = unfold left_of in ap (λ (b : Bool). cond b None (Some (record object { parts = filter (λ p. not (is_out (single object.key n ∷ []) (part object.key p.0))) object.parts }))) (away object.live)
          ∙ (λ i. Some (record object { parts = filter (λ p. not (not-out (bytes_eq object.key object.key) (n == p.0) (bytes_eq_self object.key) i)) object.parts }))

pub whole-groups-go : WholeGroupsGoAsDoomed
whole-groups-go state number object parts valid here live unnamed = whole-goes state valid number object here live parts unnamed

pub parts-go-alone : PartsGoAlone
parts-go-alone state number object n valid here live = part-goes state valid number object here live n
