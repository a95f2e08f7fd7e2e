-- States with another value for a part that an object has, and states of which the durable contents are the same.
use Rattle.std.proofs.Common.{◌≡◌, ℕ, ◌<◌, List, [], ◌∷◌, All, refl, ap, sym, ◌∙◌, subst, arith, Bool, true, false, cond, set, Option, Some, None, zero, suc}
use Rattle.std.specs.Prelude.{◌&&◌, ◌==◌, is_some, nat_lt, slice_index_or}
use Rattle.std.specs.Ordering.{eq_by_cmp, nat_cmp}
use Rattle.std.specs.declared.cmp.Ordering.{Ordering}
use Rattle.std.specs.declared.cmp.Ordering.TheVariants.{Equal, Greater, Less}
use Rattle.std.specs.Cmp.{nat_cmp_total, unsigned_tied}
use Rattle.std.specs.FinMap.{find, put}
use Rattle.std.specs.FinMap.Entries.{by_order, find-put, is_sorted-put}
use Rattle.std.specs.Bool.{passes}
use Rattle.std.specs.Str.{bytes_eq}
use Rattle.std.proofs.lemmas.Bool.{eq-eqb, eqb-true}
use Rattle.std.proofs.lemmas.Bool.Decides.{nat_tests}
use Rattle.std.proofs.lemmas.List.Elements.{All-head, All-tail}
use Rattle.spec_image.proofs.Runs.{some_inj}
use Rattle.blk_model.specs.Effects.{used}
use Rattle.blk_model.specs.Holding.{rest}
use Rattle.blk_model.specs.Items.{IsPartValue, Item, PartValue, key_of, main, part}
use Rattle.blk_model.specs.Sizes.{part_count}
use Rattle.blk_model.specs.State.{IsObject, IsValidState, Object, State, has_item, is_named, object_at, part_at}
use Rattle.blk_model.proofs.SparseWritten.{All_put, IsPart, T_true}
use Rattle.blk_model.proofs.Written.{state_changed}
use Rattle.law_state.specs.CommandStates.{IsUnsettled, KeepsOtherKeys, amidst}
use Rattle.law_state.specs.PartStates.{with_object, with_value}
use Rattle.law_state.proofs.NotAtRest.{own-uses, unsettled-rest}
use Rattle.blk_sparse.proofs.Begun.{object-valid}

-- ---- lists

compared-alike : (n : ℕ) → nat_cmp n n ≡ Equal
compared-alike n = let low : nat_lt n n ≡ false = grind (arith, nat_tests) in let same : (n == n) ≡ true = eq-eqb n n refl in rw (low, same) refl

pub put-twice : (n : ℕ) (one two : PartValue) (parts : List (ℕ × PartValue)) → put nat_cmp n two (put nat_cmp n one parts) ≡ put nat_cmp n two parts
put-twice n one two [] = ap (λ (r : Ordering). by_order r ((n, two) ∷ (n, one) ∷ []) ((n, two) ∷ []) ((n, one) ∷ put nat_cmp n two [])) (compared-alike n)
put-twice n one two (p ∷ parts) = by (put-twice n one two parts) (nat_cmp n p.0) refl where
  by : put nat_cmp n two (put nat_cmp n one parts) ≡ put nat_cmp n two parts → (r : Ordering) → nat_cmp n p.0 ≡ r → put nat_cmp n two (put nat_cmp n one (p ∷ parts)) ≡ put nat_cmp n two (p ∷ parts)
  by later Less e =
      ap (λ (r : Ordering). put nat_cmp n two (by_order r ((n, one) ∷ p ∷ parts) ((p.0, one) ∷ parts) (p ∷ put nat_cmp n one parts))) e
      ∙ ap (λ (r : Ordering). by_order r ((n, two) ∷ (n, one) ∷ p ∷ parts) ((n, two) ∷ p ∷ parts) ((n, one) ∷ put nat_cmp n two (p ∷ parts))) (compared-alike n)
      ∙ sym (ap (λ (r : Ordering). by_order r ((n, two) ∷ p ∷ parts) ((p.0, two) ∷ parts) (p ∷ put nat_cmp n two parts)) e)
  by later Equal e =
      ap (λ (r : Ordering). put nat_cmp n two (by_order r ((n, one) ∷ p ∷ parts) ((p.0, one) ∷ parts) (p ∷ put nat_cmp n one parts))) e
      ∙ ap (λ (r : Ordering). by_order r ((n, two) ∷ (p.0, one) ∷ parts) ((p.0, two) ∷ parts) ((p.0, one) ∷ put nat_cmp n two parts)) e
      ∙ sym (ap (λ (r : Ordering). by_order r ((n, two) ∷ p ∷ parts) ((p.0, two) ∷ parts) (p ∷ put nat_cmp n two parts)) e)
  by later Greater e =
      ap (λ (r : Ordering). put nat_cmp n two (by_order r ((n, one) ∷ p ∷ parts) ((p.0, one) ∷ parts) (p ∷ put nat_cmp n one parts))) e
      ∙ ap (λ (r : Ordering). by_order r ((n, two) ∷ p ∷ put nat_cmp n one parts) ((p.0, two) ∷ put nat_cmp n one parts) (p ∷ put nat_cmp n two (put nat_cmp n one parts))) e
      ∙ ap (λ (l : List (ℕ × PartValue)). p ∷ l) later
      ∙ sym (ap (λ (r : Ordering). by_order r ((n, two) ∷ p ∷ parts) ((p.0, two) ∷ parts) (p ∷ put nat_cmp n two parts)) e)

-- a part that is found is one of them
pub found-part : (n : ℕ) (value : PartValue) (parts : List (ℕ × PartValue)) → All IsPart parts → find nat_cmp n parts ≡ Some value → (n < part_count) × IsPartValue value
found-part n value [] all is = absurd (let z : ◌≡◌ {A = Option PartValue} None (Some value) = is in cc)
found-part n value (p ∷ parts) all is = by (found-part n value parts (All-tail IsPart p parts all)) (eq_by_cmp nat_cmp n p.0) refl where
  by : (find nat_cmp n parts ≡ Some value → (n < part_count) × IsPartValue value) → (b : Bool) → eq_by_cmp nat_cmp n p.0 ≡ b → (n < part_count) × IsPartValue value
  by later true e =
      let here = All-head IsPart p parts all in
      let same : n ≡ p.0 = eqb-true n p.0 (sym (unsigned_tied n p.0) ∙ e) in
      let value_is : p.1 ≡ value = some_inj (sym (ap (λ (b : Bool). cond b (Some p.1) (find nat_cmp n parts)) e) ∙ is) in
      (subst (λ (m : ℕ). m < part_count) (sym same) here.0, subst IsPartValue value_is here.1)
  by later false e = later (sym (ap (λ (b : Bool). cond b (Some p.1) (find nat_cmp n parts)) e) ∙ is)

-- ---- the object

-- the value of the part, and of the others
pub value-here : (n : ℕ) (value : PartValue) (object : Object) → part_at (with_value object n value) n ≡ Some value
value-here n value object = find-put nat_cmp nat_cmp_total n n value object.parts ∙ ap (λ (b : Bool). cond b (Some value) (find nat_cmp n object.parts)) (unsigned_tied n n ∙ eq-eqb n n refl)

pub value-else : (k n : ℕ) (value : PartValue) (object : Object) → (k == n) ≡ false → part_at (with_value object n value) k ≡ part_at object k
value-else k n value object apart = find-put nat_cmp nat_cmp_total k n value object.parts ∙ ap (λ (b : Bool). cond b (Some value) (find nat_cmp k object.parts)) (unsigned_tied k n ∙ apart)

pub value-twice : (n : ℕ) (one two : PartValue) (object : Object) → with_value (with_value object n one) n two ≡ with_value object n two
value-twice n one two object = ap (λ (ps : List (ℕ × PartValue)). record object { parts = ps }) (put-twice n one two object.parts)

module _ (state : State) (valid : IsValidState state) (number : ℕ) (object : Object) (here : object_at state number ≡ Some object) (n : ℕ) (old : PartValue) (has : part_at object n ≡ Some old) where
  is : IsObject object
  is = object-valid state valid number object here

  -- a part of it has a number and a value of one
  pub its-value : (n < part_count) × IsPartValue old
  its-value = found-part n old object.parts is.parts has

  same-items : (value : PartValue) (item : Item) → has_item (with_value object n value) item ≡ has_item object item
  same-items value (main key) = refl
  same-items value (part key k) = by (k == n) refl where
    by : (b : Bool) → (k == n) ≡ b → has_item (with_value object n value) (part key k) ≡ has_item object (part key k)
    by true e =
        let same : k ≡ n = eqb-true k n e in
        ap (λ (o : Option PartValue). object.live && bytes_eq key object.key && is_some o) (ap (part_at (with_value object n value)) same ∙ value-here n value object) ∙ sym (ap (λ (o : Option PartValue). object.live && bytes_eq key object.key && is_some o) (ap (part_at object) same ∙ has))
    by false e = ap (λ (o : Option PartValue). object.live && bytes_eq key object.key && is_some o) (value-else k n value object e)

  -- another value leaves the state valid
  pub value-valid : (value : PartValue) → IsPartValue value → is_named state number ≡ true → IsValidState (with_object state number (with_value object n value))
  value-valid value is_value named = state_changed state valid number object here named (with_value object n value)
      (record {
        key = is.key;
        streams = is.streams;
        signature = is.signature;
        plain_has_no_parts = λ plain_is. absurd (never-none (is.plain_has_no_parts plain_is));
        doomed_has_no_parts = λ dead. absurd (never-none (is.doomed_has_no_parts dead));
        sparse_has_one_stream = is.sparse_has_one_stream;
        rising = T_true _ (is_sorted-put nat_cmp nat_cmp_total n value object.parts (passes _ is.rising));
        parts = All_put n value object.parts its-value.0 is_value is.parts;
      })
      (same-items value)
    where
      never-none : object.parts ≡ [] → ⊥
      never-none none = let z : ◌≡◌ {A = Option PartValue} None (Some old) = ap (find nat_cmp n) (sym none) ∙ has in cc

-- ---- the durable contents

set-same : {A : Type 0} (xs : List (Option A)) (i : ℕ) (x : A) → slice_index_or xs i None ≡ Some x → set xs i (Some x) ≡ xs
set-same [] i x e = refl
set-same (y ∷ xs) zero x e = ap (λ (o : Option _). o ∷ xs) (sym e)
set-same {A} (y ∷ xs) (suc i) x e = ap (λ (l : List (Option A)). y ∷ l) (set-same xs i x e)

module _ (state : State) (number : ℕ) (object : Object) (valid : IsValidState state) (here : object_at state number ≡ Some object) (live : object.live ≡ true) (loose : object.settled ≡ false) where
  as-it-is : (uses : List Item) → amidst state number object uses ≡ record state { uses = uses }
  as-it-is uses = ap (λ (os : List (Option Object)). record state { objects = os; uses = uses }) (set-same state.objects number object here)

  -- whatever becomes of a dirty object, the durable contents are the same
  pub rest-whatever : (other : Object) (uses : List Item) → IsUnsettled other object.key → KeepsOtherKeys state object.key uses → rest (amidst state number other uses) ≡ rest state
  rest-whatever other uses is keeps =
      unsettled-rest state number object other object uses state.uses valid here live is (record { key_is = refl; live = live; unsettled = loose }) keeps refl ∙ ap rest (as-it-is state.uses)

  -- also once one of its items is accessed
  pub keeps-used : (item : Item) → key_of item ≡ object.key → KeepsOtherKeys state object.key (used item state.uses)
  keeps-used item its = (own-uses state object.key item state.uses its refl).1
