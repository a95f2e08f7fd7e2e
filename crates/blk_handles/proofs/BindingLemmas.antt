-- What the words on bindings say of single names, for this crate and those above it.
use Rattle.std.proofs.Common.{◌≡◌, ℕ, zero, suc, Bool, true, false, List, [], ◌∷◌, length, get_or, Option, Some, None, refl, sym, ap, ◌∙◌, inl, inr, arith}
use Rattle.std.specs.Prelude.{◌||◌, ◌==◌, is_some, if◌then◌else◌}
use Rattle.std.specs.Option.{option_map}
use Rattle.std.specs.List.{list_any}
use Rattle.std.proofs.lemmas.Bool.{cases_eq}
use Rattle.blk_model.specs.State.{is_number}
use Rattle.blk_handles.specs.Bindings.{Binding, Bindings, AreShared, binding_of, has_entry, is_open, open_with, with_change, distinct_count}
use Rattle.blk_handles.proofs.Basics.{some-inj, none-is-some, same-number, apart, number-is}

or-true : (b : Bool) → (b || true) ≡ true
or-true false = refl
or-true true = refl

-- an object is open where one is found
pub open_with_told : {A : Type 0} (f : Binding → A) (bs : Bindings) (entry : ℕ) → is_some (option_map f (open_with bs entry)) ≡ is_open bs entry
open_with_told f [] entry = refl
open_with_told {A} f (b ∷ bs) entry = by b (has_entry entry b) refl (open_with_told f bs entry) where
  by : (b : Option Binding) (h : Bool) → has_entry entry b ≡ h → is_some (option_map f (open_with bs entry)) ≡ is_open bs entry → is_some (option_map f (if has_entry entry b then b else open_with bs entry)) ≡ (has_entry entry b || is_open bs entry)
  by b false e rest = rw e rest
  by None true e rest = absurd (let c : false ≡ true = e in cc)
  by (Some b) true e rest = rw e refl

-- an object is open where a name is bound to it
pub open-bound : (bs : Bindings) (name : ℕ) (b : Binding) → binding_of bs name ≡ Some b → is_open bs b.entry ≡ true
open-bound [] name b is = absurd (none-is-some {A = Binding} None refl is)
open-bound (x ∷ bs) zero b is = rw (is, same-number b.entry) refl
open-bound (x ∷ bs) (suc name) b is = rw (open-bound bs name b is) (or-true (has_entry b.entry x))

-- an open object has a name
pub open-named : (bs : Bindings) (entry : ℕ) → is_open bs entry ≡ true → (name : ℕ) × (b : Binding) × (binding_of bs name ≡ Some b) × (entry ≡ b.entry)
open-named [] entry is = absurd (let c : false ≡ true = is in cc)
open-named (x ∷ bs) entry is = by x (has_entry entry x) refl is (open-named bs entry) where
  by : (x : Option Binding) (h : Bool) → has_entry entry x ≡ h → (has_entry entry x || is_open bs entry) ≡ true → (is_open bs entry ≡ true → (name : ℕ) × (b : Binding) × (binding_of bs name ≡ Some b) × (entry ≡ b.entry))
      → (name : ℕ) × (b : Binding) × (binding_of (x ∷ bs) name ≡ Some b) × (entry ≡ b.entry)
  by x false e is rest = let (name, b, at, same) = rest (rw e at is) in (suc name, b, at, same)
  by None true e is rest = absurd (let c : false ≡ true = e in cc)
  by (Some b) true e is rest = (0, b, refl, number-is entry b.entry e)

-- the open object with a record is what a name is bound to
pub open_with-named : (bs : Bindings) (entry : ℕ) (b : Binding) → open_with bs entry ≡ Some b → (name : ℕ) × (binding_of bs name ≡ Some b) × (entry ≡ b.entry)
open_with-named [] entry b is = absurd (none-is-some {A = Binding} None refl is)
open_with-named (x ∷ bs) entry b is = by x (has_entry entry x) refl is (open_with-named bs entry b) where
  by : (x : Option Binding) (h : Bool) → has_entry entry x ≡ h → (if has_entry entry x then x else open_with bs entry) ≡ Some b → (open_with bs entry ≡ Some b → (name : ℕ) × (binding_of bs name ≡ Some b) × (entry ≡ b.entry))
      → (name : ℕ) × (binding_of (x ∷ bs) name ≡ Some b) × (entry ≡ b.entry)
  by x false e is rest = let (name, at, same) = rest (rw e at is) in (suc name, at, same)
  by None true e is rest = absurd (let c : false ≡ true = e in cc)
  by (Some c) true e is rest = let there = rw e at is in (0, there, number-is entry c.entry e ∙ ap (λ (z : Binding). z.entry) (some-inj there))

-- what a name is bound to is the open object with its record
pub open_with-bound : (bs : Bindings) → AreShared bs → (name : ℕ) (b : Binding) → binding_of bs name ≡ Some b → open_with bs b.entry ≡ Some b
open_with-bound bs shared name b is = by (open_with bs b.entry) refl where
  by : (o : Option Binding) → open_with bs b.entry ≡ o → o ≡ Some b
  by None e =
      let told = open_with_told (λ z. z) bs b.entry in
      let closed : is_open bs b.entry ≡ false = sym told ∙ ap (λ o. is_some (option_map (λ (z : Binding). z) o)) e in
      absurd (let c = sym closed ∙ open-bound bs name b is in cc)
  by (Some c) e = let (other, at, same) = open_with-named bs b.entry c e in ap Some (shared.shared other name c b at is (sym same))

-- a change of an object, name by name
pub binding_of-change : (change : Binding → Binding) (entry : ℕ) (bs : Bindings) (name : ℕ) → binding_of (with_change change entry bs) name ≡ option_map (λ object. if entry == object.entry then change object else object) (binding_of bs name)
binding_of-change change entry [] name = refl
binding_of-change change entry (x ∷ bs) zero = refl
binding_of-change change entry (x ∷ bs) (suc name) = binding_of-change change entry bs name

-- two slots are both empty, or have numbers that belong together
abbrev pub Corresponds : (ℕ → ℕ → Type 0) → Option ℕ → Option ℕ → Type 0
Corresponds R None None = Unit {0}
Corresponds R (Some a) (Some c) = R a c
Corresponds R None (Some c) = ⊥
Corresponds R (Some a) None = ⊥

-- slots whose numbers belong together one to one have as many different numbers
module _ (R : ℕ → ℕ → Type 0) (left : (a c d : ℕ) → R a c → R a d → c ≡ d) (right : (a b c : ℕ) → R a c → R b c → a ≡ b) where
  same-slot : (a c : ℕ) → R a c → (x y : Option ℕ) → Corresponds R x y → is_number a x ≡ is_number c y
  same-slot a c r None None alike = refl
  same-slot a c r (Some b) (Some d) alike = elim (cases_eq a b) [
    | inl same ↦ rw (same, left b c d (rw same at r) alike, same-number b, same-number d) refl
    | inr other ↦ apart a b other ∙ sym (apart c d (λ same. other (right a b d (rw same at r) alike)))
  ]
  same-slot a c r None (Some d) alike = absurd alike
  same-slot a c r (Some b) None alike = absurd alike

  same-any : (a c : ℕ) → R a c → (xs ys : List (Option ℕ)) → length xs ≡ length ys → ((i : ℕ) → Corresponds R (get_or xs i None) (get_or ys i None)) → list_any (is_number a) xs ≡ list_any (is_number c) ys
  same-any a c r [] [] same alike = refl
  same-any a c r (x ∷ xs) (y ∷ ys) same alike = rw (same-slot a c r x y (alike 0), same-any a c r xs ys (omega (arith, same)) (λ i. alike (suc i))) refl
  same-any a c r [] (y ∷ ys) same alike = absurd (omega (arith, same))
  same-any a c r (x ∷ xs) [] same alike = absurd (omega (arith, same))

  pub distinct_count-same : (xs ys : List (Option ℕ)) → length xs ≡ length ys → ((i : ℕ) → Corresponds R (get_or xs i None) (get_or ys i None)) → distinct_count xs ≡ distinct_count ys
  distinct_count-same [] [] same alike = refl
  distinct_count-same (None ∷ xs) (None ∷ ys) same alike = distinct_count-same xs ys (omega (arith, same)) (λ i. alike (suc i))
  distinct_count-same (Some a ∷ xs) (Some c ∷ ys) same alike =
      rw (same-any a c (alike 0) xs ys (omega (arith, same)) (λ i. alike (suc i)), distinct_count-same xs ys (omega (arith, same)) (λ i. alike (suc i))) refl
  distinct_count-same (None ∷ xs) (Some c ∷ ys) same alike = absurd (alike 0)
  distinct_count-same (Some a ∷ xs) (None ∷ ys) same alike = absurd (alike 0)
  distinct_count-same [] (y ∷ ys) same alike = absurd (omega (arith, same))
  distinct_count-same (x ∷ xs) [] same alike = absurd (omega (arith, same))
