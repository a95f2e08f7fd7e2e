-- What the names of a state name, with one name more or less.
use Rattle.std.proofs.Common.{◌≡◌, ◌≢◌, ◌⊎◌, inl, inr, ⊎_elim, ℕ, zero, suc, ◌+◌, ◌<◌, ◌≤◌, Bool, true, false, ◌||◌, List, [], ◌∷◌, length, map, Option, Some, None, refl, sym, ap, ap₂, subst, ◌∙◌, arith, cond, get_or, set}
use Rattle.std.specs.Prelude.{◌==◌, if◌then◌else◌, sum_by}
use Rattle.std.specs.List.{list_any}
use Rattle.std.specs.Option.{option_map}
use Rattle.std.proofs.lemmas.Bool.{cases_eq}
use Rattle.std.proofs.lemmas.List.Sums.{sum_by-cons}
use Rattle.blk_model.specs.Room.{charge, of_slot, own_charge, total_of}
use Rattle.blk_model.specs.State.{Object, State, is_named, is_number, object_at}
use Rattle.blk_handles.specs.Bindings.{Binding, Bindings, distinct_count, entries_of, is_open, open_count}
use Rattle.blk_handles.proofs.Basics.{apart, same-number}
use Rattle.blk_handles.proofs.SlotLemmas.{distinct_count-set, list_any-set}
use Rattle.blk_cache.specs.CacheKeeping.{named_from, named_objects}

-- ---- slots

-- a slot that is put back
pub set-back : {A : Type 0} (xs : List (Option A)) (i : ℕ) (x : A) → get_or xs i None ≡ Some x → set (set xs i None) i (Some x) ≡ xs
set-back {A = A} [] i x e = absurd (let c : ◌≡◌ {A = Option A} None (Some x) = e in cc)
set-back {A = A} (y ∷ xs) zero x e = ap (λ (o : Option A). o ∷ xs) (sym e)
set-back {A = A} (y ∷ xs) (suc i) x e = ap (λ (l : List (Option A)). y ∷ l) (set-back xs i x e)

-- what is in slots of which one was set
pub set-cases : {A : Type 0} (xs : List (Option A)) (i : ℕ) (x : Option A) (n : ℕ) (y : A) → get_or (set xs i x) n None ≡ Some y → ((n ≡ i) × (x ≡ Some y)) ⊎ (get_or xs n None ≡ Some y)
set-cases [] i x n y e = inr e
set-cases (z ∷ xs) zero x zero y e = inl (refl, e)
set-cases (z ∷ xs) zero x (suc n) y e = inr e
set-cases (z ∷ xs) (suc i) x zero y e = inr e
set-cases (z ∷ xs) (suc i) x (suc n) y e = ⊎_elim
    (λ (h : (n ≡ i) × (x ≡ Some y)). inl (ap suc h.0, h.1))
    (λ (h : get_or xs n None ≡ Some y). inr h)
    (set-cases xs i x n y e)

set-map : {A B : Type 0} (f : A → B) (xs : List A) (i : ℕ) (x : A) → map f (set xs i x) ≡ set (map f xs) i (f x)
set-map f [] i x = refl
set-map f (y ∷ xs) zero x = refl
set-map {B = B} f (y ∷ xs) (suc i) x = ap (λ (l : List B). f y ∷ l) (set-map f xs i x)

map-none : {A B : Type 0} (f : A → B) (xs : List (Option A)) (i : ℕ) → get_or xs i None ≡ None → get_or (map (option_map f) xs) i None ≡ None
map-none f [] i e = refl
map-none f (None ∷ xs) zero e = refl
map-none f (Some y ∷ xs) zero e = cc
map-none f (y ∷ xs) (suc i) e = map-none f xs i e

map-long : {A B : Type 0} (f : A → B) (xs : List A) → length (map f xs) ≡ length xs
map-long f [] = refl
map-long f (y ∷ xs) = ap suc (map-long f xs)

-- a record is among those of the names where it is open
entry-among : (bindings : Bindings) (entry : ℕ) → list_any (is_number entry) (entries_of bindings) ≡ is_open bindings entry
entry-among [] entry = refl
entry-among (None ∷ bindings) entry = entry-among bindings entry
entry-among (Some b ∷ bindings) entry = ap (λ (t : Bool). (entry == b.entry) || t) (entry-among bindings entry)

-- one name more is one object more, unless that is open
pub count-more : (bindings : Bindings) (name : ℕ) (b : Binding) → name < length bindings → get_or bindings name None ≡ None → open_count (set bindings name (Some b)) ≡ cond (is_open bindings b.entry) 0 1 + open_count bindings
count-more bindings name b within free =
    ap distinct_count (set-map (option_map (λ (o : Binding). o.entry)) bindings name (Some b))
    ∙ distinct_count-set (entries_of bindings) name b.entry (let long = map-long (option_map (λ (o : Binding). o.entry)) bindings in omega (arith, within, long)) (map-none (λ (o : Binding). o.entry) bindings name free)
    ∙ ap (λ (t : Bool). cond t 0 1 + open_count bindings) (entry-among bindings b.entry)

-- ---- named objects

-- after a number, states that name the same but for it name the same
named-behind : (s t : State) (number : ℕ) → ((n : ℕ) → n ≢ number → is_named t n ≡ is_named s n) → (base : ℕ) → number < base → (slots : List (Option Object)) → named_from t base slots ≡ named_from s base slots
named-behind s t number same base behind [] = refl
named-behind s t number same base behind (None ∷ slots) = named-behind s t number same (base + 1) (omega (arith, behind)) slots
named-behind s t number same base behind (Some object ∷ slots) =
    ap₂ (λ (b : Bool) (more : List Object). if b then object ∷ more else more) (same base (λ e. omega (arith, behind, e))) (named-behind s t number same (base + 1) (omega (arith, behind)) slots)

-- so do states that name the same
pub named-same : (s t : State) → ((n : ℕ) → is_named t n ≡ is_named s n) → (base : ℕ) (slots : List (Option Object)) → named_from t base slots ≡ named_from s base slots
named-same s t same base [] = refl
named-same s t same base (None ∷ slots) = named-same s t same (base + 1) slots
named-same s t same base (Some object ∷ slots) = ap₂ (λ (b : Bool) (more : List Object). if b then object ∷ more else more) (same base) (named-same s t same (base + 1) slots)

-- one object more among some
pub record IsOneMore (object : Object) (less more : List Object) : Type 0 where
  pub count : length more ≡ 1 + length less
  pub charged : sum_by own_charge more ≡ own_charge object + sum_by own_charge less

one-in-front : (object : Object) (less : List Object) → IsOneMore object less (object ∷ less)
one-in-front object less = record { count = omega arith; charged = sum_by-cons own_charge object less }

one-behind : (object other : Object) (b : Bool) (less more : List Object) → IsOneMore object less more → IsOneMore object (if b then other ∷ less else less) (if b then other ∷ more else more)
one-behind object other false less more one = one
one-behind object other true less more one =
    let a = sum_by-cons own_charge other less in
    let b = sum_by-cons own_charge other more in
    let c = one.charged in
    let d = one.count in record { count = omega (arith, d); charged = omega (arith, a, b, c) }

-- a state that names one number more names its object more
named-more : (s t : State) (number : ℕ) (object : Object) → is_named s number ≡ false → is_named t number ≡ true → ((n : ℕ) → n ≢ number → is_named t n ≡ is_named s n)
    → (base i : ℕ) → base + i ≡ number → (slots : List (Option Object)) → get_or slots i None ≡ Some object → IsOneMore object (named_from s base slots) (named_from t base slots)
named-more s t number object was now same base i e [] here = absurd (let c : ◌≡◌ {A = Option Object} None (Some object) = here in cc)
named-more s t number object was now same base zero e (None ∷ slots) here = absurd (let c : ◌≡◌ {A = Option Object} None (Some object) = here in cc)
named-more s t number object was now same base zero e (Some o ∷ slots) here =
    let is : o ≡ object = cc in
    let at : base ≡ number = omega (arith, e) in
    let not-was : is_named s base ≡ false = ap (is_named s) at ∙ was in
    let is-now : is_named t base ≡ true = ap (is_named t) at ∙ now in
    let rest : named_from t (base + 1) slots ≡ named_from s (base + 1) slots = named-behind s t number same (base + 1) (omega (arith, e)) slots in
    subst (λ (l : List Object). IsOneMore object l (named_from t base (Some o ∷ slots))) (sym (ap (λ (b : Bool). if b then o ∷ named_from s (base + 1) slots else named_from s (base + 1) slots) not-was))
    (subst (IsOneMore object (named_from s (base + 1) slots)) (sym (ap (λ (b : Bool). if b then o ∷ named_from t (base + 1) slots else named_from t (base + 1) slots) is-now ∙ ap₂ (λ (x : Object) (l : List Object). x ∷ l) is rest)) (one-in-front object (named_from s (base + 1) slots)))
named-more s t number object was now same base (suc i) e (None ∷ slots) here = named-more s t number object was now same (base + 1) i (omega (arith, e)) slots here
named-more s t number object was now same base (suc i) e (Some o ∷ slots) here =
    let one = named-more s t number object was now same (base + 1) i (omega (arith, e)) slots here in
    let alike : is_named t base ≡ is_named s base = same base (λ h. omega (arith, e, h)) in
    subst (λ (b : Bool). IsOneMore object (named_from s base (Some o ∷ slots)) (if b then o ∷ named_from t (base + 1) slots else named_from t (base + 1) slots)) (sym alike)
    (one-behind object o (is_named s base) (named_from s (base + 1) slots) (named_from t (base + 1) slots) one)

-- a slot that isn't named is not looked at
unnamed-slot : (t : State) (base : ℕ) (x : Option Object) (slots : List (Option Object)) → is_named t base ≡ false → named_from t base (x ∷ slots) ≡ named_from t (base + 1) slots
unnamed-slot t base None slots none = refl
unnamed-slot t base (Some o) slots none = ap (λ (b : Bool). if b then o ∷ named_from t (base + 1) slots else named_from t (base + 1) slots) none

pub named-set : (t : State) (number : ℕ) → is_named t number ≡ false → (base i : ℕ) → base + i ≡ number → (slots : List (Option Object)) (x : Option Object) → named_from t base (set slots i x) ≡ named_from t base slots
named-set t number none base i e [] x = refl
named-set t number none base zero e (y ∷ slots) x =
    let here : is_named t base ≡ false = ap (is_named t) (let at : base ≡ number = omega (arith, e) in at) ∙ none in
    unnamed-slot t base x slots here ∙ sym (unnamed-slot t base y slots here)
named-set t number none base (suc i) e (None ∷ slots) x = named-set t number none (base + 1) i (omega (arith, e)) slots x
named-set t number none base (suc i) e (Some o ∷ slots) x = ap (λ (l : List Object). if is_named t base then o ∷ l else l) (named-set t number none (base + 1) i (omega (arith, e)) slots x)

total-with : (o : Object) (b : Bool) (more : List Object) (slots : List (Option Object)) → sum_by own_charge more ≤ total_of slots → sum_by own_charge (if b then o ∷ more else more) ≤ total_of (Some o ∷ slots)
unfolding charge
total-with o false more slots a =
    let b = sum_by-cons (of_slot charge) (Some o) slots in
    omega (arith, a, b)
total-with o true more slots a =
    let b = sum_by-cons (of_slot charge) (Some o) slots in
    let c = sum_by-cons own_charge o more in
    omega (arith, a, b, c)

-- the costs of the named objects sum to at most those of all
pub named-total : (t : State) (base : ℕ) (slots : List (Option Object)) → sum_by own_charge (named_from t base slots) ≤ total_of slots
named-total t base [] = omega arith
named-total t base (None ∷ slots) =
    let a = named-total t (base + 1) slots in
    let b = sum_by-cons (of_slot charge) None slots in
    omega (arith, a, b)
named-total t base (Some o ∷ slots) = total-with o (is_named t base) (named_from t (base + 1) slots) slots (named-total t (base + 1) slots)

-- ---- one name more

-- a name more of an object: the state that has it names one object more, unless it named it already
module _ (less more : State) (handle number : ℕ) (object : Object) (names : more.names ≡ set less.names handle (Some number)) (within : handle < length less.names) (free : get_or less.names handle None ≡ None)
    (here : object_at more number ≡ Some object) (slots : named_objects less ≡ named_from less 0 more.objects) where
  named-now : (n : ℕ) → is_named more n ≡ ((n == number) || is_named less n)
  named-now n = ap (list_any (is_number n)) names ∙ list_any-set (is_number n) less.names handle (Some number) refl within free

  or-false : (b c : Bool) → b ≡ false → (b || c) ≡ c
  or-false true c e = cc
  or-false false c e = refl

  pub named-else : (n : ℕ) → n ≢ number → is_named more n ≡ is_named less n
  named-else n other = named-now n ∙ or-false (n == number) (is_named less n) (apart n number other)

  pub named-it : is_named more number ≡ true
  named-it = named-now number ∙ ap (λ (b : Bool). b || is_named less number) (same-number number)

  -- a second name for an object changes nothing in the list of objects with names
  pub named-before : is_named less number ≡ true → named_objects more ≡ named_objects less
  named-before was = named-same less more (λ n. ⊎_elim (λ (e : n ≡ number). ap (is_named more) e ∙ named-it ∙ sym (ap (is_named less) e ∙ was)) (λ (e : n ≢ number). named-else n e) (cases_eq n number)) 0 more.objects ∙ sym slots

  -- and where it wasn't
  pub named-new : is_named less number ≡ false → IsOneMore object (named_objects less) (named_objects more)
  named-new was = subst (λ (l : List Object). IsOneMore object l (named_objects more)) (sym slots) (named-more less more number object was named-it named-else 0 number (omega arith) more.objects here)
