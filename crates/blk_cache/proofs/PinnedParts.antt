-- What more is pinned where parts of an object that a handle names are in range.
use Rattle.std.proofs.Common.{◌≡◌, ◌≢◌, ℕ, zero, suc, ◌+◌, List, [], ◌∷◌, length, map, get_or, Bool, true, false, cond, not, Option, Some, None, T, refl, sym, ap, ap₂, ◌∙◌, subst, arith, ⊎_elim}
use Rattle.std.specs.Prelude.{◌==◌, ◌&&◌, ◌||◌, IfSome, filter, if◌then◌else◌, is_some}
use Rattle.std.specs.Bool.{passes}
use Rattle.std.specs.Cmp.{nat_cmp_total, unsigned_tied}
use Rattle.std.specs.FinMap.{find, is_sorted}
use Rattle.std.specs.FinMap.Entries.{length_without}
use Rattle.std.specs.List.{list_any, sum_by}
use Rattle.std.specs.Option.{option_and_then, option_map, option_map_or}
use Rattle.std.specs.Ordering.{eq_by_cmp, nat_cmp}
use Rattle.std.specs.Str.{bytes_eq}
use Rattle.std.proofs.lemmas.Bool.{cases_Bool, eq-eqb, eqb-true, or_right}
use Rattle.std.proofs.lemmas.List.Sums.{sum_by-cons}
use Rattle.spec_image.proofs.Runs.{some_inj}
use Rattle.blk_model.specs.Charge.{part_charge}
use Rattle.blk_model.specs.Holding.{owner}
use Rattle.blk_model.specs.Items.{Item, PartValue, main, part, same_item, signature_of}
use Rattle.blk_model.specs.Room.{charge, count_of, item_count, of_slot, own_charge, pinned, pinned_from, pinned_of, total_of}
use Rattle.blk_model.specs.State.{IsObject, IsValidState, Object, State, is_named, object_at, part_at}
use Rattle.blk_model.proofs.Same.{bytes_eq_self, one_item, same_bytes}
use Rattle.spec_folder.specs.Layout.{IsLayoutOf, Layout, is_listed}
use Rattle.spec_folder.specs.Found.{row_of_loaded}
use Rattle.law_folder.proofs.states.Changing.{same-place}
use Rattle.law_folder.proofs.states.Settling.{main-owned}
use Rattle.blk_object.proofs.WrittenParts.{part-listed}
use Rattle.blk_sparse.specs.Measuring.{charge_there, node_there}
use Rattle.blk_sparse.proofs.FoundParts.{row-has}
use Rattle.blk_cache.specs.Covering.{is_node}

clash : true ≡ false → ⊥
clash h = cc

none-some : {A : Type 0} (x : A) → ◌≡◌ {A = Option A} None (Some x) → ⊥
none-some x e = cc

-- ---- sums over slots

module _ (f : Object → ℕ) (state : State) (covered : List Item) where
  abbrev Of : List Item → ℕ → Option Object → ℕ
  Of parts n slot = of_slot f (option_and_then (pinned_of state parts n) slot)

  rest-same : (slots : List (Option Object)) (base : ℕ) → ((k : ℕ) → Of covered (base + k) (get_or slots k None) ≡ Of [] (base + k) (get_or slots k None)) → sum_by (of_slot f) (pinned_from state covered base slots) ≡ sum_by (of_slot f) (pinned_from state [] base slots)
  rest-same [] base each = refl
  rest-same (slot ∷ slots) base each =
      let one : Of covered base slot ≡ Of [] base slot = subst (λ (n : ℕ). Of covered n slot ≡ Of [] n slot) (let e : base + 0 ≡ base = omega arith in e) (each 0) in
      let more = rest-same slots (base + 1) (λ k. subst (λ (n : ℕ). Of covered n (get_or slots k None) ≡ Of [] n (get_or slots k None)) (let e : base + suc k ≡ base + 1 + k = omega arith in e) (each (suc k))) in
      let now = sum_by-cons (of_slot f) (option_and_then (pinned_of state covered base) slot) (pinned_from state covered (base + 1) slots) in
      let was = sum_by-cons (of_slot f) (option_and_then (pinned_of state [] base) slot) (pinned_from state [] (base + 1) slots) in
      omega (arith, one, more, now, was)

  one-more : (delta i : ℕ) (slots : List (Option Object)) (base : ℕ) (object : Object) → get_or slots i None ≡ Some object → ((k : ℕ) → k ≢ i → Of covered (base + k) (get_or slots k None) ≡ Of [] (base + k) (get_or slots k None))
      → Of covered (base + i) (Some object) ≡ Of [] (base + i) (Some object) + delta → sum_by (of_slot f) (pinned_from state covered base slots) ≡ sum_by (of_slot f) (pinned_from state [] base slots) + delta
  one-more delta i [] base object here others own = absurd (none-some object here)
  one-more delta zero (slot ∷ slots) base object here others own =
      let at : base + 0 ≡ base = omega arith in
      let head : Of covered base slot ≡ Of [] base slot + delta = subst (λ (s : Option Object). Of covered base s ≡ Of [] base s + delta) (sym here) (subst (λ (n : ℕ). Of covered n (Some object) ≡ Of [] n (Some object) + delta) at own) in
      let more = rest-same slots (base + 1) (λ k. subst (λ (n : ℕ). Of covered n (get_or slots k None) ≡ Of [] n (get_or slots k None)) (let e : base + suc k ≡ base + 1 + k = omega arith in e) (others (suc k) (λ e. absurd (let z : ◌≡◌ {A = ℕ} (suc k) 0 = e in omega (arith, z))))) in
      let now = sum_by-cons (of_slot f) (option_and_then (pinned_of state covered base) slot) (pinned_from state covered (base + 1) slots) in
      let was = sum_by-cons (of_slot f) (option_and_then (pinned_of state [] base) slot) (pinned_from state [] (base + 1) slots) in
      omega (arith, head, more, now, was)
  one-more delta (suc i) (slot ∷ slots) base object here others own =
      let at : base + 0 ≡ base = omega arith in
      let head : Of covered base slot ≡ Of [] base slot = subst (λ (n : ℕ). Of covered n slot ≡ Of [] n slot) at (others 0 (λ e. absurd (let z : ◌≡◌ {A = ℕ} 0 (suc i) = e in omega (arith, z)))) in
      let more = one-more delta i slots (base + 1) object here
      (λ k apart. subst (λ (n : ℕ). Of covered n (get_or slots k None) ≡ Of [] n (get_or slots k None)) (let e : base + suc k ≡ base + 1 + k = omega arith in e) (others (suc k) (λ e. apart (let z : suc k ≡ suc i = e in omega (arith, z)))))
      (subst (λ (n : ℕ). Of covered n (Some object) ≡ Of [] n (Some object) + delta) (let e : base + suc i ≡ base + 1 + i = omega arith in e) own) in
      let now = sum_by-cons (of_slot f) (option_and_then (pinned_of state covered base) slot) (pinned_from state covered (base + 1) slots) in
      let was = sum_by-cons (of_slot f) (option_and_then (pinned_of state [] base) slot) (pinned_from state [] (base + 1) slots) in
      omega (arith, head, more, now, was)

-- ---- sums over parts

second-of : (a b : Bool) → T (a && b) → T b
second-of true b p = p
second-of false b p = absurd p

-- what is counted of a part, where it is there
abbrev counted_there : (ℕ × PartValue → ℕ) → List (ℕ × PartValue) → ℕ → ℕ
counted_there f parts n = option_map_or (λ (v : PartValue). f (n, v)) (find nat_cmp n parts) 0

-- a number occurs once
not-again : (p : ℕ × PartValue) (parts : List (ℕ × PartValue)) → T (is_sorted nat_cmp (p ∷ parts)) → find nat_cmp p.0 parts ≡ None
not-again p parts sorted = by (find nat_cmp p.0 parts) refl where
  same : eq_by_cmp nat_cmp p.0 p.0 ≡ true
  same = unsigned_tied p.0 p.0 ∙ eq-eqb p.0 p.0 refl

  all : length (filter (λ (e : ℕ × PartValue). not (eq_by_cmp nat_cmp p.0 e.0)) parts) ≡ length parts
  all =
      let whole = length_without nat_cmp nat_cmp_total p.0 (p ∷ parts) sorted in
      let there : ◌≡◌ {A = ℕ} (cond (is_some (find nat_cmp p.0 (p ∷ parts))) 1 0) 1 = ap (λ (b : Bool). cond {A = ℕ} (is_some (cond b (Some p.1) (find nat_cmp p.0 parts))) 1 0) same in
      let gone : filter (λ (e : ℕ × PartValue). not (eq_by_cmp nat_cmp p.0 e.0)) (p ∷ parts) ≡ filter (λ (e : ℕ × PartValue). not (eq_by_cmp nat_cmp p.0 e.0)) parts =
      ap (λ (b : Bool). cond (not b) (p ∷ filter (λ (e : ℕ × PartValue). not (eq_by_cmp nat_cmp p.0 e.0)) parts) (filter (λ (e : ℕ × PartValue). not (eq_by_cmp nat_cmp p.0 e.0)) parts)) same in
      let long = ap length gone in
      omega (arith, whole, there, long)

  by : (o : Option PartValue) → find nat_cmp p.0 parts ≡ o → o ≡ None
  by None e = refl
  by (Some v) e =
      let rest = length_without nat_cmp nat_cmp_total p.0 parts (second-of _ _ sorted) in
      let there : ◌≡◌ {A = ℕ} (cond (is_some (find nat_cmp p.0 parts)) 1 0) 1 = ap (λ (o : Option PartValue). cond {A = ℕ} (is_some o) 1 0) e in
      absurd (omega (arith, rest, there, all))

-- the entries with a number are the part, where it is there
sum-of-one : (f : ℕ × PartValue → ℕ) (n : ℕ) (parts : List (ℕ × PartValue)) → T (is_sorted nat_cmp parts) → sum_by f (filter (λ (p : ℕ × PartValue). p.0 == n) parts) ≡ counted_there f parts n
sum-of-one f n [] sorted = refl
sum-of-one f n (p ∷ parts) sorted = by (p.0 == n) refl (sum-of-one f n parts (second-of _ _ sorted)) where
  tied : (t : Bool) → (p.0 == n) ≡ t → eq_by_cmp nat_cmp n p.0 ≡ t
  tied true e = unsigned_tied n p.0 ∙ eq-eqb n p.0 (sym (eqb-true p.0 n e))
  tied false e = unsigned_tied n p.0 ∙ turned (n == p.0) refl where
    turned : (t : Bool) → (n == p.0) ≡ t → t ≡ false
    turned false h = refl
    turned true h = absurd (clash (sym (eq-eqb p.0 n (sym (eqb-true n p.0 h))) ∙ e))

  by : (t : Bool) → (p.0 == n) ≡ t → sum_by f (filter (λ (p : ℕ × PartValue). p.0 == n) parts) ≡ counted_there f parts n
      → sum_by f (cond t (p ∷ filter (λ (p : ℕ × PartValue). p.0 == n) parts) (filter (λ (p : ℕ × PartValue). p.0 == n) parts)) ≡ option_map_or (λ (v : PartValue). f (n, v)) (cond (eq_by_cmp nat_cmp n p.0) (Some p.1) (find nat_cmp n parts)) 0
  by true e later =
      let same : p.0 ≡ n = eqb-true p.0 n e in
      let none : counted_there f parts n ≡ 0 = ap (λ (k : ℕ). counted_there f parts k) (sym same) ∙ ap (λ (o : Option PartValue). option_map_or (λ (v : PartValue). f (p.0, v)) o 0) (not-again p parts sorted) in
      let head = sum_by-cons f p (filter (λ (p : ℕ × PartValue). p.0 == n) parts) in
      let its : f p ≡ f (n, p.1) = ap (λ (k : ℕ). f (k, p.1)) same in
      let right : option_map_or (λ (v : PartValue). f (n, v)) (cond (eq_by_cmp nat_cmp n p.0) (Some p.1) (find nat_cmp n parts)) 0 ≡ f (n, p.1) = ap (λ (b : Bool). option_map_or (λ (v : PartValue). f (n, v)) (cond b (Some p.1) (find nat_cmp n parts)) 0) (tied true e) in
      omega (arith, later, none, head, its, right)
  by false e later = later ∙ sym (ap (λ (b : Bool). option_map_or (λ (v : PartValue). f (n, v)) (cond b (Some p.1) (find nat_cmp n parts)) 0) (tied false e))

-- those with one of two numbers are both
sum-of-both : (f : ℕ × PartValue → ℕ) (n m : ℕ) → (n ≡ m → ⊥) → (parts : List (ℕ × PartValue))
    → sum_by f (filter (λ (p : ℕ × PartValue). p.0 == n || p.0 == m) parts) ≡ sum_by f (filter (λ (p : ℕ × PartValue). p.0 == n) parts) + sum_by f (filter (λ (p : ℕ × PartValue). p.0 == m) parts)
sum-of-both f n m apart [] = refl
sum-of-both f n m apart (p ∷ parts) = by (p.0 == n) (p.0 == m) refl refl (sum-of-both f n m apart parts) where
  by : (a b : Bool) → (p.0 == n) ≡ a → (p.0 == m) ≡ b → sum_by f (filter (λ (p : ℕ × PartValue). p.0 == n || p.0 == m) parts) ≡ sum_by f (filter (λ (p : ℕ × PartValue). p.0 == n) parts) + sum_by f (filter (λ (p : ℕ × PartValue). p.0 == m) parts)
      → sum_by f (cond (a || b) (p ∷ filter (λ (p : ℕ × PartValue). p.0 == n || p.0 == m) parts) (filter (λ (p : ℕ × PartValue). p.0 == n || p.0 == m) parts))
      ≡ sum_by f (cond a (p ∷ filter (λ (p : ℕ × PartValue). p.0 == n) parts) (filter (λ (p : ℕ × PartValue). p.0 == n) parts)) + sum_by f (cond b (p ∷ filter (λ (p : ℕ × PartValue). p.0 == m) parts) (filter (λ (p : ℕ × PartValue). p.0 == m) parts))
  by true true one two later = absurd (apart (sym (eqb-true p.0 n one) ∙ eqb-true p.0 m two))
  by true false one two later =
      let both = sum_by-cons f p (filter (λ (p : ℕ × PartValue). p.0 == n || p.0 == m) parts) in
      let first = sum_by-cons f p (filter (λ (p : ℕ × PartValue). p.0 == n) parts) in
      omega (arith, later, both, first)
  by false true one two later =
      let both = sum_by-cons f p (filter (λ (p : ℕ × PartValue). p.0 == n || p.0 == m) parts) in
      let second = sum_by-cons f p (filter (λ (p : ℕ × PartValue). p.0 == m) parts) in
      omega (arith, later, both, second)
  by false false one two later = later

none-of : (f : ℕ × PartValue → ℕ) (parts : List (ℕ × PartValue)) → sum_by f (filter (λ (p : ℕ × PartValue). false) parts) ≡ 0
none-of f [] = refl
none-of f (p ∷ parts) = none-of f parts

all-apart : (key other : List ℕ) → (bytes_eq other key ≡ true → ⊥) → (ns : List ℕ) (n : ℕ) → list_any (same_item (part other n)) (map (part key) ns) ≡ false
all-apart key other apart [] n = refl
all-apart key other apart (m ∷ ns) n = neither (bytes_eq other key) (n == m) (list_any (same_item (part other n)) (map (part key) ns)) apart (all-apart key other apart ns n) where
  neither : (a b c : Bool) → (a ≡ true → ⊥) → c ≡ false → ((a && b) || c) ≡ false
  neither true b c never e = absurd (never refl)
  neither false b c never e = e

-- ---- an object that a handle names

module _ (state : State) (valid : IsValidState state) (number : ℕ) (object : Object) (here : object_at state number ≡ Some object) (live : object.live ≡ true) (named : is_named state number ≡ true) where
  is-object : (n : ℕ) (o : Object) → object_at state n ≡ Some o → IsObject o
  is-object n o at = subst (λ (s : Option Object). IfSome s IsObject) at (valid.objects n)

  sorted : T (is_sorted nat_cmp object.parts)
  sorted = passes _ (is-object number object here).rising

  -- of another one nothing more is pinned
  other-key : (n : ℕ) (o : Object) → n ≢ number → object_at state n ≡ Some o → o.live ≡ true → bytes_eq o.key object.key ≡ true → ⊥
  other-key n o apart at alive same =
      apart (some_inj (sym (main-owned state valid n o true at alive) ∙ ap (λ (key : List ℕ). owner state (main key)) (same_bytes o.key object.key same) ∙ main-owned state valid number object true here live))

  abbrev Pinned : List Item → Object → List (ℕ × PartValue)
  Pinned covered o = filter (λ (p : ℕ × PartValue). list_any (same_item (part o.key p.0)) covered) o.parts

  same-parts : (ns : List ℕ) (n : ℕ) (o : Object) → n ≢ number → object_at state n ≡ Some o → Pinned (map (part object.key) ns) o ≡ Pinned [] o
  same-parts ns n o apart at = by o.live refl where
    by : (t : Bool) → o.live ≡ t → Pinned (map (part object.key) ns) o ≡ Pinned [] o
    by true alive = ap (λ (test : ℕ × PartValue → Bool). filter test o.parts) (λ i p. all-apart object.key o.key (other-key n o apart at alive) ns p.0 i)
    by false dead = let none = (is-object n o at).doomed_has_no_parts dead in ap (filter (λ (p : ℕ × PartValue). list_any (same_item (part o.key p.0)) (map (part object.key) ns))) none ∙ sym (ap (filter (λ (p : ℕ × PartValue). false)) none)

  same-pinned : (ns : List ℕ) (n : ℕ) → n ≢ number → option_and_then (pinned_of state (map (part object.key) ns) n) (object_at state n) ≡ option_and_then (pinned_of state [] n) (object_at state n)
  unfolding pinned_of
  same-pinned ns n apart = by (object_at state n) refl where
    by : (s : Option Object) → object_at state n ≡ s → option_and_then (pinned_of state (map (part object.key) ns) n) s ≡ option_and_then (pinned_of state [] n) s
    by None e = refl
    by (Some o) e = ap (λ (ps : List (ℕ × PartValue)). if not o.live || is_named state n then Some (record o { parts = ps }) else None) (same-parts ns n o apart e)

  -- of the object its parts in range are pinned
  own-pinned : (covered : List Item) → pinned_of state covered number object ≡ Some (record object { parts = Pinned covered object })
  unfolding pinned_of
  own-pinned covered = ap (λ (b : Bool). cond b (Some (record object { parts = Pinned covered object })) None) (or_right (not object.live) (is_named state number) named)

  own-test : (n m : ℕ) → same_item (part object.key n) (part object.key m) ≡ (n == m)
  own-test n m = ap (λ (b : Bool). b && n == m) (bytes_eq_self object.key)

  -- the cost and the count of what is pinned of it
  abbrev Kept : List Item → Object
  Kept covered = record object { parts = Pinned covered object }

  abbrev charge_in : ℕ × PartValue → ℕ
  charge_in p = part_charge object.key (signature_of object.shape) p.0 p.1

  kept-charge : (covered : List Item) → charge (Kept covered) ≡ own_charge object + sum_by charge_in (Pinned covered object)
  unfolding charge
  kept-charge covered = refl

  long-sum : (ps : List (ℕ × PartValue)) → length ps ≡ sum_by (λ (p : ℕ × PartValue). 1) ps
  long-sum [] = refl
  long-sum (p ∷ ps) = let one = sum_by-cons (λ (p : ℕ × PartValue). 1) p ps in let more = long-sum ps in omega (arith, one, more)

  -- one where the part is there
  abbrev pub one_there : ℕ → ℕ
  one_there n = option_map_or (λ (v : PartValue). 1) (part_at object n) 0

  pub record AreMore (covered : List Item) (bytes count : ℕ) : Type 0 where
    pub bytes_more : total_of (pinned state covered) ≡ total_of (pinned state []) + bytes
    pub count_more : count_of (pinned state covered) ≡ count_of (pinned state []) + count

  from-none : (f : Object → ℕ) (covered : List Item) (k : ℕ) → of_slot f (option_and_then (pinned_of state covered k) (object_at state k)) ≡ of_slot f (option_and_then (pinned_of state [] k) (object_at state k))
      → of_slot f (option_and_then (pinned_of state covered (0 + k)) (object_at state k)) ≡ of_slot f (option_and_then (pinned_of state [] (0 + k)) (object_at state k))
  from-none f covered k same =
      subst (λ (n : ℕ). of_slot f (option_and_then (pinned_of state covered n) (object_at state k)) ≡ of_slot f (option_and_then (pinned_of state [] n) (object_at state k))) (let e : k ≡ 0 + k = omega arith in e) same

  -- so what is pinned more is what is pinned of the object more
  more-by : (ns : List ℕ) (bytes count : ℕ) → sum_by charge_in (Pinned (map (part object.key) ns) object) ≡ bytes → sum_by (λ (p : ℕ × PartValue). 1) (Pinned (map (part object.key) ns) object) ≡ count → AreMore (map (part object.key) ns) bytes count
  more-by ns bytes count of_bytes of_count =
      let covered : List Item = map (part object.key) ns in
      let none : sum_by charge_in (Pinned [] object) ≡ 0 = none-of charge_in object.parts in
      let none_long : sum_by (λ (p : ℕ × PartValue). 1) (Pinned [] object) ≡ 0 = none-of (λ (p : ℕ × PartValue). 1) object.parts in
      let at : 0 + number ≡ number = omega arith in
      let own_bytes : of_slot charge (pinned_of state covered number object) ≡ of_slot charge (pinned_of state [] number object) + bytes =
      ap (of_slot charge) (own-pinned covered) ∙ kept-charge covered ∙ (let e : own_charge object + sum_by charge_in (Pinned covered object) ≡ own_charge object + sum_by charge_in (Pinned [] object) + bytes = omega (arith, of_bytes, none) in e)
      ∙ ap (λ (k : ℕ). k + bytes) (sym (ap (of_slot charge) (own-pinned []) ∙ kept-charge [])) in
      let own_count : of_slot item_count (pinned_of state covered number object) ≡ of_slot item_count (pinned_of state [] number object) + count =
      ap (of_slot item_count) (own-pinned covered)
      ∙ (let a = long-sum (Pinned covered object) in let b = long-sum (Pinned [] object) in let e : 1 + length (Pinned covered object) ≡ 1 + length (Pinned [] object) + count = omega (arith, a, b, of_count, none_long) in e)
      ∙ ap (λ (k : ℕ). k + count) (sym (ap (of_slot item_count) (own-pinned []))) in
      record {
        bytes_more = one-more charge state covered bytes number state.objects 0 object here (λ k apart. from-none charge covered k (ap (of_slot charge) (same-pinned ns k apart))) (subst (λ (n : ℕ). of_slot charge (pinned_of state covered n object) ≡ of_slot charge (pinned_of state [] n object) + bytes) (sym at) own_bytes);
        count_more = one-more item_count state covered count number state.objects 0 object here (λ k apart. from-none item_count covered k (ap (of_slot item_count) (same-pinned ns k apart))) (subst (λ (n : ℕ). of_slot item_count (pinned_of state covered n object) ≡ of_slot item_count (pinned_of state [] n object) + count) (sym at) own_count);
      }

  module _ (n : ℕ) where
    one-test : Pinned (map (part object.key) (n ∷ [])) object ≡ filter (λ (p : ℕ × PartValue). p.0 == n) object.parts
    one-test = ap (λ (test : ℕ × PartValue → Bool). filter test object.parts) (λ i p. (or-none (same_item (part object.key p.0) (part object.key n)) ∙ own-test p.0 n) i) where
      or-none : (a : Bool) → (a || false) ≡ a
      or-none true = refl
      or-none false = refl

    pub one-pinned : AreMore (map (part object.key) (n ∷ [])) (charge_there object (signature_of object.shape) n) (one_there n)
    one-pinned = more-by (n ∷ []) (charge_there object (signature_of object.shape) n) (one_there n) (ap (sum_by charge_in) one-test ∙ sum-of-one charge_in n object.parts sorted)
        (ap (sum_by (λ (p : ℕ × PartValue). 1)) one-test ∙ sum-of-one (λ (p : ℕ × PartValue). 1) n object.parts sorted)

  module _ (n m : ℕ) (apart : n ≡ m → ⊥) where
    two-test : Pinned (map (part object.key) (n ∷ m ∷ [])) object ≡ filter (λ (p : ℕ × PartValue). p.0 == n || p.0 == m) object.parts
    two-test = ap (λ (test : ℕ × PartValue → Bool). filter test object.parts) (λ i p. (ap₂ (λ (a b : Bool). a || (b || false)) (own-test p.0 n) (own-test p.0 m) ∙ or-last (p.0 == n) (p.0 == m)) i) where
      or-last : (a b : Bool) → (a || (b || false)) ≡ (a || b)
      or-last true b = refl
      or-last false true = refl
      or-last false false = refl

    both-of : (f : ℕ × PartValue → ℕ) → sum_by f (Pinned (map (part object.key) (n ∷ m ∷ [])) object) ≡ counted_there f object.parts n + counted_there f object.parts m
    both-of f = ap (sum_by f) two-test ∙ sum-of-both f n m apart object.parts ∙ ap₂ (λ (a b : ℕ). a + b) (sum-of-one f n object.parts sorted) (sum-of-one f m object.parts sorted)

    pub two-pinned : AreMore (map (part object.key) (n ∷ m ∷ [])) (charge_there object (signature_of object.shape) n + charge_there object (signature_of object.shape) m) (one_there n + one_there m)
    two-pinned = more-by (n ∷ m ∷ []) (charge_there object (signature_of object.shape) n + charge_there object (signature_of object.shape) m) (one_there n + one_there m) (both-of charge_in) (both-of (λ (p : ℕ × PartValue). 1))

  -- ---- their nodes

  module _ (layout : Layout) (lies : IsLayoutOf state layout) where
    -- a listed item lies at the node of a part exactly where it is that part
    pub node-of-part : (n : ℕ) (item : Item) → is_listed state item ≡ true → is_node (node_there layout object n) (layout.place item) ≡ same_item item (part object.key n)
    node-of-part n item listed = by (part_at object n) refl where
      by : (o : Option PartValue) → part_at object n ≡ o → is_node (option_map (λ (v : PartValue). layout.place (part object.key n)) o) (layout.place item) ≡ same_item item (part object.key n)
      by None e = sym (⊎_elim
          (λ (same : same_item item (part object.key n) ≡ true).
          let there : is_listed state (part object.key n) ≡ true = subst (λ (i : Item). is_listed state i ≡ true) (one_item item (part object.key n) same) listed in
          let p = lies.laid (part object.key n) there in
          absurd (clash (sym (row-has state valid number object here live n (row_of_loaded p.loaded) p.row) ∙ ap is_some e)))
          (λ (same : same_item item (part object.key n) ≡ false). same)
          (cases_Bool (same_item item (part object.key n))))
      by (Some v) e = both (layout.place (part object.key n) == layout.place item) (same_item item (part object.key n)) refl refl where
        both : (a b : Bool) → (layout.place (part object.key n) == layout.place item) ≡ a → same_item item (part object.key n) ≡ b → a ≡ b
        both true true one two = refl
        both false false one two = refl
        both true false one two =
            let same : part object.key n ≡ item = same-place state layout lies (part object.key n) item (part-listed state valid number object here live n v e) listed (eqb-true (layout.place (part object.key n)) (layout.place item) one) in
            absurd (clash (sym (own-test n n ∙ eq-eqb n n refl) ∙ ap (λ (i : Item). same_item i (part object.key n)) same ∙ two))
        both false true one two =
            let same : item ≡ part object.key n = one_item item (part object.key n) two in
            absurd (clash (sym (eq-eqb (layout.place (part object.key n)) (layout.place item) (ap layout.place (sym same))) ∙ one))
