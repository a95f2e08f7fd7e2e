-- Lists of numbered slots: a search by number or by content, and what moving or changing a slot leaves.
use Rattle.std.proofs.Common.{◌≡◌, ℕ, suc, ◌+◌, ◌-◌, ◌<◌, Bool, true, false, ◌||◌, nat_eq, cond, List, [], ◌∷◌, ◌++◌, length, take, Option, None, Some, refl, sym, ◌∙◌, ap, subst, arith, option_map}
use Rattle.std.specs.Option.{option_map_or}
use Rattle.std.specs.List.{All, IsDistinct, AllByRecursion, find, list_any}
use Rattle.std.specs.List.Sorted.{IsPermutation}
use Rattle.std.specs.Map.{keys_of, lookup, lookup_entry, remove_entry, set_value}
use Rattle.std.proofs.lemmas.Bool.Decides.{nat_tests}
use Rattle.std.proofs.lemmas.List.{take_all}
use Rattle.std.proofs.lemmas.List.Sorted.{IsPermutation-append, IsPermutation-to_front, IsPermutation-refl, All-permutation, length_permutation}
use Rattle.std.proofs.lemmas.Map.Keys.{IsDistinct-IsPermutation, IsDistinct-head, IsDistinct-tail, IsDistinct-cons}
use Rattle.std.proofs.lemmas.List.Elements.{All-cons}
use Rattle.lru.specs.LruCache.{lru_cache, put_entries}

-- both answers of a test
pub pick : {P : Type 0} (b : Bool) → (b ≡ true → P) → (b ≡ false → P) → P
pick true when unless = when refl
pick false when unless = unless refl

pub none_of : (a b : Bool) → (a || b) ≡ false → (a ≡ false) × (b ≡ false)
none_of true b e = absurd (clash e)
  where
    clash : true ≡ false → ⊥
    clash c = cc
none_of false b e = (refl, e)

pub same_number : (k : ℕ) → nat_eq k k ≡ true
same_number k = grind (arith, nat_tests)

pub is_number : (k n : ℕ) → nat_eq k n ≡ true → n ≡ k
is_number k n e = grind (arith, nat_tests)

pub swapped : (k n : ℕ) → nat_eq k n ≡ nat_eq n k
swapped k n = grind (arith, nat_tests)

to_front : (front behind : List ℕ) (x : ℕ) → IsPermutation (front ++ x ∷ behind) (x ∷ (front ++ behind))
to_front front behind x = subst (λ l. IsPermutation l (x ∷ (front ++ behind))) (joined front) (IsPermutation-append (front ++ x ∷ []) (x ∷ front) behind behind (IsPermutation-to_front front x) (IsPermutation-refl behind))
  where
    joined : (l : List ℕ) → (l ++ x ∷ []) ++ behind ≡ l ++ x ∷ behind
    joined [] = refl
    joined (y ∷ l) = ap (λ m. y ∷ m) (joined l)

module _ {V : Type 0} where
  -- where a search for a number hits
  pub record Split (k : ℕ) (es : List (ℕ × V)) (v : V) : Type 0 where
    pub front : List (ℕ × V)
    pub behind : List (ℕ × V)
    pub is : es ≡ front ++ (k, v) ∷ behind
    pub none : list_any (nat_eq k) (keys_of front) ≡ false

  deeper : (k : ℕ) (e : ℕ × V) (es : List (ℕ × V)) (v : V) → nat_eq k e.0 ≡ false → Split k es v → Split k (e ∷ es) v
  deeper k e es v miss s = record { front = e ∷ s.front; behind = s.behind; is = ap (λ l. e ∷ l) s.is; none = ap (λ b. b || list_any (nat_eq k) (keys_of s.front)) miss ∙ s.none }

  pub split : (k : ℕ) (es : List (ℕ × V)) (v : V) → lookup (nat_eq k) es ≡ Some v → Split k es v
  split k [] v h = absurd (clash h)
    where
      clash : ◌≡◌ {A = Option V} None (Some v) → ⊥
      clash c = cc
  split k (e ∷ es) v h = pick (nat_eq k e.0)
      (λ hit. record { front = []; behind = es; is = ap (λ (p : ℕ × V). p ∷ es) (pair (is_number k e.0 hit) (inj (sym (ap (λ b. cond b (Some e.1) (lookup (nat_eq k) es)) hit) ∙ h))); none = refl })
      (λ miss. deeper k e es v miss (split k es v (sym (ap (λ b. cond b (Some e.1) (lookup (nat_eq k) es)) miss) ∙ h)))
    where
      inj : {x y : V} → Some x ≡ Some y → x ≡ y
      inj c = cc

      pair : {n : ℕ} {x : V} → n ≡ k → x ≡ v → ◌≡◌ {A = ℕ × V} (n, x) (k, v)
      pair a b = cc

  -- a search for a number after slots that have others
  lookup_entry-split : (k : ℕ) (front behind : List (ℕ × V)) (v : V) → list_any (nat_eq k) (keys_of front) ≡ false → lookup_entry (nat_eq k) (front ++ (k, v) ∷ behind) ≡ Some (k, v)
  lookup_entry-split k [] behind v none = ap (λ b. cond b (Some (k, v)) (lookup_entry (nat_eq k) behind)) (same_number k)
  lookup_entry-split k (e ∷ front) behind v none =
      let parts = none_of (nat_eq k e.0) (list_any (nat_eq k) (keys_of front)) none in
      ap (λ b. cond b (Some e) (lookup_entry (nat_eq k) (front ++ (k, v) ∷ behind))) parts.0 ∙ lookup_entry-split k front behind v parts.1

  pub lookup-split : (k : ℕ) (front behind : List (ℕ × V)) (v : V) → list_any (nat_eq k) (keys_of front) ≡ false → lookup (nat_eq k) (front ++ (k, v) ∷ behind) ≡ Some v
  lookup-split k [] behind v none = ap (λ b. cond b (Some v) (lookup (nat_eq k) behind)) (same_number k)
  lookup-split k (e ∷ front) behind v none =
      let parts = none_of (nat_eq k e.0) (list_any (nat_eq k) (keys_of front)) none in
      ap (λ b. cond b (Some e.1) (lookup (nat_eq k) (front ++ (k, v) ∷ behind))) parts.0 ∙ lookup-split k front behind v parts.1

  remove_entry-split : (k : ℕ) (front behind : List (ℕ × V)) (v : V) → list_any (nat_eq k) (keys_of front) ≡ false → remove_entry (nat_eq k) (front ++ (k, v) ∷ behind) ≡ front ++ behind
  remove_entry-split k [] behind v none = ap (λ b. cond b behind ((k, v) ∷ remove_entry (nat_eq k) behind)) (same_number k)
  remove_entry-split k (e ∷ front) behind v none =
      let parts = none_of (nat_eq k e.0) (list_any (nat_eq k) (keys_of front)) none in
      ap (λ b. cond b (front ++ (k, v) ∷ behind) (e ∷ remove_entry (nat_eq k) (front ++ (k, v) ∷ behind))) parts.0 ∙ ap (λ l. e ∷ l) (remove_entry-split k front behind v parts.1)

  set_value-split : (k : ℕ) (front behind : List (ℕ × V)) (v w : V) → list_any (nat_eq k) (keys_of front) ≡ false → set_value (nat_eq k) (front ++ (k, v) ∷ behind) w ≡ front ++ (k, w) ∷ behind
  set_value-split k [] behind v w none = ap (λ b. cond b ((k, w) ∷ behind) ((k, v) ∷ set_value (nat_eq k) behind w)) (same_number k)
  set_value-split k (e ∷ front) behind v w none =
      let parts = none_of (nat_eq k e.0) (list_any (nat_eq k) (keys_of front)) none in
      ap (λ b. cond b ((e.0, w) ∷ (front ++ (k, v) ∷ behind)) (e ∷ set_value (nat_eq k) (front ++ (k, v) ∷ behind) w)) parts.0 ∙ ap (λ l. e ∷ l) (set_value-split k front behind v w parts.1)

  -- the slots with one of them moved to the front
  abbrev pub moved : ℕ → List (ℕ × V) → List (ℕ × V)
  moved k es = option_map_or (λ e. e ∷ remove_entry (nat_eq k) es) (lookup_entry (nat_eq k) es) es

  pub moved-split : (k : ℕ) (es : List (ℕ × V)) (v : V) (s : Split k es v) → moved k es ≡ (k, v) ∷ (s.front ++ s.behind)
  moved-split k es v s =
      ap (moved k) s.is
      ∙ ap (λ o. option_map_or (λ e. e ∷ remove_entry (nat_eq k) (s.front ++ (k, v) ∷ s.behind)) o (s.front ++ (k, v) ∷ s.behind)) (lookup_entry-split k s.front s.behind v s.none)
      ∙ ap (λ l. (k, v) ∷ l) (remove_entry-split k s.front s.behind v s.none)

  -- the slots with one of them moved to the front and changed there
  pub moved_and_set : (k : ℕ) (es : List (ℕ × V)) (v w : V) (s : Split k es v) → set_value (nat_eq k) (moved k es) w ≡ (k, w) ∷ (s.front ++ s.behind)
  moved_and_set k es v w s = ap (λ l. set_value (nat_eq k) l w) (moved-split k es v s) ∙ set_value-split k [] (s.front ++ s.behind) v w refl

  pub set_in_place : (k : ℕ) (es : List (ℕ × V)) (v w : V) (s : Split k es v) → set_value (nat_eq k) es w ≡ s.front ++ (k, w) ∷ s.behind
  set_in_place k es v w s = ap (λ l. set_value (nat_eq k) l w) s.is ∙ set_value-split k s.front s.behind v w s.none

  keys-append : (xs ys : List (ℕ × V)) → keys_of (xs ++ ys) ≡ keys_of xs ++ keys_of ys
  keys-append [] ys = refl
  keys-append (x ∷ xs) ys = ap (λ l. x.0 ∷ l) (keys-append xs ys)

  -- a slot in front has its number, and the others have theirs
  pub keys_moved : (k : ℕ) (es : List (ℕ × V)) (v w : V) (s : Split k es v) → IsPermutation (keys_of es) (keys_of ((k, w) ∷ (s.front ++ s.behind)))
  keys_moved k es v w s =
      subst (λ l. IsPermutation l (keys_of ((k, w) ∷ (s.front ++ s.behind)))) (sym (ap keys_of s.is ∙ keys-append s.front ((k, v) ∷ s.behind)))
      (subst (λ l. IsPermutation (keys_of s.front ++ k ∷ keys_of s.behind) (k ∷ l)) (sym (keys-append s.front s.behind)) (to_front (keys_of s.front) (keys_of s.behind) k))

  -- there are n slots, whose numbers are below that and differ
  pub record AreSlots (n : ℕ) (es : List (ℕ × V)) : Type 0 where
    pub count : length es ≡ n
    pub distinct : IsDistinct nat_eq (keys_of es)
    pub below : All (λ number. number < n) (keys_of es)

  length-keys : (es : List (ℕ × V)) → length (keys_of es) ≡ length es
  length-keys [] = refl
  length-keys (e ∷ es) = ap suc (length-keys es)

  pub slots_moved : (n : ℕ) (es new : List (ℕ × V)) → IsPermutation (keys_of es) (keys_of new) → AreSlots n es → AreSlots n new
  slots_moved n es new p a = record {
    count = sym (length-keys new) ∙ length_permutation (keys_of es) (keys_of new) p ∙ length-keys es ∙ a.count;
    distinct = IsDistinct-IsPermutation nat_eq swapped (keys_of es) (keys_of new) p a.distinct;
    below = All-permutation (λ number. number < n) (keys_of es) (keys_of new) p a.below;
  }

  pub slots_same : (n : ℕ) (es new : List (ℕ × V)) → keys_of new ≡ keys_of es → AreSlots n es → AreSlots n new
  slots_same n es new same a = slots_moved n es new (subst (IsPermutation (keys_of es)) (sym same) (IsPermutation-refl (keys_of es))) a

  -- the first slot that passes a test
  pub record Found (test : V → Bool) (es : List (ℕ × V)) (e : ℕ × V) : Type 0 where
    pub front : List (ℕ × V)
    pub behind : List (ℕ × V)
    pub is : es ≡ front ++ e ∷ behind
    pub none : list_any (λ slot. test slot.1) front ≡ false
    pub passes : test e.1 ≡ true

  found_deeper : (test : V → Bool) (x : ℕ × V) (es : List (ℕ × V)) (e : ℕ × V) → test x.1 ≡ false → Found test es e → Found test (x ∷ es) e
  found_deeper test x es e miss f = record { front = x ∷ f.front; behind = f.behind; is = ap (λ l. x ∷ l) f.is; none = ap (λ b. b || list_any (λ slot. test slot.1) f.front) miss ∙ f.none; passes = f.passes }

  pub found : (test : V → Bool) (es : List (ℕ × V)) (e : ℕ × V) → find (λ slot. test slot.1) es ≡ Some e → Found test es e
  found test [] e h = absurd (clash h)
    where
      clash : ◌≡◌ {A = Option (ℕ × V)} None (Some e) → ⊥
      clash c = cc
  found test (x ∷ es) e h = pick (test x.1)
      (λ hit. let is : x ≡ e = inj (sym (ap (λ b. cond b (Some x) (find (λ slot. test slot.1) es)) hit) ∙ h) in
      record { front = []; behind = es; is = ap (λ (p : ℕ × V). p ∷ es) is; none = refl; passes = ap (λ (p : ℕ × V). test p.1) (sym is) ∙ hit })
      (λ miss. found_deeper test x es e miss (found test es e (sym (ap (λ b. cond b (Some x) (find (λ slot. test slot.1) es)) miss) ∙ h)))
    where
      inj : {a b : ℕ × V} → Some a ≡ Some b → a ≡ b
      inj c = cc

  pub apart : (front behind : List (ℕ × V)) (e : ℕ × V) → IsDistinct nat_eq (keys_of (front ++ e ∷ behind)) → list_any (nat_eq e.0) (keys_of front) ≡ false
  apart [] behind e d = refl
  apart (x ∷ front) behind e d =
      ap (λ b. b || list_any (nat_eq e.0) (keys_of front)) (swapped e.0 x.0 ∙ later front (IsDistinct-head nat_eq x.0 (keys_of (front ++ e ∷ behind)) d)) ∙ apart front behind e (IsDistinct-tail nat_eq x.0 (keys_of (front ++ e ∷ behind)) d)
    where
      later : (l : List (ℕ × V)) → AllByRecursion (λ y. nat_eq x.0 y ≡ false) (keys_of (l ++ e ∷ behind)) → nat_eq x.0 e.0 ≡ false
      later [] all = all.0
      later (y ∷ l) all = later l all.1

  -- the first slot that passes a test is the one with its number
  abbrev pub split_found : (n : ℕ) (test : V → Bool) (es : List (ℕ × V)) (e : ℕ × V) → AreSlots n es → Found test es e → Split e.0 es e.1
  split_found n test es e a f = record { front = f.front; behind = f.behind; is = f.is; none = apart f.front f.behind e (subst (λ l. IsDistinct nat_eq (keys_of l)) f.is a.distinct) }

  -- a search that hits at the first of what is left
  pub first_passes : (test : V → Bool) (all left : List (ℕ × V)) (x : ℕ × V) (rest : List (ℕ × V)) → test x.1 ≡ true → left ≡ x ∷ rest → find (λ slot. test slot.1) left ≡ find (λ slot. test slot.1) all
      → Some x.0 ≡ option_map (λ (slot : ℕ × V). slot.0) (find (λ slot. test slot.1) all)
  first_passes test all left x rest hit is same =
      ap (λ b. option_map (λ (slot : ℕ × V). slot.0) (cond b (Some x) (find (λ slot. test slot.1) rest))) (sym hit) ∙ ap (λ l. option_map (λ (slot : ℕ × V). slot.0) (find (λ slot. test slot.1) l)) (sym is) ∙ ap (option_map (λ (slot : ℕ × V). slot.0)) same

  above : (k : ℕ) (es : List (ℕ × V)) → All (λ number. number < k) (keys_of es) → AllByRecursion (λ y. nat_eq k y ≡ false) (keys_of es)
  above k [] all = tt
  above k (e ∷ es) all = (other (all 0 0 (omega arith)), above k es (λ i d within. all (suc i) d (omega arith)))
    where
      other : e.0 < k → nat_eq k e.0 ≡ false
      other less = grind (arith, nat_tests)

  absent : (k : ℕ) (es : List (ℕ × V)) → AllByRecursion (λ y. nat_eq k y ≡ false) (keys_of es) → lookup_entry (nat_eq k) es ≡ None
  absent k [] all = refl
  absent k (e ∷ es) all = ap (λ b. cond b (Some e) (lookup_entry (nat_eq k) es)) all.0 ∙ absent k es all.1

  -- a slot more, with the next number
  pub put_new : (k cap : ℕ) (es : List (ℕ × V)) (v : V) → AreSlots k es → k < cap → put_entries nat_eq (lru_cache es cap) k v ≡ (k, v) ∷ es
  put_new k cap es v a less =
      ap (λ o. option_map_or (λ e. (e.0, v) ∷ remove_entry (nat_eq k) es) o ((k, v) ∷ take (cap - 1) es)) (absent k es (above k es a.below)) ∙ ap (λ l. (k, v) ∷ l) (take_all (cap - 1) es (omega (arith, a.count)))

  pub slots_more : (k : ℕ) (es : List (ℕ × V)) (v : V) → AreSlots k es → AreSlots (k + 1) ((k, v) ∷ es)
  slots_more k es v a = record {
    count = omega (arith, a.count);
    distinct = IsDistinct-cons nat_eq k (keys_of es) (above k es a.below) a.distinct;
    below = All-cons (λ number. number < k + 1) k (keys_of es) (omega arith) (λ i d within. omega (arith, a.below i d within));
  }

  pub no_slots : AreSlots 0 []
  unfolding IsDistinct
  no_slots = record { count = refl; distinct = tt; below = λ i d within. absurd (omega arith) }
