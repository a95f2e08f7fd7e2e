-- What is evicted from the back of a list once the first eviction units that are evicted are out of it: the others.
use Rattle.std.proofs.Common.{◌≡◌, ℕ, ◌+◌, ◌≤◌, Bool, true, false, not, ◌||◌, cond, List, [], ◌∷◌, ◌++◌, None, refl, ap, sym, ◌∙◌, subst, arith, ◌⊎◌, inl, inr, ⊎_elim, reverse, append_assoc}
use Rattle.std.specs.List.{cons_option}
use Rattle.std.specs.Str.{bytes_eq}
use Rattle.std.proofs.lemmas.Bool.{cases_Bool, or_cases, or_left, or_right}
use Rattle.blk_model.specs.Items.{Item, main, part, key_of, times}
use Rattle.blk_model.specs.Room.{Group, whole, single, takes, is_out, parts_among, part_number, groups_from_back, not_out, shortest}
use Rattle.blk_model.proofs.Same.{one_item, same_item_self, bytes_eq_self, same_bytes}
use Rattle.blk_model.proofs.Evicted.{out_with_main}
use Rattle.blk_model.proofs.Times.{times-cons}

-- the eviction unit that is evicted for an item, with what comes before it
abbrev own_group : Item → List Item → Group
own_group (main key) before = whole key (reverse (parts_among key before))
own_group (part key n) before = single key n

-- what stays once the eviction unit is evicted
abbrev next : (Item → Bool) → Item → Item → Bool
next stays (main key) = λ other. stays other || bytes_eq key (key_of other)
next stays (part key n) = stays

from-back : (stays : Item → Bool) (item : Item) (before : List Item) → groups_from_back stays (item ∷ before) ≡ cond (stays item) (groups_from_back stays before) (own_group item before ∷ groups_from_back (next stays item) before)
unfolding groups_from_back
from-back stays (main key) before = refl
from-back stays (part key n) before = refl

takes-own : (item : Item) (before : List Item) → takes item (own_group item before) ≡ true
takes-own (main key) before = bytes_eq_self key
takes-own (part key n) before = same_item_self (part key n)

-- eviction units that are evicted from a list, of which the first are still in it, and the rest of all are out
pub record Going (all first : List Group) (stays still : Item → Bool) (list : List Item) : Type 0 where
  pub same : (item : Item) → is_out all item ≡ false → still item ≡ stays item
  pub gone : (item : Item) → 1 ≤ times item list → is_out all item ≡ true → (is_out first item ≡ true) ⊎ ((stays item ≡ true) × (is_out all (main (key_of item)) ≡ true))
  pub among : (item : Item) → is_out first item ≡ true → is_out all item ≡ true
  pub once : (item : Item) → times item list ≤ 1

abbrev pub Left : List Group → List Item → Type 0
Left all list = (first more : List Group) (stays still : Item → Bool) → Going all first stays still list → groups_from_back stays list ≡ first ++ more → groups_from_back still (not_out all list) ≡ more

later : (i j : Item) (list : List Item) → 1 ≤ times i list → 1 ≤ times i (j ∷ list)
later i j list h = let e = times-cons i j list in omega arith

fewer : (i j : Item) (list : List Item) → times i (j ∷ list) ≤ 1 → times i list ≤ 1
fewer i j list h = let e = times-cons i j list in omega arith

here-once : (i : Item) (list : List Item) → 1 ≤ times i list → times i (i ∷ list) ≤ 1 → ⊥
here-once i list h once =
    let e : times i (i ∷ list) ≡ 1 + times i list = times-cons i i list ∙ ap (λ (b : Bool). cond b 1 0 + times i list) (same_item_self i) in
    omega arith

here-stands : (i : Item) (list : List Item) → 1 ≤ times i (i ∷ list)
here-stands i list =
    let e : times i (i ∷ list) ≡ 1 + times i list = times-cons i i list ∙ ap (λ (b : Bool). cond b 1 0 + times i list) (same_item_self i) in
    omega arith

-- parts of a key that stay
parts-left : (all : List Group) (key : List ℕ) (list : List Item) → ((item : Item) → 1 ≤ times item list → is_out all item ≡ true → bytes_eq key (key_of item) ≡ false) → parts_among key (not_out all list) ≡ parts_among key list
parts-left all key [] others = refl
parts-left all key (i ∷ list) others = go (is_out all i) refl (parts-left all key list (λ j h. others j (later j i list h))) where
  none : (i : Item) → bytes_eq key (key_of i) ≡ false → part_number key i ≡ None
  none (main other) e = refl
  none (part other n) e = rw e refl

  go : (b : Bool) → is_out all i ≡ b → parts_among key (not_out all list) ≡ parts_among key list → parts_among key (cond (not b) (i ∷ not_out all list) (not_out all list)) ≡ parts_among key (i ∷ list)
  go true e more = more ∙ ap (λ o. cons_option o (parts_among key list)) (sym (none i (others i (here-stands i list) e)))
  go false e more = ap (cons_option (part_number key i)) more

own-left : (all : List Group) (i : Item) (before : List Item) → ((item : Item) → 1 ≤ times item before → is_out all item ≡ true → bytes_eq (key_of i) (key_of item) ≡ false) → own_group i (not_out all before) ≡ own_group i before
own-left all (main key) before others = ap (λ ns. whole key (reverse ns)) (parts-left all key before others)
own-left all (part key n) before others = refl

head-group : {a b : Group} {more others : List Group} → a ∷ more ≡ b ∷ others → a ≡ b
head-group e = cc

tail-group : {a b : Group} {more others : List Group} → a ∷ more ≡ b ∷ others → more ≡ others
tail-group e = cc

none-more : (first more : List Group) → [] ≡ first ++ more → [] ≡ more
none-more [] more e = e
none-more (g ∷ first) more e = cc

contrary-tests : (b : Bool) → b ≡ true → b ≡ false → ⊥
contrary-tests true e f = cc
contrary-tests false e f = cc

or-none : (a b : Bool) → b ≡ false → (a || b) ≡ a
or-none true b e = refl
or-none false b e = e

module _ (all : List Group) (i : Item) (before : List Item) (rest : Left all before) where
  -- an item that stays
  stays-left : (first more : List Group) (stays still : Item → Bool) → Going all first stays still (i ∷ before) → stays i ≡ true → groups_from_back stays before ≡ first ++ more → groups_from_back still (not_out all (i ∷ before)) ≡ more
  stays-left first more stays still g kept e = go (is_out all i) refl where
    smaller : Going all first stays still before
    smaller = record { same = g.same; gone = λ j h. g.gone j (later j i before h); among = g.among; once = λ j. fewer j i before (g.once j) }

    go : (b : Bool) → is_out all i ≡ b → groups_from_back still (cond (not b) (i ∷ not_out all before) (not_out all before)) ≡ more
    go true out = rest first more stays still smaller e
    go false out =
        from-back still i (not_out all before)
        ∙ ap (λ (b : Bool). cond b (groups_from_back still (not_out all before)) (own_group i (not_out all before) ∷ groups_from_back (next still i) (not_out all before))) (g.same i out ∙ kept)
        ∙ rest first more stays still smaller e

  -- an item that is evicted, once all first eviction units are out
  other-left : (more : List Group) (stays still : Item → Bool) → Going all [] stays still (i ∷ before) → stays i ≡ false → own_group i before ∷ groups_from_back (next stays i) before ≡ more → groups_from_back still (not_out all (i ∷ before)) ≡ more
  other-left more stays still g goes e =
      ap (λ (b : Bool). groups_from_back still (cond (not b) (i ∷ not_out all before) (not_out all before))) in-it
      ∙ from-back still i (not_out all before)
      ∙ ap (λ (b : Bool). cond b (groups_from_back still (not_out all before)) (own_group i (not_out all before) ∷ groups_from_back (next still i) (not_out all before))) (g.same i in-it ∙ goes)
      ∙ ap (λ (group : Group). group ∷ groups_from_back (next still i) (not_out all before)) (own-left all i before apart)
      ∙ ap (λ (groups : List Group). own_group i before ∷ groups) (rest [] (groups_from_back (next stays i) before) (next stays i) (next still i) smaller refl)
      ∙ e
    where
      gone-stays : (j : Item) → 1 ≤ times j (i ∷ before) → is_out all j ≡ true → (stays j ≡ true) × (is_out all (main (key_of j)) ≡ true)
      gone-stays j h out = ⊎_elim (λ (e : is_out [] j ≡ true). absurd (contrary-tests false e refl)) (λ (p : (stays j ≡ true) × (is_out all (main (key_of j)) ≡ true)). p) (g.gone j h out)

      in-it : is_out all i ≡ false
      in-it = ⊎_elim (λ (e : is_out all i ≡ true). absurd (contrary-tests (stays i) (gone-stays i (here-stands i before) e).0 goes)) (λ (e : is_out all i ≡ false). e) (cases_Bool (is_out all i))

      main-in : (k : Item) → is_out all k ≡ false → is_out all (main (key_of k)) ≡ false
      main-in (main key) e = e
      main-in (part key n) e = ⊎_elim (λ (o : is_out all (main key) ≡ true). absurd (contrary-tests (is_out all (part key n)) (out_with_main all key n o) e)) (λ (o : is_out all (main key) ≡ false). o) (cases_Bool (is_out all (main key)))

      apart : (j : Item) → 1 ≤ times j before → is_out all j ≡ true → bytes_eq (key_of i) (key_of j) ≡ false
      apart j h out = ⊎_elim
          (λ (e : bytes_eq (key_of i) (key_of j) ≡ true). absurd (contrary-tests (is_out all (main (key_of j))) (gone-stays j (later j i before h) out).1 (subst (λ key. is_out all (main key) ≡ false) (same_bytes (key_of i) (key_of j) e) (main-in i in-it))))
          (λ (e : bytes_eq (key_of i) (key_of j) ≡ false). e)
          (cases_Bool (bytes_eq (key_of i) (key_of j)))

      same-next : (k : Item) → (j : Item) → still j ≡ stays j → next still k j ≡ next stays k j
      same-next (main key) j e = ap (λ (b : Bool). b || bytes_eq key (key_of j)) e
      same-next (part key n) j e = e

      stays-next : (k j : Item) → stays j ≡ true → next stays k j ≡ true
      stays-next (main key) j e = or_left (stays j) (bytes_eq key (key_of j)) e
      stays-next (part key n) j e = e

      smaller : Going all [] (next stays i) (next still i) before
      smaller = record {
        same = λ j e. same-next i j (g.same j e);
        gone = λ j h e. let p = gone-stays j (later j i before h) e in inr (stays-next i j p.0, p.1);
        among = g.among;
        once = λ j. fewer j i before (g.once j);
      }

  -- an item that is evicted with the first of the first eviction units
  first-left : (group : Group) (first more : List Group) (stays still : Item → Bool) → Going all (group ∷ first) stays still (i ∷ before) → stays i ≡ false → own_group i before ∷ groups_from_back (next stays i) before ≡ group ∷ first ++ more → groups_from_back still (not_out all (i ∷ before)) ≡ more
  first-left group first more stays still g goes e =
      ap (λ (b : Bool). groups_from_back still (cond (not b) (i ∷ not_out all before) (not_out all before))) (g.among i taken)
      ∙ rest first more (next stays i) still smaller (tail-group e)
    where
      is-group : own_group i before ≡ group
      is-group = head-group e

      taken : is_out (group ∷ first) i ≡ true
      taken = or_left (takes i group) (is_out first i) (subst (λ x. takes i x ≡ true) is-group (takes-own i before))

      -- what the eviction unit takes of what comes before the item is out by its key
      with-group : (k : Item) → own_group k before ≡ group → (j : Item) → takes j group ≡ true → (k ≡ j) ⊎ ((next stays k j ≡ true) × (takes (main (key_of j)) group ≡ true))
      with-group (main key) is j t =
          let same : bytes_eq key (key_of j) ≡ true = subst (λ x. takes j x ≡ true) (sym is) t in
          inr (or_right (stays j) (bytes_eq key (key_of j)) same, subst (λ x. takes (main (key_of j)) x ≡ true) is same)
      with-group (part key n) is j t = inl (one_item (part key n) j (subst (λ x. takes j x ≡ true) (sym is) t))

      next-kept : (k j : Item) → own_group k before ≡ group → stays j ≡ true → next stays k j ≡ true
      next-kept (main key) j is e = or_left (stays j) (bytes_eq key (key_of j)) e
      next-kept (part key n) j is e = e

      next-same : (k j : Item) → own_group k before ≡ group → is_out all j ≡ false → next stays k j ≡ stays j
      next-same (main key) j is e =
          or-none (stays j) (bytes_eq key (key_of j)) (⊎_elim
          (λ (same : bytes_eq key (key_of j) ≡ true). absurd (contrary-tests (is_out all j) (g.among j (or_left (takes j group) (is_out first j) (subst (λ x. takes j x ≡ true) is same))) e))
          (λ (other : bytes_eq key (key_of j) ≡ false). other) (cases_Bool (bytes_eq key (key_of j))))
      next-same (part key n) j is e = refl

      gone-next : (j : Item) → 1 ≤ times j before → is_out all j ≡ true → (is_out first j ≡ true) ⊎ ((next stays i j ≡ true) × (is_out all (main (key_of j)) ≡ true))
      gone-next j h out = ⊎_elim
          (λ (e : is_out (group ∷ first) j ≡ true). ⊎_elim
          (λ (t : takes j group ≡ true). ⊎_elim
          (λ (same : i ≡ j). absurd (here-once i before (subst (λ x. 1 ≤ times x before) (sym same) h) (g.once i)))
          (λ (p : (next stays i j ≡ true) × (takes (main (key_of j)) group ≡ true)). inr (p.0, g.among (main (key_of j)) (or_left (takes (main (key_of j)) group) (is_out first (main (key_of j))) p.1)))
          (with-group i is-group j t))
          (λ (o : is_out first j ≡ true). inl o)
          (or_cases (takes j group) (is_out first j) e))
          (λ (p : (stays j ≡ true) × (is_out all (main (key_of j)) ≡ true)). inr (next-kept i j is-group p.0, p.1))
          (g.gone j (later j i before h) out)

      smaller : Going all first (next stays i) still before
      smaller = record {
        same = λ j e. g.same j e ∙ sym (next-same i j is-group e);
        gone = gone-next;
        among = λ j e. g.among j (or_right (takes j group) (is_out first j) e);
        once = λ j. fewer j i before (g.once j);
      }

  step-left : Left all (i ∷ before)
  step-left first more stays still g e = go (stays i) refl (sym (from-back stays i before) ∙ e) where
    goes-left : (gs : List Group) → Going all gs stays still (i ∷ before) → stays i ≡ false → own_group i before ∷ groups_from_back (next stays i) before ≡ gs ++ more → groups_from_back still (not_out all (i ∷ before)) ≡ more
    goes-left [] g goes e = other-left more stays still g goes e
    goes-left (h ∷ gs) g goes e = first-left h gs more stays still g goes e

    go : (b : Bool) → stays i ≡ b → cond (stays i) (groups_from_back stays before) (own_group i before ∷ groups_from_back (next stays i) before) ≡ first ++ more → groups_from_back still (not_out all (i ∷ before)) ≡ more
    go true kept e = stays-left first more stays still g kept (sym (ap (λ (b : Bool). cond b (groups_from_back stays before) (own_group i before ∷ groups_from_back (next stays i) before)) kept) ∙ e)
    go false goes e = goes-left first g goes (sym (ap (λ (b : Bool). cond b (groups_from_back stays before) (own_group i before ∷ groups_from_back (next stays i) before)) goes) ∙ e)

-- without the first eviction units that are evicted, the others are evicted
pub others-left : (all : List Group) (list : List Item) → Left all list
unfolding groups_from_back
others-left all [] = λ first more stays still g e. none-more first more e
others-left all (i ∷ list) = step-left all i list (others-left all list)

-- Until there is enough.

pub same-shortest : (enough other : List Group → Bool) (done groups : List Group) → ((gone : List Group) → enough gone ≡ other gone) → shortest enough done groups ≡ shortest other done groups
same-shortest enough other done [] same = refl
same-shortest enough other done (group ∷ groups) same =
    ap (λ (b : Bool). cond b done (shortest enough (done ++ group ∷ []) groups)) (same done)
    ∙ ap (λ (gs : List Group). cond (other done) done gs) (same-shortest enough other (done ++ group ∷ []) groups same)

-- what is evicted after some that were evicted
after-done : (enough : List Group → Bool) (done gone groups : List Group) → shortest enough (done ++ gone) groups ≡ done ++ shortest (λ more. enough (done ++ more)) gone groups
after-done enough done gone [] = refl
after-done enough done gone (group ∷ groups) = go (enough (done ++ gone)) refl (after-done enough done (gone ++ group ∷ []) groups) where
  go : (b : Bool) → enough (done ++ gone) ≡ b → shortest enough (done ++ (gone ++ group ∷ [])) groups ≡ done ++ shortest (λ more. enough (done ++ more)) (gone ++ group ∷ []) groups → cond (enough (done ++ gone)) (done ++ gone) (shortest enough ((done ++ gone) ++ group ∷ []) groups) ≡ done ++ cond (enough (done ++ gone)) gone (shortest (λ more. enough (done ++ more)) (gone ++ group ∷ []) groups)
  go true e further = ap (λ (b : Bool). cond b (done ++ gone) (shortest enough ((done ++ gone) ++ group ∷ []) groups)) e ∙ sym (ap (λ (b : Bool). done ++ cond b gone (shortest (λ more. enough (done ++ more)) (gone ++ group ∷ []) groups)) e)
  go false e further =
      ap (λ (b : Bool). cond b (done ++ gone) (shortest enough ((done ++ gone) ++ group ∷ []) groups)) e
      ∙ ap (λ (gs : List Group). shortest enough gs groups) (append_assoc done gone (group ∷ []))
      ∙ further
      ∙ sym (ap (λ (b : Bool). done ++ cond b gone (shortest (λ more. enough (done ++ more)) (gone ++ group ∷ []) groups)) e)

-- the eviction units after the first ones, of which the others are the shortest prefix
pub record RestOf (enough : List Group → Bool) (groups first others : List Group) : Type 0 where
  pub behind : List Group
  pub are : groups ≡ first ++ behind
  pub shortest-is : shortest (λ more. enough (first ++ more)) [] behind ≡ others

pub rest-of : (enough : List Group → Bool) (groups first others : List Group) → shortest enough [] groups ≡ first ++ others → RestOf enough groups first others
rest-of enough groups [] others e = record { behind = groups; are = refl; shortest-is = e }
rest-of enough [] (group ∷ first) others e = cc
rest-of enough (h ∷ groups) (group ∷ first) others e = go (enough []) e (λ shorter. rest-of (λ more. enough (group ∷ more)) groups first others shorter) where
  further : cond false [] (shortest enough (h ∷ []) groups) ≡ group ∷ first ++ others → (shortest (λ more. enough (group ∷ more)) [] groups ≡ first ++ others → RestOf (λ more. enough (group ∷ more)) groups first others) → RestOf enough (h ∷ groups) (group ∷ first) others
  further e rest =
      let e2 : h ∷ shortest (λ more. enough (h ∷ more)) [] groups ≡ group ∷ first ++ others = sym (after-done enough (h ∷ []) [] groups) ∙ e in
      let same : h ≡ group = head-group e2 in
      let r = rest (subst (λ g. shortest (λ more. enough (g ∷ more)) [] groups ≡ first ++ others) same (tail-group e2)) in
      record { behind = r.behind; are = ap (λ g. g ∷ groups) same ∙ ap (λ gs. group ∷ gs) r.are; shortest-is = r.shortest-is }

  go : (b : Bool) → cond b [] (shortest enough (h ∷ []) groups) ≡ group ∷ first ++ others → (shortest (λ more. enough (group ∷ more)) [] groups ≡ first ++ others → RestOf (λ more. enough (group ∷ more)) groups first others) → RestOf enough (h ∷ groups) (group ∷ first) others
  go true e rest = cc
  go false e rest = further e rest
