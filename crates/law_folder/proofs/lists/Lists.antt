-- Putting a node in front of a whole list, and taking one out of it, leaves a whole list.
use Rattle.std.proofs.Common.{◌≡◌, ℕ, ◌+◌, ◌≤◌, Bool, true, false, ◌||◌, eqb, List, [], ◌∷◌, ◌++◌, length, refl, sym, ap, ◌∙◌, subst, arith, length-append}
use Rattle.std.proofs.lemmas.Bool.Decides.{nat_tests}
use Rattle.std.proofs.lemmas.Bool.{eq-eqb, ne_eqb, or_parts, or_left, or_right, or_from}
use Rattle.std.proofs.lemmas.List.{append-nil}
use Rattle.spec_folder.specs.ListView.{ListView, put, first_or, last_or, Distinct, Segment, IsList}
use Rattle.spec_folder.specs.Completion.{take_out, put_front}
use Rattle.spec_format.specs.BlockFiles.{is_among}
use Rattle.law_folder.proofs.lists.ListWrites.{put-here, put-else}

pub eqb-sym : (a b : ℕ) → eqb a b ≡ false → eqb b a ≡ false
eqb-sym a b e = grind (arith, nat_tests)

module _ (c : ℕ → Bool) where
  pub frame_next : (nx pv : ℕ → ℕ) (w v b : ℕ) (xs : List ℕ) (e : ℕ) → is_among xs w ≡ false → Segment c nx pv b xs e → Segment c (put nx w v) pv b xs e
  frame_next nx pv w v b [] e lacks s = tt
  frame_next nx pv w v b (x ∷ xs) e lacks s =
      let l = or_parts (eqb x w) (is_among xs w) lacks in
      (record { good = s.0.good; next_is = put-else nx w v x (eqb-sym x w l.0) ∙ s.0.next_is; prev_is = s.0.prev_is }, frame_next nx pv w v x xs e l.1 s.1)

  pub frame_prev : (nx pv : ℕ → ℕ) (w v b : ℕ) (xs : List ℕ) (e : ℕ) → is_among xs w ≡ false → Segment c nx pv b xs e → Segment c nx (put pv w v) b xs e
  frame_prev nx pv w v b [] e lacks s = tt
  frame_prev nx pv w v b (x ∷ xs) e lacks s =
      let l = or_parts (eqb x w) (is_among xs w) lacks in
      (record { good = s.0.good; next_is = s.0.next_is; prev_is = put-else pv w v x (eqb-sym x w l.0) ∙ s.0.prev_is }, frame_prev nx pv w v x xs e l.1 s.1)

  -- another node after the last
  pub reend : (nx pv : ℕ → ℕ) (b x : ℕ) (xs : List ℕ) (e e' : ℕ) → Distinct (x ∷ xs) → Segment c nx pv b (x ∷ xs) e → Segment c (put nx (last_or x xs) e') pv b (x ∷ xs) e'
  reend nx pv b x [] e e' d s = (record { good = s.0.good; next_is = put-here nx x e'; prev_is = s.0.prev_is }, tt)
  reend nx pv b x (y ∷ ys) e e' d s =
      (record { good = s.0.good; next_is = put-else nx (last_or y ys) e' x (last_apart x y ys d.0) ∙ s.0.next_is; prev_is = s.0.prev_is }, reend nx pv x y ys e e' d.1 s.1)
    where
      last_apart : (x y : ℕ) (ys : List ℕ) → is_among (y ∷ ys) x ≡ false → eqb (last_or y ys) x ≡ false
      last_apart x y [] lacks = (or_parts (eqb y x) false lacks).0
      last_apart x y (z ∷ zs) lacks = last_apart x z zs (or_parts (eqb y x) (is_among (z ∷ zs) x) lacks).1

  -- another node before the first
  pub restart : (nx pv : ℕ → ℕ) (b b' y : ℕ) (ys : List ℕ) (e : ℕ) → is_among ys y ≡ false → Segment c nx pv b (y ∷ ys) e → Segment c nx (put pv y b') b' (y ∷ ys) e
  restart nx pv b b' y ys e lacks s =
      (record { good = s.0.good; next_is = s.0.next_is; prev_is = put-here pv y b' }, frame_prev nx pv y b' y ys e lacks s.1)

  first-append : (d : ℕ) (xs ys : List ℕ) → first_or d (xs ++ ys) ≡ first_or (first_or d ys) xs
  first-append d [] ys = refl
  first-append d (x ∷ xs) ys = refl

  pub split : (nx pv : ℕ → ℕ) (b : ℕ) (xs ys : List ℕ) (e : ℕ) → Segment c nx pv b (xs ++ ys) e → Segment c nx pv b xs (first_or e ys) × Segment c nx pv (last_or b xs) ys e
  split nx pv b [] ys e s = (tt, s)
  split nx pv b (x ∷ xs) ys e s =
      let r = split nx pv x xs ys e s.1 in
      ((record { good = s.0.good; next_is = s.0.next_is ∙ first-append e xs ys; prev_is = s.0.prev_is }, r.0), r.1)

  pub join : (nx pv : ℕ → ℕ) (b : ℕ) (xs ys : List ℕ) (e : ℕ) → Segment c nx pv b xs (first_or e ys) → Segment c nx pv (last_or b xs) ys e → Segment c nx pv b (xs ++ ys) e
  join nx pv b [] ys e s t = t
  join nx pv b (x ∷ xs) ys e s t =
      (record { good = s.0.good; next_is = s.0.next_is ∙ sym (first-append e xs ys); prev_is = s.0.prev_is }, join nx pv x xs ys e s.1 t)

pub is_among-append : (xs ys : List ℕ) (w : ℕ) → is_among (xs ++ ys) w ≡ (is_among xs w || is_among ys w)
is_among-append [] ys w = refl
is_among-append (x ∷ xs) ys w = rw (is_among-append xs ys w) (or_assoc (eqb x w) (is_among xs w) (is_among ys w))
  where
    or_assoc : (a b c : Bool) → (a || (b || c)) ≡ ((a || b) || c)
    or_assoc true b c = refl
    or_assoc false b c = refl

-- a node of the one part isn't in the other
pub apart_right : (x : ℕ) (xs ys : List ℕ) → Distinct (x ∷ xs ++ ys) → is_among ys (last_or x xs) ≡ false
apart_right x [] ys d = d.0
apart_right x (y ∷ xs) ys d = apart_right y xs ys d.1

pub apart_left : (xs ys : List ℕ) (w : ℕ) → Distinct (xs ++ ys) → is_among ys w ≡ true → is_among xs w ≡ false
apart_left [] ys w d h = refl
apart_left (x ∷ xs) ys w d h =
    let ih = apart_left xs ys w d.1 h in
    let lacks = or_parts (is_among xs x) (is_among ys x) (sym (is_among-append xs ys x) ∙ d.0) in
    or_from (eqb x w) (is_among xs w) (eqb-sym w x (other w x ys h lacks.1)) ih
  where
    other : (w x : ℕ) (ys : List ℕ) → is_among ys w ≡ true → is_among ys x ≡ false → eqb w x ≡ false
    other w x ys p q = ne_eqb w x (λ e. grind (arith, ap (is_among ys) e))

pub Distinct-left : (xs ys : List ℕ) → Distinct (xs ++ ys) → Distinct xs
Distinct-left [] ys d = tt
Distinct-left (x ∷ xs) ys d = ((or_parts (is_among xs x) (is_among ys x) (sym (is_among-append xs ys x) ∙ d.0)).0, Distinct-left xs ys d.1)

pub Distinct-right : (xs ys : List ℕ) → Distinct (xs ++ ys) → Distinct ys
Distinct-right [] ys d = d
Distinct-right (x ∷ xs) ys d = Distinct-right xs ys d.1

pub Distinct-without : (xs : List ℕ) (n : ℕ) (ys : List ℕ) → Distinct (xs ++ n ∷ ys) → Distinct (xs ++ ys)
Distinct-without [] n ys d = d.1
Distinct-without (x ∷ xs) n ys d = (drop_middle x xs n ys d.0, Distinct-without xs n ys d.1)
  where
    drop_middle : (x : ℕ) (xs : List ℕ) (n : ℕ) (ys : List ℕ) → is_among (xs ++ n ∷ ys) x ≡ false → is_among (xs ++ ys) x ≡ false
    drop_middle x xs n ys e =
        let a = or_parts (is_among xs x) (is_among (n ∷ ys) x) (sym (is_among-append xs (n ∷ ys) x) ∙ e) in
        let b = or_parts (eqb n x) (is_among ys x) a.1 in
        is_among-append xs ys x ∙ rw (a.0, b.1)

-- the node that is taken out is in neither part
pub has_not : (xs : List ℕ) (n : ℕ) (ys : List ℕ) → Distinct (xs ++ n ∷ ys) → is_among (xs ++ ys) n ≡ false
has_not xs n ys d = is_among-append xs ys n ∙ rw (apart_left xs (n ∷ ys) n d (or_left (eqb n n) (is_among ys n) (eq-eqb n n refl)), (Distinct-right xs (n ∷ ys) d).0)

pub last-append : (d : ℕ) (xs ys : List ℕ) → last_or d (xs ++ ys) ≡ last_or (last_or d xs) ys
last-append d [] ys = refl
last-append d (x ∷ xs) ys = last-append x xs ys

-- a node whose checksum is right or absent isn't the word 0
pub not_zero : (l : ListView) (w : ℕ) → l.checks 0 ≡ false → l.checks w ≡ true → eqb w 0 ≡ false
not_zero l w z g = ne_eqb w 0 (λ e. grind (arith, ap l.checks e))

front_empty : (n : ℕ) (l : ListView) → eqb l.head n ≡ false → eqb l.head 0 ≡ true → put_front n l ≡ record l { head = n; tail = n; next = put l.next n n; prev = put l.prev n n }
unfolding put_front
front_empty n l ne empty = rw (ne, empty)

front_full : (n : ℕ) (l : ListView) → eqb l.head n ≡ false → eqb l.head 0 ≡ false → put_front n l ≡ record l { head = n; next = put l.next n l.head; prev = put (put l.prev n n) l.head n }
unfolding put_front
front_full n l ne full = rw (ne, full)

segment_front : (c : ℕ → Bool) (nx pv : ℕ → ℕ) (n h : ℕ) (ys : List ℕ) (e : ℕ) → c n ≡ true → eqb n h ≡ false → is_among ys n ≡ false → is_among ys h ≡ false
    → Segment c nx pv h (h ∷ ys) e → Segment c (put nx n h) (put (put pv n n) h n) n (n ∷ h ∷ ys) e
segment_front c nx pv n h ys e good ne lacks_n lacks_h s = (
  record { good = good; next_is = put-here nx n h; prev_is = put-else (put pv n n) h n n (eqb-sym n h ne) ∙ put-here pv n n },
  restart c (put nx n h) (put pv n n) h n h ys e lacks_h (frame_prev c (put nx n h) pv n n h (h ∷ ys) e (or_none ne lacks_n) (frame_next c nx pv n h h (h ∷ ys) e (or_none ne lacks_n) s)),
)
  where
    or_none : eqb n h ≡ false → is_among ys n ≡ false → is_among (h ∷ ys) n ≡ false
    or_none p q = rw (eqb-sym n h p, q)

-- a node that isn't in the list is put in front
pub list_front : (n : ℕ) (l : ListView) (nodes : List ℕ) → IsList l nodes → is_among nodes n ≡ false → l.checks n ≡ true → length nodes + 1 ≤ 131072 → IsList (put_front n l) (n ∷ nodes)
list_front n l [] list lacks good few =
    let nz : eqb n 0 ≡ false = not_zero l n list.no_zero good in
    let ne : eqb l.head n ≡ false = rw list.head_is (eqb-sym n 0 nz) in
    subst (λ (v : ListView). IsList v (n ∷ [])) (sym (front_empty n l ne (rw list.head_is)))
    record {
      head_is = refl;
      tail_is = refl;
      linked = (record { good = good; next_is = put-here l.next n n; prev_is = put-here l.prev n n }, tt);
      distinct = (refl, tt);
      few = omega arith;
      no_zero = list.no_zero;
    }
list_front n l (h ∷ ys) list lacks good few =
    let parts = or_parts (eqb h n) (is_among ys n) lacks in
    let apart : eqb n h ≡ false = eqb-sym h n parts.0 in
    let nz : eqb h 0 ≡ false = not_zero l h list.no_zero list.linked.0.good in
    let ne : eqb l.head n ≡ false = rw list.head_is parts.0 in
    subst (λ (v : ListView). IsList v (n ∷ h ∷ ys)) (sym (front_full n l ne (rw list.head_is nz)))
    record {
      head_is = refl;
      tail_is = list.tail_is;
      linked = subst (λ k. Segment l.checks (put l.next n k) (put (put l.prev n n) k n) n (n ∷ h ∷ ys) (last_or h ys)) (sym list.head_is)
          (segment_front l.checks l.next l.prev n h ys (last_or h ys) good apart parts.1 list.distinct.0 list.linked);
      distinct = (lacks, list.distinct);
      few = omega arith;
      no_zero = list.no_zero;
    }

module _ (n : ℕ) (l : ListView) (full : eqb (l.next n) 0 ≡ false) where
  take_only : eqb (l.prev n) n ≡ true → eqb (l.next n) n ≡ true → take_out n l ≡ record l { head = 0; tail = 0; next = put l.next n 0 }
  unfolding take_out
  take_only first last = rw (full, first, last)

  take_first : eqb (l.prev n) n ≡ true → eqb (l.next n) n ≡ false → take_out n l ≡ record l { head = l.next n; next = put l.next n 0; prev = put l.prev (l.next n) (l.next n) }
  unfolding take_out
  take_first first last = rw (full, first, last)

  take_last : eqb (l.prev n) n ≡ false → eqb (l.next n) n ≡ true → take_out n l ≡ record l { tail = l.prev n; next = put (put l.next (l.prev n) (l.prev n)) n 0 }
  unfolding take_out
  take_last first last = rw (full, first, last)

  take_middle : eqb (l.prev n) n ≡ false → eqb (l.next n) n ≡ false → take_out n l ≡ record l { next = put (put l.next (l.prev n) (l.next n)) n 0; prev = put l.prev (l.next n) (l.prev n) }
  unfolding take_out
  take_middle first last = rw (full, first, last)

segment_middle : (c : ℕ → Bool) (nx pv : ℕ → ℕ) (b x : ℕ) (xs : List ℕ) (n y : ℕ) (ys : List ℕ) (e : ℕ) → Distinct (x ∷ xs ++ n ∷ y ∷ ys) → Segment c nx pv b (x ∷ xs ++ n ∷ y ∷ ys) e
    → Segment c (put (put nx (last_or x xs) y) n 0) (put pv y (last_or x xs)) b (x ∷ xs ++ y ∷ ys) e
segment_middle c nx pv b x xs n y ys e d s =
    let p : ℕ = last_or x xs in
    let parts = split c nx pv b (x ∷ xs) (n ∷ y ∷ ys) e s in
    let d_right = Distinct-right (x ∷ xs) (n ∷ y ∷ ys) d in
    let p_apart : is_among (y ∷ ys) p ≡ false = (or_parts (eqb n p) (is_among (y ∷ ys) p) (apart_right x xs (n ∷ y ∷ ys) d)).1 in
    let y_apart : is_among (x ∷ xs) y ≡ false = apart_left (x ∷ xs) (n ∷ y ∷ ys) y d (or_right (eqb n y) (is_among (y ∷ ys) y) (or_left (eqb y y) (is_among ys y) (eq-eqb y y refl))) in
    let left = frame_prev c (put nx p y) pv y p b (x ∷ xs) y y_apart (reend c nx pv b x xs n y (Distinct-left (x ∷ xs) (n ∷ y ∷ ys) d) parts.0) in
    let right = restart c (put nx p y) pv n p y ys e d_right.1.0 (frame_next c nx pv p y n (y ∷ ys) e p_apart parts.1.1) in
    frame_next c (put nx p y) (put pv y p) n 0 b (x ∷ xs ++ y ∷ ys) e (has_not (x ∷ xs) n (y ∷ ys) d) (join c (put nx p y) (put pv y p) b (x ∷ xs) (y ∷ ys) e left right)

-- a node of the list is taken out
pub list_out : (n : ℕ) (l : ListView) (xs ys : List ℕ) → IsList l (xs ++ n ∷ ys) → IsList (take_out n l) (xs ++ ys)
list_out n l [] [] list =
    let j = list.linked.0 in
    subst (λ (v : ListView). IsList v []) (sym (take_only n l (rw j.next_is (not_zero l n list.no_zero j.good)) (eq-eqb _ _ j.prev_is) (eq-eqb _ _ j.next_is)))
    record { head_is = refl; tail_is = refl; linked = tt; distinct = tt; few = omega arith; no_zero = list.no_zero }
list_out n l [] (y ∷ ys) list =
    let j = list.linked.0 in
    let k = list.linked.1.0 in
    let ne : eqb n y ≡ false = eqb-sym y n (or_parts (eqb y n) (is_among ys n) list.distinct.0).0 in
    subst (λ (v : ListView). IsList v (y ∷ ys)) (sym (take_first n l (rw j.next_is (not_zero l y list.no_zero k.good)) (eq-eqb _ _ j.prev_is) (rw j.next_is (eqb-sym n y ne))))
    record {
      head_is = j.next_is;
      tail_is = list.tail_is;
      linked = subst (λ m. Segment l.checks (put l.next n 0) (put l.prev m m) y (y ∷ ys) (last_or y ys)) (sym j.next_is)
          (frame_next l.checks l.next (put l.prev y y) n 0 y (y ∷ ys) (last_or y ys) list.distinct.0 (restart l.checks l.next l.prev n y y ys (last_or y ys) list.distinct.1.0 list.linked.1));
      distinct = list.distinct.1;
      few = omega (arith, list.few);
      no_zero = list.no_zero;
    }
list_out n l (x ∷ xs) [] list =
    let p : ℕ = last_or x xs in
    let s : Segment l.checks l.next l.prev x (x ∷ xs ++ n ∷ []) n = subst (λ e. Segment l.checks l.next l.prev x (x ∷ xs ++ n ∷ []) e) (last-append x xs (n ∷ [])) list.linked in
    let parts = split l.checks l.next l.prev x (x ∷ xs) (n ∷ []) n s in
    let j = parts.1.0 in
    let ne : eqb p n ≡ false = eqb-sym n p (or_parts (eqb n p) false (apart_right x xs (n ∷ []) list.distinct)).0 in
    let lacks : is_among (x ∷ xs) n ≡ false = apart_left (x ∷ xs) (n ∷ []) n list.distinct (or_left (eqb n n) false (eq-eqb n n refl)) in
    let d = Distinct-left (x ∷ xs) (n ∷ []) list.distinct in
    subst (λ zs. IsList (take_out n l) (x ∷ zs)) (sym (append-nil xs))
    (subst (λ (v : ListView). IsList v (x ∷ xs)) (sym (take_last n l (rw j.next_is (not_zero l n list.no_zero j.good)) (rw j.prev_is ne) (eq-eqb _ _ j.next_is)))
    record {
      head_is = list.head_is;
      tail_is = j.prev_is;
      linked = subst (λ m. Segment l.checks (put (put l.next m m) n 0) l.prev x (x ∷ xs) p) (sym j.prev_is)
          (frame_next l.checks (put l.next p p) l.prev n 0 x (x ∷ xs) p lacks (reend l.checks l.next l.prev x x xs n p d parts.0));
      distinct = d;
      few = omega (arith, list.few, length-append xs (n ∷ []));
      no_zero = list.no_zero;
    })
list_out n l (x ∷ xs) (y ∷ ys) list =
    let p : ℕ = last_or x xs in
    let e : ℕ = last_or y ys in
    let s : Segment l.checks l.next l.prev x (x ∷ xs ++ n ∷ y ∷ ys) e = subst (λ e. Segment l.checks l.next l.prev x (x ∷ xs ++ n ∷ y ∷ ys) e) (last-append x xs (n ∷ y ∷ ys)) list.linked in
    let parts = split l.checks l.next l.prev x (x ∷ xs) (n ∷ y ∷ ys) e s in
    let j = parts.1.0 in
    let k = parts.1.1.0 in
    let ne_p : eqb p n ≡ false = eqb-sym n p (or_parts (eqb n p) (is_among (y ∷ ys) p) (apart_right x xs (n ∷ y ∷ ys) list.distinct)).0 in
    let ne_y : eqb n y ≡ false = eqb-sym y n (or_parts (eqb y n) (is_among ys n) (Distinct-right (x ∷ xs) (n ∷ y ∷ ys) list.distinct).0).0 in
    subst (λ (v : ListView). IsList v (x ∷ xs ++ y ∷ ys)) (sym (take_middle n l (rw j.next_is (not_zero l y list.no_zero k.good)) (rw j.prev_is ne_p) (rw j.next_is (eqb-sym n y ne_y))))
    record {
      head_is = list.head_is;
      tail_is = list.tail_is ∙ last-append x xs (n ∷ y ∷ ys) ∙ sym (last-append x xs (y ∷ ys));
      linked = subst (λ q. Segment l.checks (put (put l.next q (l.next n)) n 0) (put l.prev (l.next n) q) x (x ∷ xs ++ y ∷ ys) (last_or x (xs ++ y ∷ ys))) (sym j.prev_is)
          (subst (λ m. Segment l.checks (put (put l.next p m) n 0) (put l.prev m p) x (x ∷ xs ++ y ∷ ys) (last_or x (xs ++ y ∷ ys))) (sym j.next_is)
          (subst (λ z. Segment l.checks (put (put l.next p y) n 0) (put l.prev y p) x (x ∷ xs ++ y ∷ ys) z) (sym (last-append x xs (y ∷ ys)))
          (segment_middle l.checks l.next l.prev x x xs n y ys e list.distinct s)));
      distinct = Distinct-without (x ∷ xs) n (y ∷ ys) list.distinct;
      few = omega (arith, list.few, length-append xs (n ∷ y ∷ ys), length-append xs (y ∷ ys));
      no_zero = list.no_zero;
    }
