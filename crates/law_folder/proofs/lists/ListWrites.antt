-- Each write of a redo keeps what the redo gives.
use Rattle.std.proofs.Common.{if◌then◌else◌, ◌≡◌, ℕ, Bool, true, false, not, ◌&&◌, ◌||◌, eqb, List, [], ◌∷◌, ◌++◌, refl, sym, ap, ◌∙◌, subst, arith, ◌⊎◌, inl, inr}
use Rattle.std.proofs.lemmas.Bool.Decides.{nat_tests}
use Rattle.std.proofs.lemmas.Bool.{eq-eqb, and_parts, or_right}
use Rattle.spec_folder.specs.ListView.{ListWrite, Next, Prev, Head, Tail, Transaction, Operation, ListView, put, with_write, after_writes}
use Rattle.spec_folder.specs.Completion.{taking_out, putting_in_front, take_out, put_front, head_counts, links_count, counts, operated, completed_list}
use Rattle.spec_folder.specs.ListPlans.{completed_but_operation, operation_writes, pending_writes, completion_writes, AtEachWrite}

-- a view with no transaction and no operation
abbrev pub rested : ListView → ListView
rested l = record l { transaction = 0; operation = 0 }

put-same_at : (f : ℕ → ℕ) (a x k : ℕ) → put (put f a x) a x k ≡ put f a x k
unfolding put
put-same_at f a x k = grind (arith, nat_tests)

pub put-same : (f : ℕ → ℕ) (a x : ℕ) → put (put f a x) a x ≡ put f a x
put-same f a x = λ i k. put-same_at f a x k i

put-again_at : (f : ℕ → ℕ) (a x b y k : ℕ) → put (put (put (put f a x) b y) a x) b y k ≡ put (put f a x) b y k
unfolding put
put-again_at f a x b y k = grind (arith, nat_tests)

pub put-again : (f : ℕ → ℕ) (a x b y : ℕ) → put (put (put (put f a x) b y) a x) b y ≡ put (put f a x) b y
put-again f a x b y = λ i k. put-again_at f a x b y k i

-- a pending insert of n
abbrev inserting : (n h t : ℕ) (checks : ℕ → Bool) (next prev : ℕ → ℕ) → ListView
inserting n h t checks next prev = record { head = h; tail = t; transaction = n; operation = 1; checks = checks; next = next; prev = prev }

outcome_insert : (n h t : ℕ) (checks : ℕ → Bool) (next prev : ℕ → ℕ) → eqb n 0 ≡ false → checks n ≡ true → (eqb h 0 || checks h) ≡ true → completed_but_operation (inserting n h t checks next prev) ≡ rested (put_front n (inserting n h t checks next prev))
unfolding completed_but_operation completed_list counts operated
outcome_insert n h t checks next prev nz good head_good = rw (nz, good, head_good)

module _ (n h t : ℕ) (checks : ℕ → Bool) (next prev : ℕ → ℕ) (nz : eqb n 0 ≡ false) (good : checks n ≡ true) (head_good : (eqb h 0 || checks h) ≡ true) (ne : eqb h n ≡ false) where
  target_full : eqb h 0 ≡ false → completed_but_operation (inserting n h t checks next prev) ≡ rested (inserting n n t checks (put next n h) (put (put prev n n) h n))
  unfolding put_front
  target_full full = outcome_insert n h t checks next prev nz good head_good ∙ rw (ne, full)

  into_full : eqb h 0 ≡ false → AtEachWrite (λ u. completed_but_operation u ≡ rested (inserting n n t checks (put next n h) (put (put prev n n) h n))) (Next n h ∷ Prev n n ∷ Prev h n ∷ Head n ∷ []) (inserting n h t checks next prev)
  unfolding put_front
  into_full full = (
    target_full full,
    (
      outcome_insert n h t checks (put next n h) prev nz good head_good ∙ rw (ne, full, put-same),
      (
        outcome_insert n h t checks (put next n h) (put prev n n) nz good head_good ∙ rw (ne, full, put-same next, put-same prev),
        (
          outcome_insert n h t checks (put next n h) (put (put prev n n) h n) nz good head_good ∙ rw (ne, full, put-same next, put-again),
          outcome_insert n n t checks (put next n h) (put (put prev n n) h n) nz good (or_right (eqb n 0) (checks n) good) ∙ rw (eq-eqb n n refl),
        ),
      ),
    ),
  )

  into_empty : eqb h 0 ≡ true → AtEachWrite (λ u. completed_but_operation u ≡ rested (inserting n n n checks (put next n n) (put prev n n))) (Next n n ∷ Prev n n ∷ Tail n ∷ Head n ∷ []) (inserting n h t checks next prev)
  unfolding put_front
  into_empty empty = (
    outcome_insert n h t checks next prev nz good head_good ∙ rw (ne, empty),
    (
      outcome_insert n h t checks (put next n n) prev nz good head_good ∙ rw (ne, empty, put-same next),
      (
        outcome_insert n h t checks (put next n n) (put prev n n) nz good head_good ∙ rw (ne, empty, put-same next, put-same prev),
        (
          outcome_insert n h n checks (put next n n) (put prev n n) nz good head_good ∙ rw (ne, empty, put-same next, put-same prev),
          outcome_insert n n n checks (put next n n) (put prev n n) nz good (or_right (eqb n 0) (checks n) good) ∙ rw (eq-eqb n n refl),
        ),
      ),
    ),
  )

pub put-here : (f : ℕ → ℕ) (a x : ℕ) → put f a x a ≡ x
unfolding put
put-here f a x = grind (arith, nat_tests)

pub put-else : (f : ℕ → ℕ) (a x k : ℕ) → eqb a k ≡ false → put f a x k ≡ f k
unfolding put
put-else f a x k e = grind (arith, nat_tests)

pub EachMoment-map : (P Q : ListView → Type 0) → ((u : ListView) → P u → Q u) → (ws : List ListWrite) (l : ListView) → AtEachWrite P ws l → AtEachWrite Q ws l
EachMoment-map P Q f [] l each = f l each
EachMoment-map P Q f (w ∷ ws) l each = (f l each.0, EachMoment-map P Q f ws (with_write l w) each.1)

pub EachMoment-append : (P : ListView → Type 0) (ws vs : List ListWrite) (l : ListView) → AtEachWrite P ws l → AtEachWrite P vs (after_writes ws l) → AtEachWrite P (ws ++ vs) l
EachMoment-append P [] vs l each more = more
EachMoment-append P (w ∷ ws) vs l each more = (each.0, EachMoment-append P ws vs (with_write l w) each.1 more)

-- a pending operation on n
abbrev view : (o n h t : ℕ) (checks : ℕ → Bool) (next prev : ℕ → ℕ) → ListView
view o n h t checks next prev = record { head = h; tail = t; transaction = n; operation = o; checks = checks; next = next; prev = prev }

-- taking n out of u gives T, and may be done
pub record Keeps (o n : ℕ) (g : Bool) (T u : ListView) : Type 0 where
  pub taken : take_out n u ≡ T
  pub links : (eqb (u.next n) 0 || (u.checks (u.next n) && u.checks (u.prev n))) ≡ true
  pub head_good : g ≡ true → (eqb u.head 0 || u.checks u.head) ≡ true
  pub node_good : u.checks n ≡ true
  pub transaction_is : u.transaction ≡ n
  pub operation_is : u.operation ≡ o

module _ (o n h t : ℕ) (checks : ℕ → Bool) (next prev : ℕ → ℕ) (good : checks n ≡ true) (full : eqb (next n) 0 ≡ false) (next_good : checks (next n) ≡ true) (prev_good : checks (prev n) ≡ true) where
  links_good : (eqb (next n) 0 || (checks (next n) && checks (prev n))) ≡ true
  links_good = rw (full, next_good, prev_good)

  some_good : (k : ℕ) → checks k ≡ true → (eqb k 0 || checks k) ≡ true
  some_good k e = or_right (eqb k 0) (checks k) e

  out_only : eqb (prev n) n ≡ true → eqb (next n) n ≡ true
      → AtEachWrite (Keeps o n (eqb h 0 || checks h) (view o n 0 0 checks (put next n 0) prev)) (Head 0 ∷ Tail 0 ∷ Next n 0 ∷ []) (view o n h t checks next prev)
  unfolding take_out
  out_only first last = (
    record { taken = rw (full, first, last); links = links_good; head_good = λ e. e; node_good = good; transaction_is = refl; operation_is = refl },
    (
      record { taken = rw (full, first, last); links = links_good; head_good = λ e. refl; node_good = good; transaction_is = refl; operation_is = refl },
      (
        record { taken = rw (full, first, last); links = links_good; head_good = λ e. refl; node_good = good; transaction_is = refl; operation_is = refl },
        record { taken = rw put-here; links = rw put-here; head_good = λ e. refl; node_good = good; transaction_is = refl; operation_is = refl },
      ),
    ),
  )

  out_first : eqb (prev n) n ≡ true → eqb (next n) n ≡ false
      → AtEachWrite (Keeps o n (eqb h 0 || checks h) (view o n (next n) t checks (put next n 0) (put prev (next n) (next n)))) (Prev (next n) (next n) ∷ Head (next n) ∷ Next n 0 ∷ []) (view o n h t checks next prev)
  unfolding take_out
  out_first first last = (
    record { taken = rw (full, first, last); links = links_good; head_good = λ e. e; node_good = good; transaction_is = refl; operation_is = refl },
    (
      record { taken = rw (put-else prev (next n) (next n) n last, full, first, last, put-same); links = rw (put-else prev (next n) (next n) n last) links_good; head_good = λ e. e; node_good = good; transaction_is = refl; operation_is = refl },
      (
        record { taken = rw (put-else prev (next n) (next n) n last, full, first, last, put-same); links = rw (put-else prev (next n) (next n) n last) links_good; head_good = λ e. some_good (next n) next_good; node_good = good; transaction_is = refl; operation_is = refl },
        record { taken = rw put-here; links = rw put-here; head_good = λ e. some_good (next n) next_good; node_good = good; transaction_is = refl; operation_is = refl },
      ),
    ),
  )

  out_last : eqb (prev n) n ≡ false → eqb (next n) n ≡ true
      → AtEachWrite (Keeps o n (eqb h 0 || checks h) (view o n h (prev n) checks (put (put next (prev n) (prev n)) n 0) prev)) (Next (prev n) (prev n) ∷ Tail (prev n) ∷ Next n 0 ∷ []) (view o n h t checks next prev)
  unfolding take_out
  out_last first last = (
    record { taken = rw (full, first, last); links = links_good; head_good = λ e. e; node_good = good; transaction_is = refl; operation_is = refl },
    (
      record { taken = rw (put-else next (prev n) (prev n) n first, full, first, last, put-same); links = rw (put-else next (prev n) (prev n) n first) links_good; head_good = λ e. e; node_good = good; transaction_is = refl; operation_is = refl },
      (
        record { taken = rw (put-else next (prev n) (prev n) n first, full, first, last, put-same); links = rw (put-else next (prev n) (prev n) n first) links_good; head_good = λ e. e; node_good = good; transaction_is = refl; operation_is = refl },
        record { taken = rw put-here; links = rw put-here; head_good = λ e. e; node_good = good; transaction_is = refl; operation_is = refl },
      ),
    ),
  )

  out_middle : eqb (prev n) n ≡ false → eqb (next n) n ≡ false
      → AtEachWrite (Keeps o n (eqb h 0 || checks h) (view o n h t checks (put (put next (prev n) (next n)) n 0) (put prev (next n) (prev n)))) (Next (prev n) (next n) ∷ Prev (next n) (prev n) ∷ Next n 0 ∷ []) (view o n h t checks next prev)
  unfolding take_out
  out_middle first last = (
    record { taken = rw (full, first, last); links = links_good; head_good = λ e. e; node_good = good; transaction_is = refl; operation_is = refl },
    (
      record { taken = rw (put-else next (prev n) (next n) n first, full, first, last, put-same); links = rw (put-else next (prev n) (next n) n first) links_good; head_good = λ e. e; node_good = good; transaction_is = refl; operation_is = refl },
      (
        record { taken = rw (put-else next (prev n) (next n) n first, put-else prev (next n) (prev n) n last, full, first, last, put-same next, put-same prev); links = rw (put-else next (prev n) (next n) n first, put-else prev (next n) (prev n) n last) links_good; head_good = λ e. e; node_good = good; transaction_is = refl; operation_is = refl },
        record { taken = rw put-here; links = rw put-here; head_good = λ e. e; node_good = good; transaction_is = refl; operation_is = refl },
      ),
    ),
  )

module _ (o n h t : ℕ) (checks : ℕ → Bool) (next prev : ℕ → ℕ) (good : checks n ≡ true) where
  keeps_at : (ws : List ListWrite) (T : ListView) → taking_out n (next n) (prev n) ≡ ws → AtEachWrite (Keeps o n (eqb h 0 || checks h) T) ws (view o n h t checks next prev) → take_out n (view o n h t checks next prev) ≡ T
      → AtEachWrite (Keeps o n (eqb h 0 || checks h) (take_out n (view o n h t checks next prev))) (taking_out n (next n) (prev n)) (view o n h t checks next prev)
  keeps_at ws T e each taken =
      subst (λ us. AtEachWrite (Keeps o n (eqb h 0 || checks h) (take_out n (view o n h t checks next prev))) us (view o n h t checks next prev)) (sym e)
      (subst (λ S. AtEachWrite (Keeps o n (eqb h 0 || checks h) S) ws (view o n h t checks next prev)) (sym taken) each)

  keeps_cases : (a b c : Bool) → eqb (next n) 0 ≡ a → eqb (prev n) n ≡ b → eqb (next n) n ≡ c → (eqb (next n) 0 || (checks (next n) && checks (prev n))) ≡ true
      → AtEachWrite (Keeps o n (eqb h 0 || checks h) (take_out n (view o n h t checks next prev))) (taking_out n (next n) (prev n)) (view o n h t checks next prev)
  unfolding take_out
  keeps_cases true b c empty first last links =
      keeps_at [] (view o n h t checks next prev) (rw empty) (record { taken = rw empty; links = links; head_good = λ e. e; node_good = good; transaction_is = refl; operation_is = refl }) (rw empty)
  keeps_cases false true true full first last links =
      let g = and_parts (checks (next n)) (checks (prev n)) (rw full at links) in
      let each = out_only o n h t checks next prev good full g.0 g.1 first last in
      keeps_at (Head 0 ∷ Tail 0 ∷ Next n 0 ∷ []) _ (rw (full, first, last)) each each.0.taken
  keeps_cases false true false full first last links =
      let g = and_parts (checks (next n)) (checks (prev n)) (rw full at links) in
      let each = out_first o n h t checks next prev good full g.0 g.1 first last in
      keeps_at (Prev (next n) (next n) ∷ Head (next n) ∷ Next n 0 ∷ []) _ (rw (full, first, last)) each each.0.taken
  keeps_cases false false true full first last links =
      let g = and_parts (checks (next n)) (checks (prev n)) (rw full at links) in
      let each = out_last o n h t checks next prev good full g.0 g.1 first last in
      keeps_at (Next (prev n) (prev n) ∷ Tail (prev n) ∷ Next n 0 ∷ []) _ (rw (full, first, last)) each each.0.taken
  keeps_cases false false false full first last links =
      let g = and_parts (checks (next n)) (checks (prev n)) (rw full at links) in
      let each = out_middle o n h t checks next prev good full g.0 g.1 first last in
      keeps_at (Next (prev n) (next n) ∷ Prev (next n) (prev n) ∷ Next n 0 ∷ []) _ (rw (full, first, last)) each each.0.taken

  pub keeps : (eqb (next n) 0 || (checks (next n) && checks (prev n))) ≡ true
      → AtEachWrite (Keeps o n (eqb h 0 || checks h) (take_out n (view o n h t checks next prev))) (taking_out n (next n) (prev n)) (view o n h t checks next prev)
  keeps links = keeps_cases (eqb (next n) 0) (eqb (prev n) n) (eqb (next n) n) refl refl refl links

outcome_remove : (n : ℕ) (g : Bool) (T u : ListView) → eqb n 0 ≡ false → Keeps 2 n g T u → completed_but_operation u ≡ rested T
unfolding completed_but_operation completed_list counts operated
outcome_remove n g T u nz k =
    let e : completed_but_operation u ≡ rested (take_out n u) = rw (k.operation_is, k.transaction_is, nz, k.node_good, k.links) in
    e ∙ ap rested k.taken

outcome_move : (n : ℕ) (g : Bool) (T u : ListView) → eqb n 0 ≡ false → Keeps 3 n g T u → g ≡ true → completed_but_operation u ≡ rested (put_front n T)
unfolding completed_but_operation completed_list counts operated
outcome_move n g T u nz k head_good =
    let e : completed_but_operation u ≡ rested (put_front n (take_out n u)) = rw (k.operation_is, k.transaction_is, nz, k.node_good, k.head_good head_good, k.links) in
    e ∙ ap (λ (v : ListView). rested (put_front n v)) k.taken

pub EachMoment-last : (P : ListView → Type 0) (ws : List ListWrite) (l : ListView) → AtEachWrite P ws l → P (after_writes ws l)
EachMoment-last P [] l each = each
EachMoment-last P (w ∷ ws) l each = EachMoment-last P ws (with_write l w) each.1

pub EachMoment-first : (P : ListView → Type 0) (ws : List ListWrite) (l : ListView) → AtEachWrite P ws l → P l
EachMoment-first P [] l each = each
EachMoment-first P (w ∷ ws) l each = each.0

-- where no operation is in flight
pub outcome_done : (l : ListView) → l.transaction ≡ 0 → completed_but_operation l ≡ rested l
unfolding completed_but_operation completed_list counts
outcome_done l e = rw e

module _ (n h t : ℕ) (checks : ℕ → Bool) (next prev : ℕ → ℕ) (nz : eqb n 0 ≡ false) (good : checks n ≡ true) (head_good : (eqb h 0 || checks h) ≡ true) where
  same_outcome : (T : ListView) (ws : List ListWrite) → putting_in_front n h ≡ ws → AtEachWrite (λ u. completed_but_operation u ≡ T) ws (view 1 n h t checks next prev)
      → AtEachWrite (λ u. completed_but_operation u ≡ completed_but_operation (view 1 n h t checks next prev)) (putting_in_front n h) (view 1 n h t checks next prev)
  same_outcome T ws e each =
      subst (λ us. AtEachWrite (λ u. completed_but_operation u ≡ completed_but_operation (view 1 n h t checks next prev)) us (view 1 n h t checks next prev)) (sym e)
      (EachMoment-map (λ u. completed_but_operation u ≡ T) _ (λ u is. is ∙ sym (EachMoment-first (λ u. completed_but_operation u ≡ T) ws _ each)) ws _ each)

  insert_cases : (a b : Bool) → eqb h n ≡ a → eqb h 0 ≡ b → AtEachWrite (λ u. completed_but_operation u ≡ completed_but_operation (view 1 n h t checks next prev)) (putting_in_front n h) (view 1 n h t checks next prev)
  insert_cases true b at_head empty = same_outcome (completed_but_operation (view 1 n h t checks next prev)) [] (rw at_head) refl
  insert_cases false true ne empty = same_outcome _ (Next n n ∷ Prev n n ∷ Tail n ∷ Head n ∷ []) (rw (ne, empty)) (into_empty n h t checks next prev nz good head_good ne empty)
  insert_cases false false ne full = same_outcome _ (Next n h ∷ Prev n n ∷ Prev h n ∷ Head n ∷ []) (rw (ne, full)) (into_full n h t checks next prev nz good head_good ne full)

-- each write of an insert keeps the outcome
pub insert_keeps : (n : ℕ) (l : ListView) → l.operation ≡ 1 → l.transaction ≡ n → eqb n 0 ≡ false → l.checks n ≡ true → (eqb l.head 0 || l.checks l.head) ≡ true → AtEachWrite (λ u. completed_but_operation u ≡ completed_but_operation l) (putting_in_front n l.head) l
insert_keeps n l o r nz good head_good =
    let same : view 1 n l.head l.tail l.checks l.next l.prev ≡ l = λ i. record { head = l.head; tail = l.tail; transaction = sym r i; operation = sym o i; checks = l.checks; next = l.next; prev = l.prev } in
    subst (λ (v : ListView). AtEachWrite (λ u. completed_but_operation u ≡ completed_but_operation v) (putting_in_front n v.head) v) same
    (insert_cases n l.head l.tail l.checks l.next l.prev nz good head_good (eqb l.head n) (eqb l.head 0) refl refl)

pub outcome_front : (n : ℕ) (l : ListView) → l.operation ≡ 1 → l.transaction ≡ n → eqb n 0 ≡ false → l.checks n ≡ true → (eqb l.head 0 || l.checks l.head) ≡ true → completed_but_operation l ≡ rested (put_front n l)
unfolding completed_but_operation completed_list counts operated
outcome_front n l o r nz good head_good = rw (o, r, nz, good, head_good)

-- the operation word has no part in it
rested_front : (n : ℕ) (l : ListView) (a b : Bool) → eqb l.head n ≡ a → eqb l.head 0 ≡ b → rested (put_front n (with_write l (Operation 1))) ≡ rested (put_front n l)
unfolding put_front
rested_front n l true b at_head empty = rw at_head
rested_front n l false true ne empty = rw (ne, empty)
rested_front n l false false ne empty = rw (ne, empty)

-- taking n out, where the transaction and the operation are known by equations
pub keeps_at_view : (o n : ℕ) (l : ListView) → l.operation ≡ o → l.transaction ≡ n → l.checks n ≡ true → (eqb (l.next n) 0 || (l.checks (l.next n) && l.checks (l.prev n))) ≡ true
    → AtEachWrite (Keeps o n (eqb l.head 0 || l.checks l.head) (take_out n l)) (taking_out n (l.next n) (l.prev n)) l
keeps_at_view o n l is_o is_n good links =
    let same : view o n l.head l.tail l.checks l.next l.prev ≡ l = λ i. record { head = l.head; tail = l.tail; transaction = sym is_n i; operation = sym is_o i; checks = l.checks; next = l.next; prev = l.prev } in
    subst (λ (v : ListView). AtEachWrite (Keeps o n (eqb v.head 0 || v.checks v.head) (take_out n v)) (taking_out n (v.next n) (v.prev n)) v) same
    (keeps o n l.head l.tail l.checks l.next l.prev good links)

-- each write of a removal keeps the outcome
pub remove_keeps : (n : ℕ) (l : ListView) → l.operation ≡ 2 → l.transaction ≡ n → eqb n 0 ≡ false → l.checks n ≡ true → (eqb (l.next n) 0 || (l.checks (l.next n) && l.checks (l.prev n))) ≡ true → AtEachWrite (λ u. completed_but_operation u ≡ rested (take_out n l)) (taking_out n (l.next n) (l.prev n)) l
remove_keeps n l o r nz good links =
    EachMoment-map (Keeps 2 n (eqb l.head 0 || l.checks l.head) (take_out n l)) (λ u. completed_but_operation u ≡ rested (take_out n l)) (λ u k. outcome_remove n (eqb l.head 0 || l.checks l.head) (take_out n l) u nz k) _ _ (keeps_at_view 2 n l o r good links)

module _ (n : ℕ) (l : ListView) (o : l.operation ≡ 3) (r : l.transaction ≡ n) (nz : eqb n 0 ≡ false) (good : l.checks n ≡ true) (head_good : (eqb l.head 0 || l.checks l.head) ≡ true) (links : (eqb (l.next n) 0 || (l.checks (l.next n) && l.checks (l.prev n))) ≡ true) where
  pub move_keeps : AtEachWrite (λ u. completed_but_operation u ≡ rested (put_front n (take_out n l))) (taking_out n (l.next n) (l.prev n) ++ Operation 1 ∷ putting_in_front n (take_out n l).head) l
  unfolding take_out
  move_keeps =
      let T : ListView = take_out n l in
      let g : Bool = eqb l.head 0 || l.checks l.head in
      let each : AtEachWrite (Keeps 3 n g T) (taking_out n (l.next n) (l.prev n)) l = keeps_at_view 3 n l o r good links in
      let k : Keeps 3 n g T T = EachMoment-last (Keeps 3 n g T) (taking_out n (l.next n) (l.prev n)) l each in
      let before : AtEachWrite (λ u. completed_but_operation u ≡ rested (put_front n T)) (taking_out n (l.next n) (l.prev n)) l =
      EachMoment-map (Keeps 3 n g T) (λ u. completed_but_operation u ≡ rested (put_front n T)) (λ u q. outcome_move n g T u nz q head_good) _ _ each in
      let T1 : ListView = with_write T (Operation 1) in
      let turned : completed_but_operation T1 ≡ rested (put_front n T) = outcome_front n T1 refl k.transaction_is nz k.node_good (k.head_good head_good) ∙ rested_front n T (eqb T.head n) (eqb T.head 0) refl refl in
      EachMoment-append _ (taking_out n (l.next n) (l.prev n)) (Operation 1 ∷ putting_in_front n T.head) l before (
        EachMoment-last _ (taking_out n (l.next n) (l.prev n)) l before,
        EachMoment-map (λ u. completed_but_operation u ≡ completed_but_operation T1) _ (λ u q. q ∙ turned) (putting_in_front n T.head) T1 (insert_keeps n T1 refl k.transaction_is nz k.node_good (k.head_good head_good)),
      )

-- what is so where an operation in flight counts
pub record Counting (l : ListView) : Type 0 where
  pub not_zero : eqb l.transaction 0 ≡ false
  pub good : l.checks l.transaction ≡ true
  pub known : (l.operation ≡ 1) ⊎ (l.operation ≡ 2) ⊎ (l.operation ≡ 3)
  pub head_good : (eqb l.operation 2 || head_counts l) ≡ true
  pub links : (eqb l.operation 1 || links_count l l.transaction) ≡ true

counting_parts : (z c o h k : Bool) → (not z && c && o && h && k) ≡ true → (z ≡ false) × (c ≡ true) × (o ≡ true) × (h ≡ true) × (k ≡ true)
counting_parts true c o h k e = absurd (grind arith)
counting_parts false true true true true e = (refl, refl, refl, refl, refl)
counting_parts false false o h k e = absurd (grind arith)
counting_parts false true false h k e = absurd (grind arith)
counting_parts false true true false k e = absurd (grind arith)
counting_parts false true true true false e = absurd (grind arith)

known_operation : (o : ℕ) → (eqb o 1 || eqb o 2 || eqb o 3) ≡ true → (o ≡ 1) ⊎ (o ≡ 2) ⊎ (o ≡ 3)
known_operation o e = grind (arith, nat_tests)

pub counting : (l : ListView) → counts l ≡ true → Counting l
unfolding counts
counting l e =
    let p = counting_parts (eqb l.transaction 0) (l.checks l.transaction) (eqb l.operation 1 || eqb l.operation 2 || eqb l.operation 3) (eqb l.operation 2 || head_counts l) (eqb l.operation 1 || links_count l l.transaction) e in
    record { not_zero = p.0; good = p.1; known = known_operation l.operation p.2; head_good = p.3; links = p.4 }

pub after_writes-append : (ws vs : List ListWrite) (l : ListView) → after_writes (ws ++ vs) l ≡ after_writes vs (after_writes ws l)
after_writes-append [] vs l = refl
after_writes-append (w ∷ ws) vs l = after_writes-append ws vs (with_write l w)

-- the transaction word becomes 0 in the end
finish : (ws : List ListWrite) (l T : ListView) → AtEachWrite (λ u. completed_but_operation u ≡ T) ws l → rested (after_writes ws l) ≡ T → AtEachWrite (λ u. completed_but_operation u ≡ completed_but_operation l) (ws ++ Transaction 0 ∷ []) l
finish ws l T each same =
    EachMoment-map (λ u. completed_but_operation u ≡ T) (λ u. completed_but_operation u ≡ completed_but_operation l) (λ u q. q ∙ sym (EachMoment-first (λ u. completed_but_operation u ≡ T) ws l each)) (ws ++ Transaction 0 ∷ []) l
    (EachMoment-append _ ws (Transaction 0 ∷ []) l each (EachMoment-last _ ws l each, outcome_done (with_write (after_writes ws l) (Transaction 0)) refl ∙ same))

pub pending_insert : (l : ListView) → l.operation ≡ 1 → pending_writes l ≡ putting_in_front l.transaction l.head ++ Transaction 0 ∷ []
unfolding operation_writes
pending_insert l e = ap (λ o. (if eqb o 1 then putting_in_front l.transaction l.head else (if eqb o 2 then taking_out l.transaction (l.next l.transaction) (l.prev l.transaction)
    else taking_out l.transaction (l.next l.transaction) (l.prev l.transaction) ++ Operation 1 ∷ putting_in_front l.transaction (take_out l.transaction l).head)) ++ Transaction 0 ∷ []) e

pub pending_remove : (l : ListView) → l.operation ≡ 2 → pending_writes l ≡ taking_out l.transaction (l.next l.transaction) (l.prev l.transaction) ++ Transaction 0 ∷ []
unfolding operation_writes
pending_remove l e = ap (λ o. (if eqb o 1 then putting_in_front l.transaction l.head else (if eqb o 2 then taking_out l.transaction (l.next l.transaction) (l.prev l.transaction)
    else taking_out l.transaction (l.next l.transaction) (l.prev l.transaction) ++ Operation 1 ∷ putting_in_front l.transaction (take_out l.transaction l).head)) ++ Transaction 0 ∷ []) e

pub pending_move : (l : ListView) → l.operation ≡ 3 → pending_writes l ≡ (taking_out l.transaction (l.next l.transaction) (l.prev l.transaction) ++ Operation 1 ∷ putting_in_front l.transaction (take_out l.transaction l).head) ++ Transaction 0 ∷ []
unfolding operation_writes
pending_move l e = ap (λ o. (if eqb o 1 then putting_in_front l.transaction l.head else (if eqb o 2 then taking_out l.transaction (l.next l.transaction) (l.prev l.transaction)
    else taking_out l.transaction (l.next l.transaction) (l.prev l.transaction) ++ Operation 1 ∷ putting_in_front l.transaction (take_out l.transaction l).head)) ++ Transaction 0 ∷ []) e

-- each write of what is pending keeps the outcome
pub pending_keeps : (l : ListView) → counts l ≡ true → AtEachWrite (λ u. completed_but_operation u ≡ completed_but_operation l) (pending_writes l) l
unfolding put_front take_out
pending_keeps l e = go (counting l e) (counting l e).known
  where
    stays : ListView → Type 0
    stays u = completed_but_operation u ≡ completed_but_operation l

    go : Counting l → (l.operation ≡ 1) ⊎ (l.operation ≡ 2) ⊎ (l.operation ≡ 3) → AtEachWrite (λ u. completed_but_operation u ≡ completed_but_operation l) (pending_writes l) l
    go c (inl one) =
        let n = l.transaction in
        let head_good : (eqb l.head 0 || l.checks l.head) ≡ true = rw one at c.head_good in
        subst (λ ws. AtEachWrite (λ u. completed_but_operation u ≡ completed_but_operation l) ws l) (sym (pending_insert l one))
        (finish (putting_in_front n l.head) l (completed_but_operation l) (insert_keeps n l one refl c.not_zero c.good head_good) (sym (outcome_front n l one refl c.not_zero c.good head_good)))
    go c (inr (inl two)) =
        let n = l.transaction in
        let links : (eqb (l.next n) 0 || (l.checks (l.next n) && l.checks (l.prev n))) ≡ true = rw two at c.links in
        subst (λ ws. AtEachWrite (λ u. completed_but_operation u ≡ completed_but_operation l) ws l) (sym (pending_remove l two))
        (finish (taking_out n (l.next n) (l.prev n)) l (rested (take_out n l)) (remove_keeps n l two refl c.not_zero c.good links) refl)
    go c (inr (inr three)) =
        let n = l.transaction in
        let head_good : (eqb l.head 0 || l.checks l.head) ≡ true = rw three at c.head_good in
        let links : (eqb (l.next n) 0 || (l.checks (l.next n) && l.checks (l.prev n))) ≡ true = rw three at c.links in
        let T : ListView = take_out n l in
        subst (λ ws. AtEachWrite (λ u. completed_but_operation u ≡ completed_but_operation l) ws l) (sym (pending_move l three))
        (finish (taking_out n (l.next n) (l.prev n) ++ Operation 1 ∷ putting_in_front n T.head) l (rested (put_front n T)) (move_keeps n l three refl c.not_zero c.good head_good links)
        (ap rested (after_writes-append (taking_out n (l.next n) (l.prev n)) (Operation 1 ∷ putting_in_front n T.head) l) ∙ rested_front n T (eqb T.head n) (eqb T.head 0) refl refl))

-- no write changes which nodes have a right or absent checksum
pub checks_stay : (ws : List ListWrite) (l : ListView) → (after_writes ws l).checks ≡ l.checks
checks_stay [] l = refl
checks_stay (Next w x ∷ ws) l = checks_stay ws (with_write l (Next w x))
checks_stay (Prev w x ∷ ws) l = checks_stay ws (with_write l (Prev w x))
checks_stay (Head x ∷ ws) l = checks_stay ws (with_write l (Head x))
checks_stay (Tail x ∷ ws) l = checks_stay ws (with_write l (Tail x))
checks_stay (Transaction x ∷ ws) l = checks_stay ws (with_write l (Transaction x))
checks_stay (Operation x ∷ ws) l = checks_stay ws (with_write l (Operation x))

pub checks_out : (n : ℕ) (l : ListView) → (take_out n l).checks ≡ l.checks
unfolding take_out
checks_out n l = checks_stay (taking_out n (l.next n) (l.prev n)) l

ends_zero : (ws : List ListWrite) (l : ListView) → (after_writes (ws ++ Transaction 0 ∷ []) l).transaction ≡ 0
ends_zero ws l = ap (λ (u : ListView). u.transaction) (after_writes-append ws (Transaction 0 ∷ []) l)

pub pending_ends : (l : ListView) → (after_writes (pending_writes l) l).transaction ≡ 0
pending_ends l = ends_zero (operation_writes l) l

outcome_not : (l : ListView) → counts l ≡ false → completed_but_operation l ≡ rested l
unfolding completed_but_operation completed_list
outcome_not l e = rw e

-- each write of a redo keeps what the redo gives
pub completion_keeps : (l : ListView) → AtEachWrite (λ u. completed_but_operation u ≡ completed_but_operation l) (completion_writes l) l
unfolding completion_writes
completion_keeps l = go (eqb l.transaction 0) (counts l) refl
  where
    go : (idle b : Bool) → counts l ≡ b → AtEachWrite (λ u. completed_but_operation u ≡ completed_but_operation l) (if idle then [] else (if b then pending_writes l else Transaction 0 ∷ [])) l
    go true b e = refl
    go false true e = pending_keeps l e
    go false false e = (refl, outcome_done (with_write l (Transaction 0)) refl ∙ sym (outcome_not l e))
