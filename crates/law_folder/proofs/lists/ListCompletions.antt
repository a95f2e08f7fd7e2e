-- At each write of an operation, the redo gives the old list or the new one.
use Rattle.std.proofs.Common.{◌≡◌, ℕ, zero, suc, ◌<◌, Bool, true, false, ◌&&◌, ◌||◌, cond, eqb, ltb, List, [], ◌∷◌, ◌++◌, length, take, refl, sym, ap, ◌∙◌, subst, arith, length-append}
use Rattle.std.proofs.lemmas.Bool.{cond_above, cond_both, eq-eqb, eqb-true, or_parts, or_right}
use Rattle.spec_folder.specs.ListView.{ListWrite, Transaction, Operation, ListView, with_write, after_writes, first_or, last_or, Segment, IsList}
use Rattle.spec_folder.specs.Completion.{counts, completed_list, take_out, put_front}
use Rattle.spec_folder.specs.ListPlans.{completed_but_operation, pending_writes, completion_writes, writes_of, touch_writes, CommitsAtTwo, AtEachWrite, stopped}
use Rattle.spec_folder.specs.Walk.{walk}
use Rattle.spec_format.specs.BlockFiles.{is_among}
use Rattle.law_folder.proofs.lists.ListWrites.{rested, pending_keeps, outcome_front, remove_keeps, move_keeps, checks_out, pending_ends, completion_keeps, counting, EachMoment-map, EachMoment-first, EachMoment-last, outcome_done}
use Rattle.law_folder.proofs.lists.Walks.{walk_list}
use Rattle.law_folder.proofs.lists.Lists.{list_front, list_out, not_zero, split, last-append, has_not}

pub at_moment : (P : ListView → Type 0) (ws : List ListWrite) (l : ListView) (k : ℕ) → AtEachWrite P ws l → P (after_writes (take k ws) l)
at_moment P [] l zero each = each
at_moment P [] l (suc k) each = each
at_moment P (w ∷ ws) l zero each = each.0
at_moment P (w ∷ ws) l (suc k) each = at_moment P ws (with_write l w) k each.1

IsList-pending : (l : ListView) (nodes : List ℕ) (o r : ℕ) → IsList l nodes → IsList (record l { operation = o; transaction = r }) nodes
IsList-pending l nodes o r list = record { head_is = list.head_is; tail_is = list.tail_is; linked = list.linked; distinct = list.distinct; few = list.few; no_zero = list.no_zero }

pub walk_outcome : (l : ListView) → walk (completed_list l) ≡ walk (completed_but_operation l)
unfolding completed_but_operation walk
walk_outcome l = refl

pub walk_at_rest : (l : ListView) (nodes : List ℕ) → l.transaction ≡ 0 → IsList l nodes → walk (completed_list l) ≡ nodes
walk_at_rest l nodes e list = walk_outcome l ∙ ap walk (outcome_done l e) ∙ walk_list (rested l) nodes (IsList-pending l nodes 0 0 list)

-- one operation, whatever it is
turns : (l : ListView) (code n : ℕ) (old new : List ℕ) → l.transaction ≡ 0 → IsList l old → counts (record l { operation = code; transaction = n }) ≡ true
    → walk (completed_but_operation (record l { operation = code; transaction = n })) ≡ new → CommitsAtTwo l (writes_of code n l) old new
turns l code n old new e list c is zero = walk_at_rest l old e list
turns l code n old new e list c is (suc zero) = walk_at_rest (with_write l (Operation code)) old e (IsList-pending l old code l.transaction list)
turns l code n old new e list c is (suc (suc k)) =
    let P : ListView → Type 0 = λ u. walk (completed_list u) ≡ new in
    at_moment P (pending_writes (record l { operation = code; transaction = n })) (record l { operation = code; transaction = n }) k
    (EachMoment-map _ P (λ u same. walk_outcome u ∙ ap walk same ∙ is) _ _ (pending_keeps (record l { operation = code; transaction = n }) c)) ∙ cond_above (suc (suc k)) 2 old new new (omega arith) refl

-- the state at the end
ends : (l : ListView) (nodes : List ℕ) → counts l ≡ true → IsList (completed_but_operation l) nodes → IsList (after_writes (pending_writes l) l) nodes × ((after_writes (pending_writes l) l).transaction ≡ 0)
ends l nodes c list =
    let e : ListView = after_writes (pending_writes l) l in
    let same : completed_but_operation l ≡ rested e = sym (EachMoment-last (λ u. completed_but_operation u ≡ completed_but_operation l) (pending_writes l) l (pending_keeps l c)) ∙ outcome_done e (pending_ends l) in
    (IsList-pending (rested e) nodes e.operation e.transaction (subst (λ (v : ListView). IsList v nodes) same list), pending_ends l)

pub head_good : (l : ListView) (nodes : List ℕ) → IsList l nodes → (eqb l.head 0 || l.checks l.head) ≡ true
head_good l [] list = rw list.head_is
head_good l (h ∷ ys) list = or_right (eqb l.head 0) (l.checks l.head) (rw list.head_is list.linked.0.good)

pub counts_insert : (n : ℕ) (l : ListView) → eqb n 0 ≡ false → l.checks n ≡ true → (eqb l.head 0 || l.checks l.head) ≡ true → counts (record l { operation = 1; transaction = n }) ≡ true
unfolding counts
counts_insert n l nz good head = rw (nz, good, head)

pub counts_remove : (n : ℕ) (l : ListView) → eqb n 0 ≡ false → l.checks n ≡ true → l.checks (l.next n) ≡ true → l.checks (l.prev n) ≡ true → counts (record l { operation = 2; transaction = n }) ≡ true
unfolding counts
counts_remove n l nz good ng pg = rw (nz, good, ng, pg) (or_right (eqb (l.next n) 0) true refl)

pub counts_move : (n : ℕ) (l : ListView) → eqb n 0 ≡ false → l.checks n ≡ true → l.checks (l.next n) ≡ true → l.checks (l.prev n) ≡ true → (eqb l.head 0 || l.checks l.head) ≡ true → counts (record l { operation = 3; transaction = n }) ≡ true
unfolding counts
counts_move n l nz good ng pg head = rw (nz, good, head, ng, pg) (or_right (eqb (l.next n) 0) true refl)

pub record ListedGood (l : ListView) (n : ℕ) : Type 0 where
  pub good : l.checks n ≡ true
  pub next_good : l.checks (l.next n) ≡ true
  pub prev_good : l.checks (l.prev n) ≡ true

pub last_good : (c : ℕ → Bool) (nx pv : ℕ → ℕ) (b x : ℕ) (xs : List ℕ) (e : ℕ) → Segment c nx pv b (x ∷ xs) e → c (last_or x xs) ≡ true
last_good c nx pv b x [] e s = s.0.good
last_good c nx pv b x (y ∷ ys) e s = last_good c nx pv x y ys e s.1

pub listed : (n : ℕ) (l : ListView) (xs ys : List ℕ) → IsList l (xs ++ n ∷ ys) → ListedGood l n
listed n l xs ys list = go xs ys (split l.checks l.next l.prev (first_or 0 (xs ++ n ∷ ys)) xs (n ∷ ys) (last_or 0 (xs ++ n ∷ ys)) list.linked)
  where
    go : (xs ys : List ℕ) → Segment l.checks l.next l.prev (first_or 0 (xs ++ n ∷ ys)) xs n × Segment l.checks l.next l.prev (last_or (first_or 0 (xs ++ n ∷ ys)) xs) (n ∷ ys) (last_or 0 (xs ++ n ∷ ys)) → ListedGood l n
    go [] [] s = record { good = s.1.0.good; next_good = rw s.1.0.next_is s.1.0.good; prev_good = rw s.1.0.prev_is s.1.0.good }
    go [] (y ∷ ys) s = record { good = s.1.0.good; next_good = rw s.1.0.next_is s.1.1.0.good; prev_good = rw s.1.0.prev_is s.1.0.good }
    go (x ∷ xs) [] s = record { good = s.1.0.good; next_good = rw (s.1.0.next_is, last-append x xs (n ∷ [])) s.1.0.good; prev_good = rw s.1.0.prev_is (last_good l.checks l.next l.prev x x xs n s.0) }
    go (x ∷ xs) (y ∷ ys) s = record { good = s.1.0.good; next_good = rw s.1.0.next_is s.1.1.0.good; prev_good = rw s.1.0.prev_is (last_good l.checks l.next l.prev x x xs n s.0) }

module _ (n : ℕ) (l : ListView) (nodes : List ℕ) (list : IsList l nodes) (e : l.transaction ≡ 0) (lacks : is_among nodes n ≡ false) (good : l.checks n ≡ true) (few : length nodes < 131072) where
  inserted : IsList (completed_but_operation (record l { operation = 1; transaction = n })) (n ∷ nodes)
  inserted =
      let l1 : ListView = record l { operation = 1; transaction = n } in
      subst (λ (v : ListView). IsList v (n ∷ nodes)) (sym (outcome_front n l1 refl refl (not_zero l n list.no_zero good) good (head_good l nodes list)))
      (IsList-pending (put_front n l1) (n ∷ nodes) 0 0 (list_front n l1 nodes (IsList-pending l nodes 1 n list) lacks good (omega arith)))

  pub insert_counts : counts (record l { operation = 1; transaction = n }) ≡ true
  insert_counts = counts_insert n l (not_zero l n list.no_zero good) good (head_good l nodes list)

  pub insert_turns : CommitsAtTwo l (writes_of 1 n l) nodes (n ∷ nodes)
  insert_turns = turns l 1 n nodes (n ∷ nodes) e list insert_counts (walk_list (completed_but_operation (record l { operation = 1; transaction = n })) (n ∷ nodes) inserted)

  pub insert_ends : IsList (after_writes (writes_of 1 n l) l) (n ∷ nodes) × ((after_writes (writes_of 1 n l) l).transaction ≡ 0)
  insert_ends = ends (record l { operation = 1; transaction = n }) (n ∷ nodes) insert_counts inserted

module _ (n : ℕ) (l : ListView) (xs ys : List ℕ) (list : IsList l (xs ++ n ∷ ys)) (e : l.transaction ≡ 0) where
  pub links_good : (eqb (l.next n) 0 || (l.checks (l.next n) && l.checks (l.prev n))) ≡ true
  links_good = let g = listed n l xs ys list in or_right (eqb (l.next n) 0) (l.checks (l.next n) && l.checks (l.prev n)) (rw (g.next_good, g.prev_good))

  removed : IsList (completed_but_operation (record l { operation = 2; transaction = n })) (xs ++ ys)
  removed =
      let l1 : ListView = record l { operation = 2; transaction = n } in
      let g = listed n l xs ys list in
      subst (λ (v : ListView). IsList v (xs ++ ys)) (sym (EachMoment-first (λ u. completed_but_operation u ≡ rested (take_out n l1)) _ l1 (remove_keeps n l1 refl refl (not_zero l n list.no_zero g.good) g.good links_good)))
      (IsList-pending (take_out n l1) (xs ++ ys) 0 0 (list_out n l1 xs ys (IsList-pending l (xs ++ n ∷ ys) 2 n list)))

  pub remove_counts : counts (record l { operation = 2; transaction = n }) ≡ true
  remove_counts = let g = listed n l xs ys list in counts_remove n l (not_zero l n list.no_zero g.good) g.good g.next_good g.prev_good

  pub remove_turns : CommitsAtTwo l (writes_of 2 n l) (xs ++ n ∷ ys) (xs ++ ys)
  remove_turns = turns l 2 n (xs ++ n ∷ ys) (xs ++ ys) e list remove_counts (walk_list (completed_but_operation (record l { operation = 2; transaction = n })) (xs ++ ys) removed)

  pub remove_ends : IsList (after_writes (writes_of 2 n l) l) (xs ++ ys) × ((after_writes (writes_of 2 n l) l).transaction ≡ 0)
  remove_ends = ends (record l { operation = 2; transaction = n }) (xs ++ ys) remove_counts removed

  moved : IsList (completed_but_operation (record l { operation = 3; transaction = n })) (n ∷ xs ++ ys)
  moved =
      let l1 : ListView = record l { operation = 3; transaction = n } in
      let g = listed n l xs ys list in
      let T : ListView = take_out n l1 in
      subst (λ (v : ListView). IsList v (n ∷ xs ++ ys)) (sym (EachMoment-first (λ u. completed_but_operation u ≡ rested (put_front n T)) _ l1 (move_keeps n l1 refl refl (not_zero l n list.no_zero g.good) g.good (head_good l (xs ++ n ∷ ys) list) links_good)))
      (IsList-pending (put_front n T) (n ∷ xs ++ ys) 0 0
      (list_front n T (xs ++ ys) (list_out n l1 xs ys (IsList-pending l (xs ++ n ∷ ys) 3 n list)) (has_not xs n ys list.distinct) (ap (λ (c : ℕ → Bool). c n) (checks_out n l1) ∙ g.good)
      (omega (arith, list.few, length-append xs (n ∷ ys), length-append xs ys))))

  pub move_counts : counts (record l { operation = 3; transaction = n }) ≡ true
  move_counts = let g = listed n l xs ys list in counts_move n l (not_zero l n list.no_zero g.good) g.good g.next_good g.prev_good (head_good l (xs ++ n ∷ ys) list)

  pub move_turns : CommitsAtTwo l (writes_of 3 n l) (xs ++ n ∷ ys) (n ∷ xs ++ ys)
  move_turns = turns l 3 n (xs ++ n ∷ ys) (n ∷ xs ++ ys) e list move_counts (walk_list (completed_but_operation (record l { operation = 3; transaction = n })) (n ∷ xs ++ ys) moved)

  pub move_ends : IsList (after_writes (writes_of 3 n l) l) (n ∷ xs ++ ys) × ((after_writes (writes_of 3 n l) l).transaction ≡ 0)
  move_ends = ends (record l { operation = 3; transaction = n }) (n ∷ xs ++ ys) move_counts moved

pub no_touch : (l : ListView) (n : ℕ) → l.head ≡ n → touch_writes n l ≡ []
no_touch l n h = let t : eqb l.head n ≡ true = eq-eqb l.head n h in rw t

pub some_touch : (l : ListView) (n : ℕ) → eqb l.head n ≡ false → touch_writes n l ≡ writes_of 3 n l
some_touch l n h = rw h

pub not_first : (n : ℕ) (l : ListView) (x : ℕ) (xs ys : List ℕ) → IsList l (x ∷ xs ++ n ∷ ys) → eqb l.head n ≡ false
not_first n l x xs ys list = rw list.head_is (or_parts (eqb x n) (is_among (xs ++ ys) n) (has_not (x ∷ xs) n ys list.distinct)).0

pub touch_turns : (n : ℕ) (l : ListView) (xs ys : List ℕ) → IsList l (xs ++ n ∷ ys) → l.transaction ≡ 0 → CommitsAtTwo l (touch_writes n l) (xs ++ n ∷ ys) (n ∷ xs ++ ys)
touch_turns n l [] ys list e = subst (λ ws. CommitsAtTwo l ws (n ∷ ys) (n ∷ ys)) (sym (no_touch l n list.head_is)) stays
  where
    same : (k : ℕ) (old : List ℕ) → old ≡ cond (ltb k 2) old old
    same k old = cond_both (ltb k 2) old old (λ x. old ≡ x) (λ _. refl) (λ _. refl)

    stays : CommitsAtTwo l [] (n ∷ ys) (n ∷ ys)
    stays zero = walk_at_rest l (n ∷ ys) e list
    stays (suc k) = walk_at_rest l (n ∷ ys) e list ∙ same (suc k) (n ∷ ys)
touch_turns n l (x ∷ xs) ys list e = subst (λ ws. CommitsAtTwo l ws (x ∷ xs ++ n ∷ ys) (n ∷ x ∷ xs ++ ys)) (sym (some_touch l n (not_first n l x xs ys list))) (move_turns n l (x ∷ xs) ys list e)

pub touch_ends : (n : ℕ) (l : ListView) (xs ys : List ℕ) → IsList l (xs ++ n ∷ ys) → l.transaction ≡ 0 → IsList (after_writes (touch_writes n l) l) (n ∷ xs ++ ys) × ((after_writes (touch_writes n l) l).transaction ≡ 0)
touch_ends n l [] ys list e = subst (λ ws. IsList (after_writes ws l) (n ∷ ys) × ((after_writes ws l).transaction ≡ 0)) (sym (no_touch l n list.head_is)) (list, e)
touch_ends n l (x ∷ xs) ys list e = subst (λ ws. IsList (after_writes ws l) (n ∷ x ∷ xs ++ ys) × ((after_writes ws l).transaction ≡ 0)) (sym (some_touch l n (not_first n l x xs ys list))) (move_ends n l (x ∷ xs) ys list e)

pub completing : (l : ListView) (ks : List ℕ) → completed_but_operation (stopped ks l) ≡ completed_but_operation l
completing l [] = refl
completing l (k ∷ ks) =
    completing (after_writes (take k (completion_writes l)) l) ks ∙ at_moment (λ u. completed_but_operation u ≡ completed_but_operation l) (completion_writes l) l k (completion_keeps l)

pub completion_true : (l : ListView) → counts l ≡ true → completion_writes l ≡ pending_writes l
unfolding completion_writes
completion_true l e = let some : eqb l.transaction 0 ≡ false = (counting l e).not_zero in rw (some, e)

pub completion_false : (l : ListView) → eqb l.transaction 0 ≡ false → counts l ≡ false → completion_writes l ≡ Transaction 0 ∷ []
unfolding completion_writes
completion_false l some e = rw (some, e)

pub completion_none : (l : ListView) → eqb l.transaction 0 ≡ true → completion_writes l ≡ []
unfolding completion_writes
completion_none l none = rw none

pub completion_ends : (l : ListView) → (rested (after_writes (completion_writes l) l) ≡ completed_but_operation l) × ((after_writes (completion_writes l) l).transaction ≡ 0)
completion_ends l = let zero = zero_at_end l (eqb l.transaction 0) refl (counts l) refl in (sym (outcome_done (after_writes (completion_writes l) l) zero) ∙ EachMoment-last (λ u. completed_but_operation u ≡ completed_but_operation l) (completion_writes l) l (completion_keeps l), zero)
  where
    zero_at_end : (l : ListView) (idle : Bool) → eqb l.transaction 0 ≡ idle → (b : Bool) → counts l ≡ b → (after_writes (completion_writes l) l).transaction ≡ 0
    zero_at_end l true none b e = subst (λ ws. (after_writes ws l).transaction ≡ 0) (sym (completion_none l none)) (eqb-true l.transaction 0 none)
    zero_at_end l false some true e = subst (λ ws. (after_writes ws l).transaction ≡ 0) (sym (completion_true l e)) (pending_ends l)
    zero_at_end l false some false e = subst (λ ws. (after_writes ws l).transaction ≡ 0) (sym (completion_false l some e)) refl
