-- The end of the LRU list, repaired.
use Rattle.std.proofs.Common.{◌≡◌, ℕ, zero, suc, ◌≤◌, Bool, true, false, not, ◌&&◌, List, [], ◌∷◌, ◌++◌, length, refl, sym, ◌∙◌, subst, ⊎_elim, arith}
use Rattle.std.specs.Prelude.{◌==◌}
use Rattle.std.proofs.lemmas.Bool.{cases_Bool, eqb-true, or_parts}
use Rattle.spec_format.specs.BlockFiles.{is_among}
use Rattle.spec_folder.specs.ListView.{ListView, Next, Head, Tail, put, after_writes, first_or, last_or, Segment, Distinct, IsList}
use Rattle.spec_folder.specs.Completion.{completed_list}
use Rattle.spec_folder.specs.ListPlans.{AtEachWrite}
use Rattle.spec_folder.specs.Walk.{walk, walk_from}
use Rattle.spec_folder.specs.ListView.{IsAtRest}
use Rattle.law_folder.proofs.states.Central.{walk-idle}
use Rattle.law_folder.proofs.lists.ListCompletions.{at_moment}
use Rattle.law_folder.proofs.lists.Lists.{reend, eqb-sym}
use Rattle.law_folder.proofs.lists.Walks.{Fresh, walk_list}
use Rattle.spec_folder.specs.ListPlans.{unless}
use Rattle.law_recovery.specs.EndRepair.{end_writes_of, end_writes, EndsAreMended}

-- what was not met, with one more node met
pub Fresh-less : (met : List ℕ) (w : ℕ) (xs : List ℕ) → Fresh (w ∷ met) xs → (is_among xs w ≡ false) × Fresh met xs
Fresh-less met w [] fresh = (refl, tt)
Fresh-less met w (x ∷ xs) fresh =
    let parts = or_parts (w == x) (is_among met x) fresh.0 in
    let rest = Fresh-less met w xs fresh.1 in
    (rw (eqb-sym w x parts.0, rest.0) refl, (parts.1, rest.1))

-- what is known of walked nodes
pub record IsWalked (checks : ℕ → Bool) (next prev : ℕ → ℕ) (most : ℕ) (met : List ℕ) (before word : ℕ) (xs : List ℕ) : Type 0 where
  pub linked : Segment checks next prev before xs (next (last_or word xs))
  pub fresh : Fresh met xs
  pub distinct : Distinct xs
  pub few : length xs ≤ most
  pub first : first_or word xs ≡ word

both : (a b : Bool) → (a && b) ≡ true → (a ≡ true) × (b ≡ true)
both true b e = (refl, e)
both false b e = cc

not_true : (b : Bool) → not b ≡ true → b ≡ false
not_true true e = cc
not_true false e = refl

module _ (checks : ℕ → Bool) (next prev : ℕ → ℕ) where
  none_walked : (most : ℕ) (met : List ℕ) (before word : ℕ) → IsWalked checks next prev most met before word []
  none_walked most met before word = record { linked = tt; fresh = tt; distinct = tt; few = omega arith; first = refl }

  one_walked : (most : ℕ) (met : List ℕ) (before word : ℕ) → checks word ≡ true → is_among met word ≡ false → prev word ≡ before → IsWalked checks next prev (suc most) met before word (word ∷ [])
  one_walked most met before word good fresh back = record {
    linked = (record { good = good; next_is = refl; prev_is = back }, tt);
    fresh = (fresh, tt);
    distinct = (refl, tt);
    few = omega arith;
    first = refl;
  }

  linked_on : (before word : ℕ) (xs : List ℕ) → checks word ≡ true → prev word ≡ before → first_or (next word) xs ≡ next word → Segment checks next prev word xs (next (last_or (next word) xs))
      → Segment checks next prev before (word ∷ xs) (next (last_or word xs))
  linked_on before word [] good back first segment = (record { good = good; next_is = refl; prev_is = back }, tt)
  linked_on before word (x ∷ xs) good back first segment = (record { good = good; next_is = sym first; prev_is = back }, segment)

  more_walked : (most : ℕ) (met : List ℕ) (before word : ℕ) (xs : List ℕ) → checks word ≡ true → is_among met word ≡ false → prev word ≡ before
      → IsWalked checks next prev most (word ∷ met) word (next word) xs → IsWalked checks next prev (suc most) met before word (word ∷ xs)
  more_walked most met before word xs good fresh back rest =
      let less = Fresh-less met word xs rest.fresh in
      record {
        linked = linked_on before word xs good back rest.first rest.linked;
        fresh = (fresh, less.1);
        distinct = (less.0, rest.distinct);
        few = let f = rest.few in omega (arith, f);
        first = refl;
      }

  pub walked-is : (most : ℕ) (met : List ℕ) (before word : ℕ) → IsWalked checks next prev most met before word (walk_from checks next prev most met before word)
  unfolding walk_from
  walked-is zero met before word = none_walked zero met before word
  walked-is (suc most) met before word =
      ⊎_elim
      (λ (goes : (checks word && not (is_among met word) && (prev word == before)) ≡ true).
      let a = both (checks word && not (is_among met word)) (prev word == before) goes in
      let b = both (checks word) (not (is_among met word)) a.0 in
      let back : prev word ≡ before = eqb-true (prev word) before a.1 in
      let fresh : is_among met word ≡ false = not_true _ b.1 in
      rw goes
      (⊎_elim
      (λ (ends : (next word == word) ≡ true). rw ends (one_walked most met before word b.0 fresh back))
      (λ (on : (next word == word) ≡ false). rw on (more_walked most met before word (walk_from checks next prev most (word ∷ met) word (next word)) b.0 fresh back (walked-is most (word ∷ met) word (next word))))
      (cases_Bool (next word == word))))
      (λ (stops : (checks word && not (is_among met word) && (prev word == before)) ≡ false). rw stops (none_walked (suc most) met before word))
      (cases_Bool (checks word && not (is_among met word) && (prev word == before)))

-- the tail isn't read by the walk
walk-tail : (list : ListView) (word : ℕ) → walk (record list { tail = word }) ≡ walk list
unfolding walk
walk-tail list word = refl

module _ (list : ListView) (idle : list.transaction ≡ 0) (zero_bad : list.checks 0 ≡ false) where
  -- the list with its end repaired is whole
  mended-nodes : (node : ℕ) (nodes : List ℕ) → IsWalked list.checks list.next list.prev 131072 [] list.head list.head (node ∷ nodes)
      → IsList (record list { next = put list.next (last_or node nodes) (last_or node nodes); tail = last_or node nodes }) (node ∷ nodes)
  mended-nodes node nodes is =
      let head : node ≡ list.head = is.first in
      record {
        head_is = sym head;
        tail_is = refl;
        linked = subst (λ (b : ℕ). Segment list.checks (put list.next (last_or node nodes) (last_or node nodes)) list.prev b (node ∷ nodes) (last_or node nodes)) (sym head)
            (reend list.checks list.next list.prev list.head node nodes (list.next (last_or node nodes)) (last_or node nodes) is.distinct is.linked);
        distinct = is.distinct;
        few = is.few;
        no_zero = zero_bad;
      }

  -- and so it is where its end is right already
  right-nodes : (node : ℕ) (nodes : List ℕ) → IsWalked list.checks list.next list.prev 131072 [] list.head list.head (node ∷ nodes) → list.next (last_or node nodes) ≡ last_or node nodes
      → IsList (record list { tail = last_or node nodes }) (node ∷ nodes)
  right-nodes node nodes is right =
      let head : node ≡ list.head = is.first in
      record {
        head_is = sym head;
        tail_is = refl;
        linked = subst (λ (b : ℕ). Segment list.checks list.next list.prev b (node ∷ nodes) (last_or node nodes)) (sym head)
            (subst (λ (e : ℕ). Segment list.checks list.next list.prev list.head (node ∷ nodes) e) right is.linked);
        distinct = is.distinct;
        few = is.few;
        no_zero = zero_bad;
      }

-- what is walked, at each write that repairs the end
WalksSame : ListView → ListView → Type 0
WalksSame list other = walk (completed_list other) ≡ walk list

module _ (list : ListView) (idle : list.transaction ≡ 0) (zero_bad : list.checks 0 ≡ false) where
  none_first : walk list ≡ [] → (other : ListView) → other.transaction ≡ 0 → other.head ≡ 0 → other.tail ≡ 0 → other.checks 0 ≡ false → IsAtRest other []
  none_first none other idle head tail bad = record { whole = record { head_is = head; tail_is = tail; linked = tt; distinct = tt; few = omega arith; no_zero = bad }; idle = idle }

  no_nodes : walk list ≡ [] → (a b : Bool) → (list.head == 0) ≡ a → (list.tail == 0) ≡ b
      → AtEachWrite (λ other. walk (completed_list other) ≡ []) (unless a (Head 0) ++ unless b (Tail 0)) list × IsAtRest (after_writes (unless a (Head 0) ++ unless b (Tail 0)) list) []
  no_nodes none true true a b =
      (walk-idle list idle ∙ none, none_first none list idle (eqb-true list.head 0 a) (eqb-true list.tail 0 b) zero_bad)
  no_nodes none true false a b =
      let end : IsAtRest (record list { tail = 0 }) [] = none_first none (record list { tail = 0 }) idle (eqb-true list.head 0 a) refl zero_bad in
      ((walk-idle list idle ∙ none, walk-idle (record list { tail = 0 }) idle ∙ walk_list (record list { tail = 0 }) [] end.whole), end)
  no_nodes none false true a b =
      let end : IsAtRest (record list { head = 0 }) [] = none_first none (record list { head = 0 }) idle refl (eqb-true list.tail 0 b) zero_bad in
      ((walk-idle list idle ∙ none, walk-idle (record list { head = 0 }) idle ∙ walk_list (record list { head = 0 }) [] end.whole), end)
  no_nodes none false false a b =
      let end : IsAtRest (record list { head = 0; tail = 0 }) [] = none_first none (record list { head = 0; tail = 0 }) idle refl refl zero_bad in
      let last : walk (completed_list (record list { head = 0; tail = 0 })) ≡ [] = walk-idle (record list { head = 0; tail = 0 }) idle ∙ walk_list (record list { head = 0; tail = 0 }) [] end.whole in
      let middle : walk (completed_list (record list { head = 0 })) ≡ [] = walk-idle (record list { head = 0 }) idle ∙ sym (walk-tail (record list { head = 0 }) 0) ∙ walk_list (record list { head = 0; tail = 0 }) [] end.whole in
      ((walk-idle list idle ∙ none, (middle, last)), end)

  some_nodes : (node : ℕ) (nodes : List ℕ) → walk list ≡ node ∷ nodes → (a b : Bool) → (list.next (last_or node nodes) == last_or node nodes) ≡ a → (list.tail == last_or node nodes) ≡ b
      → AtEachWrite (λ other. walk (completed_list other) ≡ node ∷ nodes) (unless a (Next (last_or node nodes) (last_or node nodes)) ++ unless b (Tail (last_or node nodes))) list
      × IsAtRest (after_writes (unless a (Next (last_or node nodes) (last_or node nodes)) ++ unless b (Tail (last_or node nodes))) list) (node ∷ nodes)
  unfolding walk
  some_nodes node nodes is = cases where
    last : ℕ
    last = last_or node nodes

    walked : IsWalked list.checks list.next list.prev 131072 [] list.head list.head (node ∷ nodes)
    walked = subst (IsWalked list.checks list.next list.prev 131072 [] list.head list.head) is (walked-is list.checks list.next list.prev 131072 [] list.head list.head)

    linked : ListView
    linked = record list { next = put list.next last last }

    whole : IsList (record linked { tail = last }) (node ∷ nodes)
    whole = mended-nodes list idle zero_bad node nodes walked

    right : list.next last ≡ last → IsList (record list { tail = last }) (node ∷ nodes)
    right = right-nodes list idle zero_bad node nodes walked

    before : walk (completed_list list) ≡ node ∷ nodes
    before = walk-idle list idle ∙ is

    tailed : (other : ListView) → other.tail ≡ last → record other { tail = last } ≡ other
    tailed other e = λ i. record { head = other.head; tail = sym e i; transaction = other.transaction; operation = other.operation; checks = other.checks; next = other.next; prev = other.prev }

    cases : (a b : Bool) → (list.next last == last) ≡ a → (list.tail == last) ≡ b
        → AtEachWrite (λ other. walk (completed_list other) ≡ node ∷ nodes) (unless a (Next last last) ++ unless b (Tail last)) list × IsAtRest (after_writes (unless a (Next last last) ++ unless b (Tail last)) list) (node ∷ nodes)
    cases true true a b = (before, record { whole = subst (λ (l : ListView). IsList l (node ∷ nodes)) (tailed list (eqb-true list.tail last b)) (right (eqb-true (list.next last) last a)); idle = idle })
    cases true false a b =
        let end : IsList (record list { tail = last }) (node ∷ nodes) = right (eqb-true (list.next last) last a) in
        ((before, walk-idle (record list { tail = last }) idle ∙ walk_list (record list { tail = last }) (node ∷ nodes) end), record { whole = end; idle = idle })
    cases false true a b =
        let end : IsList linked (node ∷ nodes) = subst (λ (l : ListView). IsList l (node ∷ nodes)) (tailed linked (eqb-true list.tail last b)) whole in
        ((before, walk-idle linked idle ∙ walk_list linked (node ∷ nodes) end), record { whole = end; idle = idle })
    cases false false a b =
        let middle : walk (completed_list linked) ≡ node ∷ nodes = walk-idle linked idle ∙ sym (walk-tail linked last) ∙ walk_list (record linked { tail = last }) (node ∷ nodes) whole in
        ((before, (middle, walk-idle (record linked { tail = last }) idle ∙ walk_list (record linked { tail = last }) (node ∷ nodes) whole)), record { whole = whole; idle = idle })

  -- for each list of nodes
  by_nodes : (nodes : List ℕ) → walk list ≡ nodes → AtEachWrite (λ other. walk (completed_list other) ≡ nodes) (end_writes_of list nodes) list × IsAtRest (after_writes (end_writes_of list nodes) list) nodes
  by_nodes [] is = no_nodes is (list.head == 0) (list.tail == 0) refl refl
  by_nodes (node ∷ nodes) is = some_nodes node nodes is (list.next (last_or node nodes) == last_or node nodes) (list.tail == last_or node nodes) refl refl

  pub end_each : AtEachWrite (λ other. walk (completed_list other) ≡ walk list) (end_writes list) list × IsAtRest (after_writes (end_writes list) list) (walk list)
  unfolding end_writes
  end_each = by_nodes (walk list) refl

pub ends-mended : EndsAreMended
ends-mended list idle zero_bad =
    let each = end_each list idle zero_bad in
    ((λ count. at_moment (λ other. walk (completed_list other) ≡ walk list) (end_writes list) list count each.0), each.1)
