-- A whole list by its ends and by the links of its nodes.
use Rattle.std.proofs.Common.{inl, inr, ◌≡◌, ℕ, Bool, true, false, ◌||◌, eqb, List, [], ◌∷◌, ◌++◌, Option, None, Some, if◌then◌else◌, refl, sym, ap, ◌∙◌}
use Rattle.std.specs.Prelude.{◌==◌, ◌⊎◌}
use Rattle.std.proofs.lemmas.Bool.{eq-eqb, eqb-true, or_parts}
use Rattle.spec_format.specs.BlockFiles.{is_among}
use Rattle.spec_folder.specs.ListView.{ListView, first_or, last_or, Distinct, Segment, IsList}
use Rattle.law_folder.proofs.lists.ListCompletions.{last_good}
use Rattle.law_folder.proofs.lists.Lists.{split, last-append, not_zero, apart_right, Distinct-right, eqb-sym}
use Rattle.blk_lru.specs.Lists.{first_node_of, last_node_of}
use Rattle.blk_lru.specs.Plans.{word_or_zero}

-- a list around one of its words
pub record Splits (words : List ℕ) (word : ℕ) : Type 0 where
  pub prefix : List ℕ
  pub suffix : List ℕ
  pub is : words ≡ prefix ++ word ∷ suffix

splits_at : (w : ℕ) (words : List ℕ) (word : ℕ) → (is_among words word ≡ true → Splits words word) → (t : Bool) → (w == word) ≡ t → (t || is_among words word) ≡ true → Splits (w ∷ words) word
splits_at w words word more true t e = record { prefix = []; suffix = words; is = ap (λ (v : ℕ). v ∷ words) (eqb-true w word t) }
splits_at w words word more false t e = let s = more e in record { prefix = w ∷ s.prefix; suffix = s.suffix; is = ap (λ (ws : List ℕ). w ∷ ws) s.is }

pub splits : (words : List ℕ) (word : ℕ) → is_among words word ≡ true → Splits words word
splits [] word e = absurd (let z : false ≡ true = e in cc)
splits (w ∷ words) word e = splits_at w words word (splits words word) (w == word) refl e

-- what a word of the index names that ends a whole list
pub at_end : (list : ListView) (word : ℕ) (end : Option ℕ) → list.checks 0 ≡ false → (end ≡ None → word ≡ 0) → ((w : ℕ) → end ≡ Some w → (word ≡ w) × (list.checks w ≡ true)) → (if word == 0 then None else Some word) ≡ end
at_end list word None none empty full = rw (empty refl) refl
at_end list word (Some w) none empty full =
    let h = full w refl in
    let some : (w == 0) ≡ false = not_zero list w none h.1 in
    rw (h.0, some) refl

some_eq : (v w : ℕ) → Some v ≡ Some w → v ≡ w
some_eq v w e = cc

no_none : (w : ℕ) → None ≡ Some w → ⊥
no_none w e = cc

no_some : (w : ℕ) → Some w ≡ None → ⊥
no_some w e = cc

-- the head names the first node
pub head_names : (list : ListView) (nodes : List ℕ) → IsList list nodes → (if list.head == 0 then None else Some list.head) ≡ first_node_of nodes
head_names list [] is = at_end list list.head None is.no_zero (λ e. is.head_is) (λ w e. absurd (no_none w e))
head_names list (x ∷ xs) is =
    at_end list list.head (Some x) is.no_zero (λ e. absurd (no_some x e)) (λ w e. (is.head_is ∙ some_eq x w e, ap list.checks (sym (some_eq x w e)) ∙ is.linked.0.good))

-- the tail names the last
pub tail_names : (list : ListView) (nodes : List ℕ) → IsList list nodes → (if list.tail == 0 then None else Some list.tail) ≡ last_node_of nodes
tail_names list [] is = at_end list list.tail None is.no_zero (λ e. is.tail_is) (λ w e. absurd (no_none w e))
tail_names list (x ∷ xs) is =
    at_end list list.tail (Some (last_or x xs)) is.no_zero (λ e. absurd (no_some (last_or x xs) e))
    (λ w e. (is.tail_is ∙ some_eq (last_or x xs) w e, ap list.checks (sym (some_eq (last_or x xs) w e)) ∙ last_good list.checks list.next list.prev x x xs (last_or x xs) is.linked))

-- the checksums of head and tail match or are absent, or head and tail are 0
pub head_checks : (list : ListView) (nodes : List ℕ) → IsList list nodes → (list.head ≡ 0) ⊎ (list.checks list.head ≡ true)
head_checks list [] is = inl is.head_is
head_checks list (x ∷ xs) is = inr (ap list.checks is.head_is ∙ is.linked.0.good)

pub tail_checks : (list : ListView) (nodes : List ℕ) → IsList list nodes → (list.tail ≡ 0) ⊎ (list.checks list.tail ≡ true)
tail_checks list [] is = inl is.tail_is
tail_checks list (x ∷ xs) is = inr (ap list.checks is.tail_is ∙ last_good list.checks list.next list.prev x x xs (last_or x xs) is.linked)

-- the links of a node
pub record Linked (list : ListView) (prefix : List ℕ) (node : ℕ) (suffix : List ℕ) : Type 0 where
  pub good : list.checks node ≡ true
  pub next_good : list.checks (list.next node) ≡ true
  pub prev_good : list.checks (list.prev node) ≡ true
  pub next_is : (if list.next node == node then None else Some (list.next node)) ≡ first_node_of suffix
  pub prev_is : (if list.prev node == node then None else Some (list.prev node)) ≡ last_node_of prefix

self : (word node : ℕ) → word ≡ node → (if word == node then None else Some word) ≡ None
self word node e = let t : (word == node) ≡ true = eq-eqb word node e in rw t refl

other : (word node w : ℕ) → word ≡ w → (w == node) ≡ false → (if word == node then None else Some word) ≡ Some w
other word node w e apart = rw (e, apart) refl

pub linked : (list : ListView) (prefix : List ℕ) (node : ℕ) (suffix : List ℕ) → IsList list (prefix ++ node ∷ suffix) → Linked list prefix node suffix
linked list prefix node suffix is = go prefix suffix is.distinct (split list.checks list.next list.prev (first_or 0 (prefix ++ node ∷ suffix)) prefix (node ∷ suffix) (last_or 0 (prefix ++ node ∷ suffix)) is.linked)
  where
    go : (prefix suffix : List ℕ) → Distinct (prefix ++ node ∷ suffix)
        → Segment list.checks list.next list.prev (first_or 0 (prefix ++ node ∷ suffix)) prefix node × Segment list.checks list.next list.prev (last_or (first_or 0 (prefix ++ node ∷ suffix)) prefix) (node ∷ suffix) (last_or 0 (prefix ++ node ∷ suffix))
        → Linked list prefix node suffix
    go [] [] d s = record {
      good = s.1.0.good;
      next_good = ap list.checks s.1.0.next_is ∙ s.1.0.good;
      prev_good = ap list.checks s.1.0.prev_is ∙ s.1.0.good;
      next_is = self (list.next node) node s.1.0.next_is;
      prev_is = self (list.prev node) node s.1.0.prev_is;
    }
    go [] (y ∷ ys) d s = record {
      good = s.1.0.good;
      next_good = ap list.checks s.1.0.next_is ∙ s.1.1.0.good;
      prev_good = ap list.checks s.1.0.prev_is ∙ s.1.0.good;
      next_is = other (list.next node) node y s.1.0.next_is (or_parts (eqb y node) (is_among ys node) d.0).0;
      prev_is = self (list.prev node) node s.1.0.prev_is;
    }
    go (x ∷ xs) [] d s =
        let last : list.next node ≡ node = s.1.0.next_is ∙ last-append x xs (node ∷ []) in
        record {
          good = s.1.0.good;
          next_good = ap list.checks last ∙ s.1.0.good;
          prev_good = ap list.checks s.1.0.prev_is ∙ last_good list.checks list.next list.prev x x xs node s.0;
          next_is = self (list.next node) node last;
          prev_is = other (list.prev node) node (last_or x xs) s.1.0.prev_is (eqb-sym node (last_or x xs) (or_parts (eqb node (last_or x xs)) false (apart_right x xs (node ∷ []) d)).0);
        }
    go (x ∷ xs) (y ∷ ys) d s = record {
      good = s.1.0.good;
      next_good = ap list.checks s.1.0.next_is ∙ s.1.1.0.good;
      prev_good = ap list.checks s.1.0.prev_is ∙ last_good list.checks list.next list.prev x x xs node s.0;
      next_is = other (list.next node) node y s.1.0.next_is (or_parts (eqb y node) (is_among ys node) (Distinct-right (x ∷ xs) (node ∷ y ∷ ys) d).0).0;
      prev_is = other (list.prev node) node (last_or x xs) s.1.0.prev_is (eqb-sym node (last_or x xs) (or_parts (eqb node (last_or x xs)) (is_among (y ∷ ys) (last_or x xs)) (apart_right x xs (node ∷ y ∷ ys) d)).0);
    }

-- a word or 0, as what it names
pub word_back : (w : ℕ) → word_or_zero (if w == 0 then None else Some w) ≡ w
word_back w = by_test (w == 0) refl
  where
    by_test : (t : Bool) → (w == 0) ≡ t → word_or_zero (if t then None else Some w) ≡ w
    by_test true e = sym (eqb-true w 0 e)
    by_test false e = refl
