-- Records that are linked are reached, and those between may be left out.
use Rattle.std.proofs.Common.{◌≡◌, ℕ, zero, suc, ◌≤◌, ◌^◌, List, [], ◌∷◌, ◌++◌, length, refl, ap, sym, ◌∙◌, subst, ⊎_elim, Bool, true, false, arith}
use Rattle.std.specs.Prelude.{map, not, ◌&&◌, ◌==◌}
use Rattle.std.specs.List.{filter}
use Rattle.std.proofs.lemmas.Bool.{cases_Bool, or_parts, or_left, or_right}
use Rattle.std.proofs.lemmas.Bool.Decides.{eqb_tells}
use Rattle.std.proofs.Math.Dec.{eqb}
use Rattle.spec_format.specs.BlockFiles.{is_among}
use Rattle.spec_folder.specs.ListView.{Distinct, first_or}
use Rattle.spec_folder.specs.View.{StoreView}
use Rattle.spec_folder.specs.Chains.{chain, chain_from, is_of_bucket, is_reached, file_and_block, Linked}
use Rattle.law_folder.proofs.states.Changing.{apart-sym}
use Rattle.law_folder.proofs.lists.Walks.{Fresh, Fresh-none, Fresh-more}
use Rattle.std.specs.Prelude.{◌≡◌, ℕ, ◌≤◌, List, [], ◌∷◌, length, map, Bool, true, if◌then◌else◌}
use Rattle.spec_folder.specs.ListView.{Distinct}
use Rattle.spec_folder.specs.View.{StoreView}
use Rattle.spec_folder.specs.Chains.{file_and_block, is_of_bucket, most_records}
use Rattle.law_recovery.proofs.EndRepair.{Fresh-less}

-- records of a bucket that are linked from a word on
abbrev pub Path : StoreView → ℕ → ℕ → List ℕ → Type 0
Path store bucket word [] = Unit {0}
Path store bucket word (w ∷ words) = (word ≡ w) × (is_of_bucket store bucket w ≡ true) × Path store bucket (store.chain_next w) words

-- these records are linked from the word of a bucket on, with no first block twice
pub record IsPath (store : StoreView) (bucket : ℕ) (words : List ℕ) : Type 0 where
  pub linked : Path store bucket (store.table bucket) words
  pub once : Distinct (map file_and_block words)
  pub few : length words ≤ most_records

-- words from the first that passes a test on
abbrev pub skip : (ℕ → Bool) → List ℕ → List ℕ
skip test [] = []
skip test (word ∷ words) = if test word then word ∷ words else skip test words

-- ---- what is linked is reached

pub path-reached : (v : StoreView) (b most : ℕ) (met : List ℕ) (w : ℕ) (xs : List ℕ) → Path v b w xs → Distinct (map file_and_block xs) → Fresh met (map file_and_block xs) → length xs ≤ most
    → (x : ℕ) → is_among xs x ≡ true → is_among (chain_from v b most met w).reached x ≡ true
unfolding chain_from
path-reached v b most met w [] path once fresh few x among = cc
path-reached v b zero met w (y ∷ ys) path once fresh few x among = absurd (omega arith)
path-reached v b (suc most) met w (y ∷ ys) path once fresh few x among =
    rw (path.0, fresh.0, path.1)
    (⊎_elim
    (λ (e : (y == x) ≡ true). or_left (y == x) (is_among (chain_from v b most (file_and_block y ∷ met) (v.chain_next y)).reached x) e)
    (λ (e : (y == x) ≡ false). or_right (y == x) (is_among (chain_from v b most (file_and_block y ∷ met) (v.chain_next y)).reached x)
    (path-reached v b most (file_and_block y ∷ met) (v.chain_next y) ys path.2 once.1 (Fresh-more met (file_and_block y) (map file_and_block ys) once.0 fresh.1) (omega arith) x (rw e at among)))
    (cases_Bool (y == x)))

pub on-path : (v : StoreView) (b : ℕ) (xs : List ℕ) → IsPath v b xs → (x : ℕ) → is_among xs x ≡ true → is_among (chain v b).reached x ≡ true
on-path v b xs is = path-reached v b (2 ^ 24) [] (v.table b) xs is.linked is.once (Fresh-none (map file_and_block xs)) is.few

-- ---- what is reached is linked

record IsReachedPath (v : StoreView) (b most : ℕ) (met : List ℕ) (w : ℕ) (xs : List ℕ) : Type 0 where
  path : Path v b w xs
  once : Distinct (map file_and_block xs)
  fresh : Fresh met (map file_and_block xs)
  few : length xs ≤ most

both : (a b : Bool) → (a && b) ≡ true → (a ≡ true) × (b ≡ true)
both true b e = (refl, e)
both false b e = cc

not_true : (b : Bool) → not b ≡ true → b ≡ false
not_true true e = cc
not_true false e = refl

reached-path : (v : StoreView) (b most : ℕ) (met : List ℕ) (w : ℕ) → IsReachedPath v b most met w (chain_from v b most met w).reached
unfolding chain_from
reached-path v b zero met w = record { path = tt; once = tt; fresh = tt; few = omega arith }
reached-path v b (suc most) met w =
    ⊎_elim
    (λ (e : is_reached v b met w ≡ true).
    let parts = both (not (is_among met (file_and_block w))) (is_of_bucket v b w) e in
    let rest = reached-path v b most (file_and_block w ∷ met) (v.chain_next w) in
    let less = Fresh-less met (file_and_block w) (map file_and_block (chain_from v b most (file_and_block w ∷ met) (v.chain_next w)).reached) rest.fresh in
    let f = rest.few in
    rw e (record { path = (refl, parts.1, rest.path); once = (less.0, rest.once); fresh = (not_true _ parts.0, less.1); few = omega (arith, f) }))
    (λ (e : is_reached v b met w ≡ false). rw e (record { path = tt; once = tt; fresh = tt; few = omega arith }))
    (cases_Bool (is_reached v b met w))

pub chain-path : (v : StoreView) (b : ℕ) → IsPath v b (chain v b).reached
chain-path v b = let is = reached-path v b (2 ^ 24) [] (v.table b) in record { linked = is.path; once = is.once; few = is.few }

-- ---- a chain stays where no link of a record of its bucket changes

pub chain_from-stays : (v u : StoreView) (b most : ℕ) (met : List ℕ) (w : ℕ) → ((x : ℕ) → is_of_bucket u b x ≡ is_of_bucket v b x) → ((x : ℕ) → is_of_bucket v b x ≡ true → u.chain_next x ≡ v.chain_next x)
    → chain_from u b most met w ≡ chain_from v b most met w
unfolding chain_from
chain_from-stays v u b zero met w bucket chain_next = refl
chain_from-stays v u b (suc most) met w bucket chain_next =
    ⊎_elim
    (λ (e : is_of_bucket v b w ≡ true). rw (bucket w, chain_next w e, chain_from-stays v u b most (file_and_block w ∷ met) (v.chain_next w) bucket chain_next) refl)
    (λ (e : is_of_bucket v b w ≡ false). rw (bucket w, e, and_false (not (is_among met (file_and_block w)))) refl)
    (cases_Bool (is_of_bucket v b w)) where
      and_false : (b : Bool) → (b && false) ≡ false
      and_false true = refl
      and_false false = refl

pub chain-stays : (v u : StoreView) (b : ℕ) → u.table b ≡ v.table b → ((x : ℕ) → is_of_bucket u b x ≡ is_of_bucket v b x) → ((x : ℕ) → is_of_bucket v b x ≡ true → u.chain_next x ≡ v.chain_next x) → chain u b ≡ chain v b
chain-stays v u b table bucket chain_next = ap (chain_from u b (2 ^ 24) []) table ∙ chain_from-stays v u b (2 ^ 24) [] (v.table b) bucket chain_next

-- ---- records that are left out in front

module _ (test : ℕ → Bool) where
  pub skip-path : (v : StoreView) (b w : ℕ) (xs : List ℕ) → Path v b w xs → Path v b (first_or 0 (skip test xs)) (skip test xs)
  skip-path v b w [] path = tt
  skip-path v b w (x ∷ xs) path =
      ⊎_elim
      (λ (e : test x ≡ true). rw e (refl, path.1, path.2))
      (λ (e : test x ≡ false). rw e (skip-path v b (v.chain_next x) xs path.2))
      (cases_Bool (test x))

  pub skip-first : (xs : List ℕ) → first_or 0 (skip test xs) ≡ first_or 0 (filter test xs)
  skip-first [] = refl
  skip-first (x ∷ xs) = ⊎_elim (λ (e : test x ≡ true). rw e refl) (λ (e : test x ≡ false). rw e (skip-first xs)) (cases_Bool (test x))

  pub skip-filter : (xs : List ℕ) → filter test (skip test xs) ≡ filter test xs
  skip-filter [] = refl
  skip-filter (x ∷ xs) = ⊎_elim (λ (e : test x ≡ true). rw e (rw e refl)) (λ (e : test x ≡ false). rw e (skip-filter xs)) (cases_Bool (test x))

  pub skip-few : (xs : List ℕ) → length (skip test xs) ≤ length xs
  skip-few [] = omega arith
  skip-few (x ∷ xs) = let rest = skip-few xs in ⊎_elim (λ (e : test x ≡ true). rw e (omega arith)) (λ (e : test x ≡ false). rw e (omega (arith, rest))) (cases_Bool (test x))

  pub skip-has : (xs : List ℕ) (x : ℕ) → test x ≡ true → is_among xs x ≡ true → is_among (skip test xs) x ≡ true
  skip-has [] x good among = cc
  skip-has (y ∷ ys) x good among =
      ⊎_elim
      (λ (e : test y ≡ true). rw e among)
      (λ (e : test y ≡ false).
      let apart : (y == x) ≡ false = ⊎_elim (λ (c : (eqb y x ≡ true) × (y ≡ x)). let no : test x ≡ false = subst (λ (z : ℕ). test z ≡ false) c.1 e in cc) (λ (c : (eqb y x ≡ false) × _). c.0) (eqb_tells y x) in
      rw e (skip-has ys x good (rw apart at among)))
      (cases_Bool (test y))

  pub skip-was : (xs : List ℕ) (x : ℕ) → is_among (skip test xs) x ≡ true → is_among xs x ≡ true
  skip-was [] x among = among
  skip-was (y ∷ ys) x among =
      ⊎_elim (λ (e : test y ≡ true). rw e at among) (λ (e : test y ≡ false). or_right (y == x) (is_among ys x) (skip-was ys x (rw e at among))) (cases_Bool (test y))

  -- the first blocks of what is left are among those that were there
  skip-lacks : (xs : List ℕ) (block : ℕ) → is_among (map file_and_block xs) block ≡ false → is_among (map file_and_block (skip test xs)) block ≡ false
  skip-lacks [] block lacks = lacks
  skip-lacks (x ∷ xs) block lacks =
      let parts = or_parts (file_and_block x == block) (is_among (map file_and_block xs) block) lacks in
      ⊎_elim (λ (e : test x ≡ true). rw e lacks) (λ (e : test x ≡ false). rw e (skip-lacks xs block parts.1)) (cases_Bool (test x))

  pub skip-once : (xs : List ℕ) → Distinct (map file_and_block xs) → Distinct (map file_and_block (skip test xs))
  skip-once [] once = once
  skip-once (x ∷ xs) once = ⊎_elim (λ (e : test x ≡ true). rw e once) (λ (e : test x ≡ false). rw e (skip-once xs once.1)) (cases_Bool (test x))

  -- and after a record of a chain
  suffix-lacks : (prefix : List ℕ) (c : ℕ) (xs : List ℕ) (block : ℕ) → is_among (map file_and_block (prefix ++ c ∷ xs)) block ≡ false → is_among (map file_and_block (prefix ++ c ∷ skip test xs)) block ≡ false
  suffix-lacks [] c xs block lacks =
      let parts = or_parts (file_and_block c == block) (is_among (map file_and_block xs) block) lacks in
      rw (parts.0, skip-lacks xs block parts.1) refl
  suffix-lacks (y ∷ prefix) c xs block lacks =
      let parts = or_parts (file_and_block y == block) (is_among (map file_and_block (prefix ++ c ∷ xs)) block) lacks in
      rw (parts.0, suffix-lacks prefix c xs block parts.1) refl

  pub suffix-once : (prefix : List ℕ) (c : ℕ) (xs : List ℕ) → Distinct (map file_and_block (prefix ++ c ∷ xs)) → Distinct (map file_and_block (prefix ++ c ∷ skip test xs))
  suffix-once [] c xs once = (skip-lacks xs (file_and_block c) once.0, skip-once xs once.1)
  suffix-once (y ∷ prefix) c xs once = (suffix-lacks prefix c xs (file_and_block y) once.0, suffix-once prefix c xs once.1)

  pub suffix-few : (prefix : List ℕ) (c : ℕ) (xs : List ℕ) → length (prefix ++ c ∷ skip test xs) ≤ length (prefix ++ c ∷ xs)
  suffix-few [] c xs = let few = skip-few xs in omega (arith, few)
  suffix-few (y ∷ prefix) c xs = let few = suffix-few prefix c xs in omega (arith, few)

  pub suffix-has : (prefix : List ℕ) (c : ℕ) (xs : List ℕ) (x : ℕ) → test x ≡ true → is_among (prefix ++ c ∷ xs) x ≡ true → is_among (prefix ++ c ∷ skip test xs) x ≡ true
  suffix-has [] c xs x good among =
      ⊎_elim (λ (e : (c == x) ≡ true). or_left (c == x) (is_among (skip test xs) x) e) (λ (e : (c == x) ≡ false). or_right (c == x) (is_among (skip test xs) x) (skip-has xs x good (rw e at among))) (cases_Bool (c == x))
  suffix-has (y ∷ prefix) c xs x good among =
      ⊎_elim (λ (e : (y == x) ≡ true). or_left (y == x) (is_among (prefix ++ c ∷ skip test xs) x) e) (λ (e : (y == x) ≡ false). or_right (y == x) (is_among (prefix ++ c ∷ skip test xs) x) (suffix-has prefix c xs x good (rw e at among))) (cases_Bool (y == x))

-- ---- one link of a path changes

-- links of other first blocks are as before
abbrev pub OthersChainNext : StoreView → StoreView → ℕ → Type 0
OthersChainNext v u c = (x : ℕ) → (file_and_block x == file_and_block c) ≡ false → u.chain_next x ≡ v.chain_next x

module _ (v u : StoreView) (b c : ℕ) (bucket : (x : ℕ) → is_of_bucket u b x ≡ is_of_bucket v b x) (chain_next : OthersChainNext v u c) where
  path-stays : (w : ℕ) (xs : List ℕ) → is_among (map file_and_block xs) (file_and_block c) ≡ false → Path v b w xs → Path u b w xs
  path-stays w [] lacks path = tt
  path-stays w (x ∷ xs) lacks path =
      let parts = or_parts (file_and_block x == file_and_block c) (is_among (map file_and_block xs) (file_and_block c)) lacks in
      (path.0, bucket x ∙ path.1, subst (λ (y : ℕ). Path u b y xs) (sym (chain_next x parts.0)) (path-stays (v.chain_next x) xs parts.1 path.2))

  -- the record takes as its next one that leads to what stays of what was after it
  pub path-linked : (prefix : List ℕ) (w : ℕ) (old new : List ℕ) → Distinct (map file_and_block (prefix ++ c ∷ old)) → is_among (map file_and_block new) (file_and_block c) ≡ false → Path v b (u.chain_next c) new
      → Path v b w (prefix ++ c ∷ old) → Path u b w (prefix ++ c ∷ new)
  path-linked [] w old new once lacks path was = (was.0, bucket c ∙ was.1, path-stays (u.chain_next c) new lacks path)
  path-linked (x ∷ prefix) w old new once lacks path was =
      let apart : (file_and_block x == file_and_block c) ≡ false = apart-sym _ _ (middle prefix once.0) in
      (was.0, bucket x ∙ was.1, subst (λ (y : ℕ). Path u b y (prefix ++ c ∷ new)) (sym (chain_next x apart)) (path-linked prefix (v.chain_next x) old new once.1 lacks path was.2)) where
        middle : (ys : List ℕ) → is_among (map file_and_block (ys ++ c ∷ old)) (file_and_block x) ≡ false → (file_and_block c == file_and_block x) ≡ false
        middle [] lacks = (or_parts (file_and_block c == file_and_block x) (is_among (map file_and_block old) (file_and_block x)) lacks).0
        middle (y ∷ ys) lacks = middle ys (or_parts (file_and_block y == file_and_block x) (is_among (map file_and_block (ys ++ c ∷ old)) (file_and_block x)) lacks).1

-- the first blocks after a record of a path are others
pub suffix-apart : (prefix : List ℕ) (c : ℕ) (old : List ℕ) → Distinct (map file_and_block (prefix ++ c ∷ old)) → is_among (map file_and_block old) (file_and_block c) ≡ false
suffix-apart [] c old once = once.0
suffix-apart (x ∷ prefix) c old once = suffix-apart prefix c old once.1

pub skip-apart : (test : ℕ → Bool) (prefix : List ℕ) (c : ℕ) (old : List ℕ) → Distinct (map file_and_block (prefix ++ c ∷ old)) → is_among (map file_and_block (skip test old)) (file_and_block c) ≡ false
skip-apart test prefix c old once = skip-lacks test old (file_and_block c) (suffix-apart prefix c old once)

-- the path after a record of it
pub path-suffix : (v : StoreView) (b w : ℕ) (prefix : List ℕ) (c : ℕ) (old : List ℕ) → Path v b w (prefix ++ c ∷ old) → (is_of_bucket v b c ≡ true) × Path v b (v.chain_next c) old
path-suffix v b w [] c old path = (path.1, path.2)
path-suffix v b w (x ∷ prefix) c old path = path-suffix v b (v.chain_next x) prefix c old path.2

-- The word after a path is the link of its last record, or the word it begins with.
-- A path after which it is 0 is a whole chain.
abbrev pub end_of : StoreView → ℕ → List ℕ → ℕ
end_of v w [] = w
end_of v w (x ∷ xs) = end_of v (v.chain_next x) xs

pub path-whole : (v : StoreView) (b w : ℕ) (xs : List ℕ) → Path v b w xs → end_of v w xs ≡ 0 → Linked v b w xs
path-whole v b w [] path ends = ends
path-whole v b w (x ∷ xs) path ends = (path.0, path.1, path-whole v b (v.chain_next x) xs path.2 ends)

pub end-suffix : (v : StoreView) (w : ℕ) (prefix : List ℕ) (c : ℕ) → end_of v w (prefix ++ c ∷ []) ≡ v.chain_next c
end-suffix v w [] c = refl
end-suffix v w (x ∷ prefix) c = end-suffix v (v.chain_next x) prefix c
