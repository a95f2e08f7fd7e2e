-- Each file is in the table once, also when one more is loaded.
use Rattle.std.proofs.Common.{◌≡◌, ℕ, zero, suc, ◌<◌, Bool, true, false, ◌||◌, List, [], ◌∷◌, ◌++◌, append_assoc, length, set, get_or, refl, sym, ◌∙◌, ap, subst, arith, ⊎_elim}
use Rattle.std.specs.Prelude.{◌==◌}
use Rattle.std.specs.List.{IsDistinct, AllByRecursion}
use Rattle.std.proofs.lemmas.Bool.{cases_eq, or_cases, or_from, or_parts}
use Rattle.std.proofs.lemmas.Bool.Decides.{nat_tests}
use Rattle.std.proofs.lemmas.List.{append-nil}
use Rattle.spec_format.specs.BlockFiles.{is_among, is_block_count, kind_among}
use Rattle.spec_format.proofs.Among.{is_among-append}
use Rattle.blk_disk.specs.declared.tables.BlockFiles.{BlockFiles}
use Rattle.blk_disk.specs.Kept.{KeptFilesAreDistinct, KeptFilesHaveBlockCounts, KeptFilesHaveOneKind}
use Rattle.blk_disk.specs.Tables.{all_files, blocks_of, files_of}
use Rattle.blk_disk.proofs.Joining.{there, elsewhere}
use Rattle.blk_disk.proofs.Once.{apart}

Distinct : List ℕ → Type 0
Distinct ns = IsDistinct (λ m n. m == n) ns

-- a number that is unlike each of a list isn't in it
none_like : (k : ℕ) (ns : List ℕ) → AllByRecursion (λ n. (k == n) ≡ false) ns → is_among ns k ≡ false
none_like k [] all = refl
none_like k (n ∷ ns) all = or_from (n == k) (is_among ns k) (let unlike = all.0 in grind (arith, nat_tests)) (none_like k ns all.1)

-- the first of two lists without a common number
front : (xs ys : List ℕ) → Distinct (xs ++ ys) → Distinct xs
unfolding Distinct IsDistinct
front [] ys once = tt
front (x ∷ xs) ys once =
    let none = or_parts (is_among xs x) (is_among ys x) (sym (is_among-append xs ys x) ∙ none_like x (xs ++ ys) once.0) in
    (apart x xs none.0, front xs ys once.1)

-- what is in the first isn't in the second
behind : (xs ys : List ℕ) (n : ℕ) → Distinct (xs ++ ys) → is_among xs n ≡ true → is_among ys n ≡ false
unfolding Distinct IsDistinct
behind [] ys n once among = absurd (let z : false ≡ true = among in cc)
behind (x ∷ xs) ys n once among =
    ⊎_elim
    (λ here. let is : x ≡ n = grind (arith, nat_tests) in subst (λ (k : ℕ). is_among ys k ≡ false) is ((or_parts (is_among xs x) (is_among ys x) (sym (is_among-append xs ys x) ∙ none_like x (xs ++ ys) once.0)).1))
    (λ later. behind xs ys n once.1 later) (or_cases (x == n) (is_among xs n) among)

-- what is in the second isn't in the first
before : (xs ys : List ℕ) (n : ℕ) → Distinct (xs ++ ys) → is_among ys n ≡ true → is_among xs n ≡ false
before xs ys n once among = by_test (is_among xs n) refl
  where
    by_test : (t : Bool) → is_among xs n ≡ t → is_among xs n ≡ false
    by_test false is = is
    by_test true is = absurd (let z : true ≡ false = sym among ∙ behind xs ys n once is in cc)

pub distinct : KeptFilesAreDistinct
unfolding all_files files_of
distinct files = files.once

pub counts : KeptFilesHaveBlockCounts
unfolding all_files files_of blocks_of
counts files n among = files.counts n among

-- a number of one of four lists is in none before it
module _ (a b c d : List ℕ) (once : IsDistinct (λ m n. m == n) (a ++ b ++ c ++ d)) (n : ℕ) where
  all : Distinct (a ++ b ++ c ++ d)
  unfolding Distinct
  all = once

  three : Distinct (a ++ b ++ c)
  three = front (a ++ b ++ c) d all

  second : is_among b n ≡ true → is_among a n ≡ false
  second there = before a b n (front (a ++ b) c three) there

  third : is_among c n ≡ true → (is_among a n ≡ false) × (is_among b n ≡ false)
  third there = or_parts (is_among a n) (is_among b n) (sym (is_among-append a b n) ∙ before (a ++ b) c n three there)

  fourth : is_among d n ≡ true → (is_among a n ≡ false) × (is_among b n ≡ false) × (is_among c n ≡ false)
  fourth there =
      let none = or_parts (is_among (a ++ b) n) (is_among c n) (sym (is_among-append (a ++ b) c n) ∙ before (a ++ b ++ c) d n all there) in
      let none2 = or_parts (is_among a n) (is_among b n) (sym (is_among-append a b n) ∙ none.0) in
      (none2.0, none2.1, none.1)

pub one_kind : KeptFilesHaveOneKind
unfolding kind_among files_of
one_kind files zero holds n there = absurd (let z : false ≡ true = holds in cc)
one_kind files (suc zero) holds n there = rw there refl
one_kind files (suc (suc zero)) holds n there = let none = second files.rankings.items files.b256.items files.b1k.items files.b4k.items files.once n there in rw (none, there) refl
one_kind files (suc (suc (suc zero))) holds n there = let none = third files.rankings.items files.b256.items files.b1k.items files.b4k.items files.once n there in rw (none.0, none.1, there) refl
one_kind files (suc (suc (suc (suc zero)))) holds n there =
    let none = fourth files.rankings.items files.b256.items files.b1k.items files.b4k.items files.once n there in rw (none.0, none.1, none.2, there) refl
one_kind files (suc (suc (suc (suc (suc kind))))) holds n there = absurd (grind (arith, nat_tests))

-- One more file.

-- a number that is in neither of two lists, between them
between : (xs ys : List ℕ) (n : ℕ) → is_among (xs ++ ys) n ≡ false → Distinct (xs ++ ys) → Distinct (xs ++ n ∷ ys)
unfolding Distinct IsDistinct
between [] ys n fresh once = (apart n ys fresh, once)
between (x ∷ xs) ys n fresh once =
    let parts = or_parts (x == n) (is_among (xs ++ ys) n) fresh in
    let none = or_parts (is_among xs x) (is_among ys x) (sym (is_among-append xs ys x) ∙ none_like x (xs ++ ys) once.0) in
    let unlike : (n == x) ≡ false = (let e = parts.0 in grind (arith, nat_tests)) in
    (apart x (xs ++ n ∷ ys) (is_among-append xs (n ∷ ys) x ∙ or_from (is_among xs x) ((n == x) || is_among ys x) none.0 (or_from (n == x) (is_among ys x) unlike none.1)), between xs ys n parts.1 once.1)

turned : (a b c : Bool) → (a || (b || c)) ≡ ((a || c) || b)
turned true b c = refl
turned false true true = refl
turned false true false = refl
turned false false true = refl
turned false false false = refl

-- and the members are one more
pub among_between : (xs ys : List ℕ) (n m : ℕ) → is_among (xs ++ n ∷ ys) m ≡ (is_among (xs ++ ys) m || (n == m))
among_between xs ys n m = is_among-append xs (n ∷ ys) m ∙ turned (is_among xs m) (n == m) (is_among ys m) ∙ ap (λ (t : Bool). t || (n == m)) (sym (is_among-append xs ys m))

-- a list with one more file, and the number of blocks of each
module _ (xs ys old new : List ℕ) (n : ℕ) (was : old ≡ xs ++ ys) (is : new ≡ xs ++ n ∷ ys) (fresh : is_among old n ≡ false) where
  once_more : IsDistinct (λ a b. a == b) old → IsDistinct (λ a b. a == b) new
  unfolding Distinct
  once_more once = subst Distinct (sym is) (between xs ys n (ap (λ (l : List ℕ). is_among l n) (sym was) ∙ fresh) (subst Distinct was once))

  counts_more : (blocks : List ℕ) (at count : ℕ) → at ≡ n → n < length blocks → is_block_count count ≡ true
      → ((m : ℕ) → is_among old m ≡ true → is_block_count (get_or blocks m 0) ≡ true) → (m : ℕ) → is_among new m ≡ true → is_block_count (get_or (set blocks at count) m 0) ≡ true
  counts_more blocks at count same within holds each m among = ⊎_elim here apart_from (cases_eq m n)
    where
      here : m ≡ n → is_block_count (get_or (set blocks at count) m 0) ≡ true
      here e = ap is_block_count (ap (λ (i : ℕ). get_or (set blocks at count) i 0) e ∙ there blocks at n count same within) ∙ holds

      apart_from : (m ≡ n → ⊥) → is_block_count (get_or (set blocks at count) m 0) ≡ true
      apart_from differs =
          let among_old : (is_among old m || (n == m)) ≡ true = sym (ap (λ (l : List ℕ). is_among l m) is ∙ among_between xs ys n m ∙ ap (λ (l : List ℕ). is_among l m || (n == m)) (sym was)) ∙ among in
          ap is_block_count (elsewhere blocks at n count same m differs)
          ∙ each m (⊎_elim (λ old_one. old_one) (λ e. absurd (differs (grind (arith, nat_tests)))) (or_cases (is_among old m) (n == m) among_old))

-- each of these files is in the table once, with a number of blocks that files may have
pub record AreOnce (files blocks : List ℕ) : Type 0 where
  pub once : IsDistinct (λ m n. m == n) files
  pub counts : (n : ℕ) → is_among files n ≡ true → is_block_count (get_or blocks n 0) ≡ true

module _ (old : BlockFiles) (n blocks at : ℕ) (same : at ≡ n) (small : n < 256) (fresh : is_among (all_files old) n ≡ false) (holds : is_block_count blocks ≡ true) where
  abbrev a : List ℕ
  a = old.rankings.items

  abbrev b : List ℕ
  b = old.b256.items

  abbrev c : List ℕ
  c = old.b1k.items

  abbrev d : List ℕ
  d = old.b4k.items

  taken : (xs ys new : List ℕ) → a ++ b ++ c ++ d ≡ xs ++ ys → new ≡ xs ++ n ∷ ys → AreOnce new (set old.blocks at blocks)
  unfolding all_files files_of
  taken xs ys new was is = record {
    once = once_more xs ys (a ++ b ++ c ++ d) new n was is fresh old.once;
    counts = counts_more xs ys (a ++ b ++ c ++ d) new n was is fresh old.blocks at blocks same (omega (arith, old.all_blocks)) holds old.counts;
  }

  pub taken_rankings : (items : List ℕ) → items ≡ a ++ n ∷ [] → AreOnce (items ++ b ++ c ++ d) (set old.blocks at blocks)
  taken_rankings items is = taken a (b ++ c ++ d) (items ++ b ++ c ++ d) (simp append_assoc) (ap (λ (l : List ℕ). l ++ b ++ c ++ d) is ∙ simp append_assoc)

  pub taken_b256 : (items : List ℕ) → items ≡ b ++ n ∷ [] → AreOnce (a ++ items ++ c ++ d) (set old.blocks at blocks)
  taken_b256 items is = taken (a ++ b) (c ++ d) (a ++ items ++ c ++ d) (simp append_assoc) (ap (λ (l : List ℕ). a ++ l ++ c ++ d) is ∙ simp append_assoc)

  pub taken_b1k : (items : List ℕ) → items ≡ c ++ n ∷ [] → AreOnce (a ++ b ++ items ++ d) (set old.blocks at blocks)
  taken_b1k items is = taken (a ++ b ++ c) d (a ++ b ++ items ++ d) refl (ap (λ (l : List ℕ). a ++ b ++ l ++ d) is ∙ simp append_assoc)

  pub taken_b4k : (items : List ℕ) → items ≡ d ++ n ∷ [] → AreOnce (a ++ b ++ c ++ items) (set old.blocks at blocks)
  taken_b4k items is = taken (a ++ b ++ c ++ d) [] (a ++ b ++ c ++ items) (simp append-nil) (ap (λ (l : List ℕ). a ++ b ++ c ++ l) is ∙ simp append_assoc)
