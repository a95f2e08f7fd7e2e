-- The search of a map: words, groups, and the space in them.
use Rattle.std.proofs.Common.{◌≡◌, ◌≢◌, ℕ, zero, suc, ◌+◌, ◌-◌, ◌*◌, ◌/◌, ◌%◌, ◌<◌, ◌≤◌, List, Option, None, Some, Bool, true, false, ◌&&◌, ◌||◌, nat_le, if◌then◌else◌, refl, sym, ◌∙◌, ap, subst, arith, ⊎_elim}
use Rattle.std.specs.Prelude.{◌==◌, IfSome}
use Rattle.std.specs.List.{count_by, list_any, range_with_len}
use Rattle.std.proofs.lemmas.Bool.{cases_lt}
use Rattle.std.proofs.lemmas.Bool.Decides.{nat_tests}
use Rattle.spec_image.specs.Bytes.{word_bytes}
use Rattle.spec_image.specs.Image.{Block, Image, byte}
use Rattle.spec_format.specs.Headers.{empty_of, hints_of}
use Rattle.spec_format.specs.BlockFiles.{is_among, is_block_count, max_entries_in}
use Rattle.blk_disk.specs.declared.tables.BlockFiles.{BlockFiles}
use Rattle.blk_disk.specs.Tables.{all_files, blocks_of}
use Rattle.blk_disk.proofs.KeptOnce.{counts}
use Rattle.spec_image.proofs.Runs.{some_inj}
use Rattle.spec_format.specs.Maps.{are_free, groups_of, groups_with, has_run, is_block_marked, longest_run, EmptyAgrees}
use Rattle.spec_format.proofs.Groups.{counted_there, longest_run-same, one}
use Rattle.blk_addr.specs.Bits.{has_bit}
use Rattle.blk_alloc.specs.Fitting.{HasNoRoom, IsByHint, IsFirstMet, IsLeastOfGroup, IsMapWord}
use Rattle.blk_alloc.specs.Places.{is_place}
use Rattle.blk_alloc.proofs.Growing.{count-none}
use Rattle.blk_alloc.proofs.Grown.{free_all}
use Rattle.blk_alloc.proofs.Headers.{bit_read}
use Rattle.blk_alloc.proofs.Pieces.{place_same}
use Rattle.blk_alloc.proofs.Taken.{free_at}

clash : true ≡ false → ⊥
clash e = cc

is_false : (t : Bool) → (t ≡ true → ⊥) → t ≡ false
is_false true never = absurd (never refl)
is_false false never = refl

-- fewer blocks are free where more are
fewer_free : (p : ℕ → Bool) (b more count : ℕ) → count ≤ more → are_free p b more ≡ true → are_free p b count ≡ true
fewer_free p b more count few free = free_all p b count (λ x low high. free_at p b more x free low (omega (arith, high, few)))

-- free blocks in one group are a place
pub is_a_place : (p : ℕ → Bool) (count b : ℕ) → b % 4 + count ≤ 4 → are_free p b count ≡ true → is_place p count b ≡ true
unfolding is_place
is_a_place p count b group free = let inside : nat_le (b % 4 + count) 4 ≡ true = grind (arith, nat_tests) in rw inside free

none_of : (f : ℕ → Bool) (s n : ℕ) → ((i : ℕ) → s ≤ i → i < s + n → f i ≡ false) → list_any f (range_with_len s n) ≡ false
none_of f s zero none = refl
none_of f s (suc n) none = or_false (f s) (list_any f (range_with_len (s + 1) n)) (none s (omega arith) (omega arith)) (none_of f (s + 1) n (λ i low high. none i (omega arith) (omega arith)))
  where
    or_false : (a b : Bool) → a ≡ false → b ≡ false → (a || b) ≡ false
    or_false true b e d = absurd (clash e)
    or_false false b e d = d

some_of : (f : ℕ → Bool) (s n : ℕ) → 0 < n → f s ≡ true → list_any f (range_with_len s n) ≡ true
some_of f s zero some is = absurd (omega (arith, some))
some_of f s (suc n) some is = or_true (f s) (list_any f (range_with_len (s + 1) n)) is
  where
    or_true : (a b : Bool) → a ≡ true → (a || b) ≡ true
    or_true true b e = refl
    or_true false b e = absurd (clash (sym e))

module _ (p : ℕ → Bool) (g count : ℕ) (few : count ≤ 4) (some : 0 < count) where
  -- without a place there is no run
  no_run : ((b : ℕ) → 4 * g ≤ b → b < 4 * g + 4 → is_place p count b ≡ false) → (r : ℕ) → count ≤ r → r ≤ 4 → has_run p g r ≡ false
  unfolding has_run
  no_run none r long most =
      none_of (λ i. are_free p (4 * g + i) r) 0 (4 - r + 1)
      (λ i low high. is_false (are_free p (4 * g + i) r)
      (λ free. clash (sym (is_a_place p count (4 * g + i) (omega (arith, high, long, most, some)) (fewer_free p (4 * g + i) r count long free)) ∙ none (4 * g + i) (omega arith) (omega (arith, high, most, long, some)))))

  -- without a place for so many blocks the longest run is shorter
  pub shorter : ((b : ℕ) → 4 * g ≤ b → b < 4 * g + 4 → is_place p count b ≡ false) → longest_run p g < count
  unfolding longest_run
  shorter none =
      go (has_run p g 4) (has_run p g 3) (has_run p g 2) (has_run p g 1) (λ h. no_run none 4 h (omega arith)) (λ h. no_run none 3 h (omega arith)) (λ h. no_run none 2 h (omega arith)) (λ h. no_run none 1 h (omega arith))
    where
      above : (t : Bool) (r : ℕ) → t ≡ true → (count ≤ r → t ≡ false) → r < count
      above t r is never = ⊎_elim (λ (low : r < count). low) (λ (high : count ≤ r). absurd (clash (sym is ∙ never high))) (cases_lt r count)

      go : (a b c d : Bool) → (count ≤ 4 → a ≡ false) → (count ≤ 3 → b ≡ false) → (count ≤ 2 → c ≡ false) → (count ≤ 1 → d ≡ false) → (if a then 4 else if b then 3 else if c then 2 else if d then 1 else 0) < count
      go true b c d e f h k = above true 4 refl e
      go false true c d e f h k = above true 3 refl f
      go false false true d e f h k = above true 2 refl h
      go false false false true e f h k = above true 1 refl k
      go false false false false e f h k = some

  -- a place at the start of a group is a run of it
  pub longer : is_place p count (4 * g) ≡ true → count ≤ longest_run p g
  unfolding longest_run has_run is_place
  longer is =
      let free : are_free p (4 * g) count ≡ true = second (nat_le (4 * g % 4 + count) 4) (are_free p (4 * g) count) is in
      let run : has_run p g count ≡ true = some_of (λ i. are_free p (4 * g + i) count) 0 (4 - count + 1) (omega (arith, few)) (ap (λ (b : ℕ). are_free p b count) {x = 4 * g + 0} {y = 4 * g} (omega arith) ∙ free) in
      go (has_run p g 4) (has_run p g 3) (has_run p g 2) (has_run p g 1) (λ e. ap (has_run p g) (sym e) ∙ run) (λ e. ap (has_run p g) (sym e) ∙ run) (λ e. ap (has_run p g) (sym e) ∙ run) (λ e. ap (has_run p g) (sym e) ∙ run)
    where
      second : (a b : Bool) → (a && b) ≡ true → b ≡ true
      second true b e = e
      second false b e = absurd (clash (sym e))

      not_it : (r : ℕ) → (count ≡ r → false ≡ true) → count ≢ r
      not_it r h e = clash (sym (h e))

      go : (a b c d : Bool) → (count ≡ 4 → a ≡ true) → (count ≡ 3 → b ≡ true) → (count ≡ 2 → c ≡ true) → (count ≡ 1 → d ≡ true) → count ≤ (if a then 4 else if b then 3 else if c then 2 else if d then 1 else 0)
      go true b c d e f h k = few
      go false true c d e f h k = let x = not_it 4 e in omega (arith, few, x)
      go false false true d e f h k = let x = not_it 4 e in let y = not_it 3 f in omega (arith, few, x, y)
      go false false false true e f h k = let x = not_it 4 e in let y = not_it 3 f in let z = not_it 2 h in omega (arith, few, x, y, z)
      go false false false false e f h k = let x = not_it 4 e in let y = not_it 3 f in let z = not_it 2 h in let w = not_it 1 k in absurd (omega (arith, few, x, y, z, w, some))

-- the marks of a word of a map
module _ (image : Image) (n number w : ℕ) (is : IsMapWord image n number w) where
  pub word_bits : (m : ℕ) → m < 32 → has_bit (word_bytes w) m ≡ is_block_marked image n (32 * number + m)
  word_bits m small = ap (λ (l : List ℕ). has_bit l m) is ∙ bit_read (byte image (Block n)) (4 * number) 4 (32 * number + m) m (omega (arith, small)) (omega arith)

  pub word_runs : (i : ℕ) → i < 8 → longest_run (has_bit (word_bytes w)) i ≡ longest_run (is_block_marked image n) (8 * number + i)
  word_runs i small =
      longest_run-same (has_bit (word_bytes w)) (is_block_marked image n) i (8 * number + i)
      (λ j few. word_bits (4 * i + j) (omega (arith, small, few)) ∙ ap (is_block_marked image n) {x = 32 * number + (4 * i + j)} {y = 4 * (8 * number + i) + j} (omega arith))

-- a run that a counter counts, which agrees with the map, is one of some group
pub counted_somewhere : (image : Image) (n i : ℕ) → EmptyAgrees image n → i < 4 → 0 < empty_of (byte image (Block n)) i → ((g : ℕ) → g < groups_of (max_entries_in image n) → longest_run (is_block_marked image n) g ≢ i + 1) → ⊥
unfolding EmptyAgrees groups_with
counted_somewhere image n i agrees small some none =
    let p : ℕ → Bool = λ g. longest_run (is_block_marked image n) g == i + 1 in
    let zero_count : count_by p (range_with_len 0 (groups_of (max_entries_in image n))) ≡ 0 = count-none p 0 (groups_of (max_entries_in image n)) (λ g low high. let d = none g (omega (arith, high)) in grind (arith, nat_tests)) in
    let is : empty_of (byte image (Block n)) i ≡ count_by p (range_with_len 0 (groups_of (max_entries_in image n))) = agrees i small in
    omega (arith, is, zero_count, some)

-- no run is longer than a group
pub longest_most : (p : ℕ → Bool) (g : ℕ) → longest_run p g ≤ 4
unfolding longest_run
longest_most p g = go (has_run p g 4) (has_run p g 3) (has_run p g 2) (has_run p g 1)
  where
    go : (a b c d : Bool) → (if a then 4 else if b then 3 else if c then 2 else if d then 1 else 0) ≤ 4
    go true b c d = omega arith
    go false true c d = omega arith
    go false false true d = omega arith
    go false false false true = omega arith
    go false false false false = omega arith

-- where counters that agree with the map count no run of so many blocks, no group has them at its start
pub none_at_front : (image : Image) (n count g : ℕ) → count ≤ 4 → 0 < count → EmptyAgrees image n → HasNoRoom image count n → g < groups_of (max_entries_in image n) → is_place (is_block_marked image n) count (4 * g) ≡ false
unfolding EmptyAgrees groups_with
none_at_front image n count g few some agrees none there = is_false (is_place p count (4 * g)) never
  where
    p : ℕ → Bool
    p = is_block_marked image n

    never : is_place (is_block_marked image n) count (4 * g) ≡ true → ⊥
    never is =
        let long : count ≤ longest_run (is_block_marked image n) g = longer (is_block_marked image n) g count few some is in
        by_run (longest_run (is_block_marked image n) g) refl long (longest_most (is_block_marked image n) g)
      where
        by_run : (r : ℕ) → longest_run (is_block_marked image n) g ≡ r → count ≤ r → r ≤ 4 → ⊥
        by_run zero e long most = omega (arith, long, some)
        by_run (suc i) e long most =
            let q : ℕ → Bool = λ h. longest_run (is_block_marked image n) h == i + 1 in
            let counts = counted_there q g 0 (groups_of (max_entries_in image n)) (omega arith) (omega (arith, there)) in
            let one_is : one (q g) ≡ 1 = ap one (let d = e in let t : q g ≡ true = grind (arith, nat_tests) in t) in
            let is : empty_of (byte image (Block n)) i ≡ count_by q (range_with_len 0 (groups_of (max_entries_in image n))) = agrees i (omega (arith, most)) in
            let zero_is = none i (omega (arith, most)) (omega (arith, long)) in
            omega (arith, counts, one_is, is, zero_is)

-- a file has whole words of marks
pub count_words : (k : ℕ) → is_block_count k ≡ true → k % 32 ≡ 0
unfolding is_block_count
count_words k is = grind (arith, nat_tests)

-- a file has eight groups for each word of marks
pub word_groups : (files : BlockFiles) (n blocks : ℕ) → is_among (all_files files) n ≡ true → Some blocks ≡ (if is_among (all_files files) n then Some (blocks_of files n) else None) → (blocks ≡ blocks_of files n) × (groups_of (blocks_of files n) ≡ 8 * (blocks / 32))
word_groups files n blocks among is =
    let same : blocks ≡ blocks_of files n = some_inj (is ∙ ap (λ (t : Bool). if t then Some (blocks_of files n) else None) among) in
    let whole = count_words (blocks_of files n) (counts files n among) in
    (same, omega (arith, same, whole))

-- the least place of a group in a word that was read is that in the file
module _ (image : Image) (n number w count b : ℕ) (bytes : List ℕ) (is : IsMapWord image n number w) (bytes_are : bytes ≡ word_bytes w) (small : b < 32) (some : 0 < count) where
  bits : (m : ℕ) → m < 32 → has_bit bytes m ≡ is_block_marked image n (32 * number + m)
  bits m low = ap (λ (l : List ℕ). has_bit l m) bytes_are ∙ word_bits image n number w is m low

  same_place : (x : ℕ) → x < 32 → is_place (has_bit bytes) count x ≡ is_place (is_block_marked image n) count (32 * number + x)
  same_place x low =
      place_same (has_bit bytes) (is_block_marked image n) x (32 * number + x) count (omega arith)
      (λ inside i few. bits (x + i) (omega (arith, inside, few, low)) ∙ ap (is_block_marked image n) {x = 32 * number + (x + i)} {y = 32 * number + x + i} (omega arith))

  pub least_there : IsLeastOfGroup (has_bit bytes) count b → IsLeastOfGroup (is_block_marked image n) count (32 * number + b)
  least_there least = record {
    place = sym (same_place b small) ∙ least.place;
    least = λ x low high.
        let y : ℕ = x - 32 * number in
        let at : 32 * number + y ≡ x = omega (arith, low) in
        ap (is_place (is_block_marked image n) count) (sym at) ∙ sym (same_place y (omega (arith, high, small))) ∙ least.least y (omega (arith, low)) (omega (arith, high, low));
  }

-- the first group that is met from a hint on, with the least place in it
pub by_hint : (image : Image) (n groups count i hint number place w b : ℕ) (bytes : List ℕ) → IsFirstMet (is_block_marked image n) groups hint (i + 1) (8 * number + place) → hint ≡ hints_of (byte image (Block n)) i → 8 * number + place < groups → place < 8 → b / 4 ≡ place
    → IsMapWord image n number w → bytes ≡ word_bytes w → 0 < count → IsLeastOfGroup (has_bit bytes) count b → IsByHint image n groups count i (32 * number + b)
by_hint image n groups count i hint number place w b bytes met is there low at read bytes_are some least =
    let group : 8 * number + place ≡ (32 * number + b) / 4 = omega (arith, at) in
    record {
      there = omega (arith, at, there);
      first = subst (λ (h : ℕ). IsFirstMet (is_block_marked image n) groups h (i + 1) ((32 * number + b) / 4)) is (subst (IsFirstMet (is_block_marked image n) groups hint (i + 1)) group met);
      least = least_there image n number w count b bytes read bytes_are (omega (arith, at, low)) some least;
    }

-- what holds of some value holds of this one
pub of_some : {A : Type 0} (o : Option A) (a : A) (P : A → Type 0) → o ≡ Some a → IfSome o P → P a
of_some {A} o a P is holds = let q : IfSome (Some a) P = subst (λ (x : Option A). IfSome x P) is holds in q
