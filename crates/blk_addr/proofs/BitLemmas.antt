-- A set of numbers as bytes: what a longer list and a set bit change.
use Rattle.std.proofs.Common.{◌≡◌, ◌≢◌, ℕ, zero, suc, ◌+◌, ◌*◌, ◌/◌, ◌%◌, ◌^◌, ◌<◌, ◌≤◌, List, [], ◌∷◌, ◌++◌, length, replicate, take, get_or, set, Bool, true, false, ◌||◌, refl, sym, ◌∙◌, ap, arith, bit_or, w8, ◌⊎◌, inl, inr, eqb}
use Rattle.std.specs.Prelude.{◌==◌}
use Rattle.std.specs.Int.{bit_at}
use Rattle.std.proofs.lemmas.Bool.Decides.{nat_tests, eqb_tells}
use Rattle.std.proofs.lemmas.List.{get_or-set_other, get_or-set_same, take_all}
use Rattle.std.proofs.lemmas.Nat.Bits.{bit_at_set_same, bit_at_set_other}
use Rattle.blk_addr.specs.Bits.{has_bit, bits_below, bits_of_files, is_between}

-- zeros at the end change no byte that is read with 0 past the end
pub get_or-append-zeros : (xs : List ℕ) (k i : ℕ) → get_or (xs ++ replicate k 0) i 0 ≡ get_or xs i 0
get_or-append-zeros [] zero i = refl
get_or-append-zeros [] (suc k) zero = refl
get_or-append-zeros [] (suc k) (suc i) = get_or-append-zeros [] k i
get_or-append-zeros (x ∷ xs) k zero = refl
get_or-append-zeros (x ∷ xs) k (suc i) = get_or-append-zeros xs k i

-- zeros at the end don't change the set
pub has_bit-append-zeros : (xs : List ℕ) (k n : ℕ) → has_bit (xs ++ replicate k 0) n ≡ has_bit xs n
unfolding has_bit
has_bit-append-zeros xs k n = ap (λ byte. bit_at byte (n % 8) == 1) (get_or-append-zeros xs k (n / 8))

-- a bit that is set in its byte
abbrev with_bit : List ℕ → ℕ → ℕ → List ℕ
with_bit xs n byte = set xs (n / 8) (bit_or byte (1 * 2 ^ (n % 8) % 256))

-- once a bit is set in its byte, its number is in the set
has_bit-with_bit-same : (xs : List ℕ) (n byte : ℕ) → n / 8 < length xs → has_bit (with_bit xs n byte) n ≡ true
unfolding has_bit
has_bit-with_bit-same xs n byte inside =
    let here = get_or-set_same xs (n / 8) (bit_or byte (1 * 2 ^ (n % 8) % 256)) 0 inside in
    let same : bit_at (bit_or byte (1 * 2 ^ (n % 8) % 256)) (n % 8) ≡ 1 = bit_at_set_same w8 byte (n % 8) (omega arith) in
    ap (λ word. bit_at word (n % 8) == 1) here ∙ ap (λ bit. bit == 1) same

-- once a bit is set in its byte, no other number changes
has_bit-with_bit-other : (xs : List ℕ) (n m byte : ℕ) → n / 8 < length xs → byte ≡ get_or xs (n / 8) 0 → m ≢ n
    → has_bit (with_bit xs n byte) m ≡ has_bit xs m
unfolding has_bit
has_bit-with_bit-other xs n m byte inside is other =
    let cases : ((eqb (m / 8) (n / 8) ≡ true) × (m / 8 ≡ n / 8)) ⊎ ((eqb (m / 8) (n / 8) ≡ false) × (m / 8 ≢ n / 8)) = eqb_tells (m / 8) (n / 8) in
    elim cases [
      | inl same ↦
          let apart : m % 8 ≢ n % 8 = λ e. other (omega arith) in
          let here = get_or-set_same xs (n / 8) (bit_or byte (1 * 2 ^ (n % 8) % 256)) 0 inside in
          let bit : bit_at (bit_or byte (1 * 2 ^ (n % 8) % 256)) (m % 8) ≡ bit_at byte (m % 8) = bit_at_set_other w8 byte (n % 8) (omega arith) (m % 8) apart in
          ap (λ place. bit_at (get_or (with_bit xs n byte) place 0) (m % 8) == 1) same.1
          ∙ ap (λ word. bit_at word (m % 8) == 1) here
          ∙ ap (λ b. b == 1) bit
          ∙ ap (λ word. bit_at word (m % 8) == 1) is
          ∙ ap (λ place. bit_at (get_or xs place 0) (m % 8) == 1) (sym same.1)
      | inr apart ↦
          ap (λ word. bit_at word (m % 8) == 1) (get_or-set_other xs (n / 8) (m / 8) (bit_or byte (1 * 2 ^ (n % 8) % 256)) 0 apart.1)
    ]

-- once a bit is set in its byte, its number is added to the set
pub has_bit-with_bit : (xs : List ℕ) (n m byte : ℕ) → n / 8 < length xs → byte ≡ get_or xs (n / 8) 0
    → has_bit (set xs (n / 8) (bit_or byte (1 * 2 ^ (n % 8) % 256))) m ≡ (m == n || has_bit xs m)
has_bit-with_bit xs n m byte inside is =
    let cases : ((eqb m n ≡ true) × (m ≡ n)) ⊎ ((eqb m n ≡ false) × (m ≢ n)) = eqb_tells m n in
    elim cases [
      | inl same ↦
          ap (has_bit (with_bit xs n byte)) same.1 ∙ has_bit-with_bit-same xs n byte inside ∙ ap (λ b. b || has_bit xs m) (sym same.0)
      | inr apart ↦
          has_bit-with_bit-other xs n m byte inside is apart.1 ∙ ap (λ b. b || has_bit xs m) (sym apart.0)
    ]

-- the numbers from first on and below end were added, in as many bytes
pub record IsFilled (old new : List ℕ) (first end : ℕ) : Type 0 where
  pub numbers : (m : ℕ) → has_bit new m ≡ (is_between first end m || has_bit old m)
  pub room : length new ≡ length old

-- a longer list, with zeros at the end, is the same set
pub has_bit-resized : (old kept new : List ℕ) (wanted k n : ℕ) → kept ≡ old → length old ≤ wanted → new ≡ take wanted kept ++ replicate k 0
    → has_bit new n ≡ has_bit old n
has_bit-resized old kept new wanted k n same fits is =
    let whole : take wanted kept ≡ old = ap (take wanted) same ∙ take_all wanted old fits in
    ap (λ bytes. has_bit bytes n) (is ∙ ap (λ bytes. bytes ++ replicate k 0) whole) ∙ has_bit-append-zeros old k n

-- what holds on the right holds of an or
or_right : (a b : Bool) → b ≡ true → (a || b) ≡ true
or_right true b h = refl
or_right false b h = h

-- no more numbers below a limit are in a set than there are
pub bits_below-most : (bytes : List ℕ) (limit : ℕ) → bits_below bytes limit ≤ limit
unfolding bits_below
bits_below-most bytes zero = omega arith
bits_below-most bytes (suc limit) = grind (arith, bits_below-most bytes limit)

-- a set that keeps its numbers has no fewer
pub bits_below-kept : (old new : List ℕ) (limit : ℕ) → ((m : ℕ) → has_bit old m ≡ true → has_bit new m ≡ true)
    → bits_below old limit ≤ bits_below new limit
unfolding bits_below
bits_below-kept old new zero keeps = omega arith
bits_below-kept old new (suc limit) keeps = grind (arith, bits_below-kept old new limit keeps, keeps limit)

-- a set that keeps its numbers and gains one has more
pub bits_below-more : (old new : List ℕ) (limit k : ℕ) → ((m : ℕ) → has_bit old m ≡ true → has_bit new m ≡ true)
    → k < limit → has_bit old k ≡ false → has_bit new k ≡ true → bits_below old limit + 1 ≤ bits_below new limit
unfolding bits_below
bits_below-more old new zero k keeps below absent present = absurd (omega arith)
bits_below-more old new (suc limit) k keeps below absent present =
    let cases : ((eqb k limit ≡ true) × (k ≡ limit)) ⊎ ((eqb k limit ≡ false) × (k ≢ limit)) = eqb_tells k limit in
    elim cases [
      | inl last ↦
          let was : has_bit old limit ≡ false = ap (has_bit old) (sym last.1) ∙ absent in
          let is : has_bit new limit ≡ true = ap (has_bit new) (sym last.1) ∙ present in
          grind (arith, bits_below-kept old new limit keeps, was, is)
      | inr before ↦
          let further : k < limit = omega arith in
          grind (arith, bits_below-more old new limit k keeps further absent present, keeps limit)
    ]

-- a set that gained numbers, one of which is a number of a block, has more numbers of blocks
pub bits_of_files-more : (old new : List ℕ) (first end : ℕ) → ((m : ℕ) → has_bit new m ≡ (is_between first end m || has_bit old m))
    → first < end → first < 256 * 65536 → has_bit old first ≡ false → bits_of_files old + 1 ≤ bits_of_files new
unfolding bits_of_files
bits_of_files-more old new first end adds some below absent =
    bits_below-more old new (256 * 65536) first (λ m h. adds m ∙ or_right (is_between first end m) (has_bit old m) h) below absent
    (adds first ∙ grind (arith, nat_tests))

-- a set that has all numbers of another has as many at least
pub bits_of_files-same : (old new : List ℕ) → ((m : ℕ) → has_bit new m ≡ has_bit old m) → bits_of_files old ≤ bits_of_files new
unfolding bits_of_files
bits_of_files-same old new same = bits_below-kept old new (256 * 65536) (λ m h. same m ∙ h)

-- at most so many
pub bits_of_files-most : (bytes : List ℕ) → bits_of_files bytes ≤ 256 * 65536
unfolding bits_of_files
bits_of_files-most bytes = bits_below-most bytes (256 * 65536)
