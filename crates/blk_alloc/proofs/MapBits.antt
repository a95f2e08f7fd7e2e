-- Bits of a map that are set or cleared.
use Rattle.std.proofs.Common.{◌≡◌, ◌≢◌, ℕ, ◌+◌, ◌-◌, ◌*◌, ◌/◌, ◌%◌, ◌^◌, ◌<◌, ◌≤◌, List, length, get_or, set, Bool, true, false, ◌||◌, refl, sym, ◌∙◌, ap, arith, bit_or, bit_and, w8, ◌⊎◌, inl, inr, eqb}
use Rattle.std.specs.Prelude.{◌==◌, if◌then◌else◌}
use Rattle.std.specs.Int.{bit_at}
use Rattle.std.proofs.lemmas.Bool.Decides.{nat_tests, eqb_tells}
use Rattle.std.proofs.lemmas.List.{get_or-set_other, get_or-set_same}
use Rattle.std.proofs.lemmas.Nat.Bits.{bit_at_clear_same, bit_at_clear_other}
use Rattle.blk_addr.specs.Bits.{has_bit, is_between}
use Rattle.blk_addr.proofs.BitLemmas.{has_bit-with_bit}

or_is : (t b : Bool) → (t || b) ≡ (if t then true else b)
or_is true b = refl
or_is false b = refl

-- a bit that is set
pub set_bit : (xs : List ℕ) (n m : ℕ) (used : Bool) → n < 8 * length xs → used ≡ true
    → has_bit (set xs (n / 8) (bit_or (get_or xs (n / 8) 0) (1 * 2 ^ (n % 8) % 256))) m ≡ (if m == n then used else has_bit xs m)
set_bit xs n m used inside is =
    has_bit-with_bit xs n m (get_or xs (n / 8) 0) (omega arith) refl ∙ or_is (m == n) (has_bit xs m) ∙ ap (λ (u : Bool). if m == n then u else has_bit xs m) (sym is)

-- the byte without a bit
abbrev without_bit : List ℕ → ℕ → List ℕ
without_bit xs n = set xs (n / 8) (bit_and (get_or xs (n / 8) 0) (255 - 1 * 2 ^ (n % 8) % 256))

clear_same : (xs : List ℕ) (n : ℕ) → n / 8 < length xs → has_bit (without_bit xs n) n ≡ false
unfolding has_bit
clear_same xs n inside =
    let here = get_or-set_same xs (n / 8) (bit_and (get_or xs (n / 8) 0) (255 - 1 * 2 ^ (n % 8) % 256)) 0 inside in
    let same : bit_at (bit_and (get_or xs (n / 8) 0) (255 - 1 * 2 ^ (n % 8) % 256)) (n % 8) ≡ 0 = bit_at_clear_same w8 (get_or xs (n / 8) 0) (n % 8) (omega arith) in
    ap (λ word. bit_at word (n % 8) == 1) here ∙ ap (λ bit. bit == 1) same

clear_other : (xs : List ℕ) (n m : ℕ) → n / 8 < length xs → m ≢ n → has_bit (without_bit xs n) m ≡ has_bit xs m
unfolding has_bit
clear_other xs n m inside other =
    let cases : ((eqb (m / 8) (n / 8) ≡ true) × (m / 8 ≡ n / 8)) ⊎ ((eqb (m / 8) (n / 8) ≡ false) × (m / 8 ≢ n / 8)) = eqb_tells (m / 8) (n / 8) in
    elim cases [
      | inl same ↦
          let apart : m % 8 ≢ n % 8 = λ e. other (omega arith) in
          let here = get_or-set_same xs (n / 8) (bit_and (get_or xs (n / 8) 0) (255 - 1 * 2 ^ (n % 8) % 256)) 0 inside in
          let bit : bit_at (bit_and (get_or xs (n / 8) 0) (255 - 1 * 2 ^ (n % 8) % 256)) (m % 8) ≡ bit_at (get_or xs (n / 8) 0) (m % 8) = bit_at_clear_other w8 (get_or xs (n / 8) 0) (n % 8) (omega arith) (m % 8) (omega arith) apart in
          ap (λ place. bit_at (get_or (without_bit xs n) place 0) (m % 8) == 1) same.1
          ∙ ap (λ word. bit_at word (m % 8) == 1) here
          ∙ ap (λ b. b == 1) bit
          ∙ ap (λ place. bit_at (get_or xs place 0) (m % 8) == 1) (sym same.1)
      | inr apart ↦
          ap (λ word. bit_at word (m % 8) == 1) (get_or-set_other xs (n / 8) (m / 8) (bit_and (get_or xs (n / 8) 0) (255 - 1 * 2 ^ (n % 8) % 256)) 0 apart.1)
    ]

-- a bit that is cleared
pub clear_bit : (xs : List ℕ) (n m : ℕ) (used : Bool) → n < 8 * length xs → used ≡ false
    → has_bit (set xs (n / 8) (bit_and (get_or xs (n / 8) 0) (255 - 1 * 2 ^ (n % 8) % 256))) m ≡ (if m == n then used else has_bit xs m)
clear_bit xs n m used inside is =
    let cases : ((eqb m n ≡ true) × (m ≡ n)) ⊎ ((eqb m n ≡ false) × (m ≢ n)) = eqb_tells m n in
    elim cases [
      | inl same ↦ ap (has_bit (without_bit xs n)) same.1 ∙ clear_same xs n (omega arith) ∙ sym is ∙ ap (λ (t : Bool). if t then used else has_bit xs m) (sym same.0)
      | inr apart ↦ clear_other xs n m (omega arith) apart.1 ∙ ap (λ (t : Bool). if t then used else has_bit xs m) (sym apart.0)
    ]

-- one more bit
pub more_bits : (new old : ℕ → Bool) (before : ℕ → Bool) (b i : ℕ) (used : Bool) → b ≤ i → ((m : ℕ) → old m ≡ (if is_between b i m then used else before m)) → ((m : ℕ) → new m ≡ (if m == i then used else old m))
    → (m : ℕ) → new m ≡ (if is_between b (i + 1) m then used else before m)
more_bits new old before b i used upto was is m = is m ∙ ap (λ (t : Bool). if m == i then used else t) (was m) ∙ by_test (m == i) refl
  where
    by_test : (t : Bool) → (m == i) ≡ t → (if t then used else (if is_between b i m then used else before m)) ≡ (if is_between b (i + 1) m then used else before m)
    by_test true e = let inside : is_between b (i + 1) m ≡ true = grind (arith, nat_tests) in sym (ap (λ (t : Bool). if t then used else before m) inside)
    by_test false e = let same : is_between b (i + 1) m ≡ is_between b i m = grind (arith, nat_tests) in sym (ap (λ (t : Bool). if t then used else before m) same)
