-- Places of free blocks.
use Rattle.std.proofs.Common.{◌≡◌, ℕ, zero, suc, ◌+◌, ◌%◌, ◌<◌, ◌≤◌, Bool, true, false, ◌&&◌, not, nat_le, refl, ◌∙◌, ap, ap₂, arith}
use Rattle.std.specs.List.{list_all, range_with_len}
use Rattle.std.proofs.lemmas.Bool.Decides.{nat_tests}
use Rattle.spec_format.specs.Maps.{are_free}
use Rattle.blk_alloc.specs.Places.{is_place}

all-same : (f g : ℕ → Bool) (s n : ℕ) → ((i : ℕ) → s ≤ i → i < s + n → f i ≡ g i) → list_all f (range_with_len s n) ≡ list_all g (range_with_len s n)
all-same f g s zero same = refl
all-same f g s (suc n) same = ap₂ (λ (a b : Bool). a && b) (same s (omega arith) (omega arith)) (all-same f g (s + 1) n (λ i low high. same i (omega arith) (omega arith)))

-- blocks that are marked alike are free alike
pub free_same : (p q : ℕ → Bool) (a b count : ℕ) → ((i : ℕ) → i < count → p (a + i) ≡ q (b + i)) → are_free p a count ≡ are_free q b count
unfolding are_free
free_same p q a b count same = all-same (λ i. not (p (a + i))) (λ i. not (q (b + i))) 0 count (λ i low high. ap not (same i (omega arith)))

-- two groups whose blocks are marked alike have the same places
pub place_same : (p q : ℕ → Bool) (a b count : ℕ) → a % 4 ≡ b % 4 → (a % 4 + count ≤ 4 → (i : ℕ) → i < count → p (a + i) ≡ q (b + i)) → is_place p count a ≡ is_place q count b
unfolding is_place
place_same p q a b count group same = ap (λ (k : ℕ). nat_le (k + count) 4 && are_free p a count) group ∙ by_test (nat_le (b % 4 + count) 4) refl
  where
    by_test : (t : Bool) → nat_le (b % 4 + count) 4 ≡ t → (t && are_free p a count) ≡ (t && are_free q b count)
    by_test true e = let inside : b % 4 + count ≤ 4 = grind (arith, nat_tests) in free_same p q a b count (same (omega (arith, group, inside)))
    by_test false e = refl

-- a place lies in one group
pub place_group : (marked : ℕ → Bool) (count b : ℕ) → is_place marked count b ≡ true → b % 4 + count ≤ 4
unfolding is_place
place_group marked count b is = by_test (nat_le (b % 4 + count) 4) refl is
  where
    by_test : (t : Bool) → nat_le (b % 4 + count) 4 ≡ t → (t && are_free marked b count) ≡ true → b % 4 + count ≤ 4
    by_test true e h = grind (arith, nat_tests)
    by_test false e h = absurd (clash h)
      where
        clash : false ≡ true → ⊥
        clash c = cc

pub place_free : (marked : ℕ → Bool) (count b : ℕ) → is_place marked count b ≡ true → are_free marked b count ≡ true
unfolding is_place
place_free marked count b is = by_test (nat_le (b % 4 + count) 4) is
  where
    by_test : (t : Bool) → (t && are_free marked b count) ≡ true → are_free marked b count ≡ true
    by_test true h = h
    by_test false h = absurd (clash h)
      where
        clash : false ≡ true → ⊥
        clash c = cc
