use Rattle.std.proofs.Common.{◌≡◌, ℕ, zero, suc, ◌<◌, ◌%◌, Bool, true, nat_eq, ◌&&◌, List, [], ◌∷◌, length, get_or, refl, arith}
use Rattle.std.proofs.lemmas.Bool.Decides.{nat_tests}
use Rattle.test_files.proofs.io.write_fourteen.Goals as goal

-- whether each word has the place of a whole word
abbrev are_aligned : List (ℕ × ℕ) → Bool
are_aligned [] = true
are_aligned (w ∷ ws) = nat_eq (w.0 % 4) 0 && are_aligned ws

all_aligned : (ws : List (ℕ × ℕ)) → are_aligned ws ≡ true → (k : ℕ) (d : ℕ × ℕ) → k < length ws → (get_or ws k d).0 % 4 ≡ 0
all_aligned [] test k d small = absurd (omega arith)
all_aligned (w ∷ ws) test zero d small = grind (arith, nat_tests)
all_aligned (w ∷ ws) test (suc k) d small = all_aligned ws (grind (arith, nat_tests)) k d (omega arith)

pub write_words-requires-clause-aligned : goal.write_words-requires-clause-aligned
write_words-requires-clause-aligned c = all_aligned ((4, 1) ∷ (8, 2) ∷ (12, 3) ∷ (20, 4) ∷ (24, 5) ∷ (28, 6) ∷ (32, 7) ∷ (36, 8) ∷ (40, 9) ∷ (44, 10) ∷ (48, 11) ∷ (52, 12) ∷ (56, 13) ∷ (64, 14) ∷ []) refl
