-- Four words side by side.
use Rattle.std.proofs.Common.{◌≡◌, ℕ, ◌+◌, List, [], ◌∷◌, length, refl, arith}
use Rattle.std.specs.Prelude.{slice_index}
use Rattle.blk_io.specs.Neighbours.{run_from}

-- four words side by side
pub four_run : (at : ℕ) (vs : List ℕ) → length vs ≡ 4 → run_from at vs ≡ (at, slice_index vs 0) ∷ (at + 4, slice_index vs 1) ∷ (at + 4 + 4, slice_index vs 2) ∷ (at + 4 + 4 + 4, slice_index vs 3) ∷ []
four_run at [] four = absurd (omega (arith, four))
four_run at (a ∷ []) four = absurd (omega (arith, four))
four_run at (a ∷ b ∷ []) four = absurd (omega (arith, four))
four_run at (a ∷ b ∷ c ∷ []) four = absurd (omega (arith, four))
four_run at (a ∷ b ∷ c ∷ d ∷ []) four = refl
four_run at (a ∷ b ∷ c ∷ d ∷ e ∷ vs) four = absurd (omega (arith, four))
