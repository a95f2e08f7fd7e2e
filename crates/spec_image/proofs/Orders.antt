-- The order of the files.
use Rattle.std.proofs.Common.{◌≡◌, ℕ, ◌<◌, ◌⊎◌, inl, inr, ⊎_elim, refl, sym, ap, subst, arith}
use Rattle.spec_image.specs.Image.{File, Index, Block, External}
use Rattle.spec_image.specs.Order.{IsBefore, file_rank, file_number}

-- the rank and the number make the name
pub same_name : (a b : File) → file_rank a ≡ file_rank b → file_number a ≡ file_number b → a ≡ b
same_name Index Index k n = refl
same_name Index (Block m) k n = absurd (omega arith)
same_name Index (External m) k n = absurd (omega arith)
same_name (Block l) Index k n = absurd (omega arith)
same_name (Block l) (Block m) k n = ap Block n
same_name (Block l) (External m) k n = absurd (omega arith)
same_name (External l) Index k n = absurd (omega arith)
same_name (External l) (Block m) k n = absurd (omega arith)
same_name (External l) (External m) k n = ap External n

pub before_trans : (a b c : File) → IsBefore a b → IsBefore b c → IsBefore a c
before_trans a b c first second = grind arith

-- two names are in one order or the other, or one
pub before_else : (a b : File) → (IsBefore a b → ⊥) → (b ≡ a) ⊎ IsBefore b a
before_else a b not_before = by_kind (trichotomy (file_rank a) (file_rank b)) (trichotomy (file_number a) (file_number b))
  where
    trichotomy : (m n : ℕ) → (m < n) ⊎ ((n < m) ⊎ (n ≡ m))
    trichotomy m n = grind arith

    by_kind : (file_rank a < file_rank b) ⊎ ((file_rank b < file_rank a) ⊎ (file_rank b ≡ file_rank a)) → (file_number a < file_number b) ⊎ ((file_number b < file_number a) ⊎ (file_number b ≡ file_number a)) → (b ≡ a) ⊎ IsBefore b a
    by_kind (inl k) n = absurd (not_before (inl k))
    by_kind (inr (inl k)) n = inr (inl k)
    by_kind (inr (inr k)) (inl n) = absurd (not_before (inr (sym k, n)))
    by_kind (inr (inr k)) (inr (inl n)) = inr (inr (k, n))
    by_kind (inr (inr k)) (inr (inr n)) = inl (same_name b a k n)

-- what is after a name that isn't before another is after the other
pub before_past : (a b c : File) → (IsBefore a b → ⊥) → IsBefore a c → IsBefore b c
before_past a b c not_before behind = ⊎_elim (λ same. subst (λ (f : File). IsBefore f c) (sym same) behind) (λ first. before_trans b a c first behind) (before_else a b not_before)
