-- Three changes, as the tests make them.
use Rattle.std.proofs.Common.{◌≡◌, ◌≢◌, ℕ, ◌%◌, ◌<◌, ◌≤◌, [], ◌∷◌, All, refl, arith}
use Rattle.std.proofs.lemmas.List.Elements.{All-nil, All-cons}
use Rattle.spec_format.specs.Sealed.{AreChanges}

each : (P : ℕ × ℕ → Type 0) (x y z : ℕ × ℕ) → P x → P y → P z → All P (x ∷ y ∷ z ∷ [])
each P x y z p q r = All-cons P x (y ∷ z ∷ []) p (All-cons P y (z ∷ []) q (All-cons P z [] r (All-nil P)))

pub are_three : (s a b c : ℕ) → 32 ≤ s → AreChanges s ((16, a) ∷ (4, b) ∷ (28, c) ∷ [])
are_three s a b c low = record {
  few = omega arith;
  aligned = each (λ change. change.0 % 4 ≡ 0) (16, a) (4, b) (28, c) refl refl refl;
  before = each (λ change. change.0 < s) (16, a) (4, b) (28, c) (omega arith) (omega arith) (omega arith);
  different = (
    All-cons (λ other. other.0 ≢ 16) (4, b) ((28, c) ∷ []) (λ e. absurd (omega arith)) (All-cons (λ other. other.0 ≢ 16) (28, c) [] (λ e. absurd (omega arith)) (All-nil (λ other. other.0 ≢ 16))),
    (All-cons (λ other. other.0 ≢ 4) (28, c) [] (λ e. absurd (omega arith)) (All-nil (λ other. other.0 ≢ 4)), (All-nil (λ other. other.0 ≢ 28), tt)),
  );
}
