-- A write over bytes, cut to the bytes that are there.
use Rattle.std.proofs.Common.{◌≡◌, ℕ, zero, suc, ◌+◌, ◌≤◌, List, [], ◌∷◌, length, take, refl, ap, arith}
use Rattle.spec_image.specs.Bytes.{spliced}

-- past the end nothing is written
pub spliced-past : (i : ℕ) (new old : List ℕ) → length old ≤ i → spliced i new old ≡ old
unfolding spliced
spliced-past i new [] past = refl
spliced-past zero new (x ∷ old) past = absurd (omega arith)
spliced-past (suc i) new (x ∷ old) past = ap (λ (l : List ℕ). x ∷ l) (spliced-past i new old (omega arith))

-- what reaches past the end is not written
pub spliced-take : (i n : ℕ) (new old : List ℕ) → length old ≤ i + n → spliced i (take n new) old ≡ spliced i new old
unfolding spliced
spliced-take i n new [] fits = refl
spliced-take zero zero new (x ∷ old) fits = absurd (omega arith)
spliced-take zero (suc n) [] (x ∷ old) fits = refl
spliced-take zero (suc n) (y ∷ new) (x ∷ old) fits = ap (λ (l : List ℕ). y ∷ l) (spliced-take zero n new old (omega arith))
spliced-take (suc i) n new (x ∷ old) fits = ap (λ (l : List ℕ). x ∷ l) (spliced-take i n new old (omega arith))
