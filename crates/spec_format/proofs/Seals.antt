-- Records whose checksum is right or absent.
use Rattle.std.proofs.Common.{◌≡◌, ℕ, ◌+◌, ◌<◌, ◌≤◌, ◌^◌, List, [], ◌∷◌, length, take, true, refl, ap, ap₂, ◌∙◌, arith}
use Rattle.std.specs.Prelude.{◌||◌, ◌==◌}
use Rattle.spec_image.specs.Bytes.{content, word_at}
use Rattle.spec_image.specs.Steps.{with_word}
use Rattle.spec_image.proofs.Words.{word-there}
use Rattle.spec_format.specs.Hash.{hash, mixed}
use Rattle.spec_format.specs.Records.{checks, seal_of}
use Rattle.spec_format.proofs.RecordBytes.{take-before_word}

-- a hash is a word
pub hash-fits : (bytes : List ℕ) → hash bytes < 2 ^ 32
unfolding hash mixed
hash-fits [] = omega arith
hash-fits (b ∷ bytes) = omega arith

-- a record without a checksum passes `checks`
pub zero-checks : (place : ℕ) (bytes : List ℕ) → word_at (content bytes) place ≡ 0 → checks place bytes ≡ true
zero-checks place bytes zero = rw zero refl

pub unsealed-checks : (place : ℕ) (old new : List ℕ) → new ≡ with_word place 0 old → place + 4 ≤ length old → checks place new ≡ true
unsealed-checks place old new is enough = zero-checks place new (ap (λ (l : List ℕ). word_at (content l) place) is ∙ word-there place 0 old (omega arith) enough)

either-true : (n : ℕ) → ((n == 0) || (n == n)) ≡ true
either-true n = grind arith

-- a record with its checksum passes `checks`
pub sealed-checks : (place : ℕ) (old new : List ℕ) → new ≡ with_word place (seal_of place old) old → place + 4 ≤ length old → checks place new ≡ true
sealed-checks place old new is enough =
    let there : word_at (content new) place ≡ seal_of place old = ap (λ (l : List ℕ). word_at (content l) place) is ∙ word-there place (seal_of place old) old (hash-fits (take place old)) enough in
    let front : seal_of place new ≡ seal_of place old = ap hash (ap (take place) is ∙ take-before_word place (seal_of place old) old) in
    ap₂ (λ (x y : ℕ). (x == 0) || (x == y)) there front ∙ either-true (seal_of place old)
