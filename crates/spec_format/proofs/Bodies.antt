-- The bytes of a record are those that it was read from.
use Rattle.std.proofs.Common.{◌≡◌, ℕ, zero, suc, ◌+◌, ◌*◌, ◌/◌, ◌%◌, ◌^◌, ◌<◌, List, [], ◌∷◌, ◌++◌, refl, ap, ap₂, sym, ◌∙◌, arith, zero-add, add-zero}
use Rattle.std.proofs.Math.Nat.{suc-add}
use Rattle.spec_image.specs.Bytes.{word_at, long_at, word_bytes, range_at, words_at}
use Rattle.spec_format.specs.Records.{long_bytes, bytes_of_words, node_in, node_body, entry_in, entry_body}

-- each byte is below 256
abbrev pub AreBelow256 : (ℕ → ℕ) → Type 0
AreBelow256 f = (i : ℕ) → f i < 256

-- a range in two parts
pub range-add : (m n i : ℕ) (f : ℕ → ℕ) → range_at f i (m + n) ≡ range_at f i m ++ range_at f (i + m) n
unfolding range_at
range-add zero n i f = rw (zero-add n, add-zero i) refl
range-add (suc m) n i f = rw (suc-add m n) (ap (λ (xs : List ℕ). f i ∷ xs) (range-add m n (suc i) f ∙ ap (λ (j : ℕ). range_at f (suc i) m ++ range_at f j n) (let e : suc i + m ≡ i + suc m = omega arith in e)))

-- the bytes of a word
pub range-word : (i : ℕ) (f : ℕ → ℕ) → AreBelow256 f → word_bytes (word_at f i) ≡ range_at f i 4
unfolding range_at
range-word i f below =
    let a : word_at f i % 256 ≡ f i = omega (arith, below i, below (i + 1), below (i + 2), below (i + 3)) in
    let b : word_at f i / 256 % 256 ≡ f (suc i) = omega (arith, below i, below (i + 1), below (i + 2), below (i + 3), ap f (let e : suc i ≡ i + 1 = omega arith in e)) in
    let c : word_at f i / 65536 % 256 ≡ f (suc (suc i)) = omega (arith, below i, below (i + 1), below (i + 2), below (i + 3), ap f (let e : suc (suc i) ≡ i + 2 = omega arith in e)) in
    let d : word_at f i / 16777216 % 256 ≡ f (suc (suc (suc i))) = omega (arith, below i, below (i + 1), below (i + 2), below (i + 3), ap f (let e : suc (suc (suc i)) ≡ i + 3 = omega arith in e)) in
    λ k. a k ∷ b k ∷ c k ∷ d k ∷ []

pub range-long : (i : ℕ) (f : ℕ → ℕ) → AreBelow256 f → long_bytes (long_at f i) ≡ range_at f i 8
range-long i f below =
    let lo : word_at f i < 2 ^ 32 = omega (arith, below i, below (i + 1), below (i + 2), below (i + 3)) in
    let hi : word_at f (i + 4) < 2 ^ 32 = omega (arith, below (i + 4), below (i + 4 + 1), below (i + 4 + 2), below (i + 4 + 3)) in
    let a : long_at f i % 2 ^ 32 ≡ word_at f i = omega arith in
    let b : long_at f i / 2 ^ 32 ≡ word_at f (i + 4) = omega arith in
    ap₂ (λ (x y : ℕ). word_bytes x ++ word_bytes y) a b ∙ ap₂ (λ (xs ys : List ℕ). xs ++ ys) (range-word i f below) (range-word (i + 4) f below) ∙ sym (range-add 4 4 i f)

pub range-words : (n i : ℕ) (f : ℕ → ℕ) → AreBelow256 f → bytes_of_words (words_at f i n) ≡ range_at f i (4 * n)
unfolding words_at range_at
range-words zero i f below = refl
range-words (suc n) i f below = let e : 4 * suc n ≡ 4 + 4 * n = omega arith in rw e (ap₂ (λ (xs ys : List ℕ). xs ++ ys) (range-word i f below) (range-words n (i + 4) f below) ∙ sym (range-add 4 (4 * n) i f))

-- a range from two parts
joined : (m n i : ℕ) (f : ℕ → ℕ) {xs ys : List ℕ} → xs ≡ range_at f i m → ys ≡ range_at f (i + m) n → xs ++ ys ≡ range_at f i (m + n)
joined m n i f a b = ap₂ (λ (us vs : List ℕ). us ++ vs) a b ∙ sym (range-add m n i f)

module _ (i : ℕ) (f : ℕ → ℕ) (below : AreBelow256 f) where
  word_in : (d : ℕ) → word_bytes (word_at f (i + d)) ≡ range_at f (i + d) 4
  word_in d = range-word (i + d) f below

  -- a node
  pub node_body-in : node_body (node_in f i) ≡ range_at f i 32
  unfolding node_body node_in
  node_body-in =
      joined 28 4 i f (joined 24 4 i f (joined 20 4 i f (joined 16 4 i f (joined 8 8 i f (range-long i f below) (range-long (i + 8) f below)) (word_in 16)) (word_in 20)) (word_in 24)) (word_in 28)

  -- a record
  pub entry_body-in : entry_body (entry_in f i) ≡ range_at f i 92
  unfolding entry_body entry_in
  entry_body-in =
      joined 76 16 i f (joined 72 4 i f (joined 56 16 i f (joined 40 16 i f (joined 36 4 i f (joined 32 4 i f (joined 24 8 i f (joined 20 4 i f (joined 16 4 i f (joined 12 4 i f (joined 8 4 i f (joined 4 4 i f
      (range-word i f below) (word_in 4)) (word_in 8)) (word_in 12)) (word_in 16)) (word_in 20)) (range-long (i + 24) f below)) (word_in 32)) (word_in 36)) (range-words 4 (i + 40) f below)) (range-words 4 (i + 56) f below)) (word_in 72)) (range-words 4 (i + 76) f below)
