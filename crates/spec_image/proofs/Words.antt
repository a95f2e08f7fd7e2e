-- Words after writes.
use Rattle.std.proofs.Common.{◌≡◌, ℕ, zero, suc, ◌+◌, ◌/◌, ◌%◌, ◌^◌, ◌<◌, ◌≤◌, ◌≢◌, List, [], ◌∷◌, length, take, drop, get_or, get_or-take, refl, ap, ap₂, sym, ◌∙◌, arith, ◌⊎◌, inl, inr, ⊎_elim, All}
use Rattle.std.proofs.lemmas.Bool.{cases_lt}
use Rattle.std.proofs.lemmas.List.{drop_more}
use Rattle.std.proofs.lemmas.List.Elements.{All-from_get_or}
use Rattle.std.specs.Int.{w32, from_le_bytes, to_le_bytes}
use Rattle.spec_image.specs.Bytes.{content, spliced, zeros, word_at, word_bytes, range_at}
use Rattle.spec_image.specs.Steps.{with_word, with_words}
use Rattle.spec_image.proofs.Splices.{length-spliced, content-zeros, content-spliced_outside, content-spliced_inside}

-- two contents with the same four bytes have the same word
pub same-word_at : (f g : ℕ → ℕ) (i : ℕ) → f i ≡ g i → f (i + 1) ≡ g (i + 1) → f (i + 2) ≡ g (i + 2) → f (i + 3) ≡ g (i + 3) → word_at f i ≡ word_at g i
same-word_at f g i a b c d = omega arith

-- two contents have the same n bytes from place i on
abbrev pub SameFrom : ℕ → ℕ → (ℕ → ℕ) → (ℕ → ℕ) → Type 0
SameFrom i n f g = (k : ℕ) → i ≤ k → k < i + n → f k ≡ g k

pub same-word : (f g : ℕ → ℕ) (i : ℕ) → SameFrom i 4 f g → word_at f i ≡ word_at g i
same-word f g i h = same-word_at f g i (h i (omega arith) (omega arith)) (h (i + 1) (omega arith) (omega arith)) (h (i + 2) (omega arith) (omega arith)) (h (i + 3) (omega arith) (omega arith))

pub same-range : (n i : ℕ) (f g : ℕ → ℕ) → SameFrom i n f g → range_at f i n ≡ range_at g i n
unfolding range_at
same-range zero i f g h = refl
same-range (suc n) i f g h = ap₂ (λ (x : ℕ) (xs : List ℕ). x ∷ xs) (h i (omega arith) (omega arith)) (same-range n (suc i) f g (λ k a b. h k (omega arith) (omega arith)))

pub length-range : (n i : ℕ) (f : ℕ → ℕ) → length (range_at f i n) ≡ n
unfolding range_at
length-range zero i f = refl
length-range (suc n) i f = ap suc (length-range n (suc i) f)

-- a word that is written is read again
pub word-written : (i v : ℕ) (old : List ℕ) → v < 2 ^ 32 → i + 4 ≤ length old → word_at (content (spliced i (word_bytes v) old)) i ≡ v
word-written i v old fits room =
    let a : content (spliced i (word_bytes v) old) i ≡ v % 256 = content-spliced_inside i (word_bytes v) old 0 i (omega arith) (omega arith) (omega arith) in
    let b : content (spliced i (word_bytes v) old) (i + 1) ≡ v / 256 % 256 = content-spliced_inside i (word_bytes v) old 1 (i + 1) refl (omega arith) (omega arith) in
    let c : content (spliced i (word_bytes v) old) (i + 2) ≡ v / 65536 % 256 = content-spliced_inside i (word_bytes v) old 2 (i + 2) refl (omega arith) (omega arith) in
    let d : content (spliced i (word_bytes v) old) (i + 3) ≡ v / 16777216 % 256 = content-spliced_inside i (word_bytes v) old 3 (i + 3) refl (omega arith) (omega arith) in
    omega arith

-- a write inside one aligned word leaves every other aligned word
pub word-other : (i : ℕ) (new old : List ℕ) (j : ℕ) → i % 4 + length new ≤ 4 → j % 4 ≡ 0 → i / 4 ≢ j / 4 → word_at (content (spliced i new old)) j ≡ word_at (content old) j
word-other i new old j inside aligned apart =
    same-word (content (spliced i new old)) (content old) j (λ k a b.
    let out : (k < i) ⊎ (i + length new ≤ k) = ⊎_elim (λ (x : i < j). inr (omega arith)) (λ (x : j ≤ i). inl (omega arith)) (cases_lt i j) in
    content-spliced_outside i new old k out)

-- byte k of a range
pub content-range : (n i : ℕ) (f : ℕ → ℕ) (k j : ℕ) → k < n → j ≡ i + k → content (range_at f i n) k ≡ f j
unfolding range_at
content-range zero i f k j h e = absurd (omega arith)
content-range (suc n) i f zero j h e = let same : i ≡ j = omega arith in ap f same
content-range (suc n) i f (suc k) j h e = content-range n (suc i) f k j (omega arith) (omega arith)

-- four bytes that were read are the word
pub word-from_bytes : (bytes : List ℕ) (i : ℕ) (f : ℕ → ℕ) → take 4 bytes ≡ range_at f i 4 → from_le_bytes w32 bytes ≡ word_at f i
word-from_bytes bytes i f same =
    let at : (k j : ℕ) → k < 4 → j ≡ i + k → get_or bytes k 0 ≡ f j = λ k j h e. sym (get_or-take 4 bytes k 0 h) ∙ ap (λ (b : List ℕ). content b k) same ∙ content-range 4 i f k j h e in
    omega (arith, at 0 i (omega arith) (omega arith), at 1 (i + 1) (omega arith) refl, at 2 (i + 2) (omega arith) refl, at 3 (i + 3) (omega arith) refl)

-- the word of four bytes, and its bytes
pub word_bytes-are : (v : ℕ) → to_le_bytes w32 v ≡ word_bytes v
word_bytes-are v = refl

-- a range of a list of bytes
pub range-is : (n i : ℕ) (bytes : List ℕ) → i + n ≤ length bytes → range_at (content bytes) i n ≡ take n (drop i bytes)
unfolding range_at
range-is zero i bytes fits = refl
range-is (suc n) i bytes fits =
    ap₂ (λ (x : ℕ) (xs : List ℕ). x ∷ xs) refl (range-is n (suc i) bytes (omega arith))
    ∙ ap (λ (l : List ℕ). content bytes i ∷ take n l) (let e : suc i ≡ i + 1 = omega arith in ap (λ (k : ℕ). drop k bytes) e)
    ∙ sym (ap (take (suc n)) (drop_more bytes i 0 (omega arith)))

-- a word of bytes is below 2 ^ 32
pub word-fits : (f : ℕ → ℕ) → ((i : ℕ) → f i < 256) → (i : ℕ) → word_at f i < 2 ^ 32
word-fits f small i = omega (arith, small i, small (i + 1), small (i + 2), small (i + 3))

-- a word that is read beside one that was written
pub word-beside : (j place value : ℕ) (bytes : List ℕ) → (j + 4 ≤ place) ⊎ (place + 4 ≤ j) → word_at (content (with_word place value bytes)) j ≡ word_at (content bytes) j
unfolding with_word
word-beside j place value bytes apart =
    same-word (content (spliced place (word_bytes value) bytes)) (content bytes) j (λ k a b.
    let out : (k < place) ⊎ (place + 4 ≤ k) = ⊎_elim (λ (x : j + 4 ≤ place). inl (omega arith)) (λ (x : place + 4 ≤ j). inr (omega arith)) apart in
    content-spliced_outside place (word_bytes value) bytes k out)

-- the word that was written
pub word-there : (place value : ℕ) (bytes : List ℕ) → value < 2 ^ 32 → place + 4 ≤ length bytes → word_at (content (with_word place value bytes)) place ≡ value
unfolding with_word
word-there place value bytes fits room = word-written place value bytes fits room

pub length-with_word : (place value : ℕ) (bytes : List ℕ) → length (with_word place value bytes) ≡ length bytes
unfolding with_word
length-with_word place value bytes = length-spliced place (word_bytes value) bytes

pub length-with_words : (words : List (ℕ × ℕ)) (bytes : List ℕ) → length (with_words words bytes) ≡ length bytes
length-with_words [] bytes = refl
length-with_words (w ∷ words) bytes = length-with_words words (with_word w.0 w.1 bytes) ∙ length-with_word w.0 w.1 bytes

pub word-zeros : (n i : ℕ) → word_at (content (zeros n)) i ≡ 0
word-zeros n i = omega (arith, content-zeros n i, content-zeros n (i + 1), content-zeros n (i + 2), content-zeros n (i + 3))

-- the bytes of a word are below 256
pub word_bytes-small : (v : ℕ) → All (λ b. b < 256) (word_bytes v)
word_bytes-small v = All-from_get_or (λ b. b < 256) (word_bytes v) 0 (λ i within. by_place i within)
  where
    by_place : (i : ℕ) → i < 4 → get_or (word_bytes v) i 0 < 256
    by_place zero within = omega arith
    by_place (suc zero) within = omega arith
    by_place (suc (suc zero)) within = omega arith
    by_place (suc (suc (suc zero))) within = omega arith
    by_place (suc (suc (suc (suc i)))) within = absurd (omega arith)
