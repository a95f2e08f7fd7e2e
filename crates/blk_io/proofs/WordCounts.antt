-- How many words a write has, and what its first words are.
use Rattle.std.proofs.Common.{◌≡◌, ℕ, zero, suc, ◌+◌, ◌-◌, ◌*◌, ◌/◌, ◌%◌, ◌<◌, ◌≤◌, ◌==◌, nat_le, min, Bool, true, false, if◌then◌else◌, List, [], ◌∷◌, length, take, drop, refl, sym, ◌∙◌, ap, subst, arith}
use Rattle.std.proofs.lemmas.Bool.Decides.{nat_tests}
use Rattle.std.proofs.lemmas.List.{take_all, take_at, length-take-le}
use Rattle.spec_image.specs.Image.{File}
use Rattle.spec_image.specs.Steps.{TrailStep, Word, SetLength, Delete, Note, before_words, words}
use Rattle.spec_image.proofs.Cuts.{words-split}
use Rattle.blk_io.specs.Trail.{prefix_in, words_touched}

-- the first of the steps is a write
abbrev IsWordFirst : List TrailStep → Type 0
IsWordFirst (Word f at w ∷ steps) = Unit {0}
IsWordFirst _ = ⊥

before_first : (f : File) (at b : ℕ) (rest : List TrailStep) → IsWordFirst (before_words f at b rest)
unfolding before_words
before_first f at b [] = tt
before_first f at b (Word g place w ∷ rest) = by_test ((at + 1) % 4 == 0)
  where
    by_test : (t : Bool) → IsWordFirst (if t then Word f at (b ∷ []) ∷ Word g place w ∷ rest else Word f at (b ∷ w) ∷ rest)
    by_test true = tt
    by_test false = tt
before_first f at b (SetLength g n ∷ rest) = tt
before_first f at b (Delete g ∷ rest) = tt
before_first f at b (Note n ∷ rest) = tt

words_first : (f : File) (at b : ℕ) (bs : List ℕ) → IsWordFirst (words f at (b ∷ bs))
unfolding words
words_first f at b bs = before_first f at b (words f (at + 1) bs)

-- one word more before the others, where a word ends there
length-before : (f : File) (at b : ℕ) (rest : List TrailStep) → IsWordFirst rest → length (before_words f at b rest) ≡ (if (at + 1) % 4 == 0 then suc (length rest) else length rest)
unfolding before_words
length-before f at b [] first = absurd first
length-before f at b (Word g place w ∷ rest) first = by_test ((at + 1) % 4 == 0)
  where
    by_test : (t : Bool) → length (if t then Word f at (b ∷ []) ∷ Word g place w ∷ rest else Word f at (b ∷ w) ∷ rest) ≡ (if t then suc (suc (length rest)) else suc (length rest))
    by_test true = refl
    by_test false = refl
length-before f at b (SetLength g n ∷ rest) first = absurd first
length-before f at b (Delete g ∷ rest) first = absurd first
length-before f at b (Note n ∷ rest) first = absurd first

at_edge : (at n : ℕ) → (at + 1) % 4 ≡ 0 → suc (((at + 1) % 4 + suc n + 3) / 4) ≡ (at % 4 + suc (suc n) + 3) / 4
at_edge at n edge = omega arith

inside_word : (at n : ℕ) → ((at + 1) % 4 ≡ 0 → ⊥) → ((at + 1) % 4 + suc n + 3) / 4 ≡ (at % 4 + suc (suc n) + 3) / 4
inside_word at n inner = omega arith

one_word : (at : ℕ) → 1 ≡ (at % 4 + 1 + 3) / 4
one_word at = omega arith

not_zero : (n : ℕ) → (suc n == 0) ≡ false
not_zero n = grind (arith, nat_tests)

-- the words of some bytes
pub words_touched-some : (at n : ℕ) → words_touched at (suc n) ≡ (at % 4 + suc n + 3) / 4
words_touched-some at n = ap (λ (t : Bool). if t then 0 else (at % 4 + suc n + 3) / 4) (not_zero n)

-- the length of the prefix that has some words
prefix_in-some : (at n w : ℕ) → prefix_in at n (suc w) ≡ min n (4 * (at / 4 + suc w) - at)
prefix_in-some at n w = ap (λ (t : Bool). if t then 0 else min n (4 * (at / 4 + suc w) - at)) (not_zero w)

-- the number of the words of a write
pub length-words : (f : File) (at : ℕ) (bs : List ℕ) → length (words f at bs) ≡ words_touched at (length bs)
unfolding words before_words
length-words f at [] = refl
length-words f at (b ∷ []) = one_word at
length-words f at (b ∷ (c ∷ bs)) =
    length-before f at b (words f (at + 1) (c ∷ bs)) (words_first f (at + 1) c bs) ∙ by_test ((at + 1) % 4 == 0) refl (length-words f (at + 1) (c ∷ bs))
  where
    by_test : (t : Bool) → ((at + 1) % 4 == 0) ≡ t → length (words f (at + 1) (c ∷ bs)) ≡ words_touched (at + 1) (length (c ∷ bs))
        → (if t then suc (length (words f (at + 1) (c ∷ bs))) else length (words f (at + 1) (c ∷ bs))) ≡ words_touched at (length (b ∷ (c ∷ bs)))
    by_test true e deeper =
        let edge : (at + 1) % 4 ≡ 0 = grind (arith, nat_tests) in
        ap suc (deeper ∙ words_touched-some (at + 1) (length bs)) ∙ at_edge at (length bs) edge ∙ sym (words_touched-some at (suc (length bs)))
    by_test false e deeper =
        let inner : (at + 1) % 4 ≡ 0 → ⊥ = λ z. grind (arith, nat_tests) in
        deeper ∙ words_touched-some (at + 1) (length bs) ∙ inside_word at (length bs) inner ∙ sym (words_touched-some at (suc (length bs)))

-- the places where words end
abbrev end_of : ℕ → ℕ → ℕ
end_of at w = 4 * (at / 4 + w) - at

none_few : (n : ℕ) → 0 ≤ n
none_few n = omega arith

few_words : (at n w : ℕ) → n ≤ end_of at (suc w) → words_touched at n ≤ suc w
few_words at zero w short = none_few (suc w)
few_words at (suc n) w short = subst (λ (m : ℕ). m ≤ suc w) (sym (words_touched-some at n)) (few at n (suc w) short)
  where
    few : (at n w : ℕ) → suc n ≤ 4 * (at / 4 + w) - at → (at % 4 + suc n + 3) / 4 ≤ w
    few at n w short = omega arith

whole_words : (at w : ℕ) → words_touched at (end_of at (suc w)) ≡ suc w
whole_words at w = by_end (end_of at (suc w)) refl
  where
    full : (at n w : ℕ) → n ≡ 4 * (at / 4 + suc w) - at → (at % 4 + n + 3) / 4 ≡ suc w
    full at n w e = omega arith

    by_end : (n : ℕ) → n ≡ end_of at (suc w) → words_touched at n ≡ suc w
    by_end zero e = absurd (omega arith)
    by_end (suc n) e = words_touched-some at n ∙ full at (suc n) w e

-- the prefix of a write that has its first words has these words
pub take-words : (f : File) (at w : ℕ) (bs : List ℕ) → words f at (take (prefix_in at (length bs) w) bs) ≡ take w (words f at bs)
unfolding words
take-words f at zero bs = refl
take-words f at (suc w) bs = ap (λ (m : ℕ). words f at (take m bs)) (prefix_in-some at (length bs) w) ∙ by_test (nat_le (length bs) (end_of at (suc w))) refl
  where
    by_test : (t : Bool) → nat_le (length bs) (end_of at (suc w)) ≡ t → words f at (take (min (length bs) (end_of at (suc w))) bs) ≡ take (suc w) (words f at bs)
    by_test true e =
        let short : length bs ≤ end_of at (suc w) = grind (arith, nat_tests) in
        let all : length bs ≤ min (length bs) (end_of at (suc w)) = omega arith in
        let few : length (words f at bs) ≤ suc w = subst (λ (m : ℕ). m ≤ suc w) (sym (length-words f at bs)) (few_words at (length bs) w short) in
        ap (words f at) (take_all _ bs all) ∙ sym (take_all (suc w) (words f at bs) few)
    by_test false e =
        let long : end_of at (suc w) < length bs = grind (arith, nat_tests) in
        let front : min (length bs) (end_of at (suc w)) ≡ end_of at (suc w) = omega arith in
        let edge : (at + end_of at (suc w)) % 4 ≡ 0 = omega arith in
        let fits : end_of at (suc w) ≤ length bs = omega arith in
        let count : length (words f at (take (end_of at (suc w)) bs)) ≡ suc w = length-words f at (take (end_of at (suc w)) bs) ∙ ap (words_touched at) (length-take-le (end_of at (suc w)) bs fits) ∙ whole_words at w in
        ap (λ (m : ℕ). words f at (take m bs)) front
        ∙ sym (take_at (words f at (take (end_of at (suc w)) bs)) (words f (at + end_of at (suc w)) (drop (end_of at (suc w)) bs)) (suc w) count)
        ∙ ap (take (suc w)) (sym (words-split f at (end_of at (suc w)) bs fits edge))

-- the number of words in its other form
pub count_is : (at n : ℕ) → 0 < n → n / 4 + (at % 4 + n % 4 + 3) / 4 ≡ words_touched at n
count_is at zero some = absurd (omega arith)
count_is at (suc n) some = sums at (suc n) ∙ sym (words_touched-some at n)
  where
    sums : (at n : ℕ) → n / 4 + (at % 4 + n % 4 + 3) / 4 ≡ (at % 4 + n + 3) / 4
    sums at n = omega arith
