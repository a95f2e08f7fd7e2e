-- A word that is written into a window.
use Rattle.std.proofs.Common.{◌≡◌, ℕ, ◌+◌, ◌-◌, ◌<◌, ◌≤◌, ◌%◌, ◌^◌, List, [], ◌++◌, length, take, drop, refl, sym, ap, ap₂, ◌∙◌, arith, ◌⊎◌, inl, inr, ⊎_elim, length-drop, append-nil}
use Rattle.std.proofs.lemmas.Bool.{cases_lt}
use Rattle.std.proofs.lemmas.List.{take_all, drop_all, drop-drop}
use Rattle.spec_image.specs.Bytes.{content, spliced, word_at, word_bytes}
use Rattle.spec_image.specs.Steps.{with_word}
use Rattle.spec_image.proofs.Splices.{spliced-is, content-spliced_inside}
use Rattle.spec_image.proofs.Words.{word-there, word-beside, word-other}
use Rattle.blk_record.specs.Fields.{OtherFieldsStay, WrittenWordsAreRead, WrittenFieldsLeaveOthers}

-- a window with a word is its prefix, the four bytes of the word, and the rest
with_word-is : (place value : ℕ) (window : List ℕ) → place + 4 ≤ length window → with_word place value window ≡ take place window ++ (word_bytes value ++ drop (place + 4) window)
unfolding with_word
with_word-is place value window enough = spliced-is place (word_bytes value) window enough

-- what a write of a word to all that lies from its place on leaves
pub with_word-put : (place value : ℕ) (window buffer : List ℕ) → place + 4 ≤ length window → buffer ≡ word_bytes value ++ drop 4 (take (length window - place) (drop place window))
    → take place window ++ (buffer ++ drop (length window - place) (drop place window)) ≡ with_word place value window
with_word-put place value window buffer enough is =
    let whole : take (length window - place) (drop place window) ≡ drop place window = take_all (length window - place) (drop place window) (omega (arith, length-drop place window)) in
    let none : drop (length window - place) (drop place window) ≡ [] = drop_all (length window - place) (drop place window) (omega (arith, length-drop place window)) in
    let rest : drop 4 (drop place window) ≡ drop (place + 4) window = drop-drop 4 place window in
    let body : buffer ≡ word_bytes value ++ drop (place + 4) window = is ∙ ap (λ (l : List ℕ). word_bytes value ++ drop 4 l) whole ∙ ap (λ (l : List ℕ). word_bytes value ++ l) rest in
    let tail : buffer ++ drop (length window - place) (drop place window) ≡ word_bytes value ++ drop (place + 4) window =
    ap₂ (λ (x y : List ℕ). x ++ y) body none ∙ append-nil (word_bytes value ++ drop (place + 4) window) in
    ap (λ (l : List ℕ). take place window ++ l) tail ∙ sym (with_word-is place value window enough)

-- the word that was written is read
pub set-reads : (place value : ℕ) (old new : List ℕ) → new ≡ with_word place value old → value < 2 ^ 32 → place + 4 ≤ length old → word_at (content new) place ≡ value
set-reads place value old new is fits enough = ap (λ (w : List ℕ). word_at (content w) place) is ∙ word-there place value old fits enough

-- other fields stay
pub others-stay : (size place value : ℕ) (old new : List ℕ) → new ≡ with_word place value old → place % 4 ≡ 0 → OtherFieldsStay size place old new
others-stay size place value old new is aligned other field apart =
    let beside : (other + 4 ≤ place) ⊎ (place + 4 ≤ other) = ⊎_elim (λ (x : other < place). inl (omega (arith, field.aligned))) (λ (x : place ≤ other). inr (omega (arith, field.aligned))) (cases_lt other place) in
    ap (λ (w : List ℕ). word_at (content w) other) is ∙ word-beside other place value old beside

-- a place over which four bytes were written has their word
pub written-read : WrittenWordsAreRead
written-read place bytes window inside four =
    let there : (k j : ℕ) → j ≡ place + k → k < 4 → content (spliced place bytes window) j ≡ content bytes k =
    λ k j e h. content-spliced_inside place bytes window k j e (omega (arith, four)) (omega arith) in
    omega (arith, there 0 place (omega arith) (omega arith), there 1 (place + 1) refl (omega arith), there 2 (place + 2) refl (omega arith), there 3 (place + 3) refl (omega arith))

-- where a field is written, all other fields stay
pub written-others : WrittenFieldsLeaveOthers
written-others size place bytes window at_field four other field apart =
    word-other place bytes window other (omega (arith, four, at_field.aligned)) field.aligned (λ e. apart (omega (arith, field.aligned, at_field.aligned)))
