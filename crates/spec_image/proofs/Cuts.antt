-- Writes that are cut into words.
use Rattle.std.proofs.Common.{◌≡◌, ℕ, zero, suc, ◌+◌, ◌%◌, ◌<◌, ◌≤◌, ◌==◌, Bool, true, false, if◌then◌else◌, List, [], ◌∷◌, ◌++◌, length, take, drop, get_or, Option, None, Some, take-append-drop, refl, sym, ◌∙◌, ap, subst, arith, append_assoc, All}
use Rattle.std.proofs.lemmas.List.{take_more, append-nil}
use Rattle.std.proofs.lemmas.List.Elements.{All-head, All-tail, All-cons, All-nil}
use Rattle.std.proofs.lemmas.Bool.Decides.{nat_tests}
use Rattle.spec_image.specs.Bytes.{word_bytes}
use Rattle.spec_image.specs.Image.{File, Image, HasRange, with_file}
use Rattle.spec_image.specs.Steps.{TrailStep, Word, SetLength, Delete, Note, written_over, applied, after, IsWordStep, IsTrail, words, before_words, word_step, word_steps, with_word, with_words}
use Rattle.spec_image.proofs.Splices.{spliced-join, spliced-none}
use Rattle.spec_image.proofs.Images.{with_file-id, with_file-twice, with_file-same, length-after_write}

pub after-append : (s t : List TrailStep) (image : Image) → after (s ++ t) image ≡ after t (after s image)
after-append [] t image = refl
after-append (x ∷ s) t image = after-append s t (applied x image)

written-none : (place : ℕ) (o : Option (List ℕ)) → written_over place [] o ≡ o
written-none place None = refl
written-none place (Some old) = ap Some (spliced-none place old)

-- two writes, the second right after the first
word_join : (f : File) (place b : ℕ) (w : List ℕ) (image : Image) → applied (Word f (place + 1) w) (applied (Word f place (b ∷ [])) image) ≡ applied (Word f place (b ∷ w)) image
word_join f place b w image =
    with_file-twice image f (written_over place (b ∷ []) (image f)) _
    ∙ ap (with_file image f) (ap (written_over (place + 1) w) (with_file-same image f _) ∙ both (image f))
  where
    both : (o : Option (List ℕ)) → written_over (place + 1) w (written_over place (b ∷ []) o) ≡ written_over place (b ∷ w) o
    both None = refl
    both (Some old) = ap Some (spliced-join place b w old)

-- the first of the steps, if it is a write, is at this place of this file
abbrev pub StartsAt : File → ℕ → List TrailStep → Type 0
StartsAt f place (Word g at w ∷ steps) = (g ≡ f) × (at ≡ place)
StartsAt f place _ = Unit {0}

before_starts : (f : File) (place b : ℕ) (steps : List TrailStep) → StartsAt f place (before_words f place b steps)
unfolding before_words
before_starts f place b [] = (refl, refl)
before_starts f place b (Word g at w ∷ steps) = by_test ((place + 1) % 4 == 0)
  where
    by_test : (t : Bool) → StartsAt f place (if t then Word f place (b ∷ []) ∷ Word g at w ∷ steps else Word f place (b ∷ w) ∷ steps)
    by_test true = (refl, refl)
    by_test false = (refl, refl)
before_starts f place b (SetLength g n ∷ steps) = (refl, refl)
before_starts f place b (Delete g ∷ steps) = (refl, refl)
before_starts f place b (Note n ∷ steps) = (refl, refl)

pub words_start : (f : File) (place : ℕ) (bs : List ℕ) → StartsAt f place (words f place bs)
unfolding words
words_start f place [] = tt
words_start f place (b ∷ bs) = before_starts f place b (words f (place + 1) bs)

after-before : (f : File) (place b : ℕ) (steps : List TrailStep) (image : Image) → StartsAt f (place + 1) steps
    → after (before_words f place b steps) image ≡ after steps (applied (Word f place (b ∷ [])) image)
unfolding before_words
after-before f place b [] image starts = refl
after-before f place b (Word g at w ∷ steps) image starts = by_test ((place + 1) % 4 == 0)
  where
    by_test : (t : Bool) → after (if t then Word f place (b ∷ []) ∷ Word g at w ∷ steps else Word f place (b ∷ w) ∷ steps) image ≡ after steps (applied (Word g at w) (applied (Word f place (b ∷ [])) image))
    by_test true = refl
    by_test false =
        let same : Word g at w ≡ Word f (place + 1) w = cc (starts.0, starts.1) in
        ap (after steps) (sym (word_join f place b w image) ∙ ap (λ (s : TrailStep). applied s (applied (Word f place (b ∷ [])) image)) (sym same))
after-before f place b (SetLength g n ∷ steps) image starts = refl
after-before f place b (Delete g ∷ steps) image starts = refl
after-before f place b (Note n ∷ steps) image starts = refl

-- the words of a write change its bytes alone
pub after-words : (f : File) (place : ℕ) (bs : List ℕ) (image : Image) → after (words f place bs) image ≡ with_file image f (written_over place bs (image f))
unfolding words
after-words f place [] image = sym (ap (with_file image f) (written-none place (image f)) ∙ with_file-id image f)
after-words f place (b ∷ bs) image =
    after-before f place b (words f (place + 1) bs) image (words_start f (place + 1) bs)
    ∙ after-words f (place + 1) bs (applied (Word f place (b ∷ [])) image)
    ∙ word_join f place b bs image

-- four bytes at an aligned place are one word
pub words-four : (f : File) (place a b c d : ℕ) → place % 4 ≡ 0 → words f place (a ∷ b ∷ c ∷ d ∷ []) ≡ Word f place (a ∷ b ∷ c ∷ d ∷ []) ∷ []
unfolding words before_words
words-four f place a b c d aligned =
    let third : ((place + 1 + 1 + 1) % 4 == 0) ≡ false = grind (arith, nat_tests) in
    let second : ((place + 1 + 1) % 4 == 0) ≡ false = grind (arith, nat_tests) in
    let first : ((place + 1) % 4 == 0) ≡ false = grind (arith, nat_tests) in
    rw (third, second, first)

-- the write of a word at an aligned place
pub words-word : (f : File) (place value : ℕ) → place % 4 ≡ 0 → words f place (word_bytes value) ≡ word_step f place value
unfolding word_step
words-word f place value aligned = words-four f place _ _ _ _ aligned

-- the words of some bytes are some
words_first : (f : File) (place b : ℕ) (bs : List ℕ) → (x : TrailStep) × (xs : List TrailStep) × (words f place (b ∷ bs) ≡ x ∷ xs)
unfolding words before_words
words_first f place b bs = by_rest (words f (place + 1) bs)
  where
    by_rest : (rest : List TrailStep) → (x : TrailStep) × (xs : List TrailStep) × (before_words f place b rest ≡ x ∷ xs)
    by_rest [] = (_, _, refl)
    by_rest (Word g at w ∷ rest) = by_test ((place + 1) % 4 == 0)
      where
        by_test : (t : Bool) → (x : TrailStep) × (xs : List TrailStep) × ((if t then Word f place (b ∷ []) ∷ Word g at w ∷ rest else Word f place (b ∷ w) ∷ rest) ≡ x ∷ xs)
        by_test true = (_, _, refl)
        by_test false = (_, _, refl)
    by_rest (SetLength g n ∷ rest) = (_, _, refl)
    by_rest (Delete g ∷ rest) = (_, _, refl)
    by_rest (Note n ∷ rest) = (_, _, refl)

before-more : (f : File) (place b : ℕ) (x : TrailStep) (xs ys : List TrailStep) → before_words f place b ((x ∷ xs) ++ ys) ≡ before_words f place b (x ∷ xs) ++ ys
unfolding before_words
before-more f place b (Word g at w) xs ys = by_test ((place + 1) % 4 == 0)
  where
    by_test : (t : Bool) → (if t then Word f place (b ∷ []) ∷ Word g at w ∷ (xs ++ ys) else Word f place (b ∷ w) ∷ (xs ++ ys)) ≡ (if t then Word f place (b ∷ []) ∷ Word g at w ∷ xs else Word f place (b ∷ w) ∷ xs) ++ ys
    by_test true = refl
    by_test false = refl
before-more f place b (SetLength g n) xs ys = refl
before-more f place b (Delete g) xs ys = refl
before-more f place b (Note n) xs ys = refl

before-edge : (f : File) (place b : ℕ) (ys : List TrailStep) → (place + 1) % 4 ≡ 0 → before_words f place b ys ≡ Word f place (b ∷ []) ∷ ys
unfolding before_words
before-edge f place b [] edge = refl
before-edge f place b (Word g at w ∷ ys) edge =
    let test : ((place + 1) % 4 == 0) ≡ true = grind (arith, nat_tests) in
    ap (λ (t : Bool). if t then Word f place (b ∷ []) ∷ Word g at w ∷ ys else Word f place (b ∷ w) ∷ ys) test
before-edge f place b (SetLength g n ∷ ys) edge = refl
before-edge f place b (Delete g ∷ ys) edge = refl
before-edge f place b (Note n ∷ ys) edge = refl

before-none : (f : File) (place b : ℕ) (ys : List TrailStep) → (place + 1) % 4 ≡ 0 → before_words f place b (words f (place + 1) [] ++ ys) ≡ before_words f place b (words f (place + 1) []) ++ ys
unfolding words before_words
before-none f place b ys edge = before-edge f place b ys edge

-- what is before some bytes' words, and what is after them
before-append : (f : File) (place b n : ℕ) (bs : List ℕ) (ys : List TrailStep) → n ≤ length bs → (place + suc n) % 4 ≡ 0
    → before_words f place b (words f (place + 1) (take n bs) ++ ys) ≡ before_words f place b (words f (place + 1) (take n bs)) ++ ys
before-append f place b zero bs ys fits edge = before-none f place b ys edge
before-append f place b (suc n) [] ys fits edge = absurd (omega arith)
before-append f place b (suc n) (c ∷ bs) ys fits edge = by_words (words f (place + 1) (take (suc n) (c ∷ bs))) (words_first f (place + 1) c (take n bs))
  where
    by_words : (w : List TrailStep) → (x : TrailStep) × (xs : List TrailStep) × (w ≡ x ∷ xs) → before_words f place b (w ++ ys) ≡ before_words f place b w ++ ys
    by_words w (x, xs, e) = subst (λ (v : List TrailStep). before_words f place b (v ++ ys) ≡ before_words f place b v ++ ys) (sym e) (before-more f place b x xs ys)

-- a write, cut where a word ends
pub words-split : (f : File) (place n : ℕ) (bs : List ℕ) → n ≤ length bs → (place + n) % 4 ≡ 0 → words f place bs ≡ words f place (take n bs) ++ words f (place + n) (drop n bs)
unfolding words
words-split f place zero bs fits edge =
    let same : place ≡ place + 0 = omega arith in ap (λ (m : ℕ). words f m bs) same
words-split f place (suc n) [] fits edge = absurd (omega arith)
words-split f place (suc n) (b ∷ bs) fits edge =
    let same : place + 1 + n ≡ place + suc n = omega arith in
    let short : n ≤ length bs = omega arith in
    let edge' : (place + 1 + n) % 4 ≡ 0 = ap (λ (m : ℕ). m % 4) same ∙ edge in
    ap (before_words f place b) (words-split f (place + 1) n bs short edge')
    ∙ before-append f place b n bs (words f (place + 1 + n) (drop n bs)) short edge
    ∙ ap (λ (m : ℕ). before_words f place b (words f (place + 1) (take n bs)) ++ words f m (drop n bs)) same

pub word_steps-append : (f : File) (xs ys : List (ℕ × ℕ)) → word_steps f (xs ++ ys) ≡ word_steps f xs ++ word_steps f ys
word_steps-append f [] ys = refl
word_steps-append f (x ∷ xs) ys = ap (λ (s : List TrailStep). word_step f x.0 x.1 ++ s) (word_steps-append f xs ys) ∙ sym (append_assoc (word_step f x.0 x.1) (word_steps f xs) (word_steps f ys))

-- one word more
pub word_steps-more : (f : File) (ws : List (ℕ × ℕ)) (i : ℕ) (d : ℕ × ℕ) → i < length ws → word_steps f (take (i + 1) ws) ≡ word_steps f (take i ws) ++ word_step f (get_or ws i d).0 (get_or ws i d).1
word_steps-more f ws i d within =
    ap (word_steps f) (take_more ws i d within) ∙ word_steps-append f (take i ws) (get_or ws i d ∷ []) ∙ ap (λ (s : List TrailStep). word_steps f (take i ws) ++ s) (append-nil (word_step f (get_or ws i d).0 (get_or ws i d).1))

-- the words up to one, that one, and those after it
pub word_steps-split : (f : File) (ws : List (ℕ × ℕ)) (i : ℕ) (d : ℕ × ℕ) → i < length ws → word_steps f ws ≡ (word_steps f (take i ws) ++ word_step f (get_or ws i d).0 (get_or ws i d).1) ++ word_steps f (drop (i + 1) ws)
word_steps-split f ws i d within =
    ap (word_steps f) (sym (take-append-drop (i + 1) ws)) ∙ word_steps-append f (take (i + 1) ws) (drop (i + 1) ws) ∙ ap (λ (s : List TrailStep). s ++ word_steps f (drop (i + 1) ws)) (word_steps-more f ws i d within)

-- the file with a word over it, and the other files as they were
pub after-word_step : (f : File) (place value : ℕ) (image : Image) → after (word_step f place value) image ≡ with_file image f (written_over place (word_bytes value) (image f))
unfolding word_step
after-word_step f place value image = refl

-- a file that is there, with a word over it
pub written-word : (place value : ℕ) (old : List ℕ) → written_over place (word_bytes value) (Some old) ≡ Some (with_word place value old)
unfolding with_word
written-word place value old = refl

-- a file that is there, with these words over it, and the other files as they were
pub after-word_steps : (f : File) (ws : List (ℕ × ℕ)) (image : Image) (old : List ℕ) → image f ≡ Some old → after (word_steps f ws) image ≡ with_file image f (Some (with_words ws old))
after-word_steps f [] image old there = sym (ap (with_file image f) (sym there) ∙ with_file-id image f)
after-word_steps f (w ∷ ws) image old there =
    let first : after (word_step f w.0 w.1) image ≡ with_file image f (Some (with_word w.0 w.1 old)) = after-word_step f w.0 w.1 image ∙ ap (λ (o : Option (List ℕ)). with_file image f (written_over w.0 (word_bytes w.1) o)) there ∙ ap (with_file image f) (written-word w.0 w.1 old) in
    after-append (word_step f w.0 w.1) (word_steps f ws) image
    ∙ ap (after (word_steps f ws)) first
    ∙ after-word_steps f ws (with_file image f (Some (with_word w.0 w.1 old))) (with_word w.0 w.1 old) (with_file-same image f _)
    ∙ with_file-twice image f _ _

-- the words of a write of bytes are write steps
before-trail : (f : File) (place b : ℕ) (steps : List TrailStep) (image : Image) → StartsAt f (place + 1) steps → b < 256 → HasRange image f place 1
    → IsTrail (applied (Word f place (b ∷ [])) image) steps → IsTrail image (before_words f place b steps)
unfolding before_words
before-trail f place b [] image starts small fits rest = (one_byte f place b image small fits, tt)
  where
    one_byte : (f : File) (place b : ℕ) (image : Image) → b < 256 → HasRange image f place 1 → IsWordStep image f place (b ∷ [])
    one_byte f place b image small fits = record { some = omega arith; inside_word = omega arith; inside_file = fits; are_bytes = All-cons (λ x. x < 256) b [] small (All-nil (λ x. x < 256)) }
before-trail f place b (Word g at w ∷ steps) image starts small fits rest = by_test ((place + 1) % 4 == 0) refl
  where
    same_step : Word g at w ≡ Word f (place + 1) w
    same_step = cc (starts.0, starts.1)

    behind : (g ≡ f) → (at ≡ place + 1) → IsWordStep (applied (Word f place (b ∷ [])) image) g at w → IsWordStep (applied (Word f place (b ∷ [])) image) f (place + 1) w
    behind e d is = subst (λ (h : File). IsWordStep (applied (Word f place (b ∷ [])) image) h (place + 1) w) e (subst (λ (k : ℕ). IsWordStep (applied (Word f place (b ∷ [])) image) g k w) d is)

    by_test : (t : Bool) → ((place + 1) % 4 == 0) ≡ t → IsTrail image (if t then Word f place (b ∷ []) ∷ Word g at w ∷ steps else Word f place (b ∷ w) ∷ steps)
    by_test true e = (record { some = omega arith; inside_word = omega arith; inside_file = fits; are_bytes = All-cons (λ x. x < 256) b [] small (All-nil (λ x. x < 256)) }, rest)
    by_test false e =
        let after_b = behind starts.0 starts.1 rest.0 in
        let inner : (place + 1) % 4 ≡ 0 → ⊥ = λ z. grind (arith, nat_tests) in
        let long = length-after_write image f f place (b ∷ []) in (
          record {
            some = omega arith;
            inside_word = let within = after_b.inside_word in omega (arith, within, inner);
            inside_file = let within = after_b.inside_file in omega (arith, within, long);
            are_bytes = All-cons (λ x. x < 256) b w small after_b.are_bytes;
          },
          subst (λ (i : Image). IsTrail i steps) (ap (λ (s : TrailStep). applied s (applied (Word f place (b ∷ [])) image)) same_step ∙ word_join f place b w image) rest.1,
        )
before-trail f place b (SetLength g n ∷ steps) image starts small fits rest = (record { some = omega arith; inside_word = omega arith; inside_file = fits; are_bytes = All-cons (λ x. x < 256) b [] small (All-nil (λ x. x < 256)) }, rest)
before-trail f place b (Delete g ∷ steps) image starts small fits rest = (record { some = omega arith; inside_word = omega arith; inside_file = fits; are_bytes = All-cons (λ x. x < 256) b [] small (All-nil (λ x. x < 256)) }, rest)
before-trail f place b (Note n ∷ steps) image starts small fits rest = (record { some = omega arith; inside_word = omega arith; inside_file = fits; are_bytes = All-cons (λ x. x < 256) b [] small (All-nil (λ x. x < 256)) }, rest)

pub words_trail : (f : File) (place : ℕ) (bs : List ℕ) (image : Image) → All (λ b. b < 256) bs → HasRange image f place (length bs) → IsTrail image (words f place bs)
unfolding words
words_trail f place [] image small fits = tt
words_trail f place (b ∷ bs) image small fits =
    let long = length-after_write image f f place (b ∷ []) in
    before-trail f place b (words f (place + 1) bs) image (words_start f (place + 1) bs) (All-head (λ x. x < 256) b bs small) (omega arith)
    (words_trail f (place + 1) bs (applied (Word f place (b ∷ [])) image) (All-tail (λ x. x < 256) b bs small) (omega (arith, long)))
