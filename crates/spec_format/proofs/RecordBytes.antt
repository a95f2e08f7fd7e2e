-- The bytes of a record of a file, where words are written over them.
use Rattle.std.proofs.Common.{◌≡◌, ℕ, zero, suc, ◌+◌, ◌≤◌, List, [], ◌∷◌, ◌++◌, length, take, drop, All, refl, sym, ◌∙◌, ap, arith, inr, zero-add, append-nil}
use Rattle.std.proofs.lemmas.List.{drop_all, length-take}
use Rattle.std.proofs.lemmas.List.Elements.{All-head, All-tail}
use Rattle.spec_image.specs.Bytes.{content, spliced, word_at, word_bytes, range_at}
use Rattle.spec_image.specs.Image.{File, Image, byte, bytes_of, length_of}
use Rattle.spec_image.specs.Steps.{Word, applied, after, word_step, word_steps, with_word, with_words}
use Rattle.spec_image.proofs.Images.{bytes_of-written, length-after_write}
use Rattle.spec_image.proofs.Splices.{length-spliced, spliced-is}
use Rattle.spec_image.proofs.Words.{range-is, word-beside}
use Rattle.spec_format.specs.Sealed.{placed}

-- a prefix of bytes that are written over, and what lies from a place on
take-spliced : (n i : ℕ) (new old : List ℕ) → take n (spliced i new old) ≡ spliced i new (take n old)
unfolding spliced
take-spliced zero i new [] = refl
take-spliced (suc n) i new [] = refl
take-spliced zero zero [] (x ∷ old) = refl
take-spliced zero zero (y ∷ new) (x ∷ old) = refl
take-spliced zero (suc i) new (x ∷ old) = refl
take-spliced (suc n) zero [] (x ∷ old) = refl
take-spliced (suc n) zero (y ∷ new) (x ∷ old) = ap (λ (l : List ℕ). y ∷ l) (take-spliced n zero new old)
take-spliced (suc n) (suc i) new (x ∷ old) = ap (λ (l : List ℕ). x ∷ l) (take-spliced n i new old)

drop-spliced : (i p : ℕ) (new old : List ℕ) → drop i (spliced (i + p) new old) ≡ spliced p new (drop i old)
unfolding spliced
drop-spliced zero p new old = ap (λ (k : ℕ). spliced k new old) (zero-add p)
drop-spliced (suc i) p new [] = refl
drop-spliced (suc i) p new (x ∷ old) =
    let e : suc i + p ≡ suc (i + p) = omega arith in
    ap (λ (k : ℕ). drop (suc i) (spliced k new (x ∷ old))) e ∙ drop-spliced i p new old

-- nothing is written past the end
spliced-past : (i : ℕ) (new old : List ℕ) → length old ≤ i → spliced i new old ≡ old
unfolding spliced
spliced-past i new [] past = refl
spliced-past zero new (x ∷ old) past = absurd (omega arith)
spliced-past (suc i) new (x ∷ old) past = ap (λ (l : List ℕ). x ∷ l) (spliced-past i new old (omega arith))

range-written : (i n p : ℕ) (new old : List ℕ) → i + n ≤ length old → range_at (content (spliced (i + p) new old)) i n ≡ spliced p new (range_at (content old) i n)
range-written i n p new old fits =
    range-is n i (spliced (i + p) new old) (omega (arith, length-spliced (i + p) new old))
    ∙ ap (take n) (drop-spliced i p new old)
    ∙ take-spliced n p new (drop i old)
    ∙ ap (spliced p new) (sym (range-is n i old fits))

-- a record after a word of it was written
pub record-step : (image : Image) (file : File) (i n p v : ℕ) → i + n ≤ length_of image file → range_at (byte (applied (Word file (i + p) (word_bytes v)) image) file) i n ≡ with_word p v (range_at (byte image file) i n)
unfolding with_word
record-step image file i n p v fits =
    ap (λ (l : List ℕ). range_at (content l) i n) (bytes_of-written image file (i + p) (word_bytes v)) ∙ range-written i n p (word_bytes v) (bytes_of image file) fits

-- a record after several words of it were written
pub record-after : (file : File) (i n : ℕ) (ws : List (ℕ × ℕ)) (image : Image) → i + n ≤ length_of image file → range_at (byte (after (word_steps file (placed i ws)) image) file) i n ≡ with_words ws (range_at (byte image file) i n)
unfolding word_step
record-after file i n [] image fits = refl
record-after file i n (w ∷ ws) image fits =
    record-after file i n ws (applied (Word file (i + w.0) (word_bytes w.1)) image) (omega (arith, length-after_write image file file (i + w.0) (word_bytes w.1)))
    ∙ ap (with_words ws) (record-step image file i n w.0 w.1 fits)

-- a prefix of a record with words over it
pub take-with_word : (n p v : ℕ) (bytes : List ℕ) → take n (with_word p v bytes) ≡ with_word p v (take n bytes)
unfolding with_word
take-with_word n p v bytes = take-spliced n p (word_bytes v) bytes

pub take-with_words : (n : ℕ) (ws : List (ℕ × ℕ)) (bytes : List ℕ) → take n (with_words ws bytes) ≡ with_words ws (take n bytes)
take-with_words n [] bytes = refl
take-with_words n (w ∷ ws) bytes = take-with_words n ws (with_word w.0 w.1 bytes) ∙ ap (with_words ws) (take-with_word n w.0 w.1 bytes)

-- a word that is written after it
pub take-before_word : (n v : ℕ) (bytes : List ℕ) → take n (with_word n v bytes) ≡ take n bytes
unfolding with_word
take-before_word n v bytes = take-spliced n n (word_bytes v) bytes ∙ spliced-past n (word_bytes v) (take n bytes) (omega (arith, length-take n bytes))

pub with_words-append : (ws more : List (ℕ × ℕ)) (bytes : List ℕ) → with_words (ws ++ more) bytes ≡ with_words more (with_words ws bytes)
with_words-append [] more bytes = refl
with_words-append (w ∷ ws) more bytes = with_words-append ws more (with_word w.0 w.1 bytes)

-- a word after words that are written
pub word-behind : (s : ℕ) (ws : List (ℕ × ℕ)) (bytes : List ℕ) → All (λ w. w.0 + 4 ≤ s) ws → word_at (content (with_words ws bytes)) s ≡ word_at (content bytes) s
word-behind s [] bytes before = refl
word-behind s (w ∷ ws) bytes before =
    word-behind s ws (with_word w.0 w.1 bytes) (All-tail (λ w. w.0 + 4 ≤ s) w ws before) ∙ word-beside s w.0 w.1 bytes (inr (All-head (λ w. w.0 + 4 ≤ s) w ws before))

-- two records that differ in their last word alone, with that word written
pub same-sealed : (s v : ℕ) (one other : List ℕ) → length one ≡ s + 4 → length other ≡ s + 4 → take s one ≡ take s other → with_word s v one ≡ with_word s v other
unfolding with_word
same-sealed s v one other size size2 same = is one size ∙ ap (λ (l : List ℕ). l ++ word_bytes v) same ∙ sym (is other size2)
  where
    is : (l : List ℕ) → length l ≡ s + 4 → spliced s (word_bytes v) l ≡ take s l ++ word_bytes v
    is l size =
        spliced-is s (word_bytes v) l (omega arith)
        ∙ ap (λ (rest : List ℕ). take s l ++ (word_bytes v ++ rest)) (drop_all (s + 4) l (omega arith))
        ∙ ap (λ (end : List ℕ). take s l ++ end) (append-nil (word_bytes v))
