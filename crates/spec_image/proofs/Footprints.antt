-- What is as before outside a footprint.
use Rattle.std.proofs.Common.{◌≡◌, ℕ, ◌+◌, ◌<◌, ◌≤◌, Bool, true, false, ◌&&◌, ◌||◌, nat_le, nat_lt, List, [], ◌∷◌, length, Option, None, Some, unwrap_or, is_some, if◌then◌else◌, ◌%◌, ◌==◌, suc, ⊎_elim, refl, sym, ◌∙◌, ap, subst, arith, ◌⊎◌}
use Rattle.std.proofs.lemmas.Bool.{cases_lt, or_left, or_right}
use Rattle.std.proofs.lemmas.Bool.Decides.{nat_tests}
use Rattle.spec_image.specs.Bytes.{content, resized}
use Rattle.spec_image.specs.Image.{File, Image, same_file, bytes_of, length_of, byte, word, with_file}
use Rattle.spec_image.specs.Steps.{TrailStep, Word, SetLength, Delete, Note, written_over, applied, words, before_words}
use Rattle.spec_image.specs.Told.{Along}
use Rattle.spec_image.specs.Footprint.{Footprint, SameOutside, IsWithin, nothing, range, whole, size_of, either, touched_by, touched_by_all}
use Rattle.std.proofs.lemmas.List.{get_or_past}
use Rattle.spec_image.proofs.Splices.{content-spliced_outside, content-resized, content-resized_past}
use Rattle.spec_image.proofs.Words.{same-word_at}
use Rattle.spec_image.proofs.Cuts.{StartsAt, words_start}
use Rattle.spec_image.proofs.Images.{same_file-true, bytes-written, length-after_write, has-after_write, same_contents}

-- nothing has changed
pub outside-refl : (F : Footprint) (image : Image) → SameOutside F image image
outside-refl F image = record { bytes = λ file i e. refl; lengths = λ file e. refl; files = λ file e. refl }

-- one change after another
pub outside-trans : (F : Footprint) (a b c : Image) → SameOutside F a b → SameOutside F b c → SameOutside F a c
outside-trans F a b c one other = record {
  bytes = λ file i e. other.bytes file i e ∙ one.bytes file i e;
  lengths = λ file e. other.lengths file e ∙ one.lengths file e;
  files = λ file e. other.files file e ∙ one.files file e;
}

not_touched : (s t : Bool) → (s ≡ true → t ≡ true) → t ≡ false → s ≡ false
not_touched true t within e = sym (within refl) ∙ e
not_touched false t within e = refl

-- a larger footprint
pub outside_wider : (F G : Footprint) (a b : Image) → IsWithin F G → SameOutside F a b → SameOutside G a b
outside_wider F G a b within same = record {
  bytes = λ file i e. same.bytes file i (not_touched (F.bytes file i) (G.bytes file i) (within.bytes file i) e);
  lengths = λ file e. same.lengths file (not_touched (F.sizes file) (G.sizes file) (within.sizes file) e);
  files = λ file e. same.files file (not_touched (F.sizes file) (G.sizes file) (within.sizes file) e);
}

pub within_left : (F G : Footprint) → IsWithin F (either F G)
within_left F G = record { bytes = λ file i e. or_left (F.bytes file i) (G.bytes file i) e; sizes = λ file e. or_left (F.sizes file) (G.sizes file) e }

pub within_right : (F G : Footprint) → IsWithin G (either F G)
within_right F G = record { bytes = λ file i e. or_right (F.bytes file i) (G.bytes file i) e; sizes = λ file e. or_right (F.sizes file) (G.sizes file) e }

-- each of two that are within a third
pub within_first : (F G H : Footprint) → IsWithin (either F G) H → IsWithin F H
within_first F G H both = record { bytes = λ file i e. both.bytes file i (or_left (F.bytes file i) (G.bytes file i) e); sizes = λ file e. both.sizes file (or_left (F.sizes file) (G.sizes file) e) }

pub within_second : (F G H : Footprint) → IsWithin (either F G) H → IsWithin G H
within_second F G H both = record { bytes = λ file i e. both.bytes file i (or_right (F.bytes file i) (G.bytes file i) e); sizes = λ file e. both.sizes file (or_right (F.sizes file) (G.sizes file) e) }

pub within-refl : (F : Footprint) → IsWithin F F
within-refl F = record { bytes = λ file i e. e; sizes = λ file e. e }

pub within_both : (F G H : Footprint) → IsWithin F H → IsWithin G H → IsWithin (either F G) H
within_both F G H one other = record {
  bytes = λ file i e. by_or (F.bytes file i) (G.bytes file i) (H.bytes file i) (one.bytes file i) (other.bytes file i) e;
  sizes = λ file e. by_or (F.sizes file) (G.sizes file) (H.sizes file) (one.sizes file) (other.sizes file) e;
}
  where
    by_or : (s t u : Bool) → (s ≡ true → u ≡ true) → (t ≡ true → u ≡ true) → (s || t) ≡ true → u ≡ true
    by_or true t u left right e = left refl
    by_or false t u left right e = right e

-- a place that a range doesn't touch is in another file, or outside of it
out_of_range : (f g : File) (place n i : ℕ) → (same_file f g && (nat_le place i && nat_lt i (place + n))) ≡ false → same_file f g ≡ true → (i < place) ⊎ (place + n ≤ i)
out_of_range f g place n i e same = by_file (same_file f g) same e
  where
    by_file : (t : Bool) → t ≡ true → (t && (nat_le place i && nat_lt i (place + n))) ≡ false → (i < place) ⊎ (place + n ≤ i)
    by_file true s d = grind (arith, nat_tests)
    by_file false s d = absurd (clash s)
      where
        clash : false ≡ true → ⊥
        clash c = cc

-- a write touches its bytes alone
pub outside_write : (f : File) (place : ℕ) (bs : List ℕ) (image : Image) → SameOutside (range f place (length bs)) image (applied (Word f place bs) image)
outside_write f place bs image = record {
  bytes = λ g i e. by_test g i e (same_file f g) refl;
  lengths = λ g e. length-after_write image f g place bs;
  files = λ g e. has-after_write image f g place bs;
}
  where
    by_test : (g : File) (i : ℕ) → (same_file f g && (nat_le place i && nat_lt i (place + length bs))) ≡ false → (t : Bool) → same_file f g ≡ t
        → content (unwrap_or (if t then written_over place bs (image f) else image g) []) i ≡ byte image g i
    by_test g i e true same =
        ap (λ (l : List ℕ). content l i) (bytes-written (image f) place bs)
        ∙ content-spliced_outside place bs (bytes_of image f) i (out_of_range f g place (length bs) i e same)
        ∙ ap (λ (h : File). byte image h i) (same_file-true f g same)
    by_test g i e false same = refl

-- another length touches its file alone
outside_file : (f : File) (new : Option (List ℕ)) (image : Image) → SameOutside (whole f) image (with_file image f new)
outside_file f new image = record {
  bytes = λ g i e. ap (λ (t : Bool). content (unwrap_or (if t then new else image g) []) i) e;
  lengths = λ g e. ap (λ (t : Bool). length (unwrap_or (if t then new else image g) [])) e;
  files = λ g e. ap (λ (t : Bool). is_some (if t then new else image g)) e;
}

-- a step touches what it touches
pub outside_step : (step : TrailStep) (image : Image) → SameOutside (touched_by step) image (applied step image)
outside_step (Word f place bs) image = outside_write f place bs image
outside_step (SetLength f n) image = outside_file f _ image
outside_step (Delete f) image = outside_file f None image
outside_step (Note n) image = outside-refl nothing image

-- what is touched by each of some steps
pub outside_steps : (F : Footprint) (steps : List TrailStep) (from image : Image) → IsWithin (touched_by_all steps) F → SameOutside F from image → Along (SameOutside F from) image steps
outside_steps F [] from image within same = same
outside_steps F (step ∷ steps) from image within same =
    let here : IsWithin (touched_by step) F = within_first (touched_by step) (touched_by_all steps) F within in
    let rest : IsWithin (touched_by_all steps) F = within_second (touched_by step) (touched_by_all steps) F within in
    (same, outside_steps F steps from (applied step image) rest (outside-trans F from image (applied step image) same (outside_wider (touched_by step) F image (applied step image) here (outside_step step image))))

pub steps_inside : (steps : List TrailStep) (image : Image) → Along (SameOutside (touched_by_all steps) image) image steps
steps_inside steps image = outside_steps (touched_by_all steps) steps image image (within-refl (touched_by_all steps)) (outside-refl (touched_by_all steps) image)

-- a file of which nothing is touched is as before
pub same_file_outside : (F : Footprint) (a b : Image) (file : File) → SameOutside F a b → ((i : ℕ) → F.bytes file i ≡ false) → F.sizes file ≡ false → b file ≡ a file
same_file_outside F a b file same bytes size = same_contents (b file) (a file) (same.files file size) (same.lengths file size) (λ i. same.bytes file i (bytes i))

-- a word of which no byte is touched is as before
pub same_word_outside : (F : Footprint) (a b : Image) (file : File) (i : ℕ) → SameOutside F a b → ((k : ℕ) → i ≤ k → k < i + 4 → F.bytes file k ≡ false) → word b file i ≡ word a file i
same_word_outside F a b file i same apart =
    same-word_at (byte b file) (byte a file) i (same.bytes file i (apart i (omega arith) (omega arith))) (same.bytes file (i + 1) (apart (i + 1) (omega arith) (omega arith)))
    (same.bytes file (i + 2) (apart (i + 2) (omega arith) (omega arith))) (same.bytes file (i + 3) (apart (i + 3) (omega arith) (omega arith)))

-- a part of a range
pub range_within : (f : File) (p n q m : ℕ) → q ≤ p → p + n ≤ q + m → IsWithin (range f p n) (range f q m)
range_within f p n q m low high = record { bytes = λ g i e. by_file (same_file f g) i e; sizes = λ g e. e }
  where
    by_file : (t : Bool) (i : ℕ) → (t && (nat_le p i && nat_lt i (p + n))) ≡ true → (t && (nat_le q i && nat_lt i (q + m))) ≡ true
    by_file true i e = grind (arith, nat_tests)
    by_file false i e = e

-- a range of one byte more in front
range_more : (f : File) (p n : ℕ) (F : Footprint) → ((g : File) → same_file f g ≡ true → F.bytes g p ≡ true) → IsWithin (range f (p + 1) n) F → IsWithin (range f p (suc n)) F
range_more f p n F first rest = record { bytes = λ g i e. by_file g i (same_file f g) refl e; sizes = λ g e. rest.sizes g e }
  where
    by_file : (g : File) (i : ℕ) (t : Bool) → same_file f g ≡ t → (t && (nat_le p i && nat_lt i (p + suc n))) ≡ true → F.bytes g i ≡ true
    by_file g i false same e = absurd (clash e)
      where
        clash : false ≡ true → ⊥
        clash c = cc
    by_file g i true same e =
        ⊎_elim
        (λ (behind : p < i).
        let inside : (nat_le (p + 1) i && nat_lt i (p + 1 + n)) ≡ true = grind (arith, nat_tests) in
        rest.bytes g i (ap (λ (t : Bool). t && (nat_le (p + 1) i && nat_lt i (p + 1 + n))) same ∙ inside))
        (λ (upto : i ≤ p).
        let at_first : p ≡ i = grind (arith, nat_tests) in
        subst (λ (k : ℕ). F.bytes g k ≡ true) at_first (first g same))
        (cases_lt p i)

nothing_within : (F : Footprint) → IsWithin nothing F
nothing_within F = record { bytes = λ g i e. absurd (clash e); sizes = λ g e. absurd (clash e) }
  where
    clash : false ≡ true → ⊥
    clash c = cc

in_range : (f : File) (p q m : ℕ) → q ≤ p → p < q + m → (g : File) → same_file f g ≡ true → (same_file f g && (nat_le q p && nat_lt p (q + m))) ≡ true
in_range f p q m low high g same =
    let inside : (nat_le q p && nat_lt p (q + m)) ≡ true = grind (arith, nat_tests) in
    ap (λ (t : Bool). t && (nat_le q p && nat_lt p (q + m))) same ∙ inside

before-within : (f : File) (p b q m : ℕ) (steps : List TrailStep) → StartsAt f (p + 1) steps → q ≤ p → p < q + m → IsWithin (touched_by_all steps) (range f q m) → IsWithin (touched_by_all (before_words f p b steps)) (range f q m)
unfolding before_words
before-within f p b q m [] starts low high rest = within_both (range f p 1) nothing (range f q m) (range_within f p 1 q m low (omega arith)) (nothing_within (range f q m))
before-within f p b q m (Word g at w ∷ steps) starts low high rest = by_test ((p + 1) % 4 == 0)
  where
    F : Footprint
    F = range f q m

    first_of : IsWithin (range g at (length w)) F
    first_of = within_first (range g at (length w)) (touched_by_all steps) F rest

    moved : (g ≡ f) → (at ≡ p + 1) → IsWithin (range f (p + 1) (length w)) F
    moved e d = subst (λ (h : File). IsWithin (range h (p + 1) (length w)) F) e (subst (λ (k : ℕ). IsWithin (range g k (length w)) F) d first_of)

    behind : IsWithin (touched_by_all steps) F
    behind = within_second (range g at (length w)) (touched_by_all steps) F rest

    by_test : (t : Bool) → IsWithin (touched_by_all (if t then Word f p (b ∷ []) ∷ Word g at w ∷ steps else Word f p (b ∷ w) ∷ steps)) F
    by_test true = within_both (range f p 1) (touched_by_all (Word g at w ∷ steps)) F (range_within f p 1 q m low (omega arith)) rest
    by_test false = within_both (range f p (suc (length w))) (touched_by_all steps) F (range_more f p (length w) F (in_range f p q m low high) (moved starts.0 starts.1)) behind
before-within f p b q m (SetLength g n ∷ steps) starts low high rest = within_both (range f p 1) (touched_by_all (SetLength g n ∷ steps)) (range f q m) (range_within f p 1 q m low (omega arith)) rest
before-within f p b q m (Delete g ∷ steps) starts low high rest = within_both (range f p 1) (touched_by_all (Delete g ∷ steps)) (range f q m) (range_within f p 1 q m low (omega arith)) rest
before-within f p b q m (Note n ∷ steps) starts low high rest = within_both (range f p 1) (touched_by_all (Note n ∷ steps)) (range f q m) (range_within f p 1 q m low (omega arith)) rest

-- a write touches bytes of its range alone
pub words_within : (f : File) (p q m : ℕ) (bs : List ℕ) → q ≤ p → p + length bs ≤ q + m → IsWithin (touched_by_all (words f p bs)) (range f q m)
unfolding words
words_within f p q m [] low high = nothing_within (range f q m)
words_within f p q m (b ∷ bs) low high = before-within f p b q m (words f (p + 1) bs) (words_start f (p + 1) bs) low (omega arith) (words_within f (p + 1) q m bs (omega arith) (omega arith))

pub words_inside : (f : File) (p : ℕ) (bs : List ℕ) (image : Image) → Along (SameOutside (range f p (length bs)) image) image (words f p bs)
words_inside f p bs image = outside_steps (range f p (length bs)) (words f p bs) image image (words_within f p p (length bs) bs (omega arith) (omega arith)) (outside-refl (range f p (length bs)) image)

-- a file that is lengthened keeps its bytes
pub outside_longer : (f : File) (n : ℕ) (image : Image) → length_of image f ≤ n → SameOutside (size_of f) image (applied (SetLength f n) image)
outside_longer f n image longer = record {
  bytes = λ g i e. by_test g i (same_file f g) refl;
  lengths = λ g e. ap (λ (t : Bool). length (unwrap_or (if t then Some (resized n (bytes_of image f)) else image g) [])) e;
  files = λ g e. ap (λ (t : Bool). is_some (if t then Some (resized n (bytes_of image f)) else image g)) e;
}
  where
    kept : (i : ℕ) → content (resized n (bytes_of image f)) i ≡ byte image f i
    kept i =
        ⊎_elim
        (λ (inside : i < n). content-resized n (bytes_of image f) i inside)
        (λ (past : n ≤ i). content-resized_past n (bytes_of image f) i past ∙ sym (get_or_past (bytes_of image f) i 0 (omega arith)))
        (cases_lt i n)

    by_test : (g : File) (i : ℕ) (t : Bool) → same_file f g ≡ t → content (unwrap_or (if t then Some (resized n (bytes_of image f)) else image g) []) i ≡ byte image g i
    by_test g i true same = kept i ∙ ap (λ (h : File). byte image h i) (same_file-true f g same)
    by_test g i false same = refl
