-- Files, words and lengths of an image after a step.
use Rattle.std.proofs.Common.{◌≡◌, ℕ, ◌+◌, ◌/◌, ◌%◌, ◌^◌, ◌<◌, ◌≤◌, ◌≢◌, List, [], length, refl, ap, sym, ◌∙◌, Bool, true, false, if◌then◌else◌, Option, Some, None, unwrap_or, is_some, arith}
use Rattle.std.proofs.lemmas.Bool.{eqb-true, eq-eqb}
use Rattle.std.proofs.lemmas.List.{same_lists, get_or_default}
use Rattle.spec_image.specs.Bytes.{content, spliced, resized, word_at, word_bytes}
use Rattle.spec_image.specs.Image.{File, Index, Block, External, same_file, Image, bytes_of, length_of, has_file, byte, word, with_file}
use Rattle.spec_image.specs.Steps.{Word, SetLength, written_over, applied}
use Rattle.spec_image.proofs.Splices.{length-spliced, length-resized, content-resized}
use Rattle.spec_image.proofs.Words.{word-written, word-other}

pub same_file-refl : (f : File) → same_file f f ≡ true
same_file-refl Index = refl
same_file-refl (Block n) = eq-eqb n n refl
same_file-refl (External n) = eq-eqb n n refl

pub same_file-true : (f g : File) → same_file f g ≡ true → f ≡ g
same_file-true Index Index e = refl
same_file-true Index (Block n) e = cc
same_file-true Index (External n) e = cc
same_file-true (Block m) Index e = cc
same_file-true (Block m) (Block n) e = ap Block (eqb-true m n e)
same_file-true (Block m) (External n) e = cc
same_file-true (External m) Index e = cc
same_file-true (External m) (Block n) e = cc
same_file-true (External m) (External n) e = ap External (eqb-true m n e)

-- the file that is changed, and another
pub with_file-same : (image : Image) (file : File) (bytes : Option (List ℕ)) → with_file image file bytes file ≡ bytes
with_file-same image file bytes = rw (same_file-refl file)

pub with_file-other : (image : Image) (file other : File) (bytes : Option (List ℕ)) → same_file file other ≡ false → with_file image file bytes other ≡ image other
with_file-other image file other bytes e = rw e

pub bytes-written : (old : Option (List ℕ)) (place : ℕ) (new : List ℕ) → unwrap_or (written_over place new old) [] ≡ spliced place new (unwrap_or old [])
unfolding spliced
bytes-written None place new = refl
bytes-written (Some old) place new = refl

-- bytes of the file after a word step
pub bytes_of-written : (image : Image) (file : File) (place : ℕ) (new : List ℕ) → bytes_of (applied (Word file place new) image) file ≡ spliced place new (bytes_of image file)
bytes_of-written image file place new = rw (same_file-refl file) (bytes-written (image file) place new)

-- a step on another file
pub other-word : (image : Image) (file other : File) (place : ℕ) (new : List ℕ) → same_file file other ≡ false → applied (Word file place new) image other ≡ image other
other-word image file other place new e = with_file-other image file other (written_over place new (image file)) e

-- a word that is written is read again
pub word-after_same : (image : Image) (file : File) (place v : ℕ) → v < 2 ^ 32 → place + 4 ≤ length_of image file → word (applied (Word file place (word_bytes v)) image) file place ≡ v
word-after_same image file place v fits room = ap (λ (bytes : List ℕ). word_at (content bytes) place) (bytes_of-written image file place (word_bytes v)) ∙ word-written place v (bytes_of image file) fits room

-- other aligned words stay
pub word-after_other : (image : Image) (file : File) (place : ℕ) (new : List ℕ) (j : ℕ) → place % 4 + length new ≤ 4 → j % 4 ≡ 0 → place / 4 ≢ j / 4 → word (applied (Word file place new) image) file j ≡ word image file j
word-after_other image file place new j inside aligned apart = ap (λ (bytes : List ℕ). word_at (content bytes) j) (bytes_of-written image file place new) ∙ word-other place new (bytes_of image file) j inside aligned apart

pub bytes_of-set_len : (image : Image) (file : File) (n : ℕ) → bytes_of (applied (SetLength file n) image) file ≡ resized n (bytes_of image file)
bytes_of-set_len image file n = rw (same_file-refl file)

-- bytes below both lengths stay, and new ones are 0
pub byte-after_set_len : (image : Image) (file : File) (n k : ℕ) → k < n → byte (applied (SetLength file n) image) file k ≡ byte image file k
byte-after_set_len image file n k h = ap (λ (bytes : List ℕ). content bytes k) (bytes_of-set_len image file n) ∙ content-resized n (bytes_of image file) k h

pub length-after_set_len : (image : Image) (file : File) (n : ℕ) → length_of (applied (SetLength file n) image) file ≡ n
length-after_set_len image file n = ap length (bytes_of-set_len image file n) ∙ length-resized n (bytes_of image file)

-- a write leaves the length
pub length-after_word : (image : Image) (file : File) (place : ℕ) (new : List ℕ) → length_of (applied (Word file place new) image) file ≡ length_of image file
length-after_word image file place new = ap length (bytes_of-written image file place new) ∙ length-spliced place new (bytes_of image file)

-- a step that leaves a file as it is
pub with_file-id : (image : Image) (file : File) → with_file image file (image file) ≡ image
with_file-id image file = λ i other. at_file other (same_file file other) refl i
  where
    at_file : (other : File) (t : Bool) → same_file file other ≡ t → with_file image file (image file) other ≡ image other
    at_file other true e = ap (λ (t : Bool). if t then image file else image other) e ∙ ap image (same_file-true file other e)
    at_file other false e = ap (λ (t : Bool). if t then image file else image other) e

-- the later of two changes of a file
pub with_file-twice : (image : Image) (file : File) (a b : Option (List ℕ)) → with_file (with_file image file a) file b ≡ with_file image file b
with_file-twice image file a b = λ i other. at_file other (same_file file other) i
  where
    at_file : (other : File) (t : Bool) → (if t then b else (if t then a else image other)) ≡ (if t then b else image other)
    at_file other true = refl
    at_file other false = refl

-- whether two files are one, the other way round
pub same_file-swap : (f g : File) → same_file f g ≡ false → same_file g f ≡ false
same_file-swap f g e = by_test (same_file g f) refl
  where
    by_test : (t : Bool) → same_file g f ≡ t → t ≡ false
    by_test true same = absurd (clash (sym (same_file-refl f) ∙ ap (same_file f) (sym (same_file-true g f same)) ∙ e))
      where
        clash : true ≡ false → ⊥
        clash c = cc
    by_test false same = refl

-- a write leaves the length of each file
pub length-after_write : (image : Image) (f g : File) (place : ℕ) (bytes : List ℕ) → length_of (applied (Word f place bytes) image) g ≡ length_of image g
length-after_write image f g place bytes = by_test (same_file f g) refl
  where
    by_test : (t : Bool) → same_file f g ≡ t → length (unwrap_or (if t then written_over place bytes (image f) else image g) []) ≡ length_of image g
    by_test true e = ap length (bytes-written (image f) place bytes) ∙ length-spliced place bytes (bytes_of image f) ∙ ap (length_of image) (same_file-true f g e)
    by_test false e = refl

-- a write makes and deletes no file
pub has-after_write : (image : Image) (f g : File) (place : ℕ) (bytes : List ℕ) → has_file (applied (Word f place bytes) image) g ≡ has_file image g
has-after_write image f g place bytes = by_test (same_file f g) refl
  where
    by_file : (o : Option (List ℕ)) → is_some (written_over place bytes o) ≡ is_some o
    by_file None = refl
    by_file (Some old) = refl

    by_test : (t : Bool) → same_file f g ≡ t → is_some (if t then written_over place bytes (image f) else image g) ≡ is_some (image g)
    by_test true e = by_file (image f) ∙ ap (has_file image) (same_file-true f g e)
    by_test false e = refl

-- two files with the same bytes, both there or neither
pub same_contents : (a b : Option (List ℕ)) → is_some a ≡ is_some b → length (unwrap_or a []) ≡ length (unwrap_or b []) → ((i : ℕ) → content (unwrap_or a []) i ≡ content (unwrap_or b []) i) → a ≡ b
same_contents None None both long same = refl
same_contents (Some x) (Some y) both long same = ap Some (same_lists x y long (λ k d h. get_or_default x k d 0 h ∙ same k ∙ get_or_default y k 0 d (omega arith)))
same_contents None (Some y) both long same = cc
same_contents (Some x) None both long same = cc
