-- What words that are written one by one do to the files.
use Rattle.std.proofs.Common.{◌≡◌, ℕ, zero, suc, ◌+◌, ◌<◌, ◌≤◌, Bool, true, false, nat_le, ◌&&◌, if◌then◌else◌, ◌%◌, ◌==◌, List, [], ◌∷◌, Option, refl, sym, subst, get_or, length, arith}
use Rattle.std.proofs.lemmas.Bool.Decides.{nat_tests}
use Rattle.spec_image.specs.Bytes.{word_bytes}
use Rattle.spec_image.specs.Image.{File, Index, Block, External, Image, bytes_of, length_of, with_file}
use Rattle.spec_image.specs.Steps.{TrailStep, Word, applied, after, words, before_words, word_step, word_steps, with_word}
use Rattle.spec_image.specs.Steps.{SetLength, Delete, Note}
use Rattle.spec_image.specs.Told.{Until, Along, IsQuiet, is_quiet}
use Rattle.spec_image.proofs.Runs.{only_here, only_there}
use Rattle.spec_image.proofs.Images.{bytes_of-written, length-after_write}

-- a file that isn't the index
abbrev pub IsBesideIndex : File → Type 0
IsBesideIndex Index = ⊥
IsBesideIndex (Block n) = Unit {0}
IsBesideIndex (External n) = Unit {0}

-- a write into it is quiet
word-quiet : (f : File) → IsBesideIndex f → (place : ℕ) (bytes : List ℕ) → is_quiet (Word f place bytes) ≡ true
word-quiet Index beside place bytes = absurd beside
word-quiet (Block n) beside place bytes = refl
word-quiet (External n) beside place bytes = refl

-- the write of a word that spares the words of the session
pub quiet-word_step : (f : File) (place value : ℕ) → is_quiet (Word f place (word_bytes value)) ≡ true → IsQuiet (word_step f place value)
unfolding word_step
quiet-word_step f place value is = only_here (is_quiet (Word f place (word_bytes value))) is tt

pub quiet-word_steps : (f : File) (ws : List (ℕ × ℕ)) → IsBesideIndex f → IsQuiet (word_steps f ws)
unfolding word_step
quiet-word_steps f [] beside = tt
quiet-word_steps f (w ∷ ws) beside = only_here (is_quiet (Word f w.0 (word_bytes w.1))) (word-quiet f beside w.0 (word_bytes w.1)) (quiet-word_steps f ws beside)

quiet-before : (f : File) (place b : ℕ) (steps : List TrailStep) → IsBesideIndex f → IsQuiet steps → IsQuiet (before_words f place b steps)
unfolding before_words
quiet-before f place b [] beside quiet = only_here (is_quiet (Word f place (b ∷ []))) (word-quiet f beside place (b ∷ [])) tt
quiet-before f place b (Word g at w ∷ steps) beside quiet = elim ((place + 1) % 4 == 0) as (λ t. IsQuiet (if t then Word f place (b ∷ []) ∷ Word g at w ∷ steps else Word f place (b ∷ w) ∷ steps)) [
  | true ↦ only_here (is_quiet (Word f place (b ∷ []))) (word-quiet f beside place (b ∷ [])) quiet
  | false ↦ only_here (is_quiet (Word f place (b ∷ w))) (word-quiet f beside place (b ∷ w)) (only_there (is_quiet (Word g at w)) quiet).1
]
quiet-before f place b (SetLength g n ∷ steps) beside quiet = only_here (is_quiet (Word f place (b ∷ []))) (word-quiet f beside place (b ∷ [])) quiet
quiet-before f place b (Delete g ∷ steps) beside quiet = only_here (is_quiet (Word f place (b ∷ []))) (word-quiet f beside place (b ∷ [])) quiet
quiet-before f place b (Note n ∷ steps) beside quiet = only_here (is_quiet (Word f place (b ∷ []))) (word-quiet f beside place (b ∷ [])) quiet

pub quiet-words : (f : File) (place : ℕ) (bs : List ℕ) → IsBesideIndex f → IsQuiet (words f place bs)
unfolding words
quiet-words f place [] beside = tt
quiet-words f place (b ∷ bs) beside = quiet-before f place b (words f (place + 1) bs) beside (quiet-words f (place + 1) bs beside)

-- no file has changed its length
abbrev pub SameLengths : Image → Image → Type 0
SameLengths old new = (g : File) → length_of new g ≡ length_of old g

-- what depends on the lengths alone holds after a word too
pub along-lengths : (P : Image → Type 0) → ((old new : Image) → SameLengths old new → P old → P new) → (f : File) (place value : ℕ) (image : Image) → P image → Along P image (word_step f place value)
unfolding word_step
along-lengths P keeps f place value image holds = (holds, keeps image _ (λ g. length-after_write image f g place (word_bytes value)) holds)

-- what holds whatever the file holds
pub along_put : (P : Image → Type 0) (f : File) → ((image : Image) (b : Option (List ℕ)) → P image → P (with_file image f b)) → (ws : List (ℕ × ℕ)) (image : Image) → P image → Until P P image (word_steps f ws)
unfolding word_step
along_put P f stays [] image holds = holds
along_put P f stays (w ∷ ws) image holds = (holds, along_put P f stays ws (applied (Word f w.0 (word_bytes w.1)) image) (stays image _ holds))

-- P stays over these words
abbrev pub StaysOver : (List ℕ → Type 0) → List (ℕ × ℕ) → Type 0
StaysOver P [] = Unit {0}
StaysOver P (w ∷ ws) = ((bytes : List ℕ) → P bytes → P (with_word w.0 w.1 bytes)) × StaysOver P ws

-- what holds of the bytes of the file
pub along_over : (P : List ℕ → Type 0) (f : File) (ws : List (ℕ × ℕ)) (image : Image) → StaysOver P ws → P (bytes_of image f) → Until (λ image. P (bytes_of image f)) (λ image. P (bytes_of image f)) image (word_steps f ws)
unfolding word_step with_word
along_over P f [] image stays holds = holds
along_over P f (w ∷ ws) image stays holds = (
  holds,
  along_over P f ws (applied (Word f w.0 (word_bytes w.1)) image) stays.1 (subst P (sym (bytes_of-written image f w.0 (word_bytes w.1))) (stays.0 (bytes_of image f) holds)),
)

-- one word, before which P holds and after which Q
pub until_word : (P Q : Image → Type 0) (f : File) (place value : ℕ) (image : Image) → P image → Q (after (word_step f place value) image) → Until P Q image (word_step f place value)
unfolding word_step
until_word P Q f place value image before last = (before, last)

-- whether each word fits into n bytes
abbrev pub fits : ℕ → List (ℕ × ℕ) → Bool
fits n [] = true
fits n (w ∷ ws) = nat_le (w.0 + 4) n && fits n ws

pub all_fit : (n : ℕ) (ws : List (ℕ × ℕ)) → fits n ws ≡ true → (k : ℕ) (d : ℕ × ℕ) → k < length ws → (get_or ws k d).0 + 4 ≤ n
all_fit n [] test k d small = absurd (omega arith)
all_fit n (w ∷ ws) test zero d small = grind (arith, nat_tests)
all_fit n (w ∷ ws) test (suc k) d small = all_fit n ws (grind (arith, nat_tests)) k d (omega arith)
