-- Bytes stay below 256 at each step of a write trace.
use Rattle.std.proofs.Common.{ℕ, zero, suc, ◌<◌, ◌≤◌, ◌^◌, Bool, true, false, if◌then◌else◌, List, [], ◌∷◌, length, Option, None, Some, unwrap_or, sym, subst, All, lit<, ⊎_elim}
use Rattle.std.proofs.lemmas.Bool.{cases_lt}
use Rattle.std.proofs.lemmas.List.Elements.{All-head, All-tail}
use Rattle.spec_image.specs.Bytes.{content, spliced, resized}
use Rattle.spec_image.specs.Image.{File, Image, AreBytes, HasRange, same_file, byte, bytes_of, word, with_file}
use Rattle.spec_image.specs.Steps.{TrailStep, Word, SetLength, Delete, Note, applied, written_over, words, IsStep, IsTrail}
use Rattle.spec_image.specs.Told.{Along}
use Rattle.spec_image.proofs.Splices.{content-resized, content-resized_past}
use Rattle.spec_image.proofs.Images.{bytes-written}
use Rattle.spec_image.proofs.Words.{word-fits}
use Rattle.spec_image.proofs.Cuts.{words_trail}

pub small-spliced : (i : ℕ) (new old : List ℕ) → All (λ b. b < 256) new → ((k : ℕ) → content old k < 256) → (k : ℕ) → content (spliced i new old) k < 256
unfolding spliced
small-spliced i new [] fresh small k = small k
small-spliced zero [] (x ∷ old) fresh small k = small k
small-spliced zero (y ∷ new) (x ∷ old) fresh small zero = All-head (λ b. b < 256) y new fresh
small-spliced zero (y ∷ new) (x ∷ old) fresh small (suc k) = small-spliced zero new old (All-tail (λ b. b < 256) y new fresh) (λ j. small (suc j)) k
small-spliced (suc i) new (x ∷ old) fresh small zero = small zero
small-spliced (suc i) new (x ∷ old) fresh small (suc k) = small-spliced i new old fresh (λ j. small (suc j)) k

small-resized : (n : ℕ) (old : List ℕ) → ((k : ℕ) → content old k < 256) → (k : ℕ) → content (resized n old) k < 256
small-resized n old small k =
    ⊎_elim
    (λ (inside : k < n). subst (λ (b : ℕ). b < 256) (sym (content-resized n old k inside)) (small k))
    (λ (past : n ≤ k). subst (λ (b : ℕ). b < 256) (sym (content-resized_past n old k past)) (lit< tt))
    (cases_lt k n)

-- one file is changed to bytes
pub are_bytes-with_file : (image : Image) (f : File) (new : Option (List ℕ)) → AreBytes image → ((k : ℕ) → content (unwrap_or new []) k < 256) → AreBytes (with_file image f new)
are_bytes-with_file image f new small fresh g k = by_test (same_file f g)
  where
    by_test : (t : Bool) → content (unwrap_or (if t then new else image g) []) k < 256
    by_test true = fresh k
    by_test false = small g k

-- one step
pub are_bytes-step : (image : Image) (step : TrailStep) → IsStep image step → AreBytes image → AreBytes (applied step image)
are_bytes-step image (Word f place bs) is small = are_bytes-with_file image f (written_over place bs (image f)) small
    (λ k. subst (λ (l : List ℕ). content l k < 256) (sym (bytes-written (image f) place bs)) (small-spliced place bs (bytes_of image f) is.are_bytes (small f) k))
are_bytes-step image (SetLength f n) is small = are_bytes-with_file image f (Some (resized n (bytes_of image f))) small (small-resized n (bytes_of image f) (small f))
are_bytes-step image (Delete f) is small = are_bytes-with_file image f None small (λ k. lit< tt)
are_bytes-step image (Note n) is small = small

-- each step of a write trace
pub are_bytes-along : (image : Image) (steps : List TrailStep) → IsTrail image steps → AreBytes image → Along AreBytes image steps
are_bytes-along image [] trail small = small
are_bytes-along image (step ∷ steps) trail small = (small, are_bytes-along (applied step image) steps trail.1 (are_bytes-step image step trail.0 small))

-- each word step of a write of bytes
pub are_bytes-words : (f : File) (place : ℕ) (bs : List ℕ) (image : Image) → All (λ b. b < 256) bs → HasRange image f place (length bs) → AreBytes image → Along AreBytes image (words f place bs)
are_bytes-words f place bs image fresh inside small = are_bytes-along image (words f place bs) (words_trail f place bs image fresh inside) small

-- a word of an image of bytes fits in 32 bits
pub word-small : (image : Image) (f : File) (place : ℕ) → AreBytes image → word image f place < 2 ^ 32
word-small image f place small = word-fits (byte image f) (small f) place
