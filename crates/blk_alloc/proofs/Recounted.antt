-- The counters of a file, each as it was or as it is to be.
use Rattle.std.proofs.Common.{◌≡◌, ℕ, zero, suc, ◌+◌, ◌*◌, ◌^◌, ◌<◌, ◌≤◌, ◌⊎◌, inl, inr, List, [], ◌∷◌, ◌++◌, length, Bool, true, false, ◌&&◌, nat_le, nat_lt, refl, sym, ◌∙◌, ap, subst, arith, ⊎_elim}
use Rattle.std.specs.Prelude.{slice_index}
use Rattle.std.proofs.lemmas.Bool.{cases_lt}
use Rattle.std.proofs.lemmas.Bool.Decides.{nat_tests}
use Rattle.spec_image.specs.Bytes.{content, spliced, word_at, word_bytes}
use Rattle.spec_image.specs.Image.{Image, File, Block, byte, same_file, word}
use Rattle.spec_image.specs.Footprint.{SameOutside, IsWithin, range}
use Rattle.spec_image.proofs.Words.{word-written}
use Rattle.spec_image.proofs.Footprints.{outside-refl, outside-trans, outside_wider, range_within, same_word_outside, within_left, within_right}
use Rattle.spec_format.specs.Headers.{allocations_of, empty_of}
use Rattle.blk_alloc.specs.Mending.{IsPrefixWritten, AreBytesWritten}
use Rattle.blk_alloc.specs.Rebuilding.{counters_of, HasTheseCounters, IsCounting}
use Rattle.blk_alloc.proofs.Changing.{within-trans}

-- the word of four bytes
pub word_there : (f : ℕ → ℕ) (p v : ℕ) → v < 2 ^ 32 → ((i : ℕ) → i < 4 → f (p + i) ≡ content (word_bytes v) i) → word_at f p ≡ v
unfolding spliced
word_there f p v fits same =
    let whole : word_at (content (word_bytes v)) 0 ≡ v = word-written 0 v (0 ∷ 0 ∷ 0 ∷ 0 ∷ []) fits (omega arith) in
    let e0 : f p ≡ content (word_bytes v) 0 = ap f {x = p} {y = p + 0} (omega arith) ∙ same 0 (omega arith) in
    let e1 = same 1 (omega arith) in
    let e2 = same 2 (omega arith) in
    let e3 = same 3 (omega arith) in
    ap (λ (x : ℕ). x + 256 * f (p + 1) + 65536 * f (p + 2) + 16777216 * f (p + 3)) e0
    ∙ ap (λ (x : ℕ). content (word_bytes v) 0 + 256 * x + 65536 * f (p + 2) + 16777216 * f (p + 3)) e1
    ∙ ap (λ (x : ℕ). content (word_bytes v) 0 + 256 * content (word_bytes v) 1 + 65536 * x + 16777216 * f (p + 3)) e2
    ∙ ap (λ (x : ℕ). content (word_bytes v) 0 + 256 * content (word_bytes v) 1 + 65536 * content (word_bytes v) 2 + 16777216 * x) e3
    ∙ whole

-- beside a range
pub range_beside : (f : File) (p n k : ℕ) → (k < p) ⊎ (p + n ≤ k) → (range f p n).bytes f k ≡ false
range_beside f p n k apart = by_test (same_file f f)
  where
    by_test : (t : Bool) → (t && (nat_le p k && nat_lt k (p + n))) ≡ false
    by_test true = grind (arith, nat_tests)
    by_test false = refl

-- a word beside a range
pub word_beside_range : (f : File) (p n i : ℕ) (a b : Image) → (i + 4 ≤ p) ⊎ (p + n ≤ i) → SameOutside (range f p n) a b → word b f i ≡ word a f i
word_beside_range f p n i a b apart same = same_word_outside (range f p n) a b f i same (λ k low high. range_beside f p n k (⊎_elim (λ (left : i + 4 ≤ p). inl (omega (arith, left, high))) (λ (right : p + n ≤ i). inr (omega (arith, right, low))) apart))

-- the bytes of four words
abbrev pub four_words : List ℕ → List ℕ
four_words e = word_bytes (slice_index e 0) ++ (word_bytes (slice_index e 1) ++ (word_bytes (slice_index e 2) ++ (word_bytes (slice_index e 3) ++ [])))

pub four_bytes : (e : List ℕ) (i j : ℕ) → i < 4 → j < 4 → content (four_words e) (4 * i + j) ≡ content (word_bytes (slice_index e i)) j
four_bytes e zero zero few small = refl
four_bytes e zero (suc zero) few small = refl
four_bytes e zero (suc (suc zero)) few small = refl
four_bytes e zero (suc (suc (suc zero))) few small = refl
four_bytes e zero (suc (suc (suc (suc j)))) few small = absurd (omega arith)
four_bytes e (suc zero) zero few small = refl
four_bytes e (suc zero) (suc zero) few small = refl
four_bytes e (suc zero) (suc (suc zero)) few small = refl
four_bytes e (suc zero) (suc (suc (suc zero))) few small = refl
four_bytes e (suc zero) (suc (suc (suc (suc j)))) few small = absurd (omega arith)
four_bytes e (suc (suc zero)) zero few small = refl
four_bytes e (suc (suc zero)) (suc zero) few small = refl
four_bytes e (suc (suc zero)) (suc (suc zero)) few small = refl
four_bytes e (suc (suc zero)) (suc (suc (suc zero))) few small = refl
four_bytes e (suc (suc zero)) (suc (suc (suc (suc j)))) few small = absurd (omega arith)
four_bytes e (suc (suc (suc zero))) zero few small = refl
four_bytes e (suc (suc (suc zero))) (suc zero) few small = refl
four_bytes e (suc (suc (suc zero))) (suc (suc zero)) few small = refl
four_bytes e (suc (suc (suc zero))) (suc (suc (suc zero))) few small = refl
four_bytes e (suc (suc (suc zero))) (suc (suc (suc (suc j)))) few small = absurd (omega arith)
four_bytes e (suc (suc (suc (suc i)))) j few small = absurd (omega arith)

module _ (n a : ℕ) (number : List ℕ) (bytes_of_number : number ≡ word_bytes a) (e : List ℕ) (small : a < 2 ^ 32) (fits : (i : ℕ) → i < 4 → slice_index e i < 2 ^ 32) (from : Image) where
  at_number : IsWithin (range (Block n) 16 4) (counters_of n)
  at_number = within_left (range (Block n) 16 4) (range (Block n) 24 16)

  at_runs : (k : ℕ) → k ≤ 16 → IsWithin (range (Block n) 24 k) (counters_of n)
  at_runs k most = within-trans (range (Block n) 24 k) (range (Block n) 24 16) (counters_of n) (range_within (Block n) 24 k 24 16 (omega arith) (omega (arith, most))) (within_right (range (Block n) 16 4) (range (Block n) 24 16))

  -- nothing is written yet
  counting_none : IsCounting n a e from from
  counting_none = record { same = outside-refl (counters_of n) from; allocations = inl refl; empty = λ i few. inl refl }

  -- the number is written
  module _ (mid : Image) (first : AreBytesWritten (Block n) 16 number 4 from mid) where
    number_is : allocations_of (byte mid (Block n)) ≡ a
    number_is = word_there (byte mid (Block n)) 16 a small (λ i few. first.there i few ∙ ap (λ (l : List ℕ). content l i) bytes_of_number)

    runs_stay : (i : ℕ) → empty_of (byte mid (Block n)) i ≡ empty_of (byte from (Block n)) i
    runs_stay i = word_beside_range (Block n) 16 4 (24 + 4 * i) from mid (inr (omega arith)) first.same

    counting_number : IsCounting n a e from mid
    counting_number = record { same = outside_wider (range (Block n) 16 4) (counters_of n) from mid at_number first.same; allocations = inr number_is; empty = λ i few. inl (runs_stay i) }

    -- the number is written, and then the runs
    module _ (bytes : List ℕ) (are : bytes ≡ four_words e) (image : Image) where
      long : length bytes ≡ 16
      long = ap length are

      run_is : (w i : ℕ) → AreBytesWritten (Block n) 24 bytes (4 * w) mid image → i < w → i < 4 → empty_of (byte image (Block n)) i ≡ slice_index e i
      run_is w i written below few =
          word_there (byte image (Block n)) (24 + 4 * i) (slice_index e i) (fits i few)
          (λ j low. ap (byte image (Block n)) {x = 24 + 4 * i + j} {y = 24 + (4 * i + j)} (omega arith) ∙ written.there (4 * i + j) (omega (arith, below, low)) ∙ ap (λ (l : List ℕ). content l (4 * i + j)) are ∙ four_bytes e i j few low)

      number_stays : (w : ℕ) → AreBytesWritten (Block n) 24 bytes (4 * w) mid image → allocations_of (byte image (Block n)) ≡ a
      number_stays w written = word_beside_range (Block n) 24 (4 * w) 16 mid image (inl (omega arith)) written.same ∙ number_is

      pub counting_runs : IsPrefixWritten (Block n) 24 bytes mid image → IsCounting n a e from image
      counting_runs part = record {
        same = outside-trans (counters_of n) from mid image counting_number.same (outside_wider (range (Block n) 24 (4 * part.words)) (counters_of n) mid image (at_runs (4 * part.words) (let most = part.most in omega (arith, most, long))) part.written.same);
        allocations = inr (number_stays part.words part.written);
        empty = λ i few.
            ⊎_elim (λ (below : i < part.words). inr (run_is part.words i part.written below few))
            (λ (past : part.words ≤ i). inl (word_beside_range (Block n) 24 (4 * part.words) (24 + 4 * i) mid image (inr (omega (arith, past))) part.written.same ∙ runs_stay i)) (cases_lt i part.words);
      }

      -- all counters are written
      pub counters_are : AreBytesWritten (Block n) 24 bytes (length bytes) mid image → HasTheseCounters (byte image (Block n)) a e
      counters_are written =
          let all : AreBytesWritten (Block n) 24 bytes (4 * 4) mid image = subst (λ (k : ℕ). AreBytesWritten (Block n) 24 bytes k mid image) long written in
          record { allocations = number_stays 4 all; empty = λ i few. run_is 4 i all few few }

  pub counting_first : (image : Image) → (image ≡ from) ⊎ AreBytesWritten (Block n) 16 number 4 from image → IsCounting n a e from image
  counting_first image (inl is) = subst (IsCounting n a e from) (sym is) counting_none
  counting_first image (inr first) = counting_number image first
