-- A new file, and the link to it.
use Rattle.std.proofs.Common.{◌≡◌, ℕ, ◌%◌, ◌/◌, ◌<◌, Bool, true, false, ◌&&◌, ◌||◌, nat_le, List, [], ◌∷◌, length, Option, None, Some, unwrap_or, refl, ◌∙◌, ap, arith, inl, inr}
use Rattle.std.specs.Prelude.{◌==◌}
use Rattle.std.proofs.lemmas.Bool.Decides.{nat_tests}
use Rattle.spec_image.specs.Bytes.{content, resized, word_at, zeros}
use Rattle.spec_image.specs.Checks.{first_of}
use Rattle.spec_image.specs.Footprint.{SameOutside, IsWithin, touched_by_all, whole}
use Rattle.spec_image.specs.Image.{File, Block, Image, bytes_of, same_file, with_file}
use Rattle.spec_image.specs.Steps.{Word, SetLength, applied, after, words, before_words, word_step, word_steps, with_word, with_words}
use Rattle.spec_image.specs.Told.{Along, IsQuiet}
use Rattle.spec_image.proofs.Cuts.{after-word_steps}
use Rattle.spec_image.proofs.Footprints.{outside-refl, outside_steps}
use Rattle.spec_image.proofs.Images.{with_file-same, with_file-twice}
use Rattle.spec_image.proofs.Splices.{length-zeros, resized-empty, resized-zero}
use Rattle.spec_image.proofs.WordSteps.{quiet-word_steps}
use Rattle.spec_image.proofs.Words.{length-with_word, length-with_words, word-beside, word-there, word-zeros}
use Rattle.spec_format.specs.Address.{block_size}
use Rattle.spec_format.specs.Headers.{block_magic, block_version, magic_of, version_of, this_file_of, next_file_of, entry_size_of, max_entries_of}
use Rattle.spec_format.specs.BlockFiles.{file_checks, is_block_count}
use Rattle.blk_disk.specs.Growth.{header_words, link_steps, file_steps}
use Rattle.blk_disk.proofs.Ranges.{size_small}
use Rattle.spec_format.proofs.Keeping.{checks_none, link_zero}

-- two bytes at the upper half of a word are one step
words-half : (f : File) (a b : ℕ) → words f 10 (a ∷ b ∷ []) ≡ Word f 10 (a ∷ b ∷ []) ∷ []
unfolding words before_words
words-half f a b = refl

pub link_is : (last n from : ℕ) (bytes : List ℕ) → from ≡ n → bytes ≡ from % 256 ∷ from / 256 % 256 ∷ [] → words (Block last) 10 bytes ≡ link_steps last n
link_is last n from bytes is are =
    ap (words (Block last) 10) are ∙ words-half (Block last) (from % 256) (from / 256 % 256) ∙ ap (link_steps last) is

-- the bytes of a new file
abbrev pub new_header : ℕ → ℕ → List ℕ
new_header kind n = with_words (header_words kind n) (zeros 8192)

-- the fields of a new header
pub record IsNew (kind n : ℕ) (f : ℕ → ℕ) : Type 0 where
  pub magic : magic_of f ≡ block_magic
  pub is_version : version_of f ≡ block_version
  pub numbers : word_at f 8 ≡ n
  pub entry_size : entry_size_of f ≡ block_size kind
  pub blocks : max_entries_of f ≡ 0

module _ (kind n : ℕ) (below : n < 256) where
  one : List ℕ
  one = with_word 0 block_magic (zeros 8192)

  two : List ℕ
  two = with_word 4 block_version one

  three : List ℕ
  three = with_word 8 n two

  one_size : length one ≡ 8192
  unfolding one
  one_size = length-with_word 0 block_magic (zeros 8192) ∙ length-zeros 8192

  two_size : length two ≡ 8192
  unfolding two
  two_size = length-with_word 4 block_version one ∙ one_size

  three_size : length three ≡ 8192
  unfolding three
  three_size = length-with_word 8 n two ∙ two_size

  pub header_new : IsNew kind n (content (new_header kind n))
  unfolding one two three
  header_new = record {
    magic = word-beside 0 12 (block_size kind) three (inl (omega arith)) ∙ word-beside 0 8 n two (inl (omega arith)) ∙ word-beside 0 4 block_version one (inl (omega arith)) ∙ word-there 0 block_magic (zeros 8192) (omega arith) (omega (arith, length-zeros 8192));
    is_version = word-beside 4 12 (block_size kind) three (inl (omega arith)) ∙ word-beside 4 8 n two (inl (omega arith)) ∙ word-there 4 block_version one (omega arith) (omega (arith, one_size));
    numbers = word-beside 8 12 (block_size kind) three (inl (omega arith)) ∙ word-there 8 n two (omega arith) (omega (arith, two_size));
    entry_size = word-there 12 (block_size kind) three (let small = size_small kind in omega (arith, small)) (omega (arith, three_size));
    blocks =
        word-beside 20 12 (block_size kind) three (inr (omega arith)) ∙ word-beside 20 8 n two (inr (omega arith)) ∙ word-beside 20 4 block_version one (inr (omega arith))
        ∙ word-beside 20 0 block_magic (zeros 8192) (inr (omega arith)) ∙ word-zeros 8192 20;
  }

  pub header_size_is : length (new_header kind n) ≡ 8192
  header_size_is = length-with_words (header_words kind n) (zeros 8192) ∙ length-zeros 8192

-- the two numbers of a new header
pub next_is : (kind n : ℕ) (f : ℕ → ℕ) → n < 256 → IsNew kind n f → next_file_of f ≡ 0
next_is kind n f below new = let numbers = new.numbers in omega (arith, numbers)

pub this_is : (kind n : ℕ) (f : ℕ → ℕ) → n < 256 → IsNew kind n f → this_file_of f ≡ n
this_is kind n f below new = let numbers = new.numbers in omega (arith, numbers)

-- the checks of a new header hold, whatever was met
pub new_passes : (kind n : ℕ) (f : ℕ → ℕ) (size : ℕ) → n < 256 → size ≡ 8192 → IsNew kind n f → (met : List ℕ) (left : ℕ) → first_of (file_checks kind met left n f size) ≡ None
unfolding is_block_count
new_passes kind n f size below is new met left =
    checks_none kind met left n f size
    (record {
      whole = ap (nat_le 8192) is;
      magic = ap (λ (w : ℕ). w == block_magic) new.magic;
      is_version = ap (λ (w : ℕ). w == block_version) new.is_version;
      this_file = ap (λ (w : ℕ). w == n) (this_is kind n f below new) ∙ (let e : (n == n) ≡ true = grind (arith, nat_tests) in e);
      link = link_zero met left (next_file_of f) (ap (λ (w : ℕ). w == 0) (next_is kind n f below new));
      entry_size = ap (λ (w : ℕ). w == block_size kind) new.entry_size ∙ (let e : (block_size kind == block_size kind) ≡ true = grind (arith, nat_tests) in e);
      count = ap is_block_count new.blocks;
    })

-- a file that is cut to nothing and then lengthened
blank_file : (f : File) (n : ℕ) (image : Image) → applied (SetLength f n) (applied (SetLength f 0) image) ≡ with_file image f (Some (zeros n))
blank_file f n image =
    with_file-twice image f _ _
    ∙ ap (λ (o : Option (List ℕ)). with_file image f (Some (resized n (unwrap_or o [])))) (with_file-same image f _)
    ∙ ap (λ (l : List ℕ). with_file image f (Some (resized n l))) (resized-zero (bytes_of image f))
    ∙ ap (λ (l : List ℕ). with_file image f (Some l)) (resized-empty n)

-- the file is made
pub made_is : (kind n : ℕ) (image : Image) → after (file_steps kind n) image ≡ with_file image (Block n) (Some (new_header kind n))
made_is kind n image =
    ap (after (word_steps (Block n) (header_words kind n))) (blank_file (Block n) 8192 image)
    ∙ after-word_steps (Block n) (header_words kind n) (with_file image (Block n) (Some (zeros 8192))) (zeros 8192) (with_file-same image (Block n) _)
    ∙ with_file-twice image (Block n) _ _

within_one : (s p q r t : Bool) → (s || (s || ((s && p) || ((s && q) || ((s && r) || ((s && t) || false)))))) ≡ true → s ≡ true
within_one true p q r t e = refl
within_one false p q r t e = e

within_size : (s : Bool) → (s || (s || (false || (false || (false || (false || false)))))) ≡ true → s ≡ true
within_size true e = refl
within_size false e = e

make_within : (kind n : ℕ) → IsWithin (touched_by_all (file_steps kind n)) (whole (Block n))
unfolding word_step
make_within kind n = record { bytes = λ file i e. within_one (same_file (Block n) file) _ _ _ _ e; sizes = λ file e. within_size (same_file (Block n) file) e }

-- nothing but the new file is touched while it is made
pub making_outside : (kind n : ℕ) (image : Image) → Along (SameOutside (whole (Block n)) image) image (file_steps kind n)
making_outside kind n image = outside_steps (whole (Block n)) (file_steps kind n) image image (make_within kind n) (outside-refl (whole (Block n)) image)

pub making_quiet : (kind n : ℕ) → IsQuiet (file_steps kind n)
making_quiet kind n = quiet-word_steps (Block n) (header_words kind n) tt
