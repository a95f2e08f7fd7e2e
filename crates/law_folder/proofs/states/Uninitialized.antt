-- A folder without entries stays one where a word changes that says nothing of entries; so a new folder is one before its magic word is written.
use Rattle.std.proofs.Common.{◌≡◌, ◌⊎◌, inl, inr, ⊎_elim, ℕ, ◌+◌, ◌*◌, ◌/◌, ◌%◌, ◌^◌, ◌<◌, ◌≤◌, Option, Some, None, refl, sym, ◌∙◌, ap, subst, arith, lit<, true, false}
use Rattle.std.specs.Prelude.{is_some, ◌==◌, ◌&&◌, nat_le, nat_lt}
use Rattle.std.specs.Int.{bit_at}
use Rattle.std.proofs.lemmas.Bool.{cases_lt, lt-ltb, le-ltb}
use Rattle.std.proofs.lemmas.Bool.Decides.{nat_tests}
use Rattle.spec_image.specs.Bytes.{word_at, word_bytes, zeros}
use Rattle.spec_image.specs.Footprint.{SameOutside, one_word}
use Rattle.spec_image.specs.Image.{File, Index, Block, External, Image, byte, length_of, has_file, word}
use Rattle.spec_image.specs.Steps.{with_word}
use Rattle.spec_image.proofs.Splices.{content-spliced_outside}
use Rattle.spec_image.proofs.Words.{length-with_words, same-word_at}
use Rattle.spec_format.specs.Address.{header_size}
use Rattle.spec_format.specs.BlockFiles.{is_among, linked_as, max_entries_in, next_file_in}
use Rattle.spec_format.specs.Headers.{counted_places, header_length, index_length, index_magic, place_of_bucket}
use Rattle.spec_format.specs.NewFolder.{HoldsNew, index_without_magic, new_index_words, words_before_magic}
use Rattle.spec_format.proofs.Counts.{same-count}
use Rattle.spec_folder.specs.View.{View, view_of}
use Rattle.law_folder.specs.BareLaws.{IsFileWithoutBlocks, IsIndexWithoutEntries, HasNoEntries, OtherWordsAddNoEntries, UninitializedFoldersHaveNoEntries}
use Rattle.law_folder.specs.IndexWrites.{shown_words, sound_words}
use Rattle.law_folder.proofs.claims.ByteChanges.{same-links}
use Rattle.law_folder.proofs.states.NewFolders.{new_folder, new-bare, new-is_new}
use Rattle.law_folder.proofs.updates.IndexWords.{beside, not-among, others-hidden, sound-unchecked, word-still}

module _ (from image : Image) (at : ℕ) (aligned : at % 4 ≡ 0) (inside : at < header_length) (unshown : is_among shown_words at ≡ false) (uncounted : is_among counted_places at ≡ false) (lacks : is_among sound_words at ≡ false) (same : SameOutside (one_word Index at) from image) (bare : HasNoEntries from) where
  counted : (p : ℕ) → p % 4 ≡ 0 → is_among counted_places p ≡ true → word image Index p ≡ word from Index p
  counted p even there = word-still from image at same p (beside p at even aligned (not-among counted_places p at there uncounted))

  views : view_of image ≡ view_of from
  views = others-hidden from image at aligned inside unshown same

  index : IsIndexWithoutEntries image
  index = record {
    head = ap (λ (v : View). v.list.head) views ∙ bare.index.head;
    tail = ap (λ (v : View). v.list.tail) views ∙ bare.index.tail;
    transaction = ap (λ (v : View). v.list.transaction) views ∙ bare.index.transaction;
    table = λ b below. word-still from image at same (place_of_bucket b) (inr (omega arith)) ∙ bare.index.table b below;
    counts = same-count (byte image Index) (byte from Index) (counted 4 refl refl) (counted 8 refl refl) (counted 12 refl refl) (counted 48 refl refl) (counted 52 refl refl) (counted 268 refl refl) ∙ bare.index.counts;
  }

  block-word : (n i : ℕ) → word_at (byte image (Block n)) i ≡ word_at (byte from (Block n)) i
  block-word n i = same-word_at (byte image (Block n)) (byte from (Block n)) i (same.bytes (Block n) i refl) (same.bytes (Block n) (i + 1) refl) (same.bytes (Block n) (i + 2) refl) (same.bytes (Block n) (i + 3) refl)

  next-same : (n : ℕ) → next_file_in image n ≡ next_file_in from n
  unfolding next_file_in
  next-same n = λ j. same.bytes (Block n) 10 refl j + 256 * same.bytes (Block n) 11 refl j

  links : (n : ℕ) → linked_as image n ≡ linked_as from n
  links = same-links from image next-same

  blank : (n : ℕ) → IsFileWithoutBlocks from n → IsFileWithoutBlocks image n
  unfolding max_entries_in
  blank n f = record {
    long_enough = subst (λ (l : ℕ). header_size ≤ l) (sym (same.lengths (Block n) refl)) f.long_enough;
    allocations = block-word n 16 ∙ f.allocations;
    max_entries = block-word n 20 ∙ f.max_entries;
    empty = λ i few. block-word n (24 + 4 * i) ∙ f.empty i few;
    updating = block-word n 56 ∙ f.updating;
    map = λ b below. ap (λ (x : ℕ). bit_at x (b % 8) == 1) (same.bytes (Block n) (80 + b / 8) refl) ∙ f.map b below;
  }

  still-bare : HasNoEntries image
  still-bare = record {
    sound = (sound-unchecked from image at aligned inside unshown lacks same).0 bare.sound;
    index = index;
    blocks = λ n linked. blank n (bare.blocks n (ap (λ (o : Option ℕ). is_some o) (sym (links n)) ∙ linked));
    only_linked = λ n below. same.files (Block n) refl ∙ bare.only_linked n below ∙ ap (λ (o : Option ℕ). is_some o) (sym (links n));
    no_externals = λ n below. same.files (External n) refl ∙ bare.no_externals n below;
  }

pub others-add_none : OtherWordsAddNoEntries
others-add_none from image at aligned inside unshown uncounted lacks same bare = still-bare from image at aligned inside unshown uncounted lacks same bare

-- the new folder without its magic word
bare_folder : ℕ → Image
bare_folder moment Index = Some (index_without_magic moment)
bare_folder moment (Block n) = new_folder moment (Block n)
bare_folder moment (External n) = None

is-bare_folder : (moment : ℕ) (image : Image) → HoldsNew 4 (index_without_magic moment) image → image ≡ bare_folder moment
unfolding bare_folder new_folder
is-bare_folder moment image new = λ i file. each file i where
  each : (file : File) → image file ≡ bare_folder moment file
  each Index = new.index
  each (Block n) = ⊎_elim
      (λ (small : n < 4). new.blocks n small ∙ rw (lt-ltb n 4 small) refl)
      (λ (large : 4 ≤ n). new.others (Block n) (inr (refl, omega arith)) ∙ rw (le-ltb n 4 large) refl)
      (cases_lt n 4)
  each (External n) = new.others (External n) (inl (omega arith))

outside-word : (i : ℕ) → (nat_le 0 i && nat_lt i 4) ≡ false → 4 ≤ i
outside-word i out = grind (arith, nat_tests, out)

-- they differ in that word alone
differs : (moment : ℕ) → SameOutside (one_word Index 0) (new_folder moment) (bare_folder moment)
unfolding bare_folder new_folder with_word
differs moment = record { bytes = bytes; lengths = lengths; files = files } where
  bytes : (file : File) (i : ℕ) → (one_word Index 0).bytes file i ≡ false → byte (bare_folder moment) file i ≡ byte (new_folder moment) file i
  bytes Index i out = sym (content-spliced_outside 0 (word_bytes index_magic) (index_without_magic moment) i (inr (outside-word i out)))
  bytes (Block n) i out = refl
  bytes (External n) i out = refl

  lengths : (file : File) → (one_word Index 0).sizes file ≡ false → length_of (bare_folder moment) file ≡ length_of (new_folder moment) file
  lengths Index out = length-with_words (words_before_magic moment) (zeros index_length) ∙ sym (length-with_words (new_index_words moment) (zeros index_length))
  lengths (Block n) out = refl
  lengths (External n) out = refl

  files : (file : File) → (one_word Index 0).sizes file ≡ false → has_file (bare_folder moment) file ≡ has_file (new_folder moment) file
  files Index out = refl
  files (Block n) out = refl
  files (External n) out = refl

pub uninitialized-bare : UninitializedFoldersHaveNoEntries
uninitialized-bare moment image new =
    subst HasNoEntries (sym (is-bare_folder moment image new))
    (others-add_none (new_folder moment) (bare_folder moment) 0 refl (lit< tt) refl refl refl (differs moment) (new-bare moment (new_folder moment) (new-is_new moment)))
