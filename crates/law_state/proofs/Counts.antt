-- What leaves what the index counts.
use Rattle.std.proofs.Common.{◌≡◌, ℕ, ◌+◌, ◌%◌, ◌<◌, inl, List, refl, arith, lit<, true, false}
use Rattle.spec_image.specs.Footprint.{Footprint, SameOutside, one_word}
use Rattle.spec_image.specs.Image.{Image, Index, byte, word}
use Rattle.spec_image.proofs.Footprints.{outside_wider, within_left}
use Rattle.spec_image.proofs.Words.{same-word_at}
use Rattle.spec_format.specs.BlockFiles.{is_among}
use Rattle.spec_format.specs.Headers.{counted_places, place_of_bucket}
use Rattle.spec_format.proofs.Counts.{same-count}
use Rattle.spec_format.specs.Sealed.{record_range}
use Rattle.spec_folder.specs.ListSteps.{touched_by_writes}
use Rattle.spec_folder.specs.ListView.{ListWrite}
use Rattle.law_folder.proofs.states.Tidying.{counter-same, touch_range}
use Rattle.law_folder.proofs.updates.IndexWords.{beside, not-among, word-still}
use Rattle.law_state.specs.Changes.{SameCounters}

-- where the words that say it are as they were, it is
pub count-still : (from image : Image) → ((p : ℕ) → p % 4 ≡ 0 → p < 272 → is_among counted_places p ≡ true → word image Index p ≡ word from Index p) → SameCounters from image
count-still from image same = same-count (byte image Index) (byte from Index)
    (same 4 refl (lit< tt) refl) (same 8 refl (lit< tt) refl) (same 12 refl (lit< tt) refl) (same 48 refl (lit< tt) refl) (same 52 refl (lit< tt) refl) (same 268 refl (lit< tt) refl)

-- where no byte before the list's words is touched
pub count-outside : (F : Footprint) (from image : Image) → SameOutside F from image → ((i : ℕ) → i < 272 → F.bytes Index i ≡ false) → SameCounters from image
count-outside F from image same clear = count-still from image (λ p even small there. same-word_at (byte image Index) (byte from Index) p (at p small) (at (p + 1) (omega arith)) (at (p + 2) (omega arith)) (at (p + 3) (omega arith))) where
  at : (i : ℕ) → i < 272 → byte image Index i ≡ byte from Index i
  at i small = same.bytes Index i (clear i small)

-- a word of the index that says nothing of it
pub count-beside : (from image : Image) (at : ℕ) → at % 4 ≡ 0 → is_among counted_places at ≡ false → SameOutside (one_word Index at) from image → SameCounters from image
count-beside from image at aligned lacks same = count-still from image (λ p even small there. word-still from image at same p (beside p at even aligned (not-among counted_places p at there lacks)))

-- the word of a bucket
pub bucket-count : (bucket : ℕ) (from image : Image) → SameOutside (one_word Index (place_of_bucket bucket)) from image → SameCounters from image
bucket-count bucket from image same = count-still from image (λ p even small there. word-still from image (place_of_bucket bucket) same p (inl (omega arith)))

-- the writes of a list, and of the record of a node
pub touch-count : (writes : List ListWrite) (node : ℕ) (from image : Image) → SameOutside (touch_range writes node) from image → SameCounters from image
touch-count writes node from image same = count-still from image (λ p even small there. counter-same writes node from image same p (omega arith))

pub list-count : (writes : List ListWrite) (from image : Image) → SameOutside (touched_by_writes writes) from image → SameCounters from image
list-count writes from image same = touch-count writes 0 from image (outside_wider (touched_by_writes writes) (touch_range writes 0) from image (within_left (touched_by_writes writes) (record_range 0)) same)
