-- The words of the buckets, as they were read, while other buckets are repaired.
use Rattle.std.proofs.Common.{◌≡◌, ℕ, ◌+◌, ◌%◌, ◌<◌, ◌≤◌, Bool, true, false, List, [], ◌∷◌, length, Option, None, refl, sym, ◌∙◌, ap, subst, arith}
use Rattle.std.specs.Prelude.{◌==◌, if◌then◌else◌, slice_index}
use Rattle.std.specs.Option.{ForSome, unwrap_or}
use Rattle.spec_image.specs.Bytes.{content, word_bytes}
use Rattle.spec_image.specs.Image.{Image, Index, Block, byte}
use Rattle.spec_image.specs.Steps.{TrailStep, Word, after, applied, word_step, word_steps}
use Rattle.spec_image.specs.Told.{Told, Along, Applies, AppliesPrefix}
use Rattle.spec_image.proofs.Cuts.{after-append}
use Rattle.spec_image.proofs.Images.{word-after_other}
use Rattle.spec_image.proofs.Runs.{some_inj, told_rel, told_whole}
use Rattle.spec_format.specs.Address.{file_selector, place}
use Rattle.spec_format.specs.Headers.{bucket_of, place_of_bucket}
use Rattle.spec_format.specs.Records.{entry_next_place}
use Rattle.spec_format.specs.Sealed.{new_seal, placed, seal_place, sealed_steps, update_steps, update_words}
use Rattle.spec_folder.specs.ListView.{first_or}
use Rattle.spec_folder.specs.View.{store_of}
use Rattle.blk_io.proofs.Carried.{told_at_end}
use Rattle.blk_index.specs.Table.{AreBuckets}
use Rattle.law_recovery.specs.ChainRepair.{next_steps, next_words_steps}
use Rattle.blk_repair.specs.Chains.{AreBucketWords, IsBucketWord, KeepsOtherBuckets}

-- ---- a chain that is repaired leaves the words of the other buckets

blocks-elsewhere : (n : ℕ) (words : List (ℕ × ℕ)) (image : Image) → (after (word_steps (Block n) words) image) Index ≡ image Index
unfolding word_step
blocks-elsewhere n [] image = refl
blocks-elsewhere n (w ∷ words) image = blocks-elsewhere n words (applied (Word (Block n) w.0 (word_bytes w.1)) image)

sealed-elsewhere : (image : Image) (w : ℕ) (changes : List (ℕ × ℕ)) → (after (sealed_steps image w changes) image) Index ≡ image Index
unfolding update_steps
sealed-elsewhere image w changes = blocks-elsewhere (file_selector w) (placed (place w) (update_words (seal_place w) changes (new_seal image w changes))) image

next-elsewhere : (image : Image) (w x : ℕ) (b : Bool) → (after (if b then [] else sealed_steps image w ((entry_next_place, x) ∷ [])) image) Index ≡ image Index
next-elsewhere image w x true = refl
next-elsewhere image w x false = sealed-elsewhere image w ((entry_next_place, x) ∷ [])

links-elsewhere : (words : List ℕ) (image : Image) → (after (next_words_steps words image) image) Index ≡ image Index
links-elsewhere [] image = refl
links-elsewhere (w ∷ words) image =
    let first : List TrailStep = next_steps w (first_or 0 words) image in
    ap (λ (i : Image). i Index) (after-append first (next_words_steps words (after first image)) image) ∙ links-elsewhere words (after first image) ∙ next-elsewhere image w (first_or 0 words) ((store_of image).chain_next w == first_or 0 words)

front-elsewhere : (bucket w : ℕ) (image : Image) → Along (KeepsOtherBuckets bucket image) image (word_step Index (place_of_bucket bucket) w)
unfolding word_step
front-elsewhere bucket w image = ((λ other apart. refl), (λ other apart. word-after_other image Index (place_of_bucket bucket) (word_bytes w) (place_of_bucket other) (omega arith) (omega arith) (λ e. apart (omega (arith, e)))))

-- the word of a bucket was written, or wasn't
pub others-front : {a b : Told} (bucket w : ℕ) → AppliesPrefix a b (word_step Index (place_of_bucket bucket) w) → ForSome a.files (λ from. ForSome b.files (KeepsOtherBuckets bucket from))
others-front {a} {b} bucket w part = told_rel (KeepsOtherBuckets bucket) part (front-elsewhere bucket w)

-- the word of a bucket was written, or wasn't, and then records were linked
pub others-kept : (a m b : Told) (bucket : ℕ) (words : List ℕ) → ForSome a.files (λ from. ForSome m.files (KeepsOtherBuckets bucket from)) → ForSome m.files (λ mid. Applies m b (next_words_steps words mid)) → (m.files ≡ None → b.files ≡ None)
    → ForSome a.files (λ from. ForSome b.files (KeepsOtherBuckets bucket from))
others-kept a m b bucket words front links silent from there =
    told_at_end m.files b.files (KeepsOtherBuckets bucket from) silent
    (λ mid between.
    told_whole (KeepsOtherBuckets bucket from) (links mid between)
    (λ i is other apart.
    ap (λ (o : Option (List ℕ)). bucket_of (content (unwrap_or o [])) other) (ap (λ (x : Image). (after (next_words_steps words mid) x) Index) (some_inj (sym is ∙ between)) ∙ links-elsewhere words mid) ∙ front from there mid between other apart))

-- ---- the words that were read

pub fronts-read : (words : List ℕ) (first bucket last : ℕ) (image : Image) → AreBuckets image first words → length words ≡ 16384 → first % 16384 ≡ 0 → first ≤ bucket → last ≡ first + 16384 → AreBucketWords words bucket last image
fronts-read words first bucket last image are long aligned low_first is = λ other low high.
    let at : first + other % 16384 ≡ other = omega (arith, low, high, aligned, low_first, is) in
    let small : other % 16384 < length words = omega (arith, long) in
    are (other % 16384) small ∙ ap (bucket_of (byte image Index)) at

-- once a bucket is repaired, those after it are read still
pub fronts-on : (a b : Told) (words : List ℕ) (bucket last : ℕ) → ForSome a.files (AreBucketWords words bucket last) → ForSome a.files (λ from. ForSome b.files (KeepsOtherBuckets bucket from)) → (a.files ≡ None → b.files ≡ None) → ForSome b.files (AreBucketWords words (bucket + 1) last)
fronts-on a b words bucket last fronts others silent =
    told_at_end a.files b.files (AreBucketWords words (bucket + 1) last) silent
    (λ from there image here other low high. fronts from there other (omega (arith, low)) high ∙ sym (others from there image here other (λ e. absurd (omega (arith, low, e)))))

-- what a read adds to the words that were read before
pub fronts-after : {a b : Told} (old words : List ℕ) (bucket before last : ℕ) → b ≡ a → ForSome a.files (AreBucketWords old bucket before) → ForSome a.files (λ from. AreBucketWords old bucket before from → AreBucketWords words bucket last from) → ForSome b.files (AreBucketWords words bucket last)
fronts-after {a} {b} old words bucket before last same were are = subst (λ (t : Told). ForSome t.files (AreBucketWords words bucket last)) (sym same) (λ from there. are from there (were from there))

-- a bucket whose word was read has it at its place in the piece
pub front-there : {files : Option Image} (words : List ℕ) (bucket last front : ℕ) (whole : Bool) → (whole ≡ false → bucket < last) → front ≡ slice_index words (bucket % 16384) → ForSome files (AreBucketWords words bucket last) → ForSome files (λ image. whole ≡ false → IsBucketWord front bucket image)
front-there words bucket last front whole reached is fronts image there apart = is ∙ fronts image there bucket (omega arith) (reached apart)
