-- The moment at which a folder was made stays in it.
use Rattle.std.proofs.Common.{◌≡◌, ◌⊎◌, inl, inr, ℕ, ◌+◌, ◌*◌, ◌/◌, ◌%◌, ◌^◌, ◌<◌, ◌≤◌, Bool, true, false, List, [], ◌∷◌, length, Option, Some, refl, sym, ◌∙◌, ap, ap₂, subst, arith, lit≤}
use Rattle.std.specs.Prelude.{◌==◌, if◌then◌else◌, unwrap_or}
use Rattle.std.specs.List.{sum_by}
use Rattle.std.specs.Option.{ForSome}
use Rattle.spec_image.specs.Bytes.{content, word_at, word_bytes, zeros}
use Rattle.spec_image.specs.Image.{Image, Index, bytes_of, byte, word}
use Rattle.spec_image.specs.Steps.{TrailStep, after, with_word, with_words, word_step}
use Rattle.spec_image.specs.Told.{Told, Applies}
use Rattle.spec_image.proofs.Cuts.{after-append}
use Rattle.spec_image.proofs.Images.{bytes_of-written}
use Rattle.spec_image.proofs.Runs.{some_inj, told_whole}
use Rattle.spec_image.proofs.Splices.{length-zeros}
use Rattle.spec_image.proofs.Words.{length-with_word, length-with_words, word-beside, word-there}
use Rattle.spec_format.specs.Headers.{create_time_of, index_length, index_magic, index_version, table_length}
use Rattle.spec_format.specs.NewFolder.{IsMade, new_index_words}
use Rattle.spec_format.proofs.Counts.{its-version}
use Rattle.spec_folder.specs.Found.{charge_of, kept}
use Rattle.law_folder.proofs.states.Bare.{bare-sound}
use Rattle.law_folder.proofs.states.NewFolders.{Neighbours, new-bare, new-formed, words_beside}
use Rattle.law_recovery.specs.Mended.{IsMended}
use Rattle.law_recovery.proofs.SoundFolders.{sound-mended}
use Rattle.blk_scan.specs.declared.scan.Scan.{Scan}
use Rattle.blk_scan.specs.Scans.{IsEmptyScan}
use Rattle.blk_repair.specs.Counters.{counted_words, crash_place, index_steps, index_word_steps, index_words_steps}
use Rattle.blk_repair.specs.Repair.{NeedsOnlyWords, counting_steps}
use Rattle.blk_cache.specs.Opened.{IsJustMade}
use Rattle.blk_cache.specs.Opening.{WasMadeAt}

-- ---- a made folder

-- the two words of the moment, in bytes with the words of a new index over them
moment-there : (moment : ℕ) (bytes : List ℕ) → moment < 2 ^ 64 → 48 ≤ length bytes → create_time_of (content (with_words (new_index_words moment) bytes)) ≡ moment
moment-there moment bytes fits room =
    let low : ℕ = moment % 2 ^ 32 in
    let high : ℕ = moment / 2 ^ 32 in
    let before : List ℕ = with_words ((4, index_version) ∷ (28, table_length) ∷ []) bytes in
    let between : List ℕ = with_word 40 low before in
    let long : length before ≡ length bytes = length-with_words ((4, index_version) ∷ (28, table_length) ∷ []) bytes in
    let longer : length between ≡ length before = length-with_word 40 low before in
    let at_low : word_at (content (with_words (new_index_words moment) bytes)) 40 ≡ low = words_beside 40 ((44, high) ∷ (0, index_magic) ∷ []) between (inl (lit≤ tt), (inr (lit≤ tt), tt)) ∙ word-there 40 low before (omega arith) (omega (arith, long, room)) in
    let at_high : word_at (content (with_words (new_index_words moment) bytes)) 44 ≡ high = words_beside 44 ((0, index_magic) ∷ []) (with_word 44 high between) (inr (lit≤ tt), tt) ∙ word-there 44 high between (omega (arith, fits)) (omega (arith, longer, long, room)) in
    let whole : low + 4294967296 * high ≡ moment = omega arith in
    ap₂ (λ (a b : ℕ). a + 4294967296 * b) at_low at_high ∙ whole

pub made-moment : (moment : ℕ) (image : Image) → moment < 2 ^ 64 → IsMade moment image → WasMadeAt moment image
made-moment moment image fits made =
    ap (λ (o : Option (List ℕ)). create_time_of (content (unwrap_or o []))) made.index ∙ moment-there moment (zeros index_length) fits (let long = length-zeros index_length in omega (arith, long))

-- recovery writes nothing of it but words of the index
pub made-needs : (scan : Scan) (image : Image) → IsJustMade image → IsEmptyScan scan → NeedsOnlyWords scan image
made-needs scan image made empty =
    let bare = new-bare made.0 image made.1 in
    let now : IsMended image = sound-mended image (bare-sound image bare (new-formed made.0 image made.1)) (its-version (byte image Index) 0 0 bare.index.counts) in
    record { links = now.links; files = now.files; only = now.only; bare = empty.bare }

-- ---- while words of the index are written

-- a word of the index beside one that is written
pub step-beside : (image : Image) (at x other : ℕ) → (other + 4 ≤ at) ⊎ (at + 4 ≤ other) → word (after (word_step Index at x) image) Index other ≡ word image Index other
unfolding word_step with_word
step-beside image at x other apart = ap (λ (bytes : List ℕ). word_at (content bytes) other) (bytes_of-written image Index at (word_bytes x)) ∙ word-beside other at x (bytes_of image Index) apart

choice-beside : (image : Image) (at x other : ℕ) → (other + 4 ≤ at) ⊎ (at + 4 ≤ other) → (b : Bool) → word (after (if b then [] else word_step Index at x) image) Index other ≡ word image Index other
choice-beside image at x other apart true = refl
choice-beside image at x other apart false = step-beside image at x other apart

words-beside : (words : List (ℕ × ℕ)) (image : Image) (other : ℕ) → Neighbours other words → word (after (index_words_steps words image) image) Index other ≡ word image Index other
words-beside [] image other apart = refl
words-beside (w ∷ words) image other apart =
    let first : List TrailStep = index_word_steps w.0 w.1 image in
    ap (λ (i : Image). word i Index other) (after-append first (index_words_steps words (after first image)) image)
    ∙ words-beside words (after first image) other apart.1
    ∙ choice-beside image w.0 w.1 other apart.0 (word image Index w.0 == w.1)

index-beside : (items bytes id : ℕ) (image : Image) (other : ℕ) → Neighbours other (counted_words items bytes id) → (other + 4 ≤ crash_place) ⊎ (crash_place + 4 ≤ other) → word (after (index_steps items bytes id image) image) Index other ≡ word image Index other
index-beside items bytes id image other apart crash =
    let first : List TrailStep = index_words_steps (counted_words items bytes id) image in
    ap (λ (i : Image). word i Index other) (after-append first (word_step Index crash_place 1) image) ∙ step-beside (after first image) crash_place 1 other crash ∙ words-beside (counted_words items bytes id) image other apart

-- two words as before are a moment as before
two-words : (from image : Image) → word image Index 40 ≡ word from Index 40 → word image Index 44 ≡ word from Index 44 → WasMadeAt (create_time_of (byte from Index)) image
two-words from image low high = ap₂ (λ (a b : ℕ). a + 4294967296 * b) low high

counting-keeps : (items bytes id : ℕ) (image : Image) → WasMadeAt (create_time_of (byte image Index)) (after (index_steps items bytes id image) image)
counting-keeps items bytes id image =
    two-words image (after (index_steps items bytes id image) image)
    (index-beside items bytes id image 40 (inl (lit≤ tt), (inr (lit≤ tt), (inl (lit≤ tt), (inl (lit≤ tt), (inr (lit≤ tt), (inr (lit≤ tt), (inr (lit≤ tt), tt))))))) (inr (lit≤ tt)))
    (index-beside items bytes id image 44 (inl (lit≤ tt), (inr (lit≤ tt), (inl (lit≤ tt), (inl (lit≤ tt), (inr (lit≤ tt), (inr (lit≤ tt), (inr (lit≤ tt), tt))))))) (inr (lit≤ tt)))

crash-keeps : (value : ℕ) (image : Image) → WasMadeAt (create_time_of (byte image Index)) (after (word_step Index crash_place value) image)
crash-keeps value image = two-words image (after (word_step Index crash_place value) image) (step-beside image crash_place value 40 (inr (lit≤ tt))) (step-beside image crash_place value 44 (inr (lit≤ tt)))

-- what steps keep of the observed files, these have in the end
kept-after : {a b : Told} (steps : List TrailStep) (from : Image) → a.files ≡ Some from → Applies a b steps → WasMadeAt (create_time_of (byte from Index)) (after steps from) → ForSome b.files (WasMadeAt (create_time_of (byte from Index)))
kept-after {a} {b} steps from there made kept =
    let P : Image → Type 0 = WasMadeAt (create_time_of (byte from Index)) in told_whole P made (λ image is. subst (λ (i : Image). P (after steps i)) (some_inj (sym there ∙ is)) kept)

-- the counters, the number of the session and the crash word are beside the moment
pub counted-moment : {a b : Told} (entry : Image) (id : ℕ) (from : Image) → a.files ≡ Some from → Applies a b (counting_steps entry id from) → ForSome b.files (WasMadeAt (create_time_of (byte from Index)))
counted-moment entry id from there made = kept-after (counting_steps entry id from) from there made (counting-keeps (length (kept entry)) (sum_by charge_of (kept entry)) id from)

pub crash-moment : {a b : Told} (value : ℕ) → Applies a b (word_step Index crash_place value) → ForSome a.files (λ from. ForSome b.files (WasMadeAt (create_time_of (byte from Index))))
crash-moment value made from there = kept-after (word_step Index crash_place value) from there made (crash-keeps value from)
