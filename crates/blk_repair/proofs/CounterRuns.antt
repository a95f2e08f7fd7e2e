-- How the words of the index are repaired one after the other, and what is held on the way.
use Rattle.std.proofs.Common.{◌≡◌, ◌≢◌, ◌⊎◌, inl, inr, ℕ, ◌+◌, ◌*◌, ◌/◌, ◌<◌, ◌≤◌, ◌%◌, ◌^◌, Bool, true, false, List, [], ◌∷◌, ◌++◌, length, drop, get_or, refl, sym, ◌∙◌, ap, subst, arith, lit<}
use Rattle.std.specs.Prelude.{All, not, ◌&&◌, ◌==◌, if◌then◌else◌}
use Rattle.std.specs.Option.{ForSome}
use Rattle.std.proofs.lemmas.Bool.{and_parts, eq-eqb, eqb-true}
use Rattle.std.proofs.lemmas.List.{append-nil, drop_more, drop_all}
use Rattle.std.proofs.lemmas.List.Elements.{All-cons, All-head, All-nil, All-tail}
use Rattle.spec_image.specs.Bytes.{content, range_at, word_at, word_bytes}
use Rattle.spec_image.specs.Image.{Image, Index, byte, length_of, word}
use Rattle.spec_image.specs.Steps.{TrailStep, Word, after, applied, word_step}
use Rattle.spec_image.specs.Told.{Told, Along, Applies, AppliesPrefix, HasNoNote, PassesAny}
use Rattle.spec_image.specs.Footprint.{SameOutside, one_word}
use Rattle.spec_image.proofs.Cuts.{after-append}
use Rattle.spec_image.proofs.Footprints.{outside_write}
use Rattle.spec_image.proofs.Images.{length-after_write, word-after_other, word-after_same}
use Rattle.spec_image.proofs.Words.{content-range, same-word_at}
use Rattle.spec_image.proofs.Quiet.{any_part, noteless-append, noteless-word_step}
use Rattle.spec_image.proofs.Runs.{some_inj, told_whole, until-append, until_last, until_weaker2}
use Rattle.spec_format.specs.BlockFiles.{is_among}
use Rattle.spec_format.specs.Headers.{HasWholeIndex, counting, header_length, index_version, version_place}
use Rattle.spec_format.proofs.Counts.{count-is}
use Rattle.spec_format.specs.Sealed.{AreDifferent}
use Rattle.std.specs.List.{sum_by}
use Rattle.spec_folder.specs.Found.{charge_of, kept}
use Rattle.law_folder.specs.IndexWrites.{checked_words, shown_words}
use Rattle.law_folder.proofs.updates.NodeRecords.{are_bytes-word}
use Rattle.blk_disk.specs.declared.tables.BlockFiles.{BlockFiles}
use Rattle.blk_disk.specs.Open.{IsOpen}
use Rattle.law_recovery.specs.Mended.{AreKeptSealed, HasMendedFiles, HasOnlyKeptFiles}
use Rattle.law_recovery.specs.MendedLinks.{HasMendedLinks}
use Rattle.law_recovery.specs.MendedChanges.{KeepsMendedLinks}
use Rattle.law_recovery.proofs.MendedChanges.{hidden-change, links-on, version-change}
use Rattle.law_recovery.proofs.MendedParts.{files-mended, words-leave}
use Rattle.law_recovery.proofs.RecordSeals.{words-behind}
use Rattle.blk_repair.specs.Counters.{HasIndexWords, IsIndexMended, IsNextCounted, counted_words, crash_place, found_word_steps, index_steps, index_word_steps, index_words_steps}
use Rattle.blk_repair.specs.Seals.{HasMendedLinksOf}
use Rattle.blk_repair.proofs.Choices.{choice-open, index_word-open}
use Rattle.blk_repair.proofs.Progress.{Leads}

-- ---- the words

-- a place of a word in the header
abbrev pub IsPlace : ℕ → Type 0
IsPlace at = (at % 4 ≡ 0) × (at < header_length)

abbrev pub ArePlaces : List (ℕ × ℕ) → Type 0
ArePlaces words = All (λ (w : ℕ × ℕ). IsPlace w.0) words

-- a word of the header is neither shown nor checked
record IsHiddenWord (at : ℕ) : Type 0 where
  aligned : at % 4 ≡ 0
  inside : at < header_length
  unshown : is_among shown_words at ≡ false
  unchecked : is_among checked_words at ≡ false

-- a word of the header may become this one: it is hidden, or it is the version, and becomes the one that is made now
abbrev MayBecome : ℕ × ℕ → Type 0
MayBecome w = IsHiddenWord w.0 ⊎ ((w.0 ≡ version_place) × (w.1 ≡ index_version))

-- what a choice between a word and none keeps
choice-along : (P : Image → Type 0) (image : Image) (b : Bool) (steps : List TrailStep) → P image → Along P image steps → Along P image (if b then [] else steps)
choice-along P image true steps is all = is
choice-along P image false steps is all = all

choice-quiet : (b : Bool) (at x : ℕ) → HasNoNote (if b then [] else word_step Index at x)
choice-quiet true at x = tt
choice-quiet false at x = noteless-word_step Index at x

pub words-quiet : (words : List (ℕ × ℕ)) (image : Image) → HasNoNote (index_words_steps words image)
words-quiet [] image = tt
words-quiet (w ∷ words) image =
    let first : List TrailStep = index_word_steps w.0 w.1 image in
    noteless-append first (index_words_steps words (after first image)) (choice-quiet (word image Index w.0 == w.1) w.0 w.1) (words-quiet words (after first image))

-- ---- the length

whole-word : (image : Image) (at x : ℕ) → HasWholeIndex image → Along HasWholeIndex image (word_step Index at x)
unfolding word_step
whole-word image at x is = (is, length-after_write image Index Index at (word_bytes x) ∙ is)

pub whole-one : (at x : ℕ) (image : Image) → HasWholeIndex image → Along HasWholeIndex image (index_word_steps at x image)
whole-one at x image is = choice-along HasWholeIndex image (word image Index at == x) (word_step Index at x) is (whole-word image at x is)

pub whole-words : (words : List (ℕ × ℕ)) (image : Image) → HasWholeIndex image → Along HasWholeIndex image (index_words_steps words image)
whole-words [] image is = is
whole-words (w ∷ words) image is =
    let first : List TrailStep = index_word_steps w.0 w.1 image in
    let all : Along HasWholeIndex image first = whole-one w.0 w.1 image is in
    until-append HasWholeIndex HasWholeIndex first (index_words_steps words (after first image)) image all (whole-words words (after first image) (until_last HasWholeIndex HasWholeIndex first image all))

pub whole-index : (items bytes id : ℕ) (image : Image) → HasWholeIndex image → Along HasWholeIndex image (index_steps items bytes id image)
whole-index items bytes id image is =
    let words : List (ℕ × ℕ) = counted_words items bytes id in
    let first : List TrailStep = index_words_steps words image in
    let all : Along HasWholeIndex image first = whole-words words image is in
    until-append HasWholeIndex HasWholeIndex first (word_step Index crash_place 1) image all (whole-word (after first image) crash_place 1 (until_last HasWholeIndex HasWholeIndex first image all))

-- ---- the folder stays open

words-open : (files : BlockFiles) (words : List (ℕ × ℕ)) (image : Image) → IsOpen files image → Along (IsOpen files) image (index_words_steps words image)
words-open files [] image is = is
words-open files (w ∷ words) image is =
    let first : List TrailStep = index_word_steps w.0 w.1 image in
    let all : Along (IsOpen files) image first = choice-open files image (word image Index w.0 == w.1) (word_step Index w.0 w.1) is (index_word-open files w.0 w.1 image is) in
    until-append (IsOpen files) (IsOpen files) first (index_words_steps words (after first image)) image all (words-open files words (after first image) (until_last (IsOpen files) (IsOpen files) first image all))

pub index-open : (files : BlockFiles) (items bytes id : ℕ) (image : Image) → IsOpen files image → Along (IsOpen files) image (index_steps items bytes id image)
index-open files items bytes id image is =
    let words : List (ℕ × ℕ) = counted_words items bytes id in
    let first : List TrailStep = index_words_steps words image in
    let all : Along (IsOpen files) image first = words-open files words image is in
    until-append (IsOpen files) (IsOpen files) first (word_step Index crash_place 1) image all (index_word-open files crash_place 1 (after first image) (until_last (IsOpen files) (IsOpen files) first image all))

-- ---- the values

-- a word that is written is there
written-there : (image : Image) (at x : ℕ) → IsPlace at → x < 2 ^ 32 → HasWholeIndex image → word (after (word_step Index at x) image) Index at ≡ x
unfolding word_step
written-there image at x place small whole = word-after_same image Index at x small (let a = place.0 in let inside = place.1 in omega (arith, a, inside, whole))

-- a word other than the one that is written is as before
written-other : (image : Image) (at x other : ℕ) → at % 4 ≡ 0 → other % 4 ≡ 0 → at ≢ other → word (after (word_step Index at x) image) Index other ≡ word image Index other
unfolding word_step
written-other image at x other a b apart = word-after_other image Index at (word_bytes x) other (omega (arith, a)) b (λ e. apart (omega (arith, a, b, e)))

choice-there : (image : Image) (at x : ℕ) → IsPlace at → x < 2 ^ 32 → HasWholeIndex image → (b : Bool) → (word image Index at == x) ≡ b → word (after (if b then [] else word_step Index at x) image) Index at ≡ x
choice-there image at x place small whole true is = eqb-true (word image Index at) x is
choice-there image at x place small whole false is = written-there image at x place small whole

choice-other : (image : Image) (at x other : ℕ) → at % 4 ≡ 0 → other % 4 ≡ 0 → at ≢ other → (b : Bool) → word (after (if b then [] else word_step Index at x) image) Index other ≡ word image Index other
choice-other image at x other a b apart true = refl
choice-other image at x other a b apart false = written-other image at x other a b apart

others-stay : (words : List (ℕ × ℕ)) (image : Image) (other : ℕ) → ArePlaces words → other % 4 ≡ 0 → All (λ (w : ℕ × ℕ). w.0 ≢ other) words → word (after (index_words_steps words image) image) Index other ≡ word image Index other
others-stay [] image other places aligned apart = refl
others-stay (w ∷ words) image other places aligned apart =
    let first : List TrailStep = index_word_steps w.0 w.1 image in
    let P : ℕ × ℕ → Type 0 = (λ (w : ℕ × ℕ). IsPlace w.0) in
    let O : ℕ × ℕ → Type 0 = (λ (w : ℕ × ℕ). w.0 ≢ other) in
    ap (λ (i : Image). word i Index other) (after-append first (index_words_steps words (after first image)) image)
    ∙ others-stay words (after first image) other (All-tail P w words places) aligned (All-tail O w words apart)
    ∙ choice-other image w.0 w.1 other (All-head P w words places).0 aligned (All-head O w words apart) (word image Index w.0 == w.1)

-- after the steps each word has its value
pub words-there : (words : List (ℕ × ℕ)) (image : Image) → ArePlaces words → AreDifferent words → All (λ (w : ℕ × ℕ). w.1 < 2 ^ 32) words → HasWholeIndex image
    → All (λ (w : ℕ × ℕ). word (after (index_words_steps words image) image) Index w.0 ≡ w.1) words
words-there [] image places different small whole = All-nil (λ (w : ℕ × ℕ). word image Index w.0 ≡ w.1)
words-there (w ∷ words) image places different small whole =
    let first : List TrailStep = index_word_steps w.0 w.1 image in
    let between : Image = after first image in
    let P : ℕ × ℕ → Type 0 = (λ (w : ℕ × ℕ). IsPlace w.0) in
    let S : ℕ × ℕ → Type 0 = (λ (w : ℕ × ℕ). w.1 < 2 ^ 32) in
    let last : Image = after (index_words_steps words between) between in
    let T : Image → ℕ × ℕ → Type 0 = (λ (i : Image) (w : ℕ × ℕ). word i Index w.0 ≡ w.1) in
    subst (λ (i : Image). All (T i) (w ∷ words)) (sym (after-append first (index_words_steps words between) image))
    (All-cons (T last) w words
    (others-stay words between w.0 (All-tail P w words places) (All-head P w words places).0 different.0 ∙ choice-there image w.0 w.1 (All-head P w words places) (All-head S w words small) whole (word image Index w.0 == w.1) refl)
    (words-there words between (All-tail P w words places) different.1 (All-tail S w words small) (until_last HasWholeIndex HasWholeIndex first image (whole-one w.0 w.1 image whole))))

-- seven of something
pub all-seven : (P : ℕ × ℕ → Type 0) (a b c d e f g : ℕ × ℕ) → P a → P b → P c → P d → P e → P f → P g → All P (a ∷ b ∷ c ∷ d ∷ e ∷ f ∷ g ∷ [])
all-seven P a b c d e f g pa pb pc pd pe pf pg =
    All-cons P a (b ∷ c ∷ d ∷ e ∷ f ∷ g ∷ []) pa (All-cons P b (c ∷ d ∷ e ∷ f ∷ g ∷ []) pb (All-cons P c (d ∷ e ∷ f ∷ g ∷ []) pc (All-cons P d (e ∷ f ∷ g ∷ []) pd (All-cons P e (f ∷ g ∷ []) pe (All-cons P f (g ∷ []) pf (All-cons P g [] pg (All-nil P)))))))

-- whether no word of some has this place, and whether all have places of their own
abbrev none_at : ℕ → List (ℕ × ℕ) → Bool
none_at at [] = true
none_at at (w ∷ words) = not (w.0 == at) && none_at at words

abbrev all_apart : List (ℕ × ℕ) → Bool
all_apart [] = true
all_apart (w ∷ words) = none_at w.0 words && all_apart words

unlike : (p q : ℕ) → not (p == q) ≡ true → p ≢ q
unlike p q e is = let c : true ≡ false = sym e ∙ ap not (eq-eqb p q is) in cc

none-at : (at : ℕ) (words : List (ℕ × ℕ)) → none_at at words ≡ true → All (λ (w : ℕ × ℕ). w.0 ≢ at) words
none-at at [] e = All-nil (λ (w : ℕ × ℕ). w.0 ≢ at)
none-at at (w ∷ words) e =
    let parts = and_parts (not (w.0 == at)) (none_at at words) e in
    All-cons (λ (w : ℕ × ℕ). w.0 ≢ at) w words (unlike w.0 at parts.0) (none-at at words parts.1)

all-apart : (words : List (ℕ × ℕ)) → all_apart words ≡ true → AreDifferent words
all-apart [] e = tt
all-apart (w ∷ words) e = let parts = and_parts (none_at w.0 words) (all_apart words) e in (none-at w.0 words parts.0, all-apart words parts.1)

-- the places of the words and of the crash word
hidden : (at : ℕ) → at % 4 ≡ 0 → at < header_length → is_among shown_words at ≡ false → is_among checked_words at ≡ false → IsHiddenWord at
hidden at aligned inside unshown unchecked = record { aligned = aligned; inside = inside; unshown = unshown; unchecked = unchecked }

hidden-crash : MayBecome (crash_place, 1)
hidden-crash = inl (hidden 32 refl (lit< tt) refl refl)

may-become : (items bytes id : ℕ) → All MayBecome (counted_words items bytes id)
may-become items bytes id =
    all-seven MayBecome (268, items) (8, items) (48, bytes % 2 ^ 32) (52, bytes / 2 ^ 32) (4, index_version) (12, 0) (20, id)
    (inl (hidden 268 refl (lit< tt) refl refl)) (inl (hidden 8 refl (lit< tt) refl refl)) (inl (hidden 48 refl (lit< tt) refl refl)) (inl (hidden 52 refl (lit< tt) refl refl)) (inr (refl, refl)) (inl (hidden 12 refl (lit< tt) refl refl))
    (inl (hidden 20 refl (lit< tt) refl refl))

are-places : (items bytes id : ℕ) → ArePlaces (counted_words items bytes id)
are-places items bytes id =
    all-seven (λ (w : ℕ × ℕ). IsPlace w.0) (268, items) (8, items) (48, bytes % 2 ^ 32) (52, bytes / 2 ^ 32) (4, index_version) (12, 0) (20, id)
    (refl, lit< tt) (refl, lit< tt) (refl, lit< tt) (refl, lit< tt) (refl, lit< tt) (refl, lit< tt) (refl, lit< tt)

counters-small : (items bytes id : ℕ) → items < 2 ^ 32 → bytes < 2 ^ 64 → id < 2 ^ 32 → All (λ (w : ℕ × ℕ). w.1 < 2 ^ 32) (counted_words items bytes id)
counters-small items bytes id i b d =
    all-seven (λ (w : ℕ × ℕ). w.1 < 2 ^ 32) (268, items) (8, items) (48, bytes % 2 ^ 32) (52, bytes / 2 ^ 32) (4, index_version) (12, 0) (20, id)
    i i (omega arith) (omega (arith, b)) (lit< tt) (lit< tt) d

pub counters-different : (items bytes id : ℕ) → AreDifferent (counted_words items bytes id)
counters-different items bytes id = all-apart (counted_words items bytes id) refl

-- two words make the number
halves : (bytes : ℕ) → bytes % 2 ^ 32 + 4294967296 * (bytes / 2 ^ 32) ≡ bytes
halves bytes = omega arith

-- the words of the index are these in the end
pub counted : (items bytes id : ℕ) (image : Image) → items < 2 ^ 32 → bytes < 2 ^ 64 → id < 2 ^ 32 → HasWholeIndex image → HasIndexWords items bytes id (after (index_steps items bytes id image) image)
counted items bytes id image i b d whole =
    let words : List (ℕ × ℕ) = counted_words items bytes id in
    let first : List TrailStep = index_words_steps words image in
    let between : Image = after first image in
    let crash : List TrailStep = word_step Index 32 1 in
    let last : Image = after crash between in
    let T : ℕ × ℕ → Type 0 = (λ (w : ℕ × ℕ). word between Index w.0 ≡ w.1) in
    let there : All T words = words-there words image (are-places items bytes id) (counters-different items bytes id) (counters-small items bytes id i b d) whole in
    let long : HasWholeIndex between = until_last HasWholeIndex HasWholeIndex first image (whole-words words image whole) in
    let still : (at : ℕ) → at % 4 ≡ 0 → not (32 == at) ≡ true → word last Index at ≡ word between Index at = λ at aligned apart. written-other between 32 1 at refl aligned (unlike 32 at apart) in
    let sizes : word last Index 268 ≡ items = still 268 refl refl ∙ there 0 (0, 0) (lit< tt) in
    let entries : word last Index 8 ≡ items = still 8 refl refl ∙ there 1 (0, 0) (lit< tt) in
    let low : word last Index 48 ≡ bytes % 2 ^ 32 = still 48 refl refl ∙ there 2 (0, 0) (lit< tt) in
    let high : word last Index 52 ≡ bytes / 2 ^ 32 = still 52 refl refl ∙ there 3 (0, 0) (lit< tt) in
    let version : word last Index 4 ≡ index_version = still 4 refl refl ∙ there 4 (0, 0) (lit< tt) in
    let none : word last Index 12 ≡ 0 = still 12 refl refl ∙ there 5 (0, 0) (lit< tt) in
    let number : word last Index 20 ≡ id = still 20 refl refl ∙ there 6 (0, 0) (lit< tt) in
    subst (HasIndexWords items bytes id) (sym (after-append first crash image))
    (record {
      counts = count-is (byte last Index) items bytes version entries none ((λ j. low j + 4294967296 * high j) ∙ halves bytes) sizes;
      id = number;
      crash = written-there between 32 1 (refl, lit< tt) (lit< tt) long;
    })

-- ---- what stays repaired

-- the links are repaired, and what was repaired of the files and of the checksums stays so
record StaysMended (entry start image : Image) : Type 0 where
  holds : HasMendedLinksOf entry image
  files : HasMendedFiles start → HasMendedFiles image
  only : HasOnlyKeptFiles start → HasOnlyKeptFiles image
  sealed : AreKeptSealed start → AreKeptSealed image

-- the write of a word that may become this one
links-stay : (from image : Image) (w : ℕ × ℕ) → MayBecome w → HasMendedLinks from → w.1 < 2 ^ 32 → w.0 + 4 ≤ length_of from Index → image ≡ applied (Word Index w.0 (word_bytes w.1)) from → KeepsMendedLinks from image
links-stay from image w (inl h) mended small room is =
    hidden-change from image w.0 mended h.aligned h.inside h.unshown h.unchecked (subst (SameOutside (one_word Index w.0) from) (sym is) (outside_write Index w.0 (word_bytes w.1) from))
links-stay from image w (inr e) mended small room is =
    let P : ℕ → ℕ → Type 0 = (λ (at x : ℕ). applied (Word Index at (word_bytes x)) from ≡ image) in
    let now : applied (Word Index 4 (word_bytes index_version)) from ≡ image = subst (λ (x : ℕ). P 4 x) e.1 (subst (λ (at : ℕ). P at w.1) e.0 (sym is)) in
    version-change from image mended (record {
      there = ap (λ (i : Image). word i Index 4) (sym now) ∙ word-after_same from Index 4 index_version (lit< tt) (subst (λ (at : ℕ). at + 4 ≤ length_of from Index) e.0 room);
      outside = subst (SameOutside (one_word Index 4) from) now (outside_write Index 4 (word_bytes index_version) from);
    })

stays-word : (entry start image : Image) (at x : ℕ) → MayBecome (at, x) → x < 2 ^ 32 → at < header_length → at % 4 ≡ 0 → StaysMended entry start image → Along (StaysMended entry start) image (word_step Index at x)
unfolding word_step
stays-word entry start image at x may small inside aligned is =
    let next : Image = applied (Word Index at (word_bytes x)) image in
    let outside : SameOutside (one_word Index at) image next = outside_write Index at (word_bytes x) image in
    let mended = is.holds.keeps.mended in
    let room : at + 4 ≤ length_of image Index = (let header = is.holds.writable.has_header in omega (arith, header, inside, aligned)) in
    let keeps : KeepsMendedLinks image next = links-stay image next (at, x) may mended small room refl in
    let files = files-mended (one_word Index at) image next (words-behind at) outside mended keeps in (
      is,
      record {
        holds = record {
          writable = record {
            bytes = are_bytes-word Index at x image is.holds.writable.bytes;
            has_header = let same = length-after_write image Index Index at (word_bytes x) in let header = is.holds.writable.has_header in omega (arith, same, header);
          };
          keeps = links-on entry image next is.holds.keeps keeps;
        };
        files = λ h. files.0 (is.files h);
        only = λ h. files.1 (is.only h);
        sealed = λ h. words-leave image next at outside keeps (is.sealed h);
      },
    )

stays-words : (entry start image : Image) (words : List (ℕ × ℕ)) → All MayBecome words → ArePlaces words → All (λ (w : ℕ × ℕ). w.1 < 2 ^ 32) words → StaysMended entry start image → Along (StaysMended entry start) image (index_words_steps words image)
stays-words entry start image [] may places small is = is
stays-words entry start image (w ∷ words) may places small is =
    let P : ℕ × ℕ → Type 0 = (λ (w : ℕ × ℕ). IsPlace w.0) in
    let L : ℕ × ℕ → Type 0 = (λ (w : ℕ × ℕ). w.1 < 2 ^ 32) in
    let place : IsPlace w.0 = All-head P w words places in
    let S : Image → Type 0 = StaysMended entry start in
    let first : List TrailStep = index_word_steps w.0 w.1 image in
    let all : Along S image first = choice-along S image (word image Index w.0 == w.1) (word_step Index w.0 w.1) is (stays-word entry start image w.0 w.1 (All-head MayBecome w words may) (All-head L w words small) place.1 place.0 is) in
    until-append S S first (index_words_steps words (after first image)) image all (stays-words entry start (after first image) words (All-tail MayBecome w words may) (All-tail P w words places) (All-tail L w words small) (until_last S S first image all))

module _ (items bytes id : ℕ) (i : items < 2 ^ 32) (b : bytes < 2 ^ 64) (d : id < 2 ^ 32) (entry image : Image) where
  stays-index : HasMendedLinksOf entry image → Along (StaysMended entry image) image (index_steps items bytes id image)
  stays-index holds =
      let words : List (ℕ × ℕ) = counted_words items bytes id in
      let S : Image → Type 0 = StaysMended entry image in
      let first : List TrailStep = index_words_steps words image in
      let all : Along S image first = stays-words entry image image words (may-become items bytes id) (are-places items bytes id) (counters-small items bytes id i b d) (record { holds = holds; files = λ h. h; only = λ h. h; sealed = λ h. h }) in
      until-append S S first (word_step Index crash_place 1) image all (stays-word entry image (after first image) crash_place 1 hidden-crash (lit< tt) (lit< tt) refl (until_last S S first image all))

  -- the links stay repaired at each word
  pub index-along : HasMendedLinksOf entry image → Along (HasMendedLinksOf entry) image (index_steps items bytes id image)
  index-along holds =
      let S : Image → Type 0 = StaysMended entry image in
      until_weaker2 S (HasMendedLinksOf entry) S (HasMendedLinksOf entry) (index_steps items bytes id image) image (λ i is. is.holds) (λ i is. is.holds) (stays-index holds)

  -- in the end the counters count what is kept
  pub index-mended : HasWholeIndex image → IsNextCounted entry items bytes image → IsIndexMended entry image (after (index_steps items bytes id image) image)
  index-mended whole next =
      let S : Image → Type 0 = StaysMended entry image in
      let last : Image = after (index_steps items bytes id image) image in
      let is : S last = until_last S S (index_steps items bytes id image) image (stays-index next.holds) in
      let words : HasIndexWords items bytes id last = counted items bytes id image i b d whole in
      let same : kept entry ≡ kept last = sym is.holds.keeps.kept_same in
      record {
        holds = is.holds;
        counters = words.counts ∙ ap (λ (n : ℕ). counting n bytes) (next.items_are ∙ ap length same) ∙ ap (counting (length (kept last))) (next.bytes_are ∙ ap (sum_by charge_of) same);
        files = is.files;
        only = is.only;
        sealed = is.sealed;
      }

-- ---- the runs

-- the steps by the words that were found
pub differing : (ℕ → ℕ) → List (ℕ × ℕ) → List TrailStep
differing f [] = []
differing f (w ∷ words) = found_word_steps w.0 (word_at f w.0) w.1 ++ differing f words

-- words with places of their own are found as they were read, however many were written before
differing-are : (words : List (ℕ × ℕ)) (image : Image) (f : ℕ → ℕ) → ArePlaces words → AreDifferent words → All (λ (w : ℕ × ℕ). word image Index w.0 ≡ word_at f w.0) words → index_words_steps words image ≡ differing f words
unfolding differing
differing-are [] image f places different found = refl
differing-are (w ∷ words) image f places different found =
    let P : ℕ × ℕ → Type 0 = (λ (w : ℕ × ℕ). IsPlace w.0) in
    let R : ℕ × ℕ → Type 0 = (λ (w : ℕ × ℕ). word image Index w.0 ≡ word_at f w.0) in
    let first : List TrailStep = index_word_steps w.0 w.1 image in
    let later : All (λ (u : ℕ × ℕ). word (after first image) Index u.0 ≡ word_at f u.0) words =
    λ k d less. choice-other image w.0 w.1 (get_or words k d).0 (All-head P w words places).0 (All-tail P w words places k d less).0 (λ e. different.0 k d less (sym e)) (word image Index w.0 == w.1) ∙ All-tail R w words found k d less in
    ap (λ (l : List TrailStep). first ++ l) (differing-are words (after first image) f (All-tail P w words places) different.1 later)
    ∙ ap (λ (n : ℕ). found_word_steps w.0 n w.1 ++ differing f words) (All-head R w words found)

-- a word of the header that was read is that of the index
read-word : (head : List ℕ) (image : Image) (at : ℕ) → IsPlace at → head ≡ range_at (byte image Index) 0 header_length → word image Index at ≡ word_at (content head) at
read-word head image at place is =
    let a = place.0 in let inside = place.1 in
    let one : (p : ℕ) → p < 368 → byte image Index p ≡ content head p = λ p small. sym (ap (λ (l : List ℕ). content l p) is ∙ content-range 368 0 (byte image Index) p p small (omega arith)) in
    same-word_at (byte image Index) (content head) at (one at (omega (arith, inside))) (one (at + 1) (omega (arith, a, inside))) (one (at + 2) (omega (arith, a, inside))) (one (at + 3) (omega (arith, a, inside)))

pub differing-read : (words : List (ℕ × ℕ)) (head : List ℕ) (image : Image) → All (λ (w : ℕ × ℕ). w.0 % 4 ≡ 0) words → All (λ (w : ℕ × ℕ). w.0 < header_length) words → AreDifferent words → head ≡ range_at (byte image Index) 0 header_length
    → differing (content head) words ≡ index_words_steps words image
differing-read words head image aligned inside different is =
    let places : ArePlaces words = λ k d less. (aligned k d less, inside k d less) in
    sym (differing-are words image (content head) places different (λ k d less. read-word head image (get_or words k d).0 (places k d less) is))

-- the first of the rest is written, and then the others
pub words-lead : (f : ℕ → ℕ) (words : List (ℕ × ℕ)) (i : ℕ) (d : ℕ × ℕ) (found : ℕ) → i < length words → found ≡ word_at f (get_or words i d).0
    → Leads (λ _. differing f (drop i words)) (λ _. found_word_steps (get_or words i d).0 found (get_or words i d).1) (λ _. differing f (drop (i + 1) words))
unfolding differing
words-lead f words i d found inside is image =
    ap (differing f) (drop_more words i d inside) ∙ ap (λ (n : ℕ). found_word_steps (get_or words i d).0 n (get_or words i d).1 ++ differing f (drop (i + 1) words)) (sym is)

pub words-end : (f : ℕ → ℕ) (words : List (ℕ × ℕ)) (i : ℕ) → length words ≤ i → (image : Image) → differing f (drop i words) ≡ []
unfolding differing
words-end f words i past image = ap (differing f) (drop_all i words past)

pub index-leads : (items bytes id : ℕ) → Leads (index_steps items bytes id) (index_words_steps (counted_words items bytes id)) (λ _. word_step Index crash_place 1)
index-leads items bytes id image = refl

pub crash-leads : Leads (λ _. word_step Index crash_place 1) (λ _. word_step Index crash_place 1) (λ _. [])
crash-leads image = sym (append-nil (word_step Index crash_place 1))

pub index-quiet : (items bytes id : ℕ) (image : Image) → HasNoNote (index_steps items bytes id image)
index-quiet items bytes id image = noteless-append (index_words_steps (counted_words items bytes id) image) (word_step Index crash_place 1) (words-quiet (counted_words items bytes id) image) (noteless-word_step Index crash_place 1)

-- what a prefix of the steps passes, and where all of them lead
pub index-passes : (a b : Told) (items bytes id : ℕ) → items < 2 ^ 32 → bytes < 2 ^ 64 → id < 2 ^ 32 → ForSome a.files (λ image. AppliesPrefix a b (index_steps items bytes id image)) → ForSome a.files (λ image. (entry : Image) → HasMendedLinksOf entry image → PassesAny a b (HasMendedLinksOf entry))
index-passes a b items bytes id i_fits b_fits d part image there entry holds =
    any_part (HasMendedLinksOf entry) (HasMendedLinksOf entry) (part image there) (index-quiet items bytes id image) (λ i h. h)
    (λ i is_there. subst (λ (x : Image). Along (HasMendedLinksOf entry) x (index_steps items bytes id image)) (some_inj (sym there ∙ is_there)) (index-along items bytes id i_fits b_fits d entry image holds))

pub index-done : (a b : Told) (items bytes id : ℕ) → items < 2 ^ 32 → bytes < 2 ^ 64 → id < 2 ^ 32 → ForSome a.files HasWholeIndex → ForSome a.files (λ image. Applies a b (index_steps items bytes id image)) → ForSome a.files (λ image. (entry : Image) → IsNextCounted entry items bytes image → ForSome b.files (IsIndexMended entry image))
index-done a b items bytes id i b_fits d whole all image there entry next =
    told_whole (IsIndexMended entry image) (all image there)
    (λ x is_there. subst (λ (y : Image). IsIndexMended entry image (after (index_steps items bytes id image) y)) (some_inj (sym there ∙ is_there)) (index-mended items bytes id i b_fits d entry image (whole image there) next))
