-- What a word of the index shows.
use Rattle.std.proofs.Common.{◌≡◌, ◌≢◌, ◌⊎◌, inl, inr, ⊎_elim, ℕ, ◌+◌, ◌*◌, ◌%◌, ◌<◌, ◌≤◌, Bool, true, false, List, [], ◌∷◌, map, Option, refl, sym, ◌∙◌, ap, subst, arith, lit≤}
use Rattle.std.specs.Prelude.{◌==◌, ◌&&◌, ◌||◌, ◌^◌, nat_le, nat_lt, unwrap_or}
use Rattle.std.specs.List.{AllByRecursion}
use Rattle.std.proofs.lemmas.Bool.{cases_lt, or_right}
use Rattle.std.proofs.lemmas.Bool.Decides.{nat_tests, eqb_tells}
use Rattle.std.proofs.Math.Dec.{eqb}
use Rattle.spec_image.specs.Bytes.{content, word_at}
use Rattle.spec_image.specs.Checks.{first_of, check_found, check_word}
use Rattle.spec_image.specs.Image.{Index, Block, External, File, Image, byte, length_of, word}
use Rattle.spec_image.specs.Footprint.{SameOutside, one_word}
use Rattle.spec_image.proofs.Footprints.{same_file_outside, same_word_outside}
use Rattle.spec_format.specs.Headers.{field_checks, list_checks, zero_places, index_version, is_index_version, index_length, version_of, table_length, place_of_bucket}
use Rattle.spec_format.proofs.Counts.{same-count}
use Rattle.spec_format.proofs.Finished.{sound-version}
use Rattle.spec_format.specs.Standing.{stands, stands_as_blocks}
use Rattle.spec_format.specs.BlockFiles.{is_among, linked, next_file_in, max_entries_in, stands_in, HasSoundHeaders, KeepsHeaders}
use Rattle.spec_folder.specs.ListView.{ListView, put}
use Rattle.spec_folder.specs.View.{StoreView, View, list_of, checks_at, next_at, prev_at, store_of, node_fields_at, fields_at, follow_at, key_place_at, stored_at}
use Rattle.spec_folder.specs.ShownChanges.{ShowsTheSame}
use Rattle.spec_folder.specs.Audit.{kept_by}
use Rattle.spec_folder.specs.Found.{completed, kept}
use Rattle.spec_folder.specs.Loads.{held_rule}
use Rattle.law_folder.specs.IndexWrites.{SoundHeadersStaySound, shown_words, checked_words, sound_words, HeadsAreWritten, TailsAreWritten, TransactionsAreWritten, OperationsAreWritten, OtherWordsAreNotShown, BucketsAreWritten, OtherWordsAreNotChecked, VersionsMayBeRaised, OtherBytesAreNotCounted, BucketsAreNotChecked, IndexWordsStandApart}
use Rattle.law_folder.proofs.updates.WellFormed.{sound_still}

-- an image with another index
unfoldable pub with_index : Image → Option (List ℕ) → Image
with_index image bytes Index = bytes
with_index image bytes (Block n) = image (Block n)
with_index image bytes (External n) = image (External n)

-- the words of the list in a list
abbrev words_in : ListView → (ℕ → ℕ) → ListView
words_in list f = record list { head = word_at f 288; tail = word_at f 308; transaction = word_at f 328; operation = word_at f 332 }

pub list-indexed : (image : Image) (bytes : Option (List ℕ)) → list_of (with_index image bytes) ≡ words_in (list_of image) (content (unwrap_or bytes []))
unfolding with_index list_of checks_at next_at prev_at stands stands_as_blocks linked next_file_in max_entries_in
list-indexed image bytes = refl

pub stock-indexed : (image : Image) (bytes : Option (List ℕ)) → store_of (with_index image bytes) ≡ record (store_of image) { table = λ b. word_at (content (unwrap_or bytes [])) (368 + 4 * b) }
unfolding with_index store_of node_fields_at fields_at follow_at key_place_at stored_at stands stands_as_blocks linked next_file_in max_entries_in
stock-indexed image bytes = refl

stands-indexed : (image : Image) (bytes : Option (List ℕ)) (u : ℕ) → stands_in (with_index image bytes) u ≡ stands_in image u
unfolding with_index stands stands_as_blocks linked next_file_in max_entries_in
stands-indexed image bytes u = refl

pub same-shown : (store : StoreView) → ShowsTheSame store store
same-shown store = record {
  store = record { node_fields = λ w clear. refl; entry = λ w clear. refl; chain_next = λ w clear. refl; key_place = λ w fields clear is long short. refl; stored = λ size w clear. refl };
  table = λ b. refl;
}

-- a place apart from a word
apart-word : (at k : ℕ) → (k < at) ⊎ (at + 4 ≤ k) → (nat_le at k && nat_lt k (at + 4)) ≡ false
apart-word at k apart = grind (arith, nat_tests)

module _ (from image : Image) (at : ℕ) (same : SameOutside (one_word Index at) from image) where
  is-indexed : image ≡ with_index from (image Index)
  unfolding with_index
  is-indexed = λ i file. each file i where
    each : (file : File) → image file ≡ with_index from (image Index) file
    each Index = refl
    each (Block n) = same_file_outside (one_word Index at) from image (Block n) same (λ i. refl) refl
    each (External n) = same_file_outside (one_word Index at) from image (External n) same (λ i. refl) refl

  pub list-words : list_of image ≡ words_in (list_of from) (byte image Index)
  list-words = ap list_of is-indexed ∙ list-indexed from (image Index)

  pub stock-words : store_of image ≡ record (store_of from) { table = λ b. word image Index (368 + 4 * b) }
  stock-words = ap store_of is-indexed ∙ stock-indexed from (image Index)

  pub stands-still : (u : ℕ) → stands_in image u ≡ stands_in from u
  stands-still u = ap (λ (i : Image). stands_in i u) is-indexed ∙ stands-indexed from (image Index) u

  pub word-still : (p : ℕ) → (p + 4 ≤ at) ⊎ (at + 4 ≤ p) → word image Index p ≡ word from Index p
  word-still p apart = same_word_outside (one_word Index at) from image Index p same (λ k low high. apart-word at k (⊎_elim (λ (x : p + 4 ≤ at). inl (omega arith)) (λ (x : at + 4 ≤ p). inr (omega arith)) apart))

  -- a word of the header leaves the store view
  stock-still : at + 4 ≤ 368 → ShowsTheSame (store_of from) (store_of image)
  unfolding store_of
  stock-still before =
      let e : store_of image ≡ store_of from = stock-words ∙ (λ i. record (store_of from) { table = λ b. word-still (368 + 4 * b) (inr (omega arith)) i }) in
      subst (λ (s : StoreView). ShowsTheSame (store_of from) s) (sym e) (same-shown (store_of from))

pub heads-written : HeadsAreWritten
unfolding list_of
heads-written from image x is =
    let s = word-still from image 288 is.outside in
    record {
      list = list-words from image 288 is.outside ∙ (λ i. record (list_of from) { head = is.there i; tail = s 308 (inr (omega arith)) i; transaction = s 328 (inr (omega arith)) i; operation = s 332 (inr (omega arith)) i });
      store = stock-still from image 288 is.outside (omega arith);
    }

pub tails-written : TailsAreWritten
unfolding list_of
tails-written from image x is =
    let s = word-still from image 308 is.outside in
    record {
      list = list-words from image 308 is.outside ∙ (λ i. record (list_of from) { head = s 288 (inl (omega arith)) i; tail = is.there i; transaction = s 328 (inr (omega arith)) i; operation = s 332 (inr (omega arith)) i });
      store = stock-still from image 308 is.outside (omega arith);
    }

pub transactions-written : TransactionsAreWritten
unfolding list_of
transactions-written from image x is =
    let s = word-still from image 328 is.outside in
    record {
      list = list-words from image 328 is.outside ∙ (λ i. record (list_of from) { head = s 288 (inl (omega arith)) i; tail = s 308 (inl (omega arith)) i; transaction = is.there i; operation = s 332 (inr (omega arith)) i });
      store = stock-still from image 328 is.outside (omega arith);
    }

pub operations-written : OperationsAreWritten
unfolding list_of
operations-written from image x is =
    let s = word-still from image 332 is.outside in
    record {
      list = list-words from image 332 is.outside ∙ (λ i. record (list_of from) { head = s 288 (inl (omega arith)) i; tail = s 308 (inl (omega arith)) i; transaction = s 328 (inl (omega arith)) i; operation = is.there i });
      store = stock-still from image 332 is.outside (omega arith);
    }

-- an aligned word that isn't in a list is apart from each in it
pub not-among : (places : List ℕ) (p at : ℕ) → is_among places p ≡ true → is_among places at ≡ false → p ≢ at
not-among places p at there lacks e = let c : true ≡ false = sym there ∙ ap (is_among places) e ∙ lacks in cc

pub beside : (p at : ℕ) → p % 4 ≡ 0 → at % 4 ≡ 0 → p ≢ at → (p + 4 ≤ at) ⊎ (at + 4 ≤ p)
beside p at one other apart = ⊎_elim (λ (x : p < at). inl (omega arith)) (λ (x : at ≤ p). inr (omega (arith, apart))) (cases_lt p at)

pub others-hidden : OtherWordsAreNotShown
unfolding list_of store_of
others-hidden from image at aligned inside lacks same =
    let s : (p : ℕ) → p % 4 ≡ 0 → is_among shown_words p ≡ true → word image Index p ≡ word from Index p = λ p even there. word-still from image at same p (beside p at even aligned (not-among shown_words p at there lacks)) in
    let lists : list_of image ≡ list_of from = list-words from image at same ∙ (λ i. record (list_of from) { head = s 288 refl refl i; tail = s 308 refl refl i; transaction = s 328 refl refl i; operation = s 332 refl refl i }) in
    let stocks : store_of image ≡ store_of from = stock-words from image at same ∙ (λ i. record (store_of from) { table = λ b. word-still from image at same (368 + 4 * b) (inr (omega arith)) i }) in
    λ i. record { list = lists i; store = stocks i }

pub buckets-written : BucketsAreWritten
unfolding list_of store_of put
buckets-written from image bucket x is =
    let s = word-still from image (place_of_bucket bucket) is.outside in (
      list-words from image (place_of_bucket bucket) is.outside
          ∙ (λ i. record (list_of from) { head = s 288 (inl (omega arith)) i; tail = s 308 (inl (omega arith)) i; transaction = s 328 (inl (omega arith)) i; operation = s 332 (inl (omega arith)) i }),
      stock-words from image (place_of_bucket bucket) is.outside ∙ (λ i. record (store_of from) { table = λ b. each b i }),
    ) where
      each : (b : ℕ) → word image Index (368 + 4 * b) ≡ put (store_of from).table bucket x b
      each b = ⊎_elim
          (λ (e : (eqb b bucket ≡ true) × (b ≡ bucket)). rw e.0 (ap (λ (c : ℕ). word image Index (368 + 4 * c)) e.1 ∙ is.there))
          (λ (e : (eqb b bucket ≡ false) × (b ≢ bucket)). rw e.0 (word-still from image (place_of_bucket bucket) is.outside (368 + 4 * b) (by (cases_lt b bucket) e.1)))
          (eqb_tells b bucket) where
            by : (b < bucket) ⊎ (bucket ≤ b) → b ≢ bucket → (368 + 4 * b + 4 ≤ 368 + 4 * bucket) ⊎ (368 + 4 * bucket + 4 ≤ 368 + 4 * b)
            by (inl below) apart = inl (omega arith)
            by (inr above) apart = inr (omega (arith, apart))

-- checks of words that are the same
same-zeros : (f g : ℕ → ℕ) (places : List ℕ) → AllByRecursion (λ p. word_at f p ≡ word_at g p) places → map (λ at. check_word Index f at (word_at f at == 0)) places ≡ map (λ at. check_word Index g at (word_at g at == 0)) places
same-zeros f g [] same = refl
same-zeros f g (p ∷ places) same = λ i. check_found Index p (same.0 i) (same.0 i == 0) ∷ same-zeros f g places same.1 i

-- the version is the same, or each of the two is read
abbrev SameVersionCheck : (ℕ → ℕ) → (ℕ → ℕ) → Type 0
SameVersionCheck f g = check_word Index f 4 (is_index_version (version_of f)) ≡ check_word Index g 4 (is_index_version (version_of g))

same-heads : (f g : ℕ → ℕ) (m n : ℕ) → m ≡ n → SameVersionCheck f g → AllByRecursion (λ p. word_at f p ≡ word_at g p) (24 ∷ 28 ∷ 36 ∷ []) → field_checks f m ≡ field_checks g n
unfolding field_checks
same-heads f g m n size b (c, (d, (e, rest))) = λ i.
    check_found Index index_length (size i % 2 ^ 32) (size i == index_length)
    ∷ b i
    ∷ check_found Index 24 (c i) (c i == 0)
    ∷ check_found Index 28 (d i) ((d i == 0) || (d i == table_length))
    ∷ check_found Index 36 (e i) (e i == 0)
    ∷ []

-- the words that a check reads, but for the version; and but for the magic word too
abbrev other_checked : List ℕ
other_checked = 0 ∷ 24 ∷ 28 ∷ 36 ∷ zero_places

abbrev other_sound : List ℕ
other_sound = 24 ∷ 28 ∷ 36 ∷ zero_places

-- valid headers stay valid where these are the same, and the check of the version gives the same
sound-kept : (from image : Image) (at : ℕ) → SameOutside (one_word Index at) from image → SameVersionCheck (byte image Index) (byte from Index)
    → ((p : ℕ) → p % 4 ≡ 0 → p + 4 ≤ 368 → is_among other_sound p ≡ true → word image Index p ≡ word from Index p) → HasSoundHeaders from → HasSoundHeaders image
unfolding list_checks
sound-kept from image at same version s =
    sound_still (one_word Index at) from image (record { bytes = λ m i small. refl }) (λ m. refl) same
    (ap first_of (same-heads (byte image Index) (byte from Index) (length_of image Index) (length_of from Index) (same.lengths Index refl) version
    (s 24 refl (lit≤ tt) refl, (s 28 refl (lit≤ tt) refl, (s 36 refl (lit≤ tt) refl, tt)))))
    (ap first_of (same-zeros (byte image Index) (byte from Index) zero_places (
      s 272 refl (lit≤ tt) refl,
      (
        s 276 refl (lit≤ tt) refl,
        (
          s 280 refl (lit≤ tt) refl,
          (
            s 284 refl (lit≤ tt) refl,
            (
              s 292 refl (lit≤ tt) refl,
              (
                s 296 refl (lit≤ tt) refl,
                (
                  s 300 refl (lit≤ tt) refl,
                  (
                    s 304 refl (lit≤ tt) refl,
                    (
                      s 312 refl (lit≤ tt) refl,
                      (
                        s 316 refl (lit≤ tt) refl,
                        (
                          s 320 refl (lit≤ tt) refl,
                          (
                            s 324 refl (lit≤ tt) refl,
                            (s 336 refl (lit≤ tt) refl, tt),
                          ),
                        ),
                      ),
                    ),
                  ),
                ),
              ),
            ),
          ),
        ),
      ),
    )))

-- so the headers are kept where the magic word is the same too
checked-still : (from image : Image) (at : ℕ) → SameOutside (one_word Index at) from image → SameVersionCheck (byte image Index) (byte from Index)
    → ((p : ℕ) → p % 4 ≡ 0 → p + 4 ≤ 368 → is_among other_checked p ≡ true → word image Index p ≡ word from Index p) → KeepsHeaders from image
checked-still from image at same version s = record {
  sound = sound-kept from image at same version (λ p even inside there. s p even inside (or_right (0 == p) (is_among other_sound p) there));
  magic = s 0 refl (lit≤ tt) refl;
}

-- a version that is the same is checked the same
version-still : (f g : ℕ → ℕ) → word_at f 4 ≡ word_at g 4 → SameVersionCheck f g
version-still f g same = ap (λ (v : ℕ). check_found Index 4 v (is_index_version v)) same

-- each other checked word is checked
checked-other : (p : ℕ) → is_among other_checked p ≡ true → is_among checked_words p ≡ true
checked-other p there = go (0 == p) there where
  go : (b : Bool) → (b || is_among (24 ∷ 28 ∷ 36 ∷ zero_places) p) ≡ true → (b || ((4 == p) || is_among (24 ∷ 28 ∷ 36 ∷ zero_places) p)) ≡ true
  go true e = refl
  go false e = or_right (4 == p) (is_among (24 ∷ 28 ∷ 36 ∷ zero_places) p) e

pub others-unchecked : OtherWordsAreNotChecked
others-unchecked from image at aligned lacks same =
    let still : (p : ℕ) → p % 4 ≡ 0 → is_among checked_words p ≡ true → word image Index p ≡ word from Index p = λ p even there. word-still from image at same p (beside p at even aligned (not-among checked_words p at there lacks)) in
    checked-still from image at same (version-still (byte image Index) (byte from Index) (still 4 refl refl)) (λ p even inside there. still p even (checked-other p there))

pub sound-unchecked : SoundHeadersStaySound
unfolding kept
sound-unchecked from image at aligned inside unshown lacks same =
    let still : (p : ℕ) → p % 4 ≡ 0 → is_among sound_words p ≡ true → word image Index p ≡ word from Index p =
    λ p even there. word-still from image at same p (beside p at even aligned (not-among sound_words p at there lacks)) in (
      sound-kept from image at same (version-still (byte image Index) (byte from Index) (still 4 refl refl))
          (λ p even below there. still p even (or_right (4 == p) (is_among other_sound p) there)),
      ap (λ (view : View). kept_by held_rule (completed view)) (others-hidden from image at aligned inside unshown same),
    )

-- a version that is read, and the one that is made now
raised : (f g : ℕ → ℕ) → word_at f 4 ≡ index_version → is_index_version (version_of g) ≡ true → SameVersionCheck f g
raised f g is read = ap (λ (v : ℕ). check_found Index 4 v (is_index_version v)) is ∙ ap (check_found Index 4 (version_of g)) (sym read)

pub versions-raised : VersionsMayBeRaised
versions-raised from image is =
    record {
      sound = λ sound.
          (checked-still from image 4 is.outside (raised (byte image Index) (byte from Index) is.there (sound-version from sound))
          (λ p even inside there. word-still from image 4 is.outside p (beside p 4 even refl (not-among other_checked p 4 there refl)))).sound
          sound;
      magic = word-still from image 4 is.outside 0 (inl (omega arith));
    }

pub others-uncounted : OtherBytesAreNotCounted
others-uncounted from image same = same-count (byte image Index) (byte from Index) (same 4 refl) (same 8 refl) (same 12 refl) (same 48 refl) (same 52 refl) (same 268 refl)

pub buckets-unchecked : BucketsAreNotChecked
buckets-unchecked from image bucket same =
    let still : (p : ℕ) → p + 4 ≤ 368 → word image Index p ≡ word from Index p = λ p inside. word-still from image (place_of_bucket bucket) same p (inl (omega (arith, inside))) in
    checked-still from image (place_of_bucket bucket) same (version-still (byte image Index) (byte from Index) (still 4 (lit≤ tt))) (λ p even inside there. still p inside)

pub index-stands : IndexWordsStandApart
index-stands from image at same u = stands-still from image at same u
