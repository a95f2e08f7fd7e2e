-- A record with a checksum before and after each write of its update.
use Rattle.std.proofs.Common.{◌≡◌, ℕ, ◌+◌, ◌%◌, ◌<◌, ◌≤◌, Bool, true, false, if◌then◌else◌, List, [], ◌∷◌, ◌++◌, length, take, drop, All, take-append-drop, refl, sym, ◌∙◌, ap, subst, arith, append_assoc, append-nil, length-append, inr, ◌*◌, ⊎_elim}
use Rattle.std.specs.Prelude.{◌==◌}
use Rattle.std.proofs.lemmas.Bool.{cases_lt, eqb-true}
use Rattle.std.proofs.lemmas.List.{drop-drop, get_or_past, take_all, take_at}
use Rattle.std.proofs.lemmas.List.Elements.{All-head, All-tail}
use Rattle.spec_image.specs.Bytes.{content, range_at, word_at, word_bytes}
use Rattle.spec_image.specs.Image.{AreBytes, Block, Image, byte, length_of}
use Rattle.spec_image.specs.Steps.{TrailStep, Word, applied, after, word_step, word_steps, with_word, with_words}
use Rattle.spec_image.specs.Footprint.{SameOutside, range}
use Rattle.spec_image.specs.Told.{Along}
use Rattle.spec_image.proofs.Images.{length-after_write}
use Rattle.spec_image.proofs.Footprints.{outside-refl, outside-trans, outside_wider, outside_write, range_within}
use Rattle.spec_image.proofs.Splices.{spliced-is}
use Rattle.spec_image.proofs.Words.{content-range, length-range, range-is, length-with_word, length-with_words, word-beside, word-there}
use Rattle.spec_format.specs.Address.{file_selector, kind_of, place, byte_size, block_count, block_size}
use Rattle.spec_format.specs.Hash.{hash}
use Rattle.spec_format.specs.Records.{checks, seal_of}
use Rattle.spec_format.proofs.Seals.{sealed-checks, zero-checks}
use Rattle.spec_format.specs.Sealed.{BeginsWithRecord, size_by_kind, seal_by_kind, record_size, seal_place, record_at, record_range, RecordChecks, placed, update_words, update_steps, new_seal, sealed_steps, IsMidUpdate, IsUpdated, WholeUpdatesAreMade, is_sealed, seal_steps, sealed}
use Rattle.spec_format.proofs.Bodies.{AreBelow256, range-word}
use Rattle.spec_format.proofs.Words.{AreFields-of}
use Rattle.spec_format.proofs.RecordBytes.{record-step, record-after, take-with_word, take-with_words, take-before_word, with_words-append, same-sealed}

-- the checksum is the last word of a record, and at an aligned place
pub seal_last : (kind : ℕ) → seal_by_kind kind + 4 ≡ size_by_kind kind
unfolding seal_by_kind size_by_kind
seal_last kind = by_test (kind == 1)
  where
    by_test : (t : Bool) → (if t then 32 else 92) + 4 ≡ (if t then 36 else 96)
    by_test true = refl
    by_test false = refl

pub seal_aligned : (kind : ℕ) → seal_by_kind kind % 4 ≡ 0
unfolding seal_by_kind
seal_aligned kind = by_test (kind == 1)
  where
    by_test : (t : Bool) → (if t then 32 else 92) % 4 ≡ 0
    by_test true = refl
    by_test false = refl

module _ (w : ℕ) where
  pub length-record : (image : Image) → length (record_at image w) ≡ seal_place w + 4
  unfolding record_at
  length-record image = length-range _ _ _ ∙ sym (seal_last _)

  -- one word of the record is written
  step_of : ℕ → ℕ → TrailStep
  step_of p v = Word (Block (file_selector w)) (place w + p) (word_bytes v)

  abbrev pub Fits : Image → Type 0
  Fits image = place w + record_size w ≤ length_of image (Block (file_selector w))

  fits-step : (image : Image) (p v : ℕ) → Fits image → Fits (applied (step_of p v) image)
  unfolding step_of
  fits-step image p v fits = subst (λ (n : ℕ). place w + record_size w ≤ n) (sym (length-after_write image (Block (file_selector w)) (Block (file_selector w)) (place w + p) (word_bytes v))) fits

  record-written : (image : Image) (p v : ℕ) → Fits image → record_at (applied (step_of p v) image) w ≡ with_word p v (record_at image w)
  unfolding record_at step_of
  record-written image p v fits = record-step image (Block (file_selector w)) (place w) (record_size w) p v fits

  outside-step : (from image : Image) (p v : ℕ) → p + 4 ≤ seal_place w + 4 → SameOutside (record_range w) from image → SameOutside (record_range w) from (applied (step_of p v) image)
  unfolding step_of
  outside-step from image p v inside same =
      let file = Block (file_selector w) in
      outside-trans (record_range w) from image _ same
      (outside_wider (range file (place w + p) 4) (record_range w) image _ (range_within file (place w + p) 4 (place w) (record_size w) (omega arith) (omega (arith, inside, seal_last (kind_of w)))) (outside_write file (place w + p) (word_bytes v) image))

  -- words of the record are written, and nothing else
  pub words_stay : (words : List (ℕ × ℕ)) (from image : Image) → All (λ c. c.0 ≤ seal_place w) words → SameOutside (record_range w) from image → Along (SameOutside (record_range w) from) image (word_steps (Block (file_selector w)) (placed (place w) words))
  unfolding word_step step_of
  words_stay [] from image inside same = same
  words_stay (c ∷ words) from image inside same =
      let first : c.0 ≤ seal_place w = All-head (λ c. c.0 ≤ seal_place w) c words inside in
      (same, words_stay words from (applied (step_of c.0 c.1) image) (All-tail (λ c. c.0 ≤ seal_place w) c words inside) (outside-step from image c.0 c.1 (omega arith) same))

  -- before the update
  pub moment_before : (from : Image) (changes : List (ℕ × ℕ)) → RecordChecks w from → IsMidUpdate from w changes from
  moment_before from changes checks = record { made = 0; within = omega arith; fields = refl; checks = checks; outside = outside-refl (record_range w) from }

  module _ (from : Image) (changes : List (ℕ × ℕ)) where
    -- these changes are made, and the checksum is 0
    record Unsealed (done : List (ℕ × ℕ)) (image : Image) : Type 0 where
      pub fits : Fits image
      pub front : take (seal_place w) (record_at image w) ≡ with_words done (take (seal_place w) (record_at from w))
      pub zero : word_at (content (record_at image w)) (seal_place w) ≡ 0
      pub outside : SameOutside (record_range w) from image

    -- the update is under way, where these changes are its first
    moment_unsealed : (done left : List (ℕ × ℕ)) (image : Image) → done ++ left ≡ changes → Unsealed done image → IsMidUpdate from w changes image
    moment_unsealed done left image all state = record {
      made = length done;
      within = subst (λ (l : List (ℕ × ℕ)). length done ≤ length l) all (omega (arith, length-append done left));
      fields = state.front ∙ ap (λ (l : List (ℕ × ℕ)). with_words l (take (seal_place w) (record_at from w))) (sym (take_at done left (length done) refl) ∙ ap (take (length done)) all) ∙ sym (take-with_words (seal_place w) (take (length done) changes) (record_at from w));
      checks = zero-checks (seal_place w) (record_at image w) state.zero;
      outside = state.outside;
    }

    -- the checksum becomes 0
    unsealed_first : Fits from → Unsealed [] (applied (step_of (seal_place w) 0) from)
    unsealed_first fits = record {
      fits = fits-step from (seal_place w) 0 fits;
      front = ap (take (seal_place w)) (record-written from (seal_place w) 0 fits) ∙ take-before_word (seal_place w) 0 (record_at from w);
      zero = ap (λ (l : List ℕ). word_at (content l) (seal_place w)) (record-written from (seal_place w) 0 fits) ∙ word-there (seal_place w) 0 (record_at from w) (omega arith) (omega (arith, length-record from));
      outside = outside-step from from (seal_place w) 0 (omega arith) (outside-refl (record_range w) from);
    }

    -- one more change is made
    unsealed_next : (done : List (ℕ × ℕ)) (c : ℕ × ℕ) (image : Image) → c.0 + 4 ≤ seal_place w → Unsealed done image → Unsealed (done ++ c ∷ []) (applied (step_of c.0 c.1) image)
    unsealed_next done c image before state = record {
      fits = fits-step image c.0 c.1 state.fits;
      front =
          ap (take (seal_place w)) (record-written image c.0 c.1 state.fits) ∙ take-with_word (seal_place w) c.0 c.1 (record_at image w)
          ∙ ap (with_word c.0 c.1) state.front ∙ sym (with_words-append done (c ∷ []) (take (seal_place w) (record_at from w)));
      zero = ap (λ (l : List ℕ). word_at (content l) (seal_place w)) (record-written image c.0 c.1 state.fits) ∙ word-beside (seal_place w) c.0 c.1 (record_at image w) (inr before) ∙ state.zero;
      outside = outside-step from image c.0 c.1 (omega arith) state.outside;
    }

    -- the checksum becomes the hash of the changed record
    moment_last : (image : Image) → Unsealed changes image → IsMidUpdate from w changes (applied (step_of (seal_place w) (new_seal from w changes)) image)
    unfolding new_seal
    moment_last image state =
        let s : ℕ = seal_place w in
        let new : Image = applied (step_of s (new_seal from w changes)) image in
        let front : take s (record_at image w) ≡ take s (with_words changes (record_at from w)) = state.front ∙ sym (take-with_words s changes (record_at from w)) in
        let is : record_at new w ≡ with_word s (new_seal from w changes) (record_at image w) = record-written image s (new_seal from w changes) state.fits in
        let hash_is : (new_seal from w changes) ≡ seal_of s (record_at image w) = ap hash (sym front) in
        record {
          made = length changes;
          within = omega arith;
          fields = ap (take s) is ∙ take-before_word s (new_seal from w changes) (record_at image w) ∙ front ∙ ap (λ (l : List (ℕ × ℕ)). take s (with_words l (record_at from w))) (sym (take_all (length changes) changes (omega arith)));
          checks = sealed-checks s (record_at image w) (record_at new w) (is ∙ ap (λ (v : ℕ). with_word s v (record_at image w)) hash_is) (omega (arith, length-record image));
          outside = outside-step from image s (new_seal from w changes) (omega arith) state.outside;
        }

    -- the rest of the update
    moments_rest : (done left : List (ℕ × ℕ)) (image : Image) → done ++ left ≡ changes → All (λ c. c.0 + 4 ≤ seal_place w) left → Unsealed done image
        → Along (IsMidUpdate from w changes) image (word_steps (Block (file_selector w)) (placed (place w) (left ++ (seal_place w, (new_seal from w changes)) ∷ [])))
    unfolding word_step step_of
    moments_rest done [] image all before state =
        let whole : done ≡ changes = sym (append-nil done) ∙ all in
        (moment_unsealed done [] image all state, moment_last image (subst (λ (l : List (ℕ × ℕ)). Unsealed l image) whole state))
    moments_rest done (c ∷ left) image all before state =
        let first : c.0 + 4 ≤ seal_place w = All-head (λ c. c.0 + 4 ≤ seal_place w) c left before in (
          moment_unsealed done (c ∷ left) image all state,
          moments_rest (done ++ c ∷ []) left (applied (step_of c.0 c.1) image) (append_assoc done (c ∷ []) left ∙ all) (All-tail (λ c. c.0 + 4 ≤ seal_place w) c left before) (unsealed_next done c image first state),
        )

    -- before and after each write of the update
    pub moments : Fits from → RecordChecks w from → All (λ c. c.0 + 4 ≤ seal_place w) changes → Along (IsMidUpdate from w changes) from (sealed_steps from w changes)
    unfolding update_steps word_step step_of
    moments fits checks before = (moment_before from changes checks, moments_rest [] changes (applied (step_of (seal_place w) 0) from) refl before (unsealed_first fits))

    -- the record after the update
    pub updated : Fits from → IsUpdated from w changes (after (sealed_steps from w changes) from)
    unfolding update_steps record_at new_seal
    updated fits =
        let s : ℕ = seal_place w in
        let old : List ℕ = record_at from w in
        let unsealed : List ℕ = with_words changes (with_word s 0 old) in
        record-after (Block (file_selector w)) (place w) (record_size w) (update_words s changes (new_seal from w changes)) from fits
        ∙ with_words-append changes ((s, (new_seal from w changes)) ∷ []) (with_word s 0 old)
        ∙ same-sealed s (new_seal from w changes) unsealed (with_words changes old)
        (length-with_words changes (with_word s 0 old) ∙ length-with_word s 0 old ∙ length-record from)
        (length-with_words changes old ∙ length-record from)
        (take-with_words s changes (with_word s 0 old) ∙ ap (with_words changes) (take-before_word s 0 old) ∙ sym (take-with_words s changes old))

-- a whole update is one with all changes made
pub whole_update : WholeUpdatesAreMade
whole_update from image w changes done outside =
    let s : ℕ = seal_place w in
    let made : List ℕ = with_words changes (record_at from w) in
    let long : s + 4 ≤ length made = (let a = length-with_words changes (record_at from w) in let b = length-record w from in omega (arith, a, b)) in (
      record {
        made = length changes;
        within = omega arith;
        fields = ap (take s) done ∙ take-before_word s (seal_of s made) made ∙ ap (λ (l : List (ℕ × ℕ)). take s (with_words l (record_at from w))) (sym (take_all (length changes) changes (omega arith)));
        checks = sealed-checks s made (record_at image w) done long;
        outside = outside;
      },
      refl,
    )

-- A record gets its checksum.

-- a word that bytes have, written again, leaves them
same-written : (s : ℕ) (bytes : List ℕ) → AreBelow256 (content bytes) → s + 4 ≤ length bytes → with_word s (word_at (content bytes) s) bytes ≡ bytes
unfolding with_word
same-written s bytes small inside =
    spliced-is s (word_bytes (word_at (content bytes) s)) bytes inside
    ∙ ap (λ (word : List ℕ). take s bytes ++ (word ++ drop (s + 4) bytes)) (range-word s (content bytes) small ∙ range-is 4 s bytes inside)
    ∙ ap (λ (rest : List ℕ). take s bytes ++ (take 4 (drop s bytes) ++ rest)) (sym (drop-drop 4 s bytes))
    ∙ ap (λ (rest : List ℕ). take s bytes ++ rest) (take-append-drop 4 (drop s bytes))
    ∙ take-append-drop s bytes

record-small : (image : Image) (w : ℕ) → AreBytes image → AreBelow256 (content (record_at image w))
unfolding record_at
record-small image w bytes k =
    ⊎_elim
    (λ (inside : k < record_size w). subst (λ (n : ℕ). n < 256) (sym (content-range (record_size w) (place w) (byte image (Block (file_selector w))) k (place w + k) inside refl)) (bytes (Block (file_selector w)) (place w + k)))
    (λ (past : record_size w ≤ k). subst (λ (n : ℕ). n < 256) (sym (get_or_past (range_at (byte image (Block (file_selector w))) (place w) (record_size w)) k 0 (omega (arith, past, length-range (record_size w) (place w) (byte image (Block (file_selector w))))))) (omega arith))
    (cases_lt k (record_size w))

module _ (w : ℕ) (from : Image) (fits : Fits w from) where
  seal_step : TrailStep
  seal_step = step_of w (seal_place w) (seal_of (seal_place w) (record_at from w))

  sealed_record : record_at (applied seal_step from) w ≡ sealed (seal_place w) (record_at from w)
  unfolding seal_step
  sealed_record = record-written w from (seal_place w) (seal_of (seal_place w) (record_at from w)) fits

  moment_sealed : IsMidUpdate from w [] (applied seal_step from)
  unfolding seal_step
  moment_sealed =
      let s : ℕ = seal_place w in
      let bytes : List ℕ = record_at from w in
      let is = sealed_record in
      record {
        made = 0;
        within = omega arith;
        fields = ap (take s) is ∙ take-before_word s (seal_of s bytes) bytes;
        checks = sealed-checks s bytes (record_at (applied seal_step from) w) is (omega (arith, length-record w from));
        outside = outside-step w from from s (seal_of s bytes) (omega arith) (outside-refl (record_range w) from);
      }

  -- before and after its write it is as in an update without changes
  pub sealing : RecordChecks w from → Along (IsMidUpdate from w []) from (seal_steps from w)
  unfolding seal_steps word_step step_of seal_step
  sealing good = by_test (is_sealed (seal_place w) (record_at from w))
    where
      by_test : (t : Bool) → Along (IsMidUpdate from w []) from (if t then [] else word_step (Block (file_selector w)) (place w + seal_place w) (seal_of (seal_place w) (record_at from w)))
      by_test true = moment_before w from [] good
      by_test false = (moment_before w from [] good, moment_sealed)

  -- the record has its checksum afterwards
  pub sealed_after : AreBytes from → IsUpdated from w [] (after (seal_steps from w) from)
  unfolding seal_steps word_step step_of seal_step
  sealed_after bytes = by_test (is_sealed (seal_place w) (record_at from w)) refl
    where
      by_test : (t : Bool) → is_sealed (seal_place w) (record_at from w) ≡ t
          → record_at (after (if t then [] else word_step (Block (file_selector w)) (place w + seal_place w) (seal_of (seal_place w) (record_at from w))) from) w ≡ sealed (seal_place w) (record_at from w)
      by_test true e =
          sym (same-written (seal_place w) (record_at from w) (record-small from w bytes) (omega (arith, length-record w from)))
          ∙ ap (λ (v : ℕ). with_word (seal_place w) v (record_at from w)) (eqb-true (word_at (content (record_at from w)) (seal_place w)) (seal_of (seal_place w) (record_at from w)) e)
      by_test false e = sealed_record

-- the records of the two kinds
pub node_seal : (w : ℕ) → kind_of w ≡ 1 → seal_place w ≡ 32
unfolding seal_by_kind
node_seal w kind = rw kind refl

pub node_bytes : (w : ℕ) → kind_of w ≡ 1 → record_size w ≡ 36
unfolding size_by_kind
node_bytes w kind = rw kind refl

pub entry_seal : (w : ℕ) → kind_of w ≡ 2 → seal_place w ≡ 92
unfolding seal_by_kind
entry_seal w kind = rw kind refl

pub entry_bytes : (w : ℕ) → kind_of w ≡ 2 → record_size w ≡ 96
unfolding size_by_kind
entry_bytes w kind = rw kind refl

-- the record is in the blocks
pub record_inside : (w : ℕ) → BeginsWithRecord w → record_size w ≤ byte_size w
unfolding byte_size block_size size_by_kind
record_inside w begins =
    let some = (AreFields-of w).some in
    ⊎_elim
    (λ (node : kind_of w ≡ 1). rw node (let h : 36 ≤ block_count w * 36 = omega (arith, some) in h))
    (λ (entry : kind_of w ≡ 2). rw entry (let h : 96 ≤ block_count w * 256 = omega (arith, some) in h))
    begins
