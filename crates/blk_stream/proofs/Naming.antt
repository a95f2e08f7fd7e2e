-- The record names another place for a stream.
use Rattle.std.proofs.Common.{◌≡◌, ◌≢◌, ◌⊎◌, inl, inr, ⊎_elim, ℕ, ◌+◌, ◌*◌, ◌%◌, ◌^◌, ◌<◌, ◌≤◌, Bool, true, false, ◌&&◌, List, [], ◌∷◌, length, refl, sym, ◌∙◌, ap, subst, arith}
use Rattle.std.specs.Prelude.{nat_le, nat_lt}
use Rattle.std.specs.List.{All}
use Rattle.std.proofs.lemmas.Bool.{cases_lt}
use Rattle.std.proofs.lemmas.Bool.Decides.{nat_tests}
use Rattle.std.proofs.lemmas.List.Elements.{All-nil, All-cons}
use Rattle.spec_image.specs.Image.{AreBytes, File, Block, Image, same_file, word}
use Rattle.spec_image.specs.Steps.{TrailStep, with_words, word_step}
use Rattle.spec_image.specs.Footprint.{Footprint, SameOutside, IsWithin, either, nothing, one_word, touched_by_all}
use Rattle.spec_image.specs.Told.{Along}
use Rattle.spec_image.proofs.Footprints.{outside-refl, outside_steps, same_word_outside, within_both, within_left, within_right}
use Rattle.spec_image.proofs.Runs.{until_both, until_weaker2}
use Rattle.spec_image.proofs.Words.{length-with_word, length-with_words}
use Rattle.spec_format.specs.Address.{kind_of, file_selector, place, blocks_256}
use Rattle.spec_format.specs.Sealed.{AreChanges, IsMidUpdate, IsUpdated, RecordChecks, record_size, sealed, sealed_steps, seal_place, update_steps}
use Rattle.spec_format.proofs.SealedFields.{record_word as word_of_record, updated_is_new}
use Rattle.spec_format.proofs.SealedRecords.{entry_bytes, entry_seal, moments, record_inside}
use Rattle.spec_format.proofs.SpareHeaders.{past_header}
use Rattle.blk_disk.specs.declared.tables.BlockFiles.{BlockFiles}
use Rattle.blk_disk.specs.Tables.{Agrees, stands_among}
use Rattle.blk_disk.proofs.Ranges.{stands_range}
use Rattle.blk_alloc.specs.Laws.{SparesHeadersAndSizes}
use Rattle.blk_alloc.proofs.Changing.{nothing_within, within-trans}
use Rattle.blk_stream.specs.Streams.{address_place, address_word, size_place, size_word}
use Rattle.blk_stream.specs.Changing.{NamesInProgress, place_changes, record_word, stream_words}
use Rattle.blk_stream.specs.Stages.{NamesShown}
use Rattle.blk_stream.proofs.RecordSeals.{shown_midst, small_record}
use Rattle.blk_stream.proofs.StreamPlaces.{address_at, size_at}

-- The two changes of the record.

pub place_are : (entry i p q size word : ℕ) → kind_of entry ≡ blocks_256 → i < 3 → p ≡ size_place i → q ≡ address_place i → AreChanges (seal_place entry) ((p, size) ∷ (q, word) ∷ [])
place_are entry i p q size word kind small is_p is_q =
    let s : seal_place entry ≡ 92 = entry_seal entry kind in
    record {
      few = omega arith;
      aligned = All-cons (λ change. change.0 % 4 ≡ 0) (p, size) ((q, word) ∷ []) (omega (arith, is_p)) (All-cons (λ change. change.0 % 4 ≡ 0) (q, word) [] (omega (arith, is_q)) (All-nil (λ change. change.0 % 4 ≡ 0)));
      before = All-cons (λ change. change.0 < seal_place entry) (p, size) ((q, word) ∷ []) (omega (arith, s, small, is_p)) (All-cons (λ change. change.0 < seal_place entry) (q, word) [] (omega (arith, s, small, is_q)) (All-nil (λ change. change.0 < seal_place entry)));
      different = (All-cons (λ other. other.0 ≢ p) (q, word) [] (λ e. let h : q ≡ p = e in omega (arith, h, is_p, is_q, small)) (All-nil (λ other. other.0 ≢ p)), (All-nil (λ other. other.0 ≢ q), tt));
    }

seal_within : (entry i : ℕ) → kind_of entry ≡ blocks_256 → IsWithin (one_word (Block (file_selector entry)) (place entry + seal_place entry)) (stream_words entry i)
seal_within entry i kind =
    subst (λ (s : ℕ). IsWithin (one_word (Block (file_selector entry)) (place entry + s)) (stream_words entry i)) (sym (entry_seal entry kind))
    (within-trans _ (either (record_word entry (address_place i)) (record_word entry 92)) _ (within_right (record_word entry (address_place i)) (record_word entry 92)) (within_right (record_word entry (size_place i)) (either (record_word entry (address_place i)) (record_word entry 92))))

naming_within : (image : Image) (entry i size word : ℕ) → kind_of entry ≡ blocks_256 → IsWithin (touched_by_all (sealed_steps image entry (place_changes i size word))) (stream_words entry i)
unfolding update_steps word_step
naming_within image entry i size word kind =
    let S : Footprint = stream_words entry i in
    let N : Footprint = one_word (Block (file_selector entry)) (place entry + seal_place entry) in
    let A : Footprint = record_word entry (size_place i) in
    let B : Footprint = record_word entry (address_place i) in
    let C : Footprint = record_word entry 92 in
    let seal = seal_within entry i kind in
    let in_b : IsWithin B S = record { bytes = λ f k e. (within_right A (either B C)).bytes f k ((within_left B C).bytes f k e); sizes = λ f e. (within_right A (either B C)).sizes f ((within_left B C).sizes f e) } in
    within_both N (either A (either B (either N nothing))) S seal
    (within_both A (either B (either N nothing)) S (within_left A (either B C))
    (within_both B (either N nothing) S in_b
    (within_both N nothing S seal (nothing_within S))))

-- before and after each of them the record is in the midst of the update, and nothing but its words differs
pub naming_midst : (files : BlockFiles) (entry i size word : ℕ) (from : Image) → kind_of entry ≡ blocks_256 → stands_among files entry ≡ true → i < 3 → Agrees files from → RecordChecks entry from
    → Along (λ image. IsMidUpdate from entry (place_changes i size word) image × SameOutside (stream_words entry i) from image) from (sealed_steps from entry (place_changes i size word))
naming_midst files entry i size word from kind st small agrees good =
    let changes : List (ℕ × ℕ) = place_changes i size word in
    let steps : List TrailStep = sealed_steps from entry changes in
    let M : Image → Type 0 = IsMidUpdate from entry changes in
    let O : Image → Type 0 = SameOutside (stream_words entry i) from in
    let s : seal_place entry ≡ 92 = entry_seal entry kind in
    let inside = record_inside entry (inr kind) in
    let range = stands_range files from entry 0 (record_size entry) agrees st (omega (arith, inside)) in
    until_both M O M O steps from
    (moments entry from changes (omega (arith, range)) good
    (All-cons (λ c. c.0 + 4 ≤ seal_place entry) (size_place i, size) ((address_place i, word) ∷ []) (omega (arith, s, small)) (All-cons (λ c. c.0 + 4 ≤ seal_place entry) (address_place i, word) [] (omega (arith, s, small)) (All-nil (λ c. c.0 + 4 ≤ seal_place entry)))))
    (outside_steps (stream_words entry i) steps from from (naming_within from entry i size word kind) (outside-refl (stream_words entry i) from))

pub naming_moments : (files : BlockFiles) (entry i size word : ℕ) (from : Image) → kind_of entry ≡ blocks_256 → stands_among files entry ≡ true → i < 3 → Agrees files from → RecordChecks entry from
    → Along (NamesInProgress entry i from) from (sealed_steps from entry (place_changes i size word))
naming_moments files entry i size word from kind st small agrees good =
    let B : Image → Type 0 = λ image. IsMidUpdate from entry (place_changes i size word) image × SameOutside (stream_words entry i) from image in
    let word_of : (image : Image) → B image → NamesInProgress entry i from image = λ image h. record { same = h.1; checks = h.0.checks } in
    until_weaker2 B (NamesInProgress entry i from) B (NamesInProgress entry i from) (sealed_steps from entry (place_changes i size word)) from word_of word_of (naming_midst files entry i size word from kind st small agrees good)

-- before and after each write of the update the view has the record with a checksum that matches or is absent
pub naming_shown : (files : BlockFiles) (entry i size word : ℕ) (from : Image) → kind_of entry ≡ blocks_256 → stands_among files entry ≡ true → i < 3 → Agrees files from → AreBytes from → RecordChecks entry from
    → Along (NamesShown entry i from) from (sealed_steps from entry (place_changes i size word))
naming_shown files entry i size word from kind st small agrees bytes good =
    let B : Image → Type 0 = λ image. IsMidUpdate from entry (place_changes i size word) image × SameOutside (stream_words entry i) from image in
    let word_of : (image : Image) → B image → NamesShown entry i from image = λ image h. record { names = record { same = h.1; checks = h.0.checks }; shown = shown_midst from image entry (place_changes i size word) kind (small_record from entry bytes) h.0 } in
    until_weaker2 B (NamesShown entry i from) B (NamesShown entry i from) (sealed_steps from entry (place_changes i size word)) from word_of word_of (naming_midst files entry i size word from kind st small agrees good)

-- What they leave.

pub apart_place : (f g : File) (p n k : ℕ) → (k < p) ⊎ (p + n ≤ k) → (same_file f g && (nat_le p k && nat_lt k (p + n))) ≡ false
apart_place f g p n k away = by_test (same_file f g)
  where
    by_test : (t : Bool) → (t && (nat_le p k && nat_lt k (p + n))) ≡ false
    by_test false = refl
    by_test true = ⊎_elim (λ (low : k < p). let z : nat_le p k ≡ false = grind (arith, nat_tests) in rw z refl) (λ (high : p + n ≤ k). let z : nat_lt k (p + n) ≡ false = grind (arith, nat_tests) in by_first (nat_le p k) z) away
      where
        by_first : (a : Bool) → nat_lt k (p + n) ≡ false → (a && nat_lt k (p + n)) ≡ false
        by_first false z = refl
        by_first true z = z

-- the words lie after the header
pub words_off_header : (entry i n k : ℕ) → k < 8192 → (stream_words entry i).bytes (Block n) k ≡ false
words_off_header entry i n k low =
    let a = word_off (size_place i) in
    let b = word_off (address_place i) in
    let c = word_off 92 in
    rw (a, b, c) refl
  where
    word_off : (at : ℕ) → (record_word entry at).bytes (Block n) k ≡ false
    word_off at = apart_place (Block (file_selector entry)) (Block n) (place entry + at) 4 k (inl (let p = past_header entry in omega (arith, low, p)))

pub words_spare : (entry i : ℕ) → SparesHeadersAndSizes (stream_words entry i)
words_spare entry i = record { headers = λ n k low. words_off_header entry i n k low; sizes = λ file. refl }

-- the words of another stream are no words of this one
pub words_off_other : (entry i j at : ℕ) → i < 3 → j < 3 → i ≢ j → (at ≡ size_place j) ⊎ (at ≡ address_place j) → (k : ℕ) → place entry + at ≤ k → k < place entry + at + 4 → (stream_words entry i).bytes (Block (file_selector entry)) k ≡ false
words_off_other entry i j at small low differs is k first last =
    let a = word_off (size_place i) (⊎_elim (λ (e : at ≡ size_place j). by_order 40 e) (λ (e : at ≡ address_place j). inl (omega (arith, e, small, first))) is) in
    let b = word_off (address_place i) (⊎_elim (λ (e : at ≡ size_place j). inr (omega (arith, e, low, last))) (λ (e : at ≡ address_place j). by_order 56 e) is) in
    let c = word_off 92 (⊎_elim (λ (e : at ≡ size_place j). inr (omega (arith, e, low, last))) (λ (e : at ≡ address_place j). inr (omega (arith, e, low, last))) is) in
    rw (a, b, c) refl
  where
    word_off : (q : ℕ) → (place entry + q + 4 ≤ k) ⊎ (k < place entry + q) → (record_word entry q).bytes (Block (file_selector entry)) k ≡ false
    word_off q away = apart_place (Block (file_selector entry)) (Block (file_selector entry)) (place entry + q) 4 k (⊎_elim (λ (h : place entry + q + 4 ≤ k). inr h) (λ (h : k < place entry + q). inl h) away)

    by_order : (base : ℕ) → at ≡ base + 4 * j → (place entry + (base + 4 * i) + 4 ≤ k) ⊎ (k < place entry + (base + 4 * i))
    by_order base e = ⊎_elim (λ (less : i < j). inl (omega (arith, less, e, first))) (λ (more : j ≤ i). inr (let other : i ≢ j = differs in omega (arith, more, other, e, last))) (cases_lt i j)

pub other_words : (entry i j : ℕ) (from image : Image) → i < 3 → j < 3 → i ≢ j → SameOutside (stream_words entry i) from image → (size_word image entry j ≡ size_word from entry j) × (address_word image entry j ≡ address_word from entry j)
other_words entry i j from image small low differs same = (
  size_at image entry j low ∙ same_word_outside (stream_words entry i) from image (Block (file_selector entry)) (place entry + size_place j) same (words_off_other entry i j (size_place j) small low differs (inl refl)) ∙ sym (size_at from entry j low),
  address_at image entry j low ∙ same_word_outside (stream_words entry i) from image (Block (file_selector entry)) (place entry + address_place j) same (words_off_other entry i j (address_place j) small low differs (inr refl)) ∙ sym (address_at from entry j low),
)

-- the words that the record has after the two changes
pub named_words : (entry i size w : ℕ) (from image : Image) → kind_of entry ≡ blocks_256 → i < 3 → size < 2 ^ 32 → w < 2 ^ 32 → IsUpdated from entry (place_changes i size w) image → (size_word image entry i ≡ size) × (address_word image entry i ≡ w)
named_words entry i size w from image kind small fit_size fit_word done =
    let n : record_size entry ≡ 96 = entry_bytes entry kind in
    let are = place_are entry i (size_place i) (address_place i) size w kind small refl refl in
    let fits : All (λ c. c.1 < 2 ^ 32) (place_changes i size w) = All-cons (λ c. c.1 < 2 ^ 32) (size_place i, size) ((address_place i, w) ∷ []) fit_size (All-cons (λ c. c.1 < 2 ^ 32) (address_place i, w) [] fit_word (All-nil (λ c. c.1 < 2 ^ 32))) in (
      size_at image entry i small ∙ sym (word_of_record image entry (size_place i) (omega (arith, n, small))) ∙ updated_is_new from image entry (place_changes i size w) are done 0 (size_place i, size) (omega arith) fits,
      address_at image entry i small ∙ sym (word_of_record image entry (address_place i) (omega (arith, n, small))) ∙ updated_is_new from image entry (place_changes i size w) are done 1 (size_place i, size) (omega arith) fits,
    )

-- the bytes of the record that was changed
pub changed_long : (s : ℕ) (changes : List (ℕ × ℕ)) (bytes new : List ℕ) → new ≡ sealed s (with_words changes bytes) → length bytes ≡ 96 → length new ≡ 96
changed_long s changes bytes new is long = ap length is ∙ length-with_word _ _ (with_words changes bytes) ∙ length-with_words changes bytes ∙ long
