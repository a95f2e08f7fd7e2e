-- The other streams of a record, of which one gets a new place.
use Rattle.std.proofs.Common.{◌≡◌, ◌≢◌, ⊎_elim, ℕ, zero, suc, ◌+◌, ◌<◌, Bool, true, false, if◌then◌else◌, List, [], Option, refl, sym, ◌∙◌, ap, subst, arith}
use Rattle.std.specs.Prelude.{◌==◌, length, nat_eq, unwrap_or}
use Rattle.std.proofs.lemmas.Bool.{cases_Bool, cases_eq, eqb-true}
use Rattle.std.proofs.lemmas.Bool.Decides.{nat_tests}
use Rattle.spec_image.specs.Bytes.{content, range_at, word_at}
use Rattle.spec_image.specs.Image.{Block, External, Image, byte, has_file}
use Rattle.spec_image.specs.Footprint.{Footprint, SameOutside, either, nothing, range, whole}
use Rattle.spec_image.proofs.Words.{same-range}
use Rattle.spec_format.specs.Address.{blocks_256, byte_size, external, external_number, file_selector, kind_of, place}
use Rattle.spec_format.specs.BlockFiles.{stands_in_blocks}
use Rattle.spec_format.specs.Sealed.{record_at, record_size}
use Rattle.blk_disk.specs.declared.tables.BlockFiles.{BlockFiles}
use Rattle.blk_disk.specs.Tables.{Agrees, stands_among}
use Rattle.blk_disk.proofs.Ranges.{stands_agree}
use Rattle.blk_entry.specs.Keys.{IsInside, data_at, data_file, data_start}
use Rattle.blk_entry.specs.Writing.{ShareNoBlock}
use Rattle.blk_entry.proofs.KeyPlaces.{data_of_blocks, data_of_external, of_other}
use Rattle.blk_alloc.specs.Changes.{map_of}
use Rattle.blk_alloc.specs.Extending.{KeepsStanding}
use Rattle.blk_stream.specs.Changing.{stream_words}
use Rattle.blk_stream.specs.Copying.{ShareNoData}
use Rattle.blk_stream.specs.Dropping.{KeepsStream}
use Rattle.blk_stream.specs.Freeing.{freeing_of, leaving_of}
use Rattle.blk_stream.specs.Inside.{data_of}
use Rattle.blk_stream.specs.Moving.{HasPlaceLength, data_at_place}
use Rattle.blk_stream.specs.Placing.{IsNewPlace}
use Rattle.blk_stream.specs.Streams.{address_place, address_word, may_keep, size_place, size_word}
use Rattle.blk_stream.specs.Written.{HoldsStream}
use Rattle.blk_stream.proofs.Dropped.{stream_kept}
use Rattle.blk_stream.proofs.Fillings.{data_off}
use Rattle.blk_stream.proofs.InsideSteps.{record_same}
use Rattle.blk_stream.proofs.PlacesFreed.{blocky_of, leaving_none, leaving_some}
use Rattle.blk_stream.proofs.PlacesLeft.{read_size, read_word}
use Rattle.blk_stream.proofs.StreamPlaces.{bytes_at, keeps_inside, may_parts, stored_some}
use Rattle.blk_stream.proofs.WriteStages.{data_left, freed_off, record_grown, words_off}

-- the words of a record with the same bytes
pub record_words : (entry j : ℕ) (from image : Image) → kind_of entry ≡ blocks_256 → j < 3 → record_at image entry ≡ record_at from entry → KeepsStream entry j from image
record_words entry j from image kind small same = record {
  size = sym (read_size image entry j (record_at image entry) kind small refl) ∙ ap (λ (l : List ℕ). word_at (content l) (size_place j)) same ∙ read_size from entry j (record_at from entry) kind small refl;
  word = sym (read_word image entry j (record_at image entry) kind small refl) ∙ ap (λ (l : List ℕ). word_at (content l) (address_place j)) same ∙ read_word from entry j (record_at from entry) kind small refl;
}

record_alike : (entry : ℕ) (from image : Image) → SameOutside nothing from image → record_at image entry ≡ record_at from entry
unfolding record_at
record_alike entry from image same = same-range (record_size entry) (place entry) (byte image (Block (file_selector entry))) (byte from (Block (file_selector entry))) (λ k low high. same.bytes (Block (file_selector entry)) k refl)

no_bytes : (v : ℕ) (from image : Image) → data_at image v 0 0 ≡ data_at from v 0 0
unfolding range_at
no_bytes v from image = refl

-- The length of an external file, where a record names another place, and an old one is freed.
module _ (v n entry i old : ℕ) (filled image : Image) (apart_old : v ≢ 0 → old ≢ 0 → ShareNoData old v) (same : SameOutside (either (stream_words entry i) (leaving_of old)) filled image) where
  freed_size : v ≢ 0 → kind_of v ≡ external → old ≢ 0 → (freeing_of old).sizes (External (external_number v)) ≡ false
  unfolding freeing_of
  freed_size some is_v other = by_test (kind_of old == external) refl
    where
      by_test : (t : Bool) → (kind_of old == external) ≡ t → (if t then whole (External (external_number old)) else map_of (file_selector old)).sizes (External (external_number v)) ≡ false
      by_test false e = refl
      by_test true e = let differ = (apart_old some other).files (eqb-true (kind_of old) external e) is_v in let z : nat_eq (external_number old) (external_number v) ≡ false = grind (arith, nat_tests) in z

  pub left_length : HasPlaceLength v n filled → HasPlaceLength v n image
  left_length long some is_v =
      same.lengths (External (external_number v))
      (⊎_elim
      (λ (none : old ≡ 0). subst (λ (F : Footprint). F.sizes (External (external_number v)) ≡ false) (sym (ap leaving_of none ∙ leaving_none)) refl)
      (λ (other : old ≢ 0). subst (λ (F : Footprint). F.sizes (External (external_number v)) ≡ false) (sym (leaving_some old other)) (freed_size some is_v other))
      (cases_eq old 0))
      ∙ long some is_v

-- Data that is stored.

module _ (files kept : BlockFiles) (n v : ℕ) (from : Image) (agrees : Agrees files from) (stored : may_keep files n v ≡ true) (standing : KeepsStanding files kept) (there : v ≢ 0 → kind_of v ≡ external → has_file from (External (external_number v)) ≡ true) where
  -- a stream without a place has no bytes
  none_here : v ≡ 0 → n ≡ 0
  none_here none = by_size n refl
    where
      by_size : (m : ℕ) → n ≡ m → n ≡ 0
      by_size zero e = e
      by_size (suc m) e = absurd (stored_some files n v (omega (arith, e)) (may_parts files n v stored).1 none)

  inside : IsInside files v 0 n
  inside = keeps_inside files n v 0 n stored (omega arith)

  still_inside : IsInside kept v 0 n
  still_inside = record { small = inside.small; stands = λ blocky. standing v (inside.stands blocky); room = inside.room }

  -- where a place is made
  module _ (w : ℕ) (made : Image) (placed : IsNewPlace files w from made) where
    made_file : v ≢ 0 → kind_of v ≡ external → made (External (external_number v)) ≡ from (External (external_number v))
    made_file some kind = placed.makes.keeps.externals (external_number v) (there some kind)

    pub made_data : data_at made v 0 n ≡ data_at from v 0 n
    made_data = ⊎_elim
        (λ (none : v ≡ 0). subst (λ (m : ℕ). data_at made v 0 m ≡ data_at from v 0 m) (sym (none_here none)) (no_bytes v from made))
        (λ (some : v ≢ 0).
        ⊎_elim
        (λ (t : (kind_of v == external) ≡ true).
        let kind = eqb-true (kind_of v) external t in
        data_of_external made v 0 n kind ∙ ap (λ (o : Option (List ℕ)). range_at (content (unwrap_or o [])) 0 n) (made_file some kind) ∙ sym (data_of_external from v 0 n kind))
        (λ (t : (kind_of v == external) ≡ false).
        let blocky = blocky_of v t in
        let stands : stands_in_blocks from v ≡ true = sym (stands_agree files from v agrees) ∙ inside.stands blocky in
        let room = inside.room blocky in
        data_of_blocks made v 0 n blocky
        ∙ same-range n (place v + 0) (byte made (Block (file_selector v))) (byte from (Block (file_selector v))) (λ k low high. placed.makes.keeps.blocks.bytes v k stands (omega (arith, low)) (omega (arith, high, room)))
        ∙ sym (data_of_blocks from v 0 n blocky))
        (cases_Bool (kind_of v == external)))
        (cases_eq v 0)

    pub made_length : HasPlaceLength v n from → HasPlaceLength v n made
    made_length long some kind = ap (λ (o : Option (List ℕ)). length (unwrap_or o [])) (made_file some kind) ∙ long some kind

  -- where another place is filled
  module _ (w size : ℕ) (made filled : Image) (w_inside : w ≢ 0 → IsInside kept w 0 size) (apart : v ≢ 0 → w ≢ 0 → ShareNoData v w) (same : SameOutside (data_at_place w) made filled) where
    filling_off : (k : ℕ) → k < n → (data_at_place w).bytes (data_file v) (data_start v + k) ≡ false
    unfolding data_at_place
    filling_off k less = by_test (w == 0) refl
      where
        some_v : v ≢ 0
        some_v none = let h = none_here none in omega (arith, h, less)

        by_test : (t : Bool) → (w == 0) ≡ t → (if t then nothing else data_of w).bytes (data_file v) (data_start v + k) ≡ false
        by_test true e = refl
        by_test false e =
            let some_w : w ≢ 0 = of_other w 0 e in
            data_off kept v w n size still_inside (w_inside some_w) (apart some_v some_w) k less

    pub filled_data : data_at filled v 0 n ≡ data_at made v 0 n
    filled_data = data_left (data_at_place w) v n made filled filling_off same

    filling_size : v ≢ 0 → kind_of v ≡ external → (data_at_place w).sizes (External (external_number v)) ≡ false
    unfolding data_at_place data_of
    filling_size some kind = by_test (w == 0) (kind_of w == external) refl refl
      where
        by_test : (s t : Bool) → (w == 0) ≡ s → (kind_of w == external) ≡ t → (if s then nothing else if t then whole (External (external_number w)) else range (Block (file_selector w)) (place w) (byte_size w)).sizes (External (external_number v)) ≡ false
        by_test true t e h = refl
        by_test false false e h = refl
        by_test false true e h = let differ = (apart some (of_other w 0 e)).files kind (eqb-true (kind_of w) external h) in let z : nat_eq (external_number w) (external_number v) ≡ false = grind (arith, nat_tests) in z

    pub filled_length : HasPlaceLength v n made → HasPlaceLength v n filled
    filled_length long some kind = same.lengths (External (external_number v)) (filling_size some kind) ∙ long some kind

  -- where a record names another place, and an old one is freed
  module _ (entry i old : ℕ) (filled image : Image) (kind : kind_of entry ≡ blocks_256) (stands : stands_among kept entry ≡ true) (small : i < 3) (apart_entry : v ≢ 0 → kind_of v ≢ external → ShareNoBlock entry v) (apart_old : v ≢ 0 → old ≢ 0 → ShareNoData old v) (same : SameOutside (either (stream_words entry i) (leaving_of old)) filled image) where
    left_off : (k : ℕ) → k < n → (either (stream_words entry i) (leaving_of old)).bytes (data_file v) (data_start v + k) ≡ false
    left_off k less =
        let some_v : v ≢ 0 = λ none. let h = none_here none in omega (arith, h, less) in
        let a = words_off kept entry i v n kind stands small still_inside (apart_entry some_v) k less in
        let b : (leaving_of old).bytes (data_file v) (data_start v + k) ≡ false = ⊎_elim
        (λ (none : old ≡ 0). subst (λ (F : Footprint). F.bytes (data_file v) (data_start v + k) ≡ false) (sym (ap leaving_of none ∙ leaving_none)) refl)
        (λ (some : old ≢ 0). subst (λ (F : Footprint). F.bytes (data_file v) (data_start v + k) ≡ false) (sym (leaving_some old some)) (freed_off old v k (apart_old some_v some)))
        (cases_eq old 0) in
        rw (a, b) refl

    pub left_data : data_at image v 0 n ≡ data_at filled v 0 n
    left_data = data_left (either (stream_words entry i) (leaving_of old)) v n filled image left_off same

-- Another stream of the record.

module _ (files kept : BlockFiles) (entry i j old w size : ℕ) (from made filled image : Image) (kind : kind_of entry ≡ blocks_256) (stands : stands_among files entry ≡ true) (standing : KeepsStanding files kept) (agrees : Agrees files from) (small : i < 3) (low : j < 3) (differs : i ≢ j)
    (stored : may_keep files (size_word from entry j) (address_word from entry j) ≡ true)
    (there : address_word from entry j ≢ 0 → kind_of (address_word from entry j) ≡ external → has_file from (External (external_number (address_word from entry j))) ≡ true)
    (placed : IsNewPlace files w from made) (w_inside : w ≢ 0 → IsInside kept w 0 size) (w_apart : w ≢ 0 → kind_of w ≢ external → ShareNoBlock entry w)
    (apart_new : address_word from entry j ≢ 0 → w ≢ 0 → ShareNoData (address_word from entry j) w)
    (apart_entry : address_word from entry j ≢ 0 → kind_of (address_word from entry j) ≢ external → ShareNoBlock entry (address_word from entry j))
    (apart_old : address_word from entry j ≢ 0 → old ≢ 0 → ShareNoData old (address_word from entry j))
    (fills : SameOutside (data_at_place w) made filled) (leaves : SameOutside (either (stream_words entry i) (leaving_of old)) filled image) where
  abbrev v : ℕ
  v = address_word from entry j

  abbrev n : ℕ
  n = size_word from entry j

  made_words : KeepsStream entry j from made
  made_words = record_words entry j from made kind low (record_grown files from made entry kind stands agrees placed.makes.keeps.blocks)

  filled_words : KeepsStream entry j made filled
  unfolding data_at_place
  filled_words = by_test (w == 0) refl fills
    where
      none : SameOutside nothing made filled → KeepsStream entry j made filled
      none same = record_words entry j made filled kind low (record_alike entry made filled same)

      by_test : (t : Bool) → (w == 0) ≡ t → SameOutside (if t then nothing else data_of w) made filled → KeepsStream entry j made filled
      by_test true e same = none same
      by_test false e same = let some = of_other w 0 e in record_words entry j made filled kind low (record_same kept entry w size kind (standing entry stands) (w_inside some) (w_apart some) made filled same)

  pub other_held : HoldsStream entry j from image
  other_held =
      let last = stream_kept entry i old filled image small leaves j low differs in
      let size_is : size_word image entry j ≡ n = last.size ∙ filled_words.size ∙ made_words.size in
      let word_is : address_word image entry j ≡ v = last.word ∙ filled_words.word ∙ made_words.word in
      record {
        words = record { size = size_is; word = word_is };
        bytes =
            bytes_at image entry j n v (sym size_is) (sym word_is)
            ∙ left_data files kept n v from agrees stored standing there entry i old filled image kind (standing entry stands) small apart_entry apart_old leaves
            ∙ filled_data files kept n v from agrees stored standing there w size made filled w_inside apart_new fills
            ∙ made_data files kept n v from agrees stored standing there w made placed
            ∙ sym (bytes_at from entry j n v refl refl);
        long = λ long.
            left_length v n entry i old filled image apart_old leaves
            (filled_length files kept n v from agrees stored standing there w size made filled w_inside apart_new fills
            (made_length files kept n v from agrees stored standing there w made placed long));
      }
