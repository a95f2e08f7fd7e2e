-- A stream is written in its place, which stays: what holds at each word, and what is left.
use Rattle.std.proofs.Common.{◌≡◌, ◌≢◌, ◌⊎◌, inl, inr, ⊎_elim, ℕ, ◌+◌, ◌-◌, ◌<◌, ◌≤◌, Bool, true, false, ◌&&◌, ◌||◌, if◌then◌else◌, List, length, Option, None, Some, refl, sym, ◌∙◌, ap, subst, arith}
use Rattle.std.specs.Prelude.{◌==◌, nat_le, unwrap_or}
use Rattle.std.proofs.lemmas.Bool.{and_parts, cases_Bool, cases_eq, eqb-true}
use Rattle.std.proofs.lemmas.Bool.Decides.{nat_tests}
use Rattle.blk_model.specs.Effects.{stream_after}
use Rattle.std.specs.Option.{ForSome}
use Rattle.spec_image.specs.Told.{Told, Passes}
use Rattle.spec_image.proofs.Runs.{passes_end, passes_weaker}
use Rattle.blk_stream.specs.declared.places.Stored.{Stored}
use Rattle.spec_image.specs.Bytes.{content, word_at}
use Rattle.spec_image.specs.Image.{Block, External, Image, byte, length_of, word}
use Rattle.spec_image.specs.Footprint.{Footprint, SameOutside, IsWithin, either, range, whole}
use Rattle.spec_image.proofs.Footprints.{outside-refl, outside_wider, same_word_outside, within_both, within_left, within_right}
use Rattle.spec_image.proofs.Words.{same-range}
use Rattle.spec_format.specs.Address.{block_count, blocks_256, byte_size, external, external_number, file_selector, kind_of, place}
use Rattle.spec_format.specs.BlockFiles.{is_among, KeepsHeaders}
use Rattle.spec_format.specs.Claims.{is_in_file}
use Rattle.spec_format.specs.Maps.{AreAllocations, is_block_marked}
use Rattle.spec_format.specs.Storage.{blocks_for, kind_for}
use Rattle.spec_format.proofs.SpareHeaders.{past_header}
use Rattle.spec_folder.specs.Entries.{most_stream_bytes, stream, stored_stream, stored_streams}
use Rattle.blk_disk.specs.declared.tables.BlockFiles.{BlockFiles}
use Rattle.blk_disk.specs.Tables.{Agrees, all_files, stands_among}
use Rattle.blk_disk.proofs.Ranges.{stands_linked}
use Rattle.blk_entry.specs.Keys.{IsInside, data_at, data_file, data_start}
use Rattle.blk_entry.specs.Writing.{ShareNoBlock}
use Rattle.blk_entry.proofs.KeyPlaces.{stores_is}
use Rattle.blk_alloc.specs.Owning.{is_of}
use Rattle.blk_alloc.specs.Laws.{SparesHeadersAndSizes}
use Rattle.blk_stream.specs.Streams.{IsStoredAt, address_place, address_word, may_keep, size_place, size_word, streams_at}
use Rattle.blk_stream.specs.Copying.{ShareNoData}
use Rattle.blk_stream.specs.Changing.{HasWords, record_word, stream_words}
use Rattle.blk_stream.specs.Dropping.{KeepsStream}
use Rattle.blk_stream.specs.Freeing.{is_block_of}
use Rattle.blk_stream.specs.Inside.{HasStreamLength, WritesInProgress, WritesInside, data_of, size_words}
use Rattle.blk_stream.specs.Moving.{HasPlaceLength, data_at_place}
use Rattle.blk_stream.specs.Placing.{Nowhere, placing_of}
use Rattle.blk_stream.specs.Writing.{have_one_storage, size_after}
use Rattle.blk_stream.specs.Written.{CanBeWritten, HoldsStream, MovesPlace, StreamIsWritten, WritesStream, giving_up_of, moved_by, places_of_entry, writing_of}
use Rattle.blk_stream.proofs.Apart.{of_blocks, owned_marked}
use Rattle.blk_stream.proofs.Fillings.{data_off, sizes_off}
use Rattle.blk_stream.proofs.InsideSteps.{data_blocks, data_external, record_off}
use Rattle.blk_stream.proofs.KeptMaps.{KeepsMaps, data_keeps_maps, spared_maps}
use Rattle.blk_stream.proofs.Moved.{parts_of, record_apart, stream_among, streams_apart}
use Rattle.blk_alloc.proofs.Changing.{within-trans}
use Rattle.blk_stream.proofs.Naming.{apart_place, words_off_other, words_spare}
use Rattle.blk_stream.proofs.OwnedKept.{inside_owned}
use Rattle.blk_stream.proofs.PlacesFreed.{blocky_of, in_file_blocks, in_file_external}
use Rattle.blk_stream.proofs.PlacesLeft.{headers_behind, read_size, read_word}
use Rattle.blk_stream.proofs.Placements.{no_range, none_in, place_some}
use Rattle.blk_stream.proofs.PlacesMoved.{block_parts}
use Rattle.blk_stream.proofs.Drops.{no_block}
use Rattle.blk_stream.proofs.InsideData.{moved_data}
use Rattle.blk_stream.specs.Owned.{KeepsOwned}
use Rattle.spec_format.specs.Sealed.{RecordChecks, record_at}
use Rattle.spec_format.proofs.Finished.{headers-kept}
use Rattle.std.specs.Option.{option_and_then}
use Rattle.spec_folder.specs.View.{RecordFields, address_of, data_size_of, entry_at, fields_at, fields_of, stands_as, store_of, stored_at}
use Rattle.blk_stream.proofs.StreamMoved.{stream_bytes_are}
use Rattle.blk_stream.proofs.StreamPlaces.{IsStream, address_at, keeps_inside, may_both, may_parts, none_word, size_at, stored_some, stored_is, stream_facts, streams_parts, zero_kept}
use Rattle.blk_stream.proofs.WriteStages.{off_within, words_off}

pub size_within : (entry i : ℕ) → IsWithin (size_words entry i) (stream_words entry i)
size_within entry i =
    within_both (record_word entry (size_place i)) (record_word entry 92) (stream_words entry i) (within_left (record_word entry (size_place i)) (either (record_word entry (address_place i)) (record_word entry 92)))
    (within-trans (record_word entry 92) (either (record_word entry (address_place i)) (record_word entry 92)) (stream_words entry i) (within_right (record_word entry (address_place i)) (record_word entry 92)) (within_right (record_word entry (size_place i)) (either (record_word entry (address_place i)) (record_word entry 92))))

size_spares : (entry i : ℕ) → SparesHeadersAndSizes (size_words entry i)
size_spares entry i = record { headers = λ n k low. off_within (size_words entry i) (stream_words entry i) (Block n) k (size_within entry i) ((words_spare entry i).headers n k low); sizes = λ file. refl }

-- the headers are kept
headers_inside : (entry i w : ℕ) (from image : Image) → SameOutside (either (data_of w) (size_words entry i)) from image → KeepsHeaders from image
headers_inside entry i w from image same = ⊎_elim
    (λ (t : (kind_of w == external) ≡ true).
    headers_behind (either (whole (External (external_number w))) (size_words entry i)) from image (record { bytes = λ m k low. (size_spares entry i).headers m k low }) (λ k. refl) refl (λ n. refl)
    (subst (λ (F : Footprint). SameOutside (either F (size_words entry i)) from image) (data_external w (eqb-true (kind_of w) external t)) same))
    (λ (t : (kind_of w == external) ≡ false).
    headers_behind (either (range (Block (file_selector w)) (place w) (byte_size w)) (size_words entry i)) from image
    (record { bytes = λ m k low. let a = apart_place (Block (file_selector w)) (Block m) (place w) (byte_size w) k (inl (let p = past_header w in omega (arith, p, low))) in let b = (size_spares entry i).headers m k low in rw (a, b) refl }) (λ k. refl) refl (λ n. refl)
    (subst (λ (F : Footprint). SameOutside (either F (size_words entry i)) from image) (data_blocks w (blocky_of w t)) same))
    (cases_Bool (kind_of w == external))

both_keep : (from mid image : Image) → KeepsMaps from mid → KeepsMaps mid image → KeepsMaps from image
both_keep from mid image one two = record {
  marks = λ n b few. two.marks n b few ∙ one.marks n b few;
  allocations = λ n list are. two.allocations n list (one.allocations n list are);
  empty = λ n few was. two.empty n (let e = one.blocks n in omega (arith, e, few)) (one.empty n few was);
  updating = λ n. two.updating n ∙ one.updating n;
  blocks = λ n. two.blocks n ∙ one.blocks n;
}

moved_nowhere : (w n : ℕ) (words : List ℕ) → moved_by w w n words ≡ words
unfolding moved_by
moved_nowhere w n words = let t : (w == w) ≡ true = grind (arith, nat_tests) in rw t refl

module _ (files : BlockFiles) (entry i size w : ℕ) (kind : kind_of entry ≡ blocks_256) (stands : stands_among files entry ≡ true) (small : i < 3)
    (from : Image) (agrees : Agrees files from) (can : CanBeWritten files entry i size from) (is_word : address_word from entry i ≡ w) (some : w ≢ 0) (fits : may_keep files size w ≡ true) where
  known : (j : ℕ) → j < 3 → IsStream files from (size_word from entry j) (address_word from entry j) (stream j can.has.streams)
  known j low = stream_facts files from entry j can.has.streams agrees low can.has.is

  abbrev E : Footprint
  E = either (data_of w) (size_words entry i)

  apart_record : kind_of w ≢ external → ShareNoBlock entry w
  apart_record = subst (λ (v : ℕ). kind_of v ≢ external → ShareNoBlock entry v) is_word (record_apart entry from can.apart i small kind)

  pub inside_apart : kind_of w ≢ external → ShareNoBlock entry w
  inside_apart = apart_record

  inside : IsInside files w 0 size
  inside = keeps_inside files size w 0 size fits (omega arith)

  abbrev W : Footprint
  W = writing_of files entry i w w size Nowhere

  all_within : IsWithin E W
  all_within =
      let rest : Footprint = either (data_at_place w) (placing_of files (kind_for size) Nowhere) in
      let given : Footprint = either (giving_up_of w w) rest in
      within_both (data_of w) (size_words entry i) W
      (subst (λ (F : Footprint). IsWithin F W) (place_some w some)
      (within-trans (data_at_place w) rest W (within_left (data_at_place w) (placing_of files (kind_for size) Nowhere))
      (within-trans rest given W (within_right (giving_up_of w w) rest) (within_right (stream_words entry i) given))))
      (within-trans (size_words entry i) (stream_words entry i) W (size_within entry i) (within_left (stream_words entry i) given))

  same_here : (image : Image) → SameOutside E from image → SameOutside W from image
  same_here image same = outside_wider E W from image all_within same

  -- at each word
  pub inside_writes : (offset : ℕ) (cut : Bool) (bytes : List ℕ) (image : Image) → WritesInProgress entry i w from image → WritesStream files entry i size offset cut bytes from image
  inside_writes offset cut bytes image h = record {
    new = w;
    site = Nowhere;
    right = tt;
    same = subst (λ (v : ℕ). SameOutside (writing_of files entry i v w size Nowhere) from image) (sym is_word) (same_here image h.same);
    checks = h.checks;
    headers = headers_inside entry i w from image h.same;
    filled = λ differs. absurd (differs is_word);
    order = λ differs. absurd (differs is_word);
  }

  -- The words of the record.

  word_stays : (image : Image) → SameOutside E from image → (at : ℕ) → at + 4 ≤ 96 → ((k : ℕ) → place entry + at ≤ k → k < place entry + at + 4 → (size_words entry i).bytes (Block (file_selector entry)) k ≡ false) → word image (Block (file_selector entry)) (place entry + at) ≡ word from (Block (file_selector entry)) (place entry + at)
  word_stays image same at fits_record off =
      same_word_outside E from image (Block (file_selector entry)) (place entry + at) same
      (λ k low high. let a = record_off files entry w size kind stands inside apart_record k (omega (arith, low)) (omega (arith, high, fits_record)) in let b = off k low high in rw (a, b) refl)

  address_stays : (image : Image) → SameOutside E from image → address_word image entry i ≡ w
  address_stays image same =
      address_at image entry i small
      ∙ word_stays image same (address_place i) (omega (arith, small))
      (λ k low high.
      let a = apart_place (Block (file_selector entry)) (Block (file_selector entry)) (place entry + size_place i) 4 k (inr (omega (arith, low, small))) in
      let b = apart_place (Block (file_selector entry)) (Block (file_selector entry)) (place entry + 92) 4 k (inl (omega (arith, high, small))) in
      rw (a, b) refl)
      ∙ sym (address_at from entry i small) ∙ is_word

  -- Another stream.

  module _ (j : ℕ) (low : j < 3) (not_it : j ≢ i) (image : Image) (same : SameOutside E from image) where
    abbrev X : ℕ
    X = address_word from entry j

    abbrev N : ℕ
    N = size_word from entry j

    other_off : (at : ℕ) → (at ≡ size_place j) ⊎ (at ≡ address_place j) → (k : ℕ) → place entry + at ≤ k → k < place entry + at + 4 → (size_words entry i).bytes (Block (file_selector entry)) k ≡ false
    other_off at is k first last = off_within (size_words entry i) (stream_words entry i) (Block (file_selector entry)) k (size_within entry i) (words_off_other entry i j at small low (λ e. not_it (sym e)) is k first last)

    words_stay : KeepsStream entry j from image
    words_stay = record {
      size = size_at image entry j low ∙ word_stays image same (size_place j) (omega (arith, low)) (other_off (size_place j) (inl refl)) ∙ sym (size_at from entry j low);
      word = address_at image entry j low ∙ word_stays image same (address_place j) (omega (arith, low)) (other_off (address_place j) (inr refl)) ∙ sym (address_at from entry j low);
    }

    other_inside : IsInside files X 0 N
    other_inside = keeps_inside files N X 0 N (known j low).keep (omega arith)

    shares : X ≢ 0 → ShareNoData X w
    shares some_x = subst (λ (v : ℕ). ShareNoData X v) is_word (streams_apart entry from can.apart j i low small not_it some_x (λ none. some (sym is_word ∙ none)))

    bytes_stay : data_at image X 0 N ≡ data_at from X 0 N
    bytes_stay = ⊎_elim
        (λ (none : N ≡ 0). no_range image (data_file X) (data_start X + 0) N none ∙ sym (no_range from (data_file X) (data_start X + 0) N none))
        (λ (more : N ≢ 0).
        let some_x : X ≢ 0 = stored_some files N X (omega (arith, more)) (may_parts files N X (known j low).keep).1 in
        same-range N (data_start X + 0) (byte image (data_file X)) (byte from (data_file X))
        (λ k first last. same.bytes (data_file X) k (subst (λ (q : ℕ). E.bytes (data_file X) q ≡ false) (reach k first) (all_off some_x (k - data_start X) (omega (arith, first, last))))))
        (cases_eq N 0)
      where
        reach : (k : ℕ) → data_start X + 0 ≤ k → data_start X + (k - data_start X) ≡ k
        reach k first = omega (arith, first)

        all_off : X ≢ 0 → (k : ℕ) → k < N → E.bytes (data_file X) (data_start X + k) ≡ false
        all_off some_x k less =
            let a = data_off files X w N size other_inside inside (shares some_x) k less in
            let b = off_within (size_words entry i) (stream_words entry i) (data_file X) (data_start X + k) (size_within entry i) (words_off files entry i X N kind stands small other_inside (record_apart entry from can.apart j low kind) k less) in
            rw (a, b) refl

    length_stays : HasPlaceLength X N from → HasPlaceLength X N image
    length_stays was some_x kind_x =
        same.lengths (External (external_number X)) (let a = sizes_off X w (shares some_x).files kind_x in rw a refl) ∙ was some_x kind_x

    pub inside_holds : HoldsStream entry j from image
    inside_holds = record {
      words = words_stay;
      bytes = stream_bytes_are image entry j X N words_stay.word words_stay.size ∙ bytes_stay ∙ sym (stream_bytes_are from entry j X N refl refl);
      long = length_stays;
    }

  -- Maps.

  w_stands : kind_of w ≢ external → stands_among files w ≡ true
  w_stands = inside.stands

  moves_nowhere : (image : Image) → KeepsMaps from image → MovesPlace files w w from image
  moves_nowhere image kept = record {
    marks = λ n b among few. kept.marks n b few ∙ marked n b (is_block_of w n b) refl;
    allocations = λ n list among are there. subst (λ (l : List ℕ). AreAllocations image n l) (sym (moved_nowhere w n list)) (kept.allocations n list are);
    fresh = λ n none in_it. absurd (not_fresh n none in_it);
    empty = λ n among few was. kept.empty n few was;
    gone = λ differs. absurd (differs refl);
  }
    where
      here : (n b : ℕ) → is_block_of w n b ≡ true → is_block_marked from n b ≡ true
      here n b e =
          let p = block_parts w n b e in
          let of_w : is_of w (file_selector w) b ≡ true = subst (λ (m : ℕ). is_of w m b ≡ true) (sym p.1.0) (sym (of_blocks w n b p.0) ∙ e) in
          subst (λ (m : ℕ). is_block_marked from m b ≡ true) p.1.0 (owned_marked files from w b agrees (w_stands p.0) p.0 (can.owned w (subst (λ (v : ℕ). is_among (places_of_entry entry from) v ≡ true) is_word (stream_among entry i from small)) p.0) of_w)

      marked : (n b : ℕ) (t : Bool) → is_block_of w n b ≡ t → is_block_marked from n b ≡ (if t then true else if t then false else is_block_marked from n b)
      marked n b false e = refl
      marked n b true e = here n b e

      not_fresh : (n : ℕ) → is_among (all_files files) n ≡ false → is_in_file n w ≡ true → ⊥
      not_fresh n none in_it = ⊎_elim
          (λ (t : (kind_of w == external) ≡ true). clash (sym in_it ∙ in_file_external n w (eqb-true (kind_of w) external t)))
          (λ (t : (kind_of w == external) ≡ false).
          let same : file_selector w ≡ n = eqb-true (file_selector w) n (sym (in_file_blocks n w (blocky_of w t)) ∙ in_it) in
          clash (sym (stands_linked files w (w_stands (blocky_of w t))) ∙ ap (is_among (all_files files)) same ∙ none))
          (cases_Bool (kind_of w == external))
        where
          clash : true ≡ false → ⊥
          clash e = cc

  -- what is left
  pub inside_written : (old offset : ℕ) (cut : Bool) (bytes : List ℕ) (image : Image) → size_word from entry i ≡ old → size ≡ size_after cut old offset (length bytes) → WritesInProgress entry i w from image → WritesInside entry i w old size offset bytes from image → StreamIsWritten files files entry i offset cut bytes from image
  inside_written old offset cut bytes image was is h done =
      let addr : address_word image entry i ≡ w = address_stays image h.same in
      let sized : size_word image entry i ≡ size = done.size_is was in
      let first = data_keeps_maps w from done.middle done.data_first in
      let second = spared_maps (size_words entry i) done.middle image (size_spares entry i) done.words_then in
      record {
        site = Nowhere;
        right = tt;
        same = subst (λ (v : ℕ). SameOutside (writing_of files entry i v (address_word image entry i) (size_word image entry i) Nowhere) from image) (sym is_word)
            (subst (λ (v : ℕ). SameOutside (writing_of files entry i w v (size_word image entry i) Nowhere) from image) (sym addr)
            (subst (λ (n : ℕ). SameOutside (writing_of files entry i w w n Nowhere) from image) (sym sized) (same_here image h.same)));
        checks = h.checks;
        headers = headers_inside entry i w from image h.same;
        size = sized ∙ is ∙ ap (λ (n : ℕ). size_after cut n offset (length bytes)) (sym was);
        written = stream_bytes_are image entry i w size addr sized ∙ done.written cut is ∙ ap (λ (l : List ℕ). stream_after cut l offset bytes) (sym (stream_bytes_are from entry i w old is_word was));
        place = subst (λ (n : ℕ). may_keep files n (address_word image entry i) ≡ true) (sym sized) (subst (λ (v : ℕ). may_keep files size v ≡ true) (sym addr) fits);
        long = subst (λ (n : ℕ). HasPlaceLength (address_word image entry i) n image) (sym sized) (subst (λ (v : ℕ). HasPlaceLength v size image) (sym addr) (λ other. done.long));
        stays = λ one. addr ∙ sym is_word;
        others = λ j low not_it. inside_holds j low not_it image h.same;
        moves = subst (λ (v : ℕ). MovesPlace files v (address_word image entry i) from image) (sym is_word) (subst (λ (v : ℕ). MovesPlace files w v from image) (sym addr) (moves_nowhere image (both_keep from done.middle image first second)));
        owned = subst (λ (v : ℕ). KeepsOwned files entry i v from image) (sym is_word) (inside_owned files entry i w size from image inside h.same);
      }

-- The exact length of an external stream.

stored_long : (image : Image) (fields : RecordFields) (i : ℕ) (bytes : List ℕ) → stored_stream (store_of image) fields i ≡ Some bytes → 0 < data_size_of fields i → kind_of (address_of fields i) ≡ external → length_of image (External (external_number (address_of fields i))) ≡ data_size_of fields i
unfolding stored_stream store_of
stored_long image fields i bytes e some kind = by_test (nat_le (data_size_of fields i) most_stream_bytes) e
  where
    none_some : None ≡ Some bytes → ⊥
    none_some h = cc

    by_test : (t : Bool) → (if t then stored_at image (data_size_of fields i) (address_of fields i) else None) ≡ Some bytes → length_of image (External (external_number (address_of fields i))) ≡ data_size_of fields i
    by_test true h = ⊎_elim (λ outside. outside.1.0) (λ within. absurd (within.0 kind)) (stored_is image (data_size_of fields i) (address_of fields i) bytes some h).at
    by_test false h = absurd (none_some h)

pub stream_long : (image : Image) (entry i : ℕ) (streams : List (List ℕ)) → i < 3 → streams_at image entry ≡ Some streams → 0 < size_word image entry i → kind_of (address_word image entry i) ≡ external → length_of image (External (external_number (address_word image entry i))) ≡ size_word image entry i
unfolding streams_at fields_at
stream_long image entry i streams small e some kind = by_stands (stands_as image blocks_256 entry) e
  where
    none_some : None ≡ Some streams → ⊥
    none_some h = cc

    by_stands : (t : Bool) → option_and_then (stored_streams (store_of image)) (if t then Some (fields_of (entry_at image entry)) else None) ≡ Some streams → length_of image (External (external_number (address_word image entry i))) ≡ size_word image entry i
    by_stands true h = stored_long image (fields_of (entry_at image entry)) i (stream i streams) (streams_parts image (fields_of (entry_at image entry)) streams h i small) some kind
    by_stands false h = absurd (none_some h)

-- Nothing is written over a stream without bytes.

module _ (files : BlockFiles) (entry i size offset : ℕ) (cut : Bool) (bytes : List ℕ) (from : Image) (none : size_word from entry i ≡ 0) (no_word : address_word from entry i ≡ 0) (checks : RecordChecks entry from) (is_none : size ≡ 0) (is : size ≡ size_after cut 0 offset (length bytes)) (few : offset + length bytes ≤ size) (stands : stands_among files entry ≡ true) where
  pub nothing_writes : WritesStream files entry i size offset cut bytes from from
  nothing_writes = record {
    new = 0;
    site = Nowhere;
    right = tt;
    same = outside-refl (writing_of files entry i (address_word from entry i) 0 size Nowhere) from;
    checks = checks;
    headers = headers-kept from;
    filled = λ differs. absurd (differs no_word);
    order = λ differs. absurd (differs no_word);
  }

  pub nothing_written : StreamIsWritten files files entry i offset cut bytes from from
  nothing_written = record {
    site = Nowhere;
    right = tt;
    same = outside-refl (writing_of files entry i (address_word from entry i) (address_word from entry i) (size_word from entry i) Nowhere) from;
    checks = checks;
    headers = headers-kept from;
    size = none ∙ sym is_none ∙ is ∙ ap (λ (n : ℕ). size_after cut n offset (length bytes)) (sym none);
    written = stream_bytes_are from entry i 0 0 no_word none
        ∙ subst (λ (n : ℕ). data_at from 0 0 n ≡ stream_after cut (data_at from 0 0 0) offset bytes) is_none
        (moved_data from from 0 0 0 size offset cut bytes is
        (λ k low in_old. absurd (omega (arith, in_old))) (λ k low up. absurd (omega (arith, low, few, is_none))) (λ k up high. absurd (omega (arith, high, few, is_none))) (λ k up small in_old. absurd (omega (arith, in_old))) few)
        ∙ ap (λ (l : List ℕ). stream_after cut l offset bytes) (sym (stream_bytes_are from entry i 0 0 no_word none));
    place = subst (λ (n : ℕ). may_keep files n (address_word from entry i) ≡ true) (sym none) (subst (λ (v : ℕ). may_keep files 0 v ≡ true) (sym no_word) (zero_kept files));
    long = λ some. absurd (some no_word);
    stays = λ one. refl;
    others = λ j low not_it. record { words = record { size = refl; word = refl }; bytes = refl; long = λ was. was };
    moves = subst (λ (v : ℕ). MovesPlace files v v from from) (sym no_word) no_moves;
    owned = record { blocks = λ v k others low high off. refl; externals = λ number there differs. refl };
  }
    where
      no_moves : MovesPlace files 0 0 from from
      no_moves = record {
        marks = λ n b among few. unmarked n b;
        allocations = λ n list among are there. subst (λ (l : List ℕ). AreAllocations from n l) (sym (moved_nowhere 0 n list)) are;
        fresh = λ n out in_it. absurd (none_in n in_it);
        empty = λ n among few was. was;
        gone = λ differs. absurd (differs refl);
      }
        where
          unmarked : (n b : ℕ) → is_block_marked from n b ≡ (if is_block_of 0 n b then true else if is_block_of 0 n b then false else is_block_marked from n b)
          unmarked n b = sym (ap (λ (t : Bool). if t then true else if t then false else is_block_marked from n b) (no_block n b))

-- Sizes.

pub size_few : (cut : Bool) (old offset n : ℕ) → offset + n ≤ size_after cut old offset n
unfolding size_after
size_few true old offset n = omega arith
size_few false old offset n = omega arith

pub size_most : (cut : Bool) (old offset n most : ℕ) → old ≤ most → offset + n ≤ most → size_after cut old offset n ≤ most
unfolding size_after
size_most true old offset n most low high = omega (arith, high)
size_most false old offset n most low high = omega (arith, low, high)

-- what one storage says of two sizes
record HaveOneStorage (one other : ℕ) : Type 0 where
  some : other ≢ 0
  kinds : kind_for one ≡ kind_for other
  blocks : blocks_for one ≡ blocks_for other

one_parts : (one other : ℕ) → one ≢ 0 → have_one_storage one other ≡ true → HaveOneStorage one other
unfolding have_one_storage
one_parts one other more e =
    let a : (one == 0) ≡ false = grind (arith, nat_tests) in
    let h : (if other == 0 then false else ((kind_for one == kind_for other) && (blocks_for one == blocks_for other))) ≡ true = rw a at e in
    by_test (other == 0) refl h
  where
    clash : false ≡ true → ⊥
    clash e = cc

    by_test : (t : Bool) → (other == 0) ≡ t → (if t then false else ((kind_for one == kind_for other) && (blocks_for one == blocks_for other))) ≡ true → HaveOneStorage one other
    by_test true t h = absurd (clash h)
    by_test false t h =
        let p = and_parts (kind_for one == kind_for other) (blocks_for one == blocks_for other) h in
        record {
          some = λ z. let y : (other == 0) ≡ true = grind (arith, nat_tests) in clash (sym t ∙ y);
          kinds = eqb-true (kind_for one) (kind_for other) p.0;
          blocks = eqb-true (blocks_for one) (blocks_for other) p.1;
        }

pub one_none : (size : ℕ) → have_one_storage 0 size ≡ true → size ≡ 0
unfolding have_one_storage
one_none size e = eqb-true size 0 e

-- a storage that stays is that of the new size
pub storage_stays : (files : BlockFiles) (old size w : ℕ) → w ≢ 0 → may_keep files old w ≡ true → have_one_storage old size ≡ true → size ≤ most_stream_bytes → may_keep files size w ≡ true
storage_stays files old size w some keep one most =
    let more : old ≢ 0 = (λ z. some (none_word files w (subst (λ (n : ℕ). may_keep files n w ≡ true) z keep))) in
    let p = one_parts old size more one in
    let address = (parts_of files old w more keep).0 in
    may_both files size w most
    (stores_is files size w address (let d = p.some in omega (arith, d))
    ∙ ap (λ (k : ℕ). (kind_of w == k) && ((kind_of w == external) || ((block_count w == blocks_for size) && stands_among files w))) (sym p.kinds)
    ∙ ap (λ (b : ℕ). (kind_of w == kind_for old) && ((kind_of w == external) || ((block_count w == b) && stands_among files w))) (sym p.blocks)
    ∙ sym (stores_is files old w address (omega (arith, more)))
    ∙ (may_parts files old w keep).1)

-- an external stream has its exact length
pub long_here : (from : Image) (entry i w old : ℕ) (streams : List (List ℕ)) → i < 3 → streams_at from entry ≡ Some streams → address_word from entry i ≡ w → size_word from entry i ≡ old → 0 < old → HasStreamLength w old from
long_here from entry i w old streams small has is_word is_size some =
    subst (λ (v : ℕ). HasStreamLength v old from) is_word
    (λ kind. stream_long from entry i streams small has (omega (arith, is_size, some)) kind ∙ is_size)

-- The call.

module _ (files : BlockFiles) (entry i size addr : ℕ) (old : Stored) (offset : ℕ) (cut : Bool) (bytes : List ℕ) (kind : kind_of entry ≡ blocks_256) (stands : stands_among files entry ≡ true) (small : i < 3)
    (some : addr ≢ 0) (keep : may_keep files old.size addr ≡ true) (fits : may_keep files size addr ≡ true) (addr_is : old.addr ≡ Some addr) (is : size ≡ size_after cut old.size offset (length bytes))
    (a : Told) (agrees : ForSome a.files (Agrees files)) (words : ForSome a.files (HasWords entry i old.size (unwrap_or old.addr 0))) (b : Told)
    (stops : ForSome a.files (λ from. (kind_of addr ≢ external → ShareNoBlock entry addr) → Passes a b (WritesInProgress entry i addr from))) where
  word_is : (from : Image) → a.files ≡ Some from → address_word from entry i ≡ addr
  word_is from there = (words from there).word_is ∙ ap (λ (o : Option ℕ). unwrap_or o 0) addr_is

  can_now : (from : Image) → CanBeWritten files entry i (size_after cut old.size offset (length bytes)) from → CanBeWritten files entry i size from
  can_now from can = subst (λ (n : ℕ). CanBeWritten files entry i n from) (sym is) can

  apart_now : (from : Image) → a.files ≡ Some from → CanBeWritten files entry i size from → kind_of addr ≢ external → ShareNoBlock entry addr
  apart_now from there can = inside_apart files entry i size addr kind stands small from (agrees from there) can (word_is from there) some fits

  pub inside_told : ForSome a.files (λ from. CanBeWritten files entry i (size_after cut old.size offset (length bytes)) from → Passes a b (WritesStream files entry i (size_after cut old.size offset (length bytes)) offset cut bytes from))
  inside_told from there can =
      let now = can_now from can in
      let word = inside_writes files entry i size addr kind stands small from (agrees from there) now (word_is from there) some fits offset cut bytes in
      subst (λ (n : ℕ). Passes a b (WritesStream files entry i n offset cut bytes from)) is (passes_weaker (stops from there (apart_now from there now)) word word)

  pub inside_end : ForSome a.files (λ from. HasStreamLength addr old.size from → (kind_of addr ≢ external → ShareNoBlock entry addr) → ForSome b.files (WritesInside entry i addr old.size size offset bytes from))
      → ForSome a.files (λ from. CanBeWritten files entry i (size_after cut old.size offset (length bytes)) from → ForSome b.files (StreamIsWritten files files entry i offset cut bytes from))
  inside_end written from there can image now =
      let can_here = can_now from can in
      let apart = apart_now from there can_here in
      let more : 0 < old.size = (let d : old.size ≢ 0 = (λ z. some (none_word files addr (subst (λ (n : ℕ). may_keep files n addr ≡ true) z keep))) in omega (arith, d)) in
      let full = long_here from entry i addr old.size can_here.has.streams small can_here.has.is (word_is from there) (words from there).size_is more in
      inside_written files entry i size addr kind stands small from (agrees from there) can_here (word_is from there) some fits old.size offset cut bytes image (words from there).size_is is
      (passes_end (stops from there apart) image now) (written from there full apart image now)

-- The words of a record that was read.
pub read_words : (image : Image) (entry i : ℕ) (bytes : List ℕ) (stored : Stored) → kind_of entry ≡ blocks_256 → i < 3 → bytes ≡ record_at image entry → IsStoredAt (word_at (content bytes) (size_place i)) (word_at (content bytes) (address_place i)) stored → HasWords entry i stored.size (unwrap_or stored.addr 0) image
read_words image entry i bytes stored kind small read is = record {
  size_is = sym (read_size image entry i bytes kind small read) ∙ sym is.size_is;
  word_is = sym (read_word image entry i bytes kind small read) ∙ sym is.word_is;
}

-- before anything is written
pub begun_writes : (files : BlockFiles) (entry i size offset : ℕ) (cut : Bool) (bytes : List ℕ) (from : Image) → RecordChecks entry from → WritesStream files entry i size offset cut bytes from from
begun_writes files entry i size offset cut bytes from checks = record {
  new = address_word from entry i;
  site = Nowhere;
  right = tt;
  same = outside-refl (writing_of files entry i (address_word from entry i) (address_word from entry i) size Nowhere) from;
  checks = checks;
  headers = headers-kept from;
  filled = λ differs. absurd (differs refl);
  order = λ differs. absurd (differs refl);
}
