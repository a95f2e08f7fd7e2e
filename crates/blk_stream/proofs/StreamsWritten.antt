-- A stream that was written to a new place.
use Rattle.std.proofs.Common.{◌≡◌, ◌≢◌, ℕ, ◌+◌, ◌<◌, Bool, true, false, List, sym, ◌∙◌, ap, subst}
use Rattle.std.specs.Prelude.{length}
use Rattle.blk_model.specs.Effects.{stream_after}
use Rattle.spec_image.specs.Image.{Image}
use Rattle.spec_image.specs.Footprint.{Footprint, SameOutside, either}
use Rattle.spec_image.proofs.Footprints.{outside_wider, within_left}
use Rattle.spec_format.specs.Address.{blocks_256, external, kind_of}
use Rattle.spec_format.specs.BlockFiles.{KeepsHeaders}
use Rattle.spec_format.specs.Sealed.{RecordChecks}
use Rattle.spec_format.specs.Storage.{kind_for}
use Rattle.spec_format.proofs.Finished.{headers-next}
use Rattle.blk_disk.specs.declared.tables.BlockFiles.{BlockFiles}
use Rattle.blk_disk.specs.Tables.{Agrees, stands_among}
use Rattle.blk_entry.specs.Keys.{data_at, data_file, data_start}
use Rattle.blk_stream.specs.Changing.{HasWords, NamesInProgress, stream_words}
use Rattle.blk_stream.specs.Copying.{ShareNoData}
use Rattle.blk_stream.specs.Freeing.{freeing_of, leaving_of}
use Rattle.blk_stream.specs.Moving.{HasPlaceLength, LeavesPlace, data_at_place}
use Rattle.blk_stream.specs.Owned.{KeepsOwned}
use Rattle.blk_stream.specs.Placing.{IsNewPlace, IsSite}
use Rattle.blk_stream.specs.Streams.{address_word, may_keep, size_word, stream_bytes}
use Rattle.blk_stream.specs.Writing.{have_one_storage, size_after}
use Rattle.blk_stream.specs.Written.{HoldsStream, MovesPlace, StreamIsWritten, writing_of}
use Rattle.blk_stream.proofs.KeptMaps.{gains_still, place_keeps_maps}
use Rattle.blk_stream.proofs.OtherStreams.{left_length}
use Rattle.blk_stream.proofs.PlacesFreed.{leaving_some}
use Rattle.blk_stream.proofs.PlacesLeft.{headers_named}
use Rattle.blk_stream.proofs.PlacesMoved.{left_moved, named_moved, naming_keeps_maps}
use Rattle.blk_stream.proofs.StreamPlaces.{bytes_at}
use Rattle.blk_stream.proofs.WriteStages.{filled_headers, freed_off, left_same, left_written, named_same, named_written, site_fits}

module _ (files kept : BlockFiles) (entry i size offset : ℕ) (cut : Bool) (bytes : List ℕ) (from : Image) (kind : kind_of entry ≡ blocks_256) (stands : stands_among files entry ≡ true) (agrees : Agrees files from) (checks : RecordChecks entry from)
    (w : ℕ) (made : Image) (kinds : w ≢ 0 → kind_of w ≡ kind_for size) (placed : IsNewPlace files w from made)
    (filled : Image) (same : SameOutside (data_at_place w) made filled) (written : data_at filled w 0 size ≡ stream_after cut (stream_bytes from entry i) offset bytes) (words_off : (k : ℕ) → k < size → (stream_words entry i).bytes (data_file w) (data_start w + k) ≡ false)
    (long : HasPlaceLength w size filled) (stored : may_keep kept size w ≡ true) (size_is : size ≡ size_after cut (size_word from entry i) offset (length bytes)) (moves : have_one_storage (size_word from entry i) size ≡ false)
    (image : Image) (words : HasWords entry i size w image) (others : (j : ℕ) → j < 3 → j ≢ i → HoldsStream entry j from image) (owned : KeepsOwned files entry i (address_word from entry i) from image) where
  abbrev old : ℕ
  old = address_word from entry i

  -- what is left of it, by the words of the record
  written_by : SameOutside (writing_of files entry i old w size placed.site) from image → RecordChecks entry image → KeepsHeaders from image → data_at image w 0 size ≡ stream_after cut (stream_bytes from entry i) offset bytes → HasPlaceLength w size image → MovesPlace files old w from image
      → StreamIsWritten files kept entry i offset cut bytes from image
  written_by outside good headers data_is length_is moved =
      let s = sym words.size_is in
      let v = sym words.word_is in
      record {
        site = placed.site;
        right = subst (λ (n : ℕ). IsSite files (kind_for n) from placed.site) s (site_fits files size w from made kinds placed).0;
        same = subst (λ (n : ℕ). SameOutside (writing_of files entry i old (address_word image entry i) n placed.site) from image) s (subst (λ (a : ℕ). SameOutside (writing_of files entry i old a size placed.site) from image) v outside);
        checks = good;
        headers = headers;
        size = words.size_is ∙ size_is;
        written = bytes_at image entry i size w s v ∙ data_is;
        place = subst (λ (n : ℕ). may_keep kept n (address_word image entry i) ≡ true) s (subst (λ (a : ℕ). may_keep kept size a ≡ true) v stored);
        long = subst (λ (n : ℕ). HasPlaceLength (address_word image entry i) n image) s (subst (λ (a : ℕ). HasPlaceLength a size image) v length_is);
        stays = λ one. absurd (clash (sym one ∙ ap (have_one_storage (size_word from entry i)) words.size_is ∙ moves));
        others = others;
        moves = subst (λ (a : ℕ). MovesPlace files old a from image) v moved;
        owned = owned;
      }
    where
      clash : true ≡ false → ⊥
      clash e = cc

  -- an old place was freed
  pub left_stream : old ≢ w → old ≢ 0 → (kind_of old ≢ external → stands_among files old ≡ true) → ShareNoData old w → LeavesPlace entry i old size w filled image → StreamIsWritten files kept entry i offset cut bytes from image
  left_stream differs some old_stands apart leaves =
      let gone : (k : ℕ) → k < size → (freeing_of old).bytes (data_file w) (data_start w + k) ≡ false = λ k less. freed_off old w k apart in
      let up : SameOutside (either (stream_words entry i) (leaving_of old)) filled image = subst (λ (F : Footprint). SameOutside (either (stream_words entry i) F) filled image) (sym (leaving_some old some)) leaves.same in
      written_by
      (left_same files entry i size offset cut bytes from kind stands agrees checks w made kinds placed filled same written words_off differs some gone image leaves.same)
      leaves.checks
      (headers-next from filled image (filled_headers files entry i size offset cut bytes from kind stands agrees checks w made kinds placed filled same) leaves.headers)
      (left_written files entry i size offset cut bytes from kind stands agrees checks w made kinds placed filled same written words_off differs some gone image leaves.same)
      (left_length w size entry i old filled image (λ _ _. apart) up long)
      (left_moved files old w from filled (gains_still files w from made filled (place_keeps_maps w made filled same) placed.gains) differs entry i size image old_stands apart leaves)

  -- there was no old place
  pub named_stream : old ≢ w → old ≡ 0 → NamesInProgress entry i filled image → StreamIsWritten files kept entry i offset cut bytes from image
  named_stream differs none named =
      written_by
      (named_same files entry i size offset cut bytes from kind stands agrees checks w made kinds placed filled same written words_off image named.same)
      named.checks
      (headers-next from filled image (filled_headers files entry i size offset cut bytes from kind stands agrees checks w made kinds placed filled same) (headers_named entry i filled image named.same))
      (named_written files entry i size offset cut bytes from kind stands agrees checks w made kinds placed filled same written words_off image named.same)
      (left_length w size entry i old filled image (λ _ some. absurd (some none)) (outside_wider (stream_words entry i) (either (stream_words entry i) (leaving_of old)) filled image (within_left (stream_words entry i) (leaving_of old)) named.same) long)
      (named_moved files old w from filled (gains_still files w from made filled (place_keeps_maps w made filled same) placed.gains) differs image none (naming_keeps_maps entry i filled image named))
