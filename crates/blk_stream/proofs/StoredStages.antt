-- A stream whose storage stays is written where it lies.
use Rattle.std.proofs.Common.{◌≡◌, ◌≢◌, inl, inr, ℕ, ◌<◌, true, Bool, List, length, Option, Some, refl, sym, ◌∙◌, ap, subst, arith}
use Rattle.std.specs.Prelude.{unwrap_or}
use Rattle.std.specs.Option.{ForSome}
use Rattle.spec_image.specs.Image.{AreBytes, External, Image}
use Rattle.spec_image.specs.Footprint.{Footprint, IsWithin, SameOutside, either}
use Rattle.spec_image.specs.Told.{Passes, Told}
use Rattle.spec_image.proofs.Footprints.{outside-refl, outside_wider, within_both, within_left, within_right}
use Rattle.spec_image.proofs.Runs.{passes_end, passes_weaker}
use Rattle.spec_format.specs.Address.{blocks_256, external, external_number, kind_of}
use Rattle.spec_format.specs.Sealed.{RecordChecks}
use Rattle.blk_disk.specs.declared.tables.BlockFiles.{BlockFiles}
use Rattle.blk_disk.specs.Tables.{Agrees, stands_among}
use Rattle.blk_entry.specs.Writing.{ShareNoBlock}
use Rattle.blk_alloc.proofs.Changing.{within-trans}
use Rattle.blk_stream.specs.declared.places.Stored.{Stored}
use Rattle.blk_stream.specs.Changing.{HasWords, stream_words}
use Rattle.blk_stream.specs.Inside.{HasStreamLength, data_of, size_words}
use Rattle.blk_stream.specs.Moving.{data_at_place}
use Rattle.blk_stream.specs.Stages.{HasPlaceFile, IsWrittenByStage, WritesByStage, WritesInPlace, WritesKeepingFiles}
use Rattle.blk_stream.specs.Streams.{address_word, may_keep, size_word}
use Rattle.blk_stream.specs.Writing.{have_one_storage, size_after}
use Rattle.blk_stream.specs.Written.{CanBeWritten}
use Rattle.blk_stream.proofs.Placements.{place_some}
use Rattle.blk_stream.proofs.PlaceStages.{still_whole}
use Rattle.blk_stream.proofs.RecordSeals.{shown_same, small_record}
use Rattle.blk_stream.proofs.StreamInside.{inside_apart, long_here, size_within}
use Rattle.blk_stream.proofs.StreamMoved.{long_there}
use Rattle.blk_stream.proofs.StreamPlaces.{none_word}

-- before anything is written
pub begun_stages : (files kept : BlockFiles) (entry i size offset : ℕ) (bytes : List ℕ) (from : Image) → WritesByStage files kept entry i size offset bytes from from
begun_stages files kept entry i size offset bytes from = inr (inl (inl (inl (still_whole from))))

-- a stream without bytes that gets none
pub nothing_in_place : (entry i size : ℕ) (from : Image) → kind_of entry ≡ blocks_256 → AreBytes from → have_one_storage (size_word from entry i) size ≡ true → RecordChecks entry from → WritesInPlace entry i size from from
nothing_in_place entry i size from kind bytes one checks = record { one = one; same = outside-refl (either (stream_words entry i) (data_at_place (address_word from entry i))) from; checks = checks; shown = shown_same from from entry kind (small_record from entry bytes) refl checks; files = λ file. refl }

-- what is written inside a place is within it and the words of the record
place_within : (entry i w : ℕ) → w ≢ 0 → IsWithin (either (data_of w) (size_words entry i)) (either (stream_words entry i) (data_at_place w))
place_within entry i w some =
    let F : Footprint = either (stream_words entry i) (data_at_place w) in
    within_both (data_of w) (size_words entry i) F (subst (λ (D : Footprint). IsWithin D F) (place_some w some) (within_right (stream_words entry i) (data_at_place w)))
    (within-trans (size_words entry i) (stream_words entry i) F (size_within entry i) (within_left (stream_words entry i) (data_at_place w)))

module _ (files : BlockFiles) (entry i size addr : ℕ) (old : Stored) (offset : ℕ) (cut : Bool) (bytes : List ℕ) (kind : kind_of entry ≡ blocks_256) (stands : stands_among files entry ≡ true) (small : i < 3)
    (some : addr ≢ 0) (keep : may_keep files old.size addr ≡ true) (fits : may_keep files size addr ≡ true) (addr_is : old.addr ≡ Some addr) (one : have_one_storage old.size size ≡ true) (is : size ≡ size_after cut old.size offset (length bytes))
    (a : Told) (agrees : ForSome a.files (Agrees files)) (words : ForSome a.files (HasWords entry i old.size (unwrap_or old.addr 0))) (b : Told)
    (stages : ForSome a.files (λ from. (kind_of addr ≢ external → ShareNoBlock entry addr) → HasPlaceFile addr from → Passes a b (WritesKeepingFiles entry i addr from))) where
  abbrev N : ℕ
  N = size_after cut old.size offset (length bytes)

  word_is : (from : Image) → a.files ≡ Some from → address_word from entry i ≡ addr
  word_is from there = (words from there).word_is ∙ ap (λ (o : Option ℕ). unwrap_or o 0) addr_is

  can_now : (from : Image) → CanBeWritten files entry i N from → CanBeWritten files entry i size from
  can_now from can = subst (λ (n : ℕ). CanBeWritten files entry i n from) (sym is) can

  has_file_now : (from : Image) → a.files ≡ Some from → CanBeWritten files entry i N from → HasPlaceFile addr from
  has_file_now from there can kind_a =
      let more : 0 < old.size = (let d : old.size ≢ 0 = (λ z. some (none_word files addr (subst (λ (n : ℕ). may_keep files n addr ≡ true) z keep))) in omega (arith, d)) in
      let full : HasStreamLength addr old.size from = long_here from entry i addr old.size (can_now from can).has.streams small (can_now from can).has.is (word_is from there) (words from there).size_is more in
      long_there from (External (external_number addr)) (subst (λ (n : ℕ). 0 < n) (sym (full kind_a)) more)

  in_place : (from : Image) → a.files ≡ Some from → (image : Image) → WritesKeepingFiles entry i addr from image → WritesInPlace entry i N from image
  in_place from there image h = record {
    one = subst (λ (n : ℕ). have_one_storage (size_word from entry i) n ≡ true) is (ap (λ (n : ℕ). have_one_storage n size) (words from there).size_is ∙ one);
    same = subst (λ (v : ℕ). SameOutside (either (stream_words entry i) (data_at_place v)) from image) (sym (word_is from there))
        (outside_wider (either (data_of addr) (size_words entry i)) (either (stream_words entry i) (data_at_place addr)) from image (place_within entry i addr some) h.writes.same);
    checks = h.writes.checks;
    shown = h.shown;
    files = h.files;
  }

  passes : (from : Image) → a.files ≡ Some from → CanBeWritten files entry i N from → Passes a b (WritesInPlace entry i N from)
  passes from there can =
      let now = can_now from can in
      passes_weaker (stages from there (inside_apart files entry i size addr kind stands small from (agrees from there) now (word_is from there) some fits) (has_file_now from there can)) (in_place from there) (in_place from there)

  pub inside_by_stage : ForSome a.files (λ from. CanBeWritten files entry i N from → Passes a b (WritesByStage files files entry i N offset bytes from))
  inside_by_stage from there can = passes_weaker (passes from there can) (λ image h. inl h) (λ image h. inl h)

  pub inside_staged : ForSome a.files (λ from. CanBeWritten files entry i N from → ForSome b.files (IsWrittenByStage files files entry i N offset bytes from))
  inside_staged from there can image now = inl (passes_end (passes from there can) image now)
