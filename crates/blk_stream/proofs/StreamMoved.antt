-- A stream is written to a new place: what holds at each word, and what is left.
use Rattle.std.proofs.Common.{◌≡◌, ◌≢◌, inl, inr, ⊎_elim, ℕ, ◌+◌, ◌<◌, Bool, true, false, ◌||◌, List, [], length, Option, None, Some, Result, refl, sym, ◌∙◌, ap, subst, arith}
use Rattle.std.specs.Prelude.{◌==◌, is_some, nat_le, unwrap_or}
use Rattle.std.proofs.lemmas.Bool.{and_parts, cases_eq}
use Rattle.std.proofs.lemmas.Bool.Decides.{nat_tests}
use Rattle.blk_model.specs.Effects.{stream_after}
use Rattle.spec_image.specs.Image.{Block, External, File, Image, byte, has_file, length_of}
use Rattle.spec_image.specs.Footprint.{Footprint, SameOutside, either, nothing}
use Rattle.spec_image.proofs.Footprints.{outside_wider, within_left}
use Rattle.spec_image.proofs.Words.{same-range}
use Rattle.std.specs.Option.{ForSome}
use Rattle.spec_image.specs.Told.{Told, Passes}
use Rattle.spec_image.proofs.Runs.{passes_end, passes_then, passes_weaker}
use Rattle.blk_io.specs.declared.fault.Fault.{Fault}
use Rattle.blk_io.specs.Faults.{IfDamaged}
use Rattle.blk_io.proofs.Carried.{if_damaged_weaker, told_at_end}
use Rattle.blk_stream.proofs.Joined.{IsTold, told_then}
use Rattle.blk_stream.proofs.PlacesLeft.{told_back}
use Rattle.spec_format.specs.Address.{blocks_256, external, external_number, file_selector, is_address, is_initialized, kind_of, names_blocks, names_external, place, rankings}
use Rattle.spec_format.specs.BlockFiles.{is_among}
use Rattle.spec_format.specs.Records.{entry_is_sealed}
use Rattle.spec_format.specs.Sealed.{RecordChecks, record_at, record_size}
use Rattle.spec_format.specs.Storage.{kind_for}
use Rattle.spec_folder.specs.Entries.{stream}
use Rattle.spec_folder.specs.View.{entry_at}
use Rattle.blk_disk.specs.declared.tables.BlockFiles.{BlockFiles}
use Rattle.blk_disk.specs.Tables.{Agrees, stands_among}
use Rattle.blk_disk.proofs.Ranges.{stands_linked}
use Rattle.blk_entry.specs.Keys.{IsInFile, IsInside, data_at, data_file, data_start}
use Rattle.blk_entry.specs.Writing.{ShareNoBlock}
use Rattle.blk_entry.proofs.Windows.{not_external}
use Rattle.blk_alloc.specs.Extending.{KeepsStanding}
use Rattle.blk_stream.specs.declared.places.Stored.{Stored}
use Rattle.blk_stream.specs.Streams.{address_word, may_keep, size_word, stream_bytes}
use Rattle.blk_stream.specs.Copying.{HasOldPlace, IsOldThere, ShareNoData}
use Rattle.blk_stream.specs.Changing.{HasWords, NamesInProgress, stream_words}
use Rattle.blk_stream.specs.Freeing.{MayBeFreed, leaving_of}
use Rattle.blk_stream.specs.Moving.{CanBeFilled, FillsInProgress, HasPlaceLength, IsPlaceFilled, LeavesPlace, LeavesPlaceInProgress, data_at_place}
use Rattle.blk_stream.specs.Placing.{GainsPlace, IsNewPlace, gained_by}
use Rattle.blk_stream.specs.Stages.{FillsByStage, HasLeftPlace, IsFilled, IsWrittenByStage, LeavesByStage, NamesShown, WritesByStage}
use Rattle.blk_stream.specs.Writing.{have_one_storage, size_after}
use Rattle.blk_stream.specs.Written.{CanBeWritten, HoldsStream, StreamIsWritten, WritesStream, places_of_entry}
use Rattle.blk_stream.proofs.Apart.{new_apart, new_blocks_apart}
use Rattle.blk_stream.proofs.InsideSteps.{record_same}
use Rattle.blk_stream.proofs.Moved.{entry_among, other_words_of, parts_of, record_apart, stream_among, streams_apart}
use Rattle.blk_stream.proofs.OtherStreams.{other_held}
use Rattle.blk_stream.proofs.OwnedKept.{moved_owned}
use Rattle.blk_stream.proofs.StreamsWritten.{left_stream, named_stream}
use Rattle.blk_stream.proofs.WriteStages.{filling_writes, freed_off, leaving_writes, making_writes, naming_writes, record_grown, words_off}
use Rattle.blk_stream.proofs.PlacesFreed.{leaving_some}
use Rattle.blk_stream.specs.Owned.{KeepsOwned}
use Rattle.blk_stream.proofs.Placements.{kind_of_none, place_none, place_some}
use Rattle.blk_stream.proofs.StreamPlaces.{IsStream, keeps_inside, none_word, stream_facts}
use Rattle.blk_stream.proofs.KeptMaps.{gains_still, place_keeps_maps}
use Rattle.blk_stream.proofs.PlacesMoved.{gained_among}

-- a file with bytes is there
pub long_there : (image : Image) (f : File) → 0 < length_of image f → has_file image f ≡ true
long_there image f long = by_file (image f) long
  where
    by_file : (o : Option (List ℕ)) → 0 < length (unwrap_or o []) → is_some o ≡ true
    by_file None long = absurd (omega (arith, long))
    by_file (Some bytes) long = refl

external_none : (w : ℕ) → w ≡ 0 → external_number w ≡ 0
unfolding external_number
external_none w none = ap (λ (n : ℕ). external_number n) none

-- the number of an external address is not 0
external_some : (v : ℕ) → is_address v ≡ true → kind_of v ≡ external → external_number v ≢ 0
unfolding is_address names_external names_blocks
external_some v e kind none =
    let s : (kind_of v == external) ≡ true = grind (arith, nat_tests) in
    let t : (external_number v == 0) ≡ true = grind (arith, nat_tests) in
    let b : nat_le rankings (kind_of v) ≡ false = grind (arith, nat_tests) in
    let h = (and_parts (is_initialized v) (names_external v || names_blocks v) e).1 in
    let z : false ≡ true = rw (s, t, b) at h in cc

-- where nothing has changed, a record hasn't
range_unchanged : (entry : ℕ) (made image : Image) → SameOutside nothing made image → record_at image entry ≡ record_at made entry
unfolding record_at
range_unchanged entry made image same = same-range (record_size entry) (place entry) (byte image (Block (file_selector entry))) (byte made (Block (file_selector entry))) (λ k low high. same.bytes (Block (file_selector entry)) k refl)

-- the bytes of a stream by its words
pub stream_bytes_are : (image : Image) (entry i w size : ℕ) → address_word image entry i ≡ w → size_word image entry i ≡ size → stream_bytes image entry i ≡ data_at image w 0 size
unfolding stream_bytes
stream_bytes_are image entry i w size word_is size_is = ap (λ (v : ℕ). data_at image v 0 (size_word image entry i)) word_is ∙ ap (λ (n : ℕ). data_at image w 0 n) size_is

bytes_are : (image : Image) (entry i w size : ℕ) → address_word image entry i ≡ w → size_word image entry i ≡ size → data_at image w 0 size ≡ stream_bytes image entry i
bytes_are image entry i w size word_is size_is = sym (stream_bytes_are image entry i w size word_is size_is)

-- the kind of a place is that of its size
kind_kept : (kept : BlockFiles) (size v : ℕ) → may_keep kept size v ≡ true → v ≢ 0 → kind_of v ≡ kind_for size
kind_kept kept size v fits some = ⊎_elim
    (λ (none : size ≡ 0). absurd (some (none_word kept v (subst (λ (n : ℕ). may_keep kept n v ≡ true) none fits))))
    (λ (more : size ≢ 0). (parts_of kept size v more fits).1)
    (cases_eq size 0)

module _ (files kept : BlockFiles) (entry i size : ℕ) (old : Stored) (kind : kind_of entry ≡ blocks_256) (stands : stands_among files entry ≡ true) (small : i < 3) (keeps : KeepsStanding files kept)
    (has : HasOldPlace files old) (real : (addr : ℕ) → old.addr ≡ Some addr → addr ≢ 0) (other : have_one_storage old.size size ≡ false)
    (from : Image) (agrees : Agrees files from) (can : CanBeWritten files entry i size from) (words : HasWords entry i old.size (unwrap_or old.addr 0) from) where
  abbrev U : ℕ
  U = unwrap_or old.addr 0

  known : (j : ℕ) → j < 3 → IsStream files from (size_word from entry j) (address_word from entry j) (stream j can.has.streams)
  known j low = stream_facts files from entry j can.has.streams agrees low can.has.is

  keep_old : may_keep files old.size U ≡ true
  keep_old = subst (λ (n : ℕ). may_keep files n U ≡ true) words.size_is (subst (λ (v : ℕ). may_keep files (size_word from entry i) v ≡ true) words.word_is (known i small).keep)

  pub can_fill : CanBeFilled files old size from
  can_fill = record {
    room = λ more. can.room (ap (λ (n : ℕ). have_one_storage n size) words.size_is ∙ other) more;
    owned = can.owned U (subst (λ (v : ℕ). is_among (places_of_entry entry from) v ≡ true) words.word_is (stream_among entry i from small));
    there = there;
    file = λ v is kind_v. long_there from (External (external_number v)) (let h = there v is kind_v in let some = some_bytes v is in omega (arith, h, some));
  }
    where
      there : IsOldThere old from
      there v is = subst (λ (x : ℕ). IsInFile x 0 old.size from) (words.word_is ∙ ap (λ (o : Option ℕ). unwrap_or o 0) is) (subst (λ (n : ℕ). IsInFile (address_word from entry i) 0 n from) words.size_is (known i small).there)

      some_bytes : (v : ℕ) → old.addr ≡ Some v → 0 < old.size
      some_bytes v is = ⊎_elim
          (λ (none : old.size ≡ 0). absurd (real v is (sym (ap (λ (o : Option ℕ). unwrap_or o 0) is) ∙ none_word files U (subst (λ (n : ℕ). may_keep files n U ≡ true) none keep_old))))
          (λ (some : old.size ≢ 0). omega (arith, some))
          (cases_eq old.size 0)

  -- an external file of a stream is there
  file_there : (j : ℕ) → j < 3 → address_word from entry j ≢ 0 → kind_of (address_word from entry j) ≡ external → has_file from (External (external_number (address_word from entry j))) ≡ true
  file_there j low some kind_j =
      long_there from (External (external_number (address_word from entry j)))
      (⊎_elim
      (λ (none : size_word from entry j ≡ 0). absurd (some (none_word files (address_word from entry j) (subst (λ (n : ℕ). may_keep files n (address_word from entry j) ≡ true) none (known j low).keep))))
      (λ (more : size_word from entry j ≢ 0). let h = (known j low).there kind_j in omega (arith, h, more))
      (cases_eq (size_word from entry j) 0))

  old_stands : kind_of U ≢ external → stands_among files U ≡ true
  old_stands = (keeps_inside files old.size U 0 0 keep_old (omega arith)).stands

  -- The record while a place is made and filled.

  pub record_filling : (v : ℕ) (made image : Image) → may_keep kept size v ≡ true → IsNewPlace files v from made → SameOutside (data_at_place v) made image → record_at image entry ≡ record_at from entry
  record_filling v made image fits placed same =
      ⊎_elim
      (λ (none : v ≡ 0). unchanged (subst (λ (F : Footprint). SameOutside F made image) (ap data_at_place none ∙ place_none) same))
      (λ (some : v ≢ 0).
      record_same kept entry v size kind (keeps entry stands) (keeps_inside kept size v 0 size fits (omega arith))
      (λ blocky. new_blocks_apart files entry v from made agrees stands (not_external entry kind) blocky (can.owned entry (entry_among entry from) (not_external entry kind)) placed)
      made image (subst (λ (F : Footprint). SameOutside F made image) (place_some v some) same))
      (cases_eq v 0)
      ∙ record_grown files from made entry kind stands agrees placed.makes.keeps.blocks
    where
      unchanged : SameOutside nothing made image → record_at image entry ≡ record_at made entry
      unchanged same = range_unchanged entry made image same

  checks_by : (image : Image) → record_at image entry ≡ record_at from entry → RecordChecks entry image
  checks_by image e = rw e can.checks

  -- At each word while the new place is made and filled.
  pub fill_writes : (offset : ℕ) (cut : Bool) (bytes : List ℕ) (image : Image) → FillsInProgress files kept size from image → WritesStream files entry i size offset cut bytes from image
  fill_writes offset cut bytes image (inl places) = making_writes files entry i size offset cut bytes from kind stands agrees can.checks image places
  fill_writes offset cut bytes image (inr being) =
      filling_writes files entry i size offset cut bytes from kind stands agrees can.checks being.word being.made (kind_kept kept size being.word being.fits) being.placed image being.same
      (checks_by image (record_filling being.word being.made image being.fits being.placed being.same))

  -- The new place is filled.

  module _ (w offset : ℕ) (bytes : List ℕ) (B : Image) (fits : may_keep kept size w ≡ true) (filled : IsPlaceFilled files old w size offset bytes from B) where
    pub record_filled : record_at B entry ≡ record_at from entry
    record_filled = record_filling w filled.made B fits filled.placed filled.same

    differs : address_word from entry i ≢ w
    differs e = other_words_of files kept old.size size U w keep_old fits other (sym words.word_is ∙ e)

    gains : GainsPlace files w from B
    gains = gains_still files w from filled.made B (place_keeps_maps w filled.made B filled.same) filled.placed.gains

    -- the old place may be freed still
    pub free_still : MayBeFreed U B
    free_still blocky =
        let was = can_fill.owned blocky in
        let kept_file = stands_linked files U (old_stands blocky) in
        record {
          allocated = record {
            words = gained_by w (file_selector U) was.allocated.words;
            are = gains.allocations (file_selector U) was.allocated.words kept_file was.allocated.are;
            there = gained_among w U (file_selector U) was.allocated.words was.allocated.there;
          };
          empty = gains.empty (file_selector U) kept_file was.empty;
        }

    kinds : w ≢ 0 → kind_of w ≡ kind_for size
    kinds = kind_kept kept size w fits

    apart_record : kind_of w ≢ external → ShareNoBlock entry w
    apart_record blocky = new_blocks_apart files entry w from filled.made agrees stands (not_external entry kind) blocky (can.owned entry (entry_among entry from) (not_external entry kind)) filled.placed

    new_inside : IsInside kept w 0 size
    new_inside = keeps_inside kept size w 0 size fits (omega arith)

    apart_words : (k : ℕ) → k < size → (stream_words entry i).bytes (data_file w) (data_start w + k) ≡ false
    apart_words = words_off kept entry i w size kind (keeps entry stands) small new_inside apart_record

    -- a stream shares no data with it
    apart_new : (j : ℕ) → j < 3 → address_word from entry j ≢ 0 → w ≢ 0 → ShareNoData (address_word from entry j) w
    apart_new j low some more = new_apart files (address_word from entry j) w from filled.made agrees more (keeps_inside files (size_word from entry j) (address_word from entry j) 0 0 (known j low).keep (omega arith)).stands
        (can.owned (address_word from entry j) (stream_among entry j from low)) (file_there j low some) filled.placed

    -- the old place shares none with it
    old_shares : address_word from entry i ≢ 0 → ShareNoData (address_word from entry i) w
    old_shares some = ⊎_elim
        (λ (none : w ≡ 0). record {
          files = λ kind_a kind_w same. external_some (address_word from entry i) (parts_of files (size_word from entry i) (address_word from entry i) (λ z. some (none_word files (address_word from entry i) (subst (λ (n : ℕ). may_keep files n (address_word from entry i) ≡ true) z (known i small).keep))) (known i small).keep).0 kind_a (same ∙ external_none w none);
          blocks = λ blocky_a blocky_w. absurd (blocky_w (subst (λ (v : ℕ). kind_of v ≡ external) (sym none) kind_of_none));
        })
        (λ (more : w ≢ 0). apart_new i small some more)
        (cases_eq w 0)

    was_bytes : data_at from U 0 old.size ≡ stream_bytes from entry i
    was_bytes = bytes_are from entry i U old.size words.word_is words.size_is

    others : (image : Image) → SameOutside (either (stream_words entry i) (leaving_of (address_word from entry i))) B image → (j : ℕ) → j < 3 → j ≢ i → HoldsStream entry j from image
    others image same j low not_it =
        other_held files kept entry i j (address_word from entry i) w size from filled.made B image kind stands keeps agrees small low (λ e. not_it (sym e))
        (known j low).keep (file_there j low) filled.placed (λ some. new_inside) (λ some blocky. apart_record blocky) (apart_new j low)
        (λ some blocky. record_apart entry from can.apart j low kind blocky)
        (λ some other_some. streams_apart entry from can.apart i j small low (λ e. not_it (sym e)) other_some some)
        filled.same same

    owned : (image : Image) → SameOutside (either (stream_words entry i) (leaving_of (address_word from entry i))) B image → KeepsOwned files entry i (address_word from entry i) from image
    owned image same = moved_owned files kept entry i (address_word from entry i) w size from filled.made B image agrees keeps filled.placed (λ some. new_inside) filled.same same

    module _ (cut : Bool) (is : size ≡ size_after cut old.size offset (length bytes)) where
      written_here : data_at B w 0 size ≡ stream_after cut (stream_bytes from entry i) offset bytes
      written_here = filled.written cut is ∙ ap (λ (l : List ℕ). stream_after cut l offset bytes) was_bytes

      size_here : size ≡ size_after cut (size_word from entry i) offset (length bytes)
      size_here = is ∙ ap (λ (n : ℕ). size_after cut n offset (length bytes)) (sym words.size_is)

      other_here : have_one_storage (size_word from entry i) size ≡ false
      other_here = ap (λ (n : ℕ). have_one_storage n size) words.size_is ∙ other

      -- an old place is freed
      module _ (addr : ℕ) (addr_is : old.addr ≡ Some addr) where
        word_here : addr ≡ address_word from entry i
        word_here = sym (ap (λ (o : Option ℕ). unwrap_or o 0) addr_is) ∙ sym words.word_is

        some_here : address_word from entry i ≢ 0
        some_here none = real addr addr_is (word_here ∙ none)

        pub leave_writes : (image : Image) → LeavesPlaceInProgress entry i addr size w B image → WritesStream files entry i size offset cut bytes from image
        leave_writes image h =
            leaving_writes files entry i size offset cut bytes from kind stands agrees can.checks w filled.made kinds filled.placed B filled.same written_here apart_words differs some_here (λ k less. freed_off (address_word from entry i) w k (old_shares some_here)) image
            (subst (λ (v : ℕ). LeavesPlaceInProgress entry i v size w B image) word_here h)

        pub leave_ends : (image : Image) → LeavesPlace entry i addr size w B image → StreamIsWritten files kept entry i offset cut bytes from image
        leave_ends image h =
            let leaves : LeavesPlace entry i (address_word from entry i) size w B image = subst (λ (v : ℕ). LeavesPlace entry i v size w B image) word_here h in
            let up : SameOutside (either (stream_words entry i) (leaving_of (address_word from entry i))) B image = subst (λ (F : Footprint). SameOutside (either (stream_words entry i) F) B image) (sym (leaving_some (address_word from entry i) some_here)) leaves.same in
            left_stream files kept entry i size offset cut bytes from kind stands agrees can.checks w filled.made kinds filled.placed B filled.same written_here apart_words filled.long fits size_here other_here image leaves.named (others image up) (owned image up)
            differs some_here (keeps_inside files (size_word from entry i) (address_word from entry i) 0 0 (known i small).keep (omega arith)).stands (old_shares some_here) leaves

      -- there was no old place
      module _ (none : old.addr ≡ None) where
        no_word : address_word from entry i ≡ 0
        no_word = words.word_is ∙ ap (λ (o : Option ℕ). unwrap_or o 0) none

        pub name_writes : (image : Image) → NamesInProgress entry i B image → WritesStream files entry i size offset cut bytes from image
        name_writes image h = naming_writes files entry i size offset cut bytes from kind stands agrees can.checks w filled.made kinds filled.placed B filled.same written_here apart_words image h

        pub name_ends : (image : Image) → NamesInProgress entry i B image → HasWords entry i size w image → StreamIsWritten files kept entry i offset cut bytes from image
        name_ends image h named =
            let up : SameOutside (either (stream_words entry i) (leaving_of (address_word from entry i))) B image = outside_wider (stream_words entry i) (either (stream_words entry i) (leaving_of (address_word from entry i))) B image (within_left (stream_words entry i) (leaving_of (address_word from entry i))) h.same in
            named_stream files kept entry i size offset cut bytes from kind stands agrees can.checks w filled.made kinds filled.placed B filled.same written_here apart_words filled.long fits size_here other_here image named (others image up) (owned image up)
            differs no_word h

-- The calls, one after the other.

module _ (files kept : BlockFiles) (entry i size : ℕ) (old : Stored) (kind : kind_of entry ≡ blocks_256) (stands : stands_among files entry ≡ true) (small : i < 3) (keeps : KeepsStanding files kept)
    (has : HasOldPlace files old) (real : (addr : ℕ) → old.addr ≡ Some addr → addr ≢ 0) (other : have_one_storage old.size size ≡ false)
    (w offset : ℕ) (bytes record_bytes : List ℕ) (fits : may_keep kept size w ≡ true) (a m b : Told) (agrees : ForSome a.files (Agrees files)) (words : ForSome a.files (HasWords entry i old.size (unwrap_or old.addr 0))) (read : ForSome a.files (λ image. record_bytes ≡ record_at image entry))
    (fill_stops : ForSome a.files (λ from. CanBeFilled files old size from → Passes a m (FillsInProgress files kept size from)))
    (fills : ForSome a.files (λ from. CanBeFilled files old size from → ForSome m.files (IsPlaceFilled files old w size offset bytes from))) where
  can_here : (from : Image) → a.files ≡ Some from → CanBeWritten files entry i size from → CanBeFilled files old size from
  can_here from there can = can_fill files kept entry i size old kind stands small keeps has real other from (agrees from there) can (words from there)

  mid_here : (from : Image) → a.files ≡ Some from → CanBeWritten files entry i size from → IsTold m (IsPlaceFilled files old w size offset bytes from)
  mid_here from there can =
      let fill = can_here from there can in
      let mid = told_then a m from (FillsInProgress files kept size from) there (fill_stops from there fill) in
      record { image = mid.image; is = mid.is; holds = fills from there fill mid.image mid.is }

  record_here : (from : Image) → a.files ≡ Some from → CanBeWritten files entry i size from → (B : Image) → IsPlaceFilled files old w size offset bytes from B → record_at B entry ≡ record_at from entry
  record_here from there can B filled = record_filled files kept entry i size old kind stands small keeps has real other from (agrees from there) can (words from there) w offset bytes B fits filled

  read_here : (from : Image) → a.files ≡ Some from → CanBeWritten files entry i size from → (B : Image) → IsPlaceFilled files old w size offset bytes from B → record_bytes ≡ record_at B entry
  read_here from there can B filled = read from there ∙ sym (record_here from there can B filled)

  checks_here : (from : Image) → a.files ≡ Some from → CanBeWritten files entry i size from → (B : Image) → IsPlaceFilled files old w size offset bytes from B → RecordChecks entry B
  checks_here from there can B filled = let e = record_here from there can B filled in rw e can.checks

  fill_words : (cut : Bool) → ForSome a.files (λ from. CanBeWritten files entry i size from → Passes a m (WritesStream files entry i size offset cut bytes from))
  fill_words cut from there can =
      let word = fill_writes files kept entry i size old kind stands small keeps has real other from (agrees from there) can (words from there) offset cut bytes in
      passes_weaker (fill_stops from there (can_here from there can)) word word

  -- an old place is freed
  module _ (addr : ℕ) (addr_is : old.addr ≡ Some addr) where
    pub leave_passes : ForSome m.files (λ B. record_bytes ≡ record_at B entry → RecordChecks entry B → Passes m b (LeavesPlaceInProgress entry i addr size w B))
        → ForSome a.files (λ from. CanBeWritten files entry i size from → (cut : Bool) → size ≡ size_after cut old.size offset (length bytes) → Passes a b (WritesStream files entry i size offset cut bytes from))
    leave_passes stops from there can cut is =
        let mid = mid_here from there can in
        let word = leave_writes files kept entry i size old kind stands small keeps has real other from (agrees from there) can (words from there) w offset bytes mid.image fits mid.holds cut is addr addr_is in
        passes_then (fill_words cut from there can)
        (passes_weaker (stops mid.image mid.is (read_here from there can mid.image mid.holds) (checks_here from there can mid.image mid.holds)) word word)

    pub leave_done : ForSome m.files (λ B. record_bytes ≡ record_at B entry → RecordChecks entry B → ForSome b.files (LeavesPlace entry i addr size w B))
        → ForSome a.files (λ from. CanBeWritten files entry i size from → (cut : Bool) → size ≡ size_after cut old.size offset (length bytes) → ForSome b.files (StreamIsWritten files kept entry i offset cut bytes from))
    leave_done leaves from there can cut is image now =
        let mid = mid_here from there can in
        leave_ends files kept entry i size old kind stands small keeps has real other from (agrees from there) can (words from there) w offset bytes mid.image fits mid.holds cut is addr addr_is image
        (leaves mid.image mid.is (read_here from there can mid.image mid.holds) (checks_here from there can mid.image mid.holds) image now)

    pub leave_can : (a.files ≡ None → m.files ≡ None) → ForSome a.files (CanBeWritten files entry i size) → ForSome m.files (λ B. (record_bytes ≡ record_at B entry) × RecordChecks entry B × MayBeFreed addr B)
    leave_can silent can =
        told_at_end a.files m.files (λ B. (record_bytes ≡ record_at B entry) × RecordChecks entry B × MayBeFreed addr B) silent
        (λ from there B now.
        let filled = fills from there (can_here from there (can from there)) B now in (
          read_here from there (can from there) B filled,
          checks_here from there (can from there) B filled,
          subst (λ (v : ℕ). MayBeFreed v B) (ap (λ (o : Option ℕ). unwrap_or o 0) addr_is) (free_still files kept entry i size old kind stands small keeps has real other from (agrees from there) (can from there) (words from there) w offset bytes B fits filled),
        ))

    pub leave_back : {A : Type 0} (r : Result A Fault) → (a.files ≡ None → m.files ≡ None) → ForSome a.files (CanBeWritten files entry i size) → IfDamaged r (λ _. m.files ≡ None) → IfDamaged r (λ _. a.files ≡ None)
    leave_back r silent can damaged = if_damaged_weaker r _ _ (λ damage none. told_back a m (λ from. WritesStream files entry i size offset true bytes from) (λ from there. fill_words true from there (can from there)) none) damaged

  -- there was no old place
  module _ (none : old.addr ≡ None) where
    pub name_passes : ForSome m.files (λ B. record_bytes ≡ record_at B entry → RecordChecks entry B → Passes m b (NamesInProgress entry i B))
        → ForSome a.files (λ from. CanBeWritten files entry i size from → (cut : Bool) → size ≡ size_after cut old.size offset (length bytes) → Passes a b (WritesStream files entry i size offset cut bytes from))
    name_passes stops from there can cut is =
        let mid = mid_here from there can in
        let word = name_writes files kept entry i size old kind stands small keeps has real other from (agrees from there) can (words from there) w offset bytes mid.image fits mid.holds cut is none in
        passes_then (fill_words cut from there can)
        (passes_weaker (stops mid.image mid.is (read_here from there can mid.image mid.holds) (checks_here from there can mid.image mid.holds)) word word)

    pub name_done : ForSome m.files (λ B. record_bytes ≡ record_at B entry → RecordChecks entry B → Passes m b (NamesInProgress entry i B)) → ForSome m.files (λ B. record_bytes ≡ record_at B entry → ForSome b.files (HasWords entry i size w))
        → ForSome a.files (λ from. CanBeWritten files entry i size from → (cut : Bool) → size ≡ size_after cut old.size offset (length bytes) → ForSome b.files (StreamIsWritten files kept entry i offset cut bytes from))
    name_done stops named from there can cut is image now =
        let mid = mid_here from there can in
        let read_is = read_here from there can mid.image mid.holds in
        name_ends files kept entry i size old kind stands small keeps has real other from (agrees from there) can (words from there) w offset bytes mid.image fits mid.holds cut is none image
        (passes_end (stops mid.image mid.is read_is (checks_here from there can mid.image mid.holds)) image now) (named mid.image mid.is read_is image now)

  -- By stages.
  module _ (place : Option ℕ) (w_is : w ≡ unwrap_or place 0) (fill_stages : ForSome a.files (λ from. CanBeFilled files old size from → Passes a m (FillsByStage files kept from))) (fills_by : ForSome a.files (λ from. CanBeFilled files old size from → ForSome m.files (IsFilled files kept place from))) where
    filling : (from : Image) → a.files ≡ Some from → CanBeWritten files entry i size from → Passes a m (WritesByStage files kept entry i size offset bytes from)
    filling from there can = passes_weaker (fill_stages from there (can_here from there can)) (λ image h. inr (inl h)) (λ image h. inr (inl h))

    -- what the new place holds
    written_there : (from : Image) (there : a.files ≡ Some from) (can : CanBeWritten files entry i size from) (cut : Bool) → size ≡ size_after cut (size_word from entry i) offset (length bytes) → data_at (mid_here from there can).image w 0 size ≡ stream_after cut (stream_bytes from entry i) offset bytes
    written_there from there can cut is =
        (mid_here from there can).holds.written cut (is ∙ ap (λ (n : ℕ). size_after cut n offset (length bytes)) (words from there).size_is)
        ∙ ap (λ (l : List ℕ). stream_after cut l offset bytes) (bytes_are from entry i (unwrap_or old.addr 0) old.size (words from there).word_is (words from there).size_is)

    naming : (from : Image) (there : a.files ≡ Some from) (can : CanBeWritten files entry i size from) (image : Image) → LeavesByStage entry i (address_word from entry i) size w (mid_here from there can).image image → WritesByStage files kept entry i size offset bytes from image
    naming from there can image leaves =
        let mid = mid_here from there can in
        inr (inr (record { place = place; filled = mid.image; fills = fills_by from there (can_here from there can) mid.image mid.is; written = λ cut is. subst (λ (v : ℕ). data_at mid.image v 0 size ≡ stream_after cut (stream_bytes from entry i) offset bytes) w_is (written_there from there can cut is); long = subst (λ (v : ℕ). HasPlaceLength v size mid.image) w_is mid.holds.long; fits = subst (λ (v : ℕ). may_keep kept size v ≡ true) w_is fits; leaves = subst (λ (v : ℕ). LeavesByStage entry i (address_word from entry i) size v mid.image image) w_is leaves }))

    moved : (from : Image) (there : a.files ≡ Some from) (can : CanBeWritten files entry i size from) (image : Image) → HasLeftPlace entry i (address_word from entry i) size w (mid_here from there can).image image → IsWrittenByStage files kept entry i size offset bytes from image
    moved from there can image left =
        let mid = mid_here from there can in
        inr (record {
          other = ap (λ (n : ℕ). have_one_storage n size) (words from there).size_is ∙ other;
          place = place;
          filled = mid.image;
          fills = fills_by from there (can_here from there can) mid.image mid.is;
          written = λ cut is. subst (λ (v : ℕ). data_at mid.image v 0 size ≡ stream_after cut (stream_bytes from entry i) offset bytes) w_is (written_there from there can cut is);
          long = subst (λ (v : ℕ). HasPlaceLength v size mid.image) w_is mid.holds.long;
          fits = subst (λ (v : ℕ). may_keep kept size v ≡ true) w_is fits;
          left = subst (λ (v : ℕ). HasLeftPlace entry i (address_word from entry i) size v mid.image image) w_is left;
        })

    -- an old place is freed
    module _ (addr : ℕ) (addr_is : old.addr ≡ Some addr) where
      word_now : (from : Image) → a.files ≡ Some from → addr ≡ address_word from entry i
      word_now from there = sym (ap (λ (o : Option ℕ). unwrap_or o 0) addr_is) ∙ sym (words from there).word_is

      pub leave_stages : ForSome m.files (λ B. record_bytes ≡ record_at B entry → RecordChecks entry B → addr ≢ 0 → Passes m b (LeavesByStage entry i addr size w B)) → ForSome a.files (λ from. CanBeWritten files entry i size from → Passes a b (WritesByStage files kept entry i size offset bytes from))
      leave_stages stages from there can =
          let mid = mid_here from there can in
          let word : (image : Image) → LeavesByStage entry i addr size w mid.image image → WritesByStage files kept entry i size offset bytes from image = λ image h. naming from there can image (subst (λ (v : ℕ). LeavesByStage entry i v size w mid.image image) (word_now from there) h) in
          passes_then (filling from there can) (passes_weaker (stages mid.image mid.is (read_here from there can mid.image mid.holds) (checks_here from there can mid.image mid.holds) (real addr addr_is)) word word)

      pub leave_staged : ForSome m.files (λ B. record_bytes ≡ record_at B entry → RecordChecks entry B → addr ≢ 0 → ForSome b.files (HasLeftPlace entry i addr size w B)) → ForSome a.files (λ from. CanBeWritten files entry i size from → ForSome b.files (IsWrittenByStage files kept entry i size offset bytes from))
      leave_staged left from there can image now =
          let mid = mid_here from there can in
          moved from there can image (subst (λ (v : ℕ). HasLeftPlace entry i v size w mid.image image) (word_now from there) (left mid.image mid.is (read_here from there can mid.image mid.holds) (checks_here from there can mid.image mid.holds) (real addr addr_is) image now))

    -- there was no old place
    module _ (none : old.addr ≡ None) where
      pub name_stages : ForSome m.files (λ B. record_bytes ≡ record_at B entry → RecordChecks entry B → Passes m b (NamesShown entry i B)) → ForSome a.files (λ from. CanBeWritten files entry i size from → Passes a b (WritesByStage files kept entry i size offset bytes from))
      name_stages stops from there can =
          let mid = mid_here from there can in
          let word : (image : Image) → NamesShown entry i mid.image image → WritesByStage files kept entry i size offset bytes from image = λ image h. naming from there can image (inl h) in
          passes_then (filling from there can) (passes_weaker (stops mid.image mid.is (read_here from there can mid.image mid.holds) (checks_here from there can mid.image mid.holds)) word word)

      pub name_staged : ForSome m.files (λ B. record_bytes ≡ record_at B entry → RecordChecks entry B → Passes m b (NamesInProgress entry i B)) → ForSome m.files (λ B. record_bytes ≡ record_at B entry → ForSome b.files (HasWords entry i size w)) → ForSome m.files (λ B. record_bytes ≡ record_at B entry → ForSome b.files (λ image. entry_is_sealed (entry_at image entry) ≡ true))
          → ForSome a.files (λ from. CanBeWritten files entry i size from → ForSome b.files (IsWrittenByStage files kept entry i size offset bytes from))
      name_staged stops named sealed from there can image now =
          let mid = mid_here from there can in
          let read_is = read_here from there can mid.image mid.holds in
          moved from there can image (record {
            named = image;
            names = record { names = passes_end (stops mid.image mid.is read_is (checks_here from there can mid.image mid.holds)) image now; words = named mid.image mid.is read_is image now; sealed = sealed mid.image mid.is read_is image now };
            frees = inl ((words from there).word_is ∙ ap (λ (o : Option ℕ). unwrap_or o 0) none, refl);
          })

  -- The record has its checksum then.
  pub moved_sealed : ForSome m.files (λ B. record_bytes ≡ record_at B entry → RecordChecks entry B → ForSome b.files (λ image. entry_is_sealed (entry_at image entry) ≡ true)) → ForSome a.files (λ from. CanBeWritten files entry i size from → ForSome b.files (λ image. entry_is_sealed (entry_at image entry) ≡ true))
  moved_sealed sealed from there can image now =
      let mid = mid_here from there can in
      sealed mid.image mid.is (read_here from there can mid.image mid.holds) (checks_here from there can mid.image mid.holds) image now
