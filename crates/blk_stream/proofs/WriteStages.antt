-- A stream is written to a new place: what holds at each stage.
use Rattle.std.proofs.Common.{◌≡◌, ◌≢◌, inl, inr, ⊎_elim, ℕ, ◌+◌, ◌-◌, ◌<◌, ◌≤◌, Bool, true, false, if◌then◌else◌, List, refl, sym, ◌∙◌, ap, subst, arith}
use Rattle.std.specs.Prelude.{◌==◌, nat_eq}
use Rattle.std.proofs.lemmas.Bool.{cases_Bool, cases_eq, eqb-true}
use Rattle.std.proofs.lemmas.Bool.Decides.{nat_tests}
use Rattle.spec_image.specs.Image.{Block, External, File, Image, byte}
use Rattle.spec_image.specs.Footprint.{Footprint, IsWithin, SameOutside, either, nothing, range, whole}
use Rattle.spec_image.proofs.Footprints.{outside-trans, outside_wider, range_within, within_both, within_left, within_right}
use Rattle.spec_image.proofs.Words.{same-range}
use Rattle.spec_format.specs.Address.{blocks_256, byte_size, external, external_number, file_selector, kind_of, place}
use Rattle.spec_format.specs.BlockFiles.{stands_in_blocks, KeepsHeaders}
use Rattle.spec_format.specs.Growth.{KeepsBlocks}
use Rattle.spec_format.specs.Sealed.{RecordChecks, record_at, record_size}
use Rattle.spec_format.specs.Storage.{kind_for}
use Rattle.spec_format.proofs.SealedRecords.{entry_bytes}
use Rattle.spec_format.proofs.SpareHeaders.{past_header}
use Rattle.spec_format.proofs.Finished.{headers-next}
use Rattle.blk_disk.specs.declared.tables.BlockFiles.{BlockFiles}
use Rattle.blk_disk.specs.Tables.{Agrees, stands_among}
use Rattle.blk_disk.proofs.Ranges.{stands_agree}
use Rattle.blk_model.specs.Effects.{stream_after}
use Rattle.blk_entry.specs.Keys.{IsInside, data_at, data_file, data_start}
use Rattle.blk_entry.specs.Writing.{ShareNoBlock}
use Rattle.blk_entry.proofs.Windows.{entry_room_least}
use Rattle.blk_alloc.proofs.Changing.{within-trans}
use Rattle.blk_stream.specs.Changing.{HasWords, NamesInProgress, record_word, stream_words}
use Rattle.blk_stream.specs.Copying.{ShareNoData}
use Rattle.blk_stream.specs.Freeing.{freeing_of}
use Rattle.blk_stream.specs.Inside.{data_of}
use Rattle.blk_stream.specs.Moving.{LeavesPlaceInProgress, data_at_place}
use Rattle.blk_stream.specs.Placing.{IsNewPlace, IsSite, IsSiteOf, PlacesInProgress, Site, Nowhere, NewFile, InFile, InGrowth, InAddition, placing_of}
use Rattle.blk_stream.specs.Streams.{address_place, address_word, size_place, stream_bytes}
use Rattle.blk_stream.specs.Written.{WritesStream, giving_up_of, writing_of}
use Rattle.blk_stream.proofs.Fillings.{data_off}
use Rattle.blk_stream.proofs.InsideSteps.{data_blocks, data_external, record_same}
use Rattle.blk_stream.proofs.KeptFiles.{external_spares, headers_spared}
use Rattle.blk_stream.proofs.KeptMaps.{blocks_spared}
use Rattle.blk_stream.proofs.PlacesFreed.{blocky_of, freeing_blocks, freeing_external, leaving_some}
use Rattle.blk_stream.proofs.PlacesLeft.{headers_behind, headers_named, freeing_off}

clash : true ≡ false → ⊥
clash e = cc

-- what lies off a footprint lies off one within it
pub off_within : (F G : Footprint) (f : File) (k : ℕ) → IsWithin F G → G.bytes f k ≡ false → F.bytes f k ≡ false
off_within F G f k within off = by_test (F.bytes f k) (within.bytes f k)
  where
    by_test : (t : Bool) → (t ≡ true → G.bytes f k ≡ true) → t ≡ false
    by_test true inside = absurd (clash (sym (inside refl) ∙ off))
    by_test false inside = refl

-- The record.

-- the record has its bytes where blocks keep theirs
pub record_grown : (files : BlockFiles) (from image : Image) (entry : ℕ) → kind_of entry ≡ blocks_256 → stands_among files entry ≡ true → Agrees files from → KeepsBlocks from image → record_at image entry ≡ record_at from entry
unfolding record_at
record_grown files from image entry kind stands agrees keeps =
    let size : record_size entry ≡ 96 = entry_bytes entry kind in
    let there : stands_in_blocks from entry ≡ true = sym (stands_agree files from entry agrees) ∙ stands in
    let room = entry_room_least entry kind in
    same-range (record_size entry) (place entry) (byte image (Block (file_selector entry))) (byte from (Block (file_selector entry)))
    (λ k low high. keeps.bytes entry k there low (omega (arith, high, size, room)))

-- the words of a stream lie in it
words_in_record : (entry i : ℕ) → kind_of entry ≡ blocks_256 → i < 3 → IsWithin (stream_words entry i) (data_of entry)
words_in_record entry i kind small =
    let blocky : kind_of entry ≢ external = λ e. two_none (sym kind ∙ e) in
    let room = entry_room_least entry kind in
    let D = range (Block (file_selector entry)) (place entry) (byte_size entry) in
    let word : (at : ℕ) → at + 4 ≤ 96 → IsWithin (record_word entry at) D = λ at less. range_within (Block (file_selector entry)) (place entry + at) 4 (place entry) (byte_size entry) (omega arith) (omega (arith, less, room)) in
    subst (λ (F : Footprint). IsWithin (stream_words entry i) F) (sym (data_blocks entry blocky))
    (within_both (record_word entry (size_place i)) (either (record_word entry (address_place i)) (record_word entry 92)) D (word (size_place i) (omega (arith, small)))
    (within_both (record_word entry (address_place i)) (record_word entry 92) D (word (address_place i) (omega (arith, small))) (word 92 (omega arith))))
  where
    two_none : ◌≡◌ {A = ℕ} 2 0 → ⊥
    two_none e = cc

-- The data of a place.

-- a change of it keeps the headers
pub place_headers : (w : ℕ) (from image : Image) → SameOutside (data_at_place w) from image → KeepsHeaders from image
unfolding data_at_place
place_headers w from image same = by_test (w == 0) same
  where
    blocks : (kind_of w == external) ≡ false → SameOutside (data_of w) from image → KeepsHeaders from image
    blocks t h =
        let R = range (Block (file_selector w)) (place w) (byte_size w) in
        headers_behind R from image (record { bytes = (blocks_spared w).headers }) (λ k. refl) refl (λ n. refl) (subst (λ (F : Footprint). SameOutside F from image) (data_blocks w (blocky_of w t)) h)

    file : (kind_of w == external) ≡ true → SameOutside (data_of w) from image → KeepsHeaders from image
    file t h =
        let R = whole (External (external_number w)) in
        headers_behind R from image (headers_spared R (external_spares (external_number w))) (λ k. refl) refl (λ n. refl) (subst (λ (F : Footprint). SameOutside F from image) (data_external w (eqb-true (kind_of w) external t)) h)

    by_test : (t : Bool) → SameOutside (if t then nothing else data_of w) from image → KeepsHeaders from image
    by_test true h = headers_behind nothing from image (record { bytes = λ n i small. refl }) (λ k. refl) refl (λ n. refl) h
    by_test false h = ⊎_elim (λ t. file t h) (λ t. blocks t h) (cases_Bool (kind_of w == external))

-- what is freed lies off the data of another place
pub freed_off : (u w k : ℕ) → ShareNoData u w → (freeing_of u).bytes (data_file w) (data_start w + k) ≡ false
unfolding data_file data_start
freed_off u w k apart = by_tests (kind_of u == external) (kind_of w == external) refl refl
  where
    by_tests : (s t : Bool) → (kind_of u == external) ≡ s → (kind_of w == external) ≡ t → (freeing_of u).bytes (if t then External (external_number w) else Block (file_selector w)) ((if t then 0 else place w) + k) ≡ false
    by_tests s false e h = freeing_off u (file_selector w) (place w + k) (let p = past_header w in omega (arith, p))
    by_tests true true e h =
        let kind_u = eqb-true (kind_of u) external e in
        let differ = apart.files kind_u (eqb-true (kind_of w) external h) in
        subst (λ (F : Footprint). F.bytes (External (external_number w)) (0 + k) ≡ false) (sym (freeing_external u kind_u)) (let z : nat_eq (external_number u) (external_number w) ≡ false = grind (arith, nat_tests) in z)
    by_tests false true e h = subst (λ (F : Footprint). F.bytes (External (external_number w)) (0 + k) ≡ false) (sym (freeing_blocks u (blocky_of u e))) refl

-- bytes that a change leaves
pub data_left : (G : Footprint) (w size : ℕ) (from image : Image) → ((k : ℕ) → k < size → G.bytes (data_file w) (data_start w + k) ≡ false) → SameOutside G from image → data_at image w 0 size ≡ data_at from w 0 size
data_left G w size from image off same =
    same-range size (data_start w + 0) (byte image (data_file w)) (byte from (data_file w))
    (λ k low high. same.bytes (data_file w) k (subst (λ (p : ℕ). G.bytes (data_file w) p ≡ false) (let h : data_start w + (k - data_start w) ≡ k = omega (arith, low) in h) (off (k - data_start w) (omega (arith, low, high)))))

-- Sites.

-- the site of a new place fits data of a size whose kind the place has, and no place has none
module _ (files : BlockFiles) (size w : ℕ) (from made : Image) (kinds : w ≢ 0 → kind_of w ≡ kind_for size) (placed : IsNewPlace files w from made) where
  abbrev Fits : Type 0
  Fits = IsSite files (kind_for size) from placed.site × SameOutside (placing_of files (kind_for size) placed.site) from made

  no_place : w ≡ 0 → Fits
  unfolding placing_of kind_of external_number
  no_place none = by_site placed.site placed.at placed.makes.right placed.makes.same
    where
      not_blocks : kind_of w ≢ external → ⊥
      not_blocks other = other (ap kind_of none)

      by_site : (s : Site) → IsSiteOf s w → IsSite files (kind_of w) from s → SameOutside (placing_of files (kind_of w) s) from made → IsSite files (kind_for size) from s × SameOutside (placing_of files (kind_for size) s) from made
      by_site Nowhere at right same = (tt, same)
      by_site (NewFile number) at right same = absurd (no_number (sym (ap external_number none) ∙ at.1) right.1.number.0)
        where
          no_number : 0 ≡ number → 1 ≤ number → ⊥
          no_number e some = absurd (omega (arith, e, some))
      by_site (InFile n) at right same = absurd (not_blocks at.0)
      by_site (InGrowth n) at right same = absurd (not_blocks at.0)
      by_site (InAddition n) at right same = absurd (not_blocks at.0)

  pub site_fits : Fits
  site_fits = ⊎_elim no_place
      (λ (some : w ≢ 0).
      let kind = kinds some in
      (subst (λ (k : ℕ). IsSite files k from placed.site) kind placed.makes.right, subst (λ (k : ℕ). SameOutside (placing_of files k placed.site) from made) kind placed.makes.same))
      (cases_eq w 0)

-- The stages.

module _ (files : BlockFiles) (entry i size offset : ℕ) (cut : Bool) (bytes : List ℕ) (from : Image) where
  abbrev old : ℕ
  old = address_word from entry i

  -- the data of a new place and its site
  abbrev new_of : ℕ → Site → Footprint
  new_of new site = either (data_at_place new) (placing_of files (kind_for size) site)

  abbrev all_of : ℕ → Site → Footprint
  all_of new site = writing_of files entry i old new size site

  abbrev Writes : Image → Type 0
  Writes = WritesStream files entry i size offset cut bytes from

  site_within : (new : ℕ) (site : Site) → IsWithin (placing_of files (kind_for size) site) (new_of new site)
  site_within new site = within_right (data_at_place new) (placing_of files (kind_for size) site)

  data_within : (new : ℕ) (site : Site) → IsWithin (data_at_place new) (new_of new site)
  data_within new site = within_left (data_at_place new) (placing_of files (kind_for size) site)

  new_within : (new : ℕ) (site : Site) → IsWithin (new_of new site) (all_of new site)
  new_within new site =
      within-trans (new_of new site) (either (giving_up_of old new) (new_of new site)) (all_of new site) (within_right (giving_up_of old new) (new_of new site))
      (within_right (stream_words entry i) (either (giving_up_of old new) (new_of new site)))

  words_within : (new : ℕ) (site : Site) → IsWithin (stream_words entry i) (all_of new site)
  words_within new site = within_left (stream_words entry i) (either (giving_up_of old new) (new_of new site))

  freed_within : (new : ℕ) (site : Site) → old ≢ new → old ≢ 0 → IsWithin (freeing_of old) (all_of new site)
  unfolding giving_up_of
  freed_within new site differs some =
      let t : (old == new) ≡ false = grind (arith, nat_tests) in
      let up : giving_up_of old new ≡ freeing_of old = (rw t refl) ∙ leaving_some old some in
      within-trans (freeing_of old) (either (giving_up_of old new) (new_of new site)) (all_of new site)
      (subst (λ (F : Footprint). IsWithin F (either (giving_up_of old new) (new_of new site))) up (within_left (giving_up_of old new) (new_of new site)))
      (within_right (stream_words entry i) (either (giving_up_of old new) (new_of new site)))

  module _ (kind : kind_of entry ≡ blocks_256) (stands : stands_among files entry ≡ true) (agrees : Agrees files from) (checks : RecordChecks entry from) where
    -- a new place is being made
    pub making_writes : (image : Image) → PlacesInProgress files size from image → Writes image
    making_writes image places =
        let makes = places.makes in
        let same = outside_wider (placing_of files (kind_for size) places.site) (new_of 0 places.site) from image (site_within 0 places.site) makes.same in
        let record_is = record_grown files from image entry kind stands agrees makes.keeps.blocks in
        record {
          new = 0;
          site = places.site;
          right = makes.right;
          same = outside_wider (new_of 0 places.site) (all_of 0 places.site) from image (new_within 0 places.site) same;
          checks = rw record_is checks;
          headers = makes.keeps.headers;
          filled = λ differs. inl same;
          order = λ differs. inl (outside_wider (new_of 0 places.site) (either (stream_words entry i) (new_of 0 places.site)) from image (within_right (stream_words entry i) (new_of 0 places.site)) same);
        }

    module _ (w : ℕ) (made : Image) (kinds : w ≢ 0 → kind_of w ≡ kind_for size) (placed : IsNewPlace files w from made) where
      abbrev site : Site
      site = placed.site

      made_same : SameOutside (new_of w site) from made
      made_same = outside_wider (placing_of files (kind_for size) site) (new_of w site) from made (site_within w site) (site_fits files size w from made kinds placed).1

      pub filled_same : (image : Image) → SameOutside (data_at_place w) made image → SameOutside (new_of w site) from image
      filled_same image same = outside-trans (new_of w site) from made image made_same (outside_wider (data_at_place w) (new_of w site) made image (data_within w site) same)

      pub filled_headers : (image : Image) → SameOutside (data_at_place w) made image → KeepsHeaders from image
      filled_headers image same = headers-next from made image placed.makes.keeps.headers (place_headers w made image same)

      -- the new place is being filled
      pub filling_writes : (image : Image) → SameOutside (data_at_place w) made image → RecordChecks entry image → Writes image
      filling_writes image same good =
          let all = filled_same image same in
          record {
            new = w;
            site = site;
            right = (site_fits files size w from made kinds placed).0;
            same = outside_wider (new_of w site) (all_of w site) from image (new_within w site) all;
            checks = good;
            headers = filled_headers image same;
            filled = λ differs. inl all;
            order = λ differs. inl (outside_wider (new_of w site) (either (stream_words entry i) (new_of w site)) from image (within_right (stream_words entry i) (new_of w site)) all);
          }

      module _ (filled : Image) (same : SameOutside (data_at_place w) made filled) (written : data_at filled w 0 size ≡ stream_after cut (stream_bytes from entry i) offset bytes) (words_off : (k : ℕ) → k < size → (stream_words entry i).bytes (data_file w) (data_start w + k) ≡ false) where
        named_order : (image : Image) → SameOutside (stream_words entry i) filled image → SameOutside (either (stream_words entry i) (new_of w site)) from image
        named_order image words =
            let F = either (stream_words entry i) (new_of w site) in
            outside-trans F from filled image (outside_wider (new_of w site) F from filled (within_right (stream_words entry i) (new_of w site)) (filled_same filled same)) (outside_wider (stream_words entry i) F filled image (within_left (stream_words entry i) (new_of w site)) words)

        pub named_same : (image : Image) → SameOutside (stream_words entry i) filled image → SameOutside (all_of w site) from image
        named_same image words = outside-trans (all_of w site) from filled image (outside_wider (new_of w site) (all_of w site) from filled (new_within w site) (filled_same filled same)) (outside_wider (stream_words entry i) (all_of w site) filled image (words_within w site) words)

        pub named_written : (image : Image) → SameOutside (stream_words entry i) filled image → data_at image w 0 size ≡ stream_after cut (stream_bytes from entry i) offset bytes
        named_written image words = data_left (stream_words entry i) w size filled image words_off words ∙ written

        -- the record names it, where there was no old place
        pub naming_writes : (image : Image) → NamesInProgress entry i filled image → Writes image
        naming_writes image named = record {
          new = w;
          site = site;
          right = (site_fits files size w from made kinds placed).0;
          same = named_same image named.same;
          checks = named.checks;
          headers = headers-next from filled image (filled_headers filled same) (headers_named entry i filled image named.same);
          filled = λ differs. inr (named_written image named.same);
          order = λ differs. inl (named_order image named.same);
        }

        module _ (differs : old ≢ w) (some : old ≢ 0) (freed_off_data : (k : ℕ) → k < size → (freeing_of old).bytes (data_file w) (data_start w + k) ≡ false) where
          abbrev E : Footprint
          E = either (stream_words entry i) (freeing_of old)

          leaves_within : IsWithin E (all_of w site)
          leaves_within = within_both (stream_words entry i) (freeing_of old) (all_of w site) (words_within w site) (freed_within w site differs some)

          pub left_same : (image : Image) → SameOutside E filled image → SameOutside (all_of w site) from image
          left_same image left = outside-trans (all_of w site) from filled image (outside_wider (new_of w site) (all_of w site) from filled (new_within w site) (filled_same filled same)) (outside_wider E (all_of w site) filled image leaves_within left)

          both_off : (k : ℕ) → k < size → E.bytes (data_file w) (data_start w + k) ≡ false
          both_off k less = rw (words_off k less, freed_off_data k less) refl

          pub left_written : (image : Image) → SameOutside E filled image → data_at image w 0 size ≡ stream_after cut (stream_bytes from entry i) offset bytes
          left_written image left = data_left E w size filled image both_off left ∙ written

          -- where there was an old place, it is freed once the record names the new one
          pub leaving_writes : (image : Image) → LeavesPlaceInProgress entry i old size w filled image → Writes image
          leaving_writes image leaves = record {
            new = w;
            site = site;
            right = (site_fits files size w from made kinds placed).0;
            same = left_same image leaves.same;
            checks = leaves.checks;
            headers = headers-next from filled image (filled_headers filled same) leaves.headers;
            filled = λ other. inr (left_written image leaves.same);
            order = λ other. ⊎_elim (λ (words : SameOutside (stream_words entry i) filled image). inl (named_order image words)) (λ (named : HasWords entry i size w image). inr named) leaves.order;
          }

-- What lies off the new data.

-- the words of the record do
pub words_off : (kept : BlockFiles) (entry i w size : ℕ) → kind_of entry ≡ blocks_256 → stands_among kept entry ≡ true → i < 3 → IsInside kept w 0 size → (kind_of w ≢ external → ShareNoBlock entry w) → (k : ℕ) → k < size → (stream_words entry i).bytes (data_file w) (data_start w + k) ≡ false
words_off kept entry i w size kind stands small inside apart k less =
    let room = entry_room_least entry kind in
    let here : IsInside kept entry 0 96 = record { small = omega arith; stands = λ blocky. stands; room = λ blocky. omega (arith, room) } in
    let other : ShareNoData w entry = record { files = λ is_w is_e. absurd (two_none (sym kind ∙ is_e)); blocks = λ is_w is_e same. ⊎_elim (λ one. inr one) (λ one. inl one) (apart is_w (sym same)) } in
    off_within (stream_words entry i) (data_of entry) (data_file w) (data_start w + k) (words_in_record entry i kind small) (data_off kept w entry size 96 inside here other k less)
  where
    two_none : ◌≡◌ {A = ℕ} 2 0 → ⊥
    two_none e = cc

-- so the record's checksum matches or is absent while the new place is filled
pub filling_checks : (files kept : BlockFiles) (entry w size : ℕ) (from made image : Image) → kind_of entry ≡ blocks_256 → stands_among files entry ≡ true → stands_among kept entry ≡ true → Agrees files from → RecordChecks entry from → IsNewPlace files w from made
    → w ≢ 0 → IsInside kept w 0 size → (kind_of w ≢ external → ShareNoBlock entry w) → SameOutside (data_at_place w) made image → RecordChecks entry image
unfolding data_at_place
filling_checks files kept entry w size from made image kind stands still agrees good placed some inside apart same =
    let t : (w == 0) ≡ false = grind (arith, nat_tests) in
    let of_data : SameOutside (data_of w) made image = subst (λ (F : Footprint). SameOutside F made image) (rw t refl) same in
    let one = record_same kept entry w size kind still inside apart made image of_data in
    let other = record_grown files from made entry kind stands agrees placed.makes.keeps.blocks in
    rw (one, other) good
