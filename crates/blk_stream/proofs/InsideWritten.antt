-- What a write inside a place leaves.
use Rattle.std.proofs.Common.{◌≡◌, ◌≢◌, inl, inr, ⊎_elim, ℕ, ◌+◌, ◌-◌, ◌^◌, ◌<◌, ◌≤◌, Bool, true, false, if◌then◌else◌, List, [], ◌∷◌, length, refl, sym, ◌∙◌, ap, subst, arith}
use Rattle.std.specs.Prelude.{◌==◌}
use Rattle.std.proofs.lemmas.Bool.{cases_eq, eqb-true}
use Rattle.std.proofs.lemmas.Bool.Decides.{nat_tests}
use Rattle.std.proofs.lemmas.List.Elements.{All-nil, All-cons}
use Rattle.spec_image.specs.Bytes.{content, word_at}
use Rattle.spec_image.specs.Image.{AreBytes, File, Block, External, Image, byte, length_of}
use Rattle.spec_image.specs.Steps.{TrailStep, after}
use Rattle.spec_image.specs.Footprint.{SameOutside}
use Rattle.spec_image.specs.Told.{Along}
use Rattle.spec_image.proofs.Cuts.{after-append}
use Rattle.spec_image.proofs.Footprints.{outside-refl, outside_steps}
use Rattle.spec_image.proofs.Runs.{until_last}
use Rattle.spec_image.proofs.Words.{same-range}
use Rattle.spec_format.specs.Address.{kind_of, external, external_number, file_selector, first_block, block_count, place, blocks_256}
use Rattle.spec_format.specs.Sealed.{IsUpdated, RecordChecks, record_at, record_size, sealed_steps, steps_over}
use Rattle.spec_format.proofs.SealedRecords.{entry_bytes, updated}
use Rattle.spec_format.proofs.SealedFields.{record_word as word_of_record, updated_is_new}
use Rattle.spec_format.proofs.SpareHeaders.{other_file}
use Rattle.blk_disk.specs.declared.tables.BlockFiles.{BlockFiles}
use Rattle.blk_disk.specs.Tables.{Agrees, stands_among}
use Rattle.blk_disk.proofs.Ranges.{stands_range}
use Rattle.blk_entry.specs.Keys.{IsInside, data_at, data_file, data_start}
use Rattle.blk_entry.specs.Writing.{ShareNoBlock}
use Rattle.blk_entry.proofs.NewImages.{same_kind}
use Rattle.blk_entry.proofs.Windows.{entry_room, entry_room_least}
use Rattle.blk_stream.specs.Streams.{size_place, size_word}
use Rattle.blk_stream.specs.Changing.{record_word}
use Rattle.blk_stream.specs.Inside.{HasStreamLength, WritesInside, data_of, here_steps, inside_steps, room_steps, size_steps, size_words}
use Rattle.blk_entry.specs.Steps.{data_steps}
use Rattle.blk_stream.proofs.Naming.{apart_place}
use Rattle.blk_stream.proofs.InsideSteps.{apart_file, here_outside, fits, mid_record, mid_sealed, place_of_entry, sealed_within, size_changes, size_none, size_some}
use Rattle.blk_stream.proofs.InsideData.{data_long, data_outside, here_data, HasMade, made_blocks, made_external, made_long}
use Rattle.blk_stream.specs.Stages.{KeepsSeal}
use Rattle.blk_stream.proofs.RecordSeals.{still_sealed, updated_sealed}
use Rattle.blk_stream.proofs.StreamPlaces.{size_at}

-- the words of a record share no byte with the data of a word, where they share no block
module _ (files : BlockFiles) (entry i w size : ℕ) (kind : kind_of entry ≡ blocks_256) (stands : stands_among files entry ≡ true) (small : i < 3) (inside : IsInside files w 0 size) (apart : kind_of w ≢ external → ShareNoBlock entry w) where
  pub off_word : (at k : ℕ) → at + 4 ≤ 96 → k < size → (record_word entry at).bytes (data_file w) (data_start w + k) ≡ false
  unfolding data_file data_start
  off_word at k low high = by_test (kind_of w == external) refl
    where
      by_test : (t : Bool) → (kind_of w == external) ≡ t → (record_word entry at).bytes (if t then External (external_number w) else Block (file_selector w)) ((if t then 0 else place w) + k) ≡ false
      by_test true t = refl
      by_test false t =
          let blocky : kind_of w ≢ external = (λ e. let z : (kind_of w == external) ≡ true = grind (arith, nat_tests) in let y : true ≡ false = sym z ∙ t in cc) in
          let enough = inside.room blocky in
          ⊎_elim
          (λ (same : file_selector entry ≡ file_selector w).
          let kind_w : kind_of w ≡ blocks_256 = sym (same_kind files entry w stands (inside.stands blocky) same) ∙ kind in
          let place_e = place_of_entry entry kind in
          let place_w = place_of_entry w kind_w in
          let room_w = entry_room w kind_w in
          let room_e = entry_room_least entry kind in
          let some = entry_room entry kind in
          apart_place (Block (file_selector entry)) (Block (file_selector w)) (place entry + at) 4 (place w + k)
          (⊎_elim
          (λ (first : first_block entry + block_count entry ≤ first_block w). inr (omega (arith, first, low, place_e, place_w, room_e, some)))
          (λ (last : first_block w + block_count w ≤ first_block entry). inl (omega (arith, last, high, enough, place_e, place_w, room_w)))
          (apart blocky same)))
          (λ (differ : file_selector entry ≢ file_selector w).
          apart_file (Block (file_selector entry)) (Block (file_selector w)) (place entry + at) 4 (place w + k) (other_file (file_selector entry) (file_selector w) (λ e. differ (sym e))))
          (cases_eq (file_selector entry) (file_selector w))

  off_words : (k : ℕ) → k < size → (size_words entry i).bytes (data_file w) (data_start w + k) ≡ false
  off_words k high =
      let a = off_word (size_place i) k (omega (arith, small)) high in
      let c = off_word 92 k (omega arith) high in
      rw (a, c) refl

  -- the data stays where only the words of the record change
  pub data_stays : (from image : Image) → SameOutside (size_words entry i) from image → data_at image w 0 size ≡ data_at from w 0 size
  data_stays from image same =
      same-range size (data_start w + 0) (byte image (data_file w)) (byte from (data_file w))
      (λ k low high. same.bytes (data_file w) k (subst (λ (j : ℕ). (size_words entry i).bytes (data_file w) j ≡ false) (reach k low) (off_words (k - data_start w) (omega (arith, low, high)))))
    where
      reach : (k : ℕ) → data_start w + 0 ≤ k → data_start w + (k - data_start w) ≡ k
      reach k low = omega (arith, low)

data_inside : (w : ℕ) → kind_of w ≢ external → (data_file w ≡ Block (file_selector w)) × (data_start w ≡ place w)
unfolding data_file data_start
data_inside w blocky = let t : (kind_of w == external) ≡ false = grind (arith, nat_tests) in (rw t refl, rw t refl)

-- What both leave.
module _ (files : BlockFiles) (entry i w old size offset : ℕ) (bytes : List ℕ) (kind : kind_of entry ≡ blocks_256) (stands : stands_among files entry ≡ true) (small : i < 3)
    (inside : IsInside files w 0 size) (few : offset + length bytes ≤ size) (apart : kind_of w ≢ external → ShareNoBlock entry w) (from : Image) (agrees : Agrees files from) (good : RecordChecks entry from)
    (record_bytes : List ℕ) (read : record_bytes ≡ record_at from entry) where
  abbrev mid : Image
  mid = after (here_steps w old size offset bytes) from

  abbrev last : Image
  last = after (size_steps record_bytes entry i old size) mid

  -- the steps of the size, where it is another
  over_is : steps_over record_bytes entry ((size_place i, size) ∷ []) ≡ sealed_steps mid entry ((size_place i, size) ∷ [])
  over_is = ap (λ (l : List ℕ). steps_over l entry ((size_place i, size) ∷ [])) read ∙ mid_sealed files entry i w old size offset bytes kind stands small inside few apart from agrees good

  size_outside : Along (SameOutside (size_words entry i) mid) mid (size_steps record_bytes entry i old size)
  size_outside = by_test (size == old) refl
    where
      by_test : (t : Bool) → (size == old) ≡ t → Along (SameOutside (size_words entry i) mid) mid (size_steps record_bytes entry i old size)
      by_test true t = subst (λ (s : List TrailStep). Along (SameOutside (size_words entry i) mid) mid s) (sym (size_none record_bytes entry i old size (eqb-true size old t))) (outside-refl (size_words entry i) mid)
      by_test false t =
          let other : size ≢ old = (λ e. let z : (size == old) ≡ true = grind (arith, nat_tests) in let y : true ≡ false = sym z ∙ t in cc) in
          subst (λ (s : List TrailStep). Along (SameOutside (size_words entry i) mid) mid s) (sym (size_some record_bytes entry i old size other))
          (outside_steps (size_words entry i) (steps_over record_bytes entry ((size_place i, size) ∷ [])) mid mid (sealed_within record_bytes entry i size kind) (outside-refl (size_words entry i) mid))

  last_same : SameOutside (size_words entry i) mid last
  last_same = until_last (SameOutside (size_words entry i) mid) (SameOutside (size_words entry i) mid) (size_steps record_bytes entry i old size) mid size_outside

  last_is : after (inside_steps record_bytes entry i w old size offset bytes) from ≡ last
  last_is = after-append (here_steps w old size offset bytes) (size_steps record_bytes entry i old size) from

  last_size : size < 2 ^ 32 → size_word from entry i ≡ old → size_word last entry i ≡ size
  last_size fit was = by_test (size == old) refl
    where
      mid_size : size_word mid entry i ≡ size_word from entry i
      mid_size =
          let e = mid_record files entry i w old size offset bytes kind stands small inside few apart from agrees good in
          let n : record_size entry ≡ 96 = entry_bytes entry kind in
          size_at mid entry i small ∙ sym (word_of_record mid entry (size_place i) (omega (arith, n, small))) ∙ ap (λ (l : List ℕ). word_at (content l) (size_place i)) e
          ∙ word_of_record from entry (size_place i) (omega (arith, n, small)) ∙ sym (size_at from entry i small)

      by_test : (t : Bool) → (size == old) ≡ t → size_word last entry i ≡ size
      by_test true t =
          let same : size ≡ old = eqb-true size old t in
          ap (λ (s : List TrailStep). size_word (after s mid) entry i) (size_none record_bytes entry i old size same) ∙ mid_size ∙ was ∙ sym same
      by_test false t =
          let other : size ≢ old = (λ e. let z : (size == old) ≡ true = grind (arith, nat_tests) in let y : true ≡ false = sym z ∙ t in cc) in
          let steps : List TrailStep = sealed_steps mid entry ((size_place i, size) ∷ []) in
          let is : size_steps record_bytes entry i old size ≡ steps = size_some record_bytes entry i old size other ∙ over_is in
          let done : IsUpdated mid entry ((size_place i, size) ∷ []) (after steps mid) = updated entry mid ((size_place i, size) ∷ []) (fits files entry i w old size offset bytes kind stands small inside few apart from agrees good) in
          ap (λ (s : List TrailStep). size_word (after s mid) entry i) is
          ∙ size_at (after steps mid) entry i small
          ∙ sym (word_of_record (after steps mid) entry (size_place i) (let n : record_size entry ≡ 96 = entry_bytes entry kind in omega (arith, n, small)))
          ∙ updated_is_new mid (after steps mid) entry ((size_place i, size) ∷ []) (size_changes entry i (size_place i) size kind small refl) done 0 (size_place i, size) (omega arith) (All-cons (λ c. c.1 < 2 ^ 32) (size_place i, size) [] fit (All-nil (λ c. c.1 < 2 ^ 32)))

  -- the record has its checksum then, if it had one
  pub inside_sealed : AreBytes from → AreBytes (after (inside_steps record_bytes entry i w old size offset bytes) from) → KeepsSeal entry from (after (inside_steps record_bytes entry i w old size offset bytes) from)
  inside_sealed bytes_from are_bytes = by_test (size == old) refl
    where
      by_test : (t : Bool) → (size == old) ≡ t → KeepsSeal entry from (after (inside_steps record_bytes entry i w old size offset bytes) from)
      by_test true t =
          let none : last ≡ mid = ap (λ (s : List TrailStep). after s mid) (size_none record_bytes entry i old size (eqb-true size old t)) in
          still_sealed from (after (inside_steps record_bytes entry i w old size offset bytes) from) entry bytes_from are_bytes kind (ap (λ (image : Image). record_at image entry) (last_is ∙ none) ∙ mid_record files entry i w old size offset bytes kind stands small inside few apart from agrees good)
      by_test false t =
          let other : size ≢ old = (λ e. let z : (size == old) ≡ true = grind (arith, nat_tests) in let y : true ≡ false = sym z ∙ t in cc) in
          let steps : List TrailStep = sealed_steps mid entry ((size_place i, size) ∷ []) in
          let is : last ≡ after steps mid = ap (λ (s : List TrailStep). after s mid) (size_some record_bytes entry i old size other ∙ over_is) in
          let done : IsUpdated mid entry ((size_place i, size) ∷ []) (after steps mid) = updated entry mid ((size_place i, size) ∷ []) (fits files entry i w old size offset bytes kind stands small inside few apart from agrees good) in
          λ was.
          updated_sealed mid (after (inside_steps record_bytes entry i w old size offset bytes) from) entry ((size_place i, size) ∷ []) are_bytes kind (size_changes entry i (size_place i) size kind small refl) (subst (λ (image : Image). IsUpdated mid entry ((size_place i, size) ∷ []) image) (sym (last_is ∙ is)) done)

  module _ (long : HasStreamLength w old from) where
    made : HasMade from (after (room_steps w old size offset) from) w old size offset
    made = by_test (kind_of w == external) refl
      where
        by_test : (t : Bool) → (kind_of w == external) ≡ t → HasMade from (after (room_steps w old size offset) from) w old size offset
        by_test true t =
            let x : kind_of w ≡ external = eqb-true (kind_of w) external t in
            made_external from w old size offset x (let f = (data_outside w x).0 in subst (λ (g : File). length_of from g ≡ old) (sym f) (long x))
        by_test false t =
            let blocky : kind_of w ≢ external = (λ e. let z : (kind_of w == external) ≡ true = grind (arith, nat_tests) in let y : true ≡ false = sym z ∙ t in cc) in
            made_blocks from w old size offset t (room_there blocky)
          where
            room_there : kind_of w ≢ external → data_start w + size ≤ length_of from (data_file w)
            room_there blocky =
                let h = stands_range files from w 0 size agrees (inside.stands blocky) (inside.room blocky) in
                let b = data_inside w blocky in
                subst (λ (g : File). data_start w + size ≤ length_of from g) (sym b.0) (let s = b.1 in omega (arith, h, s))

    mid_long : HasStreamLength w size mid
    mid_long x =
        let f = data_outside w x in
        subst (λ (g : File). length_of mid g ≡ size) f.0
        (ap (λ (image : Image). length_of image (data_file w)) (after-append (room_steps w old size offset) (data_steps w offset bytes) from)
        ∙ data_long w offset bytes (after (room_steps w old size offset) from)
        ∙ made_long from w old size offset x (subst (λ (g : File). length_of from g ≡ old) (sym f.0) (long x)))

    last_long : HasStreamLength w size last
    last_long x =
        last_same.lengths (External (external_number w)) refl ∙ mid_long x

    pub written_inside : size < 2 ^ 32 → WritesInside entry i w old size offset bytes from (after (inside_steps record_bytes entry i w old size offset bytes) from)
    written_inside fit = subst (λ (image : Image). WritesInside entry i w old size offset bytes from image) (sym last_is) (record {
      written = λ cut is. data_stays files entry i w size kind stands small inside apart mid last last_same ∙ here_data from w old size offset cut bytes made is;
      size_is = last_size fit;
      long = last_long;
      middle = mid;
      data_first = until_last (SameOutside (data_of w) from) (SameOutside (data_of w) from) (here_steps w old size offset bytes) from (here_outside from w old size offset bytes (λ blocky. let h = inside.room blocky in omega (arith, h)) few);
      words_then = last_same;
    })
