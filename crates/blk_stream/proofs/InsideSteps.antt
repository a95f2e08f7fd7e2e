-- The steps that write a stream inside its place.
use Rattle.std.proofs.Common.{◌≡◌, ◌≢◌, inl, inr, ⊎_elim, ℕ, ◌+◌, ◌-◌, ◌*◌, ◌%◌, ◌<◌, ◌≤◌, Bool, true, false, ◌&&◌, if◌then◌else◌, nat_le, nat_lt, List, [], ◌∷◌, length, refl, sym, ◌∙◌, ap, subst, arith}
use Rattle.std.specs.Prelude.{◌==◌}
use Rattle.std.specs.Option.{ForSome}
use Rattle.std.proofs.lemmas.Bool.{and_parts, cases_Bool, cases_eq, eqb-true}
use Rattle.std.proofs.lemmas.Bool.Decides.{nat_tests}
use Rattle.std.proofs.lemmas.List.Elements.{All-nil, All-cons}
use Rattle.spec_image.specs.Bytes.{zeros}
use Rattle.spec_image.specs.Image.{File, Block, External, Image, byte, length_of, same_file}
use Rattle.spec_image.specs.Steps.{TrailStep, SetLength, after, applied, with_words, words, word_step}
use Rattle.spec_image.specs.Footprint.{Footprint, SameOutside, IsWithin, either, nothing, one_word, range, whole, touched_by_all}
use Rattle.spec_image.specs.Told.{Told, Applies, AppliesPrefix, Along, IsQuiet}
use Rattle.spec_image.proofs.Footprints.{outside-refl, outside-trans, outside_step, outside_steps, outside_wider, within_both, within_left, within_right, words_within}
use Rattle.spec_image.proofs.Images.{length-after_set_len}
use Rattle.spec_image.proofs.Runs.{told_part, told_whole, until-append, until_both, until_last, until_weaker2, quiet-append}
use Rattle.spec_image.proofs.WordSteps.{quiet-word_steps, quiet-words}
use Rattle.spec_image.proofs.Words.{same-range}
use Rattle.spec_image.proofs.Splices.{length-zeros}
use Rattle.spec_format.specs.Address.{kind_of, external, external_number, file_selector, first_block, block_count, place, byte_size, block_place, block_size, blocks_256}
use Rattle.spec_format.specs.Records.{seal_of}
use Rattle.spec_format.specs.Sealed.{AreChanges, IsMidUpdate, RecordChecks, new_seal, record_at, placed, record_size, sealed_steps, seal_place, steps_over, update_steps, update_words}
use Rattle.spec_format.proofs.SealedRecords.{entry_bytes, entry_seal, moments, record_inside}
use Rattle.spec_format.proofs.SpareHeaders.{SparesHeaders, other_file}
use Rattle.blk_disk.specs.declared.tables.BlockFiles.{BlockFiles}
use Rattle.blk_disk.specs.Tables.{Agrees, stands_among}
use Rattle.blk_disk.proofs.Agreeing.{agrees_still}
use Rattle.blk_disk.proofs.Ranges.{stands_range}
use Rattle.blk_entry.specs.Keys.{IsInFile, IsInside, data_file, data_start}
use Rattle.blk_entry.specs.Steps.{data_steps}
use Rattle.blk_entry.specs.Writing.{ShareNoBlock}
use Rattle.blk_entry.proofs.NewImages.{same_kind}
use Rattle.blk_entry.proofs.Windows.{entry_room, entry_room_least}
use Rattle.blk_entry.proofs.DataSteps.{data-beside, steps_of_blocks, steps_of_external}
use Rattle.blk_stream.specs.Streams.{size_place}
use Rattle.blk_stream.specs.Changing.{record_word}
use Rattle.blk_stream.specs.Inside.{WritesInProgress, data_of, gap_steps, here_steps, inside_steps, external_length_steps, room_steps, size_steps, size_words}
use Rattle.blk_alloc.proofs.Changing.{nothing_within, within-trans}
use Rattle.blk_stream.proofs.Naming.{apart_place}

-- no bytes, no steps
pub data_none : (w at : ℕ) (bytes : List ℕ) → length bytes ≡ 0 → data_steps w at bytes ≡ []
unfolding data_steps words
data_none w at [] e = refl
data_none w at (b ∷ bytes) e = absurd (omega (arith, e))

pub gap_none : (w start end : ℕ) → end ≤ start → gap_steps w start end ≡ []
unfolding data_steps words zeros
gap_none w start end low = let z : end - start ≡ 0 = omega (arith, low) in rw z refl

pub size_none : (image : List ℕ) (entry i old size : ℕ) → size ≡ old → size_steps image entry i old size ≡ []
unfolding size_steps
size_none image entry i old size e = let t : (size == old) ≡ true = grind (arith, nat_tests) in rw t refl

pub size_some : (image : List ℕ) (entry i old size : ℕ) → size ≢ old → size_steps image entry i old size ≡ steps_over image entry ((size_place i, size) ∷ [])
unfolding size_steps
size_some image entry i old size e = let t : (size == old) ≡ false = grind (arith, nat_tests) in rw t refl

pub room_external : (w old size offset : ℕ) → (kind_of w == external) ≡ true → room_steps w old size offset ≡ external_length_steps w old size
unfolding room_steps
room_external w old size offset t = rw t refl

pub room_blocks : (w old size offset : ℕ) → (kind_of w == external) ≡ false → room_steps w old size offset ≡ gap_steps w old offset
unfolding room_steps
room_blocks w old size offset t = rw t refl

-- the one change of a record's size of a stream
pub size_changes : (entry i p size : ℕ) → kind_of entry ≡ blocks_256 → i < 3 → p ≡ size_place i → AreChanges (seal_place entry) ((p, size) ∷ [])
size_changes entry i p size kind small is = record {
  few = omega arith;
  aligned = All-cons (λ change. change.0 % 4 ≡ 0) (p, size) [] (omega (arith, is)) (All-nil (λ change. change.0 % 4 ≡ 0));
  before = All-cons (λ change. change.0 < seal_place entry) (p, size) [] (let s : seal_place entry ≡ 92 = entry_seal entry kind in omega (arith, s, small, is)) (All-nil (λ change. change.0 < seal_place entry));
  different = (All-nil (λ other. other.0 ≢ p), tt);
}

-- an external file that gets a length leaves the headers, and has the length then
pub agrees_resized : (files : BlockFiles) (a b : Told) (n size : ℕ) → AppliesPrefix a b (SetLength (External n) size ∷ []) → ForSome a.files (Agrees files) → ForSome b.files (Agrees files)
agrees_resized files a b n size part agrees =
    told_part (Agrees files) part (λ image there. (agrees image there, kept image (applied (SetLength (External n) size) image) (outside_step (SetLength (External n) size) image) (agrees image there)))
  where
    spares : SparesHeaders (whole (External n))
    spares = record { bytes = λ m i small. refl }

    kept : (from image : Image) → SameOutside (whole (External n)) from image → Agrees files from → Agrees files image
    kept from image same was = agrees_still (whole (External n)) from image spares same files (λ m. refl) was

pub resized_there : (a b : Told) (w size : ℕ) → Applies a b (SetLength (External (external_number w)) size ∷ []) → ForSome b.files (IsInFile w 0 size)
resized_there a b w size grown =
    told_whole (IsInFile w 0 size) grown (λ image there kind. let long = length-after_set_len image (External (external_number w)) size in omega (arith, long))

-- What is touched.

range_whole : (f : File) (p n : ℕ) → IsWithin (range f p n) (whole f)
range_whole f p n = record { bytes = λ g i e. (and_parts (same_file f g) (nat_le p i && nat_lt i (p + n)) e).0; sizes = λ g e. absurd (let z : false ≡ true = e in cc) }

pub data_external : (w : ℕ) → kind_of w ≡ external → data_of w ≡ whole (External (external_number w))
unfolding data_of
data_external w kind = let t : (kind_of w == external) ≡ true = grind (arith, nat_tests) in rw t refl

pub data_blocks : (w : ℕ) → kind_of w ≢ external → data_of w ≡ range (Block (file_selector w)) (place w) (byte_size w)
unfolding data_of
data_blocks w blocky = let t : (kind_of w == external) ≡ false = grind (arith, nat_tests) in rw t refl

-- a write of data touches the data
pub data_within : (w at : ℕ) (bytes : List ℕ) → (kind_of w ≢ external → at + length bytes ≤ byte_size w) → IsWithin (touched_by_all (data_steps w at bytes)) (data_of w)
data_within w at bytes fits =
    ⊎_elim
    (λ (t : (kind_of w == external) ≡ true). let kind : kind_of w ≡ external = eqb-true (kind_of w) external t in
    subst (λ (s : List TrailStep). IsWithin (touched_by_all s) (data_of w)) (sym (steps_of_external w at bytes kind))
    (subst (λ (F : Footprint). IsWithin (touched_by_all (words (External (external_number w)) at bytes)) F) (sym (data_external w kind))
    (within-trans _ (range (External (external_number w)) at (length bytes)) _ (words_within (External (external_number w)) at at (length bytes) bytes (omega arith) (omega arith)) (range_whole (External (external_number w)) at (length bytes)))))
    (λ (t : (kind_of w == external) ≡ false). let blocky : kind_of w ≢ external = (λ e. let z : (kind_of w == external) ≡ true = grind (arith, nat_tests) in let y : true ≡ false = sym z ∙ t in cc) in
    let h = fits blocky in
    subst (λ (s : List TrailStep). IsWithin (touched_by_all s) (data_of w)) (sym (steps_of_blocks w at bytes blocky))
    (subst (λ (F : Footprint). IsWithin (touched_by_all (words (Block (file_selector w)) (place w + at) bytes)) F) (sym (data_blocks w blocky))
    (words_within (Block (file_selector w)) (place w + at) (place w) (byte_size w) bytes (omega arith) (omega (arith, h)))))
    (cases_Bool (kind_of w == external))

length_within : (w old size : ℕ) → kind_of w ≡ external → IsWithin (touched_by_all (external_length_steps w old size)) (data_of w)
length_within w old size kind = by_test (size == old)
  where
    by_test : (t : Bool) → IsWithin (touched_by_all (if t then [] else SetLength (External (external_number w)) size ∷ [])) (data_of w)
    by_test true = nothing_within (data_of w)
    by_test false = subst (λ (F : Footprint). IsWithin (either (whole (External (external_number w))) nothing) F) (sym (data_external w kind)) (within_both (whole (External (external_number w))) nothing (whole (External (external_number w))) (record { bytes = λ g i e. e; sizes = λ g e. e }) (nothing_within _))

-- making space touches the data
pub room_within : (w old size offset : ℕ) → (kind_of w ≢ external → size ≤ byte_size w) → offset ≤ size → IsWithin (touched_by_all (room_steps w old size offset)) (data_of w)
room_within w old size offset fits low =
    ⊎_elim
    (λ (t : (kind_of w == external) ≡ true). subst (λ (s : List TrailStep). IsWithin (touched_by_all s) (data_of w)) (sym (room_external w old size offset t)) (length_within w old size (eqb-true (kind_of w) external t)))
    (λ (t : (kind_of w == external) ≡ false). subst (λ (s : List TrailStep). IsWithin (touched_by_all s) (data_of w)) (sym (room_blocks w old size offset t))
    (⊎_elim
    (λ (e : nat_le offset old ≡ true). let h : offset ≤ old = grind (arith, nat_tests) in subst (λ (s : List TrailStep). IsWithin (touched_by_all s) (data_of w)) (sym (gap_none w old offset h)) (nothing_within (data_of w)))
    (λ (e : nat_le offset old ≡ false). let h : old < offset = grind (arith, nat_tests) in
    data_within w old (zeros (offset - old)) (λ blocky. let f = fits blocky in let n = length-zeros (offset - old) in omega (arith, f, low, h, n)))
    (cases_Bool (nat_le offset old))))
    (cases_Bool (kind_of w == external))

-- after each step of making space and writing nothing but the data differs
pub here_outside : (from : Image) (w old size offset : ℕ) (bytes : List ℕ) → (kind_of w ≢ external → size ≤ byte_size w) → offset + length bytes ≤ size → Along (SameOutside (data_of w) from) from (here_steps w old size offset bytes)
here_outside from w old size offset bytes fits few =
    let P : Image → Type 0 = SameOutside (data_of w) from in
    let first : Along P from (room_steps w old size offset) = outside_steps (data_of w) (room_steps w old size offset) from from (room_within w old size offset fits (omega (arith, few))) (outside-refl (data_of w) from) in
    until-append P P (room_steps w old size offset) (data_steps w offset bytes) from first
    (outside_steps (data_of w) (data_steps w offset bytes) from (after (room_steps w old size offset) from) (data_within w offset bytes (λ blocky. let f = fits blocky in omega (arith, f, few))) (until_last P P (room_steps w old size offset) from first))

-- The record beside the data.

pub apart_file : (f g : File) (p n k : ℕ) → same_file f g ≡ false → (range f p n).bytes g k ≡ false
apart_file f g p n k e = rw e refl

pub place_of_entry : (w : ℕ) → kind_of w ≡ blocks_256 → place w ≡ 8192 + 256 * first_block w
unfolding place block_place block_size
place_of_entry w kind = rw kind (let h : 8192 + first_block w * 256 ≡ 8192 + 256 * first_block w = omega arith in h)

-- the data of a word shares no byte with a record, where they share no block
module _ (files : BlockFiles) (entry w size : ℕ) (kind : kind_of entry ≡ blocks_256) (stands : stands_among files entry ≡ true) (inside : IsInside files w 0 size) (apart : kind_of w ≢ external → ShareNoBlock entry w) where
  pub record_off : (k : ℕ) → place entry ≤ k → k < place entry + 96 → (data_of w).bytes (Block (file_selector entry)) k ≡ false
  record_off k low high =
      ⊎_elim
      (λ (t : (kind_of w == external) ≡ true). subst (λ (F : Footprint). F.bytes (Block (file_selector entry)) k ≡ false) (sym (data_external w (eqb-true (kind_of w) external t))) refl)
      (λ (t : (kind_of w == external) ≡ false). let blocky : kind_of w ≢ external = (λ e. let z : (kind_of w == external) ≡ true = grind (arith, nat_tests) in let y : true ≡ false = sym z ∙ t in cc) in
      subst (λ (F : Footprint). F.bytes (Block (file_selector entry)) k ≡ false) (sym (data_blocks w blocky)) (in_blocks blocky))
      (cases_Bool (kind_of w == external))
    where
      in_blocks : kind_of w ≢ external → (range (Block (file_selector w)) (place w) (byte_size w)).bytes (Block (file_selector entry)) k ≡ false
      in_blocks blocky =
          ⊎_elim
          (λ (same : file_selector entry ≡ file_selector w).
          let kind_w : kind_of w ≡ blocks_256 = sym (same_kind files entry w stands (inside.stands blocky) same) ∙ kind in
          let place_e = place_of_entry entry kind in
          let place_w = place_of_entry w kind_w in
          let room_w = entry_room w kind_w in
          let room_e = entry_room_least entry kind in
          let some = entry_room entry kind in
          apart_place (Block (file_selector w)) (Block (file_selector entry)) (place w) (byte_size w) k
          (⊎_elim
          (λ (first : first_block entry + block_count entry ≤ first_block w). inl (omega (arith, first, high, place_e, place_w, room_e, some)))
          (λ (last : first_block w + block_count w ≤ first_block entry). inr (omega (arith, last, low, place_e, place_w, room_w)))
          (apart blocky same)))
          (λ (differ : file_selector entry ≢ file_selector w).
          apart_file (Block (file_selector w)) (Block (file_selector entry)) (place w) (byte_size w) k (other_file (file_selector w) (file_selector entry) differ))
          (cases_eq (file_selector entry) (file_selector w))

  pub record_same : (from image : Image) → SameOutside (data_of w) from image → record_at image entry ≡ record_at from entry
  unfolding record_at
  record_same from image same =
      let size : record_size entry ≡ 96 = entry_bytes entry kind in
      same-range (record_size entry) (place entry) (byte image (Block (file_selector entry))) (byte from (Block (file_selector entry)))
      (λ k low high. same.bytes (Block (file_selector entry)) k (record_off k low (omega (arith, high, size))))

  pub checks_same : (from image : Image) → SameOutside (data_of w) from image → RecordChecks entry from → RecordChecks entry image
  checks_same from image same good = let e = record_same from image same in rw e good

-- the data has no block file
data_keeps_blocks : (w n : ℕ) → (data_of w).sizes (Block n) ≡ false
unfolding data_of
data_keeps_blocks w n = by_test (kind_of w == external)
  where
    by_test : (t : Bool) → (if t then whole (External (external_number w)) else range (Block (file_selector w)) (place w) (byte_size w)).sizes (Block n) ≡ false
    by_test true = refl
    by_test false = refl

-- What the update of the size touches.

seal_within : (entry i : ℕ) → kind_of entry ≡ blocks_256 → IsWithin (one_word (Block (file_selector entry)) (place entry + seal_place entry)) (size_words entry i)
seal_within entry i kind =
    subst (λ (s : ℕ). IsWithin (one_word (Block (file_selector entry)) (place entry + s)) (size_words entry i)) (sym (entry_seal entry kind)) (within_right (record_word entry (size_place i)) (record_word entry 92))

pub sealed_within : (record_bytes : List ℕ) (entry i size : ℕ) → kind_of entry ≡ blocks_256 → IsWithin (touched_by_all (steps_over record_bytes entry ((size_place i, size) ∷ []))) (size_words entry i)
unfolding update_steps word_step
sealed_within record_bytes entry i size kind =
    let S : Footprint = size_words entry i in
    let N : Footprint = one_word (Block (file_selector entry)) (place entry + seal_place entry) in
    let A : Footprint = record_word entry (size_place i) in
    let seal = seal_within entry i kind in
    within_both N (either A (either N nothing)) S seal
    (within_both A (either N nothing) S (within_left A (record_word entry 92))
    (within_both N nothing S seal (nothing_within S)))

-- What the write of the data and the update of the size touch together.

module _ (files : BlockFiles) (entry i w old size offset : ℕ) (bytes : List ℕ) (kind : kind_of entry ≡ blocks_256) (stands : stands_among files entry ≡ true) (small : i < 3)
    (inside : IsInside files w 0 size) (few : offset + length bytes ≤ size) (apart : kind_of w ≢ external → ShareNoBlock entry w) (from : Image) (agrees : Agrees files from) (good : RecordChecks entry from) where
  abbrev P : Image → Type 0
  P = WritesInProgress entry i w from

  abbrev F : Footprint
  F = either (data_of w) (size_words entry i)

  abbrev here : List TrailStep
  here = here_steps w old size offset bytes

  abbrev changes : List (ℕ × ℕ)
  changes = (size_place i, size) ∷ []

  -- only the data differs
  by_data : (image : Image) → SameOutside (data_of w) from image → P image
  by_data image same = record { same = outside_wider (data_of w) F from image (within_left (data_of w) (size_words entry i)) same; checks = checks_same files entry w size kind stands inside apart from image same good }

  outside : Along (SameOutside (data_of w) from) from here
  outside = here_outside from w old size offset bytes (λ blocky. let h = inside.room blocky in omega (arith, h)) few

  pub here_moments : Along P from here
  here_moments = until_weaker2 (SameOutside (data_of w) from) P (SameOutside (data_of w) from) P here from by_data by_data outside

  -- the image between the two
  abbrev mid : Image
  mid = after here from

  mid_same : SameOutside (data_of w) from mid
  mid_same = until_last (SameOutside (data_of w) from) (SameOutside (data_of w) from) here from outside

  pub mid_checks : RecordChecks entry mid
  mid_checks = checks_same files entry w size kind stands inside apart from mid mid_same good

  pub mid_record : record_at mid entry ≡ record_at from entry
  mid_record = record_same files entry w size kind stands inside apart from mid mid_same

  pub mid_sealed : steps_over (record_at from entry) entry changes ≡ sealed_steps mid entry changes
  unfolding new_seal
  mid_sealed = ap (λ (l : List ℕ). steps_over l entry changes) (sym mid_record)

  pub fits : place entry + record_size entry ≤ length_of mid (Block (file_selector entry))
  fits =
      let h = stands_range files from entry 0 (record_size entry) agrees stands (let r = record_inside entry (inr kind) in omega (arith, r)) in
      let long = mid_same.lengths (Block (file_selector entry)) (data_keeps_blocks w (file_selector entry)) in
      omega (arith, h, long)

  sealed_outside : Along (SameOutside (size_words entry i) mid) mid (sealed_steps mid entry changes)
  unfolding new_seal
  sealed_outside = outside_steps (size_words entry i) (sealed_steps mid entry changes) mid mid (sealed_within (record_at mid entry) entry i size kind) (outside-refl (size_words entry i) mid)

  sealed_moments : Along P mid (sealed_steps mid entry changes)
  sealed_moments =
      let steps : List TrailStep = sealed_steps mid entry changes in
      let M : Image → Type 0 = IsMidUpdate mid entry changes in
      let O : Image → Type 0 = SameOutside (size_words entry i) mid in
      until_weaker2 (λ image. M image × O image) P (λ image. M image × O image) P steps mid both_are both_are
      (until_both M O M O steps mid
      (moments entry mid changes fits mid_checks (All-cons (λ c. c.0 + 4 ≤ seal_place entry) (size_place i, size) [] (let s : seal_place entry ≡ 92 = entry_seal entry kind in omega (arith, s, small)) (All-nil (λ c. c.0 + 4 ≤ seal_place entry))))
      sealed_outside)
    where
      both_are : (image : Image) → IsMidUpdate mid entry changes image × SameOutside (size_words entry i) mid image → P image
      both_are image h = record {
        same = outside-trans F from mid image (outside_wider (data_of w) F from mid (within_left (data_of w) (size_words entry i)) mid_same) (outside_wider (size_words entry i) F mid image (within_right (data_of w) (size_words entry i)) h.1);
        checks = h.0.checks;
      }

  size_moments : Along P mid (size_steps (record_at from entry) entry i old size)
  unfolding size_steps
  size_moments = by_test (size == old)
    where
      by_test : (t : Bool) → Along P mid (if t then [] else steps_over (record_at from entry) entry changes)
      by_test true = by_data mid mid_same
      by_test false = subst (λ (s : List TrailStep). Along P mid s) (sym mid_sealed) sealed_moments

  pub inside_moments : (record_bytes : List ℕ) → record_bytes ≡ record_at from entry → Along P from (inside_steps record_bytes entry i w old size offset bytes)
  inside_moments record_bytes read =
      subst (λ (l : List ℕ). Along P from (inside_steps l entry i w old size offset bytes)) (sym read)
      (until-append P P here (size_steps (record_at from entry) entry i old size) from here_moments size_moments)

-- each step is one that a command may make
pub quiet_room : (w old size offset : ℕ) → IsQuiet (room_steps w old size offset)
unfolding room_steps data_steps
quiet_room w old size offset = by_tests (kind_of w == external) (size == old)
  where
    by_tests : (t s : Bool) → IsQuiet (if t then (if s then [] else SetLength (External (external_number w)) size ∷ []) else words (data_file w) (data_start w + old) (zeros (offset - old)))
    by_tests true true = tt
    by_tests true false = tt
    by_tests false s = quiet-words (data_file w) (data_start w + old) (zeros (offset - old)) (data-beside w)

pub quiet_data : (w at : ℕ) (bytes : List ℕ) → IsQuiet (data_steps w at bytes)
unfolding data_steps
quiet_data w at bytes = quiet-words (data_file w) (data_start w + at) bytes (data-beside w)

pub quiet_here : (w old size offset : ℕ) (bytes : List ℕ) → IsQuiet (here_steps w old size offset bytes)
unfolding data_steps
quiet_here w old size offset bytes = quiet-append (room_steps w old size offset) (data_steps w offset bytes) (quiet_room w old size offset) (quiet-words (data_file w) (data_start w + offset) bytes (data-beside w))

quiet_over : (record_bytes : List ℕ) (entry : ℕ) (changes : List (ℕ × ℕ)) → IsQuiet (steps_over record_bytes entry changes)
unfolding update_steps
quiet_over record_bytes entry changes = quiet-word_steps (Block (file_selector entry)) (placed (place entry) (update_words (seal_place entry) changes (seal_of (seal_place entry) (with_words changes record_bytes)))) tt

quiet_size : (record_bytes : List ℕ) (entry i old size : ℕ) → IsQuiet (size_steps record_bytes entry i old size)
unfolding size_steps
quiet_size record_bytes entry i old size = by_test (size == old)
  where
    by_test : (t : Bool) → IsQuiet (if t then [] else steps_over record_bytes entry ((size_place i, size) ∷ []))
    by_test true = tt
    by_test false = quiet_over record_bytes entry ((size_place i, size) ∷ [])

pub quiet_inside : (record_bytes : List ℕ) (entry i w old size offset : ℕ) (bytes : List ℕ) → IsQuiet (inside_steps record_bytes entry i w old size offset bytes)
quiet_inside record_bytes entry i w old size offset bytes = quiet-append (here_steps w old size offset bytes) (size_steps record_bytes entry i old size) (quiet_here w old size offset bytes) (quiet_size record_bytes entry i old size)
