-- What has an owner stays where a stream is written.
use Rattle.std.proofs.Common.{◌≡◌, ◌≢◌, ℕ, ◌+◌, ◌-◌, ◌<◌, ◌≤◌, Bool, true, false, if◌then◌else◌, refl, sym, ◌∙◌, ap, subst, arith}
use Rattle.std.specs.Prelude.{◌==◌, nat_eq}
use Rattle.std.proofs.lemmas.Bool.{eqb-true}
use Rattle.std.proofs.lemmas.Bool.Decides.{nat_tests}
use Rattle.spec_image.specs.Image.{Block, External, File, Image, has_file}
use Rattle.spec_image.specs.Footprint.{IsWithin, SameOutside, either, nothing, range, whole}
use Rattle.spec_image.proofs.Footprints.{same_file_outside, within_both, within_left, within_right}
use Rattle.spec_format.specs.Address.{byte_size, external, external_number, file_selector, kind_of, place}
use Rattle.spec_format.proofs.SpareHeaders.{past_header}
use Rattle.blk_disk.specs.declared.tables.BlockFiles.{BlockFiles}
use Rattle.blk_disk.specs.Tables.{Agrees, stands_among}
use Rattle.blk_disk.proofs.Ranges.{room_small, stands_agree, stands_linked}
use Rattle.blk_entry.specs.Keys.{IsInside, data_file, data_start}
use Rattle.blk_entry.specs.Writing.{ShareNoBlock}
use Rattle.blk_entry.proofs.KeyPlaces.{of_other}
use Rattle.blk_alloc.proofs.Changing.{within-trans}
use Rattle.blk_alloc.specs.Changes.{map_of}
use Rattle.blk_alloc.specs.Extending.{KeepsStanding}
use Rattle.blk_alloc.specs.Owning.{is_of}
use Rattle.blk_stream.specs.Changing.{record_word, stream_words}
use Rattle.blk_stream.specs.Copying.{ShareNoData}
use Rattle.blk_stream.specs.Freeing.{freeing_of, is_block_of, leaving_of}
use Rattle.blk_stream.specs.Inside.{data_of, size_words}
use Rattle.blk_stream.specs.Moving.{data_at_place}
use Rattle.blk_stream.specs.Owned.{AreOthers, KeepsOwned}
use Rattle.blk_stream.specs.Placing.{IsNewPlace}
use Rattle.blk_stream.specs.Streams.{address_place, size_place}
use Rattle.blk_stream.proofs.Apart.{blocks_back, new_number, none_shared}
use Rattle.blk_stream.proofs.Fillings.{data_off}
use Rattle.blk_stream.proofs.PlacesLeft.{leaving_off}
use Rattle.blk_stream.proofs.WriteStages.{off_within}

clash : true ≡ false → ⊥
clash e = cc

of_blocks : (w n b : ℕ) → kind_of w ≢ external → is_block_of w n b ≡ is_of w n b
unfolding is_block_of
of_blocks w n b blocky = let t : (kind_of w == external) ≡ false = grind (arith, nat_tests) in rw t refl

data_inside : (v : ℕ) → kind_of v ≢ external → (data_file v ≡ Block (file_selector v)) × (data_start v ≡ place v)
unfolding data_file data_start
data_inside v blocky = let t : (kind_of v == external) ≡ false = grind (arith, nat_tests) in (rw t refl, rw t refl)

-- a byte of some blocks isn't in the data of an address that shares no block with them
pub block_off : (files : BlockFiles) (v w size k : ℕ) → kind_of v ≢ external → stands_among files v ≡ true → IsInside files w 0 size → (kind_of w ≢ external → ShareNoBlock v w) → place v ≤ k → k < place v + byte_size v → (data_of w).bytes (Block (file_selector v)) k ≡ false
block_off files v w size k blocky stands inside apart low high =
    let room = room_small v in
    let here : IsInside files v 0 (byte_size v) = record { small = omega (arith, room); stands = λ _. stands; room = λ _. omega arith } in
    let share : ShareNoData v w = record { files = λ is_v is_w. absurd (blocky is_v); blocks = λ is_v is_w. apart is_w } in
    let off = data_off files v w (byte_size v) size here inside share (k - place v) (omega (arith, low, high)) in
    let where_it_is = data_inside v blocky in
    let at : place v + (k - place v) ≡ k = omega (arith, low) in
    subst (λ (p : ℕ). (data_of w).bytes (Block (file_selector v)) p ≡ false) at
    (subst (λ (p : ℕ). (data_of w).bytes (Block (file_selector v)) (p + (k - place v)) ≡ false) where_it_is.1
    (subst (λ (f : File). (data_of w).bytes f (data_start v + (k - place v)) ≡ false) where_it_is.0 off))

-- an external file of another number is off data, and off what is freed
pub data_off_file : (w number : ℕ) → (kind_of w ≡ external → external_number w ≢ number) → ((k : ℕ) → (data_of w).bytes (External number) k ≡ false) × ((data_of w).sizes (External number) ≡ false)
unfolding data_of
data_off_file w number other = by_test (kind_of w == external) refl
  where
    by_test : (t : Bool) → (kind_of w == external) ≡ t → ((k : ℕ) → (if t then whole (External (external_number w)) else range (Block (file_selector w)) (place w) (byte_size w)).bytes (External number) k ≡ false)
        × ((if t then whole (External (external_number w)) else range (Block (file_selector w)) (place w) (byte_size w)).sizes (External number) ≡ false)
    by_test true e = let differ = other (eqb-true (kind_of w) external e) in let z : nat_eq (external_number w) number ≡ false = grind (arith, nat_tests) in (λ k. z, z)
    by_test false e = (λ k. refl, refl)

leaving_off_file : (old number : ℕ) → (kind_of old ≡ external → external_number old ≢ number) → ((k : ℕ) → (leaving_of old).bytes (External number) k ≡ false) × ((leaving_of old).sizes (External number) ≡ false)
unfolding leaving_of freeing_of
leaving_off_file old number other = by_tests (old == 0) (kind_of old == external) refl
  where
    by_tests : (s t : Bool) → (kind_of old == external) ≡ t → ((k : ℕ) → (if s then nothing else if t then whole (External (external_number old)) else map_of (file_selector old)).bytes (External number) k ≡ false)
        × ((if s then nothing else if t then whole (External (external_number old)) else map_of (file_selector old)).sizes (External number) ≡ false)
    by_tests true t e = (λ k. refl, refl)
    by_tests false true e = let differ = other (eqb-true (kind_of old) external e) in let z : nat_eq (external_number old) number ≡ false = grind (arith, nat_tests) in (λ k. z, z)
    by_tests false false e = (λ k. refl, refl)

-- A new place, in the place of an old one.

module _ (files kept : BlockFiles) (entry i old w size : ℕ) (from made filled image : Image) (agrees : Agrees files from) (standing : KeepsStanding files kept) (placed : IsNewPlace files w from made) (w_inside : w ≢ 0 → IsInside kept w 0 size)
    (fills : SameOutside (data_at_place w) made filled) (leaves : SameOutside (either (stream_words entry i) (leaving_of old)) filled image) where
  new_apart_of : (v : ℕ) → AreOthers files v old from → kind_of w ≢ external → ShareNoBlock v w
  new_apart_of v others blocky_w =
      none_shared v w
      (λ b of_v of_w. clash (sym (others.marked b (of_blocks v (file_selector v) b others.block_kind ∙ of_v)) ∙ placed.free (file_selector v) b (stands_linked files v others.stand) (of_blocks w (file_selector v) b blocky_w ∙ of_w)))

  filling_off : (v k : ℕ) → AreOthers files v old from → place v ≤ k → k < place v + byte_size v → (data_at_place w).bytes (Block (file_selector v)) k ≡ false
  unfolding data_at_place
  filling_off v k others low high = by_test (w == 0) refl
    where
      by_test : (t : Bool) → (w == 0) ≡ t → (if t then nothing else data_of w).bytes (Block (file_selector v)) k ≡ false
      by_test true e = refl
      by_test false e = block_off kept v w size k others.block_kind (standing v others.stand) (w_inside (of_other w 0 e)) (new_apart_of v others) low high

  filling_off_file : (number : ℕ) → has_file from (External number) ≡ true → ((k : ℕ) → (data_at_place w).bytes (External number) k ≡ false) × ((data_at_place w).sizes (External number) ≡ false)
  unfolding data_at_place
  filling_off_file number there = by_test (w == 0) refl
    where
      by_test : (t : Bool) → (w == 0) ≡ t → ((k : ℕ) → (if t then nothing else data_of w).bytes (External number) k ≡ false) × ((if t then nothing else data_of w).sizes (External number) ≡ false)
      by_test true e = (λ k. refl, refl)
      by_test false e = data_off_file w number (λ kind same. clash (sym there ∙ ap (λ (n : ℕ). has_file from (External n)) (sym same) ∙ new_number files w from made (of_other w 0 e) kind placed))

  pub moved_owned : KeepsOwned files entry i old from image
  moved_owned = record {
    blocks = λ v k others low high off.
        let past = past_header v in
        let last = leaving_off old (file_selector v) k (omega (arith, past, low)) in
        let stands = sym (stands_agree files from v agrees) ∙ others.stand in
        leaves.bytes (Block (file_selector v)) k (rw (off, last) refl) ∙ fills.bytes (Block (file_selector v)) k (filling_off v k others low high) ∙ placed.makes.keeps.blocks.bytes v k stands low high;
    externals = λ number there other.
        let last = leaving_off_file old number other in
        let fill = filling_off_file number there in
        same_file_outside (either (stream_words entry i) (leaving_of old)) filled image (External number) leaves last.0 last.1
        ∙ same_file_outside (data_at_place w) made filled (External number) fills fill.0 fill.1
        ∙ placed.makes.keeps.externals number there;
  }

-- A place that stays.

pub inside_owned : (files : BlockFiles) (entry i w size : ℕ) (from image : Image) → IsInside files w 0 size → SameOutside (either (data_of w) (size_words entry i)) from image → KeepsOwned files entry i w from image
inside_owned files entry i w size from image inside same = record {
  blocks = λ v k others low high off.
      let a = block_off files v w size k others.block_kind others.stand inside (λ blocky. blocks_back w v (others.apart blocky)) low high in
      let b = off_within (size_words entry i) (stream_words entry i) (Block (file_selector v)) k words_within off in
      same.bytes (Block (file_selector v)) k (rw (a, b) refl);
  externals = λ number there other.
      let a = data_off_file w number other in
      same_file_outside (either (data_of w) (size_words entry i)) from image (External number) same (λ k. let z = a.0 k in rw z refl) (let z = a.1 in rw z refl);
}
  where
    words_within : IsWithin (size_words entry i) (stream_words entry i)
    words_within =
        within_both (record_word entry (size_place i)) (record_word entry 92) (stream_words entry i) (within_left (record_word entry (size_place i)) (either (record_word entry (address_place i)) (record_word entry 92)))
        (within-trans (record_word entry 92) (either (record_word entry (address_place i)) (record_word entry 92)) (stream_words entry i) (within_right (record_word entry (address_place i)) (record_word entry 92)) (within_right (record_word entry (size_place i)) (either (record_word entry (address_place i)) (record_word entry 92))))
