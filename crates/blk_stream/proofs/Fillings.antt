-- What the filling of a new place leaves.
use Rattle.std.proofs.Common.{◌≡◌, ◌≢◌, inl, inr, ⊎_elim, ℕ, ◌+◌, ◌-◌, ◌<◌, ◌≤◌, Bool, true, false, if◌then◌else◌, List, length, Option, None, Some, refl, sym, ◌∙◌, ap, subst, arith}
use Rattle.std.specs.Prelude.{◌==◌, ◌&&◌, min, nat_eq, unwrap_or}
use Rattle.std.proofs.lemmas.Bool.{cases_eq, eqb-true}
use Rattle.std.proofs.lemmas.Bool.Decides.{nat_tests}
use Rattle.std.specs.Option.{option_map, ForSome}
use Rattle.spec_image.specs.Image.{File, Block, External, Image, length_of}
use Rattle.spec_image.specs.Steps.{TrailStep, after}
use Rattle.spec_image.specs.Footprint.{SameOutside, IsWithin, range, whole}
use Rattle.spec_image.specs.Told.{Told, Along, Applies, AppliesPrefix, Passes}
use Rattle.spec_image.proofs.Footprints.{outside-refl, outside-trans, outside_steps, outside_wider, range_within, within_both}
use Rattle.spec_image.proofs.Runs.{part_whole, passes_part, passes_weaker, some_inj, until_last}
use Rattle.spec_format.specs.Address.{kind_of, external, external_number, file_selector, first_block, block_count, place, byte_size}
use Rattle.spec_format.proofs.SpareHeaders.{other_file}
use Rattle.blk_disk.specs.declared.tables.BlockFiles.{BlockFiles}
use Rattle.blk_disk.specs.Tables.{Agrees}
use Rattle.blk_entry.specs.Keys.{IsInFile, IsInside, data_file, data_start}
use Rattle.blk_entry.specs.Steps.{data_steps}
use Rattle.blk_entry.proofs.NewImages.{same_kind}
use Rattle.blk_stream.specs.declared.places.Stored.{Stored}
use Rattle.blk_stream.specs.Copying.{AreOldBytes, HasOldPlace, ShareNoData, ShareNoFile, old_spans, span_of}
use Rattle.blk_stream.specs.Filling.{FillsPlace}
use Rattle.blk_stream.specs.Inside.{HasStreamLength, data_of, room_steps}
use Rattle.blk_stream.proofs.PlacesFreed.{blocky_of}
use Rattle.blk_stream.proofs.Copies.{blocks_before, has_data}
use Rattle.blk_stream.proofs.InsideData.{HasMade, data_beside, data_long, data_outside, data_there, made_blocks, made_external, made_long, moved_data}
use Rattle.blk_stream.proofs.InsideSteps.{apart_file, data_within, quiet_data, quiet_room, room_within}
use Rattle.blk_stream.proofs.Joined.{then_passes, told_then}
use Rattle.blk_stream.proofs.Naming.{apart_place}

-- a folder that is opaque after steps was opaque before them
pub none_before : {a b : Told} {s : List TrailStep} → Applies a b s → b.files ≡ None → a.files ≡ None
none_before {a} {b} {s} steps none = by_files a.files refl
  where
    by_files : (o : Option Image) → a.files ≡ o → a.files ≡ None
    by_files None e = e
    by_files (Some from) e = absurd (let h : Some (after s from) ≡ None = sym (ap (option_map (after s)) e) ∙ sym steps.files ∙ none in cc)

-- no bytes lie nowhere
none_inside : (files : BlockFiles) (n : ℕ) → n ≡ 0 → IsInside files 0 0 n
unfolding kind_of
none_inside files n none = record { small = omega (arith, none); stands = λ blocky. absurd (blocky refl); room = λ blocky. absurd (blocky refl) }

-- the old place, or none, has its bytes inside
pub old_inside : (files : BlockFiles) (old : Stored) → HasOldPlace files old → IsInside files (unwrap_or old.addr 0) 0 old.size
old_inside files old has = by_addr old.addr refl
  where
    by_addr : (o : Option ℕ) → old.addr ≡ o → IsInside files (unwrap_or o 0) 0 old.size
    by_addr None e = none_inside files old.size (has.none e)
    by_addr (Some w) e = has.inside w e

-- the length of another external file is off the data
pub sizes_off : (v w : ℕ) → ShareNoFile v w → kind_of v ≡ external → (data_of w).sizes (External (external_number v)) ≡ false
unfolding data_of
sizes_off v w apart kind = by_test (kind_of w == external) refl
  where
    by_test : (t : Bool) → (kind_of w == external) ≡ t → (if t then whole (External (external_number w)) else range (Block (file_selector w)) (place w) (byte_size w)).sizes (External (external_number v)) ≡ false
    by_test false t = refl
    by_test true t = let differ = apart kind (eqb-true (kind_of w) external t) in let e : nat_eq (external_number w) (external_number v) ≡ false = grind (arith, nat_tests) in e

-- the spans of the old bytes lie in the new place
span_within : (w start end : ℕ) → (kind_of w ≢ external → (start ≤ byte_size w) × (end ≤ byte_size w)) → IsWithin (span_of w start end) (data_of w)
unfolding data_file data_start data_of
span_within w start end fits = by_test (kind_of w == external) refl
  where
    by_test : (t : Bool) → (kind_of w == external) ≡ t → IsWithin (range (if t then External (external_number w) else Block (file_selector w)) ((if t then 0 else place w) + start) (end - start)) (if t then whole (External (external_number w)) else range (Block (file_selector w)) (place w) (byte_size w))
    by_test true t = record { bytes = λ g i e. (and_first _ _ e); sizes = λ g e. absurd (let z : false ≡ true = e in cc) }
      where
        and_first : (a b : Bool) → (a && b) ≡ true → a ≡ true
        and_first true b e = refl
        and_first false b e = e
    by_test false t = let h = fits (blocky_of w t) in range_within (Block (file_selector w)) (place w + start) (end - start) (place w) (byte_size w) (omega arith) (omega (arith, h))

pub spans_within : (w old size offset count : ℕ) → (kind_of w ≢ external → size ≤ byte_size w) → offset + count ≤ size → IsWithin (old_spans w old size offset count) (data_of w)
spans_within w old size offset count fits few =
    within_both (span_of w 0 (min offset old)) (span_of w (offset + count) (min size old)) (data_of w)
    (span_within w 0 (min offset old) (λ blocky. let h = fits blocky in (omega arith, omega (arith, h, few))))
    (span_within w (offset + count) (min size old) (λ blocky. let h = fits blocky in (omega (arith, h, few), omega (arith, h))))

-- the bytes of one address lie off the data of another
pub data_off : (files : BlockFiles) (u w old size : ℕ) → IsInside files u 0 old → IsInside files w 0 size → ShareNoData u w → (k : ℕ) → k < old → (data_of w).bytes (data_file u) (data_start u + k) ≡ false
unfolding data_file data_start data_of
data_off files u w old size u_inside w_inside apart k low = by_tests (kind_of u == external) (kind_of w == external) refl refl
  where
    by_tests : (s t : Bool) → (kind_of u == external) ≡ s → (kind_of w == external) ≡ t
        → (if t then whole (External (external_number w)) else range (Block (file_selector w)) (place w) (byte_size w)).bytes (if s then External (external_number u) else Block (file_selector u)) ((if s then 0 else place u) + k) ≡ false
    by_tests true true s t =
        let differ = apart.files (eqb-true (kind_of u) external s) (eqb-true (kind_of w) external t) in
        let e : nat_eq (external_number w) (external_number u) ≡ false = grind (arith, nat_tests) in e
    by_tests true false s t = refl
    by_tests false true s t = refl
    by_tests false false s t =
        ⊎_elim
        (λ (same : file_selector u ≡ file_selector w).
        let kinds = same_kind files u w (u_inside.stands (blocky_of u s)) (w_inside.stands (blocky_of w t)) same in
        let room = u_inside.room (blocky_of u s) in
        apart_place (Block (file_selector w)) (Block (file_selector u)) (place w) (byte_size w) (place u + k)
        (⊎_elim
        (λ (first : first_block u + block_count u ≤ first_block w). inl (let h = blocks_before u w kinds first in omega (arith, h, low, room)))
        (λ (last : first_block w + block_count w ≤ first_block u). inr (let h = blocks_before w u (sym kinds) last in omega (arith, h)))
        (apart.blocks (blocky_of u s) (blocky_of w t) same)))
        (λ (differ : file_selector u ≢ file_selector w).
        apart_file (Block (file_selector w)) (Block (file_selector u)) (place w) (byte_size w) (place u + k) (other_file (file_selector w) (file_selector u) differ))
        (cases_eq (file_selector u) (file_selector w))

module _ (files : BlockFiles) (u w old size offset : ℕ) (bytes : List ℕ) (u_inside : IsInside files u 0 old) (w_inside : IsInside files w 0 size) (few : offset + length bytes ≤ size) (start : ℕ) (start_is : start ≡ (if kind_of w == external then 0 else old)) (from : Image) where
  fits : kind_of w ≢ external → size ≤ byte_size w
  fits blocky = let h = w_inside.room blocky in omega (arith, h)

  pub room_along : Along (SameOutside (data_of w) from) from (room_steps w start size offset)
  room_along = outside_steps (data_of w) (room_steps w start size offset) from from (room_within w start size offset fits (omega (arith, few))) (outside-refl (data_of w) from)

  abbrev one : Image
  one = after (room_steps w start size offset) from

  pub room_same : SameOutside (data_of w) from one
  room_same = until_last (SameOutside (data_of w) from) (SameOutside (data_of w) from) (room_steps w start size offset) from room_along

  pub old_same : (mid image : Image) → SameOutside (data_of w) from mid → SameOutside (old_spans w old size offset (length bytes)) mid image → SameOutside (data_of w) from image
  old_same mid image before same = outside-trans (data_of w) from mid image before (outside_wider (old_spans w old size offset (length bytes)) (data_of w) mid image (spans_within w old size offset (length bytes) fits few) same)

  pub new_along : (mid : Image) → SameOutside (data_of w) from mid → Along (SameOutside (data_of w) from) mid (data_steps w offset bytes)
  new_along mid before = outside_steps (data_of w) (data_steps w offset bytes) from mid (data_within w offset bytes (λ blocky. let h = fits blocky in omega (arith, h, few))) before

  small_start : start ≤ old
  small_start = by_test (kind_of w == external) start_is
    where
      by_test : (t : Bool) → start ≡ (if t then 0 else old) → start ≤ old
      by_test true e = omega (arith, e)
      by_test false e = omega (arith, e)

  module _ (agrees : Agrees files from) (empty : HasStreamLength w 0 from) where
    made : HasMade from one w start size offset
    made = by_test (kind_of w == external) refl
      where
        by_test : (t : Bool) → (kind_of w == external) ≡ t → HasMade from one w start size offset
        by_test true t =
            let kind : kind_of w ≡ external = eqb-true (kind_of w) external t in
            let none : start ≡ 0 = start_is ∙ ap (λ (b : Bool). if b then 0 else old) t in
            made_external from w start size offset kind (subst (λ (g : File). length_of from g ≡ start) (sym (data_outside w kind).0) (empty kind ∙ sym none))
        by_test false t = made_blocks from w start size offset t (has_data files w w 0 size w_inside w_inside (omega arith) w w_inside from agrees (λ kind. absurd (blocky_of w t kind)))

    pub one_long : HasStreamLength w size one
    one_long kind =
        let t : (kind_of w == external) ≡ true = grind (arith, nat_tests) in
        let none : start ≡ 0 = start_is ∙ ap (λ (b : Bool). if b then 0 else old) t in
        let f = data_outside w kind in
        subst (λ (g : File). length_of one g ≡ size) f.0 (made_long from w start size offset kind (subst (λ (g : File). length_of from g ≡ start) (sym f.0) (empty kind ∙ sym none)))

    pub filled : (apart : ShareNoData u w) (two : Image) → SameOutside (old_spans w old size offset (length bytes)) one two → AreOldBytes u w old size offset (length bytes) one two → FillsPlace u w old size offset bytes from (after (data_steps w offset bytes) two)
    filled apart two same copied = record {
      written = λ cut is. moved_data from last u w old size offset cut bytes is
          (λ k low in_old. data_beside w offset bytes two k (inl low) ∙ copied.before k (omega arith) (omega (arith, low, in_old)) ∙ room_same.bytes (data_file u) (data_start u + k) (data_off files u w old size u_inside w_inside apart k in_old))
          (λ k low up. data_beside w offset bytes two k (inl low) ∙ same.bytes (data_file w) (data_start w + k) (off_spans k low up) ∙ made.gap k (omega (arith, low, few)) (omega (arith, small_start, up)) low)
          (λ k up high. data_there w offset bytes two k up high (let h = made.there in let l = same.lengths (data_file w) refl in omega (arith, h, l, high, few)))
          (λ k up small in_old. data_beside w offset bytes two k (inr up) ∙ copied.behind k up (omega (arith, small, in_old)) ∙ room_same.bytes (data_file u) (data_start u + k) (data_off files u w old size u_inside w_inside apart k in_old))
          few;
      long = λ kind.
          let f = data_outside w kind in
          let l = same.lengths (External (external_number w)) refl in
          let one_is = one_long kind in
          subst (λ (g : File). length_of last g ≡ length_of two g) f.0 (data_long w offset bytes two) ∙ l ∙ one_is;
    }
      where
        last : Image
        last = after (data_steps w offset bytes) two

        off_spans : (k : ℕ) → k < offset → old ≤ k → (old_spans w old size offset (length bytes)).bytes (data_file w) (data_start w + k) ≡ false
        off_spans k low up =
            let a : (span_of w 0 (min offset old)).bytes (data_file w) (data_start w + k) ≡ false = apart_place (data_file w) (data_file w) (data_start w + 0) (min offset old - 0) (data_start w + k) (inr (omega (arith, low, up))) in
            let b : (span_of w (offset + length bytes) (min size old)).bytes (data_file w) (data_start w + k) ≡ false = apart_place (data_file w) (data_file w) (data_start w + (offset + length bytes)) (min size old - (offset + length bytes)) (data_start w + k) (inl (omega (arith, low))) in
            rw (a, b) refl

  -- The calls, one after the other.

  abbrev P : Image → Type 0
  P = SameOutside (data_of w) from

  module _ (a m : Told) (there : a.files ≡ Some from) where
    pub room_passes : AppliesPrefix a m (room_steps w start size offset) → Passes a m P
    room_passes prefix = passes_part P P prefix (quiet_room w start size offset) (λ image h. h) (λ image now. subst (λ (i : Image). Along P i (room_steps w start size offset)) (some_inj (sym there ∙ now)) room_along)

    one_is : Applies a m (room_steps w start size offset) → m.files ≡ Some one
    one_is steps = steps.files ∙ ap (option_map (after (room_steps w start size offset))) there

    -- the bytes of an external file that isn't the new one are there still
    pub room_keeps : (v n : ℕ) → ShareNoFile v w → Applies a m (room_steps w start size offset) → IsInFile v 0 n from → ForSome m.files (IsInFile v 0 n)
    room_keeps v n apart steps was mid now kind =
        let e : one ≡ mid = some_inj (sym (one_is steps) ∙ now) in
        let h = was kind in
        let l = (subst (λ (i : Image). SameOutside (data_of w) from i) e room_same).lengths (External (external_number v)) (sizes_off v w apart kind) in
        omega (arith, h, l)

    module _ (n : Told) (steps : Applies a m (room_steps w start size offset)) (stops : ForSome m.files (λ mid. Passes m n (SameOutside (old_spans w old size offset (length bytes)) mid))) where
      pub old_passes : Passes a n P
      old_passes = then_passes a m n from P there (room_passes (part_whole steps)) (λ mid now before. passes_weaker (stops mid now) (λ image same. old_same mid image before same) (λ image same. old_same mid image before same))

      pub new_passes : (b : Told) → AppliesPrefix n b (data_steps w offset bytes) → Passes a b P
      new_passes b prefix =
          then_passes a n b from P there old_passes
          (λ mid now before. passes_part P P prefix (quiet_data w offset bytes) (λ image h. h) (λ image here. subst (λ (i : Image). Along P i (data_steps w offset bytes)) (some_inj (sym now ∙ here)) (new_along mid before)))

      pub fill_done : (b : Told) → Agrees files from → HasStreamLength w 0 from → ShareNoData u w → ForSome m.files (λ mid. ForSome n.files (AreOldBytes u w old size offset (length bytes) mid)) → Applies n b (data_steps w offset bytes)
          → ForSome b.files (FillsPlace u w old size offset bytes from)
      fill_done b agrees empty apart copied steps_of_new image now =
          let is = one_is steps in
          let two = told_then m n one (SameOutside (old_spans w old size offset (length bytes)) one) is (stops one is) in
          let last : after (data_steps w offset bytes) two.image ≡ image = some_inj (sym (ap (option_map (after (data_steps w offset bytes))) two.is) ∙ sym steps_of_new.files ∙ now) in
          subst (FillsPlace u w old size offset bytes from) last (filled agrees empty apart two.image two.holds (copied one is two.image two.is))
