-- Data that is copied piece by piece.
use Rattle.std.proofs.Common.{◌≡◌, ◌≢◌, inl, inr, ⊎_elim, ℕ, ◌+◌, ◌-◌, ◌*◌, ◌<◌, ◌≤◌, Bool, true, false, if◌then◌else◌, List, length, Option, None, Some, refl, sym, ◌∙◌, ap, subst, arith}
use Rattle.std.specs.Prelude.{◌==◌, min, nat_eq}
use Rattle.std.specs.Option.{option_map, ForSome}
use Rattle.std.proofs.lemmas.Bool.{cases_eq, cases_lt, eqb-true}
use Rattle.std.proofs.lemmas.Bool.Decides.{nat_tests}
use Rattle.spec_image.specs.Image.{Block, External, Image, length_of}
use Rattle.spec_image.specs.Steps.{after}
use Rattle.spec_image.specs.Footprint.{Footprint, SameOutside, range}
use Rattle.spec_image.specs.Told.{Told, Along, Applies, AppliesPrefix, IsQuiet, Passes}
use Rattle.spec_image.proofs.Footprints.{outside-refl, outside-trans, outside_steps, outside_wider, within_left, within_right, words_within}
use Rattle.spec_image.proofs.Runs.{part_whole, passes_end, passes_none, passes_part, passes_then, some_inj}
use Rattle.spec_image.proofs.WordSteps.{quiet-words}
use Rattle.spec_image.proofs.Words.{content-range, length-range}
use Rattle.spec_format.specs.Address.{kind_of, external, external_number, file_selector, first_block, block_count, block_place, block_size, place, byte_size}
use Rattle.spec_format.proofs.SpareHeaders.{other_file}
use Rattle.blk_io.specs.declared.fault.Damage.{Damage}
use Rattle.blk_disk.specs.declared.tables.BlockFiles.{BlockFiles}
use Rattle.blk_disk.specs.Tables.{Agrees}
use Rattle.blk_disk.proofs.Ranges.{stands_range}
use Rattle.blk_entry.specs.Keys.{data_at, data_file, data_start, IsInFile, IsInside}
use Rattle.blk_entry.specs.Steps.{data_steps}
use Rattle.blk_entry.proofs.NewImages.{same_kind}
use Rattle.blk_entry.proofs.DataSteps.{data-beside}
use Rattle.blk_stream.specs.declared.places.Stored.{Stored}
use Rattle.blk_stream.specs.Copying.{AreOldBytes, IsCopied, IsCutOld, IsCutPrefix, ShareNoData, data_byte, old_spans, span_of}
use Rattle.blk_stream.proofs.PlacesFreed.{blocky_of}
use Rattle.blk_stream.proofs.Naming.{apart_place}
use Rattle.blk_stream.proofs.InsideSteps.{apart_file}
use Rattle.blk_stream.proofs.InsideData.{data_beside, data_there}

-- the folder is observable
pub record HasFiles (a : Told) : Type 0 where
  pub image : Image
  pub is : a.files ≡ Some image

-- the bytes before a place are copied, and nothing else has changed
pub record HasCopied (a b : Told) (files : BlockFiles) (one other start end at : ℕ) : Type 0 where
  pub low : start ≤ at
  pub passes : ForSome a.files (λ from. Passes a b (SameOutside (span_of other start end) from))
  pub copied : ForSome a.files (λ from. ShareNoData one other → ForSome b.files (IsCopied one other start at from))
  pub agrees : ForSome b.files (Agrees files)
  pub back : ForSome b.files (λ image. HasFiles a)
  pub silent : a.files ≡ None → b.files ≡ None

pub none_copied : (a : Told) (files : BlockFiles) (one other start end : ℕ) → ForSome a.files (Agrees files) → HasCopied a a files one other start end start
none_copied a files one other start end agrees = record {
  low = omega arith;
  passes = λ from there. passes_none (SameOutside (span_of other start end) from) refl (λ image now. subst (λ (i : Image). SameOutside (span_of other start end) from i) (some_inj (sym there ∙ now)) (outside-refl (span_of other start end) from));
  copied = λ from there apart image now k low high. absurd (omega (arith, low, high));
  agrees = agrees;
  back = λ image there. record { image = image; is = there };
  silent = λ none. none;
}

-- Data that lies apart.

-- the blocks of one address end before those of another of its kind begin
pub blocks_before : (u w : ℕ) → kind_of u ≡ kind_of w → first_block u + block_count u ≤ first_block w → place u + byte_size u ≤ place w
unfolding place block_place byte_size block_size
blocks_before u w same first = rw same (by_size (kind_of w == 1) (kind_of w == 2) (kind_of w == 3))
  where
    by_size : (a b c : Bool) → 8192 + first_block u * (if a then 36 else if b then 256 else if c then 1024 else 4096) + block_count u * (if a then 36 else if b then 256 else if c then 1024 else 4096)
        ≤ 8192 + first_block w * (if a then 36 else if b then 256 else if c then 1024 else 4096)
    by_size true b c = omega (arith, first)
    by_size false true c = omega (arith, first)
    by_size false false true = omega (arith, first)
    by_size false false false = omega (arith, first)

module _ (files : BlockFiles) (one other start end n : ℕ) (one_inside : IsInside files one 0 n) (other_inside : IsInside files other 0 end) (apart : ShareNoData one other) (order : start ≤ end) where
  off_span : (k : ℕ) → k < n → (span_of other start end).bytes (data_file one) (data_start one + k) ≡ false
  unfolding data_file data_start
  off_span k high = by_tests (kind_of one == external) (kind_of other == external) refl refl
    where
      by_tests : (s t : Bool) → (kind_of one == external) ≡ s → (kind_of other == external) ≡ t
          → (range (if t then External (external_number other) else Block (file_selector other)) ((if t then 0 else place other) + start) (end - start)).bytes (if s then External (external_number one) else Block (file_selector one)) ((if s then 0 else place one) + k) ≡ false
      by_tests true true s t =
          let differ = apart.files (eqb-true (kind_of one) external s) (eqb-true (kind_of other) external t) in
          let e : nat_eq (external_number other) (external_number one) ≡ false = grind (arith, nat_tests) in
          apart_file (External (external_number other)) (External (external_number one)) (0 + start) (end - start) (0 + k) e
      by_tests true false s t = refl
      by_tests false true s t = refl
      by_tests false false s t =
          ⊎_elim
          (λ (same : file_selector one ≡ file_selector other).
          let kinds = same_kind files one other (one_inside.stands (blocky_of one s)) (other_inside.stands (blocky_of other t)) same in
          let room_one = one_inside.room (blocky_of one s) in
          let room_other = other_inside.room (blocky_of other t) in
          apart_place (Block (file_selector other)) (Block (file_selector one)) (place other + start) (end - start) (place one + k)
          (⊎_elim
          (λ (first : first_block one + block_count one ≤ first_block other). inl (let h = blocks_before one other kinds first in omega (arith, h, high, room_one)))
          (λ (last : first_block other + block_count other ≤ first_block one). inr (let h = blocks_before other one (sym kinds) last in omega (arith, h, order, room_other)))
          (apart.blocks (blocky_of one s) (blocky_of other t) same)))
          (λ (differ : file_selector one ≢ file_selector other).
          apart_file (Block (file_selector other)) (Block (file_selector one)) (place other + start) (end - start) (place one + k) (other_file (file_selector other) (file_selector one) differ))
          (cases_eq (file_selector one) (file_selector other))

module _ (files : BlockFiles) (one other start end : ℕ) (one_inside : IsInside files one 0 end) (other_inside : IsInside files other 0 end) (order : start ≤ end) where
  -- all bytes of the data are there
  pub has_data : (w : ℕ) → IsInside files w 0 end → (image : Image) → Agrees files image → IsInFile w 0 end image → data_start w + end ≤ length_of image (data_file w)
  unfolding data_file data_start
  has_data w inside image agrees there = by_test (kind_of w == external) refl
    where
      by_test : (t : Bool) → (kind_of w == external) ≡ t → (if t then 0 else place w) + end ≤ length_of image (if t then External (external_number w) else Block (file_selector w))
      by_test true t = there (eqb-true (kind_of w) external t)
      by_test false t = let h = stands_range files image w 0 end agrees (inside.stands (blocky_of w t)) (inside.room (blocky_of w t)) in omega (arith, h)

  -- one piece more
  module _ (a m : Told) (at n : ℕ) (fits : at + n ≤ end) (has : HasCopied a m files one other start end at) (there : ForSome a.files (IsInFile other 0 end)) where
    abbrev P : Image → Image → Type 0
    P from = SameOutside (span_of other start end) from

    mid_is : (from : Image) → (e : a.files ≡ Some from) → m.files ≡ Some (after (has.passes from e).steps from)
    mid_is from e = (has.passes from e).applies.files ∙ ap (option_map (after (has.passes from e).steps)) e

    mid_same : (from : Image) → (e : a.files ≡ Some from) → P from (after (has.passes from e).steps from)
    mid_same from e = passes_end (has.passes from e) _ (mid_is from e)

    piece_along : (from mid : Image) (bytes : List ℕ) → length bytes ≡ n → P from mid → Along (P from) mid (data_steps other at bytes)
    unfolding data_steps
    piece_along from mid bytes long same =
        let low = has.low in
        outside_steps (span_of other start end) (data_steps other at bytes) from mid
        (words_within (data_file other) (data_start other + at) (data_start other + start) (end - start) bytes (omega (arith, low)) (omega (arith, low, long, fits, order))) same

    quiet_piece : (bytes : List ℕ) → IsQuiet (data_steps other at bytes)
    unfolding data_steps
    quiet_piece bytes = quiet-words (data_file other) (data_start other + at) bytes (data-beside other)

    pub piece_passes : (b : Told) → ForSome m.files (λ mid. AppliesPrefix m b (data_steps other at (data_at mid one at n))) → ForSome a.files (λ from. Passes a b (P from))
    piece_passes b part from e =
        let mid : Image = after (has.passes from e).steps from in
        passes_then (has.passes from e)
        (passes_part (P from) (P from) (part mid (mid_is from e)) (quiet_piece (data_at mid one at n)) (λ image h. h)
        (λ image now. subst (λ (i : Image). Along (P from) i (data_steps other at (data_at mid one at n))) (some_inj (sym (mid_is from e) ∙ now)) (piece_along from mid (data_at mid one at n) (length-range n _ _) (mid_same from e))))

    from_back : (b : Told) → (m.files ≡ None → b.files ≡ None) → (image : Image) → b.files ≡ Some image → HasFiles a
    from_back b silent image now = by_files m.files refl
      where
        by_files : (o : Option Image) → m.files ≡ o → HasFiles a
        by_files None e = absurd (let z : None ≡ Some image = sym (silent e) ∙ now in cc)
        by_files (Some mid) e = has.back mid e

    pub next_copied : (b : Told) → ForSome m.files (λ mid. Applies m b (data_steps other at (data_at mid one at n))) → ForSome b.files (Agrees files) → (m.files ≡ None → b.files ≡ None) → HasCopied a b files one other start end (at + n)
    next_copied b whole agrees silent = record {
      low = let low = has.low in omega (arith, low);
      passes = piece_passes b (λ mid now. part_whole (whole mid now));
      copied = λ from e apart image now k low high.
          let mid : Image = after (has.passes from e).steps from in
          let bytes : List ℕ = data_at mid one at n in
          let is : after (data_steps other at bytes) mid ≡ image = some_inj (sym (ap (option_map (after (data_steps other at bytes))) (mid_is from e)) ∙ sym (whole mid (mid_is from e)).files ∙ now) in
          let same = mid_same from e in
          let long : length bytes ≡ n = length-range n _ _ in
          let room = has_data other other_inside mid (has.agrees mid (mid_is from e)) (λ x. let h = there from e x in let l = same.lengths (External (external_number other)) refl in omega (arith, h, l)) in
          ap (λ (i : Image). data_byte i other k) (sym is)
          ∙ ⊎_elim
          (λ (before : k < at). data_beside other at bytes mid k (inl before) ∙ has.copied from e apart mid (mid_is from e) k low before)
          (λ (here : at ≤ k).
          data_there other at bytes mid k here (omega (arith, high, long)) (omega (arith, room, high, fits))
          ∙ content-range n (data_start one + at) _ (k - at) (data_start one + k) (omega (arith, here, high)) (omega (arith, here))
          ∙ same.bytes (data_file one) (data_start one + k) (off_span files one other start end end one_inside other_inside apart order k (omega (arith, high, fits))))
          (cases_lt k at);
      agrees = agrees;
      back = λ image now. from_back b silent image now;
      silent = λ none. silent (has.silent none);
    }

    -- an external file has its length still
    pub there_still : (w : ℕ) → ForSome a.files (IsInFile w 0 end) → (k : ℕ) → k + n ≤ end → ForSome m.files (IsInFile w k n)
    there_still w was k low mid now x =
        let from = has.back mid now in
        let h = was from.image from.is x in
        let l = (passes_end (has.passes from.image from.is) mid now).lengths (External (external_number w)) refl in
        omega (arith, h, l, low)

-- What stays of the old bytes.

-- fewer bytes lie in the place too
pub inside_less : (files : BlockFiles) (w n m : ℕ) → n ≤ m → IsInside files w 0 m → IsInside files w 0 n
inside_less files w n m few inside = record {
  small = let h = inside.small in omega (arith, few, h);
  stands = inside.stands;
  room = λ blocky. let h = inside.room blocky in omega (arith, few, h);
}

pub there_less : (w n m : ℕ) (image : Image) → n ≤ m → IsInFile w 0 m image → IsInFile w 0 n image
there_less w n m image few there kind = let h = there kind in omega (arith, few, h)

-- an external file keeps its length where only bytes change
pub there_kept : (F : Footprint) (from image : Image) (w n : ℕ) → ((g : ℕ) → F.sizes (External g) ≡ false) → SameOutside F from image → IsInFile w 0 n from → IsInFile w 0 n image
there_kept F from image w n sizes same there kind = let h = there kind in let l = same.lengths (External (external_number w)) (sizes (external_number w)) in omega (arith, h, l)

-- no old bytes, none copied
pub none_old : (one other old size offset count : ℕ) (from : Image) → old ≡ 0 → AreOldBytes one other old size offset count from from
none_old one other old size offset count from none = record {
  before = λ k low high. absurd (omega (arith, none, low, high));
  behind = λ k low high. absurd (omega (arith, none, low, high));
}

-- the two copies, one after the other
module _ (files : BlockFiles) (one other old size offset count : ℕ) (one_inside : IsInside files one 0 old) (other_inside : IsInside files other 0 size) (few : offset + count ≤ size) (apart : ShareNoData one other) where
  pub both_copied : (from mid image : Image) → SameOutside (span_of other 0 (min offset old)) from mid → IsCopied one other 0 (min offset old) from mid → SameOutside (span_of other (offset + count) (min size old)) mid image → IsCopied one other (offset + count) (min size old) mid image
      → AreOldBytes one other old size offset count from image
  both_copied from mid image same first later second = record {
    before = λ k low high. later.bytes (data_file other) (data_start other + k) (span_off k (omega (arith, high))) ∙ first k low high;
    behind = λ k low high. second k low high ∙ same.bytes (data_file one) (data_start one + k) (off_span files one other 0 (min offset old) old one_inside (inside_less files other (min offset old) size (omega (arith, few)) other_inside) apart (omega arith) k (omega (arith, high)));
  }
    where
      span_off : (k : ℕ) → k < offset → (span_of other (offset + count) (min size old)).bytes (data_file other) (data_start other + k) ≡ false
      span_off k low = apart_place (data_file other) (data_file other) (data_start other + (offset + count)) (min size old - (offset + count)) (data_start other + k) (inl (omega (arith, low)))

-- each of them touches no more than both
pub first_span : (other old size offset count p : ℕ) (from image : Image) → p ≡ min offset old → SameOutside (span_of other 0 p) from image → SameOutside (old_spans other old size offset count) from image
first_span other old size offset count p from image is same =
    outside_wider (span_of other 0 (min offset old)) (old_spans other old size offset count) from image (within_left (span_of other 0 (min offset old)) (span_of other (offset + count) (min size old))) (subst (λ (q : ℕ). SameOutside (span_of other 0 q) from image) is same)

pub second_span : (other old size offset count q : ℕ) (from image : Image) → q ≡ min size old → SameOutside (span_of other (offset + count) q) from image → SameOutside (old_spans other old size offset count) from image
second_span other old size offset count q from image is same =
    outside_wider (span_of other (offset + count) (min size old)) (old_spans other old size offset count) from image (within_right (span_of other 0 (min offset old)) (span_of other (offset + count) (min size old))) (subst (λ (p : ℕ). SameOutside (span_of other (offset + count) p) from image) is same)

pub both_spans : (other old size offset count : ℕ) (from mid image : Image) → SameOutside (old_spans other old size offset count) from mid → SameOutside (old_spans other old size offset count) mid image → SameOutside (old_spans other old size offset count) from image
both_spans other old size offset count from mid image one two = outside-trans (old_spans other old size offset count) from mid image one two

-- a read of some of them that gave fewer
pub cut_old : (told : Told) (old : Stored) (w size : ℕ) (damage : Damage) → old.addr ≡ Some w → size ≤ old.size → IsCutPrefix told w size damage → IsCutOld told old damage
cut_old told old w size damage is few cut = record {
  word = w;
  is = is;
  cut = record { at = cut.at; count = cut.count; within = (let h = cut.within in omega (arith, h, few)); cut = cut.cut };
}
