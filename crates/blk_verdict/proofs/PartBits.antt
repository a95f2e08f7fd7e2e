-- The bit of a part in its parent's index.
use Rattle.std.proofs.Common.{◌≡◌, ◌+◌, ◌/◌, ◌%◌, ◌<◌, ℕ, Bool, true, false, ◌&&◌, if◌then◌else◌, List, length, Option, None, Some, sym, ◌∙◌, ap, arith}
use Rattle.std.specs.Prelude.{◌==◌, nat_lt, slice_index}
use Rattle.std.specs.Int.{bit_at}
use Rattle.std.specs.Option.{option_map}
use Rattle.std.proofs.lemmas.Bool.{lt-ltb}
use Rattle.spec_image.specs.Bytes.{content}
use Rattle.spec_image.specs.Image.{Image, byte}
use Rattle.spec_image.proofs.Words.{content-range}
use Rattle.spec_format.specs.SparseIndex.{ParentIndex, map_bit, read_parent_index}
use Rattle.spec_folder.specs.View.{stored_at}
use Rattle.blk_entry.specs.Keys.{data_at, data_file, data_start}
use Rattle.blk_ranges.specs.ParentMaps.{has_part_bit, read_parent_head}
use Rattle.blk_ranges.proofs.ParentIndexes.{index-read, with_bits}
use Rattle.blk_verdict.proofs.StreamFacts.{stored_bytes}

-- a part that an index has
has_by : (bytes : List ℕ) (index : ParentIndex) (part : ℕ) (t : Bool) (o : Option (ℕ × ℕ)) → part < 65536 → (if t then option_map (with_bits (content bytes)) o else None) ≡ Some index → map_bit (content bytes) 64 part ≡ index.has_part part
has_by bytes index part false o small e = absurd (clash e)
  where
    clash : None ≡ Some index → ⊥
    clash h = cc
has_by bytes index part true None small e = absurd (clash e)
  where
    clash : None ≡ Some index → ⊥
    clash h = cc
has_by bytes index part true (Some fields) small e =
    let is : with_bits (content bytes) fields ≡ index = cc in
    let below : nat_lt part 65536 ≡ true = lt-ltb part 65536 small in
    ap (λ (t : Bool). t && map_bit (content bytes) 64 part) (sym below) ∙ ap (λ (i : ParentIndex). i.has_part part) is

pub bit_is : (image : Image) (w addr at part : ℕ) (read bytes : List ℕ) (index : ParentIndex) → part < 65536 → addr ≡ w → at ≡ 64 + part / 8 → read ≡ data_at image addr at 1 → stored_at image 8256 w ≡ Some bytes → read_parent_index bytes ≡ Some index
    → has_part_bit (slice_index read 0) part ≡ index.has_part part
bit_is image w addr at part read bytes index small same place is stored said =
    let first : slice_index read 0 ≡ byte image (data_file w) (data_start w + at) = ap (λ (l : List ℕ). slice_index l 0) is ∙ ap (λ (v : ℕ). slice_index (data_at image v at 1) 0) same ∙ content-range 1 (data_start w + at) (byte image (data_file w)) 0 (data_start w + at) (omega arith) (omega arith) in
    let there : content bytes (64 + part / 8) ≡ byte image (data_file w) (data_start w + at) = ap (λ (l : List ℕ). content l (64 + part / 8)) (stored_bytes image 8256 w bytes (omega arith) stored) ∙ content-range 8256 (data_start w + 0) (byte image (data_file w)) (64 + part / 8) (data_start w + at) (omega (arith, small)) (omega (arith, place)) in
    ap (λ (b : ℕ). bit_at b (part % 8) == 1) (first ∙ sym there)
    ∙ has_by bytes index part (length bytes == 8256) (read_parent_head (content bytes)) small (sym (index-read bytes) ∙ said)
