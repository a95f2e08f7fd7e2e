-- Block files that get longer, or more: what was there stays.
use Rattle.std.proofs.Common.{◌≡◌, ℕ, ◌+◌, ◌*◌, ◌/◌, ◌%◌, List, max, Bool, true, false, ◌&&◌, if◌then◌else◌, get_or, refl, sym, ◌∙◌, ap, ap₂}
use Rattle.std.specs.Prelude.{◌==◌}
use Rattle.std.specs.Int.{bit_at}
use Rattle.spec_image.specs.Image.{Image, Block, External, has_file, byte}
use Rattle.spec_image.specs.Footprint.{SameOutside, size_of}
use Rattle.spec_format.specs.Address.{kind_of, external, external_number, is_address}
use Rattle.spec_format.specs.Headers.{allocations_of}
use Rattle.spec_format.specs.Standing.{stands}
use Rattle.spec_format.specs.BlockFiles.{is_among, stands_in, stands_in_blocks}
use Rattle.spec_format.specs.Maps.{is_block_marked, AreAllocations}
use Rattle.blk_disk.specs.declared.tables.BlockFiles.{BlockFiles}
use Rattle.blk_disk.specs.Tables.{Agrees, Resizes, all_files, length_in}
use Rattle.blk_disk.proofs.Ranges.{stands_agree}
use Rattle.blk_alloc.proofs.Kept.{IsLarger, fit_larger, standing_kept}

-- the tables are larger, and each file that was kept has its marks and its allocations; no external file is made or deleted
pub record Widens (old new : BlockFiles) (from mid : Image) : Type 0 where
  pub tables : IsLarger old new
  pub externals : (m : ℕ) → has_file mid (External m) ≡ has_file from (External m)
  pub marks : (f b : ℕ) → is_among (all_files old) f ≡ true → is_block_marked mid f b ≡ is_block_marked from f b
  pub allocations : (f : ℕ) → is_among (all_files old) f ≡ true → allocations_of (byte mid (Block f)) ≡ allocations_of (byte from (Block f))

first_of_two : (a b : Bool) → (a && b) ≡ true → a ≡ true
first_of_two true b e = refl
first_of_two false b e = e

second_of_two : (a b : Bool) → (a && b) ≡ true → b ≡ true
second_of_two true b e = e
second_of_two false b e = absurd (clash e)
  where
    clash : false ≡ true → ⊥
    clash h = cc

both_of_two : (a b : Bool) → a ≡ true → b ≡ true → (a && b) ≡ true
both_of_two a b e d = ap₂ (λ (x y : Bool). x && y) e d

module _ (old new : BlockFiles) (from mid : Image) (before : Agrees old from) (later : Agrees new mid) (widens : Widens old new from mid) where
  pub stands_more : (w : ℕ) → stands_in from w ≡ true → stands_in mid w ≡ true
  unfolding stands
  stands_more w is = by_test (kind_of w == external) is
    where
      by_test : (t : Bool) → (is_address w && (if t then has_file from (External (external_number w)) else stands_in_blocks from w)) ≡ true → (is_address w && (if t then has_file mid (External (external_number w)) else stands_in_blocks mid w)) ≡ true
      by_test true h = ap (λ (t : Bool). is_address w && t) (widens.externals (external_number w)) ∙ h
      by_test false h =
          both_of_two (is_address w) (stands_in_blocks mid w) (first_of_two (is_address w) (stands_in_blocks from w) h)
          (sym (stands_agree new mid w later) ∙ standing_kept old new widens.tables w (stands_agree old from w before ∙ second_of_two (is_address w) (stands_in_blocks from w) h))

  -- the allocations of a file stay
  pub allocations_more : (f : ℕ) → is_among (all_files old) f ≡ true → (words : List ℕ) → AreAllocations from f words → AreAllocations mid f words
  allocations_more f there words are = record {
    stand = λ k d small. stands_more (get_or words k d) (are.stand k d small);
    here = are.here;
    apart = are.apart;
    marks = λ b small. widens.marks f b there ∙ are.marks b small;
    counted = widens.allocations f there ∙ are.counted;
  }

-- a mark is a bit of the map
pub mark_kept : (from mid : Image) (f b : ℕ) → byte mid (Block f) (80 + b / 8) ≡ byte from (Block f) (80 + b / 8) → is_block_marked mid f b ≡ is_block_marked from f b
mark_kept from mid f b same = ap (λ (x : ℕ). bit_at x (b % 8) == 1) same

-- a file that is lengthened to its blocks
pub fit_widens : (old new : BlockFiles) (from mid : Image) (n size : ℕ) → Resizes old new n (max (length_in old n) size) → SameOutside (size_of (Block n)) from mid → Widens old new from mid
fit_widens old new from mid n size resizes same = record {
  tables = fit_larger old new n size resizes;
  externals = λ m. same.files (External m) refl;
  marks = λ f b there. mark_kept from mid f b (same.bytes (Block f) (80 + b / 8) refl);
  allocations = λ f there. λ j. same.bytes (Block f) 16 refl j + 256 * same.bytes (Block f) 17 refl j + 65536 * same.bytes (Block f) 18 refl j + 16777216 * same.bytes (Block f) 19 refl j;
}
