-- A free stays whole, and removes an allocation.
use Rattle.std.proofs.Common.{◌≡◌, ◌≢◌, inl, inr, ℕ, ◌∙◌, refl, arith, Bool, true, false}
use Rattle.std.specs.Prelude.{◌&&◌, ◌||◌, nat_le, nat_lt}
use Rattle.std.proofs.lemmas.Bool.Decides.{nat_tests}
use Rattle.spec_image.specs.Image.{Block, Image, same_file}
use Rattle.spec_image.proofs.Runs.{passes_end, passes_weaker}
use Rattle.spec_format.specs.Address.{external, file_selector, kind_of}
use Rattle.spec_format.specs.Growth.{StaysWhole}
use Rattle.spec_format.specs.Headers.{is_extent_place}
use Rattle.blk_disk.specs.declared.tables.BlockFiles.{BlockFiles}
use Rattle.blk_disk.specs.Tables.{stands_among}
use Rattle.blk_disk.proofs.Standings.{no_blocks}
use Rattle.blk_alloc.specs.Changes.{map_of}
use Rattle.blk_alloc.specs.Owning.{FreesOrStops, IsFreed}
use Rattle.law_state.specs.AllocationLaws.{AreFreed, IsOfMap}
use Rattle.law_state.specs.Changes.{StillFinds}
use Rattle.law_state.proofs.Freed.{freed-removed}
use Rattle.law_state.proofs.Writes.{growth-finds}
use Rattle.blk_object.specs.KeptBlocks.{FreesRemove, FreesStayWhole, WholeFoldersFindTheSame}

pub whole-finds : WholeFoldersFindTheSame
whole-finds words old new passes from there = passes_weaker (passes from there) finds finds where
  finds : (image : Image) → StaysWhole from image → StillFinds words from image
  finds image whole = growth-finds words from image whole.grown whole.headers

-- ---- free

either-whole : (w : ℕ) (from image : Image) → FreesOrStops w from image → StaysWhole from image
either-whole w from image (inl before) = before.stays
either-whole w from image (inr last) = last.stays

pub frees-stay : FreesStayWhole
frees-stay w old new passes from there = passes_weaker (passes from there) (λ image before. before.stays) (either-whole w from)

-- the map and the counters of a file are touched alone
pub map-only : (n : ℕ) → IsOfMap n (map_of n)
map-only n = record { extents = extents; elsewhere = elsewhere; index = λ i. refl; sizes = λ file. refl } where
  among : Bool → ℕ → Bool
  among t i = (t && (nat_le 16 i && nat_lt i 20)) || ((t && (nat_le 24 i && nat_lt i 40)) || ((t && (nat_le 56 i && nat_lt i 60)) || (t && (nat_le 80 i && nat_lt i 8192))))

  extents : (m i : ℕ) → is_extent_place i ≡ true → (map_of n).bytes (Block m) i ≡ false
  extents m i is = grind (arith, nat_tests)

  elsewhere : (m i : ℕ) → m ≢ n → (map_of n).bytes (Block m) i ≡ false
  elsewhere m i apart = let t : same_file (Block n) (Block m) ≡ false = grind (arith, nat_tests) in rw t refl

block-kind : (files : BlockFiles) (w : ℕ) → stands_among files w ≡ true → kind_of w ≢ external
block-kind files w stands e = let z : false ≡ true = no_blocks files w e ∙ stands in cc

freed-are : (from image : Image) (w : ℕ) → kind_of w ≢ external → IsFreed from w image → StaysWhole from image → AreFreed from w image
freed-are from image w block_kind f stays = record {
  block_kind = block_kind;
  footprint = map_of (file_selector w);
  of_map = map-only (file_selector w);
  same = f.same;
  allocations = f.allocations;
  empty = f.empty;
  updating = f.updating;
  elsewhere = f.elsewhere;
  stays = stays;
}

pub frees-remove : FreesRemove
frees-remove files w old new stands passes freed from there image is =
    freed-removed from image w (freed-are from image w (block-kind files w stands) (freed from there image is) (either-whole w from image (passes_end (passes from there) image is)))
