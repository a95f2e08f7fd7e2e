use Rattle.std.proofs.Common.{◌≡◌, ℕ, ◌+◌, ◌<◌, ◌≤◌, List, [], ◌∷◌, length, inl, sym, ◌∙◌, subst, arith}
use Rattle.std.specs.Prelude.{slice_index}
use Rattle.std.proofs.lemmas.Result.{on_ok_weaker}
use Rattle.spec_image.specs.Image.{Block, Image, byte, length_of}
use Rattle.spec_image.specs.Footprint.{SameOutside, range}
use Rattle.spec_format.specs.Maps.{groups_with}
use Rattle.spec_format.proofs.Groups.{groups_same}
use Rattle.blk_addr.specs.Bits.{has_bit}
use Rattle.blk_addr.specs.declared.claim_set.Claims.{Claims}
use Rattle.blk_alloc.specs.Mending.{AreBytesWritten, KeepsLength, StandAt}
use Rattle.blk_alloc.specs.Rebuilding.{is_block_claimed, HasMarksOf, HasReadCounters, HasTheseCounters, IsCounting}
use Rattle.blk_alloc.proofs.Alike.{zeros_at}
use Rattle.blk_alloc.proofs.Needed.{long_then, needed_end, needed_then, needed_weaker, told_so_far}
use Rattle.blk_alloc.proofs.Recounted.{range_beside}
use Rattle.blk_alloc.proofs.Mended.{has_marks, map_marked, mending_counters, mending_map}
use Rattle.blk_alloc.proofs.rebuilding.mend_counts.Goals as goal

-- the runs of the groups that were marked
runs_are : (claims : Claims) (n groups : ℕ) (bytes empty : List ℕ) → groups ≤ 16224 → ((m : ℕ) → m < 64896 → has_bit bytes m ≡ is_block_claimed claims n m) → ((i : ℕ) → i < 4 → slice_index empty i ≡ slice_index (0 ∷ 0 ∷ 0 ∷ 0 ∷ []) i + groups_with (has_bit bytes) groups (i + 1))
    → (i : ℕ) → i < 4 → slice_index empty i ≡ groups_with (is_block_claimed claims n) groups (i + 1)
runs_are claims n groups bytes empty few marks counts i small =
    let count = counts i small in
    let none = zeros_at i small in
    let same = groups_same (has_bit bytes) (is_block_claimed claims n) groups (i + 1) (λ b below. marks b (omega (arith, below, few))) in
    omega (arith, count, none, same)

-- the map is as it was read
map_there : (n : ℕ) (map : List ℕ) → length map ≡ 8112 → (image : Image) → StandAt (Block n) 80 map 8112 image → StandAt (Block n) 80 map (length map) image
map_there n map long image stands = subst (λ (k : ℕ). StandAt (Block n) 80 map k image) (sym long) stands

-- the counters are as they were read, once the map is written
counters_still : (n : ℕ) (fields bytes : List ℕ) (count : ℕ) (from image : Image) → HasReadCounters n fields from → AreBytesWritten (Block n) 80 bytes count from image → HasReadCounters n fields image
counters_still n fields bytes count from image read written i low high = read i low high ∙ sym (written.same.bytes (Block n) i (range_beside (Block n) 80 count i (inl (omega (arith, high)))))

pub returns-in_err-mend-clause-stops : goal.returns-in_err-mend-clause-stops
returns-in_err-mend-clause-stops g c from there read =
    needed_weaker (c.in_err-mend.ensures.stops from there (map_there c.args.file c.args.map.now c.requires.long_map from read.map_stands)) (mending_map c.args.claims.now c.args.file from c.mark_claimed.new.bytes c.mark_claimed.ensures.length (λ m few. c.mark_claimed.ensures.marks m (omega (arith, few))))

pub mend_counters-requires-clause-header : goal.mend_counters-requires-clause-header
mend_counters-requires-clause-header g c =
    told_so_far (g.F.Folder.told c.args.folder.now).files (g.F.Folder.told c.mend.new.folder).files (λ image. 8192 ≤ length_of image (Block c.args.file)) (KeepsLength (Block c.args.file)) (λ image. 8192 ≤ length_of image (Block c.args.file))
    c.in_ok-mend.ensures.writes.silent c.in_ok-mend.ensures.long c.requires.header (λ from image e long. omega (arith, e, long))

pub returns-clause-long : goal.returns-clause-long
returns-clause-long g c = long_then (g.F.Folder.told c.args.folder.now).files (g.F.Folder.told c.mend.new.folder).files (g.F.Folder.told c.mend_counters.new.folder).files (Block c.args.file) c.mend_counters.ensures.writes.silent c.in_ok-mend.ensures.long c.mend_counters.ensures.long

pub returns-clause-done : goal.returns-clause-done
returns-clause-done g c =
    let bits : (m : ℕ) → m < 64896 → has_bit c.mark_claimed.new.bytes m ≡ is_block_claimed c.args.claims.now c.args.file m = λ m few. c.mark_claimed.ensures.marks m (omega (arith, few)) in
    let long : length c.mark_claimed.new.bytes ≡ 8112 = c.mark_claimed.ensures.length in
    on_ok_weaker c.mend_counters.result
    (λ done from there read.
    let map_written = c.in_ok-mend.ensures.done from there (map_there c.args.file c.args.map.now c.requires.long_map from read.map_stands) in
    told_so_far (g.F.Folder.told c.mend.new.folder).files (g.F.Folder.told c.mend_counters.new.folder).files (AreBytesWritten (Block c.args.file) 80 c.mark_claimed.new.bytes (length c.mark_claimed.new.bytes) from)
    (λ mid image. IsCounting c.args.file c.allocations.result c.count_runs.new.empty mid image × HasTheseCounters (byte image (Block c.args.file)) c.allocations.result c.count_runs.new.empty) (λ image. HasMarksOf c.args.claims.now image c.args.file)
    c.mend_counters.ensures.writes.silent
    (λ mid now image is.
    let still = (counters_still c.args.file c.args.fields.now c.mark_claimed.new.bytes (length c.mark_claimed.new.bytes) from mid read.counters (map_written mid now)) in
    (needed_end (c.mend_counters.ensures.stops mid now still) image is, done mid now still image is)) map_written
    (λ mid image both written.
    has_marks c.args.claims.now c.args.file c.args.groups c.allocations.result c.count_runs.new.empty from mid c.requires.few read.groups_are (subst (λ (k : ℕ). SameOutside (range (Block c.args.file) 80 k) from mid) long written.same)
    (map_marked c.args.claims.now c.args.file from c.mark_claimed.new.bytes long bits mid written) c.allocations.ensures.count (runs_are c.args.claims.now c.args.file c.args.groups c.mark_claimed.new.bytes c.count_runs.new.empty c.requires.few bits c.count_runs.ensures.counts)
    image both.0.same both.1)) c.mend_counters.ensures.done

pub returns-clause-stops : goal.returns-clause-stops
returns-clause-stops g c from there read =
    let bits : (m : ℕ) → m < 64896 → has_bit c.mark_claimed.new.bytes m ≡ is_block_claimed c.args.claims.now c.args.file m = λ m few. c.mark_claimed.ensures.marks m (omega (arith, few)) in
    let long : length c.mark_claimed.new.bytes ≡ 8112 = c.mark_claimed.ensures.length in
    let map_written = c.in_ok-mend.ensures.done from there (map_there c.args.file c.args.map.now c.requires.long_map from read.map_stands) in
    needed_then from there (needed_weaker (c.in_ok-mend.ensures.stops from there (map_there c.args.file c.args.map.now c.requires.long_map from read.map_stands)) (mending_map c.args.claims.now c.args.file from c.mark_claimed.new.bytes long bits))
    (λ mid now mending.
    let written = map_written mid now in
    needed_weaker (c.mend_counters.ensures.stops mid now (counters_still c.args.file c.args.fields.now c.mark_claimed.new.bytes (length c.mark_claimed.new.bytes) from mid read.counters (map_written mid now)))
    (mending_counters c.args.claims.now c.args.file c.args.groups c.allocations.result c.count_runs.new.empty from mid c.requires.few read.groups_are (subst (λ (k : ℕ). SameOutside (range (Block c.args.file) 80 k) from mid) long written.same)
    (map_marked c.args.claims.now c.args.file from c.mark_claimed.new.bytes long bits mid written) c.allocations.ensures.count (runs_are c.args.claims.now c.args.file c.args.groups c.mark_claimed.new.bytes c.count_runs.new.empty c.requires.few bits c.count_runs.ensures.counts)))
