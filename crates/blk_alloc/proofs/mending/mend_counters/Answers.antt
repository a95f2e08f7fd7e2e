use Rattle.std.proofs.Common.{◌≡◌, ℕ, ◌+◌, ◌<◌, ◌≤◌, List, [], ◌++◌, length, take, drop, refl, sym, ◌∙◌, ap, arith}
use Rattle.std.specs.Prelude.{slice_index}
use Rattle.std.proofs.lemmas.List.{length-take}
use Rattle.std.proofs.lemmas.Result.{on_ok_weaker}
use Rattle.spec_image.specs.Bytes.{word_bytes}
use Rattle.spec_image.specs.Image.{Block, HasRange, Image, byte, length_of}
use Rattle.blk_alloc.specs.Mending.{AreBytesWritten, KeepsLength, StandAt}
use Rattle.blk_alloc.specs.Rebuilding.{HasReadCounters, HasTheseCounters}
use Rattle.blk_alloc.proofs.Needed.{content_part, long_then, needed_then, needed_weaker, stands_behind, told_so_far}
use Rattle.blk_alloc.proofs.Recounted.{counters_are, counting_first, counting_runs, four_words}
use Rattle.blk_alloc.proofs.mending.mend_counters.Goals as goal

-- the bytes of four words, one after the other
joined : (e bytes r0 r1 r2 r3 : List ℕ) → r0 ≡ word_bytes (slice_index e 0) → r1 ≡ word_bytes (slice_index e 1) → r2 ≡ word_bytes (slice_index e 2) → r3 ≡ word_bytes (slice_index e 3) → bytes ≡ r0 ++ (r1 ++ (r2 ++ (r3 ++ []))) → bytes ≡ four_words e
joined e bytes r0 r1 r2 r3 e0 e1 e2 e3 is = rw (is, e0, e1, e2, e3) refl

-- the number of allocations is as it was read
number_stands : (n : ℕ) (fields : List ℕ) → length fields ≡ 80 → (image : Image) → HasReadCounters n fields image → StandAt (Block n) 16 (take 4 (drop 16 fields)) 4 image
number_stands n fields long image read i small = content_part fields 16 4 i (omega (arith, long)) small ∙ read (16 + i) (omega arith) (omega (arith, small))

-- `empty` is as it was read, once the number is written
runs_stand : (n : ℕ) (fields first : List ℕ) → length fields ≡ 80 → (from image : Image) → HasReadCounters n fields from → AreBytesWritten (Block n) 16 first 4 from image → StandAt (Block n) 24 (take 16 (drop 24 fields)) (length (take 16 (drop 24 fields))) image
runs_stand n fields first long from image read written i small =
    let many = length-take 16 (drop 24 fields) in
    let few : i < 16 = omega (arith, small, many) in
    content_part fields 24 16 i (omega (arith, long)) few ∙ read (24 + i) (omega arith) (omega (arith, few))
    ∙ sym (ap (byte image (Block n)) {x = 24 + i} {y = 16 + (8 + i)} (omega arith) ∙ stands_behind (Block n) 16 first 4 from image written (8 + i) (omega arith) ∙ ap (byte from (Block n)) {x = 16 + (8 + i)} {y = 24 + i} (omega arith))

pub returns-in_err-mend_word-clause-stops : goal.returns-in_err-mend_word-clause-stops
returns-in_err-mend_word-clause-stops g c from there read =
    let fits : (i : ℕ) → i < 4 → slice_index c.args.empty.now i < _ = λ i few. c.fits-empty i in
    needed_weaker (c.in_err-mend_word.ensures.stops from there (number_stands c.args.file c.args.fields.now c.requires.long_fields from read))
    (λ image now. counting_first c.args.file c.args.allocations c.to_le_bytes.result c.to_le_bytes.ensures c.args.empty.now c.ranges.allocations.fits fits from image now)

pub mend-requires-clause-inside : goal.mend-requires-clause-inside
mend-requires-clause-inside g c =
    told_so_far (g.F.Folder.told c.args.folder.now).files (g.F.Folder.told c.mend_word.new.folder).files (λ image. 8192 ≤ length_of image (Block c.args.file)) (KeepsLength (Block c.args.file)) (λ image. HasRange image (Block c.args.file) 24 (length c.as_flattened.result.now))
    c.in_ok-mend_word.ensures.writes.silent c.in_ok-mend_word.ensures.long c.requires.header
    (λ from image e long. let l = c.as_flattened.ensures.len in omega (arith, e, long, l))

pub returns-clause-done : goal.returns-clause-done
returns-clause-done g c =
    let fits : (i : ℕ) → i < 4 → slice_index c.args.empty.now i < _ = λ i few. c.fits-empty i in
    let are = joined c.args.empty.now c.as_flattened.result.now c.to_le_bytes-2.result c.to_le_bytes-3.result c.to_le_bytes-4.result c.to_le_bytes-5.result c.to_le_bytes-2.ensures c.to_le_bytes-3.ensures c.to_le_bytes-4.ensures c.to_le_bytes-5.ensures c.as_flattened.ensures.value in
    on_ok_weaker c.mend.result
    (λ done from there read.
    let written = c.in_ok-mend_word.ensures.done from there (number_stands c.args.file c.args.fields.now c.requires.long_fields from read) in
    told_so_far (g.F.Folder.told c.mend_word.new.folder).files (g.F.Folder.told c.mend.new.folder).files (AreBytesWritten (Block c.args.file) 16 c.to_le_bytes.result 4 from) (AreBytesWritten (Block c.args.file) 24 c.as_flattened.result.now (length c.as_flattened.result.now)) (λ image. HasTheseCounters (byte image (Block c.args.file)) c.args.allocations c.args.empty.now)
    c.mend.ensures.writes.silent (λ mid now. done mid now (runs_stand c.args.file c.args.fields.now c.to_le_bytes.result c.requires.long_fields from mid read (written mid now))) written
    (λ mid image runs first. counters_are c.args.file c.args.allocations c.to_le_bytes.result c.to_le_bytes.ensures c.args.empty.now c.ranges.allocations.fits fits from mid first c.as_flattened.result.now are image runs)) c.mend.ensures.done

pub returns-clause-stops : goal.returns-clause-stops
returns-clause-stops g c from there read =
    let fits : (i : ℕ) → i < 4 → slice_index c.args.empty.now i < _ = λ i few. c.fits-empty i in
    let are = joined c.args.empty.now c.as_flattened.result.now c.to_le_bytes-2.result c.to_le_bytes-3.result c.to_le_bytes-4.result c.to_le_bytes-5.result c.to_le_bytes-2.ensures c.to_le_bytes-3.ensures c.to_le_bytes-4.ensures c.to_le_bytes-5.ensures c.as_flattened.ensures.value in
    let stands = number_stands c.args.file c.args.fields.now c.requires.long_fields from read in
    needed_then from there
    (needed_weaker (c.in_ok-mend_word.ensures.stops from there stands) (λ image now. counting_first c.args.file c.args.allocations c.to_le_bytes.result c.to_le_bytes.ensures c.args.empty.now c.ranges.allocations.fits fits from image now))
    (λ mid now counting.
    let written = c.in_ok-mend_word.ensures.done from there stands mid now in
    needed_weaker (c.mend.ensures.stops mid now (runs_stand c.args.file c.args.fields.now c.to_le_bytes.result c.requires.long_fields from mid read written))
    (λ image part. counting_runs c.args.file c.args.allocations c.to_le_bytes.result c.to_le_bytes.ensures c.args.empty.now c.ranges.allocations.fits fits from mid written c.as_flattened.result.now are image part))

pub returns-clause-long : goal.returns-clause-long
returns-clause-long g c = long_then (g.F.Folder.told c.args.folder.now).files (g.F.Folder.told c.mend_word.new.folder).files (g.F.Folder.told c.mend.new.folder).files (Block c.args.file) c.mend.ensures.writes.silent c.in_ok-mend_word.ensures.long c.mend.ensures.long
