use Rattle.std.proofs.Common.{◌≡◌, ◌≤◌, ℕ, List, Bool, length, take, drop, false, true, sym, ◌∙◌, ap, arith}
use Rattle.std.proofs.lemmas.Result.{on_ok_weaker}
use Rattle.spec_image.specs.Bytes.{content, word_bytes}
use Rattle.spec_image.specs.Image.{Block, Image, byte, length_of}
use Rattle.spec_format.specs.BlockFiles.{max_entries_in}
use Rattle.spec_format.specs.Maps.{groups_of}
use Rattle.blk_addr.specs.declared.claim_set.Claims.{Claims}
use Rattle.blk_alloc.specs.Mending.{AreBytesWritten, KeepsLength, StandAt}
use Rattle.blk_alloc.specs.Rebuilding.{AreCountsRead, AreHeaderBytes, HasMarksOf, IsRebuilt}
use Rattle.blk_io.proofs.Carried.{told_at_end}
use Rattle.blk_alloc.proofs.Needed.{needed_then, needed_weaker, told_so_far}
use Rattle.blk_alloc.proofs.Mended.{blocks_kept, end_rebuilt, fields_stand, first_step, four_same, map_stands, old_updating, only_end, only_updating, then_all, zeros_stand}
use Rattle.blk_alloc.proofs.rebuilding.mend_file.Goals as goal

clash : false ≡ true → ⊥
clash e = cc

pub returns-then-is_right-clause-done : goal.returns-then-is_right-clause-done
returns-then-is_right-clause-done g c =
    on_ok_weaker c.mend_word.result
    (λ done from there groups read image now. end_rebuilt c.args.claims.now c.args.file from (c.is_right.ensures.same c.if-is_right.true from read groups) c.to_le_bytes.result c.to_le_bytes.ensures image (done from there (old_updating from c.args.file c.args.map.now c.args.fields.now c.requires.long_fields read) image now)) c.mend_word.ensures.done

pub returns-then-is_right-clause-stops : goal.returns-then-is_right-clause-stops
returns-then-is_right-clause-stops g c from there groups read = needed_weaker (c.mend_word.ensures.stops from there (old_updating from c.args.file c.args.map.now c.args.fields.now c.requires.long_fields read)) (only_end c.args.claims.now c.args.file from c.to_le_bytes.result c.to_le_bytes.ensures)

pub returns-then-is_right-clause-clean : goal.returns-then-is_right-clause-clean
returns-then-is_right-clause-clean g c from there groups read rebuilt =
    let zero_long : length c.to_le_bytes.result ≡ 4 = ap length c.to_le_bytes.ensures in
    let old_long : length (take 4 (drop 56 c.args.fields.now)) ≡ 4 = grind (arith, c.requires.long_fields) in
    c.mend_word.ensures.same
    (four_same (byte from (Block c.args.file)) 56 (take 4 (drop 56 c.args.fields.now)) c.to_le_bytes.result old_long zero_long
    (old_updating from c.args.file c.args.map.now c.args.fields.now c.requires.long_fields read)
    (λ i small. ap (λ (l : List ℕ). content l i) c.to_le_bytes.ensures ∙ zeros_stand c.args.claims.now c.args.file from rebuilt i small))

-- the file isn't right
wrong_is : (claims : Claims) (n : ℕ) (from : Image) (test : Bool) → test ≡ false → (HasMarksOf claims from n → test ≡ true) → HasMarksOf claims from n → ⊥
wrong_is claims n from test is found has = clash (sym is ∙ found has)

-- once updating is written, map and counters are those that were read
counts_still : (n groups : ℕ) (map fields : List ℕ) → length fields ≡ 80 → (bytes : List ℕ) (from image : Image) → groups ≡ groups_of (max_entries_in from n) → AreHeaderBytes from n map fields → AreBytesWritten (Block n) 56 bytes 4 from image → AreCountsRead n groups map fields image
counts_still n groups map fields long bytes from image groups_are read written =
    let only = only_updating n bytes from image written in
    record { groups_are = groups_are ∙ ap groups_of (sym (blocks_kept n from image only)); map_stands = map_stands from n map fields long read image only; counters = fields_stand from n map fields long read image only }

-- once updating is written, it is the word that was written
one_there : (n : ℕ) (bytes : List ℕ) → bytes ≡ word_bytes 1 → (from image : Image) → AreBytesWritten (Block n) 56 bytes 4 from image → StandAt (Block n) 56 (word_bytes 1) 4 image
one_there n bytes are from image written i small = sym (written.there i small ∙ ap (λ (l : List ℕ). content l i) are)

pub returns-in_err-mend_word-clause-stops : goal.returns-in_err-mend_word-clause-stops
returns-in_err-mend_word-clause-stops g c from there groups read =
    needed_weaker (c.in_err-mend_word.ensures.stops from there (old_updating from c.args.file c.args.map.now c.args.fields.now c.requires.long_fields read))
    (first_step c.args.claims.now c.args.file from c.to_le_bytes-2.result (wrong_is c.args.claims.now c.args.file from c.is_right.result c.if-is_right.false (c.is_right.ensures.found from read groups)))

pub returns-in_err-mend_word-clause-clean : goal.returns-in_err-mend_word-clause-clean
returns-in_err-mend_word-clause-clean g c from there groups read rebuilt = absurd (wrong_is c.args.claims.now c.args.file from c.is_right.result c.if-is_right.false (c.is_right.ensures.found from read groups) rebuilt.right)

pub mend_marks-requires-clause-header : goal.mend_marks-requires-clause-header
mend_marks-requires-clause-header g c =
    told_so_far (g.F.Folder.told c.args.folder.now).files (g.F.Folder.told c.mend_word-2.new.folder).files (λ image. 8192 ≤ length_of image (Block c.args.file)) (KeepsLength (Block c.args.file)) (λ image. 8192 ≤ length_of image (Block c.args.file))
    c.in_ok-mend_word.ensures.writes.silent c.in_ok-mend_word.ensures.long c.requires.header (λ from image e long. omega (arith, e, long))

pub returns-clause-done : goal.returns-clause-done
returns-clause-done g c =
    on_ok_weaker c.mend_marks.result
    (λ done from there groups read.
    let written = c.in_ok-mend_word.ensures.done from there (old_updating from c.args.file c.args.map.now c.args.fields.now c.requires.long_fields read) in
    told_at_end (g.F.Folder.told c.mend_word-2.new.folder).files (g.F.Folder.told c.mend_marks.new.folder).files (λ image. IsRebuilt c.args.claims.now image c.args.file) c.mend_marks.ensures.writes.silent
    (λ mid now. done mid now (counts_still c.args.file c.args.groups c.args.map.now c.args.fields.now c.requires.long_fields c.to_le_bytes-2.result from mid groups read (written mid now)) (one_there c.args.file c.to_le_bytes-2.result c.to_le_bytes-2.ensures from mid (written mid now)))) c.mend_marks.ensures.done

pub returns-clause-stops : goal.returns-clause-stops
returns-clause-stops g c from there groups read =
    let wrong = (wrong_is c.args.claims.now c.args.file from c.is_right.result c.if-is_right.false (c.is_right.ensures.found from read groups)) in
    let written = c.in_ok-mend_word.ensures.done from there (old_updating from c.args.file c.args.map.now c.args.fields.now c.requires.long_fields read) in
    needed_then from there (needed_weaker (c.in_ok-mend_word.ensures.stops from there (old_updating from c.args.file c.args.map.now c.args.fields.now c.requires.long_fields read)) (first_step c.args.claims.now c.args.file from c.to_le_bytes-2.result wrong))
    (λ mid now under_way. needed_weaker (c.mend_marks.ensures.stops mid now (counts_still c.args.file c.args.groups c.args.map.now c.args.fields.now c.requires.long_fields c.to_le_bytes-2.result from mid groups read (written mid now)) (one_there c.args.file c.to_le_bytes-2.result c.to_le_bytes-2.ensures from mid (written mid now))) (then_all c.args.claims.now c.args.file from c.to_le_bytes-2.result wrong mid (written mid now)))

pub returns-clause-clean : goal.returns-clause-clean
returns-clause-clean g c from there groups read rebuilt = absurd (wrong_is c.args.claims.now c.args.file from c.is_right.result c.if-is_right.false (c.is_right.ensures.found from read groups) rebuilt.right)
