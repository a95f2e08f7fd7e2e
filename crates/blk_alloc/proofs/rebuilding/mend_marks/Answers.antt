use Rattle.std.proofs.Common.{◌≡◌, ◌≤◌, ℕ, List, sym, ◌∙◌, ap, arith}
use Rattle.std.proofs.lemmas.Result.{on_ok_weaker}
use Rattle.spec_image.specs.Bytes.{content, word_bytes}
use Rattle.spec_image.specs.Image.{Block, HasRange, Image, length_of}
use Rattle.blk_addr.specs.declared.claim_set.Claims.{Claims}
use Rattle.blk_alloc.specs.Mending.{AreBytesWritten, KeepsLength, StandAt}
use Rattle.blk_alloc.specs.Rebuilding.{HasMarksOf, IsMending, IsRebuilt}
use Rattle.blk_alloc.proofs.Needed.{needed_end, needed_then, needed_weaker, told_so_far}
use Rattle.blk_alloc.proofs.Mended.{at_end, end_rebuilt, to_end, updating_bytes}
use Rattle.blk_alloc.proofs.rebuilding.mend_marks.Goals as goal

-- updating is 1 still, once map and counters are written
one_still : (claims : Claims) (n : ℕ) (bytes : List ℕ) → bytes ≡ word_bytes 1 → (from image : Image) → StandAt (Block n) 56 (word_bytes 1) 4 from → IsMending claims n from image → StandAt (Block n) 56 bytes 4 image
one_still claims n bytes are from image one mending i small = ap (λ (l : List ℕ). content l i) are ∙ one i small ∙ sym (updating_bytes n from image mending.same i small)

pub returns-in_err-mend_counts-clause-stops : goal.returns-in_err-mend_counts-clause-stops
returns-in_err-mend_counts-clause-stops g c from there read one = needed_weaker (c.in_err-mend_counts.ensures.stops from there read) (to_end c.args.claims.now c.args.file from (λ i small. sym (one i small)))

pub mend_word-requires-clause-inside : goal.mend_word-requires-clause-inside
mend_word-requires-clause-inside g c =
    told_so_far (g.F.Folder.told c.args.folder.now).files (g.F.Folder.told c.mend_counts.new.folder).files (λ image. 8192 ≤ length_of image (Block c.args.file)) (KeepsLength (Block c.args.file)) (λ image. HasRange image (Block c.args.file) 56 4)
    c.in_ok-mend_counts.ensures.writes.silent c.in_ok-mend_counts.ensures.long c.requires.header (λ from image e long. omega (arith, e, long))

pub returns-clause-done : goal.returns-clause-done
returns-clause-done g c =
    on_ok_weaker c.mend_word.result
    (λ done from there read one.
    told_so_far (g.F.Folder.told c.mend_counts.new.folder).files (g.F.Folder.told c.mend_word.new.folder).files (λ image. HasMarksOf c.args.claims.now image c.args.file) (AreBytesWritten (Block c.args.file) 56 c.to_le_bytes-2.result 4) (λ image. IsRebuilt c.args.claims.now image c.args.file)
    c.mend_word.ensures.writes.silent (λ mid now. done mid now (one_still c.args.claims.now c.args.file c.to_le_bytes.result c.to_le_bytes.ensures from mid one (needed_end (c.in_ok-mend_counts.ensures.stops from there read) mid now))) (c.in_ok-mend_counts.ensures.done from there read)
    (λ mid image written has. end_rebuilt c.args.claims.now c.args.file mid has c.to_le_bytes-2.result c.to_le_bytes-2.ensures image written)) c.mend_word.ensures.done

pub returns-clause-stops : goal.returns-clause-stops
returns-clause-stops g c from there read one =
    needed_then from there (needed_weaker (c.in_ok-mend_counts.ensures.stops from there read) (to_end c.args.claims.now c.args.file from (λ i small. sym (one i small))))
    (λ mid now under_way.
    needed_weaker (c.mend_word.ensures.stops mid now (one_still c.args.claims.now c.args.file c.to_le_bytes.result c.to_le_bytes.ensures from mid one (needed_end (c.in_ok-mend_counts.ensures.stops from there read) mid now)))
    (at_end c.args.claims.now c.args.file from (λ i small. sym (one i small)) mid (needed_end (c.in_ok-mend_counts.ensures.stops from there read) mid now) (c.in_ok-mend_counts.ensures.done from there read mid now) c.to_le_bytes-2.result c.to_le_bytes-2.ensures))
