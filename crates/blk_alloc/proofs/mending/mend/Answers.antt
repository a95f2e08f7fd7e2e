use Rattle.std.proofs.Common.{◌≡◌, ℕ, ◌+◌, ◌-◌, ◌*◌, ◌/◌, ◌<◌, List, length, take, drop, refl, sym, ◌∙◌, ap, subst, arith}
use Rattle.spec_image.specs.Bytes.{content}
use Rattle.spec_image.specs.Image.{Block, HasRange, Image, File, byte, length_of}
use Rattle.spec_image.specs.Footprint.{range}
use Rattle.spec_image.proofs.Footprints.{outside-refl}
use Rattle.spec_image.proofs.Runs.{some_inj}
use Rattle.blk_alloc.specs.Mending.{IsPrefixWritten, AreBytesWritten, KeepsLength, StandAt}
use Rattle.blk_alloc.proofs.Needed.{content_part, long_then, needed_none, needed_then, needed_weaker, part_more, part_written, stands_behind, told_so_far, written_more}
use Rattle.blk_alloc.proofs.mending.mend.Goals as goal

-- nothing is written yet
none_written : (f : File) (place : ℕ) (bytes : List ℕ) (from : Image) → AreBytesWritten f place bytes 0 from from
none_written f place bytes from = record { same = outside-refl (range f place 0) from; there = λ i small. absurd (omega (arith, small)) }

-- a word of some bytes
word_is : (bytes : List ℕ) (k : ℕ) → k < length bytes / 4 → (i : ℕ) → i < 4 → content (take (4 * k + 4 - 4 * k) (drop (4 * k) bytes)) i ≡ content bytes (4 * k + i)
word_is bytes k below i small = content_part bytes (4 * k) (4 * k + 4 - 4 * k) i (omega (arith, below)) (omega (arith, small))

-- the next word of what was there is there still
next_stands : (file : File) (at : ℕ) (old new : List ℕ) (k : ℕ) → length old ≡ length new → k < length new / 4 → (from image : Image) → StandAt file at old (length old) from → AreBytesWritten file at new (4 * k) from image → StandAt file (at + 4 * k) (take (4 * k + 4 - 4 * k) (drop (4 * k) old)) 4 image
next_stands file at old new k alike below from image stands written i small =
    word_is old k (subst (λ (n : ℕ). k < n / 4) (sym alike) below) i small
    ∙ stands (4 * k + i) (omega (arith, small, below, alike))
    ∙ sym (ap (byte image file) {x = at + 4 * k + i} {y = at + (4 * k + i)} (omega arith) ∙ stands_behind file at new (4 * k) from image written (4 * k + i) (omega arith))

pub loop-k-init : goal.loop-k-init
loop-k-init g c = record {
  stops = λ from there stands. needed_none (IsPrefixWritten (Block c.args.file) c.args.at c.args.new.now from) refl
      (λ image is. subst (IsPrefixWritten (Block c.args.file) c.args.at c.args.new.now from) (some_inj (sym there ∙ is)) (part_written (Block c.args.file) c.args.at c.args.new.now 0 from from (omega arith) (none_written (Block c.args.file) c.args.at c.args.new.now from)));
  so_far = λ from there stands image is. subst (AreBytesWritten (Block c.args.file) c.args.at c.args.new.now 0 from) (some_inj (sym there ∙ is)) (none_written (Block c.args.file) c.args.at c.args.new.now from);
  long = λ from there image is. ap (λ (i : Image). length_of i (Block c.args.file)) (some_inj (sym is ∙ there));
  silent = λ none. none;
  later = omega arith;
}

pub mend_word-requires-clause-inside : goal.mend_word-requires-clause-inside
mend_word-requires-clause-inside g c =
    told_so_far (g.F.Folder.told c.args.folder.now).files (g.F.Folder.told c.loop-k.folder).files (λ image. HasRange image (Block c.args.file) c.args.at (length c.args.new.now)) (KeepsLength (Block c.args.file)) (λ image. HasRange image (Block c.args.file) (c.args.at + 4 * c.loop-k.k) 4) c.loop-k.invariant.silent c.loop-k.invariant.long c.requires.inside
    (λ from image long inside. omega (arith, inside, long, c.loop-k-test.true))

pub returns-in_err-mend_word-clause-stops : goal.returns-in_err-mend_word-clause-stops
returns-in_err-mend_word-clause-stops g c from there stands =
    needed_then from there (c.loop-k.invariant.stops from there stands)
    (λ mid now part.
    needed_weaker (c.in_err-mend_word.ensures.stops mid now (next_stands (Block c.args.file) c.args.at c.args.old.now c.args.new.now c.loop-k.k c.requires.alike c.loop-k-test.true from mid stands (c.loop-k.invariant.so_far from there stands mid now)))
    (part_more (Block c.args.file) c.args.at c.args.new.now (take (4 * c.loop-k.k + 4 - 4 * c.loop-k.k) (drop (4 * c.loop-k.k) c.args.new.now)) c.loop-k.k from mid (c.loop-k.invariant.so_far from there stands mid now) (word_is c.args.new.now c.loop-k.k c.loop-k-test.true) (omega (arith, c.loop-k-test.true))))

pub returns-in_err-mend_word-clause-long : goal.returns-in_err-mend_word-clause-long
returns-in_err-mend_word-clause-long g c = long_then (g.F.Folder.told c.args.folder.now).files (g.F.Folder.told c.loop-k.folder).files (g.F.Folder.told c.mend_word.new.folder).files (Block c.args.file) c.in_err-mend_word.ensures.writes.silent c.loop-k.invariant.long c.in_err-mend_word.ensures.long

pub loop-k-preserved : goal.loop-k-preserved
loop-k-preserved g c = record {
  stops =
      λ from there stands.
      needed_then from there (c.loop-k.invariant.stops from there stands)
      (λ mid now part.
      needed_weaker (c.in_ok-mend_word.ensures.stops mid now (next_stands (Block c.args.file) c.args.at c.args.old.now c.args.new.now c.loop-k.k c.requires.alike c.loop-k-test.true from mid stands (c.loop-k.invariant.so_far from there stands mid now)))
      (part_more (Block c.args.file) c.args.at c.args.new.now (take (4 * c.loop-k.k + 4 - 4 * c.loop-k.k) (drop (4 * c.loop-k.k) c.args.new.now)) c.loop-k.k from mid (c.loop-k.invariant.so_far from there stands mid now) (word_is c.args.new.now c.loop-k.k c.loop-k-test.true) (omega (arith, c.loop-k-test.true))));
  so_far =
      λ from there stands.
      told_so_far (g.F.Folder.told c.loop-k.folder).files (g.F.Folder.told c.mend_word.new.folder).files (AreBytesWritten (Block c.args.file) c.args.at c.args.new.now (4 * c.loop-k.k) from) (AreBytesWritten (Block c.args.file) (c.args.at + 4 * c.loop-k.k) (take (4 * c.loop-k.k + 4 - 4 * c.loop-k.k) (drop (4 * c.loop-k.k) c.args.new.now)) 4) (AreBytesWritten (Block c.args.file) c.args.at c.args.new.now (4 * (c.loop-k.k + 1)) from) c.in_ok-mend_word.ensures.writes.silent (λ mid now. c.in_ok-mend_word.ensures.done mid now (next_stands (Block c.args.file) c.args.at c.args.old.now c.args.new.now c.loop-k.k c.requires.alike c.loop-k-test.true from mid stands (c.loop-k.invariant.so_far from there stands mid now))) (c.loop-k.invariant.so_far from there stands)
      (λ mid image more before. written_more (Block c.args.file) c.args.at c.args.new.now (take (4 * c.loop-k.k + 4 - 4 * c.loop-k.k) (drop (4 * c.loop-k.k) c.args.new.now)) c.loop-k.k from mid before (word_is c.args.new.now c.loop-k.k c.loop-k-test.true) image more);
  long = long_then (g.F.Folder.told c.args.folder.now).files (g.F.Folder.told c.loop-k.folder).files (g.F.Folder.told c.mend_word.new.folder).files (Block c.args.file) c.in_ok-mend_word.ensures.writes.silent c.loop-k.invariant.long c.in_ok-mend_word.ensures.long;
  silent = λ none. c.in_ok-mend_word.ensures.writes.silent (c.loop-k.invariant.silent none);
  later = let one = c.loop-k.invariant.later in let other = c.in_ok-mend_word.ensures.writes.later in omega (arith, one, other);
}

pub returns-clause-done : goal.returns-clause-done
returns-clause-done g c from there stands image is =
    let all : 4 * c.loop-k.k ≡ length c.args.new.now = omega (arith, c.loop-k-test.false, c.requires.words, c.loop-k.auto.k-end) in
    subst (λ (n : ℕ). AreBytesWritten (Block c.args.file) c.args.at c.args.new.now n from image) all (c.loop-k.invariant.so_far from there stands image is)
