use Rattle.std.proofs.Common.{◌≡◌, ◌⊎◌, ℕ, List, true, false, inl, refl, sym, ◌∙◌, ap, subst}
use Rattle.std.proofs.lemmas.Result.{on_ok_weaker}
use Rattle.std.proofs.lemmas.Slice.Eq.{bytes_eq-Decides}
use Rattle.spec_image.specs.Bytes.{content}
use Rattle.spec_image.specs.Image.{Block, Image, length_of}
use Rattle.spec_image.proofs.Footprints.{outside_write}
use Rattle.spec_image.proofs.Runs.{some_inj, told_rel, told_whole}
use Rattle.spec_image.specs.Steps.{Word, applied}
use Rattle.spec_image.specs.Told.{Applies, AppliesPrefix}
use Rattle.blk_io.proofs.Carried.{silent_part}
use Rattle.blk_alloc.specs.Mending.{AreBytesWritten, KeepsLength}
use Rattle.blk_alloc.proofs.Needed.{needed_none, one_step, word_needed, written_same, written_step}
use Rattle.blk_alloc.proofs.mending.mend_word.Goals as goal

-- equal bytes are there already
pub returns-then-eq-clause-done : goal.returns-then-eq-clause-done
returns-then-eq-clause-done g c from there stands image now =
    let same = (bytes_eq-Decides c.args.old.now c.args.new.now).0 (sym c.eq.ensures ∙ c.if-eq.true) in
    subst (AreBytesWritten (Block c.args.file) c.args.at c.args.new.now 4 from) (some_inj (sym there ∙ now))
    (written_same (Block c.args.file) c.args.at c.args.new.now 4 c.requires.new_word from (λ i small. ap (λ (l : List ℕ). content l i) (sym same) ∙ stands i small))

pub returns-then-eq-clause-stops : goal.returns-then-eq-clause-stops
returns-then-eq-clause-stops g c from there stands =
    needed_none (λ image. (image ≡ from) ⊎ AreBytesWritten (Block c.args.file) c.args.at c.args.new.now 4 from image) refl (λ image is. inl (some_inj (sym is ∙ there)))

pub returns-clause-done : goal.returns-clause-done
returns-clause-done g c =
    on_ok_weaker c.write_at.result
    (λ whole from there stands image now.
    told_whole (AreBytesWritten (Block c.args.file) c.args.at c.args.new.now 4 from) (subst (Applies (g.F.Folder.told c.args.folder.now) (g.F.Folder.told c.write_at.new.self)) (one_step (Block c.args.file) c.args.at c.args.new.now c.requires.new_word c.requires.aligned) whole)
    (λ i is. subst (λ (j : Image). AreBytesWritten (Block c.args.file) c.args.at c.args.new.now 4 from (applied (Word (Block c.args.file) c.args.at c.args.new.now) j)) (some_inj (sym there ∙ is)) (written_step (Block c.args.file) c.args.at c.args.new.now 4 c.requires.new_word from (c.requires.inside from there))) image now) c.write_at.ensures.steps

pub returns-clause-stops : goal.returns-clause-stops
returns-clause-stops g c from there stands =
    word_needed (Block c.args.file) c.args.at c.args.old.now c.args.new.now c.requires.new_word
    (λ same. clash (sym (sym c.eq.ensures ∙ c.if-eq.false) ∙ (bytes_eq-Decides c.args.old.now c.args.new.now).1 same)) refl
    from there c.requires.old_word c.requires.aligned (c.requires.inside from there) stands c.write_at.ensures.prefix
  where
    clash : false ≡ true → ⊥
    clash e = cc

pub returns-clause-same : goal.returns-clause-same
returns-clause-same g c same = absurd (clash (sym (sym c.eq.ensures ∙ c.if-eq.false) ∙ (bytes_eq-Decides c.args.old.now c.args.new.now).1 same))
  where
    clash : false ≡ true → ⊥
    clash e = cc

pub returns-then-eq-clause-long : goal.returns-then-eq-clause-long
returns-then-eq-clause-long g c from there image now = ap (λ (i : Image). length_of i (Block c.args.file)) (some_inj (sym now ∙ there))

pub returns-clause-long : goal.returns-clause-long
returns-clause-long g c =
    told_rel (KeepsLength (Block c.args.file)) (subst (AppliesPrefix (g.F.Folder.told c.args.folder.now) (g.F.Folder.told c.write_at.new.self)) (one_step (Block c.args.file) c.args.at c.args.new.now c.requires.new_word c.requires.aligned) c.write_at.ensures.prefix)
    (λ image. (refl, (outside_write (Block c.args.file) c.args.at c.args.new.now image).lengths (Block c.args.file) refl))

pub returns-clause-writes : goal.returns-clause-writes
returns-clause-writes g c = record {
  silent = silent_part c.write_at.ensures.prefix;
  later = c.write_at.ensures.later;
  failed = c.write_at.ensures.failed;
}
