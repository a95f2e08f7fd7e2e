use Rattle.std.proofs.Common.{Bool, ap, subst, sym, refl, ◌∙◌}
use Rattle.std.proofs.lemmas.Result.{on_ok_weaker}
use Rattle.spec_image.specs.Image.{Image, Index, byte}
use Rattle.spec_image.specs.Told.{Applies}
use Rattle.spec_image.proofs.Runs.{grows_none, part_whole, some_inj}
use Rattle.spec_format.specs.Headers.{bucket_of}
use Rattle.blk_repair.specs.Chains.{IsNextBucket}
use Rattle.blk_repair.proofs.WholeChains.{whole-steps}
use Rattle.blk_repair.proofs.tables.mend_bucket.Goals as goal

pub returns-then-whole-clause-steps : goal.returns-then-whole-clause-steps
returns-then-whole-clause-steps g c image there entry next =
    subst (Applies (g.F.Folder.told c.args.folder.now) (g.F.Folder.told c.args.folder.now))
    (sym (whole-steps entry c.args.bucket c.args.front c.args.records.now image (subst (λ (b : Bool). IsNextBucket entry c.args.bucket c.args.front c.args.records.now b image) c.if-whole.true next))) (grows_none refl)

pub returns-then-whole-clause-prefix : goal.returns-then-whole-clause-prefix
returns-then-whole-clause-prefix g c image there entry next = part_whole (returns-then-whole-clause-steps g c image there entry next)

pub returns-clause-steps : goal.returns-clause-steps
returns-clause-steps g c = on_ok_weaker c.mend_chain.result (λ made image there entry is. made image there (is.is_front c.if-whole.false)) c.mend_chain.ensures.steps

pub returns-clause-prefix : goal.returns-clause-prefix
returns-clause-prefix g c image there entry is = c.mend_chain.ensures.prefix image there (is.is_front c.if-whole.false)

pub returns-then-whole-clause-others : goal.returns-then-whole-clause-others
returns-then-whole-clause-others g c from there image here other apart = ap (λ (i : Image). bucket_of (byte i Index) other) (some_inj (sym here ∙ there))
