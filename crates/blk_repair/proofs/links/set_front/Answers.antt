use Rattle.std.proofs.Common.{[], sym, subst, refl}
use Rattle.std.proofs.lemmas.Result.{on_ok_weaker}
use Rattle.spec_image.specs.Image.{Index}
use Rattle.spec_image.specs.Steps.{word_step}
use Rattle.spec_image.specs.Told.{Applies, AppliesPrefix}
use Rattle.spec_image.proofs.Runs.{grows_none, part_whole}
use Rattle.spec_format.specs.Headers.{place_of_bucket}
use Rattle.blk_repair.proofs.Choices.{bucket-right, bucket-other}
use Rattle.blk_repair.proofs.links.set_front.Goals as goal

pub returns-then-now-word-clause-steps : goal.returns-then-now-word-clause-steps
returns-then-now-word-clause-steps g c x there read = subst (Applies (g.F.Folder.told c.args.folder.now) (g.F.Folder.told c.args.folder.now)) (sym (bucket-right x c.args.number c.args.word c.args.now read c.if-now-word.true)) (grows_none refl)

pub returns-then-now-word-clause-prefix : goal.returns-then-now-word-clause-prefix
returns-then-now-word-clause-prefix g c x there read = part_whole (returns-then-now-word-clause-steps g c x there read)

pub returns-then-now-word-clause-only : goal.returns-then-now-word-clause-only
returns-then-now-word-clause-only g c = record { made = []; left = word_step Index (place_of_bucket c.args.number) c.args.word; split = refl; applies = grows_none refl }

pub returns-clause-steps : goal.returns-clause-steps
returns-clause-steps g c =
    on_ok_weaker c.set_bucket.result (λ made x there read. subst (Applies (g.F.Folder.told c.args.folder.now) (g.F.Folder.told c.set_bucket.new.f)) (sym (bucket-other x c.args.number c.args.word c.args.now read c.if-now-word.false)) made) c.set_bucket.ensures.steps

pub returns-clause-prefix : goal.returns-clause-prefix
returns-clause-prefix g c x there read = subst (AppliesPrefix (g.F.Folder.told c.args.folder.now) (g.F.Folder.told c.set_bucket.new.f)) (sym (bucket-other x c.args.number c.args.word c.args.now read c.if-now-word.false)) c.set_bucket.ensures.prefix
