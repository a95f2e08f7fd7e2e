use Rattle.std.proofs.Common.{subst}
use Rattle.std.proofs.lemmas.Result.{on_ok_weaker}
use Rattle.spec_image.specs.Told.{Applies, AppliesPrefix}
use Rattle.blk_io.specs.FileNames.{file_of}
use Rattle.blk_io.proofs.Adjoining.{words-joined}
use Rattle.blk_io.proofs.words.write_run.Goals as goal

pub returns-clause-steps : goal.returns-clause-steps
returns-clause-steps g c =
    on_ok_weaker c.write_at.result (λ grows. subst (Applies _ _) (words-joined (file_of c.args.file) c.args.at c.args.words.now _ _ c.requires.aligned c.bytes_of-bytes.ensures c.as_flattened.ensures.value) grows) c.write_at.ensures.steps

pub returns-clause-prefix : goal.returns-clause-prefix
returns-clause-prefix g c =
    subst (AppliesPrefix _ _) (words-joined (file_of c.args.file) c.args.at c.args.words.now _ _ c.requires.aligned c.bytes_of-bytes.ensures c.as_flattened.ensures.value) c.write_at.ensures.prefix
