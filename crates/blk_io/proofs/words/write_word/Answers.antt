use Rattle.std.proofs.Common.{subst, ap, ◌∙◌}
use Rattle.std.proofs.lemmas.Result.{on_ok_weaker}
use Rattle.spec_image.specs.Told.{Applies, AppliesPrefix}
use Rattle.spec_image.specs.Steps.{words}
use Rattle.spec_image.proofs.Cuts.{words-word}
use Rattle.blk_io.proofs.words.write_word.Goals as goal

pub returns-clause-steps : goal.returns-clause-steps
returns-clause-steps g c = on_ok_weaker c.write_at.result (λ grows. subst (Applies _ _) (ap (words _ _) c.to_le_bytes.ensures ∙ words-word _ _ _ c.requires.aligned) grows) c.write_at.ensures.steps

pub returns-clause-prefix : goal.returns-clause-prefix
returns-clause-prefix g c = subst (AppliesPrefix _ _) (ap (words _ _) c.to_le_bytes.ensures ∙ words-word _ _ _ c.requires.aligned) c.write_at.ensures.prefix
