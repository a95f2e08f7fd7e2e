use Rattle.std.proofs.Common.{sym, ap, ◌∙◌}
use Rattle.std.proofs.lemmas.Result.{IfOk-weaker}
use Rattle.blk_inspect.specs.Findings.{finished_text}
use Rattle.blk_inspect.specs.declared.reading.Question.{Question}
use Rattle.blk_inspect.proofs.reading.read.Goals as goal

pub returns-in-OfPart-clause-found : goal.returns-in-OfPart-clause-found
returns-in-OfPart-clause-found g c = IfOk-weaker c.read_part.result _ _ (λ findings tells image there is_open. tells image there is_open ∙ ap (λ (q : Question). finished_text q image) (sym c.in-OfPart.is)) c.read_part.ensures.found

pub returns-in-Verdict-clause-found : goal.returns-in-Verdict-clause-found
returns-in-Verdict-clause-found g c = IfOk-weaker c.read_verdict.result _ _ (λ findings tells image there is_open. tells image there is_open ∙ ap (λ (q : Question). finished_text q image) (sym c.in-Verdict.is)) c.read_verdict.ensures.found
