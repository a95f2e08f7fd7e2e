use Rattle.std.proofs.Common.{[], ◌∷◌, ap, codes, subst, ◌∙◌}
use Rattle.blk_io.specs.Streams.{Appends}
use Rattle.blk_script.specs.Spelling.{line, number_text}
use Rattle.blk_inspect.specs.Texts.{word_text}
use Rattle.blk_inspect.proofs.Lines.{said}
use Rattle.blk_inspect.proofs.Found.{reason_known}
use Rattle.blk_inspect.proofs.verdict.print_dropped.Goals as goal

pub returns-clause-steps : goal.returns-clause-steps
returns-clause-steps g c = said c.print_why.result _ _ _ _ (λ i. line (codes "dropped" ∷ (c.bytes_of-place.ensures ∙ ap word_text c.word.ensures.word) i ∷ number_text ((c.number.ensures ∙ reason_known c.args.one.now.reason) i) ∷ c.name_of.ensures i ∷ [])) c.print_why.ensures.steps

pub returns-clause-prefix : goal.returns-clause-prefix
returns-clause-prefix g c = subst (Appends _ _) (λ i. line (codes "dropped" ∷ (c.bytes_of-place.ensures ∙ ap word_text c.word.ensures.word) i ∷ number_text ((c.number.ensures ∙ reason_known c.args.one.now.reason) i) ∷ c.name_of.ensures i ∷ [])) c.print_why.ensures.prefix
