use Rattle.std.proofs.Common.{[], ◌∷◌, codes, subst}
use Rattle.blk_io.specs.Streams.{Appends}
use Rattle.blk_script.specs.Spelling.{line}
use Rattle.blk_inspect.proofs.Lines.{said}
use Rattle.blk_inspect.proofs.rows.NodeRowRow.print.Goals as goal

pub returns-clause-steps : goal.returns-clause-steps
returns-clause-steps g c = said c.print_fields.result _ _ _ _ (λ i. line (codes "node" ∷ c.bytes_of-node.ensures i ∷ codes "contents" ∷ c.bytes_of-contents.ensures i ∷ codes "dirty" ∷ c.bytes_of-dirty.ensures i ∷ [])) c.print_fields.ensures.steps

pub returns-clause-prefix : goal.returns-clause-prefix
returns-clause-prefix g c = subst (Appends _ _) (λ i. line (codes "node" ∷ c.bytes_of-node.ensures i ∷ codes "contents" ∷ c.bytes_of-contents.ensures i ∷ codes "dirty" ∷ c.bytes_of-dirty.ensures i ∷ [])) c.print_fields.ensures.prefix
