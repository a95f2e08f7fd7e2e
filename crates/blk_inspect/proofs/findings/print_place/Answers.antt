use Rattle.std.proofs.Common.{ℕ, [], ◌∷◌, codes, sym, subst, ap, ◌∙◌}
use Rattle.blk_io.specs.Streams.{Appends}
use Rattle.blk_script.specs.Spelling.{line, number_text}
use Rattle.blk_inspect.proofs.HeadWords.{blocks_shown, external_shown, never_index}
use Rattle.blk_inspect.proofs.Lines.{said}
use Rattle.blk_inspect.proofs.findings.print_place.Goals as goal

pub unreachable-requires : goal.unreachable-requires
unreachable-requires g c = never_index c.args.addr (sym c.in-Index.is ∙ c.file.ensures)

pub returns-in-External-clause-steps : goal.returns-in-External-clause-steps
returns-in-External-clause-steps g c = said c.print_fields.result _ _ _ _ (ap (λ (n : ℕ). line (codes "external" ∷ number_text n ∷ [])) c.from.ensures ∙ external_shown c.args.addr c.in-External.number (sym c.in-External.is ∙ c.file.ensures)) c.print_fields.ensures.steps

pub returns-in-External-clause-prefix : goal.returns-in-External-clause-prefix
returns-in-External-clause-prefix g c = subst (Appends _ _) (ap (λ (n : ℕ). line (codes "external" ∷ number_text n ∷ [])) c.from.ensures ∙ external_shown c.args.addr c.in-External.number (sym c.in-External.is ∙ c.file.ensures)) c.print_fields.ensures.prefix

pub returns-in-Block-clause-steps : goal.returns-in-Block-clause-steps
returns-in-Block-clause-steps g c =
    said c.print_fields-in-Block.result _ _ _ _
    ((λ i. line (codes "block" ∷ number_text ((c.from-in-Block.ensures ∙ c.number.ensures) i) ∷ number_text (c.from-in-Block-2.ensures i) ∷ number_text (c.from-in-Block-3.ensures i) ∷ number_text (c.from-in-Block-4.ensures i) ∷ []))
    ∙ blocks_shown c.args.addr _ c.in-Block.file c.start.result c.blocks-in-Block.result (sym c.in-Block.is ∙ c.file.ensures) c.kind.ensures c.start.ensures c.blocks-in-Block.ensures) c.print_fields-in-Block.ensures.steps

pub returns-in-Block-clause-prefix : goal.returns-in-Block-clause-prefix
returns-in-Block-clause-prefix g c =
    subst (Appends _ _)
    ((λ i. line (codes "block" ∷ number_text ((c.from-in-Block.ensures ∙ c.number.ensures) i) ∷ number_text (c.from-in-Block-2.ensures i) ∷ number_text (c.from-in-Block-3.ensures i) ∷ number_text (c.from-in-Block-4.ensures i) ∷ []))
    ∙ blocks_shown c.args.addr _ c.in-Block.file c.start.result c.blocks-in-Block.result (sym c.in-Block.is ∙ c.file.ensures) c.kind.ensures c.start.ensures c.blocks-in-Block.ensures) c.print_fields-in-Block.ensures.prefix
