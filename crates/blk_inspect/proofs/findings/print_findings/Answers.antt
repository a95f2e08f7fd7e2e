use Rattle.std.proofs.Common.{◌++◌, List, length, sym, ap, subst, ◌∙◌}
use Rattle.std.specs.List.{flat_map}
use Rattle.blk_io.specs.Streams.{Appends}
use Rattle.blk_inspect.specs.Findings.{findings_text, node_row_line, record_row_line, word_row_line}
use Rattle.blk_inspect.specs.Texts.{end_line}
use Rattle.blk_inspect.specs.declared.rows.NamedWord.{NamedWord}
use Rattle.blk_inspect.specs.declared.rows.NodeRow.{NodeRow}
use Rattle.blk_inspect.specs.declared.rows.RecordRow.{RecordRow}
use Rattle.blk_inspect.proofs.Lines.{said}
use Rattle.blk_inspect.proofs.findings.print_findings.Goals as goal

pub returns-in-Unfinished-clause-steps : goal.returns-in-Unfinished-clause-steps
unfolding findings_text
returns-in-Unfinished-clause-steps g c = said c.print_fields.result _ _ _ _ (ap findings_text (sym c.in-Unfinished.is)) c.print_fields.ensures.steps

pub returns-in-Unfinished-clause-prefix : goal.returns-in-Unfinished-clause-prefix
unfolding findings_text
returns-in-Unfinished-clause-prefix g c = subst (Appends _ _) (ap findings_text (sym c.in-Unfinished.is)) c.print_fields.ensures.prefix

pub returns-in-Nothing-clause-steps : goal.returns-in-Nothing-clause-steps
unfolding findings_text
returns-in-Nothing-clause-steps g c = said c.print_fields-in-Nothing.result _ _ _ _ (ap findings_text (sym c.in-Nothing.is)) c.print_fields-in-Nothing.ensures.steps

pub returns-in-Nothing-clause-prefix : goal.returns-in-Nothing-clause-prefix
unfolding findings_text
returns-in-Nothing-clause-prefix g c = subst (Appends _ _) (ap findings_text (sym c.in-Nothing.is)) c.print_fields-in-Nothing.ensures.prefix

pub returns-in-Words-clause-steps : goal.returns-in-Words-clause-steps
unfolding findings_text
returns-in-Words-clause-steps g c = said c.print_rows.result _ _ _ _ (ap (λ (l : List NamedWord). flat_map word_row_line l) c.deref.ensures.value ∙ ap findings_text (sym c.in-Words.is)) c.print_rows.ensures.steps

pub returns-in-Words-clause-prefix : goal.returns-in-Words-clause-prefix
unfolding findings_text
returns-in-Words-clause-prefix g c = subst (Appends _ _) (ap (λ (l : List NamedWord). flat_map word_row_line l) c.deref.ensures.value ∙ ap findings_text (sym c.in-Words.is)) c.print_rows.ensures.prefix

pub returns-in-Place-clause-steps : goal.returns-in-Place-clause-steps
unfolding findings_text
returns-in-Place-clause-steps g c = said c.print_place.result _ _ _ _ (ap findings_text (sym c.in-Place.is)) c.print_place.ensures.steps

pub returns-in-Place-clause-prefix : goal.returns-in-Place-clause-prefix
unfolding findings_text
returns-in-Place-clause-prefix g c = subst (Appends _ _) (ap findings_text (sym c.in-Place.is)) c.print_place.ensures.prefix

pub returns-in-Nodes-clause-steps : goal.returns-in-Nodes-clause-steps
unfolding findings_text
returns-in-Nodes-clause-steps g c = said c.print_counted.result _ _ _ _ (ap (λ (l : List NodeRow). flat_map node_row_line l ++ end_line (length l)) c.deref-in-Nodes.ensures.value ∙ ap findings_text (sym c.in-Nodes.is)) c.print_counted.ensures.steps

pub returns-in-Nodes-clause-prefix : goal.returns-in-Nodes-clause-prefix
unfolding findings_text
returns-in-Nodes-clause-prefix g c = subst (Appends _ _) (ap (λ (l : List NodeRow). flat_map node_row_line l ++ end_line (length l)) c.deref-in-Nodes.ensures.value ∙ ap findings_text (sym c.in-Nodes.is)) c.print_counted.ensures.prefix

pub returns-in-Records-clause-steps : goal.returns-in-Records-clause-steps
unfolding findings_text
returns-in-Records-clause-steps g c = said c.print_counted-in-Records.result _ _ _ _ (ap (λ (l : List RecordRow). flat_map record_row_line l ++ end_line (length l)) c.deref-in-Records.ensures.value ∙ ap findings_text (sym c.in-Records.is)) c.print_counted-in-Records.ensures.steps

pub returns-in-Records-clause-prefix : goal.returns-in-Records-clause-prefix
unfolding findings_text
returns-in-Records-clause-prefix g c = subst (Appends _ _) (ap (λ (l : List RecordRow). flat_map record_row_line l ++ end_line (length l)) c.deref-in-Records.ensures.value ∙ ap findings_text (sym c.in-Records.is)) c.print_counted-in-Records.ensures.prefix

pub returns-in-Verdict-clause-steps : goal.returns-in-Verdict-clause-steps
unfolding findings_text
returns-in-Verdict-clause-steps g c = said c.print_verdict.result _ _ _ _ (ap findings_text (sym c.in-Verdict.is)) c.print_verdict.ensures.steps

pub returns-in-Verdict-clause-prefix : goal.returns-in-Verdict-clause-prefix
unfolding findings_text
returns-in-Verdict-clause-prefix g c = subst (Appends _ _) (ap findings_text (sym c.in-Verdict.is)) c.print_verdict.ensures.prefix
