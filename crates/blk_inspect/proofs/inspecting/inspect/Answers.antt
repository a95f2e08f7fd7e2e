use Rattle.std.proofs.Common.{◌≡◌, ◌++◌, List, ℕ, ap, subst, ◌∙◌}
use Rattle.std.specs.Option.{option_map}
use Rattle.spec_image.specs.Told.{Rises}
use Rattle.blk_io.specs.Streams.{Appends}
use Rattle.blk_inspect.specs.Inspecting.{AnswersFor, IfInspectDamaged, IfInspectDevice, IfInspectSink, IsInspectDamage, PrintsAt, UnlessSink}
use Rattle.blk_inspect.specs.Texts.{inspect_text}
use Rattle.blk_inspect.proofs.Answered.{answered, at_sink, caused, failed, no_sink, none_printed, unprinted}
use Rattle.blk_inspect.proofs.inspecting.inspect.Goals as goal

pub returns-in_err-findings-clause-printed : goal.returns-in_err-findings-clause-printed
returns-in_err-findings-clause-printed g c image there = none_printed c.find.result c.from_residual.result c.in_err-findings.field-0.0 _ _ c.in_err-findings.was c.from_residual.ensures.1

pub returns-in_err-findings-clause-answer : goal.returns-in_err-findings-clause-answer
returns-in_err-findings-clause-answer g c = answered c.find.result c.from_residual.result c.in_err-findings.field-0.0 _ c.in_err-findings.was c.from_residual.ensures.1 c.find.ensures.damaged

pub returns-in_err-findings-clause-unprinted : goal.returns-in_err-findings-clause-unprinted
returns-in_err-findings-clause-unprinted g c = unprinted c.find.result c.from_residual.result c.in_err-findings.field-0.0 _ c.in_err-findings.was c.from_residual.ensures.1

pub returns-in_err-findings-clause-cause : goal.returns-in_err-findings-clause-cause
returns-in_err-findings-clause-cause g c = caused c.find.result c.from_residual.result c.in_err-findings.field-0.0 _ c.in_err-findings.was c.from_residual.ensures.1 c.find.ensures.cause

pub returns-in_err-findings-clause-reads : goal.returns-in_err-findings-clause-reads
returns-in_err-findings-clause-reads g c = record {
  stays = c.find.ensures.reads.stays;
  later = c.find.ensures.reads.later;
  failed = failed c.find.result c.from_residual.result c.in_err-findings.field-0.0 _ c.in_err-findings.was c.from_residual.ensures.1 c.find.ensures.reads.failed;
}

pub returns-in_err-findings-clause-sink : goal.returns-in_err-findings-clause-sink
returns-in_err-findings-clause-sink g c = no_sink c.find.result c.from_residual.result c.in_err-findings.field-0.0 _ c.in_err-findings.was c.from_residual.ensures.1

pub returns-in_err-print_findings-clause-printed : goal.returns-in_err-print_findings-clause-printed
returns-in_err-print_findings-clause-printed g c image there =
    at_sink c.from_residual-in_err-print_findings.result (λ s. PrintsAt s (inspect_text c.args.part.now image) (g.K.Sink.written c.args.out.now) (g.K.Sink.written c.print_findings.new.out)) c.from_residual-in_err-print_findings.ensures.1
    (subst (Appends _ _) (c.in_ok-findings.ensures.found image there) c.print_findings.ensures.prefix)

pub returns-in_err-print_findings-clause-answer : goal.returns-in_err-print_findings-clause-answer
returns-in_err-print_findings-clause-answer g c image there = at_sink c.from_residual-in_err-print_findings.result (λ s. AnswersFor s image) c.from_residual-in_err-print_findings.ensures.1 (c.in_ok-findings.ensures.checked image there)

pub returns-in_err-print_findings-clause-unprinted : goal.returns-in_err-print_findings-clause-unprinted
returns-in_err-print_findings-clause-unprinted g c = at_sink c.from_residual-in_err-print_findings.result (λ s. UnlessSink s (g.K.Sink.written c.print_findings.new.out ≡ g.K.Sink.written c.args.out.now)) c.from_residual-in_err-print_findings.ensures.1 tt

pub returns-in_err-print_findings-clause-cause : goal.returns-in_err-print_findings-clause-cause
returns-in_err-print_findings-clause-cause g c = at_sink c.from_residual-in_err-print_findings.result (λ s. IfInspectDamaged s (IsInspectDamage (g.F.Folder.told c.args.f.now))) c.from_residual-in_err-print_findings.ensures.1 tt

pub returns-in_err-print_findings-clause-reads : goal.returns-in_err-print_findings-clause-reads
returns-in_err-print_findings-clause-reads g c = record {
  stays = c.find.ensures.reads.stays;
  later = c.find.ensures.reads.later;
  failed = at_sink c.from_residual-in_err-print_findings.result (λ s. IfInspectDevice s (Rises (g.F.Folder.faults c.args.f.now) (g.F.Folder.faults c.find.new.folder))) c.from_residual-in_err-print_findings.ensures.1 tt;
}

pub returns-in_err-print_findings-clause-sink : goal.returns-in_err-print_findings-clause-sink
returns-in_err-print_findings-clause-sink g c = at_sink c.from_residual-in_err-print_findings.result (λ s. IfInspectSink s (Rises (g.K.Sink.faults c.args.out.now) (g.K.Sink.faults c.print_findings.new.out))) c.from_residual-in_err-print_findings.ensures.1 c.in_err-print_findings.ensures.failed

pub returns-clause-printed : goal.returns-clause-printed
returns-clause-printed g c image there =
    c.in_ok-print_findings.ensures.steps ∙ ap (λ (t : List ℕ). option_map (λ (w : List ℕ). w ++ t) (g.K.Sink.written c.args.out.now)) (c.in_ok-findings.ensures.found image there)

pub returns-clause-answer : goal.returns-clause-answer
returns-clause-answer g c image there = c.in_ok-findings.ensures.checked image there
