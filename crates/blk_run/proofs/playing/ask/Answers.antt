use Rattle.std.proofs.Common.{◌≡◌, Ok, Err, Result, IfOk, Some, ℕ, ◌+◌}
use Rattle.blk_model.specs.declared.Answer.{Answer}
use Rattle.blk_model.specs.Reply.{answer_of}
use Rattle.blk_model.specs.Step.{step}
use Rattle.law_state.specs.Commands.{ForKept}
use Rattle.blk_cache.specs.declared.fault.StepFault.{StepFault}
use Rattle.blk_cache.specs.CacheKeeping.{KeepsState}
use Rattle.blk_run.specs.Playing.{state_now, SoFar, StandsAt}
use Rattle.blk_model.specs.Request.{request_of}
use Rattle.blk_run.proofs.Asking.{of_step}
use Rattle.blk_run.proofs.Flushing.{asked_flushed, device_flushed, done_flushed, sink_flushed}
use Rattle.blk_run.proofs.Reading.{reads_once}
use Rattle.blk_run.proofs.playing.ask.Goals as goal

pub returns-clause-asked : goal.returns-clause-asked
returns-clause-asked g c =
    reads_once c.now.result c.now.ensures.reading c.now.ensures.later (λ early late reading later far left at.
    asked_flushed (request_of c.args.command.now) far (KeepsState c.step-answered.new.self) (c.step-answered.new.self.notes) left (g.F.Folder.told c.args.folder.now) (g.F.Folder.told c.step-answered.new.f) (g.K.Sink.written c.args.out.now) (g.K.Sink.written c.step-answered.new.out)
    (g.K.Sink.written c.flush_reply.new.out) (Some early) (Some late) c.flush_reply.ensures.stays c.step-answered.result c.flush_reply.result _ c.flush_reply.ensures.flushed
    (record {
      moment = c.now.result;
      read = reading;
      answered = by_answer far left at c.step-answered.result c.step-answered.ensures.answered;
      plays = of_step far c.now.result (request_of c.args.command.now) (KeepsState c.args.cache.now) (KeepsState c.step-answered.new.self) (c.args.cache.now.notes) (c.step-answered.new.self.notes) left
          (g.F.Folder.told c.args.folder.now) (g.F.Folder.told c.step-answered.new.f) (g.K.Sink.written c.args.out.now) (g.K.Sink.written c.step-answered.new.out) (Some early) (Some late) at
          c.step-answered.ensures.stepped c.step-answered.ensures.front later c.step-answered.result c.step-answered.ensures.answered c.step-answered.ensures.kept c.step-answered.ensures.noted c.step-answered.ensures.refused c.step-answered.ensures.counts c.step-answered.ensures.printed c.step-answered.ensures.unanswered (λ any. c.step-answered.ensures.untold (λ image there. let one = any image there in (one.0, one.1.holds)));
    }))
  where
    by_answer : (far : SoFar) (left : ℕ) (at : StandsAt far (KeepsState c.args.cache.now) (c.args.cache.now.notes) (left + 2) (g.F.Folder.told c.args.folder.now)) (result : Result Answer StepFault) → IfOk result (λ answer. ForKept (KeepsState c.args.cache.now) (g.F.Folder.told c.args.folder.now) (λ state. answer ≡ answer_of (step state c.now.result (request_of c.args.command.now)).reply))
        → IfOk result (λ answer. answer ≡ answer_of (step (state_now far) c.now.result (request_of c.args.command.now)).reply)
    by_answer far left at (Ok answer) answered = answered at.image at.here (state_now far) at.kept
    by_answer far left at (Err why) answered = tt

pub returns-clause-is_open : goal.returns-clause-is_open
returns-clause-is_open g c = done_flushed c.step-answered.result c.flush_reply.result _ _ c.flush_reply.ensures.flushed c.step-answered.ensures.is_open

pub returns-clause-device : goal.returns-clause-device
returns-clause-device g c = device_flushed c.step-answered.result c.flush_reply.result _ _ c.flush_reply.ensures.flushed c.step-answered.ensures.device

pub returns-clause-sink : goal.returns-clause-sink
returns-clause-sink g c = sink_flushed c.step-answered.result c.flush_reply.result _ _ _ c.step-answered.ensures.printed_later.later c.flush_reply.ensures.later.later c.flush_reply.ensures.flushed c.step-answered.ensures.sink
