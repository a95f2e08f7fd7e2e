use Rattle.std.proofs.Common.{◌≡◌, ℕ, ◌+◌, None, [], ◌∷◌, refl, true, sym, subst}
use Rattle.spec_image.specs.Steps.{Note}
use Rattle.spec_image.specs.Told.{Applies, Told}
use Rattle.blk_io.proofs.Carried.{if_damaged_weaker}
use Rattle.blk_model.specs.Request.{request_of}
use Rattle.blk_model.specs.Step.{step}
use Rattle.law_state.specs.Commands.{ForKept, IsNoted, IsStepped, note_number}
use Rattle.spec_run.specs.Progress.{NotesCommand}
use Rattle.spec_run.specs.Run.{at_moment}
use Rattle.spec_run.specs.Script.{is_refused}
use Rattle.blk_object.specs.FailedChecks.{IsFailedCheck}
use Rattle.blk_cache.specs.CacheKeeping.{KeepsState}
use Rattle.blk_cache.specs.CommandClauses.{FlushesClean}
use Rattle.blk_cache.specs.Stepping.{IfStepDamaged}
use Rattle.blk_cache.proofs.Notes.{not-noted, noted-alone, noted-does, noted-ends, noted-keeps, noted-steps, open-on, refused-notes, same-files, clean-notes, quiet-spares}
use Rattle.blk_cache.proofs.StepEnds.{any-damaged, by-files, damaged-on, failed-before, failed-behind, kept-behind, open-behind}
use Rattle.blk_cache.proofs.StepTexts.{any-after, prefix-of-whole, prefix-printed, none-before, whole-printed}
use Rattle.blk_cache.proofs.cache.Cache.step.Goals as goal

-- It isn't done.

pub returns-in_err-answer-clause-stepped : goal.returns-in_err-answer-clause-stepped
returns-in_err-answer-clause-stepped g c =
    not-noted c.args.self.now c.perform.new.self c.perform.new.self (g.F.Folder.told c.args.f.now) (g.F.Folder.told c.perform.new.folder) (g.F.Folder.told c.perform.new.folder) c.args.moment (request_of c.args.command.now) (note_number (c.args.self.now.notes + 1)) c.in_err-answer.ensures.stops refl

pub returns-in_err-answer-clause-front : goal.returns-in_err-answer-clause-front
returns-in_err-answer-clause-front g c =
    prefix-of-whole c.args.self.now (g.F.Folder.told c.args.f.now) c.args.moment (request_of c.args.command.now) (g.K.Sink.written c.args.out.now) (g.K.Sink.written c.perform.new.out) c.in_err-answer.ensures.front

pub returns-in_err-answer-clause-unanswered : goal.returns-in_err-answer-clause-unanswered
returns-in_err-answer-clause-unanswered g c =
    failed-before c.from_residual.result c.args.self.now (g.F.Folder.told c.args.f.now) (g.F.Folder.told c.perform.new.folder) c.args.moment (request_of c.args.command.now) (note_number (c.args.self.now.notes + 1)) (g.K.Sink.written c.args.out.now) (g.K.Sink.written c.perform.new.out) c.in_err-answer.ensures.front c.in_err-answer.ensures.spares

-- The note isn't made.

pub returns-in_err-note-clause-stepped : goal.returns-in_err-note-clause-stepped
returns-in_err-note-clause-stepped g c =
    not-noted c.args.self.now c.perform.new.self c.note.new.self (g.F.Folder.told c.args.f.now) (g.F.Folder.told c.perform.new.folder) (g.F.Folder.told c.note.new.folder) c.args.moment (request_of c.args.command.now) (note_number (c.args.self.now.notes + 1)) c.in_ok-answer.ensures.stops c.in_err-note.ensures.undone

pub returns-in_err-note-clause-front : goal.returns-in_err-note-clause-front
returns-in_err-note-clause-front g c =
    prefix-of-whole c.args.self.now (g.F.Folder.told c.args.f.now) c.args.moment (request_of c.args.command.now) (g.K.Sink.written c.args.out.now) (g.K.Sink.written c.perform.new.out) c.in_ok-answer.ensures.front

pub returns-in_err-note-clause-unanswered : goal.returns-in_err-note-clause-unanswered
returns-in_err-note-clause-unanswered g c =
    failed-before c.from_residual-in_err-note.result c.args.self.now (g.F.Folder.told c.args.f.now) (g.F.Folder.told c.note.new.folder) c.args.moment (request_of c.args.command.now) (note_number (c.args.self.now.notes + 1)) (g.K.Sink.written c.args.out.now) (g.K.Sink.written c.perform.new.out) c.in_ok-answer.ensures.front
    (quiet-spares c.args.self.now c.perform.new.self (g.F.Folder.told c.args.f.now) (g.F.Folder.told c.perform.new.folder) (g.F.Folder.told c.note.new.folder) c.args.moment (request_of c.args.command.now)
    c.in_ok-answer.answer c.in_ok-answer.ensures.does c.in_ok-answer.ensures.quiet c.in_err-note.ensures.undone)

-- the note that is made
made : (old mid : ℕ) (told now : Told) → mid ≡ old → Applies told now (Note (note_number (mid + 1)) ∷ []) → Applies told now (Note (note_number (old + 1)) ∷ [])
made old mid told now same note = subst (λ (n : ℕ). Applies told now (Note (note_number (n + 1)) ∷ [])) same note

-- The folder fails in the reply.

pub reply-requires : goal.reply-requires
reply-requires g c = record {
  is_open = open-on c.perform.new.self c.note.new.self (g.F.Folder.told c.perform.new.folder) (g.F.Folder.told c.note.new.folder) (same-files (g.F.Folder.told c.perform.new.folder) (g.F.Folder.told c.note.new.folder) _ c.in_ok-note.ensures.done) c.in_ok-note.ensures.others c.in_ok-answer.ensures.is_open;
}

pub returns-in_err-reply-clause-stepped : goal.returns-in_err-reply-clause-stepped
returns-in_err-reply-clause-stepped g c =
    subst (λ (t : Told). ForKept (KeepsState c.args.self.now) (g.F.Folder.told c.args.f.now) (IsStepped (g.F.Folder.told c.args.f.now) t c.args.moment (request_of c.args.command.now) (note_number (c.args.self.now.notes + 1)))) (sym c.in_err-reply.ensures.reads.stays)
    (noted-steps c.args.self.now c.perform.new.self c.note.new.self (g.F.Folder.told c.args.f.now) (g.F.Folder.told c.perform.new.folder) (g.F.Folder.told c.note.new.folder) c.args.moment (request_of c.args.command.now) (note_number (c.args.self.now.notes + 1)) c.in_ok-answer.ensures.stops c.in_ok-answer.answer c.in_ok-answer.ensures.does
    (made c.args.self.now.notes c.perform.new.self.notes (g.F.Folder.told c.perform.new.folder) (g.F.Folder.told c.note.new.folder) c.in_ok-answer.ensures.notes c.in_ok-note.ensures.done) c.in_ok-note.ensures.others)

pub returns-in_err-reply-clause-front : goal.returns-in_err-reply-clause-front
returns-in_err-reply-clause-front g c =
    prefix-printed c.args.self.now c.note.new.self (g.F.Folder.told c.args.f.now) (g.F.Folder.told c.perform.new.folder) (g.F.Folder.told c.note.new.folder) c.args.moment (request_of c.args.command.now) c.in_ok-answer.ensures.stops
    (same-files (g.F.Folder.told c.perform.new.folder) (g.F.Folder.told c.note.new.folder) _ c.in_ok-note.ensures.done) c.in_ok-answer.answer (noted-does c.args.self.now c.perform.new.self c.note.new.self (g.F.Folder.told c.args.f.now) (g.F.Folder.told c.perform.new.folder) (g.F.Folder.told c.note.new.folder) c.args.moment (request_of c.args.command.now) (note_number (c.args.self.now.notes + 1)) c.in_ok-answer.ensures.stops c.in_ok-answer.answer c.in_ok-answer.ensures.does
    (made c.args.self.now.notes c.perform.new.self.notes (g.F.Folder.told c.perform.new.folder) (g.F.Folder.told c.note.new.folder) c.in_ok-answer.ensures.notes c.in_ok-note.ensures.done) c.in_ok-note.ensures.others)
    c.perform.new.failed c.reply.new.failed (g.K.Sink.written c.args.out.now) (g.K.Sink.written c.perform.new.out) (g.K.Sink.written c.reply.new.out) c.in_ok-answer.ensures.says c.in_err-reply.ensures.part

pub returns-in_err-reply-clause-unanswered : goal.returns-in_err-reply-clause-unanswered
returns-in_err-reply-clause-unanswered g c =
    failed-behind c.from_residual-in_err-reply.result c.args.self.now (g.F.Folder.told c.args.f.now) (g.F.Folder.told c.reply.new.folder) c.args.moment (request_of c.args.command.now) (note_number (c.args.self.now.notes + 1)) (g.K.Sink.written c.args.out.now) (g.K.Sink.written c.reply.new.out)
    (subst (λ (t : Told). ForKept (KeepsState c.args.self.now) (g.F.Folder.told c.args.f.now) (NotesCommand (g.F.Folder.told c.args.f.now) t (at_moment c.args.moment (request_of c.args.command.now)) (note_number (c.args.self.now.notes + 1)))) (sym c.in_err-reply.ensures.reads.stays)
    (noted-alone c.args.self.now c.perform.new.self c.note.new.self (g.F.Folder.told c.args.f.now) (g.F.Folder.told c.perform.new.folder) (g.F.Folder.told c.note.new.folder) c.args.moment (request_of c.args.command.now) (note_number (c.args.self.now.notes + 1)) c.in_ok-answer.ensures.stops c.in_ok-answer.answer c.in_ok-answer.ensures.does
    (made c.args.self.now.notes c.perform.new.self.notes (g.F.Folder.told c.perform.new.folder) (g.F.Folder.told c.note.new.folder) c.in_ok-answer.ensures.notes c.in_ok-note.ensures.done) c.in_ok-note.ensures.others c.in_ok-answer.ensures.quiet))

pub returns-in_err-reply-clause-untold : goal.returns-in_err-reply-clause-untold
returns-in_err-reply-clause-untold g c any =
    by-files (IfStepDamaged c.from_residual-in_err-reply.result (λ _. (g.F.Folder.told c.args.f.now).files ≡ None)) (g.F.Folder.told c.args.f.now).files
    (λ none. any-damaged c.from_residual-in_err-reply.result ((g.F.Folder.told c.args.f.now).files ≡ None) none)
    (λ image there. damaged-on c.reply.result c.from_residual-in_err-reply.result c.in_err-reply.field-0.0 (λ _. (g.F.Folder.told c.args.f.now).files ≡ None) c.in_err-reply.was c.from_residual-in_err-reply.ensures.1
    (if_damaged_weaker c.reply.result (λ _. (g.F.Folder.told c.note.new.folder).files ≡ None) (λ _. (g.F.Folder.told c.args.f.now).files ≡ None)
    (λ damage none. none-before c.args.self.now c.note.new.self (g.F.Folder.told c.args.f.now) (g.F.Folder.told c.perform.new.folder) (g.F.Folder.told c.note.new.folder) c.args.moment (request_of c.args.command.now) c.in_ok-answer.ensures.stops
    (same-files (g.F.Folder.told c.perform.new.folder) (g.F.Folder.told c.note.new.folder) _ c.in_ok-note.ensures.done) any none)
    (c.reply.ensures.untold (any-after c.args.self.now c.note.new.self (g.F.Folder.told c.args.f.now) (g.F.Folder.told c.perform.new.folder) (g.F.Folder.told c.note.new.folder) c.args.moment (request_of c.args.command.now) c.in_ok-answer.ensures.stops
    (same-files (g.F.Folder.told c.perform.new.folder) (g.F.Folder.told c.note.new.folder) _ c.in_ok-note.ensures.done) c.in_ok-answer.answer (noted-does c.args.self.now c.perform.new.self c.note.new.self (g.F.Folder.told c.args.f.now) (g.F.Folder.told c.perform.new.folder) (g.F.Folder.told c.note.new.folder) c.args.moment (request_of c.args.command.now) (note_number (c.args.self.now.notes + 1)) c.in_ok-answer.ensures.stops c.in_ok-answer.answer c.in_ok-answer.ensures.does
    (made c.args.self.now.notes c.perform.new.self.notes (g.F.Folder.told c.perform.new.folder) (g.F.Folder.told c.note.new.folder) c.in_ok-answer.ensures.notes c.in_ok-note.ensures.done) c.in_ok-note.ensures.others) any image there))))

-- It is done, and the output failed.

pub returns-then-failed-clause-kept : goal.returns-then-failed-clause-kept
returns-then-failed-clause-kept g c image there state k =
    kept-behind c.note.new.self c.reply.new.self (g.F.Folder.told c.note.new.folder) (g.F.Folder.told c.reply.new.folder) c.in_ok-reply.ensures.others c.in_ok-reply.ensures.reads.stays (step state c.args.moment (request_of c.args.command.now)).state
    (noted-keeps c.args.self.now c.perform.new.self c.note.new.self (g.F.Folder.told c.args.f.now) (g.F.Folder.told c.perform.new.folder) (g.F.Folder.told c.note.new.folder) c.args.moment (request_of c.args.command.now) (note_number (c.args.self.now.notes + 1)) c.in_ok-answer.ensures.stops c.in_ok-answer.answer c.in_ok-answer.ensures.does
    (made c.args.self.now.notes c.perform.new.self.notes (g.F.Folder.told c.perform.new.folder) (g.F.Folder.told c.note.new.folder) c.in_ok-answer.ensures.notes c.in_ok-note.ensures.done) c.in_ok-note.ensures.others image there state k)

pub returns-then-failed-clause-stepped : goal.returns-then-failed-clause-stepped
returns-then-failed-clause-stepped g c =
    subst (λ (t : Told). ForKept (KeepsState c.args.self.now) (g.F.Folder.told c.args.f.now) (IsStepped (g.F.Folder.told c.args.f.now) t c.args.moment (request_of c.args.command.now) (note_number (c.args.self.now.notes + 1)))) (sym c.in_ok-reply.ensures.reads.stays)
    (noted-steps c.args.self.now c.perform.new.self c.note.new.self (g.F.Folder.told c.args.f.now) (g.F.Folder.told c.perform.new.folder) (g.F.Folder.told c.note.new.folder) c.args.moment (request_of c.args.command.now) (note_number (c.args.self.now.notes + 1)) c.in_ok-answer.ensures.stops c.in_ok-answer.answer c.in_ok-answer.ensures.does
    (made c.args.self.now.notes c.perform.new.self.notes (g.F.Folder.told c.perform.new.folder) (g.F.Folder.told c.note.new.folder) c.in_ok-answer.ensures.notes c.in_ok-note.ensures.done) c.in_ok-note.ensures.others)

pub returns-then-failed-clause-front : goal.returns-then-failed-clause-front
returns-then-failed-clause-front g c =
    prefix-printed c.args.self.now c.note.new.self (g.F.Folder.told c.args.f.now) (g.F.Folder.told c.perform.new.folder) (g.F.Folder.told c.note.new.folder) c.args.moment (request_of c.args.command.now) c.in_ok-answer.ensures.stops
    (same-files (g.F.Folder.told c.perform.new.folder) (g.F.Folder.told c.note.new.folder) _ c.in_ok-note.ensures.done) c.in_ok-answer.answer (noted-does c.args.self.now c.perform.new.self c.note.new.self (g.F.Folder.told c.args.f.now) (g.F.Folder.told c.perform.new.folder) (g.F.Folder.told c.note.new.folder) c.args.moment (request_of c.args.command.now) (note_number (c.args.self.now.notes + 1)) c.in_ok-answer.ensures.stops c.in_ok-answer.answer c.in_ok-answer.ensures.does
    (made c.args.self.now.notes c.perform.new.self.notes (g.F.Folder.told c.perform.new.folder) (g.F.Folder.told c.note.new.folder) c.in_ok-answer.ensures.notes c.in_ok-note.ensures.done) c.in_ok-note.ensures.others)
    c.perform.new.failed c.reply.new.failed (g.K.Sink.written c.args.out.now) (g.K.Sink.written c.perform.new.out) (g.K.Sink.written c.reply.new.out) c.in_ok-answer.ensures.says c.in_ok-reply.ensures.part

pub returns-then-failed-clause-noted : goal.returns-then-failed-clause-noted
returns-then-failed-clause-noted g c =
    subst (λ (t : Told). ForKept (KeepsState c.args.self.now) (g.F.Folder.told c.args.f.now) (IsNoted (g.F.Folder.told c.args.f.now) t c.args.moment (request_of c.args.command.now) (note_number (c.args.self.now.notes + 1)))) (sym c.in_ok-reply.ensures.reads.stays)
    (noted-ends c.args.self.now c.perform.new.self c.note.new.self (g.F.Folder.told c.args.f.now) (g.F.Folder.told c.perform.new.folder) (g.F.Folder.told c.note.new.folder) c.args.moment (request_of c.args.command.now) (note_number (c.args.self.now.notes + 1)) c.in_ok-answer.ensures.stops c.in_ok-answer.answer c.in_ok-answer.ensures.does
    (made c.args.self.now.notes c.perform.new.self.notes (g.F.Folder.told c.perform.new.folder) (g.F.Folder.told c.note.new.folder) c.in_ok-answer.ensures.notes c.in_ok-note.ensures.done) c.in_ok-note.ensures.others)

pub returns-then-failed-clause-refused : goal.returns-then-failed-clause-refused
returns-then-failed-clause-refused g c =
    subst (λ (t : Told). ForKept (KeepsState c.args.self.now) (g.F.Folder.told c.args.f.now) (λ state. is_refused (step state c.args.moment (request_of c.args.command.now)) ≡ true → Applies (g.F.Folder.told c.args.f.now) t (Note (note_number (c.args.self.now.notes + 1)) ∷ []))) (sym c.in_ok-reply.ensures.reads.stays)
    (refused-notes c.args.self.now c.perform.new.self c.note.new.self (g.F.Folder.told c.args.f.now) (g.F.Folder.told c.perform.new.folder) (g.F.Folder.told c.note.new.folder) c.args.moment (request_of c.args.command.now) (note_number (c.args.self.now.notes + 1)) c.in_ok-answer.ensures.stops c.in_ok-answer.answer c.in_ok-answer.ensures.does
    (made c.args.self.now.notes c.perform.new.self.notes (g.F.Folder.told c.perform.new.folder) (g.F.Folder.told c.note.new.folder) c.in_ok-answer.ensures.notes c.in_ok-note.ensures.done) c.in_ok-note.ensures.others c.in_ok-answer.ensures.quiet)

pub returns-then-failed-clause-idle : goal.returns-then-failed-clause-idle
returns-then-failed-clause-idle g c =
    subst (λ (t : Told). ForKept (KeepsState c.args.self.now) (g.F.Folder.told c.args.f.now) (λ state. FlushesClean state (request_of c.args.command.now) → Applies (g.F.Folder.told c.args.f.now) t (Note (note_number (c.args.self.now.notes + 1)) ∷ []))) (sym c.in_ok-reply.ensures.reads.stays)
    (clean-notes c.args.self.now (g.F.Folder.told c.args.f.now) (g.F.Folder.told c.perform.new.folder) (g.F.Folder.told c.note.new.folder) (request_of c.args.command.now) (note_number (c.args.self.now.notes + 1)) c.in_ok-answer.ensures.idle
    (made c.args.self.now.notes c.perform.new.self.notes (g.F.Folder.told c.perform.new.folder) (g.F.Folder.told c.note.new.folder) c.in_ok-answer.ensures.notes c.in_ok-note.ensures.done))

pub returns-then-failed-clause-is_open : goal.returns-then-failed-clause-is_open
returns-then-failed-clause-is_open g c =
    open-behind c.note.new.self c.reply.new.self (g.F.Folder.told c.note.new.folder) (g.F.Folder.told c.reply.new.folder) c.in_ok-reply.ensures.others c.in_ok-reply.ensures.reads.stays
    (open-on c.perform.new.self c.note.new.self (g.F.Folder.told c.perform.new.folder) (g.F.Folder.told c.note.new.folder) (same-files (g.F.Folder.told c.perform.new.folder) (g.F.Folder.told c.note.new.folder) _ c.in_ok-note.ensures.done) c.in_ok-note.ensures.others c.in_ok-answer.ensures.is_open)

-- It is done, and answered.

pub returns-else-failed-clause-answered : goal.returns-else-failed-clause-answered
returns-else-failed-clause-answered g c image there state k =
    (c.in_ok-answer.ensures.does image there state k.holds).answered

pub returns-else-failed-clause-kept : goal.returns-else-failed-clause-kept
returns-else-failed-clause-kept g c image there state k =
    kept-behind c.note.new.self c.reply.new.self (g.F.Folder.told c.note.new.folder) (g.F.Folder.told c.reply.new.folder) c.in_ok-reply.ensures.others c.in_ok-reply.ensures.reads.stays (step state c.args.moment (request_of c.args.command.now)).state
    (noted-keeps c.args.self.now c.perform.new.self c.note.new.self (g.F.Folder.told c.args.f.now) (g.F.Folder.told c.perform.new.folder) (g.F.Folder.told c.note.new.folder) c.args.moment (request_of c.args.command.now) (note_number (c.args.self.now.notes + 1)) c.in_ok-answer.ensures.stops c.in_ok-answer.answer c.in_ok-answer.ensures.does
    (made c.args.self.now.notes c.perform.new.self.notes (g.F.Folder.told c.perform.new.folder) (g.F.Folder.told c.note.new.folder) c.in_ok-answer.ensures.notes c.in_ok-note.ensures.done) c.in_ok-note.ensures.others image there state k)

pub returns-else-failed-clause-stepped : goal.returns-else-failed-clause-stepped
returns-else-failed-clause-stepped g c =
    subst (λ (t : Told). ForKept (KeepsState c.args.self.now) (g.F.Folder.told c.args.f.now) (IsStepped (g.F.Folder.told c.args.f.now) t c.args.moment (request_of c.args.command.now) (note_number (c.args.self.now.notes + 1)))) (sym c.in_ok-reply.ensures.reads.stays)
    (noted-steps c.args.self.now c.perform.new.self c.note.new.self (g.F.Folder.told c.args.f.now) (g.F.Folder.told c.perform.new.folder) (g.F.Folder.told c.note.new.folder) c.args.moment (request_of c.args.command.now) (note_number (c.args.self.now.notes + 1)) c.in_ok-answer.ensures.stops c.in_ok-answer.answer c.in_ok-answer.ensures.does
    (made c.args.self.now.notes c.perform.new.self.notes (g.F.Folder.told c.perform.new.folder) (g.F.Folder.told c.note.new.folder) c.in_ok-answer.ensures.notes c.in_ok-note.ensures.done) c.in_ok-note.ensures.others)

pub returns-else-failed-clause-front : goal.returns-else-failed-clause-front
returns-else-failed-clause-front g c =
    prefix-printed c.args.self.now c.note.new.self (g.F.Folder.told c.args.f.now) (g.F.Folder.told c.perform.new.folder) (g.F.Folder.told c.note.new.folder) c.args.moment (request_of c.args.command.now) c.in_ok-answer.ensures.stops
    (same-files (g.F.Folder.told c.perform.new.folder) (g.F.Folder.told c.note.new.folder) _ c.in_ok-note.ensures.done) c.in_ok-answer.answer (noted-does c.args.self.now c.perform.new.self c.note.new.self (g.F.Folder.told c.args.f.now) (g.F.Folder.told c.perform.new.folder) (g.F.Folder.told c.note.new.folder) c.args.moment (request_of c.args.command.now) (note_number (c.args.self.now.notes + 1)) c.in_ok-answer.ensures.stops c.in_ok-answer.answer c.in_ok-answer.ensures.does
    (made c.args.self.now.notes c.perform.new.self.notes (g.F.Folder.told c.perform.new.folder) (g.F.Folder.told c.note.new.folder) c.in_ok-answer.ensures.notes c.in_ok-note.ensures.done) c.in_ok-note.ensures.others)
    c.perform.new.failed c.reply.new.failed (g.K.Sink.written c.args.out.now) (g.K.Sink.written c.perform.new.out) (g.K.Sink.written c.reply.new.out) c.in_ok-answer.ensures.says c.in_ok-reply.ensures.part

pub returns-else-failed-clause-noted : goal.returns-else-failed-clause-noted
returns-else-failed-clause-noted g c =
    subst (λ (t : Told). ForKept (KeepsState c.args.self.now) (g.F.Folder.told c.args.f.now) (IsNoted (g.F.Folder.told c.args.f.now) t c.args.moment (request_of c.args.command.now) (note_number (c.args.self.now.notes + 1)))) (sym c.in_ok-reply.ensures.reads.stays)
    (noted-ends c.args.self.now c.perform.new.self c.note.new.self (g.F.Folder.told c.args.f.now) (g.F.Folder.told c.perform.new.folder) (g.F.Folder.told c.note.new.folder) c.args.moment (request_of c.args.command.now) (note_number (c.args.self.now.notes + 1)) c.in_ok-answer.ensures.stops c.in_ok-answer.answer c.in_ok-answer.ensures.does
    (made c.args.self.now.notes c.perform.new.self.notes (g.F.Folder.told c.perform.new.folder) (g.F.Folder.told c.note.new.folder) c.in_ok-answer.ensures.notes c.in_ok-note.ensures.done) c.in_ok-note.ensures.others)

pub returns-else-failed-clause-printed : goal.returns-else-failed-clause-printed
returns-else-failed-clause-printed g c =
    whole-printed c.args.self.now c.note.new.self (g.F.Folder.told c.args.f.now) (g.F.Folder.told c.perform.new.folder) (g.F.Folder.told c.note.new.folder) c.args.moment (request_of c.args.command.now) c.in_ok-answer.ensures.stops
    (same-files (g.F.Folder.told c.perform.new.folder) (g.F.Folder.told c.note.new.folder) _ c.in_ok-note.ensures.done) c.in_ok-answer.answer (noted-does c.args.self.now c.perform.new.self c.note.new.self (g.F.Folder.told c.args.f.now) (g.F.Folder.told c.perform.new.folder) (g.F.Folder.told c.note.new.folder) c.args.moment (request_of c.args.command.now) (note_number (c.args.self.now.notes + 1)) c.in_ok-answer.ensures.stops c.in_ok-answer.answer c.in_ok-answer.ensures.does
    (made c.args.self.now.notes c.perform.new.self.notes (g.F.Folder.told c.perform.new.folder) (g.F.Folder.told c.note.new.folder) c.in_ok-answer.ensures.notes c.in_ok-note.ensures.done) c.in_ok-note.ensures.others)
    c.perform.new.failed c.reply.new.failed (g.K.Sink.written c.args.out.now) (g.K.Sink.written c.perform.new.out) (g.K.Sink.written c.reply.new.out) c.in_ok-answer.ensures.says c.in_ok-reply.ensures.printed c.if-failed.false

pub returns-else-failed-clause-refused : goal.returns-else-failed-clause-refused
returns-else-failed-clause-refused g c =
    subst (λ (t : Told). ForKept (KeepsState c.args.self.now) (g.F.Folder.told c.args.f.now) (λ state. is_refused (step state c.args.moment (request_of c.args.command.now)) ≡ true → Applies (g.F.Folder.told c.args.f.now) t (Note (note_number (c.args.self.now.notes + 1)) ∷ []))) (sym c.in_ok-reply.ensures.reads.stays)
    (refused-notes c.args.self.now c.perform.new.self c.note.new.self (g.F.Folder.told c.args.f.now) (g.F.Folder.told c.perform.new.folder) (g.F.Folder.told c.note.new.folder) c.args.moment (request_of c.args.command.now) (note_number (c.args.self.now.notes + 1)) c.in_ok-answer.ensures.stops c.in_ok-answer.answer c.in_ok-answer.ensures.does
    (made c.args.self.now.notes c.perform.new.self.notes (g.F.Folder.told c.perform.new.folder) (g.F.Folder.told c.note.new.folder) c.in_ok-answer.ensures.notes c.in_ok-note.ensures.done) c.in_ok-note.ensures.others c.in_ok-answer.ensures.quiet)

pub returns-else-failed-clause-idle : goal.returns-else-failed-clause-idle
returns-else-failed-clause-idle g c =
    subst (λ (t : Told). ForKept (KeepsState c.args.self.now) (g.F.Folder.told c.args.f.now) (λ state. FlushesClean state (request_of c.args.command.now) → Applies (g.F.Folder.told c.args.f.now) t (Note (note_number (c.args.self.now.notes + 1)) ∷ []))) (sym c.in_ok-reply.ensures.reads.stays)
    (clean-notes c.args.self.now (g.F.Folder.told c.args.f.now) (g.F.Folder.told c.perform.new.folder) (g.F.Folder.told c.note.new.folder) (request_of c.args.command.now) (note_number (c.args.self.now.notes + 1)) c.in_ok-answer.ensures.idle
    (made c.args.self.now.notes c.perform.new.self.notes (g.F.Folder.told c.perform.new.folder) (g.F.Folder.told c.note.new.folder) c.in_ok-answer.ensures.notes c.in_ok-note.ensures.done))

pub returns-else-failed-clause-is_open : goal.returns-else-failed-clause-is_open
returns-else-failed-clause-is_open g c =
    open-behind c.note.new.self c.reply.new.self (g.F.Folder.told c.note.new.folder) (g.F.Folder.told c.reply.new.folder) c.in_ok-reply.ensures.others c.in_ok-reply.ensures.reads.stays
    (open-on c.perform.new.self c.note.new.self (g.F.Folder.told c.perform.new.folder) (g.F.Folder.told c.note.new.folder) (same-files (g.F.Folder.told c.perform.new.folder) (g.F.Folder.told c.note.new.folder) _ c.in_ok-note.ensures.done) c.in_ok-note.ensures.others c.in_ok-answer.ensures.is_open)

pub returns-in_err-reply-clause-damaged : goal.returns-in_err-reply-clause-damaged
returns-in_err-reply-clause-damaged g c =
    damaged-on c.reply.result c.from_residual-in_err-reply.result c.in_err-reply.field-0.0 (IsFailedCheck c.reply.new.self.files (g.F.Folder.told c.reply.new.folder)) c.in_err-reply.was c.from_residual-in_err-reply.ensures.1 c.reply.ensures.damaged
