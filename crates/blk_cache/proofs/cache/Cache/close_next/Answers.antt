use Rattle.std.proofs.Common.{◌≡◌, ℕ, ◌+◌, [], ◌∷◌, IfSome, Option, None, Some, refl, sym, subst, ◌∙◌}
use Rattle.std.specs.Prelude.{is_some, position, slice_set}
use Rattle.std.proofs.lemmas.List.Quantifiers.{position-Some}
use Rattle.std.specs.Option.{ForSome}
use Rattle.spec_image.specs.Steps.{Note}
use Rattle.spec_image.specs.Told.{Applies, Told}
use Rattle.blk_model.specs.Request.{to_close}
use Rattle.blk_model.specs.Step.{step}
use Rattle.law_state.specs.Commands.{ForKept, IsNoted, IsStepped, note_number}
use Rattle.blk_cache.specs.CacheKeeping.{KeepsState}
use Rattle.blk_cache.proofs.Notes.{not-noted, noted-ends, noted-keeps, noted-steps, open-on, same-files}
use Rattle.blk_cache.proofs.cache.Cache.close_next.Goals as goal

-- what holds of the least name that is bound
if-some : {A : Type 0} (o : Option A) (a : A) (P : A → Type 0) → o ≡ Some a → P a → IfSome o P
if-some o a P e holds = subst (λ x. IfSome x P) (sym e) holds

-- the note that is made
made : (old mid : ℕ) (told now : Told) → mid ≡ old → Applies told now (Note (note_number (mid + 1)) ∷ []) → Applies told now (Note (note_number (old + 1)) ∷ [])
made old mid told now same note = subst (λ (n : ℕ). Applies told now (Note (note_number (n + 1)) ∷ [])) same note

pub returns-in_err-close-clause-stepped : goal.returns-in_err-close-clause-stepped
returns-in_err-close-clause-stepped g c =
    if-some (position is_some c.args.self.now.handles) c.in-Some.handle (λ handle. ForKept (KeepsState c.args.self.now) (g.F.Folder.told c.args.f.now) (IsStepped (g.F.Folder.told c.args.f.now) (g.F.Folder.told c.close.new.folder) c.args.moment (to_close handle) (note_number (c.args.self.now.notes + 1)))) (sym c.least_name.ensures ∙ c.in-Some.is)
    (not-noted c.args.self.now c.close.new.self c.close.new.self (g.F.Folder.told c.args.f.now) (g.F.Folder.told c.close.new.folder) (g.F.Folder.told c.close.new.folder) c.args.moment (to_close c.in-Some.handle) (note_number (c.args.self.now.notes + 1)) (c.in_err-close.ensures.stops c.args.moment) refl)

pub returns-in_err-note-clause-stepped : goal.returns-in_err-note-clause-stepped
returns-in_err-note-clause-stepped g c =
    if-some (position is_some c.args.self.now.handles) c.in-Some.handle (λ handle. ForKept (KeepsState c.args.self.now) (g.F.Folder.told c.args.f.now) (IsStepped (g.F.Folder.told c.args.f.now) (g.F.Folder.told c.note.new.folder) c.args.moment (to_close handle) (note_number (c.args.self.now.notes + 1)))) (sym c.least_name.ensures ∙ c.in-Some.is)
    (not-noted c.args.self.now c.close.new.self c.note.new.self (g.F.Folder.told c.args.f.now) (g.F.Folder.told c.close.new.folder) (g.F.Folder.told c.note.new.folder) c.args.moment (to_close c.in-Some.handle) (note_number (c.args.self.now.notes + 1)) (c.in_ok-close.ensures.stops c.args.moment) c.in_err-note.ensures.undone)

pub returns-clause-kept : goal.returns-clause-kept
returns-clause-kept g c =
    if-some (position is_some c.args.self.now.handles) c.in-Some.handle (λ handle. ForKept (KeepsState c.args.self.now) (g.F.Folder.told c.args.f.now) (λ state. ForSome (g.F.Folder.told c.note.new.folder).files (KeepsState c.note.new.self (step state c.args.moment (to_close handle)).state))) (sym c.least_name.ensures ∙ c.in-Some.is)
    (λ image there state k. (noted-keeps c.args.self.now c.close.new.self c.note.new.self (g.F.Folder.told c.args.f.now) (g.F.Folder.told c.close.new.folder) (g.F.Folder.told c.note.new.folder) c.args.moment (to_close c.in-Some.handle) (note_number (c.args.self.now.notes + 1)) (c.in_ok-close.ensures.stops c.args.moment) c.in_ok-close.field-0 (c.in_ok-close.ensures.does c.args.moment)
    (made c.args.self.now.notes c.close.new.self.notes (g.F.Folder.told c.close.new.folder) (g.F.Folder.told c.note.new.folder) c.in_ok-close.ensures.notes c.in_ok-note.ensures.done) c.in_ok-note.ensures.others image there state k))

pub returns-clause-stepped : goal.returns-clause-stepped
returns-clause-stepped g c =
    if-some (position is_some c.args.self.now.handles) c.in-Some.handle (λ handle. ForKept (KeepsState c.args.self.now) (g.F.Folder.told c.args.f.now) (IsStepped (g.F.Folder.told c.args.f.now) (g.F.Folder.told c.note.new.folder) c.args.moment (to_close handle) (note_number (c.args.self.now.notes + 1)))) (sym c.least_name.ensures ∙ c.in-Some.is)
    (noted-steps c.args.self.now c.close.new.self c.note.new.self (g.F.Folder.told c.args.f.now) (g.F.Folder.told c.close.new.folder) (g.F.Folder.told c.note.new.folder) c.args.moment (to_close c.in-Some.handle) (note_number (c.args.self.now.notes + 1)) (c.in_ok-close.ensures.stops c.args.moment) c.in_ok-close.field-0 (c.in_ok-close.ensures.does c.args.moment)
    (made c.args.self.now.notes c.close.new.self.notes (g.F.Folder.told c.close.new.folder) (g.F.Folder.told c.note.new.folder) c.in_ok-close.ensures.notes c.in_ok-note.ensures.done) c.in_ok-note.ensures.others)

pub returns-clause-noted : goal.returns-clause-noted
returns-clause-noted g c =
    if-some (position is_some c.args.self.now.handles) c.in-Some.handle (λ handle. ForKept (KeepsState c.args.self.now) (g.F.Folder.told c.args.f.now) (IsNoted (g.F.Folder.told c.args.f.now) (g.F.Folder.told c.note.new.folder) c.args.moment (to_close handle) (note_number (c.args.self.now.notes + 1)))) (sym c.least_name.ensures ∙ c.in-Some.is)
    (noted-ends c.args.self.now c.close.new.self c.note.new.self (g.F.Folder.told c.args.f.now) (g.F.Folder.told c.close.new.folder) (g.F.Folder.told c.note.new.folder) c.args.moment (to_close c.in-Some.handle) (note_number (c.args.self.now.notes + 1)) (c.in_ok-close.ensures.stops c.args.moment) c.in_ok-close.field-0 (c.in_ok-close.ensures.does c.args.moment)
    (made c.args.self.now.notes c.close.new.self.notes (g.F.Folder.told c.close.new.folder) (g.F.Folder.told c.note.new.folder) c.in_ok-close.ensures.notes c.in_ok-note.ensures.done) c.in_ok-note.ensures.others)

pub returns-clause-is_open : goal.returns-clause-is_open
returns-clause-is_open g c =
    open-on c.close.new.self c.note.new.self (g.F.Folder.told c.close.new.folder) (g.F.Folder.told c.note.new.folder) (same-files (g.F.Folder.told c.close.new.folder) (g.F.Folder.told c.note.new.folder) _ c.in_ok-note.ensures.done) c.in_ok-note.ensures.others c.in_ok-close.ensures.is_open

pub returns-clause-frees : goal.returns-clause-frees
returns-clause-frees g c =
    let at : position is_some c.args.self.now.handles ≡ Some c.in-Some.handle = sym c.least_name.ensures ∙ c.in-Some.is in
    if-some (position is_some c.args.self.now.handles) c.in-Some.handle (λ handle. c.note.new.self.handles ≡ slice_set c.args.self.now.handles handle None) at
    (c.in_ok-note.ensures.others.handles ∙ c.in_ok-close.ensures.frees ((position-Some is_some c.args.self.now.handles c.in-Some.handle None at).1))
