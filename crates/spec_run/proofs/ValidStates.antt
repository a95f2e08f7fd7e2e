-- The states of a run are valid: each was represented by the folder, at the end of the opening or directly after a note.
use Rattle.std.proofs.Common.{ℕ, ◌≡◌, ◌⊎◌, inl, inr, ⊎_elim, Bool, true, false, ◌||◌, List, [], ◌∷◌, ◌++◌, refl, sym, ◌∙◌, ap, subst, arith, append_assoc}
use Rattle.std.proofs.lemmas.Bool.{cases_Bool}
use Rattle.std.proofs.lemmas.List.{append-nil}
use Rattle.spec_image.specs.Steps.{TrailStep, Word, SetLength, Delete, Note}
use Rattle.spec_image.specs.Notes.{notes_in}
use Rattle.spec_image.proofs.NotesLemmas.{notes_in-append}
use Rattle.blk_model.specs.State.{IsValidState}
use Rattle.spec_run.specs.Moments.{Completes}
use Rattle.spec_run.specs.Opening.{has_opened, marks_open}
use Rattle.spec_run.specs.Run.{state_at}
use Rattle.spec_run.specs.Laws.{StatesOfRunsAreValid}
use Rattle.spec_run.proofs.StepFacts.{opened-append, true_false}

-- the last step that completes something, with no note after it
record LastComplete (steps : List TrailStep) : Type 0 where
  before : List TrailStep
  step : TrailStep
  behind : List TrailStep
  split : steps ≡ (before ++ step ∷ []) ++ behind
  completes : Completes before step
  count : notes_in (before ++ step ∷ []) ≡ notes_in steps

by_itself : (made : List TrailStep) (x : TrailStep) → Completes made x → LastComplete (made ++ x ∷ [])
by_itself made x completes = record { before = made; step = x; behind = []; split = sym (append-nil (made ++ x ∷ [])); completes = completes; count = refl }

one_quiet : (made : List TrailStep) (x : TrailStep) → notes_in (x ∷ []) ≡ 0 → LastComplete made → LastComplete (made ++ x ∷ [])
one_quiet made x none last =
    let more = notes_in-append made (x ∷ []) in
    let count = last.count in
    record {
      before = last.before;
      step = last.step;
      behind = last.behind ++ x ∷ [];
      split = ap (λ (s : List TrailStep). s ++ x ∷ []) last.split ∙ append_assoc (last.before ++ last.step ∷ []) last.behind (x ∷ []);
      completes = last.completes;
      count = omega (arith, more, none, count);
    }

one_more : (made : List TrailStep) (x : TrailStep) → LastComplete made → LastComplete (made ++ x ∷ [])
one_more made (Word file at bytes) last = one_quiet made (Word file at bytes) refl last
one_more made (SetLength file n) last = one_quiet made (SetLength file n) refl last
one_more made (Delete file) last = one_quiet made (Delete file) refl last
one_more made (Note number) last = by_itself made (Note number) tt

first_mark : (made : List TrailStep) (x : TrailStep) → has_opened made ≡ false → marks_open x ≡ true → LastComplete (made ++ x ∷ [])
first_mark made (Word file at bytes) none marks = by_itself made (Word file at bytes) (none, marks)
first_mark made (SetLength file n) none marks = true_false marks refl
first_mark made (Delete file) none marks = true_false marks refl
first_mark made (Note number) none marks = true_false marks refl

still_unopened : (made : List TrailStep) (x : TrailStep) → has_opened made ≡ false → marks_open x ≡ false → has_opened (made ++ x ∷ []) ≡ false
still_unopened made x none unmarked = opened-append made (x ∷ []) ∙ ap (λ (b : Bool). b || has_opened (x ∷ [])) none ∙ ap (λ (b : Bool). b || false) unmarked

last_complete : (made steps : List TrailStep) → (has_opened made ≡ false) ⊎ LastComplete made → has_opened (made ++ steps) ≡ true → LastComplete (made ++ steps)
last_complete made [] (inl none) opens = true_false opens (ap has_opened (append-nil made) ∙ none)
last_complete made [] (inr last) opens = subst LastComplete (sym (append-nil made)) last
last_complete made (x ∷ steps) (inl none) opens =
    let next : (has_opened (made ++ x ∷ []) ≡ false) ⊎ LastComplete (made ++ x ∷ []) =
    ⊎_elim
    (λ (marks : marks_open x ≡ true). inr (first_mark made x none marks))
    (λ (unmarked : marks_open x ≡ false). inl (still_unopened made x none unmarked))
    (cases_Bool (marks_open x)) in
    subst LastComplete (append_assoc made (x ∷ []) steps) (last_complete (made ++ x ∷ []) steps next (ap has_opened (append_assoc made (x ∷ []) steps) ∙ opens))
last_complete made (x ∷ steps) (inr last) opens =
    subst LastComplete (append_assoc made (x ∷ []) steps) (last_complete (made ++ x ∷ []) steps (inr (one_more made x last)) (ap has_opened (append_assoc made (x ∷ []) steps) ∙ opens))

pub states_are_valid : StatesOfRunsAreValid
states_are_valid from opened commands steps prefix suffix each split opens =
    let last = last_complete [] prefix (inl refl) opens in
    let whole : steps ≡ (last.before ++ last.step ∷ []) ++ (last.behind ++ suffix) =
    split ∙ ap (λ (s : List TrailStep). s ++ suffix) last.split ∙ append_assoc (last.before ++ last.step ∷ []) last.behind suffix in
    let stands = (each (last.before ++ last.step ∷ []) (last.behind ++ suffix) whole).stands last.before last.step refl last.completes in
    subst (λ (n : ℕ). IsValidState (state_at opened commands n)) last.count stands.shows.valid
