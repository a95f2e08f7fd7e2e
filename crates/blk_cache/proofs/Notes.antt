-- The note after the steps of a command.
use Rattle.std.proofs.Common.{◌≡◌, ℕ, [], ◌∷◌, Option, Some, None, inl, inr, refl, true, sym, ap, subst, ◌∙◌}
use Rattle.std.specs.Option.{ForSome, option_map}
use Rattle.spec_image.specs.Image.{Image}
use Rattle.spec_image.specs.Steps.{Note, after}
use Rattle.spec_image.specs.Told.{Applies, Passes, Stays, Told}
use Rattle.spec_image.proofs.Runs.{grows_then}
use Rattle.blk_model.specs.Bounds.{bounds_of}
use Rattle.blk_model.specs.Request.{Request}
use Rattle.blk_model.specs.State.{State, named_by}
use Rattle.blk_model.specs.Step.{step}
use Rattle.blk_model.specs.declared.Answer.{Answer}
use Rattle.blk_disk.specs.declared.tables.BlockFiles.{BlockFiles}
use Rattle.blk_disk.specs.Open.{IsOpen}
use Rattle.blk_disk.specs.Tables.{Agrees}
use Rattle.blk_handles.specs.Bindings.{Bindings, binding_of, open_count}
use Rattle.law_state.specs.Commands.{Does, ForKept, IsDone, IsNoted, IsStepped, MayStop, MayStopAtEach}
use Rattle.spec_format.specs.Session.{KeepsSessionWords}
use Rattle.spec_format.proofs.Session.{commands-words-kept}
use Rattle.spec_run.specs.Progress.{NotesCommand}
use Rattle.spec_run.specs.Run.{at_moment}
use Rattle.spec_run.specs.Script.{is_refused}
use Rattle.law_state.specs.KeepingLaws.{HasMagic}
use Rattle.law_state.proofs.Keeping.{kept-stands}
use Rattle.blk_cache.specs.declared.cache.Cache.{Cache}
use Rattle.blk_cache.specs.CacheKeeping.{IsBoundAs, HoldsState, KeepsState}
use Rattle.blk_cache.specs.CommandClauses.{FlushesClean, IsRefused, OnlyNotesChange, SparesRefused}

-- a note changes no file
note-nothing : (number : ℕ) (files : Option Image) → option_map (after (Note number ∷ [])) files ≡ files
note-nothing number None = refl
note-nothing number (Some image) = refl

pub same-files : (mid now : Told) (number : ℕ) → Applies mid now (Note number ∷ []) → now.files ≡ mid.files
same-files mid now number note = note.files ∙ note-nothing number mid.files

-- what a cache keeps doesn't depend on its notes
pub kept-on : (old new : Cache) (state : State) (image : Image) → OnlyNotesChange old new → HoldsState old state image → HoldsState new state image
kept-on old new state image same k = record {
  layout = k.layout;
  kept = k.kept;
  limits = k.limits ∙ ap bounds_of (sym same.limits);
  items_are = same.items ∙ k.items_are;
  bytes_are = same.bytes ∙ k.bytes_are;
  few = k.few;
  open_objects = ap open_count same.handles ∙ k.open_objects;
  open_bytes = same.open_bytes ∙ k.open_bytes;
  names = λ name. subst (λ (bs : Bindings). IsBoundAs state k.layout (named_by state name) (binding_of bs name)) (sym same.handles) (k.names name);
  files = subst (λ (fs : BlockFiles). Agrees fs image) (sym same.files) k.files;
  mark = same.mark ∙ k.mark;
}

module _ (old new last : Cache) (told mid now : Told) (moment : ℕ) (request : Request) (number : ℕ) (stops : MayStopAtEach (HoldsState old) told mid moment request) where
  -- the note was not made
  pub not-noted : Stays mid now → ForKept (KeepsState old) told (IsStepped told now moment request number)
  not-noted stays image there state k = inl (subst (λ (t : Told). Passes told t (MayStop state moment request)) (sym stays) (stops image there state k.holds))

  module _ (answer : Answer) (does : Does (HoldsState old) (HoldsState new) told mid moment request answer) (note : Applies mid now (Note number ∷ [])) (same : OnlyNotesChange new last) where
    pub noted-does : Does (HoldsState old) (HoldsState last) told now moment request answer
    noted-does image there state k =
        let d : IsDone (HoldsState new) mid moment request answer state = does image there state k in
        record { answered = d.answered; kept = λ i here. kept-on new last (step state moment request).state i same (d.kept i (sym (same-files mid now number note) ∙ here)) }

    -- the magic word is as before
    still-finished : ForKept (KeepsState old) told (λ state. ForSome now.files HasMagic)
    still-finished image there state k i here =
        let made : Passes told mid (MayStop state moment request) = stops image there state k.holds in
        let words : KeepsSessionWords image i = commands-words-kept told mid made.steps made.quiet made.applies image there i (sym (same-files mid now number note) ∙ here) in
        words.magic ∙ k.finished

    -- so the state after the command is kept
    pub noted-keeps : ForKept (KeepsState old) told (λ state. ForSome now.files (KeepsState last (step state moment request).state))
    noted-keeps image there state k i here = record { holds = (noted-does image there state k.holds).kept i here; finished = still-finished image there state k i here }

    pub noted-ends : ForKept (KeepsState old) told (IsNoted told now moment request number)
    noted-ends image there state k =
        let p : Passes told mid (MayStop state moment request) = stops image there state k.holds in
        let d : IsDone (HoldsState new) mid moment request answer state = does image there state k.holds in
        record {
          steps = p.steps;
          quiet = p.quiet;
          applies = grows_then p.applies note;
          stops = p.along;
          stands = λ i here. let s : HoldsState new (step state moment request).state i = d.kept i (sym (same-files mid now number note) ∙ here) in kept-stands (step state moment request).state s.layout i s.kept (still-finished image there state k i here);
        }

    pub noted-steps : ForKept (KeepsState old) told (IsStepped told now moment request number)
    noted-steps image there state k = inr (noted-ends image there state k)

    -- a refusal makes the note alone
    pub refused-notes : (IsRefused answer → Stays told mid) → ForKept (KeepsState old) told (λ state. is_refused (step state moment request) ≡ true → Applies told now (Note number ∷ []))
    refused-notes quiet image there state k refused =
        let d : IsDone (HoldsState new) mid moment request answer state = does image there state k.holds in
        subst (λ (t : Told). Applies t now (Note number ∷ [])) (quiet (subst (λ (a : Answer). IsRefused a) (sym d.answered) refused)) note

    -- it is noted, and a refusal makes the note alone
    pub noted-alone : (IsRefused answer → Stays told mid) → ForKept (KeepsState old) told (NotesCommand told now (at_moment moment request) number)
    noted-alone quiet image there state k = record { noted = noted-ends image there state k; alone = refused-notes quiet image there state k }

-- and it makes no step where the note isn't made
pub quiet-spares : (old new : Cache) (told mid now : Told) (moment : ℕ) (request : Request) (answer : Answer) → Does (HoldsState old) (HoldsState new) told mid moment request answer
    → (IsRefused answer → Stays told mid) → Stays mid now → SparesRefused (HoldsState old) told now moment request
quiet-spares old new told mid now moment request answer does quiet stays image there state k refused =
    let d : IsDone (HoldsState new) mid moment request answer state = does image there state k in
    stays ∙ quiet (subst (λ (a : Answer). IsRefused a) (sym d.answered) refused)

-- and so does a Flush of a clean object, which stays before it
pub clean-notes : (cache : Cache) (told mid now : Told) (request : Request) (number : ℕ) → ForKept (HoldsState cache) told (λ state. FlushesClean state request → Stays told mid) → Applies mid now (Note number ∷ [])
    → ForKept (KeepsState cache) told (λ state. FlushesClean state request → Applies told now (Note number ∷ []))
clean-notes cache told mid now request number idle note image there state k settled = subst (λ (t : Told). Applies t now (Note number ∷ [])) (idle image there state k.holds settled) note

-- the folder is open still
pub open-on : (new last : Cache) (mid now : Told) → now.files ≡ mid.files → OnlyNotesChange new last → ForSome mid.files (IsOpen new.files) → ForSome now.files (IsOpen last.files)
open-on new last mid now same others opened image here = subst (λ (fs : BlockFiles). IsOpen fs image) (sym others.files) (opened image (sym same ∙ here))
