-- How a step ends after its note, in the reply.
use Rattle.std.proofs.Common.{◌≡◌, ◌∙◌, ◌⊎◌, inl, inr, ℕ, List, Option, None, Some, Result, Ok, Err, refl, sym, ap, subst}
use Rattle.std.specs.Prelude.{IsErrAnd}
use Rattle.std.specs.Option.{ForSome}
use Rattle.std.proofs.lemmas.Result.{err_from_is_err_and}
use Rattle.spec_image.specs.Image.{Image}
use Rattle.spec_image.specs.Told.{Told}
use Rattle.blk_io.specs.declared.fault.Damage.{Damage}
use Rattle.blk_io.specs.declared.fault.Fault.{Fault}
use Rattle.blk_io.specs.declared.fault.Fault.TheVariants as fault
use Rattle.blk_io.specs.Faults.{IfDamaged}
use Rattle.blk_model.specs.Request.{Request}
use Rattle.blk_model.specs.State.{State}
use Rattle.blk_disk.specs.declared.tables.BlockFiles.{BlockFiles}
use Rattle.blk_disk.specs.Open.{IsOpen}
use Rattle.law_state.specs.Commands.{ForKept}
use Rattle.spec_run.specs.Progress.{NotesCommand}
use Rattle.spec_run.specs.Run.{at_moment}
use Rattle.blk_cache.specs.declared.cache.Cache.{Cache}
use Rattle.blk_cache.specs.declared.fault.StepFault.{StepFault}
use Rattle.blk_cache.specs.declared.fault.StepFault.TheVariants as step_fault
use Rattle.blk_cache.specs.CacheKeeping.{KeepsState, HoldsState}
use Rattle.blk_cache.specs.Listing.{OnlyRoomChanges}
use Rattle.blk_cache.specs.CommandClauses.{SparesRefused}
use Rattle.blk_cache.specs.Stepping.{FailsBefore, IfStepDamaged, IfStepDevice, SaysPrefix, of_step_fault}
use Rattle.blk_cache.proofs.Replies.{kept-still}

-- ---- faults that are handed on

pub damaged-on : {A B : Type 0} (r : Result A Fault) (q : Result B StepFault) (e : Fault) (P : Damage → Type 0) → r ≡ Err e → IsErrAnd q (λ (x : StepFault). x ≡ of_step_fault e) → IfDamaged r P → IfStepDamaged q P
damaged-on {A} {B} r q e P was is holds =
    let p = err_from_is_err_and q is in
    subst (λ (s : Result B StepFault). IfStepDamaged s P) (sym (p.1 ∙ ap (λ (x : StepFault). Err x) p.2)) (by_fault e (subst (λ (s : Result A Fault). IfDamaged s P) was holds))
  where
    by_fault : (e : Fault) → IfDamaged {A = A} (Err e) P → IfStepDamaged {A = B} (Err (of_step_fault e)) P
    by_fault fault.Device h = tt
    by_fault (fault.Damaged damage) h = h

-- what holds in any case
pub any-damaged : {B : Type 0} (q : Result B StepFault) (P : Type 0) → P → IfStepDamaged q (λ _. P)
any-damaged (Ok b) P h = tt
any-damaged (Err step_fault.Device) P h = tt
any-damaged (Err step_fault.Sink) P h = tt
any-damaged (Err (step_fault.Damaged damage)) P h = h

pub any-device : {B : Type 0} (q : Result B StepFault) (P : Type 0) → P → IfStepDevice q P
any-device (Ok b) P h = tt
any-device (Err step_fault.Device) P h = h
any-device (Err step_fault.Sink) P h = tt
any-device (Err (step_fault.Damaged damage)) P h = tt

-- a folder is opaque or observable
pub by-files : (P : Type 0) (files : Option Image) → (files ≡ None → P) → ((image : Image) → files ≡ Some image → P) → P
by-files P None none some = none refl
by-files P (Some image) none some = some image refl

-- ---- the state after the reply

module _ (noted last : Cache) (mid now : Told) (others : OnlyRoomChanges noted last) (stays : now ≡ mid) where
  pub kept-behind : (state : State) → ForSome mid.files (KeepsState noted state) → ForSome now.files (KeepsState last state)
  kept-behind state kept image here =
      let k : KeepsState noted state image = kept image (ap (λ (t : Told). t.files) (sym stays) ∙ here) in
      record { holds = kept-still noted last state image others k.holds; finished = k.finished }

  pub open-behind : ForSome mid.files (IsOpen noted.files) → ForSome now.files (IsOpen last.files)
  open-behind is_open image here = subst (λ (fs : BlockFiles). IsOpen fs image) (sym others.files) (is_open image (ap (λ (t : Told). t.files) (sym stays) ∙ here))

-- ---- where the folder fails

module _ {A : Type 0} (result : Result A StepFault) (cache : Cache) (told now : Told) (moment : ℕ) (request : Request) (number : ℕ) (old new : Option (List ℕ)) where
  abbrev pub Unanswered : Type 0
  Unanswered = IfStepDevice result (FailsBefore (KeepsState cache) told now moment request old new ⊎ ForKept (KeepsState cache) told (NotesCommand told now (at_moment moment request) number))

  -- before the note nothing of the reply is printed
  pub failed-before : SaysPrefix (HoldsState cache) told moment request old new → SparesRefused (HoldsState cache) told now moment request → Unanswered
  failed-before front spares =
      any-device result (FailsBefore (KeepsState cache) told now moment request old new ⊎ ForKept (KeepsState cache) told (NotesCommand told now (at_moment moment request) number))
      (inl (record { says = λ image there state k. front image there state k.holds; spares = λ image there state k. spares image there state k.holds }))

  -- and after it the command is noted
  pub failed-behind : ForKept (KeepsState cache) told (NotesCommand told now (at_moment moment request) number) → Unanswered
  failed-behind noted = any-device result (FailsBefore (KeepsState cache) told now moment request old new ⊎ ForKept (KeepsState cache) told (NotesCommand told now (at_moment moment request) number)) (inr noted)
