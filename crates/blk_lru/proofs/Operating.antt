-- What a whole operation leaves, and what a part of it does.
use Rattle.std.proofs.Common.{◌≡◌, List, None, Some, Result, sym, ap, ◌∙◌, subst}
use Rattle.std.specs.Prelude.{OnOk}
use Rattle.std.specs.Option.{ForSome, option_map}
use Rattle.std.proofs.lemmas.Result.{on_ok_weaker}
use Rattle.spec_image.specs.Image.{Image}
use Rattle.spec_image.specs.Steps.{TrailStep, after}
use Rattle.spec_image.specs.Told.{Told, Along, Applies, AppliesPrefix, Passes, IsQuiet}
use Rattle.spec_image.proofs.Runs.{passes_none, passes_part, some_inj}
use Rattle.spec_folder.specs.ListView.{ListWrite}
use Rattle.spec_folder.specs.ListSteps.{steps_of_writes}
use Rattle.spec_folder.specs.ListImages.{CanBeMade}
use Rattle.blk_io.specs.declared.fault.Fault.{Fault}
use Rattle.blk_io.specs.Faults.{IfDamaged}

-- a call that wrote nothing leaves what holds before it
pub passes_stay : (old now : Told) (from : Image) (P : Image → Type 0) → old.files ≡ Some from → now ≡ old → P from → Passes old now P
passes_stay old now from P there stays holds = passes_none P stays (λ image here. subst P (some_inj (sym there ∙ here)) holds)

-- a call whose steps are these, or a part of them
module _ (old now : Told) (from : Image) (there : old.files ≡ Some from) (steps : List TrailStep) where
  -- what holds after all of them
  pub all_made : (P : Image → Type 0) → Applies old now steps → P (after steps from) → ForSome now.files P
  all_made P grows holds image here = subst P (some_inj (sym (grows.files ∙ ap (option_map (after steps)) there) ∙ here)) holds

  module _ (quiet : IsQuiet steps) (part : AppliesPrefix old now steps) where
    -- what holds at each of them
    pub part_passes : (P : Image → Type 0) → Along P from steps → Passes old now P
    part_passes P along = passes_part P P part quiet (λ image p. p) (λ image here. subst (λ (i : Image). Along P i steps) (some_inj (sym there ∙ here)) along)

-- what was written is the plan of the image
module _ (a m b : Told) (stays : m ≡ a) (ws : List ListWrite) (plan : Image → List ListWrite) (is : ForSome a.files (λ from. ws ≡ plan from)) where
  pub whole_as : {T E : Type 0} (r : Result T E) → OnOk r (ForSome m.files (λ from. Applies m b (steps_of_writes ws from))) → OnOk r (ForSome a.files (λ from. Applies a b (steps_of_writes (plan from) from)))
  whole_as r whole =
      on_ok_weaker r (λ grows from there. subst (λ (w : List ListWrite). Applies a b (steps_of_writes w from)) (is from there) (grows from there))
      (subst (λ (t : Told). OnOk r (ForSome t.files (λ from. Applies t b (steps_of_writes ws from)))) stays whole)

  pub part_as : ForSome m.files (λ from. AppliesPrefix m b (steps_of_writes ws from)) → ForSome a.files (λ from. AppliesPrefix a b (steps_of_writes (plan from) from))
  part_as part from there = subst (λ (w : List ListWrite). AppliesPrefix a b (steps_of_writes w from)) (is from there) (subst (λ (t : Told). ForSome t.files (λ from. AppliesPrefix t b (steps_of_writes ws from))) stays part from there)

  -- what Ok says of the nodes of the writes, and that only an opaque folder gives a failed check, hold from the start as well
  pub checked_as : {T E : Type 0} (r : Result T E) → OnOk r (ForSome m.files (λ from. CanBeMade from ws)) → OnOk r (ForSome a.files (λ from. CanBeMade from (plan from)))
  checked_as r checked =
      on_ok_weaker r (λ can from there. subst (CanBeMade from) (is from there) (can from there)) (subst (λ (t : Told). OnOk r (ForSome t.files (λ from. CanBeMade from ws))) stays checked)

  pub untold_as : {T : Type 0} (r : Result T Fault) → (ForSome m.files (λ from. CanBeMade from ws) → IfDamaged r (λ _. m.files ≡ None)) → ForSome a.files (λ from. CanBeMade from (plan from)) → IfDamaged r (λ _. a.files ≡ None)
  untold_as r untold can =
      let moved : ForSome a.files (λ from. CanBeMade from ws) → IfDamaged r (λ _. a.files ≡ None) =
      subst (λ (t : Told). ForSome t.files (λ from. CanBeMade from ws) → IfDamaged r (λ _. t.files ≡ None)) stays untold in
      moved (λ from there. subst (CanBeMade from) (sym (is from there)) (can from there))
