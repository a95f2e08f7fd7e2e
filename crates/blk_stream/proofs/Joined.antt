-- Two calls, one after the other.
use Rattle.std.proofs.Common.{◌≡◌, Option, Some, sym, ◌∙◌, ap, subst}
use Rattle.std.specs.Option.{option_map, ForSome}
use Rattle.spec_image.specs.Image.{Image}
use Rattle.spec_image.specs.Steps.{after}
use Rattle.spec_image.specs.Told.{Told, Passes}
use Rattle.spec_image.proofs.Runs.{passes_end, passes_then, some_inj}

-- what holds of the observed files
pub told_is : {files : Option Image} (P : Image → Type 0) (from : Image) → files ≡ Some from → P from → ForSome files P
told_is {files} P from there holds image here = subst P (some_inj (sym there ∙ here)) holds

-- the observed image, and what holds of it
pub record IsTold (m : Told) (P : Image → Type 0) : Type 0 where
  pub image : Image
  pub is : m.files ≡ Some image
  pub holds : P image

pub told_then : (a m : Told) (from : Image) (P : Image → Type 0) → a.files ≡ Some from → Passes a m P → IsTold m P
told_then a m from P there passes = record { image = after passes.steps from; is = is; holds = passes_end passes (after passes.steps from) is }
  where
    is : m.files ≡ Some (after passes.steps from)
    is = passes.applies.files ∙ ap (option_map (after passes.steps)) there

-- what holds at each word of the first, and at each of the second
pub then_passes : (a m b : Told) (from : Image) (P : Image → Type 0) → a.files ≡ Some from → Passes a m P → ((mid : Image) → m.files ≡ Some mid → P mid → Passes m b P) → Passes a b P
then_passes a m b from P there one other = let mid = told_then a m from P there one in passes_then one (other mid.image mid.is mid.holds)

-- what holds after the second, by what holds between them
pub then_ends : (a m b : Told) (P R : Image → Image → Type 0) (Q : Image → Image → Type 0) → ForSome a.files (λ from. Passes a m (P from)) → ForSome m.files (λ mid. ForSome b.files (Q mid))
    → ((from mid image : Image) → a.files ≡ Some from → m.files ≡ Some mid → P from mid → Q mid image → R from image) → ForSome a.files (λ from. ForSome b.files (R from))
then_ends a m b P R Q one other join from there image now =
    let mid = told_then a m from (P from) there (one from there) in
    join from mid.image image there mid.is mid.holds (other mid.image mid.is image now)
