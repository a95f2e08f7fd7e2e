-- A fault that `?` hands on, and what only an opaque folder does.
use Rattle.std.proofs.Common.{◌≡◌, Option, None, Some, Result, Ok, Err, List, refl, sym, ◌∙◌, ap, subst}
use Rattle.std.specs.Prelude.{IsErrAnd}
use Rattle.std.specs.Option.{ForSome, option_map}
use Rattle.spec_image.specs.Image.{Image}
use Rattle.spec_image.specs.Steps.{TrailStep, after}
use Rattle.spec_image.specs.Told.{Told, AppliesPrefix}
use Rattle.blk_io.specs.declared.fault.Damage.{Damage}
use Rattle.blk_io.specs.declared.fault.Fault.{Fault}
use Rattle.blk_io.specs.declared.fault.Fault.TheVariants.{Device, Damaged}
use Rattle.blk_io.specs.Faults.{IfDamaged}

pub carried : {A B : Type 0} (r : Result A Fault) (q : Result B Fault) (e : Fault) (P : Damage → Type 0) → r ≡ Err e → IsErrAnd q (λ (x : Fault). x ≡ e) → IfDamaged r P → IfDamaged q P
carried {A} {B} r (Ok b) e P is same holds = tt
carried {A} {B} r (Err x) e P is same holds =
    let at : IfDamaged {A = A} (Err e) P = subst (λ (s : Result A Fault). IfDamaged s P) is holds in
    subst (λ (y : Fault). IfDamaged {A = B} (Err y) P) (sym same) (of_fault e at)
  where
    of_fault : (e : Fault) → IfDamaged {A = A} (Err e) P → IfDamaged {A = B} (Err e) P
    of_fault Device at = tt
    of_fault (Damaged damage) at = at

-- what a failed check says under a premise
pub if_damaged : {A : Type 0} (r : Result A Fault) (B : Type 0) (P : Damage → Type 0) → (B → IfDamaged r P) → IfDamaged r (λ damage. B → P damage)
if_damaged {A} (Ok a) B P holds = tt
if_damaged {A} (Err Device) B P holds = tt
if_damaged {A} (Err (Damaged damage)) B P holds = holds

-- what a failed check says, from what it says
pub if_damaged_weaker : {A : Type 0} (r : Result A Fault) (P Q : Damage → Type 0) → ((damage : Damage) → P damage → Q damage) → IfDamaged r P → IfDamaged r Q
if_damaged_weaker {A} (Ok a) P Q weaker holds = tt
if_damaged_weaker {A} (Err Device) P Q weaker holds = tt
if_damaged_weaker {A} (Err (Damaged damage)) P Q weaker holds = weaker damage holds

-- only an opaque folder does what is impossible for one that is observable
pub untold_where : (files : Option Image) → ForSome files (λ image. ⊥) → files ≡ None
untold_where None never = refl
untold_where (Some image) never = absurd (never image refl)

-- a part of some steps leaves an opaque folder opaque
pub silent_part : {a b : Told} {s : List TrailStep} → AppliesPrefix a b s → a.files ≡ None → b.files ≡ None
silent_part {a} {b} {s} part none = part.applies.files ∙ ap (option_map (after part.made)) none

-- what holds of the files at the end, where they are observed at the start and an opaque folder stays opaque
pub told_at_end : (old new : Option Image) (P : Image → Type 0) → (old ≡ None → new ≡ None) → ForSome old (λ from. ForSome new P) → ForSome new P
told_at_end None new P silent holds image there = absurd (clash (sym (silent refl) ∙ there))
  where
    clash : None ≡ Some image → ⊥
    clash e = cc
told_at_end (Some from) new P silent holds image there = holds from refl image there
