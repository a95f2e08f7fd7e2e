-- Why a header is corrupt, in an opaque folder.
use Rattle.std.proofs.Common.{◌≡◌, ℕ, Bool, inl, inr, Option, None, Some, Result, Ok, Err, refl, sym, ◌∙◌, ⊎_elim}
use Rattle.std.specs.Option.{option_map}
use Rattle.spec_image.specs.Image.{Image}
use Rattle.spec_image.specs.Told.{Told}
use Rattle.spec_image.proofs.Runs.{some_inj}
use Rattle.blk_io.specs.declared.fault.Damage.{Damage}
use Rattle.blk_io.specs.declared.fault.Fault.{Fault}
use Rattle.blk_io.specs.declared.fault.Fault.TheVariants.{Device, Damaged}
use Rattle.blk_io.specs.Faults.{IfDamaged}
use Rattle.blk_alloc.specs.Owning.{IsCause}

none_some : {image : Image} → None ≡ Some image → ⊥
none_some {image} e = cc

-- a cause after some steps is one at the start, where the folder was opaque then
pub cause_before : (later before : Told) (n start count : ℕ) (used : Bool) (damage : Damage) → before.files ≡ None → IsCause later n start count used damage → IsCause before n start count used damage
cause_before later before n start count used damage none =
    ⊎_elim
    (λ short. inl (record { place = short.place; count = short.count; read = short.read; short = record { of_file = short.short.of_file; at_place = short.short.at_place; few = short.short.few; many = λ image there. absurd (none_some (sym none ∙ there)) } }))
    (λ why. inr (record { counters = why.counters; bytes = why.bytes; are = λ image there. absurd (none_some (sym none ∙ there)); of_map = λ image there. absurd (none_some (sym none ∙ there)); at_end = why.at_end }))

-- a folder that is opaque after some steps was opaque before
pub none_before : (f : Image → Image) (a b : Option Image) → b ≡ option_map f a → b ≡ None → a ≡ None
none_before f None b is none = refl
none_before f (Some image) b is none = absurd (none_some (sym none ∙ is))

pub if_damaged_both : {A : Type 0} (r : Result A Fault) (P Q R : Damage → Type 0) → ((damage : Damage) → P damage → Q damage → R damage) → IfDamaged r P → IfDamaged r Q → IfDamaged r R
if_damaged_both {A} (Ok a) P Q R both one other = tt
if_damaged_both {A} (Err Device) P Q R both one other = tt
if_damaged_both {A} (Err (Damaged damage)) P Q R both one other = both damage one other

-- files that are observed after some steps were observed before
pub told_before : (f : Image → Image) (a b : Option Image) (mid : Image) → b ≡ option_map f a → b ≡ Some mid → (from : Image) × (a ≡ Some from) × (mid ≡ f from)
told_before f None b mid is now = absurd (none_some (sym is ∙ now))
told_before f (Some from) b mid is now = (from, refl, some_inj (sym now ∙ is))
