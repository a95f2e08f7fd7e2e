-- What follows some steps.
use Rattle.std.proofs.Common.{◌≡◌, Some, ◌∙◌, ap}
use Rattle.std.specs.Option.{option_map}
use Rattle.spec_image.specs.Image.{Image}
use Rattle.spec_image.specs.Steps.{after}
use Rattle.spec_image.specs.Told.{Told, PassesTo}
use Rattle.spec_image.proofs.Runs.{passes_then, passes_end}

-- what follows some steps, from what they left
pub passes_on : {a b c : Told} {P Q : Image → Type 0} (from : Image) → a.files ≡ Some from → PassesTo a b P P → ((mid : Image) → b.files ≡ Some mid → P mid → PassesTo b c P Q) → PassesTo a c P Q
passes_on {a} {b} {c} {P} {Q} from there first second =
    let now : b.files ≡ Some (after first.steps from) = first.applies.files ∙ ap (option_map (after first.steps)) there in
    passes_then first (second (after first.steps from) now (passes_end first (after first.steps from) now))
