-- Steps that are made in parts, one part after another.
use Rattle.std.specs.Prelude.{◌≡◌, List, ◌++◌}
use Rattle.spec_image.specs.Image.{Image}
use Rattle.spec_image.specs.Steps.{TrailStep, after}
use Rattle.spec_image.specs.Told.{Told, Applies}

-- the steps are exactly those that `asked` gives for the image
abbrev pub Exactly : (Image → List TrailStep) → Image → List TrailStep → Type 0
Exactly asked image steps = steps ≡ asked image

-- the steps are those of a first kind, and then those of a second kind on the image that the first leave
pub record InTurn (first second : Image → List TrailStep → Type 0) (image : Image) (steps : List TrailStep) : Type 0 where
  pub front : List TrailStep
  pub behind : List TrailStep
  pub joined : steps ≡ front ++ behind
  pub front_is : first image front
  pub behind_is : second (after front image) behind

-- the steps that were made on image `from` are of this kind
pub record AppliesOf (kind : Image → List TrailStep → Type 0) (from : Image) (old new : Told) : Type 0 where
  pub steps : List TrailStep
  pub applies : Applies old new steps
  pub are : kind from steps
