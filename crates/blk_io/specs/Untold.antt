-- What contracts see of an opaque folder.
use Rattle.std.specs.Prelude.{◌≡◌, None, Some}
use Rattle.spec_image.specs.Image.{Image}
use Rattle.spec_image.specs.Told.{Told, AgreesWithTrail, TellsBytes}

-- nothing is observable: neither files nor a write trace
abbrev pub untold : Told
untold = record { files = None; trail = None }

no_image : {P : Type 0} (image : Image) → None ≡ Some image → P
no_image image e = absurd (clash e)
  where
    clash : None ≡ Some image → ⊥
    clash c = cc

pub untold_agrees : AgreesWithTrail untold
untold_agrees image e = no_image image e

pub untold_bytes : TellsBytes untold
untold_bytes image e = no_image image e
