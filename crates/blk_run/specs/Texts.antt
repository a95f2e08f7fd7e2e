-- The lines that are printed.
use Rattle.std.specs.Prelude.{ℕ, ◌≡◌, List, ◌++◌, codes, Option}
use Rattle.std.specs.Option.{option_map}
use Rattle.spec_image.specs.Checks.{Damage}
use Rattle.spec_image.specs.Told.{Rises}
use Rattle.blk_io.specs.Streams.{Appends}
use Rattle.blk_io.specs.Texts.{damage_text}

-- the usage
abbrev pub usage_text : List ℕ
usage_text = codes "usage\n"

-- a failed check, on a line
abbrev pub damage_line : Damage → List ℕ
damage_line damage = damage_text damage ++ codes "\n"

-- a text was printed, all of it unless the output failed, and then a prefix; `before` and `now` are the error counter of the output
pub record Prints (old new : Option (List ℕ)) (before now : ℕ) (text : List ℕ) : Type 0 where
  pub front : Appends old new text
  pub whole : (Rises before now → ⊥) → new ≡ option_map (λ (w : List ℕ). w ++ text) old
