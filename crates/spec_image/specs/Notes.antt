-- What holds at each step of a run in which commands are noted.
use Rattle.std.specs.Prelude.{ℕ, ◌+◌, ◌≡◌, List, [], ◌∷◌, ◌++◌}
use Rattle.spec_image.specs.Image.{Image}
use Rattle.spec_image.specs.Steps.{TrailStep, Note, applied, after}

-- before each of some steps and after the last, P holds of the list of all steps made until then, the earlier ones included, and of the image then
abbrev pub AlongFrom : (List TrailStep → Image → Type 0) → List TrailStep → Image → List TrailStep → Type 0
AlongFrom P made image [] = P made image
AlongFrom P made image (step ∷ steps) = P made image × AlongFrom P (made ++ step ∷ []) (applied step image) steps

-- P holds of each prefix of the steps, the empty one and the whole included, with the image after that prefix
abbrev pub AtEachPrefix : (List TrailStep → Image → Type 0) → Image → List TrailStep → Type 0
AtEachPrefix P image steps = (prefix suffix : List TrailStep) → steps ≡ prefix ++ suffix → P prefix (after prefix image)

-- the number of completion markers among some steps
abbrev pub notes_in : List TrailStep → ℕ
notes_in [] = 0
notes_in (Note number ∷ steps) = 1 + notes_in steps
notes_in (step ∷ steps) = notes_in steps

-- the completion markers among some steps carry the numbers n + 1, n + 2 and so on, in turn
abbrev pub AreTrue : ℕ → List TrailStep → Type 0
AreTrue n [] = Unit {0}
AreTrue n (Note number ∷ steps) = (number ≡ n + 1) × AreTrue (n + 1) steps
AreTrue n (step ∷ steps) = AreTrue n steps
