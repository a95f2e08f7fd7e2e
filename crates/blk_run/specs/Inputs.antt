-- The lines of an input are played, up to the input limit.
use Rattle.std.specs.Prelude.{ℕ, ◌≡◌, ◌≤◌, List, [], ◌∷◌, ◌++◌, length, Result, Ok, Err}
use Rattle.std.specs.Option.{ForSome}
use Rattle.std.specs.declared.option.Option.{Option}
use Rattle.std.specs.declared.option.Option.TheVariants.{Some}
use Rattle.spec_image.specs.Image.{Image}
use Rattle.blk_model.specs.State.{State}
use Rattle.spec_run.specs.Lines.{lines, whole_lines}
use Rattle.spec_run.specs.Script.{session_script}
use Rattle.spec_run.specs.Run.{turns}
use Rattle.blk_cache.specs.declared.fault.StepFault.{StepFault}
use Rattle.blk_run.specs.declared.input.InputEnd.{InputEnd}
use Rattle.blk_run.specs.declared.input.InputEnd.TheVariants as end
use Rattle.blk_run.specs.Playing.{Around, PlaysPart, SoFar}

-- the input was read to its end, and isn't longer than the input limit
pub record IsReadWhole (budget : ℕ) (input : List ℕ) (left : Option (List ℕ)) : Type 0 where
  pub within : length input ≤ budget
  pub none_left : left ≡ Some []

-- `bytes` were read of the input, no more than the input limit
pub record IsTaken (budget : ℕ) (input bytes : List ℕ) (left : Option (List ℕ)) : Type 0 where
  pub behind : List ℕ
  pub split : input ≡ bytes ++ behind
  pub left_is : left ≡ Some behind
  pub within : length bytes ≤ budget

-- `bytes`, as many as the input limit, were read of the input, and one byte more
pub record IsPastBudget (budget : ℕ) (input bytes : List ℕ) (left : Option (List ℕ)) : Type 0 where
  pub byte_more : ℕ
  pub behind : List ℕ
  pub split : input ≡ bytes ++ byte_more ∷ behind
  pub whole : length bytes ≡ budget
  pub left_is : left ≡ Some behind

-- at most `most` bytes of the input were read
abbrev pub IsTakenUpTo : ℕ → (left : Option (List ℕ)) → (input : List ℕ) → Type 0
IsTakenUpTo most left input = (bytes : List ℕ) × IsTaken most input bytes left

-- `most` bytes of the input were read, and one more
abbrev pub IsTakenPast : ℕ → (left : Option (List ℕ)) → (input : List ℕ) → Type 0
IsTakenPast most left input = (bytes : List ℕ) × IsPastBudget most input bytes left

-- where the answer is that the input failed, P holds; any other answer is fine
abbrev pub IfFailed : {E : Type 0} → Result InputEnd E → Type 0 → Type 0
IfFailed (Ok end.Failed) P = P
IfFailed (Ok end.Whole) P = Unit {0}
IfFailed (Ok end.TooLong) P = Unit {0}
IfFailed (Err why) P = Unit {0}

-- where the answer is that the input is longer than the input limit, P holds; any other answer is fine
abbrev pub IfTooLong : {E : Type 0} → Result InputEnd E → Type 0 → Type 0
IfTooLong (Ok end.TooLong) P = P
IfTooLong (Ok end.Whole) P = Unit {0}
IfTooLong (Ok end.Failed) P = Unit {0}
IfTooLong (Err why) P = Unit {0}

-- which lines were played: all of the input; the complete ones among the bytes that were read; or, at an error, a prefix of them
abbrev pub ArePlayedOf : Result InputEnd StepFault → (budget : ℕ) → (input taken : List ℕ) → (left : Option (List ℕ)) → (texts : List (List ℕ)) → Type 0
ArePlayedOf (Ok end.Whole) budget input taken left texts = IsReadWhole budget input left × (texts ≡ lines input)
ArePlayedOf (Ok end.Failed) budget input taken left texts = IsTaken budget input taken left × (texts ≡ whole_lines taken)
ArePlayedOf (Ok end.TooLong) budget input taken left texts = IsPastBudget budget input taken left × (texts ≡ whole_lines taken)
ArePlayedOf (Err why) budget input taken left texts = (more : List (List ℕ)) × (lines input ≡ texts ++ more)

-- the lines of an input were played, as many as the answer says
pub record PlaysInput (result : Result InputEnd StepFault) (budget : ℕ) (input left : Option (List ℕ)) (far : SoFar) (keeps : State → Image → Type 0) (notes spare : ℕ) (old new : Around) : Type 0 where
  pub taken : List ℕ
  pub texts : List (List ℕ)
  pub of : ForSome input (λ bytes. ArePlayedOf result budget bytes taken left texts)
  pub part : PlaysPart result (λ state clock. turns (session_script 1 texts) state clock) far keeps notes spare old new
