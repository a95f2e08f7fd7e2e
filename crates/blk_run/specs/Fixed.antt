-- A fixed script that is played command by command.
use Rattle.std.specs.Prelude.{ℕ, ◌≡◌, List, ◌++◌}
use Rattle.std.specs.Option.{ForSome}
use Rattle.spec_image.specs.Image.{Image}
use Rattle.blk_io.specs.Streams.{Readings}
use Rattle.blk_model.specs.declared.Answer.{Answer}
use Rattle.blk_model.specs.declared.Answer.TheVariants as answer
use Rattle.blk_model.specs.State.{State}
use Rattle.spec_run.specs.Run.{Turn, clock_after, commands_of, readings_of}
use Rattle.blk_run.specs.Playing.{Around, AreMade, SoFar, state_now, with_more}

-- the iterations of `whole` are those that were made, and then those of `rest` from the state and the clock after them
abbrev pub GoOn : (whole rest : State → Readings → List Turn) → List Turn → SoFar → Readings → Type 0
GoOn whole rest made far clock = whole (state_now far) clock ≡ made ++ rest (state_now (with_more far (commands_of made))) (clock_after clock (readings_of made))

-- a script was played up to the part of it that is left (`rest`)
pub record PlaysUpTo (whole rest : State → Readings → List Turn) (far : SoFar) (keeps : State → Image → Type 0) (notes left : ℕ) (old new : Around) : Type 0 where
  pub made : List Turn
  pub are : ForSome old.clock (GoOn whole rest made far)
  pub plays : AreMade made far keeps notes left old new

-- what a script does with the answer to an Open: a refusal stays, any other is Done
abbrev pub opened_answer : Answer → Answer
opened_answer (answer.Refused why) = answer.Refused why
opened_answer _ = answer.Done
