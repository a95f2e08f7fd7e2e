-- The table of command words in the program, and that of the language.
use Rattle.std.specs.Prelude.{ℕ, List, Option, Some, None, Result, Err}
use Rattle.std.specs.Borrow.{Bor}
use Rattle.blk_model.specs.Request.{Request}
use Rattle.blk_script.specs.declared.fault.LineFault.{LineFault}
use Rattle.blk_script.specs.declared.fault.LineFault.TheVariants as fault
use Rattle.blk_script.specs.declared.words.Word.{Word}
use Rattle.blk_script.specs.Line.{reading}

-- the request that the fields after a word give, or UnknownWord where the table has no such word
abbrev pub by_known : Option Word → List (List ℕ) → Result Request LineFault
by_known (Some word) fields = reading word fields
by_known None fields = Err fault.UnknownWord

-- an entry of the program's table as one of the language's
abbrev pub word_line : Bor (List ℕ) × Word → List ℕ × (List (List ℕ) → Result Request LineFault)
word_line entry = (entry.0.now, reading entry.1)
