-- How an input asks.
use Rattle.std.specs.Prelude.{ℕ, Bool, false, List}
use Rattle.spec_run.specs.Lines.{lines, whole_lines}
use Rattle.spec_run.specs.Script.{Script, session_script}

-- how an input is read as a script: the script of the whole of it; that of its first bytes, where no more was read; and whether it breaks off inside something
-- that isn't played
pub record Protocol : Type 0 where
  pub whole : List ℕ → Script
  pub taken : List ℕ → Script
  pub breaks_off : List ℕ → Bool

-- an input that is read by its lines: where it was read to its end, a last line without an end is played too, and else only the lines with an end
abbrev pub by_lines : Protocol
by_lines = record { whole = λ bytes. session_script 1 (lines bytes); taken = λ bytes. session_script 1 (whole_lines bytes); breaks_off = λ bytes. false }
