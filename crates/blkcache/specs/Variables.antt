-- What the variables of the environment say.
use Rattle.std.specs.Prelude.{ℕ, ◌==◌, Bool, true, false, if◌then◌else◌, Option, Some, None}

-- no by 0 and yes by 1
abbrev pub switch_of : ℕ → Option Bool
switch_of n = if n == 0 then Some false else if n == 1 then Some true else None
