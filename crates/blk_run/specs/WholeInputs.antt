-- The read of a whole input, for `put`.
use Rattle.std.specs.Prelude.{ℕ, ◌≡◌, ◌≤◌, List, [], length, take, drop, Result, Ok, Err}
use Rattle.std.specs.Option.{ForSome}
use Rattle.std.specs.declared.option.Option.{Option}
use Rattle.std.specs.declared.option.Option.TheVariants.{Some}
use Rattle.blk_run.specs.declared.whole_input.InputFault.{InputFault}
use Rattle.blk_run.specs.declared.whole_input.InputFault.TheVariants as fault
use Rattle.blk_run.specs.Inputs.{IsTakenPast, IsTakenUpTo}

-- the most bytes that `put` writes
abbrev pub longest_input : ℕ
longest_input = 1048576

-- the whole input, `bytes`, is at the front of the buffer, and none of it is left
pub record IsWholeInBuffer (len : ℕ) (left : Option (List ℕ)) (buffer bytes : List ℕ) : Type 0 where
  pub are : take len buffer ≡ bytes
  pub within : len ≤ longest_input
  pub none_left : left ≡ Some []

-- the outcome of reading a whole input: it is in the buffer; or it is too long, and one byte too many was read; or the input failed, after no more than it may
-- have
abbrev pub Reads : Result ℕ InputFault → (old new : Option (List ℕ)) → (buffer : List ℕ) → Type 0
Reads (Ok len) old new buffer = (len ≤ longest_input) × ForSome old (IsWholeInBuffer len new buffer)
Reads (Err fault.TooLong) old new buffer = ForSome old (IsTakenPast longest_input new)
Reads (Err fault.Source) old new buffer = ForSome old (IsTakenUpTo longest_input new)

-- where the answer is that the input failed, P holds; any other answer is fine
abbrev pub IfSource : Result ℕ InputFault → Type 0 → Type 0
IfSource (Err fault.Source) P = P
IfSource (Err fault.TooLong) P = Unit {0}
IfSource (Ok len) P = Unit {0}

-- the first `len` bytes of the input are at the front of the buffer, and the others are left
pub record IsTakenSoFar (len : ℕ) (left : Option (List ℕ)) (buffer bytes : List ℕ) : Type 0 where
  pub are : take len buffer ≡ take len bytes
  pub within : len ≤ length bytes
  pub left_is : left ≡ Some (drop len bytes)
