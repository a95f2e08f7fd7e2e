-- The counts that a call counter in memory keeps, as a value of the specs.
use Rattle.std.specs.Prelude.{ℕ, map}
use Rattle.blk_io.specs.declared.calls.Listed.{Listed}
use Rattle.blk_io.specs.declared.calls.Calls.{Calls}
use Rattle.blk_io.specs.Counts.{CallCounts}

-- the number of a call that is listed to fail, and how many words of it are written all the same
abbrev pub pair_of : Listed → ℕ × ℕ
pair_of one = (one.call, one.words)

-- the counts of a call counter, with the calls that are listed to fail
abbrev pub counts_in : Calls → CallCounts
counts_in calls = record { calls = calls.made; lacks = calls.lacks; faults = calls.faults; listed = map pair_of calls.listed.items }
