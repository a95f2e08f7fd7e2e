-- What contracts see of an output in memory that holds back what it gets.
use Rattle.std.specs.Prelude.{ℕ, List}
use Rattle.blk_io.specs.declared.holding.HoldingSink.{HoldingSink}
use Rattle.blk_io.specs.Calls.{counts_in}
use Rattle.blk_io.specs.Counts.{CallCounts}

-- the bytes that were written to it, handed on or not
abbrev pub held_written : HoldingSink → List ℕ
held_written sink = sink.bytes.items

-- the counts of the flushes, and those that are listed to fail
abbrev pub held_counts : HoldingSink → CallCounts
held_counts sink = counts_in sink.flushes
