-- What contracts see of an input, an output and a clock in memory, and the counts of their calls.
use Rattle.std.specs.Prelude.{ℕ, List, drop}
use Rattle.blk_io.specs.declared.mem_streams.MemSource.{MemSource}
use Rattle.blk_io.specs.declared.mem_streams.MemSink.{MemSink}
use Rattle.blk_io.specs.declared.mem_streams.ListClock.{ListClock}
use Rattle.blk_io.specs.Calls.{counts_in}
use Rattle.blk_io.specs.Clock.{readings_from}
use Rattle.blk_io.specs.Counts.{CallCounts}
use Rattle.blk_io.specs.Streams.{Readings}

-- the bytes that are still to be read from an input
abbrev pub source_left : MemSource → List ℕ
source_left source = drop source.at source.bytes.items

-- the counts of the calls on an input, and those that are listed to fail
abbrev pub source_counts : MemSource → CallCounts
source_counts source = counts_in source.calls

-- the bytes that were written to an output
abbrev pub sink_written : MemSink → List ℕ
sink_written sink = sink.bytes.items

-- the counts of the calls on an output, and those that are listed to fail
abbrev pub sink_counts : MemSink → CallCounts
sink_counts sink = counts_in sink.puts

-- the readings of a clock that are still to come, and the last one, which is repeated after them
abbrev pub clock_readings : ListClock → Readings
clock_readings clock = readings_from clock.readings.items clock.at
