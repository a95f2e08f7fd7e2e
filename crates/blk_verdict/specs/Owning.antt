-- The addresses that an entry owns, as they are kept in memory.
use Rattle.std.specs.Prelude.{ℕ, List, take}
use Rattle.blk_verdict.specs.declared.owning.Owned.{Owned}

-- the most addresses that an entry owns: node, record, long key and four streams
abbrev pub most_owned : ℕ
most_owned = 7

-- the addresses that an entry owns, in order
abbrev pub addresses_owned : Owned → List ℕ
addresses_owned owned = take owned.count owned.addrs
