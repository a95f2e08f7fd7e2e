-- The kinds of addresses, by the numbers that address words have for them.
use Rattle.std.specs.Prelude.{ℕ}
use Rattle.spec_format.specs.Address.{external, rankings, blocks_256, blocks_1k, blocks_4k}
use Rattle.blk_addr.specs.declared.kinds.Kind.{Kind}
use Rattle.blk_addr.specs.declared.kinds.Kind.TheVariants.{External, Rankings, B256, B1K, B4K}

-- the number of a kind in an address
abbrev pub kind_number : Kind → ℕ
kind_number External = external
kind_number Rankings = rankings
kind_number B256 = blocks_256
kind_number B1K = blocks_1k
kind_number B4K = blocks_4k
