-- The costs of items.
use Rattle.std.specs.Prelude.{ℕ, ◌+◌, false, List, ◌++◌, length, codes}
use Rattle.std.specs.Fmt.{digits}
use Rattle.blk_model.specs.Sizes.{parts_index_charge, blocks_index_charge}
use Rattle.blk_model.specs.Items.{Shape, Streams, plain, sparse, PartValue}

-- the name of a part of a sparse object: its parent's key, and the generation and the number in lower-case hexadecimal
unfoldable pub part_name : List ℕ → ℕ → ℕ → List ℕ
part_name key signature n = codes "Range_" ++ key ++ codes ":" ++ digits 16 false signature ++ codes ":" ++ digits 16 false n

-- the cost of a main item: the bytes of its key and of its streams, where a sparse object has the index of its parts in place of streams 1 and 2
abbrev pub main_charge : List ℕ → Shape → Streams → ℕ
main_charge key plain streams = length key + length streams.0 + length streams.1 + length streams.2
main_charge key (sparse signature) streams = length key + length streams.0 + parts_index_charge

-- the cost of a part: the bytes of its name, of its data and of the index of its blocks
abbrev pub part_charge : List ℕ → ℕ → ℕ → PartValue → ℕ
part_charge key signature n value = length (part_name key signature n) + length value.bytes + blocks_index_charge
