-- The numbers that the model rests on. A copy with smaller ones here is a smaller model of the same rules.
use Rattle.std.specs.Prelude.{ℕ, ◌/◌, ◌^◌, min}

-- a byte is below this
abbrev pub byte_values : ℕ
byte_values = 256

-- a key has at most this many bytes
abbrev pub longest_key : ℕ
longest_key = 32768

-- handle names are below this
abbrev pub handle_names : ℕ
handle_names = 4096

-- an object has this many streams, numbered from 0
abbrev pub stream_count : ℕ
stream_count = 3

-- a stream has at most the bytes that a cache may keep, divided by this
abbrev pub stream_share : ℕ
stream_share = 8

-- a stream has at most this many bytes, whatever a cache keeps
abbrev pub most_stream : ℕ
most_stream = 2147483647

-- the most bytes of a stream in a cache that keeps so many bytes
abbrev pub longest_stream : ℕ → ℕ
longest_stream most = min (most / stream_share) most_stream

-- space is made until the bytes that a cache may keep, divided by this, are free
abbrev pub free_share : ℕ
free_share = 16

-- a part of a sparse object has this many bytes
abbrev pub part_size : ℕ
part_size = 1048576

-- a block of a part has this many bytes
abbrev pub part_block_size : ℕ
part_block_size = 1024

-- a part has this many blocks
abbrev pub part_blocks : ℕ
part_blocks = 1024

-- the numbers of parts are below this
abbrev pub part_count : ℕ
part_count = 65536

-- the offset at which sparse data ends
abbrev pub largest_offset : ℕ
largest_offset = 68719476736

-- generations are below this
abbrev pub signatures : ℕ
signatures = 2 ^ 63

-- the cost of the index of the parts of a sparse object, in bytes
abbrev pub parts_index_charge : ℕ
parts_index_charge = 8256

-- the cost of the index of the blocks of a part, in bytes
abbrev pub blocks_index_charge : ℕ
blocks_index_charge = 192

-- a cache keeps at most this many bytes, whatever limit it is given
abbrev pub most_bytes : ℕ
most_bytes = 1099511627776

-- a cache keeps at most this many items, whatever limit it is given
abbrev pub most_items : ℕ
most_items = 131072
