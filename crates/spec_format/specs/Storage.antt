-- The storage of data by its size: its kind, its number of blocks, and the address words that fit.
use Rattle.std.specs.Prelude.{ℕ, ◌+◌, ◌-◌, ◌/◌, Bool, ◌&&◌, ◌||◌, nat_lt, nat_le, ◌==◌, if◌then◌else◌}
use Rattle.spec_format.specs.Address.{kind_of, block_count, is_address, block_size, external, blocks_256, blocks_1k, blocks_4k}

-- the largest size of data in blocks of 256 bytes
abbrev pub largest_in_256 : ℕ
largest_in_256 = 1023

-- the largest size of data in blocks of 1024 bytes
abbrev pub largest_in_1k : ℕ
largest_in_1k = 4095

-- the largest size of data in blocks of 4096 bytes; larger data is external
abbrev pub largest_in_4k : ℕ
largest_in_4k = 16384

-- the kind of data of a size above 0
unfoldable pub kind_for : ℕ → ℕ
kind_for size =
    if nat_le size largest_in_256 then blocks_256 else
    if nat_le size largest_in_1k then blocks_1k else
    if nat_le size largest_in_4k then blocks_4k else
    external

-- a number of bytes divided by the size of a block, rounded up
abbrev pub divided_up : ℕ → ℕ → ℕ
divided_up size block = (size + block - 1) / block

-- the number of blocks of data of a size above 0, and 0 where the data is in an external file
unfoldable pub blocks_for : ℕ → ℕ
blocks_for size = if kind_for size == external then 0 else divided_up size (block_size (kind_for size))

-- the bytes that an entry record of one block has for its key
abbrev pub key_place_bytes : ℕ
key_place_bytes = 160

-- the longest key that lies in its entry record
abbrev pub longest_short_key : ℕ
longest_short_key = 927

-- the number of blocks of an entry record whose key has so many bytes; one whose key lies elsewhere, being longer than 927 bytes, has one block
unfoldable pub entry_blocks : ℕ → ℕ
entry_blocks key_len =
    if nat_lt key_len key_place_bytes then 1 else
    if nat_le key_len longest_short_key then (key_len - key_place_bytes) / 256 + 2 else
    1

-- whether a word is the storage of data of a size: the word 0 of none, else an address of its kind and number of blocks
unfoldable pub is_storage : ℕ → ℕ → Bool
is_storage size w =
    if size == 0 then w == 0 else
    is_address w && (kind_of w == kind_for size) && ((kind_of w == external) || (block_count w == blocks_for size))
