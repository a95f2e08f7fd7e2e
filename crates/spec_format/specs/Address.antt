-- Address words: 32 bits that name blocks of a block file or an external file.
use Rattle.std.specs.Prelude.{ℕ, ◌+◌, ◌-◌, ◌*◌, ◌/◌, ◌%◌, ◌^◌, Bool, not, ◌&&◌, ◌||◌, nat_le, ◌==◌, if◌then◌else◌}

-- bit 0x80000000: the word is initialized
unfoldable pub is_initialized : ℕ → Bool
is_initialized w = w / 2 ^ 31 == 1

-- bits 0x70000000: the kind
unfoldable pub kind_of : ℕ → ℕ
kind_of w = w / 2 ^ 28 % 8

-- bits 0x0C000000: reserved, in the block kinds
unfoldable pub reserved_bits : ℕ → ℕ
reserved_bits w = w / 2 ^ 26 % 4

-- bits 0x03000000: the number of blocks, minus 1
unfoldable pub block_count : ℕ → ℕ
block_count w = w / 2 ^ 24 % 4 + 1

-- bits 0x00FF0000: the file selector, the N of data_N
unfoldable pub file_selector : ℕ → ℕ
file_selector w = w / 2 ^ 16 % 256

-- bits 0x0000FFFF: the first block
unfoldable pub first_block : ℕ → ℕ
first_block w = w % 2 ^ 16

-- bits 0x0FFFFFFF: the external number, in kind 0
unfoldable pub external_number : ℕ → ℕ
external_number w = w % 2 ^ 28

-- kind 0: external files
abbrev pub external : ℕ
external = 0

-- kind 1: rankings nodes
abbrev pub rankings : ℕ
rankings = 1

-- kind 2: blocks of 256 bytes
abbrev pub blocks_256 : ℕ
blocks_256 = 2

-- kind 3: blocks of 1024 bytes
abbrev pub blocks_1k : ℕ
blocks_1k = 3

-- kind 4: blocks of 4096 bytes
abbrev pub blocks_4k : ℕ
blocks_4k = 4

-- a kind 1 to 4, whose addresses name blocks
abbrev pub is_block_kind : ℕ → Bool
is_block_kind kind = nat_le rankings kind && nat_le kind blocks_4k

-- the word is of kind 0, and its number isn't 0
unfoldable pub names_external : ℕ → Bool
names_external w = (kind_of w == external) && not (external_number w == 0)

-- the word is of a block kind, its reserved bits are 0, its blocks lie in one group of four, and in kind 1 there is one block
unfoldable pub names_blocks : ℕ → Bool
names_blocks w =
    is_block_kind (kind_of w)
    && (reserved_bits w == 0)
    && nat_le (first_block w % 4 + block_count w) 4
    && (not (kind_of w == rankings) || (block_count w == 1))

-- a word is an address where it is initialized and names an external file or blocks
unfoldable pub is_address : ℕ → Bool
is_address w = is_initialized w && (names_external w || names_blocks w)

-- the address word of so many blocks of a kind in a file, from a first block on
unfoldable pub block_word : ℕ → ℕ → ℕ → ℕ → ℕ
block_word kind file start count = 2 ^ 31 + kind * 2 ^ 28 + (count - 1) * 2 ^ 24 + file * 2 ^ 16 + start

-- the address word of the external file of a number
unfoldable pub external_word : ℕ → ℕ
external_word number = 2 ^ 31 + number

-- the size in bytes of one block of a kind
unfoldable pub block_size : ℕ → ℕ
block_size kind =
    if kind == rankings then 36 else
    if kind == blocks_256 then 256 else
    if kind == blocks_1k then 1024 else
    4096

-- the size in bytes of a block file's header, which is before its first block
abbrev pub header_size : ℕ
header_size = 8192

-- the byte at which block b of a file of a kind begins
unfoldable pub block_place : ℕ → ℕ → ℕ
block_place kind b = header_size + b * block_size kind

-- the byte at which the blocks of an address begin
unfoldable pub place : ℕ → ℕ
place w = block_place (kind_of w) (first_block w)

-- the number of bytes of the blocks of an address
unfoldable pub byte_size : ℕ → ℕ
byte_size w = block_count w * block_size (kind_of w)
