-- How much one call reads.
use Rattle.std.specs.Prelude.{ℕ}

-- the numbers of block files are below this
abbrev pub file_numbers : ℕ
file_numbers = 256

-- the most nodes that one call reads
abbrev pub nodes_of_piece : ℕ
nodes_of_piece = 1024

-- the bytes of one block of a file with records
abbrev pub record_block_size : ℕ
record_block_size = 256

-- how many blocks with records one call reads
abbrev pub blocks_of_piece : ℕ
blocks_of_piece = 128

-- how many bytes of blocks with records one call reads
abbrev pub piece_length : ℕ
piece_length = 32768
