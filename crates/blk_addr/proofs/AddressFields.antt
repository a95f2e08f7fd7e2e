-- What is known of the fields of an address.
use Rattle.std.proofs.Common.{◌≢◌, ℕ, ◌+◌, ◌%◌, ◌<◌, ◌≤◌, arith, IsTrue}
use Rattle.std.proofs.lemmas.Grind.{common_steps}
use Rattle.spec_format.specs.Address.{is_address, is_initialized, names_external, names_blocks, kind_of, first_block, block_count, file_selector, external}

-- the kind of an address is at most 4
pub kind_of_address : (w : ℕ) → IsTrue (is_address w) → kind_of w ≤ 4
unfolding is_address names_external names_blocks
kind_of_address w h = grind (arith, common_steps)

-- an address isn't the word 0
pub address_above_0 : (w : ℕ) → IsTrue (is_address w) → w ≢ 0
unfolding is_address is_initialized
address_above_0 w h = grind (arith, common_steps)

-- blocks lie in one group of four
pub group_of_address : (w : ℕ) → IsTrue (is_address w) → kind_of w ≢ external → first_block w % 4 + block_count w ≤ 4
unfolding is_address names_external names_blocks
group_of_address w h blocks = grind (arith, common_steps)

-- a first block is a number of 16 bits
pub first_block_small : (w : ℕ) → first_block w < 65536
unfolding first_block
first_block_small w = omega arith

-- the blocks of an address end at 65536 at most
pub blocks_of_address : (w : ℕ) → IsTrue (is_address w) → kind_of w ≢ external → first_block w + block_count w ≤ 65536
blocks_of_address w h blocks = omega (arith, group_of_address w h blocks, first_block_small w)

-- an address of blocks has at least one
pub block_count_above_0 : (w : ℕ) → 0 < block_count w
unfolding block_count
block_count_above_0 w = omega arith

-- a file selector is a number of 8 bits
pub file_selector_small : (w : ℕ) → file_selector w < 256
unfolding file_selector
file_selector_small w = omega arith
