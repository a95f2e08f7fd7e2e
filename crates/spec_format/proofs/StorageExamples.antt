-- Worked sizes and keys.
use Rattle.std.proofs.Common.{◌≡◌, true, false, refl}
use Rattle.spec_format.specs.Address.{is_address, is_initialized, names_external, names_blocks, kind_of, reserved_bits, block_count, first_block, external_number, block_size}
use Rattle.spec_format.specs.Storage.{kind_for, blocks_for, entry_blocks, is_storage}

-- the blocks of a record by the length of its key
pub blocks_of_records : (entry_blocks 1 ≡ 1) × (entry_blocks 159 ≡ 1) × (entry_blocks 160 ≡ 2) × (entry_blocks 415 ≡ 2) × (entry_blocks 416 ≡ 3) × (entry_blocks 671 ≡ 3) × (entry_blocks 672 ≡ 4) × (entry_blocks 927 ≡ 4) × (entry_blocks 928 ≡ 1) × (entry_blocks 32768 ≡ 1)
unfolding entry_blocks
blocks_of_records = (refl, refl, refl, refl, refl, refl, refl, refl, refl, refl)

-- the kinds of sizes
pub kinds_of_sizes : (kind_for 1 ≡ 2) × (kind_for 1023 ≡ 2) × (kind_for 1024 ≡ 3) × (kind_for 4095 ≡ 3) × (kind_for 4096 ≡ 4) × (kind_for 16384 ≡ 4) × (kind_for 16385 ≡ 0) × (kind_for 929 ≡ 2) × (kind_for 32769 ≡ 0) × (kind_for 5003 ≡ 4)
unfolding kind_for
kinds_of_sizes = (refl, refl, refl, refl, refl, refl, refl, refl, refl, refl)

-- the numbers of blocks of sizes
pub blocks_of_sizes : (blocks_for 1 ≡ 1) × (blocks_for 1023 ≡ 4) × (blocks_for 1024 ≡ 1) × (blocks_for 4095 ≡ 4) × (blocks_for 4096 ≡ 1) × (blocks_for 16384 ≡ 4) × (blocks_for 16385 ≡ 0) × (blocks_for 929 ≡ 4) × (blocks_for 32769 ≡ 0) × (blocks_for 5003 ≡ 2)
unfolding kind_for blocks_for block_size
blocks_of_sizes = (refl, refl, refl, refl, refl, refl, refl, refl, refl, refl)

-- a size with a word that is its storage
pub storage : (is_storage 0 0 ≡ true) × (is_storage 1023 0xA3010000 ≡ true) × (is_storage 1024 0xB0020000 ≡ true) × (is_storage 16385 0x80000001 ≡ true)
unfolding is_storage is_address is_initialized names_external names_blocks kind_of reserved_bits block_count first_block external_number kind_for blocks_for block_size
storage = (refl, refl, refl, refl)

-- a size with a word that isn't its storage
pub no_storage : (is_storage 0 0xA0010000 ≡ false) × (is_storage 1 0 ≡ false) × (is_storage 1023 0xA2010000 ≡ false) × (is_storage 1024 0xA3010000 ≡ false) × (is_storage 16385 0xC3030000 ≡ false) × (is_storage 16384 0x80000001 ≡ false) × (is_storage 1023 0xA7010000 ≡ false)
unfolding is_storage is_address is_initialized names_external names_blocks kind_of reserved_bits block_count first_block external_number kind_for blocks_for block_size
no_storage = (refl, refl, refl, refl, refl, refl, refl)
