-- Worked address words.
use Rattle.std.proofs.Common.{◌≡◌, true, false, refl}
use Rattle.spec_format.specs.Address.{is_address, is_initialized, names_external, names_blocks, kind_of, reserved_bits, block_count, file_selector, first_block, external_number, block_word, external_word, block_size, block_place, place, byte_size}

-- 0x90000000 is node 0 of data_0
pub node_0 : (is_address 0x90000000 ≡ true) × (block_word 1 0 0 1 ≡ 0x90000000) × (kind_of 0x90000000 ≡ 1) × (file_selector 0x90000000 ≡ 0) × (first_block 0x90000000 ≡ 0) × (block_count 0x90000000 ≡ 1)
unfolding is_address is_initialized names_external names_blocks kind_of reserved_bits block_count first_block external_number file_selector block_word
node_0 = (refl, refl, refl, refl, refl, refl)

-- 0xA1010004 is blocks 4 and 5 of data_1
pub blocks_4_and_5 : (is_address 0xA1010004 ≡ true) × (block_word 2 1 4 2 ≡ 0xA1010004) × (kind_of 0xA1010004 ≡ 2) × (file_selector 0xA1010004 ≡ 1) × (first_block 0xA1010004 ≡ 4) × (block_count 0xA1010004 ≡ 2)
unfolding is_address is_initialized names_external names_blocks kind_of reserved_bits block_count first_block external_number file_selector block_word
blocks_4_and_5 = (refl, refl, refl, refl, refl, refl)

-- 0xB0020000 is block 0 of data_2
pub block_0 : (is_address 0xB0020000 ≡ true) × (block_word 3 2 0 1 ≡ 0xB0020000) × (kind_of 0xB0020000 ≡ 3) × (file_selector 0xB0020000 ≡ 2) × (first_block 0xB0020000 ≡ 0) × (block_count 0xB0020000 ≡ 1)
unfolding is_address is_initialized names_external names_blocks kind_of reserved_bits block_count first_block external_number file_selector block_word
block_0 = (refl, refl, refl, refl, refl, refl)

-- 0xC2030000 is blocks 0 to 2 of data_3
pub blocks_0_to_2 : (is_address 0xC2030000 ≡ true) × (block_word 4 3 0 3 ≡ 0xC2030000) × (kind_of 0xC2030000 ≡ 4) × (file_selector 0xC2030000 ≡ 3) × (first_block 0xC2030000 ≡ 0) × (block_count 0xC2030000 ≡ 3)
unfolding is_address is_initialized names_external names_blocks kind_of reserved_bits block_count first_block external_number file_selector block_word
blocks_0_to_2 = (refl, refl, refl, refl, refl, refl)

-- 0x80000001 is f_000001
pub external_1 : (is_address 0x80000001 ≡ true) × (external_word 1 ≡ 0x80000001) × (kind_of 0x80000001 ≡ 0) × (external_number 0x80000001 ≡ 1)
unfolding is_address is_initialized names_external names_blocks kind_of reserved_bits block_count first_block external_number external_word
external_1 = (refl, refl, refl, refl)

-- 0xA4010000 is no address: its reserved bits aren't 0
pub reserved_bits_set : is_address 0xA4010000 ≡ false
unfolding is_address is_initialized names_external names_blocks kind_of reserved_bits block_count first_block external_number
reserved_bits_set = refl

-- 0xD0000000 is no address: its kind is 5
pub type_5 : is_address 0xD0000000 ≡ false
unfolding is_address is_initialized names_external names_blocks kind_of reserved_bits block_count first_block external_number
type_5 = refl

-- 0x20010000 is no address: it isn't initialized
pub not_initialized : is_address 0x20010000 ≡ false
unfolding is_address is_initialized names_external names_blocks kind_of reserved_bits block_count first_block external_number
not_initialized = refl

-- 0x91000000 is no address: it names two nodes
pub two_nodes : is_address 0x91000000 ≡ false
unfolding is_address is_initialized names_external names_blocks kind_of reserved_bits block_count first_block external_number
two_nodes = refl

-- 0xA1010003 is no address: its blocks lie in two groups
pub two_groups : is_address 0xA1010003 ≡ false
unfolding is_address is_initialized names_external names_blocks kind_of reserved_bits block_count first_block external_number
two_groups = refl

-- 0x80000000 is no address: its external number is 0
pub external_0 : is_address 0x80000000 ≡ false
unfolding is_address is_initialized names_external names_blocks kind_of reserved_bits block_count first_block external_number
external_0 = refl

-- the word 0 is no address
pub no_word : is_address 0 ≡ false
unfolding is_address is_initialized names_external names_blocks kind_of reserved_bits block_count first_block external_number
no_word = refl

-- block sizes of kinds 1 to 4
pub block_sizes : (block_size 1 ≡ 36) × (block_size 2 ≡ 256) × (block_size 3 ≡ 1024) × (block_size 4 ≡ 4096)
unfolding block_size
block_sizes = (refl, refl, refl, refl)

-- blocks 4 and 5 of data_1 are the 512 bytes from 9216 on
pub place_of_blocks_4_and_5 : (place 0xA1010004 ≡ 9216) × (byte_size 0xA1010004 ≡ 512)
unfolding place block_place block_size byte_size kind_of block_count first_block
place_of_blocks_4_and_5 = (refl, refl)
