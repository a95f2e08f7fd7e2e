-- Worked examples of used blocks and valid addresses.
use Rattle.std.proofs.Common.{◌≡◌, ℕ, Bool, [], ◌∷◌, true, false, refl, cond, Some, None}
use Rattle.std.specs.Prelude.{◌==◌, ◌+◌, ◌*◌}
use Rattle.spec_format.specs.Address.{is_address, is_initialized, names_external, names_blocks, kind_of, reserved_bits, block_count, file_selector, first_block, external_number, block_size, block_place, place, byte_size}
use Rattle.spec_format.specs.Claims.{BlockOf, ExternalOf, claims_of, has_claim, overlap, repeats}
use Rattle.spec_format.specs.Standing.{stands, stands_as_blocks}

-- blocks 4 and 5 of data_1
pub claims_of_blocks : claims_of 0xA1010004 ≡ BlockOf 1 4 ∷ BlockOf 1 5 ∷ []
unfolding claims_of kind_of block_count file_selector first_block external_number
claims_of_blocks = refl

-- f_000001
pub claims_of_external : claims_of 0x80000001 ≡ ExternalOf 1 ∷ []
unfolding claims_of kind_of block_count file_selector first_block external_number
claims_of_external = refl

-- the word 0 uses nothing
pub claims_of_nothing : claims_of 0 ≡ []
unfolding claims_of kind_of block_count file_selector first_block external_number
claims_of_nothing = refl

-- blocks 4 and 5 share a block with block 5, and none with block 6 or with block 5 of another file
pub overlaps : (overlap (claims_of 0xA1010004) (claims_of 0xA0010005) ≡ true) × (overlap (claims_of 0xA1010004) (claims_of 0xA0010006) ≡ false) × (overlap (claims_of 0xA1010004) (claims_of 0xA0040005) ≡ false)
unfolding claims_of kind_of block_count file_selector first_block external_number overlap has_claim
overlaps = (refl, refl, refl)

-- a used block that occurs twice
pub repeated : (repeats (BlockOf 1 4 ∷ ExternalOf 1 ∷ BlockOf 1 4 ∷ []) ≡ true) × (repeats (BlockOf 1 4 ∷ ExternalOf 4 ∷ BlockOf 1 5 ∷ []) ≡ false)
unfolding repeats has_claim
repeated = (refl, refl)

-- data_1 alone is linked, of kind 2, with eight blocks and space for six; f_000001 alone is there
abbrev worked : ℕ → Bool
worked = stands (λ n. cond (n == 1) (Some 2) None) (λ n. 8) (λ n. 8192 + 6 * 256) (λ n. n == 1)

-- what is there: blocks inside the file, and that external file
pub standing : (worked 0xA1010004 ≡ true) × (worked 0xA2010004 ≡ false) × (worked 0xA0010007 ≡ false) × (worked 0xA0020000 ≡ false) × (worked 0xB0010000 ≡ false) × (worked 0x80000001 ≡ true) × (worked 0x80000002 ≡ false) × (worked 0xA5010004 ≡ false)
unfolding stands stands_as_blocks is_address is_initialized names_external names_blocks kind_of reserved_bits block_count file_selector first_block external_number block_size block_place place byte_size
standing = (refl, refl, refl, refl, refl, refl, refl, refl)
