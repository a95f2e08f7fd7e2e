-- The blocks of an address.
use Rattle.std.proofs.Common.{◌≡◌, ◌≢◌, ℕ, ◌+◌, ◌%◌, ◌≤◌, Bool, true, false, if◌then◌else◌, ◌∙◌, ap, arith}
use Rattle.std.specs.Prelude.{◌==◌}
use Rattle.std.proofs.lemmas.Bool.Decides.{nat_tests}
use Rattle.spec_format.specs.Address.{kind_of, external, external_number, file_selector, first_block, block_count, is_address, names_blocks, names_external}
use Rattle.blk_addr.specs.declared.file_id.FileId.TheVariants.{External, Block}
use Rattle.blk_addr.specs.FileId.{file_of_word}

not_external : (w : ℕ) → kind_of w ≢ external → (kind_of w == external) ≡ false
not_external w block_kind = grind (arith, nat_tests)

-- the file of its blocks
pub file_word : (w : ℕ) → kind_of w ≢ external → file_of_word w ≡ Block (file_selector w)
unfolding file_of_word
file_word w block_kind = ap (λ (t : Bool). if t then External (external_number w) else Block (file_selector w)) (not_external w block_kind)

pub first_of : (w s : ℕ) → kind_of w ≢ external → s ≡ (if kind_of w == external then 0 else first_block w) → s ≡ first_block w
first_of w s block_kind is = is ∙ ap (λ (t : Bool). if t then 0 else first_block w) (not_external w block_kind)

pub count_of : (w n : ℕ) → kind_of w ≢ external → n ≡ (if kind_of w == external then 0 else block_count w) → n ≡ block_count w
count_of w n block_kind is = is ∙ ap (λ (t : Bool). if t then 0 else block_count w) (not_external w block_kind)

-- the blocks of an address lie in one group
pub in_group : (w : ℕ) → is_address w ≡ true → kind_of w ≢ external → first_block w % 4 + block_count w ≤ 4
unfolding is_address names_external names_blocks
in_group w is block_kind = let t = not_external w block_kind in grind (arith, nat_tests)
