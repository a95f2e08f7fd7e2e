use Rattle.std.proofs.Common.{◌≡◌, ℕ, ◌+◌, ◌*◌, ◌<◌, ◌≤◌, ◌||◌, length, get_or, set, arith, rules, refl, ◌∙◌, ap}
use Rattle.std.proofs.lemmas.Bool.Decides.{nat_tests}
use Rattle.spec_format.specs.Address.{block_count, file_selector, first_block}
use Rattle.blk_addr.specs.Bits.{has_bit, is_between, bits_of_files}
use Rattle.blk_addr.proofs.AddressFields.{block_count_above_0, file_selector_small, first_block_small}
use Rattle.blk_addr.proofs.BitLemmas.{bits_of_files-more, bits_of_files-most}
use Rattle.blk_addr.proofs.ClaimLemmas.{count_at_most}
use Rattle.blk_addr.proofs.ClaimSetLemmas.{adds_blocks, first_absent}
use Rattle.blk_addr.proofs.claim_set.Claims.insert_blocks.Goals as goal

pub overflow_add-self : goal.overflow_add-self
overflow_add-self c =
    let most = bits_of_files-most c.args.self.now.blocks.bytes.items in
    omega (arith, c.args.self.now.counted c.file_selector-file.result)

-- the blocks are numbers that were not there
bits : (c : goal.After-self-1) → (m : ℕ) → has_bit c.insert_all.new.self.bytes.items m
    ≡ (is_between (file_selector c.args.addr * 65536 + first_block c.args.addr) (file_selector c.args.addr * 65536 + first_block c.args.addr + block_count c.args.addr) m || has_bit c.args.self.now.blocks.bytes.items m)
bits c m =
    let count : c.blocks-2.result ≡ block_count c.args.addr = grind (arith, nat_tests) in
    let first : c.first_number.result ≡ file_selector c.args.addr * 65536 + first_block c.args.addr = c.first_number.ensures.number in
    c.insert_all.ensures.added m
    ∙ ap (λ n. is_between n (n + c.blocks-2.result) m || has_bit c.args.self.now.blocks.bytes.items m) first
    ∙ ap (λ n. is_between (file_selector c.args.addr * 65536 + first_block c.args.addr) (file_selector c.args.addr * 65536 + first_block c.args.addr + n) m || has_bit c.args.self.now.blocks.bytes.items m) count

pub invariant_of-self : goal.invariant_of-self
invariant_of-self c = record {
  counted = λ file.
      let files : length c.args.self.now.allocations ≡ 256 = search rules in
      let inside : c.file_selector-file.result < length c.args.self.now.allocations = omega (arith, file_selector_small c.args.addr) in
      let more : bits_of_files c.args.self.now.blocks.bytes.items + 1 ≤ bits_of_files c.insert_all.new.self.bytes.items =
      bits_of_files-more c.args.self.now.blocks.bytes.items c.insert_all.new.self.bytes.items
      (file_selector c.args.addr * 65536 + first_block c.args.addr) (file_selector c.args.addr * 65536 + first_block c.args.addr + block_count c.args.addr)
      (bits c) (omega (arith, block_count_above_0 c.args.addr)) (omega (arith, file_selector_small c.args.addr, first_block_small c.args.addr))
      (first_absent c.args.self.now c.args.addr c.requires.address c.requires.kind c.requires.absent) in
      count_at_most c.args.self.now.allocations c.file_selector-file.result file _ _ inside c.args.self.now.counted more;
}

pub returns-clause-added : goal.returns-clause-added
returns-clause-added c =
    let files : length c.args.self.now.allocations ≡ 256 = search rules in
    let inside : file_selector c.args.addr < length c.args.self.now.allocations = omega (arith, file_selector_small c.args.addr) in
    let counts = ap (λ file. set c.args.self.now.allocations file (get_or c.args.self.now.allocations file 0 + 1)) c.file_selector-file.ensures in
    adds_blocks c.args.self.now _ c.args.addr c.requires.address c.requires.kind refl (bits c.before) inside counts
