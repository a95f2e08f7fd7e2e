use Rattle.std.proofs.Common.{◌≡◌, ◌≢◌, ◌+◌, ◌*◌, ◌≤◌, arith, refl, sym, ◌∙◌, ap}
use Rattle.std.specs.List.{list_any, range_with_len}
use Rattle.std.proofs.lemmas.Bool.Decides.{nat_tests}
use Rattle.spec_format.specs.Address.{kind_of, external, first_block, block_count, file_selector, external_number}
use Rattle.spec_format.specs.Claims.{ExternalOf}
use Rattle.blk_addr.specs.Bits.{has_bit}
use Rattle.blk_addr.specs.Claims.{contains_claim, is_claimed}
use Rattle.blk_addr.proofs.AddressFields.{address_above_0}
use Rattle.blk_addr.proofs.ClaimLemmas.{claims_of-external, claims_of-blocks, any_of_run, or_false}
use Rattle.blk_addr.proofs.ClaimSetLemmas.{is_claimed-overlap}
use Rattle.blk_addr.proofs.claim_set.Claims.has.Goals as goal

pub has_any-requires : goal.has_any-requires
has_any-requires c =
    let count : c.blocks-else-is_external.result ≡ block_count c.args.addr = grind (arith, nat_tests) in
    omega arith

external_test : (c : goal.After-contains) → c.contains.result ≡ is_claimed c.args.self.now c.args.addr
unfolding is_claimed contains_claim
external_test c =
    let kind : kind_of c.args.addr ≡ external = grind (arith, nat_tests) in
    let claims = claims_of-external c.args.addr (address_above_0 c.args.addr c.is_external.ensures.address) kind in
    c.contains.ensures
    ∙ ap (λ n. contains_claim c.args.self.now (ExternalOf n)) c.external_number.ensures
    ∙ sym (or_false (contains_claim c.args.self.now (ExternalOf (external_number c.args.addr))))
    ∙ ap (list_any (contains_claim c.args.self.now)) (sym claims)

blocks_test : (c : goal.After-has_any) → c.has_any.result ≡ is_claimed c.args.self.now c.args.addr
unfolding is_claimed
blocks_test c =
    let kind : kind_of c.args.addr ≢ external = grind (arith, nat_tests) in
    let count : c.blocks-else-is_external.result ≡ block_count c.args.addr = grind (arith, nat_tests) in
    let claims = claims_of-blocks c.args.addr (address_above_0 c.args.addr c.is_external.ensures.address) kind in
    let inside : first_block c.args.addr + block_count c.args.addr ≤ 65536 = omega arith in
    let bytes = c.args.self.now.blocks.bytes.items in
    c.has_any.ensures
    ∙ ap (λ n. list_any (has_bit bytes) (range_with_len n c.blocks-else-is_external.result)) c.first_number.ensures.number
    ∙ ap (λ n. list_any (has_bit bytes) (range_with_len (file_selector c.args.addr * 65536 + first_block c.args.addr) n)) count
    ∙ sym (any_of_run (contains_claim c.args.self.now) bytes (file_selector c.args.addr) (first_block c.args.addr) (block_count c.args.addr) (λ b. unfold contains_claim in refl) inside)
    ∙ ap (list_any (contains_claim c.args.self.now)) (sym claims)

pub returns-then-is_external : goal.returns-then-is_external
returns-then-is_external c = record {
  test = external_test c;
  listed = λ words is. external_test c ∙ is_claimed-overlap c.args.self.now words c.args.addr is;
}

pub returns-else-is_external : goal.returns-else-is_external
returns-else-is_external c = record {
  test = blocks_test c;
  listed = λ words is. blocks_test c ∙ is_claimed-overlap c.args.self.now words c.args.addr is;
}
