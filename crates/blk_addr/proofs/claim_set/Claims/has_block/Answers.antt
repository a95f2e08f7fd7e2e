use Rattle.std.proofs.Common.{◌≡◌, ℕ, ◌+◌, ◌*◌, true, false, ◌&&◌, sym, ◌∙◌, ap, arith}
use Rattle.std.specs.Prelude.{nat_lt}
use Rattle.std.proofs.lemmas.Bool.Decides.{nat_tests}
use Rattle.spec_format.specs.Claims.{BlockOf}
use Rattle.blk_addr.specs.Bits.{has_bit}
use Rattle.blk_addr.specs.Claims.{contains_claim}
use Rattle.blk_addr.proofs.claim_set.Claims.has_block.Goals as goal

pub returns-then-block-lt-BLOCKS_OF_FILE : goal.returns-then-block-lt-BLOCKS_OF_FILE
unfolding contains_claim
returns-then-block-lt-BLOCKS_OF_FILE c =
    let below : nat_lt c.args.block 65536 ≡ true = grind (arith, nat_tests) in
    let test : c.has.result ≡ contains_claim c.args.self.now (BlockOf c.args.file c.args.block) =
    c.has.ensures ∙ ap (λ (f : ℕ). has_bit c.args.self.now.blocks.bytes.items (f * 65536 + c.args.block)) c.from.ensures
    ∙ ap (λ t. t && has_bit c.args.self.now.blocks.bytes.items (c.args.file * 65536 + c.args.block)) (sym below) in
    record { test = test; listed = λ words is. test ∙ is.claims (BlockOf c.args.file c.args.block) }

pub returns-else-block-lt-BLOCKS_OF_FILE : goal.returns-else-block-lt-BLOCKS_OF_FILE
unfolding contains_claim
returns-else-block-lt-BLOCKS_OF_FILE c =
    let above : nat_lt c.args.block 65536 ≡ false = grind (arith, nat_tests) in
    let test : nat_lt c.args.block 65536 ≡ contains_claim c.args.self.now (BlockOf c.args.file c.args.block) =
    above ∙ ap (λ t. t && has_bit c.args.self.now.blocks.bytes.items (c.args.file * 65536 + c.args.block)) (sym above) in
    record { test = test; listed = λ words is. test ∙ is.claims (BlockOf c.args.file c.args.block) }
