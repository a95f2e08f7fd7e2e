use Rattle.std.proofs.Common.{arith, refl}
use Rattle.blk_addr.proofs.BitLemmas.{bits_of_files-same}
use Rattle.blk_addr.proofs.ClaimSetLemmas.{same_numbers}
use Rattle.blk_addr.proofs.claim_set.Claims.reserve_blocks.Goals as goal

pub invariant_of-self : goal.invariant_of-self
invariant_of-self c = record {
  counted = λ file.
      let same = bits_of_files-same c.args.self.now.blocks.bytes.items c.reserve.new.self.bytes.items c.reserve.ensures.same in
      omega (arith, c.args.self.now.counted file);
}

pub returns-in_err-reserve-clause-same : goal.returns-in_err-reserve-clause-same
returns-in_err-reserve-clause-same c = same_numbers _ _ refl refl c.in_err-reserve.ensures.same

pub returns-clause-same : goal.returns-clause-same
returns-clause-same c = same_numbers _ _ refl refl c.in_ok-reserve.ensures.same
