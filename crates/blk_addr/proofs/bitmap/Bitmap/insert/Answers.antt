use Rattle.std.proofs.Common.{arith, ◌/◌, ◌<◌, length, ◌∙◌}
use Rattle.std.proofs.lemmas.List.{get_or_default}
use Rattle.blk_addr.proofs.BitLemmas.{has_bit-with_bit}
use Rattle.blk_addr.proofs.bitmap.Bitmap.insert.Goals as goal

pub returns-clause-added : goal.returns-clause-added
returns-clause-added c m =
    let inside : c.args.n / 8 < length c.args.self.now.bytes.items = omega arith in
    has_bit-with_bit c.args.self.now.bytes.items c.args.n m c.index_mut.result.now inside
    (c.index_mut.ensures.value ∙ get_or_default c.args.self.now.bytes.items (c.args.n / 8) c.index_mut.result.now 0 inside)
