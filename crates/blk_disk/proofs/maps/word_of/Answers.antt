use Rattle.std.proofs.Common.{◌∙◌, ap, arith, w32}
use Rattle.std.specs.Int.{from_le_bytes}
use Rattle.std.proofs.lemmas.Nat.{le_bytes_4}
use Rattle.blk_disk.proofs.maps.word_of.Goals as goal

pub returns : goal.returns
returns c = le_bytes_4 c.args.bytes.now c.from_le_bytes.result c.requires (λ i. omega (arith, c.type_inv.bytes i)) (c.from_le_bytes.ensures ∙ ap (from_le_bytes w32) c.copy_from_slice.ensures.after)
