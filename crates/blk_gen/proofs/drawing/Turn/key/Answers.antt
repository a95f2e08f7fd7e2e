use Rattle.std.proofs.Common.{rules}
use Rattle.std.proofs.lemmas.Fmt.{length-decimal-le}
use Rattle.blk_gen.proofs.drawing.Turn.key.Goals as goal

pub put-end-requires-2 : goal.put-end-requires-2
put-end-requires-2 c = search (rules, length-decimal-le 3)
