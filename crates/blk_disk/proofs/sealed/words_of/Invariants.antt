use Rattle.std.proofs.Common.{◌≡◌, ◌∷◌, take}
use Rattle.spec_format.specs.Sealed.{placed}
use Rattle.blk_disk.proofs.sealed.words_of.Given as goal

abbrev pub invariant-loop-at : goal.invariant-loop-at
invariant-loop-at l = l.words.items ≡ placed l.place ((l.seal_at, 0) ∷ take l.at-index l.changes)
