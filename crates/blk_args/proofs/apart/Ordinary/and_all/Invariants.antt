use Rattle.std.proofs.Common.{◌≡◌, ◌++◌, take}
use Rattle.blk_args.specs.Apart.{ordinary_words}
use Rattle.blk_args.specs.Words.{argument_bytes}
use Rattle.blk_args.proofs.apart.Ordinary.and_all.Given as goal

abbrev pub invariant-loop-word : goal.invariant-loop-word
invariant-loop-word l = ordinary_words l.all ≡ ordinary_words l.initial.self ++ argument_bytes (take l.word-index l.words)
