use Rattle.std.proofs.Common.{ℕ, ◌+◌, ◌*◌, ap, arith}
use Rattle.std.proofs.lemmas.Result.{on_ok_weaker}
use Rattle.blk_alloc.proofs.Hints.{hint_set, hint_stops}
use Rattle.blk_alloc.proofs.hinting.set_hint.Goals as goal

pub returns-clause-set : goal.returns-clause-set
returns-clause-set g c =
    on_ok_weaker c.write_word.result (λ grows. hint_set c.args.file c.args.i (40 + 4 * c.from.result) c.args.group (ap (λ (k : ℕ). 40 + 4 * k) c.from.ensures) c.requires.small (omega (arith, c.ranges.group.fits)) grows c.requires.header) c.write_word.ensures.steps

pub returns-clause-stops : goal.returns-clause-stops
returns-clause-stops g c = hint_stops c.args.file (40 + 4 * c.args.i) (40 + 4 * c.from.result) c.args.group (ap (λ (k : ℕ). 40 + 4 * k) c.from.ensures) c.write_word.ensures.prefix
