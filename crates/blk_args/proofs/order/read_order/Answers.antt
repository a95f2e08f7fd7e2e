use Rattle.std.proofs.Common.{ap}
use Rattle.blk_args.specs.Apart.{ordinary_words}
use Rattle.blk_args.proofs.Named.{named, no_words, unnamed}
use Rattle.blk_args.proofs.order.read_order.Goals as goal

pub returns-in_err-verb_of-in-One-clause-task : goal.returns-in_err-verb_of-in-One-clause-task
returns-in_err-verb_of-in-One-clause-task c = unnamed c.from_residual.result _ c.verb_of.result _ _ c.from_residual.ensures (ap ordinary_words c.in-One.is) c.verb_of.ensures c.in_err-verb_of-in-One.was

pub returns-in_err-verb_of-in-Two-clause-task : goal.returns-in_err-verb_of-in-Two-clause-task
returns-in_err-verb_of-in-Two-clause-task c =
    unnamed c.from_residual-in_err-verb_of-in-Two.result _ c.verb_of-in-Two.result _ _ c.from_residual-in_err-verb_of-in-Two.ensures (ap ordinary_words c.in-Two.is) c.verb_of-in-Two.ensures c.in_err-verb_of-in-Two.was

pub returns-in_err-verb_of-in-Three-clause-task : goal.returns-in_err-verb_of-in-Three-clause-task
returns-in_err-verb_of-in-Three-clause-task c =
    unnamed c.from_residual-in_err-verb_of-in-Three.result _ c.verb_of-in-Three.result _ _ c.from_residual-in_err-verb_of-in-Three.ensures (ap ordinary_words c.in-Three.is) c.verb_of-in-Three.ensures c.in_err-verb_of-in-Three.was

pub returns-in-None-clause-task : goal.returns-in-None-clause-task
returns-in-None-clause-task c = no_words (ordinary_words c.args.words) (ap ordinary_words c.in-None.is)

pub returns-in_ok-verb_of-in-One-clause-task : goal.returns-in_ok-verb_of-in-One-clause-task
returns-in_ok-verb_of-in-One-clause-task c =
    named c.read_alone.result _ c.verb_of.result _ _ _ (ap ordinary_words c.in-One.is) c.verb_of.ensures c.in_ok-verb_of-in-One.was c.read_alone.ensures.task

pub returns-in_ok-verb_of-in-Two-clause-task : goal.returns-in_ok-verb_of-in-Two-clause-task
returns-in_ok-verb_of-in-Two-clause-task c =
    named c.read_with_one.result _ c.verb_of-in-Two.result _ _ _ (ap ordinary_words c.in-Two.is) c.verb_of-in-Two.ensures c.in_ok-verb_of-in-Two.was c.read_with_one.ensures.task

pub returns-in_ok-verb_of-in-Three-clause-task : goal.returns-in_ok-verb_of-in-Three-clause-task
returns-in_ok-verb_of-in-Three-clause-task c =
    named c.read_with_two.result _ c.verb_of-in-Three.result _ _ _ (ap ordinary_words c.in-Three.is) c.verb_of-in-Three.ensures c.in_ok-verb_of-in-Three.was c.read_with_two.ensures.task
