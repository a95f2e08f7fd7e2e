use Rattle.std.proofs.Common.{◌∙◌, ap, arith}
use Rattle.blk_addr.specs.Claims.{is_claimed}
use Rattle.blk_repair.proofs.DeletionRuns.{external-is_claimed}
use Rattle.blk_repair.proofs.deletions.is_claimed.Goals as goal

pub returns-then-number-le-LAST_EXTERNAL : goal.returns-then-number-le-LAST_EXTERNAL
returns-then-number-le-LAST_EXTERNAL c = c.has.ensures.test ∙ ap (is_claimed c.args.claims.now) c.of_external.ensures ∙ external-is_claimed c.args.claims.now c.args.number (omega arith) (omega arith)
