use Rattle.std.proofs.Common.{◌∙◌}
use Rattle.std.specs.Option.{ForSome}
use Rattle.blk_entry.proofs.KeyPlaces.{ok_weaker}
use Rattle.blk_audit.specs.Records.{IsHashOfKey, IsRightWhereSaid}
use Rattle.blk_verdict.proofs.loading.key_sum.Goals as goal

pub returns-in-Some-clause-sum : goal.returns-in-Some-clause-sum
returns-in-Some-clause-sum g c image there sums key stored = c.in-Some.ensures.known.0 ∙ sums c.in-Some.ensures.known.1 key stored

pub returns-in-Some-clause-key : goal.returns-in-Some-clause-key
returns-in-Some-clause-key g c image there part = absurd (c.in-Some.ensures.read part)

pub returns-in-None-clause-sum : goal.returns-in-None-clause-sum
returns-in-None-clause-sum g c =
    ok_weaker c.read_sum.result _
    (λ sum. ForSome (g.F.Folder.told c.args.folder.now).files (λ image. IsRightWhereSaid image c.args.entry c.args.said.now → IsHashOfKey image c.args.entry c.args.said.now.words sum))
    (λ sum is image there sums. is image there)
    c.read_sum.ensures.sum
