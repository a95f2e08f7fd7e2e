use Rattle.blk_args.proofs.Refused.{items_again, max_again}
use Rattle.blk_args.proofs.apart.Apart.set.Goals as goal

pub returns-in-Bytes-Some-default : goal.returns-in-Bytes-Some-default
returns-in-Bytes-Some-default c behind = max_again c.args.self c.args.limit c.in-Bytes-Some-default.field-0-1 _ behind c.in-Bytes-Some-default.is-0 c.in-Bytes-Some-default.is-1

pub returns-in-Items-default-Some : goal.returns-in-Items-default-Some
returns-in-Items-default-Some c behind = items_again c.args.self c.args.limit c.in-Items-default-Some.field-0-2 _ behind c.in-Items-default-Some.is-0 c.in-Items-default-Some.is-2
