use Rattle.std.proofs.Common.{◌≡◌, ◌∙◌, length, arith}
use Rattle.blk_verdict.specs.declared.by_hash.ByHash.{ByHash}
use Rattle.blk_verdict.proofs.PlacesOfHashes.{places_more}
use Rattle.blk_verdict.proofs.by_hash.ByHash.add.Goals as goal

pub returns : goal.returns
returns c hashes is =
    let many = c.len-place.ensures in
    let stored = c.args.self.now.befores.ok.0 in
    let count : c.len-place.result ≡ length c.args.self.now.befores.items = omega (arith, many, stored) in
    let new : ByHash = record { lasts = c.insert.new.self; befores = c.push.new.self } in
    places_more c.args.self.now new hashes c.args.hash c.len-place.result c.last-before.result is (count ∙ is.many) (c.last-before.ensures hashes is) c.in_ok-push.ensures.items c.in_ok-insert.ensures.updates.0
