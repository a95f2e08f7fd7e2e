use Rattle.std.proofs.Common.{◌≡◌, ℕ, ◌+◌, sym, ap, arith}
use Rattle.std.specs.Prelude.{◌==◌}
use Rattle.spec_format.specs.Maps.{longest_run}
use Rattle.blk_addr.specs.Bits.{has_bit}
use Rattle.blk_alloc.proofs.Claiming.{groups_more, groups_most, no_groups}
use Rattle.spec_format.proofs.Groups.{one}
use Rattle.blk_alloc.proofs.claimed.count_runs.Goals as goal

pub loop-group-init : goal.loop-group-init
loop-group-init c i small = let none = no_groups (has_bit c.args.bytes.now) (i + 1) in omega (arith, none)

pub count_run-requires-clause-room : goal.count_run-requires-clause-room
count_run-requires-clause-room c i small =
    let so_far = c.loop-group.invariant i small in
    let most = groups_most (has_bit c.args.bytes.now) c.loop-group.group (i + 1) in
    let room = c.requires.room i small in
    omega (arith, so_far, most, room, c.loop-group-test.true)

pub loop-group-preserved : goal.loop-group-preserved
loop-group-preserved c i small =
    let so_far = c.loop-group.invariant i small in
    let more = groups_more (has_bit c.args.bytes.now) c.loop-group.group (i + 1) in
    let counts = c.count_run.ensures.counts i small in
    let run : one (longest_run (has_bit c.args.bytes.now) c.loop-group.group == i + 1) ≡ one (c.longest_run.result == i + 1) = ap (λ (r : ℕ). one (r == i + 1)) (sym c.longest_run.ensures.run) in
    omega (arith, so_far, more, counts, run)
