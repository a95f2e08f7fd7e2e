use Rattle.std.proofs.Common.{length, ◌≡◌, ◌<◌}
use Rattle.blk_script.proofs.Printed.{data_text-nil, data_text-some, tested_empty, tested_some}
use Rattle.blk_script.proofs.print.print_data.Goals as goal

pub returns-then-is_empty-clause-steps : goal.returns-then-is_empty-clause-steps
returns-then-is_empty-clause-steps g c =
    let none : length c.args.bytes.now ≡ 0 = tested_empty _ _ c.is_empty.ensures c.if-is_empty.true in rw (data_text-nil _ none) c.put.ensures.steps

pub returns-then-is_empty-clause-prefix : goal.returns-then-is_empty-clause-prefix
returns-then-is_empty-clause-prefix g c =
    let none : length c.args.bytes.now ≡ 0 = tested_empty _ _ c.is_empty.ensures c.if-is_empty.true in rw (data_text-nil _ none) c.put.ensures.prefix

pub returns-clause-steps : goal.returns-clause-steps
returns-clause-steps g c = let some : 0 < length c.args.bytes.now = tested_some _ _ c.is_empty.ensures c.if-is_empty.false in rw (data_text-some _ some) c.print_bytes.ensures.steps

pub returns-clause-prefix : goal.returns-clause-prefix
returns-clause-prefix g c = let some : 0 < length c.args.bytes.now = tested_some _ _ c.is_empty.ensures c.if-is_empty.false in rw (data_text-some _ some) c.print_bytes.ensures.prefix
