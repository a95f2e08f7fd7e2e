use Rattle.std.proofs.Common.{inl, inr}
use Rattle.std.proofs.lemmas.Result.{on_ok_weaker}
use Rattle.blk_sparse.proofs.storing.count_items.Goals as goal

pub returns-then-entries-eq0-clause-counted : goal.returns-then-entries-eq0-clause-counted
returns-then-entries-eq0-clause-counted g c =
    on_ok_weaker c.count_rise.result (λ rise from there image is. inr (c.if-entries-eq0.true, rise from there image is)) c.count_rise.ensures.counted

pub returns-else-entries-eq0-clause-counted : goal.returns-else-entries-eq0-clause-counted
returns-else-entries-eq0-clause-counted g c =
    on_ok_weaker c.count_more.result (λ more from there image is. inl (more from there image is)) c.count_more.ensures.counted
