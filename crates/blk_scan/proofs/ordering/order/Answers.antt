use Rattle.std.proofs.Common.{◌≡◌, ◌≤◌, ℕ, List, Option, length, min, ap, ap₂, ◌∙◌, arith}
use Rattle.std.specs.List.{filter_map}
use Rattle.std.proofs.lemmas.List.{length-take}
use Rattle.blk_audit.specs.Walking.{nodes_walked}
use Rattle.blk_scan.specs.Outcomes.{dropped_in, record_of_outcome}
use Rattle.blk_scan.specs.declared.outcomes.Outcome.{Outcome}
use Rattle.blk_scan.proofs.WholeScans.{order_is}
use Rattle.blk_scan.proofs.ordering.order.Goals as goal

pub returns-clause-ordered : goal.returns-clause-ordered
returns-clause-ordered c image are judged =
    order_is image c.args.lists.now c.args.judged.now (record { walked = c.in_ok-walked.walked; records = c.in_ok-records.records; dropped = c.in_ok-dropped.dropped })
    c.records.result.now c.in_ok-outcomes.outcomes.items c.deref.result.now c.len.result are judged c.in_ok-walked.ensures (c.len.ensures ∙ c.in_ok-walked.walked.ok.0) c.deref.ensures.value c.in_ok-outcomes.ensures.placed c.records.ensures
    (c.in_ok-records.ensures.kept ∙ ap (filter_map (record_of_outcome c.records.result.now)) c.deref-2.ensures.value)
    (c.in_ok-dropped.ensures ∙ ap₂ (λ (ns : List ℕ) (os : List (Option Outcome)). dropped_in ns os) c.deref-3.ensures.value c.deref-4.ensures.value)

pub returns-clause-few : goal.returns-clause-few
returns-clause-few c =
    let few : length c.in_ok-records.records.items ≤ length c.deref-2.result.now = c.in_ok-records.ensures.few in
    let here : length c.deref-2.result.now ≡ length c.in_ok-outcomes.outcomes.items = ap length c.deref-2.ensures.value in
    let long : length c.in_ok-outcomes.outcomes.items ≡ length c.in_ok-walked.walked.items = c.in_ok-outcomes.ensures.long ∙ (c.len.ensures ∙ c.in_ok-walked.walked.ok.0) in
    let most : length c.in_ok-walked.walked.items ≡ min 131072 (length (nodes_walked c.args.lists.now.walked)) = ap length c.in_ok-walked.ensures ∙ length-take 131072 (nodes_walked c.args.lists.now.walked) in
    omega (arith, few, here, long, most)
