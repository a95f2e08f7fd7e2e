use Rattle.std.proofs.Common.{◌≡◌, suc, ◌+◌, ◌-◌, Option, sym, subst, map, ◌∙◌, arith}
use Rattle.spec_folder.specs.ListView.{ListView}
use Rattle.blk_lru.specs.Writes.{meant}
use Rattle.blk_audit.specs.Walking.{IsWalkStep}
use Rattle.blk_audit.specs.declared.list_walk.Link.{Link}
use Rattle.blk_audit.proofs.Steps.{list_after, head_is}
use Rattle.blk_audit.proofs.Completed.{completed_is}
use Rattle.blk_audit.proofs.MetNodes.{met_none}
use Rattle.blk_audit.proofs.Walks.{begins, goes_on, ends, is_full}
use Rattle.blk_audit.proofs.list_walk.walk_nodes.Goals as goal

pub loop-i-init : goal.loop-i-init
loop-i-init c =
    begins (list_after (map meant c.args.writes.now) c.args.nodes.now c.args.head) (record { nodes = c.new.result; met = c.new-2.result }) c.head_after-first.result
    (met_none (record { nodes = c.new.result; met = c.new-2.result }) c.new-2.ensures c.new.ensures.items) c.new.ensures.items
    (c.head_after-first.ensures ∙ sym (head_is (map meant c.args.writes.now) c.args.nodes.now c.args.head))

pub loop-i-preserved : goal.loop-i-preserved
loop-i-preserved c =
    let list : ListView = list_after (map meant c.args.writes.now) c.args.nodes.now c.args.head in
    let e : 131072 - c.loop-i.i ≡ suc (131072 - (c.loop-i.i + 1)) = omega (arith, c.loop-i-test.true) in
    goes_on list c.loop-i.walk c.visit.new.walk (131072 - c.loop-i.i) (131072 - (c.loop-i.i + 1)) c.loop-i.link c.in-Some.next e c.loop-i.invariant c.in_ok-next.ensures.met
    (subst (λ (o : Option Link). IsWalkStep list c.loop-i.walk.nodes.items c.loop-i.link c.visit.new.walk.nodes.items o) c.in-Some.is (c.in_ok-next.ensures.step c.args.head))

pub returns-in-None-clause-walked : goal.returns-in-None-clause-walked
returns-in-None-clause-walked c =
    let list : ListView = list_after (map meant c.args.writes.now) c.args.nodes.now c.args.head in
    let e : 131072 - c.loop-i.i ≡ suc (131072 - (c.loop-i.i + 1)) = omega (arith, c.loop-i-test.true) in
    ends list c.loop-i.walk c.visit.new.walk (131072 - c.loop-i.i) (131072 - (c.loop-i.i + 1)) c.loop-i.link e c.loop-i.invariant
    (subst (λ (o : Option Link). IsWalkStep list c.loop-i.walk.nodes.items c.loop-i.link c.visit.new.walk.nodes.items o) c.in-None.is (c.in_ok-next.ensures.step c.args.head))

pub returns-clause-walked : goal.returns-clause-walked
returns-clause-walked c =
    let e : 131072 - c.loop-i.i ≡ 0 = omega (arith, c.loop-i-test.false) in
    is_full (list_after (map meant c.args.writes.now) c.args.nodes.now c.args.head) c.loop-i.walk (131072 - c.loop-i.i) c.loop-i.link.before c.loop-i.link.word e c.loop-i.invariant

pub returns-in-None-clause-completed : goal.returns-in-None-clause-completed
returns-in-None-clause-completed c image are head plan = returns-in-None-clause-walked c ∙ completed_is image c.args.nodes.now are c.args.head (map meant c.args.writes.now) head plan

pub returns-clause-completed : goal.returns-clause-completed
returns-clause-completed c image are head plan = returns-clause-walked c ∙ completed_is image c.args.nodes.now are c.args.head (map meant c.args.writes.now) head plan
