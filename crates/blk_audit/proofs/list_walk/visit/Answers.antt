use Rattle.std.proofs.Common.{◌≡◌, ℕ, suc, ◌++◌, ◌∷◌, [], Bool, true, false, List, sym, ap, subst, map, ◌∙◌}
use Rattle.std.proofs.lemmas.Bool.{ne_eqb}
use Rattle.spec_format.specs.BlockFiles.{is_among}
use Rattle.spec_folder.specs.Walk.{walk_from}
use Rattle.blk_lru.specs.Writes.{meant}
use Rattle.blk_audit.specs.Walking.{IsNodeWord, IsAdded}
use Rattle.blk_audit.proofs.Truths.{true_not, false_not}
use Rattle.blk_audit.proofs.Walks.{step_stops, step_last, step_on}
use Rattle.blk_audit.proofs.Steps.{list_after, link_none, link_far, link_unchecked, link_met, link_next, next_is}
use Rattle.blk_audit.proofs.list_walk.visit.Goals as goal

pub returns-in_default-clause-step : goal.returns-in_default-clause-step
returns-in_default-clause-step c head =
    step_stops (list_after (map meant c.args.writes.now) c.args.nodes.now head) c.args.walk.now.nodes.items c.args.link
    (link_none (map meant c.args.writes.now) c.args.nodes.now head c.args.walk.now.nodes.items c.args.link c.in_default.ensures)

pub returns-then-not-here-clause-step : goal.returns-then-not-here-clause-step
returns-then-not-here-clause-step c head =
    step_stops (list_after (map meant c.args.writes.now) c.args.nodes.now head) c.args.walk.now.nodes.items c.args.link
    (link_unchecked (map meant c.args.writes.now) c.args.nodes.now head c.args.walk.now.nodes.items c.args.link c.in-Some.here.node c.in-Some.ensures.node (true_not c.in-Some.here.node.checks (sym c.if-not-here.true)))

pub returns-then-before-link-clause-step : goal.returns-then-before-link-clause-step
returns-then-before-link-clause-step c head =
    step_stops (list_after (map meant c.args.writes.now) c.args.nodes.now head) c.args.walk.now.nodes.items c.args.link
    (link_far (map meant c.args.writes.now) c.args.nodes.now head c.args.walk.now.nodes.items c.args.link c.in-Some.here.node c.prev_after-before.result c.in-Some.ensures.node c.prev_after-before.ensures
    (ne_eqb c.prev_after-before.result c.args.link.before c.if-before-link.true))

pub add-requires-clause-node : goal.add-requires-clause-node
add-requires-clause-node c = subst IsNodeWord (sym c.in-Some.ensures.addr) c.in-Some.ensures.is

pub returns-then-not-added-clause-step : goal.returns-then-not-added-clause-step
returns-then-not-added-clause-step c head =
    let added = subst (λ (t : Bool). IsAdded c.args.walk.now.nodes.items c.in-Some.here.addr c.add.new.self.nodes.items t) c.if-not-added.true c.in_ok-added.ensures.added in
    let met : is_among c.args.walk.now.nodes.items c.args.link.word ≡ true = sym (ap (is_among c.args.walk.now.nodes.items) c.in-Some.ensures.addr) ∙ added.0 in
    subst (λ (items : List ℕ). (most : ℕ) → items ≡ c.args.walk.now.nodes.items ++ walk_from (list_after (map meant c.args.writes.now) c.args.nodes.now head).checks (list_after (map meant c.args.writes.now) c.args.nodes.now head).next (list_after (map meant c.args.writes.now) c.args.nodes.now head).prev (suc most) c.args.walk.now.nodes.items c.args.link.before c.args.link.word) (sym added.1)
    (step_stops (list_after (map meant c.args.writes.now) c.args.nodes.now head) c.args.walk.now.nodes.items c.args.link
    (link_met (map meant c.args.writes.now) c.args.nodes.now head c.args.walk.now.nodes.items c.args.link met))

pub returns-then-next-link-clause-step : goal.returns-then-next-link-clause-step
returns-then-next-link-clause-step c head =
    let added = subst (λ (t : Bool). IsAdded c.args.walk.now.nodes.items c.in-Some.here.addr c.add.new.self.nodes.items t) c.if-not-added.false c.in_ok-added.ensures.added in
    let fresh : is_among c.args.walk.now.nodes.items c.args.link.word ≡ false = sym (ap (is_among c.args.walk.now.nodes.items) c.in-Some.ensures.addr) ∙ added.0 in
    let items : c.add.new.self.nodes.items ≡ c.args.walk.now.nodes.items ++ c.args.link.word ∷ [] = added.1 ∙ ap (λ (w : ℕ). c.args.walk.now.nodes.items ++ w ∷ []) c.in-Some.ensures.addr in
    step_last (list_after (map meant c.args.writes.now) c.args.nodes.now head) c.args.walk.now.nodes.items c.add.new.self.nodes.items c.args.link
    (link_next (map meant c.args.writes.now) c.args.nodes.now head c.args.walk.now.nodes.items c.args.link c.in-Some.here.node c.prev_after-before.result c.in-Some.ensures.node (false_not c.in-Some.here.node.checks (sym c.if-not-here.false)) c.prev_after-before.ensures c.if-before-link.false fresh)
    (next_is (map meant c.args.writes.now) c.args.nodes.now head c.args.link.word c.in-Some.here.node c.in-Some.ensures.node ∙ sym c.next_after-next.ensures ∙ c.if-next-link.true)
    items

pub returns-clause-step : goal.returns-clause-step
returns-clause-step c head =
    let added = subst (λ (t : Bool). IsAdded c.args.walk.now.nodes.items c.in-Some.here.addr c.add.new.self.nodes.items t) c.if-not-added.false c.in_ok-added.ensures.added in
    let fresh : is_among c.args.walk.now.nodes.items c.args.link.word ≡ false = sym (ap (is_among c.args.walk.now.nodes.items) c.in-Some.ensures.addr) ∙ added.0 in
    let items : c.add.new.self.nodes.items ≡ c.args.walk.now.nodes.items ++ c.args.link.word ∷ [] = added.1 ∙ ap (λ (w : ℕ). c.args.walk.now.nodes.items ++ w ∷ []) c.in-Some.ensures.addr in
    step_on (list_after (map meant c.args.writes.now) c.args.nodes.now head) c.args.walk.now.nodes.items c.add.new.self.nodes.items c.args.link c.next_after-next.result
    (link_next (map meant c.args.writes.now) c.args.nodes.now head c.args.walk.now.nodes.items c.args.link c.in-Some.here.node c.prev_after-before.result c.in-Some.ensures.node (false_not c.in-Some.here.node.checks (sym c.if-not-here.false)) c.prev_after-before.ensures c.if-before-link.false fresh)
    (next_is (map meant c.args.writes.now) c.args.nodes.now head c.args.link.word c.in-Some.here.node c.in-Some.ensures.node ∙ sym c.next_after-next.ensures)
    (ne_eqb c.next_after-next.result c.args.link.word c.if-next-link.false)
    items
