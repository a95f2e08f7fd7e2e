use Rattle.std.proofs.Common.{◌++◌, ◌∷◌, [], Bool, Ok, refl, sym, ap, subst, ◌∙◌, if◌then◌else◌}
use Rattle.blk_addr.specs.declared.claim_set.Claims.{Claims}
use Rattle.blk_addr.specs.Claims.{IsClaimsOf, is_claimed}
use Rattle.blk_audit.specs.Walking.{AreMet, IsAdded}
use Rattle.blk_audit.proofs.MetNodes.{claimed_is, met_more}
use Rattle.blk_audit.proofs.Truths.{false_not, true_not}
use Rattle.blk_audit.proofs.list_walk.Walked.add.Goals as goal

pub returns-in_ok-push-clause-met : goal.returns-in_ok-push-clause-met
returns-in_ok-push-clause-met c =
    met_more c.args.self.now (record { nodes = c.push.new.self; met = c.add.new.self }) c.args.addr c.requires.met c.requires.node
    (subst (λ (t : Bool). IsClaimsOf c.add.new.self (c.args.self.now.nodes.items ++ (if t then c.args.addr ∷ [] else []))) c.if-added.true (c.in_ok-added.ensures.listed c.args.self.now.nodes.items c.requires.met.claims))
    c.in_ok-push.ensures.items

pub returns-in_ok-push-clause-added : goal.returns-in_ok-push-clause-added
returns-in_ok-push-clause-added c =
    subst (λ (t : Bool). IsAdded c.args.self.now.nodes.items c.args.addr c.push.new.self.items t) (sym c.if-added.true)
    (sym (claimed_is c.args.self.now c.args.addr c.requires.met c.requires.node) ∙ true_not (is_claimed c.args.self.now.met c.args.addr) (sym c.if-added.true ∙ c.in_ok-added.ensures.told), c.in_ok-push.ensures.items)

pub returns-else-added-clause-met : goal.returns-else-added-clause-met
returns-else-added-clause-met c =
    subst (λ (met : Claims). AreMet (record { nodes = c.args.self.now.nodes; met = met })) (sym (c.in_ok-added.ensures.kept (ap (λ (t : Bool). Ok t) c.if-added.false))) c.requires.met

pub returns-else-added-clause-added : goal.returns-else-added-clause-added
returns-else-added-clause-added c =
    subst (λ (t : Bool). IsAdded c.args.self.now.nodes.items c.args.addr c.args.self.now.nodes.items t) (sym c.if-added.false)
    (sym (claimed_is c.args.self.now c.args.addr c.requires.met c.requires.node) ∙ false_not (is_claimed c.args.self.now.met c.args.addr) (sym c.if-added.false ∙ c.in_ok-added.ensures.told), refl)
