use Rattle.std.proofs.Common.{[], Bool, subst}
use Rattle.blk_cache.specs.DoomingObjects.{LiesAsTarget}
use Rattle.blk_cache.proofs.DoomedTargets.{as-parent, parent-charge, parent-kind, whole-held, whole-unheld}
use Rattle.blk_evict.proofs.GroupsOut.{if-ok-three}
use Rattle.blk_cache.proofs.dooming_objects.doom_with_index.Goals as goal

pub returns-then-is_held-clause-doomed : goal.returns-then-is_held-clause-doomed
returns-then-is_held-clause-doomed g c = if-ok-three c.doom_parent.result (λ gone told out session from there state layout number object k t same last is.
    let t1 = subst (λ (b : Bool). LiesAsTarget b state layout number object c.args.target.now) c.if-is_held.true t in
    let m = as-parent state layout from number object c.args.target.now k t1 (parent-kind state layout from number object c.args.target.now k t1 c.requires.parent) c.args.key.now same in
    let ch = parent-charge state layout from number object c.args.target.now k t1 c.args.key.now same m.lies in
    whole-held state layout from number object c.args.target.now k t1 t1.named c.args.key.now same last gone (out from there state layout [] number object m ch last is) (told from there state layout [] number object m ch) (session from there state layout [] number object m ch last is))
    c.doom_parent.ensures.gone c.doom_parent.ensures.doomed c.doom_parent.ensures.session

pub returns-then-is_held-clause-stops : goal.returns-then-is_held-clause-stops
returns-then-is_held-clause-stops g c from there state layout number object k t same =
    let t1 = subst (λ (b : Bool). LiesAsTarget b state layout number object c.args.target.now) c.if-is_held.true t in
    let m = as-parent state layout from number object c.args.target.now k t1 (parent-kind state layout from number object c.args.target.now k t1 c.requires.parent) c.args.key.now same in
    let ch = parent-charge state layout from number object c.args.target.now k t1 c.args.key.now same m.lies in
    c.doom_parent.ensures.stops from there state layout [] number object m ch

pub returns-then-is_held-clause-untold : goal.returns-then-is_held-clause-untold
returns-then-is_held-clause-untold g c from there state layout number object k t same =
    let t1 = subst (λ (b : Bool). LiesAsTarget b state layout number object c.args.target.now) c.if-is_held.true t in
    let m = as-parent state layout from number object c.args.target.now k t1 (parent-kind state layout from number object c.args.target.now k t1 c.requires.parent) c.args.key.now same in
    let ch = parent-charge state layout from number object c.args.target.now k t1 c.args.key.now same m.lies in
    c.doom_parent.ensures.untold from there state layout [] number object m ch

pub returns-else-is_held-clause-doomed : goal.returns-else-is_held-clause-doomed
returns-else-is_held-clause-doomed g c = if-ok-three c.remove_with_index.result (λ gone told out session from there state layout number object k t same last is.
    let t1 = subst (λ (b : Bool). LiesAsTarget b state layout number object c.args.target.now) c.if-is_held.false t in
    let m = as-parent state layout from number object c.args.target.now k t1 (parent-kind state layout from number object c.args.target.now k t1 c.requires.parent) c.args.key.now same in
    whole-unheld state layout from number object c.args.target.now k t1 t1.named c.args.key.now same last gone (out from there state layout [] number object m last is) (told from there state layout [] number object m) (session from there state layout [] number object m last is))
    c.remove_with_index.ensures.gone c.remove_with_index.ensures.removed c.remove_with_index.ensures.session

pub returns-else-is_held-clause-stops : goal.returns-else-is_held-clause-stops
returns-else-is_held-clause-stops g c from there state layout number object k t same =
    let t1 = subst (λ (b : Bool). LiesAsTarget b state layout number object c.args.target.now) c.if-is_held.false t in
    let m = as-parent state layout from number object c.args.target.now k t1 (parent-kind state layout from number object c.args.target.now k t1 c.requires.parent) c.args.key.now same in
    c.remove_with_index.ensures.stops from there state layout [] number object m

pub returns-else-is_held-clause-untold : goal.returns-else-is_held-clause-untold
returns-else-is_held-clause-untold g c from there state layout number object k t same =
    let t1 = subst (λ (b : Bool). LiesAsTarget b state layout number object c.args.target.now) c.if-is_held.false t in
    let m = as-parent state layout from number object c.args.target.now k t1 (parent-kind state layout from number object c.args.target.now k t1 c.requires.parent) c.args.key.now same in
    c.remove_with_index.ensures.untold from there state layout [] number object m
