use Rattle.std.proofs.Common.{◌∙◌, ap, sym, subst, ℕ, Option}
use Rattle.blk_lru.proofs.Results.{if_ok_weaker}
use Rattle.blk_lru.specs.Lists.{last_node_of}
use Rattle.blk_evict.proofs.RoomNodes.{at-end, place-listed, place-rests}
use Rattle.blk_object.proofs.DamageChecks.{moved, node-word-checked}
use Rattle.blk_io.proofs.Carried.{if_damaged_weaker}
use Rattle.blk_record.specs.declared.node.TheConstants.NodeView as NodeView
use Rattle.blk_object.specs.ListWalks.{GoesTo}
use Rattle.blk_evict.proofs.list_places.in_front.Goals as goal

pub returns-in-Some-clause-untold : goal.returns-in-Some-clause-untold
returns-in-Some-clause-untold g c is_open place =
    c.before-in-Some.ensures.untold (λ image there. (is_open image there).agrees) (λ image there. place-listed c.args.behind.now c.in-Some.node image c.in-Some.is (place image there))

pub returns-in-None-clause-node : goal.returns-in-None-clause-node
returns-in-None-clause-node g c =
    if_ok_weaker c.last.result
    (λ node last image there agrees front place. let e = at-end front c.args.behind.now image c.in-None.is place in last image there e.1 ∙ ap last_node_of e.0)
    c.last.ensures.node

pub returns-in-None-clause-untold : goal.returns-in-None-clause-untold
returns-in-None-clause-untold g c is_open place =
    c.last.ensures.untold (λ image there. (is_open image there).whole_index) (λ image there. (is_open image there).agrees) (λ image there. place-rests c.args.behind.now image (place image there))

pub returns-in-Some-clause-damaged : goal.returns-in-Some-clause-damaged
returns-in-Some-clause-damaged g c =
    if_damaged_weaker c.before-in-Some.result _ _ (λ damage wrong. moved c.args.files.now (g.F.Folder.told c.args.folder.now) (g.F.Folder.told c.before-in-Some.new.f) damage c.before-in-Some.ensures.reads.stays (node-word-checked c.args.files.now (g.F.Folder.told c.args.folder.now) _ _ damage wrong)) c.before-in-Some.ensures.damaged

pub returns-in-None-clause-damaged : goal.returns-in-None-clause-damaged
returns-in-None-clause-damaged g c =
    if_damaged_weaker c.last.result _ _ (λ damage wrong. moved c.args.files.now (g.F.Folder.told c.args.folder.now) (g.F.Folder.told c.last.new.f) damage c.last.ensures.reads.stays (node-word-checked c.args.files.now (g.F.Folder.told c.args.folder.now) _ _ damage wrong)) c.last.ensures.damaged

pub returns-in-Some-clause-word : goal.returns-in-Some-clause-word
returns-in-Some-clause-word g c =
    if_ok_weaker c.before-in-Some.result (λ found word image there. subst (λ (o : Option ℕ). GoesTo NodeView.PREV image o found) (sym c.in-Some.is) (word image there)) c.before-in-Some.ensures.word

pub returns-in-None-clause-word : goal.returns-in-None-clause-word
returns-in-None-clause-word g c =
    if_ok_weaker c.last.result (λ found word image there. subst (λ (o : Option ℕ). GoesTo NodeView.PREV image o found) (sym c.in-None.is) (word image there)) c.last.ensures.word
