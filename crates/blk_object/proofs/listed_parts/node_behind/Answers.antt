use Rattle.std.proofs.Common.{sym, ◌∙◌, subst, Option, ℕ}
use Rattle.std.specs.Prelude.{filter}
use Rattle.blk_lru.proofs.Results.{if_ok_weaker}
use Rattle.spec_image.specs.Image.{Image}
use Rattle.spec_image.proofs.Runs.{some_inj}
use Rattle.spec_folder.specs.Layout.{nodes_of}
use Rattle.spec_folder.specs.ListImages.{HasListAtRest}
use Rattle.blk_object.specs.ListedParts.{AreSearched}
use Rattle.blk_object.proofs.WalkedParts.{begins-behind, begins-listed, list-rests, starts-first}
use Rattle.blk_object.proofs.DamageChecks.{moved, node-word-checked}
use Rattle.blk_io.proofs.Carried.{if_damaged_weaker}
use Rattle.blk_record.specs.declared.node.TheConstants.NodeView as NodeView
use Rattle.blk_object.specs.ListWalks.{GoesTo}
use Rattle.blk_object.proofs.listed_parts.node_behind.Goals as goal

pub returns-in-Some-clause-node : goal.returns-in-Some-clause-node
returns-in-Some-clause-node g c = if_ok_weaker c.after.result
    (λ found is image there state layout keep chains unlinked items k are.
    begins-behind layout (filter keep state.uses) items c.in-Some.node image found k.list (subst (λ (o : Option ℕ). AreSearched layout o (filter keep state.uses) items) c.in-Some.is are) (is image there (c.requires.is_open image there).agrees))
    c.after.ensures.node

pub returns-in-Some-clause-untold : goal.returns-in-Some-clause-untold
returns-in-Some-clause-untold g c from there state layout keep chains unlinked items k are =
    c.after.ensures.untold (λ image is. (c.requires.is_open image is).agrees)
    (λ image is. begins-listed layout (filter keep state.uses) items c.in-Some.node image (subst (λ (i : Image). HasListAtRest (nodes_of layout (filter keep state.uses)) i) (some_inj (sym there ∙ is)) k.list) (subst (λ (o : Option ℕ). AreSearched layout o (filter keep state.uses) items) c.in-Some.is are))

pub returns-in-None-clause-node : goal.returns-in-None-clause-node
returns-in-None-clause-node g c = if_ok_weaker c.first.result
    (λ found is image there state layout keep chains unlinked items k are.
    starts-first layout (filter keep state.uses) items image found k.list (subst (λ (o : Option ℕ). AreSearched layout o (filter keep state.uses) items) c.in-None.is are) (is image there))
    c.first.ensures.node

pub returns-in-None-clause-untold : goal.returns-in-None-clause-untold
returns-in-None-clause-untold g c from there state layout keep chains unlinked items k are =
    c.first.ensures.untold (λ image is. (c.requires.is_open image is).whole_index) (λ image is. (c.requires.is_open image is).agrees)
    (λ image is. list-rests (nodes_of layout (filter keep state.uses)) image (subst (λ (i : Image). HasListAtRest (nodes_of layout (filter keep state.uses)) i) (some_inj (sym there ∙ is)) k.list))

pub returns-in-Some-clause-damaged : goal.returns-in-Some-clause-damaged
returns-in-Some-clause-damaged g c =
    if_damaged_weaker c.after.result _ _ (λ damage wrong. moved c.args.files.now (g.F.Folder.told c.args.folder.now) (g.F.Folder.told c.after.new.f) damage c.after.ensures.reads.stays (node-word-checked c.args.files.now (g.F.Folder.told c.args.folder.now) _ _ damage wrong)) c.after.ensures.damaged

pub returns-in-None-clause-damaged : goal.returns-in-None-clause-damaged
returns-in-None-clause-damaged g c =
    if_damaged_weaker c.first.result _ _ (λ damage wrong. moved c.args.files.now (g.F.Folder.told c.args.folder.now) (g.F.Folder.told c.first.new.f) damage c.first.ensures.reads.stays (node-word-checked c.args.files.now (g.F.Folder.told c.args.folder.now) _ _ damage wrong)) c.first.ensures.damaged

pub returns-in-Some-clause-word : goal.returns-in-Some-clause-word
returns-in-Some-clause-word g c =
    if_ok_weaker c.after.result (λ found word image there. subst (λ (o : Option ℕ). GoesTo NodeView.NEXT image o found) (sym c.in-Some.is) (word image there)) c.after.ensures.word

pub returns-in-None-clause-word : goal.returns-in-None-clause-word
returns-in-None-clause-word g c =
    if_ok_weaker c.first.result (λ found word image there. subst (λ (o : Option ℕ). GoesTo NodeView.NEXT image o found) (sym c.in-None.is) (word image there)) c.first.ensures.word
