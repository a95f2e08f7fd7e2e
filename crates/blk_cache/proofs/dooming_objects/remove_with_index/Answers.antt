use Rattle.std.proofs.Common.{◌≡◌, ◌∙◌, None, Some, sym, subst}
use Rattle.std.proofs.lemmas.Result.{on_ok_weaker}
use Rattle.spec_image.specs.Told.{Told}
use Rattle.spec_image.proofs.Runs.{passes_stayed, some_inj}
use Rattle.blk_io.specs.Faults.{IfDamaged}
use Rattle.blk_io.proofs.Carried.{carried}
use Rattle.blk_lru.proofs.Conditions.{told_now}
use Rattle.blk_lru.proofs.Results.{if_ok_weaker}
use Rattle.blk_model.specs.Effects.{doomed}
use Rattle.blk_object.specs.Owning.{LoadsWith}
use Rattle.blk_object.specs.RemovingObjects.{FindsEither}
use Rattle.blk_object.proofs.OwnedPlaces.{owned-by}
use Rattle.blk_sparse.proofs.PartsOut.{stays-passes}
use Rattle.blk_sparse.proofs.ParentsOut.{at-rest, main-loads}
use Rattle.blk_cache.proofs.dooming_objects.remove_with_index.Goals as goal

pub returns-in_err-owned-clause-stops : goal.returns-in_err-owned-clause-stops
returns-in_err-owned-clause-stops g c from there state layout unlinked number object m =
    stays-passes (g.F.Folder.told c.args.folder.now) (g.F.Folder.told c.read_owned.new.folder) from (FindsEither state (doomed number state (Some object))) there c.in_err-owned.ensures.reads.stays (at-rest state layout unlinked number object c.args.key.now c.args.node c.args.found.now.entry c.args.found.now.before from m)

pub returns-in_err-owned-clause-is_open : goal.returns-in_err-owned-clause-is_open
returns-in_err-owned-clause-is_open g c image is =
    c.requires.is_open image (told_now image (sym c.in_err-owned.ensures.reads.stays) is)

pub returns-in_err-owned-clause-untold : goal.returns-in_err-owned-clause-untold
returns-in_err-owned-clause-untold g c from there state layout unlinked number object m =
    carried c.read_owned.result c.from_residual.result c.in_err-owned.field-0.0 (λ _. (g.F.Folder.told c.args.folder.now).files ≡ None) c.in_err-owned.was c.from_residual.ensures.1
    (c.read_owned.ensures.untold (λ image is. (c.requires.is_open image is).agrees) (λ image is. (m.lies.was, subst (LoadsWith c.args.found.now.entry m.lies.was) (some_inj (sym there ∙ is)) (main-loads state layout unlinked number object c.args.key.now c.args.node c.args.found.now.entry c.args.found.now.before from m))))

pub remove_parent_with-requires-clause-is_open : goal.remove_parent_with-requires-clause-is_open
remove_parent_with-requires-clause-is_open g c image is = c.requires.is_open image (told_now image (sym c.in_ok-owned.ensures.reads.stays) is)

pub returns-clause-removed : goal.returns-clause-removed
returns-clause-removed g c = on_ok_weaker c.remove_parent_with.result (λ out from there. out from (told_now from c.in_ok-owned.ensures.reads.stays there) (owned-by (g.F.Folder.told c.args.folder.now) c.args.found.now.entry c.in_ok-owned.owned c.in_ok-owned.ensures.words c.in_ok-owned.ensures.charge from there)) c.remove_parent_with.ensures.removed

pub returns-clause-gone : goal.returns-clause-gone
returns-clause-gone g c = if_ok_weaker c.remove_parent_with.result (λ gone told from there. told from (told_now from c.in_ok-owned.ensures.reads.stays there) (owned-by (g.F.Folder.told c.args.folder.now) c.args.found.now.entry c.in_ok-owned.owned c.in_ok-owned.ensures.words c.in_ok-owned.ensures.charge from there)) c.remove_parent_with.ensures.gone

pub returns-clause-session : goal.returns-clause-session
returns-clause-session g c = on_ok_weaker c.remove_parent_with.result (λ same from there. same from (told_now from c.in_ok-owned.ensures.reads.stays there) (owned-by (g.F.Folder.told c.args.folder.now) c.args.found.now.entry c.in_ok-owned.owned c.in_ok-owned.ensures.words c.in_ok-owned.ensures.charge from there)) c.remove_parent_with.ensures.session

pub returns-clause-stops : goal.returns-clause-stops
returns-clause-stops g c from there state layout unlinked number object m =
    passes_stayed c.in_ok-owned.ensures.reads.stays (c.remove_parent_with.ensures.stops from (told_now from c.in_ok-owned.ensures.reads.stays there) (owned-by (g.F.Folder.told c.args.folder.now) c.args.found.now.entry c.in_ok-owned.owned c.in_ok-owned.ensures.words c.in_ok-owned.ensures.charge from there) state layout unlinked number object m)

pub returns-clause-untold : goal.returns-clause-untold
returns-clause-untold g c from there state layout unlinked number object m =
    subst (λ (t : Told). IfDamaged c.remove_parent_with.result (λ _. t.files ≡ None)) c.in_ok-owned.ensures.reads.stays (c.remove_parent_with.ensures.untold from (told_now from c.in_ok-owned.ensures.reads.stays there) (owned-by (g.F.Folder.told c.args.folder.now) c.args.found.now.entry c.in_ok-owned.owned c.in_ok-owned.ensures.words c.in_ok-owned.ensures.charge from there) state layout unlinked number object m)
