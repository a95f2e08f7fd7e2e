use Rattle.std.proofs.Common.{◌≡◌, ◌∙◌, None, sym, subst}
use Rattle.std.specs.Option.{ForSome}
use Rattle.spec_image.specs.Told.{Told}
use Rattle.spec_image.proofs.Runs.{passes_none, passes_stayed, some_inj}
use Rattle.blk_io.specs.Faults.{IfDamaged}
use Rattle.blk_io.proofs.Carried.{carried}
use Rattle.blk_lru.proofs.Conditions.{told_now}
use Rattle.blk_disk.specs.Open.{IsOpen}
use Rattle.spec_folder.specs.Removal.{without_items}
use Rattle.blk_object.specs.RemovingObjects.{FindsEither}
use Rattle.blk_object.proofs.OwnedPlaces.{owned-by}
use Rattle.blk_object.proofs.RemovedObjects.{item-found}
use Rattle.blk_object.proofs.removing_objects.remove_item.Goals as goal

pub returns-in_err-owned-clause-stops : goal.returns-in_err-owned-clause-stops
returns-in_err-owned-clause-stops g c from there state layout unlinked objects keep item k p =
    passes_none (FindsEither state (without_items state objects keep)) c.in_err-owned.ensures.reads.stays
    (λ image is. subst (FindsEither state (without_items state objects keep)) (some_inj (sym there ∙ is)) (item-found state layout unlinked objects keep item c.args.node c.args.found.now.entry c.args.found.now.before from k p))

pub returns-in_err-owned-clause-is_open : goal.returns-in_err-owned-clause-is_open
returns-in_err-owned-clause-is_open g c = subst (λ (t : Told). ForSome t.files (IsOpen c.args.files.now)) (sym c.in_err-owned.ensures.reads.stays) c.requires.is_open

pub remove_read-requires-clause-is_open : goal.remove_read-requires-clause-is_open
remove_read-requires-clause-is_open g c =
    subst (λ (t : Told). ForSome t.files (IsOpen c.args.files.now)) (sym c.in_ok-owned.ensures.reads.stays) c.requires.is_open

pub returns-in_err-remove_read-clause-stops : goal.returns-in_err-remove_read-clause-stops
returns-in_err-remove_read-clause-stops g c from there state layout unlinked objects keep item k p =
    passes_stayed c.in_ok-owned.ensures.reads.stays (c.in_err-remove_read.ensures.stops from (told_now from c.in_ok-owned.ensures.reads.stays there) (owned-by (g.F.Folder.told c.args.folder.now) c.args.found.now.entry c.in_ok-owned.owned c.in_ok-owned.ensures.words c.in_ok-owned.ensures.charge from there) state layout unlinked objects keep item k p)

pub returns-in_err-remove_read-clause-untold : goal.returns-in_err-remove_read-clause-untold
returns-in_err-remove_read-clause-untold g c from there state layout unlinked objects keep item k p =
    subst (λ (t : Told). IfDamaged c.from_residual-in_err-remove_read.result (λ _. t.files ≡ None)) c.in_ok-owned.ensures.reads.stays
    (carried c.remove_read.result c.from_residual-in_err-remove_read.result c.in_err-remove_read.field-0.0 (λ _. (g.F.Folder.told c.read_owned.new.folder).files ≡ None) c.in_err-remove_read.was c.from_residual-in_err-remove_read.ensures.1
    (c.remove_read.ensures.untold from (told_now from c.in_ok-owned.ensures.reads.stays there) (owned-by (g.F.Folder.told c.args.folder.now) c.args.found.now.entry c.in_ok-owned.owned c.in_ok-owned.ensures.words c.in_ok-owned.ensures.charge from there) state layout unlinked objects keep item k p))

pub returns-clause-removed : goal.returns-clause-removed
returns-clause-removed g c from there state layout unlinked objects keep item k p =
    c.in_ok-remove_read.ensures.removed from (told_now from c.in_ok-owned.ensures.reads.stays there) (owned-by (g.F.Folder.told c.args.folder.now) c.args.found.now.entry c.in_ok-owned.owned c.in_ok-owned.ensures.words c.in_ok-owned.ensures.charge from there) state layout unlinked objects keep item k p

pub returns-clause-stops : goal.returns-clause-stops
returns-clause-stops g c from there state layout unlinked objects keep item k p =
    passes_stayed c.in_ok-owned.ensures.reads.stays (c.in_ok-remove_read.ensures.stops from (told_now from c.in_ok-owned.ensures.reads.stays there) (owned-by (g.F.Folder.told c.args.folder.now) c.args.found.now.entry c.in_ok-owned.owned c.in_ok-owned.ensures.words c.in_ok-owned.ensures.charge from there) state layout unlinked objects keep item k p)

pub returns-clause-session : goal.returns-clause-session
returns-clause-session g c from there state layout unlinked objects keep item k p =
    c.in_ok-remove_read.ensures.session from (told_now from c.in_ok-owned.ensures.reads.stays there) (owned-by (g.F.Folder.told c.args.folder.now) c.args.found.now.entry c.in_ok-owned.owned c.in_ok-owned.ensures.words c.in_ok-owned.ensures.charge from there) state layout unlinked objects keep item k p
