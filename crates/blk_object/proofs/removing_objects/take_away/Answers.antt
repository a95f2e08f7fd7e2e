use Rattle.std.proofs.Common.{inl, ◌≡◌, ◌∙◌, None, sym, subst}
use Rattle.std.specs.Option.{ForSome}
use Rattle.spec_image.specs.Told.{Told}
use Rattle.spec_image.proofs.Runs.{passes_none, passes_stayed, some_inj}
use Rattle.blk_io.specs.Faults.{IfDamaged}
use Rattle.blk_io.proofs.Carried.{carried}
use Rattle.blk_lru.proofs.Conditions.{told_now}
use Rattle.blk_disk.specs.Open.{IsOpen}
use Rattle.blk_object.specs.Owning.{LoadsWith}
use Rattle.spec_folder.specs.Removal.{without_items}
use Rattle.blk_object.specs.RemovingObjects.{FindsEither}
use Rattle.blk_object.specs.NextItems.{IsBeingFreed, IsGoingNext}
use Rattle.blk_object.proofs.GoingNext.{next-loads}
use Rattle.blk_object.proofs.OwnedPlaces.{owned-by}
use Rattle.blk_object.proofs.RemovedObjects.{item-found}
use Rattle.blk_object.proofs.removing_objects.take_away.Goals as goal

pub returns-in_err-read-clause-stops : goal.returns-in_err-read-clause-stops
returns-in_err-read-clause-stops g c from there state layout unlinked objects keep item k p =
    passes_none (FindsEither state (without_items state objects keep)) c.in_err-read.ensures.reads.stays
    (λ image is. subst (FindsEither state (without_items state objects keep)) (some_inj (sym there ∙ is)) (item-found state layout unlinked objects keep item c.args.node c.args.found.now.entry c.args.found.now.before from k p))

pub returns-in_err-read-clause-is_open : goal.returns-in_err-read-clause-is_open
returns-in_err-read-clause-is_open g c = subst (λ (t : Told). ForSome t.files (IsOpen c.args.files.now)) (sym c.in_err-read.ensures.reads.stays) c.requires.is_open

pub returns-in_err-read-clause-going : goal.returns-in_err-read-clause-going
returns-in_err-read-clause-going g c from there state layout keep chains unlinked item k p =
    passes_none (IsGoingNext c.args.node c.args.found.now.entry c.args.found.now.before (IsBeingFreed state layout keep chains unlinked item c.args.found.now.entry) from) c.in_err-read.ensures.reads.stays (λ image is. inl (some_inj (sym is ∙ there)))

pub returns-in_err-read-clause-untold_out : goal.returns-in_err-read-clause-untold_out
returns-in_err-read-clause-untold_out g c from there state layout keep chains unlinked item k p =
    carried c.read_owned.result c.from_residual.result c.in_err-read.field-0.0 (λ _. (g.F.Folder.told c.args.folder.now).files ≡ None) c.in_err-read.was c.from_residual.ensures.1
    (c.read_owned.ensures.untold (λ image is. (c.requires.is_open image is).agrees) (λ image is. (p.was, subst (LoadsWith c.args.found.now.entry p.was) (some_inj (sym there ∙ is)) (next-loads state layout keep chains unlinked item c.args.node c.args.found.now.entry c.args.found.now.before from k p))))

pub take_read-requires-clause-is_open : goal.take_read-requires-clause-is_open
take_read-requires-clause-is_open g c =
    subst (λ (t : Told). ForSome t.files (IsOpen c.args.files.now)) (sym c.in_ok-read.ensures.reads.stays) c.requires.is_open

pub returns-in_err-take_read-clause-stops : goal.returns-in_err-take_read-clause-stops
returns-in_err-take_read-clause-stops g c from there state layout unlinked objects keep item k p =
    passes_stayed c.in_ok-read.ensures.reads.stays (c.in_err-take_read.ensures.stops from (told_now from c.in_ok-read.ensures.reads.stays there) (owned-by (g.F.Folder.told c.args.folder.now) c.args.found.now.entry c.in_ok-read.read c.in_ok-read.ensures.words c.in_ok-read.ensures.charge from there) state layout unlinked objects keep item k p)

pub returns-in_err-take_read-clause-untold : goal.returns-in_err-take_read-clause-untold
returns-in_err-take_read-clause-untold g c from there state layout unlinked objects keep item k p =
    subst (λ (t : Told). IfDamaged c.from_residual-in_err-take_read.result (λ _. t.files ≡ None)) c.in_ok-read.ensures.reads.stays
    (carried c.take_read.result c.from_residual-in_err-take_read.result c.in_err-take_read.field-0.0 (λ _. (g.F.Folder.told c.read_owned.new.folder).files ≡ None) c.in_err-take_read.was c.from_residual-in_err-take_read.ensures.1
    (c.take_read.ensures.untold from (told_now from c.in_ok-read.ensures.reads.stays there) (owned-by (g.F.Folder.told c.args.folder.now) c.args.found.now.entry c.in_ok-read.read c.in_ok-read.ensures.words c.in_ok-read.ensures.charge from there) state layout unlinked objects keep item k p))

pub returns-in_err-take_read-clause-going : goal.returns-in_err-take_read-clause-going
returns-in_err-take_read-clause-going g c from there state layout keep chains unlinked item k p =
    passes_stayed c.in_ok-read.ensures.reads.stays (c.in_err-take_read.ensures.going from (told_now from c.in_ok-read.ensures.reads.stays there) (owned-by (g.F.Folder.told c.args.folder.now) c.args.found.now.entry c.in_ok-read.read c.in_ok-read.ensures.words c.in_ok-read.ensures.charge from there) state layout keep chains unlinked item k p)

pub returns-in_err-take_read-clause-untold_out : goal.returns-in_err-take_read-clause-untold_out
returns-in_err-take_read-clause-untold_out g c from there state layout keep chains unlinked item k p =
    subst (λ (t : Told). IfDamaged c.from_residual-in_err-take_read.result (λ _. t.files ≡ None)) c.in_ok-read.ensures.reads.stays
    (carried c.take_read.result c.from_residual-in_err-take_read.result c.in_err-take_read.field-0.0 (λ _. (g.F.Folder.told c.read_owned.new.folder).files ≡ None) c.in_err-take_read.was c.from_residual-in_err-take_read.ensures.1
    (c.take_read.ensures.untold_out from (told_now from c.in_ok-read.ensures.reads.stays there) (owned-by (g.F.Folder.told c.args.folder.now) c.args.found.now.entry c.in_ok-read.read c.in_ok-read.ensures.words c.in_ok-read.ensures.charge from there) state layout keep chains unlinked item k p))

pub returns-clause-gone : goal.returns-clause-gone
returns-clause-gone g c from there state layout unlinked objects keep item k p =
    c.in_ok-take_read.ensures.gone from (told_now from c.in_ok-read.ensures.reads.stays there) (owned-by (g.F.Folder.told c.args.folder.now) c.args.found.now.entry c.in_ok-read.read c.in_ok-read.ensures.words c.in_ok-read.ensures.charge from there) state layout unlinked objects keep item k p

pub returns-clause-stops : goal.returns-clause-stops
returns-clause-stops g c from there state layout unlinked objects keep item k p =
    passes_stayed c.in_ok-read.ensures.reads.stays (c.in_ok-take_read.ensures.stops from (told_now from c.in_ok-read.ensures.reads.stays there) (owned-by (g.F.Folder.told c.args.folder.now) c.args.found.now.entry c.in_ok-read.read c.in_ok-read.ensures.words c.in_ok-read.ensures.charge from there) state layout unlinked objects keep item k p)

pub returns-clause-out : goal.returns-clause-out
returns-clause-out g c from there state layout keep chains unlinked item k p =
    c.in_ok-take_read.ensures.out from (told_now from c.in_ok-read.ensures.reads.stays there) (owned-by (g.F.Folder.told c.args.folder.now) c.args.found.now.entry c.in_ok-read.read c.in_ok-read.ensures.words c.in_ok-read.ensures.charge from there) state layout keep chains unlinked item k p

pub returns-clause-going : goal.returns-clause-going
returns-clause-going g c from there state layout keep chains unlinked item k p =
    passes_stayed c.in_ok-read.ensures.reads.stays (c.in_ok-take_read.ensures.going from (told_now from c.in_ok-read.ensures.reads.stays there) (owned-by (g.F.Folder.told c.args.folder.now) c.args.found.now.entry c.in_ok-read.read c.in_ok-read.ensures.words c.in_ok-read.ensures.charge from there) state layout keep chains unlinked item k p)
