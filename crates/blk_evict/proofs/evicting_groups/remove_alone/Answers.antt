use Rattle.std.proofs.Common.{◌≡◌, ◌∙◌, [], ◌∷◌, None, sym, subst, ℕ}
use Rattle.spec_image.specs.Told.{Passes, Told}
use Rattle.spec_image.proofs.Runs.{passes_stayed}
use Rattle.blk_io.proofs.Carried.{carried}
use Rattle.blk_io.specs.Faults.{IfDamaged}
use Rattle.blk_lru.proofs.Conditions.{told_now}
use Rattle.blk_model.specs.Room.{without}
use Rattle.blk_model.specs.State.{State}
use Rattle.blk_object.specs.RemovingObjects.{FindsEither, IsOwnedBy}
use Rattle.blk_evict.specs.RoomLaws.{group_for}
use Rattle.blk_evict.proofs.GroupsOut.{as-child, as-goes, as-listed, as-out, loads-there, stayed-stops}
use Rattle.blk_object.specs.FailedChecks.{IsFailedCheck}
use Rattle.blk_evict.proofs.evicting_groups.remove_alone.Goals as goal

pub returns-in_err-at-clause-stops : goal.returns-in_err-at-clause-stops
returns-in_err-at-clause-stops g c from there by state layout is =
    stayed-stops (g.F.Folder.told c.args.folder.now) (g.F.Folder.told c.find_listed.new.folder) state (without (group_for is.last.item is.last.front ∷ []) state) layout from there c.in_err-at.ensures.reads.stays is.kept

pub returns-in_err-at-clause-is_open : goal.returns-in_err-at-clause-is_open
returns-in_err-at-clause-is_open g c image there = c.requires.is_open image (told_now image (sym c.in_err-at.ensures.reads.stays) there)

pub returns-in_err-at-clause-untold : goal.returns-in_err-at-clause-untold
returns-in_err-at-clause-untold g c from there by state layout is =
    carried c.find_listed.result c.from_residual.result c.in_err-at.field-0.0 (λ _. (g.F.Folder.told c.args.folder.now).files ≡ None) c.in_err-at.was c.from_residual.ensures.1
    (c.find_listed.ensures.untold c.requires.is_open from there state layout [] is.last.item is.last.loaded is.kept.entries (as-listed state layout from c.args.found.now c.args.is_child c.args.name.now is) is.last.here is.key_is (as-child state layout from c.args.found.now c.args.is_child c.args.name.now is))

pub remove_read-requires-clause-is_open : goal.remove_read-requires-clause-is_open
remove_read-requires-clause-is_open g c image there = c.requires.is_open image (told_now image (sym c.in_ok-at.ensures.reads.stays) there)

pub returns-in_err-remove_read-clause-stops : goal.returns-in_err-remove_read-clause-stops
returns-in_err-remove_read-clause-stops g c from there by state layout is =
    let listed = as-listed state layout from c.args.found.now c.args.is_child c.args.name.now is in
    let child = as-child state layout from c.args.found.now c.args.is_child c.args.name.now is in
    let entry = c.in_ok-at.ensures.lies from there state layout [] is.last.item is.last.loaded is.kept.entries listed is.last.here is.key_is child in
    let behind = c.in_ok-at.ensures.behind from there state layout [] is.last.item is.last.loaded is.kept.entries listed is.last.here is.key_is child in
    let goes = as-goes state layout from c.args.found.now c.args.is_child c.args.name.now is c.in_ok-at.at.entry c.in_ok-at.at.before entry behind in
    passes_stayed c.in_ok-at.ensures.reads.stays
    (subst (λ (after : State). Passes (g.F.Folder.told c.find_listed.new.folder) (g.F.Folder.told c.remove_read.new.folder) (FindsEither state after)) goes.same
    (c.in_err-remove_read.ensures.stops from (told_now from c.in_ok-at.ensures.reads.stays there) (subst (λ (w : ℕ). IsOwnedBy w c.args.owned.now from) (is.last.entry ∙ entry) by) state layout [] goes.objects goes.keep is.last.item is.kept goes.alone))

pub returns-in_err-remove_read-clause-untold : goal.returns-in_err-remove_read-clause-untold
returns-in_err-remove_read-clause-untold g c from there by state layout is =
    let listed = as-listed state layout from c.args.found.now c.args.is_child c.args.name.now is in
    let child = as-child state layout from c.args.found.now c.args.is_child c.args.name.now is in
    let entry = c.in_ok-at.ensures.lies from there state layout [] is.last.item is.last.loaded is.kept.entries listed is.last.here is.key_is child in
    let behind = c.in_ok-at.ensures.behind from there state layout [] is.last.item is.last.loaded is.kept.entries listed is.last.here is.key_is child in
    let goes = as-goes state layout from c.args.found.now c.args.is_child c.args.name.now is c.in_ok-at.at.entry c.in_ok-at.at.before entry behind in
    subst (λ (t : Told). IfDamaged c.from_residual-in_err-remove_read.result (λ _. t.files ≡ None)) c.in_ok-at.ensures.reads.stays
    (carried c.remove_read.result c.from_residual-in_err-remove_read.result c.in_err-remove_read.field-0.0 (λ _. (g.F.Folder.told c.find_listed.new.folder).files ≡ None) c.in_err-remove_read.was c.from_residual-in_err-remove_read.ensures.1
    (c.remove_read.ensures.untold from (told_now from c.in_ok-at.ensures.reads.stays there) (subst (λ (w : ℕ). IsOwnedBy w c.args.owned.now from) (is.last.entry ∙ entry) by) state layout [] goes.objects goes.keep is.last.item is.kept goes.alone))

pub returns-clause-out : goal.returns-clause-out
returns-clause-out g c from there by state layout is now then_there =
    let listed = as-listed state layout from c.args.found.now c.args.is_child c.args.name.now is in
    let child = as-child state layout from c.args.found.now c.args.is_child c.args.name.now is in
    let entry = c.in_ok-at.ensures.lies from there state layout [] is.last.item is.last.loaded is.kept.entries listed is.last.here is.key_is child in
    let behind = c.in_ok-at.ensures.behind from there state layout [] is.last.item is.last.loaded is.kept.entries listed is.last.here is.key_is child in
    let goes = as-goes state layout from c.args.found.now c.args.is_child c.args.name.now is c.in_ok-at.at.entry c.in_ok-at.at.before entry behind in
    let mid = told_now from c.in_ok-at.ensures.reads.stays there in
    let at_by = subst (λ (w : ℕ). IsOwnedBy w c.args.owned.now from) (is.last.entry ∙ entry) by in
    as-out state layout from c.args.found.now c.args.is_child c.args.name.now is c.in_ok-at.at.entry c.in_ok-at.at.before entry behind now
    (c.in_ok-remove_read.ensures.removed from mid at_by state layout [] goes.objects goes.keep is.last.item is.kept goes.alone now then_there)
    c.args.owned.now.charge
    (by.charge is.last.loaded (loads-there state layout [] from is.kept.entries is.last.item is.last.loaded listed is.last.here c.args.found.now.entry (sym is.last.entry)))
    (c.in_ok-remove_read.ensures.session from mid at_by state layout [] goes.objects goes.keep is.last.item is.kept goes.alone now then_there)

pub returns-clause-stops : goal.returns-clause-stops
returns-clause-stops g c from there by state layout is =
    let listed = as-listed state layout from c.args.found.now c.args.is_child c.args.name.now is in
    let child = as-child state layout from c.args.found.now c.args.is_child c.args.name.now is in
    let entry = c.in_ok-at.ensures.lies from there state layout [] is.last.item is.last.loaded is.kept.entries listed is.last.here is.key_is child in
    let behind = c.in_ok-at.ensures.behind from there state layout [] is.last.item is.last.loaded is.kept.entries listed is.last.here is.key_is child in
    let goes = as-goes state layout from c.args.found.now c.args.is_child c.args.name.now is c.in_ok-at.at.entry c.in_ok-at.at.before entry behind in
    passes_stayed c.in_ok-at.ensures.reads.stays
    (subst (λ (after : State). Passes (g.F.Folder.told c.find_listed.new.folder) (g.F.Folder.told c.remove_read.new.folder) (FindsEither state after)) goes.same
    (c.in_ok-remove_read.ensures.stops from (told_now from c.in_ok-at.ensures.reads.stays there) (subst (λ (w : ℕ). IsOwnedBy w c.args.owned.now from) (is.last.entry ∙ entry) by) state layout [] goes.objects goes.keep is.last.item is.kept goes.alone))

pub returns-in_err-at-clause-damaged : goal.returns-in_err-at-clause-damaged
returns-in_err-at-clause-damaged g c says =
    carried c.find_listed.result c.from_residual.result c.in_err-at.field-0.0 (IsFailedCheck c.args.files.now (g.F.Folder.told c.find_listed.new.folder)) c.in_err-at.was c.from_residual.ensures.1 (c.find_listed.ensures.damaged says)
