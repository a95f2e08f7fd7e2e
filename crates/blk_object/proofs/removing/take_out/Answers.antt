use Rattle.std.proofs.Common.{inl, None, ◌≡◌}
use Rattle.spec_image.proofs.Runs.{passes_weaker}
use Rattle.blk_io.proofs.Carried.{carried, if_damaged_weaker}
use Rattle.spec_folder.specs.Completion.{remove}
use Rattle.spec_folder.specs.ListImages.{operation_steps}
use Rattle.blk_lru.proofs.Results.{on_ok_both}
use Rattle.blk_object.proofs.TakingOut.{amid-listed, before-good, listing-stops, part-back, part-told, taken-out, taking-stops}
use Rattle.blk_object.proofs.DamageChecks.{checked-where-stays, handed, of-some, removal-checked, unlink-checked}
use Rattle.blk_object.proofs.removing.take_out.Goals as goal

pub returns-in_err-remove-clause-stops : goal.returns-in_err-remove-clause-stops
returns-in_err-remove-clause-stops g c from there may =
    passes_weaker (listing-stops c.args.files.now c.args.node c.args.found.now.entry c.args.found.now.before (g.F.Folder.told c.args.folder.now) (g.F.Folder.told c.remove.new.f) c.in_err-remove.ensures.stops from there may) (λ image p. inl p) (λ image p. inl p)

pub returns-in_err-remove-clause-untold : goal.returns-in_err-remove-clause-untold
returns-in_err-remove-clause-untold g c may =
    carried c.remove.result c.from_residual.result c.in_err-remove.field-0.0 (λ _. (g.F.Folder.told c.args.folder.now).files ≡ None) c.in_err-remove.was c.from_residual.ensures.1
    (c.remove.ensures.untold (λ image there. amid-listed c.args.node image (may image there).listed))

pub returns-clause-taken : goal.returns-clause-taken
returns-clause-taken g c =
    on_ok_both c.unlink.result
    (λ unlinked sealed from there may. taken-out c.args.files.now c.args.node c.args.found.now.entry c.args.found.now.before (g.F.Folder.told c.args.folder.now) (g.F.Folder.told c.remove.new.f) (g.F.Folder.told c.unlink.new.f)
    (g.met.F.Folder.are_bytes c.args.folder.now) (g.met.F.Folder.are_bytes c.remove.new.f) c.requires.is_open c.in_ok-remove.ensures.stops c.in_ok-remove.ensures.steps from there may unlinked sealed (g.met.F.Folder.are_bytes c.unlink.new.f))
    c.unlink.ensures.unlinked c.unlink.ensures.sealed

pub returns-clause-stops : goal.returns-clause-stops
returns-clause-stops g c from there may =
    taking-stops c.args.files.now c.args.node c.args.found.now.entry c.args.found.now.before (g.F.Folder.told c.args.folder.now) (g.F.Folder.told c.remove.new.f) (g.F.Folder.told c.unlink.new.f)
    (g.met.F.Folder.are_bytes c.args.folder.now) (g.met.F.Folder.are_bytes c.remove.new.f) c.requires.is_open c.in_ok-remove.ensures.stops c.in_ok-remove.ensures.steps from there may c.unlink.ensures.commits

pub returns-clause-untold : goal.returns-clause-untold
returns-clause-untold g c may =
    if_damaged_weaker c.unlink.result _ _
    (λ damage none. part-back (g.F.Folder.told c.args.folder.now) (g.F.Folder.told c.remove.new.f) (λ from. operation_steps remove c.args.node from) c.in_ok-remove.ensures.prefix none)
    (c.unlink.ensures.untold (λ between here.
    let start = part-told (g.F.Folder.told c.args.folder.now) (g.F.Folder.told c.remove.new.f) (λ from. operation_steps remove c.args.node from) c.in_ok-remove.ensures.prefix between here in
    before-good c.args.files.now c.args.node c.args.found.now.entry c.args.found.now.before (g.F.Folder.told c.args.folder.now) (g.F.Folder.told c.remove.new.f) (g.F.Folder.told c.unlink.new.f)
    (g.met.F.Folder.are_bytes c.args.folder.now) (g.met.F.Folder.are_bytes c.remove.new.f) c.requires.is_open c.in_ok-remove.ensures.stops c.in_ok-remove.ensures.steps start.0 start.1 (may start.0 start.1) between here))

pub returns-in_err-remove-clause-damaged : goal.returns-in_err-remove-clause-damaged
returns-in_err-remove-clause-damaged g c =
    handed c.remove.result c.from_residual.result c.in_err-remove.field-0.0 _ c.args.files.now (g.F.Folder.told c.remove.new.f) (removal-checked c.args.node c.args.files.now _ _) c.in_err-remove.was c.from_residual.ensures.1 c.remove.ensures.damaged

pub returns-clause-damaged : goal.returns-clause-damaged
returns-clause-damaged g c =
    checked-where-stays c.unlink.result c.args.files.now (g.F.Folder.told c.remove.new.f) (g.F.Folder.told c.unlink.new.f) _
    (λ damage wrong. unlink-checked c.args.files.now (g.F.Folder.told c.remove.new.f) c.args.found.now.entry c.args.found.now.before damage (λ w is. (of-some c.args.found.now.before w _ is c.requires.kind_before, of-some c.args.found.now.before w _ is c.requires.stands_before)) wrong)
    c.unlink.ensures.unwritten c.unlink.ensures.damaged
