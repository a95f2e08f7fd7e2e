use Rattle.std.proofs.Common.{◌∙◌}
use Rattle.std.proofs.lemmas.Result.{on_ok_weaker}
use Rattle.blk_repair.specs.Deletions.{Deletes, is_unclaimed, is_unlinked, last_block_file, last_first_file}
use Rattle.blk_repair.proofs.EndingRuns.{deletions-break}
use Rattle.blk_repair.proofs.Endings.{breaks-weaker}
use Rattle.blk_repair.proofs.PartRuns.{deletes-made, in-turn}
use Rattle.blk_repair.proofs.RepairRuns.{deletion-mid, deletions-done, here-still}
use Rattle.blk_repair.proofs.repairing.delete_others.Goals as goal

pub returns-in_err-delete_unlinked-clause-stops : goal.returns-in_err-delete_unlinked-clause-stops
returns-in_err-delete_unlinked-clause-stops g c from there entry next = breaks-weaker (c.delete_unlinked.ensures.stops from there entry next.holds) (deletion-mid entry from)

pub returns-clause-mended : goal.returns-clause-mended
returns-clause-mended g c =
    on_ok_weaker c.delete_unclaimed.result
    (λ claimed from there entry next.
    deletions-done c.args.claims.now (g.F.Folder.told c.args.folder.now) (g.F.Folder.told c.delete_unlinked.new.folder) (g.F.Folder.told c.delete_unclaimed.new.folder) entry from there next (c.delete_unlinked.ensures.stops from there entry next.holds).passes
    (λ mid here entry rest. (c.delete_unclaimed.ensures.stops mid here entry rest).passes) c.in_ok-delete_unlinked.ensures.linked claimed) c.delete_unclaimed.ensures.claimed

pub returns-clause-stops : goal.returns-clause-stops
returns-clause-stops g c from there entry next =
    deletions-break c.args.claims.now (g.F.Folder.told c.args.folder.now) (g.F.Folder.told c.delete_unlinked.new.folder) (g.F.Folder.told c.delete_unclaimed.new.folder) entry from there next (c.delete_unlinked.ensures.stops from there entry next.holds) c.delete_unclaimed.ensures.stops

pub returns-clause-is_open : goal.returns-clause-is_open
returns-clause-is_open g c = c.delete_unclaimed.ensures.is_open c.args.files.now c.delete_unlinked.ensures.is_open

pub returns-clause-clean : goal.returns-clause-clean
returns-clause-clean g c =
    on_ok_weaker c.delete_unclaimed.result
    (λ claimed from there entry next only.
    let same = c.delete_unlinked.ensures.clean from there only.only_linked in
    c.delete_unclaimed.ensures.clean from (here-still from there same) entry next only.only_claimed ∙ same) c.delete_unclaimed.ensures.claimed

pub returns-clause-steps : goal.returns-clause-steps
returns-clause-steps g c =
    on_ok_weaker c.delete_unclaimed.result
    (λ all from there.
    in-turn (g.F.Folder.told c.delete_unclaimed.new.folder) (Deletes (is_unlinked c.args.files.now) last_first_file) (Deletes (is_unclaimed c.args.claims.now) last_block_file) from there
    (deletes-made (is_unlinked c.args.files.now) last_first_file from there c.in_ok-delete_unlinked.ensures.steps)
    (λ mid here. deletes-made (is_unclaimed c.args.claims.now) last_block_file mid here all)) c.delete_unclaimed.ensures.steps
