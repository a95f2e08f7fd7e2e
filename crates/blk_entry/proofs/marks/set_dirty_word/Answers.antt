use Rattle.std.proofs.Common.{◌≡◌, ℕ, ◌<◌, ◌^◌, true, Some, subst, arith}
use Rattle.spec_image.specs.Image.{Image}
use Rattle.spec_format.specs.Address.{is_address}
use Rattle.spec_format.specs.Sealed.{IsMidUpdate, RecordChecks}
use Rattle.blk_entry.specs.Marks.{SetsDirtyInProgress, dirty_change}
use Rattle.std.proofs.lemmas.Result.{on_ok_weaker}
use Rattle.spec_image.proofs.Runs.{passes_weaker}
use Rattle.blk_entry.proofs.Marking.{mark_changes, marking_at, marked_at}
use Rattle.blk_entry.proofs.marks.set_dirty_word.Given as given
use Rattle.blk_entry.proofs.marks.set_dirty_word.Goals as goal
use Rattle.blk_entry.proofs.marks.set_dirty_word.Goals.{After-update_sealed}

pub update_sealed-requires-clause-changes : goal.update_sealed-requires-clause-changes
update_sealed-requires-clause-changes g c = mark_changes c.args.node c.args.mark c.requires.kind

small : (g : given.Over) (c : After-update_sealed g) → c.args.mark < 2 ^ 32
small g c = omega (arith, c.ranges.mark.fits)

-- what holds at each word of the update
moment_of : (g : given.Over) (c : After-update_sealed g) (from : Image) → (g.F.Folder.told c.args.folder.now).files ≡ Some from → RecordChecks c.args.node from → (image : Image) → IsMidUpdate from c.args.node (dirty_change c.args.mark) image → SetsDirtyInProgress from c.args.node c.args.mark image
moment_of g c from there good image =
    marking_at from image c.args.node c.args.mark c.requires.kind (small g c) c.args.files.now (c.requires.agrees from there) c.requires.stands (subst (λ (v : ℕ). is_address v ≡ true) c.word-word.ensures.word c.word-word.ensures.address)
    (g.met.F.Folder.are_bytes c.args.folder.now from there) good

pub returns-clause-sets : goal.returns-clause-sets
returns-clause-sets g c = record {
  checked = c.update_sealed.ensures.checked;
  marked = on_ok_weaker c.update_sealed.result (λ updated from there image now. marked_at from image c.args.node c.args.mark c.requires.kind (small g c) (updated from there image now) (g.met.F.Folder.are_bytes c.update_sealed.new.f image now)) c.update_sealed.ensures.updated;
  checks = c.update_sealed.ensures.checks;
  agrees = c.update_sealed.ensures.agrees;
  steps = c.update_sealed.ensures.steps;
  prefix = c.update_sealed.ensures.prefix.made;
  stops = λ from there good. passes_weaker (c.update_sealed.ensures.stops from there good) (moment_of g c from there good) (moment_of g c from there good);
  damaged = c.update_sealed.ensures.damaged;
  unwritten = c.update_sealed.ensures.unwritten;
  untold = c.update_sealed.ensures.untold;
  silent = c.update_sealed.ensures.prefix.silent;
}
