use Rattle.std.proofs.Common.{◌∙◌, ap}
use Rattle.spec_image.specs.Told.{Told}
use Rattle.blk_disk.proofs.Following.{follows_none, follows_all}
use Rattle.blk_disk.proofs.TakingUp.{numbers_none}
use Rattle.blk_disk.specs.Tables.{all_files}
use Rattle.blk_disk.proofs.tables.BlockFiles.load.Goals as goal

pub follow-requires-clause-begun : goal.follow-requires-clause-begun
follow-requires-clause-begun g c image there = follows_none c.none-files.result image c.none-files.ensures

pub returns-clause-loaded : goal.returns-clause-loaded
returns-clause-loaded g c image there =
    let stays = c.in_ok-follow-4.ensures.reads.stays ∙ c.in_ok-follow-3.ensures.reads.stays ∙ c.in_ok-follow-2.ensures.reads.stays ∙ c.in_ok-follow.ensures.reads.stays in
    follows_all c.follow-4.new.self image (c.in_ok-follow-4.ensures.followed image (ap (λ (t : Told). t.files) stays ∙ there))

pub follow-requires-clause-numbers : goal.follow-requires-clause-numbers
follow-requires-clause-numbers g c = numbers_none (all_files c.none-files.result) 0 c.none-files.ensures.all
