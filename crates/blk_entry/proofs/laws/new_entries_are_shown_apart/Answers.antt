use Rattle.blk_entry.proofs.NewClaims.{new-places-covered, new-places-apart}
use Rattle.blk_entry.proofs.NewSingle.{new-claims-single}
use Rattle.blk_entry.proofs.laws.new_entries_are_shown_apart.Goals as goal

pub returns : goal.returns
returns c = record { covered = new-places-covered; apart = new-places-apart; single = new-claims-single }
