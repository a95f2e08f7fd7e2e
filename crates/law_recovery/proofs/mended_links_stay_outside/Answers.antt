use Rattle.law_recovery.proofs.MendedChanges.{links-outside, links-grow, unlinked-deleted, unclaimed-change, hidden-change, version-change}
use Rattle.law_recovery.proofs.mended_links_stay_outside.Goals as goal

pub returns : goal.returns
returns c = record { outside = links-outside; grow = links-grow; unlinked = unlinked-deleted; unclaimed = unclaimed-change; words = hidden-change; version = version-change }
