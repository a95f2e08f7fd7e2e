use Rattle.law_recovery.proofs.MendedLinks.{links-represent}
use Rattle.law_recovery.proofs.mended_links_represent.Goals as goal

pub returns : goal.returns
returns c = links-represent
