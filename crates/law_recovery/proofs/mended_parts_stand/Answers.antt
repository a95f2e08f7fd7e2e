use Rattle.law_recovery.proofs.MendedParts.{unlinked-leave, external-leaves, files-mended, words-leave, counters-left}
use Rattle.law_recovery.proofs.mended_parts_stand.Goals as goal

pub returns : goal.returns
returns c = record { unlinked = unlinked-leave; external = external-leaves; files = files-mended; words = words-leave; counters = counters-left }
