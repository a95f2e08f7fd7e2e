use Rattle.blk_cache.proofs.Ends.{ends-sound, holds-still, kept-open}
use Rattle.blk_cache.proofs.laws.kept_folders_end_sound.Goals as goal

pub returns : goal.returns
returns c = record { is_open = kept-open; still = holds-still; sound = ends-sound }
