use Rattle.law_folder.proofs.states.Bare.{bare-found, bare-sound, represents-empty, bare-stands}
use Rattle.law_folder.proofs.folders_without_entries_are_sound.Goals as goal

pub returns : goal.returns
returns c = record {
  held = bare-found;
  sound = bare-sound;
  represented = λ image limits bare. represents-empty image bare limits;
  stands = λ image limits bare. bare-stands image bare limits;
}
