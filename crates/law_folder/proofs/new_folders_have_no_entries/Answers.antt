use Rattle.law_folder.proofs.states.NewFolders.{new-bare, new-formed}
use Rattle.law_folder.proofs.states.Uninitialized.{others-add_none, uninitialized-bare}
use Rattle.law_folder.proofs.new_folders_have_no_entries.Goals as goal

pub returns : goal.returns
returns c = record { none = new-bare; formed = new-formed; words = others-add_none; uninitialized = uninitialized-bare }
