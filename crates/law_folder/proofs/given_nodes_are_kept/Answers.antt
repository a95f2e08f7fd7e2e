use Rattle.law_folder.proofs.walks.Kept.{kept-shown, kept-alone}
use Rattle.law_folder.proofs.walks.Shown.{kept-given, dropped-none}
use Rattle.law_folder.proofs.given_nodes_are_kept.Goals as goal

pub returns : goal.returns
returns c = record { kept = kept-given; dropped = dropped-none; shown = kept-shown; alone = kept-alone }
