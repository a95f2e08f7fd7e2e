use Rattle.law_folder.proofs.claims.ByteChanges.{views-same}
use Rattle.law_folder.proofs.claims.Covers.{blocks-covered, externals-covered, headers-covered, hidden-covered, covers-less, covers-more, covers-either}
use Rattle.law_folder.proofs.covered_changes_stay_inside.Goals as goal

pub returns : goal.returns
returns c = record {
  shown = λ old new footprint touched same covers. views-same footprint old new touched same covers;
  blocks = blocks-covered;
  externals = externals-covered;
  headers = headers-covered;
  hidden = hidden-covered;
  less = covers-less;
  more = covers-more;
  either = covers-either;
}
