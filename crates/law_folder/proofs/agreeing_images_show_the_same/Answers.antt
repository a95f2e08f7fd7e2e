use Rattle.law_folder.proofs.claims.ByteChanges.{last-there, agreeing-views, covered-agrees, growth-past, same-links, agreement-goes_on, agreement-more}
use Rattle.law_folder.proofs.agreeing_images_show_the_same.Goals as goal

pub returns : goal.returns
returns c = record {
  last = last-there;
  shown = λ touched old new same. agreeing-views touched old new same;
  covered = λ old new footprint touched same covers. covered-agrees footprint old new touched same covers;
  growth = λ old new long grown. growth-past old new long grown;
  links = same-links;
  then_on = λ touched old between new first later. agreement-goes_on touched old between new first later;
  more = λ less more old new wider same. agreement-more less more old new wider same;
}
