use Rattle.law_folder.proofs.commands.Created.{written-stay, before-insert, at-each-write, at-end, after-link, at-the-step, creates-rest, create-stops}
use Rattle.law_folder.proofs.creates_at_each_write.Goals as goal

pub returns : goal.returns
returns c = record {
  written = written-stay;
  before = before-insert;
  at_each_word = at-each-write;
  ends = at-end;
  after = after-link;
  step = at-the-step;
  rests = λ old new state layout key loaded written handle. creates-rest old new state layout key loaded written handle;
  stops = create-stops;
}
