use Rattle.law_folder.proofs.commands.DoomedObjects.{listed-rest}
use Rattle.law_folder.proofs.commands.Dooming.{dooms-keep, doomed-is-laid, doomed-is-represented}
use Rattle.law_folder.proofs.commands.DoomWrites.{dooms-moments, doomed-parts}
use Rattle.law_folder.proofs.changes.dooms_keep_the_others.Goals as goal

pub returns : goal.returns
returns c = record {
  before = listed-rest;
  after = dooms-keep;
  at_each_word = dooms-moments;
  parts = doomed-parts;
  laid = doomed-is-laid;
  represented = doomed-is-represented;
}
