use Rattle.law_folder.proofs.updates.IndexWords.{heads-written, tails-written, transactions-written, operations-written, others-hidden, buckets-written, sound-unchecked, others-unchecked, others-uncounted, versions-raised, buckets-unchecked, index-stands}
use Rattle.law_folder.proofs.mid_updates.index_words_are_written.Goals as goal

pub returns : goal.returns
returns c = record {
  head = heads-written;
  tail = tails-written;
  transaction = transactions-written;
  operation = operations-written;
  hidden = others-hidden;
  buckets = buckets-written;
  checked = others-unchecked;
  sound = sound-unchecked;
  raised = versions-raised;
  counted = others-uncounted;
  table = buckets-unchecked;
  stands = index-stands;
}
