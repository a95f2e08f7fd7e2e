use Rattle.law_state.proofs.NewEntries.{entries-kept, inserts-find, links-find, one-more}
use Rattle.law_state.proofs.calls.new_entries_are_kept.Goals as goal

pub returns : goal.returns
returns c = record { inserting = inserts-find; linking = links-find; kept = entries-kept; one_more = one-more }
