use Rattle.law_state.proofs.NewPartsKept.{making-finds, part-inserts-find, parts-kept, values-keep}
use Rattle.law_state.proofs.calls.new_parts_are_kept.Goals as goal

pub returns : goal.returns
returns c = record { inserting = part-inserts-find; making = making-finds; unsettled = values-keep; kept = parts-kept }
