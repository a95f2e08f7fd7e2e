use Rattle.law_state.proofs.NewParts.{noted-changes, parents-data-may-change, parts-are-linked, parts-at-each-write, parts-at-rest, parts-end, parts-hold-others}
use Rattle.law_state.proofs.calls.new_parts_are_shown.Goals as goal

pub returns : goal.returns
returns c = record { others = parts-hold-others; at_rest = parts-at-rest; at_each_word = parts-at-each-write; linked = parts-are-linked; parent = parents-data-may-change; noted = noted-changes; ends = parts-end }
