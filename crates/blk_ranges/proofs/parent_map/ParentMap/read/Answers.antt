use Rattle.std.proofs.Common.{ℕ, List, ◌++◌, ap, ap₂, sym, ◌∙◌}
use Rattle.std.specs.Prelude.{option_map}
use Rattle.std.proofs.lemmas.Bool.{ne_eqb}
use Rattle.blk_ranges.specs.ParentMaps.{parent_index_of, parent_bytes}
use Rattle.blk_ranges.proofs.ParentIndexes.{chunk-is, no-index, no-head, parts-read}
use Rattle.std.proofs.lemmas.List.{take-append-drop}
use Rattle.blk_ranges.proofs.parent_map.ParentMap.read.Goals as goal

pub returns-then-bytes-ne-LEN-clause-index : goal.returns-then-bytes-ne-LEN-clause-index
returns-then-bytes-ne-LEN-clause-index c = no-index c.args.bytes.now (ne_eqb _ _ c.if-bytes-ne-LEN.true)

pub returns-in_err-head-clause-index : goal.returns-in_err-head-clause-index
returns-in_err-head-clause-index c = ap (option_map parent_index_of) c.from_residual.ensures ∙ no-head c.args.bytes.now c.if-bytes-ne-LEN.false c.in_err-head.ensures.fields

pub returns-clause-index : goal.returns-clause-index
returns-clause-index c = parts-read (record { head = c.in_ok-head.head; parts = c.in_ok-parts.parts.now }) c.args.bytes.now c.if-bytes-ne-LEN.false c.in_ok-head.ensures.fields (chunk-is c.args.bytes.now c.in_ok-parts.parts.now c.if-bytes-ne-LEN.false c.in_ok-parts.ensures.cases.same)

pub returns-clause-printed : goal.returns-clause-printed
unfolding parent_bytes
returns-clause-printed c =
    sym (take-append-drop 64 c.args.bytes.now) ∙ ap₂ (λ (a b : List ℕ). a ++ b) c.in_ok-head.ensures.printed (sym (chunk-is c.args.bytes.now c.in_ok-parts.parts.now c.if-bytes-ne-LEN.false c.in_ok-parts.ensures.cases.same))
