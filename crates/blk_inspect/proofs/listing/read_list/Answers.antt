use Rattle.std.proofs.Common.{ap, ◌∙◌}
use Rattle.blk_audit.specs.Walking.{nodes_walked}
use Rattle.blk_audit.proofs.Carrying.{carried}
use Rattle.blk_inspect.specs.Findings.{findings_text}
use Rattle.blk_inspect.specs.Texts.{list_text, listed_text, node_line_at}
use Rattle.blk_inspect.proofs.Listed.{nodes_shown}
use Rattle.blk_inspect.proofs.listing.read_list.Goals as goal

pub returns-clause-found : goal.returns-clause-found
unfolding findings_text list_text
returns-clause-found g c image there agrees =
    let are = c.in_ok-lists.ensures.lists image there agrees in
    nodes_shown image (nodes_walked c.in_ok-lists.lists.walked) c.in_ok-rows.rows.items (c.in_ok-rows.ensures image are) ∙ ap (listed_text (node_line_at image)) are.walked

pub returns-in_err-lists-clause-damaged : goal.returns-in_err-lists-clause-damaged
returns-in_err-lists-clause-damaged g c = carried c.read_lists.result c.from_residual.result c.in_err-lists.field-0.0 _ c.in_err-lists.was c.from_residual.ensures.1 c.read_lists.ensures.damaged

pub returns-in_err-lists-clause-untold : goal.returns-in_err-lists-clause-untold
returns-in_err-lists-clause-untold g c is_open = carried c.read_lists.result c.from_residual.result c.in_err-lists.field-0.0 _ c.in_err-lists.was c.from_residual.ensures.1 (c.read_lists.ensures.untold is_open)
