use Rattle.std.proofs.Common.{ap, ◌∙◌}
use Rattle.std.specs.Option.{option_map}
use Rattle.blk_handles.specs.Bindings.{open_object}
use Rattle.test_values.proofs.handles.bind.Goals as goal

-- the node of the open object was compared
pub bind-requires-clause-same_node : goal.bind-requires-clause-same_node
bind-requires-clause-same_node c object is =
    c.has_node.ensures c.if-not-has_node.false (open_object c.args.handles.now object) (c.object_of.ensures.object ∙ ap (option_map (open_object c.args.handles.now)) is)
