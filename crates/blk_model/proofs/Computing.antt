-- All that a computation with commands, snapshots and crashes unfolds, named once.
use Rattle.std.specs.Fmt.{digits}
use Rattle.blk_model.specs.Bytes.{numbers_from}
use Rattle.blk_model.specs.Charge.{part_name}
use Rattle.blk_model.specs.Holding.{found_object, objects_in, parts_in, open_state, row_of, rows, settled_row, rest}
use Rattle.blk_model.specs.Sparse.{counts_from, partial_after, presence_after, part_after, covered_parts, parts_after, sparse_bytes, present_run}
use Rattle.blk_model.specs.Room.{charge, pinned_of, groups_from_back, left_of, without, evicted_until, room}
use Rattle.blk_model.specs.Effects.{created, opened, written, sparse_after, sparse_written, sparse_used, doomed, closed, flushed, effect}
use Rattle.blk_model.specs.Refusals.{room_for, evicted, refusals}
use Rattle.blk_model.specs.Step.{reply, outcome, step}
use Rattle.blk_model.specs.ListSteps.{doom_steps, uses_of, dooms, steps_unless, list_steps, list_after}
use Rattle.blk_model.specs.Stops.{is_safe, is_turned, picked_by, picked, pick}

-- a proof that computes writes `unfolding computing`
unfoldable pub computing : Unit {0}
unfolding digits numbers_from part_name found_object objects_in parts_in open_state row_of rows settled_row rest counts_from partial_after presence_after part_after covered_parts parts_after sparse_bytes present_run charge pinned_of groups_from_back left_of without evicted_until room created opened written sparse_after sparse_written sparse_used doomed closed flushed effect room_for evicted refusals reply outcome step doom_steps uses_of dooms steps_unless list_steps list_after is_safe is_turned picked_by picked pick
computing = tt
