-- One command: what it evicts, what it replies, and the state after it.
use Rattle.std.specs.Prelude.{ℕ, List, [], length, sum_by, Option, Some, None}
use Rattle.blk_model.specs.declared.Refusal.{Refusal}
use Rattle.blk_model.specs.declared.Answer.TheVariants as answer
use Rattle.blk_model.specs.Bytes.{bytes_from}
use Rattle.blk_model.specs.State.{State}
use Rattle.blk_model.specs.Holding.{rows}
use Rattle.blk_model.specs.Sparse.{sparse_bytes, present_run}
use Rattle.blk_model.specs.Request.{Request, to_create, to_open, to_read, to_write, to_size, to_sparse_write, to_sparse_read, to_sparse_range, to_doom, to_doom_key, to_close, to_flush, to_list, to_trim, to_total}
use Rattle.blk_model.specs.Reply.{Reply, answered, gave, showed}
use Rattle.blk_model.specs.Room.{Group, items_of_group, total, items, without}
use Rattle.blk_model.specs.Effects.{object_of, stream_of, effect}
use Rattle.blk_model.specs.Refusals.{refused, evicted}

-- the reply to a command that was not refused, which evicted these eviction units
unfoldable pub reply : Request → List Group → State → Reply
reply (to_create handle key) groups state = answered answer.Done
reply (to_open handle key) groups state = answered answer.Done
reply (to_read handle stream offset count) groups state = gave (bytes_from (stream_of (object_of state handle) stream) offset count)
reply (to_write handle stream offset cut bytes) groups state = answered (answer.Wrote (length bytes))
reply (to_size handle stream) groups state = answered (answer.Size (length (stream_of (object_of state handle) stream)))
reply (to_sparse_write handle offset bytes) groups state = answered (answer.Wrote (length bytes))
reply (to_sparse_read handle offset count) groups state = gave (sparse_bytes (object_of state handle) offset count)
reply (to_sparse_range handle offset count) groups state = let run = present_run (object_of state handle) offset count in answered (answer.Range run.0 run.1)
reply (to_doom handle) groups state = answered answer.Done
reply (to_doom_key key) groups state = answered answer.Done
reply (to_close handle) groups state = answered answer.Done
reply (to_flush handle) groups state = answered answer.Done
reply to_list groups state = showed (rows state)
reply (to_trim bytes) groups state = answered (answer.Trimmed (sum_by (λ group. length (items_of_group group)) groups))
reply to_total groups state = answered (answer.Totals (items state) (total state))

-- what a command gives: the eviction units that are evicted, the reply and the new state
pub record Outcome : Type 0 where
  pub groups : List Group
  pub reply : Reply
  pub state : State

-- the outcome of a command that was refused for this reason or not: a refusal changes nothing; else the eviction units are evicted, and then the command has
-- its effect
unfoldable pub outcome : ℕ → Request → State → Option Refusal → Outcome
outcome moment request state (Some why) = record { groups = []; reply = answered (answer.Refused why); state = state }
outcome moment request state None =
    let groups = evicted moment request state in
    record { groups = groups; reply = reply request groups state; state = effect moment request (without groups state) }

-- the outcome of one command on a state at a moment
unfoldable pub step : State → ℕ → Request → Outcome
step state moment request = outcome moment request state (refused moment request state)
