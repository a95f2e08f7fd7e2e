-- What a folder may hold after a crash in the midst of a command.
use Rattle.std.specs.Prelude.{◌≡◌, ℕ, ◌≤◌, Bool, false, not, ◌&&◌, ◌||◌, cond, List, length, filter_map, Option, Some, None, option_and_then}
use Rattle.blk_model.specs.Items.{Item, Row}
use Rattle.blk_model.specs.State.{Object, State, object_at}
use Rattle.blk_model.specs.Holding.{owner, row_of}
use Rattle.blk_model.specs.Request.{Request}
use Rattle.blk_model.specs.ListSteps.{list_steps, list_after}

-- whether an object is there and live
abbrev pub is_live : Option Object → Bool
is_live None = false
is_live (Some object) = object.live

-- whether an object is there, live and clean
abbrev pub is_live_and_settled : Option Object → Bool
is_live_and_settled None = false
is_live_and_settled (Some object) = object.live && object.settled

-- an object is safe where it is clean before, and after it is clean or no longer live
unfoldable pub is_safe : State → State → ℕ → Bool
is_safe before after number = is_live_and_settled (object_at before number) && (is_live_and_settled (object_at after number) || not (is_live (object_at after number)))

-- whether one of two tests passes and not the other
abbrev pub differ : Bool → Bool → Bool
differ a b = (a && not b) || (not a && b)

-- an object is in transition where it stays live and is clean either before or after
unfoldable pub is_turned : State → State → ℕ → Bool
is_turned before after number =
    is_live (object_at before number) && is_live (object_at after number) && differ (is_live_and_settled (object_at before number)) (is_live_and_settled (object_at after number))

-- the row of an item of the object with a number, where it survives a crash: the object is safe, or it is in transition and `with` says that such objects
-- survive; else None
unfoldable pub picked_by : State → State → Bool → Item → ℕ → Option Row
picked_by before after with item number = cond (is_safe before after number || (with && is_turned before after number)) (row_of before item) None

-- the row of an item where it survives a crash in the object that owns it; else None
unfoldable pub picked : State → State → Bool → Item → Option Row
picked before after with item = option_and_then (picked_by before after with item) (owner before item)

-- the rows of the items that survive a crash, in the order of a list
unfoldable pub pick : State → State → Bool → List Item → List Row
pick before after with items = filter_map (picked before after with) items

-- a crash outcome of a command between two states: the rows that survive, in the order of the LRU list after some of its list steps
pub record StopOutcome (before : State) (moment : ℕ) (request : Request) (after : State) (held : List Row) : Type 0 where
  pub step_count : ℕ
  pub within : step_count ≤ length (list_steps before moment request)
  pub with_turned : Bool
  pub picked_rows : held ≡ pick before after with_turned (list_after before moment request step_count)
