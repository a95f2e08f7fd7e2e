-- Lemmas on the space for a Create.
use Rattle.std.specs.Prelude.{◌≡◌, ℕ, ◌≤◌, List, [], None, length}
use Rattle.blk_model.specs.Refusals.{refused, room_for}
use Rattle.blk_model.specs.Request.{IsRequest, to_create}
use Rattle.blk_model.specs.Room.{room}
use Rattle.blk_model.specs.Sizes.{most_items}
use Rattle.blk_model.specs.State.{State, IsValidState}
use Rattle.law_state.specs.CommandStates.{with_room}
use Rattle.blk_cache.specs.Creating.{HasRoomFor}

-- a Create needs space for one item, whose cost is the length of its key
abbrev pub CreatesWantRoomForOneItem : Type 0
CreatesWantRoomForOneItem = (state : State) (moment handle : ℕ) (key : List ℕ) → room_for moment (to_create handle key) state ≡ room state [] (length key) 1

-- when all evictions of a Create that isn't refused are done, there is space for its object
abbrev pub CreatesHaveRoom : Type 0
CreatesHaveRoom = (state : State) (moment handle : ℕ) (key : List ℕ) → IsValidState state → state.limits.max_items ≤ most_items → IsRequest (to_create handle key) → refused moment (to_create handle key) state ≡ None
    → HasRoomFor (with_room state moment (to_create handle key)) handle key
