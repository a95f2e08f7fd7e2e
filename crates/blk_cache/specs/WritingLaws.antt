-- Lemmas on the space for a Write.
use Rattle.std.specs.Prelude.{◌≡◌, ◌-◌, ℕ, Bool, List, [], false, length}
use Rattle.blk_model.specs.Effects.{stream_after, stream_of}
use Rattle.blk_model.specs.Refusals.{is_kept_from_streams, room_for}
use Rattle.blk_model.specs.Request.{to_write}
use Rattle.blk_model.specs.Room.{room}
use Rattle.blk_model.specs.State.{Object, State}
use Rattle.law_state.specs.OneCallLaws.{Names}

-- a Write needs space for the bytes by which its stream gets longer, and for no item
abbrev pub WritesWantRoomForTheRise : Type 0
WritesWantRoomForTheRise =
    (state : State) (moment handle stream offset : ℕ) (cut : Bool) (bytes : List ℕ) (number : ℕ) (object : Object) → Names state handle number object → is_kept_from_streams state handle stream ≡ false
    → room_for moment (to_write handle stream offset cut bytes) state ≡ room state [] (length (stream_after cut (stream_of object stream) offset bytes) - length (stream_of object stream)) 0
