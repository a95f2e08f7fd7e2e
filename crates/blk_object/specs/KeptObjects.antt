-- An object of a state that is kept: what the clauses of a call on a single object range over.
use Rattle.std.specs.Prelude.{ℕ, List}
use Rattle.blk_model.specs.State.{Object, State}
use Rattle.spec_folder.specs.Layout.{Layout}

-- an object with its number in a state, and the layout and the unlinked addresses with which the folder keeps that state
pub record KeptObject : Type 0 where
  pub state : State
  pub layout : Layout
  pub unlinked : List ℕ
  pub number : ℕ
  pub object : Object
