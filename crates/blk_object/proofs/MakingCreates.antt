-- A Create that isn't refused can have its object.
use Rattle.std.proofs.Common.{◌≡◌, ℕ, List, [], Option, None, Some, refl, sym, subst, false}
use Rattle.std.specs.Prelude.{is_some}
use Rattle.std.proofs.lemmas.List.{append-nil}
use Rattle.blk_model.specs.Refusals.{evicted, refusals, refused}
use Rattle.blk_model.specs.Request.{to_create}
use Rattle.blk_model.specs.State.{IsValidState, State, live_with}
use Rattle.blk_model.proofs.Steps.{none_comes, step_valid}
use Rattle.law_state.specs.CommandStates.{with_room}
use Rattle.law_state.proofs.CommandEnding.{creates-end}
use Rattle.law_state.proofs.RestsOfCommands.{rests-pass}
use Rattle.blk_object.specs.Making.{CreatesCanHaveNew}

none-there : (o : Option ℕ) → is_some o ≡ false → o ≡ None
none-there None e = refl
none-there (Some n) e = cc

-- a Create that isn't refused has a key that no live object has
key-is-free : (state : State) (moment handle : ℕ) (key : List ℕ) → refused moment (to_create handle key) state ≡ None → live_with state key ≡ None
unfolding refusals
key-is-free state moment handle key passes =
    let p = none_comes (refusals moment (to_create handle key) state) passes in
    none-there (live_with state key) p.1.1.1.0

pub creates-can : CreatesCanHaveNew
creates-can state moment handle key valid can passes few = record {
  missing = key-is-free (with_room state moment (to_create handle key)) moment handle key
      (rests-pass state moment (to_create handle key) (evicted moment (to_create handle key) state) [] valid (record { passes = passes; groups = sym (append-nil (evicted moment (to_create handle key) state)) }));
  few = few;
  valid = subst IsValidState (creates-end state moment handle key passes) (step_valid state moment (to_create handle key) valid can);
}
