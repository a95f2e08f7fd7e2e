-- Runs, one part after another.
use Rattle.std.proofs.Common.{ℕ, ◌+◌, ◌≡◌, Bool, ◌||◌, true, false, List, ◌++◌, length, Option, None, Some, refl, ◌∙◌, ap}
use Rattle.std.specs.Option.{option_map}
use Rattle.blk_model.specs.State.{State}
use Rattle.blk_io.specs.Streams.{Readings}
use Rattle.spec_run.specs.Script.{session_script}
use Rattle.spec_run.specs.Run.{clock_after, commands_of, readings_of, state_after, turns}
use Rattle.spec_run.proofs.Turns.{clock_after-more, more_turns}

pub or_assoc : (a b c : Bool) → ((a || b) || c) ≡ (a || (b || c))
or_assoc true b c = refl
or_assoc false b c = refl

pub or_none : (a : Bool) → a ≡ (a || false)
or_none true = refl
or_none false = refl

-- the readings to come, after some commands and then others
pub read_twice : (c0 c1 c2 : Option Readings) (m n : ℕ) → c1 ≡ option_map (λ r. clock_after r m) c0 → c2 ≡ option_map (λ r. clock_after r n) c1 → c2 ≡ option_map (λ r. clock_after r (m + n)) c0
read_twice None c1 c2 m n first second = second ∙ ap (option_map (λ r. clock_after r n)) first
read_twice (Some r) c1 c2 m n first second = second ∙ ap (option_map (λ r. clock_after r n)) first ∙ ap Some (clock_after-more r m n)

-- the iterations of some lines and of those after them
pub more_lines : (number : ℕ) (xs ys : List (List ℕ)) (state : State) (clock : Readings)
    → turns (session_script number (xs ++ ys)) state clock
    ≡ turns (session_script number xs) state clock
    ++ turns (session_script (number + length xs) ys) (state_after state (commands_of (turns (session_script number xs) state clock))) (clock_after clock (readings_of (turns (session_script number xs) state clock)))
more_lines number xs ys state clock = (more_turns number xs ys state clock).all
