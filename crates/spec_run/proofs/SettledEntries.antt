-- Entries that a command leaves as they are, wherever it crashes.
use Rattle.std.proofs.Common.{ℕ, zero, suc, ◌+◌, ◌<◌, ◌≡◌, Bool, true, List, [], ◌∷◌, length, take, drop, get_or, Option, None, Some, refl, sym, ◌∙◌, ap, subst, arith}
use Rattle.std.specs.List.{Contains, cons_option, filter_map}
use Rattle.spec_image.specs.Notes.{notes_in}
use Rattle.blk_model.specs.Holding.{owner, row_of}
use Rattle.blk_model.specs.Items.{Item, Row}
use Rattle.blk_model.specs.ListSteps.{list_after}
use Rattle.blk_model.specs.State.{State}
use Rattle.blk_model.specs.Stops.{StopOutcome, is_safe, pick, picked, picked_by}
use Rattle.spec_folder.specs.Found.{found}
use Rattle.spec_run.specs.Moments.{IsLeftAt}
use Rattle.spec_run.specs.Run.{Stamped, first_in, state_after, state_at, state_then}
use Rattle.spec_run.specs.Laws.{IsLeftAlone, RestsAreFound, SettledEntriesAreFound}

-- what is among some elements is so after one more
behind_option : {Y : Type 0} (o : Option Y) (ys : List Y) (y : Y) → Contains ys y → Contains (cons_option o ys) y
behind_option None ys y there = there
behind_option (Some z) ys y there = (suc there.0, omega (arith, there.1), there.2)

-- what an element gives is among what all give
pub given_contained : {X Y : Type 0} (h : X → Option Y) (xs : List X) (x : X) (y : Y) → h x ≡ Some y → (k : ℕ) → k < length xs → get_or xs k x ≡ x → Contains (filter_map h xs) y
given_contained h [] x y is k below at = absurd (omega (arith, below))
given_contained {X} {Y} h (z ∷ xs) x y is zero below at =
    let first : h z ≡ Some y = ap h at ∙ is in
    subst (λ (o : Option Y). Contains (cons_option o (filter_map h xs)) y) (sym first) (zero, omega arith, refl)
given_contained h (z ∷ xs) x y is (suc k) below at = behind_option (h z) (filter_map h xs) y (given_contained h xs x y is k (omega (arith, below)) at)

-- the state after the command that is next
pub next_state : (opened : State) (commands : List Stamped) (n : ℕ) (c : Stamped) → first_in (drop n commands) ≡ Some c → state_after opened (take (suc n) commands) ≡ state_then (state_after opened (take n commands)) c
unfolding state_after
next_state opened [] zero c is = cc
next_state opened [] (suc n) c is = cc
next_state opened (x ∷ xs) zero c is = let same : x ≡ c = cc is in ap (state_then opened) same
next_state opened (x ∷ xs) (suc n) c is = next_state (state_then opened x) xs n c is

-- a safe item is picked
safe_picked : (before after : State) (with : Bool) (item : Item) (number : ℕ) (row : Row) → owner before item ≡ Some number → is_safe before after number ≡ true → row_of before item ≡ Some row → picked before after with item ≡ Some row
unfolding picked picked_by
safe_picked before after with item number row owned safe row_is = rw (owned, safe, row_is) refl

-- what a crash in a command leaves has each entry that it leaves as it is
left_alone : (state : State) (command : Stamped) (held : List Row) (item : Item) (row : Row) → StopOutcome state command.moment command.request (state_then state command) held → IsLeftAlone state command item row → Contains held row
unfolding pick
left_alone state command held item row outcome alone =
    let listed = alone.listed outcome.step_count outcome.within in
    subst (λ (rows : List Row). Contains rows row) (sym outcome.picked_rows)
    (given_contained (picked state (state_then state command) outcome.with_turned) (list_after state command.moment command.request outcome.step_count) item row
    (safe_picked state (state_then state command) outcome.with_turned item alone.number row alone.owned alone.safe alone.row_is) listed.0 listed.1 listed.2)

pub settled_found : SettledEntriesAreFound
settled_found from opened commands steps image command item row stopped marked next alone =
    let n = notes_in steps in
    let more : n + 1 ≡ suc n = omega arith in
    let after : state_at opened commands (n + 1) ≡ state_then (state_at opened commands n) command = ap (λ (m : ℕ). state_after opened (take m commands)) more ∙ next_state opened commands n command next in
    let left : IsLeftAt opened commands n (Some command) (found image) = subst (λ (o : Option Stamped). IsLeftAt opened commands n o (found image)) next (stopped.left.later marked) in
    left_alone (state_at opened commands n) command (found image) item row
    (subst (λ (s : State). StopOutcome (state_at opened commands n) command.moment command.request s (found image)) after left) alone

pub rests_found : RestsAreFound
rests_found from opened commands steps image stopped marked none =
    subst (λ (o : Option Stamped). IsLeftAt opened commands (notes_in steps) o (found image)) none (stopped.left.later marked)
