-- Iterations of a fixed script.
use Rattle.std.proofs.Common.{ℕ, ◌+◌, ◌<◌, ◌≤◌, ◌≡◌, Bool, ◌||◌, true, false, if◌then◌else◌, List, [], ◌∷◌, ◌++◌, length, Option, None, Some, Ok, Err, Result, drop, map, get_or, refl, sym, ◌∙◌, ap, subst, append_assoc, add-one, drop-cons}
use Rattle.std.specs.Option.{option_map, ForSome}
use Rattle.std.specs.Prelude.{IsErrAnd}
use Rattle.std.proofs.lemmas.List.{append-nil, drop_all}
use Rattle.spec_image.specs.Image.{Image}
use Rattle.spec_image.specs.Told.{Told}
use Rattle.blk_io.specs.Streams.{Readings, reading_of, later_of}
use Rattle.blk_model.specs.declared.Answer.{Answer}
use Rattle.blk_model.specs.declared.Command.{Command}
use Rattle.blk_model.specs.Request.{Request, request_of}
use Rattle.blk_model.specs.State.{State}
use Rattle.spec_run.specs.Script.{Script, ended, until_refused, is_refused}
use Rattle.spec_run.specs.Run.{clock_after, commands_of, outcome_in, readings_of, Stamped, stamped_by, state_after, Turn, turns}
use Rattle.blk_cache.specs.declared.fault.StepFault.{StepFault}
use Rattle.blk_cache.specs.declared.fault.StepFault.TheVariants as fault
use Rattle.blk_run.specs.Fixed.{GoOn, PlaysUpTo}
use Rattle.blk_run.specs.Playing.{AreMade, Around, Asks, Plays, PlaysPart, SoFar, StandsAt, around, asked_turn, refuses, state_now, with_more}
use Rattle.blk_run.proofs.Parts.{made_then, made_then_to, made_then_stopped, made_to_only, stopped_only, stands_none}
use Rattle.blk_run.proofs.RunLaws.{or_none}
use Rattle.spec_run.proofs.CommandStates.{state_after-append}
use Rattle.spec_run.proofs.Turns.{clock_after-more, commands_of-append, readings_of-append}
use Rattle.blk_run.proofs.Printed.{printed_none}

-- no iteration was made
pub made_none : (far : SoFar) (keeps : State → Image → Type 0) (notes left : ℕ) (here : Around) → StandsAt far keeps notes left here.folder → AreMade [] far keeps notes left here here
made_none far keeps notes left here at = record { stands = stands_none far keeps notes left here.folder at; printed = printed_none here.written; read = read_none here.clock; refused = or_none here.refused }
  where
    read_none : (c : Option Readings) → c ≡ option_map (λ r. clock_after r 0) c
    read_none None = refl
    read_none (Some r) = refl

-- nothing was played yet
pub up_to_none : (whole : State → Readings → List Turn) (far : SoFar) (keeps : State → Image → Type 0) (notes left : ℕ) (here : Around) → StandsAt far keeps notes left here.folder → PlaysUpTo whole whole far keeps notes left here here
up_to_none whole far keeps notes left here at = record {
  made = [];
  are = λ r there. ap (λ (l : List Stamped). whole (state_after far.opened l) r) (sym (append-nil far.done));
  plays = made_none far keeps notes left here at;
}

-- iterations after those that were made
plays_then : (result : Result (Unit {0}) StepFault) (far : SoFar) (first second : List Turn) (old mid new : Around) (keeps_mid keeps : State → Image → Type 0) (notes_mid notes left_mid left : ℕ) → AreMade first far keeps_mid notes_mid left_mid old mid
    → Plays result second (with_more far (commands_of first)) keeps notes left mid new → Plays result (first ++ second) far keeps notes left old new
plays_then (Ok b) far first second old mid new keeps_mid keeps notes_mid notes left_mid left before more = made_then far first second old mid new keeps_mid keeps notes_mid notes left_mid left before more
plays_then (Err fault.Sink) far first second old mid new keeps_mid keeps notes_mid notes left_mid left before more = made_then_to far first second old mid new keeps_mid keeps notes_mid notes left_mid left before more
plays_then (Err fault.Device) far first second old mid new keeps_mid keeps notes_mid notes left_mid left before more = made_then_stopped far first second old mid new keeps_mid keeps notes_mid notes left_mid left before more
plays_then (Err (fault.Damaged damage)) far first second old mid new keeps_mid keeps notes_mid notes left_mid left before more = more

-- iterations that would follow a fault are not made
plays_only : (why : StepFault) (far : SoFar) (first second : List Turn) (old new : Around) (keeps : State → Image → Type 0) (notes left : ℕ) → Plays {A = Unit {0}} (Err why) first far keeps notes left old new → Plays {A = Unit {0}} (Err why) (first ++ second) far keeps notes left old new
plays_only fault.Sink far first second old new keeps notes left plays = made_to_only far first second old new keeps notes left plays
plays_only fault.Device far first second old new keeps notes left plays = stopped_only far first second old new keeps notes left plays
plays_only (fault.Damaged damage) far first second old new keeps notes left plays = plays

-- what would follow, where the clock is observable
follow : (Readings → List Turn) → Option Readings → List Turn
follow f None = []
follow f (Some r) = f r

follow_is : (f : Readings → List Turn) (clock : Option Readings) (r : Readings) → clock ≡ Some r → follow f clock ≡ f r
unfolding follow
follow_is f None r there = absurd (no there)
  where
    no : ◌≡◌ {A = Option Readings} None (Some r) → ⊥
    no e = cc
follow_is f (Some x) r there = ap (follow f) there

-- the first iterations of a script, the last of which met a fault
pub first_fault : (whole more : State → Readings → List Turn) (far : SoFar) (old new : Around) (keeps : State → Image → Type 0) (notes left : ℕ) (why : StepFault) (first : List Turn) → ForSome old.clock (GoOn whole more first far)
    → Plays {A = Unit {0}} (Err why) first far keeps notes left old new → PlaysPart {A = Unit {0}} (Err why) whole far keeps notes left old new
first_fault whole more far old new keeps notes left why first goes plays =
    let later : Readings → List Turn = λ r. more (state_now (with_more far (commands_of first))) (clock_after r (readings_of first)) in
    record {
      made = first ++ follow later old.clock;
      are = λ r there. sym (goes r there ∙ ap (λ (l : List Turn). first ++ l) (sym (follow_is later old.clock r there)));
      plays = plays_only why far first (follow later old.clock) old new keeps notes left plays;
    }

-- A script was played up to what is left, and is played on.
module _ (whole rest : State → Readings → List Turn) (far : SoFar) (old mid new : Around) (keeps_mid keeps : State → Image → Type 0) (notes_mid notes left_mid left : ℕ) (before : PlaysUpTo whole rest far keeps_mid notes_mid left_mid old mid) where
  abbrev next : SoFar
  next = with_more far (commands_of before.made)

  clock_mid : (r : Readings) → old.clock ≡ Some r → mid.clock ≡ Some (clock_after r (readings_of before.made))
  clock_mid r there = before.plays.read ∙ ap (option_map (λ r. clock_after r (readings_of before.made))) there

  joined : (second : List Turn) (more : State → Readings → List Turn) → ForSome mid.clock (GoOn rest more second next) → ForSome old.clock (GoOn whole more (before.made ++ second) far)
  joined second more goes r there =
      let c = clock_after r (readings_of before.made) in
      let here : whole (state_now far) r ≡ before.made ++ rest (state_now next) c = before.are r there in
      let on : rest (state_now next) c ≡ second ++ more (state_now (with_more next (commands_of second))) (clock_after c (readings_of second)) = goes c (clock_mid r there) in
      let state : state_now (with_more next (commands_of second)) ≡ state_now (with_more far (commands_of (before.made ++ second))) = ap (state_after far.opened) (append_assoc far.done (commands_of before.made) (commands_of second) ∙ ap (λ (l : List Stamped). far.done ++ l) (sym (commands_of-append before.made second))) in
      let clock : clock_after c (readings_of second) ≡ clock_after r (readings_of (before.made ++ second)) = clock_after-more r (readings_of before.made) (readings_of second) ∙ ap (clock_after r) (sym (readings_of-append before.made second)) in
      here ∙ ap (λ (l : List Turn). before.made ++ l) on ∙ sym (append_assoc before.made second (more (state_now (with_more next (commands_of second))) (clock_after c (readings_of second))))
      ∙ ap (λ (l : List Turn). (before.made ++ second) ++ l) (ap (λ (s : State). more s (clock_after c (readings_of second))) state ∙ ap (λ (r : Readings). more (state_now (with_more far (commands_of (before.made ++ second)))) r) clock)

  -- some iterations more, and the script goes on
  pub up_to_more : (second : List Turn) (more : State → Readings → List Turn) → ForSome mid.clock (GoOn rest more second next) → AreMade second next keeps notes left mid new → PlaysUpTo whole more far keeps notes left old new
  up_to_more second more goes made = record {
    made = before.made ++ second;
    are = joined second more goes;
    plays = made_then far before.made second old mid new keeps_mid keeps notes_mid notes left_mid left before.plays made;
  }

  -- all iterations that are left
  pub up_to_end : (result : Result (Unit {0}) StepFault) (second : List Turn) → ForSome mid.clock (λ r. rest (state_now next) r ≡ second) → Plays result second next keeps notes left mid new → PlaysPart result whole far keeps notes left old new
  up_to_end result second are plays = record {
    made = before.made ++ second;
    are = λ r there. sym (before.are r there ∙ ap (λ (l : List Turn). before.made ++ l) (are (clock_after r (readings_of before.made)) (clock_mid r there)));
    plays = plays_then result far before.made second old mid new keeps_mid keeps notes_mid notes left_mid left before.plays plays;
  }

  -- what is left was played
  pub up_to_part : (result : Result (Unit {0}) StepFault) → PlaysPart result rest next keeps notes left mid new → PlaysPart result whole far keeps notes left old new
  up_to_part result played = up_to_end result played.made (λ r there. sym (played.are r there)) played.plays

  -- some iterations of them, the last of which met a fault
  pub up_to_fault : (why : StepFault) (first : List Turn) (more : State → Readings → List Turn) → ForSome mid.clock (GoOn rest more first next) → Plays {A = Unit {0}} (Err why) first next keeps notes left mid new → PlaysPart {A = Unit {0}} (Err why) whole far keeps notes left old new
  up_to_fault why first more goes plays =
      let later : Readings → List Turn = λ r. more (state_now (with_more next (commands_of first))) (clock_after r (readings_of first)) in
      up_to_end (Err why) (first ++ follow later mid.clock) (λ r there. goes r there ∙ ap (λ (l : List Turn). first ++ l) (sym (follow_is later mid.clock r there))) (plays_only why next first (follow later mid.clock) mid new keeps notes left plays)

-- The iteration of a command of a fixed script.

-- what follows a command
abbrev pub behind : SoFar → Stamped → List Request → Script
behind far command requests = if is_refused (outcome_in (state_now far) command) then ended else until_refused requests

stamped_goes : (far : SoFar) (request : Request) (requests : List Request) (r : Readings) → GoOn (turns (until_refused (request ∷ requests))) (turns (behind far (stamped_by r request) requests)) (asked_turn far (stamped_by r request) ∷ []) far r
unfolding until_refused turns state_after
stamped_goes far request requests r =
    ap (λ (s : State). asked_turn far (stamped_by r request) ∷ turns (behind far (stamped_by r request) requests) s (later_of r)) (sym (state_after-append far.opened far.done (stamped_by r request ∷ [])))

pub asked_goes : (far : SoFar) (request : Request) (requests : List Request) (moment : ℕ) (clock : Option Readings) → ForSome clock (λ r. moment ≡ reading_of r)
    → ForSome clock (GoOn (turns (until_refused (request ∷ requests))) (turns (behind far (record { moment = moment; request = request }) requests)) (asked_turn far (record { moment = moment; request = request }) ∷ []) far)
asked_goes far request requests moment clock read r there =
    subst (λ (m : ℕ). GoOn (turns (until_refused (request ∷ requests))) (turns (behind far (record { moment = m; request = request }) requests)) (asked_turn far (record { moment = m; request = request }) ∷ []) far r) (sym (read r there)) (stamped_goes far request requests r)

pub no_more : (state : State) (clock : Readings) → turns ended state clock ≡ []
unfolding turns
no_more state clock = refl

pub nothing_left : (state : State) (clock : Readings) → turns (until_refused []) state clock ≡ []
unfolding until_refused turns
nothing_left state clock = refl

-- A command of a fixed script was asked, after those that were played.
module _ (whole : State → Readings → List Turn) (all requests : List Request) (request : Request) (is : all ≡ request ∷ requests) (far : SoFar) (old : Around) (keeps_mid keeps : State → Image → Type 0) (notes_mid notes left_mid left : ℕ)
    (told now : Told) (w_mid w_new : Option (List ℕ)) (c_mid c_new : Option Readings) (refused : Bool)
    (before : PlaysUpTo whole (turns (until_refused all)) far keeps_mid notes_mid left_mid old (around told w_mid c_mid refused)) where
  abbrev here : SoFar
  here = with_more far (commands_of before.made)

  abbrev shaped : PlaysUpTo whole (turns (until_refused (request ∷ requests))) far keeps_mid notes_mid left_mid old (around told w_mid c_mid refused)
  shaped = record { made = before.made; are = λ r there. before.are r there ∙ ap (λ (l : List Request). before.made ++ turns (until_refused l) (state_now here) (clock_after r (readings_of before.made))) is; plays = before.plays }

  as_asked : (answer : Answer) (after : Bool) (asked : Asks (Ok answer) request here keeps notes left (around told w_mid c_mid false) (around now w_new c_new (refuses answer))) → after ≡ (refused || refuses answer)
      → AreMade (asked_turn here (record { moment = asked.moment; request = request }) ∷ []) here keeps notes left (around told w_mid c_mid refused) (around now w_new c_new after)
  as_asked answer after asked is =
      let made : AreMade (asked_turn here (record { moment = asked.moment; request = request }) ∷ []) here keeps notes left (around told w_mid c_mid false) (around now w_new c_new (refuses answer)) = asked.plays in
      record { stands = made.stands; printed = made.printed; read = made.read; refused = is ∙ ap (λ (b : Bool). refused || b) made.refused }

  answer_refuses : (answer : Answer) (asked : Asks (Ok answer) request here keeps notes left (around told w_mid c_mid false) (around now w_new c_new (refuses answer))) (b : Bool) → refuses answer ≡ b
      → behind here (record { moment = asked.moment; request = request }) requests ≡ (if b then ended else until_refused requests)
  answer_refuses answer asked b refuses_it = ap (λ (t : Bool). if t then ended else until_refused requests) (ap refuses (sym asked.answered) ∙ refuses_it)

  -- it was not refused, and the script goes on
  pub asked_on : (answer : Answer) → Asks (Ok answer) request here keeps notes left (around told w_mid c_mid false) (around now w_new c_new (refuses answer)) → refuses answer ≡ false
      → PlaysUpTo whole (turns (until_refused requests)) far keeps notes left old (around now w_new c_new refused)
  asked_on answer asked not =
      let goes = asked_goes here request requests asked.moment c_mid asked.read in
      up_to_more whole (turns (until_refused (request ∷ requests))) far old (around told w_mid c_mid refused) (around now w_new c_new refused) keeps_mid keeps notes_mid notes left_mid left shaped
      (asked_turn here (record { moment = asked.moment; request = request }) ∷ []) (turns (until_refused requests))
      (λ r there. subst (λ (s : Script). GoOn (turns (until_refused (request ∷ requests))) (turns s) (asked_turn here (record { moment = asked.moment; request = request }) ∷ []) here r) (answer_refuses answer asked false not) (goes r there))
      (as_asked answer refused asked (or_none refused ∙ ap (λ (b : Bool). refused || b) (sym not)))

  -- it was refused, and that is the end
  pub asked_last : (answer : Answer) → Asks (Ok answer) request here keeps notes left (around told w_mid c_mid false) (around now w_new c_new (refuses answer)) → refuses answer ≡ true
      → PlaysPart {A = Unit {0}} (Ok tt) whole far keeps notes left old (around now w_new c_new true)
  asked_last answer asked refused_it =
      let goes = asked_goes here request requests asked.moment c_mid asked.read in
      let turn = asked_turn here (record { moment = asked.moment; request = request }) in
      up_to_end whole (turns (until_refused (request ∷ requests))) far old (around told w_mid c_mid refused) (around now w_new c_new true) keeps_mid keeps notes_mid notes left_mid left shaped (Ok tt) (turn ∷ [])
      (λ r there. goes r there ∙ ap (λ (s : Script). turn ∷ turns s (state_now (with_more here (commands_of (turn ∷ [])))) (clock_after r 1)) (answer_refuses answer asked true refused_it) ∙ ap (λ (l : List Turn). turn ∷ l) (no_more (state_now (with_more here (commands_of (turn ∷ [])))) (clock_after r 1)))
      (as_asked answer true asked (sym (or_true refused) ∙ ap (λ (b : Bool). refused || b) (sym refused_it)))
    where
      or_true : (b : Bool) → (b || true) ≡ true
      or_true true = refl
      or_true false = refl

  -- it met a fault
  pub asked_fault : (why : StepFault) → Asks (Err why) request here keeps notes left (around told w_mid c_mid false) (around now w_new c_new false) → PlaysPart {A = Unit {0}} (Err why) whole far keeps notes left old (around now w_new c_new refused)
  asked_fault why asked =
      let goes = asked_goes here request requests asked.moment c_mid asked.read in
      let turn = asked_turn here (record { moment = asked.moment; request = request }) in
      up_to_fault whole (turns (until_refused (request ∷ requests))) far old (around told w_mid c_mid refused) (around now w_new c_new refused) keeps_mid keeps notes_mid notes left_mid left shaped why (turn ∷ [])
      (turns (behind here (record { moment = asked.moment; request = request }) requests)) goes (by_fault why asked.plays)
    where
      by_fault : (f : StepFault) → Plays {A = Answer} (Err f) (asked_turn here (record { moment = asked.moment; request = request }) ∷ []) here keeps notes left (around told w_mid c_mid false) (around now w_new c_new false)
          → Plays {A = Unit {0}} (Err f) (asked_turn here (record { moment = asked.moment; request = request }) ∷ []) here keeps notes left (around told w_mid c_mid refused) (around now w_new c_new refused)
      by_fault fault.Sink p = record { count = p.count; within = p.within; stands = p.stands; front = p.front; rest = p.rest; split = p.split; printed = p.printed; read = p.read }
      by_fault fault.Device p = record { noted = p.noted; few = p.few; stops = p.stops; printed = p.printed; no_more = p.no_more; no_less = p.no_less }
      by_fault (fault.Damaged damage) p = absurd p

-- Of some commands.

-- a fault that was handed on
pub fault_is : (q : Result (Unit {0}) StepFault) (why : StepFault) → IsErrAnd q (λ (x : StepFault). x ≡ why) → q ≡ Err why
fault_is (Ok done) why is = absurd is
fault_is (Err x) why is = ap Err is

-- the commands that are left, and the next of them
pub next_is : (commands : List Command) (i : ℕ) (d : Command) → i < length commands → map request_of (drop i commands) ≡ request_of (get_or commands i d) ∷ map request_of (drop (i + 1) commands)
next_is commands i d within = ap (map request_of) (drop-cons commands i d within) ∙ ap (λ (n : ℕ). request_of (get_or commands i d) ∷ map request_of (drop n commands)) (sym (add-one i))

-- none is left
pub none_is : (commands : List Command) (i : ℕ) → length commands ≤ i → map request_of (drop i commands) ≡ []
none_is commands i past = ap (map request_of) (drop_all i commands past)
