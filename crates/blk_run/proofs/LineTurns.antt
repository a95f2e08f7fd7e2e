-- The iteration of one line.
use Rattle.std.proofs.Common.{ℕ, ◌<◌, ◌≤◌, ◌≡◌, Bool, ◌||◌, true, false, if◌then◌else◌, List, [], ◌∷◌, ◌++◌, length, Option, None, Some, Ok, Err, Result, OnOk, refl, sym, ◌∙◌, ap, arith, ◌==◌}
use Rattle.std.proofs.lemmas.Bool.{lt-ltb}
use Rattle.blk_script.specs.Line.{by_fields}
use Rattle.blk_script.specs.Fields.{line_fields}
use Rattle.std.specs.Option.{option_map, ForSome}
use Rattle.std.proofs.lemmas.List.{append-nil}
use Rattle.spec_image.specs.Image.{Image}
use Rattle.spec_image.specs.Told.{Told}
use Rattle.blk_io.specs.Streams.{Appends, Readings, reading_of}
use Rattle.blk_model.specs.declared.Answer.{Answer}
use Rattle.blk_model.specs.Request.{Request}
use Rattle.blk_model.specs.State.{State}
use Rattle.blk_script.specs.declared.fault.LineFault.{LineFault}
use Rattle.blk_script.specs.declared.fault.LineFault.TheVariants as line_fault
use Rattle.blk_script.specs.Line.{read_text}
use Rattle.blk_script.specs.Reply.{line_fault_text}
use Rattle.spec_run.specs.Script.{ended, line_script, session_script}
use Rattle.spec_run.specs.Run.{Turn, error_turn, turns, clock_after}
use Rattle.blk_cache.specs.declared.fault.StepFault.{StepFault}
use Rattle.blk_cache.specs.declared.fault.StepFault.TheVariants as fault
use Rattle.blk_run.specs.Errors.{IsOnlySink}
use Rattle.blk_run.specs.Playing.{AreMade, Around, Asks, Plays, PlaysPart, SoFar, StandsAt, around, asked_turn, refuses, state_now}
use Rattle.blk_run.proofs.Parts.{stands_none}

-- parts with the same iterations
pub part_same : {A : Type 0} (result : Result A StepFault) (far : SoFar) (one other : State → Readings → List Turn) (keeps : State → Image → Type 0) (notes left : ℕ) (old new : Around) → ((state : State) (clock : Readings) → one state clock ≡ other state clock)
    → PlaysPart result one far keeps notes left old new → PlaysPart result other far keeps notes left old new
part_same result far one other keeps notes left old new same played = record { made = played.made; are = λ r there. played.are r there ∙ same (state_now far) r; plays = played.plays }

-- the part of a line: a command, or an error
abbrev pub line_part : ℕ → Result Request LineFault → State → Readings → List Turn
line_part number says state clock = turns (line_script number says ended) state clock

none_read : (c : Option Readings) → c ≡ option_map (λ r. clock_after r 0) c
none_read None = refl
none_read (Some r) = refl

or_true : (b : Bool) → (b || true) ≡ true
or_true true = refl
or_true false = refl

-- a line that is no command
pub error_part : (result : Result (Unit {0}) StepFault) (number : ℕ) (why : LineFault) (far : SoFar) (keeps : State → Image → Type 0) (notes left : ℕ) (told : Told) (w_old w_new : Option (List ℕ)) (clock : Option Readings) (refused_old refused_new : Bool)
    → StandsAt far keeps notes left told → OnOk result (w_new ≡ option_map (λ (w : List ℕ). w ++ line_fault_text number why) w_old) → Appends w_old w_new (line_fault_text number why) → refused_new ≡ true → IsOnlySink result
    → PlaysPart result (line_part number (Err why)) far keeps notes left (around told w_old clock refused_old) (around told w_new clock refused_new)
unfolding turns
error_part result number why far keeps notes left told w_old w_new clock refused_old refused_new at printed front refused only = record {
  made = error_turn (line_fault_text number why) ∷ [];
  are = λ r there. refl;
  plays = by_result result printed only;
}
  where
    by_result : (r : Result (Unit {0}) StepFault) → OnOk r (w_new ≡ option_map (λ (w : List ℕ). w ++ line_fault_text number why) w_old) → IsOnlySink r
        → Plays r (error_turn (line_fault_text number why) ∷ []) far keeps notes left (around told w_old clock refused_old) (around told w_new clock refused_new)
    by_result (Ok done) whole sink = record {
      stands = stands_none far keeps notes left told at;
      printed = whole ∙ ap (λ (t : List ℕ). option_map (λ (w : List ℕ). w ++ t) w_old) (sym (append-nil (line_fault_text number why)));
      read = none_read clock;
      refused = refused ∙ sym (or_true refused_old);
    }
    by_result (Err fault.Sink) whole sink = record {
      count = 0;
      within = omega arith;
      stands = stands_none far keeps notes left told at;
      front = front.front;
      rest = front.rest;
      split = append-nil (line_fault_text number why) ∙ front.split;
      printed = front.written;
      read = none_read clock;
    }
    by_result (Err fault.Device) whole sink = absurd sink
    by_result (Err (fault.Damaged damage)) whole sink = absurd sink

-- a line that is a command, as one iteration at the next reading
command_are : (number : ℕ) (request : Request) (far : SoFar) (moment : ℕ) (clock : Option Readings) → ForSome clock (λ r. moment ≡ reading_of r)
    → ForSome clock (λ r. asked_turn far (record { moment = moment; request = request }) ∷ [] ≡ line_part number (Ok request) (state_now far) r)
unfolding turns
command_are number request far moment clock read r there = ap (λ (m : ℕ). asked_turn far (record { moment = m; request = request }) ∷ []) (read r there)

module _ (number : ℕ) (request : Request) (far : SoFar) (keeps : State → Image → Type 0) (notes left : ℕ) (told now : Told) (w_old w_new : Option (List ℕ)) (c_old c_new : Option Readings) (refused_old refused_new : Bool) where
  -- it was answered
  pub command_part : (answer : Answer) → Asks (Ok answer) request far keeps notes left (around told w_old c_old false) (around now w_new c_new (refuses answer)) → refused_new ≡ (refused_old || refuses answer)
      → PlaysPart {A = Unit {0}} (Ok tt) (line_part number (Ok request)) far keeps notes left (around told w_old c_old refused_old) (around now w_new c_new refused_new)
  command_part answer asked refused =
      let made : AreMade (asked_turn far (record { moment = asked.moment; request = request }) ∷ []) far keeps notes left (around told w_old c_old false) (around now w_new c_new (refuses answer)) = asked.plays in
      record {
        made = asked_turn far (record { moment = asked.moment; request = request }) ∷ [];
        are = command_are number request far asked.moment c_old asked.read;
        plays = record { stands = made.stands; printed = made.printed; read = made.read; refused = refused ∙ ap (λ (b : Bool). refused_old || b) made.refused };
      }

  -- it met a fault
  pub command_fault : (why : StepFault) → Asks (Err why) request far keeps notes left (around told w_old c_old false) (around now w_new c_new false)
      → PlaysPart {A = Unit {0}} (Err why) (line_part number (Ok request)) far keeps notes left (around told w_old c_old refused_old) (around now w_new c_new refused_new)
  command_fault why asked = record {
    made = asked_turn far (record { moment = asked.moment; request = request }) ∷ [];
    are = command_are number request far asked.moment c_old asked.read;
    plays = by_fault why asked.plays;
  }
    where
      by_fault : (f : StepFault) → Plays {A = Answer} (Err f) (asked_turn far (record { moment = asked.moment; request = request }) ∷ []) far keeps notes left (around told w_old c_old false) (around now w_new c_new false)
          → Plays {A = Unit {0}} (Err f) (asked_turn far (record { moment = asked.moment; request = request }) ∷ []) far keeps notes left (around told w_old c_old refused_old) (around now w_new c_new refused_new)
      by_fault fault.Sink p = record { count = p.count; within = p.within; stands = p.stands; front = p.front; rest = p.rest; split = p.split; printed = p.printed; read = p.read }
      by_fault fault.Device p = record { noted = p.noted; few = p.few; stops = p.stops; printed = p.printed; no_more = p.no_more; no_less = p.no_less }
      by_fault (fault.Damaged damage) p = absurd p

-- What a line says.

-- one line of a session
pub one_line : (number : ℕ) (text : List ℕ) (says : Result Request LineFault) → read_text text ≡ says → (state : State) (clock : Readings) → line_part number says state clock ≡ turns (session_script number (text ∷ [])) state clock
unfolding session_script
one_line number text says is state clock = ap (λ (l : Result Request LineFault). turns (line_script number l ended) state clock) (sym is)

-- a line that is too long
pub says_too_long : (text : List ℕ) → 2200000 < length text → read_text text ≡ Err line_fault.TooLong
unfolding read_text
says_too_long text more = ap (λ (b : Bool). if b then Err line_fault.TooLong else (if length text == 0 then Err line_fault.Empty else by_fields (line_fields text))) (lt-ltb 2200000 (length text) more)

-- a command has a line with a byte
pub commands_have_bytes : (text : List ℕ) (request : Request) → read_text text ≡ Ok request → 1 ≤ length text
unfolding read_text
commands_have_bytes [] request read = absurd (no (sym read ∙ empty_line))
  where
    no : ◌≡◌ {A = Result Request LineFault} (Ok request) (Err line_fault.Empty) → ⊥
    no e = cc

    empty_line : read_text [] ≡ Err line_fault.Empty
    empty_line = refl
commands_have_bytes (x ∷ text) request read = omega arith
