-- Iterations of the script of `put`.
use Rattle.std.proofs.Common.{ℕ, ◌≡◌, ◌≤◌, Bool, ◌||◌, true, false, not, if◌then◌else◌, List, [], ◌∷◌, ◌++◌, Option, None, Some, Ok, Err, Result, refl, sym, ◌∙◌, ap, subst, arith}
use Rattle.std.specs.Option.{option_map, ForSome}
use Rattle.std.specs.Prelude.{IsErrAnd}
use Rattle.std.proofs.lemmas.List.{append-nil}
use Rattle.spec_image.specs.Image.{Image}
use Rattle.spec_image.specs.Told.{Told}
use Rattle.blk_io.specs.Streams.{Appends, Readings, reading_of, later_of}
use Rattle.blk_model.specs.declared.Answer.{Answer}
use Rattle.blk_model.specs.declared.Refusal.{Refusal}
use Rattle.blk_model.specs.Refusals.{evicted, refused}
use Rattle.blk_model.specs.Reply.{answer_of, answered}
use Rattle.blk_model.specs.Request.{Request, to_close, to_create, to_open, to_write}
use Rattle.blk_model.specs.State.{State}
use Rattle.blk_model.specs.Step.{Outcome, outcome, reply, step}
use Rattle.blk_script.specs.Reply.{outcome_text, reply_text}
use Rattle.spec_run.specs.Script.{ended, is_missing, is_missing_refusal, is_refused, put_after, put_script, refusal_of, Script, shown_where, until_refused}
use Rattle.spec_run.specs.Run.{Stamped, Turn, clock_after, command_turn, commands_of, outcome_in, refuse, state_after, text_of, turns}
use Rattle.blk_cache.specs.declared.fault.StepFault.{StepFault}
use Rattle.blk_cache.specs.declared.fault.StepFault.TheVariants as fault
use Rattle.blk_run.specs.Fixed.{GoOn, PlaysUpTo, opened_answer}
use Rattle.blk_cache.specs.Stepping.{IfSink}
use Rattle.blk_run.specs.Errors.{IsOnlySink}
use Rattle.blk_run.specs.Playing.{AreMade, AreMadeTo, Asks, Plays, PlaysPart, SoFar, around, asked_turn, refuses, state_now, with_more}
use Rattle.blk_run.proofs.FixedTurns.{fault_is, first_fault, no_more}
use Rattle.blk_run.proofs.RunLaws.{or_none}
use Rattle.spec_run.proofs.CommandStates.{state_after-append}
use Rattle.spec_run.proofs.Replies.{no_less_one, no_more_unshown}
use Rattle.blk_run.proofs.Printed.{printed_none}

-- What an Open prints.
text_of_outcome : (moment handle : ℕ) (key : List ℕ) (state : State) (r : Option Refusal) (a : Answer) → a ≡ answer_of (outcome moment (to_open handle key) state r).reply → outcome_text (outcome moment (to_open handle key) state r) ≡ reply_text (answered (opened_answer a))
unfolding outcome evicted reply
text_of_outcome moment handle key state (Some why) a is = ap (λ (x : Answer). reply_text (answered (opened_answer x))) (sym is)
text_of_outcome moment handle key state None a is = ap (λ (x : Answer). reply_text (answered (opened_answer x))) (sym is)

pub open_text : (state : State) (moment handle : ℕ) (key : List ℕ) (a : Answer) → a ≡ answer_of (step state moment (to_open handle key)).reply → outcome_text (step state moment (to_open handle key)) ≡ reply_text (answered (opened_answer a))
unfolding step
open_text state moment handle key a is = text_of_outcome moment handle key state (refused moment (to_open handle key) state) a is

-- the Open of a script, shown or not
abbrev pub opened_by : List ℕ → ℕ → Stamped
opened_by key moment = record { moment = moment; request = to_open 0 key }

abbrev pub open_turn : SoFar → List ℕ → ℕ → Bool → Turn
open_turn far key moment shown = command_turn (opened_by key moment) (shown_where shown (outcome_in (state_now far) (opened_by key moment)))

-- what follows it
abbrev pub requests_of : ℕ → List ℕ → List Request
requests_of stream bytes = to_write 0 stream 0 true bytes ∷ to_close 0 ∷ []

abbrev pub put_on : SoFar → List ℕ → ℕ → List ℕ → ℕ → Script
put_on far key stream bytes moment = put_after (outcome_in (state_now far) (opened_by key moment)) key (requests_of stream bytes)

stamped_goes : (far : SoFar) (key : List ℕ) (stream : ℕ) (bytes : List ℕ) (r : Readings)
    → GoOn (turns (put_script key stream bytes)) (turns (put_on far key stream bytes (reading_of r))) (open_turn far key (reading_of r) (not (is_missing (outcome_in (state_now far) (opened_by key (reading_of r))))) ∷ []) far r
unfolding turns state_after
stamped_goes far key stream bytes r =
    ap (λ (s : State). open_turn far key (reading_of r) (not (is_missing (outcome_in (state_now far) (opened_by key (reading_of r))))) ∷ turns (put_on far key stream bytes (reading_of r)) s (later_of r)) (sym (state_after-append far.opened far.done (opened_by key (reading_of r) ∷ [])))

open_goes : (far : SoFar) (key : List ℕ) (stream : ℕ) (bytes : List ℕ) (moment : ℕ) (clock : Option Readings) → ForSome clock (λ r. moment ≡ reading_of r)
    → ForSome clock (GoOn (turns (put_script key stream bytes)) (turns (put_on far key stream bytes moment)) (open_turn far key moment (not (is_missing (outcome_in (state_now far) (opened_by key moment)))) ∷ []) far)
open_goes far key stream bytes moment clock read r there =
    subst (λ (m : ℕ). GoOn (turns (put_script key stream bytes)) (turns (put_on far key stream bytes m)) (open_turn far key m (not (is_missing (outcome_in (state_now far) (opened_by key m)))) ∷ []) far r) (sym (read r there)) (stamped_goes far key stream bytes r)

-- The Open was asked, and what it printed was written to nowhere.
module _ (key : List ℕ) (stream : ℕ) (bytes : List ℕ) (far : SoFar) (keeps : State → Image → Type 0) (notes left : ℕ) (told now : Told) (w w_new : Option (List ℕ)) (c_old c_new : Option Readings) (refused : Bool) where
  abbrev whole : State → Readings → List Turn
  whole = turns (put_script key stream bytes)

  abbrev opening : ℕ → Outcome
  opening moment = outcome_in (state_now far) (opened_by key moment)

  -- an answer, as the iteration has it
  missing_is : (a : Answer) (moment : ℕ) → a ≡ answer_of (opening moment).reply → (b : Bool) → is_missing_refusal (refusal_of a) ≡ b → is_missing (opening moment) ≡ b
  missing_is a moment is b says = ap (λ (x : Answer). is_missing_refusal (refusal_of x)) (sym is) ∙ says

  refused_is : (a : Answer) (moment : ℕ) → a ≡ answer_of (opening moment).reply → (b : Bool) → refuses a ≡ b → is_refused (opening moment) ≡ b
  refused_is a moment is b says = ap refuses (sym is) ∙ says

  -- how the script goes on, by whether the entry was missing, and whether the Open was refused
  abbrev follows : Bool → Bool → Script
  follows missing refuses = if missing then until_refused (to_create 0 key ∷ requests_of stream bytes) else if refuses then ended else until_refused (requests_of stream bytes)

  goes_on : (moment : ℕ) → ForSome c_old (λ r. moment ≡ reading_of r) → (missing refuses : Bool) → is_missing (opening moment) ≡ missing → is_refused (opening moment) ≡ refuses
      → ForSome c_old (GoOn whole (turns (follows missing refuses)) (open_turn far key moment (not missing) ∷ []) far)
  goes_on moment read missing refuses m n r there =
      subst (λ (b : Bool). GoOn whole (turns (follows missing b)) (open_turn far key moment (not missing) ∷ []) far r) n
      (subst (λ (b : Bool). GoOn whole (turns (follows b (is_refused (opening moment)))) (open_turn far key moment (not b) ∷ []) far r) m (open_goes far key stream bytes moment c_old read r there))

  -- it was missing, which isn't shown
  pub put_missing : (a : Answer) → Asks (Ok a) (to_open 0 key) far keeps notes left (around told None c_old false) (around now None c_new (refuses a)) → is_missing_refusal (refusal_of a) ≡ true
      → PlaysUpTo whole (turns (until_refused (to_create 0 key ∷ requests_of stream bytes))) far keeps notes left (around told w c_old refused) (around now w c_new refused)
  put_missing a asked says =
      let p : AreMade (asked_turn far (opened_by key asked.moment) ∷ []) far keeps notes left (around told None c_old false) (around now None c_new (refuses a)) = asked.plays in
      record {
        made = open_turn far key asked.moment false ∷ [];
        are = goes_on asked.moment asked.read true (is_refused (opening asked.moment)) (missing_is a asked.moment asked.answered true says) refl;
        plays = record { stands = p.stands; printed = printed_none w; read = p.read; refused = or_none refused };
      }

  shown_text : (a : Answer) (moment : ℕ) → a ≡ answer_of (opening moment).reply → w_new ≡ option_map (λ (t : List ℕ). t ++ reply_text (answered (opened_answer a))) w → w_new ≡ option_map (λ (t : List ℕ). t ++ text_of (open_turn far key moment true ∷ [])) w
  shown_text a moment is printed = printed ∙ ap (λ (text : List ℕ). option_map (λ (t : List ℕ). t ++ text) w) (sym (append-nil (outcome_text (opening moment)) ∙ open_text (state_now far) moment 0 key a is))

  shown : (a : Answer) (asked : Asks (Ok a) (to_open 0 key) far keeps notes left (around told None c_old false) (around now None c_new (refuses a))) (after : Bool) → w_new ≡ option_map (λ (t : List ℕ). t ++ reply_text (answered (opened_answer a))) w
      → after ≡ (refused || refuse (open_turn far key asked.moment true ∷ [])) → AreMade (open_turn far key asked.moment true ∷ []) far keeps notes left (around told w c_old refused) (around now w_new c_new after)
  shown a asked after printed is =
      let p : AreMade (asked_turn far (opened_by key asked.moment) ∷ []) far keeps notes left (around told None c_old false) (around now None c_new (refuses a)) = asked.plays in
      record { stands = p.stands; printed = shown_text a asked.moment asked.answered printed; read = p.read; refused = is }

  -- it was refused otherwise, which is shown and ends the script
  pub put_refused : (a : Answer) → Asks (Ok a) (to_open 0 key) far keeps notes left (around told None c_old false) (around now None c_new (refuses a)) → is_missing_refusal (refusal_of a) ≡ false → refuses a ≡ true
      → w_new ≡ option_map (λ (t : List ℕ). t ++ reply_text (answered (opened_answer a))) w → PlaysPart {A = Unit {0}} (Ok tt) whole far keeps notes left (around told w c_old refused) (around now w_new c_new true)
  put_refused a asked says refuses_it printed =
      let was = refused_is a asked.moment asked.answered true refuses_it in
      record {
        made = open_turn far key asked.moment true ∷ [];
        are = λ r there. sym (goes_on asked.moment asked.read false true (missing_is a asked.moment asked.answered false says) was r there
            ∙ ap (λ (l : List Turn). open_turn far key asked.moment true ∷ l) (no_more (state_now (with_more far (commands_of (open_turn far key asked.moment true ∷ [])))) (clock_after r 1)));
        plays = shown a asked true printed (sym (or_true refused) ∙ ap (λ (b : Bool). refused || (b || false)) (sym was));
      }
    where
      or_true : (b : Bool) → (b || true) ≡ true
      or_true true = refl
      or_true false = refl

  -- it is open, which is shown
  pub put_opened : (a : Answer) → Asks (Ok a) (to_open 0 key) far keeps notes left (around told None c_old false) (around now None c_new (refuses a)) → is_missing_refusal (refusal_of a) ≡ false → refuses a ≡ false
      → w_new ≡ option_map (λ (t : List ℕ). t ++ reply_text (answered (opened_answer a))) w
      → PlaysUpTo whole (turns (until_refused (requests_of stream bytes))) far keeps notes left (around told w c_old refused) (around now w_new c_new refused)
  put_opened a asked says not_refused printed =
      let was = refused_is a asked.moment asked.answered false not_refused in
      record {
        made = open_turn far key asked.moment true ∷ [];
        are = goes_on asked.moment asked.read false false (missing_is a asked.moment asked.answered false says) was;
        plays = shown a asked refused printed (or_none refused ∙ ap (λ (b : Bool). refused || (b || false)) (sym was));
      }

  -- its reply could not be printed
  pub put_unprinted : (a : Answer) → Asks (Ok a) (to_open 0 key) far keeps notes left (around told None c_old false) (around now None c_new (refuses a)) → is_missing_refusal (refusal_of a) ≡ false
      → Appends w w_new (reply_text (answered (opened_answer a))) → PlaysPart {A = Unit {0}} (Err fault.Sink) whole far keeps notes left (around told w c_old refused) (around now w_new c_new refused)
  put_unprinted a asked says front =
      let p : AreMade (asked_turn far (opened_by key asked.moment) ∷ []) far keeps notes left (around told None c_old false) (around now None c_new (refuses a)) = asked.plays in
      let cut : AreMadeTo (open_turn far key asked.moment true ∷ []) far keeps notes left (around told w c_old refused) (around now w_new c_new refused) = record {
        count = 0;
        within = omega arith;
        stands = p.stands;
        front = front.front;
        rest = front.rest;
        split = append-nil (outcome_text (opening asked.moment)) ∙ open_text (state_now far) asked.moment 0 key a asked.answered ∙ front.split;
        printed = front.written;
        read = p.read;
      } in
      first_fault whole (turns (follows false (is_refused (opening asked.moment)))) far (around told w c_old refused) (around now w_new c_new refused) keeps notes left fault.Sink (open_turn far key asked.moment true ∷ [])
      (goes_on asked.moment asked.read false (is_refused (opening asked.moment)) (missing_is a asked.moment asked.answered false says) refl) cut

  -- the folder failed in it
  pub put_fault : (why : StepFault) → Asks (Err why) (to_open 0 key) far keeps notes left (around told None c_old false) (around now None c_new false) → IfSink {A = Answer} (Err why) ⊥
      → PlaysPart {A = Unit {0}} (Err why) whole far keeps notes left (around told w c_old refused) (around now w c_new refused)
  put_fault why asked no_sink =
      first_fault whole (turns (put_on far key stream bytes asked.moment)) far (around told w c_old refused) (around now w c_new refused) keeps notes left why (open_turn far key asked.moment (not (is_missing (opening asked.moment))) ∷ [])
      (open_goes far key stream bytes asked.moment c_old asked.read) (by_fault why asked.plays no_sink)
    where
      by_fault : (f : StepFault) → Plays {A = Answer} (Err f) (asked_turn far (opened_by key asked.moment) ∷ []) far keeps notes left (around told None c_old false) (around now None c_new false) → IfSink {A = Answer} (Err f) ⊥
          → Plays {A = Unit {0}} (Err f) (open_turn far key asked.moment (not (is_missing (opening asked.moment))) ∷ []) far keeps notes left (around told w c_old refused) (around now w c_new refused)
      by_fault fault.Sink p none = absurd none
      by_fault fault.Device p none =
          let turn : Turn = open_turn far key asked.moment (not (is_missing (opening asked.moment))) in
          let few : p.noted ≤ 1 = p.few in
          let part : Appends w w (text_of (turn ∷ [])) = record { front = []; rest = text_of (turn ∷ []); split = refl; written = printed_none w } in
          record {
            noted = p.noted;
            few = few;
            stops = p.stops;
            printed = part;
            no_more = no_more_unshown turn p.noted w (printed_none w);
            no_less = no_less_one turn (opened_by key asked.moment) p.noted w w (text_of (turn ∷ [])) refl few part;
          }
      by_fault (fault.Damaged damage) p none = absurd p

-- a failed output that was handed on
pub sink_is : (q : Result (Unit {0}) StepFault) (why : StepFault) → IsErrAnd q (λ (x : StepFault). x ≡ why) → IsOnlySink {A = Unit {0}} (Err why) → q ≡ Err fault.Sink
sink_is q fault.Sink is only = fault_is q fault.Sink is
sink_is q fault.Device is only = absurd only
sink_is q (fault.Damaged damage) is only = absurd only
