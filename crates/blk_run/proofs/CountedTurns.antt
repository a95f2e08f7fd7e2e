-- Iterations of a generator that were played, one command after another.
use Rattle.std.proofs.Common.{◌≡◌, ℕ, ◌+◌, ◌<◌, ◌≤◌, ◌^◌, Bool, true, false, if◌then◌else◌, List, [], ◌∷◌, Option, None, Result, Ok, Err, refl, sym, ap, subst, ◌∙◌, arith}
use Rattle.std.specs.Option.{ForSome}
use Rattle.std.specs.Prelude.{IsErrAnd}
use Rattle.spec_image.specs.Image.{Image}
use Rattle.spec_image.specs.Told.{Told}
use Rattle.blk_io.specs.Streams.{Appends, Readings, reading_of, later_of}
use Rattle.blk_model.specs.declared.Answer.{Answer}
use Rattle.blk_model.specs.Reply.{answer_of}
use Rattle.blk_model.specs.Request.{Request}
use Rattle.blk_model.specs.Room.{items}
use Rattle.blk_model.specs.Sizes.{most_items}
use Rattle.blk_model.specs.State.{State}
use Rattle.blk_model.specs.Step.{Outcome}
use Rattle.spec_run.specs.Run.{Stamped, commands_of, outcome_in, stamped_by, state_after, turns}
use Rattle.spec_run.specs.Script.{Script, is_missing, is_missing_refusal, is_refused, refusal_of}
use Rattle.spec_run.proofs.CommandStates.{state_after-append, state_after-one}
use Rattle.spec_run.proofs.Replies.{no_less_one, no_more_unshown}
use Rattle.blk_gen.specs.declared.counting.Counts.{Counts}
use Rattle.blk_gen.specs.Counting.{AreLong, bytes_read, evicted_items, refusals_in, with_answer, with_outcome}
use Rattle.blk_gen.specs.Generator.{asks_counted}
use Rattle.blk_cache.specs.declared.cache.Cache.{Cache}
use Rattle.blk_cache.specs.declared.fault.StepFault.{StepFault}
use Rattle.blk_cache.specs.declared.fault.StepFault.TheVariants as fault
use Rattle.blk_cache.specs.CacheKeeping.{KeepsState}
use Rattle.blk_cache.specs.Stepping.{IfSink}
use Rattle.blk_run.specs.Fixed.{GoOn, PlaysUpTo}
use Rattle.blk_run.specs.Generating.{AreWithin, AsksCounted, Following, IsGeneratedRequest, PlaysCounted, PlaysOn, evicted_by, hidden_turn, longest_read, unshown}
use Rattle.blk_run.specs.Playing.{AreMade, Around, Asks, Plays, PlaysPart, SoFar, StandsAt, around, asked_turn, has_refused, refuses, state_now, with_more}
use Rattle.blk_run.proofs.EvictedCounts.{read_few, told_by}
use Rattle.blk_run.proofs.FixedTurns.{fault_is, first_fault, up_to_more, up_to_none, up_to_part}
use Rattle.blk_run.proofs.Parts.{stands_fewer}
use Rattle.blk_run.proofs.Printed.{printed_none}
use Rattle.blk_run.proofs.RunLaws.{or_none}

-- One command.

-- its iteration, where nothing of it was shown
hidden_plays : (result : Result Answer StepFault) (far : SoFar) (command : Stamped) (keeps : State → Image → Type 0) (notes left : ℕ) (told now : Told) (c_old c_new : Option Readings)
    → Plays result (asked_turn far command ∷ []) far keeps notes left (around told None c_old false) (around now None c_new (has_refused result)) → IfSink result ⊥
    → (w : Option (List ℕ)) (refused : Bool) → Plays result (hidden_turn far command ∷ []) far keeps notes left (unshown told w c_old refused) (unshown now w c_new refused)
hidden_plays (Ok answer) far command keeps notes left told now c_old c_new p none w refused = record { stands = p.stands; printed = printed_none w; read = p.read; refused = or_none refused }
hidden_plays (Err fault.Sink) far command keeps notes left told now c_old c_new p none w refused = absurd none
hidden_plays (Err fault.Device) far command keeps notes left told now c_old c_new p none w refused =
    let few : p.noted ≤ 1 = p.few in
    let part : Appends w w [] = record { front = []; rest = []; split = refl; written = printed_none w } in
    record {
      noted = p.noted;
      few = few;
      stops = p.stops;
      printed = part;
      no_more = no_more_unshown (hidden_turn far command) p.noted w (printed_none w);
      no_less = no_less_one (hidden_turn far command) command p.noted w w [] refl few part;
    }
hidden_plays (Err (fault.Damaged damage)) far command keeps notes left told now c_old c_new p none w refused = p

-- counts of few commands are numbers of 64 bits
counted_long : (commands : ℕ) (counts : Counts) → commands < 2 ^ 37 → AreWithin commands counts → AreLong counts
counted_long commands counts few within =
    let a = within.commands_few in
    let b = within.refused_few in
    let c = within.evicted_few in
    let d = within.read_few in
    record { commands = omega (arith, few, a); refused = omega (arith, few, b); evicted = omega (arith, few, c); read = omega (arith, few, d) }

refusal_few : (b : Bool) → (if b then 1 else 0) ≤ 1
refusal_few true = omega arith
refusal_few false = omega arith

-- one more command
within_more : (commands : ℕ) (counts : Counts) (a : Answer) (evicted : ℕ) → AreWithin commands counts → evicted ≤ most_items → bytes_read a ≤ longest_read → refusals_in a ≤ 1 → AreWithin (commands + 1) (with_answer a evicted counts)
within_more commands counts a evicted within few bytes one =
    let c = within.commands_few in
    let r = within.refused_few in
    let e = within.evicted_few in
    let d = within.read_few in
    record { commands_few = omega (arith, c); refused_few = omega (arith, r, one); evicted_few = omega (arith, e, few); read_few = omega (arith, d, bytes) }

-- a command that was done, and counted by the items before it and after it
module _ (far : SoFar) (cache next : Cache) (notes notes_next left : ℕ) (told now : Told) (moment : ℕ) (request : Request) (asked : IsGeneratedRequest request) (at : StandsAt far (KeepsState cache) notes (left + 2) told)
    (stands : StandsAt (with_more far (record { moment = moment; request = request } ∷ [])) (KeepsState next) notes_next left now) where
  abbrev made : Outcome
  made = outcome_in (state_now far) (record { moment = moment; request = request })

  pub counted_is : (answer : Answer) → answer ≡ answer_of made.reply → (counts_old counts_new : Counts) → (AreLong (with_answer answer (evicted_by request answer cache.items next.items) counts_old) → counts_new ≡ with_answer answer (evicted_by request answer cache.items next.items) counts_old)
      → (commands : ℕ) → commands < 2 ^ 36 → AreWithin commands counts_old → (counts_new ≡ with_outcome made counts_old) × AreWithin (commands + 1) counts_new
  counted_is answer is counts_old counts_new exact commands few within =
      let told = told_by (state_now far) moment request at.kept.holds.kept.entries.valid asked in
      let before : cache.items ≡ items (state_now far) = at.kept.holds.items_are in
      let later : next.items ≡ items made.state = stands.kept.holds.items_are ∙ ap items (state_after-one far.opened far.done (record { moment = moment; request = request })) in
      let evicted : evicted_by request answer cache.items next.items ≡ evicted_items made =
      ap (λ (a : Answer). evicted_by request a cache.items next.items) is ∙ ap (λ (n : ℕ). evicted_by request (answer_of made.reply) n next.items) before ∙ ap (evicted_by request (answer_of made.reply) (items (state_now far))) later ∙ sym told.0 in
      let same : with_answer answer (evicted_by request answer cache.items next.items) counts_old ≡ with_outcome made counts_old =
      ap (λ (a : Answer). with_answer a (evicted_by request answer cache.items next.items) counts_old) is ∙ ap (λ (n : ℕ). with_answer (answer_of made.reply) n counts_old) evicted in
      let fewer : evicted_items made ≤ most_items = let a = told.1 in let b = at.kept.holds.few in omega (arith, a, b) in
      let more : AreWithin (commands + 1) (with_outcome made counts_old) = within_more commands counts_old (answer_of made.reply) (evicted_items made) within fewer (read_few (state_now far) moment request asked) (refusal_few (refuses (answer_of made.reply))) in
      let long : AreLong (with_outcome made counts_old) = counted_long (commands + 1) (with_outcome made counts_old) (omega (arith, few)) more in
      let new : counts_new ≡ with_outcome made counts_old = exact (subst AreLong (sym same) long) ∙ same in
      (new, subst (AreWithin (commands + 1)) (sym new) more)

-- What follows a command.

stamped_goes : (far : SoFar) (request : Request) (counts : Counts) (following : Outcome → Counts → Script) (r : Readings)
    → GoOn (turns (asks_counted request counts following)) (turns (following (outcome_in (state_now far) (stamped_by r request)) (with_outcome (outcome_in (state_now far) (stamped_by r request)) counts))) (hidden_turn far (stamped_by r request) ∷ []) far r
unfolding turns state_after
stamped_goes far request counts following r =
    ap (λ (s : State). hidden_turn far (stamped_by r request) ∷ turns (following (outcome_in (state_now far) (stamped_by r request)) (with_outcome (outcome_in (state_now far) (stamped_by r request)) counts)) s (later_of r))
    (sym (state_after-append far.opened far.done (stamped_by r request ∷ [])))

counted_goes : (far : SoFar) (request : Request) (counts : Counts) (following : Outcome → Counts → Script) (moment : ℕ) (clock : Option Readings) → ForSome clock (λ r. moment ≡ reading_of r)
    → ForSome clock (GoOn (turns (asks_counted request counts following)) (turns (following (outcome_in (state_now far) (record { moment = moment; request = request })) (with_outcome (outcome_in (state_now far) (record { moment = moment; request = request })) counts))) (hidden_turn far (record { moment = moment; request = request }) ∷ []) far)
counted_goes far request counts following moment clock read r there =
    subst (λ (m : ℕ). GoOn (turns (asks_counted request counts following)) (turns (following (outcome_in (state_now far) (record { moment = m; request = request })) (with_outcome (outcome_in (state_now far) (record { moment = m; request = request })) counts))) (hidden_turn far (record { moment = m; request = request }) ∷ []) far r)
    (sym (read r there)) (stamped_goes far request counts following r)

-- A script that begins with a counted command.
module _ (request : Request) (counts counted : Counts) (following : Outcome → Counts → Script) (far : SoFar) (keeps : State → Image → Type 0) (notes left : ℕ) (told now : Told) (c_old c_new : Option Readings) (w : Option (List ℕ)) (refused : Bool) where
  abbrev whole : Script
  whole = asks_counted request counts following

  abbrev old : Around
  old = unshown told w c_old refused

  abbrev new : Around
  new = unshown now w c_new refused

  -- it was done, and this is left
  pub counted_on : (answer : Answer) (asked : AsksCounted (Ok answer) request counts counted far keeps notes left told now c_old c_new) (rest : Script) → following (outcome_in (state_now far) (record { moment = asked.moment; request = request })) (with_outcome (outcome_in (state_now far) (record { moment = asked.moment; request = request })) counts) ≡ rest
      → PlaysUpTo (turns (asks_counted request counts following)) (turns rest) far keeps notes left (unshown told w c_old refused) (unshown now w c_new refused)
  counted_on answer asked rest is = record {
    made = hidden_turn far (record { moment = asked.moment; request = request }) ∷ [];
    are = λ r there. subst (λ (s : Script). GoOn (turns (asks_counted request counts following)) (turns s) (hidden_turn far (record { moment = asked.moment; request = request }) ∷ []) far r) is (counted_goes far request counts following asked.moment c_old asked.read r there);
    plays = asked.plays w refused;
  }

  -- the folder failed in it
  pub counted_fault : (why : StepFault) → AsksCounted (Err why) request counts counted far keeps notes left told now c_old c_new → PlaysPart {A = Unit {0}} (Err why) (turns (asks_counted request counts following)) far keeps notes left (unshown told w c_old refused) (unshown now w c_new refused)
  counted_fault why asked =
      first_fault (turns (asks_counted request counts following)) (turns (following (outcome_in (state_now far) (record { moment = asked.moment; request = request })) (with_outcome (outcome_in (state_now far) (record { moment = asked.moment; request = request })) counts))) far (unshown told w c_old refused) (unshown now w c_new refused) keeps notes left why
      (hidden_turn far (record { moment = asked.moment; request = request }) ∷ []) (counted_goes far request counts following asked.moment c_old asked.read) (by_fault why (asked.plays w refused))
    where
      by_fault : (f : StepFault) → Plays {A = Answer} (Err f) (hidden_turn far (record { moment = asked.moment; request = request }) ∷ []) far keeps notes left (unshown told w c_old refused) (unshown now w c_new refused)
          → Plays {A = Unit {0}} (Err f) (hidden_turn far (record { moment = asked.moment; request = request }) ∷ []) far keeps notes left (unshown told w c_old refused) (unshown now w c_new refused)
      by_fault fault.Sink p = record { count = p.count; within = p.within; stands = p.stands; front = p.front; rest = p.rest; split = p.split; printed = p.printed; read = p.read }
      by_fault fault.Device p = p
      by_fault (fault.Damaged damage) p = p

-- One part of a script after another.
pub on_then : (whole mid rest : Script) (far : SoFar) (keeps_mid keeps : State → Image → Type 0) (notes_mid notes left_mid left : ℕ) (first second third : Around) (before : PlaysUpTo (turns whole) (turns mid) far keeps_mid notes_mid left_mid first second)
    → (result : Result (Unit {0}) StepFault) → PlaysOn result mid rest (with_more far (commands_of before.made)) keeps notes left second third → PlaysOn result whole rest far keeps notes left first third
on_then whole mid rest far keeps_mid keeps notes_mid notes left_mid left first second third before (Ok done) more =
    up_to_more (turns whole) (turns mid) far first second third keeps_mid keeps notes_mid notes left_mid left before more.made (turns rest) more.are more.plays
on_then whole mid rest far keeps_mid keeps notes_mid notes left_mid left first second third before (Err why) more =
    up_to_part (turns whole) (turns mid) far first second third keeps_mid keeps notes_mid notes left_mid left before (Err why) more

-- more commands may come to more
pub within_weaker : (few many : ℕ) (counts : Counts) → few ≤ many → AreWithin few counts → AreWithin many counts
within_weaker few many counts less within =
    let c = within.commands_few in
    let r = within.refused_few in
    let e = within.evicted_few in
    let d = within.read_few in
    record { commands_few = omega (arith, less, c); refused_few = omega (arith, less, r); evicted_few = omega (arith, less, e); read_few = omega (arith, less, d) }

-- no command more
pub nothing_counted : (commands : ℕ) (counts : Counts) (script : Script) (far : SoFar) (keeps : State → Image → Type 0) (notes left : ℕ) (here : Around) → AreWithin commands counts → StandsAt far keeps notes left here.folder
    → PlaysCounted (Ok tt) commands counts script script far keeps notes left here here
nothing_counted commands counts script far keeps notes left here within at = record { within = within; plays = up_to_none (turns script) far keeps notes left here at }

module _ (request : Request) (counts counted : Counts) (following : Outcome → Counts → Script) (far : SoFar) (keeps_mid : State → Image → Type 0) (notes_mid left_mid : ℕ) (told mid : Told) (c_old c_mid : Option Readings) (w : Option (List ℕ)) (refused : Bool) where
  -- the folder failed in a command, which was handed on
  pub counted_stops : (why : StepFault) → AsksCounted (Err why) request counts counted far keeps_mid notes_mid left_mid told mid c_old c_mid → (q : Result (Unit {0}) StepFault) → IsErrAnd q (λ (x : StepFault). x ≡ why) → (commands : ℕ) (final : Counts) (rest : Script)
      → PlaysCounted q commands final (asks_counted request counts following) rest far keeps_mid notes_mid left_mid (unshown told w c_old refused) (unshown mid w c_mid refused)
  counted_stops why asked q is commands final rest =
      subst (λ (r : Result (Unit {0}) StepFault). PlaysCounted r commands final (asks_counted request counts following) rest far keeps_mid notes_mid left_mid (unshown told w c_old refused) (unshown mid w c_mid refused)) (sym (fault_is q why is))
      (record { within = tt; plays = counted_fault request counts counted following far keeps_mid notes_mid left_mid told mid c_old c_mid w refused why asked })

  -- a command was done, and what is left was played
  module _ (answer : Answer) (asked : AsksCounted (Ok answer) request counts counted far keeps_mid notes_mid left_mid told mid c_old c_mid) (before : ℕ) (few : before < 2 ^ 36) (within : AreWithin before counts) where
    abbrev pub done_command : Stamped
    done_command = record { moment = asked.moment; request = request }

    abbrev pub made_of : Outcome
    made_of = outcome_in (state_now far) (record { moment = asked.moment; request = request })

    pub counted_new : counted ≡ with_outcome (outcome_in (state_now far) (record { moment = asked.moment; request = request })) counts
    counted_new = (asked.counted before few within).0

    pub counted_within : AreWithin (before + 1) counted
    counted_within = (asked.counted before few within).1

    pub counted_stands : StandsAt (with_more far (record { moment = asked.moment; request = request } ∷ [])) keeps_mid notes_mid left_mid mid
    counted_stands = let p : AreMade (hidden_turn far (record { moment = asked.moment; request = request }) ∷ []) far keeps_mid notes_mid left_mid (unshown told w c_old refused) (unshown mid w c_mid refused) = asked.plays w refused in p.stands

    pub counted_then : (left_script : Script) → following (outcome_in (state_now far) (record { moment = asked.moment; request = request })) counted ≡ left_script
        → (result : Result (Unit {0}) StepFault) (commands : ℕ) (final : Counts) (rest : Script) (keeps : State → Image → Type 0) (notes left : ℕ) (new : Around)
        → PlaysCounted result commands final left_script rest (with_more far (record { moment = asked.moment; request = request } ∷ [])) keeps notes left (unshown mid w c_mid refused) new
        → PlaysCounted result commands final (asks_counted request counts following) rest far keeps notes left (unshown told w c_old refused) new
    unfolding counted_on
    counted_then left_script is result commands final rest keeps notes left new later =
        let on : PlaysUpTo (turns (asks_counted request counts following)) (turns left_script) far keeps_mid notes_mid left_mid (unshown told w c_old refused) (unshown mid w c_mid refused) =
        counted_on request counts counted following far keeps_mid notes_mid left_mid told mid c_old c_mid w refused answer asked left_script
        (ap (following (outcome_in (state_now far) (record { moment = asked.moment; request = request }))) (sym (asked.counted before few within).0) ∙ is) in
        record {
          within = later.within;
          plays = on_then (asks_counted request counts following) left_script rest far keeps_mid keeps notes_mid notes left_mid left (unshown told w c_old refused) (unshown mid w c_mid refused) new on result later.plays;
        }

-- A call that asks a counted command, wherever a run is.

-- the command is asked counted, wherever the run is
abbrev pub AskedBy : Result Answer StepFault → Request → (counts_old counts_new : Counts) → (keeps_old : State → Image → Type 0) → (notes_old : ℕ) → (keeps : State → Image → Type 0) → (notes : ℕ) → (told_old told_new : Told) → (clock_old clock_new : Option Readings) → Type 0
AskedBy result request counts_old counts_new keeps_old notes_old keeps notes told_old told_new clock_old clock_new =
    (far : SoFar) (left : ℕ) → StandsAt far keeps_old notes_old (left + 2) told_old → AsksCounted result request counts_old counts_new far keeps notes left told_old told_new clock_old clock_new

-- it was done, and what follows it was played
pub step_on : (answer : Answer) (request : Request) (counts counted : Counts) (keeps_old keeps_mid : State → Image → Type 0) (notes_old notes_mid : ℕ) (told mid : Told) (c_old c_mid : Option Readings) → AskedBy (Ok answer) request counts counted keeps_old notes_old keeps_mid notes_mid told mid c_old c_mid
    → (following : Outcome → Counts → Script) (far : SoFar) (spare have before : ℕ) → spare + 2 ≤ have → StandsAt far keeps_old notes_old have told → before < 2 ^ 36 → AreWithin before counts
    → (w : Option (List ℕ)) (refused : Bool) (result : Result (Unit {0}) StepFault) (commands : ℕ) (final : Counts) (rest : Script) (keeps : State → Image → Type 0) (notes left : ℕ) (new : Around)
    → ((next : SoFar) → StandsAt next keeps_mid notes_mid spare mid → AreWithin (before + 1) counted → (made : Outcome) → answer ≡ answer_of made.reply → PlaysCounted result commands final (following made counted) rest next keeps notes left (unshown mid w c_mid refused) new)
    → PlaysCounted result commands final (asks_counted request counts following) rest far keeps notes left (unshown told w c_old refused) new
step_on answer request counts counted keeps_old keeps_mid notes_old notes_mid told mid c_old c_mid asked following far spare have before enough at few within w refused result commands final rest keeps notes left new later =
    let a : AsksCounted (Ok answer) request counts counted far keeps_mid notes_mid spare told mid c_old c_mid = asked far spare (stands_fewer far keeps_old notes_old have (spare + 2) told enough at) in
    counted_then request counts counted following far keeps_mid notes_mid spare told mid c_old c_mid w refused answer a before few within (following (outcome_in (state_now far) (record { moment = a.moment; request = request })) counted) refl result commands final rest keeps notes left new
    (later (with_more far (record { moment = a.moment; request = request } ∷ [])) (counted_stands request counts counted following far keeps_mid notes_mid spare told mid c_old c_mid w refused answer a before few within)
    (counted_within request counts counted following far keeps_mid notes_mid spare told mid c_old c_mid w refused answer a before few within) (outcome_in (state_now far) (record { moment = a.moment; request = request })) a.answered)

-- the folder failed in it, and that was handed on
pub step_fails : (why : StepFault) (request : Request) (counts counted : Counts) (keeps_old keeps : State → Image → Type 0) (notes_old notes : ℕ) (told now : Told) (c_old c_new : Option Readings) → AskedBy (Err why) request counts counted keeps_old notes_old keeps notes told now c_old c_new
    → (following : Outcome → Counts → Script) (far : SoFar) (left have : ℕ) → left + 2 ≤ have → StandsAt far keeps_old notes_old have told → (w : Option (List ℕ)) (refused : Bool) (q : Result (Unit {0}) StepFault) → IsErrAnd q (λ (x : StepFault). x ≡ why) → (commands : ℕ) (final : Counts) (rest : Script)
    → PlaysCounted q commands final (asks_counted request counts following) rest far keeps notes left (unshown told w c_old refused) (unshown now w c_new refused)
step_fails why request counts counted keeps_old keeps notes_old notes told now c_old c_new asked following far left have enough at w refused q is commands final rest =
    counted_stops request counts counted following far keeps notes left told now c_old c_new w refused why (asked far left (stands_fewer far keeps_old notes_old have (left + 2) told enough at)) q is commands final rest

-- a command that was asked, with its reply written to nowhere, as a counted one

-- a fault that was handed on
fault_of : (q : Result Answer StepFault) (why : StepFault) → IsErrAnd q (λ (x : StepFault). x ≡ why) → q ≡ Err why
fault_of (Ok answer) why is = absurd is
fault_of (Err x) why is = ap Err is

module _ (request : Request) (counts_old counts_new : Counts) (far : SoFar) (keeps : State → Image → Type 0) (notes left : ℕ) (told now : Told) (c_old c_new : Option Readings) where
  pub asks_fails : (why : StepFault) → Asks (Err why) request far keeps notes left (around told None c_old false) (around now None c_new false) → IfSink {A = Answer} (Err why) ⊥ → (q : Result Answer StepFault) → IsErrAnd q (λ (x : StepFault). x ≡ why)
      → AsksCounted q request counts_old counts_new far keeps notes left told now c_old c_new
  asks_fails why asked none q is =
      subst (λ (r : Result Answer StepFault). AsksCounted r request counts_old counts_new far keeps notes left told now c_old c_new) (sym (fault_of q why is)) (record {
        moment = asked.moment;
        read = asked.read;
        answered = tt;
        counted = tt;
        plays = hidden_plays (Err why) far (record { moment = asked.moment; request = request }) keeps notes left told now c_old c_new asked.plays none;
      })

  pub asks_done : (answer : Answer) (asked : Asks (Ok answer) request far keeps notes left (around told None c_old false) (around now None c_new (refuses answer)))
      → ((commands : ℕ) → commands < 2 ^ 36 → AreWithin commands counts_old → (counts_new ≡ with_outcome (outcome_in (state_now far) (record { moment = asked.moment; request = request })) counts_old) × AreWithin (commands + 1) counts_new)
      → AsksCounted (Ok answer) request counts_old counts_new far keeps notes left told now c_old c_new
  asks_done answer asked counted = record {
    moment = asked.moment;
    read = asked.read;
    answered = asked.answered;
    counted = counted;
    plays = hidden_plays (Ok answer) far (record { moment = asked.moment; request = request }) keeps notes left told now c_old c_new asked.plays tt;
  }

-- what an answer says of its outcome
pub missing_is : (answer : Answer) (made : Outcome) (b : Bool) → answer ≡ answer_of made.reply → is_missing_refusal (refusal_of answer) ≡ b → is_missing made ≡ b
missing_is answer made b is says = ap (λ (x : Answer). is_missing_refusal (refusal_of x)) (sym is) ∙ says

pub refused_is : (answer : Answer) (made : Outcome) (b : Bool) → answer ≡ answer_of made.reply → refuses answer ≡ b → is_refused made ≡ b
refused_is answer made b is says = ap refuses (sym is) ∙ says

-- a script that is the same
pub same_script : (a b : Script) → a ≡ b → (result : Result (Unit {0}) StepFault) (commands : ℕ) (counts : Counts) (rest : Script) (far : SoFar) (keeps : State → Image → Type 0) (notes left : ℕ) (old new : Around)
    → PlaysCounted result commands counts b rest far keeps notes left old new → PlaysCounted result commands counts a rest far keeps notes left old new
same_script a b same result commands counts rest far keeps notes left old new plays = subst (λ (s : Script). PlaysCounted result commands counts s rest far keeps notes left old new) (sym same) plays

-- more commands may come to more
pub counted_weaker : (result : Result (Unit {0}) StepFault) (few many : ℕ) (counts : Counts) (whole rest : Script) (far : SoFar) (keeps : State → Image → Type 0) (notes left : ℕ) (old new : Around) → few ≤ many → PlaysCounted result few counts whole rest far keeps notes left old new
    → PlaysCounted result many counts whole rest far keeps notes left old new
counted_weaker (Ok done) few many counts whole rest far keeps notes left old new less plays = record { within = within_weaker few many counts less plays.within; plays = plays.plays }
counted_weaker (Err why) few many counts whole rest far keeps notes left old new less plays = record { within = tt; plays = plays.plays }

-- a request that is the same
pub asked_as : (request other : Request) → request ≡ other → (result : Result Answer StepFault) (counts_old counts_new : Counts) (keeps_old : State → Image → Type 0) (notes_old : ℕ) (keeps : State → Image → Type 0) (notes : ℕ) (told_old told_new : Told) (c_old c_new : Option Readings)
    → AskedBy result request counts_old counts_new keeps_old notes_old keeps notes told_old told_new c_old c_new → AskedBy result other counts_old counts_new keeps_old notes_old keeps notes told_old told_new c_old c_new
asked_as request other same result counts_old counts_new keeps_old notes_old keeps notes told_old told_new c_old c_new asked =
    subst (λ (r : Request). AskedBy result r counts_old counts_new keeps_old notes_old keeps notes told_old told_new c_old c_new) same asked

-- The commands of an iteration whose handle names its object.
module _ (first second third : Request) (following : Following) (counts0 counts1 counts2 counts3 : Counts) (keeps0 keeps1 keeps2 keeps3 : State → Image → Type 0) (notes0 notes1 notes2 notes3 : ℕ) (told0 told1 told2 told3 : Told) (c0 c1 c2 c3 : Option Readings)
    (far : SoFar) (left commands : ℕ) (w : Option (List ℕ)) (refused : Bool) (few : commands + 3 < 2 ^ 36) (within : AreWithin commands counts0) (at : StandsAt far keeps0 notes0 (left + 6) told0) where
  abbrev last_part : Following
  last_part read = asks_counted third read (λ outcome closed. following closed)

  abbrev mid_part : Following
  mid_part written = asks_counted second written (λ outcome read. last_part read)

  abbrev whole_part : Script
  whole_part = asks_counted first counts0 (λ outcome written. mid_part written)

  -- the folder failed in the first
  pub first_fails : (why : StepFault) → AskedBy (Err why) first counts0 counts1 keeps0 notes0 keeps1 notes1 told0 told1 c0 c1 → (q : Result (Unit {0}) StepFault) → IsErrAnd q (λ (x : StepFault). x ≡ why)
      → PlaysCounted q (commands + 3) counts1 whole_part (following counts1) far keeps1 notes1 left (unshown told0 w c0 refused) (unshown told1 w c1 refused)
  first_fails why asked q is =
      step_fails why first counts0 counts1 keeps0 keeps1 notes0 notes1 told0 told1 c0 c1 asked (λ outcome written. mid_part written) far left (left + 6) (omega arith) at w refused q is (commands + 3) counts1 (following counts1)

  module _ (a1 : Answer) (asked1 : AskedBy (Ok a1) first counts0 counts1 keeps0 notes0 keeps1 notes1 told0 told1 c0 c1) where
    -- in the second
    pub second_fails : (why : StepFault) → AskedBy (Err why) second counts1 counts2 keeps1 notes1 keeps2 notes2 told1 told2 c1 c2 → (q : Result (Unit {0}) StepFault) → IsErrAnd q (λ (x : StepFault). x ≡ why)
        → PlaysCounted q (commands + 3) counts2 whole_part (following counts2) far keeps2 notes2 left (unshown told0 w c0 refused) (unshown told2 w c2 refused)
    second_fails why asked q is =
        step_on a1 first counts0 counts1 keeps0 keeps1 notes0 notes1 told0 told1 c0 c1 asked1 (λ outcome written. mid_part written) far (left + 4) (left + 6) commands (omega arith) at (omega (arith, few)) within w refused q (commands + 3) counts2 (following counts2) keeps2 notes2 left (unshown told2 w c2 refused)
        (λ next at1 within1 made is1.
        step_fails why second counts1 counts2 keeps1 keeps2 notes1 notes2 told1 told2 c1 c2 asked (λ outcome read. last_part read) next left (left + 4) (omega arith) at1 w refused q is (commands + 3) counts2 (following counts2))

    module _ (a2 : Answer) (asked2 : AskedBy (Ok a2) second counts1 counts2 keeps1 notes1 keeps2 notes2 told1 told2 c1 c2) where
      -- in the third
      pub third_fails : (why : StepFault) → AskedBy (Err why) third counts2 counts3 keeps2 notes2 keeps3 notes3 told2 told3 c2 c3 → (q : Result (Unit {0}) StepFault) → IsErrAnd q (λ (x : StepFault). x ≡ why)
          → PlaysCounted q (commands + 3) counts3 whole_part (following counts3) far keeps3 notes3 left (unshown told0 w c0 refused) (unshown told3 w c3 refused)
      third_fails why asked q is =
          step_on a1 first counts0 counts1 keeps0 keeps1 notes0 notes1 told0 told1 c0 c1 asked1 (λ outcome written. mid_part written) far (left + 4) (left + 6) commands (omega arith) at (omega (arith, few)) within w refused q (commands + 3) counts3 (following counts3) keeps3 notes3 left (unshown told3 w c3 refused)
          (λ next at1 within1 made is1.
          step_on a2 second counts1 counts2 keeps1 keeps2 notes1 notes2 told1 told2 c1 c2 asked2 (λ outcome read. last_part read) next (left + 2) (left + 4) (commands + 1) (omega arith) at1 (omega (arith, few)) within1 w refused q (commands + 3) counts3 (following counts3) keeps3 notes3 left (unshown told3 w c3 refused)
          (λ after at2 within2 made2 is2.
          step_fails why third counts2 counts3 keeps2 keeps3 notes2 notes3 told2 told3 c2 c3 asked (λ outcome closed. following closed) after left (left + 2) (omega arith) at2 w refused q is (commands + 3) counts3 (following counts3)))

      -- all were done
      pub all_done : (a3 : Answer) → AskedBy (Ok a3) third counts2 counts3 keeps2 notes2 keeps3 notes3 told2 told3 c2 c3 → PlaysCounted (Ok tt) (commands + 3) counts3 whole_part (following counts3) far keeps3 notes3 left (unshown told0 w c0 refused) (unshown told3 w c3 refused)
      all_done a3 asked3 =
          step_on a1 first counts0 counts1 keeps0 keeps1 notes0 notes1 told0 told1 c0 c1 asked1 (λ outcome written. mid_part written) far (left + 4) (left + 6) commands (omega arith) at (omega (arith, few)) within w refused (Ok tt) (commands + 3) counts3 (following counts3) keeps3 notes3 left (unshown told3 w c3 refused)
          (λ next at1 within1 made is1.
          step_on a2 second counts1 counts2 keeps1 keeps2 notes1 notes2 told1 told2 c1 c2 asked2 (λ outcome read. last_part read) next (left + 2) (left + 4) (commands + 1) (omega arith) at1 (omega (arith, few)) within1 w refused (Ok tt) (commands + 3) counts3 (following counts3) keeps3 notes3 left (unshown told3 w c3 refused)
          (λ after at2 within2 made2 is2.
          step_on a3 third counts2 counts3 keeps2 keeps3 notes2 notes3 told2 told3 c2 c3 asked3 (λ outcome closed. following closed) after left (left + 2) (commands + 1 + 1) (omega arith) at2 (omega (arith, few)) within2 w refused (Ok tt) (commands + 3) counts3 (following counts3) keeps3 notes3 left (unshown told3 w c3 refused)
          (λ last at3 within3 made3 is3. nothing_counted (commands + 3) counts3 (following counts3) last keeps3 notes3 left (unshown told3 w c3 refused) (within_weaker (commands + 1 + 1 + 1) (commands + 3) counts3 (omega arith) within3) at3)))

-- What follows the first command of an iteration.

-- a choice that was made
pub chosen : (b c : Bool) (x y : Script) → b ≡ c → (if b then x else y) ≡ (if c then x else y)
chosen b c x y same = ap (λ (d : Bool). if d then x else y) same

module _ (answer : Answer) (request : Request) (counts counted : Counts) (keeps_old keeps_mid : State → Image → Type 0) (notes_old notes_mid : ℕ) (told mid : Told) (c_old c_mid : Option Readings) (asked : AskedBy (Ok answer) request counts counted keeps_old notes_old keeps_mid notes_mid told mid c_old c_mid)
    (following : Outcome → Counts → Script) (far : SoFar) (have before : ℕ) (at : StandsAt far keeps_old notes_old have told) (few : before < 2 ^ 36) (within : AreWithin before counts) (w : Option (List ℕ)) (refused : Bool) where
  -- nothing more
  pub ends_there : (left many : ℕ) → left + 2 ≤ have → before + 1 ≤ many → (rest : Script) → ((made : Outcome) → answer ≡ answer_of made.reply → following made counted ≡ rest) → PlaysCounted (Ok tt) many counted (asks_counted request counts following) rest far keeps_mid notes_mid left (unshown told w c_old refused) (unshown mid w c_mid refused)
  ends_there left many enough more rest same =
      step_on answer request counts counted keeps_old keeps_mid notes_old notes_mid told mid c_old c_mid asked following far left have before enough at few within w refused (Ok tt) many counted rest keeps_mid notes_mid left (unshown mid w c_mid refused)
      (λ next at1 within1 made is.
      same_script (following made counted) rest (same made is) (Ok tt) many counted rest next keeps_mid notes_mid left (unshown mid w c_mid refused) (unshown mid w c_mid refused)
      (nothing_counted many counted rest next keeps_mid notes_mid left (unshown mid w c_mid refused) (within_weaker (before + 1) many counted more within1) at1))

  -- a script that was played
  pub goes_on : (left spare few_more many : ℕ) → spare + 2 ≤ have → few_more ≤ many → (left_script rest : Script) → ((made : Outcome) → answer ≡ answer_of made.reply → following made counted ≡ left_script)
      → (result : Result (Unit {0}) StepFault) (final : Counts) (keeps : State → Image → Type 0) (notes : ℕ) (now : Told) (c_new : Option Readings)
      → ((next : SoFar) → StandsAt next keeps_mid notes_mid spare mid → AreWithin (before + 1) counted → PlaysCounted result few_more final left_script rest next keeps notes left (unshown mid w c_mid refused) (unshown now w c_new refused))
      → PlaysCounted result many final (asks_counted request counts following) rest far keeps notes left (unshown told w c_old refused) (unshown now w c_new refused)
  goes_on left spare few_more many enough more left_script rest same result final keeps notes now c_new later =
      step_on answer request counts counted keeps_old keeps_mid notes_old notes_mid told mid c_old c_mid asked following far spare have before enough at few within w refused result many final rest keeps notes left (unshown now w c_new refused)
      (λ next at1 within1 made is.
      same_script (following made counted) left_script (same made is) result many final rest next keeps notes left (unshown mid w c_mid refused) (unshown now w c_new refused)
      (counted_weaker result few_more many final left_script rest next keeps notes left (unshown mid w c_mid refused) (unshown now w c_new refused) more (later next at1 within1)))

-- what follows a Create, where it was refused or not
pub behind_create : (answer : Answer) (made : Outcome) (b : Bool) (x y : Script) → answer ≡ answer_of made.reply → refuses answer ≡ b → (if is_refused made then x else y) ≡ (if b then x else y)
behind_create answer made b x y is says = chosen (is_refused made) b x y (refused_is answer made b is says)

-- what follows an Open, where its object was missing
pub behind_missing : (answer : Answer) (made : Outcome) (x y z : Script) → answer ≡ answer_of made.reply → is_missing_refusal (refusal_of answer) ≡ true → (if is_missing made then x else if is_refused made then y else z) ≡ x
behind_missing answer made x y z is says = chosen (is_missing made) true x (if is_refused made then y else z) (missing_is answer made true is says)

-- and where it was not
pub behind_open : (answer : Answer) (made : Outcome) (b : Bool) (x y z : Script) → answer ≡ answer_of made.reply → is_missing_refusal (refusal_of answer) ≡ false → refuses answer ≡ b → (if is_missing made then x else if is_refused made then y else z) ≡ (if b then y else z)
behind_open answer made b x y z is says refuses_it =
    chosen (is_missing made) false x (if is_refused made then y else z) (missing_is answer made false is says) ∙ chosen (is_refused made) b y z (refused_is answer made b is refuses_it)
