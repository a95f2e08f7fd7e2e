-- Iterations that are made one part after another.
use Rattle.std.proofs.Common.{ℕ, ◌+◌, ◌≤◌, ◌≡◌, Bool, ◌||◌, List, [], ◌++◌, length, take, Option, None, Some, Ok, Err, Result, refl, sym, ◌∙◌, ap, subst, arith, append_assoc}
use Rattle.std.specs.Prelude.{IsErrAnd}
use Rattle.std.proofs.lemmas.Result.{err_from_is_err_and}
use Rattle.std.specs.Option.{option_map, ForSome}
use Rattle.std.proofs.Math.Seq.{take-append-add}
use Rattle.std.proofs.lemmas.List.{append-nil, length-append, take-append-le}
use Rattle.spec_image.specs.Image.{Image}
use Rattle.spec_image.specs.Told.{Told}
use Rattle.blk_io.specs.Streams.{Appends, Readings}
use Rattle.blk_model.specs.State.{State}
use Rattle.spec_run.specs.Run.{clock_after, commands_of, readings_of, refuse, Stamped, state_after, text_of, Turn}
use Rattle.spec_run.specs.Progress.{StopsAfter}
use Rattle.blk_cache.specs.declared.fault.StepFault.{StepFault}
use Rattle.blk_cache.specs.declared.fault.StepFault.TheVariants as fault
use Rattle.blk_run.specs.Playing.{SoFar, StandsAt, Around, AreMade, AreMadeTo, AreStopped, Plays, PlaysPart, state_now, with_more}
use Rattle.blk_run.proofs.Printed.{then_more, then_part, part_of, printed_none}
use Rattle.spec_run.proofs.CommandStates.{state_after-append}
use Rattle.spec_run.proofs.Replies.{no_less_longer, no_less_then, no_more_longer, no_more_then}
use Rattle.spec_run.proofs.Turns.{commands_of-append, readings_of-append, refuse-append, text_of-append}
use Rattle.blk_run.proofs.RunLaws.{or_assoc, or_none, read_twice}

-- a run holds so far, whatever list of the same commands is given
pub stands_as : (far : SoFar) (a b : List Stamped) (keeps : State → Image → Type 0) (notes left : ℕ) (now : Told) → far.done ++ a ≡ b
    → StandsAt (with_more far a) keeps notes left now → StandsAt (record { start = far.start; from = far.from; opened = far.opened; done = b }) keeps notes left now
stands_as far a b keeps notes left now same at = subst (λ (l : List Stamped). StandsAt (record { start = far.start; from = far.from; opened = far.opened; done = l }) keeps notes left now) same at

-- commands that are done after others
pub stands_joined : (far : SoFar) (a b c : List Stamped) (keeps : State → Image → Type 0) (notes left : ℕ) (now : Told) → a ++ b ≡ c → StandsAt (with_more (with_more far a) b) keeps notes left now → StandsAt (with_more far c) keeps notes left now
stands_joined far a b c keeps notes left now same at =
    stands_as (with_more far a) b (far.done ++ c) keeps notes left now (append_assoc far.done a b ∙ ap (λ (l : List Stamped). far.done ++ l) same) at

-- a run holds with no command more
pub stands_none : (far : SoFar) (keeps : State → Image → Type 0) (notes left : ℕ) (now : Told) → StandsAt far keeps notes left now → StandsAt (with_more far []) keeps notes left now
stands_none far keeps notes left now at = subst (λ (l : List Stamped). StandsAt (record { start = far.start; from = far.from; opened = far.opened; done = l }) keeps notes left now) (sym (append-nil far.done)) at

-- fewer bytes are to come
pub stands_fewer : (far : SoFar) (keeps : State → Image → Type 0) (notes left fewer : ℕ) (now : Told) → fewer ≤ left → StandsAt far keeps notes left now → StandsAt far keeps notes fewer now
stands_fewer far keeps notes left fewer now less at = record { began = at.began; image = at.image; here = at.here; kept = at.kept; noted = at.noted; few = let f = at.few in omega (arith, f, less); progress = at.progress }

module _ (far : SoFar) (first second : List Turn) (old mid new : Around) (keeps_mid keeps : State → Image → Type 0) (notes_mid notes left_mid left : ℕ) (before : AreMade first far keeps_mid notes_mid left_mid old mid) where
  -- all of them
  pub made_then : AreMade second (with_more far (commands_of first)) keeps notes left mid new → AreMade (first ++ second) far keeps notes left old new
  made_then more = record {
    stands = stands_joined far (commands_of first) (commands_of second) (commands_of (first ++ second)) keeps notes left new.folder (sym (commands_of-append first second)) more.stands;
    printed = then_more (text_of first) (text_of second) old.written mid.written new.written before.printed more.printed ∙ ap (λ (t : List ℕ). option_map (λ (w : List ℕ). w ++ t) old.written) (sym (text_of-append first second));
    read = read_twice old.clock mid.clock new.clock (readings_of first) (readings_of second) before.read more.read
        ∙ ap (λ (n : ℕ). option_map (λ r. clock_after r n) old.clock) (sym (readings_of-append first second));
    refused = more.refused ∙ ap (λ (b : Bool). b || refuse second) before.refused ∙ or_assoc old.refused (refuse first) (refuse second) ∙ ap (λ (b : Bool). old.refused || b) (sym (refuse-append first second));
  }

  -- up to one of the later
  pub made_then_to : AreMadeTo second (with_more far (commands_of first)) keeps notes left mid new → AreMadeTo (first ++ second) far keeps notes left old new
  made_then_to more =
      let upto : length first + more.count + 1 ≡ length first + (more.count + 1) = omega arith in
      let whole : take (length first + more.count + 1) (first ++ second) ≡ first ++ take (more.count + 1) second = ap (λ (n : ℕ). take n (first ++ second)) upto ∙ take-append-add first second (more.count + 1) in
      let short : take (length first + more.count) (first ++ second) ≡ first ++ take more.count second = take-append-add first second more.count in
      let cmds : commands_of first ++ commands_of (take (more.count + 1) second) ≡ commands_of (take (length first + more.count + 1) (first ++ second)) = sym (commands_of-append first (take (more.count + 1) second)) ∙ ap commands_of (sym whole) in
      record {
        count = length first + more.count;
        within = let w = more.within in let l = length-append first second in omega (arith, w, l);
        stands = stands_joined far (commands_of first) (commands_of (take (more.count + 1) second)) (commands_of (take (length first + more.count + 1) (first ++ second))) keeps notes left new.folder cmds more.stands;
        front = more.front;
        rest = more.rest;
        split = ap text_of whole ∙ text_of-append first (take (more.count + 1) second) ∙ ap (λ (t : List ℕ). text_of first ++ t) more.split ∙ sym (append_assoc (text_of first) (text_of (take more.count second)) (more.front ++ more.rest))
            ∙ ap (λ (t : List ℕ). t ++ (more.front ++ more.rest)) (sym (text_of-append first (take more.count second)) ∙ ap text_of (sym short));
        printed = then_more (text_of first) (text_of (take more.count second) ++ more.front) old.written mid.written new.written before.printed more.printed
            ∙ ap (λ (t : List ℕ). option_map (λ (w : List ℕ). w ++ t) old.written)
            (sym (append_assoc (text_of first) (text_of (take more.count second)) more.front) ∙ ap (λ (t : List ℕ). t ++ more.front) (sym (text_of-append first (take more.count second)) ∙ ap text_of (sym short)));
        read = read_twice old.clock mid.clock new.clock (readings_of first) (readings_of (take (more.count + 1) second)) before.read more.read
            ∙ ap (λ (n : ℕ). option_map (λ r. clock_after r n) old.clock) (sym (readings_of-append first (take (more.count + 1) second)) ∙ ap readings_of (sym whole));
      }

  -- up to one in which the folder failed
  pub made_then_stopped : AreStopped second (with_more far (commands_of first)) mid new → AreStopped (first ++ second) far old new
  made_then_stopped stopped = record {
    noted = length (commands_of first) + stopped.noted;
    few = let few = stopped.few in let more = commands_more in omega (arith, few, more);
    stops = λ more. subst (λ (n : ℕ). StopsAfter far.from far.opened (far.done ++ (commands_of (first ++ second) ++ more)) n far.start new.folder) count_more
        (subst (λ (l : List Stamped). StopsAfter far.from far.opened l (length (far.done ++ commands_of first) + stopped.noted) far.start new.folder)
        (append_assoc far.done (commands_of first) (commands_of second ++ more)
        ∙ ap (λ (l : List Stamped). far.done ++ l) (sym (append_assoc (commands_of first) (commands_of second) more) ∙ ap (λ (l : List Stamped). l ++ more) (sym (commands_of-append first second)))) (stopped.stops more));
    printed = subst (Appends old.written new.written) (sym (text_of-append first second)) (then_part (text_of first) (text_of second) old.written mid.written new.written before.printed stopped.printed);
    no_more = no_more_then first second stopped.noted old.written mid.written new.written before.printed stopped.no_more;
    no_less = no_less_then first second stopped.noted old.written mid.written new.written before.printed stopped.no_less;
  }
    where
      commands_more : length (commands_of (first ++ second)) ≡ length (commands_of first) + length (commands_of second)
      commands_more = ap (λ (l : List Stamped). length l) (commands_of-append first second) ∙ length-append (commands_of first) (commands_of second)

      count_more : length (far.done ++ commands_of first) + stopped.noted ≡ length far.done + (length (commands_of first) + stopped.noted)
      count_more = let all = length-append far.done (commands_of first) in omega (arith, all)

-- Iterations that would follow are not made.
module _ (far : SoFar) (first second : List Turn) (old new : Around) (keeps : State → Image → Type 0) (notes left : ℕ) where
  pub made_to_only : AreMadeTo first far keeps notes left old new → AreMadeTo (first ++ second) far keeps notes left old new
  made_to_only to =
      let within = to.within in
      let whole : take (to.count + 1) first ≡ take (to.count + 1) (first ++ second) = sym (take-append-le (to.count + 1) first second (omega (arith, within))) in
      let short : take to.count first ≡ take to.count (first ++ second) = sym (take-append-le to.count first second (omega (arith, within))) in
      record {
        count = to.count;
        within = let l = length-append first second in omega (arith, within, l);
        stands = subst (λ (l : List Turn). StandsAt (with_more far (commands_of l)) keeps notes left new.folder) whole to.stands;
        front = to.front;
        rest = to.rest;
        split = ap text_of (sym whole) ∙ to.split ∙ ap (λ (l : List Turn). text_of l ++ (to.front ++ to.rest)) short;
        printed = to.printed ∙ ap (λ (l : List Turn). option_map (λ (w : List ℕ). w ++ (text_of l ++ to.front)) old.written) short;
        read = to.read ∙ ap (λ (l : List Turn). option_map (λ r. clock_after r (readings_of l)) old.clock) whole;
      }

  pub stopped_only : AreStopped first far old new → AreStopped (first ++ second) far old new
  stopped_only stopped = record {
    noted = stopped.noted;
    few = let few = stopped.few in let more = commands_more in omega (arith, few, more);
    stops = λ more. subst (λ (l : List Stamped). StopsAfter far.from far.opened (far.done ++ l) (length far.done + stopped.noted) far.start new.folder)
        (sym (append_assoc (commands_of first) (commands_of second) more) ∙ ap (λ (l : List Stamped). l ++ more) (sym (commands_of-append first second))) (stopped.stops (commands_of second ++ more));
    printed = subst (Appends old.written new.written) (sym (text_of-append first second)) (part_of (text_of first) (text_of second) old.written new.written stopped.printed);
    no_more = no_more_longer first second stopped.noted old.written new.written stopped.no_more;
    no_less = no_less_longer first second stopped.noted old.written new.written stopped.no_less;
  }
    where
      commands_more : length (commands_of (first ++ second)) ≡ length (commands_of first) + length (commands_of second)
      commands_more = ap (λ (l : List Stamped). length l) (commands_of-append first second) ∙ length-append (commands_of first) (commands_of second)

-- Parts of a script.

-- a part that is one part and then another
abbrev pub IsThen : (State → Readings → List Turn) → (State → Readings → List Turn) → (State → Readings → List Turn) → Type 0
IsThen whole one more = (state : State) (clock : Readings) → whole state clock ≡ one state clock ++ more (state_after state (commands_of (one state clock))) (clock_after clock (readings_of (one state clock)))

-- the iterations of a part, which was played
turns_are : (far : SoFar) (whole one more : State → Readings → List Turn) (first second : List Turn) (c0 c1 : Option Readings) → IsThen whole one more → ForSome c0 (λ r. first ≡ one (state_now far) r)
    → c1 ≡ option_map (λ r. clock_after r (readings_of first)) c0 → ForSome c1 (λ r. second ≡ more (state_now (with_more far (commands_of first))) r) → ForSome c0 (λ r. first ++ second ≡ whole (state_now far) r)
turns_are far whole one more first second c0 c1 joined are read later r there =
    let here : first ≡ one (state_now far) r = are r there in
    let next : c1 ≡ Some (clock_after r (readings_of first)) = read ∙ ap (option_map (λ r. clock_after r (readings_of first))) there in
    let then : second ≡ more (state_now (with_more far (commands_of first))) (clock_after r (readings_of first)) = later (clock_after r (readings_of first)) next in
    ap (λ (l : List Turn). l ++ second) here
    ∙ ap (λ (l : List Turn). one (state_now far) r ++ l)
    (then ∙ ap (λ (s : State). more s (clock_after r (readings_of first))) (state_after-append far.opened far.done (commands_of first)) ∙ ap (λ (l : List Turn). more (state_after (state_now far) (commands_of l)) (clock_after r (readings_of l))) here)
    ∙ sym (joined (state_now far) r)

plays_then : {B : Type 0} (result : Result B StepFault) (far : SoFar) (first second : List Turn) (old mid new : Around) (keeps_mid keeps : State → Image → Type 0) (notes_mid notes left_mid left : ℕ) → AreMade first far keeps_mid notes_mid left_mid old mid
    → Plays result second (with_more far (commands_of first)) keeps notes left mid new → Plays result (first ++ second) far keeps notes left old new
plays_then (Ok b) far first second old mid new keeps_mid keeps notes_mid notes left_mid left before more = made_then far first second old mid new keeps_mid keeps notes_mid notes left_mid left before more
plays_then (Err fault.Sink) far first second old mid new keeps_mid keeps notes_mid notes left_mid left before more = made_then_to far first second old mid new keeps_mid keeps notes_mid notes left_mid left before more
plays_then (Err fault.Device) far first second old mid new keeps_mid keeps notes_mid notes left_mid left before more = made_then_stopped far first second old mid new keeps_mid keeps notes_mid notes left_mid left before more
plays_then (Err (fault.Damaged damage)) far first second old mid new keeps_mid keeps notes_mid notes left_mid left before more = more

-- one part was played, and then another
pub part_then : {A B : Type 0} (result : Result B StepFault) (a : A) (far : SoFar) (whole one more : State → Readings → List Turn) (old mid new : Around) (keeps_mid keeps : State → Image → Type 0) (notes_mid notes left_mid left : ℕ) → IsThen whole one more
    → PlaysPart {A = A} (Ok a) one far keeps_mid notes_mid left_mid old mid
    → ((next : SoFar) → StandsAt next keeps_mid notes_mid left_mid mid.folder → PlaysPart result more next keeps notes left mid new)
    → PlaysPart result whole far keeps notes left old new
part_then {A} {B} result a far whole one more old mid new keeps_mid keeps notes_mid notes left_mid left joined before after =
    let first : AreMade before.made far keeps_mid notes_mid left_mid old mid = before.plays in
    let next = after (with_more far (commands_of before.made)) first.stands in
    record {
      made = before.made ++ next.made;
      are = turns_are far whole one more before.made next.made old.clock mid.clock joined before.are first.read next.are;
      plays = plays_then result far before.made next.made old mid new keeps_mid keeps notes_mid notes left_mid left first next.plays;
    }

-- what a part would go on with, where the clock is observable
rest_of : (Readings → List Turn) → Option Readings → List Turn
rest_of f None = []
rest_of f (Some r) = f r

rest_is : (f : Readings → List Turn) (clock : Option Readings) (r : Readings) → clock ≡ Some r → rest_of f clock ≡ f r
unfolding rest_of
rest_is f None r there = absurd (no there)
  where
    no : ◌≡◌ {A = Option Readings} None (Some r) → ⊥
    no e = cc
rest_is f (Some x) r there = ap (rest_of f) there

-- a part failed, and what would follow it was not played
pub part_only : {A B : Type 0} (why : StepFault) (far : SoFar) (whole one more : State → Readings → List Turn) (old new : Around) (keeps : State → Image → Type 0) (notes left : ℕ) → IsThen whole one more
    → PlaysPart {A = A} (Err why) one far keeps notes left old new → PlaysPart {A = B} (Err why) whole far keeps notes left old new
part_only {A} {B} why far whole one more old new keeps notes left joined before =
    let follow : Readings → List Turn = λ r. more (state_after (state_now far) (commands_of before.made)) (clock_after r (readings_of before.made)) in
    let second = rest_of follow old.clock in
    record {
      made = before.made ++ second;
      are = λ r there.
          let here : before.made ≡ one (state_now far) r = before.are r there in
          ap (λ (l : List Turn). before.made ++ l) (rest_is follow old.clock r there)
          ∙ ap (λ (l : List Turn). l ++ more (state_after (state_now far) (commands_of l)) (clock_after r (readings_of l))) here
          ∙ sym (joined (state_now far) r);
      plays = by_fault why before.made second before.plays;
    }
  where
    by_fault : (w : StepFault) (first second : List Turn) → Plays {A = A} (Err w) first far keeps notes left old new → Plays {A = B} (Err w) (first ++ second) far keeps notes left old new
    by_fault fault.Sink first second plays = made_to_only far first second old new keeps notes left plays
    by_fault fault.Device first second plays = stopped_only far first second old new keeps notes left plays
    by_fault (fault.Damaged damage) first second plays = plays

-- no iteration was made
pub part_none : {A : Type 0} (a : A) (far : SoFar) (none : State → Readings → List Turn) (keeps : State → Image → Type 0) (notes left : ℕ) (here : Around) → ((state : State) (clock : Readings) → none state clock ≡ [])
    → StandsAt far keeps notes left here.folder → PlaysPart {A = A} (Ok a) none far keeps notes left here here
part_none a far none keeps notes left here empty at = record {
  made = [];
  are = λ r there. sym (empty (state_now far) r);
  plays = record { stands = stands_none far keeps notes left here.folder at; printed = printed_none here.written; read = read_none here.clock; refused = or_none here.refused };
}
  where
    read_none : (c : Option Readings) → c ≡ option_map (λ r. clock_after r 0) c
    read_none None = refl
    read_none (Some r) = refl

-- a fault that is handed on
pub handed_on : {B E : Type 0} (q : Result B E) (why : E) → IsErrAnd q (λ (x : E). x ≡ why) → q ≡ Err why
handed_on {E = E} q why is = let p = err_from_is_err_and q is in p.1 ∙ ap (λ (x : E). Err x) p.2

-- with it what was played
pub part_handed : {A : Type 0} (q : Result A StepFault) (why : StepFault) (part : State → Readings → List Turn) (far : SoFar) (keeps : State → Image → Type 0) (notes left : ℕ) (old new : Around) → IsErrAnd q (λ (x : StepFault). x ≡ why)
    → PlaysPart {A = A} (Err why) part far keeps notes left old new → PlaysPart q part far keeps notes left old new
part_handed {A} q why part far keeps notes left old new is played = subst (λ (r : Result A StepFault). PlaysPart r part far keeps notes left old new) (sym (handed_on q why is)) played

-- fewer bytes are to come
pub part_fewer : {A : Type 0} (q : Result A StepFault) (part : State → Readings → List Turn) (far : SoFar) (keeps : State → Image → Type 0) (notes left fewer : ℕ) (old new : Around) → fewer ≤ left
    → PlaysPart q part far keeps notes left old new → PlaysPart q part far keeps notes fewer old new
part_fewer {A} q part far keeps notes left fewer old new less played = record { made = played.made; are = played.are; plays = by_result q played.made played.plays }
  where
    by_result : (r : Result A StepFault) (made : List Turn) → Plays r made far keeps notes left old new → Plays r made far keeps notes fewer old new
    by_result (Ok a) made p = record { stands = stands_fewer (with_more far (commands_of made)) keeps notes left fewer new.folder less p.stands; printed = p.printed; read = p.read; refused = p.refused }
    by_result (Err fault.Sink) made p = record { count = p.count; within = p.within; stands = stands_fewer (with_more far (commands_of (take (p.count + 1) made))) keeps notes left fewer new.folder less p.stands; front = p.front; rest = p.rest; split = p.split; printed = p.printed; read = p.read }
    by_result (Err fault.Device) made p = p
    by_result (Err (fault.Damaged damage)) made p = p
