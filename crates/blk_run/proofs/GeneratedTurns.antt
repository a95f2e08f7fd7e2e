-- Iterations of a generator, one after another.
use Rattle.std.proofs.Common.{◌≡◌, ℕ, suc, ◌+◌, ◌-◌, ◌*◌, ◌<◌, ◌≤◌, Bool, List, ◌++◌, Option, Result, Ok, Err, OnOk, sym, ap, subst, ◌∙◌, arith}
use Rattle.std.specs.Option.{option_map}
use Rattle.std.specs.Prelude.{IsErrAnd}
use Rattle.spec_image.specs.Image.{Image}
use Rattle.spec_image.specs.Told.{Told}
use Rattle.blk_io.specs.Streams.{Appends, Readings}
use Rattle.blk_model.specs.State.{State}
use Rattle.spec_run.specs.Run.{clock_after, commands_of, readings_of, Turn as Turned, turns}
use Rattle.spec_run.specs.Script.{Script, ended, says, totals_line}
use Rattle.blk_gen.specs.declared.counting.Counts.{Counts}
use Rattle.blk_gen.specs.declared.drawing.Turn.{Turn}
use Rattle.blk_gen.specs.Counting.{counts_line, no_counts}
use Rattle.blk_gen.specs.Draws.{turn_behind, value_behind}
use Rattle.blk_gen.specs.Generator.{closing_text, gen_script, turn_script, turns_script}
use Rattle.blk_cache.specs.declared.cache.Cache.{Cache}
use Rattle.blk_cache.specs.declared.fault.StepFault.{StepFault}
use Rattle.blk_cache.specs.CacheKeeping.{KeepsState}
use Rattle.blk_run.specs.Errors.{IsOnlySink}
use Rattle.blk_run.specs.Fixed.{PlaysUpTo}
use Rattle.blk_run.specs.Generating.{AreWithin, PlaysCounted, unshown}
use Rattle.blk_run.specs.Playing.{Around, PlaysPart, SoFar, StandsAt, state_now, with_more}
use Rattle.blk_run.proofs.CountedTurns.{on_then}
use Rattle.blk_run.proofs.FixedTurns.{fault_is, up_to_none, up_to_part}
use Rattle.blk_run.proofs.Parts.{stands_fewer}
use Rattle.blk_run.proofs.TextTurns.{text_part, totals_are}

-- nothing is counted yet
pub none_within : (counts : Counts) → counts ≡ no_counts → AreWithin (5 * 0) counts
none_within counts none = subst (AreWithin (5 * 0)) (sym none) (record { commands_few = omega arith; refused_few = omega arith; evicted_few = omega arith; read_few = omega arith })

-- no iteration yet
pub generated_begins : (seed count value : ℕ) (counts : Counts) → value ≡ seed → counts ≡ no_counts → (far : SoFar) (keeps : State → Image → Type 0) (notes left : ℕ) (here : Around) → StandsAt far keeps notes (left + 2 * (5 * count)) here.folder
    → PlaysUpTo (turns (gen_script seed count)) (turns (turns_script (count - 0) 0 value counts)) far keeps notes (left + 2 * (5 * (count - 0))) here here
generated_begins seed count value counts is none far keeps notes left here at =
    let e : count ≡ count - 0 = omega arith in
    subst (λ (n : ℕ). PlaysUpTo (turns (gen_script seed count)) (turns (turns_script n 0 value counts)) far keeps notes (left + 2 * (5 * n)) here here) e
    (subst (λ (v : ℕ). PlaysUpTo (turns (gen_script seed count)) (turns (turns_script count 0 v counts)) far keeps notes (left + 2 * (5 * count)) here here) (sym is)
    (subst (λ (k : Counts). PlaysUpTo (turns (gen_script seed count)) (turns (turns_script count 0 seed k)) far keeps notes (left + 2 * (5 * count)) here here) (sym none)
    (up_to_none (turns (gen_script seed count)) far keeps notes (left + 2 * (5 * count)) here at)))

-- the iterations that are left begin with the next
next_script : (count i value : ℕ) (counts : Counts) (turn : Turn) → i < count → turn ≡ turn_behind value → turns_script (count - i) i value counts ≡ turn_script i turn counts (turns_script (count - (i + 1)) (i + 1) (value_behind value))
unfolding turns_script
next_script count i value counts turn less is =
    let e : count - i ≡ suc (count - (i + 1)) = omega (arith, less) in
    ap (λ (n : ℕ). turns_script n i value counts) e ∙ ap (λ (t : Turn). turn_script i t counts (turns_script (count - (i + 1)) (i + 1) (value_behind value))) (sym is)

-- none is left
last_script : (count i value : ℕ) (counts : Counts) → count ≤ i → turns_script (count - i) i value counts ≡ says (closing_text counts) ended
unfolding turns_script
last_script count i value counts past = let e : count - i ≡ 0 = omega (arith, past) in ap (λ (n : ℕ). turns_script n i value counts) e

-- fewer bytes are to come
pub up_fewer : (whole rest : State → Readings → List Turned) (far : SoFar) (keeps : State → Image → Type 0) (notes left fewer : ℕ) (first second : Around) → fewer ≤ left → PlaysUpTo whole rest far keeps notes left first second → PlaysUpTo whole rest far keeps notes fewer first second
up_fewer whole rest far keeps notes left fewer first second less played = record {
  made = played.made;
  are = played.are;
  plays = record { stands = stands_fewer (with_more far (commands_of played.made)) keeps notes left fewer second.folder less played.plays.stands; printed = played.plays.printed; read = played.plays.read; refused = played.plays.refused };
}

-- So many iterations were played.
module _ (whole : Script) (count i value : ℕ) (counts : Counts) (far : SoFar) (keeps_mid : State → Image → Type 0) (notes_mid left_mid : ℕ) (first second : Around) (before : PlaysUpTo (turns whole) (turns (turns_script (count - i) i value counts)) far keeps_mid notes_mid left_mid first second) where
  abbrev pub here : SoFar
  here = with_more far (commands_of before.made)

  -- where this is left
  left_as : (script : Script) → turns_script (count - i) i value counts ≡ script → PlaysUpTo (turns whole) (turns script) far keeps_mid notes_mid left_mid first second
  left_as script is = record {
    made = before.made;
    are = λ r there. before.are r there ∙ ap (λ (s : Script). before.made ++ turns s (state_now (with_more far (commands_of before.made))) (clock_after r (readings_of before.made))) is;
    plays = before.plays;
  }

  module _ (turn : Turn) (less : i < count) (drawn : turn ≡ turn_behind value) where
    abbrev behind : Counts → Script
    behind = turns_script (count - (i + 1)) (i + 1) (value_behind value)

    abbrev this : Script
    this = turn_script i turn counts (turns_script (count - (i + 1)) (i + 1) (value_behind value))

    -- one more was played
    pub generated_goes : (next_value : ℕ) → next_value ≡ value_behind value → (commands : ℕ) (counted : Counts) (keeps : State → Image → Type 0) (notes left : ℕ) (third : Around)
        → PlaysCounted (Ok tt) commands counted this (turns_script (count - (i + 1)) (i + 1) (value_behind value) counted) (with_more far (commands_of before.made)) keeps notes left second third
        → PlaysUpTo (turns whole) (turns (turns_script (count - (i + 1)) (i + 1) next_value counted)) far keeps notes left first third
    unfolding left_as
    generated_goes next_value goes_on commands counted keeps notes left third played =
        subst (λ (v : ℕ). PlaysUpTo (turns whole) (turns (turns_script (count - (i + 1)) (i + 1) v counted)) far keeps notes left first third) (sym goes_on)
        (on_then whole this (turns_script (count - (i + 1)) (i + 1) (value_behind value) counted) far keeps_mid keeps notes_mid notes left_mid left first second third (left_as this (next_script count i value counts turn less drawn)) (Ok tt) played.plays)

    -- the folder failed in it, and that was handed on
    pub generated_stops : (why : StepFault) (q : Result (Unit {0}) StepFault) → IsErrAnd q (λ (x : StepFault). x ≡ why) → (commands : ℕ) (counted : Counts) (rest : Script) (keeps : State → Image → Type 0) (notes left : ℕ) (third : Around)
        → PlaysCounted (Err why) commands counted this rest (with_more far (commands_of before.made)) keeps notes left second third → PlaysPart q (turns whole) far keeps notes left first third
    unfolding left_as
    generated_stops why q is commands counted rest keeps notes left third played =
        subst (λ (r : Result (Unit {0}) StepFault). PlaysPart r (turns whole) far keeps notes left first third) (sym (fault_is q why is))
        (on_then whole this rest far keeps_mid keeps notes_mid notes left_mid left first second third (left_as this (next_script count i value counts turn less drawn)) (Err why) played.plays)

-- All were played, and their counts are printed.
module _ (whole : Script) (count i value : ℕ) (counts : Counts) (far : SoFar) (cache : Cache) (notes left : ℕ) (told now : Told) (w w_new : Option (List ℕ)) (c_old c_new : Option Readings) (refused : Bool)
    (before : PlaysUpTo (turns whole) (turns (turns_script (count - i) i value counts)) far (KeepsState cache) notes left (unshown told w c_old refused) (unshown now w c_new refused)) where
  pub generated_ends : count ≤ i → (r : Result (Unit {0}) StepFault) → OnOk r (w_new ≡ option_map (λ (t : List ℕ). t ++ (counts_line counts ++ totals_line cache.items cache.bytes)) w) → Appends w w_new (counts_line counts ++ totals_line cache.items cache.bytes) → IsOnlySink r
      → PlaysPart r (turns whole) far (KeepsState cache) notes left (unshown told w c_old refused) (unshown now w_new c_new refused)
  unfolding left_as
  generated_ends past r printed front only =
      let ends : PlaysUpTo (turns whole) (turns (says (closing_text counts) ended)) far (KeepsState cache) notes left (unshown told w c_old refused) (unshown now w c_new refused) =
      left_as whole count i value counts far (KeepsState cache) notes left (unshown told w c_old refused) (unshown now w c_new refused) before (says (closing_text counts) ended) (last_script count i value counts past) in
      up_to_part (turns whole) (turns (says (closing_text counts) ended)) far (unshown told w c_old refused) (unshown now w c_new refused) (unshown now w_new c_new refused) (KeepsState cache) (KeepsState cache) notes notes left left ends r
      (text_part r (closing_text counts) (counts_line counts ++ totals_line cache.items cache.bytes) (with_more far (commands_of before.made)) (KeepsState cache) notes left now w w_new c_new refused before.plays.stands
      (ap (λ (t : List ℕ). counts_line counts ++ t) (totals_are cache (with_more far (commands_of before.made)) notes left now before.plays.stands)) printed front only)
