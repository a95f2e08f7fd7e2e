-- The iteration of a text of the state.
use Rattle.std.proofs.Common.{ℕ, ◌≡◌, Bool, List, [], ◌∷◌, ◌++◌, Option, None, Some, Ok, Err, Result, OnOk, refl, sym, ◌∙◌, ap, arith}
use Rattle.std.specs.Option.{option_map}
use Rattle.std.proofs.lemmas.List.{append-nil}
use Rattle.spec_image.specs.Image.{Image}
use Rattle.spec_image.specs.Told.{Told}
use Rattle.blk_io.specs.Streams.{Appends, Readings}
use Rattle.blk_model.specs.Room.{total}
use Rattle.blk_model.specs.State.{State}
use Rattle.spec_run.specs.Script.{ended, says, totals_line, totals_text}
use Rattle.spec_run.specs.Run.{clock_after, text_turn, turns}
use Rattle.blk_cache.specs.declared.cache.Cache.{Cache}
use Rattle.blk_cache.specs.declared.fault.StepFault.{StepFault}
use Rattle.blk_cache.specs.declared.fault.StepFault.TheVariants as fault
use Rattle.blk_cache.specs.CacheKeeping.{KeepsState}
use Rattle.blk_run.specs.Errors.{IsOnlySink}
use Rattle.blk_run.specs.Playing.{Plays, PlaysPart, SoFar, StandsAt, around, state_now}
use Rattle.blk_run.proofs.Parts.{stands_none}
use Rattle.blk_run.proofs.RunLaws.{or_none}

none_read : (c : Option Readings) → c ≡ option_map (λ r. clock_after r 0) c
none_read None = refl
none_read (Some r) = refl

-- a text of the state
pub text_part : (result : Result (Unit {0}) StepFault) (text : State → List ℕ) (shown : List ℕ) (far : SoFar) (keeps : State → Image → Type 0) (notes left : ℕ) (told : Told) (w_old w_new : Option (List ℕ)) (clock : Option Readings) (refused : Bool)
    → StandsAt far keeps notes left told → text (state_now far) ≡ shown → OnOk result (w_new ≡ option_map (λ (w : List ℕ). w ++ shown) w_old) → Appends w_old w_new shown → IsOnlySink result
    → PlaysPart result (turns (says text ended)) far keeps notes left (around told w_old clock refused) (around told w_new clock refused)
unfolding turns
text_part result text shown far keeps notes left told w_old w_new clock refused at same printed front only = record {
  made = text_turn shown ∷ [];
  are = λ r there. ap (λ (t : List ℕ). text_turn t ∷ []) (sym same);
  plays = by_result result printed only;
}
  where
    by_result : (r : Result (Unit {0}) StepFault) → OnOk r (w_new ≡ option_map (λ (w : List ℕ). w ++ shown) w_old) → IsOnlySink r
        → Plays r (text_turn shown ∷ []) far keeps notes left (around told w_old clock refused) (around told w_new clock refused)
    by_result (Ok done) whole sink = record {
      stands = stands_none far keeps notes left told at;
      printed = whole ∙ ap (λ (t : List ℕ). option_map (λ (w : List ℕ). w ++ t) w_old) (sym (append-nil shown));
      read = none_read clock;
      refused = or_none refused;
    }
    by_result (Err fault.Sink) whole sink = record {
      count = 0;
      within = omega arith;
      stands = stands_none far keeps notes left told at;
      front = front.front;
      rest = front.rest;
      split = append-nil shown ∙ front.split;
      printed = front.written;
      read = none_read clock;
    }
    by_result (Err fault.Device) whole sink = absurd sink
    by_result (Err (fault.Damaged damage)) whole sink = absurd sink

-- the totals of a cache are those of the state that it keeps
pub totals_are : (cache : Cache) (far : SoFar) (notes left : ℕ) (now : Told) → StandsAt far (KeepsState cache) notes left now → totals_text (state_now far) ≡ totals_line cache.items cache.bytes
totals_are cache far notes left now at =
    ap (λ (n : ℕ). totals_line n (total (state_now far))) (sym at.kept.holds.items_are) ∙ ap (λ (n : ℕ). totals_line cache.items n) (sym at.kept.holds.bytes_are)
