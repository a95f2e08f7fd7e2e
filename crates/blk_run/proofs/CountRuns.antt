-- The run of `count`: its line is printed, no name is closed, and the folder is closed.
use Rattle.std.proofs.Common.{ℕ, ◌+◌, ◌*◌, ◌≡◌, true, false, List, [], ◌∷◌, ◌++◌, Option, None, Some, Ok, Err, Result, OnOk, refl, sym, ◌∙◌, ap, subst}
use Rattle.std.specs.Prelude.{is_some, position, slice_index_or}
use Rattle.std.specs.Option.{option_map, ForSome}
use Rattle.std.proofs.lemmas.List.Quantifiers.{position-Some}
use Rattle.spec_image.specs.Image.{Image}
use Rattle.spec_image.specs.Told.{AppliesPrefix, PassesAny, Told}
use Rattle.blk_io.specs.Streams.{Appends, Readings, later_of}
use Rattle.blk_model.specs.Holding.{open_state}
use Rattle.blk_model.specs.Sizes.{handle_names}
use Rattle.blk_model.specs.State.{Bounds, State}
use Rattle.spec_folder.specs.Found.{HoldsStill, found}
use Rattle.spec_run.specs.Opening.{close_mark}
use Rattle.spec_run.specs.Script.{count_script, totals_line, totals_text}
use Rattle.spec_run.specs.Run.{turns}
use Rattle.blk_cache.specs.declared.cache.Cache.{Cache}
use Rattle.blk_cache.specs.declared.fault.StepFault.{StepFault}
use Rattle.blk_cache.specs.declared.fault.StepFault.TheVariants as fault
use Rattle.blk_cache.specs.BoundNames.{AreAllFree}
use Rattle.blk_cache.specs.CacheKeeping.{KeepsState}
use Rattle.blk_cache.specs.Opening as opening
use Rattle.blk_cache.specs.Stepping.{IfSink}
use Rattle.blk_run.specs.declared.ending.Status.TheVariants as status
use Rattle.blk_run.specs.Closings.{ClosesAll}
use Rattle.blk_run.specs.Errors.{IsOnlySink}
use Rattle.blk_run.specs.Playing.{PlaysPart, SoFar, StandsAt, around}
use Rattle.blk_run.specs.Scripts.{closes_script, script_status}
use Rattle.blk_run.specs.Session.{FixedRuns, Outside}
use Rattle.blk_run.proofs.Assembling.{ends_closed, ends_unfinished}
use Rattle.blk_run.proofs.ClosingAll.{all_closed, none_so_far}
use Rattle.blk_run.proofs.HeadlineBridge.{cache_stands, names_bound}
use Rattle.blk_run.proofs.ScriptEnds.{script_closed, script_unclosed}
use Rattle.blk_run.proofs.TextTurns.{text_part, totals_are}

-- where no name is bound there is no first one
pub free_none : {Y : Type 0} (slots : List (Option Y)) → ((name : ℕ) → slice_index_or slots name None ≡ None) → position is_some slots ≡ None
free_none {Y} slots free = by_place (position is_some slots) refl
  where
    clash : true ≡ false → ⊥
    clash e = cc

    by_place : (o : Option ℕ) → position is_some slots ≡ o → position is_some slots ≡ None
    by_place None at = at
    by_place (Some name) at = let taken = position-Some is_some slots name None at in absurd (clash (sym taken.1 ∙ ap (λ (slot : Option Y). is_some slot) (free name)))

-- and nothing is closed
pub free_closes : (cache : Cache) (far : SoFar) (left : ℕ) (told : Told) (clock : Option Readings) → AreAllFree cache.handles → StandsAt far (KeepsState cache) cache.notes (left + 2 * handle_names) told
    → ClosesAll (Ok tt) far (KeepsState cache) cache.notes left told clock clock
free_closes cache far left told clock free at =
    all_closed cache.handles (KeepsState cache) (λ state image k. k.holds.kept.entries.valid) (λ state image k. names_bound cache state image k) far cache.notes left told clock clock (free_none cache.handles free)
    (none_so_far far (KeepsState cache) cache.notes left told clock (λ state image k. k.holds.kept.entries.valid) at)

-- where only the output failed the folder is closed
only_closes : (r : Result (Unit {0}) StepFault) → IsOnlySink r → closes_script r ≡ true
only_closes (Ok done) only = refl
only_closes (Err fault.Sink) only = refl
only_closes (Err fault.Device) only = absurd only
only_closes (Err (fault.Damaged damage)) only = absurd only

-- the status then
pub status_at_ok : (r : Result (Unit {0}) StepFault) (done : Unit {0}) → r ≡ Ok done → script_status r false ≡ status.Ok
status_at_ok r done is = ap (λ (x : Result (Unit {0}) StepFault). script_status x false) is

pub status_at_sink : (r : Result (Unit {0}) StepFault) (why : StepFault) → r ≡ Err why → IsOnlySink r → script_status r false ≡ status.Sink
status_at_sink r fault.Sink is only = ap (λ (x : Result (Unit {0}) StepFault). script_status x false) is
status_at_sink r fault.Device is only = absurd (subst IsOnlySink is only)
status_at_sink r (fault.Damaged damage) is only = absurd (subst IsOnlySink is only)

module _ (cache : Cache) (free : AreAllFree cache.handles) (from : Image) (limits : Bounds) (readings : Readings) (left : Option (List ℕ)) (start : Told) (first next : Option Readings) (there : start.files ≡ Some from) (is : first ≡ Some readings) (read : next ≡ option_map later_of first)
    (told final : Told) (w_old w_new : Option (List ℕ)) (sink : Type 0) (r : Result (Unit {0}) StepFault)
    (printed : OnOk r (w_new ≡ option_map (λ (w : List ℕ). w ++ totals_line cache.items cache.bytes) w_old)) (front : Appends w_old w_new (totals_line cache.items cache.bytes)) (only : IsOnlySink r)
    (at : StandsAt (record { start = start; from = from; opened = open_state (found from) limits; done = [] }) (KeepsState cache) cache.notes (2 * handle_names) told)
    (part : AppliesPrefix told final (close_mark ∷ [])) (passes : ForSome told.files (λ image. (state : State) → KeepsState cache state image → PassesAny told final (HoldsStill image))) where
  abbrev far : SoFar
  far = record { start = start; from = from; opened = open_state (found from) limits; done = [] }

  abbrev old : Outside
  old = record { folder = start; written = w_old; left = left; clock = first }

  abbrev new : Outside
  new = record { folder = final; written = w_new; left = left; clock = next }

  plays : PlaysPart r (turns count_script) far (KeepsState cache) cache.notes (2 * handle_names) (around told w_old next false) (around told w_new next false)
  plays = text_part r totals_text (totals_line cache.items cache.bytes) far (KeepsState cache) cache.notes (2 * handle_names) told w_old w_new next false at (totals_are cache far cache.notes (2 * handle_names) told at) printed front only

  -- it was closed
  pub count_closed : ForSome told.files (λ image. (state : State) → KeepsState cache state image → ForSome final.files opening.EndsSession) → FixedRuns (script_status r false) count_script limits from readings sink old new
  count_closed ends =
      script_closed count_script from limits readings old there is next read sink (KeepsState cache) cache.notes told new (around told w_new next false) refl r (only_closes r only) plays
      (λ run stands. ends_closed run (KeepsState cache) (cache_stands cache) cache.notes 0 told final next next (free_closes cache run 0 told next free stands) part passes ends)

  -- the folder failed where it was to be closed
  pub count_unclosed : IfSink r sink → FixedRuns status.Device count_script limits from readings sink old new
  count_unclosed fell =
      script_unclosed count_script from limits readings old there is next read sink (KeepsState cache) cache.notes told new (around told w_new next false) refl r (only_closes r only) fell plays
      (λ run stands. ends_unfinished run (KeepsState cache) (cache_stands cache) cache.notes 0 told final next next (free_closes cache run 0 told next free stands) part passes)
