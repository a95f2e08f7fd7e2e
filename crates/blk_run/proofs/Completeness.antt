-- Where nothing failed the whole output was printed.
use Rattle.std.proofs.Common.{ℕ, ◌≤◌, ◌≡◌, List, ◌∷◌, ◌++◌, length, Option, refl, ◌∙◌, ap, arith}
use Rattle.std.specs.Option.{option_map}
use Rattle.std.proofs.lemmas.List.{length-append}
use Rattle.spec_image.specs.Image.{Image}
use Rattle.spec_image.specs.Told.{Rises}
use Rattle.blk_model.specs.State.{Bounds}
use Rattle.spec_folder.specs.Found.{found}
use Rattle.blk_io.specs.Streams.{Readings}
use Rattle.spec_run.specs.Inputs.{by_lines}
use Rattle.spec_run.specs.Lines.{lines}
use Rattle.spec_run.specs.Run.{Run, run_of, text_of}
use Rattle.spec_run.specs.Script.{Script, session_script}
use Rattle.blk_run.specs.declared.ending.Status.{Status}
use Rattle.blk_run.specs.declared.ending.Status.TheVariants as status
use Rattle.blk_run.specs.Inputs.{IsPastBudget}
use Rattle.blk_run.specs.Session.{Ending, FixedMayEnd, FixedScript, IsComplete, IsCompleteScript, MayEnd, Outside, Printed, Session, all_made, ended_run, fixed_run, seen_as, session_run, taken, unprinted}

printed_as : (run other : Run) (old new : Option (List ℕ)) → run ≡ other → new ≡ option_map (λ (w : List ℕ). w ++ text_of run.turns) old → new ≡ option_map (λ (w : List ℕ). w ++ text_of other.turns) old
printed_as run other old new same printed = printed ∙ ap (λ (r : Run). option_map (λ (w : List ℕ). w ++ text_of r.turns) old) same

-- an input within the input limit has no byte past it
past : (budget : ℕ) (input bytes : List ℕ) (left : Option (List ℕ)) → IsPastBudget budget input bytes left → length input ≤ budget → ⊥
past budget input bytes left more within =
    let all = ap (λ (l : List ℕ). length l) more.split ∙ length-append bytes (more.byte_more ∷ more.behind) in
    let w = more.whole in
    nothing (omega (arith, all, w, within))
  where
    nothing : 1 ≤ 0 → ⊥
    nothing below = absurd (omega (arith, below))

module _ (limits : Bounds) (budget : ℕ) (from : Image) (readings : Readings) (input : List ℕ) (device source : Type 0) (before now : ℕ) (old new : Outside) (within : length input ≤ budget)
    (no_device : device → ⊥) (no_source : source → ⊥) (no_sink : Rises before now → ⊥) where
  whole_ok : (ending : Ending) (run : Run) → run ≡ ended_run by_lines from limits readings input ending → MayEnd by_lines status.Ok ending budget input run new.left source (Rises before now) → Printed status.Ok ending run old new → IsComplete by_lines status.Ok limits from readings input old new
  whole_ok all_made run is may printed = printed_as run (session_run from limits readings (session_script 1 (lines input))) old.written new.written is printed
  whole_ok (taken bytes) run is may printed = absurd may
  whole_ok (unprinted count) run is may printed = absurd may

  whole_refused : (ending : Ending) (run : Run) → run ≡ ended_run by_lines from limits readings input ending → MayEnd by_lines status.Refused ending budget input run new.left source (Rises before now) → Printed status.Refused ending run old new
      → IsComplete by_lines status.Refused limits from readings input old new
  whole_refused all_made run is may printed = printed_as run (session_run from limits readings (session_script 1 (lines input))) old.written new.written is printed
  whole_refused (taken bytes) run is may printed = absurd may
  whole_refused (unprinted count) run is may printed = absurd may

  never_long : (ending : Ending) (run : Run) → MayEnd by_lines status.TooLong ending budget input run new.left source (Rises before now) → ⊥
  never_long all_made run may = may
  never_long (taken bytes) run may = past budget input bytes new.left may within
  never_long (unprinted count) run may = may

  -- a session
  pub complete : (result : Status) → (result ≡ status.Device → device) → (result ≡ status.Source → source) → (result ≡ status.Sink → Rises before now) → Session by_lines result limits budget from readings input (seen_as old new device source before now)
      → IsComplete by_lines result limits from readings input old new
  complete status.Ok on_device on_source on_sink session = whole_ok session.ending session.run session.is session.may_end session.ends.printed
  complete status.Refused on_device on_source on_sink session = whole_refused session.ending session.run session.is session.may_end session.ends.printed
  complete status.Words on_device on_source on_sink session = session
  complete status.Device on_device on_source on_sink session = no_device (on_device refl)
  complete status.Source on_device on_source on_sink session = no_source (on_source refl)
  complete status.Sink on_device on_source on_sink session = no_sink (on_sink refl)
  complete status.Memory on_device on_source on_sink session = session
  complete status.Damaged on_device on_source on_sink session = session
  complete status.TooLong on_device on_source on_sink session = never_long session.ending session.run session.may_end

-- a fixed script
module _ (script : Script) (limits : Bounds) (from : Image) (readings : Readings) (sink device : Type 0) (old new : Outside) (no_device : device → ⊥) (no_sink : sink → ⊥) where
  script_ok : (ending : Ending) (run : Run) → run ≡ fixed_run script from limits readings ending → FixedMayEnd status.Ok ending run sink → Printed status.Ok ending run old new → IsCompleteScript status.Ok script limits from readings old new
  script_ok all_made run is may printed = printed_as run (run_of script (found from) limits readings) old.written new.written is printed
  script_ok (taken bytes) run is may printed = absurd may
  script_ok (unprinted count) run is may printed = absurd may

  script_refused : (ending : Ending) (run : Run) → run ≡ fixed_run script from limits readings ending → FixedMayEnd status.Refused ending run sink → Printed status.Refused ending run old new → IsCompleteScript status.Refused script limits from readings old new
  script_refused all_made run is may printed = printed_as run (run_of script (found from) limits readings) old.written new.written is printed
  script_refused (taken bytes) run is may printed = absurd may
  script_refused (unprinted count) run is may printed = absurd may

  never_source : (ending : Ending) (run : Run) → FixedMayEnd status.Source ending run sink → ⊥
  never_source ending run may = may

  pub complete_script : (result : Status) → (result ≡ status.Device → device) → (result ≡ status.Sink → sink) → FixedScript result script limits from readings sink old new → IsCompleteScript result script limits from readings old new
  complete_script status.Ok on_device on_sink runs = script_ok runs.ending runs.run runs.is runs.may_end runs.ends.printed
  complete_script status.Refused on_device on_sink runs = script_refused runs.ending runs.run runs.is runs.may_end runs.ends.printed
  complete_script status.Words on_device on_sink runs = runs
  complete_script status.Device on_device on_sink runs = no_device (on_device refl)
  complete_script status.Source on_device on_sink runs = never_source runs.ending runs.run runs.may_end
  complete_script status.Sink on_device on_sink runs = no_sink (on_sink refl)
  complete_script status.Memory on_device on_sink runs = runs
  complete_script status.Damaged on_device on_sink runs = runs
  complete_script status.TooLong on_device on_sink runs = runs.may_end
