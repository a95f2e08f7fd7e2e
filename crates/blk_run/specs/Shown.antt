-- The texts that inspections show of a folder.
use Rattle.std.specs.Prelude.{ℕ, ◌≡◌, List, ◌++◌, Result, Ok, Err}
use Rattle.std.specs.Option.{option_map}
use Rattle.std.specs.declared.option.Option.{Option}
use Rattle.spec_image.specs.Told.{Stays}
use Rattle.blk_io.specs.Faults.{damage_of}
use Rattle.blk_io.specs.Streams.{Appends}
use Rattle.blk_inspect.specs.declared.fault.InspectFault.{InspectFault}
use Rattle.blk_inspect.specs.declared.fault.InspectFault.TheVariants as fault
use Rattle.blk_run.specs.declared.ending.Status.{Status}
use Rattle.blk_run.specs.declared.ending.Status.TheVariants as status
use Rattle.blk_run.specs.Session.{DoesNothing, Outside}
use Rattle.blk_run.specs.Texts.{Prints, damage_line}

-- the status of an inspection with this answer
abbrev pub status_shown : Result (Unit {0}) InspectFault → Status
status_shown (Ok done) = status.Ok
status_shown (Err fault.Device) = status.Device
status_shown (Err (fault.Damaged damage)) = status.Damaged
status_shown (Err fault.Sink) = status.Sink
status_shown (Err fault.Memory) = status.Memory

-- what is printed after an inspection with this answer: a failed check, else nothing more; `before` and `now` are the error counter of the output
abbrev pub PrintsFault : Result (Unit {0}) InspectFault → (old new : Option (List ℕ)) → (before now : ℕ) → Type 0
PrintsFault (Err (fault.Damaged damage)) old new before now = Prints old new before now (damage_line (damage_of damage))
PrintsFault (Err fault.Device) old new before now = new ≡ old
PrintsFault (Err fault.Sink) old new before now = new ≡ old
PrintsFault (Err fault.Memory) old new before now = new ≡ old
PrintsFault (Ok done) old new before now = new ≡ old

-- how much of a text is printed by status: all of it, a prefix where the output failed, nothing where the folder failed or memory ran out
abbrev pub PrintsShown : Status → List ℕ → (old new : Option (List ℕ)) → Type 0
PrintsShown status.Ok text old new = new ≡ option_map (λ (w : List ℕ). w ++ text) old
PrintsShown status.Sink text old new = Appends old new text
PrintsShown status.Device text old new = new ≡ old
PrintsShown status.Memory text old new = new ≡ old
PrintsShown _ text old new = ⊥

-- the text of a folder is shown by status, and nothing is written or read of the input
pub record ShowsText (result : Status) (text : List ℕ) (old new : Outside) : Type 0 where
  pub printed : PrintsShown result text old.written new.written
  pub unwritten : Stays old.folder new.folder
  pub unread : new.left ≡ old.left

-- where nothing failed, the whole text was printed; or memory ran out, and nothing was done
abbrev pub IsCompleteText : Status → List ℕ → Outside → Outside → Type 0
IsCompleteText status.Ok text old new = new.written ≡ option_map (λ (w : List ℕ). w ++ text) old.written
IsCompleteText status.Memory text old new = DoesNothing old new
IsCompleteText _ text old new = ⊥
