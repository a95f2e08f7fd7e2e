-- The contract of the subcommand `count`.
use Rattle.std.specs.Prelude.{◌≡◌, ◌≢◌, ◌⊎◌, None}
use Rattle.std.specs.Option.{ForSome, option_map}
use Rattle.spec_image.specs.Told.{PassesAny, Stays}
use Rattle.blk_model.specs.State.{Bounds}
use Rattle.spec_format.specs.Headers.{IsUnfinished}
use Rattle.spec_folder.specs.Found.{HoldsStill}
use Rattle.blk_io.specs.Streams.{later_of}
use Rattle.blk_run.specs.declared.ending.Status.{Status}
use Rattle.blk_run.specs.declared.ending.Status.TheVariants as status
use Rattle.blk_run.specs.Count.{CountAnswersFor, EndsSame, IsMadeAtNext, ShowsTotals}
use Rattle.blk_run.specs.Failing.{IsFailedInOpening}
use Rattle.blk_run.specs.Session.{Seen}

-- the subcommand was done, or only the output failed
abbrev pub IsDoneOrSink : Status → Type 0
IsDoneOrSink result = (result ≡ status.Ok) ⊎ (result ≡ status.Sink)

-- the contract of `count` by its status, by what is seen of the call
pub record Counts (result : Status) (limits : Bounds) (seen : Seen) : Type 0 where
  -- the status is one that the folder allows, but for I/O errors and out of memory
  pub answer : ForSome seen.old.folder.files (CountAnswersFor result)
  -- what is printed: the totals of the folder, or a failed check
  pub printed : ShowsTotals result limits seen.old.folder.files seen.old.written seen.new.written
  pub damage : result ≡ status.Damaged → IsFailedInOpening seen.old.folder seen.new.folder seen.old.written seen.new.written seen.before seen.now
  -- in the end recovery gives the same, and the folder is consistent
  pub ended : IsDoneOrSink result → ForSome seen.old.folder.files (λ start. ForSome seen.new.folder.files (EndsSame start))
  -- an uninitialized folder is made at the next reading of the clock, and keeps that moment
  pub made : IsDoneOrSink result → ForSome seen.old.folder.files (λ start. IsUnfinished start → ForSome seen.new.folder.files (IsMadeAtNext seen.old.clock))
  -- after each single write recovery gives the same, and the folder is usable where it was
  pub stops : ForSome seen.old.folder.files (λ start. PassesAny seen.old.folder seen.new.folder (HoldsStill start))
  -- nothing is written where a check of an observable folder failed
  pub unwritten : result ≡ status.Damaged → ForSome seen.old.folder.files (λ _. Stays seen.old.folder seen.new.folder)
  pub silent : seen.old.folder.files ≡ None → seen.new.folder.files ≡ None
  -- the clock is read once
  pub clock : seen.new.clock ≡ option_map later_of seen.old.clock
  pub never : result ≢ status.Refused
