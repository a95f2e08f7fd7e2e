-- Clauses of recovery: what its steps do, on the image before them or on the one with which recovery began.
use Rattle.std.specs.Prelude.{ℕ, Bool, List}
use Rattle.std.specs.Option.{ForSome}
use Rattle.spec_image.specs.Image.{Image, Index, byte}
use Rattle.spec_image.specs.Steps.{TrailStep}
use Rattle.spec_image.specs.Told.{Told, Applies, AppliesPrefix, Passes, Stays}
use Rattle.spec_format.specs.Headers.{this_id_of}
use Rattle.spec_format.specs.Session.{session_after}
use Rattle.blk_addr.specs.declared.claim_set.Claims.{Claims}
use Rattle.blk_disk.specs.declared.tables.BlockFiles.{BlockFiles}
use Rattle.blk_scan.specs.declared.scan.Scan.{Scan}
use Rattle.law_recovery.specs.MendedChanges.{IsMidRepair}
use Rattle.blk_repair.specs.Chains.{IsNextBucket}
use Rattle.blk_repair.specs.Endings.{EndsOrBreaksOff, EndsWithCrashWord, RepairBreaksOff}
use Rattle.blk_repair.specs.Maps.{IsNextRebuilt}
use Rattle.blk_repair.specs.Parts.{AppliesOf, InTurn}
use Rattle.blk_repair.specs.Removals.{IsEndedList}
use Rattle.blk_repair.specs.Repair.{IsRepairedFor, MendsFiles, MendsRest, NeedsOnlyWords, RepairsInOrder, counting_steps}
use Rattle.blk_repair.specs.Seals.{IsNextSealed}

-- a clause on steps: on the image before them, and on what is observable before and after them
abbrev pub StepClause : Type 1
StepClause = Image → (old new : Told) → Type 0

-- The image before the steps, where it is observable.

-- P holds on the image before the steps
abbrev pub OnImage : {S : Type 0} → (told : S → Told) → (old new : S) → StepClause → Type 0
OnImage told old new P = ForSome (told old).files (λ from. P from (told old) (told new))

-- P holds on the image before the steps if C does
abbrev pub Where : {S : Type 0} → (told : S → Told) → (old new : S) → (Image → Type 0) → StepClause → Type 0
Where told old new C P = ForSome (told old).files (λ from. C from → P from (told old) (told new))

-- P holds on each image `entry` with which recovery began, and on the image before the steps, if C does
abbrev pub ForEntry : {S : Type 0} → (told : S → Told) → (old new : S) → (C : (entry from : Image) → Type 0) → (entry : Image → StepClause) → Type 0
ForEntry told old new C P = ForSome (told old).files (λ from. (entry : Image) → C entry from → P entry from (told old) (told new))

-- P holds on each `entry` and on the image before the steps, if the links are recovered and `claims` are the blocks and files that the kept entries use
abbrev pub WhereRebuilt : {S : Type 0} → (told : S → Told) → (old new : S) → Claims → (entry : Image → StepClause) → Type 0
WhereRebuilt told old new claims P = ForSome (told old).files (λ from. (entry : Image) → IsNextRebuilt entry claims from → P entry from (told old) (told new))

-- P holds on each `entry` and on the image before the steps, if the links are recovered and these nodes and records of kept entries get their checksum next
abbrev pub WhereSealed : {S : Type 0} → (told : S → Told) → (old new : S) → (words : List ℕ) → (entry : Image → StepClause) → Type 0
WhereSealed told old new words P = ForSome (told old).files (λ from. (entry : Image) → IsNextSealed entry words from → P entry from (told old) (told new))

-- P holds on each `entry` and on the image before the steps, if the list ends with the walked nodes, none of which was removed yet
abbrev pub WhereEnded : {S : Type 0} → (told : S → Told) → (old new : S) → (walked kept : List ℕ) → (entry : Image → StepClause) → Type 0
WhereEnded told old new walked kept P = ForSome (told old).files (λ from. (entry : Image) → IsEndedList entry walked kept from → P entry from (told old) (told new))

-- P holds on the image before the steps, if for some `entry` the recovery of the chains comes to this bucket next
abbrev pub WhereNextBucket : {S : Type 0} → (told : S → Told) → (old new : S) → (bucket front : ℕ) → (records : List ℕ) → (whole : Bool) → StepClause → Type 0
WhereNextBucket told old new bucket front records whole P =
    ForSome (told old).files (λ from. (entry : Image) → IsNextBucket entry bucket front records whole from → P from (told old) (told new))

-- The steps.

-- exactly the steps that `asked` gives for the image were made
abbrev pub DoesAll : (asked : Image → List TrailStep) → StepClause
DoesAll asked from old new = Applies old new (asked from)

-- a prefix of the steps that `asked` gives for the image was made
abbrev pub DoesPrefix : (asked : Image → List TrailStep) → StepClause
DoesPrefix asked from old new = AppliesPrefix old new (asked from)

-- where P holds of the image, no step was made
abbrev pub StaysWhere : (P : Image → Type 0) → StepClause
StaysWhere P from old new = P from → Stays old new

-- where P and Q hold of the image, no step was made
abbrev pub StaysWhereBoth : (P Q : Image → Type 0) → StepClause
StaysWhereBoth P Q from old new = P from → Q from → Stays old new

-- where only words of the index are left to set, exactly the steps were made that set them for what is kept of `entry`, and for the session with this number
abbrev pub SetsOnlyWords : Scan → (id : ℕ) → (entry : Image) → StepClause
SetsOnlyWords scan id entry from old new = NeedsOnlyWords scan from → Applies old new (counting_steps entry id from)

-- the steps of the recovery after the links were made
abbrev pub RepairsBehind : BlockFiles → Scan → (id : ℕ) → (entry : Image) → StepClause
RepairsBehind files scan id entry from old new = AppliesOf (InTurn (MendsFiles files scan.claims) (MendsRest scan entry id)) from old new

-- all steps of the recovery were made
abbrev pub RepairsAll : BlockFiles → Scan → (id : ℕ) → StepClause
RepairsAll files scan id from old new = AppliesOf (RepairsInOrder files scan from id) from old new

-- What they leave.

-- Q holds of the image after the steps
abbrev pub Leaves : (Q : (from image : Image) → Type 0) → StepClause
Leaves Q from old new = ForSome new.files (Q from)

-- P holds of the image before each step and after the last
abbrev pub HoldsAlong : (P : (from image : Image) → Type 0) → StepClause
HoldsAlong P from old new = Passes old new (P from)

-- the steps broke off before the crash word was set, and P holds of the image before each and after the last
abbrev pub StopsWith : (P : (from image : Image) → Type 0) → StepClause
StopsWith P from old new = RepairBreaksOff old new (P from)

-- the last step set the crash word, and with it the recovery of the image is done, for the session with this number
abbrev pub EndsRepair : (id : ℕ) → StepClause
EndsRepair id from old new = EndsWithCrashWord old new (IsMidRepair from) (IsRepairedFor id from)

-- the recovery of the image, for the session with this number, broke off before the crash word was set, or it is done
abbrev pub EndsOrStopsRepair : (id : ℕ) → StepClause
EndsOrStopsRepair id from old new = EndsOrBreaksOff old new (IsMidRepair from) (IsRepairedFor id from)

-- the number of the session after that of the image
abbrev pub next_id_of : Image → ℕ
next_id_of image = session_after (this_id_of (byte image Index))
