-- The reasons to drop a node as they are kept in memory, and their numbers.
use Rattle.std.specs.Prelude.{ℕ}
use Rattle.spec_folder.specs.Reasons as shown
use Rattle.blk_verdict.specs.declared.reason.Reason.{Reason}
use Rattle.blk_verdict.specs.declared.reason.Reason.TheVariants as reason

-- the reason of the model that a reason in memory is
abbrev pub reason_of : Reason → shown.Reason
reason_of reason.Contents = shown.Contents
reason_of reason.Seal = shown.Seal
reason_of reason.State = shown.State
reason_of reason.Back = shown.Back
reason_of reason.Flags = shown.Flags
reason_of reason.Dirty = shown.Dirty
reason_of reason.KeyLength = shown.KeyLength
reason_of reason.KeyPlace = shown.KeyPlace
reason_of reason.Hash = shown.Hash
reason_of reason.Chain = shown.Chain
reason_of reason.Streams = shown.Streams
reason_of reason.Sparse = shown.Sparse
reason_of reason.Claimed = shown.Claimed
reason_of reason.Name = shown.Name
reason_of reason.Parent = shown.Parent
reason_of reason.Unlisted = shown.Unlisted

-- the number of a reason
abbrev pub reason_number : Reason → ℕ
reason_number reason.Contents = 1
reason_number reason.Seal = 2
reason_number reason.State = 3
reason_number reason.Back = 4
reason_number reason.Flags = 5
reason_number reason.Dirty = 6
reason_number reason.KeyLength = 7
reason_number reason.KeyPlace = 8
reason_number reason.Hash = 9
reason_number reason.Chain = 10
reason_number reason.Streams = 11
reason_number reason.Sparse = 12
reason_number reason.Claimed = 13
reason_number reason.Name = 14
reason_number reason.Parent = 15
reason_number reason.Unlisted = 16
