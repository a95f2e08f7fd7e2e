-- Lemmas from the contracts of `allocate` and `free` to those of states that are kept.
use Rattle.std.specs.Prelude.{◌≡◌, ℕ, List, true}
use Rattle.std.specs.Option.{ForSome}
use Rattle.spec_image.specs.Image.{Image}
use Rattle.spec_image.specs.Told.{Passes, PassesTo, Told}
use Rattle.spec_format.specs.Address.{file_selector, is_address, is_block_kind, kind_of}
use Rattle.spec_format.specs.BlockFiles.{HasSoundHeaders}
use Rattle.spec_format.specs.Growth.{StaysWhole}
use Rattle.blk_disk.specs.declared.tables.BlockFiles.{BlockFiles}
use Rattle.blk_disk.specs.Tables.{Agrees, stands_among}
use Rattle.blk_alloc.specs.Allocating.{Allocates, AllocatesIn, AllocatesInProgress, AllocatesOrStops, AreCounted, most_allocations}
use Rattle.blk_alloc.specs.Extending.{HasItsBlocks, KeepsLinks}
use Rattle.blk_alloc.specs.Owning.{FreesInProgress, FreesOrStops, IsFreed}
use Rattle.law_state.specs.BoundLaws.{HaveFewAllocations}
use Rattle.law_state.specs.Changes.{AddsAllocation, RemovesAllocation, StillFinds}

-- Any change of block files.

-- while block files grow at most and a well-formed folder is well formed, recovery gives the durable contents of the state that was kept, whatever addresses
-- are unlinked
abbrev pub WholeFoldersFindTheSame : Type 0
WholeFoldersFindTheSame = (words : List ℕ) (old new : Told) → ForSome old.files (λ from. Passes old new (StaysWhole from)) → ForSome old.files (λ from. Passes old new (StillFinds words from))

-- Free.

-- while blocks are freed, block files grow at most, and a well-formed folder is well formed
abbrev pub FreesStayWhole : Type 0
FreesStayWhole = (w : ℕ) (old new : Told) → ForSome old.files (λ from. PassesTo old new (FreesInProgress w from) (FreesOrStops w from)) → ForSome old.files (λ from. Passes old new (StaysWhole from))

-- once the blocks of a valid address are freed, the address is no allocation any more, and the other files stay
abbrev pub FreesRemove : Type 0
FreesRemove =
    (files : BlockFiles) (w : ℕ) (old new : Told) → stands_among files w ≡ true
    → ForSome old.files (λ from. PassesTo old new (FreesInProgress w from) (FreesOrStops w from)) → ForSome old.files (λ from. ForSome new.files (IsFreed from w))
    → ForSome old.files (λ from. ForSome new.files (RemovesAllocation from w))

-- Allocate.

-- precondition of `allocate`: the allocations of the files of a kind are counted where there are few enough
abbrev pub KeptFilesAreCounted : Type 0
KeptFilesAreCounted = (files : BlockFiles) (kind : ℕ) (image : Image) → Agrees files image → is_block_kind kind ≡ true → HaveFewAllocations image kind most_allocations → AreCounted files kind image

-- while blocks are allocated, block files grow at most, and a well-formed folder is well formed
abbrev pub AllocationsStayWhole : Type 0
AllocationsStayWhole =
    (files : BlockFiles) (kind count : ℕ) (old new : Told) → ForSome old.files (AreCounted files kind)
    → ForSome old.files (λ from. AreCounted files kind from → PassesTo old new (AllocatesInProgress files kind count from) (AllocatesOrStops files kind count from))
    → ForSome old.files (λ from. Passes old new (StaysWhole from))

-- what the contract of `allocate` says of address w that it gave, with the table of block files before and after
pub record IsAllocation (old new : BlockFiles) (kind w : ℕ) (from image : Image) : Type 0 where
  pub block_kind : is_block_kind kind ≡ true
  pub of_kind : kind_of w ≡ kind
  pub address : is_address w ≡ true
  pub agreed : Agrees old from
  pub agrees : Agrees new image
  pub stands : stands_among new w ≡ true
  pub long : HasItsBlocks new (file_selector w)
  pub links : KeepsLinks old new (file_selector w)
  pub allocates : Allocates old from w image
  pub within : AllocatesIn old kind from (file_selector w) image
  pub stays : StaysWhole from image

-- once address w is allocated in a well-formed folder, it is one more allocation of its file, and the other files stay
abbrev pub AllocationsAdd : Type 0
AllocationsAdd = (old new : BlockFiles) (kind w : ℕ) (from image : Image) → HasSoundHeaders from → IsAllocation old new kind w from image → AddsAllocation from w image
