-- What each kind of call does to a folder that keeps a state.
use Rattle.std.specs.Prelude.{◌≡◌, ◌≢◌, ℕ, ◌+◌, ◌<◌, ◌≤◌, ◌%◌, List, [], ◌∷◌, Bool, true, false}
use Rattle.blk_model.specs.State.{State}
use Rattle.spec_image.specs.Image.{Index, Block, External, Image, has_file}
use Rattle.spec_image.specs.Footprint.{SameOutside, one_word, range, whole}
use Rattle.spec_format.specs.Address.{byte_size, external, file_selector, kind_of, place}
use Rattle.spec_format.specs.BlockFiles.{is_among, stands_in, KeepsHeaders}
use Rattle.spec_format.specs.Claims.{Claim, ExternalOf, claims_of, has_claim, same_claim}
use Rattle.spec_format.specs.Growth.{HaveGrown}
use Rattle.spec_format.specs.Headers.{header_length}
use Rattle.spec_folder.specs.Layout.{Layout}
use Rattle.law_folder.specs.IndexWrites.{checked_words, shown_words}
use Rattle.law_state.specs.Keeping.{Keeps, KeepsUncounted}
use Rattle.law_state.specs.Changes.{AddsAllocation, AddsExternal, AreOfWords, ChangesOnly, KeepsWith, RemovesAllocation, RemovesExternal, SameCounters, StillFinds}

-- Any call.

-- where a call keeps each state that was kept, the durable contents of such a state are held after it
abbrev pub WhatIsKeptIsFound : Type 0
WhatIsKeptIsFound = (before after : List ℕ) (from image : Image) → KeepsWith before after from image → StillFinds before from image

-- where a call keeps a state but for the counters of the index, and leaves these as they were, it keeps the state with its counters
abbrev pub SameCountersCountTheSame : Type 0
SameCountersCountTheSame = (state : State) (layout : Layout) (before after : List ℕ) (from image : Image) → Keeps state layout before from → KeepsUncounted state layout after image → SameCounters from image → Keeps state layout after image

-- Writes into unlinked places.

-- a change of what unlinked words name keeps the state, with the same words unlinked
abbrev pub UnlinkedPlacesMayChange : Type 0
UnlinkedPlacesMayChange = (touched : Claim → Bool) (words : List ℕ) (from image : Image) → AreOfWords touched words → ChangesOnly touched from image → KeepsWith words words from image

-- a write into the blocks of a valid address changes these blocks only
abbrev pub BlockWritesChangeOnly : Type 0
BlockWritesChangeOnly = (from image : Image) (w at n : ℕ) → stands_in from w ≡ true → kind_of w ≢ external → place w ≤ at → at + n ≤ place w + byte_size w → SameOutside (range (Block (file_selector w)) at n) from image → ChangesOnly (has_claim (claims_of w)) from image

-- a change of an external file's bytes and length, by which it is neither made nor deleted, changes this file only
abbrev pub ExternalWritesChangeOnly : Type 0
ExternalWritesChangeOnly = (from image : Image) (n : ℕ) → SameOutside (whole (External n)) from image → has_file image (External n) ≡ has_file from (External n) → ChangesOnly (λ claim. same_claim claim (ExternalOf n)) from image

-- Words of the index.

-- the places of the index's words of the session: its number, and the crash word
abbrev pub kept_words : List ℕ
kept_words = 20 ∷ 32 ∷ []

-- the write of a word of the index's header that is neither shown nor checked, and not of the session, changes nothing that `KeepsUncounted` asks for
abbrev pub OtherWordsChangeOnly : Type 0
OtherWordsChangeOnly = (from image : Image) (at : ℕ) → at % 4 ≡ 0 → at < header_length → is_among shown_words at ≡ false → is_among checked_words at ≡ false → is_among kept_words at ≡ false
    → SameOutside (one_word Index at) from image → ChangesOnly (λ claim. false) from image

-- Growth.

-- while block files grow or are added, their maps and counters change, and the headers are kept, the durable contents are held
abbrev pub GrowthFindsTheSame : Type 0
GrowthFindsTheSame = (words : List ℕ) (from image : Image) → HaveGrown from image → KeepsHeaders from image → StillFinds words from image

-- Allocations.

-- the allocation of blocks keeps each state, with the word of the blocks unlinked
abbrev pub AllocatedBlocksAreUnlinked : Type 0
AllocatedBlocksAreUnlinked = (w : ℕ) (from image : Image) → AddsAllocation from w image → KeepsWith [] (w ∷ []) from image

-- the freeing of unlinked blocks keeps each state, and their word is in use no longer
abbrev pub FreedBlocksAreGone : Type 0
FreedBlocksAreGone = (w : ℕ) (from image : Image) → RemovesAllocation from w image → KeepsWith (w ∷ []) [] from image

-- the making of an external file keeps each state, with the file's word unlinked
abbrev pub MadeFilesAreUnlinked : Type 0
MadeFilesAreUnlinked = (w : ℕ) (from image : Image) → AddsExternal from w image → KeepsWith [] (w ∷ []) from image

-- the deletion of an unlinked external file keeps each state, and its word is in use no longer
abbrev pub DeletedFilesAreGone : Type 0
DeletedFilesAreGone = (w : ℕ) (from image : Image) → RemovesExternal from w image → KeepsWith (w ∷ []) [] from image
