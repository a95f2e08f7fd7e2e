-- The laws from the bytes of files to what a view shows.
use Rattle.std.specs.Prelude.{◌≡◌, ◌≢◌, ◌⊎◌, ℕ, List, None, Some, ◌+◌, ◌-◌, ◌<◌, ◌≤◌, Bool, true, false}
use Rattle.spec_image.specs.Image.{Index, Block, External, Image, length_of}
use Rattle.spec_image.specs.Steps.{SetLength, Delete, applied}
use Rattle.spec_image.specs.Footprint.{Footprint, range, whole, either, IsWithin, SameOutside}
use Rattle.spec_format.specs.Address.{kind_of, file_selector, first_block, block_count, place, byte_size, external, header_size}
use Rattle.spec_format.specs.BlockFiles.{linked_as, next_file_in, stands_in, stands_in_blocks, KeepsHeaders}
use Rattle.spec_format.specs.Growth.{HaveGrown}
use Rattle.spec_format.specs.Claims.{Claim, ExternalOf, same_claim, claims_of, has_claim}
use Rattle.spec_folder.specs.View.{view_of}
use Rattle.spec_folder.specs.Footprint.{SameBut, Covers, AgreeBut, is_there, is_past, is_absent}
use Rattle.spec_format.specs.Headers.{is_shown_place, is_extent_place}
use Rattle.spec_folder.specs.Sound.{AreLongEnough}
use Rattle.spec_folder.specs.Layout.{Layout, Represents}
use Rattle.spec_folder.specs.StandsFor.{IsOwner}
use Rattle.blk_model.specs.State.{State}

-- the blocks of a word are valid exactly where the last of them is there
abbrev pub BlocksStandByTheirLast : Type 0
BlocksStandByTheirLast = (image : Image) (w : ℕ) → stands_in_blocks image w ≡ is_there image (file_selector w) (kind_of w) (first_block w + block_count w - 1)

-- two images that agree outside a footprint show the same outside it
abbrev pub AgreeingImagesShowTheSame : Type 0
AgreeingImagesShowTheSame = (touched : Claim → Bool) (old new : Image) → AgreeBut touched old new → SameBut touched (view_of old) (view_of new)

-- where the files are long enough for their blocks, the growth of block files touches only blocks past those that they had
abbrev pub GrowthIsPastTheBlocks : Type 0
GrowthIsPastTheBlocks = (old new : Image) → AreLongEnough old → HaveGrown old new → AgreeBut (is_past old) old new

-- the growth of block files touches only blocks that weren't there, also where a file is too short for its blocks
abbrev pub GrowthIsOfAbsentBlocks : Type 0
GrowthIsOfAbsentBlocks = (old new : Image) → HaveGrown old new → AgreeBut (is_absent old) old new

-- two images with the same next_file in each block file have the same linked files
abbrev pub SameLinksLinkTheSame : Type 0
SameLinksLinkTheSame = (old new : Image) → ((n : ℕ) → next_file_in new n ≡ next_file_in old n) → (n : ℕ) → linked_as new n ≡ linked_as old n

-- a block file that gets longer has grown, though it has no more blocks yet
abbrev pub LongerFilesHaveGrown : Type 0
LongerFilesHaveGrown = (image : Image) (m length : ℕ) → length_of image (Block m) ≤ length → HaveGrown image (applied (SetLength (Block m) length) image)

-- a change inside a footprint of bytes leaves an image that agrees but for the blocks and external numbers that contain the footprint
abbrev pub CoveredChangesAgree : Type 0
CoveredChangesAgree = (old new : Image) (footprint : Footprint) (touched : Claim → Bool) → SameOutside footprint old new → Covers old footprint touched → AgreeBut touched old new

-- images agree outside a footprint after one change and then another that both stay inside it
abbrev pub AgreementGoesOn : Type 0
AgreementGoesOn = (touched : Claim → Bool) (old between new : Image) → AgreeBut touched old between → AgreeBut touched between new → AgreeBut touched old new

-- images that agree outside a footprint agree outside a larger one
abbrev pub AgreementButMore : Type 0
AgreementButMore = (less more : Claim → Bool) (old new : Image) → ((claim : Claim) → less claim ≡ true → more claim ≡ true) → AgreeBut less old new → AgreeBut more old new

-- the growth of block files keeps what is represented, also where a file is too short for its blocks, if each owner is a node of the layout that uses what it
-- owns
abbrev pub GrowthKeepsStates : Type 0
GrowthKeepsStates = (old new : Image) (state : State) (layout : Layout) (doomed_nodes : List ℕ) → HaveGrown old new → Represents (view_of old) state layout
    → ((claim : Claim) (node : ℕ) → layout.owner claim ≡ Some node → IsOwner state layout doomed_nodes claim node) → Represents (view_of new) state layout

-- a change of bytes changes what is shown only inside the blocks and external numbers that contain it
abbrev pub CoveredChangesStayInside : Type 0
CoveredChangesStayInside = (old new : Image) (footprint : Footprint) (touched : Claim → Bool) → SameOutside footprint old new → Covers old footprint touched → SameBut touched (view_of old) (view_of new)

-- the bytes of the blocks of a valid address are covered by these blocks
abbrev pub BlocksAreCovered : Type 0
BlocksAreCovered = (image : Image) (w : ℕ) → stands_in image w ≡ true → kind_of w ≢ external → Covers image (range (Block (file_selector w)) (place w) (byte_size w)) (has_claim (claims_of w))

-- an external file is covered by its number
abbrev pub ExternalFilesAreCovered : Type 0
ExternalFilesAreCovered = (image : Image) (n : ℕ) → Covers image (whole (External n)) (λ claim. same_claim claim (ExternalOf n))

-- the bytes of a block file's header need not be contained in a footprint, but for next_file and max_entries
abbrev pub HeadersNeedNoCover : Type 0
HeadersNeedNoCover = (image : Image) (n at length : ℕ) → at + length ≤ header_size → (at + length ≤ 10) ⊎ ((12 ≤ at) × (at + length ≤ 20)) ⊎ (24 ≤ at) → Covers image (range (Block n) at length) (λ claim. false)

-- the bytes of the index at places that aren't shown need not be contained in a footprint
abbrev pub HiddenWordsNeedNoCover : Type 0
HiddenWordsNeedNoCover = (image : Image) (at length : ℕ) → ((i : ℕ) → at ≤ i → i < at + length → is_shown_place i ≡ false) → Covers image (range Index at length) (λ claim. false)

-- what contains a footprint of bytes contains a smaller one
abbrev pub CoversOfLess : Type 0
CoversOfLess = (image : Image) (less more : Footprint) (touched : Claim → Bool) → IsWithin less more → Covers image more touched → Covers image less touched

-- a footprint of bytes that some blocks and external numbers contain is contained in more of them
abbrev pub MoreCovers : Type 0
MoreCovers = (image : Image) (footprint : Footprint) (less more : Claim → Bool) → ((claim : Claim) → less claim ≡ true → more claim ≡ true) → Covers image footprint less → Covers image footprint more

-- two footprints are contained in what contains each
abbrev pub CoversOfEither : Type 0
CoversOfEither = (image : Image) (one other : Footprint) (touched : Claim → Bool) → Covers image one touched → Covers image other touched → Covers image (either one other) touched

-- Headers, and files that are deleted.

-- a change of lengths, maps, counters and updating of block files: it spares the shown index, next_file and max_entries, all bytes after the headers, and
-- external files
pub record IsOfHeaders (footprint : Footprint) : Type 0 where
  pub index : (i : ℕ) → is_shown_place i ≡ true → footprint.bytes Index i ≡ false
  pub extents : (n i : ℕ) → is_extent_place i ≡ true → footprint.bytes (Block n) i ≡ false
  pub suffix : (n i : ℕ) → header_size ≤ i → footprint.bytes (Block n) i ≡ false
  pub externals : (n i : ℕ) → footprint.bytes (External n) i ≡ false
  pub external_sizes : (n : ℕ) → footprint.sizes (External n) ≡ false

-- block files have grown at most where a change is of headers and none gets shorter
abbrev pub ChangedHeadersHaveGrown : Type 0
ChangedHeadersHaveGrown = (footprint : Footprint) (old new : Image) → IsOfHeaders footprint → SameOutside footprint old new → ((n : ℕ) → length_of old (Block n) ≤ length_of new (Block n)) → HaveGrown old new

-- the folder is as before but for a block file: nothing is shown to change, the same files are linked, and the headers are kept
pub record IsWithoutFile (from image : Image) : Type 0 where
  pub shown : SameBut (λ claim. false) (view_of from) (view_of image)
  pub linked : (n : ℕ) → linked_as image n ≡ linked_as from n
  pub headers : KeepsHeaders from image

-- a block file that isn't linked may be deleted
abbrev pub UnlinkedFilesMayGo : Type 0
UnlinkedFilesMayGo = (image : Image) (m : ℕ) → linked_as image m ≡ None → IsWithoutFile image (applied (Delete (Block m)) image)
