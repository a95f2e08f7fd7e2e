-- What leaves repaired links repaired, with the same kept records and recovered contents: changes of what isn't kept, growth, and checksums.
use Rattle.std.specs.Prelude.{◌≡◌, ◌<◌, ◌%◌, ℕ, Bool, true, false, [], map, None}
use Rattle.spec_image.specs.Image.{Index, Block, External}
use Rattle.spec_image.specs.Footprint.{SameOutside, one_word, whole}
use Rattle.spec_image.specs.Steps.{Delete, applied}
use Rattle.spec_format.specs.Headers.{header_length, index_version, version_place}
use Rattle.spec_format.specs.Claims.{ExternalOf}
use Rattle.spec_format.specs.BlockFiles.{linked_as}
use Rattle.spec_format.specs.Growth.{StaysWhole}
use Rattle.law_folder.specs.IndexWrites.{IsIndexWord, shown_words, checked_words}
use Rattle.law_recovery.specs.ListRepair.{HoldsTheSame}
use Rattle.law_recovery.specs.ChainRepair.{is_kept_record}
use Rattle.spec_image.specs.Image.{Image}
use Rattle.spec_format.specs.Claims.{Claim, has_claim}
use Rattle.spec_format.specs.BlockFiles.{is_among, IsWellFormed}
use Rattle.spec_format.specs.Sealed.{IsMidUpdate}
use Rattle.spec_folder.specs.View.{view_of}
use Rattle.spec_folder.specs.Loads.{claims_of_loaded}
use Rattle.spec_folder.specs.Found.{kept, found}
use Rattle.spec_folder.specs.Footprint.{SameBut}
use Rattle.spec_folder.specs.ListImages.{IsWritable}
use Rattle.law_recovery.specs.MendedLinks.{HasMendedLinks}

-- the links of a folder are repaired, and it keeps the records and the recovered contents of another image
pub record KeepsMendedLinks (from image : Image) : Type 0 where
  pub mended : HasMendedLinks image
  pub kept_same : kept image ≡ kept from
  pub found_same : found image ≡ found from

-- where a repair that keeps the recovered contents has repaired the links, these are repaired with the same kept records and recovered contents
abbrev pub RepairedLinksAreKept : Type 0
RepairedLinksAreKept = (from image : Image) → HoldsTheSame from image → HasMendedLinks image → KeepsMendedLinks from image

-- two changes one after the other that keep links repaired, with the same kept records and recovered contents, are together such a change
abbrev pub MendedLinksGoOn : Type 0
MendedLinksGoOn = (from between image : Image) → KeepsMendedLinks from between → KeepsMendedLinks between image → KeepsMendedLinks from image

-- at each word of recovery the folder is well formed, with the kept records and the recovered contents of the image that it began with
pub record IsMidRepair (from image : Image) : Type 0 where
  pub well_formed : IsWellFormed image
  pub kept_same : kept image ≡ kept from
  pub found_same : found image ≡ found from

-- while links are repaired, the folder is well formed, with the same kept records and recovered contents
abbrev pub LinksAreMidRepair : Type 0
LinksAreMidRepair = (from image : Image) → HoldsTheSame from image → IsMidRepair from image

-- while maps, counters, files and checksums are repaired after the links, the folder is well formed, with the same kept records and recovered contents
abbrev pub MendedLinksAreMidRepair : Type 0
MendedLinksAreMidRepair = (from image : Image) → KeepsMendedLinks from image → IsMidRepair from image

-- Changes of what isn't kept.

-- no kept record uses anything in a footprint
abbrev pub IsUnkept : Image → (Claim → Bool) → Type 0
IsUnkept image touched = (claim : Claim) → has_claim (claims_of_loaded (kept image)) claim ≡ true → touched claim ≡ false

-- a change of what isn't kept leaves repaired links repaired
abbrev pub MendedLinksStayOutside : Type 0
MendedLinksStayOutside = (touched : Claim → Bool) (from image : Image) → HasMendedLinks from → IsWellFormed image → SameBut touched (view_of from) (view_of image) → IsUnkept from touched → KeepsMendedLinks from image

-- a change of lengths, maps and counters by which block files grow at most, also of those that are too short for their blocks, leaves repaired links repaired
abbrev pub MendedLinksMayGrow : Type 0
MendedLinksMayGrow = (from image : Image) → HasMendedLinks from → StaysWhole from image → KeepsMendedLinks from image

-- the deletion of a block file that isn't linked leaves repaired links repaired
abbrev pub UnlinkedFilesMayBeDeleted : Type 0
UnlinkedFilesMayBeDeleted = (from : Image) (n : ℕ) → HasMendedLinks from → linked_as from n ≡ None → KeepsMendedLinks from (applied (Delete (Block n)) from)

-- any change of an external file that no kept record uses, such as its deletion, leaves repaired links repaired
abbrev pub UnclaimedFilesMayChange : Type 0
UnclaimedFilesMayChange = (from image : Image) (n : ℕ) → HasMendedLinks from → has_claim (claims_of_loaded (kept from)) (ExternalOf n) ≡ false → SameOutside (whole (External n)) from image → KeepsMendedLinks from image

-- the write of a word of the index's header that is neither shown nor checked (a counter, the number of the session, the crash word) leaves repaired links
-- repaired
abbrev pub HiddenWordsMayChange : Type 0
HiddenWordsMayChange = (from image : Image) (at : ℕ) → HasMendedLinks from → at % 4 ≡ 0 → at < header_length → is_among shown_words at ≡ false → is_among checked_words at ≡ false → SameOutside (one_word Index at) from image → KeepsMendedLinks from image

-- the write of the version that is made now leaves repaired links repaired
abbrev pub VersionsMayChange : Type 0
VersionsMayChange = (from image : Image) → HasMendedLinks from → IsIndexWord version_place index_version from image → KeepsMendedLinks from image

-- Checksums of what is kept.

-- at each word at which a kept node gets its checksum, repaired links stay repaired
abbrev pub KeptNodesMayBeSealed : Type 0
KeptNodesMayBeSealed = (from image : Image) (node : ℕ) → HasMendedLinks from → IsWritable from → is_among (map (λ k. k.node) (kept from)) node ≡ true → IsMidUpdate from node [] image → KeepsMendedLinks from image

-- at each word at which a kept record gets its checksum, repaired links stay repaired
abbrev pub KeptRecordsMayBeSealed : Type 0
KeptRecordsMayBeSealed = (from image : Image) (w : ℕ) → HasMendedLinks from → IsWritable from → is_kept_record (kept from) w ≡ true → IsMidUpdate from w [] image → KeepsMendedLinks from image
