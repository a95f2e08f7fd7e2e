-- The whole recovery of a folder, by what the scan reported.
use Rattle.std.specs.Prelude.{ℕ, ◌≡◌, ◌⊎◌, List, [], length}
use Rattle.std.specs.List.{sum_by}
use Rattle.std.specs.declared.option.Option.{Option}
use Rattle.spec_image.specs.Image.{Image, Index, byte}
use Rattle.spec_image.specs.Steps.{TrailStep}
use Rattle.spec_image.specs.Told.{Told}
use Rattle.blk_model.specs.Holding.{open_state}
use Rattle.blk_model.specs.State.{Bounds}
use Rattle.spec_format.specs.BlockFiles.{IsWellFormed}
use Rattle.spec_format.specs.Headers.{crash_of, this_id_of}
use Rattle.spec_format.specs.Session.{session_after}
use Rattle.spec_folder.specs.Found.{charge_of, found, kept}
use Rattle.spec_folder.specs.ListImages.{IsWritable}
use Rattle.spec_folder.specs.StandsFor.{StandsFor}
use Rattle.blk_io.specs.declared.fault.Damage.{Damage}
use Rattle.blk_addr.specs.declared.claim_set.Claims.{Claims}
use Rattle.blk_disk.specs.declared.tables.BlockFiles.{BlockFiles}
use Rattle.blk_disk.specs.Tables.{all_files}
use Rattle.blk_alloc.specs.Rebuilding.{IsShortReadOf}
use Rattle.law_recovery.specs.ChainRepair.{KeepsAllWalked, chain_repair_steps}
use Rattle.law_recovery.specs.ListRepair.{list_repair_steps}
use Rattle.law_recovery.specs.KeptSeals.{AreOthersSealed}
use Rattle.law_recovery.specs.Mended.{HasMendedFiles, HasOnlyKeptFiles, IsMended}
use Rattle.law_recovery.specs.MendedLinks.{HasMendedLinks}
use Rattle.blk_scan.specs.declared.chains.KeptChains.{KeptChains}
use Rattle.blk_scan.specs.declared.scan.Scan.{Scan}
use Rattle.blk_scan.specs.Scans.{AreChainsTold, IsScanOf}
use Rattle.blk_repair.specs.Counters.{IsShortIndexHeader, index_steps}
use Rattle.blk_repair.specs.Damages.{IsChainsRepairDamage, IsListRepairDamage}
use Rattle.blk_repair.specs.Deletions.{DeletesOthers}
use Rattle.blk_repair.specs.Maps.{Rebuilds}
use Rattle.blk_repair.specs.Parts.{Exactly, InTurn}
use Rattle.blk_repair.specs.Seals.{HasMendedLinksOf, IsWrongSealed, seals_steps}

-- the image is well formed, and `scan` is a scan of it
pub record IsRepairable (scan : Scan) (image : Image) : Type 0 where
  pub well_formed : IsWellFormed image
  pub scanned : IsScanOf image scan

-- recovery is done: nothing is left to repair, kept entries and recovered contents are those of `entry`, and the session with this number is open; so the image
-- represents the recovered contents, opened
pub record IsRepairedFor (id : ℕ) (entry image : Image) : Type 0 where
  pub mended : IsMended image
  pub kept_same : kept image ≡ kept entry
  pub found_same : found image ≡ found entry
  pub crash : crash_of (byte image Index) ≡ 1
  pub id_is : this_id_of (byte image Index) ≡ id
  pub stands_for : (limits : Bounds) → StandsFor image (open_state (found entry) limits)

-- recovery of `entry` is done, with the session's number after that of `entry`
abbrev pub IsRepaired : Image → Image → Type 0
IsRepaired entry image = IsRepairedFor (session_after (this_id_of (byte entry Index))) entry image

-- links and files need no recovery, and no checksum was reported as absent; only words of the index are left
pub record NeedsOnlyWords (scan : Scan) (image : Image) : Type 0 where
  pub links : HasMendedLinks image
  pub files : HasMendedFiles image
  pub only : HasOnlyKeptFiles image
  pub bare : scan.bare.items ≡ []

-- the steps that set the words of the index for what is kept of `entry`, and for the session with this number
abbrev pub counting_steps : Image → ℕ → Image → List TrailStep
counting_steps entry id image = index_steps (length (kept entry)) (sum_by charge_of (kept entry)) id image

-- The steps of a recovery, part after part, each on the image that the parts before it leave.

-- the recovery of the links: of the LRU list, and then of the chains
abbrev pub MendsLinks : Image → List TrailStep → Type 0
MendsLinks = InTurn (Exactly list_repair_steps) (Exactly chain_repair_steps)

-- the recovery of the files: the block files are rebuilt from what is used, and then the files that nothing names are deleted
abbrev pub MendsFiles : BlockFiles → Claims → Image → List TrailStep → Type 0
MendsFiles files claims = InTurn (Rebuilds files claims) (DeletesOthers files claims)

-- the rest of the recovery: absent checksums are written, and then the words of the index
abbrev pub MendsRest : Scan → Image → ℕ → Image → List TrailStep → Type 0
MendsRest scan entry id = InTurn (Exactly (seals_steps scan.bare.items)) (Exactly (counting_steps entry id))

-- the whole recovery of a folder: its links, its files, and the rest
abbrev pub RepairsInOrder : BlockFiles → Scan → Image → ℕ → Image → List TrailStep → Type 0
RepairsInOrder files scan entry id = InTurn MendsLinks (InTurn (MendsFiles files scan.claims) (MendsRest scan entry id))

-- Between the parts.

-- the LRU list is recovered, and `chains` is what the scan reported of the chains
pub record AreBucketsScanned (chains : Option KeptChains) (image : Image) : Type 0 where
  pub well_formed : IsWellFormed image
  pub writable : IsWritable image
  pub keeps_all : KeepsAllWalked image
  pub told : AreChainsTold image chains

-- the links are recovered of the folder that was scanned, and of what is kept only the reported ones lack their checksum
pub record AreLinksMended (scan : Scan) (entry image : Image) : Type 0 where
  pub scanned : IsScanOf entry scan
  pub holds : HasMendedLinksOf entry image
  pub others : AreOthersSealed entry scan.bare.items image

-- the links and the files are recovered, and no other files than those of what is kept exist; the missing checksums are those that were missing
pub record AreOnlyKeptLeft (entry from image : Image) : Type 0 where
  pub holds : HasMendedLinksOf entry image
  pub files : HasMendedFiles image
  pub only : HasOnlyKeptFiles image
  pub others : (words : List ℕ) → AreOthersSealed entry words from → AreOthersSealed entry words image

-- the files that nothing names are deleted; the recovery of links and files and the missing checksums are unchanged
pub record AreOthersDeleted (entry from image : Image) : Type 0 where
  pub holds : HasMendedLinksOf entry image
  pub files : HasMendedFiles from → HasMendedFiles image
  pub only : HasOnlyKeptFiles image
  pub others : (words : List ℕ) → AreOthersSealed entry words from → AreOthersSealed entry words image

-- links and files are recovered; checksums and words of the index are left
pub record IsNextFinished (scan : Scan) (entry image : Image) : Type 0 where
  pub links : AreLinksMended scan entry image
  pub files : HasMendedFiles image
  pub only : HasOnlyKeptFiles image

-- Failed checks.

-- why the links can't be recovered: a failed check of the LRU list, or of the chains
abbrev pub IsLinksRepairDamage : BlockFiles → Told → Damage → Type 0
IsLinksRepairDamage files told damage = IsListRepairDamage files told damage ⊎ IsChainsRepairDamage files told damage

-- a failed check in the rest of the recovery: of a record or node that gets its checksum, or of the index header
abbrev pub IsRestRepairDamage : BlockFiles → Told → Damage → Type 0
IsRestRepairDamage files told damage = IsWrongSealed files told damage ⊎ IsShortIndexHeader told damage

-- a failed check in the recovery after the links: too few bytes of a block file's header, or one in the rest
abbrev pub IsBehindRepairDamage : BlockFiles → Told → Damage → Type 0
IsBehindRepairDamage files told damage = IsShortReadOf told (all_files files) damage ⊎ IsRestRepairDamage files told damage

-- a failed check in a recovery: of the links, or after them
abbrev pub IsRepairDamage : BlockFiles → Told → Damage → Type 0
IsRepairDamage files told damage = IsLinksRepairDamage files told damage ⊎ IsBehindRepairDamage files told damage
