-- The repair of all links: of the LRU list, and then of the chains.
use Rattle.std.specs.Prelude.{◌≡◌, [], ◌++◌, List, ℕ, ◌∷◌, take}
use Rattle.spec_image.specs.Image.{Image}
use Rattle.spec_image.specs.Steps.{TrailStep, after}
use Rattle.spec_image.specs.Told.{Along}
use Rattle.spec_format.specs.BlockFiles.{IsWellFormed}
use Rattle.spec_folder.specs.ListImages.{IsWritable}
use Rattle.law_recovery.specs.ListRepair.{list_repair_steps, HoldsTheSame, IsListMended}
use Rattle.law_recovery.specs.ChainRepair.{chain_repair_steps, AreChainsMended}
use Rattle.law_recovery.specs.RecordSeals.{KeepsRecordsSealed}
use Rattle.law_recovery.specs.MendedLinks.{HasMendedLinks}

-- the steps of the repair of all links: of the LRU list, and then of the chains
abbrev pub link_repair_steps : Image → List TrailStep
link_repair_steps image = list_repair_steps image ++ chain_repair_steps (after (list_repair_steps image) image)

-- all links are repaired once the list is repaired, and then the chains
abbrev pub MendedChainsAreMendedLinks : Type 0
MendedChainsAreMendedLinks = (image between last : Image) → HoldsTheSame image between → IsListMended image between → HoldsTheSame between last → AreChainsMended between last → HasMendedLinks last

-- the repair of a well-formed folder's links keeps the recovered contents at each of its words; in the end the links are repaired, and each record that had
-- its checksum has it
abbrev pub LinksAreRepaired : Type 0
LinksAreRepaired = (image : Image) → IsWellFormed image → IsWritable image → Along (HoldsTheSame image) image (link_repair_steps image) × HasMendedLinks (after (link_repair_steps image) image) × KeepsRecordsSealed image (after (link_repair_steps image) image)

-- a folder whose links are repaired needs no step
abbrev pub MendedLinksNeedNoSteps : Type 0
MendedLinksNeedNoSteps = (image : Image) → HasMendedLinks image → link_repair_steps image ≡ []

-- an image after repairs of its links that crash: each of these numbers is how many steps a repair made before it was begun again
abbrev pub stopped_repair : List ℕ → Image → Image
stopped_repair [] image = image
stopped_repair (count ∷ counts) image = stopped_repair counts (after (take count (link_repair_steps image)) image)

-- repairs of the links that crash, however often, keep the recovered contents
abbrev pub LinkRepairsMayBeStopped : Type 0
LinkRepairsMayBeStopped = (image : Image) (counts : List ℕ) → IsWellFormed image → IsWritable image → HoldsTheSame image (stopped_repair counts image)
