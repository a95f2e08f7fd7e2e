-- The state that a repaired folder has, opened.
use Rattle.std.specs.Prelude.{[]}
use Rattle.spec_image.specs.Image.{Image, AreBytes}
use Rattle.blk_model.specs.State.{Bounds}
use Rattle.blk_model.specs.Holding.{open_state}
use Rattle.spec_folder.specs.Found.{found}
use Rattle.spec_folder.specs.Tidy.{HasState}
use Rattle.law_recovery.specs.MendedLinks.{kept_layout}
use Rattle.law_recovery.specs.Mended.{IsMended}

-- a folder in which nothing is left to repair represents the state that is opened on its recovered contents, by the layout of what it keeps
abbrev pub MendedFoldersHaveTheirState : Type 0
MendedFoldersHaveTheirState = (image : Image) (limits : Bounds) → IsMended image → AreBytes image → HasState (open_state (found image) limits) (kept_layout image) [] image
