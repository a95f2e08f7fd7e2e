-- Chains that are whole, and stay so while others are repaired.
use Rattle.std.proofs.Common.{◌≡◌, ℕ, List, [], refl, ◌∙◌, arith, true}
use Rattle.spec_image.specs.Image.{Image}
use Rattle.spec_folder.specs.Chains.{IsChain, chain}
use Rattle.spec_folder.specs.View.{store_of}
use Rattle.law_folder.proofs.chains.ChainEnds.{chain-back}
use Rattle.law_folder.proofs.chains.Chains.{chain-is}
use Rattle.law_folder.proofs.states.Bare.{no-record}
use Rattle.law_recovery.specs.ChainRepair.{chain_steps}
use Rattle.law_recovery.proofs.ChainRepair.{none-to_link}
use Rattle.blk_repair.specs.Chains.{IsNextBucket}

-- a whole chain is one still where it is as before
whole-still : (from image : Image) (bucket : ℕ) (words : List ℕ) → chain (store_of image) bucket ≡ chain (store_of from) bucket → IsChain (store_of from) bucket words → IsChain (store_of image) bucket words
whole-still from image bucket words same is = chain-back (store_of image) bucket words (same ∙ chain-is (store_of from) bucket words (no-record from) is)

-- a bucket that is reported whole needs no step
pub whole-steps : (from : Image) (bucket front : ℕ) (words : List ℕ) (image : Image) → IsNextBucket from bucket front words true image → chain_steps bucket words image ≡ []
whole-steps from bucket front words image is = none-to_link image bucket words (whole-still from image bucket words (is.next.up_to.as_before bucket (omega arith)) (is.is_whole refl))
