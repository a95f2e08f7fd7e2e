-- The nodes and the records of what is kept, and which of them have their checksums.
use Rattle.std.specs.Prelude.{ℕ, ◌≡◌, ◌⊎◌, List, Contains, map, true}
use Rattle.spec_image.specs.Image.{Image}
use Rattle.spec_format.specs.BlockFiles.{is_among}
use Rattle.spec_folder.specs.Found.{kept}
use Rattle.law_recovery.specs.ChainRepair.{is_kept_record}
use Rattle.law_recovery.specs.RecordSeals.{IsSealedAt}

-- an address is that of a node or of a record of what is kept
abbrev pub IsOfKept : Image → ℕ → Type 0
IsOfKept entry w = (is_among (map (λ k. k.node) (kept entry)) w ≡ true) ⊎ (is_kept_record (kept entry) w ≡ true)

-- each node and each record of what is kept has its checksum, or its address is one of these words
abbrev pub AreOthersSealed : Image → List ℕ → Image → Type 0
AreOthersSealed entry words image = (w : ℕ) → IsOfKept entry w → IsSealedAt image w ⊎ Contains words w
