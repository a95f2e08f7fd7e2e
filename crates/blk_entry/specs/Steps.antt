-- The steps that write data at an address.
use Rattle.std.specs.Prelude.{ℕ, ◌+◌, List, [], ◌∷◌, ◌++◌, length}
use Rattle.spec_image.specs.Steps.{TrailStep, words}
use Rattle.blk_entry.specs.Keys.{data_file, data_start}

-- the steps that write bytes to the data at address w, from position `before` on
unfoldable pub data_steps : ℕ → ℕ → List ℕ → List TrailStep
data_steps w before bytes = words (data_file w) (data_start w + before) bytes

-- the steps that write bytes to the data at address w, from position `before` on, and one zero byte after them
unfoldable pub ended_steps : ℕ → ℕ → List ℕ → List TrailStep
ended_steps w before bytes = data_steps w before bytes ++ data_steps w (before + length bytes) (0 ∷ [])
