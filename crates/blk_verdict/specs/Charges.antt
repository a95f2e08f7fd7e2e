-- The costs of kept entries.
use Rattle.std.specs.Prelude.{ℕ, ◌≡◌, ◌+◌, slice_index}
use Rattle.std.specs.declared.result.Result.TheVariants.{Ok}
use Rattle.spec_image.specs.Image.{Image}
use Rattle.spec_folder.specs.Found.{charge_of}
use Rattle.spec_folder.specs.Loads as shown
use Rattle.spec_folder.specs.Loads.{held_rule}
use Rattle.spec_folder.specs.View.{store_of}
use Rattle.blk_verdict.specs.Verdicts.{IsLoaded}
use Rattle.blk_verdict.specs.declared.loading.Loaded.{Loaded}

-- the cost of an entry as it is kept in memory: the lengths of its key and its three streams
abbrev pub charge_said : Loaded → ℕ
charge_said loaded = loaded.key_len + slice_index loaded.sizes 0 + slice_index loaded.sizes 1 + slice_index loaded.sizes 2

-- the cost of an entry in memory is that of what its node loads
abbrev pub LoadedAreCharged : Type 0
LoadedAreCharged = (image : Image) (node : ℕ) (loaded : shown.Loaded) (said : Loaded) → shown.load (store_of image) held_rule node ≡ Ok loaded → IsLoaded loaded said → charge_said said ≡ charge_of loaded
