-- Lemmas on the keys and indexes of entries that are kept in memory.
use Rattle.std.specs.Prelude.{ℕ, ◌≡◌, slice_index}
use Rattle.std.specs.declared.option.Option.TheVariants.{Some}
use Rattle.std.specs.declared.result.Result.TheVariants.{Ok}
use Rattle.spec_image.specs.Image.{Image}
use Rattle.spec_format.specs.SparseIndex.{ParentIndex, parent_index_length, read_parent_index}
use Rattle.spec_folder.specs.Entries.{IsParent, stream}
use Rattle.spec_folder.specs.Loads as shown
use Rattle.spec_folder.specs.Loads.{held_rule}
use Rattle.spec_folder.specs.View.{store_of, stored_at}
use Rattle.blk_verdict.specs.Keyed.{IsKeyOf}
use Rattle.blk_verdict.specs.Verdicts.{IsLoaded}
use Rattle.blk_verdict.specs.declared.loading.Loaded.{Loaded}

-- the words in memory of an entry that its node loads lead to its key in the image
abbrev pub LoadedKeysAreFound : Type 0
LoadedKeysAreFound = (image : Image) (node : ℕ) (loaded : shown.Loaded) (said : Loaded) → shown.load (store_of image) held_rule node ≡ Ok loaded → IsLoaded loaded said → IsKeyOf image said loaded.key

-- the words in memory of a parent that its node loads lead to its index in the image
abbrev pub LoadedIndexesAreFound : Type 0
LoadedIndexesAreFound = (image : Image) (node : ℕ) (loaded : shown.Loaded) (said : Loaded) (index : ParentIndex) → shown.load (store_of image) held_rule node ≡ Ok loaded → IsLoaded loaded said → loaded.role ≡ IsParent index
    → (stored_at image parent_index_length (slice_index said.addrs 2) ≡ Some (stream 2 loaded.streams)) × (read_parent_index (stream 2 loaded.streams) ≡ Some index)
