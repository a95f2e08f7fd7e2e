-- What recovery finds in a folder: what it keeps and drops, and the recovered contents.
use Rattle.std.specs.Prelude.{ℕ, ◌+◌, ◌≡◌, List, [], length, map, if◌then◌else◌}
use Rattle.std.specs.List.{sum_by, range_with_len}
use Rattle.blk_model.specs.Items.{Row, main_row, part_row, plain, sparse}
use Rattle.spec_image.specs.Image.{Image}
use Rattle.spec_format.specs.BlockFiles.{IsUsable, IsWellFormed}
use Rattle.spec_format.specs.Headers.{unfinished}
use Rattle.spec_folder.specs.Completion.{completed_list}
use Rattle.spec_folder.specs.View.{View, view_of}
use Rattle.spec_folder.specs.Entries.{Role, IsPlain, IsParent, IsPart, stream}
use Rattle.spec_folder.specs.Reasons.{Reason}
use Rattle.spec_folder.specs.Loads.{held_rule, Loaded}
use Rattle.spec_folder.specs.Audit.{kept_by, dropped_by}
use Rattle.blk_model.specs.Sizes.{part_blocks}

-- the row of a key, a role and streams; the index of a parent is no stream
abbrev pub row_with : List ℕ → Role → List (List ℕ) → Row
row_with key IsPlain streams = main_row key plain (stream 0 streams, stream 1 streams, stream 2 streams)
row_with key (IsParent index) streams = main_row key (sparse index.signature) (stream 0 streams, [], [])
row_with key (IsPart name index) streams = part_row name.key name.part (record { bytes = stream 1 streams; presence = record { blocks = map index.present (range_with_len 0 part_blocks); partial = index.partial } })

-- the row that a kept record gives
abbrev pub row_of_loaded : Loaded → Row
row_of_loaded loaded = row_with loaded.key loaded.role loaded.streams

-- the cost of a kept record: the bytes of its key, which is a part's name, and of its streams, indexes included
abbrev pub charge_of : Loaded → ℕ
charge_of loaded = length loaded.key + sum_by length loaded.streams

-- the view after the redo of the operation in flight on its LRU list: nothing else changes
abbrev pub completed : View → View
completed view = record view { list = completed_list view.list }

-- the records that recovery keeps of a folder with an initialized index, in the order of the LRU list
unfoldable pub kept : Image → List Loaded
kept image = kept_by held_rule (completed (view_of image))

-- the nodes and records that recovery drops of a folder with an initialized index, each with its reason
unfoldable pub dropped : Image → List (ℕ × Reason)
dropped image = dropped_by held_rule (completed (view_of image))

-- the rows of the kept records, in the order of the LRU list, whether or not the index is initialized
abbrev pub held : Image → List Row
held image = map row_of_loaded (kept image)

-- the recovered contents of a folder: the rows of the kept records, in the order of the LRU list; none of an uninitialized folder
unfoldable pub found : Image → List Row
found image = if unfinished image then [] else held image

-- the recovered contents are those of another image; the folder is well formed where that one was, and usable where that one was so
pub record HoldsStill (entry image : Image) : Type 0 where
  pub usable : IsUsable entry → IsUsable image
  pub formed : IsWellFormed entry → IsWellFormed image
  pub found_same : found image ≡ found entry
