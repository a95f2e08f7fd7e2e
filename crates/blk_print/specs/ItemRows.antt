-- The rows of a List, as they are printed.
use Rattle.std.specs.Prelude.{◌≡◌, ◌<◌, ℕ, List, [], length, slice_index}
use Rattle.std.specs.List.{filter_map, flat_map}
use Rattle.std.specs.declared.option.Option.TheVariants.{Some}
use Rattle.spec_image.specs.Image.{Image}
use Rattle.blk_model.specs.Holding.{row_of, rows}
use Rattle.blk_model.specs.Items.{Item}
use Rattle.blk_model.specs.State.{State}
use Rattle.spec_format.specs.Names.{Name, read_name}
use Rattle.spec_format.specs.SparseIndex.{PartIndex}
use Rattle.spec_folder.specs.Entries.{IsPart, stream}
use Rattle.spec_folder.specs.Layout.{Layout}
use Rattle.spec_folder.specs.Loads.{Loaded}
use Rattle.blk_disk.specs.declared.tables.BlockFiles.{BlockFiles}
use Rattle.blk_disk.specs.Open.{IsOpen}
use Rattle.blk_entry.specs.declared.keys.Head.{Head}
use Rattle.law_state.specs.Keeping.{Keeps}
use Rattle.blk_script.specs.Reply.{row_line}
use Rattle.blk_evict.specs.EvictingGroups.{kind_of_role, kind_said}
use Rattle.std.specs.Option.{ForSome}
use Rattle.spec_image.specs.Told.{Told}
use Rattle.spec_folder.specs.Found.{row_of_loaded}
use Rattle.blk_object.specs.ListedParts.{LoadsAt}

-- the printed lines of these items of a state
abbrev pub lines_of : State → List Item → List ℕ
lines_of state items = flat_map row_line (filter_map (row_of state) items)

-- the folder keeps some state, and the table of block files agrees with it
pub record HasKeptState (files : BlockFiles) (image : Image) : Type 0 where
  pub state : State
  pub layout : Layout
  pub kept : Keeps state layout [] image
  pub is_open : IsOpen files image

-- the words and the key of a record agree with what is loaded with it: its kind, its key, the lengths of its streams; and the key of a part reads as its name
pub record IsItemToldBy (loaded : Loaded) (name : List ℕ) (head : Head) : Type 0 where
  pub kind : kind_said head.flags ≡ kind_of_role loaded.role
  pub key : name ≡ loaded.key
  pub sizes : (i : ℕ) → i < 3 → slice_index head.sizes i ≡ length (stream i loaded.streams)
  pub named : (said : Name) (index : PartIndex) → loaded.role ≡ IsPart said index → read_name loaded.key ≡ Some said

-- The texts, of which each word says that P holds.

-- P holds of the lines of all items of whatever state the folder keeps
abbrev pub ForKeptRows : Told → BlockFiles → ((text : List ℕ) → Type 0) → Type 0
ForKeptRows told files P = ForSome told.files (λ image. (p : HasKeptState files image) → P (flat_map row_line (rows p.state)))

-- P holds of the line of whatever the folder loads at the node
abbrev pub ForRowAt : Told → (node : ℕ) → ((text : List ℕ) → Type 0) → Type 0
ForRowAt told node P = ForSome told.files (λ image. (loaded : Loaded) → LoadsAt node loaded image → P (row_line (row_of_loaded loaded)))

-- P holds of the line of whatever is loaded with this record and this key
abbrev pub ForRowOf : (name : List ℕ) → Head → ((text : List ℕ) → Type 0) → Type 0
ForRowOf name head P = (loaded : Loaded) → IsItemToldBy loaded name head → P (row_line (row_of_loaded loaded))
