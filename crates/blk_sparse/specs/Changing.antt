-- A piece is written to a part that exists: its data, and then its validity bitmap.
use Rattle.std.specs.Prelude.{◌≡◌, ℕ, ◌+◌, List, [], length}
use Rattle.std.specs.declared.option.Option.TheVariants.{Some}
use Rattle.spec_image.specs.Image.{Image}
use Rattle.spec_image.specs.Told.{Passes, Told}
use Rattle.blk_model.specs.Bytes.{overwritten}
use Rattle.blk_model.specs.Holding.{rest}
use Rattle.blk_model.specs.Items.{PartValue}
use Rattle.blk_model.specs.Sparse.{presence_after}
use Rattle.blk_model.specs.State.{Object, State, part_at}
use Rattle.spec_format.specs.Names.{Name}
use Rattle.spec_format.specs.SparseIndex.{PartIndex, read_part_index}
use Rattle.spec_folder.specs.Entries.{IsPart}
use Rattle.spec_folder.specs.Layout.{Layout}
use Rattle.spec_folder.specs.Loads.{Loaded}
use Rattle.law_state.specs.Changes.{Finds, SameCounters, SameSession}
use Rattle.law_state.specs.Keeping.{KeepsUncounted}
use Rattle.law_state.specs.PartStates.{with_object, with_value}
use Rattle.blk_object.specs.Owning.{LoadsWith}
use Rattle.blk_ranges.specs.PartMaps.{presence_in}
use Rattle.blk_sparse.specs.SparseObjects.{CanGetParts, HasPartAt, KeepsParent, OthersLieAsBefore, with_piece}

-- the bytes are an index of a part, with the bitmap of an old index and the bytes from `from` to `to` marked as present in it
pub record NotesWrite (old : PartIndex) (from to : ℕ) (bytes : List ℕ) : Type 0 where
  pub index : PartIndex
  pub is : read_part_index bytes ≡ Some index
  pub signature : index.signature ≡ old.signature
  pub key_len : index.key_len ≡ old.key_len
  pub presence : presence_in index ≡ presence_after (presence_in old) from to

-- what is loaded with the record at address `entry` is a part with this index
pub record LoadsAsPart (entry : ℕ) (image : Image) : Type 0 where
  pub loaded : Loaded
  pub loads : LoadsWith entry loaded image
  pub name : Name
  pub index : PartIndex
  pub role : loaded.role ≡ IsPart name index

-- precondition: part n of a dirty sparse object has the record at address `of_part`, and `bytes` are its index after a piece is written at `place`
pub record IsToBeChanged (state : State) (layout : Layout) (unlinked : List ℕ) (number : ℕ) (object : Object) (node entry signature n of_part place : ℕ) (piece bytes : List ℕ) (image : Image) : Type 0 where
  pub grows : CanGetParts [] state layout unlinked number object node entry signature image
  pub at : HasPartAt layout object n of_part
  pub name : Name
  pub index : PartIndex
  pub role : at.was.role ≡ IsPart name index
  pub noted : NotesWrite index place (place + length piece) bytes

-- P holds of each part with this record to which the piece may be written, and of which `bytes` are the index afterwards
abbrev pub ForEachToBeChanged : (of_part place : ℕ) (piece bytes : List ℕ) → Image → (State → Layout → List ℕ → ℕ → Object → (node entry signature n : ℕ) → Type 0) → Type 0
ForEachToBeChanged of_part place piece bytes from P =
    (state : State) (layout : Layout) (unlinked : List ℕ) (number : ℕ) (object : Object) (node entry signature n : ℕ)
    → IsToBeChanged state layout unlinked number object node entry signature n of_part place piece bytes from → P state layout unlinked number object node entry signature n

-- the folder keeps the state in which the piece is written and the part isn't accessed yet, but for the counters; these, the session, the part's record and the
-- place of each other object are unchanged
pub record IsChangedUnused (state : State) (old : Layout) (unlinked : List ℕ) (number : ℕ) (object : Object) (node entry signature n of_part place : ℕ) (piece : List ℕ) (from image : Image) : Type 0 where
  pub now : Layout
  pub parent : KeepsParent (with_object state number (with_piece object n place piece)) now unlinked number (with_piece object n place piece) node entry signature image
  pub at : HasPartAt now (with_piece object n place piece) n of_part
  pub others : OthersLieAsBefore (with_object state number (with_piece object n place piece)) number old now
  pub counters : SameCounters from image
  pub session : SameSession from image

-- The order of its writes.

-- the data of the piece is written before the bitmap: after some step between, the folder keeps the state in which the part has the new bytes and its old
-- bitmap; before and after that, recovery gives the old durable contents
pub record IsDataBeforeMap (state : State) (unlinked : List ℕ) (number : ℕ) (object : Object) (n place : ℕ) (piece : List ℕ) (old new : Told) : Type 0 where
  pub between : Told
  pub image : Image
  pub there : between.files ≡ Some image
  pub before : Passes old between (Finds (rest state))
  pub value : PartValue
  pub has : part_at object n ≡ Some value
  pub layout : Layout
  pub kept : KeepsUncounted (with_object state number (with_value object n (record value { bytes = overwritten value.bytes place piece }))) layout unlinked image
  pub behind : Passes between new (Finds (rest state))
