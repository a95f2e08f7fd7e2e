-- Bytes are written to a sparse object, a piece for each part in range.
use Rattle.std.specs.Prelude.{◌≡◌, ℕ, ◌-◌, ◌*◌, List, [], ◌∷◌, MatchOption}
use Rattle.std.specs.Option.{ForSome}
use Rattle.spec_image.specs.Image.{Image}
use Rattle.spec_image.specs.Told.{Told}
use Rattle.blk_model.specs.Sizes.{part_size}
use Rattle.blk_model.specs.Sparse.{piece_for}
use Rattle.blk_model.specs.State.{Object, State, part_at}
use Rattle.spec_format.specs.Names.{child_name}
use Rattle.spec_folder.specs.Layout.{Layout}
use Rattle.blk_disk.specs.declared.tables.BlockFiles.{BlockFiles}
use Rattle.law_state.specs.Keeping.{KeepsUncounted}
use Rattle.blk_object.specs.KeptObjects.{KeptObject}
use Rattle.blk_sparse.specs.Changing.{IsDataBeforeMap}
use Rattle.blk_sparse.specs.NewParts.{IsWholeBeforeItsBit}
use Rattle.blk_sparse.specs.SparseObjects.{CanGetParts, with_piece, with_piece_written}

-- P holds of each sparse object with this key and the record at address `entry` that may get the parts `ns`
abbrev pub ForEachGrowingOfKey : (ns key : List ℕ) (entry signature : ℕ) → Image → (State → Layout → List ℕ → ℕ → Object → (node : ℕ) → Type 0) → Type 0
ForEachGrowingOfKey ns key entry signature from P =
    (state : State) (layout : Layout) (unlinked : List ℕ) (number : ℕ) (object : Object) (node : ℕ)
    → CanGetParts ns state layout unlinked number object node entry signature from → object.key ≡ key → P state layout unlinked number object node

-- the order of writes for a piece of part n: if the part exists, its data before its validity bitmap; else the whole part before its bit in the parent's index
abbrev pub IsPieceInOrder : BlockFiles → KeptObject → (parent signature n place : ℕ) → (piece : List ℕ) → (old new : Told) → Type 0
IsPieceInOrder files kept parent signature n place piece old new =
    MatchOption (part_at kept.object n)
    (IsWholeBeforeItsBit files kept.state kept.layout kept.object.key (child_name kept.object.key signature n) n parent old new)
    (λ value. IsDataBeforeMap kept.state kept.unlinked kept.number kept.object n place piece old new)

-- the object once the piece of part n is written, with the layout with which its state is kept then
abbrev pub kept_with_piece : KeptObject → (now : Layout) → (n place : ℕ) → (piece : List ℕ) → KeptObject
kept_with_piece kept now n place piece =
    record { state = with_piece_written kept.state kept.number kept.object n place piece; layout = now; unlinked = kept.unlinked; number = kept.number; object = with_piece kept.object n place piece }

-- the order of writes for bytes over the parts `ns`: one part after another, each piece in its order, and the state kept between two pieces
abbrev pub AreInOrder : (ns : List ℕ) → KeptObject → (parent signature offset : ℕ) → (bytes : List ℕ) → (old new : Told) → Type 0
AreInOrder [] kept parent signature offset bytes old new = new ≡ old
AreInOrder (n ∷ ns) kept parent signature offset bytes old new =
    (files : BlockFiles) × ((between : Told) × ((now : Layout)
    × (ForSome old.files (KeepsUncounted kept.state kept.layout kept.unlinked)
    × (IsPieceInOrder files kept parent signature n (offset - n * part_size) (piece_for n offset bytes) old between
    × AreInOrder ns (kept_with_piece kept now n (offset - n * part_size) (piece_for n offset bytes)) parent signature offset bytes between new))))
