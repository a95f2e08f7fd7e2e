-- The printing of bytes of a sparse object.
use Rattle.std.specs.Prelude.{◌≡◌, ℕ, List, length}
use Rattle.spec_image.specs.Image.{Image}
use Rattle.blk_model.specs.Sparse.{sparse_bytes}
use Rattle.blk_model.specs.State.{Object, State}
use Rattle.spec_folder.specs.Layout.{Layout}
use Rattle.blk_sparse.specs.SparseObjects.{KeepsParent}
use Rattle.blk_print.specs.declared.present_printing.PresentRange.{PresentRange}
use Rattle.std.specs.Option.{ForSome}
use Rattle.spec_image.specs.Told.{Told}
use Rattle.blk_sparse.specs.declared.finding.PartRecords.{PartRecords}
use Rattle.blk_sparse.specs.Finding.{ArePartsFound}
use Rattle.blk_print.specs.PrintCalls.{reply_with}

-- the folder keeps some state in which a live sparse object has the range's node and record, and all bytes of the range are present
pub record HasPresent (range : PresentRange) (image : Image) : Type 0 where
  pub state : State
  pub layout : Layout
  pub unlinked : List ℕ
  pub number : ℕ
  pub object : Object
  pub signature : ℕ
  pub parent : KeepsParent state layout unlinked number object range.node range.entry signature image
  pub all : length (sparse_bytes object range.offset range.count) ≡ range.count

-- P holds of the reply with the bytes of the range, which are present
abbrev pub ForPresentBytes : Told → PresentRange → ((text : List ℕ) → Type 0) → Type 0
ForPresentBytes told range P = ForSome told.files (λ image. (p : HasPresent range image) → P (reply_with (sparse_bytes p.object range.offset range.count)))

-- P holds of the reply with the bytes of the range, which are present in the parts that were found
abbrev pub ForPresentBytesIn : Told → PresentRange → PartRecords → ((text : List ℕ) → Type 0) → Type 0
ForPresentBytesIn told range parts P =
    ForSome told.files (λ image. (p : HasPresent range image) → ArePartsFound p.layout p.object range.offset range.count parts → P (reply_with (sparse_bytes p.object range.offset range.count)))

-- all bytes of the range are present, in the parts that were found
abbrev pub HasPresentIn : PresentRange → PartRecords → Image → Type 0
HasPresentIn range parts image = (p : HasPresent range image) × ArePartsFound p.layout p.object range.offset range.count parts
