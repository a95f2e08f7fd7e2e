-- The main item of an object with parts is accessed, before its parts are.
use Rattle.std.proofs.Common.{◌≡◌, ℕ, List, [], ◌∷◌, Some, true}
use Rattle.std.specs.Option.{ForSome}
use Rattle.spec_image.specs.Image.{Image}
use Rattle.spec_image.specs.Told.{Passes, Told}
use Rattle.spec_image.proofs.Runs.{passes_weaker}
use Rattle.blk_model.specs.Items.{Item, main}
use Rattle.blk_model.specs.State.{Object, State}
use Rattle.spec_folder.specs.Layout.{Layout}
use Rattle.law_folder.proofs.states.Settling.{main-listed}
use Rattle.blk_sparse.specs.Parts.{FindsBeforeOrAfter, IsListedAt, IsUsed}
use Rattle.blk_sparse.specs.SparseObjects.{FindsUsed, KeepsParent, KeepsParentUsed}
use Rattle.blk_sparse.proofs.UsedParts.{first-further, one-used, used-one}

module _ (a m : Told) (from : Image) (there : a.files ≡ Some from) (state : State) (layout : Layout) (unlinked : List ℕ) (number : ℕ) (object : Object) (node entry signature : ℕ) (p : KeepsParent state layout unlinked number object node entry signature from) where
  -- it is listed at its record
  pub its-main : IsListedAt state layout unlinked (main object.key) entry from
  its-main = record { kept = p.kept; listed = main-listed state p.kept.valid number object true p.here p.live; was = p.was; lies = p.lies; record_is = p.record_is }

  -- at each word
  pub main-stops : Passes a m (FindsBeforeOrAfter state (main object.key)) → Passes a m (FindsUsed state (main object.key ∷ []))
  main-stops stops = passes_weaker stops (used-one state (main object.key)) (used-one state (main object.key))

  pub main-further : (ys : List Item) → Passes a m (FindsBeforeOrAfter state (main object.key)) → Passes a m (FindsUsed state (main object.key ∷ ys))
  main-further ys stops = first-further a m m from there state layout unlinked number object node entry signature p (main object.key ∷ []) ys (main-stops stops)

  -- once it is accessed
  pub main-used : ForSome m.files (IsUsed state layout unlinked (main object.key) from) → ForSome m.files (KeepsParentUsed state layout unlinked number object node entry signature (main object.key ∷ []) from)
  main-used used image is = one-used state layout unlinked number object node entry signature from p (main object.key) image (used image is)
