-- An object with parts that a handle names: once all its items are out its record gets the state of a doomed one, and it is kept as one.
use Rattle.std.proofs.Common.{◌≡◌, ℕ, List, ◌++◌, sym, subst, true, Option, Some}
use Rattle.spec_image.specs.Image.{Image}
use Rattle.blk_model.specs.Items.{main}
use Rattle.blk_model.specs.State.{Object, State}
use Rattle.spec_format.specs.Records.{entry_normal}
use Rattle.spec_folder.specs.Layout.{Layout}
use Rattle.spec_folder.specs.Removal.{is_of_another}
use Rattle.spec_folder.specs.Sound.{words_of}
use Rattle.blk_object.specs.Dooming.{IsDoomedOut, IsOutWhole}
use Rattle.blk_object.specs.NextItems.{IsMainOut}
use Rattle.blk_object.specs.UnlinkedLoads.{KeepsUnlinked, LiesUnlinked}
use Rattle.blk_object.proofs.CountsOut.{still-counted}
use Rattle.blk_object.proofs.HeldDooms.{held-out-counted}
use Rattle.blk_sparse.specs.Dropping.{IsWholeDropped}
use Rattle.blk_sparse.specs.Parents.{IsHeldWhole, LiesAsParent}

module _ (state : State) (layout : Layout) (unlinked : List ℕ) (number : ℕ) (object : Object) (key : List ℕ) (node entry : ℕ) (before : Option ℕ) (from : Image) (m : LiesAsParent true state layout unlinked number object key node entry before from) where
  -- once the main item was out, and what lay in unlinked places then lies there still
  module _ (out : Image) (is : IsMainOut state layout unlinked object.key m.lies.was out) (image : Image) (kept : KeepsUnlinked (words_of m.lies.was ++ unlinked) out image) (o : IsWholeDropped state layout (words_of m.lies.was ++ unlinked) object.key image) where
    pub out-whole : IsOutWhole state layout number object m.lies.was o.chains unlinked entry image
    out-whole =
        let lies : LiesUnlinked (words_of m.lies.was ++ unlinked) entry_normal (layout.place (main object.key)) m.lies.was image = kept entry_normal (layout.place (main object.key)) m.lies.was is.lies in
        record {
          placed = record { here = m.here; live = m.live; at = subst (λ (k : List ℕ). layout.at (layout.place (main k)) ≡ Some m.lies.was) (sym m.of_key) m.lies.lies.here };
          named = m.named;
          keeps = o.kept;
          loads = lies.loads;
          sealed = lies.sealed;
          entry_is = m.lies.entry_is;
        }

    -- with the state of a doomed object in its record it is kept so
    pub held-whole : (last : Image) → IsDoomedOut state layout number object m.lies.was o.chains unlinked image last → IsHeldWhole state layout unlinked number object last
    held-whole last d = record {
      chains = o.chains;
      kept = held-out-counted state layout number object m.lies.was o.chains unlinked last d.held (still-counted state layout (is_of_another object.key) image last d.counters o.counted);
    }
