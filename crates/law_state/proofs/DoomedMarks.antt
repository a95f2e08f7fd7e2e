-- The dirty flag of a doomed object.
use Rattle.std.proofs.Common.{◌≡◌, ℕ, List, ◌++◌, length, refl, ap, sym, ◌∙◌, Some}
use Rattle.std.specs.Prelude.{◌==◌}
use Rattle.std.proofs.lemmas.List.Sorted.{IsPermutation-refl}
use Rattle.spec_image.proofs.Runs.{some_inj}
use Rattle.spec_image.specs.Image.{Image}
use Rattle.blk_model.specs.Items.{main_row}
use Rattle.blk_model.specs.State.{State, Object, IsValidState}
use Rattle.spec_format.specs.Claims.{claims_of, has_claim}
use Rattle.spec_format.specs.Headers.{counting}
use Rattle.law_folder.specs.CommandLaws.{IsPlacedAsDoomed, marked}
use Rattle.spec_folder.specs.Found.{row_of_loaded}
use Rattle.spec_folder.specs.Layout.{IsDoomedAt, Layout, order}
use Rattle.spec_folder.specs.Loads.{Loaded}
use Rattle.spec_folder.specs.Sound.{words_of}
use Rattle.spec_folder.specs.View.{view_of}
use Rattle.law_folder.proofs.states.Changing.{at-itself}
use Rattle.law_folder.proofs.states.Marking.{loads-marked}
use Rattle.law_state.specs.Keeping.{KeepsUncounted}
use Rattle.law_state.specs.ObjectLaws.{layout_after}
use Rattle.law_state.specs.RecordLaws.{DoomedMarkingFindsTheSame, DoomedMarkingKeepsTheCounters, DoomedMarkingKeepsTheState, IsMarked}
use Rattle.law_state.proofs.AtNodes.{free-but, its-own, updates-leave}
use Rattle.law_state.proofs.Dirtying.{charges-same, fields-now, only-node, seals}
use Rattle.law_state.proofs.Objects.{changed-doomed-kept, doomed-find}

pub doomed-marking-finds : DoomedMarkingFindsTheSame
doomed-marking-finds state layout unlinked from image number object loaded mark k at m =
    let node = layout.place_of_doomed number in
    doomed-find (has_claim (claims_of node)) state layout unlinked from image number object k (only-node state layout unlinked from image k node mark loaded at.at m) at.here at.dead
    (free-but state layout unlinked from k node loaded at.at (has_claim (claims_of node)) (its-own state layout unlinked from k node loaded at.at))

module _ (state : State) (layout : Layout) (unlinked : List ℕ) (from image : Image) (number : ℕ) (object : Object) (l : Loaded) (mark : ℕ) (k : KeepsUncounted state layout unlinked from) (at : IsPlacedAsDoomed state layout number object l)
    (valid : IsValidState (marked state number object (mark == 0))) (done : IsMarked from (layout.place_of_doomed number) mark image) where
  abbrev node : ℕ
  node = layout.place_of_doomed number

  abbrev now : Loaded
  now = record l { dirty = mark }

  lies : IsDoomedAt state layout number object
  lies = k.represents.holds.lies.doomed_objects number object at.here at.dead

  row : row_of_loaded now ≡ main_row object.key object.shape object.streams
  row = ap row_of_loaded (some_inj (sym at.at ∙ lies.here)) ∙ lies.row

  pub doomed-marked : KeepsUncounted (marked state number object (mark == 0)) (layout_after layout node now) unlinked image
  doomed-marked = changed-doomed-kept (has_claim (claims_of node)) state layout unlinked unlinked from image number object (record object { settled = mark == 0 }) l now k (only-node state layout unlinked from image k node mark l at.at done.marking) at at.dead row refl
      (free-but state layout unlinked from k node l at.at (has_claim (claims_of node)) (its-own state layout unlinked from k node l at.at))
      (loads-marked (view_of from) (view_of image) state layout k.represents node l at.at mark done.marking.inside.shown (fields-now state layout unlinked from image k node mark l at.at done.marking done.now))
      (IsPermutation-refl (unlinked ++ words_of l)) (seals state layout unlinked from image k node mark l at.at done.marking done.sealed node now (at-itself layout.at node (Some now))) valid

pub doomed-marking-keeps : DoomedMarkingKeepsTheState
doomed-marking-keeps state layout unlinked from image number object loaded mark k at valid done = doomed-marked state layout unlinked from image number object loaded mark k at valid done

pub doomed-marking-counts : DoomedMarkingKeepsTheCounters
doomed-marking-counts state layout unlinked from image number object loaded mark k at valid done =
    let same = updates-leave from image (layout.place_of_doomed number) done.marking.outside in
    record {
      entries = doomed-marked state layout unlinked from image number object loaded mark k.entries at valid done;
      counters = same ∙ k.counters ∙ ap (λ (n : ℕ). counting (length state.uses) n) (sym (charges-same layout.at (layout.place_of_doomed number) mark loaded at.at (order state layout)));
    }
