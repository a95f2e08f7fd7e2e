-- The parent of an object that a state keeps has the object's key.
use Rattle.std.proofs.Common.{◌≡◌, ◌≤◌, ℕ, List, take, ap, sym, ◌∙◌, subst, true}
use Rattle.std.proofs.lemmas.List.{take-take}
use Rattle.spec_image.specs.Image.{Image}
use Rattle.spec_image.proofs.Runs.{some_inj}
use Rattle.blk_model.specs.Items.{item_of, main}
use Rattle.blk_model.specs.State.{IsObject, Object, State, object_at}
use Rattle.spec_folder.specs.Entries.{Role}
use Rattle.spec_folder.specs.Found.{row_of_loaded, row_with}
use Rattle.spec_folder.specs.Layout.{IsPlacedAt, Layout, rule_of}
use Rattle.spec_folder.specs.Loads.{Loaded}
use Rattle.law_folder.proofs.states.Laid.{item-row}
use Rattle.law_folder.proofs.states.Settling.{main-listed}
use Rattle.blk_sparse.specs.Children.{HasParentKey}
use Rattle.blk_sparse.specs.SparseObjects.{KeepsParent}
use Rattle.blk_sparse.proofs.ChildrenOut.{main-key}
use Rattle.blk_sparse.proofs.PartsNext.{of-some}

module _ (state : State) (layout : Layout) (unlinked : List ℕ) (number : ℕ) (object : Object) (node entry signature : ℕ) (from : Image) (p : KeepsParent state layout unlinked number object node entry signature from) where
  is-object : IsObject object
  is-object = of-some (object_at state number) object IsObject p.here (p.kept.valid.objects number)

  placed : IsPlacedAt state layout (main object.key)
  placed = p.kept.represents.holds.lies.laid (main object.key) (main-listed state p.kept.valid number object true p.here p.live)

  same : placed.loaded ≡ p.was
  same = some_inj (sym placed.here ∙ p.lies)

  key-is : p.was.key ≡ object.key
  key-is = main-key p.was.key p.index p.was.streams object.key
      (ap (λ (r : Role). item_of (row_with p.was.key r p.was.streams)) (sym p.role) ∙ ap (λ (l : Loaded). item_of (row_of_loaded l)) (sym same) ∙ item-row state (main object.key) (row_of_loaded placed.loaded) placed.row)

  pub parent-key : HasParentKey entry object.key from
  parent-key = record {
    loaded = p.was;
    loads = record { rule = rule_of layout (layout.place (main object.key)); node = layout.place (main object.key); loads = p.kept.represents.holds.shows.each (layout.place (main object.key)) p.was p.lies; contents = p.record_is };
    key_is = key-is;
    some = is-object.key.some;
    short = is-object.key.short;
  }

  -- its key, as it is read
  pub key-same : (len : ℕ) (name front : List ℕ) → front ≡ take 32768 name → len ≤ 32768 → ((key : List ℕ) → HasParentKey entry key from → take len name ≡ key) → object.key ≡ take len front
  key-same len name front is short read = sym (ap (take len) is ∙ take-take len 32768 name short ∙ read object.key parent-key)

-- with another word for the same generation
pub signed-parent : (state : State) (layout : Layout) (unlinked : List ℕ) (number : ℕ) (object : Object) (node entry signature other : ℕ) (from : Image) → other ≡ signature → KeepsParent state layout unlinked number object node entry signature from → KeepsParent state layout unlinked number object node entry other from
signed-parent state layout unlinked number object node entry signature other from is p = subst (λ (s : ℕ). KeepsParent state layout unlinked number object node entry s from) (sym is) p
