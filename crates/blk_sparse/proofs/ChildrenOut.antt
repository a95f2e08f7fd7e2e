-- The parts of a parent are removed, by the key that its record gives.
use Rattle.std.proofs.Common.{◌≡◌, ℕ, ◌≤◌, ◌-◌, List, length, take, take_all, ap, sym, ◌∙◌, subst, arith, Bool, false, Some}
use Rattle.std.specs.Int.{cast_unsigned, w64}
use Rattle.std.specs.Option.{ForSome}
use Rattle.std.specs.Prelude.{min}
use Rattle.spec_image.specs.Image.{Image}
use Rattle.spec_image.proofs.Runs.{some_inj}
use Rattle.blk_model.specs.Items.{Item, item_of, main}
use Rattle.blk_model.specs.State.{IsObject, Object, State, object_at}
use Rattle.spec_format.specs.SparseIndex.{ParentIndex}
use Rattle.spec_folder.specs.Entries.{IsParent, Role}
use Rattle.spec_folder.specs.Found.{row_of_loaded, row_with}
use Rattle.spec_folder.specs.Layout.{IsPlacedAt, Layout}
use Rattle.spec_folder.specs.Loads.{Loaded}
use Rattle.law_folder.proofs.states.Laid.{item-row}
use Rattle.blk_entry.specs.Keys.{IsPiece, key_at}
use Rattle.blk_object.proofs.PartNames.{key-there}
use Rattle.blk_sparse.specs.Children.{HasParentKey, IsParentOut}
use Rattle.blk_sparse.specs.Dropping.{AreLeft, HasIndexedParts, HasNoBit}
use Rattle.blk_sparse.specs.Parents.{LoadsAsParent}
use Rattle.blk_sparse.specs.declared.dropping.IndexedParts.{IndexedParts}
use Rattle.blk_sparse.proofs.PartsNext.{of-some}

-- ---- the key is read

module _ (image : Image) (entry : ℕ) (key old new : List ℕ) (len : ℕ) (has : HasParentKey entry key image) (room : 32796 ≤ length old) (piece : ForSome (key_at image entry) (λ (stored : List ℕ). IsPiece stored 0 old new len)) where
  key-piece : IsPiece key 0 old new len
  key-piece = piece key (key-there image entry has.loaded has.loads ∙ ap Some has.key_is)

  pub key-len : len ≡ length key
  key-len = let many : len ≡ min (length old) (length key - 0) = key-piece.many in let short = has.short in omega (arith, many, short, room)

  pub key-read : take len new ≡ key
  key-read = key-piece.front ∙ take_all len key (let is = key-len in omega (arith, is))

-- ---- the parent's key is the object's

pub main-key : (stored : List ℕ) (index : ParentIndex) (streams : List (List ℕ)) (key : List ℕ) → item_of (row_with stored (IsParent index) streams) ≡ main key → stored ≡ key
main-key stored index streams key is = let same : main stored ≡ main key = is in cc

module _ (state : State) (layout : Layout) (keep : Item → Bool) (chains : ℕ → List ℕ) (unlinked : List ℕ) (number : ℕ) (object : Object) (node entry signature : ℕ) (image : Image) (p : IsParentOut state layout keep chains unlinked number object node entry signature image) where
  is-object : IsObject object
  is-object = of-some (object_at state number) object IsObject p.left.here (p.left.kept.valid.objects number)

  placed : IsPlacedAt state layout (main object.key)
  placed = p.left.kept.lies.laid (main object.key) p.listed

  same : placed.loaded ≡ p.parent.was
  same = some_inj (sym placed.here ∙ p.parent.here)

  key-is : p.parent.was.key ≡ object.key
  key-is = main-key p.parent.was.key p.parent.index p.parent.was.streams object.key
      (ap (λ (r : Role). item_of (row_with p.parent.was.key r p.parent.was.streams)) (sym p.parent.role) ∙ ap (λ (l : Loaded). item_of (row_of_loaded l)) (sym same) ∙ item-row state (main object.key) (row_of_loaded placed.loaded) placed.row)

  pub has-key : HasParentKey entry object.key image
  has-key = record { loaded = p.parent.was; loads = p.loads; key_is = key-is; some = is-object.key.some; short = is-object.key.short }

  pub left-so : (key : List ℕ) → key ≡ object.key → AreLeft state layout keep chains unlinked key number object image
  left-so key is = subst (λ (k : List ℕ). AreLeft state layout keep chains unlinked k number object image) (sym is) p.left

  pub loads-parent : LoadsAsParent entry image
  loads-parent = record { loaded = p.parent.was; loads = p.loads; index = p.parent.index; role = p.parent.role }

  -- its index says what was read
  pub indexed-so : (key : List ℕ) (indexed : IndexedParts) → key ≡ object.key → cast_unsigned w64 indexed.signature ≡ signature → (indexed.any ≡ false → HasNoBit p.parent.index) → HasIndexedParts layout key indexed
  indexed-so key indexed is signed none = subst (λ (k : List ℕ). HasIndexedParts layout k indexed) (sym is) (record { parent = record { was = p.parent.was; here = p.parent.here; index = p.parent.index; role = p.parent.role; same = p.parent.same ∙ sym signed }; none = none })
