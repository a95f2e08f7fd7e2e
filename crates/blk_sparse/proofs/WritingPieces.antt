-- A piece that is written to a part of an object: where there is the part, and where it is made.
use Rattle.std.proofs.Common.{◌≡◌, ◌≤◌, ℕ, ℤ, List, [], ◌∷◌, length, Option, None, Some, sym, ◌∙◌, ap, subst, arith}
use Rattle.std.specs.Prelude.{MatchOption, is_some}
use Rattle.std.specs.Int.{cast_unsigned, w64}
use Rattle.spec_image.specs.Image.{Image}
use Rattle.spec_image.specs.Told.{Told}
use Rattle.blk_model.specs.Holding.{rest}
use Rattle.blk_model.specs.Items.{PartValue}
use Rattle.blk_model.specs.State.{Object, State, part_at}
use Rattle.spec_format.specs.Names.{child_name}
use Rattle.spec_folder.specs.Layout.{Layout}
use Rattle.law_state.specs.Changes.{Finds}
use Rattle.blk_disk.specs.declared.tables.BlockFiles.{BlockFiles}
use Rattle.blk_sparse.specs.Changing.{IsDataBeforeMap}
use Rattle.blk_sparse.specs.NewParts.{CanHavePart, IsWholeBeforeItsBit}
use Rattle.blk_sparse.specs.SparseObjects.{CanGetParts, KeepsParent}
use Rattle.blk_sparse.specs.Writing.{IsPieceInOrder}
use Rattle.blk_sparse.proofs.ChangedUsed.{nothing-found}

-- a name has bytes
pub name-some : (key : List ℕ) (signature n : ℕ) → 1 ≤ length (child_name key signature n)
unfolding child_name
name-some key signature n = omega arith

module _ (state : State) (layout : Layout) (unlinked : List ℕ) (number : ℕ) (object : Object) (node entry signature n : ℕ) (from : Image) (can : CanGetParts (n ∷ []) state layout unlinked number object node entry signature from) where
  -- a part that there is needs no space
  pub can-there : CanGetParts [] state layout unlinked number object node entry signature from
  can-there = record { parent = can.parent; unsettled = can.unsettled; few = let few = can.few in omega (arith, few); room = can.room }

  pub grows-finds : Finds (rest state) from
  grows-finds = nothing-found state layout unlinked number object node entry signature from can-there

  pub signed : (other : ℕ) → other ≡ signature → KeepsParent state layout unlinked number object node entry other from
  signed other is = subst (λ (s : ℕ). KeepsParent state layout unlinked number object node entry s from) (sym is) can.parent

  -- one that there isn't can be made
  pub can-make : (key name : List ℕ) (s : ℤ) → cast_unsigned w64 s ≡ signature → object.key ≡ key → name ≡ child_name key (cast_unsigned w64 s) n → part_at object n ≡ None → CanHavePart state layout unlinked number object node entry (record { key_len = length key; signature = s; part = n }) name from
  can-make key name s is of_key named none = record {
    grows = subst (λ (t : ℕ). CanGetParts (n ∷ []) state layout unlinked number object node entry t from) (sym is) can;
    missing = ap (λ (o : Option PartValue). is_some o) none;
    key_len = ap length (sym of_key);
    named = named ∙ ap (λ (k : List ℕ). child_name k (cast_unsigned w64 s) n) (sym of_key);
  }

-- ---- the order of a piece

module _ (files : BlockFiles) (state : State) (layout : Layout) (unlinked : List ℕ) (number : ℕ) (object : Object) (parent signature n place : ℕ) (piece : List ℕ) (old new : Told) where
  pub in-order-there : (value : PartValue) → part_at object n ≡ Some value → (first : Told) → first ≡ old → IsDataBeforeMap state unlinked number object n place piece first new → IsPieceInOrder files (record { state = state; layout = layout; unlinked = unlinked; number = number; object = object }) parent signature n place piece old new
  in-order-there value has first stays o =
      subst (λ (p : Option PartValue). MatchOption p (IsWholeBeforeItsBit files state layout object.key (child_name object.key signature n) n parent old new) (λ v. IsDataBeforeMap state unlinked number object n place piece old new)) (sym has)
      (subst (λ (t : Told). IsDataBeforeMap state unlinked number object n place piece t new) stays o)

  pub in-order-made : (key name : List ℕ) (other : ℕ) → part_at object n ≡ None → object.key ≡ key → other ≡ signature → name ≡ child_name key other n → (first : Told) → first ≡ old → IsWholeBeforeItsBit files state layout object.key name n parent first new → IsPieceInOrder files (record { state = state; layout = layout; unlinked = unlinked; number = number; object = object }) parent signature n place piece old new
  in-order-made key name other none of_key same named first stays o =
      subst (λ (p : Option PartValue). MatchOption p (IsWholeBeforeItsBit files state layout object.key (child_name object.key signature n) n parent old new) (λ v. IsDataBeforeMap state unlinked number object n place piece old new)) (sym none)
      (subst (λ (t : Told). IsWholeBeforeItsBit files state layout object.key (child_name object.key signature n) n parent t new) stays
      (subst (λ (bytes : List ℕ). IsWholeBeforeItsBit files state layout object.key bytes n parent first new) (named ∙ ap (λ (k : List ℕ). child_name k other n) (sym of_key) ∙ ap (λ (s : ℕ). child_name object.key s n) same) o))
