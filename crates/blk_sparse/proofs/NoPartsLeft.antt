-- Where no bit of its index is set, no part of an object is left.
use Rattle.std.proofs.Common.{◌≡◌, ℕ, List, [], ◌∷◌, map, refl, ap, sym, ◌∙◌, subst, Bool, true, false, Some, ⊎_elim}
use Rattle.std.specs.Prelude.{◌&&◌, ◌||◌, ◌==◌, filter, not}
use Rattle.std.specs.List.{FoldsTo}
use Rattle.std.specs.Option.{ForSome}
use Rattle.std.specs.Str.{bytes_eq}
use Rattle.std.proofs.lemmas.Bool.{and_parts, cases_Bool}
use Rattle.spec_image.specs.Image.{Image}
use Rattle.spec_image.specs.Told.{Passes, Told}
use Rattle.spec_image.proofs.Runs.{some_inj}
use Rattle.blk_model.specs.Effects.{doomed}
use Rattle.blk_model.specs.Holding.{rest}
use Rattle.blk_model.specs.Items.{Item, main, part, same_item}
use Rattle.blk_model.specs.Room.{parts_among}
use Rattle.blk_model.specs.State.{Object, State}
use Rattle.blk_model.proofs.Same.{same_bytes, same_item_self}
use Rattle.spec_folder.specs.Audit.{is_parent_role}
use Rattle.spec_folder.specs.Entries.{IsParent}
use Rattle.spec_folder.specs.Layout.{IsPartAt, IsPlacedAt, Layout, is_in, is_listed}
use Rattle.spec_folder.specs.Loads.{Loaded}
use Rattle.law_folder.proofs.commands.Removing.{in-filter}
use Rattle.law_state.specs.Changes.{Finds, SameSession}
use Rattle.blk_object.specs.ListedParts.{HaveNoPart, is_part_of}
use Rattle.blk_object.specs.UnlinkedLoads.{KeepsUnlinked}
use Rattle.blk_object.proofs.PartsLeft.{none-left}
use Rattle.blk_sparse.specs.Dropping.{AreGone, AreLeft, HasIndexedParts, IsWholeDropped}
use Rattle.blk_sparse.specs.declared.dropping.IndexedParts.{IndexedParts}
use Rattle.blk_sparse.proofs.PartsNext.{same-session, same-unlinked}
use Rattle.blk_sparse.proofs.PartsOut.{left-finds, stays-passes}
use Rattle.blk_sparse.proofs.Walking.{none-among}

-- ---- a list without parts of a key

or-true : (b : Bool) → (b || true) ≡ true
or-true true = refl
or-true false = refl

without-parts : (key : List ℕ) (items : List Item) → ((item : Item) → is_in items item ≡ true → is_part_of key item ≡ false) → HaveNoPart key items
without-parts key [] none = tt
without-parts key (i ∷ items) none = (none i (rw (same_item_self i) refl), without-parts key items (λ item there. none item (rw there (or-true (same_item item i)))))

-- ---- no part is left

module _ (state : State) (layout : Layout) (keep : Item → Bool) (chains : ℕ → List ℕ) (unlinked key : List ℕ) (number : ℕ) (object : Object) (image : Image) (left : AreLeft state layout keep chains unlinked key number object image) (indexed : IndexedParts) (has : HasIndexedParts layout key indexed) (none : indexed.any ≡ false) where
  -- a part of the key has a bit in its parent's index
  unlisted : (n : ℕ) → is_listed state (part key n) ≡ true → ⊥
  unlisted n listed = absurd (let z : false ≡ true = sym (has.none none p.name.part) ∙ bit in cc) where
    placed : IsPlacedAt state layout (part key n)
    placed = left.kept.lies.laid (part key n) listed

    p : IsPartAt state layout key placed.loaded
    p = placed.parent

    same : p.parent ≡ has.parent.was
    same = some_inj (sym p.at_parent ∙ has.parent.here)

    of : is_parent_role p.name p.parent.key (IsParent has.parent.index) ≡ true
    of = ap (is_parent_role p.name p.parent.key) (sym (ap (λ (l : Loaded). l.role) same ∙ has.parent.role)) ∙ p.of

    bit : has.parent.index.has_part p.name.part ≡ true
    bit = (and_parts (bytes_eq p.parent.key p.name.key && (has.parent.index.signature == p.name.signature)) (has.parent.index.has_part p.name.part) of).1

  no-part : (item : Item) → is_listed state item ≡ true → is_part_of key item ≡ false
  no-part (main other) listed = refl
  no-part (part other n) listed = ⊎_elim
      (λ (e : bytes_eq other key ≡ true). absurd (unlisted n (subst (λ (k : List ℕ). is_listed state (part k n) ≡ true) (same_bytes other key e) listed)))
      (λ (e : bytes_eq other key ≡ false). e)
      (cases_Bool (bytes_eq other key))

  pub none-left-of : HaveNoPart key (filter keep state.uses)
  none-left-of = without-parts key (filter keep state.uses) (λ item there. no-part item (and_parts (keep item) (is_in state.uses item) (sym (in-filter keep state.uses item) ∙ there)).1)

-- ---- nothing is removed

not-true : (b : Bool) → not b ≡ true → b ≡ false
not-true true e = absurd (let z : false ≡ true = e in cc)
not-true false e = refl

-- what holds in the end where nothing is removed
pub record IsUnwalked (E : Type 0) (call : E → ℕ → E → Type 0) (old : Told) (state : State) (layout : Layout) (keep : Item → Bool) (unlinked key : List ℕ) (number : ℕ) (object : Object) (from : Image) (each : E) : Type 0 where
  pub out : ForSome old.files (IsWholeDropped state layout unlinked key)
  pub session : ForSome old.files (SameSession from)
  pub keeps : ForSome old.files (KeepsUnlinked unlinked from)
  pub called : FoldsTo call each (parts_among key (filter keep state.uses)) each
  pub gone_is : AreGone layout (map (part key) (parts_among key (filter keep state.uses))) (record { items = 0; bytes = 0 })
  pub passes : Passes old old (Finds (rest (doomed number state (Some object))))

pub unwalked : (E : Type 0) (call : E → ℕ → E → Type 0) (old : Told) (each : E) (state : State) (layout : Layout) (keep : Item → Bool) (chains : ℕ → List ℕ) (unlinked key : List ℕ) (number : ℕ) (object : Object) (from : Image) → old.files ≡ Some from
    → AreLeft state layout keep chains unlinked key number object from → (indexed : IndexedParts) → HasIndexedParts layout key indexed → not indexed.any ≡ true
    → IsUnwalked E call old state layout keep unlinked key number object from each
unwalked E call old each state layout keep chains unlinked key number object from there left indexed has none =
    let no : HaveNoPart key (filter keep state.uses) = none-left-of state layout keep chains unlinked key number object from left indexed has (not-true indexed.any none) in
    let whole = none-left state layout keep chains unlinked key from left.kept left.counted left.others no in
    let empty : parts_among key (filter keep state.uses) ≡ [] = none-among key (filter keep state.uses) no in
    let out : IsWholeDropped state layout unlinked key from = record { chains = chains; kept = whole.0; counted = whole.1 } in
    record {
      out = λ image is. subst (IsWholeDropped state layout unlinked key) (some_inj (sym there ∙ is)) out;
      session = λ image is. same-session from image (some_inj (sym is ∙ there));
      keeps = λ image is. same-unlinked unlinked from image (some_inj (sym is ∙ there));
      called = subst (λ (ns : List ℕ). FoldsTo call each ns each) (sym empty) refl;
      gone_is = subst (λ (ns : List ℕ). AreGone layout (map (part key) ns) (record { items = 0; bytes = 0 })) (sym empty) (record { many = refl; charged = refl });
      passes = stays-passes old old from (Finds (rest (doomed number state (Some object)))) there refl (left-finds state layout keep chains unlinked key number object from left);
    }
