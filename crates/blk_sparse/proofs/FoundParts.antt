-- A part of an object is found by its name; one that it doesn't have isn't.
use Rattle.std.proofs.Common.{◌≡◌, ℕ, List, refl, ap, sym, ◌∙◌, subst, true, false, Option, Some, None}
use Rattle.std.specs.Prelude.{is_some}
use Rattle.std.specs.Option.{option_and_then, option_map}
use Rattle.spec_image.specs.Image.{Image}
use Rattle.spec_image.proofs.Runs.{some_inj}
use Rattle.blk_model.specs.Holding as model
use Rattle.blk_model.specs.Items.{Item, PartValue, Row, part, part_row}
use Rattle.blk_model.specs.State.{IsValidState, Object, State, object_at, part_at}
use Rattle.spec_format.specs.Names.{child_name, read_name}
use Rattle.spec_folder.specs.Found.{row_of_loaded}
use Rattle.spec_folder.specs.Layout.{IsPlacedAt, Layout, is_listed}
use Rattle.law_folder.proofs.claims.Owner.{IsOwned, owned, same_owner}
use Rattle.law_folder.proofs.states.Settling.{main-owned}
use Rattle.blk_chain.specs.declared.found.Found.{Found}
use Rattle.blk_chain.specs.Finding.{CanBeSearched, IsAnswer}
use Rattle.law_state.proofs.PartlyOut.{kept-begin}
use Rattle.blk_object.proofs.FoundLeft.{can-search, listed-found, named-listed}
use Rattle.blk_object.proofs.PartsFound.{names-are-theirs}
use Rattle.blk_object.proofs.WrittenParts.{part-listed}
use Rattle.blk_sparse.specs.SparseObjects.{HasPartAt, KeepsParent}

-- ---- a listed part is one that the object has

module _ (state : State) (valid : IsValidState state) (number : ℕ) (object : Object) (here : object_at state number ≡ Some object) (live : object.live ≡ true) (n : ℕ) where
  owner-has : (m : ℕ) → model.owner state (part object.key n) ≡ Some m → (object_at state m ≡ Some object)
  owner-has m e =
      let o : IsOwned state (part object.key n) m = owned state (part object.key n) m e in
      let same : m ≡ number = some_inj (sym (same_owner state valid object.key n m e) ∙ main-owned state valid number object true here live) in
      ap (object_at state) same ∙ here

  -- its row is that of the part
  pub row-of-part : (row : Row) → model.row_of state (part object.key n) ≡ Some row → option_map (λ value. part_row object.key n value) (part_at object n) ≡ Some row
  unfolding model.row_of
  row-of-part row is = go (model.owner state (part object.key n)) refl where
    go : (w : Option ℕ) → model.owner state (part object.key n) ≡ w → option_map (λ value. part_row object.key n value) (part_at object n) ≡ Some row
    go None e = absurd (let z : ◌≡◌ {A = Option Row} None (Some row) = sym (ap (λ (o : Option ℕ). option_and_then (λ x. model.row_in x (part object.key n)) (option_and_then (object_at state) o)) e) ∙ is in cc)
    go (Some m) e =
        sym (ap (λ (o : Option Object). option_and_then (λ x. model.row_in x (part object.key n)) o) (owner-has m e))
        ∙ sym (ap (λ (o : Option ℕ). option_and_then (λ x. model.row_in x (part object.key n)) (option_and_then (object_at state) o)) e) ∙ is

  pub row-has : (row : Row) → model.row_of state (part object.key n) ≡ Some row → is_some (part_at object n) ≡ true
  row-has row is = by (part_at object n) (row-of-part row is) where
    by : (o : Option PartValue) → option_map (λ value. part_row object.key n value) o ≡ Some row → is_some o ≡ true
    by None e = absurd (let z : ◌≡◌ {A = Option Row} None (Some row) = e in cc)
    by (Some value) e = refl

module _ (state : State) (layout : Layout) (unlinked : List ℕ) (number : ℕ) (object : Object) (node entry signature : ℕ) (from : Image) (p : KeepsParent state layout unlinked number object node entry signature from) where
  -- its chains can be searched
  pub can-find : (key : List ℕ) → CanBeSearched key from
  can-find key = can-search state layout (λ (i : Item). true) layout.chains unlinked from key (kept-begin state layout unlinked from p.kept)

  module _ (n : ℕ) where
    -- a part that it has
    module _ (value : PartValue) (has : part_at object n ≡ Some value) where
      listed : is_listed state (part object.key n) ≡ true
      listed = part-listed state p.kept.valid number object p.here p.live n value has

      placed : IsPlacedAt state layout (part object.key n)
      placed = p.kept.represents.holds.lies.laid (part object.key n) listed

      name-is : placed.loaded.key ≡ child_name object.key signature n
      name-is = names-are-theirs state layout (λ (i : Item). true) layout.chains unlinked object.key n placed.loaded p.was p.index from (kept-begin state layout unlinked from p.kept) listed refl placed.here p.lies p.role ∙ ap (λ (s : ℕ). child_name object.key s n) p.same

      found-some : (answer : Option Found) → IsAnswer (child_name object.key signature n) true answer from → (found : Found) × ((answer ≡ Some found) × HasPartAt layout object n found.entry)
      found-some answer is =
          let f = listed-found state layout unlinked (part object.key n) placed.loaded answer from p.kept listed placed.here (subst (λ (k : List ℕ). IsAnswer k true answer from) (sym name-is) is) in
          (f.found, (f.is, record { value = value; has = has; was = placed.loaded; lies = placed.here; record_is = f.entry_is }))

    -- one that it doesn't have
    none-listed : (name : List ℕ) → read_name name ≡ Some (record { key = object.key; signature = signature; part = n }) → part_at object n ≡ None → (found : Found) → IsAnswer name true (Some found) from → ⊥
    none-listed name read none found f =
        let listed = named-listed state layout (λ (i : Item). true) layout.chains unlinked from (kept-begin state layout unlinked from p.kept) name (record { key = object.key; signature = signature; part = n }) found.entry found.before read f in
        let placed = p.kept.represents.holds.lies.laid (part object.key n) listed in
        let has : is_some (part_at object n) ≡ true = row-has state p.kept.valid number object p.here p.live n (row_of_loaded placed.loaded) placed.row in
        let z : false ≡ true = ap is_some (sym none) ∙ has in cc

    -- so what is found is the part
    pub part-found : (name : List ℕ) → name ≡ child_name object.key signature n → read_name name ≡ Some (record { key = object.key; signature = signature; part = n }) → (answer : Option Found) → IsAnswer name true answer from
        → ((found : Found) → answer ≡ Some found → HasPartAt layout object n found.entry) × (answer ≡ None → part_at object n ≡ None)
    part-found name named read answer is = by (part_at object n) refl where
      by : (o : Option PartValue) → part_at object n ≡ o → ((found : Found) → answer ≡ Some found → HasPartAt layout object n found.entry) × (answer ≡ None → part_at object n ≡ None)
      by (Some value) has =
          let f = found-some value has answer (subst (λ (k : List ℕ). IsAnswer k true answer from) named is) in
          ((λ found e. subst (λ (x : Found). HasPartAt layout object n x.entry) (some_inj (sym f.1.0 ∙ e)) f.1.1), (λ e. absurd (let z : ◌≡◌ {A = Option Found} None (Some f.0) = sym e ∙ f.1.0 in cc)))
      by None none = ((λ found e. absurd (none-listed name read none found (subst (λ (a : Option Found). IsAnswer name true a from) e is))), (λ e. none))
