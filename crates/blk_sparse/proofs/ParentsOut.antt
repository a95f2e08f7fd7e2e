-- An object is removed with its parts, and its main item's places are freed last.
use Rattle.std.proofs.Common.{◌≡◌, ◌+◌, ℕ, List, [], ◌∷◌, ◌++◌, length, map, inl, refl, ap, sym, ◌∙◌, subst, arith, Bool, true, false, Option, None, Some, ⊎_elim}
use Rattle.std.specs.Prelude.{filter, not}
use Rattle.std.specs.Int.{cast_unsigned, w64}
use Rattle.std.specs.List.{cons_option, filter_map, sum_by}
use Rattle.std.proofs.lemmas.Bool.{cases_Bool}
use Rattle.std.proofs.lemmas.List.Sums.{sum_by-cons}
use Rattle.spec_image.specs.Image.{Image}
use Rattle.blk_model.specs.Effects.{doomed}
use Rattle.blk_model.specs.Holding.{rest}
use Rattle.blk_model.specs.Items.{Item, main, part}
use Rattle.blk_model.specs.Room.{part_number, parts_among}
use Rattle.blk_model.specs.State.{Object, State}
use Rattle.blk_model.proofs.Doomed.{state_doomed}
use Rattle.blk_model.proofs.Same.{bytes_eq_self}
use Rattle.spec_folder.specs.Found.{charge_of}
use Rattle.spec_folder.specs.Layout.{Layout, nodes_of}
use Rattle.spec_folder.specs.Loads.{Loaded}
use Rattle.spec_folder.specs.Removal.{is_of_another}
use Rattle.spec_folder.specs.Sound.{words_of}
use Rattle.law_state.specs.Changes.{Finds}
use Rattle.law_state.specs.CountsOfParts.{charges_at}
use Rattle.law_state.specs.GroupLaws.{gone_nodes, layout_less}
use Rattle.law_state.specs.Keeping.{Keeps}
use Rattle.law_state.specs.PartlyOut.{KeepsPartlyOut, chains_but, keeps_but}
use Rattle.law_state.specs.PartlyOutStops.{LeavesOtherKeys}
use Rattle.law_state.proofs.ChangedStates.{same-state, unheld-less}
use Rattle.blk_object.specs.Freeing.{AreFreeable, AreGoing, Removes}
use Rattle.blk_object.specs.NextItems.{IsMainOut}
use Rattle.blk_object.specs.Owning.{LoadsWith}
use Rattle.blk_object.specs.Removing.{LiesBehind}
use Rattle.blk_object.specs.RemovingFound.{LiesAsFound}
use Rattle.blk_object.specs.RemovingObjects.{FindsEither}
use Rattle.blk_object.proofs.CountsOut.{counted-out-ends, still-counted}
use Rattle.blk_object.proofs.FreedPlaces.{all-counted, all-out, going-finds-doomed}
use Rattle.blk_object.proofs.GoingNext.{main-going, main-leaves}
use Rattle.blk_object.proofs.OwnedPlaces.{kept-load}
use Rattle.blk_sparse.specs.Dropping.{AreGone, AreLeft, HasIndexedParts, HasNoBit, IsCalledOverPrefix, IsWholeDropped}
use Rattle.blk_sparse.specs.Parents.{AreGoneBeside, IsGoneWhole, IsGroupTold, LiesAsParent, LoadsAsParent}
use Rattle.blk_sparse.specs.declared.dropping.Gone.{Gone}
use Rattle.blk_sparse.specs.declared.dropping.IndexedParts.{IndexedParts}

-- ---- the places of the main item are freed

module _ (words : List ℕ) (state : State) (layout : Layout) (unlinked key : List ℕ) (number : ℕ) (object : Object) (from : Image) (o : IsWholeDropped state layout (words ++ unlinked) key from) where
  pub may-free : AreFreeable words from
  may-free = record { state = state; layout = layout; keep = is_of_another key; chains = o.chains; others = unlinked; kept = o.kept }

  pub freed-whole : (image : Image) → Removes words from image → IsWholeDropped state layout unlinked key image
  freed-whole image freed = record {
    chains = o.chains;
    kept = all-out state layout (is_of_another key) o.chains words unlinked from image freed o.kept;
    counted = still-counted state layout (is_of_another key) from image (all-counted words from image freed) o.counted;
  }

  pub freeing-finds : (keep : Item → Bool) (chains : ℕ → List ℕ) (at : Image) → AreLeft state layout keep chains (words ++ unlinked) key number object at → (image : Image) → AreGoing words from image → Finds (rest (doomed number state (Some object))) image
  freeing-finds keep chains at left image going =
      going-finds-doomed state layout number object (is_of_another key) o.chains words unlinked from image left.here
      (subst (λ (k : List ℕ). LeavesOtherKeys k (is_of_another key)) (sym left.of_key) (record { out = ap not (bytes_eq_self key); others = λ item e. e })) o.kept going

-- what was removed beside the main item
pub beside : (layout : Layout) (items : List Item) (charge : ℕ) (parts : Gone) → AreGone layout items parts → AreGoneBeside layout items charge (record { items = parts.items + 1; bytes = parts.bytes + charge })
beside layout items charge parts gone = record { many = ap (λ (n : ℕ). n + 1) gone.many; charged = ap (λ (n : ℕ). n + charge) gone.charged }

-- `each` was called with no number yet
pub not-yet : (E : Type 0) (call : E → ℕ → E → Type 0) (numbers : List ℕ) (each : E) → IsCalledOverPrefix E call numbers each each
not-yet E call numbers each = record { front = []; others = numbers; split = refl; called = refl }

-- ---- the main item is out

main-unnumbered : (key other : List ℕ) (item : Item) → keeps_but (λ i. true) (main other) item ≡ false → part_number key item ≡ None
main-unnumbered key other (main k) e = refl
main-unnumbered key other (part k n) e = absurd (let z : true ≡ false = e in cc)

among-kept : (key : List ℕ) (keep : Item → Bool) → ((item : Item) → keep item ≡ false → part_number key item ≡ None) → (items : List Item) → parts_among key (filter keep items) ≡ parts_among key items
among-kept key keep none [] = refl
among-kept key keep none (i ∷ items) = ⊎_elim
    (λ (e : keep i ≡ true). let same : filter keep (i ∷ items) ≡ i ∷ filter keep items = rw e refl in ap (parts_among key) same ∙ ap (cons_option (part_number key i)) (among-kept key keep none items))
    (λ (e : keep i ≡ false). let same : filter keep (i ∷ items) ≡ filter keep items = rw e refl in ap (parts_among key) same ∙ among-kept key keep none items ∙ ap (λ (p : Option ℕ). cons_option p (parts_among key items)) (sym (none i e)))
    (cases_Bool (keep i))

-- the parts that are left beside a main item are all
pub all-among : (key other : List ℕ) (items : List Item) → parts_among key (filter (keeps_but (λ i. true) (main other)) items) ≡ parts_among key items
all-among key other items = among-kept key (keeps_but (λ i. true) (main other)) (main-unnumbered key other) items

module _ {held : Bool} (state : State) (layout : Layout) (unlinked : List ℕ) (number : ℕ) (object : Object) (key : List ℕ) (node entry : ℕ) (before : Option ℕ) (from : Image) (m : LiesAsParent held state layout unlinked number object key node entry before from) where
  -- it lies there by the key of the object
  abbrev pub own-lies : LiesAsFound state layout object.key node entry before
  own-lies = record {
    was = m.lies.was;
    lies = subst (λ (k : List ℕ). LiesBehind state layout (main k) m.lies.was before) (sym m.of_key) m.lies.lies;
    node_is = ap (λ (k : List ℕ). layout.place (main k)) m.of_key ∙ m.lies.node_is;
    entry_is = m.lies.entry_is;
  }

  -- the durable contents are recovered
  pub at-rest : FindsEither state (doomed number state (Some object)) from
  at-rest = main-going state layout unlinked number object node entry before from from m.kept.entries m.here m.live own-lies (inl refl)

  -- its record loads
  pub main-loads : LoadsWith entry m.lies.was from
  main-loads = subst (λ (w : ℕ). LoadsWith w m.lies.was from) m.lies.entry_is (kept-load state layout unlinked from (layout.place (main key)) m.lies.was m.kept.entries m.lies.lies.here)

  pub as-parent : LoadsAsParent entry from
  as-parent = record { loaded = m.lies.was; loads = main-loads; index = m.index; role = m.role }

  -- its index says what was read
  pub has-indexed : (indexed : IndexedParts) → m.index.signature ≡ cast_unsigned w64 indexed.signature → (indexed.any ≡ false → HasNoBit m.index) → HasIndexedParts layout key indexed
  has-indexed indexed same none = record { parent = record { was = m.lies.was; here = m.lies.lies.here; index = m.index; role = m.role; same = same }; none = none }

  -- once the main item is out, its parts are left
  pub parts-left : (words : List ℕ) (image : Image) → words ++ unlinked ≡ words_of m.lies.was ++ unlinked → IsMainOut state layout unlinked object.key m.lies.was image
      → AreLeft state layout (keeps_but (λ item. true) (main object.key)) (chains_but layout.chains m.lies.was.contents) (words ++ unlinked) key number object image
  parts-left words image same out = record {
    kept = subst (λ (ws : List ℕ). KeepsPartlyOut state layout (keeps_but (λ item. true) (main object.key)) (chains_but layout.chains m.lies.was.contents) ws image) (sym same) out.out;
    counted = out.counted;
    here = m.here;
    of_key = m.of_key;
    others = subst (λ (k : List ℕ). LeavesOtherKeys k (keeps_but (λ item. true) (main object.key))) m.of_key (main-leaves object.key);
  }

  -- the answer has the number of its items and the sum of their costs
  pub group-told : (charge : ℕ) (gone : Gone) → charge ≡ charge_of m.lies.was → AreGoneBeside layout (map (part key) (parts_among key state.uses)) charge gone → IsGroupTold state layout key gone
  group-told charge gone is beside_is =
      let parts : List Item = map (part key) (parts_among key state.uses) in
      let here : layout.at (layout.place (main key)) ≡ Some m.lies.was = m.lies.lies.here in
      let first : charges_at layout (nodes_of layout (main key ∷ parts)) ≡ charge_of m.lies.was + charges_at layout (nodes_of layout parts) =
      ap (λ (o : Option Loaded). sum_by charge_of (cons_option o (filter_map layout.at (nodes_of layout parts)))) here ∙ sum_by-cons charge_of m.lies.was (filter_map layout.at (nodes_of layout parts)) in
      let many = beside_is.many in
      let charged = beside_is.charged in
      record { many = more parts gone.items many; charged = omega (arith, first, charged, is) }
    where
      more : (xs : List Item) (n : ℕ) → n ≡ length xs + 1 → n ≡ length (main key ∷ xs)
      more xs n e = omega (arith, e)

-- in the end an object that no handle names is removed
pub gone-whole : (state : State) (layout : Layout) (unlinked : List ℕ) (number : ℕ) (object : Object) (key : List ℕ) (node entry : ℕ) (before : Option ℕ) (from : Image) (m : LiesAsParent false state layout unlinked number object key node entry before from)
    → (image : Image) → IsWholeDropped state layout unlinked key image → IsGoneWhole state layout unlinked number object image
gone-whole state layout unlinked number object key node entry before from m image out = subst (λ (k : List ℕ). IsWholeDropped state layout unlinked k image → IsGoneWhole state layout unlinked number object image) m.of_key (λ (o : IsWholeDropped state layout unlinked object.key image).
    let valid = state_doomed state m.kept.entries.valid number object m.here m.live in
    record {
      chains = o.chains;
      kept = subst (λ (s : State). Keeps s (layout_less layout (gone_nodes state layout (is_of_another object.key)) o.chains) unlinked image) (sym (same-state state number object m.kept.entries.valid m.here m.live m.named valid))
          (counted-out-ends state layout unlinked (doomed number state (Some object)).objects (is_of_another object.key) o.chains image o.kept o.counted (unheld-less state number object m.kept.entries.valid m.here m.live m.named valid));
    }) out
