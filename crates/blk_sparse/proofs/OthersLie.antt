-- Other objects lie where they lay, while one of a folder changes at the nodes of its items and gets parts.
use Rattle.std.proofs.Common.{◌≡◌, ◌≢◌, ℕ, List, Bool, true, false, Option, Some, None, refl, sym, ap, ◌∙◌}
use Rattle.std.specs.Prelude.{◌==◌, if◌then◌else◌}
use Rattle.std.proofs.lemmas.Bool.{eqb-true}
use Rattle.spec_image.specs.Image.{Image}
use Rattle.spec_image.proofs.Runs.{some_inj}
use Rattle.blk_model.specs.Holding.{owner}
use Rattle.blk_model.specs.Items.{Item, key_of, main}
use Rattle.blk_model.specs.State.{Object, State, object_at}
use Rattle.spec_format.specs.BlockFiles.{is_among}
use Rattle.spec_folder.specs.Layout.{IsDoomedAt, IsPlacedAt, Layout, is_listed, order}
use Rattle.spec_folder.specs.ListView.{put}
use Rattle.spec_folder.specs.Loads.{Loaded}
use Rattle.spec_folder.specs.View.{View}
use Rattle.law_folder.proofs.states.Changing.{at-elsewhere, same-place}
use Rattle.law_folder.proofs.states.Laid.{is_among-node}
use Rattle.law_folder.proofs.states.Settling.{main-listed, main-owned}
use Rattle.law_state.specs.Keeping.{KeepsUncounted}
use Rattle.law_state.specs.NewPartLaws.{IsPartWritten, with_new_part}
use Rattle.law_state.specs.ObjectLaws.{layout_after}
use Rattle.blk_object.specs.Writing.{node_of_object}
use Rattle.blk_sparse.specs.SparseObjects.{OthersLieAsBefore}

clash : true ≡ false → ⊥
clash h = cc

none-some : {A : Type 0} (x : A) → ◌≡◌ {A = Option A} None (Some x) → ⊥
none-some x e = cc

apart-by : (a b : ℕ) → (b ≡ a → ⊥) → (a == b) ≡ false
apart-by a b never = by (a == b) refl where
  by : (t : Bool) → (a == b) ≡ t → t ≡ false
  by false e = refl
  by true e = absurd (never (sym (eqb-true a b e)))

-- ---- one after another

-- where each other object is as it was, the same is said of both states
pub others-of : (one two : State) (number : ℕ) (old new : Layout) → ((other : ℕ) → other ≢ number → object_at two other ≡ object_at one other) → OthersLieAsBefore one number old new → OthersLieAsBefore two number old new
others-of one two number old new same lie other object apart here = lie other object apart (sym (same other apart) ∙ here)

pub others-then : (state : State) (number : ℕ) (a b c : Layout) → OthersLieAsBefore state number a b → OthersLieAsBefore state number b c → OthersLieAsBefore state number a c
others-then state number a b c first second other object apart here =
    let f = first other object apart here in
    let s = second other object apart here in
    (s.0 ∙ f.0, ap c.at (sym f.0) ∙ s.1 ∙ ap b.at f.0 ∙ f.1)

pub others-same : (state : State) (number : ℕ) (layout : Layout) → OthersLieAsBefore state number layout layout
others-same state number layout other object apart here = (refl, refl)

-- ---- at the nodes of its items

module _ (state : State) (layout : Layout) (unlinked : List ℕ) (image : Image) (k : KeepsUncounted state layout unlinked image) (number : ℕ) (object : Object) (here : object_at state number ≡ Some object) (live : object.live ≡ true) where
  node-live : (other : ℕ) (o : Object) → o.live ≡ true → node_of_object layout other o ≡ layout.place (main o.key)
  node-live other o alive = ap (λ (b : Bool). if b then layout.place (main o.key) else layout.place_of_doomed other) alive

  node-dead : (other : ℕ) (o : Object) → o.live ≡ false → node_of_object layout other o ≡ layout.place_of_doomed other
  node-dead other o dead = ap (λ (b : Bool). if b then layout.place (main o.key) else layout.place_of_doomed other) dead

  -- another object lies at none of them
  item-apart : (item : Item) → is_listed state item ≡ true → key_of item ≡ object.key → (other : ℕ) (o : Object) → other ≢ number → object_at state other ≡ Some o → node_of_object layout other o ≡ layout.place item → ⊥
  item-apart item listed of_key other o apart at node = by o.live refl where
    by : (l : Bool) → o.live ≡ l → ⊥
    by true alive =
        let same : main o.key ≡ item = same-place state layout k.represents.holds.lies (main o.key) item (main-listed state k.valid other o true at alive) listed (sym (node-live other o alive) ∙ node) in
        let keys : o.key ≡ object.key = ap key_of same ∙ of_key in
        apart (some_inj (sym (main-owned state k.valid other o true at alive) ∙ ap (λ (key : List ℕ). owner state (main key)) keys ∙ main-owned state k.valid number object true here live))
    by false dead =
        let d : IsDoomedAt state layout other o = k.represents.holds.lies.doomed_objects other o at dead in
        clash (sym (is_among-node layout state.uses item listed) ∙ ap (is_among (order state layout)) (sym node ∙ node-dead other o dead) ∙ d.unlisted)

  -- something lies where it does
  lies-there : (other : ℕ) (o : Object) → object_at state other ≡ Some o → (loaded : Loaded) × (layout.at (node_of_object layout other o) ≡ Some loaded)
  lies-there other o at = by o.live refl where
    by : (l : Bool) → o.live ≡ l → (loaded : Loaded) × (layout.at (node_of_object layout other o) ≡ Some loaded)
    by true alive =
        let p : IsPlacedAt state layout (main o.key) = k.represents.holds.lies.laid (main o.key) (main-listed state k.valid other o true at alive) in
        (p.loaded, ap layout.at (node-live other o alive) ∙ p.here)
    by false dead =
        let d : IsDoomedAt state layout other o = k.represents.holds.lies.doomed_objects other o at dead in
        (d.loaded, ap layout.at (node-dead other o dead) ∙ d.here)

  -- so it stays where something else comes to a node of theirs
  pub changed-others : (item : Item) → is_listed state item ≡ true → key_of item ≡ object.key → (now : Loaded) → OthersLieAsBefore state number layout (layout_after layout (layout.place item) now)
  changed-others item listed of_key now other o apart at =
      (refl, at-elsewhere layout.at (layout.place item) (Some now) (node_of_object layout other o) (apart-by (layout.place item) (node_of_object layout other o) (item-apart item listed of_key other o apart at)))

  -- where one more part comes to a node that no item had
  pub part-others : (view : View) (objects : List (Option Object)) (n : ℕ) (was seen loaded : Loaded) → IsPartWritten view state objects layout object.key n was seen loaded
      → OthersLieAsBefore state number layout (with_new_part layout object.key n seen loaded)
  part-others view objects n was seen loaded w other o apart at =
      let node = node_of_object layout other o in
      let there = lies-there other o at in
      let beside : put layout.at (layout.place (main object.key)) (Some seen) node ≡ layout.at node =
      at-elsewhere layout.at (layout.place (main object.key)) (Some seen) node (apart-by (layout.place (main object.key)) node (item-apart (main object.key) w.listed refl other o apart at)) in
      let off : node ≡ loaded.node → ⊥ = λ e. none-some there.0 (sym w.new.nobody ∙ ap (put layout.at (layout.place (main object.key)) (Some seen)) (sym e) ∙ beside ∙ there.1) in
      (refl, at-elsewhere (put layout.at (layout.place (main object.key)) (Some seen)) loaded.node (Some loaded) node (apart-by loaded.node node off) ∙ beside)
