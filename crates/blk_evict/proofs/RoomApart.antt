-- Objects that handles name lie apart from an item that isn't pinned.
use Rattle.std.proofs.Common.{◌∙◌, ◌∷◌, ◌≡◌, Bool, List, None, Option, Some, [], ap, false, refl, sym, true, ℕ, ⊎_elim}
use Rattle.std.specs.Prelude.{◌==◌, filter, if◌then◌else◌, not}
use Rattle.std.specs.Option.{option_and_then, option_map_or}
use Rattle.std.specs.Str.{bytes_eq}
use Rattle.std.proofs.lemmas.Bool.{and_parts, cases_Bool, eqb-true}
use Rattle.spec_image.specs.Image.{Image}
use Rattle.spec_image.proofs.Runs.{some_inj}
use Rattle.blk_model.specs.Items.{Item, key_of, main, part}
use Rattle.blk_model.specs.Room.{Group, is_pinned, left_of, without}
use Rattle.blk_model.specs.State.{IsValidState, Object, State, is_named, live_with, object_at}
use Rattle.blk_model.proofs.Evicted.{IsLoose, kept_parts, map_at, named_left}
use Rattle.blk_model.proofs.Same.{same_bytes}
use Rattle.spec_format.specs.BlockFiles.{is_among}
use Rattle.spec_folder.specs.Layout.{IsDoomedAt, Layout, is_in, is_listed, order}
use Rattle.spec_folder.specs.ListView.{put}
use Rattle.spec_folder.specs.Loads.{Loaded}
use Rattle.spec_folder.specs.Removal.{is_of_another}
use Rattle.law_state.specs.GroupLaws.{gone_nodes, layout_less}
use Rattle.law_state.specs.Keeping.{KeepsUncounted}
use Rattle.law_state.specs.RemovalLaws.{layout_removed}
use Rattle.law_folder.proofs.commands.Removing.{in-filter}
use Rattle.law_folder.proofs.states.Changing.{same-place}
use Rattle.law_folder.proofs.states.Laid.{IsNodeOf, is_among-node, node-of}
use Rattle.law_folder.proofs.states.Settling.{main-listed, main-owned}
use Rattle.blk_object.specs.Writing.{node_of_object}
use Rattle.blk_evict.specs.RoomLaws.{MayGo, NamedObjectsStay, group_for}
use Rattle.blk_evict.proofs.RoomGroups.{in-middle, loose-for}

clash : true ≡ false → ⊥
clash h = cc

-- a named object stays, but for parts of it
pub named-stays : (state : State) → IsValidState state → (group : Group) → IsLoose (is_pinned state []) group → (number : ℕ) (object : Object) → object_at state number ≡ Some object → is_named state number ≡ true
    → object_at (without (group ∷ []) state) number ≡ Some (record object { parts = kept_parts (group ∷ []) object })
unfolding without
named-stays state valid group loose number object here named = map_at (left_of (group ∷ [])) state.objects number ∙ ap (option_and_then (left_of (group ∷ []))) here ∙ named_left state valid [] (group ∷ []) (loose, tt) number object here named

-- what is at another place is as it was
put-apart : {A : Type 0} (values : ℕ → Option A) (place node : ℕ) → (node ≡ place → ⊥) → put values place None node ≡ values node
unfolding put
put-apart {A = A} values place node apart = go (node == place) refl where
  go : (b : Bool) → (node == place) ≡ b → (if b then None else values node) ≡ values node
  go true e = absurd (apart (eqb-true node place e))
  go false e = refl

module _ (state : State) (layout : Layout) (unlinked : List ℕ) (image : Image) (k : KeepsUncounted state layout unlinked image) (item : Item) (listed : is_listed state item ≡ true) (unpinned : is_pinned state [] item ≡ false) where
  apart : (number : ℕ) (object : Object) → object_at state number ≡ Some object → is_named state number ≡ true → node_of_object layout number object ≡ layout.place item → ⊥
  apart number object here named node = by object.live refl where
    by : (l : Bool) → object.live ≡ l → ⊥
    by true alive =
        let at : layout.place (main object.key) ≡ layout.place item = sym (ap (λ (b : Bool). if b then layout.place (main object.key) else layout.place_of_doomed number) alive) ∙ node in
        let same : main object.key ≡ item = same-place state layout k.represents.holds.lies (main object.key) item (main-listed state k.valid number object true here alive) listed at in
        let owner-is : live_with state object.key ≡ Some number = main-owned state k.valid number object true here alive in
        let pinned : is_pinned state [] (main object.key) ≡ true = ap (λ (o : Option ℕ). option_map_or (is_named state) o false) owner-is ∙ named in
        clash (sym pinned ∙ ap (is_pinned state []) same ∙ unpinned)
    by false dead =
        let d : IsDoomedAt state layout number object = k.represents.holds.lies.doomed_objects number object here dead in
        let at : layout.place_of_doomed number ≡ layout.place item = sym (ap (λ (b : Bool). if b then layout.place (main object.key) else layout.place_of_doomed number) dead) ∙ node in
        clash (sym (is_among-node layout state.uses item listed) ∙ ap (is_among (order state layout)) (sym at) ∙ d.unlisted)

-- what was there, of an object that is left
was-there : (state : State) (group : Group) (number : ℕ) (object : Object) → object_at (without (group ∷ []) state) number ≡ Some object → (was : Object) × (object_at state number ≡ Some was)
unfolding without
was-there state group number object here = go (object_at state number) refl (sym (map_at (left_of (group ∷ [])) state.objects number) ∙ here) where
  go : (o : Option Object) → object_at state number ≡ o → option_and_then (left_of (group ∷ [])) (object_at state number) ≡ Some object → (was : Object) × (object_at state number ≡ Some was)
  go None e left = absurd (no (ap (option_and_then (left_of (group ∷ []))) (sym e) ∙ left)) where
    no : ◌≡◌ {A = Option Object} None (Some object) → ⊥
    no e = cc
  go (Some was) e left = (was, e)

named-as-before : (state : State) (group : Group) (number : ℕ) → is_named (without (group ∷ []) state) number ≡ true → is_named state number ≡ true
unfolding without
named-as-before state group number named = named

-- where an item is evicted alone
pub alone-apart : (state : State) (layout : Layout) (unlinked : List ℕ) (image : Image) (front : List Item) (item : Item) (behind : List Item) (contents : ℕ) → KeepsUncounted state layout unlinked image → MayGo state front item behind
    → NamedObjectsStay (without (group_for item front ∷ []) state) layout (layout_removed layout (layout.place item) contents)
alone-apart state layout unlinked image front item behind contents k is number object here named =
    let listed : is_listed state item ≡ true = ap (λ (l : List Item). is_in l item) is.listed ∙ in-middle front item behind in
    let w = was-there state (group_for item front) number object here in
    let was_named = named-as-before state (group_for item front) number named in
    let shrunk = named-stays state k.valid (group_for item front) (loose-for (is_pinned state []) item front is.unpinned) number w.0 w.1 was_named in
    let same = some_inj (sym here ∙ shrunk) in
    let off : node_of_object layout number object ≡ layout.place item → ⊥ = λ e. apart state layout unlinked image k item listed is.unpinned number w.0 w.1 was_named (sym (ap (node_of_object layout number) same) ∙ e) in
    (refl, put-apart layout.at (layout.place item) (node_of_object layout number object) off)

-- ---- whole objects

-- what lies at a node that isn't removed is as it was
stays-at : (at : ℕ → Option Loaded) (gone : List ℕ) (node : ℕ) → is_among gone node ≡ false → (if is_among gone node then None else at node) ≡ at node
stays-at at gone node off = ap (λ (b : Bool). if b then None else at node) off

not-not : (b : Bool) → not (not b) ≡ true → b ≡ true
not-not true e = refl
not-not false e = e

module _ (state : State) (layout : Layout) (unlinked : List ℕ) (image : Image) (front : List Item) (key : List ℕ) (behind : List Item) (k : KeepsUncounted state layout unlinked image) (is : MayGo state front (main key) behind) where
  -- no item of the key is pinned
  its-unpinned : (item : Item) → key_of item ≡ key → is_pinned state [] item ≡ false
  its-unpinned (main other) same = ap (λ (x : List ℕ). is_pinned state [] (main x)) same ∙ is.unpinned
  its-unpinned (part other n) same = refl

  off-gone : (number : ℕ) (object : Object) → object_at state number ≡ Some object → is_named state number ≡ true → is_among (gone_nodes state layout (is_of_another key)) (node_of_object layout number object) ≡ false
  off-gone number object here named = ⊎_elim
      (λ (e : is_among (gone_nodes state layout (is_of_another key)) (node_of_object layout number object) ≡ true).
      let a : IsNodeOf layout (filter (λ item. not (is_of_another key item)) state.uses) (node_of_object layout number object) = node-of layout (filter (λ item. not (is_of_another key item)) state.uses) (node_of_object layout number object) e in
      let both = and_parts (not (is_of_another key a.item)) (is_in state.uses a.item) (sym (in-filter (λ item. not (is_of_another key item)) state.uses a.item) ∙ a.among) in
      let same : key ≡ key_of a.item = same_bytes key (key_of a.item) (not-not (bytes_eq key (key_of a.item)) both.0) in
      absurd (apart state layout unlinked image k a.item both.1 (its-unpinned a.item (sym same)) number object here named (sym a.is)))
      (λ (e : is_among (gone_nodes state layout (is_of_another key)) (node_of_object layout number object) ≡ false). e)
      (cases_Bool (is_among (gone_nodes state layout (is_of_another key)) (node_of_object layout number object)))

-- where a whole object is evicted
pub key-apart : (state : State) (layout : Layout) (unlinked : List ℕ) (image : Image) (front : List Item) (key : List ℕ) (behind : List Item) (chains : ℕ → List ℕ) → KeepsUncounted state layout unlinked image → MayGo state front (main key) behind
    → NamedObjectsStay (without (group_for (main key) front ∷ []) state) layout (layout_less layout (gone_nodes state layout (is_of_another key)) chains)
key-apart state layout unlinked image front key behind chains k is number object here named =
    let w = was-there state (group_for (main key) front) number object here in
    let was_named = named-as-before state (group_for (main key) front) number named in
    let shrunk = named-stays state k.valid (group_for (main key) front) (loose-for (is_pinned state []) (main key) front is.unpinned) number w.0 w.1 was_named in
    let same = some_inj (sym here ∙ shrunk) in
    let off : is_among (gone_nodes state layout (is_of_another key)) (node_of_object layout number object) ≡ false = ap (λ (o : Object). is_among (gone_nodes state layout (is_of_another key)) (node_of_object layout number o)) same ∙ off-gone state layout unlinked image front key behind k is number w.0 w.1 was_named in
    (refl, stays-at layout.at (gone_nodes state layout (is_of_another key)) (node_of_object layout number object) off)
