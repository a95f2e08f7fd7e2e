-- Objects that handles name lie where they lay, while another is doomed.
use Rattle.std.proofs.Common.{◌≡◌, ◌≢◌, ⊎_elim, ℕ, Bool, true, false, List, [], set, get_or, get_or-set_other, get_or-set_same, Option, Some, None, refl, sym, ap, ◌∙◌, length, ◌<◌}
use Rattle.std.specs.Prelude.{◌==◌, ◌||◌, filter, if◌then◌else◌, not}
use Rattle.std.specs.Str.{bytes_eq}
use Rattle.std.proofs.lemmas.Bool.{and_parts, cases_Bool, cases_eq, eq-eqb, eqb-true}
use Rattle.spec_image.specs.Image.{Image}
use Rattle.spec_image.proofs.Runs.{some_inj}
use Rattle.blk_model.specs.Effects.{doomed, doomed_slot}
use Rattle.blk_model.specs.Holding.{owner}
use Rattle.blk_model.specs.Items.{Item, main}
use Rattle.blk_model.specs.State.{Object, State, is_named, object_at}
use Rattle.blk_model.proofs.Each.{some_within}
use Rattle.blk_model.proofs.Same.{same_bytes}
use Rattle.spec_format.specs.BlockFiles.{is_among}
use Rattle.spec_format.specs.Claims.{Claim}
use Rattle.spec_folder.specs.Layout.{IsDoomedAt, Layout, is_in, is_listed, order}
use Rattle.spec_folder.specs.ListView.{put}
use Rattle.spec_folder.specs.Loads.{Loaded}
use Rattle.spec_folder.specs.Removal.{is_of_another, placed_doomed}
use Rattle.law_state.specs.GroupLaws.{at_without, gone_nodes, layout_less, owners_without}
use Rattle.law_state.specs.Keeping.{KeepsUncounted}
use Rattle.law_state.specs.RemovalLaws.{layout_removed}
use Rattle.law_state.specs.WholeRemovals.{is_no_part_of, layout_doomed_whole, part_nodes}
use Rattle.law_folder.proofs.commands.Removing.{in-filter}
use Rattle.law_folder.proofs.states.Changing.{same-place}
use Rattle.law_folder.proofs.states.Laid.{IsNodeOf, is_among-node, node-of}
use Rattle.law_folder.proofs.states.Settling.{main-listed, main-owned}
use Rattle.blk_object.specs.Writing.{node_of_object}
use Rattle.blk_cache.specs.DoomingObjects.{NamedObjectsLieOn}

clash : true ≡ false → ⊥
clash h = cc

not-not : (b : Bool) → not (not b) ≡ true → b ≡ true
not-not true e = refl
not-not false e = e

-- what is at another place is as it was
put-apart : {A : Type 0} (values : ℕ → A) (place : ℕ) (value : A) (node : ℕ) → (node ≡ place → ⊥) → put values place value node ≡ values node
unfolding put
put-apart {A = A} values place value node apart = go (node == place) refl where
  go : (b : Bool) → (node == place) ≡ b → (if b then value else values node) ≡ values node
  go true e = absurd (apart (eqb-true node place e))
  go false e = refl

put-at : {A : Type 0} (values : ℕ → A) (place : ℕ) (value : A) → put values place value place ≡ value
unfolding put
put-at {A = A} values place value = go (place == place) (eq-eqb place place refl) where
  go : (b : Bool) → b ≡ true → (if b then value else values place) ≡ value
  go true e = refl
  go false e = absurd (let c : false ≡ true = e in cc)

-- what lies at a node that isn't removed is as it was
stays-at : (at : ℕ → Option Loaded) (gone : List ℕ) (node : ℕ) → is_among gone node ≡ false → (if is_among gone node then None else at node) ≡ at node
stays-at at gone node off = ap (λ (b : Bool). if b then None else at node) off

module _ (state : State) (number : ℕ) (object : Object) (here : object_at state number ≡ Some object) where
  abbrev after : State
  after = doomed number state (Some object)

  after-objects : after.objects ≡ set state.objects number (doomed_slot (is_named state number) object)
  unfolding doomed
  after-objects = refl

  at-other : (n : ℕ) → n ≢ number → object_at after n ≡ object_at state n
  at-other n other = ap (λ (slots : List (Option Object)). get_or slots n None) after-objects ∙ get_or-set_other state.objects number n (doomed_slot (is_named state number) object) None other

  at-number : object_at after number ≡ doomed_slot (is_named state number) object
  at-number =
      let within : number < length state.objects = some_within state.objects number object here in
      ap (λ (slots : List (Option Object)). get_or slots number None) after-objects ∙ get_or-set_same state.objects number (doomed_slot (is_named state number) object) None within

  -- where no handle names it, and the places are the same
  pub unheld-on : is_named state number ≡ false → (old : Layout) (at : ℕ → Option Loaded) (chains : ℕ → List ℕ) (owner : Claim → Option ℕ)
      → ((n : ℕ) (o : Object) → object_at state n ≡ Some o → is_named state n ≡ true → at (node_of_object old n o) ≡ old.at (node_of_object old n o))
      → NamedObjectsLieOn state after old (record old { at = at; chains = chains; owner = owner })
  unheld-on unheld old at chains owner stays n o left there named is = ⊎_elim
      (λ (e : n ≡ number). absurd (clash (sym named ∙ ap (is_named state) e ∙ unheld)))
      (λ (e : n ≢ number).
      let same : left ≡ o = some_inj (sym is ∙ at-other n e ∙ there) in
      (ap (node_of_object old n) same, stays n o there named))
      (cases_eq n number)

  -- where one does, its node is that of a doomed object then
  pub held-on : object.live ≡ true → is_named state number ≡ true → (old : Layout) (at : ℕ → Option Loaded) (chains : ℕ → List ℕ) (owner : Claim → Option ℕ)
      → ((n : ℕ) (o : Object) → object_at state n ≡ Some o → is_named state n ≡ true → at (node_of_object old n o) ≡ old.at (node_of_object old n o))
      → NamedObjectsLieOn state after old (placed_doomed old number (old.place (main object.key)) at chains owner)
  held-on live held old at chains owner stays n o left there named is = ⊎_elim
      (λ (e : n ≡ number).
      let own : o ≡ object = some_inj (sym there ∙ ap (object_at state) e ∙ here) in
      let slot : Some left ≡ Some (record object { live = false; parts = [] }) = sym is ∙ ap (object_at after) e ∙ at-number ∙ ap (λ (b : Bool). doomed_slot b object) held in
      let dead : left ≡ record object { live = false; parts = [] } = some_inj slot in
      let was : node_of_object old n o ≡ old.place (main object.key) = ap (node_of_object old n) own ∙ ap (λ (b : Bool). if b then old.place (main object.key) else old.place_of_doomed n) live in
      let now : node_of_object (placed_doomed old number (old.place (main object.key)) at chains owner) n left ≡ old.place (main object.key) =
      ap (node_of_object (placed_doomed old number (old.place (main object.key)) at chains owner) n) dead
      ∙ ap (put old.place_of_doomed number (old.place (main object.key))) e
      ∙ put-at old.place_of_doomed number (old.place (main object.key)) in
      (now ∙ sym was, stays n o there named))
      (λ (e : n ≢ number).
      let same : left ≡ o = some_inj (sym is ∙ at-other n e ∙ there) in
      let place : put old.place_of_doomed number (old.place (main object.key)) n ≡ old.place_of_doomed n = put-apart old.place_of_doomed number (old.place (main object.key)) n e in
      (ap (node_of_object (placed_doomed old number (old.place (main object.key)) at chains owner) n) same ∙ ap (λ (d : ℕ). if o.live then old.place (main o.key) else d) place, stays n o there named))
      (cases_eq n number)

-- a named object lies apart from an item that isn't its main item
module _ (state : State) (layout : Layout) (unlinked : List ℕ) (image : Image) (k : KeepsUncounted state layout unlinked image) (number : ℕ) (object : Object) (there : object_at state number ≡ Some object) where
  apart : (item : Item) → is_listed state item ≡ true → (object.live ≡ true → main object.key ≡ item → ⊥) → node_of_object layout number object ≡ layout.place item → ⊥
  apart item listed other node = by object.live refl where
    by : (l : Bool) → object.live ≡ l → ⊥
    by true alive =
        let at : layout.place (main object.key) ≡ layout.place item = sym (ap (λ (b : Bool). if b then layout.place (main object.key) else layout.place_of_doomed number) alive) ∙ node in
        other alive (same-place state layout k.represents.holds.lies (main object.key) item (main-listed state k.valid number object true there alive) listed at)
    by false dead =
        let d : IsDoomedAt state layout number object = k.represents.holds.lies.doomed_objects number object there dead in
        let at : layout.place_of_doomed number ≡ layout.place item = sym (ap (λ (b : Bool). if b then layout.place (main object.key) else layout.place_of_doomed number) dead) ∙ node in
        clash (sym (is_among-node layout state.uses item listed) ∙ ap (is_among (order state layout)) (sym at) ∙ d.unlisted)

  -- so its node is none of those of some items, where its main item isn't one of them
  off-items : (keep : Item → Bool) → (object.live ≡ true → keep (main object.key) ≡ true) → is_among (gone_nodes state layout keep) (node_of_object layout number object) ≡ false
  off-items keep stays = ⊎_elim
      (λ (e : is_among (gone_nodes state layout keep) (node_of_object layout number object) ≡ true).
      let a : IsNodeOf layout (filter (λ item. not (keep item)) state.uses) (node_of_object layout number object) = node-of layout (filter (λ item. not (keep item)) state.uses) (node_of_object layout number object) e in
      let both = and_parts (not (keep a.item)) (is_in state.uses a.item) (sym (in-filter (λ item. not (keep item)) state.uses a.item) ∙ a.among) in
      absurd (apart a.item both.1 (λ alive same. clash (sym (stays alive) ∙ ap keep same ∙ gone (keep a.item) both.0)) (sym a.is)))
      (λ (e : is_among (gone_nodes state layout keep) (node_of_object layout number object) ≡ false). e)
      (cases_Bool (is_among (gone_nodes state layout keep) (node_of_object layout number object)))
    where
      gone : (b : Bool) → not b ≡ true → b ≡ false
      gone true e = cc
      gone false e = refl

-- the main item of a named object is that of another key than an unnamed object has
module _ (state : State) (layout : Layout) (unlinked : List ℕ) (image : Image) (k : KeepsUncounted state layout unlinked image) (number : ℕ) (object : Object) (here : object_at state number ≡ Some object) (live : object.live ≡ true) where
  other-main : is_named state number ≡ false → (n : ℕ) (o : Object) → object_at state n ≡ Some o → is_named state n ≡ true → o.live ≡ true → main o.key ≡ main object.key → ⊥
  other-main unheld n o there named alive same =
      let numbers : n ≡ number = some_inj (sym (main-owned state k.valid n o true there alive) ∙ ap (λ (i : Item). owner state i) same ∙ main-owned state k.valid number object true here live) in
      clash (sym named ∙ ap (is_named state) numbers ∙ unheld)

  -- without its main item
  pub removed-on : is_named state number ≡ false → (entry : ℕ) → NamedObjectsLieOn state (doomed number state (Some object)) layout (layout_removed layout (layout.place (main object.key)) entry)
  removed-on unheld entry = unheld-on state number object here unheld layout (put layout.at (layout.place (main object.key)) None) (layout_removed layout (layout.place (main object.key)) entry).chains (layout_removed layout (layout.place (main object.key)) entry).owner (λ n o there named.
      put-apart layout.at (layout.place (main object.key)) None (node_of_object layout n o)
      (apart state layout unlinked image k n o there (main object.key) (main-listed state k.valid number object true here live) (other-main unheld n o there named)))

  -- without all its items
  pub whole-on : is_named state number ≡ false → (chains : ℕ → List ℕ) → NamedObjectsLieOn state (doomed number state (Some object)) layout (layout_less layout (gone_nodes state layout (is_of_another object.key)) chains)
  whole-on unheld chains = unheld-on state number object here unheld layout (at_without layout (gone_nodes state layout (is_of_another object.key))) chains (owners_without layout (gone_nodes state layout (is_of_another object.key))) (λ n o there named.
      stays-at layout.at (gone_nodes state layout (is_of_another object.key)) (node_of_object layout n o)
      (off-items state layout unlinked image k n o there (is_of_another object.key) (λ alive. not-its-key n o there named alive unheld)))
    where
      not-its-key : (n : ℕ) (o : Object) → object_at state n ≡ Some o → is_named state n ≡ true → o.live ≡ true → is_named state number ≡ false → is_of_another object.key (main o.key) ≡ true
      not-its-key n o there named alive unheld = ⊎_elim
          (λ (e : bytes_eq object.key o.key ≡ true). absurd (other-main unheld n o there named alive (ap main (sym (same_bytes object.key o.key e)))))
          (λ (e : bytes_eq object.key o.key ≡ false). ap not e)
          (cases_Bool (bytes_eq object.key o.key))

  -- the object is doomed, and has no parts
  pub doomed-on : is_named state number ≡ true → (chains : ℕ → List ℕ) (owner : Claim → Option ℕ) → NamedObjectsLieOn state (doomed number state (Some object)) layout (placed_doomed layout number (layout.place (main object.key)) layout.at chains owner)
  doomed-on held chains owner = held-on state number object here live held layout layout.at chains owner (λ n o there named. refl)

  -- the object is doomed, and its parts are removed
  pub parts-on : is_named state number ≡ true → (chains : ℕ → List ℕ) → NamedObjectsLieOn state (doomed number state (Some object)) layout (layout_doomed_whole state layout number object.key chains)
  parts-on held chains = held-on state number object here live held layout (at_without layout (part_nodes state layout object.key)) chains (owners_without layout (part_nodes state layout object.key)) (λ n o there named.
      stays-at layout.at (part_nodes state layout object.key) (node_of_object layout n o)
      (off-items state layout unlinked image k n o there (is_no_part_of object.key) (λ alive. main-stays object.key o.key)))
    where
      main-stays : (key other : List ℕ) → is_no_part_of key (main other) ≡ true
      main-stays key other = go (bytes_eq key other) where
        go : (b : Bool) → (not b || b) ≡ true
        go true = refl
        go false = refl
