-- The record of a listed item is open exactly where the item is pinned.
use Rattle.std.proofs.Common.{◌≡◌, ⊎_elim, ℕ, zero, suc, Bool, true, false, List, [], ◌∷◌, Option, Some, None, refl, sym, ap, subst, ◌∙◌}
use Rattle.std.specs.Prelude.{◌==◌, if◌then◌else◌, slice_index_or}
use Rattle.std.specs.List.{list_any}
use Rattle.std.specs.Option.{option_map_or}
use Rattle.std.specs.Str.{bytes_eq}
use Rattle.std.proofs.lemmas.Bool.{and_parts, eqb-true, or_cases, or_left, or_right}
use Rattle.blk_handles.proofs.Basics.{same-number}
use Rattle.spec_image.specs.Image.{Image}
use Rattle.spec_image.proofs.Runs.{some_inj}
use Rattle.blk_model.specs.Items.{Item, main, part}
use Rattle.blk_model.specs.Room.{is_pinned}
use Rattle.blk_model.specs.State.{Object, State, is_named, is_number, live_with}
use Rattle.spec_format.specs.BlockFiles.{is_among}
use Rattle.spec_format.specs.Claims.{claims_of, has_claim}
use Rattle.spec_folder.specs.Layout.{IsDoomedAt, Layout, is_listed, order, rule_of}
use Rattle.spec_folder.specs.Loads.{Loaded}
use Rattle.spec_folder.specs.View.{store_of}
use Rattle.law_folder.proofs.claims.ClaimLists.{contents-claims, some-claim}
use Rattle.law_folder.proofs.claims.Owner.{IsOwned, its-key, owned}
use Rattle.law_folder.proofs.states.Changing.{same-place}
use Rattle.law_folder.proofs.states.Laid.{is_among-node}
use Rattle.law_folder.proofs.states.Settling.{main-listed, main-owned}
use Rattle.law_folder.proofs.walks.Loads.{load-then}
use Rattle.blk_handles.specs.Bindings.{Binding, Bindings, binding_of, is_open}
use Rattle.blk_handles.proofs.BindingLemmas.{open-bound, open-named}
use Rattle.law_state.specs.Keeping.{KeepsUncounted}
use Rattle.blk_object.specs.Writing.{node_of_object}
use Rattle.blk_cache.specs.CacheKeeping.{IsBoundAs, IsBoundTo}

clash : true ≡ false → ⊥
clash h = cc

-- a slot with a number
slot-with : (slots : List (Option ℕ)) (number : ℕ) → list_any (is_number number) slots ≡ true → (name : ℕ) × (slice_index_or slots name None ≡ Some number)
slot-with [] number e = absurd (let c : false ≡ true = e in cc)
slot-with (None ∷ slots) number e = let r = slot-with slots number e in (suc r.0, r.1)
slot-with (Some other ∷ slots) number e = ⊎_elim
    (λ (h : (number == other) ≡ true). (0, ap Some (sym (eqb-true number other h))))
    (λ (h : list_any (is_number number) slots ≡ true). let r = slot-with slots number h in (suc r.0, r.1))
    (or_cases (number == other) (list_any (is_number number) slots) e)

-- and a slot that has it
pub has-slot : (slots : List (Option ℕ)) (name number : ℕ) → slice_index_or slots name None ≡ Some number → list_any (is_number number) slots ≡ true
has-slot [] name number e = absurd (let c : ◌≡◌ {A = Option ℕ} None (Some number) = e in cc)
has-slot (x ∷ slots) zero number e = or_left (is_number number x) (list_any (is_number number) slots) (ap (is_number number) e ∙ same-number number)
has-slot (x ∷ slots) (suc name) number e = or_right (is_number number x) (list_any (is_number number) slots) (has-slot slots name number e)

both-ways : (a b : Bool) → (a ≡ true → b ≡ true) → (b ≡ true → a ≡ true) → a ≡ b
both-ways true b f g = sym (f refl)
both-ways false true f g = g refl
both-ways false false f g = refl

-- a key is pinned by the name of its number
found-named : (state : State) (o : Option ℕ) → option_map_or (is_named state) o false ≡ true → (number : ℕ) × (o ≡ Some number) × (is_named state number ≡ true)
found-named state None e = absurd (clash (sym e))
found-named state (Some number) e = (number, refl, e)

module _ (state : State) (layout : Layout) (unlinked : List ℕ) (image : Image) (k : KeepsUncounted state layout unlinked image) (bindings : Bindings) (bound : (name : ℕ) → IsBoundAs state layout (slice_index_or state.names name None) (binding_of bindings name)) where
  -- nodes with one record are one node
  one-node : (m n : ℕ) (a l : Loaded) → layout.at m ≡ Some a → layout.at n ≡ Some l → a.contents ≡ l.contents → m ≡ n
  one-node m n a l at-m at-n same =
      load-then {P = m ≡ n} (store_of image) (rule_of layout m) m a (k.represents.holds.shows.each m a at-m) (λ fields core facts.
      let some : a.contents ≡ 0 → ⊥ = λ zero. none ((store_of image).entry 0) k.represents.holds.shows.no_record (ap ((store_of image).entry) (sym zero ∙ facts.facts.contents_is) ∙ facts.entry) in
      let c = some-claim a.contents some in
      let own-m = k.represents.holds.lies.own m a c.0 at-m (contents-claims a c.0 c.1) in
      let own-n = k.represents.holds.lies.own n l c.0 at-n (contents-claims l c.0 (subst (λ (w : ℕ). has_claim (claims_of w) c.0 ≡ true) same c.1)) in
      some_inj (sym own-m ∙ own-n))
    where
      none : {A : Type 0} {x : A} (o : Option A) → o ≡ None → o ≡ Some x → ⊥
      none o e h = cc

  number-of : (name : ℕ) (b : Binding) → binding_of bindings name ≡ Some b → (number : ℕ) × (slice_index_or state.names name None ≡ Some number) × IsBoundTo state layout number b
  number-of name b e = by (slice_index_or state.names name None) refl (subst (λ (o : Option Binding). IsBoundAs state layout (slice_index_or state.names name None) o) e (bound name)) where
    by : (o : Option ℕ) → slice_index_or state.names name None ≡ o → IsBoundAs state layout o (Some b) → (number : ℕ) × (slice_index_or state.names name None ≡ Some number) × IsBoundTo state layout number b
    by None is h = absurd h
    by (Some number) is h = (number, is, h)

  bound-of : (name number : ℕ) → slice_index_or state.names name None ≡ Some number → (b : Binding) × (binding_of bindings name ≡ Some b) × IsBoundTo state layout number b
  bound-of name number e = by (binding_of bindings name) refl (subst (λ (o : Option ℕ). IsBoundAs state layout o (binding_of bindings name)) e (bound name)) where
    by : (o : Option Binding) → binding_of bindings name ≡ o → IsBoundAs state layout (Some number) o → (b : Binding) × (binding_of bindings name ≡ Some b) × IsBoundTo state layout number b
    by None is h = absurd h
    by (Some b) is h = (b, is, h)

  module _ (item : Item) (loaded : Loaded) (listed : is_listed state item ≡ true) (here : layout.at (layout.place item) ≡ Some loaded) where
    -- what is bound to its record is a live object whose main item it is
    pins : (number : ℕ) (b : Binding) → IsBoundTo state layout number b → b.entry ≡ loaded.contents → is_named state number ≡ true → is_pinned state [] item ≡ true
    pins number b is entry named = by is.object.live refl where
      node : node_of_object layout number is.object ≡ layout.place item
      node = one-node (node_of_object layout number is.object) (layout.place item) is.loaded loaded is.at here (sym is.entry ∙ entry)

      by : (l : Bool) → is.object.live ≡ l → is_pinned state [] item ≡ true
      by true alive =
          let at : layout.place (main is.object.key) ≡ layout.place item = sym (ap (λ (b : Bool). if b then layout.place (main is.object.key) else layout.place_of_doomed number) alive) ∙ node in
          let same : main is.object.key ≡ item = same-place state layout k.represents.holds.lies (main is.object.key) item (main-listed state k.valid number is.object true is.here alive) listed at in
          let owner-is : live_with state is.object.key ≡ Some number = main-owned state k.valid number is.object true is.here alive in
          subst (λ (i : Item). is_pinned state [] i ≡ true) same (ap (λ (o : Option ℕ). option_map_or (is_named state) o false) owner-is ∙ named)
      by false dead =
          let d : IsDoomedAt state layout number is.object = k.represents.holds.lies.doomed_objects number is.object is.here dead in
          let at : layout.place_of_doomed number ≡ layout.place item = sym (ap (λ (b : Bool). if b then layout.place (main is.object.key) else layout.place_of_doomed number) dead) ∙ node in
          absurd (clash (sym (is_among-node layout state.uses item listed) ∙ ap (is_among (order state layout)) (sym at) ∙ d.unlisted))

    open-pins : is_open bindings loaded.contents ≡ true → is_pinned state [] item ≡ true
    open-pins open_ =
        let n = open-named bindings loaded.contents open_ in
        let m = number-of n.0 n.1 n.2 in
        pins m.0 n.1 m.2 (sym n.3) (has-slot state.names n.0 m.0 m.1)

  -- and a pinned main item's record is open
  pin-opens : (item : Item) (loaded : Loaded) → layout.at (layout.place item) ≡ Some loaded → is_pinned state [] item ≡ true → is_open bindings loaded.contents ≡ true
  pin-opens (part key n) loaded here pinned = absurd (clash (sym pinned))
  pin-opens (main key) loaded here pinned =
      let f = found-named state (live_with state key) pinned in
      let o : IsOwned state (main key) f.0 = owned state (main key) f.0 f.1 in
      let p = slot-with state.names f.0 f.2 in
      let b = bound-of p.0 f.0 p.1 in
      let object : b.2.object ≡ o.object = some_inj (sym b.2.here ∙ o.here) in
      let alive : b.2.object.live ≡ true = ap (λ (z : Object). z.live) object ∙ (and_parts o.object.live (bytes_eq key o.object.key) o.has).0 in
      let key-is : b.2.object.key ≡ key = ap (λ (z : Object). z.key) object ∙ sym (its-key o.object (main key) o.has) in
      let node : node_of_object layout f.0 b.2.object ≡ layout.place (main key) = ap (λ (c : Bool). if c then layout.place (main b.2.object.key) else layout.place_of_doomed f.0) alive ∙ ap (λ (z : List ℕ). layout.place (main z)) key-is in
      let loads : b.2.loaded ≡ loaded = some_inj (sym b.2.at ∙ ap layout.at node ∙ here) in
      subst (λ (w : ℕ). is_open bindings w ≡ true) (b.2.entry ∙ ap (λ (l : Loaded). l.contents) loads) (open-bound bindings p.0 b.0 b.1)

  pub record-pinned : (item : Item) (loaded : Loaded) → is_listed state item ≡ true → layout.at (layout.place item) ≡ Some loaded → is_open bindings loaded.contents ≡ is_pinned state [] item
  record-pinned item loaded listed here = both-ways (is_open bindings loaded.contents) (is_pinned state [] item) (open-pins item loaded listed here) (pin-opens item loaded here)
