-- Which object a name is bound to.
use Rattle.std.proofs.Common.{◌≡◌, ◌≢◌, ⊎_elim, ℕ, zero, suc, ◌<◌, length, set, get_or, get_or-set_other, get_or-set_same, Bool, true, false, List, [], ◌∷◌, Option, Some, None, refl, sym, ap, subst, ◌∙◌}
use Rattle.std.specs.Prelude.{◌==◌, if◌then◌else◌, slice_index_or}
use Rattle.std.specs.List.{list_any}
use Rattle.std.proofs.lemmas.Bool.{cases_eq, eqb-true, or_cases, or_left, or_right}
use Rattle.blk_handles.proofs.Basics.{same-number}
use Rattle.spec_image.specs.Image.{Image}
use Rattle.spec_image.proofs.Runs.{some_inj}
use Rattle.blk_model.specs.Holding.{owner}
use Rattle.blk_model.specs.Items.{main}
use Rattle.blk_model.specs.State.{Object, State, is_number, object_at}
use Rattle.spec_format.specs.BlockFiles.{is_among}
use Rattle.spec_format.specs.Claims.{claims_of, has_claim}
use Rattle.spec_folder.specs.Layout.{IsDoomedAt, Layout, order, rule_of}
use Rattle.spec_folder.specs.Loads.{Loaded}
use Rattle.spec_folder.specs.View.{store_of}
use Rattle.law_folder.proofs.claims.ClaimLists.{contents-claims, some-claim}
use Rattle.law_folder.proofs.states.Changing.{same-place}
use Rattle.law_folder.proofs.states.Laid.{is_among-node}
use Rattle.law_folder.proofs.states.Settling.{main-listed, main-owned}
use Rattle.law_folder.proofs.walks.Loads.{load-then}
use Rattle.blk_handles.specs.Bindings.{Binding, Bindings, binding_of, is_open}
use Rattle.blk_handles.proofs.BindingLemmas.{open-bound, open-named}
use Rattle.law_state.specs.Keeping.{KeepsUncounted}
use Rattle.blk_object.specs.Writing.{node_of_object}
use Rattle.blk_cache.specs.CacheKeeping.{IsBoundAs, IsBoundTo}

clash : true ≡ false → ⊥
clash h = cc

-- a slot with a number
place-of : (slots : List (Option ℕ)) (number : ℕ) → list_any (is_number number) slots ≡ true → (name : ℕ) × (slice_index_or slots name None ≡ Some number)
place-of [] number e = absurd (let c : false ≡ true = e in cc)
place-of (None ∷ slots) number e = let r = place-of slots number e in (suc r.0, r.1)
place-of (Some other ∷ slots) number e = ⊎_elim
    (λ (h : (number == other) ≡ true). (0, ap Some (sym (eqb-true number other h))))
    (λ (h : list_any (is_number number) slots ≡ true). let r = place-of slots number h in (suc r.0, r.1))
    (or_cases (number == other) (list_any (is_number number) slots) e)

-- and what has one names it
pub named-at : (slots : List (Option ℕ)) (name number : ℕ) → slice_index_or slots name None ≡ Some number → list_any (is_number number) slots ≡ true
named-at [] name number e = absurd (let c : ◌≡◌ {A = Option ℕ} None (Some number) = e in cc)
named-at (x ∷ slots) zero number e = or_left (is_number number x) (list_any (is_number number) slots) (ap (is_number number) e ∙ same-number number)
named-at (x ∷ slots) (suc name) number e = or_right (is_number number x) (list_any (is_number number) slots) (named-at slots name number e)

-- where both answers are alike
both-ways : (a b : Bool) → (a ≡ true → b ≡ true) → (b ≡ true → a ≡ true) → a ≡ b
both-ways true b f g = sym (f refl)
both-ways false true f g = g refl
both-ways false false f g = refl

-- a slot that was freed is free
pub set-free : {A : Type 0} (xs : List (Option A)) (i : ℕ) → get_or (set xs i None) i None ≡ None
set-free [] i = refl
set-free (x ∷ xs) zero = refl
set-free (x ∷ xs) (suc i) = set-free xs i

module _ (state : State) (layout : Layout) (unlinked : List ℕ) (image : Image) (k : KeepsUncounted state layout unlinked image) where
  -- nodes with one record are one node
  one-node : (m n : ℕ) (a l : Loaded) → layout.at m ≡ Some a → layout.at n ≡ Some l → a.contents ≡ l.contents → m ≡ n
  one-node m n a l at-m at-n same =
      load-then {P = m ≡ n} (store_of image) (rule_of layout m) m a (k.represents.holds.shows.each m a at-m) (λ fields core facts.
      let some : a.contents ≡ 0 → ⊥ = λ zero. none ((store_of image).entry 0) k.represents.holds.shows.no_record (ap ((store_of image).entry) (sym zero ∙ facts.facts.contents_is) ∙ facts.entry) in
      let c = some-claim a.contents some in
      let own-m = k.represents.holds.lies.own m a c.0 at-m (contents-claims a c.0 c.1) in
      let own-n = k.represents.holds.lies.own n l c.0 at-n (contents-claims l c.0 (subst (λ (w : ℕ). has_claim (claims_of w) c.0 ≡ true) same c.1)) in
      some_inj (sym own-m ∙ own-n))
    where
      none : {A : Type 0} {x : A} (o : Option A) → o ≡ None → o ≡ Some x → ⊥
      none o e h = cc

  node-live : (n : ℕ) (o : Object) → o.live ≡ true → node_of_object layout n o ≡ layout.place (main o.key)
  node-live n o alive = ap (λ (b : Bool). if b then layout.place (main o.key) else layout.place_of_doomed n) alive

  node-dead : (n : ℕ) (o : Object) → o.live ≡ false → node_of_object layout n o ≡ layout.place_of_doomed n
  node-dead n o dead = ap (λ (b : Bool). if b then layout.place (main o.key) else layout.place_of_doomed n) dead

  -- the node of a live object is in the list, and that of a doomed one isn't
  apart : (m n : ℕ) (o p : Object) → object_at state m ≡ Some o → object_at state n ≡ Some p → o.live ≡ true → p.live ≡ false → layout.place (main o.key) ≡ layout.place_of_doomed n → ⊥
  apart m n o p at-m at-n alive dead same =
      let d : IsDoomedAt state layout n p = k.represents.holds.lies.doomed_objects n p at-n dead in
      clash (sym (is_among-node layout state.uses (main o.key) (main-listed state k.valid m o true at-m alive)) ∙ ap (is_among (order state layout)) same ∙ d.unlisted)

  -- objects with one node are one object
  pub one-object : (m n : ℕ) (o p : Object) → object_at state m ≡ Some o → object_at state n ≡ Some p → node_of_object layout m o ≡ node_of_object layout n p → m ≡ n
  one-object m n o p at-m at-n same = by o.live p.live refl refl where
    by : (a b : Bool) → o.live ≡ a → p.live ≡ b → m ≡ n
    by true true alive also =
        let keys = same-place state layout k.represents.holds.lies (main o.key) (main p.key) (main-listed state k.valid m o true at-m alive) (main-listed state k.valid n p true at-n also) (sym (node-live m o alive) ∙ same ∙ node-live n p also) in
        some_inj (sym (main-owned state k.valid m o true at-m alive) ∙ ap (owner state) keys ∙ main-owned state k.valid n p true at-n also)
    by true false alive dead = absurd (apart m n o p at-m at-n alive dead (sym (node-live m o alive) ∙ same ∙ node-dead n p dead))
    by false true dead alive = absurd (apart n m p o at-n at-m alive dead (sym (node-live n p alive) ∙ sym same ∙ node-dead m o dead))
    by false false dead also =
        let d : IsDoomedAt state layout n p = k.represents.holds.lies.doomed_objects n p at-n also in
        d.alone m o at-m dead (sym (node-dead m o dead) ∙ same ∙ node-dead n p also)

  -- bindings with one record are of one object
  pub same-bound : (m n : ℕ) (b d : Binding) → IsBoundTo state layout m b → IsBoundTo state layout n d → b.entry ≡ d.entry → m ≡ n
  same-bound m n b d of-m of-n same =
      one-object m n of-m.object of-n.object of-m.here of-n.here (one-node (node_of_object layout m of-m.object) (node_of_object layout n of-n.object) of-m.loaded of-n.loaded of-m.at of-n.at (sym of-m.entry ∙ same ∙ of-n.entry))

  -- and those of one object have one record
  pub same-entry : (n : ℕ) (b d : Binding) → IsBoundTo state layout n b → IsBoundTo state layout n d → b.entry ≡ d.entry
  same-entry n b d one two =
      let objects : one.object ≡ two.object = some_inj (sym one.here ∙ two.here) in
      let loads : one.loaded ≡ two.loaded = some_inj (sym one.at ∙ ap (λ (o : Object). layout.at (node_of_object layout n o)) objects ∙ two.at) in
      one.entry ∙ ap (λ (l : Loaded). l.contents) loads ∙ sym two.entry

  -- names that are bound as some slots name
  abbrev pub AreBound : List (Option ℕ) → Bindings → Type 0
  AreBound names bindings = (name : ℕ) → IsBoundAs state layout (slice_index_or names name None) (binding_of bindings name)

  module _ (names : List (Option ℕ)) (bindings : Bindings) (bound : AreBound names bindings) where
    pub number-of : (name : ℕ) (b : Binding) → binding_of bindings name ≡ Some b → (number : ℕ) × (slice_index_or names name None ≡ Some number) × IsBoundTo state layout number b
    number-of name b e = by (slice_index_or names name None) refl (subst (λ (o : Option Binding). IsBoundAs state layout (slice_index_or names name None) o) e (bound name)) where
      by : (o : Option ℕ) → slice_index_or names name None ≡ o → IsBoundAs state layout o (Some b) → (number : ℕ) × (slice_index_or names name None ≡ Some number) × IsBoundTo state layout number b
      by None is h = absurd h
      by (Some number) is h = (number, is, h)

    pub bound-of : (name number : ℕ) → slice_index_or names name None ≡ Some number → (b : Binding) × (binding_of bindings name ≡ Some b) × IsBoundTo state layout number b
    bound-of name number e = by (binding_of bindings name) refl (subst (λ (o : Option ℕ). IsBoundAs state layout o (binding_of bindings name)) e (bound name)) where
      by : (o : Option Binding) → binding_of bindings name ≡ o → IsBoundAs state layout (Some number) o → (b : Binding) × (binding_of bindings name ≡ Some b) × IsBoundTo state layout number b
      by None is h = absurd h
      by (Some b) is h = (b, is, h)

    pub free-of : (name : ℕ) → binding_of bindings name ≡ None → slice_index_or names name None ≡ None
    free-of name e = by (slice_index_or names name None) (subst (λ (o : Option Binding). IsBoundAs state layout (slice_index_or names name None) o) e (bound name)) where
      by : (o : Option ℕ) → IsBoundAs state layout o None → o ≡ None
      by None h = refl
      by (Some number) h = absurd h

    -- an object is open exactly where it is named
    pub open-is-named : (number : ℕ) (b : Binding) → IsBoundTo state layout number b → is_open bindings b.entry ≡ list_any (is_number number) names
    open-is-named number b is = both-ways (is_open bindings b.entry) (list_any (is_number number) names)
        (λ open_.
        let n = open-named bindings b.entry open_ in
        let m = number-of n.0 n.1 n.2 in
        let same : m.0 ≡ number = same-bound m.0 number n.1 b m.2 is (sym n.3) in
        ap (λ (x : ℕ). list_any (is_number x) names) (sym same) ∙ named-at names n.0 m.0 m.1)
        (λ named.
        let p = place-of names number named in
        let b2 = bound-of p.0 number p.1 in
        ap (is_open bindings) (same-entry number b b2.0 is b2.2) ∙ open-bound bindings p.0 b2.0 b2.1)

    bound-else : (handle : ℕ) (x : Option ℕ) (y : Option Binding) (name : ℕ) → name ≢ handle → IsBoundAs state layout (slice_index_or (set names handle x) name None) (binding_of (set bindings handle y) name)
    bound-else handle x y name other =
        subst (λ (o : Option ℕ). IsBoundAs state layout o (binding_of (set bindings handle y) name)) (sym (get_or-set_other names handle name x None other))
        (subst (λ (o : Option Binding). IsBoundAs state layout (slice_index_or names name None) o) (sym (get_or-set_other bindings handle name y None other)) (bound name))

    -- one name more, and one less
    pub bound-more : (handle number : ℕ) (b : Binding) → IsBoundTo state layout number b → handle < length names → handle < length bindings → AreBound (set names handle (Some number)) (set bindings handle (Some b))
    bound-more handle number b is within also name = ⊎_elim
        (λ (e : name ≡ handle).
        subst (λ (n : ℕ). IsBoundAs state layout (slice_index_or (set names handle (Some number)) n None) (binding_of (set bindings handle (Some b)) n)) (sym e)
        (subst (λ (o : Option ℕ). IsBoundAs state layout o (binding_of (set bindings handle (Some b)) handle)) (sym (get_or-set_same names handle (Some number) None within))
        (subst (λ (o : Option Binding). IsBoundAs state layout (Some number) o) (sym (get_or-set_same bindings handle (Some b) None also)) is)))
        (λ (e : name ≢ handle). bound-else handle (Some number) (Some b) name e)
        (cases_eq name handle)

    pub bound-less : (handle : ℕ) → AreBound (set names handle None) (set bindings handle None)
    bound-less handle name = ⊎_elim
        (λ (e : name ≡ handle).
        subst (λ (n : ℕ). IsBoundAs state layout (slice_index_or (set names handle None) n None) (binding_of (set bindings handle None) n)) (sym e)
        (subst (λ (o : Option ℕ). IsBoundAs state layout o (binding_of (set bindings handle None) handle)) (sym (set-free names handle))
        (subst (λ (o : Option Binding). IsBoundAs state layout None o) (sym (set-free bindings handle)) tt)))
        (λ (e : name ≢ handle). bound-else handle None None name e)
        (cases_eq name handle)
