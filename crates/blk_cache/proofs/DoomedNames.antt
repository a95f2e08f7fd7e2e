-- What the names of a state name once an object is doomed, and what they are bound to.
use Rattle.std.proofs.Common.{◌≡◌, ◌≢◌, ⊎_elim, ℕ, zero, suc, ◌+◌, ◌<◌, Bool, true, false, not, List, [], ◌∷◌, length, set, get_or, get_or-set_other, get_or-set_same, Option, Some, None, refl, sym, ap, ap₂, subst, ◌∙◌, arith}
use Rattle.std.specs.Prelude.{◌==◌, if◌then◌else◌, sum_by}
use Rattle.std.specs.Option.{option_map}
use Rattle.std.proofs.lemmas.Bool.{cases_Bool, cases_eq, eqb-true}
use Rattle.std.proofs.lemmas.List.Sums.{sum_by-cons}
use Rattle.spec_image.specs.Image.{Image}
use Rattle.spec_image.proofs.Runs.{some_inj}
use Rattle.blk_model.specs.Effects.{doomed, doomed_slot}
use Rattle.blk_model.specs.Room.{own_charge}
use Rattle.blk_model.specs.State.{Object, State, is_named, named_by, object_at}
use Rattle.blk_model.proofs.Each.{some_within}
use Rattle.spec_folder.specs.Layout.{Layout}
use Rattle.spec_folder.specs.Loads.{Loaded}
use Rattle.blk_handles.specs.Bindings.{Binding, Bindings, binding_of, distinct_count, entries_of, open_count, with_change, with_doom}
use Rattle.blk_handles.proofs.Basics.{same-number}
use Rattle.blk_handles.proofs.BindingLemmas.{binding_of-change}
use Rattle.law_state.specs.Keeping.{KeepsUncounted}
use Rattle.blk_object.specs.Writing.{node_of_object}
use Rattle.blk_cache.specs.CacheKeeping.{IsBoundAs, IsBoundTo, named_from, named_objects}
use Rattle.blk_cache.specs.DoomingObjects.{NamedObjectsLieOn}
use Rattle.blk_cache.proofs.BoundObjects.{named-at, same-bound}
use Rattle.blk_cache.proofs.NamedObjects.{named-same, named-set}

-- ---- open objects

-- what names are bound to has the records that it had
entries-same : (entry : ℕ) (bindings : Bindings) → entries_of (with_change with_doom entry bindings) ≡ entries_of bindings
entries-same entry [] = refl
entries-same entry (None ∷ bindings) = ap (λ (es : List (Option ℕ)). None ∷ es) (entries-same entry bindings)
entries-same entry (Some b ∷ bindings) = ap₂ (λ (e : ℕ) (es : List (Option ℕ)). Some e ∷ es) (go (entry == b.entry)) (entries-same entry bindings) where
  go : (t : Bool) → (let c : Binding = if t then with_doom b else b in c.entry) ≡ b.entry
  go true = refl
  go false = refl

-- so as many objects are open
pub open-same : (entry : ℕ) (bindings : Bindings) → open_count (with_change with_doom entry bindings) ≡ open_count bindings
open-same entry bindings = ap distinct_count (entries-same entry bindings)

-- ---- named objects

-- as many objects, with the same sum of costs
abbrev pub CountTheSame : List Object → List Object → Type 0
CountTheSame objects others = (length objects ≡ length others) × (sum_by own_charge objects ≡ sum_by own_charge others)

same-in-front : (object other : Object) (b : Bool) (objects others : List Object) → own_charge object ≡ own_charge other → CountTheSame objects others → CountTheSame (if b then object ∷ objects else objects) (if b then other ∷ others else others)
same-in-front object other false objects others own same = same
same-in-front object other true objects others own same = (
  ap suc same.0,
  sum_by-cons own_charge object objects ∙ ap₂ (λ (m n : ℕ). m + n) own same.1 ∙ sym (sum_by-cons own_charge other others),
)

-- where an object of slots becomes another with the same cost
named-becomes : (s : State) (object other : Object) → own_charge other ≡ own_charge object → (base i : ℕ) (slots : List (Option Object)) → get_or slots i None ≡ Some object → CountTheSame (named_from s base (set slots i (Some other))) (named_from s base slots)
named-becomes s object other own base i [] here = absurd (let c : ◌≡◌ {A = Option Object} None (Some object) = here in cc)
named-becomes s object other own base zero (None ∷ slots) here = absurd (let c : ◌≡◌ {A = Option Object} None (Some object) = here in cc)
named-becomes s object other own base zero (Some o ∷ slots) here =
    same-in-front other o (is_named s base) (named_from s (base + 1) slots) (named_from s (base + 1) slots) (own ∙ sym (ap own_charge (some_inj here))) (refl, refl)
named-becomes s object other own base (suc i) (None ∷ slots) here = named-becomes s object other own (base + 1) i slots here
named-becomes s object other own base (suc i) (Some o ∷ slots) here =
    same-in-front o o (is_named s base) (named_from s (base + 1) (set slots i (Some other))) (named_from s (base + 1) slots) refl (named-becomes s object other own (base + 1) i slots here)

module _ (state : State) (number : ℕ) (object : Object) (here : object_at state number ≡ Some object) where
  abbrev after : State
  after = doomed number state (Some object)

  -- the object as it is doomed, where a handle names it
  abbrev dead : Object
  dead = record object { live = false; parts = [] }

  after-objects : after.objects ≡ set state.objects number (doomed_slot (is_named state number) object)
  unfolding doomed
  after-objects = refl

  names-same : (n : ℕ) → is_named after n ≡ is_named state n
  unfolding doomed
  names-same n = refl

  pub after-names : (name : ℕ) → named_by state name ≡ named_by after name
  unfolding doomed
  after-names name = refl

  -- as many objects are named, with the same sum of costs
  pub named-after : CountTheSame (named_objects after) (named_objects state)
  named-after = subst (λ (slots : List (Option Object)). CountTheSame (named_from after 0 slots) (named_objects state)) (sym after-objects)
      (subst (λ (os : List Object). CountTheSame os (named_objects state)) (sym (named-same state after names-same 0 (set state.objects number (doomed_slot (is_named state number) object)))) (go (is_named state number) refl))
    where
      go : (b : Bool) → is_named state number ≡ b → CountTheSame (named_from state 0 (set state.objects number (doomed_slot b object))) (named_objects state)
      go true e = named-becomes state object dead refl 0 number state.objects here
      go false e = subst (λ (os : List Object). CountTheSame os (named_objects state)) (sym (named-set state number e 0 number (omega arith) state.objects None)) (refl, refl)

  at-number : is_named state number ≡ true → object_at after number ≡ Some dead
  at-number held =
      let within : number < length state.objects = some_within state.objects number object here in
      ap (λ (slots : List (Option Object)). get_or slots number None) after-objects
      ∙ get_or-set_same state.objects number (doomed_slot (is_named state number) object) None within
      ∙ ap (λ (b : Bool). doomed_slot b object) held

  at-other : (n : ℕ) → n ≢ number → object_at after n ≡ object_at state n
  at-other n other = ap (λ (slots : List (Option Object)). get_or slots n None) after-objects ∙ get_or-set_other state.objects number n (doomed_slot (is_named state number) object) None other

  -- ---- what the names are bound to

  module _ (live : object.live ≡ true) (layout : Layout) (unlinked : List ℕ) (image : Image) (k : KeepsUncounted state layout unlinked image) (loaded : Loaded) (at : layout.at (node_of_object layout number object) ≡ Some loaded) (left : Layout) (stay : NamedObjectsLieOn state after layout left) where
    -- what a name of it would be bound to
    abbrev binding : Binding
    binding = record { entry = loaded.contents; node = node_of_object layout number object; doomed = not object.live; dirty = not object.settled }

    bound : IsBoundTo state layout number binding
    bound = record { object = object; here = here; loaded = loaded; at = at; node = refl; entry = refl; doomed = refl; dirty = refl }

    abbrev changed : Binding → Binding
    changed b = if loaded.contents == b.entry then with_doom b else b

    its-names : (b : Binding) → IsBoundTo state layout number b → is_named state number ≡ true → IsBoundTo after left number (changed b)
    its-names b is held =
        let objects : is.object ≡ object = some_inj (sym is.here ∙ here) in
        let loads : is.loaded ≡ loaded = some_inj (sym is.at ∙ ap (λ (o : Object). layout.at (node_of_object layout number o)) objects ∙ at) in
        let entry : loaded.contents ≡ b.entry = sym (is.entry ∙ ap (λ (l : Loaded). l.contents) loads) in
        let lies = stay number object dead here held (at-number held) in
        let now : IsBoundTo after left number (with_doom b) = record {
          object = dead;
          here = at-number held;
          loaded = loaded;
          at = ap left.at lies.0 ∙ lies.1 ∙ at;
          node = is.node ∙ ap (node_of_object layout number) objects ∙ sym lies.0;
          entry = sym entry;
          doomed = refl;
          dirty = is.dirty ∙ ap (λ (o : Object). not o.settled) objects;
        } in
        subst (IsBoundTo after left number) (sym (ap (λ (t : Bool). if t then with_doom b else b) (ap (λ (w : ℕ). loaded.contents == w) (sym entry) ∙ same-number loaded.contents))) now

    other-names : (n : ℕ) (b : Binding) → n ≢ number → IsBoundTo state layout n b → is_named state n ≡ true → IsBoundTo after left n (changed b)
    other-names n b other is named =
        let there : object_at after n ≡ Some is.object = at-other n other ∙ is.here in
        let lies = stay n is.object is.object is.here named there in
        let now : IsBoundTo after left n b = record {
          object = is.object;
          here = there;
          loaded = is.loaded;
          at = ap left.at lies.0 ∙ lies.1 ∙ is.at;
          node = is.node ∙ sym lies.0;
          entry = is.entry;
          doomed = is.doomed;
          dirty = is.dirty;
        } in
        ⊎_elim
        (λ (e : (loaded.contents == b.entry) ≡ true). absurd (other (same-bound state layout unlinked image k n number b binding is bound (sym (eqb-true loaded.contents b.entry e)))))
        (λ (e : (loaded.contents == b.entry) ≡ false). subst (IsBoundTo after left n) (sym (ap (λ (t : Bool). if t then with_doom b else b) e)) now)
        (cases_Bool (loaded.contents == b.entry))

    name-after : (name : ℕ) (o : Option ℕ) (d : Option Binding) → named_by state name ≡ o → IsBoundAs state layout o d → IsBoundAs after left o (option_map changed d)
    name-after name None None e is = tt
    name-after name None (Some b) e is = is
    name-after name (Some n) None e is = is
    name-after name (Some n) (Some b) e is =
        let named : is_named state n ≡ true = named-at state.names name n e in
        ⊎_elim
        (λ (same : n ≡ number). subst (λ (m : ℕ). IsBoundTo after left m (changed b)) (sym same)
        (its-names b (subst (λ (m : ℕ). IsBoundTo state layout m b) same is) (ap (is_named state) (sym same) ∙ named)))
        (λ (other : n ≢ number). other-names n b other is named)
        (cases_eq n number)

    -- each name is bound as the state with the object doomed names
    pub bound-after : (bindings : Bindings) (name : ℕ) → IsBoundAs state layout (named_by state name) (binding_of bindings name) → IsBoundAs after left (named_by after name) (binding_of (with_change with_doom loaded.contents bindings) name)
    bound-after bindings name is =
        subst (λ (o : Option ℕ). IsBoundAs after left o (binding_of (with_change with_doom loaded.contents bindings) name)) (after-names name)
        (subst (λ (d : Option Binding). IsBoundAs after left (named_by state name) d) (sym (binding_of-change with_doom loaded.contents bindings name))
        (name-after name (named_by state name) (binding_of bindings name) refl is))
