-- What a cache keeps once an object that a handle names has become another one, with the same key, where it lies.
use Rattle.std.proofs.Common.{◌≡◌, ◌≢◌, ⊎_elim, ℕ, zero, suc, ◌+◌, Bool, true, false, not, List, [], ◌∷◌, length, set, get_or, Option, Some, None, refl, sym, ap, ap₂, subst, ◌∙◌, arith}
use Rattle.std.specs.Prelude.{◌==◌, if◌then◌else◌, sum_by}
use Rattle.std.specs.Option.{option_map}
use Rattle.std.proofs.lemmas.Bool.{cases_eq, eq-eqb, eqb-true}
use Rattle.std.proofs.lemmas.List.Sums.{sum_by-cons}
use Rattle.spec_image.specs.Image.{Image, Index, byte}
use Rattle.spec_image.proofs.Runs.{some_inj}
use Rattle.blk_model.specs.Bounds.{bounds_of}
use Rattle.blk_model.specs.Items.{Item, main}
use Rattle.blk_model.specs.Room.{charge, item_count, items, of_slot, own_charge, total}
use Rattle.blk_model.specs.State.{Object, State, is_named, named_by, object_at}
use Rattle.spec_format.specs.Headers.{this_id_of}
use Rattle.spec_folder.specs.Layout.{Layout}
use Rattle.spec_folder.specs.Loads.{Loaded}
use Rattle.blk_disk.specs.Tables.{Agrees}
use Rattle.blk_handles.specs.Bindings.{Binding, Bindings, binding_of, entries_of, open_count, with_change}
use Rattle.blk_handles.proofs.BindingLemmas.{binding_of-change}
use Rattle.law_state.specs.CommandStates.{amidst}
use Rattle.law_state.specs.Keeping.{Keeps, KeepsUncounted}
use Rattle.law_state.specs.OneCallLaws.{Names}
use Rattle.law_state.proofs.Dirtying.{set-at, set-else}
use Rattle.blk_object.specs.Writing.{node_of_object}
use Rattle.blk_cache.specs.declared.cache.Cache.{Cache}
use Rattle.blk_cache.specs.CacheKeeping.{IsBoundAs, IsBoundTo, HoldsState, named_from, named_objects}
use Rattle.blk_cache.proofs.BoundObjects.{named-at, one-object, same-bound, same-entry}
use Rattle.blk_cache.proofs.NamedObjects.{named-same}

-- ---- sums

-- what is counted of slots, where one has become another
pub sum-changed : (f : Object → ℕ) (xs : List (Option Object)) (i : ℕ) (o p : Object) → get_or xs i None ≡ Some o → sum_by (of_slot f) (set xs i (Some p)) + f o ≡ sum_by (of_slot f) xs + f p
sum-changed f [] i o p here = absurd (let c : ◌≡◌ {A = Option Object} None (Some o) = here in cc)
sum-changed f (y ∷ xs) zero o p here =
    let now = sum_by-cons (of_slot f) (Some p) xs in
    let was = sum_by-cons (of_slot f) y xs in
    let own : of_slot f y ≡ f o = ap (of_slot f) here in
    omega (arith, now, was, own)
sum-changed f (y ∷ xs) (suc i) o p here =
    let more = sum-changed f xs i o p here in
    let now = sum_by-cons (of_slot f) y (set xs i (Some p)) in
    let was = sum_by-cons (of_slot f) y xs in
    omega (arith, more, now, was)

-- as many objects are named, and one of them has another cost
pub record IsOneChanged (o p : Object) (old new : List Object) : Type 0 where
  pub count : length new ≡ length old
  pub charged : sum_by own_charge new + own_charge o ≡ sum_by own_charge old + own_charge p

one-first : (o p : Object) (more : List Object) → IsOneChanged o p (o ∷ more) (p ∷ more)
one-first o p more = let a = sum_by-cons own_charge o more in let b = sum_by-cons own_charge p more in record { count = refl; charged = omega (arith, a, b) }

one-later : (o p x : Object) (b : Bool) (old new : List Object) → IsOneChanged o p old new → IsOneChanged o p (if b then x ∷ old else old) (if b then x ∷ new else new)
one-later o p x false old new one = one
one-later o p x true old new one =
    let a = sum_by-cons own_charge x old in
    let b = sum_by-cons own_charge x new in
    let c = one.charged in
    let d = one.count in record { count = omega (arith, d); charged = omega (arith, a, b, c) }

pub named-changed : (t : State) (number : ℕ) (o p : Object) → is_named t number ≡ true → (base i : ℕ) → base + i ≡ number → (slots : List (Option Object)) → get_or slots i None ≡ Some o → IsOneChanged o p (named_from t base slots) (named_from t base (set slots i (Some p)))
named-changed t number o p named base i e [] here = absurd (let c : ◌≡◌ {A = Option Object} None (Some o) = here in cc)
named-changed t number o p named base zero e (None ∷ slots) here = absurd (let c : ◌≡◌ {A = Option Object} None (Some o) = here in cc)
named-changed t number o p named base zero e (Some x ∷ slots) here =
    let is : x ≡ o = some_inj here in
    let on : is_named t base ≡ true = ap (is_named t) (let at : base ≡ number = omega (arith, e) in at) ∙ named in
    let old : named_from t base (Some x ∷ slots) ≡ o ∷ named_from t (base + 1) slots = ap (λ (b : Bool). if b then x ∷ named_from t (base + 1) slots else named_from t (base + 1) slots) on ∙ ap (λ (z : Object). z ∷ named_from t (base + 1) slots) is in
    let new : named_from t base (Some p ∷ slots) ≡ p ∷ named_from t (base + 1) slots = ap (λ (b : Bool). if b then p ∷ named_from t (base + 1) slots else named_from t (base + 1) slots) on in
    subst (λ (l : List Object). IsOneChanged o p l (named_from t base (Some p ∷ slots))) (sym old) (subst (IsOneChanged o p (o ∷ named_from t (base + 1) slots)) (sym new) (one-first o p (named_from t (base + 1) slots)))
named-changed t number o p named base (suc i) e (None ∷ slots) here = named-changed t number o p named (base + 1) i (omega (arith, e)) slots here
named-changed t number o p named base (suc i) e (Some x ∷ slots) here =
    one-later o p x (is_named t base) (named_from t (base + 1) slots) (named_from t (base + 1) (set slots i (Some p))) (named-changed t number o p named (base + 1) i (omega (arith, e)) slots here)

-- a change of flags leaves which objects are open
pub entries-same : (change : Binding → Binding) → ((b : Binding) → (change b).entry ≡ b.entry) → (entry : ℕ) (bindings : Bindings) → entries_of (with_change change entry bindings) ≡ entries_of bindings
entries-same change same entry [] = refl
entries-same change same entry (None ∷ bindings) = ap (λ (l : List (Option ℕ)). None ∷ l) (entries-same change same entry bindings)
entries-same change same entry (Some b ∷ bindings) = ap₂ (λ (n : ℕ) (l : List (Option ℕ)). Some n ∷ l) (by (entry == b.entry)) (entries-same change same entry bindings) where
  by : (t : Bool) → (if t then change b else b).entry ≡ b.entry
  by true = same b
  by false = refl

-- ---- the object of a handle

module _ (cache : Cache) (state : State) (from : Image) (k : HoldsState cache state from) (handle number : ℕ) (object : Object) (names : Names state handle number object) where
  -- it is what the handle is bound to
  pub bound-to : (b : Binding) → binding_of cache.handles handle ≡ Some b → IsBoundTo state k.layout number b
  bound-to b bound = subst (λ (o : Option Binding). IsBoundAs state k.layout (Some number) o) bound (subst (λ (o : Option ℕ). IsBoundAs state k.layout o (binding_of cache.handles handle)) names.names (k.names handle))

  pub its-object : (b : Binding) (is : IsBoundTo state k.layout number b) → is.object ≡ object
  its-object b is = some_inj (sym is.here ∙ names.here)

  pub its-named : is_named state number ≡ true
  its-named = named-at state.names handle number names.names

-- ---- what it has become

-- at its node there is something else with the same record, and all else is as before
pub record LiesChanged (layout there : Layout) (node : ℕ) (was now : Loaded) : Type 0 where
  pub place : there.place ≡ layout.place
  pub place_of_doomed : there.place_of_doomed ≡ layout.place_of_doomed
  pub at_node : there.at node ≡ Some now
  pub elsewhere : (w : ℕ) → (node == w) ≡ false → there.at w ≡ layout.at w
  pub contents : now.contents ≡ was.contents

-- the cache counts it so
pub record CountsAs (old new : Cache) (o p : Object) : Type 0 where
  pub items : new.items ≡ old.items
  pub bytes : new.bytes + charge o ≡ old.bytes + charge p
  pub open_bytes : new.open_bytes + own_charge o ≡ old.open_bytes + own_charge p
  pub limits : new.limits ≡ old.limits
  pub mark : new.mark ≡ old.mark

module _ (cache : Cache) (state : State) (from : Image) (k : HoldsState cache state from) (handle number : ℕ) (object other : Object) (names : Names state handle number object) (key : other.key ≡ object.key) (live : other.live ≡ object.live)
    (uses : List Item) (there : Layout) (was now : Loaded) (at : k.layout.at (node_of_object k.layout number object) ≡ Some was) (lies : LiesChanged k.layout there (node_of_object k.layout number object) was now) where
  abbrev kept : KeepsUncounted state k.layout [] from
  kept = k.kept.entries

  abbrev pub next : State
  next = amidst state number other uses

  next-here : object_at next number ≡ Some other
  next-here = set-at state number object other names.here

  -- nodes stay
  node-same : (m : ℕ) (o : Object) → node_of_object there m o ≡ node_of_object k.layout m o
  node-same m o = ap₂ (λ (p : Item → ℕ) (d : ℕ → ℕ). if o.live then p (main o.key) else d m) lies.place lies.place_of_doomed

  its-node : node_of_object there number other ≡ node_of_object k.layout number object
  its-node = node-same number other ∙ ap₂ (λ (b : Bool) (x : List ℕ). if b then k.layout.place (main x) else k.layout.place_of_doomed number) live key

  -- another object lies where it lay
  other-bound : (m : ℕ) (d : Binding) → m ≢ number → IsBoundTo state k.layout m d → IsBoundTo next there m d
  other-bound m d apart n = record {
    object = n.object;
    here = set-else state number m (Some other) apart ∙ n.here;
    loaded = n.loaded;
    at = ap there.at (node-same m n.object) ∙ lies.elsewhere (node_of_object k.layout m n.object) (elsewhere (node_of_object k.layout number object == node_of_object k.layout m n.object) refl) ∙ n.at;
    node = n.node ∙ sym (node-same m n.object);
    entry = n.entry;
    doomed = n.doomed;
    dirty = n.dirty;
  } where
    elsewhere : (t : Bool) → (node_of_object k.layout number object == node_of_object k.layout m n.object) ≡ t → (node_of_object k.layout number object == node_of_object k.layout m n.object) ≡ false
    elsewhere false e = e
    elsewhere true e = absurd (apart (one-object state k.layout [] from kept m number n.object object n.here names.here (sym (eqb-true (node_of_object k.layout number object) (node_of_object k.layout m n.object) e))))

  -- and the object has what it has become
  own-bound : (d e : Binding) → IsBoundTo state k.layout number d → e.entry ≡ d.entry → e.node ≡ d.node → e.doomed ≡ d.doomed → e.dirty ≡ not other.settled → IsBoundTo next there number e
  own-bound d e n entry node doomed dirty =
      let same : n.object ≡ object = some_inj (sym n.here ∙ names.here) in
      let loads : n.loaded ≡ was = some_inj (sym n.at ∙ ap (λ (o : Object). k.layout.at (node_of_object k.layout number o)) same ∙ at) in
      record {
        object = other;
        here = next-here;
        loaded = now;
        at = ap there.at its-node ∙ lies.at_node;
        node = node ∙ n.node ∙ ap (node_of_object k.layout number) same ∙ sym its-node;
        entry = entry ∙ n.entry ∙ ap (λ (l : Loaded). l.contents) loads ∙ sym lies.contents;
        doomed = doomed ∙ n.doomed ∙ ap (λ (o : Object). not o.live) same ∙ ap not (sym live);
        dirty = dirty;
      }

  -- where its names keep their flags
  pub names-stay : other.settled ≡ object.settled → (name : ℕ) → IsBoundAs next there (named_by state name) (binding_of cache.handles name)
  names-stay settled name = by (named_by state name) (binding_of cache.handles name) (k.names name) where
    by : (o : Option ℕ) (d : Option Binding) → IsBoundAs state k.layout o d → IsBoundAs next there o d
    by None None n = n
    by (Some m) (Some d) n = ⊎_elim
        (λ (e : m ≡ number).
        subst (λ (x : ℕ). IsBoundTo next there x d) (sym e)
        (let n2 : IsBoundTo state k.layout number d = subst (λ (x : ℕ). IsBoundTo state k.layout x d) e n in
        own-bound d d n2 refl refl refl (n2.dirty ∙ ap (λ (o : Object). not o.settled) (some_inj (sym n2.here ∙ names.here)) ∙ ap not (sym settled))))
        (λ (e : m ≢ number). other-bound m d e n)
        (cases_eq m number)
    by None (Some d) n = absurd n
    by (Some m) None n = absurd n

  -- or get others
  module _ (b : Binding) (bound : IsBoundTo state k.layout number b) (change : Binding → Binding) (entry : (d : Binding) → (change d).entry ≡ d.entry) (node : (d : Binding) → (change d).node ≡ d.node)
      (doomed : (d : Binding) → (change d).doomed ≡ b.doomed) (dirty : (d : Binding) → (change d).dirty ≡ not other.settled) where
    abbrev changed : Binding → Binding
    changed d = if b.entry == d.entry then change d else d

    pub names-change : (name : ℕ) → IsBoundAs next there (named_by state name) (binding_of (with_change change b.entry cache.handles) name)
    names-change name = subst (λ (o : Option Binding). IsBoundAs next there (named_by state name) o) (sym (binding_of-change change b.entry cache.handles name)) (by (named_by state name) (binding_of cache.handles name) (k.names name)) where
      same-doomed : (d : Binding) → IsBoundTo state k.layout number d → (change d).doomed ≡ d.doomed
      same-doomed d n = doomed d ∙ bound.doomed ∙ ap (λ (o : Object). not o.live) (some_inj (sym bound.here ∙ n.here)) ∙ sym n.doomed

      by-entry : (m : ℕ) (d : Binding) → IsBoundTo state k.layout m d → (t : Bool) → (b.entry == d.entry) ≡ t → IsBoundTo next there m (if t then change d else d)
      by-entry m d n true e =
          let same : m ≡ number = same-bound state k.layout [] from kept m number d b n bound (sym (eqb-true b.entry d.entry e)) in
          subst (λ (x : ℕ). IsBoundTo next there x (change d)) (sym same)
          (let n2 : IsBoundTo state k.layout number d = subst (λ (x : ℕ). IsBoundTo state k.layout x d) same n in own-bound d (change d) n2 (entry d) (node d) (same-doomed d n2) (dirty d))
      by-entry m d n false e = other-bound m d (λ same. not-same (sym e ∙ eq-same b.entry d.entry (same-entry state k.layout [] from kept number b d bound (subst (λ (x : ℕ). IsBoundTo state k.layout x d) same n)))) n
        where
          not-same : false ≡ true → ⊥
          not-same h = cc

          eq-same : (x y : ℕ) → x ≡ y → (x == y) ≡ true
          eq-same x y h = eq-eqb x y h

      by : (o : Option ℕ) (d : Option Binding) → IsBoundAs state k.layout o d → IsBoundAs next there o (option_map (λ (z : Binding). if b.entry == z.entry then change z else z) d)
      by None None n = n
      by (Some m) (Some d) n = by-entry m d n (b.entry == d.entry) refl
      by None (Some d) n = absurd n
      by (Some m) None n = absurd n

  -- so the cache keeps the state with it
  pub changed-keeps : (new : Cache) (image : Image) → Keeps next there [] image → other.parts ≡ object.parts → CountsAs cache new object other → Agrees new.files image → this_id_of (byte image Index) ≡ this_id_of (byte from Index)
      → open_count new.handles ≡ open_count cache.handles → ((name : ℕ) → IsBoundAs next there (named_by state name) (binding_of new.handles name)) → HoldsState new next image
  changed-keeps new image keeps parts counts files id opened bound-as =
      let count : items next + (1 + length object.parts) ≡ items state + (1 + length other.parts) = sum-changed item_count state.objects number object other names.here in
      let long = ap length parts in
      let items-same : items next ≡ items state = omega (arith, count, long) in
      let sum : total next + charge object ≡ total state + charge other = sum-changed charge state.objects number object other names.here in
      let one : IsOneChanged object other (named_objects state) (named_objects next) =
      subst (IsOneChanged object other (named_objects state)) (sym (named-same state next (λ n. refl) 0 next.objects)) (named-changed state number object other (its-named cache state from k handle number object names) 0 number (omega arith) state.objects names.here) in
      let bytes-was = k.bytes_are in
      let bytes-now = counts.bytes in
      let open-was = k.open_bytes in
      let open-now = counts.open_bytes in
      let charged = one.charged in
      let few = k.few in
      record {
        layout = there;
        kept = keeps;
        limits = k.limits ∙ ap bounds_of (sym counts.limits);
        items_are = counts.items ∙ k.items_are ∙ sym items-same;
        bytes_are = omega (arith, sum, bytes-was, bytes-now);
        open_objects = opened ∙ k.open_objects ∙ sym one.count;
        open_bytes = omega (arith, charged, open-was, open-now);
        names = bound-as;
        files = files;
        mark = counts.mark ∙ k.mark ∙ sym id;
        few = omega (arith, few, items-same);
      }
