-- What handles keep, and what they are seen as.
use Rattle.std.proofs.Common.{◌≡◌, ◌≢◌, ℕ, zero, suc, ◌+◌, ◌<◌, ◌≤◌, eqb, Bool, true, false, List, [], ◌∷◌, length, set, get_or, replicate, Option, Some, None, IsSome, cond, count_by, refl, sym, ap, subst, ◌∙◌, inl, inr, arith}
use Rattle.std.specs.Prelude.{◌==◌, is_some, if◌then◌else◌}
use Rattle.std.specs.Option.{option_map, option_map_or, IfSome, IfNone}
use Rattle.std.specs.List.{list_any}
use Rattle.std.proofs.lemmas.Bool.{cases_eq}
use Rattle.std.proofs.lemmas.Bool.Decides.{nat_tests}
use Rattle.std.proofs.lemmas.List.{map-set, length-map, length-replicate, get_or_past, length-set, get_or-set_same, set-set, set-get_or}
use Rattle.std.proofs.lemmas.List.Sums.{sum_by-cons, count_by-le-length}
use Rattle.slab.specs.Slab.{Slab, get, slab_len, Updates}
use Rattle.blk_model.specs.Sizes.{handle_names}
use Rattle.blk_model.specs.State.{is_number}
use Rattle.blk_handles.specs.declared.open_object.OpenObject.{OpenObject}
use Rattle.blk_handles.specs.declared.open_object.Released.TheVariants.{Last, More}
use Rattle.blk_handles.specs.Bindings.{Binding, AreShared, binding_of, has_entry, is_open, name_count, open_with, binding_for, with_change, distinct_count, entries_of, open_count, open_object}
use Rattle.blk_handles.specs.Stored.{binding, shown, bindings_of, names_under, AreNamesStored}
use Rattle.blk_handles.specs.Objects.{IsObjectOf, IsClosed, AreDistinct}
use Rattle.blk_handles.proofs.Basics.{some-inj, none-is-some, same-number, apart}
use Rattle.blk_handles.proofs.SlotLemmas.{same-slots, list_any-map, count_by-map, list_any-same, count_by-same, list_any-counted, list_any-uncounted, not-counted, counted, count_by-set, distinct_count-set, distinct_count-free}

-- what is there
pub there : {A : Type 0} (o : Option A) → IsSome o → (a : A) × (o ≡ Some a)
there None is = absurd (let e : false ≡ true = is in cc)
there (Some a) is = (a, refl)

pub has : {A : Type 0} (o : Option A) (a : A) → o ≡ Some a → IsSome o
has o a e = rw e refl

-- what a name is bound to, by its key
pub binding-at : (s : Slab OpenObject) (ns : List (Option ℕ)) (name : ℕ) → binding_of (bindings_of ns s) name ≡ shown s (get_or ns name None)
binding-at s [] name = refl
binding-at s (x ∷ ns) zero = refl
binding-at s (x ∷ ns) (suc name) = binding-at s ns name

module _ (s : Slab OpenObject) where
  -- no name has the record of an object that isn't open
  pub closed-slot : (entry : ℕ) → IsClosed s entry → (x : Option ℕ) → has_entry entry (shown s x) ≡ false
  closed-slot entry none None = refl
  closed-slot entry none (Some j) = by (get s j) (λ p e. none j p e) where
    by : (o : Option OpenObject) → ((p : OpenObject) → o ≡ Some p → p.entry ≢ entry) → has_entry entry (option_map binding o) ≡ false
    by None differs = refl
    by (Some p) differs = apart entry p.entry (λ same. differs p refl (sym same))

  pub closed-open : (entry : ℕ) → IsClosed s entry → (ns : List (Option ℕ)) → is_open (bindings_of ns s) entry ≡ false
  closed-open entry none [] = refl
  closed-open entry none (x ∷ ns) = rw (closed-slot entry none x, closed-open entry none ns) refl

  pub closed-with : (entry : ℕ) → IsClosed s entry → (ns : List (Option ℕ)) → open_with (bindings_of ns s) entry ≡ None
  closed-with entry none [] = refl
  closed-with entry none (x ∷ ns) = rw (closed-slot entry none x) (closed-with entry none ns)

  pub closed-change : (entry : ℕ) → IsClosed s entry → (change : Binding → Binding) (ns : List (Option ℕ)) → bindings_of ns s ≡ with_change change entry (bindings_of ns s)
  closed-change entry none change [] = refl
  closed-change entry none change (x ∷ ns) = rw (← closed-change entry none change ns) (ap (λ y. y ∷ bindings_of ns s) (by (shown s x) (closed-slot entry none x))) where
    by : (y : Option Binding) → has_entry entry y ≡ false → y ≡ option_map (λ object. if entry == object.entry then change object else object) y
    by None e = refl
    by (Some b) e = rw e refl

  module _ (distinct : AreDistinct s) (k : ℕ) (o : OpenObject) (here : get s k ≡ Some o) where
    -- a name has the object's record exactly where it has its key
    pub slot-has : (x : Option ℕ) → has_entry o.entry (shown s x) ≡ is_number k x
    slot-has None = refl
    slot-has (Some j) = by (get s j) refl where
      by : (p : Option OpenObject) → get s j ≡ p → has_entry o.entry (option_map binding p) ≡ eqb k j
      by None is = sym (apart k j (λ same. none-is-some (get s j) is (ap (get s) (sym same) ∙ here)))
      by (Some p) is = elim (cases_eq k j) [
        | inl same ↦ let e : p ≡ o = some-inj (sym is ∙ ap (get s) (sym same) ∙ here) in rw (e, same) (grind (arith, nat_tests))
        | inr other ↦ apart o.entry p.entry (λ same. other (distinct k j o p here is same)) ∙ sym (apart k j other)
      ]

    -- so the names of the object are those with its key
    pub open-names : (ns : List (Option ℕ)) → is_open (bindings_of ns s) o.entry ≡ list_any (is_number k) ns
    open-names ns = list_any-map (has_entry o.entry) (shown s) ns ∙ list_any-same (λ x. has_entry o.entry (shown s x)) (is_number k) ns slot-has

    pub names-counted : (ns : List (Option ℕ)) → name_count (bindings_of ns s) o.entry ≡ count_by (is_number k) ns
    names-counted ns = count_by-map (has_entry o.entry) (shown s) ns ∙ count_by-same (λ x. has_entry o.entry (shown s x)) (is_number k) ns slot-has

    -- the open object with the record is the object
    pub with-here : (ns : List (Option ℕ)) → list_any (is_number k) ns ≡ true → open_with (bindings_of ns s) o.entry ≡ Some (binding o)
    with-here [] any = absurd (let e : false ≡ true = any in cc)
    with-here (x ∷ ns) any = by x (is_number k x) refl any (with-here ns) where
      by : (x : Option ℕ) (b : Bool) → is_number k x ≡ b → list_any (is_number k) (x ∷ ns) ≡ true → (list_any (is_number k) ns ≡ true → open_with (bindings_of ns s) o.entry ≡ Some (binding o)) → open_with (shown s x ∷ bindings_of ns s) o.entry ≡ Some (binding o)
      by x false e any rest = rw (slot-has x, e) (rest (rw e at any))
      by None true e any rest = absurd (let f : false ≡ true = e in cc)
      by (Some j) true e any rest =
          let same : k ≡ j = grind (arith, nat_tests, e) in
          let at-j : get s j ≡ Some o = ap (get s) (sym same) ∙ here in
          rw (slot-has (Some j), e) (ap (option_map binding) at-j)

  -- names of one record are bound to one object
  pub are-shared : (ns : List (Option ℕ)) → AreNamesStored ns s → AreShared (bindings_of ns s)
  are-shared ns sound = record {
    names = length-map ns (shown s) ∙ sound.all_names;
    shared = λ name other a b at-a at-b same. one (get_or ns name None) (get_or ns other None) a b (sym (binding-at s ns name) ∙ at-a) (sym (binding-at s ns other) ∙ at-b) same;
  } where
    stored : (x : Option ℕ) (a : Binding) → shown s x ≡ Some a → (j : ℕ) × (o : OpenObject) × (get s j ≡ Some o) × (binding o ≡ a)
    stored None a is = absurd (none-is-some {A = Binding} None refl is)
    stored (Some j) a is = by (get s j) refl is where
      by : (p : Option OpenObject) → get s j ≡ p → option_map binding p ≡ Some a → (j : ℕ) × (o : OpenObject) × (get s j ≡ Some o) × (binding o ≡ a)
      by None e is = absurd (none-is-some {A = Binding} None refl is)
      by (Some p) e is = (j, p, e, some-inj is)

    one : (x y : Option ℕ) (a b : Binding) → shown s x ≡ Some a → shown s y ≡ Some b → a.entry ≡ b.entry → a ≡ b
    one x y a b is-a is-b same =
        let (j, o, at-j, from-o) = stored x a is-a in
        let (k, p, at-k, from-p) = stored y b is-b in
        let entry = λ (z : Binding). z.entry in
        let keys : j ≡ k = sound.distinct j k o p at-j at-k (ap entry from-o ∙ same ∙ sym (ap entry from-p)) in
        let objects : o ≡ p = some-inj (sym at-j ∙ ap (get s) keys ∙ at-k) in
        sym from-o ∙ ap binding objects ∙ from-p

  -- the different records of names are as many as their different keys
  pub open-counted : AreDistinct s → (ns : List (Option ℕ)) → ((name key : ℕ) → get_or ns name None ≡ Some key → IsSome (get s key)) → open_count (bindings_of ns s) ≡ distinct_count ns
  open-counted distinct [] stored = refl
  open-counted distinct (None ∷ ns) stored = open-counted distinct ns (λ name. stored (suc name))
  open-counted distinct (Some k ∷ ns) stored =
      let (o, here) = there (get s k) (stored 0 k refl) in
      let rest = open-counted distinct ns (λ name. stored (suc name)) in
      let entry = λ (z : Binding). z.entry in
      let number-is : (y : Option Binding) → is_number o.entry (option_map entry y) ≡ has_entry o.entry y = is-entry o.entry in
      let any : list_any (is_number o.entry) (entries_of (bindings_of ns s)) ≡ list_any (is_number k) ns =
      list_any-map (is_number o.entry) (option_map entry) (bindings_of ns s) ∙ list_any-same (λ y. is_number o.entry (option_map entry y)) (has_entry o.entry) (bindings_of ns s) number-is ∙ open-names distinct k o here ns in
      rw (here, any, rest) refl
    where
      is-entry : (e : ℕ) (y : Option Binding) → is_number e (option_map (λ z. z.entry) y) ≡ has_entry e y
      is-entry e None = refl
      is-entry e (Some b) = refl

  -- a name is bound exactly where it has a key
  pub least-name : (ns : List (Option ℕ)) → ((name key : ℕ) → get_or ns name None ≡ Some key → IsSome (get s key)) → (name : ℕ) → is_some (binding_of (bindings_of ns s) name) ≡ is_some (get_or ns name None)
  least-name ns stored name = ap is_some (binding-at s ns name) ∙ by (get_or ns name None) (stored name) where
    by : (x : Option ℕ) → ((key : ℕ) → x ≡ Some key → IsSome (get s key)) → is_some (shown s x) ≡ is_some x
    by None stored = refl
    by (Some k) stored = let (o, here) = there (get s k) (stored k refl) in rw here refl

-- What a change of the objects does to what names are bound to.

module _ (s t : Slab OpenObject) (k : ℕ) (o new : OpenObject) (here : get s k ≡ Some o) (updates : Updates s t k (Some new)) where
  -- a new number of names is not seen
  pub same-shown : binding new ≡ binding o → (x : Option ℕ) → shown t x ≡ shown s x
  same-shown same None = refl
  same-shown same (Some j) = elim (cases_eq j k) [
    | inl is ↦ rw (is, updates.changed, here) (ap Some same)
    | inr other ↦ ap (option_map binding) (updates.others j other)
  ]

  -- a change of an object is seen by all its names
  pub changed-shown : AreDistinct s → (change : Binding → Binding) → binding new ≡ change (binding o) → (x : Option ℕ) → shown t x ≡ option_map (λ object. if o.entry == object.entry then change object else object) (shown s x)
  changed-shown distinct change is None = refl
  changed-shown distinct change is (Some j) = elim (cases_eq j k) [
    | inl same ↦
        rw (same, updates.changed, here, same-number o.entry) (ap Some is)
    | inr other ↦ rw (updates.others j other) (by (get s j) refl other)
  ] where
    by : (p : Option OpenObject) → get s j ≡ p → j ≢ k → option_map binding p ≡ option_map (λ object. if o.entry == object.entry then change object else object) (option_map binding p)
    by None at other = refl
    by (Some p) at other = let differs : eqb o.entry p.entry ≡ false = apart o.entry p.entry (λ same. other (distinct j k p o at here (sym same))) in rw differs refl

-- What a change of a name and of its object keeps.

-- the key of one object is not that of another
other-key : (j k : ℕ) → j ≢ k → is_number j None ≡ is_number j (Some k)
other-key j k other = sym (apart j k other)

module _ (ns : List (Option ℕ)) (s : Slab OpenObject) (sound : AreNamesStored ns s) where
  -- a name that is bound
  pub within : (name : ℕ) → name < handle_names → name < length ns
  within name small = omega (arith, small, sound.all_names)

  pub bound-within : (name k : ℕ) → get_or ns name None ≡ Some k → name < handle_names
  bound-within name k is = grind (arith, get_or_past ns name None, sound.all_names, is)

  -- the key that a name has is that of an object
  pub stored : (name key : ℕ) → get_or ns name None ≡ Some key → IsSome (get s key)
  stored name key is = by (get s key) refl where
    some : 0 < names_under s key
    some = omega (arith, sound.counted key, counted (is_number key) ns name refl (rw is (same-number key)))

    by : (o : Option OpenObject) → get s key ≡ o → IsSome o
    by None e = absurd (let zero : names_under s key ≡ 0 = ap (λ o. option_map_or (λ (x : OpenObject). x.names) o 0) e in omega (arith, some, zero))
    by (Some o) e = refl

  -- an object counts its names
  pub names-are : (k : ℕ) (o : OpenObject) → get s k ≡ Some o → o.names ≡ count_by (is_number k) ns
  names-are k o here = ap (λ p. option_map_or (λ (x : OpenObject). x.names) p 0) (sym here) ∙ sound.counted k

  -- no name has a key that is vacant
  pub vacant-free : (k : ℕ) → get s k ≡ None → count_by (is_number k) ns ≡ 0
  vacant-free k vacant = sym (sound.counted k) ∙ ap (λ p. option_map_or (λ (x : OpenObject). x.names) p 0) vacant

  -- there are fewer objects than names where a name is free
  pub has-capacity : (name : ℕ) → name < handle_names → get_or ns name None ≡ None → slab_len s < handle_names
  has-capacity name small free = omega (arith, sound.object_count, sound.all_names, distinct_count-free ns name (within name small) free)

  -- an object has a name, and no more names than there are
  pub object-named : (k : ℕ) (o : OpenObject) → get s k ≡ Some o → list_any (is_number k) ns ≡ true
  object-named k o here = list_any-counted (is_number k) ns (omega (arith, names-are k o here, sound.some_name k o here))

  pub few-names : (k : ℕ) (o : OpenObject) → get s k ≡ Some o → o.names ≤ handle_names
  few-names k o here = omega (arith, names-are k o here, sound.all_names, count_by-le-length (is_number k) ns)

  module _ (t : Slab OpenObject) (k : ℕ) (slot : Option OpenObject) (updates : Updates s t k slot) (distinct : AreDistinct t) (named : (o : OpenObject) → slot ≡ Some o → 0 < o.names) where
    named-later : (key : ℕ) (o : OpenObject) → get t key ≡ Some o → 0 < o.names
    named-later key o here = elim (cases_eq key k) [
      | inl same ↦ named o (sym updates.changed ∙ ap (get t) (sym same) ∙ here)
      | inr other ↦ sound.some_name key o (sym (updates.others key other) ∙ here)
    ]

    other-names : (key : ℕ) → key ≢ k → names_under t key ≡ names_under s key
    other-names key other = ap (λ p. option_map_or (λ (x : OpenObject). x.names) p 0) (updates.others key other)

    names-here : names_under t k ≡ option_map_or (λ o. o.names) slot 0
    names-here = ap (λ p. option_map_or (λ (x : OpenObject). x.names) p 0) updates.changed

    -- the object under one key changes, and not the number of its names
    pub sound-change : option_map_or (λ o. o.names) slot 0 ≡ names_under s k → slab_len t ≡ slab_len s → AreNamesStored ns t
    sound-change same len = record {
      all_names = sound.all_names;
      distinct = distinct;
      counted = λ key. elim (cases_eq key k) [
        | inl is ↦ rw is (names-here ∙ same ∙ sound.counted k)
        | inr other ↦ other-names key other ∙ sound.counted key
      ];
      some_name = named-later;
      object_count = len ∙ sound.object_count;
    }

    -- a name gets or loses the key, and the object under it counts that
    pub sound-written : (name : ℕ) (key : Option ℕ) → name < handle_names
        → ((j : ℕ) → j ≢ k → is_number j (get_or ns name None) ≡ is_number j key)
        → option_map_or (λ o. o.names) slot 0 + cond (is_number k (get_or ns name None)) 1 0 ≡ names_under s k + cond (is_number k key) 1 0
        → slab_len t ≡ distinct_count (set ns name key)
        → AreNamesStored (set ns name key) t
    sound-written name key small others here count = record {
      all_names = length-set ns name key ∙ sound.all_names;
      distinct = distinct;
      counted = λ j. let recount = count_by-set (is_number j) ns name None key (within name small) in elim (cases_eq j k) [
        | inl is ↦ by j is recount
        | inr other ↦ omega (arith, other-names j other, sound.counted j, recount, ap {B = ℕ} (λ b. cond b 1 0) (others j other))
      ];
      some_name = named-later;
      object_count = count;
    } where
      by : (j : ℕ) → j ≡ k → count_by (is_number j) (set ns name key) + cond (is_number j (get_or ns name None)) 1 0 ≡ count_by (is_number j) ns + cond (is_number j key) 1 0 → names_under t j ≡ count_by (is_number j) (set ns name key)
      by j is recount = let again = rw is at recount in rw is (omega (arith, names-here, here, sound.counted k, again))

  module _ (name k : ℕ) (small : name < handle_names) (free : get_or ns name None ≡ None) (t : Slab OpenObject) (new : OpenObject) (updates : Updates s t k (Some new)) (distinct : AreDistinct t) where
    -- a free name joins an object
    pub sound-join : (o : OpenObject) → get s k ≡ Some o → new.names ≡ o.names + 1 → slab_len t ≡ slab_len s → AreNamesStored (set ns name (Some k)) t
    sound-join o here more len =
        sound-written t k (Some new) updates distinct (λ p is. rw (← some-inj is) (omega (arith, more))) name (Some k) small
        (λ j other. rw free (other-key j k other))
        (rw (free, here, same-number k) (omega (arith, more)))
        (omega (arith, len, sound.object_count, distinct_count-set ns name k (within name small) free, ap {B = ℕ} (λ b. cond b 0 1) (object-named k o here)))

    -- a free name opens an object
    pub sound-add : get s k ≡ None → new.names ≡ 1 → slab_len t ≡ slab_len s + 1 → AreNamesStored (set ns name (Some k)) t
    sound-add vacant one len =
        sound-written t k (Some new) updates distinct (λ p is. rw (← some-inj is) (omega (arith, one))) name (Some k) small
        (λ j other. rw free (other-key j k other))
        (rw (free, vacant, same-number k) (omega (arith, one)))
        (omega (arith, len, sound.object_count, distinct_count-set ns name k (within name small) free, ap {B = ℕ} (λ b. cond b 0 1) none))
      where
        none : list_any (is_number k) ns ≡ false
        none = list_any-uncounted (is_number k) ns (vacant-free k vacant)

  module _ (name k : ℕ) (is : get_or ns name None ≡ Some k) (o : OpenObject) (here : get s k ≡ Some o) (t : Slab OpenObject) (distinct : AreDistinct t) where
    small : name < handle_names
    small = bound-within name k is

    -- where a name is released that isn't the last, as many keys stay
    written-back : set (set ns name None) name (Some k) ≡ ns
    written-back = set-set ns name None (Some k) ∙ ap (set ns name) (sym is) ∙ set-get_or ns name None

    freed : get_or (set ns name None) name None ≡ None
    freed = get_or-set_same ns name None None (within name small)

    recounted : count_by (is_number k) (set ns name None) + 1 ≡ o.names
    recounted = omega (arith, names-are k o here, count_by-set (is_number k) ns name None None (within name small), ap {B = ℕ} (λ b. cond b 1 0) (ap (is_number k) is ∙ same-number k))

    keys-left : distinct_count ns ≡ cond (list_any (is_number k) (set ns name None)) 0 1 + distinct_count (set ns name None)
    keys-left = ap distinct_count (sym written-back) ∙ distinct_count-set (set ns name None) name k (omega (arith, length-set ns name None, within name small)) freed

    -- one of several names of an object is released
    pub sound-leave : (new : OpenObject) → Updates s t k (Some new) → new.names + 1 ≡ o.names → 0 < new.names → slab_len t ≡ slab_len s → AreNamesStored (set ns name None) t
    sound-leave new updates less some len =
        sound-written t k (Some new) updates distinct (λ p e. rw (← some-inj e) some) name None small
        (λ j other. rw is (sym (other-key j k other)))
        (rw (is, here, same-number k) (omega (arith, less)))
        (omega (arith, len, sound.object_count, keys-left, ap {B = ℕ} (λ b. cond b 0 1) (list_any-counted (is_number k) (set ns name None) (omega (arith, recounted, less, some)))))

    -- the last name of an object is released, and the object is taken out
    pub sound-last : o.names ≡ 1 → Updates s t k None → slab_len t + 1 ≡ slab_len s → AreNamesStored (set ns name None) t
    sound-last one updates len =
        sound-written t k None updates distinct (λ p e. absurd (none-is-some {A = OpenObject} None refl e)) name None small
        (λ j other. rw is (sym (other-key j k other)))
        (rw (is, here, same-number k) (omega (arith, one)))
        (omega (arith, len, sound.object_count, keys-left, ap {B = ℕ} (λ b. cond b 0 1) (list_any-uncounted (is_number k) (set ns name None) (omega (arith, recounted, one)))))

    -- no other name shows an object that is taken out
    pub shown-last : o.names ≡ 1 → Updates s t k None → bindings_of (set ns name None) t ≡ set (bindings_of ns s) name None
    shown-last one updates = same-slots (shown t) (shown s) (set ns name None) refl (λ i j at. ap (option_map binding) (updates.others j (other i j at))) ∙ map-set (shown s) ns name None where
      other : (i j : ℕ) → get_or (set ns name None) i None ≡ Some j → j ≢ k
      other i j at same =
          let no = not-counted (is_number k) (set ns name None) refl (omega (arith, recounted, one)) i in
          let yes : is_number k (get_or (set ns name None) i None) ≡ true = rw (at, same) (same-number k) in
          let e = sym no ∙ yes in cc

    -- another name of the object is left, or none
    pub left-leave : (new : OpenObject) → get t k ≡ Some new → new.entry ≡ o.entry → new.names + 1 ≡ o.names → 0 < new.names → is_open (bindings_of (set ns name None) t) o.entry ≡ true
    left-leave new at-k same less some =
        subst (λ e. is_open (bindings_of (set ns name None) t) e ≡ true) same
        (open-names t distinct k new at-k (set ns name None) ∙ list_any-counted (is_number k) (set ns name None) (omega (arith, recounted, less, some)))

  -- a free name that gets a key shows its object, where the others show what they did
  pub shown-join : (t : Slab OpenObject) (name k : ℕ) (o new : OpenObject) → get s k ≡ Some o → Updates s t k (Some new) → binding new ≡ binding o → bindings_of (set ns name (Some k)) t ≡ set (bindings_of ns s) name (Some (binding o))
  shown-join t name k o new here updates same = map-set (shown t) ns name (Some k)
      ∙ ap (λ b. set (bindings_of ns t) name b) (same-shown s t k o new here updates same (Some k) ∙ ap (option_map binding) here)
      ∙ ap (λ bs. set bs name (Some (binding o))) (same-slots (shown t) (shown s) ns refl (λ i j at. same-shown s t k o new here updates same (Some j)))

  pub shown-add : (t : Slab OpenObject) (name k : ℕ) (new : OpenObject) → get s k ≡ None → Updates s t k (Some new) → bindings_of (set ns name (Some k)) t ≡ set (bindings_of ns s) name (Some (binding new))
  shown-add t name k new vacant updates = map-set (shown t) ns name (Some k)
      ∙ ap (λ b. set (bindings_of ns t) name b) (ap (option_map binding) updates.changed)
      ∙ ap (λ bs. set bs name (Some (binding new))) (same-slots (shown t) (shown s) ns refl (λ i j at. ap (option_map binding) (updates.others j (other i j at))))
    where
      other : (i j : ℕ) → get_or ns i None ≡ Some j → j ≢ k
      other i j at same = let (p, e) = there (get s j) (stored i j at) in none-is-some (get s k) vacant (ap (get s) (sym same) ∙ e)

  -- a released name that isn't the last is free, and the others show what they did
  pub shown-leave : (t : Slab OpenObject) (name k : ℕ) (o new : OpenObject) → get s k ≡ Some o → Updates s t k (Some new) → binding new ≡ binding o → bindings_of (set ns name None) t ≡ set (bindings_of ns s) name None
  shown-leave t name k o new here updates same = map-set (shown t) ns name None
      ∙ ap (λ bs. set bs name None) (same-slots (shown t) (shown s) ns refl (λ i j at. same-shown s t k o new here updates same (Some j)))

  -- an object with a change shows it by all its names
  pub shown-change : (t : Slab OpenObject) (k : ℕ) (o new : OpenObject) → get s k ≡ Some o → Updates s t k (Some new) → (change : Binding → Binding) → binding new ≡ change (binding o) → bindings_of ns t ≡ with_change change o.entry (bindings_of ns s)
  shown-change t k o new here updates change is = by ns where
    by : (xs : List (Option ℕ)) → bindings_of xs t ≡ with_change change o.entry (bindings_of xs s)
    by [] = refl
    by (x ∷ xs) = rw (by xs, changed-shown s t k o new here updates sound.distinct change is x) refl

  -- the object stored at a key is the open object of its binding
  pub told : (k : ℕ) (o : OpenObject) → get s k ≡ Some o → open_object (bindings_of ns s) (binding o) ≡ o
  told k o here = ap (λ n. record o { names = n }) (names-counted s sound.distinct k o here ns ∙ sym (names-are k o here))

  -- a name that is free has no key
  pub free-slot : (name : ℕ) → binding_of (bindings_of ns s) name ≡ None → get_or ns name None ≡ None
  free-slot name free = by (get_or ns name None) (stored name) (sym (binding-at s ns name) ∙ free) where
    by : (x : Option ℕ) → ((key : ℕ) → x ≡ Some key → IsSome (get s key)) → shown s x ≡ None → x ≡ None
    by None stored free = refl
    by (Some k) stored free = let (o, here) = there (get s k) (stored k refl) in absurd (none-is-some (shown s (Some k)) free (ap (option_map binding) here))

  -- a name that is bound has the key of an object
  pub bound-slot : (name k : ℕ) (o : OpenObject) → get_or ns name None ≡ Some k → get s k ≡ Some o → binding_of (bindings_of ns s) name ≡ Some (binding o)
  bound-slot name k o is here = binding-at s ns name ∙ ap (shown s) is ∙ ap (option_map binding) here

-- the object under a key has the record that it is stored with
pub entry-is : (s : Slab OpenObject) (entry k : ℕ) → IsObjectOf s entry k → (o : OpenObject) → get s k ≡ Some o → o.entry ≡ entry
entry-is s entry k at o here = ap (λ (x : OpenObject). x.entry) (some-inj (sym here ∙ at.here)) ∙ at.has_entry

module _ (ns : List (Option ℕ)) (s : Slab OpenObject) (sound : AreNamesStored ns s) (entry k : ℕ) (at : IsObjectOf s entry k) (o : OpenObject) (here : get s k ≡ Some o) where
  -- a stored object is the open object with its record
  pub opened : open_with (bindings_of ns s) entry ≡ Some (binding o)
  opened = subst (λ e. open_with (bindings_of ns s) e ≡ Some (binding o)) (entry-is s entry k at o here) (with-here s sound.distinct k o here ns (object-named ns s sound k o here))

  pub is-opened : is_open (bindings_of ns s) entry ≡ true
  is-opened = subst (λ e. is_open (bindings_of ns s) e ≡ true) (entry-is s entry k at o here) (open-names s sound.distinct k o here ns ∙ object-named ns s sound k o here)

-- What calls leave.

module _ (ns : List (Option ℕ)) (s : Slab OpenObject) (sound : AreNamesStored ns s) (entry node : ℕ) (dirty : Bool) where
  -- a name joins the open object with the record
  pub binds-open : (t : Slab OpenObject) (name k : ℕ) → IsObjectOf s entry k → (o new : OpenObject) → get s k ≡ Some o → Updates s t k (Some new) → binding new ≡ binding o
      → bindings_of (set ns name (Some k)) t ≡ set (bindings_of ns s) name (Some (binding_for (bindings_of ns s) entry node dirty))
  binds-open t name k at o new here updates same =
      rw (opened ns s sound entry k at o here) (shown-join ns s sound t name k o new here updates same)

  -- a name opens the object with the record
  pub binds-new : IsClosed s entry → (t : Slab OpenObject) (name k : ℕ) (new : OpenObject) → get s k ≡ None → Updates s t k (Some new) → binding new ≡ record { entry = entry; node = node; doomed = false; dirty = dirty }
      → bindings_of (set ns name (Some k)) t ≡ set (bindings_of ns s) name (Some (binding_for (bindings_of ns s) entry node dirty))
  binds-new closed t name k new vacant updates is =
      rw (closed-with s entry closed ns) (shown-add ns s sound t name k new vacant updates ∙ ap (λ b. set (bindings_of ns s) name (Some b)) is)

module _ (ns : List (Option ℕ)) (s : Slab OpenObject) (sound : AreNamesStored ns s) where
  -- the stored object that a name is bound to is the open object of the name's binding
  pub object-free : (name : ℕ) → get_or ns name None ≡ None → None ≡ option_map (open_object (bindings_of ns s)) (binding_of (bindings_of ns s) name)
  object-free name free = rw (binding-at s ns name, free) refl

  pub object-bound : (name k : ℕ) → get_or ns name None ≡ Some k → get s k ≡ option_map (open_object (bindings_of ns s)) (binding_of (bindings_of ns s) name)
  object-bound name k is =
      let (o, here) = there (get s k) (stored ns s sound name k is) in
      rw (bound-slot ns s sound name k o is here) (here ∙ ap Some (sym (told ns s sound k o here)))

  -- the stored object with a record is the open object of the binding with this record
  pub object-closed : (entry : ℕ) → IsClosed s entry → None ≡ option_map (open_object (bindings_of ns s)) (open_with (bindings_of ns s) entry)
  object-closed entry closed = rw (closed-with s entry closed ns) refl

  pub object-open : (entry k : ℕ) → IsObjectOf s entry k → get s k ≡ option_map (open_object (bindings_of ns s)) (open_with (bindings_of ns s) entry)
  object-open entry k at = rw (opened ns s sound entry k at at.object at.here) (at.here ∙ ap Some (sym (told ns s sound k at.object at.here)))

  -- a record is pinned exactly where the map has a key for it
  pub pinned : (entry : ℕ) (key : Option ℕ) → IfSome key (IsObjectOf s entry) → IfNone key (IsClosed s entry) → is_some key ≡ is_open (bindings_of ns s) entry
  pinned entry None at closed = sym (closed-open s entry closed ns)
  pinned entry (Some k) at closed = sym (is-opened ns s sound entry k at at.object at.here)

  -- an object is changed by one of its names
  pub marks : (t : Slab OpenObject) (name k : ℕ) → get_or ns name None ≡ Some k → (o new : OpenObject) → get s k ≡ Some o → Updates s t k (Some new) → (change : Binding → Binding) → binding new ≡ change (binding o)
      → IfSome (binding_of (bindings_of ns s) name) (λ object. bindings_of ns t ≡ with_change change object.entry (bindings_of ns s))
  marks t name k is o new here updates change same = rw (bound-slot ns s sound name k o is here) (shown-change ns s sound t k o new here updates change same)

  -- a name that is bound has a key
  pub has-key : (name : ℕ) → IsSome (binding_of (bindings_of ns s) name) → (k : ℕ) × (get_or ns name None ≡ Some k)
  has-key name is = by (get_or ns name None) (subst (λ b. IsSome b) (binding-at s ns name) is) where
    by : (x : Option ℕ) → IsSome (shown s x) → (k : ℕ) × (x ≡ Some k)
    by None is = absurd (let e : false ≡ true = is in cc)
    by (Some k) is = (k, refl)

-- no name is bound at first
count-free : (key n : ℕ) → count_by (is_number key) (replicate n None) ≡ 0
count-free key zero = refl
count-free key (suc n) = omega (arith, count-free key n, sum_by-cons (λ y. cond (is_number key y) 1 0) None (replicate n None))

distinct-free : (n : ℕ) → distinct_count (replicate n None) ≡ 0
distinct-free zero = refl
distinct-free (suc n) = distinct-free n

pub shown-free : (s : Slab OpenObject) (n : ℕ) → bindings_of (replicate n None) s ≡ replicate n None
shown-free s zero = refl
shown-free s (suc n) = ap (λ bs. None ∷ bs) (shown-free s n)

pub sound-free : (s : Slab OpenObject) (n : ℕ) → n ≡ handle_names → s.slots ≡ [] → AreNamesStored (replicate n None) s
sound-free s n all empty = record {
  all_names = length-replicate n None ∙ all;
  distinct = λ j k a b at-j at-k same. absurd (none-is-some (get s j) (vacant j) at-j);
  counted = λ key. rw (empty) (sym (count-free key n));
  some_name = λ key o here. absurd (none-is-some (get s key) (vacant key) here);
  object_count = rw empty (sym (distinct-free n));
} where
  vacant : (key : ℕ) → get s key ≡ None
  vacant key = rw empty refl

module _ (ns : List (Option ℕ)) (s : Slab OpenObject) (sound : AreNamesStored ns s) (t : Slab OpenObject) (distinct : AreDistinct t) where
  -- an object with as many names as before
  pub sound-marked : (k : ℕ) (o new : OpenObject) → get s k ≡ Some o → Updates s t k (Some new) → new.names ≡ o.names → slab_len t ≡ slab_len s → AreNamesStored ns t
  sound-marked k o new here updates same len =
      sound-change ns s sound t k (Some new) updates distinct (λ p is. rw (← some-inj is) (omega (arith, same, sound.some_name k o here))) (same ∙ ap (λ p. option_map_or (λ (x : OpenObject). x.names) p 0) (sym here)) len

  module _ (name k : ℕ) (is : get_or ns name None ≡ Some k) (o : OpenObject) (here : get s k ≡ Some o) where
    -- the object is the answer where its last name is released
    pub told-last : Updates s t k None → (r : OpenObject) → get s k ≡ Some r
        → IfSome (binding_of (bindings_of ns s) name) (λ object. Last r ≡ (if is_open (bindings_of (set ns name None) t) object.entry then More else Last (open_object (bindings_of ns s) object)))
    told-last updates r here-r = rw (bound-slot ns s sound name k o is here, closed-open t o.entry closed (set ns name None)) (ap Last (some-inj (sym here-r ∙ here) ∙ sym (told ns s sound k o here))) where
      closed : IsClosed t o.entry
      closed key p at-key same = elim (cases_eq key k) [
        | inl it ↦ none-is-some (get t k) updates.changed (ap (get t) (sym it) ∙ at-key)
        | inr other ↦ other (sound.distinct key k p o (sym (updates.others key other) ∙ at-key) here same)
      ]

    -- where other names of the object are left, the answer is More
    pub told-more : (new : OpenObject) → Updates s t k (Some new) → new.entry ≡ o.entry → new.names + 1 ≡ o.names → 0 < new.names
        → IfSome (binding_of (bindings_of ns s) name) (λ object. More ≡ (if is_open (bindings_of (set ns name None) t) object.entry then More else Last (open_object (bindings_of ns s) object)))
    told-more new updates same less some = rw (bound-slot ns s sound name k o is here, left-leave ns s sound name k is o here t distinct new updates.changed same less some) refl
