-- A Close of a cache that keeps a state.
use Rattle.std.proofs.Common.{◌≡◌, ◌≢◌, ℕ, zero, suc, ◌+◌, ◌-◌, ◌<◌, ◌≤◌, Bool, true, false, List, [], ◌∷◌, length, length-set, set, get_or, get_or-set_other, Option, Some, None, refl, sym, ap, subst, ◌∙◌, arith, cond}
use Rattle.std.specs.Prelude.{◌==◌, IfSome, if◌then◌else◌, sum_by}
use Rattle.std.proofs.lemmas.Bool.{eqb-true}
use Rattle.spec_image.specs.Image.{Image, Index, byte}
use Rattle.blk_model.specs.Bounds.{bounds_of}
use Rattle.blk_model.specs.Charge.{part_charge}
use Rattle.blk_model.specs.Effects.{with_slot}
use Rattle.blk_model.specs.Items.{PartValue, main, signature_of}
use Rattle.blk_model.specs.Room.{charge, item_count, items, of_slot, own_charge, total}
use Rattle.blk_model.specs.State.{IsObject, Object, State, is_named, named_by}
use Rattle.std.proofs.lemmas.List.Sums.{sum_by-cons}
use Rattle.spec_format.specs.Headers.{this_id_of}
use Rattle.spec_folder.specs.Layout.{Layout}
use Rattle.law_folder.specs.CommandLaws.{dirtied, turned}
use Rattle.law_folder.proofs.states.Changing.{at-elsewhere}
use Rattle.blk_handles.specs.Bindings.{Binding, Bindings, binding_of, is_open, open_count}
use Rattle.blk_disk.specs.declared.tables.BlockFiles.{BlockFiles}
use Rattle.blk_disk.specs.Tables.{Agrees}
use Rattle.law_state.specs.CommandStates.{with_names}
use Rattle.law_state.specs.GoneLaws.{layout_without}
use Rattle.law_state.specs.Keeping.{Keeps, KeepsUncounted}
use Rattle.blk_object.specs.Writing.{node_of_object}
use Rattle.blk_cache.specs.declared.cache.Cache.{Cache}
use Rattle.blk_cache.specs.CacheKeeping.{IsBoundAs, IsBoundTo, HoldsState, named_objects}
use Rattle.blk_cache.specs.CommandClauses.{OnlyNamesChange}
use Rattle.blk_cache.proofs.BoundObjects.{bound-less, named-at, number-of, one-object, open-is-named, set-free}
use Rattle.blk_cache.proofs.NamedObjects.{IsOneMore, count-more, named-before, named-new, named-same, named-set, set-back}

-- what is in a slot is inside
pub within-some : {A : Type 0} (xs : List (Option A)) (i : ℕ) (x : A) → get_or xs i None ≡ Some x → i < length xs
within-some {A = A} [] i x e = absurd (let c : ◌≡◌ {A = Option A} None (Some x) = e in cc)
within-some (y ∷ xs) zero x e = omega arith
within-some (y ∷ xs) (suc i) x e = let r = within-some xs i x e in omega (arith, r)

-- what is counted of slots stays where one becomes another that counts the same
sum-set : (f : Object → ℕ) (xs : List (Option Object)) (i : ℕ) (o p : Object) → get_or xs i None ≡ Some o → f p ≡ f o → sum_by (of_slot f) (set xs i (Some p)) ≡ sum_by (of_slot f) xs
sum-set f [] i o p here same = refl
sum-set f (y ∷ xs) zero o p here same =
    sum_by-cons (of_slot f) (Some p) xs ∙ ap (λ (n : ℕ). n + sum_by (of_slot f) xs) (same ∙ sym (ap (of_slot f) here)) ∙ sym (sum_by-cons (of_slot f) y xs)
sum-set f (y ∷ xs) (suc i) o p here same =
    sum_by-cons (of_slot f) y (set xs i (Some p)) ∙ ap (λ (n : ℕ). of_slot f y + n) (sum-set f xs i o p here same) ∙ sym (sum_by-cons (of_slot f) y xs)

-- what is counted of slots is that of one and of the others
sum-out : (f : Object → ℕ) (xs : List (Option Object)) (i : ℕ) (o : Object) → get_or xs i None ≡ Some o → sum_by (of_slot f) xs ≡ f o + sum_by (of_slot f) (set xs i None)
sum-out f [] i o here = absurd (let c : ◌≡◌ {A = Option Object} None (Some o) = here in cc)
sum-out f (y ∷ xs) zero o here =
    let first = sum_by-cons (of_slot f) y xs in
    let now = sum_by-cons (of_slot f) None xs in
    let own : of_slot f y ≡ f o = ap (of_slot f) here in
    omega (arith, first, now, own)
sum-out f (y ∷ xs) (suc i) o here =
    let more = sum-out f xs i o here in
    let first = sum_by-cons (of_slot f) y xs in
    let now = sum_by-cons (of_slot f) y (set xs i None) in
    omega (arith, more, first, now)

-- the cost of an object without parts is that of its main item
bare-charge : (o : Object) → o.parts ≡ [] → charge o ≡ own_charge o
unfolding charge
bare-charge o none =
    let e : sum_by (λ p. part_charge o.key (signature_of o.shape) p.0 p.1) o.parts ≡ 0 = ap (λ ps. sum_by (λ (p : ℕ × PartValue). part_charge o.key (signature_of o.shape) p.0 p.1) ps) none in
    omega (arith, e)

-- an object of this cost is counted as open no longer, nor as an item
pub record CountsGone (old new : Cache) (charged : ℕ) : Type 0 where
  pub open_bytes : new.open_bytes ≡ old.open_bytes - charged
  pub items : new.items ≡ old.items - 1
  pub bytes : new.bytes ≡ old.bytes - charged
  pub limits : new.limits ≡ old.limits
  pub files : new.files ≡ old.files
  pub mark : new.mark ≡ old.mark

settled-charge : (o : Object) → charge (record o { settled = true }) ≡ charge o
unfolding charge
settled-charge o = refl

module _ (cache : Cache) (state : State) (from : Image) (k : HoldsState cache state from) (handle : ℕ) (b : Binding) (bound : binding_of cache.handles handle ≡ Some b) where
  abbrev kept : KeepsUncounted state k.layout [] from
  kept = k.kept.entries

  -- the object of the name
  abbrev pub number : ℕ
  number = (number-of state k.layout [] from kept state.names cache.handles k.names handle b bound).0

  pub named : named_by state handle ≡ Some number
  named = (number-of state k.layout [] from kept state.names cache.handles k.names handle b bound).1

  abbrev pub is : IsBoundTo state k.layout number b
  is = (number-of state k.layout [] from kept state.names cache.handles k.names handle b bound).2

  -- the state and the bindings without the name
  abbrev pub less : State
  less = with_names (set state.names handle None) state

  abbrev pub bindings : Bindings
  bindings = set cache.handles handle None

  pub less-open : is_open bindings b.entry ≡ is_named less number
  less-open = open-is-named state k.layout [] from kept (set state.names handle None) bindings (bound-less state k.layout [] from kept state.names cache.handles k.names handle) number b is

  counted : open_count cache.handles ≡ cond (is_named less number) 0 1 + open_count bindings
  counted =
      ap open_count (sym (set-back cache.handles handle b bound))
      ∙ count-more bindings handle b (let w = within-some cache.handles handle b bound in let l = length-set cache.handles handle None in omega (arith, w, l)) (set-free cache.handles handle)
      ∙ ap (λ (t : Bool). cond t 0 1 + open_count bindings) less-open

  within : handle < length less.names
  within = let w = within-some state.names handle number named in let l = length-set state.names handle None in omega (arith, w, l)

  record AreLeft (count charged : ℕ) : Type 0 where
    pub objects : count ≡ length (named_objects less)
    pub bytes : charged ≡ sum_by own_charge (named_objects less)

  are-left : (charged : ℕ) → charged ≡ (if is_named less number then cache.open_bytes else cache.open_bytes - own_charge is.object) → AreLeft (open_count bindings) charged
  are-left charged says = by (is_named less number) refl where
    by : (t : Bool) → is_named less number ≡ t → AreLeft (open_count bindings) charged
    by true e =
        let was = named-before less state handle number is.object (sym (set-back state.names handle number named)) within (set-free state.names handle) is.here refl e in
        let count : open_count cache.handles ≡ 0 + open_count bindings = counted ∙ ap (λ (t : Bool). cond t 0 1 + open_count bindings) e in
        let all = k.open_objects ∙ ap length was in
        record {
          objects = omega (arith, count, all);
          bytes = says ∙ ap (λ (t : Bool). if t then cache.open_bytes else cache.open_bytes - own_charge is.object) e ∙ k.open_bytes ∙ ap (λ (l : List Object). sum_by own_charge l) was;
        }
    by false e =
        let more : IsOneMore is.object (named_objects less) (named_objects state) = named-new less state handle number is.object (sym (set-back state.names handle number named)) within (set-free state.names handle) is.here refl e in
        let count : open_count cache.handles ≡ 1 + open_count bindings = counted ∙ ap (λ (t : Bool). cond t 0 1 + open_count bindings) e in
        let all = k.open_objects in
        let one = more.count in
        let two = more.charged in
        let bytes = k.open_bytes in
        let now : charged ≡ cache.open_bytes - own_charge is.object = says ∙ ap (λ (t : Bool). if t then cache.open_bytes else cache.open_bytes - own_charge is.object) e in
        record { objects = omega (arith, count, all, one); bytes = omega (arith, now, bytes, two) }

  -- what is kept of a state whose names are these, once the name is free
  record IsKeptAs (new : Cache) (next : State) : Type 0 where
    limits : new.limits ≡ cache.limits
    items_are : new.items ≡ items next
    bytes_are : new.bytes ≡ total next
    fewer : items next ≤ items state
    files : new.files ≡ cache.files
    mark : new.mark ≡ cache.mark
    handles : new.handles ≡ bindings
    open_bytes : new.open_bytes ≡ (if is_named less number then cache.open_bytes else cache.open_bytes - own_charge is.object)

  closes-keep : (new : Cache) (image : Image) (layout : Layout) (next : State) → next.limits ≡ state.limits → named_objects next ≡ named_objects less
      → ((name : ℕ) → IsBoundAs next layout (named_by next name) (binding_of bindings name)) → Keeps next layout [] image → Agrees cache.files image → this_id_of (byte image Index) ≡ this_id_of (byte from Index) → IsKeptAs new next → HoldsState new next image
  closes-keep new image layout next limits same-named names keeps files id so =
      let left : AreLeft (open_count bindings) new.open_bytes = are-left new.open_bytes so.open_bytes in
      record {
        layout = layout;
        kept = keeps;
        limits = limits ∙ k.limits ∙ ap bounds_of (sym so.limits);
        items_are = so.items_are;
        bytes_are = so.bytes_are;
        few = (let fewer = so.fewer in let few = k.few in omega (arith, fewer, few));
        open_objects = ap open_count so.handles ∙ left.objects ∙ ap length (sym same-named);
        open_bytes = left.bytes ∙ ap (λ (l : List Object). sum_by own_charge l) (sym same-named);
        names = λ name. subst (λ (bs : Bindings). IsBoundAs next layout (named_by next name) (binding_of bs name)) (sym so.handles) (names name);
        files = subst (λ (fs : BlockFiles). Agrees fs image) (sym so.files) files;
        mark = so.mark ∙ k.mark ∙ sym id;
      }

  -- where but for the names all is as before
  kept-as : (new : Cache) (next : State) → items next ≡ items state → total next ≡ total state → OnlyNamesChange cache new → new.handles ≡ bindings
      → new.open_bytes ≡ (if is_named less number then cache.open_bytes else cache.open_bytes - own_charge is.object) → IsKeptAs new next
  kept-as new next same-items same-total others frees charges = record {
    limits = others.limits;
    items_are = others.items ∙ k.items_are ∙ sym same-items;
    bytes_are = others.bytes ∙ k.bytes_are ∙ sym same-total;
    fewer = omega (arith, same-items);
    files = others.files;
    mark = others.mark;
    handles = frees;
    open_bytes = charges;
  }

  less-names : (o : Option ℕ) (d : Option Binding) → IsBoundAs state k.layout o d → IsBoundAs less k.layout o d
  less-names None None n = n
  less-names (Some m) (Some d) n = record { object = n.object; here = n.here; loaded = n.loaded; at = n.at; node = n.node; entry = n.entry; doomed = n.doomed; dirty = n.dirty }
  less-names None (Some d) n = absurd n
  less-names (Some m) None n = absurd n

  -- where the objects are as before
  pub less-keeps : (new : Cache) (image : Image) → Keeps less k.layout [] image → Agrees cache.files image → this_id_of (byte image Index) ≡ this_id_of (byte from Index) → OnlyNamesChange cache new
      → new.handles ≡ bindings → new.open_bytes ≡ (if is_named less number then cache.open_bytes else cache.open_bytes - own_charge is.object) → HoldsState new less image
  less-keeps new image keeps files id others frees charges =
      closes-keep new image k.layout less refl refl (λ name. less-names (named_by less name) (binding_of bindings name) (bound-less state k.layout [] from kept state.names cache.handles k.names handle name)) keeps files id (kept-as new less refl refl others frees charges)

  -- and where the object is clean with its last name
  module _ (last : is_named less number ≡ false) (alive : is.object.live ≡ true) where
    pub node-place : node_of_object k.layout number is.object ≡ k.layout.place (main is.object.key)
    node-place = ap (λ (t : Bool). if t then k.layout.place (main is.object.key) else k.layout.place_of_doomed number) alive

    pub at-place : k.layout.at (k.layout.place (main is.object.key)) ≡ Some is.loaded
    at-place = ap k.layout.at (sym node-place) ∙ is.at

    abbrev pub settled : State
    settled = turned state number is.object true (set state.names handle None)

    abbrev pub layout-now : Layout
    layout-now = dirtied k.layout (k.layout.place (main is.object.key)) is.loaded 0

    -- another object lies where it lay
    settled-bound : (m : ℕ) (d : Binding) → m ≢ number → IsBoundTo state k.layout m d → IsBoundTo settled layout-now m d
    settled-bound m d other n = record {
      object = n.object;
      here = get_or-set_other state.objects number m (Some (record is.object { settled = true })) None other ∙ n.here;
      loaded = n.loaded;
      at = at-elsewhere k.layout.at (k.layout.place (main is.object.key)) (Some (record is.loaded { dirty = 0 })) (node_of_object k.layout m n.object) (elsewhere (k.layout.place (main is.object.key) == node_of_object k.layout m n.object) refl) ∙ n.at;
      node = n.node;
      entry = n.entry;
      doomed = n.doomed;
      dirty = n.dirty;
    } where
      elsewhere : (t : Bool) → (k.layout.place (main is.object.key) == node_of_object k.layout m n.object) ≡ t → (k.layout.place (main is.object.key) == node_of_object k.layout m n.object) ≡ false
      elsewhere false e = e
      elsewhere true e = absurd (other (one-object state k.layout [] from kept m number n.object is.object n.here is.here (sym (eqb-true (k.layout.place (main is.object.key)) (node_of_object k.layout m n.object) e) ∙ sym node-place)))

    settled-names : (name : ℕ) (o : Option ℕ) (d : Option Binding) → named_by less name ≡ o → IsBoundAs state k.layout o d → IsBoundAs settled layout-now o d
    settled-names name None None e n = n
    settled-names name (Some m) (Some d) e n = settled-bound m d (λ (same : m ≡ number). not-last (sym last ∙ ap (is_named less) (sym same) ∙ named-at (set state.names handle None) name m e)) n
      where
        not-last : false ≡ true → ⊥
        not-last h = cc
    settled-names name None (Some d) e n = absurd n
    settled-names name (Some m) None e n = absurd n

    pub settled-keeps : (new : Cache) (image : Image) → Keeps settled layout-now [] image → Agrees cache.files image → this_id_of (byte image Index) ≡ this_id_of (byte from Index) → OnlyNamesChange cache new
        → new.handles ≡ bindings → new.open_bytes ≡ (if is_named less number then cache.open_bytes else cache.open_bytes - own_charge is.object) → HoldsState new settled image
    settled-keeps new image keeps files id others frees charges =
        closes-keep new image layout-now settled refl
        (named-same less settled (λ n. refl) 0 settled.objects ∙ named-set less number last 0 number (omega arith) state.objects (Some (record is.object { settled = true })))
        (λ name. settled-names name (named_by less name) (binding_of bindings name) refl (bound-less state k.layout [] from kept state.names cache.handles k.names handle name))
        keeps files id
        (kept-as new settled
        (sum-set item_count state.objects number is.object (record is.object { settled = true }) is.here refl)
        (sum-set charge state.objects number is.object (record is.object { settled = true }) is.here (settled-charge is.object))
        others frees charges)

  -- where the object is doomed, and freed with its last name
  module _ (last : is_named less number ≡ false) (dead : is.object.live ≡ false) where
    pub node-doomed : node_of_object k.layout number is.object ≡ k.layout.place_of_doomed number
    node-doomed = ap (λ (t : Bool). if t then k.layout.place (main is.object.key) else k.layout.place_of_doomed number) dead

    pub at-doomed : k.layout.at (k.layout.place_of_doomed number) ≡ Some is.loaded
    at-doomed = ap k.layout.at (sym node-doomed) ∙ is.at

    abbrev pub gone : State
    gone = with_names (set state.names handle None) (with_slot number None state)

    abbrev pub layout-gone : Layout
    layout-gone = layout_without k.layout (k.layout.place_of_doomed number)

    -- another object lies where it lay
    gone-bound : (m : ℕ) (d : Binding) → m ≢ number → IsBoundTo state k.layout m d → IsBoundTo gone layout-gone m d
    gone-bound m d other n = record {
      object = n.object;
      here = get_or-set_other state.objects number m None None other ∙ n.here;
      loaded = n.loaded;
      at = at-elsewhere k.layout.at (k.layout.place_of_doomed number) None (node_of_object k.layout m n.object) (elsewhere (k.layout.place_of_doomed number == node_of_object k.layout m n.object) refl) ∙ n.at;
      node = n.node;
      entry = n.entry;
      doomed = n.doomed;
      dirty = n.dirty;
    } where
      elsewhere : (t : Bool) → (k.layout.place_of_doomed number == node_of_object k.layout m n.object) ≡ t → (k.layout.place_of_doomed number == node_of_object k.layout m n.object) ≡ false
      elsewhere false e = e
      elsewhere true e = absurd (other (one-object state k.layout [] from kept m number n.object is.object n.here is.here (sym (eqb-true (k.layout.place_of_doomed number) (node_of_object k.layout m n.object) e) ∙ sym node-doomed)))

    gone-names : (name : ℕ) (o : Option ℕ) (d : Option Binding) → named_by less name ≡ o → IsBoundAs state k.layout o d → IsBoundAs gone layout-gone o d
    gone-names name None None e n = n
    gone-names name (Some m) (Some d) e n = gone-bound m d (λ (same : m ≡ number). not-last (sym last ∙ ap (is_named less) (sym same) ∙ named-at (set state.names handle None) name m e)) n
      where
        not-last : false ≡ true → ⊥
        not-last h = cc
    gone-names name None (Some d) e n = absurd n
    gone-names name (Some m) None e n = absurd n

    -- it has no parts, so it is one item, with the cost of a main item
    no-parts : is.object.parts ≡ []
    no-parts = let object : IsObject is.object = subst (λ (o : Option Object). IfSome o IsObject) is.here (kept.valid.objects number) in object.doomed_has_no_parts dead

    one-item : items state ≡ 1 + items gone
    one-item = let sum = sum-out item_count state.objects number is.object is.here in let one : length is.object.parts ≡ 0 = ap length no-parts in omega (arith, sum, one)

    its-bytes : total state ≡ own_charge is.object + total gone
    its-bytes = sum-out charge state.objects number is.object is.here ∙ ap (λ (n : ℕ). n + total gone) (bare-charge is.object no-parts)

    pub gone-keeps : (new : Cache) (image : Image) → Keeps gone layout-gone [] image → Agrees cache.files image → this_id_of (byte image Index) ≡ this_id_of (byte from Index) → CountsGone cache new (own_charge is.object)
        → new.handles ≡ bindings → HoldsState new gone image
    gone-keeps new image keeps files id counts frees =
        let one = one-item in
        let bytes = its-bytes in
        let items-was = k.items_are in
        let bytes-was = k.bytes_are in
        let items-now = counts.items in
        let bytes-now = counts.bytes in
        closes-keep new image layout-gone gone refl
        (named-same less gone (λ n. refl) 0 gone.objects ∙ named-set less number last 0 number (omega arith) state.objects None)
        (λ name. gone-names name (named_by less name) (binding_of bindings name) refl (bound-less state k.layout [] from kept state.names cache.handles k.names handle name))
        keeps files id
        (record {
          limits = counts.limits;
          items_are = omega (arith, one, items-was, items-now);
          bytes_are = omega (arith, bytes, bytes-was, bytes-now);
          fewer = omega (arith, one);
          files = counts.files;
          mark = counts.mark;
          handles = frees;
          open_bytes = counts.open_bytes ∙ sym (ap (λ (t : Bool). if t then cache.open_bytes else cache.open_bytes - own_charge is.object) last);
        })
