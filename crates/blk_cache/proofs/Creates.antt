-- A new object of a cache that keeps a state.
use Rattle.std.proofs.Common.{◌≡◌, ◌≢◌, ⊎_elim, ℕ, zero, suc, ◌+◌, ◌<◌, ◌≤◌, Bool, true, false, List, [], ◌∷◌, ◌++◌, length, set, get_or, Option, Some, None, refl, sym, ap, subst, ◌∙◌, arith, cond}
use Rattle.std.specs.Prelude.{◌||◌, ◌==◌, IfSome, IsSome, if◌then◌else◌, is_some, slice_index_or, unwrap_or}
use Rattle.std.specs.List.{list_any}
use Rattle.std.specs.Option.{option_map}
use Rattle.std.proofs.lemmas.Bool.{cases_Bool, cases_eq}
use Rattle.std.proofs.lemmas.List.Sums.{sum_by_push}
use Rattle.spec_image.specs.Image.{Image, Index, byte}
use Rattle.blk_model.specs.Bounds.{bounds_of}
use Rattle.blk_model.specs.Effects.{created, new_object}
use Rattle.blk_model.specs.Holding.{owner}
use Rattle.blk_model.specs.Items.{main, same_item}
use Rattle.blk_model.specs.Room.{charge, count_of, item_count, items, of_slot, own_charge, total, total_of}
use Rattle.blk_model.specs.State.{Bounds, Object, State, is_named, is_number, named_by, object_at}
use Rattle.blk_model.proofs.Each.{push_at}
use Rattle.blk_model.proofs.Same.{one_item, same_item_self}
use Rattle.blk_model.proofs.States.{some_of}
use Rattle.spec_format.specs.Headers.{this_id_of}
use Rattle.spec_folder.specs.Creation.{with_new}
use Rattle.spec_folder.specs.Layout.{Layout}
use Rattle.spec_folder.specs.Loads.{Loaded}
use Rattle.law_folder.proofs.states.Changing.{at-elsewhere, at-itself}
use Rattle.law_folder.proofs.states.Settling.{main-owned}
use Rattle.blk_handles.specs.Bindings.{Binding, Bindings, binding_for, binding_of, is_open, open_count, open_with}
use Rattle.blk_handles.proofs.Basics.{apart}
use Rattle.blk_handles.proofs.BindingLemmas.{open_with-named, open_with_told}
use Rattle.blk_disk.specs.declared.tables.BlockFiles.{BlockFiles}
use Rattle.blk_disk.specs.Tables.{Agrees}
use Rattle.law_state.specs.Keeping.{KeepsUncounted}
use Rattle.blk_object.specs.declared.making.Made.{Made}
use Rattle.blk_object.specs.Making.{CanHaveNew, HasNewObject}
use Rattle.blk_object.specs.Writing.{node_of_object}
use Rattle.blk_cache.specs.declared.cache.Cache.{Cache}
use Rattle.blk_cache.specs.CacheKeeping.{IsBoundAs, IsBoundTo, HoldsState, named_from, named_objects}
use Rattle.blk_cache.specs.Creating.{sum_within}
use Rattle.blk_cache.proofs.BoundObjects.{bound-more, free-of, number-of, one-object, same-bound}
use Rattle.blk_cache.proofs.NamedObjects.{IsOneMore, count-more, named-new, named-total}

-- ---- slots

-- what is in a slot is so with one slot more at the end
push-before : {A : Type 0} (slots : List (Option A)) (slot : Option A) (n : ℕ) (x : A) → get_or slots n None ≡ Some x → get_or (slots ++ slot ∷ []) n None ≡ Some x
push-before {A} [] slot n x e = absurd (let c : ◌≡◌ {A = Option A} None (Some x) = e in cc)
push-before {A} (s ∷ slots) slot zero x e = e
push-before {A} (s ∷ slots) slot (suc n) x e = push-before slots slot n x e

-- after the last slot there is nothing
past-last : {A : Type 0} (slots : List (Option A)) → get_or slots (length slots) None ≡ None
past-last [] = refl
past-last (s ∷ slots) = past-last slots

-- a number that is in no slot
not-any : (slots : List (Option ℕ)) (n : ℕ) → ((name : ℕ) → slice_index_or slots name None ≡ Some n → ⊥) → list_any (is_number n) slots ≡ false
not-any [] n none = refl
not-any (None ∷ slots) n none = not-any slots n (λ name. none (suc name))
not-any (Some m ∷ slots) n none = ⊎_elim
    (λ (e : n ≡ m). absurd (none 0 (ap Some (sym e))))
    (λ (e : n ≢ m). ap (λ (b : Bool). b || list_any (is_number n) slots) (apart n m e) ∙ not-any slots n (λ name. none (suc name)))
    (cases_eq n m)

-- an object in a slot more, that isn't named
named-push : (t : State) (number : ℕ) → is_named t number ≡ false → (o : Object) (base : ℕ) (slots : List (Option Object)) → base + length slots ≡ number → named_from t base (slots ++ Some o ∷ []) ≡ named_from t base slots
named-push t number none o base [] e = let at : base ≡ number = omega (arith, e) in ap (λ (b : Bool). if b then o ∷ [] else []) (ap (is_named t) at ∙ none)
named-push t number none o base (None ∷ slots) e = named-push t number none o (base + 1) slots (omega (arith, e))
named-push t number none o base (Some p ∷ slots) e = ap (λ (l : List Object). if is_named t base then p ∷ l else l) (named-push t number none o (base + 1) slots (omega (arith, e)))

-- ---- the state

module _ (state : State) (handle : ℕ) (key : List ℕ) where
  objects-after : (created handle key state).objects ≡ state.objects ++ Some (new_object key) ∷ []
  unfolding created
  objects-after = refl

  names-after : (created handle key state).names ≡ set state.names handle (Some (length state.objects))
  unfolding created
  names-after = refl

  limits-after : (created handle key state).limits ≡ state.limits
  unfolding created
  limits-after = refl

  new-here : object_at (created handle key state) (length state.objects) ≡ Some (new_object key)
  new-here = ap (λ (slots : List (Option Object)). slice_index_or slots (length state.objects) None) objects-after ∙ push_at state.objects (Some (new_object key))

  old-here : (n : ℕ) (o : Object) → object_at state n ≡ Some o → object_at (created handle key state) n ≡ Some o
  old-here n o e = ap (λ (slots : List (Option Object)). slice_index_or slots n None) objects-after ∙ push-before state.objects (Some (new_object key)) n o e

  old-number : (n : ℕ) (o : Object) → object_at state n ≡ Some o → n ≢ length state.objects
  old-number n o e same = let c : ◌≡◌ {A = Option Object} None (Some o) = sym (past-last state.objects) ∙ ap (object_at state) (sym same) ∙ e in cc

  new-charge : charge (new_object key) ≡ length key
  unfolding charge
  new-charge = omega arith

  new-own : own_charge (new_object key) ≡ length key
  new-own = omega arith

  pub total-after : total (created handle key state) ≡ total state + length key
  total-after = ap total_of objects-after ∙ sum_by_push (of_slot charge) state.objects (Some (new_object key)) ∙ ap (λ (n : ℕ). total state + n) new-charge

  pub items-after : items (created handle key state) ≡ items state + 1
  items-after = ap count_of objects-after ∙ sum_by_push (of_slot item_count) state.objects (Some (new_object key))

-- ---- the cache

module _ (cache : Cache) (state : State) (from image : Image) (k : HoldsState cache state from) (handle : ℕ) (key : List ℕ) (made : Made) (can : CanHaveNew state handle key) (has : HasNewObject state k.layout handle key made from image) where
  abbrev next : State
  next = created handle key state

  abbrev layout : Layout
  layout = with_new k.layout key has.loaded

  abbrev kept : KeepsUncounted next layout [] image
  kept = has.kept.entries

  abbrev number : ℕ
  number = length state.objects

  -- nodes
  node-new : node_of_object layout number (new_object key) ≡ has.loaded.node
  node-new = ap (λ (b : Bool). if b then has.loaded.node else k.layout.place (main key)) (same_item_self (main key))

  place-old : (n : ℕ) (o : Object) → object_at state n ≡ Some o → o.live ≡ true → layout.place (main o.key) ≡ k.layout.place (main o.key)
  place-old n o here alive = ap (λ (b : Bool). if b then has.loaded.node else k.layout.place (main o.key)) (⊎_elim
      (λ (h : same_item (main o.key) (main key) ≡ true).
      absurd (let c : ◌≡◌ {A = Option ℕ} None (Some n) = sym can.missing ∙ ap (owner state) (sym (one_item (main o.key) (main key) h)) ∙ main-owned state k.kept.entries.valid n o true here alive in cc))
      (λ (h : same_item (main o.key) (main key) ≡ false). h)
      (cases_Bool (same_item (main o.key) (main key))))

  node-old : (n : ℕ) (o : Object) → object_at state n ≡ Some o → node_of_object layout n o ≡ node_of_object k.layout n o
  node-old n o here = by o.live refl where
    by : (b : Bool) → o.live ≡ b → (if b then layout.place (main o.key) else layout.place_of_doomed n) ≡ (if b then k.layout.place (main o.key) else k.layout.place_of_doomed n)
    by true alive = place-old n o here alive
    by false dead = refl

  -- the node of the new object is that of no other
  node-apart : (n : ℕ) (o : Object) → object_at state n ≡ Some o → (has.loaded.node == node_of_object k.layout n o) ≡ false
  node-apart n o here = apart has.loaded.node (node_of_object k.layout n o)
      (λ same. old-number state handle key n o here (one-object next layout [] image kept n number o (new_object key) (old-here state handle key n o here) (new-here state handle key) (node-old n o here ∙ sym same ∙ sym node-new)))

  -- what a name was bound to it is bound to
  next-bound : (n : ℕ) (b : Binding) → IsBoundTo state k.layout n b → IsBoundTo next layout n b
  next-bound n b is = record {
    object = is.object;
    here = old-here state handle key n is.object is.here;
    loaded = is.loaded;
    at = ap layout.at (node-old n is.object is.here) ∙ at-elsewhere k.layout.at has.loaded.node (Some has.loaded) (node_of_object k.layout n is.object) (node-apart n is.object is.here) ∙ is.at;
    node = is.node ∙ sym (node-old n is.object is.here);
    entry = is.entry;
    doomed = is.doomed;
    dirty = is.dirty;
  }

  next-names : (o : Option ℕ) (b : Option Binding) → IsBoundAs state k.layout o b → IsBoundAs next layout o b
  next-names None None n = n
  next-names (Some m) (Some b) n = next-bound m b n
  next-names None (Some b) n = absurd n
  next-names (Some m) None n = absurd n

  -- what the new name is to be bound to
  abbrev new-binding : Binding
  new-binding = record { entry = made.entry; node = made.node; doomed = false; dirty = true }

  at-new : layout.at (node_of_object layout number (new_object key)) ≡ Some has.loaded
  at-new = ap layout.at node-new ∙ at-itself k.layout.at has.loaded.node (Some has.loaded)

  new-bound : IsBoundTo next layout number new-binding
  new-bound = record { object = new_object key; here = new-here state handle key; loaded = has.loaded; at = at-new; node = sym has.node_is ∙ sym node-new; entry = sym has.record_is; doomed = refl; dirty = refl }

  -- no name is bound to its record yet
  not-open : open_with cache.handles made.entry ≡ None
  not-open = by (open_with cache.handles made.entry) refl where
    by : (o : Option Binding) → open_with cache.handles made.entry ≡ o → o ≡ None
    by None e = refl
    by (Some b) e =
        let n = open_with-named cache.handles made.entry b e in
        let m = number-of state k.layout [] from k.kept.entries state.names cache.handles k.names n.0 b n.1 in
        absurd (old-number state handle key m.0 m.2.object m.2.here (same-bound next layout [] image kept m.0 number b new-binding (next-bound m.0 b m.2) new-bound (sym n.2)))

  is-shut : is_open cache.handles made.entry ≡ false
  is-shut = sym (open_with_told (λ (b : Binding). b) cache.handles made.entry) ∙ ap (λ (o : Option Binding). is_some (option_map (λ (b : Binding). b) o)) not-open

  -- and no name names its number
  not-named : is_named state number ≡ false
  not-named = not-any state.names number (λ name e.
      let there = some_of (object_at state number) (subst (λ (o : Option ℕ). IfSome o (λ n. IsSome (object_at state n))) e (k.kept.entries.valid.bound name)) in
      old-number state handle key number there.0 there.1 refl)

  -- the number of the session stays
  same-session : this_id_of (byte image Index) ≡ this_id_of (byte from Index)
  same-session =
      let marked : IfSome (layout.at (layout.place (main key))) (λ loaded. loaded.dirty ≡ this_id_of (byte image Index)) = kept.session.marked number (new_object key) (new-here state handle key) refl refl in
      sym (subst (λ (o : Option Loaded). IfSome o (λ loaded. loaded.dirty ≡ this_id_of (byte image Index))) at-new marked) ∙ has.mark_is

  module _ (node : ℕ) (other : open_with cache.handles made.entry ≡ None → node ≡ made.node) (within : handle < length state.names) (also : handle < length cache.handles) (free : binding_of cache.handles handle ≡ None) where
    -- what the name is bound to
    bound-now : binding_for cache.handles made.entry node true ≡ new-binding
    bound-now = ap (λ (o : Option Binding). unwrap_or o (record { entry = made.entry; node = node; doomed = false; dirty = true })) not-open ∙ ap (λ (n : ℕ). record { entry = made.entry; node = n; doomed = false; dirty = true }) (other not-open)

    abbrev now : Bindings
    now = set cache.handles handle (Some new-binding)

    names-now : (name : ℕ) → IsBoundAs next layout (named_by next name) (binding_of now name)
    names-now name =
        subst (λ (names : List (Option ℕ)). IsBoundAs next layout (slice_index_or names name None) (binding_of now name)) (sym (names-after state handle key))
        (bound-more next layout [] image kept state.names cache.handles (λ n. next-names (named_by state n) (binding_of cache.handles n) (k.names n)) handle number new-binding new-bound within also name)

    unnamed : get_or state.names handle None ≡ None
    unnamed = free-of state k.layout [] from k.kept.entries state.names cache.handles k.names handle free

    -- one object more is open
    one-more : IsOneMore (new_object key) (named_objects state) (named_objects next)
    one-more = named-new state next handle number (new_object key) (names-after state handle key) within unnamed (new-here state handle key)
        (sym (ap (named_from state 0) (objects-after state handle key) ∙ named-push state number not-named (new_object key) 0 state.objects (omega arith))) not-named

    open-counted : open_count now ≡ 1 + open_count cache.handles
    open-counted = count-more cache.handles handle new-binding also free ∙ ap (λ (b : Bool). cond b 0 1 + open_count cache.handles) is-shut

    pub created-keeps : (new : Cache) (files : BlockFiles) → Agrees files image → total state + length key ≤ state.limits.max_bytes
        → new.handles ≡ set cache.handles handle (Some (binding_for cache.handles made.entry node true)) → new.items ≡ sum_within cache.items 1 → new.bytes ≡ sum_within cache.bytes (length key) → new.open_bytes ≡ sum_within cache.open_bytes (length key)
        → new.limits ≡ cache.limits → new.files ≡ files → new.mark ≡ cache.mark → HoldsState new next image
    created-keeps new files agrees room binds items-now bytes-now open-now limits-now files-now mark-now =
        let binds-new : new.handles ≡ now = binds ∙ ap (λ (b : Binding). set cache.handles handle (Some b)) bound-now in
        let few = can.few in
        let most = cache.limits.few_bytes in
        let limit : state.limits.max_bytes ≡ cache.limits.max_bytes = ap (λ (b : Bounds). b.max_bytes) k.limits in
        let items-was = k.items_are in
        let bytes-was = k.bytes_are in
        let open-was = k.open_bytes in
        let count-was = k.open_objects in
        let items-next = items-after state handle key in
        let total-next = total-after state handle key in
        let own = new-own state handle key in
        let all = named-total state 0 state.objects in
        let one = one-more.count in
        let two = one-more.charged in
        let counted : open_count new.handles ≡ 1 + open_count cache.handles = ap open_count binds-new ∙ open-counted in
        record {
          layout = layout;
          kept = has.kept;
          limits = limits-after state handle key ∙ k.limits ∙ ap bounds_of (sym limits-now);
          items_are = omega (arith, few, items-was, items-now, items-next);
          bytes_are = omega (arith, room, most, limit, bytes-was, bytes-now, total-next);
          few = omega (arith, few, items-next);
          open_objects = omega (arith, counted, count-was, one);
          open_bytes = omega (arith, room, most, limit, open-was, open-now, own, all, two);
          names = λ name. subst (λ (bs : Bindings). IsBoundAs next layout (named_by next name) (binding_of bs name)) (sym binds-new) (names-now name);
          files = subst (λ (fs : BlockFiles). Agrees fs image) (sym files-now) agrees;
          mark = mark-now ∙ k.mark ∙ sym same-session;
        }
