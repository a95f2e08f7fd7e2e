-- An Open of a cache that keeps a state.
use Rattle.std.proofs.Common.{◌≡◌, ⊎_elim, ℕ, ◌+◌, ◌<◌, ◌^◌, Bool, true, false, List, [], length, set, Option, Some, None, refl, sym, ap, subst, ◌∙◌, arith, cond}
use Rattle.std.specs.Prelude.{◌&&◌, IfSome, if◌then◌else◌, is_some, not, sum_by, unwrap_or}
use Rattle.std.specs.Option.{ForSome, option_map}
use Rattle.std.proofs.lemmas.Bool.{cases_Bool}
use Rattle.spec_image.specs.Image.{Image, Index, byte}
use Rattle.spec_image.proofs.Runs.{some_inj}
use Rattle.blk_model.specs.Bounds.{bounds_of}
use Rattle.blk_model.specs.Items.{Item, main}
use Rattle.blk_model.specs.Room.{own_charge}
use Rattle.blk_model.specs.State.{Object, State, is_named, named_by}
use Rattle.spec_format.specs.Headers.{this_id_of}
use Rattle.law_folder.proofs.claims.Owner.{IsOwned, its-key, live, owned}
use Rattle.blk_handles.specs.Bindings.{Binding, Bindings, binding_for, binding_of, is_open, open_count, open_with}
use Rattle.blk_handles.proofs.BindingLemmas.{open_with-named, open_with_told}
use Rattle.blk_disk.specs.declared.tables.BlockFiles.{BlockFiles}
use Rattle.blk_disk.specs.Tables.{Agrees}
use Rattle.law_state.specs.CommandStates.{in_order, with_names}
use Rattle.law_state.specs.Keeping.{Keeps, KeepsUncounted}
use Rattle.blk_object.specs.Writing.{node_of_object}
use Rattle.blk_cache.specs.declared.cache.Cache.{Cache}
use Rattle.blk_evict.specs.declared.looking.Live.{Live}
use Rattle.blk_cache.specs.CacheKeeping.{IsBoundAs, IsBoundTo, HoldsState, named_objects}
use Rattle.blk_cache.specs.CommandClauses.{OnlyNamesChange, charged_with}
use Rattle.blk_evict.specs.Looking.{IsLiveAt}
use Rattle.blk_cache.proofs.BoundObjects.{bound-more, free-of, number-of, open-is-named, same-bound}
use Rattle.blk_cache.proofs.NamedObjects.{count-more, named-before, named-new, named-total}

module _ (cache : Cache) (state : State) (from : Image) (k : HoldsState cache state from) (key : List ℕ) (found : Live) (at : IsLiveAt state k.layout key found) where
  abbrev kept : KeepsUncounted state k.layout [] from
  kept = k.kept.entries

  is-owned : IsOwned state (main key) at.number
  is-owned = owned state (main key) at.number at.is

  objects-same : is-owned.object ≡ at.object
  objects-same = some_inj (sym is-owned.here ∙ at.here)

  alive : at.object.live ≡ true
  alive = ap (λ (o : Object). o.live) (sym objects-same) ∙ live is-owned.object (main key) is-owned.has

  key-is : key ≡ at.object.key
  key-is = its-key is-owned.object (main key) is-owned.has ∙ ap (λ (o : Object). o.key) objects-same

  -- the node of the object is that of its item
  node-place : node_of_object k.layout at.number at.object ≡ k.layout.place (main key)
  node-place = ap (λ (b : Bool). if b then k.layout.place (main at.object.key) else k.layout.place_of_doomed at.number) alive ∙ ap (λ (z : List ℕ). k.layout.place (main z)) (sym key-is)

  -- what a name of it is bound to
  abbrev its-binding : Binding
  its-binding = record { entry = found.entry; node = node_of_object k.layout at.number at.object; doomed = not at.object.live; dirty = not at.object.settled }

  at-node : k.layout.at (node_of_object k.layout at.number at.object) ≡ Some at.loaded
  at-node = ap k.layout.at (node-place ∙ sym at.node) ∙ at.at

  its-bound : IsBoundTo state k.layout at.number its-binding
  its-bound = record { object = at.object; here = at.here; loaded = at.loaded; at = at-node; node = refl; entry = at.entry; doomed = refl; dirty = refl }

  -- what is open with its record is bound to it
  open-bound-to : (b : Binding) → open_with cache.handles found.entry ≡ Some b → IsBoundTo state k.layout at.number b
  open-bound-to b e =
      let n = open_with-named cache.handles found.entry b e in
      let m = number-of state k.layout [] from kept state.names cache.handles k.names n.0 b n.1 in
      subst (λ (z : ℕ). IsBoundTo state k.layout z b) (same-bound state k.layout [] from kept m.0 at.number b its-binding m.2 its-bound (sym n.2)) m.2

  open-as-named : is_open cache.handles found.entry ≡ is_named state at.number
  open-as-named = open-is-named state k.layout [] from kept state.names cache.handles k.names at.number its-binding its-bound

  -- where it isn't open it is clean
  closed-settled : open_with cache.handles found.entry ≡ None → at.object.settled ≡ true
  closed-settled none = ⊎_elim
      (λ (h : at.object.settled ≡ true). h)
      (λ (h : at.object.settled ≡ false).
      let held : is_named state at.number ≡ true = subst (λ (o : Option Object). IfSome o (λ object. (object.live && object.settled ≡ false) → is_named state at.number ≡ true)) at.here (kept.valid.held at.number) (rw (alive, h) refl) in
      let shut : is_open cache.handles found.entry ≡ false = sym (open_with_told (λ (b : Binding). b) cache.handles found.entry) ∙ ap (λ (o : Option Binding). is_some (option_map (λ (b : Binding). b) o)) none in
      absurd (let c : true ≡ false = sym held ∙ sym open-as-named ∙ shut in cc))
      (cases_Bool at.object.settled)

  module _ (node : ℕ) (same : ForSome (open_with cache.handles found.entry) (λ b. b.node ≡ node)) (other : open_with cache.handles found.entry ≡ None → node ≡ found.node) where
    -- the node that is accessed is that of the item
    pub used-node : node ≡ k.layout.place (main key)
    used-node = by (open_with cache.handles found.entry) refl where
      by : (o : Option Binding) → open_with cache.handles found.entry ≡ o → node ≡ k.layout.place (main key)
      by None e = other e ∙ at.node
      by (Some b) e =
          let is : IsBoundTo state k.layout at.number b = open-bound-to b e in
          let one : is.object ≡ at.object = some_inj (sym is.here ∙ at.here) in
          sym (same b e) ∙ is.node ∙ ap (node_of_object k.layout at.number) one ∙ node-place

    -- what the name is to be bound to
    bound-now : IsBoundTo state k.layout at.number (binding_for cache.handles found.entry node false)
    bound-now = by (open_with cache.handles found.entry) refl where
      by : (o : Option Binding) → open_with cache.handles found.entry ≡ o → IsBoundTo state k.layout at.number (unwrap_or o (record { entry = found.entry; node = node; doomed = false; dirty = false }))
      by None e = record {
        object = at.object;
        here = at.here;
        loaded = at.loaded;
        at = at-node;
        node = other e ∙ at.node ∙ sym node-place;
        entry = at.entry;
        doomed = ap not (sym alive);
        dirty = ap not (sym (closed-settled e));
      }
      by (Some b) e = open-bound-to b e

    entry-now : (binding_for cache.handles found.entry node false).entry ≡ found.entry
    entry-now = bound-now.entry ∙ ap (λ l. l.contents) (some_inj (sym bound-now.at ∙ ap (λ (o : Object). k.layout.at (node_of_object k.layout at.number o)) (some_inj (sym bound-now.here ∙ at.here)) ∙ at-node)) ∙ sym at.entry

    module _ (handle : ℕ) (uses : List Item) (within : handle < length state.names) (also : handle < length cache.handles) (free : binding_of cache.handles handle ≡ None) where
      abbrev next : State
      next = with_names (set state.names handle (Some at.number)) (in_order uses state)

      unnamed : named_by state handle ≡ None
      unnamed = free-of state k.layout [] from kept state.names cache.handles k.names handle free

      next-bound : (number : ℕ) (b : Binding) → IsBoundTo state k.layout number b → IsBoundTo next k.layout number b
      next-bound number b is = record { object = is.object; here = is.here; loaded = is.loaded; at = is.at; node = is.node; entry = is.entry; doomed = is.doomed; dirty = is.dirty }

      next-names : (o : Option ℕ) (b : Option Binding) → IsBoundAs state k.layout o b → IsBoundAs next k.layout o b
      next-names None None n = n
      next-names (Some number) (Some b) n = next-bound number b n
      next-names None (Some b) n = absurd n
      next-names (Some number) None n = absurd n

      -- the open objects, and the sum of their costs
      abbrev now : Bindings
      now = set cache.handles handle (Some (binding_for cache.handles found.entry node false))

      counted : open_count now ≡ cond (is_named state at.number) 0 1 + open_count cache.handles
      counted = count-more cache.handles handle (binding_for cache.handles found.entry node false) also free ∙ ap (λ (b : Bool). cond b 0 1 + open_count cache.handles) (ap (is_open cache.handles) entry-now ∙ open-as-named)

      record AreOpen (count charged : ℕ) : Type 0 where
        pub objects : count ≡ length (named_objects next)
        pub bytes : charged ≡ sum_by own_charge (named_objects next)

      are-open : (charged : ℕ) → charged ≡ charged_with cache.open_bytes (is_open cache.handles found.entry) found.charge → cache.bytes < 2 ^ 64 → AreOpen (open_count now) charged
      are-open charged is few = by (is_named state at.number) refl where
        by : (b : Bool) → is_named state at.number ≡ b → AreOpen (open_count now) charged
        by true e =
            let was = named-before state next handle at.number at.object refl within unnamed at.here refl e in
            let count : open_count now ≡ open_count cache.handles = (let c : open_count now ≡ 0 + open_count cache.handles = counted ∙ ap (λ (b : Bool). cond b 0 1 + open_count cache.handles) e in omega (arith, c)) in
            record {
              objects = count ∙ k.open_objects ∙ ap length (sym was);
              bytes = is ∙ ap (λ (b : Bool). charged_with cache.open_bytes b found.charge) (open-as-named ∙ e) ∙ k.open_bytes ∙ ap (λ (l : List Object). sum_by own_charge l) (sym was);
            }
        by false e =
            let more = named-new state next handle at.number at.object refl within unnamed at.here refl e in
            let count : open_count now ≡ 1 + open_count cache.handles = counted ∙ ap (λ (b : Bool). cond b 0 1 + open_count cache.handles) e in
            let sum : charged ≡ charged_with cache.open_bytes false found.charge = is ∙ ap (λ (b : Bool). charged_with cache.open_bytes b found.charge) (open-as-named ∙ e) in
            let most = named-total next 0 next.objects in
            let all = k.bytes_are in
            let one = more.count in
            let two = more.charged in
            let was = k.open_objects in
            let bytes = k.open_bytes in
            let charge = at.charge in
            record { objects = omega (arith, count, one, was); bytes = omega (arith, sum, most, all, two, bytes, charge, few) }

      pub opened-keeps : (new : Cache) (image : Image) → Keeps next k.layout [] image → Agrees cache.files image → this_id_of (byte image Index) ≡ this_id_of (byte from Index) → OnlyNamesChange cache new → cache.bytes < 2 ^ 64
          → new.handles ≡ now → new.open_bytes ≡ charged_with cache.open_bytes (is_open cache.handles found.entry) found.charge → HoldsState new next image
      opened-keeps new image keeps files id others few binds charges =
          let open_ : AreOpen (open_count now) new.open_bytes = are-open new.open_bytes charges few in
          record {
            layout = k.layout;
            kept = keeps;
            limits = k.limits ∙ ap bounds_of (sym others.limits);
            items_are = others.items ∙ k.items_are;
            bytes_are = others.bytes ∙ k.bytes_are;
            few = k.few;
            open_objects = ap open_count binds ∙ open_.objects;
            open_bytes = open_.bytes;
            names = λ name. subst (λ (bs : Bindings). IsBoundAs next k.layout (named_by next name) (binding_of bs name)) (sym binds)
                (next-names (named_by next name) (binding_of now name) (bound-more state k.layout [] from kept state.names cache.handles k.names handle at.number (binding_for cache.handles found.entry node false) bound-now within also name));
            files = subst (λ (fs : BlockFiles). Agrees fs image) (sym others.files) files;
            mark = others.mark ∙ k.mark ∙ sym id;
          }
