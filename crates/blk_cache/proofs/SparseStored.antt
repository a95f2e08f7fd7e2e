-- What a cache keeps once sparse data are written to an open object that is dirty.
use Rattle.std.proofs.Common.{◌≡◌, ◌≢◌, ⊎_elim, ℕ, ◌+◌, ◌<◌, ◌≤◌, ◌^◌, Bool, true, false, not, List, [], length, Option, Some, None, Result, T, refl, sym, ap, subst, ◌∙◌, arith}
use Rattle.std.specs.Prelude.{IfSome, if◌then◌else◌}
use Rattle.std.specs.Bool.{passes}
use Rattle.std.specs.FinMap.{is_sorted}
use Rattle.std.specs.Ordering.{nat_cmp}
use Rattle.std.specs.Option.{ForSome}
use Rattle.std.proofs.lemmas.Bool.{cases_eq}
use Rattle.spec_image.specs.Image.{Image}
use Rattle.spec_image.specs.Told.{Passes, Told}
use Rattle.spec_image.proofs.Runs.{some_inj}
use Rattle.blk_io.specs.Faults.{IfDamaged}
use Rattle.blk_io.specs.declared.fault.Fault.{Fault}
use Rattle.blk_model.specs.Bounds.{bounds_of}
use Rattle.blk_model.specs.Holding.{rest}
use Rattle.blk_model.specs.Charge.{main_charge}
use Rattle.blk_model.specs.Items.{Row, Shape, main, main_row, part_row, plain, signature_of, sparse}
use Rattle.blk_model.specs.Room.{item_count, items, own_charge}
use Rattle.blk_model.specs.Sparse.{covered_parts}
use Rattle.blk_model.specs.State.{IsObject, Object, State, named_by, object_at}
use Rattle.spec_folder.specs.Entries.{IsParent, IsPart, IsPlain, Role}
use Rattle.spec_format.specs.Names.{Name}
use Rattle.spec_format.specs.SparseIndex.{ParentIndex, PartIndex}
use Rattle.spec_folder.specs.Found.{row_of_loaded, row_with}
use Rattle.spec_folder.specs.Loads.{Loaded}
use Rattle.blk_disk.specs.Tables.{Agrees}
use Rattle.blk_handles.specs.Bindings.{Binding, Bindings, binding_of, open_count}
use Rattle.law_state.specs.Changes.{Finds}
use Rattle.law_state.proofs.Dirtying.{set-at, set-else}
use Rattle.blk_object.specs.Writing.{node_of_object}
use Rattle.blk_object.proofs.WrittenObjects.{object-row}
use Rattle.blk_sparse.specs.declared.storing.Target.{Target}
use Rattle.blk_sparse.specs.SparseObjects.{missing_parts, with_signature}
use Rattle.blk_sparse.specs.SparseWrites.{CanBeStored, ForEachToStore, IsKeptWithBytes, MayGetParts, object_written, signature_to, sparse_state}
use Rattle.blk_sparse.proofs.PartCharges.{more-written}
use Rattle.blk_cache.specs.declared.cache.Cache.{Cache}
use Rattle.blk_cache.specs.CacheKeeping.{IsBoundAs, IsBoundTo, HoldsState, named_objects}
use Rattle.blk_cache.specs.Creating.{sum_within}
use Rattle.blk_cache.specs.SparseWriting.{CanStore, IsTargetOf, KeepsToStore, index_charge, own_target}
use Rattle.blk_cache.proofs.ChangedObjects.{IsOneChanged, bound-to, its-named, its-object, named-changed, sum-changed}
use Rattle.blk_cache.proofs.CreateWhole.{untold-by}
use Rattle.blk_cache.proofs.NamedObjects.{named-same, named-total}

-- by how much the cost of an object as a main item rises
pub own-more : (object : Object) (target : Target) (offset : ℕ) (bytes : List ℕ) → IsTargetOf object target → own_charge (object_written object (signature_to target) offset bytes) ≡ own_charge object + index_charge target
own-more object target offset bytes is = by target.plain refl where
  by : (t : Bool) → target.plain ≡ t → own_charge (with_signature object (signature_to target)) ≡ own_charge object + (if t then 8256 else 0)
  by true e =
      let p = is.of_plain e in
      let was : own_charge object ≡ length object.key + length object.streams.0 + length object.streams.1 + length object.streams.2 = ap (λ (s : Shape). main_charge object.key s object.streams) p.0 in
      let second : length object.streams.1 ≡ 0 = ap length p.1.0 in
      let third : length object.streams.2 ≡ 0 = ap length p.1.1 in
      omega (arith, was, second, third)
  by false e =
      let same : own_charge (with_signature object (signature_to target)) ≡ own_charge object = ap (λ (s : Shape). main_charge object.key s object.streams) (sym (is.of_sparse e)) in
      omega (arith, same)

-- what is counted, whatever the block files are
pub record CountedParts (old new : Cache) (target : Target) (more_bytes more_items : ℕ) : Type 0 where
  pub items : new.items ≡ sum_within old.items more_items
  pub bytes : new.bytes ≡ sum_within old.bytes more_bytes
  pub open_bytes : new.open_bytes ≡ sum_within old.open_bytes (index_charge target)
  pub limits : new.limits ≡ old.limits
  pub handles : new.handles ≡ old.handles
  pub mark : new.mark ≡ old.mark

-- nothing is cut off where it fits
within-all : (a b : ℕ) → a + b < 2 ^ 64 → sum_within a b ≡ a + b
within-all a b small = omega (arith, small)

module _ (cache : Cache) (state : State) (from : Image) (k : HoldsState cache state from) (handle offset : ℕ) (bytes : List ℕ) (target : Target) (more_bytes more_items : ℕ) (can : CanStore state handle offset bytes target more_bytes more_items) (b : Binding) (bound : binding_of cache.handles handle ≡ Some b) where
  abbrev number : ℕ
  number = can.number

  abbrev object : Object
  object = can.object

  abbrev other : Object
  other = object_written can.object (signature_to target) offset bytes

  abbrev next : State
  next = sparse_state state can.number can.object (signature_to target) offset bytes

  -- its node and its record are what its name is bound to
  abbrev own : Target
  own = own_target b.node b.entry target

  abbrev it : IsBoundTo state k.layout can.number b
  it = bound-to cache state from k handle can.number can.object can.names b bound

  same : it.object ≡ can.object
  same = its-object cache state from k handle can.number can.object can.names b it

  live-node : node_of_object k.layout can.number can.object ≡ k.layout.place (main can.object.key)
  live-node = ap (λ (t : Bool). if t then k.layout.place (main can.object.key) else k.layout.place_of_doomed can.number) can.live

  lies-there : k.layout.at (k.layout.place (main can.object.key)) ≡ Some it.loaded
  lies-there = ap k.layout.at (sym live-node) ∙ ap (λ (o : Object). k.layout.at (node_of_object k.layout can.number o)) (sym same) ∙ it.at

  -- ---- what store_sparse asks

  its-row : row_of_loaded it.loaded ≡ main_row can.object.key can.object.shape can.object.streams
  its-row = (object-row state k.layout [] from k.kept.entries can.number can.object can.names.here it.loaded (ap (λ (o : Object). k.layout.at (node_of_object k.layout can.number o)) (sym same) ∙ it.at)).row

  may-get : MayGetParts can.object it.loaded (own_target b.node b.entry target)
  may-get = record {
    of_plain = can.is.of_plain;
    of_sparse = can.is.of_sparse;
    of_parent = λ e. parent-of it.loaded.role refl (its-row ∙ ap (λ (s : Shape). main_row can.object.key s can.object.streams) (can.is.of_sparse e));
  }
    where
      sign-of : Row → ℕ
      sign-of (main_row key shape streams) = signature_of shape
      sign-of (part_row key n value) = 0

      plain-not : row_with it.loaded.key IsPlain it.loaded.streams ≡ main_row can.object.key (sparse (signature_to target)) can.object.streams → ⊥
      plain-not h = cc

      part-not : (name : Name) (index : PartIndex) → row_with it.loaded.key (IsPart name index) it.loaded.streams ≡ main_row can.object.key (sparse (signature_to target)) can.object.streams → ⊥
      part-not name index h = cc

      parent-of : (role : Role) → it.loaded.role ≡ role → row_of_loaded it.loaded ≡ main_row can.object.key (sparse (signature_to target)) can.object.streams → (index : ParentIndex) × ((it.loaded.role ≡ IsParent index) × (index.signature ≡ signature_to target))
      parent-of IsPlain e row = absurd (plain-not (sym (ap (λ (r : Role). row_with it.loaded.key r it.loaded.streams) e) ∙ row))
      parent-of (IsParent index) e row = (index, (e, ap sign-of (sym (ap (λ (r : Role). row_with it.loaded.key r it.loaded.streams) e) ∙ row)))
      parent-of (IsPart name index) e row = absurd (part-not name index (sym (ap (λ (r : Role). row_with it.loaded.key r it.loaded.streams) e) ∙ row))

  module _ (some : 1 ≤ length bytes) (short : length bytes ≤ 1048576) where
    missing-few : items state + length (missing_parts can.object (covered_parts offset (length bytes))) ≤ 131072
    missing-few =
        let sorted : T (is_sorted nat_cmp can.object.parts) = passes _ (subst (λ (s : Option Object). IfSome s IsObject) can.names.here (k.kept.entries.valid.objects can.number)).rising in
        let more = (more-written (with_signature can.object (signature_to target)) sorted offset bytes some short).counted in
        let sum = sum-changed item_count state.objects can.number can.object other can.names.here in
        let raised = can.items_more in
        let few = can.few in
        omega (arith, more, sum, raised, few)

    pub to-store : CanBeStored state k.layout can.number can.object (own_target b.node b.entry target) offset bytes more_items more_bytes from
    to-store = record {
      kept = k.kept;
      is = record {
        kept = k.kept.entries;
        here = can.names.here;
        live = can.live;
        unsettled = can.unsettled;
        node_is = sym live-node ∙ ap (node_of_object k.layout can.number) (sym same) ∙ sym it.node;
        was = it.loaded;
        lies = lies-there;
        record_is = sym it.entry;
        may = may-get;
        few = missing-few;
        room = omega arith;
      };
      items_more = can.items_more;
      total_more = can.total_more;
      few = can.few;
    }

  -- ---- once it is stored

  module _ (image : Image) (w : IsKeptWithBytes state k.layout can.number can.object (own_target b.node b.entry target) offset bytes from image) (new : Cache) (counts : CountedParts cache new target more_bytes more_items) (files : Agrees new.files image) where
    one : IsOneChanged can.object other (named_objects state) (named_objects next)
    one = subst (IsOneChanged can.object other (named_objects state)) (sym (named-same state next (λ n. refl) 0 next.objects))
        (named-changed state can.number can.object other (its-named cache state from k handle can.number can.object can.names) 0 can.number (omega arith) state.objects can.names.here)

    next-here : object_at next can.number ≡ Some other
    next-here = set-at state can.number can.object other can.names.here

    node-now : node_of_object w.now can.number other ≡ w.now.place (main can.object.key)
    node-now = ap (λ (t : Bool). if t then w.now.place (main can.object.key) else w.now.place_of_doomed can.number) can.live

    its-node : node_of_object k.layout can.number can.object ≡ b.node
    its-node = ap (node_of_object k.layout can.number) (sym same) ∙ sym it.node

    own-bound : (d : Binding) → IsBoundTo state k.layout can.number d → IsBoundTo next w.now can.number d
    own-bound d n =
        let object_is : n.object ≡ can.object = some_inj (sym n.here ∙ can.names.here) in
        let loads : n.loaded ≡ it.loaded = some_inj (sym n.at ∙ ap (λ (o : Object). k.layout.at (node_of_object k.layout can.number o)) (object_is ∙ sym same) ∙ it.at) in
        record {
          object = other;
          here = next-here;
          loaded = w.was;
          at = ap w.now.at node-now ∙ w.lies;
          node = n.node ∙ ap (node_of_object k.layout can.number) object_is ∙ its-node ∙ sym w.node_is ∙ sym node-now;
          entry = n.entry ∙ ap (λ (l : Loaded). l.contents) loads ∙ sym it.entry ∙ sym w.record_is;
          doomed = n.doomed ∙ ap (λ (o : Object). not o.live) object_is;
          dirty = n.dirty ∙ ap (λ (o : Object). not o.settled) object_is;
        }

    other-bound : (m : ℕ) (d : Binding) → m ≢ can.number → IsBoundTo state k.layout m d → IsBoundTo next w.now m d
    other-bound m d apart n =
        let there : object_at next m ≡ Some n.object = set-else state can.number m (Some other) apart ∙ n.here in
        let lies = w.others m n.object apart there in
        record {
          object = n.object;
          here = there;
          loaded = n.loaded;
          at = ap w.now.at lies.0 ∙ lies.1 ∙ n.at;
          node = n.node ∙ sym lies.0;
          entry = n.entry;
          doomed = n.doomed;
          dirty = n.dirty;
        }

    bound-still : (name : ℕ) → IsBoundAs next w.now (named_by state name) (binding_of cache.handles name)
    bound-still name = by (named_by state name) (binding_of cache.handles name) (k.names name) where
      by : (o : Option ℕ) (d : Option Binding) → IsBoundAs state k.layout o d → IsBoundAs next w.now o d
      by None None n = n
      by (Some m) (Some d) n = ⊎_elim
          (λ (e : m ≡ can.number). subst (λ (x : ℕ). IsBoundTo next w.now x d) (sym e) (own-bound d (subst (λ (x : ℕ). IsBoundTo state k.layout x d) e n)))
          (λ (e : m ≢ can.number). other-bound m d e n)
          (cases_eq m can.number)
      by None (Some d) n = absurd n
      by (Some m) None n = absurd n

    pub stored-keeps : HoldsState new next image
    stored-keeps =
        let own_charged = own-more can.object target offset bytes can.is in
        let charged = one.charged in
        let open_was = k.open_bytes in
        let all = named-total next 0 next.objects in
        let raised = can.total_more in
        let more_listed = can.items_more in
        let within = can.within in
        let few = can.few in
        let items_was = k.items_are in
        let bytes_was = k.bytes_are in
        let items_now = counts.items in
        let bytes_now = counts.bytes in
        let open_now = counts.open_bytes in
        record {
          layout = w.now;
          kept = w.kept;
          limits = k.limits ∙ ap bounds_of (sym counts.limits);
          items_are = omega (arith, items_was, items_now, more_listed, few);
          bytes_are = omega (arith, bytes_was, bytes_now, raised, within);
          few = omega (arith, more_listed, few);
          open_objects = ap open_count counts.handles ∙ k.open_objects ∙ sym one.count;
          open_bytes = omega (arith, own_charged, charged, open_was, open_now, all, raised, within);
          names = λ name. subst (λ (bs : Bindings). IsBoundAs next w.now (named_by state name) (binding_of bs name)) (sym counts.handles) (bound-still name);
          files = files;
          mark = counts.mark ∙ k.mark ∙ sym w.session.id;
        }

-- ---- at each word

module _ (cache : Cache) (handle offset : ℕ) (bytes : List ℕ) (some : 1 ≤ length bytes) (short : length bytes ≤ 1048576) (target : Target) (more_bytes more_items : ℕ) (b : Binding) (bound : binding_of cache.handles handle ≡ Some b) (its : Target) (is-own : its ≡ own_target b.node b.entry target) (old now : Told) where
  pub store-stops : ForSome old.files (λ from. ForEachToStore its offset bytes more_items more_bytes from (λ state layout number object. Passes old now (Finds (rest state))))
      → ForSome old.files (λ from. (state : State) → HoldsState cache state from → CanStore state handle offset bytes target more_bytes more_items → Passes old now (Finds (rest state)))
  store-stops stops from here state k can =
      stops from here state k.layout can.number can.object (subst (λ (t : Target). CanBeStored state k.layout can.number can.object t offset bytes more_items more_bytes from) (sym is-own)
      (to-store cache state from k handle offset bytes target more_bytes more_items can b bound some short))

  pub store-untold : {A : Type 0} (r : Result A Fault) → ForSome old.files (λ from. ForEachToStore its offset bytes more_items more_bytes from (λ state layout number object. IfDamaged r (λ _. old.files ≡ None)))
      → ForSome old.files (KeepsToStore cache handle offset bytes target more_bytes more_items) → IfDamaged r (λ _. old.files ≡ None)
  store-untold r untold any = untold-by r old.files (λ from here.
      let one_state : KeepsToStore cache handle offset bytes target more_bytes more_items from = any from here in
      untold from here one_state.state one_state.kept.layout one_state.can.number one_state.can.object (subst (λ (t : Target). CanBeStored one_state.state one_state.kept.layout one_state.can.number one_state.can.object t offset bytes more_items more_bytes from) (sym is-own)
      (to-store cache one_state.state from one_state.kept handle offset bytes target more_bytes more_items one_state.can b bound some short)))

  pub store-keeps : (new : Cache) → CountedParts cache new target more_bytes more_items → ForSome old.files (λ from. ForEachToStore its offset bytes more_items more_bytes from (λ state layout number object. ForSome now.files (IsKeptWithBytes state layout number object its offset bytes from)))
      → ((image : Image) → now.files ≡ Some image → Agrees new.files image)
      → ForSome old.files (λ from. (state : State) → HoldsState cache state from → (can : CanStore state handle offset bytes target more_bytes more_items) → ForSome now.files (HoldsState new (sparse_state state can.number can.object (signature_to target) offset bytes)))
  store-keeps new counts stored files from here state k can image there =
      stored-keeps cache state from k handle offset bytes target more_bytes more_items can b bound image
      (subst (λ (t : Target). IsKeptWithBytes state k.layout can.number can.object t offset bytes from image) is-own
      (stored from here state k.layout can.number can.object (subst (λ (t : Target). CanBeStored state k.layout can.number can.object t offset bytes more_items more_bytes from) (sym is-own)
      (to-store cache state from k handle offset bytes target more_bytes more_items can b bound some short)) image there)) new counts (files image there)
