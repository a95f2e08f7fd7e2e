-- What a cache keeps once an object is doomed in its folder.
use Rattle.std.proofs.Common.{◌≡◌, ℕ, ◌-◌, Bool, true, false, not, [], Option, Some, None, refl, sym, ap, subst, ◌∙◌, arith}
use Rattle.std.specs.Prelude.{◌==◌, if◌then◌else◌}
use Rattle.std.specs.Option.{option_map}
use Rattle.spec_image.specs.Image.{Image}
use Rattle.spec_image.proofs.Runs.{some_inj}
use Rattle.blk_model.specs.Bounds.{bounds_of}
use Rattle.blk_model.specs.Effects.{doomed}
use Rattle.blk_model.specs.Items.{main}
use Rattle.blk_model.specs.State.{Object, State, is_named, named_by}
use Rattle.spec_folder.specs.Loads.{Loaded}
use Rattle.law_folder.specs.CommandLaws.{IsPlacedAsLive}
use Rattle.blk_handles.specs.Bindings.{Binding, Bindings, binding_of, is_open, open_count, with_change, with_doom}
use Rattle.blk_handles.proofs.BindingLemmas.{binding_of-change}
use Rattle.blk_disk.specs.declared.tables.BlockFiles.{BlockFiles}
use Rattle.blk_disk.specs.Tables.{Agrees, is_node_among, is_record_among}
use Rattle.blk_sparse.specs.declared.dropping.Gone.{Gone}
use Rattle.blk_object.specs.Writing.{node_of_object}
use Rattle.blk_cache.specs.declared.cache.Cache.{Cache}
use Rattle.blk_cache.specs.BoundNames.{AreBoundAmong}
use Rattle.blk_cache.specs.CacheKeeping.{IsBoundAs, IsBoundTo, HoldsState}
use Rattle.blk_cache.specs.Dooming.{CountsDoomed}
use Rattle.blk_cache.specs.DoomingObjects.{IsDoomed}
use Rattle.blk_cache.proofs.BoundObjects.{open-is-named}
use Rattle.blk_cache.proofs.DoomedNames.{bound-after, named-after, open-same}

-- what names are bound to is valid as before, where a record's object is marked as doomed
pub doomed-stand : (files : BlockFiles) (bindings : Bindings) → AreBoundAmong files bindings → (entry : ℕ) → AreBoundAmong files (with_change with_doom entry bindings)
doomed-stand files bindings stand entry name c here = by (binding_of bindings name) refl (sym (binding_of-change with_doom entry bindings name) ∙ here) where
  one : (b : Binding) → binding_of bindings name ≡ Some b → (t : Bool) → (if t then with_doom b else b) ≡ c → (is_node_among files c.node ≡ true) × (is_record_among files c.entry ≡ true)
  one b is true e = subst (λ (x : Binding). (is_node_among files x.node ≡ true) × (is_record_among files x.entry ≡ true)) e (stand name b is)
  one b is false e = subst (λ (x : Binding). (is_node_among files x.node ≡ true) × (is_record_among files x.entry ≡ true)) e (stand name b is)

  by : (o : Option Binding) → binding_of bindings name ≡ o → option_map (λ object. if entry == object.entry then with_doom object else object) o ≡ Some c → (is_node_among files c.node ≡ true) × (is_record_among files c.entry ≡ true)
  by None is e = absurd (let z : ◌≡◌ {A = Option Binding} None (Some c) = e in cc)
  by (Some b) is e = one b is (entry == b.entry) (some_inj e)

module _ (old : Cache) (state : State) (from : Image) (k : HoldsState old state from) (number : ℕ) (object : Object) (loaded : Loaded) (p : IsPlacedAsLive state k.layout number object loaded) where
  at-node : k.layout.at (node_of_object k.layout number object) ≡ Some loaded
  at-node = ap (λ (b : Bool). k.layout.at (if b then k.layout.place (main object.key) else k.layout.place_of_doomed number)) p.live ∙ p.at

  -- it is open exactly where a handle names it
  pub open-named : is_open old.handles loaded.contents ≡ is_named state number
  open-named =
      let b : Binding = record { entry = loaded.contents; node = node_of_object k.layout number object; doomed = not object.live; dirty = not object.settled } in
      let is : IsBoundTo state k.layout number (record { entry = loaded.contents; node = node_of_object k.layout number object; doomed = not object.live; dirty = not object.settled }) =
      record { object = object; here = p.here; loaded = loaded; at = at-node; node = refl; entry = refl; doomed = refl; dirty = refl } in
      open-is-named state k.layout [] from k.kept.entries state.names old.handles k.names number (record { entry = loaded.contents; node = node_of_object k.layout number object; doomed = not object.live; dirty = not object.settled }) is

  limits-same : (doomed number state (Some object)).limits ≡ state.limits
  unfolding doomed
  limits-same = refl

  -- the cache keeps the state with the object doomed
  pub doomed-keeps : (new : Cache) (entry : ℕ) → loaded.contents ≡ entry → (gone : Gone) (image : Image) → IsDoomed state k.layout number object gone from image → CountsDoomed old new entry gone → Agrees new.files image → HoldsState new (doomed number state (Some object)) image
  doomed-keeps new entry entry_is gone image o c agrees =
      let same = named-after state number object p.here in
      let items_were = k.items_are in
      let bytes_were = k.bytes_are in
      let few_were = k.few in
      let fewer_items = o.items_less in
      let fewer_bytes = o.bytes_less in
      let items_now = c.items in
      let bytes_now = c.bytes in
      let handles : new.handles ≡ with_change with_doom loaded.contents old.handles = c.handles ∙ ap (λ (w : ℕ). with_change with_doom w old.handles) (sym entry_is) in
      record {
        layout = o.left;
        kept = o.kept;
        limits = limits-same ∙ k.limits ∙ ap bounds_of (sym c.limits);
        items_are = omega (arith, items_were, fewer_items, items_now);
        bytes_are = omega (arith, bytes_were, fewer_bytes, bytes_now);
        few = omega (arith, fewer_items, few_were);
        open_objects = ap open_count c.handles ∙ open-same entry old.handles ∙ k.open_objects ∙ sym same.0;
        open_bytes = c.open_bytes ∙ k.open_bytes ∙ sym same.1;
        names = λ name. subst (λ (bs : Bindings). IsBoundAs (doomed number state (Some object)) o.left (named_by (doomed number state (Some object)) name) (binding_of bs name)) (sym handles)
            (bound-after state number object p.here p.live k.layout [] from k.kept.entries loaded at-node o.left o.stay old.handles name (k.names name));
        files = agrees;
        mark = c.mark ∙ k.mark ∙ sym o.session.id;
      }
