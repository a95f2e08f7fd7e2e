-- An object of a handle becomes dirty, or clean, in a cache that keeps a state.
use Rattle.std.proofs.Common.{◌≡◌, ℕ, zero, suc, ◌+◌, Bool, true, false, not, List, [], ◌∷◌, set, get_or, Option, Some, None, inl, refl, sym, ap, subst, ◌∙◌, arith, cond}
use Rattle.std.specs.Prelude.{◌⊎◌, ◌==◌, ◌&&◌, if◌then◌else◌}
use Rattle.std.proofs.lemmas.Bool.{eqb-true}
use Rattle.spec_image.specs.Image.{Image, Index, byte}
use Rattle.blk_model.specs.Holding.{rest}
use Rattle.blk_model.specs.Items.{Item, main, part}
use Rattle.blk_model.specs.Room.{charge, own_charge}
use Rattle.blk_model.specs.State.{IsObject, IsValidState, Object, State, has_item, is_named, named_by, object_at, slot_has_item}
use Rattle.blk_model.proofs.Doomed.{bound_name, contrary, still_there}
use Rattle.blk_model.proofs.Each.{Each-set}
use Rattle.blk_model.proofs.Slots.{owners-set}
use Rattle.blk_model.proofs.States.{if_some_is}
use Rattle.spec_format.specs.Headers.{this_id_of}
use Rattle.spec_folder.specs.Layout.{Layout}
use Rattle.spec_folder.specs.Loads.{Loaded}
use Rattle.law_folder.specs.CommandLaws.{IsPlacedAsDoomed, IsPlacedAsLive, dirtied, marked}
use Rattle.law_folder.proofs.states.Changing.{at-elsewhere, at-itself}
use Rattle.blk_disk.specs.declared.tables.BlockFiles.{BlockFiles}
use Rattle.blk_disk.specs.Tables.{Agrees}
use Rattle.blk_handles.specs.Bindings.{Binding, Bindings, binding_of, distinct_count, open_count, with_change, with_status}
use Rattle.law_state.specs.Changes.{Finds}
use Rattle.law_state.specs.Keeping.{Keeps, KeepsUncounted}
use Rattle.law_state.specs.ObjectLaws.{layout_after}
use Rattle.law_state.specs.OneCallLaws.{Names}
use Rattle.law_state.specs.RecordLaws.{IsMarked, IsMarking}
use Rattle.law_state.proofs.Dirtying.{leaves, marking-counts, marking-finds}
use Rattle.law_state.proofs.DoomedMarks.{doomed-marking-counts, doomed-marking-finds}
use Rattle.law_state.proofs.NotAtRest.{within-slots}
use Rattle.blk_object.specs.Writing.{node_of_object}
use Rattle.blk_cache.specs.declared.cache.Cache.{Cache}
use Rattle.blk_cache.specs.CacheKeeping.{IsBoundAs, IsBoundTo, HoldsState}
use Rattle.blk_cache.specs.CommandClauses.{OnlyNamesChange}
use Rattle.blk_cache.specs.Marking.{dirty_word}
use Rattle.blk_cache.proofs.ChangedObjects.{CountsAs, LiesChanged, bound-to, changed-keeps, entries-same, its-named, its-object, names-change}

-- ---- states

-- a named object may be dirty or clean, live or doomed
pub named-valid : (state : State) (number : ℕ) (object : Object) (settled : Bool) → IsValidState state → object_at state number ≡ Some object → is_named state number ≡ true → IsValidState (marked state number object settled)
named-valid state number object settled valid here named =
    let new : Object = record object { settled = settled } in
    let within = within-slots state.objects number object here in
    record {
      objects = Each-set (λ n. IsObject) state.objects number (Some new) (is-object (if_some_is (object_at state number) IsObject object here (valid.objects number))) (λ m other. valid.objects m);
      names = valid.names;
      bound = still_there state valid state.names number (Some new) (bound_name state valid) (λ gone. absurd (contrary gone refl));
      listed = λ item.
          let change = owners-set item state.objects number (Some new) within in
          let had : ◌≡◌ {A = ℕ} (cond (slot_has_item item (object_at state number)) 1 0) (cond (has_item object item) 1 0) = ap (λ s. cond (slot_has_item item s) 1 0) here in
          let has : ◌≡◌ {A = ℕ} (cond (has_item new item) 1 0) (cond (has_item object item) 1 0) = ap (λ b. cond b 1 0) (same-items item) in
          let was = valid.listed item in omega (arith, change, had, has, was);
      once = valid.once;
      held = Each-set (λ n o. (o.live && o.settled ≡ false) → is_named state n ≡ true) state.objects number (Some new) (λ loose. named) (λ m other. valid.held m);
    }
  where
    is-object : IsObject object → IsObject (record object { settled = settled })
    is-object is = record { key = is.key; streams = is.streams; signature = is.signature; plain_has_no_parts = is.plain_has_no_parts; doomed_has_no_parts = is.doomed_has_no_parts; sparse_has_one_stream = is.sparse_has_one_stream; rising = is.rising; parts = is.parts }

    same-items : (item : Item) → has_item (record object { settled = settled }) item ≡ has_item object item
    same-items (main key) = refl
    same-items (part key n) = refl

-- a slot that is set to what it has
pub set-same : {A : Type 0} (xs : List (Option A)) (i : ℕ) (x : A) → get_or xs i None ≡ Some x → set xs i (Some x) ≡ xs
set-same [] i x e = refl
set-same (y ∷ xs) zero x e = ap (λ (z : Option _). z ∷ xs) (sym e)
set-same (y ∷ xs) (suc i) x e = ap (λ (zs : List (Option _)). y ∷ zs) (set-same xs i x e)

-- an object whose flag is set to what it has is as it was
pub marked-same : (state : State) (number : ℕ) (object : Object) (settled : Bool) → object_at state number ≡ Some object → object.settled ≡ settled → marked state number object settled ≡ state
marked-same state number object settled here is =
    let same : record object { settled = settled } ≡ object = ap (λ (b : Bool). record object { settled = b }) (sym is) in
    ap (λ (os : List (Option Object)). record state { objects = os }) (ap (λ (o : Object). set state.objects number (Some o)) same ∙ set-same state.objects number object here)

marked-charge : (o : Object) (settled : Bool) → charge (record o { settled = settled }) ≡ charge o
unfolding charge
marked-charge o settled = refl

turned-twice : (t : Bool) → t ≡ not (not t)
turned-twice true = refl
turned-twice false = refl

-- ---- the dirty flag

module _ (cache : Cache) (state : State) (from : Image) (k : HoldsState cache state from) (handle number : ℕ) (object : Object) (names : Names state handle number object) (b : Binding) (bound : binding_of cache.handles handle ≡ Some b) (dirty : Bool) where
  abbrev kept : KeepsUncounted state k.layout [] from
  kept = k.kept.entries

  abbrev it : IsBoundTo state k.layout number b
  it = bound-to cache state from k handle number object names b bound

  same-object : it.object ≡ object
  same-object = its-object cache state from k handle number object names b it

  abbrev node : ℕ
  node = node_of_object k.layout number object

  pub node-is : b.node ≡ node
  node-is = it.node ∙ ap (node_of_object k.layout number) same-object

  pub at-node : k.layout.at node ≡ Some it.loaded
  at-node = ap (λ (o : Object). k.layout.at (node_of_object k.layout number o)) (sym same-object) ∙ it.at

  abbrev word : ℕ
  word = dirty_word cache dirty

  some-mark : (cache.mark == 0) ≡ false
  some-mark = by (cache.mark == 0) refl where
    by : (t : Bool) → (cache.mark == 0) ≡ t → t ≡ false
    by true e = absurd (kept.session.id (sym k.mark ∙ eqb-true cache.mark 0 e))
    by false e = refl

  -- the word is 0 exactly where the object is clean
  tells : (word == 0) ≡ not dirty
  tells = by dirty where
    by : (d : Bool) → (dirty_word cache d == 0) ≡ not d
    by true = some-mark
    by false = refl

  of-session : (word == 0) ≡ false → word ≡ this_id_of (byte from Index)
  of-session = by dirty where
    by : (d : Bool) → (dirty_word cache d == 0) ≡ false → dirty_word cache d ≡ this_id_of (byte from Index)
    by true e = k.mark
    by false e = absurd (let c : true ≡ false = e in cc)

  valid-marked : (t : Bool) → IsValidState (marked state number object t)
  valid-marked t = named-valid state number object t kept.valid names.here (its-named cache state from k handle number object names)

  live-place : object.live ≡ true → node ≡ k.layout.place (main object.key)
  live-place e = ap (λ (t : Bool). if t then k.layout.place (main object.key) else k.layout.place_of_doomed number) e

  dead-place : object.live ≡ false → node ≡ k.layout.place_of_doomed number
  dead-place e = ap (λ (t : Bool). if t then k.layout.place (main object.key) else k.layout.place_of_doomed number) e

  as-live : object.live ≡ true → IsPlacedAsLive state k.layout number object it.loaded
  as-live e = record { here = names.here; live = e; at = ap k.layout.at (sym (live-place e)) ∙ at-node }

  as-dead : object.live ≡ false → IsPlacedAsDoomed state k.layout number object it.loaded
  as-dead e = record { here = names.here; dead = e; at = ap k.layout.at (sym (dead-place e)) ∙ at-node }

  module _ (image : Image) where
    -- at each word of it
    pub marking-finds-either : IsMarking from b.node word image → Finds (rest state) image ⊎ Finds (rest (marked state number object (not dirty))) image
    marking-finds-either m = by object.live refl where
      by : (t : Bool) → object.live ≡ t → Finds (rest state) image ⊎ Finds (rest (marked state number object (not dirty))) image
      by true e = subst (λ (t : Bool). Finds (rest state) image ⊎ Finds (rest (marked state number object t)) image) tells
          (marking-finds state k.layout [] from image number object it.loaded word kept (as-live e) (valid-marked (word == 0)) (subst (λ (w : ℕ). IsMarking from w word image) (node-is ∙ live-place e) m))
      by false e = inl (doomed-marking-finds state k.layout [] from image number object it.loaded word kept (as-dead e) (subst (λ (w : ℕ). IsMarking from w word image) (node-is ∙ dead-place e) m))

    -- once it is done
    module _ (done : IsMarked from b.node word image) (new : Cache) (changes : new.handles ≡ with_change (with_status b.doomed dirty) b.entry cache.handles) (others : OnlyNamesChange cache new) (charged : new.open_bytes ≡ cache.open_bytes) (files : Agrees cache.files image) where
      abbrev turned : Object
      turned = record object { settled = not dirty }

      session : this_id_of (byte image Index) ≡ this_id_of (byte from Index)
      session = (leaves state k.layout [] from image kept node word it.loaded at-node (subst (λ (w : ℕ). IsMarking from w word image) node-is done.marking)).session.id

      counts : CountsAs cache new object turned
      counts = record {
        items = others.items;
        bytes = ap (λ (n : ℕ). n + charge object) others.bytes ∙ ap (λ (n : ℕ). cache.bytes + n) (sym (marked-charge object (not dirty)));
        open_bytes = ap (λ (n : ℕ). n + own_charge object) charged;
        limits = others.limits;
        mark = others.mark;
      }

      same-open : open_count new.handles ≡ open_count cache.handles
      same-open = ap open_count changes ∙ ap distinct_count (entries-same (with_status b.doomed dirty) (λ d. refl) b.entry cache.handles)

      keeps-by : (there : Layout) (now : Loaded) → LiesChanged k.layout there node it.loaded now → Keeps (marked state number object (not dirty)) there [] image → HoldsState new (marked state number object (not dirty)) image
      keeps-by there now lies keeps =
          changed-keeps cache state from k handle number object turned names refl refl state.uses there it.loaded now at-node lies new image keeps refl counts (subst (λ (fs : BlockFiles). Agrees fs image) (sym others.files) files) session same-open
          (λ name. subst (λ (bs : Bindings). IsBoundAs (marked state number object (not dirty)) there (named_by state name) (binding_of bs name)) (sym changes)
          (names-change cache state from k handle number object turned names refl refl state.uses there it.loaded now at-node lies b it (with_status b.doomed dirty) (λ d. refl) (λ d. refl) (λ d. refl) (λ d. turned-twice dirty) name))

      live-keeps : object.live ≡ true → HoldsState new (marked state number object (not dirty)) image
      live-keeps e =
          let place = k.layout.place (main object.key) in
          let now : Loaded = record it.loaded { dirty = word } in
          let keeps : Keeps (marked state number object (word == 0)) (dirtied k.layout place it.loaded word) [] image = marking-counts state k.layout [] from image number object it.loaded word k.kept (as-live e) (valid-marked (word == 0)) of-session (subst (λ (w : ℕ). IsMarked from w word image) (node-is ∙ live-place e) done) in
          keeps-by (dirtied k.layout place it.loaded word) now
          (record {
            place = refl;
            place_of_doomed = refl;
            at_node = subst (λ (w : ℕ). (dirtied k.layout place it.loaded word).at w ≡ Some now) (sym (live-place e)) (at-itself k.layout.at place (Some now));
            elsewhere = λ w apart. at-elsewhere k.layout.at place (Some now) w (ap (λ (x : ℕ). x == w) (sym (live-place e)) ∙ apart);
            contents = refl;
          })
          (subst (λ (t : Bool). Keeps (marked state number object t) (dirtied k.layout place it.loaded word) [] image) tells keeps)

      dead-keeps : object.live ≡ false → HoldsState new (marked state number object (not dirty)) image
      dead-keeps e =
          let place = k.layout.place_of_doomed number in
          let now : Loaded = record it.loaded { dirty = word } in
          let keeps : Keeps (marked state number object (word == 0)) (layout_after k.layout place now) [] image = doomed-marking-counts state k.layout [] from image number object it.loaded word k.kept (as-dead e) (valid-marked (word == 0)) (subst (λ (w : ℕ). IsMarked from w word image) (node-is ∙ dead-place e) done) in
          keeps-by (layout_after k.layout place now) now
          (record {
            place = refl;
            place_of_doomed = refl;
            at_node = subst (λ (w : ℕ). (layout_after k.layout place now).at w ≡ Some now) (sym (dead-place e)) (at-itself k.layout.at place (Some now));
            elsewhere = λ w apart. at-elsewhere k.layout.at place (Some now) w (ap (λ (x : ℕ). x == w) (sym (dead-place e)) ∙ apart);
            contents = refl;
          })
          (subst (λ (t : Bool). Keeps (marked state number object t) (layout_after k.layout place now) [] image) tells keeps)

      pub marked-keeps : HoldsState new (marked state number object (not dirty)) image
      marked-keeps = by object.live refl where
        by : (t : Bool) → object.live ≡ t → HoldsState new (marked state number object (not dirty)) image
        by true e = live-keeps e
        by false e = dead-keeps e
