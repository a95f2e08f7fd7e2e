-- A stream of a dirty object of a cache that keeps a state is written, accessed and counted.
use Rattle.std.proofs.Common.{◌≡◌, ◌⊎◌, ⊎_elim, inl, inr, ℕ, zero, suc, ◌+◌, ◌-◌, ◌<◌, ◌≤◌, ◌^◌, Bool, true, false, List, [], length, get_or, Option, Some, None, refl, sym, ap, ap₂, subst, ◌∙◌, arith}
use Rattle.std.specs.Prelude.{◌&&◌, ◌||◌, IfSome, if◌then◌else◌, is_none, nat_lt, sum_by}
use Rattle.std.proofs.lemmas.Bool.{ltb-false}
use Rattle.std.proofs.lemmas.Bool.Decides.{nat_tests}
use Rattle.spec_image.specs.Image.{Image, Index, byte}
use Rattle.blk_model.specs.Effects.{new_object, stream_after, stream_in, stream_of, streams_with, used, written}
use Rattle.blk_model.specs.Items.{IsBytes, Item, Streams, is_sparse, main, part}
use Rattle.blk_model.specs.Refusals.{is_kept_from_streams, names_none, no_name}
use Rattle.blk_model.specs.Room.{charge, own_charge, total}
use Rattle.blk_model.specs.State.{Bounds, IsObject, IsValidState, Object, State, has_item, is_named, named_by, object_at}
use Rattle.blk_model.proofs.States.{if_some_is}
use Rattle.blk_model.proofs.Written.{state_changed, state_written}
use Rattle.spec_format.specs.Headers.{counting, this_id_of}
use Rattle.spec_folder.specs.Layout.{Layout, is_listed}
use Rattle.spec_folder.specs.Loads.{Loaded}
use Rattle.law_folder.proofs.states.Changing.{at-elsewhere, at-itself}
use Rattle.law_folder.proofs.states.Settling.{main-listed}
use Rattle.blk_disk.specs.Tables.{Agrees}
use Rattle.blk_handles.specs.Bindings.{Binding, Bindings, binding_of, open_count}
use Rattle.blk_stream.specs.Writing.{size_after}
use Rattle.law_state.specs.CommandEnds.{after_write}
use Rattle.law_state.specs.CommandStates.{amidst}
use Rattle.law_state.specs.Keeping.{CountsItems, Keeps}
use Rattle.law_state.specs.ListLaws.{with_used}
use Rattle.law_state.specs.ObjectLaws.{layout_after}
use Rattle.law_state.proofs.Dirtying.{set-at}
use Rattle.blk_object.specs.Writing.{IsRisen, IsToBeWritten, IsWrittenUncounted, RisesAreCounted, UsesLeaveTheRise, node_of_object, with_written}
use Rattle.blk_cache.specs.declared.cache.Cache.{Cache}
use Rattle.blk_cache.specs.CacheKeeping.{IsBoundAs, IsBoundTo, HoldsState, named_objects}
use Rattle.blk_cache.specs.Creating.{sum_within}
use Rattle.blk_cache.specs.Writing.{CanGetBytes, IsToBeUsed, IsUsedAndCounted}
use Rattle.blk_cache.proofs.ChangedObjects.{CountsAs, LiesChanged, bound-to, changed-keeps, its-named, named-changed, names-stay, sum-changed}
use Rattle.blk_cache.proofs.Closes.{within-some}
use Rattle.blk_cache.proofs.NamedObjects.{named-total}
use Rattle.blk_cache.proofs.Sizes.{named-object}
use Rattle.blk_cache.proofs.Marks.{at-node, node-is}
use Rattle.blk_cache.proofs.WriteRoom.{charge-risen, long-after, own-risen, total-risen, written-dead, written-live, written-objects}

-- ---- streams

-- what was put into a stream is in it
stream-back : (streams : Streams) (stream : ℕ) (bytes : List ℕ) → stream_in (streams_with streams stream bytes) stream ≡ bytes
stream-back streams zero bytes = refl
stream-back streams (suc zero) bytes = refl
stream-back streams (suc (suc n)) bytes = refl

same-items : (o : Object) (stream offset : ℕ) (cut : Bool) (bytes : List ℕ) (item : Item) → has_item (after_write o stream offset cut bytes) item ≡ has_item o item
same-items o stream offset cut bytes (main key) = refl
same-items o stream offset cut bytes (part key n) = refl

-- ---- costs

nothing-charged : charge (new_object []) ≡ 0
unfolding charge
nothing-charged = refl

-- the cost of an object is at most that of all
in-total : (state : State) (number : ℕ) (o : Object) → object_at state number ≡ Some o → charge o ≤ total state
in-total state number o here =
    let e = sum-changed charge state.objects number o (new_object []) here in
    let z = nothing-charged in
    omega (arith, e, z)

-- and a named one no more than the named ones
in-named : (state : State) (number : ℕ) (o : Object) → object_at state number ≡ Some o → is_named state number ≡ true → own_charge o ≤ sum_by own_charge (named_objects state)
in-named state number o here named =
    let one = (named-changed state number o (new_object []) named 0 number (omega arith) state.objects here).charged in
    let z : own_charge (new_object []) ≡ 0 = refl in
    omega (arith, one, z)

none-cut : (old : ℕ) → size_after true old 0 0 ≡ 0
unfolding size_after
none-cut old = refl

own-least : (o : Object) (stream : ℕ) → (is_sparse o.shape && nat_lt 0 stream) ≡ false → length (stream_of o stream) ≤ own_charge o
own-least o stream apart =
    let e = own-risen o stream 0 true [] apart in
    let long : length (stream_after true (stream_of o stream) 0 []) ≡ 0 = sym (long-after true (stream_of o stream) [] 0) ∙ none-cut (length (stream_of o stream)) in
    omega (arith, e, long)

own-charged : (o : Object) → own_charge o ≤ charge o
unfolding charge
own-charged o = omega arith

module _ (cache : Cache) (state : State) (from : Image) (k : HoldsState cache state from) (handle stream offset : ℕ) (cut : Bool) (bytes : List ℕ) (size : ℕ) (can : CanGetBytes state handle stream offset cut bytes size) where
  abbrev number : ℕ
  number = can.number

  abbrev object : Object
  object = can.object

  abbrev other : Object
  other = after_write can.object stream offset cut bytes

  abbrev before : ℕ
  before = length (stream_of can.object stream)

  abbrev after : ℕ
  after = length (stream_after cut (stream_of can.object stream) offset bytes)

  -- the new length, by the old one
  pub after-is : size_after cut size offset (length bytes) ≡ after
  after-is = ap (λ (n : ℕ). size_after cut n offset (length bytes)) can.size_is ∙ long-after cut (stream_of object stream) bytes offset

  pub counts-as : (new : Cache) (less more : ℕ) → less ≡ size → more ≡ size_after cut size offset (length bytes) → cache.bytes < 2 ^ 64 → new.bytes ≡ sum_within (cache.bytes - less) more → new.open_bytes ≡ sum_within (cache.open_bytes - less) more
      → new.items ≡ cache.items → new.limits ≡ cache.limits → new.mark ≡ cache.mark → CountsAs cache new object other
  counts-as new less more less-is more-is few bytes-now open-now items-now limits-now mark-now =
      let l : less ≡ before = less-is ∙ can.size_is in
      let m : more ≡ after = more-is ∙ after-is in
      let r1 : charge other + before ≡ charge object + after = charge-risen object stream offset cut bytes can.its_stream in
      let r2 : own_charge other + before ≡ own_charge object + after = own-risen object stream offset cut bytes can.its_stream in
      let t = total-risen state handle stream offset cut bytes number object can.names can.its_stream in
      let most1 = in-total state number object can.names.here in
      let most2 = in-named state number object can.names.here (its-named cache state from k handle number object can.names) in
      let least = own-least object stream can.its_stream in
      let own = own-charged object in
      let all = named-total state 0 state.objects in
      let was = k.bytes_are in
      let open-was = k.open_bytes in
      let limit : state.limits.max_bytes ≡ cache.limits.max_bytes = ap (λ (b : Bounds). b.max_bytes) k.limits in
      let most = cache.limits.few_bytes in
      let fits : total (written handle stream offset cut bytes state) < 2 ^ 64 = ⊎_elim
      (λ (longer : before < after). let w = can.within (subst (λ (n : ℕ). n < after) (sym can.size_is) longer) in omega (arith, w, limit, most))
      (λ (no : after ≤ before). omega (arith, t, no, was, few))
      (which before after) in
      record {
        items = items-now;
        bytes = omega (arith, l, m, r1, t, most1, least, own, was, fits, bytes-now);
        open_bytes = omega (arith, l, m, r2, t, most2, least, all, open-was, fits, open-now);
        limits = limits-now;
        mark = mark-now;
      }
    where
      which : (a b : ℕ) → (a < b) ⊎ (b ≤ a)
      which a b = by (nat_lt a b) refl where
        by : (t : Bool) → nat_lt a b ≡ t → (a < b) ⊎ (b ≤ a)
        by true e = inl (grind (arith, nat_tests, e))
        by false e = inr (ltb-false a b e)

  -- ---- what write_object asks

  module _ (are : IsBytes bytes) where
    not-none : names_none state handle ≡ false
    not-none =
        let within = within-some state.names handle number can.names.names in
        let long = k.kept.entries.valid.names in
        let below : no_name handle ≡ false = grind (arith, nat_tests, within, long) in
        ap (λ (b : Bool). b || is_none (named_by state handle)) below ∙ ap is_none can.names.names

    kept-apart : is_kept_from_streams state handle stream ≡ false
    kept-apart = ap (λ (o : Object). is_sparse o.shape && nat_lt 0 stream) (named-object state handle number object can.names) ∙ can.its_stream

    written-valid : IsValidState (written handle stream offset cut bytes state)
    written-valid = state_written state k.kept.entries.valid handle stream offset cut bytes are not-none kept-apart

    other-object : IsObject other
    other-object = if_some_is (object_at (written handle stream offset cut bytes state) number) IsObject other
        (ap (λ (os : List (Option Object)). get_or os number None) (written-objects state handle stream offset cut bytes number object can.names) ∙ set-at state number object other can.names.here)
        (written-valid.objects number)

    slot-valid : IsValidState (with_written state number object stream offset cut bytes)
    slot-valid = state_changed state k.kept.entries.valid number object can.names.here (its-named cache state from k handle number object can.names) other other-object (same-items object stream offset cut bytes)

    module _ (b : Binding) (bound : binding_of cache.handles handle ≡ Some b) where
      abbrev it : IsBoundTo state k.layout can.number b
      it = bound-to cache state from k handle can.number can.object can.names b bound

      abbrev was : Loaded
      was = it.loaded

      abbrev node : ℕ
      node = node_of_object k.layout can.number can.object

      lies-there : k.layout.at node ≡ Some was
      lies-there = at-node cache state from k handle number object can.names b bound true

      pub to-write : IsToBeWritten state k.layout [] number object was b.entry stream offset cut bytes from
      to-write = record {
        kept = k.kept.entries;
        here = can.names.here;
        unsettled = can.unsettled;
        lies = lies-there;
        record_is = sym it.entry;
        first_if_sparse = λ sparse. (let low : nat_lt 0 stream ≡ false = first-stream (is_sparse object.shape) (nat_lt 0 stream) can.its_stream sparse in let le = ltb-false 0 stream low in omega (arith, le));
        valid = slot-valid;
        few = k.few;
        room = omega arith;
      } where
        first-stream : (sparse low : Bool) → (sparse && low) ≡ false → sparse ≡ true → low ≡ false
        first-stream true low e s = e
        first-stream false low e s = cc

      -- ---- once it is written

      module _ (image : Image) (w : IsWrittenUncounted state k.layout [] can.number can.object was stream offset cut bytes from image) where
        abbrev there : Layout
        there = layout_after k.layout node w.now

        lies : LiesChanged k.layout there node was w.now
        lies = record {
          place = refl;
          place_of_doomed = refl;
          at_node = at-itself k.layout.at node (Some w.now);
          elsewhere = λ x apart. at-elsewhere k.layout.at node (Some w.now) x apart;
          contents = w.after.contents;
        }

        live-node : object.live ≡ true → node ≡ k.layout.place (main object.key)
        live-node e = ap (λ (t : Bool). if t then k.layout.place (main object.key) else k.layout.place_of_doomed number) e

        pub to-use : object.live ≡ true → IsToBeUsed (with_written state number object stream offset cut bytes) there number other b.node image
        to-use alive = record {
          kept = w.kept;
          here = set-at state number object other can.names.here;
          live = alive;
          unsettled = refl;
          node_is = node-is cache state from k handle number object can.names b bound true ∙ live-node alive;
        }

        module _ (new : Cache) (counts : CountsAs cache new object other) (handles : new.handles ≡ cache.handles) where
          keeps-by : (uses : List Item) (end : Image) → Keeps (amidst state number other uses) there [] end → Agrees new.files end → this_id_of (byte end Index) ≡ this_id_of (byte from Index) → HoldsState new (amidst state number other uses) end
          keeps-by uses end keeps files id =
              changed-keeps cache state from k handle number object other can.names refl refl uses there was w.now lies-there lies new end keeps refl counts files id (ap open_count handles)
              (λ name. subst (λ (bs : Bindings). IsBoundAs (amidst state number other uses) there (named_by state name) (binding_of bs name)) (sym handles)
              (names-stay cache state from k handle number object other can.names refl refl uses there was w.now lies-there lies (sym can.unsettled) name))

          -- a doomed object
          dead-counts : object.live ≡ false → CountsItems image (with_written state number object stream offset cut bytes) there
          dead-counts dead =
              let risen = w.rise_of_doomed dead in
              let bytes-same = risen.bytes in
              w.counters ∙ k.kept.counters ∙ ap₂ counting (sym risen.items) (sym (charged bytes-same))
            where
              charged : {x y : ℕ} → x + 0 ≡ y + 0 → x ≡ y
              charged e = omega (arith, e)

          pub dead-keeps : object.live ≡ false → Agrees new.files image → HoldsState new (written handle stream offset cut bytes state) image
          dead-keeps dead files =
              subst (λ (s : State). HoldsState new s image) (sym (written-dead state handle stream offset cut bytes number object can.names dead))
              (keeps-by state.uses image (record { entries = w.kept; counters = dead-counts dead }) files w.session.id)

          -- a live one
          module _ (rises : RisesAreCounted) (leave : UsesLeaveTheRise) (less more : ℕ) (less-is : less ≡ size) (more-is : more ≡ size_after cut size offset (length bytes)) (end : Image) (u : IsUsedAndCounted (with_written state can.number can.object stream offset cut bytes) there other less more image end) where
            abbrev written-state : State
            written-state = with_written state can.number can.object stream offset cut bytes

            counted-before : CountsItems u.touched state k.layout
            counted-before = u.counters ∙ w.counters ∙ k.kept.counters

            live-counted : object.live ≡ true → Keeps (with_used written-state (main other.key)) there [] end
            live-counted alive =
                let listed : is_listed written-state (main other.key) ≡ true = main-listed written-state slot-valid number other true (set-at state number object other can.names.here) alive in
                let risen : IsRisen state (with_used written-state (main other.key)) k.layout there before (length (stream_of other stream)) = leave state written-state k.layout there before (length (stream_of other stream)) (main other.key) slot-valid listed (w.rise_of_live alive) in
                let first : before ≡ less = sym (less-is ∙ can.size_is) in
                let second : length (stream_of other stream) ≡ more = ap length (stream-back object.streams stream (stream_after cut (stream_of object stream) offset bytes)) ∙ sym (more-is ∙ after-is) in
                let now : IsRisen state (with_used written-state (main other.key)) k.layout there less more =
                subst (λ (n : ℕ). IsRisen state (with_used written-state (main other.key)) k.layout there n more) first (subst (λ (n : ℕ). IsRisen state (with_used written-state (main other.key)) k.layout there before n) second risen) in
                rises state (with_used written-state (main other.key)) k.layout there [] less more u.touched end counted-before now u.kept u.counted

            -- the session is that of its dirty flag
            live-session : (alive : object.live ≡ true) → Keeps (with_used written-state (main other.key)) there [] end → this_id_of (byte end Index) ≡ this_id_of (byte from Index)
            live-session alive keeps =
                let at-now : there.at (there.place (main other.key)) ≡ Some w.now = ap there.at (sym (live-node alive)) ∙ lies.at_node in
                let at-was : k.layout.at (k.layout.place (main object.key)) ≡ Some was = ap k.layout.at (sym (live-node alive)) ∙ lies-there in
                let marked-now : w.now.dirty ≡ this_id_of (byte end Index) = subst (λ (o : Option Loaded). IfSome o (λ l. l.dirty ≡ this_id_of (byte end Index))) at-now (keeps.entries.session.marked number other (set-at state number object other can.names.here) alive refl) in
                let marked-was : was.dirty ≡ this_id_of (byte from Index) = subst (λ (o : Option Loaded). IfSome o (λ l. l.dirty ≡ this_id_of (byte from Index))) at-was (k.kept.entries.session.marked number object can.names.here alive can.unsettled) in
                sym marked-now ∙ w.after.dirty ∙ marked-was

            pub live-keeps : object.live ≡ true → Agrees new.files end → HoldsState new (written handle stream offset cut bytes state) end
            live-keeps alive files =
                let keeps = live-counted alive in
                subst (λ (s : State). HoldsState new s end) (sym (written-live state handle stream offset cut bytes number object can.names alive))
                (keeps-by (used (main object.key) state.uses) end keeps files (live-session alive keeps))
