-- A plain object that becomes sparse: its third stream is written, and then its record gets the flags of a parent.
use Rattle.std.proofs.Common.{◌≡◌, ℕ, zero, suc, ◌+◌, ◌<◌, List, [], ◌∷◌, ◌++◌, refl, ap, sym, ◌∙◌, subst, arith, length, replicate, Bool, true, false, Option, Some, None, set}
use Rattle.std.specs.Prelude.{◌-◌, ◌&&◌}
use Rattle.std.specs.Option.{ForSome}
use Rattle.spec_image.specs.Image.{Image, AreBytes}
use Rattle.spec_image.specs.Told.{Passes, Told}
use Rattle.spec_image.proofs.Runs.{passes_then}
use Rattle.blk_model.specs.Bytes.{overwritten_and_cut}
use Rattle.law_state.specs.CommandEnds.{after_write}
use Rattle.blk_model.specs.Holding.{rest}
use Rattle.blk_model.specs.Items.{IsBytes, Item, is_sparse, main, part, plain, sparse, Row, main_row, part_row}
use Rattle.blk_model.specs.Sizes.{signatures}
use Rattle.blk_model.specs.State.{IsObject, IsValidState, Object, State, has_item, is_named, object_at}
use Rattle.blk_model.proofs.States.{if_some_is}
use Rattle.blk_model.proofs.Written.{state_changed}
use Rattle.spec_format.specs.SparseIndex.{read_parent_index}
use Rattle.spec_folder.specs.Entries.{IsParent, stream, IsPlain, IsPart, Role}
use Rattle.spec_folder.specs.Layout.{Layout, rule_of}
use Rattle.spec_folder.specs.View.{entry_at}
use Rattle.law_folder.proofs.states.Changing.{at-itself}
use Rattle.law_folder.proofs.states.Settling.{main-listed}
use Rattle.blk_stream.specs.Loading.{stored_streams_with}
use Rattle.blk_stream.proofs.Joined.{IsTold, told_then}
use Rattle.law_state.specs.Changes.{Finds}
use Rattle.law_state.specs.Keeping.{KeepsUncounted}
use Rattle.law_state.specs.ObjectLaws.{layout_after}
use Rattle.law_state.specs.PartStates.{with_object}
use Rattle.law_state.proofs.Dirtying.{set-at, set-else}
use Rattle.law_state.proofs.Keeping.{kept-held}
use Rattle.blk_object.specs.Writing.{ForEachUnsettled, IsToBeWritten, IsWrittenUncounted, node_of_object, with_written}
use Rattle.blk_object.proofs.GoingNext.{then-counters}
use Rattle.blk_object.proofs.MakingTaken.{session-then}
use Rattle.blk_object.proofs.OwnedCharges.{record-key}
use Rattle.blk_sparse.specs.Beginning.{CanGetIndex, ForEachWithIndex, HasIndex, IsParentMarked, as_sparse, HasParentLength}
use Rattle.blk_sparse.specs.SparseObjects.{CanBecomeSparse, KeepsParentThen, OthersLieAsBefore, with_signature}
use Rattle.blk_sparse.proofs.OthersLie.{changed-others, others-of, others-then}
use Rattle.spec_folder.specs.Found.{row_with}
use Rattle.blk_object.specs.Owning.{LoadsWith}
use Rattle.blk_object.proofs.OwnedPlaces.{loaded-checks}
use Rattle.blk_object.proofs.WrittenObjects.{object-row}
use Rattle.spec_folder.specs.ListView.{put}
use Rattle.blk_model.specs.Effects.{stream_after, stream_of}
use Rattle.std.specs.declared.result.Result.{Result}
use Rattle.blk_io.specs.declared.fault.Fault.{Fault}
use Rattle.blk_io.specs.Faults.{IfDamaged}
use Rattle.blk_io.proofs.Carried.{if_damaged_weaker}
use Rattle.blk_ranges.specs.declared.parent_map.ParentMap.{ParentMap}
use Rattle.blk_ranges.specs.ParentMaps.{parent_index_of, head_signature}

-- ---- lists

pub set-twice : {A : Type 0} (xs : List A) (i : ℕ) (x y : A) → set (set xs i y) i x ≡ set xs i x
set-twice [] i x y = refl
set-twice (z ∷ xs) zero x y = refl
set-twice {A} (z ∷ xs) (suc i) x y = ap (λ (l : List A). z ∷ l) (set-twice xs i x y)

-- bytes that are written from the front on, and end there, are all there are
pub cut-all : (old bytes : List ℕ) → overwritten_and_cut old 0 bytes ≡ bytes
cut-all old bytes = let none : 0 - length old ≡ 0 = omega arith in ap (λ (n : ℕ). replicate n 0 ++ bytes) none

-- ---- objects

-- a dirty object is named
pub unsettled-named : (state : State) → IsValidState state → (number : ℕ) (object : Object) → object_at state number ≡ Some object → object.settled ≡ false → is_named state number ≡ true
unsettled-named state valid number object here unsettled =
    if_some_is (object_at state number) (λ x. (x.live && x.settled ≡ false) → is_named state number ≡ true) object here (valid.held number) (ap (λ (b : Bool). object.live && b) unsettled ∙ no-more object.live)
  where
    no-more : (b : Bool) → (b && false) ≡ false
    no-more true = refl
    no-more false = refl

pub object-valid : (state : State) → IsValidState state → (number : ℕ) (object : Object) → object_at state number ≡ Some object → IsObject object
object-valid state valid number object here = if_some_is (object_at state number) IsObject object here (valid.objects number)

never-sparse : (object : Object) → object.shape ≡ plain → is_sparse object.shape ≡ true → ⊥
never-sparse object plain_is sparse_is = let z : true ≡ false = sym sparse_is ∙ ap is_sparse plain_is in cc

abbrev is-main : Row → Bool
is-main (main_row key shape streams) = true
is-main (part_row key n value) = false

abbrev key-in : Row → List ℕ
key-in (main_row key shape streams) = key
key-in (part_row key n value) = key

row-key : (key : List ℕ) (role : Role) (streams : List (List ℕ)) (object : Object) → row_with key role streams ≡ main_row object.key object.shape object.streams → key ≡ object.key
row-key key IsPlain streams object e = ap key-in e
row-key key (IsParent index) streams object e = ap key-in e
row-key key (IsPart name index) streams object e = absurd (let z : false ≡ true = ap is-main e in cc)

module _ (state : State) (layout : Layout) (unlinked : List ℕ) (number : ℕ) (object : Object) (node entry : ℕ) (from : Image) (p : CanBecomeSparse state layout unlinked number object node entry from) where
  named : is_named state number ≡ true
  named = unsettled-named state p.kept.valid number object p.here p.unsettled

  is : IsObject object
  is = object-valid state p.kept.valid number object p.here

  its-node : node_of_object layout number object ≡ layout.place (main object.key)
  its-node = let live = p.live in rw live refl

  lies-as : layout.at (node_of_object layout number object) ≡ Some p.was
  lies-as = ap layout.at its-node ∙ p.lies

  loads-with : LoadsWith entry p.was from
  loads-with = record { rule = rule_of layout (layout.place (main object.key)); node = layout.place (main object.key); loads = p.kept.represents.holds.shows.each (layout.place (main object.key)) p.was p.lies; contents = p.record_is }

  its-key : p.was.key ≡ object.key
  its-key = row-key p.was.key p.was.role p.was.streams object (object-row state layout unlinked from p.kept number object p.here p.was lies-as).row

  -- the length of its key is in its record
  pub key-said : length p.was.key ≡ (entry_at from entry).key_len
  key-said = record-key from entry p.was loads-with

  pub has-length : AreBytes from → HasParentLength entry from
  has-length bytes =
      let some = is.key.some in let short = is.key.short in let said = key-said in let key = ap length its-key in
      record { checks = loaded-checks from entry p.was bytes loads-with; some = omega (arith, some, said, key); short = omega (arith, short, said, key) }

  -- with a generation it is valid
  module _ (signature : ℕ) (small : signature < signatures) where
    sparse-valid : IsValidState (with_object state number (with_signature object signature))
    sparse-valid = state_changed state p.kept.valid number object p.here named (with_signature object signature)
        (record {
          key = is.key;
          streams = is.streams;
          signature = small;
          plain_has_no_parts = λ e. absurd (let z : true ≡ false = e in cc);
          doomed_has_no_parts = is.doomed_has_no_parts;
          sparse_has_one_stream = λ e. record { second = p.second; third = p.third };
          rising = is.rising;
          parts = is.parts;
        })
        same-items
      where
        same-items : (item : Item) → has_item (with_signature object signature) item ≡ has_item object item
        same-items (main key) = refl
        same-items (part key n) = refl

    module _ (bytes : List ℕ) (small_bytes : IsBytes bytes) (key_len : ℕ) (said : key_len ≡ (entry_at from entry).key_len) (h : HasIndex signature key_len bytes) where
      -- ---- its third stream is written

      abbrev between : Object
      between = after_write object 2 0 true bytes

      third-is : stream_after true (stream_of object 2) 0 bytes ≡ bytes
      third-is = cut-all object.streams.2 bytes

      between-valid : IsValidState (with_written state number object 2 0 true bytes)
      between-valid = state_changed state p.kept.valid number object p.here named (after_write object 2 0 true bytes)
          (record {
            key = is.key;
            streams = (is.streams.0, is.streams.1, subst IsBytes (sym third-is) small_bytes);
            signature = is.signature;
            plain_has_no_parts = is.plain_has_no_parts;
            doomed_has_no_parts = is.doomed_has_no_parts;
            sparse_has_one_stream = λ e. absurd (never-sparse object p.is_plain e);
            rising = is.rising;
            parts = is.parts;
          })
          same-between
        where
          same-between : (item : Item) → has_item (after_write object 2 0 true bytes) item ≡ has_item object item
          same-between (main key) = refl
          same-between (part key n) = refl

      pub to-write : IsToBeWritten state layout unlinked number object p.was entry 2 0 true bytes from
      to-write = record {
        kept = p.kept;
        here = p.here;
        unsettled = p.unsettled;
        lies = lies-as;
        record_is = p.record_is;
        first_if_sparse = λ e. absurd (never-sparse object p.is_plain e);
        valid = between-valid;
        few = p.few;
        room = p.room;
      }

      -- ---- and then it has an index

      module _ (mid : Image) (w : IsWrittenUncounted state layout unlinked number object p.was 2 0 true bytes from mid) where
        abbrev state-mid : State
        state-mid = with_written state number object 2 0 true bytes

        abbrev layout-mid : Layout
        layout-mid = layout_after layout (node_of_object layout number object) w.now

        there : object_at state-mid number ≡ Some between
        there = set-at state number object between p.here

        lies-mid : layout-mid.at (layout-mid.place (main object.key)) ≡ Some w.now
        lies-mid = subst (λ (n : ℕ). put layout.at n (Some w.now) (layout.place (main object.key)) ≡ Some w.now) (sym its-node) (at-itself layout.at (layout.place (main object.key)) (Some w.now))

        third-there : stream 2 w.now.streams ≡ bytes
        unfolding stored_streams_with
        third-there = ap (stream 2) w.after.streams ∙ cut-all (stream 2 p.was.streams) bytes

        -- its object is the one with the generation, at last
        becomes : as_sparse between h.index.signature ≡ with_signature object signature
        becomes = λ i. record object { shape = sparse (h.signature_is i); streams = (object.streams.0, sym p.second i, sym p.third i); settled = sym p.unsettled i }

        state-becomes : with_object state-mid number (as_sparse between h.index.signature) ≡ with_object state number (with_signature object signature)
        state-becomes = ap (λ (o : Object). with_object state-mid number o) becomes ∙ ap (λ (os : List (Option Object)). record state { objects = os }) (set-twice state.objects number (Some (with_signature object signature)) (Some between))

        pub with-index : CanGetIndex state-mid layout-mid unlinked number between w.now h.index entry mid
        with-index = record {
          kept = w.kept;
          here = there;
          live = p.live;
          unsettled = refl;
          is_plain = p.is_plain;
          second = p.second;
          lies = lies-mid;
          record_is = w.after.contents ∙ p.record_is;
          index_is = ap read_parent_index third-there ∙ h.is;
          key_len = h.key_len_is ∙ said ∙ sym key-said ∙ ap length (sym w.after.key);
          valid = subst IsValidState (sym state-becomes) sparse-valid;
        }

        -- the durable contents are the same
        rest-mid : Finds (rest state) mid → rest state-mid ≡ rest state
        rest-mid found = sym (kept-held state-mid layout-mid unlinked mid w.kept) ∙ found.1

        -- the other objects lie where they lay
        abbrev end : Layout
        end = layout_after layout-mid (layout-mid.place (main object.key)) (record w.now { role = IsParent h.index })

        first-others : OthersLieAsBefore state number layout layout-mid
        first-others = subst (λ (n : ℕ). OthersLieAsBefore state number layout (layout_after layout n w.now)) (sym its-node)
            (changed-others state layout unlinked from p.kept number object p.here p.live (main object.key) (main-listed state p.kept.valid number object true p.here p.live) refl w.now)

        second-others : OthersLieAsBefore state-mid number layout-mid end
        second-others = changed-others state-mid layout-mid unlinked mid w.kept number between there p.live (main object.key) (main-listed state-mid w.kept.valid number between true there p.live) refl (record w.now { role = IsParent h.index })

        pub begun : (image : Image) → IsParentMarked state-mid layout-mid unlinked number between w.now h.index mid image → KeepsParentThen (with_object state number (with_signature object signature)) layout unlinked number (with_signature object signature) node entry signature from image
        begun image m = record {
          now = layout_after layout-mid (layout-mid.place (main object.key)) (record w.now { role = IsParent h.index });
          parent = record {
            kept = subst (λ (s : State). KeepsUncounted s (layout_after layout-mid (layout-mid.place (main object.key)) (record w.now { role = IsParent h.index })) unlinked image) state-becomes m.kept;
            here = set-at state number object (with_signature object signature) p.here;
            live = p.live;
            node_is = p.node_is;
            was = record w.now { role = IsParent h.index };
            lies = at-itself layout-mid.at (layout-mid.place (main object.key)) (Some (record w.now { role = IsParent h.index }));
            record_is = w.after.contents ∙ p.record_is;
            index = h.index;
            role = refl;
            same = h.signature_is;
          };
          others = others-of state (with_object state number (with_signature object signature)) number layout end (λ other apart. set-else state number other (Some (with_signature object signature)) apart)
              (others-then state number layout layout-mid end first-others (others-of state-mid state number layout-mid end (λ other apart. sym (set-else state number other (Some between) apart)) second-others));
          counters = then-counters from mid image w.counters m.counters;
          session = session-then from mid image w.session m.session;
        }

-- the index of a map that was printed
pub index-of-map : (signature key_len : ℕ) (bytes : List ℕ) (m : ParentMap) → read_parent_index bytes ≡ Some (parent_index_of m) → head_signature m.head ≡ signature → m.head.key_len ≡ key_len → HasIndex signature key_len bytes
unfolding parent_index_of
index-of-map signature key_len bytes m is sign len = record { index = parent_index_of m; is = is; signature_is = sign; key_len_is = len }

-- ---- the calls

module _ (a m b : Told) (entry : ℕ) (bytes : List ℕ) (small_bytes : IsBytes bytes) (from : Image) (there : a.files ≡ Some from) (state : State) (layout : Layout) (unlinked : List ℕ) (number : ℕ) (object : Object) (node signature : ℕ) (p : CanBecomeSparse state layout unlinked number object node entry from) (small : signature < signatures)
    (h : HasIndex signature (entry_at from entry).key_len bytes) where
  -- what the first asks
  asks : IsToBeWritten state layout unlinked number object p.was entry 2 0 true bytes from
  asks = to-write state layout unlinked number object node entry from p signature small bytes small_bytes (entry_at from entry).key_len refl h

  pub write-untold : {A : Type 0} (r : Result A Fault) → ForSome a.files (λ from. ForEachUnsettled entry 2 0 true bytes from (λ state layout unlinked number object was. IfDamaged r (λ _. a.files ≡ None))) → IfDamaged r (λ _. a.files ≡ None)
  write-untold {A} r untold = untold from there state layout unlinked number object p.was asks

  module _ (stops : ForSome a.files (λ from. ForEachUnsettled entry 2 0 true bytes from (λ state layout unlinked number object was. Passes a m (Finds (rest state))))) where
    -- while the stream is written
    pub first-stops : Passes a m (Finds (rest state))
    first-stops = stops from there state layout unlinked number object p.was asks

    abbrev mid : IsTold m (Finds (rest state))
    mid = told_then a m from (Finds (rest state)) there first-stops

    module _ (written : ForSome a.files (λ from. ForEachUnsettled entry 2 0 true bytes from (λ state layout unlinked number object was. ForSome m.files (IsWrittenUncounted state layout unlinked number object was 2 0 true bytes from)))) where
      w : IsWrittenUncounted state layout unlinked number object p.was 2 0 true bytes from mid.image
      w = written from there state layout unlinked number object p.was asks mid.image mid.is

      can : CanGetIndex (with_written state number object 2 0 true bytes) (layout_after layout (node_of_object layout number object) w.now) unlinked number (after_write object 2 0 true bytes) w.now h.index entry mid.image
      can = with-index state layout unlinked number object node entry from p signature small bytes small_bytes (entry_at from entry).key_len refl h mid.image w

      pub all-stops : ForSome m.files (λ i. ForEachWithIndex entry i (λ state layout unlinked number object was index. Passes m b (Finds (rest state)))) → Passes a b (Finds (rest state))
      all-stops passes =
          let same = rest-mid state layout unlinked number object node entry from p signature small bytes small_bytes (entry_at from entry).key_len refl h mid.image w mid.holds in
          let run : Passes m b (Finds (rest (with_written state number object 2 0 true bytes))) = passes mid.image mid.is (with_written state number object 2 0 true bytes) (layout_after layout (node_of_object layout number object) w.now) unlinked number (after_write object 2 0 true bytes) w.now h.index can in
          passes_then first-stops (subst (λ (rows : List Row). Passes m b (Finds rows)) same run)

      pub all-begun : ForSome m.files (λ i. ForEachWithIndex entry i (λ state layout unlinked number object was index. ForSome b.files (IsParentMarked state layout unlinked number object was index i)))
          → ForSome b.files (KeepsParentThen (with_object state number (with_signature object signature)) layout unlinked number (with_signature object signature) node entry signature from)
      all-begun marks image is = begun state layout unlinked number object node entry from p signature small bytes small_bytes (entry_at from entry).key_len refl h mid.image w image
          (marks mid.image mid.is (with_written state number object 2 0 true bytes) (layout_after layout (node_of_object layout number object) w.now) unlinked number (after_write object 2 0 true bytes) w.now h.index can image is)

      pub mid-untold : {A : Type 0} (r : Result A Fault) → ForSome m.files (λ i. ForEachWithIndex entry i (λ state layout unlinked number object was index. IfDamaged r (λ _. m.files ≡ None))) → IfDamaged r (λ _. a.files ≡ None)
      mid-untold {A} r untold = if_damaged_weaker r (λ _. m.files ≡ None) (λ _. a.files ≡ None) (λ damage none. absurd (let z : ◌≡◌ {A = Option Image} None (Some mid.image) = sym none ∙ mid.is in cc))
          (untold mid.image mid.is (with_written state number object 2 0 true bytes) (layout_after layout (node_of_object layout number object) w.now) unlinked number (after_write object 2 0 true bytes) w.now h.index can)
