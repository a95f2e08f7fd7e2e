-- A part is made: its places are taken, its record is written, it is listed, and its parent gets its bit.
use Rattle.std.proofs.Common.{◌≡◌, Result, ℕ, ◌+◌, ◌<◌, ◌≤◌, List, [], ◌∷◌, ◌++◌, length, true, false, Option, None, Some, refl, sym, ◌∙◌, ap, subst, arith}
use Rattle.std.specs.Prelude.{is_some, unwrap_or}
use Rattle.std.specs.Int.{cast_unsigned, w64}
use Rattle.std.specs.Option.{ForSome}
use Rattle.spec_image.specs.Image.{AreBytes, Image}
use Rattle.spec_image.specs.Told.{Passes, Told}
use Rattle.spec_image.proofs.Runs.{passes_then, passes_weaker, some_inj}
use Rattle.blk_model.specs.Bytes.{overwritten}
use Rattle.blk_model.specs.Holding.{rest}
use Rattle.blk_model.specs.Items.{IsBytes, PartValue, main}
use Rattle.blk_model.specs.Sizes.{part_count, part_size, signatures}
use Rattle.blk_model.specs.Sparse.{empty_part, part_after}
use Rattle.blk_model.specs.State.{Object, State, object_at, part_at}
use Rattle.spec_format.specs.SparseIndex.{part_index_length}
use Rattle.spec_folder.specs.Entries.{Role}
use Rattle.spec_folder.specs.Layout.{Layout}
use Rattle.spec_folder.specs.ListView.{put}
use Rattle.spec_folder.specs.Loads.{Loaded}
use Rattle.spec_folder.specs.View.{view_of}
use Rattle.law_folder.proofs.chains.ChainWords.{record_checks}
use Rattle.law_folder.proofs.states.Changing.{at-elsewhere, at-itself}
use Rattle.blk_ranges.specs.declared.names.ChildName.{ChildName}
use Rattle.blk_ranges.specs.ParentMaps.{with_part}
use Rattle.blk_disk.specs.declared.tables.BlockFiles.{BlockFiles}
use Rattle.blk_disk.specs.Open.{IsOpen}
use Rattle.blk_io.specs.declared.fault.Fault.{Fault}
use Rattle.blk_io.specs.Faults.{IfDamaged}
use Rattle.blk_io.proofs.Carried.{if_damaged_weaker}
use Rattle.blk_object.proofs.MakingListed.{told-at}
use Rattle.law_state.specs.Changes.{Finds, StillFinds}
use Rattle.law_state.specs.Keeping.{KeepsUncounted}
use Rattle.law_state.specs.NewPartLaws.{with_new_part}
use Rattle.law_state.specs.PartStates.{with_value}
use Rattle.law_state.proofs.Dirtying.{set-at, set-else}
use Rattle.law_state.proofs.NewParts as parts
use Rattle.law_state.proofs.NewPartsKept.{values-keep}
use Rattle.blk_object.specs.Making.{LeavesRoom}
use Rattle.blk_object.proofs.MakingRoom.{uses-few}
use Rattle.blk_object.proofs.MakingStored.{counters-then}
use Rattle.blk_object.proofs.MakingTaken.{session-then, told-mid}
use Rattle.blk_sparse.specs.NewParts.{ArePartStreams, CanHavePart, ForEachPartToBeListed, HasIndexPlace, IsBeingNoted, IsFirstIndex, IsBitNoted, IsPartListed, IsPartToBeListed, AreStoredAt, IsWholeBeforeItsBit, KeepsPart, TakesPart, WritesPart, words_of_part}
use Rattle.blk_sparse.specs.SparseObjects.{KeepsParentThen, missing_parts, with_piece, with_piece_written}
use Rattle.blk_sparse.specs.declared.new_part.PartPlaces.{PartPlaces}
use Rattle.blk_sparse.proofs.NewBits.{index-place, parent-kind, parent-shown}
use Rattle.blk_sparse.proofs.NewKept.{all-kept, end-counters, end-session, noting-finds}
use Rattle.blk_sparse.proofs.NewMade as made
use Rattle.blk_sparse.proofs.NewPlaces.{new-long}
use Rattle.blk_sparse.proofs.OthersLie.{others-of, part-others}

-- a part that an object lacks is one that is missing
missing-one : (object : Object) (n : ℕ) → is_some (part_at object n) ≡ false → length (missing_parts object (n ∷ [])) ≡ 1
missing-one object n missing = rw missing refl

-- the object with the piece has the value of a part that was empty
piece-is : (object : Object) (n place : ℕ) (piece : List ℕ) (o : Option PartValue) → part_at object n ≡ o → is_some o ≡ false → with_piece object n place piece ≡ with_value object n (part_after empty_part place piece)
piece-is object n place piece None is e = ap (λ (o : Option PartValue). with_value object n (part_after (unwrap_or o empty_part) place piece)) is
piece-is object n place piece (Some v) is e = absurd (let z : true ≡ false = e in cc)

value-bytes : (place : ℕ) (piece : List ℕ) → (part_after empty_part place piece).bytes ≡ overwritten [] place piece
unfolding part_after
value-bytes place piece = refl

new-size : (place : ℕ) (piece : List ℕ) → length (part_after empty_part place piece).bytes ≡ place + length piece
new-size place piece = ap length (value-bytes place piece) ∙ new-long place piece

module _ (a b : Told) (parent : ℕ) (child : ChildName) (name : List ℕ) (place : ℕ) (piece : List ℕ) (small : cast_unsigned w64 child.signature < signatures) (below : child.part < part_count) (are : IsBytes piece) (most : place + length piece ≤ part_size)
    (take_stops : ForSome a.files (λ from. LeavesRoom 5 from → Passes a b (StillFinds [] from))) where
  module _ (from : Image) (there : a.files ≡ Some from) (state : State) (layout : Layout) (unlinked : List ℕ) (number : ℕ) (object : Object) (node : ℕ) (can : CanHavePart state layout unlinked number object node parent child name from) where
    pub room : LeavesRoom 5 from
    room = record {
      state = state;
      layout = layout;
      unlinked = unlinked;
      kept = can.grows.parent.kept;
      few = let few = can.grows.few in let one = missing-one object child.part can.missing in omega (arith, few, one);
      room = let room = can.grows.room in omega (arith, room);
    }

    -- the premise on the files holds of the observed ones
    pub taking-untold : {A : Type 0} (r : Result A Fault) → (ForSome a.files (LeavesRoom 5) → IfDamaged r (λ _. a.files ≡ None)) → IfDamaged r (λ _. a.files ≡ None)
    taking-untold {A} r untold = untold (told-at (LeavesRoom 5) a.files from there room)

    first-stops : Passes a b (StillFinds [] from)
    first-stops = take_stops from there room

    pub taking-finds : Passes a b (Finds (rest state))
    taking-finds =
        let finds : (image : Image) → StillFinds [] from image → Finds (rest state) image = λ image still. still state layout unlinked can.grows.parent.kept in
        passes_weaker first-stops finds finds

    pub mid1 : (m : Image) × (b.files ≡ Some m)
    mid1 = told-mid a b from there first-stops

    module _ (places : PartPlaces) (map : List ℕ) (first : IsFirstIndex (cast_unsigned w64 child.signature) child.key_len place (length piece) map) (long : length map ≡ part_index_length)
        (taken : ForSome a.files (λ from. LeavesRoom 5 from → ForSome b.files (TakesPart places (overwritten [] place piece) map from))) (d : Told) (write_stops : ForSome b.files (λ m. Passes b d (StillFinds (words_of_part places) m))) where
      takes : TakesPart places (overwritten [] place piece) map from (mid1).0
      takes = taken from there room mid1.0 mid1.1

      kept1 : KeepsUncounted state layout (words_of_part places ++ unlinked) (mid1).0
      kept1 = takes.taken.kept state layout unlinked can.grows.parent.kept

      second-stops : Passes b d (StillFinds (words_of_part places) (mid1).0)
      second-stops = write_stops mid1.0 mid1.1

      pub writing-finds : Passes a d (Finds (rest state))
      writing-finds =
          let finds : (image : Image) → StillFinds (words_of_part places) mid1.0 image → Finds (rest state) image = λ image still. still state layout unlinked kept1 in
          passes_then taking-finds (passes_weaker second-stops finds finds)

      pub writing-untold : {A : Type 0} (r : Result A Fault) → IfDamaged r (λ _. b.files ≡ None) → IfDamaged r (λ _. a.files ≡ None)
      writing-untold {A} r untold = if_damaged_weaker r (λ _. b.files ≡ None) (λ _. a.files ≡ None) (λ damage none. absurd (let z : ◌≡◌ {A = Option Image} None (Some mid1.0) = sym none ∙ mid1.1 in cc)) untold

      pub mid2 : (m : Image) × (d.files ≡ Some m)
      mid2 = told-mid b d mid1.0 mid1.1 second-stops

      module _ (size : ℕ) (size_is : size ≡ place + length piece)
          (written : ForSome b.files (λ m. ForSome d.files (λ image. (bytes index : List ℕ) (role : Role) → ArePartStreams places name bytes index role m → length bytes ≡ size → WritesPart places name bytes index role m image))) where
        abbrev value : PartValue
        value = part_after empty_part place piece

        abbrev key : List ℕ
        key = object.key

        streams : ArePartStreams places name (part_after empty_part place piece).bytes map (made.role state layout unlinked number object node parent child name place piece from can small below are most places map first) (mid1).0
        streams = record {
          stored = subst (λ (bs : List ℕ). AreStoredAt places.stored bs mid1.0) (sym (value-bytes place piece)) takes.stored;
          index_stored = takes.index_stored;
          few = made.few-bytes state layout unlinked number object node parent child name place piece from can small below are most places map first;
          long = long;
          role_is = made.role-is state layout unlinked number object node parent child name place piece from can small below are most places map first;
        }

        writes : WritesPart places name (part_after empty_part place piece).bytes map (made.role state layout unlinked number object node parent child name place piece from can small below are most places map first) (mid1).0 (mid2).0
        writes = written mid1.0 mid1.1 mid2.0 mid2.1 value.bytes map (made.role state layout unlinked number object node parent child name place piece from can small below are most places map first) streams (new-size place piece ∙ sym size_is)

        keeps : KeepsPart state layout unlinked places (made.l state layout unlinked number object node parent child name place piece from can small below are most places map first) (mid2).0
        keeps = writes.there state layout unlinked kept1

        few-items : length state.uses < 131072
        few-items = let few = can.grows.few in let one = missing-one object child.part can.missing in let short = uses-few state layout unlinked from can.grows.parent.kept in omega (arith, few, one, short)

        abbrev was : Loaded
        was = can.grows.parent.was

        abbrev seen : Loaded
        seen = made.seen state layout unlinked number object node parent child name place piece from can small below are most

        abbrev l : Loaded
        l = made.l state layout unlinked number object node parent child name place piece from can small below are most places map first

        abbrev objects : List (Option Object)
        objects = made.objects state layout unlinked number object node parent child name place piece from can small below are most

        t : IsPartToBeListed state objects layout unlinked object.key child.part can.grows.parent.was seen l (mid2).0
        t = made.to-be-listed state layout unlinked number object node parent child name place piece from can small below are most places map first mid2.0 keeps writes.words_are few-items

        module _ (e : Told) (list_stops : ForSome d.files (λ m. ForEachPartToBeListed places.places.entry places.places.node m (λ part. Passes d e (Finds (rest part.state))))) where
          third-stops : Passes d e (Finds (rest state))
          third-stops = list_stops mid2.0 mid2.1 state objects layout unlinked key child.part was seen l t refl refl

          pub listing-finds : Passes a e (Finds (rest state))
          listing-finds = passes_then writing-finds third-stops

          pub listing-untold : {A : Type 0} (r : Result A Fault) → ForSome d.files (λ m. ForEachPartToBeListed places.places.entry places.places.node m (λ part. IfDamaged r (λ _. d.files ≡ None))) → IfDamaged r (λ _. a.files ≡ None)
          listing-untold {A} r untold = if_damaged_weaker r (λ _. d.files ≡ None) (λ _. a.files ≡ None) (λ damage none. absurd (let z : ◌≡◌ {A = Option Image} None (Some mid2.0) = sym none ∙ mid2.1 in cc)) (untold mid2.0 mid2.1 state objects layout unlinked key child.part was seen l t refl refl)

          pub mid3 : (m : Image) × (e.files ≡ Some m)
          mid3 = told-mid d e mid2.0 mid2.1 third-stops

          module _ (listed : ForSome d.files (λ m. ForEachPartToBeListed places.places.entry places.places.node m (λ part. ForSome e.files (IsPartListed part.state part.layout part.key part.n part.was part.seen part.loaded m))))
              (files : BlockFiles) (open_then : ForSome e.files (IsOpen files)) (tells : ForSome e.files AreBytes) where
            g : IsPartListed state layout object.key child.part can.grows.parent.was seen l (mid2).0 (mid3).0
            g = listed mid2.0 mid2.1 state objects layout unlinked key child.part was seen l t refl refl mid3.0 mid3.1

            abbrev p : ℕ
            p = layout.place (main object.key)

            pub place-there : HasIndexPlace files parent (mid3).0
            place-there = subst (λ (w : ℕ). HasIndexPlace files w mid3.0) can.grows.parent.record_is
                (index-place files layout p was can.grows.parent.index can.grows.parent.role mid3.0 g.parent (open_then mid3.0 mid3.1).agrees
                (record_checks mid3.0 was.contents (tells mid3.0 mid3.1) (parent-kind files layout p was can.grows.parent.index can.grows.parent.role mid3.0 g.parent (open_then mid3.0 mid3.1).agrees) (parent-shown files layout p was can.grows.parent.index can.grows.parent.role mid3.0 g.parent (open_then mid3.0 mid3.1).agrees)))

            pub place-at-last : ForSome e.files (HasIndexPlace files parent)
            place-at-last image now = subst (HasIndexPlace files parent) (some_inj (sym mid3.1 ∙ now)) place-there

            pub noting-untold : {A : Type 0} (r : Result A Fault) → (ForSome e.files (HasIndexPlace files parent) → IfDamaged r (λ _. e.files ≡ None)) → IfDamaged r (λ _. a.files ≡ None)
            noting-untold {A} r untold = if_damaged_weaker r (λ _. e.files ≡ None) (λ _. a.files ≡ None) (λ damage none. absurd (let z : ◌≡◌ {A = Option Image} None (Some mid3.0) = sym none ∙ mid3.1 in cc)) (untold place-at-last)

            module _ (f : Told) (note_stops : ForSome e.files (λ m. Passes e f (IsBeingNoted files parent child.part m))) where
              pub noting-finds-all : Passes a f (Finds (rest state))
              noting-finds-all =
                  let finds : (image : Image) → IsBeingNoted files parent child.part mid3.0 image → Finds (rest state) image =
                  λ image being. noting-finds state objects layout unlinked key child.part was seen l mid2.0 mid3.0 t g files (open_then mid3.0 mid3.1).agrees below can.grows.parent.index can.grows.parent.role image
                  (subst (λ (w : ℕ). IsBeingNoted files w child.part mid3.0 image) (sym can.grows.parent.record_is) being) in
                  passes_then listing-finds (passes_weaker (note_stops mid3.0 mid3.1) finds finds)

              -- the part is listed, and its parent is as it was
              pub whole-before : IsWholeBeforeItsBit files state layout object.key name child.part parent a f
              whole-before = record {
                between = e;
                image = mid3.0;
                there = mid3.1;
                before = listing-finds;
                loaded = l;
                seen = seen;
                named = refl;
                listed = g.making;
                was = was;
                lay = can.grows.parent.lies;
                parent_same = g.parent;
                behind = note_stops mid3.0 mid3.1;
              }

              module _ (noted : ForSome e.files (λ m. ForSome f.files (IsBitNoted parent child.part m))) (open_last : ForSome f.files (IsOpen files)) (image : Image) (now : f.files ≡ Some image) where
                it-noted : IsBitNoted was.contents child.part (mid3).0 image
                it-noted = subst (λ (w : ℕ). IsBitNoted w child.part mid3.0 image) (sym can.grows.parent.record_is) (noted mid3.0 mid3.1 image now)

                abbrev after : Layout
                after = with_new_part layout object.key child.part seen l

                kept-last : KeepsUncounted (with_piece_written state number object child.part place piece) (with_new_part layout object.key child.part seen l) unlinked image
                kept-last = subst (λ (s : State). KeepsUncounted s after unlinked image) (made.in-front state layout unlinked number object node parent child name place piece from can small below are most)
                    (all-kept state objects layout unlinked key child.part was seen l mid2.0 mid3.0 t g files (open_then mid3.0 mid3.1).agrees below can.grows.parent.index can.grows.parent.role image (open_last image now).agrees it-noted refl
                    (values-keep state number object child.part value can.grows.parent.here))

                same-piece : with_piece object child.part place piece ≡ with_value object child.part (part_after empty_part place piece)
                same-piece = piece-is object child.part place piece (part_at object child.part) refl can.missing

                here-last : object_at (with_piece_written state number object child.part place piece) number ≡ Some (with_piece object child.part place piece)
                here-last =
                    ap (λ (s : State). object_at s number) (sym (made.in-front state layout unlinked number object node parent child name place piece from can small below are most))
                    ∙ set-at state number object (with_value object child.part value) can.grows.parent.here ∙ ap Some (sym same-piece)

                lies-last : (with_new_part layout object.key child.part seen l).at (layout.place (main object.key)) ≡ Some seen
                lies-last = at-elsewhere (put layout.at p (Some seen)) l.node (Some l) p (parts.apart (view_of mid2.0) state objects layout key child.part was seen l t.written) ∙ at-itself layout.at p (Some seen)

                pub part-made : KeepsParentThen (with_piece_written state number object child.part place piece) layout unlinked number (with_piece object child.part place piece) node parent (cast_unsigned w64 child.signature) from image
                part-made = record {
                  now = after;
                  parent = record {
                    kept = kept-last;
                    here = here-last;
                    live = can.grows.parent.live;
                    node_is = can.grows.parent.node_is;
                    was = seen;
                    lies = lies-last;
                    record_is = can.grows.parent.record_is;
                    index = with_part can.grows.parent.index child.part;
                    role = refl;
                    same = can.grows.parent.same;
                  };
                  others = others-of state (with_piece_written state number object child.part place piece) number layout after (λ other apart. set-else state number other (Some (with_piece object child.part place piece)) apart)
                      (part-others state layout unlinked from can.grows.parent.kept number object can.grows.parent.here can.grows.parent.live (view_of mid2.0) objects child.part was seen l t.written);
                  counters = counters-then from mid1.0 image takes.taken.counters (counters-then mid1.0 mid2.0 image writes.counters
                      (end-counters state objects layout unlinked key child.part was seen l mid2.0 mid3.0 t g files (open_then mid3.0 mid3.1).agrees below can.grows.parent.index can.grows.parent.role image (open_last image now).agrees it-noted refl (values-keep state number object child.part value can.grows.parent.here)));
                  session = session-then from mid1.0 image takes.taken.session (session-then mid1.0 mid2.0 image writes.session
                      (end-session state objects layout unlinked key child.part was seen l mid2.0 mid3.0 t g files (open_then mid3.0 mid3.1).agrees below can.grows.parent.index can.grows.parent.role image (open_last image now).agrees it-noted refl (values-keep state number object child.part value can.grows.parent.here)));
                }
