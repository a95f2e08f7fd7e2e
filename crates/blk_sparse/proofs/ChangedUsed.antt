-- A part that got a piece is accessed.
use Rattle.std.proofs.Common.{◌≡◌, inl, inr, ℕ, ◌+◌, List, [], length, refl, sym, ◌∙◌, subst, Option, Some, None, Result, ap}
use Rattle.std.specs.Option.{ForSome}
use Rattle.spec_image.specs.Image.{Image}
use Rattle.spec_image.specs.Told.{Passes, Told}
use Rattle.spec_image.proofs.Runs.{passes_then, passes_weaker}
use Rattle.blk_io.specs.declared.fault.Fault.{Fault}
use Rattle.blk_io.specs.Faults.{IfDamaged}
use Rattle.blk_io.proofs.Carried.{if_damaged_weaker}
use Rattle.blk_model.specs.Effects.{used}
use Rattle.blk_model.specs.Holding.{rest}
use Rattle.blk_model.specs.Items.{Item, Row, part}
use Rattle.blk_model.specs.State.{Object, State}
use Rattle.spec_format.specs.Names.{Name}
use Rattle.spec_format.specs.SparseIndex.{PartIndex, read_part_index}
use Rattle.spec_folder.specs.Entries.{IsPart}
use Rattle.spec_folder.specs.Layout.{IsPartAt, Layout}
use Rattle.spec_folder.specs.Loads.{Loaded}
use Rattle.blk_stream.proofs.Joined.{IsTold, told_then}
use Rattle.law_state.specs.Changes.{Finds}
use Rattle.law_state.specs.ListLaws.{with_used}
use Rattle.law_state.specs.PartStates.{with_object}
use Rattle.law_state.proofs.Keeping.{kept-held}
use Rattle.blk_object.specs.Owning.{LoadsWith}
use Rattle.blk_object.proofs.GoingNext.{then-counters}
use Rattle.blk_object.proofs.MakingTaken.{session-then}
use Rattle.blk_object.proofs.WrittenParts.{its-place}
use Rattle.blk_ranges.specs.PartMaps.{index_of, SamePart, presence_of}
use Rattle.blk_ranges.specs.declared.part_map.PartMap.{PartMap}
use Rattle.blk_sparse.specs.Changing.{IsChangedUnused, IsDataBeforeMap, NotesWrite, IsToBeChanged}
use Rattle.blk_sparse.specs.Parts.{FindsBeforeOrAfter, ForEachListedAt, IsListedAt, IsUsed}
use Rattle.blk_sparse.specs.SparseObjects.{CanGetParts, HasPartAt, KeepsParentThen, with_piece, with_piece_written}
use Rattle.blk_sparse.proofs.PartValid.{keeps-used, rest-whatever}
use Rattle.blk_sparse.proofs.MapsRead.{part-loads}
use Rattle.blk_sparse.proofs.UsedParts.{its-part}
use Rattle.blk_model.specs.Sparse.{presence_after}
use Rattle.std.specs.Prelude.{ℤ}
use Rattle.std.specs.Int.{cast_unsigned, w64}

-- nothing is written yet
pub nothing-found : (state : State) (layout : Layout) (unlinked : List ℕ) (number : ℕ) (object : Object) (node entry signature : ℕ) (from : Image) → CanGetParts [] state layout unlinked number object node entry signature from → Finds (rest state) from
nothing-found state layout unlinked number object node entry signature from g = (g.parent.kept.sound, kept-held state layout unlinked from g.parent.kept)

module _ (of_part place : ℕ) (piece bytes : List ℕ) (state : State) (layout : Layout) (unlinked : List ℕ) (number : ℕ) (object : Object) (node entry signature n : ℕ) (from : Image) (g : CanGetParts [] state layout unlinked number object node entry signature from) (at : HasPartAt layout object n of_part) where
  its : IsPartAt state layout object.key at.was
  its = its-place state layout unlinked from g.parent.kept number object g.parent.here g.parent.live n at.value at.has at.was at.lies

  -- the map that was read is its
  pub to-change : (m : PartMap) → ((loaded : Loaded) (name : Name) (index : PartIndex) → LoadsWith of_part loaded from → loaded.role ≡ IsPart name index → index_of m ≡ index) → NotesWrite (index_of m) place (place + length piece) bytes
      → IsToBeChanged state layout unlinked number object node entry signature n of_part place piece bytes from
  to-change m read noted = record {
    grows = g;
    at = at;
    name = its.name;
    index = its.index;
    role = its.role;
    noted = subst (λ (i : PartIndex). NotesWrite i place (place + length piece) bytes) (read at.was its.name its.index (part-loads state layout unlinked number object node entry signature from g.parent n of_part at) its.role) noted;
  }

  abbrev item : Item
  item = part object.key n

  abbrev other : Object
  other = with_piece object n place piece

  -- the durable contents are the same
  rest-changed : rest (with_object state number (with_piece object n place piece)) ≡ rest state
  rest-changed = rest-whatever state number object g.parent.kept.valid g.parent.here g.parent.live g.unsettled (with_piece object n place piece) state.uses (record { key_is = refl; live = g.parent.live; unsettled = g.unsettled }) refl

  rest-used : rest (with_used (with_object state number (with_piece object n place piece)) (part object.key n)) ≡ rest state
  rest-used = rest-whatever state number object g.parent.kept.valid g.parent.here g.parent.live g.unsettled (with_piece object n place piece) (used (part object.key n) state.uses) (record { key_is = refl; live = g.parent.live; unsettled = g.unsettled })
      (keeps-used state number object g.parent.kept.valid g.parent.here g.parent.live g.unsettled (part object.key n) refl)

  either-found : (image : Image) → FindsBeforeOrAfter (with_object state number (with_piece object n place piece)) (part object.key n) image → Finds (rest state) image
  either-found image (inl f) = subst (λ (rows : List Row). Finds rows image) rest-changed f
  either-found image (inr f) = subst (λ (rows : List Row). Finds rows image) rest-used f

  module _ (a m b : Told) (there : a.files ≡ Some from) (first : Passes a m (Finds (rest state))) where
    abbrev mid : IsTold m (Finds (rest state))
    mid = told_then a m from (Finds (rest state)) there first

    module _ (changed : ForSome m.files (IsChangedUnused state layout unlinked number object node entry signature n of_part place piece from)) where
      now : IsChangedUnused state layout unlinked number object node entry signature n of_part place piece from mid.image
      now = changed mid.image mid.is

      listed : IsListedAt (with_object state number (with_piece object n place piece)) now.now unlinked (part object.key n) of_part mid.image
      listed = its-part (with_object state number (with_piece object n place piece)) now.now unlinked number (with_piece object n place piece) node entry signature mid.image now.parent n of_part now.at

      use-stops : ForSome m.files (λ i. ForEachListedAt of_part i (λ state layout unlinked item. Passes m b (FindsBeforeOrAfter state item))) → Passes m b (Finds (rest state))
      use-stops passes = passes_weaker (passes mid.image mid.is (with_object state number (with_piece object n place piece)) now.now unlinked (part object.key n) listed) either-found either-found

      pub change-stops : ForSome m.files (λ i. ForEachListedAt of_part i (λ state layout unlinked item. Passes m b (FindsBeforeOrAfter state item))) → Passes a b (Finds (rest state))
      change-stops passes = passes_then first (use-stops passes)

      -- the data was there before the map changed
      pub change-ordered : IsDataBeforeMap state unlinked number object n place piece a m → ForSome m.files (λ i. ForEachListedAt of_part i (λ state layout unlinked item. Passes m b (FindsBeforeOrAfter state item))) → IsDataBeforeMap state unlinked number object n place piece a b
      change-ordered o passes = record {
        between = o.between;
        image = o.image;
        there = o.there;
        before = o.before;
        value = o.value;
        has = o.has;
        layout = o.layout;
        kept = o.kept;
        behind = passes_then o.behind (use-stops passes);
      }

      pub change-ends : ForSome m.files (λ i. ForEachListedAt of_part i (λ state layout unlinked item. ForSome b.files (IsUsed state layout unlinked item i))) → ForSome b.files (KeepsParentThen (with_piece_written state number object n place piece) layout unlinked number (with_piece object n place piece) node entry signature from)
      change-ends ends image is =
          let u : IsUsed (with_object state number (with_piece object n place piece)) now.now unlinked (part object.key n) mid.image image = ends mid.image mid.is (with_object state number (with_piece object n place piece)) now.now unlinked (part object.key n) listed image is in
          record {
            now = now.now;
            parent = record { kept = u.kept; here = now.parent.here; live = now.parent.live; node_is = now.parent.node_is; was = now.parent.was; lies = now.parent.lies; record_is = now.parent.record_is; index = now.parent.index; role = now.parent.role; same = now.parent.same };
            others = now.others;
            counters = then-counters from mid.image image now.counters u.counters;
            session = session-then from mid.image image now.session u.session;
          }

      pub change-untold : {A : Type 0} (r : Result A Fault) → ForSome m.files (λ i. ForEachListedAt of_part i (λ state layout unlinked item. IfDamaged r (λ _. m.files ≡ None))) → IfDamaged r (λ _. a.files ≡ None)
      change-untold {A} r untold = if_damaged_weaker r (λ _. m.files ≡ None) (λ _. a.files ≡ None) (λ damage none. absurd (let z : ◌≡◌ {A = Option Image} None (Some mid.image) = sym none ∙ mid.is in cc)) (untold mid.image mid.is (with_object state number (with_piece object n place piece)) now.now unlinked (part object.key n) listed)

-- a map in which a write was noted, printed
pub noted-map : (old new : PartMap) (place end : ℕ) (bytes : List ℕ) → SamePart old new → presence_of new ≡ presence_after (presence_of old) place end → read_part_index bytes ≡ Some (index_of new) → NotesWrite (index_of old) place end bytes
unfolding index_of
noted-map old new place end bytes same present is = record {
  index = index_of new;
  is = is;
  signature = ap (λ (s : ℤ). cast_unsigned w64 s) same.signature;
  key_len = same.key_len;
  presence = present;
}
