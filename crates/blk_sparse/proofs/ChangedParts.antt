-- A part of a dirty object gets a piece: its data is written, and then its map.
use Rattle.std.proofs.Common.{◌≡◌, ⊎_elim, ℕ, ◌+◌, ◌*◌, ◌≤◌, List, refl, ap, ap₂, sym, ◌∙◌, subst, arith, length, true, false, cond, Option, Some, None, Result}
use Rattle.std.specs.Prelude.{◌&&◌, ◌==◌, IfSome, is_some, nat_lt, unwrap_or}
use Rattle.std.specs.Option.{option_map, ForSome}
use Rattle.std.specs.Ordering.{nat_cmp}
use Rattle.std.specs.Cmp.{nat_cmp_total}
use Rattle.std.specs.FinMap.Entries.{length-put}
use Rattle.std.specs.Bool.{passes}
use Rattle.std.proofs.lemmas.Bool.{and_from, and_parts, cases_Bool, eqb-true}
use Rattle.std.proofs.lemmas.Bool.Decides.{nat_tests}
use Rattle.std.proofs.lemmas.List.Sums.{sum_by-set}
use Rattle.spec_image.specs.Image.{Image}
use Rattle.spec_image.proofs.Runs.{some_inj, passes_then}
use Rattle.blk_model.specs.Bytes.{overwritten}
use Rattle.blk_model.specs.Effects.{stream_after}
use Rattle.blk_model.specs.Holding.{rest}
use Rattle.blk_model.specs.Items.{IsBytes, IsPartValue, LiesInside, PartValue, Presence, Row, main, main_row, part, part_row}
use Rattle.blk_model.specs.Room.{item_count, items, of_slot}
use Rattle.blk_model.specs.Sparse.{empty_part, part_after, presence_after}
use Rattle.blk_model.specs.State.{IsValidState, Object, State, is_named, object_at, part_at}
use Rattle.blk_model.proofs.ByteLists.{overwritten_are}
use Rattle.blk_model.proofs.Each.{some_within}
use Rattle.blk_model.proofs.PartValues.{length-overwritten, part_after_is}
use Rattle.spec_format.specs.Names.{Name, read_name}
use Rattle.spec_format.specs.SparseIndex.{PartIndex, read_part_index}
use Rattle.spec_folder.specs.Entries.{IsPart, Role, is_covered, part_role, stream}
use Rattle.spec_folder.specs.Found.{row_of_loaded, row_with}
use Rattle.spec_folder.specs.Layout.{Layout, rule_of}
use Rattle.spec_folder.specs.Loads.{Loaded}
use Rattle.law_folder.proofs.states.Changing.{at-elsewhere, at-itself, same-place}
use Rattle.law_folder.proofs.states.Settling.{main-listed}
use Rattle.law_folder.proofs.walks.Loads.{load-then}
use Rattle.blk_ranges.specs.PartMaps.{presence_in}
use Rattle.blk_stream.specs.Loading.{stored_streams_with}
use Rattle.law_state.specs.Changes.{Finds}
use Rattle.law_state.specs.Keeping.{KeepsUncounted}
use Rattle.law_state.specs.ObjectLaws.{layout_after}
use Rattle.law_state.specs.PartStates.{with_object, with_value}
use Rattle.law_state.proofs.Dirtying.{set-at, set-else}
use Rattle.law_state.proofs.Keeping.{kept-held}
use Rattle.blk_object.specs.Writing.{IsPartToBeWritten, IsPartWrittenUncounted, ForEachPartUnsettled}
use Rattle.blk_object.proofs.GoingNext.{then-counters}
use Rattle.blk_object.proofs.MakingTaken.{session-then}
use Rattle.blk_object.proofs.WrittenParts.{its-row, part-listed}
use Rattle.blk_object.proofs.WrittenRoles.{IsPartRole, part-from, part-of, role-part-of}
use Rattle.blk_sparse.specs.Changing.{IsChangedUnused, IsDataBeforeMap, IsToBeChanged}
use Rattle.blk_sparse.specs.SparseObjects.{HasPartAt, KeepsParent, OthersLieAsBefore, with_piece}
use Rattle.blk_sparse.proofs.Begun.{cut-all, object-valid, set-twice, unsettled-named}
use Rattle.blk_sparse.proofs.FoundParts.{row-of-part}
use Rattle.blk_sparse.proofs.OthersLie.{changed-others, others-of, others-then}
use Rattle.blk_sparse.proofs.PartRoles.{covered-from, covered-more}
use Rattle.blk_sparse.proofs.PartValid.{its-value, value-here, value-twice, value-valid}
use Rattle.spec_folder.specs.View.{store_of}
use Rattle.spec_image.specs.Told.{Told, Passes}
use Rattle.blk_stream.proofs.Joined.{IsTold, told_then}
use Rattle.blk_io.specs.declared.fault.Fault.{Fault}
use Rattle.blk_io.specs.Faults.{IfDamaged}
use Rattle.blk_io.proofs.Carried.{if_damaged_weaker}

-- ---- rows

abbrev key-in : Row → List ℕ
key-in (main_row key shape streams) = key
key-in (part_row key n value) = key

abbrev number-in : Row → ℕ
number-in (main_row key shape streams) = 0
number-in (part_row key n value) = n

abbrev value-in : Row → PartValue
value-in (main_row key shape streams) = empty_part
value-in (part_row key n value) = value

-- the row of a part by its name, its data and its validity bitmap
row-by : (key : List ℕ) (name : Name) (index : PartIndex) (streams : List (List ℕ)) (key_is : List ℕ) (n : ℕ) (value : PartValue) → name.key ≡ key_is → name.part ≡ n → stream 1 streams ≡ value.bytes → presence_in index ≡ value.presence → row_with key (IsPart name index) streams ≡ part_row key_is n value
unfolding presence_in
row-by key name index streams key_is n value k m b p i = part_row (k i) (m i) (record { bytes = b i; presence = p i })

-- the name, the index and the streams give the row of a part
pub record IsPartRow (name : Name) (index : PartIndex) (streams : List (List ℕ)) (key : List ℕ) (n : ℕ) (value : PartValue) : Type 0 where
  pub key_is : name.key ≡ key
  pub number_is : name.part ≡ n
  pub bytes_are : stream 1 streams ≡ value.bytes
  pub presence_is : presence_in index ≡ value.presence

row-says : (key : List ℕ) (name : Name) (index : PartIndex) (streams : List (List ℕ)) (key_is : List ℕ) (n : ℕ) (value : PartValue) → row_with key (IsPart name index) streams ≡ part_row key_is n value → IsPartRow name index streams key_is n value
unfolding presence_in
row-says key name index streams key_is n value e = record { key_is = ap key-in e; number_is = ap number-in e; bytes_are = ap (λ (r : Row). (value-in r).bytes) e; presence_is = ap (λ (r : Row). (value-in r).presence) e }

-- ---- a part where it lies

module _ (state : State) (layout : Layout) (unlinked : List ℕ) (from : Image) (k : KeepsUncounted state layout unlinked from) (number : ℕ) (object : Object) (here : object_at state number ≡ Some object) (live : object.live ≡ true) (n of_part : ℕ) (at : HasPartAt layout object n of_part) (name : Name) (index : PartIndex) (role : at.was.role ≡ IsPart name index) where
  pub part-says : IsPartRow name index at.was.streams object.key n at.value
  part-says =
      let row = its-row state layout unlinked from k number object here live n at.value at.has at.was at.lies in
      let rows : ◌≡◌ {A = Option Row} (Some (part_row object.key n at.value)) (Some (row_of_loaded at.was)) = ap (option_map (λ (value : PartValue). part_row object.key n value)) (sym at.has) ∙ row-of-part state k.valid number object here live n (row_of_loaded at.was) row in
      row-says at.was.key name index at.was.streams object.key n at.value (ap (λ (r : Role). row_with at.was.key r at.was.streams) (sym role) ∙ sym (some_inj rows))

  pub part-facts : IsPartRole at.was.key at.was.streams (IsPart name index)
  part-facts = part-of at.was.key at.was.streams (IsPart name index)
      (load-then (store_of from) (rule_of layout (layout.place (part object.key n))) (layout.place (part object.key n)) at.was (k.represents.holds.shows.each (layout.place (part object.key n)) at.was at.lies)
      (λ m e f. role-part-of e at.was.key at.was.streams name index (f.facts.role ∙ ap Some role)))

-- ---- states with a given number of items

items-same : (state : State) → IsValidState state → (number : ℕ) (object : Object) → object_at state number ≡ Some object → (n : ℕ) (old value : PartValue) → part_at object n ≡ Some old → items (with_object state number (with_value object n value)) ≡ items state
items-same state valid number object here n old value has =
    let moved = sum_by-set (of_slot item_count) state.objects number (Some (with_value object n value)) None (some_within state.objects number object here) in
    let was : of_slot item_count (object_at state number) ≡ item_count object = ap (of_slot item_count) here in
    let long : length (with_value object n value).parts ≡ length object.parts = length-put nat_cmp nat_cmp_total n value object.parts (passes _ (object-valid state valid number object here).rising) ∙ ap (λ (o : Option PartValue). cond (is_some o) (length object.parts) (length object.parts + 1)) has in
    omega (arith, moved, was, long)

-- ---- the values

module _ (value : PartValue) (place : ℕ) (piece : List ℕ) (small : IsBytes piece) (is : IsPartValue value) (room : place + length piece ≤ 1048576) where
  -- the part with the data, and the map that it had
  abbrev pub with_data : PartValue
  with_data = record value { bytes = overwritten value.bytes place piece }

  pub data-is : IsPartValue (record value { bytes = overwritten value.bytes place piece })
  data-is =
      let long = length-overwritten value.bytes place piece in
      let fits = is.fits in
      record {
        bytes = overwritten_are value.bytes place piece is.bytes small;
        fits = omega (arith, long, fits, room);
        blocks = is.blocks;
        partial = is.partial;
        inside = record { whole = λ block there. (let within = is.inside.whole block there in omega (arith, within, long)); piece = further value.presence.partial is.inside.piece };
      }
    where
      further : (o : Option (ℕ × ℕ)) → IfSome o (λ p. p.0 * 1024 + p.1 ≤ length value.bytes) → IfSome o (λ p. p.0 * 1024 + p.1 ≤ length (overwritten value.bytes place piece))
      further None h = tt
      further (Some p) h = let within : p.0 * 1024 + p.1 ≤ length value.bytes = h in let long = length-overwritten value.bytes place piece in omega (arith, within, long)

  -- the piece in the end
  pub end-is : IsPartValue (part_after value place piece)
  end-is = part_after_is value place piece small is room

  pub end-bytes : (part_after value place piece).bytes ≡ overwritten value.bytes place piece
  unfolding part_after
  end-bytes = refl

  pub end-presence : (part_after value place piece).presence ≡ presence_after value.presence place (place + length piece)
  unfolding part_after
  end-presence = refl

  pub longer : length value.bytes ≤ length (overwritten value.bytes place piece)
  longer = let long = length-overwritten value.bytes place piece in omega (arith, long)

not-above : (n : ℕ) → n ≤ 1048576 → nat_lt 1048576 n ≡ false
not-above n le = grind (arith, nat_tests, le)

-- ---- one after the other

module _ (state : State) (layout : Layout) (unlinked : List ℕ) (number : ℕ) (object : Object) (node entry signature n of_part place : ℕ) (piece bytes : List ℕ) (from : Image) (t : IsToBeChanged state layout unlinked number object node entry signature n of_part place piece bytes from)
    (small_piece : IsBytes piece) (small_bytes : IsBytes bytes) (room : place + length piece ≤ 1048576) where
  abbrev g : KeepsParent state layout unlinked number object node entry signature from
  g = t.grows.parent

  abbrev was : Loaded
  was = t.at.was

  abbrev value : PartValue
  value = t.at.value

  abbrev at-node : ℕ
  at-node = layout.place (part object.key n)

  says : IsPartRow t.name t.index was.streams object.key n value
  says = part-says state layout unlinked from g.kept number object g.here g.live n of_part t.at t.name t.index t.role

  pub facts : IsPartRole was.key was.streams (IsPart t.name t.index)
  facts = part-facts state layout unlinked from g.kept number object g.here g.live n of_part t.at t.name t.index t.role

  -- the facts are of this name and this index
  same-index : facts.index ≡ t.index
  same-index = injected facts.name t.name facts.index t.index (sym facts.is) where
    injected : (a b : Name) (i j : PartIndex) → IsPart a i ≡ IsPart b j → i ≡ j
    injected a b i j e = cc

  is-value : IsPartValue value
  is-value = (its-value state g.kept.valid number object g.here n value t.at.has).1

  named : is_named state number ≡ true
  named = unsettled-named state g.kept.valid number object g.here t.grows.unsettled

  few-items : items state ≤ 131072
  few-items = let few = t.grows.few in omega (arith, few)

  -- ---- its data

  abbrev new : List ℕ
  new = overwritten value.bytes place piece

  abbrev with_data_now : PartValue
  with_data_now = record value { bytes = overwritten value.bytes place piece }

  abbrev streams-data : List (List ℕ)
  streams-data = stored_streams_with 1 (stream_after false (stream 1 was.streams) place piece) was.streams

  second-data : stream 1 streams-data ≡ new
  unfolding stored_streams_with
  second-data = ap (λ (b : List ℕ). overwritten b place piece) says.bytes_are

  new-long : length new ≤ 1048576
  new-long = (data-is value place piece small_piece is-value room).fits

  role-data : part_role was.key streams-data ≡ Some (IsPart t.name t.index)
  unfolding stored_streams_with
  role-data = part-from was.key streams-data (IsPart t.name t.index) (record {
    name = facts.name;
    index = facts.index;
    is = facts.is;
    named = facts.named;
    indexed = facts.indexed;
    empty = facts.empty;
    fits = not-above (length (stream 1 streams-data)) (subst (λ (b : List ℕ). length b ≤ 1048576) (sym second-data) new-long);
    agrees = and_from ((facts.index.signature == facts.name.signature) && (facts.index.key_len == length facts.name.key)) (is_covered facts.index (length (stream 1 streams-data)))
        (and_parts ((facts.index.signature == facts.name.signature) && (facts.index.key_len == length facts.name.key)) (is_covered facts.index (length (stream 1 was.streams))) facts.agrees).0
        (covered-more facts.index (length (stream 1 was.streams)) (length (stream 1 streams-data))
        (let more = longer value place piece small_piece is-value room in let old = ap length says.bytes_are in let last = ap length second-data in omega (arith, more, old, last))
        (and_parts ((facts.index.signature == facts.name.signature) && (facts.index.key_len == length facts.name.key)) (is_covered facts.index (length (stream 1 was.streams))) facts.agrees).1);
  })

  pub first-write : IsPartToBeWritten state layout unlinked number object n (record value { bytes = overwritten value.bytes place piece }) was (IsPart t.name t.index) of_part 1 place false piece from
  first-write = record {
    kept = g.kept;
    here = g.here;
    live = g.live;
    unsettled = t.grows.unsettled;
    old = value;
    has = t.at.has;
    lies = t.at.lies;
    record_is = t.at.record_is;
    role_is = role-data;
    row_is = row-by was.key t.name t.index streams-data object.key n with_data_now says.key_is says.number_is second-data says.presence_is;
    valid = value-valid state g.kept.valid number object g.here n value t.at.has with_data_now (data-is value place piece small_piece is-value room) named;
    few = few-items;
    room = t.grows.room;
  }

  -- ---- its map

  module _ (mid : Image) (w : IsPartWrittenUncounted state layout unlinked number object n (record value { bytes = overwritten value.bytes place piece }) was (IsPart t.name t.index) 1 place false piece from mid) where
    abbrev state-mid : State
    state-mid = with_object state number (with_value object n with_data_now)

    abbrev object-mid : Object
    object-mid = with_value object n with_data_now

    abbrev layout-mid : Layout
    layout-mid = layout_after layout at-node w.now

    lies-mid : layout-mid.at (layout-mid.place (part object.key n)) ≡ Some w.now
    lies-mid = at-itself layout.at at-node (Some w.now)

    mid-streams : w.now.streams ≡ streams-data
    mid-streams = ap (λ (l : Loaded). l.streams) w.now_is

    mid-key : w.now.key ≡ was.key
    mid-key = ap (λ (l : Loaded). l.key) w.now_is

    mid-record : w.now.contents ≡ of_part
    mid-record = ap (λ (l : Loaded). l.contents) w.now_is ∙ t.at.record_is

    abbrev noted : PartIndex
    noted = t.noted.index

    abbrev streams-map : List (List ℕ)
    streams-map = stored_streams_with 2 (stream_after true (stream 2 w.now.streams) 0 bytes) w.now.streams

    third-map : stream 2 streams-map ≡ bytes
    unfolding stored_streams_with
    third-map = cut-all (stream 2 w.now.streams) bytes

    second-map : stream 1 streams-map ≡ new
    unfolding stored_streams_with
    second-map = ap (stream 1) mid-streams ∙ second-data

    first-map : (length (stream 0 streams-map) == 0) ≡ true
    unfolding stored_streams_with
    first-map = ap (λ (ss : List (List ℕ)). length (stream 0 ss) == 0) mid-streams ∙ facts.empty

    presence-map : presence_in noted ≡ presence_after value.presence place (place + length piece)
    presence-map = t.noted.presence ∙ ap (λ (p : Presence). presence_after p place (place + length piece)) says.presence_is

    lies-inside : LiesInside (presence_in noted) (length (stream 1 streams-map))
    lies-inside = subst (λ (p : Presence). LiesInside p (length (stream 1 streams-map))) (end-presence value place piece small_piece is-value room ∙ sym presence-map)
        (subst (λ (b : List ℕ). LiesInside (part_after value place piece).presence (length b)) (end-bytes value place piece small_piece is-value room ∙ sym second-map) (end-is value place piece small_piece is-value room).inside)

    old-agrees : ((facts.index.signature == facts.name.signature) && (facts.index.key_len == length facts.name.key)) ≡ true
    old-agrees = (and_parts ((facts.index.signature == facts.name.signature) && (facts.index.key_len == length facts.name.key)) (is_covered facts.index (length (stream 1 was.streams))) facts.agrees).0

    new-agrees : ((noted.signature == facts.name.signature) && (noted.key_len == length facts.name.key)) ≡ true
    new-agrees =
        let s : noted.signature ≡ facts.index.signature = t.noted.signature ∙ ap (λ (i : PartIndex). i.signature) (sym same-index) in
        let l : noted.key_len ≡ facts.index.key_len = t.noted.key_len ∙ ap (λ (i : PartIndex). i.key_len) (sym same-index) in
        ap₂ (λ (a b : ℕ). (a == facts.name.signature) && (b == length facts.name.key)) s l ∙ old-agrees

    role-map : part_role w.now.key streams-map ≡ Some (IsPart facts.name noted)
    role-map = part-from w.now.key streams-map (IsPart facts.name noted) (record {
      name = facts.name;
      index = noted;
      is = refl;
      named = ap read_name mid-key ∙ facts.named;
      indexed = ap read_part_index third-map ∙ t.noted.is;
      empty = first-map;
      fits = not-above (length (stream 1 streams-map)) (subst (λ (b : List ℕ). length b ≤ 1048576) (sym second-map) new-long);
      agrees = and_from ((noted.signature == facts.name.signature) && (noted.key_len == length facts.name.key)) (is_covered noted (length (stream 1 streams-map))) new-agrees (covered-from noted (length (stream 1 streams-map)) lies-inside);
    })

    same-name : facts.name ≡ t.name
    same-name = injected facts.name t.name facts.index t.index (sym facts.is) where
      injected : (a b : Name) (i j : PartIndex) → IsPart a i ≡ IsPart b j → a ≡ b
      injected a b i j e = cc

    pub second-write : IsPartToBeWritten state-mid layout-mid unlinked number object-mid n (part_after value place piece) w.now (IsPart facts.name noted) of_part 2 0 true bytes mid
    second-write = record {
      kept = w.kept;
      here = set-at state number object object-mid g.here;
      live = g.live;
      unsettled = t.grows.unsettled;
      old = with_data_now;
      has = value-here n with_data_now object;
      lies = lies-mid;
      record_is = mid-record;
      role_is = role-map;
      row_is = row-by w.now.key facts.name noted streams-map object.key n (part_after value place piece) (ap (λ (x : Name). x.key) same-name ∙ says.key_is) (ap (λ (x : Name). x.part) same-name ∙ says.number_is)
          (second-map ∙ sym (end-bytes value place piece small_piece is-value room)) (presence-map ∙ sym (end-presence value place piece small_piece is-value room));
      valid = value-valid state-mid w.kept.valid number object-mid (set-at state number object object-mid g.here) n with_data_now (value-here n with_data_now object) (part_after value place piece) (end-is value place piece small_piece is-value room) named;
      few = (let same = items-same state g.kept.valid number object g.here n value with_data_now t.at.has in omega (arith, same, few-items));
      room = t.grows.room;
    }

    pub rest-mid : Finds (rest state) mid → rest state-mid ≡ rest state
    rest-mid found = sym (kept-held state-mid layout-mid unlinked mid w.kept) ∙ found.1

    -- ---- both

    module _ (image : Image) (v : IsPartWrittenUncounted state-mid layout-mid unlinked number object-mid n (part_after value place piece) w.now (IsPart facts.name noted) 2 0 true bytes mid image) where
      abbrev layout-end : Layout
      layout-end = layout_after layout-mid (layout-mid.place (part object.key n)) v.now

      value-is : part_after value place piece ≡ part_after (unwrap_or (part_at object n) empty_part) place piece
      value-is = ap (λ (o : Option PartValue). part_after (unwrap_or o empty_part) place piece) (sym t.at.has)

      becomes : with_value object-mid n (part_after value place piece) ≡ with_piece object n place piece
      becomes = value-twice n with_data_now (part_after value place piece) object ∙ ap (λ (x : PartValue). with_value object n x) value-is

      state-becomes : with_object state-mid number (with_value object-mid n (part_after value place piece)) ≡ with_object state number (with_piece object n place piece)
      state-becomes = ap (λ (o : Object). with_object state-mid number o) becomes ∙ ap (λ (os : List (Option Object)). record state { objects = os }) (set-twice state.objects number (Some (with_piece object n place piece)) (Some object-mid))

      -- the parent lies elsewhere
      apart : (at-node == layout.place (main object.key)) ≡ false
      apart = ⊎_elim
          (λ (e : (at-node == layout.place (main object.key)) ≡ true).
          let one : part object.key n ≡ main object.key = same-place state layout g.kept.represents.holds.lies (part object.key n) (main object.key) (part-listed state g.kept.valid number object g.here g.live n value t.at.has) (main-listed state g.kept.valid number object true g.here g.live) (eqb-true at-node (layout.place (main object.key)) e) in
          absurd (let c : part object.key n ≡ main object.key = one in cc))
          (λ (e : (at-node == layout.place (main object.key)) ≡ false). e)
          (cases_Bool (at-node == layout.place (main object.key)))

      parent-lies : layout-end.at (layout-end.place (main object.key)) ≡ Some g.was
      parent-lies = at-elsewhere layout-mid.at at-node (Some v.now) (layout.place (main object.key)) apart ∙ at-elsewhere layout.at at-node (Some w.now) (layout.place (main object.key)) apart ∙ g.lies

      -- and so do the other objects
      first-others : OthersLieAsBefore state number layout layout-mid
      first-others = changed-others state layout unlinked from g.kept number object g.here g.live (part object.key n) (part-listed state g.kept.valid number object g.here g.live n value t.at.has) refl w.now

      second-others : OthersLieAsBefore state-mid number layout-mid layout-end
      second-others = changed-others state-mid layout-mid unlinked mid w.kept number object-mid (set-at state number object object-mid g.here) g.live (part object.key n)
          (part-listed state-mid w.kept.valid number object-mid (set-at state number object object-mid g.here) g.live n with_data_now (value-here n with_data_now object)) refl v.now

      both-others : OthersLieAsBefore (with_object state number (with_piece object n place piece)) number layout layout-end
      both-others = others-of state (with_object state number (with_piece object n place piece)) number layout layout-end (λ other away. set-else state number other (Some (with_piece object n place piece)) away)
          (others-then state number layout layout-mid layout-end first-others (others-of state-mid state number layout-mid layout-end (λ other away. sym (set-else state number other (Some object-mid) away)) second-others))

      pub changed : IsChangedUnused state layout unlinked number object node entry signature n of_part place piece from image
      changed = record {
        now = layout-end;
        parent = record {
          kept = subst (λ (s : State). KeepsUncounted s layout-end unlinked image) state-becomes v.kept;
          here = set-at state number object (with_piece object n place piece) g.here;
          live = g.live;
          node_is = g.node_is;
          was = g.was;
          lies = parent-lies;
          record_is = g.record_is;
          index = g.index;
          role = g.role;
          same = g.same;
        };
        at = record {
          value = part_after (unwrap_or (part_at object n) empty_part) place piece;
          has = value-here n (part_after (unwrap_or (part_at object n) empty_part) place piece) object;
          was = v.now;
          lies = at-itself layout-mid.at at-node (Some v.now);
          record_is = ap (λ (l : Loaded). l.contents) v.now_is ∙ mid-record;
        };
        others = both-others;
        counters = then-counters from mid image w.counters v.counters;
        session = session-then from mid image w.session v.session;
      }

-- ---- the calls

module _ (a m b : Told) (of_part place : ℕ) (piece bytes : List ℕ) (small_piece : IsBytes piece) (small_bytes : IsBytes bytes) (room : place + length piece ≤ 1048576) where
  module _ (from : Image) (there : a.files ≡ Some from) (state : State) (layout : Layout) (unlinked : List ℕ) (number : ℕ) (object : Object) (node entry signature n : ℕ) (t : IsToBeChanged state layout unlinked number object node entry signature n of_part place piece bytes from) where
    abbrev data-value : PartValue
    data-value = record t.at.value { bytes = overwritten t.at.value.bytes place piece }

    asks : IsPartToBeWritten state layout unlinked number object n (record t.at.value { bytes = overwritten t.at.value.bytes place piece }) t.at.was (IsPart t.name t.index) of_part 1 place false piece from
    asks = first-write state layout unlinked number object node entry signature n of_part place piece bytes from t small_piece small_bytes room

    module _ (stops : ForSome a.files (λ from. ForEachPartUnsettled of_part 1 place false piece from (λ state layout unlinked number object n value was role. Passes a m (Finds (rest state))))) where
      pub data-stops : Passes a m (Finds (rest state))
      data-stops = stops from there state layout unlinked number object n data-value t.at.was (IsPart t.name t.index) asks

      abbrev mid : IsTold m (Finds (rest state))
      mid = told_then a m from (Finds (rest state)) there data-stops

      module _ (written : ForSome a.files (λ from. ForEachPartUnsettled of_part 1 place false piece from (λ state layout unlinked number object n value was role. ForSome m.files (IsPartWrittenUncounted state layout unlinked number object n value was role 1 place false piece from)))) where
        w : IsPartWrittenUncounted state layout unlinked number object n (record t.at.value { bytes = overwritten t.at.value.bytes place piece }) t.at.was (IsPart t.name t.index) 1 place false piece from mid.image
        w = written from there state layout unlinked number object n data-value t.at.was (IsPart t.name t.index) asks mid.image mid.is

        abbrev noted-facts : IsPartRole t.at.was.key t.at.was.streams (IsPart t.name t.index)
        noted-facts = facts state layout unlinked number object node entry signature n of_part place piece bytes from t small_piece small_bytes room

        second : IsPartToBeWritten (with_object state number (with_value object n data-value)) (layout_after layout (layout.place (part object.key n)) w.now) unlinked number (with_value object n data-value) n (part_after t.at.value place piece) w.now (IsPart noted-facts.name t.noted.index) of_part 2 0 true bytes mid.image
        second = second-write state layout unlinked number object node entry signature n of_part place piece bytes from t small_piece small_bytes room mid.image w

        map-stops : ForSome m.files (λ i. ForEachPartUnsettled of_part 2 0 true bytes i (λ state layout unlinked number object n value was role. Passes m b (Finds (rest state)))) → Passes m b (Finds (rest state))
        map-stops passes =
            let same = rest-mid state layout unlinked number object node entry signature n of_part place piece bytes from t small_piece small_bytes room mid.image w mid.holds in
            let run : Passes m b (Finds (rest (with_object state number (with_value object n data-value)))) = passes mid.image mid.is (with_object state number (with_value object n data-value)) (layout_after layout (layout.place (part object.key n)) w.now) unlinked number (with_value object n data-value) n (part_after t.at.value place piece) w.now (IsPart noted-facts.name t.noted.index) second in
            subst (λ (rows : List Row). Passes m b (Finds rows)) same run

        pub both-stops : ForSome m.files (λ i. ForEachPartUnsettled of_part 2 0 true bytes i (λ state layout unlinked number object n value was role. Passes m b (Finds (rest state)))) → Passes a b (Finds (rest state))
        both-stops passes = passes_then data-stops (map-stops passes)

        -- the data is there before the map changes
        pub data-first : ForSome m.files (λ i. ForEachPartUnsettled of_part 2 0 true bytes i (λ state layout unlinked number object n value was role. Passes m b (Finds (rest state)))) → IsDataBeforeMap state unlinked number object n place piece a b
        data-first passes = record {
          between = m;
          image = mid.image;
          there = mid.is;
          before = data-stops;
          value = t.at.value;
          has = t.at.has;
          layout = layout_after layout (layout.place (part object.key n)) w.now;
          kept = w.kept;
          behind = map-stops passes;
        }

        pub both-changed : ForSome m.files (λ i. ForEachPartUnsettled of_part 2 0 true bytes i (λ state layout unlinked number object n value was role. ForSome b.files (IsPartWrittenUncounted state layout unlinked number object n value was role 2 0 true bytes i)))
            → ForSome b.files (IsChangedUnused state layout unlinked number object node entry signature n of_part place piece from)
        both-changed ends image is =
            changed state layout unlinked number object node entry signature n of_part place piece bytes from t small_piece small_bytes room mid.image w image (ends mid.image mid.is (with_object state number (with_value object n data-value)) (layout_after layout (layout.place (part object.key n)) w.now) unlinked number (with_value object n data-value) n (part_after t.at.value place piece) w.now (IsPart noted-facts.name t.noted.index) second image is)

        pub both-untold : {A : Type 0} (r : Result A Fault) → ForSome m.files (λ i. ForEachPartUnsettled of_part 2 0 true bytes i (λ state layout unlinked number object n value was role. IfDamaged r (λ _. m.files ≡ None))) → IfDamaged r (λ _. a.files ≡ None)
        both-untold {A} r untold =
            if_damaged_weaker r (λ _. m.files ≡ None) (λ _. a.files ≡ None) (λ damage none. absurd (let z : ◌≡◌ {A = Option Image} None (Some mid.image) = sym none ∙ mid.is in cc)) (untold mid.image mid.is (with_object state number (with_value object n data-value)) (layout_after layout (layout.place (part object.key n)) w.now) unlinked number (with_value object n data-value) n (part_after t.at.value place piece) w.now (IsPart noted-facts.name t.noted.index) second)

    pub data-untold : {A : Type 0} (r : Result A Fault) → ForSome a.files (λ from. ForEachPartUnsettled of_part 1 place false piece from (λ state layout unlinked number object n value was role. IfDamaged r (λ _. a.files ≡ None))) → IfDamaged r (λ _. a.files ≡ None)
    data-untold {A} r untold = untold from there state layout unlinked number object n data-value t.at.was (IsPart t.name t.index) asks
