-- What the record of an object that a name is bound to says.
use Rattle.std.proofs.Common.{◌≡◌, ℕ, zero, suc, ◌+◌, ◌<◌, List, [], length, Bool, true, false, Option, Some, None, refl, sym, ap, subst, ◌∙◌, arith}
use Rattle.std.specs.Prelude.{◌==◌, ◌&&◌, if◌then◌else◌, not, nat_lt, slice_index}
use Rattle.std.specs.Option.{option_and_then}
use Rattle.std.specs.List.{sum_by}
use Rattle.std.proofs.lemmas.Bool.{eqb-true}
use Rattle.std.proofs.lemmas.Bool.Decides.{nat_tests}
use Rattle.std.proofs.lemmas.Option.{option_and_then_some, cond_some}
use Rattle.spec_image.specs.Image.{AreBytes, Image}
use Rattle.spec_image.proofs.Runs.{some_inj}
use Rattle.blk_model.specs.Effects.{stream_in}
use Rattle.blk_model.specs.Charge.{main_charge}
use Rattle.blk_model.specs.Holding as model
use Rattle.blk_model.specs.Items.{Row, Shape, Streams, is_sparse, main, main_row, part_row, plain}
use Rattle.blk_model.specs.Room.{own_charge}
use Rattle.blk_model.specs.State.{Object, State, object_at}
use Rattle.spec_format.specs.Names.{Name, read_name}
use Rattle.spec_format.specs.Sealed.{RecordChecks}
use Rattle.spec_format.specs.SparseIndex.{ParentIndex, PartIndex, read_parent_index, read_part_index}
use Rattle.spec_folder.specs.Entries.{IsParent, IsPart, IsPlain, Role, is_covered, parent_role, part_role, role_of, stored_streams, stream}
use Rattle.spec_folder.specs.Found.{charge_of, row_of_loaded, row_with}
use Rattle.spec_folder.specs.Layout.{IsDoomedAt, IsPlacedAt, Layout, rule_of}
use Rattle.spec_folder.specs.Loads.{Loaded}
use Rattle.spec_folder.specs.View.{RecordFields, entry_at, fields_at, store_of}
use Rattle.law_folder.proofs.chains.ChainWords.{record_checks, shown-fields, shown-kind}
use Rattle.law_folder.proofs.states.Settling.{main-listed, main-owned}
use Rattle.law_folder.proofs.walks.Loads.{load-then}
use Rattle.blk_handles.specs.Bindings.{Binding}
use Rattle.blk_verdict.proofs.RoleFacts.{index_length}
use Rattle.blk_verdict.proofs.StreamFacts.{AreStored, are_stored, stored_length}
use Rattle.law_state.specs.Keeping.{KeepsUncounted}
use Rattle.blk_stream.specs.Streams.{streams_at}
use Rattle.blk_object.specs.Owning.{LoadsWith}
use Rattle.blk_object.proofs.OwnedPlaces.{kept-load}
use Rattle.blk_object.specs.Writing.{node_of_object}
use Rattle.blk_cache.specs.CacheKeeping.{IsBoundTo}
use Rattle.blk_evict.specs.Looking.{charge_at}
use Rattle.blk_evict.proofs.Looks.{said-charge}

-- ---- roles

-- a parent has nothing in stream 1 and an index in stream 2
record IsRoleOfParent (ss : List (List ℕ)) (role : Role) : Type 0 where
  index : ParentIndex
  is : IsParent index ≡ role
  second : length (stream 1 ss) ≡ 0
  third : length (stream 2 ss) ≡ 8256

parent-is : (e : RecordFields) (ss : List (List ℕ)) (role : Role) → parent_role e ss ≡ Some role → IsRoleOfParent ss role
unfolding parent_role
parent-is e ss role ok = go (length (stream 1 ss) == 0) refl ok where
  go : (t : Bool) → (length (stream 1 ss) == 0) ≡ t → (if not t then None else option_and_then (λ (index : ParentIndex). if index.key_len == e.key_len then Some (IsParent index) else None) (read_parent_index (stream 2 ss))) ≡ Some role → IsRoleOfParent ss role
  go false t h = cc
  go true t h = option_and_then_some (λ (index : ParentIndex). if index.key_len == e.key_len then Some (IsParent index) else None) (read_parent_index (stream 2 ss)) role h (λ index is done.
      record { index = index; is = (cond_some _ (IsParent index) role done).1; second = eqb-true _ _ t; third = index_length (stream 2 ss) index is })

-- a part is no other
record IsRoleOfPart (role : Role) : Type 0 where
  name : Name
  index : PartIndex
  is : IsPart name index ≡ role

part-is : (key : List ℕ) (ss : List (List ℕ)) (role : Role) → part_role key ss ≡ Some role → IsRoleOfPart role
unfolding part_role
part-is key ss role ok = go (length (stream 0 ss) == 0) (nat_lt 1048576 (length (stream 1 ss))) ok where
  go : (t u : Bool) → (if not t then None else if u then None else option_and_then (λ (name : Name). option_and_then (λ (index : PartIndex). if (index.signature == name.signature) && (index.key_len == length name.key) && is_covered index (length (stream 1 ss)) then Some (IsPart name index) else None) (read_part_index (stream 2 ss))) (read_name key)) ≡ Some role → IsRoleOfPart role
  go false u h = cc
  go true true h = cc
  go true false h = option_and_then_some (λ (name : Name). option_and_then (λ (index : PartIndex). if (index.signature == name.signature) && (index.key_len == length name.key) && is_covered index (length (stream 1 ss)) then Some (IsPart name index) else None) (read_part_index (stream 2 ss))) (read_name key) role h (λ name named then_index.
      option_and_then_some (λ (index : PartIndex). if (index.signature == name.signature) && (index.key_len == length name.key) && is_covered index (length (stream 1 ss)) then Some (IsPart name index) else None) (read_part_index (stream 2 ss)) role then_index (λ index is done.
      record { name = name; index = index; is = (cond_some _ (IsPart name index) role done).1 }))

plain-parent : (index : ParentIndex) → IsParent index ≡ IsPlain → ⊥
plain-parent index e = cc

parent-part : (name : Name) (of : PartIndex) (index : ParentIndex) → IsPart name of ≡ IsParent index → ⊥
parent-part name of index e = cc

-- a plain record has other flags than a parent
plain-flags : (e : RecordFields) (key : List ℕ) (ss : List (List ℕ)) → role_of e key ss ≡ Some IsPlain → (e.flags == 1) ≡ false
unfolding role_of
plain-flags e key ss ok = go (e.flags == 1) (e.flags == 2) ok where
  go : (a b : Bool) → (if a then parent_role e ss else if b then part_role key ss else Some IsPlain) ≡ Some IsPlain → a ≡ false
  go true b h = let p = parent-is e ss IsPlain h in absurd (plain-parent p.index p.is)
  go false b h = refl

parent-flags : (e : RecordFields) (key : List ℕ) (ss : List (List ℕ)) (index : ParentIndex) → role_of e key ss ≡ Some (IsParent index) → ((e.flags == 1) ≡ true) × IsRoleOfParent ss (IsParent index)
unfolding role_of
parent-flags e key ss index ok = go (e.flags == 1) (e.flags == 2) ok where
  go : (a b : Bool) → (if a then parent_role e ss else if b then part_role key ss else Some IsPlain) ≡ Some (IsParent index) → (a ≡ true) × IsRoleOfParent ss (IsParent index)
  go true b h = (refl, parent-is e ss (IsParent index) h)
  go false true h = let p = part-is key ss (IsParent index) h in absurd (parent-part p.name p.index index p.is)
  go false false h = cc

-- ---- rows

abbrev row-key : Row → List ℕ
row-key (main_row key shape streams) = key
row-key (part_row key n value) = key

abbrev pub row-shape : Row → Shape
row-shape (main_row key shape streams) = shape
row-shape (part_row key n value) = plain

abbrev row-streams : Row → Streams
row-streams (main_row key shape streams) = streams
row-streams (part_row key n value) = ([], [], [])

pub no-main : (key : List ℕ) (n : ℕ) (value : _) (other : List ℕ) (shape : Shape) (streams : Streams) → part_row key n value ≡ main_row other shape streams → ⊥
no-main key n value other shape streams e = cc

-- ---- what the record says

-- the record of an object says whether it is sparse, how long its streams are, and its cost
pub record SaysObject (image : Image) (entry : ℕ) (object : Object) : Type 0 where
  pub sparse : ((entry_at image entry).flags == 1) ≡ is_sparse object.shape
  pub sizes : (i : ℕ) → i < 3 → (is_sparse object.shape && nat_lt 0 i) ≡ false → slice_index (entry_at image entry).data_size i ≡ length (stream_in object.streams i)
  pub charge : charge_at image entry ≡ own_charge object

-- of what was loaded, and is the row of the object
pub record SaysRow (e : RecordFields) (l : Loaded) (object : Object) : Type 0 where
  pub sparse : (e.flags == 1) ≡ is_sparse object.shape
  pub bytes : (i : ℕ) → i < 3 → (is_sparse object.shape && nat_lt 0 i) ≡ false → stream i l.streams ≡ stream_in object.streams i
  pub charge : charge_of l ≡ own_charge object

plain-bytes : (ss : List (List ℕ)) (i : ℕ) → i < 3 → stream i ss ≡ stream_in (stream 0 ss, stream 1 ss, stream 2 ss) i
plain-bytes ss zero below = refl
plain-bytes ss (suc zero) below = refl
plain-bytes ss (suc (suc zero)) below = refl
plain-bytes ss (suc (suc (suc n))) below = absurd (omega (arith, below))

sparse-bytes : (ss : List (List ℕ)) (i : ℕ) → nat_lt 0 i ≡ false → stream i ss ≡ stream_in (stream 0 ss, [], []) i
sparse-bytes ss zero none = refl
sparse-bytes ss (suc n) none = absurd (let some : nat_lt 0 (suc n) ≡ true = grind (arith, nat_tests) in let c : true ≡ false = sym some ∙ none in cc)

stored-size : (image : Image) (e : RecordFields) (ss : List (List ℕ)) → AreStored image e ss → (i : ℕ) → i < 3 → slice_index e.data_size i ≡ length (stream i ss)
stored-size image e ss stored zero below = sym (stored_length image _ _ (stream 0 ss) stored.first)
stored-size image e ss stored (suc zero) below = sym (stored_length image _ _ (stream 1 ss) stored.second)
stored-size image e ss stored (suc (suc zero)) below = sym (stored_length image _ _ (stream 2 ss) stored.third)
stored-size image e ss stored (suc (suc (suc n))) below = absurd (omega (arith, below))

module _ (e : RecordFields) (l : Loaded) (object : Object) (row : row_of_loaded l ≡ main_row object.key object.shape object.streams) (said : role_of e l.key l.streams ≡ Some l.role)
    (three : sum_by length l.streams ≡ length (stream 0 l.streams) + length (stream 1 l.streams) + length (stream 2 l.streams)) where
  row-says : SaysRow e l object
  row-says = by l.role refl where
    row-is : (role : Role) → l.role ≡ role → row_with l.key role l.streams ≡ main_row object.key object.shape object.streams
    row-is role is = ap (λ (x : Role). row_with l.key x l.streams) (sym is) ∙ row

    by : (role : Role) → l.role ≡ role → SaysRow e l object
    by IsPlain is =
        let key : l.key ≡ object.key = ap row-key (row-is IsPlain is) in
        let shape : plain ≡ object.shape = ap row-shape (row-is IsPlain is) in
        let streams : (stream 0 l.streams, stream 1 l.streams, stream 2 l.streams) ≡ object.streams = ap row-streams (row-is IsPlain is) in
        record {
          sparse = plain-flags e l.key l.streams (said ∙ ap (λ (x : Role). Some x) is) ∙ ap is_sparse shape;
          bytes = λ i below free. plain-bytes l.streams i below ∙ ap (λ (st : Streams). stream_in st i) streams;
          charge = (let sum : charge_of l ≡ main_charge l.key plain (stream 0 l.streams, stream 1 l.streams, stream 2 l.streams) = omega (arith, three) in sum)
              ∙ ap (λ (k : List ℕ). main_charge k plain (stream 0 l.streams, stream 1 l.streams, stream 2 l.streams)) key
              ∙ ap (λ (sh : Shape). main_charge object.key sh (stream 0 l.streams, stream 1 l.streams, stream 2 l.streams)) shape
              ∙ ap (main_charge object.key object.shape) streams;
        }
    by (IsParent index) is =
        let key : l.key ≡ object.key = ap row-key (row-is (IsParent index) is) in
        let shape = ap row-shape (row-is (IsParent index) is) in
        let streams : (stream 0 l.streams, [], []) ≡ object.streams = ap row-streams (row-is (IsParent index) is) in
        let flags = parent-flags e l.key l.streams index (said ∙ ap (λ (x : Role). Some x) is) in
        record {
          sparse = flags.0 ∙ ap is_sparse shape;
          bytes = λ i below free. sparse-bytes l.streams i (ap (λ (sh : Shape). is_sparse sh && nat_lt 0 i) shape ∙ free) ∙ ap (λ (st : Streams). stream_in st i) streams;
          charge = parent-charge flags.1 index ∙ ap (λ (k : List ℕ). main_charge k (row-shape (row_with l.key (IsParent index) l.streams)) (stream 0 l.streams, [], [])) key
              ∙ ap (λ (sh : Shape). main_charge object.key sh (stream 0 l.streams, [], [])) shape
              ∙ ap (main_charge object.key object.shape) streams;
        }
      where
        parent-charge : {role : Role} → IsRoleOfParent l.streams role → (index : ParentIndex) → charge_of l ≡ main_charge l.key (row-shape (row_with l.key (IsParent index) l.streams)) (stream 0 l.streams, [], [])
        parent-charge p index = let second = p.second in let third = p.third in omega (arith, three, second, third)
    by (IsPart name index) is = absurd (no-main _ _ _ object.key object.shape object.streams (row-is (IsPart name index) is))

module _ (state : State) (layout : Layout) (unlinked : List ℕ) (image : Image) (k : KeepsUncounted state layout unlinked image) (number : ℕ) (b : Binding) (is : IsBoundTo state layout number b) where
  -- what lies at its node is its row
  pub bound-node : layout.at b.node ≡ Some is.loaded
  bound-node = ap layout.at is.node ∙ is.at

  live-row : is.object.live ≡ true → row_of_loaded is.loaded ≡ main_row is.object.key is.object.shape is.object.streams
  unfolding model.row_of
  live-row alive =
      let listed = main-listed state k.valid number is.object true is.here alive in
      let owned : model.owner state (main is.object.key) ≡ Some number = main-owned state k.valid number is.object true is.here alive in
      let laid : IsPlacedAt state layout (main is.object.key) = k.represents.holds.lies.laid (main is.object.key) listed in
      let place : node_of_object layout number is.object ≡ layout.place (main is.object.key) = ap (λ (t : Bool). if t then layout.place (main is.object.key) else layout.place_of_doomed number) alive in
      let one : laid.loaded ≡ is.loaded = some_inj (sym laid.here ∙ ap layout.at (sym place) ∙ is.at) in
      let row : model.row_of state (main is.object.key) ≡ Some (main_row is.object.key is.object.shape is.object.streams) =
      ap (λ (w : Option ℕ). option_and_then (λ z. model.row_in z (main is.object.key)) (option_and_then (object_at state) w)) owned ∙ ap (λ (w : Option Object). option_and_then (λ z. model.row_in z (main is.object.key)) w) is.here in
      some_inj (ap (λ (l : Loaded). Some (row_of_loaded l)) (sym one) ∙ sym laid.row ∙ row)

  dead-row : is.object.live ≡ false → row_of_loaded is.loaded ≡ main_row is.object.key is.object.shape is.object.streams
  dead-row dead =
      let d : IsDoomedAt state layout number is.object = k.represents.holds.lies.doomed_objects number is.object is.here dead in
      let place : node_of_object layout number is.object ≡ layout.place_of_doomed number = ap (λ (t : Bool). if t then layout.place (main is.object.key) else layout.place_of_doomed number) dead in
      let one : d.loaded ≡ is.loaded = some_inj (sym d.here ∙ ap layout.at (sym place) ∙ is.at) in
      ap row_of_loaded (sym one) ∙ d.row

  pub bound-row : row_of_loaded is.loaded ≡ main_row is.object.key is.object.shape is.object.streams
  bound-row = by is.object.live refl where
    by : (t : Bool) → is.object.live ≡ t → row_of_loaded is.loaded ≡ main_row is.object.key is.object.shape is.object.streams
    by true e = live-row e
    by false e = dead-row e

  -- what lies at its node loads with its record
  pub bound-loads : LoadsWith b.entry is.loaded image
  bound-loads = subst (λ (w : ℕ). LoadsWith w is.loaded image) (sym is.entry) (kept-load state layout unlinked image b.node is.loaded k bound-node)

  -- its record has a matching checksum or none
  pub bound-checks : AreBytes image → RecordChecks b.entry image
  bound-checks bytes =
      load-then {P = RecordChecks b.entry image} (store_of image) (rule_of layout b.node) b.node is.loaded (k.represents.holds.shows.each b.node is.loaded bound-node)
      (λ m e facts.
      let at : m.contents ≡ b.entry = sym facts.facts.contents_is ∙ sym is.entry in
      subst (λ (w : ℕ). RecordChecks w image) at (record_checks image m.contents bytes (shown-kind image m.contents e facts.entry) (ap (λ (z : RecordFields). z.checks) (shown-fields image m.contents e facts.entry) ∙ facts.checks)))

  -- its record has the kind, the sizes and the cost of the object
  pub bound-says : SaysObject image b.entry is.object
  bound-says =
      load-then {P = SaysObject image b.entry is.object} (store_of image) (rule_of layout b.node) b.node is.loaded (k.represents.holds.shows.each b.node is.loaded bound-node)
      (λ n e facts.
      let at : n.contents ≡ b.entry = sym facts.facts.contents_is ∙ sym is.entry in
      let fields = shown-fields image n.contents e facts.entry in
      let stored = are_stored image e is.loaded.streams facts.facts.streams in
      let row = row-says e is.loaded is.object bound-row facts.facts.role stored.three in
      subst (λ (w : ℕ). SaysObject image w is.object) at (record {
        sparse = ap (λ (z : RecordFields). z.flags == 1) fields ∙ row.sparse;
        sizes = λ i below free. ap (λ (z : RecordFields). slice_index z.data_size i) fields ∙ stored-size image e is.loaded.streams stored i below ∙ ap length (row.bytes i below free);
        charge = ap (charge_at image) (at ∙ is.entry) ∙ said-charge image state layout k.represents b.node is.loaded bound-node ∙ row.charge;
      }))

  -- its streams are those of the object
  pub bound-stream : (i : ℕ) → i < 3 → (is_sparse is.object.shape && nat_lt 0 i) ≡ false → stream i is.loaded.streams ≡ stream_in is.object.streams i
  bound-stream i below free =
      load-then {P = stream i is.loaded.streams ≡ stream_in is.object.streams i} (store_of image) (rule_of layout b.node) b.node is.loaded (k.represents.holds.shows.each b.node is.loaded bound-node)
      (λ n e facts. (row-says e is.loaded is.object bound-row facts.facts.role (are_stored image e is.loaded.streams facts.facts.streams).three).bytes i below free)

  -- and they are what its record names
  pub bound-streams : streams_at image b.entry ≡ Some is.loaded.streams
  unfolding streams_at store_of
  bound-streams =
      load-then {P = streams_at image b.entry ≡ Some is.loaded.streams} (store_of image) (rule_of layout b.node) b.node is.loaded (k.represents.holds.shows.each b.node is.loaded bound-node)
      (λ n e facts.
      let at : n.contents ≡ b.entry = sym facts.facts.contents_is ∙ sym is.entry in
      let there : fields_at image b.entry ≡ Some e = ap (fields_at image) (sym at) ∙ facts.entry in
      ap (option_and_then (stored_streams (store_of image))) there ∙ facts.facts.streams)
