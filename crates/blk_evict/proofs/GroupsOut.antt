-- The last item that isn't pinned, by its record, and what is left once its eviction unit is out.
use Rattle.std.proofs.Common.{◌≡◌, ℕ, ◌≤◌, Bool, true, false, List, [], ◌∷◌, length, map, take, Option, Some, None, Result, Ok, Err, inl, refl, sym, ap, subst, ◌∙◌, arith, append-nil, ⊎_elim}
use Rattle.std.specs.Prelude.{◌&&◌, ◌==◌, IfOk, IfSome, OnOk, if◌then◌else◌, is_some, not, slice_set}
use Rattle.std.specs.List.{cons_option, filter_map, flat_map, sum_by}
use Rattle.std.specs.Option.{option_and_then, option_map, option_map_or}
use Rattle.std.specs.Str.{bytes_eq}
use Rattle.std.proofs.lemmas.Bool.{and_from, and_parts, cases_Bool, eq-eqb, or_left, or_right}
use Rattle.std.proofs.lemmas.List.Sums.{sum_by-cons}
use Rattle.spec_image.specs.Image.{Image}
use Rattle.spec_image.specs.Told.{Passes, Told}
use Rattle.spec_image.proofs.Runs.{passes_none, some_inj}
use Rattle.blk_model.specs.Effects.{doomed}
use Rattle.blk_model.specs.Items.{Item, Row, Shape, is_sparse, item_of, main, main_row, part, part_row, plain, same_item}
use Rattle.blk_model.specs.Holding as model
use Rattle.blk_model.specs.Room.{Group, single, whole, is_pinned, items_of_group, part_number, parts_among, without}
use Rattle.blk_model.specs.State.{IsObject, Object, State, is_named, live_with, object_at, part_at}
use Rattle.blk_model.specs.Totals.{row_charge}
use Rattle.blk_model.proofs.Chosen.{Owner, has_owner}
use Rattle.blk_model.proofs.StopRests.{owner_key, owner_live}
use Rattle.blk_script.specs.Reply.{evicted_line, evicted_text}
use Rattle.spec_format.specs.Names.{Name, read_name}
use Rattle.spec_format.specs.Records.{child, parent}
use Rattle.spec_format.specs.SparseIndex.{ParentIndex, read_parent_index}
use Rattle.spec_folder.specs.Entries.{IsParent, IsPart, IsPlain, Role, parent_role, part_role, role_of, stream}
use Rattle.spec_folder.specs.Found.{charge_of, row_of_loaded, row_with}
use Rattle.spec_folder.specs.Layout.{IsPlacedAt, Layout, is_in, is_listed, rule_of}
use Rattle.spec_folder.specs.Loads.{Loaded, is_part_role}
use Rattle.spec_folder.specs.Removal.{is_of_another, without_items}
use Rattle.spec_folder.specs.View.{RecordFields, entry_at, store_of, view_of}
use Rattle.law_folder.proofs.chains.ChainWords.{shown-fields}
use Rattle.law_folder.proofs.commands.Touches.{in-times}
use Rattle.law_folder.proofs.states.Charges.{items-charged}
use Rattle.law_folder.proofs.states.Laid.{item-of}
use Rattle.law_folder.proofs.walks.Loads.{load-then}
use Rattle.law_folder.proofs.walks.Shown.{role-name, role-part}
use Rattle.blk_chain.specs.declared.found.Found.{Found}
use Rattle.blk_chain.specs.Finding.{IsAnswer}
use Rattle.blk_entry.specs.declared.keys.Head.{Head}
use Rattle.blk_entry.specs.Keys.{IsPiece, IsRecordHead, key_at}
use Rattle.blk_ranges.specs.ChildNames.{name_within}
use Rattle.blk_ranges.specs.declared.names.ChildName.{ChildName}
use Rattle.law_state.specs.Changes.{SameSession}
use Rattle.law_state.specs.Keeping.{Keeps, KeepsUncounted}
use Rattle.law_state.specs.CommandEnds.{without_part}
use Rattle.law_state.specs.RemovalLaws.{IsWithout, layout_removed}
use Rattle.law_state.proofs.Keeping.{kept-held}
use Rattle.law_state.proofs.GroupsGone.{whole-groups-go}
use Rattle.law_state.proofs.PlainRemovals.{part-gone-without}
use Rattle.blk_object.specs.FindingOut.{IsFoundListed, is_child_item}
use Rattle.blk_object.specs.Owning.{LoadsWith}
use Rattle.blk_object.specs.Removing.{LiesBehind}
use Rattle.blk_object.specs.RemovingObjects.{FindsEither, GoesAlone}
use Rattle.blk_object.proofs.FoundLeft.{listed-found}
use Rattle.blk_object.proofs.OwnedPlaces.{kept-load}
use Rattle.blk_object.proofs.PartNames.{all-piece, key-short, key-there}
use Rattle.blk_object.proofs.PlainObjects.{no-listed, plain-alone}
use Rattle.blk_evict.specs.declared.item_names.EntryKind.{EntryKind}
use Rattle.blk_evict.specs.declared.item_names.EntryKind.TheVariants as kinds
use Rattle.blk_evict.specs.declared.item_names.Named.{Named}
use Rattle.blk_evict.specs.declared.list_places.Unpinned.{Unpinned}
use Rattle.blk_evict.specs.EvictingGroups.{GoesAs, IsGroupOut, IsNamedAs, alone_kind, kind_of_role, kind_said}
use Rattle.blk_evict.specs.RoomLaws.{MayGo, NamedObjectsStay, group_for, item_charge}
use Rattle.blk_evict.specs.ListPlaces.{MayGoAt}
use Rattle.blk_evict.proofs.RoomApart.{alone-apart}
use Rattle.blk_evict.proofs.RoomGroups.{in-middle}

none-role : (role : Role) → ◌≡◌ {A = Option Role} None (Some role) → ⊥
none-role role e = cc

none-some : (x : Found) → ◌≡◌ {A = Option Found} None (Some x) → ⊥
none-some x e = cc

-- ---- items by their roles

-- the item is the main item of the key, or this part of it
main-of : (key : List ℕ) (streams : List (List ℕ)) (role : Role) → (kind_of_role role ≡ kinds.Part → ⊥) → item_of (row_with key role streams) ≡ main key
main-of key streams IsPlain differs = refl
main-of key streams (IsParent index) differs = refl
main-of key streams (IsPart name index) differs = absurd (differs refl)

-- a part, with its name
pub record IsPartOf (item : Item) (loaded : Loaded) : Type 0 where
  pub name : Name
  pub is : item ≡ part name.key name.part
  pub said : read_name loaded.key ≡ Some name

plain-role : (role : Role) → kind_of_role role ≡ kinds.Plain → role ≡ IsPlain
plain-role IsPlain e = refl
plain-role (IsParent index) e = cc
plain-role (IsPart name index) e = cc

child-of : (key : List ℕ) (streams : List (List ℕ)) (role : Role) (b : Bool) → kind_of_role role ≡ alone_kind b → is_child_item (item_of (row_with key role streams)) ≡ b
child-of key streams IsPlain true e = cc
child-of key streams IsPlain false e = refl
child-of key streams (IsParent index) true e = cc
child-of key streams (IsParent index) false e = cc
child-of key streams (IsPart name index) true e = refl
child-of key streams (IsPart name index) false e = cc

-- the shape that a row says
shape_in : Row → Shape
shape_in (main_row key shape streams) = shape
shape_in (part_row key n value) = plain

one-sum : (w : Item → ℕ) (item : Item) → w item ≡ sum_by w (item ∷ [])
one-sum w item = let e = sum_by-cons w item [] in omega (arith, e)

-- the kind that the flags say is that of the role
parent-kind : (len : ℕ) (index : Option ParentIndex) (role : Role) → option_and_then (λ (x : ParentIndex). if x.key_len == len then Some (IsParent x) else None) index ≡ Some role → kinds.Parent ≡ kind_of_role role
parent-kind len None role e = absurd (none-role role e)
parent-kind len (Some x) role e = go (x.key_len == len) e where
  go : (b : Bool) → (if b then Some (IsParent x) else None) ≡ Some role → kinds.Parent ≡ kind_of_role role
  go true h = ap kind_of_role (some_inj h)
  go false h = absurd (none-role role h)

parent-of-kind : (e : RecordFields) (streams : List (List ℕ)) (role : Role) → parent_role e streams ≡ Some role → kinds.Parent ≡ kind_of_role role
unfolding parent_role
parent-of-kind e streams role is = go (length (stream 1 streams) == 0) is where
  go : (b : Bool) → (if not b then None else option_and_then (λ (x : ParentIndex). if x.key_len == e.key_len then Some (IsParent x) else None) (read_parent_index (stream 2 streams))) ≡ Some role → kinds.Parent ≡ kind_of_role role
  go true h = parent-kind e.key_len (read_parent_index (stream 2 streams)) role h
  go false h = absurd (none-role role h)

part-kind : (role : Role) → is_part_role role ≡ true → kinds.Part ≡ kind_of_role role
part-kind IsPlain e = absurd (let z : false ≡ true = e in cc)
part-kind (IsParent index) e = absurd (let z : false ≡ true = e in cc)
part-kind (IsPart name index) e = refl

pub role-kind : (e : RecordFields) (key : List ℕ) (streams : List (List ℕ)) (role : Role) → role_of e key streams ≡ Some role → kind_said e.flags ≡ kind_of_role role
unfolding role_of
role-kind e key streams role is = go (e.flags == parent) (e.flags == child) refl refl is where
  go : (b c : Bool) → (e.flags == parent) ≡ b → (e.flags == child) ≡ c → (if b then parent_role e streams else if c then part_role key streams else Some IsPlain) ≡ Some role → (if b then kinds.Parent else if c then kinds.Part else kinds.Plain) ≡ kind_of_role role
  go true c p q h = parent-of-kind e streams role h
  go false true p q h = part-kind role (sym (role-part e key streams role is) ∙ q)
  go false false p q h = ap kind_of_role (some_inj h)

-- an item of a kept state
module _ (state : State) (layout : Layout) (unlinked : List ℕ) (image : Image) (k : KeepsUncounted state layout unlinked image) (item : Item) (loaded : Loaded) (listed : is_listed state item ≡ true) (here : layout.at (layout.place item) ≡ Some loaded) where
  pub said-is : item_of (row_of_loaded loaded) ≡ item
  said-is = item-of state layout k.represents.holds.lies.laid item loaded listed here

  pub main-is : (kind_of_role loaded.role ≡ kinds.Part → ⊥) → item ≡ main loaded.key
  main-is differs = sym said-is ∙ main-of loaded.key loaded.streams loaded.role differs

  pub part-is : kind_of_role loaded.role ≡ kinds.Part → IsPartOf item loaded
  part-is kind = go loaded.role refl kind where
    go : (role : Role) → loaded.role ≡ role → kind_of_role role ≡ kinds.Part → IsPartOf item loaded
    go IsPlain e q = cc
    go (IsParent index) e q = cc
    go (IsPart name index) e q = record {
      name = name;
      is = sym said-is ∙ ap (λ (r : Role). item_of (row_with loaded.key r loaded.streams)) e;
      said = load-then (store_of image) (rule_of layout (layout.place item)) (layout.place item) loaded (k.represents.holds.shows.each (layout.place item) loaded here) (λ n f facts. role-name f loaded.key loaded.streams name index (facts.facts.role ∙ ap Some e));
    }

  pub owner-is : Owner state item
  owner-is =
      let some = in-times item state.uses listed in
      let all = k.valid.listed item in
      has_owner state item (omega (arith, some, all))

  -- its cost
  pub charged-is : item_charge state item ≡ charge_of loaded
  charged-is =
      let laid : IsPlacedAt state layout item = k.represents.holds.lies.laid item listed in
      let same : laid.loaded ≡ loaded = some_inj (sym laid.here ∙ here) in
      ap (λ (o : Option Row). option_map_or (row_charge state) o 0) (laid.row ∙ ap (λ (l : Loaded). Some (row_of_loaded l)) same) ∙ sym (items-charged (view_of image) state layout k.represents item loaded listed here)

  -- what lies there lies there with its record
  pub loads-there : (entry : ℕ) → loaded.contents ≡ entry → LoadsWith entry loaded image
  loads-there entry is = subst (λ (w : ℕ). LoadsWith w loaded image) is (kept-load state layout unlinked image (layout.place item) loaded k here)

  object-is : (number : ℕ) (object : Object) → object_at state number ≡ Some object → IsObject object
  object-is number object at = subst (λ (w : Option Object). IfSome w IsObject) at (k.valid.objects number)

  -- the object of an entry without an index has no parts
  pub plain-no-parts : (key : List ℕ) → item ≡ main key → kind_of_role loaded.role ≡ kinds.Plain → owner-is.object.parts ≡ []
  unfolding model.row_of owner-is shape_in
  plain-no-parts key is kind =
      let o = owner-is in
      let laid : IsPlacedAt state layout item = k.represents.holds.lies.laid item listed in
      let same : laid.loaded ≡ loaded = some_inj (sym laid.here ∙ here) in
      let its : model.row_in o.object item ≡ model.row_of state item = sym (ap (λ (w : Option ℕ). option_and_then (λ z. model.row_in z item) (option_and_then (object_at state) w)) o.found ∙ ap (λ (w : Option Object). option_and_then (λ z. model.row_in z item) w) o.here) in
      let rows : main_row key o.object.shape o.object.streams ≡ row_of_loaded loaded = some_inj (ap (model.row_in o.object) (sym is) ∙ its ∙ laid.row ∙ ap (λ (l : Loaded). Some (row_of_loaded l)) same) in
      let shapes : o.object.shape ≡ plain = ap shape_in rows ∙ ap (λ (r : Role). shape_in (row_with loaded.key r loaded.streams)) (plain-role loaded.role kind) in
      (object-is o.number o.object o.here).plain_has_no_parts (ap is_sparse shapes)

  -- no handle names it where it isn't pinned
  pub owner-unnamed : (key : List ℕ) → item ≡ main key → is_pinned state [] item ≡ false → is_named state owner-is.number ≡ false
  owner-unnamed key is unpinned =
      let o = owner-is in
      let live : live_with state key ≡ Some o.number = ap (λ (i : Item). model.owner state i) (sym is) ∙ o.found in
      sym (ap (λ (w : Option ℕ). option_map_or (is_named state) w false) live) ∙ ap (is_pinned state []) (sym is) ∙ unpinned

-- ---- an item that is evicted alone

-- the parts of an object that has none
pub none-among : (key : List ℕ) (items : List Item) → ((n : ℕ) → is_in items (part key n) ≡ true → ⊥) → parts_among key items ≡ []
none-among key [] none = refl
none-among key (main other ∷ items) none = none-among key items (λ n there. none n there)
none-among key (part other n ∷ items) none = ⊎_elim
    (λ (e : bytes_eq key other ≡ true). absurd (none n (or_left (bytes_eq key other && n == n) (is_in items (part key n)) (and_from (bytes_eq key other) (n == n) e (eq-eqb n n refl)))))
    (λ (e : bytes_eq key other ≡ false). ap (λ (b : Bool). cons_option (if b then Some n else None) (filter_map (part_number key) items)) e ∙ none-among key items (λ m there. none m (or_right (bytes_eq key other && m == n) (is_in items (part key m)) there)))
    (cases_Bool (bytes_eq key other))

-- a state without an item that is evicted alone is the state without its eviction unit
pub record GoesSo (state : State) (layout : Layout) (group : Group) (item : Item) (node entry : ℕ) (before : Option ℕ) : Type 0 where
  pub objects : List (Option Object)
  pub keep : Item → Bool
  pub alone : GoesAlone state layout objects keep item node entry before
  pub same : without_items state objects keep ≡ without (group ∷ []) state

-- the last item that isn't pinned, and what lies there
module _ (state : State) (layout : Layout) (image : Image) (k : KeepsUncounted state layout [] image) (front behind : List Item) (loaded : Loaded) where
  pub last-listed : (item : Item) → MayGo state front item behind → is_listed state item ≡ true
  last-listed item is = ap (λ (l : List Item). is_in l item) is.listed ∙ in-middle front item behind

  main-no-part : (key : List ℕ) (is : MayGo state front (main key) behind) → layout.at (layout.place (main key)) ≡ Some loaded → kind_of_role loaded.role ≡ kinds.Part → ⊥
  main-no-part key is here kind = no (part-is state layout [] image k (main key) loaded (last-listed (main key) is) here kind) where
    no : IsPartOf (main key) loaded → ⊥
    no p = let e : main key ≡ part p.name.key p.name.part = p.is in cc

  -- an entry without an index
  main-plain : (key : List ℕ) (is : MayGo state front (main key) behind) → layout.at (layout.place (main key)) ≡ Some loaded → (b : Bool) → kind_of_role loaded.role ≡ alone_kind b → kind_of_role loaded.role ≡ kinds.Plain
  main-plain key is here true kind = absurd (main-no-part key is here kind)
  main-plain key is here false kind = kind

  module _ (b : Bool) (kind : kind_of_role loaded.role ≡ alone_kind b) where
    -- the eviction unit is the item alone
    pub group-alone : (item : Item) → MayGo state front item behind → layout.at (layout.place item) ≡ Some loaded → items_of_group (group_for item front) ≡ item ∷ []
    group-alone (part key n) is here = refl
    group-alone (main key) is here =
        let listed = last-listed (main key) is in
        let o = owner-is state layout [] image k (main key) loaded listed here in
        let none : o.object.parts ≡ [] = plain-no-parts state layout [] image k (main key) loaded listed here key refl (main-plain key is here b kind) in
        let same : key ≡ o.object.key = owner_key o.object (main key) o.has in
        let never : (m : ℕ) → is_in state.uses (part key m) ≡ true → ⊥ = λ m there. no-listed state o.number o.object k.valid o.here (owner_live o.object (main key) o.has) none m (ap (λ (x : List ℕ). is_in state.uses (part x m)) (sym same) ∙ there) in
        ap (λ (ns : List ℕ). main key ∷ map (part key) ns) (is.parts key refl ∙ none-among key state.uses never)

    pub text-alone : (item : Item) → MayGo state front item behind → layout.at (layout.place item) ≡ Some loaded → evicted_text (group_for item front ∷ []) ≡ evicted_line item
    text-alone item is here =
        ap (flat_map evicted_line) (append-nil (items_of_group (group_for item front)))
        ∙ ap (flat_map evicted_line) (group-alone item is here)
        ∙ append-nil (evicted_line item)

    goes-main : (key : List ℕ) (is : MayGo state front (main key) behind) → layout.at (layout.place (main key)) ≡ Some loaded → (node entry : ℕ) (before : Option ℕ) → layout.place (main key) ≡ node → loaded.contents ≡ entry → LiesBehind state layout (main key) loaded before → GoesSo state layout (group_for (main key) front) (main key) node entry before
    goes-main key is here node entry before node_is entry_is lies =
        let listed = last-listed (main key) is in
        let o = owner-is state layout [] image k (main key) loaded listed here in
        let live : o.object.live ≡ true = owner_live o.object (main key) o.has in
        let same : key ≡ o.object.key = owner_key o.object (main key) o.has in
        let none : o.object.parts ≡ [] = plain-no-parts state layout [] image k (main key) loaded listed here key refl (main-plain key is here b kind) in
        let unnamed = owner-unnamed state layout [] image k (main key) loaded listed here key refl is.unpinned in
        let pa = plain-alone state o.number o.object k.valid o.here live none unnamed in
        let parts : List ℕ = parts_among key front in
        record {
          objects = (doomed o.number state (Some o.object)).objects;
          keep = is_of_another o.object.key;
          alone = record {
            without = subst (λ (x : List ℕ). IsWithout state (doomed o.number state (Some o.object)).objects (is_of_another o.object.key) (main x)) (sym same) pa.0;
            was = loaded;
            lies = lies;
            node_is = node_is;
            entry_is = entry_is;
          };
          same = sym pa.1 ∙ sym (whole-groups-go state o.number o.object (parts_among key front) k.valid o.here live unnamed) ∙ ap (λ (x : List ℕ). without (whole x (parts_among key front) ∷ []) state) (sym same);
        }

    goes-part : (key : List ℕ) (n : ℕ) (is : MayGo state front (part key n) behind) → layout.at (layout.place (part key n)) ≡ Some loaded → (node entry : ℕ) (before : Option ℕ) → layout.place (part key n) ≡ node → loaded.contents ≡ entry → LiesBehind state layout (part key n) loaded before → GoesSo state layout (group_for (part key n) front) (part key n) node entry before
    goes-part key n is here node entry before node_is entry_is lies =
        let listed = last-listed (part key n) is in
        let o = owner-is state layout [] image k (part key n) loaded listed here in
        let live : o.object.live ≡ true = owner_live o.object (part key n) o.has in
        let same : key ≡ o.object.key = owner_key o.object (part key n) o.has in
        let some : is_some (part_at o.object n) ≡ true = (and_parts (o.object.live && bytes_eq key o.object.key) (is_some (part_at o.object n)) o.has).1 in
        let pg = part-gone-without state o.number n o.object k.valid o.here live some in
        record {
          objects = slice_set state.objects o.number (Some (without_part o.object n));
          keep = λ item. not (same_item item (part o.object.key n));
          alone = record {
            without = subst (λ (x : List ℕ). IsWithout state (slice_set state.objects o.number (Some (without_part o.object n))) (λ item. not (same_item item (part o.object.key n))) (part x n)) (sym same) pg.0;
            was = loaded;
            lies = lies;
            node_is = node_is;
            entry_is = entry_is;
          };
          same = pg.1 ∙ ap (λ (x : List ℕ). without (single x n ∷ []) state) (sym same);
        }

    pub goes-alone : (item : Item) → MayGo state front item behind → layout.at (layout.place item) ≡ Some loaded → (node entry : ℕ) (before : Option ℕ) → layout.place item ≡ node → loaded.contents ≡ entry → LiesBehind state layout item loaded before → GoesSo state layout (group_for item front) item node entry before
    goes-alone (main key) is here node entry before node_is entry_is lies = goes-main key is here node entry before node_is entry_is lies
    goes-alone (part key n) is here node entry before node_is entry_is lies = goes-part key n is here node entry before node_is entry_is lies

    pub child-alone : (item : Item) → MayGo state front item behind → layout.at (layout.place item) ≡ Some loaded → is_child_item item ≡ b
    child-alone item is here = ap is_child_item (sym (said-is state layout [] image k item loaded (last-listed item is) here)) ∙ child-of loaded.key loaded.streams loaded.role b kind

    -- once it is removed its eviction unit is out
    pub alone-out : (item : Item) (is : MayGo state front item behind) → layout.at (layout.place item) ≡ Some loaded → (node entry : ℕ) (before : Option ℕ) → (g : GoesSo state layout (group_for item front) item node entry before) → layout.place item ≡ node
        → (now : Image) → Keeps (without_items state g.objects g.keep) (layout_removed layout node entry) [] now → (charge : ℕ) → charge ≡ charge_of loaded → SameSession image now → IsGroupOut state layout (group_for item front) (record { items = 1; bytes = charge }) image now
    alone-out item is here node entry before g node_is now kept charge charged session = record {
      left = layout_removed layout node entry;
      kept = subst (λ (s : State). Keeps s (layout_removed layout node entry) [] now) g.same kept;
      places = refl;
      stay = subst (λ (n : ℕ). NamedObjectsStay (without (group_for item front ∷ []) state) layout (layout_removed layout n entry)) node_is (alone-apart state layout [] image front item behind entry k is);
      told = record {
        items = sym (ap (λ (is : List Item). length is) (group-alone item is here));
        bytes = charged ∙ sym (charged-is state layout [] image k item loaded (last-listed item is) here) ∙ one-sum (item_charge state) item ∙ sym (ap (sum_by (item_charge state)) (group-alone item is here));
      };
      session = session;
    }

-- ---- as a search finds it

module _ (state : State) (layout : Layout) (image : Image) (found : Unpinned) (b : Bool) (key : List ℕ) (is : GoesAs state layout found (alone_kind b) key image) where
  pub as-listed : is_listed state is.last.item ≡ true
  as-listed = last-listed state layout image is.kept.entries is.last.front is.last.rest is.last.loaded is.last.item is.last.goes

  pub as-child : is_child_item is.last.item ≡ b
  as-child = child-alone state layout image is.kept.entries is.last.front is.last.rest is.last.loaded b is.kind_is is.last.item is.last.goes is.last.here

  pub as-text : evicted_text (group_for is.last.item is.last.front ∷ []) ≡ evicted_line is.last.item
  as-text = text-alone state layout image is.kept.entries is.last.front is.last.rest is.last.loaded b is.kind_is is.last.item is.last.goes is.last.here

  module _ (entry : ℕ) (before : Option ℕ) (entry_is : is.last.loaded.contents ≡ entry) (lies : LiesBehind state layout is.last.item is.last.loaded before) where
    pub as-goes : GoesSo state layout (group_for is.last.item is.last.front) is.last.item found.node entry before
    as-goes = goes-alone state layout image is.kept.entries is.last.front is.last.rest is.last.loaded b is.kind_is is.last.item is.last.goes is.last.here found.node entry before (sym is.last.node) entry_is lies

    pub as-out : (now : Image) → Keeps (without_items state as-goes.objects as-goes.keep) (layout_removed layout found.node entry) [] now → (charge : ℕ) → charge ≡ charge_of is.last.loaded → SameSession image now → IsGroupOut state layout (group_for is.last.item is.last.front) (record { items = 1; bytes = charge }) image now
    as-out now kept charge charged session = alone-out state layout image is.kept.entries is.last.front is.last.rest is.last.loaded b is.kind_is is.last.item is.last.goes is.last.here found.node entry before as-goes (sym is.last.node) now kept charge charged session

-- a listed item of a kept state is found, where it is in its chain
module _ (state : State) (layout : Layout) (unlinked : List ℕ) (image : Image) (k : KeepsUncounted state layout unlinked image) (item : Item) (was : Loaded) (listed : is_listed state item ≡ true) (here : layout.at (layout.place item) ≡ Some was) (name : List ℕ) (is_child : Bool) (key_is : was.key ≡ name) (child_is : is_child_item item ≡ is_child) where
  found-of : (answer : Option Found) → IsAnswer name is_child answer image → IsFoundListed state layout item was answer
  found-of answer is = listed-found state layout unlinked item was answer image k listed here (subst (λ (b : Bool). IsAnswer was.key b answer image) (sym child_is) (subst (λ (n : List ℕ). IsAnswer n is_child answer image) (sym key_is) is))

  pub found-entry : (at : Found) → IsAnswer name is_child (Some at) image → was.contents ≡ at.entry
  found-entry at is = let f = found-of (Some at) is in f.entry_is ∙ ap (λ (x : Found). x.entry) (sym (some_inj f.is))

  pub found-behind : (at : Found) → IsAnswer name is_child (Some at) image → LiesBehind state layout item was at.before
  found-behind at is = let f = found-of (Some at) is in subst (λ (x : Found). LiesBehind state layout item was x.before) (sym (some_inj f.is)) f.lies

  pub not-none : IsAnswer name is_child None image → ⊥
  not-none is = let f = found-of None is in none-some f.found f.is

-- ---- crashes of what did nothing

pub stayed-stops : (told now : Told) (state after : State) (layout : Layout) (from : Image) → told.files ≡ Some from → now ≡ told → Keeps state layout [] from → Passes told now (FindsEither state after)
stayed-stops told now state after layout from there same k =
    passes_none {a = told} {b = now} (FindsEither state after) same (λ image is. subst (FindsEither state after) (some_inj (sym there ∙ is)) (inl (k.entries.sound, kept-held state layout [] from k.entries)))

-- a fact that holds on any answer
pub on-ok-any : {T E P : Type 0} (r : Result T E) → P → OnOk r P
on-ok-any (Ok x) p = p
on-ok-any (Err e) p = tt

-- three facts of an answer that is fine
pub if-ok-three : {A E : Type 0} {P S : A → Type 0} {Q R : Type 0} (r : Result A E) → ((a : A) → P a → Q → R → S a) → IfOk r P → OnOk r Q → OnOk r R → IfOk r S
if-ok-three (Ok a) all p q r = all a p q r
if-ok-three (Err e) all p q r = tt

-- ---- parts

-- the number and the key that the name of a part says are those of the item
pub part-said : (state : State) (layout : Layout) (image : Image) (found : Unpinned) (bytes : List ℕ) (is : GoesAs state layout found kinds.Part bytes image) (said : ChildName) → option_map (name_within bytes) (Some said) ≡ read_name bytes → is.last.item ≡ part (name_within bytes said).key said.part
part-said state layout image found bytes is said read =
    let p = part-is state layout [] image is.kept.entries is.last.item is.last.loaded (as-listed state layout image found true bytes is) is.last.here is.kind_is in
    let same : name_within bytes said ≡ p.name = some_inj (read ∙ ap read_name (sym is.key_is) ∙ p.said) in
    p.is ∙ ap (λ (n : Name). part n.key n.part) (sym same)

pub not-unsaid : (state : State) (layout : Layout) (image : Image) (found : Unpinned) (bytes : List ℕ) (is : GoesAs state layout found kinds.Part bytes image) → ◌≡◌ {A = Option Name} None (read_name bytes) → ⊥
not-unsaid state layout image found bytes is none =
    let p = part-is state layout [] image is.kept.entries is.last.item is.last.loaded (as-listed state layout image found true bytes is) is.last.here is.kind_is in
    no p.name (none ∙ ap read_name (sym is.key_is) ∙ p.said)
  where
    no : (name : Name) → ◌≡◌ {A = Option Name} None (Some name) → ⊥
    no name e = cc

pub main-said : (state : State) (layout : Layout) (image : Image) (found : Unpinned) (key : List ℕ) (is : GoesAs state layout found kinds.Plain key image) → is.last.item ≡ main key
main-said state layout image found key is =
    main-is state layout [] image is.kept.entries is.last.item is.last.loaded (as-listed state layout image found false key is) is.last.here (λ e. other (sym is.kind_is ∙ e)) ∙ ap main is.key_is
  where
    other : kinds.Plain ≡ kinds.Part → ⊥
    other e = cc

-- ---- what is read

pub kind-there : (image : Image) (entry : ℕ) (loaded : Loaded) → LoadsWith entry loaded image → kind_said (entry_at image entry).flags ≡ kind_of_role loaded.role
kind-there image entry loaded w = load-then (store_of image) w.rule w.node loaded w.loads (λ n e f.
    let here : (store_of image).entry entry ≡ Some e = ap (store_of image).entry (sym w.contents ∙ f.facts.contents_is) ∙ f.entry in
    ap (λ (z : RecordFields). kind_said z.flags) (shown-fields image entry e here) ∙ role-kind e loaded.key loaded.streams loaded.role f.facts.role)

pub kind-read : (image : Image) (entry : ℕ) (head : Head) (loaded : Loaded) → IsRecordHead image entry head → LoadsWith entry loaded image → kind_said head.flags ≡ kind_of_role loaded.role
kind-read image entry head loaded is with_record = ap kind_said is.flags ∙ kind-there image entry loaded with_record

pub key-read : (image : Image) (entry : ℕ) (loaded : Loaded) (old new : List ℕ) (len : ℕ) → LoadsWith entry loaded image → 32796 ≤ length old → ((stored : List ℕ) → key_at image entry ≡ Some stored → IsPiece stored 0 old new len) → take len new ≡ loaded.key
key-read image entry loaded old new len with_record room piece =
    let short = key-short image entry loaded with_record in
    all-piece loaded.key old new len (omega (arith, short, room)) (piece loaded.key (key-there image entry loaded with_record))

-- the last item that isn't pinned, as its record says
abbrev pub goes-as : (state : State) (layout : Layout) (image : Image) (found : Unpinned) → Keeps state layout [] image → (last : MayGoAt state layout found) (named : Named) (bytes : List ℕ) → IsNamedAs last.loaded named bytes → (kind : EntryKind) → named.kind ≡ kind → GoesAs state layout found kind (take named.len bytes) image
goes-as state layout image found k last named bytes is kind kind_is = record { kept = k; last = last; kind_is = sym is.kind ∙ kind_is; key_is = sym is.key }

abbrev pub goes-with : (state : State) (layout : Layout) (image : Image) (found : Unpinned) → Keeps state layout [] image → (last : MayGoAt state layout found) (named : Named) (bytes : List ℕ) → IsNamedAs last.loaded named bytes → (kind : EntryKind) → named.kind ≡ kind
    → (key : List ℕ) → key ≡ take named.len bytes → GoesAs state layout found kind key image
goes-with state layout image found k last named bytes is kind kind_is key same = record { kept = k; last = last; kind_is = sym is.kind ∙ kind_is; key_is = sym is.key ∙ sym same }

pub loads-last : (state : State) (layout : Layout) (image : Image) (found : Unpinned) → Keeps state layout [] image → (last : MayGoAt state layout found) → LoadsWith found.entry last.loaded image
loads-last state layout image found k last =
    loads-there state layout [] image k.entries last.item last.loaded (last-listed state layout image k.entries last.front last.rest last.loaded last.item last.goes) last.here found.entry (sym last.entry)
