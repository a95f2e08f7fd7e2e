-- A part that is written comes into the LRU list and in front of its chain.
use Rattle.std.proofs.Common.{◌≡◌, ◌⊎◌, ℕ, ◌<◌, List, ◌∷◌, ◌++◌, Option, Some, Ok, refl, sym, ◌∙◌, ap, subst, lit<, arith, Bool, true, false, ⊎_elim}
use Rattle.std.specs.Prelude.{◌==◌, if◌then◌else◌, nat_lt}
use Rattle.std.specs.Option.{ForSome, option_map}
use Rattle.std.proofs.lemmas.Bool.{eqb-true}
use Rattle.std.proofs.lemmas.Nat.{mod_below}
use Rattle.spec_image.specs.Footprint.{SameOutside}
use Rattle.spec_image.specs.Image.{Image}
use Rattle.spec_image.specs.Steps.{after}
use Rattle.spec_image.specs.Told.{Applies, Commits, Passes, TellsBytes, Told}
use Rattle.spec_image.proofs.Footprints.{outside_wider, within_left}
use Rattle.spec_image.proofs.Runs.{passes_end, passes_then, passes_weaker, some_inj}
use Rattle.blk_model.specs.Holding.{rest}
use Rattle.blk_model.specs.Items.{Row, item_of, main, part}
use Rattle.blk_model.specs.State.{Object, State}
use Rattle.spec_format.specs.BlockFiles.{is_among}
use Rattle.spec_format.specs.Hash.{hash}
use Rattle.spec_format.specs.Names.{Name, read_name}
use Rattle.spec_format.specs.Records.{child, entry_in, entry_is_sealed, entry_normal}
use Rattle.spec_format.specs.Address.{blocks_256, place}
use Rattle.spec_format.specs.Sealed.{record_range}
use Rattle.spec_format.specs.SparseIndex.{PartIndex}
use Rattle.spec_folder.specs.Chains.{bucket_at, bucket_of_hash, chain}
use Rattle.spec_folder.specs.Completion.{insert}
use Rattle.spec_folder.specs.Creation.{linked_front, with_first}
use Rattle.spec_folder.specs.Entries.{IsParent, IsPart, IsPlain, Role, stored_key}
use Rattle.spec_folder.specs.Footprint.{SameBut, SameStore}
use Rattle.spec_folder.specs.Found.{row_of_loaded, row_with}
use Rattle.spec_folder.specs.Layout.{IsPartAt, IsPlacedAt, Layout, Represents, is_listed, order, rule_of}
use Rattle.spec_folder.specs.ListImages.{CanBeMade, HasListAtRest, operation_steps, walked}
use Rattle.spec_folder.specs.ListPlans.{writes_of}
use Rattle.spec_folder.specs.ListSteps.{IsPartly, touched_by_writes}
use Rattle.spec_folder.specs.ListView.{CanBeInserted, IsList, ListView, ListWrite, put}
use Rattle.spec_folder.specs.Loads.{Loaded, is_part_role, load, unchained_rule}
use Rattle.spec_folder.specs.Searches.{HasKey, IsWholeChain, bucket_of_key}
use Rattle.spec_folder.specs.ShownChanges.{ShowsTheSame}
use Rattle.spec_folder.specs.Sound.{AreSealed, words_of}
use Rattle.spec_folder.specs.View.{RecordFields, StoreView, View, list_of, stands_as, store_of, view_of}
use Rattle.law_folder.proofs.chains.ChainWords.{shown-fields}
use Rattle.law_folder.proofs.chains.Searches.{IsRecordAt, in-chain, searchable}
use Rattle.law_folder.proofs.claims.Outside.{load-outside, represents-outside}
use Rattle.law_folder.proofs.lists.WordTurns.{inserts-can}
use Rattle.law_folder.proofs.lists.WriteSteps.{checked-kind}
use Rattle.law_folder.proofs.states.Central.{walk-order}
use Rattle.law_folder.proofs.states.Laid.{IsNodeOf, item-row, node-of}
use Rattle.law_folder.proofs.states.Tidying.{counter-same, record-bytes, sealed-still, touch_range, touch_sizes, touch_spares}
use Rattle.law_folder.proofs.updates.StillShown.{core-standing}
use Rattle.law_folder.proofs.walks.Loads.{load-then}
use Rattle.law_folder.proofs.walks.Shown.{role-name, role-part}
use Rattle.blk_disk.specs.declared.tables.BlockFiles.{BlockFiles}
use Rattle.blk_disk.specs.Open.{IsOpen}
use Rattle.blk_lru.specs.Moments.{IsMidOperation}
use Rattle.blk_chain.specs.Linking.{CanBeLinked, IsLinkedInFront}
use Rattle.law_state.specs.Arranging.{LeavesFiles}
use Rattle.law_state.specs.Changes.{Finds, SameCounters}
use Rattle.law_state.specs.NewEntryLaws.{HasRecordInFront, IsInsertDone}
use Rattle.law_state.specs.NewPartLaws.{IsMidPart, with_bit, with_new_part}
use Rattle.law_state.specs.NewPartsKept.{IsMakingPart}
use Rattle.law_state.proofs.Leaving.{leaves-files, leaves-then}
use Rattle.law_state.proofs.NewEntries.{table-leaves, table-seals}
use Rattle.law_state.proofs.NewParts as parts
use Rattle.law_state.proofs.NewPartsKept.{making-finds, part-inserts-find}
use Rattle.blk_object.proofs.KeptLists.{inserts-done}
use Rattle.blk_object.proofs.KeptMarks.{come-in-front, in-front}
use Rattle.blk_object.proofs.MakingListed.{told-at}
use Rattle.law_state.proofs.Counts.{bucket-count, touch-count}
use Rattle.blk_object.proofs.MakingStored.{counters-then}
use Rattle.blk_object.proofs.MakingTaken.{told-mid}
use Rattle.blk_sparse.specs.NewParts.{IsPartListed, IsPartToBeListed}

-- ---- the item of a part that loads

-- a part's role has a name and an index
record HasName (role : Role) : Type 0 where
  name : Name
  index : PartIndex
  is : role ≡ IsPart name index

named-role : (role : Role) → is_part_role role ≡ true → HasName role
named-role IsPlain e = absurd (let z : false ≡ true = e in cc)
named-role (IsParent index) e = absurd (let z : false ≡ true = e in cc)
named-role (IsPart name index) e = record { name = name; index = index; is = refl }

name-item : (key : List ℕ) (role : Role) (streams : List (List ℕ)) (name : Name) (index : PartIndex) → role ≡ IsPart name index → item_of (row_with key role streams) ≡ part name.key name.part
name-item key role streams name index is = ap (λ (r : Role). item_of (row_with key r streams)) is

module _ (state : State) (objects : List (Option Object)) (layout : Layout) (unlinked key : List ℕ) (n : ℕ) (was seen l : Loaded) (from : Image) (t : IsPartToBeListed state objects layout unlinked key n was seen l from) where
  abbrev v : View
  v = view_of from

  -- ---- its node

  pub can-insert : CanBeInserted (list_of from) (walked from) l.node
  can-insert = subst (λ (nodes : List ℕ). CanBeInserted (list_of from) nodes l.node) (sym (walk-order (view_of from) state layout t.kept.represents)) (record {
    rest = record { whole = t.kept.represents.list; idle = t.kept.represents.idle };
    lacks = parts.lacks (view_of from) state objects layout key n was seen l t.written;
    good = t.written.good;
    few = t.written.few;
  })

  pub partly-finds : (image : Image) → IsPartly from (writes_of insert l.node (list_of from)) image → Finds (rest state) image
  partly-finds image partly = go (nat_lt partly.made 2) (part-inserts-find state objects layout (words_of l ++ unlinked) key n was seen l from image t.kept t.written partly) where
    go : (b : Bool) → Finds (if b then rest state else rest (with_first state objects (part key n))) image → Finds (rest state) image
    go true f = f
    go false f = subst (λ (rows : List Row). Finds rows image) t.same_rest f

  -- its name, and the item that has it
  its : IsPartAt state (with_bit layout key seen) key l
  its = t.written.new.parent

  its-item : part its.name.key its.name.part ≡ part key n
  its-item =
      sym (name-item l.key l.role l.streams its.name its.index its.role)
      ∙ item-row (record state { objects = objects }) (part key n) (row_of_loaded l) t.written.new.row

  its-read : read_name l.key ≡ Some its.name
  its-read = load-then (store_of from) (unchained_rule entry_normal) l.node l t.written.loads (λ q e f. role-name e l.key l.streams its.name its.index (f.facts.role ∙ ap Some its.role))

  module _ (between : Image) (done : IsInsertDone from l.node between) where
    -- what is shown between, with the list as it was before
    abbrev mixed : View
    mixed = record { list = list_of from; store = store_of between }

    same : ShowsTheSame (store_of from) (store_of between)
    same = done.partly.shown.store

    same-but : SameBut (λ claim. false) (view_of from) mixed
    same-but = record {
      links = record { head = refl; tail = refl; transaction = refl; checks = λ w c. refl; next = λ w c. refl; prev = λ w c. refl };
      store = same.store;
      table = same.table;
    }

    still : Represents mixed state layout
    still = represents-outside (λ claim. false) (view_of from) mixed state layout same-but (λ claim node is. refl) t.kept.represents

    loads : load (store_of between) (unchained_rule entry_normal) l.node ≡ Ok l
    loads = load-outside (λ claim. false) (store_of from) (store_of between) same.store (unchained_rule entry_normal) l.node l refl t.written.loads (record { node = λ c h. refl; contents = λ c h. refl; others = λ i c h. refl })

    bucket : bucket_at between l.contents ≡ bucket_of_hash (hash l.key)
    bucket = load-then (store_of from) (unchained_rule entry_normal) l.node l t.written.loads (λ nf e f.
        let here : (store_of between).entry l.contents ≡ Some e = sym (same.store.entry l.contents (λ c h. refl)) ∙ ap (store_of from).entry f.facts.contents_is ∙ f.entry in
        ap (λ (h : ℕ). bucket_of_hash h) (ap (λ (x : RecordFields). x.hash) (shown-fields between l.contents e here) ∙ eqb-true e.hash (hash l.key) f.facts.keyed.hashed))

    follows : (store_of between).chain_next l.contents ≡ (store_of between).table (bucket_at between l.contents)
    follows = sym (same.store.chain_next l.contents (λ claim has. refl)) ∙ t.written.prefix.follows ∙ same.table (bucket_of_hash (hash l.key)) ∙ ap (store_of between).table (sym bucket)

    below : bucket_of_key l.key < 65536
    below = mod_below (hash l.key) 65536 (lit< tt)

    -- a record of the chain with its name would be that of the part, which isn't listed
    module _ (w : ℕ) (among : is_among (chain (store_of between) (bucket_of_key l.key)).reached w ≡ true) (named : HasKey (store_of between) l.key true w) where
      at : IsRecordAt mixed state layout still w
      at = in-chain mixed state layout still (bucket_of_key l.key) w below among

      fields-are : at.fields ≡ named.fields
      fields-are = some_inj (sym at.facts.entry ∙ ap (store_of between).entry at.contents_is ∙ named.here)

      key-is : at.loaded.key ≡ l.key
      key-is = some_inj (sym at.facts.facts.keyed.key ∙ ap (λ (x : ℕ). stored_key (store_of between) x at.fields) at.contents_is ∙ ap (λ (e : RecordFields). stored_key (store_of between) w e) fields-are ∙ named.key)

      child_role : is_part_role at.loaded.role ≡ true
      child_role = sym (role-part at.fields at.loaded.key at.loaded.streams at.loaded.role at.facts.facts.role) ∙ ap (λ (e : RecordFields). e.flags == child) fields-are ∙ named.flag

      its-role : HasName at.loaded.role
      its-role = named-role at.loaded.role child_role

      read : read_name at.loaded.key ≡ Some its-role.name
      read = role-name at.fields at.loaded.key at.loaded.streams its-role.name its-role.index (at.facts.facts.role ∙ ap Some its-role.is)

      same-name : its-role.name ≡ its.name
      same-name = some_inj (sym read ∙ ap read_name key-is ∙ its-read)

      node-is : IsNodeOf layout state.uses at.node
      node-is = node-of layout state.uses at.node at.listed

      placed : IsPlacedAt state layout node-is.item
      placed = t.kept.represents.holds.lies.laid node-is.item node-is.among

      loaded-same : placed.loaded ≡ at.loaded
      loaded-same = some_inj (sym placed.here ∙ ap layout.at node-is.is ∙ at.here)

      item-is : node-is.item ≡ part key n
      item-is =
          sym (item-row state node-is.item (row_of_loaded placed.loaded) placed.row)
          ∙ ap (λ (x : Loaded). item_of (row_of_loaded x)) loaded-same
          ∙ name-item at.loaded.key at.loaded.role at.loaded.streams its-role.name its-role.index its-role.is
          ∙ ap (λ (m : Name). part m.key m.part) same-name ∙ its-item

      none-named : ⊥
      none-named = let z : true ≡ false = sym node-is.among ∙ ap (is_listed state) item-is ∙ t.written.new.unlisted in cc

    pub can-link : CanBeLinked l.contents between
    can-link = load-then (store_of between) (unchained_rule entry_normal) l.node l loads (λ nf e f.
        let flag : (e.flags == child) ≡ true = role-part e l.key l.streams l.role f.facts.role ∙ ap is_part_role its.role in
        let here : (store_of between).entry l.contents ≡ Some e = ap (store_of between).entry f.facts.contents_is ∙ f.entry in
        record {
          fields = e;
          here = here;
          good = f.checks;
          next = follows;
          key = l.key;
          has_key = record {
            fields = e;
            here = here;
            hashed = eqb-true e.hash (hash l.key) f.facts.keyed.hashed;
            key = ap (λ (x : ℕ). stored_key (store_of between) x e) f.facts.contents_is ∙ f.facts.keyed.key;
            flag = refl;
          };
          whole = subst (λ (b : ℕ). IsWholeChain (store_of between) b) (sym bucket) (searchable mixed state layout still l.key).whole;
          fresh = λ w among named. none-named w (subst (λ (b : ℕ). is_among (chain (store_of between) b).reached w ≡ true) bucket among) (subst (λ (is_child : Bool). HasKey (store_of between) l.key is_child w) flag named);
        })

    at-rest : HasListAtRest (l.node ∷ order state layout) between
    at-rest = subst (λ (nodes : List ℕ). HasListAtRest (l.node ∷ nodes) between) (walk-order (view_of from) state layout t.kept.represents) (done.inserted can-insert)

    -- the writes into the list
    abbrev writes : List ListWrite
    writes = writes_of insert l.node (list_of from)

    outside : SameOutside (touch_range writes l.node) from between
    outside = outside_wider (touched_by_writes writes) (touch_range writes l.node) from between (within_left (touched_by_writes writes) (record_range l.node)) done.partly.outside

    can-make : CanBeMade from writes
    can-make = inserts-can from l.node (walked from) can-insert

    between-leaves : LeavesFiles from between
    between-leaves = leaves-files (touch_range writes l.node) from between (touch_spares writes l.node) (touch_sizes writes l.node) outside
        (record { crash = counter-same writes l.node from between outside 32 (omega arith); id = counter-same writes l.node from between outside 20 (omega arith) }) done.partly.headers

    between-counters : SameCounters from between
    between-counters = touch-count writes l.node from between outside

    between-sealed : AreSealed between l
    between-sealed = load-then (store_of from) (unchained_rule entry_normal) l.node l t.written.loads (λ nf e f.
        let stands : stands_as from blocks_256 l.contents ≡ true = subst (λ (c : ℕ). stands_as from blocks_256 c ≡ true) (sym f.facts.contents_is) (core-standing from nf.contents e f.entry) in
        record {
          node = done.sealed l.node (checked-kind from l.node t.written.good) t.sealed.node;
          entry = ap (λ (g : ℕ → ℕ). entry_is_sealed (entry_in g (place l.contents))) (record-bytes from between writes l.node outside can-make.nodes t.written.good l.contents stands) ∙ t.sealed.entry;
        })

    -- ---- its record

    module _ (image : Image) (front : HasRecordInFront between l.contents image) where
      abbrev chains : ℕ → List ℕ
      chains = (with_new_part layout key n seen l).chains

      store-is : store_of image ≡ linked_front (store_of between) l
      store-is = front.store ∙ ap (λ (b : ℕ). record (store_of between) { table = put (store_of between).table b l.contents }) bucket

      same-linked : SameStore (λ claim. false) (linked_front (store_of from) l) (linked_front (store_of between) l)
      same-linked = record { node_fields = same.store.node_fields; entry = same.store.entry; chain_next = same.store.chain_next; key_place = same.store.key_place; stored = same.store.stored }

      same-table : (store_of from).table ≡ (store_of between).table
      same-table j b = same.table b j

      under : IsMidPart (store_of image) layout key l chains
      under = subst (λ (s : StoreView). IsMidPart s layout key l chains) (sym store-is)
          (parts.parent-changes (view_of from) state objects layout key n was seen l t.written (linked_front (store_of from) l) (linked_front (store_of between) l) chains (parts.linked-under (view_of from) state objects layout key n was seen l t.written) (λ claim. false) same-linked
          (λ b. ap (λ (tb : ℕ → ℕ). put tb (bucket_of_hash (hash l.key)) l.contents b) same-table)
          (record { others = λ c w h e. refl; part_clear = λ c h. refl; node_clear = λ c h. refl; chains_clear = λ b w low h c g. refl }))

      making : IsMakingPart state layout key l chains image
      making = record {
        sound = front.headers.sound (done.partly.headers.sound t.kept.sound);
        list = record { whole = subst (λ (ls : ListView). IsList ls (l.node ∷ order state layout)) (sym front.list) at-rest.whole; idle = ap (λ (ls : ListView). ls.transaction) front.list ∙ at-rest.idle };
        others = under;
      }

      pub linked-finds : Finds (rest state) image
      linked-finds = subst (λ (rows : List Row). Finds rows image) t.same_rest (making-finds state objects layout (words_of l ++ unlinked) key n was seen l chains from image t.kept t.written making)

      parent : load (store_of image) (rule_of layout (layout.place (main key))) (layout.place (main key)) ≡ Ok was
      parent = subst (λ (s : StoreView). load s (rule_of layout (layout.place (main key))) (layout.place (main key)) ≡ Ok was) (sym store-is)
          (parts.load-table (store_of between) (put (store_of between).table (bucket_of_hash (hash l.key)) l.contents) (rule_of layout (layout.place (main key))) (layout.place (main key)) was refl
          (load-outside (λ claim. false) (store_of from) (store_of between) same.store (rule_of layout (layout.place (main key))) (layout.place (main key)) was refl (t.kept.represents.holds.shows.each (layout.place (main key)) was t.written.at_parent) (record { node = λ c h. refl; contents = λ c h. refl; others = λ i c h. refl })))

      table-counters : SameCounters between image
      table-counters = bucket-count (bucket_at between l.contents) between image front.outside

      pub part-listed : IsPartListed state layout key n was seen l from image
      part-listed = record {
        making = making;
        parent = parent;
        leaves = leaves-then from between image between-leaves (table-leaves (bucket_at between l.contents) between image front.outside front.headers);
        counters = counters-then from between image between-counters table-counters;
        part_sealed = table-seals (bucket_at between l.contents) between image l front.outside between-sealed;
        sealed = λ node other here. table-seals (bucket_at between l.contents) between image other front.outside (sealed-still from between writes l.node outside can-make.nodes t.written.good state layout t.kept.represents done.sealed node other here (t.kept.sealed node other here));
      }

-- ---- the two calls

module _ (a b : Told) (files : BlockFiles) (entry node : ℕ) where
  module _ (state : State) (objects : List (Option Object)) (layout : Layout) (unlinked key : List ℕ) (n : ℕ) (was seen l : Loaded) (from : Image) (there : a.files ≡ Some from) (t : IsPartToBeListed state objects layout unlinked key n was seen l from) (record_is : l.contents ≡ entry) (node_is : l.node ≡ node) where
    pub can-insert-it : CanBeInserted (list_of from) (walked from) node
    can-insert-it = subst (CanBeInserted (list_of from) (walked from)) node_is (can-insert state objects layout unlinked key n was seen l from t)

    module _ (stops : ForSome a.files (λ from. CanBeInserted (list_of from) (walked from) node → Passes a b (IsMidOperation files (writes_of insert node (list_of from)) (walked from) (node ∷ walked from) from))) where
      inserting : Passes a b (IsPartly from (writes_of insert node (list_of from)))
      inserting = passes_weaker (stops from there can-insert-it) (λ image m. m.partly) (λ image m. m.partly)

      it-finds : (image : Image) → IsPartly from (writes_of insert node (list_of from)) image → Finds (rest state) image
      it-finds image partly = partly-finds state objects layout unlinked key n was seen l from t image (subst (λ (x : ℕ). IsPartly from (writes_of insert x (list_of from)) image) (sym node_is) partly)

      pub inserting-finds : Passes a b (Finds (rest state))
      inserting-finds = passes_weaker inserting it-finds it-finds

      module _ (tells : TellsBytes a) (open_folder : ForSome a.files (IsOpen files)) (steps : ForSome a.files (λ from. Applies a b (operation_steps insert node from))) where
        pub inserted-mid : (mid : Image) × (b.files ≡ Some mid)
        inserted-mid = (after (operation_steps insert node from) from, (steps from there).files ∙ ap (option_map (after (operation_steps insert node from))) there)

        inserted : (mid : Image) → b.files ≡ Some mid → IsInsertDone from l.node mid
        inserted mid now = subst (λ (x : ℕ). IsInsertDone from x mid) (sym node_is) (inserts-done files node a b tells open_folder (told-at (λ i. CanBeInserted (list_of i) (walked i) node) a.files from there can-insert-it) steps from there mid now)

        can-link-it : (mid : Image) → b.files ≡ Some mid → CanBeLinked entry mid
        can-link-it mid now = subst (λ (w : ℕ). CanBeLinked w mid) record_is (can-link state objects layout unlinked key n was seen l from t mid (inserted mid now))

        module _ (d : Told) where
          pub listing-finds : ForSome b.files (λ mid. CanBeLinked entry mid → Commits 1 b d (λ image. image ≡ mid) (IsLinkedInFront mid entry)) → Passes a d (Finds (rest state))
          listing-finds commits =
              let mid = told-mid a b from there inserting in
              let each : (image : Image) → (image ≡ mid.0) ⊎ HasRecordInFront mid.0 entry image → Finds (rest state) image =
              λ image either. ⊎_elim
              (λ (same : image ≡ mid.0). subst (Finds (rest state)) (sym same) (it-finds mid.0 (passes_end inserting mid.0 mid.1)))
              (λ (front : HasRecordInFront mid.0 entry image). linked-finds state objects layout unlinked key n was seen l from t mid.0 (inserted mid.0 mid.1) image (subst (λ (w : ℕ). HasRecordInFront mid.0 w image) (sym record_is) front))
              either in
              passes_then inserting-finds
              (passes_weaker (come-in-front entry b d (told-at (λ i. Commits 1 b d (λ image. image ≡ i) (IsLinkedInFront i entry)) b.files mid.0 mid.1 (commits mid.0 mid.1 (can-link-it mid.0 mid.1))) mid.0 mid.1) each each)

          pub listing-listed : ForSome b.files (λ mid. CanBeLinked entry mid → ForSome d.files (IsLinkedInFront mid entry)) → ForSome d.files (IsPartListed state layout key n was seen l from)
          listing-listed linked image now =
              let mid = inserted-mid in
              part-listed state objects layout unlinked key n was seen l from t mid.0 (inserted mid.0 mid.1) image
              (subst (λ (w : ℕ). HasRecordInFront mid.0 w image) (sym record_is) (in-front entry mid.0 image (linked mid.0 mid.1 (can-link-it mid.0 mid.1) image now)))
