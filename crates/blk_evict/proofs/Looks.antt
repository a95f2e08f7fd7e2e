-- What a search for a key finds where a state is kept.
use Rattle.std.proofs.Common.{◌≡◌, ℕ, List, [], refl, sym, ◌∙◌, ap, subst, true, false, Option, Some, None}
use Rattle.std.specs.Option.{option_and_then}
use Rattle.spec_image.specs.Image.{Image}
use Rattle.spec_image.proofs.Runs.{some_inj}
use Rattle.blk_model.specs.Items.{main, main_row}
use Rattle.blk_model.specs.Totals.{row_charge}
use Rattle.blk_model.specs.Holding as model
use Rattle.blk_model.specs.Room.{own_charge}
use Rattle.blk_model.specs.State.{Object, State, live_with, object_at}
use Rattle.spec_format.specs.BlockFiles.{is_among}
use Rattle.spec_folder.specs.Found.{charge_of, row_of_loaded}
use Rattle.spec_folder.specs.Layout.{IsPlacedAt, Layout, Represents, is_listed, rule_of}
use Rattle.spec_folder.specs.Loads.{Loaded}
use Rattle.spec_folder.specs.Searches.{HasCheckedKey, IsOfLive, chained_for}
use Rattle.spec_folder.specs.View.{RecordFields, entry_at, stands_as, store_of, view_of}
use Rattle.spec_format.specs.Address.{rankings}
use Rattle.blk_object.specs.Owning.{LoadsWith}
use Rattle.blk_object.proofs.OwnedCharges.{record-charge}
use Rattle.blk_object.proofs.OwnedPlaces.{kept-load}
use Rattle.law_folder.specs.SearchLaws.{IsSearchable}
use Rattle.law_folder.proofs.chains.ChainWords.{shown-fields}
use Rattle.law_folder.proofs.chains.Searches.{found-live, searchable}
use Rattle.law_folder.proofs.claims.Owner.{IsOwned, its-key, owned}
use Rattle.law_folder.proofs.commands.Opening.{first-some}
use Rattle.law_folder.proofs.states.Charges.{items-charged}
use Rattle.law_folder.proofs.walks.Shown.{node-is}
use Rattle.blk_disk.specs.declared.tables.BlockFiles.{BlockFiles}
use Rattle.blk_disk.specs.Tables.{Agrees, is_node_among}
use Rattle.blk_lru.proofs.NodeWords.{names_node}
use Rattle.blk_entry.specs.Keys.{HasReadableKey, key_at}
use Rattle.blk_chain.specs.Finding.{CanBeSearched, IsFound}
use Rattle.blk_chain.specs.Unlinking.{StandsBehind}
use Rattle.blk_chain.proofs.Apart.{behind-there, middle-there}
use Rattle.law_state.specs.Keeping.{KeepsUncounted}
use Rattle.law_state.proofs.Free.{standing-at}
use Rattle.blk_evict.specs.declared.looking.Live.{Live}
use Rattle.blk_evict.specs.Looking.{IsLiveAt, charge_at}

-- a record with a checked key can be read
readable : (image : Image) (w : ℕ) → HasCheckedKey (store_of image) w → HasReadableKey w image
unfolding key_at store_of
readable image w c = record { key = c.key; is = rw (c.here, c.long) c.is }

-- what is found is in the chain
chained : (words : List ℕ) (entry : ℕ) (before : Option ℕ) (prefix suffix : List ℕ) → StandsBehind words entry before prefix suffix → is_among words entry ≡ true
chained words entry None prefix suffix s = subst (λ (ws : List ℕ). is_among ws entry ≡ true) (sym s.1) (middle-there [] entry suffix)
chained words entry (Some b) prefix suffix s = subst (λ (ws : List ℕ). is_among ws entry ≡ true) (sym s) (behind-there prefix b entry suffix)

-- so a record that was found is in the chain of its key
pub chained-there : (image : Image) (key : List ℕ) (entry : ℕ) (before : Option ℕ) → IsFound key false entry before image → is_among (chained_for (store_of image) key) entry ≡ true
chained-there image key entry before found = chained (chained_for (store_of image) key) entry before found.prefix found.suffix found.stands

-- the cost by the record of what is loaded is the cost of what is loaded
pub loaded-charge : (image : Image) (entry : ℕ) (loaded : Loaded) → LoadsWith entry loaded image → charge_at image entry ≡ charge_of loaded
loaded-charge image entry loaded w = record-charge image entry loaded w

-- so that of a node of a state that is shown
pub said-charge : (image : Image) (state : State) (layout : Layout) → Represents (view_of image) state layout → (node : ℕ) (loaded : Loaded) → layout.at node ≡ Some loaded → charge_at image loaded.contents ≡ charge_of loaded
said-charge image state layout r node loaded here = loaded-charge image loaded.contents loaded (record { rule = rule_of layout node; node = node; loads = r.holds.shows.each node loaded here; contents = refl })

module _ (state : State) (layout : Layout) (unlinked : List ℕ) (image : Image) (k : KeepsUncounted state layout unlinked image) where
  pub can-search : (key : List ℕ) → CanBeSearched key image
  can-search key =
      let s : IsSearchable (view_of image) key = searchable (view_of image) state layout k.represents key in
      record { whole = s.whole; few = s.few; keys = λ w there. readable image w (s.keys w there) }

  -- the cost of what lies at the node of a live object is that of the object as a main item
  pub live-charge : (key : List ℕ) (number : ℕ) (object : Object) (loaded : Loaded) → live_with state key ≡ Some number → object_at state number ≡ Some object → layout.at (layout.place (main key)) ≡ Some loaded → charge_of loaded ≡ own_charge object
  unfolding model.row_of
  live-charge key number object loaded is here at =
      let listed : is_listed state (main key) ≡ true = first-some state (main key) number k.valid is in
      let laid : IsPlacedAt state layout (main key) = k.represents.holds.lies.laid (main key) listed in
      let one : laid.loaded ≡ loaded = some_inj (sym laid.here ∙ at) in
      let o : IsOwned state (main key) number = owned state (main key) number is in
      let same : o.object ≡ object = some_inj (sym o.here ∙ here) in
      let key-is : key ≡ object.key = its-key o.object (main key) o.has ∙ ap (λ (z : Object). z.key) same in
      let row : model.row_of state (main key) ≡ Some (main_row key object.shape object.streams) =
      ap (λ (w : Option ℕ). option_and_then (λ z. model.row_in z (main key)) (option_and_then (object_at state) w)) is ∙ ap (λ (w : Option Object). option_and_then (λ z. model.row_in z (main key)) w) here in
      let rows : row_of_loaded loaded ≡ main_row key object.shape object.streams = some_inj (ap (λ (l : Loaded). Some (row_of_loaded l)) (sym one) ∙ sym laid.row ∙ row) in
      items-charged (view_of image) state layout k.represents (main key) loaded listed at ∙ ap (row_charge state) rows ∙ ap (λ (z : List ℕ). row_charge state (main_row z object.shape object.streams)) key-is

  -- a record that is found is that of a live object
  module _ (key : List ℕ) (entry : ℕ) (before : Option ℕ) (found : IsFound key false entry before image) where
    there : is_among (chained_for (store_of image) key) entry ≡ true
    there = chained-there image key entry before found

    abbrev of-live : IsOfLive state layout key entry found.has_key.fields.rankings_node
    of-live = found-live (view_of image) state layout k.represents key entry there found.has_key

    node-word : (entry_at image entry).rankings_node ≡ found.has_key.fields.rankings_node
    node-word = ap (λ (z : RecordFields). z.rankings_node) (shown-fields image entry found.has_key.fields found.has_key.here)

    pub found-loads : (loaded : Loaded) × LoadsWith entry loaded image
    found-loads = let l : IsOfLive state layout key entry found.has_key.fields.rankings_node = of-live in (l.loaded, subst (λ (w : ℕ). LoadsWith w l.loaded image) l.contents (kept-load state layout unlinked image found.has_key.fields.rankings_node l.loaded k l.at))

    pub found-names : (files : BlockFiles) → Agrees files image → is_node_among files (entry_at image entry).rankings_node ≡ true
    found-names files agrees =
        let l : IsOfLive state layout key entry found.has_key.fields.rankings_node = of-live in
        let standing = standing-at image state layout k.represents found.has_key.fields.rankings_node l.loaded l.at in
        let named = node-is (store_of image) (rule_of layout found.has_key.fields.rankings_node) found.has_key.fields.rankings_node l.loaded (k.represents.holds.shows.each found.has_key.fields.rankings_node l.loaded l.at) in
        names_node files image agrees (entry_at image entry).rankings_node (subst (λ (n : ℕ). stands_as image rankings n ≡ true) (named ∙ sym node-word) standing.node)

    pub found-is-live : (answer : Live) → answer.entry ≡ entry → answer.node ≡ (entry_at image entry).rankings_node → answer.charge ≡ charge_at image entry → IsLiveAt state layout key answer
    found-is-live answer entry-is node-is charge-is =
        let l : IsOfLive state layout key entry found.has_key.fields.rankings_node = of-live in
        let o : IsOwned state (main key) l.number = owned state (main key) l.number l.live in
        let node : answer.node ≡ found.has_key.fields.rankings_node = node-is ∙ node-word in
        let at-place : layout.at (layout.place (main key)) ≡ Some l.loaded = ap layout.at (sym l.place) ∙ l.at in
        record {
          number = l.number;
          is = l.live;
          object = o.object;
          here = o.here;
          node = node ∙ l.place;
          loaded = l.loaded;
          at = ap layout.at node ∙ l.at;
          entry = entry-is ∙ sym l.contents;
          charge = charge-is ∙ ap (charge_at image) (sym l.contents) ∙ said-charge image state layout k.represents found.has_key.fields.rankings_node l.loaded l.at ∙ live-charge key l.number o.object l.loaded l.live o.here at-place;
        }
