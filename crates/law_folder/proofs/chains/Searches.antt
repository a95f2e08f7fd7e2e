-- What a search for a key finds in the chains of what represents a state.
use Rattle.std.proofs.Common.{◌≡◌, ℕ, ◌≤◌, ◌<◌, List, length, refl, sym, ◌∙◌, ap, subst, Bool, true, false, arith, Option, Some, None}
use Rattle.std.specs.Prelude.{◌==◌}
use Rattle.std.proofs.lemmas.Bool.{eqb-true}
use Rattle.spec_image.proofs.Runs.{some_inj}
use Rattle.blk_model.specs.Items.{Item, Row, main, part, item_of}
use Rattle.blk_model.specs.State.{State, IsValidState, live_with}
use Rattle.blk_model.specs.Holding as model
use Rattle.spec_format.specs.Hash.{hash}
use Rattle.spec_format.specs.Headers.{table_length}
use Rattle.spec_format.specs.Records.{child}
use Rattle.spec_format.specs.BlockFiles.{is_among}
use Rattle.spec_folder.specs.View.{View, NodeFields, RecordFields}
use Rattle.spec_folder.specs.Chains.{Chain, chain, IsChain}
use Rattle.spec_folder.specs.Entries.{Role, IsPlain, IsParent, IsPart, is_key_length, stored_key}
use Rattle.spec_folder.specs.Loads.{Loaded, is_part, is_part_role}
use Rattle.spec_folder.specs.Found.{row_of_loaded}
use Rattle.spec_folder.specs.Layout.{Layout, is_listed, order, rule_of, IsPlacedAt, IsListedRecord, Represents}
use Rattle.spec_folder.specs.Searches.{bucket_of_key, chained_for, HasKey, NoneHasKey, HasCheckedKey, IsOfLive}
use Rattle.law_folder.specs.SearchLaws.{ChainsAreTheLayouts, RepresentedChainsCanBeSearched, FoundRecordsAreLive, NoneFoundIsMissing}
use Rattle.law_folder.proofs.chains.Chains.{chain-is}
use Rattle.law_folder.proofs.states.Laid.{IsNodeOf, node-of, is_among-node, item-of, item-row}
use Rattle.law_folder.proofs.walks.Loads.{IsLoadedNode, load-then}
use Rattle.law_folder.proofs.walks.Shown.{role-part}
use Rattle.law_folder.proofs.commands.Opening.{first-some}
use Rattle.law_folder.proofs.chains.ShortChains.{represented-chains-short}

-- the item of a record that is a main item's
main-of : (l : Loaded) (key : List ℕ) → item_of (row_of_loaded l) ≡ main key → (l.key ≡ key) × (is_part l ≡ false)
main-of l key e = go l.role refl where
  key-of : Item → List ℕ
  key-of (main k) = k
  key-of (part k n) = k

  is-main : Item → Bool
  is-main (main k) = true
  is-main (part k n) = false

  go : (r : Role) → l.role ≡ r → (l.key ≡ key) × (is_part l ≡ false)
  go IsPlain h = (ap key-of (rw h at e), ap is_part_role h)
  go (IsParent index) h = (ap key-of (rw h at e), ap is_part_role h)
  go (IsPart name index) h = let bad : false ≡ true = ap is-main (rw h at e) in absurd (cc)

-- a record without the flag of a part is a main item's
item-main : (l : Loaded) → is_part l ≡ false → item_of (row_of_loaded l) ≡ main l.key
item-main l e = go l.role refl where
  go : (r : Role) → l.role ≡ r → item_of (row_of_loaded l) ≡ main l.key
  go IsPlain h = rw h refl
  go (IsParent index) h = rw h refl
  go (IsPart name index) h = let bad : true ≡ false = ap is_part_role (sym h) ∙ e in absurd (cc)

-- a key that no live object has has no row
no-row : (state : State) (key : List ℕ) → live_with state key ≡ None → model.row_of state (main key) ≡ None
unfolding model.row_of
no-row state key e = rw e refl

-- the chains are those of the layout
pub chains-are : ChainsAreTheLayouts
chains-are view state layout rep bucket below = ap (λ (c : Chain). c.reached) (chain-is view.store bucket (layout.chains bucket) rep.holds.shows.no_record (rep.holds.shows.chains bucket below))

below-table : (key : List ℕ) → bucket_of_key key < table_length
below-table key = omega arith

module _ (view : View) (state : State) (layout : Layout) (rep : Represents view state layout) where
  -- what is known of the node of a record
  pub record IsRecordAt (contents : ℕ) : Type 0 where
    pub node : ℕ
    pub loaded : Loaded
    pub listed : is_among (order state layout) node ≡ true
    pub here : layout.at node ≡ Some loaded
    pub node_fields : NodeFields
    pub fields : RecordFields
    pub facts : IsLoadedNode view.store (rule_of layout node) node loaded node_fields fields
    pub contents_is : node_fields.contents ≡ contents

  pub record-at : (contents : ℕ) (l : IsListedRecord state layout contents) → IsRecordAt contents
  record-at contents l = load-then view.store (rule_of layout l.node) l.node l.loaded (rep.holds.shows.each l.node l.loaded l.here)
      (λ n e facts. record { node = l.node; loaded = l.loaded; listed = l.listed; here = l.here; node_fields = n; fields = e; facts = facts; contents_is = sym facts.facts.contents_is ∙ l.record_is })

  pub in-chain : (bucket contents : ℕ) → bucket < table_length → is_among (chain view.store bucket).reached contents ≡ true → IsRecordAt contents
  in-chain bucket contents below there = record-at contents (rep.holds.lies.unchained bucket contents below (subst (λ (ws : List ℕ). is_among ws contents ≡ true) (chains-are view state layout rep bucket below) there))

  -- a record of a chain has a key
  has-key : (w : ℕ) → IsRecordAt w → HasCheckedKey view.store w
  has-key w r = record {
    fields = r.fields;
    here = subst (λ (x : ℕ). view.store.entry x ≡ Some r.fields) r.contents_is r.facts.entry;
    checks = r.facts.checks;
    long = subst (λ (x : ℕ). is_key_length x r.fields ≡ true) r.contents_is r.facts.facts.keyed.key_length;
    key = r.loaded.key;
    is = subst (λ (x : ℕ). stored_key view.store x r.fields ≡ Some r.loaded.key) r.contents_is r.facts.facts.keyed.key;
  }

  chain-few : (bucket : ℕ) → bucket < table_length → length (chain view.store bucket).reached ≤ 131072
  chain-few bucket below =
      let same : length (chain view.store bucket).reached ≡ length (layout.chains bucket) = ap length (chains-are view state layout rep bucket below) in
      let few = (represented-chains-short view state layout rep bucket below).1 in
      omega (arith, same, few)

  -- a record with a name is that of the main item of its key
  module _ (key : List ℕ) (entry : ℕ) (there : is_among (chained_for view.store key) entry ≡ true) (name : HasKey view.store key false entry) where
    at : IsRecordAt entry
    at = in-chain (bucket_of_key key) entry (below-table key) there

    fields-are : at.fields ≡ name.fields
    fields-are = some_inj (sym at.facts.entry ∙ ap view.store.entry at.contents_is ∙ name.here)

    key-is : at.loaded.key ≡ key
    key-is = some_inj (sym at.facts.facts.keyed.key ∙ ap (λ (x : ℕ). stored_key view.store x at.fields) at.contents_is ∙ ap (λ (e : RecordFields). stored_key view.store entry e) fields-are ∙ name.key)

    plain : is_part at.loaded ≡ false
    plain = sym (role-part at.fields at.loaded.key at.loaded.streams at.loaded.role at.facts.facts.role) ∙ ap (λ (e : RecordFields). e.flags == child) fields-are ∙ name.flag

    node-is : IsNodeOf layout state.uses at.node
    node-is = node-of layout state.uses at.node at.listed

    item-is : node-is.item ≡ main key
    item-is = sym (item-of state layout rep.holds.lies.laid node-is.item at.loaded node-is.among (ap layout.at node-is.is ∙ at.here)) ∙ item-main at.loaded plain ∙ ap main key-is

    main-listed : is_listed state (main key) ≡ true
    main-listed = subst (λ (i : Item). is_listed state i ≡ true) item-is node-is.among

    place-is : layout.place (main key) ≡ at.node
    place-is = ap layout.place (sym item-is) ∙ node-is.is

    -- the word of the record that names the node
    named-node : name.fields.rankings_node ≡ layout.place (main key)
    named-node = ap (λ (e : RecordFields). e.rankings_node) (sym fields-are) ∙ eqb-true _ _ at.facts.facts.keyed.back ∙ sym place-is

    owned : (number : ℕ) × (live_with state key ≡ Some number)
    owned = by (live_with state key) refl (rep.holds.lies.laid (main key) main-listed) where
      by : (o : Option ℕ) → live_with state key ≡ o → IsPlacedAt state layout (main key) → (number : ℕ) × (live_with state key ≡ Some number)
      by (Some number) e laid = (number, e)
      by None e laid = absurd (none (model.row_of state (main key)) (no-row state key e) laid.row)
        where
          none : (o : Option Row) → o ≡ None → o ≡ Some (row_of_loaded laid.loaded) → ⊥
          none o e h = cc

    is-live : IsOfLive state layout key entry name.fields.rankings_node
    is-live = record {
      number = owned.0;
      live = owned.1;
      place = named-node;
      loaded = at.loaded;
      at = ap layout.at (named-node ∙ place-is) ∙ at.here;
      contents = at.facts.facts.contents_is ∙ at.contents_is;
    }

  -- where no record of the chain has the name, no live object has the key
  live-none : IsValidState state → (key : List ℕ) → NoneHasKey view.store (chained_for view.store key) key false → live_with state key ≡ None
  live-none valid key none = by (live_with state key) refl where
    by : (o : Option ℕ) → live_with state key ≡ o → live_with state key ≡ None
    by None e = e
    by (Some number) e =
        let listed : is_listed state (main key) ≡ true = first-some state (main key) number valid e in
        let laid : IsPlacedAt state layout (main key) = rep.holds.lies.laid (main key) listed in
        let m = main-of laid.loaded key (item-row state (main key) (row_of_loaded laid.loaded) laid.row) in
        absurd (load-then view.store (rule_of layout (layout.place (main key))) (layout.place (main key)) laid.loaded (rep.holds.shows.each (layout.place (main key)) laid.loaded laid.here)
        (λ n fields facts.
        let chained = rep.holds.lies.chained (layout.place (main key)) laid.loaded (is_among-node layout state.uses (main key) listed) laid.here in
        let keyed : is_among (layout.chains (bucket_of_key key)) laid.loaded.contents ≡ true = subst (λ (k : List ℕ). is_among (layout.chains (bucket_of_key k)) laid.loaded.contents ≡ true) m.0 chained in
        none laid.loaded.contents (subst (λ (ws : List ℕ). is_among ws laid.loaded.contents ≡ true) (sym (chains-are view state layout rep (bucket_of_key key) (below-table key))) keyed)
        (record {
          fields = fields;
          here = ap view.store.entry facts.facts.contents_is ∙ facts.entry;
          hashed = eqb-true _ _ facts.facts.keyed.hashed ∙ ap hash m.0;
          key = ap (λ (x : ℕ). stored_key view.store x fields) facts.facts.contents_is ∙ facts.facts.keyed.key ∙ ap Some m.0;
          flag = role-part fields laid.loaded.key laid.loaded.streams laid.loaded.role facts.facts.role ∙ m.1;
        })))

pub searchable : RepresentedChainsCanBeSearched
searchable view state layout rep key = record {
  whole = subst (λ (ws : List ℕ). IsChain view.store (bucket_of_key key) ws) (sym (chains-are view state layout rep (bucket_of_key key) (below-table key))) (rep.holds.shows.chains (bucket_of_key key) (below-table key));
  few = chain-few view state layout rep (bucket_of_key key) (below-table key);
  keys = λ w there. has-key view state layout rep w (in-chain view state layout rep (bucket_of_key key) w (below-table key) there);
}

pub found-live : FoundRecordsAreLive
found-live view state layout rep key entry there found = is-live view state layout rep key entry there found

pub none-missing : NoneFoundIsMissing
none-missing view state layout rep valid key none = live-none view state layout rep valid key none
