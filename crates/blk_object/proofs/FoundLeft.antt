-- A search finds the record of an item that isn't out.
use Rattle.std.proofs.Common.{◌≡◌, ◌≢◌, ℕ, ◌<◌, ◌≤◌, List, [], ◌∷◌, length, map, refl, ap, sym, ◌∙◌, subst, arith, lit<, Bool, true, false, Option, None, Some, Ok, ⊎_elim}
use Rattle.std.specs.Prelude.{◌==◌, filter}
use Rattle.std.specs.Option.{option_map_or}
use Rattle.std.proofs.lemmas.Bool.{cases_Bool, eq-eqb, eqb-true, or_left, or_right}
use Rattle.std.proofs.lemmas.Bool.Decides.{eqb_tells}
use Rattle.std.proofs.Math.Dec.{eqb}
use Rattle.std.proofs.lemmas.List.{length-map}
use Rattle.std.proofs.lemmas.Nat.{mod_below}
use Rattle.spec_image.specs.Image.{Image}
use Rattle.spec_image.proofs.Runs.{some_inj}
use Rattle.blk_model.specs.Items.{Item, item_of, main, part}
use Rattle.blk_model.specs.State.{State}
use Rattle.spec_format.specs.BlockFiles.{is_among}
use Rattle.spec_format.specs.Hash.{hash}
use Rattle.spec_format.specs.Names.{Name, read_name}
use Rattle.spec_format.specs.Records.{child}
use Rattle.spec_format.specs.SparseIndex.{PartIndex}
use Rattle.spec_folder.specs.Chains.{Chain, IsChain, file_and_block}
use Rattle.spec_folder.specs.Entries.{IsParent, IsPart, IsPlain, Role, is_key_length, stored_key}
use Rattle.spec_folder.specs.Found.{row_with}
use Rattle.spec_folder.specs.Layout.{IsListedRecord, Layout, is_listed, nodes_of, rule_of}
use Rattle.spec_folder.specs.Loads.{Loaded, is_part, is_part_role, load}
use Rattle.spec_folder.specs.Searches.{HasKey, bucket_of_key, chained_for}
use Rattle.spec_folder.specs.View.{RecordFields, store_of}
use Rattle.law_folder.proofs.chains.Chains.{chain-is}
use Rattle.law_folder.proofs.chains.ShortChains.{distinct-map, no-more}
use Rattle.law_folder.proofs.states.Laid.{IsNodeOf, is_among-node, item-of, node-of}
use Rattle.law_folder.proofs.walks.Loads.{load-then}
use Rattle.law_folder.proofs.walks.Shown.{role-name, role-part}
use Rattle.blk_chain.specs.declared.found.Found.{Found}
use Rattle.blk_chain.specs.Finding.{IsAnswer, IsFound}
use Rattle.blk_chain.specs.Unlinking.{StandsBehind}
use Rattle.blk_entry.specs.Keys.{HasReadableKey}
use Rattle.law_state.specs.GroupLaws.{gone_nodes}
use Rattle.law_state.specs.PartlyOut.{KeepsPartlyOut}
use Rattle.law_state.proofs.Groups as groups
use Rattle.law_state.proofs.PartlyOut.{kept-begin}
use Rattle.blk_object.specs.FindingOut.{IsFoundLeft, LeftItemsAreFound, ListedItemsAreFound, PartlyOutCanBeSearched, is_child_item}
use Rattle.blk_object.proofs.FoundEntries.{readable, standing-among}

-- ---- the item that a record says

said : Bool → List ℕ → Item
said false key = main key
said true key = option_map_or (λ (name : Name). part name.key name.part) (read_name key) (main key)

item-said : (key : List ℕ) (streams : List (List ℕ)) (role : Role) → ((name : Name) (index : PartIndex) → role ≡ IsPart name index → read_name key ≡ Some name) → item_of (row_with key role streams) ≡ said (is_part_role role) key
unfolding said
item-said key streams IsPlain named = refl
item-said key streams (IsParent index) named = refl
item-said key streams (IsPart name index) named = sym (ap (λ (o : Option Name). option_map_or (λ (n : Name). part n.key n.part) o (main key)) (named name index refl))

child-said : (key : List ℕ) (streams : List (List ℕ)) (role : Role) → is_child_item (item_of (row_with key role streams)) ≡ is_part_role role
child-said key streams IsPlain = refl
child-said key streams (IsParent index) = refl
child-said key streams (IsPart name index) = refl

pub among-map : (g : ℕ → ℕ) (xs : List ℕ) (x : ℕ) → is_among xs x ≡ true → is_among (map g xs) (g x) ≡ true
among-map g [] x h = h
among-map g (z ∷ zs) x h = ⊎_elim
    (λ (e : (eqb z x ≡ true) × (z ≡ x)). or_left (g z == g x) (is_among (map g zs) (g x)) (eq-eqb (g z) (g x) (ap g e.1)))
    (λ (e : (eqb z x ≡ false) × (z ≢ x)). or_right (g z == g x) (is_among (map g zs) (g x)) (among-map g zs x (rw e.0 at h)))
    (eqb_tells z x)

-- the record that a node names
abbrev contents_in : Option Loaded → ℕ
contents_in None = 0
contents_in (Some loaded) = loaded.contents

-- an item that isn't out, whose record this is
record IsOfItem (state : State) (layout : Layout) (keep : Item → Bool) (w : ℕ) : Type 0 where
  pub item : Item
  pub listed : is_listed state item ≡ true
  pub stays : keep item ≡ true
  pub loaded : Loaded
  pub here : layout.at (layout.place item) ≡ Some loaded
  pub record_is : loaded.contents ≡ w

module _ (state : State) (layout : Layout) (keep : Item → Bool) (chains : ℕ → List ℕ) (unlinked : List ℕ) (image : Image) (k : KeepsPartlyOut state layout keep chains unlinked image) where
  below : (key : List ℕ) → bucket_of_key key < 65536
  below key = mod_below (hash key) 65536 (lit< tt)

  pub chain-same : (key : List ℕ) → chained_for (store_of image) key ≡ chains (bucket_of_key key)
  chain-same key = ap (λ (c : Chain). c.reached) (chain-is (store_of image) (bucket_of_key key) (chains (bucket_of_key key)) k.holds.no_record (k.holds.chains (bucket_of_key key) (below key)))

  of-item : (bucket w : ℕ) → bucket < 65536 → is_among (chains bucket) w ≡ true → IsOfItem state layout keep w
  of-item bucket w small among = ⊎_elim
      (λ (e : keep at-node.item ≡ true). record { item = at-node.item; listed = at-node.among; stays = e; loaded = q.loaded; here = there; record_is = q.record_is })
      (λ (e : keep at-node.item ≡ false).
      let gone : is_among (gone_nodes state layout keep) q.node ≡ true = subst (λ (n : ℕ). is_among (gone_nodes state layout keep) n ≡ true) at-node.is (groups.goes state layout keep k.numbers k.lies k.owners at-node.item at-node.among e) in
      absurd (let z : true ≡ false = sym (eq-eqb w q.loaded.contents (sym q.record_is)) ∙ k.out bucket w small among q.node q.loaded gone q.here in cc))
      (cases_Bool (keep at-node.item))
    where
      q : IsListedRecord state layout w
      q = k.lies.unchained bucket w small (k.chained bucket w small among)

      at-node : IsNodeOf layout state.uses q.node
      at-node = node-of layout state.uses q.node q.listed

      there : layout.at (layout.place at-node.item) ≡ Some q.loaded
      there = ap layout.at at-node.is ∙ q.here

  apart : (item : Item) → is_listed state item ≡ true → keep item ≡ true → is_among (gone_nodes state layout keep) (layout.place item) ≡ false
  apart item listed stays = groups.stay-apart state layout keep k.numbers k.lies k.owners (layout.place item) (groups.stays-in state layout keep k.numbers k.lies k.owners item listed stays)

  loads : (item : Item) (loaded : Loaded) → is_listed state item ≡ true → keep item ≡ true → layout.at (layout.place item) ≡ Some loaded → load (store_of image) (rule_of layout (layout.place item)) (layout.place item) ≡ Ok loaded
  loads item loaded listed stays here = k.holds.each (layout.place item) loaded here (apart item listed stays)

  -- ---- the chain can be searched

  few : (key : List ℕ) → length (chained_for (store_of image) key) ≤ 131072
  few key =
      let c : IsChain (store_of image) (bucket_of_key key) (chains (bucket_of_key key)) = k.holds.chains (bucket_of_key key) (below key) in
      let nodes : List ℕ = nodes_of layout (filter keep state.uses) in
      let all = no-more (map (λ (n : ℕ). contents_in (layout.at n)) nodes) (chains (bucket_of_key key)) (distinct-map file_and_block (chains (bucket_of_key key)) c.once) (λ w h.
      let q = of-item (bucket_of_key key) w (below key) h in
      let is : contents_in (layout.at (layout.place q.item)) ≡ w = contents-is (layout.at (layout.place q.item)) q.loaded q.here ∙ q.record_is in
      subst (λ (z : ℕ). is_among (map (λ (n : ℕ). contents_in (layout.at n)) nodes) z ≡ true) is (among-map (λ (n : ℕ). contents_in (layout.at n)) nodes (layout.place q.item) (groups.stays-in state layout keep k.numbers k.lies k.owners q.item q.listed q.stays))) in
      let most = k.list.whole.few in
      let same : length (chained_for (store_of image) key) ≡ length (chains (bucket_of_key key)) = ap (λ (ws : List ℕ). length ws) (chain-same key) in
      omega (arith, all, length-map nodes (λ (n : ℕ). contents_in (layout.at n)), most, same)
    where
      contents-is : (o : Option Loaded) (l : Loaded) → o ≡ Some l → contents_in o ≡ l.contents
      contents-is o l e = ap contents_in e

  key-there : (key : List ℕ) (w : ℕ) → is_among (chained_for (store_of image) key) w ≡ true → HasReadableKey w image
  key-there key w among =
      let q = of-item (bucket_of_key key) w (below key) (ap (λ (ws : List ℕ). is_among ws w) (sym (chain-same key)) ∙ among) in
      load-then (store_of image) (rule_of layout (layout.place q.item)) (layout.place q.item) q.loaded (loads q.item q.loaded q.listed q.stays q.here) (λ n e f.
      let place : n.contents ≡ w = sym f.facts.contents_is ∙ q.record_is in
      readable image w e q.loaded.key
      (ap (store_of image).entry (sym place) ∙ f.entry)
      (subst (λ (x : ℕ). is_key_length x e ≡ true) place f.facts.keyed.key_length)
      (subst (λ (x : ℕ). stored_key (store_of image) x e ≡ Some q.loaded.key) place f.facts.keyed.key))

  -- ---- what is found is the record of the item that its key says

  item-is : (other : Item) (loaded : Loaded) → is_listed state other ≡ true → keep other ≡ true → layout.at (layout.place other) ≡ Some loaded → said (is_part loaded) loaded.key ≡ other
  item-is other loaded there left is =
      sym (item-said loaded.key loaded.streams loaded.role (λ name index role. load-then (store_of image) (rule_of layout (layout.place other)) (layout.place other) loaded (loads other loaded there left is) (λ n e f. role-name e loaded.key loaded.streams name index (f.facts.role ∙ ap Some role))))
      ∙ item-of state layout k.lies.laid other loaded there is

  -- so where one is found by the name of a part, this is listed
  pub named-listed : (key : List ℕ) (name : Name) (entry : ℕ) (before : Option ℕ) → read_name key ≡ Some name → IsFound key true entry before image → is_listed state (part name.key name.part) ≡ true
  unfolding said
  named-listed key name entry before read f =
      let among : is_among (chains (bucket_of_key key)) entry ≡ true = ap (λ (ws : List ℕ). is_among ws entry) (sym (chain-same key)) ∙ standing-among (chained_for (store_of image) key) entry before f.prefix f.suffix f.stands in
      let q = of-item (bucket_of_key key) entry (below key) among in
      load-then (store_of image) (rule_of layout (layout.place q.item)) (layout.place q.item) q.loaded (loads q.item q.loaded q.listed q.stays q.here) (λ n e g.
      let place : n.contents ≡ entry = sym g.facts.contents_is ∙ q.record_is in
      let same : e ≡ f.has_key.fields = some_inj (sym g.entry ∙ ap (store_of image).entry place ∙ f.has_key.here) in
      let flag : is_part q.loaded ≡ true = sym (role-part e q.loaded.key q.loaded.streams q.loaded.role g.facts.role) ∙ ap (λ (x : RecordFields). x.flags == child) same ∙ f.has_key.flag in
      let key_is : q.loaded.key ≡ key = some_inj (sym g.facts.keyed.key ∙ ap (λ (w : ℕ). stored_key (store_of image) w e) place ∙ ap (λ (x : RecordFields). stored_key (store_of image) entry x) same ∙ f.has_key.key) in
      let item : part name.key name.part ≡ q.item = ap (λ (o : Option Name). option_map_or (λ (x : Name). part x.key x.part) o (main key)) (sym read) ∙ sym (ap (λ (b : Bool). said b q.loaded.key) flag ∙ ap (said true) key_is) ∙ item-is q.item q.loaded q.listed q.stays q.here in
      ap (is_listed state) item ∙ q.listed)

  -- ---- an item that isn't out is found

  module _ (item : Item) (was : Loaded) (listed : is_listed state item ≡ true) (stays : keep item ≡ true) (here : layout.at (layout.place item) ≡ Some was) where
    child-is : is_part was ≡ is_child_item item
    child-is = sym (child-said was.key was.streams was.role) ∙ ap is_child_item (item-of state layout k.lies.laid item was listed here)

    -- its record is in the chain, with its key
    has-key : HasKey (store_of image) was.key (is_child_item item) was.contents
    has-key = load-then (store_of image) (rule_of layout (layout.place item)) (layout.place item) was (loads item was listed stays here) (λ n e f. record {
      fields = e;
      here = ap (store_of image).entry f.facts.contents_is ∙ f.entry;
      hashed = eqb-true e.hash (hash was.key) f.facts.keyed.hashed;
      key = ap (λ (x : ℕ). stored_key (store_of image) x e) f.facts.contents_is ∙ f.facts.keyed.key;
      flag = role-part e was.key was.streams was.role f.facts.role ∙ child-is;
    })

    chained : is_among (chained_for (store_of image) was.key) was.contents ≡ true
    chained = ap (λ (ws : List ℕ). is_among ws was.contents) (chain-same was.key) ∙ k.holds.chained (layout.place item) was (is_among-node layout state.uses item listed) here (apart item listed stays)

    -- no other record in the chain has its key
    same-record : (entry : ℕ) (before : Option ℕ) → IsFound was.key (is_child_item item) entry before image → was.contents ≡ entry
    same-record entry before f =
        let among : is_among (chains (bucket_of_key was.key)) entry ≡ true = ap (λ (ws : List ℕ). is_among ws entry) (sym (chain-same was.key)) ∙ standing-among (chained_for (store_of image) was.key) entry before f.prefix f.suffix f.stands in
        let q = of-item (bucket_of_key was.key) entry (below was.key) among in
        load-then (store_of image) (rule_of layout (layout.place q.item)) (layout.place q.item) q.loaded (loads q.item q.loaded q.listed q.stays q.here) (λ n e g.
        let place : n.contents ≡ entry = sym g.facts.contents_is ∙ q.record_is in
        let same : e ≡ f.has_key.fields = some_inj (sym g.entry ∙ ap (store_of image).entry place ∙ f.has_key.here) in
        let flag : is_part q.loaded ≡ is_part was = sym (role-part e q.loaded.key q.loaded.streams q.loaded.role g.facts.role) ∙ ap (λ (x : RecordFields). x.flags == child) same ∙ f.has_key.flag ∙ sym child-is in
        let key_is : q.loaded.key ≡ was.key = some_inj (sym g.facts.keyed.key ∙ ap (λ (w : ℕ). stored_key (store_of image) w e) place ∙ ap (λ (x : RecordFields). stored_key (store_of image) entry x) same ∙ f.has_key.key) in
        let items : q.item ≡ item = sym (item-is q.item q.loaded q.listed q.stays q.here) ∙ ap (λ (b : Bool). said b q.loaded.key) flag ∙ ap (said (is_part was)) key_is ∙ item-is item was listed stays here in
        let loaded : q.loaded ≡ was = some_inj (sym q.here ∙ ap (λ (i : Item). layout.at (layout.place i)) items ∙ here) in
        sym (ap (λ (l : Loaded). l.contents) loaded) ∙ q.record_is)

    found-left : (answer : Option Found) → IsAnswer was.key (is_child_item item) answer image → IsFoundLeft state layout keep chains item was answer
    found-left None none = absurd (none was.contents chained has-key)
    found-left (Some found) f =
        let entry : was.contents ≡ found.entry = same-record found.entry found.before f in
        record {
          found = found;
          is = refl;
          entry_is = entry;
          lies = record {
            stays = stays;
            lies = record {
              listed = listed;
              here = here;
              prefix = f.prefix;
              suffix = f.suffix;
              stands = subst (λ (w : ℕ). StandsBehind (chains (bucket_of_key was.key)) w found.before f.prefix f.suffix) (sym entry) (subst (λ (ws : List ℕ). StandsBehind ws found.entry found.before f.prefix f.suffix) (chain-same was.key) f.stands);
            };
          };
        }

pub can-search : PartlyOutCanBeSearched
can-search state layout keep chains unlinked image key k = record {
  whole = subst (λ (ws : List ℕ). IsChain (store_of image) (bucket_of_key key) ws) (sym (chain-same state layout keep chains unlinked image k key)) (k.holds.chains (bucket_of_key key) (below state layout keep chains unlinked image k key));
  few = few state layout keep chains unlinked image k key;
  keys = λ w among. key-there state layout keep chains unlinked image k key w among;
}

pub left-found : LeftItemsAreFound
left-found state layout keep chains unlinked item was answer image k listed stays here is = found-left state layout keep chains unlinked image k item was listed stays here answer is

pub listed-found : ListedItemsAreFound
listed-found state layout unlinked item was answer image k listed here is =
    let f = left-found state layout (λ i. true) layout.chains unlinked item was answer image (kept-begin state layout unlinked image k) listed refl here is in
    record { found = f.found; is = f.is; entry_is = f.entry_is; lies = f.lies.lies }
