-- A new entry that is written, of a kept state, and its record, which can be linked.
use Rattle.std.proofs.Common.{◌≡◌, ◌≢◌, ℕ, ◌<◌, List, [], ◌∷◌, ◌++◌, length, map, refl, ap, sym, ◌∙◌, subst, lit<, arith, Bool, true, false, None, Ok, Option, Some, ⊎_elim}
use Rattle.std.specs.Prelude.{◌==◌}
use Rattle.std.proofs.lemmas.Bool.{cases_Bool, eq-eqb, eqb-true, or_left, or_right}
use Rattle.std.proofs.lemmas.Bool.Decides.{nat_tests}
use Rattle.std.proofs.lemmas.List.{length-map}
use Rattle.std.proofs.lemmas.Nat.{mod_below}
use Rattle.spec_image.specs.Image.{Image, Index, byte}
use Rattle.spec_image.proofs.Runs.{passes_end}
use Rattle.blk_model.specs.Holding.{owner}
use Rattle.blk_model.specs.Items.{main}
use Rattle.blk_model.specs.State.{State}
use Rattle.spec_format.specs.Address.{blocks_256, external, file_selector, first_block, kind_of, rankings}
use Rattle.spec_format.specs.BlockFiles.{is_among}
use Rattle.spec_format.specs.Claims.{BlockOf, Claim, claims_of, claims_of_all, has_claim, repeats}
use Rattle.spec_format.specs.Hash.{hash}
use Rattle.spec_format.specs.Headers.{bucket_of, this_id_of}
use Rattle.spec_format.specs.Records.{child, entry_is_sealed, entry_normal, node_is_sealed}
use Rattle.blk_addr.proofs.AddressFields.{block_count_above_0}
use Rattle.spec_folder.specs.Chains.{bucket_of_hash, bucket_at, chain, file_and_block}
use Rattle.spec_folder.specs.Entries.{stored_key}
use Rattle.spec_folder.specs.Footprint.{IsClear, IsFree, SameBut}
use Rattle.spec_folder.specs.Layout.{IsListedRecord, Layout, Represents, rule_of}
use Rattle.spec_folder.specs.ListView.{most_nodes}
use Rattle.spec_folder.specs.Loads.{Loaded, all_claims, is_part_role, load, record_claims, unchained_rule}
use Rattle.spec_folder.specs.Searches.{HasKey, IsWholeChain, bucket_of_key}
use Rattle.spec_folder.specs.ShownChanges.{ShowsTheSame}
use Rattle.spec_folder.specs.Sound.{words_of}
use Rattle.spec_folder.specs.View.{View, list_of, stands_as, store_of, view_of}
use Rattle.law_folder.proofs.chains.ChainWords.{same-file, same-first}
use Rattle.law_folder.proofs.chains.Searches.{found-live, searchable}
use Rattle.law_folder.proofs.claims.Allocations.{flat_map-append, repeats-head, words-claims}
use Rattle.law_folder.proofs.claims.ByteChanges.{block-claim}
use Rattle.law_folder.proofs.claims.ClaimLists.{claim-append, contents-claims}
use Rattle.law_folder.proofs.claims.Outside.{clear-at, clear-chain, load-outside, represents-outside}
use Rattle.law_folder.proofs.updates.StillShown.{standing-parts}
use Rattle.law_folder.proofs.walks.Loads.{load-then}
use Rattle.law_folder.proofs.walks.Shown.{node-is, role-part}
use Rattle.blk_disk.specs.declared.tables.BlockFiles.{BlockFiles}
use Rattle.blk_disk.specs.Tables.{Agrees}
use Rattle.blk_entry.specs.declared.writing.NewEntry.{NewEntry}
use Rattle.blk_entry.specs.Writing.{AreWords, FitsKey, IsShownNew, IsWritten, WritesEntryInProgress, loaded_new, new_node, new_record}
use Rattle.blk_chain.specs.Linking.{CanBeLinked, chained_with}
use Rattle.law_state.specs.Changes.{ChangesOnly}
use Rattle.law_state.specs.Keeping.{KeepsUncounted}
use Rattle.law_state.specs.NewEntryLaws.{IsInsertDone, IsNewEntryOf}
use Rattle.law_state.proofs.Free.{standing-at}
use Rattle.law_state.proofs.NewEntries.{bucket-is}
use Rattle.blk_object.specs.KeptEntries.{WrittenEntriesAreNew}
use Rattle.blk_object.specs.KeptMarks.{NewRecordsCanBeLinked}
use Rattle.blk_object.proofs.KeptEntries.{change-own, places-spare}

-- ---- first blocks

no-zero : (w kind : ℕ) → kind_of w ≡ kind → kind ≢ external → w ≢ 0
unfolding kind_of
no-zero w kind is apart e = apart (sym is ∙ ap kind_of e)

first-own : (w kind : ℕ) → kind_of w ≡ kind → kind ≢ external → has_claim (claims_of w) (BlockOf (file_selector w) (first_block w)) ≡ true
first-own w kind is apart = block-claim w (first_block w) (no-zero w kind is apart) (λ e. apart (sym is ∙ e)) (omega arith) (let above = block_count_above_0 w in omega (arith, above))

none-shares : (xs : List ℕ) (y : ℕ) → ((x : ℕ) → is_among xs x ≡ true → file_and_block x ≢ y) → is_among (map file_and_block xs) y ≡ false
none-shares [] y apart = refl
none-shares (x ∷ xs) y apart =
    let first : (file_and_block x == y) ≡ false = ⊎_elim
    (λ (e : (file_and_block x == y) ≡ true). absurd (apart x (or_left (x == x) (is_among xs x) (eq-eqb x x refl)) (eqb-true (file_and_block x) y e)))
    (λ (e : (file_and_block x == y) ≡ false). e)
    (cases_Bool (file_and_block x == y)) in
    rw first (none-shares xs y (λ z among. apart z (or_right (x == z) (is_among xs z) among)))

-- ---- checksums

pub new-node_sealed : (new : NewEntry) (moment : ℕ) → node_is_sealed (new_node new moment) ≡ true
unfolding node_is_sealed new_node
new-node_sealed new moment = eq-eqb _ _ refl

new-record_sealed : (new : NewEntry) (key : List ℕ) (moment : ℕ) → entry_is_sealed (new_record new key moment) ≡ true
unfolding entry_is_sealed new_record
new-record_sealed new key moment = eq-eqb _ _ refl

-- ---- a new entry

module _ (files : BlockFiles) (new : NewEntry) (key : List ℕ) (moment : ℕ) (state : State) (layout : Layout) (unlinked : List ℕ) (from image : Image) (fits : FitsKey files new key) (words : AreWords new) (agrees : Agrees files from)
    (k : KeepsUncounted state layout (words_of (loaded_new new key) ++ unlinked) from) (m : WritesEntryInProgress new (length key) from image) where
  abbrev l : Loaded
  l = loaded_new new key

  abbrev touched : Claim → Bool
  touched = has_claim (all_claims l)

  change : ChangesOnly touched from image
  change = change-own files new key from image fits words agrees m

  node-own : (claim : Claim) → has_claim (claims_of new.node) claim ≡ true → touched claim ≡ true
  unfolding all_claims
  node-own claim e = claim-append (claims_of new.node) (record_claims l) claim ∙ or_left (has_claim (claims_of new.node) claim) (has_claim (record_claims l) claim) e

  nobodys : (claim : Claim) → touched claim ≡ true → layout.owner claim ≡ None
  nobodys claim has = k.unlinked_words.free claim (ap (λ (cs : List Claim). has_claim cs claim) (flat_map-append claims_of (words_of l) unlinked) ∙ claim-append (claims_of_all (words_of l)) (claims_of_all unlinked) claim
      ∙ or_left (has_claim (claims_of_all (words_of l)) claim) (has_claim (claims_of_all unlinked) claim) (ap (λ (cs : List Claim). has_claim cs claim) (words-claims l) ∙ has))

  free : IsFree touched layout
  free claim node is = ⊎_elim
      (λ (e : touched claim ≡ true). absurd (let z : ◌≡◌ {A = Option ℕ} None (Some node) = sym (nobodys claim e) ∙ is in cc))
      (λ (e : touched claim ≡ false). e)
      (cases_Bool (touched claim))

  once : repeats (all_claims l) ≡ false
  once = ap repeats (sym (words-claims l)) ∙ repeats-head (claims_of_all (words_of l)) (claims_of_all unlinked) (ap repeats (sym (flat_map-append claims_of (words_of l) unlinked)) ∙ k.unlinked_words.single)

  -- no clear word shares the first block of the node, or of the record
  not-clear : (w v kind : ℕ) → kind_of w ≡ kind → kind ≢ external → ((claim : Claim) → has_claim (claims_of v) claim ≡ true → touched claim ≡ true) → file_and_block w ≡ file_and_block v → kind_of v ≡ kind → IsClear touched w → ⊥
  not-clear w v kind is apart own same also clear =
      let mine : touched (BlockOf (file_selector v) (first_block v)) ≡ true = own (BlockOf (file_selector v) (first_block v)) (first-own v kind also apart) in
      let its : touched (BlockOf (file_selector w) (first_block w)) ≡ false = clear (BlockOf (file_selector w) (first_block w)) (first-own w kind is apart) in
      let f : file_selector w ≡ file_selector v = same-file w v same in
      let b : first_block w ≡ first_block v = same-first w v same in
      let path : BlockOf (file_selector w) (first_block w) ≡ BlockOf (file_selector v) (first_block v) = λ i. BlockOf (f i) (b i) in
      let z : true ≡ false = sym mine ∙ ap touched (sym path) ∙ its in cc

  pub nobody : layout.at new.node ≡ None
  nobody = go (layout.at new.node) refl where
    go : (o : Option Loaded) → layout.at new.node ≡ o → o ≡ None
    go None e = refl
    go (Some other) e =
        let named : other.node ≡ new.node = node-is (store_of from) (rule_of layout new.node) new.node other (k.represents.holds.shows.each new.node other e) in
        absurd (not-clear new.node new.node rankings fits.node_kind (λ z. let y : ◌≡◌ {A = ℕ} 1 0 = z in cc) node-own refl fits.node_kind
        (subst (IsClear touched) named (clear-at touched state layout free k.represents.holds.lies new.node other e).node))

  pub fresh : (b : ℕ) → b < 65536 → is_among (map file_and_block (layout.chains b)) (file_and_block new.entry) ≡ false
  fresh b small = none-shares (layout.chains b) (file_and_block new.entry) (λ w among same.
      let q : IsListedRecord state layout w = k.represents.holds.lies.unchained b w small among in
      let kind : kind_of w ≡ blocks_256 = (standing-parts from blocks_256 w (subst (λ (c : ℕ). stands_as from blocks_256 c ≡ true) q.record_is (standing-at from state layout k.represents q.node q.loaded q.here).record_)).1 in
      not-clear w new.entry blocks_256 kind (λ z. let y : ◌≡◌ {A = ℕ} 2 0 = z in cc) (contents-claims l) same fits.entry_kind (clear-chain touched state layout free k.represents.holds.lies b w small among))

  same-table : (b : ℕ) → (store_of image).table b ≡ (store_of from).table b
  unfolding store_of
  same-table b = ap (λ (f : ℕ → ℕ). bucket_of f b) (λ j i. m.outside.bytes Index i ((places-spare new (length key)).index i) j)

  is-new : length state.uses < most_nodes → owner state (main key) ≡ None → new.dirty ≡ this_id_of (byte from Index) → new.next ≡ (store_of from).table (bucket_of_key key) → IsWritten new key moment image → IsShownNew new key moment image
      → load (store_of image) (unchained_rule entry_normal) new.node ≡ Ok l → IsNewEntryOf state layout key l image
  is-new few missing mark next w s loads = record {
    entry = record {
      loads = loads;
      key_is = refl;
      role = refl;
      streams = refl;
      dirty = let some : new.dirty ≢ 0 = (λ e. k.session.id (sym mark ∙ e)) in grind (arith, nat_tests);
      nobody = nobody;
      free = nobodys;
      single = once;
    };
    prefix = record { follows = s.chain_next ∙ next ∙ sym (same-table (bucket_of_key key)); fresh = fresh (bucket_of_key key) (mod_below (hash key) 65536 (lit< tt)) };
    good = s.checks;
    sealed = record { node = ap node_is_sealed w.node ∙ new-node_sealed new moment; entry = ap entry_is_sealed w.entry ∙ new-record_sealed new key moment };
    mark = mark ∙ sym change.session.id;
    few = subst (λ (n : ℕ). n < most_nodes) (sym (length-map state.uses layout.place)) few;
    missing = missing;
  }

pub written-new : WrittenEntriesAreNew
written-new files new key moment state layout unlinked old now fits words agrees kept few missing mark next passes written shown loads from there image is =
    is-new files new key moment state layout unlinked from image fits words (agrees from there) (kept from there) (passes_end (passes from there) image is) few missing (mark from there) (next from there) (written image is) (shown image is) (loads image is)

-- ---- its record can be linked

module _ (state : State) (layout : Layout) (unlinked key : List ℕ) (l : Loaded) (from between : Image) (k : KeepsUncounted state layout unlinked from) (n : IsNewEntryOf state layout key l from) (done : IsInsertDone from l.node between) where
  -- what is shown between, with the list as it was before
  abbrev mixed : View
  mixed = record { list = list_of from; store = store_of between }

  same : ShowsTheSame (store_of from) (store_of between)
  same = done.partly.shown.store

  same-but : SameBut (λ claim. false) (view_of from) mixed
  same-but = record {
    links = record { head = refl; tail = refl; transaction = refl; checks = λ w c. refl; next = λ w c. refl; prev = λ w c. refl };
    store = same.store;
    table = same.table;
  }

  still : Represents mixed state layout
  still = represents-outside (λ claim. false) (view_of from) mixed state layout same-but (λ claim node is. refl) k.represents

  loads : load (store_of between) (unchained_rule entry_normal) l.node ≡ Ok l
  loads = load-outside (λ claim. false) (store_of from) (store_of between) same.store (unchained_rule entry_normal) l.node l refl n.entry.loads (record { node = λ c h. refl; contents = λ c h. refl; others = λ i c h. refl })

  bucket : bucket_at between l.contents ≡ bucket_of_hash (hash l.key)
  bucket = bucket-is state layout unlinked key l from k n between same

  bucket-of : bucket_at between l.contents ≡ bucket_of_key key
  bucket-of = bucket ∙ ap bucket_of_key n.entry.key_is

  follows : (store_of between).chain_next l.contents ≡ (store_of between).table (bucket_at between l.contents)
  follows = sym (same.store.chain_next l.contents (λ claim has. refl)) ∙ n.prefix.follows ∙ same.table (bucket_of_hash (hash l.key)) ∙ ap (store_of between).table (sym bucket)

  no-other : (w : ℕ) → is_among (chained_with between l.contents) w ≡ true → HasKey (store_of between) key false w → ⊥
  no-other w among named =
      let live = found-live mixed state layout still key w (subst (λ (b : ℕ). is_among (chain (store_of between) b).reached w ≡ true) bucket-of among) named in
      let z : ◌≡◌ {A = Option ℕ} (Some live.number) None = sym live.live ∙ n.missing in cc

  can-be : CanBeLinked l.contents between
  can-be = load-then (store_of between) (unchained_rule entry_normal) l.node l loads (λ nf e f.
      let plain : (e.flags == child) ≡ false = role-part e l.key l.streams l.role f.facts.role ∙ ap is_part_role n.entry.role in
      let here : (store_of between).entry l.contents ≡ Some e = ap (store_of between).entry f.facts.contents_is ∙ f.entry in
      record {
        fields = e;
        here = here;
        good = f.checks;
        next = follows;
        key = key;
        has_key = record {
          fields = e;
          here = here;
          hashed = eqb-true e.hash (hash l.key) f.facts.keyed.hashed ∙ ap hash n.entry.key_is;
          key = ap (λ (x : ℕ). stored_key (store_of between) x e) f.facts.contents_is ∙ f.facts.keyed.key ∙ ap Some n.entry.key_is;
          flag = refl;
        };
        whole = subst (λ (b : ℕ). IsWholeChain (store_of between) b) (sym bucket-of) (searchable mixed state layout still key).whole;
        fresh = λ w among named. no-other w among (subst (λ (flag : Bool). HasKey (store_of between) key flag w) plain named);
      })

pub new-can-be-linked : NewRecordsCanBeLinked
new-can-be-linked state layout unlinked key l from between k n done = can-be state layout unlinked key l from between k n done
