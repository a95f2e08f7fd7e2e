-- A part that is listed: while its parent gets its bit, and what is kept then.
use Rattle.std.proofs.Common.{◌≡◌, ◌≢◌, ◌⊎◌, inl, inr, ⊎_elim, ℕ, ◌+◌, ◌<◌, ◌≤◌, List, ◌∷◌, ◌++◌, Bool, true, false, Option, None, Some, Ok, refl, sym, ◌∙◌, ap, subst, arith}
use Rattle.std.specs.Prelude.{◌==◌, ◌&&◌, ◌||◌, filter, not, slice_index}
use Rattle.std.proofs.lemmas.Bool.{and_parts, cases_Bool, eq-eqb, eqb-true, or_left, or_right}
use Rattle.std.proofs.lemmas.Bool.Decides.{nat_tests}
use Rattle.spec_image.specs.Footprint.{Footprint, SameOutside, range}
use Rattle.spec_image.specs.Image.{Block, Image, Index, byte, length_of}
use Rattle.spec_image.proofs.Footprints.{outside-refl}
use Rattle.spec_image.proofs.Runs.{some_inj}
use Rattle.blk_model.specs.Holding.{rest}
use Rattle.blk_model.specs.Items.{Row, main, part}
use Rattle.blk_model.specs.State.{Object, State}
use Rattle.spec_format.specs.Address.{byte_size, external, file_selector, is_address, kind_of, place}
use Rattle.spec_format.specs.BlockFiles.{is_among, stands_in, stands_in_blocks}
use Rattle.spec_format.specs.Claims.{Claim, claims_of, has_claim, repeats}
use Rattle.spec_format.specs.Hash.{hash}
use Rattle.spec_format.specs.Headers.{table_length}
use Rattle.spec_format.specs.Records.{entry_is_sealed, entry_normal, node_is_sealed}
use Rattle.spec_format.specs.SparseIndex.{ParentIndex}
use Rattle.spec_format.specs.Standing.{stands}
use Rattle.spec_format.specs.Storage.{is_storage, kind_for}
use Rattle.spec_folder.specs.Chains.{bucket_of_hash}
use Rattle.spec_folder.specs.Creation.{with_first}
use Rattle.spec_folder.specs.Entries.{IsParent}
use Rattle.spec_folder.specs.Footprint.{IsClear, SameBut}
use Rattle.spec_folder.specs.Layout.{IsLayoutOf, IsListedRecord, IsPlacedAt, Layout, order, rule_of}
use Rattle.spec_folder.specs.ListImages.{HasListAtRest}
use Rattle.spec_folder.specs.ListView.{put}
use Rattle.spec_folder.specs.Loads.{Loaded, all_claims, load, record_claims}
use Rattle.spec_folder.specs.Sound.{AreSealed, words_of}
use Rattle.spec_folder.specs.View.{entry_at, list_of, node_at, store_of, view_of}
use Rattle.law_folder.proofs.claims.BlockBytes.{storage_inside}
use Rattle.law_folder.proofs.claims.ByteChanges.{agreeing-views, entry-same, node-same}
use Rattle.law_folder.proofs.claims.ClaimLists.{claim-append}
use Rattle.law_folder.proofs.claims.Outside.{index-claims, list-outside}
use Rattle.law_folder.proofs.states.Changing.{at-elsewhere, at-itself}
use Rattle.law_folder.proofs.states.Laid.{IsNodeOf, node-of}
use Rattle.law_folder.proofs.walks.Shown.{node-is}
use Rattle.blk_disk.specs.declared.tables.BlockFiles.{BlockFiles}
use Rattle.blk_disk.specs.Tables.{Agrees, stands_among}
use Rattle.blk_disk.proofs.Ranges.{stands_agree}
use Rattle.blk_entry.specs.Keys.{data_file, data_range, data_start, stores}
use Rattle.blk_stream.specs.Streams.{address_word}
use Rattle.law_state.specs.Changes.{ChangesOnly, Finds, SameCounters, SameSession}
use Rattle.law_state.specs.Keeping.{KeepsUncounted}
use Rattle.law_state.specs.NewPartLaws.{IsOfParent, with_new_part}
use Rattle.law_state.specs.NewPartsKept.{IsMakingPart, IsPartMade, KeepsUnsettled}
use Rattle.law_state.proofs.Free.{standing-loaded}
use Rattle.law_state.proofs.Leaving.{leaves-then}
use Rattle.law_state.proofs.NewParts as parts
use Rattle.law_state.proofs.NewPartsKept.{making-finds, parts-kept}
use Rattle.law_state.proofs.Writes.{block-writes}
use Rattle.blk_object.proofs.MakingStored.{counters-then, index-counters}
use Rattle.blk_object.proofs.MakingTaken.{session-then}
use Rattle.blk_ranges.specs.ParentMaps.{has_part_bit}
use Rattle.blk_sparse.specs.NewParts.{HasBitNow, IsBeingNoted, IsBitNoted, IsPartListed, IsPartToBeListed, place_of_bit, with_noted}
use Rattle.blk_sparse.proofs.NewBits.{address-is, parent-place, sees}
use Rattle.blk_sparse.proofs.NewSeen.{clear-at}

-- ---- the place of an index

-- it is one of blocks
pub of-blocks : (files : BlockFiles) (w : ℕ) → stores files 8256 w ≡ true → kind_of w ≡ 4
unfolding stores is_storage kind_for
of-blocks files w is =
    let s = (and_parts (is_storage 8256 w) _ is).0 in
    eqb-true (kind_of w) 4 (and_parts (is_address w) (kind_of w == 4) (and_parts (is_address w && (kind_of w == 4)) _ s).0).1

pub no-file : (files : BlockFiles) (w : ℕ) → stores files 8256 w ≡ true → kind_of w ≢ external
no-file files w is e = let z : ◌≡◌ {A = ℕ} 4 0 = sym (of-blocks files w is) ∙ e in cc

pub address-of : (files : BlockFiles) (w : ℕ) → stores files 8256 w ≡ true → is_address w ≡ true
unfolding stores is_storage kind_for
address-of files w is =
    let s = (and_parts (is_storage 8256 w) _ is).0 in
    (and_parts (is_address w) (kind_of w == 4) (and_parts (is_address w && (kind_of w == 4)) _ s).0).0

stands-there : (files : BlockFiles) (image : Image) (w : ℕ) → stores files 8256 w ≡ true → Agrees files image → stands_in image w ≡ true
unfolding stands stores
stands-there files image w is agrees =
    let kind = no-file files w is in
    let e : (kind_of w == external) ≡ false = grind (arith, nat_tests) in
    let both : ((kind_of w == external) || stands_among files w) ≡ true = (and_parts (is_storage 8256 w) _ is).1 in
    let among : stands_among files w ≡ true = rw e at both in
    let s : stands_in_blocks image w ≡ true = sym (stands_agree files image w agrees) ∙ among in
    let address = address-of files w is in
    rw (address, e) s

pub has-room : (files : BlockFiles) (w : ℕ) → stores files 8256 w ≡ true → 8256 ≤ byte_size w
unfolding stores
has-room files w is = storage_inside 8256 w (and_parts (is_storage 8256 w) _ is).0 (no-file files w is)

in-its-blocks : (w at count : ℕ) → kind_of w ≢ external → data_range w at count ≡ range (Block (file_selector w)) (place w + at) count
unfolding data_range data_file data_start
in-its-blocks w at count kind = let e : (kind_of w == external) ≡ false = grind (arith, nat_tests) in rw e refl

-- a byte of it that is written changes its blocks alone
byte-change : (files : BlockFiles) (from image : Image) (w n : ℕ) → n < 65536 → stores files 8256 w ≡ true → Agrees files from → SameOutside (data_range w (place_of_bit n) 1) from image → ChangesOnly (has_claim (claims_of w)) from image
byte-change files from image w n small is agrees same =
    let room = has-room files w is in
    block-writes from image w (place w + place_of_bit n) 1 (stands-there files from w is agrees) (no-file files w is) (omega arith) (omega (arith, room, small)) (subst (λ (F : Footprint). SameOutside F from image) (in-its-blocks w (place_of_bit n) 1 (no-file files w is)) same)

-- and no counter
byte-index : (w at : ℕ) (from image : Image) → kind_of w ≢ external → SameOutside (data_range w at 1) from image → (i : ℕ) → byte image Index i ≡ byte from Index i
byte-index w at from image kind same i = (subst (λ (F : Footprint). SameOutside F from image) (in-its-blocks w at 1 kind) same).bytes Index i refl

-- nor the length of the index file
pub byte-lengths : (w at : ℕ) (from image : Image) → kind_of w ≢ external → SameOutside (data_range w at 1) from image → length_of image Index ≡ length_of from Index
byte-lengths w at from image kind same = (subst (λ (F : Footprint). SameOutside F from image) (in-its-blocks w at 1 kind) same).lengths Index refl

-- ---- what the index of the parent shares nothing with

module _ (state : State) (objects : List (Option Object)) (layout : Layout) (unlinked key : List ℕ) (n : ℕ) (was seen l : Loaded) (from mid : Image) (t : IsPartToBeListed state objects layout unlinked key n was seen l from) (g : IsPartListed state layout key n was seen l from mid) where
  abbrev p : ℕ
  p = layout.place (main key)

  abbrev touched : Claim → Bool
  touched = has_claim (claims_of (slice_index was.others 3))

  abbrev chains : ℕ → List ℕ
  chains = (with_new_part layout key n seen l).chains

  lies : IsLayoutOf state layout
  lies = t.kept.represents.holds.lies

  single : repeats (all_claims was) ≡ false
  single = lies.single p was t.written.at_parent

  node-was : was.node ≡ layout.place (main key)
  node-was = node-is (store_of mid) (rule_of layout p) p was g.parent

  own : (c : Claim) → has_claim (claims_of (slice_index was.others 3)) c ≡ true → layout.owner c ≡ Some (layout.place (main key))
  unfolding all_claims record_claims
  own c e = lies.own p was c t.written.at_parent
      (claim-append (claims_of was.node) _ c ∙ or_right (has_claim (claims_of was.node) c) _
      (claim-append (claims_of was.contents) _ c ∙ or_right (has_claim (claims_of was.contents) c) _ (index-claims was.others 3 c e)))

  clear-of : (c : Claim) (o : Option ℕ) → layout.owner c ≡ o → (o ≡ Some (layout.place (main key)) → ⊥) → has_claim (claims_of (slice_index was.others 3)) c ≡ false
  clear-of c o is none = ⊎_elim
      (λ (e : has_claim (claims_of (slice_index was.others 3)) c ≡ true). absurd (none (sym is ∙ own c e)))
      (λ (e : has_claim (claims_of (slice_index was.others 3)) c ≡ false). e)
      (cases_Bool (has_claim (claims_of (slice_index was.others 3)) c))

  part-clear : (c : Claim) → has_claim (all_claims l) c ≡ true → has_claim (claims_of (slice_index was.others 3)) c ≡ false
  part-clear c has = clear-of c None (t.written.new.free c has) (λ e. let z : ◌≡◌ {A = Option ℕ} None (Some (layout.place (main key))) = e in cc)

  other-clear : (node : ℕ) (other : Loaded) → layout.at node ≡ Some other → (layout.place (main key) == node) ≡ false → (c : Claim) → has_claim (all_claims other) c ≡ true → has_claim (claims_of (slice_index was.others 3)) c ≡ false
  other-clear node other here apart c has = clear-of c (Some node) (lies.own node other c here has) (λ e.
      let same : node ≡ layout.place (main key) = some_inj e in
      let z : true ≡ false = sym (eq-eqb (layout.place (main key)) node (sym same)) ∙ apart in cc)

  node-claims : (other : Loaded) (c : Claim) → has_claim (claims_of other.node) c ≡ true → has_claim (all_claims other) c ≡ true
  unfolding all_claims
  node-claims other c e = claim-append (claims_of other.node) _ c ∙ or_left (has_claim (claims_of other.node) c) _ e

  record-claims : (other : Loaded) (c : Claim) → has_claim (claims_of other.contents) c ≡ true → has_claim (all_claims other) c ≡ true
  unfolding all_claims record_claims
  record-claims other c e = claim-append (claims_of other.node) _ c ∙ or_right (has_claim (claims_of other.node) c) _ (claim-append (claims_of other.contents) _ c ∙ or_left (has_claim (claims_of other.contents) c) _ e)

  -- no node and no record
  record AreApart (other : Loaded) : Type 0 where
    node : IsClear (has_claim (claims_of (slice_index was.others 3))) other.node
    contents : IsClear (has_claim (claims_of (slice_index was.others 3))) other.contents

  was-apart : AreApart was
  was-apart = record { node = clear-at was single 0 (λ h. omega (arith, h)); contents = clear-at was single 1 (λ h. omega (arith, h)) }

  part-apart : AreApart l
  part-apart = record { node = λ c e. part-clear c (node-claims l c e); contents = λ c e. part-clear c (record-claims l c e) }

  any-apart : (node : ℕ) (other : Loaded) → layout.at node ≡ Some other → AreApart other
  any-apart node other here = ⊎_elim
      (λ (e : (layout.place (main key) == node) ≡ true). subst AreApart (some_inj (sym t.written.at_parent ∙ ap layout.at (eqb-true (layout.place (main key)) node e) ∙ here)) was-apart)
      (λ (e : (layout.place (main key) == node) ≡ false). record { node = λ c has. other-clear node other here e c (node-claims other c has); contents = λ c has. other-clear node other here e c (record-claims other c has) })
      (cases_Bool (layout.place (main key) == node))

  old-chain : (bucket contents : ℕ) → bucket < table_length → is_among (layout.chains bucket) contents ≡ true → IsClear (has_claim (claims_of (slice_index was.others 3))) contents
  old-chain bucket contents small among =
      let q : IsListedRecord state layout contents = lies.unchained bucket contents small among in
      subst (IsClear (has_claim (claims_of (slice_index was.others 3)))) q.record_is (any-apart q.node q.loaded q.here).contents

  new-chain : (bucket contents : ℕ) → bucket < table_length → is_among ((with_new_part layout key n seen l).chains bucket) contents ≡ true → IsClear (has_claim (claims_of (slice_index was.others 3))) contents
  new-chain bucket contents small among = ⊎_elim
      (λ (e : (bucket_of_hash (hash l.key) == bucket) ≡ true).
      let same : bucket_of_hash (hash l.key) ≡ bucket = eqb-true (bucket_of_hash (hash l.key)) bucket e in
      let there : is_among (l.contents ∷ layout.chains (bucket_of_hash (hash l.key))) contents ≡ true =
      ap (λ (xs : List ℕ). is_among xs contents) (sym (at-itself layout.chains (bucket_of_hash (hash l.key)) (l.contents ∷ layout.chains (bucket_of_hash (hash l.key))))) ∙ ap (λ (b : ℕ). is_among (put layout.chains (bucket_of_hash (hash l.key)) (l.contents ∷ layout.chains (bucket_of_hash (hash l.key))) b) contents) same ∙ among in
      first (l.contents == contents) refl (subst (λ (b : ℕ). b < table_length) (sym same) small) there)
      (λ (e : (bucket_of_hash (hash l.key) == bucket) ≡ false). old-chain bucket contents small (ap (λ (xs : List ℕ). is_among xs contents) (sym (at-elsewhere layout.chains (bucket_of_hash (hash l.key)) (l.contents ∷ layout.chains (bucket_of_hash (hash l.key))) bucket e)) ∙ among))
      (cases_Bool (bucket_of_hash (hash l.key) == bucket))
    where
      first : (b : Bool) → (l.contents == contents) ≡ b → bucket_of_hash (hash l.key) < table_length → (b || is_among (layout.chains (bucket_of_hash (hash l.key))) contents) ≡ true → IsClear (has_claim (claims_of (slice_index was.others 3))) contents
      first true e low h = subst (IsClear (has_claim (claims_of (slice_index was.others 3)))) (eqb-true l.contents contents e) part-apart.contents
      first false e low h = old-chain (bucket_of_hash (hash l.key)) contents low h

  of-parent : IsOfParent (has_claim (claims_of (slice_index was.others 3))) layout key l (with_new_part layout key n seen l).chains
  of-parent = record {
    others = λ c other owner apart. clear-of c (Some other) owner (λ e. let same : other ≡ layout.place (main key) = some_inj e in let z : true ≡ false = sym (eq-eqb (layout.place (main key)) other (sym same)) ∙ apart in cc);
    part_clear = part-clear;
    node_clear = subst (IsClear (has_claim (claims_of (slice_index was.others 3)))) node-was was-apart.node;
    chains_clear = new-chain;
  }

  nodes-clear : (w : ℕ) → is_among (l.node ∷ order state layout) w ≡ true → IsClear (has_claim (claims_of (slice_index was.others 3))) w
  nodes-clear w among = first (l.node == w) refl among where
    first : (b : Bool) → (l.node == w) ≡ b → (b || is_among (order state layout) w) ≡ true → IsClear (has_claim (claims_of (slice_index was.others 3))) w
    first true e h = subst (IsClear (has_claim (claims_of (slice_index was.others 3)))) (eqb-true l.node w e) part-apart.node
    first false e h =
        let k : IsNodeOf layout state.uses w = node-of layout state.uses w h in
        let q : IsPlacedAt state layout k.item = lies.laid k.item k.among in
        let named : q.loaded.node ≡ w = node-is (store_of from) (rule_of layout (layout.place k.item)) (layout.place k.item) q.loaded (t.kept.represents.holds.shows.each (layout.place k.item) q.loaded q.here) ∙ k.is in
        subst (IsClear (has_claim (claims_of (slice_index was.others 3)))) named (any-apart (layout.place k.item) q.loaded q.here).node

  -- ---- while it changes

  module _ (image : Image) (change : ChangesOnly (has_claim (claims_of (slice_index was.others 3))) mid image) where
    views : SameBut (has_claim (claims_of (slice_index was.others 3))) (view_of mid) (view_of image)
    views = agreeing-views (has_claim (claims_of (slice_index was.others 3))) mid image change.agree

    list-there : HasListAtRest (l.node ∷ order state layout) image
    list-there = record {
      whole = list-outside (has_claim (claims_of (slice_index was.others 3))) (list_of mid) (list_of image) (l.node ∷ order state layout) views.links nodes-clear g.making.list.whole;
      idle = sym views.links.transaction ∙ g.making.list.idle;
    }

    making : IsMakingPart state layout key l (with_new_part layout key n seen l).chains image
    making = record {
      sound = change.well_formed.sound g.making.sound;
      list = list-there;
      others = parts.parents-data-may-change (view_of from) state objects layout key n was seen l t.written (store_of mid) (store_of image) chains g.making.others (has_claim (claims_of (slice_index was.others 3))) views.store views.table of-parent;
    }

    pub change-finds : Finds (rest state) image
    change-finds = subst (λ (rows : List Row). Finds rows image) t.same_rest (making-finds state objects layout (words_of l ++ unlinked) key n was seen l chains from image t.kept t.written making)

    -- checksums stay
    still-sealed : (layout_so : Layout) (node : ℕ) (other : Loaded) → load (store_of mid) (rule_of layout_so node) node ≡ Ok other → AreApart other → AreSealed mid other → AreSealed image other
    still-sealed layout_so node other loads apart sealed =
        let st = standing-loaded mid layout_so node other loads in
        record {
          node = ap node_is_sealed (node-same (has_claim (claims_of (slice_index was.others 3))) mid image change.agree other.node st.node apart.node) ∙ sealed.node;
          entry = ap entry_is_sealed (entry-same (has_claim (claims_of (slice_index was.others 3))) mid image change.agree other.contents st.record_ apart.contents) ∙ sealed.entry;
        }

    part-still : AreSealed image l
    part-still = still-sealed (record layout { state = λ w. entry_normal }) l.node l g.making.others.part_loads part-apart g.part_sealed

    was-still : AreSealed image was
    was-still = still-sealed layout p was g.parent was-apart (g.sealed p was t.written.at_parent)

    all-still : (node : ℕ) (other : Loaded) → layout.at node ≡ Some other → AreSealed image other
    all-still node other here = ⊎_elim
        (λ (e : (layout.place (main key) == node) ≡ true). subst (AreSealed image) (some_inj (sym t.written.at_parent ∙ ap layout.at (eqb-true (layout.place (main key)) node e) ∙ here)) was-still)
        (λ (e : (layout.place (main key) == node) ≡ false).
        let apart : (l.node == node) ≡ false = not-part node other here in
        let out : ((l.node == node) || (layout.place (main key) == node)) ≡ false = rw (apart, e) refl in
        still-sealed layout node other (g.making.others.others node other here out) (any-apart node other here) (g.sealed node other here))
        (cases_Bool (layout.place (main key) == node))
      where
        not-part : (node : ℕ) (other : Loaded) → layout.at node ≡ Some other → (l.node == node) ≡ false
        not-part node other here = ⊎_elim
            (λ (e : (l.node == node) ≡ true).
            let same : l.node ≡ node = eqb-true l.node node e in
            let none : put layout.at (layout.place (main key)) (Some seen) l.node ≡ None = t.written.new.nobody in
            let there : put layout.at (layout.place (main key)) (Some seen) l.node ≡ layout.at l.node = at-elsewhere layout.at (layout.place (main key)) (Some seen) l.node (parent-apart (layout.place (main key) == l.node) refl) in
            absurd (let z : ◌≡◌ {A = Option Loaded} None (Some other) = sym none ∙ there ∙ ap layout.at same ∙ here in cc))
            (λ (e : (l.node == node) ≡ false). e)
            (cases_Bool (l.node == node))
          where
            parent-apart : (b : Bool) → (layout.place (main key) == l.node) ≡ b → (layout.place (main key) == l.node) ≡ false
            parent-apart true e = absurd (let z : true ≡ false = sym (eq-eqb l.node (layout.place (main key)) (sym (eqb-true (layout.place (main key)) l.node e))) ∙ parts.apart (view_of from) state objects layout key n was seen l t.written in cc)
            parent-apart false e = e

    -- ---- and in the end

    module _ (loads : load (store_of image) (rule_of layout (layout.place (main key))) (layout.place (main key)) ≡ Ok seen) (node_same : seen.node ≡ was.node) (contents_same : seen.contents ≡ was.contents) (others_same : seen.others ≡ was.others) (loose : KeepsUnsettled state objects) where
      same-words : words_of seen ≡ words_of was
      same-words = ap (λ (ws : List ℕ). filter (λ w. not (w == 0)) ws) (λ j. node_same j ∷ contents_same j ∷ others_same j)

      made : IsPartMade state layout key n was seen l from image
      made = record {
        leaves = leaves-then from mid image g.leaves (record { headers = change.headers; session = change.session; well_formed = change.well_formed });
        list = list-there;
        others = making.others;
        sees = loads;
        words = same-words;
        part_sealed = part-still;
        parent_sealed = record { node = subst (λ (w : ℕ). node_is_sealed (node_at image w) ≡ true) (sym node_same) was-still.node; entry = subst (λ (w : ℕ). entry_is_sealed (entry_at image w) ≡ true) (sym contents_same) was-still.entry };
        sealed = λ node other here sealed. all-still node other here;
      }

      pub kept-made : KeepsUncounted (with_first state objects (part key n)) (with_new_part layout key n seen l) unlinked image
      kept-made = parts-kept state objects layout unlinked key n was seen l from image t.kept t.written loose made

  -- ---- the byte

  module _ (files : BlockFiles) (agrees : Agrees files mid) (small : n < 65536) (index : ParentIndex) (role : was.role ≡ IsParent index) where
    word-is : slice_index was.others 3 ≡ address_word mid was.contents 2
    word-is = address-is files layout p was index role mid g.parent agrees

    noted-change : (image : Image) → stores files 8256 (address_word mid was.contents 2) ≡ true → SameOutside (data_range (address_word mid was.contents 2) (place_of_bit n) 1) mid image → ChangesOnly (has_claim (claims_of (slice_index was.others 3))) mid image
    noted-change image is same = subst (λ (w : ℕ). ChangesOnly (has_claim (claims_of w)) mid image) (sym word-is) (byte-change files mid image (address_word mid was.contents 2) n small is agrees same)

    pub listed-place : stores files 8256 (address_word mid was.contents 2) ≡ true
    listed-place = parent-place files layout p was index role mid g.parent agrees

    -- at each word the old durable contents are recovered
    pub noting-finds : (image : Image) → IsBeingNoted files was.contents n mid image → Finds (rest state) image
    noting-finds image (inl same) = change-finds image (noted-change image listed-place (subst (λ (i : Image). SameOutside (data_range (address_word mid was.contents 2) (place_of_bit n) 1) mid i) (sym same) (outside-refl (data_range (address_word mid was.contents 2) (place_of_bit n) 1) mid)))
    noting-finds image (inr changed) = change-finds image (noted-change image changed.0 changed.1)

    -- and in the end the state with the part is kept
    module _ (image : Image) (agrees_end : Agrees files image) (noted : IsBitNoted was.contents n mid image) (seen_is : seen ≡ with_noted was index n) (loose : KeepsUnsettled state objects) where
      same-but : SameOutside (data_range (address_word mid was.contents 2) (place_of_bit n) 1) mid image
      same-but = go noted.done where
        go : ((has_part_bit noted.was n ≡ true) × (image ≡ mid)) ⊎ HasBitNow (address_word mid was.contents 2) n noted.was mid image → SameOutside (data_range (address_word mid was.contents 2) (place_of_bit n) 1) mid image
        go (inl there) = subst (λ (i : Image). SameOutside (data_range (address_word mid was.contents 2) (place_of_bit n) 1) mid i) (sym there.1) (outside-refl (data_range (address_word mid was.contents 2) (place_of_bit n) 1) mid)
        go (inr h) = h.same

      change : ChangesOnly (has_claim (claims_of (slice_index was.others 3))) mid image
      change = noted-change image listed-place same-but

      loads-noted : load (store_of image) (rule_of layout (layout.place (main key))) (layout.place (main key)) ≡ Ok (with_noted was index n)
      loads-noted = sees files layout p was index role mid g.parent agrees n small (no-file files (address_word mid was.contents 2) listed-place) image agrees_end noted (agreeing-views (has_claim (claims_of (slice_index was.others 3))) mid image change.agree).store single

      pub all-kept : KeepsUncounted (with_first state objects (part key n)) (with_new_part layout key n seen l) unlinked image
      all-kept = kept-made image change (subst (λ (x : Loaded). load (store_of image) (rule_of layout (layout.place (main key))) (layout.place (main key)) ≡ Ok x) (sym seen_is) loads-noted)
          (ap (λ (x : Loaded). x.node) seen_is) (ap (λ (x : Loaded). x.contents) seen_is) (ap (λ (x : Loaded). x.others) seen_is) loose

      pub end-session : SameSession from image
      end-session = session-then from mid image g.leaves.session change.session

      pub end-counters : SameCounters from image
      end-counters = counters-then from mid image g.counters (index-counters mid image (byte-index (address_word mid was.contents 2) (place_of_bit n) mid image (no-file files (address_word mid was.contents 2) listed-place) same-but))
