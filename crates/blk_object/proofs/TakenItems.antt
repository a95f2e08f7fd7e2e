-- Items of a kept state that are taken out: each may be, and what they leave is a removal.
use Rattle.std.proofs.Common.{◌≡◌, ◌≢◌, ◌⊎◌, inl, inr, ℕ, ◌<◌, List, [], ◌∷◌, refl, ap, sym, ◌∙◌, subst, arith, lit<, true, false, None, Option, Some, Ok}
use Rattle.std.specs.Prelude.{◌+◌, ◌==◌, ◌%◌, ◌≤◌, nat_lt, take}
use Rattle.std.proofs.lemmas.Bool.{eq-eqb, eqb-true}
use Rattle.std.proofs.lemmas.List.{take_at}
use Rattle.std.proofs.lemmas.List.Elements.{All-cons, All-nil}
use Rattle.std.proofs.lemmas.Nat.{mod_below}
use Rattle.spec_image.specs.Bytes.{content, range_at, word_at}
use Rattle.spec_image.specs.Footprint.{SameOutside}
use Rattle.spec_image.specs.Image.{AreBytes, Block, Image, byte}
use Rattle.spec_image.proofs.Footprints.{outside_wider, within_left}
use Rattle.spec_image.proofs.Words.{length-range}
use Rattle.blk_model.specs.Items.{Item}
use Rattle.blk_model.specs.State.{State}
use Rattle.spec_format.specs.Address.{blocks_256, file_selector, kind_of, place}
use Rattle.spec_format.specs.BlockFiles.{is_among}
use Rattle.spec_format.specs.Hash.{hash}
use Rattle.spec_format.specs.Records.{entry_body, entry_in, entry_is_sealed, seal_of}
use Rattle.spec_format.specs.Sealed.{AreChanges, IsUpdated, record_at, record_range, record_size, seal_place}
use Rattle.spec_format.proofs.Bodies.{entry_body-in, range-add}
use Rattle.spec_format.proofs.SealedFields.{record_word, updated_seal}
use Rattle.spec_format.proofs.SealedRecords.{entry_bytes}
use Rattle.spec_folder.specs.Chains.{IsChain, bucket_at, bucket_of_hash}
use Rattle.spec_folder.specs.Completion.{remove}
use Rattle.spec_folder.specs.Layout.{IsListedRecord, Layout, rule_of}
use Rattle.spec_folder.specs.ListPlans.{writes_of}
use Rattle.spec_folder.specs.ListSteps.{touched_by_writes}
use Rattle.spec_folder.specs.ListView.{ListWrite}
use Rattle.spec_folder.specs.Loads.{Loaded, load}
use Rattle.spec_folder.specs.Searches.{bucket_of_key}
use Rattle.spec_folder.specs.Sound.{AreSealed}
use Rattle.spec_folder.specs.View.{RecordFields, entry_at, list_of, store_of}
use Rattle.law_folder.proofs.chains.ChainWords.{shown-fields}
use Rattle.law_folder.proofs.states.Tidying.{counter-same, touch_range, touch_sizes, touch_spares}
use Rattle.law_folder.proofs.updates.StillShown.{core-standing, standing-parts}
use Rattle.law_folder.proofs.updates.Updates.{entry-seal}
use Rattle.law_folder.proofs.walks.Loads.{load-then}
use Rattle.blk_chain.specs.Unlinking.{IsSealedAgain, IsUnlinked, StandsBehind, next_record}
use Rattle.law_state.specs.Arranging.{LeavesFiles}
use Rattle.law_state.specs.Changes.{SameCounters}
use Rattle.law_state.proofs.AtNodes.{updates-leave}
use Rattle.spec_image.specs.Footprint.{one_word}
use Rattle.spec_image.specs.Image.{Index, word}
use Rattle.spec_image.proofs.Footprints.{same_word_outside}
use Rattle.spec_format.specs.Headers.{header_length, place_of_bucket}
use Rattle.std.proofs.lemmas.Bool.Decides.{nat_tests}
use Rattle.std.specs.Prelude.{◌&&◌, nat_le}
use Rattle.law_state.specs.Keeping.{KeepsUncounted}
use Rattle.law_state.specs.PlainRemovals.{IsRemoved, IsRemoving}
use Rattle.law_state.specs.RemovalLaws.{IsRemovalDone, chains_without}
use Rattle.law_state.proofs.GoingOut.{chain-same}
use Rattle.law_state.proofs.Leaving.{leaves-files}
use Rattle.law_state.proofs.Links.{next-sealed, table-sealed}
use Rattle.law_state.proofs.Counts.{bucket-count, touch-count}
use Rattle.blk_object.proofs.KeptLists.{listed-amid}
use Rattle.blk_object.specs.Removing.{GoingOutIsRemoving, TakenOutItemsLeaveCounters, IsBeingUnlinked, IsTakenOut, IsYetLinked, LiesBehind, ListedItemsMayGoOut, TakenOutItemsAreRemoved}
use Rattle.blk_object.proofs.ChainsOut.{among-front, can-go, goes-out, leaves-files as out-leaves, yet-in}

-- ---- a removal from the list

-- a removal from the list leaves the files
pub removal-leaves : (from between : Image) (node : ℕ) → IsRemovalDone from node between → LeavesFiles from between
removal-leaves from between node done =
    let writes : List ListWrite = writes_of remove node (list_of from) in
    let outside : SameOutside (touch_range writes node) from between = outside_wider (touched_by_writes writes) (touch_range writes node) from between (within_left (touched_by_writes writes) (record_range node)) done.partly.outside in
    leaves-files (touch_range writes node) from between (touch_spares writes node) (touch_sizes writes node) outside
    (record { crash = counter-same writes node from between outside 32 (omega arith); id = counter-same writes node from between outside 20 (omega arith) }) done.partly.headers

-- a removal from the list leaves the counters
removal-counters : (from between : Image) (node : ℕ) → IsRemovalDone from node between → SameCounters from between
removal-counters from between node done =
    let writes : List ListWrite = writes_of remove node (list_of from) in
    let outside : SameOutside (touch_range writes node) from between = outside_wider (touched_by_writes writes) (touch_range writes node) from between (within_left (touched_by_writes writes) (record_range node)) done.partly.outside in
    touch-count writes node from between outside

-- so does a word of the table
pub table-word : (b p : ℕ) (from image : Image) → p + 4 ≤ header_length → SameOutside (one_word Index (place_of_bucket b)) from image → word image Index p ≡ word from Index p
table-word b p from image low same = same_word_outside (one_word Index (place_of_bucket b)) from image Index p same (λ i above below. beside i (omega (arith, below, low))) where
  beside : (i : ℕ) → i < header_length → (nat_le (place_of_bucket b) i && nat_lt i (place_of_bucket b + 4)) ≡ false
  beside i small = grind (arith, nat_tests)

-- an unlinking leaves the counters
unlinking-counters : (between image : Image) (entry : ℕ) (before : Option ℕ) → IsUnlinked between entry before image → SameCounters between image
unlinking-counters between image entry None u =
    let b = bucket_at between entry in
    bucket-count b between image u.keeps.outside
unlinking-counters between image entry (Some v) u = updates-leave between image v u.keeps.outside

pub counters-left : TakenOutItemsLeaveCounters
counters-left node entry before from image t =
    let one = removal-counters from t.between node t.unlisted in
    let other = unlinking-counters t.between image entry before t.unlinked in
    other ∙ one

-- the bucket of its record is that of its key
pub bucket-is : (layout : Layout) (node its : ℕ) (was : Loaded) (from between : Image) → load (store_of from) (rule_of layout its) its ≡ Ok was → IsRemovalDone from node between → bucket_at between was.contents ≡ bucket_of_key was.key
bucket-is layout node its was from between loads done = load-then (store_of from) (rule_of layout its) its was loads (λ n e f.
    let here : (store_of between).entry was.contents ≡ Some e = sym (done.partly.shown.store.store.entry was.contents (λ claim has. refl)) ∙ ap (store_of from).entry f.facts.contents_is ∙ f.entry in
    ap (λ (x : RecordFields). bucket_of_hash x.hash) (shown-fields between was.contents e here) ∙ ap bucket_of_hash (eqb-true e.hash (hash was.key) f.facts.keyed.hashed))

-- ---- checksums

-- an update leaves its record with its checksum
updated-sealed : (from image : Image) (w : ℕ) (changes : List (ℕ × ℕ)) → AreBytes image → kind_of w ≡ blocks_256 → AreChanges (seal_place w) changes → IsUpdated from w changes image → entry_is_sealed (entry_at image w) ≡ true
unfolding entry_is_sealed entry_body entry_in record_at
updated-sealed from image w changes bytes kind are done =
    let f = byte image (Block (file_selector w)) in
    let size : 92 + 4 ≤ record_size w = omega (arith, entry_bytes w kind) in
    let front : take 92 (record_at image w) ≡ range_at f (place w) 92 =
    ap (λ (n : ℕ). take 92 (range_at f (place w) n)) (entry_bytes w kind) ∙ ap (take 92) (range-add 92 4 (place w) f) ∙ take_at (range_at f (place w) 92) (range_at f (place w + 92) 4) 92 (length-range 92 (place w) f) in
    let seal : word_at (content (record_at image w)) 92 ≡ hash (take 92 (record_at image w)) = subst (λ (s : ℕ). word_at (content (record_at image w)) s ≡ seal_of s (record_at image w)) (entry-seal w kind) (updated_seal from image w changes are done) in
    ap (λ (body : List ℕ). word_at f (place w + 92) == hash body) (entry_body-in (place w) f (bytes (Block (file_selector w))) ∙ sym front)
    ∙ ap (λ (x : ℕ). x == hash (take 92 (record_at image w))) (sym (record_word image w 92 size)) ∙ eq-eqb _ _ seal

next-changes : (w next : ℕ) → kind_of w ≡ blocks_256 → AreChanges (seal_place w) ((4, next) ∷ [])
next-changes w next kind = let s = entry-seal w kind in record {
  few = omega arith;
  aligned = All-cons (λ (c : ℕ × ℕ). c.0 % 4 ≡ 0) (4, next) [] refl (All-nil (λ (c : ℕ × ℕ). c.0 % 4 ≡ 0));
  before = All-cons (λ (c : ℕ × ℕ). c.0 < seal_place w) (4, next) [] (omega (arith, s)) (All-nil (λ (c : ℕ × ℕ). c.0 < seal_place w));
  different = (All-nil (λ (c : ℕ × ℕ). c.0 ≢ 4), tt);
}

-- the record before has its checksum again
pub again-sealed : (between image : Image) (entry v : ℕ) (fields : RecordFields) → (store_of between).entry v ≡ Some fields → AreBytes image → IsSealedAgain between entry (Some v) image → entry_is_sealed (entry_at image v) ≡ true
again-sealed between image entry v fields here bytes sealed =
    let kind : kind_of v ≡ blocks_256 = (standing-parts between blocks_256 v (core-standing between v fields here)).1 in
    updated-sealed between image v ((4, next_record between entry) ∷ []) bytes kind (next-changes v (next_record between entry) kind) sealed

-- ---- of a kept state

module _ (state : State) (layout : Layout) (unlinked : List ℕ) (item : Item) (was : Loaded) (before : Option ℕ) (from : Image) (k : KeepsUncounted state layout unlinked from) (lies : LiesBehind state layout item was before) where
  abbrev node : ℕ
  node = layout.place item

  abbrev its_bucket : ℕ
  its_bucket = bucket_of_key was.key

  loads : load (store_of from) (rule_of layout node) node ≡ Ok was
  loads = k.represents.holds.shows.each node was lies.here

  -- once its node is out of the list
  module _ (between : Image) (done : IsRemovalDone from node between) where
    whole : (other : ℕ) → other < 65536 → IsChain (store_of between) other (layout.chains other)
    whole other small = chain-same (store_of from) (store_of between) other (layout.chains other) done.partly.shown.store (k.represents.holds.shows.chains other small)

    stands : StandsBehind (layout.chains (bucket_at between was.contents)) was.contents before lies.prefix lies.suffix
    stands = subst (λ (b : ℕ). StandsBehind (layout.chains b) was.contents before lies.prefix lies.suffix) (sym (bucket-is layout node node was from between loads done)) lies.stands

    -- the record before is that of a listed item: where it has its checksum, all records of listed items keep theirs
    seals : (image : Image) (o : Option ℕ) → StandsBehind (layout.chains its_bucket) was.contents o lies.prefix lies.suffix → IsUnlinked between was.contents o image → IsSealedAgain between was.contents o image → AreBytes image
        → (other : ℕ) (loaded : Loaded) → layout.at other ≡ Some loaded → AreSealed between loaded → AreSealed image loaded
    seals image None there u sealed bytes other loaded is = table-sealed between image (bucket_at between was.contents) loaded u.keeps.outside
    seals image (Some v) there u sealed bytes other loaded is =
        let among : is_among (layout.chains its_bucket) v ≡ true = ap (λ (words : List ℕ). is_among words v) there ∙ among-front lies.prefix v (was.contents ∷ lies.suffix) in
        let q : IsListedRecord state layout v = k.represents.holds.lies.unchained its_bucket v (mod_below (hash was.key) 65536 (lit< tt)) among in
        load-then (store_of from) (rule_of layout q.node) q.node q.loaded (k.represents.holds.shows.each q.node q.loaded q.here) (λ n e f.
        let here : (store_of between).entry v ≡ Some e = sym (done.partly.shown.store.store.entry v (λ claim has. refl)) ∙ ap (store_of from).entry (sym q.record_is ∙ f.facts.contents_is) ∙ f.entry in
        next-sealed state layout unlinked from between image q.node q.loaded k (removal-leaves from between node done) q.here (subst (λ (x : ℕ). SameOutside (record_range x) between image) (sym q.record_is) u.keeps.outside)
        (subst (λ (x : ℕ). entry_is_sealed (entry_at image x) ≡ true) (sym q.record_is) (again-sealed between image was.contents v e here bytes sealed)) other loaded is)

  removed : (image : Image) → IsTakenOut node was.contents before from image → IsRemoved layout item was from image
  removed image t = record {
    removing = record { here = lies.here; between = t.between; unlisted = t.unlisted; unlinking = goes-out layout layout.chains t.between (whole t.between t.unlisted) was.contents before lies.prefix lies.suffix (stands t.between t.unlisted) image t.unlinked };
    leaves = out-leaves layout layout.chains t.between (whole t.between t.unlisted) was.contents before lies.prefix lies.suffix (stands t.between t.unlisted) image t.unlinked;
    sealed = seals t.between t.unlisted image before lies.stands t.unlinked t.sealed t.bytes;
  }

  unlinking-is : (image : Image) (m : IsBeingUnlinked node was.contents before from image) → IsYetLinked m.between was.contents before image ⊎ IsUnlinked m.between was.contents before image → IsRemoving layout item was layout.chains from image ⊎ IsRemoving layout item was (chains_without layout was.contents) from image
  unlinking-is image m (inl yet) = inl (record { here = lies.here; between = m.between; unlisted = m.unlisted; unlinking = yet-in layout layout.chains m.between (whole m.between m.unlisted) was.contents before lies.prefix lies.suffix (stands m.between m.unlisted) image yet })
  unlinking-is image m (inr out) = inr (record { here = lies.here; between = m.between; unlisted = m.unlisted; unlinking = goes-out layout layout.chains m.between (whole m.between m.unlisted) was.contents before lies.prefix lies.suffix (stands m.between m.unlisted) image out })

pub may-go-out : ListedItemsMayGoOut
may-go-out state layout unlinked item was before from k lies = record {
  listed = listed-amid state layout unlinked from item k lies.listed;
  chained = λ between bytes done. can-go layout layout.chains between (whole state layout unlinked item was before from k lies between done) was.contents before lies.prefix lies.suffix (stands state layout unlinked item was before from k lies between done) bytes;
}

pub taken-removed : TakenOutItemsAreRemoved
taken-removed state layout unlinked item was before from image k lies t = removed state layout unlinked item was before from k lies image t

pub going-removing : GoingOutIsRemoving
going-removing state layout unlinked item was before from image k lies (inl partly) = inl partly
going-removing state layout unlinked item was before from image k lies (inr m) = inr (unlinking-is state layout unlinked item was before from k lies image m m.moment)
