-- In the worked folder `a` is dirty, its part is removed, and is made again in its blocks, which are unlinked then.
use Rattle.std.proofs.Common.{◌≡◌, inl, inr, ℕ, List, [], ◌∷◌, ◌++◌, refl, ap, sym, ◌∙◌, subst, arith, lit<, lit≤, Bool, true, false, None, Ok, Option, Some, codes}
use Rattle.std.specs.Prelude.{◌||◌, if◌then◌else◌, map, nat_lt, slice_set}
use Rattle.spec_image.specs.Footprint.{SameOutside}
use Rattle.spec_image.specs.Image.{Image}
use Rattle.spec_image.specs.Steps.{after}
use Rattle.spec_image.proofs.Footprints.{outside_wider, within_left}
use Rattle.blk_model.specs.Items.{IsPartValue, main, part}
use Rattle.blk_model.specs.Holding.{rest, row_of}
use Rattle.blk_model.specs.Room.{single, without}
use Rattle.blk_model.specs.State.{Object, State}
use Rattle.blk_model.proofs.Computing.{computing}
use Rattle.spec_format.specs.Address.{block_count, blocks_256, external_number, file_selector, first_block, kind_of, place, rankings}
use Rattle.spec_format.specs.BlockFiles.{is_among, KeepsHeaders}
use Rattle.spec_format.specs.Claims.{Claim, claims_of, has_claim, repeats}
use Rattle.spec_format.specs.Hash.{hash, mixed, of_bytes, of_four}
use Rattle.spec_format.specs.Headers.{place_of_bucket}
use Rattle.spec_format.specs.Records.{entry_in, entry_is_sealed, node_checks}
use Rattle.spec_format.specs.Sealed.{record_range}
use Rattle.spec_format.proofs.Finished.{sound-whole}
use Rattle.spec_folder.specs.Chains.{bucket_of_hash, file_and_block}
use Rattle.spec_folder.specs.Completion.{insert, remove}
use Rattle.spec_folder.specs.Creation.{linked_front, with_first}
use Rattle.spec_folder.specs.Footprint.{OnlyLinksChange, SameStore}
use Rattle.spec_folder.specs.Layout.{Layout}
use Rattle.spec_folder.specs.ListImages.{CanBeMade, HasListAtRest, IsWritable, operation_steps, walked}
use Rattle.spec_folder.specs.ListPlans.{writes_of}
use Rattle.spec_folder.specs.ListSteps.{touched_by_writes}
use Rattle.spec_folder.specs.ListView.{CanBeInserted, IsAtRest, ListView, ListWrite, put}
use Rattle.spec_folder.specs.Loads.{Loaded, all_claims, load, record_claims, unchained_rule}
use Rattle.spec_folder.specs.ShownChanges.{ShowsTheSame}
use Rattle.spec_folder.specs.Sound.{AreSealed, words_of}
use Rattle.spec_folder.specs.View.{StoreView, checks_at, list_of, stands_as, store_of, view_of}
use Rattle.law_folder.specs.IndexWrites.{IsIndexWord}
use Rattle.law_folder.specs.CommandLaws.{dirtied, marked}
use Rattle.law_folder.proofs.claims.Allocations.{words-claims}
use Rattle.law_folder.proofs.lists.WordTurns.{inserts-can, removals-can}
use Rattle.law_folder.proofs.states.Central.{walk-order}
use Rattle.law_folder.proofs.states.Marking.{repeats-apart}
use Rattle.law_folder.proofs.states.OthersHold.{records-outside, records-unlinked}
use Rattle.law_folder.proofs.states.Tidying.{counter-same, record-bytes, sealed-still, touch_range, touch_sizes, touch_spares}
use Rattle.law_folder.proofs.updates.IndexWords.{buckets-unchecked, buckets-written}
use Rattle.law_folder.proofs.updates.StillShown.{core-standing}
use Rattle.law_folder.proofs.walks.Loads.{load-then}
use Rattle.law_state.specs.Arranging.{LeavesFiles}
use Rattle.law_state.specs.Changes.{Finds}
use Rattle.law_state.specs.CountsOfParts.{IsPartMore}
use Rattle.law_state.specs.Keeping.{Keeps, KeepsUncounted}
use Rattle.law_state.specs.NewEntryLaws.{IsInsertDone}
use Rattle.law_state.specs.NewPartLaws.{IsMidPart, IsPartWritten, with_bit, with_new_part}
use Rattle.law_state.specs.NewPartsKept.{IsMakingPart, IsPartMade}
use Rattle.law_state.specs.PartlyOut.{IsOneMoreOut, KeepsPartlyOut}
use Rattle.law_state.specs.PartStates.{with_value}
use Rattle.law_state.specs.RecordLaws.{IsMarked}
use Rattle.law_state.specs.RemovalLaws.{IsRemovalDone, layout_removed}
use Rattle.law_state.proofs.CountsOfParts.{part-more}
use Rattle.law_state.proofs.Dirtying.{marking-counts}
use Rattle.law_state.proofs.DoneSteps.{insert-done}
use Rattle.law_state.proofs.DoomSteps.{loads-unlisted}
use Rattle.law_state.proofs.GoingOut.{goes-out, out-links, out-of-list, out-removed, out-sealed, out-store, ready-out, unchained, unlisted}
use Rattle.law_state.proofs.Leaving.{leaves-files, leaves-then}
use Rattle.law_state.proofs.Links.{table-files, table-links, table-sealed}
use Rattle.law_state.proofs.MarkedStates.{marked-valid}
use Rattle.law_state.proofs.MarkSteps.{marked_at, marks-done, marks-writable}
use Rattle.law_state.proofs.NewParts.{parents-data-may-change, parts-are-linked}
use Rattle.law_state.proofs.NewPartsKept.{making-finds, part-inserts-find, parts-kept, values-keep}
use Rattle.law_state.proofs.PartChanges.{new-parts-keep-valid, parts-change-alone}
use Rattle.law_state.proofs.PartlyOut.{kept-begin}
use Rattle.law_state.proofs.PlainRemovals.{part-removed}
use Rattle.law_state.proofs.WorkedCreate.{index-word-is, with_index_word}
use Rattle.law_state.proofs.WorkedDooms.{both, both-id, both-keeps, both-writable, both_folder}
use Rattle.law_state.proofs.WorkedRemovals.{alone_part}
use Rattle.law_state.proofs.WorkedState.{chain_of, doomed_object, nodes, part_index, part_name, part_value, plain_object, records, sparse_object, the_parent, the_part, worked-valid, worked_layout}

-- ---- `a` is dirty

abbrev pub unsettled_object : Object
unsettled_object = record sparse_object { settled = false }

abbrev pub unsettled : State
unsettled = marked both 1 sparse_object false

abbrev pub dirty_layout : Layout
dirty_layout = dirtied worked_layout (nodes 0) the_parent 7

abbrev dirty_parent : Loaded
dirty_parent = record the_parent { dirty = 7 }

abbrev pub dirty_folder : Image
dirty_folder = marked_at both_folder (nodes 0) 7

a-checks : (list_of both_folder).checks (nodes 0) ≡ true
a-checks = both-keeps.entries.represents.list.linked.0.good

a_is_marked : IsMarked both_folder (nodes 0) 7 dirty_folder
a_is_marked = marks-done both_folder (nodes 0) 7 both-writable a-checks (lit< tt)

pub dirty-writable : IsWritable dirty_folder
dirty-writable = marks-writable both_folder (nodes 0) 7 both-writable a-checks (lit< tt)

pub unsettled-keeps : Keeps unsettled dirty_layout [] dirty_folder
unsettled-keeps = marking-counts both worked_layout [] both_folder dirty_folder 1 sparse_object the_parent 7 both-keeps (record { here = refl; live = refl; at = refl })
    (marked-valid both 1 sparse_object false both-keeps.entries.valid refl refl (λ e. refl)) (λ some. sym both-id) a_is_marked

-- ---- the part of `a` is removed

all-there : KeepsPartlyOut unsettled dirty_layout (λ item. true) chain_of [] dirty_folder
all-there = kept-begin unsettled dirty_layout [] dirty_folder unsettled-keeps.entries

part-here : dirty_layout.at (nodes 1) ≡ Some the_part
unfolding put
part-here = refl

abbrev bare_folder : Image
bare_folder = unchained (unlisted dirty_folder (nodes 1)) 0xB6C

part-goes : IsOneMoreOut dirty_layout chain_of (part (codes "a") 0) the_part dirty_folder bare_folder
part-goes = goes-out unsettled dirty_layout (λ item. true) chain_of [] dirty_folder all-there dirty-writable (part (codes "a") 0) the_part part-here (nodes 0 ∷ nodes 2 ∷ []) [] refl 0xB6C alone_part

part-unlisted : IsRemovalDone dirty_folder (nodes 1) (unlisted dirty_folder (nodes 1))
part-unlisted = out-of-list unsettled dirty_layout (λ item. true) chain_of [] dirty_folder all-there dirty-writable (part (codes "a") 0) the_part part-here (nodes 0 ∷ nodes 2 ∷ []) [] refl 0xB6C alone_part

part-links : OnlyLinksChange (records 1) (store_of (unlisted dirty_folder (nodes 1))) (store_of bare_folder)
part-links = out-links unsettled dirty_layout (λ item. true) chain_of [] dirty_folder all-there dirty-writable (part (codes "a") 0) the_part part-here (nodes 0 ∷ nodes 2 ∷ []) [] refl 0xB6C alone_part

part-store : store_of bare_folder ≡ record (store_of (unlisted dirty_folder (nodes 1))) { table = put (store_of (unlisted dirty_folder (nodes 1))).table 0xB6C 0 }
part-store = out-store unsettled dirty_layout (λ item. true) chain_of [] dirty_folder all-there dirty-writable (part (codes "a") 0) the_part part-here (nodes 0 ∷ nodes 2 ∷ []) [] refl 0xB6C alone_part

bare-writable : IsWritable bare_folder
bare-writable = ready-out unsettled dirty_layout (λ item. true) chain_of [] dirty_folder all-there dirty-writable (part (codes "a") 0) the_part part-here (nodes 0 ∷ nodes 2 ∷ []) [] refl 0xB6C alone_part

abbrev bare_object : Object
bare_object = record unsettled_object { parts = [] }

abbrev bare : State
bare = record both { objects = Some plain_object ∷ Some bare_object ∷ Some doomed_object ∷ []; uses = main (codes "a") ∷ main (codes "b") ∷ [] }

bare-is : without (single (codes "a") 0 ∷ []) unsettled ≡ bare
unfolding computing
bare-is = refl

abbrev bare_layout : Layout
bare_layout = layout_removed dirty_layout (nodes 1) (records 1)

bare-keeps : KeepsUncounted bare bare_layout (words_of the_part ++ []) bare_folder
bare-keeps = subst (λ (m : State). KeepsUncounted m bare_layout (words_of the_part ++ []) bare_folder) bare-is
    (part-removed unsettled dirty_layout [] dirty_folder bare_folder 1 0 unsettled_object the_part unsettled-keeps.entries refl refl refl (out-removed dirty_layout (part (codes "a") 0) the_part dirty_folder bare_folder part-goes))

-- ---- it is written again, as it is still there

-- the value is one that a part may have
good-value : IsPartValue part_value
good-value = ((worked-valid.objects 1).parts 0 (0, part_value) (omega arith)).1

abbrev objects : List (Option Object)
objects = slice_set bare.objects 1 (Some (with_value bare_object 0 part_value))

parent-here : bare_layout.at (nodes 0) ≡ Some dirty_parent
unfolding put
parent-here = refl

nothing-there : (with_bit bare_layout (codes "a") dirty_parent).at (nodes 1) ≡ None
unfolding put
nothing-there = refl

parent-seen : (with_bit bare_layout (codes "a") dirty_parent).at (nodes 0) ≡ Some dirty_parent
unfolding put
parent-seen = refl

part-once : repeats (all_claims the_part) ≡ false
unfolding repeats has_claim all_claims record_claims claims_of kind_of block_count file_selector first_block external_number
part-once = refl

part-loads : load (store_of bare_folder) (unchained_rule 0) (nodes 1) ≡ Ok the_part
part-loads = records-unlinked (store_of (unlisted dirty_folder (nodes 1))) (store_of bare_folder) 0 (nodes 1) (records 1) the_part
    (loads-unlisted dirty_folder (unlisted dirty_folder (nodes 1)) (nodes 1) (nodes 1) the_part part-unlisted (unsettled-keeps.entries.represents.holds.shows.each (nodes 1) the_part part-here)) part-once part-links (inl refl)

its-bucket : bucket_of_hash (hash the_part.key) ≡ 0xB6C
unfolding hash mixed of_bytes of_four
its-bucket = refl

-- its record has no next, and its bucket is empty
no-next : (store_of bare_folder).chain_next (records 1) ≡ 0
no-next = ap (λ (s : StoreView). s.chain_next (records 1)) part-store
    ∙ sym (part-unlisted.partly.shown.store.store.chain_next (records 1) (λ claim has. refl)) ∙ (unsettled-keeps.entries.represents.holds.shows.chains 0xB6C (lit< tt)).linked.2

empty-bucket : (store_of bare_folder).table 0xB6C ≡ 0
empty-bucket = (bare-keeps.represents.holds.shows.chains 0xB6C (lit< tt)).linked

node-kind : kind_of (nodes 1) ≡ rankings
unfolding kind_of
node-kind = refl

node-checks : (list_of bare_folder).checks (nodes 1) ≡ true
unfolding list_of checks_at node_checks kind_of
node-checks = rw (bare-keeps.unlinked_words.stand.0, part-unlisted.sealed (nodes 1) node-kind (unsettled-keeps.entries.sealed (nodes 1) the_part part-here).node) (or-true _) where
  or-true : (b : Bool) → (b || true) ≡ true
  or-true true = refl
  or-true false = refl

free : (claim : Claim) → has_claim (all_claims the_part) claim ≡ true → bare_layout.owner claim ≡ None
free claim has = bare-keeps.unlinked_words.free claim (ap (λ (cs : List Claim). has_claim cs claim) (words-claims the_part) ∙ has)

written : IsPartWritten (view_of bare_folder) bare objects bare_layout (codes "a") 0 dirty_parent dirty_parent the_part
unfolding row_of
written = record {
  represents = bare-keeps.represents;
  valid = bare-keeps.valid;
  valid_after = new-parts-keep-valid bare bare-keeps.valid 1 bare_object refl (record { key_is = refl; live = refl; unsettled = refl }) refl 0 part_value (omega arith) good-value refl;
  listed = refl;
  at_parent = parent-here;
  noted = record {
    key = refl;
    contents = refl;
    row = refl;
    mark = refl;
    parent = tt;
    of = λ name h. h;
    own = λ claim has. bare-keeps.represents.holds.lies.own (nodes 0) dirty_parent claim parent-here has;
    others = λ claim node owner other. owner;
    single = bare-keeps.represents.holds.lies.single (nodes 0) dirty_parent parent-here;
  };
  same_dirty = refl;
  unsettled = refl;
  changed = (parts-change-alone bare bare-keeps.valid 1 bare_object refl refl 0 part_value).0;
  new = record {
    unlisted = refl;
    row = refl;
    mark = refl;
    parent = record { name = part_name; index = part_index; role = refl; of_key = refl; listed = refl; parent = dirty_parent; at_parent = parent-seen; of = refl };
    nobody = nothing-there;
    free = free;
    single = part-once;
  };
  loads = part-loads;
  prefix = record { follows = no-next ∙ sym empty-bucket ∙ ap (store_of bare_folder).table (sym its-bucket); fresh = ap (λ (b : ℕ). is_among (map file_and_block (bare_layout.chains b)) (file_and_block (records 1))) its-bucket };
  good = node-checks;
  few = omega arith;
}

-- ---- its node comes into the list, and its record into its chain

walks : walked bare_folder ≡ nodes 0 ∷ nodes 2 ∷ []
walks = walk-order (view_of bare_folder) bare bare_layout bare-keeps.represents

can-be-inserted : CanBeInserted (list_of bare_folder) (walked bare_folder) (nodes 1)
can-be-inserted = subst (λ (ns : List ℕ). CanBeInserted (list_of bare_folder) ns (nodes 1)) (sym walks)
    (record { rest = record { whole = bare-keeps.represents.list; idle = bare-keeps.represents.idle }; lacks = refl; good = node-checks; few = omega arith })

abbrev listed_folder : Image
listed_folder = after (operation_steps insert (nodes 1) bare_folder) bare_folder

inserted : IsInsertDone bare_folder (nodes 1) listed_folder
inserted = insert-done bare_folder (nodes 1) bare-writable can-be-inserted

-- the durable contents are recovered then
insert_finds : Finds (if nat_lt inserted.partly.made 2 then rest bare else rest (with_first bare objects (part (codes "a") 0))) listed_folder
insert_finds = part-inserts-find bare objects bare_layout (words_of the_part ++ []) (codes "a") 0 dirty_parent dirty_parent the_part bare_folder listed_folder bare-keeps written inserted.partly

abbrev linked_folder : Image
linked_folder = with_index_word (place_of_bucket 0xB6C) (records 1) listed_folder

link-word : IsIndexWord (place_of_bucket 0xB6C) (records 1) listed_folder linked_folder
link-word = index-word-is listed_folder (place_of_bucket 0xB6C) (records 1) (sound-whole listed_folder (inserted.partly.headers.sound bare-keeps.sound)) (lit≤ tt) (lit< tt)

link-store : store_of linked_folder ≡ record (store_of listed_folder) { table = put (store_of listed_folder).table 0xB6C (records 1) }
link-store = (buckets-written listed_folder linked_folder 0xB6C (records 1) link-word).1

same-shown : ShowsTheSame (store_of bare_folder) (store_of listed_folder)
same-shown = inserted.partly.shown.store

abbrev all_chains : ℕ → List ℕ
all_chains = (with_new_part bare_layout (codes "a") 0 dirty_parent the_part).chains

-- all others are as they were
mid-part : IsMidPart (store_of linked_folder) bare_layout (codes "a") the_part all_chains
mid-part = parents-data-may-change (view_of bare_folder) bare objects bare_layout (codes "a") 0 dirty_parent dirty_parent the_part written (linked_front (store_of bare_folder) the_part) (store_of linked_folder) all_chains
    (parts-are-linked (view_of bare_folder) bare objects bare_layout (codes "a") 0 dirty_parent dirty_parent the_part written) (λ claim. false)
    (subst (λ (s : StoreView). SameStore (λ claim. false) (linked_front (store_of bare_folder) the_part) s) (sym link-store)
    (record { node_fields = same-shown.store.node_fields; entry = same-shown.store.entry; chain_next = same-shown.store.chain_next; key_place = same-shown.store.key_place; stored = same-shown.store.stored }))
    (λ b. ap (λ (p : ℕ). put (store_of bare_folder).table p (records 1) b) its-bucket ∙ ap (λ (t : ℕ → ℕ). put t 0xB6C (records 1) b) (λ i x. same-shown.table x i) ∙ ap (λ (s : StoreView). s.table b) (sym link-store))
    (record { others = λ claim node owner apart. refl; part_clear = λ claim has. refl; node_clear = λ claim has. refl; chains_clear = λ bucket contents below among claim has. refl })

list-now : HasListAtRest (nodes 1 ∷ nodes 0 ∷ nodes 2 ∷ []) linked_folder
list-now = subst (λ (l : ListView). IsAtRest l (nodes 1 ∷ nodes 0 ∷ nodes 2 ∷ [])) (sym (buckets-written listed_folder linked_folder 0xB6C (records 1) link-word).0)
    (subst (λ (ns : List ℕ). HasListAtRest (nodes 1 ∷ ns) listed_folder) walks (inserted.inserted can-be-inserted))

headers-linked : KeepsHeaders listed_folder linked_folder
headers-linked = buckets-unchecked listed_folder linked_folder 0xB6C link-word.outside

making : IsMakingPart bare bare_layout (codes "a") the_part all_chains linked_folder
making = record { sound = headers-linked.sound (inserted.partly.headers.sound bare-keeps.sound); list = list-now; others = mid-part }

making_finds : Finds (rest (with_first bare objects (part (codes "a") 0))) linked_folder
making_finds = making-finds bare objects bare_layout (words_of the_part ++ []) (codes "a") 0 dirty_parent dirty_parent the_part all_chains bare_folder linked_folder bare-keeps written making

-- ---- and it is made: its parent has its bit already

abbrev insert_writes : List ListWrite
insert_writes = writes_of insert (nodes 1) (list_of bare_folder)

insert-outside : SameOutside (touch_range insert_writes (nodes 1)) bare_folder listed_folder
insert-outside = outside_wider (touched_by_writes insert_writes) (touch_range insert_writes (nodes 1)) bare_folder listed_folder (within_left (touched_by_writes insert_writes) (record_range (nodes 1))) inserted.partly.outside

insert-leaves : LeavesFiles bare_folder listed_folder
insert-leaves = leaves-files (touch_range insert_writes (nodes 1)) bare_folder listed_folder (touch_spares insert_writes (nodes 1)) (touch_sizes insert_writes (nodes 1)) insert-outside
    (record { crash = counter-same insert_writes (nodes 1) bare_folder listed_folder insert-outside 32 (omega arith); id = counter-same insert_writes (nodes 1) bare_folder listed_folder insert-outside 20 (omega arith) }) inserted.partly.headers

insert-can : CanBeMade bare_folder insert_writes
insert-can = inserts-can bare_folder (nodes 1) (walked bare_folder) can-be-inserted

-- the part has its checksums after its removal and after its insert
abbrev removal_writes : List ListWrite
removal_writes = writes_of remove (nodes 1) (list_of dirty_folder)

removal-outside : SameOutside (touch_range removal_writes (nodes 1)) dirty_folder (unlisted dirty_folder (nodes 1))
removal-outside = outside_wider (touched_by_writes removal_writes) (touch_range removal_writes (nodes 1)) dirty_folder (unlisted dirty_folder (nodes 1)) (within_left (touched_by_writes removal_writes) (record_range (nodes 1))) part-unlisted.partly.outside

part-sealed : AreSealed bare_folder the_part
part-sealed = out-sealed unsettled dirty_layout (λ item. true) chain_of [] dirty_folder all-there dirty-writable (part (codes "a") 0) the_part part-here (nodes 0 ∷ nodes 2 ∷ []) [] refl 0xB6C alone_part the_part
    (sealed-still dirty_folder (unlisted dirty_folder (nodes 1)) removal_writes (nodes 1) removal-outside (removals-can dirty_folder (nodes 1) (nodes 0 ∷ nodes 2 ∷ []) [] (record { whole = unsettled-keeps.entries.represents.list; idle = unsettled-keeps.entries.represents.idle })).nodes
    unsettled-keeps.entries.represents.list.linked.1.1.0.good unsettled dirty_layout unsettled-keeps.entries.represents part-unlisted.sealed (nodes 1) the_part part-here (unsettled-keeps.entries.sealed (nodes 1) the_part part-here))

record-stands : stands_as bare_folder blocks_256 (records 1) ≡ true
record-stands = load-then (store_of bare_folder) (unchained_rule 0) (nodes 1) the_part part-loads (λ n e f. subst (λ (c : ℕ). stands_as bare_folder blocks_256 c ≡ true) (sym f.facts.contents_is) (core-standing bare_folder n.contents e f.entry))

part-listed : AreSealed listed_folder the_part
part-listed = record {
  node = inserted.sealed (nodes 1) node-kind part-sealed.node;
  entry = ap (λ (g : ℕ → ℕ). entry_is_sealed (entry_in g (place (records 1)))) (record-bytes bare_folder listed_folder insert_writes (nodes 1) insert-outside insert-can.nodes node-checks (records 1) record-stands) ∙ part-sealed.entry;
}

linked-sealed : (l : Loaded) → AreSealed listed_folder l → AreSealed linked_folder l
linked-sealed l = table-sealed listed_folder linked_folder 0xB6C l link-word.outside

others-sealed : (node : ℕ) (other : Loaded) → bare_layout.at node ≡ Some other → AreSealed bare_folder other → AreSealed linked_folder other
others-sealed node other here was = linked-sealed other (sealed-still bare_folder listed_folder insert_writes (nodes 1) insert-outside insert-can.nodes node-checks bare bare_layout bare-keeps.represents inserted.sealed node other here was)

-- the parent loads as before
parent-once : repeats (all_claims dirty_parent) ≡ false
parent-once = bare-keeps.represents.holds.lies.single (nodes 0) dirty_parent parent-here

parent-apart : repeats (all_claims dirty_parent ++ claims_of (records 1)) ≡ false
unfolding repeats has_claim all_claims record_claims claims_of kind_of block_count file_selector first_block external_number
parent-apart = refl

parent-loads : load (store_of linked_folder) (unchained_rule 0) (nodes 0) ≡ Ok dirty_parent
parent-loads = records-unlinked (store_of listed_folder) (store_of linked_folder) 0 (nodes 0) (records 1) dirty_parent
    (records-outside (λ claim. false) (store_of bare_folder) (store_of listed_folder) 0 (nodes 0) dirty_parent (bare-keeps.represents.holds.shows.each (nodes 0) dirty_parent parent-here) same-shown.store (λ claim has. refl)) parent-once
    (table-links listed_folder linked_folder 0xB6C (records 1) (records 1) link-store) (inr (λ claim has. repeats-apart (all_claims dirty_parent) (claims_of (records 1)) claim parent-apart has))

part_is_made : IsPartMade bare bare_layout (codes "a") 0 dirty_parent dirty_parent the_part bare_folder linked_folder
part_is_made = record {
  leaves = leaves-then bare_folder listed_folder linked_folder insert-leaves (table-files listed_folder linked_folder 0xB6C link-word.outside headers-linked);
  list = list-now;
  others = mid-part;
  sees = parent-loads;
  words = refl;
  part_sealed = linked-sealed the_part part-listed;
  parent_sealed = others-sealed (nodes 0) dirty_parent parent-here (bare-keeps.sealed (nodes 0) dirty_parent parent-here);
  sealed = others-sealed;
}

-- so the state with the part is kept, and its words are unlinked no longer
part_is_kept : KeepsUncounted (with_first bare objects (part (codes "a") 0)) (with_new_part bare_layout (codes "a") 0 dirty_parent the_part) [] linked_folder
part_is_kept = parts-kept bare objects bare_layout [] (codes "a") 0 dirty_parent dirty_parent the_part bare_folder linked_folder bare-keeps written (values-keep bare 1 bare_object 0 part_value refl) part_is_made

-- the state with the part has one item more
part_is_more : IsPartMore bare (with_first bare objects (part (codes "a") 0)) bare_layout (with_new_part bare_layout (codes "a") 0 dirty_parent the_part) dirty_parent dirty_parent the_part
part_is_more = part-more (view_of bare_folder) bare objects bare_layout (codes "a") 0 dirty_parent dirty_parent the_part written
