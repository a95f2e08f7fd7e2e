-- In the worked folder the doomed object is closed, and made anew by a Create, in the blocks of its record and its node that are unlinked then.
use Rattle.std.proofs.Common.{◌≡◌, ℕ, ◌+◌, ◌<◌, ◌≤◌, ◌^◌, List, [], ◌∷◌, ◌++◌, length, refl, ap, sym, ◌∙◌, subst, arith, lit<, lit≤, Bool, true, false, None, Some}
use Rattle.std.specs.Prelude.{◌%◌, ◌/◌, ◌||◌, map}
use Rattle.std.proofs.lemmas.Nat.{mod_below}
use Rattle.spec_image.specs.Bytes.{spliced, word_bytes, zeros}
use Rattle.spec_image.specs.Footprint.{SameOutside, one_word}
use Rattle.spec_image.specs.Image.{AreBytes, Block, Image, Index, length_of}
use Rattle.spec_image.specs.Steps.{Word, after, applied, with_word}
use Rattle.spec_image.proofs.Footprints.{outside_write}
use Rattle.spec_image.proofs.Images.{length-after_write, word-after_same}
use Rattle.spec_image.proofs.Runs.{until_last}
use Rattle.blk_model.specs.Request.{to_close, to_create}
use Rattle.blk_model.specs.State.{IsValidState, State}
use Rattle.blk_model.specs.Step.{step}
use Rattle.blk_model.proofs.Computing.{computing}
use Rattle.blk_model.proofs.Steps.{step_valid}
use Rattle.spec_format.specs.Address.{block_count, block_place, block_size, external_number, file_selector, first_block, kind_of, place}
use Rattle.spec_format.specs.BlockFiles.{is_among}
use Rattle.spec_format.specs.Claims.{BlockOf, Claim, claims_of, claims_of_all, has_claim, repeats, same_claim}
use Rattle.spec_format.specs.Hash.{hash}
use Rattle.spec_format.specs.Headers.{header_length, place_of_bucket}
use Rattle.spec_format.specs.Records.{entry_in}
use Rattle.spec_format.proofs.Finished.{sound-whole}
use Rattle.spec_folder.specs.Chains.{bucket_of_hash, file_and_block, bucket_at}
use Rattle.spec_folder.specs.Completion.{insert}
use Rattle.spec_folder.specs.Creation.{with_new}
use Rattle.spec_folder.specs.Layout.{Layout}
use Rattle.spec_folder.specs.ListImages.{HasListAtRest, IsWritable, operation_steps, walked}
use Rattle.spec_folder.specs.ListPlans.{writes_of}
use Rattle.spec_folder.specs.ListView.{CanBeInserted, ListView, put}
use Rattle.spec_folder.specs.Loads.{Loaded, all_claims, record_claims}
use Rattle.spec_folder.specs.Sound.{words_of}
use Rattle.spec_folder.specs.View.{RecordFields, entry_at, follow_at, list_of, store_of, view_of}
use Rattle.law_folder.specs.IndexWrites.{IsIndexWord}
use Rattle.law_folder.proofs.lists.WriteSteps.{writes-go_on}
use Rattle.law_folder.proofs.states.Central.{walk-order}
use Rattle.law_folder.proofs.updates.IndexWords.{buckets-unchecked, buckets-written}
use Rattle.law_folder.proofs.updates.NodeRecords.{are_bytes-word}
use Rattle.law_state.specs.Commands.{MayStop}
use Rattle.law_state.specs.CounterLaws.{AreCountersWritten, charged}
use Rattle.law_state.specs.CreateStops.{IsCreating}
use Rattle.law_state.specs.CommandStates.{with_room}
use Rattle.law_state.specs.GoneLaws.{layout_without}
use Rattle.law_state.specs.Keeping.{Keeps, KeepsUncounted}
use Rattle.law_state.specs.NewEntryLaws.{IsInsertDone, HasRecordInFront, IsNewEntryOf}
use Rattle.law_state.proofs.CreateStops.{creates-counted, inserts-stop, links-stop}
use Rattle.law_state.proofs.DoneSteps.{insert-done}
use Rattle.law_state.proofs.AtNodes.{updates-leave}
use Rattle.law_state.proofs.Free.{same-counted, standing-at, unlinked-change}
use Rattle.law_state.proofs.OneCalls.{closes-of-doomed-unlink}
use Rattle.law_state.proofs.RecordSteps.{fields-are}
use Rattle.law_state.proofs.WorkedFolder.{short_folder}
use Rattle.law_state.proofs.WorkedKept.{same-bytes, worked-id, worked-keeps, worked-represents, worked_folder}
use Rattle.law_state.proofs.WorkedMarks.{doomed-placed, doomed_checks}
use Rattle.law_state.proofs.WorkedRecord.{emptied, emptied-are, emptied-entry, emptied-leaves, emptied-loads, emptied-only, emptied-outside, emptied-sealed, emptied-writable, emptied-written, emptied_fields, emptied_folder, its-hash}
use Rattle.law_state.proofs.WorkedState.{doomed_object, nodes, records, the_doomed, twin, twin_bytes, worked, worked-valid, worked_layout}

-- ---- the doomed object is closed

abbrev pub closed : State
closed = (step worked 100 (to_close 5)).state

abbrev pub closed_layout : Layout
closed_layout = layout_without worked_layout (nodes 3)

pub closed-keeps : Keeps closed closed_layout (words_of the_doomed ++ []) worked_folder
closed-keeps = closes-of-doomed-unlink worked worked_layout [] worked_folder 100 5 2 doomed_object the_doomed worked-keeps (omega arith) refl (unfold computing in refl) doomed-placed

-- ---- its record becomes that of a new object: state 0, and no stream

abbrev entry_folder : Image
entry_folder = emptied_folder 0

abbrev pub fresh : Loaded
fresh = emptied

-- ---- it is that of a Create

-- its used blocks are among those of the words that are unlinked
of-three : (a b c x : Claim) → has_claim (a ∷ b ∷ []) x ≡ true → has_claim (a ∷ b ∷ c ∷ []) x ≡ true
unfolding has_claim
of-three a b c x h = go (same_claim x a) (same_claim x b) (same_claim x c) h where
  go : (s t u : Bool) → (s || (t || false)) ≡ true → (s || (t || (u || false))) ≡ true
  go true t u h = refl
  go false true u h = refl
  go false false u h = absurd (let z : false ≡ true = h in cc)

of-two : (a b x : Claim) → has_claim (b ∷ []) x ≡ true → has_claim (a ∷ b ∷ []) x ≡ true
unfolding has_claim
of-two a b x h = go (same_claim x a) (same_claim x b) h where
  go : (s t : Bool) → (t || false) ≡ true → (s || (t || false)) ≡ true
  go true t h = refl
  go false true h = refl
  go false false h = absurd (let z : false ≡ true = h in cc)

their-claims : (all_claims fresh ≡ BlockOf 0 3 ∷ BlockOf 1 3 ∷ []) × (claims_of (records 3) ≡ BlockOf 1 3 ∷ []) × (claims_of_all (words_of the_doomed ++ []) ≡ BlockOf 0 3 ∷ BlockOf 1 3 ∷ BlockOf 1 5 ∷ [])
unfolding all_claims record_claims claims_of kind_of block_count file_selector first_block external_number
their-claims = (refl, refl, refl)

among-unlinked : (claim : Claim) → has_claim (all_claims fresh) claim ≡ true → has_claim (claims_of_all (words_of the_doomed ++ [])) claim ≡ true
among-unlinked claim has = ap (λ (cs : List Claim). has_claim cs claim) their-claims.2 ∙ of-three (BlockOf 0 3) (BlockOf 1 3) (BlockOf 1 5) claim (ap (λ (cs : List Claim). has_claim cs claim) (sym their-claims.0) ∙ has)

record-unlinked : (claim : Claim) → has_claim (claims_of (records 3)) claim ≡ true → has_claim (claims_of_all (words_of the_doomed)) claim ≡ true
record-unlinked claim has = ap (λ (cs : List Claim). has_claim cs claim) their-claims.2 ∙ of-three (BlockOf 0 3) (BlockOf 1 3) (BlockOf 1 5) claim (of-two (BlockOf 0 3) (BlockOf 1 3) claim (ap (λ (cs : List Claim). has_claim cs claim) (sym their-claims.1) ∙ has))

fresh-once : repeats (all_claims fresh) ≡ false
unfolding repeats has_claim all_claims record_claims claims_of kind_of block_count file_selector first_block external_number
fresh-once = refl

entry-kept : KeepsUncounted closed closed_layout (words_of fresh ++ 0xA0010005 ∷ []) entry_folder
entry-kept = unlinked-change (has_claim (claims_of (records 3))) (words_of the_doomed) worked_folder entry_folder record-unlinked
    (emptied-only 0 emptied-are.0) closed closed_layout [] closed-keeps.entries

-- the counters of the index are as they were, and count the items still
entry-counted : Keeps closed closed_layout (words_of fresh ++ 0xA0010005 ∷ []) entry_folder
entry-counted = same-counted closed closed_layout (words_of the_doomed ++ []) (words_of fresh ++ 0xA0010005 ∷ []) worked_folder entry_folder closed-keeps entry-kept (updates-leave worked_folder entry_folder (records 3) (emptied-outside 0 emptied-are.0))

nothing-there : closed_layout.at (nodes 3) ≡ None
unfolding put
nothing-there = refl

its-bucket : bucket_of_hash (hash twin) ≡ 0xA0E1
its-bucket = ap bucket_of_hash its-hash

-- the record of `b` is alone in its bucket, and is the next of its record
one-in-bucket : (store_of entry_folder).table 0xA0E1 ≡ records 2
one-in-bucket = (entry-kept.represents.holds.shows.chains 0xA0E1 (lit< tt)).linked.0

short-next : (entry_at short_folder (records 3)).next ≡ records 2
unfolding short_folder zeros with_word spliced file_selector kind_of first_block place block_place block_size entry_in
short-next = refl

next-is : (store_of entry_folder).chain_next (records 3) ≡ records 2
unfolding store_of follow_at
next-is = sym ((emptied-written 0 emptied-are.0).0.chain_next (records 3)) ∙ rw ((standing-at worked_folder worked worked_layout worked-represents (nodes 3) the_doomed refl).record_) (ap (λ (f : ℕ → ℕ). (entry_in f (place (records 3))).next) (same-bytes (Block (file_selector (records 3)))) ∙ short-next)

pub new-entry : IsNewEntryOf closed closed_layout twin fresh entry_folder
unfolding computing
new-entry = record {
  entry = record { loads = emptied-loads 0 emptied-are.0; key_is = refl; role = refl; streams = refl; dirty = refl; nobody = nothing-there; free = λ claim has. closed-keeps.entries.unlinked_words.free claim (among-unlinked claim has); single = fresh-once };
  prefix = record { follows = next-is ∙ sym one-in-bucket ∙ ap (store_of entry_folder).table (sym its-bucket); fresh = ap (λ (b : ℕ). is_among (map file_and_block (closed_layout.chains b)) (file_and_block (records 3))) its-bucket };
  good = ap (λ (l : ListView). l.checks (nodes 3)) (emptied-written 0 emptied-are.0).0.rest.list ∙ doomed_checks;
  sealed = emptied-sealed 0 emptied-are.0;
  mark = sym ((emptied-leaves 0 emptied-are.0).session.id ∙ worked-id);
  few = omega arith;
  missing = refl;
}

closed-valid : IsValidState closed
closed-valid = step_valid worked 100 (to_close 5) worked-valid (omega arith)

room-is : with_room closed 100 (to_create 5 twin) ≡ closed
unfolding computing
room-is = refl

-- so it is being created
pub creating : IsCreating closed 100 5 twin closed_layout (0xA0010005 ∷ []) fresh entry_folder
creating = record {
  valid = closed-valid;
  can = (omega arith, twin_bytes);
  passes = unfold computing in refl;
  kept = subst (λ (m : State). KeepsUncounted m closed_layout (words_of fresh ++ 0xA0010005 ∷ []) entry_folder) (sym room-is) entry-kept;
  entry = subst (λ (m : State). IsNewEntryOf m closed_layout twin fresh entry_folder) (sym room-is) new-entry;
}

-- ---- its node comes into the list, its record into its chain, and it is counted

entry-writable : IsWritable entry_folder
entry-writable = emptied-writable 0 emptied-are.0

walks : walked entry_folder ≡ nodes 1 ∷ nodes 0 ∷ nodes 2 ∷ []
unfolding computing
walks = walk-order (view_of entry_folder) closed closed_layout entry-kept.represents

three-at-rest : HasListAtRest (nodes 1 ∷ nodes 0 ∷ nodes 2 ∷ []) entry_folder
unfolding computing
three-at-rest = record { whole = entry-kept.represents.list; idle = entry-kept.represents.idle }

can-be-inserted : CanBeInserted (list_of entry_folder) (walked entry_folder) (nodes 3)
can-be-inserted = subst (λ (ns : List ℕ). CanBeInserted (list_of entry_folder) ns (nodes 3)) (sym walks) (record { rest = three-at-rest; lacks = refl; good = new-entry.good; few = omega arith })

abbrev listed_folder : Image
listed_folder = after (operation_steps insert (nodes 3) entry_folder) entry_folder

inserted : IsInsertDone entry_folder (nodes 3) listed_folder
inserted = insert-done entry_folder (nodes 3) entry-writable can-be-inserted

-- the Create may crash while its node is inserted
insert_stops : MayStop closed 100 (to_create 5 twin) listed_folder
insert_stops = inserts-stop closed 100 5 twin closed_layout (0xA0010005 ∷ []) fresh entry_folder listed_folder creating inserted.partly

-- a word of the index is written
abbrev pub with_index_word : ℕ → ℕ → Image → Image
with_index_word at x from = applied (Word Index at (word_bytes x)) from

pub index-word-is : (from : Image) (at x : ℕ) → length_of from Index ≡ 262512 → at + 4 ≤ 262512 → x < 2 ^ 32 → IsIndexWord at x from (with_index_word at x from)
index-word-is from at x long fits small = record { there = word-after_same from Index at x small (omega (arith, long, fits)); outside = outside_write Index at (word_bytes x) from }

-- the counters are written
module _ (items sum : ℕ) (from : Image) where
  abbrev with_items : Image
  with_items = with_index_word 8 items from

  abbrev with_low : Image
  with_low = with_index_word 48 (sum % 2 ^ 32) with_items

  abbrev with_sum : Image
  with_sum = with_index_word 52 (sum / 2 ^ 32) with_low

  abbrev pub with_counters : Image
  with_counters = with_index_word 268 items with_sum

  module _ (long : length_of from Index ≡ 262512) where
    items-long : length_of with_items Index ≡ 262512
    items-long = length-after_write from Index Index 8 (word_bytes items) ∙ long

    low-long : length_of with_low Index ≡ 262512
    low-long = length-after_write with_items Index Index 48 (word_bytes (sum % 2 ^ 32)) ∙ items-long

    sum-long : length_of with_sum Index ≡ 262512
    sum-long = length-after_write with_low Index Index 52 (word_bytes (sum / 2 ^ 32)) ∙ low-long

    pub counters-long : length_of with_counters Index ≡ 262512
    counters-long = length-after_write with_sum Index Index 268 (word_bytes items) ∙ sum-long

    pub counters-are : items < 2 ^ 32 → sum < 2 ^ 64 → AreCountersWritten items sum items from with_counters
    counters-are few small = record {
      first = with_items;
      second = with_sum;
      items_written = index-word-is from 8 items long (lit≤ tt) few;
      sum_written = record {
        between = with_low;
        low = index-word-is with_items 48 (sum % 2 ^ 32) items-long (lit≤ tt) (mod_below sum (2 ^ 32) (lit< tt));
        high = index-word-is with_low 52 (sum / 2 ^ 32) low-long (lit≤ tt) (omega (arith, small));
      };
      nodes_written = index-word-is with_sum 268 items sum-long (lit≤ tt) few;
    }

  pub counters-bytes : AreBytes from → AreBytes with_counters
  counters-bytes small = are_bytes-word Index 268 items with_sum (are_bytes-word Index 52 (sum / 2 ^ 32) with_low (are_bytes-word Index 48 (sum % 2 ^ 32) with_items (are_bytes-word Index 8 items from small)))

abbrev linked_folder : Image
linked_folder = with_index_word (place_of_bucket 0xA0E1) (records 3) listed_folder

listed-long : length_of listed_folder Index ≡ 262512
listed-long = sound-whole listed_folder (inserted.partly.headers.sound entry-kept.sound)

listed-writable : IsWritable listed_folder
listed-writable = until_last IsWritable IsWritable (operation_steps insert (nodes 3) entry_folder) entry_folder (writes-go_on entry_folder (writes_of insert (nodes 3) (list_of entry_folder)) entry-writable)

listed-entry : (store_of listed_folder).entry (records 3) ≡ Some (emptied_fields 0)
listed-entry = sym (inserted.partly.shown.store.store.entry (records 3) (λ claim has. refl)) ∙ emptied-entry 0 emptied-are.0

bucket-is : bucket_at listed_folder (records 3) ≡ 0xA0E1
bucket-is = ap (λ (f : RecordFields). bucket_of_hash f.hash) (fields-are listed_folder (records 3) (emptied_fields 0) listed-writable listed-entry refl)

link-word : IsIndexWord (place_of_bucket 0xA0E1) (records 3) listed_folder linked_folder
link-word = index-word-is listed_folder (place_of_bucket 0xA0E1) (records 3) listed-long (lit≤ tt) (lit< tt)

linked : HasRecordInFront listed_folder (records 3) linked_folder
linked = record {
  list = (buckets-written listed_folder linked_folder 0xA0E1 (records 3) link-word).0;
  store = (buckets-written listed_folder linked_folder 0xA0E1 (records 3) link-word).1 ∙ ap (λ (b : ℕ). record (store_of listed_folder) { table = put (store_of listed_folder).table b (records 3) }) (sym bucket-is);
  headers = buckets-unchecked listed_folder linked_folder 0xA0E1 link-word.outside;
  outside = subst (λ (b : ℕ). SameOutside (one_word Index (place_of_bucket b)) listed_folder linked_folder) (sym bucket-is) link-word.outside;
}

link_stops : MayStop closed 100 (to_create 5 twin) linked_folder
link_stops = links-stop closed 100 5 twin closed_layout (0xA0010005 ∷ []) fresh entry_folder listed_folder linked_folder creating inserted linked

-- the counters
abbrev pub made : State
made = (step closed 100 (to_create 5 twin)).state

four-items : length made.uses < 2 ^ 32
unfolding computing
four-items = lit< tt

abbrev bytes_of_items : ℕ
bytes_of_items = charged made (with_new closed_layout twin fresh)

bytes-small : bytes_of_items < 2 ^ 64
unfolding computing put
bytes-small = lit< tt

abbrev pub made_folder : Image
made_folder = with_counters (length made.uses) bytes_of_items linked_folder

linked-long : length_of linked_folder Index ≡ 262512
linked-long = length-after_write listed_folder Index Index (place_of_bucket 0xA0E1) (word_bytes (records 3)) ∙ listed-long

-- so the Create ends with the new object
pub created : Keeps made (with_new closed_layout twin fresh) (0xA0010005 ∷ []) made_folder
created = creates-counted closed closed 100 5 twin closed_layout closed_layout (0xA0010005 ∷ []) fresh entry_folder listed_folder linked_folder made_folder creating entry-counted.counters inserted linked
    (counters-are (length made.uses) bytes_of_items linked_folder linked-long four-items bytes-small)

-- the folder can be written still
made-long : length_of made_folder Index ≡ 262512
made-long = counters-long (length made.uses) bytes_of_items linked_folder linked-long

pub made-writable : IsWritable made_folder
made-writable = record {
  bytes = counters-bytes (length made.uses) bytes_of_items linked_folder (are_bytes-word Index (place_of_bucket 0xA0E1) (records 3) listed_folder listed-writable.bytes);
  has_header = subst (λ (n : ℕ). header_length ≤ n) (sym made-long) (lit≤ tt);
}
