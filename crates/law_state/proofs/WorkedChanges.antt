-- In the worked folder `b` is opened and made dirty; then a Write cuts its stream, and its record is written anew: meanwhile the old durable contents are
-- recovered, and in the end the state without its stream is kept.
use Rattle.std.proofs.Common.{◌≡◌, inl, inr, ℕ, ◌+◌, ◌≤◌, List, [], ◌∷◌, ◌++◌, length, refl, ap, sym, ◌∙◌, subst, arith, lit<, true, false, None, Ok, Some, codes, replicate}
use Rattle.std.specs.Prelude.{◌⊎◌}
use Rattle.std.proofs.lemmas.Bool.{or_right}
use Rattle.std.specs.List.Sorted.{IsPermutation}
use Rattle.std.proofs.lemmas.List.Sorted.{IsPermutation-middle}
use Rattle.spec_image.specs.Bytes.{content, range_at, spliced, word_at, word_bytes, words_at, zeros}
use Rattle.spec_image.specs.Footprint.{SameOutside, range}
use Rattle.spec_image.specs.Image.{Block, Image}
use Rattle.spec_image.specs.Steps.{Word, after, applied, with_word, with_words}
use Rattle.spec_image.proofs.Words.{length-with_word, word-beside, word-there}
use Rattle.blk_model.specs.Effects.{with_slot}
use Rattle.blk_model.specs.Holding.{rest, row_of}
use Rattle.blk_model.specs.Items.{main, part}
use Rattle.blk_model.specs.Request.{Request, to_write}
use Rattle.blk_model.specs.State.{IsValidState, Object, State}
use Rattle.blk_model.specs.Step.{step}
use Rattle.blk_model.proofs.Computing.{computing}
use Rattle.blk_model.proofs.Steps.{step_valid}
use Rattle.blk_model.proofs.StopRows.{codes_are_bytes}
use Rattle.spec_format.specs.Address.{block_count, block_place, block_size, blocks_256, byte_size, external_number, file_selector, first_block, kind_of, place}
use Rattle.spec_format.specs.BlockFiles.{stands_in}
use Rattle.spec_format.specs.Claims.{BlockOf, Claim, claims_of, has_claim, repeats, same_claim}
use Rattle.spec_format.specs.Hash.{hash, mixed, of_bytes, of_four, of_one}
use Rattle.spec_format.specs.Records.{entry_body, entry_checks, entry_in, entry_is_sealed, node_in, node_is_sealed}
use Rattle.spec_format.specs.Sealed.{record_at, record_range}
use Rattle.spec_format.specs.Storage.{entry_blocks, is_storage}
use Rattle.spec_format.proofs.Finished.{headers-kept}
use Rattle.spec_folder.specs.Entries.{IsPlain, is_key_length, role_of, stored_key, stored_stream, stored_streams}
use Rattle.spec_folder.specs.Footprint.{IsInsideNode, IsReplaced, OnlyLinksChange}
use Rattle.spec_folder.specs.Layout.{is_listed, rule_of}
use Rattle.spec_folder.specs.ListImages.{IsWritable, steps_of_touch}
use Rattle.spec_folder.specs.ListView.{put}
use Rattle.spec_folder.specs.Loads.{Loaded, all_claims, load, record_claims, unchained_rule}
use Rattle.spec_folder.specs.ShownChanges.{OnlyChainNextChanges, OnlyRecordFieldsChange}
use Rattle.spec_folder.specs.Sound.{AreSealed, words_of}
use Rattle.spec_folder.specs.View.{RecordFields, block_bytes, entry_at, fields_at, fields_of, key_place_at, store_of, stored_at, view_of}
use Rattle.law_folder.specs.RecordUpdates.{sealed_fields}
use Rattle.law_folder.proofs.walks.Loading.{load-from}
use Rattle.law_folder.proofs.walks.Loads.{load-then}
use Rattle.law_state.specs.Arranging.{LeavesFiles}
use Rattle.law_state.specs.Changes.{ChangesOnly, Finds}
use Rattle.law_state.specs.Commands.{MayStop}
use Rattle.law_state.specs.CommandStates.{KeepsOtherKeys, amidst, with_room}
use Rattle.law_state.specs.Keeping.{CountsItems, KeepsUncounted}
use Rattle.law_state.specs.ListLaws.{IsTouchDone}
use Rattle.law_state.specs.ObjectLaws.{IsItemNow, IsObjectNow, layout_after}
use Rattle.law_state.proofs.ChangedStates.{main-changed}
use Rattle.law_state.proofs.DoneSteps.{touch-done}
use Rattle.law_state.proofs.Free.{standing-at}
use Rattle.law_state.proofs.AtNodes.{free-but, updates-leave}
use Rattle.law_state.proofs.Allocating.{used-stand}
use Rattle.law_state.proofs.Writes.{block-writes}
use Rattle.law_folder.proofs.states.Marking.{repeats-apart}
use Rattle.spec_image.proofs.Footprints.{outside_write}
use Rattle.law_state.proofs.Links.{data-inside, next-links, updates-are-inside}
use Rattle.law_state.proofs.Links as links
use Rattle.law_state.proofs.Objects.{changed-items-kept, unsettled-find}
use Rattle.law_state.proofs.MarkSteps.{marked_at, marks-writable}
use Rattle.law_state.proofs.RecordSteps.{long-record, next-outside, next-sealed, next-shown, rewritten, rewritten-fields, rewritten-only, rewritten-outside, rewritten-sealed, was-fields, with_next}
use Rattle.law_state.proofs.WorkedFolder.{short_folder}
use Rattle.law_state.proofs.WorkedKept.{same-bytes, worked-represents, worked_folder}
use Rattle.law_state.proofs.WorkedMarks.{b_checks, b_is_marked, opened, opened-valid, opened-writable, opened_folder, unsettled, unsettled-keeps, unsettled_layout, write_unsettles}
use Rattle.law_state.proofs.WorkedRecord.{are-changes, before-seal, behind-next, emptied_words}
use Rattle.law_state.proofs.WorkedRemovals.{touched_b}
use Rattle.law_state.proofs.WordStops.{unsettled-uses-stop}
use Rattle.law_state.proofs.WorkedState.{doomed_object, nodes, plain_object, records, sparse_object, the_plain, worked, worked_layout}

-- ---- `b` is dirty

abbrev pub open_object : Object
open_object = record plain_object { settled = false }

abbrev pub open_state : State
open_state = record worked {
  objects = Some open_object ∷ Some sparse_object ∷ Some doomed_object ∷ [];
  uses = main (codes "b") ∷ part (codes "a") 0 ∷ main (codes "a") ∷ [];
  names = replicate 5 None ++ Some 2 ∷ Some 0 ∷ replicate 4089 None;
}

abbrev open_b : Loaded
open_b = record the_plain { dirty = 7 }

abbrev open_folder : Image
open_folder = marked_at opened_folder (nodes 2) 7

open-is : unsettled ≡ open_state
unfolding computing
open-is = refl

open-keeps : KeepsUncounted open_state unsettled_layout [] open_folder
open-keeps = subst (λ (m : State). KeepsUncounted m unsettled_layout [] open_folder) open-is unsettled-keeps.entries

open-here : unsettled_layout.at (nodes 2) ≡ Some open_b
unfolding put
open-here = refl

open-writable : IsWritable open_folder
open-writable = marks-writable opened_folder (nodes 2) 7 opened-writable b_checks (lit< tt)

-- ---- it is accessed

abbrev zz_write : Request
zz_write = to_write 6 0 0 false (codes "zz")

abbrev used_folder : Image
used_folder = after (steps_of_touch (nodes 2) 71 open_folder) open_folder

open-used : IsTouchDone open_folder (nodes 2) used_folder
open-used = touch-done open_folder (nodes 2) 71 [] (nodes 1 ∷ nodes 0 ∷ []) open-writable (record { whole = open-keeps.represents.list; idle = open-keeps.represents.idle })

open-amidst : amidst (with_room opened 100 zz_write) 0 open_object open_state.uses ≡ open_state
unfolding computing
open-amidst = refl

others-stay : KeepsOtherKeys (with_room opened 100 zz_write) (codes "b") open_state.uses
unfolding computing
others-stay = refl

-- meanwhile a Write of it may crash
used_stops : MayStop opened 100 zz_write used_folder
used_stops = unsettled-uses-stop opened 100 zz_write 0 plain_object open_object open_state.uses (main (codes "b")) unsettled_layout [] open_folder used_folder opened-valid write_unsettles (record { key_is = refl; live = refl; unsettled = refl }) others-stay refl
    (subst (λ (m : State). KeepsUncounted m unsettled_layout [] open_folder) (sym open-amidst) open-keeps) (subst (λ (m : State). is_listed m (main (codes "b")) ≡ true) (sym open-amidst) refl) open-used.touched

-- ---- its record

abbrev b_fields : RecordFields
b_fields = record { checks = true; hash = 0x70C1A0E1; rankings_node = nodes 2; state = 0; key_len = 1; long_key = 0; data_size = 2 ∷ 0 ∷ 0 ∷ 0 ∷ []; data_addr = 0xA0010004 ∷ 0 ∷ 0 ∷ 0 ∷ []; flags = 0 }

short-fields : fields_of (entry_at short_folder (records 2)) ≡ b_fields
unfolding short_folder zeros with_word spliced file_selector kind_of first_block place block_place block_size entry_checks entry_is_sealed entry_in entry_body words_at hash mixed of_bytes of_four
short-fields = refl

worked-entry : (store_of worked_folder).entry (records 2) ≡ Some b_fields
unfolding store_of fields_at
worked-entry = rw ((standing-at worked_folder worked worked_layout worked-represents (nodes 2) the_plain refl).record_)
    (ap (λ (f : ℕ → ℕ). Some (fields_of (entry_in f (place (records 2))))) (same-bytes (Block (file_selector (records 2)))) ∙ ap (λ (e : RecordFields). Some e) short-fields)

-- neither the Open nor the dirty flag changes it
open-entry : (store_of open_folder).entry (records 2) ≡ Some b_fields
open-entry = sym (b_is_marked.marking.only.rest.store.entry (records 2) (λ claim has. refl)) ∙ sym (touched_b.touched.shown.store.store.entry (records 2) (λ claim has. refl)) ∙ worked-entry

b-kind : kind_of (records 2) ≡ blocks_256
unfolding kind_of
b-kind = refl

abbrev cut_fields : RecordFields
cut_fields = record b_fields { data_size = 0 ∷ 0 ∷ 0 ∷ 0 ∷ []; data_addr = 0 ∷ 0 ∷ 0 ∷ 0 ∷ [] }

-- what is written into it
with-words : (bytes : List ℕ) → length bytes ≡ 96 → sealed_fields bytes ≡ b_fields → sealed_fields (with_words (emptied_words 0) bytes) ≡ cut_fields
unfolding entry_in words_at
with-words bytes long was =
    let first : List ℕ = with_word 20 0 bytes in
    let second : List ℕ = with_word 40 0 first in
    let keep = (λ (j : ℕ) (a : (j + 4 ≤ 20) ⊎ (24 ≤ j)) (b : (j + 4 ≤ 40) ⊎ (44 ≤ j)) (c : (j + 4 ≤ 56) ⊎ (60 ≤ j)). word-beside j 56 0 second c ∙ word-beside j 40 0 first b ∙ word-beside j 20 0 bytes a) in
    let one : length first ≡ 96 = length-with_word 20 0 bytes ∙ long in
    let two : length second ≡ 96 = length-with_word 40 0 first ∙ one in
    let state_is = word-beside 20 56 0 second (inl (omega arith)) ∙ word-beside 20 40 0 first (inl (omega arith)) ∙ word-there 20 0 bytes (lit< tt) (omega (arith, long)) in
    let size_is = word-beside 40 56 0 second (inl (omega arith)) ∙ word-there 40 0 first (lit< tt) (omega (arith, one)) in
    let addr_is = word-there 56 0 second (lit< tt) (omega (arith, two)) in
    let sizes : word_at (content bytes) 40 ∷ word_at (content bytes) 44 ∷ word_at (content bytes) 48 ∷ word_at (content bytes) 52 ∷ [] ≡ 2 ∷ 0 ∷ 0 ∷ 0 ∷ [] = ap (λ (f : RecordFields). f.data_size) was in
    let addrs : word_at (content bytes) 56 ∷ word_at (content bytes) 60 ∷ word_at (content bytes) 64 ∷ word_at (content bytes) 68 ∷ [] ≡ 0xA0010004 ∷ 0 ∷ 0 ∷ 0 ∷ [] = ap (λ (f : RecordFields). f.data_addr) was in
    let size_1 : word_at (content bytes) 44 ≡ 0 = cc in
    let size_2 : word_at (content bytes) 48 ≡ 0 = cc in
    let size_3 : word_at (content bytes) 52 ≡ 0 = cc in
    let addr_1 : word_at (content bytes) 60 ≡ 0 = cc in
    let addr_2 : word_at (content bytes) 64 ≡ 0 = cc in
    let addr_3 : word_at (content bytes) 68 ≡ 0 = cc in
    let low = (λ (j : ℕ) (h : j + 4 ≤ 20). keep j (inl h) (inl (omega arith)) (inl (omega arith))) in
    let mid = (λ (j : ℕ) (h : 24 ≤ j) (k : j + 4 ≤ 40). keep j (inr h) (inl k) (inl (omega arith))) in
    let size = (λ (j : ℕ) (h : 44 ≤ j) (k : j + 4 ≤ 56). keep j (inr (omega arith)) (inr h) (inl k)) in
    let high = (λ (j : ℕ) (h : 60 ≤ j). keep j (inr (omega arith)) (inr (omega arith)) (inr h)) in
    let hash_is = low 0 (omega arith) ∙ ap (λ (f : RecordFields). f.hash) was in
    let back_is = low 8 (omega arith) ∙ ap (λ (f : RecordFields). f.rankings_node) was in
    let length_is = mid 32 (omega arith) (omega arith) ∙ ap (λ (f : RecordFields). f.key_len) was in
    let long_is = mid 36 (omega arith) (omega arith) ∙ ap (λ (f : RecordFields). f.long_key) was in
    let flags_are = high 72 (omega arith) ∙ ap (λ (f : RecordFields). f.flags) was in
    λ i. record {
      checks = true;
      hash = hash_is i;
      rankings_node = back_is i;
      state = state_is i;
      key_len = length_is i;
      long_key = long_is i;
      data_size = size_is i ∷ (size 44 (omega arith) (omega arith) ∙ size_1) i ∷ (size 48 (omega arith) (omega arith) ∙ size_2) i ∷ (size 52 (omega arith) (omega arith) ∙ size_3) i ∷ [];
      data_addr = addr_is i ∷ (high 60 (omega arith) ∙ addr_1) i ∷ (high 64 (omega arith) ∙ addr_2) i ∷ (high 68 (omega arith) ∙ addr_3) i ∷ [];
      flags = flags_are i;
    }

abbrev pub cut_folder : Image
cut_folder = rewritten open_folder (records 2) (emptied_words 0)

cut-written : OnlyRecordFieldsChange (records 2) open_folder cut_folder × ((store_of cut_folder).entry (records 2) ≡ Some cut_fields)
cut-written =
    let w = rewritten-fields open_folder (records 2) b_fields open-writable open-entry refl (emptied_words 0) (are-changes (records 2) b-kind 0) (before-seal (records 2) b-kind 0) (behind-next 0) in
    (w.0, w.1 ∙ ap (λ (f : RecordFields). Some f) (with-words (record_at open_folder (records 2)) (long-record open_folder (records 2) b_fields open-writable open-entry refl) (was-fields open_folder (records 2) b_fields open-writable open-entry refl)))

cut-only : ChangesOnly (has_claim (claims_of (records 2))) open_folder cut_folder
cut-only = rewritten-only open_folder (records 2) b_fields open-writable open-entry refl (emptied_words 0) (are-changes (records 2) b-kind 0) (before-seal (records 2) b-kind 0)

cut-outside : SameOutside (record_range (records 2)) open_folder cut_folder
cut-outside = rewritten-outside open_folder (records 2) b_fields open-writable open-entry refl (emptied_words 0) (are-changes (records 2) b-kind 0) (before-seal (records 2) b-kind 0)

-- what is counted is as it was
pub cut-counted : CountsItems cut_folder unsettled unsettled_layout
cut-counted = updates-leave open_folder cut_folder (records 2) cut-outside ∙ unsettled-keeps.counters

-- the cut changes only what is the node's, so the old durable contents are recovered meanwhile
cut-inside : IsInsideNode (has_claim (claims_of (records 2))) (view_of open_folder) (view_of cut_folder) unsettled_layout (nodes 2) open_b
cut-inside = updates-are-inside open_state unsettled_layout [] open_folder cut_folder (nodes 2) open_b b_fields cut_fields open-keeps open-here cut-written.0 open-entry cut-written.1 refl refl

cut_finds : Finds (rest open_state) cut_folder
cut_finds = unsettled-find (has_claim (claims_of (records 2))) open_state unsettled_layout [] open_folder cut_folder 0 open_object (main (codes "b")) open_b open-keeps cut-only refl refl refl open-here cut-inside tt

-- so it is while bytes of its stream are written
abbrev data_folder : Image
data_folder = applied (Word (Block 1) 9216 (word_bytes 0x7777)) open_folder

data-at : (kind_of 0xA0010004 ≡ blocks_256) × (file_selector 0xA0010004 ≡ 1) × (place 0xA0010004 ≡ 9216) × (byte_size 0xA0010004 ≡ 256)
unfolding byte_size kind_of block_count file_selector first_block place block_place block_size
data-at = (refl, refl, refl, refl)

data-stands : stands_in open_folder 0xA0010004 ≡ true
unfolding put
data-stands = let all = used-stand open_state unsettled_layout [] open_folder open-keeps in all.1.1.0

data-only : ChangesOnly (has_claim (claims_of 0xA0010004)) open_folder data_folder
data-only = block-writes open_folder data_folder 0xA0010004 9216 4 data-stands (λ e. (let z : ◌≡◌ {A = ℕ} 2 0 = sym data-at.0 ∙ e in cc)) (let p = data-at.2 in omega (arith, p)) (let p = data-at.2 in let size = data-at.3 in omega (arith, p, size))
    (subst (λ (n : ℕ). SameOutside (range (Block n) 9216 4) open_folder data_folder) (sym data-at.1) (outside_write (Block 1) 9216 (word_bytes 0x7777) open_folder))

data-own : (claim : Claim) → has_claim (claims_of 0xA0010004) claim ≡ true → unsettled_layout.owner claim ≡ Some (nodes 2)
unfolding has_claim all_claims record_claims claims_of kind_of block_count file_selector first_block external_number
data-own claim has = open-keeps.represents.holds.lies.own (nodes 2) open_b claim open-here (or_right (same_claim claim (BlockOf 0 2)) _ (or_right (same_claim claim (BlockOf 1 2)) _ has))

data-apart : (repeats (claims_of (nodes 2) ++ claims_of 0xA0010004) ≡ false) × (repeats (claims_of (records 2) ++ claims_of 0xA0010004) ≡ false)
unfolding repeats has_claim claims_of kind_of block_count file_selector first_block external_number
data-apart = (refl, refl)

data-is-inside : IsInsideNode (has_claim (claims_of 0xA0010004)) (view_of open_folder) (view_of data_folder) unsettled_layout (nodes 2) open_b
data-is-inside = data-inside (has_claim (claims_of 0xA0010004)) unsettled_layout open_folder data_folder (nodes 2) open_b data-only (free-but open_state unsettled_layout [] open_folder open-keeps (nodes 2) open_b open-here (has_claim (claims_of 0xA0010004)) data-own)
    (λ claim. repeats-apart (claims_of (nodes 2)) (claims_of 0xA0010004) claim data-apart.0) (λ claim. repeats-apart (claims_of (records 2)) (claims_of 0xA0010004) claim data-apart.1)

data_finds : Finds (rest open_state) data_folder
data_finds = unsettled-find (has_claim (claims_of 0xA0010004)) open_state unsettled_layout [] open_folder data_folder 0 open_object (main (codes "b")) open_b open-keeps data-only refl refl refl open-here data-is-inside tt

-- ---- what lies there then

abbrev pub cut_b : Loaded
cut_b = record open_b { streams = [] ∷ [] ∷ [] ∷ []; others = 0 ∷ 0 ∷ 0 ∷ 0 ∷ 0 ∷ [] }

right-length : is_key_length (records 2) b_fields ≡ true
unfolding is_key_length block_count entry_blocks
right-length = refl

no-stream : (store_of cut_folder).stored 0 0 ≡ Some []
unfolding store_of stored_at is_storage
no-stream = refl

cut-streams : stored_streams (store_of cut_folder) cut_fields ≡ Some ([] ∷ [] ∷ [] ∷ [])
unfolding stored_streams stored_stream
cut-streams = rw no-stream refl

cut-role : role_of cut_fields (codes "b") ([] ∷ [] ∷ [] ∷ []) ≡ Some IsPlain
unfolding role_of
cut-role = refl

short-key : range_at (block_bytes short_folder (records 2)) (place (records 2) + 96) 1 ≡ codes "b"
unfolding range_at short_folder zeros with_word spliced file_selector kind_of first_block place block_place block_size
short-key = refl

worked-key : (store_of worked_folder).key_place (records 2) 1 ≡ codes "b"
unfolding store_of key_place_at
worked-key = ap (λ (f : ℕ → ℕ). range_at f (place (records 2) + 96) 1) (same-bytes (Block (file_selector (records 2)))) ∙ short-key

opened-entry : (store_of opened_folder).entry (records 2) ≡ Some b_fields
opened-entry = sym (touched_b.touched.shown.store.store.entry (records 2) (λ claim has. refl)) ∙ worked-entry

key-is : (store_of cut_folder).key_place (records 2) 1 ≡ codes "b"
key-is = sym (cut-written.0.rest.key_place (records 2) b_fields (inr refl) open-entry right-length refl)
    ∙ sym (b_is_marked.marking.only.rest.store.key_place (records 2) b_fields (λ claim has. refl) opened-entry right-length refl)
    ∙ sym (touched_b.touched.shown.store.store.key_place (records 2) b_fields (λ claim has. refl) worked-entry right-length refl) ∙ worked-key

cut-key : stored_key (store_of cut_folder) (records 2) cut_fields ≡ Some (codes "b")
unfolding stored_key
cut-key = ap (λ (k : List ℕ). Some k) key-is

its-length : is_key_length (records 2) cut_fields ≡ true
unfolding is_key_length block_count entry_blocks
its-length = refl

its-hash : hash (codes "b") ≡ 0x70C1A0E1
unfolding hash mixed of_bytes of_one
its-hash = refl

open-node : (store_of open_folder).node_fields (nodes 2) ≡ Some (record { contents = records 2; dirty = 7 })
open-node = load-then (store_of open_folder) (unchained_rule 0) (nodes 2) open_b (open-keeps.represents.holds.shows.each (nodes 2) open_b open-here) (λ n e f.
    f.node ∙ (λ i. Some (record { contents = sym f.facts.contents_is i; dirty = sym f.facts.dirty_is i })))

cut-loads : load (store_of cut_folder) (rule_of unsettled_layout (nodes 2)) (nodes 2) ≡ Ok cut_b
cut-loads = load-from (store_of cut_folder) (unchained_rule 0) (nodes 2) cut_b (record { contents = records 2; dirty = 7 }) cut_fields (record {
  node = sym (cut-written.0.rest.node_fields (nodes 2)) ∙ open-node;
  entry = cut-written.1;
  checks = refl;
  facts = record {
    keyed = record { state = refl; back = refl; flags = refl; clean = refl; key_length = its-length; key = cut-key; hashed = rw its-hash refl; chained = refl };
    streams = cut-streams;
    role = cut-role;
    node_is = refl;
    contents_is = refl;
    dirty_is = refl;
    others_are = refl;
  };
})

in-nodes : (i : ℕ) → (record_range (records 2)).bytes (Block (file_selector (nodes 2))) i ≡ false
unfolding file_selector
in-nodes i = refl

cut-sealed : AreSealed cut_folder cut_b
cut-sealed = record {
  node = ap (λ (f : ℕ → ℕ). node_is_sealed (node_in f (place (nodes 2)))) (λ j i. cut-outside.bytes (Block (file_selector (nodes 2))) i (in-nodes i) j) ∙ (open-keeps.sealed (nodes 2) open_b open-here).node;
  entry = rewritten-sealed open_folder (records 2) b_fields open-writable open-entry refl (emptied_words 0) (are-changes (records 2) b-kind 0) (before-seal (records 2) b-kind 0);
}

-- ---- the state is kept

abbrev pub cut_object : Object
cut_object = record open_object { streams = ([], [], []) }

abbrev pub cut : State
cut = with_slot 0 (Some cut_object) open_state

-- that is what a Write of nothing at its beginning leaves, with a cut
cut-is : (step open_state 100 (to_write 6 0 0 true [])).state ≡ cut
unfolding computing
cut-is = refl

cut-valid : IsValidState cut
cut-valid = subst IsValidState cut-is (step_valid open_state 100 (to_write 6 0 0 true []) open-keeps.valid (omega arith, omega arith, omega arith, codes_are_bytes [] tt))

cut-object : IsObjectNow open_state 0 open_object cut_object (main (codes "b"))
cut-object = record { here = refl; key = refl; live = refl; settled = refl; one = (main-changed open_state 0 open_object cut_object refl refl refl refl refl).0; valid = cut-valid }

cut-item : IsItemNow open_state cut unsettled_layout (main (codes "b")) open_b cut_b
unfolding row_of
cut-item = record { key = refl; contents = refl; dirty = refl; row = refl; mark = refl; parent = tt; of = λ name is. is }

cut-replaced : IsReplaced (has_claim (claims_of (records 2))) (view_of open_folder) (view_of cut_folder) unsettled_layout (nodes 2) open_b cut_b
cut-replaced = record { apart = cut-inside.apart; loads = cut-loads; bucket = cut-inside.bucket; chain_next = cut-inside.chain_next; links = cut-inside.links }

-- the word of the stream is unlinked
same-words : IsPermutation ([] ++ words_of open_b) ((0xA0010004 ∷ []) ++ words_of cut_b)
same-words = IsPermutation-middle (nodes 2 ∷ records 2 ∷ []) 0xA0010004 []

pub cut_is_kept : KeepsUncounted cut (layout_after unsettled_layout (nodes 2) cut_b) (0xA0010004 ∷ []) cut_folder
cut_is_kept = changed-items-kept (has_claim (claims_of (records 2))) open_state unsettled_layout [] (0xA0010004 ∷ []) open_folder cut_folder 0 open_object cut_object (main (codes "b")) open_b cut_b open-keeps cut-only
    cut-object refl open-here cut-item cut-replaced same-words cut-sealed

-- ---- a link

-- where the record of `b` gets that of the doomed object as its next, links change alone
abbrev linked_folder : Image
linked_folder = with_next open_folder (records 2) b_fields open-writable open-entry refl (records 3) (lit< tt)

link-shown : OnlyChainNextChanges (records 2) open_folder linked_folder × ((store_of linked_folder).chain_next (records 2) ≡ records 3)
link-shown = next-shown open_folder (records 2) b_fields open-writable open-entry refl (records 3) (lit< tt)

link_changes : OnlyLinksChange (records 2) (store_of open_folder) (store_of linked_folder)
link_changes = next-links open_folder linked_folder (records 2) link-shown.0

left : LeavesFiles open_folder open_folder
left = record { headers = record { headers = λ n i small. refl; lengths = λ n. refl; files = λ file. refl }; session = record { crash = refl; id = refl }; well_formed = headers-kept open_folder }

-- all nodes and records have their checksums
link_leaves : (node : ℕ) (loaded : Loaded) → unsettled_layout.at node ≡ Some loaded → AreSealed linked_folder loaded
link_leaves node loaded here = links.next-sealed open_state unsettled_layout [] open_folder open_folder linked_folder (nodes 2) open_b open-keeps left open-here
    (next-outside open_folder (records 2) b_fields open-writable open-entry refl (records 3) (lit< tt)) (next-sealed open_folder (records 2) b_fields open-writable open-entry refl (records 3) (lit< tt)) node loaded here (open-keeps.sealed node loaded here)
