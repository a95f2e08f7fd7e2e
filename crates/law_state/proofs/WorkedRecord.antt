-- The record of the worked folder's doomed object, once its stream is empty, and its state is written anew: what it loads as, and that nothing else has
-- changed.
use Rattle.std.proofs.Common.{◌≡◌, ◌≢◌, inr, ℕ, ◌+◌, ◌<◌, ◌≤◌, List, [], ◌∷◌, All, refl, ap, sym, ◌∙◌, arith, true, false, Ok, Some}
use Rattle.std.specs.Prelude.{◌%◌}
use Rattle.std.proofs.lemmas.Bool.{eq-eqb}
use Rattle.std.proofs.lemmas.List.Elements.{All-cons, All-nil}
use Rattle.spec_image.specs.Bytes.{range_at, spliced, words_at, zeros}
use Rattle.spec_image.specs.Footprint.{SameOutside}
use Rattle.spec_image.specs.Image.{Block, Image}
use Rattle.spec_image.specs.Steps.{with_word, with_words}
use Rattle.spec_format.specs.Address.{block_count, block_place, block_size, blocks_256, file_selector, first_block, kind_of, place}
use Rattle.spec_format.specs.Claims.{claims_of, has_claim}
use Rattle.spec_format.specs.Hash.{hash, mixed, of_bytes, of_four, of_three}
use Rattle.spec_format.specs.Records.{entry_body, entry_checks, entry_in, entry_is_sealed, node_in, node_is_sealed}
use Rattle.spec_format.specs.Sealed.{AreChanges, record_at, record_range, seal_place, size_by_kind}
use Rattle.spec_format.specs.Storage.{entry_blocks, is_storage}
use Rattle.spec_folder.specs.Entries.{IsPlain, is_key_length, role_of, stored_key, stored_stream, stored_streams}
use Rattle.spec_folder.specs.ListImages.{IsWritable}
use Rattle.spec_folder.specs.Loads.{Loaded, load, unchained_rule}
use Rattle.spec_folder.specs.ShownChanges.{OnlyRecordFieldsChange}
use Rattle.spec_folder.specs.Sound.{AreSealed}
use Rattle.spec_folder.specs.View.{NodeFields, RecordFields, block_bytes, entry_at, fields_at, fields_of, key_place_at, node_at, node_fields_at, store_of, stored_at}
use Rattle.law_folder.specs.RecordUpdates.{sealed_fields}
use Rattle.law_folder.proofs.updates.Updates.{entry-seal}
use Rattle.law_folder.proofs.walks.Loading.{load-from}
use Rattle.law_state.specs.Arranging.{LeavesFiles}
use Rattle.law_state.specs.Changes.{ChangesOnly}
use Rattle.law_state.proofs.Free.{standing-at}
use Rattle.law_state.proofs.RecordSteps.{rewritten, rewritten-fields, rewritten-leaves, rewritten-only, rewritten-outside, rewritten-sealed, rewritten-writable}
use Rattle.law_state.proofs.WorkedFolder.{short_folder}
use Rattle.law_state.proofs.WorkedKept.{same-bytes, worked-keeps, worked-represents, worked_folder}
use Rattle.law_state.proofs.WorkedRemovals.{worked-writable}
use Rattle.law_state.proofs.WorkedState.{nodes, records, the_doomed, twin, worked, worked_layout}

abbrev doomed_fields : RecordFields
doomed_fields = record { checks = true; hash = 0xF381A0E1; rankings_node = nodes 3; state = 2; key_len = 3; long_key = 0; data_size = 3 ∷ 0 ∷ 0 ∷ 0 ∷ []; data_addr = 0xA0010005 ∷ 0 ∷ 0 ∷ 0 ∷ []; flags = 0 }

short-fields : fields_of (entry_at short_folder (records 3)) ≡ doomed_fields
unfolding short_folder zeros with_word spliced file_selector kind_of first_block place block_place block_size entry_checks entry_is_sealed entry_in entry_body words_at hash mixed of_bytes of_four
short-fields = refl

doomed-entry : (store_of worked_folder).entry (records 3) ≡ Some doomed_fields
unfolding store_of fields_at
doomed-entry = rw ((standing-at worked_folder worked worked_layout worked-represents (nodes 3) the_doomed refl).record_)
    (ap (λ (f : ℕ → ℕ). Some (fields_of (entry_in f (place (records 3))))) (same-bytes (Block (file_selector (records 3)))) ∙ ap (λ (e : RecordFields). Some e) short-fields)

-- the words that are written
abbrev pub emptied_words : ℕ → List (ℕ × ℕ)
emptied_words state = (20, state) ∷ (40, 0) ∷ (56, 0) ∷ []

its-kind : kind_of (records 3) ≡ blocks_256
unfolding kind_of
its-kind = refl

three-words : (state : ℕ) (P : ℕ × ℕ → Type 0) → P (20, state) → P (40, 0) → P (56, 0) → All P (emptied_words state)
three-words state P a b c = All-cons P (20, state) ((40, 0) ∷ (56, 0) ∷ []) a (All-cons P (40, 0) ((56, 0) ∷ []) b (All-cons P (56, 0) [] c (All-nil P)))

pub are-changes : (w : ℕ) → kind_of w ≡ blocks_256 → (state : ℕ) → AreChanges (seal_place w) (emptied_words state)
are-changes w kind state = let s = entry-seal w kind in record {
  few = omega arith;
  aligned = three-words state (λ c. c.0 % 4 ≡ 0) refl refl refl;
  before = three-words state (λ c. c.0 < seal_place w) (omega (arith, s)) (omega (arith, s)) (omega (arith, s));
  different = (
    All-cons (λ (c : ℕ × ℕ). c.0 ≢ 20) (40, 0) ((56, 0) ∷ []) (omega arith) (All-cons (λ (c : ℕ × ℕ). c.0 ≢ 20) (56, 0) [] (omega arith) (All-nil (λ (c : ℕ × ℕ). c.0 ≢ 20))),
    (All-cons (λ (c : ℕ × ℕ). c.0 ≢ 40) (56, 0) [] (omega arith) (All-nil (λ (c : ℕ × ℕ). c.0 ≢ 40)), (All-nil (λ (c : ℕ × ℕ). c.0 ≢ 56), tt)),
  );
}

pub before-seal : (w : ℕ) → kind_of w ≡ blocks_256 → (state : ℕ) → All (λ (c : ℕ × ℕ). c.0 + 4 ≤ seal_place w) (emptied_words state)
before-seal w kind state = let s = entry-seal w kind in three-words state (λ c. c.0 + 4 ≤ seal_place w) (omega (arith, s)) (omega (arith, s)) (omega (arith, s))

pub behind-next : (state : ℕ) → All (λ (c : ℕ × ℕ). 8 ≤ c.0) (emptied_words state)
behind-next state = three-words state (λ c. 8 ≤ c.0) (omega arith) (omega arith) (omega arith)

-- the record then, and what its node names
abbrev pub emptied_fields : ℕ → RecordFields
emptied_fields state = record doomed_fields { state = state; data_size = 0 ∷ 0 ∷ 0 ∷ 0 ∷ []; data_addr = 0 ∷ 0 ∷ 0 ∷ 0 ∷ [] }

abbrev pub emptied : Loaded
emptied = record the_doomed { streams = [] ∷ [] ∷ [] ∷ []; others = 0 ∷ 0 ∷ 0 ∷ 0 ∷ 0 ∷ [] }

same-record : record_at worked_folder (records 3) ≡ record_at short_folder (records 3)
unfolding record_at
same-record = ap (λ (f : ℕ → ℕ). range_at f (place (records 3)) (size_by_kind (kind_of (records 3)))) (same-bytes (Block (file_selector (records 3))))

-- read from the bytes of the record, for a live and for a doomed one
pub emptied-are : (sealed_fields (with_words (emptied_words 0) (record_at short_folder (records 3))) ≡ emptied_fields 0) × (sealed_fields (with_words (emptied_words 2) (record_at short_folder (records 3))) ≡ emptied_fields 2)
unfolding record_at range_at size_by_kind short_folder zeros with_word spliced file_selector kind_of first_block place block_place block_size entry_in words_at
emptied-are = (refl, refl)

short-key : range_at (block_bytes short_folder (records 3)) (place (records 3) + 96) 3 ≡ twin
unfolding range_at short_folder zeros with_word spliced file_selector kind_of first_block place block_place block_size
short-key = refl

right-length : is_key_length (records 3) doomed_fields ≡ true
unfolding is_key_length block_count entry_blocks
right-length = refl

short-node : (let n : NodeFields = record { contents = (node_at short_folder (nodes 3)).contents; dirty = (node_at short_folder (nodes 3)).dirty } in n) ≡ record { contents = records 3; dirty = 7 }
unfolding short_folder zeros with_word spliced file_selector kind_of first_block place block_place block_size node_in
short-node = refl

pub its-hash : hash twin ≡ 0xF381A0E1
unfolding hash mixed of_bytes of_three
its-hash = refl

abbrev pub emptied_folder : ℕ → Image
emptied_folder state = rewritten worked_folder (records 3) (emptied_words state)

module _ (state : ℕ) (become : sealed_fields (with_words (emptied_words state) (record_at short_folder (records 3))) ≡ emptied_fields state) where
  pub emptied-written : OnlyRecordFieldsChange (records 3) worked_folder (emptied_folder state) × ((store_of (emptied_folder state)).entry (records 3) ≡ Some (sealed_fields (with_words (emptied_words state) (record_at worked_folder (records 3)))))
  emptied-written = rewritten-fields worked_folder (records 3) doomed_fields worked-writable doomed-entry refl (emptied_words state) (are-changes (records 3) its-kind state) (before-seal (records 3) its-kind state) (behind-next state)

  pub emptied-entry : (store_of (emptied_folder state)).entry (records 3) ≡ Some (emptied_fields state)
  emptied-entry = emptied-written.1 ∙ ap (λ (bytes : List ℕ). Some (sealed_fields (with_words (emptied_words state) bytes))) same-record ∙ ap (λ (f : RecordFields). Some f) become

  key-is : (store_of (emptied_folder state)).key_place (records 3) 3 ≡ twin
  unfolding store_of key_place_at
  key-is = sym (emptied-written.0.rest.key_place (records 3) doomed_fields (inr refl) doomed-entry right-length refl)
      ∙ ap (λ (f : ℕ → ℕ). range_at f (place (records 3) + 96) 3) (same-bytes (Block (file_selector (records 3)))) ∙ short-key

  node-is : (store_of (emptied_folder state)).node_fields (nodes 3) ≡ Some (record { contents = records 3; dirty = 7 })
  unfolding store_of node_fields_at
  node-is = sym (emptied-written.0.rest.node_fields (nodes 3)) ∙ rw ((standing-at worked_folder worked worked_layout worked-represents (nodes 3) the_doomed refl).node)
      (ap (λ (f : ℕ → ℕ). let n : NodeFields = record { contents = (node_in f (place (nodes 3))).contents; dirty = (node_in f (place (nodes 3))).dirty } in Some n) (same-bytes (Block (file_selector (nodes 3)))) ∙ ap (λ (n : NodeFields). Some n) short-node)

  no-stream : (store_of (emptied_folder state)).stored 0 0 ≡ Some []
  unfolding store_of stored_at is_storage
  no-stream = refl

  emptied-streams : stored_streams (store_of (emptied_folder state)) (emptied_fields state) ≡ Some ([] ∷ [] ∷ [] ∷ [])
  unfolding stored_streams stored_stream
  emptied-streams = rw no-stream refl

  emptied-key : stored_key (store_of (emptied_folder state)) (records 3) (emptied_fields state) ≡ Some twin
  unfolding stored_key
  emptied-key = ap (λ (k : List ℕ). Some k) key-is

  its-length : is_key_length (records 3) (emptied_fields state) ≡ true
  unfolding is_key_length block_count entry_blocks
  its-length = refl

  emptied-role : role_of (emptied_fields state) twin ([] ∷ [] ∷ [] ∷ []) ≡ Some IsPlain
  unfolding role_of
  emptied-role = refl

  pub emptied-loads : load (store_of (emptied_folder state)) (unchained_rule state) (nodes 3) ≡ Ok emptied
  emptied-loads = load-from (store_of (emptied_folder state)) (unchained_rule state) (nodes 3) emptied (record { contents = records 3; dirty = 7 }) (emptied_fields state) (record {
    node = node-is;
    entry = emptied-entry;
    checks = refl;
    facts = record {
      keyed = record { state = eq-eqb state state refl; back = refl; flags = refl; clean = refl; key_length = its-length; key = emptied-key; hashed = rw its-hash refl; chained = refl };
      streams = emptied-streams;
      role = emptied-role;
      node_is = refl;
      contents_is = refl;
      dirty_is = refl;
      others_are = refl;
    };
  })

  pub emptied-outside : SameOutside (record_range (records 3)) worked_folder (emptied_folder state)
  emptied-outside = rewritten-outside worked_folder (records 3) doomed_fields worked-writable doomed-entry refl (emptied_words state) (are-changes (records 3) its-kind state) (before-seal (records 3) its-kind state)

  pub emptied-only : ChangesOnly (has_claim (claims_of (records 3))) worked_folder (emptied_folder state)
  emptied-only = rewritten-only worked_folder (records 3) doomed_fields worked-writable doomed-entry refl (emptied_words state) (are-changes (records 3) its-kind state) (before-seal (records 3) its-kind state)

  pub emptied-leaves : LeavesFiles worked_folder (emptied_folder state)
  emptied-leaves = rewritten-leaves worked_folder (records 3) doomed_fields worked-writable doomed-entry refl (emptied_words state) (are-changes (records 3) its-kind state) (before-seal (records 3) its-kind state)

  pub emptied-writable : IsWritable (emptied_folder state)
  emptied-writable = rewritten-writable worked_folder (records 3) doomed_fields worked-writable doomed-entry refl (emptied_words state) (are-changes (records 3) its-kind state) (before-seal (records 3) its-kind state)

  -- node and record have their checksums
  in-nodes : (i : ℕ) → (record_range (records 3)).bytes (Block (file_selector (nodes 3))) i ≡ false
  unfolding file_selector
  in-nodes i = refl

  pub emptied-sealed : AreSealed (emptied_folder state) emptied
  emptied-sealed = record {
    node = ap (λ (f : ℕ → ℕ). node_is_sealed (node_in f (place (nodes 3)))) (λ j i. emptied-outside.bytes (Block (file_selector (nodes 3))) i (in-nodes i) j) ∙ (worked-keeps.entries.sealed (nodes 3) the_doomed refl).node;
    entry = rewritten-sealed worked_folder (records 3) doomed_fields worked-writable doomed-entry refl (emptied_words state) (are-changes (records 3) its-kind state) (before-seal (records 3) its-kind state);
  }
