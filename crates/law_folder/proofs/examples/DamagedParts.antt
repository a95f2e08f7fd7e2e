-- A parent and a part of it, computed on views: both are kept and are candidates, and the part alone is dropped.
use Rattle.std.proofs.Common.{◌≡◌, ℕ, List, [], ◌∷◌, ◌++◌, refl, false, Some, None}
use Rattle.std.specs.Prelude.{if◌then◌else◌, ◌==◌, ◌&&◌, codes, replicate}
use Rattle.spec_image.specs.Bytes.{word_bytes, words_at}
use Rattle.spec_format.specs.Hash.{of_four, of_three, of_one, of_bytes, mixed, hash}
use Rattle.spec_format.specs.Address.{kind_of, block_count, file_selector, first_block, external_number}
use Rattle.spec_format.specs.Storage.{entry_blocks}
use Rattle.spec_format.specs.Claims.{claims_of, has_claim, overlap, repeats}
use Rattle.std.specs.Fmt.{digits}
use Rattle.spec_format.specs.Names.{read_name, split_last, child_name}
use Rattle.spec_format.specs.SparseIndex.{read_parent_index, read_part_index}
use Rattle.spec_folder.specs.Walk.{walk, walk_from}
use Rattle.spec_folder.specs.View.{View, RecordFields}
use Rattle.spec_folder.specs.Chains.{chain_from}
use Rattle.spec_folder.specs.Entries.{is_key_length, stored_key, stored_stream, stored_streams, role_of, parent_role, part_role, is_covered}
use Rattle.spec_folder.specs.Reasons as reason
use Rattle.spec_folder.specs.Loads.{load, load_key, load_record, record_claims, all_claims}
use Rattle.spec_folder.specs.Audit.{shares_key, is_orphan, admit, verdicts, kept_among, dropped_among}
use Rattle.spec_folder.specs.Candidates.{name_at, is_parent_at, is_candidate, candidates}
use Rattle.law_folder.proofs.examples.DamagedViews.{Row, node, shown, plain_core, kept_nodes, dropped_nodes}

-- the bytes of an index before its bitmap: signature 5, the magic, a key of one byte, no partial block
abbrev pub index_head : List ℕ
index_head = word_bytes 5 ++ word_bytes 0 ++ word_bytes 0xC103CAC3 ++ word_bytes 1 ++ word_bytes 0xFFFFFFFF ++ word_bytes 0 ++ replicate 40 0

-- the parent `a` has its index, with part 0, in stream 2
abbrev pub parent_core : RecordFields
parent_core = record (plain_core 0x90000000) { data_size = 0 ∷ 0 ∷ 8256 ∷ 0 ∷ []; data_addr = 0 ∷ 0 ∷ 0xC2030000 ∷ 0 ∷ []; flags = 1 }

-- the part has the name of part 0 as its key, no data, and its index in stream 2
abbrev pub part_core : RecordFields
part_core = record (plain_core 0x90000001) { hash = 0x148D945; key_len = 11; data_size = 0 ∷ 0 ∷ 192 ∷ 0 ∷ []; data_addr = 0 ∷ 0 ∷ 0xA0010008 ∷ 0 ∷ []; flags = 2 }

-- a view of these records, where each is the first of its bucket; the bit of part 0 is in this first byte of the parent's bitmap
abbrev pub sparse_view : ℕ → ℕ → List (ℕ × Row) → View
sparse_view bits head nodes =
    let plain : View = shown head 0xA0010000 nodes ((0xA0010000, record { chain_next = 0; fields = parent_core }) ∷ (0xA0010001, record { chain_next = 0; fields = part_core }) ∷ []) in
    record plain {
      store = record plain.store {
        table = λ b. if b == 0xA782 then 0xA0010000 else if b == 0xD945 then 0xA0010001 else 0;
        key_place = λ w n. if w == 0xA0010000 then codes "a" else codes "Range_a:5:0";
        stored = λ size w.
            if (size == 0) && (w == 0) then Some [] else
            if (size == 8256) && (w == 0xC2030000) then Some (index_head ++ bits ∷ replicate 8191 0) else
            if (size == 192) && (w == 0xA0010008) then Some (index_head ++ replicate 128 0) else
            None;
      };
    }

-- the part in front of its parent
abbrev pub both_nodes : List (ℕ × Row)
both_nodes = (0x90000001, node 0x90000000 0x90000001 0xA0010001) ∷ (0x90000000, node 0x90000000 0x90000001 0xA0010000) ∷ []

-- both are kept, in the order of the walk
family : View
family = sparse_view 1 0x90000001 both_nodes

family_is_kept : kept_nodes family ≡ 0x90000001 ∷ 0x90000000 ∷ []
unfolding family kept_among verdicts load load_record load_key admit is_key_length stored_key stored_stream stored_streams role_of parent_role part_role is_covered read_parent_index read_part_index read_name split_last child_name digits words_at shares_key is_orphan record_claims all_claims claims_of has_claim overlap repeats kind_of block_count file_selector first_block external_number entry_blocks walk walk_from chain_from hash mixed of_bytes of_four of_three of_one
family_is_kept = refl

-- both nodes are candidates, the part since its parent is listed
family_are_candidates : candidates family ≡ 0x90000001 ∷ 0x90000000 ∷ []
unfolding family is_candidate name_at is_parent_at is_key_length stored_key stored_stream stored_streams role_of parent_role read_parent_index read_name split_last child_name digits words_at block_count entry_blocks walk walk_from
family_are_candidates = refl

-- a part whose bit is 0, and one whose parent isn't listed
no_bit : View
no_bit = sparse_view 2 0x90000001 both_nodes

orphan : View
orphan = sparse_view 1 0x90000001 ((0x90000001, node 0x90000001 0x90000001 0xA0010001) ∷ [])

for_parent : (dropped_nodes no_bit ≡ (0x90000001, reason.Parent) ∷ []) × (dropped_nodes orphan ≡ (0x90000001, reason.Parent) ∷ [])
unfolding no_bit orphan dropped_among verdicts load load_record load_key admit is_key_length stored_key stored_stream stored_streams role_of parent_role part_role is_covered read_parent_index read_part_index read_name split_last child_name digits words_at shares_key is_orphan record_claims all_claims claims_of has_claim overlap repeats kind_of block_count file_selector first_block external_number entry_blocks walk walk_from chain_from hash mixed of_bytes of_four of_three of_one
for_parent = (refl, refl)

-- the part whose bit is 0 is a candidate all the same, and the one without its parent is none
candidate_parts : (candidates no_bit ≡ 0x90000001 ∷ 0x90000000 ∷ []) × (candidates orphan ≡ [])
unfolding no_bit orphan is_candidate name_at is_parent_at is_key_length stored_key stored_stream stored_streams role_of parent_role read_parent_index read_name split_last child_name digits words_at block_count entry_blocks walk walk_from
candidate_parts = (refl, refl)

-- a part whose parent is dirty is no candidate
dirty_parent : View
dirty_parent = sparse_view 1 0x90000001 ((0x90000001, node 0x90000000 0x90000001 0xA0010001) ∷ (0x90000000, record { next = 0x90000000; prev = 0x90000001; contents = 0xA0010000; dirty = 5 }) ∷ [])

no_candidates : candidates dirty_parent ≡ []
unfolding dirty_parent is_candidate name_at is_parent_at is_key_length stored_key stored_stream stored_streams role_of parent_role read_parent_index read_name split_last child_name digits words_at block_count entry_blocks walk walk_from
no_candidates = refl

-- a record whose checksum is wrong is no part: its node is a candidate, whatever the flags are, and is dropped for its checksum
unsealed : ℕ → View
unsealed flags = shown 0x90000000 0xA0010000 ((0x90000000, node 0x90000000 0x90000000 0xA0010000) ∷ []) ((0xA0010000, record { chain_next = 0; fields = record (plain_core 0x90000000) { checks = false; flags = flags } }) ∷ [])

unsealed_is_candidate : (flags : ℕ) → (candidates (unsealed flags) ≡ 0x90000000 ∷ []) × (dropped_nodes (unsealed flags) ≡ (0x90000000, reason.Seal) ∷ [])
unfolding unsealed is_candidate dropped_among verdicts load walk walk_from
unsealed_is_candidate flags = (refl, refl)
