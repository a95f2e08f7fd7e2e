-- The laws of what is kept: at two records of one key, at two folders that differ in a dirty node, and at new folders.
use Rattle.std.proofs.Common.{◌≡◌, ℕ, zero, suc, List, [], ◌∷◌, ◌++◌, refl, ap, sym, ◌∙◌, subst, true, Option, Some, None}
use Rattle.std.specs.Prelude.{◌==◌, codes}
use Rattle.std.specs.List.{AllByRecursion}
use Rattle.spec_image.specs.Bytes.{spliced, range_at, words_at, zeros}
use Rattle.spec_image.specs.Image.{Index, Block, Image}
use Rattle.spec_image.specs.Steps.{with_word, with_words}
use Rattle.spec_format.specs.Hash.{hash}
use Rattle.spec_format.specs.Address.{is_address, is_initialized, names_external, names_blocks, kind_of, reserved_bits, block_count, file_selector, first_block, external_number, block_size, block_place, place, byte_size}
use Rattle.spec_format.specs.Storage.{kind_for, blocks_for, entry_blocks, is_storage}
use Rattle.spec_format.specs.Standing.{stands, stands_as_blocks}
use Rattle.spec_format.specs.Records.{node_checks, entry_checks, node_in, entry_in}
use Rattle.spec_format.specs.Headers.{field_checks, head_checks, list_checks}
use Rattle.spec_format.specs.BlockFiles.{next_file_in, max_entries_in, files_along, linked, linked_up_to, kind_among, is_link, is_block_count, file_checks, checks_along, checks_of_kind, is_among, IsWellFormed}
use Rattle.spec_folder.specs.Walk.{walk, walk_from}
use Rattle.spec_folder.specs.Completion.{counts, completed_list}
use Rattle.spec_folder.specs.View.{StoreView, RecordFields, list_of, checks_at, next_at, prev_at, store_of, node_fields_at, fields_at, follow_at, key_place_at, stored_at, view_of}
use Rattle.spec_folder.specs.Chains.{chain, chain_from, bucket_of_hash}
use Rattle.spec_folder.specs.Entries.{is_key_length, stored_key, stored_stream, stored_streams}
use Rattle.spec_folder.specs.Loads.{held_rule}
use Rattle.spec_folder.specs.Audit.{kept_among, kept_by}
use Rattle.spec_folder.specs.Found.{completed, found}
use Rattle.spec_folder.specs.Candidates.{is_candidate, candidates, SameData, SameNamed}
use Rattle.spec_format.specs.NewFolder.{new_file_words}
use Rattle.law_folder.proofs.examples.OneEntry as one
use Rattle.law_folder.proofs.walks.LeavingOut.{leaving-out}
use Rattle.law_folder.proofs.walks.Loads.{one-chain}
use Rattle.law_folder.proofs.walks.FrameLaw.{only-candidates, frame-law}
use Rattle.law_folder.proofs.examples.Premises.{first_core, second_core, pair, second_is_left_out, both_are_keyed}
use Rattle.law_folder.proofs.examples.SmallFolder.{small_index, small_records, folder_with}

-- the second of two records of one key may be left out
pub second-may_be_left_out : kept_among pair.store held_rule (0x90000000 ∷ []) ≡ kept_among pair.store held_rule (0x90000000 ∷ 0x90000001 ∷ [])
second-may_be_left_out = leaving-out pair.store held_rule (λ w. w == 0x90000000) (0x90000000 ∷ 0x90000001 ∷ []) second_is_left_out

-- both records of one key are in one chain
pub both-are_in_one_chain : (is_among (chain pair.store (bucket_of_hash (hash (codes "a")))).reached 0xA0010000 ≡ true) × (is_among (chain pair.store (bucket_of_hash (hash (codes "a")))).reached 0xA0010001 ≡ true)
both-are_in_one_chain = let c = one-chain pair.store 0x90000000 0x90000001 0xA0010000 0xA0010001 0 0 first_core second_core (codes "a") both_are_keyed.0 both_are_keyed.1 in (c.1, c.2)

-- A folder with a dirty node in front of the entry's: its record isn't written yet.

abbrev dirty_nodes : List ℕ
dirty_nodes =
    with_words (new_file_words 0 ++ (20, 1024) ∷ (8208, 0x90000000) ∷ (8212, 0x90000001) ∷ (8216, 0xA0010000) ∷ (8244, 0x90000000) ∷ (8248, 0x90000001) ∷ (8252, 0xA0010002) ∷ (8256, 5) ∷ []) (zeros 8264)

-- the folder of these
unfoldable pub dirty_folder : Image
dirty_folder Index = Some (with_words ((288, 0x90000001) ∷ []) small_index)
dirty_folder (Block zero) = Some dirty_nodes
dirty_folder (Block (suc zero)) = Some small_records
dirty_folder (Block (suc (suc zero))) = Some (with_words (new_file_words 2) (zeros 8192))
dirty_folder (Block (suc (suc (suc zero)))) = Some (with_words (new_file_words 3) (zeros 8192))
dirty_folder _ = None

are-well_formed : IsWellFormed (folder_with small_records) × IsWellFormed dirty_folder
unfolding folder_with dirty_folder field_checks head_checks list_checks checks_of_kind checks_along file_checks next_file_in is_link is_block_count linked_up_to linked files_along zeros with_word spliced block_size
are-well_formed = (refl, refl)

-- the walks are another
other-walks : (walk (completed (view_of (folder_with small_records))).list ≡ 0x90000000 ∷ []) × (walk (completed (view_of dirty_folder)).list ≡ 0x90000001 ∷ 0x90000000 ∷ [])
unfolding folder_with dirty_folder zeros with_word spliced next_file_in max_entries_in linked files_along kind_among walk walk_from completed_list counts list_of checks_at next_at prev_at stands stands_as_blocks is_address is_initialized names_external names_blocks kind_of reserved_bits block_count file_selector first_block external_number block_size block_place place byte_size node_checks node_in
other-walks = (refl, refl)

-- both folders have the same candidate
one-candidate : (candidates (completed (view_of (folder_with small_records))) ≡ 0x90000000 ∷ []) × (candidates (completed (view_of dirty_folder)) ≡ 0x90000000 ∷ [])
unfolding folder_with dirty_folder zeros with_word spliced next_file_in max_entries_in linked files_along kind_among is_candidate store_of node_fields_at fields_at stands stands_as_blocks is_address is_initialized names_external names_blocks kind_of reserved_bits block_count file_selector first_block external_number block_size block_place place byte_size node_in entry_in entry_checks words_at
one-candidate = (rw other-walks.0 refl, rw other-walks.1 refl)

-- both folders agree on what the candidate names
abbrev old_stock : StoreView
old_stock = (completed (view_of (folder_with small_records))).store

abbrev new_stock : StoreView
new_stock = (completed (view_of dirty_folder)).store

its-record : (old_stock.node_fields 0x90000000 ≡ Some (record { contents = 0xA0010000; dirty = 0 })) × (new_stock.node_fields 0x90000000 ≡ Some (record { contents = 0xA0010000; dirty = 0 }))
    × (old_stock.entry 0xA0010000 ≡ Some one.fields) × (new_stock.entry 0xA0010000 ≡ Some one.fields)
unfolding folder_with dirty_folder zeros with_word spliced next_file_in max_entries_in linked files_along kind_among store_of node_fields_at fields_at stands stands_as_blocks is_address is_initialized names_external names_blocks kind_of reserved_bits block_count file_selector first_block external_number block_size block_place place byte_size node_in entry_in entry_checks words_at
its-record = (refl, refl, refl, refl)

its-data : SameData old_stock new_stock 0xA0010000 one.fields
unfolding folder_with dirty_folder zeros with_word spliced next_file_in max_entries_in linked files_along kind_among is_key_length stored_key stored_stream stored_streams store_of fields_at follow_at key_place_at stored_at stands stands_as_blocks is_address is_initialized names_external names_blocks kind_of reserved_bits block_count file_selector first_block external_number block_size block_place place byte_size kind_for blocks_for entry_blocks is_storage entry_checks entry_in range_at words_at chain_from
its-data = record { key = λ long. refl; chained = refl; streams = refl }

is-same : SameNamed old_stock new_stock 0x90000000
is-same = record {
  node_fields = its-record.0 ∙ sym its-record.1;
  record_same = rw its-record.0 (record {
    there = rw (its-record.2, its-record.3) refl;
    checked = rw (its-record.2, its-record.3) refl;
    data_same = λ fields is good. let s : one.fields ≡ fields = (let e : ◌≡◌ {A = Option RecordFields} (Some one.fields) (Some fields) = sym its-record.2 ∙ is in cc) in subst (λ (c : RecordFields). SameData old_stock new_stock 0xA0010000 c) s its-data;
  });
}

-- both folders have the same recovered contents
pub same-is_held : found (folder_with small_records) ≡ found dirty_folder
same-is_held =
    frame-law (folder_with small_records) dirty_folder are-well_formed.0 are-well_formed.1 (one-candidate.0 ∙ sym one-candidate.1)
    (subst (AllByRecursion (SameNamed old_stock new_stock)) (sym one-candidate.0) (is-same, tt))

-- what is kept of the folder with the dirty node is what is kept of its candidate
pub only-the_candidate : kept_by held_rule (completed (view_of dirty_folder)) ≡ kept_among new_stock held_rule (0x90000000 ∷ [])
only-the_candidate = only-candidates (completed (view_of dirty_folder)) ∙ ap (kept_among new_stock held_rule) one-candidate.1
