-- Small folders, computed from their bytes: one closed entry `a` whose stream 0 is `zz`, and two entries of which the record of the second is cut off.
use Rattle.std.proofs.Common.{◌≡◌, ◌≢◌, ◌⊎◌, inl, inr, ⊎_elim, ℕ, zero, suc, ◌+◌, ◌*◌, ◌<◌, ◌≤◌, List, [], ◌∷◌, ◌++◌, refl, ap, sym, ◌∙◌, subst, arith, lit≤, true, false, Some, None, Ok, Err}
use Rattle.std.specs.Prelude.{◌==◌, ◌&&◌, not, codes, map, take}
use Rattle.std.specs.Option.{option_map_or}
use Rattle.std.specs.List.{filter}
use Rattle.std.proofs.lemmas.Bool.{eqb-true, eq-eqb, cases_Bool, cases_lt}
use Rattle.spec_image.specs.Bytes.{spliced, range_at, words_at, zeros}
use Rattle.spec_image.specs.Image.{Index, Block, Image, byte}
use Rattle.spec_image.specs.Steps.{with_word, with_words}
use Rattle.spec_image.proofs.Words.{word-zeros}
use Rattle.blk_model.specs.Items.{main_row, plain}
use Rattle.spec_format.specs.Hash.{of_four, of_three, of_two, of_one, of_bytes, mixed, hash}
use Rattle.spec_format.specs.Address.{is_address, is_initialized, names_external, names_blocks, kind_of, reserved_bits, block_count, file_selector, first_block, external_number, block_size, block_place, place, byte_size}
use Rattle.spec_format.specs.Storage.{kind_for, blocks_for, entry_blocks, is_storage}
use Rattle.spec_format.specs.Standing.{stands, stands_as_blocks}
use Rattle.spec_format.specs.Records.{node_checks, node_is_sealed, entry_checks, entry_is_sealed, node_in, node_body, entry_in, entry_body}
use Rattle.spec_format.specs.Headers.{unfinished, field_checks, head_checks, list_checks, index_length, place_of_bucket, bucket_of}
use Rattle.spec_format.specs.BlockFiles.{is_among, next_file_in, max_entries_in, files_along, linked, linked_up_to, kind_among, is_link, is_block_count, file_checks, checks_along, checks_of_kind, first_damage}
use Rattle.spec_format.specs.Claims.{claims_of, has_claim, overlap, repeats}
use Rattle.spec_folder.specs.Walk.{walk, walk_from}
use Rattle.spec_folder.specs.Completion.{counts, completed_list}
use Rattle.spec_folder.specs.View.{view_of, list_of, checks_at, next_at, prev_at, store_of, node_fields_at, fields_at, follow_at, key_place_at, stored_at}
use Rattle.spec_folder.specs.Chains.{chain, chain_from}
use Rattle.spec_folder.specs.Entries.{IsPlain, is_key_length, stored_key, stored_stream, stored_streams, role_of}
use Rattle.spec_folder.specs.Reasons.{Reason}
use Rattle.spec_folder.specs.Reasons as reason
use Rattle.spec_folder.specs.Loads.{held_rule, Loaded, load, load_key, load_record, record_claims, all_claims}
use Rattle.spec_folder.specs.Audit.{judged, shares_key, is_orphan, admit, verdicts, kept_among, dropped_among, is_unlisted, unlisted_in, unlisted}
use Rattle.spec_folder.specs.Found.{completed, kept, dropped, found}
use Rattle.spec_format.specs.NewFolder.{new_index_words, new_file_words}
use Rattle.law_folder.proofs.chains.Chains.{chain-is}
use Rattle.law_folder.proofs.states.Central.{flat_map-none}
use Rattle.law_folder.proofs.states.NewFolders.{Neighbours, words_beside}
use Rattle.law_folder.proofs.states.Bare.{no-record}

-- the index of a new folder, with node 0 of data_0 as head and tail, and the record at block 0 of data_1 in the bucket of `a`
abbrev pub small_index : List ℕ
small_index = with_words (new_index_words 50 ++ (288, 0x90000000) ∷ (308, 0x90000000) ∷ (171896, 0xA0010000) ∷ []) (zeros index_length)

-- the node: next and prev name it, and contents names the record
abbrev pub small_nodes : List ℕ
small_nodes = with_words (new_file_words 0 ++ (20, 1024) ∷ (8208, 0x90000000) ∷ (8212, 0x90000000) ∷ (8216, 0xA0010000) ∷ []) (zeros 8228)

-- the record: its hash, its node, a key of one byte, two bytes of stream 0 at block 1 of data_1, and the key; and after it the stream
abbrev pub small_records : List ℕ
small_records = with_words (new_file_words 1 ++ (20, 1024) ∷ (8192, 0x115EA782) ∷ (8200, 0x90000000) ∷ (8224, 1) ∷ (8232, 2) ∷ (8248, 0xA0010001) ∷ (8288, 97) ∷ (8448, 0x7A7A) ∷ []) (zeros 8704)

-- the folder, where data_1 has these bytes
unfoldable pub folder_with : List ℕ → Image
folder_with records Index = Some small_index
folder_with records (Block zero) = Some small_nodes
folder_with records (Block (suc zero)) = Some records
folder_with records (Block (suc (suc zero))) = Some (with_words (new_file_words 2) (zeros 8192))
folder_with records (Block (suc (suc (suc zero)))) = Some (with_words (new_file_words 3) (zeros 8192))
folder_with records _ = None

-- no check fails
small_is_well_formed : first_damage (folder_with small_records) ≡ None
unfolding folder_with field_checks head_checks list_checks checks_of_kind checks_along file_checks next_file_in is_link is_block_count linked_up_to linked files_along zeros with_word spliced block_size
small_is_well_formed = refl

-- the recovered contents of the small folder are the entry
pub small_is_found : found (folder_with small_records) ≡ main_row (codes "a") plain (codes "zz", [], []) ∷ []
unfolding folder_with zeros with_word spliced unfinished next_file_in max_entries_in linked files_along kind_among found kept kept_among verdicts load load_record load_key is_key_length stored_key stored_stream stored_streams role_of shares_key is_orphan record_claims all_claims claims_of has_claim overlap repeats admit walk walk_from chain_from completed_list counts list_of checks_at next_at prev_at store_of node_fields_at fields_at follow_at key_place_at stored_at stands stands_as_blocks is_address is_initialized names_external names_blocks kind_of reserved_bits block_count file_selector first_block external_number block_size block_place place byte_size kind_for blocks_for entry_blocks is_storage node_checks node_is_sealed entry_checks entry_is_sealed node_in node_body entry_in entry_body range_at words_at hash mixed of_bytes of_four of_three of_two of_one
small_is_found = refl

-- ---- a folder of two closed entries with no streams, `a` at block 0 of data_1 and `b` at block 1

-- the words of its index: node 0 is the head and node 1 the tail, and each record is in its bucket
abbrev pair_words : List (ℕ × ℕ)
pair_words = new_index_words 50 ++ (288, 0x90000000) ∷ (308, 0x90000001) ∷ (171896, 0xA0010000) ∷ (165108, 0xA0010001) ∷ []

abbrev pair_index : List ℕ
pair_index = with_words pair_words (zeros index_length)

-- each node with its next, its prev and its record
abbrev pair_nodes : List ℕ
pair_nodes = with_words (new_file_words 0 ++ (20, 1024) ∷ (8208, 0x90000001) ∷ (8212, 0x90000000) ∷ (8216, 0xA0010000) ∷ (8244, 0x90000001) ∷ (8248, 0x90000000) ∷ (8252, 0xA0010001) ∷ []) (zeros 8264)

-- each record with its hash, its node, its key's length and its key
abbrev pair_records : List ℕ
pair_records = with_words (new_file_words 1 ++ (20, 1024) ∷ (8192, 0x115EA782) ∷ (8200, 0x90000000) ∷ (8224, 1) ∷ (8288, 97) ∷ (8448, 0x70C1A0E1) ∷ (8456, 0x90000001) ∷ (8480, 1) ∷ (8544, 98) ∷ []) (zeros 8704)

-- the folder, where data_1 is cut to so many bytes
unfoldable pub cut_to : ℕ → Image
cut_to size Index = Some pair_index
cut_to size (Block zero) = Some pair_nodes
cut_to size (Block (suc zero)) = Some (take size pair_records)
cut_to size (Block (suc (suc zero))) = Some (with_words (new_file_words 2) (zeros 8192))
cut_to size (Block (suc (suc (suc zero)))) = Some (with_words (new_file_words 3) (zeros 8192))
cut_to size _ = None

-- where block 1 isn't there, no check fails
pub cut_is_well_formed : first_damage (cut_to 8448) ≡ None
unfolding cut_to field_checks head_checks list_checks checks_of_kind checks_along file_checks next_file_in is_link is_block_count linked_up_to linked files_along zeros with_word spliced block_size
cut_is_well_formed = refl

-- what a node names, whose record is this, with a key and no streams
abbrev pub without_streams : ℕ → ℕ → List ℕ → Loaded
without_streams node contents key = record { node = node; contents = contents; dirty = 0; key = key; role = IsPlain; streams = [] ∷ [] ∷ [] ∷ []; others = 0 ∷ 0 ∷ 0 ∷ 0 ∷ 0 ∷ [] }

-- both nodes are walked
pub cut_is_walked : walk (completed_list (list_of (cut_to 8448))) ≡ 0x90000000 ∷ 0x90000001 ∷ []
unfolding cut_to zeros with_word spliced next_file_in max_entries_in linked files_along kind_among walk walk_from completed_list counts list_of checks_at next_at prev_at stands stands_as_blocks is_address is_initialized names_external names_blocks kind_of reserved_bits block_count file_selector first_block external_number block_size block_place place byte_size node_checks node_is_sealed node_in node_body words_at hash mixed of_bytes of_four
cut_is_walked = refl

-- that whose record is block 0 is kept, and the other is dropped, since its contents name no record
cut_is_judged : judged (store_of (cut_to 8448)) held_rule (0x90000000 ∷ 0x90000001 ∷ []) ≡ (0x90000000, Ok (without_streams 0x90000000 0xA0010000 (codes "a"))) ∷ (0x90000001, Err reason.Contents) ∷ []
unfolding cut_to zeros with_word spliced next_file_in max_entries_in linked files_along kind_among verdicts load load_record load_key is_key_length stored_key stored_stream stored_streams role_of shares_key is_orphan record_claims all_claims claims_of has_claim overlap repeats admit chain_from store_of node_fields_at fields_at follow_at key_place_at stored_at stands stands_as_blocks is_address is_initialized names_external names_blocks kind_of reserved_bits block_count file_selector first_block external_number block_size block_place place byte_size kind_for blocks_for entry_blocks is_storage entry_checks entry_is_sealed node_in entry_in entry_body range_at words_at hash mixed of_bytes of_four of_three of_two of_one
cut_is_judged = refl

-- with block 1 the other is loaded too
whole_loads : load (store_of (cut_to 8704)) held_rule 0x90000001 ≡ Ok (without_streams 0x90000001 0xA0010001 (codes "b"))
unfolding cut_to zeros with_word spliced next_file_in max_entries_in linked files_along kind_among load load_record load_key is_key_length stored_key stored_stream stored_streams role_of chain_from store_of node_fields_at fields_at follow_at key_place_at stored_at stands stands_as_blocks is_address is_initialized names_external names_blocks kind_of reserved_bits block_count file_selector first_block external_number block_size block_place place byte_size kind_for blocks_for entry_blocks is_storage entry_checks entry_is_sealed node_in entry_in entry_body range_at words_at hash mixed of_bytes of_four of_three of_two of_one
whole_loads = refl

cut_is_finished : unfinished (cut_to 8448) ≡ false
unfolding unfinished cut_to zeros with_word spliced
cut_is_finished = refl

-- the entry whose record is block 0 is recovered
cut_is_found : found (cut_to 8448) ≡ main_row (codes "a") plain ([], [], []) ∷ []
unfolding found kept kept_among
cut_is_found = rw (cut_is_finished, cut_is_walked, cut_is_judged) refl

-- the record of the first entry is all that is kept
pub cut_is_kept : kept (cut_to 8448) ≡ without_streams 0x90000000 0xA0010000 (codes "a") ∷ []
unfolding kept kept_among
cut_is_kept = rw (cut_is_walked, cut_is_judged) refl

-- no record is unlisted: that of the first is of a walked node, and the other isn't reached
its_chains : ((chain (store_of (cut_to 8448)) 0xA782).reached ≡ 0xA0010000 ∷ []) × ((chain (store_of (cut_to 8448)) 0xA0E1).reached ≡ [])
unfolding cut_to zeros with_word spliced next_file_in max_entries_in linked files_along kind_among chain_from store_of fields_at follow_at stands stands_as_blocks is_address is_initialized names_external names_blocks kind_of reserved_bits block_count file_selector first_block external_number block_size block_place place byte_size entry_checks entry_in words_at
its_chains = (refl, refl)

its_record : is_unlisted (completed (view_of (cut_to 8448))) 0xA0010000 ≡ false
unfolding cut_to zeros with_word spliced next_file_in max_entries_in linked files_along kind_among is_unlisted store_of node_fields_at fields_at stands stands_as_blocks is_address is_initialized names_external names_blocks kind_of reserved_bits block_count file_selector first_block external_number block_size block_place place byte_size entry_checks node_in entry_in words_at
its_record =
    subst (λ (nodes : List ℕ). option_map_or (λ fields. not (is_among nodes fields.rankings_node && option_map_or (λ node_fields. node_fields.contents == 0xA0010000) (node_fields_at (cut_to 8448) fields.rankings_node) false)) (fields_at (cut_to 8448) 0xA0010000) false ≡ false)
    (sym cut_is_walked) refl

its_buckets : (unlisted_in (completed (view_of (cut_to 8448))) 0xA782 ≡ []) × (unlisted_in (completed (view_of (cut_to 8448))) 0xA0E1 ≡ [])
its_buckets =
    let records : List ℕ → List (ℕ × Reason) = λ reached. map (λ contents. (contents, reason.Unlisted)) (filter (is_unlisted (completed (view_of (cut_to 8448)))) reached) in
    (ap records its_chains.0 ∙ rw its_record refl, ap records its_chains.1)

other_bucket : (b : ℕ) → (b == 0xA782) ≡ false → (b == 0xA0E1) ≡ false → bucket_of (byte (cut_to 8448) Index) b ≡ 0
unfolding cut_to
other_bucket b not_first not_second = words_beside (place_of_bucket b) pair_words (zeros index_length) beside ∙ word-zeros index_length (place_of_bucket b) where
  suffix : (place : ℕ) → place ≤ 312 → (368 + 4 * b + 4 ≤ place) ⊎ (place + 4 ≤ 368 + 4 * b)
  suffix place low = inr (omega arith)

  away : (c : ℕ) → (b == c) ≡ false → (368 + 4 * b + 4 ≤ 368 + 4 * c) ⊎ (368 + 4 * c + 4 ≤ 368 + 4 * b)
  away c apart = ⊎_elim
      (λ (under : b < c). inl (omega arith))
      (λ (over : c ≤ b). let more : c < b = let n : b ≢ c = λ e. (let z : true ≡ false = sym (eq-eqb b c e) ∙ apart in cc) in omega arith in inr (omega arith))
      (cases_lt b c)

  beside : Neighbours (place_of_bucket b) pair_words
  beside = (suffix 4 (lit≤ tt), (suffix 28 (lit≤ tt), (suffix 40 (lit≤ tt), (suffix 44 (lit≤ tt), (suffix 0 (lit≤ tt), (suffix 288 (lit≤ tt), (suffix 308 (lit≤ tt), (away 0xA782 not_first, (away 0xA0E1 not_second, tt)))))))))

none_unlisted : unlisted (completed (view_of (cut_to 8448))) ≡ []
unfolding unlisted
none_unlisted = flat_map-none (unlisted_in (completed (view_of (cut_to 8448)))) 0 65536 (λ b low high. each b (cases_Bool (b == 0xA782)) (cases_Bool (b == 0xA0E1))) where
  each : (b : ℕ) → ((b == 0xA782) ≡ true) ⊎ ((b == 0xA782) ≡ false) → ((b == 0xA0E1) ≡ true) ⊎ ((b == 0xA0E1) ≡ false) → unlisted_in (completed (view_of (cut_to 8448))) b ≡ []
  each b (inl first) other = subst (λ (x : ℕ). unlisted_in (completed (view_of (cut_to 8448))) x ≡ []) (sym (eqb-true b 0xA782 first)) its_buckets.0
  each b (inr apart) (inl second) = subst (λ (x : ℕ). unlisted_in (completed (view_of (cut_to 8448))) x ≡ []) (sym (eqb-true b 0xA0E1 second)) its_buckets.1
  each b (inr not_first) (inr not_second) = rw (chain-is (store_of (cut_to 8448)) b [] (no-record (cut_to 8448)) (record { linked = unfold store_of in other_bucket b not_first not_second; once = tt })) refl

-- the other node is all that is dropped
cut_is_dropped : dropped (cut_to 8448) ≡ (0x90000001, reason.Contents) ∷ []
unfolding dropped dropped_among
cut_is_dropped = rw (cut_is_walked, cut_is_judged, none_unlisted) refl

-- with one byte less neither entry is recovered
less_is_found : found (cut_to 8447) ≡ []
unfolding cut_to zeros with_word spliced unfinished next_file_in max_entries_in linked files_along kind_among found kept kept_among verdicts load load_record load_key is_key_length stored_key stored_stream stored_streams role_of shares_key is_orphan record_claims all_claims claims_of has_claim overlap repeats admit walk walk_from chain_from completed_list counts list_of checks_at next_at prev_at store_of node_fields_at fields_at follow_at key_place_at stored_at stands stands_as_blocks is_address is_initialized names_external names_blocks kind_of reserved_bits block_count file_selector first_block external_number block_size block_place place byte_size kind_for blocks_for entry_blocks is_storage node_checks node_is_sealed entry_checks entry_is_sealed node_in node_body entry_in entry_body range_at words_at hash mixed of_bytes of_four of_three of_two of_one
less_is_found = refl
