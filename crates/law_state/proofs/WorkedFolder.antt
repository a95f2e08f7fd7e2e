-- The bytes of a folder that keeps the worked state, with each block file as long as its blocks that are used: it is well formed, and represents the state.
use Rattle.std.proofs.Common.{◌≡◌, ◌≢◌, ◌⊎◌, inl, inr, ⊎_elim, ℕ, zero, suc, ◌+◌, ◌<◌, ◌≤◌, List, [], ◌∷◌, ◌++◌, refl, ap, sym, ◌∙◌, subst, arith, lit≤, Bool, Some, None, true, false, Ok}
use Rattle.std.specs.Prelude.{if◌then◌else◌, ◌==◌, ◌^◌, codes, length, nat_le, replicate}
use Rattle.std.specs.Fmt.{digits}
use Rattle.std.proofs.lemmas.Bool.{eq-eqb, eqb-true, cases_lt}
use Rattle.spec_image.specs.Bytes.{content, range_at, spliced, word_at, words_at, zeros}
use Rattle.spec_image.specs.Image.{Index, Block, Image, byte}
use Rattle.spec_image.specs.Steps.{with_word, with_words}
use Rattle.spec_image.proofs.Splices.{content-zeros, length-zeros}
use Rattle.spec_image.proofs.Words.{length-with_words, word-there, word-zeros}
use Rattle.spec_format.specs.Address.{block_count, block_place, block_size, byte_size, external, external_number, file_selector, first_block, is_address, is_initialized, kind_of, names_blocks, names_external, place, reserved_bits}
use Rattle.spec_format.specs.BlockFiles.{IsWellFormed, checks_along, checks_of_kind, file_checks, files_along, is_block_count, is_link, kind_among, linked, linked_up_to, max_entries_in, next_file_in, stands_in}
use Rattle.spec_format.specs.Hash.{hash, mixed, of_bytes, of_four, of_one, of_three, of_two}
use Rattle.spec_format.specs.Headers.{bucket_of, head_checks, index_length, list_checks, place_of_bucket, field_checks}
use Rattle.spec_format.specs.Names.{child_name, read_name, split_last}
use Rattle.spec_format.specs.NewFolder.{new_file_words, new_index_words}
use Rattle.spec_format.specs.Records.{entry_body, entry_checks, entry_in, entry_is_sealed, node_body, node_checks, node_in, node_is_sealed}
use Rattle.spec_format.specs.SparseIndex.{read_parent_index, read_part_index}
use Rattle.spec_format.specs.Standing.{stands, stands_as_blocks}
use Rattle.spec_format.specs.Storage.{blocks_for, entry_blocks, is_storage, kind_for, longest_short_key}
use Rattle.spec_folder.specs.Chains.{IsChain, is_of_bucket}
use Rattle.spec_format.proofs.Bodies.{range-add}
use Rattle.spec_folder.specs.Entries.{IsParent, IsPlain, is_covered, is_key_length, parent_role, part_role, role_of, stored_key, stored_stream, stored_streams}
use Rattle.spec_folder.specs.Layout.{Represents, order, rule_of}
use Rattle.spec_folder.specs.ListView.{IsList, Segment}
use Rattle.spec_folder.specs.Loads.{Loaded, load, unchained_rule}
use Rattle.spec_folder.specs.View.{RecordFields, block_bytes, checks_at, entry_at, fields_at, key_place_at, list_of, next_at, node_fields_at, prev_at, store_of, stored_at, view_of}
use Rattle.law_folder.proofs.chains.ChainWords.{shown-chain_next}
use Rattle.law_folder.proofs.states.Bare.{no-record}
use Rattle.law_folder.proofs.states.NewFolders.{Neighbours, words_beside}
use Rattle.law_folder.proofs.examples.WholeMarks.{byte-outside, content-words, over_all}
use Rattle.law_folder.proofs.walks.Loading.{load-from}
use Rattle.law_folder.proofs.walks.Loads.{IsKeyed}
use Rattle.law_state.proofs.LaidOut.{looked}
use Rattle.law_state.proofs.WorkedState.{all_four, chain_of, index_head, nodes, parent_bytes, parent_index, records, part_bytes, the_doomed, the_parent, the_part, the_plain, worked, worked-lies, worked_layout}

-- three items, and the sum of their costs; session 7 is open; the list goes from the part over its parent to `b`, and each of them is alone in its chain
abbrev pub index_words : List (ℕ × ℕ)
index_words = new_index_words 50 ++ (8, 3) ∷ (48, 8466) ∷ (20, 7) ∷ (32, 1) ∷ (268, 3) ∷ (288, 0x90000001) ∷ (308, 0x90000002) ∷ (12064, 0xA0010001) ∷ (165108, 0xA0010002) ∷ (171896, 0xA0010000) ∷ []

-- four nodes
abbrev pub nodes_words : List (ℕ × ℕ)
nodes_words =
    new_file_words 0 ++ (16, 4) ∷ (20, 1024) ∷ (36, 255) ∷ (80, 15)
    ∷ (8208, 0x90000002) ∷ (8212, 0x90000001) ∷ (8216, 0xA0010000) ∷ (8224, 0x16D16BBA)
    ∷ (8244, 0x90000000) ∷ (8248, 0x90000001) ∷ (8252, 0xA0010001) ∷ (8260, 0xF8FDEB2)
    ∷ (8280, 0x90000002) ∷ (8284, 0x90000000) ∷ (8288, 0xA0010002) ∷ (8296, 0xF6602ACF)
    ∷ (8324, 0xA0010003) ∷ (8328, 7) ∷ (8332, 0xCC18195F) ∷ []

-- four records, of which the doomed one names that of `b` as its next, the streams of `b` and of the doomed object, and of the part its bytes and its index
abbrev pub records_words : List (ℕ × ℕ)
records_words =
    new_file_words 1 ++ (16, 8) ∷ (20, 1024) ∷ (36, 254) ∷ (80, 255)
    ∷ (8192, 0x115EA782) ∷ (8200, 0x90000000) ∷ (8224, 1) ∷ (8240, 8256) ∷ (8256, 0xC2030000) ∷ (8264, 1) ∷ (8284, 0x779635C9) ∷ (8288, 97)
    ∷ (8448, 0xEA940B6C) ∷ (8456, 0x90000001) ∷ (8480, 12) ∷ (8492, 2) ∷ (8496, 192) ∷ (8508, 0xA0010006) ∷ (8512, 0xA0010007) ∷ (8520, 2) ∷ (8540, 0x5A914B5) ∷ (8544, 0x676E6152) ∷ (8548, 0x3A615F65) ∷ (8552, 0x303A3436)
    ∷ (8704, 0x70C1A0E1) ∷ (8712, 0x90000002) ∷ (8736, 1) ∷ (8744, 2) ∷ (8760, 0xA0010004) ∷ (8796, 0x5D0A402) ∷ (8800, 98)
    ∷ (8960, 0xF381A0E1) ∷ (8964, 0xA0010002) ∷ (8968, 0x90000003) ∷ (8980, 2) ∷ (8992, 3) ∷ (9000, 3) ∷ (9016, 0xA0010005) ∷ (9052, 0xD6DFF042) ∷ (9056, 0x6F5953)
    ∷ (9216, 0x7A7A) ∷ (9472, 0x797979) ∷ (9728, 0x7878)
    ∷ (9984, 100) ∷ (9992, 0xC103CAC3) ∷ (9996, 1) ∷ (10004, 2) ∷ []

-- the index of the parent, in three blocks
abbrev pub data_words : List (ℕ × ℕ)
data_words = new_file_words 3 ++ (16, 1) ∷ (20, 1024) ∷ (24, 1) ∷ (36, 255) ∷ (80, 7) ∷ (8192, 100) ∷ (8200, 0xC103CAC3) ∷ (8204, 1) ∷ (8208, 0xFFFFFFFF) ∷ (8256, 1) ∷ []

unfoldable pub short_folder : Image
short_folder Index = Some (with_words index_words (zeros index_length))
short_folder (Block zero) = Some (with_words nodes_words (zeros 8336))
short_folder (Block (suc zero)) = Some (with_words records_words (zeros 10240))
short_folder (Block (suc (suc zero))) = Some (with_words (new_file_words 2) (zeros 8192))
short_folder (Block (suc (suc (suc zero)))) = Some (with_words data_words (zeros 20480))
short_folder _ = None

-- no check fails
pub short-well_formed : IsWellFormed short_folder
unfolding short_folder field_checks head_checks list_checks checks_of_kind checks_along file_checks next_file_in is_link is_block_count linked_up_to linked files_along zeros with_word spliced block_size
short-well_formed = refl

-- ---- what it represents

-- the index of the parent, read from its blocks

data-content : byte short_folder (Block 3) ≡ over_all data_words (λ k. 0)
unfolding short_folder
data-content = content-words data_words (zeros 20480) 20480 (length-zeros 20480) (lit≤ tt, (lit≤ tt, (lit≤ tt, (lit≤ tt, (lit≤ tt, (lit≤ tt, (lit≤ tt, (lit≤ tt, (lit≤ tt, (lit≤ tt, (lit≤ tt, (lit≤ tt, (lit≤ tt, (lit≤ tt, tt))))))))))))))
    ∙ ap (over_all data_words) (λ i k. content-zeros 20480 k i)

-- past its words it is 0
data-later : (k : ℕ) → 8260 ≤ k → byte short_folder (Block 3) k ≡ 0
unfolding short_folder
data-later k later = byte-outside data_words (zeros 20480) k (past 0 (lit≤ tt), (past 4 (lit≤ tt), (past 8 (lit≤ tt), (past 12 (lit≤ tt), (past 16 (lit≤ tt), (past 20 (lit≤ tt), (past 24 (lit≤ tt), (past 36 (lit≤ tt), (past 80 (lit≤ tt), (past 8192 (lit≤ tt), (past 8200 (lit≤ tt), (past 8204 (lit≤ tt), (past 8208 (lit≤ tt), (past 8256 (lit≤ tt), tt)))))))))))))) ∙ content-zeros 20480 k where
  past : (p : ℕ) → p ≤ 8256 → (k < p) ⊎ (p + 4 ≤ k)
  past p low = inr (omega arith)

zero-range : (n i : ℕ) (f : ℕ → ℕ) → ((k : ℕ) → i ≤ k → f k ≡ 0) → range_at f i n ≡ replicate n 0
unfolding range_at
zero-range zero i f none = refl
zero-range (suc n) i f none = rw (none i (omega arith), zero-range n (suc i) f (λ k later. none k (omega arith))) refl

abbrev index_front : List ℕ
index_front = index_head 0xFFFFFFFF 0 ++ 1 ∷ 0 ∷ 0 ∷ 0 ∷ []

front-is : range_at (over_all data_words (λ k. 0)) 8192 68 ≡ index_front
unfolding range_at
front-is = refl

data-range : range_at (byte short_folder (Block 3)) 8192 8256 ≡ parent_bytes
data-range =
    range-add 68 8188 8192 (byte short_folder (Block 3))
    ∙ ap (λ (bytes : List ℕ). bytes ++ range_at (byte short_folder (Block 3)) 8260 8188) (ap (λ (f : ℕ → ℕ). range_at f 8192 68) data-content ∙ front-is)
    ∙ ap (λ (bytes : List ℕ). index_front ++ bytes) (zero-range 8188 8260 (byte short_folder (Block 3)) data-later)

stored-range : (image : Image) (size w : ℕ) → is_storage size w ≡ true → (size == 0) ≡ false → stands_in image w ≡ true → (kind_of w == external) ≡ false → stored_at image size w ≡ Some (range_at (block_bytes image w) (place w) size)
unfolding stored_at
stored-range image size w storage some stand blocks = rw (storage, some, stand, blocks) refl

parent-stands : (is_storage 8256 0xC2030000 ≡ true) × (stands_in short_folder 0xC2030000 ≡ true) × ((kind_of 0xC2030000 == external) ≡ false) × (file_selector 0xC2030000 ≡ 3) × (place 0xC2030000 ≡ 8192)
unfolding short_folder zeros with_word spliced next_file_in max_entries_in linked files_along kind_among stands stands_as_blocks is_address is_initialized names_external names_blocks kind_of reserved_bits block_count file_selector first_block external_number block_size block_place place byte_size kind_for blocks_for is_storage
parent-stands = (refl, refl, refl, refl, refl)

parent-stored : (store_of short_folder).stored 8256 0xC2030000 ≡ Some parent_bytes
unfolding store_of
parent-stored =
    stored-range short_folder 8256 0xC2030000 parent-stands.0 refl parent-stands.1 parent-stands.2
    ∙ ap (λ (n : ℕ). Some (range_at (byte short_folder (Block n)) (place 0xC2030000) 8256)) parent-stands.3
    ∙ ap (λ (p : ℕ). Some (range_at (byte short_folder (Block 3)) p 8256)) parent-stands.4
    ∙ ap (λ (bytes : List ℕ). Some bytes) data-range

-- the record of the parent
abbrev parent_fields : RecordFields
parent_fields = record { checks = true; hash = 0x115EA782; rankings_node = nodes 0; state = 0; key_len = 1; long_key = 0; data_size = 0 ∷ 0 ∷ 8256 ∷ 0 ∷ []; data_addr = 0 ∷ 0 ∷ 0xC2030000 ∷ 0 ∷ []; flags = 1 }

parent-named : ((store_of short_folder).node_fields (nodes 0) ≡ Some (record { contents = records 0; dirty = 0 })) × ((store_of short_folder).entry (records 0) ≡ Some parent_fields)
unfolding short_folder zeros with_word spliced next_file_in max_entries_in linked files_along kind_among store_of node_fields_at fields_at stands stands_as_blocks is_address is_initialized names_external names_blocks kind_of reserved_bits block_count file_selector first_block external_number block_size block_place place byte_size entry_checks entry_is_sealed node_in entry_in entry_body words_at hash mixed of_bytes of_four of_three of_two of_one
parent-named = (refl, refl)

parent-key : key_place_at short_folder (records 0) 1 ≡ codes "a"
unfolding key_place_at range_at short_folder zeros with_word spliced file_selector kind_of first_block block_size block_place place
parent-key = refl

parent-keyed : IsKeyed (store_of short_folder) (unchained_rule 0) (nodes 0) (records 0) 0 parent_fields (codes "a")
unfolding store_of stored_key is_key_length block_count entry_blocks hash mixed of_bytes of_one
parent-keyed = record { state = refl; back = refl; flags = refl; clean = refl; key_length = refl; key = rw parent-key refl; hashed = refl; chained = refl }

no-stream : (store_of short_folder).stored 0 0 ≡ Some []
unfolding store_of stored_at is_storage
no-stream = refl

parent-streams : stored_streams (store_of short_folder) parent_fields ≡ Some ([] ∷ [] ∷ parent_bytes ∷ [])
unfolding stored_streams stored_stream
parent-streams = rw (no-stream, parent-stored) refl

parent-role : role_of parent_fields (codes "a") ([] ∷ [] ∷ parent_bytes ∷ []) ≡ Some (IsParent parent_index)
unfolding role_of parent_role read_parent_index words_at
parent-role = refl

-- a node loads by its record
abbrev Loads : ℕ → Loaded → Type 0
Loads node loaded = load (store_of short_folder) (rule_of worked_layout node) node ≡ Ok loaded

parent-loads : Loads (nodes 0) the_parent
parent-loads = load-from (store_of short_folder) (unchained_rule 0) (nodes 0) the_parent (record { contents = records 0; dirty = 0 }) parent_fields (record {
  node = parent-named.0;
  entry = parent-named.1;
  checks = refl;
  facts = record { keyed = parent-keyed; streams = parent-streams; role = parent-role; node_is = refl; contents_is = refl; dirty_is = refl; others_are = refl };
})

-- the records of the part, of `b` and of the doomed object
abbrev part_fields : RecordFields
part_fields = record { checks = true; hash = 0xEA940B6C; rankings_node = nodes 1; state = 0; key_len = 12; long_key = 0; data_size = 0 ∷ 2 ∷ 192 ∷ 0 ∷ []; data_addr = 0 ∷ 0xA0010006 ∷ 0xA0010007 ∷ 0 ∷ []; flags = 2 }

abbrev plain_fields : RecordFields
plain_fields = record { checks = true; hash = 0x70C1A0E1; rankings_node = nodes 2; state = 0; key_len = 1; long_key = 0; data_size = 2 ∷ 0 ∷ 0 ∷ 0 ∷ []; data_addr = 0xA0010004 ∷ 0 ∷ 0 ∷ 0 ∷ []; flags = 0 }

abbrev doomed_fields : RecordFields
doomed_fields = record { checks = true; hash = 0xF381A0E1; rankings_node = nodes 3; state = 2; key_len = 3; long_key = 0; data_size = 3 ∷ 0 ∷ 0 ∷ 0 ∷ []; data_addr = 0xA0010005 ∷ 0 ∷ 0 ∷ 0 ∷ []; flags = 0 }

-- what the bytes of a node and of its record say
record Shown (node contents dirty : ℕ) (fields : RecordFields) (key : List ℕ) : Type 0 where
  named : node_fields_at short_folder node ≡ Some (record { contents = contents; dirty = dirty })
  here : fields_at short_folder contents ≡ Some fields
  key_bytes : key_place_at short_folder contents fields.key_len ≡ key

three-shown : Shown (nodes 1) (records 1) 0 part_fields the_part.key × Shown (nodes 2) (records 2) 0 plain_fields (codes "b") × Shown (nodes 3) (records 3) 7 doomed_fields the_doomed.key
unfolding short_folder zeros with_word spliced next_file_in max_entries_in linked files_along kind_among node_fields_at fields_at key_place_at range_at stands stands_as_blocks is_address is_initialized names_external names_blocks kind_of reserved_bits block_count file_selector first_block external_number block_size block_place place byte_size node_in entry_checks entry_is_sealed entry_in entry_body words_at hash mixed of_bytes of_four
three-shown = (record { named = refl; here = refl; key_bytes = refl }, record { named = refl; here = refl; key_bytes = refl }, record { named = refl; here = refl; key_bytes = refl })

-- the streams of the four records
four-stored : (stored_at short_folder 2 0xA0010006 ≡ Some (codes "xx")) × (stored_at short_folder 192 0xA0010007 ≡ Some part_bytes) × (stored_at short_folder 2 0xA0010004 ≡ Some (codes "zz")) × (stored_at short_folder 3 0xA0010005 ≡ Some (codes "yyy"))
unfolding short_folder zeros with_word spliced next_file_in max_entries_in linked files_along kind_among stored_at range_at stands stands_as_blocks is_address is_initialized names_external names_blocks kind_of reserved_bits block_count file_selector first_block external_number block_size block_place place byte_size kind_for blocks_for is_storage
four-stored = (refl, refl, refl, refl)

short-keyed : (node contents dirty state : ℕ) (fields : RecordFields) (key : List ℕ) → Shown node contents dirty fields key → (fields.state == state) ≡ true → (fields.rankings_node == node) ≡ true → nat_le fields.flags 2 ≡ true
    → is_key_length contents fields ≡ true → nat_le fields.key_len longest_short_key ≡ true → (fields.long_key == 0) ≡ true → (fields.hash == hash key) ≡ true → IsKeyed (store_of short_folder) (unchained_rule state) node contents dirty fields key
unfolding store_of stored_key
short-keyed node contents dirty state fields key shown right back flags long short in_place hashed = record { state = right; back = back; flags = flags; clean = refl; key_length = long; key = rw (short, in_place, shown.key_bytes) refl; hashed = hashed; chained = refl }

key-lengths : (is_key_length (records 1) part_fields ≡ true) × (is_key_length (records 2) plain_fields ≡ true) × (is_key_length (records 3) doomed_fields ≡ true)
unfolding is_key_length block_count entry_blocks
key-lengths = (refl, refl, refl)

key-hashes : ((0xEA940B6C == hash the_part.key) ≡ true) × ((0x70C1A0E1 == hash (codes "b")) ≡ true) × ((0xF381A0E1 == hash the_doomed.key) ≡ true)
unfolding hash mixed of_bytes of_one of_two of_three of_four
key-hashes = (refl, refl, refl)

four-there : ((store_of short_folder).stored 2 0xA0010006 ≡ Some (codes "xx")) × ((store_of short_folder).stored 192 0xA0010007 ≡ Some part_bytes) × ((store_of short_folder).stored 2 0xA0010004 ≡ Some (codes "zz")) × ((store_of short_folder).stored 3 0xA0010005 ≡ Some (codes "yyy"))
unfolding store_of
four-there = four-stored

three-streams : (stored_streams (store_of short_folder) part_fields ≡ Some the_part.streams) × (stored_streams (store_of short_folder) plain_fields ≡ Some the_plain.streams) × (stored_streams (store_of short_folder) doomed_fields ≡ Some the_doomed.streams)
unfolding stored_streams stored_stream
three-streams = (rw (no-stream, four-there.0, four-there.1) refl, rw (no-stream, four-there.2) refl, rw (no-stream, four-there.3) refl)

three-roles : (role_of part_fields the_part.key the_part.streams ≡ Some the_part.role) × (role_of plain_fields the_plain.key the_plain.streams ≡ Some IsPlain) × (role_of doomed_fields the_doomed.key the_doomed.streams ≡ Some IsPlain)
unfolding role_of part_role is_covered read_part_index read_name split_last child_name digits words_at
three-roles = (refl, refl, refl)

short-loads : (node contents dirty state : ℕ) (fields : RecordFields) (loaded : Loaded) → Shown node contents dirty fields loaded.key → fields.checks ≡ true → IsKeyed (store_of short_folder) (unchained_rule state) node contents dirty fields loaded.key
    → stored_streams (store_of short_folder) fields ≡ Some loaded.streams → role_of fields loaded.key loaded.streams ≡ Some loaded.role → loaded.node ≡ node → loaded.contents ≡ contents → loaded.dirty ≡ dirty → loaded.others ≡ fields.long_key ∷ fields.data_addr
    → load (store_of short_folder) (unchained_rule state) node ≡ Ok loaded
unfolding store_of
short-loads node contents dirty state fields loaded shown checks keyed streams role node_is contents_is dirty_is others_are =
    load-from (store_of short_folder) (unchained_rule state) node loaded (record { contents = contents; dirty = dirty }) fields (record {
      node = shown.named;
      entry = shown.here;
      checks = checks;
      facts = record { keyed = keyed; streams = streams; role = role; node_is = node_is; contents_is = contents_is; dirty_is = dirty_is; others_are = others_are };
    })

others-load : Loads (nodes 1) the_part × Loads (nodes 2) the_plain × Loads (nodes 3) the_doomed
others-load = (
  short-loads (nodes 1) (records 1) 0 0 part_fields the_part three-shown.0 refl (short-keyed (nodes 1) (records 1) 0 0 part_fields the_part.key three-shown.0 refl refl refl key-lengths.0 refl refl key-hashes.0) three-streams.0 three-roles.0 refl refl refl refl,
  short-loads (nodes 2) (records 2) 0 0 plain_fields the_plain three-shown.1 refl (short-keyed (nodes 2) (records 2) 0 0 plain_fields (codes "b") three-shown.1 refl refl refl key-lengths.1 refl refl key-hashes.1) three-streams.1 three-roles.1 refl refl refl refl,
  short-loads (nodes 3) (records 3) 7 2 doomed_fields the_doomed three-shown.2 refl (short-keyed (nodes 3) (records 3) 7 2 doomed_fields the_doomed.key three-shown.2 refl refl refl key-lengths.2 refl refl key-hashes.2) three-streams.2 three-roles.2 refl refl refl refl,
)

each-loads : (node : ℕ) (loaded : Loaded) → worked_layout.at node ≡ Some loaded → Loads node loaded
each-loads = looked Loads all_four (parent-loads, (others-load.0, (others-load.1, (others-load.2, tt))))

-- the words of the index that say the list, by the law on the words that make it
index-none : (p : ℕ) → Neighbours p index_words → word_at (byte short_folder Index) p ≡ 0
unfolding short_folder
index-none p beside = words_beside p index_words (zeros index_length) beside ∙ word-zeros index_length p

-- a word of the index after which only these were written
index-there : (ws later : List (ℕ × ℕ)) (p value : ℕ) → with_words index_words (zeros index_length) ≡ with_words later (with_word p value (with_words ws (zeros index_length))) → value < 2 ^ 32 → p + 4 ≤ index_length → Neighbours p later → word_at (byte short_folder Index) p ≡ value
unfolding short_folder
index-there ws later p value is small room beside =
    ap (λ (bytes : List ℕ). word_at (content bytes) p) is
    ∙ words_beside p later (with_word p value (with_words ws (zeros index_length))) beside
    ∙ word-there p value (with_words ws (zeros index_length)) small (let long : length (with_words ws (zeros index_length)) ≡ index_length = length-with_words ws (zeros index_length) ∙ length-zeros index_length in omega arith)

abbrev counters : List (ℕ × ℕ)
counters = new_index_words 50 ++ (8, 3) ∷ (48, 8466) ∷ (20, 7) ∷ (32, 1) ∷ (268, 3) ∷ []

abbrev buckets : List (ℕ × ℕ)
buckets = (12064, 0xA0010001) ∷ (165108, 0xA0010002) ∷ (171896, 0xA0010000) ∷ []

head-is : word_at (byte short_folder Index) 288 ≡ nodes 1
head-is = index-there counters ((308, 0x90000002) ∷ buckets) 288 (nodes 1) refl (lit≤ tt) (lit≤ tt) (inl (lit≤ tt), (inl (lit≤ tt), (inl (lit≤ tt), (inl (lit≤ tt), tt))))

tail-is : word_at (byte short_folder Index) 308 ≡ nodes 2
tail-is = index-there (counters ++ (288, 0x90000001) ∷ []) buckets 308 (nodes 2) refl (lit≤ tt) (lit≤ tt) (inl (lit≤ tt), (inl (lit≤ tt), (inl (lit≤ tt), tt)))

-- the nodes, each with its next and its prev
nodes-joined : Segment (checks_at short_folder) (next_at short_folder) (prev_at short_folder) (nodes 1) (nodes 1 ∷ nodes 0 ∷ nodes 2 ∷ []) (nodes 2)
unfolding checks_at next_at prev_at short_folder zeros with_word spliced next_file_in max_entries_in linked files_along kind_among stands stands_as_blocks is_address is_initialized names_external names_blocks kind_of reserved_bits block_count file_selector first_block external_number block_size block_place place byte_size node_in node_checks node_is_sealed node_body hash mixed of_bytes of_four
nodes-joined = (record { good = refl; next_is = refl; prev_is = refl }, (record { good = refl; next_is = refl; prev_is = refl }, (record { good = refl; next_is = refl; prev_is = refl }, tt)))

no-node : checks_at short_folder 0 ≡ false
unfolding checks_at stands stands_as_blocks is_address is_initialized names_external names_blocks kind_of reserved_bits block_count file_selector first_block external_number block_size block_place place byte_size
no-node = refl

short-list : IsList (list_of short_folder) (order worked worked_layout)
unfolding list_of
short-list = record {
  head_is = head-is;
  tail_is = tail-is;
  linked = nodes-joined;
  distinct = (refl, (refl, (refl, tt)));
  few = omega arith;
  no_zero = no-node;
}

short-idle : (list_of short_folder).transaction ≡ 0
unfolding list_of
short-idle = index-none 328
    (inr (lit≤ tt), (inr (lit≤ tt), (inr (lit≤ tt), (inr (lit≤ tt), (inr (lit≤ tt), (inr (lit≤ tt), (inr (lit≤ tt), (inr (lit≤ tt), (inr (lit≤ tt), (inr (lit≤ tt), (inr (lit≤ tt), (inr (lit≤ tt), (inl (lit≤ tt), (inl (lit≤ tt), (inl (lit≤ tt), tt)))))))))))))))

-- a bucket that is none of the three has no record
other-bucket : (b : ℕ) → (b == 0xA782) ≡ false → (b == 0xB6C) ≡ false → (b == 0xA0E1) ≡ false → bucket_of (byte short_folder Index) b ≡ 0
unfolding short_folder
other-bucket b not_parent not_part not_plain = words_beside (place_of_bucket b) index_words (zeros index_length) beside ∙ word-zeros index_length (place_of_bucket b) where
  low : (p : ℕ) → p ≤ 364 → (place_of_bucket b + 4 ≤ p) ⊎ (p + 4 ≤ place_of_bucket b)
  low p small = inr (omega arith)

  apart : (x : ℕ) → (b == x) ≡ false → (place_of_bucket b + 4 ≤ place_of_bucket x) ⊎ (place_of_bucket x + 4 ≤ place_of_bucket b)
  apart x other = ⊎_elim (λ (below : b < x). inl (omega arith)) (λ (from : x ≤ b). let n : b ≢ x = λ e. (let c : true ≡ false = sym (eq-eqb b x e) ∙ other in cc) in inr (omega arith)) (cases_lt b x)

  beside : Neighbours (place_of_bucket b) index_words
  beside = (low 4 (lit≤ tt), (low 28 (lit≤ tt), (low 40 (lit≤ tt), (low 44 (lit≤ tt), (low 0 (lit≤ tt), (low 8 (lit≤ tt), (low 48 (lit≤ tt), (low 20 (lit≤ tt), (low 32 (lit≤ tt), (low 268 (lit≤ tt), (low 288 (lit≤ tt), (low 308 (lit≤ tt), (apart 0xB6C not_part, (apart 0xA0E1 not_plain, (apart 0xA782 not_parent, tt)))))))))))))))

-- a bucket has one record, which has no next
record IsAlone (bucket w : ℕ) : Type 0 where
  first : bucket_of (byte short_folder Index) bucket ≡ w
  good : is_of_bucket (store_of short_folder) bucket w ≡ true
  last : (store_of short_folder).chain_next w ≡ 0

three-next : ((entry_at short_folder (records 0)).next ≡ 0) × ((entry_at short_folder (records 1)).next ≡ 0) × ((entry_at short_folder (records 2)).next ≡ 0)
unfolding short_folder zeros with_word spliced file_selector kind_of first_block block_size block_place place entry_in words_at
three-next = (refl, refl, refl)

both-named : ((store_of short_folder).entry (records 1) ≡ Some part_fields) × ((store_of short_folder).entry (records 2) ≡ Some plain_fields)
unfolding store_of
both-named = (three-shown.0.here, three-shown.1.here)

three-alone : IsAlone 0xA782 (records 0) × IsAlone 0xB6C (records 1) × IsAlone 0xA0E1 (records 2)
three-alone = (
  record {
    first = index-there (counters ++ (288, 0x90000001) ∷ (308, 0x90000002) ∷ (12064, 0xA0010001) ∷ (165108, 0xA0010002) ∷ []) [] 171896 (records 0) refl (lit≤ tt) (lit≤ tt) tt;
    good = rw parent-named.1 refl;
    last = shown-chain_next short_folder (records 0) parent_fields parent-named.1 ∙ three-next.0;
  },
  record {
    first = index-there (counters ++ (288, 0x90000001) ∷ (308, 0x90000002) ∷ []) ((165108, 0xA0010002) ∷ (171896, 0xA0010000) ∷ []) 12064 (records 1) refl (lit≤ tt) (lit≤ tt) (inl (lit≤ tt), (inl (lit≤ tt), tt));
    good = rw both-named.0 refl;
    last = shown-chain_next short_folder (records 1) part_fields both-named.0 ∙ three-next.1;
  },
  record {
    first = index-there (counters ++ (288, 0x90000001) ∷ (308, 0x90000002) ∷ (12064, 0xA0010001) ∷ []) ((171896, 0xA0010000) ∷ []) 165108 (records 2) refl (lit≤ tt) (lit≤ tt) (inl (lit≤ tt), tt);
    good = rw both-named.1 refl;
    last = shown-chain_next short_folder (records 2) plain_fields both-named.1 ∙ three-next.2;
  },
)

short-chains : (b : ℕ) → b < 65536 → IsChain (store_of short_folder) b (chain_of b)
unfolding store_of
short-chains b below = go (b == 0xA782) (b == 0xB6C) (b == 0xA0E1) refl refl refl where
  chain : (x w : ℕ) → b ≡ x → IsAlone x w → IsChain (store_of short_folder) b (w ∷ [])
  chain x w is alone = subst (λ (y : ℕ). IsChain (store_of short_folder) y (w ∷ [])) (sym is) (record { linked = (alone.first, alone.good, alone.last); once = (refl, tt) })

  go : (s t u : Bool) → (b == 0xA782) ≡ s → (b == 0xB6C) ≡ t → (b == 0xA0E1) ≡ u → IsChain (store_of short_folder) b (if s then records 0 ∷ [] else if t then records 1 ∷ [] else if u then records 2 ∷ [] else [])
  go true t u e f g = chain 0xA782 (records 0) (eqb-true b 0xA782 e) three-alone.0
  go false true u e f g = chain 0xB6C (records 1) (eqb-true b 0xB6C f) three-alone.1
  go false false true e f g = chain 0xA0E1 (records 2) (eqb-true b 0xA0E1 g) three-alone.2
  go false false false e f g = record { linked = other-bucket b e f g; once = tt }

-- the folder represents the state
pub short-represents : Represents (view_of short_folder) worked worked_layout
short-represents = record {
  holds = record { shows = record { no_record = no-record short_folder; each = each-loads; chains = short-chains }; lies = worked-lies };
  list = short-list;
  idle = short-idle;
}
