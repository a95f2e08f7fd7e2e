-- A whole folder, computed from its bytes, with one closed entry `a` whose stream 0 is `zz`. Counters, maps and checksums are in order, and it represents the
-- state of that entry.
use Rattle.std.proofs.Common.{◌≡◌, ◌≢◌, ◌⊎◌, inl, inr, ⊎_elim, ℕ, zero, suc, ◌+◌, ◌*◌, ◌<◌, ◌≤◌, List, [], ◌∷◌, ◌++◌, refl, ap, sym, ◌∙◌, subst, arith, lit≤, Some, None, true, false, Ok}
use Rattle.std.specs.Prelude.{if◌then◌else◌, ◌==◌, nat_lt}
use Rattle.std.proofs.lemmas.Bool.Decides.{nat_tests}
use Rattle.std.proofs.lemmas.Bool.{eqb-true, eq-eqb, cases_Bool, cases_lt}
use Rattle.spec_image.specs.Bytes.{spliced, range_at, words_at, zeros}
use Rattle.spec_image.specs.Image.{Index, Block, Image, byte}
use Rattle.spec_image.specs.Steps.{with_word, with_words}
use Rattle.spec_image.proofs.Words.{word-zeros}
use Rattle.blk_model.specs.Holding.{rest}
use Rattle.spec_format.specs.Hash.{of_four, of_three, of_two, of_one, of_bytes, mixed, hash}
use Rattle.spec_format.specs.Address.{is_address, is_initialized, names_external, names_blocks, kind_of, reserved_bits, block_count, file_selector, first_block, external_number, block_size, block_place, place, byte_size}
use Rattle.spec_format.specs.Storage.{kind_for, blocks_for, entry_blocks, is_storage}
use Rattle.spec_format.specs.Standing.{stands, stands_as_blocks}
use Rattle.spec_format.specs.Records.{node_checks, node_is_sealed, entry_checks, entry_is_sealed, node_in, node_body, entry_in, entry_body}
use Rattle.spec_format.specs.Headers.{unfinished, field_checks, head_checks, list_checks, index_length, place_of_bucket, bucket_of}
use Rattle.spec_format.specs.BlockFiles.{next_file_in, max_entries_in, files_along, linked, linked_up_to, kind_among, is_link, is_block_count, file_checks, checks_along, checks_of_kind, linked_as, IsWellFormed}
use Rattle.spec_folder.specs.ListView.{IsList}
use Rattle.spec_folder.specs.View.{list_of, checks_at, next_at, prev_at, store_of, node_fields_at, fields_at, follow_at, key_place_at, stored_at, view_of}
use Rattle.spec_folder.specs.Entries.{is_key_length, stored_key, stored_stream, stored_streams, role_of}
use Rattle.spec_folder.specs.Chains.{is_of_bucket, IsChain}
use Rattle.spec_folder.specs.Loads.{unchained_rule, load, load_key, load_record}
use Rattle.spec_folder.specs.Found.{found}
use Rattle.spec_folder.specs.Layout.{Represents}
use Rattle.spec_format.specs.NewFolder.{new_index_words, new_file_words}
use Rattle.law_folder.proofs.examples.OneEntry as one
use Rattle.law_folder.proofs.examples.Premises.{state_is_valid}
use Rattle.law_folder.proofs.states.NewFolders.{Neighbours, words_beside}
use Rattle.law_folder.proofs.states.Bare.{no-record}
use Rattle.law_folder.proofs.states.Standing.{found-at_rest}

-- the index counts one item and three bytes, has node 0 as head and tail, and the record in the bucket of `a`
abbrev pub whole_index : List ℕ
whole_index = with_words (new_index_words 50 ++ (8, 1) ∷ (48, 3) ∷ (268, 1) ∷ (288, 0x90000000) ∷ (308, 0x90000000) ∷ (171896, 0xA0010000) ∷ []) (zeros index_length)

-- data_0 has 1024 nodes, of which node 0 is marked: one group has three free, and 255 have four; the node has its checksum
abbrev pub whole_nodes : List ℕ
whole_nodes = with_words (new_file_words 0 ++ (16, 1) ∷ (20, 1024) ∷ (32, 1) ∷ (36, 255) ∷ (80, 1) ∷ (8208, 0x90000000) ∷ (8212, 0x90000000) ∷ (8216, 0xA0010000) ∷ (8224, 0xfe7f2cf2) ∷ []) (zeros 45056)

-- data_1 has 1024 blocks, of which 0 and 1 are marked, one each for the record and its stream
abbrev pub whole_records : List ℕ
whole_records =
    with_words (new_file_words 1 ++ (16, 2) ∷ (20, 1024) ∷ (28, 1) ∷ (36, 255) ∷ (80, 3) ∷ (8192, 0x115EA782) ∷ (8200, 0x90000000) ∷ (8224, 1) ∷ (8232, 2) ∷ (8248, 0xA0010001) ∷ (8284, 0x2c6f24c8) ∷ (8288, 97) ∷ (8448, 0x7A7A) ∷ [])
    (zeros 270336)

-- the folder of these
unfoldable pub whole_folder : Image
whole_folder Index = Some whole_index
whole_folder (Block zero) = Some whole_nodes
whole_folder (Block (suc zero)) = Some whole_records
whole_folder (Block (suc (suc zero))) = Some (with_words (new_file_words 2) (zeros 8192))
whole_folder (Block (suc (suc (suc zero)))) = Some (with_words (new_file_words 3) (zeros 8192))
whole_folder _ = None

-- no check fails
pub whole-is_well_formed : IsWellFormed whole_folder
unfolding whole_folder field_checks head_checks list_checks checks_of_kind checks_along file_checks next_file_in is_link is_block_count linked_up_to linked files_along zeros with_word spliced block_size
whole-is_well_formed = refl

-- the node of the entry loads by itself
pub whole-loads : load (store_of whole_folder) (unchained_rule 0) one.node ≡ Ok (one.loaded 0)
unfolding whole_folder zeros with_word spliced next_file_in max_entries_in linked files_along kind_among load load_record load_key is_key_length stored_key stored_stream stored_streams role_of store_of node_fields_at fields_at follow_at key_place_at stored_at stands stands_as_blocks is_address is_initialized names_external names_blocks kind_of reserved_bits block_count file_selector first_block external_number block_size block_place place byte_size kind_for blocks_for entry_blocks is_storage node_checks node_is_sealed entry_checks entry_is_sealed node_in node_body entry_in entry_body range_at words_at hash mixed of_bytes of_four of_three of_two of_one
whole-loads = refl

-- ---- what it represents

-- the list has this node alone
whole-list : IsList (list_of whole_folder) (one.node ∷ [])
unfolding list_of checks_at next_at prev_at whole_folder zeros with_word spliced next_file_in max_entries_in linked files_along kind_among stands stands_as_blocks is_address is_initialized names_external names_blocks kind_of reserved_bits block_count file_selector first_block external_number block_size block_place place byte_size node_in node_checks node_is_sealed node_body hash mixed of_bytes of_four
whole-list = record { head_is = refl; tail_is = refl; linked = (record { good = refl; next_is = refl; prev_is = refl }, tt); distinct = (refl, tt); few = omega arith; no_zero = refl }

whole-idle : (list_of whole_folder).transaction ≡ 0
unfolding list_of whole_folder zeros with_word spliced
whole-idle = refl

abbrev index_words : List (ℕ × ℕ)
index_words = new_index_words 50 ++ (8, 1) ∷ (48, 3) ∷ (268, 1) ∷ (288, 0x90000000) ∷ (308, 0x90000000) ∷ (171896, 0xA0010000) ∷ []

-- no other bucket has a record
other-bucket : (b : ℕ) → (b == one.bucket) ≡ false → bucket_of (byte whole_folder Index) b ≡ 0
unfolding whole_folder
other-bucket b apart = words_beside (place_of_bucket b) index_words (zeros index_length) beside ∙ word-zeros index_length (place_of_bucket b) where
  suffix : (place : ℕ) → place ≤ 312 → (368 + 4 * b + 4 ≤ place) ⊎ (place + 4 ≤ 368 + 4 * b)
  suffix place low = inr (omega arith)

  beside : Neighbours (place_of_bucket b) index_words
  beside = (
    suffix 4 (lit≤ tt),
    (
      suffix 28 (lit≤ tt),
      (
        suffix 40 (lit≤ tt),
        (
          suffix 44 (lit≤ tt),
          (
            suffix 0 (lit≤ tt),
            (
              suffix 8 (lit≤ tt),
              (
                suffix 48 (lit≤ tt),
                (
                  suffix 268 (lit≤ tt),
                  (
                    suffix 288 (lit≤ tt),
                    (
                      suffix 308 (lit≤ tt),
                      (⊎_elim (λ (below : b < 42882). inl (omega arith)) (λ (over : 42882 ≤ b). let more : 42882 < b = let n : b ≢ 42882 = λ e. (let c : true ≡ false = sym (eq-eqb b one.bucket e) ∙ apart in cc) in omega arith in inr (omega arith)) (cases_lt b 42882), tt),
                    ),
                  ),
                ),
              ),
            ),
          ),
        ),
      ),
    ),
  )

its-bucket-word : (bucket_of (byte whole_folder Index) one.bucket ≡ one.contents) × (is_of_bucket (store_of whole_folder) one.bucket one.contents ≡ true) × ((store_of whole_folder).chain_next one.contents ≡ 0)
unfolding whole_folder zeros with_word spliced next_file_in max_entries_in linked files_along kind_among store_of fields_at follow_at stands stands_as_blocks is_address is_initialized names_external names_blocks kind_of reserved_bits block_count file_selector first_block external_number block_size block_place place byte_size entry_checks entry_is_sealed entry_in entry_body words_at hash mixed of_bytes of_four
its-bucket-word = (refl, refl, refl)

pub whole-chains : (b : ℕ) → b < 65536 → IsChain (store_of whole_folder) b ((one.layout 0).chains b)
unfolding store_of
whole-chains b below = ⊎_elim
    (λ (e : (b == one.bucket) ≡ true). subst (λ (x : ℕ). IsChain (store_of whole_folder) x ((one.layout 0).chains x)) (sym (eqb-true b one.bucket e)) (record { linked = its-bucket-word; once = (refl, tt) }))
    (λ (e : (b == one.bucket) ≡ false). record { linked = rw e (other-bucket b e); once = rw e tt })
    (cases_Bool (b == one.bucket))

-- the folder represents the state of the entry
pub whole-is_represented : Represents (view_of whole_folder) (one.state true) (one.layout 0)
whole-is_represented = record {
  holds = record {
    shows = record {
      no_record = no-record whole_folder;
      each = λ w l is. let p = one.at-node 0 w l is in subst (λ (x : ℕ). load (store_of whole_folder) (unchained_rule 0) x ≡ Ok l) (sym p.0) (whole-loads ∙ ap Ok p.1);
      chains = whole-chains;
    };
    lies = (one.represented 0).holds.lies;
  };
  list = whole-list;
  idle = whole-idle;
}

whole-is_finished : unfinished whole_folder ≡ false
unfolding unfinished whole_folder zeros with_word spliced
whole-is_finished = refl

-- the recovered contents of the whole folder are the durable contents of its state
pub whole-is_found : found whole_folder ≡ rest (one.state true)
whole-is_found = found-at_rest whole_folder (one.state true) (one.layout 0) whole-is_represented (state_is_valid true) whole-is_finished

-- ---- links

whole-links : (linked whole_folder 1 ≡ 0 ∷ []) × (linked whole_folder 2 ≡ 1 ∷ []) × (linked whole_folder 3 ≡ 2 ∷ []) × (linked whole_folder 4 ≡ 3 ∷ [])
unfolding whole_folder linked files_along next_file_in zeros with_word spliced block_size
whole-links = (refl, refl, refl, refl)

-- data_0 to data_3 are linked, each as one of its kind
pub whole-linked : (n : ℕ) → linked_as whole_folder n ≡ (if nat_lt n 4 then Some (n + 1) else None)
unfolding kind_among
whole-linked n = let l = whole-links in rw (l.0, l.1, l.2, l.3) (go n) where
  go : (n : ℕ) → kind_among (λ kind. if kind == 1 then 0 ∷ [] else if kind == 2 then 1 ∷ [] else if kind == 3 then 2 ∷ [] else 3 ∷ []) n ≡ (if nat_lt n 4 then Some (n + 1) else None)
  go zero = refl
  go (suc zero) = refl
  go (suc (suc zero)) = refl
  go (suc (suc (suc zero))) = refl
  go (suc (suc (suc (suc n)))) = grind (arith, nat_tests)
