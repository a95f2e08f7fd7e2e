-- A record that can be linked: in a folder that has just been made, and in one whose bucket has a record already.
use Rattle.std.proofs.Common.{◌≡◌, inr, ⊎_elim, ℕ, zero, suc, true, false, List, [], ◌∷◌, ◌++◌, None, Some, refl, sym, subst, ap, ◌∙◌, lit≤}
use Rattle.std.specs.Prelude.{◌==◌}
use Rattle.std.proofs.lemmas.Bool.{or_cases, eqb-true}
use Rattle.spec_image.specs.Bytes.{zeros, spliced, range_at, words_at}
use Rattle.spec_image.specs.Steps.{with_word, with_words}
use Rattle.spec_image.specs.Image.{Image, Index, Block, byte}
use Rattle.spec_image.proofs.Words.{word-zeros}
use Rattle.spec_format.specs.Address.{is_address, is_initialized, names_external, names_blocks, kind_of, reserved_bits, block_count, file_selector, first_block, external_number, block_size, block_place, place, byte_size}
use Rattle.spec_format.specs.BlockFiles.{is_among, next_file_in, max_entries_in, files_along, linked, kind_among}
use Rattle.spec_format.specs.Hash.{hash, mixed, of_bytes, of_one, of_three}
use Rattle.spec_format.specs.Headers.{bucket_of, index_length}
use Rattle.spec_format.specs.NewFolder.{new_file_words, new_index, new_index_words}
use Rattle.spec_format.specs.Records.{entry_in, entry_checks}
use Rattle.spec_format.specs.Standing.{stands, stands_as_blocks}
use Rattle.spec_folder.specs.Chains.{IsChain, bucket_at, bucket_of_hash}
use Rattle.spec_folder.specs.View.{RecordFields, fields_at, entry_at, key_place_at, store_of}
use Rattle.law_folder.proofs.states.NewFolders.{words_beside}
use Rattle.law_folder.proofs.examples.SmallFolder.{folder_with}
use Rattle.blk_chain.specs.LinkExamples.{FirstCanBeLinked, NextCanBeLinked}
use Rattle.blk_chain.specs.Linking.{CanBeLinked, chained_with}
use Rattle.spec_folder.specs.Searches.{HasKey}
use Rattle.blk_chain.proofs.Pairs.{chain-words, one-name}
use Rattle.blk_chain.proofs.SmallRecords.{Says, bare_fields, says-bucket, says-key, says-next, says-of_bucket, small-bucket}

never : false ≡ true → ⊥
never e = cc

-- ---- a folder that has just been made, with a record of the key "a" that isn't linked

abbrev made_records : List ℕ
made_records = with_words (new_file_words 1 ++ (20, 1024) ∷ (8192, 0x115EA782) ∷ (8200, 0x90000000) ∷ (8224, 1) ∷ (8288, 97) ∷ []) (zeros 8448)

unfoldable made : Image
made Index = Some (new_index 50)
made (Block zero) = Some (with_words (new_file_words 0) (zeros 8192))
made (Block (suc zero)) = Some made_records
made (Block (suc (suc zero))) = Some (with_words (new_file_words 2) (zeros 8192))
made (Block (suc (suc (suc zero)))) = Some (with_words (new_file_words 3) (zeros 8192))
made _ = None

abbrev entry : ℕ
entry = 0xA0010000

abbrev key : List ℕ
key = 97 ∷ []

shown : (fields_at made entry ≡ Some (bare_fields 0x115EA782 0x90000000 1)) × ((entry_at made entry).next ≡ 0) × (key_place_at made entry 1 ≡ key)
unfolding fields_at key_place_at made zeros with_word spliced next_file_in max_entries_in linked files_along kind_among stands stands_as_blocks is_address is_initialized names_external names_blocks kind_of reserved_bits block_count file_selector first_block external_number block_size block_place place byte_size entry_in entry_checks words_at range_at
shown = (refl, refl, refl)

key-hash : hash key ≡ 0x115EA782
unfolding hash mixed of_bytes of_one
key-hash = refl

made_says : Says made entry (bare_fields 0x115EA782 0x90000000 1) 0 key
unfolding store_of
made_says = record { here = shown.0; next_is = shown.1; hashed = sym key-hash; checks = refl; short = refl; in_place = refl; bytes = shown.2 }

made_at : bucket_at made entry ≡ 0xA782
made_at = says-bucket made_says ∙ ap bucket_of_hash key-hash

-- its bucket is empty
made_bucket : (store_of made).table (bucket_at made entry) ≡ 0
unfolding store_of made
made_bucket = ap (bucket_of (byte made Index)) made_at
    ∙ (words_beside 171896 (new_index_words 50) (zeros index_length) (inr (lit≤ tt), (inr (lit≤ tt), (inr (lit≤ tt), (inr (lit≤ tt), (inr (lit≤ tt), tt))))) ∙ word-zeros index_length 171896)

made_none : IsChain (store_of made) (bucket_at made entry) []
made_none = record { linked = made_bucket; once = tt }

made_chain : chained_with made entry ≡ []
made_chain = chain-words made (bucket_at made entry) [] made_none

made_can : CanBeLinked entry made
made_can = record {
  fields = bare_fields 0x115EA782 0x90000000 1;
  here = made_says.here;
  good = refl;
  next = says-next made_says ∙ sym made_bucket;
  key = key;
  has_key = says-key made_says;
  whole = subst (λ (ws : List ℕ). IsChain (store_of made) (bucket_at made entry) ws) (sym made_chain) made_none;
  fresh = λ w among named. never (subst (λ (ws : List ℕ). is_among ws w ≡ true) made_chain among);
}

pub first-links : FirstCanBeLinked
unfolding made
first-links = record { image = made; entry = entry; moment = 50; made = refl; chained = made_chain; linkable = made_can }

-- ---- a folder with the entry "a", and at block 2 of data_1 a record of another key of its bucket

abbrev next_records : List ℕ
next_records = with_words (new_file_words 1 ++ (20, 1024) ∷ (8192, 0x115EA782) ∷ (8200, 0x90000000) ∷ (8224, 1) ∷ (8232, 2) ∷ (8248, 0xA0010001) ∷ (8288, 97) ∷ (8448, 0x7A7A) ∷ (8704, 0x5D9BA782) ∷ (8708, 0xA0010000) ∷ (8736, 3) ∷ (8800, 0x4A5752) ∷ []) (zeros 8960)

abbrev small : Image
small = folder_with next_records

abbrev other : ℕ
other = 0xA0010002

abbrev other_key : List ℕ
other_key = 82 ∷ 87 ∷ 74 ∷ []

abbrev entry_fields : RecordFields
entry_fields = record (bare_fields 0x115EA782 0x90000000 1) { data_size = 2 ∷ 0 ∷ 0 ∷ 0 ∷ []; data_addr = 0xA0010001 ∷ 0 ∷ 0 ∷ 0 ∷ [] }

entry-shown : (fields_at small entry ≡ Some entry_fields) × ((entry_at small entry).next ≡ 0) × (key_place_at small entry 1 ≡ key)
unfolding fields_at key_place_at folder_with zeros with_word spliced next_file_in max_entries_in linked files_along kind_among stands stands_as_blocks is_address is_initialized names_external names_blocks kind_of reserved_bits block_count file_selector first_block external_number block_size block_place place byte_size entry_in entry_checks words_at range_at
entry-shown = (refl, refl, refl)

other-shown : (fields_at small other ≡ Some (bare_fields 0x5D9BA782 0 3)) × ((entry_at small other).next ≡ entry) × (key_place_at small other 3 ≡ other_key)
unfolding fields_at key_place_at folder_with zeros with_word spliced next_file_in max_entries_in linked files_along kind_among stands stands_as_blocks is_address is_initialized names_external names_blocks kind_of reserved_bits block_count file_selector first_block external_number block_size block_place place byte_size entry_in entry_checks words_at range_at
other-shown = (refl, refl, refl)

other-hash : hash other_key ≡ 0x5D9BA782
unfolding hash mixed of_bytes of_three
other-hash = refl

entry_says : Says small entry entry_fields 0 key
unfolding store_of
entry_says = record { here = entry-shown.0; next_is = entry-shown.1; hashed = sym key-hash; checks = refl; short = refl; in_place = refl; bytes = entry-shown.2 }

other_says : Says small other (bare_fields 0x5D9BA782 0 3) entry other_key
unfolding store_of
other_says = record { here = other-shown.0; next_is = other-shown.1; hashed = sym other-hash; checks = refl; short = refl; in_place = refl; bytes = other-shown.2 }

other_at : bucket_at small other ≡ 0xA782
other_at = says-bucket other_says ∙ ap bucket_of_hash other-hash

other_whole : IsChain (store_of small) (bucket_at small other) (entry ∷ [])
other_whole = subst (λ (b : ℕ). IsChain (store_of small) b (entry ∷ [])) (sym other_at) (record { linked = (small-bucket next_records, says-of_bucket entry_says 0xA782 refl, says-next entry_says); once = (refl, tt) })

other_bucket : (store_of small).table (bucket_at small other) ≡ entry
other_bucket = ap (store_of small).table other_at ∙ small-bucket next_records

other_chain : chained_with small other ≡ entry ∷ []
other_chain = chain-words small (bucket_at small other) (entry ∷ []) other_whole

other_can : CanBeLinked other small
other_can = record {
  fields = bare_fields 0x5D9BA782 0 3;
  here = other_says.here;
  good = refl;
  next = says-next other_says ∙ sym other_bucket;
  key = other_key;
  has_key = says-key other_says;
  whole = subst (λ (ws : List ℕ). IsChain (store_of small) (bucket_at small other) ws) (sym other_chain) other_whole;
  fresh = λ w among named. by w (subst (λ (ws : List ℕ). is_among ws w ≡ true) other_chain among) named;
}
  where
    apart : key ≡ other_key → ⊥
    apart e = cc

    by : (w : ℕ) → is_among (entry ∷ []) w ≡ true → HasKey (store_of small) other_key false w → ⊥
    by w among named = ⊎_elim
        (λ (e : (entry == w) ≡ true).
        let here : HasKey (store_of small) other_key false entry = subst (λ (x : ℕ). HasKey (store_of small) other_key false x) (sym (eqb-true entry w e)) named in
        apart (one-name (store_of small) entry key other_key false false (says-key entry_says) here).1.0)
        (λ (e : false ≡ true). never e)
        (or_cases (entry == w) false among)

pub next-links : NextCanBeLinked
next-links = record { image = small; entry = other; first = entry; chained = other_chain; linkable = other_can }
