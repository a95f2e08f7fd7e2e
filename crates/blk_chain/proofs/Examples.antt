-- The conditions of a search at a small folder, which has one entry with the key "a".
use Rattle.std.proofs.Common.{◌≡◌, ℕ, true, false, List, [], ◌∷◌, length, Some, None, refl, sym, subst, lit≤, ⊎_elim}
use Rattle.std.specs.Prelude.{◌==◌, ◌≤◌}
use Rattle.std.proofs.lemmas.Bool.{or_cases, eqb-true}
use Rattle.spec_image.specs.Bytes.{zeros, spliced, range_at, words_at}
use Rattle.spec_image.specs.Steps.{with_word}
use Rattle.spec_image.specs.Image.{Image}
use Rattle.spec_format.specs.Address.{is_address, is_initialized, names_external, names_blocks, kind_of, reserved_bits, block_count, file_selector, first_block, external_number, block_size, block_place, place, byte_size}
use Rattle.spec_format.specs.BlockFiles.{is_among, next_file_in, max_entries_in, files_along, linked, kind_among}
use Rattle.spec_format.specs.Hash.{hash, mixed, of_bytes, of_one}
use Rattle.spec_format.specs.Records.{entry_in, entry_checks}
use Rattle.spec_format.specs.Standing.{stands, stands_as_blocks}
use Rattle.spec_format.specs.Storage.{entry_blocks}
use Rattle.spec_folder.specs.Chains.{IsChain, bucket_of_hash}
use Rattle.spec_folder.specs.Entries.{is_key_length}
use Rattle.spec_folder.specs.View.{RecordFields, fields_at, entry_at, key_place_at, store_of}
use Rattle.law_folder.proofs.examples.SmallFolder.{small_records, folder_with}
use Rattle.blk_entry.specs.Keys.{HasReadableKey}
use Rattle.blk_chain.specs.Examples.{SomeChainIsSearched}
use Rattle.blk_chain.specs.Finding.{CanBeSearched, IsFound}
use Rattle.spec_folder.specs.Searches.{bucket_of_key, chained_for, HasKey}
use Rattle.blk_chain.specs.Unlinking.{StandsBehind}
use Rattle.blk_chain.proofs.Pairs.{chain-words}
use Rattle.blk_chain.proofs.Searches.{found-linked}
use Rattle.blk_chain.proofs.SmallRecords.{Says, bare_fields, says-key, says-next, says-of_bucket, says-readable, small-bucket}

abbrev small : Image
small = folder_with small_records

abbrev entry : ℕ
entry = 0xA0010000

abbrev key : List ℕ
key = 97 ∷ []

-- the record: two bytes of stream 0 at block 1 of data_1
abbrev fields : RecordFields
fields = record (bare_fields 0x115EA782 0x90000000 1) { data_size = 2 ∷ 0 ∷ 0 ∷ 0 ∷ []; data_addr = 0xA0010001 ∷ 0 ∷ 0 ∷ 0 ∷ [] }

shown : (fields_at small entry ≡ Some fields) × ((entry_at small entry).next ≡ 0) × (key_place_at small entry 1 ≡ key)
unfolding fields_at key_place_at folder_with zeros with_word spliced next_file_in max_entries_in linked files_along kind_among stands stands_as_blocks is_address is_initialized names_external names_blocks kind_of reserved_bits block_count file_selector first_block external_number block_size block_place place byte_size entry_in entry_checks words_at range_at
shown = (refl, refl, refl)

key-hash : hash key ≡ 0x115EA782
unfolding hash mixed of_bytes of_one
key-hash = refl

says : Says small entry fields 0 key
unfolding store_of
says = record { here = shown.0; next_is = shown.1; hashed = sym key-hash; checks = refl; short = refl; in_place = refl; bytes = shown.2 }

is_named : HasKey (store_of small) key false entry
is_named = says-key says

right-length : is_key_length entry fields ≡ true
unfolding is_key_length block_count entry_blocks
right-length = refl

is_readable : HasReadableKey entry small
is_readable = says-readable says right-length

is_chained : IsChain (store_of small) (bucket_of_key key) (entry ∷ [])
is_chained = subst (λ (h : ℕ). IsChain (store_of small) (bucket_of_hash h) (entry ∷ [])) (sym key-hash) (record { linked = (small-bucket small_records, says-of_bucket says 0xA782 refl, says-next says); once = (refl, tt) })

words : chained_for (store_of small) key ≡ entry ∷ []
words = chain-words small (bucket_of_key key) (entry ∷ []) is_chained

can_be_searched : CanBeSearched key small
can_be_searched = record {
  whole = subst (λ (ws : List ℕ). IsChain (store_of small) (bucket_of_key key) ws) (sym words) is_chained;
  few = subst (λ (ws : List ℕ). length ws ≤ 131072) (sym words) (lit≤ tt);
  keys = λ w among. by w (subst (λ (ws : List ℕ). is_among ws w ≡ true) words among);
}
  where
    never : false ≡ true → ⊥
    never e = cc

    by : (w : ℕ) → is_among (entry ∷ []) w ≡ true → HasReadableKey w small
    by w among = ⊎_elim (λ (e : (entry == w) ≡ true). subst (λ (x : ℕ). HasReadableKey x small) (eqb-true entry w e) is_readable) (λ (e : false ≡ true). absurd (never e)) (or_cases (entry == w) false among)

is_found : IsFound key false entry None small
is_found = record {
  has_key = is_named;
  prefix = [];
  suffix = [];
  stands = subst (λ (ws : List ℕ). StandsBehind ws entry None [] []) (sym words) (refl, refl);
  first = λ w among named. absurd (never among);
}
  where
    never : false ≡ true → ⊥
    never e = cc

pub some-chain : SomeChainIsSearched
some-chain = record { image = small; key = key; entry = entry; searched = can_be_searched; found = is_found; unlinked = found-linked small key false entry None can_be_searched is_found }
