-- The laws speak of something: their premises are met by changes of the small folder.
use Rattle.std.proofs.Common.{◌≡◌, ℕ, zero, suc, ◌+◌, ◌%◌, ◌^◌, ◌<◌, ◌≤◌, List, [], ◌∷◌, ◌++◌, All, refl, sym, ◌∙◌, ap, subst, arith, append-nil, lit<, lit≤, Some}
use Rattle.std.proofs.lemmas.List.Elements.{All-nil, All-cons}
use Rattle.spec_image.specs.Bytes.{content, word_at, word_bytes, spliced, zeros, range_at}
use Rattle.spec_image.specs.Image.{File, Index, Block, External, Image, AreBytes, bytes_of, length_of}
use Rattle.spec_image.specs.Steps.{TrailStep, Word, applied, after, with_word}
use Rattle.spec_image.specs.Footprint.{SameOutside, one_word, range}
use Rattle.spec_image.specs.Told.{Along}
use Rattle.spec_image.proofs.Footprints.{outside_write}
use Rattle.spec_image.proofs.Images.{bytes_of-written}
use Rattle.spec_image.proofs.Runs.{along_prefix}
use Rattle.spec_image.proofs.Splices.{length-zeros, content-zeros}
use Rattle.spec_image.proofs.Words.{word-written, length-with_words}
use Rattle.spec_format.specs.Address.{is_address, is_initialized, names_external, names_blocks, kind_of, reserved_bits, block_count, file_selector, first_block, external_number, block_size, block_place, place, byte_size}
use Rattle.spec_format.specs.Standing.{stands, stands_as_blocks}
use Rattle.spec_format.specs.Records.{node_in, node_checks, entry_in, entry_checks}
use Rattle.spec_format.specs.Headers.{index_length}
use Rattle.spec_format.specs.BlockFiles.{next_file_in, max_entries_in, files_along, linked, kind_among, IsWellFormed}
use Rattle.spec_folder.specs.View.{fields_of, entry_at, list_of, store_of, checks_at, node_fields_at, fields_at}
use Rattle.spec_format.specs.NewFolder.{new_index_words, new_file_words}
use Rattle.law_folder.proofs.examples.Premises.{new_is_formed}
use Rattle.law_folder.proofs.states.NewFolders.{new_folder}
use Rattle.law_folder.proofs.examples.SmallFolder.{small_records, folder_with}
use Rattle.spec_format.specs.Sealed.{AreChanges, IsMidUpdate, RecordChecks, record_at, seal_place, size_by_kind, seal_by_kind, sealed_steps}
use Rattle.spec_format.proofs.SealedRecords.{moments, Fits}
use Rattle.law_folder.specs.IndexWrites.{IsIndexWord}
use Rattle.law_folder.specs.NodeUpdates.{IsNode}
use Rattle.law_folder.specs.RecordUpdates.{IsRecord}
use Rattle.law_folder.proofs.updates.Prefixes.{AreSmall, small-words}

-- the small folder, its node, and its record
abbrev small : Image
small = folder_with small_records

abbrev node : ℕ
node = 0x90000000

abbrev entry : ℕ
entry = 0xA0010000

-- ---- bytes

pub small-zeros : (n : ℕ) → AreSmall (zeros n)
small-zeros n i = omega (arith, content-zeros n i)

small-file : (file : File) → AreSmall (bytes_of small file)
unfolding folder_with
small-file Index = small-words (new_index_words 50 ++ (288, 0x90000000) ∷ (308, 0x90000000) ∷ (171896, 0xA0010000) ∷ []) (zeros index_length) (small-zeros index_length)
small-file (Block zero) = small-words (new_file_words 0 ++ (20, 1024) ∷ (8208, 0x90000000) ∷ (8212, 0x90000000) ∷ (8216, 0xA0010000) ∷ []) (zeros 8228) (small-zeros 8228)
small-file (Block (suc zero)) =
    small-words (new_file_words 1 ++ (20, 1024) ∷ (8192, 0x115EA782) ∷ (8200, 0x90000000) ∷ (8224, 1) ∷ (8232, 2) ∷ (8248, 0xA0010001) ∷ (8288, 97) ∷ (8448, 0x7A7A) ∷ []) (zeros 8704) (small-zeros 8704)
small-file (Block (suc (suc zero))) = small-words (new_file_words 2) (zeros 8192) (small-zeros 8192)
small-file (Block (suc (suc (suc zero)))) = small-words (new_file_words 3) (zeros 8192) (small-zeros 8192)
small-file (Block (suc (suc (suc (suc n))))) = λ i. lit< tt
small-file (External n) = λ i. lit< tt

pub small_bytes : AreBytes small
small_bytes file i = small-file file i

-- ---- blocks: four bytes of the key place of the record

pub blocks_are_written : SameOutside (range (Block (file_selector entry)) 8292 4) small (applied (Word (Block (file_selector entry)) 8292 (word_bytes 5)) small)
blocks_are_written = outside_write (Block (file_selector entry)) 8292 (word_bytes 5) small

pub blocks_are_inside : (place entry ≤ 8292) × (8292 + 4 ≤ place entry + byte_size entry)
unfolding place byte_size block_place block_size block_count kind_of first_block
blocks_are_inside = (lit≤ tt, lit≤ tt)

-- ---- the node

pub node_is_good : IsNode small node
unfolding list_of checks_at folder_with zeros with_word spliced next_file_in max_entries_in linked files_along kind_among stands stands_as_blocks is_address is_initialized names_external names_blocks kind_of reserved_bits block_count file_selector first_block external_number block_size block_place place byte_size node_in node_checks
node_is_good = record { good = refl; bytes = small_bytes }

pub node_is_named : (store_of small).node_fields node ≡ Some (record { contents = 0xA0010000; dirty = 0 })
unfolding store_of node_fields_at folder_with zeros with_word spliced next_file_in max_entries_in linked files_along kind_among stands stands_as_blocks is_address is_initialized names_external names_blocks kind_of reserved_bits block_count file_selector first_block external_number block_size block_place place byte_size node_in
node_is_named = refl

node_fits : Fits node small
unfolding size_by_kind kind_of place block_place block_size first_block file_selector folder_with zeros with_word spliced
node_fits = lit≤ tt

node_checked : RecordChecks node small
unfolding size_by_kind seal_by_kind record_at range_at kind_of place block_place block_size first_block file_selector folder_with zeros with_word spliced
node_checked = refl

node_seal : seal_place node ≡ 32
unfolding seal_by_kind kind_of
node_seal = refl

-- the record of a word is updated: all changes are made
updated : (w : ℕ) (changes : List (ℕ × ℕ)) → Fits w small → RecordChecks w small → All (λ c. c.0 + 4 ≤ seal_place w) changes → IsMidUpdate small w changes (after (sealed_steps small w changes) small)
updated w changes fits checks before =
    along_prefix (IsMidUpdate small w changes) (sealed_steps small w changes) [] small
    (subst (λ (steps : List TrailStep). Along (IsMidUpdate small w changes) small steps) (sym (append-nil (sealed_steps small w changes))) (moments w small changes fits checks before))

one : (s d x : ℕ) → d + 4 ≤ s → All (λ (c : ℕ × ℕ). c.0 + 4 ≤ s) ((d, x) ∷ [])
one s d x inside = All-cons (λ (c : ℕ × ℕ). c.0 + 4 ≤ s) (d, x) [] inside (All-nil (λ (c : ℕ × ℕ). c.0 + 4 ≤ s))

-- a word of the node: a time, its next, its prev, its contents or its dirty flag
pub node_is_updated : (d x : ℕ) → d + 4 ≤ 32 → IsMidUpdate small node ((d, x) ∷ []) (after (sealed_steps small node ((d, x) ∷ [])) small)
node_is_updated d x inside = updated node ((d, x) ∷ []) node_fits node_checked (one (seal_place node) d x (omega (arith, inside, node_seal)))

-- ---- the record

pub entry_is_good : IsRecord small entry (fields_of (entry_at small entry))
unfolding store_of fields_at folder_with zeros with_word spliced next_file_in max_entries_in linked files_along kind_among stands stands_as_blocks is_address is_initialized names_external names_blocks kind_of reserved_bits block_count file_selector first_block external_number block_size block_place place byte_size entry_in entry_checks
entry_is_good = record { here = refl; good = refl; bytes = small_bytes }

entry_fits : Fits entry small
unfolding size_by_kind kind_of place block_place block_size first_block file_selector folder_with zeros with_word spliced
entry_fits = lit≤ tt

entry_checked : RecordChecks entry small
unfolding size_by_kind seal_by_kind record_at range_at kind_of place block_place block_size first_block file_selector folder_with zeros with_word spliced
entry_checked = refl

entry_seal : seal_place entry ≡ 92
unfolding seal_by_kind kind_of
entry_seal = refl

-- a word of the record: its next, or another field
pub entry_is_updated : (d x : ℕ) → d + 4 ≤ 92 → IsMidUpdate small entry ((d, x) ∷ []) (after (sealed_steps small entry ((d, x) ∷ [])) small)
entry_is_updated d x inside = updated entry ((d, x) ∷ []) entry_fits entry_checked (one (seal_place entry) d x (omega (arith, inside, entry_seal)))

-- such a change is one of a record
pub is_change : (seal d x : ℕ) → d % 4 ≡ 0 → d < seal → AreChanges seal ((d, x) ∷ [])
is_change seal d x even before = record {
  few = lit≤ tt;
  aligned = All-cons (λ (c : ℕ × ℕ). c.0 % 4 ≡ 0) (d, x) [] even (All-nil (λ (c : ℕ × ℕ). c.0 % 4 ≡ 0));
  before = All-cons (λ (c : ℕ × ℕ). c.0 < seal) (d, x) [] before (All-nil (λ (c : ℕ × ℕ). c.0 < seal));
  different = (All-nil (λ (c : ℕ × ℕ). c.0 ≡ d → ⊥), tt);
}

-- ---- the index

index-long : length_of small Index ≡ 262512
unfolding folder_with
index-long = length-with_words (new_index_words 50 ++ (288, 0x90000000) ∷ (308, 0x90000000) ∷ (171896, 0xA0010000) ∷ []) (zeros index_length) ∙ length-zeros index_length

-- a word of the index is written
pub index_is_written : (at x : ℕ) → at + 4 ≤ 262512 → x < 2 ^ 32 → IsIndexWord at x small (applied (Word Index at (word_bytes x)) small)
index_is_written at x inside fits = record {
  there = ap (λ (bytes : List ℕ). word_at (content bytes) at) (bytes_of-written small Index at (word_bytes x)) ∙ word-written at x (bytes_of small Index) fits (omega (arith, index-long, inside));
  outside = outside_write Index at (word_bytes x) small;
}

-- a folder is well formed, and the word of its last external number, at place 16, is written
pub last_file_is_written : SameOutside (one_word Index 16) (new_folder 50) (applied (Word Index 16 (word_bytes 9)) (new_folder 50))
last_file_is_written = outside_write Index 16 (word_bytes 9) (new_folder 50)

pub it_is_well_formed : IsWellFormed (new_folder 50)
it_is_well_formed = new_is_formed
