-- Records that are read in pieces.
use Rattle.std.proofs.Common.{◌≡◌, ℕ, ◌+◌, ◌-◌, ◌*◌, ◌<◌, ◌≤◌, true, ◌&&◌, List, length, take, drop, None, Some, if◌then◌else◌, refl, sym, ap, ap₂, subst, ◌∙◌, arith}
use Rattle.std.specs.Prelude.{◌==◌, nat_le, slice_get}
use Rattle.std.specs.Option.{option_map}
use Rattle.std.proofs.lemmas.Bool.{and_parts, eqb-true}
use Rattle.std.proofs.lemmas.Bool.Decides.{nat_tests}
use Rattle.std.proofs.lemmas.List.{length-drop}
use Rattle.std.proofs.lemmas.Option.{get_or_from_slice_get, slice_get_within}
use Rattle.spec_image.specs.Bytes.{range_at}
use Rattle.spec_image.specs.Image.{Block, Image, AreBytes, HasRange, byte, length_of}
use Rattle.spec_format.specs.Address.{kind_of, file_selector, first_block, block_word, blocks_256, byte_size, place, block_place, block_size}
use Rattle.spec_format.specs.Hash.{hash}
use Rattle.spec_format.specs.Records.{entry_in}
use Rattle.spec_format.specs.Records as formats
use Rattle.spec_format.proofs.Words.{AreFields, AreFields-of, kind_of-block_word, file_selector-block_word, first_block-block_word, block_count-block_word}
use Rattle.spec_folder.specs.Entries.{stored_key}
use Rattle.spec_folder.specs.View.{RecordFields, block_bytes, entry_at, fields_of, key_place_at, store_of, stored_at}
use Rattle.blk_disk.specs.declared.tables.BlockFiles.{BlockFiles}
use Rattle.blk_disk.specs.Tables.{Agrees, stands_among}
use Rattle.blk_disk.proofs.Ranges.{stands_range}
use Rattle.blk_entry.proofs.KeyPlaces.{take-range, drop-range}
use Rattle.blk_audit.specs.Chaining.{first_block_of}
use Rattle.blk_audit.specs.Records.{AreRecordsOf, IsHashOfKey, IsSaidBy, fields_said, is_hash_in, record_in, record_words_in}
use Rattle.blk_audit.specs.declared.records.ReadRecord.{ReadRecord}
use Rattle.blk_audit.specs.declared.record_words.RecordWords.{RecordWords}
use Rattle.blk_audit.specs.declared.record_files.Placed.{Placed}
use Rattle.blk_audit.specs.declared.record_files.Records.{Records}
use Rattle.blk_audit.proofs.RecordFacts.{are_words}
use Rattle.blk_audit.proofs.Truths.{value_by}

fields : (n b : ℕ) → n < 256 → b < 65536 → AreFields 2 n b 1
fields n b file block = record { kind = omega arith; file = file; start = block; some = omega arith; most = omega arith }

-- where a block lies
block_at : (n b : ℕ) → n < 256 → b < 65536 → place (block_word 2 n b 1) ≡ 8192 + b * 256
unfolding place block_place block_size
block_at n b file block =
    let are = fields n b file block in
    rw (kind_of-block_word 2 n b 1 are, first_block-block_word 2 n b 1 are) refl

block_room : (n b : ℕ) → n < 256 → b < 65536 → byte_size (block_word 2 n b 1) ≡ 256
unfolding byte_size block_size
block_room n b file block =
    let are = fields n b file block in
    rw (kind_of-block_word 2 n b 1 are, block_count-block_word 2 n b 1 are) refl

pub record_place : (w : ℕ) → kind_of w ≡ blocks_256 → place w ≡ 8192 + first_block w * 256
unfolding place block_place block_size
record_place w kind = rw kind refl

-- the record at the first block of an address is that of the address
same_entry : (image : Image) (w : ℕ) → kind_of w ≡ blocks_256 → entry_at image (first_block_of w) ≡ entry_at image w
same_entry image w kind =
    let small = AreFields-of w in
    let are = fields (file_selector w) (first_block w) small.file small.start in
    let file = file_selector-block_word 2 (file_selector w) (first_block w) 1 are in
    let at : place (first_block_of w) ≡ place w = block_at (file_selector w) (first_block w) small.file small.start ∙ sym (record_place w kind) in
    ap₂ (λ (f p : ℕ). entry_in (byte image (Block f)) p) file at

first_there : (image : Image) (w : ℕ) → kind_of w ≡ blocks_256 → HasRange image (Block (file_selector (first_block_of w))) (place (first_block_of w)) 96 → HasRange image (Block (file_selector w)) (place w) 96
first_there image w kind there =
    let small = AreFields-of w in
    let are = fields (file_selector w) (first_block w) small.file small.start in
    let file = file_selector-block_word 2 (file_selector w) (first_block w) 1 are in
    let at : place (first_block_of w) ≡ place w = block_at (file_selector w) (first_block w) small.file small.start ∙ sym (record_place w kind) in
    subst (λ (f : ℕ). HasRange image (Block f) (place w) 96) file (subst (λ (p : ℕ). HasRange image (Block (file_selector (first_block_of w))) p 96) at there)

-- the key in the record at the first block of an address is that of the address
same_bytes : (image : Image) (w n : ℕ) → kind_of w ≡ blocks_256 → range_at (block_bytes image (first_block_of w)) (place (first_block_of w) + 96) n ≡ range_at (block_bytes image w) (place w + 96) n
same_bytes image w n kind =
    let small = AreFields-of w in
    let are = fields (file_selector w) (first_block w) small.file small.start in
    let file = file_selector-block_word 2 (file_selector w) (first_block w) 1 are in
    let at : place (first_block_of w) ≡ place w = block_at (file_selector w) (first_block w) small.file small.start ∙ sym (record_place w kind) in
    ap₂ (λ (f p : ℕ). range_at (byte image (Block f)) (p + 96) n) file at

same_key : (image : Image) (w : ℕ) (fields : RecordFields) → kind_of w ≡ blocks_256 → stored_key (store_of image) (first_block_of w) fields ≡ stored_key (store_of image) w fields
unfolding stored_key store_of key_place_at
same_key image w fields kind =
    ap (λ (bytes : List ℕ). if nat_le fields.key_len 927 then (if fields.long_key == 0 then Some bytes else None) else option_map (take fields.key_len) (stored_at image (fields.key_len + 1) fields.long_key))
    (same_bytes image w fields.key_len kind)

pub of_first : (image : Image) (w : ℕ) (said : ReadRecord) → kind_of w ≡ blocks_256 → IsSaidBy image (first_block_of w) said → IsSaidBy image w said
of_first image w said kind is =
    let same = same_entry image w kind in
    record {
      words = record { fields = is.words.fields ∙ ap fields_of same; next = is.words.next ∙ ap (λ (e : formats.Entry). e.next) same; bare = is.words.bare ∙ ap (λ (e : formats.Entry). e.self_hash == 0) same };
      hash = λ right key stored. is.hash right key (same_key image w (fields_said said.words) kind ∙ stored);
      there = first_there image w kind is.there;
    }

-- one of the records that were read
pub listed : (image : Image) (records : Records) (i : ℕ) (p : Placed) → AreRecordsOf image records → slice_get records.placed.items i ≡ Some p → IsSaidBy image p.first p.said
listed image records i p are here =
    subst (λ (q : Placed). IsSaidBy image q.first q.said) (get_or_from_slice_get records.placed.items i p p here) (are i p (slice_get_within records.placed.items i p here))

-- the bytes from a block of a piece on
pub window_is : (f : ℕ → ℕ) (p i : ℕ) (bytes : List ℕ) → i < 128 → bytes ≡ range_at f p 32768 → drop (256 * i) bytes ≡ range_at f (p + 256 * i) (32768 - 256 * i)
window_is f p i bytes below is =
    let size : 32768 ≡ 256 * i + (32768 - 256 * i) = omega (arith, below) in
    ap (drop (256 * i)) (is ∙ ap (range_at f p) size) ∙ drop-range (256 * i) (32768 - 256 * i) p f

-- a short key that is stored lies after its record
stored_short : (image : Image) (w : ℕ) (fields : RecordFields) (key : List ℕ) → nat_le fields.key_len 927 ≡ true → stored_key (store_of image) w fields ≡ Some key → key ≡ range_at (block_bytes image w) (place w + 96) fields.key_len
unfolding stored_key store_of key_place_at
stored_short image w fields key short is =
    let shown : stored_key (store_of image) w fields ≡ (if fields.long_key == 0 then Some (range_at (block_bytes image w) (place w + 96) fields.key_len) else None) = rw short refl in
    value_by (fields.long_key == 0) (range_at (block_bytes image w) (place w + 96) fields.key_len) key (sym is ∙ shown)

-- the hash of a short key is taken where the key lies in these bytes
hash_is : (image : Image) (w : ℕ) (words : RecordWords) (f : ℕ → ℕ) (p m : ℕ) (bytes : List ℕ) → bytes ≡ range_at f p m → length bytes ≡ m → ((n : ℕ) → range_at (block_bytes image w) (place w + 96) n ≡ range_at f p n)
    → is_hash_in words.hash words.key_len bytes ≡ true → IsHashOfKey image w words words.hash
hash_is image w words f p m bytes are size here right key stored =
    let parts = and_parts (nat_le words.key_len 927 && nat_le words.key_len (length bytes)) (hash (take words.key_len bytes) == words.hash) right in
    let lengths = and_parts (nat_le words.key_len 927) (nat_le words.key_len (length bytes)) parts.0 in
    sym (eqb-true (hash (take words.key_len bytes)) words.hash parts.1)
    ∙ ap hash (ap (take words.key_len) are ∙ take-range words.key_len m p f (inside lengths.1) ∙ sym (here words.key_len) ∙ sym (stored_short image w (fields_said words) key lengths.0 stored))
  where
    inside : nat_le words.key_len (length bytes) ≡ true → words.key_len ≤ m
    inside e = grind (arith, nat_tests)

pub said_block : (image : Image) (n b at : ℕ) (bytes : List ℕ) → n < 256 → b < 65536 → at ≡ 8192 + b * 256 → 96 ≤ length bytes → AreBytes image → HasRange image (Block n) at (length bytes) → bytes ≡ range_at (byte image (Block n)) at (length bytes) → IsSaidBy image (block_word 2 n b 1) (record_in bytes)
said_block image n b at bytes file block there long small inside is =
    let w = block_word 2 n b 1 in
    let are = fields n b file block in
    let here = block_at n b file block in
    let at_place : at ≡ place w = there ∙ sym here in
    let place_is : at ≡ place w + 0 = omega (arith, at_place) in
    let whole : length bytes ≡ 96 + (length bytes - 96) = omega (arith, long) in
    let kind = kind_of-block_word 2 n b 1 are in
    let sel = file_selector-block_word 2 n b 1 are in
    let front : take 96 bytes ≡ range_at (byte image (Block (file_selector w))) (place w + 0) 96 =
    ap (take 96) is ∙ take-range 96 (length bytes) at (byte image (Block n)) long ∙ ap₂ (λ (f p : ℕ). range_at (byte image (Block f)) p 96) (sym sel) place_is in
    let rest : drop 96 bytes ≡ range_at (byte image (Block n)) (at + 96) (length bytes - 96) =
    ap (drop 96) (is ∙ ap (range_at (byte image (Block n)) at) whole) ∙ drop-range 96 (length bytes - 96) at (byte image (Block n)) in
    let behind : (k : ℕ) → range_at (block_bytes image w) (place w + 96) k ≡ range_at (byte image (Block n)) (at + 96) k = λ k. ap₂ (λ (f p : ℕ). range_at (byte image (Block f)) (p + 96) k) sel (sym at_place) in
    record {
      words = are_words image w (take 96 bytes) small kind front;
      hash = hash_is image w (record_words_in (take 96 bytes)) (byte image (Block n)) (at + 96) (length bytes - 96) (drop 96 bytes) rest (length-drop 96 bytes) behind;
      there = subst (λ (f : ℕ). HasRange image (Block f) (place w) 96) (sym sel) (subst (λ (p : ℕ). HasRange image (Block n) p 96) at_place (omega (arith, inside, long)));
    }

-- a piece lies in its file where its last block is valid
pub piece_there : (files : BlockFiles) (image : Image) (n first : ℕ) → Agrees files image → n < 256 → first + 128 ≤ 65536 → stands_among files (block_word 2 n (first + 128 - 1) 1) ≡ true → HasRange image (Block n) (8192 + first * 256) 32768
piece_there files image n first agrees file inside there =
    let block : first + 128 - 1 < 65536 = omega (arith, inside) in
    let room = block_room n (first + 128 - 1) file block in
    let at = block_at n (first + 128 - 1) file block in
    let range = stands_range files image (block_word 2 n (first + 128 - 1) 1) 0 256 agrees there (omega (arith, room)) in
    let here : place (block_word 2 n (first + 128 - 1) 1) + 0 + 256 ≤ length_of image (Block n) =
    subst (λ (k : ℕ). place (block_word 2 n (first + 128 - 1) 1) + 0 + 256 ≤ length_of image (Block k)) (file_selector-block_word 2 n (first + 128 - 1) 1 (fields n (first + 128 - 1) file block)) range in
    omega (arith, here, at)
