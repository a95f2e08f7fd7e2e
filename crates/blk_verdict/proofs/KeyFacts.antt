-- The key of a record by its words.
use Rattle.std.proofs.Common.{◌≡◌, ◌≢◌, ◌+◌, ◌≤◌, ◌<◌, ℕ, Bool, true, false, ◌||◌, if◌then◌else◌, List, length, length-take, take, Option, None, Some, refl, sym, ◌∙◌, ap, arith}
use Rattle.std.specs.Prelude.{◌==◌, nat_le, is_some}
use Rattle.std.specs.Option.{option_map}
use Rattle.std.proofs.lemmas.Bool.{and_parts}
use Rattle.std.proofs.lemmas.Bool.Decides.{nat_tests}
use Rattle.spec_image.specs.Bytes.{range_at}
use Rattle.spec_image.specs.Image.{Block, Image, byte}
use Rattle.spec_image.proofs.Words.{length-range}
use Rattle.spec_format.specs.Address.{blocks_256, external, file_selector, is_address, kind_of, place}
use Rattle.spec_format.specs.Storage.{is_storage, kind_for}
use Rattle.spec_folder.specs.Entries.{stored_key}
use Rattle.spec_folder.specs.View.{RecordFields, key_place_at, store_of, stored_at}
use Rattle.blk_disk.specs.declared.tables.BlockFiles.{BlockFiles}
use Rattle.blk_disk.specs.Tables.{Agrees, stands_among}
use Rattle.blk_entry.specs.Keys.{IsInside, bytes_before, data_at, is_short, key_address, may_have, stores}
use Rattle.blk_entry.proofs.KeyPlaces.{IsKey, bytes_keyed, keyed, of_other, storage_parts, storage_room}
use Rattle.blk_audit.specs.Records.{fields_said}
use Rattle.blk_audit.specs.declared.record_words.RecordWords.{RecordWords}
use Rattle.blk_verdict.proofs.StreamFacts.{stored_length}

pub short_is : (k : ℕ) → k ≤ 927 → is_short k ≡ true
short_is k few = grind (arith, nat_tests)

pub long_is : (k : ℕ) → 927 < k → is_short k ≡ false
long_is k many = grind (arith, nat_tests)

module _ (image : Image) (entry : ℕ) (words : RecordWords) where
  pub short_there : words.key_len ≤ 927 → (words.long_key == 0) ≡ is_some (stored_key (store_of image) entry (fields_said words))
  unfolding stored_key
  short_there few = rw (short_is words.key_len few) (by_test (words.long_key == 0) ((store_of image).key_place entry words.key_len))
    where
      by_test : (t : Bool) (key : List ℕ) → t ≡ is_some (if t then Some key else None)
      by_test true key = refl
      by_test false key = refl

  pub long_there : 927 < words.key_len → is_some (stored_at image (words.key_len + 1) words.long_key) ≡ is_some (stored_key (store_of image) entry (fields_said words))
  unfolding stored_key store_of
  long_there many = rw (long_is words.key_len many) (by_data (stored_at image (words.key_len + 1) words.long_key))
    where
      by_data : (o : Option (List ℕ)) → is_some o ≡ is_some (option_map (take words.key_len) o)
      by_data None = refl
      by_data (Some bytes) = refl

  pub key_bytes_are : (key : List ℕ) → kind_of entry ≡ blocks_256 → stored_key (store_of image) entry (fields_said words) ≡ Some key → key ≡ data_at image (key_address entry words.key_len words.long_key) (bytes_before words.key_len) words.key_len
  unfolding stored_key store_of key_place_at
  key_bytes_are key kind e = bytes_keyed image entry key words.key_len words.long_key kind e

  pub is_key : (files : BlockFiles) (key : List ℕ) → Agrees files image → kind_of entry ≡ blocks_256 → may_have entry words.key_len ≡ true → stored_key (store_of image) entry (fields_said words) ≡ Some key → IsKey files image entry key words.key_len words.long_key
  unfolding stored_key store_of key_place_at
  is_key files key agrees kind has e = keyed files image entry key words.key_len words.long_key agrees kind has e

-- where a key is read
pub place_short : (entry k l : ℕ) → k ≤ 927 → (key_address entry k l ≡ entry) × (bytes_before k ≡ 96)
unfolding key_address bytes_before
place_short entry k l few = let s = short_is k few in (rw s refl, rw s refl)

pub place_long : (entry k l : ℕ) → 927 < k → (key_address entry k l ≡ l) × (bytes_before k ≡ 0)
unfolding key_address bytes_before
place_long entry k l many = let s = long_is k many in (rw s refl, rw s refl)

-- a word that stores data is an address
pub stores_address : (files : BlockFiles) (size w : ℕ) → 0 < size → stores files size w ≡ true → is_address w ≡ true
unfolding stores
stores_address files size w some e = (storage_parts size w some (and_parts _ _ e).0).0

pub no_word : (w : ℕ) → is_address w ≡ true → (if is_address w then Some w else None) ≡ None → ⊥
no_word w address none = clash (sym (ap (λ (t : Bool). if t then Some w else None) address) ∙ none)
  where
    clash : Some w ≡ None → ⊥
    clash h = cc

-- data of few bytes lies in blocks, and its first bytes are inside them
abbrev kind_by : Bool → Bool → Bool → ℕ
kind_by a b c = if a then 2 else if b then 3 else if c then 4 else 0

some_kind : (a b c : Bool) → c ≡ true → (kind_by a b c == 0) ≡ false
some_kind true b c t = refl
some_kind false true c t = refl
some_kind false false true t = refl
some_kind false false false t = sym t

few_kind : (size : ℕ) → size ≤ 16384 → (kind_for size == external) ≡ false
unfolding kind_for
few_kind size few = some_kind (nat_le size 1023) (nat_le size 4095) (nat_le size 16384) (grind (arith, nat_tests))

in_blocks_test : (files : BlockFiles) (size w : ℕ) → 0 < size → size ≤ 16384 → stores files size w ≡ true → (kind_of w == external) ≡ false
unfolding stores
in_blocks_test files size w some few e = ap (λ (k : ℕ). k == external) (storage_parts size w some (and_parts _ _ e).0).1 ∙ few_kind size few

pub in_blocks : (files : BlockFiles) (size w : ℕ) → 0 < size → size ≤ 16384 → stores files size w ≡ true → kind_of w ≢ external
in_blocks files size w some few e = of_other (kind_of w) external (in_blocks_test files size w some few e)

pub front_inside : (files : BlockFiles) (size w n : ℕ) → 0 < size → size ≤ 16384 → stores files size w ≡ true → n ≤ size → IsInside files w 0 n
unfolding stores
front_inside files size w n some few e less =
    let p = and_parts (is_storage size w) ((kind_of w == external) || stands_among files w) e in
    let room = storage_room size w some p.0 (in_blocks files size w some few e) in
    record { small = omega (arith, less, few); stands = λ _. right (kind_of w == external) (stands_among files w) (in_blocks_test files size w some few e) p.1; room = λ _. omega (arith, less, room) }
  where
    right : (a b : Bool) → a ≡ false → (a || b) ≡ true → b ≡ true
    right a b none h = rw none at h

-- other bytes of data of few bytes lie inside its blocks too
pub part_inside : (files : BlockFiles) (size w at n : ℕ) → 0 < size → size ≤ 16384 → stores files size w ≡ true → at + n ≤ size → IsInside files w at n
part_inside files size w at n some few e less =
    let all = front_inside files size w (at + n) some few e less in
    record { small = omega (arith, less, few); stands = all.stands; room = λ block_kind. let h = all.room block_kind in omega (arith, h) }

-- a stored key has the length that its record says
pub key_length : (image : Image) (w : ℕ) (fields : RecordFields) (key : List ℕ) → stored_key (store_of image) w fields ≡ Some key → length key ≡ fields.key_len
unfolding stored_key store_of key_place_at
key_length image w fields key e = by_tests (nat_le fields.key_len 927) (fields.long_key == 0) e
  where
    none_some : None ≡ Some key → ⊥
    none_some h = cc

    long : (o : Option (List ℕ)) → stored_at image (fields.key_len + 1) fields.long_key ≡ o → option_map (take fields.key_len) o ≡ Some key → length key ≡ fields.key_len
    long None is h = absurd (none_some h)
    long (Some bytes) is h =
        let size = stored_length image (fields.key_len + 1) fields.long_key bytes is in
        let taken = length-take fields.key_len bytes in
        let same : take fields.key_len bytes ≡ key = cc in
        sym (ap length same) ∙ (let e : length (take fields.key_len bytes) ≡ fields.key_len = omega (arith, size, taken) in e)

    by_tests : (t z : Bool) → (if t then (if z then Some (range_at (byte image (Block (file_selector w))) (place w + 96) fields.key_len) else None) else option_map (take fields.key_len) (stored_at image (fields.key_len + 1) fields.long_key)) ≡ Some key → length key ≡ fields.key_len
    by_tests true true h =
        let same : range_at (byte image (Block (file_selector w))) (place w + 96) fields.key_len ≡ key = cc in
        sym (ap length same) ∙ length-range fields.key_len (place w + 96) (byte image (Block (file_selector w)))
    by_tests true false h = absurd (none_some h)
    by_tests false z h = long (stored_at image (fields.key_len + 1) fields.long_key) (λ i. stored_at image (fields.key_len + 1) fields.long_key) h
