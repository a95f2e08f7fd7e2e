-- The bytes of a record and a node that are made of words, and what is read of them.
use Rattle.std.proofs.Common.{◌≡◌, ℕ, ◌+◌, ◌*◌, ◌/◌, ◌%◌, ◌^◌, ◌<◌, ◌≤◌, Bool, true, false, if◌then◌else◌, unwrap_or, List, [], ◌∷◌, ◌++◌, take, drop, length, get_or, get_or-take, refl, sym, ◌∙◌, ap, ap₂, arith}
use Rattle.std.proofs.lemmas.List.{get_or-drop, take_more}
use Rattle.std.proofs.lemmas.Bool.{and_parts, or_right, eq-eqb, eqb-true}
use Rattle.spec_image.specs.Bytes.{content, word_at, word_bytes, long_at, words_at, range_at, spliced, zeros}
use Rattle.spec_image.specs.Steps.{with_word, with_words}
use Rattle.spec_image.proofs.Words.{content-range}
use Rattle.spec_format.specs.Hash.{hash, mixed}
use Rattle.spec_format.specs.Records.{Entry, Node, entry_in, entry_body, sealed_entry, node_in, node_body, sealed_node, checks, child, plain}
use Rattle.spec_format.specs.Sealed.{sealed}
use Rattle.spec_format.proofs.RecordBytes.{with_words-append}
use Rattle.spec_format.specs.Address.{is_address, is_initialized}
use Rattle.blk_entry.specs.declared.writing.NewEntry.{NewEntry}
use Rattle.blk_entry.specs.Writing.{AreWords, entry_bytes, new_node, new_record, node_bytes}

-- a hash is a word
pub hash_small : (bytes : List ℕ) → hash bytes < 2 ^ 32
unfolding hash mixed
hash_small [] = omega arith
hash_small (b ∷ bytes) = omega arith

-- the word of four bytes
word_of_four : (f : ℕ → ℕ) (j v : ℕ) → v < 2 ^ 32 → f j ≡ v % 256 → f (j + 1) ≡ v / 256 % 256 → f (j + 2) ≡ v / 65536 % 256 → f (j + 3) ≡ v / 16777216 % 256 → word_at f j ≡ v
word_of_four f j v small a b c d = omega (arith, a, b, c, d, small)

-- a byte of four in a list
byte_of_four : (bytes : List ℕ) (q k : ℕ) (four : List ℕ) → k < 4 → take 4 (drop q bytes) ≡ four → content bytes (q + k) ≡ content four k
byte_of_four bytes q k four small is =
    sym (get_or-drop q bytes k 0) ∙ sym (get_or-take 4 (drop q bytes) k 0 small) ∙ ap (λ (l : List ℕ). content l k) is

-- a word of bytes that lie somewhere
pub word_there : (f : ℕ → ℕ) (i n : ℕ) (bytes : List ℕ) → range_at f i n ≡ bytes → (q j v : ℕ) → q + 4 ≤ n → j ≡ i + q → v < 2 ^ 32 → take 4 (drop q bytes) ≡ word_bytes v → word_at f j ≡ v
word_there f i n bytes is q j v inside at small four =
    word_of_four f j v small (here 0 j (omega arith) (omega (arith, at))) (here 1 (j + 1) (omega arith) (omega (arith, at))) (here 2 (j + 2) (omega arith) (omega (arith, at))) (here 3 (j + 3) (omega arith) (omega (arith, at)))
  where
    here : (k m : ℕ) → k < 4 → m ≡ i + (q + k) → f m ≡ content (word_bytes v) k
    here k m less e = sym (content-range n i f (q + k) m (omega (arith, inside, less)) e) ∙ ap (λ (l : List ℕ). content l (q + k)) is ∙ byte_of_four bytes q k (word_bytes v) less four

-- words that are written one after another
pub with_words-more : (ws : List (ℕ × ℕ)) (i : ℕ) (d : ℕ × ℕ) (bytes : List ℕ) → i < length ws → with_words (take (i + 1) ws) bytes ≡ with_word (get_or ws i d).0 (get_or ws i d).1 (with_words (take i ws) bytes)
with_words-more ws i d bytes within = ap (λ (l : List (ℕ × ℕ)). with_words l bytes) (take_more ws i d within) ∙ with_words-append (take i ws) (get_or ws i d ∷ []) bytes

-- An entry record without streams.

module _ (h next node moment key_len long_key flags : ℕ) where
  -- the new record before it gets its checksum
  unfoldable pub plain_record : Entry
  plain_record = record {
    hash = h;
    next = next;
    rankings_node = node;
    reuse_count = 0;
    refetch_count = 0;
    state = 0;
    creation_time = moment;
    key_len = key_len;
    long_key = long_key;
    data_size = 0 ∷ 0 ∷ 0 ∷ 0 ∷ [];
    data_addr = 0 ∷ 0 ∷ 0 ∷ 0 ∷ [];
    flags = flags;
    pad = 0 ∷ 0 ∷ 0 ∷ 0 ∷ [];
    self_hash = 0;
  }

  -- the words that make it
  unfoldable pub record_words : List (ℕ × ℕ)
  record_words = (0, h) ∷ (4, next) ∷ (8, node) ∷ (24, moment % 4294967296) ∷ (28, moment / 4294967296) ∷ (32, key_len) ∷ (36, long_key) ∷ (72, flags) ∷ []

  pub filled_record : sealed 92 (with_words record_words (zeros 256)) ≡ entry_bytes (sealed_entry plain_record) ++ zeros 160
  unfolding plain_record record_words with_word spliced zeros entry_bytes entry_body
  filled_record = refl

  pub front_of_record : take 96 (entry_bytes (sealed_entry plain_record) ++ zeros 160) ≡ entry_bytes (sealed_entry plain_record)
  unfolding plain_record zeros entry_bytes entry_body
  front_of_record = refl

  module _ (f : ℕ → ℕ) (i seal : ℕ) (is : range_at f i 96 ≡ entry_bytes (record plain_record { self_hash = seal }))
      (small_hash : h < 2 ^ 32) (small_next : next < 2 ^ 32) (small_node : node < 2 ^ 32) (small_moment : moment < 2 ^ 64) (small_len : key_len < 2 ^ 32) (small_long : long_key < 2 ^ 32) (small_flags : flags < 2 ^ 32) (small_seal : seal < 2 ^ 32) where
    zero_there : (q j : ℕ) → q + 4 ≤ 96 → j ≡ i + q → take 4 (drop q (entry_bytes (record plain_record { self_hash = seal }))) ≡ word_bytes 0 → word_at f j ≡ 0
    zero_there q j inside at four = word_there f i 96 (entry_bytes (record plain_record { self_hash = seal })) is q j 0 inside at (omega arith) four

    there : (q j v : ℕ) → q + 4 ≤ 96 → j ≡ i + q → v < 2 ^ 32 → take 4 (drop q (entry_bytes (record plain_record { self_hash = seal }))) ≡ word_bytes v → word_at f j ≡ v
    there q j v inside at small four = word_there f i 96 (entry_bytes (record plain_record { self_hash = seal })) is q j v inside at small four

    moment_there : long_at f (i + 24) ≡ moment
    unfolding plain_record entry_bytes entry_body
    moment_there =
        let low : word_at f (i + 24) ≡ moment % 4294967296 = there 24 (i + 24) (moment % 4294967296) (omega arith) refl (omega arith) refl in
        let high : word_at f (i + 24 + 4) ≡ moment / 4294967296 = there 28 (i + 24 + 4) (moment / 4294967296) (omega arith) (omega arith) (omega (arith, small_moment)) refl in
        ap₂ (λ (a b : ℕ). a + 4294967296 * b) low high ∙ (let e : moment % 4294967296 + 4294967296 * (moment / 4294967296) ≡ moment = omega arith in e)

    pub record_there : entry_in f i ≡ record plain_record { self_hash = seal }
    unfolding plain_record entry_bytes entry_body entry_in words_at
    record_there = λ k. record {
      hash = there 0 i h (omega arith) (omega arith) small_hash refl k;
      next = there 4 (i + 4) next (omega arith) refl small_next refl k;
      rankings_node = there 8 (i + 8) node (omega arith) refl small_node refl k;
      reuse_count = zero_there 12 (i + 12) (omega arith) refl refl k;
      refetch_count = zero_there 16 (i + 16) (omega arith) refl refl k;
      state = zero_there 20 (i + 20) (omega arith) refl refl k;
      creation_time = moment_there k;
      key_len = there 32 (i + 32) key_len (omega arith) refl small_len refl k;
      long_key = there 36 (i + 36) long_key (omega arith) refl small_long refl k;
      data_size = zero_there 40 (i + 40) (omega arith) refl refl k ∷ zero_there 44 (i + 40 + 4) (omega arith) (omega arith) refl k ∷ zero_there 48 (i + 40 + 4 + 4) (omega arith) (omega arith) refl k ∷ zero_there 52 (i + 40 + 4 + 4 + 4) (omega arith) (omega arith) refl k ∷ [];
      data_addr = zero_there 56 (i + 56) (omega arith) refl refl k ∷ zero_there 60 (i + 56 + 4) (omega arith) (omega arith) refl k ∷ zero_there 64 (i + 56 + 4 + 4) (omega arith) (omega arith) refl k ∷ zero_there 68 (i + 56 + 4 + 4 + 4) (omega arith) (omega arith) refl k ∷ [];
      flags = there 72 (i + 72) flags (omega arith) refl small_flags refl k;
      pad = zero_there 76 (i + 76) (omega arith) refl refl k ∷ zero_there 80 (i + 76 + 4) (omega arith) (omega arith) refl k ∷ zero_there 84 (i + 76 + 4 + 4) (omega arith) (omega arith) refl k ∷ zero_there 88 (i + 76 + 4 + 4 + 4) (omega arith) (omega arith) refl k ∷ [];
      self_hash = there 92 (i + 92) seal (omega arith) refl small_seal refl k;
    }

  -- the bytes of the new record have a checksum that matches
  pub record_checks : (bytes : List ℕ) → bytes ≡ entry_bytes (sealed_entry plain_record) → checks 92 bytes ≡ true
  unfolding plain_record entry_bytes entry_body
  record_checks bytes is = ap (checks 92) is ∙ or_right _ _ (eq-eqb _ _ (sealed_word (hash (entry_body plain_record)) (hash_small (entry_body plain_record))))
    where
      sealed_word : (seal : ℕ) → seal < 2 ^ 32 → word_at (content (entry_bytes (record plain_record { self_hash = seal }))) 92 ≡ seal
      sealed_word seal small = word_of_four (content (entry_bytes (record plain_record { self_hash = seal }))) 92 seal small refl refl refl refl

-- A node that is in no list.

module _ (moment contents dirty : ℕ) where
  unfoldable pub plain_node : Node
  plain_node = record { last_used = moment; last_modified = moment; next = 0; prev = 0; contents = contents; dirty = dirty; self_hash = 0 }

  unfoldable pub node_words : List (ℕ × ℕ)
  node_words = (0, moment % 4294967296) ∷ (4, moment / 4294967296) ∷ (8, moment % 4294967296) ∷ (12, moment / 4294967296) ∷ (24, contents) ∷ (28, dirty) ∷ []

  pub filled_node : sealed 32 (with_words node_words (zeros 36)) ≡ node_bytes (sealed_node plain_node)
  unfolding plain_node node_words with_word spliced zeros node_bytes node_body
  filled_node = refl

  module _ (f : ℕ → ℕ) (i seal : ℕ) (is : range_at f i 36 ≡ node_bytes (record plain_node { self_hash = seal })) (small_moment : moment < 2 ^ 64) (small_contents : contents < 2 ^ 32) (small_dirty : dirty < 2 ^ 32) (small_seal : seal < 2 ^ 32) where
    at_place : (q j v : ℕ) → q + 4 ≤ 36 → j ≡ i + q → v < 2 ^ 32 → take 4 (drop q (node_bytes (record plain_node { self_hash = seal }))) ≡ word_bytes v → word_at f j ≡ v
    at_place q j v inside at small four = word_there f i 36 (node_bytes (record plain_node { self_hash = seal })) is q j v inside at small four

    joined_moment : (low high : ℕ) → low ≡ moment % 4294967296 → high ≡ moment / 4294967296 → low + 4294967296 * high ≡ moment
    joined_moment low high e d = omega (arith, e, d)

    pub node_there : node_in f i ≡ record plain_node { self_hash = seal }
    unfolding plain_node node_bytes node_body node_in
    node_there = λ k. record {
      last_used =
          joined_moment (word_at f i) (word_at f (i + 4)) (at_place 0 i (moment % 4294967296) (omega arith) (omega arith) (omega arith) refl)
          (at_place 4 (i + 4) (moment / 4294967296) (omega arith) refl (omega (arith, small_moment)) refl) k;
      last_modified =
          joined_moment (word_at f (i + 8)) (word_at f (i + 8 + 4)) (at_place 8 (i + 8) (moment % 4294967296) (omega arith) refl (omega arith) refl)
          (at_place 12 (i + 8 + 4) (moment / 4294967296) (omega arith) (omega arith) (omega (arith, small_moment)) refl) k;
      next = at_place 16 (i + 16) 0 (omega arith) refl (omega arith) refl k;
      prev = at_place 20 (i + 20) 0 (omega arith) refl (omega arith) refl k;
      contents = at_place 24 (i + 24) contents (omega arith) refl small_contents refl k;
      dirty = at_place 28 (i + 28) dirty (omega arith) refl small_dirty refl k;
      self_hash = at_place 32 (i + 32) seal (omega arith) refl small_seal refl k;
    }

  pub node_is_checked : (bytes : List ℕ) → bytes ≡ node_bytes (sealed_node plain_node) → checks 32 bytes ≡ true
  unfolding plain_node node_bytes node_body
  node_is_checked bytes is = ap (checks 32) is ∙ or_right _ _ (eq-eqb _ _ (sealed_word (hash (node_body plain_node)) (hash_small (node_body plain_node))))
    where
      sealed_word : (seal : ℕ) → seal < 2 ^ 32 → word_at (content (node_bytes (record plain_node { self_hash = seal }))) 32 ≡ seal
      sealed_word seal small = word_of_four (content (node_bytes (record plain_node { self_hash = seal }))) 32 seal small refl refl refl refl

-- What lies at the places of a new entry.

module _ (new : NewEntry) (key : List ℕ) (moment : ℕ) (are : AreWords new) (small : moment < 2 ^ 64) (few : length key < 2 ^ 32) (long : unwrap_or new.long_key 0 < 2 ^ 32) where
  address_small : (w : ℕ) → is_address w ≡ true → w < 2 ^ 32
  unfolding is_address is_initialized
  address_small w e = let q : w / 2147483648 ≡ 1 = eqb-true _ _ (and_parts _ _ e).0 in omega (arith, q)

  flags_small : (b : Bool) → (if b then child else plain) < 2 ^ 32
  flags_small true = omega arith
  flags_small false = omega arith

  pub entry_of_bytes : (f : ℕ → ℕ) (i : ℕ) → range_at f i 96 ≡ entry_bytes (new_record new key moment) → entry_in f i ≡ new_record new key moment
  unfolding new_record plain_record
  entry_of_bytes f i is =
      record_there (hash key) new.next new.node moment (length key) (unwrap_or new.long_key 0) (if new.child then child else plain) f i
      (hash (entry_body (plain_record (hash key) new.next new.node moment (length key) (unwrap_or new.long_key 0) (if new.child then child else plain)))) is
      (hash_small key) are.next (address_small new.node are.node) small few long (flags_small new.child) (hash_small _)

  pub entry_bytes_check : (bytes : List ℕ) → bytes ≡ entry_bytes (new_record new key moment) → checks 92 bytes ≡ true
  unfolding new_record plain_record
  entry_bytes_check bytes is = record_checks (hash key) new.next new.node moment (length key) (unwrap_or new.long_key 0) (if new.child then child else plain) bytes is

  pub node_of_bytes : (f : ℕ → ℕ) (i : ℕ) → range_at f i 36 ≡ node_bytes (new_node new moment) → node_in f i ≡ new_node new moment
  unfolding new_node plain_node
  node_of_bytes f i is = node_there moment new.entry new.dirty f i (hash (node_body (plain_node moment new.entry new.dirty))) is small (address_small new.entry are.entry) are.dirty (hash_small _)

  pub node_bytes_check : (bytes : List ℕ) → bytes ≡ node_bytes (new_node new moment) → checks 32 bytes ≡ true
  unfolding new_node plain_node
  node_bytes_check bytes is = node_is_checked moment new.entry new.dirty bytes is
