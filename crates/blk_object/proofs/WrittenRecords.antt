-- A record of which the words of one stream change.
use Rattle.std.proofs.Common.{◌≡◌, ◌≢◌, ⊎_elim, inl, inr, ℕ, zero, suc, ◌+◌, ◌*◌, ◌<◌, ◌≤◌, List, [], ◌∷◌, refl, ap, ap₂, sym, ◌∙◌, subst, arith, Bool, true, false, Option, Some, None}
use Rattle.std.specs.Prelude.{◌⊎◌, ◌==◌, ◌&&◌, ◌-◌, ◌/◌, nat_le, nat_lt, take, if◌then◌else◌}
use Rattle.std.proofs.lemmas.Bool.{and_parts, cases_lt, eqb-true, le-leb, leb-true, ltb-true}
use Rattle.spec_image.specs.Bytes.{content, word_at}
use Rattle.spec_image.specs.Image.{AreBytes, Block, Image, byte}
use Rattle.spec_image.proofs.Words.{same-range, same-word}
use Rattle.spec_format.specs.Address.{block_count, block_size, blocks_256, byte_size, file_selector, kind_of, place}
use Rattle.spec_format.specs.Records.{checks, entry_checks, entry_in}
use Rattle.spec_format.specs.Sealed.{RecordChecks, record_at, record_size, seal_place}
use Rattle.spec_format.specs.Storage.{entry_blocks}
use Rattle.spec_format.proofs.SealedFields.{record_word}
use Rattle.spec_format.proofs.SealedRecords.{length-record, seal_last}
use Rattle.spec_folder.specs.Entries.{is_key_length, longest_key_with, most_stream_bytes, stored_stream, stored_streams, stream}
use Rattle.spec_folder.specs.View.{RecordFields, entry_at, fields_of, key_place_at, store_of}
use Rattle.law_folder.proofs.claims.BlockBytes.{room_is}
use Rattle.law_folder.proofs.updates.Prefixes.{AreSmall, entry_checks-by, entry_checks-prefix, small-range, small-take}
use Rattle.law_folder.proofs.updates.Updates.{entry-here, entry-seal}
use Rattle.blk_stream.specs.Changing.{record_word as word_print, stream_words}
use Rattle.blk_stream.specs.Loading.{stored_streams_with}
use Rattle.blk_stream.specs.Streams.{address_place, address_word, size_place, size_word}
use Rattle.blk_stream.proofs.EmptyStreams.{fourth_size, fourth_word, streams_known}
use Rattle.blk_stream.proofs.Naming.{apart_place}
use Rattle.blk_stream.proofs.StreamPlaces.{address_at, size_at, streams_parts}
use Rattle.blk_object.proofs.WrittenRoles.{IsStreamChange}

-- but for the words of a stream and the checksum, the blocks of a record have the same bytes
abbrev pub SameRecordBut : (entry i : ℕ) → Image → Image → Type 0
SameRecordBut entry i from image = (k : ℕ) → place entry ≤ k → k < place entry + byte_size entry → (stream_words entry i).bytes (Block (file_selector entry)) k ≡ false → byte image (Block (file_selector entry)) k ≡ byte from (Block (file_selector entry)) k

-- where the bytes of a record have a matching checksum or none, so has the record as it is read
pub shown-checks : (image : Image) (w : ℕ) → AreBytes image → kind_of w ≡ blocks_256 → RecordChecks w image → entry_checks (entry_at image w) ≡ true
unfolding entry_in record_at
shown-checks image w bytes kind good =
    let s : seal_place w ≡ 92 = entry-seal w kind in
    let small : AreSmall (take 92 (record_at image w)) = small-take 92 (record_at image w) (small-range (record_size w) (place w) (byte image (Block (file_selector w))) (bytes (Block (file_selector w)))) in
    let seal : word_at (byte image (Block (file_selector w))) (place w + 92) ≡ word_at (content (record_at image w)) 92 = sym (record_word image w 92 (omega (arith, s, seal_last (kind_of w)))) in
    entry_checks-by (entry_at image w) (entry_in (content (record_at image w)) 0) seal (entry-here image w kind)
    ∙ entry_checks-prefix (record_at image w) small (omega (arith, s, length-record w image))
    ∙ subst (λ (n : ℕ). checks n (record_at image w) ≡ true) s good

-- ---- where its words lie

-- a place of a word is that of none of these
abbrev IsOff : ℕ → ℕ → Type 0
IsOff i at = ((at + 4 ≤ size_place i) ⊎ (size_place i + 4 ≤ at)) × (((at + 4 ≤ address_place i) ⊎ (address_place i + 4 ≤ at)) × (at + 4 ≤ 92))

word-off : (entry i at k : ℕ) → IsOff i at → place entry + at ≤ k → k < place entry + at + 4 → (stream_words entry i).bytes (Block (file_selector entry)) k ≡ false
word-off entry i at k off low high =
    let a = one (size_place i) off.0 in
    let b = one (address_place i) off.1.0 in
    let c = one 92 (inl off.1.1) in
    rw (a, b, c) refl
  where
    one : (q : ℕ) → (at + 4 ≤ q) ⊎ (q + 4 ≤ at) → (word_print entry q).bytes (Block (file_selector entry)) k ≡ false
    one q away = apart_place (Block (file_selector entry)) (Block (file_selector entry)) (place entry + q) 4 k
        (⊎_elim (λ (e : at + 4 ≤ q). inl (omega (arith, e, high))) (λ (e : q + 4 ≤ at). inr (omega (arith, e, low))) away)

behind-off : (entry i k : ℕ) → i < 3 → place entry + 96 ≤ k → (stream_words entry i).bytes (Block (file_selector entry)) k ≡ false
behind-off entry i k few low =
    let a = one (size_place i) (omega (arith, few)) in
    let b = one (address_place i) (omega (arith, few)) in
    let c = one 92 (omega arith) in
    rw (a, b, c) refl
  where
    one : (q : ℕ) → q + 4 ≤ 96 → (word_print entry q).bytes (Block (file_selector entry)) k ≡ false
    one q away = apart_place (Block (file_selector entry)) (Block (file_selector entry)) (place entry + q) 4 k (inr (omega (arith, away, low)))

short-key : (n b : ℕ) → n ≤ 927 → (b == entry_blocks n) ≡ true → 96 + n ≤ b * 256
unfolding entry_blocks
short-key n b short count = go (nat_lt n 160) (nat_le n 927) refl refl (eqb-true b _ count)
  where
    go : (s t : Bool) → nat_lt n 160 ≡ s → nat_le n 927 ≡ t → b ≡ (if s then 1 else if t then (n - 160) / 256 + 2 else 1) → 96 + n ≤ b * 256
    go true t s t_is e = let less : n < 160 = ltb-true n 160 s in omega (arith, e, less)
    go false true s t_is e = omega (arith, e)
    go false false s t_is e = absurd (let z : true ≡ false = sym (le-leb n 927 short) ∙ t_is in cc)

module _ (entry i : ℕ) (kind : kind_of entry ≡ blocks_256) (few : i < 3) (from image : Image) (long : 96 ≤ byte_size entry) (same : SameRecordBut entry i from image) where
  abbrev f : ℕ → ℕ
  f = byte from (Block (file_selector entry))

  abbrev g : ℕ → ℕ
  g = byte image (Block (file_selector entry))

  word-still : (at : ℕ) → IsOff i at → word_at g (place entry + at) ≡ word_at f (place entry + at)
  word-still at off = same-word g f (place entry + at) (λ k low high. same k (omega (arith, low)) (let room = off.1.1 in omega (arith, high, room, long)) (word-off entry i at k off low high))

  -- those before the sizes, and the flags
  front : (at : ℕ) → at + 4 ≤ 40 → word_at g (place entry + at) ≡ word_at f (place entry + at)
  front at early = word-still at (inl (omega (arith, early)), (inl (omega (arith, early)), omega (arith, early)))

  first-word : word_at g (place entry) ≡ word_at f (place entry)
  first-word = let h : place entry + 0 ≡ place entry = omega arith in subst (λ (p : ℕ). word_at g p ≡ word_at f p) h (front 0 (omega arith))

  pub fields-still : entry_checks (entry_at image entry) ≡ true → entry_checks (entry_at from entry) ≡ true → IsStreamChange (fields_of (entry_at from entry)) (fields_of (entry_at image entry))
  unfolding entry_in
  fields-still shown was = record {
    checks = shown ∙ sym was;
    hash = first-word;
    rankings_node = front 8 (omega arith);
    state = front 20 (omega arith);
    key_len = front 32 (omega arith);
    long_key = front 36 (omega arith);
    flags = word-still 72 (inr (omega (arith, few)), (inr (omega (arith, few)), omega arith));
  }

  pub next-still : (entry_at image entry).next ≡ (entry_at from entry).next
  unfolding entry_in
  next-still = front 4 (omega arith)

  -- the words of another stream
  pub size-still : (j : ℕ) → j < 3 → j ≢ i → size_word image entry j ≡ size_word from entry j
  size-still j less other = size_at image entry j less ∙ word-still (size_place j) (apart j less other) ∙ sym (size_at from entry j less)
    where
      apart : (j : ℕ) → j < 3 → j ≢ i → IsOff i (size_place j)
      apart j less other = (sides (cases_lt j i), (inl (omega (arith, less)), omega (arith, less)))
        where
          sides : (j < i) ⊎ (i ≤ j) → (size_place j + 4 ≤ size_place i) ⊎ (size_place i + 4 ≤ size_place j)
          sides (inl h) = inl (omega (arith, h))
          sides (inr h) = inr (omega (arith, h, other))

  pub address-still : (j : ℕ) → j < 3 → j ≢ i → address_word image entry j ≡ address_word from entry j
  address-still j less other = address_at image entry j less ∙ word-still (address_place j) (apart j less other) ∙ sym (address_at from entry j less)
    where
      apart : (j : ℕ) → j < 3 → j ≢ i → IsOff i (address_place j)
      apart j less other = (inr (omega (arith, few)), (sides (cases_lt j i), omega (arith, less)))
        where
          sides : (j < i) ⊎ (i ≤ j) → (address_place j + 4 ≤ address_place i) ⊎ (address_place i + 4 ≤ address_place j)
          sides (inl h) = inl (omega (arith, h))
          sides (inr h) = inr (omega (arith, h, other))

  pub fourth-still : (size_word image entry 3 ≡ size_word from entry 3) × (address_word image entry 3 ≡ address_word from entry 3)
  fourth-still = (
    fourth_size image entry ∙ word-still 52 (inr (omega (arith, few)), (inl (omega arith), omega arith)) ∙ sym (fourth_size from entry),
    fourth_word image entry ∙ word-still 68 (inr (omega (arith, few)), (inr (omega (arith, few)), omega arith)) ∙ sym (fourth_word from entry),
  )

  -- its key, where that lies in it
  pub key-still : (e : RecordFields) → is_key_length entry e ≡ true → nat_le e.key_len 927 ≡ true → key_place_at image entry e.key_len ≡ key_place_at from entry e.key_len
  unfolding key_place_at is_key_length block_size
  key-still e fits short =
      let blocks : (block_count entry == entry_blocks e.key_len) ≡ true = (and_parts (nat_le 1 e.key_len && nat_le e.key_len (longest_key_with e)) (block_count entry == entry_blocks e.key_len) fits).1 in
      let inside : 96 + e.key_len ≤ block_count entry * 256 = short-key e.key_len (block_count entry) (leb-true e.key_len 927 short) blocks in
      let room : byte_size entry ≡ block_count entry * 256 = room_is entry blocks_256 kind in
      same-range e.key_len (place entry + 96) g f (λ k low high. same k (omega (arith, low)) (omega (arith, high, inside, room)) (behind-off entry i k few low))

-- ---- its streams

module _ (entry i : ℕ) (kind : kind_of entry ≡ blocks_256) (few : i < 3) (from image : Image) (long : 96 ≤ byte_size entry) (same : SameRecordBut entry i from image) (streams : List (List ℕ)) (was : stored_streams (store_of from) (fields_of (entry_at from entry)) ≡ Some streams)
    (stays : (j : ℕ) → j < 3 → j ≢ i → (store_of image).stored (size_word from entry j) (address_word from entry j) ≡ (store_of from).stored (size_word from entry j) (address_word from entry j))
    (bytes : List ℕ) (now : stored_stream (store_of image) (fields_of (entry_at image entry)) i ≡ Some bytes) (fourth : (size_word from entry 3 ≡ 0) × (address_word from entry 3 ≡ 0)) where
  other-stream : (j : ℕ) → j < 3 → j ≢ i → stored_stream (store_of image) (fields_of (entry_at image entry)) j ≡ Some (stream j streams)
  unfolding stored_stream
  other-stream j less other =
      let s = size-still entry i kind few from image long same j less other in
      let a = address-still entry i kind few from image long same j less other in
      ap₂ (λ (n w : ℕ). if nat_le n most_stream_bytes then (store_of image).stored n w else None) s a
      ∙ ap (λ (o : Option (List ℕ)). if nat_le (size_word from entry j) most_stream_bytes then o else None) (stays j less other)
      ∙ streams_parts from (fields_of (entry_at from entry)) streams was j less

  last : (size_word image entry 3 ≡ 0) × (address_word image entry 3 ≡ 0)
  last = let s = fourth-still entry i kind few from image long same in (s.0 ∙ fourth.0, s.1 ∙ fourth.1)

  pub streams-written : stored_streams (store_of image) (fields_of (entry_at image entry)) ≡ Some (stored_streams_with i bytes streams)
  unfolding stored_streams_with
  streams-written = go i refl few where
    none : (a b : ℕ) → a ≢ b → (n : ℕ) → i ≡ n → n ≡ b → a ≢ i
    none a b apart n e h same = apart (same ∙ e ∙ h)

    go : (n : ℕ) → i ≡ n → n < 3 → stored_streams (store_of image) (fields_of (entry_at image entry)) ≡ Some ((if n == 0 then bytes else stream 0 streams) ∷ (if n == 1 then bytes else stream 1 streams) ∷ (if n == 2 then bytes else stream 2 streams) ∷ [])
    go zero e less = streams_known image (fields_of (entry_at image entry)) bytes (stream 1 streams) (stream 2 streams) last.0 last.1
        (subst (λ (j : ℕ). stored_stream (store_of image) (fields_of (entry_at image entry)) j ≡ Some bytes) e now)
        (other-stream 1 (omega arith) (none 1 0 (λ h. omega (arith, h)) zero e refl)) (other-stream 2 (omega arith) (none 2 0 (λ h. omega (arith, h)) zero e refl))
    go (suc zero) e less = streams_known image (fields_of (entry_at image entry)) (stream 0 streams) bytes (stream 2 streams) last.0 last.1
        (other-stream 0 (omega arith) (none 0 1 (λ h. omega (arith, h)) 1 e refl))
        (subst (λ (j : ℕ). stored_stream (store_of image) (fields_of (entry_at image entry)) j ≡ Some bytes) e now) (other-stream 2 (omega arith) (none 2 1 (λ h. omega (arith, h)) 1 e refl))
    go (suc (suc zero)) e less = streams_known image (fields_of (entry_at image entry)) (stream 0 streams) (stream 1 streams) bytes last.0 last.1
        (other-stream 0 (omega arith) (none 0 2 (λ h. omega (arith, h)) 2 e refl)) (other-stream 1 (omega arith) (none 1 2 (λ h. omega (arith, h)) 2 e refl))
        (subst (λ (j : ℕ). stored_stream (store_of image) (fields_of (entry_at image entry)) j ≡ Some bytes) e now)
    go (suc (suc (suc n))) e less = absurd (omega (arith, less))
