-- A record whose streams are dropped has three empty ones.
use Rattle.std.proofs.Common.{◌≡◌, ◌⊎◌, inl, inr, ⊎_elim, ℕ, zero, suc, ◌+◌, ◌<◌, ◌≤◌, Bool, true, false, ◌&&◌, if◌then◌else◌, List, [], ◌∷◌, None, Some, refl, sym, ◌∙◌, ap, arith}
use Rattle.std.specs.Prelude.{◌==◌, not}
use Rattle.std.specs.Option.{option_and_then, option_map}
use Rattle.std.proofs.lemmas.Bool.{eqb-true}
use Rattle.spec_image.specs.Bytes.{words_at}
use Rattle.spec_image.specs.Image.{Block, Image, word}
use Rattle.spec_image.proofs.Footprints.{same_word_outside}
use Rattle.spec_format.specs.Address.{file_selector, place, blocks_256}
use Rattle.spec_format.specs.Records.{entry_in}
use Rattle.spec_format.specs.Storage.{is_storage}
use Rattle.spec_format.proofs.SpareHeaders.{past_header}
use Rattle.spec_folder.specs.View.{RecordFields, fields_at, fields_of, entry_at, data_size_of, address_of, stands_as, stored_at, store_of}
use Rattle.spec_folder.specs.Entries.{stored_stream, stored_streams}
use Rattle.blk_entry.proofs.NewShown.{stands_as_kind, stands_here}
use Rattle.blk_entry.proofs.Windows.{not_external}
use Rattle.blk_stream.specs.Streams.{address_place, address_word, size_place, size_word, streams_at}
use Rattle.blk_stream.specs.Changing.{record_word, stream_words}
use Rattle.blk_stream.specs.Dropping.{dropping_of}
use Rattle.blk_stream.specs.Shown.{DroppedStreamsAreEmpty}
use Rattle.blk_stream.proofs.PlacesLeft.{leaving_off}
use Rattle.blk_stream.proofs.Naming.{apart_place}

none_some : {A : Type 0} {x : A} → None ≡ Some x → ⊥
none_some e = cc

-- the fourth stream of a record with three is nothing
fourth_none : (image : Image) (fields : RecordFields) (streams : List (List ℕ)) → stored_streams (store_of image) fields ≡ Some streams → (data_size_of fields 3 ≡ 0) × (address_of fields 3 ≡ 0)
unfolding stored_streams
fourth_none image fields streams e = by_tests (data_size_of fields 3 == 0) (address_of fields 3 == 0) refl refl e
  where
    by_tests : (s t : Bool) → (data_size_of fields 3 == 0) ≡ s → (address_of fields 3 == 0) ≡ t
        → (if not (s && t) then None else option_and_then (λ first. option_and_then (λ second. option_map (λ third. first ∷ second ∷ third ∷ []) (stored_stream (store_of image) fields 2)) (stored_stream (store_of image) fields 1)) (stored_stream (store_of image) fields 0)) ≡ Some streams
        → (data_size_of fields 3 ≡ 0) × (address_of fields 3 ≡ 0)
    by_tests true true s t h = (eqb-true (data_size_of fields 3) 0 s, eqb-true (address_of fields 3) 0 t)
    by_tests true false s t h = absurd (none_some h)
    by_tests false t s e h = absurd (none_some h)

pub fourth_of : (image : Image) (entry : ℕ) (streams : List (List ℕ)) → streams_at image entry ≡ Some streams → (size_word image entry 3 ≡ 0) × (address_word image entry 3 ≡ 0)
unfolding streams_at fields_at
fourth_of image entry streams e = by_stands (stands_as image blocks_256 entry) e
  where
    by_stands : (t : Bool) → option_and_then (stored_streams (store_of image)) (if t then Some (fields_of (entry_at image entry)) else None) ≡ Some streams → (size_word image entry 3 ≡ 0) × (address_word image entry 3 ≡ 0)
    by_stands true h = fourth_none image (fields_of (entry_at image entry)) streams h
    by_stands false h = absurd (none_some h)

-- the words of a stream lie apart from those of another
pub fourth_off : (entry i at k : ℕ) → i < 3 → (at ≡ 52) ⊎ (at ≡ 68) → place entry + at ≤ k → k < place entry + at + 4 → (stream_words entry i).bytes (Block (file_selector entry)) k ≡ false
fourth_off entry i at k few is first last =
    let a = word_off (size_place i) (⊎_elim (λ (e : at ≡ 52). inr (omega (arith, e, few, first))) (λ (e : at ≡ 68). inr (omega (arith, e, few, first))) is) in
    let b = word_off (address_place i) (⊎_elim (λ (e : at ≡ 52). inl (omega (arith, e, last))) (λ (e : at ≡ 68). inr (omega (arith, e, few, first))) is) in
    let c = word_off 92 (⊎_elim (λ (e : at ≡ 52). inl (omega (arith, e, last))) (λ (e : at ≡ 68). inl (omega (arith, e, last))) is) in
    rw (a, b, c) refl
  where
    word_off : (q : ℕ) → (k < place entry + q) ⊎ (place entry + q + 4 ≤ k) → (record_word entry q).bytes (Block (file_selector entry)) k ≡ false
    word_off q off = apart_place (Block (file_selector entry)) (Block (file_selector entry)) (place entry + q) 4 k off

fourth_dropped : (entry at count : ℕ) (from : Image) → count ≤ 3 → (at ≡ 52) ⊎ (at ≡ 68) → (k : ℕ) → place entry + at ≤ k → k < place entry + at + 4 → (dropping_of count entry from).bytes (Block (file_selector entry)) k ≡ false
unfolding dropping_of
fourth_dropped entry at zero from few is k first last = refl
fourth_dropped entry at (suc i) from few is k first last =
    let words = fourth_off entry i at k (omega (arith, few)) is first last in
    let place_off = leaving_off (address_word from entry i) (file_selector entry) k (let p = past_header entry in omega (arith, first, p)) in
    let rest = fourth_dropped entry at i from (omega (arith, few)) is k first last in
    rw (rest, words, place_off) refl

-- the words of the fourth stream
pub fourth_size : (image : Image) (entry : ℕ) → size_word image entry 3 ≡ word image (Block (file_selector entry)) (place entry + 52)
unfolding entry_in words_at
fourth_size image entry = ap (word image (Block (file_selector entry))) (let h : place entry + 40 + 4 + 4 + 4 ≡ place entry + 52 = omega arith in h)

pub fourth_word : (image : Image) (entry : ℕ) → address_word image entry 3 ≡ word image (Block (file_selector entry)) (place entry + 68)
unfolding entry_in words_at
fourth_word image entry = ap (word image (Block (file_selector entry))) (let h : place entry + 56 + 4 + 4 + 4 ≡ place entry + 68 = omega arith in h)

-- a stream without bytes and place
empty_stream : (image : Image) (fields : RecordFields) (i : ℕ) → data_size_of fields i ≡ 0 → address_of fields i ≡ 0 → stored_stream (store_of image) fields i ≡ Some []
unfolding stored_stream store_of stored_at is_storage
empty_stream image fields i size none = rw (size, none) refl

pub streams_known : (image : Image) (fields : RecordFields) (a b c : List ℕ) → data_size_of fields 3 ≡ 0 → address_of fields 3 ≡ 0 → stored_stream (store_of image) fields 0 ≡ Some a → stored_stream (store_of image) fields 1 ≡ Some b → stored_stream (store_of image) fields 2 ≡ Some c
    → stored_streams (store_of image) fields ≡ Some (a ∷ b ∷ c ∷ [])
unfolding stored_streams
streams_known image fields a b c size none is_a is_b is_c = rw (size, none, is_a, is_b, is_c) refl

pub dropped-empty : DroppedStreamsAreEmpty
unfolding streams_at fields_at
dropped-empty files from image entry kind address stands agrees has dropped =
    let here = stands_as_kind image entry blocks_256 (stands_here files image entry agrees address (not_external entry kind) stands) kind in
    let fourth = fourth_of from entry has.streams has.is in
    let fields : RecordFields = fields_of (entry_at image entry) in
    let size : size_word image entry 3 ≡ 0 = fourth_size image entry ∙ same_word_outside (dropping_of 3 entry from) from image (Block (file_selector entry)) (place entry + 52) dropped.same (fourth_dropped entry 52 3 from (omega arith) (inl refl)) ∙ sym (fourth_size from entry) ∙ fourth.0 in
    let none : address_word image entry 3 ≡ 0 = fourth_word image entry ∙ same_word_outside (dropping_of 3 entry from) from image (Block (file_selector entry)) (place entry + 68) dropped.same (fourth_dropped entry 68 3 from (omega arith) (inr refl)) ∙ sym (fourth_word from entry) ∙ fourth.1 in
    let a = dropped.none 0 (omega arith) in
    let b = dropped.none 1 (omega arith) in
    let c = dropped.none 2 (omega arith) in
    ap (λ (t : Bool). option_and_then (stored_streams (store_of image)) (if t then Some fields else None)) here
    ∙ streams_known image fields [] [] [] size none (empty_stream image fields 0 a.size_is a.word_is) (empty_stream image fields 1 b.size_is b.word_is) (empty_stream image fields 2 c.size_is c.word_is)
