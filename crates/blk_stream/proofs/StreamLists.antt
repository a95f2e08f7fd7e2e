-- An entry loads with a stream that was written.
use Rattle.std.proofs.Common.{◌≡◌, ◌≢◌, ◌⊎◌, inl, inr, ⊎_elim, ℕ, zero, suc, ◌+◌, ◌<◌, ◌≤◌, Bool, true, false, ◌&&◌, ◌||◌, if◌then◌else◌, List, [], Option, None, Some, refl, sym, ◌∙◌, ap, subst, arith, add-zero}
use Rattle.std.specs.Prelude.{◌==◌, length, nat_le, is_some, unwrap_or}
use Rattle.std.specs.Option.{option_and_then}
use Rattle.std.proofs.lemmas.Bool.{and_parts, cases_lt, eqb-true}
use Rattle.std.proofs.lemmas.Bool.Decides.{nat_tests}
use Rattle.blk_model.specs.Effects.{stream_after}
use Rattle.spec_image.specs.Bytes.{range_at}
use Rattle.spec_image.specs.Image.{Block, External, Image, byte, has_file, length_of, word}
use Rattle.spec_image.proofs.Words.{same-word_at}
use Rattle.spec_format.specs.Address.{blocks_256, external, external_number, file_selector, is_address, kind_of, place}
use Rattle.spec_format.specs.BlockFiles.{stands_in, stands_in_blocks}
use Rattle.spec_format.specs.Standing.{stands}
use Rattle.spec_format.specs.Storage.{is_storage}
use Rattle.spec_folder.specs.View.{RecordFields, fields_at, fields_of, entry_at, stands_as, stored_at, store_of}
use Rattle.spec_folder.specs.Entries.{most_stream_bytes, stream, stored_stream, stored_streams}
use Rattle.blk_disk.specs.declared.tables.BlockFiles.{BlockFiles}
use Rattle.blk_disk.specs.Tables.{Agrees, stands_among}
use Rattle.blk_disk.proofs.Ranges.{stands_agree}
use Rattle.blk_entry.specs.Keys.{data_at, stores}
use Rattle.blk_entry.proofs.KeyPlaces.{data_of_blocks, data_of_external, storage_parts}
use Rattle.blk_entry.proofs.NewShown.{stands_as_kind, stands_here}
use Rattle.blk_entry.proofs.Windows.{entry_room_least, not_external}
use Rattle.blk_alloc.specs.Extending.{KeepsStanding}
use Rattle.blk_stream.specs.Loading.{WrittenStreamsLoad, stored_streams_with}
use Rattle.blk_stream.specs.Moving.{HasPlaceLength}
use Rattle.blk_stream.specs.Owned.{AreOthers, KeepsOwned}
use Rattle.blk_stream.specs.Streams.{address_word, may_keep, size_word, stream_bytes, streams_at}
use Rattle.blk_stream.proofs.PlacesFreed.{blocky_of}
use Rattle.blk_stream.proofs.EmptyStreams.{fourth_of, fourth_off, fourth_size, fourth_word, streams_known}
use Rattle.blk_stream.proofs.StreamPlaces.{may_both, may_parts, none_word, stored_is, stored_some, stream_facts, stream_is_bytes, streams_parts}

clash : true ≡ false → ⊥
clash e = cc

-- Data that is stored.

-- of no bytes
none_stored : (image : Image) → stored_at image 0 0 ≡ Some (data_at image 0 0 0)
unfolding stored_at is_storage range_at
none_stored image = refl

-- a file of some bytes is there
some_file : (o : Option (List ℕ)) (n : ℕ) → 0 < n → length (unwrap_or o []) ≡ n → is_some o ≡ true
some_file None n some long = absurd (omega (arith, some, long))
some_file (Some bytes) n some long = refl

module _ (files : BlockFiles) (image : Image) (size w : ℕ) (agrees : Agrees files image) (keep : may_keep files size w ≡ true) (long : HasPlaceLength w size image) (some : 0 < size) where
  storage : is_storage size w ≡ true
  unfolding stores
  storage = (and_parts (is_storage size w) ((kind_of w == external) || stands_among files w) (may_parts files size w keep).1).0

  other : w ≢ 0
  other = stored_some files size w some (may_parts files size w keep).1

  there : stands_in image w ≡ true
  unfolding stands stores
  there =
      let parts = storage_parts size w some storage in
      let either_way = (and_parts (is_storage size w) ((kind_of w == external) || stands_among files w) (may_parts files size w keep).1).1 in
      both (is_address w) (if kind_of w == external then has_file image (External (external_number w)) else stands_in_blocks image w) parts.0 (by_kind (kind_of w == external) refl either_way)
    where
      both : (a b : Bool) → a ≡ true → b ≡ true → (a && b) ≡ true
      both a b e f = rw (e, f) refl

      by_kind : (t : Bool) → (kind_of w == external) ≡ t → (t || stands_among files w) ≡ true → (if t then has_file image (External (external_number w)) else stands_in_blocks image w) ≡ true
      by_kind true e h = some_file (image (External (external_number w))) size some (long other (eqb-true (kind_of w) external e))
      by_kind false e h = sym (stands_agree files image w agrees) ∙ h

  some_stored : stored_at image size w ≡ Some (data_at image w 0 size)
  unfolding stored_at
  some_stored =
      let z : (size == 0) ≡ false = grind (arith, nat_tests) in
      let a = storage in
      let b = there in
      by_kind (kind_of w == external) refl (rw (a, z, b) refl)
    where
      by_kind : (t : Bool) → (kind_of w == external) ≡ t
          → stored_at image size w ≡ (if kind_of w == external then (if length_of image (External (external_number w)) == size then Some (range_at (byte image (External (external_number w))) 0 size) else None) else Some (range_at (byte image (Block (file_selector w))) (place w) size))
          → stored_at image size w ≡ Some (data_at image w 0 size)
      by_kind true e h =
          let kind = eqb-true (kind_of w) external e in
          let is = long other kind in
          let t : (length_of image (External (external_number w)) == size) ≡ true = grind (arith, nat_tests) in
          h ∙ ap (λ (b : Bool). if b then (if length_of image (External (external_number w)) == size then Some (range_at (byte image (External (external_number w))) 0 size) else None) else Some (range_at (byte image (Block (file_selector w))) (place w) size)) e
          ∙ ap (λ (b : Bool). if b then Some (range_at (byte image (External (external_number w))) 0 size) else None) t ∙ ap Some (sym (data_of_external image w 0 size kind))
      by_kind false e h =
          h ∙ ap (λ (b : Bool). if b then (if length_of image (External (external_number w)) == size then Some (range_at (byte image (External (external_number w))) 0 size) else None) else Some (range_at (byte image (Block (file_selector w))) (place w) size)) e
          ∙ ap (λ (p : ℕ). Some (range_at (byte image (Block (file_selector w))) p size)) (sym (add-zero (place w))) ∙ ap Some (sym (data_of_blocks image w 0 size (blocky_of w e)))

pub stored_there : (files : BlockFiles) (image : Image) (size w : ℕ) → Agrees files image → may_keep files size w ≡ true → HasPlaceLength w size image → stored_at image size w ≡ Some (data_at image w 0 size)
stored_there files image zero w agrees keep long = let none = none_word files w keep in subst (λ (v : ℕ). stored_at image 0 v ≡ Some (data_at image v 0 0)) (sym none) (none_stored image)
stored_there files image (suc n) w agrees keep long = some_stored files image (suc n) w agrees keep long (omega arith)

-- a stream of a record, by its words
stream_there : (files : BlockFiles) (image : Image) (entry j : ℕ) → Agrees files image → may_keep files (size_word image entry j) (address_word image entry j) ≡ true → HasPlaceLength (address_word image entry j) (size_word image entry j) image
    → stored_stream (store_of image) (fields_of (entry_at image entry)) j ≡ Some (stream_bytes image entry j)
unfolding stored_stream store_of stream_bytes may_keep
stream_there files image entry j agrees keep long =
    let most = (and_parts (nat_le (size_word image entry j) most_stream_bytes) (stores files (size_word image entry j) (address_word image entry j)) keep).0 in
    ap (λ (b : Bool). if b then stored_at image (size_word image entry j) (address_word image entry j) else None) most ∙ stored_there files image (size_word image entry j) (address_word image entry j) agrees keep long

-- a stream that an entry has is as long as its file
module _ (files : BlockFiles) (image : Image) (entry : ℕ) (streams : List (List ℕ)) (agrees : Agrees files image) (e : streams_at image entry ≡ Some streams) where
  abbrev V : ℕ → ℕ
  V j = address_word image entry j

  abbrev N : ℕ → ℕ
  N j = size_word image entry j

  keeps_place : (j : ℕ) → j < 3 → may_keep files (N j) (V j) ≡ true
  keeps_place j small = (stream_facts files image entry j streams agrees small e).keep

  stored_here : (j : ℕ) → j < 3 → stored_stream (store_of image) (fields_of (entry_at image entry)) j ≡ Some (stream j streams)
  unfolding streams_at fields_at
  stored_here j small = by_stands (stands_as image blocks_256 entry) e
    where
      none_some : None ≡ Some streams → ⊥
      none_some h = cc

      by_stands : (t : Bool) → option_and_then (stored_streams (store_of image)) (if t then Some (fields_of (entry_at image entry)) else None) ≡ Some streams → stored_stream (store_of image) (fields_of (entry_at image entry)) j ≡ Some (stream j streams)
      by_stands true h = streams_parts image (fields_of (entry_at image entry)) streams h j small
      by_stands false h = absurd (none_some h)

  stored_data : (j : ℕ) → j < 3 → stored_at image (N j) (V j) ≡ Some (stream j streams)
  unfolding stored_stream store_of may_keep
  stored_data j small =
      let most = (and_parts (nat_le (N j) most_stream_bytes) (stores files (N j) (V j)) (keeps_place j small)).0 in
      sym (ap (λ (b : Bool). if b then stored_at image (N j) (V j) else None) most) ∙ stored_here j small

  pub stream_long : (j : ℕ) → j < 3 → HasPlaceLength (V j) (N j) image
  stream_long j small some kind = ⊎_elim none more (cases_lt 0 (N j))
    where
      more_is : 0 < N j → length_of image (External (external_number (V j))) ≡ N j
      more_is many = ⊎_elim
          (λ (outside : (kind_of (V j) ≡ external) × ((length_of image (External (external_number (V j))) ≡ N j) × (stream j streams ≡ range_at (byte image (External (external_number (V j)))) 0 (N j)))). outside.1.0)
          (λ (inside : (kind_of (V j) ≢ external) × (stream j streams ≡ range_at (byte image (Block (file_selector (V j)))) (place (V j)) (N j))). absurd (inside.0 kind))
          (stored_is image (N j) (V j) (stream j streams) many (stored_data j small)).at

      none : 0 < N j → length_of image (External (external_number (V j))) ≡ N j
      none many = more_is many

      more : N j ≤ 0 → length_of image (External (external_number (V j))) ≡ N j
      more few = absurd (some (none_word files (V j) (subst (λ (n : ℕ). may_keep files n (V j) ≡ true) (omega (arith, few)) (keeps_place j small))))

-- The words of the fourth stream.

fourth_same : (files : BlockFiles) (entry i old at : ℕ) (from image : Image) → kind_of entry ≡ blocks_256 → i < 3 → AreOthers files entry old from → KeepsOwned files entry i old from image → (at ≡ 52) ⊎ (at ≡ 68) → word image (Block (file_selector entry)) (place entry + at) ≡ word from (Block (file_selector entry)) (place entry + at)
fourth_same files entry i old at from image kind few others owned is =
    let room = entry_room_least entry kind in
    let less : at + 4 ≤ 96 = ⊎_elim (λ (e : at ≡ 52). omega (arith, e)) (λ (e : at ≡ 68). omega (arith, e)) is in
    let here : (k : ℕ) → place entry + at ≤ k → k < place entry + at + 4 → byte image (Block (file_selector entry)) k ≡ byte from (Block (file_selector entry)) k =
    (λ k first last. owned.blocks entry k others (omega (arith, first)) (omega (arith, last, less, room)) (fourth_off entry i at k few is first last)) in
    same-word_at (byte image (Block (file_selector entry))) (byte from (Block (file_selector entry))) (place entry + at) (here (place entry + at) (omega arith) (omega arith)) (here (place entry + at + 1) (omega arith) (omega arith))
    (here (place entry + at + 2) (omega arith) (omega arith)) (here (place entry + at + 3) (omega arith) (omega arith))

-- The law.

-- what was valid stores what it did
stores_still : (files kept : BlockFiles) (size w : ℕ) → KeepsStanding files kept → may_keep files size w ≡ true → may_keep kept size w ≡ true
unfolding stores
stores_still files kept size w standing keep =
    let parts = may_parts files size w keep in
    let two = and_parts (is_storage size w) ((kind_of w == external) || stands_among files w) parts.1 in
    may_both kept size w parts.0 (by_kind (is_storage size w) (kind_of w == external) two.0 two.1)
  where
    by_kind : (a t : Bool) → a ≡ true → (t || stands_among files w) ≡ true → (a && (t || stands_among kept w)) ≡ true
    by_kind a true e h = rw e refl
    by_kind a false e h = let s = standing w h in rw (e, s) refl

pub written_load : WrittenStreamsLoad
unfolding streams_at fields_at stored_streams_with
written_load files kept from image entry i offset cut bytes streams small kind address standing agrees now others e is =
    let fields : RecordFields = fields_of (entry_at image entry) in
    let here = stands_as_kind image entry blocks_256 (stands_here kept image entry now address (not_external entry kind) (standing entry others.stand)) kind in
    let fourth = fourth_of from entry streams e in
    let size : size_word image entry 3 ≡ 0 = fourth_size image entry ∙ fourth_same files entry i (address_word from entry i) 52 from image kind small others is.owned (inl refl) ∙ sym (fourth_size from entry) ∙ fourth.0 in
    let none : address_word image entry 3 ≡ 0 = fourth_word image entry ∙ fourth_same files entry i (address_word from entry i) 68 from image kind small others is.owned (inr refl) ∙ sym (fourth_word from entry) ∙ fourth.1 in
    ap (λ (t : Bool). option_and_then (stored_streams (store_of image)) (if t then Some fields else None)) here
    ∙ streams_known image fields (new_of 0) (new_of 1) (new_of 2) size none (each 0 (omega arith)) (each 1 (omega arith)) (each 2 (omega arith))
  where
    new_of : ℕ → List ℕ
    new_of j = if i == j then stream_after cut (stream i streams) offset bytes else stream j streams

    this : stored_stream (store_of image) (fields_of (entry_at image entry)) i ≡ Some (stream_after cut (stream i streams) offset bytes)
    this = stream_there kept image entry i now is.place is.long ∙ ap Some (is.written ∙ ap (λ (l : List ℕ). stream_after cut l offset bytes) (sym (stream_is_bytes from entry i streams small e)))

    another : (j : ℕ) → j < 3 → j ≢ i → stored_stream (store_of image) (fields_of (entry_at image entry)) j ≡ Some (stream j streams)
    another j low differs =
        let holds = is.others j low differs in
        let keep : may_keep kept (size_word image entry j) (address_word image entry j) ≡ true =
        subst (λ (n : ℕ). may_keep kept n (address_word image entry j) ≡ true) (sym holds.words.size) (subst (λ (v : ℕ). may_keep kept (size_word from entry j) v ≡ true) (sym holds.words.word) (stores_still files kept (size_word from entry j) (address_word from entry j) standing (keeps_place files from entry streams agrees e j low))) in
        let long : HasPlaceLength (address_word image entry j) (size_word image entry j) image =
        subst (λ (n : ℕ). HasPlaceLength (address_word image entry j) n image) (sym holds.words.size) (subst (λ (v : ℕ). HasPlaceLength v (size_word from entry j) image) (sym holds.words.word) (holds.long (stream_long files from entry streams agrees e j low))) in
        stream_there kept image entry j now keep long ∙ ap Some (holds.bytes ∙ sym (stream_is_bytes from entry j streams low e))

    each : (j : ℕ) → j < 3 → stored_stream (store_of image) (fields_of (entry_at image entry)) j ≡ Some (if i == j then stream_after cut (stream i streams) offset bytes else stream j streams)
    each j low = by_test (i == j) refl
      where
        by_test : (t : Bool) → (i == j) ≡ t → stored_stream (store_of image) (fields_of (entry_at image entry)) j ≡ Some (if t then stream_after cut (stream i streams) offset bytes else stream j streams)
        by_test true t = subst (λ (m : ℕ). stored_stream (store_of image) (fields_of (entry_at image entry)) m ≡ Some (stream_after cut (stream i streams) offset bytes)) (eqb-true i j t) this
        by_test false t = another j low (λ same. clash (sym (let z : (i == j) ≡ true = grind (arith, nat_tests) in z) ∙ t))
