-- A stream of a record is stored where its words say.
use Rattle.std.proofs.Common.{◌≡◌, ◌≢◌, ℕ, zero, suc, ◌+◌, ◌<◌, List, [], refl, ap, sym, ◌∙◌, arith, Bool, true, false, Some, None}
use Rattle.std.specs.Prelude.{◌==◌, ◌||◌, nat_le, if◌then◌else◌}
use Rattle.std.proofs.lemmas.Bool.{and_parts, eq-eqb, eqb-true, le-leb}
use Rattle.std.proofs.lemmas.Bool.Decides.{nat_tests}
use Rattle.spec_image.specs.Bytes.{range_at}
use Rattle.spec_image.specs.Image.{Block, External, Image, byte, length_of}
use Rattle.spec_format.specs.Address.{external, external_number, file_selector, kind_of, place}
use Rattle.spec_format.specs.BlockFiles.{stands_in}
use Rattle.spec_format.specs.Storage.{is_storage}
use Rattle.spec_folder.specs.Entries.{most_stream_bytes, stored_stream}
use Rattle.spec_folder.specs.View.{entry_at, fields_of, store_of, stored_at}
use Rattle.blk_disk.specs.declared.tables.BlockFiles.{BlockFiles}
use Rattle.blk_disk.specs.Tables.{stands_among}
use Rattle.blk_entry.specs.Keys.{data_at, stores}
use Rattle.blk_entry.proofs.KeyPlaces.{data_of_blocks, data_of_external}
use Rattle.blk_stream.specs.Moving.{HasPlaceLength}
use Rattle.blk_stream.specs.Streams.{address_word, may_keep, size_word}
use Rattle.blk_stream.proofs.PlacesFreed.{blocky_of}
use Rattle.blk_stream.proofs.StreamPlaces.{may_parts, stored_some}

-- data of a size that a valid address is the storage of
module _ (files : BlockFiles) (image : Image) (size w : ℕ) (keep : may_keep files size w ≡ true) (st : w ≢ 0 → stands_in image w ≡ true) (long : HasPlaceLength w size image) where
  storage : is_storage size w ≡ true
  unfolding stores
  storage = (and_parts (is_storage size w) ((kind_of w == external) || stands_among files w) (may_parts files size w keep).1).0

  none-here : size ≡ 0 → stored_at image size w ≡ Some (data_at image w 0 size)
  unfolding stored_at range_at
  none-here none =
      let a = storage in
      let z : (size == 0) ≡ true = eq-eqb size 0 none in
      let e : stored_at image size w ≡ Some [] = rw (a, z) refl in
      e ∙ ap Some (sym (ap (λ (n : ℕ). data_at image w 0 n) none))

  some-here : 0 < size → stored_at image size w ≡ Some (data_at image w 0 size)
  unfolding stored_at
  some-here some =
      let z : (size == 0) ≡ false = grind (arith, nat_tests) in
      let a = storage in
      let b = st (stored_some files size w some (may_parts files size w keep).1) in
      by_kind (kind_of w == external) refl (rw (a, z, b) refl)
    where
      by_kind : (t : Bool) → (kind_of w == external) ≡ t
          → stored_at image size w ≡ (if kind_of w == external then (if length_of image (External (external_number w)) == size then Some (range_at (byte image (External (external_number w))) 0 size) else None) else Some (range_at (byte image (Block (file_selector w))) (place w) size))
          → stored_at image size w ≡ Some (data_at image w 0 size)
      by_kind true e h =
          let kind = eqb-true (kind_of w) external e in
          let is = long (stored_some files size w some (may_parts files size w keep).1) kind in
          let t : (length_of image (External (external_number w)) == size) ≡ true = grind (arith, nat_tests) in
          h ∙ ap (λ (b : Bool). if b then (if length_of image (External (external_number w)) == size then Some (range_at (byte image (External (external_number w))) 0 size) else None) else Some (range_at (byte image (Block (file_selector w))) (place w) size)) e
          ∙ ap (λ (b : Bool). if b then Some (range_at (byte image (External (external_number w))) 0 size) else None) t ∙ ap Some (sym (data_of_external image w 0 size kind))
      by_kind false e h =
          h ∙ ap (λ (b : Bool). if b then (if length_of image (External (external_number w)) == size then Some (range_at (byte image (External (external_number w))) 0 size) else None) else Some (range_at (byte image (Block (file_selector w))) (place w) size)) e
          ∙ ap (λ (p : ℕ). Some (range_at (byte image (Block (file_selector w))) p size)) (let zero : place w ≡ place w + 0 = omega arith in zero) ∙ ap Some (sym (data_of_blocks image w 0 size (blocky_of w e)))

  pub stored-here : stored_at image size w ≡ Some (data_at image w 0 size)
  stored-here = by size refl where
    by : (n : ℕ) → size ≡ n → stored_at image size w ≡ Some (data_at image w 0 size)
    by zero e = none-here e
    by (suc n) e = some-here (omega (arith, e))

-- a stream of a record, by its words
pub stream-here : (files : BlockFiles) (image : Image) (entry i size w : ℕ) (bytes : List ℕ) → size_word image entry i ≡ size → address_word image entry i ≡ w → may_keep files size w ≡ true → stored_at image size w ≡ Some bytes
    → stored_stream (store_of image) (fields_of (entry_at image entry)) i ≡ Some bytes
unfolding stored_stream store_of
stream-here files image entry i size w bytes size_is word_is keep there =
    let most : nat_le size most_stream_bytes ≡ true = le-leb size most_stream_bytes (may_parts files size w keep).0 in
    ap (λ (n : ℕ). if nat_le n most_stream_bytes then stored_at image n (address_word image entry i) else None) size_is
    ∙ ap (λ (a : ℕ). if nat_le size most_stream_bytes then stored_at image size a else None) word_is
    ∙ ap (λ (b : Bool). if b then stored_at image size w else None) most
    ∙ there
