-- The streams of a record by their sizes and address words.
use Rattle.std.proofs.Common.{◌≡◌, ◌≢◌, ⊎_elim, zero, suc, ◌<◌, ◌≤◌, ◌+◌, ℕ, Bool, true, false, ◌&&◌, if◌then◌else◌, List, [], ◌∷◌, length, Option, None, Some, refl, ◌∙◌, ap, subst, arith}
use Rattle.std.specs.Prelude.{◌==◌, nat_le, not, is_some}
use Rattle.std.specs.List.{sum_by}
use Rattle.std.specs.Option.{option_and_then, option_map}
use Rattle.std.proofs.lemmas.Bool.{eq-eqb}
use Rattle.std.proofs.lemmas.Bool.Decides.{nat_tests}
use Rattle.spec_image.specs.Image.{Block, External, Image, byte, length_of}
use Rattle.spec_image.specs.Bytes.{range_at}
use Rattle.spec_image.proofs.Words.{length-range}
use Rattle.spec_format.specs.Address.{kind_of, external, external_number, file_selector, place}
use Rattle.spec_format.specs.Storage.{is_storage}
use Rattle.spec_folder.specs.View.{RecordFields, data_size_of, address_of, stored_at, store_of}
use Rattle.spec_folder.specs.Entries.{stored_stream, stored_streams, stream}
use Rattle.blk_entry.specs.Keys.{data_at}
use Rattle.blk_entry.proofs.KeyPlaces.{stored_is}
use Rattle.blk_entry.proofs.NewShown.{stored_there}
use Rattle.blk_verdict.specs.Streams.{is_stream}

some_if : (t : Bool) (o : Option (List ℕ)) → is_some (if t then o else None) ≡ (t && is_some o)
some_if true o = refl
some_if false o = refl

stream_is : (image : Image) (fields : RecordFields) (i : ℕ) → is_some (stored_stream (store_of image) fields i) ≡ is_stream image (data_size_of fields i) (address_of fields i)
unfolding stored_stream is_stream store_of
stream_is image fields i = some_if (nat_le (data_size_of fields i) 2147483647) (stored_at image (data_size_of fields i) (address_of fields i))

-- three streams are there where each is, and the fourth is none
pub streams_are : (image : Image) (fields : RecordFields) → is_some (stored_streams (store_of image) fields)
    ≡ (((data_size_of fields 3 == 0) && (address_of fields 3 == 0))
    && (is_stream image (data_size_of fields 0) (address_of fields 0) && (is_stream image (data_size_of fields 1) (address_of fields 1) && is_stream image (data_size_of fields 2) (address_of fields 2))))
unfolding stored_streams
streams_are image fields =
    by_tests ((data_size_of fields 3 == 0) && (address_of fields 3 == 0)) (stored_stream (store_of image) fields 0) (stored_stream (store_of image) fields 1) (stored_stream (store_of image) fields 2)
    ∙ (λ i. ((data_size_of fields 3 == 0) && (address_of fields 3 == 0)) && (stream_is image fields 0 i && (stream_is image fields 1 i && stream_is image fields 2 i)))
  where
    by_tests : (t : Bool) (p q r : Option (List ℕ)) → is_some (if not t then None else option_and_then (λ (first : List ℕ). option_and_then (λ (second : List ℕ). option_map (λ (third : List ℕ). first ∷ second ∷ third ∷ []) r) q) p) ≡ (t && (is_some p && (is_some q && is_some r)))
    by_tests false p q r = refl
    by_tests true None q r = refl
    by_tests true (Some a) None r = refl
    by_tests true (Some a) (Some b) None = refl
    by_tests true (Some a) (Some b) (Some c) = refl

-- the three streams are stored as the words say
pub record AreStored (image : Image) (fields : RecordFields) (streams : List (List ℕ)) : Type 0 where
  pub first : stored_at image (data_size_of fields 0) (address_of fields 0) ≡ Some (stream 0 streams)
  pub second : stored_at image (data_size_of fields 1) (address_of fields 1) ≡ Some (stream 1 streams)
  pub third : stored_at image (data_size_of fields 2) (address_of fields 2) ≡ Some (stream 2 streams)
  pub three : sum_by length streams ≡ length (stream 0 streams) + length (stream 1 streams) + length (stream 2 streams)

stored_one : (image : Image) (fields : RecordFields) (i : ℕ) (bytes : List ℕ) → stored_stream (store_of image) fields i ≡ Some bytes → stored_at image (data_size_of fields i) (address_of fields i) ≡ Some bytes
unfolding stored_stream store_of
stored_one image fields i bytes e = by_test (nat_le (data_size_of fields i) 2147483647) e
  where
    by_test : (t : Bool) → (if t then stored_at image (data_size_of fields i) (address_of fields i) else None) ≡ Some bytes → stored_at image (data_size_of fields i) (address_of fields i) ≡ Some bytes
    by_test true h = h
    by_test false h = absurd (clash h)
      where
        clash : None ≡ Some bytes → ⊥
        clash h = cc

pub are_stored : (image : Image) (fields : RecordFields) (streams : List (List ℕ)) → stored_streams (store_of image) fields ≡ Some streams → AreStored image fields streams
unfolding stored_streams
are_stored image fields streams e = by_tests ((data_size_of fields 3 == 0) && (address_of fields 3 == 0)) (stored_stream (store_of image) fields 0) (stored_stream (store_of image) fields 1) (stored_stream (store_of image) fields 2) refl refl refl e
  where
    none_some : None ≡ Some streams → ⊥
    none_some h = cc

    by_tests : (t : Bool) (p q r : Option (List ℕ)) → stored_stream (store_of image) fields 0 ≡ p → stored_stream (store_of image) fields 1 ≡ q → stored_stream (store_of image) fields 2 ≡ r
        → (if not t then None else option_and_then (λ (first : List ℕ). option_and_then (λ (second : List ℕ). option_map (λ (third : List ℕ). first ∷ second ∷ third ∷ []) r) q) p) ≡ Some streams → AreStored image fields streams
    by_tests false p q r ep eq er h = absurd (none_some h)
    by_tests true None q r ep eq er h = absurd (none_some h)
    by_tests true (Some a) None r ep eq er h = absurd (none_some h)
    by_tests true (Some a) (Some b) None ep eq er h = absurd (none_some h)
    by_tests true (Some a) (Some b) (Some c) ep eq er h =
        let is : a ∷ b ∷ c ∷ [] ≡ streams = cc in
        record {
          first = stored_one image fields 0 a ep ∙ ap (λ (l : List (List ℕ)). Some (stream 0 l)) is;
          second = stored_one image fields 1 b eq ∙ ap (λ (l : List (List ℕ)). Some (stream 1 l)) is;
          third = stored_one image fields 2 c er ∙ ap (λ (l : List (List ℕ)). Some (stream 2 l)) is;
          three = subst (λ (l : List (List ℕ)). sum_by length l ≡ length (stream 0 l) + length (stream 1 l) + length (stream 2 l)) is (let sum : sum_by length (a ∷ b ∷ c ∷ []) ≡ length a + length b + length c = omega arith in sum);
        }

-- stored data lies where its word says
pub stored_bytes : (image : Image) (size w : ℕ) (bytes : List ℕ) → 0 < size → stored_at image size w ≡ Some bytes → bytes ≡ data_at image w 0 size
stored_bytes image size w bytes some e =
    let s = stored_is image size w bytes some e in
    let long : kind_of w ≡ external → length_of image (External (external_number w)) ≡ size = λ outside. ⊎_elim (λ (h : (kind_of w ≡ external) × ((length_of image (External (external_number w)) ≡ size) × (bytes ≡ range_at (byte image (External (external_number w))) 0 size))). h.1.0) (λ (h : (kind_of w ≢ external) × (bytes ≡ range_at (byte image (Block (file_selector w))) (place w) size)). absurd (h.0 outside)) s.at in
    let there : stored_at image size w ≡ Some (data_at image w 0 size) = stored_there image size w some s.storage s.stands_there long in
    cc

-- stored data has its size
pub stored_length : (image : Image) (size w : ℕ) (bytes : List ℕ) → stored_at image size w ≡ Some bytes → length bytes ≡ size
unfolding stored_at
stored_length image zero w bytes e = none_length bytes e
  where
    none_length : (bytes : List ℕ) → stored_at image 0 w ≡ Some bytes → length bytes ≡ 0
    none_length bytes e = by_test (is_storage 0 w) e
      where
        by_test : (t : Bool) → (if not t then None else Some []) ≡ Some bytes → length bytes ≡ 0
        by_test true h = cc
        by_test false h = absurd (clash h)
          where
            clash : None ≡ Some bytes → ⊥
            clash h = cc
stored_length image (suc n) w bytes e = ap length (stored_bytes image (suc n) w bytes (omega arith) e) ∙ length-range (suc n) _ _

pub stream_fits : (image : Image) (size w : ℕ) → size ≤ 2147483647 → is_stream image size w ≡ is_some (stored_at image size w)
unfolding is_stream
stream_fits image size w few = let t : nat_le size 2147483647 ≡ true = grind (arith, nat_tests) in rw t refl

pub stream_long : (image : Image) (size w : ℕ) → 2147483647 < size → is_stream image size w ≡ false
unfolding is_stream
stream_long image size w many = let t : nat_le size 2147483647 ≡ false = grind (arith, nat_tests) in rw t refl

-- what is known of three streams one after the other
module _ (image : Image) (fields : RecordFields) where
  both_zero : (a b : Bool) → a ≡ false → (a && b) ≡ false
  both_zero a b e = rw e refl

  second_none : (a b : Bool) → b ≡ false → (a && b) ≡ false
  second_none true b e = e
  second_none false b e = refl

  pub no_fourth_size : (data_size_of fields 3 ≡ 0 → ⊥) → is_some (stored_streams (store_of image) fields) ≡ false
  no_fourth_size some = let t : (data_size_of fields 3 == 0) ≡ false = grind (arith, nat_tests) in streams_are image fields ∙ both_zero _ _ (both_zero _ _ t)

  pub no_fourth_addr : (address_of fields 3 ≡ 0 → ⊥) → is_some (stored_streams (store_of image) fields) ≡ false
  no_fourth_addr some = let t : (address_of fields 3 == 0) ≡ false = grind (arith, nat_tests) in streams_are image fields ∙ both_zero _ _ (second_none _ _ t)

  pub no_first : is_stream image (data_size_of fields 0) (address_of fields 0) ≡ false → is_some (stored_streams (store_of image) fields) ≡ false
  no_first e = streams_are image fields ∙ second_none _ _ (both_zero _ _ e)

  pub no_second : is_stream image (data_size_of fields 1) (address_of fields 1) ≡ false → is_some (stored_streams (store_of image) fields) ≡ false
  no_second e = streams_are image fields ∙ second_none _ _ (second_none _ _ (both_zero _ _ e))

  pub by_third : data_size_of fields 3 ≡ 0 → address_of fields 3 ≡ 0 → is_stream image (data_size_of fields 0) (address_of fields 0) ≡ true → is_stream image (data_size_of fields 1) (address_of fields 1) ≡ true
      → is_some (stored_streams (store_of image) fields) ≡ is_stream image (data_size_of fields 2) (address_of fields 2)
  by_third s a first second =
      streams_are image fields ∙ (λ i. (eq-eqb (data_size_of fields 3) 0 s i && eq-eqb (address_of fields 3) 0 a i) && (first i && (second i && is_stream image (data_size_of fields 2) (address_of fields 2))))
