-- The cost of an entry, by the words of its record.
use Rattle.std.proofs.Common.{◌≡◌, ℕ, ◌+◌, List, [], ◌∷◌, length, length-take, take, refl, ap, ap₂, sym, ◌∙◌, arith, Bool, true, false, Option, None, Some}
use Rattle.std.specs.Prelude.{◌==◌, ◌&&◌, nat_le, not, slice_index, if◌then◌else◌}
use Rattle.std.specs.List.{sum_by}
use Rattle.std.specs.Option.{option_and_then, option_map}
use Rattle.std.proofs.lemmas.Bool.{eqb-true}
use Rattle.spec_image.specs.Bytes.{range_at}
use Rattle.spec_image.specs.Image.{External, Image, byte, length_of}
use Rattle.spec_image.proofs.Words.{length-range}
use Rattle.spec_format.specs.Address.{external, external_number, kind_of, place}
use Rattle.spec_format.specs.BlockFiles.{stands_in}
use Rattle.spec_format.specs.Storage.{is_storage}
use Rattle.spec_folder.specs.Entries.{stored_key, stored_stream, stored_streams, stream}
use Rattle.spec_folder.specs.Found.{charge_of}
use Rattle.spec_folder.specs.Loads.{Loaded}
use Rattle.spec_folder.specs.View.{RecordFields, address_of, block_bytes, data_size_of, entry_at, fields_of, key_place_at, store_of, stored_at}
use Rattle.law_folder.proofs.chains.ChainWords.{shown-fields}
use Rattle.law_folder.proofs.walks.Loads.{load-then}
use Rattle.blk_entry.specs.declared.keys.Head.{Head}
use Rattle.blk_entry.specs.Keys.{IsRecordHead}
use Rattle.blk_object.specs.Owning.{LoadsWith}

none-some : {A : Type 0} {x : A} → ◌≡◌ {A = Option A} None (Some x) → ⊥
none-some e = cc

-- stored data has its size
stored-length : (image : Image) (size w : ℕ) (bytes : List ℕ) → stored_at image size w ≡ Some bytes → length bytes ≡ size
unfolding stored_at
stored-length image size w bytes e = go (is_storage size w) (size == 0) refl (stands_in image w) (kind_of w == external) (length_of image (External (external_number w)) == size) e where
  ranged : (f : ℕ → ℕ) (at : ℕ) → Some (range_at f at size) ≡ Some bytes → length bytes ≡ size
  ranged f at h = let same : range_at f at size ≡ bytes = cc in sym (ap length same) ∙ length-range size at f

  go : (a b : Bool) → (size == 0) ≡ b → (c d x : Bool)
      → (if not a then None else if b then Some [] else if not c then None else if d then (if x then Some (range_at (byte image (External (external_number w))) 0 size) else None) else Some (range_at (block_bytes image w) (place w) size)) ≡ Some bytes → length bytes ≡ size
  go false b is c d x h = absurd (none-some h)
  go true true is c d x h = let same : [] ≡ bytes = cc in sym (ap length same) ∙ sym (eqb-true size 0 is)
  go true false is false d x h = absurd (none-some h)
  go true false is true true true h = ranged (byte image (External (external_number w))) 0 h
  go true false is true true false h = absurd (none-some h)
  go true false is true false x h = ranged (block_bytes image w) (place w) h

-- a stored key has the length that its record says
pub key-length : (image : Image) (w : ℕ) (e : RecordFields) (key : List ℕ) → stored_key (store_of image) w e ≡ Some key → length key ≡ e.key_len
unfolding stored_key store_of key_place_at
key-length image w e key is = by (nat_le e.key_len 927) (e.long_key == 0) is where
  long : (o : Option (List ℕ)) → stored_at image (e.key_len + 1) e.long_key ≡ o → option_map (take e.key_len) o ≡ Some key → length key ≡ e.key_len
  long None at h = absurd (none-some h)
  long (Some bytes) at h =
      let size = stored-length image (e.key_len + 1) e.long_key bytes at in
      let taken = length-take e.key_len bytes in
      let same : take e.key_len bytes ≡ key = cc in
      sym (ap length same) ∙ (let all : length (take e.key_len bytes) ≡ e.key_len = omega (arith, size, taken) in all)

  by : (t z : Bool) → (if t then (if z then Some (range_at (block_bytes image w) (place w + 96) e.key_len) else None) else option_map (take e.key_len) (stored_at image (e.key_len + 1) e.long_key)) ≡ Some key → length key ≡ e.key_len
  by true true h = let same : range_at (block_bytes image w) (place w + 96) e.key_len ≡ key = cc in sym (ap length same) ∙ length-range e.key_len (place w + 96) (block_bytes image w)
  by true false h = absurd (none-some h)
  by false z h = long (stored_at image (e.key_len + 1) e.long_key) refl h

-- a stored stream has the length that its record says
stream-length : (image : Image) (e : RecordFields) (i : ℕ) (bytes : List ℕ) → stored_stream (store_of image) e i ≡ Some bytes → length bytes ≡ data_size_of e i
unfolding stored_stream store_of
stream-length image e i bytes is = go (nat_le (data_size_of e i) 2147483647) is where
  go : (b : Bool) → (if b then stored_at image (data_size_of e i) (address_of e i) else None) ≡ Some bytes → length bytes ≡ data_size_of e i
  go true h = stored-length image (data_size_of e i) (address_of e i) bytes h
  go false h = absurd (none-some h)

-- so each of the three streams of a record has the length that it says
pub record HaveLengths (e : RecordFields) (streams : List (List ℕ)) : Type 0 where
  pub first : length (stream 0 streams) ≡ data_size_of e 0
  pub second : length (stream 1 streams) ≡ data_size_of e 1
  pub third : length (stream 2 streams) ≡ data_size_of e 2
  pub all : sum_by length streams ≡ data_size_of e 0 + data_size_of e 1 + data_size_of e 2

pub streams-length : (image : Image) (e : RecordFields) (streams : List (List ℕ)) → stored_streams (store_of image) e ≡ Some streams → HaveLengths e streams
unfolding stored_streams
streams-length image e streams is = go ((data_size_of e 3 == 0) && (address_of e 3 == 0)) (stored_stream (store_of image) e 0) (stored_stream (store_of image) e 1) (stored_stream (store_of image) e 2) refl refl refl is where
  go : (b : Bool) (s0 s1 s2 : Option (List ℕ)) → stored_stream (store_of image) e 0 ≡ s0 → stored_stream (store_of image) e 1 ≡ s1 → stored_stream (store_of image) e 2 ≡ s2
      → (if not b then None else option_and_then (λ first. option_and_then (λ second. option_map (λ third. first ∷ second ∷ third ∷ []) s2) s1) s0) ≡ Some streams → HaveLengths e streams
  go false s0 s1 s2 e0 e1 e2 h = absurd (none-some h)
  go true None s1 s2 e0 e1 e2 h = absurd (none-some h)
  go true (Some a) None s2 e0 e1 e2 h = absurd (none-some h)
  go true (Some a) (Some b) None e0 e1 e2 h = absurd (none-some h)
  go true (Some a) (Some b) (Some c) e0 e1 e2 h =
      let same : a ∷ b ∷ c ∷ [] ≡ streams = cc in
      let first : length a ≡ data_size_of e 0 = stream-length image e 0 a e0 in
      let second : length b ≡ data_size_of e 1 = stream-length image e 1 b e1 in
      let third : length c ≡ data_size_of e 2 = stream-length image e 2 c e2 in
      record {
        first = sym (ap (λ (l : List (List ℕ)). length (stream 0 l)) same) ∙ first;
        second = sym (ap (λ (l : List (List ℕ)). length (stream 1 l)) same) ∙ second;
        third = sym (ap (λ (l : List (List ℕ)). length (stream 2 l)) same) ∙ third;
        all = sym (ap (sum_by length) same) ∙ (let sum : sum_by length (a ∷ b ∷ c ∷ []) ≡ data_size_of e 0 + data_size_of e 1 + data_size_of e 2 = omega (arith, first, second, third) in sum);
      }

-- the length of the key of what loads is in its record
pub record-key : (image : Image) (entry : ℕ) (loaded : Loaded) → LoadsWith entry loaded image → length loaded.key ≡ (entry_at image entry).key_len
record-key image entry loaded with_record = load-then (store_of image) with_record.rule with_record.node loaded with_record.loads (λ n e f.
    let here : (store_of image).entry entry ≡ Some e = ap (store_of image).entry (sym with_record.contents ∙ f.facts.contents_is) ∙ f.entry in
    key-length image n.contents e loaded.key f.facts.keyed.key ∙ sym (ap (λ (x : RecordFields). x.key_len) (shown-fields image entry e here)))

-- the cost of what loads is the sum of the lengths that its record says
pub record-charge : (image : Image) (entry : ℕ) (loaded : Loaded) → LoadsWith entry loaded image
    → (entry_at image entry).key_len + slice_index (entry_at image entry).data_size 0 + slice_index (entry_at image entry).data_size 1 + slice_index (entry_at image entry).data_size 2 ≡ charge_of loaded
record-charge image entry loaded with_record = load-then (store_of image) with_record.rule with_record.node loaded with_record.loads (λ n e f.
    let here : (store_of image).entry entry ≡ Some e = ap (store_of image).entry (sym with_record.contents ∙ f.facts.contents_is) ∙ f.entry in
    let shown : fields_of (entry_at image entry) ≡ e = shown-fields image entry e here in
    let key : length loaded.key ≡ (entry_at image entry).key_len = record-key image entry loaded with_record in
    let streams : sum_by length loaded.streams ≡ slice_index (entry_at image entry).data_size 0 + slice_index (entry_at image entry).data_size 1 + slice_index (entry_at image entry).data_size 2 =
    (streams-length image e loaded.streams f.facts.streams).all ∙ sym (ap (λ (x : RecordFields). slice_index x.data_size 0 + slice_index x.data_size 1 + slice_index x.data_size 2) shown) in
    omega (arith, key, streams))

-- and so those of what was read of it
pub owned-charge : (image : Image) (entry : ℕ) (head : Head) (loaded : Loaded) → IsRecordHead image entry head → LoadsWith entry loaded image
    → head.key_len + slice_index head.sizes 0 + slice_index head.sizes 1 + slice_index head.sizes 2 ≡ charge_of loaded
owned-charge image entry head loaded is with_record = ap₂ (λ (n : ℕ) (sizes : List ℕ). n + slice_index sizes 0 + slice_index sizes 1 + slice_index sizes 2) is.key_len is.sizes ∙ record-charge image entry loaded with_record
