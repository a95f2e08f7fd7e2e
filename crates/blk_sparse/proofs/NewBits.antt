-- A parent gets the bit of a part: what it loads then.
use Rattle.std.proofs.Common.{◌≡◌, ◌≢◌, ◌⊎◌, inl, inr, ⊎_elim, ℕ, ◌+◌, ◌<◌, ◌≤◌, List, [], ◌∷◌, length, Bool, true, false, Option, None, Some, Ok, refl, sym, ◌∙◌, ap, ap₂, arith}
use Rattle.std.specs.Prelude.{◌==◌, ◌&&◌, ◌||◌, ◌-◌, nat_le, nat_lt, not, slice_index, if◌then◌else◌}
use Rattle.std.specs.Option.{option_and_then}
use Rattle.std.proofs.lemmas.Bool.{and_parts, cases_Bool, eqb-true}
use Rattle.std.proofs.lemmas.Bool.Decides.{nat_tests}
use Rattle.std.proofs.lemmas.Option.{cond_some, option_and_then_some}
use Rattle.spec_image.specs.Bytes.{content, long_at, word_at}
use Rattle.spec_image.specs.Footprint.{SameOutside}
use Rattle.spec_image.specs.Image.{Image, byte}
use Rattle.spec_image.proofs.Runs.{some_inj}
use Rattle.spec_image.proofs.Words.{content-range}
use Rattle.blk_model.specs.Bytes.{overwritten}
use Rattle.blk_model.specs.Effects.{stream_after}
use Rattle.spec_format.specs.Address.{blocks_256, external, kind_of}
use Rattle.spec_format.specs.Claims.{claims_of, has_claim, repeats}
use Rattle.spec_format.specs.Records.{entry_checks}
use Rattle.spec_format.specs.Sealed.{RecordChecks}
use Rattle.spec_format.specs.SparseIndex.{ParentIndex, is_index_head, last_block_len_of, map_bit, minus_one, parent_key_len_of, read_parent_index}
use Rattle.spec_folder.specs.Entries.{IsParent, IsPart, IsPlain, Role, parent_role, part_role, role_of, stored_stream, stored_streams, stream}
use Rattle.spec_folder.specs.Footprint.{SameStore}
use Rattle.spec_folder.specs.Layout.{Layout, rule_of}
use Rattle.spec_folder.specs.Loads.{Loaded, all_claims, load}
use Rattle.spec_folder.specs.View.{RecordFields, entry_at, fields_of, store_of, stored_at}
use Rattle.law_folder.proofs.chains.ChainWords.{shown-fields}
use Rattle.law_folder.proofs.updates.StillShown.{standing-parts}
use Rattle.law_folder.proofs.walks.Loads.{load-then}
use Rattle.blk_ranges.specs.ParentMaps.{has_part_bit, with_part, with_part_bit}
use Rattle.blk_ranges.proofs.ParentIndexes.{adds-a-part}
use Rattle.blk_disk.specs.declared.tables.BlockFiles.{BlockFiles}
use Rattle.blk_disk.specs.Tables.{Agrees}
use Rattle.blk_entry.specs.Keys.{data_at, data_file, data_range, data_start, stores}
use Rattle.blk_stream.specs.Loading.{stored_streams_with}
use Rattle.blk_stream.specs.Writing.{size_after}
use Rattle.blk_stream.specs.Streams.{address_word, may_keep, size_word, streams_at}
use Rattle.blk_stream.proofs.InsideData.{moved_data}
use Rattle.blk_stream.proofs.Naming.{apart_place}
use Rattle.blk_stream.proofs.StreamLists.{stored_there}
use Rattle.blk_stream.proofs.StreamPlaces.{IsStream, may_parts, stream_facts}
use Rattle.law_state.proofs.Free.{standing-loaded}
use Rattle.blk_object.proofs.WrittenRoles.{part-of}
use Rattle.blk_sparse.specs.NewParts.{HasBitNow, HasIndexPlace, IsBitNoted, index_with_bit, place_of_bit, with_noted}
use Rattle.blk_sparse.proofs.NewSeen.{load-noted}

-- ---- an index with one bit more

pub index-parts : (bytes : List ℕ) (index : ParentIndex) → read_parent_index bytes ≡ Some index → (length bytes ≡ 8256) × ((k : ℕ) → index.has_part k ≡ (nat_lt k 65536 && map_bit (content bytes) 64 k))
unfolding read_parent_index
index-parts bytes index is =
    let f : ℕ → ℕ = content bytes in
    let parts = cond_some ((length bytes == 8256) && is_index_head f && (word_at f 16 == minus_one) && (last_block_len_of f == 0)) (record { signature = long_at f 0; key_len = parent_key_len_of f; has_part = λ k. nat_lt k 65536 && map_bit f 64 k }) index is in
    let a = and_parts ((length bytes == 8256) && is_index_head f && (word_at f 16 == minus_one)) _ parts.0 in
    let b = and_parts ((length bytes == 8256) && is_index_head f) _ a.0 in
    let c = and_parts (length bytes == 8256) _ b.0 in
    (eqb-true (length bytes) 8256 c.0, λ k. ap (λ (x : ParentIndex). x.has_part k) (sym parts.1))

-- a bit that is set already adds nothing
already : (index : ParentIndex) (n : ℕ) → index.has_part n ≡ true → index ≡ with_part index n
already index n has = λ j. record { signature = index.signature; key_len = index.key_len; has_part = λ k. same k j } where
  same : (k : ℕ) → index.has_part k ≡ ((k == n) || index.has_part k)
  same k = ⊎_elim
      (λ (e : (k == n) ≡ true). rw e (ap index.has_part (eqb-true k n e) ∙ has))
      (λ (e : (k == n) ≡ false). rw e refl)
      (cases_Bool (k == n))

pub index-noted : (bytes : List ℕ) (index : ParentIndex) (n : ℕ) → read_parent_index bytes ≡ Some index → n < 65536 → read_parent_index (index_with_bit bytes n) ≡ Some (with_part index n)
index-noted bytes index n is small = go (has_part_bit (slice_index bytes (place_of_bit n)) n) refl where
  go : (t : Bool) → has_part_bit (slice_index bytes (place_of_bit n)) n ≡ t → read_parent_index (if t then bytes else overwritten bytes (place_of_bit n) (with_part_bit (slice_index bytes (place_of_bit n)) n ∷ [])) ≡ Some (with_part index n)
  go false e = adds-a-part bytes index n is small
  go true e =
      let low : nat_lt n 65536 ≡ true = grind (arith, nat_tests) in
      let has : index.has_part n ≡ true = (index-parts bytes index is).1 n ∙ ap₂ (λ (a b : Bool). a && b) low e in
      is ∙ ap Some (already index n has)

bit-there : (bytes : List ℕ) (n : ℕ) → has_part_bit (slice_index bytes (place_of_bit n)) n ≡ true → index_with_bit bytes n ≡ bytes
bit-there bytes n has = rw has refl

bit-added : (bytes : List ℕ) (n : ℕ) → has_part_bit (slice_index bytes (place_of_bit n)) n ≡ false → index_with_bit bytes n ≡ overwritten bytes (place_of_bit n) (with_part_bit (slice_index bytes (place_of_bit n)) n ∷ [])
bit-added bytes n lacks = rw lacks refl

-- ---- its role

no-part : (name : _) (index : _) (other : ParentIndex) → IsPart name index ≡ IsParent other → ⊥
no-part name index other e = cc

-- a parent's role is by its third stream
record IsByIndex (fields : RecordFields) (key : List ℕ) (streams : List (List ℕ)) (index : ParentIndex) : Type 0 where
  read : read_parent_index (stream 2 streams) ≡ Some index
  noted : (bytes : List ℕ) (next : ParentIndex) → read_parent_index bytes ≡ Some next → next.key_len ≡ index.key_len → role_of fields key (stored_streams_with 2 bytes streams) ≡ Some (IsParent next)

by-index : (fields : RecordFields) (key : List ℕ) (streams : List (List ℕ)) (index : ParentIndex) → role_of fields key streams ≡ Some (IsParent index) → IsByIndex fields key streams index
unfolding role_of parent_role stored_streams_with
by-index fields key streams index is = go (fields.flags == 1) (fields.flags == 2) refl refl is where
  none : (t : Bool) → (if t then None else option_and_then (λ (i : ParentIndex). if i.key_len == fields.key_len then Some (IsParent i) else None) (read_parent_index (stream 2 streams))) ≡ Some (IsParent index) → not (length (stream 1 streams) == 0) ≡ t → fields.flags == 1 ≡ true → IsByIndex fields key streams index
  none true h e flag = absurd (let z : ◌≡◌ {A = Option Role} None (Some (IsParent index)) = h in cc)
  none false h e flag = option_and_then_some (λ (i : ParentIndex). if i.key_len == fields.key_len then Some (IsParent i) else None) (read_parent_index (stream 2 streams)) (IsParent index) h (λ was read done.
      let c = cond_some (was.key_len == fields.key_len) (IsParent was) (IsParent index) done in
      let same : was ≡ index = (let z : IsParent was ≡ IsParent index = c.1 in cc) in
      record {
        read = read ∙ ap Some same;
        noted = λ bytes next is len.
            let fits : (next.key_len == fields.key_len) ≡ true = ap (λ (n : ℕ). n == fields.key_len) (len ∙ ap (λ (i : ParentIndex). i.key_len) (sym same)) ∙ c.0 in
            rw (flag, e, is, fits) refl;
      })

  go : (a b : Bool) → (fields.flags == 1) ≡ a → (fields.flags == 2) ≡ b → (if a then parent_role fields streams else if b then part_role key streams else Some IsPlain) ≡ Some (IsParent index) → IsByIndex fields key streams index
  go true b flag other h = none (not (length (stream 1 streams) == 0)) h refl flag
  go false true flag other h = let p = part-of key streams (IsParent index) h in absurd (no-part p.name p.index index (sym p.is))
  go false false flag other h = absurd (let z : ◌≡◌ {A = Option Role} (Some IsPlain) (Some (IsParent index)) = h in cc)

fits : (p : ℕ) → p < 8256 → 8256 ≡ size_after false 8256 p 1
unfolding size_after
fits p low = omega (arith, low)

-- ---- where its index lies

module _ (files : BlockFiles) (layout : Layout) (node : ℕ) (was : Loaded) (index : ParentIndex) (role : was.role ≡ IsParent index) (image : Image) (ok : load (store_of image) (rule_of layout node) node ≡ Ok was) (agrees : Agrees files image) where
  -- what is known of its record
  record IsParentRecord : Type 0 where
    shown : entry_checks (entry_at image was.contents) ≡ true
    at : streams_at image was.contents ≡ Some was.streams
    others : was.others ≡ (entry_at image was.contents).long_key ∷ (entry_at image was.contents).data_addr
    role_is : role_of (fields_of (entry_at image was.contents)) was.key was.streams ≡ Some (IsParent index)
    entry : (store_of image).entry was.contents ≡ Some (fields_of (entry_at image was.contents))

  its : IsParentRecord
  unfolding streams_at store_of
  its = load-then (store_of image) (rule_of layout node) node was ok (λ n e f.
      let there : (store_of image).entry was.contents ≡ Some e = ap (store_of image).entry f.facts.contents_is ∙ f.entry in
      let same : fields_of (entry_at image was.contents) ≡ e = shown-fields image was.contents e there in
      record {
        shown = ap (λ (x : RecordFields). x.checks) same ∙ f.checks;
        at = ap (option_and_then (stored_streams (store_of image))) there ∙ f.facts.streams;
        others = f.facts.others_are ∙ ap (λ (x : RecordFields). x.long_key ∷ x.data_addr) (sym same);
        role_is = ap (λ (x : RecordFields). role_of x was.key was.streams) same ∙ f.facts.role ∙ ap Some role;
        entry = there ∙ ap Some (sym same);
      })

  by : IsByIndex (fields_of (entry_at image was.contents)) was.key was.streams index
  by = by-index (fields_of (entry_at image was.contents)) was.key was.streams index its.role_is

  third : IsStream files image (size_word image was.contents 2) (address_word image was.contents 2) (stream 2 was.streams)
  third = stream_facts files image was.contents 2 was.streams agrees (omega arith) its.at

  size-is : size_word image was.contents 2 ≡ 8256
  size-is = sym third.len ∙ (index-parts (stream 2 was.streams) index by.read).0

  pub address-is : slice_index was.others 3 ≡ address_word image was.contents 2
  address-is = ap (λ (ws : List ℕ). slice_index ws 3) its.others

  keep : may_keep files 8256 (address_word image was.contents 2) ≡ true
  keep = ap (λ (n : ℕ). may_keep files n (address_word image was.contents 2)) (sym size-is) ∙ third.keep

  pub parent-place : stores files 8256 (address_word image was.contents 2) ≡ true
  parent-place = (may_parts files 8256 (address_word image was.contents 2) keep).1

  pub parent-shown : entry_checks (entry_at image was.contents) ≡ true
  parent-shown = its.shown

  pub parent-kind : kind_of was.contents ≡ blocks_256
  parent-kind = (standing-parts image blocks_256 was.contents (standing-loaded image layout node was ok).record_).1

  pub index-place : RecordChecks was.contents image → HasIndexPlace files was.contents image
  index-place checks = record { checks = checks; place = parent-place }

  index-bytes : stream 2 was.streams ≡ data_at image (address_word image was.contents 2) 0 8256
  index-bytes = third.is ∙ ap (λ (n : ℕ). data_at image (address_word image was.contents 2) 0 n) size-is

  -- ---- a byte of it

  module _ (n : ℕ) (small : n < 65536) (blocks : kind_of (address_word image was.contents 2) ≢ external) where
    abbrev w : ℕ
    w = address_word image was.contents 2

    abbrev f : Image → ℕ → ℕ
    f i k = byte i (data_file (address_word image was.contents 2)) (data_start (address_word image was.contents 2) + k)

    inside : place_of_bit n < 8256
    inside = omega (arith, small)

    one-byte : (i : Image) (x : ℕ) → data_at i w (place_of_bit n) 1 ≡ x ∷ [] → byte i (data_file w) (data_start w + place_of_bit n) ≡ x
    one-byte i x is =
        sym (content-range 1 (data_start w + place_of_bit n) (byte i (data_file w)) 0 (data_start w + place_of_bit n) (omega arith) (omega arith))
        ∙ ap (λ (bytes : List ℕ). content bytes 0) is

    byte-was : (x : ℕ) → data_at image w (place_of_bit n) 1 ≡ x ∷ [] → slice_index (stream 2 was.streams) (place_of_bit n) ≡ x
    byte-was x is =
        ap (λ (bytes : List ℕ). content bytes (place_of_bit n)) index-bytes
        ∙ content-range 8256 (data_start w + 0) (byte image (data_file w)) (place_of_bit n) (data_start w + place_of_bit n) inside (omega arith)
        ∙ one-byte image x is

    module _ (last : Image) (agrees_last : Agrees files last) where
      outside : (x : ℕ) → SameOutside (data_range w (place_of_bit n) 1) image last → (k : ℕ) → (k < place_of_bit n) ⊎ (place_of_bit n + 1 ≤ k) → byte last (data_file w) (data_start w + k) ≡ byte image (data_file w) (data_start w + k)
      unfolding data_range
      outside x same k away = same.bytes (data_file w) (data_start w + k) (apart_place (data_file w) (data_file w) (data_start w + place_of_bit n) 1 (data_start w + k)
          (⊎_elim (λ (low : k < place_of_bit n). inl (omega (arith, low))) (λ (high : place_of_bit n + 1 ≤ k). inr (omega (arith, high))) away))

      written : (x : ℕ) → SameOutside (data_range w (place_of_bit n) 1) image last → data_at last w (place_of_bit n) 1 ≡ x ∷ [] → data_at last w 0 8256 ≡ stream_after false (data_at image w 0 8256) (place_of_bit n) (x ∷ [])
      written x same is =
          moved_data image last w w 8256 8256 (place_of_bit n) false (x ∷ []) (fits (place_of_bit n) inside)
          (λ k low small. outside x same k (inl low))
          (λ k low past. absurd (omega (arith, low, past, inside)))
          (λ k low high. there k (omega (arith, low, high)))
          (λ k high small low. outside x same k (inr high))
          (omega (arith, inside))
        where
          there : (k : ℕ) → k ≡ place_of_bit n → byte last (data_file w) (data_start w + k) ≡ content (x ∷ []) (k - place_of_bit n)
          there k e = ap (λ (j : ℕ). byte last (data_file w) (data_start w + j)) e ∙ one-byte last x is ∙ ap (λ (j : ℕ). content (x ∷ []) j) (let z : 0 ≡ k - place_of_bit n = omega (arith, e) in z)

      stored-there : (bytes : List ℕ) → data_at last w 0 8256 ≡ bytes → stored_stream (store_of last) (fields_of (entry_at image was.contents)) 2 ≡ Some bytes
      unfolding stored_stream store_of
      stored-there bytes is =
          ap (λ (m : ℕ). if nat_le m 2147483647 then stored_at last m w else None) size-is
          ∙ stored_there files last 8256 w agrees_last keep (λ some kind. absurd (blocks kind)) ∙ ap Some is

      same-fields : (e : RecordFields) → (store_of image).entry was.contents ≡ Some e → fields_of (entry_at image was.contents) ≡ e
      same-fields e there = some_inj (sym its.entry ∙ there)

      module _ (noted : IsBitNoted was.contents n image last) where
        byte-is : slice_index (stream 2 was.streams) (place_of_bit n) ≡ noted.was
        byte-is = byte-was noted.was noted.before

        data-is : data_at last w 0 8256 ≡ index_with_bit (stream 2 was.streams) n
        data-is = go noted.done where
          go : ((has_part_bit noted.was n ≡ true) × (last ≡ image)) ⊎ HasBitNow w n noted.was image last → data_at last w 0 8256 ≡ index_with_bit (stream 2 was.streams) n
          go (inl there) =
              ap (λ (i : Image). data_at i w 0 8256) there.1 ∙ sym index-bytes
              ∙ sym (bit-there (stream 2 was.streams) n (ap (λ (x : ℕ). has_part_bit x n) byte-is ∙ there.0))
          go (inr h) =
              written (with_part_bit noted.was n) h.same h.byte_is
              ∙ ap₂ (λ (bytes : List ℕ) (x : ℕ). overwritten bytes (place_of_bit n) (with_part_bit x n ∷ [])) (sym index-bytes) (sym byte-is)
              ∙ sym (bit-added (stream 2 was.streams) n (ap (λ (x : ℕ). has_part_bit x n) byte-is ∙ h.lacked))

        pub sees : SameStore (has_claim (claims_of (slice_index was.others 3))) (store_of image) (store_of last) → repeats (all_claims was) ≡ false → load (store_of last) (rule_of layout node) node ≡ Ok (with_noted was index n)
        sees same single = load-noted image last (rule_of layout node) node was refl ok single same (index_with_bit (stream 2 was.streams) n) (IsParent (with_part index n))
            (λ e there. ap (λ (x : RecordFields). stored_stream (store_of last) x 2) (sym (same-fields e there)) ∙ stored-there (index_with_bit (stream 2 was.streams) n) data-is)
            (λ e there is. (by-index e was.key was.streams index (is ∙ ap Some role)).noted (index_with_bit (stream 2 was.streams) n) (with_part index n) (index-noted (stream 2 was.streams) index n by.read small) refl)
