-- The row of a loaded record is one that its item may have.
use Rattle.std.proofs.Common.{◌≡◌, ◌≢◌, ⊎_elim, ℕ, zero, suc, ◌+◌, ◌-◌, ◌*◌, ◌^◌, ◌<◌, ◌≤◌, Bool, true, false, List, [], ◌∷◌, ◌++◌, length, take, map, Option, Some, None, Ok, refl, sym, ap, ◌∙◌, subst, arith}
use Rattle.std.specs.Prelude.{◌==◌, ◌&&◌, ◌||◌, not, if◌then◌else◌, nat_le, nat_lt, IfSome, slice_index_or}
use Rattle.std.specs.Option.{option_map, option_map_or, option_and_then}
use Rattle.std.specs.List.{list_all, range_with_len}
use Rattle.std.proofs.lemmas.Bool.{and_parts, eqb-true, leb-true, ltb-true, cases_lt}
use Rattle.std.proofs.lemmas.Bool.Decides.{nat_tests, eqb_tells}
use Rattle.std.proofs.Math.Dec.{eqb}
use Rattle.std.proofs.lemmas.List.Elements.{All-from_get_or}
use Rattle.std.proofs.lemmas.List.FromFn.{length-map-range_with_len, get_or-map-range_with_len}
use Rattle.std.proofs.lemmas.List.{get_or_past, length-take}
use Rattle.spec_image.specs.Bytes.{content, range_at, word_at, long_at}
use Rattle.spec_image.specs.Image.{Image, AreBytes, External, Block, byte, length_of}
use Rattle.spec_image.proofs.Words.{length-range}
use Rattle.blk_model.specs.Items.{IsBytes, IsKey, IsPartial, LiesInside, Presence, IsPartValue, IsRow}
use Rattle.spec_format.specs.Address.{kind_of, file_selector, external_number, external, place}
use Rattle.spec_format.specs.Storage.{is_storage}
use Rattle.spec_format.specs.Records.{child, parent}
use Rattle.spec_format.specs.BlockFiles.{stands_in}
use Rattle.spec_format.specs.Names.{Name, read_name, IsName, child_name, name_head, colon, hexadecimal}
use Rattle.spec_format.specs.SparseIndex.{last_block_len_of, parent_key_len_of, ParentIndex, PartIndex, read_parent_index, read_part_index, is_index_head, is_partial, map_bit}
use Rattle.spec_format.proofs.NameLemmas.{read_name-IsName}
use Rattle.spec_folder.specs.View.{RecordFields, store_of, stored_at, key_place_at, data_size_of, address_of, block_bytes}
use Rattle.spec_folder.specs.Entries.{Role, IsPlain, IsParent, IsPart, is_key_length, longest_key_with, stored_key, stored_stream, stored_streams, stream, parent_role, part_role, role_of, is_covered}
use Rattle.spec_folder.specs.Loads.{Rule, Loaded, load, is_part_role}
use Rattle.spec_folder.specs.Found.{row_of_loaded}
use Rattle.law_folder.proofs.updates.Prefixes.{AreSmall, small-take, small-range}
use Rattle.law_folder.proofs.walks.Loads.{load-then}
use Rattle.law_folder.proofs.walks.Shown.{role-part}

bytes-of : (xs : List ℕ) → AreSmall xs → IsBytes xs
bytes-of xs small = All-from_get_or (λ b. b < 256) xs 0 (λ i within. small i)

none-small : AreSmall []
none-small i = omega arith

-- ---- stored data and keys

record AreData (size : ℕ) (bytes : List ℕ) : Type 0 where
  long : length bytes ≡ size
  small : AreSmall bytes

some-data : {a b : List ℕ} → ◌≡◌ {A = Option (List ℕ)} (Some a) (Some b) → a ≡ b
some-data e = cc

no-data : {b : List ℕ} → ◌≡◌ {A = Option (List ℕ)} None (Some b) → ⊥
no-data e = cc

range-data : (f : ℕ → ℕ) (i n : ℕ) → ((k : ℕ) → f k < 256) → AreData n (range_at f i n)
range-data f i n small = record { long = length-range n i f; small = small-range n i f small }

stored-data : (image : Image) → AreBytes image → (size w : ℕ) (bytes : List ℕ) → stored_at image size w ≡ Some bytes → AreData size bytes
unfolding stored_at
stored-data image are size w bytes e = go (not (is_storage size w)) (size == 0) (not (stands_in image w)) (kind_of w == external) (length_of image (External (external_number w)) == size) refl e where
  go : (a b c d l : Bool) → (size == 0) ≡ b
      → (if a then None else if b then Some [] else if c then None else if d then (if l then Some (range_at (byte image (External (external_number w))) 0 size) else None) else Some (range_at (block_bytes image w) (place w) size)) ≡ Some bytes → AreData size bytes
  go true b c d l is h = absurd (no-data h)
  go false true c d l is h = subst (AreData size) (some-data h) (record { long = sym (eqb-true size 0 is); small = none-small })
  go false false true d l is h = absurd (no-data h)
  go false false false true true is h = subst (AreData size) (some-data h) (range-data (byte image (External (external_number w))) 0 size (are (External (external_number w))))
  go false false false true false is h = absurd (no-data h)
  go false false false false l is h = subst (AreData size) (some-data h) (range-data (block_bytes image w) (place w) size (are (Block (file_selector w))))

key-data : (image : Image) → AreBytes image → (c : ℕ) (e : RecordFields) (key : List ℕ) → stored_key (store_of image) c e ≡ Some key → AreData e.key_len key
unfolding stored_key store_of key_place_at
key-data image are c e key is = go (nat_le e.key_len 927) (e.long_key == 0) is where
  taken : (o : Option (List ℕ)) → stored_at image (e.key_len + 1) e.long_key ≡ o → option_map (take e.key_len) o ≡ Some key → AreData e.key_len key
  taken None at h = absurd (no-data h)
  taken (Some bytes) at h =
      let d = stored-data image are (e.key_len + 1) e.long_key bytes at in
      let long = d.long in
      subst (AreData e.key_len) (some-data h) (record { long = length-take e.key_len bytes ∙ (omega (arith, long)); small = small-take e.key_len bytes d.small })

  go : (a b : Bool) → (if a then (if b then Some (range_at (block_bytes image c) (place c + 96) e.key_len) else None) else option_map (take e.key_len) (stored_at image (e.key_len + 1) e.long_key)) ≡ Some key → AreData e.key_len key
  go true true h = subst (AreData e.key_len) (some-data h) (range-data (block_bytes image c) (place c + 96) e.key_len (are (Block (file_selector c))))
  go true false h = absurd (no-data h)
  go false b h = taken (stored_at image (e.key_len + 1) e.long_key) refl h

stream-data : (image : Image) → AreBytes image → (e : RecordFields) (i : ℕ) (bytes : List ℕ) → stored_stream (store_of image) e i ≡ Some bytes → AreData (data_size_of e i) bytes
unfolding stored_stream store_of
stream-data image are e i bytes is = go (nat_le (data_size_of e i) 2147483647) is where
  go : (b : Bool) → (if b then stored_at image (data_size_of e i) (address_of e i) else None) ≡ Some bytes → AreData (data_size_of e i) bytes
  go true h = stored-data image are (data_size_of e i) (address_of e i) bytes h
  go false h = absurd (no-data h)

-- three streams of bytes
record AreStreams (streams : List (List ℕ)) : Type 0 where
  first : AreSmall (stream 0 streams)
  second : AreSmall (stream 1 streams)
  third : AreSmall (stream 2 streams)

streams-data : (image : Image) → AreBytes image → (e : RecordFields) (streams : List (List ℕ)) → stored_streams (store_of image) e ≡ Some streams → AreStreams streams
unfolding stored_streams
streams-data image are e streams is = go (not ((data_size_of e 3 == 0) && (address_of e 3 == 0))) (stored_stream (store_of image) e 0) (stored_stream (store_of image) e 1) (stored_stream (store_of image) e 2) refl refl refl is where
  none : {s : List (List ℕ)} → ◌≡◌ {A = Option (List (List ℕ))} None (Some s) → ⊥
  none e = cc

  same : {a b : List (List ℕ)} → ◌≡◌ {A = Option (List (List ℕ))} (Some a) (Some b) → a ≡ b
  same e = cc

  go : (b : Bool) (s0 s1 s2 : Option (List ℕ)) → stored_stream (store_of image) e 0 ≡ s0 → stored_stream (store_of image) e 1 ≡ s1 → stored_stream (store_of image) e 2 ≡ s2
      → (if b then None else option_and_then (λ first. option_and_then (λ second. option_map (λ third. first ∷ second ∷ third ∷ []) s2) s1) s0) ≡ Some streams → AreStreams streams
  go true s0 s1 s2 e0 e1 e2 h = absurd (none h)
  go false None s1 s2 e0 e1 e2 h = absurd (none h)
  go false (Some a) None s2 e0 e1 e2 h = absurd (none h)
  go false (Some a) (Some b) None e0 e1 e2 h = absurd (none h)
  go false (Some a) (Some b) (Some c) e0 e1 e2 h =
      subst AreStreams (same h) (record { first = (stream-data image are e 0 a e0).small; second = (stream-data image are e 1 b e1).small; third = (stream-data image are e 2 c e2).small })

-- ---- indexes

some-parent : {a b : ParentIndex} → ◌≡◌ {A = Option ParentIndex} (Some a) (Some b) → a ≡ b
some-parent e = cc

no-parent : {b : ParentIndex} → ◌≡◌ {A = Option ParentIndex} None (Some b) → ⊥
no-parent e = cc

some-index : {a b : PartIndex} → ◌≡◌ {A = Option PartIndex} (Some a) (Some b) → a ≡ b
some-index e = cc

no-index : {b : PartIndex} → ◌≡◌ {A = Option PartIndex} None (Some b) → ⊥
no-index e = cc

head-signature : (f : ℕ → ℕ) → is_index_head f ≡ true → long_at f 0 < 2 ^ 63
head-signature f e =
    let a = and_parts _ _ e in
    let b = and_parts _ _ a.0 in
    let c = and_parts _ _ b.0 in
    let d = and_parts _ _ c.0 in
    ltb-true (long_at f 0) (2 ^ 63) d.1

signature-small : (bytes : List ℕ) (index : ParentIndex) → read_parent_index bytes ≡ Some index → index.signature < 2 ^ 63
unfolding read_parent_index
signature-small bytes index e = go ((length bytes == 8256) && is_index_head (content bytes) && (word_at (content bytes) 16 == 2 ^ 32 - 1) && (last_block_len_of (content bytes) == 0)) refl e where
  go : (b : Bool) → ((length bytes == 8256) && is_index_head (content bytes) && (word_at (content bytes) 16 == 2 ^ 32 - 1) && (last_block_len_of (content bytes) == 0)) ≡ b
      → (if b then Some (record { signature = long_at (content bytes) 0; key_len = parent_key_len_of (content bytes); has_part = λ n. nat_lt n 65536 && map_bit (content bytes) 64 n }) else None) ≡ Some index → index.signature < 2 ^ 63
  go false is h = absurd (no-parent h)
  go true is h =
      let a = and_parts _ _ is in
      let b = and_parts _ _ a.0 in
      let c = and_parts _ _ b.0 in
      subst (λ (x : ParentIndex). x.signature < 2 ^ 63) (some-parent h) (head-signature (content bytes) c.1)

-- the partial block of an index
record IsPiece (index : PartIndex) (block len : ℕ) : Type 0 where
  below : block ≤ 1023
  some : 1 ≤ len
  short : len ≤ 1023
  apart : index.present block ≡ false

not_true_is : (b : Bool) → not b ≡ true → b ≡ false
not_true_is true e = cc
not_true_is false e = refl

partial-piece : (bytes : List ℕ) (index : PartIndex) → read_part_index bytes ≡ Some index → IfSome index.partial (λ p. IsPiece index p.0 p.1)
unfolding read_part_index
partial-piece bytes index e = go ((length bytes == 192) && is_index_head f && is_partial f) refl e where
  f : ℕ → ℕ
  f = content bytes

  index-is : Bool → PartIndex
  index-is none = record { signature = long_at (content bytes) 0; key_len = parent_key_len_of (content bytes); present = λ b. nat_lt b 1024 && map_bit (content bytes) 64 b; partial = if none then None else Some (word_at (content bytes) 16, last_block_len_of (content bytes)) }

  piece : (none : Bool) → (last_block_len_of (content bytes) == 0) ≡ none → is_partial (content bytes) ≡ true → IfSome (index-is none).partial (λ p. IsPiece (index-is none) p.0 p.1)
  piece true is holds = tt
  piece false is holds = by (word_at (content bytes) 16 == 2 ^ 32 - 1) (rw is at holds) where
    by : (m : Bool) → ((m && false) || (nat_le (word_at (content bytes) 16) 1023 && nat_le 1 (last_block_len_of (content bytes)) && nat_le (last_block_len_of (content bytes)) 1023 && not (map_bit (content bytes) 64 (word_at (content bytes) 16)))) ≡ true
        → IsPiece (index-is false) (word_at (content bytes) 16) (last_block_len_of (content bytes))
    by m h =
        let h1 : (nat_le (word_at (content bytes) 16) 1023 && nat_le 1 (last_block_len_of (content bytes)) && nat_le (last_block_len_of (content bytes)) 1023 && not (map_bit (content bytes) 64 (word_at (content bytes) 16))) ≡ true = right m _ h in
        let a = and_parts _ _ h1 in
        let b = and_parts _ _ a.0 in
        let c = and_parts _ _ b.0 in
        record {
          below = leb-true _ _ c.0;
          some = leb-true _ _ c.1;
          short = leb-true _ _ b.1;
          apart = ap (λ (x : Bool). nat_lt (word_at (content bytes) 16) 1024 && x) (not_true_is _ a.1) ∙ and_false (nat_lt (word_at (content bytes) 16) 1024);
        } where
          right : (m x : Bool) → ((m && false) || x) ≡ true → x ≡ true
          right true x h = h
          right false x h = h

          and_false : (b : Bool) → (b && false) ≡ false
          and_false true = refl
          and_false false = refl

  go : (b : Bool) → ((length bytes == 192) && is_index_head (content bytes) && is_partial (content bytes)) ≡ b → (if b then Some (index-is (last_block_len_of (content bytes) == 0)) else None) ≡ Some index → IfSome index.partial (λ p. IsPiece index p.0 p.1)
  go false is h = absurd (no-index h)
  go true is h = subst (λ (x : PartIndex). IfSome x.partial (λ p. IsPiece x p.0 p.1)) (some-index h) (piece (last_block_len_of (content bytes) == 0) refl (and_parts _ _ is).1)

-- ---- parts

record IsPartOf (key : List ℕ) (streams : List (List ℕ)) (name : Name) (index : PartIndex) : Type 0 where
  node_fields : read_name key ≡ Some name
  indexed : read_part_index (stream 2 streams) ≡ Some index
  few : length (stream 1 streams) ≤ 1048576
  covered : is_covered index (length (stream 1 streams)) ≡ true
  signed : index.signature ≡ name.signature

part-of : (key : List ℕ) (streams : List (List ℕ)) (name : Name) (index : PartIndex) → part_role key streams ≡ Some (IsPart name index) → IsPartOf key streams name index
unfolding part_role
part-of key streams name index is = go (not (length (stream 0 streams) == 0)) (nat_lt 1048576 (length (stream 1 streams))) (read_name key) (read_part_index (stream 2 streams)) refl refl refl is where
  no : {r : Role} → ◌≡◌ {A = Option Role} None (Some r) → ⊥
  no e = cc

  one : (n m : Name) (i j : PartIndex) → ◌≡◌ {A = Option Role} (Some (IsPart n i)) (Some (IsPart m j)) → (n ≡ m) × (i ≡ j)
  one n m i j e = let r : IsPart n i ≡ IsPart m j = cc in (cc, cc)

  go : (a b : Bool) (on : Option Name) (oi : Option PartIndex) → nat_lt 1048576 (length (stream 1 streams)) ≡ b → read_name key ≡ on → read_part_index (stream 2 streams) ≡ oi
      → (if a then None else if b then None else option_and_then (λ name. option_and_then (λ index. if (index.signature == name.signature) && (index.key_len == length name.key) && is_covered index (length (stream 1 streams)) then Some (IsPart name index) else None) oi) on) ≡ Some (IsPart name index)
      → IsPartOf key streams name index
  go true b on oi x y z h = absurd (no h)
  go false true on oi x y z h = absurd (no h)
  go false false None oi x y z h = absurd (no h)
  go false false (Some m) None x y z h = absurd (no h)
  go false false (Some m) (Some i) x y z h = tested ((i.signature == m.signature) && (i.key_len == length m.key) && is_covered i (length (stream 1 streams))) refl h where
    tested : (t : Bool) → ((i.signature == m.signature) && (i.key_len == length m.key) && is_covered i (length (stream 1 streams))) ≡ t → ◌≡◌ {A = Option Role} (if t then Some (IsPart m i) else None) (Some (IsPart name index)) → IsPartOf key streams name index
    tested false t e = absurd (no e)
    tested true t e =
        let same = one m name i index e in
        let a = and_parts _ _ t in
        let b = and_parts _ _ a.0 in
        record {
          node_fields = y ∙ ap (λ (n : Name). Some n) same.0;
          indexed = z ∙ ap (λ (j : PartIndex). Some j) same.1;
          few = few-by (length (stream 1 streams)) x;
          covered = subst (λ (j : PartIndex). is_covered j (length (stream 1 streams)) ≡ true) same.1 a.1;
          signed = sym (ap (λ (j : PartIndex). j.signature) same.1) ∙ eqb-true i.signature m.signature b.0 ∙ ap (λ (n : Name). n.signature) same.0;
        } where
          few-by : (n : ℕ) → nat_lt 1048576 n ≡ false → n ≤ 1048576
          few-by n e = grind (arith, nat_tests, e)

-- a part of small bytes
small-left : (xs ys : List ℕ) → AreSmall (xs ++ ys) → AreSmall xs
small-left [] ys small i = omega arith
small-left (x ∷ xs) ys small zero = small zero
small-left (x ∷ xs) ys small (suc i) = small-left xs ys (λ k. small (suc k)) i

small-right : (xs ys : List ℕ) → AreSmall (xs ++ ys) → AreSmall ys
small-right [] ys small = small
small-right (x ∷ xs) ys small = small-right xs ys (λ k. small (suc k))

-- a test that holds of all numbers of a range
range-all : (test : ℕ → Bool) (start n b : ℕ) → list_all test (range_with_len start n) ≡ true → start ≤ b → b < start + n → test b ≡ true
range-all test start zero b e low high = absurd (omega (arith, low, high))
range-all test start (suc n) b e low high =
    let parts = and_parts (test start) (list_all test (range_with_len (start + 1) n)) e in
    ⊎_elim
    (λ (s : (eqb start b ≡ true) × (start ≡ b)). subst (λ (x : ℕ). test x ≡ true) s.1 parts.0)
    (λ (s : (eqb start b ≡ false) × (start ≢ b)). let ne = s.1 in range-all test (start + 1) n b parts.1 (omega (arith, low, ne)) (omega (arith, high)))
    (eqb_tells start b)

presence-of : PartIndex → Presence
presence-of index = record { blocks = map index.present (range_with_len 0 1024); partial = index.partial }

block-present : (present : ℕ → Bool) (n block : ℕ) → block < n → slice_index_or (map present (range_with_len 0 n)) block false ≡ present block
block-present present n block below = get_or-map-range_with_len present 0 n block block false below (omega arith)

block-past : (present : ℕ → Bool) (n block : ℕ) → n ≤ block → slice_index_or (map present (range_with_len 0 n)) block false ≡ false
block-past present n block past = get_or_past (map present (range_with_len 0 n)) block false (omega (arith, past, length-map-range_with_len present 0 n))

inside-data : (index : PartIndex) (size : ℕ) → is_covered index size ≡ true → LiesInside (record { blocks = map index.present (range_with_len 0 1024); partial = index.partial }) size
unfolding is_covered
inside-data index size e =
    let parts = and_parts _ _ e in
    record { whole = whole 1024 parts.0; piece = piece index.partial parts.1 } where
      not_or : (b c : Bool) → b ≡ true → (not b || c) ≡ true → c ≡ true
      not_or true c p h = h
      not_or false c p h = cc

      clash : false ≡ true → ⊥
      clash e = cc

      whole : (n : ℕ) → list_all (λ b. not (index.present b) || nat_le (1024 * (b + 1)) size) (range_with_len 0 n) ≡ true → (block : ℕ) → slice_index_or (map index.present (range_with_len 0 n)) block false ≡ true → (block + 1) * 1024 ≤ size
      whole n all block there =
          ⊎_elim
          (λ (low : block < n).
          let test = range-all (λ b. not (index.present b) || nat_le (1024 * (b + 1)) size) 0 n block all (omega arith) (omega (arith, low)) in
          let fits : 1024 * (block + 1) ≤ size = leb-true _ _ (not_or (index.present block) _ (sym (block-present index.present n block low) ∙ there) test) in
          omega (arith, fits))
          (λ (past : n ≤ block). absurd (clash (sym (block-past index.present n block past) ∙ there)))
          (cases_lt block n)

      piece : (o : Option (ℕ × ℕ)) → option_map_or (λ p. nat_le (1024 * p.0 + p.1) size) o true ≡ true → IfSome o (λ p. p.0 * 1024 + p.1 ≤ size)
      piece None h = tt
      piece (Some p) h = let fits : 1024 * p.0 + p.1 ≤ size = leb-true _ _ h in omega (arith, fits)

partial-is : (index : PartIndex) (o : Option (ℕ × ℕ)) → IfSome o (λ p. IsPiece index p.0 p.1) → IfSome o (λ p. IsPartial (record { blocks = map index.present (range_with_len 0 1024); partial = index.partial }) p.0 p.1)
partial-is index None h = tt
partial-is index (Some p) h =
    let low = h.below in let short = h.short in
    record { below = omega (arith, low); apart = block-present index.present 1024 p.0 (omega (arith, low)) ∙ h.apart; some = h.some; not_whole = omega (arith, short) }

part-value : (streams : List (List ℕ)) (key : List ℕ) (name : Name) (index : PartIndex) → AreStreams streams → IsPartOf key streams name index → IsPartValue (record { bytes = stream 1 streams; presence = record { blocks = map index.present (range_with_len 0 1024); partial = index.partial } })
part-value streams key name index are of = record {
  bytes = bytes-of (stream 1 streams) are.second;
  fits = of.few;
  blocks = length-map-range_with_len index.present 0 1024;
  partial = partial-is index index.partial (partial-piece (stream 2 streams) index of.indexed);
  inside = inside-data index (length (stream 1 streams)) of.covered;
}

-- the parent's key in a name
name-key : (key : List ℕ) (name : Name) → AreSmall key → IsName key name → IsKey name.key × (name.part < 65536) × (name.signature < 2 ^ 63)
unfolding child_name
name-key key name small is =
    let a = and_parts _ _ is.fits in
    let b = and_parts _ _ a.0 in
    let c = and_parts _ _ b.0 in
    let whole : AreSmall (child_name name.key name.signature name.part) = subst AreSmall is.printed small in
    (record { some = ltb-true 0 (length name.key) c.0; short = leb-true (length name.key) 32768 c.1; bytes = bytes-of name.key (middle whole) }, ltb-true name.part 65536 a.1, ltb-true name.signature (2 ^ 63) b.1) where
      middle : AreSmall (child_name name.key name.signature name.part) → AreSmall name.key
      middle whole = small-left name.key (colon ∷ hexadecimal name.signature) (small-left (name.key ++ (colon ∷ hexadecimal name.signature)) (colon ∷ hexadecimal name.part) (small-right name_head ((name.key ++ (colon ∷ hexadecimal name.signature)) ++ (colon ∷ hexadecimal name.part)) whole))

-- ---- roles

no-role : {r : Role} → ◌≡◌ {A = Option Role} None (Some r) → ⊥
no-role e = cc

-- a part's role is no parent's
part-never : (key : List ℕ) (streams : List (List ℕ)) (index : ParentIndex) → part_role key streams ≡ Some (IsParent index) → ⊥
unfolding part_role
part-never key streams index is = go (not (length (stream 0 streams) == 0)) (nat_lt 1048576 (length (stream 1 streams))) (read_name key) (read_part_index (stream 2 streams)) is where
  go : (a b : Bool) (on : Option Name) (oi : Option PartIndex)
      → (if a then None else if b then None else option_and_then (λ name. option_and_then (λ index. if (index.signature == name.signature) && (index.key_len == length name.key) && is_covered index (length (stream 1 streams)) then Some (IsPart name index) else None) oi) on) ≡ Some (IsParent index) → ⊥
  go true b on oi h = no-role h
  go false true on oi h = no-role h
  go false false None oi h = no-role h
  go false false (Some m) None h = no-role h
  go false false (Some m) (Some i) h = tested ((i.signature == m.signature) && (i.key_len == length m.key) && is_covered i (length (stream 1 streams))) h where
    tested : (t : Bool) → ◌≡◌ {A = Option Role} (if t then Some (IsPart m i) else None) (Some (IsParent index)) → ⊥
    tested false e = no-role e
    tested true e = let r : IsPart m i ≡ IsParent index = cc in cc

parent-one : (i j : ParentIndex) → ◌≡◌ {A = Option Role} (Some (IsParent i)) (Some (IsParent j)) → i ≡ j
parent-one i j e = let r : IsParent i ≡ IsParent j = cc in cc

role-index : (e : RecordFields) (key : List ℕ) (streams : List (List ℕ)) (index : ParentIndex) → role_of e key streams ≡ Some (IsParent index) → read_parent_index (stream 2 streams) ≡ Some index
unfolding role_of parent_role
role-index e key streams index is = go (e.flags == parent) (e.flags == child) is where
  plain-no : ◌≡◌ {A = Option Role} (Some IsPlain) (Some (IsParent index)) → ⊥
  plain-no e = let r : IsPlain ≡ IsParent index = cc in cc

  inner : (b : Bool) (o : Option ParentIndex) → read_parent_index (stream 2 streams) ≡ o → (if b then None else option_and_then (λ i. if i.key_len == e.key_len then Some (IsParent i) else None) o) ≡ Some (IsParent index) → read_parent_index (stream 2 streams) ≡ Some index
  inner true o at h = absurd (no-role h)
  inner false None at h = absurd (no-role h)
  inner false (Some i) at h = tested (i.key_len == e.key_len) h where
    tested : (t : Bool) → ◌≡◌ {A = Option Role} (if t then Some (IsParent i) else None) (Some (IsParent index)) → read_parent_index (stream 2 streams) ≡ Some index
    tested true h = at ∙ ap (λ (x : ParentIndex). Some x) (parent-one i index h)
    tested false h = absurd (no-role h)

  go : (a b : Bool) → (if a then (if not (length (stream 1 streams) == 0) then None else option_and_then (λ i. if i.key_len == e.key_len then Some (IsParent i) else None) (read_parent_index (stream 2 streams))) else if b then part_role key streams else Some IsPlain) ≡ Some (IsParent index)
      → read_parent_index (stream 2 streams) ≡ Some index
  go true b h = inner (not (length (stream 1 streams) == 0)) (read_parent_index (stream 2 streams)) refl h
  go false true h = absurd (part-never key streams index h)
  go false false h = absurd (plain-no h)

role-of_part : (e : RecordFields) (key : List ℕ) (streams : List (List ℕ)) (name : Name) (index : PartIndex) → role_of e key streams ≡ Some (IsPart name index) → part_role key streams ≡ Some (IsPart name index)
unfolding role_of parent_role
role-of_part e key streams name index is = go (e.flags == parent) (e.flags == child) is where
  plain-no : ◌≡◌ {A = Option Role} (Some IsPlain) (Some (IsPart name index)) → ⊥
  plain-no e = let r : IsPlain ≡ IsPart name index = cc in cc

  parent-no : (i : ParentIndex) → ◌≡◌ {A = Option Role} (Some (IsParent i)) (Some (IsPart name index)) → ⊥
  parent-no i e = let r : IsParent i ≡ IsPart name index = cc in cc

  inner : (b : Bool) (o : Option ParentIndex) → (if b then None else option_and_then (λ i. if i.key_len == e.key_len then Some (IsParent i) else None) o) ≡ Some (IsPart name index) → ⊥
  inner true o h = no-role h
  inner false None h = no-role h
  inner false (Some i) h = tested (i.key_len == e.key_len) h where
    tested : (t : Bool) → ◌≡◌ {A = Option Role} (if t then Some (IsParent i) else None) (Some (IsPart name index)) → ⊥
    tested true h = parent-no i h
    tested false h = no-role h

  go : (a b : Bool) → (if a then (if not (length (stream 1 streams) == 0) then None else option_and_then (λ i. if i.key_len == e.key_len then Some (IsParent i) else None) (read_parent_index (stream 2 streams))) else if b then part_role key streams else Some IsPlain) ≡ Some (IsPart name index)
      → part_role key streams ≡ Some (IsPart name index)
  go true b h = absurd (inner (not (length (stream 1 streams) == 0)) (read_parent_index (stream 2 streams)) h)
  go false true h = h
  go false false h = absurd (plain-no h)

-- ---- rows

pub row-is : (image : Image) → AreBytes image → (rule : Rule) (w : ℕ) (k : Loaded) → load (store_of image) rule w ≡ Ok k → IsRow (row_of_loaded k)
unfolding IsRow is_key_length
row-is image are rule w k ok = load-then (store_of image) rule w k ok (λ n e f.
    let kept_key = key-data image are n.contents e k.key f.facts.keyed.key in
    let streams = streams-data image are e k.streams f.facts.streams in
    let lengths = and_parts _ _ (and_parts _ _ f.facts.keyed.key_length).0 in
    let some : 1 ≤ e.key_len = leb-true _ _ lengths.0 in
    let most : e.key_len ≤ longest_key_with e = leb-true _ _ lengths.1 in
    let flag : (e.flags == child) ≡ is_part_role k.role = role-part e k.key k.streams k.role f.facts.role in
    by-role e kept_key streams some most flag f.facts.role) where
      main-key : (e : RecordFields) → AreData e.key_len k.key → 1 ≤ e.key_len → e.key_len ≤ longest_key_with e → (e.flags == child) ≡ false → IsKey k.key
      main-key e kept_key some most flag =
          let long = kept_key.long in
          let short : e.key_len ≤ 32768 = subst (λ (b : Bool). e.key_len ≤ (if b then 32796 else 32768)) flag most in
          record { some = omega (arith, long, some); short = omega (arith, long, short); bytes = bytes-of k.key kept_key.small }

      by-role : (e : RecordFields) → AreData e.key_len k.key → AreStreams k.streams → 1 ≤ e.key_len → e.key_len ≤ longest_key_with e → (e.flags == child) ≡ is_part_role k.role → role_of e k.key k.streams ≡ Some k.role → IsRow (row_of_loaded k)
      by-role e kept_key streams some most flag role = go k.role refl flag where
        go : (r : Role) → k.role ≡ r → (e.flags == child) ≡ is_part_role k.role → IsRow (row_of_loaded k)
        go IsPlain is flag =
            let key = main-key e kept_key some most (flag ∙ ap is_part_role is) in
            rw is (key, (bytes-of (stream 0 k.streams) streams.first, bytes-of (stream 1 k.streams) streams.second, bytes-of (stream 2 k.streams) streams.third))
        go (IsParent index) is flag =
            let key = main-key e kept_key some most (flag ∙ ap is_part_role is) in
            let signature = signature-small (stream 2 k.streams) index (role-index e k.key k.streams index (role ∙ ap (λ (r : Role). Some r) is)) in
            rw is (key, (bytes-of (stream 0 k.streams) streams.first, bytes-of [] none-small, bytes-of [] none-small), signature, record { second = refl; third = refl })
        go (IsPart name index) is flag =
            let of : IsPartOf k.key k.streams name index = part-of k.key k.streams name index (role-of_part e k.key k.streams name index (role ∙ ap (λ (r : Role). Some r) is)) in
            let node_fields = name-key k.key name kept_key.small (read_name-IsName k.key name of.node_fields) in
            rw is (node_fields.0, node_fields.1, part-value k.streams k.key name index streams of)
