-- The index of a parent is read.
use Rattle.std.proofs.Common.{◌≡◌, ℕ, ◌+◌, ◌/◌, ◌%◌, ◌<◌, ◌≤◌, List, length, length-drop, take, take_all, drop, ap, sym, ◌∙◌, refl, subst, arith, Bool, true, false, ◌&&◌, Option, None, Some, ⊎_elim}
use Rattle.std.specs.Prelude.{◌==◌, get_or, nat_le, nat_lt, not, option_map, if◌then◌else◌}
use Rattle.std.specs.List.{list_any}
use Rattle.std.specs.Option.{ForSome, option_and_then}
use Rattle.std.specs.Int.{bit_at, cast_unsigned, w64}
use Rattle.std.proofs.lemmas.Bool.{cases_Bool, cases_lt, eqb-true, le-leb, le-ltb}
use Rattle.std.proofs.lemmas.List.{get_or-drop}
use Rattle.std.proofs.lemmas.List.Folds.{list_any_at}
use Rattle.std.proofs.lemmas.Nat.Bits.{bit_at-zero}
use Rattle.spec_image.specs.Bytes.{content}
use Rattle.spec_image.specs.Image.{Image}
use Rattle.spec_image.proofs.Runs.{some_inj}
use Rattle.spec_format.specs.Records.{child, parent}
use Rattle.spec_format.specs.SparseIndex.{ParentIndex, map_bit, read_parent_index}
use Rattle.spec_folder.specs.Entries.{IsParent, IsPlain, Role, parent_role, part_role, role_of, stored_streams, stream}
use Rattle.spec_folder.specs.Loads.{Loaded}
use Rattle.spec_folder.specs.View.{RecordFields, store_of}
use Rattle.law_folder.proofs.walks.Loads.{load-then}
use Rattle.law_folder.proofs.walks.Shown.{role-part}
use Rattle.blk_entry.specs.Keys.{IsPiece}
use Rattle.blk_ranges.specs.ParentMaps.{head_fields, read_parent_head}
use Rattle.blk_ranges.specs.declared.parent_map.ParentHead.{ParentHead}
use Rattle.blk_ranges.proofs.ParentIndexes.{index-read, with_bits}
use Rattle.blk_stream.specs.Streams.{streams_at}
use Rattle.blk_object.specs.Owning.{LoadsWith}
use Rattle.blk_sparse.specs.Dropping.{HasNoBit}
use Rattle.blk_sparse.proofs.NewBits.{index-parts}

none-some : {A : Type 0} {x : A} → ◌≡◌ {A = Option A} None (Some x) → ⊥
none-some e = cc

-- the streams of what loads with a record
pub streams-there : (image : Image) (entry : ℕ) (loaded : Loaded) → LoadsWith entry loaded image → streams_at image entry ≡ Some loaded.streams
unfolding streams_at store_of
streams-there image entry loaded w = load-then (store_of image) w.rule w.node loaded w.loads (λ n e f.
    let here : (store_of image).entry entry ≡ Some e = ap (store_of image).entry (sym w.contents ∙ f.facts.contents_is) ∙ f.entry in
    ap (option_and_then (stored_streams (store_of image))) here ∙ f.facts.streams)

parent-same : (i index : ParentIndex) → IsParent i ≡ IsParent index → i ≡ index
parent-same i index e = cc

-- the index of a parent's role is read from the third stream
parent-index : (e : RecordFields) (streams : List (List ℕ)) (index : ParentIndex) → parent_role e streams ≡ Some (IsParent index) → read_parent_index (stream 2 streams) ≡ Some index
unfolding parent_role
parent-index e streams index is = go (length (stream 1 streams) == 0) (read_parent_index (stream 2 streams)) is where
  tested : (t : Bool) (i : ParentIndex) → (if t then Some (IsParent i) else None) ≡ Some (IsParent index) → ◌≡◌ {A = Option ParentIndex} (Some i) (Some index)
  tested true i h = ap Some (parent-same i index (some_inj h))
  tested false i h = absurd (none-some h)

  go : (b : Bool) (o : Option ParentIndex) → (if not b then None else option_and_then (λ (x : ParentIndex). if x.key_len == e.key_len then Some (IsParent x) else None) o) ≡ Some (IsParent index) → o ≡ Some index
  go false o h = absurd (none-some h)
  go true None h = absurd (none-some h)
  go true (Some i) h = tested (i.key_len == e.key_len) i h

role-index : (e : RecordFields) (key : List ℕ) (streams : List (List ℕ)) (index : ParentIndex) → role_of e key streams ≡ Some (IsParent index) → read_parent_index (stream 2 streams) ≡ Some index
unfolding role_of
role-index e key streams index is = go (e.flags == parent) (e.flags == child) (role-part e key streams (IsParent index) is) is where
  go : (a b : Bool) → b ≡ false → (if a then parent_role e streams else if b then part_role key streams else Some IsPlain) ≡ Some (IsParent index) → read_parent_index (stream 2 streams) ≡ Some index
  go true b f h = parent-index e streams index h
  go false true f h = absurd (let z : true ≡ false = f in cc)
  go false false f h = absurd (let z : ◌≡◌ {A = Option Role} (Some IsPlain) (Some (IsParent index)) = h in cc)

pub index-there : (image : Image) (entry : ℕ) (loaded : Loaded) (index : ParentIndex) → LoadsWith entry loaded image → loaded.role ≡ IsParent index → read_parent_index (stream 2 loaded.streams) ≡ Some index
index-there image entry loaded index w role = load-then (store_of image) w.rule w.node loaded w.loads (λ n e f. role-index e loaded.key loaded.streams index (f.facts.role ∙ ap Some role))

-- the bytes of an index begin with its head
pub record IsHeadOf (bytes : List ℕ) (index : ParentIndex) : Type 0 where
  pub long : length bytes ≡ 8256
  pub head : (if nat_le 64 (length bytes) then read_parent_head (content bytes) else None) ≡ Some (index.signature, index.key_len)

head-of : (bytes : List ℕ) (index : ParentIndex) → read_parent_index bytes ≡ Some index → IsHeadOf bytes index
head-of bytes index is = go (length bytes == 8256) refl (read_parent_head (content bytes)) refl (sym (index-read bytes) ∙ is) where
  go : (t : Bool) → (length bytes == 8256) ≡ t → (o : Option (ℕ × ℕ)) → read_parent_head (content bytes) ≡ o → (if t then option_map (with_bits (content bytes)) o else None) ≡ Some index → IsHeadOf bytes index
  go false e o g h = absurd (none-some h)
  go true e None g h = absurd (none-some h)
  go true e (Some p) g h =
      let long : length bytes ≡ 8256 = eqb-true (length bytes) 8256 e in
      let same : with_bits (content bytes) p ≡ index = some_inj h in
      record {
        long = long;
        head = ap (λ (t : Bool). if t then read_parent_head (content bytes) else None) (le-leb 64 (length bytes) (omega (arith, long))) ∙ g ∙ ap (λ (i : ParentIndex). Some (i.signature, i.key_len)) same;
      }

-- what begins otherwise is no index
pub no-index : (bytes old new : List ℕ) (n : ℕ) → IsPiece bytes 0 old new n → 8256 ≤ length old → (read_head : Option ParentHead) → read_head ≡ None
    → option_map head_fields read_head ≡ (if nat_le 64 (length (take n new)) then read_parent_head (content (take n new)) else None) → read_parent_index bytes ≡ None
no-index bytes old new n p room read_head none is = go (read_parent_index bytes) refl where
  go : (o : Option ParentIndex) → read_parent_index bytes ≡ o → o ≡ None
  go None e = refl
  go (Some index) e =
      let head = head-of bytes index e in
      let long = head.long in
      let many = p.many in
      let whole : take n new ≡ bytes = p.front ∙ take_all n bytes (omega (arith, many, long, room)) in
      absurd (none-some (sym (ap (option_map head_fields) none) ∙ is ∙ ap (λ (bs : List ℕ). if nat_le 64 (length bs) then read_parent_head (content bs) else None) whole ∙ head.head))

-- no bit is set where the bytes after the head are 0
module _ (bytes : List ℕ) (index : ParentIndex) (is : read_parent_index bytes ≡ Some index) (none : list_any (λ byte. not (byte == 0)) (drop 64 bytes) ≡ false) where
  parts : (length bytes ≡ 8256) × ((k : ℕ) → index.has_part k ≡ (nat_lt k 65536 && map_bit (content bytes) 64 k))
  parts = index-parts bytes index is

  zero-byte : (i : ℕ) → i < 8192 → content bytes (64 + i) ≡ 0
  zero-byte i below = ⊎_elim
      (λ (e : (get_or (drop 64 bytes) i 0 == 0) ≡ true). sym (get_or-drop 64 bytes i 0) ∙ eqb-true (get_or (drop 64 bytes) i 0) 0 e)
      (λ (e : (get_or (drop 64 bytes) i 0 == 0) ≡ false).
      let long = parts.0 in
      let rest = length-drop 64 bytes in
      let some = list_any_at (λ byte. not (byte == 0)) (drop 64 bytes) i 0 (omega (arith, below, long, rest)) (ap not e) in
      absurd (let z : true ≡ false = sym some ∙ none in cc))
      (cases_Bool (get_or (drop 64 bytes) i 0 == 0))

  no-bits : HasNoBit index
  no-bits n = parts.1 n ∙ ⊎_elim
      (λ (low : n < 65536). ap (λ (byte : ℕ). nat_lt n 65536 && (bit_at byte (n % 8) == 1)) (zero-byte (n / 8) (omega (arith, low))) ∙ ap (λ (b : ℕ). nat_lt n 65536 && (b == 1)) (bit_at-zero (n % 8)) ∙ and-false (nat_lt n 65536))
      (λ (high : 65536 ≤ n). ap (λ (t : Bool). t && map_bit (content bytes) 64 n) (le-ltb n 65536 high))
      (cases_lt n 65536)
    where
      and-false : (t : Bool) → (t && false) ≡ false
      and-false true = refl
      and-false false = refl

-- what was read is the index
module _ (image : Image) (entry : ℕ) (loaded : Loaded) (index : ParentIndex) (w : LoadsWith entry loaded image) (role : loaded.role ≡ IsParent index) (old new : List ℕ) (n : ℕ) (room : 8256 ≤ length old) (piece : ForSome (streams_at image entry) (λ (streams : List (List ℕ)). IsPiece (stream 2 streams) 0 old new n)) where
  head : IsHeadOf (stream 2 loaded.streams) index
  head = head-of (stream 2 loaded.streams) index (index-there image entry loaded index w role)

  whole : take n new ≡ stream 2 loaded.streams
  whole =
      let p = piece loaded.streams (streams-there image entry loaded w) in
      let long = head.long in
      let many = p.many in
      p.front ∙ take_all n (stream 2 loaded.streams) (omega (arith, many, long, room))

  bytes-head : (if nat_le 64 (length (take n new)) then read_parent_head (content (take n new)) else None) ≡ Some (index.signature, index.key_len)
  bytes-head = ap (λ (bs : List ℕ). if nat_le 64 (length bs) then read_parent_head (content bs) else None) whole ∙ head.head

  pub none-read : (read_head : Option ParentHead) → read_head ≡ None → option_map head_fields read_head ≡ (if nat_le 64 (length (take n new)) then read_parent_head (content (take n new)) else None) → ⊥
  none-read read_head none is = none-some (sym (ap (option_map head_fields) none) ∙ is ∙ bytes-head)

  pub signature-read : (read_head : Option ParentHead) (found : ParentHead) → read_head ≡ Some found → option_map head_fields read_head ≡ (if nat_le 64 (length (take n new)) then read_parent_head (content (take n new)) else None) → index.signature ≡ cast_unsigned w64 found.signature
  signature-read read_head found some is = ap (λ (p : ℕ × ℕ). p.0) (some_inj (sym bytes-head ∙ sym is ∙ ap (option_map head_fields) some))

  -- where no byte after its head is set, no bit is
  pub no-bits-read : length new ≡ 8256 → list_any (λ byte. not (byte == 0)) (take 8192 (drop 64 new)) ≡ false → HasNoBit index
  no-bits-read long_new none = no-bits (stream 2 loaded.streams) index (index-there image entry loaded index w role)
      (subst (λ (bs : List ℕ). list_any (λ byte. not (byte == 0)) (drop 64 bs) ≡ false) all (ap (list_any (λ byte. not (byte == 0))) (sym behind) ∙ none))
    where
      all : new ≡ stream 2 loaded.streams
      all = let p = piece loaded.streams (streams-there image entry loaded w) in let long = head.long in let many = p.many in sym (take_all n new (omega (arith, many, long, room, long_new))) ∙ whole

      behind : take 8192 (drop 64 new) ≡ drop 64 new
      behind = take_all 8192 (drop 64 new) (let rest = length-drop 64 new in omega (arith, rest, long_new))
