-- The index of a parent: its head, and the bits of its parts.
use Rattle.std.proofs.Common.{◌≡◌, ◌≢◌, ℕ, ℤ, subst, zero, suc, ◌+◌, ◌-◌, ◌/◌, ◌%◌, ◌^◌, ◌<◌, ◌≤◌, List, [], ◌∷◌, ◌++◌, length, take, drop, replicate, set, Bool, true, false, ◌&&◌, ◌||◌, refl, sym, ap, ap₂, ◌∙◌, arith, w8, inl, inr, ⊎_elim, length-append, append_assoc, eqb, length-drop, length-take}
use Rattle.std.proofs.Math.ListN.{length-set}
use Rattle.std.proofs.lemmas.List.{get_or-set_same, get_or-set_other, get_or-append_right, take-append-drop, length-take-le, take_all, length-replicate}
use Rattle.std.specs.Prelude.{nat_lt, nat_le, ◌==◌, if◌then◌else◌, Option, Some, None, slice_index}
use Rattle.std.specs.Option.{option_map}
use Rattle.std.specs.Int.{bit_at, cast_signed, cast_unsigned, w32, w64}
use Rattle.std.proofs.lemmas.Int.{of_z-to_z}
use Rattle.blk_ranges.proofs.Indexes.{there_and_back}
use Rattle.std.proofs.lemmas.Bool.{cases_lt, lt-ltb, le-ltb, le-leb, eq-eqb, eqb-true}
use Rattle.std.proofs.lemmas.Bool.Decides.{eqb_tells}
use Rattle.std.proofs.lemmas.Nat.Bits.{bit_at_set_same, bit_at_set_other, bit_at-zero}
use Rattle.std.proofs.lemmas.Option.{cond_some}
use Rattle.spec_image.proofs.Splices.{content-zeros}
use Rattle.spec_image.specs.Bytes.{zeros, content, word_at, long_at, words_at}
use Rattle.blk_model.specs.Bytes.{overwritten}
use Rattle.spec_format.specs.Records.{bytes_of_words}
use Rattle.spec_format.specs.SparseIndex.{sparse_signature_of as signature_said, last_block_of, ParentIndex, read_parent_index, is_index_head, minus_one, map_bit, parent_key_len_of, last_block_len_of}
use Rattle.blk_ranges.specs.declared.parent_map.ParentHead.{ParentHead}
use Rattle.blk_ranges.specs.declared.parent_map.ParentMap.{ParentMap}
use Rattle.blk_ranges.specs.PartMaps.{head_words}
use Rattle.blk_ranges.specs.ParentMaps.{IsParentHead, OneByteAddsAPart, has_part_bit, head_bytes, head_fields, head_signature, no_parts, parent_bytes, parent_index_of, read_parent_head, with_part, with_part_bit}
use Rattle.blk_ranges.proofs.HeadBytes.{SaysHead, prefix-words, head-known, head-said, head-right, put-behind}
use borrow.Rule.Slice.PartMut.{put_mid, mid_of}

-- Heads.

-- bytes that say a head begin with its bytes
pub front-known : (head : ParentHead) (bytes : List ℕ) → ((i : ℕ) → content bytes i < 256) → 64 ≤ length bytes → is_index_head (content bytes) ≡ true
    → long_at (content bytes) 0 ≡ head_signature head → parent_key_len_of (content bytes) ≡ head.key_len → word_at (content bytes) 16 ≡ minus_one → last_block_len_of (content bytes) ≡ 0 → take 64 bytes ≡ head_bytes head
unfolding head_bytes
front-known head bytes small enough right signature key_len block len =
    prefix-words bytes 16 small enough ∙ ap bytes_of_words (head-known (content bytes) small right ∙ λ k. head_words (signature k) (key_len k) (block k) (len k))

-- bytes of which the words of a head were read begin with the bytes of that head
pub front-seen : (head : ParentHead) (bytes seen : List ℕ) (x y : ℤ) (len : ℕ) → seen ≡ bytes → ((i : ℕ) → content bytes i < 256) → 64 ≤ length bytes → is_index_head (content seen) ≡ true
    → head.signature ≡ cast_signed w64 (cast_unsigned w64 x) → x ≡ signature_said (content seen) → head.key_len ≡ parent_key_len_of (content seen)
    → y ≡ last_block_of (content seen) → cast_unsigned w32 y ≡ minus_one → len ≡ last_block_len_of (content seen) → len ≡ 0 → take 64 bytes ≡ head_bytes head
front-seen head bytes seen x y len same small enough right is_signature is_x key_len is_y none is_len no_piece =
    let f : ℕ → ℕ = content seen in
    let byte : (i : ℕ) → f i < 256 = λ i. subst (λ (bs : List ℕ). content bs i < 256) (sym same) (small i) in
    let word_fits : (i : ℕ) → word_at f i < 2 ^ 32 = λ i. omega (arith, byte i, byte (i + 1), byte (i + 2), byte (i + 3)) in
    let fits : long_at f 0 < 2 ^ 64 = omega (arith, word_fits 0, word_fits 4) in
    let signature : long_at f 0 ≡ head_signature head = sym (ap (cast_unsigned w64) is_signature ∙ there_and_back w64 (long_at f 0) x fits is_x) in
    let block : word_at f 16 ≡ minus_one = sym (of_z-to_z w32 (word_at f 16) (word_fits 16)) ∙ ap (cast_unsigned w32) (sym is_y) ∙ none in
    ap (take 64) (sym same) ∙ front-known head seen byte (omega (arith, ap length same)) right signature (sym key_len) block (sym is_len ∙ no_piece)

-- bytes that begin with the bytes of a head say it
pub head-read : (head : ParentHead) (rest : List ℕ) → IsParentHead head → read_parent_head (content (head_bytes head ++ rest)) ≡ Some (head_fields head)
unfolding head_bytes
head-read head rest valid =
    let f : ℕ → ℕ = content (head_bytes head ++ rest) in
    let said : SaysHead f (head_signature head) head.key_len minus_one 0 = head-said (head_signature head) head.key_len minus_one 0 rest (omega (arith, valid.signature)) (omega (arith, valid.key_short)) (omega arith) (omega arith) in
    let right : is_index_head f ≡ true = head-right said valid.signature valid.key_some valid.key_short in
    let block : (word_at f 16 == minus_one) ≡ true = eq-eqb (word_at f 16) minus_one said.block in
    let len : (last_block_len_of f == 0) ≡ true = eq-eqb (last_block_len_of f) 0 said.len in
    ap (λ (t : Bool). if t then Some (long_at f 0, parent_key_len_of f) else None) (all_of _ _ _ right block len) ∙ λ k. Some (said.signature k, said.key_len k)
  where
    all_of : (a b c : Bool) → a ≡ true → b ≡ true → c ≡ true → (a && b && c) ≡ true
    all_of a b c ha hb hc = rw (ha, hb, hc) refl

-- an index is a head and bits
abbrev pub with_bits : (ℕ → ℕ) → ℕ × ℕ → ParentIndex
with_bits f fields = record { signature = fields.0; key_len = fields.1; has_part = λ n. nat_lt n 65536 && map_bit f 64 n }

pub index-read : (bytes : List ℕ) → read_parent_index bytes ≡ (if length bytes == 8256 then option_map (with_bits (content bytes)) (read_parent_head (content bytes)) else None)
unfolding read_parent_index
index-read bytes = parts (length bytes == 8256) (is_index_head (content bytes)) (word_at (content bytes) 16 == minus_one) (last_block_len_of (content bytes) == 0)
  where
    parts : (a b c d : Bool) → (if a && b && c && d then Some (with_bits (content bytes) (long_at (content bytes) 0, parent_key_len_of (content bytes))) else None) ≡ (if a then option_map (with_bits (content bytes)) (if b && c && d then Some (long_at (content bytes) 0, parent_key_len_of (content bytes)) else None) else None)
    parts false b c d = refl
    parts true false c d = refl
    parts true true false d = refl
    parts true true true false = refl
    parts true true true true = refl

-- too few or too many bytes
pub no-index : (bytes : List ℕ) → (length bytes == 8256) ≡ false → None ≡ read_parent_index bytes
no-index bytes other = sym (index-read bytes ∙ ap (λ (t : Bool). if t then option_map (with_bits (content bytes)) (read_parent_head (content bytes)) else None) other)

-- another head
pub no-head : (bytes : List ℕ) → length bytes ≡ 8256 → None ≡ (if nat_le 64 (length bytes) then read_parent_head (content bytes) else None) → None ≡ read_parent_index bytes
no-head bytes enough none =
    let size : (length bytes == 8256) ≡ true = eq-eqb (length bytes) 8256 enough in
    let long : nat_le 64 (length bytes) ≡ true = le-leb 64 (length bytes) (omega arith) in
    let head : read_parent_head (content bytes) ≡ None = sym (none ∙ ap (λ (t : Bool). if t then read_parent_head (content bytes) else None) long) in
    sym (index-read bytes ∙ ap (λ (t : Bool). if t then option_map (with_bits (content bytes)) (read_parent_head (content bytes)) else None) size ∙ ap (option_map (with_bits (content bytes))) head)

-- the bits after a prefix
same-bits : (m : ParentMap) (bytes front : List ℕ) → length front ≡ 64 → bytes ≡ front ++ m.parts → (fields : ℕ × ℕ) → fields ≡ head_fields m.head → with_bits (content bytes) fields ≡ parent_index_of m
unfolding parent_index_of
same-bits m bytes front long is fields are =
    let byte : (n : ℕ) → content bytes (64 + n / 8) ≡ slice_index m.parts (n / 8) = λ n. ap (λ (bs : List ℕ). content bs (64 + n / 8)) is ∙ behind n in
    let part : (n : ℕ) → (nat_lt n 65536 && map_bit (content bytes) 64 n) ≡ (nat_lt n 65536 && has_part_bit (slice_index m.parts (n / 8)) n) = λ n. ap (λ (b : ℕ). nat_lt n 65536 && (bit_at b (n % 8) == 1)) (byte n) in
    λ k. record { signature = (are k).0; key_len = (are k).1; has_part = λ n. part n k }
  where
    behind : (n : ℕ) → content (front ++ m.parts) (64 + n / 8) ≡ slice_index m.parts (n / 8)
    behind n =
        let at : 64 + n / 8 - 64 ≡ n / 8 = omega arith in
        get_or-append_right front m.parts 64 (64 + n / 8) 0 long (omega arith) ∙ ap (slice_index m.parts) at

-- a head and bits that were read
pub parts-read : (m : ParentMap) (bytes : List ℕ) → length bytes ≡ 8256 → Some (head_fields m.head) ≡ (if nat_le 64 (length bytes) then read_parent_head (content bytes) else None) → m.parts ≡ drop 64 bytes
    → ◌≡◌ {A = Option ParentIndex} (Some (parent_index_of m)) (read_parent_index bytes)
parts-read m bytes enough head parts =
    let size : (length bytes == 8256) ≡ true = eq-eqb (length bytes) 8256 enough in
    let long : nat_le 64 (length bytes) ≡ true = le-leb 64 (length bytes) (omega arith) in
    let fields : read_parent_head (content bytes) ≡ Some (head_fields m.head) = sym (head ∙ ap (λ (t : Bool). if t then read_parent_head (content bytes) else None) long) in
    let whole : bytes ≡ take 64 bytes ++ m.parts = sym (take-append-drop 64 bytes) ∙ ap (λ (l : List ℕ). take 64 bytes ++ l) (sym parts) in
    let front : length (take 64 bytes) ≡ 64 = length-take-le 64 bytes (omega arith) in
    sym (index-read bytes ∙ ap (λ (t : Bool). if t then option_map (with_bits (content bytes)) (read_parent_head (content bytes)) else None) size
    ∙ ap (option_map (with_bits (content bytes))) fields ∙ ap Some (same-bits m bytes (take 64 bytes) front whole (head_fields m.head) refl))

length-head : (head : ParentHead) → length (head_bytes head) ≡ 64
unfolding head_bytes
length-head head = refl

-- a head and bits that are printed
pub index-printed : (m : ParentMap) → IsParentHead m.head → length m.parts ≡ 8192 → read_parent_index (parent_bytes m) ≡ Some (parent_index_of m)
unfolding parent_bytes
index-printed m valid long =
    let bytes : List ℕ = parent_bytes m in
    let front : length (head_bytes m.head) ≡ 64 = length-head m.head in
    let size : (length bytes == 8256) ≡ true = eq-eqb (length bytes) 8256 (omega (arith, length-append (head_bytes m.head) m.parts, front, long)) in
    index-read bytes ∙ ap (λ (t : Bool). if t then option_map (with_bits (content bytes)) (read_parent_head (content bytes)) else None) size
    ∙ ap (option_map (with_bits (content bytes))) (head-read m.head m.parts valid) ∙ ap Some (same-bits m bytes (head_bytes m.head) front refl (head_fields m.head) refl)

-- what comes after the head
pub chunk-is : (bytes chunk : List ℕ) → length bytes ≡ 8256 → chunk ≡ take 8192 (take (length bytes - 64) (drop 64 bytes)) → chunk ≡ drop 64 bytes
chunk-is bytes chunk enough is =
    let long : length (drop 64 bytes) ≡ 8192 = omega (arith, length-drop 64 bytes) in
    let whole : take (length bytes - 64) (drop 64 bytes) ≡ drop 64 bytes = take_all (length bytes - 64) (drop 64 bytes) (omega arith) in
    is ∙ ap (take 8192) whole ∙ take_all 8192 (drop 64 bytes) (omega arith)

-- an index that is put together
pub put-index : (m : ParentMap) (words parts out : List ℕ) → words ≡ head_words (head_signature m.head) m.head.key_len minus_one 0 → parts ≡ m.parts → length out ≡ 8256 → put_mid 64 8192 (bytes_of_words words ++ drop 64 (drop 0 out)) parts ≡ parent_bytes m
unfolding parent_bytes head_bytes
put-index m words parts out is_head is_parts long =
    let rest : List ℕ = drop 64 (drop 0 out) in
    let whole : 64 + 8192 ≡ length (head_bytes m.head ++ rest) = omega (arith, length-append (head_bytes m.head) rest, length-head m.head, length-drop 64 out) in
    ap₂ (λ (h p : List ℕ). put_mid 64 8192 (bytes_of_words h ++ rest) p) is_head is_parts ∙ put-behind 64 8192 (head_bytes m.head ++ rest) m.parts whole

-- all its bits
pub parts-long : (m : ParentMap) (words dst out parts : List ℕ) → dst ≡ bytes_of_words words → words ≡ head_words (head_signature m.head) m.head.key_len minus_one 0 → length out ≡ 8256 → length parts ≡ length (mid_of 64 8192 (dst ++ drop 64 (drop 0 out))) → parts ≡ m.parts → length m.parts ≡ 8192
parts-long m words dst out parts is_dst is_words long size is =
    let front : length dst ≡ 64 = ap length (is_dst ∙ ap bytes_of_words is_words) in
    ap length (sym is) ∙ size ∙ omega (arith, length-take 8192 (drop 64 (dst ++ drop 64 (drop 0 out))), length-drop 64 (dst ++ drop 64 (drop 0 out)), length-append dst (drop 64 (drop 0 out)), length-drop 64 out, front)

-- a head with zeros after it
abbrev bare : ParentHead → ℕ → ParentMap
bare head n = record { head = head; parts = replicate n 0 }

bare-index : (head : ParentHead) (n : ℕ) → parent_index_of (bare head n) ≡ no_parts (head_signature head) head.key_len
unfolding parent_index_of zeros
bare-index head n =
    let part : (k : ℕ) → (nat_lt k 65536 && has_part_bit (slice_index (replicate n 0) (k / 8)) k) ≡ false = λ k. no-bit (nat_lt k 65536) (slice_index (replicate n 0) (k / 8)) (k % 8) (content-zeros n (k / 8)) in
    λ j. record { signature = head_signature head; key_len = head.key_len; has_part = λ k. part k j }
  where
    no-bit : (b : Bool) (x k : ℕ) → x ≡ 0 → (b && (bit_at x k == 1)) ≡ false
    no-bit true x k e = ap (λ (z : ℕ). bit_at z k == 1) e ∙ ap (λ (z : ℕ). z == 1) (bit_at-zero k)
    no-bit false x k e = refl

-- an index of a parent without a bit has no parts
pub no-parts : (head : ParentHead) → IsParentHead head → read_parent_index (head_bytes head ++ replicate 8192 0) ≡ Some (no_parts (head_signature head) head.key_len)
unfolding parent_bytes
no-parts head valid = index-printed (bare head 8192) valid (length-replicate {A = ℕ} 8192 0) ∙ ap Some (bare-index head 8192)

-- A part that is added.

-- a byte written over others is set
over-set : (xs : List ℕ) (i b : ℕ) → i < length xs → overwritten xs i (b ∷ []) ≡ set xs i b
over-set xs i b inside =
    let none : i - length xs ≡ 0 = omega arith in
    let flat : take i xs ++ replicate 0 0 ++ (b ∷ []) ++ drop (i + 1) xs ≡ take i xs ++ b ∷ drop (i + 1) xs = simp append_assoc in
    ap (λ (k : ℕ). take i xs ++ replicate k 0 ++ (b ∷ []) ++ drop (i + 1) xs) none ∙ flat ∙ split xs i inside
  where
    split : (xs : List ℕ) (i : ℕ) → i < length xs → take i xs ++ b ∷ drop (i + 1) xs ≡ set xs i b
    split [] i inside = absurd (omega arith)
    split (x ∷ xs) zero inside = refl
    split (x ∷ xs) (suc i) inside =
        let next : suc i + 1 ≡ suc (i + 1) = omega arith in
        ap (λ (k : ℕ). x ∷ (take i xs ++ b ∷ drop k (x ∷ xs))) next ∙ ap (λ (l : List ℕ). x ∷ l) (split xs i (omega arith))

-- what a head is read from
abbrev head-part : (ℕ → ℕ) → ℕ → ℕ
head-part f i = if nat_lt i 64 then f i else 0

heads-same : (f g : ℕ → ℕ) → ((i : ℕ) → i < 64 → g i ≡ f i) → head-part g ≡ head-part f
heads-same f g same = λ j i. at i j
  where
    at : (i : ℕ) → head-part g i ≡ head-part f i
    at i = elim (cases_lt i 64) [
      | inl below ↦ ap (λ (x : ℕ). if nat_lt i 64 then x else 0) (same i below)
      | inr above ↦ let no_more : nat_lt i 64 ≡ false = le-ltb i 64 above in rw no_more refl
    ]

-- a head is the same where what it is read from is the same
head-same : (f g : ℕ → ℕ) → head-part g ≡ head-part f → is_index_head g ≡ is_index_head f
unfolding words_at
head-same f g same = ap is_index_head same

-- the bits of bytes of which one has a part more
bits-added : (place : ℕ → ℕ) → ((q r : ℕ) → place q ≡ place r → q ≡ r) → (f g : ℕ → ℕ) (n k : ℕ) → n < 65536 → ((i : ℕ) → i ≢ place (n / 8) → g i ≡ f i) → g (place (n / 8)) ≡ with_part_bit (f (place (n / 8))) n
    → (nat_lt k 65536 && has_part_bit (g (place (k / 8))) k) ≡ ((k == n) || (nat_lt k 65536 && has_part_bit (f (place (k / 8))) k))
bits-added place apart f g n k small elsewhere here = ⊎_elim
    (λ (e : (eqb k n ≡ true) × (k ≡ n)).
    let below : nat_lt k 65536 ≡ true = lt-ltb k 65536 (omega (arith, e.1)) in
    let set_bit : has_part_bit (g (place (n / 8))) n ≡ true = ap (λ (x : ℕ). bit_at x (n % 8) == 1) here ∙ ap (λ (x : ℕ). x == 1) (bit_at_set_same w8 (f (place (n / 8))) (n % 8) (omega arith)) in
    let there : has_part_bit (g (place (k / 8))) k ≡ true = ap (λ (j : ℕ). has_part_bit (g (place (j / 8))) j) e.1 ∙ set_bit in
    ap₂ (λ (a b : Bool). a && b) below there ∙ ap (λ (t : Bool). t || (nat_lt k 65536 && has_part_bit (f (place (k / 8))) k)) (sym e.0))
    (λ (e : (eqb k n ≡ false) × (k ≢ n)).
    ap (λ (t : Bool). nat_lt k 65536 && t) (⊎_elim
    (λ (q : (eqb (k / 8) (n / 8) ≡ true) × (k / 8 ≡ n / 8)).
    let other : k % 8 ≢ n % 8 = λ r. e.1 (omega (arith, q.1)) in
    let bit : bit_at (with_part_bit (f (place (n / 8))) n) (k % 8) ≡ bit_at (f (place (n / 8))) (k % 8) = bit_at_set_other w8 (f (place (n / 8))) (n % 8) (omega arith) (k % 8) other in
    ap (λ (i : ℕ). bit_at (g (place i)) (k % 8) == 1) q.1 ∙ ap (λ (x : ℕ). bit_at x (k % 8) == 1) here ∙ ap (λ (x : ℕ). x == 1) bit ∙ ap (λ (i : ℕ). bit_at (f (place i)) (k % 8) == 1) (sym q.1))
    (λ (q : (eqb (k / 8) (n / 8) ≡ false) × (k / 8 ≢ n / 8)). ap (λ (x : ℕ). bit_at x (k % 8) == 1) (elsewhere (place (k / 8)) (λ r. q.1 (apart (k / 8) (n / 8) r))))
    (eqb_tells (k / 8) (n / 8)))
    ∙ ap (λ (t : Bool). t || (nat_lt k 65536 && has_part_bit (f (place (k / 8))) k)) (sym e.0))
    (eqb_tells k n)

-- a map with one bit more
pub part-added : (m : ParentMap) (n byte : ℕ) → n < 65536 → length m.parts ≡ 8192 → byte ≡ with_part_bit (slice_index m.parts (n / 8)) n → parent_index_of (record { head = m.head; parts = set m.parts (n / 8) byte }) ≡ with_part (parent_index_of m) n
unfolding parent_index_of
part-added m n byte small long is =
    let new : List ℕ = set m.parts (n / 8) byte in
    let here : slice_index new (n / 8) ≡ with_part_bit (slice_index m.parts (n / 8)) n = get_or-set_same m.parts (n / 8) byte 0 (omega arith) ∙ is in
    let bits : (k : ℕ) → (nat_lt k 65536 && has_part_bit (slice_index new (k / 8)) k) ≡ ((k == n) || (nat_lt k 65536 && has_part_bit (slice_index m.parts (k / 8)) k)) =
    λ k. bits-added (λ (q : ℕ). q) (λ q r e. e) (λ (i : ℕ). slice_index m.parts i) (λ (i : ℕ). slice_index new i) n k small (λ i apart. get_or-set_other m.parts (n / 8) i byte 0 apart) here in
    λ j. record { signature = head_signature m.head; key_len = m.head.key_len; has_part = λ k. bits k j }

pub adds-a-part : OneByteAddsAPart
unfolding read_parent_index words_at
adds-a-part bytes index n is small =
    let f : ℕ → ℕ = content bytes in
    let parts = cond_some ((length bytes == 8256) && is_index_head f && (word_at f 16 == minus_one) && (last_block_len_of f == 0)) (record { signature = long_at f 0; key_len = parent_key_len_of f; has_part = λ k. nat_lt k 65536 && map_bit f 64 k }) index is in
    let size : length bytes ≡ 8256 = eqb-true (length bytes) 8256 (and-first (length bytes == 8256) _ (and-first ((length bytes == 8256) && is_index_head f) _ (and-first ((length bytes == 8256) && is_index_head f && (word_at f 16 == minus_one)) _ parts.0))) in
    let inside : 64 + n / 8 < length bytes = omega (arith, size) in
    let byte : ℕ = with_part_bit (slice_index bytes (64 + n / 8)) n in
    let new : List ℕ = set bytes (64 + n / 8) byte in
    let g : ℕ → ℕ = content new in
    let elsewhere : (i : ℕ) → i ≢ 64 + n / 8 → g i ≡ f i = λ i apart. get_or-set_other bytes (64 + n / 8) i byte 0 apart in
    let here : g (64 + n / 8) ≡ byte = get_or-set_same bytes (64 + n / 8) byte 0 inside in
    let head : head-part g ≡ head-part f = heads-same f g (λ i below. elsewhere i (λ e. omega arith)) in
    let tests : ((length new == 8256) && is_index_head g && (word_at g 16 == minus_one) && (last_block_len_of g == 0)) ≡ true =
    ap₂ (λ (l : ℕ) (h : ℕ → ℕ). (l == 8256) && is_index_head h && (word_at h 16 == minus_one) && (last_block_len_of h == 0)) (length-set bytes (64 + n / 8) byte) head ∙ parts.0 in
    ap read_parent_index (over-set bytes (64 + n / 8) byte inside)
    ∙ ap (λ (t : Bool). if t then Some (record { signature = long_at g 0; key_len = parent_key_len_of g; has_part = λ k. nat_lt k 65536 && map_bit g 64 k }) else None) tests
    ∙ ap Some (λ j. record { signature = long_at (head j) 0; key_len = parent_key_len_of (head j); has_part = λ k. bits-added (λ (q : ℕ). 64 + q) (λ q r e. omega arith) f g n k small elsewhere here j })
    ∙ ap (λ (x : ParentIndex). Some (with_part x n)) parts.1
  where
    and-first : (a b : Bool) → (a && b) ≡ true → a ≡ true
    and-first true b e = refl
    and-first false b e = e
