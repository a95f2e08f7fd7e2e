-- A change of bytes that a footprint of blocks contains is a change of the view inside that footprint.
use Rattle.std.proofs.Common.{◌≡◌, ℕ, zero, suc, ◌+◌, ◌-◌, ◌*◌, ◌/◌, ◌<◌, ◌≤◌, ◌≢◌, List, [], map, refl, ap, sym, ◌∙◌, subst, arith, ◌⊎◌, inl, inr, ⊎_elim, Bool, true, false, Option, Some, None}
use Rattle.std.specs.Prelude.{if◌then◌else◌, ◌&&◌, ◌==◌, nat_le, nat_lt, not, is_some}
use Rattle.std.specs.List.{range_with_len}
use Rattle.std.proofs.lemmas.Bool.{eqb-true, eq-eqb, cases_Bool, cases_lt, and_parts, or_parts, or_left, or_right, lt-ltb, le-ltb, le-leb, leb-true, false_from_ne_true, not-false}
use Rattle.std.specs.Cmp.Derive.{both_true}
use Rattle.std.proofs.Math.Nat.{mul-le-mul_left}
use Rattle.spec_image.specs.Bytes.{word_at}
use Rattle.spec_image.specs.Image.{Index, Block, External, Image, byte, length_of, has_file}
use Rattle.spec_image.specs.Footprint as files
use Rattle.spec_image.proofs.Words.{SameFrom, same-range}
use Rattle.spec_image.proofs.Footprints.{same_file_outside}
use Rattle.spec_format.specs.Address.{is_initialized, is_address, kind_of, block_count, file_selector, first_block, external_number, place, byte_size, block_place, block_size, external, rankings, blocks_256}
use Rattle.spec_format.specs.Storage.{is_storage, entry_blocks}
use Rattle.spec_format.specs.Standing.{is_linked_as, stands, stands_as_blocks}
use Rattle.spec_format.specs.Records.{Node, Entry, node_checks}
use Rattle.spec_format.specs.BlockFiles.{linked, files_along, next_file_in, max_entries_in, kind_among, linked_as, stands_in, stands_in_blocks}
use Rattle.spec_format.specs.Claims.{Claim, BlockOf, ExternalOf, same_claim, claims_of, has_claim}
use Rattle.spec_folder.specs.View.{stands_as, block_bytes, node_at, entry_at, NodeFields, RecordFields, fields_of, checks_at, next_at, prev_at, list_of, node_fields_at, fields_at, follow_at, key_place_at, stored_at, store_of, view_of}
use Rattle.spec_folder.specs.Entries.{is_key_length, longest_key_with}
use Rattle.spec_folder.specs.Footprint.{IsClear, SameStore, SameLinks, SameBut, Covers, is_there, AgreeBut, is_past}
use Rattle.spec_format.specs.Headers.{is_shown_place, is_extent_place}
use Rattle.spec_folder.specs.Sound.{AreLongEnough}
use Rattle.law_folder.specs.ByteLaws.{BlocksStandByTheirLast}
use Rattle.spec_format.specs.Growth.{HaveGrown}
use Rattle.law_folder.proofs.states.Laid.{same_claim-self}
use Rattle.law_folder.proofs.claims.ClaimLists.{claim-head, some-blocks}
use Rattle.law_folder.proofs.claims.BlockBytes.{part_of, same-node_in, same-entry_in, same_under, same_else, room_is, storage_inside, not_same}

claim-range : (f from n b : ℕ) → from ≤ b → b < from + n → has_claim (map (λ x. BlockOf f x) (range_with_len from n)) (BlockOf f b) ≡ true
claim-range f from zero b low high = absurd (omega arith)
claim-range f from (suc n) b low high =
    claim-head (BlockOf f from) (map (λ x. BlockOf f x) (range_with_len (from + 1) n)) (BlockOf f b) ∙
    ⊎_elim
    (λ (e : from < b). or_right (same_claim (BlockOf f b) (BlockOf f from)) (has_claim (map (λ x. BlockOf f x) (range_with_len (from + 1) n)) (BlockOf f b)) (claim-range f (from + 1) n b (omega arith) (omega arith)))
    (λ (e : b ≤ from). let s : b ≡ from = omega arith in or_left (same_claim (BlockOf f b) (BlockOf f from)) (has_claim (map (λ x. BlockOf f x) (range_with_len (from + 1) n)) (BlockOf f b)) (rw s (same_claim-self (BlockOf f from))))
    (cases_lt from b)

pub not_equal : (m n : ℕ) → m ≢ n → (m == n) ≡ false
not_equal m n apart = false_from_ne_true (m == n) (λ e. apart (eqb-true m n e))

-- each block of an address is used by it
pub block-claim : (w b : ℕ) → w ≢ 0 → kind_of w ≢ external → first_block w ≤ b → b < first_block w + block_count w → has_claim (claims_of w) (BlockOf (file_selector w) b) ≡ true
unfolding claims_of
block-claim w b some apart low high =
    let z : (w == 0) ≡ false = not_equal w 0 some in
    let k : (kind_of w == external) ≡ false = not_equal (kind_of w) external apart in
    rw (z, k) (claim-range (file_selector w) (first_block w) (block_count w) b low high)

-- and so is an external number
external-claim : (w : ℕ) → w ≢ 0 → kind_of w ≡ external → has_claim (claims_of w) (ExternalOf (external_number w)) ≡ true
unfolding claims_of
external-claim w some is =
    let z : (w == 0) ≡ false = not_equal w 0 some in
    let k : (kind_of w == external) ≡ true = eq-eqb (kind_of w) external is in
    rw (z, k) (claim-head (ExternalOf (external_number w)) [] (ExternalOf (external_number w)) ∙ or_left (same_claim (ExternalOf (external_number w)) (ExternalOf (external_number w))) (has_claim [] (ExternalOf (external_number w))) (same_claim-self (ExternalOf (external_number w))))

-- the word 0 is no address
zero-no_address : is_address 0 ≡ false
unfolding is_address is_initialized
zero-no_address = refl

and_under : (b x z : Bool) → (b ≡ true → x ≡ z) → (b && x) ≡ (b && z)
and_under true x z f = f refl
and_under false x z f = refl

-- the block of a size in which a place after the header lies
block-at : (size k : ℕ) → (size ≡ 36) ⊎ (size ≡ 256) ⊎ (size ≡ 1024) ⊎ (size ≡ 4096) → 8192 ≤ k → (8192 + (k - 8192) / size * size ≤ k) × (k < 8192 + ((k - 8192) / size + 1) * size)
block-at size k (inl e) suffix = rw e (omega arith, omega arith)
block-at size k (inr (inl e)) suffix = rw e (omega arith, omega arith)
block-at size k (inr (inr (inl e))) suffix = rw e (omega arith, omega arith)
block-at size k (inr (inr (inr e))) suffix = rw e (omega arith, omega arith)

block-within : (size k first count : ℕ) → (size ≡ 36) ⊎ (size ≡ 256) ⊎ (size ≡ 1024) ⊎ (size ≡ 4096) → 8192 + first * size ≤ k → k < 8192 + first * size + count * size → (first ≤ (k - 8192) / size) × ((k - 8192) / size < first + count)
block-within size k first count (inl e) low high = let l : 8192 + first * 36 ≤ k = rw e at low in let h : k < 8192 + first * 36 + count * 36 = rw e at high in rw e (omega arith, omega arith)
block-within size k first count (inr (inl e)) low high = let l : 8192 + first * 256 ≤ k = rw e at low in let h : k < 8192 + first * 256 + count * 256 = rw e at high in rw e (omega arith, omega arith)
block-within size k first count (inr (inr (inl e))) low high = let l : 8192 + first * 1024 ≤ k = rw e at low in let h : k < 8192 + first * 1024 + count * 1024 = rw e at high in rw e (omega arith, omega arith)
block-within size k first count (inr (inr (inr e))) low high = let l : 8192 + first * 4096 ≤ k = rw e at low in let h : k < 8192 + first * 4096 + count * 4096 = rw e at high in rw e (omega arith, omega arith)

pub size-is : (kind : ℕ) → (block_size kind ≡ 36) ⊎ (block_size kind ≡ 256) ⊎ (block_size kind ≡ 1024) ⊎ (block_size kind ≡ 4096)
unfolding block_size
size-is kind = go (kind == rankings) (kind == blocks_256) (kind == 3) where
  size : Bool → Bool → Bool → ℕ
  size a b c = if a then 36 else if b then 256 else if c then 1024 else 4096

  go : (a b c : Bool) → (size a b c ≡ 36) ⊎ (size a b c ≡ 256) ⊎ (size a b c ≡ 1024) ⊎ (size a b c ≡ 4096)
  go true b c = inl refl
  go false true c = inr (inl refl)
  go false false true = inr (inr (inl refl))
  go false false false = inr (inr (inr refl))

-- the key place of a record with a short key lies inside its blocks
short_key : (n b : ℕ) → n ≤ 927 → (n < 160) ⊎ (160 ≤ n) → b ≡ (if nat_lt n 160 then 1 else if nat_le n 927 then (n - 160) / 256 + 2 else 1) → 96 + n ≤ b * 256
short_key n b short (inl small) e = let is : nat_lt n 160 ≡ true = lt-ltb n 160 small in let one : b ≡ 1 = rw is at e in omega arith
short_key n b short (inr large) e = let is : nat_lt n 160 ≡ false = le-ltb n 160 large in let in_place : nat_le n 927 ≡ true = le-leb n 927 short in let some : b ≡ (n - 160) / 256 + 2 = rw (is, in_place) at e in omega arith

key_inside : (n b : ℕ) → n ≤ 927 → (b == entry_blocks n) ≡ true → 96 + n ≤ b * 256
unfolding entry_blocks
key_inside n b short count = short_key n b short (cases_lt n 160) (eqb-true b _ count)

key_blocks : (w : ℕ) (e : RecordFields) → is_key_length w e ≡ true → (block_count w == entry_blocks e.key_len) ≡ true
unfolding is_key_length
key_blocks w e h = (and_parts (nat_le 1 e.key_len && nat_le e.key_len (longest_key_with e)) (block_count w == entry_blocks e.key_len) h).1

-- what names a record is valid
record_stands : (image : Image) (w : ℕ) (e : RecordFields) → fields_at image w ≡ Some e → stands_as image blocks_256 w ≡ true
unfolding fields_at
record_stands image w e is = ⊎_elim
    (λ (s : stands_as image blocks_256 w ≡ true). s)
    (λ (s : stands_as image blocks_256 w ≡ false). let none : ◌≡◌ {A = Option RecordFields} None (Some e) = rw s at is in absurd (cc))
    (cases_Bool (stands_as image blocks_256 w))

-- a file is linked as one of the kind of a valid address of blocks
pub linked-some : (o : Option ℕ) (kind : ℕ) → is_linked_as o kind ≡ true → o ≡ Some kind
linked-some None kind e = absurd (let z : false ≡ true = e in cc)
linked-some (Some k) kind e = ap Some (eqb-true k kind e)

module _ (image : Image) (w : ℕ) (st : stands_in image w ≡ true) where
  pub stands-address : is_address w ≡ true
  unfolding stands
  stands-address = (and_parts (is_address w) _ st).0

  pub stands-some : w ≢ 0
  stands-some e = let a : is_address 0 ≡ true = ap is_address (sym e) ∙ stands-address in let c : false ≡ true = sym zero-no_address ∙ a in cc

  pub stands-blocks : kind_of w ≢ external → stands_in_blocks image w ≡ true
  unfolding stands
  stands-blocks apart =
      let b = (and_parts (is_address w) (if kind_of w == external then has_file image (External (external_number w)) else stands_in_blocks image w) st).1 in
      let k : (kind_of w == external) ≡ false = not_equal (kind_of w) external apart in
      rw k at b

  pub stands-linked : kind_of w ≢ external → linked_as image (file_selector w) ≡ Some (kind_of w)
  unfolding stands_as_blocks
  stands-linked apart = linked-some (linked_as image (file_selector w)) (kind_of w) (and_parts (is_linked_as (linked_as image (file_selector w)) (kind_of w)) _ (and_parts (is_linked_as (linked_as image (file_selector w)) (kind_of w) && nat_le (first_block w + block_count w) (max_entries_in image (file_selector w))) _ (stands-blocks apart)).0).0

-- where the bytes of a valid address end
ends-at : (w : ℕ) → place w + byte_size w ≡ block_place (kind_of w) (first_block w + block_count w)
unfolding place block_place
ends-at w = ap (λ (r : ℕ). 8192 + first_block w * block_size (kind_of w) + r) (room_is w (kind_of w) refl) ∙ spread (block_size (kind_of w)) (first_block w) (block_count w) (size-is (kind_of w)) where
  spread : (size first count : ℕ) → (size ≡ 36) ⊎ (size ≡ 256) ⊎ (size ≡ 1024) ⊎ (size ≡ 4096) → 8192 + first * size + count * size ≡ 8192 + (first + count) * size
  spread size first count (inl e) = rw e (omega arith)
  spread size first count (inr (inl e)) = rw e (omega arith)
  spread size first count (inr (inr (inl e))) = rw e (omega arith)
  spread size first count (inr (inr (inr e))) = rw e (omega arith)

-- places of blocks rise
pub places-rise : (kind less more : ℕ) → less ≤ more → block_place kind less ≤ block_place kind more
unfolding block_place
places-rise kind less more rises = let p : block_size kind * less ≤ block_size kind * more = mul-le-mul_left (block_size kind) rises in omega arith

-- blocks are valid where their last one is there
pub last-there : BlocksStandByTheirLast
unfolding stands_as_blocks is_there
last-there image w =
    let some : 0 < block_count w = some-blocks w in
    let last : first_block w + block_count w - 1 + 1 ≡ first_block w + block_count w = omega arith in
    rw (last, ends-at w) refl

-- where blocks are valid all of them are there
pub all-there : (image : Image) (w b : ℕ) → stands_in_blocks image w ≡ true → b < first_block w + block_count w → is_there image (file_selector w) (kind_of w) b ≡ true
unfolding stands_as_blocks is_there
all-there image w b st below =
    let p = and_parts (is_linked_as (linked_as image (file_selector w)) (kind_of w) && nat_le (first_block w + block_count w) (max_entries_in image (file_selector w))) _ st in
    let q = and_parts (is_linked_as (linked_as image (file_selector w)) (kind_of w)) (nat_le (first_block w + block_count w) (max_entries_in image (file_selector w))) p.0 in
    let most : first_block w + block_count w ≤ max_entries_in image (file_selector w) = leb-true _ _ q.1 in
    let ends : place w + byte_size w ≤ length_of image (Block (file_selector w)) = leb-true _ _ p.1 in
    let rises : block_place (kind_of w) (b + 1) ≤ block_place (kind_of w) (first_block w + block_count w) = places-rise (kind_of w) (b + 1) (first_block w + block_count w) (omega arith) in
    let ends_at : place w + byte_size w ≡ block_place (kind_of w) (first_block w + block_count w) = ends-at w in
    both_true (both_true q.0 (le-leb (b + 1) (max_entries_in image (file_selector w)) (omega arith))) (le-leb (block_place (kind_of w) (b + 1)) (length_of image (Block (file_selector w))) (omega arith))

module _ (touched : Claim → Bool) (old new : Image) (same : AgreeBut touched old new) where
  external-of : (w : ℕ) → is_address w ≡ true → kind_of w ≡ external → IsClear touched w → new (External (external_number w)) ≡ old (External (external_number w))
  external-of w address is clear =
      same.externals (external_number w) (clear (ExternalOf (external_number w)) (external-claim w (λ e. let a : is_address 0 ≡ true = ap is_address (sym e) ∙ address in let c : false ≡ true = sym zero-no_address ∙ a in cc) is))

  -- an address that is clear is valid in both or in neither
  pub stands-same : (w : ℕ) → IsClear touched w → stands_in new w ≡ stands_in old w
  unfolding stands
  stands-same w clear = and_under (is_address w) _ _ (λ address. ⊎_elim
      (λ (e : (kind_of w == external) ≡ true). rw e (ap (λ (f : Option (List ℕ)). is_some f) (external-of w address (eqb-true (kind_of w) external e) clear)))
      (λ (e : (kind_of w == external) ≡ false). rw e (
      let some : w ≢ 0 = λ zero. (let a : is_address 0 ≡ true = ap is_address (sym zero) ∙ address in let c : false ≡ true = sym zero-no_address ∙ a in cc) in
      let count : 0 < block_count w = some-blocks w in
      last-there new w ∙ same.there (file_selector w) (kind_of w) (first_block w + block_count w - 1) (clear (BlockOf (file_selector w) (first_block w + block_count w - 1)) (block-claim w (first_block w + block_count w - 1) some (not_same (kind_of w) external e) (omega arith) (omega arith))) ∙ sym (last-there old w)))
      (cases_Bool (kind_of w == external)))

  stands_as-same : (kind w : ℕ) → IsClear touched w → stands_as new kind w ≡ stands_as old kind w
  stands_as-same kind w clear = ap (λ (b : Bool). b && (kind_of w == kind)) (stands-same w clear)

  -- the bytes of its blocks are the same
  blocks-same : (w : ℕ) → stands_in old w ≡ true → kind_of w ≢ external → IsClear touched w → SameFrom (place w) (byte_size w) (block_bytes old w) (block_bytes new w)
  unfolding place byte_size block_place
  blocks-same w st apart clear k low high =
      let size : ℕ = block_size (kind_of w) in
      let b : ℕ = (k - 8192) / block_size (kind_of w) in
      let suffix : 8192 ≤ k = omega (arith, low) in
      let at = block-at (block_size (kind_of w)) k (size-is (kind_of w)) suffix in
      let within = block-within (block_size (kind_of w)) k (first_block w) (block_count w) (size-is (kind_of w)) low high in
      let free : touched (BlockOf (file_selector w) b) ≡ false = clear (BlockOf (file_selector w) b) (block-claim w b (stands-some old w st) apart within.0 within.1) in
      sym (same.bytes (file_selector w) (kind_of w) b k free (all-there old w b (stands-blocks old w st apart) within.1) at.0 at.1)

  standing : (kind w : ℕ) → stands_as old kind w ≡ true → (stands_in old w ≡ true) × (kind_of w ≡ kind)
  standing kind w e = let p = and_parts (stands_in old w) (kind_of w == kind) e in (p.0, eqb-true (kind_of w) kind p.1)

  room-for : (kind w n : ℕ) → stands_as old kind w ≡ true → n ≤ block_size kind → n ≤ byte_size w
  room-for kind w n e fits =
      let s = standing kind w e in
      let r : byte_size w ≡ block_count w * block_size kind = room_is w kind s.1 in
      let k : 0 < block_count w = some-blocks w in
      let p : block_size kind * 1 ≤ block_size kind * block_count w = mul-le-mul_left (block_size kind) k in omega arith

  node_apart : rankings ≢ external
  node_apart e = let x : ◌≡◌ {A = ℕ} 1 0 = e in cc

  entry_apart : blocks_256 ≢ external
  entry_apart e = let x : ◌≡◌ {A = ℕ} 2 0 = e in cc

  node-size : block_size rankings ≡ 36
  unfolding block_size
  node-size = refl

  entry-size : block_size blocks_256 ≡ 256
  unfolding block_size
  entry-size = refl

  -- the node and the record of a clear address
  pub node-same : (w : ℕ) → stands_as old rankings w ≡ true → IsClear touched w → node_at new w ≡ node_at old w
  node-same w e clear =
      let s = standing rankings w e in
      sym (same-node_in (place w) (block_bytes old w) (block_bytes new w) (part_of (place w) (byte_size w) (place w) 36 (block_bytes old w) (block_bytes new w) (blocks-same w s.0 (λ x. node_apart (sym s.1 ∙ x)) clear) (omega arith)
      (let b : 36 ≤ byte_size w = room-for rankings w 36 e (omega (arith, node-size)) in omega arith)))

  pub entry-same : (w : ℕ) → stands_as old blocks_256 w ≡ true → IsClear touched w → entry_at new w ≡ entry_at old w
  entry-same w e clear =
      let s = standing blocks_256 w e in
      sym (same-entry_in (place w) (block_bytes old w) (block_bytes new w) (part_of (place w) (byte_size w) (place w) 96 (block_bytes old w) (block_bytes new w) (blocks-same w s.0 (λ x. entry_apart (sym s.1 ∙ x)) clear) (omega arith)
      (let b : 96 ≤ byte_size w = room-for blocks_256 w 96 e (omega (arith, entry-size)) in omega arith)))

  -- the words of the index that are shown
  index-byte : (i : ℕ) → is_shown_place i ≡ true → byte old Index i ≡ byte new Index i
  index-byte i e = sym (same.index i e)

  index-word : (i : ℕ) → is_shown_place i ≡ true → is_shown_place (i + 1) ≡ true → is_shown_place (i + 2) ≡ true → is_shown_place (i + 3) ≡ true → word_at (byte old Index) i ≡ word_at (byte new Index) i
  index-word i a b c d = λ k. index-byte i a k + 256 * index-byte (i + 1) b k + 65536 * index-byte (i + 2) c k + 16777216 * index-byte (i + 3) d k

  table-shown : (i : ℕ) → 368 ≤ i → is_shown_place i ≡ true
  table-shown i suffix = or_right _ (nat_le 368 i) (le-leb 368 i suffix)

  pub agreeing-list : SameLinks touched (list_of old) (list_of new)
  unfolding list_of checks_at next_at prev_at
  agreeing-list = record {
    head = index-word 288 refl refl refl refl;
    tail = index-word 308 refl refl refl refl;
    transaction = index-word 328 refl refl refl refl;
    checks = λ w clear. rw (stands_as-same rankings w clear) (and_under (stands_as old rankings w) _ _ (λ e. ap node_checks (sym (node-same w e clear))));
    next = λ w clear. rw (stands_as-same rankings w clear) (same_under (stands_as old rankings w) _ _ _ (λ e. ap (λ (n : Node). n.next) (sym (node-same w e clear))));
    prev = λ w clear. rw (stands_as-same rankings w clear) (same_under (stands_as old rankings w) _ _ _ (λ e. ap (λ (n : Node). n.prev) (sym (node-same w e clear))));
  }

  key-place-same : (w : ℕ) (e : RecordFields) → IsClear touched w → fields_at old w ≡ Some e → is_key_length w e ≡ true → nat_le e.key_len 927 ≡ true
      → key_place_at old w e.key_len ≡ key_place_at new w e.key_len
  unfolding key_place_at
  key-place-same w e clear is long short =
      let st : stands_as old blocks_256 w ≡ true = record_stands old w e is in
      let s = standing blocks_256 w st in
      let r : byte_size w ≡ block_count w * block_size blocks_256 = room_is w blocks_256 s.1 in
      let fits : 96 + e.key_len ≤ block_count w * 256 = key_inside e.key_len (block_count w) (leb-true e.key_len 927 short) (key_blocks w e long) in
      let inside : 96 + e.key_len ≤ byte_size w = subst (λ (x : ℕ). 96 + e.key_len ≤ x) (sym (r ∙ ap (λ (x : ℕ). block_count w * x) entry-size)) fits in
      same-range e.key_len (place w + 96) (block_bytes old w) (block_bytes new w) (part_of (place w) (byte_size w) (place w + 96) e.key_len (block_bytes old w) (block_bytes new w) (blocks-same w s.0 (λ x. entry_apart (sym s.1 ∙ x)) clear) (omega arith) (omega arith))

  stored-same : (size w : ℕ) → IsClear touched w → stored_at old size w ≡ stored_at new size w
  unfolding stored_at
  stored-same size w clear =
      rw (stands-same w clear)
      (same_else (not (is_storage size w)) _ _ _ (λ is. same_else (size == 0) _ _ _ (λ _. same_else (not (stands_in old w)) _ _ _ (λ st. ⊎_elim
      (λ (e : (kind_of w == external) ≡ true). rw (e, external-of w (stands-address old w (not-false (stands_in old w) st)) (eqb-true (kind_of w) external e) clear) refl)
      (λ (e : (kind_of w == external) ≡ false). rw e (
      let apart : kind_of w ≢ external = not_same (kind_of w) external e in
      let inside : size ≤ byte_size w = storage_inside size w (not-false (is_storage size w) is) apart in
      ap Some (same-range size (place w) (block_bytes old w) (block_bytes new w) (part_of (place w) (byte_size w) (place w) size _ _ (blocks-same w (not-false (stands_in old w) st) apart clear) (omega arith) (omega arith)))))
      (cases_Bool (kind_of w == external))))))

  stock-same : SameStore touched (store_of old) (store_of new)
  unfolding store_of node_fields_at fields_at follow_at
  stock-same = record {
    node_fields = λ w clear. rw (stands_as-same rankings w clear) (same_under (stands_as old rankings w) _ _ _ (λ e. ap (λ (n : Node). let said : NodeFields = record { contents = n.contents; dirty = n.dirty } in Some said) (sym (node-same w e clear))));
    entry = λ w clear. rw (stands_as-same blocks_256 w clear) (same_under (stands_as old blocks_256 w) _ _ _ (λ e. ap (λ (n : Entry). Some (fields_of n)) (sym (entry-same w e clear))));
    chain_next = λ w clear. rw (stands_as-same blocks_256 w clear) (same_under (stands_as old blocks_256 w) _ _ _ (λ e. ap (λ (n : Entry). n.next) (sym (entry-same w e clear))));
    key_place = key-place-same;
    stored = stored-same;
  }

  pub agreeing-views : SameBut touched (view_of old) (view_of new)
  unfolding store_of
  agreeing-views = record {
    links = agreeing-list;
    store = stock-same;
    table = λ b. index-word (368 + 4 * b) (table-shown (368 + 4 * b) (omega arith)) (table-shown (368 + 4 * b + 1) (omega arith)) (table-shown (368 + 4 * b + 2) (omega arith)) (table-shown (368 + 4 * b + 3) (omega arith));
  }

module _ (F : files.Footprint) (old new : Image) (touched : Claim → Bool) (same : files.SameOutside F old new) (covers : Covers old F touched) where
  -- the links and the numbers of blocks
  extent-byte : (n i : ℕ) → is_extent_place i ≡ true → byte new (Block n) i ≡ byte old (Block n) i
  extent-byte n i e = same.bytes (Block n) i (covers.extents n i e)

  next-same : next_file_in new ≡ next_file_in old
  unfolding next_file_in
  next-same = λ k n. extent-byte n 10 refl k + 256 * extent-byte n 11 refl k

  count-same : max_entries_in new ≡ max_entries_in old
  unfolding max_entries_in
  count-same = λ k n. extent-byte n 20 refl k + 256 * extent-byte n 21 refl k + 65536 * extent-byte n 22 refl k + 16777216 * extent-byte n 23 refl k

  linked-same : linked new ≡ linked old
  unfolding linked
  linked-same = λ k kind. files_along (next-same k) 59 (kind - 1)

  linked_as-same : linked_as new ≡ linked_as old
  linked_as-same = λ k n. kind_among (linked-same k) n

  lengths-same : ◌≡◌ {A = ℕ → ℕ} (λ n. length_of new (Block n)) (λ n. length_of old (Block n))
  lengths-same = λ k n. same.lengths (Block n) (covers.lengths n) k

  -- an external file that is not touched
  external-same : (n : ℕ) → touched (ExternalOf n) ≡ false → new (External n) ≡ old (External n)
  external-same n clear = same_file_outside F old new (External n) same
      (λ i. false_from_ne_true (F.bytes (External n) i) (λ e. let t : touched (ExternalOf n) ≡ true = covers.external_bytes n i e in let z : true ≡ false = sym t ∙ clear in cc))
      (false_from_ne_true (F.sizes (External n)) (λ e. let t : touched (ExternalOf n) ≡ true = covers.external_sizes n e in let z : true ≡ false = sym t ∙ clear in cc))

  external_file-same : (w : ℕ) → is_address w ≡ true → kind_of w ≡ external → IsClear touched w → new (External (external_number w)) ≡ old (External (external_number w))
  external_file-same w address is clear =
      external-same (external_number w) (clear (ExternalOf (external_number w)) (external-claim w (λ e. let a : is_address 0 ≡ true = ap is_address (sym e) ∙ address in let c : false ≡ true = sym zero-no_address ∙ a in cc) is))

  -- an address of blocks, and an external one that is clear, is valid in both or in neither
  pub stands-if_clear : (w : ℕ) → (kind_of w ≡ external → IsClear touched w) → stands_in new w ≡ stands_in old w
  unfolding stands stands_as_blocks
  stands-if_clear w clear = and_under (is_address w) _ _ (λ address. ⊎_elim
      (λ (e : (kind_of w == external) ≡ true). rw e (ap (λ (f : Option (List ℕ)). is_some f) (external_file-same w address (eqb-true (kind_of w) external e) (clear (eqb-true (kind_of w) external e)))))
      (λ (e : (kind_of w == external) ≡ false). rw e (rw (linked_as-same, count-same) (ap (λ (f : ℕ → ℕ). is_linked_as (linked_as old (file_selector w)) (kind_of w) && nat_le (first_block w + block_count w) (max_entries_in old (file_selector w)) && nat_le (place w + byte_size w) (f (file_selector w))) lengths-same)))
      (cases_Bool (kind_of w == external)))

  -- the two images agree but there
  pub covered-agrees : AgreeBut touched old new
  unfolding is_there
  covered-agrees = record {
    index = λ i e. same.bytes Index i (covers.index i e);
    there = λ n kind b _. rw (linked_as-same, count-same) (ap (λ (f : ℕ → ℕ). is_linked_as (linked_as old n) kind && nat_le (b + 1) (max_entries_in old n) && nat_le (block_place kind (b + 1)) (f n)) lengths-same);
    bytes = λ n kind b i clear there low high. same.bytes (Block n) i (false_from_ne_true (F.bytes (Block n) i) (λ e.
        let parts = and_parts (is_linked_as (linked_as old n) kind) _ (and_parts (is_linked_as (linked_as old n) kind && nat_le (b + 1) (max_entries_in old n)) _ there).0 in
        let t : touched (BlockOf n b) ≡ true = covers.blocks n kind b i (linked-some (linked_as old n) kind parts.0) low high e in
        let z : true ≡ false = sym t ∙ clear in cc));
    externals = external-same;
  }

  pub views-same : SameBut touched (view_of old) (view_of new)
  views-same = agreeing-views touched old new covered-agrees

-- growth

-- a block that isn't past is one of a linked file
is-block : (image : Image) (n b : ℕ) → is_past image (BlockOf n b) ≡ false → is_some (linked_as image n) ≡ true × b < max_entries_in image n
is-block image n b e =
    let parts = or_parts (not (is_some (linked_as image n))) (nat_le (max_entries_in image n) b) e in
    (not-false (is_some (linked_as image n)) parts.0, ⊎_elim (λ (less : b < max_entries_in image n). less) (λ (more : max_entries_in image n ≤ b). absurd (let t : nat_le (max_entries_in image n) b ≡ true = le-leb (max_entries_in image n) b more in let z : true ≡ false = sym t ∙ parts.1 in cc)) (cases_lt b (max_entries_in image n)))

-- a block of a file that is long enough is there
block-there : (image : Image) (n kind b : ℕ) → AreLongEnough image → linked_as image n ≡ Some kind → b < max_entries_in image n → block_place kind (b + 1) ≤ length_of image (Block n)
block-there image n kind b long linked below =
    let ends : block_place kind (max_entries_in image n) ≤ length_of image (Block n) = long n kind linked in
    let rises : block_place kind (b + 1) ≤ block_place kind (max_entries_in image n) = places-rise kind (b + 1) (max_entries_in image n) (omega arith) in
    omega arith

pub same-links : (old new : Image) → ((n : ℕ) → next_file_in new n ≡ next_file_in old n) → (n : ℕ) → linked_as new n ≡ linked_as old n
unfolding linked
same-links old new same n = λ k. kind_among (λ kind. files_along (λ m. same m k) 59 (kind - 1)) n

module _ (old new : Image) (long : AreLongEnough old) (grown : HaveGrown old new) where
  grown-there : (n kind b : ℕ) → is_past old (BlockOf n b) ≡ false → is_there new n kind b ≡ is_there old n kind b
  unfolding is_there
  grown-there n kind b clear = go (linked_as old n) refl (is-block old n b clear) where
    go : (o : Option ℕ) → linked_as old n ≡ o → is_some (linked_as old n) ≡ true × b < max_entries_in old n
        → (is_linked_as (linked_as new n) kind && nat_le (b + 1) (max_entries_in new n) && nat_le (block_place kind (b + 1)) (length_of new (Block n))) ≡ (is_linked_as (linked_as old n) kind && nat_le (b + 1) (max_entries_in old n) && nat_le (block_place kind (b + 1)) (length_of old (Block n)))
    go None at is = absurd (let z : false ≡ true = sym (ap (λ (o : Option ℕ). is_some o) at) ∙ is.0 in cc)
    go (Some type) at is = rw (at, grown.linked n type at) (⊎_elim
        (λ (e : (type == kind) ≡ true).
        let same : type ≡ kind = eqb-true type kind e in
        let below : b < max_entries_in old n = is.1 in
        let rise : max_entries_in old n ≤ max_entries_in new n = grown.more n type at in
        let longer : length_of old (Block n) ≤ length_of new (Block n) = grown.longer n type at in
        let ends : block_place kind (b + 1) ≤ length_of old (Block n) = block-there old n kind b long (at ∙ ap Some same) below in
        let m0 : nat_le (b + 1) (max_entries_in old n) ≡ true = le-leb (b + 1) (max_entries_in old n) (omega arith) in
        let m1 : nat_le (b + 1) (max_entries_in new n) ≡ true = le-leb (b + 1) (max_entries_in new n) (omega arith) in
        let l0 : nat_le (block_place kind (b + 1)) (length_of old (Block n)) ≡ true = le-leb (block_place kind (b + 1)) (length_of old (Block n)) ends in
        let l1 : nat_le (block_place kind (b + 1)) (length_of new (Block n)) ≡ true = le-leb (block_place kind (b + 1)) (length_of new (Block n)) (omega arith) in
        rw (m0, m1, l0, l1) refl)
        (λ (e : (type == kind) ≡ false). rw e refl)
        (cases_Bool (type == kind)))

  pub growth-past : AgreeBut (is_past old) old new
  unfolding is_there block_place
  growth-past = record {
    index = grown.index;
    there = grown-there;
    bytes = λ n kind b i clear there low high.
        let parts = and_parts (is_linked_as (linked_as old n) kind && nat_le (b + 1) (max_entries_in old n)) _ there in
        let ends : block_place kind (b + 1) ≤ length_of old (Block n) = leb-true (block_place kind (b + 1)) (length_of old (Block n)) parts.1 in
        grown.bytes n kind i (linked-some (linked_as old n) kind (and_parts (is_linked_as (linked_as old n) kind) _ parts.0).0) (omega arith) (omega arith);
    externals = λ n _. grown.externals n;
  }

-- agreement

pub agreement-goes_on : (touched : Claim → Bool) (old between new : Image) → AgreeBut touched old between → AgreeBut touched between new → AgreeBut touched old new
agreement-goes_on touched old between new first then_ = record {
  index = λ i shown. then_.index i shown ∙ first.index i shown;
  there = λ n kind b clear. then_.there n kind b clear ∙ first.there n kind b clear;
  bytes = λ n kind b i clear there low high. then_.bytes n kind b i clear (first.there n kind b clear ∙ there) low high ∙ first.bytes n kind b i clear there low high;
  externals = λ n clear. then_.externals n clear ∙ first.externals n clear;
}

pub agreement-more : (less more : Claim → Bool) (old new : Image) → ((claim : Claim) → less claim ≡ true → more claim ≡ true) → AgreeBut less old new → AgreeBut more old new
agreement-more less more old new wider same = record {
  index = same.index;
  there = λ n kind b clear. same.there n kind b (untouched (BlockOf n b) clear);
  bytes = λ n kind b i clear. same.bytes n kind b i (untouched (BlockOf n b) clear);
  externals = λ n clear. same.externals n (untouched (ExternalOf n) clear);
} where
  untouched : (claim : Claim) → more claim ≡ false → less claim ≡ false
  untouched claim clear = false_from_ne_true (less claim) (λ e. let z : true ≡ false = sym (wider claim e) ∙ clear in cc)
