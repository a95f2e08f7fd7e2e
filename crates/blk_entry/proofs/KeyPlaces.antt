-- Where keys lie.
use Rattle.std.proofs.Common.{◌≡◌, ◌≢◌, ◌⊎◌, inl, inr, ⊎_elim, ℕ, zero, suc, ◌+◌, ◌-◌, ◌*◌, ◌/◌, ◌%◌, ◌^◌, ◌<◌, ◌≤◌, Bool, true, false, ◌&&◌, ◌||◌, if◌then◌else◌, List, [], ◌∷◌, length, take, drop, Option, None, Some, Result, Ok, Err, refl, sym, ◌∙◌, ap, ap₂, subst, arith, add-zero}
use Rattle.std.specs.Prelude.{◌==◌, nat_le, nat_lt, not, min, ◌++◌, ◌↔◌, IfOk, OnOk}
use Rattle.std.proofs.lemmas.List.{take_all, take-append-le, take-append-drop, length-drop, length-take}
use Rattle.std.proofs.lemmas.Bool.{and_parts, eqb-true, cases_Bool, cases_lt, leb-true}
use Rattle.std.proofs.lemmas.Bool.Decides.{nat_tests}
use Rattle.std.specs.Option.{option_map, option_and_then}
use Rattle.std.proofs.Math.Seq.{drop-append_seam}
use Rattle.spec_image.specs.Bytes.{content, word_at, words_at, range_at}
use Rattle.spec_image.specs.Image.{Block, External, HasRange, Image, byte, has_file, length_of, word}
use Rattle.spec_image.specs.Footprint.{range}
use Rattle.spec_image.specs.Told.{Told}
use Rattle.spec_image.proofs.Runs.{some_inj}
use Rattle.spec_image.proofs.Words.{length-range}
use Rattle.spec_format.specs.Address.{kind_of, block_count, block_size, is_address, external, external_number, file_selector, place, byte_size, blocks_256}
use Rattle.spec_format.specs.Records.{entry_in}
use Rattle.spec_format.specs.Storage.{entry_blocks, is_storage, kind_for, blocks_for, divided_up}
use Rattle.spec_format.specs.Standing.{stands}
use Rattle.spec_format.specs.BlockFiles.{stands_in, stands_in_blocks}
use Rattle.spec_format.proofs.Bodies.{range-add}
use Rattle.spec_folder.specs.View.{RecordFields, fields_at, fields_of, entry_at, key_place_at, stands_as, stored_at, store_of}
use Rattle.spec_folder.specs.Entries.{is_key_length, stored_key, longest_key_with}
use Rattle.blk_disk.specs.declared.tables.BlockFiles.{BlockFiles}
use Rattle.blk_disk.specs.Tables.{Agrees, stands_among}
use Rattle.blk_disk.proofs.Ranges.{stands_agree}
use Rattle.spec_format.specs.Sealed.{record_size}
use Rattle.blk_disk.proofs.SealedReads.{record_read}
use Rattle.spec_format.proofs.SealedRecords.{entry_bytes}
use Rattle.spec_format.proofs.SealedFields.{record_word}
use Rattle.blk_io.specs.declared.folder.FileId.TheVariants as names
use Rattle.blk_io.specs.declared.fault.Damage.{Damage}
use Rattle.blk_io.specs.declared.fault.Fault.{Fault}
use Rattle.blk_io.specs.declared.fault.Fault.TheVariants.{Device, Damaged}
use Rattle.blk_io.specs.Faults.{IfDamaged, IsShort}
use Rattle.blk_external.specs.Reading.{IsFew}
use Rattle.blk_entry.specs.declared.keys.Head.{Head}
use Rattle.blk_entry.specs.declared.keys.KeyPlace.{KeyPlace}
use Rattle.blk_entry.specs.Keys.{IsCut, IsCutKey, IsCutPart, IsCutPiece, IsPlaced, data_name, IsPiece, IsPlaceOfKey, AreKeyBytes, HasData, HasKeyBytes, key_bytes, data_range, data_file, data_start, data_at, long_key_held, key_at, key_address, bytes_before, is_short, may_have, may_hold, stores, IsInside, IsInFile, IsRecordHead, HasReadableKey}
use Rattle.blk_entry.proofs.Windows.{entry_room}

-- two numbers are different where the test whether they are equal fails
pub of_other : (a b : ℕ) → (a == b) ≡ false → a ≢ b
of_other a b e same = absurd (none (sym e ∙ ap (λ (k : ℕ). a == k) (sym same) ∙ self a))
  where
    none : false ≡ true → ⊥
    none h = cc

    self : (k : ℕ) → (k == k) ≡ true
    self k = grind (arith, nat_tests)

-- the data of an address of blocks, and of an external one
pub data_of_blocks : (image : Image) (w at n : ℕ) → kind_of w ≢ external → data_at image w at n ≡ range_at (byte image (Block (file_selector w))) (place w + at) n
unfolding data_file data_start
data_of_blocks image w at n block_kind = let t : (kind_of w == external) ≡ false = grind (arith, nat_tests) in rw t refl

pub data_of_external : (image : Image) (w at n : ℕ) → kind_of w ≡ external → data_at image w at n ≡ range_at (byte image (External (external_number w))) at n
unfolding data_file data_start
data_of_external image w at n is = rw is (ap (λ (i : ℕ). range_at (byte image (External (external_number w))) i n) (let e : 0 + at ≡ at = omega arith in e))

-- bytes that are in a file
pub data_in_blocks : (image : Image) (w at n : ℕ) → kind_of w ≢ external → HasRange image (Block (file_selector w)) (place w + at) n ⊎ (n ≡ 0) → HasData w at n image
unfolding data_file data_start
data_in_blocks image w at n block_kind there = let t : (kind_of w == external) ≡ false = grind (arith, nat_tests) in rw t there

pub data_in_external : (image : Image) (w at n : ℕ) → kind_of w ≡ external → HasRange image (External (external_number w)) at n ⊎ (n ≡ 0) → HasData w at n image
unfolding data_file data_start
data_in_external image w at n is there = rw is (⊎_elim (λ (h : at + n ≤ length_of image (External (external_number w))). inl (omega (arith, h))) (λ (none : n ≡ 0). inr none) there)

-- the range of bytes that are in a file
pub range_of_blocks : (w at n : ℕ) → kind_of w ≢ external → range (Block (file_selector w)) (place w + at) n ≡ data_range w at n
unfolding data_range data_file data_start
range_of_blocks w at n block_kind = let t : (kind_of w == external) ≡ false = grind (arith, nat_tests) in rw t refl

pub range_of_external : (w at n : ℕ) → kind_of w ≡ external → range (External (external_number w)) at n ≡ data_range w at n
unfolding data_range data_file data_start
range_of_external w at n is = rw is (ap (λ (i : ℕ). range (External (external_number w)) i n) (let e : at ≡ 0 + at = omega arith in e))

-- the word of a record that was read
pub head_word : (image : Image) (w q : ℕ) (window : List ℕ) → kind_of w ≡ blocks_256 → q + 4 ≤ 96 → window ≡ range_at (byte image (Block (file_selector w))) (place w + 0) 96 → word_at (content window) q ≡ word image (Block (file_selector w)) (place w + q)
head_word image w q window kind inside read =
    let size : record_size w ≡ 96 = entry_bytes w kind in
    ap (λ (l : List ℕ). word_at (content l) q) (record_read image w 96 window (sym size) read) ∙ record_word image w q (omega (arith, size, inside))

-- four words of it that lie one after the other
four_words : (image : Image) (w q : ℕ) (window : List ℕ) → kind_of w ≡ blocks_256 → q + 16 ≤ 96 → window ≡ range_at (byte image (Block (file_selector w))) (place w + 0) 96 → words_at (content window) q 4 ≡ words_at (byte image (Block (file_selector w))) (place w + q) 4
unfolding words_at
four_words image w q window kind inside read = λ i. word 0 q (place w + q) (omega arith) (omega arith) (omega arith) i ∷ word 4 (q + 4) (place w + q + 4) (omega arith) (omega arith) (omega arith) i ∷ word 8 (q + 4 + 4) (place w + q + 4 + 4) (omega arith) (omega arith) (omega arith) i ∷ word 12 (q + 4 + 4 + 4) (place w + q + 4 + 4 + 4) (omega arith) (omega arith) (omega arith) i ∷ []
  where
    word : (k at there : ℕ) → at ≡ q + k → there ≡ place w + at → k + 4 ≤ 16 → word_at (content window) at ≡ word_at (byte image (Block (file_selector w))) there
    word k at there is then_there fits = head_word image w at window kind (omega (arith, is, fits, inside)) read ∙ ap (word_at (byte image (Block (file_selector w)))) (sym then_there)

pub head_is : (image : Image) (w : ℕ) (window : List ℕ) (head : Head) → kind_of w ≡ blocks_256 → window ≡ range_at (byte image (Block (file_selector w))) (place w + 0) 96
    → head.hash ≡ word_at (content window) 0 → head.next ≡ word_at (content window) 4 → head.node ≡ word_at (content window) 8 → head.key_len ≡ word_at (content window) 32 → head.long_key ≡ word_at (content window) 36
    → head.sizes ≡ words_at (content window) 40 4 → head.addrs ≡ words_at (content window) 56 4 → head.flags ≡ word_at (content window) 72
    → IsRecordHead image w head
unfolding entry_in
head_is image w window head kind read hash next node key_len long_key sizes addrs flags = record {
  hash = hash ∙ head_word image w 0 window kind (omega arith) read ∙ ap (word image (Block (file_selector w))) (add-zero (place w));
  next = next ∙ head_word image w 4 window kind (omega arith) read;
  node = node ∙ head_word image w 8 window kind (omega arith) read;
  key_len = key_len ∙ head_word image w 32 window kind (omega arith) read;
  long_key = long_key ∙ head_word image w 36 window kind (omega arith) read;
  sizes = sizes ∙ four_words image w 40 window kind (omega arith) read;
  addrs = addrs ∙ four_words image w 56 window kind (omega arith) read;
  flags = flags ∙ head_word image w 72 window kind (omega arith) read;
}

-- a key in its record
pub may_have_parts : (w k : ℕ) → may_have w k ≡ true → (1 ≤ k) × (k ≤ 32796) × (block_count w ≡ entry_blocks k)
unfolding may_have
may_have_parts w k e =
    let a = and_parts (nat_le 1 k && nat_le k 32796) (block_count w == entry_blocks k) e in
    let b = and_parts (nat_le 1 k) (nat_le k 32796) a.0 in
    (leb-true 1 k b.0, leb-true k 32796 b.1, eqb-true (block_count w) (entry_blocks k) a.1)

short_blocks : (k : ℕ) → k ≤ 927 → 96 + k < 256 * entry_blocks k
unfolding entry_blocks
short_blocks k short =
    by_test (nat_lt k 160) (nat_le k 927) (λ e. let h : k < 160 = grind (arith, nat_tests) in h) (let h : nat_le k 927 ≡ true = grind (arith, nat_tests) in h)
  where
    by_test : (s t : Bool) → (s ≡ true → k < 160) → t ≡ true → 96 + k < 256 * (if s then 1 else if t then (k - 160) / 256 + 2 else 1)
    by_test true t few e = let h = few refl in omega (arith, h)
    by_test false true few e = omega arith
    by_test false false few e = absurd (clash e)
      where
        clash : false ≡ true → ⊥
        clash h = cc

-- a key in its record, and a zero byte after it
pub short_room : (w k : ℕ) → kind_of w ≡ blocks_256 → block_count w ≡ entry_blocks k → k ≤ 927 → 96 + k < byte_size w
short_room w k kind blocks short =
    let room_is : byte_size w ≡ 256 * entry_blocks k = entry_room w kind ∙ ap (λ (n : ℕ). 256 * n) blocks in
    let h = short_blocks k short in
    omega (arith, h, room_is)

pub short_inside : (files : BlockFiles) (w k : ℕ) → kind_of w ≡ blocks_256 → stands_among files w ≡ true → may_have w k ≡ true → k ≤ 927 → IsInside files w 96 k
short_inside files w k kind stands has short =
    let parts = may_have_parts w k has in
    let room_is : byte_size w ≡ 256 * entry_blocks k = entry_room w kind ∙ ap (λ (n : ℕ). 256 * n) parts.2 in
    record { small = omega (arith, short); stands = λ block_kind. stands; room = λ block_kind. let h = short_blocks k short in omega (arith, h, room_is) }

-- data that has its storage
both : (a b : Bool) → a ≡ true → b ≡ true → (a && b) ≡ true
both a b e f = rw (e, f) refl

right_of : (a b : Bool) → a ≡ false → (a || b) ≡ true → b ≡ true
right_of a b none some = rw none at some

pub storage_parts : (size w : ℕ) → 0 < size → is_storage size w ≡ true → (is_address w ≡ true) × (kind_of w ≡ kind_for size) × (kind_of w ≢ external → block_count w ≡ blocks_for size)
unfolding is_storage
storage_parts size w some e =
    let z : (size == 0) ≡ false = grind (arith, nat_tests) in
    let h : (is_address w && (kind_of w == kind_for size) && ((kind_of w == external) || (block_count w == blocks_for size))) ≡ true = rw z at e in
    let a = and_parts (is_address w && (kind_of w == kind_for size)) ((kind_of w == external) || (block_count w == blocks_for size)) h in
    let b = and_parts (is_address w) (kind_of w == kind_for size) a.0 in (
      b.0,
      eqb-true (kind_of w) (kind_for size) b.1,
      λ block_kind. let t : (kind_of w == external) ≡ false = grind (arith, nat_tests) in eqb-true (block_count w) (blocks_for size) (right_of (kind_of w == external) (block_count w == blocks_for size) t a.1),
    )

pub stores_is : (files : BlockFiles) (size w : ℕ) → is_address w ≡ true → 0 < size
    → stores files size w ≡ ((kind_of w == kind_for size) && ((kind_of w == external) || ((block_count w == blocks_for size) && stands_among files w)))
unfolding stores is_storage
stores_is files size w address some =
    let z : (size == 0) ≡ false = grind (arith, nat_tests) in
    rw (z, address) (by_tests (kind_of w == kind_for size) (kind_of w == external) (block_count w == blocks_for size) (stands_among files w))
  where
    by_tests : (a b c d : Bool) → (((true && a) && (b || c)) && (b || d)) ≡ (a && (b || (c && d)))
    by_tests true true c d = refl
    by_tests true false true d = refl
    by_tests true false false d = refl
    by_tests false b c d = refl

pub stores_stand : (files : BlockFiles) (size w : ℕ) → is_address w ≡ true → 0 < size → kind_of w ≡ kind_for size → kind_of w ≢ external → block_count w ≡ blocks_for size → stores files size w ≡ stands_among files w
stores_stand files size w address some kind block_kind count =
    let a : (kind_of w == kind_for size) ≡ true = grind (arith, nat_tests) in
    let b : (kind_of w == external) ≡ false = grind (arith, nat_tests) in
    let c : (block_count w == blocks_for size) ≡ true = grind (arith, nat_tests) in
    stores_is files size w address some ∙ (λ i. a i && (b i || (c i && stands_among files w)))

pub stores_none : (files : BlockFiles) (size w : ℕ) → is_address w ≡ true → 0 < size → kind_of w ≢ external → block_count w ≢ blocks_for size → stores files size w ≡ false
stores_none files size w address some block_kind count =
    let b : (kind_of w == external) ≡ false = grind (arith, nat_tests) in
    let c : (block_count w == blocks_for size) ≡ false = grind (arith, nat_tests) in
    stores_is files size w address some ∙ (λ i. (kind_of w == kind_for size) && (b i || (c i && stands_among files w))) ∙ none (kind_of w == kind_for size)
  where
    none : (t : Bool) → (t && false) ≡ false
    none true = refl
    none false = refl

-- a word that is no address stores nothing
pub not_held : (files : BlockFiles) (k w : ℕ) → (if is_address w then Some w else None) ≡ None → long_key_held files k w ≡ None
unfolding stores is_storage
not_held files k w none =
    let z : (k + 1 == 0) ≡ false = grind (arith, nat_tests) in
    rw z (by_test (is_address w) none)
  where
    by_test : (t : Bool) → (if t then Some w else None) ≡ None
        → (if ((t && (kind_of w == kind_for (k + 1)) && ((kind_of w == external) || (block_count w == blocks_for (k + 1)))) && ((kind_of w == external) || stands_among files w)) then Some w else None) ≡ None
    by_test true none = absurd (clash none)
      where
        clash : Some w ≡ None → ⊥
        clash h = cc
    by_test false none = refl

-- a word that is held
pub held_is : (files : BlockFiles) (k w a : ℕ) → Some a ≡ long_key_held files k w → (a ≡ w) × (may_hold files k w ≡ true)
held_is files k w a e = by_test (may_hold files k w) refl e
  where
    by_test : (t : Bool) → may_hold files k w ≡ t → Some a ≡ (if t then Some w else None) → (a ≡ w) × (may_hold files k w ≡ true)
    by_test true h e = (cc, h)
    by_test false h e = absurd (clash e)
      where
        clash : Some a ≡ None → ⊥
        clash h = cc

-- blocks that store data hold it
up_fits : (size block : ℕ) → (block ≡ 256) ⊎ ((block ≡ 1024) ⊎ (block ≡ 4096)) → size ≤ divided_up size block * block
up_fits size block which =
    ⊎_elim (λ (e : block ≡ 256). rw e (let h : size ≤ (size + 256 - 1) / 256 * 256 = omega arith in h))
    (λ (more : (block ≡ 1024) ⊎ (block ≡ 4096)). ⊎_elim (λ (e : block ≡ 1024). rw e (let h : size ≤ (size + 1024 - 1) / 1024 * 1024 = omega arith in h)) (λ (e : block ≡ 4096). rw e (let h : size ≤ (size + 4096 - 1) / 4096 * 4096 = omega arith in h)) more) which

size_is : (k : ℕ) → (k ≡ 2) ⊎ ((k ≡ 3) ⊎ (k ≡ 4)) → (block_size k ≡ 256) ⊎ ((block_size k ≡ 1024) ⊎ (block_size k ≡ 4096))
unfolding block_size
size_is k which =
    ⊎_elim (λ (e : k ≡ 2). inl (rw e refl)) (λ (more : (k ≡ 3) ⊎ (k ≡ 4)). ⊎_elim (λ (e : k ≡ 3). inr (inl (rw e refl))) (λ (e : k ≡ 4). inr (inr (rw e refl))) more) which

-- one of the four kinds of data by three tests
abbrev chosen : Bool → Bool → Bool → ℕ
chosen a b c = if a then 2 else if b then 3 else if c then 4 else 0

kind_by : (a b c : Bool) → chosen a b c ≢ external → (chosen a b c ≡ 2) ⊎ ((chosen a b c ≡ 3) ⊎ (chosen a b c ≡ 4))
kind_by true b c some = inl refl
kind_by false true c some = inr (inl refl)
kind_by false false true some = inr (inr refl)
kind_by false false false some = absurd (some refl)

kind_is : (size : ℕ) → kind_for size ≢ external → (kind_for size ≡ 2) ⊎ ((kind_for size ≡ 3) ⊎ (kind_for size ≡ 4))
unfolding kind_for
kind_is size block_kind = kind_by (nat_le size 1023) (nat_le size 4095) (nat_le size 16384) block_kind

pub storage_room : (size w : ℕ) → 0 < size → is_storage size w ≡ true → kind_of w ≢ external → size ≤ byte_size w
unfolding byte_size blocks_for
storage_room size w some e block_kind =
    let parts = storage_parts size w some e in
    let kf : kind_for size ≢ external = λ z. block_kind (parts.1 ∙ z) in
    let t : (kind_for size == external) ≡ false = grind (arith, nat_tests) in
    let blocks : block_count w ≡ divided_up size (block_size (kind_for size)) = parts.2 block_kind ∙ ap (λ (b : Bool). if b then 0 else divided_up size (block_size (kind_for size))) t in
    let fits = up_fits size (block_size (kind_for size)) (size_is (kind_for size) (kind_is size kf)) in
    subst (λ (n : ℕ). size ≤ n) (ap₂ (λ (a b : ℕ). a * block_size b) (sym blocks) (sym parts.1)) fits

pub long_inside : (files : BlockFiles) (w k : ℕ) → k ≤ 32796 → may_hold files k w ≡ true → IsInside files w 0 k
unfolding stores
long_inside files w k most holds =
    let p = and_parts (is_storage (k + 1) w) ((kind_of w == external) || stands_among files w) holds in
    record {
      small = omega (arith, most);
      stands = λ block_kind. let t : (kind_of w == external) ≡ false = grind (arith, nat_tests) in right_of (kind_of w == external) (stands_among files w) t p.1;
      room = λ block_kind. let h = storage_room (k + 1) w (omega arith) p.0 block_kind in omega (arith, h);
    }

-- The key of a record, as the view has it.

-- a prefix of a range, and its end
pub take-range : (k m i : ℕ) (f : ℕ → ℕ) → k ≤ m → take k (range_at f i m) ≡ range_at f i k
unfolding range_at
take-range zero m i f less = refl
take-range (suc k) zero i f less = absurd (omega arith)
take-range (suc k) (suc m) i f less = ap (λ (l : List ℕ). f i ∷ l) (take-range k m (suc i) f (omega arith))

pub drop-range : (a n i : ℕ) (f : ℕ → ℕ) → drop a (range_at f i (a + n)) ≡ range_at f (i + a) n
unfolding range_at
drop-range zero n i f = ap₂ (λ (m j : ℕ). range_at f j m) (let e : 0 + n ≡ n = omega arith in e) (sym (add-zero i))
drop-range (suc a) n i f =
    let e : suc a + n ≡ suc (a + n) = omega arith in
    let e2 : suc i + a ≡ i + suc a = omega arith in
    ap (λ (m : ℕ). drop (suc a) (range_at f i m)) e ∙ drop-range a n (suc i) f ∙ ap (λ (j : ℕ). range_at f j n) e2

map_some : (f : List ℕ → List ℕ) (o : Option (List ℕ)) (y : List ℕ) → option_map f o ≡ Some y → (x : List ℕ) × ((o ≡ Some x) × (y ≡ f x))
map_some f None y e = absurd (clash e)
  where
    clash : None ≡ Some y → ⊥
    clash h = cc
map_some f (Some x) y e = (x, (refl, cc))

-- data that is stored as an address says
pub record IsStored (image : Image) (size w : ℕ) (bytes : List ℕ) : Type 0 where
  pub storage : is_storage size w ≡ true
  pub stands_there : stands_in image w ≡ true
  pub at : ((kind_of w ≡ external) × ((length_of image (External (external_number w)) ≡ size) × (bytes ≡ range_at (byte image (External (external_number w))) 0 size)))
      ⊎ ((kind_of w ≢ external) × (bytes ≡ range_at (byte image (Block (file_selector w))) (place w) size))

pub stored_is : (image : Image) (size w : ℕ) (bytes : List ℕ) → 0 < size → stored_at image size w ≡ Some bytes → IsStored image size w bytes
unfolding stored_at
stored_is image size w bytes some e =
    by_tests (is_storage size w) (size == 0) (stands_in image w) (kind_of w == external) (length_of image (External (external_number w)) == size) refl refl refl refl (let z : (size == 0) ≡ false = grind (arith, nat_tests) in z) e
  where
    none_some : None ≡ Some bytes → ⊥
    none_some h = cc

    by_tests : (a b c d x : Bool) → is_storage size w ≡ a → stands_in image w ≡ c → (kind_of w == external) ≡ d → (length_of image (External (external_number w)) == size) ≡ x → b ≡ false
        → (if not a then None else if b then Some [] else if not c then None else if d then (if x then Some (range_at (byte image (External (external_number w))) 0 size) else None) else Some (range_at (byte image (Block (file_selector w))) (place w) size)) ≡ Some bytes
        → IsStored image size w bytes
    by_tests false b c d x ea ec ed ex eb h = absurd (none_some h)
    by_tests true true c d x ea ec ed ex eb h = absurd (let z : true ≡ false = eb in cc)
    by_tests true false false d x ea ec ed ex eb h = absurd (none_some h)
    by_tests true false true true false ea ec ed ex eb h = absurd (none_some h)
    by_tests true false true true true ea ec ed ex eb h = record { storage = ea; stands_there = ec; at = inl (eqb-true (kind_of w) external ed, (eqb-true (length_of image (External (external_number w))) size ex, cc)) }
    by_tests true false true false x ea ec ed ex eb h = record { storage = ea; stands_there = ec; at = inr ((λ same. let z : (kind_of w == external) ≡ true = grind (arith, nat_tests) in let y : true ≡ false = sym z ∙ ed in cc), cc) }

pub blocks_stand : (files : BlockFiles) (image : Image) (w : ℕ) → Agrees files image → kind_of w ≢ external → stands_in image w ≡ true → stands_among files w ≡ true
unfolding stands
blocks_stand files image w agrees block_kind st =
    let t : (kind_of w == external) ≡ false = grind (arith, nat_tests) in
    let b = (and_parts (is_address w) (if kind_of w == external then has_file image (External (external_number w)) else stands_in_blocks image w) st).1 in
    let c : stands_in_blocks image w ≡ true = rw t at b in
    stands_agree files image w agrees ∙ c

-- what is known of a key: its length and its place are right, and its bytes are there
pub record IsKey (files : BlockFiles) (image : Image) (entry : ℕ) (key : List ℕ) (k l : ℕ) : Type 0 where
  pub has : may_have entry k ≡ true
  pub holds : is_short k ≡ false → may_hold files k l ≡ true
  pub len : length key ≡ k
  pub is : key ≡ data_at image (key_address entry k l) (bytes_before k) k
  pub there : IsInFile (key_address entry k l) (bytes_before k) k image

-- the bytes of a key by the words of its record
module _ (image : Image) (entry : ℕ) (key : List ℕ) (k l : ℕ) (kind : kind_of entry ≡ blocks_256) where
  entry_blocky : kind_of entry ≢ external
  entry_blocky e = let z : ◌≡◌ {A = ℕ} 2 0 = sym kind ∙ e in cc

  short_bytes : is_short k ≡ true → key ≡ range_at (byte image (Block (file_selector entry))) (place entry + 96) k → key ≡ data_at image (key_address entry k l) (bytes_before k) k
  unfolding key_address bytes_before
  short_bytes short is = rw short (is ∙ sym (data_of_blocks image entry 96 k entry_blocky))

  long_data : (bytes : List ℕ) → IsStored image (k + 1) l bytes → bytes ≡ data_at image l 0 (k + 1)
  long_data bytes s =
      ⊎_elim (λ (outside : (kind_of l ≡ external) × ((length_of image (External (external_number l)) ≡ k + 1) × (bytes ≡ range_at (byte image (External (external_number l))) 0 (k + 1)))). outside.1.1 ∙ sym (data_of_external image l 0 (k + 1) outside.0))
      (λ (inside : (kind_of l ≢ external) × (bytes ≡ range_at (byte image (Block (file_selector l))) (place l) (k + 1))).
      inside.1 ∙ ap (λ (i : ℕ). range_at (byte image (Block (file_selector l))) i (k + 1)) (sym (add-zero (place l))) ∙ sym (data_of_blocks image l 0 (k + 1) inside.0)) s.at

  long_bytes : is_short k ≡ false → (bytes : List ℕ) → IsStored image (k + 1) l bytes → key ≡ take k bytes → key ≡ data_at image (key_address entry k l) (bytes_before k) k
  unfolding key_address bytes_before
  long_bytes long bytes s is = rw long (is ∙ ap (take k) (long_data bytes s) ∙ take-range k (k + 1) (data_start l + 0) (byte image (data_file l)) (omega arith))

  pub bytes_keyed : (if is_short k then (if l == 0 then Some (range_at (byte image (Block (file_selector entry))) (place entry + 96) k) else None) else option_map (take k) (stored_at image (k + 1) l)) ≡ Some key → key ≡ data_at image (key_address entry k l) (bytes_before k) k
  bytes_keyed e = by_test (is_short k) (l == 0) refl e
    where
      none_some : None ≡ Some key → ⊥
      none_some h = cc

      by_test : (t z : Bool) → is_short k ≡ t → (if t then (if z then Some (range_at (byte image (Block (file_selector entry))) (place entry + 96) k) else None) else option_map (take k) (stored_at image (k + 1) l)) ≡ Some key → key ≡ data_at image (key_address entry k l) (bytes_before k) k
      by_test true true e h = short_bytes e cc
      by_test true false e h = absurd (none_some h)
      by_test false z e h = let m = map_some (take k) (stored_at image (k + 1) l) key h in long_bytes e m.0 (stored_is image (k + 1) l m.0 (omega arith) m.1.0) m.1.1

module _ (files : BlockFiles) (image : Image) (entry : ℕ) (key : List ℕ) (k l : ℕ) (agrees : Agrees files image) (kind : kind_of entry ≡ blocks_256) (has : may_have entry k ≡ true) where
  short_key : is_short k ≡ true → key ≡ range_at (byte image (Block (file_selector entry))) (place entry + 96) k → IsKey files image entry key k l
  unfolding key_address
  short_key short is = record {
    has = has;
    holds = λ long. absurd (let z : true ≡ false = sym short ∙ long in cc);
    len = ap length is ∙ length-range k (place entry + 96) (byte image (Block (file_selector entry)));
    is = short_bytes image entry key k l kind short is;
    there = rw short (λ e. absurd (entry_blocky image entry key k l kind e));
  }

  long_there : (bytes : List ℕ) → IsStored image (k + 1) l bytes → IsInFile l 0 k image
  long_there bytes s is =
      ⊎_elim (λ (outside : (kind_of l ≡ external) × ((length_of image (External (external_number l)) ≡ k + 1) × (bytes ≡ range_at (byte image (External (external_number l))) 0 (k + 1)))). let h = outside.1.0 in omega (arith, h))
      (λ (inside : (kind_of l ≢ external) × (bytes ≡ range_at (byte image (Block (file_selector l))) (place l) (k + 1))). absurd (inside.0 is)) s.at

  long_holds : (bytes : List ℕ) → IsStored image (k + 1) l bytes → may_hold files k l ≡ true
  unfolding stores
  long_holds bytes s =
      both (is_storage (k + 1) l) ((kind_of l == external) || stands_among files l) s.storage
      (⊎_elim (λ (e : (kind_of l == external) ≡ true). rw e refl)
      (λ (e : (kind_of l == external) ≡ false).
      let block_kind : kind_of l ≢ external = (λ same. let z : (kind_of l == external) ≡ true = grind (arith, nat_tests) in let y : true ≡ false = sym z ∙ e in cc) in
      let h = blocks_stand files image l agrees block_kind s.stands_there in rw (e, h) refl)
      (cases_Bool (kind_of l == external)))

  long_key : is_short k ≡ false → (bytes : List ℕ) → IsStored image (k + 1) l bytes → key ≡ take k bytes → IsKey files image entry key k l
  unfolding key_address bytes_before
  long_key long bytes s is =
      let at : key ≡ data_at image (key_address entry k l) (bytes_before k) k = long_bytes image entry key k l kind long bytes s is in
      record {
        has = has;
        holds = λ _. long_holds bytes s;
        len = ap length at ∙ length-range k (data_start (key_address entry k l) + bytes_before k) (byte image (data_file (key_address entry k l)));
        is = at;
        there = rw long (long_there bytes s);
      }

  pub keyed : (if is_short k then (if l == 0 then Some (range_at (byte image (Block (file_selector entry))) (place entry + 96) k) else None) else option_map (take k) (stored_at image (k + 1) l)) ≡ Some key → IsKey files image entry key k l
  keyed e = by_test (is_short k) (l == 0) refl e
    where
      none_some : None ≡ Some key → ⊥
      none_some h = cc

      by_test : (t z : Bool) → is_short k ≡ t → (if t then (if z then Some (range_at (byte image (Block (file_selector entry))) (place entry + 96) k) else None) else option_map (take k) (stored_at image (k + 1) l)) ≡ Some key → IsKey files image entry key k l
      by_test true true e h = short_key e cc
      by_test true false e h = absurd (none_some h)
      by_test false z e h = let m = map_some (take k) (stored_at image (k + 1) l) key h in long_key e m.0 (stored_is image (k + 1) l m.0 (omega arith) m.1.0) m.1.1

-- a length that is right for the record is one that it may have
pub length_right : (entry : ℕ) (fields : RecordFields) → is_key_length entry fields ≡ true → may_have entry fields.key_len ≡ true
unfolding is_key_length may_have
length_right entry fields e =
    let a = and_parts (nat_le 1 fields.key_len && nat_le fields.key_len (longest_key_with fields)) (block_count entry == entry_blocks fields.key_len) e in
    let b = and_parts (nat_le 1 fields.key_len) (nat_le fields.key_len (longest_key_with fields)) a.0 in
    let most : nat_le fields.key_len 32796 ≡ true = by_test (fields.flags == 2) b.1 in
    both (nat_le 1 fields.key_len && nat_le fields.key_len 32796) (block_count entry == entry_blocks fields.key_len) (both (nat_le 1 fields.key_len) (nat_le fields.key_len 32796) b.0 most) a.1
  where
    by_test : (t : Bool) → nat_le fields.key_len (if t then 32796 else 32768) ≡ true → nat_le fields.key_len 32796 ≡ true
    by_test true h = h
    by_test false h = grind (arith, nat_tests)

-- what the key of a record is by its words
record IsKeyOf (image : Image) (entry : ℕ) (key : List ℕ) : Type 0 where
  right : is_key_length entry (fields_of (entry_at image entry)) ≡ true
  of : stored_key (store_of image) entry (fields_of (entry_at image entry)) ≡ Some key

key_parts : (image : Image) (entry : ℕ) (key : List ℕ) → key_at image entry ≡ Some key → IsKeyOf image entry key
unfolding key_at fields_at
key_parts image entry key e = by_stands (stands_as image blocks_256 entry) e
  where
    none_some : None ≡ Some key → ⊥
    none_some h = cc

    by_length : (t : Bool) → is_key_length entry (fields_of (entry_at image entry)) ≡ t → (if t then stored_key (store_of image) entry (fields_of (entry_at image entry)) else None) ≡ Some key → IsKeyOf image entry key
    by_length true l h = record { right = l; of = h }
    by_length false l h = absurd (none_some h)

    by_stands : (t : Bool) → option_and_then (λ fields. if is_key_length entry fields then stored_key (store_of image) entry fields else None) (if t then Some (fields_of (entry_at image entry)) else None) ≡ Some key → IsKeyOf image entry key
    by_stands true h = by_length (is_key_length entry (fields_of (entry_at image entry))) refl h
    by_stands false h = absurd (none_some h)

pub key_facts : (files : BlockFiles) (image : Image) (entry : ℕ) (key : List ℕ) → Agrees files image → kind_of entry ≡ blocks_256 → key_at image entry ≡ Some key → IsKey files image entry key (entry_at image entry).key_len (entry_at image entry).long_key
unfolding stored_key store_of key_place_at
key_facts files image entry key agrees kind e =
    let parts = key_parts image entry key e in
    keyed files image entry key (entry_at image entry).key_len (entry_at image entry).long_key agrees kind (length_right entry (fields_of (entry_at image entry)) parts.right) parts.of

-- a key that is read is the bytes where the words of its record say that it lies
pub key_is_bytes : (image : Image) (entry : ℕ) (key : List ℕ) → kind_of entry ≡ blocks_256 → key_at image entry ≡ Some key → key ≡ key_bytes image entry
unfolding stored_key store_of key_place_at key_bytes
key_is_bytes image entry key kind e = bytes_keyed image entry key (entry_at image entry).key_len (entry_at image entry).long_key kind (key_parts image entry key e).of

-- A read that gave too few bytes.

pub short_is_cut : (told : Told) (w at n : ℕ) (d : Damage) → kind_of w ≢ external → IsShort told (names.Block (file_selector w)) (place w + at) n d → IsCut told w at n d
unfolding data_name data_start
short_is_cut told w at n d block_kind short =
    let t : (kind_of w == external) ≡ false = grind (arith, nat_tests) in
    rw t short

few_is_short : (told : Told) (number place count : ℕ) (d : Damage) → count < 2 ^ 32 → IsFew told number place count d → IsShort told (names.External number) place count d
few_is_short told number place count d small few =
    let given : d.found ≡ few.given = few.found ∙ (let h : few.given % 2 ^ 32 ≡ few.given = omega (arith, small, few.few) in h) in
    record { of_file = few.of_file; at_place = few.at_place; few = omega (arith, given, few.few); many = λ image there. given ∙ few.many image there }

pub few_is_cut : (told : Told) (w at n : ℕ) (d : Damage) → kind_of w ≡ external → n < 2 ^ 32 → IsFew told (external_number w) at n d → IsCut told w at n d
unfolding data_name data_start
few_is_cut told w at n d outside small few =
    let t : (kind_of w == external) ≡ true = grind (arith, nat_tests) in
    let zero_at : 0 + at ≡ at = omega arith in
    rw (t, zero_at) (few_is_short told (external_number w) at n d small few)

-- a read of a piece of the bytes at the place of a key
pub key_is_cut : (files : BlockFiles) (told : Told) (entry k l : ℕ) (place : KeyPlace) (d : Damage) → IsPlaced files entry k l → IsPlaceOfKey entry k l place → IsCutPiece told place.addr place.skip place.len d → IsCutKey files told entry k l d
key_is_cut files told entry k l place d placed is cut = record {
  placed = placed;
  cut = subst (λ (n : ℕ). IsCutPiece told (key_address entry k l) (bytes_before k) n d) is.len
      (subst (λ (i : ℕ). IsCutPiece told (key_address entry k l) i place.len d) is.skip (subst (λ (w : ℕ). IsCutPiece told w place.skip place.len d) is.addr cut));
}

-- a read of the bytes from a place on, as many as there are and as fit
pub part_is_cut : (files : BlockFiles) (told : Told) (entry k l : ℕ) (place : KeyPlace) (at size from n : ℕ) (d : Damage) → IsPlaced files entry k l → IsPlaceOfKey entry k l place → from ≡ min at place.len → n ≡ min (place.len - from) size → IsCut told place.addr (place.skip + from) n d
    → IsCutPart files told entry k l at size d
part_is_cut files told entry k l place at size from n d placed is start count cut =
    let len = is.len in
    let skip = is.skip in
    let first : from ≡ min at k = omega (arith, start, len) in
    let many : n ≡ min (k - min at k) size = omega (arith, count, first, len) in
    let there : place.skip + from ≡ bytes_before k + min at k = omega (arith, skip, first) in
    record {
      placed = placed;
      cut = subst (λ (w : ℕ). IsCut told w (bytes_before k + min at k) (min (k - min at k) size) d) is.addr
          (subst (λ (i : ℕ). IsCut told place.addr i (min (k - min at k) size) d) there (subst (λ (m : ℕ). IsCut told place.addr (place.skip + from) m d) many cut));
    }

-- a read of the next piece
pub next_is_cut : (told : Told) (w at n place left count : ℕ) (d : Damage) → at ≤ place → place + left ≡ at + n → (place - at) % 16398 ≡ 0 → 0 < left → count ≡ min left 16398 → IsCut told w place count d → IsCutPiece told w at n d
next_is_cut told w at n place left count d order sum whole some size cut =
    let piece : ℕ = (place - at) / 16398 in
    let e : piece * 16398 ≡ place - at = omega (arith, whole) in
    let there : place ≡ at + piece * 16398 = omega (arith, e, order) in
    let many : count ≡ min (n - piece * 16398) 16398 = omega (arith, size, e, order, sum) in
    record {
      piece = piece;
      inside = omega (arith, e, order, sum, some);
      cut = subst (λ (i : ℕ). IsCut told w i (min (n - piece * 16398) 16398) d) there (subst (λ (m : ℕ). IsCut told w place m d) many cut);
    }

-- after a piece the place is one of pieces still, or nothing is left
pub next_pieces : (place at left piece rest : ℕ) → at ≤ place → (place - at) % 16398 ≡ 0 → piece ≡ min left 16398 → piece + rest ≡ left → ((place + piece - at) % 16398 ≡ 0) ⊎ (rest ≡ 0)
next_pieces place at left piece rest order whole size sum =
    ⊎_elim (λ (few : left < 16398). inr (omega (arith, few, size, sum))) (λ (many : 16398 ≤ left). inl (let e : place + piece - at ≡ (place - at) + 16398 = omega (arith, order, many, size) in omega (arith, e, whole))) (cases_lt left 16398)

pub some_left : (bytes : List ℕ) → (length bytes == 0) ≡ false → 0 < length bytes
some_left bytes e = grind (arith, nat_tests)

pub err_damaged : (A : Type 0) (x : Fault) (d : Damage) (P : Damage → Type 0) → x ≡ Damaged d → P d → IfDamaged {A = A} (Err x) P
err_damaged A x d P is holds = subst (λ (y : Fault). IfDamaged {A = A} (Err y) P) (sym is) holds

pub damaged_any : {A : Type 0} (r : Result A Fault) (X : Type 0) → X → IfDamaged r (λ _. X)
damaged_any (Ok a) X x = tt
damaged_any (Err Device) X x = tt
damaged_any (Err (Damaged d)) X x = x

-- the key of a record by the words that were read of it
pub head_facts : (files : BlockFiles) (image : Image) (entry : ℕ) (head : Head) (key : List ℕ) → Agrees files image → kind_of entry ≡ blocks_256 → IsRecordHead image entry head → key_at image entry ≡ Some key → IsKey files image entry key head.key_len head.long_key
head_facts files image entry head key agrees kind words is =
    subst (λ (l : ℕ). IsKey files image entry key head.key_len l) (sym words.long_key) (subst (λ (k : ℕ). IsKey files image entry key k (entry_at image entry).long_key) (sym words.key_len) (key_facts files image entry key agrees kind is))

-- a piece of a key
pub piece_is : (key bytes old : List ℕ) (f : ℕ → ℕ) (i k at a n : ℕ) → key ≡ range_at f i k → a ≡ min at k → n ≡ min (k - a) (length old) → bytes ≡ range_at f (i + a) n → IsPiece key at old (bytes ++ drop n old) n
unfolding range_at
piece_is key bytes old f i k at a n is clipped many read = record {
  many = let size : length key ≡ k = ap length is ∙ length-range k i f in omega (arith, size, clipped, many);
  front = take-append-le n bytes (drop n old) (omega (arith, long)) ∙ take_all n bytes (omega (arith, long)) ∙ read ∙ sym (⊎_elim past here (cases_lt k at));
  rest = ap (λ (m : ℕ). drop m (bytes ++ drop n old)) (sym long) ∙ drop-append_seam bytes (drop n old);
}
  where
    long : length bytes ≡ n
    long = ap length read ∙ length-range n (i + a) f

    here : at ≤ k → take n (drop at key) ≡ range_at f (i + a) n
    here within =
        let e : a ≡ at = omega (arith, within, clipped) in
        let split : k ≡ at + (k - at) = omega (arith, within) in
        ap (λ (l : List ℕ). take n (drop at l)) is
        ∙ ap (λ (m : ℕ). take n (drop at (range_at f i m))) split
        ∙ ap (take n) (drop-range at (k - at) i f)
        ∙ take-range n (k - at) (i + at) f (omega (arith, many, e))
        ∙ ap (λ (j : ℕ). range_at f (i + j) n) (sym e)

    past : k < at → take n (drop at key) ≡ range_at f (i + a) n
    past beyond =
        let none : n ≡ 0 = omega (arith, many, clipped, beyond) in
        ap (λ (m : ℕ). take m (drop at key)) none ∙ ap (λ (m : ℕ). range_at f (i + a) m) (sym none)

-- a key by the place that was found for it
pub key_in_place : (files : BlockFiles) (image : Image) (entry k l : ℕ) (key : List ℕ) (place : KeyPlace) → IsKey files image entry key k l → IsPlaceOfKey entry k l place → key ≡ data_at image place.addr place.skip place.len
key_in_place files image entry k l key place known at = known.is ∙ (λ j. data_at image (sym at.addr j) (sym at.skip j) (sym at.len j))

pub piece_there : (files : BlockFiles) (image : Image) (entry k l : ℕ) (key : List ℕ) (place : KeyPlace) (a n : ℕ) → IsKey files image entry key k l → IsPlaceOfKey entry k l place → a + n ≤ place.len → IsInFile place.addr (place.skip + a) n image
piece_there files image entry k l key place a n known at within e =
    let h = subst (λ (w : ℕ). IsInFile w (bytes_before k) k image) (sym at.addr) known.there e in
    omega (arith, h, at.skip, at.len, within)

pub clash : false ≡ true → ⊥
clash e = cc

-- Bytes that are compared a piece at a time.

-- what is left is the same exactly where all is, and the piece before it was
pub split_same : (f : ℕ → ℕ) (i k : ℕ) (rest : List ℕ) → k ≤ length rest → take k rest ≡ range_at f i k → (drop k rest ≡ range_at f (i + k) (length (drop k rest))) ↔ (rest ≡ range_at f i (length rest))
split_same f i k rest fits piece = (λ left. sym (take-append-drop k rest) ∙ (λ j. piece j ++ left j) ∙ sym (range-add k (length (drop k rest)) i f) ∙ ap (range_at f i) size, λ all. ap (drop k) (all ∙ ap (range_at f i) (sym size)) ∙ drop-range k (length (drop k rest)) i f)
  where
    size : k + length (drop k rest) ≡ length rest
    size = let h = length-drop k rest in omega (arith, h, fits)

-- the piece is the same where all is
pub prefix_same : (f : ℕ → ℕ) (i k : ℕ) (rest : List ℕ) → k ≤ length rest → rest ≡ range_at f i (length rest) → take k rest ≡ range_at f i k
prefix_same f i k rest fits all = ap (take k) all ∙ take-range k (length rest) i f fits

module _ (image : Image) (w at k : ℕ) (rest piece more : List ℕ) (front : piece ≡ take k rest) (back : more ≡ drop k rest) (fits : k ≤ length rest) where
  size_of_piece : length piece ≡ k
  size_of_piece = let h = length-take k rest in ap length front ∙ omega (arith, h, fits)

  pub first_same : rest ≡ data_at image w at (length rest) → piece ≡ data_at image w at (length piece)
  first_same all = front ∙ prefix_same (byte image (data_file w)) (data_start w + at) k rest fits all ∙ ap (range_at (byte image (data_file w)) (data_start w + at)) (sym size_of_piece)

  pub next_same : (P : Type 0) → piece ≡ data_at image w at (length piece) → (rest ≡ data_at image w at (length rest)) ↔ P → (more ≡ data_at image w (at + length piece) (length more)) ↔ P
  next_same P same whole =
      let f : ℕ → ℕ = byte image (data_file w) in
      let s = split_same f (data_start w + at) k rest fits (sym front ∙ same ∙ ap (range_at f (data_start w + at)) size_of_piece) in
      let place : data_start w + at + k ≡ data_start w + (at + length piece) = omega (arith, size_of_piece) in
      let there : range_at f (data_start w + at + k) (length (drop k rest)) ≡ range_at f (data_start w + (at + length piece)) (length more) = (λ j. range_at f (place j) (length (sym back j))) in
      (λ left. whole.0 (s.0 (sym back ∙ left ∙ sym there)), λ p. back ∙ s.1 (whole.1 p) ∙ there)

-- all of a key is in the file
pub whole_there : (files : BlockFiles) (image : Image) (entry k l : ℕ) (key : List ℕ) (place : KeyPlace) (n : ℕ) → IsKey files image entry key k l → IsPlaceOfKey entry k l place → n ≡ place.len → IsInFile place.addr place.skip n image
whole_there files image entry k l key place n known at all e =
    let h = subst (λ (w : ℕ). IsInFile w (bytes_before k) k image) (sym at.addr) known.there e in
    omega (arith, h, at.skip, at.len, all)

-- the bytes of a key by the place that was found for it
pub bytes_in_place : (image : Image) (entry : ℕ) (head : Head) (place : KeyPlace) → IsRecordHead image entry head → IsPlaceOfKey entry head.key_len head.long_key place → key_bytes image entry ≡ data_at image place.addr place.skip place.len
unfolding key_bytes
bytes_in_place image entry head place words at =
    let a : place.addr ≡ key_address entry (entry_at image entry).key_len (entry_at image entry).long_key = at.addr ∙ (λ j. key_address entry (words.key_len j) (words.long_key j)) in
    let b : place.skip ≡ bytes_before (entry_at image entry).key_len = at.skip ∙ ap bytes_before words.key_len in
    let c : place.len ≡ (entry_at image entry).key_len = at.len ∙ words.key_len in
    λ j. data_at image (sym a j) (sym b j) (sym c j)

-- a key has the bytes of a place exactly where they lie at the place of its length
pub bytes_by_place : (image : Image) (entry k l : ℕ) (key : List ℕ) (place : KeyPlace) → IsPlaceOfKey entry k l place → k ≡ length key → (key ≡ data_at image place.addr place.skip (length key)) ↔ AreKeyBytes key entry k l image
bytes_by_place image entry k l key place at size = (λ same. record { len = size; bytes = same ∙ there }, λ are. are.bytes ∙ sym there)
  where
    there : data_at image place.addr place.skip (length key) ≡ data_at image (key_address entry k l) (bytes_before k) k
    there = λ j. data_at image (at.addr j) (at.skip j) (sym size j)

-- the words that were read are those of the record
pub bytes_of_head : (image : Image) (entry : ℕ) (head : Head) (key : List ℕ) → IsRecordHead image entry head → AreKeyBytes key entry head.key_len head.long_key image ↔ AreKeyBytes key entry (entry_at image entry).key_len (entry_at image entry).long_key image
bytes_of_head image entry head key words = (λ are. subst (λ (l : ℕ). AreKeyBytes key entry (entry_at image entry).key_len l image) words.long_key (subst (λ (k : ℕ). AreKeyBytes key entry k head.long_key image) words.key_len are), λ are. subst (λ (l : ℕ). AreKeyBytes key entry head.key_len l image) (sym words.long_key) (subst (λ (k : ℕ). AreKeyBytes key entry k (entry_at image entry).long_key image) (sym words.key_len) are))

-- bytes of a key that are where the words that were read say are where the record's say
pub key_bytes_there : (image : Image) (entry : ℕ) (head : Head) (n : ℕ) → IsRecordHead image entry head → HasData (key_address entry head.key_len head.long_key) (bytes_before head.key_len) n image → HasKeyBytes entry 0 n image
key_bytes_there image entry head n words has =
    let first : bytes_before head.key_len ≡ bytes_before (entry_at image entry).key_len + 0 = ap bytes_before words.key_len ∙ sym (add-zero (bytes_before (entry_at image entry).key_len)) in
    subst (λ (i : ℕ). HasData (key_address entry (entry_at image entry).key_len (entry_at image entry).long_key) i n image) first
    (subst (λ (w : ℕ). HasData w (bytes_before head.key_len) n image) (λ j. key_address entry (words.key_len j) (words.long_key j)) has)

-- a record whose key can be read has this one exactly where its bytes are these
pub key_by_bytes : (image : Image) (entry : ℕ) (key : List ℕ) → kind_of entry ≡ blocks_256 → HasReadableKey entry image → AreKeyBytes key entry (entry_at image entry).key_len (entry_at image entry).long_key image ↔ (key_at image entry ≡ Some key)
unfolding key_bytes
key_by_bytes image entry key kind has = (
  λ are. has.is ∙ ap Some (key_is_bytes image entry has.key kind has.is ∙ sym are.bytes),
  λ is. let same : has.key ≡ key = some_inj (sym has.is ∙ is) in let at : key ≡ key_bytes image entry = key_is_bytes image entry key kind is in
      record { len = sym (ap length at ∙ length-range (entry_at image entry).key_len (data_start (key_address entry (entry_at image entry).key_len (entry_at image entry).long_key) + bytes_before (entry_at image entry).key_len) (byte image (data_file (key_address entry (entry_at image entry).key_len (entry_at image entry).long_key)))); bytes = at },
)

-- no bytes are those of any place
pub none_same : (f : ℕ → ℕ) (i : ℕ) (rest : List ℕ) → (length rest == 0) ≡ true → rest ≡ range_at f i (length rest)
unfolding range_at
none_same f i [] e = refl
none_same f i (b ∷ rest) e = let zero_long : length (b ∷ rest) ≡ 0 = eqb-true (length (b ∷ rest)) 0 e in absurd (omega (arith, zero_long))

pub ok_weaker : {A E : Type 0} (r : Result A E) (P Q : A → Type 0) → ((a : A) → P a → Q a) → IfOk r P → IfOk r Q
ok_weaker (Ok a) P Q weaker holds = weaker a holds
ok_weaker (Err e) P Q weaker holds = tt

pub ok_there : {A E : Type 0} (r : Result A E) → OnOk r (Unit {0})
ok_there (Ok a) = tt
ok_there (Err e) = tt
