-- Where the streams of a record lie.
use Rattle.std.proofs.Common.{◌≡◌, ◌≢◌, ◌⊎◌, inl, inr, ⊎_elim, ℕ, zero, suc, ◌+◌, ◌-◌, ◌*◌, ◌/◌, ◌<◌, ◌≤◌, Bool, true, false, ◌&&◌, ◌||◌, if◌then◌else◌, List, [], ◌∷◌, ◌++◌, length, drop, Option, None, Some, Result, Ok, Err, refl, sym, ◌∙◌, ap, subst, arith, add-zero}
use Rattle.std.specs.Prelude.{◌==◌, nat_le, not, min, slice_index, IsOk}
use Rattle.std.proofs.lemmas.Bool.{and_parts, eqb-true, cases_Bool, leb-true}
use Rattle.std.proofs.lemmas.Bool.Decides.{nat_tests}
use Rattle.std.specs.Option.{option_and_then, option_map}
use Rattle.spec_image.specs.Bytes.{word_at, words_at, range_at}
use Rattle.spec_image.specs.Image.{Block, External, Image, byte, has_file, length_of, word}
use Rattle.spec_image.proofs.Words.{length-range}
use Rattle.spec_format.specs.Address.{kind_of, block_count, is_address, is_initialized, external, external_number, file_selector, place, byte_size, blocks_256}
use Rattle.spec_format.specs.Records.{entry_in}
use Rattle.spec_format.specs.Storage.{is_storage, kind_for, blocks_for}
use Rattle.spec_format.specs.Standing.{stands}
use Rattle.spec_format.specs.BlockFiles.{stands_in, stands_in_blocks}
use Rattle.spec_folder.specs.View.{RecordFields, fields_at, fields_of, entry_at, data_size_of, address_of, stands_as, stored_at, store_of}
use Rattle.spec_folder.specs.Entries.{most_stream_bytes, stream, stored_stream, stored_streams}
use Rattle.blk_disk.specs.declared.tables.BlockFiles.{BlockFiles}
use Rattle.blk_disk.specs.Tables.{Agrees, stands_among}
use Rattle.blk_disk.proofs.Ranges.{stands_agree}
use Rattle.blk_io.specs.declared.fault.Fault.{Fault}
use Rattle.blk_io.specs.declared.fault.Fault.TheVariants.{Device, Damaged}
use Rattle.blk_io.specs.Faults.{IfDamaged}
use Rattle.blk_io.proofs.Carried.{untold_where}
use Rattle.blk_entry.specs.Keys.{data_at, data_file, data_start, stores, IsInFile, IsInside, IsPiece}
use Rattle.blk_entry.proofs.KeyPlaces.{data_of_blocks, data_of_external, piece_is, storage_room}
use Rattle.blk_stream.specs.Streams.{address_place, address_word, may_keep, size_place, size_word, stored_by, stream_bytes, streams_at}

-- the words of a list of four
pub word_of_four : (f : ℕ → ℕ) (a i : ℕ) → i < 3 → slice_index (words_at f a 4) i ≡ word_at f (a + 4 * i)
unfolding words_at
word_of_four f a zero small = ap (word_at f) (let h : a ≡ a + 4 * 0 = omega arith in h)
word_of_four f a (suc zero) small = ap (word_at f) (let h : a + 4 ≡ a + 4 * 1 = omega arith in h)
word_of_four f a (suc (suc zero)) small = ap (word_at f) (let h : a + 4 + 4 ≡ a + 4 * 2 = omega arith in h)
word_of_four f a (suc (suc (suc i))) small = absurd (let h : suc (suc (suc i)) < 3 = small in omega (arith, h))

-- the size and the address of a stream as words of its record
pub size_at : (image : Image) (entry i : ℕ) → i < 3 → size_word image entry i ≡ word image (Block (file_selector entry)) (place entry + size_place i)
unfolding entry_in
size_at image entry i small = word_of_four (byte image (Block (file_selector entry))) (place entry + 40) i small ∙ ap (word image (Block (file_selector entry))) (let h : place entry + 40 + 4 * i ≡ place entry + (40 + 4 * i) = omega arith in h)

pub address_at : (image : Image) (entry i : ℕ) → i < 3 → address_word image entry i ≡ word image (Block (file_selector entry)) (place entry + address_place i)
unfolding entry_in
address_at image entry i small = word_of_four (byte image (Block (file_selector entry))) (place entry + 56) i small ∙ ap (word image (Block (file_selector entry))) (let h : place entry + 56 + 4 * i ≡ place entry + (56 + 4 * i) = omega arith in h)

pub clash : false ≡ true → ⊥
clash e = cc

-- data of a size that an address word stores
pub record IsStored (image : Image) (size w : ℕ) (bytes : List ℕ) : Type 0 where
  pub storage : is_storage size w ≡ true
  pub stands_there : stands_in image w ≡ true
  pub at : ((kind_of w ≡ external) × ((length_of image (External (external_number w)) ≡ size) × (bytes ≡ range_at (byte image (External (external_number w))) 0 size)))
      ⊎ ((kind_of w ≢ external) × (bytes ≡ range_at (byte image (Block (file_selector w))) (place w) size))

pub stored_is : (image : Image) (size w : ℕ) (bytes : List ℕ) → 0 < size → stored_at image size w ≡ Some bytes → IsStored image size w bytes
unfolding stored_at
stored_is image size w bytes some e =
    by_tests (is_storage size w) (size == 0) (stands_in image w) (kind_of w == external) (length_of image (External (external_number w)) == size) refl refl refl refl (let z : (size == 0) ≡ false = grind (arith, nat_tests) in z) e
  where
    none_some : None ≡ Some bytes → ⊥
    none_some h = cc

    by_tests : (a b c d x : Bool) → is_storage size w ≡ a → stands_in image w ≡ c → (kind_of w == external) ≡ d → (length_of image (External (external_number w)) == size) ≡ x → b ≡ false
        → (if not a then None else if b then Some [] else if not c then None else if d then (if x then Some (range_at (byte image (External (external_number w))) 0 size) else None) else Some (range_at (byte image (Block (file_selector w))) (place w) size)) ≡ Some bytes
        → IsStored image size w bytes
    by_tests false b c d x ea ec ed ex eb h = absurd (none_some h)
    by_tests true true c d x ea ec ed ex eb h = absurd (let z : true ≡ false = eb in cc)
    by_tests true false false d x ea ec ed ex eb h = absurd (none_some h)
    by_tests true false true true false ea ec ed ex eb h = absurd (none_some h)
    by_tests true false true true true ea ec ed ex eb h = record { storage = ea; stands_there = ec; at = inl (eqb-true (kind_of w) external ed, (eqb-true (length_of image (External (external_number w))) size ex, cc)) }
    by_tests true false true false x ea ec ed ex eb h = record { storage = ea; stands_there = ec; at = inr ((λ same. let z : (kind_of w == external) ≡ true = grind (arith, nat_tests) in let y : true ≡ false = sym z ∙ ed in cc), cc) }

blocks_stand : (files : BlockFiles) (image : Image) (w : ℕ) → Agrees files image → kind_of w ≢ external → stands_in image w ≡ true → stands_among files w ≡ true
unfolding stands
blocks_stand files image w agrees blocky st =
    let t : (kind_of w == external) ≡ false = grind (arith, nat_tests) in
    let b = (and_parts (is_address w) (if kind_of w == external then has_file image (External (external_number w)) else stands_in_blocks image w) st).1 in
    let c : stands_in_blocks image w ≡ true = rw t at b in
    stands_agree files image w agrees ∙ c

-- what is known of a stream: its words are right, and its bytes are there
pub record IsStream (files : BlockFiles) (image : Image) (size w : ℕ) (bytes : List ℕ) : Type 0 where
  pub keep : may_keep files size w ≡ true
  pub len : length bytes ≡ size
  pub is : bytes ≡ data_at image w 0 size
  pub there : IsInFile w 0 size image

stored_none : (image : Image) (w : ℕ) (bytes : List ℕ) → stored_at image 0 w ≡ Some bytes → (w ≡ 0) × (bytes ≡ [])
unfolding stored_at is_storage
stored_none image w bytes e = by_test (w == 0) refl e
  where
    none_some : None ≡ Some bytes → ⊥
    none_some h = cc

    by_test : (t : Bool) → (w == 0) ≡ t → (if not t then None else Some []) ≡ Some bytes → (w ≡ 0) × (bytes ≡ [])
    by_test true z h = (eqb-true w 0 z, cc)
    by_test false z h = absurd (none_some h)

-- the word of no bytes
none_storage : (w : ℕ) → is_storage 0 w ≡ true → w ≡ 0
unfolding is_storage
none_storage w e = eqb-true w 0 e

both : (a b : Bool) → a ≡ true → b ≡ true → (a && b) ≡ true
both a b e f = rw (e, f) refl

pub zero_kept : (files : BlockFiles) → may_keep files 0 0 ≡ true
unfolding may_keep stores is_storage kind_of
zero_kept files = refl

none_stream : (files : BlockFiles) (image : Image) (w : ℕ) (bytes : List ℕ) → stored_at image 0 w ≡ Some bytes → IsStream files image 0 w bytes
unfolding range_at
none_stream files image w bytes e =
    let h = stored_none image w bytes e in
    subst (λ (v : ℕ). IsStream files image 0 v bytes) (sym h.0)
    (record { keep = zero_kept files; len = ap length h.1; is = h.1; there = λ x. omega arith })

at_data : (image : Image) (size w : ℕ) (bytes : List ℕ) → IsStored image size w bytes → bytes ≡ data_at image w 0 size
at_data image size w bytes s =
    ⊎_elim (λ (outside : (kind_of w ≡ external) × ((length_of image (External (external_number w)) ≡ size) × (bytes ≡ range_at (byte image (External (external_number w))) 0 size))). outside.1.1 ∙ sym (data_of_external image w 0 size outside.0))
    (λ (inside : (kind_of w ≢ external) × (bytes ≡ range_at (byte image (Block (file_selector w))) (place w) size)).
    inside.1 ∙ ap (λ (i : ℕ). range_at (byte image (Block (file_selector w))) i size) (sym (add-zero (place w))) ∙ sym (data_of_blocks image w 0 size inside.0)) s.at

module _ (files : BlockFiles) (image : Image) (size w : ℕ) (bytes : List ℕ) (agrees : Agrees files image) (some : 0 < size) (s : IsStored image size w bytes) where
  stored_there : IsInFile w 0 size image
  stored_there is =
      ⊎_elim (λ (outside : (kind_of w ≡ external) × ((length_of image (External (external_number w)) ≡ size) × (bytes ≡ range_at (byte image (External (external_number w))) 0 size))). let h = outside.1.0 in omega (arith, h))
      (λ (inside : (kind_of w ≢ external) × (bytes ≡ range_at (byte image (Block (file_selector w))) (place w) size)). absurd (inside.0 is)) s.at

  stored_stores : stores files size w ≡ true
  unfolding stores
  stored_stores =
      both (is_storage size w) ((kind_of w == external) || stands_among files w) s.storage
      (⊎_elim (λ (e : (kind_of w == external) ≡ true). rw e refl)
      (λ (e : (kind_of w == external) ≡ false).
      let blocky : kind_of w ≢ external = (λ same. let z : (kind_of w == external) ≡ true = grind (arith, nat_tests) in let y : true ≡ false = sym z ∙ e in cc) in
      let h = blocks_stand files image w agrees blocky s.stands_there in rw (e, h) refl)
      (cases_Bool (kind_of w == external)))

  stored_length : length bytes ≡ size
  stored_length = ap length (at_data image size w bytes s) ∙ length-range size _ _

  pub some_stream : nat_le size most_stream_bytes ≡ true → IsStream files image size w bytes
  unfolding may_keep
  some_stream most =
      record { keep = rw (most, stored_stores) refl; len = stored_length; is = at_data image size w bytes s; there = stored_there }

-- the streams of a record, one by one
pub streams_parts : (image : Image) (fields : RecordFields) (streams : List (List ℕ)) → stored_streams (store_of image) fields ≡ Some streams → (i : ℕ) → i < 3 → stored_stream (store_of image) fields i ≡ Some (stream i streams)
unfolding stored_streams
streams_parts image fields streams e i small = one i small (parts ((data_size_of fields 3 == 0) && (address_of fields 3 == 0)) (stored_stream (store_of image) fields 0) (stored_stream (store_of image) fields 1) (stored_stream (store_of image) fields 2) e)
  where
    none_some : None ≡ Some streams → ⊥
    none_some h = cc

    Parts : Option (List ℕ) → Option (List ℕ) → Option (List ℕ) → Type 0
    Parts a b c = (a ≡ Some (stream 0 streams)) × (b ≡ Some (stream 1 streams)) × (c ≡ Some (stream 2 streams))

    parts : (t : Bool) (a b c : Option (List ℕ)) → (if not t then None else option_and_then (λ first. option_and_then (λ second. option_map (λ third. first ∷ second ∷ third ∷ []) c) b) a) ≡ Some streams → Parts a b c
    parts false a b c h = absurd (none_some h)
    parts true None b c h = absurd (none_some h)
    parts true (Some x) None c h = absurd (none_some h)
    parts true (Some x) (Some y) None h = absurd (none_some h)
    parts true (Some x) (Some y) (Some z) h =
        let all : x ∷ y ∷ z ∷ [] ≡ streams = cc in
        (ap (λ (s : List (List ℕ)). Some (stream 0 s)) all, ap (λ (s : List (List ℕ)). Some (stream 1 s)) all, ap (λ (s : List (List ℕ)). Some (stream 2 s)) all)

    one : (i : ℕ) → i < 3 → Parts (stored_stream (store_of image) fields 0) (stored_stream (store_of image) fields 1) (stored_stream (store_of image) fields 2) → stored_stream (store_of image) fields i ≡ Some (stream i streams)
    one zero small p = p.0
    one (suc zero) small p = p.1
    one (suc (suc zero)) small p = p.2
    one (suc (suc (suc i))) small p = absurd (let h : suc (suc (suc i)) < 3 = small in omega (arith, h))

-- the words of no bytes
pub none_word : (files : BlockFiles) (w : ℕ) → may_keep files 0 w ≡ true → w ≡ 0
unfolding may_keep stores
none_word files w e = none_storage w (and_parts (is_storage 0 w) ((kind_of w == external) || stands_among files w) (and_parts (nat_le 0 most_stream_bytes) (stores files 0 w) e).1).0

pub none_kept : (files : BlockFiles) (w : ℕ) → w ≡ 0 → may_keep files 0 w ≡ true
none_kept files w e = subst (λ (v : ℕ). may_keep files 0 v ≡ true) (sym e) (zero_kept files)

pub none_stores : (files : BlockFiles) (w : ℕ) → w ≢ 0 → stores files 0 w ≡ false
unfolding stores is_storage
none_stores files w some = let t : (w == 0) ≡ false = grind (arith, nat_tests) in rw t refl

stream_known : (files : BlockFiles) (image : Image) (fields : RecordFields) (i : ℕ) (bytes : List ℕ) → Agrees files image → stored_stream (store_of image) fields i ≡ Some bytes → IsStream files image (data_size_of fields i) (address_of fields i) bytes
unfolding stored_stream store_of
stream_known files image fields i bytes agrees e = by_test (nat_le (data_size_of fields i) most_stream_bytes) refl e
  where
    none_some : None ≡ Some bytes → ⊥
    none_some h = cc

    by_size : (n : ℕ) → n ≡ data_size_of fields i → nat_le n most_stream_bytes ≡ true → stored_at image n (address_of fields i) ≡ Some bytes → IsStream files image n (address_of fields i) bytes
    by_size zero is most h = none_stream files image (address_of fields i) bytes h
    by_size (suc n) is most h = some_stream files image (suc n) (address_of fields i) bytes agrees (omega arith) (stored_is image (suc n) (address_of fields i) bytes (omega arith) h) most

    by_test : (t : Bool) → nat_le (data_size_of fields i) most_stream_bytes ≡ t → (if t then stored_at image (data_size_of fields i) (address_of fields i) else None) ≡ Some bytes → IsStream files image (data_size_of fields i) (address_of fields i) bytes
    by_test true most h = by_size (data_size_of fields i) refl most h
    by_test false most h = absurd (none_some h)

-- what is known of a stream of a record
pub stream_facts : (files : BlockFiles) (image : Image) (entry i : ℕ) (streams : List (List ℕ)) → Agrees files image → i < 3 → streams_at image entry ≡ Some streams → IsStream files image (size_word image entry i) (address_word image entry i) (stream i streams)
unfolding streams_at fields_at
stream_facts files image entry i streams agrees small e = by_stands (stands_as image blocks_256 entry) e
  where
    none_some : None ≡ Some streams → ⊥
    none_some h = cc

    by_stands : (t : Bool) → option_and_then (stored_streams (store_of image)) (if t then Some (fields_of (entry_at image entry)) else None) ≡ Some streams → IsStream files image (size_word image entry i) (address_word image entry i) (stream i streams)
    by_stands true h = stream_known files image (fields_of (entry_at image entry)) i (stream i streams) agrees (streams_parts image (fields_of (entry_at image entry)) streams h i small)
    by_stands false h = absurd (none_some h)

-- a word that is no address stores nothing
pub not_stored : (files : BlockFiles) (size w : ℕ) → 0 < size → (if is_address w then Some w else None) ≡ None → stored_by files size w ≡ None
unfolding stores is_storage
not_stored files size w some none =
    let z : (size == 0) ≡ false = grind (arith, nat_tests) in
    rw z (by_test (is_address w) none)
  where
    by_test : (t : Bool) → (if t then Some w else None) ≡ None
        → (if ((t && (kind_of w == kind_for size) && ((kind_of w == external) || (block_count w == blocks_for size))) && ((kind_of w == external) || stands_among files w)) then Some w else None) ≡ None
    by_test true none = absurd (clashes none)
      where
        clashes : Some w ≡ None → ⊥
        clashes h = cc
    by_test false none = refl

-- an address that is found is the word, and stores the data
pub stored_by_is : (files : BlockFiles) (size w a : ℕ) → Some a ≡ stored_by files size w → (a ≡ w) × (stores files size w ≡ true)
stored_by_is files size w a e = by_test (stores files size w) refl e
  where
    by_test : (t : Bool) → stores files size w ≡ t → Some a ≡ (if t then Some w else None) → (a ≡ w) × (stores files size w ≡ true)
    by_test true h e = (cc, h)
    by_test false h e = absurd (clashes e)
      where
        clashes : Some a ≡ None → ⊥
        clashes h = cc

pub not_stored_by : (files : BlockFiles) (size w : ℕ) → stored_by files size w ≡ None → stores files size w ≡ false
not_stored_by files size w e = by_test (stores files size w) refl e
  where
    by_test : (t : Bool) → stores files size w ≡ t → (if t then Some w else None) ≡ None → stores files size w ≡ false
    by_test true h e = absurd (clashes e)
      where
        clashes : Some w ≡ None → ⊥
        clashes h = cc
    by_test false h e = h

-- words that a stream may have
pub may_parts : (files : BlockFiles) (size w : ℕ) → may_keep files size w ≡ true → (size ≤ most_stream_bytes) × (stores files size w ≡ true)
unfolding may_keep
may_parts files size w e =
    let p = and_parts (nat_le size most_stream_bytes) (stores files size w) e in
    (leb-true size most_stream_bytes p.0, p.1)

-- and words with these two are such
pub may_both : (files : BlockFiles) (size w : ℕ) → size ≤ most_stream_bytes → stores files size w ≡ true → may_keep files size w ≡ true
unfolding may_keep
may_both files size w most e = let h : nat_le size most_stream_bytes ≡ true = grind (arith, nat_tests) in rw (h, e) refl

-- The bytes of a stream, where its words say.

stored_data : (image : Image) (size w : ℕ) (bytes : List ℕ) → stored_at image size w ≡ Some bytes → bytes ≡ data_at image w 0 size
unfolding range_at
stored_data image zero w bytes e = (stored_none image w bytes e).1
stored_data image (suc n) w bytes e = at_data image (suc n) w bytes (stored_is image (suc n) w bytes (omega arith) e)

stream_data : (image : Image) (fields : RecordFields) (i : ℕ) (bytes : List ℕ) → stored_stream (store_of image) fields i ≡ Some bytes → bytes ≡ data_at image (address_of fields i) 0 (data_size_of fields i)
unfolding stored_stream store_of
stream_data image fields i bytes e = by_test (nat_le (data_size_of fields i) most_stream_bytes) e
  where
    none_some : None ≡ Some bytes → ⊥
    none_some h = cc

    by_test : (t : Bool) → (if t then stored_at image (data_size_of fields i) (address_of fields i) else None) ≡ Some bytes → bytes ≡ data_at image (address_of fields i) 0 (data_size_of fields i)
    by_test true h = stored_data image (data_size_of fields i) (address_of fields i) bytes h
    by_test false h = absurd (none_some h)

pub stream_is_bytes : (image : Image) (entry i : ℕ) (streams : List (List ℕ)) → i < 3 → streams_at image entry ≡ Some streams → stream i streams ≡ stream_bytes image entry i
unfolding streams_at fields_at stream_bytes
stream_is_bytes image entry i streams small e = by_stands (stands_as image blocks_256 entry) e
  where
    none_some : None ≡ Some streams → ⊥
    none_some h = cc

    by_stands : (t : Bool) → option_and_then (stored_streams (store_of image)) (if t then Some (fields_of (entry_at image entry)) else None) ≡ Some streams → stream i streams ≡ data_at image (address_word image entry i) 0 (size_word image entry i)
    by_stands true h = stream_data image (fields_of (entry_at image entry)) i (stream i streams) (streams_parts image (fields_of (entry_at image entry)) streams h i small)
    by_stands false h = absurd (none_some h)

pub bytes_long : (image : Image) (entry i : ℕ) → length (stream_bytes image entry i) ≡ size_word image entry i
unfolding stream_bytes
bytes_long image entry i = length-range (size_word image entry i) _ _

-- the bytes of a stream by the words that were read
pub bytes_at : (image : Image) (entry i size w : ℕ) → size ≡ size_word image entry i → w ≡ address_word image entry i → stream_bytes image entry i ≡ data_at image w 0 size
unfolding stream_bytes
bytes_at image entry i size w is word = λ j. data_at image (sym word j) 0 (sym is j)

-- where an answer is Ok for each observable folder, only an opaque folder gives corruption
pub damaged_never : {A : Type 0} (r : Result A Fault) (files : Option Image) → ((image : Image) → files ≡ Some image → IsOk r) → IfDamaged r (λ _. files ≡ None)
damaged_never (Ok a) files right = tt
damaged_never (Err Device) files right = tt
damaged_never (Err (Damaged d)) files right = untold_where files (λ image there. clash (right image there))

-- some of the bytes of data that is stored are there
pub keeps_inside : (files : BlockFiles) (size w at n : ℕ) → may_keep files size w ≡ true → at + n ≤ size → IsInside files w at n
unfolding may_keep stores kind_of
keeps_inside files size w at n keeps within =
    let q = and_parts (nat_le size most_stream_bytes) (stores files size w) keeps in
    let most = leb-true size most_stream_bytes q.0 in
    let p = and_parts (is_storage size w) ((kind_of w == external) || stands_among files w) q.1 in
    record {
      small = omega (arith, within, most);
      stands = λ blocky. right_of (kind_of w == external) (stands_among files w) (let t : (kind_of w == external) ≡ false = grind (arith, nat_tests) in t) p.1;
      room = λ blocky. by_size size refl p.0 blocky;
    }
  where
    right_of : (a b : Bool) → a ≡ false → (a || b) ≡ true → b ≡ true
    right_of a b none some = rw none at some

    by_size : (m : ℕ) → size ≡ m → is_storage m w ≡ true → kind_of w ≢ external → at + n ≤ byte_size w
    by_size zero is storage blocky = absurd (blocky (let e : w ≡ 0 = none_storage w storage in ap kind_of e))
    by_size (suc m) is storage blocky = let h = storage_room (suc m) w (omega arith) storage blocky in omega (arith, h, within, is)

-- the blocks of data that is stored are valid
pub keeps_stands : (files : BlockFiles) (size w addr : ℕ) → may_keep files size w ≡ true → addr ≡ w → kind_of addr ≢ external → stands_among files addr ≡ true
keeps_stands files size w addr keeps is = (keeps_inside files size addr 0 0 (subst (λ (v : ℕ). may_keep files size v ≡ true) (sym is) keeps) (omega arith)).stands

-- an address isn't 0
pub stored_some : (files : BlockFiles) (size w : ℕ) → 0 < size → stores files size w ≡ true → w ≢ 0
unfolding stores is_storage is_address is_initialized
stored_some files size w some e none =
    let z : (size == 0) ≡ false = grind (arith, nat_tests) in
    by_storage z (and_parts (is_storage size w) ((kind_of w == external) || stands_among files w) e).0
  where
    by_storage : (size == 0) ≡ false → (if size == 0 then w == 0 else (is_address w && (kind_of w == kind_for size) && ((kind_of w == external) || (block_count w == blocks_for size)))) ≡ true → ⊥
    by_storage z h =
        let k : (is_address w && (kind_of w == kind_for size) && ((kind_of w == external) || (block_count w == blocks_for size))) ≡ true = rw z at h in
        let address : is_address w ≡ true = (and_parts (is_address w) (kind_of w == kind_for size) (and_parts (is_address w && (kind_of w == kind_for size)) ((kind_of w == external) || (block_count w == blocks_for size)) k).0).0 in
        let q : w / 2147483648 ≡ 1 = eqb-true _ _ (and_parts _ _ address).0 in
        omega (arith, q, none)

-- nothing of a stream from its end on, or where there is no space
pub no_piece : (key : List ℕ) (at : ℕ) (old : List ℕ) → ◌≡◌ {A = ℕ} 0 (min (length old) (length key - at)) → IsPiece key at old old 0
no_piece key at old none = record { many = none; front = refl; rest = refl }

pub none_read : (image : Image) (entry i offset size at n : ℕ) (out : List ℕ) → size ≡ size_word image entry i → at ≡ min offset size → n ≡ min (size - at) (length out) → n ≡ 0 → IsPiece (stream_bytes image entry i) offset out out 0
none_read image entry i offset size at n out is start many none =
    let long = bytes_long image entry i in
    no_piece (stream_bytes image entry i) offset out (omega (arith, none, is, long, many, start))

-- a piece of a stream
pub some_read : (image : Image) (entry i offset size w at n m : ℕ) (bytes out : List ℕ) → size ≡ size_word image entry i → w ≡ address_word image entry i → at ≡ min offset size → n ≡ min (size - at) (length out) → m ≡ n → bytes ≡ data_at image w at m → IsPiece (stream_bytes image entry i) offset out (bytes ++ drop n out) n
some_read image entry i offset size w at n m bytes out is word start many same read = piece_of
  where
    piece_of : IsPiece (stream_bytes image entry i) offset out (bytes ++ drop n out) n
    piece_of = piece_is (stream_bytes image entry i) bytes out (byte image (data_file w)) (data_start w + 0) size offset at n here start many there
      where
        here : stream_bytes image entry i ≡ range_at (byte image (data_file w)) (data_start w + 0) size
        here = bytes_at image entry i size w is word

        there : bytes ≡ range_at (byte image (data_file w)) (data_start w + 0 + at) n
        there = let order : data_start w + at ≡ data_start w + 0 + at = omega arith in read ∙ (λ j. range_at (byte image (data_file w)) (order j) (same j))
