-- What a folder holds when a new entry is written.
use Rattle.std.proofs.Common.{◌≡◌, ◌≢◌, ◌⊎◌, inl, inr, ⊎_elim, ℕ, ◌+◌, ◌*◌, ◌/◌, ◌^◌, ◌<◌, ◌≤◌, Bool, true, false, ◌&&◌, if◌then◌else◌, List, [], ◌∷◌, ◌++◌, length, length-take, length-append, take, drop, Option, None, Some, unwrap_or, refl, sym, ◌∙◌, ap, subst, arith, add-zero}
use Rattle.std.specs.Prelude.{◌==◌, nat_le, nat_lt}
use Rattle.std.proofs.Math.Seq.{drop-append_seam}
use Rattle.std.proofs.lemmas.List.{take_all, take-append-le}
use Rattle.std.proofs.lemmas.Bool.{and_parts, cases_Bool, cases_eq, eqb-true}
use Rattle.std.proofs.lemmas.Bool.Decides.{nat_tests}
use Rattle.std.specs.Option.{ForSome}
use Rattle.spec_image.specs.Bytes.{content, range_at, spliced}
use Rattle.spec_image.specs.Image.{File, Block, Image, HasRange, byte, bytes_of, same_file}
use Rattle.spec_image.specs.Steps.{TrailStep, after, words, written_over}
use Rattle.spec_image.specs.Footprint.{Footprint, SameOutside, range}
use Rattle.spec_image.specs.Told.{Told, Applies}
use Rattle.spec_image.proofs.Cuts.{after-append, after-words}
use Rattle.spec_image.proofs.Footprints.{words_inside}
use Rattle.spec_image.proofs.Images.{bytes-written, with_file-same}
use Rattle.spec_image.proofs.Runs.{some_inj, told_whole, until_last}
use Rattle.spec_image.proofs.Splices.{length-spliced, length-zeros, spliced-is}
use Rattle.spec_image.proofs.Words.{range-is, same-range}
use Rattle.spec_format.specs.Address.{is_address, is_initialized, kind_of, block_count, block_place, block_size, blocks_256, external, file_selector, first_block, place, rankings, byte_size}
use Rattle.spec_format.specs.Storage.{kind_for}
use Rattle.spec_format.specs.Standing.{is_linked_as, stands_as_blocks}
use Rattle.spec_format.specs.BlockFiles.{kind_among}
use Rattle.blk_disk.specs.declared.tables.BlockFiles.{BlockFiles}
use Rattle.blk_disk.specs.Tables.{Agrees, files_of, stands_among}
use Rattle.spec_format.specs.Sealed.{record_size}
use Rattle.spec_format.proofs.SpareHeaders.{other_file}
use Rattle.blk_disk.proofs.Ranges.{stands_range}
use Rattle.spec_format.proofs.SealedRecords.{entry_bytes as entry_size_is, entry_seal, node_bytes as node_size_is, node_seal, record_inside}
use Rattle.blk_disk.proofs.SealedReads.{read_checks}
use Rattle.blk_entry.specs.declared.writing.NewEntry.{NewEntry}
use Rattle.blk_entry.specs.Keys.{IsInside, IsInFile, data_file, data_start, may_hold, stores}
use Rattle.blk_entry.specs.Steps.{data_steps, ended_steps}
use Rattle.blk_entry.specs.Writing.{AreWords, FitsKey, HoldsLongKey, IsLongPlace, IsWritten, LiesApart, ShareNoBlock, address_of_key, before_key, empty_key_place, entry_bytes, entry_steps, key_steps, longest_of, new_node, new_record, node_bytes, node_steps, record_steps}
use Rattle.blk_entry.proofs.KeyPlaces.{data_of_blocks, drop-range, storage_parts, take-range}
use Rattle.blk_entry.proofs.NewPlaces.{file_of_blocks, file_of_external, key_is_inside, key_is_there, start_of_blocks, start_of_external}
use Rattle.blk_entry.proofs.NewRecords.{entry_bytes_check, entry_of_bytes, node_bytes_check, node_of_bytes}
use Rattle.blk_entry.proofs.NewSteps.{node_length, record_length}
use Rattle.blk_entry.proofs.Windows.{entry_room, entry_room_least, not_external}

-- Bytes that are written.

dropped : (p : ℕ) (old rest : List ℕ) → p ≤ length old → drop p (take p old ++ rest) ≡ rest
dropped p old rest fits = let size : p ≡ length (take p old) = omega (arith, fits, length-take p old) in ap (λ (n : ℕ). drop n (take p old ++ rest)) size ∙ drop-append_seam (take p old) rest

there_after : (f : File) (p : ℕ) (bs : List ℕ) (image : Image) → HasRange image f p (length bs) → range_at (byte (after (words f p bs) image) f) p (length bs) ≡ bs
there_after f p bs image fits =
    let old : List ℕ = bytes_of image f in
    let file : bytes_of (after (words f p bs) image) f ≡ spliced p bs old =
    ap (λ (i : Image). bytes_of i f) (after-words f p bs image) ∙ ap (λ (o : Option (List ℕ)). unwrap_or o []) (with_file-same image f (written_over p bs (image f))) ∙ bytes-written (image f) p bs in
    ap (λ (l : List ℕ). range_at (content l) p (length bs)) file
    ∙ range-is (length bs) p (spliced p bs old) (omega (arith, fits, length-spliced p bs old))
    ∙ ap (λ (l : List ℕ). take (length bs) (drop p l)) (spliced-is p bs old fits)
    ∙ ap (take (length bs)) (dropped p old (bs ++ drop (p + length bs) old) (omega (arith, fits)))
    ∙ take-append-le (length bs) bs (drop (p + length bs) old) (omega arith)
    ∙ take_all (length bs) bs (omega arith)

outside_after : (f : File) (p : ℕ) (bs : List ℕ) (image : Image) → SameOutside (range f p (length bs)) image (after (words f p bs) image)
outside_after f p bs image = until_last (SameOutside (range f p (length bs)) image) (SameOutside (range f p (length bs)) image) (words f p bs) image (words_inside f p bs image)

kept_range : (F : Footprint) (a b : Image) (f : File) (p n : ℕ) → SameOutside F a b → ((k : ℕ) → p ≤ k → k < p + n → F.bytes f k ≡ false) → range_at (byte b f) p n ≡ range_at (byte a f) p n
kept_range F a b f p n same apart = same-range n p (byte b f) (byte a f) (λ k low high. same.bytes f k (apart k low high))

-- two parts of a range
parts : (f : ℕ → ℕ) (i : ℕ) (xs ys : List ℕ) → range_at f i (length (xs ++ ys)) ≡ xs ++ ys → (range_at f i (length xs) ≡ xs) × (range_at f (i + length xs) (length ys) ≡ ys)
parts f i xs ys is =
    let both : range_at f i (length xs + length ys) ≡ xs ++ ys = ap (range_at f i) (sym (length-append xs ys)) ∙ is in (
      sym (take-range (length xs) (length xs + length ys) i f (omega arith)) ∙ ap (take (length xs)) both ∙ take-append-le (length xs) xs ys (omega arith) ∙ take_all (length xs) xs (omega arith),
      sym (drop-range (length xs) (length ys) i f) ∙ ap (drop (length xs)) both ∙ drop-append_seam xs ys,
    )

-- a place that a range doesn't touch
apart_file : (f g : File) (p n k : ℕ) → same_file f g ≡ false → (range f p n).bytes g k ≡ false
apart_file f g p n k e = rw e refl

apart_place : (f g : File) (p n k : ℕ) → (k < p) ⊎ (p + n ≤ k) → (range f p n).bytes g k ≡ false
apart_place f g p n k out = by_test (same_file f g)
  where
    by_test : (t : Bool) → (t && (nat_le p k && nat_lt k (p + n))) ≡ false
    by_test true = grind (arith, nat_tests)
    by_test false = refl

-- Files of two kinds are two.

linked_kind : (files : BlockFiles) (w : ℕ) → stands_among files w ≡ true → kind_among (files_of files) (file_selector w) ≡ Some (kind_of w)
unfolding stands_as_blocks
linked_kind files w st = some_kind (kind_among (files_of files) (file_selector w)) (and_parts _ _ (and_parts _ _ st).0).0
  where
    clash : false ≡ true → ⊥
    clash h = cc

    some_kind : (o : Option ℕ) → is_linked_as o (kind_of w) ≡ true → o ≡ Some (kind_of w)
    some_kind None e = absurd (clash e)
    some_kind (Some k) e = ap Some (eqb-true k (kind_of w) e)

pub same_kind : (files : BlockFiles) (u w : ℕ) → stands_among files u ≡ true → stands_among files w ≡ true → file_selector u ≡ file_selector w → kind_of u ≡ kind_of w
same_kind files u w su sw e = some_inj (sym (linked_kind files u su) ∙ ap (kind_among (files_of files)) e ∙ linked_kind files w sw)

two_files : (files : BlockFiles) (u w : ℕ) → stands_among files u ≡ true → stands_among files w ≡ true → kind_of u ≢ kind_of w → same_file (Block (file_selector u)) (Block (file_selector w)) ≡ false
two_files files u w su sw differ = other_file (file_selector u) (file_selector w) (λ e. differ (same_kind files u w su sw (sym e)))

-- two addresses of two kinds share no block
pub apart_by_kind : (files : BlockFiles) (u w : ℕ) → stands_among files u ≡ true → stands_among files w ≡ true → kind_of u ≢ kind_of w → ShareNoBlock u w
apart_by_kind files u w su sw differ e = absurd (differ (same_kind files u w su sw e))

-- no data is stored in nodes
no_node : (size : ℕ) → kind_for size ≢ rankings
unfolding kind_for
no_node size e = by_tests (nat_le size 1023) (nat_le size 4095) (nat_le size 16384) e
  where
    by_tests : (a b c : Bool) → ◌≡◌ {A = ℕ} (if a then 2 else if b then 3 else if c then 4 else 0) 1 → ⊥
    by_tests true b c e = cc
    by_tests false true c e = cc
    by_tests false false true e = cc
    by_tests false false false e = cc

address_fits : (w : ℕ) → is_address w ≡ true → w < 2 ^ 32
unfolding is_address is_initialized
address_fits w e = let q : w / 2147483648 ≡ 1 = eqb-true _ _ (and_parts _ _ e).0 in omega (arith, q)

place_of_entry : (w : ℕ) → kind_of w ≡ blocks_256 → place w ≡ 8192 + first_block w * 256
unfolding place block_place block_size
place_of_entry w kind = rw kind refl

module _ (files : BlockFiles) (new : NewEntry) (key : List ℕ) (moment : ℕ) (fits : FitsKey files new key) where
  key_few : length key ≤ 32796
  key_few = by_child new.child fits.most
    where
      by_child : (b : Bool) → length key ≤ longest_of b → length key ≤ 32796
      by_child true less = less
      by_child false less = omega (arith, less)

  -- what is known of a long key
  pub long_storage : (w : ℕ) → may_hold files (length key) w ≡ true → (is_address w ≡ true) × (kind_of w ≢ rankings)
  unfolding stores
  long_storage w holds =
      let p = storage_parts (length key + 1) w (omega arith) (and_parts _ _ holds).0 in (p.0, λ e. no_node (length key + 1) (sym p.1 ∙ e))

  long_small : unwrap_or new.long_key 0 < 2 ^ 32
  long_small = by_place new.long_key fits.long
    where
      by_place : (o : Option ℕ) → IsLongPlace files (length key) o → unwrap_or o 0 < 2 ^ 32
      by_place None is = omega arith
      by_place (Some w) is = address_fits w (long_storage w is.1).0

  -- the node is in another file than the record, and than the key
  node_off_record : same_file (Block (file_selector new.node)) (Block (file_selector new.entry)) ≡ false
  node_off_record = two_files files new.node new.entry fits.node_stands fits.entry_stands (λ e. let z : ◌≡◌ {A = ℕ} 1 2 = sym fits.node_kind ∙ e ∙ fits.entry_kind in cc)

  node_off_key : same_file (Block (file_selector new.node)) (data_file (address_of_key new.entry new.long_key)) ≡ false
  node_off_key = by_place new.long_key fits.long (key_is_inside files new key fits)
    where
      by_place : (o : Option ℕ) → IsLongPlace files (length key) o → IsInside files (address_of_key new.entry o) (before_key o) (length key + 1) → same_file (Block (file_selector new.node)) (data_file (address_of_key new.entry o)) ≡ false
      by_place None is inside = rw (file_of_blocks new.entry (not_external new.entry fits.entry_kind)) node_off_record
      by_place (Some w) is inside =
          ⊎_elim
          (λ (e : (kind_of w == external) ≡ true). let x : kind_of w ≡ external = eqb-true (kind_of w) external e in rw (file_of_external w x) refl)
          (λ (e : (kind_of w == external) ≡ false).
          let block_kind : kind_of w ≢ external = (λ same. let z : (kind_of w == external) ≡ true = grind (arith, nat_tests) in let y : true ≡ false = sym z ∙ e in cc) in
          rw (file_of_blocks w block_kind) (two_files files new.node w fits.node_stands (inside.stands block_kind) (λ same. (long_storage w is.1).1 (sym same ∙ fits.node_kind))))
          (cases_Bool (kind_of w == external))

  -- the record is apart from the key
  record_off_key : LiesApart new.entry new.long_key → (k : ℕ) → data_start (address_of_key new.entry new.long_key) + before_key new.long_key ≤ k → k < data_start (address_of_key new.entry new.long_key) + before_key new.long_key + (length key + 1)
      → (range (Block (file_selector new.entry)) (place new.entry) (length (entry_bytes (new_record new key moment) ++ empty_key_place new.long_key))).bytes (data_file (address_of_key new.entry new.long_key)) k ≡ false
  record_off_key lies = by_place new.long_key fits.long lies (key_is_inside files new key fits)
    where
      B : File
      B = Block (file_selector new.entry)

      E : List ℕ
      E = entry_bytes (new_record new key moment)

      by_place : (o : Option ℕ) → IsLongPlace files (length key) o → LiesApart new.entry o → IsInside files (address_of_key new.entry o) (before_key o) (length key + 1)
          → (k : ℕ) → data_start (address_of_key new.entry o) + before_key o ≤ k → k < data_start (address_of_key new.entry o) + before_key o + (length key + 1)
          → (range B (place new.entry) (length (E ++ empty_key_place o))).bytes (data_file (address_of_key new.entry o)) k ≡ false
      by_place None is apart inside k low high =
          apart_place B (data_file new.entry) (place new.entry) (length (E ++ [])) k
          (inr (omega (arith, low, start_of_blocks new.entry (not_external new.entry fits.entry_kind), length-append E [], record_length new key moment)))
      by_place (Some w) is apart inside k low high =
          ⊎_elim
          (λ (e : (kind_of w == external) ≡ true). let x : kind_of w ≡ external = eqb-true (kind_of w) external e in apart_file B (data_file w) (place new.entry) (length (E ++ empty_key_place (Some w))) k (rw (file_of_external w x) refl))
          (λ (e : (kind_of w == external) ≡ false).
          let block_kind : kind_of w ≢ external = (λ same. let z : (kind_of w == external) ≡ true = grind (arith, nat_tests) in let y : true ≡ false = sym z ∙ e in cc) in
          in_blocks block_kind) (cases_Bool (kind_of w == external))
        where
          in_blocks : kind_of w ≢ external → (range B (place new.entry) (length (E ++ empty_key_place (Some w)))).bytes (data_file w) k ≡ false
          in_blocks block_kind =
              ⊎_elim
              (λ (same : file_selector new.entry ≡ file_selector w).
              let kind : kind_of w ≡ blocks_256 = sym (same_kind files new.entry w fits.entry_stands (inside.stands block_kind) same) ∙ fits.entry_kind in
              let place_e = place_of_entry new.entry fits.entry_kind in
              let place_w = place_of_entry w kind in
              let room_e = entry_room new.entry fits.entry_kind in
              let room_w = entry_room w kind in
              let least = entry_room_least new.entry fits.entry_kind in
              let start = start_of_blocks w block_kind in
              let enough = inside.room block_kind in
              let most : length (E ++ empty_key_place (Some w)) ≤ 256 = omega (arith, length-append E (empty_key_place (Some w)), record_length new key moment, length-zeros 160) in
              apart_place B (data_file w) (place new.entry) (length (E ++ empty_key_place (Some w))) k
              (⊎_elim
              (λ (first : first_block new.entry + block_count new.entry ≤ first_block w). inr (omega (arith, first, low, place_e, place_w, room_e, least, start, most)))
              (λ (last : first_block w + block_count w ≤ first_block new.entry). inl (omega (arith, last, high, place_e, place_w, room_w, start, enough)))
              (apart block_kind same)))
              (λ (differ : file_selector new.entry ≢ file_selector w).
              apart_file B (data_file w) (place new.entry) (length (E ++ empty_key_place (Some w))) k (rw (file_of_blocks w block_kind) (other_file (file_selector new.entry) (file_selector w) (λ e. differ (sym e)))))
              (cases_eq (file_selector new.entry) (file_selector w))

  module _ (from : Image) (agrees : Agrees files from) (has : HoldsLongKey new.long_key (length key) from) (apart : LiesApart new.entry new.long_key) where
    abbrev A : File
    A = data_file (address_of_key new.entry new.long_key)

    abbrev a : ℕ
    a = data_start (address_of_key new.entry new.long_key) + before_key new.long_key

    abbrev z : ℕ
    z = data_start (address_of_key new.entry new.long_key) + (before_key new.long_key + length key)

    abbrev B : File
    B = Block (file_selector new.entry)

    abbrev R : List ℕ
    R = entry_bytes (new_record new key moment) ++ empty_key_place new.long_key

    abbrev C : File
    C = Block (file_selector new.node)

    abbrev N : List ℕ
    N = node_bytes (new_node new moment)

    -- the images after the key, the zero byte, the record and the node
    abbrev i1 : Image
    i1 = after (words A a key) from

    abbrev i2 : Image
    i2 = after (words A z (0 ∷ [])) i1

    abbrev i3 : Image
    i3 = after (words B (place new.entry) R) i2

    abbrev i4 : Image
    i4 = after (words C (place new.node) N) i3

    key_room : HasRange from A a (length key + 1)
    key_room = by_place (address_of_key new.entry new.long_key) (before_key new.long_key) (key_is_inside files new key fits) (key_is_there files new key from fits has)
      where
        by_place : (w before : ℕ) → IsInside files w before (length key + 1) → IsInFile w before (length key + 1) from → HasRange from (data_file w) (data_start w + before) (length key + 1)
        by_place w before inside there =
            ⊎_elim
            (λ (e : (kind_of w == external) ≡ true). let x : kind_of w ≡ external = eqb-true (kind_of w) external e in rw (file_of_external w x, start_of_external w x) (let h = there x in omega (arith, h)))
            (λ (e : (kind_of w == external) ≡ false).
            let block_kind : kind_of w ≢ external = (λ same. let y : (kind_of w == external) ≡ true = grind (arith, nat_tests) in let q : true ≡ false = sym y ∙ e in cc) in
            rw (file_of_blocks w block_kind, start_of_blocks w block_kind) (stands_range files from w before (length key + 1) agrees (inside.stands block_kind) (inside.room block_kind)))
            (cases_Bool (kind_of w == external))

    same1 : SameOutside (range A a (length key)) from i1
    same1 = outside_after A a key from

    same2 : SameOutside (range A z 1) i1 i2
    same2 = outside_after A z (0 ∷ []) i1

    same3 : SameOutside (range B (place new.entry) (length R)) i2 i3
    same3 = outside_after B (place new.entry) R i2

    same4 : SameOutside (range C (place new.node) (length N)) i3 i4
    same4 = outside_after C (place new.node) N i3

    key_first : range_at (byte i1 A) a (length key) ≡ key
    key_first = there_after A a key from (omega (arith, key_room))

    zero_first : range_at (byte i2 A) z 1 ≡ 0 ∷ []
    zero_first = there_after A z (0 ∷ []) i1 (let same = same1.lengths A refl in omega (arith, key_room, same))

    key_last : range_at (byte i4 A) a (length key) ≡ key
    key_last =
        kept_range (range C (place new.node) (length N)) i3 i4 A a (length key) same4 (λ k low high. apart_file C A (place new.node) (length N) k node_off_key)
        ∙ kept_range (range B (place new.entry) (length R)) i2 i3 A a (length key) same3 (λ k low high. record_off_key apart k low (omega (arith, high)))
        ∙ kept_range (range A z 1) i1 i2 A a (length key) same2 (λ k low high. apart_place A A z 1 k (inl (omega (arith, high))))
        ∙ key_first

    zero_last : range_at (byte i4 A) z 1 ≡ 0 ∷ []
    zero_last =
        kept_range (range C (place new.node) (length N)) i3 i4 A z 1 same4 (λ k low high. apart_file C A (place new.node) (length N) k node_off_key)
        ∙ kept_range (range B (place new.entry) (length R)) i2 i3 A z 1 same3 (λ k low high. record_off_key apart k (omega (arith, low)) (omega (arith, high)))
        ∙ zero_first

    record_last : range_at (byte i4 B) (place new.entry) (length R) ≡ R
    record_last =
        kept_range (range C (place new.node) (length N)) i3 i4 B (place new.entry) (length R) same4 (λ k low high. apart_file C B (place new.node) (length N) k node_off_record)
        ∙ there_after B (place new.entry) R i2
        (let one = same1.lengths B refl in let two = same2.lengths B refl in let room_there = stands_range files from new.entry 0 (length R) agrees fits.entry_stands (record_room new.long_key) in omega (arith, one, two, room_there))
      where
        record_room : (o : Option ℕ) → 0 + length (entry_bytes (new_record new key moment) ++ empty_key_place o) ≤ byte_size new.entry
        record_room None = let least = entry_room_least new.entry fits.entry_kind in omega (arith, least, length-append (entry_bytes (new_record new key moment)) [], record_length new key moment)
        record_room (Some w) = let least = entry_room_least new.entry fits.entry_kind in omega (arith, least, length-append (entry_bytes (new_record new key moment)) (empty_key_place (Some w)), record_length new key moment, length-zeros 160)

    node_last : range_at (byte i4 C) (place new.node) 36 ≡ N
    node_last =
        let long : length N ≡ 36 = node_length new moment in
        let size : record_size new.node ≡ 36 = node_size_is new.node fits.node_kind in
        let within = record_inside new.node (inl fits.node_kind) in
        ap (range_at (byte i4 C) (place new.node)) (sym long)
        ∙ there_after C (place new.node) N i3
        (let one = same1.lengths C refl in let two = same2.lengths C refl in let three = same3.lengths C refl in let room_there = stands_range files from new.node 0 36 agrees fits.node_stands (omega (arith, size, within)) in omega (arith, one, two, three, room_there, long))

    record_parts : (range_at (byte i4 B) (place new.entry) 96 ≡ entry_bytes (new_record new key moment)) × (range_at (byte i4 B) (place new.entry + 96) (length (empty_key_place new.long_key)) ≡ empty_key_place new.long_key)
    record_parts =
        let p = parts (byte i4 B) (place new.entry) (entry_bytes (new_record new key moment)) (empty_key_place new.long_key) record_last in
        let long = record_length new key moment in (
          ap (range_at (byte i4 B) (place new.entry)) (sym long) ∙ p.0,
          ap (λ (n : ℕ). range_at (byte i4 B) (place new.entry + n) (length (empty_key_place new.long_key))) (sym long) ∙ p.1,
        )

    module _ (are : AreWords new) (small : moment < 2 ^ 64) where
      few : length key < 2 ^ 32
      few = omega (arith, key_few)

      written_here : IsWritten new key moment i4
      written_here =
          let block_kind = not_external new.entry fits.entry_kind in
          let bytes = record_parts.0 in
          record {
            entry = entry_of_bytes new key moment are small few long_small (byte i4 B) (place new.entry) bytes;
            node = node_of_bytes new key moment are small few long_small (byte i4 C) (place new.node) node_last;
            key_there = key_last;
            zero_behind = zero_last;
            empty_place = data_of_blocks i4 new.entry 96 (length (empty_key_place new.long_key)) block_kind ∙ record_parts.1;
            entry_checks =
                read_checks i4 new.entry 92 96 (range_at (byte i4 B) (place new.entry + 0) 96) (sym (entry_seal new.entry fits.entry_kind)) (sym (entry_size_is new.entry fits.entry_kind)) refl
                (entry_bytes_check new key moment are small few long_small (range_at (byte i4 B) (place new.entry + 0) 96) (ap (λ (i : ℕ). range_at (byte i4 B) i 96) (add-zero (place new.entry)) ∙ bytes));
            node_checks =
                read_checks i4 new.node 32 36 (range_at (byte i4 C) (place new.node + 0) 36) (sym (node_seal new.node fits.node_kind)) (sym (node_size_is new.node fits.node_kind)) refl
                (node_bytes_check new key moment are small few long_small (range_at (byte i4 C) (place new.node + 0) 36) (ap (λ (i : ℕ). range_at (byte i4 C) i 36) (add-zero (place new.node)) ∙ node_last));
          }

      written_after : IsWritten new key moment (after (entry_steps new key moment) from)
      unfolding entry_steps key_steps ended_steps data_steps record_steps node_steps
      written_after =
          let one : List TrailStep = words A a key in
          let two : List TrailStep = words A z (0 ∷ []) in
          let three : List TrailStep = words B (place new.entry) R in
          let four : List TrailStep = words C (place new.node) N in
          let last : after ((one ++ two) ++ (three ++ four)) from ≡ i4 =
          after-append (one ++ two) (three ++ four) from ∙ after-append three four (after (one ++ two) from) ∙ ap (λ (i : Image). after four (after three i)) (after-append one two from) in
          subst (IsWritten new key moment) (sym last) written_here

  -- where the folder is observable
  module _ (b c : Told) (are : AreWords new) (small : moment < 2 ^ 64) (agrees : ForSome b.files (Agrees files)) (has : ForSome b.files (HoldsLongKey new.long_key (length key))) (apart : ForSome b.files (λ _. LiesApart new.entry new.long_key)) (grown : Applies b c (entry_steps new key moment)) where
    pub written_there : ForSome c.files (IsWritten new key moment)
    written_there = told_whole (IsWritten new key moment) grown (λ from there. written_after from (agrees from there) (has from there) (apart from there) are small)
